-- Marks on rows: one that is set, and all others.
use Rattle.std.proofs.Common.{
  ◌≡◌,
  ◌≢◌,
  ◌⊎◌,
  ℕ,
  zero,
  suc,
  ◌+◌,
  ◌*◌,
  ◌<◌,
  ◌≤◌,
  List,
  [],
  ◌∷◌,
  ◌++◌,
  inl,
  inr,
  length,
  take,
  set,
  slice_index,
  eqb,
  eq-eqb,
  ne_eqb,
}
use Rattle.std.proofs.Common.{get_or-set_same, get_or-set_other, append_assoc, suc-mul, refl, sym, ap, ◌∙◌, arith}
use Rattle.std.proofs.lemmas.Bool.{cases_lt}
use Rattle.std.proofs.lemmas.List.{take_more}
use Rattle.std.proofs.Math.Nat.{mul-le-mul_right}
use mathlib.Core.Bool.{cond}
use Rattle.std.specs.Prelude.{Bool, true, false}
use Rattle.pin_rule.specs.declared.sizes.Sizes.{Sizes}
use Rattle.pin_rule.specs.Lists.{is_in}
use Rattle.pin_rule.specs.Making.{rows_of}
use Rattle.version_store.specs.Marks.{is_marked, AreOther}
use Rattle.version_store.proofs.NotedPlaces.{cleared, cleared_here, cleared_else}

before : (w p q r : ℕ) → p < q → r < w → p * w + r < q * w
before w p q r h k = let m : suc p * w ≤ q * w = mul-le-mul_right w h in let d : suc p * w ≡ p * w + w = suc-mul p w in omega arith

-- rows of two pages, or two rows of one, have marks apart
apart : (w p q r s : ℕ) → r < w → s < w → (p ≢ q) ⊎ (r ≢ s) → p * w + r ≢ q * w + s
apart w p q r s a b ne e = elim (cases_lt p q) [
  | inl lt ↦ let h = before w p q r lt a in omega arith
  | inr ge ↦ elim (cases_lt q p) [
    | inl lt ↦ let h = before w q p s lt b in omega arith
    | inr le ↦ let same : p ≡ q = omega arith in let m : p * w ≡ q * w = ap (λ (n : ℕ). n * w) same in
        elim ne [ inl n ↦ n same | inr n ↦ n (omega arith) ]
  ]
]

module _ (z : Sizes) (marks : List Bool) (room : length marks ≡ z.versions * z.rows) (page row : ℕ) (page_in : page < z.versions) (row_in : row < z.rows) where
  pub inside : page * z.rows + row < length marks
  inside = let h = before z.rows page z.versions row page_in row_in in omega arith

  pub set_here : (b : Bool) → is_marked z (set marks (page * z.rows + row) b) page row ≡ b
  set_here b = get_or-set_same marks (page * z.rows + row) b false inside

  pub set_else : (b : Bool) (p r : ℕ) → r < z.rows → AreOther p r page row → is_marked z (set marks (page * z.rows + row) b) p r ≡ is_marked z marks p r
  set_else b p r r_in other = get_or-set_other marks (page * z.rows + row) (p * z.rows + r) b false (apart z.rows p page r row r_in row_in other)

-- the marks of a page are cleared
module _ (z : Sizes) (marks : List Bool) (room : length marks ≡ z.versions * z.rows) (page : ℕ) (page_in : page < z.versions) where
  pub page_room : page * z.rows + z.rows ≤ length marks
  page_room = let m : suc page * z.rows ≤ z.versions * z.rows = mul-le-mul_right z.rows page_in in let d = suc-mul page z.rows in omega arith

  pub page_cleared : (row : ℕ) → row < z.rows → is_marked z (cleared marks (page * z.rows) z.rows page_room) page row ≡ false
  page_cleared row lt = cleared_here marks (page * z.rows) z.rows page_room row lt

  pub page_else : (p row : ℕ) → row < z.rows → p ≢ page → is_marked z (cleared marks (page * z.rows) z.rows page_room) p row ≡ is_marked z marks p row
  page_else p row lt ne = cleared_else marks (page * z.rows) z.rows page_room (p * z.rows + row) (elim (cases_lt p page) [
    | inl below ↦ inl (before z.rows p page row below lt)
    | inr ge ↦ inr (let m : suc page * z.rows ≤ p * z.rows = mul-le-mul_right z.rows (let k : suc page ≤ p = omega arith in k) in
        let d = suc-mul page z.rows in omega arith)
  ])

-- The rows that words of places name, one word more

more_none : (ns : List ℕ) (n : ℕ) → n ≡ 0 → rows_of (ns ++ n ∷ []) ≡ rows_of ns
more_none [] n e = ap (λ (k : ℕ). rows_of (k ∷ [])) e
more_none (zero ∷ ns) n e = more_none ns n e
more_none (suc m ∷ ns) n e = ap (λ (l : List ℕ). m ∷ l) (more_none ns n e)

more_row : (ns : List ℕ) (n row : ℕ) → n ≡ suc row → rows_of (ns ++ n ∷ []) ≡ rows_of ns ++ row ∷ []
more_row [] n row e = ap (λ (k : ℕ). rows_of (k ∷ [])) e
more_row (zero ∷ ns) n row e = more_row ns n row e
more_row (suc m ∷ ns) n row e = ap (λ (l : List ℕ). m ∷ l) (more_row ns n row e)

either_true : (b : Bool) → cond b true true ≡ true
either_true true = refl
either_true false = refl

in_end : (ns : List ℕ) (n : ℕ) → is_in n (ns ++ n ∷ []) ≡ true
in_end [] n = ap (λ (b : Bool). cond b true false) (eq-eqb n n refl)
in_end (m ∷ ns) n = ap (λ (b : Bool). cond (eqb n m) true b) (in_end ns n) ∙ either_true (eqb n m)

in_before : (ns : List ℕ) (n k : ℕ) → n ≢ k → is_in n (ns ++ k ∷ []) ≡ is_in n ns
in_before [] n k ne = ap (λ (b : Bool). cond b true false) (ne_eqb n k ne)
in_before (m ∷ ns) n k ne = ap (λ (b : Bool). cond (eqb n m) true b) (in_before ns n k ne)

module _ (before part : List ℕ) (i : ℕ) (lt : i < length part) where
  abbrev so_far : List ℕ
  so_far = before ++ take i part

  next : before ++ take (i + 1) part ≡ so_far ++ slice_index part i ∷ []
  next = ap (λ (l : List ℕ). before ++ l) (take_more part i 0 lt) ∙ sym (append_assoc before (take i part) (slice_index part i ∷ []))

  pub names_none : (row : ℕ) → slice_index part i ≡ 0 → is_in row (rows_of (before ++ take (i + 1) part)) ≡ is_in row (rows_of (before ++ take i part))
  names_none row e = ap (λ (l : List ℕ). is_in row (rows_of l)) next ∙ ap (is_in row) (more_none so_far (slice_index part i) e)

  pub names_it : (row : ℕ) → slice_index part i ≡ suc row → is_in row (rows_of (before ++ take (i + 1) part)) ≡ true
  names_it row e = ap (λ (l : List ℕ). is_in row (rows_of l)) next ∙ ap (is_in row) (more_row so_far (slice_index part i) row e)
      ∙ in_end (rows_of so_far) row

  pub names_other : (row other : ℕ) → slice_index part i ≡ suc row → other ≢ row
      → is_in other (rows_of (before ++ take (i + 1) part)) ≡ is_in other (rows_of (before ++ take i part))
  names_other row other e ne = ap (λ (l : List ℕ). is_in other (rows_of l)) next
      ∙ ap (is_in other) (more_row so_far (slice_index part i) row e) ∙ in_before (rows_of so_far) other row ne
