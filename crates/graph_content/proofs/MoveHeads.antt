-- The heads of moves among the words of a payload.
use Rattle.std.proofs.Common.{◌≡◌, ℕ, zero, suc, ◌+◌, ◌-◌, ◌<◌, ◌≤◌, ◌==◌, ◌⊎◌, ◌↔◌, inl, inr, Bool, true, false, List, [], ◌∷◌, ◌++◌, length, map, get_or}
use Rattle.std.proofs.Common.{drop, take, refl, sym, ◌∙◌, ap, subst, arith, append_assoc, length-append, Contains, IsTrue}
use Rattle.std.specs.List.{AllByRecursion, flat_map}
use Rattle.std.specs.List.Sorted.{IsStrictlySortedBy}
use Rattle.std.specs.declared.cmp.Ordering.TheVariants.{Less}
use Rattle.std.proofs.lemmas.Bool.{eqb-true, eq-eqb, cases_lt}
use Rattle.std.proofs.lemmas.List.{length-map, take_rest}
use Rattle.forest.specs.declared.symbols.SymbolId.{SymbolId}
use Rattle.forest.specs.declared.rules.RuleId.{RuleId}
use Rattle.edit_log.proofs.PlainLists.{each_contained, nat_cmp_less}
use Rattle.edit_log.proofs.DefinitionOrder.{contains_first, contains_later, contains_cases, contains_none}
use Rattle.item_sets.specs.declared.item.Item.{Item}
use Rattle.item_sets.specs.declared.expansion.Expansion.{Expansion}
use Rattle.item_sets.specs.Orders.{move_cmp}
use Rattle.row_coding.specs.Words.{item_word, move_words, item_payload_words}

abbrev pub Move : Type 0
Move = SymbolId × List Item

-- the words of moves, and of reductions behind them
abbrev pub words_of : List Move → List RuleId → List ℕ
words_of moves reductions = flat_map move_words moves ++ map (λ (rule : RuleId). rule.0) reductions

-- the rest of the words, past so many moves, none of which is on the symbol with the number wanted
pub record IsRest (e : Expansion) (rest : List ℕ) (done wanted : ℕ) : Type 0 where
  pub more : List Move
  pub words : rest ≡ words_of more e.reductions
  pub count : done + length more ≡ length e.moves
  pub ascending : IsStrictlySortedBy move_cmp more
  pub within : (x : SymbolId) (upper : List Item) → Contains more (x, upper) → Contains e.moves (x, upper)
  pub wanted_left : (x : SymbolId) (upper : List Item) → x.0 ≡ wanted → Contains e.moves (x, upper) → Contains more (x, upper)

-- the first of the rest
pub record IsHead (e : Expansion) (rest : List ℕ) (done wanted : ℕ) : Type 0 where
  pub x : SymbolId
  pub upper : List Item
  pub others : List Move
  pub words : rest ≡ x.0 ∷ length upper ∷ (map item_word upper ++ words_of others e.reductions)
  pub count : done + 1 + length others ≡ length e.moves
  pub ascending : IsStrictlySortedBy move_cmp ((x, upper) ∷ others)
  pub within : (y : SymbolId) (other : List Item) → Contains ((x, upper) ∷ others) (y, other) → Contains e.moves (y, other)
  pub wanted_left : (y : SymbolId) (other : List Item) → y.0 ≡ wanted → Contains e.moves (y, other) → Contains ((x, upper) ∷ others) (y, other)

pub begins : (e : Expansion) (wanted : ℕ) → IsRest e (words_of e.moves e.reductions) 0 wanted
begins e wanted = record {
  more = e.moves;
  words = refl;
  count = omega arith;
  ascending = e.moves_ascend;
  within = λ x upper c. c;
  wanted_left = λ x upper same c. c;
}

pub head : (e : Expansion) (rest : List ℕ) (done wanted : ℕ) → IsRest e rest done wanted → done < length e.moves → IsHead e rest done wanted
head e rest done wanted r some = by r.more r.words r.count r.ascending r.within r.wanted_left
  where
    by : (more : List Move) → rest ≡ words_of more e.reductions → done + length more ≡ length e.moves → IsStrictlySortedBy move_cmp more
        → ((x : SymbolId) (upper : List Item) → Contains more (x, upper) → Contains e.moves (x, upper))
        → ((x : SymbolId) (upper : List Item) → x.0 ≡ wanted → Contains e.moves (x, upper) → Contains more (x, upper)) → IsHead e rest done wanted
    by [] words count ascending within left = absurd (omega (arith, count))
    by ((x, upper) ∷ others) words count ascending within left = record {
      x = x;
      upper = upper;
      others = others;
      words = words ∙ ap (λ tail. x.0 ∷ length upper ∷ tail)
          (append_assoc (map item_word upper) (flat_map move_words others) (map (λ (rule : RuleId). rule.0) e.reductions));
      count = omega (arith, count);
      ascending = ascending;
      within = within;
      wanted_left = left;
    }

-- ---- the words of a head

pub head_length : (e : Expansion) (rest : List ℕ) (done wanted : ℕ) (h : IsHead e rest done wanted) → 2 + length h.upper ≤ length rest
head_length e rest done wanted h =
    let long = ap length h.words in
    let parts = length-append (map item_word h.upper) (words_of h.others e.reductions) in
    let same = length-map h.upper item_word in
    omega (arith, long, parts, same)

pub head_symbol : (e : Expansion) (rest : List ℕ) (done wanted : ℕ) (h : IsHead e rest done wanted) → get_or rest 0 0 ≡ h.x.0
head_symbol e rest done wanted h = ap (λ ws. get_or ws 0 0) h.words

pub head_count : (e : Expansion) (rest : List ℕ) (done wanted : ℕ) (h : IsHead e rest done wanted) → get_or rest 1 0 ≡ length h.upper
head_count e rest done wanted h = ap (λ ws. get_or ws 1 0) h.words

drop_all : {X : Type 0} (xs ys : List X) (n : ℕ) → n ≡ length xs → drop n (xs ++ ys) ≡ ys
drop_all [] ys zero e = refl
drop_all [] ys (suc n) e = absurd cc
drop_all (x ∷ xs) ys zero e = absurd (omega (arith, e))
drop_all (x ∷ xs) ys (suc n) e = drop_all xs ys n (omega (arith, e))

drop_two : {X : Type 0} (x y : X) (xs : List X) (n k : ℕ) → k ≡ 2 + n → drop k (x ∷ y ∷ xs) ≡ drop n xs
drop_two x y xs n zero e = absurd (omega (arith, e))
drop_two x y xs n (suc zero) e = absurd (omega (arith, e))
drop_two x y xs n (suc (suc k)) e = let same : k ≡ n = omega (arith, e) in ap (λ m. drop m xs) same

-- ---- what the head tells

below : (a b : Move) → move_cmp a b ≡ Less → a.0.0 < b.0.0
below a b e = nat_cmp_less a.0.0 b.0.0 e

pub found : (e : Expansion) (rest : List ℕ) (done : ℕ) (symbol : SymbolId) (h : IsHead e rest done symbol.0) → symbol.0 ≤ h.x.0
    → ((h.x.0 == symbol.0) ≡ true) ↔ ((upper : List Item) × Contains e.moves (symbol, upper))
unfolding IsStrictlySortedBy
found e rest done symbol h least = (
  λ is.
      let same : h.x ≡ symbol = ap (λ n. let s : SymbolId = record { 0 = n } in s) (eqb-true h.x.0 symbol.0 is) in
      (h.upper, subst (λ s. Contains e.moves (s, h.upper)) same (h.within h.x h.upper (contains_first (h.x, h.upper) h.others))),
  λ (upper, c). elim (contains_cases (h.x, h.upper) h.others (symbol, upper) (h.wanted_left symbol upper refl c)) [
    | inl is ↦ eq-eqb h.x.0 symbol.0 (ap (λ (m : Move). m.0.0) is)
    | inr d ↦
        let less = below (h.x, h.upper) (symbol, upper) (each_contained (λ m. move_cmp (h.x, h.upper) m ≡ Less) h.others (symbol, upper) h.ascending.0 d) in
        absurd (omega (arith, less, least))
  ],
)

pub next : (e : Expansion) (rest : List ℕ) (done wanted : ℕ) (h : IsHead e rest done wanted) → h.x.0 < wanted → (k : ℕ) → k ≡ 2 + length h.upper
    → IsRest e (drop k rest) (done + 1) wanted
unfolding IsStrictlySortedBy
next e rest done wanted h less k is = record {
  more = h.others;
  words =
      ap (drop k) h.words ∙ drop_two h.x.0 (length h.upper) (map item_word h.upper ++ words_of h.others e.reductions) (length h.upper) k is
      ∙ drop_all (map item_word h.upper) (words_of h.others e.reductions) (length h.upper) (sym (length-map h.upper item_word));
  count = h.count;
  ascending = h.ascending.1;
  within = λ y other c. h.within y other (contains_later (h.x, h.upper) h.others (y, other) c);
  wanted_left = λ y other same c. elim (contains_cases (h.x, h.upper) h.others (y, other) (h.wanted_left y other same c)) [
    | inl e' ↦ absurd (omega (arith, less, same, ap (λ (m : Move). m.0.0) e'))
    | inr d ↦ d
  ];
}

-- past all moves
pub none_left : (e : Expansion) (rest : List ℕ) (done : ℕ) (symbol : SymbolId) → IsRest e rest done symbol.0 → length e.moves ≤ done → (upper : List Item)
    → Contains e.moves (symbol, upper) → ⊥
none_left e rest done symbol r all upper c = by r.more r.count (r.wanted_left symbol upper refl c)
  where
    by : (more : List Move) → done + length more ≡ length e.moves → Contains more (symbol, upper) → ⊥
    by [] count d = contains_none (symbol, upper) d
    by (m ∷ more) count d = omega (arith, count, all)

-- ---- at the words of a payload

module _ (payload rest : List ℕ) (done wanted : ℕ) (known : (e : Expansion) → payload ≡ item_payload_words e → IsRest e rest done wanted) where
  -- how many moves there are
  moves_told : (e : Expansion) → payload ≡ item_payload_words e → get_or payload 0 0 ≡ length e.moves
  moves_told e is = ap (λ ws. get_or ws 0 0) is

  head_of : (e : Expansion) → payload ≡ item_payload_words e → done < get_or payload 0 0 → IsHead e rest done wanted
  head_of e is some = head e rest done wanted (known e is) (omega (arith, some, moves_told e is))

  pub room_for_head : ((e : Expansion) × (payload ≡ item_payload_words e)) → done < get_or payload 0 0 → 2 + get_or rest 1 0 ≤ length rest
  room_for_head (e, is) some =
      let h = head_of e is some in
      omega (arith, head_length e rest done wanted h, head_count e rest done wanted h)

  pub next_rest : done < get_or payload 0 0 → get_or rest 0 0 < wanted → (k : ℕ) → k ≡ 2 + get_or rest 1 0 → (e : Expansion)
      → payload ≡ item_payload_words e → IsRest e (take (length rest - k) (drop k rest)) (done + 1) wanted
  next_rest some less k is-next e is =
      let h = head_of e is some in
      let symbol = head_symbol e rest done wanted h in
      subst (λ ws. IsRest e ws (done + 1) wanted) (sym (take_rest rest k))
      (next e rest done wanted h (omega (arith, less, symbol)) k (is-next ∙ ap (λ n. 2 + n) (head_count e rest done wanted h)))

  pub head_decides : (symbol : SymbolId) → wanted ≡ symbol.0 → done < get_or payload 0 0 → wanted ≤ get_or rest 0 0 → (e : Expansion)
      → payload ≡ item_payload_words e
      → ((get_or rest 0 0 == wanted) ≡ true) ↔ ((upper : List Item) × Contains e.moves (symbol, upper))
  head_decides symbol same some least e is =
      let h = head_of e is some in
      let at = head_symbol e rest done wanted h in
      let h' : IsHead e rest done symbol.0 = subst (IsHead e rest done) same h in
      let at' : get_or rest 0 0 ≡ h'.x.0 = head_symbol e rest done symbol.0 h' in
      let test : (get_or rest 0 0 == wanted) ≡ (h'.x.0 == symbol.0) = ap (λ n. n == wanted) at' ∙ ap (λ n. h'.x.0 == n) same in
      let tells = found e rest done symbol h' (omega (arith, least, at', same)) in
      (λ yes. tells.0 (sym test ∙ yes), λ w. test ∙ tells.1 w)

  pub none_decides : (symbol : SymbolId) → wanted ≡ symbol.0 → get_or payload 0 0 ≤ done → (e : Expansion) → payload ≡ item_payload_words e
      → (upper : List Item) → Contains e.moves (symbol, upper) → ⊥
  none_decides symbol same all e is upper c =
      none_left e rest done symbol (subst (IsRest e rest done) same (known e is)) (omega (arith, all, moves_told e is)) upper c

pub first_rest : (payload : List ℕ) (wanted : ℕ) (e : Expansion) → payload ≡ item_payload_words e
    → IsRest e (take (length payload - 2) (drop 2 payload)) 0 wanted
first_rest payload wanted e is =
    subst (λ ws. IsRest e ws 0 wanted) (sym (take_rest payload 2)) (subst (λ ws. IsRest e (drop 2 ws) 0 wanted) (sym is) (begins e wanted))
