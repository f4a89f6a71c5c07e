-- What the tables of spans find, and how they grow.
use Rattle.std.proofs.Common.{◌≡◌, ℕ, zero, suc, ◌*◌, ◌<◌, ◌⊎◌, inl, inr, List, [], ◌∷◌, ◌++◌, length, get_or, set, replicate, refl, sym, ◌∙◌, ap, subst, arith}
use Rattle.std.proofs.Common.{Contains, Bool, true, false, IsTrue, slice_get, Some, unwrap_or}
use Rattle.std.proofs.lemmas.Bool.{cases_lt}
use Rattle.std.proofs.lemmas.List.{length-replicate, get_or-replicate, length-set}
use Rattle.std.proofs.lemmas.List.Elements.{Contains-append_left, Contains-append_right}
use Rattle.std.proofs.lemmas.Option.{slice_get_read, slice_get_within}
use Rattle.forest.specs.declared.symbols.SymbolId.{SymbolId}
use Rattle.forest.proofs.Ascending.{contains_here}
use Rattle.plain_chart.specs.declared.spans.Span.{Span}
use Rattle.plain_chart.specs.declared.spans.Table.{Table}
use Rattle.plain_chart.specs.Span.{span}
use Rattle.plain_chart.specs.Tables.{bit, IsTableAt, IsSet, IsIndexed, KeepsTables, same, added}
use Rattle.plain_chart.proofs.Fine.{contains_push}
use Rattle.plain_chart.specs.declared.limits.TheConstants.{PLACES}

pub some_same : {X : Type 0} (a b : X) → Some a ≡ Some b → a ≡ b
some_same a b e = ap (λ o. unwrap_or o a) e

-- what is read is there
pub read_is : {X : Type 0} (xs : List X) (at : ℕ) (x : X) → x ≡ get_or xs at x → at < length xs → slice_get xs at ≡ Some x
read_is xs at x is l = slice_get_read xs (length xs) at x refl l is

-- the element at a place of a longer list
pub get_push : {X : Type 0} (xs : List X) (y : X) (k : ℕ) (x : X) → slice_get (xs ++ y ∷ []) k ≡ Some x
    → (slice_get xs k ≡ Some x) ⊎ ((k ≡ length xs) × (y ≡ x))
get_push [] y zero x e = inr (refl, some_same y x e)
get_push [] y (suc k) x e = absurd cc
get_push (z ∷ zs) y zero x e = inl e
get_push (z ∷ zs) y (suc k) x e = elim (get_push zs y k x e) [ inl f ↦ inl f | inr f ↦ inr (omega (arith, f.0), f.1) ]

pub get_before : {X : Type 0} (xs ys : List X) (k : ℕ) (x : X) → slice_get xs k ≡ Some x → slice_get (xs ++ ys) k ≡ Some x
get_before [] ys k x e = absurd cc
get_before (z ∷ zs) ys zero x e = e
get_before (z ∷ zs) ys (suc k) x e = get_before zs ys k x e

pub get_last : {X : Type 0} (xs : List X) (y : X) → slice_get (xs ++ y ∷ []) (length xs) ≡ Some y
get_last [] y = refl
get_last (z ∷ zs) y = get_last zs y

-- the element at a place after a write
pub get_set : {X : Type 0} (xs : List X) (at : ℕ) (y : X) (k : ℕ) (x : X) → slice_get (set xs at y) k ≡ Some x
    → ((k ≡ at) × (y ≡ x)) ⊎ ((k ≡ at → ⊥) × (slice_get xs k ≡ Some x))
get_set [] at y k x e = absurd cc
get_set (z ∷ zs) zero y zero x e = inl (refl, some_same y x e)
get_set (z ∷ zs) zero y (suc k) x e = inr (λ f. omega (arith, f), e)
get_set (z ∷ zs) (suc at) y zero x e = inr (λ f. omega (arith, f), e)
get_set (z ∷ zs) (suc at) y (suc k) x e = elim (get_set zs at y k x e) [
  | inl f ↦ inl (omega (arith, f.0), f.1)
  | inr f ↦ inr (
    λ g. f.0 (omega (arith, g)),
    f.1,
  )
]

pub set_here : {X : Type 0} (xs : List X) (at : ℕ) (y : X) → at < length xs → slice_get (set xs at y) at ≡ Some y
set_here [] at y l = absurd (omega arith)
set_here (z ∷ zs) zero y l = refl
set_here (z ∷ zs) (suc at) y l = set_here zs at y (omega arith)

pub set_there : {X : Type 0} (xs : List X) (at : ℕ) (y : X) (k : ℕ) (x : X) → (k ≡ at → ⊥) → slice_get xs k ≡ Some x → slice_get (set xs at y) k ≡ Some x
set_there [] at y k x n e = absurd cc
set_there (z ∷ zs) zero y zero x n e = absurd (n refl)
set_there (z ∷ zs) zero y (suc k) x n e = e
set_there (z ∷ zs) (suc at) y zero x n e = e
set_there (z ∷ zs) (suc at) y (suc k) x n e = set_there zs at y k x (λ f. n (ap suc f)) e

-- no bit of an empty table is set
pub not_set : (n k : ℕ) → slice_get (replicate n false) k ≡ Some true → ⊥
not_set n k e =
    let l : k < n = rw length-replicate at (slice_get_within (replicate n false) k true e) in
    let f : slice_get (replicate n false) k ≡ Some false = read_is (replicate n false) k false (sym (get_or-replicate n k false false l))
    (slice_get_within (replicate n false) k true e) in
    let g : true ≡ false = some_same true false (sym e ∙ f) in
    cc

-- a bit tells whether its span is there
pub has_bit : (items : List Span) (tables : List Table) → IsIndexed items tables → (x : SymbolId) (i j at : ℕ) (t : Table) (b : Bool) → IsTableAt tables x at
    → t ≡ get_or tables at t → b ≡ get_or t.bits.items (bit i j) b → i < PLACES → j < PLACES
    → (IsTrue b → Contains items (span x i j)) × (Contains items (span x i j) → IsTrue b)
has_bit items tables inv x i j at t b here is_t is_b li lj =
    let there : slice_get tables at ≡ Some t = read_is tables at t is_t (slice_get_within tables at here.0 here.1) in
    let bound : bit i j < length t.bits.items = omega (arith, inv.wide at t there) in
    let get : slice_get t.bits.items (bit i j) ≡ Some b = read_is t.bits.items (bit i j) b is_b bound in (
      λ e. inv.bits at i j x here li lj (record { table = t; is = there; bit = get ∙ ap Some e }),
      λ c.
          let (a, ta, s) = inv.listed (span x i j) c in
          let places : a ≡ at = inv.single x a at ta here in
          let tables_same : t ≡ s.table = some_same t s.table (sym there ∙ (rw places at s.is)) in
          some_same b true (sym get ∙ (rw (sym tables_same) at s.bit)),
    )

pub has_no_table : (items : List Span) (tables : List Table) → IsIndexed items tables → (x : SymbolId) (i j : ℕ) → ((at : ℕ) → IsTableAt tables x at → ⊥)
    → Contains items (span x i j) → ⊥
has_no_table items tables inv x i j none c = let (a, ta, s) = inv.listed (span x i j) c in none a ta

pub no_spans : IsIndexed [] []
no_spans = record {
  wide = λ at table e. absurd cc;
  single = λ x a b ta tb. let e = ta.1 in absurd cc;
  listed = λ s c. absurd (omega (arith, c.1));
  bits = λ at i j x ta li lj s. let e = ta.1 in absurd cc;
}

-- the symbol's table among tables that may have got one more
table_cases : (old : List Table) (t : Table) (y : SymbolId) (at : ℕ) → IsTableAt (old ++ t ∷ []) y at
    → IsTableAt old y at ⊎ ((at ≡ length old) × (t.symbol ≡ y))
table_cases old t y at (u, is, sy) = elim (get_push old t at u is) [
  | inl e ↦ inl (u, e, sy)
  | inr e ↦ inr (e.0, subst (λ (v : Table). v.symbol ≡ y) (sym e.1) sy)
]

pub indexed_keeps : (items : List Span) (old new : List Table) (x : SymbolId) → IsIndexed items old → KeepsTables old x new → IsIndexed items new
indexed_keeps items old new x inv same = inv
indexed_keeps items old new x inv (added t sx empty none) = record {
  wide = λ at u e. elim (get_push old t at u e) [
    | inl f ↦ inv.wide at u f
    | inr f ↦ subst (λ (v : Table). length v.bits.items ≡ PLACES * PLACES) f.1 (ap length empty ∙ length-replicate (PLACES * PLACES) false)
  ];
  single = λ y a b ta tb. elim (table_cases old t y a ta) [
    | inl ea ↦ elim (table_cases old t y b tb) [
      | inl eb ↦ inv.single y a b ea eb
      | inr eb ↦ absurd (none a (subst (λ z. IsTableAt old z a) (sym eb.1 ∙ sx) ea))
    ]
    | inr ea ↦ elim (table_cases old t y b tb) [
      | inl eb ↦ absurd (none b (subst (λ z. IsTableAt old z b) (sym ea.1 ∙ sx) eb))
      | inr eb ↦ ea.0 ∙ sym eb.0
    ]
  ];
  listed = λ s c. let (a, ta, is) = inv.listed s c in
      (a, (ta.0, get_before old (t ∷ []) a ta.0 ta.1, ta.2), record { table = is.table; is = get_before old (t ∷ []) a is.table is.is; bit = is.bit });
  bits = λ at i j y ta li lj s. elim (get_push old t at s.table s.is) [
    | inl f ↦ elim (table_cases old t y at ta) [
      | inl e ↦ inv.bits at i j y e li lj (record { table = s.table; is = f; bit = s.bit })
      | inr e ↦ absurd (omega (arith, e.0, slice_get_within old at s.table f))
    ]
    | inr f ↦
        let bits : s.table.bits.items ≡ replicate (PLACES * PLACES) false = subst (λ (v : Table). v.bits.items ≡ replicate (PLACES * PLACES) false) f.1 empty in
        absurd (not_set (PLACES * PLACES) (bit i j) (subst (λ (v : List Bool). slice_get v (bit i j) ≡ Some true) bits s.bit))
  ];
}

same_or : (a b : ℕ) → (a ≡ b) ⊎ (a ≡ b → ⊥)
same_or a b = elim (cases_lt a b) [
  | inl l ↦ inr (λ e. omega (arith, e))
  | inr g ↦ elim (cases_lt b a) [ inl l ↦ inr (λ e. omega (arith, e)) | inr h ↦ inl (omega arith) ]
]

one_bit : (i j a b : ℕ) → j < PLACES → b < PLACES → bit i j ≡ bit a b → (i ≡ a) × (j ≡ b)
one_bit i j a b lj lb e = (omega arith, omega arith)

-- a span comes, and its bit is set
module _ (items : List Span) (tables : List Table) (inv : IsIndexed items tables) (x : SymbolId) (i j at : ℕ) (t u : Table) (here : slice_get tables at
    ≡ Some t) (sx : t.symbol ≡ x) (su : u.symbol ≡ t.symbol) (bits_set : u.bits.items ≡ set t.bits.items (bit i j) true) (li : i < PLACES)
    (lj : j < PLACES) where
  within : at < length tables
  within = slice_get_within tables at t here

  table_there : (y : SymbolId) (a : ℕ) → IsTableAt (set tables at u) y a → IsTableAt tables y a
  table_there y a (v, is, sy) = elim (get_set tables at u a v is) [
    | inl e ↦ (t, subst (λ k. slice_get tables k ≡ Some t) (sym e.0) here, sym su ∙ subst (λ (w : Table). w.symbol ≡ y) (sym e.1) sy)
    | inr e ↦ (v, e.1, sy)
  ]

  bound : bit i j < length t.bits.items
  bound = omega (arith, inv.wide at t here)

  there : (a : ℕ) → a ≡ at → slice_get (set tables at u) a ≡ Some u
  there a e = subst (λ k. slice_get (set tables at u) k ≡ Some u) (sym e) (set_here tables at u within)

  table_here : (y : SymbolId) (a : ℕ) → IsTableAt tables y a → IsTableAt (set tables at u) y a
  table_here y a (v, is, sy) = elim (same_or a at) [
    | inl e ↦
        let one : t ≡ v = some_same t v (sym here ∙ subst (λ k. slice_get tables k ≡ Some v) e is) in
        (u, there a e, su ∙ ap (λ (w : Table). w.symbol) one ∙ sy)
    | inr n ↦ (v, set_there tables at u a v n is, sy)
  ]

  -- a bit that was set is set
  bit_kept : (a k l : ℕ) → IsSet tables a k l → IsSet (set tables at u) a k l
  bit_kept a k l s = elim (same_or a at) [
    | inl e ↦
        let one : s.table ≡ t = some_same s.table t (sym s.is ∙ subst (λ q. slice_get tables q ≡ Some t) (sym e) here) in
        let old : slice_get t.bits.items (bit k l) ≡ Some true = subst (λ (w : Table). slice_get w.bits.items (bit k l) ≡ Some true) one s.bit in
        let new : slice_get (set t.bits.items (bit i j) true) (bit k l) ≡ Some true = elim (same_or (bit k l) (bit i j)) [
          | inl f ↦ subst (λ q. slice_get (set t.bits.items (bit i j) true) q ≡ Some true) (sym f) (set_here t.bits.items (bit i j) true bound)
          | inr n ↦ set_there t.bits.items (bit i j) true (bit k l) true n old
        ] in
        record { table = u; is = there a e; bit = rw bits_set new }
    | inr n ↦ record { table = s.table; is = set_there tables at u a s.table n s.is; bit = s.bit }
  ]

  new_set : IsSet (set tables at u) at i j
  new_set = record { table = u; is = there at refl; bit = rw bits_set (set_here t.bits.items (bit i j) true bound) }

  new_bits : (a k l : ℕ) (y : SymbolId) → IsTableAt (set tables at u) y a → k < PLACES → l < PLACES → IsSet (set tables at u) a k l
      → Contains (items ++ span x i j ∷ []) (span y k l)
  new_bits a k l y ta lk ll s =
      let old : IsTableAt tables y a = table_there y a ta in
      elim (get_set tables at u a s.table s.is) [
        | inl e ↦
            let in_u : slice_get u.bits.items (bit k l) ≡ Some true = subst (λ (w : Table). slice_get w.bits.items (bit k l) ≡ Some true) (sym e.1) s.bit in
            let in_set : slice_get (set t.bits.items (bit i j) true) (bit k l) ≡ Some true = rw bits_set at in_u in
            let old_at : IsTableAt tables y at = subst (λ q. IsTableAt tables y q) e.0 old in
            elim (get_set t.bits.items (bit i j) true (bit k l) true in_set) [
              | inl f ↦
                  let ends = one_bit k l i j ll lj f.0 in
                  let one : t ≡ old_at.0 = some_same t old_at.0 (sym here ∙ old_at.1) in
                  let symbols : x ≡ y = sym sx ∙ ap (λ (w : Table). w.symbol) one ∙ old_at.2 in
                  let same_span : span x i j ≡ span y k l = ap (λ z. span z i j) symbols ∙ ap (λ q. span y q j) (sym ends.0) ∙ ap (λ q. span y k q)
                  (sym ends.1) in
                  subst (λ q. Contains (items ++ span x i j ∷ []) q) same_span (Contains-append_right items (span x i j ∷ []) (span x i j)
                  (contains_here (span x i j) []))
              | inr f ↦ Contains-append_left items (span x i j ∷ []) (span y k l) (inv.bits at k l y old_at lk ll (record { table = t; is = here; bit = f.1 }))
            ]
        | inr e ↦ Contains-append_left items (span x i j ∷ []) (span y k l) (inv.bits a k l y old lk ll (record { table = s.table; is = e.1; bit = s.bit }))
      ]

  pub indexed_insert : IsIndexed (items ++ span x i j ∷ []) (set tables at u)
  indexed_insert = record {
    wide = λ a v e. elim (get_set tables at u a v e) [
      | inl f ↦ subst (λ (w : Table). length w.bits.items ≡ PLACES * PLACES) f.1 (ap length bits_set ∙ length-set t.bits.items (bit i j) true
          ∙ inv.wide at t here)
      | inr f ↦ inv.wide a v f.1
    ];
    single = λ y a b ta tb. inv.single y a b (table_there y a ta) (table_there y b tb);
    listed = λ s c. elim (contains_push items (span x i j) s c) [
      | inl e ↦ subst (λ (q : Span). (a : ℕ) × IsTableAt (set tables at u) q.symbol a × IsSet (set tables at u) a q.from q.to) e
          (at, table_here x at (t, here, sx), new_set)
      | inr m ↦ let (a, ta, is) = inv.listed s m in (a, table_here s.symbol a ta, bit_kept a s.from s.to is)
    ];
    bits = new_bits;
  }
