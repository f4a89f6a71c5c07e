-- A state has one expansion, one cost, and one definition that it accepts.
use Rattle.std.proofs.Common.{◌≡◌, ℕ, ◌+◌, ◌<◌, ◌≤◌, List, [], ◌∷◌, length, refl, sym, ap, ◌∙◌, subst, inl, inr, arith, Contains}
use Rattle.std.proofs.lemmas.Bool.{cases_lt}
use Rattle.std.specs.Cmp.{IsTotalOrder, on_total, nat_cmp_total}
use Rattle.std.specs.Ordering.{nat_cmp, ordering_reverse}
use Rattle.std.specs.declared.cmp.Ordering.TheVariants.{Less, Greater}
use Rattle.std.specs.List.{AllByRecursion}
use Rattle.forest.proofs.Ascending.{same_list, contains_here, contains_there, contains_cases}
use Rattle.edit_log.specs.declared.definitions.DefId.{DefId}
use Rattle.edit_log.specs.declared.definitions.DefId.TheVariants.{Literal as literal, Named as named}
use Rattle.edit_log.specs.History.{Grammar}
use Rattle.edit_log.specs.Live.{definition_cmp}
use Rattle.isg_states.specs.declared.mark.Mark.{Mark}
use Rattle.isg_states.specs.declared.scan_key.ScanKey.{ScanKey}
use Rattle.isg_states.specs.declared.scan_key.ScanKey.TheVariants.{Set}
use Rattle.isg_states.specs.Marks.{mark_number, mark_cmp, ListsMarks}
use Rattle.isg_states.specs.Expansion.{Range, LeadsTo, IsRange, AreApart, AreJoined, IsScanExpansionOf, IsScanCost}
use Rattle.isg_states.specs.Winners.{Accepts}

pub mark_cmp_total : IsTotalOrder mark_cmp
mark_cmp_total = on_total mark_number nat_cmp_total

pub one_list : {Is : Mark → Type 0} {xs ys : List Mark} → ListsMarks Is xs → ListsMarks Is ys → xs ≡ ys
one_list {Is} {xs} {ys} a b =
    same_list mark_cmp mark_cmp_total xs ys a.order b.order (λ m c. (b.members m).1 ((a.members m).0 c)) (λ m c. (a.members m).1 ((b.members m).0 c))

pub one_cost : (grammar : Grammar) (key : ScanKey) (m n : ℕ) → IsScanCost grammar key m → IsScanCost grammar key n → m ≡ n
one_cost grammar key m n a b = a.2 ∙ ap length (one_list a.1 b.1) ∙ sym b.2

-- ---- the order of definitions

never_both : (a b : ℕ) → nat_cmp a b ≡ Less → nat_cmp b a ≡ Less → ⊥
never_both a b e f = let turned : nat_cmp a b ≡ Greater = nat_cmp_total.antisymm a b ∙ ap ordering_reverse f in absurd cc

one_below : (a b : DefId) → definition_cmp a b ≡ Less → definition_cmp b a ≡ Less → ⊥
one_below (literal a) (literal b) e f = never_both a.0 b.0 e f
one_below (literal a) (named b) e f = absurd cc
one_below (named a) (literal b) e f = absurd cc
one_below (named a) (named b) e f = never_both a.0 b.0 e f

pub one_accepted : (grammar : Grammar) (key : ScanKey) (a b : DefId) → Accepts grammar key a → Accepts grammar key b → a ≡ b
one_accepted grammar key a b h k =
    elim (h.first b k.ends) [
      | inl e ↦ sym e
      | inr e ↦ elim (k.first a h.ends) [ inl f ↦ f | inr f ↦ absurd (one_below a b e f) ]
    ]

-- ---- ranges

-- the last part of an expansion: what it tells of the bytes from a number on
record TellsFrom (grammar : Grammar) (key : ScanKey) (from : ℕ) (ranges : List Range) : Type 0 where
  each : (range : Range) → Contains ranges range → IsRange grammar key range × (from ≤ range.0)
  whole : (byte : ℕ) (mark : Mark) → from ≤ byte → byte < 256 → LeadsTo grammar key byte mark
      → (range : Range) × Contains ranges range × (range.0 ≤ byte) × (byte ≤ range.1)
  apart : AreApart ranges
  joined : AreJoined ranges

all_here : {X : Type 0} (P : X → Type 0) (xs : List X) → AllByRecursion P xs → (x : X) → Contains xs x → P x
all_here P [] all x c = absurd (omega (arith, c.1))
all_here P (y ∷ ys) all x c = elim (contains_cases y ys x c) [ inl e ↦ subst P e all.0 | inr d ↦ all_here P ys all.1 x d ]

some_first : (xs : List Mark) → 0 < length xs → (x : Mark) × Contains xs x
some_first [] some = absurd (omega arith)
some_first (x ∷ xs) some = (x, contains_here x xs)

module _ (grammar : Grammar) (key : ScanKey) where
  -- each byte of a range leads somewhere
  leads_on : (range : Range) → IsRange grammar key range → (byte : ℕ) → range.0 ≤ byte → byte ≤ range.1 → (mark : Mark) × LeadsTo grammar key byte mark
  leads_on range is byte low high = let m = some_first is.marks is.somewhere in (m.0, ((is.leads byte low high).members m.0).0 m.1)

  -- two ranges with a byte lead to one key
  one_key : (a b : Range) → IsRange grammar key a → IsRange grammar key b → (byte : ℕ) → a.0 ≤ byte → byte ≤ a.1 → b.0 ≤ byte → byte ≤ b.1 → a.2 ≡ b.2
  one_key a b is other byte la ha lb hb =
      is.is ∙ ap (λ m. Set m) (one_list (is.leads byte la ha) (other.leads byte lb hb)) ∙ sym other.is

  -- the first range begins lowest
  lowest : (from : ℕ) (first : Range) (others : List Range) → TellsFrom grammar key from (first ∷ others) → (range : Range)
      → Contains (first ∷ others) range → first.0 ≤ range.0
  lowest from first others t range c = elim (contains_cases first others range c) [
    | inl e ↦ subst (λ (r : Range). first.0 ≤ r.0) e (omega arith)
    | inr d ↦ (let some = (t.each first (contains_here first others)).0.some in let above : first.1 < range.0 =
        all_here _ others t.apart.0 range d in omega arith)
  ]

  -- a first range begins no later than another list's first range
  begins : (from : ℕ) (a b : Range) (xs ys : List Range) → TellsFrom grammar key from (a ∷ xs) → TellsFrom grammar key from (b ∷ ys) → a.0 ≤ b.0
  begins from a b xs ys t u =
      let one = u.each b (contains_here b ys) in
      let some = one.0.some in
      let low = one.1 in
      let small = one.0.bytes in
      let l = leads_on b one.0 b.0 (omega arith) some in
      let found = t.whole b.0 l.0 low (omega arith) l.1 in
      let least = lowest from a xs t found.0 found.1 in
      let below = found.2 in
      omega arith

  -- and ends no sooner
  ends : (from : ℕ) (a b : Range) (xs ys : List Range) → TellsFrom grammar key from (a ∷ xs) → TellsFrom grammar key from (b ∷ ys) → a.0 ≡ b.0 → a.1 < b.1 → ⊥
  ends from a b xs ys t u same short =
      let one = u.each b (contains_here b ys) in
      let mine = t.each a (contains_here a xs) in
      let some = mine.0.some in
      let low = mine.1 in
      let small = one.0.bytes in
      let next : ℕ = a.1 + 1 in
      let l = leads_on b one.0 (a.1 + 1) (omega arith) (omega arith) in
      let found = t.whole (a.1 + 1) l.0 (omega arith) (omega arith) l.1 in
      let r : Range = found.0 in
      let starts : r.0 ≤ a.1 + 1 = found.2 in
      let stops : a.1 + 1 ≤ r.1 = found.3 in
      let keys : a.2 ≡ r.2 =
      one_key a b mine.0 one.0 a.0 (omega arith) some (omega arith) (omega arith) ∙ one_key b r one.0 (t.each r found.1).0 (a.1 + 1) (omega arith)
      (omega arith) starts stops in
      elim (contains_cases a xs r found.1) [
        | inl e ↦ (let high : a.1 ≡ r.1 = ap (λ (x : Range). x.1) e in absurd (omega arith))
        | inr d ↦ touches xs t r d starts stops keys
      ] where
        touches : (others : List Range) → TellsFrom grammar key from (a ∷ others) → (r : Range) → Contains others r → r.0 ≤ a.1 + 1 → a.1 + 1 ≤ r.1
            → a.2 ≡ r.2 → ⊥
        touches [] v r d starts stops keys = absurd (omega (arith, d.1))
        touches (x ∷ others) v r d starts stops keys =
            let above : a.1 < x.0 = v.apart.0.0 in
            elim (contains_cases x others r d) [
              | inl e ↦ (
                  let low : x.0 ≡ r.0 = ap (λ (y : Range). y.0) e in
                  let touch : a.1 + 1 ≡ x.0 = omega arith in
                  v.joined [] others a x refl touch (keys ∙ ap (λ (y : Range). y.2) (sym e)))
              | inr later ↦ (
                  let some = (v.each x (contains_there a (x ∷ others) x (contains_here x others))).0.some in
                  let far : x.1 < r.0 = all_here _ others v.apart.1.0 r later in
                  absurd (omega arith))
            ]

  rest_tells : (from : ℕ) (a : Range) (xs : List Range) → TellsFrom grammar key from (a ∷ xs) → TellsFrom grammar key (a.1 + 1) xs
  rest_tells from a xs t =
      let mine = t.each a (contains_here a xs) in
      let some = mine.0.some in
      let low = mine.1 in
      record {
        each = λ range c. ((t.each range (contains_there a xs range c)).0, (let above : a.1 < range.0 = all_here _ xs t.apart.0 range c in omega arith));
        whole = λ byte mark l small leads. (
            let found = t.whole byte mark (omega arith) small leads in
            let r : Range = found.0 in
            elim (contains_cases a xs r found.1) [
              | inl e ↦ (let high : a.1 ≡ r.1 = ap (λ (x : Range). x.1) e in let stops : byte ≤ r.1 = found.3 in absurd (omega arith))
              | inr d ↦ (r, d, found.2, found.3)
            ]);
        apart = t.apart.1;
        joined = λ before after one next e touch keys. t.joined (a ∷ before) after one next (ap (λ l. a ∷ l) e) touch keys;
      }

  range_of : (a b : Range) → a.0 ≡ b.0 → a.1 ≡ b.1 → a.2 ≡ b.2 → a ≡ b
  range_of (l, h, k) (m, i, j) e f g = cc

  one_part : (from : ℕ) (xs ys : List Range) → TellsFrom grammar key from xs → TellsFrom grammar key from ys → xs ≡ ys
  one_part from [] [] t u = refl
  one_part from [] (b ∷ ys) t u =
      let one = u.each b (contains_here b ys) in
      let some = one.0.some in
      let small = one.0.bytes in
      let l = leads_on b one.0 b.0 (omega arith) some in
      let found = t.whole b.0 l.0 one.1 (omega arith) l.1 in
      let none = found.1 in
      absurd (omega (arith, none.1))
  one_part from (a ∷ xs) [] t u =
      let one = t.each a (contains_here a xs) in
      let some = one.0.some in
      let small = one.0.bytes in
      let l = leads_on a one.0 a.0 (omega arith) some in
      let found = u.whole a.0 l.0 one.1 (omega arith) l.1 in
      let none = found.1 in
      absurd (omega (arith, none.1))
  one_part from (a ∷ xs) (b ∷ ys) t u =
      let one = (t.each a (contains_here a xs)).0 in
      let other = (u.each b (contains_here b ys)).0 in
      let some = one.some in
      let also = other.some in
      let ab = begins from a b xs ys t u in
      let ba = begins from b a ys xs u t in
      let lows : a.0 ≡ b.0 = omega arith in
      let highs : a.1 ≡ b.1 = elim (cases_lt a.1 b.1) [
        | inl short ↦ absurd (ends from a b xs ys t u lows short)
        | inr h ↦ elim (cases_lt b.1 a.1) [ inl short ↦ absurd (ends from b a ys xs u t (sym lows) short) | inr k ↦ omega arith ]
      ] in
      let keys : a.2 ≡ b.2 = one_key a b one other a.0 (omega arith) some (omega arith) (omega arith) in
      let heads : a ≡ b = range_of a b lows highs keys in
      let tails : xs ≡ ys = one_part (a.1 + 1) xs ys (rest_tells from a xs t) (subst (λ n. TellsFrom grammar key (n + 1) ys) (sym highs)
      (rest_tells from b ys u)) in
      cc (heads, tails)

  whole_tells : (ranges : List Range) → IsScanExpansionOf grammar key ranges → TellsFrom grammar key 0 ranges
  whole_tells ranges e =
      record {
        each = λ range c. (e.each range c, omega arith);
        whole = λ byte mark l small leads. e.whole byte mark small leads;
        apart = e.apart;
        joined =
            e.joined;
      }

  pub one_expansion : (xs ys : List Range) → IsScanExpansionOf grammar key xs → IsScanExpansionOf grammar key ys → xs ≡ ys
  one_expansion xs ys a b = one_part 0 xs ys (whole_tells xs a) (whole_tells ys b)
