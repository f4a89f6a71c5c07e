use Rattle.std.proofs.Common.{◌≡◌, ◌<◌, ◌≤◌, ◌+◌, ◌-◌, ◌*◌, ◌++◌, ◌/◌, ℕ, suc, List, length, take, drop, slice_index, inl, inr}
use Rattle.std.proofs.Common.{refl, sym, ap, ◌∙◌, subst, arith}
use Rattle.std.proofs.lemmas.Bool.{cases_lt}
use Rattle.std.proofs.Math.Nat.{div-mul-le_self}
use Rattle.pin_rule.specs.declared.sizes.Sizes.{Sizes}
use Rattle.version_store.specs.Marks.{AreMarked}
use Rattle.version_store.proofs.NotedPlaces.{none_named, eight_on, eight_none, rest_on, named_within, same_from, zero_within, all_zero}
use Rattle.version_store.proofs.NotedPlaces.{put_long, put_before, put_within, put_after}
use Rattle.version_store.proofs.carried_rows.CarriedRows.note.Goals as goal

pub loop-group-init : goal.loop-group-init
loop-group-init c = let e = c.clear.ensures in record {
  sizes = e.sizes;
  noted = λ row lt. e.here row (subst (λ (z : Sizes). row < z.rows) e.sizes lt);
  others = e.else_;
  many = refl;
  emptied = λ k lt. absurd (omega arith);
  left = λ _ _. refl;
}

-- the places from one on are those that were there at first
part_left : (xs ys : List ℕ) (at n : ℕ) → length xs ≡ length ys → ((k : ℕ) → at ≤ k → slice_index xs k ≡ slice_index ys k)
    → take n (drop at xs) ≡ take n (drop at ys)
part_left xs ys at n many left = ap (take n) (same_from xs ys at many left)

-- eight places end within all
eight_in : (n m group : ℕ) → n ≡ m → group < m / 8 → group * 8 + (group * 8 + 8 - group * 8) ≤ n
eight_in n m group e lt = let most = div-mul-le_self m 8 in omega arith

-- so does the rest
rest_in : (n m : ℕ) → n ≡ m → m / 8 * 8 + (n - m / 8 * 8) ≤ n
rest_in n m e = let most = div-mul-le_self m 8 in omega arith

pub loop-group-preserved-then-are_empty : goal.loop-group-preserved-then-are_empty
loop-group-preserved-then-are_empty c = let i = c.loop-group.invariant in let at : ℕ = c.loop-group.group * 8 in let n : ℕ = at + 8 - at in
    let places = c.args.places.now in let xs = c.loop-group.places in let zeros = c.are_empty.ensures c.if-are_empty.true in record {
      sizes = i.sizes;
      noted = λ row lt. i.noted row lt ∙ sym (eight_none places c.loop-group.group
          (none_named (take n (drop at places)) (λ k _. sym (ap (λ (l : List ℕ). slice_index l k) (part_left xs places at n i.many i.left)) ∙ zeros k)) row);
      others = i.others;
      many = i.many;
      emptied = λ k lt. elim (cases_lt k at) [ inl below ↦ i.emptied k below | inr ge ↦ zero_within xs at n k zeros ge (omega arith) ];
      left = λ k ge. i.left k (omega arith);
    }

-- a row that is named within some places that are left is in the table
row_left : (z y : Sizes) (xs ys : List ℕ) (at n : ℕ) → z ≡ y → take n (drop at xs) ≡ take n (drop at ys)
    → ((place row : ℕ) → slice_index ys place ≡ suc row → row < y.rows) → (place row : ℕ) → slice_index (take n (drop at xs)) place ≡ suc row → row < z.rows
row_left z y xs ys at n same part rows place row is = subst (λ (s : Sizes). row < s.rows) (sym same)
    (rows (at + place) row (named_within ys at n place row (sym (ap (λ (l : List ℕ). slice_index l place) part) ∙ is)))

pub note_places-requires-clause-rows : goal.note_places-requires-clause-rows
note_places-requires-clause-rows c = let i = c.loop-group.invariant in let at : ℕ = c.loop-group.group * 8 in let n : ℕ = at + 8 - at in
    row_left c.loop-group.self.sizes c.args.self.now.sizes c.loop-group.places c.args.places.now at n i.sizes
    (part_left c.loop-group.places c.args.places.now at n i.many i.left) c.requires.rows

pub loop-group-preserved : goal.loop-group-preserved
loop-group-preserved c = let i = c.loop-group.invariant in let e = c.note_places.ensures in let places = c.args.places.now in let xs = c.loop-group.places in
    let new = c.note_places.new.self in let at : ℕ = c.loop-group.group * 8 in let n : ℕ = at + 8 - at in let ys = c.note_places.new.part in
    let inside = eight_in (length xs) (length places) c.loop-group.group i.many c.loop-group-test.true in record {
      sizes = e.sizes ∙ i.sizes;
      noted = subst (AreMarked new.sizes new.marks.items c.args.page)
          (ap (λ (l : List ℕ). take at places ++ l) (part_left xs places at n i.many i.left) ∙ sym (eight_on places c.loop-group.group))
          (e.noted (take at places) i.noted);
      others = λ p row lt ne. e.else_ p row (subst (λ (z : Sizes). row < z.rows) (sym i.sizes) lt) ne ∙ i.others p row lt ne;
      many = put_long xs ys at n inside e.emptied ∙ i.many;
      emptied = λ k lt. elim (cases_lt k at) [
        | inl below ↦ put_before xs ys at n inside e.emptied k below ∙ i.emptied k below
        | inr ge ↦ put_within xs ys at n inside e.emptied k ge (omega arith)
      ];
      left = λ k ge. put_after xs ys at n inside e.emptied k (omega arith) ∙ i.left k (omega arith);
    }

pub slice_bounds-note_places-count-2 : goal.slice_bounds-note_places-count-2
slice_bounds-note_places-count-2 c = let most = div-mul-le_self (length c.args.places.now) 8 in let many = c.loop-group.invariant.many in omega arith

-- the places that are left once all groups were looked at
module _ (xs ys : List ℕ) (group : ℕ) (many : length xs ≡ length ys) (left : (k : ℕ) → group * 8 ≤ k → slice_index xs k ≡ slice_index ys k)
    (is : group ≡ length ys / 8) where
  rest_left : take (length xs - length ys / 8 * 8) (drop (length ys / 8 * 8) xs) ≡ take (length ys - length ys / 8 * 8) (drop (length ys / 8 * 8) ys)
  rest_left = part_left xs ys (length ys / 8 * 8) (length xs - length ys / 8 * 8) many (λ k ge. left k (omega arith))
      ∙ ap (λ (n : ℕ). take (n - length ys / 8 * 8) (drop (length ys / 8 * 8) ys)) many

  rest_whole : take (group * 8) ys ++ take (length xs - length ys / 8 * 8) (drop (length ys / 8 * 8) xs) ≡ ys
  rest_whole = ap (λ (l : List ℕ). take (group * 8) ys ++ l) rest_left ∙ rest_on ys group (length ys / 8) is

all : (n group : ℕ) → group ≤ n / 8 → n / 8 ≤ group → group ≡ n / 8
all n group most out = omega arith

pub note_places-requires-2-clause-rows : goal.note_places-requires-2-clause-rows
note_places-requires-2-clause-rows c = let i = c.loop-group.invariant in let places = c.args.places.now in let xs = c.loop-group.places in
    let at : ℕ = length places / 8 * 8 in let out = c.loop-group-test.false in
    row_left c.loop-group.self.sizes c.args.self.now.sizes xs places at (length xs - at) i.sizes
    (part_left xs places at (length xs - at) i.many (λ k ge. i.left k (let most = c.loop-group.auto.group-end in omega arith))) c.requires.rows

pub returns-clause-here : goal.returns-clause-here
returns-clause-here c = λ row lt. let i = c.loop-group.invariant in let e = c.note_places-2.ensures in let places = c.args.places.now in
    let new = c.note_places-2.new.self in let group : ℕ = c.loop-group.group in
    let is = all (length places) group c.loop-group.auto.group-end c.loop-group-test.false in
    subst (AreMarked new.sizes new.marks.items c.args.page) (rest_whole c.loop-group.places places group i.many i.left is)
    (e.noted (take (group * 8) places) i.noted) row (subst (λ (z : Sizes). row < z.rows) (sym (e.sizes ∙ i.sizes)) lt)

pub returns-clause-emptied : goal.returns-clause-emptied
returns-clause-emptied c = let i = c.loop-group.invariant in let m : ℕ = length c.args.places.now in let at : ℕ = m / 8 * 8 in let xs = c.loop-group.places in
    let n : ℕ = length xs - at in let ys = c.note_places-2.new.part in let inside = rest_in (length xs) m i.many in
    let zeros = c.note_places-2.ensures.emptied in
    all_zero _ m (put_long xs ys at n inside zeros ∙ i.many) (λ k lt. elim (cases_lt k at) [
      | inl below ↦ put_before xs ys at n inside zeros k below ∙ i.emptied k (let out = c.loop-group-test.false in omega arith)
      | inr ge ↦ put_within xs ys at n inside zeros k ge (let many = i.many in omega arith)
    ])
