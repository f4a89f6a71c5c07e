use Rattle.std.proofs.Common.{◌≡◌, ◌<◌, ◌≤◌, ◌+◌, ◌-◌, ◌*◌, ◌/◌, ℕ, List, length, take, refl, sym, ap, ◌∙◌, subst, arith}
use Rattle.std.proofs.lemmas.List.{length-take-le}
use Rattle.std.proofs.Math.Nat.{div-mul-le_self}
use Rattle.pin_rule.specs.declared.sizes.Sizes.{Sizes}
use Rattle.pin_rule.specs.Hands.{view_of}
use Rattle.pin_rule.specs.Layout.{place_word}
use Rattle.version_store.specs.Stages.{WritesPage}
use Rattle.version_store.proofs.NotedPlaces.{eight_on, rest_on, named_within}
use Rattle.version_store.proofs.PageWords.{begins}
use Rattle.version_store.proofs.page_writing.write_page.Goals as goal

pub loop-group-init : goal.loop-group-init
loop-group-init g c = record { table = refl; wrote = begins c.args.current (view_of c.args.hand.now) c.requires.editor c.requires.making.0 c.requires.making.1 }

-- so many words were written
eights : (places : List ℕ) (group : ℕ) → group < length places / 8 → length (take (group * 8) places) ≡ group * 8
eights places group lt = length-take-le (group * 8) places (let most = div-mul-le_self (length places) 8 in omega arith)

pub write_places-requires-clause-start : goal.write_places-requires-clause-start
write_places-requires-clause-start g c = c.page_start-start.ensures
    ∙ ap (λ (z : Sizes). place_word z c.args.current.next 0) (sym c.loop-group.invariant.wrote.goes.stays.sizes)

pub write_places-requires-clause-written : goal.write_places-requires-clause-written
write_places-requires-clause-written g c = let places = c.args.places.now in let m = c.requires.making in let at : ℕ = c.loop-group.group * 8 in (
  view_of c.args.hand.now,
  take at places,
  c.requires.editor,
  eights places c.loop-group.group c.loop-group-test.true,
  c.loop-group.invariant.wrote,
  (m.0, m.1, m.2, m.3, m.4, λ place row is. m.5 (at + place) row (named_within places at (at + 8 - at) place row is)),
)

pub loop-group-preserved : goal.loop-group-preserved
loop-group-preserved g c =
    let places = c.args.places.now in let i = c.loop-group.invariant in let group : ℕ = c.loop-group.group in let v = view_of c.args.hand.now in
    let e = c.write_places.ensures in record {
      table = e.table ∙ i.table;
      wrote = subst (WritesPage c.args.current v (view_of c.write_places.new.hand)) (sym (eight_on places group))
          (e.wrote v (take (group * 8) places) c.requires.editor (eights places group c.loop-group-test.true) i.wrote);
    }

-- all groups were written
all : (places : List ℕ) (group : ℕ) → group ≤ length places / 8 → length places / 8 ≤ group → group ≡ length places / 8
all places group most out = omega arith

module _ (places : List ℕ) (group : ℕ) (is : group ≡ length places / 8) where
  written : length (take (group * 8) places) ≡ length places / 8 * 8
  written = length-take-le (group * 8) places (let most = div-mul-le_self (length places) 8 in omega arith) ∙ ap (λ (n : ℕ). n * 8) is

pub write_places-requires-2-clause-start : goal.write_places-requires-2-clause-start
write_places-requires-2-clause-start g c = c.page_start-start.ensures
    ∙ ap (λ (z : Sizes). place_word z c.args.current.next 0) (sym c.loop-group.invariant.wrote.goes.stays.sizes)

pub write_places-requires-2-clause-written : goal.write_places-requires-2-clause-written
write_places-requires-2-clause-written g c =
    let places = c.args.places.now in let m = c.requires.making in let at : ℕ = length places / 8 * 8 in let group : ℕ = c.loop-group.group in (
      view_of c.args.hand.now,
      take (group * 8) places,
      c.requires.editor,
      written places group (all places group c.loop-group.auto.group-end c.loop-group-test.false),
      c.loop-group.invariant.wrote,
      (m.0, m.1, m.2, m.3, m.4, λ place row is. m.5 (at + place) row (named_within places at (length places - at) place row is)),
    )

pub returns-clause-wrote : goal.returns-clause-wrote
returns-clause-wrote g c = let places = c.args.places.now in let group : ℕ = c.loop-group.group in let v = view_of c.args.hand.now in
    let is = all places group c.loop-group.auto.group-end c.loop-group-test.false in
    subst (WritesPage c.args.current v (view_of c.write_places-2.new.hand)) (rest_on places group (length places / 8) is)
    (c.write_places-2.ensures.wrote v (take (group * 8) places) c.requires.editor (written places group is) c.loop-group.invariant.wrote)
