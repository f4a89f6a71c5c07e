use Rattle.std.proofs.Common.{◌≡◌, ◌+◌, ◌*◌, ◌/◌, [], ℕ, refl, sym, ap, ◌∙◌, subst, arith}
use Rattle.pin_rule.specs.declared.sizes.Sizes.{Sizes}
use Rattle.pin_rule.specs.Layout.{place_word}
use Rattle.std.proofs.lemmas.Nat.{div-add-mod'}
use Rattle.pin_rule.specs.Hands.{view_of}
use Rattle.version_store.specs.Freeing.{FreesFirst}
use Rattle.version_store.proofs.FreedRows as freed
use Rattle.version_store.proofs.freeing.free_page.Goals as goal

pub loop-group-init : goal.loop-group-init
loop-group-init g c = record {
  table = refl;
  so_far = λ role given h. record {
    places = [];
    many = refl;
    frees = freed.begins c.args.leaving c.args.carried.now role given (view_of c.args.hand.now) h;
  };
}

pub free_places-requires-clause-giving : goal.free_places-requires-clause-giving
free_places-requires-clause-giving g c = let q = c.requires in
    (view_of c.args.hand.now, q.0, q.1, q.2, c.loop-group.invariant.so_far q.0 q.1 q.2)

pub loop-group-preserved : goal.loop-group-preserved
loop-group-preserved g c = let i = c.loop-group.invariant in let e = c.free_places.ensures in let group : ℕ = c.loop-group.group in record {
  table = e.table ∙ i.table;
  so_far = λ role given h. subst (λ (n : ℕ). FreesFirst c.args.leaving c.args.carried.now role given n (view_of c.args.hand.now)
      (view_of c.free_places.new.hand)) (let r : group * 8 + 8 ≡ (group + 1) * 8 = omega arith in r)
      (e.freed (view_of c.args.hand.now) role given h (i.so_far role given h));
}

pub free_places-requires-2-clause-giving : goal.free_places-requires-2-clause-giving
free_places-requires-2-clause-giving g c = let q = c.requires in let group : ℕ = c.loop-group.group in let n : ℕ = c.args.leaving.sizes.places in
    let all : group ≡ n / 8 = (let most = c.loop-group.auto.group-end in let out = c.loop-group-test.false in omega arith) in (
      view_of c.args.hand.now,
      q.0,
      q.1,
      q.2,
      subst (λ (k : ℕ). FreesFirst c.args.leaving c.args.carried.now q.0 q.1 k (view_of c.args.hand.now) (view_of c.loop-group.hand))
          (ap (λ (k : ℕ). k * 8) all) (c.loop-group.invariant.so_far q.0 q.1 q.2),
    )

pub free_places-requires-2-clause-inside : goal.free_places-requires-2-clause-inside
free_places-requires-2-clause-inside g c = let e = div-add-mod' c.args.leaving.sizes.places 8 in omega arith

pub returns-clause-freed : goal.returns-clause-freed
returns-clause-freed g c = λ role given h. let group : ℕ = c.loop-group.group in let n : ℕ = c.args.leaving.sizes.places in
    let all : group ≡ n / 8 = (let most = c.loop-group.auto.group-end in let out = c.loop-group-test.false in omega arith) in
    let f = c.free_places-2.ensures.freed (view_of c.args.hand.now) role given h
    (subst (λ (k : ℕ). FreesFirst c.args.leaving c.args.carried.now role given k (view_of c.args.hand.now) (view_of c.loop-group.hand))
    (ap (λ (k : ℕ). k * 8) all) (c.loop-group.invariant.so_far role given h)) in (f.places, f.many ∙ div-add-mod' n 8, f.frees)

-- the page starts where it did
pub free_places-requires-clause-start : goal.free_places-requires-clause-start
free_places-requires-clause-start g c = let q = c.requires in c.page_start-start.ensures
    ∙ ap (λ (z : Sizes). place_word z c.args.leaving.page 0) (sym (c.loop-group.invariant.so_far q.0 q.1 q.2).frees.goes.stays.sizes)

pub free_places-requires-2-clause-start : goal.free_places-requires-2-clause-start
free_places-requires-2-clause-start g c = let q = c.requires in c.page_start-start.ensures
    ∙ ap (λ (z : Sizes). place_word z c.args.leaving.page 0) (sym (c.loop-group.invariant.so_far q.0 q.1 q.2).frees.goes.stays.sizes)
