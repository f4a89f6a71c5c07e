use Rattle.std.proofs.Common.{◌≡◌, ◌+◌, ◌++◌, ◌∷◌, [], ℕ, length-append, refl, sym, ap, ◌∙◌, subst, arith}
use Rattle.pin_rule.specs.declared.sizes.Sizes.{Sizes}
use Rattle.pin_rule.specs.Layout.{place_word}
use Rattle.pin_rule.specs.Hands.{view_of}
use Rattle.version_store.specs.Freeing.{FreesFirst}
use Rattle.version_store.proofs.FreedRows as freed
use Rattle.version_store.proofs.freeing.free_places.Goals as goal

pub loop-offset-init : goal.loop-offset-init
loop-offset-init g c = record {
  table = refl;
  so_far = λ v role given h f. subst (λ (n : ℕ). FreesFirst c.args.leaving c.args.carried.now role given n v (view_of c.args.hand.now))
      (let first : ℕ = c.args.first in let r : first ≡ first + 0 = omega arith in r) f;
}

pub free_place-requires-clause-giving : goal.free_place-requires-clause-giving
free_place-requires-clause-giving g c = let q = c.requires.giving in let s = c.loop-offset.invariant.so_far q.0 q.1 q.2 q.3 q.4 in (
  q.1,
  q.2,
  freed.giving_then c.args.leaving c.args.carried.now q.1 q.2 q.0 q.3 s.places (c.args.first + c.loop-offset.offset) (view_of c.loop-offset.hand) s.many
      s.frees,
)

pub loop-offset-preserved : goal.loop-offset-preserved
loop-offset-preserved g c = let i = c.loop-offset.invariant in let at : ℕ = c.args.first + c.loop-offset.offset in record {
  table = c.free_place.ensures.table ∙ i.table;
  so_far = λ v role given h f. let s = i.so_far v role given h f in let k = c.args.leaving in let m = c.args.carried.now in
      let w = view_of c.loop-offset.hand in let u = view_of c.free_place.new.hand in
      let e = c.free_place.ensures.freed role given (freed.giving_then k m role given v h s.places at w s.many s.frees) in record {
        places = s.places ++ e.0 ∷ [];
        many = (let n = length-append s.places (e.0 ∷ []) in let a = s.many in omega arith);
        frees = freed.one_more k m role given v h s.places at w s.many s.frees u e.0 e.1;
      };
}

pub free_place-requires-clause-start : goal.free_place-requires-clause-start
free_place-requires-clause-start g c = let q = c.requires.giving in let s = c.loop-offset.invariant.so_far q.0 q.1 q.2 q.3 q.4 in
    c.requires.start ∙ ap (λ (z : Sizes). place_word z c.args.leaving.page 0) (q.4.frees.goes.stays.sizes ∙ sym s.frees.goes.stays.sizes)
