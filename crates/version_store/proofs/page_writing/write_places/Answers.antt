use Rattle.std.proofs.Common.{◌≡◌, ◌<◌, ◌+◌, ◌++◌, ◌∷◌, [], ℕ, List, length, length-append, take, slice_index, append-nil, append_assoc}
use Rattle.std.proofs.Common.{refl, sym, ap, ◌∙◌, subst, arith}
use Rattle.std.proofs.lemmas.List.{length-take-le, take_more, take_all}
use Rattle.pin_rule.specs.declared.sizes.Sizes.{Sizes}
use Rattle.pin_rule.specs.Hands.{view_of}
use Rattle.pin_rule.specs.Layout.{place_word}
use Rattle.version_store.specs.Stages.{WritesPage}
use Rattle.version_store.proofs.PageWords.{more, may}
use Rattle.version_store.proofs.page_writing.write_places.Goals as goal

pub loop-offset-init : goal.loop-offset-init
loop-offset-init g c = record {
  table = refl;
  wrote = λ v before editor many w. subst (WritesPage c.args.current v (view_of c.args.hand.now)) (sym (append-nil before)) w;
}

-- so many words were written
at : (before part : List ℕ) (first offset : ℕ) → length before ≡ first → offset < length part → first + offset ≡ length (before ++ take offset part)
at before part first offset many lt = let a = length-append before (take offset part) in let b = length-take-le offset part (omega arith) in omega arith

pub write_place_at-requires-clause-keeps : goal.write_place_at-requires-clause-keeps
write_place_at-requires-clause-keeps g c =
    let part = c.args.part.now in let i : ℕ = c.loop-offset.offset in let first : ℕ = c.args.first in let q = c.requires.written in let m = q.5 in
    may c.args.current q.0 q.2 (view_of c.loop-offset.hand) (q.1 ++ take i part) (first + i) (slice_index part i)
    (at q.1 part first i q.3 c.loop-offset-test.true) (c.loop-offset.invariant.wrote q.0 q.1 q.2 q.3 q.4) g.C.Content.lawful g.C.Content.fits
    m.0 m.1 m.2 m.3 m.4 (m.5 i)
    (let room = c.requires.inside in let lt : i < length part = c.loop-offset-test.true in omega arith)

pub loop-offset-preserved : goal.loop-offset-preserved
loop-offset-preserved g c =
    let part = c.args.part.now in let i : ℕ = c.loop-offset.offset in let first : ℕ = c.args.first in let u = view_of c.write_place_at.new.self in record {
      table = c.write_place_at.ensures.table ∙ c.loop-offset.invariant.table;
      wrote = λ v before editor many w. subst (WritesPage c.args.current v u)
          (sym (ap (λ (l : List ℕ). before ++ l) (take_more part i 0 c.loop-offset-test.true)
          ∙ sym (append_assoc before (take i part) (slice_index part i ∷ []))))
          (more c.args.current v editor (view_of c.loop-offset.hand) (before ++ take i part) (first + i) (slice_index part i)
          (at before part first i many c.loop-offset-test.true) (c.loop-offset.invariant.wrote v before editor many w) u c.write_place_at.ensures.view);
    }

pub write_place_at-requires-clause-start : goal.write_place_at-requires-clause-start
write_place_at-requires-clause-start g c = let q = c.requires.written in let s = c.loop-offset.invariant.wrote q.0 q.1 q.2 q.3 q.4 in
    c.requires.start ∙ ap (λ (z : Sizes). place_word z c.args.current.next 0) (q.4.goes.stays.sizes ∙ sym s.goes.stays.sizes)

pub returns-clause-wrote : goal.returns-clause-wrote
returns-clause-wrote g c = λ v before editor many w. subst (λ (l : List ℕ). WritesPage c.args.current v (view_of c.loop-offset.hand) (before ++ l))
    (take_all c.loop-offset.offset c.args.part.now c.loop-offset-test.false) (c.loop-offset.invariant.wrote v before editor many w)
