use Rattle.std.proofs.Common.{◌≢◌, ◌<◌, ℕ, List, length, set, slice_index, sym, ap, ◌∙◌, subst}
use Rattle.pin_rule.specs.Rows.{on_path}
use Rattle.version_store.proofs.FirstPlaces.{path_inside, not_all, puts}
use Rattle.version_store.proofs.row_placing.put_at_first.Goals as goal

pub bounds-places-place : goal.bounds-places-place
bounds-places-place c = let i = c.loop-step.invariant in
    path_inside c.args.sizes c.args.key.now c.loop-step.places (ap length i.same ∙ c.requires.room) c.loop-step._step c.loop-step.place i.at

pub bounds-places-place-then-places-place-eq0 : goal.bounds-places-place-then-places-place-eq0
bounds-places-place-then-places-place-eq0 c = let i = c.loop-step.invariant in
    path_inside c.args.sizes c.args.key.now c.loop-step.places (ap length i.same ∙ c.requires.room) c.loop-step._step c.loop-step.place i.at

pub returns-then-places-place-eq0 : goal.returns-then-places-place-eq0
returns-then-places-place-eq0 c = let i = c.loop-step.invariant in let old = c.args.places.now in
    puts c.args.sizes c.args.key.now old c.requires.room c.args.word c.loop-step._step c.loop-step.place i.at c.loop-step-test.true
    (subst (λ (l : List ℕ). (before : ℕ) → before < c.loop-step._step → slice_index l (on_path c.args.sizes c.args.key.now before) ≢ 0) i.same i.passed)
    (ap (λ (l : List ℕ). slice_index l c.loop-step.place) (sym i.same) ∙ c.if-places-place-eq0.true) _
    (ap (λ (l : List ℕ). set l c.loop-step.place c.args.word) i.same)

pub returns : goal.returns
returns c = let i = c.loop-step.invariant in
    absurd (not_all c.args.sizes c.args.key.now c.args.places.now c.requires.room c.requires.few c.loop-step._step c.loop-step-test.false
    (subst (λ (l : List ℕ). (before : ℕ) → before < c.loop-step._step → slice_index l (on_path c.args.sizes c.args.key.now before) ≢ 0) i.same i.passed))
