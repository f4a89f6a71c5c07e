use Rattle.std.proofs.Common.{◌≡◌, ◌+◌, ℕ, suc, length, inl, inr, refl, ap, ◌∙◌, subst, arith}
use Rattle.version_store.specs.Means.{editor_of}
use Rattle.version_store.specs.GivingUp.{GivesUp}
use Rattle.version_store.proofs.OldestNoted.{none_older}
use Rattle.version_store.proofs.GivenUp.{alike}
use Rattle.version_store.proofs.editor.Editor.give_up_dropped.Goals as goal

pub returns-in-Some-clause-given : goal.returns-in-Some-clause-given
returns-in-Some-clause-given g c = (editor_of c.loop-count.self, c.loop-count.invariant.given, inr c.in-Some.ensures.stays)

pub returns-in-Some-clause-alone : goal.returns-in-Some-clause-alone
returns-in-Some-clause-alone g c = λ all. absurd (c.in-Some.ensures.shared
    ((alike c.loop-count.count (editor_of c.args.self.now) (editor_of c.loop-count.self) c.loop-count.invariant.given).share ∙ all))

pub loop-count-preserved : goal.loop-count-preserved
loop-count-preserved g c = let i = c.loop-count.invariant in let n : ℕ = c.loop-count.count in record {
  left = (let a = i.left in let b = c.in_default.ensures.few in omega arith);
  known = c.give_up_oldest.ensures.known ∙ i.known;
  given = subst (λ (k : ℕ). GivesUp k (editor_of c.args.self.now) (editor_of c.give_up_oldest.new.self)) (let r : suc n ≡ n + 1 = omega arith in r)
      (editor_of c.loop-count.self, i.given, c.in_default.ensures.gone);
}

pub returns-clause-given : goal.returns-clause-given
returns-clause-given g c = let i = c.loop-count.invariant in let out = c.loop-count-test.false in let e = c.loop-count.self in (
  editor_of e,
  subst (λ (k : ℕ). GivesUp k (editor_of c.args.self.now) (editor_of e)) (let a = i.left in let r : c.loop-count.count ≡ c.len-most.result = omega arith in r)
      i.given,
  inl (none_older _ (ap length e.noted.older_is ∙ (let a = i.left in let r : length e.lives.older.items ≡ 0 = omega arith in r)), refl),
)

pub returns-clause-alone : goal.returns-clause-alone
returns-clause-alone g c = λ _. let i = c.loop-count.invariant in let out = c.loop-count-test.false in let e = c.loop-count.self in
    none_older _ (ap length e.noted.older_is ∙ (let a = i.left in let r : length e.lives.older.items ≡ 0 = omega arith in r))
