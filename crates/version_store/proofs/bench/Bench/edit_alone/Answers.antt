use Rattle.std.proofs.Common.{List, length, refl, sym, ap, ◌∙◌, subst}
use Rattle.pin_rule.specs.declared.sizes.Sizes.{Sizes}
use Rattle.pin_rule.specs.declared.view.KnownPlace.{KnownPlace}
use Rattle.pin_rule.specs.Hands.{view_of}
use Rattle.pin_rule.specs.Lists.{In}
use Rattle.version_store.specs.Asking.{AsksRows}
use Rattle.version_store.specs.Means.{editor_of}
use Rattle.version_store.specs.Graphs.{rows_known, IsWholeKnown}
use Rattle.version_store.proofs.GivenUp.{alike_all}
use Rattle.version_store.proofs.KnownAgain.{known_again}
use Rattle.version_store.proofs.bench.Bench.edit_alone.Goals as goal

pub returns-then-self-clause-full : goal.returns-then-self-clause-full
returns-then-self-clause-full g c = let e = c.args.self.now.editor in record {
  full = sym e.current ∙ c.if-self.true ∙ ap (λ (z : Sizes). z.log) (sym e.measured);
  entries_are = e.current;
}

pub invariant_of-self : goal.invariant_of-self
invariant_of-self g c = let b = c.args.self.now in let e = b.editor in let k = c.make_version-version in let n = c.give_up.new.self in
    let same = alike_all c.give_up.result (editor_of k.new.self) (editor_of n) c.give_up.ensures.given in
    let share = k.ensures.same.share ∙ b.has_all in
    let rows = k.ensures.graph b.has_all (known_again e.sizes (view_of e.hand).known b.all_known) in record {
      has_all = same.share ∙ share;
      one_version = c.give_up.ensures.alone share;
      all_known = ∣ subst (λ (t : Sizes × List KnownPlace). IsWholeKnown t.0 t.1)
          (λ i. ((sym e.measured ∙ sym k.ensures.same.sizes ∙ sym same.sizes ∙ n.measured) i, sym c.give_up.ensures.known i)) rows.all_known ∣₁;
    }

pub returns-clause-version : goal.returns-clause-version
returns-clause-version g c = let k = c.make_version-version in let n = c.give_up.new.self in
    k.ensures.version ∙ ap length (sym (alike_all c.give_up.result (editor_of k.new.self) (editor_of n) c.give_up.ensures.given).log)

pub returns-clause-made : goal.returns-clause-made
returns-clause-made g c = let b = c.args.self.now in let e = b.editor in let k = c.make_version-version in let n = c.give_up.new.self in
    let same = alike_all c.give_up.result (editor_of k.new.self) (editor_of n) c.give_up.ensures.given in
    let share = k.ensures.same.share ∙ b.has_all in
    let rows = k.ensures.graph b.has_all (known_again e.sizes (view_of e.hand).known b.all_known) in record {
      before = editor_of e;
      between = editor_of k.new.self;
      after = editor_of n;
      count = c.give_up.result;
      first = record {
        share = b.has_all;
        one_version = b.one_version;
        sizes = refl;
        log = refl;
        table = refl;
        pins_left = refl;
        steps = refl;
      };
      made = k.ensures.made;
      gave_up = c.give_up.ensures.given;
      last = record {
        share = same.share ∙ share;
        one_version = c.give_up.ensures.alone share;
        sizes = refl;
        log = refl;
        table = refl;
        pins_left = refl;
        steps = refl;
      };
      sizes = same.sizes ∙ k.ensures.same.sizes;
      table = same.table ∙ k.ensures.same.table;
      pins_left = same.pins_left ∙ k.ensures.same.pins_left;
      kept = λ row i. rows.kept row (subst (λ (ks : List KnownPlace). In row (rows_known ks)) c.give_up.ensures.known i);
      every = λ row i keep. subst (λ (ks : List KnownPlace). In row (rows_known ks)) (sym c.give_up.ensures.known) (rows.every row i keep);
    }

pub returns-clause-asked : goal.returns-clause-asked
returns-clause-asked g c = let b = c.args.self.now in let e = b.editor in
    let k = c.make_version-version.ensures.asked b.has_all (known_again e.sizes (view_of e.hand).known b.all_known) in
    subst (AsksRows g.H.Chooser.moves c.args.chooser.now c.make_version-version.new.chooser (rows_known (view_of e.hand).known))
    (ap (λ (z : Sizes). z.places) (sym e.measured)) k
