use Rattle.std.proofs.Common.{sym, ap, ◌∙◌, subst}
use Rattle.pin_rule.specs.declared.view.View.{View}
use Rattle.version_store.specs.Roles.{role_of}
use Rattle.version_store.specs.Graphs.{rows_known, IsWholeKnown}
use Rattle.version_store.proofs.EmptyPages.{empty_known, no_rows}
use Rattle.version_store.proofs.bench.Bench.make.Goals as goal

pub invariant_of-result : goal.invariant_of-result
invariant_of-result g c = let e = c.in_ok-hand.ensures in record {
  has_all = ap (λ (v : View). v.share) e;
  one_version = ap (λ (v : View). (role_of v).older) e;
  all_known = ∣ subst (λ (v : View). IsWholeKnown c.args.sizes v.known) (sym e) (empty_known c.args.sizes) ∣₁;
}

pub returns : goal.returns
returns g c = let e = c.in_ok-hand.ensures in record {
  sizes = ap (λ (v : View). v.sizes) e;
  log = ap (λ (v : View). v.log) e;
  pins_left = ap (λ (v : View). v.pins_left) e;
  graph = ap (λ (v : View). rows_known v.known) e ∙ no_rows c.args.sizes.places;
  steps = ap (λ (v : View). v.steps) e;
}
