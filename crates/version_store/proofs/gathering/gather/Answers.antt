use Rattle.std.proofs.Common.{◌≡◌, ℕ, [], List, map, sym, ap, ◌∙◌, subst}
use Rattle.pin_rule.specs.declared.sizes.Sizes.{Sizes}
use Rattle.version_store.specs.Graphs.{IsWholeKnown}
use Rattle.pin_rule.specs.Hands.{view_of, table_of}
use Rattle.pin_rule.specs.Views.{whole}
use Rattle.slot_store.specs.Meaning.{PassMeaning}
use Rattle.slot_store.specs.Means.{pass_of}
use Rattle.version_store.specs.Means.{editor_of}
use Rattle.version_store.specs.Meaning.{EditorMeaning}
use Rattle.version_store.specs.GivingUp.{GivesUp, GivesUpAll}
use Rattle.version_store.specs.Gathering.{AreAllOf, taken_in_all}
use Rattle.version_store.proofs.TakenIn.{all_taken_in, all_given, share_is, older_is, gathers}
use Rattle.version_store.proofs.gathering.gather.Goals as goal

-- the whole share was taken in
has_whole : (m n : EditorMeaning) (ps : List PassMeaning) → n ≡ taken_in_all ps m → AreAllOf m ps → n.share ≡ whole
has_whole m n ps is all = ap (λ (y : EditorMeaning). y.share) is ∙ (all_taken_in m ps).share ∙ all.shares

given_of : (m n k : EditorMeaning) (ps : List PassMeaning) (count : ℕ) → n ≡ taken_in_all ps m → GivesUpAll count n k → k.older ≡ []
    → GivesUp count (taken_in_all ps m) k
given_of m n k ps count is g none = subst (λ (l : EditorMeaning). GivesUp count l k) is (all_given count n k g none)

pub invariant_of-result : goal.invariant_of-result
invariant_of-result g c = let m = editor_of c.args.editor in let ps = map pass_of c.args.passes.items in let n = editor_of c.take_in_all.new.self in
    let k = editor_of c.give_up.new.self in let all = has_whole m n ps c.take_in_all.ensures c.requires in let none = c.give_up.ensures.alone all in
    let gave = given_of m n k ps c.give_up.result c.take_in_all.ensures c.give_up.ensures.given none in let r = c.read_all.ensures in
    let x = view_of c.read_all.new.self.hand in let t = table_of c.read_all.new.self.hand in
    let share = share_is m ps c.give_up.result k gave none x t r.0 r.1 ∙ c.requires.shares in record {
      has_all = share;
      one_version = older_is m ps c.give_up.result k gave none x t r.0 r.1;
      all_known = ∣ subst (λ (z : Sizes). IsWholeKnown z x.known) (sym c.give_up.new.self.measured ∙ sym (ap (λ (y : EditorMeaning). y.sizes) r.1.is)
          ∙ c.read_all.new.self.measured) (r.2 (sym (ap (λ (y : EditorMeaning). y.share) r.1.is) ∙ share)).all_known ∣₁;
    }

pub returns : goal.returns
returns g c = let m = editor_of c.args.editor in let ps = map pass_of c.args.passes.items in let n = editor_of c.take_in_all.new.self in
    let k = editor_of c.give_up.new.self in let none = c.give_up.ensures.alone (has_whole m n ps c.take_in_all.ensures c.requires) in
    let gave = given_of m n k ps c.give_up.result c.take_in_all.ensures c.give_up.ensures.given none in let r = c.read_all.ensures in
    let x = view_of c.read_all.new.self.hand in let t = table_of c.read_all.new.self.hand in
    let share = share_is m ps c.give_up.result k gave none x t r.0 r.1 ∙ c.requires.shares in
    gathers m ps c.give_up.result k gave none x t r.0 r.1 c.give_up.new.self.sizes (r.2 (sym (ap (λ (y : EditorMeaning). y.share) r.1.is) ∙ share))
