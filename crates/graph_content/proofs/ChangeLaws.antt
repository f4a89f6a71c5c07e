-- An edit affects exactly the keys that it touches.
use Rattle.std.proofs.Common.{◌≡◌, ◌⊎◌, inl, inr, List, Some, sym, subst, IsTrue, Contains}
use Rattle.grammar_text.specs.declared.edit.Edit.{Edit}
use Rattle.edit_log.specs.declared.touch.Touch.{Touch}
use Rattle.edit_log.specs.History.{Grammar, after_edit, grammar_of}
use Rattle.edit_log.specs.Facts.{IsWellFormed}
use Rattle.edit_log.specs.Verdict.{IsAccepted, IsHistory}
use Rattle.edit_log.specs.Touches.{IsTouchOf}
use Rattle.edit_log.proofs.HistoryLaws.{well_formed_always}
use Rattle.item_sets.specs.declared.item.Item.{Item}
use Rattle.isg_states.specs.declared.mark.Mark.{Mark}
use Rattle.isg_states.specs.declared.scan_key.ScanKey.TheVariants.{Start, Set}
use Rattle.row_coding.specs.Rows.{Key, kernel, scan}
use Rattle.graph_content.specs.Affected.{IsKey, IsUnaffected, IsAffected}
use Rattle.graph_content.specs.Changes.{IsChange, IsTouched}
use Rattle.graph_content.proofs.RuleChanges.{rule_change}
use Rattle.graph_content.proofs.KernelLaws.{TouchesItems, names_gone, moves_on_left, touched_items, untouched_items}
use Rattle.graph_content.proofs.ScanLaws.{untouched_set, touched_set, untouched_start, touched_start}
use Rattle.graph_content.proofs.Readable.{IsReadable, readable_always, readable_next}

-- what is known of a grammar that takes an edit
pub record IsTaken (g : Grammar) (edit : Edit) (touch : Touch) : Type 0 where
  pub well : IsWellFormed g
  pub read : IsReadable g
  pub accepted : IsAccepted g edit
  pub touches : IsTouchOf g edit touch

pub taken : (g next : Grammar) (touch : Touch) (c : IsChange g touch next) → IsTaken g c.edit touch
taken g next touch c = record {
  well = subst IsWellFormed (sym c.made) (well_formed_always c.history c.is_history);
  read = subst IsReadable (sym c.made) (readable_always c.history c.is_history);
  accepted = c.accepted;
  touches = c.touches;
}

touches_items : (g : Grammar) (touch : Touch) (items : List Item) → IsTouched g touch (kernel items) → TouchesItems g.rules touch items
touches_items g touch items (inl (item, c, e)) = names_gone c e
touches_items g touch items (inr (left, e, m)) = moves_on_left e m

items_touched : (g : Grammar) (touch : Touch) (items : List Item) → TouchesItems g.rules touch items → IsTouched g touch (kernel items)
items_touched g touch items (names_gone {item = item} c e) = inl (item, c, e)
items_touched g touch items (moves_on_left {left = left} e m) = inr (left, e, m)

untouched : (g : Grammar) (edit : Edit) (touch : Touch) (key : Key) → IsTaken g edit touch → IsKey g key → (IsTouched g touch key → ⊥)
    → IsUnaffected g (after_edit g edit) key
untouched g edit touch (kernel items) t is none =
    let both = untouched_items g.rules (after_edit g edit).rules touch items (rule_change g edit touch t.well t.accepted t.touches) is.1
    (λ w. none (items_touched g touch items w)) in
    record { stays = (is.0, both.0); same = both.1 }
untouched g edit touch (scan Start) t is none = record { stays = tt; same = untouched_start g edit touch t.well t.accepted t.touches none }
untouched g edit touch (scan (Set marks)) t is none =
    let both = untouched_set g edit touch t.well t.accepted t.touches marks is.1 (λ m c gone. none (m, c, gone)) in
    record { stays = (is.0, both.0); same = both.1 }

touched : (g : Grammar) (edit : Edit) (touch : Touch) (key : Key) → IsTaken g edit touch → IsKey g key → IsTouched g touch key
    → IsAffected g (after_edit g edit) key
touched g edit touch (kernel items) t is w =
    elim (touched_items g.rules (after_edit g edit).rules touch items (rule_change g edit touch t.well t.accepted t.touches) is.1
    (touches_items g touch items w)) [
      | inl gone ↦ inl (λ stays. gone stays.1)
      | inr differs ↦ inr differs
    ]
touched g edit touch (scan Start) t is w = inr (touched_start g edit touch t.well t.accepted t.touches t.read (readable_next g edit t.read t.accepted) w)
touched g edit touch (scan (Set marks)) t is (m, c, gone) = inl (λ stays. touched_set g edit touch t.well t.accepted t.touches marks m c gone stays.1)

pub unaffected : (g next : Grammar) (touch : Touch) (key : Key) → IsChange g touch next → IsKey g key → (IsTouched g touch key → ⊥) → IsUnaffected g next key
unaffected g next touch key c is none =
    subst (λ (other : Grammar). IsUnaffected g other key) (sym c.leads) (untouched g c.edit touch key (taken g next touch c) is none)

pub affected : (g next : Grammar) (touch : Touch) (key : Key) → IsChange g touch next → IsKey g key → IsTouched g touch key → IsAffected g next key
affected g next touch key c is w = subst (λ (other : Grammar). IsAffected g other key) (sym c.leads) (touched g c.edit touch key (taken g next touch c) is w)
