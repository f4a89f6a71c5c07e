-- An edit affects exactly the keys of the scanner that it touches.
use Rattle.std.proofs.Common.{◌≡◌, ℕ, ◌<◌, ◌⊎◌, ◌↔◌, inl, inr, Bool, true, false, List, refl, sym, ◌∙◌, ap, subst, IsTrue, Contains}
use Rattle.grammar_text.specs.declared.edit.Edit.{Edit}
use Rattle.edit_log.specs.declared.touch.Touch.{Touch}
use Rattle.edit_log.specs.declared.definitions.DefId.{DefId}
use Rattle.edit_log.specs.History.{Grammar, after_edit}
use Rattle.edit_log.specs.Facts.{IsWellFormed}
use Rattle.edit_log.specs.Verdict.{IsAccepted}
use Rattle.edit_log.specs.Live.{IsLive, is_live}
use Rattle.edit_log.specs.Touches.{IsTouchOf, IsEnded, ChangesDefinitions}
use Rattle.isg_states.specs.declared.mark.Mark.{Mark}
use Rattle.isg_states.specs.declared.scan_key.ScanKey.{ScanKey}
use Rattle.isg_states.specs.declared.scan_key.ScanKey.TheVariants.{Start, Set}
use Rattle.isg_states.specs.Patterns.{Pattern, HasPattern, IsMark}
use Rattle.isg_states.specs.Expansion.{AreMarks, LeadsTo}
use Rattle.graph_content.specs.Affected.{AreSameRanges}
use Rattle.graph_content.proofs.Patterns.{pattern_kept, pattern_back}
use Rattle.graph_content.proofs.Readable.{IsReadable, IsBegun, is_begun}

stable : (b : Bool) → ((b ≡ true → ⊥) → ⊥) → b ≡ true
stable true h = refl
stable false h = absurd (h (λ e. cc))

-- where a position's patterns go over, so does what leads to it
leads_over : (g next : Grammar) (key : ScanKey) (byte : ℕ) (mark : Mark) → ((p : Pattern) → HasPattern g mark.def p → HasPattern next mark.def p)
    → LeadsTo g key byte mark → LeadsTo next key byte mark
leads_over g next Start byte mark over (first, has) = ((first.0, over first.0 first.1, first.2), (has.0, over has.0 has.1, has.2))
leads_over g next (Set marks) byte mark over ((member, c, (e, follows)), has) =
    ((member, c, (e, (follows.0, over follows.0 follows.1, follows.2))), (has.0, over has.0 has.1, has.2))

-- what leads to a position from a set names the definition of a member
member_of : (g : Grammar) (marks : List Mark) (byte : ℕ) (mark : Mark) (P : DefId → Type 0) → ((m : Mark) → Contains marks m → P m.def)
    → LeadsTo g (Set marks) byte mark → P mark.def
member_of g marks byte mark P each ((member, c, (e, follows)), has) = subst P e (each member c)

-- and from the start that of a live definition
first_live : (g : Grammar) (byte : ℕ) (mark : Mark) → LeadsTo g Start byte mark → IsLive g mark.def
first_live g byte mark (first, has) = first.1.live

module _ (g : Grammar) (edit : Edit) (touch : Touch) (well : IsWellFormed g) (accepted : IsAccepted g edit) (touches : IsTouchOf g edit touch) where
  -- what does not end stays live
  stays_live : (d : DefId) → IsLive g d → (Contains touch.gone_defs d → ⊥) → IsLive (after_edit g edit) d
  stays_live d live none = stable (is_live (after_edit g edit) d) (λ gone. none ((touches.gone_defs.members d).1 (live, gone)))

  pub untouched_set : (marks : List Mark) → AreMarks g (Set marks) → ((m : Mark) → Contains marks m → Contains touch.gone_defs m.def → ⊥)
      → AreMarks (after_edit g edit) (Set marks) × AreSameRanges g (after_edit g edit) (Set marks)
  untouched_set marks are none = (
    λ m c. let is = are m c in (is.0, pattern_kept g edit m.def is.0 well accepted (lives m c) is.1, is.2),
    λ byte mark small. (
      λ leads. leads_over g (after_edit g edit) (Set marks) byte mark
          (λ p has. pattern_kept g edit mark.def p well accepted (member_of g marks byte mark (IsLive (after_edit g edit)) lives leads) has) leads,
      λ leads. leads_over (after_edit g edit) g (Set marks) byte mark
          (λ p has. pattern_back g edit mark.def p well accepted (member_of (after_edit g edit) marks byte mark (IsLive g) (λ m c. (are m c).1.live) leads) has)
          leads,
    ),
  )
    where
      lives : (m : Mark) → Contains marks m → IsLive (after_edit g edit) m.def
      lives m c = stays_live m.def (are m c).1.live (none m c)

  pub touched_set : (marks : List Mark) (m : Mark) → Contains marks m → Contains touch.gone_defs m.def → AreMarks (after_edit g edit) (Set marks) → ⊥
  touched_set marks m c gone are = ((touches.gone_defs.members m.def).0 gone).1 (are m c).1.live

  pub untouched_start : (IsTrue touch.scan → ⊥) → AreSameRanges g (after_edit g edit) Start
  untouched_start none byte mark small = (
    λ leads. leads_over g (after_edit g edit) Start byte mark (λ p has. pattern_kept g edit mark.def p well accepted
        (stable (is_live (after_edit g edit) mark.def) (λ gone. none (touches.scan.1 (mark.def, inl (has.live, gone))))) has) leads,
    λ leads. leads_over (after_edit g edit) g Start byte mark (λ p has. pattern_back g edit mark.def p well accepted
        (stable (is_live g mark.def) (λ gone. none (touches.scan.1 (mark.def, inr (has.live, gone))))) has) leads,
  )

  pub touched_start : IsReadable g → IsReadable (after_edit g edit) → IsTrue touch.scan → AreSameRanges g (after_edit g edit) Start → ⊥
  touched_start read read_next changes same =
      let (d, change) = touches.scan.0 changes in
      elim change [
        | inl ends ↦
            let begun = is_begun g d read ends.0 in
            let there = (same begun.byte begun.mark begun.small).0 begun.leads in
            ends.1 (subst (IsLive (after_edit g edit)) begun.of (first_live (after_edit g edit) begun.byte begun.mark there))
        | inr starts ↦
            let begun = is_begun (after_edit g edit) d read_next starts.0 in
            let here = (same begun.byte begun.mark begun.small).1 begun.leads in
            starts.1 (subst (IsLive g) begun.of (first_live g begun.byte begun.mark here))
      ]
