-- What holds along each history.
use Rattle.std.proofs.Common.{◌≡◌, ◌⊎◌, ◌+◌, inl, inr, List, [], ◌∷◌, ◌++◌, ap, sym, ◌∙◌, refl, Contains}
use Rattle.std.specs.Prelude.{fold, true, false}
use Rattle.std.proofs.lemmas.List.Elements.{Contains-push_cases}
use Rattle.grammar_text.specs.declared.edit.Edit.{Edit}
use Rattle.grammar_text.specs.declared.edit.Edit.TheVariants.{AddRule, DropRule, AddToken, DropToken, AddSkip, DropSkip}
use Rattle.forest.specs.declared.rules.Rule.{Rule}
use Rattle.edit_log.specs.Facts.{IsWellFormed}
use Rattle.edit_log.specs.Symbols.{with_symbols, symbols_of, numbered}
use Rattle.edit_log.specs.History.{Definition, Grammar, after_edit, grammar_of, empty_grammar, defined}
use Rattle.edit_log.specs.Verdict.{AreAccepted, IsHistory}
use Rattle.edit_log.proofs.PlainLists.{contains_filter}
use Rattle.edit_log.proofs.After.{well_formed_empty, well_formed_after}

along : (g : Grammar) (edits : List Edit) → IsWellFormed g → AreAccepted g edits → IsWellFormed (fold after_edit g edits)
along g [] well accepted = well
along g (edit ∷ edits) well accepted = along (after_edit g edit) edits (well_formed_after g edit well accepted.0) accepted.1

pub well_formed_always : (history : List Edit) → IsHistory history → IsWellFormed (grammar_of history)
well_formed_always history accepted = along empty_grammar history well_formed_empty accepted

-- the rule is there already, or has this number
pub new_rule : (g : Grammar) (edit : Edit) (live : Rule) → Contains (after_edit g edit).rules live → Contains g.rules live ⊎ (live.number.0 ≡ g.version + 1)
unfolding after_edit
new_rule g (AddRule r) live is = elim (Contains-push_cases g.rules (numbered (with_symbols g.symbols (symbols_of (AddRule r))) (g.version + 1) r) live is) [
  | inl c ↦ inl c
  | inr e ↦ inr (ap (λ (r : Rule). r.number.0) (sym e))
]
new_rule g (DropRule r) live there = inl (contains_filter _ g.rules live there)
new_rule g (AddToken d) live there = inl there
new_rule g (DropToken name) live there = inl there
new_rule g (AddSkip d) live there = inl there
new_rule g (DropSkip name) live there = inl there

pushed : (g : Grammar) (d live : Definition) → d.number.0 ≡ g.version + 1 → Contains (g.definitions ++ d ∷ []) live
    → Contains g.definitions live ⊎ (live.number.0 ≡ g.version + 1)
pushed g d live number there = elim (Contains-push_cases g.definitions d live there) [
  | inl c ↦ inl c
  | inr e ↦ inr (ap (λ (d : Definition). d.number.0) (sym e) ∙ number)
]

pub new_definition : (g : Grammar) (edit : Edit) (live : Definition) → Contains (after_edit g edit).definitions live
    → Contains g.definitions live ⊎ (live.number.0 ≡ g.version + 1)
unfolding after_edit
new_definition g (AddRule r) live there = inl there
new_definition g (DropRule r) live there = inl there
new_definition g (AddToken d) live there = pushed g (defined (with_symbols g.symbols (symbols_of (AddToken d))) (g.version + 1) false d) live refl there
new_definition g (DropToken name) live there = inl (contains_filter _ g.definitions live there)
new_definition g (AddSkip d) live there = pushed g (defined (with_symbols g.symbols (symbols_of (AddSkip d))) (g.version + 1) true d) live refl there
new_definition g (DropSkip name) live there = inl (contains_filter _ g.definitions live there)
