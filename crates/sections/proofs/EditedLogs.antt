-- The log of a bench goes with the grammar.
use Rattle.std.proofs.Common.{◌≡◌, ℕ, ◌+◌, List, [], ◌∷◌, ◌++◌, length, map, Option, Some, None, refl, sym, ap, ◌∙◌, subst, arith, length-append, eq-eqb}
use Rattle.std.specs.Prelude.{fold}
use Rattle.std.specs.Option.{option_or}
use Rattle.std.proofs.lemmas.List.{length-map}
use Rattle.grammar_text.specs.declared.edit.Edit.{Edit}
use Rattle.edit_entry.specs.Entries.{entry_of}
use Rattle.edit_log.specs.declared.limits.TheConstants.{LOG_LIMIT}
use Rattle.edit_log.specs.declared.refusal.Refusal.{Refusal}
use Rattle.edit_log.specs.declared.refusal.Refusal.TheVariants.{LogFull}
use Rattle.edit_log.specs.Facts.{IsWellFormed}
use Rattle.edit_log.specs.History.{Grammar, empty_grammar, after_edit, grammar_of}
use Rattle.edit_log.specs.Verdict.{IsAccepted, clash, twin, lack, fullness, verdict}
use Rattle.edit_log.proofs.HistoryLaws.{well_formed_always}
use Rattle.pin_rule.specs.declared.content.Entry.{Entry}
use Rattle.graph_content.specs.Contents.{IsLogOf, IsLogOfGrammar, IsLawfulLog}
use Rattle.graph_content.proofs.LogLaws.{log_push, grammar_push}
use Rattle.version_store.specs.Meaning.{BenchMeaning}
use Rattle.version_store.specs.Alone.{EditsAlone}
use Rattle.version_store.proofs.GivenUp.{alike_all}
use Rattle.replies.proofs.ReplySteps.{version_after}

-- ---- the grammar of a log

pub formed_by_log : (log : List Entry) (grammar : Grammar) → IsLogOfGrammar log grammar → IsWellFormed grammar
formed_by_log log grammar is = subst IsWellFormed (sym is.made) (well_formed_always is.history is.is.is_history)

version_along : (g : Grammar) (edits : List Edit) → (fold after_edit g edits).version ≡ g.version + length edits
version_along g [] = omega arith
version_along g (edit ∷ edits) = omega (arith, version_along (after_edit g edit) edits, version_after g edit)

-- the log has an entry for each version
pub version_by_log : (log : List Entry) (grammar : Grammar) → IsLogOfGrammar log grammar → grammar.version ≡ length log
version_by_log log grammar is =
    let made : grammar.version ≡ (grammar_of is.history).version = ap (λ (g : Grammar). g.version) is.made in
    let along = version_along empty_grammar is.history in
    let log_long = length-map log (λ (entry : Entry). entry.words) in
    let history_long = length-map is.history entry_of in
    let same : length (map (λ (entry : Entry). entry.words) log) ≡ length (map entry_of is.history) = ap length is.is.entries in
    omega (arith, made, along, log_long, history_long, same)

-- ---- an edit that is taken

-- there is room for it in the log
pub room_by_verdict : (grammar : Grammar) (edit : Edit) → verdict grammar edit ≡ None → grammar.version ≡ LOG_LIMIT → ⊥
unfolding verdict
room_by_verdict grammar edit taken full = by (clash grammar edit) (twin grammar edit) (lack grammar edit) taken
  where
    last : fullness grammar ≡ Some (LogFull LOG_LIMIT)
    last = rw (eq-eqb grammar.version LOG_LIMIT full) refl

    by : (a b c : Option Refusal) → option_or a (option_or b (option_or c (fullness grammar))) ≡ None → ⊥
    by (Some a) b c e = cc e
    by None (Some b) c e = cc e
    by None None (Some c) e = cc e
    by None None None e = let never : Some (LogFull LOG_LIMIT) ≡ None = sym last ∙ e in cc never

module _ (log : List Entry) (entry : Entry) (grammar : Grammar) (edit : Edit) (is : IsLogOfGrammar log grammar) (accepted : IsAccepted grammar edit)
    (words : entry.words ≡ entry_of edit) where
  pushed : IsLogOf (log ++ entry ∷ []) (is.history ++ edit ∷ [])
  pushed = log_push log is.history entry edit is.is (subst (λ g. IsAccepted g edit) is.made accepted) words

  pub lawful_longer : IsLawfulLog (log ++ entry ∷ [])
  lawful_longer = (is.history ++ edit ∷ [], pushed)

  pub log_longer : (new : List Entry) (next : Grammar) → new ≡ log ++ entry ∷ [] → next ≡ after_edit grammar edit → IsLogOfGrammar new next
  log_longer new next longer made = record {
    history = is.history ++ edit ∷ [];
    is = subst (λ l. IsLogOf l (is.history ++ edit ∷ [])) (sym longer) pushed;
    made = made ∙ ap (λ g. after_edit g edit) is.made ∙ sym (grammar_push is.history edit);
  }

-- ---- an edit of a bench

pub edited_log : (keeps : List ℕ → Type 0) (words : List ℕ) (m n : BenchMeaning) → EditsAlone keeps words m n
    → n.log ≡ m.log ++ record { words = words } ∷ []
edited_log keeps words m n edits =
    let same = alike_all edits.count edits.between edits.after edits.gave_up in
    edits.last.log ∙ same.log ∙ edits.made.log ∙ ap (λ log. log ++ record { words = words } ∷ []) (sym edits.first.log)

-- the version that it makes is the grammar's next one
pub edited_version : (keeps : List ℕ → Type 0) (words : List ℕ) (m n : BenchMeaning) (grammar : Grammar) (version : ℕ) → EditsAlone keeps words m n
    → IsLogOfGrammar m.log grammar → version ≡ length n.log → version ≡ grammar.version + 1
edited_version keeps words m n grammar version edits is told =
    let longer = ap length (edited_log keeps words m n edits) in
    let long = length-append m.log (record { words = words } ∷ []) in
    let before = version_by_log m.log grammar is in
    omega (arith, told, longer, long, before)
