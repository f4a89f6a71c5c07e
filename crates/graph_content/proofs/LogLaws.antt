-- A log is that of one history, and an accepted edit's entry makes it longer.
use Rattle.std.proofs.Common.{◌≡◌, ℕ, List, [], ◌∷◌, ◌++◌, map, refl, sym, ap, ◌∙◌, subst}
use Rattle.std.specs.Prelude.{fold}
use Rattle.std.proofs.lemmas.List.{map-append}
use Rattle.std.proofs.lemmas.List.Sums.{fold-append}
use Rattle.grammar_text.specs.declared.edit.Edit.{Edit}
use Rattle.edit_entry.specs.Entries.{entry_of}
use Rattle.edit_entry.proofs.EntryLaws.{one_entry}
use Rattle.edit_log.specs.History.{Grammar, empty_grammar, after_edit, grammar_of}
use Rattle.edit_log.specs.Verdict.{AreAccepted, IsAccepted, IsHistory}
use Rattle.pin_rule.specs.declared.content.Entry.{Entry}
use Rattle.graph_content.specs.Contents.{IsLogOf, IsLogOfGrammar}

-- ---- lists of edits

same_heads : {X : Type 0} {x y : X} {xs ys : List X} → x ∷ xs ≡ y ∷ ys → x ≡ y
same_heads e = cc

same_tails : {X : Type 0} {x y : X} {xs ys : List X} → x ∷ xs ≡ y ∷ ys → xs ≡ ys
same_tails e = cc

same_edits : (g h : Grammar) (one other : List Edit) → AreAccepted g one → AreAccepted h other → map entry_of one ≡ map entry_of other → one ≡ other
same_edits g h [] [] p q e = refl
same_edits g h [] (y ∷ ys) p q e = absurd cc
same_edits g h (x ∷ xs) [] p q e = absurd cc
same_edits g h (x ∷ xs) (y ∷ ys) p q e =
    let first : x ≡ y = one_entry x y p.0.proper.0 q.0.proper.0 (same_heads e) in
    let others : xs ≡ ys = same_edits (after_edit g x) (after_edit h y) xs ys p.1 q.1 (same_tails e) in
    ap (λ z. z ∷ xs) first ∙ ap (λ zs. y ∷ zs) others

pub accepted_push : (g : Grammar) (edits : List Edit) (edit : Edit) → AreAccepted g edits → IsAccepted (fold after_edit g edits) edit
    → AreAccepted g (edits ++ edit ∷ [])
accepted_push g [] edit are is = (is, tt)
accepted_push g (first ∷ edits) edit are is = (are.0, accepted_push (after_edit g first) edits edit are.1 is)

pub accepted_front : (g : Grammar) (edits others : List Edit) → AreAccepted g (edits ++ others) → AreAccepted g edits
accepted_front g [] others are = tt
accepted_front g (first ∷ edits) others are = (are.0, accepted_front (after_edit g first) edits others are.1)

pub accepted_next : (g : Grammar) (edits : List Edit) (edit : Edit) (others : List Edit) → AreAccepted g (edits ++ edit ∷ others)
    → IsAccepted (fold after_edit g edits) edit
accepted_next g [] edit others are = are.0
accepted_next g (first ∷ edits) edit others are = accepted_next (after_edit g first) edits edit others are.1

pub grammar_push : (edits : List Edit) (edit : Edit) → grammar_of (edits ++ edit ∷ []) ≡ after_edit (grammar_of edits) edit
grammar_push edits edit = fold-append after_edit empty_grammar edits (edit ∷ [])

-- ---- logs

pub one_history : (log : List Entry) (one other : List Edit) → IsLogOf log one → IsLogOf log other → one ≡ other
one_history log one other is that = same_edits empty_grammar empty_grammar one other is.is_history that.is_history (sym is.entries ∙ that.entries)

pub one_grammar : (log : List Entry) (one other : Grammar) → IsLogOfGrammar log one → IsLogOfGrammar log other → one ≡ other
one_grammar log one other is that = is.made ∙ ap grammar_of (one_history log is.history that.history is.is that.is) ∙ sym that.made

pub log_push : (log : List Entry) (history : List Edit) (entry : Entry) (edit : Edit) → IsLogOf log history → IsAccepted (grammar_of history) edit
    → entry.words ≡ entry_of edit → IsLogOf (log ++ entry ∷ []) (history ++ edit ∷ [])
log_push log history entry edit is accepted words = record {
  is_history = accepted_push empty_grammar history edit is.is_history accepted;
  entries =
      map-append (λ (e : Entry). e.words) log (entry ∷ []) ∙ ap (λ front. front ++ entry.words ∷ []) is.entries
      ∙ ap (λ last. map entry_of history ++ last ∷ []) words
      ∙ sym (map-append entry_of history (edit ∷ []));
}
