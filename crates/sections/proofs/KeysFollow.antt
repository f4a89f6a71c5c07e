-- What a command makes of the rows of a graph, in the keys that the graph holds.
use Rattle.std.proofs.Common.{◌≡◌, ◌⊎◌, ◌↔◌, inl, inr, ℕ, List, [], ◌∷◌, ◌++◌, Option, Some, None, refl, sym, subst, Contains}
use Rattle.grammar_text.specs.declared.edit.Edit.{Edit as AnEdit}
use Rattle.edit_entry.specs.Entries.{entry_of}
use Rattle.forest.specs.Distinct.{AreAll}
use Rattle.edit_log.specs.declared.refusal.Refusal.{Refusal}
use Rattle.edit_log.specs.History.{Grammar, after_edit}
use Rattle.edit_log.specs.Verdict.{IsProper, IsAccepted, verdict}
use Rattle.pin_rule.specs.declared.content.Entry.{Entry}
use Rattle.pin_rule.specs.declared.sizes.Sizes.{Sizes}
use Rattle.row_coding.specs.Rows.{Key}
use Rattle.script_text.specs.declared.command.Command.{Command}
use Rattle.script_text.specs.declared.command.Command.TheVariants.{Edit, Parse, Tokens, Stats}
use Rattle.graph_content.specs.Affected.{IsUnaffected}
use Rattle.graph_content.specs.Changes.{IsChange}
use Rattle.graph_content.specs.Rows.{IsRowOf}
use Rattle.graph_content.specs.Contents.{IsLogOfGrammar}
use Rattle.graph_content.proofs.Choices.{left_exact}
use Rattle.graph_content.proofs.RowChanges.{row_over}
use Rattle.live_graph.specs.declared.tally.Tallies.{Tallies}
use Rattle.live_graph.specs.Showing.{IsNarrow}
use Rattle.replies.specs.declared.reply.Outcome.{Outcome}
use Rattle.replies.specs.declared.reply.Outcome.TheVariants.{Parsed, Scan, TooLarge}
use Rattle.replies.specs.declared.reply.Reply.{Reply}
use Rattle.replies.specs.declared.reply.Reply.TheVariants.{Edited, Refused, Parse as Parsing, Tokens as Scanning, Held}
use Rattle.replies.specs.Replies.{grammar_after, unless_refused}
use Rattle.replies.specs.Blocks.{IsProperCommand}
use Rattle.sections.specs.Editing.{LeavesUntouched, LeavesBy}
use Rattle.sections.specs.Held.{ReachesKey, ScansKey, AsksFor, UsesGraph, UsesKeys}
use Rattle.sections.specs.Laziness.{SharesRows}
use Rattle.sections.specs.HeldKeys.{AllFit, held_in, JoinsBetween, JoinsParsed, held_unless, FollowsHeld}
use Rattle.sections.proofs.EditedLogs.{log_longer}
use Rattle.sections.proofs.RowCounts.{full_or_not}
use Rattle.sections.proofs.RowsHeld.{one_key_for, narrow_by, fills}

-- ---- texts

module _ (z : Sizes) (log : List Entry) (grammar : Grammar) (is_log : IsLogOfGrammar log grammar) (first last : List (List ℕ))
    (fit : AllFit grammar first) where
  module _ (asked : List Key) (tallies : Tallies) (before after : ℕ) (uses : UsesGraph z grammar asked first last tallies before after) where
    used_fit : AllFit grammar last
    used_fit row there = elim (uses.only row there) [ inl old ↦ fit row old | inr (key, among, is, room) ↦ (key, is) ]

    stays_held : (key : Key) → held_in grammar first key → held_in grammar last key
    stays_held key (row, there, is) = (row, uses.kept row there, is)

    -- a key that came was asked for, and has room
    came : (key : Key) → held_in grammar last key → held_in grammar first key ⊎ (Contains asked key × IsNarrow z grammar key)
    came key (row, there, is) = elim (uses.only row there) [
      | inl old ↦ inl (row, old, is)
      | inr (its, among, has, room) ↦
          inr (subst (Contains asked) (one_key_for log grammar is_log row its key has is) among, narrow_by z grammar key row is room)
    ]

    pub joined : (Must May : Key → Type 0) → ((key : Key) → Contains asked key → May key) → ((key : Key) → Must key → Contains asked key)
        → JoinsBetween z grammar Must May (held_in grammar first) (held_in grammar last)
    joined Must May within all = record {
      kept = stays_held;
      only = λ key has. elim (came key has) [ inl old ↦ inl old | inr (among, narrow) ↦ inr (within key among, narrow) ];
      every = elim (full_or_not z last) [
        | inl full ↦ inr (fills log grammar is_log z last used_fit full)
        | inr space ↦ inl (λ key must narrow. elim (uses.stored key (all key must) narrow) [ inl has ↦ has | inr full ↦ absurd (space full) ])
      ];
    }

  module _ (tallies : Tallies) (before after : ℕ) where
    uses_fit : (Asks : List Key → Type 0) → UsesKeys z grammar Asks tallies before after first last → AllFit grammar last
    uses_fit Asks (asked, asks, uses) = used_fit asked tallies before after uses

    all_joined : (Reached : Key → Type 0) → UsesKeys z grammar (AreAll Reached) tallies before after first last
        → JoinsBetween z grammar Reached Reached (held_in grammar first) (held_in grammar last)
    all_joined Reached (asked, asks, uses) = joined asked tallies before after uses Reached Reached asks.within asks.all

    parsed_joined : (text : List ℕ) (outcome : Outcome) → UsesKeys z grammar (AsksFor grammar text outcome) tallies before after first last
        → JoinsParsed z grammar text outcome (held_in grammar first) (held_in grammar last)
    parsed_joined text (Parsed parsed) uses = all_joined (ReachesKey grammar text) uses
    parsed_joined text (Scan error) uses = all_joined (ReachesKey grammar text) uses
    parsed_joined text TooLarge (asked, asks, uses) =
        joined asked tallies before after uses (ScansKey grammar text) (ReachesKey grammar text) asks.within asks.scanned

-- ---- edits

-- the log behind an edit that is taken
pub log_behind : (log : List Entry) (grammar : Grammar) (edit : AnEdit) → IsLogOfGrammar log grammar → IsAccepted grammar edit
    → IsLogOfGrammar (log ++ record { words = entry_of edit } ∷ []) (after_edit grammar edit)
log_behind log grammar edit is_log accepted =
    let entry : Entry = record { words = entry_of edit } in
    log_longer log entry grammar edit is_log accepted refl (log ++ entry ∷ []) (after_edit grammar edit) refl refl

module _ (log : List Entry) (grammar : Grammar) (is_log : IsLogOfGrammar log grammar) (edit : AnEdit) (accepted : IsAccepted grammar edit)
    (first last : List (List ℕ)) (leaves : LeavesUntouched grammar edit first last) where
  abbrev next : Grammar
  next = after_edit grammar edit

  change : IsChange grammar leaves.touch next
  change = record {
    history = is_log.history;
    is_history = is_log.is.is_history;
    made = is_log.made;
    edit = edit;
    accepted = accepted;
    touches = leaves.touches;
    leads = refl;
  }

  -- a row that is left is that of a key which the edit does not affect
  pub left_fit : AllFit next last
  left_fit row there =
      let left = (leaves.kept row there).1 in
      (left.key, row_over grammar next left.key row (left.unaffected next change) left.is)

  was_held : (key : Key) → held_in next last key → held_in grammar first key × IsUnaffected grammar next key
  was_held key (row, there, is) =
      let (old, left) = leaves.kept row there in
      let unaffected = left.unaffected next change in
      let same : left.key ≡ key =
      one_key_for (log ++ record { words = entry_of edit } ∷ []) next (log_behind log grammar edit is_log accepted) row left.key key
      (row_over grammar next left.key row unaffected left.is) is in
      ((row, old, subst (λ k. IsRowOf grammar k row) same left.is), subst (IsUnaffected grammar next) same unaffected)

  is_left : (key : Key) → held_in grammar first key × IsUnaffected grammar next key → held_in next last key
  is_left key ((row, there, is), unaffected) = (
    row,
    leaves.every row there (left_exact grammar next leaves.touch key change row is unaffected),
    row_over grammar next key row unaffected is,
  )

  pub left_held : (key : Key) → held_in next last key ↔ (held_in grammar first key × IsUnaffected grammar next key)
  left_held key = (was_held key, is_left key)

-- by the verdict on the edit
module _ (log : List Entry) (grammar : Grammar) (is_log : IsLogOfGrammar log grammar) (edit : AnEdit) (proper : IsProper edit)
    (first last : List (List ℕ)) (fit : AllFit grammar first) where
  edited_fit : (v : Option Refusal) → verdict grammar edit ≡ v → LeavesBy v grammar edit first last → AllFit (unless_refused v grammar edit) last
  edited_fit None is leaves = left_fit log grammar is_log edit (record { proper = proper; taken = is }) first last leaves
  edited_fit (Some why) is same = subst (AllFit grammar) (sym same) fit

  edited_held : (v : Option Refusal) → verdict grammar edit ≡ v → LeavesBy v grammar edit first last → (key : Key)
      → held_in (unless_refused v grammar edit) last key ↔ held_unless v grammar edit (held_in grammar first) key
  edited_held None is leaves key = left_held log grammar is_log edit (record { proper = proper; taken = is }) first last leaves key
  edited_held (Some why) is same key =
      (λ has. subst (λ rows. held_in grammar rows key) same has, λ has. subst (λ rows. held_in grammar rows key) (sym same) has)

-- ---- commands

module _ (z : Sizes) (log : List Entry) (grammar : Grammar) (is_log : IsLogOfGrammar log grammar) (first last : List (List ℕ)) (fit : AllFit grammar first)
    (tallies : Tallies) (before after : ℕ) where
  pub all_fit : (command : Command) (reply : Reply) → IsProperCommand command → SharesRows z grammar command reply tallies before after first last
      → AllFit (grammar_after grammar command) last
  all_fit (Edit edit) reply proper shares = edited_fit log grammar is_log edit proper first last fit (verdict grammar edit) refl shares.0.leaves
  all_fit (Parse text) (Parsing version outcome) proper shares =
      uses_fit z log grammar is_log first last fit tallies before after (AsksFor grammar text outcome) shares
  all_fit (Parse text) (Scanning version result) proper never = absurd never
  all_fit (Parse text) (Edited version) proper never = absurd never
  all_fit (Parse text) (Refused why) proper never = absurd never
  all_fit (Parse text) (Held items n) proper never = absurd never
  all_fit (Tokens text) reply proper shares =
      uses_fit z log grammar is_log first last fit tallies before after (AreAll (ScansKey grammar text)) shares
  all_fit Stats (Held items n) proper shares = λ row there. fit row (shares.0.stays.kept row there)
  all_fit Stats (Edited version) proper shares = absurd shares.0
  all_fit Stats (Refused why) proper shares = absurd shares.0
  all_fit Stats (Parsing version outcome) proper shares = absurd shares.0
  all_fit Stats (Scanning version result) proper shares = absurd shares.0

  pub keys_follow : (command : Command) (reply : Reply) → IsProperCommand command → SharesRows z grammar command reply tallies before after first last
      → FollowsHeld z grammar command reply (held_in grammar first) (held_in (grammar_after grammar command) last)
  keys_follow (Edit edit) reply proper shares = edited_held log grammar is_log edit proper first last fit (verdict grammar edit) refl shares.0.leaves
  keys_follow (Parse text) (Parsing version outcome) proper shares =
      parsed_joined z log grammar is_log first last fit tallies before after text outcome shares
  keys_follow (Parse text) (Scanning version result) proper never = absurd never
  keys_follow (Parse text) (Edited version) proper never = absurd never
  keys_follow (Parse text) (Refused why) proper never = absurd never
  keys_follow (Parse text) (Held items n) proper never = absurd never
  keys_follow (Tokens text) reply proper shares = all_joined z log grammar is_log first last fit tallies before after (ScansKey grammar text) shares
  keys_follow Stats (Held items n) proper shares = λ key. (
    λ held. (held.0, shares.0.stays.kept held.0 held.1, held.2),
    λ held. (held.0, shares.0.stays.every held.0 held.1, held.2),
  )
  keys_follow Stats (Edited version) proper shares = absurd shares.0
  keys_follow Stats (Refused why) proper shares = absurd shares.0
  keys_follow Stats (Parsing version outcome) proper shares = absurd shares.0
  keys_follow Stats (Scanning version result) proper shares = absurd shares.0
