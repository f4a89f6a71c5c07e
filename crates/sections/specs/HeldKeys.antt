-- Which keys the graph of a bench holds: what a command makes of them, and what a list of commands does.
use Rattle.std.specs.Prelude.{◌≡◌, ◌⊎◌, ◌↔◌, ◌≤◌, ℕ, List, [], ◌∷◌, Contains, length, Option, Some, None}
use Rattle.grammar_text.specs.declared.edit.Edit.{Edit as AnEdit}
use Rattle.forest.specs.Distinct.{IsDistinct}
use Rattle.edit_log.specs.declared.refusal.Refusal.{Refusal}
use Rattle.edit_log.specs.History.{Grammar, after_edit}
use Rattle.edit_log.specs.Verdict.{verdict}
use Rattle.script_text.specs.declared.command.Command.{Command}
use Rattle.script_text.specs.declared.command.Command.TheVariants.{Edit, Parse, Tokens, Stats}
use Rattle.script_text.specs.declared.command.Block.{Block}
use Rattle.script_text.specs.declared.command.Block.TheVariants.{Alone, Par}
use Rattle.pin_rule.specs.declared.sizes.Sizes.{Sizes}
use Rattle.pin_rule.specs.Lists.{In}
use Rattle.row_coding.specs.Rows.{Key}
use Rattle.graph_content.specs.Affected.{IsUnaffected}
use Rattle.graph_content.specs.Rows.{Fits}
use Rattle.live_graph.specs.Showing.{IsNarrow}
use Rattle.live_graph.specs.Growing.{HasRowOf}
use Rattle.replies.specs.declared.reply.Outcome.{Outcome}
use Rattle.replies.specs.declared.reply.Outcome.TheVariants.{Parsed, Scan, TooLarge}
use Rattle.replies.specs.declared.reply.Reply.{Reply}
use Rattle.replies.specs.declared.reply.Reply.TheVariants.{Edited, Refused, Parse as Parsing, Tokens as Scanning, Held}
use Rattle.replies.specs.Replies.{IsOutcome, grammar_after}
use Rattle.sections.specs.Held.{ReachesKey, ScansKey}

-- ---- the keys of a graph

-- each of the rows is that of a key of the grammar
abbrev pub AllFit : Grammar → List (List ℕ) → Type 0
AllFit grammar rows = (row : List ℕ) → In row rows → Fits grammar row

-- the keys that have a row there
abbrev pub held_in : Grammar → List (List ℕ) → Key → Type 0
held_in grammar rows key = HasRowOf grammar key rows

-- so many keys are held, no two of them the same
pub record HoldsAsMany (held : Key → Type 0) (count : ℕ) : Type 0 where
  pub keys : List Key
  pub many : length keys ≡ count
  pub once : IsDistinct keys
  pub known : (key : Key) → Contains keys key → held key

-- as many keys are held as the page has places, or as the table has rows
abbrev pub FillsTable : Sizes → (held : Key → Type 0) → Type 0
FillsTable z held = HoldsAsMany held z.places ⊎ HoldsAsMany held z.rows

-- no more keys are held than the page has places, and than the table has rows
abbrev pub FitsTable : Sizes → (held : Key → Type 0) → Type 0
FitsTable z held =
    (keys : List Key) → IsDistinct keys → ((key : Key) → Contains keys key → held key) → (length keys ≤ z.places) × (length keys ≤ z.rows)

-- ---- what a command makes of them

-- the keys that are held, and those that are reached and have room in a row
abbrev pub held_with : Sizes → Grammar → (Reached held : Key → Type 0) → Key → Type 0
held_with z grammar Reached held key = held key ⊎ (Reached key × IsNarrow z grammar key)

-- No key went, and only keys that may be reached and have room came. All that must be reached and have room are held, unless the table is full.
pub record JoinsBetween (z : Sizes) (grammar : Grammar) (Must May old new : Key → Type 0) : Type 0 where
  pub kept : (key : Key) → old key → new key
  pub only : (key : Key) → new key → held_with z grammar May old key
  pub every : ((key : Key) → Must key → IsNarrow z grammar key → new key) ⊎ FillsTable z new

-- the keys that are reached joined those that were held
abbrev pub JoinsHeld : Sizes → Grammar → (Reached old new : Key → Type 0) → Type 0
JoinsHeld z grammar Reached old new = JoinsBetween z grammar Reached Reached old new

-- some of the keys that the text reaches joined them, and among these all that its scan reaches
abbrev pub JoinsSome : Sizes → Grammar → List ℕ → (old new : Key → Type 0) → Type 0
JoinsSome z grammar text old new = JoinsBetween z grammar (ScansKey grammar text) (ReachesKey grammar text) old new

-- by how the text is parsed
abbrev pub JoinsParsed : Sizes → Grammar → List ℕ → Outcome → (old new : Key → Type 0) → Type 0
JoinsParsed z grammar text (Parsed parsed) old new = JoinsHeld z grammar (ReachesKey grammar text) old new
JoinsParsed z grammar text (Scan error) old new = JoinsHeld z grammar (ReachesKey grammar text) old new
JoinsParsed z grammar text TooLarge old new = JoinsSome z grammar text old new

-- by the reply to a text that is to be parsed; no other reply is told of one
abbrev pub JoinsReplied : Sizes → Grammar → List ℕ → Reply → (old new : Key → Type 0) → Type 0
JoinsReplied z grammar text (Parsing version outcome) old new = JoinsParsed z grammar text outcome old new
JoinsReplied z grammar text (Scanning version result) old new = ⊥
JoinsReplied z grammar text (Edited version) old new = ⊥
JoinsReplied z grammar text (Refused why) old new = ⊥
JoinsReplied z grammar text (Held items n) old new = ⊥

-- an edit that is taken leaves the keys that it does not affect
abbrev pub held_unless : Option Refusal → Grammar → AnEdit → (held : Key → Type 0) → Key → Type 0
held_unless None grammar edit held key = held key × IsUnaffected grammar (after_edit grammar edit) key
held_unless (Some why) grammar edit held key = held key

-- and a refused one leaves all
abbrev pub held_behind : Grammar → AnEdit → (held : Key → Type 0) → Key → Type 0
held_behind grammar edit held key = held_unless (verdict grammar edit) grammar edit held key

-- the keys that are held after a command with this reply follow from those before it
abbrev pub FollowsHeld : Sizes → Grammar → Command → Reply → (old new : Key → Type 0) → Type 0
FollowsHeld z grammar (Edit edit) reply old new = (key : Key) → new key ↔ held_behind grammar edit old key
FollowsHeld z grammar (Parse text) reply old new = JoinsReplied z grammar text reply old new
FollowsHeld z grammar (Tokens text) reply old new = JoinsHeld z grammar (ScansKey grammar text) old new
FollowsHeld z grammar Stats reply old new = (key : Key) → new key ↔ old key

-- ---- where there is room for all

-- the keys that are held after the command
abbrev pub held_next : Sizes → Grammar → Command → (held : Key → Type 0) → Key → Type 0
held_next z grammar (Edit edit) held key = held_behind grammar edit held key
held_next z grammar (Parse text) held key = held_with z grammar (ReachesKey grammar text) held key
held_next z grammar (Tokens text) held key = held_with z grammar (ScansKey grammar text) held key
held_next z grammar Stats held key = held key

-- the keys that are held after all commands, one after the other
abbrev pub held_after : Sizes → Grammar → List Block → (held : Key → Type 0) → Key → Type 0
held_after z grammar [] held key = held key
held_after z grammar (Alone command ∷ blocks) held key = held_after z (grammar_after grammar command) blocks (held_next z grammar command held) key
held_after z grammar (Par commands ∷ blocks) held key = held_after z grammar blocks held key

-- no parse of the command is too large
abbrev pub IsNeverTooLarge : Grammar → Command → Type 0
IsNeverTooLarge grammar (Edit edit) = Unit {0}
IsNeverTooLarge grammar (Parse text) = IsOutcome grammar text TooLarge → ⊥
IsNeverTooLarge grammar (Tokens text) = Unit {0}
IsNeverTooLarge grammar Stats = Unit {0}

-- no parse is too large, and the table has room for the keys that are held after each command
abbrev pub IsRoomy : Sizes → Grammar → List Block → (held : Key → Type 0) → Type 0
IsRoomy z grammar [] held = Unit {0}
IsRoomy z grammar (Alone command ∷ blocks) held =
    IsNeverTooLarge grammar command × FitsTable z (held_next z grammar command held)
    × IsRoomy z (grammar_after grammar command) blocks (held_next z grammar command held)
IsRoomy z grammar (Par commands ∷ blocks) held = IsRoomy z grammar blocks held
