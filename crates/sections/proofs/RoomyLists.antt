-- Where there is room for all keys that commands reach, the graph holds exactly those.
use Rattle.std.proofs.Common.{◌≡◌, ◌⊎◌, ◌↔◌, inl, inr, ℕ, ◌≤◌, List, [], ◌∷◌, ◌++◌, length, Option, Some, None, refl, subst, arith, Contains}
use Rattle.std.specs.List.{AllByRecursion}
use Rattle.edit_entry.specs.Entries.{entry_of}
use Rattle.grammar_text.specs.declared.edit.Edit.{Edit as AnEdit}
use Rattle.forest.specs.Distinct.{IsDistinct}
use Rattle.forest.proofs.Ascending.{contains_cases}
use Rattle.edit_log.specs.declared.refusal.Refusal.{Refusal}
use Rattle.edit_log.specs.History.{Grammar}
use Rattle.edit_log.specs.Verdict.{IsProper, verdict}
use Rattle.pin_rule.specs.declared.content.Entry.{Entry}
use Rattle.pin_rule.specs.declared.sizes.Sizes.{Sizes}
use Rattle.row_coding.specs.Rows.{Key}
use Rattle.script_text.specs.declared.command.Command.{Command}
use Rattle.script_text.specs.declared.command.Command.TheVariants.{Edit, Parse, Tokens, Stats}
use Rattle.script_text.specs.declared.command.Block.{Block}
use Rattle.script_text.specs.declared.command.Block.TheVariants.{Alone, Par}
use Rattle.graph_content.specs.Contents.{IsLogOfGrammar}
use Rattle.live_graph.specs.Showing.{IsNarrow}
use Rattle.replies.specs.declared.reply.Outcome.{Outcome}
use Rattle.replies.specs.declared.reply.Outcome.TheVariants.{Parsed, Scan, TooLarge}
use Rattle.replies.specs.declared.reply.Reply.{Reply}
use Rattle.replies.specs.declared.reply.Reply.TheVariants.{Edited, Refused, Parse as Parsing, Tokens as Scanning, Held}
use Rattle.replies.specs.Replies.{IsOutcome, IsReply, parsed, grammar_after, unless_refused}
use Rattle.replies.specs.Blocks.{IsProperCommand, IsProperBlock, grammar_after_all}
use Rattle.sections.specs.Held.{ReachesKey, ScansKey}
use Rattle.sections.specs.Shared.{AreShared, none_shared, more_shared}
use Rattle.sections.specs.HeldKeys.{AllFit, held_in, HoldsAsMany, FillsTable, FitsTable, held_with, JoinsHeld, JoinsParsed}
use Rattle.sections.specs.HeldKeys.{held_unless, FollowsHeld, held_next, held_after, IsNeverTooLarge, IsRoomy}
use Rattle.sections.proofs.RowsHeld.{held_or_not}
use Rattle.sections.proofs.KeysFollow.{log_behind, all_fit, keys_follow}

-- ---- sets of keys

-- a key that is in the one set and not in the other, which is part of it, and many of the other, are one more
one_more : (Part Whole : Key → Type 0) → ((key : Key) → Part key → Whole key) → (key : Key) → Whole key → (Part key → ⊥) → (count limit : ℕ)
    → ((keys : List Key) → IsDistinct keys → ((k : Key) → Contains keys k → Whole k) → length keys ≤ limit) → HoldsAsMany Part count → count ≡ limit → ⊥
one_more Part Whole among key is lacks count limit most has same =
    let longer = most (key ∷ has.keys) (λ there. lacks (has.known key there), has.once) (λ k there. elim (contains_cases key has.keys k there) [
      | inl e ↦ subst Whole e is
      | inr later ↦ among k (has.known k later)
    ]) in
    let many = has.many in
    absurd (omega (arith, longer, many, same))

module _ (z : Sizes) (grammar : Grammar) (Reached old new held : Key → Type 0) (joins : JoinsHeld z grammar Reached old new)
    (same : (key : Key) → old key ↔ held key) (room : FitsTable z (held_with z grammar Reached held))
    (held_or_lacks : (key : Key) → new key ⊎ (new key → ⊥)) where
  came : (key : Key) → new key → held_with z grammar Reached held key
  came key has = elim (joins.only key has) [ inl was ↦ inl ((same key).0 was) | inr both ↦ inr both ]

  never_full : (key : Key) → held_with z grammar Reached held key → (new key → ⊥) → FillsTable z new → ⊥
  never_full key is lacks (inl full) =
      one_more new (held_with z grammar Reached held) came key is lacks z.places z.places (λ keys once among. (room keys once among).0) full refl
  never_full key is lacks (inr full) =
      one_more new (held_with z grammar Reached held) came key is lacks z.rows z.rows (λ keys once among. (room keys once among).1) full refl

  joins_in : (key : Key) → Reached key → IsNarrow z grammar key → new key
  joins_in key reached narrow = elim joins.every [
    | inl every ↦ every key reached narrow
    | inr full ↦ elim (held_or_lacks key) [ inl has ↦ has | inr lacks ↦ absurd (never_full key (inr (reached, narrow)) lacks full) ]
  ]

  pub all_join : (key : Key) → new key ↔ held_with z grammar Reached held key
  all_join key = (came key, λ is. elim is [ inl was ↦ joins.kept key ((same key).1 was) | inr (reached, narrow) ↦ joins_in key reached narrow ])

-- ---- one command

module _ (z : Sizes) (grammar : Grammar) (old new held : Key → Type 0) (same : (key : Key) → old key ↔ held key)
    (held_or_lacks : (key : Key) → new key ⊎ (new key → ⊥)) where
  edit_next : (edit : AnEdit) (v : Option Refusal) → ((key : Key) → new key ↔ held_unless v grammar edit old key) → (key : Key)
      → new key ↔ held_unless v grammar edit held key
  edit_next edit None follows key = (
    λ has. let (was, left) = (follows key).0 has in ((same key).0 was, left),
    λ (was, left). (follows key).1 ((same key).1 was, left),
  )
  edit_next edit (Some why) follows key = (λ has. (same key).0 ((follows key).0 has), λ was. (follows key).1 ((same key).1 was))

  parsed_next : (text : List ℕ) (outcome : Outcome) → (outcome ≡ TooLarge → ⊥) → FitsTable z (held_with z grammar (ReachesKey grammar text) held)
      → JoinsParsed z grammar text outcome old new → (key : Key) → new key ↔ held_with z grammar (ReachesKey grammar text) held key
  parsed_next text (Parsed found) small room joins = all_join z grammar (ReachesKey grammar text) old new held joins same room held_or_lacks
  parsed_next text (Scan error) small room joins = all_join z grammar (ReachesKey grammar text) old new held joins same room held_or_lacks
  parsed_next text TooLarge small room joins = absurd (small refl)

  outcome_by : (text : List ℕ) (version : ℕ) (outcome : Outcome) → IsReply grammar (Parse text) (Parsing version outcome) → IsOutcome grammar text outcome
  outcome_by text version outcome (parsed is) = is

  pub next_held : (command : Command) (reply : Reply) → IsReply grammar command reply → IsNeverTooLarge grammar command
      → FitsTable z (held_next z grammar command held) → FollowsHeld z grammar command reply old new → (key : Key)
      → new key ↔ held_next z grammar command held key
  next_held (Edit edit) reply is small room follows = edit_next edit (verdict grammar edit) follows
  next_held (Parse text) (Parsing version outcome) is small room follows =
      parsed_next text outcome (λ large. small (subst (IsOutcome grammar text) large (outcome_by text version outcome is))) room follows
  next_held (Parse text) (Scanning version result) is small room never = absurd never
  next_held (Parse text) (Edited version) is small room never = absurd never
  next_held (Parse text) (Refused why) is small room never = absurd never
  next_held (Parse text) (Held items n) is small room never = absurd never
  next_held (Tokens text) reply is small room follows = all_join z grammar (ScansKey grammar text) old new held follows same room held_or_lacks
  next_held Stats reply is small room follows =
      λ key. (λ has. (same key).0 ((follows key).0 has), λ was. (follows key).1 ((same key).1 was))

-- ---- all commands

-- some log is that of the grammar behind a command
record HasLog (grammar : Grammar) : Type 0 where
  pub log : List Entry
  pub is : IsLogOfGrammar log grammar

module _ (log : List Entry) (grammar : Grammar) (is_log : IsLogOfGrammar log grammar) where
  log_unless : (edit : AnEdit) → IsProper edit → (v : Option Refusal) → verdict grammar edit ≡ v → HasLog (unless_refused v grammar edit)
  log_unless edit proper None is = record {
    log = log ++ record { words = entry_of edit } ∷ [];
    is = log_behind log grammar edit is_log (record { proper = proper; taken = is });
  }
  log_unless edit proper (Some why) is = record { log = log; is = is_log }

  log_after : (command : Command) → IsProperCommand command → HasLog (grammar_after grammar command)
  log_after (Edit edit) proper = log_unless edit proper (verdict grammar edit) refl
  log_after (Parse text) proper = record { log = log; is = is_log }
  log_after (Tokens text) proper = record { log = log; is = is_log }
  log_after Stats proper = record { log = log; is = is_log }

module _ (z : Sizes) where
  pub all_fit_last : (log : List Entry) (grammar : Grammar) (blocks : List Block) (first last : List (List ℕ)) → IsLogOfGrammar log grammar
      → AllByRecursion IsProperBlock blocks → AllFit grammar first → AreShared z grammar blocks first last → AllFit (grammar_after_all grammar blocks) last
  all_fit_last log grammar [] first last is_log proper fit none_shared = fit
  all_fit_last log grammar (Alone command ∷ blocks) first last is_log proper fit (more_shared {next = next} shares rest) =
      let behind = log_after log grammar is_log command proper.0 in
      let fits = all_fit z log grammar is_log first next fit shares.tallies shares.before shares.after command shares.reply proper.0 shares.shares in
      all_fit_last behind.log (grammar_after grammar command) blocks next last behind.is proper.1 fits rest
  all_fit_last log grammar (Par commands ∷ blocks) first last is_log proper fit shared = absurd proper.0

  pub held_last : (log : List Entry) (grammar : Grammar) (blocks : List Block) (first last : List (List ℕ)) (held : Key → Type 0) → IsLogOfGrammar log grammar
      → AllByRecursion IsProperBlock blocks → AllFit grammar first → ((key : Key) → held_in grammar first key ↔ held key) → IsRoomy z grammar blocks held
      → AreShared z grammar blocks first last → (key : Key) → held_in (grammar_after_all grammar blocks) last key ↔ held_after z grammar blocks held key
  held_last log grammar [] first last held is_log proper fit same roomy none_shared key = same key
  held_last log grammar (Alone command ∷ blocks) first last held is_log proper fit same roomy (more_shared {next = next} shares rest) key =
      let behind = log_after log grammar is_log command proper.0 in
      let after = grammar_after grammar command in
      let fits = all_fit z log grammar is_log first next fit shares.tallies shares.before shares.after command shares.reply proper.0 shares.shares in
      let follows = keys_follow z log grammar is_log first next fit shares.tallies shares.before shares.after command shares.reply proper.0 shares.shares in
      let one = next_held z grammar (held_in grammar first) (held_in after next) held same (held_or_not behind.log after behind.is next fits) command
      shares.reply shares.is roomy.0 roomy.1 follows in
      held_last behind.log after blocks next last (held_next z grammar command held) behind.is proper.1 fits one roomy.2 rest key
  held_last log grammar (Par commands ∷ blocks) first last held is_log proper fit same roomy shared key = absurd proper.0
