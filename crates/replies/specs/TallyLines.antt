-- The lines that tell how lazy a command was. Numbers are decimals, and every line ends with byte 10.
use Rattle.std.specs.Prelude.{ℕ, List, [], ◌++◌, codes, decimal}
use Rattle.live_graph.specs.declared.tally.Tally.{Tally}
use Rattle.live_graph.specs.declared.tally.Tallies.{Tallies}
use Rattle.replies.specs.declared.reply.Outcome.{Outcome}
use Rattle.replies.specs.declared.reply.Outcome.TheVariants.{Parsed, Scan, TooLarge}
use Rattle.replies.specs.declared.reply.Reply.{Reply}
use Rattle.replies.specs.declared.reply.Reply.TheVariants.{Edited, Refused, Parse, Tokens, Held}

-- an edit dropped so many rows of item sets and of scanner states
abbrev pub dropped_line : ℕ → ℕ → List ℕ
dropped_line items scan = codes "dropped items " ++ decimal items ++ codes " scan " ++ decimal scan ++ codes "\n"

-- a word of a tally, with its number
abbrev pub tally_part : List ℕ → ℕ → List ℕ
tally_part word number = codes " " ++ word ++ codes " " ++ decimal number

-- how many keys of this kind a text asked for, and how many of their expansions came in each way
abbrev pub tally_line : List ℕ → Tally → List ℕ
tally_line kind tally =
    kind ++ tally_part (codes "reached") tally.reached ++ tally_part (codes "made") tally.made ++ tally_part (codes "found") tally.found
    ++ tally_part (codes "raced") tally.raced ++ tally_part (codes "alone") tally.alone ++ codes "\n"

-- the tallies of item sets and of scanner states
abbrev pub both_tallies : Tallies → List ℕ
both_tallies tallies = tally_line (codes "items") tallies.items ++ tally_line (codes "scan") tallies.scan

-- of a parse; one that is too large has none
abbrev pub parse_tallies : Outcome → Tallies → List ℕ
parse_tallies (Parsed parsed) tallies = both_tallies tallies
parse_tallies (Scan error) tallies = both_tallies tallies
parse_tallies TooLarge tallies = []

-- The lines that tell how lazy a command was, by its reply: an accepted edit tells what it dropped, a parse how the expansions of item sets and of scanner
-- states came that it asked for, and a scan those of scanner states
abbrev pub laziness_text : Reply → Tallies → ℕ × ℕ → List ℕ
laziness_text (Edited version) tallies dropped = dropped_line dropped.0 dropped.1
laziness_text (Refused why) tallies dropped = []
laziness_text (Parse version outcome) tallies dropped = parse_tallies outcome tallies
laziness_text (Tokens version result) tallies dropped = tally_line (codes "scan") tallies.scan
laziness_text (Held items scan) tallies dropped = []
