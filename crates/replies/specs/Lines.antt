-- The lines that answer a command. Numbers are decimals, and every line ends with byte 10.
use Rattle.std.specs.Prelude.{ℕ, List, [], ◌++◌, length, codes, decimal, Result, Ok, Err}
use Rattle.std.specs.List.{sum_by}
use Rattle.grammar_text.specs.declared.symbol.Symbol.{Symbol}
use Rattle.forest.specs.declared.symbols.Token.{Token}
use Rattle.forest.specs.declared.nodes.Node.{Node}
use Rattle.edit_log.specs.declared.refusal.Refusal.{Refusal}
use Rattle.edit_log.specs.declared.refusal.Refusal.TheVariants.{NameClash, Exists, NoSuch, LogFull, NoMemory}
use Rattle.isg_scan.specs.declared.scan_error.ScanError.{ScanError}
use Rattle.isg_scan.specs.declared.scan_error.ScanError.TheVariants.{NoToken, TooManyTokens, NoMemory as OutOfMemory}
use Rattle.forest_print.specs.Lines.{name_of, nodes_text, tokens_text}
use Rattle.script_text.specs.declared.bad_script.BadScript.{BadScript}
use Rattle.script_text.specs.declared.bad_script.BadKind.{BadKind}
use Rattle.script_text.specs.declared.bad_script.BadKind.TheVariants.{UnknownCommand, BadEdit, BadRegex, BadText, TextTooLong, UnclosedPar, StrayEnd, ParInPar}
use Rattle.script_text.specs.declared.bad_script.BadKind.TheVariants.{TooManyCommands, SectionTooLong, StatsAfterPar}
use Rattle.replies.specs.declared.reply.Outcome.{Outcome}
use Rattle.replies.specs.declared.reply.Outcome.TheVariants.{Parsed, Scan, TooLarge}
use Rattle.rekers.specs.declared.parsed.Parsed.TheVariants.{Forest as ForestOf, NoSentence}
use Rattle.replies.specs.declared.reply.Reply.{Reply}
use Rattle.replies.specs.declared.reply.Reply.TheVariants.{Edited, Refused, Parse, Tokens, Held}

-- ---- edits

-- an edit was taken, and this is the version from then on
abbrev pub version_line : ℕ → List ℕ
version_line version = codes "version " ++ decimal version ++ codes "\n"

-- the name would be both a left side and a token or a skip, or both of these
abbrev pub clash_line : List ℕ → List ℕ
clash_line name = codes "refused clash " ++ name ++ codes "\n"

-- what should be added is there under this number
abbrev pub exists_line : ℕ → List ℕ
exists_line number = codes "refused exists " ++ decimal number ++ codes "\n"

-- what should be dropped is not there
abbrev pub absent_line : List ℕ
absent_line = codes "refused absent\n"

-- no edit is taken after this version
abbrev pub full_line : ℕ → List ℕ
full_line version = codes "refused full " ++ decimal version ++ codes "\n"

-- a refused edit; that memory ran out is told by no line
abbrev pub refusal_line : Refusal → List ℕ
refusal_line (NameClash name) = clash_line name
refusal_line (Exists number) = exists_line number
refusal_line NoSuch = absent_line
refusal_line (LogFull version) = full_line version
refusal_line NoMemory = []

-- ---- texts

-- how each line begins that answers a text: the command's word and the version
abbrev pub head : List ℕ → ℕ → List ℕ
head word version = word ++ codes " " ++ decimal version

-- at the offset no token begins
abbrev pub no_token_line : List ℕ → ℕ → ℕ → List ℕ
no_token_line word version offset = head word version ++ codes " no token at " ++ decimal offset ++ codes "\n"

-- at the offset a token too many begins
abbrev pub too_many_line : List ℕ → ℕ → ℕ → List ℕ
too_many_line word version offset = head word version ++ codes " too many tokens at " ++ decimal offset ++ codes "\n"

-- a text that has no tokens; that memory ran out is told by no line
abbrev pub scan_line : List ℕ → ℕ → ScanError → List ℕ
scan_line word version (NoToken offset) = no_token_line word version offset
scan_line word version (TooManyTokens offset) = too_many_line word version offset
scan_line word version OutOfMemory = []

abbrev pub too_large_line : ℕ → List ℕ
too_large_line version = head (codes "parse") version ++ codes " too large\n"

-- START does not derive the tokens, and no text goes on behind this place between them
abbrev pub no_sentence_line : ℕ → ℕ → List ℕ
no_sentence_line version at = head (codes "parse") version ++ codes " no sentence at " ++ decimal at ++ codes "\n"

-- how many nodes and splits a forest has
unfoldable pub node_count_line : ℕ → List Node → List ℕ
node_count_line version nodes =
    head (codes "parse") version ++ codes " forest " ++ decimal (length nodes) ++ codes " nodes " ++ decimal (sum_by (λ node. length node.splits) nodes)
    ++ codes " splits\n"

-- a forest
abbrev pub forest_text : List Symbol → ℕ → List Node → List ℕ
forest_text symbols version nodes = node_count_line version nodes ++ nodes_text (name_of symbols) nodes

-- how a parse came out
abbrev pub outcome_text : List Symbol → ℕ → Outcome → List ℕ
outcome_text symbols version (Parsed (ForestOf forest)) = forest_text symbols version forest.nodes
outcome_text symbols version (Parsed (NoSentence at)) = no_sentence_line version at
outcome_text symbols version (Scan error) = scan_line (codes "parse") version error
outcome_text symbols version TooLarge = too_large_line version

-- how many tokens a text has
unfoldable pub token_count_line : ℕ → ℕ → List ℕ
token_count_line version count = head (codes "tokens") version ++ codes " count " ++ decimal count ++ codes "\n"

-- the tokens of a text
abbrev pub token_lines : List Symbol → ℕ → List Token → List ℕ
token_lines symbols version found = token_count_line version (length found) ++ tokens_text symbols found

-- what a scan gave
abbrev pub result_text : List Symbol → ℕ → Result (List Token) ScanError → List ℕ
result_text symbols version (Ok found) = token_lines symbols version found
result_text symbols version (Err error) = scan_line (codes "tokens") version error

-- ---- tables

-- expansions of so many keys of item sets and of scanner states are held
abbrev pub held_line : ℕ → ℕ → List ℕ
held_line items scan = codes "held items " ++ decimal items ++ codes " scan " ++ decimal scan ++ codes "\n"

-- ---- replies

-- the lines of a reply, where the symbols have these numbers
abbrev pub reply_text : List Symbol → Reply → List ℕ
reply_text symbols (Edited version) = version_line version
reply_text symbols (Refused why) = refusal_line why
reply_text symbols (Parse version outcome) = outcome_text symbols version outcome
reply_text symbols (Tokens version result) = result_text symbols version result
reply_text symbols (Held items scan) = held_line items scan

-- ---- bad scripts

-- what is wrong with a line
abbrev pub kind_words : BadKind → List ℕ
kind_words UnknownCommand = codes "unknown command"
kind_words BadEdit = codes "bad edit"
kind_words BadRegex = codes "bad expression"
kind_words BadText = codes "bad text"
kind_words TextTooLong = codes "text too long"
kind_words UnclosedPar = codes "section not closed"
kind_words StrayEnd = codes "end without section"
kind_words ParInPar = codes "section in a section"
kind_words TooManyCommands = codes "too many commands"
kind_words SectionTooLong = codes "section too long"
kind_words StatsAfterPar = codes "stats after a section"

-- the one line for a bad script
abbrev pub bad_line : BadScript → List ℕ
bad_line bad = codes "bad script line " ++ decimal bad.line ++ codes ": " ++ kind_words bad.kind ++ codes "\n"
