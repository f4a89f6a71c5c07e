-- Replies whose symbols have numbers.
use Rattle.std.specs.Prelude.{◌<◌, List, Contains, length, Result, Ok, Err}
use Rattle.grammar_text.specs.declared.symbol.Symbol.{Symbol}
use Rattle.forest.specs.declared.symbols.Token.{Token}
use Rattle.forest.specs.declared.nodes.Node.{Node}
use Rattle.edit_log.specs.Facts.{IsNamed}
use Rattle.isg_scan.specs.declared.scan_error.ScanError.{ScanError}
use Rattle.replies.specs.declared.reply.Outcome.{Outcome}
use Rattle.replies.specs.declared.reply.Outcome.TheVariants.{Parsed, Scan, TooLarge}
use Rattle.rekers.specs.declared.parsed.Parsed.TheVariants.{Forest as ForestOf, NoSentence}
use Rattle.replies.specs.declared.reply.Reply.{Reply}
use Rattle.replies.specs.declared.reply.Reply.TheVariants.{Edited, Refused, Parse, Tokens, Held}

-- each node's symbol is a name
abbrev pub AreKnownNodes : List Symbol → List Node → Type 0
AreKnownNodes symbols nodes = (node : Node) → Contains nodes node → IsNamed symbols node.symbol

-- each token's kind is one of the symbols
abbrev pub AreKnownTokens : List Symbol → List Token → Type 0
AreKnownTokens symbols found = (token : Token) → Contains found token → token.kind.0 < length symbols

abbrev pub IsKnownOutcome : List Symbol → Outcome → Type 0
IsKnownOutcome symbols (Parsed (ForestOf forest)) = AreKnownNodes symbols forest.nodes
IsKnownOutcome symbols (Parsed (NoSentence at)) = Unit {0}
IsKnownOutcome symbols (Scan error) = Unit {0}
IsKnownOutcome symbols TooLarge = Unit {0}

abbrev pub IsKnownResult : List Symbol → Result (List Token) ScanError → Type 0
IsKnownResult symbols (Ok found) = AreKnownTokens symbols found
IsKnownResult symbols (Err error) = Unit {0}

-- the reply names only these symbols
abbrev pub IsKnownReply : List Symbol → Reply → Type 0
IsKnownReply symbols (Edited version) = Unit {0}
IsKnownReply symbols (Refused why) = Unit {0}
IsKnownReply symbols (Parse version outcome) = IsKnownOutcome symbols outcome
IsKnownReply symbols (Tokens version result) = IsKnownResult symbols result
IsKnownReply symbols (Held items scan) = Unit {0}
