-- A reply names only symbols of its grammar.
use Rattle.std.proofs.Common.{◌≡◌, ℕ, List, Result, Ok, Err, refl, subst, codes}
use Rattle.std.proofs.lemmas.List.Elements.{All-from_recursion}
use Rattle.forest.specs.declared.symbols.SymbolId.{SymbolId}
use Rattle.forest.specs.declared.symbols.Token.{Token}
use Rattle.forest.specs.declared.forest.Forest.{Forest}
use Rattle.forest.specs.Derivation.{IsNonterminal}
use Rattle.forest.specs.Forests.{IsForestOf, InForest, root, part_of}
use Rattle.edit_log.specs.Facts.{IsNamed, IsWellFormed}
use Rattle.edit_log.specs.History.{Grammar}
use Rattle.isg_scan.specs.declared.scan_error.ScanError.{ScanError}
use Rattle.script_text.specs.declared.command.Command.{Command}
use Rattle.replies.specs.declared.reply.Outcome.{Outcome}
use Rattle.replies.specs.declared.reply.Reply.{Reply}
use Rattle.replies.specs.Lines.{reply_text}
use Rattle.rekers.specs.Answers.{kinds_of}
use Rattle.replies.specs.Replies.{grammar_after, IsResult, IsParse, too_large, forest, no_sentence, IsOutcome, scan, parse, IsReply, taken, refused}
use Rattle.replies.specs.Replies.{parsed, scanned, held}
use Rattle.replies.specs.Known.{AreKnownNodes, IsKnownOutcome, IsKnownResult, IsKnownReply}
use Rattle.replies.proofs.TokenKinds.{known_tokens}

-- ---- nodes

named_left : (grammar : Grammar) (symbol : SymbolId) → IsWellFormed grammar → IsNonterminal grammar.rules symbol → IsNamed grammar.symbols symbol
named_left grammar symbol formed left =
    subst (IsNamed grammar.symbols) left.2 (subst (λ r. IsNamed grammar.symbols r.left) left.1.2
    (All-from_recursion (λ r. IsNamed grammar.symbols r.left) grammar.rules formed.lefts left.1.0 left.0 left.1.1))

named_within : (grammar : Grammar) (tokens : List SymbolId) (symbol : SymbolId) (i j : ℕ) → IsWellFormed grammar → InForest grammar.rules tokens symbol i j
    → IsNamed grammar.symbols symbol
named_within grammar tokens symbol i j formed root = (codes "START", formed.start)
named_within grammar tokens symbol i j formed (part_of within live along part left) = named_left grammar symbol formed left

known_nodes : (grammar : Grammar) (tokens : List SymbolId) (tree : Forest) → IsWellFormed grammar → IsForestOf grammar.rules tokens tree
    → AreKnownNodes grammar.symbols tree.nodes
known_nodes grammar tokens tree formed is node has = named_within grammar tokens node.symbol node.from node.to formed (is.each node has).within

-- ---- replies

known_parse : (grammar : Grammar) (kinds : List SymbolId) (outcome : Outcome) → IsWellFormed grammar → IsParse grammar.rules kinds outcome
    → IsKnownOutcome grammar.symbols outcome
known_parse grammar kinds outcome formed (too_large above) = tt
known_parse grammar kinds outcome formed (forest {parsed = tree} within is) = known_nodes grammar kinds tree formed is
known_parse grammar kinds outcome formed (no_sentence within not last) = tt

known_outcome : (grammar : Grammar) (text : List ℕ) (outcome : Outcome) → IsWellFormed grammar → IsOutcome grammar text outcome
    → IsKnownOutcome grammar.symbols outcome
known_outcome grammar text outcome formed (scan is) = tt
known_outcome grammar text outcome formed (parse {found = found} tokenizes is) = known_parse grammar (kinds_of found) outcome formed is

known_result : (grammar : Grammar) (text : List ℕ) (result : Result (List Token) ScanError) → IsWellFormed grammar → IsResult grammar text result
    → IsKnownResult grammar.symbols result
known_result grammar text (Ok found) formed is = known_tokens grammar text found formed is
known_result grammar text (Err error) formed is = tt

pub known_reply : (grammar : Grammar) (command : Command) (reply : Reply) → IsWellFormed grammar → IsReply grammar command reply
    → IsKnownReply grammar.symbols reply
known_reply grammar command reply formed (taken e) = tt
known_reply grammar command reply formed (refused e) = tt
known_reply grammar command reply formed (parsed {text = text} {outcome = outcome} is) = known_outcome grammar text outcome formed is
known_reply grammar command reply formed (scanned {text = text} {result = result} is) = known_result grammar text result formed is
known_reply grammar command reply formed held = tt

-- ---- after the command

pub known_after : (grammar : Grammar) (command : Command) (reply : Reply) → IsReply grammar command reply → IsKnownReply grammar.symbols reply
    → IsKnownReply (grammar_after grammar command).symbols reply
known_after grammar command reply (taken e) known = tt
known_after grammar command reply (refused e) known = tt
known_after grammar command reply (parsed is) known = known
known_after grammar command reply (scanned is) known = known
known_after grammar command reply held known = tt

-- only the lines of texts name symbols, and a text adds none
pub same_text : (grammar : Grammar) (command : Command) (reply : Reply) → IsReply grammar command reply
    → reply_text (grammar_after grammar command).symbols reply ≡ reply_text grammar.symbols reply
same_text grammar command reply (taken e) = refl
same_text grammar command reply (refused e) = refl
same_text grammar command reply (parsed is) = refl
same_text grammar command reply (scanned is) = refl
same_text grammar command reply held = refl
