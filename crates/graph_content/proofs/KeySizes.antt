-- The dots and indexes of a grammar's keys have room in their words.
use Rattle.std.proofs.Common.{◌≡◌, ℕ, ◌<◌, ◌≤◌, List, length, map, ap, arith, Contains}
use Rattle.std.proofs.lemmas.List.{length-map}
use Rattle.edit_log.specs.declared.touch.Touch.{Touch}
use Rattle.edit_log.specs.declared.definitions.DefId.{DefId}
use Rattle.edit_log.specs.declared.definitions.DefId.TheVariants.{Literal as literal, Named as named}
use Rattle.grammar_text.specs.declared.edit.Edit.{Edit}
use Rattle.edit_log.specs.History.{Grammar, grammar_of}
use Rattle.edit_log.specs.Facts.{IsWellFormed}
use Rattle.edit_log.specs.Verdict.{IsHistory}
use Rattle.edit_log.proofs.HistoryLaws.{well_formed_always}
use Rattle.item_sets.proofs.Positions.{dot_short}
use Rattle.regex_ast.specs.Bytes.{only}
use Rattle.regex_ast.proofs.CountLemmas.{within_few}
use Rattle.regex_ast.proofs.MarkLemmas.{length-classes_of}
use Rattle.isg_states.specs.declared.mark.Mark.{Mark}
use Rattle.isg_states.specs.declared.scan_key.ScanKey.TheVariants.{Start, Set}
use Rattle.isg_states.specs.Patterns.{Pattern, bytes, expression, IsPatternOf, classes_in, IsMark}
use Rattle.row_coding.specs.Rows.{Key, kernel, scan, FitsKey}
use Rattle.graph_content.specs.Affected.{IsKey}
use Rattle.graph_content.specs.Changes.{IsChange}
use Rattle.graph_content.proofs.ChangeLaws.{IsTaken, taken}
use Rattle.graph_content.proofs.Readable.{IsReadable, readable_always, solid}

few_classes : (g : Grammar) (d : DefId) (p : Pattern) → IsReadable g → IsPatternOf g d p → length (classes_in p) ≤ 200
few_classes g (literal s) (bytes text) read is =
    let full = solid g.symbols s.0 text read.symbols is in
    omega (arith, full.1, length-map text only)
few_classes g (literal s) (expression e) read is = absurd is
few_classes g (named n) (bytes text) read is = absurd is
few_classes g (named n) (expression e) read is =
    let few = within_few is.0.expression e is.2 in
    omega (arith, few, length-classes_of e)

index_small : (g : Grammar) (mark : Mark) → IsReadable g → IsMark g mark → mark.index < 256
index_small g mark read (p, has, within) = let few = few_classes g mark.def p read has.is in omega (arith, few, within)

pub key_small : (g : Grammar) (key : Key) → IsWellFormed g → IsReadable g → IsKey g key → FitsKey key
key_small g (kernel items) well read is = λ item c. let short = dot_short g well item (is.1 item c) in omega (arith, short)
key_small g (scan Start) well read is = λ mark c. absurd (omega (arith, c.1))
key_small g (scan (Set marks)) well read is = λ mark c. index_small g mark read (is.1 mark c)

pub key_fits : (g next : Grammar) (touch : Touch) (key : Key) → IsChange g touch next → IsKey g key → FitsKey key
key_fits g next touch key change is = let known = taken g next touch change in key_small g key known.well known.read is

-- in the grammar of a history
pub history_key_fits : (history : List Edit) (key : Key) → IsHistory history → IsKey (grammar_of history) key → FitsKey key
history_key_fits history key are is =
    key_small (grammar_of history) key (well_formed_always history are) (readable_always history are) is

pub history_index_small : (history : List Edit) (mark : Mark) → IsHistory history → IsMark (grammar_of history) mark → mark.index < 256
history_index_small history mark are is = index_small (grammar_of history) mark (readable_always history are) is
