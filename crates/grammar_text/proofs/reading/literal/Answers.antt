use Rattle.std.proofs.Common.{◌≤◌, length, sym, arith}
use Rattle.grammar_text.specs.declared.limits.TheConstants.{LITERAL_LIMIT}
use Rattle.grammar_text.proofs.Literals.{literal_at-within}
use Rattle.grammar_text.proofs.reading.literal.Goals as goal

pub at-behind-requires : goal.at-behind-requires
at-behind-requires c =
    let read = rw c.in-Some.is at c.in_ok-bytes.ensures in
    let within : length c.in-Some.rest.now ≤ length c.args.text.now = literal_at-within LITERAL_LIMIT c.args.text.now _ c.in-Some.rest.now (sym read) in
    omega arith
