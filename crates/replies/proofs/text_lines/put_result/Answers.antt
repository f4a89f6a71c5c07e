use Rattle.std.proofs.Common.{sym, subst}
use Rattle.replies.specs.Known.{AreKnownTokens, IsKnownResult}
use Rattle.replies.proofs.text_lines.put_result.Goals as goal

pub put_tokens-requires : goal.put_tokens-requires
put_tokens-requires c =
    subst (AreKnownTokens c.args.grammar.now.grammar.symbols) (sym c.as_slice.ensures)
    (subst (IsKnownResult c.args.grammar.now.grammar.symbols) c.in-Ok.is c.requires)
