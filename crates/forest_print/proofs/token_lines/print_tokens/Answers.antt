use Rattle.std.proofs.Common.{subst}
use Rattle.forest_print.specs.Prefixes.{AppendsPrefix}
use Rattle.std.proofs.Common.{get_or}
use Rattle.std.proofs.lemmas.List.Elements.{Contains-get_or}
use Rattle.edit_log.specs.Symbols.{symbol_at}
use Rattle.forest.specs.declared.symbols.Token.{Token}
use Rattle.forest_print.specs.Lines.{token_line}
use Rattle.forest_print.proofs.PrefixSteps.{stops_at, on_err}
use Rattle.forest_print.proofs.token_lines.print_tokens.Goals as goal

abbrev no_token : Token
no_token = record { kind = record { 0 = 0 }; from = 0; to = 0 }

pub symbol-requires : goal.symbol-requires
symbol-requires c = c.requires (get_or c.args.tokens.now c.loop-token.token-index no_token)
    (Contains-get_or c.args.tokens.now c.loop-token.token-index no_token c.loop-token-test.true)

pub returns-in_err-put_token-clause-prefix : goal.returns-in_err-put_token-clause-prefix
returns-in_err-put_token-clause-prefix c =
    let symbols = c.args.grammar.now.grammar.symbols in
    let token = get_or c.args.tokens.now c.loop-token.token-index no_token in
    let begun : AppendsPrefix c.loop-token.out.items c.put_token.new.out.items (token_line (symbol_at symbols token.kind) token) =
    subst (λ symbol. AppendsPrefix c.loop-token.out.items c.put_token.new.out.items (token_line symbol token)) c.symbol.ensures
    c.in_err-put_token.ensures.prefix in
    on_err c.from_residual.result
    (stops_at (λ t. token_line (symbol_at symbols t.kind) t) c.args.tokens.now c.loop-token.token-index no_token c.args.out.now.items c.loop-token.out.items
    c.put_token.new.out.items
    c.loop-token-test.true c.loop-token.invariant begun)
