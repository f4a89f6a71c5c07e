use Rattle.std.proofs.Common.{◌≡◌, ℕ, List, ◌++◌, ap, ◌∙◌, codes, decimal, append_assoc}
use Rattle.forest_print.specs.Prefixes.{AppendsPrefix}
use Rattle.grammar_text.specs.Canonical.{symbol_text}
use Rattle.forest_print.specs.Lines.{token_line}
use Rattle.forest_print.proofs.PrefixSteps.{stops_first, stops_in, stops_last, on_err}
use Rattle.forest_print.proofs.token_lines.put_token.Goals as goal

pub returns-in_err-put_parts-clause-prefix : goal.returns-in_err-put_parts-clause-prefix
unfolding token_line
returns-in_err-put_parts-clause-prefix c =
    let token = c.args.token.now in
    let symbol : List ℕ = symbol_text c.args.symbol.now in
    let ends : List ℕ = codes " " ++ (decimal token.from ++ (codes " " ++ (decimal token.to ++ codes "\n"))) in
    let begun : AppendsPrefix c.args.out.now.items c.put_parts.new.out.items (codes "token ") = c.in_err-put_parts.ensures.prefix in
    let same : token_line c.args.symbol.now token ≡ codes "token " ++ (symbol ++ ends) = simp append_assoc in
    on_err c.from_residual.result (stops_first c.args.out.now.items c.put_parts.new.out.items (codes "token ") (symbol
    ++ ends) (token_line c.args.symbol.now token) begun same)

pub returns-in_err-put_symbol-clause-prefix : goal.returns-in_err-put_symbol-clause-prefix
unfolding token_line
returns-in_err-put_symbol-clause-prefix c =
    let token = c.args.token.now in
    let symbol : List ℕ = symbol_text c.args.symbol.now in
    let ends : List ℕ = codes " " ++ (decimal token.from ++ (codes " " ++ (decimal token.to ++ codes "\n"))) in
    let put : c.put_parts.new.out.items ≡ c.args.out.now.items ++ codes "token " = c.in_ok-put_parts.ensures.whole in
    let same : token_line c.args.symbol.now token ≡ codes "token " ++ (symbol ++ ends) = simp append_assoc in
    on_err c.from_residual-in_err-put_symbol.result
    (stops_in c.args.out.now.items c.put_parts.new.out.items c.put_symbol.new.out.items (codes "token ") symbol ends
    (token_line c.args.symbol.now token) put c.in_err-put_symbol.ensures.prefix same)

pub returns-in_err-put_parts-2-clause-prefix : goal.returns-in_err-put_parts-2-clause-prefix
unfolding token_line
returns-in_err-put_parts-2-clause-prefix c =
    let token = c.args.token.now in
    let symbol : List ℕ = symbol_text c.args.symbol.now in
    let ends : List ℕ = codes " " ++ (decimal token.from ++ (codes " " ++ (decimal token.to ++ codes "\n"))) in
    let first : c.put_parts.new.out.items ≡ c.args.out.now.items ++ codes "token " = c.in_ok-put_parts.ensures.whole in
    let put : c.put_symbol.new.out.items ≡ c.args.out.now.items ++ (codes "token " ++ symbol) =
    c.in_ok-put_symbol.ensures.whole ∙ ap (λ o. o ++ symbol) first ∙ append_assoc c.args.out.now.items (codes "token ") symbol in
    let begun : AppendsPrefix c.put_symbol.new.out.items c.put_parts-2.new.out.items ends = c.in_err-put_parts-2.ensures.prefix in
    let same : token_line c.args.symbol.now token ≡ (codes "token " ++ symbol) ++ ends = simp append_assoc in
    on_err c.from_residual-in_err-put_parts-2.result
    (stops_last c.args.out.now.items c.put_symbol.new.out.items c.put_parts-2.new.out.items (codes "token " ++ symbol) ends
    (token_line c.args.symbol.now token) put begun same)

pub returns-clause-whole : goal.returns-clause-whole
unfolding token_line
returns-clause-whole c =
    let token = c.args.token.now in
    let symbol : List ℕ = symbol_text c.args.symbol.now in
    let ends : List ℕ = codes " " ++ (decimal token.from ++ (codes " " ++ (decimal token.to ++ codes "\n"))) in
    let first : c.put_parts.new.out.items ≡ c.args.out.now.items ++ codes "token " = c.in_ok-put_parts.ensures.whole in
    let second : c.put_symbol.new.out.items ≡ c.put_parts.new.out.items ++ symbol = c.in_ok-put_symbol.ensures.whole in
    let third : c.put_parts-2.new.out.items ≡ c.put_symbol.new.out.items ++ ends = c.in_ok-put_parts-2.ensures.whole in
    third ∙ ap (λ o. o ++ ends) (second ∙ ap (λ o. o ++ symbol) first) ∙ simp append_assoc
