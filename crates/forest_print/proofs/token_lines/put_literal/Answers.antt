use Rattle.std.proofs.Common.{◌≡◌, ℕ, List, ◌++◌, ◌∷◌, [], ap, ◌∙◌, refl, append_assoc}
use Rattle.std.specs.List.{flat_map}
use Rattle.forest_print.specs.Prefixes.{AppendsPrefix}
use Rattle.grammar_text.specs.Canonical.{escaped}
use Rattle.forest_print.proofs.PrefixSteps.{stops_last, on_err}
use Rattle.forest_print.proofs.token_lines.put_literal.Goals as goal

pub returns-in_err-put_parts-2-clause-prefix : goal.returns-in_err-put_parts-2-clause-prefix
returns-in_err-put_parts-2-clause-prefix c =
    let out = c.args.out.now.items in
    let inner : List ℕ = flat_map escaped c.args.bytes.now in
    let quote : List ℕ = 34 ∷ [] in
    let first : c.put_parts.new.out.items ≡ out ++ quote = c.in_ok-put_parts.ensures.whole in
    let put : c.put_all_escaped.new.out.items ≡ out ++ (quote ++ inner) = c.in_ok-put_all_escaped.ensures.whole ∙ ap (λ o. o ++ inner) first
    ∙ append_assoc out quote inner in
    let begun : AppendsPrefix c.put_all_escaped.new.out.items c.put_parts-2.new.out.items quote = c.in_err-put_parts-2.ensures.prefix in
    on_err c.from_residual-in_err-put_parts-2.result
    (stops_last out c.put_all_escaped.new.out.items c.put_parts-2.new.out.items (quote ++ inner) quote (34 ∷ inner ++ quote) put begun refl)
