use Rattle.std.proofs.Common.{◌≡◌, ℕ, List, ◌∷◌, ◌++◌, length, codes, decimal, ap, sym, ◌∙◌, append_assoc}
use Rattle.std.specs.List.{flat_map}
use Rattle.forest_print.specs.Lines.{cut_text, split_line}
use Rattle.forest_print.specs.Parts.{head_text}
use Rattle.forest_print.specs.Prefixes.{AppendsPrefix}
use Rattle.forest_print.proofs.PrefixSteps.{stops_same, err_then, ok_then}
use Rattle.forest_print.proofs.SplitParts.{first_apart, no_cuts}
use Rattle.forest_print.proofs.forest_lines.put_split.Goals as goal

pub returns-in-None-clause-whole : goal.returns-in-None-clause-whole
unfolding split_line
returns-in-None-clause-whole c =
    let lines : List ℕ = c.args.lines.now in
    let split = c.args.split.now in
    let none : length split.cuts ≡ 0 = ap length (sym c.as_slice.ensures) ∙ c.in-None.ensures.cases in
    let bare : List ℕ = codes "rule " ++ decimal split.rule.0 ++ codes " at\n" in
    let line : split_line split ≡ bare = no_cuts split.rule.0 split.cuts none in
    let same : lines ++ codes "rule " ++ decimal split.rule.0 ++ codes " at\n" ≡ lines ++ bare = simp append_assoc in
    ok_then c.put_bare.result
    (λ (put : c.put_bare.new.lines ≡ lines ++ codes "rule " ++ decimal split.rule.0 ++ codes " at\n").
    put ∙ same ∙ ap (λ l. lines ++ l) (sym line))
    c.put_bare.ensures.whole

pub returns-in-Some-clause-whole : goal.returns-in-Some-clause-whole
unfolding split_line
returns-in-Some-clause-whole c =
    let lines : List ℕ = c.args.lines.now in
    let split = c.args.split.now in
    let first : ℕ = c.in-Some.first.now in
    let after : List ℕ = c.in-Some.after.now in
    let text : List ℕ = c.turn.new.self.text in
    let is : split.cuts ≡ first ∷ after = sym c.as_slice.ensures ∙ c.in-Some.ensures.cases.0 in
    let told : text ≡ head_text split.rule.0 first = c.turn.new.self.told ∙ ap (λ r. head_text r c.turn.new.self.first) c.turn.ensures.rule
    ∙ ap (λ f. head_text split.rule.0 f) c.turn.ensures.first in
    let line : split_line split ≡ text ++ flat_map cut_text after ++ codes "\n" = first_apart split.rule.0 first split.cuts after text told is in
    let same : lines ++ text ++ flat_map cut_text after ++ codes "\n" ≡ lines ++ (text ++ flat_map cut_text after ++ codes "\n") = simp append_assoc in
    ok_then c.put_after_head.result
    (λ (put : c.put_after_head.new.lines ≡ lines ++ text ++ flat_map cut_text after ++ codes "\n").
    put ∙ same ∙ ap (λ l. lines ++ l) (sym line))
    c.put_after_head.ensures.whole

pub returns-in-Some-clause-prefix : goal.returns-in-Some-clause-prefix
unfolding split_line
returns-in-Some-clause-prefix c =
    let lines : List ℕ = c.args.lines.now in
    let split = c.args.split.now in
    let first : ℕ = c.in-Some.first.now in
    let after : List ℕ = c.in-Some.after.now in
    let text : List ℕ = c.turn.new.self.text in
    let is : split.cuts ≡ first ∷ after = sym c.as_slice.ensures ∙ c.in-Some.ensures.cases.0 in
    let told : text ≡ head_text split.rule.0 first = c.turn.new.self.told ∙ ap (λ r. head_text r c.turn.new.self.first) c.turn.ensures.rule
    ∙ ap (λ f. head_text split.rule.0 f) c.turn.ensures.first in
    let line : split_line split ≡ text ++ flat_map cut_text after ++ codes "\n" = first_apart split.rule.0 first split.cuts after text told is in
    err_then c.put_after_head.result
    (λ (stopped : AppendsPrefix lines c.put_after_head.new.lines (text ++ flat_map cut_text after ++ codes "\n")).
    stops_same lines c.put_after_head.new.lines (text ++ flat_map cut_text after ++ codes "\n") (split_line split) stopped line)
    c.put_after_head.ensures.prefix
