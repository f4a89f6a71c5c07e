use Rattle.std.proofs.Common.{◌≡◌, ℕ, List, [], ◌∷◌, ◌++◌, codes, ap, sym, ◌∙◌, append_assoc}
use Rattle.std.specs.List.{flat_map}
use Rattle.forest_print.specs.Lines.{cut_text}
use Rattle.forest_print.proofs.PrefixSteps.{stops_in, stops_after, on_err, err_then}
use Rattle.forest_print.proofs.SplitParts.{last_apart}
use Rattle.forest_print.proofs.forest_lines.put_after_head.Goals as goal

pub returns-in_err-put_cuts-in-Some-clause-prefix : goal.returns-in_err-put_cuts-in-Some-clause-prefix
returns-in_err-put_cuts-in-Some-clause-prefix c =
    let head : List ℕ = c.args.head.now in
    let cuts : List ℕ = c.args.cuts.now in
    let before : List ℕ = c.in-Some.before.now in
    let last : ℕ = c.in-Some.last.now in
    let is : cuts ≡ before ++ last ∷ [] = c.in-Some.ensures.cases.0 in
    on_err c.from_residual-in_err-put_cuts-in-Some.result
    (stops_in c.args.lines.now c.put.new.self c.put_cuts.new.lines head (flat_map cut_text before) (cut_text last ++ codes "\n")
    (head ++ flat_map cut_text cuts ++ codes "\n") c.in_ok-put-in-Some.ensures.whole c.in_err-put_cuts-in-Some.ensures.prefix
    (last_apart cut_text head (codes "\n") cuts before last is))

pub returns-in_ok-put_cuts-in-Some-clause-prefix : goal.returns-in_ok-put_cuts-in-Some-clause-prefix
returns-in_ok-put_cuts-in-Some-clause-prefix c =
    let head : List ℕ = c.args.head.now in
    let cuts : List ℕ = c.args.cuts.now in
    let before : List ℕ = c.in-Some.before.now in
    let last : ℕ = c.in-Some.last.now in
    let is : cuts ≡ before ++ last ∷ [] = c.in-Some.ensures.cases.0 in
    let first : c.put.new.self ≡ c.args.lines.now ++ head = c.in_ok-put-in-Some.ensures.whole in
    let second : c.put_cuts.new.lines ≡ c.args.lines.now ++ (head ++ flat_map cut_text before) =
    c.in_ok-put_cuts-in-Some.ensures.whole ∙ ap (λ l. l ++ flat_map cut_text before) first ∙ append_assoc c.args.lines.now head (flat_map cut_text before) in
    let same : head ++ flat_map cut_text cuts ++ codes "\n" ≡ (head ++ flat_map cut_text before) ++ (cut_text last ++ codes "\n") =
    last_apart cut_text head (codes "\n") cuts before last is ∙ sym (append_assoc head (flat_map cut_text before) (cut_text last ++ codes "\n")) in
    err_then c.put_line-in-Some.result
    (λ (kept : c.put_line-in-Some.new.lines ≡ c.put_cuts.new.lines). stops_after c.args.lines.now c.put_cuts.new.lines c.put_line-in-Some.new.lines
    (head ++ flat_map cut_text before) (cut_text last ++ codes "\n") (head ++ flat_map cut_text cuts ++ codes "\n") second kept same)
    c.put_line-in-Some.ensures.kept
