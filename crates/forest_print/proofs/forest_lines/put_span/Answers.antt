use Rattle.std.proofs.Common.{◌≡◌, ℕ, List, ◌++◌, codes, decimal, ap, ◌∙◌, append_assoc}
use Rattle.forest_print.specs.Lines.{cut_text, span_line}
use Rattle.forest_print.proofs.PrefixSteps.{stops_after, on_err, err_then, ok_then}
use Rattle.forest_print.proofs.SplitParts.{place_apart}
use Rattle.forest_print.proofs.forest_lines.put_span.Goals as goal

pub returns-in_err-put_bytes-2-clause-prefix : goal.returns-in_err-put_bytes-2-clause-prefix
unfolding span_line
returns-in_err-put_bytes-2-clause-prefix c =
    let name : List ℕ = c.args.name.now in
    let node = c.args.node.now in
    let rest : List ℕ = name ++ (cut_text node.from ++ (cut_text node.to ++ codes "\n")) in
    let same : span_line name node.from node.to ≡ codes "node " ++ rest = simp append_assoc in
    on_err c.from_residual-in_err-put_bytes-2.result
    (stops_after c.args.lines.now c.put_bytes.new.self c.put_bytes-2.new.self (codes "node ") rest (span_line name node.from node.to)
    c.in_ok-put_bytes.ensures.whole c.in_err-put_bytes-2.ensures.kept same)

pub returns-in_err-put-clause-prefix : goal.returns-in_err-put-clause-prefix
unfolding span_line
returns-in_err-put-clause-prefix c =
    let name : List ℕ = c.args.name.now in
    let node = c.args.node.now in
    let rest : List ℕ = cut_text node.from ++ (cut_text node.to ++ codes "\n") in
    let first : c.put_bytes.new.self ≡ c.args.lines.now ++ codes "node " = c.in_ok-put_bytes.ensures.whole in
    let second : c.put_bytes-2.new.self ≡ c.args.lines.now ++ (codes "node " ++ name) =
    c.in_ok-put_bytes-2.ensures.whole ∙ ap (λ l. l ++ name) first ∙ append_assoc c.args.lines.now (codes "node ") name in
    let same : span_line name node.from node.to ≡ (codes "node " ++ name) ++ rest = simp append_assoc in
    on_err c.from_residual-in_err-put.result
    (stops_after c.args.lines.now c.put_bytes-2.new.self c.put.new.lines (codes "node " ++ name) rest (span_line name node.from node.to)
    second c.in_err-put.ensures.kept same)

pub returns-clause-whole : goal.returns-clause-whole
unfolding span_line
returns-clause-whole c =
    let name : List ℕ = c.args.name.now in
    let node = c.args.node.now in
    let lines : List ℕ = c.args.lines.now in
    let third : c.put.new.lines ≡ lines ++ codes "node " ++ name ++ cut_text node.from =
    c.in_ok-put.ensures.whole ∙ ap (λ l. l ++ cut_text node.from) (c.in_ok-put_bytes-2.ensures.whole ∙ ap (λ l. l ++ name) c.in_ok-put_bytes.ensures.whole) in
    let same : lines ++ codes "node " ++ name ++ cut_text node.from ++ cut_text node.to ++ codes "\n" ≡ lines ++ span_line name node.from node.to =
    simp append_assoc in
    ok_then c.put_line.result
    (λ (put : c.put_line.new.lines ≡ c.put.new.lines ++ cut_text node.to ++ codes "\n").
    put ∙ ap (λ l. l ++ cut_text node.to ++ codes "\n") third ∙ same)
    c.put_line.ensures.whole

pub returns-clause-prefix : goal.returns-clause-prefix
unfolding span_line
returns-clause-prefix c =
    let name : List ℕ = c.args.name.now in
    let node = c.args.node.now in
    let lines : List ℕ = c.args.lines.now in
    let rest : List ℕ = cut_text node.to ++ codes "\n" in
    let before : List ℕ = codes "node " ++ name ++ cut_text node.from in
    let third : c.put.new.lines ≡ lines ++ before =
    c.in_ok-put.ensures.whole ∙ ap (λ l. l ++ cut_text node.from) (c.in_ok-put_bytes-2.ensures.whole ∙ ap (λ l. l ++ name) c.in_ok-put_bytes.ensures.whole)
    ∙ ap (λ l. l ++ cut_text node.from) (append_assoc lines (codes "node ") name) ∙ append_assoc lines (codes "node " ++ name) (cut_text node.from) in
    let same : span_line name node.from node.to ≡ before ++ rest =
    place_apart (codes "node ") name (codes " ") (decimal node.from) (decimal node.to) (codes "\n") in
    err_then c.put_line.result
    (λ (kept : c.put_line.new.lines ≡ c.put.new.lines).
    stops_after lines c.put.new.lines c.put_line.new.lines before rest (span_line name node.from node.to) third kept same)
    c.put_line.ensures.kept
