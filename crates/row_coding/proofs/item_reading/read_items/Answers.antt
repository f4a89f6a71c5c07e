use Rattle.std.proofs.Common.{◌<◌, ◌^◌, ℕ, List, map, All, sym, ap, ◌∙◌, subst}
use Rattle.std.specs.List.Sorted.{IsStrictlySortedBy}
use Rattle.forest.specs.declared.rules.RuleId.{RuleId}
use Rattle.item_sets.specs.Orders.{move_cmp, reduction_cmp}
use Rattle.row_coding.specs.Reading.{Move, rule_id}
use Rattle.row_coding.proofs.Inverses.{rules_back}
use Rattle.row_coding.proofs.OneCoding.{same_expansion, one_item_payload}
use Rattle.row_coding.proofs.MovesRead.{moves_begin, moves_count, last_words, last_fit}
use Rattle.row_coding.proofs.item_reading.read_items.Goals as goal

pub read_moves-requires : goal.read_moves-requires
read_moves-requires c =
    let q = c.requires in
    let payload = c.args.payload.now in
    (q.0.moves, map (λ (rule : RuleId). rule.0) q.0.reductions, moves_begin payload q.0 q.1 q.2 q.3, moves_count payload q.0 q.1 q.2 q.3)

pub read_rules-requires : goal.read_rules-requires
read_rules-requires c =
    let q = c.requires in
    let payload = c.args.payload.now in
    subst (λ (words : List ℕ). All (λ word. word < 2 ^ 32) words) (sym (last_words payload q.0 q.1 q.2 q.3)) (last_fit payload q.0 q.1 q.2 q.3)

pub invariant_of-result : goal.invariant_of-result
invariant_of-result c =
    let q = c.requires in
    let payload = c.args.payload.now in
    let numbers = map (λ (rule : RuleId). rule.0) q.0.reductions in
    let moves = c.from_vec.ensures ∙ c.in_ok-moves.ensures q.0.moves numbers (moves_begin payload q.0 q.1 q.2 q.3) (moves_count payload q.0 q.1 q.2 q.3) in
    let reductions = c.from_vec-2.ensures ∙ c.in_ok-reductions.ensures ∙ ap (map rule_id) (last_words payload q.0 q.1 q.2 q.3) ∙ rules_back q.0.reductions in
    record {
      moves_ascend = subst (λ (ms : List Move). IsStrictlySortedBy move_cmp ms) (sym moves) q.0.moves_ascend;
      reductions_ascend = subst (λ (rs : List RuleId). IsStrictlySortedBy reduction_cmp rs) (sym reductions) q.0.reductions_ascend;
    }

pub returns : goal.returns
returns c =
    let q = c.requires in
    let payload = c.args.payload.now in
    let numbers = map (λ (rule : RuleId). rule.0) q.0.reductions in
    let moves = c.from_vec.ensures ∙ c.in_ok-moves.ensures q.0.moves numbers (moves_begin payload q.0 q.1 q.2 q.3) (moves_count payload q.0 q.1 q.2 q.3) in
    let reductions = c.from_vec-2.ensures ∙ c.in_ok-reductions.ensures ∙ ap (map rule_id) (last_words payload q.0 q.1 q.2 q.3) ∙ rules_back q.0.reductions in
    λ coded fits is. same_expansion _ q.0 moves reductions ∙ one_item_payload q.0 coded q.1 fits (sym q.3 ∙ is)
