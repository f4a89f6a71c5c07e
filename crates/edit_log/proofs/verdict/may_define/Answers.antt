use Rattle.std.proofs.Common.{◌≡◌, not, Some, option_map, inr, codes, ap, sym, ◌∙◌}
use Rattle.std.specs.Str.{bytes_eq}
use Rattle.edit_log.specs.declared.refusal.Refusal.TheVariants.{NoMemory}
use Rattle.edit_log.specs.Verdict.{verdict}
use Rattle.edit_log.specs.Replicas.{seen_of, of_kind, adds}
use Rattle.edit_log.proofs.VerdictSteps.{define_start, define_left, define_other, define_twin, define_free, IsPlain, of_this_kind, not_other_kind}
use Rattle.edit_log.proofs.VerdictSteps.{of_other_kind, taken_by_room, refused_by_room, or_refused}
use Rattle.edit_log.proofs.verdict.may_define.Goals as goal
use Rattle.edit_log.proofs.verdict.may_define.Goals.{then-eq-via-then-eq, then-eq-via-else-eq+in_ok-is_left+then-branch}

pub returns-then-eq-clause-refused : goal.returns-then-eq-clause-refused
returns-then-eq-clause-refused c = inr (elim c.then-eq.branch [
  | then-eq-via-then-eq w ↦ define_start c.args.grammar.now.grammar c.args.is_skip c.args.definition.now
      (ap (λ n. bytes_eq n (codes "START")) (sym c.bytes.ensures.value) ∙ ap (bytes_eq c.bytes.result.now) (sym c.as_slice.ensures) ∙ sym c.eq.ensures
      ∙ w.if-eq.true) ∙ ap (λ r. Some r) (sym c.in_ok-clash.ensures)
  | then-eq-via-else-eq+in_ok-is_left+then-branch w ↦ define_left c.args.grammar.now.grammar c.args.is_skip c.args.definition.now (sym w.in_ok-is_left.ensures
      ∙ w.if-branch.true) ∙ ap (λ r. Some r) (sym c.in_ok-clash.ensures)
])

pub returns-then-live-is_skip-clause-refused : goal.returns-then-live-is_skip-clause-refused
returns-then-live-is_skip-clause-refused c =
    let plain : IsPlain c.args.grammar.now.grammar c.args.definition.now.name =
    record {
      start = ap (λ n. bytes_eq n (codes "START")) (sym c.bytes.ensures.value) ∙ ap (bytes_eq c.bytes.result.now) (sym c.as_slice.ensures)
          ∙ sym c.eq.ensures ∙ c.if-eq.false;
      left = sym c.in_ok-is_left.ensures ∙ c.if-branch.false;
    } in
    let other = c.definition_named.ensures.kinds (not c.args.is_skip) ∙ ap
    (λ o. of_kind (not c.args.is_skip) (option_map (λ live. seen_of live.now) o)) c.in-Some.is ∙ of_other_kind c.args.is_skip
    (seen_of c.in-Some.live.now) c.if-live-is_skip.true in
    inr (define_other c.args.grammar.now.grammar c.args.is_skip c.args.definition.now (seen_of c.in-Some.live.now) plain other
    ∙ ap (λ r. Some r) (sym c.in_ok-clash-2.ensures))

pub returns-in-Some-clause-refused : goal.returns-in-Some-clause-refused
returns-in-Some-clause-refused c =
    let plain : IsPlain c.args.grammar.now.grammar c.args.definition.now.name =
    record {
      start = ap (λ n. bytes_eq n (codes "START")) (sym c.bytes.ensures.value) ∙ ap (bytes_eq c.bytes.result.now) (sym c.as_slice.ensures)
          ∙ sym c.eq.ensures ∙ c.if-eq.false;
      left = sym c.in_ok-is_left.ensures ∙ c.if-branch.false;
    } in
    let none = c.definition_named.ensures.kinds (not c.args.is_skip) ∙ ap
    (λ o. of_kind (not c.args.is_skip) (option_map (λ live. seen_of live.now) o)) c.in-Some.is ∙ not_other_kind c.args.is_skip
    (seen_of c.in-Some.live.now) c.if-live-is_skip.false in
    let found = c.definition_named.ensures.kinds c.args.is_skip ∙ ap (λ o. of_kind c.args.is_skip (option_map (λ live. seen_of live.now) o)) c.in-Some.is
    ∙ of_this_kind c.args.is_skip (seen_of c.in-Some.live.now) c.if-live-is_skip.false in
    inr (define_twin c.args.grammar.now.grammar c.args.is_skip c.args.definition.now (seen_of c.in-Some.live.now) plain none found)

pub returns-clause-taken : goal.returns-clause-taken
returns-clause-taken c =
    let plain : IsPlain c.args.grammar.now.grammar c.args.definition.now.name =
    record {
      start = ap (λ n. bytes_eq n (codes "START")) (sym c.bytes.ensures.value) ∙ ap (bytes_eq c.bytes.result.now) (sym c.as_slice.ensures)
          ∙ sym c.eq.ensures ∙ c.if-eq.false;
      left = sym c.in_ok-is_left.ensures ∙ c.if-branch.false;
    } in
    let none = c.definition_named.ensures.kinds (not c.args.is_skip) ∙ ap
    (λ o. of_kind (not c.args.is_skip) (option_map (λ live. seen_of live.now) o)) c.in_default.is in
    let found = c.definition_named.ensures.kinds c.args.is_skip ∙ ap (λ o. of_kind c.args.is_skip (option_map (λ live. seen_of live.now) o)) c.in_default.is in
    taken_by_room c.args.grammar.now.grammar (verdict c.args.grammar.now.grammar (adds c.args.is_skip c.args.definition.now)) c.check_room.result
    (define_free c.args.grammar.now.grammar c.args.is_skip c.args.definition.now plain none found) c.check_room.ensures.taken

pub returns-clause-refused : goal.returns-clause-refused
returns-clause-refused c =
    let plain : IsPlain c.args.grammar.now.grammar c.args.definition.now.name =
    record {
      start = ap (λ n. bytes_eq n (codes "START")) (sym c.bytes.ensures.value) ∙ ap (bytes_eq c.bytes.result.now) (sym c.as_slice.ensures)
          ∙ sym c.eq.ensures ∙ c.if-eq.false;
      left = sym c.in_ok-is_left.ensures ∙ c.if-branch.false;
    } in
    let none = c.definition_named.ensures.kinds (not c.args.is_skip) ∙ ap
    (λ o. of_kind (not c.args.is_skip) (option_map (λ live. seen_of live.now) o)) c.in_default.is in
    let found = c.definition_named.ensures.kinds c.args.is_skip ∙ ap (λ o. of_kind c.args.is_skip (option_map (λ live. seen_of live.now) o)) c.in_default.is in
    let free = define_free c.args.grammar.now.grammar c.args.is_skip c.args.definition.now plain none found in
    or_refused (verdict c.args.grammar.now.grammar (adds c.args.is_skip c.args.definition.now)) (λ e. e ≡ NoMemory) c.check_room.result
    (refused_by_room c.args.grammar.now.grammar (verdict c.args.grammar.now.grammar (adds c.args.is_skip c.args.definition.now)) c.check_room.result free
    c.check_room.ensures.refused)
