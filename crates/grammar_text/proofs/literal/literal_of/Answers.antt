use Rattle.std.proofs.Common.{◌≡◌, ℕ, ◌-◌, List, [], length, arith}
use Rattle.std.specs.Option.{option_map}
use Rattle.grammar_text.specs.declared.limits.TheConstants.{LITERAL_LIMIT}
use Rattle.grammar_text.specs.Reading.{behind_quote, literal_at}
use Rattle.grammar_text.proofs.Literals.{literal-more, literal-full, literal-ended, literal-found, literal-missing}
use Rattle.grammar_text.proofs.literal.literal_of.Goals.{else-loop-rest-test, then-loop-rest-test+in_default}
use Rattle.grammar_text.proofs.literal.literal_of.Goals as goal

pub loop-rest-preserved : goal.loop-rest-preserved
loop-rest-preserved c =
    let front = c.loop-rest.bytes.items in
    record {
      in_range = omega (arith, c.in_ok-push.ensures.len);
      so_far = literal-more LITERAL_LIMIT front c.push.new.self.items c.loop-rest.rest.now c.in-Some.byte c.in-Some.behind.now _
          (omega arith) c.in_ok-push.ensures.items c.in-Some.ensures c.loop-rest.invariant.so_far;
    }

pub returns-in-Some-closed : goal.returns-in-Some-closed
returns-in-Some-closed c =
    let front = c.loop-rest.bytes.items in
    let rest = c.loop-rest.rest.now in
    let ended : literal_at (LITERAL_LIMIT - length front) rest ≡ option_map (λ (left : List ℕ). ([], left)) (behind_quote rest) =
    elim c.loop-rest-test.branch [
      | else-loop-rest-test w ↦ literal-full LITERAL_LIMIT (length front) rest (omega arith)
      | then-loop-rest-test+in_default w ↦ literal-ended LITERAL_LIMIT (length front) rest w.in_default.ensures
    ] in
    rw c.from_vec.ensures (literal-found front rest c.in-Some-closed.behind.now _ _ ended c.in-Some-closed.ensures c.loop-rest.invariant.so_far)

pub returns : goal.returns
returns c =
    let front = c.loop-rest.bytes.items in
    let rest = c.loop-rest.rest.now in
    let ended : literal_at (LITERAL_LIMIT - length front) rest ≡ option_map (λ (left : List ℕ). ([], left)) (behind_quote rest) =
    elim c.loop-rest-test.branch [
      | else-loop-rest-test w ↦ literal-full LITERAL_LIMIT (length front) rest (omega arith)
      | then-loop-rest-test+in_default w ↦ literal-ended LITERAL_LIMIT (length front) rest w.in_default.ensures
    ] in
    literal-missing front rest _ _ ended c.in-None.ensures c.loop-rest.invariant.so_far
