-- The rows part by part.
use Rattle.std.proofs.Common.{◌≡◌, ◌<◌, ◌≤◌, ◌+◌, length, arith, refl}
use Rattle.regex_ast.specs.Expressions.{tree_of, sequence, star, plus}
use Rattle.regex_ast.proofs.TableLemmas.{has-only, rows_in_turn, rows_looped}
use Rattle.regex_ast.proofs.links.+link.Goals as goal

pub returns-in-Class-clause-first : goal.returns-in-Class-clause-first
returns-in-Class-clause-first t c = λ p.
    let fits : c.args.base + 1 ≤ length c.args.rows.now = rw c.in-Class.is at c.requires.fits in
    let small : c.args.base < 256 = omega arith in
    rw (c.in-Class.is, c.of.ensures) (has-only c.args.base p small)

pub returns-in-Class-clause-last : goal.returns-in-Class-clause-last
returns-in-Class-clause-last t c = λ p.
    let fits : c.args.base + 1 ≤ length c.args.rows.now = rw c.in-Class.is at c.requires.fits in
    let small : c.args.base < 256 = omega arith in
    rw (c.in-Class.is, c.of-in-Class.ensures) (has-only c.args.base p small)

pub returns-in-Then-clause-rows : goal.returns-in-Then-clause-rows
returns-in-Then-clause-rows t c = λ q p h.
    let tree : tree_of c.args.regex.now ≡ sequence (tree_of c.deref.result.now) (tree_of c.deref-in-Then.result.now) =
    rw (c.in-Then.is, c.deref.ensures, c.deref-in-Then.ensures) refl in
    rw tree
    (rows_in_turn (tree_of c.deref.result.now) (tree_of c.deref-in-Then.result.now) c.args.base c.link-first.result.next q p _ _ _ _ _ _
    (c.connect.ensures q p (omega arith)) (c.link-second.ensures.rows q p (omega arith)) (c.link-first.ensures.rows q p h)
    (c.link-first.ensures.last q) (c.link-second.ensures.first p) c.link-first.ensures.next)

pub returns-in-Star-clause-rows : goal.returns-in-Star-clause-rows
returns-in-Star-clause-rows t c = λ q p h.
    let tree : tree_of c.args.regex.now ≡ star (tree_of c.deref-in-Star.result.now) = rw (c.in-Star.is, c.deref-in-Star.ensures) refl in
    rw tree
    (rows_looped (tree_of c.deref-in-Star.result.now) c.args.base q p _ _ _ _ _
    (c.looped.ensures.rows q p (omega arith)) (c.link.ensures.rows q p h) (c.link.ensures.last q) (c.link.ensures.first p))

pub returns-in-Plus-clause-rows : goal.returns-in-Plus-clause-rows
returns-in-Plus-clause-rows t c = λ q p h.
    let tree : tree_of c.args.regex.now ≡ plus (tree_of c.deref-in-Plus.result.now) = rw (c.in-Plus.is, c.deref-in-Plus.ensures) refl in
    rw tree
    (rows_looped (tree_of c.deref-in-Plus.result.now) c.args.base q p _ _ _ _ _
    (c.looped-in-Plus.ensures.rows q p (omega arith)) (c.link-in-Plus.ensures.rows q p h) (c.link-in-Plus.ensures.last q) (c.link-in-Plus.ensures.first p))
