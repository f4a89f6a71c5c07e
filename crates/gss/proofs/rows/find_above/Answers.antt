use Rattle.std.proofs.Common.{inl, inr, ◌≤◌, arith}
use Rattle.gss.proofs.Above.{key_within, above_start, above_found, above_next, above_smaller}
use Rattle.gss.proofs.rows.find_above.Goals as goal

pub older-init : goal.older-init
older-init c = above_start c.args.links.now c.args._lower c.args.from c.args.symbol c.args.newest c.requires.newest

pub bounds-links-link : goal.bounds-links-link
bounds-links-link c = elim (c.older.invariant.is) [
  | inl is ↦ absurd (c.older-test.true is)
  | inr key ↦ key_within c.args.links.now c.args._lower c.args.from c.args.symbol c.older.link key
]

pub returns-then-row-symbol-clause-newest : goal.returns-then-row-symbol-clause-newest
returns-then-row-symbol-clause-newest c = elim (c.older.invariant.is) [
  | inl is ↦ absurd (c.older-test.true is)
  | inr key ↦ above_found c.args.links.now c.args._lower c.args.from c.args.symbol c.requires.older c.older.link _ key c.older.invariant.rest
      c.if-from-link.true
      c.if-row-symbol.true
]

pub older-smaller : goal.older-smaller
older-smaller c = elim (c.older.invariant.is) [
  | inl is ↦ absurd (c.older-test.true is)
  | inr key ↦ above_smaller c.args.links.now c.args._lower c.args.from c.args.symbol c.requires.older c.older.link _ key c.older-test.true
]

pub older-preserved : goal.older-preserved
older-preserved c = elim (c.older.invariant.is) [
  | inl is ↦ absurd (c.older-test.true is)
  | inr key ↦ above_next c.args.links.now c.args._lower c.args.from c.args.symbol c.requires.older c.older.link _ key c.older.invariant.rest
      c.if-row-symbol.false
]

pub returns-else-from-link-clause-none : goal.returns-else-from-link-clause-none
returns-else-from-link-clause-none c = λ k leads. let le : k ≤ c.older.link = (c.older.invariant.rest k leads).0 in omega (arith, le, leads.0)

pub returns-after-older-clause-none : goal.returns-after-older-clause-none
returns-after-older-clause-none c = λ k leads. (c.older.invariant.rest k leads).1 c.older-test.false
