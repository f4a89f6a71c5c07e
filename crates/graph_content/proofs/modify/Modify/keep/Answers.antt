use Rattle.std.proofs.Common.{ap, sym, subst, refl}
use Rattle.row_coding.specs.Rows.{Key, FitsKey}
use Rattle.graph_content.specs.Changes.{IsTouched}
use Rattle.graph_content.specs.Rows.{IsRowOf}
use Rattle.graph_content.specs.Modifications.{Modification}
use Rattle.graph_content.proofs.RowChanges.{is_left, fits_next, is_spoiled, not_left}
use Rattle.graph_content.proofs.modify.Modify.keep.Goals as goal
use Rattle.graph_content.proofs.modify.Modify.keep.Goals.{Then-not-is_touched, After-count}

-- the row is not touched, by the touch that the contract sees
none : (c : Then-not-is_touched) (key : Key) → FitsKey key → IsRowOf c.args.self.now.grammar key c.args.row.now
    → IsTouched c.args.self.now.grammar c.args.self.now.touch key → ⊥
none c key fit is touched =
    c.if-not-is_touched.ensures c.args.self.now.grammar key fit is
    (subst (λ touch. IsTouched c.args.self.now.grammar touch key) (sym (ap (λ (m : Modification). m.touch) c.self.view_is)) touched)

pub returns-then-not-is_touched-clause-kept : goal.returns-then-not-is_touched-clause-kept
returns-then-not-is_touched-clause-kept c = λ next key change is. (
  λ kept. is_left c.args.self.now.grammar c.args.self.now.touch c.args.row.now (none c) next key change is,
  λ left. refl,
)

pub returns-then-not-is_touched-clause-fits : goal.returns-then-not-is_touched-clause-fits
returns-then-not-is_touched-clause-fits c =
    λ next change kept. fits_next c.args.self.now.grammar c.args.self.now.touch c.args.row.now (none c) c.requires next change

-- the row is touched, by that touch
some : (c : After-count) (key : Key) → FitsKey key → IsRowOf c.args.self.now.grammar key c.args.row.now
    → IsTouched c.args.self.now.grammar c.args.self.now.touch key
some c key fit is =
    subst (λ touch. IsTouched c.args.self.now.grammar touch key) (ap (λ (m : Modification). m.touch) c.self.view_is)
    (c.if-not-is_touched.ensures c.args.self.now.grammar key fit is)

pub returns-clause-kept : goal.returns-clause-kept
returns-clause-kept c = λ next key change is. (
  λ kept. absurd cc,
  λ left. absurd (not_left c.args.self.now.grammar c.args.self.now.touch c.args.row.now (some c) next key change is left),
)

pub returns-clause-refused : goal.returns-clause-refused
returns-clause-refused c = λ next key change is refused. is_spoiled c.args.self.now.grammar c.args.self.now.touch c.args.row.now (some c) next key change is
