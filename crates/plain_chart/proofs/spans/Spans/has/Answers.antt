use Rattle.plain_chart.proofs.TableLemmas.{has_bit, has_no_table}
use Rattle.plain_chart.proofs.spans.Spans.has.Goals as goal

pub returns-in-Some : goal.returns-in-Some
returns-in-Some c =
    let found = rw c.as_slice.ensures.value at c.in-Some.ensures.found in
    let bit = rw c.bit_of.ensures at c.index-in-Some.ensures in
    rw (← c.self.view_is) (has_bit _ _ c.self.invariant _ _ _ _ _ _ found c.index.ensures bit c.requires.begins c.requires.ends)

pub returns-in-None : goal.returns-in-None
returns-in-None c =
    let none = rw c.as_slice.ensures.value at c.in-None.ensures.none in
    (λ e. absurd cc, λ m. absurd (has_no_table _ _ c.self.invariant _ _ _ none (rw (← c.self.view_is) at m)))
