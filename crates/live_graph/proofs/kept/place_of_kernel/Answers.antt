use Rattle.std.proofs.Common.{inl, inr, refl, sym, subst, Contains}
use Rattle.std.specs.Cmp.Lexicographic.{pointwise, lists_equiv}
use Rattle.item_sets.specs.Orders.{item_eq, item_equiv}
use Rattle.item_sets.specs.Expansions.{IsExpansionOf}
use Rattle.live_graph.proofs.SameKernels.{kernel_eq-decides}
use Rattle.live_graph.proofs.KeptEntries.{stands_at, is_put}
use Rattle.live_graph.proofs.kept.place_of_kernel.Goals as goal

pub returns-in-Some-clause-stands : goal.returns-in-Some-clause-stands
returns-in-Some-clause-stands g c =
    let s = stands_at (pointwise item_eq) (lists_equiv item_equiv) kernel_eq-decides c.args.kept.now.entries c.args.key.now c.in-Some.place (sym
    c.in-Some.ensures.index) in
    (s.value, s.at, c.requires.holds c.args.key.now s.value s.among)

pub returns-in-Some-clause-asks : goal.returns-in-Some-clause-asks
returns-in-Some-clause-asks g c =
    let s = stands_at (pointwise item_eq) (lists_equiv item_equiv) kernel_eq-decides c.args.kept.now.entries c.args.key.now c.in-Some.place (sym
    c.in-Some.ensures.index) in
    record { joins = inl (s.asked, refl); works = inl (refl, refl) }

pub returns-in_err-place-clause-holds : goal.returns-in_err-place-clause-holds
returns-in_err-place-clause-holds g c = λ key expansion there. c.requires.holds key expansion (subst (λ list. Contains list (key, expansion))
    c.in_err-place.ensures.err there)

pub returns-clause-stands : goal.returns-clause-stands
returns-clause-stands g c =
    let put = is_put (pointwise item_eq) (lists_equiv item_equiv) kernel_eq-decides c.args.kept.now.entries c.insert_full.new.self.entries c.args.key.now
    c.in_ok-copy.copy c.in_ok-expansion.expansion c.in_ok-place.place
    c.in_ok-copy.ensures.cases (sym c.in_default.ensures.index) c.in_ok-place.ensures.entries c.in_ok-place.ensures.index in
    (c.in_ok-expansion.expansion, put.at, c.in_ok-expansion.ensures.expansion)

pub returns-clause-asks : goal.returns-clause-asks
returns-clause-asks g c =
    let put = is_put (pointwise item_eq) (lists_equiv item_equiv) kernel_eq-decides c.args.kept.now.entries c.insert_full.new.self.entries c.args.key.now
    c.in_ok-copy.copy c.in_ok-expansion.expansion c.in_ok-place.place
    c.in_ok-copy.ensures.cases (sym c.in_default.ensures.index) c.in_ok-place.ensures.entries c.in_ok-place.ensures.index in
    record { joins = inr (put.new_key, put.keys_are); works = inr (put.new_key, put.keys_are, c.in_ok-expansion.ensures.steps) }

pub returns-clause-holds : goal.returns-clause-holds
returns-clause-holds g c = λ key expansion there.
    let put = is_put (pointwise item_eq) (lists_equiv item_equiv) kernel_eq-decides c.args.kept.now.entries c.insert_full.new.self.entries c.args.key.now
    c.in_ok-copy.copy c.in_ok-expansion.expansion c.in_ok-place.place
    c.in_ok-copy.ensures.cases (sym c.in_default.ensures.index) c.in_ok-place.ensures.entries c.in_ok-place.ensures.index in
    elim (put.others key expansion there) [
      | inl old ↦ c.requires.holds key expansion old
      | inr new ↦ subst (λ e. IsExpansionOf c.args.grammar.now.grammar.rules e.0 e.1) new c.in_ok-expansion.ensures.expansion
    ]
