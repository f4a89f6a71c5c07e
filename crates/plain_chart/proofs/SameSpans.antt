-- What `==` tells of spans.
use Rattle.std.proofs.Common.{◌≡◌, Bool, true, nat_eq, ap, ◌∙◌}
use Rattle.std.proofs.lemmas.Bool.Decides.{Decides-and}
use Rattle.std.specs.Ordering.{on, eq_of_both}
use Rattle.std.specs.Cmp.{IsEquivalence, on_equiv, and_equiv, nat_eq_equiv, unsigned_Decides}
use Rattle.plain_chart.specs.declared.spans.Span.{Span}
use Rattle.plain_chart.specs.Span.{span}

abbrev pub span_eq : Span → Span → Bool
span_eq = eq_of_both (on (λ a. a.from) nat_eq) (eq_of_both (on (λ a. a.to) nat_eq) (on (λ a. a.symbol.0) nat_eq))

pub span_equiv : IsEquivalence span_eq
span_equiv = and_equiv (on_equiv (λ (a : Span). a.from) nat_eq_equiv) (and_equiv (on_equiv (λ (a : Span). a.to) nat_eq_equiv)
    (on_equiv (λ (a : Span). a.symbol.0) nat_eq_equiv))

pub same_spans : (a b : Span) → span_eq a b ≡ true → a ≡ b
same_spans a b e =
    let parts = Decides-and _ _ (unsigned_Decides a.from b.from) (Decides-and _ _ (unsigned_Decides a.to b.to) (unsigned_Decides a.symbol.0 b.symbol.0)) in
    let p = parts.0 e in
    ap (λ i. span a.symbol i a.to) p.0 ∙ ap (λ j. span a.symbol b.from j) p.1.0 ∙ ap (λ n. span (record { 0 = n }) b.from b.to) p.1.1
