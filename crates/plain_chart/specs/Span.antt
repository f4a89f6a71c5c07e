-- Spans.
use Rattle.std.specs.Prelude.{ℕ}
use Rattle.forest.specs.declared.symbols.SymbolId.{SymbolId}
use Rattle.plain_chart.specs.declared.spans.Span.{Span}

abbrev pub span : SymbolId → ℕ → ℕ → Span
span x i j = record { from = i; to = j; symbol = x }
