use Rattle.std.proofs.Common.{◌≡◌, ◌<◌, ℕ, inl, inr, sym, ◌∙◌, subst, arith, Contains, List}
use Rattle.std.proofs.lemmas.Bool.{cases_lt}
use Rattle.forest.specs.declared.rules.Rule.{Rule}
use Rattle.plain_chart.specs.declared.spans.Span.{Span}
use Rattle.plain_chart.specs.Span.{span}
use Rattle.plain_chart.specs.Known.{AreKnown}
use Rattle.plain_chart.proofs.Fine.{grows_none, grows_more, known_more, AreKnown-le}
use Rattle.plain_chart.proofs.Places.{bit_read, bit_clear}
use Rattle.plain_chart.proofs.TableLemmas.{read_is, some_same}
use Rattle.plain_chart.proofs.derive.settle.Goals as goal
use Rattle.plain_chart.proofs.derive.settle.Goals.{then-ahead-from+then-not-has+in_ok-insert, else-ahead-from, else-ahead-from-via-then-ahead-from+else-not-has}
use Rattle.plain_chart.proofs.derive.settle.Goals.{else-ahead-from-via-else-ahead-from}
use Rattle.plain_chart.specs.declared.limits.TheConstants.{PLACES}

pub loop-from-init : goal.loop-from-init
loop-from-init c = record { grows = grows_none _ _ _ c.requires.fine; settled = λ e i l get. absurd (omega arith) }

pub loop-from-preserved : goal.loop-from-preserved
loop-from-preserved c = elim c.if-ahead-from.branch [
  | then-ahead-from+then-not-has+in_ok-insert w ↦
      let few : c.loop-from.from < PLACES = omega (arith, c.requires.few, c.requires.ends) in
      let old = rw c.as_slice.ensures at (c.sources-ahead.ensures c.loop-from.from few).0
      (bit_read c.sources-ahead.result c.loop-from.from w.if-ahead-from.true) in
      let known = known_more c.args.tokens.now c.args.known.now c.loop-from.known c.loop-from.invariant.grows.kept c.index-rules-at.result.right
      c.loop-from.from c.args.to old in
      rw (w.known-is, w.in_ok-insert.ensures, w.changed-is) (record {
        grows = grows_more _ _ _ _ _ c.index-rules-at.result c.loop-from.from c.args.to c.loop-from.invariant.grows (
          c.args.at,
          c.requires.at,
          sym c.index-rules-at.is,
        ) known (omega (arith, c.requires.ends)) c.requires.ends (λ m. let yes' = w.has.ensures.1 m in let no' = w.if-not-has.true in
            cc);
        settled = λ e. absurd cc;
      })
  | else-ahead-from w ↦ elim w.else-ahead-from.branch [
    | else-ahead-from-via-then-ahead-from+else-not-has v ↦ rw (w.known-is, w.changed-is) (record {
      grows = c.loop-from.invariant.grows;
      settled = λ e i l get. elim (cases_lt i c.loop-from.from) [
        | inl below ↦ c.loop-from.invariant.settled e i below get
        | inr above ↦
            let same : c.loop-from.from ≡ i = omega arith in
            subst (λ (k : ℕ). Contains c.loop-from.known (span c.index-rules-at.result.left k c.args.to)) same (v.has.ensures.0 v.if-not-has.false)
      ];
    })
    | else-ahead-from-via-else-ahead-from v ↦ rw (w.known-is, w.changed-is) (record {
      grows = c.loop-from.invariant.grows;
      settled = λ e i l get. elim (cases_lt i c.loop-from.from) [
        | inl below ↦ c.loop-from.invariant.settled e i below get
        | inr above ↦
            let same : i ≡ c.loop-from.from = omega arith in
            absurd (bit_clear c.sources-ahead.result c.loop-from.from v.if-ahead-from.false (rw same at get))
      ];
    })
  ]
]

pub returns-clause-settled : goal.returns-clause-settled
returns-clause-settled c = λ f r i get known.
    let same = c.loop-from.invariant.grows.same f in
    let there = read_is c.args.rules.now c.args.at c.index-rules-at.result c.index-rules-at.is c.requires.at in
    let rule = some_same c.index-rules-at.result r (sym there ∙ get) in
    let lower = AreKnown-le _ _ _ _ _ known in
    let few : i < PLACES = omega (arith, lower, c.requires.few, c.requires.ends) in
    let old : AreKnown c.args.tokens.now c.args.known.now r.right i c.args.to =
    subst (λ (q : List Span). AreKnown c.args.tokens.now q r.right i c.args.to) same known in
    let here : AreKnown c.args.tokens.now c.args.known.now c.index-rules-at.result.right i c.args.to =
    subst (λ (q : Rule). AreKnown c.args.tokens.now c.args.known.now q.right i c.args.to) (sym rule) old in
    let bit = (c.sources-ahead.ensures i few).1 (rw c.as_slice.ensures here) in
    subst (λ (q : Rule). Contains c.loop-from.known (span q.left i c.args.to)) rule (c.loop-from.invariant.settled f i (omega (arith, lower)) bit)
