-- A link that was attached, and its label.
use Rattle.std.proofs.Common.{◌≡◌, ℕ, List, [], ◌∷◌, ◌++◌, sym, ap, subst, Contains}
use Rattle.forest.specs.declared.symbols.SymbolId.{SymbolId}
use Rattle.edit_log.specs.History.{Grammar}
use Rattle.gss.specs.declared.stack_graph.Edge.{Edge}
use Rattle.packed_spans.specs.declared.span.Span.{Span}
use Rattle.packed_spans.specs.Complete.{IsPartAt}
use Rattle.rekers.specs.declared.parser.Parser.{Parser}
use Rattle.forest.specs.Numbers.{KeepsNumbers}
use Rattle.rekers.specs.Found.{found, Grows}
use Rattle.rekers.proofs.Growth.{keeps_append, keeps_equal}

-- only a link was added
pub attached_grows : (p q : Parser) (edge : Edge) → q.stacks.links ≡ p.stacks.links ++ edge ∷ [] → q.stacks.nodes ≡ p.stacks.nodes
    → q ≡ record p { stacks = q.stacks; is_flat = q.is_flat } → Grows (found p) (found q)
attached_grows p q edge links nodes same = record {
  kernels = keeps_equal p.states.kernels q.states.kernels (ap (λ (x : Parser). x.states.kernels) same);
  nodes = keeps_equal p.stacks.nodes q.stacks.nodes nodes;
  links = subst (λ ls. KeepsNumbers p.stacks.links ls) (sym links) (keeps_append p.stacks.links (edge ∷ []));
  spans = keeps_equal p.spans.spans q.spans.spans (ap (λ (x : Parser). x.spans.spans) same);
  splits = λ split c. subst (λ ss. Contains ss split) (sym (ap (λ (x : Parser). x.spans.splits) same)) c;
  owners = keeps_equal p.owners.items q.owners.items (ap (λ (x : Parser). x.owners.items) same);
}

-- a label tells the same under equal names
pub label_on : (G H : Grammar) → H ≡ G → (tokens : List SymbolId) (spans spans' : List Span) → spans' ≡ spans → (x : SymbolId) (from from' : ℕ) → from' ≡ from
    → (label label' : ℕ) → label' ≡ label → (to to' : ℕ) → to' ≡ to → IsPartAt G.rules tokens spans x from label to
    → IsPartAt H.rules tokens spans' x from' label' to'
label_on G H grammar tokens spans spans' more x from from' begins label label' names to to' ends part =
    subst (λ (gr : Grammar). IsPartAt gr.rules tokens spans' x from' label' to') (sym grammar)
    (subst (λ ss. IsPartAt G.rules tokens ss x from' label' to') (sym more)
    (subst (λ i. IsPartAt G.rules tokens spans x i label' to') (sym begins)
    (subst (λ n. IsPartAt G.rules tokens spans x from n to') (sym names)
    (subst (λ j. IsPartAt G.rules tokens spans x from label j) (sym ends) part))))
