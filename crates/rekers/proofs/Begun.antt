-- What a parser has found at the beginning of a text is sound.
use Rattle.std.proofs.Common.{◌≡◌, ℕ, ◌<◌, inl, inr, List, [], ◌∷◌, length, refl, sym, ◌∙◌, ap, subst, arith, slice_get, Some, ◌++◌, true}
use Rattle.std.specs.declared.alloc.Global.{Global}
use Rattle.std.specs.declared.vec.Vec.{Vec}
use Rattle.std.proofs.lemmas.Option.{slice_get_within}
use Rattle.forest.specs.declared.symbols.SymbolId.{SymbolId}
use Rattle.forest.specs.declared.rules.Rule.{Rule}
use Rattle.forest.specs.Derivation.{AreTerminals}
use Rattle.edit_log.specs.History.{Grammar}
use Rattle.edit_log.specs.Facts.{IsWellFormed}
use Rattle.item_sets.specs.declared.item.Item.{Item}
use Rattle.item_sets.specs.Prefixes.{start_kernel}
use Rattle.item_sets.proofs.Numbering.{IsNumbered, one_right, numbered}
use Rattle.gss.specs.declared.stack_graph.Place.{Place}
use Rattle.gss.specs.declared.stack_graph.Edge.{Edge}
use Rattle.gss.specs.PlaceGraphs.{PlaceGraph, place_with}
use Rattle.packed_spans.specs.declared.span.Span.{Span}
use Rattle.packed_spans.specs.Packed.{Packed, PackedSplit, empty}
use Rattle.parser_states.specs.Known.{Known}
use Rattle.parser_states.specs.Expanded.{AreExpandedIn}
use Rattle.rekers.specs.declared.level.Level.{Level}
use Rattle.rekers.specs.declared.parser.Parser.{Parser}
use Rattle.rekers.specs.States.{IsStateAt}
use Rattle.rekers.specs.Found.{Findings, found, IsNode}
use Rattle.rekers.specs.Reductions.{IsWorked, IsBelow}
use Rattle.rekers.specs.Sound.{IsSoundParser, IsSoundGraph, IsLevel, AreOpeners, ArePlaced}
use Rattle.rekers.specs.Steps.{IsWithinLimit}
use Rattle.rekers.proofs.Reached.{first_state}
use Rattle.rekers.proofs.NewNodes.{old_or_last}

-- the one element of a list
pub only_one : {X : Type 0} (x : X) (place : ℕ) (y : X) → slice_get (x ∷ []) place ≡ Some y → (place ≡ 0) × (y ≡ x)
only_one x place y e = elim (old_or_last [] x place y e) [
  | inl none ↦ absurd (let below : place < 0 = slice_get_within [] place y none in omega (arith, below))
  | inr last ↦ last
]

pub no_one : {X : Type 0} (place : ℕ) (y : X) → slice_get [] place ≡ Some y → ⊥
no_one place y e = let below : place < 0 = slice_get_within [] place y e in omega (arith, below)

-- the start at place 0
abbrev pub beginning : Findings
beginning = record { kernels = start_kernel ∷ []; nodes = place_with 0 0 ∷ []; links = []; spans = []; splits = []; owners = [] }

abbrev pub first_level : Level
first_level = record { at = 0; first_node = 0; first_link = 0 }

start_node : IsNode beginning 0 start_kernel 0
start_node = record { state = 0; there = refl; is_kernel = refl }

module _ (rules : List Rule) (tokens : List SymbolId) (numbers : IsNumbered rules) where
  pub begun_graph : IsSoundGraph rules tokens beginning
  begun_graph = record {
    one_state = λ a b kernel e g. (only_one start_kernel a kernel e).0 ∙ sym (only_one start_kernel b kernel g).0;
    one_node = λ a b place e g. (only_one (place_with 0 0) a place e).0 ∙ sym (only_one (place_with 0 0) b place g).0;
    begun = start_node;
    nodes = λ node place e.
        subst (λ (p : Place). (k : List Item) × (slice_get (start_kernel ∷ []) p.state ≡ Some k) × IsStateAt rules tokens k p.at)
        (sym (only_one (place_with 0 0) node place e).1) (start_kernel, refl, first_state rules (one_right rules numbers) tokens);
    rising = λ a b low high e g l.
        let low_is : low.at ≡ 0 = ap (λ (p : Place). p.at) (only_one (place_with 0 0) a low e).1 in
        let high_is : high.at ≡ 0 = ap (λ (p : Place). p.at) (only_one (place_with 0 0) b high g).1 in
        omega (arith, low_is, high_is);
    links = λ link edge e. absurd (no_one link edge e);
    one_link = λ a b edge other upper above e g. absurd (no_one a edge e);
    owned = refl;
    owners = λ span owner e. absurd (no_one span owner e);
    told = λ split c. absurd (omega (arith, c.1));
    distinct = tt;
  }

  begun_level : IsLevel beginning 0 0 0
  begun_level = record {
    nodes_within = omega arith;
    links_within = omega arith;
    nodes_before = λ node place e l. absurd (omega (arith, l));
    nodes_here = λ node place e l. ap (λ (p : Place). p.at) (only_one (place_with 0 0) node place e).1;
    links_before = λ link edge e l. absurd (no_one link edge e);
    links_here = λ link edge e l. absurd (no_one link edge e);
  }

  begun_openers : AreOpeners rules beginning (0 ∷ []) 0
  begun_openers = record {
    size = refl;
    each = λ i node e.
        let is = only_one 0 i node e in
        record {
          within = omega (arith, is.1);
          behind = λ other place at l. omega (arith, is.0);
          none_before = λ other kernel n l opens. omega (arith, l, is.1);
        };
  }

  pub begun_worked : IsWorked rules beginning 0 0
  begun_worked = record {
    all = λ reduction lower trail labels top at r below. absurd (nothing_below trail top below);
    only = λ split trail top c told. absurd (omega (arith, c.1));
  }
    where
      nothing_below : (trail : List ℕ) (top : ℕ) → IsBelow 0 0 trail top → ⊥
      nothing_below [] top below = omega (arith, below)
      nothing_below (link ∷ trail) top below = omega (arith, below.0)

pub begun_placed : ArePlaced beginning
begun_placed state kernel e =
    let is = only_one start_kernel state kernel e in
    (0, 0, record { state = 0; there = refl; is_kernel = ap Some (sym is.1) })

-- what was found, by its parts
pub found_begun : (kernels : List (List Item)) (nodes : List Place) (links : List Edge) (spans : List Span) (splits : List PackedSplit) (owners : List ℕ)
    → kernels ≡ start_kernel ∷ [] → nodes ≡ place_with 0 0 ∷ [] → links ≡ [] → spans ≡ [] → splits ≡ [] → owners ≡ []
    → record { kernels = kernels; nodes = nodes; links = links; spans = spans; splits = splits; owners = owners } ≡ beginning
found_begun kernels nodes links spans splits owners k n l s t o = rw (k, n, l, s, t, o) refl

-- a parser that has just begun is sound
pub begun_sound : (rules : List Rule) (tokens : List SymbolId) → IsNumbered rules → AreTerminals rules tokens → (p : Parser) → AreExpandedIn rules p.states
    → found p ≡ beginning → p.openers.items ≡ 0 ∷ [] → p.level ≡ first_level → IsSoundParser rules tokens p
begun_sound rules tokens numbers terminals p expanded is openers level = record {
  numbered = numbers;
  terminals = terminals;
  expanded = expanded;
  graph = subst (λ f. IsSoundGraph rules tokens f) (sym is) (begun_graph rules tokens numbers);
  level = subst (λ (l : Level). IsLevel (found p) l.at l.first_node l.first_link) (sym level)
      (subst (λ f. IsLevel f 0 0 0) (sym is) (begun_level rules tokens numbers));
  openers = subst (λ (l : Level). AreOpeners rules (found p) p.openers.items l.at) (sym level)
      (subst (λ os. AreOpeners rules (found p) os 0) (sym openers) (subst (λ f. AreOpeners rules f (0 ∷ []) 0) (sym is) (begun_openers rules tokens numbers)));
  flat = λ on link edge e here. absurd (no_one link edge (subst (λ (f : Findings). slice_get f.links link ≡ Some edge) is e));
  spans_below = let none : length p.spans.spans ≡ 0 = ap (λ (f : Findings). length f.spans) is in omega (arith, none);
}

-- what holds of a parser that has just begun
pub record HasBegun (rules : List Rule) (tokens : List SymbolId) (p : Parser) : Type 0 where
  pub is_sound : IsSoundParser rules tokens p
  pub are_placed : ArePlaced (found p)
  pub is_worked : IsWorked rules (found p) p.level.first_link p.level.first_node
  pub is_within : IsWithinLimit p

pub has_begun : (rules : List Rule) (tokens : List SymbolId) → IsNumbered rules → AreTerminals rules tokens → (p : Parser) → AreExpandedIn rules p.states
    → p.states.kernels ≡ start_kernel ∷ [] → p.stacks.nodes ≡ place_with 0 0 ∷ [] → p.stacks.links ≡ [] → p.spans ≡ empty → p.owners.items ≡ []
    → p.openers.items ≡ 0 ∷ [] → p.level ≡ first_level → HasBegun rules tokens p
has_begun rules tokens numbers terminals p expanded kernels nodes links packed owners openers level =
    let spans : p.spans.spans ≡ [] = ap (λ (k : Packed). k.spans) packed in
    let splits : p.spans.splits ≡ [] = ap (λ (k : Packed). k.splits) packed in
    let is : found p ≡ beginning =
    found_begun p.states.kernels p.stacks.nodes p.stacks.links p.spans.spans p.spans.splits p.owners.items kernels nodes links spans splits owners in
    record {
      is_sound = begun_sound rules tokens numbers terminals p expanded is openers level;
      are_placed = subst (λ f. ArePlaced f) (sym is) begun_placed;
      is_worked = subst (λ (l : Level). IsWorked rules (found p) l.first_link l.first_node) (sym level)
          (subst (λ f. IsWorked rules f 0 0) (sym is) (begun_worked rules tokens numbers));
      is_within = record { few = omega (arith, ap length nodes); limit = omega (arith, ap length links, ap length splits) };
    }

-- what the calls of a beginning ensure, put together
pub begun_by : (tokens : List SymbolId) (G H told : Grammar) → H ≡ G → told ≡ H → IsWellFormed told → AreTerminals G.rules tokens
    → (q : Parser) (states : Known) → AreExpandedIn H.rules states → states.kernels ≡ start_kernel ∷ []
    → (cleared stacks : PlaceGraph) → cleared ≡ record { nodes = []; links = [] } → stacks.nodes ≡ cleared.nodes ++ place_with 0 0 ∷ []
    → stacks.links ≡ cleared.links → (spans : Packed) → spans ≡ empty → (owners : Vec ℕ Global) → owners.items ≡ []
    → (old openers : Vec ℕ Global) → old.items ≡ [] → openers.items ≡ old.items ++ 0 ∷ []
    → HasBegun H.rules tokens (record q {
      states = states;
      stacks = stacks;
      spans = spans;
      owners = owners;
      openers = openers;
      level = first_level;
      is_flat = true;
    })
begun_by tokens G H told same is formed terminals q states expanded kernels cleared stacks none nodes links spans no_spans owners no_owners old openers
    no_openers opens =
    let p : Parser = record q {
      states = states;
      stacks = stacks;
      spans = spans;
      owners = owners;
      openers = openers;
      level = first_level;
      is_flat = true;
    } in
    has_begun H.rules tokens (numbered H (subst (λ gr. IsWellFormed gr) is formed))
    (subst (λ (gr : Grammar). AreTerminals gr.rules tokens) (sym same) terminals) p expanded kernels
    (nodes ∙ ap (λ (g : PlaceGraph). g.nodes ++ place_with 0 0 ∷ []) none) (links ∙ ap (λ (g : PlaceGraph). g.links) none) no_spans no_owners
    (opens ∙ ap (λ ns. ns ++ 0 ∷ []) no_openers) refl
