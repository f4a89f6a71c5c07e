-- What the numbers beside nodes and links tell of them.
use Rattle.std.proofs.Common.{◌≡◌, ℕ, ◌<◌, ◌≤◌, List, length, get_or, Option, None, Some, IfSome, IfNone, slice_get, refl, sym, ap, ◌∙◌, subst, arith}
use Rattle.std.proofs.lemmas.List.{length-map}
use Rattle.std.proofs.lemmas.Option.{slice_get_read, same_Some}
use Rattle.gss.specs.declared.stack_graph.Place.{Place}
use Rattle.gss.specs.declared.stack_graph.Edge.{Edge}
use Rattle.gss.specs.declared.rows.NodeRow.{NodeRow}
use Rattle.gss.specs.declared.rows.LinkRow.{LinkRow}
use Rattle.gss.specs.Numbers.{IsLeast, IsGreatest, HasNone}
use Rattle.gss.specs.PlaceGraphs.{IsOfState, LeadsDownFrom, LeadsToBy, LeadsFromSame, AreEndsNodes}
use Rattle.gss.specs.Chains.{none, IsKeyAt, IsKeyBehind, TellsLeast, least, no_least, TellsGreatest, greatest, no_greatest}
use Rattle.gss.specs.Rows.{states, uppers, lowers, places, edges, AreFound, AreLinked}
use Rattle.gss.proofs.Columns.{to_column, from_column, row_column}

-- the number as an option
pub record IsTold (r : ℕ) (o : Option ℕ) : Type 0 where
  pub some : IfSome o (λ n. (n ≡ r) × (n < none))
  pub nothing : IfNone o (r ≡ none)

module _ (P Q : ℕ → Type 0) (r : ℕ) (to : (l : ℕ) → P l → Q l) (back : (l : ℕ) → Q l → P l) where
  told_least : (o : Option ℕ) → IsTold r o → TellsLeast P r → IfSome o (IsLeast Q) × IfNone o (HasNone Q)
  told_least (Some n) told (least small is) =
      (subst (λ k. IsLeast Q k) (sym told.some.0) (record { is = to r is.is; least = λ k less q. is.least k less (back k q) }), tt)
  told_least (Some n) told (no_least e nothing) = absurd (omega (arith, told.some.0, told.some.1, e))
  told_least None told (least small is) = absurd (omega (arith, told.nothing, small))
  told_least None told (no_least e nothing) = (tt, λ k q. nothing k (back k q))

  told_greatest : (o : Option ℕ) → IsTold r o → TellsGreatest P r → IfSome o (IsGreatest Q) × IfNone o (HasNone Q)
  told_greatest (Some n) told (greatest small is) =
      (subst (λ k. IsGreatest Q k) (sym told.some.0) (record { is = to r is.is; greatest = λ k more q. is.greatest k more (back k q) }), tt)
  told_greatest (Some n) told (no_greatest e nothing) = absurd (omega (arith, told.some.0, told.some.1, e))
  told_greatest None told (greatest small is) = absurd (omega (arith, told.nothing, small))
  told_greatest None told (no_greatest e nothing) = (tt, λ k q. nothing k (back k q))

-- ---- nodes by their state

state_key : (nodes : List Place) (state n : ℕ) → IsOfState nodes state n → IsKeyAt (states nodes) state n
state_key nodes state n (node, at, is) = to_column (λ (p : Place). p.state) nodes n node at ∙ ap (λ k. Some k) is

pub newest_told : (nodes : List Place) (newest : List ℕ) (state r : ℕ) (o : Option ℕ) → AreFound nodes newest → state < length newest
    → r ≡ get_or newest state r → IsTold r o → IfSome o (IsGreatest (IsOfState nodes state)) × IfNone o (HasNone (IsOfState nodes state))
newest_told nodes newest state r o are within is told =
    told_greatest (IsKeyAt (states nodes) state) (IsOfState nodes state) r (λ l key. from_column (λ (p : Place). p.state) nodes l state key)
    (state_key nodes state) o told (are.of_state state r (slice_get_read newest (length newest) state r refl within is))

pub no_newest : (nodes : List Place) (newest : List ℕ) (state : ℕ) → AreFound nodes newest → length newest ≤ state → HasNone (IsOfState nodes state)
no_newest nodes newest state are past k of = let within : state < length newest = are.within k state (state_key nodes state k of) in omega (arith, within, past)

-- ---- links by their ends

upper_key : (links : List Edge) (node l : ℕ) → LeadsDownFrom links node l → IsKeyAt (uppers links) node l
upper_key links node l (link, at, is) = to_column (λ (e : Edge). e.upper) links l link at ∙ ap (λ k. Some k) is

lower_key : (links : List Edge) (l : ℕ) (link : Edge) → slice_get links l ≡ Some link → IsKeyAt (lowers links) link.lower l
lower_key links l link at = to_column (λ (e : Edge). e.lower) links l link at

module _ (nodes : List NodeRow) (links : List LinkRow) (are : AreLinked nodes links) where
  pub first_told : (node : ℕ) (row : NodeRow) (o : Option ℕ) → node < length nodes → row ≡ get_or nodes node row → IsTold row.first o
      → IfSome o (IsLeast (LeadsDownFrom (edges links) node)) × IfNone o (HasNone (LeadsDownFrom (edges links) node))
  first_told node row o within is told =
      told_least (IsKeyAt (uppers (edges links)) node) (LeadsDownFrom (edges links) node) row.first
      (λ l key. from_column (λ (e : Edge). e.upper) (edges links) l node key) (upper_key (edges links) node) o told
      (are.first node row.first (row_column (λ (r : NodeRow). r.first) nodes node row within is))

  pub no_first : (node : ℕ) → length nodes ≤ node → HasNone (LeadsDownFrom (edges links) node)
  no_first node past l leads = let within : node < length nodes = are.uppers_within l node (upper_key (edges links) node l leads) in omega (arith, within, past)

  pub next_told : (link : ℕ) (row : LinkRow) (o : Option ℕ) → link < length links → row ≡ get_or links link row → IsTold row.next o
      → IfSome o (IsLeast (LeadsFromSame (edges links) link)) × IfNone o (HasNone (LeadsFromSame (edges links) link))
  next_told link row o within is told =
      told_least (IsKeyBehind (uppers (edges links)) row.edge.upper link) (LeadsFromSame (edges links) link) row.next
      (λ l later. (later.0, row.edge, here, from_column (λ (e : Edge). e.upper) (edges links) l row.edge.upper later.1))
      (λ l same. (same.0, back l same)) o told
      (are.next link row.next row.edge.upper (row_column (λ (r : LinkRow). r.next) links link row within is)
      (to_column (λ (e : Edge). e.upper) (edges links) link row.edge here))
    where
      here : slice_get (edges links) link ≡ Some row.edge
      here = row_column (λ (r : LinkRow). r.edge) links link row within is

      back : (l : ℕ) → LeadsFromSame (edges links) link l → IsKeyAt (uppers (edges links)) row.edge.upper l
      back l (behind, edge, at, leads) =
          let same : edge ≡ row.edge = same_Some _ _ (sym at ∙ here) in
          upper_key (edges links) row.edge.upper l (subst (λ (e : Edge). LeadsDownFrom (edges links) e.upper l) same leads)

  pub above_told : (node : ℕ) (row : NodeRow) → node < length nodes → row ≡ get_or nodes node row
      → TellsGreatest (IsKeyAt (lowers (edges links)) node) row.above
  above_told node row within is = are.above node row.above (row_column (λ (r : NodeRow). r.above) nodes node row within is)

  pub no_above : (node from : ℕ) (symbol : _) → length nodes ≤ node → HasNone (LeadsToBy (edges links) node symbol from)
  no_above node from symbol past l (order, link, at, low, by) =
      let within : node < length nodes = are.lowers_within l node (lower_key (edges links) l link at ∙ ap (λ k. Some k) low) in
      omega (arith, within, past)

  pub ends_within : AreEndsNodes (record { nodes = places nodes; links = edges links })
  ends_within l link at =
      let long = length-map nodes (λ (r : NodeRow). r.place) in
      let up : link.upper < length nodes = are.uppers_within l link.upper (to_column (λ (e : Edge). e.upper) (edges links) l link at) in
      let low : link.lower < length nodes = are.lowers_within l link.lower (lower_key (edges links) l link at) in
      (omega (arith, up, long), omega (arith, low, long))

  pub few_edges : length (edges links) ≡ length links
  few_edges = length-map links (λ (r : LinkRow). r.edge)
