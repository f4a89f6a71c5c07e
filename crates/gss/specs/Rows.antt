-- Nodes and links with what is kept beside them.
use Rattle.std.specs.Prelude.{◌≡◌, ℕ, ◌<◌, ◌^◌, ◌⊎◌, List, length, map, slice_get, Some}
use Rattle.std.proofs.Math.ListN.{set}
use Rattle.gss.specs.declared.stack_graph.Place.{Place}
use Rattle.gss.specs.declared.stack_graph.Edge.{Edge}
use Rattle.gss.specs.declared.rows.NodeRow.{NodeRow}
use Rattle.gss.specs.declared.rows.LinkRow.{LinkRow}
use Rattle.gss.specs.PlaceGraphs.{AreNodesDistinct}
use Rattle.gss.specs.Chains.{none, AreBelow, AreFirsts, AreLasts, AreNexts, AreOlders}

abbrev pub states : List Place → List ℕ
states nodes = map (λ node. node.state) nodes

abbrev pub uppers : List Edge → List ℕ
uppers links = map (λ link. link.upper) links

abbrev pub lowers : List Edge → List ℕ
lowers links = map (λ link. link.lower) links

-- the columns of nodes
abbrev pub places : List NodeRow → List Place
places nodes = map (λ row. row.place) nodes

abbrev pub first_links : List NodeRow → List ℕ
first_links nodes = map (λ row. row.first) nodes

abbrev pub last_links : List NodeRow → List ℕ
last_links nodes = map (λ row. row.last) nodes

abbrev pub aboves : List NodeRow → List ℕ
aboves nodes = map (λ row. row.above) nodes

-- the columns of links
abbrev pub edges : List LinkRow → List Edge
edges links = map (λ row. row.edge) links

abbrev pub nexts : List LinkRow → List ℕ
nexts links = map (λ row. row.next) links

abbrev pub olders : List LinkRow → List ℕ
olders links = map (λ row. row.older) links

-- for each state its newest node
pub record AreFound (nodes : List Place) (newest : List ℕ) : Type 0 where
  pub few : length nodes < 2 ^ 32
  pub distinct : AreNodesDistinct nodes
  pub within : AreBelow (states nodes) (length newest)
  pub of_state : AreLasts (states nodes) newest

-- for each node its links downwards, oldest first, and those down to it, newest first
pub record AreLinked (nodes : List NodeRow) (links : List LinkRow) : Type 0 where
  pub few : length links < 2 ^ 32
  pub uppers_within : AreBelow (uppers (edges links)) (length nodes)
  pub lowers_within : AreBelow (lowers (edges links)) (length nodes)
  pub first : AreFirsts (uppers (edges links)) (first_links nodes)
  pub last : AreLasts (uppers (edges links)) (last_links nodes)
  pub next : AreNexts (uppers (edges links)) (nexts links)
  pub above : AreLasts (lowers (edges links)) (aboves nodes)
  pub older : AreOlders (lowers (edges links)) (olders links)

-- one column of one node is another number
pub record PutsAbove (old new : List NodeRow) (node link : ℕ) : Type 0 where
  pub place : places new ≡ places old
  pub first : first_links new ≡ first_links old
  pub last : last_links new ≡ last_links old
  pub above : aboves new ≡ set (aboves old) node link

pub record PutsLast (old new : List NodeRow) (node link : ℕ) : Type 0 where
  pub place : places new ≡ places old
  pub first : first_links new ≡ first_links old
  pub last : last_links new ≡ set (last_links old) node link
  pub above : aboves new ≡ aboves old

pub record PutsFirst (old new : List NodeRow) (node link : ℕ) : Type 0 where
  pub place : places new ≡ places old
  pub first : first_links new ≡ set (first_links old) node link
  pub last : last_links new ≡ last_links old
  pub above : aboves new ≡ aboves old

-- one link has another next one
pub record PutsNext (old new : List LinkRow) (before link : ℕ) : Type 0 where
  pub edge : edges new ≡ edges old
  pub next : nexts new ≡ set (nexts old) before link
  pub older : olders new ≡ olders old

-- the link is the last one down from the node, behind the one that was the last
pub record PutsBelow (old new : List NodeRow) (old_links new_links : List LinkRow) (node link : ℕ) : Type 0 where
  pub place : places new ≡ places old
  pub last : last_links new ≡ set (last_links old) node link
  pub above : aboves new ≡ aboves old
  pub edge : edges new_links ≡ edges old_links
  pub older : olders new_links ≡ olders old_links
  pub was : ℕ
  pub was_last : slice_get (last_links old) node ≡ Some was
  pub chain : ((was ≡ none) × (first_links new ≡ set (first_links old) node link) × (nexts new_links ≡ nexts old_links))
      ⊎ ((was ≡ none → ⊥) × (first_links new ≡ first_links old) × (nexts new_links ≡ set (nexts old_links) was link))
