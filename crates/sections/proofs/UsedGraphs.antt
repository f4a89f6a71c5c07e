-- A graph that grew while keys were asked for was used by a text that asked for them.
use Rattle.std.proofs.Common.{◌≡◌, ◌↔◌, inl, inr, ℕ, ◌+◌, List, [], ◌∷◌, ◌++◌, map, Contains, refl, sym, ap, ◌∙◌, subst}
use Rattle.std.proofs.lemmas.List.Elements.{Contains-append_left, Contains-append_right, Contains-append_cases}
use Rattle.forest.specs.Distinct.{IsDistinct, AreAll}
use Rattle.edit_log.proofs.PlainLists.{contains_map, contains_map_from, distinct_map}
use Rattle.item_sets.specs.declared.item.Item.{Item}
use Rattle.item_sets.proofs.DistinctLists.{distinct_append}
use Rattle.isg_states.specs.declared.scan_key.ScanKey.{ScanKey}
use Rattle.pin_rule.specs.declared.content.Entry.{Entry}
use Rattle.row_coding.specs.Rows.{Key, kernel, scan}
use Rattle.graph_content.specs.Contents.{IsLogOfGrammar}
use Rattle.graph_content.proofs.RowKeys.{one_key_of}
use Rattle.live_graph.specs.declared.origin.Origin.{Origin}
use Rattle.live_graph.specs.declared.origin.Origin.TheVariants.{Found, Made, Raced, Alone}
use Rattle.live_graph.specs.Sharing.{Shared, keys_in, own_keys, means_shared}
use Rattle.live_graph.specs.Cost.{IsCostOf}
use Rattle.live_graph.specs.Tallying.{tally_of, tallies_of}
use Rattle.live_graph.specs.Growing.{IsAsked, HasRowOf, GrowsByAsked}
use Rattle.live_graph.proofs.RowsOfKeys.{key_fits}
use Rattle.sections.specs.Held.{IsTallyOf, IsCostOfOthers, UsesGraph, AddsRowsOf}
use Rattle.sections.proofs.OriginCounts.{own_all, reached_count, found_count, made_count, none_raced, adds_up}

-- ---- the keys that were asked for, kernels first

abbrev pub asked_keys : List (List Item) → List ScanKey → List Key
asked_keys kernels scans = map kernel kernels ++ map scan scans

module _ (kernels : List (List Item)) (scans : List ScanKey) where
  pub has_kernel : (items : List Item) → Contains (asked_keys kernels scans) (kernel items) ↔ Contains kernels items
  has_kernel items = (
    λ there. from there,
    λ there. Contains-append_left (map kernel kernels) (map scan scans) (kernel items) (contains_map kernel kernels items there),
  )
    where
      from : Contains (map kernel kernels ++ map scan scans) (kernel items) → Contains kernels items
      from there = elim (Contains-append_cases (map kernel kernels) (map scan scans) (kernel items) there) [
        | inl one ↦
            let came = contains_map_from kernel kernels (kernel items) one in
            let is : kernel came.from ≡ kernel items = came.is in
            let same : came.from ≡ items = cc is in subst (Contains kernels) same came.there
        | inr other ↦ let came = contains_map_from scan scans (kernel items) other in let is : scan came.from ≡ kernel items = came.is in absurd (cc is)
      ]

  pub has_scan : (key : ScanKey) → Contains (asked_keys kernels scans) (scan key) ↔ Contains scans key
  has_scan key = (λ there. from there, λ there. Contains-append_right (map kernel kernels) (map scan scans) (scan key) (contains_map scan scans key there))
    where
      from : Contains (map kernel kernels ++ map scan scans) (scan key) → Contains scans key
      from there = elim (Contains-append_cases (map kernel kernels) (map scan scans) (scan key) there) [
        | inl other ↦ let came = contains_map_from kernel kernels (scan key) other in let is : kernel came.from ≡ scan key = came.is in absurd (cc is)
        | inr one ↦
            let came = contains_map_from scan scans (scan key) one in
            let is : scan came.from ≡ scan key = came.is in
            let same : came.from ≡ key = cc is in subst (Contains scans) same came.there
      ]

distinct_mapped : {X Y : Type 0} (f : X → Y) → ((a b : X) → f a ≡ f b → a ≡ b) → (xs : List X) → IsDistinct xs → IsDistinct (map f xs)
distinct_mapped f same [] d = tt
distinct_mapped f same (x ∷ xs) d = (
  λ c. let from = contains_map_from f xs (f x) c in d.0 (subst (Contains xs) (same from.from x from.is) from.there),
  distinct_mapped f same xs d.1,
)

one_kernel : (a b : List Item) → kernel a ≡ kernel b → a ≡ b
one_kernel a b e = cc e

one_scan_key : (a b : ScanKey) → scan a ≡ scan b → a ≡ b
one_scan_key a b e = cc e

pub asked_once : (kernels : List (List Item)) (scans : List ScanKey) → IsDistinct kernels → IsDistinct scans → IsDistinct (asked_keys kernels scans)
asked_once kernels scans kernels_once scans_once =
    distinct_append (map kernel kernels) (map scan scans) (distinct_mapped kernel one_kernel kernels kernels_once)
    (distinct_mapped scan one_scan_key scans scans_once) (λ key left right.
    let of_kernels = contains_map_from kernel kernels key left in
    let of_scans = contains_map_from scan scans key right in
    let same : kernel of_kernels.from ≡ scan of_scans.from = of_kernels.is ∙ sym of_scans.is in absurd (cc same))

-- ---- the keys of one kind

-- a key that was asked for has an origin
pub origin_of : {K : Type 0} (kept : List (K × Origin)) (key : K) → Contains (keys_in kept) key → (origin : Origin) × Contains kept (key, origin)
origin_of {K} kept key there =
    let from = contains_map_from (λ (one : K × Origin). one.0) kept key there in
    (from.from.1, subst (λ k. Contains kept (k, from.from.1)) from.is from.there)

module _ (log : List Entry) (graph : Shared) (first last : List (List ℕ)) (is_log : IsLogOfGrammar log graph.grammar)
    (grown : GrowsByAsked graph first last) where
  -- the first graph has the row of a key that was found, and of no other
  found_at : (key : Key) (origin : Origin) → IsAsked graph key origin → HasRowOf graph.grammar key first → origin ≡ Found
  found_at key origin asked (row, there, is) = (grown.found key origin asked).1 (row, there, (is.payload, is.words))

  not_found : (key : Key) (origin : Origin) → IsAsked graph key origin → (origin ≡ Found → ⊥) → HasRowOf graph.grammar key first → ⊥
  not_found key origin asked other has = other (found_at key origin asked has)

  module _ {K : Type 0} (as_key : K → Key) (kept : List (K × Origin)) (once : IsDistinct (keys_in kept)) (asked : List Key)
      (asks : (key : K) (origin : Origin) → Contains kept (key, origin) → IsAsked graph (as_key key) origin)
      (comes : (key : K) (origin : Origin) → IsAsked graph (as_key key) origin → Contains kept (key, origin))
      (among : (key : K) → Contains asked (as_key key) ↔ Contains (keys_in kept) key) where
    in_asked : (key : K) (origin : Origin) → Contains kept (key, origin) → Contains asked (as_key key)
    in_asked key origin there = (among key).1 (contains_map (λ (one : K × Origin). one.0) kept (key, origin) there)

    with_origin : (key : K) → Contains asked (as_key key) → (origin : Origin) × Contains kept (key, origin)
    with_origin key there = origin_of kept key ((among key).0 there)

    abbrev IsFound : K → Type 0
    IsFound key = Contains asked (as_key key) × HasRowOf graph.grammar (as_key key) first

    abbrev IsMade : K → Type 0
    IsMade key = Contains asked (as_key key) × (¬ (HasRowOf graph.grammar (as_key key) first)) × HasRowOf graph.grammar (as_key key) last

    found_so : (key : K) → IsFound key → Contains kept (key, Found)
    found_so key (there, has) =
        let (origin, known) = with_origin key there in
        subst (λ o. Contains kept (key, o)) (found_at (as_key key) origin (asks key origin known) has) known

    -- a key that is kept alone has no row in the last graph
    alone_lacks : (key : K) → Contains kept (key, Alone) → (HasRowOf graph.grammar (as_key key) first → ⊥) → HasRowOf graph.grammar (as_key key) last → ⊥
    alone_lacks key known lacks (row, there, is) = elim (grown.only row there) [
      | inl old ↦ lacks (row, old, is)
      | inr (other, made, its, room) ↦
          let same : other ≡ as_key key = one_key_of graph.grammar row other (as_key key) (key_fits log graph.grammar is_log other its.names)
          (key_fits log graph.grammar is_log (as_key key) is.names) its is in
          let again : Contains kept (key, Made) = comes key Made (subst (λ k. IsAsked graph k Made) same made) in
          let both : ◌≡◌ {A = K × Origin} (key, Made) (key, Alone) =
          distinct_map (λ (one : K × Origin). one.0) kept (key, Made) (key, Alone) once again known refl in
          let never : Made ≡ Alone = ap (λ (one : K × Origin). one.1) both in absurd (cc never)
    ]

    made_so : (key : K) → IsMade key → Contains kept (key, Made)
    made_so key (there, lacks, has) = let (origin, known) = with_origin key there in by origin known
      where
        by : (origin : Origin) → Contains kept (key, origin) → Contains kept (key, Made)
        by Found known = absurd (lacks (grown.accords (as_key key) Found (asks key Found known)))
        by Made known = known
        by Raced known = absurd (grown.accords (as_key key) Raced (asks key Raced known))
        by Alone known = absurd (alone_lacks key known lacks has)

    abbrev IsOther : K → Type 0
    IsOther key = Contains asked (as_key key) × (¬ (HasRowOf graph.grammar (as_key key) first))

    other_so : (key : K) → IsOther key → (origin : Origin) × (origin ≡ Found → ⊥) × Contains kept (key, origin)
    other_so key (there, lacks) = let (origin, known) = with_origin key there in (
      origin,
      λ same. lacks (grown.accords (as_key key) Found (asks key Found (subst (λ o. Contains kept (key, o)) same known))),
      known,
    )

    -- the keys that the graph expanded itself
    pub own_so : AreAll IsOther (own_keys kept)
    own_so =
        own_all kept once IsOther
        (λ key origin other known. (in_asked key origin known, not_found (as_key key) origin (asks key origin known) other)) other_so

    pub tallied : IsTallyOf graph.grammar asked first last as_key (tally_of kept)
    tallied = record {
      reached = reached_count kept once (λ key. Contains asked (as_key key)) in_asked with_origin;
      found =
          found_count kept once IsFound (λ key known. (in_asked key Found known, grown.accords (as_key key) Found (asks key Found known))) found_so;
      made =
          made_count kept once IsMade (λ key known. (
            in_asked key Made known,
            not_found (as_key key) Made (asks key Made known) (λ same. absurd (cc same)),
            grown.accords (as_key key) Made (asks key Made known),
          )) made_so;
      raced = none_raced kept (λ key known. absurd (grown.accords (as_key key) Raced (asks key Raced known)));
      sum = adds_up kept;
    }

-- ---- the keys of both kinds

module _ (log : List Entry) (graph : Shared) (first last : List (List ℕ)) (is_log : IsLogOfGrammar log graph.grammar)
    (grown : GrowsByAsked graph first last) where
  abbrev asked_in : List Key
  asked_in = asked_keys (keys_in graph.kernels) (keys_in graph.scans)

  is_among : (key : Key) (origin : Origin) → IsAsked graph key origin → Contains asked_in key
  is_among (kernel items) origin asked =
      (has_kernel (keys_in graph.kernels) (keys_in graph.scans) items).1 (contains_map (λ (one : List Item ×
      Origin). one.0) graph.kernels (items, origin) asked)
  is_among (scan key) origin asked =
      (has_scan (keys_in graph.kernels) (keys_in graph.scans) key).1 (contains_map (λ (one : ScanKey × Origin). one.0) graph.scans (key, origin) asked)

  came_by : (key : Key) → Contains asked_in key → (origin : Origin) × IsAsked graph key origin
  came_by (kernel items) there = origin_of graph.kernels items ((has_kernel (keys_in graph.kernels) (keys_in graph.scans) items).0 there)
  came_by (scan key) there = origin_of graph.scans key ((has_scan (keys_in graph.kernels) (keys_in graph.scans) key).0 there)

  module _ (kernels_once : IsDistinct (keys_in graph.kernels)) (scans_once : IsDistinct (keys_in graph.scans)) where
    cost_of : (cost : ℕ) → IsCostOf (means_shared graph) cost → IsCostOfOthers graph.grammar asked_in first cost
    cost_of cost is = record {
      kernels = is.kernels;
      scans = is.scans;
      kernels_cost = record {
        members = own_keys graph.kernels;
        are_all =
            own_so log graph first last is_log grown kernel graph.kernels kernels_once asked_in (λ key origin known. known) (λ key origin known. known)
            (has_kernel (keys_in graph.kernels) (keys_in graph.scans));
        is_sum = is.kernels_cost;
      };
      scans_cost = record {
        members = own_keys graph.scans;
        are_all =
            own_so log graph first last is_log grown scan graph.scans scans_once asked_in (λ key origin known. known) (λ key origin known. known)
            (has_scan (keys_in graph.kernels) (keys_in graph.scans));
        is_sum = is.scans_cost;
      };
      sum = is.sum;
    }

    pub used : (before after cost : ℕ) → IsCostOf (means_shared graph) cost → after ≡ before + cost
        → UsesGraph graph.basis.sizes graph.grammar asked_in first last (tallies_of graph) before after
    used before after cost is rises = record {
      kept = grown.kept;
      only = λ row there. elim (grown.only row there) [
        | inl old ↦ inl old
        | inr (key, asked, is, room) ↦ inr (key, is_among key Made asked, is, room)
      ];
      stored = λ key there narrow. let (origin, asked) = came_by key there in grown.stored key origin asked narrow;
      many = grown.many;
      items_told =
          tallied log graph first last is_log grown kernel graph.kernels kernels_once asked_in (λ key origin known. known) (λ key origin known. known)
          (has_kernel (keys_in graph.kernels) (keys_in graph.scans));
      scan_told =
          tallied log graph first last is_log grown scan graph.scans scans_once asked_in (λ key origin known. known) (λ key origin known. known)
          (has_scan (keys_in graph.kernels) (keys_in graph.scans));
      cost = cost;
      is_cost = cost_of cost is;
      rises = rises;
    }

-- ---- a graph, whatever it was asked for

pub rows_added : (graph : Shared) (first last : List (List ℕ)) → GrowsByAsked graph first last → AddsRowsOf graph.grammar first last
rows_added graph first last grown = record {
  kept = grown.kept;
  only = λ row there. elim (grown.only row there) [ inl old ↦ inl old | inr (key, asked, is, room) ↦ inr (key, is) ];
}
