-- The graph of a page grew as one that is asked for keys tells, when one key more is asked for.
use Rattle.std.proofs.Common.{◌≡◌, ◌⊎◌, ◌↔◌, inl, inr, ℕ, suc, ◌+◌, ◌≤◌, List, length, refl, sym, subst, arith}
use Rattle.edit_log.specs.History.{Grammar}
use Rattle.item_sets.specs.declared.item.Item.{Item}
use Rattle.isg_states.specs.declared.scan_key.ScanKey.{ScanKey}
use Rattle.pin_rule.specs.declared.sizes.Sizes.{Sizes}
use Rattle.pin_rule.specs.Lists.{In}
use Rattle.row_coding.specs.Rows.{Key, key_words, FitsKey}
use Rattle.slot_store.specs.Meaning.{Meaning as PageMeaning}
use Rattle.slot_store.specs.GraphAnswers.{HasRows, HasRowWith, AddsRow}
use Rattle.graph_content.specs.Affected.{IsKey}
use Rattle.graph_content.specs.Rows.{IsRowOf}
use Rattle.graph_content.proofs.RowKeys.{one_key_of}
use Rattle.live_graph.specs.declared.origin.Origin.{Origin}
use Rattle.live_graph.specs.declared.origin.Origin.TheVariants.{Found, Made, Raced, Alone}
use Rattle.live_graph.specs.Sharing.{Shared}
use Rattle.live_graph.specs.Showing.{IsNarrow, IsWide}
use Rattle.live_graph.specs.Growing.{IsAsked, made_in, HasRowOf, IsFull, Accords, IsAskedRow, GrowsByAsked}
use Rattle.live_graph.specs.Answers.{GoesOnBy}
use Rattle.live_graph.proofs.ToldGraphs.{as_many, still_as_many, one_more}

abbrev Graph : Type 0
Graph = List (List ℕ)

-- ---- one graph in another

module _ (z : Sizes) (grammar : Grammar) where
  still_full : (graph next : Graph) → ((row : List ℕ) → In row graph → In row next) → IsFull z graph → IsFull z next
  still_full graph next kept (inl has) = inl (still_as_many graph next z.places kept has)
  still_full graph next kept (inr has) = inr (still_as_many graph next z.rows kept has)

  is_full : (graph : Graph) → HasRows graph z.rows ⊎ HasRows graph z.places → IsFull z graph
  is_full graph (inl has) = inr (as_many graph z.rows has)
  is_full graph (inr has) = inl (as_many graph z.places has)

  still_accords : (key : Key) (origin : Origin) (first graph next : Graph) → ((row : List ℕ) → In row graph → In row next)
      → Accords z grammar key origin first graph → Accords z grammar key origin first next
  still_accords key Found first graph next kept has = has
  still_accords key Made first graph next kept (row, there, is) = (row, kept row there, is)
  still_accords key Raced first graph next kept none = absurd none
  still_accords key Alone first graph next kept (inl wide) = inl wide
  still_accords key Alone first graph next kept (inr full) = inr (still_full graph next kept full)

  -- the row has room, so it is in the graph, or the graph is full
  stored_by : (key : Key) (origin : Origin) (first last : Graph) → ((row : List ℕ) → In row first → In row last) → Accords z grammar key origin first last
      → IsNarrow z grammar key → HasRowOf grammar key last ⊎ IsFull z last
  stored_by key Found first last kept (row, there, is) narrow = inl (row, kept row there, is)
  stored_by key Made first last kept has narrow = inl has
  stored_by key Raced first last kept none narrow = absurd none
  stored_by key Alone first last kept (inl (payload, codes, wide)) narrow = absurd (omega (arith, wide, narrow payload codes))
  stored_by key Alone first last kept (inr full) narrow = inr full

-- how a key came that was not asked for before
found_here : (grammar : Grammar) (key : Key) (first : Graph) → HasRowOf grammar key first → (Found ≡ Found) ↔ HasRowWith first (key_words key)
found_here grammar key first (row, there, is) = (λ same. (row, there, (is.payload, is.words)), λ has. refl)

missed : (first : Graph) (words : List ℕ) (origin : Origin) → (origin ≡ Found → ⊥) → (HasRowWith first words → ⊥) → (origin ≡ Found) ↔ HasRowWith first words
missed first words origin other lacks = (λ same. absurd (other same), λ has. absurd (lacks has))

-- what else is told, from which it follows what is stored
record GrowsBy (graph : Shared) (first last : Graph) : Type 0 where
  pub kept : (row : List ℕ) → In row first → In row last
  pub only : (row : List ℕ) → In row last → IsAskedRow graph first row
  pub many : (count : ℕ) → HasRows first count → HasRows last (count + made_in graph)
  pub found : (key : Key) (origin : Origin) → IsAsked graph key origin → (origin ≡ Found) ↔ HasRowWith first (key_words key)
  pub accords : (key : Key) (origin : Origin) → IsAsked graph key origin → Accords graph.basis.sizes graph.grammar key origin first last

grows_by : (graph : Shared) (first last : Graph) → GrowsBy graph first last → GrowsByAsked graph first last
grows_by graph first last by = record {
  kept = by.kept;
  only = by.only;
  many = by.many;
  found = by.found;
  accords = by.accords;
  stored = λ key origin asked narrow.
      stored_by graph.basis.sizes graph.grammar key origin first last by.kept (by.accords key origin asked) narrow;
}

-- before anything was asked for
pub grows_at_first : (graph : Shared) (first : Graph) → made_in graph ≡ 0 → ((key : Key) (origin : Origin) → IsAsked graph key origin → ⊥)
    → GrowsByAsked graph first first
grows_at_first graph first none nothing = grows_by graph first first (record {
  kept = λ row there. there;
  only = λ row there. inl there;
  many = λ count has. subst (HasRows first) (omega (arith, none)) has;
  found = λ key origin asked. absurd (nothing key origin asked);
  accords = λ key origin asked. absurd (nothing key origin asked);
})

-- ---- one key more

-- one more key of a certain origin among so many that were made
abbrev pub made_on : Origin → ℕ → ℕ
made_on Found count = count
made_on Made count = suc count
made_on Raced count = count
made_on Alone count = count

module _ (before : Shared) (page : PageMeaning) (scans : List (ScanKey × Origin)) (kernels : List (List Item × Origin)) where
  abbrev after : Shared
  after = record before { page = page; scans = scans; kernels = kernels }

  -- one key more was asked for, whose expansion came so
  pub record AsksNext (key : Key) (origin : Origin) : Type 0 where
    pub new_key : (other : Origin) → IsAsked before key other → ⊥
    pub stays : (other : Key) (its : Origin) → IsAsked before other its → IsAsked after other its
    pub asked : IsAsked after key origin
    pub only : (other : Key) (its : Origin) → IsAsked after other its → IsAsked before other its ⊎ ◌≡◌ {A = Key × Origin} (key, origin) (other, its)
    pub made : made_in after ≡ made_on origin (made_in before)

  module _ (fits : (key : Key) → IsKey before.grammar key → FitsKey key) (key : Key) (first old : Graph) (grown : GrowsByAsked before first old) where
    -- a row that was asked for before is asked for still
    asked_row : (origin : Origin) → AsksNext key origin → (row : List ℕ) → In row old → IsAskedRow after first row
    asked_row origin next row there = elim (grown.only row there) [
      | inl known ↦ inl known
      | inr (other, asked, is, room) ↦ inr (other, next.stays other Made asked, is, room)
    ]

    -- the graph had the row at first, if it is that of a key that was not asked for
    in_first : (origin : Origin) → AsksNext key origin → (row : List ℕ) → In row old → IsRowOf before.grammar key row → In row first
    in_first origin next row there is = elim (grown.only row there) [
      | inl known ↦ known
      | inr (other, asked, its, room) ↦
          let same : other ≡ key = one_key_of before.grammar row other key (fits other its.names) (fits key is.names) its is in
          absurd (next.new_key Made (subst (λ k. IsAsked before k Made) same asked))
    ]

    accords_on : (origin : Origin) (new : Graph) → AsksNext key origin → ((row : List ℕ) → In row old → In row new)
        → Accords before.basis.sizes before.grammar key origin first new → (other : Key) (its : Origin) → IsAsked after other its
        → Accords before.basis.sizes before.grammar other its first new
    accords_on origin new next kept last other its asked = elim (next.only other its asked) [
      | inl known ↦ still_accords before.basis.sizes before.grammar other its first old new kept (grown.accords other its known)
      | inr same ↦ subst (λ (one : Key × Origin). Accords before.basis.sizes before.grammar one.0 one.1 first new) same last
    ]

    found_on : (origin : Origin) → AsksNext key origin → (origin ≡ Found) ↔ HasRowWith first (key_words key) → (other : Key) (its : Origin)
        → IsAsked after other its → (its ≡ Found) ↔ HasRowWith first (key_words other)
    found_on origin next last other its asked = elim (next.only other its asked) [
      | inl known ↦ grown.found other its known
      | inr same ↦ subst (λ (one : Key × Origin). (one.1 ≡ Found) ↔ HasRowWith first (key_words one.0)) same last
    ]

    -- what was not in the graph was not there at first
    lacked : (HasRowWith old (key_words key) → ⊥) → HasRowWith first (key_words key) → ⊥
    lacked lacks has = lacks (has.0, grown.kept has.0 has.1, has.2)

    -- no row came
    goes_on_same : (origin : Origin) → AsksNext key origin → made_in after ≡ made_in before → (origin ≡ Found) ↔ HasRowWith first (key_words key)
        → Accords before.basis.sizes before.grammar key origin first old → GrowsByAsked after first old
    goes_on_same origin next none found last = grows_by after first old (record {
      kept = grown.kept;
      only = asked_row origin next;
      many = λ count has. subst (λ more. HasRows old (count + more)) (sym none) (grown.many count has);
      found = found_on origin next found;
      accords = accords_on origin old next (λ row there. there) last;
    })

    -- its row came
    goes_on_made : (new : Graph) → AsksNext key Made → (HasRowWith old (key_words key) → ⊥) → (row : List ℕ) → IsRowOf before.grammar key row
        → AddsRow old new row → length row ≤ before.basis.sizes.width → GrowsByAsked after first new
    goes_on_made new next lacks row is adds room = grows_by after first new (record {
      kept = λ other there. adds.kept other (grown.kept other there);
      only = λ other there. elim (adds.only other there) [
        | inl known ↦ asked_row Made next other known
        | inr same ↦
            inr (key, next.asked, subst (IsRowOf before.grammar key) (sym same) is, subst (λ r. length r ≤ before.basis.sizes.width) (sym same) room)
      ];
      many = λ count has.
          let more = one_more old new row (count + made_in before) (λ there. lacks (row, there, (is.payload, is.words))) adds (grown.many count has) in
          let made = next.made in
          subst (HasRows new) (omega (arith, made)) more;
      found = found_on Made next (missed first (key_words key) Made (λ same. absurd cc) (lacked lacks));
      accords = accords_on Made new next adds.kept (row, adds.added, is);
    })

    pub goes_on : (origin : Origin) (new : Graph) → AsksNext key origin → GoesOnBy before.basis.sizes before.grammar key origin old new
        → GrowsByAsked after first new
    goes_on Found new next (same, (row, there, is)) =
        let has : HasRowOf before.grammar key first = (row, in_first Found next row there is, is) in
        subst (GrowsByAsked after first) (sym same) (goes_on_same Found next next.made (found_here before.grammar key first has) has)
    goes_on Made new next (lacks, (row, is, adds, room)) = goes_on_made new next lacks row is adds room
    goes_on Raced new next none = absurd none
    goes_on Alone new next (same, lacks, why) =
        subst (GrowsByAsked after first) (sym same)
        (goes_on_same Alone next next.made (missed first (key_words key) Alone (λ same. absurd cc) (lacked lacks)) (kept_alone why))
      where
        kept_alone : IsWide before.basis.sizes before.grammar key ⊎ (HasRows old before.basis.sizes.rows ⊎ HasRows old before.basis.sizes.places)
            → IsWide before.basis.sizes before.grammar key ⊎ IsFull before.basis.sizes old
        kept_alone (inl wide) = inl wide
        kept_alone (inr full) = inr (is_full before.basis.sizes before.grammar old full)
