-- Keys that are kept with their answers, and one more of them.
use Rattle.std.proofs.Common.{◌≡◌, inl, inr, ℕ, ◌+◌, ◌<◌, Bool, List, [], ◌∷◌, ◌++◌, map, length, slice_get, position, None, Some, Contains}
use Rattle.std.proofs.Common.{refl, sym, ap, ◌∙◌, subst, arith}
use Rattle.std.specs.Bool.{Decides}
use Rattle.std.specs.Cmp.{IsEquivalence}
use Rattle.std.specs.List.{position_or_len}
use Rattle.std.specs.Map.{keys_of}
use Rattle.std.proofs.lemmas.List.{length-append, map-append}
use Rattle.std.proofs.lemmas.List.Elements.{Contains-push_cases}
use Rattle.indexmap.specs.IndexMap.{insert_entry}
use Rattle.indexmap.proofs.MapLemmas.{Missing-position, insert_entry-absent}
use Rattle.live_graph.specs.declared.origin.Origin.{Origin}
use Rattle.live_graph.specs.declared.origin.Origin.TheVariants.{Found, Made, Raced, Alone}
use Rattle.live_graph.specs.declared.answer.Answer.{Answer}
use Rattle.live_graph.specs.Asking.{Works, Asks}
use Rattle.live_graph.specs.Sharing.{own_with, own_keys, keys_in, asked_with}
use Rattle.live_graph.specs.Answers.{Pays, origins, HoldsAnswers}
use Rattle.live_graph.proofs.KeptEntries.{is_put}

-- ---- the keys of what is kept

pub same_keys : {K E : Type 0} (kept : List (K × Answer E)) → keys_of kept ≡ map (λ one. one.0) (origins kept)
same_keys [] = refl
same_keys (one ∷ kept) = ap (λ keys. one.0 ∷ keys) (same_keys kept)

pub origins_push : {K E : Type 0} (kept : List (K × Answer E)) (key : K) (answer : Answer E)
    → origins (kept ++ (key, answer) ∷ []) ≡ origins kept ++ (key, answer.origin) ∷ []
origins_push [] key answer = refl
origins_push (one ∷ kept) key answer = ap (λ all. (one.0, one.1.origin) ∷ all) (origins_push kept key answer)

pub keys_push : {K : Type 0} (kept : List (K × Origin)) (key : K) (origin : Origin)
    → keys_in (kept ++ (key, origin) ∷ []) ≡ keys_in kept ++ key ∷ []
keys_push kept key origin = map-append (λ one. one.0) kept ((key, origin) ∷ [])

with_push : {K : Type 0} (origin : Origin) (first key : K) (own : List K) → own_with origin first (own ++ key ∷ []) ≡ own_with origin first own ++ key ∷ []
with_push Found first key own = refl
with_push Made first key own = refl
with_push Raced first key own = refl
with_push Alone first key own = refl

own_found : {K : Type 0} (kept : List (K × Origin)) (key : K) → own_keys (kept ++ (key, Found) ∷ []) ≡ own_keys kept
own_found [] key = refl
own_found (one ∷ kept) key = ap (own_with one.1 one.0) (own_found kept key)

own_push : {K : Type 0} (kept : List (K × Origin)) (key : K) (origin : Origin) → own_with origin key [] ≡ key ∷ []
    → own_keys (kept ++ (key, origin) ∷ []) ≡ own_keys kept ++ key ∷ []
own_push [] key origin is = is
own_push (one ∷ kept) key origin is = ap (own_with one.1 one.0) (own_push kept key origin is) ∙ with_push one.1 one.0 key (own_keys kept)

-- ---- one key more

module _ {K : Type 0} (Costs : K → ℕ → Type 0) (kept : List (K × Origin)) (key : K) (before after : ℕ)
    (new : Contains (map (λ one. one.0) kept) key → ⊥) where
  works : (origin : Origin) → Pays Costs key origin before after → Works Costs (asked_with kept) key (asked_with (kept ++ (key, origin) ∷ [])) before after
  works Found pays = inl (own_found kept key, pays)
  works Made pays = inr (new, own_push kept key Made refl, pays)
  works Raced pays = inr (new, own_push kept key Raced refl, pays)
  works Alone pays = inr (new, own_push kept key Alone refl, pays)

  asks_one : (origin : Origin) → Pays Costs key origin before after → Asks Costs (asked_with kept) key (asked_with (kept ++ (key, origin) ∷ [])) before after
  asks_one origin pays = record { joins = inr (new, keys_push kept key origin); works = works origin pays }

-- the key stands among what is kept already
pub asks_again : {K E : Type 0} (Costs : K → ℕ → Type 0) (kept : List (K × Answer E)) (key : K) (steps : ℕ) → Contains (keys_of kept) key
    → Asks Costs (asked_with (origins kept)) key (asked_with (origins kept)) steps steps
asks_again Costs kept key steps asked = record { joins = inl (subst (λ keys. Contains keys key) (same_keys kept) asked, refl); works = inl (refl, refl) }

module _ {K E : Type 0} (eq : K → K → Bool) (laws : IsEquivalence eq) (same : (a b : K) → Decides (eq a b) (a ≡ b)) where
  -- a copy of the key was put behind what was kept
  pub record IsAnswered (old new : List (K × Answer E)) (key : K) (answer : Answer E) (place : ℕ) : Type 0 where
    pub entries : new ≡ old ++ (key, answer) ∷ []
    pub new_key : Contains (keys_of old) key → ⊥
    pub at : slice_get new place ≡ Some (key, answer)

  pub is_answered : (old room new : List (K × Answer E)) (key own : K) (answer : Answer E) (place : ℕ) → room ≡ old → own ≡ key
      → position (eq key) (keys_of old) ≡ None → new ≡ insert_entry eq room own answer → place ≡ position_or_len (eq own) (keys_of room)
      → IsAnswered old new key answer place
  is_answered old room new key own answer place room_is own_is missing new_is place_is =
      let made : new ≡ insert_entry eq old key answer =
      new_is ∙ ap (λ list. insert_entry eq list own answer) room_is ∙ ap (λ k. insert_entry eq old k answer) own_is in
      let at : place ≡ position_or_len (eq key) (keys_of old) =
      place_is ∙ ap (λ list. position_or_len (eq own) (keys_of list)) room_is ∙ ap (λ k. position_or_len (eq k) (keys_of old)) own_is in
      let put = is_put eq laws same old new key key answer place refl missing made at in
      let absent = Missing-position (eq key) old missing in
      record {
        entries = made ∙ insert_entry-absent eq key answer old absent.absent;
        new_key = put.new_key;
        at = put.at;
      }

  module _ (old new : List (K × Answer E)) (key : K) (answer : Answer E) (place : ℕ) (is : IsAnswered old new key answer place) where
    pub not_asked : Contains (keys_in (origins old)) key → ⊥
    not_asked asked = is.new_key (subst (λ keys. Contains keys key) (sym (same_keys old)) asked)

    pub asks : (Costs : K → ℕ → Type 0) (before after : ℕ) → Pays Costs key answer.origin before after
        → Asks Costs (asked_with (origins old)) key (asked_with (origins new)) before after
    asks Costs before after pays =
        subst (λ kept. Asks Costs (asked_with (origins old)) key (asked_with kept) before after) (sym (ap origins is.entries ∙ origins_push old key answer))
        (asks_one Costs (origins old) key before after not_asked answer.origin pays)

    pub holds : (Expands : K → E → Type 0) → Expands key answer.expansion → HoldsAnswers Expands old → HoldsAnswers Expands new
    holds Expands expands held other its there =
        elim (Contains-push_cases old (key, answer) (other, its) (subst (λ list. Contains list (other, its)) is.entries there)) [
          | inl before ↦ held other its before
          | inr last ↦ subst (λ (one : K × Answer E). Expands one.0 one.1.expansion) last expands
        ]

    pub few : (limit : ℕ) → length old < limit → length new < limit + 1
    few limit small =
        let long = length-append old ((key, answer) ∷ []) in
        let same_length : length new ≡ length (old ++ (key, answer) ∷ []) = ap length is.entries in
        omega (arith, small, long, same_length)
