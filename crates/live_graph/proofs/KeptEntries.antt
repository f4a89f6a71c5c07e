-- Where a key stands among entries, and how it is put behind them.
use Rattle.std.proofs.Common.{◌≡◌, inl, inr, ◌⊎◌, ℕ, Bool, List, [], ◌∷◌, ◌++◌, length, slice_get, position, None, Some, option_map, Contains, IsSome}
use Rattle.std.proofs.Common.{refl, sym, ap, ◌∙◌, subst, true≢false, arith}
use Rattle.std.specs.List.{position_or_len}
use Rattle.std.specs.Bool.{Decides}
use Rattle.std.specs.Cmp.{IsEquivalence}
use Rattle.std.specs.Map.{keys_of}
use Rattle.std.proofs.lemmas.Option.{slice_get_cases, slice_get_read, slice_get-map}
use Rattle.std.proofs.lemmas.List.{length-append, map-append}
use Rattle.std.proofs.lemmas.Option.{same_Some}
use Rattle.std.proofs.lemmas.List.Elements.{Contains-push_cases}
use Rattle.std.proofs.lemmas.Map.Made.{lookup_key_same}
use Rattle.std.proofs.lemmas.Map.Views.{IsSome-lookup_from_Contains}
use Rattle.std.proofs.Math.Seq.{get_or-append_seam}
use Rattle.indexmap.specs.IndexMap.{insert_entry}
use Rattle.indexmap.proofs.MapLemmas.{Found-position, Missing-position, insert_entry-absent}
use Rattle.edit_log.proofs.PlainLists.{contains_at}

-- the key stands at the place with a value
pub record StandsAt {K V : Type 0} (entries : List (K × V)) (key : K) (place : ℕ) : Type 0 where
  pub value : V
  pub at : slice_get entries place ≡ Some (key, value)
  pub among : Contains entries (key, value)
  pub asked : Contains (keys_of entries) key

-- the key did not stand among the old entries, and stands with its value at this place behind them
pub record IsPut {K V : Type 0} (old new : List (K × V)) (key : K) (value : V) (place : ℕ) : Type 0 where
  pub new_key : Contains (keys_of old) key → ⊥
  pub keys_are : keys_of new ≡ keys_of old ++ key ∷ []
  pub at : slice_get new place ≡ Some (key, value)
  pub others : (other : K) (its : V) → Contains new (other, its) → Contains old (other, its) ⊎ (◌≡◌ {A = K × V} (key, value) (other, its))

module _ {K V : Type 0} (eq : K → K → Bool) (laws : IsEquivalence eq) (same : (a b : K) → Decides (eq a b) (a ≡ b)) where
  pub stands_at : (entries : List (K × V)) (key : K) (place : ℕ) → position (eq key) (keys_of entries) ≡ Some place → StandsAt entries key place
  stands_at entries key place is =
      let found = Found-position (eq key) entries place is in
      elim (slice_get_cases entries place).1 [
        | inl there ↦
            let at_key : slice_get (keys_of entries) place ≡ Some there.0.0 = slice_get-map (λ e. e.0) entries place ∙ ap (option_map (λ e. e.0)) there.2 in
            let key_is : key ≡ there.0.0 = lookup_key_same same key entries there.0.0 (found.key ∙ at_key) in
            let at : slice_get entries place ≡ Some (key, there.0.1) = there.2 ∙ ap (λ k. Some (k, there.0.1)) (sym key_is) in
            record {
              value = there.0.1;
              at = at;
              among = contains_at entries place (key, there.0.1) at;
              asked = contains_at (keys_of entries) place key (at_key ∙ ap Some (sym key_is));
            }
        | inr past ↦ absurd (omega (arith, found.within, past.0))
      ]

  is_put_own : (old new : List (K × V)) (key : K) (value : V) (place : ℕ) → position (eq key) (keys_of old) ≡ None → new ≡ insert_entry eq old key value
      → place ≡ position_or_len (eq key) (keys_of old) → IsPut old new key value place
  is_put_own old new key value place is new_is place_is =
      let missing = Missing-position (eq key) old is in
      let entries_are : new ≡ old ++ (key, value) ∷ [] = new_is ∙ insert_entry-absent eq key value old missing.absent in
      let last : slice_get (old ++ (key, value) ∷ []) (length old) ≡ Some (key, value) =
      slice_get_read (old ++ (key, value) ∷ []) (length (old ++ (key, value) ∷ [])) (length old) (key, value) refl (omega (
        arith,
        length-append old ((
          key,
          value,
        ) ∷ []),
      ))
      (sym (get_or-append_seam old (key, value) [] (key, value))) in
      record {
        new_key = λ asked. true≢false (sym (subst IsSome missing.value (IsSome-lookup_from_Contains laws key old asked)));
        keys_are = ap keys_of entries_are ∙ map-append (λ e. e.0) old ((key, value) ∷ []);
        at = ap (slice_get new) (place_is ∙ missing.or_len) ∙ ap (λ list. slice_get list (length old)) entries_are ∙ last;
        others = λ other its there. Contains-push_cases old (key, value) (other, its) (subst (λ list. Contains list (other, its)) entries_are there);
      }

  -- a copy of the key was put there
  pub is_put : (old new : List (K × V)) (key own : K) (value : V) (place : ℕ) → own ≡ key → position (eq key) (keys_of old) ≡ None
      → new ≡ insert_entry eq old own value
      → place ≡ position_or_len (eq own) (keys_of old) → IsPut old new key value place
  is_put old new key own value place own_is is new_is place_is =
      subst (λ k. IsPut old new k value place) own_is
      (is_put_own old new own value place (subst (λ k. position (eq k) (keys_of old) ≡ None) (sym own_is) is) new_is place_is)

-- what stands at one place is one value
pub value_at : {K V : Type 0} (entries : List (K × V)) (place : ℕ) (own key : K) (one other : V) → Some (own, one) ≡ slice_get entries place
    → slice_get entries place ≡ Some (key, other) → one ≡ other
value_at {K = K} {V = V} entries place own key one other is that = ap (λ (p : K × V). p.1) (same_Some (own, one) (key, other) (is ∙ that))
