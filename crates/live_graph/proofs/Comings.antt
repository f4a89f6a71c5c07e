-- How the expansion of a key came, by the steps of a look and of an offer.
use Rattle.std.proofs.Common.{◌≡◌, inl, inr, ℕ, List, [], ◌++◌, Option, Some, None, refl, sym, ap, subst, append-nil}
use Rattle.edit_log.specs.History.{Grammar}
use Rattle.pin_rule.specs.declared.sizes.Sizes.{Sizes}
use Rattle.pin_rule.specs.declared.view.Step.{Step}
use Rattle.pin_rule.specs.Lists.{In}
use Rattle.row_coding.specs.Rows.{Key, key_words}
use Rattle.slot_store.specs.Keys.{row_of}
use Rattle.slot_store.specs.GraphAnswers.{HasRowWith}
use Rattle.slot_store.specs.Meaning.{Meaning as PageMeaning, extended}
use Rattle.graph_content.specs.Affected.{IsKey}
use Rattle.graph_content.specs.Rows.{IsPayloadOf, IsRowOf}
use Rattle.graph_content.specs.Contents.{IsLogOfGrammar, FitsLog}
use Rattle.live_graph.specs.declared.origin.Origin.{Origin}
use Rattle.live_graph.specs.declared.origin.Origin.TheVariants.{Found, Made, Raced, Alone}
use Rattle.live_graph.specs.Showing.{StandsAmong, Comes, Came}
use Rattle.live_graph.specs.Growing.{WhereBothTold}
use Rattle.live_graph.specs.Answers.{IsMissing, HasLooked, WasOffered, OffersRow, HasOffered, GoesOnBy, HasCome}
use Rattle.live_graph.proofs.Steps.{whole_part, comes_join, passes_comes, same_graph}
use Rattle.live_graph.proofs.ToldGraphs.{told_of, told_with}
use Rattle.live_graph.proofs.RowsOfKeys.{codes}

module _ {E : Type 0} (Codes : List ℕ → E → Type 0) (grammar : Grammar) (m n : PageMeaning) (key : Key) (words : List ℕ) (words_are : words ≡ key_words key)
  where
    -- the payload that was found, of which the expansion was read
    pub record IsRead (expansion : E) : Type 0 where
      pub payload : List ℕ
      pub read : Codes payload expansion
      pub fitting : FitsLog m.log (row_of (key_words key) payload)

    pub was_read : (expansion : E) → HasLooked Codes m n words (Some expansion) → IsRead expansion
    was_read expansion looked = record {
      payload = looked.looks.0;
      read = looked.looks.1;
      fitting = subst (λ k. FitsLog m.log (row_of k looked.looks.0)) words_are looked.looks.2.fitting;
    }

    pub found_came : (expansion : E) → IsLogOfGrammar m.log grammar → IsKey grammar key → HasLooked Codes m n words (Some expansion)
        → HasCome grammar m n key Found
    found_came expansion is names looked_at =
        let looked : HasLooked Codes m n (key_words key) (Some expansion) = subst (λ k. HasLooked Codes m n k (Some expansion)) words_are looked_at in
        let payload = looked.looks.0 in
        let coded : IsPayloadOf grammar key payload = codes m.log grammar is key payload names looked.looks.2.fitting in
        let row : IsRowOf grammar key (row_of (key_words key) payload) = record { names = names; payload = payload; codes = coded; words = refl } in
        record {
          added = looked.added;
          comes = passes_comes m n looked.added looked.passes;
          came = (payload, coded, record { look = looked.added; part = whole_part looked.added; found = looked.looks.2 });
          graph =
              subst (λ told. WhereBothTold m.graph told (GoesOnBy m.sizes grammar key Found)) (sym (same_graph m n looked.added looked.passes))
              (told_of (In (row_of (key_words key) payload)) (GoesOnBy m.sizes grammar key Found) m.graph
              (λ graph there. (refl, (row_of (key_words key) payload, there, row))) looked.looks.3);
        }

-- a part that ends the steps
last_part : (front part : List Step) → StandsAmong part (front ++ part)
last_part front part = record { before = front; after = []; is = ap (λ rest. front ++ rest) (sym (append-nil part)) }

-- a part that begins them
first_part : (part back : List Step) → StandsAmong part (part ++ back)
first_part part back = record { before = []; after = back; is = refl }

module _ (grammar : Grammar) (m : PageMeaning) (key : Key) (payload : List ℕ) (pays : IsPayloadOf grammar key payload) (look : List Step)
    (missing : IsMissing m.sizes m.page look (key_words key)) where
  came_offered : (offer : List Step) (origin : Origin) → WasOffered m.sizes m.page offer (key_words key) payload origin
      → Came m (look ++ offer) grammar key origin
  came_offered offer Found offers = absurd offers
  came_offered offer Made offers = (payload, pays, record { call = offer; part = last_part look offer; made = offers })
  came_offered offer Raced offers = record { call = offer; part = last_part look offer; already = offers }
  came_offered offer Alone (inl wide) = inl (payload, pays, wide)
  came_offered offer Alone (inr (inl full)) = elim missing [
    | inl (place, initial) ↦ inr (inl (record {
      look = look;
      claims = offer;
      part = whole_part (look ++ offer);
      place = place;
      initial = initial;
      full = full;
    }))
    | inr none ↦ inr (inr (record { walk = look; part = first_part look offer; full = none }))
  ]
  came_offered offer Alone (inr (inr full)) = inr (inr (record { walk = offer; part = last_part look offer; full = full }))

-- what becomes of the graph of a page that has no row of the key
went_on : (z : Sizes) (grammar : Grammar) (key : Key) (payload : List ℕ) → IsKey grammar key → IsPayloadOf grammar key payload → (origin : Origin)
    → (before after : List (List ℕ)) → (HasRowWith before (key_words key) → ⊥) → OffersRow z (key_words key) payload origin before after
    → GoesOnBy z grammar key origin before after
went_on z grammar key payload names pays Found before after lacks none = absurd none
went_on z grammar key payload names pays Made before after lacks (again, adds, room) =
    (lacks, (row_of (key_words key) payload, record { names = names; payload = payload; codes = pays; words = refl }, adds, room))
went_on z grammar key payload names pays Raced before after lacks has = absurd (lacks has)
went_on z grammar key payload names pays Alone before after lacks (same, inl wide) = (same, lacks, inl (payload, pays, wide))
went_on z grammar key payload names pays Alone before after lacks (same, inr full) = (same, lacks, inr full)

module _ {E : Type 0} (Codes : List ℕ → E → Type 0) (grammar : Grammar) (m middle n : PageMeaning) (key : Key) (words payload_words payload : List ℕ)
    (words_are : words ≡ key_words key) where
  pub offered_came : (origin : Origin) → IsKey grammar key → IsPayloadOf grammar key payload_words → payload ≡ payload_words
      → HasLooked Codes m middle words None → HasOffered middle n words payload origin → HasCome grammar m n key origin
  offered_came origin names pays payload_is looked_at offered_at =
      let looked : HasLooked Codes m middle (key_words key) None = subst (λ k. HasLooked Codes m middle k None) words_are looked_at in
      let same_words : HasOffered middle n (key_words key) payload_words origin =
      subst (λ k. HasOffered middle n k payload_words origin) words_are (subst (λ p. HasOffered middle n words p origin) payload_is offered_at) in
      let offered : HasOffered (extended m looked.added) n (key_words key) payload_words origin =
      subst (λ k. HasOffered k n (key_words key) payload_words origin) looked.passes.is same_words in
      record {
        added = looked.added ++ offered.added;
        comes =
            comes_join (passes_comes m middle looked.added looked.passes)
            (subst (λ k. Comes k n offered.added) (sym looked.passes.is) offered.comes);
        came = came_offered grammar m key payload_words pays looked.added looked.looks.0 offered.added origin offered.offers;
        graph =
            told_with (OffersRow m.sizes (key_words key) payload_words origin) (GoesOnBy m.sizes grammar key origin)
            (λ graph. HasRowWith graph (key_words key) → ⊥) m.graph n.graph
            (went_on m.sizes grammar key payload_words names pays origin) looked.looks.1 offered.graph;
      }

pub log_after_look : {E : Type 0} (Codes : List ℕ → E → Type 0) (m n : PageMeaning) (words : List ℕ) (found : Option E) → HasLooked Codes m n words found
    → n.log ≡ m.log
log_after_look Codes m n words found looked = ap (λ (k : PageMeaning). k.log) looked.passes.is
