-- The page of a version that is given up, place by place.
use Rattle.std.proofs.Common.{◌≡◌, ℕ, suc, ◌+◌, ◌<◌, List, [], ◌∷◌, ◌++◌, inl, inr, length, length-append, append-nil, append_assoc, eq-eqb, ne_eqb}
use Rattle.std.proofs.Common.{sym, refl, ap, ◌∙◌, subst, arith}
use mathlib.Core.Bool.{cond}
use Rattle.std.specs.Prelude.{Option, Some, None, Bool, true, false}
use Rattle.pin_rule.specs.declared.sizes.Sizes.{Sizes}
use Rattle.pin_rule.specs.declared.view.View.{View}
use Rattle.pin_rule.specs.declared.view.Role.{Role}
use Rattle.pin_rule.specs.declared.view.Step.{Step}
use Rattle.pin_rule.specs.declared.view.GivingUp.{GivingUp}
use Rattle.pin_rule.specs.declared.view.EntryFact.{EntryFact}
use Rattle.pin_rule.specs.Lists.{In, is_in}
use Rattle.pin_rule.specs.Views.{version_at, version_pinned, version_of_role, version_given_up}
use Rattle.pin_rule.specs.GivingUp.{oldest, is_passed, with_next, role_met, role_freed}
use Rattle.pin_rule.specs.Freeing.{IsLeftBehind}
use Rattle.pin_rule.specs.Steps.{met_entry, loaded_place, freed_row, after_load_place, after_free_row}
use Rattle.pin_rule.specs.Told.{KnowsPlace, IsOfGivenUp}
use Rattle.pin_rule.proofs.Bools.{no_bool}
use Rattle.pin_rule.proofs.Spare.{is_in_tells}
use Rattle.pin_rule.proofs.Passing.{role_passes, role_waits}
use Rattle.version_store.specs.declared.carried_rows.CarriedRows.{CarriedRows}
use Rattle.version_store.specs.declared.leaving.Leaving.{Leaving}
use Rattle.version_store.specs.Stages.{Goes}
use Rattle.version_store.specs.GivingUp.{place_frees, page_frees}
use Rattle.version_store.specs.Freeing.{reached_place, role_at, IsGiving, FreesPlace, FreesPage}
use Rattle.version_store.proofs.KnownPlaces.{kept_known}
use Rattle.version_store.proofs.Going.{goes_nowhere, goes_on, goes_as}

module _ (c : Leaving) (m : CarriedRows) (r : Role) (g : GivingUp) (place : ℕ) (v : View) (h : IsGiving c m r g place v) (lt : place < c.sizes.places) where
  given : reached_place c.sizes g place ≡ Some record g { reached = place }
  given = ap (λ (b : Bool). cond b None (Some record g { reached = place })) (ne_eqb place c.sizes.places (λ e. omega arith))

  -- the editor may speak of the page
  speaks : version_at v c.page ≡ Some g.version
  speaks = ap (λ p. version_pinned p (version_of_role v.role c.page) c.page) h.unpinned ∙ ap (λ o. version_of_role o c.page) h.has
      ∙ ap (λ (b : Bool). cond b (Some r.newest.version) (version_given_up (reached_place c.sizes g place) c.page)) (ne_eqb r.newest.page c.page h.apart)
      ∙ ap (λ o. version_given_up o c.page) given
      ∙ ap (λ (b : Bool). cond b (Some g.version) None) (eq-eqb g.page c.page h.page_is)

  pub row_in : (n row : ℕ) → IsOfGivenUp v c.page n → n ≡ suc row → row < c.sizes.rows
  row_in n row of is = subst (λ (z : Sizes). row < z.rows) h.sizes
      (of (role_at c.sizes r g place) (record g { reached = place }) row h.has given h.page_is is)

  -- the view once the place was loaded
  module _ (n : ℕ) (u : View) (is : u ≡ after_load_place v c.page place n) where
    loads : Goes v u (loaded_place c.sizes c.page place n ∷ [])
    loads = subst (λ (t : View). Goes v t (loaded_place c.sizes c.page place n ∷ [])) (sym is) (record {
      stays = record { sizes = refl; share = refl; pins_left = refl; log_words = refl; pinned = refl; own = refl };
      log = refl;
      steps = ap (λ (z : Sizes). v.steps ++ loaded_place z c.page place n ∷ []) h.sizes;
    })

    -- the page is not the newest one, so nothing is learned of it
    same_known : u.known ≡ v.known
    same_known = ap (λ (y : View). y.known) is ∙ kept_known v (role_at c.sizes r g place) c.page place n h.has h.apart

    loaded : u.role ≡ role_met c.sizes (Some (role_at c.sizes r g place)) c.page place n
    loaded = ap (λ (y : View). y.role) is ∙ (λ i. role_met (h.sizes i) (h.has i) c.page place n)

    goes_past : is_passed (role_at c.sizes r g place) n ≡ true → u.role ≡ Some (role_at c.sizes r g (suc place))
    goes_past e = loaded ∙ ap (λ (p : ℕ). role_met c.sizes (Some (role_at c.sizes r g place)) p place n) (sym h.page_is)
        ∙ role_passes c.sizes (role_at c.sizes r g place) (record g { reached = place }) n given e

    waits : is_passed (role_at c.sizes r g place) n ≡ false → u.role ≡ Some (role_at c.sizes r g place)
    waits e = loaded ∙ role_waits c.sizes (role_at c.sizes r g place) c.page place n e

    pub frees_none : n ≡ 0 → FreesPlace c m r g place n v u
    frees_none e = record {
      goes = goes_as v u _ (place_frees c.sizes (oldest r).carried c.page place n) (ap (λ (k : ℕ). loaded_place c.sizes c.page place k ∷ []) e
          ∙ sym (ap (place_frees c.sizes (oldest r).carried c.page place) e)) loads;
      known = same_known;
      role = goes_past (ap (is_passed (role_at c.sizes r g place)) e);
    }

    module _ (row : ℕ) (met : n ≡ suc row) where
      steps_met : (b : Bool) → is_in row (oldest r).carried ≡ b
          → loaded_place c.sizes c.page place n ∷ cond b [] (freed_row c.sizes row ∷ []) ≡ place_frees c.sizes (oldest r).carried c.page place n
      steps_met b e = ap (λ (k : ℕ). loaded_place c.sizes c.page place k ∷ cond b [] (freed_row c.sizes row ∷ [])) met
          ∙ ap (λ (a : Bool). loaded_place c.sizes c.page place (suc row) ∷ cond a [] (freed_row c.sizes row ∷ [])) (sym e)
          ∙ sym (ap (place_frees c.sizes (oldest r).carried c.page place) met)

      pub frees_carried : is_in row (oldest r).carried ≡ true → FreesPlace c m r g place n v u
      frees_carried e = record {
        goes = goes_as v u _ (place_frees c.sizes (oldest r).carried c.page place n) (steps_met true e) loads;
        known = same_known;
        role = goes_past (ap (is_passed (role_at c.sizes r g place)) met ∙ e);
      }

      module _ (e : is_in row (oldest r).carried ≡ false) where
        still : u.role ≡ Some (role_at c.sizes r g place)
        still = waits (ap (is_passed (role_at c.sizes r g place)) met ∙ e)

        knows : KnowsPlace u g.version place row
        knows = let x : EntryFact = record { version = g.version; place = place; row = row } in subst (λ (es : List EntryFact). In x es)
            (sym (ap (λ (y : View). y.entries) is ∙ ap (λ (o : Option ℕ). met_entry o v.entries place n) speaks
            ∙ ap (met_entry (Some g.version) v.entries place) met)) (inl refl)

        not_carried : ¬ (In row (oldest r).carried)
        not_carried i = elim (is_in_tells row (oldest r).carried) [ inl t ↦ no_bool (sym e ∙ t.0) | inr t ↦ t.1 i ]

        pub left_behind : IsLeftBehind u (role_at c.sizes r g place) (record g { reached = place }) row
        left_behind = record { has = still; giving_up = given; met = knows; dropped = not_carried }

        pub frees_row : (w : View) → w ≡ after_free_row u row → FreesPlace c m r g place n v w
        frees_row w freed = record {
          goes = goes_as v w _ (place_frees c.sizes (oldest r).carried c.page place n) (steps_met false e)
              (goes_on v u w (loaded_place c.sizes c.page place n ∷ []) (freed_row c.sizes row ∷ []) loads
              (subst (λ (t : View). Goes u t (freed_row c.sizes row ∷ []))
              (sym freed) (record {
                stays = record { sizes = refl; share = refl; pins_left = refl; log_words = refl; pinned = refl; own = refl };
                log = refl;
                steps = ap (λ (z : Sizes). u.steps ++ freed_row z row ∷ []) (loads.stays.sizes ∙ h.sizes);
              })));
          known = ap (λ (y : View). y.known) freed ∙ same_known;
          role = ap (λ (y : View). y.role) freed ∙ (λ i. role_freed ((loads.stays.sizes ∙ h.sizes) i) (still i))
              ∙ ap (λ (o : Option GivingUp). Some (with_next c.sizes (role_at c.sizes r g place) o)) given;
        }

        pub sizes_loaded : u.sizes ≡ c.sizes
        sizes_loaded = loads.stays.sizes ∙ h.sizes

-- The loop

-- one place more
frees_more : (z : Sizes) (carried : List ℕ) (page from : ℕ) (ns : List ℕ) (n : ℕ)
    → page_frees z carried page from (ns ++ n ∷ []) ≡ page_frees z carried page from ns ++ place_frees z carried page (from + length ns) n
frees_more z carried page from [] n = append-nil (place_frees z carried page from n)
    ∙ ap (λ (i : ℕ). place_frees z carried page i n) (let r : from ≡ from + 0 = omega arith in r)
frees_more z carried page from (k ∷ ns) n = ap (λ (l : List Step). place_frees z carried page from k ++ l) (frees_more z carried page (suc from) ns n
    ∙ ap (λ (i : ℕ). page_frees z carried page (suc from) ns ++ place_frees z carried page i n) (let a : ℕ = length ns in
    let r : suc from + a ≡ from + suc a = omega arith in r))
    ∙ sym (append_assoc (place_frees z carried page from k) (page_frees z carried page (suc from) ns) (place_frees z carried page (from + suc (length ns)) n))

-- from the first place on
frees_next : (z : Sizes) (carried : List ℕ) (page : ℕ) (ns : List ℕ) (n : ℕ)
    → page_frees z carried page 0 (ns ++ n ∷ []) ≡ page_frees z carried page 0 ns ++ place_frees z carried page (length ns) n
frees_next z carried page ns n = frees_more z carried page 0 ns n ∙ ap (λ (i : ℕ). page_frees z carried page 0 ns ++ place_frees z carried page i n)
    (let a : ℕ = length ns in let r : 0 + a ≡ a = omega arith in r)

module _ (c : Leaving) (m : CarriedRows) (r : Role) (g : GivingUp) (v : View) (h : IsGiving c m r g 0 v) where
  pub begins : FreesPage c m r g [] v v
  begins = record { goes = goes_nowhere v; known = refl; role = h.has }

  module _ (ns : List ℕ) (place : ℕ) (w : View) (many : length ns ≡ place) (so_far : FreesPage c m r g ns v w) where
    pub giving_then : IsGiving c m r g place w
    giving_then = record {
      sizes = so_far.goes.stays.sizes ∙ h.sizes;
      marked = h.marked;
      share = λ e. h.share (sym so_far.goes.stays.share ∙ e);
      unpinned = so_far.goes.stays.pinned ∙ h.unpinned;
      has = so_far.role ∙ ap (λ (i : ℕ). Some (role_at c.sizes r g i)) many;
      page_is = h.page_is;
      next_is = h.next_is;
      apart = h.apart;
      carried_are = h.carried_are;
    }

    pub one_more : (u : View) (met : ℕ) → FreesPlace c m r g place met w u → FreesPage c m r g (ns ++ met ∷ []) v u
    one_more u met f = record {
      goes = goes_as v u _ (page_frees c.sizes (oldest r).carried c.page 0 (ns ++ met ∷ []))
          (sym (frees_next c.sizes (oldest r).carried c.page ns met ∙ ap (λ (i : ℕ). page_frees c.sizes (oldest r).carried c.page 0 ns
          ++ place_frees c.sizes (oldest r).carried c.page i met) many))
          (goes_on v w u (page_frees c.sizes (oldest r).carried c.page 0 ns) _ so_far.goes f.goes);
      known = f.known ∙ so_far.known;
      role = f.role ∙ ap (λ (i : ℕ). Some (role_at c.sizes r g i)) (let n = length-append ns (met ∷ []) in
          let k : suc place ≡ length (ns ++ met ∷ []) = omega arith in k);
    }
