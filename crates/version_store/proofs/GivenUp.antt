-- The oldest version is given up, or stays.
use Rattle.std.proofs.Common.{◌≡◌, ◌≢◌, ℕ, zero, suc, ◌+◌, ◌<◌, List, [], ◌∷◌, ◌++◌, inl, inr, length, eq-eqb, ne_eqb}
use Rattle.std.proofs.Common.{sym, refl, ap, ◌∙◌, subst, arith}
use mathlib.Core.Bool.{cond}
use Rattle.std.specs.Prelude.{Option, Some, None, Bool}
use Rattle.atomic_table.specs.Seated.{TableId}
use Rattle.pin_rule.specs.declared.sizes.Sizes.{Sizes}
use Rattle.pin_rule.specs.declared.view.View.{View}
use Rattle.pin_rule.specs.declared.view.Role.{Role}
use Rattle.pin_rule.specs.declared.view.Step.{Step}
use Rattle.pin_rule.specs.declared.view.Older.{Older}
use Rattle.pin_rule.specs.declared.view.GivingUp.{GivingUp}
use Rattle.pin_rule.specs.Lists.{In, is_in}
use Rattle.pin_rule.specs.GivingUp.{last_of, before_last, last_live, oldest, without_oldest, role_released}
use Rattle.pin_rule.specs.Steps.{loaded_release, after_load_release}
use Rattle.pin_rule.proofs.Oldest.{last_in}
use Rattle.pin_rule.proofs.KindLoadRelease.{role_drops, role_keeps}
use Rattle.version_store.specs.declared.carried_rows.CarriedRows.{CarriedRows}
use Rattle.version_store.specs.declared.leaving.Leaving.{Leaving}
use Rattle.version_store.specs.Marks.{is_marked}
use Rattle.version_store.specs.Roles.{role_of, role_or_first}
use Rattle.version_store.specs.Meaning.{EditorMeaning, editor_meaning}
use Rattle.version_store.specs.Stages.{Goes}
use Rattle.version_store.specs.GivingUp.{page_frees, later, GivesUpOldest, KeepsOldest, GivesUp, Stops, GivesUpAll}
use Rattle.version_store.specs.Freeing.{role_at, IsGiving, FreesPage}
use Rattle.version_store.proofs.Going.{goes_on}
use Rattle.version_store.proofs.Noting.{before_and_last}

-- the role without its oldest version
abbrev pub role_left : Role → Older → List Older → ℕ → Role
role_left r a os n = record r {
  older = before_last a os;
  released = ((last_of a os).live.page, n) ∷ r.released;
  giving_up = None;
}

module _ (v : View) (r : Role) (a : Older) (os : List Older) (n : ℕ) (u : View) (has : v.role ≡ Some r) (idle : r.giving_up ≡ None) (older : r.older ≡ a ∷ os)
    (is : u ≡ after_load_release v (last_of a os).live.page n) where
  pub last_older : In (last_of a os) r.older
  last_older = subst (In (last_of a os)) (sym older) (last_in a os)

  pub loads : Goes v u (loaded_release v.sizes (last_of a os).live.page n ∷ [])
  loads = subst (λ (t : View). Goes v t (loaded_release v.sizes (last_of a os).live.page n ∷ [])) (sym is) (record {
    stays = record { sizes = refl; share = refl; pins_left = refl; log_words = refl; pinned = refl; own = refl };
    log = refl;
    steps = refl;
  })

  loaded : u.role ≡ role_released (Some r) (last_of a os).live.page n
  loaded = ap (λ (y : View). y.role) is ∙ ap (λ (o : Option Role). role_released o (last_of a os).live.page n) has

  -- a pin was not dropped
  pub role_stays : n ≢ (last_of a os).live.base + (last_of a os).taken → u.role ≡ Some r
  role_stays ne = loaded ∙ role_keeps r a os n idle older ne

  pub keeps : (t : TableId × ℕ) (released : ℕ) → role_of v ≡ r → (last_of a os).live.base + released ≡ n → released < (last_of a os).taken
      → KeepsOldest (editor_meaning v t) (editor_meaning u t) released
  keeps t released same base below = let stays = role_stays (λ e. omega arith) in let now : role_of u ≡ role_of v = ap role_or_first stays ∙ sym same in
      record {
        oldest = last_of a os;
        rest = before_last a os;
        older = ap (λ (y : Role). y.older) same ∙ older ∙ before_and_last a os;
        below = below;
        is = λ i. record {
          sizes = loads.stays.sizes i;
          log = loads.log i;
          table = t;
          share = loads.stays.share i;
          pins_left = loads.stays.pins_left i;
          newest = (now i).newest;
          older = (now i).older;
          steps = (loads.steps ∙ ap (λ (k : ℕ). v.steps ++ loaded_release v.sizes (last_of a os).live.page k ∷ []) (sym base)) i;
        };
      }

  -- all pins were dropped
  module _ (dropped : n ≡ (last_of a os).live.base + (last_of a os).taken) where
    abbrev pub gone : Role
    gone = without_oldest r (last_of a os) (before_last a os) n

    abbrev pub giving : GivingUp
    giving = record { version = (last_of a os).live.version; page = (last_of a os).live.page; reached = 0 }

    role_gone : u.role ≡ Some gone
    role_gone = loaded ∙ role_drops r a os n idle older dropped

    pub begins : (c : Leaving) (m : CarriedRows) → v.sizes ≡ c.sizes → m.sizes ≡ c.sizes → v.share ≢ 0 → v.pinned ≡ None
        → (last_of a os).live.page ≡ c.page → (last_live r.newest (before_last a os)).page ≡ c.next → r.newest.page ≢ (last_of a os).live.page
        → ((row : ℕ) → row < c.sizes.rows → is_marked m.sizes m.marks.items c.next row ≡ is_in row (last_live r.newest (before_last a os)).carried)
        → IsGiving c m gone giving 0 u
    begins c m sizes marked share unpinned page next apart carried = record {
      sizes = loads.stays.sizes ∙ sizes;
      marked = marked;
      share = λ e. share (sym loads.stays.share ∙ e);
      unpinned = loads.stays.pinned ∙ unpinned;
      has = role_gone ∙ ap (λ (b : Bool). Some record gone { giving_up = cond b None (Some giving) })
          (sym (ne_eqb 0 c.sizes.places (λ e. let p = c.sizes.places_in in omega arith)));
      page_is = page;
      next_is = next;
      apart = λ e. apart (e ∙ sym page);
      carried_are = carried;
    }

    -- the page was gone through
    module _ (c : Leaving) (m : CarriedRows) (w : View) (places : List ℕ) (sizes : v.sizes ≡ c.sizes) (page : (last_of a os).live.page ≡ c.page)
        (all : length places ≡ c.sizes.places) (freed : FreesPage c m gone giving places u w) where
      pub role_after : w.role ≡ Some (role_left r a os n)
      role_after = freed.role ∙ ap (λ (i : ℕ). Some (role_at c.sizes gone giving i)) all
          ∙ ap (λ (b : Bool). Some record gone { giving_up = cond b None (Some record giving { reached = c.sizes.places }) })
          (eq-eqb c.sizes.places c.sizes.places refl)

      pub goes : Goes v w (loaded_release v.sizes (last_of a os).live.page n ∷ page_frees c.sizes (oldest gone).carried c.page 0 places)
      goes = goes_on v u w (loaded_release v.sizes (last_of a os).live.page n ∷ []) _ loads freed.goes

      pub gives_up : (t : TableId × ℕ) → role_of v ≡ r → GivesUpOldest (editor_meaning v t) (editor_meaning w t)
      gives_up t same = let now : role_of w ≡ role_left r a os n = ap role_or_first role_after in record {
        oldest = last_of a os;
        rest = before_last a os;
        places = places;
        older = ap (λ (y : Role). y.older) same ∙ older ∙ before_and_last a os;
        every_place = all ∙ ap (λ (z : Sizes). z.places) (sym sizes);
        is = λ i. record {
          sizes = goes.stays.sizes i;
          log = goes.log i;
          table = t;
          share = goes.stays.share i;
          pins_left = goes.stays.pins_left i;
          newest = (ap (λ (y : Role). y.newest) now ∙ ap (λ (y : Role). y.newest) (sym same)) i;
          older = (now i).older;
          steps = (goes.steps ∙ (λ j. v.steps ++ loaded_release v.sizes (last_of a os).live.page (dropped j)
              ∷ page_frees (sym sizes j) (last_live (sym (ap (λ (y : Role). y.newest) same) j) (before_last a os)).carried (sym page j) 0 places)) i;
        };
      }

-- Several, one after the other

-- the editor stays the same
pub record IsAlike (m n : EditorMeaning) : Type 0 where
  pub sizes : n.sizes ≡ m.sizes
  pub log : n.log ≡ m.log
  pub table : n.table ≡ m.table
  pub share : n.share ≡ m.share
  pub pins_left : n.pins_left ≡ m.pins_left
  pub newest : n.newest ≡ m.newest

pub alike_later : (l m n : EditorMeaning) (older : List Older) (added : List Step) → n ≡ later m older added → IsAlike l m → IsAlike l n
alike_later l m n older added is h = subst (IsAlike l) (sym is) (record {
  sizes = h.sizes;
  log = h.log;
  table = h.table;
  share = h.share;
  pins_left = h.pins_left;
  newest = h.newest;
})

pub alike : (count : ℕ) (m n : EditorMeaning) → GivesUp count m n → IsAlike m n
alike zero m n e = subst (IsAlike m) (sym e) (record { sizes = refl; log = refl; table = refl; share = refl; pins_left = refl; newest = refl })
alike (suc count) m n g = alike_later m g.0 n g.2.rest _ g.2.is (alike count m g.0 g.1)

pub alike_stops : (m n : EditorMeaning) (released : ℕ) → Stops m n released → (l : EditorMeaning) → IsAlike l m → IsAlike l n
alike_stops m n released s l h = elim s [
  | inl t ↦ subst (IsAlike l) (sym t.1) h
  | inr k ↦ alike_later l m n m.older _ k.is h
]

pub alike_all : (count : ℕ) (m n : EditorMeaning) → GivesUpAll count m n → IsAlike m n
alike_all count m n g = alike_stops g.0 n g.1 g.3 m (alike count m g.0 g.2)
