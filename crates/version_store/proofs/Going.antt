-- Steps of an edit, one after the other.
use Rattle.std.proofs.Common.{◌≡◌, ℕ, suc, ◌+◌, List, [], ◌∷◌, ◌++◌, length, append_assoc, append-nil, sym, refl, ap, ◌∙◌, subst, arith}
use Rattle.pin_rule.specs.declared.sizes.Sizes.{Sizes}
use Rattle.pin_rule.specs.declared.view.View.{View}
use Rattle.pin_rule.specs.declared.view.Role.{Role}
use Rattle.pin_rule.specs.declared.view.Step.{Step}
use Rattle.pin_rule.specs.Steps.{wrote_log, wrote_place, loaded_row}
use Rattle.version_store.specs.declared.current.Current.{Current}
use Rattle.version_store.specs.Roles.{role_of, role_or_first}
use Rattle.version_store.specs.Rows.{Found}
use Rattle.version_store.specs.Edits.{entry_stores, row_loads, page_loads, page_stores, place_loads}
use Rattle.version_store.specs.Stages.{IsEditorOf, Stays, Goes}
use Rattle.std.specs.Prelude.{Option, Some}

pub still : (v : View) → Stays v v
still v = record { sizes = refl; share = refl; pins_left = refl; log_words = refl; pinned = refl; own = refl }

pub stays_on : (u v w : View) → Stays u v → Stays v w → Stays u w
stays_on u v w a b = record {
  sizes = b.sizes ∙ a.sizes;
  share = b.share ∙ a.share;
  pins_left = b.pins_left ∙ a.pins_left;
  log_words = b.log_words ∙ a.log_words;
  pinned = b.pinned ∙ a.pinned;
  own = b.own ∙ a.own;
}

pub goes_nowhere : (v : View) → Goes v v []
goes_nowhere v = record { stays = still v; log = refl; steps = sym (append-nil v.steps) }

pub goes_on : (u v w : View) (a b : List Step) → Goes u v a → Goes v w b → Goes u w (a ++ b)
goes_on u v w a b h k = record {
  stays = stays_on u v w h.stays k.stays;
  log = k.log ∙ h.log;
  steps = k.steps ∙ ap (λ (l : List Step). l ++ b) h.steps ∙ append_assoc u.steps a b;
}

-- the same under another name of the steps
pub goes_as : (v w : View) (a b : List Step) → a ≡ b → Goes v w a → Goes v w b
goes_as v w a b e h = subst (Goes v w) e h

-- an editor whose newest version stays is one afterwards
pub editor_on : (c : Current) (v w : View) (a : List Step) → IsEditorOf c v → Goes v w a → (r : Role) → w.role ≡ Some r
    → r.newest ≡ (role_of v).newest → r.giving_up ≡ (role_of v).giving_up → IsEditorOf c w
editor_on c v w a e g r is same idle = let has : role_of w ≡ r = ap role_or_first is in record {
  sizes = g.stays.sizes ∙ e.sizes;
  share = λ z. e.share (sym g.stays.share ∙ z);
  unpinned = g.stays.pinned ∙ e.unpinned;
  has = is ∙ ap (λ (x : Role). Some x) (sym has);
  at = e.at ∙ ap length (sym g.log);
  version_is = ap (λ (x : Role). x.newest.version) has ∙ (λ i. (same i).version) ∙ e.version_is;
  page_is = ap (λ (x : Role). x.newest.page) has ∙ (λ i. (same i).page) ∙ e.page_is;
  keeps_all = ap (λ (x : Role). x.giving_up) has ∙ idle ∙ e.keeps_all;
}

-- one word more

entry_more : (z : Sizes) (entry from : ℕ) (ws : List ℕ) (w : ℕ)
    → entry_stores z entry from (ws ++ w ∷ []) ≡ entry_stores z entry from ws ++ wrote_log z entry (from + length ws) w ∷ []
entry_more z entry from [] w = ap (λ (i : ℕ). wrote_log z entry i w ∷ []) (let r : from ≡ from + 0 = omega arith in r)
entry_more z entry from (x ∷ ws) w = ap (λ (l : List Step). wrote_log z entry from x ∷ l) (entry_more z entry (suc from) ws w
    ∙ ap (λ (i : ℕ). entry_stores z entry (suc from) ws ++ wrote_log z entry i w ∷ []) (let n : ℕ = length ws in
    let r : suc from + n ≡ from + suc n = omega arith in r))

row_more : (z : Sizes) (row from : ℕ) (ws : List ℕ) (w : ℕ)
    → row_loads z row from (ws ++ w ∷ []) ≡ row_loads z row from ws ++ loaded_row z row (from + length ws) w ∷ []
row_more z row from [] w = ap (λ (i : ℕ). loaded_row z row i w ∷ []) (let r : from ≡ from + 0 = omega arith in r)
row_more z row from (x ∷ ws) w = ap (λ (l : List Step). loaded_row z row from x ∷ l) (row_more z row (suc from) ws w
    ∙ ap (λ (i : ℕ). row_loads z row (suc from) ws ++ loaded_row z row i w ∷ []) (let n : ℕ = length ws in
    let r : suc from + n ≡ from + suc n = omega arith in r))

stores_more : (z : Sizes) (page from : ℕ) (ws : List ℕ) (w : ℕ)
    → page_stores z page from (ws ++ w ∷ []) ≡ page_stores z page from ws ++ wrote_place z page (from + length ws) w ∷ []
stores_more z page from [] w = ap (λ (i : ℕ). wrote_place z page i w ∷ []) (let r : from ≡ from + 0 = omega arith in r)
stores_more z page from (x ∷ ws) w = ap (λ (l : List Step). wrote_place z page from x ∷ l) (stores_more z page (suc from) ws w
    ∙ ap (λ (i : ℕ). page_stores z page (suc from) ws ++ wrote_place z page i w ∷ []) (let n : ℕ = length ws in
    let r : suc from + n ≡ from + suc n = omega arith in r))

loads_more : (z : Sizes) (page from : ℕ) (fs : List (Option Found)) (f : Option Found)
    → page_loads z page from (fs ++ f ∷ []) ≡ page_loads z page from fs ++ place_loads z page (from + length fs) f
loads_more z page from [] f = ap (λ (l : List Step). l) (append-nil (place_loads z page from f))
    ∙ ap (λ (i : ℕ). place_loads z page i f) (let r : from ≡ from + 0 = omega arith in r)
loads_more z page from (g ∷ fs) f = ap (λ (l : List Step). place_loads z page from g ++ l) (loads_more z page (suc from) fs f
    ∙ ap (λ (i : ℕ). page_loads z page (suc from) fs ++ place_loads z page i f) (let n : ℕ = length fs in
    let r : suc from + n ≡ from + suc n = omega arith in r))
    ∙ sym (append_assoc (place_loads z page from g) (page_loads z page (suc from) fs) (place_loads z page (from + suc (length fs)) f))

-- from the first word on

pub entry_next : (z : Sizes) (entry : ℕ) (ws : List ℕ) (w : ℕ)
    → entry_stores z entry 0 (ws ++ w ∷ []) ≡ entry_stores z entry 0 ws ++ wrote_log z entry (length ws) w ∷ []
entry_next z entry ws w = entry_more z entry 0 ws w ∙ ap (λ (i : ℕ). entry_stores z entry 0 ws ++ wrote_log z entry i w ∷ [])
    (let n : ℕ = length ws in let r : 0 + n ≡ n = omega arith in r)

pub row_next : (z : Sizes) (row : ℕ) (ws : List ℕ) (w : ℕ)
    → row_loads z row 0 (ws ++ w ∷ []) ≡ row_loads z row 0 ws ++ loaded_row z row (length ws) w ∷ []
row_next z row ws w = row_more z row 0 ws w ∙ ap (λ (i : ℕ). row_loads z row 0 ws ++ loaded_row z row i w ∷ [])
    (let n : ℕ = length ws in let r : 0 + n ≡ n = omega arith in r)

pub stores_next : (z : Sizes) (page : ℕ) (ws : List ℕ) (w : ℕ)
    → page_stores z page 0 (ws ++ w ∷ []) ≡ page_stores z page 0 ws ++ wrote_place z page (length ws) w ∷ []
stores_next z page ws w = stores_more z page 0 ws w ∙ ap (λ (i : ℕ). page_stores z page 0 ws ++ wrote_place z page i w ∷ [])
    (let n : ℕ = length ws in let r : 0 + n ≡ n = omega arith in r)

pub loads_next : (z : Sizes) (page : ℕ) (fs : List (Option Found)) (f : Option Found)
    → page_loads z page 0 (fs ++ f ∷ []) ≡ page_loads z page 0 fs ++ place_loads z page (length fs) f
loads_next z page fs f = loads_more z page 0 fs f ∙ ap (λ (i : ℕ). page_loads z page 0 fs ++ place_loads z page i f)
    (let n : ℕ = length fs in let r : 0 + n ≡ n = omega arith in r)
