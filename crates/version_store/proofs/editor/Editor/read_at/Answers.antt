use Rattle.std.proofs.Common.{◌≡◌, ◌≤◌, ◌<◌, ℕ, List, take, length, inl, refl, sym, ◌∙◌, subst}
use Rattle.std.proofs.lemmas.List.{with_items_is}
use Rattle.std.specs.Prelude.{Option, Some, None, IfNone, IfSome}
use Rattle.pin_rule.specs.declared.sizes.Sizes.{Sizes}
use Rattle.pin_rule.specs.Hands.{view_of}
use Rattle.version_store.specs.declared.current.Current.{Current}
use Rattle.version_store.specs.PlaceReading.{ReadsPlace}
use Rattle.version_store.proofs.editor.Editor.read_at.Goals as goal

none_on : (r : Option ℕ) (P Q : Type 0) → (P → Q) → IfNone r P → IfNone r Q
none_on None P Q f h = f h
none_on (Some n) P Q f h = h

some_on : (r : Option ℕ) (P Q : ℕ → Type 0) → ((n : ℕ) → P n → Q n) → IfSome r P → IfSome r Q
some_on None P Q f h = h
some_on (Some n) P Q f h = f n h

pub invariant_of-current : goal.invariant_of-current
invariant_of-current g c = let e = c.args.self.now in
    let lt = subst (λ (z : Sizes). e.lives.newest.page < z.versions) e.lives_measured (e.lives.pages_in e.lives.newest.page (inl refl)) in
    record { version_in = e.log_in; page_in = lt; next_in = lt }

pub returns-clause-none : goal.returns-clause-none
returns-clause-none g c = let e = c.args.self.now in let k = c.read_place in
    none_on k.result _ _ (λ h. (_, refl, h)) k.ensures.none

pub returns-clause-some : goal.returns-clause-some
returns-clause-some g c = let e = c.args.self.now in let k = c.read_place in
    let same = sym (with_items_is e.row k.new.buffer (k.auto.buffer ∙ c.as_mut_slice.ensures.len)) in
    subst (λ (items : List ℕ). IfSome k.result (λ count. (count ≤ length items) × ((x : Current) × (row : ℕ) × (x.sizes ≡ e.sizes)
    × ReadsPlace x (view_of e.hand) (view_of k.new.hand) c.args.place (Some record { row = row; words = take count items })))) same
    (some_on k.result _ _ (λ n h. (h.0, (_, h.1.0, refl, h.1.1))) k.ensures.some)

pub returns-clause-fits : goal.returns-clause-fits
returns-clause-fits g c = let e = c.args.self.now in let k = c.read_place in
    let same = sym (with_items_is e.row k.new.buffer (k.auto.buffer ∙ c.as_mut_slice.ensures.len)) in
    subst (λ (items : List ℕ). IfSome k.result (λ count. g.C.Content.fits (view_of k.new.hand).log (take count items))) same k.ensures.fits
