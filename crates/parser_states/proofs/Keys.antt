-- Kernels by number, as a set of keys finds and adds them.
use Rattle.std.proofs.Common.{◌≡◌, ℕ, Bool, true, false, List, [], ◌∷◌, ◌++◌, get_or, Some, slice_get, Contains, refl, sym, ap, ◌∙◌, subst}
use Rattle.std.specs.List.{position, list_any}
use Rattle.std.specs.Cmp.Lexicographic.{pointwise}
use Rattle.std.proofs.lemmas.List.Quantifiers.{position-Some}
use Rattle.std.proofs.lemmas.Option.{slice_get-get_or}
use Rattle.indexmap.specs.IndexSet.{insert_key}
use Rattle.forest.proofs.Ascending.{contains_here, contains_there}
use Rattle.edit_log.proofs.PlainLists.{each_contained, none_any}
use Rattle.item_sets.specs.declared.item.Item.{Item}
use Rattle.item_sets.specs.Orders.{item_eq}
use Rattle.live_graph.proofs.SameKernels.{kernel_eq-decides}

-- the place of a key that was found
pub placed : (keys : List (List Item)) (kernel : List Item) (place : ℕ) → position (pointwise item_eq kernel) keys ≡ Some place
    → slice_get keys place ≡ Some kernel
placed keys kernel place is =
    let at = position-Some (pointwise item_eq kernel) keys place kernel is in
    slice_get-get_or keys place kernel at.0 ∙ ap Some (sym ((kernel_eq-decides kernel (get_or keys place kernel)).0 at.1))

-- a key that was not found is not there
pub not_there : (keys : List (List Item)) (kernel : List Item) → list_any (pointwise item_eq kernel) keys ≡ false → Contains keys kernel → ⊥
not_there keys kernel none there =
    let no : pointwise item_eq kernel kernel ≡ false =
    each_contained (λ (k : List Item). pointwise item_eq kernel k ≡ false) keys kernel (none_any (pointwise item_eq kernel) keys none) there in
    let is : pointwise item_eq kernel kernel ≡ true = (kernel_eq-decides kernel kernel).1 refl in
    cc

not_found : (keys : List (List Item)) (kernel : List Item) → (Contains keys kernel → ⊥) → list_any (pointwise item_eq kernel) keys ≡ false
not_found [] kernel fresh = refl
not_found (k ∷ keys) kernel fresh = by (pointwise item_eq kernel k) refl (not_found keys kernel (λ c. fresh (contains_there k keys kernel c)))
  where
    by : (b : Bool) → pointwise item_eq kernel k ≡ b → list_any (pointwise item_eq kernel) keys ≡ false
        → list_any (pointwise item_eq kernel) (k ∷ keys) ≡ false
    by true e rest = absurd (fresh (subst (Contains (k ∷ keys)) (sym ((kernel_eq-decides kernel k).0 e)) (contains_here k keys)))
    by false e rest = rw e rest

-- a key that is not there is added at the end
pub key_added : (keys : List (List Item)) (kernel : List Item) → (Contains keys kernel → ⊥)
    → insert_key (pointwise item_eq) keys kernel ≡ keys ++ kernel ∷ []
key_added keys kernel fresh = rw (not_found keys kernel fresh) refl
