-- Parts of lists, where lists grow and where they are read.
use Rattle.std.proofs.Common.{◌≡◌, inl, inr, ◌⊎◌, ℕ, zero, suc, ◌+◌, ◌-◌, ◌<◌, ◌≤◌, List, [], ◌∷◌, ◌++◌, length, take, drop, replicate, Some, None, slice_get}
use Rattle.std.proofs.Common.{refl, sym, ap, ◌∙◌, arith, length-append, length-drop, append_assoc}
use Rattle.std.proofs.lemmas.List.{take-append-le, drop-append-le, take_all}
use Rattle.std.proofs.lemmas.Option.{slice_get_cases}
use Rattle.std.proofs.Math.Seq.{drop-append_seam}
use Rattle.edit_log.proofs.Texts.{slice_get-append}
use Rattle.item_sets.specs.Walks.{Extends}
use Rattle.parser_states.specs.declared.rows.Part.{Part}
use Rattle.parser_states.specs.Parts.{part_of, IsPartWithin}

-- ---- lists that begin others

pub append_nil : {X : Type 0} (xs : List X) → xs ++ [] ≡ xs
append_nil [] = refl
append_nil (x ∷ xs) = ap (λ l. x ∷ l) (append_nil xs)

pub one_more_same : (n x : ℕ) → replicate n x ++ x ∷ [] ≡ replicate (n + 1) x
one_more_same zero x = refl
one_more_same (suc n) x = let next : suc (n + 1) ≡ suc n + 1 = omega arith in ap (λ l. x ∷ l) (one_more_same n x) ∙ ap (λ k. replicate k x) next

pub extends_same : {X : Type 0} (xs : List X) → Extends xs xs
extends_same xs = record { tail = []; is = sym (append_nil xs) }

pub extends_push : {X : Type 0} (xs ys zs : List X) (more : List X) → Extends xs ys → zs ≡ ys ++ more → Extends xs zs
extends_push xs ys zs more e is = record { tail = e.tail ++ more; is = is ∙ ap (λ l. l ++ more) e.is ∙ append_assoc xs e.tail more }

pub extends_append : {X : Type 0} (xs ys more : List X) → ys ≡ xs ++ more → Extends xs ys
extends_append xs ys more is = record { tail = more; is = is }

module _ {X : Type 0} {xs ys : List X} (e : Extends xs ys) where
  pub longer : length xs ≤ length ys
  longer = omega (arith, ap length e.is, length-append xs e.tail)

  pub still_there : (place : ℕ) (x : X) → slice_get xs place ≡ Some x → slice_get ys place ≡ Some x
  still_there place x at = ap (λ l. slice_get l place) e.is ∙ slice_get-append xs e.tail place x at

  pub was_there : (place : ℕ) (x : X) → place < length xs → slice_get ys place ≡ Some x → slice_get xs place ≡ Some x
  was_there place x within at = elim (slice_get_cases xs place).1 [
    | inl there ↦ there.2 ∙ sym (still_there place there.0 there.2) ∙ at
    | inr past ↦ absurd (omega (arith, past.0, within))
  ]

  pub within_more : (part : Part) → IsPartWithin part (length xs) → IsPartWithin part (length ys)
  within_more part w = record { order = w.order; within = omega (arith, w.within, longer) }

  pub part_kept : (part : Part) → IsPartWithin part (length xs) → part_of part ys ≡ part_of part xs
  part_kept part w =
      let starts : part.first ≤ length xs = omega (arith, w.order, w.within) in
      let fits : part.past - part.first ≤ length (drop part.first xs) = omega (arith, length-drop part.first xs, w.order, w.within) in
      ap (λ l. take (part.past - part.first) (drop part.first l)) e.is
      ∙ ap (λ l. take (part.past - part.first) l) (drop-append-le part.first xs e.tail starts)
      ∙ take-append-le (part.past - part.first) (drop part.first xs) e.tail fits

-- ---- the part that was appended

pub part_appended : {X : Type 0} (old more new : List X) (part : Part) → new ≡ old ++ more → part.first ≡ length old → part.past ≡ length old + length more
    → part_of part new ≡ more
part_appended old more new part is first past =
    let size : part.past - part.first ≡ length more = omega (arith, first, past) in
    ap (λ n. take n (drop part.first new)) size ∙ ap (λ n. take (length more) (drop n new)) first ∙ ap (λ l. take (length more) (drop (length old) l)) is
    ∙ ap (λ l. take (length more) l) (drop-append_seam old more) ∙ take_all (length more) more (omega arith)

pub within_appended : {X : Type 0} (old more new : List X) (part : Part) → new ≡ old ++ more → part.first ≡ length old → part.past ≡ length old + length more
    → IsPartWithin part (length new)
within_appended old more new part is first past = record {
  order = omega (arith, first, past);
  within = omega (arith, past, ap length is, length-append old more);
}

-- ---- an element of a part

slice_get-take : {X : Type 0} (n : ℕ) (xs : List X) (k : ℕ) (x : X) → slice_get (take n xs) k ≡ Some x → (k < n) × (slice_get xs k ≡ Some x)
slice_get-take zero xs k x is = absurd cc
slice_get-take (suc n) [] k x is = absurd cc
slice_get-take (suc n) (y ∷ xs) zero x is = (omega arith, is)
slice_get-take (suc n) (y ∷ xs) (suc k) x is = let rest = slice_get-take n xs k x is in (omega (arith, rest.0), rest.1)

slice_get-take_back : {X : Type 0} (n : ℕ) (xs : List X) (k : ℕ) (x : X) → k < n → slice_get xs k ≡ Some x → slice_get (take n xs) k ≡ Some x
slice_get-take_back zero xs k x less is = absurd (omega (arith, less))
slice_get-take_back (suc n) [] k x less is = is
slice_get-take_back (suc n) (y ∷ xs) zero x less is = is
slice_get-take_back (suc n) (y ∷ xs) (suc k) x less is = slice_get-take_back n xs k x (omega (arith, less)) is

slice_get-drop : {X : Type 0} (n : ℕ) (xs : List X) (k : ℕ) → slice_get (drop n xs) k ≡ slice_get xs (n + k)
slice_get-drop zero xs k = let same : k ≡ 0 + k = omega arith in ap (λ i. slice_get xs i) same
slice_get-drop (suc n) [] k = refl
slice_get-drop (suc n) (y ∷ xs) k =
    let same : suc (n + k) ≡ suc n + k = omega arith in
    slice_get-drop n xs k ∙ ap (λ i. slice_get (y ∷ xs) i) same

-- the element at a place of the part
pub in_part : {X : Type 0} (part : Part) (list : List X) (k : ℕ) (x : X) → slice_get (part_of part list) k ≡ Some x
    → (part.first + k < part.past) × (slice_get list (part.first + k) ≡ Some x)
in_part part list k x at =
    let taken = slice_get-take (part.past - part.first) (drop part.first list) k x at in
    (omega (arith, taken.0), sym (slice_get-drop part.first list k) ∙ taken.1)

pub to_part : {X : Type 0} (part : Part) (list : List X) (place : ℕ) (x : X) → part.first ≤ place → place < part.past → slice_get list place ≡ Some x
    → slice_get (part_of part list) (place - part.first) ≡ Some x
to_part part list place x since before at =
    let same : part.first + (place - part.first) ≡ place = omega (arith, since) in
    slice_get-take_back (part.past - part.first) (drop part.first list) (place - part.first) x (omega (arith, since, before))
    (slice_get-drop part.first list (place - part.first) ∙ ap (λ i. slice_get list i) same ∙ at)

-- ---- one more element at the end

pub last_at : {X : Type 0} (list : List X) (x : X) → slice_get (list ++ x ∷ []) (length list) ≡ Some x
last_at [] x = refl
last_at (y ∷ list) x = last_at list x

-- an element of a list with one more is one of the list, or the one at the end
pub push_cases : {X : Type 0} (list : List X) (last x : X) (place : ℕ) → slice_get (list ++ last ∷ []) place ≡ Some x
    → (slice_get list place ≡ Some x) ⊎ ((place ≡ length list) × (last ≡ x))
push_cases [] last x zero at = inr (refl, let same : Some last ≡ Some x = at in cc)
push_cases [] last x (suc place) at = absurd (let no : None ≡ Some x = at in cc)
push_cases (y ∷ list) last x zero at = inl at
push_cases (y ∷ list) last x (suc place) at = elim (push_cases list last x place at) [
  | inl before ↦ inl before
  | inr end ↦ inr (let n : suc place ≡ suc (length list) = ap (λ k. suc k) end.0 in n, end.1)
]
