-- What was appended where memory ran out is a prefix of the text.
use Rattle.std.proofs.Common.{◌≡◌, ℕ, zero, suc, ◌<◌, List, [], ◌∷◌, ◌++◌, length, take, drop, slice_index_or, Result, Ok, Err, OnOk, OnErr}
use Rattle.std.proofs.Common.{refl, ap, sym, subst, ◌∙◌, append_assoc, append-nil, arith}
use Rattle.std.specs.List.{flat_map}
use Rattle.std.proofs.lemmas.Grind.{flat_map-append}
use Rattle.std.proofs.lemmas.List.{take-append-drop}
use Rattle.forest_print.specs.Prefixes.{AppendsPrefix}

-- nothing was appended
pub stops_before : (old new text : List ℕ) → new ≡ old → AppendsPrefix old new text
stops_before old new text kept = record { prefix = []; rest = text; parts = refl; appended = kept ∙ sym (append-nil old) }

-- a part of the text was begun, after what stands before it
pub stops_in : (old mid new before part after text : List ℕ) → mid ≡ old ++ before → AppendsPrefix mid new part → text ≡ before ++ (part ++ after)
    → AppendsPrefix old new text
stops_in old mid new before part after text begun stopped is = record {
  prefix = before ++ stopped.prefix;
  rest = stopped.rest ++ after;
  parts = is ∙ ap (λ p. before ++ (p ++ after)) stopped.parts ∙ simp append_assoc;
  appended = stopped.appended ∙ ap (λ o. o ++ stopped.prefix) begun ∙ append_assoc old before stopped.prefix;
}

-- the first part of the text was begun
pub stops_first : (old new part after text : List ℕ) → AppendsPrefix old new part → text ≡ part ++ after → AppendsPrefix old new text
stops_first old new part after text stopped is = stops_in old old new [] part after text (sym (append-nil old)) stopped is

-- the text, written in another way, was begun
pub stops_same : (old new text other : List ℕ) → AppendsPrefix old new text → other ≡ text → AppendsPrefix old new other
stops_same old new text other stopped is = subst (AppendsPrefix old new) (sym is) stopped

-- the last part of the text was begun
pub stops_last : (old mid new before part text : List ℕ) → mid ≡ old ++ before → AppendsPrefix mid new part → text ≡ before ++ part → AppendsPrefix old new text
stops_last old mid new before part text begun stopped is = stops_in old mid new before part [] text begun stopped
    (is ∙ ap (λ p. before ++ p) (sym (append-nil part)))

-- of texts that stand one after the other, those before this place were appended, and no more
pub stops_between : {X : Type 0} (f : X → List ℕ) (xs : List X) (i : ℕ) (old mid new : List ℕ) → mid ≡ old ++ flat_map f (take i xs) → new ≡ mid
    → AppendsPrefix old new (flat_map f xs)
stops_between f xs i old mid new begun kept = record {
  prefix = flat_map f (take i xs);
  rest = flat_map f (drop i xs);
  parts = ap (flat_map f) (sym (take-append-drop i xs)) ∙ flat_map-append f (take i xs) (drop i xs);
  appended = kept ∙ begun;
}

-- of texts that stand one after the other, the one at this place was begun
pub stops_at : {X : Type 0} (f : X → List ℕ) (xs : List X) (i : ℕ) (d : X) (old mid new : List ℕ) → i < length xs → mid ≡ old ++ flat_map f (take i xs)
    → AppendsPrefix mid new (f (slice_index_or xs i d)) → AppendsPrefix old new (flat_map f xs)
stops_at f [] i d old mid new less begun stopped = absurd (omega (arith, less))
stops_at f (x ∷ xs) zero d old mid new less begun stopped = stops_in old mid new [] (f x) (flat_map f xs) (flat_map f (x ∷ xs)) begun stopped refl
stops_at f (x ∷ xs) (suc i) d old mid new less begun stopped =
    let later = stops_at f xs i d (old ++ f x) mid new (omega (arith, less)) (begun ∙ sym (append_assoc old (f x) (flat_map f (take i xs)))) stopped in
    record {
      prefix = f x ++ later.prefix;
      rest = later.rest;
      parts = ap (λ p. f x ++ p) later.parts ∙ sym (append_assoc (f x) later.prefix later.rest);
      appended = later.appended ∙ append_assoc old (f x) later.prefix;
    }

pub on_err : {X E : Type 0} {P : Type 0} (r : Result X E) → P → OnErr r P
on_err (Ok x) p = tt
on_err (Err e) p = p

pub err_then : {X E : Type 0} {P Q : Type 0} (r : Result X E) → (P → Q) → OnErr r P → OnErr r Q
err_then (Ok x) f p = tt
err_then (Err e) f p = f p

pub ok_then : {X E : Type 0} {P Q : Type 0} (r : Result X E) → (P → Q) → OnOk r P → OnOk r Q
ok_then (Ok x) f p = f p
ok_then (Err e) f p = tt

-- the text was appended as far as this, and no more
pub stops_after : (old mid new before after text : List ℕ) → mid ≡ old ++ before → new ≡ mid → text ≡ before ++ after → AppendsPrefix old new text
stops_after old mid new before after text begun kept is = record { prefix = before; rest = after; parts = is; appended = kept ∙ begun }
