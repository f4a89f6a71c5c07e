-- The live versions as they are noted, oldest first.
use Rattle.std.proofs.Common.{◌≡◌, ◌≢◌, ◌⊎◌, ℕ, zero, suc, ◌+◌, ◌<◌, List, [], ◌∷◌, ◌++◌, map, inl, inr, length, length-append, take, set, slice_index, get_or}
use Rattle.std.proofs.Common.{get_or-set_same, get_or-set_other, eq-eqb, ne_eqb, sym, refl, ap, ◌∙◌, subst, arith}
use Rattle.std.proofs.lemmas.List.{take_more}
use mathlib.Core.Bool.{cond}
use mathlib.Core.Logic.{dite}
use native.Mathlib.Decide.{ℕ_discrete}
use Rattle.std.specs.Prelude.{Bool, remove}
use Rattle.pin_rule.specs.declared.view.Live.{Live}
use Rattle.pin_rule.specs.declared.view.Older.{Older}
use Rattle.pin_rule.specs.Lists.{In}
use Rattle.pin_rule.specs.GivingUp.{last_of, before_last, last_live}
use Rattle.pin_rule.specs.PartLive.{known_release}
use Rattle.pin_rule.proofs.Lists.{in_left, in_right, in_mapped}
use Rattle.pin_rule.proofs.Spare.{has_all_below}
use Rattle.version_store.specs.declared.live_version.LiveVersion.{LiveVersion}
use Rattle.version_store.specs.declared.live_version.OlderVersion.{OlderVersion}
use Rattle.version_store.specs.LivePages.{live_noted, older_noted, oldest_first, first_page, pages_noted, lives_in}

abbrev page_in : OlderVersion → ℕ
page_in o = o.live.page

-- The oldest of a list

pub before_and_last : (a : Older) (os : List Older) → a ∷ os ≡ before_last a os ++ last_of a os ∷ []
before_and_last a [] = refl
before_and_last a (o ∷ os) = ap (λ (l : List Older). a ∷ l) (before_and_last o os)

pub first_is_last : (a : Older) (os : List Older) → oldest_first (a ∷ os) ≡ older_noted (last_of a os) ∷ oldest_first (before_last a os)
first_is_last a [] = refl
first_is_last a (o ∷ os) = ap (λ (l : List OlderVersion). l ++ older_noted a ∷ []) (first_is_last o os)

last_live_is : (o : Older) (os : List Older) → last_live o.live os ≡ (last_of o os).live
last_live_is o [] = refl
last_live_is o (p ∷ ps) = last_live_is p ps

pub oldest_page_is : (newest : Live) (older : List Older) → first_page (live_noted newest) (oldest_first older) ≡ (last_live newest older).page
oldest_page_is newest [] = refl
oldest_page_is newest (o ∷ os) = ap (first_page (live_noted newest)) (first_is_last o os) ∙ ap (λ (l : Live). l.page) (sym (last_live_is o os))

pub oldest_in : (newest : Live) (older : List Older) → In (last_live newest older) (lives_in newest older)
oldest_in newest [] = inl refl
oldest_in newest (o ∷ os) = inr (oldest_in o.live os)

pub many_noted : (older : List Older) → length (oldest_first older) ≡ length older
many_noted [] = refl
many_noted (o ∷ os) = let n = length-append (oldest_first os) (older_noted o ∷ []) in let m = many_noted os in omega arith

-- a list of which something is noted is not empty
pub some_older : (older : List Older) → 0 < length (oldest_first older) → (a : Older) × (os : List Older) × (older ≡ a ∷ os)
some_older [] lt = absurd (omega arith)
some_older (a ∷ os) lt = (a, os, refl)

-- Pages

pub in_parts : {A : Type 0} (x : A) (l m : List A) → In x (l ++ m) → In x l ⊎ In x m
in_parts x [] m i = inr i
in_parts x (y ∷ ys) m i = elim i [ inl e ↦ inl (inl e) | inr t ↦ elim (in_parts x ys m t) [ inl u ↦ inl (inr u) | inr u ↦ inr u ] ]

mapped_parts : {A B : Type 0} (f : A → B) (l m : List A) → map f (l ++ m) ≡ map f l ++ map f m
mapped_parts f [] m = refl
mapped_parts f (x ∷ xs) m = ap (λ l. f x ∷ l) (mapped_parts f xs m)

-- one more at the end
pub page_before : (newest : LiveVersion) (xs : List OlderVersion) (x : OlderVersion) (page : ℕ) → In page (pages_noted newest (xs ++ x ∷ []))
    → In page (pages_noted newest xs) ⊎ (page ≡ x.live.page)
page_before newest xs x page i = elim i [
  | inl e ↦ inl (inl e)
  | inr t ↦ elim (in_parts page (map page_in xs) (x.live.page ∷ []) (subst (In page) (mapped_parts page_in xs (x ∷ [])) t)) [
    | inl u ↦ inl (inr u)
    | inr u ↦ elim u [ inl e ↦ inr e | inr n ↦ absurd n ]
  ]
]

pub page_after : (newest : LiveVersion) (xs : List OlderVersion) (x : OlderVersion) (page : ℕ) → In page (pages_noted newest xs) ⊎ (page ≡ x.live.page)
    → In page (pages_noted newest (xs ++ x ∷ []))
page_after newest xs x page i = elim i [
  | inl h ↦ elim h [
    | inl e ↦ inl e
    | inr t ↦ inr (subst (In page) (sym (mapped_parts page_in xs (x ∷ []))) (in_left page (map page_in xs) (x.live.page ∷ []) t))
  ]
  | inr e ↦ inr (subst (In page) (sym (mapped_parts page_in xs (x ∷ []))) (in_right page (map page_in xs) (x.live.page ∷ []) (inl e)))
]

pages_back : (page : ℕ) (older : List Older) → In page (map page_in (oldest_first older))
    → In page (map (λ (l : Live). l.page) (map (λ (o : Older). o.live) older))
pages_back page [] i = i
pages_back page (o ∷ os) i = elim (in_parts page (map page_in (oldest_first os)) (o.live.page ∷ [])
    (subst (In page) (mapped_parts page_in (oldest_first os) (older_noted o ∷ [])) i)) [
      | inl t ↦ inr (pages_back page os t)
      | inr t ↦ elim t [ inl e ↦ inl e | inr n ↦ absurd n ]
    ]

pages_on : (page : ℕ) (older : List Older) → In page (map (λ (l : Live). l.page) (map (λ (o : Older). o.live) older))
    → In page (map page_in (oldest_first older))
pages_on page [] i = i
pages_on page (o ∷ os) i = subst (In page) (sym (mapped_parts page_in (oldest_first os) (older_noted o ∷ []))) (elim i [
  | inl e ↦ in_right page (map page_in (oldest_first os)) (o.live.page ∷ []) (inl e)
  | inr t ↦ in_left page (map page_in (oldest_first os)) (o.live.page ∷ []) (pages_on page os t)
])

-- the pages that are noted are those of the live versions
module _ (newest : Live) (older : List Older) (page : ℕ) where
  pub noted_live : In page (pages_noted (live_noted newest) (oldest_first older)) → In page (map (λ (l : Live). l.page) (lives_in newest older))
  noted_live i = elim i [ inl e ↦ inl e | inr t ↦ inr (pages_back page older t) ]

  pub live_is_noted : In page (map (λ (l : Live). l.page) (lives_in newest older)) → In page (pages_noted (live_noted newest) (oldest_first older))
  live_is_noted i = elim i [ inl e ↦ inl e | inr t ↦ inr (pages_on page older t) ]

-- not all pages are taken where fewer versions are live
mapped_many : (xs : List OlderVersion) → length (map page_in xs) ≡ length xs
mapped_many [] = refl
mapped_many (x ∷ xs) = ap suc (mapped_many xs)

pub some_spare : (newest : LiveVersion) (older : List OlderVersion) (count : ℕ) → length older + 1 < count
    → ((page : ℕ) → page < count → In page (pages_noted newest older)) → ⊥
some_spare newest older count few all = let n = has_all_below count (pages_noted newest older) all in let m = mapped_many older in omega arith

-- The oldest is removed

pub first_removed : (xs : List OlderVersion) (x : OlderVersion) (ys : List OlderVersion) → 0 < length xs → x ≡ get_or xs 0 x → ys ≡ remove xs 0 → xs ≡ x ∷ ys
first_removed [] x ys lt e r = absurd (omega arith)
first_removed (y ∷ xs) x ys lt e r = λ i. sym e i ∷ sym r i

pub page_there : (newest : LiveVersion) (xs : List OlderVersion) (x : OlderVersion) (ys : List OlderVersion) → xs ≡ x ∷ ys
    → In x.live.page (pages_noted newest xs)
page_there newest xs x ys e = subst (λ (l : List OlderVersion). In x.live.page (pages_noted newest l)) (sym e) (inr (inl refl))

pub page_still : (newest : LiveVersion) (xs : List OlderVersion) (x : OlderVersion) (ys : List OlderVersion) → xs ≡ x ∷ ys → (page : ℕ)
    → In page (pages_noted newest ys) → In page (pages_noted newest xs)
page_still newest xs x ys e page i = subst (λ (l : List OlderVersion). In page (pages_noted newest l)) (sym e)
    (elim i [ inl h ↦ inl h | inr t ↦ inr (inr t) ])

pub cons_parts : {A : Type 0} (x y : A) (xs ys : List A) → (let l : List A = x ∷ xs in l) ≡ y ∷ ys → (x ≡ y) × (xs ≡ ys)
cons_parts x y xs ys e = (cc, cc)

pub release_noted : (releases : List ℕ) (known : List (ℕ × ℕ)) (p q x : ℕ) → p ≡ q → q < length releases
    → ((page : ℕ) → page < 16 → slice_index releases page ≡ known_release known page) → (page : ℕ) → page < 16
    → slice_index (set releases p x) page ≡ known_release ((q, x) ∷ known) page
release_noted releases known p q x e inside h page lt = dite (ℕ_discrete q page)
    (λ same. ap (λ (i : ℕ). slice_index (set releases i x) page) (e ∙ same) ∙ get_or-set_same releases page x 0 (omega arith)
    ∙ sym (ap (λ (b : Bool). cond b x (known_release known page)) (eq-eqb q page same)))
    (λ ne. get_or-set_other releases p page x 0 (λ s. ne (sym e ∙ sym s)) ∙ h page lt
    ∙ sym (ap (λ (b : Bool). cond b x (known_release known page)) (ne_eqb q page ne)))

-- the page of a version that was read
pub page_at : (xs : List OlderVersion) (i : ℕ) (x : OlderVersion) → i < length xs → x ≡ get_or xs i x → In x.live.page (map page_in xs)
page_at [] i x lt e = absurd (omega arith)
page_at (y ∷ xs) zero x lt e = inl (ap page_in e)
page_at (y ∷ xs) (suc i) x lt e = inr (page_at xs i x (omega arith) e)

-- one more was looked at
pub page_next : (newest : LiveVersion) (xs : List OlderVersion) (i : ℕ) (x : OlderVersion) (page : ℕ) → i < length xs → x ≡ get_or xs i x → x.live.page ≢ page
    → ¬ (In page (pages_noted newest (take i xs))) → ¬ (In page (pages_noted newest (take (i + 1) xs)))
page_next newest xs i x page lt e ne none there = elim (page_before newest (take i xs) x page (subst (λ (l : List OlderVersion). In page (pages_noted newest l))
    (take_more xs i x lt ∙ ap (λ (y : OlderVersion). take i xs ++ y ∷ []) (sym e)) there)) [ inl i ↦ none i | inr same ↦ ne (sym same) ]

-- the version that was the newest is an older one
pub page_added : (newest : LiveVersion) (xs ys : List OlderVersion) (x : OlderVersion) (page : ℕ) → ys ≡ xs ++ x ∷ [] → x.live ≡ newest
    → In page (map page_in ys) → In page (pages_noted newest xs)
page_added newest xs ys x page e same i = elim (page_before newest xs x page (inr (subst (λ (l : List OlderVersion). In page (map page_in l)) e i))) [
  | inl h ↦ h
  | inr is ↦ inl (is ∙ ap (λ (l : LiveVersion). l.page) same)
]

-- a live version has a page that is noted
pub page_of_live : (newest : Live) (older : List Older) (first : LiveVersion) (xs : List OlderVersion) (k : Live) → live_noted newest ≡ first
    → oldest_first older ≡ xs → In k (lives_in newest older) → In k.page (pages_noted first xs)
page_of_live newest older first xs k e d i = subst (λ (t : LiveVersion × List OlderVersion). In k.page (pages_noted t.0 t.1)) (λ j. (e j, d j))
    (live_is_noted newest older k.page (in_mapped (λ (l : Live). l.page) k (lives_in newest older) i))
