-- Places of the newest page that are known, as loads teach them.
use Rattle.std.proofs.Common.{
  ◌≡◌,
  ◌≢◌,
  ◌⊎◌,
  ℕ,
  suc,
  ◌<◌,
  List,
  [],
  ◌∷◌,
  ◌++◌,
  map,
  inl,
  inr,
  length,
  length-append,
  slice_index,
  eqb,
  eq-eqb,
  ne_eqb,
  sym,
  refl,
}
use Rattle.std.proofs.Common.{ap, ◌∙◌, subst, arith}
use Rattle.std.proofs.lemmas.Bool.{eqb-true, cases_lt}
use mathlib.Core.Option as maybe
use mathlib.Core.Bool.{cond}
use lib.ListN.{get_elem?}
use Rattle.std.specs.Prelude.{Option, Some, None, Bool, true, false}
use Rattle.pin_rule.specs.declared.view.View.{View}
use Rattle.pin_rule.specs.declared.view.Role.{Role}
use Rattle.pin_rule.specs.declared.view.KnownPlace.{KnownPlace}
use Rattle.pin_rule.specs.Lists.{In}
use Rattle.pin_rule.specs.Views.{whole}
use Rattle.pin_rule.specs.Steps.{is_newest_page, keeps_page, learned_place, known_met, learned_word, known_read}
use Rattle.pin_rule.proofs.Lists.{in_mapped, at_end, at_short}
use Rattle.pin_rule.proofs.Seats.{none_some, same_some}
use Rattle.version_store.specs.Rows.{Found}
use Rattle.slot_store.specs.Known.{IsLater}
use Rattle.version_store.specs.Learning.{Grown, Shows, Learns}

-- Lists that grow

pub later_still : (k : KnownPlace) → IsLater k k
later_still k = (refl, refl, λ w i. i)

pub later_on : (k l m : KnownPlace) → IsLater k l → IsLater l m → IsLater k m
later_on k l m a b = (b.0 ∙ a.0, b.1 ∙ a.1, λ w i. b.2 w (a.2 w i))

pub grown_still : (ks : List KnownPlace) → Grown ks ks
grown_still ks = record { on = λ k i. (k, i, later_still k); back = λ l i. (l, i, later_still l) }

pub grown_on : (ks ls ms : List KnownPlace) → Grown ks ls → Grown ls ms → Grown ks ms
grown_on ks ls ms a b = record {
  on = λ k i. let x = a.on k i in let y = b.on x.0 x.1 in (y.0, y.1, later_on k x.0 y.0 x.2 y.2);
  back = λ m i. let y = b.back m i in let x = a.back y.0 y.1 in (x.0, x.1, later_on x.0 y.0 m x.2 y.2);
}

-- A load of a place

module _ (place n : ℕ) where
  abbrev fresh : KnownPlace
  fresh = record { place = place; met = n; words = [] }

  in_split : (b : Bool) (k x : KnownPlace) (ks : List KnownPlace) → (In k (learned_place place n ks) → In k ks ⊎ (k ≡ fresh))
      → In k (cond b (x ∷ ks) (x ∷ learned_place place n ks)) → In k (x ∷ ks) ⊎ (k ≡ fresh)
  in_split true k x ks rest i = inl i
  in_split false k x ks rest i = elim i [ inl e ↦ inl (inl e) | inr t ↦ elim (rest t) [ inl u ↦ inl (inr u) | inr e ↦ inr e ] ]

  pub in_learned : (k : KnownPlace) (ks : List KnownPlace) → In k (learned_place place n ks) → In k ks ⊎ (k ≡ fresh)
  in_learned k [] i = elim i [ inl e ↦ inr e | inr t ↦ absurd t ]
  in_learned k (x ∷ ks) i = in_split (eqb x.place place) k x ks (in_learned k ks) i

  in_kept : (b : Bool) (k x : KnownPlace) (ks : List KnownPlace) → (In k ks → In k (learned_place place n ks)) → In k (x ∷ ks)
      → In k (cond b (x ∷ ks) (x ∷ learned_place place n ks))
  in_kept true k x ks rest i = i
  in_kept false k x ks rest i = elim i [ inl e ↦ inl e | inr t ↦ inr (rest t) ]

  pub learned_keeps : (k : KnownPlace) (ks : List KnownPlace) → In k ks → In k (learned_place place n ks)
  learned_keeps k [] i = absurd i
  learned_keeps k (x ∷ ks) i = in_kept (eqb x.place place) k x ks (learned_keeps k ks) i

  there : (b : Bool) (x : KnownPlace) (ks : List KnownPlace) → eqb x.place place ≡ b → ((l : KnownPlace) × In l (learned_place place n ks) × (l.place ≡ place))
      → (l : KnownPlace) × In l (cond b (x ∷ ks) (x ∷ learned_place place n ks)) × (l.place ≡ place)
  there true x ks e rest = (x, inl refl, eqb-true x.place place e)
  there false x ks e rest = (rest.0, inr rest.1, rest.2)

  pub learned_covers : (ks : List KnownPlace) → (l : KnownPlace) × In l (learned_place place n ks) × (l.place ≡ place)
  learned_covers [] = (record { place = place; met = n; words = [] }, inl refl, refl)
  learned_covers (x ∷ ks) = there (eqb x.place place) x ks refl (learned_covers ks)

-- the view with the whole share keeps the newest page
pub keeps_it : (v : View) (r : Role) (page : ℕ) → v.share ≡ whole → v.role ≡ Some r → r.newest.page ≡ page → keeps_page v page ≡ true
keeps_it v r page all has at = ap (λ (b : Bool). cond b (is_newest_page v.role page) false) (eq-eqb v.share whole all)
    ∙ ap (λ (o : Option Role). is_newest_page o page) has ∙ eq-eqb r.newest.page page at

pub met_is : (v : View) (r : Role) (page place n : ℕ) → v.share ≡ whole → v.role ≡ Some r → r.newest.page ≡ page
    → known_met v page place n ≡ learned_place place n v.known
met_is v r page place n all has at = ap (λ (b : Bool). cond b (learned_place place n v.known) v.known) (keeps_it v r page all has at)

either_false : (b : Bool) → cond b false false ≡ false
either_false true = refl
either_false false = refl

-- a load of a place of another page teaches nothing
pub kept_known : (v : View) (r : Role) (page place n : ℕ) → v.role ≡ Some r → r.newest.page ≢ page → known_met v page place n ≡ v.known
kept_known v r page place n has apart = ap (λ (b : Bool). cond b (learned_place place n v.known) v.known)
    (ap (λ (b : Bool). cond (eqb v.share whole) b false) (ap (λ (o : Option Role). is_newest_page o page) has ∙ ne_eqb r.newest.page page apart)
    ∙ either_false (eqb v.share whole))

-- A load of a word of a row

pub mapped_back : {A B : Type 0} (f : A → B) (y : B) (xs : List A) → In y (map f xs) → (x : A) × In x xs × (y ≡ f x)
mapped_back f y [] i = absurd i
mapped_back f y (x ∷ xs) i = elim i [ inl e ↦ (x, inl refl, e) | inr t ↦ let r = mapped_back f y xs t in (r.0, inr r.1, r.2) ]

module _ (row index n : ℕ) where
  kept_word : (b : Bool) (w : ℕ × ℕ) (ws : List (ℕ × ℕ)) → In w ws → In w (cond b ((index, n) ∷ ws) ws)
  kept_word true w ws i = inr i
  kept_word false w ws i = i

  pub later_word : (k : KnownPlace) → IsLater k (learned_word row index n k)
  later_word k = (refl, refl, λ w i. kept_word (eqb k.met (suc row)) w k.words i)

  pub grown_words : (ks : List KnownPlace) → Grown ks (map (learned_word row index n) ks)
  grown_words ks = record {
    on = λ k i. (learned_word row index n k, in_mapped (learned_word row index n) k ks i, later_word k);
    back = λ l i. let r = mapped_back (learned_word row index n) l ks i in (r.0, r.1, subst (IsLater r.0) (sym r.2) (later_word r.0));
  }

  new_word : (k : KnownPlace) → k.met ≡ suc row → In (index, n) (learned_word row index n k).words
  new_word k e = subst (λ (b : Bool). In (index, n) (cond b ((index, n) ∷ k.words) k.words)) (sym (eq-eqb k.met (suc row) e)) (inl refl)

  pub word_learned : (ks : List KnownPlace) (l : KnownPlace) → In l (map (learned_word row index n) ks) → l.met ≡ suc row → In (index, n) l.words
  word_learned ks l i e = let r = mapped_back (learned_word row index n) l ks i in
      subst (λ (x : KnownPlace). In (index, n) x.words) (sym r.2) (new_word r.0 (sym (ap (λ (x : KnownPlace). x.met) r.2) ∙ e))

grown_cond : (b : Bool) (ks ls : List KnownPlace) → Grown ks ls → Grown ks (cond b ls ks)
grown_cond true ks ls g = g
grown_cond false ks ls g = grown_still ks

pub grown_read : (v : View) (row index n : ℕ) → Grown v.known (known_read v row index n)
grown_read v row index n = grown_cond (eqb v.share whole) v.known (map (learned_word row index n) v.known) (grown_words row index n v.known)

pub read_is : (v : View) (row index n : ℕ) → v.share ≡ whole → known_read v row index n ≡ map (learned_word row index n) v.known
read_is v row index n all = ap (λ (b : Bool). cond b (map (learned_word row index n) v.known) v.known) (eq-eqb v.share whole all)

-- The first places

pub learns_none : (ks : List KnownPlace) → Learns ks ks []
learns_none ks = record {
  on = λ k i. (k, i, later_still k);
  covers = λ place lt. absurd (omega arith);
  only = λ l i. inr (l, i, refl);
  empty = λ place l e i at. absurd (maybe.some-ne-none None (sym e));
  rows = λ place f l e i at. absurd (maybe.some-ne-none (Some f) (sym e));
}

module _ (ks ls : List KnownPlace) (found : List (Option Found)) (h : Learns ks ls found) (place n : ℕ) (at : place ≡ length found)
    (as_known : (l : KnownPlace) → In l ls → l.place ≡ place → n ≡ l.met) where
  -- what is known at the place after the load
  here_met : (l : KnownPlace) → In l (learned_place place n ls) → l.place ≡ place → l.met ≡ n
  here_met l i e = elim (in_learned place n l ls i) [ inl t ↦ sym (as_known l t e) | inr x ↦ ap (λ (y : KnownPlace). y.met) x ]

  elsewhere : (l : KnownPlace) (o : ℕ) → In l (learned_place place n ls) → l.place ≡ o → o < length found → In l ls
  elsewhere l o i e lt = elim (in_learned place n l ls i) [ inl t ↦ t | inr x ↦ let p = ap (λ (y : KnownPlace). y.place) x in absurd (omega arith) ]

  module _ (ms : List KnownPlace) (g : Grown (learned_place place n ls) ms) (x : Option Found) where
    many : length (found ++ x ∷ []) ≡ suc (length found)
    many = let e = length-append found (x ∷ []) in omega arith

    on : (k : KnownPlace) → In k ks → (m : KnownPlace) × In m ms × IsLater k m
    on k i = let l = h.on k i in let m = g.on l.0 (learned_keeps place n l.0 ls l.1) in (m.0, m.1, later_on k l.0 m.0 l.2 m.2)

    covers : (o : ℕ) → o < length (found ++ x ∷ []) → (m : KnownPlace) × In m ms × (m.place ≡ o)
    covers o lt = elim (cases_lt o (length found)) [
      | inl below ↦ let l = h.covers o below in let m = g.on l.0 (learned_keeps place n l.0 ls l.1) in (m.0, m.1, m.2.0 ∙ l.2)
      | inr above ↦ let l = learned_covers place n ls in let m = g.on l.0 l.1 in let k = many in
          (m.0, m.1, m.2.0 ∙ l.2 ∙ (let r : place ≡ o = omega arith in r))
    ]

    only : (m : KnownPlace) → In m ms → (m.place < length (found ++ x ∷ [])) ⊎ ((k : KnownPlace) × In k ks × (k.place ≡ m.place))
    only m i = let l = g.back m i in let p = l.2.0 in let k = many in elim (in_learned place n l.0 ls l.1) [
      | inl t ↦ elim (h.only l.0 t) [ inl lt ↦ inl (omega arith) | inr o ↦ inr (o.0, o.1, o.2 ∙ sym p) ]
      | inr e ↦ let q = ap (λ (y : KnownPlace). y.place) e in inl (omega arith)
    ]

    -- what was said of the places before stays
    old_empty : (o : ℕ) (m : KnownPlace) → get_elem? found o ≡ maybe.some None → In m ms → m.place ≡ o → m.met ≡ 0
    old_empty o m e i p = let l = g.back m i in let short = at_short found o None e in
        l.2.1 ∙ h.empty o l.0 e (elsewhere l.0 o l.1 (sym l.2.0 ∙ p) short) (sym l.2.0 ∙ p)

    old_rows : (o : ℕ) (f : Found) (m : KnownPlace) → get_elem? found o ≡ maybe.some (Some f) → In m ms → m.place ≡ o
        → (m.met ≡ suc f.row) × ((index : ℕ) → index < length f.words → In (index, slice_index f.words index) m.words)
    old_rows o f m e i p = let l = g.back m i in let short = at_short found o (Some f) e in
        let r = h.rows o f l.0 e (elsewhere l.0 o l.1 (sym l.2.0 ∙ p) short) (sym l.2.0 ∙ p) in
        (l.2.1 ∙ r.0, λ index lt. l.2.2 _ (r.1 index lt))

    new_met : (m : KnownPlace) → In m ms → m.place ≡ place → m.met ≡ n
    new_met m i p = let l = g.back m i in l.2.1 ∙ here_met l.0 l.1 (sym l.2.0 ∙ p)

  pub learns_empty : n ≡ 0 → Learns ks (learned_place place n ls) (found ++ None ∷ [])
  learns_empty e = let ms = learned_place place n ls in let g = grown_still ms in record {
    on = on ms g None;
    covers = covers ms g None;
    only = only ms g None;
    empty = λ o m is i p. elim (at_end found None None o is) [
      | inl t ↦ old_empty ms g None o m t i p
      | inr t ↦ new_met ms g None m i (p ∙ t.0 ∙ sym at) ∙ e
    ];
    rows = λ o f m is i p. elim (at_end found None (Some f) o is) [ inl t ↦ old_rows ms g None o f m t i p | inr t ↦ absurd (none_some f t.1) ];
  }

  pub learns_row : (row : ℕ) (words : List ℕ) → n ≡ suc row → (ms : List KnownPlace) → Grown (learned_place place n ls) ms → Shows ms row words
      → Learns ks ms (found ++ Some (record { row = row; words = words }) ∷ [])
  learns_row row words met ms g shows = let x : Found = record { row = row; words = words } in record {
    on = on ms g (Some (record { row = row; words = words }));
    covers = covers ms g (Some (record { row = row; words = words }));
    only = only ms g (Some (record { row = row; words = words }));
    empty = λ o m is i p. elim (at_end found (Some (record { row = row; words = words })) None o is) [
      | inl t ↦ old_empty ms g (Some (record { row = row; words = words })) o m t i p
      | inr t ↦ absurd (none_some (record { row = row; words = words }) (sym t.1))
    ];
    rows = λ o f m is i p. elim (at_end found (Some (record { row = row; words = words })) (Some f) o is) [
      | inl t ↦ old_rows ms g (Some (record { row = row; words = words })) o f m t i p
      | inr t ↦ let same : x ≡ f = same_some x f t.1 in let is_row = new_met ms g (Some (record { row = row; words = words })) m i (p ∙ t.0 ∙ sym at) ∙ met in
          subst (λ (y : Found). (m.met ≡ suc y.row) × ((index : ℕ) → index < length y.words → In (index, slice_index y.words index) m.words)) same
          (is_row, shows m i is_row)
    ];
  }
