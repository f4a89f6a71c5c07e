-- The rule holds of a new table.
use Rattle.std.proofs.Common.{◌≡◌, ℕ, zero, suc, ◌+◌, ◌<◌, ◌≤◌, List, [], ◌∷◌, length, take, replicate, slice_index, inl, inr, sym, refl, ap, ◌∙◌, subst, arith}
use mathlib.Core.Option as maybe
use lib.ListN.{get_elem?}
use Rattle.std.specs.Prelude.{Some}
use Rattle.pin_rule.specs.declared.sizes.Sizes.{Sizes}
use Rattle.pin_rule.specs.declared.content.Entry.{Entry}
use Rattle.pin_rule.specs.declared.view.View.{View}
use Rattle.pin_rule.specs.declared.view.OwnRow.{OwnRow}
use Rattle.pin_rule.specs.declared.view.Live.{Live}
use Rattle.pin_rule.specs.declared.view.Role.{Role}
use Rattle.pin_rule.specs.Layout.{word_count, release, claim, entry, release_word, claim_word, place_word}
use Rattle.pin_rule.specs.Lists.{Each, In, sum_to}
use Rattle.pin_rule.specs.Views.{whole, lives, OwnsAt, EachView, IsLiveVersion}
use Rattle.pin_rule.specs.PartCurrent.{KnowsLog}
use Rattle.pin_rule.specs.PartLive.{PinsLive}
use Rattle.pin_rule.specs.PartFacts.{Knows, IsKnown, KnowsWhole}
use Rattle.pin_rule.specs.PartShares.{IsRightful}
use Rattle.pin_rule.specs.Lawful.{IsMeasured, Lawful}
use Rattle.pin_rule.specs.Steps.{empty_places, first_role, first_view}
use Rattle.pin_rule.proofs.Lists.{not_zero}
use Rattle.pin_rule.proofs.Seats.{none_some}

zero_at : (n i : ℕ) → slice_index (replicate n 0) i ≡ 0
zero_at zero i = refl
zero_at (suc n) zero = refl
zero_at (suc n) (suc i) = zero_at n i

length_zeros : (n : ℕ) → length (replicate n (let z : ℕ = 0 in z)) ≡ n
length_zeros zero = refl
length_zeros (suc n) = ap suc (length_zeros n)

alone : (v u : View) (j : ℕ) → get_elem? (v ∷ []) j ≡ maybe.some u → v ≡ u
alone v u zero e = maybe.some-injective v u e
alone v u (suc j) e = absurd (maybe.some-ne-none u (sym e))

sum_zero : (n : ℕ) (f : ℕ → ℕ) → ((i : ℕ) → f i ≡ 0) → sum_to n f ≡ 0
sum_zero zero f h = refl
sum_zero (suc n) f h = let a = sum_zero n f h in let b = h n in omega arith

first_alone : (v : View) (i : ℕ) (u : View) (r : Role) → get_elem? (v ∷ []) i ≡ maybe.some u → u.role ≡ Some r → i ≡ 0
first_alone v zero u r e _ = refl
first_alone v (suc i) u r e _ = absurd (maybe.some-ne-none u (sym e))

one_version : (i : ℕ) (l : Live) → get_elem? (lives first_role) i ≡ maybe.some l → l.version + i ≡ 0
one_version zero l e = ap (λ (x : Live). x.version + 0) (sym (maybe.some-injective first_role.newest l e))
one_version (suc i) l e = absurd (maybe.some-ne-none l (sym e))

some_share : whole ≡ 0 → ⊥
some_share e = omega arith

all_empty : (z : Sizes) (words : List ℕ) (n : ℕ) → n ≤ z.places → ((p : ℕ) → entry z words 0 p ≡ 0) → Each (IsKnown z words first_role) (empty_places n)
all_empty z words zero h e = tt
all_empty z words (suc n) h e = ((omega arith, e n, λ row c. absurd (not_zero 0 row refl c)), all_empty z words n (omega arith) e)

pub begins : (L : List Entry → Type 0) (F : List Entry → List ℕ → Type 0) (z : Sizes) → L [] → Lawful L F z (replicate (word_count z) 0) (first_view z ∷ [])
begins L F z first = let ws = replicate (word_count z) (let o : ℕ = 0 in o) in let v = first_view z in
    let each : (P : View → Type 0) → P v → EachView (v ∷ []) P = λ P mine j u e. subst P (alone v u j e) mine in
    let none : (i : ℕ) (o : OwnRow) → OwnsAt (v ∷ []) i o → ⊥ = λ i o x. none_some o (ap (λ (u : View). u.own) (alone v x.0 i x.1) ∙ x.2) in
    let empty : (page p : ℕ) → entry z ws page p ≡ 0 = λ page p. zero_at (word_count z) (place_word z page p) in
    let free : (r : ℕ) → claim z ws r ≡ 0 = λ r. zero_at (word_count z) (claim_word z r) in
    let none_dropped : (page : ℕ) → release z ws page ≡ 0 = λ page. zero_at (word_count z) (release_word z page) in
    let only : (l : Live) → IsLiveVersion first_role l → l ≡ first_role.newest = λ l i. elim i [ inl e ↦ e | inr t ↦ absurd t ] in
    let bounds = z.versions_in in
    record {
      long = length_zeros (word_count z);
      sizes = each (IsMeasured z) (λ _. refl);
      log = [];
      role = first_role;
      taken = 0;
      editor = record { seat = 0; view = v; at = refl; has = refl; log_is = refl; one = first_alone v };
      current = record {
        cur = zero_at (word_count z) 0;
        version = refl;
        log_in = omega arith;
        log_wide = λ i e at. absurd (maybe.some-ne-none e (sym at));
        log_is = λ i index e at lt. absurd (maybe.some-ne-none e (sym at));
        lawful_log = λ l i. subst (λ (n : ℕ). L (take n [])) (sym (ap (λ (x : Live). x.version) (only l i))) first;
        making = λ m e. absurd (none_some m e);
        next_log = λ m next e _. absurd (none_some m e);
      };
      logs = each (KnowsLog []) (record { prefix = ([], refl); few = omega arith; words = λ i lt. absurd (omega arith) });
      live = record {
        consecutive = one_version;
        few = omega arith;
        page_in = λ l i. subst (λ (n : ℕ). n < z.versions) (sym (ap (λ (x : Live). x.page) (only l i))) (omega arith);
        pages_differ = λ a b i j _. ap (λ (x : Live). x.version) (only a i) ∙ sym (ap (λ (x : Live). x.version) (only b j));
        room = λ m e. absurd (none_some m e);
        making = λ m e. absurd (none_some m e);
        given_up = λ g e. absurd (none_some g e);
      };
      pinned = each (PinsLive first_role) (λ p e. absurd (none_some p e));
      pins = record {
        counted = λ l t k. elim k [
          | inl y ↦ subst (λ (m : Live). release z ws m.page + 0 ≡ m.base + t) (sym y.0) (let a = none_dropped 0 in let b =
              y.1 in omega arith)
          | inr y ↦ absurd y.1
        ];
        from_base = λ l i. subst (λ (m : Live). m.base ≤ release z ws m.page) (sym (only l i)) (omega arith);
        released = λ page _ _. none_dropped page;
      };
      budget = (let a = sum_zero z.versions (release z ws) none_dropped in omega arith);
      pages = λ l i. record {
        entries = λ p r _ e. absurd (not_zero (entry z ws l.page p) r (empty l.page p) e);
        keys_once = λ p q a b _ _ e _ _. absurd (not_zero (entry z ws l.page p) a (empty l.page p) e);
      };
      claims = record {
        bit = λ r _. let f = free r in omega arith;
        in_use = λ r _ c. absurd (not_zero (claim z ws r) 0 (free r) c);
        owned = λ i o x. absurd (none i o x);
        one_owner = λ i j o p x y e. absurd (none i o x);
        to_free = λ r t. absurd (none_some t.0 t.1);
      };
      carried = record {
        between = λ a b c r ia ib ic _ _ x _. absurd (not_zero (entry z ws a.page x.0) r (empty a.page x.0) x.2);
        after_left = λ g b c r e _ _ _ _ _. absurd (none_some g e);
        range = λ g p r e _ _. absurd (none_some g e);
        once = λ g p q r e _ _ _ _. absurd (none_some g e);
        stands = λ l r i c. absurd (subst (λ (x : Live). In r x.carried) (only l i) c);
        kept = λ m next p r e _ _ _. absurd (none_some m e);
      };
      facts = each (Knows z ws first_role) (tt, tt);
      shares = record { sum = refl; rightful = each IsRightful (λ e. absurd (some_share e), λ _. refl) };
      known = each (KnowsWhole z ws first_role) (λ _. all_empty z ws z.places (omega arith) (empty 0));
    }
