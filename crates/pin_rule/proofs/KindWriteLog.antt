-- A word of the next entry keeps the rule.
use Rattle.std.proofs.Common.{◌≡◌, ℕ, ◌<◌, List, [], ◌∷◌, ◌++◌, inl, inr, length, length-append, set, length-set, slice_index, sym, refl, ap, ◌∙◌, subst}
use Rattle.std.proofs.Common.{arith}
use Rattle.std.proofs.lemmas.Bool.{cases_lt}
use Rattle.std.proofs.Math.ListN.{get_or-append}
use Rattle.std.proofs.Math.Seq.{get_or-append_seam}
use mathlib.Core.Option as maybe
use lib.ListN.{get_elem?}
use Rattle.std.specs.Prelude.{Some, None, Option}
use Rattle.pin_rule.specs.declared.content.Entry.{Entry}
use Rattle.pin_rule.specs.declared.view.View.{View}
use Rattle.pin_rule.specs.declared.view.Making.{Making}
use Rattle.pin_rule.specs.declared.view.Role.{Role}
use Rattle.pin_rule.specs.declared.ops.Op.TheVariants as op
use Rattle.pin_rule.specs.Layout.{log_word}
use Rattle.pin_rule.specs.Lists.{In}
use Rattle.pin_rule.specs.Views.{pages_taken}
use Rattle.pin_rule.specs.Making.{begun, making_of, with_entry_word}
use Rattle.pin_rule.specs.PartCurrent.{IsMaking, IsCurrent, IsNextLog}
use Rattle.pin_rule.specs.Lawful.{Lawful}
use Rattle.pin_rule.specs.Steps.{after_write_log}
use Rattle.pin_rule.specs.NextVersion.{IsEntryWord}
use Rattle.pin_rule.specs.Keeps.{Keeps}
use Rattle.pin_rule.proofs.Lists.{at_short}
use Rattle.pin_rule.proofs.Frames.{wrote, log_in, log-cur, log-release, log-claim, log-entry, log-logged, log-row}
use Rattle.pin_rule.proofs.Seats.{none_some, same_some}
use Rattle.pin_rule.proofs.Spare.{spare_few, spare_outside}
use Rattle.pin_rule.proofs.Versions.{is_role, log_of_editor}
use Rattle.pin_rule.proofs.MakingOn.{role_making, makes}

module _ (L : List Entry → Type 0) (F : List Entry → List ℕ → Type 0) (v : View) (words : List ℕ) (views : List View) (id entry index word : ℕ)
    (at : get_elem? views id ≡ maybe.some v) (h : Lawful L F v.sizes words views) (new : IsEntryWord L v h.role entry index word)
    (room : entry < v.sizes.log) (inside : index < 32) where
  abbrev words' : List ℕ
  words' = set words (log_word v.sizes entry index) word

  abbrev m : Making
  m = let m0 = making_of h.role in record m0 { entry = m0.entry ++ word ∷ [] }

  log_is : v.log ≡ h.log
  log_is = log_of_editor L F v.sizes words views id v at h h.role new.has

  entry_is : entry ≡ length h.log
  entry_is = new.entry_is ∙ ap length log_is

  -- What is in the making before the word

  making_before : (o : Option Making) → h.role.making ≡ o → IsMaking v.sizes words h.log (begun h.role o)
  making_before None e = let few = spare_few h.role in let space = new.spare e in let same = entry_is in record {
    room = omega arith;
    page_in = omega arith;
    entry_in = omega arith;
    entry_is = λ i lt. absurd (omega arith);
    places_in = omega arith;
    places_after = λ lt. absurd (omega arith);
    places_are = λ p lt. absurd (omega arith);
  }
  making_before (Some o) e = h.current.making o e

  apart_before : (o : Option Making) → h.role.making ≡ o → ¬ (In (begun h.role o).page (pages_taken h.role))
  apart_before None e = spare_outside h.role
  apart_before (Some o) e = h.live.making o e

  room_before : (o : Option Making) → h.role.making ≡ o → length (pages_taken h.role) < v.sizes.versions
  room_before None e = new.spare e
  room_before (Some o) e = h.live.room o e

  before : IsMaking v.sizes words h.log (making_of h.role)
  before = making_before h.role.making refl

  -- no place is written before the entry is whole
  no_place : (place : ℕ) → place < length (making_of h.role).places → ⊥
  no_place place lt = let all = before.places_after (omega arith) in let next = new.index_is in omega arith

  entry_words : (i : ℕ) → i < length m.entry → slice_index words' (log_word v.sizes (length h.log) i) ≡ slice_index m.entry i
  entry_words i lt = let ws = (making_of h.role).entry in let next = new.index_is in let same = entry_is in let long = length-append ws (word ∷ []) in
      elim (cases_lt i (length ws)) [
        | inl below ↦ log-logged v.sizes words word entry index (length h.log) i inside (omega arith) (λ _ e. omega arith) ∙ before.entry_is i below
            ∙ sym (get_or-append ws (word ∷ []) 0 i below)
        | inr above ↦ let here : i ≡ length ws = omega arith in
            ap (λ (t : ℕ × ℕ). slice_index words' (log_word v.sizes t.0 t.1)) (λ k. (sym same k, (here ∙ sym next) k))
            ∙ wrote v.sizes words word (log_word v.sizes entry index) h.long (log_in v.sizes entry index room inside)
            ∙ sym (get_or-append_seam ws word [] 0) ∙ ap (slice_index m.entry) (sym here)
      ]

  making' : IsMaking v.sizes words' h.log m
  making' = let b = before in let next = new.index_is in let long = length-append (making_of h.role).entry (word ∷ []) in record {
    room = b.room;
    page_in = b.page_in;
    entry_in = omega arith;
    entry_is = entry_words;
    places_in = b.places_in;
    places_after = λ lt. absurd (no_place 0 lt);
    places_are = λ p lt. absurd (no_place p lt);
  }

  current' : IsCurrent L v.sizes words' h.log (role_making h.role m) h.taken
  current' = let c = h.current in record {
    cur = log-cur v.sizes words word entry index ∙ c.cur;
    version = c.version;
    log_in = c.log_in;
    log_wide = c.log_wide;
    log_is = λ i j e is lt. let short = at_short h.log i e is in let same = entry_is in
        log-logged v.sizes words word entry index i j inside lt (λ q. absurd (omega arith)) ∙ c.log_is i j e is lt;
    lawful_log = c.lawful_log;
    making = λ o is. subst (IsMaking v.sizes words' h.log) (same_some m o is) making';
    next_log = λ o next is to. new.lawful_next next (subst (λ (t : List Entry × List ℕ). IsNextLog t.0 t.1 next)
        (λ k. (sym log_is k, ap (λ (x : Making). x.entry) (sym (same_some m o is)) k)) to);
  }

  writes_log : Lawful L F v.sizes words' (set views id (after_write_log v entry index word))
  writes_log = let z = v.sizes in
      makes L F z words words' views id v (after_write_log v entry index word) at h m
      (record {
        long = length-set words (log_word z entry index) word;
        releases = λ page pi. log-release z words word entry index page pi;
        claims = λ r ri. log-claim z words word entry index r ri;
        rows = λ r _ i _. sym (log-row z words word entry index r i room inside);
        kept = record {
          places = λ l p il pi. log-entry z words word entry index l.page p (h.live.page_in l il) pi;
          in_use = λ r ri c _. log-claim z words word entry index r ri ∙ c;
          rows = λ r _ _ _ i _. sym (log-row z words word entry index r i room inside);
          given = λ g p is pi. log-entry z words word entry index g.page p (h.live.given_up g is).page_in pi;
        };
      })
      (record {
        sizes = refl;
        share = refl;
        own = refl;
        steady = record { log = refl; log_words = refl; pinned = refl; pins_left = refl };
        knows = h.facts id v at;
        whole = h.known id v at;
        right = (let right = h.shares.rightful id v at in (λ e. let r = right.0 e in absurd (none_some h.role (sym r.2 ∙ new.has)), right.1));
      })
      (record {
        was = new.has;
        is = ap (λ (o : Option Role). with_entry_word o word) new.has;
        current = current';
        room = room_before h.role.making refl;
        apart = apart_before h.role.making refl;
        keeps = λ next place row to lt e. absurd (no_place place lt);
      })

module _ (L : List Entry → Type 0) (F : List Entry → List ℕ → Type 0) (v : View) (r : Role) (entry index word : ℕ)
    (next : IsEntryWord L v r entry index word) where
  pub keeps_write_log : entry < v.sizes.log → index < 32 → Keeps L F v (op.WriteLog entry index word)
  keeps_write_log room inside words views id n h at _ = writes_log L F v words views id entry index word at h
      (subst (λ (x : Role). IsEntryWord L v x entry index word) (is_role L F v.sizes words views id v at h r next.has) next) room inside
