-- A load of a log word keeps the rule: the view's log may grow by an entry of the log.
use Rattle.std.proofs.Common.{◌≡◌, ◌≢◌, ℕ, zero, suc, ◌+◌, ◌<◌, List, [], ◌∷◌, ◌++◌, length, length-append, inl, inr, slice_index, set, eqb, sym, refl, ap, ◌∙◌}
use Rattle.std.proofs.Common.{subst, arith}
use Rattle.std.proofs.lemmas.Bool.{eqb-true, ltb-true, cases_lt}
use Rattle.std.proofs.lemmas.Bool.Decides.{eqb_tells}
use Rattle.std.proofs.lemmas.List.{ext_get_or}
use Rattle.std.proofs.Math.ListN.{get_or-append}
use Rattle.std.proofs.Math.Seq.{get_or-append_seam}
use mathlib.Core.Option as maybe
use mathlib.Core.Bool.{cond}
use lib.ListN.{get_elem?}
use Rattle.std.specs.Prelude.{Some, None, Option, Bool, true, false}
use Rattle.pin_rule.specs.declared.sizes.Sizes.{Sizes}
use Rattle.pin_rule.specs.declared.content.Entry.{Entry}
use Rattle.pin_rule.specs.declared.view.View.{View}
use Rattle.pin_rule.specs.declared.view.Pin.{Pin}
use Rattle.pin_rule.specs.declared.view.Role.{Role}
use Rattle.pin_rule.specs.declared.view.Step.{Step}
use Rattle.pin_rule.specs.declared.ops.Op.TheVariants as op
use Rattle.pin_rule.specs.Layout.{log_word, logged}
use Rattle.pin_rule.specs.Views.{now}
use Rattle.pin_rule.specs.PartCurrent.{KnowsLog}
use Rattle.pin_rule.specs.PartLive.{pins_on, pins_of}
use Rattle.pin_rule.specs.PartFacts.{Knows, KnowsWhole}
use Rattle.pin_rule.specs.Lawful.{Lawful}
use Rattle.pin_rule.specs.Steps.{noted, loaded_log, is_below, is_next, with_word, after_load_log}
use Rattle.pin_rule.specs.Keeps.{Keeps}
use Rattle.pin_rule.proofs.Bools.{no_bool, true_false, both_true}
use Rattle.pin_rule.proofs.Lists.{total_alike}
use Rattle.pin_rule.proofs.Frames.{set_same}
use Rattle.pin_rule.proofs.Seats.{IsAlike, each_set, owned_before, owned_after, claims_by}
use Rattle.pin_rule.proofs.Versions.{live_version, editor_log}
use Rattle.pin_rule.proofs.Settling.{builds, right_on}

pub at_end : {A : Type 0} (l rest : List A) (a : A) → get_elem? (l ++ rest) (length l) ≡ maybe.some a → (more : List A) × (l ++ rest ≡ (l ++ a ∷ []) ++ more)
at_end [] [] a e = absurd (maybe.some-ne-none a (sym e))
at_end [] (x ∷ xs) a e = (xs, ap (λ y. y ∷ xs) (maybe.some-injective x a e))
at_end (x ∷ xs) rest a e = let r = at_end xs rest a e in (r.0, ap (λ l. x ∷ l) r.1)

pub has_at : {A : Type 0} (l : List A) (i : ℕ) → i < length l → (a : A) × (get_elem? l i ≡ maybe.some a)
has_at [] i h = absurd (omega arith)
has_at (x ∷ xs) zero h = (x, refl)
has_at (x ∷ xs) (suc i) h = has_at xs i (omega arith)

-- the pinned version has the entry
pinned_above : (entry : ℕ) (o : Option Pin) → is_below entry o ≡ true → (p : Pin) × (o ≡ Some p) × (entry < p.version)
pinned_above entry None e = absurd (no_bool e)
pinned_above entry (Some p) e = (p, refl, ltb-true entry p.version e)

module _ (L : List Entry → Type 0) (F : List Entry → List ℕ → Type 0) (z : Sizes) (words : List ℕ) (views : List View) (id : ℕ) (v : View)
    (at : get_elem? views id ≡ maybe.some v) (h : Lawful L F z words views) where
  -- a view with a longer beginning of the log, and else as it was
  abbrev with_log : List Entry → List ℕ → Step → View
  with_log log ws s = record v { log = log; log_words = ws; steps = v.steps ++ s ∷ [] }

  logs_more : (log : List Entry) (ws : List ℕ) (s : Step) → ((r : Role) → v.role ≡ Some r → log ≡ v.log) → KnowsLog h.log (with_log log ws s)
      → Lawful L F z words (set views id (with_log log ws s))
  logs_more log ws s same_log knows = let w = with_log log ws s in let alike : IsAlike v w = record { sizes = refl; share = refl; role = refl } in
      builds L F z words words views id v w at h refl alike (right_on v w alike refl refl (h.shares.rightful id v at)) h.taken same_log h.current knows
      (h.pinned id v at)
      (record {
        counted = λ l t k. let c = h.pins.counted l t k in let a = total_alike (λ (u : View). pins_on l.version u.pinned) views id v w at refl in omega arith;
        from_base = h.pins.from_base;
        released = h.pins.released;
      })
      (let b = h.budget in let a = total_alike pins_of views id v w at refl in omega arith)
      (claims_by z words h.role views (set views id w) (owned_before views id v w at refl) (owned_after views id v w at refl) h.claims)
      h.pages h.carried (each_set views id v w at (Knows z words h.role) (h.facts id v at) h.facts) (each_set views id v w at (KnowsWhole z words h.role)
      (h.known id v at) h.known)

  module _ (entry index n : ℕ) (read : logged z words entry index ≡ n) (s : Step) where
    module _ (next : is_next v entry index ≡ true) where
      above : (p : Pin) × (v.pinned ≡ Some p) × (entry < p.version)
      above = pinned_above entry v.pinned (both_true (is_below entry v.pinned) _ next).0

      is_now : entry ≡ now v
      is_now = eqb-true entry (now v) (both_true (eqb entry (now v)) _ (both_true (is_below entry v.pinned) _ next).1).0

      is_index : index ≡ length v.log_words
      is_index = eqb-true index (length v.log_words) (both_true (eqb entry (now v)) _ (both_true (is_below entry v.pinned) _ next).1).1

      inside : now v < length h.log
      inside = let a = above in let k = h.pinned id v at a.0 a.1 in let top = live_version z h.role h.live k.0 k.1 in let same = k.2 in let lt = a.2 in
          let e = is_now in let long = h.current.version in omega arith

      -- the editor has the whole log, so it has no next entry
      no_role : (r : Role) → v.role ≡ Some r → ⊥
      no_role r e = let i = inside in let k = editor_log L F z words views id v at h r e in omega arith

      the_entry : (e : Entry) × (get_elem? h.log (now v) ≡ maybe.some e)
      the_entry = has_at h.log (now v) inside

      abbrev ws : List ℕ
      ws = v.log_words ++ n ∷ []

      long : length (v.log_words ++ n ∷ []) ≡ length v.log_words + 1
      long = length-append v.log_words (n ∷ [])

      -- the words loaded so far are those of the entry
      words_are : (i : ℕ) → i < length (v.log_words ++ n ∷ []) → slice_index the_entry.0.words i ≡ slice_index (v.log_words ++ n ∷ []) i
      words_are i lt = let my = h.logs id v at in let m : ℕ = length v.log_words in elim (cases_lt i m) [
        | inl below ↦ let k = my.words i below in ap (λ (e : Entry). slice_index e.words i) (maybe.some-injective the_entry.0 k.0 (sym the_entry.1 ∙ k.1)) ∙ k.2
            ∙ sym (get_or-append v.log_words (n ∷ []) 0 i below)
        | inr above_ ↦ let count = long in let same : i ≡ m = omega arith in let few = my.few in
            ap (slice_index the_entry.0.words) same ∙ sym (h.current.log_is (now v) m the_entry.0 the_entry.1 few) ∙ ap (λ (t : ℕ × ℕ). logged z words t.0 t.1)
            (λ d. (sym is_now d, sym is_index d)) ∙ read
            ∙ sym (get_or-append_seam v.log_words n [] 0) ∙ ap (slice_index (v.log_words ++ n ∷ [])) (sym same)
      ]

      part : length (v.log_words ++ n ∷ []) ≢ 32 → Lawful L F z words (set views id (with_log v.log (v.log_words ++ n ∷ []) s))
      part not_all = let my = h.logs id v at in let few = my.few in let count = long in
          logs_more v.log (v.log_words ++ n ∷ []) s (λ _ _. refl) (record {
            prefix = my.prefix;
            few = omega arith;
            words =
                λ i lt. (the_entry.0, the_entry.1, words_are i lt);
          })

      all : length (v.log_words ++ n ∷ []) ≡ 32 → Lawful L F z words (set views id (with_log (v.log ++ record { words = v.log_words ++ n ∷ [] } ∷ []) [] s))
      all is_all = let my = h.logs id v at in let e = the_entry in let wide = h.current.log_wide (now v) e.0 e.1 in
          let same : e.0.words ≡ v.log_words ++ n ∷ [] = ext_get_or 0 e.0.words (v.log_words ++ n ∷ []) (wide ∙ sym is_all)
          (λ i lt. words_are i (omega arith)) in
          let grown = at_end v.log my.prefix.0 e.0 (ap (λ (l : List Entry). get_elem? l (now v)) (sym my.prefix.1) ∙ e.1) in
          logs_more (v.log ++ record { words = v.log_words ++ n ∷ [] } ∷ []) [] s (λ r is. absurd (no_role r is))
          (record {
            prefix = (grown.0, my.prefix.1 ∙ grown.1 ∙ (λ i. (v.log ++ record { words = same i } ∷ []) ++ grown.0));
            few = omega arith;
            words =
                λ i lt. absurd (omega arith);
          })

      whole_or : (b : Bool) → (b ≡ true → length (v.log_words ++ n ∷ []) ≡ 32) → (b ≡ false → length (v.log_words ++ n ∷ []) ≢ 32)
          → Lawful L F z words (set views id (noted (cond b (record v {
            log = v.log ++ record { words = v.log_words ++ n ∷ [] } ∷ [];
            log_words =
                [];
          }) (record v { log_words = v.log_words ++ n ∷ [] })) s))
      whole_or true done more = all (done refl)
      whole_or false done more = part (more refl)

    next_or : (b : Bool) → (b ≡ true → is_next v entry index ≡ true) → Lawful L F z words (set views id (noted (with_word b v n) s))
    next_or false is = let my = h.logs id v at in logs_more v.log v.log_words s (λ _ _. refl) (record { prefix = my.prefix; few = my.few; words = my.words })
    next_or true is = let m : ℕ = length (v.log_words ++ n ∷ []) in elim (eqb_tells m 32) [
      | inl t ↦ whole_or (is refl) (eqb m 32) (λ _. t.1) (λ f. absurd (true_false (sym t.0 ∙ f)))
      | inr t ↦ whole_or (is refl) (eqb m 32) (λ f. absurd (true_false (sym f ∙ t.0))) (λ _. t.1)
    ]

module _ (L : List Entry → Type 0) (F : List Entry → List ℕ → Type 0) (v : View) where
  pub keeps_load_log : (entry index : ℕ) → Keeps L F v (op.LoadLog entry index)
  keeps_load_log entry index words views id n h at e = let z = v.sizes in let i = log_word z entry index in let w = after_load_log v entry index n in
      subst (λ (ws : List ℕ). Lawful L F z ws (set views id w)) (sym (ap (set words i) (sym e) ∙ set_same words i))
      (next_or L F z words views id v at h entry index n e (loaded_log z entry index n) (is_next v entry index) (λ b. b))
