-- From the condition of a step to what the table asks of the operation.
use Rattle.std.proofs.Common.{◌≡◌, ◌≢◌, ℕ, zero, suc, List, [], ◌∷◌, ◌++◌, length, slice_index, set, eqb, ne_eqb, sym, subst, refl, ap, ◌∙◌, arith}
use mathlib.Core.Option as maybe
use prog.Atomic.{either}
use mathlib.Core.Bool.{cond}
use Rattle.std.specs.Prelude.{Bool, true, false}
use lib.ListN.{get_elem?}
use Rattle.atomic_table.specs.Table.{Me, Allows, keeps}
use Rattle.pin_rule.specs.declared.sizes.Sizes.{Sizes}
use Rattle.pin_rule.specs.declared.content.Entry.{Entry}
use Rattle.pin_rule.specs.declared.view.View.{View}
use Rattle.pin_rule.specs.declared.ops.Op.{Op}
use Rattle.pin_rule.specs.declared.ops.Op.TheVariants as op
use Rattle.pin_rule.specs.Ops.{word_of, IsIn, does, exchanged}
use Rattle.pin_rule.specs.Steps.{after, is_next, with_word}
use Rattle.pin_rule.specs.Told.{Tells, Meets}
use Rattle.pin_rule.specs.Lawful.{Lawful}
use Rattle.pin_rule.specs.Keeps.{Keeps, Alike, law_of}
use Rattle.pin_rule.proofs.Seats.{here}
use Rattle.pin_rule.proofs.Telling.{tells, meets}

words_alike : (b : Bool) (v : View) (ws : List ℕ) → Alike v (cond b (record v {
  log = v.log ++ record { words = ws } ∷ [];
  log_words =
      [];
}) (record v { log_words = ws }))
words_alike true v ws = (refl, refl)
words_alike false v ws = (refl, refl)

word_alike : (b : Bool) (v : View) (n : ℕ) → Alike v (with_word b v n)
word_alike false v n = (refl, refl)
word_alike true v n = words_alike (eqb (length (v.log_words ++ n ∷ [])) 32) v (v.log_words ++ n ∷ [])

-- no operation on a word changes the sizes or the share
alike : (v : View) (o : Op) (n : ℕ) → Alike v (after v o n)
alike v (op.LoadPlace page place) n = (refl, refl)
alike v (op.LoadRow row index) n = (refl, refl)
alike v (op.Claim row) n = (refl, refl)
alike v (op.WriteRow row index word) n = (refl, refl)
alike v (op.Publish page place row) n = (refl, refl)
alike v (op.GiveBack row) n = (refl, refl)
alike v op.Pin n = (refl, refl)
alike v (op.Unpin page) n = (refl, refl)
alike v (op.LoadLog entry index) n = let a = word_alike (is_next v entry index) v n in (a.0, a.1)
alike v (op.WriteLog entry index word) n = (refl, refl)
alike v (op.WritePlace page place word) n = (refl, refl)
alike v (op.SwapCurrent version page) n = (refl, refl)
alike v (op.LoadRelease page) n = (refl, refl)
alike v (op.FreeRow row) n = (refl, refl)

pub exchange_is : (new n : ℕ) → exchanged new n ≡ either (eqb n 0) new n
exchange_is new zero = refl
exchange_is new (suc n) = sym (ap (λ b. either b new (suc n)) (ne_eqb (suc n) 0 (λ x. omega arith)))

module _ (L : List Entry → Type 0) (F : List Entry → List ℕ → Type 0) (key : Sizes) (slots id : ℕ) (me : Me (Unit {0}) View) (i : ℕ) (f : ℕ → ℕ) (o : Op)
    (same : key ≡ me.0.sizes) (at_word : i ≡ word_of me.0.sizes o) (does_it : (n : ℕ) → does o n ≡ f n) (k : Keeps L F me.0 o) where
  abbrev pub Read : ℕ → Me (Unit {0}) View → Type 0
  Read n w = (w.0 ≡ after me.0 o n) × (w.1 ≡ me.1) × Tells L F w.0 × Meets me.0 o n

  kept : (words : List ℕ) (views : List View) → Lawful L F me.0.sizes words views → get_elem? views id ≡ maybe.some me.0
      → Lawful L F me.0.sizes (set words (word_of me.0.sizes o) (f (slice_index words (word_of me.0.sizes o))))
      (set views id (after me.0 o (slice_index words (word_of me.0.sizes o))))
  kept words views h at = let n = slice_index words (word_of me.0.sizes o) in
      subst (λ (x : ℕ). Lawful L F me.0.sizes (set words (word_of me.0.sizes o) x) (set views id (after me.0 o n))) (does_it n) (k words views id n h at refl)

  pub reads : me.0.share ≢ 0 → IsIn me.0.sizes o → Allows (law_of L F key) slots id me i f Read
  reads some inside = subst (λ (y : Sizes). Allows (law_of L F y) slots id me i f Read) (sym same)
      (subst (λ (j : ℕ). Allows (law_of L F me.0.sizes) slots id me j f Read) (sym at_word)
      (λ s h len at fit. let n = slice_index s.words (word_of me.0.sizes o) in let w = after me.0 o n in let a = alike me.0 o n in let h' =
      kept s.words s.views h at in (
        w,
        keeps,
        tt,
        h',
        (
          refl,
          refl,
          tells L F me.0.sizes _ _ id w (here s.views id me.0 w at) h' (λ e. some (sym a.1 ∙ e)),
          meets L F me.0 s.words s.views id at h o inside,
        ),
      )))

  abbrev pub Stored : View → Me (Unit {0}) View → Type 0
  Stored v w = (w.0 ≡ v) × (w.1 ≡ me.1)

  pub stores : (new : ℕ) → ((n m : ℕ) → after me.0 o n ≡ after me.0 o m) → Allows (law_of L F key) slots id me i f (λ _. Stored (after me.0 o new))
  stores new same_after = subst (λ (y : Sizes). Allows (law_of L F y) slots id me i f (λ _. Stored (after me.0 o new))) (sym same)
      (subst (λ (j : ℕ). Allows (law_of L F me.0.sizes) slots id me j f (λ _. Stored (after me.0 o new))) (sym at_word)
      (λ s h len at fit. let n = slice_index s.words (word_of me.0.sizes o) in (
        after me.0 o n,
        keeps,
        tt,
        kept s.words s.views h at,
        (same_after n new, refl),
      )))
