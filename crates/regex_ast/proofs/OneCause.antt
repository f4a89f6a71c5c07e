-- A text spells one expression within the limits, or has one cause why it does not.
use Rattle.std.proofs.Common.{◌≡◌, ℕ, ◌+◌, ◌<◌, ◌≤◌, zero, suc, Option, Some, None, Result, Ok, Err, List, [], ◌∷◌, ◌++◌, refl, sym, ap, ◌∙◌, subst}
use Rattle.std.proofs.Common.{append_assoc, arith, length, take, get_or, ◌⊎◌, inl, inr}
use Rattle.std.proofs.lemmas.Bool.{cases_lt}
use Rattle.regex_ast.specs.Expressions.{Expression}
use Rattle.regex_ast.specs.Spelling.{Cut, cuts_text, SpellsExpression}
use Rattle.regex_ast.specs.Refusals.{HasContinuation, IsBrokenAt, IsEmptyClass, IsTooDeep, IsOneTooMany, IsFirstPlace, SpellsWithinLimits, IsCause}
use Rattle.regex_ast.specs.Nests.{State, reading, nest_end, after_byte, after_bytes, first_state, judged, judged_if_whole, answer_of, StopsReading}
use Rattle.regex_ast.specs.declared.bad_regex.BadRegex.{BadRegex}
use Rattle.regex_ast.specs.declared.bad_regex.BadRegex.TheVariants.{Shape, EmptyClass, TooDeep, TooManyPositions, NoMemory}
use Rattle.regex_ast.specs.declared.breaches.Breaches.{Breaches}
use Rattle.regex_ast.specs.declared.lexer.Mode.TheVariants.{Between, Escaped, Opened, Inside}
use Rattle.regex_ast.proofs.ReadLemmas.{FoundAt, spelled_read, some_same, none_some, ok_err, err_same, mode_nest, no_place_found, only_answer, found_answer}
use Rattle.regex_ast.proofs.ReadLemmas.{refused_answer, stop_is_cause, stops_here, goes_on, take_whole}

-- a text spells one expression
pub one_expression : (text : List ℕ) (a b : Expression) → SpellsExpression text a → SpellsExpression text b → a ≡ b
one_expression text a b of_a of_b =
    let r = spelled_read text of_a.0 a of_a.1 in
    let s = spelled_read text of_b.0 b of_b.1 in
    some_same (sym r.4 ∙ ap nest_end (mode_nest (some_same (sym r.3 ∙ s.3))) ∙ s.4)

-- ---- one first place

-- two places in one list: the same, or one of them before the other
two_places : (front other after back : List Cut) (c d : Cut) → front ++ c ∷ after ≡ other ++ d ∷ back
    → (front ≡ other) ⊎ (((rest : List Cut) × (other ≡ front ++ c ∷ rest)) ⊎ ((rest : List Cut) × (front ≡ other ++ d ∷ rest)))
two_places [] [] after back c d e = inl refl
two_places [] (y ∷ other) after back c d e = let same : y ≡ c = cc in inr (inl (other, ap (λ x. x ∷ other) same))
two_places (x ∷ front) [] after back c d e = let same : x ≡ d = cc in inr (inr (front, ap (λ y. y ∷ front) same))
two_places (x ∷ front) (y ∷ other) after back c d e =
    let same : x ≡ y = cc in
    let rest : front ++ c ∷ after ≡ other ++ d ∷ back = cc in
    elim (two_places front other after back c d rest) [
      | inl is ↦ inl (ap (λ z. z ∷ front) same ∙ ap (λ z. y ∷ z) is)
      | inr (inl before) ↦ inr (inl (before.0, ap (λ z. z ∷ other) (sym same) ∙ ap (λ z. x ∷ z) before.1))
      | inr (inr behind) ↦ inr (inr (behind.0, ap (λ z. z ∷ front) same ∙ ap (λ z. y ∷ z) behind.1))
    ]

place_found : (Bad : List Cut → Cut → Type 0) (cuts : List Cut) (at : ℕ) (found : Option ℕ)
    → FoundAt Bad cuts found → IsFirstPlace Bad cuts at → found ≡ Some at
unfolding FoundAt
place_found Bad cuts at None none place = absurd (none place.0 place.1 place.2 place.3 place.4)
place_found Bad cuts at (Some other) first place =
    elim (two_places place.0 first.0 place.2 first.2 place.1 first.1 (sym place.3 ∙ first.3)) [
      | inl same ↦ ap Some (first.6 ∙ ap (λ cuts. length (cuts_text cuts)) (sym same) ∙ sym place.6)
      | inr (inl before) ↦ absurd (first.5 place.0 place.1 before.0 before.1 place.4)
      | inr (inr behind) ↦ absurd (place.5 first.0 first.1 behind.0 behind.1 first.4)
    ]

-- ---- the answer for a limit that is broken

-- reading the text comes to its end, and to this refusal
record Refuses (text : List ℕ) (cause : BadRegex) : Type 0 where
  state : State
  runs : after_bytes first_state 0 text ≡ Some state
  answer : answer_of state (length text) ≡ Err cause

-- a cause that is neither the text's shape nor memory
abbrev IsLimit : BadRegex → Type 0
IsLimit (Shape at) = ⊥
IsLimit (EmptyClass at) = Unit {0}
IsLimit (TooDeep at) = Unit {0}
IsLimit (TooManyPositions at) = Unit {0}
IsLimit NoMemory = ⊥

limit_refuses : (text : List ℕ) (cause : BadRegex) → IsLimit cause → IsCause text cause → Refuses text cause
limit_refuses text (Shape at) limit is = absurd limit
limit_refuses text (EmptyClass at) limit is =
    let r = spelled_read text is.0 is.1 is.2 in record {
      state = reading Between r.0 r.1 r.2;
      runs = r.3;
      answer = ap (λ o. judged_if_whole o r.1 (length text)) r.4
          ∙ ap (λ o. judged o r.1.deep r.1.many is.1) (place_found IsEmptyClass is.0 at r.1.empty r.5.empties is.3);
    }
limit_refuses text (TooDeep at) limit is =
    let r = spelled_read text is.0 is.1 is.2 in record {
      state = reading Between r.0 r.1 r.2;
      runs = r.3;
      answer = ap (λ o. judged_if_whole o r.1 (length text)) r.4
          ∙ ap (λ o. judged o r.1.deep r.1.many is.1) (no_place_found IsEmptyClass is.0 r.1.empty r.5.empties is.3.0)
          ∙ ap (λ o. judged None o r.1.many is.1) (place_found IsTooDeep is.0 at r.1.deep r.5.deeps is.3.1);
    }
limit_refuses text (TooManyPositions at) limit is =
    let r = spelled_read text is.0 is.1 is.2 in record {
      state = reading Between r.0 r.1 r.2;
      runs = r.3;
      answer = ap (λ o. judged_if_whole o r.1 (length text)) r.4
          ∙ ap (λ o. judged o r.1.deep r.1.many is.1) (no_place_found IsEmptyClass is.0 r.1.empty r.5.empties is.3.0)
          ∙ ap (λ o. judged None o r.1.many is.1) (no_place_found IsTooDeep is.0 r.1.deep r.5.deeps is.3.1)
          ∙ ap (λ o. judged None None o is.1) (place_found IsOneTooMany is.0 at r.1.many r.5.manies is.3.2);
    }
limit_refuses text NoMemory limit is = absurd limit

-- it spells an expression all the same
limit_spells : (text : List ℕ) (cause : BadRegex) → IsLimit cause → IsCause text cause → (e : Expression) × SpellsExpression text e
limit_spells text (Shape at) limit is = absurd limit
limit_spells text (EmptyClass at) limit is = (is.1, (is.0, is.2))
limit_spells text (TooDeep at) limit is = (is.1, (is.0, is.2))
limit_spells text (TooManyPositions at) limit is = (is.1, (is.0, is.2))
limit_spells text NoMemory limit is = absurd limit

same_answer : (text : List ℕ) (a b : BadRegex) → Refuses text a → Refuses text b → a ≡ b
same_answer text a b of_a of_b = err_same (sym of_a.answer ∙ ap (λ s. answer_of s (length text)) (some_same (sym of_a.runs ∙ of_b.runs)) ∙ of_b.answer)

-- ---- one shape

-- the longer prefix of a text begins with the shorter
take_longer : (n m : ℕ) (text : List ℕ) → n ≤ m → (rest : List ℕ) × (take m text ≡ take n text ++ rest)
take_longer zero m text le = (take m text, refl)
take_longer (suc n) zero text le = absurd (omega arith)
take_longer (suc n) (suc m) [] le = ([], refl)
take_longer (suc n) (suc m) (b ∷ text) le = let r = take_longer n m text (omega arith) in (r.0, ap (λ t. b ∷ t) r.1)

continues_before : (n m : ℕ) (text : List ℕ) → n ≤ m → HasContinuation (take m text) → HasContinuation (take n text)
continues_before n m text le h =
    let t = take_longer n m text le in
    (t.0 ++ h.0, h.1, subst (λ x. SpellsExpression x h.1) (ap (λ x. x ++ h.0) t.1 ∙ append_assoc (take n text) t.0 h.0) h.2)

no_earlier : (text : List ℕ) (a b : ℕ) → a < b → IsBrokenAt text a → IsBrokenAt text b → ⊥
no_earlier text a b before of_a of_b =
    let within : b ≤ length text = of_b.0 in
    of_a.2 (omega arith) (continues_before (a + 1) b text (omega arith) of_b.1)

one_shape : (text : List ℕ) (a b : ℕ) → IsBrokenAt text a → IsBrokenAt text b → a ≡ b
one_shape text a b of_a of_b = elim (cases_lt a b) [
  | inl before ↦ absurd (no_earlier text a b before of_a of_b)
  | inr not_before ↦ elim (cases_lt b a) [
    | inl behind ↦ absurd (no_earlier text b a behind of_b of_a)
    | inr not_behind ↦ omega arith
  ]
]

-- ---- one cause

kind_of : (cause : BadRegex) → IsLimit cause ⊎ (((at : ℕ) × (cause ≡ Shape at)) ⊎ (cause ≡ NoMemory))
kind_of (Shape at) = inr (inl (at, refl))
kind_of (EmptyClass at) = inl tt
kind_of (TooDeep at) = inl tt
kind_of (TooManyPositions at) = inl tt
kind_of NoMemory = inr (inr refl)

shape_or_limit : (text : List ℕ) (at : ℕ) (cause limit : BadRegex) → cause ≡ Shape at → IsLimit limit → IsCause text cause → IsCause text limit → ⊥
shape_or_limit text at cause limit shape is of_shape of_limit =
    let spelled = limit_spells text limit is of_limit in
    let broken : IsBrokenAt text at = subst (IsCause text) shape of_shape in
    broken.3 spelled.0 spelled.1

pub one_cause : (text : List ℕ) (a b : BadRegex) → ¬ (a ≡ NoMemory) → ¬ (b ≡ NoMemory) → IsCause text a → IsCause text b → a ≡ b
one_cause text a b told_a told_b of_a of_b = elim (kind_of a) [
  | inl limit ↦ elim (kind_of b) [
    | inl other ↦ same_answer text a b (limit_refuses text a limit of_a) (limit_refuses text b other of_b)
    | inr (inl shape) ↦ absurd (shape_or_limit text shape.0 b a shape.1 limit of_b of_a)
    | inr (inr memory) ↦ absurd (told_b memory)
  ]
  | inr (inl shape) ↦ elim (kind_of b) [
    | inl limit ↦ absurd (shape_or_limit text shape.0 a b shape.1 limit of_a of_b)
    | inr (inl other) ↦
        shape.1 ∙ ap Shape (one_shape text shape.0 other.0 (subst (IsCause text) shape.1 of_a) (subst (IsCause text) other.1 of_b)) ∙ sym other.1
    | inr (inr memory) ↦ absurd (told_b memory)
  ]
  | inr (inr memory) ↦ absurd (told_a memory)
]

-- what is spelled within the limits has no cause
pub no_cause : (text : List ℕ) (e : Expression) (cause : BadRegex) → SpellsWithinLimits text e → IsCause text cause → cause ≡ NoMemory
no_cause text e cause spelled is = elim (kind_of cause) [
  | inl limit ↦
      let refused = limit_refuses text cause limit is in
      absurd (ok_err (sym (only_answer text e refused.state (length text) spelled refused.runs) ∙ refused.answer))
  | inr (inl shape) ↦ let broken : IsBrokenAt text shape.0 = subst (IsCause text) shape.1 is in absurd (broken.3 e (spelled.0, spelled.1))
  | inr (inr memory) ↦ memory
]

-- ---- there is one

abbrev IsTold : BadRegex → Type 0
IsTold (Shape at) = Unit {0}
IsTold (EmptyClass at) = Unit {0}
IsTold (TooDeep at) = Unit {0}
IsTold (TooManyPositions at) = Unit {0}
IsTold NoMemory = ⊥

abbrev Tells : Result Expression BadRegex → Type 0
Tells (Ok e) = Unit {0}
Tells (Err cause) = IsTold cause

judged_tells : (empty deep many : Option ℕ) (e : Expression) → Tells (judged empty deep many e)
judged_tells (Some at) deep many e = tt
judged_tells None (Some at) many e = tt
judged_tells None None (Some at) e = tt
judged_tells None None None e = tt

whole_tells : (read : Option Expression) (f : Breaches) (end : ℕ) → Tells (judged_if_whole read f end)
whole_tells None f end = tt
whole_tells (Some e) f end = judged_tells f.empty f.deep f.many e

answer_tells : (s : State) (end : ℕ) → Tells (answer_of s end)
answer_tells (reading Between s f start) end = whole_tells (nest_end s) f end
answer_tells (reading Escaped s f start) end = tt
answer_tells (reading Opened s f start) end = tt
answer_tells (reading (Inside negated set place) s f start) end = tt

not_memory : (cause : BadRegex) → IsTold cause → ¬ (cause ≡ NoMemory)
not_memory cause is memory = subst IsTold memory is

abbrev pub HasCause : List ℕ → Type 0
HasCause text = (cause : BadRegex) × ¬ (cause ≡ NoMemory) × IsCause text cause

-- the first byte that may not stand in its place
step_stop : (text : List ℕ) (i : ℕ) (s : State) (o : Option State) → i < length text
    → after_bytes first_state 0 (take i text) ≡ Some s → after_byte s i (get_or text i 0) ≡ o
    → ((u : State) → after_bytes first_state 0 (take (i + 1) text) ≡ Some u → (at : ℕ) × StopsReading text (Shape at)) → (at : ℕ) × StopsReading text (Shape at)
step_stop text i s None within so_far next later = (i, stops_here text i s (Shape i) within so_far (refl, next))
step_stop text i s (Some u) within so_far next later = later u (goes_on text i s u within so_far next)

first_stop : (left i : ℕ) (text : List ℕ) (s : State) → i + left ≡ length text
    → after_bytes first_state 0 (take i text) ≡ Some s → after_bytes first_state 0 text ≡ None → (at : ℕ) × StopsReading text (Shape at)
first_stop zero i text s all so_far none =
    let end : i ≡ length text = omega arith in
    absurd (none_some (sym none ∙ ap (after_bytes first_state 0) (sym (take_whole text) ∙ ap (λ n. take n text) (sym end)) ∙ so_far))
first_stop (suc left) i text s all so_far none =
    step_stop text i s (after_byte s i (get_or text i 0)) (omega arith) so_far refl (λ u next. first_stop left (i + 1) text u (omega arith) next none)

by_answer : (text : List ℕ) (s : State) (answer : Result Expression BadRegex) → after_bytes first_state 0 text ≡ Some s → answer_of s (length text) ≡ answer
    → ((e : Expression) × SpellsWithinLimits text e) ⊎ HasCause text
by_answer text s (Ok e) runs is = inl (e, found_answer text s (length text) e runs is)
by_answer text s (Err cause) runs is = inr (cause, not_memory cause (subst Tells is (answer_tells s (length text))), refused_answer text s cause runs is)

by_state : (text : List ℕ) (o : Option State) → after_bytes first_state 0 text ≡ o → ((e : Expression) × SpellsWithinLimits text e) ⊎ HasCause text
by_state text None runs =
    let stop = first_stop (length text) 0 text first_state (omega arith) refl runs in
    inr (Shape stop.0, not_memory (Shape stop.0) tt, stop_is_cause text (Shape stop.0) stop.1)
by_state text (Some s) runs = by_answer text s (answer_of s (length text)) runs refl

pub spelled_or_cause : (text : List ℕ) → ((e : Expression) × SpellsWithinLimits text e) ⊎ HasCause text
spelled_or_cause text = by_state text (after_bytes first_state 0 text) refl
