-- The classes of an expression are those of its text.
use Rattle.std.proofs.Common.{◌≡◌, ℕ, ◌+◌, ◌<◌, ◌≤◌, false, if◌then◌else◌, List, [], ◌∷◌, ◌++◌, refl, sym, ap, ◌∙◌, subst, append_assoc, arith, inl, inr}
use Rattle.std.proofs.Common.{count_by}
use Rattle.std.proofs.lemmas.Bool.{cases_lt}
use Rattle.regex_ast.specs.Expressions.{Expression, class_count}
use Rattle.regex_ast.specs.Spelling.{Cut, pieces_of, SpellsChoice, SpellsBranch, SpellsFactor, one_branch, more_branches, one_factor, more_factors, one_class}
use Rattle.regex_ast.specs.Spelling.{group, starred, repeated, optional}
use Rattle.regex_ast.specs.Refusals.{is_class, IsOneTooMany, NoPlace, SpellsWithinLimits}
use Rattle.regex_ast.specs.declared.lexer.Piece.{Piece}
use Rattle.regex_ast.specs.declared.lexer.Piece.TheVariants.{OneOf, Open, Close, Bar, StarSign, PlusSign, MaybeSign}
use Rattle.regex_ast.proofs.ReadLemmas.{count-snoc}

-- how many pieces are classes
abbrev classes_in : List Piece → ℕ
classes_in [] = 0
classes_in (OneOf set ∷ ps) = 1 + classes_in ps
classes_in (Open ∷ ps) = classes_in ps
classes_in (Close ∷ ps) = classes_in ps
classes_in (Bar ∷ ps) = classes_in ps
classes_in (StarSign ∷ ps) = classes_in ps
classes_in (PlusSign ∷ ps) = classes_in ps
classes_in (MaybeSign ∷ ps) = classes_in ps

classes_in-append : (ps qs : List Piece) → classes_in (ps ++ qs) ≡ classes_in ps + classes_in qs
classes_in-append [] qs = omega arith
classes_in-append (OneOf set ∷ ps) qs = omega (arith, classes_in-append ps qs)
classes_in-append (Open ∷ ps) qs = classes_in-append ps qs
classes_in-append (Close ∷ ps) qs = classes_in-append ps qs
classes_in-append (Bar ∷ ps) qs = classes_in-append ps qs
classes_in-append (StarSign ∷ ps) qs = classes_in-append ps qs
classes_in-append (PlusSign ∷ ps) qs = classes_in-append ps qs
classes_in-append (MaybeSign ∷ ps) qs = classes_in-append ps qs

mutual
  factor_count : {ps : List Piece} {e : Expression} → SpellsFactor ps e → class_count e ≡ classes_in ps
  factor_count one_class = omega arith
  factor_count (group {ps} {e} h) = omega (arith, choice_count h, classes_in-append ps (Close ∷ []))
  factor_count (starred {ps} {e} h) = omega (arith, factor_count h, classes_in-append ps (StarSign ∷ []))
  factor_count (repeated {ps} {e} h) = omega (arith, factor_count h, classes_in-append ps (PlusSign ∷ []))
  factor_count (optional {ps} {e} h) = omega (arith, factor_count h, classes_in-append ps (MaybeSign ∷ []))

  branch_count : {ps : List Piece} {e : Expression} → SpellsBranch ps e → class_count e ≡ classes_in ps
  branch_count (one_factor h) = factor_count h
  branch_count (more_factors {ps} {qs} {a} {b} h k) = omega (arith, branch_count h, factor_count k, classes_in-append ps qs)

  choice_count : {ps : List Piece} {e : Expression} → SpellsChoice ps e → class_count e ≡ classes_in ps
  choice_count (one_branch h) = branch_count h
  choice_count (more_branches {ps} {qs} {a} {b} h k) = omega (arith, choice_count h, branch_count k, classes_in-append ps (Bar ∷ qs))

others_few : (cuts done : List Cut) (c : Cut) → is_class c ≡ false → count_by is_class done ≤ 200 → NoPlace IsOneTooMany (done ++ (c ∷ cuts))
    → (count_by is_class (done ++ c ∷ []) ≤ 200 → NoPlace IsOneTooMany ((done ++ c ∷ []) ++ cuts) → count_by is_class (done ++ c ∷ []) + classes_in
    (pieces_of cuts) ≤ 200)
    → count_by is_class done + classes_in (pieces_of cuts) ≤ 200
others_few cuts done c other few none rest =
    let same : count_by is_class (done ++ c ∷ []) ≡ count_by is_class done + 0 = count-snoc is_class done c ∙ ap
    (λ x. count_by is_class done + (if x then 1 else 0)) other in
    omega (arith, rest (omega arith) (subst (NoPlace IsOneTooMany) (sym (append_assoc done (c ∷ []) cuts)) none))

-- no class is one too many, so there are few
few_classes : (cuts done : List Cut) → count_by is_class done ≤ 200 → NoPlace IsOneTooMany (done ++ cuts)
    → count_by is_class done + classes_in (pieces_of cuts) ≤ 200
few_classes [] done few none = omega arith
few_classes ((t, OneOf set) ∷ cuts) done few none =
    let here : count_by is_class (done ++ (t, OneOf set) ∷ []) ≡ count_by is_class done + 1 = count-snoc is_class done (t, OneOf set) in
    let below : count_by is_class done < 200 =
    elim (cases_lt (count_by is_class done) 200) [ inl h ↦ h | inr h ↦ absurd (none done (t, OneOf set) cuts refl (refl, h)) ] in
    omega (
      arith,
      few_classes cuts (done ++ (t, OneOf set) ∷ []) (omega arith) (subst (NoPlace IsOneTooMany)
          (sym (append_assoc done ((t, OneOf set) ∷ []) cuts)) none),
    )
few_classes ((t, Open) ∷ cuts) done few none = others_few cuts done (t, Open) refl few none (few_classes cuts (done ++ (t, Open) ∷ []))
few_classes ((t, Close) ∷ cuts) done few none = others_few cuts done (t, Close) refl few none (few_classes cuts (done ++ (t, Close) ∷ []))
few_classes ((t, Bar) ∷ cuts) done few none = others_few cuts done (t, Bar) refl few none (few_classes cuts (done ++ (t, Bar) ∷ []))
few_classes ((t, StarSign) ∷ cuts) done few none = others_few cuts done (t, StarSign) refl few none (few_classes cuts (done ++ (t, StarSign) ∷ []))
few_classes ((t, PlusSign) ∷ cuts) done few none = others_few cuts done (t, PlusSign) refl few none (few_classes cuts (done ++ (t, PlusSign) ∷ []))
few_classes ((t, MaybeSign) ∷ cuts) done few none = others_few cuts done (t, MaybeSign) refl few none (few_classes cuts (done ++ (t, MaybeSign) ∷ []))

-- an expression within the limits has at most 200 classes
pub within_few : (text : List ℕ) (e : Expression) → SpellsWithinLimits text e → class_count e ≤ 200
within_few text e h = omega (arith, choice_count h.1.2, few_classes h.0 [] (omega arith) h.2.not_too_many)
