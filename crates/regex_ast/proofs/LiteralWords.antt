-- A literal matches its own bytes, and nothing else.
use Rattle.std.proofs.Common.{◌≡◌, ℕ, ◌<◌, ◌↔◌, suc, ◌==◌, List, [], ◌∷◌, ◌++◌, map, length, refl, sym, ap, ◌∙◌, subst, append_assoc, length-append}
use Rattle.std.proofs.Common.{slice_index_or, arith}
use Rattle.std.proofs.lemmas.Bool.{eqb-true, eq-eqb}
use Rattle.std.specs.List.{AllByRecursion, AllZip}
use Rattle.regex_ast.specs.Bytes.{has, only, numbers_from}
use Rattle.regex_ast.specs.Matching.{IsMarkedLiteral, HoldBytes}
use Rattle.regex_ast.proofs.MarkLemmas.{Holds, at_length}
use Rattle.regex_ast.proofs.TableLemmas.{has-only}

-- the classes of the bytes behind these, and their numbers
abbrev Fits : List (List ℕ) → List ℕ → List ℕ → Type 0
Fits front bytes word = AllZip (Holds (front ++ map only bytes)) (numbers_from (length front) (length bytes)) word

one_longer : (front : List (List ℕ)) (set : List ℕ) → length (front ++ set ∷ []) ≡ suc (length front)
one_longer front set = omega (arith, length-append front (set ∷ []))

own_byte : (front : List (List ℕ)) (byte b : ℕ) (back : List (List ℕ)) → byte < 256
    → has (slice_index_or (front ++ only byte ∷ back) (length front) []) b ≡ (b == byte)
own_byte front byte b back small = ap (λ set. has set b) (at_length front (only byte) back) ∙ has-only byte b small

-- the numbers behind the first
abbrev Later : List (List ℕ) → ℕ → List ℕ → List ℕ → Type 0
Later front byte bytes word = AllZip (Holds (front ++ only byte ∷ map only bytes)) (numbers_from (suc (length front)) (length bytes)) word

later : (front : List (List ℕ)) (byte : ℕ) (bytes word : List ℕ) → Fits (front ++ only byte ∷ []) bytes word → Later front byte bytes word
later front byte bytes word h =
    subst (λ cs. AllZip (Holds cs) (numbers_from (suc (length front)) (length bytes)) word) (append_assoc front (only byte ∷ []) (map only bytes))
    (subst (λ n. AllZip (Holds ((front ++ only byte ∷ []) ++ map only bytes)) (numbers_from n (length bytes)) word) (one_longer front (only byte)) h)

earlier : (front : List (List ℕ)) (byte : ℕ) (bytes word : List ℕ) → Later front byte bytes word → Fits (front ++ only byte ∷ []) bytes word
earlier front byte bytes word h =
    subst (λ n. AllZip (Holds ((front ++ only byte ∷ []) ++ map only bytes)) (numbers_from n (length bytes)) word) (sym (one_longer front (only byte)))
    (subst (λ cs. AllZip (Holds cs) (numbers_from (suc (length front)) (length bytes)) word) (sym (append_assoc front (only byte ∷ []) (map only bytes))) h)

abbrev AreSmall : List ℕ → Type 0
AreSmall bytes = AllByRecursion (λ byte. byte < 256) bytes

own_word : (bytes : List ℕ) (front : List (List ℕ)) → AreSmall bytes → Fits front bytes bytes
own_word [] front small = tt
own_word (byte ∷ bytes) front small =
    (own_byte front byte byte (map only bytes) small.0 ∙ eq-eqb byte byte refl, later front byte bytes bytes (own_word bytes (front ++ only byte ∷ []) small.1))

no_other : (bytes word : List ℕ) (front : List (List ℕ)) → AreSmall bytes → Fits front bytes word → word ≡ bytes
no_other [] [] front small h = refl
no_other [] (b ∷ word) front small h = absurd h
no_other (byte ∷ bytes) [] front small h = absurd h
no_other (byte ∷ bytes) (b ∷ word) front small h =
    let same : b ≡ byte = eqb-true b byte (sym (own_byte front byte b (map only bytes) small.0) ∙ h.0) in
    let rest = no_other bytes word (front ++ only byte ∷ []) small.1 (earlier front byte bytes word h.1) in
    ap (λ x. x ∷ word) same ∙ ap (λ x. byte ∷ x) rest

pub literal_matches : (bytes word : List ℕ) → AreSmall bytes
    → ((marked : List ℕ) × IsMarkedLiteral bytes marked × HoldBytes (map only bytes) marked word) ↔ (word ≡ bytes)
literal_matches bytes word small = (
  (λ h. no_other bytes word [] small (subst (λ marked. AllZip (Holds (map only bytes)) marked word) h.1 h.2)),
  λ is. (
    numbers_from 0 (length bytes),
    refl,
    subst (λ w. AllZip (Holds (map only bytes)) (numbers_from 0 (length bytes)) w) (sym is) (own_word bytes [] small),
  ),
)
