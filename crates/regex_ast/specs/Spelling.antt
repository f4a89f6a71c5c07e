-- Which text spells which expression.
use Rattle.std.specs.Prelude.{ℕ, ◌≡◌, Bool, false, ◌||◌, ◌&&◌, ◌==◌, nat_le, not, if◌then◌else◌, Option, Some, None, List, [], ◌∷◌, ◌++◌, map}
use Rattle.std.specs.List.{concat, AllByRecursion}
use Rattle.regex_ast.specs.Bytes.{has, only, with_range, complement}
use Rattle.regex_ast.specs.Expressions.{Expression, class, sequence, choice, star, plus, maybe}
use Rattle.regex_ast.specs.declared.lexer.Piece.{Piece}
use Rattle.regex_ast.specs.declared.lexer.Piece.TheVariants.{OneOf, Open, Close, Bar, StarSign, PlusSign, MaybeSign}

-- outside a class: \ [ ] ( ) | * + ? .
abbrev pub is_special : ℕ → Bool
is_special b = has (92 ∷ 91 ∷ 93 ∷ 40 ∷ 41 ∷ 124 ∷ 42 ∷ 43 ∷ 63 ∷ 46 ∷ []) b

-- inside a class: \ [ ] ^ -
abbrev pub is_special_in_class : ℕ → Bool
is_special_in_class b = has (92 ∷ 91 ∷ 93 ∷ 94 ∷ 45 ∷ []) b

abbrev pub is_letter_or_digit : ℕ → Bool
is_letter_or_digit b = (nat_le 48 b && nat_le b 57) || ((nat_le 65 b && nat_le b 90) || (nat_le 97 b && nat_le b 122))

-- what a byte stands for after a backslash: n for a line feed, t for a tab, and each printable byte but letters and digits for itself
unfoldable pub escape_of : ℕ → Option ℕ
escape_of b =
    if b == 110 then Some 10
    else if b == 116 then Some 9
    else if (nat_le 32 b && nat_le b 126) && not (is_letter_or_digit b) then Some b
    else None

-- the text of one byte of a class
pub data IsClassByte : List ℕ → ℕ → Type 0 where
  plain : {b : ℕ} → is_special_in_class b ≡ false → IsClassByte (b ∷ []) b
  escaped : {e b : ℕ} → escape_of e ≡ Some b → IsClassByte (92 ∷ e ∷ []) b

-- the text of a member of a class, with its lowest byte and its highest: one byte, or two with a dash between them
pub data IsMember : List ℕ → ℕ → ℕ → Type 0 where
  single : {t : List ℕ} {b : ℕ} → IsClassByte t b → IsMember t b b
  range : {t u : List ℕ} {low high : ℕ} → IsClassByte t low → IsClassByte u high → IsMember (t ++ 45 ∷ u) low high

-- the text of any number of members, with their bytes
pub data AreMembers : List ℕ → List ℕ → Type 0 where
  no_member : AreMembers [] []
  one_more : {t u set : List ℕ} {low high : ℕ} → AreMembers t set → IsMember u low high → AreMembers (t ++ u) (with_range set low high)

-- the text of a piece
pub data IsPiece : List ℕ → Piece → Type 0 where
  atom : {b : ℕ} → is_special b ≡ false → IsPiece (b ∷ []) (OneOf (only b))
  escape : {e b : ℕ} → escape_of e ≡ Some b → IsPiece (92 ∷ e ∷ []) (OneOf (only b))
  dot : IsPiece (46 ∷ []) (OneOf (complement (only 10)))
  members : {t set : List ℕ} → AreMembers t set → IsPiece (91 ∷ t ++ 93 ∷ []) (OneOf set)
  others : {t set : List ℕ} → AreMembers t set → IsPiece (91 ∷ 94 ∷ t ++ 93 ∷ []) (OneOf (complement set))
  opening : IsPiece (40 ∷ []) Open
  closing : IsPiece (41 ∷ []) Close
  bar : IsPiece (124 ∷ []) Bar
  star_sign : IsPiece (42 ∷ []) StarSign
  plus_sign : IsPiece (43 ∷ []) PlusSign
  maybe_sign : IsPiece (63 ∷ []) MaybeSign

mutual
  -- branches parted by bars, grouped to the left
  pub data SpellsChoice : List Piece → Expression → Type 0 where
    one_branch : {ps : List Piece} {e : Expression} → SpellsBranch ps e → SpellsChoice ps e
    more_branches : {ps qs : List Piece} {a b : Expression} → SpellsChoice ps a → SpellsBranch qs b → SpellsChoice (ps ++ Bar ∷ qs) (choice a b)

  -- factors in a row, grouped to the left
  pub data SpellsBranch : List Piece → Expression → Type 0 where
    one_factor : {ps : List Piece} {e : Expression} → SpellsFactor ps e → SpellsBranch ps e
    more_factors : {ps qs : List Piece} {a b : Expression} → SpellsBranch ps a → SpellsFactor qs b → SpellsBranch (ps ++ qs) (sequence a b)

  -- an atom, a class, a dot or a group, and the signs after it
  pub data SpellsFactor : List Piece → Expression → Type 0 where
    one_class : {set : List ℕ} → SpellsFactor (OneOf set ∷ []) (class set)
    group : {ps : List Piece} {e : Expression} → SpellsChoice ps e → SpellsFactor (Open ∷ ps ++ Close ∷ []) e
    starred : {ps : List Piece} {e : Expression} → SpellsFactor ps e → SpellsFactor (ps ++ StarSign ∷ []) (star e)
    repeated : {ps : List Piece} {e : Expression} → SpellsFactor ps e → SpellsFactor (ps ++ PlusSign ∷ []) (plus e)
    optional : {ps : List Piece} {e : Expression} → SpellsFactor ps e → SpellsFactor (ps ++ MaybeSign ∷ []) (maybe e)

-- a piece with its text
abbrev pub Cut : Type 0
Cut = List ℕ × Piece

abbrev pub cuts_text : List Cut → List ℕ
cuts_text cuts = concat (map (λ c. c.0) cuts)

abbrev pub pieces_of : List Cut → List Piece
pieces_of cuts = map (λ c. c.1) cuts

-- each is the text of its piece
abbrev pub AreCutTexts : List Cut → Type 0
AreCutTexts cuts = AllByRecursion (λ c. IsPiece c.0 c.1) cuts

-- the text, in these cuts, spells the expression
abbrev pub SpellsInCuts : List ℕ → List Cut → Expression → Type 0
SpellsInCuts text cuts e = (text ≡ cuts_text cuts) × AreCutTexts cuts × SpellsChoice (pieces_of cuts) e

-- the text spells the expression, whatever the limits
abbrev pub SpellsExpression : List ℕ → Expression → Type 0
SpellsExpression text e = (cuts : List Cut) × SpellsInCuts text cuts e
