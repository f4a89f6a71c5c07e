-- The stack of the reader holds what the pieces spell.
use Rattle.std.proofs.Common.{◌≡◌, ℕ, Option, Some, None, option_and_then, List, [], ◌∷◌, ◌++◌, refl, sym, ap, ◌∙◌, subst, append_assoc, append-nil}
use Rattle.regex_ast.specs.Expressions.{Expression, class, sequence, choice, star, plus, maybe}
use Rattle.regex_ast.specs.Spelling.{Cut, pieces_of, AreCutTexts, closing, SpellsChoice, SpellsBranch, SpellsFactor, one_branch, more_branches, one_factor}
use Rattle.regex_ast.specs.Spelling.{more_factors, one_class, group, starred, repeated, optional}
use Rattle.regex_ast.specs.Nests.{Layer, Nest, levels, joined, settled, chosen, level_whole, signed, put, nest_end}
use Rattle.regex_ast.specs.declared.lexer.Piece.{Piece}
use Rattle.regex_ast.specs.declared.lexer.Piece.TheVariants.{OneOf, Open, Close, Bar, StarSign, PlusSign, MaybeSign}

-- the stack after all these pieces, if each may stand in its place
abbrev pub puts : Nest → List Piece → Option Nest
puts s [] = Some s
puts s (p ∷ ps) = option_and_then (λ t. puts t ps) (put p s)

-- the stack before any piece
abbrev pub bottom : Nest
bottom = levels [] None None None

bind : (ps qs : List Piece) → ((t : Nest) → puts t (ps ++ qs) ≡ option_and_then (λ u. puts u qs) (puts t ps)) → (o : Option Nest)
    → option_and_then (λ t. puts t (ps ++ qs)) o ≡ option_and_then (λ u. puts u qs) (option_and_then (λ t. puts t ps) o)
bind ps qs rest None = refl
bind ps qs rest (Some t) = rest t

pub puts-append : (ps qs : List Piece) (s : Nest) → puts s (ps ++ qs) ≡ option_and_then (λ t. puts t qs) (puts s ps)
puts-append [] qs s = refl
puts-append (p ∷ ps) qs s = bind ps qs (puts-append ps qs) (put p s)

pub puts_then : (ps qs : List Piece) (s t : Nest) → puts s ps ≡ Some t → puts s (ps ++ qs) ≡ puts t qs
puts_then ps qs s t h = puts-append ps qs s ∙ ap (λ o. option_and_then (λ u. puts u qs) o) h

-- ---- what is spelled is put
mutual
  pub factor_put : {ps : List Piece} {e : Expression} → SpellsFactor ps e → (o : List Layer) (c b f : Option Expression)
      → puts (levels o c b f) ps ≡ Some (levels o c (settled b f) (Some e))
  factor_put one_class o c b f = refl
  factor_put (group {ps} {e} h) o c b f =
      let r = choice_put h ((c, settled b f) ∷ o) in
      puts_then ps (Close ∷ []) (levels ((c, settled b f) ∷ o) None None None) _ r.3 ∙ ap (λ x. Some (levels o c (settled b f) (Some x))) r.4
  factor_put (starred {ps} {e} h) o c b f = puts_then ps (StarSign ∷ []) (levels o c b f) _ (factor_put h o c b f)
  factor_put (repeated {ps} {e} h) o c b f = puts_then ps (PlusSign ∷ []) (levels o c b f) _ (factor_put h o c b f)
  factor_put (optional {ps} {e} h) o c b f = puts_then ps (MaybeSign ∷ []) (levels o c b f) _ (factor_put h o c b f)

  pub branch_put : {ps : List Piece} {e : Expression} → SpellsBranch ps e → (o : List Layer) (c : Option Expression)
      → (b : Option Expression) × (f : Expression) × (puts (levels o c None None) ps ≡ Some (levels o c b (Some f))) × (joined b f ≡ e)
  branch_put (one_factor {ps} {e} h) o c = (None, e, factor_put h o c None None, refl)
  branch_put (more_factors {ps} {qs} {a} {b} h k) o c =
      let r = branch_put h o c in
      (Some (joined r.0 r.1), b, puts_then ps qs (levels o c None None) _ r.2 ∙ factor_put k o c r.0 (Some r.1), ap (λ z. sequence z b) r.3)

  pub choice_put : {ps : List Piece} {e : Expression} → SpellsChoice ps e → (o : List Layer)
      → (c : Option Expression) × (b : Option Expression) × (f : Expression) × (puts (levels o None None None) ps ≡ Some (levels o c b (Some f))) ×
      (level_whole c b f ≡ e)
  choice_put (one_branch {ps} {e} h) o = let r = branch_put h o None in (None, r.0, r.1, r.2, r.3)
  choice_put (more_branches {ps} {qs} {a} {b} h k) o =
      let r = choice_put h o in
      let s = branch_put k o (Some (level_whole r.0 r.1 r.2)) in (
        Some (level_whole r.0 r.1 r.2),
        s.0,
        s.1,
        puts_then ps (Bar ∷ qs) (levels o None None None) _ r.3 ∙ s.2,
        ap (λ z. choice z (joined s.0 s.1)) r.4
            ∙ ap (λ z. choice a z) s.3,
      )

-- the level_whole text of an expression
pub spelled_put : {ps : List Piece} {e : Expression} → SpellsChoice ps e → (t : Nest) × (puts bottom ps ≡ Some t) × (nest_end t ≡ Some e)
spelled_put h = let r = choice_put h [] in (levels [] r.0 r.1 (Some r.2), r.3, ap Some r.4)

-- ---- what is put is spelled
abbrev HoldsChoice : List Piece → Option Expression → Type 0
HoldsChoice ps None = ps ≡ []
HoldsChoice ps (Some e) = (qs : List Piece) × SpellsChoice qs e × (ps ≡ qs ++ Bar ∷ [])

abbrev HoldsBranch : List Piece → Option Expression → Type 0
HoldsBranch ps None = ps ≡ []
HoldsBranch ps (Some e) = SpellsBranch ps e

abbrev HoldsFactor : List Piece → Option Expression → Type 0
HoldsFactor ps None = ps ≡ []
HoldsFactor ps (Some e) = SpellsFactor ps e

abbrev HoldsLayer : List Piece → Option Expression → Option Expression → Type 0
HoldsLayer ps c b = (qs : List Piece) × (rs : List Piece) × HoldsChoice qs c × HoldsBranch rs b × (ps ≡ qs ++ rs)

abbrev HoldsOuter : List Piece → List Layer → Type 0
HoldsOuter ps [] = ps ≡ []
HoldsOuter ps (l ∷ o) = (qs : List Piece) × (rs : List Piece) × HoldsOuter qs o × HoldsLayer rs l.0 l.1 × (ps ≡ qs ++ (rs ++ Open ∷ []))

-- the pieces put on the stack
abbrev pub Holds : List Piece → Nest → Type 0
Holds ps (levels o c b f) = (xs : List Piece) × (ys : List Piece) × (zs : List Piece) × HoldsOuter xs o × HoldsLayer ys c b × HoldsFactor zs f ×
    (ps ≡ xs ++ (ys ++ zs))

branch_more : (ps zs : List Piece) (b : Option Expression) (e : Expression) → HoldsBranch ps b → SpellsFactor zs e → SpellsBranch (ps ++ zs) (joined b e)
branch_more ps zs None e h k = subst (λ t. SpellsBranch (t ++ zs) e) (sym h) (one_factor k)
branch_more ps zs (Some b) e h k = more_factors h k

layer_settled : (ys zs : List Piece) (c b f : Option Expression) → HoldsLayer ys c b → HoldsFactor zs f → HoldsLayer (ys ++ zs) c (settled b f)
layer_settled ys zs c b None h k = (h.0, h.1, h.2, h.3, ap (λ t. ys ++ t) k ∙ append-nil ys ∙ h.4)
layer_settled ys zs c b (Some e) h k = (h.0, h.1 ++ zs, h.2, branch_more h.1 zs b e h.3 k, ap (λ t. t ++ zs) h.4 ∙ append_assoc h.0 h.1 zs)

choice_more : (ps rs : List Piece) (c : Option Expression) (e : Expression) → HoldsChoice ps c → SpellsBranch rs e → SpellsChoice (ps ++ rs) (chosen c e)
choice_more ps rs None e h k = subst (λ t. SpellsChoice (t ++ rs) e) (sym h) (one_branch k)
choice_more ps rs (Some c) e h k = subst (λ t. SpellsChoice t (choice c e)) (sym (ap (λ t. t ++ rs) h.2 ∙ append_assoc h.0 (Bar ∷ []) rs)) (more_branches h.1 k)

layer_whole : (ys zs : List Piece) (c b : Option Expression) (e : Expression) → HoldsLayer ys c b → SpellsFactor zs e
    → SpellsChoice (ys ++ zs) (level_whole c b e)
layer_whole ys zs c b e h k =
    subst (λ t. SpellsChoice t (level_whole c b e)) (sym (ap (λ t. t ++ zs) h.4 ∙ append_assoc h.0 h.1 zs))
    (choice_more h.0 (h.1 ++ zs) c (joined b e) h.2 (branch_more h.1 zs b e h.3 k))

last_moved : (xs ys zs : List Piece) (p : Piece) → (xs ++ (ys ++ zs)) ++ p ∷ [] ≡ xs ++ ((ys ++ zs) ++ p ∷ [])
last_moved xs ys zs p = append_assoc xs (ys ++ zs) (p ∷ [])

last_in : (xs ys zs : List Piece) (p : Piece) → (xs ++ (ys ++ zs)) ++ p ∷ [] ≡ xs ++ (ys ++ (zs ++ p ∷ []))
last_in xs ys zs p = append_assoc xs (ys ++ zs) (p ∷ []) ∙ ap (λ t. xs ++ t) (append_assoc ys zs (p ∷ []))

grouped : (qs rs in' : List Piece) → ((qs ++ (rs ++ Open ∷ [])) ++ in') ++ Close ∷ [] ≡ qs ++ (rs ++ (Open ∷ (in' ++ Close ∷ [])))
grouped qs rs in' =
    append_assoc (qs ++ (rs ++ Open ∷ [])) in' (Close ∷ []) ∙ append_assoc qs (rs ++ Open ∷ []) (in' ++ Close ∷ []) ∙ ap (λ t. qs ++ t)
    (append_assoc rs (Open ∷ []) (in' ++ Close ∷ []))

no_layer : HoldsLayer [] None None
no_layer = ([], [], refl, refl, refl)

abbrev IfPut : List Piece → Option Nest → Type 0
IfPut ps None = Unit {0}
IfPut ps (Some t) = Holds ps t

signed_holds : (sign : Expression → Expression) (p : Piece) → ((zs : List Piece) (e : Expression) → SpellsFactor zs e → SpellsFactor (zs ++ p ∷ []) (sign e))
    → (ps : List Piece) (s : Nest) → Holds ps s → IfPut (ps ++ p ∷ []) (signed sign s)
signed_holds sign p rule ps (levels o c b None) h = tt
signed_holds sign p rule ps (levels o c b (Some e)) h = (h.0, h.1, h.2 ++ p ∷ [], h.3, h.4, rule h.2 e h.5, ap (λ t. t ++ p ∷ []) h.6 ∙ last_in h.0 h.1 h.2 p)

-- one more piece
piece_holds : (ps : List Piece) (p : Piece) (s : Nest) → Holds ps s → IfPut (ps ++ p ∷ []) (put p s)
piece_holds ps (OneOf set) (levels o c b f) h = (
  h.0,
  h.1 ++ h.2,
  OneOf set ∷ [],
  h.3,
  layer_settled h.1 h.2 c b f h.4 h.5,
  one_class,
  ap (λ t. t ++ OneOf set ∷ []) h.6 ∙ last_moved h.0 h.1 h.2 (OneOf set),
)
piece_holds ps Open (levels o c b f) h = (
  ps ++ Open ∷ [],
  [],
  [],
  (h.0, h.1 ++ h.2, h.3, layer_settled h.1 h.2 c b f h.4 h.5, ap (λ t. t ++ Open ∷ []) h.6 ∙ last_moved h.0 h.1 h.2 Open),
  no_layer,
  refl,
  sym (append-nil (ps ++ Open ∷ [])),
)
piece_holds ps Close (levels [] c b f) h = tt
piece_holds ps Close (levels (l ∷ o) c b None) h = tt
piece_holds ps Close (levels (l ∷ o) c b (Some e)) h = (
  h.3.0,
  h.3.1,
  Open ∷ ((h.1 ++ h.2) ++ Close ∷ []),
  h.3.2,
  h.3.3,
  group (layer_whole h.1 h.2 c b e h.4 h.5),
  ap (λ t. t ++ Close ∷ []) (h.6 ∙ ap (λ t. t ++ (h.1 ++ h.2)) h.3.4) ∙ grouped h.3.0 h.3.1 (h.1 ++ h.2),
)
piece_holds ps Bar (levels o c b None) h = tt
piece_holds ps Bar (levels o c b (Some e)) h = (
  h.0,
  (h.1 ++ h.2) ++ Bar ∷ [],
  [],
  h.3,
  ((h.1 ++ h.2) ++ Bar ∷ [], [], (h.1 ++ h.2, layer_whole h.1 h.2 c b e h.4 h.5, refl), refl, sym (append-nil ((h.1 ++ h.2) ++ Bar ∷ []))),
  refl,
  ap (λ t. t ++ Bar ∷ []) h.6 ∙ last_moved h.0 h.1 h.2 Bar ∙ ap (λ t. h.0 ++ t) (sym (append-nil ((h.1 ++ h.2) ++ Bar ∷ []))),
)
piece_holds ps StarSign s h = signed_holds star StarSign (λ zs e k. starred k) ps s h
piece_holds ps PlusSign s h = signed_holds plus PlusSign (λ zs e k. repeated k) ps s h
piece_holds ps MaybeSign s h = signed_holds maybe MaybeSign (λ zs e k. optional k) ps s h

nothing : {e : Expression} → None ≡ Some e → ⊥
nothing e = cc

none_put : {t : Nest} → None ≡ Some t → ⊥
none_put e = cc

hold_on : (ps done : List Piece) (p : Piece) (t : Nest) → ((u : Nest) → Holds (done ++ p ∷ []) u → puts u ps ≡ Some t → Holds ((done ++ p ∷ []) ++ ps) t)
    → (o : Option Nest) → IfPut (done ++ p ∷ []) o → option_and_then (λ u. puts u ps) o ≡ Some t → Holds (done ++ (p ∷ ps)) t
hold_on ps done p t rest None k e = absurd (none_put e)
hold_on ps done p t rest (Some u) k e = subst (λ l. Holds l t) (append_assoc done (p ∷ []) ps) (rest u k e)

all_hold : (ps done : List Piece) (s t : Nest) → Holds done s → puts s ps ≡ Some t → Holds (done ++ ps) t
all_hold [] done s t h e = let k : s ≡ t = cc in subst (λ l. Holds l t) (sym (append-nil done)) (subst (λ u. Holds done u) k h)
all_hold (p ∷ ps) done s t h e = hold_on ps done p t (λ u k e'. all_hold ps (done ++ p ∷ []) u t k e') (put p s) (piece_holds done p s h) e

-- what is nest_end is spelled
pub finished_spelled : (ps : List Piece) (t : Nest) (e : Expression) → puts bottom ps ≡ Some t → nest_end t ≡ Some e → SpellsChoice ps e
finished_spelled ps t e h k = go t (all_hold ps [] bottom t ([], [], [], refl, no_layer, refl, refl) h) k where
  go : (t : Nest) → Holds ps t → nest_end t ≡ Some e → SpellsChoice ps e
  go (levels [] c b None) h k = absurd (nothing k)
  go (levels [] c b (Some f)) h k =
      let same : level_whole c b f ≡ e = cc in
      subst (λ x. SpellsChoice ps x) same (subst (λ l. SpellsChoice l (level_whole c b f)) (sym (h.6 ∙ ap (λ t. t ++ (h.1 ++ h.2)) h.3))
      (layer_whole h.1 h.2 c b f h.4 h.5))
  go (levels (l ∷ o) c b f) h k = absurd (nothing k)

-- ---- each stack can be nest_end
close_all : (o : List Layer) (c b : Option Expression) (f : Expression) → (cuts : List Cut) × (t : Nest) × (e : Expression) × AreCutTexts cuts ×
    (puts (levels o c b (Some f)) (pieces_of cuts) ≡ Some t) × (nest_end t ≡ Some e)
close_all [] c b f = ([], levels [] c b (Some f), level_whole c b f, tt, refl, refl)
close_all (l ∷ o) c b f =
    let r = close_all o l.0 l.1 (level_whole c b f) in
    ((41 ∷ [], Close) ∷ r.0, r.1, r.2, (closing, r.3), r.4, r.5)

pub can_finish : (s : Nest) (set : List ℕ) → (cuts : List Cut) × (t : Nest) × (e : Expression) × AreCutTexts cuts × (puts s (OneOf set ∷ pieces_of cuts)
    ≡ Some t) × (nest_end t ≡ Some e)
can_finish (levels o c b f) set = close_all o c (settled b f) (class set)
