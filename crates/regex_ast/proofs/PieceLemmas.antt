-- The bytes of a text are cut into its pieces.
use Rattle.std.proofs.Common.{◌≡◌, ℕ, Bool, true, false, ◌||◌, ◌==◌, if◌then◌else◌, Option, Some, None, List, [], ◌∷◌, ◌++◌, refl, sym, ap, ◌∙◌, subst}
use Rattle.std.proofs.Common.{append_assoc, append-nil}
use Rattle.std.proofs.lemmas.Bool.{eqb-true, true≢false}
use Rattle.regex_ast.specs.Bytes.{only, with_range, complement}
use Rattle.regex_ast.specs.Spelling.{is_special, is_special_in_class, escape_of, IsClassByte, plain, escaped, IsMember, single, range, AreMembers, no_member}
use Rattle.regex_ast.specs.Spelling.{one_more, IsPiece, atom, escape, dot, members, others, opening, closing, bar, star_sign, plus_sign, maybe_sign}
use Rattle.regex_ast.specs.Lexing.{after_piece, after_backslash, after_bracket, closed, at_start, at_backslash, at_byte, at_dash, at_dash_backslash, in_class}
use Rattle.regex_ast.specs.Lexing.{lexed}
use Rattle.regex_ast.specs.declared.lexer.Piece.{Piece}
use Rattle.regex_ast.specs.declared.lexer.Piece.TheVariants.{OneOf, Open, Close, Bar, StarSign, PlusSign, MaybeSign}
use Rattle.regex_ast.specs.declared.lexer.Place.{Place}
use Rattle.regex_ast.specs.declared.lexer.Place.TheVariants.{Start, Backslash, Byte, Dash, DashBackslash}
use Rattle.regex_ast.specs.declared.lexer.Mode.{Mode}
use Rattle.regex_ast.specs.declared.lexer.Mode.TheVariants.{Between, Escaped, Opened, Inside}
use Rattle.regex_ast.specs.declared.lexer.Step.{Step}
use Rattle.regex_ast.specs.declared.lexer.Step.TheVariants.{Refuse, Go, Done}

-- ---- tests
pick : (P : Step → Type 0) (c : Bool) (x y : Step) → (c ≡ true → P x) → (c ≡ false → P y) → P (if c then x else y)
pick P true x y f g = f refl
pick P false x y f g = g refl

chosen_else : (c : Bool) (x y : Step) → c ≡ false → (if c then x else y) ≡ y
chosen_else c x y e = ap (λ k. if k then x else y) e

or_none : (x y : Bool) → x ≡ false → y ≡ false → (x || y) ≡ false
or_none x y e f = ap (λ k. k || y) e ∙ f

or_first : (x y : Bool) → (x || y) ≡ false → x ≡ false
or_first true y e = absurd (true≢false e)
or_first false y e = refl

or_second : (x y : Bool) → (x || y) ≡ false → y ≡ false
or_second true y e = absurd (true≢false e)
or_second false y e = e

-- ---- from the texts of pieces to the steps
-- these bytes lead from one mode to another
abbrev pub Moves : Mode → List ℕ → Mode → Type 0
Moves m [] n = m ≡ n
Moves m (b ∷ t) n = (k : Mode) × (lexed m b ≡ Go k) × Moves k t n

Moves-join : (t u : List ℕ) (m k n : Mode) → Moves m t k → Moves k u n → Moves m (t ++ u) n
Moves-join [] u m k n h g = subst (λ x. Moves x u n) (sym h) g
Moves-join (b ∷ t) u m k n h g = (h.0, h.1, Moves-join t u h.0 k n h.2 g)

-- a member may begin, after members with these bytes
abbrev Ready : Bool → List ℕ → Mode → Type 0
Ready negated set m = (b : ℕ) → (45 == b) ≡ false → (94 == b) ≡ false → lexed m b ≡ at_start negated set b

at_start-plain : (negated : Bool) (set : List ℕ) (b : ℕ) → is_special_in_class b ≡ false → at_start negated set b ≡ Go (Inside negated set (Byte b))
unfolding at_start
at_start-plain negated set b e =
    let e1 = or_second (92 == b) _ e in
    chosen_else (93 == b) _ _ (or_first (93 == b) _ (or_second (91 == b) _ e1))
    ∙ chosen_else (92 == b) _ _ (or_first (92 == b) _ e) ∙ chosen_else (is_special_in_class b) _ _ e

at_dash-plain : (negated : Bool) (set : List ℕ) (low b : ℕ) → is_special_in_class b ≡ false
    → at_dash negated set low b ≡ Go (Inside negated (with_range set low b) Start)
unfolding at_dash
at_dash-plain negated set low b e = chosen_else (92 == b) _ _ (or_first (92 == b) _ e) ∙ chosen_else (is_special_in_class b) _ _ e

no_caret : (b : ℕ) → is_special_in_class b ≡ false → (94 == b) ≡ false
no_caret b e = or_first (94 == b) _ (or_second (93 == b) _ (or_second (91 == b) _ (or_second (92 == b) _ e)))

no_dash : (b : ℕ) → is_special_in_class b ≡ false → (45 == b) ≡ false
no_dash b e = or_first (45 == b) _ (or_second (94 == b) _ (or_second (93 == b) _ (or_second (91 == b) _ (or_second (92 == b) _ e))))

at_start-backslash : (negated : Bool) (set : List ℕ) → at_start negated set 92 ≡ Go (Inside negated set Backslash)
unfolding at_start
at_start-backslash negated set = refl

at_start-end : (negated : Bool) (set : List ℕ) → at_start negated set 93 ≡ Done (OneOf (closed negated set))
unfolding at_start
at_start-end negated set = refl

at_byte-dash : (negated : Bool) (set : List ℕ) (low : ℕ) → at_byte negated set low 45 ≡ Go (Inside negated set (Dash low))
unfolding at_byte
at_byte-dash negated set low = refl

at_byte-else : (negated : Bool) (set : List ℕ) (low : ℕ) → Ready negated (with_range set low low) (Inside negated set (Byte low))
unfolding at_byte
at_byte-else negated set low b e f = chosen_else (45 == b) _ _ e

at_dash-backslash : (negated : Bool) (set : List ℕ) (low : ℕ) → at_dash negated set low 92 ≡ Go (Inside negated set (DashBackslash low))
unfolding at_dash
at_dash-backslash negated set low = refl

after_bracket-else : Ready false [] Opened
unfolding after_bracket
after_bracket-else b e f = chosen_else (94 == b) _ _ f

after_bracket-caret : after_bracket 94 ≡ Go (Inside true [] Start)
unfolding after_bracket
after_bracket-caret = refl

low_moves : (negated : Bool) (set t : List ℕ) (b : ℕ) (m : Mode) → Ready negated set m → IsClassByte t b → Moves m t (Inside negated set (Byte b))
low_moves negated set t b m ready (plain {b = x} e) = (Inside negated set (Byte x), ready x (no_dash x e) (no_caret x e) ∙ at_start-plain negated set x e, refl)
low_moves negated set t b m ready (escaped {e = x} {b = y} h) = (
  Inside negated set Backslash,
  ready 92 refl refl ∙ at_start-backslash negated set,
  (
    Inside negated set (Byte y),
    ap (λ o. at_backslash negated set o) h,
    refl,
  ),
)

high_moves : (negated : Bool) (set t : List ℕ) (low b : ℕ) → IsClassByte t b
    → Moves (Inside negated set (Dash low)) t (Inside negated (with_range set low b) Start)
high_moves negated set t low b (plain {b = x} e) = (Inside negated (with_range set low x) Start, at_dash-plain negated set low x e, refl)
high_moves negated set t low b (escaped {e = x} {b = y} h) = (
  Inside negated set (DashBackslash low),
  at_dash-backslash negated set low,
  (
    Inside negated (with_range set low y) Start,
    ap (λ o. at_dash_backslash negated set low o) h,
    refl,
  ),
)

start_ready : (negated : Bool) (set : List ℕ) → Ready negated set (Inside negated set Start)
start_ready negated set b e f = refl

member_moves : (negated : Bool) (set t : List ℕ) (low high : ℕ) (m : Mode) → Ready negated set m → IsMember t low high
    → (n : Mode) × Moves m t n × Ready negated (with_range set low high) n
member_moves negated set t low high m ready (single {t = x} {b = y} h) = (
  Inside negated set (Byte y),
  low_moves negated set x y m ready h,
  at_byte-else negated set y,
)
member_moves negated set t low high m ready (range {t = x} {u = y} {low = l} {high = g} h k) = (
  Inside negated (with_range set l g) Start,
  Moves-join x (45 ∷ y) m (Inside negated set (Byte l)) _ (low_moves negated set x l m ready h) (
    Inside negated set (Dash l),
    at_byte-dash negated set l,
    high_moves negated set y l g k,
  ),
  start_ready negated (with_range set l g),
)

members_move : (negated : Bool) (m : Mode) → Ready negated [] m → {t set : List ℕ} → AreMembers t set → (n : Mode) × Moves m t n × Ready negated set n
members_move negated m ready no_member = (m, refl, ready)
members_move negated m ready (one_more {t} {u} {set} {low} {high} h k) =
    let r = members_move negated m ready h in
    let s = member_moves negated set u low high r.0 r.2 k in
    (s.0, Moves-join t u m r.0 s.0 r.1 s.1, s.2)

-- the bytes end a piece
abbrev pub Completes : List ℕ → Piece → Type 0
Completes t p = (front : List ℕ) × (b : ℕ) × (m : Mode) × Moves Between front m × (lexed m b ≡ Done p) × (t ≡ front ++ b ∷ [])

after_piece-atom : (b : ℕ) → is_special b ≡ false → after_piece b ≡ Done (OneOf (only b))
unfolding after_piece
after_piece-atom b e0 =
    let e1 = or_second (92 == b) _ e0 in let e2 = or_second (91 == b) _ e1 in let e3 = or_second (93 == b) _ e2 in let e4 = or_second (40 == b) _ e3 in
    let e5 = or_second (41 == b) _ e4 in let e6 = or_second (124 == b) _ e5 in let e7 = or_second (42 == b) _ e6 in let e8 = or_second (43 == b) _ e7 in
    let e9 = or_second (63 == b) _ e8 in
    chosen_else (92 == b) _ _ (or_first (92 == b) _ e0) ∙ chosen_else (91 == b) _ _ (or_first (91 == b) _ e1) ∙ chosen_else (93 == b) _ _
    (or_first (93 == b) _ e2)
    ∙ chosen_else (40 == b) _ _ (or_first (40 == b) _ e3) ∙ chosen_else (41 == b) _ _ (or_first (41 == b) _ e4) ∙ chosen_else (124 == b) _ _
    (or_first (124 == b) _ e5)
    ∙ chosen_else (42 == b) _ _ (or_first (42 == b) _ e6) ∙ chosen_else (43 == b) _ _ (or_first (43 == b) _ e7) ∙ chosen_else (63 == b) _ _
    (or_first (63 == b) _ e8) ∙ chosen_else (46 == b) _ _ (or_first (46 == b) _ e9)

pub piece_completes : {t : List ℕ} {p : Piece} → IsPiece t p → Completes t p
unfolding after_piece
piece_completes (atom {b} e) = ([], b, Between, refl, after_piece-atom b e, refl)
piece_completes (escape {e} {b} h) = (92 ∷ [], e, Escaped, (Escaped, refl, refl), ap after_backslash h, refl)
piece_completes dot = ([], 46, Between, refl, refl, refl)
piece_completes (members {t} {set} h) =
    let r = members_move false Opened after_bracket-else h in
    (91 ∷ t, 93, r.0, (Opened, refl, r.1), r.2 93 refl refl ∙ at_start-end false set, refl)
piece_completes (others {t} {set} h) =
    let r = members_move true (Inside true [] Start) (start_ready true []) h in
    (91 ∷ 94 ∷ t, 93, r.0, (Opened, refl, (Inside true [] Start, after_bracket-caret, r.1)), r.2 93 refl refl ∙ at_start-end true set, refl)
piece_completes opening = ([], 40, Between, refl, refl, refl)
piece_completes closing = ([], 41, Between, refl, refl, refl)
piece_completes bar = ([], 124, Between, refl, refl, refl)
piece_completes star_sign = ([], 42, Between, refl, refl, refl)
piece_completes plus_sign = ([], 43, Between, refl, refl, refl)
piece_completes maybe_sign = ([], 63, Between, refl, refl, refl)

-- ---- from the steps to the texts of pieces
-- how a class begins
abbrev bracket : Bool → List ℕ
bracket false = 91 ∷ []
bracket true = 91 ∷ 94 ∷ []

abbrev At : List ℕ → Place → Type 0
At v Start = v ≡ []
At v Backslash = v ≡ 92 ∷ []
At v (Byte b) = IsClassByte v b
At v (Dash b) = (w : List ℕ) × IsClassByte w b × (v ≡ w ++ 45 ∷ [])
At v (DashBackslash b) = (w : List ℕ) × IsClassByte w b × (v ≡ w ++ 45 ∷ 92 ∷ [])

-- the text of a piece that is not read to its end
abbrev pub Partial : List ℕ → Mode → Type 0
Partial t Between = t ≡ []
Partial t Escaped = t ≡ 92 ∷ []
Partial t Opened = t ≡ 91 ∷ []
Partial t (Inside negated set place) = (u : List ℕ) × (v : List ℕ) × AreMembers u set × At v place × (t ≡ bracket negated ++ (u ++ v))

-- what a text is after a step
abbrev pub Result : List ℕ → Step → Type 0
Result t Refuse = Unit {0}
Result t (Go m) = Partial t m
Result t (Done p) = IsPiece t p

closed_piece : (negated : Bool) (u set : List ℕ) → AreMembers u set → IsPiece (bracket negated ++ (u ++ 93 ∷ [])) (OneOf (closed negated set))
closed_piece false u set h = members h
closed_piece true u set h = others h

byte_is : (n b : ℕ) → (n == b) ≡ true → n ≡ b
byte_is n b e = eqb-true n b e

-- a byte where a member may begin
start_result : (negated : Bool) (set u t : List ℕ) (b : ℕ) → AreMembers u set → t ≡ bracket negated ++ u → Result (t ++ b ∷ []) (at_start negated set b)
unfolding at_start
start_result negated set u t b h e =
    let moved : t ++ b ∷ [] ≡ bracket negated ++ (u ++ b ∷ []) = ap (λ x. x ++ b ∷ []) e ∙ append_assoc (bracket negated) u (b ∷ []) in
    pick (Result (t ++ b ∷ [])) (93 == b) _ _
    (λ k. subst (λ x. IsPiece x (OneOf (closed negated set))) (sym (moved ∙ ap (λ y. bracket negated ++ (u ++ y ∷ [])) (sym (byte_is 93 b k))))
    (closed_piece negated u set h))
    (λ k. pick (Result (t ++ b ∷ [])) (92 == b) _ _
    (λ l. (u, b ∷ [], h, ap (λ y. y ∷ []) (sym (byte_is 92 b l)), moved))
    (λ l. pick (Result (t ++ b ∷ [])) (is_special_in_class b) _ _
    (λ s. tt)
    (λ s. (u, b ∷ [], h, plain s, moved))))

-- one more member, and the text so far
with_member : (negated : Bool) (u v t : List ℕ) → t ≡ bracket negated ++ (u ++ v) → (x : List ℕ) → t ++ x ≡ bracket negated ++ (u ++ (v ++ x))
with_member negated u v t e x = ap (λ y. y ++ x) e ∙ append_assoc (bracket negated) (u ++ v) x ∙ ap (λ y. bracket negated ++ y) (append_assoc u v x)

backslash_result : (negated : Bool) (set u v t : List ℕ) (e : ℕ) → AreMembers u set → v ≡ 92 ∷ [] → t ≡ bracket negated ++ (u ++ v) → (o : Option ℕ)
    → escape_of e ≡ o → Result (t ++ e ∷ []) (at_backslash negated set o)
backslash_result negated set u v t e h is at None k = tt
backslash_result negated set u v t e h is at (Some b) k =
    (u, v ++ e ∷ [], h, subst (λ x. IsClassByte (x ++ e ∷ []) b) (sym is) (escaped k), with_member negated u v t at (e ∷ []))

byte_result : (negated : Bool) (set u v t : List ℕ) (low b : ℕ) → AreMembers u set → IsClassByte v low → t ≡ bracket negated ++ (u ++ v)
    → Result (t ++ b ∷ []) (at_byte negated set low b)
unfolding at_byte
byte_result negated set u v t low b h k at =
    pick (Result (t ++ b ∷ [])) (45 == b) _ _
    (λ e. (u, v ++ b ∷ [], h, (v, k, ap (λ y. v ++ y ∷ []) (sym (byte_is 45 b e))), with_member negated u v t at (b ∷ [])))
    (λ e. start_result negated (with_range set low low) (u ++ v) t b (one_more h (single k)) at)

dash_result : (negated : Bool) (set u v t : List ℕ) (low b : ℕ) → AreMembers u set → ((w : List ℕ) × IsClassByte w low × (v ≡ w ++ 45 ∷ []))
    → t ≡ bracket negated ++ (u ++ v) → Result (t ++ b ∷ []) (at_dash negated set low b)
unfolding at_dash
dash_result negated set u v t low b h k at =
    let ended : v ++ b ∷ [] ≡ k.0 ++ 45 ∷ b ∷ [] = ap (λ y. y ++ b ∷ []) k.2 ∙ append_assoc k.0 (45 ∷ []) (b ∷ []) in
    pick (Result (t ++ b ∷ [])) (92 == b) _ _
    (λ e. (u, v ++ b ∷ [], h, (k.0, k.1, ended ∙ ap (λ y. k.0 ++ 45 ∷ y ∷ []) (sym (byte_is 92 b e))), with_member negated u v t at (b ∷ [])))
    (λ e. pick (Result (t ++ b ∷ [])) (is_special_in_class b) _ _
    (λ s. tt)
    (λ s. (
      u ++ (k.0 ++ 45 ∷ b ∷ []),
      [],
      one_more h (range k.1 (plain s)),
      refl,
      with_member negated u v t at (b ∷ []) ∙ ap (λ y. bracket negated ++ (u ++ y)) ended ∙ ap (λ y. bracket negated ++ y)
          (sym (append-nil (u ++ (k.0 ++ 45 ∷ b ∷ [])))),
    )))

dash_backslash_result : (negated : Bool) (set u v t : List ℕ) (low e : ℕ) → AreMembers u set → ((w : List ℕ) × IsClassByte w low × (v ≡ w ++ 45 ∷ 92 ∷ []))
    → t ≡ bracket negated ++ (u ++ v)
    → (o : Option ℕ) → escape_of e ≡ o → Result (t ++ e ∷ []) (at_dash_backslash negated set low o)
dash_backslash_result negated set u v t low e h k at None s = tt
dash_backslash_result negated set u v t low e h k at (Some b) s =
    let ended : v ++ e ∷ [] ≡ k.0 ++ 45 ∷ 92 ∷ e ∷ [] = ap (λ y. y ++ e ∷ []) k.2 ∙ append_assoc k.0 (45 ∷ 92 ∷ []) (e ∷ []) in (
      u ++ (k.0 ++ 45 ∷ 92 ∷ e ∷ []),
      [],
      one_more h (range k.1 (escaped s)),
      refl,
      with_member negated u v t at (e ∷ []) ∙ ap (λ y. bracket negated ++ (u ++ y)) ended ∙ ap (λ y. bracket negated ++ y)
          (sym (append-nil (u ++ (k.0 ++ 45 ∷ 92 ∷ e ∷ [])))),
    )

place_result : (negated : Bool) (set u v t : List ℕ) (place : Place) (b : ℕ) → AreMembers u set → At v place → t ≡ bracket negated ++ (u ++ v)
    → Result (t ++ b ∷ []) (in_class negated set place b)
place_result negated set u v t Start b h k at = start_result negated set u t b h (at ∙ ap (λ y. bracket negated ++ (u ++ y)) k ∙ ap (λ y. bracket negated
    ++ y) (append-nil u))
place_result negated set u v t Backslash b h k at = backslash_result negated set u v t b h k at (escape_of b) refl
place_result negated set u v t (Byte low) b h k at = byte_result negated set u v t low b h k at
place_result negated set u v t (Dash low) b h k at = dash_result negated set u v t low b h k at
place_result negated set u v t (DashBackslash low) b h k at = dash_backslash_result negated set u v t low b h k at (escape_of b) refl

bracket_result : (b : ℕ) → Result (91 ∷ b ∷ []) (after_bracket b)
unfolding after_bracket
bracket_result b =
    pick (Result (91 ∷ b ∷ [])) (94 == b) _ _
    (λ e. ([], [], no_member, refl, ap (λ y. 91 ∷ y ∷ []) (sym (byte_is 94 b e))))
    (λ e. start_result false [] [] (91 ∷ []) b no_member refl)

escape_result : (e : ℕ) (o : Option ℕ) → escape_of e ≡ o → Result (92 ∷ e ∷ []) (after_backslash o)
escape_result e None k = tt
escape_result e (Some b) k = escape k

is_piece : (n b : ℕ) (p : Piece) → (n == b) ≡ true → IsPiece (n ∷ []) p → IsPiece (b ∷ []) p
is_piece n b p e h = subst (λ y. IsPiece (y ∷ []) p) (byte_is n b e) h

first_result : (b : ℕ) → Result (b ∷ []) (after_piece b)
unfolding after_piece
first_result b =
    pick (Result (b ∷ [])) (92 == b) _ _ (λ e. ap (λ y. y ∷ []) (sym (byte_is 92 b e))) (λ e0.
    pick (Result (b ∷ [])) (91 == b) _ _ (λ e. ap (λ y. y ∷ []) (sym (byte_is 91 b e))) (λ e1.
    pick (Result (b ∷ [])) (93 == b) _ _ (λ e. tt) (λ e2.
    pick (Result (b ∷ [])) (40 == b) _ _ (λ e. is_piece 40 b Open e opening) (λ e3.
    pick (Result (b ∷ [])) (41 == b) _ _ (λ e. is_piece 41 b Close e closing) (λ e4.
    pick (Result (b ∷ [])) (124 == b) _ _ (λ e. is_piece 124 b Bar e bar) (λ e5.
    pick (Result (b ∷ [])) (42 == b) _ _ (λ e. is_piece 42 b StarSign e star_sign) (λ e6.
    pick (Result (b ∷ [])) (43 == b) _ _ (λ e. is_piece 43 b PlusSign e plus_sign) (λ e7.
    pick (Result (b ∷ [])) (63 == b) _ _ (λ e. is_piece 63 b MaybeSign e maybe_sign) (λ e8.
    pick (Result (b ∷ [])) (46 == b) _ _ (λ e. is_piece 46 b (OneOf (complement (only 10))) e dot) (λ e9.
    atom (or_none (92 == b) _ e0 (or_none (91 == b) _ e1 (or_none (93 == b) _ e2 (or_none (40 == b) _ e3 (or_none (41 == b) _ e4 (or_none (124 == b) _ e5
    (or_none (42 == b) _ e6 (or_none (43 == b) _ e7 (or_none (63 == b) _ e8 (or_none (46 == b) _ e9 refl))))))))))))))))))))

-- one more byte
pub byte_read : (t : List ℕ) (m : Mode) (b : ℕ) → Partial t m → Result (t ++ b ∷ []) (lexed m b)
byte_read t Between b h = subst (λ x. Result (x ++ b ∷ []) (after_piece b)) (sym h) (first_result b)
byte_read t Escaped b h = subst (λ x. Result (x ++ b ∷ []) (after_backslash (escape_of b))) (sym h) (escape_result b (escape_of b) refl)
byte_read t Opened b h = subst (λ x. Result (x ++ b ∷ []) (after_bracket b)) (sym h) (bracket_result b)
byte_read t (Inside negated set place) b h = place_result negated set h.0 h.1 t place b h.2 h.3 h.4

-- ---- each text of a part of a piece can be completed
escape_n : escape_of 110 ≡ Some 10
unfolding escape_of
escape_n = refl

-- a class is completed after a whole member, and whatever comes before
close_class : (negated : Bool) (u v t more set : List ℕ) (low high : ℕ) → AreMembers u set → t ≡ bracket negated ++ (u ++ v) → IsMember (v ++ more) low high
    → (rest : List ℕ) × (s : List ℕ) × IsPiece (t ++ rest) (OneOf s)
close_class negated u v t more set low high h at k = (
  more ++ 93 ∷ [],
  closed negated (with_range set low high),
  subst (λ x. IsPiece x (OneOf (closed negated (with_range set low high))))
      (ap (λ y. bracket negated ++ y) (append_assoc u (v ++ more) (93 ∷ []) ∙ ap (λ y. u ++ y) (append_assoc v more (93 ∷ [])))
      ∙ sym (with_member negated u v t at (more ++ 93 ∷ [])))
      (closed_piece negated (u ++ (v ++ more)) (with_range set low high) (one_more h k)),
)

place_completes : (negated : Bool) (u v t set : List ℕ) (place : Place) → AreMembers u set → At v place → t ≡ bracket negated ++ (u ++ v)
    → (rest : List ℕ) × (s : List ℕ) × IsPiece (t ++ rest) (OneOf s)
place_completes negated u v t set Start h k at = (
  93 ∷ [],
  closed negated set,
  subst (λ x. IsPiece x (OneOf (closed negated set))) (sym (with_member negated u v t at (93 ∷ []) ∙ ap (λ y. bracket negated
      ++ (u ++ (y ++ 93 ∷ []))) k)) (closed_piece negated u set h),
)
place_completes negated u v t set Backslash h k at = close_class negated u v t (110 ∷ []) set 10 10 h at (subst (λ x. IsMember (x ++ 110 ∷ []) 10 10) (sym k)
    (single (escaped escape_n)))
place_completes negated u v t set (Byte b) h k at = close_class negated u v t [] set b b h at (subst (λ x. IsMember x b b) (sym (append-nil v)) (single k))
place_completes negated u v t set (Dash b) h k at =
    close_class negated u v t (97 ∷ []) set b 97 h at (subst (λ x. IsMember x b 97) (sym (ap (λ y. y ++ 97 ∷ []) k.2 ∙ append_assoc k.0 (45 ∷ []) (97 ∷ [])))
    (range k.1 (plain refl)))
place_completes negated u v t set (DashBackslash b) h k at =
    close_class negated u v t (110 ∷ []) set b 10 h at (subst (λ x. IsMember x b 10) (sym (ap (λ y. y ++ 110 ∷ []) k.2 ∙ append_assoc k.0 (45 ∷ 92 ∷ [])
    (110 ∷ []))) (range k.1 (escaped escape_n)))

pub partial_completes : (t : List ℕ) (m : Mode) → Partial t m → (rest : List ℕ) × (s : List ℕ) × IsPiece (t ++ rest) (OneOf s)
partial_completes t Between h = (97 ∷ [], only 97, subst (λ x. IsPiece (x ++ 97 ∷ []) (OneOf (only 97))) (sym h) (atom refl))
partial_completes t Escaped h = (110 ∷ [], only 10, subst (λ x. IsPiece (x ++ 110 ∷ []) (OneOf (only 10))) (sym h) (escape escape_n))
partial_completes t Opened h = (93 ∷ [], [], subst (λ x. IsPiece (x ++ 93 ∷ []) (OneOf [])) (sym h) (members no_member))
partial_completes t (Inside negated set place) h = place_completes negated h.0 h.1 t set place h.2 h.3 h.4
