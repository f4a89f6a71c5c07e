-- A text has one scan at most.
use Rattle.std.proofs.Common.{◌≡◌, inl, inr, ℕ, ◌+◌, ◌<◌, List, [], ◌∷◌, ◌++◌, length, Some, refl, ap, sym, ◌∙◌, subst, arith, length-append}
use Rattle.std.specs.declared.cmp.Ordering.TheVariants.{Less}
use Rattle.std.specs.Ordering.{nat_cmp}
use Rattle.std.proofs.lemmas.Bool.{cases_lt}
use Rattle.std.proofs.lemmas.Bool.Decides.{nat_tests}
use Rattle.forest.specs.declared.symbols.SymbolId.{SymbolId}
use Rattle.edit_log.specs.declared.definitions.DefId.{DefId}
use Rattle.edit_log.specs.declared.definitions.DefId.TheVariants.{Literal as literal, Named as named}
use Rattle.edit_log.specs.declared.definitions.DefKind.TheVariants.{Token as token_of, Skip as skip}
use Rattle.edit_log.specs.History.{Grammar}
use Rattle.edit_log.specs.Live.{kind_of, definition_cmp}
use Rattle.edit_log.specs.Tokens.{IsMatched, IsWinner, IsLongest, Scan, tokens, no_token, too_many, before, token_at, TokenizesFrom, end, none}
use Rattle.edit_log.specs.Tokens.{skipped, full, more, Tokenizes}

-- ---- one piece

same_front : (a b c d : List ℕ) → length a ≡ length b → a ++ c ≡ b ++ d → (a ≡ b) × (c ≡ d)
same_front [] [] c d len is = (refl, is)
same_front [] (y ∷ b) c d len is = absurd (omega (arith, len))
same_front (x ∷ a) [] c d len is = absurd (omega (arith, len))
same_front (x ∷ a) (y ∷ b) c d len is =
    let first : x ≡ y = cc is in
    let rest : a ++ c ≡ b ++ d = cc is in
    let both = same_front a b c d (omega (arith, len)) rest in
    ((λ i. first i ∷ both.0 i), both.1)

pub one_longest : (grammar : Grammar) (text a b c d : List ℕ) → IsLongest grammar text a c → IsLongest grammar text b d → (a ≡ b) × (c ≡ d)
one_longest grammar text a b c d one other = elim (cases_lt (length a) (length b)) [
  | inl less ↦ absurd (one.longest b d other.begins less other.matched)
  | inr upto ↦ elim (cases_lt (length b) (length a)) [
    | inl less ↦ absurd (other.longest a c one.begins less one.matched)
    | inr still ↦ same_front a b c d (omega (arith, upto, still)) (sym one.begins ∙ other.begins)
  ]
]

pub no_piece : (grammar : Grammar) (piece rest : List ℕ) → IsLongest grammar [] piece rest → ⊥
no_piece grammar piece rest is = absurd (omega (arith, ap length is.begins, length-append piece rest, is.matched.some))

-- ---- one winner

less_from : (a b : ℕ) → nat_cmp a b ≡ Less → a < b
less_from a b is = grind (arith, nat_tests)

both_less : (a b : ℕ) → nat_cmp a b ≡ Less → nat_cmp b a ≡ Less → ⊥
both_less a b one other = absurd (omega (arith, less_from a b one, less_from b a other))

not_both : (a b : DefId) → definition_cmp a b ≡ Less → definition_cmp b a ≡ Less → ⊥
not_both (literal a) (literal b) one other = both_less a.0 b.0 one other
not_both (literal a) (named b) one other = cc other
not_both (named a) (literal b) one other = cc one
not_both (named a) (named b) one other = both_less a.0 b.0 one other

pub one_winner : (grammar : Grammar) (piece : List ℕ) (a b : DefId) → IsWinner grammar piece a → IsWinner grammar piece b → a ≡ b
one_winner grammar piece a b one other = elim (one.first b other.live other.matches) [
  | inl same ↦ sym same
  | inr less ↦ elim (other.first a one.live one.matches) [
    | inl same ↦ same
    | inr lower ↦ absurd (not_both a b less lower)
  ]
]

-- ---- one step of a scan

data Step (grammar : Grammar) (offset room : ℕ) (text : List ℕ) (scan : Scan) : Type 0 where
  ends : text ≡ [] → scan ≡ tokens [] → Step grammar offset room text scan
  stops : 0 < length text → ((piece rest : List ℕ) → text ≡ piece ++ rest → IsMatched grammar piece → ⊥) → scan ≡ no_token offset
      → Step grammar offset room text scan
  skips : (piece rest : List ℕ) (winner : DefId) → IsLongest grammar text piece rest → IsWinner grammar piece winner → kind_of grammar winner ≡ Some skip
      → TokenizesFrom grammar (offset + length piece) room rest scan → Step grammar offset room text scan
  fills : (piece rest : List ℕ) (winner : DefId) (kind : SymbolId) → IsLongest grammar text piece rest → IsWinner grammar piece winner
      → kind_of grammar winner ≡ Some (token_of kind)
      → room ≡ 0 → scan ≡ too_many offset → Step grammar offset room text scan
  takes : (piece rest : List ℕ) (winner : DefId) (kind : SymbolId) (left : ℕ) (others : Scan) → IsLongest grammar text piece rest
      → IsWinner grammar piece winner → kind_of grammar winner ≡ Some (token_of kind)
      → room ≡ left + 1 → TokenizesFrom grammar (offset + length piece) left rest others → scan ≡ before (token_at kind offset (offset + length piece))
      others → Step grammar offset room text scan

step_of : (grammar : Grammar) (offset room : ℕ) (text : List ℕ) (scan : Scan) → TokenizesFrom grammar offset room text scan → Step grammar offset room text scan
step_of grammar offset room text scan end = ends refl refl
step_of grammar offset room text scan (none some nothing) = stops some nothing refl
step_of grammar offset room text scan (skipped {piece = piece} {rest = rest} {winner = winner} longest wins kind later) = skips piece rest winner longest
    wins kind later
step_of grammar offset room text scan (full {piece = piece} {rest = rest} {winner = winner} {kind = kind} longest wins is) = fills piece rest winner kind
    longest wins is refl refl
step_of grammar offset room text scan (more {room = left} {piece = piece} {rest = rest} {winner = winner} {kind = kind} {scan = others} longest wins is later) =
    takes piece rest winner kind left others longest wins is refl later refl

-- the same piece has the same winner, which is of one kind
pub one_kind : (grammar : Grammar) (text a b c d : List ℕ) (v w : DefId) (x y : _) → IsLongest grammar text a c → IsLongest grammar text b d
    → IsWinner grammar a v → IsWinner grammar b w
    → kind_of grammar v ≡ Some x → kind_of grammar w ≡ Some y → x ≡ y
one_kind grammar text a b c d v w x y one other wins wins' is is' =
    let same = one_longest grammar text a b c d one other in
    let winner : v ≡ w = one_winner grammar b v w (subst (λ piece. IsWinner grammar piece v) same.0 wins) wins' in
    let both : Some x ≡ Some y = sym is ∙ ap (kind_of grammar) winner ∙ is' in
    cc both

one_from : (grammar : Grammar) (offset room : ℕ) (text : List ℕ) (a b : Scan) → TokenizesFrom grammar offset room text a
    → TokenizesFrom grammar offset room text b → a ≡ b
one_from grammar offset room text a b end is = elim (step_of grammar offset room text b is) [
  | ends empty e ↦ sym e
  | stops some nothing e ↦ absurd (omega (arith, some))
  | skips piece rest winner longest wins kind later ↦ absurd (no_piece grammar piece rest longest)
  | fills piece rest winner kind longest wins k full_up e ↦ absurd (no_piece grammar piece rest longest)
  | takes piece rest winner kind left others longest wins k room_is later e ↦ absurd (no_piece grammar piece rest longest)
]
one_from grammar offset room text a b (none some nothing) is = elim (step_of grammar offset room text b is) [
  | ends empty e ↦ absurd (omega (arith, some, ap length empty))
  | stops some' nothing' e ↦ sym e
  | skips piece rest winner longest wins kind later ↦ absurd (nothing piece rest longest.begins longest.matched)
  | fills piece rest winner kind longest wins k full_up e ↦ absurd (nothing piece rest longest.begins longest.matched)
  | takes piece rest winner kind left others longest wins k room_is later e ↦ absurd (nothing piece rest longest.begins longest.matched)
]
one_from grammar offset room text a b (skipped {piece = p} {rest = r} {winner = v} long won is_skip further) is = elim (step_of grammar offset room text b is) [
  | ends empty e ↦ absurd (no_piece grammar p r (subst (λ t. IsLongest grammar t p r) empty long))
  | stops some nothing e ↦ absurd (nothing p r long.begins long.matched)
  | skips piece rest winner longest wins kind later ↦
      let same = one_longest grammar text piece p rest r longest long in
      one_from grammar (offset + length p) room r a b further
      (subst (λ t. TokenizesFrom grammar (offset + length p) room t b) same.1 (subst (λ t. TokenizesFrom grammar (offset + length t) room rest b) same.0 later))
  | fills piece rest winner kind longest wins k full_up e ↦ cc (one_kind grammar text p piece r rest v winner skip (token_of kind) long longest won wins
      is_skip k)
  | takes piece rest winner kind left others longest wins k room_is later e ↦ cc (one_kind grammar text p piece r rest v winner skip (token_of kind) long
      longest won wins is_skip k)
]
one_from grammar offset room text a b (full {piece = p} {rest = r} {winner = v} {kind = x} long won is_token) is = elim (step_of grammar offset room text b
    is) [
      | ends empty e ↦ absurd (no_piece grammar p r (subst (λ t. IsLongest grammar t p r) empty long))
      | stops some nothing e ↦ absurd (nothing p r long.begins long.matched)
      | skips piece rest winner longest wins kind later ↦ cc
          (one_kind grammar text p piece r rest v winner (token_of x) skip long longest won wins is_token kind)
      | fills piece rest winner kind longest wins k full_up e ↦ sym e
      | takes piece rest winner kind left others longest wins k room_is later e ↦ absurd (omega (arith, room_is))
    ]
one_from grammar offset room text a b (more {room = n} {piece = p} {rest = r} {winner = v} {kind = x} {scan = s} long won is_token further) is = elim
    (step_of grammar offset room text b is) [
      | ends empty e ↦ absurd (no_piece grammar p r (subst (λ t. IsLongest grammar t p r) empty long))
      | stops some nothing e ↦ absurd (nothing p r long.begins long.matched)
      | skips piece rest winner longest wins kind later ↦ cc
          (one_kind grammar text p piece r rest v winner (token_of x) skip long longest won wins is_token kind)
      | fills piece rest winner kind longest wins k full_up e ↦ absurd (omega (arith, full_up))
      | takes piece rest winner kind left others longest wins k room_is later e ↦
          let same = one_longest grammar text piece p rest r longest long in
          let tokens_same : token_of kind ≡ token_of x = one_kind grammar text piece p rest r winner v (token_of kind) (token_of x) longest long wins won k
          is_token in
          let kinds : kind ≡ x = cc tokens_same in
          let rooms : left ≡ n = omega (arith, room_is) in
          let behind : TokenizesFrom grammar (offset + length p) n r others =
          subst (λ t. TokenizesFrom grammar (offset + length p) n t others) same.1
          (subst (λ t. TokenizesFrom grammar (offset + length t) n rest others) same.0 (subst (λ m. TokenizesFrom grammar (offset + length piece) m rest
          others) rooms later)) in
          let rests : s ≡ others = one_from grammar (offset + length p) n r s others further behind in
          ap (before (token_at x offset (offset + length p))) rests
          ∙ ap (λ q. before (token_at x offset (offset + length q)) others) (sym same.0) ∙ ap (λ q. before (token_at q offset (offset + length piece)) others)
          (sym kinds) ∙ sym e
    ]

pub one_scan : (grammar : Grammar) (text : List ℕ) (a b : Scan) → Tokenizes grammar text a → Tokenizes grammar text b → a ≡ b
one_scan grammar text a b one other = one_from grammar 0 _ text a b one other
