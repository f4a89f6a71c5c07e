-- The tokens of a text: at each offset the longest piece that a live definition matches.
use Rattle.std.specs.Prelude.{◌≡◌, ◌⊎◌, ℕ, ◌+◌, ◌<◌, List, [], ◌∷◌, ◌++◌, length, Some}
use Rattle.std.specs.declared.cmp.Ordering.TheVariants.{Less}
use Rattle.grammar_text.specs.declared.symbol.Symbol.TheVariants.{Literal}
use Rattle.forest.specs.declared.symbols.SymbolId.{SymbolId}
use Rattle.forest.specs.declared.symbols.Token.{Token}
use Rattle.regex_ast.specs.Expressions.{Expression}
use Rattle.regex_ast.specs.Matching.{Matches}
use Rattle.regex_ast.specs.Refusals.{SpellsWithinLimits}
use Rattle.edit_log.specs.declared.definitions.DefId.{DefId}
use Rattle.edit_log.specs.declared.definitions.DefId.TheVariants.{Literal as literal, Named as named}
use Rattle.edit_log.specs.declared.definitions.DefKind.TheVariants.{Token as token_of, Skip as skip}
use Rattle.edit_log.specs.declared.limits.TheConstants.{TOKEN_LIMIT}
use Rattle.edit_log.specs.Symbols.{symbol_at}
use Rattle.edit_log.specs.History.{Definition, Grammar}
use Rattle.edit_log.specs.Live.{IsLive, kind_of, definition_of, definition_cmp}

-- the definition, whether it is live or not, matches the piece: a literal matches its own bytes, and a token or a skip what its expression matches
abbrev pub MatchesPiece : Grammar → DefId → List ℕ → Type 0
MatchesPiece grammar (literal symbol) piece = symbol_at grammar.symbols symbol ≡ Literal piece
MatchesPiece grammar (named number) piece =
    (live : Definition) × (definition_of grammar number ≡ Some live) × (e : Expression) × SpellsWithinLimits live.expression e × Matches e piece

-- a live definition matches the piece, which is not empty
pub record IsMatched (grammar : Grammar) (piece : List ℕ) : Type 0 where
  pub some : 0 < length piece
  pub definition : DefId
  pub live : IsLive grammar definition
  pub matches : MatchesPiece grammar definition piece

-- of the live definitions that match the piece, this one comes first: a literal before tokens and skips, and then the lower number
pub record IsWinner (grammar : Grammar) (piece : List ℕ) (winner : DefId) : Type 0 where
  pub live : IsLive grammar winner
  pub matches : MatchesPiece grammar winner piece
  pub first : (other : DefId) → IsLive grammar other → MatchesPiece grammar other piece → (other ≡ winner) ⊎ (definition_cmp winner other ≡ Less)

-- the text begins with the piece, which is matched, and with no longer piece that is matched
pub record IsLongest (grammar : Grammar) (text piece rest : List ℕ) : Type 0 where
  pub begins : text ≡ piece ++ rest
  pub matched : IsMatched grammar piece
  pub longest : (longer others : List ℕ) → text ≡ longer ++ others → length piece < length longer → IsMatched grammar longer → ⊥

-- how a scan ends: with the tokens, or at the offset where no piece is matched, or at the offset where a token too many begins
pub data Scan : Type 0 where
  tokens : List Token → Scan
  no_token : ℕ → Scan
  too_many : ℕ → Scan

-- the token before those of the rest
abbrev pub before : Token → Scan → Scan
before token (tokens others) = tokens (token ∷ others)
before token (no_token offset) = no_token offset
before token (too_many offset) = too_many offset

abbrev pub token_at : SymbolId → (from to : ℕ) → Token
token_at kind from to = record { kind = kind; from = from; to = to }

-- the tokens of the text from this offset on, where there is room for so many
pub data TokenizesFrom (grammar : Grammar) : (offset room : ℕ) → List ℕ → Scan → Type 0 where
  end : {offset room : ℕ} → TokenizesFrom grammar offset room [] (tokens [])
  none : {offset room : ℕ} {text : List ℕ} → 0 < length text → ((piece rest : List ℕ) → text ≡ piece ++ rest → IsMatched grammar piece → ⊥)
      → TokenizesFrom grammar offset room text (no_token offset)
  skipped : {offset room : ℕ} {text piece rest : List ℕ} {winner : DefId} {scan : Scan} → IsLongest grammar text piece rest → IsWinner grammar piece winner
      → kind_of grammar winner ≡ Some skip
      → TokenizesFrom grammar (offset + length piece) room rest scan → TokenizesFrom grammar offset room text scan
  full : {offset : ℕ} {text piece rest : List ℕ} {winner : DefId} {kind : SymbolId} → IsLongest grammar text piece rest → IsWinner grammar piece winner
      → kind_of grammar winner ≡ Some (token_of kind)
      → TokenizesFrom grammar offset 0 text (too_many offset)
  more : {offset room : ℕ} {text piece rest : List ℕ} {winner : DefId} {kind : SymbolId} {scan : Scan} → IsLongest grammar text piece rest
      → IsWinner grammar piece winner
      → kind_of grammar winner ≡ Some (token_of kind) → TokenizesFrom grammar (offset + length piece) room rest scan
      → TokenizesFrom grammar offset (room + 1) text (before (token_at kind offset (offset + length piece)) scan)

-- the scan of the text
abbrev pub Tokenizes : Grammar → List ℕ → Scan → Type 0
Tokenizes grammar text scan = TokenizesFrom grammar 0 TOKEN_LIMIT text scan
