-- What it does to the tokens to take a piece.
use Rattle.std.specs.Prelude.{◌≡◌, ℕ, ◌<◌, List, [], ◌∷◌, ◌++◌, length}
use Rattle.forest.specs.declared.symbols.SymbolId.{SymbolId}
use Rattle.forest.specs.declared.symbols.Token.{Token}
use Rattle.edit_log.specs.declared.definitions.DefKind.{DefKind}
use Rattle.edit_log.specs.declared.definitions.DefKind.TheVariants.{Token as token_of, Skip as skip}
use Rattle.edit_log.specs.declared.limits.TheConstants.{TOKEN_LIMIT}
use Rattle.edit_log.specs.Tokens.{token_at}
use Rattle.isg_scan.specs.declared.scan_error.ScanError.{ScanError}
use Rattle.isg_scan.specs.declared.scan_error.ScanError.TheVariants.{NoToken, TooManyTokens, NoMemory}

-- the piece between these offsets was taken: by a skip, or as one more token for which there was room
abbrev pub IsTaken : DefKind → (from to : ℕ) → (old new : List Token) → Type 0
IsTaken skip from to old new = new ≡ old
IsTaken (token_of kind) from to old new = (length old < TOKEN_LIMIT) × (new ≡ old ++ token_at kind from to ∷ [])

-- why it was not taken: it would be a token too many
abbrev pub IsTokenTooMany : DefKind → (from : ℕ) → List Token → ScanError → Type 0
IsTokenTooMany kind from old (NoToken offset) = ⊥
IsTokenTooMany kind from old (TooManyTokens offset) = (symbol : SymbolId) × (kind ≡ token_of symbol) × (length old ≡ TOKEN_LIMIT) × (offset ≡ from)
IsTokenTooMany kind from old NoMemory = Unit {0}
