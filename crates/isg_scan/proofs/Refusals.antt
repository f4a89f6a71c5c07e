-- What a refused piece tells of the scan.
use Rattle.std.proofs.Common.{◌≡◌, ℕ, List, length, Result, Ok, Err, IfErr, sym, subst}
use Rattle.std.specs.Result.{IsErr, IsErrAnd}
use Rattle.forest.specs.declared.symbols.SymbolId.{SymbolId}
use Rattle.forest.specs.declared.symbols.Token.{Token}
use Rattle.edit_log.specs.declared.definitions.DefKind.{DefKind}
use Rattle.edit_log.specs.declared.definitions.DefKind.TheVariants.{Token as token_of}
use Rattle.edit_log.specs.declared.limits.TheConstants.{TOKEN_LIMIT}
use Rattle.edit_log.specs.History.{Grammar}
use Rattle.edit_log.specs.Tokens.{too_many, Tokenizes}
use Rattle.isg_scan.specs.declared.scan_error.ScanError.{ScanError}
use Rattle.isg_scan.specs.declared.scan_error.ScanError.TheVariants.{NoToken, TooManyTokens, NoMemory}
use Rattle.isg_scan.specs.Answers.{IsScanEnd, UnlessScanNoMemory}
use Rattle.isg_scan.specs.Taken.{IsTokenTooMany}

-- the answer is the error that came from below
pub if_err_from : {X : Type 0} (result : Result X ScanError) (error : ScanError) (Q : ScanError → Type 0) → IsErrAnd result (λ e. e ≡ error) → Q error
    → IfErr result Q
if_err_from (Ok x) error Q is holds = absurd is
if_err_from (Err e) error Q is holds = subst Q (sym is) holds

module _ (grammar : Grammar) (text : List ℕ) (kind : DefKind) (offset : ℕ) (found : List Token) where
  pub refusal_ends : (error : ScanError) → IsTokenTooMany kind offset found error → ((symbol : SymbolId) → kind ≡ token_of symbol → length found ≡ TOKEN_LIMIT
      → Tokenizes grammar text (too_many offset))
      → IsScanEnd grammar text error
  refusal_ends (NoToken at) refusal all = absurd refusal
  refusal_ends (TooManyTokens at) refusal all = subst (λ n. Tokenizes grammar text (too_many n)) (sym refusal.3) (all refusal.0 refusal.1 refusal.2)
  refusal_ends NoMemory refusal all = tt

  own_unless : {X : Type 0} (result : Result X ScanError) (P : Type 0) → IfErr result (IsTokenTooMany kind offset found) → IsErr result
      → ((symbol : SymbolId) → kind ≡ token_of symbol → length found ≡ TOKEN_LIMIT → P) → UnlessScanNoMemory result P
  own_unless (Ok x) P refusal err all = absurd cc
  own_unless (Err (NoToken at)) P refusal err all = absurd refusal
  own_unless (Err (TooManyTokens at)) P refusal err all = all refusal.0 refusal.1 refusal.2
  own_unless (Err NoMemory) P refusal err all = tt

  pub refusal_unless : {X : Type 0} (result : Result X ScanError) (error : ScanError) (P : Type 0) → IsErr result × IsErrAnd result (λ e. e ≡ error)
      → IsTokenTooMany kind offset found error
      → ((symbol : SymbolId) → kind ≡ token_of symbol → length found ≡ TOKEN_LIMIT → P) → UnlessScanNoMemory result P
  refusal_unless result error P is refusal all = own_unless result P (if_err_from result error (IsTokenTooMany kind offset found) is.1 refusal) is.0 all
