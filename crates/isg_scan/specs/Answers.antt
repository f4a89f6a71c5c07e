-- What the answers of a scan tell.
use Rattle.std.specs.Prelude.{ℕ, List, Result, Ok, Err}
use Rattle.edit_log.specs.History.{Grammar}
use Rattle.edit_log.specs.Tokens.{no_token, too_many, Tokenizes}
use Rattle.isg_scan.specs.declared.scan_error.ScanError.{ScanError}
use Rattle.isg_scan.specs.declared.scan_error.ScanError.TheVariants.{NoToken, TooManyTokens, NoMemory}

-- how the scan of the text ends, where it is refused
abbrev pub IsScanEnd : Grammar → List ℕ → ScanError → Type 0
IsScanEnd grammar text (NoToken offset) = Tokenizes grammar text (no_token offset)
IsScanEnd grammar text (TooManyTokens offset) = Tokenizes grammar text (too_many offset)
IsScanEnd grammar text NoMemory = Unit {0}

-- P holds, unless memory ran out
abbrev pub UnlessScanNoMemory : {X : Type 0} → Result X ScanError → Type 0 → Type 0
UnlessScanNoMemory (Ok tokens) P = P
UnlessScanNoMemory (Err (NoToken offset)) P = P
UnlessScanNoMemory (Err (TooManyTokens offset)) P = P
UnlessScanNoMemory (Err NoMemory) P = Unit {0}
