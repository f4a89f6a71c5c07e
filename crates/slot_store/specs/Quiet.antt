-- Steps that neither take or drop a pin, nor split or join a seat, nor change a version.
use Rattle.std.specs.Prelude.{◌≢◌}
use Rattle.pin_rule.specs.declared.view.Step.{Step}
use Rattle.pin_rule.specs.declared.view.Kind.{Kind}
use Rattle.pin_rule.specs.declared.view.Kind.TheVariants.{LoadPlace, LoadRow, Claim, WriteRow, Publish, GiveBack, Split, Join, Pin, Unpin, LoadLog, WriteLog}
use Rattle.pin_rule.specs.declared.view.Kind.TheVariants.{WritePlace, SwapCurrent, LoadRelease, FreeRow}

abbrev pub IsQuietKind : Kind → Type 0
IsQuietKind LoadPlace = Unit {0}
IsQuietKind LoadRow = Unit {0}
IsQuietKind Claim = Unit {0}
IsQuietKind WriteRow = Unit {0}
IsQuietKind Publish = Unit {0}
IsQuietKind GiveBack = Unit {0}
IsQuietKind Split = ⊥
IsQuietKind Join = ⊥
IsQuietKind Pin = ⊥
IsQuietKind Unpin = ⊥
IsQuietKind LoadLog = Unit {0}
IsQuietKind WriteLog = ⊥
IsQuietKind WritePlace = ⊥
IsQuietKind SwapCurrent = ⊥
IsQuietKind LoadRelease = ⊥
IsQuietKind FreeRow = ⊥

abbrev pub IsQuiet : Step → Type 0
IsQuiet s = IsQuietKind s.kind

-- nor do these write a word of a row
abbrev pub IsPlain : Step → Type 0
IsPlain s = IsQuiet s × (s.kind ≢ WriteRow)
