-- The words of the command line.
use Rattle.std.specs.Prelude.{◌≡◌, ℕ, List, [], ◌∷◌, Bool, true, Some, codes, drop}
use Rattle.std.specs.List.{list_any}
use Rattle.std.specs.Str.{bytes_eq}
use Rattle.clap.specs.Walk.{Rule}
use Rattle.clap.specs.Simple.{App, new_rule, new_app, with_rule, on_top}
use Rattle.clap.specs.Faults.{fault_of}
use Rattle.clap.specs.declared.builder.action.ArgAction.TheVariants.{SetTrue}

-- the flag `--stats`
abbrev pub stats_flag : Rule
stats_flag = record (new_rule (codes "stats")) { long = Some (codes "stats"); action = Some SetTrue }

-- the command that knows this flag and nothing else, and is not asked for help
abbrev pub command_line : App
command_line = with_rule (on_top (λ s. record s { disable_help_flag = true }) (new_app (codes "workbench"))) stats_flag

-- the command finds no fault in these words, of which the first is the program's name
abbrev pub TakesWords : List (List ℕ) → Type 0
TakesWords words = fault_of command_line words ≡ []

-- behind the program's name the flag is one of the words
abbrev pub asks_stats : List (List ℕ) → Bool
asks_stats words = list_any (λ word. bytes_eq word (codes "--stats")) (drop 1 words)

-- the words behind the program's name are none, or the flag once, and `--` may stand behind
pub data AreKnownWords : List (List ℕ) → Type 0 where
  nothing : AreKnownWords []
  flag : AreKnownWords (codes "--stats" ∷ [])
  ended : AreKnownWords (codes "--" ∷ [])
  flag_ended : AreKnownWords (codes "--stats" ∷ codes "--" ∷ [])
