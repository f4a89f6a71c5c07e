-- Where the pieces of a text begin, and which states of the scanner a scan asks for.
use Rattle.std.specs.Prelude.{◌≡◌, ℕ, ◌+◌, ◌<◌, List, ◌++◌, length, Some}
use Rattle.forest.specs.declared.symbols.SymbolId.{SymbolId}
use Rattle.edit_log.specs.declared.definitions.DefId.{DefId}
use Rattle.edit_log.specs.declared.definitions.DefKind.TheVariants.{Token as token_of, Skip as skip}
use Rattle.edit_log.specs.declared.limits.TheConstants.{TOKEN_LIMIT}
use Rattle.edit_log.specs.History.{Grammar}
use Rattle.edit_log.specs.Live.{kind_of}
use Rattle.edit_log.specs.Tokens.{IsLongest, IsWinner}
use Rattle.isg_states.specs.declared.mark.Mark.{Mark}
use Rattle.isg_states.specs.declared.scan_key.ScanKey.{ScanKey}
use Rattle.isg_states.specs.declared.scan_key.ScanKey.TheVariants.{Start, Set}
use Rattle.isg_states.specs.Marks.{ListsMarks}
use Rattle.isg_states.specs.After.{IsAfter}

-- A scan of the text, with room for so many tokens, comes to where this much of it is left: at once to the whole text, and past a
-- piece that it takes to what comes behind. Where it is refused it takes no piece.
pub data ComesTo (grammar : Grammar) : (room : ℕ) → (text left : List ℕ) → Type 0 where
  here : {room : ℕ} {text : List ℕ} → ComesTo grammar room text text
  past_skip : {room : ℕ} {text piece rest left : List ℕ} {winner : DefId} → IsLongest grammar text piece rest → IsWinner grammar piece winner
      → kind_of grammar winner ≡ Some skip → ComesTo grammar room rest left → ComesTo grammar room text left
  past_token : {room : ℕ} {text piece rest left : List ℕ} {winner : DefId} {kind : SymbolId} → IsLongest grammar text piece rest → IsWinner grammar piece winner
      → kind_of grammar winner ≡ Some (token_of kind) → ComesTo grammar room rest left → ComesTo grammar (room + 1) text left

-- the scan of the text comes to the offset where this much of it is left
abbrev pub BeginsPiece : Grammar → (text left : List ℕ) → Type 0
BeginsPiece grammar text left = ComesTo grammar TOKEN_LIMIT text left

-- the text begins with a part that is not empty and that a byte follows, and these are the positions after the part, of which there are some
pub record IsMetSet (grammar : Grammar) (text : List ℕ) (marks : List Mark) : Type 0 where
  pub part : List ℕ
  pub rest : List ℕ
  pub begins : text ≡ part ++ rest
  pub nonempty : 0 < length part
  pub follows : 0 < length rest
  pub positions : ListsMarks (IsAfter grammar part) marks
  pub some : 0 < length marks

-- the states in which a byte of the text is read where a piece begins with the text
abbrev pub MeetsState : Grammar → List ℕ → ScanKey → Type 0
MeetsState grammar text Start = 0 < length text
MeetsState grammar text (Set marks) = IsMetSet grammar text marks

-- the states that a scan of the text asks for
pub record ReachesScan (grammar : Grammar) (text : List ℕ) (key : ScanKey) : Type 0 where
  pub left : List ℕ
  pub begins : BeginsPiece grammar text left
  pub meets : MeetsState grammar left key
