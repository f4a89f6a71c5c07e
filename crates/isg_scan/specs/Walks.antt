-- How far a text was read from where a piece begins.
use Rattle.std.specs.Prelude.{◌≡◌, ℕ, ◌<◌, ◌≤◌, List, [], length, take, Option, Some, None, MatchOption, slice_get, Contains}
use Rattle.edit_log.specs.declared.definitions.DefId.{DefId}
use Rattle.edit_log.specs.declared.definitions.DefKind.{DefKind}
use Rattle.edit_log.specs.History.{Grammar}
use Rattle.edit_log.specs.Live.{kind_of}
use Rattle.edit_log.specs.Tokens.{IsMatched, IsWinner}
use Rattle.isg_states.specs.declared.scan_key.ScanKey.{ScanKey}
use Rattle.isg_states.specs.declared.scan_key.ScanKey.TheVariants.{Start, Set}
use Rattle.isg_states.specs.Marks.{ListsMarks}
use Rattle.isg_states.specs.After.{IsAfter}
use Rattle.isg_scan.specs.Reach.{MeetsState}

-- the state after a part of a text: the start after none of it, and otherwise the positions after it, of which there are some
abbrev pub IsStateAfter : Grammar → List ℕ → ScanKey → Type 0
IsStateAfter grammar part Start = part ≡ []
IsStateAfter grammar part (Set marks) = (0 < length part) × ListsMarks (IsAfter grammar part) marks × (0 < length marks)

-- the first so many bytes are matched, won by a definition of this kind
pub record IsMatchedPiece (grammar : Grammar) (text : List ℕ) (length_of_piece : ℕ) (kind : DefKind) : Type 0 where
  pub within : length_of_piece ≤ length text
  pub matched : IsMatched grammar (take length_of_piece text)
  pub winner : DefId
  pub wins : IsWinner grammar (take length_of_piece text) winner
  pub kind_is : kind_of grammar winner ≡ Some kind

-- none of the pieces that the text begins with is matched, from one length on and up to another
abbrev pub NoneMatched : Grammar → List ℕ → (above upto : ℕ) → Type 0
NoneMatched grammar text above upto = (size : ℕ) → above < size → size ≤ upto → IsMatched grammar (take size text) → ⊥

-- the longest matched piece of at most so many bytes: its length and its kind
abbrev pub IsBest : Grammar → List ℕ → ℕ → Option (ℕ × DefKind) → Type 0
IsBest grammar text upto best = MatchOption best (NoneMatched grammar text 0 upto)
    (λ piece. (piece.0 ≤ upto) × IsMatchedPiece grammar text piece.0 piece.1 × NoneMatched grammar text piece.0 upto)

-- the best piece after a state that accepts this, where so many bytes are read
abbrev pub best_with : Option (ℕ × DefKind) → (at : ℕ) → Option DefKind → Option (ℕ × DefKind)
best_with best at None = best
best_with best at (Some kind) = Some (at, kind)

-- so many bytes were read, which led to the state with this number, and the best piece among them is known; in each state that was left a byte was read
pub record IsPieceWalk (grammar : Grammar) (asked keys : List ScanKey) (text : List ℕ) (at state : ℕ) (best : Option (ℕ × DefKind)) : Type 0 where
  pub within : at ≤ length text
  pub key : ScanKey
  pub number : slice_get keys state ≡ Some key
  pub after : IsStateAfter grammar (take at text) key
  pub best_is : IsBest grammar text at best
  pub left_asked : (size : ℕ) (other : ScanKey) → size < at → IsStateAfter grammar (take size text) other → Contains asked other

-- the text was read as far as any definition goes on: the best piece is known, and all states in which a byte is read were asked for
pub record IsPieceWalked (grammar : Grammar) (asked : List ScanKey) (text : List ℕ) (best : Option (ℕ × DefKind)) : Type 0 where
  pub best_is : IsBest grammar text (length text) best
  pub met_asked : (key : ScanKey) → MeetsState grammar text key → Contains asked key
