-- The state after a part of a text is the set of positions after it.
use Rattle.std.proofs.Common.{◌≡◌, ◌↔◌, ℕ, ◌<◌, List, [], ◌∷◌, ◌++◌, length, take, drop, Some, None, refl, sym, ap, subst, arith, append_assoc}
use Rattle.std.proofs.Common.{append-nil, length-append}
use Rattle.std.proofs.lemmas.List.{take-append-drop}
use Rattle.forest.proofs.Ascending.{contains_here}
use Rattle.edit_log.specs.declared.definitions.DefId.{DefId}
use Rattle.edit_log.specs.declared.definitions.DefKind.{DefKind}
use Rattle.edit_log.specs.History.{Grammar}
use Rattle.edit_log.specs.Live.{kind_of}
use Rattle.edit_log.specs.Tokens.{IsMatched, IsWinner}
use Rattle.isg_states.specs.declared.mark.Mark.{Mark}
use Rattle.isg_states.specs.declared.scan_key.ScanKey.{ScanKey}
use Rattle.isg_states.specs.declared.scan_key.ScanKey.TheVariants.{Start, Set}
use Rattle.isg_states.specs.After.{IsAfter}
use Rattle.grammar_text.specs.Pieces.{AreBytes}
use Rattle.isg_states.specs.Expansion.{LeadsTo}
use Rattle.isg_states.proofs.PositionsAfter.{from_first, to_first, from_longer, to_longer, from_match, from_accepts}
use Rattle.isg_states.proofs.MarkLists.{relist, list_none, contains_none}
use Rattle.isg_states.proofs.OneExpansion.{one_list}
use Rattle.isg_scan.specs.States.{LeadsToSet, IsWinnerKind}
use Rattle.isg_scan.specs.Walks.{IsStateAfter}

-- ---- bytes

pub first_bytes : (part rest : List ℕ) → AreBytes (part ++ rest) → AreBytes part
first_bytes [] rest all = tt
first_bytes (b ∷ part) rest all = (all.0, first_bytes part rest all.1)

pub taken_bytes : (size : ℕ) (text : List ℕ) → AreBytes text → AreBytes (take size text)
taken_bytes size text all = first_bytes (take size text) (drop size text) (subst AreBytes (sym (take-append-drop size text)) all)

-- ---- one byte more

-- where the byte leads from the state are the positions after the part with the byte
pub leads_after : (grammar : Grammar) (part : List ℕ) (key : ScanKey) (byte : ℕ) (mark : Mark) → IsStateAfter grammar part key
    → LeadsTo grammar key byte mark ↔ IsAfter grammar (part ++ byte ∷ []) mark
leads_after grammar part Start byte mark none = (
  λ leads. subst (λ p. IsAfter grammar (p ++ byte ∷ []) mark) (sym none) (from_first grammar byte mark leads),
  λ after. to_first grammar byte mark (subst (λ p. IsAfter grammar (p ++ byte ∷ []) mark) none after),
)
leads_after grammar part (Set marks) byte mark is = (from_longer grammar part marks is.1 byte mark, to_longer grammar part marks is.0 is.1 byte mark)

pub next_state : (grammar : Grammar) (part : List ℕ) (key : ScanKey) (byte : ℕ) (marks : List Mark) → IsStateAfter grammar part key
    → LeadsToSet grammar key byte marks
    → IsStateAfter grammar (part ++ byte ∷ []) (Set marks)
next_state grammar part key byte marks is leads = (
  omega (arith, length-append part (byte ∷ [])),
  relist leads.marks_are (λ m. (leads_after grammar part key byte m is).0) (λ m. (leads_after grammar part key byte m is).1),
  leads.some,
)

-- a part has one state
pub one_state : (grammar : Grammar) (part : List ℕ) (key other : ScanKey) → IsStateAfter grammar part key → IsStateAfter grammar part other → key ≡ other
one_state grammar part Start Start is that = refl
one_state grammar part Start (Set marks) is that = absurd (omega (arith, ap length is, that.0))
one_state grammar part (Set marks) Start is that = absurd (omega (arith, ap length that, is.0))
one_state grammar part (Set marks) (Set others) is that = ap Set (one_list is.1 that.1)

-- ---- where no definition goes on

-- no position is after the part
abbrev pub IsDead : Grammar → List ℕ → Type 0
IsDead grammar part = (mark : Mark) → IsAfter grammar part mark → ⊥

dead_byte : (grammar : Grammar) (part : List ℕ) (byte : ℕ) → 0 < length part → IsDead grammar part → IsDead grammar (part ++ byte ∷ [])
dead_byte grammar part byte some dead = λ mark after.
    let leads = to_longer grammar part [] some (list_none dead) byte mark after in
    contains_none leads.0.0 leads.0.1

-- nor is one after a part that begins with it
pub dead_more : (grammar : Grammar) (part more : List ℕ) → 0 < length part → IsDead grammar part → IsDead grammar (part ++ more)
dead_more grammar part [] some dead = λ mark after. dead mark (subst (λ p. IsAfter grammar p mark) (append-nil part) after)
dead_more grammar part (byte ∷ more) some dead = λ mark after.
    dead_more grammar (part ++ byte ∷ []) more (omega (arith, length-append part (byte ∷ []))) (dead_byte grammar part byte some dead) mark
    (subst (λ p. IsAfter grammar p mark) (sym (append_assoc part (byte ∷ []) more)) after)

pub dead_unmatched : (grammar : Grammar) (part : List ℕ) → AreBytes part → IsDead grammar part → IsMatched grammar part → ⊥
dead_unmatched grammar part small dead matched =
    let mark = from_match grammar part matched.definition matched.some small matched.live matched.matches in
    dead mark.0 mark.2

-- so no state is after it
pub dead_state : (grammar : Grammar) (part : List ℕ) (marks : List Mark) → IsStateAfter grammar part (Set marks) → IsDead grammar part → ⊥
dead_state grammar part [] state dead = absurd (omega (arith, state.2))
dead_state grammar part (mark ∷ marks) state dead = dead mark ((state.1.members mark).0 (contains_here mark marks))

-- ---- what the state accepts

pub accepted_none : (grammar : Grammar) (part : List ℕ) (marks : List Mark) → AreBytes part → IsStateAfter grammar part (Set marks)
    → IsWinnerKind grammar (Set marks) None → IsMatched grammar part → ⊥
accepted_none grammar part marks small is none matched =
    let mark = from_match grammar part matched.definition matched.some small matched.live matched.matches in
    none matched.definition (mark.0, (is.1.members mark.0).1 mark.2, mark.1, mark.3)

pub accepted_some : (grammar : Grammar) (part : List ℕ) (marks : List Mark) (kind : DefKind) → AreBytes part → IsStateAfter grammar part (Set marks)
    → IsWinnerKind grammar (Set marks) (Some kind)
    → (winner : DefId) × IsMatched grammar part × IsWinner grammar part winner × (kind_of grammar winner ≡ Some kind)
accepted_some grammar part marks kind small is some =
    let wins = from_accepts grammar part marks is.0 small is.1 some.0 some.1 in
    (some.0, record { some = is.0; definition = some.0; live = wins.live; matches = wins.matches }, wins, some.2)
