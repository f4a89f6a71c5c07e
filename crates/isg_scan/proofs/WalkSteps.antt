-- Reading a text byte by byte from where a piece begins.
use Rattle.std.proofs.Common.{◌≡◌, inl, inr, ℕ, ◌+◌, ◌-◌, ◌<◌, ◌≤◌, List, [], ◌∷◌, ◌++◌, length, take, drop, Option, Some, None, slice_get, Contains}
use Rattle.std.proofs.Common.{refl, sym, ap, ◌∙◌, subst, arith, length-append, length-drop}
use Rattle.std.proofs.lemmas.Bool.{cases_lt}
use Rattle.std.proofs.lemmas.List.{take-append-drop, take_more, length-take-le}
use Rattle.std.proofs.Math.Seq.{take-append_seam, take-append-add}
use Rattle.std.proofs.lemmas.Option.{slice_get_within, get_or_from_slice_get}
use Rattle.edit_log.specs.declared.definitions.DefId.{DefId}
use Rattle.edit_log.specs.declared.definitions.DefKind.{DefKind}
use Rattle.edit_log.specs.History.{Grammar}
use Rattle.edit_log.specs.Live.{kind_of}
use Rattle.edit_log.specs.Tokens.{IsMatched, IsWinner}
use Rattle.isg_states.specs.declared.mark.Mark.{Mark}
use Rattle.isg_states.specs.declared.scan_key.ScanKey.{ScanKey}
use Rattle.isg_states.specs.declared.scan_key.ScanKey.TheVariants.{Start, Set}
use Rattle.isg_states.specs.After.{IsAfter}
use Rattle.grammar_text.specs.Pieces.{AreBytes}
use Rattle.isg_states.specs.Expansion.{LeadsTo}
use Rattle.isg_scan.specs.Reach.{MeetsState}
use Rattle.forest.specs.Numbers.{KeepsNumbers}
use Rattle.isg_scan.specs.States.{LeadsToSet, IsWinnerKind}
use Rattle.isg_scan.specs.Walks.{IsStateAfter, NoneMatched, IsBest, best_with, IsPieceWalk, IsPieceWalked}
use Rattle.isg_scan.proofs.StatesAfter.{taken_bytes, leads_after, next_state, one_state, IsDead, dead_more, dead_unmatched, dead_state, accepted_none}
use Rattle.isg_scan.proofs.StatesAfter.{accepted_some}

-- ---- parts of a text

take_snoc : (text : List ℕ) (at byte : ℕ) → slice_get text at ≡ Some byte → take (at + 1) text ≡ take at text ++ byte ∷ []
take_snoc text at byte is = take_more text at 0 (slice_get_within text at byte is) ∙ ap (λ b. take at text ++ b ∷ []) (get_or_from_slice_get text at byte 0 is)

-- a longer part begins with a shorter one
take_longer : (text : List ℕ) (shorter longer : ℕ) → shorter ≤ longer → longer ≤ length text → (more : List ℕ) × (take longer text ≡ take shorter text ++ more)
take_longer text shorter longer upto within =
    let front : List ℕ = take shorter text in
    let size : length front ≡ shorter = length-take-le shorter text (omega (arith, upto, within)) in
    let whole : take longer (front ++ drop shorter text) ≡ front ++ take (longer - shorter) (drop shorter text) =
    ap (λ n. take n (front ++ drop shorter text)) (omega (arith, size, upto)) ∙ take-append-add front (drop shorter text) (longer - shorter) in
    (take (longer - shorter) (drop shorter text), ap (take longer) (sym (take-append-drop shorter text)) ∙ whole)

-- the first part of two is so many bytes
pub take_part : (text part rest : List ℕ) → text ≡ part ++ rest → take (length part) text ≡ part
take_part text part rest is = ap (take (length part)) is ∙ take-append_seam part rest

-- ---- the best piece

none_yet : (grammar : Grammar) (text : List ℕ) → IsBest grammar text 0 None
none_yet grammar text = λ size above upto. absurd (omega (arith, above, upto))

-- of one more size it is known that it is not matched
none_longer : (grammar : Grammar) (text : List ℕ) (above upto : ℕ) → NoneMatched grammar text above upto → (IsMatched grammar (take (upto + 1) text) → ⊥)
    → NoneMatched grammar text above (upto + 1)
none_longer grammar text above upto none next = λ size over under matched. elim (cases_lt upto size) [
  | inl past ↦ let same : size ≡ upto + 1 = omega (arith, past, under) in next (subst (λ n. IsMatched grammar (take n text)) same matched)
  | inr within ↦ none size over within matched
]

best_same : (grammar : Grammar) (text : List ℕ) (at : ℕ) (best : Option (ℕ × DefKind)) → IsBest grammar text at best
    → (IsMatched grammar (take (at + 1) text) → ⊥) → IsBest grammar text (at + 1) best
best_same grammar text at None is next = none_longer grammar text 0 at is next
best_same grammar text at (Some piece) is next = (omega (arith, is.0), is.1, none_longer grammar text piece.0 at is.2 next)

best_longer : (grammar : Grammar) (text : List ℕ) (at : ℕ) (kind : DefKind) (winner : DefId) → at + 1 ≤ length text
    → IsMatched grammar (take (at + 1) text) → IsWinner grammar (take (at + 1) text) winner
    → kind_of grammar winner ≡ Some kind → IsBest grammar text (at + 1) (Some (at + 1, kind))
best_longer grammar text at kind winner within matched wins is = (
  omega arith,
  record { within = within; matched = matched; winner = winner; wins = wins; kind_is = is },
  λ size above upto. absurd (omega (arith, above, upto)),
)

-- where all longer parts are unmatched, it is the best of the whole text
none_all : (grammar : Grammar) (text : List ℕ) (above upto : ℕ) → NoneMatched grammar text above upto → NoneMatched grammar text upto (length text)
    → NoneMatched grammar text above (length text)
none_all grammar text above upto none others = λ size over under matched. elim (cases_lt upto size) [
  | inl past ↦ others size past under matched
  | inr within ↦ none size over within matched
]

best_all : (grammar : Grammar) (text : List ℕ) (at : ℕ) (best : Option (ℕ × DefKind)) → at ≤ length text → IsBest grammar text at best
    → NoneMatched grammar text at (length text)
    → IsBest grammar text (length text) best
best_all grammar text at None within is others = none_all grammar text 0 at is others
best_all grammar text at (Some piece) within is others = (omega (arith, is.0, within), is.1, none_all grammar text piece.0 at is.2 others)

-- ---- steps of a walk

module _ (grammar : Grammar) (asked keys : List ScanKey) (text : List ℕ) where
  pub walk_start : slice_get keys 0 ≡ Some Start → IsPieceWalk grammar asked keys text 0 0 None
  walk_start start = record {
    within = omega arith;
    key = Start;
    number = start;
    after = refl;
    best_is = none_yet grammar text;
    left_asked = λ size other less. absurd (omega (arith, less));
  }

  module _ (small : AreBytes text) (at state : ℕ) (best : Option (ℕ × DefKind)) (walk : IsPieceWalk grammar asked keys text at state best) where
    accepted_best : (marks : List Mark) (accepted : Option DefKind) → at + 1 ≤ length text → IsStateAfter grammar (take (at + 1) text) (Set marks)
        → IsWinnerKind grammar (Set marks) accepted
        → IsBest grammar text (at + 1) (best_with best (at + 1) accepted)
    accepted_best marks None within is none = best_same grammar text at best walk.best_is (accepted_none grammar (take (at + 1) text) marks (taken_bytes
        (at + 1) text small) is none)
    accepted_best marks (Some kind) within is some =
        let piece = accepted_some grammar (take (at + 1) text) marks kind (taken_bytes (at + 1) text small) is some in
        best_longer grammar text at kind piece.0 within piece.1 piece.2 piece.3

    -- a byte was read in the state
    left_more : Contains asked walk.key → (size : ℕ) (other : ScanKey) → size < at + 1 → IsStateAfter grammar (take size text) other → Contains asked other
    left_more known size other less is = elim (cases_lt size at) [
      | inl before ↦ walk.left_asked size other before is
      | inr upto ↦
          let same : size ≡ at = omega (arith, less, upto) in
          subst (Contains asked) (one_state grammar (take at text) walk.key other walk.after (subst (λ n. IsStateAfter grammar (take n text) other) same
          is)) known
    ]

    pub walk_more : (byte number : ℕ) (marks : List Mark) (accepted : Option DefKind) → slice_get text at ≡ Some byte
        → slice_get keys number ≡ Some (Set marks) → LeadsToSet grammar walk.key byte marks
        → Contains asked walk.key → IsWinnerKind grammar (Set marks) accepted → IsPieceWalk grammar asked keys text (at + 1) number (best_with best
        (at + 1) accepted)
    walk_more byte number marks accepted here there leads known is =
        let within : at < length text = slice_get_within text at byte here in
        let next : IsStateAfter grammar (take (at + 1) text) (Set marks) =
        subst (λ part. IsStateAfter grammar part (Set marks)) (sym (take_snoc text at byte here)) (next_state grammar (take at text) walk.key byte marks
        walk.after leads) in
        record {
          within = omega (arith, within);
          key = Set marks;
          number = there;
          after = next;
          best_is = accepted_best marks accepted (omega (arith, within)) next is;
          left_asked = left_more known;
        }

    -- the states met are those that were left, where nothing more is met
    met_from_left : (last : ℕ) → ((size : ℕ) (other : ScanKey) → size < last → IsStateAfter grammar (take size text) other → Contains asked other)
        → ((part rest : List ℕ) (marks : List Mark) → text ≡ part ++ rest → 0 < length rest → IsStateAfter grammar part (Set marks) → length part < last)
        → (0 < length text → 0 < last)
        → (key : ScanKey) → MeetsState grammar text key → Contains asked key
    met_from_left last left short some Start meets = left 0 Start (some meets) refl
    met_from_left last left short some (Set marks) meets =
        let state : IsStateAfter grammar meets.part (Set marks) = (meets.nonempty, meets.positions, meets.some) in
        left (length meets.part) (Set marks) (short meets.part meets.rest marks meets.begins meets.follows state)
        (subst (λ part. IsStateAfter grammar part (Set marks)) (sym (take_part text meets.part meets.rest meets.begins)) state)

    -- the text has ended
    pub walk_ends : at ≡ length text → IsPieceWalked grammar asked text best
    walk_ends ended = record {
      best_is = subst (λ n. IsBest grammar text n best) ended walk.best_is;
      met_asked = met_from_left at walk.left_asked
          (λ part rest marks begins follows state. omega (arith, ended, ap length begins, length-append part rest, follows))
          (λ some. omega (arith, ended, some));
    }

    -- no position is after a part with the byte
    dead_after : (byte : ℕ) → slice_get text at ≡ Some byte → ((mark : Mark) → LeadsTo grammar walk.key byte mark → ⊥) → IsDead grammar (take (at + 1) text)
    dead_after byte here nowhere = λ mark after.
        nowhere mark ((leads_after grammar (take at text) walk.key byte mark walk.after).1 (subst (λ part. IsAfter grammar part mark) (take_snoc text at
        byte here) after))

    dead_longer : (byte : ℕ) → slice_get text at ≡ Some byte → ((mark : Mark) → LeadsTo grammar walk.key byte mark → ⊥) → (size : ℕ) → at < size
        → size ≤ length text → IsDead grammar (take size text)
    dead_longer byte here nowhere size past within =
        let more = take_longer text (at + 1) size (omega (arith, past)) within in
        let some : 0 < length (take (at + 1) text) = omega (arith, length-take-le (at + 1) text (omega (arith, past, within))) in
        subst (IsDead grammar) (sym more.1) (dead_more grammar (take (at + 1) text) more.0 some (dead_after byte here nowhere))

    -- the byte leads nowhere
    pub walk_stops : (byte : ℕ) → slice_get text at ≡ Some byte → ((mark : Mark) → LeadsTo grammar walk.key byte mark → ⊥) → Contains asked walk.key
        → IsPieceWalked grammar asked text best
    walk_stops byte here nowhere known = record {
      best_is = best_all grammar text at best walk.within walk.best_is
          (λ size above upto. dead_unmatched grammar (take size text) (taken_bytes size text small) (dead_longer byte here nowhere size above upto));
      met_asked = met_from_left (at + 1) (left_more known)
          (λ part rest marks begins follows state. elim (cases_lt at (length part)) [
            | inl past ↦
                let size : length part ≤ length text = omega (arith, ap length begins, length-append part rest) in
                let dead : IsDead grammar part = subst (IsDead grammar) (take_part text part rest begins) (dead_longer byte here nowhere (length part) past
                size) in
                absurd (dead_state grammar part marks state dead)
            | inr within ↦ omega (arith, within)
          ])
          (λ some. omega arith);
    }

-- more was asked for, and more states have numbers
pub walk_asked : (grammar : Grammar) (asked more keys others : List ScanKey) (text : List ℕ) (at state : ℕ) (best : Option (ℕ × DefKind))
    → ((key : ScanKey) → Contains asked key → Contains more key)
    → KeepsNumbers keys others → IsPieceWalk grammar asked keys text at state best → IsPieceWalk grammar more others text at state best
walk_asked grammar asked more keys others text at state best grows keeps walk = record {
  within = walk.within;
  key = walk.key;
  number = keeps state walk.key walk.number;
  after = walk.after;
  best_is = walk.best_is;
  left_asked = λ size other less is. grows other (walk.left_asked size other less is);
}

-- the state is met where a byte follows
pub state_met : (grammar : Grammar) (text : List ℕ) (at : ℕ) (key : ScanKey) → at < length text → IsStateAfter grammar (take at text) key
    → MeetsState grammar text key
state_met grammar text at Start within after = omega (arith, within)
state_met grammar text at (Set marks) within after = record {
  part = take at text;
  rest = drop at text;
  begins = sym (take-append-drop at text);
  nonempty = after.0;
  follows = omega (arith, length-drop at text, within);
  positions = after.1;
  some = after.2;
}
