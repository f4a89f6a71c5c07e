-- Reading a byte by the table.
use Rattle.std.proofs.Common.{◌≡◌, inl, inr, ℕ, suc, ◌+◌, ◌*◌, ◌-◌, ◌<◌, ◌≤◌, List, [], ◌∷◌, length, get_or, Option, Some, slice_get, Result, Ok, Err}
use Rattle.std.proofs.Common.{OnOk, sym, subst, arith}
use Rattle.std.proofs.lemmas.Option.{slice_get_within, slice_get_cases}
use Rattle.edit_log.specs.declared.definitions.DefKind.{DefKind}
use Rattle.edit_log.specs.History.{Grammar}
use Rattle.isg_states.specs.declared.scan_key.ScanKey.{ScanKey}
use Rattle.isg_states.specs.declared.scan_key.ScanKey.TheVariants.{Set}
use Rattle.grammar_text.specs.Pieces.{AreBytes}
use Rattle.isg_scan.specs.States.{TellsEntry, KnowsStates}
use Rattle.isg_scan.specs.Walks.{best_with, IsPieceWalk, IsPieceWalked}
use Rattle.isg_scan.proofs.WalkSteps.{walk_more, walk_stops}

pub some_at : {X : Type 0} (list : List X) (place : ℕ) → place < length list → (x : X) × (slice_get list place ≡ Some x)
some_at list place within = elim (slice_get_cases list place).1 [ inl there ↦ (there.0, there.2) | inr past ↦ absurd (omega (arith, past.0, within)) ]

pub on_ok_more : {X E : Type 0} (result : Result X E) (P Q : Type 0) → (P → Q) → OnOk result P → OnOk result Q
on_ok_more (Ok x) P Q more holds = more holds
on_ok_more (Err e) P Q more holds = tt

-- each byte of a text is below 256
pub bytes_below : (text : List ℕ) → ((place : ℕ) → get_or text place 0 < 256) → AreBytes text
bytes_below [] each = tt
bytes_below (b ∷ text) each = (each 0, bytes_below text (λ place. each (suc place)))

-- an entry of a row that is there
pub row_there : (table : List ℕ) (states state byte : ℕ) → length table ≡ 256 * states → state < states → byte < 256 → 256 * state + byte < length table
row_there table states state byte size within less = omega (arith, size, within, less)

module _ (grammar : Grammar) (asked keys : List ScanKey) (accepted : List (Option DefKind)) (table text : List ℕ) (small : AreBytes text) (at state : ℕ)
    (best : Option (ℕ × DefKind))
    (knows : KnowsStates grammar asked keys accepted table) (walk : IsPieceWalk grammar asked keys text at state best) (byte entry : ℕ)
    (here : slice_get text at ≡
    Some byte) (less : byte < 256)
    (is : slice_get table (256 * state + byte) ≡ Some entry) where
  tells : TellsEntry grammar keys asked walk.key byte entry
  tells = knows.entries.tells state byte entry walk.key walk.number less is

  pub next_inside : 2 ≤ entry → entry - 2 < length accepted
  next_inside more =
      let to = tells.leads (entry - 2) (omega (arith, more)) in
      omega (arith, slice_get_within keys (entry - 2) (Set to.0) to.1, knows.states.size)

  pub next_walk : 2 ≤ entry → (next_at next_state : ℕ) (next_best : Option (ℕ × DefKind)) → next_at ≡ at + 1 → next_state ≡ entry - 2
      → ((kind : Option DefKind) → slice_get accepted (entry - 2) ≡ Some kind → next_best ≡ best_with best (at + 1) kind)
      → IsPieceWalk grammar asked keys text next_at next_state next_best
  next_walk more next_at next_state next_best at_is state_is best_is =
      let to = tells.leads (entry - 2) (omega (arith, more)) in
      let kind = some_at accepted (entry - 2) (next_inside more) in
      let next : IsPieceWalk grammar asked keys text (at + 1) (entry - 2) (best_with best (at + 1) kind.0) =
      walk_more grammar asked keys text small at state best walk byte (entry - 2) to.0 kind.0 here to.1 to.2 (tells.known (omega (arith, more)))
      (knows.states.accepts (entry - 2) (Set to.0) kind.0 to.1 kind.1) in
      subst (λ n. IsPieceWalk grammar asked keys text n next_state next_best) (sym at_is)
      (subst (λ n. IsPieceWalk grammar asked keys text (at + 1) n next_best) (sym state_is)
      (subst (λ b. IsPieceWalk grammar asked keys text (at + 1) (entry - 2) b) (sym (best_is kind.0 kind.1)) next))

  pub next_stops : entry ≡ 1 → IsPieceWalked grammar asked text best
  next_stops one = walk_stops grammar asked keys text small at state best walk byte here (tells.nowhere one) (tells.known (omega (arith, one)))
