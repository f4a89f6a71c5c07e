-- The best piece of a whole text is the longest one.
use Rattle.std.proofs.Common.{◌≡◌, inl, inr, ◌⊎◌, ℕ, ◌+◌, ◌<◌, List, ◌++◌, length, take, drop, Some, None, refl, sym, ap, subst, arith, length-append}
use Rattle.std.proofs.lemmas.List.{take-append-drop, length-take-le}
use Rattle.forest.specs.declared.symbols.SymbolId.{SymbolId}
use Rattle.edit_log.specs.declared.definitions.DefId.{DefId}
use Rattle.edit_log.specs.declared.definitions.DefKind.{DefKind}
use Rattle.edit_log.specs.declared.definitions.DefKind.TheVariants.{Token as token_of, Skip as skip}
use Rattle.edit_log.specs.History.{Grammar}
use Rattle.edit_log.specs.Live.{kind_of}
use Rattle.edit_log.specs.Tokens.{IsMatched, IsWinner, IsLongest}
use Rattle.isg_scan.specs.Reach.{ComesTo, here, past_skip, past_token}
use Rattle.isg_scan.specs.Walks.{IsBest}
use Rattle.isg_scan.proofs.WalkSteps.{take_part}
use Rattle.isg_scan.proofs.OneScan.{one_longest, one_kind}

module _ (grammar : Grammar) (text : List ℕ) where
  -- no piece is matched
  pub none_is : IsBest grammar text (length text) None → (piece rest : List ℕ) → text ≡ piece ++ rest → IsMatched grammar piece → ⊥
  none_is none piece rest is matched =
      none (length piece) matched.some (omega (arith, ap length is, length-append piece rest)) (subst (IsMatched grammar) (sym (take_part text piece rest
      is)) matched)

  pub longest_is : (size : ℕ) (kind : DefKind) → IsBest grammar text (length text) (Some (size, kind))
      → IsLongest grammar text (take size text) (drop size text)
  longest_is size kind best =
      let taken : length (take size text) ≡ size = length-take-le size text best.0 in
      record {
        begins = sym (take-append-drop size text);
        matched = best.1.matched;
        longest = λ longer others is over matched. best.2 (length longer) (omega (arith, over, taken)) (omega (
          arith,
          ap length is,
          length-append longer
              others,
        ))
            (subst (IsMatched grammar) (sym (take_part text longer others is)) matched);
      }

  pub size_is : (size : ℕ) (kind : DefKind) → IsBest grammar text (length text) (Some (size, kind)) → length (take size text) ≡ size
  size_is size kind best = length-take-le size text best.0

  pub size_some : (size : ℕ) (kind : DefKind) → IsBest grammar text (length text) (Some (size, kind)) → 0 < size
  size_some size kind best = omega (arith, size_is size kind best, best.1.matched.some)

-- ---- where a scan comes to from here

-- of a text with no piece it comes to the text alone
pub comes_none : (grammar : Grammar) (room : ℕ) (text left : List ℕ) → ((piece rest : List ℕ) → text ≡ piece ++ rest → IsMatched grammar piece → ⊥)
    → ComesTo grammar room text left → left ≡ text
comes_none grammar room text left none here = refl
comes_none grammar room text left none (past_skip {piece = piece} {rest = rest} longest wins is comes) = absurd (none piece rest longest.begins longest.matched)
comes_none grammar room text left none (past_token {piece = piece} {rest = rest} longest wins is comes) = absurd (none piece rest longest.begins
    longest.matched)

pub comes_past_skip : (grammar : Grammar) (room : ℕ) (text left piece rest : List ℕ) (winner : DefId) → IsLongest grammar text piece rest
    → IsWinner grammar piece winner → kind_of grammar winner ≡ Some skip
    → ComesTo grammar room text left → (left ≡ text) ⊎ ComesTo grammar room rest left
comes_past_skip grammar room text left piece rest winner longest wins is here = inl refl
comes_past_skip grammar room text left piece rest winner longest wins is (past_skip {piece = p} {rest = r} long won k comes) =
    inr (subst (λ t. ComesTo grammar room t left) (one_longest grammar text p piece r rest long longest).1 comes)
comes_past_skip grammar room text left piece rest winner longest wins is (past_token {piece = p} {rest = r} {winner = w} {kind = x} long won k comes) =
    cc (one_kind grammar text p piece r rest w winner (token_of x) skip long longest won wins k is)

pub comes_past_token : (grammar : Grammar) (room less : ℕ) (text left piece rest : List ℕ) (winner : DefId) (kind : SymbolId) → room ≡ less + 1
    → IsLongest grammar text piece rest → IsWinner grammar piece winner
    → kind_of grammar winner ≡ Some (token_of kind) → ComesTo grammar room text left → (left ≡ text) ⊎ ComesTo grammar less rest left
comes_past_token grammar room less text left piece rest winner kind fewer longest wins is here = inl refl
comes_past_token grammar room less text left piece rest winner kind fewer longest wins is (past_skip {piece = p} {rest = r} {winner = w} long won k comes) =
    cc (one_kind grammar text p piece r rest w winner skip (token_of kind) long longest won wins k is)
comes_past_token grammar room less text left piece rest winner kind fewer longest wins is (past_token {room = own} {piece = p} {rest = r} long won k comes) =
    let same : own ≡ less = omega (arith, fewer) in
    inr (subst (λ n. ComesTo grammar n rest left) same (subst (λ t. ComesTo grammar own t left) (one_longest grammar text p piece r rest long longest).1 comes))

-- with no room it comes no further than a token
pub comes_full : (grammar : Grammar) (room : ℕ) (text left piece rest : List ℕ) (winner : DefId) (kind : SymbolId) → room ≡ 0
    → IsLongest grammar text piece rest → IsWinner grammar piece winner
    → kind_of grammar winner ≡ Some (token_of kind) → ComesTo grammar room text left → left ≡ text
comes_full grammar room text left piece rest winner kind none longest wins is here = refl
comes_full grammar room text left piece rest winner kind none longest wins is (past_skip {piece = p} {rest = r} {winner = w} long won k comes) =
    cc (one_kind grammar text p piece r rest w winner skip (token_of kind) long longest won wins k is)
comes_full grammar room text left piece rest winner kind none longest wins is (past_token long won k comes) = absurd (omega (arith, none))
