-- A scan over a graph, piece by piece.
use Rattle.std.proofs.Common.{◌≡◌, inl, inr, ◌⊎◌, ◌↔◌, ℕ, ◌+◌, ◌<◌, ◌≤◌, List, [], ◌∷◌, ◌++◌, length, take, drop, Option, Some, None, Contains, refl}
use Rattle.std.proofs.Common.{sym, ap, ◌∙◌, subst, arith, length-drop}
use Rattle.forest.specs.declared.symbols.SymbolId.{SymbolId}
use Rattle.forest.specs.declared.symbols.Token.{Token}
use Rattle.edit_log.specs.declared.definitions.DefKind.{DefKind}
use Rattle.edit_log.specs.declared.definitions.DefKind.TheVariants.{Token as token_of, Skip as skip}
use Rattle.edit_log.specs.declared.limits.TheConstants.{TOKEN_LIMIT}
use Rattle.edit_log.specs.Tokens.{tokens, no_token, too_many, token_at, Tokenizes}
use Rattle.isg_states.specs.declared.scan_key.ScanKey.{ScanKey}
use Rattle.live_graph.specs.Meaning.{GraphMeaning}
use Rattle.isg_scan.specs.Reach.{MeetsState, ReachesScan}
use Rattle.isg_scan.specs.Asked.{StandsButScans, AsksOnly}
use Rattle.isg_scan.specs.States.{KnowsStates}
use Rattle.isg_scan.specs.Taken.{IsTaken}
use Rattle.isg_scan.specs.Walks.{IsBest, IsPieceWalked}
use Rattle.isg_scan.proofs.AskedKeys.{asks_none, asks_join, stands_same, stands_join}
use Rattle.isg_scan.proofs.Pieces.{none_is, longest_is, size_is, size_some}
use Rattle.isg_scan.proofs.ScannedTexts.{IsScannedTo, IsAskedTo, room_after, scanned_none, asked_none, meets_reached, scanned_stop, scanned_all}
use Rattle.isg_scan.proofs.ScannedTexts.{scanned_skip, scanned_token, scanned_full, behind, asked_stop, asked_skip, asked_token, asked_full}
use Rattle.isg_scan.proofs.ScannedTexts.{asked_all}

-- so far the text was scanned, for which the graph was asked for states that the scan reaches alone
pub record IsScanning {Base : Type 0} (old now : GraphMeaning Base) (keys : List ScanKey) (accepted : List (Option DefKind)) (table text : List ℕ) (offset : ℕ)
    (found : List Token) (before after : ℕ) : Type 0 where
  pub knows : KnowsStates now.grammar now.scans.keys keys accepted table
  pub scanned : IsScannedTo old.grammar text offset found
  pub asked : IsAskedTo old.grammar text now.scans.keys (room_after found) (drop offset text)
  pub asks : AsksOnly (ReachesScan old.grammar text) old now before after
  pub stands : StandsButScans old now
  pub never_back : before ≤ after

-- all states that the scan reaches were asked for, and no others
abbrev pub AsksReached : {Base : Type 0} → (old new : GraphMeaning Base) → List ℕ → Type 0
AsksReached old new text = (key : ScanKey) → Contains new.scans.keys key ↔ (Contains old.scans.keys key ⊎ ReachesScan old.grammar text key)

module _ {Base : Type 0} (old : GraphMeaning Base) (text : List ℕ) where
  asks_reached : (new : GraphMeaning Base) (before after : ℕ) → AsksOnly (ReachesScan old.grammar text) old new before after → ((key : ScanKey)
      → ReachesScan old.grammar text key → Contains new.scans.keys key)
      → AsksReached old new text
  asks_reached new before after asks whole = λ key. (asks.within key, λ either. elim either [ inl has ↦ asks.kept key has | inr reaches ↦ whole key reaches ])

  pub scan_start : (keys : List ScanKey) (accepted : List (Option DefKind)) (table : List ℕ) (steps : ℕ)
      → KnowsStates old.grammar old.scans.keys keys accepted table
      → IsScanning old old keys accepted table text 0 [] steps steps
  scan_start keys accepted table steps knows = record {
    knows = knows;
    scanned = scanned_none old.grammar text;
    asked = asked_none old.grammar text old.scans.keys;
    asks = asks_none (ReachesScan old.grammar text) old steps;
    stands = stands_same old;
    never_back = omega arith;
  }

  module _ (now : GraphMeaning Base) (keys : List ScanKey) (accepted : List (Option DefKind)) (table : List ℕ) (offset : ℕ) (found : List Token)
      (before between : ℕ)
      (scanning : IsScanning old now keys accepted table text offset found before between) where
    pub scan_ends : length text ≤ offset → Tokenizes old.grammar text (tokens found) × AsksReached old now text
    scan_ends past = (
      scanned_all old.grammar text offset found scanning.scanned past,
      asks_reached now before between scanning.asks (asked_all old.grammar text offset (room_after found) now.scans.keys scanning.asked past),
    )

    module _ (new : GraphMeaning Base) (after : ℕ) (best : Option (ℕ × DefKind)) (walked : IsPieceWalked new.grammar new.scans.keys (drop offset text) best)
        (asks : AsksOnly (MeetsState now.grammar (drop offset text)) now new between after) (stands : StandsButScans now new) (on : between ≤ after) where
      pub all_stands : StandsButScans old new
      all_stands = stands_join old now new scanning.stands stands

      best_here : IsBest old.grammar (drop offset text) (length (drop offset text)) best
      best_here = subst (λ grammar. IsBest grammar (drop offset text) (length (drop offset text)) best) all_stands.grammar walked.best_is

      met_here : (key : ScanKey) → MeetsState old.grammar (drop offset text) key → Contains new.scans.keys key
      met_here key meets = walked.met_asked key (subst (λ grammar. MeetsState grammar (drop offset text) key) (sym all_stands.grammar) meets)

      pub all_asks : AsksOnly (ReachesScan old.grammar text) old new before after
      all_asks = asks_join (ReachesScan old.grammar text) (MeetsState now.grammar (drop offset text)) (ReachesScan old.grammar text) old now new before between
          after (λ key reaches. reaches)
          (λ key meets. meets_reached old.grammar text offset found scanning.scanned key (subst (λ grammar. MeetsState grammar (drop offset text) key)
          scanning.stands.grammar meets))
          scanning.asks asks

      pub scan_stops : offset < length text → best ≡ None → Tokenizes old.grammar text (no_token offset) × AsksReached old new text
      scan_stops less is =
          let nothing = none_is old.grammar (drop offset text) (subst (IsBest old.grammar (drop offset text) (length (drop offset text))) is best_here) in (
            scanned_stop old.grammar text offset found scanning.scanned less nothing,
            asks_reached new before after all_asks (asked_stop old.grammar text offset found now.scans.keys new.scans.keys scanning.asked asks.kept
                met_here nothing),
          )

      module _ (size : ℕ) (kind : DefKind) (is : best ≡ Some (size, kind)) where
        piece_here : IsBest old.grammar (drop offset text) (length (drop offset text)) (Some (size, kind))
        piece_here = subst (IsBest old.grammar (drop offset text) (length (drop offset text))) is best_here

        pub piece_within : (0 < size) × (offset + size ≤ length text)
        piece_within = (
          size_some old.grammar (drop offset text) size kind piece_here,
          omega (arith, piece_here.0, length-drop offset text, scanning.scanned.within),
        )

        pub scan_full : (symbol : SymbolId) → kind ≡ token_of symbol → length found ≡ TOKEN_LIMIT
            → Tokenizes old.grammar text (too_many offset) × AsksReached old new text
        scan_full symbol kind_is all =
            let longest = longest_is old.grammar (drop offset text) size kind piece_here in
            let own = piece_here.1.kind_is ∙ ap Some kind_is in (
              scanned_full old.grammar text offset found scanning.scanned (take size (drop offset text)) (drop size (drop offset text)) piece_here.1.winner
                  longest piece_here.1.wins symbol own all,
              asks_reached new before after all_asks
                  (asked_full old.grammar text offset found now.scans.keys new.scans.keys scanning.asked asks.kept met_here (take size (drop offset text))
                  (drop size (drop offset text)) piece_here.1.winner longest piece_here.1.wins
                  symbol own all),
            )

        module _ (others : List ScanKey) (kinds : List (Option DefKind)) (rows : List ℕ)
            (knows : KnowsStates new.grammar new.scans.keys others kinds rows) where
          scan_on : (more : List Token) → IsScannedTo old.grammar text (offset + size) more
              → IsAskedTo old.grammar text new.scans.keys (room_after more) (drop (offset + size) text)
              → IsScanning old new others kinds rows text (offset + size) more before after
          scan_on more scanned asked = record {
            knows = knows;
            scanned = scanned;
            asked = asked;
            asks = all_asks;
            stands = all_stands;
            never_back = omega
                (arith, scanning.never_back, on);
          }

          taken_kind : (k : DefKind) → kind ≡ k → (more : List Token) → IsTaken k offset (offset + size) found more
              → IsScanning old new others kinds rows text (offset + size) more before after
          taken_kind skip kind_is more taken =
              let piece = take size (drop offset text) in
              let rest = drop size (drop offset text) in
              let longest = longest_is old.grammar (drop offset text) size kind piece_here in
              let own = piece_here.1.kind_is ∙ ap Some kind_is in
              let winner = piece_here.1.winner in
              let wins = piece_here.1.wins in
              let length_is = size_is old.grammar (drop offset text) size kind piece_here in
              let past = behind old.grammar text offset found scanning.scanned piece rest winner longest wins in
              subst (λ list. IsScanning old new others kinds rows text (offset + size) list before after) (sym taken)
              (scan_on found
              (subst (λ n. IsScannedTo old.grammar text (offset + n) found) length_is (scanned_skip old.grammar text offset found scanning.scanned piece
              rest winner longest wins own))
              (subst (λ n. IsAskedTo old.grammar text new.scans.keys (room_after found) (drop (offset + n) text)) length_is
              (asked_skip old.grammar text offset found now.scans.keys new.scans.keys scanning.asked asks.kept met_here piece rest winner longest wins own
              past)))
          taken_kind (token_of symbol) kind_is more taken =
              let piece = take size (drop offset text) in
              let rest = drop size (drop offset text) in
              let longest = longest_is old.grammar (drop offset text) size kind piece_here in
              let own = piece_here.1.kind_is ∙ ap Some kind_is in
              let winner = piece_here.1.winner in
              let wins = piece_here.1.wins in
              let length_is = size_is old.grammar (drop offset text) size kind piece_here in
              let past = behind old.grammar text offset found scanning.scanned piece rest winner longest wins in
              let token = token_at symbol offset (offset + size) in
              subst (λ list. IsScanning old new others kinds rows text (offset + size) list before after) (sym taken.1)
              (scan_on (found ++ token ∷ [])
              (subst (λ n. IsScannedTo old.grammar text (offset + n) (found ++ token_at symbol offset (offset + n) ∷ [])) length_is
              (scanned_token old.grammar text offset found scanning.scanned piece rest winner longest wins symbol own taken.0))
              (subst (λ n. IsAskedTo old.grammar text new.scans.keys (room_after (found ++ token ∷ [])) (drop (offset + n) text)) length_is
              (asked_token old.grammar text offset found now.scans.keys new.scans.keys scanning.asked asks.kept met_here piece rest winner longest wins
              symbol token own taken.0 past)))

          pub scan_more : (more : List Token) → IsTaken kind offset (offset + size) found more
              → IsScanning old new others kinds rows text (offset + size) more before after
          scan_more more taken = taken_kind kind refl more taken
