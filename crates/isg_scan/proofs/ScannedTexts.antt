-- Scanning a text from its beginning.
use Rattle.std.proofs.Common.{◌≡◌, inl, inr, ◌⊎◌, ℕ, ◌+◌, ◌-◌, ◌<◌, ◌≤◌, List, [], ◌∷◌, ◌++◌, length, take, drop, Some, Contains, refl, ap, sym, ◌∙◌}
use Rattle.std.proofs.Common.{subst, arith, append-nil, length-append, length-drop}
use Rattle.std.proofs.lemmas.List.{drop_all, drop-drop}
use Rattle.std.proofs.lemmas.Grind.{common_steps}
use Rattle.std.proofs.Math.Seq.{drop-append_seam}
use Rattle.forest.specs.declared.symbols.SymbolId.{SymbolId}
use Rattle.forest.specs.declared.symbols.Token.{Token}
use Rattle.edit_log.specs.declared.definitions.DefId.{DefId}
use Rattle.edit_log.specs.declared.definitions.DefKind.TheVariants.{Token as token_of, Skip as skip}
use Rattle.edit_log.specs.declared.limits.TheConstants.{TOKEN_LIMIT}
use Rattle.edit_log.specs.History.{Grammar}
use Rattle.edit_log.specs.Live.{kind_of}
use Rattle.edit_log.specs.Tokens.{IsMatched, IsWinner, IsLongest, Scan, tokens, no_token, too_many, before, token_at, TokenizesFrom, end, none}
use Rattle.edit_log.specs.Tokens.{skipped, full, more, Tokenizes}
use Rattle.isg_states.specs.declared.scan_key.ScanKey.{ScanKey}
use Rattle.isg_states.specs.declared.scan_key.ScanKey.TheVariants.{Start, Set}
use Rattle.isg_scan.specs.Reach.{ComesTo, here, past_skip, past_token, BeginsPiece, MeetsState, ReachesScan}
use Rattle.isg_scan.proofs.Pieces.{comes_none, comes_past_skip, comes_past_token, comes_full}

-- the tokens before those of a scan
abbrev pub before_all : List Token → Scan → Scan
before_all [] rest = rest
before_all (token ∷ found) rest = before token (before_all found rest)

before_all-push : (found : List Token) (token : Token) (rest : Scan) → before_all (found ++ token ∷ []) rest ≡ before_all found (before token rest)
before_all-push [] token rest = refl
before_all-push (first ∷ found) token rest = ap (before first) (before_all-push found token rest)

before_all-tokens : (found others : List Token) → before_all found (tokens others) ≡ tokens (found ++ others)
before_all-tokens [] others = refl
before_all-tokens (first ∷ found) others = ap (before first) (before_all-tokens found others)

before_all-no_token : (found : List Token) (offset : ℕ) → before_all found (no_token offset) ≡ no_token offset
before_all-no_token [] offset = refl
before_all-no_token (first ∷ found) offset = ap (before first) (before_all-no_token found offset)

before_all-too_many : (found : List Token) (offset : ℕ) → before_all found (too_many offset) ≡ too_many offset
before_all-too_many [] offset = refl
before_all-too_many (first ∷ found) offset = ap (before first) (before_all-too_many found offset)

-- the room that is left
abbrev pub room_after : List Token → ℕ
room_after found = TOKEN_LIMIT - length found

-- these tokens were found up to the offset, and the scan goes on from there
pub record IsScannedTo (grammar : Grammar) (text : List ℕ) (offset : ℕ) (found : List Token) : Type 0 where
  pub within : offset ≤ length text
  pub few : length found ≤ TOKEN_LIMIT
  pub goes_on : (rest : Scan) → TokenizesFrom grammar offset (room_after found) (drop offset text) rest → Tokenizes grammar text (before_all found rest)
  pub comes : (left : List ℕ) → ComesTo grammar (room_after found) (drop offset text) left → BeginsPiece grammar text left

-- the states that are still to be asked for are those that the rest of the scan reaches
abbrev pub IsAskedTo : Grammar → List ℕ → List ScanKey → (room : ℕ) → List ℕ → Type 0
IsAskedTo grammar text asked room ahead = (key : ScanKey) → ReachesScan grammar text key → Contains asked key ⊎ ((left : List ℕ) × ComesTo grammar room
    ahead left × MeetsState grammar left key)

pub scanned_none : (grammar : Grammar) (text : List ℕ) → IsScannedTo grammar text 0 []
scanned_none grammar text = record { within = omega arith; few = omega arith; goes_on = λ rest is. is; comes = λ left is. is }

pub asked_none : (grammar : Grammar) (text : List ℕ) (asked : List ScanKey) → IsAskedTo grammar text asked (room_after []) (drop 0 text)
asked_none grammar text asked = λ key reaches. inr (reaches.left, reaches.begins, reaches.meets)

-- what the piece meets is reached
pub meets_reached : (grammar : Grammar) (text : List ℕ) (offset : ℕ) (found : List Token) → IsScannedTo grammar text offset found → (key : ScanKey)
    → MeetsState grammar (drop offset text) key → ReachesScan grammar text key
meets_reached grammar text offset found is key meets = record { left = drop offset text; begins = is.comes (drop offset text) here; meets = meets }

module _ (grammar : Grammar) (text : List ℕ) (offset : ℕ) (found : List Token) (is : IsScannedTo grammar text offset found) where
  -- no piece is matched
  pub scanned_stop : offset < length text → ((piece rest : List ℕ) → drop offset text ≡ piece ++ rest → IsMatched grammar piece → ⊥)
      → Tokenizes grammar text (no_token offset)
  scanned_stop less nothing =
      subst (Tokenizes grammar text) (before_all-no_token found offset) (is.goes_on (no_token offset) (none (omega (arith, length-drop offset text, less))
      nothing))

  pub scanned_all : length text ≤ offset → Tokenizes grammar text (tokens found)
  scanned_all past =
      subst (Tokenizes grammar text) (before_all-tokens found [] ∙ ap tokens (append-nil found))
      (is.goes_on (tokens []) (subst (λ bytes. TokenizesFrom grammar offset (room_after found) bytes (tokens [])) (sym (drop_all offset text past)) end))

  module _ (piece rest : List ℕ) (winner : DefId) (longest : IsLongest grammar (drop offset text) piece rest) (wins : IsWinner grammar piece winner) where
    pub behind : drop (offset + length piece) text ≡ rest
    behind = sym (drop-drop (length piece) offset text) ∙ ap (drop (length piece)) longest.begins ∙ drop-append_seam piece rest

    next_within : offset + length piece ≤ length text
    next_within = omega (arith, is.within, length-drop offset text, ap length longest.begins, length-append piece rest)

    pub scanned_skip : kind_of grammar winner ≡ Some skip → IsScannedTo grammar text (offset + length piece) found
    scanned_skip kind = record {
      within = next_within;
      few = is.few;
      goes_on = λ scan further. is.goes_on scan (skipped longest wins kind (subst (λ bytes. TokenizesFrom grammar (offset + length piece) (room_after
          found) bytes scan) behind further));
      comes = λ left comes. is.comes left (past_skip longest wins kind (subst (λ bytes. ComesTo grammar (room_after found) bytes left) behind comes));
    }

    pub scanned_token : (kind : SymbolId) → kind_of grammar winner ≡ Some (token_of kind) → length found < TOKEN_LIMIT
        → IsScannedTo grammar text (offset + length piece) (found ++ token_at kind offset (offset + length piece) ∷ [])
    scanned_token kind kind_is few =
        let token = token_at kind offset (offset + length piece) in
        let less = room_after (found ++ token ∷ []) in
        let room : room_after found ≡ less + 1 = omega (arith, length-append found (token ∷ []), few) in
        record {
          within = next_within;
          few = omega (arith, length-append found (token ∷ []), few);
          goes_on = λ scan further.
              let step : TokenizesFrom grammar offset (less + 1) (drop offset text) (before token scan) =
              more longest wins kind_is (subst (λ bytes. TokenizesFrom grammar (offset + length piece) less bytes scan) behind further) in
              subst (Tokenizes grammar text) (sym (before_all-push found token scan))
              (is.goes_on (before token scan) (subst (λ n. TokenizesFrom grammar offset n (drop offset text) (before token scan)) (sym room) step));
          comes = λ left comes.
              let step : ComesTo grammar (less + 1) (drop offset text) left = past_token longest wins kind_is (subst (λ bytes. ComesTo grammar less bytes
              left) behind comes) in
              is.comes left (subst (λ n. ComesTo grammar n (drop offset text) left) (sym room) step);
        }

    pub scanned_full : (kind : SymbolId) → kind_of grammar winner ≡ Some (token_of kind) → length found ≡ TOKEN_LIMIT → Tokenizes grammar text (too_many offset)
    scanned_full kind kind_is all =
        let room : room_after found ≡ 0 = omega (arith, all) in
        let step : TokenizesFrom grammar offset 0 (drop offset text) (too_many offset) = full longest wins kind_is in
        subst (Tokenizes grammar text) (before_all-too_many found offset)
        (is.goes_on (too_many offset) (subst (λ n. TokenizesFrom grammar offset n (drop offset text) (too_many offset)) (sym room) step))

-- ---- what is asked for

module _ (grammar : Grammar) (text : List ℕ) (offset : ℕ) (found : List Token) (asked more_asked : List ScanKey) (whole : IsAskedTo grammar text asked
    (room_after found) (drop offset text))
    (kept : (key : ScanKey) → Contains asked key → Contains more_asked key) (met : (key : ScanKey) → MeetsState grammar (drop offset text) key
    → Contains more_asked key) where
  -- the rest of the scan comes no further
  asked_here : ((left : List ℕ) → ComesTo grammar (room_after found) (drop offset text) left → left ≡ drop offset text) → (key : ScanKey)
      → ReachesScan grammar text key → Contains more_asked key
  asked_here only key reaches = elim (whole key reaches) [
    | inl has ↦ kept key has
    | inr ahead ↦ met key (subst (λ left. MeetsState grammar left key) (only ahead.0 ahead.1) ahead.2)
  ]

  pub asked_stop : ((piece rest : List ℕ) → drop offset text ≡ piece ++ rest → IsMatched grammar piece → ⊥) → (key : ScanKey)
      → ReachesScan grammar text key → Contains more_asked key
  asked_stop nothing = asked_here (λ left comes. comes_none grammar (room_after found) (drop offset text) left nothing comes)

  asked_past : (room : ℕ) (rest : List ℕ) → ((left : List ℕ) → ComesTo grammar (room_after found) (drop offset text) left
      → (left ≡ drop offset text) ⊎ ComesTo grammar room rest left)
      → IsAskedTo grammar text more_asked room rest
  asked_past room rest further = λ key reaches. elim (whole key reaches) [
    | inl has ↦ inl (kept key has)
    | inr ahead ↦ elim (further ahead.0 ahead.1) [
      | inl same ↦ inl (met key (subst (λ left. MeetsState grammar left key) same ahead.2))
      | inr comes ↦ inr (ahead.0, comes, ahead.2)
    ]
  ]

  module _ (piece rest : List ℕ) (winner : DefId) (longest : IsLongest grammar (drop offset text) piece rest) (wins : IsWinner grammar piece winner) where
    pub asked_skip : kind_of grammar winner ≡ Some skip → drop (offset + length piece) text ≡ rest
        → IsAskedTo grammar text more_asked (room_after found) (drop (offset + length piece) text)
    asked_skip kind behind = subst (IsAskedTo grammar text more_asked (room_after found)) (sym behind)
        (asked_past (room_after found) rest (λ left comes. comes_past_skip grammar (room_after found) (drop offset text) left piece rest winner longest
        wins kind comes))

    pub asked_token : (kind : SymbolId) (token : Token) → kind_of grammar winner ≡ Some (token_of kind) → length found < TOKEN_LIMIT
        → drop (offset + length piece) text ≡ rest
        → IsAskedTo grammar text more_asked (room_after (found ++ token ∷ [])) (drop (offset + length piece) text)
    asked_token kind token kind_is few behind =
        let less = room_after (found ++ token ∷ []) in
        let room : room_after found ≡ less + 1 = omega (arith, length-append found (token ∷ []), few) in
        subst (IsAskedTo grammar text more_asked less) (sym behind)
        (asked_past less rest (λ left comes. comes_past_token grammar (room_after found) less (drop offset text) left piece rest winner kind room longest
        wins kind_is comes))

    pub asked_full : (kind : SymbolId) → kind_of grammar winner ≡ Some (token_of kind) → length found ≡ TOKEN_LIMIT → (key : ScanKey)
        → ReachesScan grammar text key → Contains more_asked key
    asked_full kind kind_is all = asked_here (λ left comes. comes_full grammar (room_after found) (drop offset text) left piece rest winner kind (omega
        (arith, all)) longest wins kind_is comes)

-- nothing is met in no text
none_met : (grammar : Grammar) (key : ScanKey) → MeetsState grammar [] key → ⊥
none_met grammar Start meets = absurd (omega (arith, meets))
none_met grammar (Set marks) meets = absurd (omega (arith, ap length meets.begins, length-append meets.part meets.rest, meets.nonempty))

pub asked_all : (grammar : Grammar) (text : List ℕ) (offset room : ℕ) (asked : List ScanKey) → IsAskedTo grammar text asked room (drop offset text)
    → length text ≤ offset → (key : ScanKey) → ReachesScan grammar text key
    → Contains asked key
asked_all grammar text offset room asked whole past key reaches = elim (whole key reaches) [
  | inl has ↦ has
  | inr ahead ↦
      let nothing : drop offset text ≡ [] = drop_all offset text past in
      let comes : ComesTo grammar room [] ahead.0 = subst (λ t. ComesTo grammar room t ahead.0) nothing ahead.1 in
      let same : ahead.0 ≡ [] = comes_none grammar room [] ahead.0 (λ piece rest is matched. omega (
        arith,
        ap length is,
        length-append piece rest,
        matched.some,
      )) comes in
      absurd (none_met grammar key (subst (λ left. MeetsState grammar left key) same ahead.2))
]

-- ---- the rest of a slice

pub rest_is : (bytes : List ℕ) (n : ℕ) → take (length bytes - n) (drop n bytes) ≡ drop n bytes
rest_is bytes n = grind (arith, common_steps)
