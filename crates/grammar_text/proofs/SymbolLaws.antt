-- Reading symbols: what is read is spelled so, and what is spelled so is read.
use Rattle.std.proofs.Common.{◌≡◌, ℕ, zero, suc, ◌+◌, ◌*◌, ◌<◌, ◌≤◌, Bool, true, false, cond, eqb, List, [], ◌∷◌, ◌++◌, length, drop, Option, Some, None, Ok}
use Rattle.std.proofs.Common.{Err, refl, sym, ap, subst, ◌∙◌, append_assoc, length-append, arith}
use Rattle.std.specs.List.{AllByRecursion, flat_map}
use Rattle.std.proofs.lemmas.Bool.{eqb-true, and_parts, not-true}
use Rattle.grammar_text.specs.declared.bad_edit.BadEdit.{BadEdit}
use Rattle.grammar_text.specs.declared.bad_edit.BadEdit.TheVariants.{BadName}
use Rattle.grammar_text.specs.declared.symbol.Symbol.{Symbol}
use Rattle.grammar_text.specs.declared.symbol.Symbol.TheVariants.{Named, Literal}
use Rattle.grammar_text.specs.Names.{is_name}
use Rattle.grammar_text.specs.Pieces.{Place, offset_of, is_blank, trimmed, piece_of, behind_piece, blank_led, is_empty}
use Rattle.grammar_text.specs.Spelling.{AreBlanks, SpellsSymbol, SpellsSymbols}
use Rattle.grammar_text.specs.Canonical.{escaped, symbol_text, symbols_text}
use Rattle.grammar_text.specs.Limits.{Room, the_limits, SymbolFits}
use Rattle.grammar_text.specs.Reading.{◌>>=◌, at, literal_at, literal_from, is_quoted, symbol_from, symbols_at}
use Rattle.grammar_text.proofs.Gaps.{IsWord, gapped, blanks_from_empty, piece_splits, behind_led, trimmed-blanks, empty-blanks, led-blanks, led-gap}
use Rattle.grammar_text.proofs.Gaps.{trimmed-word, piece-word, behind-word}
use Rattle.grammar_text.proofs.Literals.{literal_at-takes, literal_at-len, literal_at-again}
use Rattle.grammar_text.proofs.NameBytes.{name_facts, not-quoted, not-empty}
use Rattle.grammar_text.proofs.Words.{bind_ok, guard_ok, unless_ok, done, ok_is, not-empty-front}

-- the text is a symbol and the rest, before which a piece may end
pub record TakesSymbol (room : Room) (text : List ℕ) (symbol : Symbol) (rest : List ℕ) : Type 0 where
  pub piece : List ℕ
  pub spelled : SpellsSymbol piece symbol
  pub fits : SymbolFits room symbol
  pub parts : text ≡ piece ++ rest
  pub led : blank_led rest ≡ true

abbrev read_symbol : Symbol → Place → Symbol × Place
read_symbol symbol place = (symbol, place)

pub some_bytes : (bytes : List ℕ) → is_empty bytes ≡ false → 0 < length bytes
some_bytes [] is = absurd cc
some_bytes (byte ∷ bytes) is = omega arith

quote_first : (text : List ℕ) → is_quoted text ≡ true → text ≡ 34 ∷ drop 1 text
quote_first [] is = absurd cc
quote_first (first ∷ others) is = ap (λ (b : ℕ). b ∷ others) (eqb-true first 34 is)

quoted_text : (inner rest : List ℕ) → 34 ∷ (inner ++ 34 ∷ rest) ≡ (34 ∷ inner ++ 34 ∷ []) ++ rest
quoted_text inner rest = ap (λ (t : List ℕ). 34 ∷ t) (sym (append_assoc inner (34 ∷ []) rest))

literal_takes : (room : Room) (place : Place) (symbol : Symbol) (behind : Place) (read : Option (List ℕ × List ℕ)) → is_quoted place.left ≡ true
    → literal_at room.literal (drop 1 place.left) ≡ read
    → literal_from place read ≡ Ok (symbol, behind) → TakesSymbol room place.left symbol behind.left
literal_takes room place symbol behind None quoted is e = absurd cc
literal_takes room place symbol behind (Some found) quoted is e =
    let more = unless_ok (is_empty found.0) _ _ (read_symbol symbol behind) e in
    let g = guard_ok (blank_led found.1) _ (read_symbol (Literal found.0) (at place found.1)) (read_symbol symbol behind) more.1 in
    let took = literal_at-takes room.literal (drop 1 place.left) found.0 found.1 is in
    let whole : TakesSymbol room place.left (Literal found.0) found.1 = record {
      piece = 34 ∷ took.inner ++ 34 ∷ [];
      spelled = (took.inner, took.spelled, refl, some_bytes found.0 more.0);
      fits = literal_at-len room.literal (drop 1 place.left) found.0 found.1 is;
      parts = quote_first place.left quoted ∙ ap (λ (t : List ℕ). 34 ∷ t) took.parts ∙ quoted_text took.inner found.1;
      led = g.0;
    } in
    subst (λ (x : Symbol × Place). TakesSymbol room place.left x.0 x.1.left) g.1 whole

abbrev bad_name : Place → BadEdit
bad_name place = BadName (offset_of place)

symbol_go : (room : Room) (place : Place) (symbol : Symbol) (behind : Place) (quoted : Bool) → is_quoted place.left ≡ quoted
    → cond quoted (literal_from place (literal_at room.literal (drop 1 place.left)))
    (cond (is_name (piece_of place.left)) (done (read_symbol (Named (piece_of place.left)) (at place (behind_piece place.left)))) (Err (bad_name place)))
    ≡ Ok (symbol, behind) → TakesSymbol room place.left symbol behind.left
symbol_go room place symbol behind true is e = literal_takes room place symbol behind (literal_at room.literal (drop 1 place.left)) is refl e
symbol_go room place symbol behind false is e =
    let g = guard_ok (is_name (piece_of place.left)) _ (read_symbol (Named (piece_of place.left)) (at place (behind_piece place.left)))
    (read_symbol symbol behind) e in
    let whole : TakesSymbol room place.left (Named (piece_of place.left)) (behind_piece place.left) = record {
      piece = piece_of place.left;
      spelled = (refl, g.0);
      fits = tt;
      parts = sym (piece_splits place.left);
      led = behind_led place.left;
    } in
    subst (λ (x : Symbol × Place). TakesSymbol room place.left x.0 x.1.left) g.1 whole

pub symbol_takes : (room : Room) (place : Place) (symbol : Symbol) (behind : Place) → symbol_from room place ≡ Ok (symbol, behind)
    → TakesSymbol room place.left symbol behind.left
unfolding symbol_from
symbol_takes room place symbol behind e = symbol_go room place symbol behind (is_quoted place.left) refl e

-- ---- all symbols of a right side

pub record ReadsSymbols (room : Room) (count : ℕ) (text : List ℕ) (symbols : List Symbol) : Type 0 where
  pub spelled : SpellsSymbols text symbols
  pub short : length symbols ≤ count
  pub fits : AllByRecursion (SymbolFits room) symbols

no_symbols : (room : Room) (count : ℕ) (text : List ℕ) (symbols : List Symbol) → is_empty (trimmed text) ≡ true → done [] ≡ done symbols
    → ReadsSymbols room count text symbols
no_symbols room count text symbols none e =
    let whole : ReadsSymbols room count text [] = record { spelled = blanks_from_empty text none; short = omega arith; fits = tt } in
    subst (λ (s : List Symbol). ReadsSymbols room count text s) (ok_is [] symbols e) whole

one_symbol : (room : Room) (count : ℕ) (text : List ℕ) (symbol : Symbol) (rest : List ℕ) (symbols : List Symbol) → blank_led text ≡ true
    → is_empty (trimmed text) ≡ false
    → TakesSymbol room (trimmed text) symbol rest → ReadsSymbols room count rest symbols → ReadsSymbols room (suc count) text (symbol ∷ symbols)
one_symbol room count text symbol rest symbols led more first others =
    let before = gapped text led more in
    record {
      spelled = (before.gap, first.piece, rest, before.is_gap, first.spelled, others.spelled, before.parts ∙ ap (λ (t : List ℕ). before.gap ++ t) first.parts);
      short = let short : length symbols ≤ count = others.short in omega arith;
      fits = (first.fits, others.fits);
    }

symbols_go : (room : Room) (count : ℕ) (place : Place) (symbols : List Symbol) (none : Bool) → is_empty (trimmed place.left) ≡ none
    → blank_led place.left ≡ true
    → ((behind : Place) (others : List Symbol) → blank_led behind.left ≡ true → symbols_at room count behind
    ≡ Ok others → ReadsSymbols room count behind.left others)
    → cond none (done []) (symbol_from room (at place (trimmed place.left)) >>= λ first. symbols_at room count first.1 >>= λ others. Ok (first.0 ∷ others))
    ≡ Ok symbols → ReadsSymbols room (suc count) place.left symbols
symbols_go room count place symbols true is led later e = no_symbols room (suc count) place.left symbols is e
symbols_go room count place symbols false is led later e =
    let a = bind_ok (symbol_from room (at place (trimmed place.left))) (λ first. symbols_at room count first.1 >>= λ others. Ok (first.0 ∷ others)) symbols e in
    let b = bind_ok (symbols_at room count a.0.1) (λ others. Ok (a.0.0 ∷ others)) symbols a.2 in
    let first = symbol_takes room (at place (trimmed place.left)) a.0.0 a.0.1 a.1 in
    let others = later a.0.1 b.0 first.led b.1 in
    subst (λ (s : List Symbol). ReadsSymbols room (suc count) place.left s) (ok_is (a.0.0 ∷ b.0) symbols b.2)
    (one_symbol room count place.left a.0.0 a.0.1.left b.0 led is first others)

pub symbols_take : (room : Room) (count : ℕ) (place : Place) (symbols : List Symbol) → blank_led place.left ≡ true → symbols_at room count place ≡ Ok symbols
    → ReadsSymbols room count place.left symbols
unfolding symbols_at
symbols_take room zero place symbols led e =
    let g = guard_ok (is_empty (trimmed place.left)) _ [] symbols e in
    no_symbols room 0 place.left symbols g.0 (ap (λ (s : List Symbol). done s) g.1)
symbols_take room (suc count) place symbols led e =
    symbols_go room count place symbols (is_empty (trimmed place.left)) refl led (λ behind others l r. symbols_take room count behind others l r) e

-- ---- what is spelled so is read

pub not_empty : (bytes : List ℕ) → 0 < length bytes → is_empty bytes ≡ false
not_empty [] some = absurd (omega (arith, some))
not_empty (byte ∷ bytes) some = refl

pub symbol_again : (room : Room) (len : ℕ) (piece : List ℕ) (symbol : Symbol) (rest : List ℕ) → SpellsSymbol piece symbol → SymbolFits room symbol
    → blank_led rest ≡ true
    → symbol_from room (record { len = len; left = piece ++ rest }) ≡ Ok (symbol, record { len = len; left = rest })
unfolding symbol_from
symbol_again room len piece (Named name) rest spelled fits led =
    let plain = (name_facts name spelled.1).word in
    rw (spelled.0, not-quoted name rest spelled.1, piece-word name rest plain led, behind-word name rest plain led, spelled.1) refl
symbol_again room len piece (Literal bytes) rest spelled fits led =
    let regrouped : (spelled.0 ++ 34 ∷ []) ++ rest ≡ spelled.0 ++ 34 ∷ rest = append_assoc spelled.0 (34 ∷ []) rest in
    rw (spelled.2, regrouped, literal_at-again room.literal spelled.0 bytes rest spelled.1 fits, not_empty bytes spelled.3, led) refl

trimmed-name : (word rest : List ℕ) → 0 < length word → IsWord word → trimmed (word ++ rest) ≡ word ++ rest
trimmed-name [] rest some plain = absurd (omega (arith, some))
trimmed-name (first ∷ others) rest some plain = trimmed-word first (others ++ rest) (not-true (is_blank first) (and_parts _ _ plain).0)

-- a symbol's first byte is no blank
symbol_front : (piece : List ℕ) (symbol : Symbol) (gap rest : List ℕ) → SpellsSymbol piece symbol → AreBlanks gap
    → trimmed (gap ++ (piece ++ rest)) ≡ piece ++ rest
symbol_front piece (Named name) gap rest spelled blank =
    let facts = name_facts name spelled.1 in
    trimmed-blanks gap (piece ++ rest) blank ∙ rw spelled.0 (trimmed-name name rest (not-empty name spelled.1) facts.word)
symbol_front piece (Literal bytes) gap rest spelled blank = trimmed-blanks gap (piece ++ rest) blank ∙ rw spelled.2 refl

symbol_some : (piece : List ℕ) (symbol : Symbol) → SpellsSymbol piece symbol → 0 < length piece
symbol_some piece (Named name) spelled = rw spelled.0 (not-empty name spelled.1)
symbol_some piece (Literal bytes) spelled = rw spelled.2 (omega arith)

pub symbols_led : (text : List ℕ) (symbols : List Symbol) → SpellsSymbols text symbols → blank_led text ≡ true
symbols_led text [] spelled = led-blanks text spelled
symbols_led text (symbol ∷ symbols) spelled = rw spelled.6 (led-gap spelled.0 (spelled.1 ++ spelled.2) spelled.3)

none_again : (room : Room) (count len : ℕ) (text : List ℕ) → AreBlanks text → symbols_at room count (record { len = len; left = text }) ≡ Ok []
unfolding symbols_at
none_again room zero len text blank = rw (empty-blanks text blank) refl
none_again room (suc count) len text blank = rw (empty-blanks text blank) refl

pub symbols_again : (room : Room) (count len : ℕ) (text : List ℕ) (symbols : List Symbol) → SpellsSymbols text symbols → length symbols ≤ count
    → AllByRecursion (SymbolFits room) symbols
    → symbols_at room count (record { len = len; left = text }) ≡ Ok symbols
unfolding symbols_at
symbols_again room count len text [] spelled short fits = none_again room count len text spelled
symbols_again room zero len text (symbol ∷ symbols) spelled short fits = absurd (omega (arith, short))
symbols_again room (suc count) len text (symbol ∷ symbols) spelled short fits =
    let front : trimmed text ≡ spelled.1 ++ spelled.2 = ap trimmed spelled.6 ∙ symbol_front spelled.1 symbol spelled.0 spelled.2 spelled.4 spelled.3.0 in
    let some : is_empty (spelled.1 ++ spelled.2) ≡ false = not-empty-front spelled.1 spelled.2 (symbol_some spelled.1 symbol spelled.4) in
    let first = symbol_again room len spelled.1 symbol spelled.2 spelled.4 fits.0 (symbols_led spelled.2 symbols spelled.5) in
    let others = symbols_again room count len spelled.2 symbols spelled.5 (omega (arith, short)) fits.1 in
    rw (front, some, first, others) refl

-- ---- how long they are written

one_escaped : (quote slash line tab : Bool) (byte : ℕ) → length
    (cond quote (92 ∷ 34 ∷ []) (cond slash (92 ∷ 92 ∷ []) (cond line (92 ∷ 110 ∷ []) (cond tab (92 ∷ 116 ∷ []) (byte ∷ []))))) ≤ 2
one_escaped true slash line tab byte = omega arith
one_escaped false true line tab byte = omega arith
one_escaped false false true tab byte = omega arith
one_escaped false false false true byte = omega arith
one_escaped false false false false byte = omega arith

escaped_len : (bytes : List ℕ) → length (flat_map escaped bytes) ≤ 2 * length bytes
escaped_len [] = omega arith
escaped_len (byte ∷ bytes) =
    let later : length (flat_map escaped bytes) ≤ 2 * length bytes = escaped_len bytes in
    let joined : length (escaped byte ++ flat_map escaped bytes) ≡ length (escaped byte) + length (flat_map escaped bytes) =
    length-append (escaped byte) (flat_map escaped bytes) in
    let short : length (escaped byte) ≤ 2 = one_escaped (eqb byte 34) (eqb byte 92) (eqb byte 10) (eqb byte 9) byte in
    omega arith

symbol_len : (piece : List ℕ) (symbol : Symbol) → SpellsSymbol piece symbol → SymbolFits the_limits symbol → length (symbol_text symbol) ≤ 66
symbol_len piece (Named name) spelled fits = let short : length name ≤ 32 = (name_facts name spelled.1).short in omega arith
symbol_len piece (Literal bytes) spelled fits =
    let short : length bytes ≤ 32 = fits in
    let inside : length (flat_map escaped bytes) ≤ 2 * length bytes = escaped_len bytes in
    let joined : length (flat_map escaped bytes ++ 34 ∷ []) ≡ length (flat_map escaped bytes) + 1 = length-append (flat_map escaped bytes) (34 ∷ []) in
    omega arith

pub symbols_len : (text : List ℕ) (symbols : List Symbol) → SpellsSymbols text symbols → AllByRecursion (SymbolFits the_limits) symbols
    → length (symbols_text symbols) ≤ 67 * length symbols
symbols_len text [] spelled fits = omega arith
symbols_len text (symbol ∷ symbols) spelled fits =
    let first : length (symbol_text symbol) ≤ 66 = symbol_len spelled.1 symbol spelled.4 fits.0 in
    let others : length (symbols_text symbols) ≤ 67 * length symbols = symbols_len spelled.2 symbols spelled.5 fits.1 in
    let joined : length (symbol_text symbol ++ symbols_text symbols) ≡ length (symbol_text symbol) + length (symbols_text symbols) =
    length-append (symbol_text symbol) (symbols_text symbols) in
    omega arith
