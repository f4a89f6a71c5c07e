-- The kinds of a text's tokens are numbers of symbols and no left sides, and there are not too many.
use Rattle.std.proofs.Common.{◌≡◌, ℕ, zero, suc, ◌+◌, ◌<◌, ◌≤◌, List, [], ◌∷◌, length, Contains, cond, Bool, true, false, ◌==◌, Option, Some, None, option_map}
use Rattle.std.proofs.Common.{get_or, find, refl, ap, sym, ◌∙◌, subst, arith}
use Rattle.std.specs.List.{AllByRecursion}
use Rattle.std.proofs.lemmas.Bool.{and_parts}
use Rattle.std.proofs.lemmas.Option.{slice_get_within, get_or_from_slice_get}
use Rattle.std.proofs.lemmas.List.Elements.{All-from_recursion}
use Rattle.grammar_text.specs.declared.symbol.Symbol.{Symbol}
use Rattle.grammar_text.specs.declared.symbol.Symbol.TheVariants.{Named, Literal}
use Rattle.forest.specs.declared.symbols.SymbolId.{SymbolId}
use Rattle.forest.specs.declared.symbols.Token.{Token}
use Rattle.forest.specs.declared.rules.RuleId.{RuleId}
use Rattle.forest.specs.Derivation.{IsNonterminal, AreTerminals}
use Rattle.edit_log.specs.declared.definitions.DefId.{DefId}
use Rattle.edit_log.specs.declared.definitions.DefId.TheVariants.{Literal as literal, Named as named}
use Rattle.edit_log.specs.declared.definitions.DefKind.TheVariants.{Token as token_of, Skip as skip}
use Rattle.edit_log.specs.declared.limits.TheConstants.{TOKEN_LIMIT}
use Rattle.edit_log.specs.Symbols.{symbol_at, symbol_bytes}
use Rattle.edit_log.specs.History.{Definition, Grammar}
use Rattle.edit_log.specs.Live.{is_literal, is_live_literal, kind_of, kind_of_definition, definition_of}
use Rattle.edit_log.specs.Facts.{IsNamed, IsWellFormed}
use Rattle.edit_log.specs.Tokens.{Scan, tokens, no_token, too_many, before, token_at, TokenizesFrom, end, none, skipped, full, more, Tokenizes}
use Rattle.replies.specs.Known.{AreKnownTokens}
use Rattle.rekers.specs.Answers.{kinds_of}

-- ---- what holds of each token

-- some live definition is the token of this kind
HasDefinition : Grammar → SymbolId → Type 0
HasDefinition grammar kind = (winner : DefId) × (kind_of grammar winner ≡ Some (token_of kind))

abbrev AreDefined : Grammar → Scan → Type 0
AreDefined grammar (tokens found) = AllByRecursion (λ token. HasDefinition grammar token.kind) found
AreDefined grammar (no_token offset) = Unit {0}
AreDefined grammar (too_many offset) = Unit {0}

more_defined : (grammar : Grammar) (token : Token) (rest : Scan) → HasDefinition grammar token.kind → AreDefined grammar rest
    → AreDefined grammar (before token rest)
more_defined grammar token (tokens others) one all = (one, all)
more_defined grammar token (no_token offset) one all = tt
more_defined grammar token (too_many offset) one all = tt

are_defined : (grammar : Grammar) (offset room : ℕ) (text : List ℕ) (scan : Scan) → TokenizesFrom grammar offset room text scan → AreDefined grammar scan
unfolding HasDefinition
are_defined grammar offset room text scan end = tt
are_defined grammar offset room text scan (none some nothing) = tt
are_defined grammar offset room text scan (skipped {piece = piece} {rest = rest} longest wins kind later) =
    are_defined grammar (offset + length piece) room rest scan later
are_defined grammar offset room text scan (full longest wins kind) = tt
are_defined grammar offset room text scan (more {room = left} {piece = piece} {rest = rest} {winner = winner} {kind = kind} {scan =
    others} longest wins is later) =
    more_defined grammar (token_at kind offset (offset + length piece)) others (winner, is) (are_defined grammar (offset + length piece) left rest others later)

-- ---- how many there are

abbrev AreFew : ℕ → Scan → Type 0
AreFew room (tokens found) = length found ≤ room
AreFew room (no_token offset) = Unit {0}
AreFew room (too_many offset) = Unit {0}

more_few : (token : Token) (room : ℕ) (rest : Scan) → AreFew room rest → AreFew (room + 1) (before token rest)
more_few token room (tokens others) few = omega (arith, few)
more_few token room (no_token offset) few = tt
more_few token room (too_many offset) few = tt

are_few : (grammar : Grammar) (offset room : ℕ) (text : List ℕ) (scan : Scan) → TokenizesFrom grammar offset room text scan → AreFew room scan
are_few grammar offset room text scan end = omega arith
are_few grammar offset room text scan (none some nothing) = tt
are_few grammar offset room text scan (skipped {piece = piece} {rest = rest} longest wins kind later) =
    are_few grammar (offset + length piece) room rest scan later
are_few grammar offset room text scan (full longest wins kind) = tt
are_few grammar offset room text scan (more {room = left} {piece = piece} {rest = rest} {kind = kind} {scan = others} longest wins is later) =
    more_few (token_at kind offset (offset + length piece)) left others (are_few grammar (offset + length piece) left rest others later)

pub few_tokens : (grammar : Grammar) (text : List ℕ) (found : List Token) → Tokenizes grammar text (tokens found) → length found ≤ TOKEN_LIMIT
few_tokens grammar text found is = are_few grammar 0 TOKEN_LIMIT text (tokens found) is

-- ---- the kind of a literal

-- a literal is the token of its own symbol
literal_is : (grammar : Grammar) (symbol kind : SymbolId) → kind_of grammar (literal symbol) ≡ Some (token_of kind)
    → (is_live_literal grammar symbol ≡ true) × (symbol ≡ kind)
literal_is grammar symbol kind is = by (is_live_literal grammar symbol) refl is
  where
    by : (there : Bool) → is_live_literal grammar symbol ≡ there → cond there (Some (token_of symbol)) None ≡ Some (token_of kind)
        → (there ≡ true) × (symbol ≡ kind)
    by true e same = (refl, (cc same))
    by false e same = cc same

as_literal : (s : Symbol) → is_literal s ≡ true → s ≡ Literal (symbol_bytes s)
as_literal (Named name) e = cc
as_literal (Literal bytes) e = refl

past_end : (symbols : List Symbol) (n : ℕ) → is_literal (get_or symbols n (Named [])) ≡ true → n < length symbols
past_end [] n e = cc
past_end (s ∷ symbols) zero e = omega arith
past_end (s ∷ symbols) (suc n) e = omega (arith, past_end symbols n e)

-- ---- the kind of a named token

first_or : {X : Type 0} (test : X → Bool) (y : X) (xs : List X) (it : Bool) → test y ≡ it → find test (y ∷ xs) ≡ cond it (Some y) (find test xs)
first_or test y xs true e = rw e refl
first_or test y xs false e = rw e refl

found_in : {X : Type 0} (test : X → Bool) (P : X → Type 0) (xs : List X) (x : X) → AllByRecursion P xs → find test xs ≡ Some x → P x
found_in test P [] x all is = cc is
found_in test P (y ∷ xs) x all is = by (test y) refl (λ rest. found_in test P xs x all.1 rest)
  where
    by : (it : Bool) → test y ≡ it → (find test xs ≡ Some x → P x) → P x
    by true e later = let same : y ≡ x = cc (first_or test y xs true e, is) in subst P same all.0
    by false e later = later (sym (first_or test y xs false e) ∙ is)

-- a named token is the token of its name's symbol
named_is : (live : Definition) (kind : SymbolId) → kind_of_definition live ≡ token_of kind → live.name ≡ kind
named_is live kind is = by live.is_skip refl is
  where
    by : (it : Bool) → live.is_skip ≡ it → cond it skip (token_of live.name) ≡ token_of kind → live.name ≡ kind
    by true e same = cc same
    by false e same = cc same

-- what holds of the names of all live tokens and skips holds of the kind of a named token
name_has : (grammar : Grammar) (P : SymbolId → Type 0) (number : RuleId) (kind : SymbolId) → AllByRecursion (λ live. P live.name) grammar.definitions
    → kind_of grammar (named number) ≡ Some (token_of kind) → P kind
name_has grammar P number kind all is = by (definition_of grammar number) refl is
  where
    by : (live : Option Definition) → definition_of grammar number ≡ live → option_map kind_of_definition live ≡ Some (token_of kind) → P kind
    by None e same = cc same
    by (Some live) e same =
        let kinds : kind_of_definition live ≡ token_of kind = cc same in
        subst P (named_is live kind kinds) (found_in (λ (d : Definition). d.number.0 == number.0) (λ d. P d.name) grammar.definitions live all e)

-- ---- kinds are symbols and no left sides

at_each : {X : Type 0} (P : X → Type 0) (xs : List X) (x : X) → AllByRecursion P xs → Contains xs x → P x
at_each P xs x all has = subst P has.2 (All-from_recursion P xs all has.0 x has.1)

named_below : (symbols : List Symbol) (number : SymbolId) → IsNamed symbols number → number.0 < length symbols
named_below symbols number is = slice_get_within symbols number.0 (Named is.0) is.1

known_kind : (grammar : Grammar) (kind : SymbolId) → IsWellFormed grammar → HasDefinition grammar kind → kind.0 < length grammar.symbols
unfolding HasDefinition
known_kind grammar kind formed (literal symbol, is) =
    let live = literal_is grammar symbol kind is in
    subst (λ (x : SymbolId). x.0 < length grammar.symbols) live.1 (past_end grammar.symbols symbol.0 (and_parts _ _ live.0).0)
known_kind grammar kind formed (named number, is) = named_below grammar.symbols kind (name_has grammar (IsNamed grammar.symbols) number kind formed.names is)

no_left_side : (grammar : Grammar) (kind : SymbolId) → IsWellFormed grammar → HasDefinition grammar kind → IsNonterminal grammar.rules kind → ⊥
unfolding HasDefinition
no_left_side grammar kind formed (literal symbol, is) left =
    let live = literal_is grammar symbol kind is in
    let is_named = at_each (λ r. IsNamed grammar.symbols r.left) grammar.rules left.0 formed.lefts left.1 in
    let name_at : symbol_at grammar.symbols left.0.left ≡ Named is_named.0 = get_or_from_slice_get grammar.symbols left.0.left.0 (Named is_named.0)
    (Named []) is_named.1 in
    let literal_at : symbol_at grammar.symbols symbol ≡ Literal (symbol_bytes (symbol_at grammar.symbols symbol)) =
    as_literal (symbol_at grammar.symbols symbol) (and_parts _ _ live.0).0 in
    let both : Named is_named.0 ≡ Literal (symbol_bytes (symbol_at grammar.symbols symbol)) = sym name_at ∙ ap (symbol_at grammar.symbols) (left.2 ∙ sym live.1)
    ∙ literal_at in
    cc both
no_left_side grammar kind formed (named number, is) left = name_has grammar (λ name. IsNonterminal grammar.rules name → ⊥) number kind formed.apart is left

-- ---- lists of tokens

pub known_tokens : (grammar : Grammar) (text : List ℕ) (found : List Token) → IsWellFormed grammar → Tokenizes grammar text (tokens found)
    → AreKnownTokens grammar.symbols found
known_tokens grammar text found formed is token has =
    known_kind grammar token.kind formed (at_each (λ t. HasDefinition grammar t.kind) found token (are_defined grammar 0 TOKEN_LIMIT text
    (tokens found) is) has)

kind_in : (grammar : Grammar) (found : List Token) (kind : SymbolId) → AllByRecursion (λ token. HasDefinition grammar token.kind) found
    → Contains (kinds_of found) kind → HasDefinition grammar kind
kind_in grammar found kind all has = at_each (HasDefinition grammar) (kinds_of found) kind (each found all) has
  where
    each : (found : List Token) → AllByRecursion (λ token. HasDefinition grammar token.kind) found → AllByRecursion (HasDefinition grammar) (kinds_of found)
    each [] all = tt
    each (token ∷ others) all = (all.0, each others all.1)

pub terminal_tokens : (grammar : Grammar) (text : List ℕ) (found : List Token) → IsWellFormed grammar → Tokenizes grammar text (tokens found)
    → AreTerminals grammar.rules (kinds_of found)
terminal_tokens grammar text found formed is kind has left =
    no_left_side grammar kind formed (kind_in grammar found kind (are_defined grammar 0 TOKEN_LIMIT text (tokens found) is) has) left
