-- A command has one reply at most, unless it asks what the tables hold.
use Rattle.std.proofs.Common.{◌≡◌, ℕ, List, Result, Ok, Err, refl, ap, subst, arith}
use Rattle.std.specs.List.Sorted.{IsStrictlySortedBy}
use Rattle.std.proofs.lemmas.Map.Keys.{IsStrictlySortedBy-prop}
use Rattle.grammar_text.specs.declared.edit.Edit.{Edit as AnEdit}
use Rattle.forest.specs.declared.symbols.SymbolId.{SymbolId}
use Rattle.forest.specs.declared.symbols.Token.{Token}
use Rattle.forest.specs.declared.nodes.Node.{Node}
use Rattle.forest.specs.declared.rules.Rule.{Rule}
use Rattle.forest.specs.declared.forest.Forest.{Forest}
use Rattle.forest.specs.Orders.{node_cmp}
use Rattle.forest.proofs.OneForest.{one_forest}
use Rattle.edit_log.specs.History.{Grammar}
use Rattle.edit_log.specs.Tokens.{tokens, no_token, too_many, Tokenizes}
use Rattle.isg_scan.specs.declared.scan_error.ScanError.{ScanError}
use Rattle.isg_scan.specs.declared.scan_error.ScanError.TheVariants.{NoToken, TooManyTokens, NoMemory}
use Rattle.script_text.specs.declared.command.Command.{Command}
use Rattle.script_text.specs.declared.command.Command.TheVariants.{Edit, Parse, Tokens, Stats}
use Rattle.replies.specs.declared.reply.Outcome.{Outcome}
use Rattle.replies.specs.declared.reply.Outcome.TheVariants.{Parsed, Scan}
use Rattle.rekers.specs.declared.parsed.Parsed.TheVariants.{Forest as ForestOf, NoSentence}
use Rattle.rekers.specs.declared.limits.TheConstants.{SIZE_LIMIT}
use Rattle.rekers.specs.States.{IsLastViable}
use Rattle.rekers.specs.Size.{IsAbove}
use Rattle.rekers.specs.Answers.{kinds_of, IsWithin}
use Rattle.rekers.proofs.Sizes.{size_above}
use Rattle.replies.specs.declared.reply.Reply.{Reply}
use Rattle.replies.specs.declared.reply.Reply.TheVariants.{Refused, Parse as Parsing, Tokens as Scanning}
use Rattle.replies.specs.Replies.{IsScanRefusedFor, IsResult, IsParse, too_large, forest, no_sentence, IsOutcome, scan, parse, IsReply, taken, refused}
use Rattle.replies.specs.Replies.{parsed, scanned}
use Rattle.isg_scan.proofs.OneScan.{one_scan}

-- ---- forests are told by their nodes

abbrev forest_of : (nodes : List Node) → IsStrictlySortedBy node_cmp nodes → Forest
forest_of nodes h = record { nodes = nodes; ascending = h }

module _ (nodes : List Node) (h : IsStrictlySortedBy node_cmp nodes) where
  WithNodes : List Node → Type 0
  WithNodes others = (k : IsStrictlySortedBy node_cmp others) → forest_of nodes h ≡ forest_of others k

  with_nodes : (others : List Node) → nodes ≡ others → WithNodes others
  unfolding WithNodes
  with_nodes others e = subst WithNodes e (λ k. ap (forest_of nodes) (IsStrictlySortedBy-prop node_cmp nodes h k))

same_forest : (f g : Forest) → f.nodes ≡ g.nodes → f ≡ g
unfolding WithNodes
same_forest f g e = with_nodes f.nodes f.ascending g.nodes e g.ascending

-- ---- tokens are parsed in one way

not_both : (rules : List Rule) (kinds : List SymbolId) → IsWithin rules kinds → IsAbove rules kinds SIZE_LIMIT → ⊥
not_both rules kinds (size, is, within) above = omega (arith, within, size_above rules kinds size SIZE_LIMIT is above)

one_last : (rules : List Rule) (kinds : List SymbolId) (a b : ℕ) → IsLastViable rules kinds a → IsLastViable rules kinds b → a ≡ b
one_last rules kinds a b one other = omega (arith, one.none_behind other.kernel b other.reached, other.none_behind one.kernel a one.reached)

one_parse : (rules : List Rule) (kinds : List SymbolId) (a b : Outcome) → IsParse rules kinds a → IsParse rules kinds b → a ≡ b
one_parse rules kinds a b (too_large above) (too_large above') = refl
one_parse rules kinds a b (too_large above) (forest within is) = absurd (not_both rules kinds within above)
one_parse rules kinds a b (too_large above) (no_sentence within not last) = absurd (not_both rules kinds within above)
one_parse rules kinds a b (forest within is) (too_large above) = absurd (not_both rules kinds within above)
one_parse rules kinds a b (forest {parsed = f} within is) (forest {parsed = g} within' is') =
    ap (λ f. Parsed (ForestOf f)) (same_forest f g (one_forest rules kinds f g is is'))
one_parse rules kinds a b (forest within is) (no_sentence within' not last) = absurd (not is.derived)
one_parse rules kinds a b (no_sentence within not last) (too_large above) = absurd (not_both rules kinds within above)
one_parse rules kinds a b (no_sentence within not last) (forest within' is) = absurd (not is.derived)
one_parse rules kinds a b (no_sentence {at = i} within not last) (no_sentence {at = j} within' not' last') =
    ap (λ at. Parsed (NoSentence at)) (one_last rules kinds i j last last')

-- ---- a text is scanned in one way

pub one_list : (grammar : Grammar) (text : List ℕ) (a b : List Token) → Tokenizes grammar text (tokens a) → Tokenizes grammar text (tokens b) → a ≡ b
one_list grammar text a b e f = let same : tokens a ≡ tokens b = one_scan grammar text (tokens a) (tokens b) e f in cc same

one_error : (grammar : Grammar) (text : List ℕ) (a b : ScanError) → IsScanRefusedFor grammar text a → IsScanRefusedFor grammar text b → a ≡ b
one_error grammar text (NoToken o) (NoToken p) e f = let same = one_scan grammar text (no_token o) (no_token p) e f in let at : o ≡ p = cc same in ap NoToken at
one_error grammar text (NoToken o) (TooManyTokens p) e f = let same = one_scan grammar text (no_token o) (too_many p) e f in cc same
one_error grammar text (TooManyTokens o) (NoToken p) e f = let same = one_scan grammar text (too_many o) (no_token p) e f in cc same
one_error grammar text (TooManyTokens o) (TooManyTokens p) e f = let same = one_scan grammar text (too_many o) (too_many p) e f in let at : o ≡ p = cc same in
    ap TooManyTokens at
one_error grammar text NoMemory b e f = absurd e
one_error grammar text (NoToken o) NoMemory e f = absurd f
one_error grammar text (TooManyTokens o) NoMemory e f = absurd f

pub not_refused : (grammar : Grammar) (text : List ℕ) (found : List Token) (error : ScanError) → Tokenizes grammar text (tokens found)
    → IsScanRefusedFor grammar text error → ⊥
not_refused grammar text found (NoToken o) e f = let same = one_scan grammar text (tokens found) (no_token o) e f in cc same
not_refused grammar text found (TooManyTokens o) e f = let same = one_scan grammar text (tokens found) (too_many o) e f in cc same
not_refused grammar text found NoMemory e f = f

one_result : (grammar : Grammar) (text : List ℕ) (a b : Result (List Token) ScanError) → IsResult grammar text a → IsResult grammar text b → a ≡ b
one_result grammar text (Ok a) (Ok b) e f = ap Ok (one_list grammar text a b e f)
one_result grammar text (Ok a) (Err b) e f = absurd (not_refused grammar text a b e f)
one_result grammar text (Err a) (Ok b) e f = absurd (not_refused grammar text b a f e)
one_result grammar text (Err a) (Err b) e f = ap Err (one_error grammar text a b e f)

one_outcome : (grammar : Grammar) (text : List ℕ) (a b : Outcome) → IsOutcome grammar text a → IsOutcome grammar text b → a ≡ b
one_outcome grammar text a b (scan {error = x} e) (scan {error = y} f) = ap Scan (one_error grammar text x y e f)
one_outcome grammar text a b (scan {error = x} e) (parse {found = found} f is) = absurd (not_refused grammar text found x f e)
one_outcome grammar text a b (parse {found = found} e is) (scan {error = y} f) = absurd (not_refused grammar text found y e f)
one_outcome grammar text a b (parse {found = found} e is) (parse {found = other} f is') =
    one_parse grammar.rules (kinds_of found) a b is (subst (λ ts. IsParse grammar.rules (kinds_of ts) b) (one_list grammar text other found f e) is')

-- ---- commands

one_edit_reply : (grammar : Grammar) (edit : AnEdit) (a b : Reply) → IsReply grammar (Edit edit) a → IsReply grammar (Edit edit) b → a ≡ b
one_edit_reply grammar edit a b (taken e) (taken f) = refl
one_edit_reply grammar edit a b (taken e) (refused f) = cc (e, f)
one_edit_reply grammar edit a b (refused e) (taken f) = cc (e, f)
one_edit_reply grammar edit a b (refused {why = x} e) (refused {why = y} f) = let same : x ≡ y = cc (e, f) in ap Refused same

one_parse_reply : (grammar : Grammar) (text : List ℕ) (a b : Reply) → IsReply grammar (Parse text) a → IsReply grammar (Parse text) b → a ≡ b
one_parse_reply grammar text a b (parsed {outcome = x} e) (parsed {outcome = y} f) = ap (Parsing grammar.version) (one_outcome grammar text x y e f)

one_tokens_reply : (grammar : Grammar) (text : List ℕ) (a b : Reply) → IsReply grammar (Tokens text) a → IsReply grammar (Tokens text) b → a ≡ b
one_tokens_reply grammar text a b (scanned {result = x} e) (scanned {result = y} f) = ap (Scanning grammar.version) (one_result grammar text x y e f)

pub one_reply : (grammar : Grammar) (command : Command) (a b : Reply) → (command ≡ Stats → ⊥) → IsReply grammar command a → IsReply grammar command b → a ≡ b
one_reply grammar (Edit edit) a b other e f = one_edit_reply grammar edit a b e f
one_reply grammar (Parse text) a b other e f = one_parse_reply grammar text a b e f
one_reply grammar (Tokens text) a b other e f = one_tokens_reply grammar text a b e f
one_reply grammar Stats a b other e f = absurd (other refl)
