-- In the grammar of a history each live definition has a first position, and some byte leads to it.
use Rattle.std.proofs.Common.{◌≡◌, ℕ, zero, suc, ◌<◌, ◌==◌, ◌⊎◌, inl, inr, Bool, true, false, List, [], ◌∷◌, ◌++◌, length, find, Option, Some, None, option_map}
use Rattle.std.proofs.Common.{refl, sym, ◌∙◌, ap, subst, IsTrue, Contains}
use Rattle.std.specs.Prelude.{fold}
use Rattle.std.specs.List.{AllByRecursion}
use Rattle.std.specs.Option.{is_some}
use Rattle.grammar_text.specs.declared.symbol.Symbol.{Symbol}
use Rattle.grammar_text.specs.declared.symbol.Symbol.TheVariants.{Named, Literal}
use Rattle.grammar_text.specs.declared.edit.Edit.{Edit}
use Rattle.grammar_text.specs.declared.edit.Edit.TheVariants.{AddRule, DropRule, AddToken, DropToken, AddSkip, DropSkip}
use Rattle.forest.specs.declared.symbols.SymbolId.{SymbolId}
use Rattle.forest.specs.declared.rules.RuleId.{RuleId}
use Rattle.regex_ast.specs.Expressions.{Expression}
use Rattle.regex_ast.specs.Refusals.{SpellsWithinLimits}
use Rattle.edit_log.specs.declared.definitions.DefId.{DefId}
use Rattle.edit_log.specs.declared.definitions.DefId.TheVariants.{Literal as literal, Named as named}
use Rattle.edit_log.specs.Symbols.{symbol_at, symbols_of, with_symbols}
use Rattle.edit_log.specs.History.{Definition, Grammar, empty_grammar, after_edit, grammar_of, defined}
use Rattle.edit_log.specs.Verdict.{AreAccepted, IsAccepted, IsHistory}
use Rattle.edit_log.specs.Live.{IsLive, is_literal, kind_of_definition, definition_of}
use Rattle.edit_log.proofs.PlainLists.{all_contained, each_contained, all_push, all_filter}
use Rattle.edit_log.proofs.NewSymbols.{with_symbols-grown}
use Rattle.edit_log.proofs.LiveByUses.{found_there, live_literal}
use Rattle.isg_states.specs.declared.mark.Mark.{Mark}
use Rattle.isg_states.specs.declared.scan_key.ScanKey.TheVariants.{Start}
use Rattle.isg_states.specs.Patterns.{Pattern, bytes, expression, HasPattern, MarkedWord, classes_in}
use Rattle.isg_states.specs.Expansion.{LeadsTo}
use Rattle.graph_content.proofs.LiteralBytes.{IsSolid, solid_edit}
use Rattle.graph_content.proofs.FirstBytes.{Begins, expression_begins, literal_begins}

-- the expression of the definition is one that can be read
abbrev IsSpelled : Definition → Type 0
IsSpelled live = (e : Expression) × SpellsWithinLimits live.expression e

-- literals are bytes and not empty, and expressions can be read
pub record IsReadable (g : Grammar) : Type 0 where
  pub symbols : AllByRecursion IsSolid g.symbols
  pub definitions : AllByRecursion IsSpelled g.definitions

-- ---- each history

joined : {X : Type 0} (P : X → Type 0) (xs ys : List X) → AllByRecursion P xs → AllByRecursion P ys → AllByRecursion P (xs ++ ys)
joined P [] ys all more = more
joined P (x ∷ xs) ys all more = (all.0, joined P xs ys all.1 more)

symbols_read : (symbols these : List Symbol) → AllByRecursion IsSolid symbols → AllByRecursion IsSolid these
    → AllByRecursion IsSolid (with_symbols symbols these)
symbols_read symbols these old new =
    let grown = with_symbols-grown symbols these in
    let more : AllByRecursion IsSolid grown.more = all_contained IsSolid grown.more (λ s c. each_contained IsSolid these s new (grown.known s c)) in
    subst (AllByRecursion IsSolid) (sym grown.is) (joined IsSolid symbols grown.more old more)

readable_after : (g : Grammar) (edit : Edit) → IsReadable g → IsAccepted g edit → IsReadable (after_edit g edit)
unfolding after_edit
readable_after g (AddRule r) read accepted =
    record { symbols = symbols_read g.symbols (symbols_of (AddRule r)) read.symbols (solid_edit (AddRule r) accepted.proper.0); definitions = read.definitions }
readable_after g (DropRule r) read accepted =
    record {
      symbols = symbols_read g.symbols (symbols_of (DropRule r)) read.symbols (solid_edit (DropRule r) accepted.proper.0);
      definitions =
          read.definitions;
    }
readable_after g (AddToken d) read accepted = record {
  symbols = symbols_read g.symbols (symbols_of (AddToken d)) read.symbols (solid_edit (AddToken d) accepted.proper.0);
  definitions = all_push IsSpelled g.definitions _ read.definitions accepted.proper.1;
}
readable_after g (DropToken name) read accepted = record {
  symbols = symbols_read g.symbols (symbols_of (DropToken name)) read.symbols (solid_edit (DropToken name) accepted.proper.0);
  definitions = all_filter IsSpelled _ g.definitions read.definitions;
}
readable_after g (AddSkip d) read accepted = record {
  symbols = symbols_read g.symbols (symbols_of (AddSkip d)) read.symbols (solid_edit (AddSkip d) accepted.proper.0);
  definitions = all_push IsSpelled g.definitions _ read.definitions accepted.proper.1;
}
readable_after g (DropSkip name) read accepted = record {
  symbols = symbols_read g.symbols (symbols_of (DropSkip name)) read.symbols (solid_edit (DropSkip name) accepted.proper.0);
  definitions = all_filter IsSpelled _ g.definitions read.definitions;
}

along : (g : Grammar) (edits : List Edit) → IsReadable g → AreAccepted g edits → IsReadable (fold after_edit g edits)
along g [] read accepted = read
along g (edit ∷ edits) read accepted = along (after_edit g edit) edits (readable_after g edit read accepted.0) accepted.1

pub readable_always : (history : List Edit) → IsHistory history → IsReadable (grammar_of history)
readable_always history accepted = along empty_grammar history (record { symbols = (tt, tt); definitions = tt }) accepted

pub readable_next : (g : Grammar) (edit : Edit) → IsReadable g → IsAccepted g edit → IsReadable (after_edit g edit)
readable_next g edit read accepted = readable_after g edit read accepted

-- ---- a first position

-- some byte leads from the start to a position of the definition
pub record IsBegun (g : Grammar) (d : DefId) : Type 0 where
  pub mark : Mark
  pub of : mark.def ≡ d
  pub byte : ℕ
  pub small : byte < 256
  pub leads : LeadsTo g Start byte mark

begun : (g : Grammar) (d : DefId) (p : Pattern) → HasPattern g d p → Begins (classes_in p) (MarkedWord p) → IsBegun g d
begun g d p has begins = record {
  mark = record { def = d; index = begins.index };
  of = refl;
  byte = begins.byte;
  small = begins.small;
  leads = ((p, has, (begins.rest, begins.marked)), (p, has, begins.has_byte));
}

pub solid : (symbols : List Symbol) (n : ℕ) (text : List ℕ) → AllByRecursion IsSolid symbols → symbol_at symbols (record { 0 = n }) ≡ Literal text
    → IsSolid (Literal text)
solid [] n text all is = absurd cc
solid (x ∷ xs) zero text all is = subst IsSolid is all.0
solid (x ∷ xs) (suc n) text all is = solid xs n text all.1 is

literal_begun : (g : Grammar) (s : SymbolId) → IsReadable g → IsLive g (literal s) → IsBegun g (literal s)
literal_begun g s read live = by (symbol_at g.symbols s) refl ((live_literal g s).0 live).0
  where
    by : (symbol : Symbol) → symbol_at g.symbols s ≡ symbol → is_literal (symbol_at g.symbols s) ≡ true → IsBegun g (literal s)
    by (Named name) is e = let no : is_literal (symbol_at g.symbols s) ≡ false = ap is_literal is in absurd cc
    by (Literal text) is e =
        let full = solid g.symbols s.0 text read.symbols is in
        begun g (literal s) (bytes text) (record { live = live; is = is }) (literal_begins text full.0 full.2)

named_begun : (g : Grammar) (n : RuleId) → IsReadable g → IsLive g (named n) → IsBegun g (named n)
named_begun g n read live = by (definition_of g n) refl live
  where
    by : (found : Option Definition) → definition_of g n ≡ found → is_some (option_map kind_of_definition (definition_of g n)) ≡ true → IsBegun g (named n)
    by None is e = let no : is_some (option_map kind_of_definition (definition_of g n)) ≡ false = ap (λ o. is_some (option_map kind_of_definition o)) is in
        absurd cc
    by (Some d) is e =
        let there = (found_there (λ (live : Definition). live.number.0 == n.0) g.definitions d is).0 in
        let spelled = each_contained IsSpelled g.definitions d read.definitions there in
        begun g (named n) (expression spelled.0) (record { live = live; is = (d, is, spelled.1) }) (expression_begins d.expression spelled.0 spelled.1)

pub is_begun : (g : Grammar) (d : DefId) → IsReadable g → IsLive g d → IsBegun g d
is_begun g (literal s) read live = literal_begun g s read live
is_begun g (named n) read live = named_begun g n read live
