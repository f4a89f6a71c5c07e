use Rattle.std.proofs.Common.{◌≡◌, ◌++◌, ◌∷◌, [], length, refl, sym, ◌∙◌, subst}
use Rattle.edit_log.specs.History.{Grammar}
use Rattle.edit_log.specs.Facts.{IsWellFormed}
use Rattle.parser_states.specs.Known.{known, known_moves}
use Rattle.parser_states.specs.Parts.{part_of, IsPartWithin}
use Rattle.parser_states.specs.Rows.{KeepsExpansions, IsCopied, IsNewRowOf, IsRowWithin}
use Rattle.parser_states.proofs.Keys.{key_added}
use Rattle.parser_states.proofs.MoreStates.{shape_told, shape_grows, shape_push, told_more}
use Rattle.parser_states.proofs.RowsKept.{moves_within}
use Rattle.parser_states.proofs.table.Table.add.Given.{Over}
use Rattle.parser_states.proofs.table.Table.add.Goals as goal

pub returns-in_err-push-clause-shaped : goal.returns-in_err-push-clause-shaped
returns-in_err-push-clause-shaped g c =
    shape_grows (known c.args.self.now) (known (record {
      keys = c.args.self.now.keys;
      rows = c.push.new.self;
      moves = c.copy_expansion.new.moves;
      reductions = c.row_of.new.reductions;
      finished = c.copy_expansion.new.finished;
    })) refl c.in_err-push.ensures.items c.copy_expansion.ensures.grows c.row_of.ensures.grows c.requires.shaped

pub returns-in_err-insert-clause-shaped : goal.returns-in_err-insert-clause-shaped
returns-in_err-insert-clause-shaped g c =
    let row = c.in_ok-row.ensures.row in
    let moves = c.in_ok-moves.ensures.copies.moves in
    let within : IsRowWithin c.in_ok-row.row (length c.copy_expansion.new.moves.symbols.items) (length c.row_of.new.reductions.items) = record {
      moves = subst (λ part. IsPartWithin part (length c.copy_expansion.new.moves.symbols.items)) (sym row.moves_are)
          (moves_within c.in_ok-moves.ensures.copies.expansion.moves (known_moves c.args.self.now.moves) (known_moves c.copy_expansion.new.moves)
          c.in_ok-moves.moves moves);
      empties = row.empties_within;
      reductions = row.reductions_within;
    } in
    shape_push (known c.args.self.now) (known (record {
      keys = c.insert.new.self;
      rows = c.push.new.self;
      moves = c.copy_expansion.new.moves;
      reductions = c.row_of.new.reductions;
      finished = c.copy_expansion.new.finished;
    })) c.in_ok-row.row c.in_err-insert.ensures.err c.in_ok-push.ensures.items c.copy_expansion.ensures.grows c.row_of.ensures.grows within c.requires.shaped

kernels : (g : Over) (c : goal.In_ok-insert g) → c.insert.new.self.keys ≡ c.args.self.now.keys.keys ++ c.args.kernel ∷ []
kernels g c = c.in_ok-insert.ensures.keys ∙ key_added c.args.self.now.keys.keys c.args.kernel c.requires.fresh

told : (g : Over) (c : goal.In_ok-insert g) → KeepsExpansions (g.G.Graph.means c.args.graph.now).grammar.rules (known (record {
  keys = c.insert.new.self;
  rows = c.push.new.self;
  moves = c.copy_expansion.new.moves;
  reductions = c.row_of.new.reductions;
  finished = c.copy_expansion.new.finished;
}))
told g c =
    let grammar = (g.G.Graph.means c.args.graph.now).grammar in
    let new = known (record {
      keys = c.insert.new.self;
      rows = c.push.new.self;
      moves = c.copy_expansion.new.moves;
      reductions = c.row_of.new.reductions;
      finished = c.copy_expansion.new.finished;
    }) in
    let same : c.grammar-grammar.result.now.grammar ≡ grammar = c.grammar-grammar.ensures ∙ c.in_ok-moves.ensures.stands.grammar in
    let row = c.in_ok-row.row in
    let part = c.in_ok-moves.moves in
    let finished = c.copy_expansion.new.finished.items in
    let one : IsNewRowOf c.grammar-grammar.result.now.grammar.rules part (part_of part new.moves.symbols) finished
    c.args.self.now.reductions.items new.reductions row =
    subst (λ list. IsNewRowOf c.grammar-grammar.result.now.grammar.rules part (part_of part list) finished c.args.self.now.reductions.items new.reductions row)
    c.deref.ensures.value
    (subst (λ list. IsNewRowOf c.grammar-grammar.result.now.grammar.rules part (part_of part c.deref.result.now) list c.args.self.now.reductions.items
    new.reductions row) c.deref-2.ensures.value c.in_ok-row.ensures.row) in
    let two : IsNewRowOf grammar.rules part (part_of part new.moves.symbols) finished c.args.self.now.reductions.items new.reductions row =
    subst (λ (h : Grammar). IsNewRowOf h.rules part (part_of part new.moves.symbols) finished c.args.self.now.reductions.items new.reductions row) same one in
    told_more grammar (subst IsWellFormed same c.is_formed.ensures) (known c.args.self.now) new c.args.kernel row finished c.requires.told c.requires.items
    c.requires.fresh (kernels g c) c.in_ok-push.ensures.items
    (subst (λ p. IsCopied grammar.rules c.args.kernel (known_moves c.args.self.now.moves) new.moves finished p) (sym two.moves_are)
    c.in_ok-moves.ensures.copies)
    (subst (λ p. IsNewRowOf grammar.rules p (part_of p new.moves.symbols) finished c.args.self.now.reductions.items new.reductions row) (sym two.moves_are) two)

pub returns-clause-kernels : goal.returns-clause-kernels
returns-clause-kernels g c = kernels g c

pub returns-clause-told : goal.returns-clause-told
returns-clause-told g c = told g c

pub returns-clause-shaped : goal.returns-clause-shaped
returns-clause-shaped g c = shape_told (g.G.Graph.means c.args.graph.now).grammar.rules _ (told g c)
