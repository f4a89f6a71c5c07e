use Rattle.std.proofs.Common.{◌+◌, ◌*◌, ◌++◌, ℕ, List, take, drop, replicate, ap, ◌∙◌}
use Rattle.std.proofs.lemmas.List.{with_items_is}
use Rattle.std.specs.Prelude.{Bool, false}
use Rattle.version_store.specs.Marks.{is_marked}
use Rattle.version_store.proofs.MarkedRows.{page_else}
use Rattle.version_store.proofs.carried_rows.CarriedRows.clear.Goals as goal

pub returns-clause-else_ : goal.returns-clause-else_
returns-clause-else_ c = λ p row lt ne. let s = c.args.self.now in let start : ℕ = c.args.page * s.sizes.rows in
    ap (λ (l : List Bool). is_marked s.sizes l p row) (with_items_is s.marks c.unmark.new.marks (c.unmark.auto.marks ∙ c.as_mut_slice.ensures.len)
    ∙ c.unmark.ensures
    ∙ ap (λ (l : List Bool). take start l ++ (replicate s.sizes.rows false ++ drop (start + s.sizes.rows) l)) c.as_mut_slice.ensures.value)
    ∙ page_else s.sizes s.marks.items s.room c.args.page c.requires.page p row lt ne
