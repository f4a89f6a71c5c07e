-- The numbers of marks, and lists of marks in the order of their numbers.
use Rattle.std.specs.Prelude.{ℕ, ◌+◌, ◌*◌, ◌<◌, ◌↔◌, List, length, Contains}
use Rattle.std.specs.Ordering.{nat_cmp}
use Rattle.std.specs.List.Sorted.{IsStrictlySortedBy}
use Rattle.std.specs.declared.cmp.Ordering.{Ordering}
use Rattle.edit_log.specs.declared.definitions.DefId.{DefId}
use Rattle.edit_log.specs.declared.definitions.DefId.TheVariants.{Literal as literal, Named as named}
use Rattle.isg_states.specs.declared.mark.Mark.{Mark}

-- even for a literal, odd for a token or a skip
abbrev pub definition_number : DefId → ℕ
definition_number (literal symbol) = 2 * symbol.0
definition_number (named number) = 2 * number.0 + 1

abbrev pub mark_number : Mark → ℕ
mark_number mark = definition_number mark.def * 256 + mark.index

abbrev pub mark_cmp : Mark → Mark → Ordering
mark_cmp a b = nat_cmp (mark_number a) (mark_number b)

-- some marks, and each has a lower number than those after it
pub record AreAscending (marks : List Mark) : Type 0 where
  pub some : 0 < length marks
  pub order : IsStrictlySortedBy mark_cmp marks

-- the list has exactly the marks with Is, and ascends
pub record ListsMarks (Is : Mark → Type 0) (marks : List Mark) : Type 0 where
  pub order : IsStrictlySortedBy mark_cmp marks
  pub members : (mark : Mark) → Contains marks mark ↔ Is mark
