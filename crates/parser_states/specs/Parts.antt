-- Parts of lists.
use Rattle.std.specs.Prelude.{◌≤◌, ℕ, List, slice_range}
use Rattle.parser_states.specs.declared.rows.Part.{Part}

-- the elements of the list at the places of the part
abbrev pub part_of : {X : Type 0} → Part → List X → List X
part_of part list = slice_range list part.first part.past

-- the part lies within the first so many places
pub record IsPartWithin (part : Part) (size : ℕ) : Type 0 where
  pub order : part.first ≤ part.past
  pub within : part.past ≤ size
