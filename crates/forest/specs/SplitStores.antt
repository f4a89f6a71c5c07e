-- Where splits lie.
use Rattle.std.specs.Prelude.{List, [], ◌∷◌}
use Rattle.forest.specs.declared.nodes.Split.{Split}
use Rattle.forest.specs.declared.nodes.SplitStore.{SplitStore}
use Rattle.forest.specs.declared.nodes.SplitStore.TheVariants.{One, Many}

-- the splits that lie there, in their order
abbrev pub splits_in : SplitStore → List Split
splits_in (One split) = split ∷ []
splits_in (Many splits) = splits.items
