-- What the reader's structs hold, as plain data.
use Rattle.std.specs.Prelude.{Option, map, reverse}
use Rattle.std.specs.Option.{option_map}
use Rattle.regex_ast.specs.Expressions.{Expression, star, plus, maybe, tree_of}
use Rattle.regex_ast.specs.Nests.{Layer, Nest, levels, State, reading}
use Rattle.regex_ast.specs.declared.regex.Regex.{Regex}
use Rattle.regex_ast.specs.declared.stack.Level.{Level}
use Rattle.regex_ast.specs.declared.stack.Sign.{Sign}
use Rattle.regex_ast.specs.declared.stack.Sign.TheVariants.{Star, Plus, Maybe}
use Rattle.regex_ast.specs.declared.stack.Stack.{Stack}
use Rattle.regex_ast.specs.declared.reader.Reader.{Reader}

abbrev pub trees_of : Option Regex → Option Expression
trees_of r = option_map tree_of r

-- what a sign makes of the factor before it
abbrev pub signed_by : Sign → Expression → Expression
signed_by Star e = star e
signed_by Plus e = plus e
signed_by Maybe e = maybe e

abbrev pub layer_of : Level → Layer
layer_of l = (trees_of l.choice, trees_of l.branch)

-- the last of the outer levels is the innermost
abbrev pub nest_of : Stack → Nest
nest_of s = levels (reverse (map layer_of s.outer.items)) (trees_of s.choice) (trees_of s.branch) (trees_of s.factor)

abbrev pub state_of : Reader → State
state_of r = reading r.mode (nest_of r.stack) r.breaches r.start
