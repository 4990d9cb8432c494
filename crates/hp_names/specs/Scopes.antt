-- What is known at a place of a program: types, constructors and nodes that are declared before it, and variables in scope.
use Rattle.std.specs.Prelude.{ℕ, take, List, [], ◌∷◌, Option, None, Some}
use Rattle.hp_tree.specs.declared.program.Item.{Item}
use Rattle.hp_tree.specs.declared.program.Item.TheVariants.{TypeItem, NodeItem}
use Rattle.hp_base.specs.declared.ty.Const.{Const}
use Rattle.hp_tree.specs.Blocks.{Decl, Block, block}
use Rattle.hp_tree.specs.Programs.{Node}
use Rattle.hp_names.specs.Names.{with_name, with_names, names_at}
pub use Rattle.hp_names.specs.declared.scope.Scope.{Scope}

-- before the first item nothing is known
abbrev pub nothing : Scope
nothing = record { types = []; constructors = []; nodes = []; variables = []; lasts = [] }

-- a variable is in scope; `last` may be said of it where its declaration says so
abbrev pub with_variable : Scope → Decl → Option Const → Scope
with_variable s d None = record s { variables = with_name s.variables d.name }
with_variable s d (Some first) = record s { variables = with_name s.variables d.name; lasts = with_name s.lasts d.name }

abbrev pub with_variables : Scope → List Decl → Scope
with_variables s [] = s
with_variables s (d ∷ ds) = with_variables (with_variable s d d.last) ds

-- inside a block its own variables are in scope too
abbrev pub inside : Scope → Block → Scope
inside s (block ds es) = with_variables s ds

-- inside a node its inputs and outputs are in scope
abbrev pub inside_node : Scope → Node → Scope
inside_node s n = with_variables (with_variables s n.inputs) n.outputs

-- what is known behind an item
abbrev pub behind : Scope → Item → Scope
behind s (TypeItem t) = record s { types = with_name s.types t.name; constructors = with_names s.constructors (names_at t.span t.cons) }
behind s (NodeItem n) = record s { nodes = with_name s.nodes n.name }

-- the scope with so many variables, the others left
abbrev pub left : ℕ → ℕ → Scope → Scope
left variables lasts s = record s { variables = take variables s.variables; lasts = take lasts s.lasts }
