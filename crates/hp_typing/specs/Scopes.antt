-- What is known of the names at a place of a program: the declaration of a type, the type of a constructor and of a variable, and
-- the node of a name.
use Rattle.std.specs.Prelude.{ℕ, take, List, [], ◌∷◌}
use Rattle.hp_tree.specs.declared.program.Item.{Item}
use Rattle.hp_tree.specs.declared.program.Item.TheVariants.{TypeItem, NodeItem}
use Rattle.hp_tree.specs.Blocks.{Decl, Block, block}
use Rattle.hp_tree.specs.Programs.{Node, TypeDecl}
use Rattle.hp_base.specs.Known.Known.{with_entry}
pub use Rattle.hp_typing.specs.declared.scope.Scope.{Scope}

-- before the first item nothing is known
abbrev pub nothing : Scope
nothing = record { types = []; constructors = []; nodes = []; variables = [] }

-- variables are known by their types
abbrev pub with_variables : Scope → List Decl → Scope
with_variables s [] = s
with_variables s (d ∷ ds) = with_variables (record s { variables = with_entry s.variables d.name d.ty }) ds

-- inside a block its own variables are known too
abbrev pub inside : Scope → Block → Scope
inside s (block ds es) = with_variables s ds

-- inside a node its inputs and outputs are known
abbrev pub inside_node : Scope → Node → Scope
inside_node s n = with_variables (with_variables s n.inputs) n.outputs

-- constructors are known by the name of their type
abbrev pub with_constructors : List (List ℕ × List ℕ) → List ℕ → List (List ℕ) → List (List ℕ × List ℕ)
with_constructors known t [] = known
with_constructors known t (c ∷ cs) = with_constructors (with_entry known c t) t cs

-- a type is known by its name, and its constructors by theirs
abbrev pub with_type : Scope → TypeDecl → Scope
with_type s t = record s { types = with_entry s.types t.name t; constructors = with_constructors s.constructors t.name t.cons }

-- what is known behind an item
abbrev pub behind : Scope → Item → Scope
behind s (TypeItem t) = with_type s t
behind s (NodeItem n) = record s { nodes = with_entry s.nodes n.name n }

-- the scope with so many variables, the others left
abbrev pub left : ℕ → Scope → Scope
left variables s = record s { variables = take variables s.variables }
