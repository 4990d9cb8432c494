-- What is known at a place of a node, as the code holds it.
use Rattle.std.specs.Prelude.{ℕ, ◌-◌, if◌then◌else◌, List, ◌++◌, length, take, None}
use Rattle.hp_tree.specs.declared.block.Trans.{Trans}
use Rattle.hp_tree.specs.Blocks.{Decl, Block, block, Eqn}
use Rattle.hp_tree.specs.Meaning.{defines, names_of as declared}
use Rattle.hp_init.specs.declared.ask.Ask.{Ask}
use Rattle.hp_init.specs.declared.gather.Gathering.{Gathering}
use Rattle.hp_init.specs.Names.{size_of_all}
use Rattle.hp_tables.specs.Defining.Layers.{numbered, sight}
use Rattle.hp_init.specs.Asks.{Sight, Seen, seen_in, of_decls, of_eqns, of_block, of_tests}

-- all but the last
abbrev pub front : {A : Type 0} → List A → List A
front xs = take (length xs - 1) xs

abbrev pub seen_at : Gathering → Seen
seen_at g = record { variables = sight g.variables.items; values = sight g.values.items }

-- around the innermost layer of values
abbrev pub seen_outside : Gathering → Seen
seen_outside g = record { variables = sight g.variables.items; values = sight (front g.values.items) }

abbrev pub values_within : Eqn → Sight → Sight
values_within e see x = if defines e x then None else see x

abbrev pub own_size : Block → ℕ
own_size (block ds es) = length ds

abbrev pub size_inside : Block → ℕ
size_inside (block ds es) = size_of_all es

-- what a block asks that has been entered
abbrev pub inside_of : Seen → ℕ → Block → List Ask
inside_of see k (block ds es) = of_decls see.values ds ++ of_eqns see ds k es

abbrev pub of_state : Seen → Seen → ℕ → Block → List Trans → List Trans → List Ask
of_state out see k b until unless = of_block see k b ++ (of_tests (seen_in k b see).values until ++ of_tests out.values unless)

-- what is known in a node with these outputs
abbrev pub seen_of_outputs : List Decl → Seen
seen_of_outputs ds = record { variables = numbered 0 (declared ds); values = numbered 0 (declared ds) }
