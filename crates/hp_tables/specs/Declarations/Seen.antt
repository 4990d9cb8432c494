-- Tables of nodes, as the code holds them.
-- Source: own.
use Rattle.std.specs.Prelude.{ℕ, List, Option, None, Some}
use Rattle.std.specs.Borrow.{Bor}
use Rattle.hp_tree.specs.Programs.{Node}
use Rattle.hp_tables.specs.declared.declarations.table.Table.{Table}
use Rattle.hp_tables.specs.Declarations.Tables.{said_in}

abbrev pub node_seen : Option (Bor Node) → Option Node
node_seen None = None
node_seen (Some n) = Some n.now

abbrev pub node_in : Table (Bor Node) → List ℕ → Option Node
node_in t x = node_seen (said_in t x)
