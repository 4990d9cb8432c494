-- What is answered.
use Rattle.std.specs.Prelude.{◌≡◌, ⊤, if◌then◌else◌, List, Option, None, Some}
use Rattle.hp_base.specs.declared.span.Span.{Span}
use Rattle.hp_tree.specs.declared.program.Item.{Item}
use Rattle.hp_tree.specs.Programs.{Node}
use Rattle.hp_init.specs.declared.ask.Ask.{Ask}
use Rattle.hp_init.specs.declared.ask.Ask.TheVariants.{Follows, First}
use Rattle.hp_init.specs.declared.error.InitErr.{InitErr}
use Rattle.hp_init.specs.declared.error.InitErr.TheVariants.{Late, OutOfMemory}
use Rattle.hp_init.specs.Asks.{Valued, value_of}
use Rattle.hp_init.specs.Initialised.{IsFound, IsLate}

-- The error names the first unit with a want that is not met; want of memory names none.
abbrev pub NamesLate : List Item → InitErr → Type 0
NamesLate items (Late name at) = IsLate items name at
NamesLate items OutOfMemory = ⊤

-- The same of one node.
abbrev pub NamesNode : Node → InitErr → Type 0
NamesNode n (Late name at) = (n.name ≡ name) × IsFound n (Some at)
NamesNode n OutOfMemory = ⊤

-- the unit of what is asked, if it is a want that is not met
abbrev pub unmet_by : Valued → Ask → Option Span
unmet_by second (Follows s k) = None
unmet_by second (First s at) = if value_of second s then Some at else None
