-- That a program has one list of machines.
use Rattle.std.specs.Prelude.{◌≡◌, List}
use Rattle.hp_obc.specs.Machines.{Obc}
use Rattle.hp_tree.specs.declared.program.Item.{Item}
use Rattle.hp_machines.specs.Machined.{AreMachinesOf}

-- What are the machines of a program are these alone, command by command.
abbrev pub OneMachinesLaw : Type 0
OneMachinesLaw = (program : List Item) (machines others : Obc) → AreMachinesOf program machines → AreMachinesOf program others → machines ≡ others
