-- What judged names give.
use Rattle.std.specs.Prelude.{List}
use Rattle.hp_tree.specs.declared.program.Item.{Item}
use Rattle.hp_tree.specs.Programs.{Node}
use Rattle.hp_names.specs.Rules.{WellNamed}
use Rattle.hp_typing.specs.DefinitionRules.{WellDefined}
use Rattle.hp_meaning.specs.Causal.Points.{NamesDeclared}
use Rattle.hp_meaning.specs.Clocking.Clocking.{Assignment, NodeNamed, node_with_clocks}
use Rattle.law_judged.specs.Named.Scoped.{NodeScoped, EachNode}

-- In a program whose names are well used and well defined the names of each node are in their scopes.
abbrev pub ScopedLaw : Type 0
ScopedLaw = (program : List Item) → WellNamed program → WellDefined program → EachNode NodeScoped program

-- Then in each block each local is declared once and has an equation, and each name that a control equation defines is declared around it.
abbrev pub NamesLaw : Type 0
NamesLaw = (n : Node) → NodeScoped n → NodeNamed n × NamesDeclared n

abbrev pub NamedLaw : Type 0
NamedLaw = (program : List Item) → WellNamed program → WellDefined program → EachNode (λ n. NodeNamed n × NamesDeclared n) program

-- Writing clocks keeps that.
abbrev pub ClocksKeepLaw : Type 0
ClocksKeepLaw = (n : Node) (at : Assignment) → NodeScoped n → NodeScoped (node_with_clocks at n)
