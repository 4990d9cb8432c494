-- What a program has whose names are in their scopes, once its clocks are written.
use Rattle.std.specs.Prelude.{List}
use Rattle.hp_tree.specs.declared.program.Item.{Item}
use Rattle.hp_tree.specs.Programs.{Node}
use Rattle.hp_meaning.specs.Causal.Clocked.{ClocksRight}
use Rattle.hp_meaning.specs.Causal.Points.{NamesDeclared}
use Rattle.hp_meaning.specs.Clocking.Clocking.{NodeNamed, NodeWritten}
use Rattle.hp_meaning.specs.Clocking.EveryClock.{IsLong}
use Rattle.law_judged.specs.Named.Scoped.{NodeScoped, EachNode}
use Rattle.hp_clocks.specs.Writing.{AreWritten}
use Rattle.hp_clocks.specs.Answers.{IsClocked, AreNamed}

-- A node whose names are in their scopes, and whose clocks are written, right and not too long.
pub record HasClocks (n : Node) : Type 0 where
  pub scoped : NodeScoped n
  pub named : NodeNamed n
  pub declared : NamesDeclared n
  pub right : ClocksRight n
  pub written : NodeWritten n
  pub short : IsLong 64 n → ⊥

-- Where names are in their scopes they are right for clocks.
abbrev pub NamedLaw : Type 0
NamedLaw = (program : List Item) → EachNode NodeScoped program → AreNamed program

-- Then each node of the program with its clocks written is such.
abbrev pub ClockedLaw : Type 0
ClockedLaw = (before after : List Item) → EachNode NodeScoped before → AreWritten IsClocked before after → EachNode HasClocks after
