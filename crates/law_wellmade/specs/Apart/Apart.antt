-- Names of a program that are apart as clocked equations ask for it.
use Rattle.std.specs.Prelude.{◌++◌}
use Rattle.hp_tree.specs.Programs.{Node}
use Rattle.hp_tree.specs.Meaning.{controls_of}
use Rattle.hp_meaning.specs.Clocking.Clocking.{AreOnce}
use Rattle.law_judged.specs.Named.Scoped.{also, interface, AreFresh}
use Rattle.hp_automata.specs.Lowering.{Enumerations, lowered_node}
use Rattle.law_automata.specs.Lowered.Removable.{AllOldDecls}
use Rattle.law_equations.specs.Made.Blocks.{locals_of}
use Rattle.law_equations.specs.Fitting.Fitting.{NodeNamed}

-- The names that a node declares outside of inner blocks are those of a text, or of variables of inlined calls.
pub record NamesOld (n : Node) : Type 0 where
  pub inputs : AllOldDecls n.inputs
  pub controls : AllOldDecls (controls_of n.contract)
  pub outputs : AllOldDecls n.outputs
  pub locals : AllOldDecls (locals_of n.body)

-- Where each of them is declared once, the names of a node are apart.
abbrev pub ScopedLaw : Type 0
ScopedLaw = (n : Node) → AreOnce ((n.inputs ++ controls_of n.contract) ++ n.outputs) → AreFresh (also (interface n) (controls_of n.contract)) (locals_of n.body) → NamesOld n → NodeNamed n

-- So they are where automata are removed.
abbrev pub LoweredLaw : Type 0
LoweredLaw = (enums : Enumerations) (n : Node) → NodeNamed n → NodeNamed (lowered_node enums n)
