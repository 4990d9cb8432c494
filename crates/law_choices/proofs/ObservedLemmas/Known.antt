-- What is known of the nodes of a ready program, of whose contracts observers are made.
use Rattle.std.specs.Prelude.{List}
use Rattle.hp_tree.specs.Programs.{TypeDecl, Node}
use Rattle.hp_meaning.specs.Causal.Clocked.{ClocksRight}
use Rattle.law_judged.specs.Named.Scoped.{NodeScoped}
use Rattle.law_values.specs.Filled.Firsts.{NodeHasFirsts}
use Rattle.law_automata.specs.Lowered.Removable.{NodeOk}
use Rattle.law_automata.specs.Readied.Single.{NodeSingle}
use Rattle.law_wellmade.specs.Spelled.Integers.{NodeShort}
use Rattle.law_drawing.proofs.SteeredLemmas.Uncalled.{ContractCallsNothing}
use Rattle.law_choices.specs.Observed.Contracts.{IsObservable}
use Rattle.law_choices.proofs.ObservedLemmas.Removable.{AllBase}

-- What is known of a node, whose contract calls nothing.
pub record IsKnown (types : List TypeDecl) (n : Node) : Type 0 where
  pub ok : NodeOk n
  pub scoped : NodeScoped n
  pub single : NodeSingle n
  pub base : AllBase n.outputs
  pub clocks : ClocksRight n
  pub firsts : NodeHasFirsts types n
  pub short : NodeShort n
  pub observable : IsObservable n
  pub alone : ContractCallsNothing n.contract
