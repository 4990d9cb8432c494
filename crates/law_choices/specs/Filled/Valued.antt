-- Programs whose places have values of their types, with their automata and without.
-- Source: own.
use Rattle.std.specs.Prelude.{List, reverse}
use Rattle.hp_tree.specs.declared.program.Item.{Item}
use Rattle.hp_tree.specs.Meaning.{types_of}
use Rattle.hp_meaning.specs.Causal.Causality.{IsRanked}
use Rattle.law_judged.specs.Named.Scoped.{EachNode}
use Rattle.law_values.specs.Filled.Firsts.{NodeHasFirsts}
use Rattle.law_values.specs.Valued.Values.{Classing, AreAccepted}
use Rattle.hp_automata.specs.Lowering.{lowered_program}
use Rattle.law_automata.specs.Lowered.Removable.{IsRemovable}

-- Automata may be removed from the program. It is accepted and its places have ranks, and so it is without automata, where each declaration also has a first value.
pub record HasValues (after : List Item) : Type 0 where
  pub removable : IsRemovable after
  pub class : Classing
  pub accepted : AreAccepted (types_of after) class (reverse after)
  pub ranked : IsRanked after
  pub low_class : Classing
  pub low_accepted : AreAccepted (types_of (lowered_program after)) low_class (reverse (lowered_program after))
  pub low_ranked : IsRanked (lowered_program after)
  pub firsts : EachNode (NodeHasFirsts (types_of (lowered_program after))) (lowered_program after)
