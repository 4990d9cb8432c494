use Rattle.std.proofs.Common.{◌≡◌, map, drop}
use Rattle.hp_tree.specs.Blocks.{eqns_of}
use Rattle.hp_tree.specs.BlockView.{eqn_seen}
use Rattle.hp_tables.specs.Defining.Names.{controls_in}
use Rattle.hp_tables.specs.Defining.Seen.{names_seen, with_more}
use Rattle.hp_tables.proofs.defining.names.add_controls.Given as goal

abbrev pub invariant-loop-eqn : goal.invariant-loop-eqn
invariant-loop-eqn l =
    with_more (names_seen l.into.items) (controls_in (eqns_of (map eqn_seen (drop l.eqn-index l.eqns)))) ≡ with_more (names_seen l.initial.into.items) (controls_in (eqns_of (map eqn_seen l.eqns)))
