use Rattle.std.proofs.Common.{◌≡◌, drop, map}
use Rattle.hp_tree.specs.Blocks.{eqns_of}
use Rattle.hp_tree.specs.BlockView.{eqn_seen}
use Rattle.hp_past.specs.Unfolding.{in_eqns}
use Rattle.hp_past.specs.Made.{added_of, eqns_onto}
use Rattle.hp_past.proofs.contracts.unfold_eqns.Given as goal

abbrev pub invariant-loop-eqn : goal.invariant-loop-eqn
invariant-loop-eqn l =
    eqns_onto (map eqn_seen l.others.items) (in_eqns l.text.formulas l.text.names (eqns_of (map eqn_seen (drop l.eqn-index l.eqns))) (added_of l.added))
    ≡ in_eqns l.text.formulas l.text.names (eqns_of (map eqn_seen l.eqns)) (added_of l.initial.added)
