use Rattle.std.proofs.Common.{◌≡◌, drop}
use Rattle.std.specs.List.{flat_map}
use Rattle.law_equations.specs.Meaning.Fitting.{atom_variables}
use Rattle.hp_complete.specs.Edges.{edges_to}
use Rattle.hp_complete.specs.Names.{with_more}
use Rattle.hp_complete.proofs.order.add_atoms.Given as goal

abbrev pub invariant-loop-atom : goal.invariant-loop-atom
invariant-loop-atom l =
    with_more l.edges.items (edges_to l.vertex (flat_map atom_variables (drop l.atom-index l.atoms))) ≡ with_more l.initial.edges.items (edges_to l.vertex (flat_map atom_variables l.atoms))
