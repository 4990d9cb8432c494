use Rattle.std.proofs.Common.{◌+◌, get_or, drop, sym, ap, ◌∙◌}
use Rattle.std.specs.List.{flat_map}
use Rattle.std.proofs.lemmas.List.{get_or_default}
use Rattle.hp_flat.specs.declared.equation.Atom.{Atom}
use Rattle.hp_flat.specs.declared.equation.Atom.TheVariants.{Variable}
use Rattle.law_equations.specs.Meaning.Fitting.{atom_variables}
use Rattle.hp_complete.specs.Edges.{edges_to}
use Rattle.hp_complete.specs.Names.{with_more}
use Rattle.hp_complete.proofs.EdgeSteps.{next-atom}
use Rattle.hp_complete.proofs.order.add_atoms.Goals as goal

pub loop-atom-preserved : goal.loop-atom-preserved
loop-atom-preserved c =
    let xs = c.args.atoms.now in
    let i = c.loop-atom.atom-index in
    let a : Atom = get_or xs i (Variable 0) in
    ap (λ made. with_more made (edges_to c.args.vertex (flat_map atom_variables (drop (i + 1) xs)))) c.in_ok-add_atom.ensures
    ∙ sym (next-atom c.loop-atom.edges.items c.args.vertex xs i a c.loop-atom-test.true (get_or_default xs i (Variable 0) a c.loop-atom-test.true))
    ∙ c.loop-atom.invariant
