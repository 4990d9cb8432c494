use Rattle.std.proofs.Common.{ℕ, List, [], ◌∷◌, ap, subst}
use Rattle.hp_circuit.specs.Giving.{IsAbstractionOf}
use Rattle.hp_abstract.proofs.AbstractionLaws.{abstraction_is}
use Rattle.hp_abstract.proofs.machine.abstraction.Goals as goal

pub returns-in-Ok-clause-abstraction : goal.returns-in-Ok-clause-abstraction
returns-in-Ok-clause-abstraction c =
    let circuit = c.in_ok-circuit.circuit in
    let wire = c.in_ok-circuit.enforce in
    let made = c.in-Ok.made in
    let of : IsAbstractionOf c.args.node.now.name circuit (circuit.assume ∷ wire ∷ []) made =
    subst (λ (name : List ℕ). IsAbstractionOf name circuit (circuit.assume ∷ wire ∷ []) made) (ap (λ n. n.name) c.node.view_is) c.in-Ok.ensures.abstraction in
    abstraction_is c.args.program.now c.args.node.now circuit wire c.index.result.now c.index-in-Ok.result.now made c.in_ok-circuit.ensures.circuit c.in_ok-circuit.ensures.enforce of c.index.ensures c.index-in-Ok.ensures

pub returns-clause-refused : goal.returns-clause-refused
returns-clause-refused c = c.refused.ensures c.args.program.now (c.in_ok-circuit.circuit, (c.in_ok-circuit.ensures.circuit, c.in-Err.ensures.refused))
