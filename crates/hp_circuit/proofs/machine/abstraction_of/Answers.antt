use Rattle.std.proofs.Common.{◌≡◌, List, ℕ, length, subst, rules}
use Rattle.hp_graph.specs.Graphs.{AreRanks}
use Rattle.hp_circuit.specs.Forms.{IsCircuit}
use Rattle.hp_circuit.specs.Levels.{AreLevels}
use Rattle.hp_circuit.specs.Ordering.{AreByRank, AreInOrder}
use Rattle.hp_circuit.proofs.OrderLaws.{circuit_order, no_circle}
use Rattle.hp_circuit.proofs.machine.abstraction_of.Goals as goal

pub built-requires-clause-order : goal.built-requires-clause-order
built-requires-clause-order c =
    let circuit = c.args.circuit.now in
    let edges = c.in_ok-edges.edges.items in
    let levels = c.in_ok-levels.levels.items in
    let order = c.in_ok-order.order.items in
    let is : IsCircuit circuit = search rules in
    let many : length levels ≡ length circuit.wires.items = search rules in
    let are : AreLevels edges levels = search rules in
    let by : AreByRank levels order = search rules in
    subst (AreInOrder circuit.wires.items) (search rules) (circuit_order circuit is edges levels order c.in_ok-edges.ensures.is many are.above by)

pub built-requires-clause-acyclic : goal.built-requires-clause-acyclic
built-requires-clause-acyclic c =
    no_circle c.args.circuit.now c.len.result c.in_ok-edges.edges.items c.in_ok-ranks.ranks.items c.in_ok-edges.ensures.is
    (subst (λ (es : List (ℕ × ℕ)). AreRanks c.len.result es c.in_ok-ranks.ranks.items) c.deref.ensures.value c.in_ok-ranks.ensures.ranks)
