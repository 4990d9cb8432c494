use Rattle.std.proofs.Common.{◌≡◌, List, ℕ, length, subst, sym, arith}
use Rattle.std.proofs.lemmas.Grind.{common_steps}
use Rattle.hp_graph.specs.Graphs.{AreWithin}
use Rattle.hp_circuit.specs.Reading.{edges_of}
use Rattle.hp_circuit.proofs.ReadingLaws.{edges_within}
use Rattle.hp_circuit.proofs.order.edges_of.Goals as goal

pub returns-clause-within : goal.returns-clause-within
returns-clause-within c =
    let circuit = c.args.circuit.now in
    let is : c.extend_from_slice.new.self.items ≡ edges_of circuit.wires.items circuit.reads.items = grind (arith, common_steps) in
    subst (λ (edges : List (ℕ × ℕ)). AreWithin (length circuit.wires.items) edges) (sym is) (edges_within circuit c.requires)
