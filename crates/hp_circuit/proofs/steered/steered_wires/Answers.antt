use Rattle.std.proofs.Common.{◌≡◌, ℕ, false, length, replicate, All, rules, sym, subst, ◌∙◌}
use Rattle.hp_circuit.specs.Ordering.{AreEdgesByRank}
use Rattle.hp_circuit.specs.Reading.{IsMarked, AreSteered}
use Rattle.hp_circuit.proofs.SteeredLaws.{none_marked, put_back, steered_are, falling, closed_all}
use Rattle.hp_circuit.proofs.steered.steered_wires.Goals as goal

pub mark_steered-requires-clause-none : goal.mark_steered-requires-clause-none
mark_steered-requires-clause-none c = λ w.
    let items : c.deref_mut.result.now ≡ replicate (length c.args.ranks.now) false = c.deref_mut.ensures.value ∙ c.in_ok-steered.ensures.items_if_clones_equal (λ y e. e) in
    λ h. none_marked (length c.args.ranks.now) w (subst (λ ms. IsMarked ms w) items h)

pub returns-clause-are : goal.returns-clause-are
returns-clause-are c =
    let new = c.mark_steered.new.steered in
    let slots = c.args.slots.now in
    let edges = c.args.edges.now in
    let ranks = c.args.ranks.now in
    let len : length new ≡ c.in_ok-steered.steered.len = search rules in
    let by : AreEdgesByRank edges ranks c.deref.result.now = subst (AreEdgesByRank edges ranks) (sym c.deref.ensures.value) c.in_ok-sorted.ensures in
    let closed : All (λ (e : ℕ × ℕ). IsMarked new e.1 → IsMarked new e.0) edges =
    closed_all edges ranks c.deref.result.now new by (c.mark_steered.ensures.closed ranks (falling (length ranks) edges ranks c.deref.result.now c.requires.ranks by)) in
    subst (AreSteered slots edges) (sym (put_back c.in_ok-steered.steered.len new _ len)) (steered_are slots edges new c.mark_steered.ensures.whole (c.mark_steered.ensures.sound edges by.are) closed)
