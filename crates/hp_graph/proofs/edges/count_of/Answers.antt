use Rattle.std.proofs.Common.{◌<◌, ◌≤◌, ℕ, get_or, arith}
use Rattle.std.proofs.lemmas.List.{get_or_default}
use Rattle.hp_graph.proofs.EdgeLaws.{next-covered}
use Rattle.hp_graph.proofs.edges.count_of.Goals as goal

pub loop-i-preserved : goal.loop-i-preserved
loop-i-preserved c =
    λ bound h rest. let edges = c.args.edges.now in
    let i = c.loop-i.i in
    let e : ℕ × ℕ = get_or edges i (0, 0) in
    let lt = c.loop-i-test.true in
    let more : c.loop-i.count ≤ c.in_ok-count.count = c.in_ok-count.ensures.more in
    let from : e.0 < c.in_ok-count.count = c.in_ok-count.ensures.from in
    let to : e.1 < c.in_ok-count.count = c.in_ok-count.ensures.to in
    let at_most : c.in_ok-count.count ≤ bound = h in
    c.loop-i.invariant bound (omega arith) (next-covered edges i e bound lt (get_or_default edges i (0, 0) e lt) (omega arith) (omega arith) rest)
