use Rattle.std.proofs.Common.{◌<◌, length, rules}
use Rattle.hp_circuit.proofs.OrderLaws.{triples_rise}
use Rattle.hp_circuit.proofs.SteeredLaws.{one_edge, edges_by_rank}
use Rattle.hp_circuit.proofs.steered.sorted_edges.Goals as goal

pub loop-i-preserved : goal.loop-i-preserved
loop-i-preserved c =
    one_edge c.args.edges.now c.args.ranks.now c.loop-i.sorted.items c.push.new.self.items c.loop-i.i c.requires (let l : c.loop-i.i < length c.args.edges.now = search rules in l) c.loop-i.invariant c.in_ok-push.ensures.items

pub returns : goal.returns
returns c =
    edges_by_rank c.args.edges.now c.args.ranks.now c.loop-i.i c.loop-i.sorted.items c.sort_unstable.new.self.items (search rules) c.loop-i.invariant c.sort_unstable.ensures.permutation
    (triples_rise c.sort_unstable.new.self.items c.sort_unstable.ensures.sorted)
