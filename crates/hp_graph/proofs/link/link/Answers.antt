use Rattle.std.proofs.Common.{◌+◌, ◌∷◌, [], length, get_or, length-set, length-append, sym, ap, ◌∙◌, subst, arith}
use Rattle.hp_graph.specs.Searching.{from_of, AreLinked}
use Rattle.hp_graph.proofs.LinkLaws.{last_more, linked_more}
use Rattle.hp_graph.proofs.link.link.Goals as goal

pub loop-i-preserved : goal.loop-i-preserved
loop-i-preserved c =
    let edges = c.args.edges.now in
    let i = c.loop-i.i in
    let last = c.loop-i.last in
    let many = c.loop-i.invariant.many in
    let there = c.requires.ends i c.loop-i-test.true in
    record {
      many = length-set last (from_of edges i) (i + 1) ∙ many;
      each = ap length c.in_ok-push.ensures.items ∙ (length-append c.loop-i.links.items (get_or last (from_of edges i) 0 ∷ []) ∙ ap (λ n. n + 1) c.loop-i.invariant.each);
      last = last_more edges i last c.loop-i.invariant.last (omega arith);
      links = subst (λ l. AreLinked edges (i + 1) l) (sym c.in_ok-push.ensures.items) (linked_more edges i last c.loop-i.invariant.last (omega arith) c.loop-i.links.items c.loop-i.invariant.each c.loop-i.invariant.links);
    }
