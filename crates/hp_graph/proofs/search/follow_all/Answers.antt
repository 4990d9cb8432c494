use Rattle.std.proofs.Common.{◌≡◌, [], IfNone, ◌∙◌, subst}
use Rattle.hp_graph.proofs.ResultLaws.{done_more_at}
use Rattle.hp_graph.proofs.search.follow_all.Goals as goal

pub loop-vertex-preserved : goal.loop-vertex-preserved
loop-vertex-preserved c =
    let found = c.in_ok-place.ensures in
    let empty = subst (λ f. IfNone f (c.follow_from.new.path.items ≡ [])) c.in_default.is found.left in
    record {
      searches = found.searches;
      many = found.many ∙ c.loop-vertex.invariant.many;
      empty = empty;
      done = done_more_at c.args.edges.now c.follow_from.new.left c.follow_from.new.marks c.follow_from.new.path.items c.follow_from.new.done found.searches empty c.loop-vertex.marks c.loop-vertex.vertex found.keeps found.begun c.loop-vertex.invariant.done;
    }
