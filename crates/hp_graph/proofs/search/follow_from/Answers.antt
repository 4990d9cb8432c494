use Rattle.std.proofs.Common.{◌≡◌, length, set, sym, ap, subst, arith}
use Rattle.hp_graph.specs.Searching.{Searches}
use Rattle.hp_graph.specs.declared.search.Mark.TheVariants as Mark
use Rattle.hp_graph.proofs.SearchLaws.{entered}
use Rattle.hp_graph.proofs.search.follow_from.Goals as goal

pub follow-requires-clause-searches : goal.follow-requires-clause-searches
follow-requires-clause-searches c =
    let edges = c.args.edges.now in
    let left = c.args.left.now in
    let marks = c.args.marks.now in
    let path = c.args.path.now.items in
    let done = c.args.done.now in
    let vertex = c.args.vertex in
    let none : length path ≡ 0 = ap length c.requires.empty in
    let law = entered edges left marks path done vertex c.requires.searches c.requires.vertex c.in-New.is (λ i h. absurd (omega arith)) in
    subst (λ m. Searches edges left m c.enter.new.path.items done) (sym c.in_ok-enter-in-New.ensures.marks)
    (subst (λ p. Searches edges left (set marks vertex (Mark.Open (length path))) p done) (sym c.in_ok-enter-in-New.ensures.path) law)
