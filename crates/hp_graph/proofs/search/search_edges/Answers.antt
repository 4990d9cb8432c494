use Rattle.std.proofs.Common.{◌≡◌, ◌<◌, [], length, replicate, ◌∙◌, sym, ap, subst}
use Rattle.std.proofs.lemmas.List.{length-replicate}
use Rattle.hp_graph.specs.Searching.{Searches, from_of}
use Rattle.hp_graph.proofs.ResultLaws.{begins}
use Rattle.hp_graph.proofs.search.search_edges.Goals as goal

pub link-requires-clause-ends : goal.link-requires-clause-ends
link-requires-clause-ends c = λ k h.
    let many : length c.args.left.now ≡ length c.args.marks.now = ap length c.requires.left ∙ length-replicate (length c.args.marks.now) 0 in
    subst (λ n. from_of c.args.edges.now k < n) (sym many) (c.requires.within k (0, 0) h).0

pub link-requires-clause-none : goal.link-requires-clause-none
link-requires-clause-none c =
    let many : length c.args.left.now ≡ length c.args.marks.now = ap length c.requires.left ∙ length-replicate (length c.args.marks.now) 0 in
    c.requires.left ∙ ap (λ n. replicate n 0) (sym many)

pub search_linked-requires-clause-searches : goal.search_linked-requires-clause-searches
search_linked-requires-clause-searches c =
    let count = length c.args.marks.now in
    let ones : length c.args.left.now ≡ count = ap length c.requires.left ∙ length-replicate count 0 in
    let many : length c.link.new.last ≡ count = c.in_ok-links.ensures.many ∙ ones in
    subst (λ m. Searches c.args.edges.now c.link.new.last m [] 0) (sym c.requires.new)
    (begins c.args.edges.now c.link.new.last count c.requires.within many c.in_ok-links.ensures.last)
