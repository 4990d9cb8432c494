use Rattle.std.proofs.Common.{◌≡◌, ◌<◌, [], All, ℕ, length, drop, map, IfNone, IfSome, ◌∙◌, sym, ap, subst}
use Rattle.std.proofs.lemmas.List.{take_rest}
use Rattle.hp_graph.specs.Graphs.{AreRanks, IsCycle}
use Rattle.hp_graph.specs.Searching.{Searches, AreDone, LeadsBack, rank_of}
use Rattle.hp_graph.proofs.ResultLaws.{are_ranks, is_cycle}
use Rattle.hp_graph.proofs.search.search_linked.Goals as goal

pub returns-in-None : goal.returns-in-None
returns-in-None c =
    let edges = c.args.edges.now in
    let left = c.follow_all.new.left in
    let marks = c.follow_all.new.marks in
    let found = subst (λ f. IfNone f ((done : ℕ) × (Searches edges left marks [] done × AreDone marks (length marks)))) c.in-None.is c.in_ok-follow_all.ensures.ranked in
    subst (λ r. AreRanks (length c.args.marks.now) edges r) (sym c.in_ok-ranks_of-in-None.ensures)
    (subst (λ n. AreRanks n edges (map rank_of marks)) c.in_ok-follow_all.ensures.many (are_ranks edges left marks found.0 found.1.0 found.1.1))

pub returns : goal.returns
returns c =
    let edges = c.args.edges.now in
    let left = c.follow_all.new.left in
    let marks = c.follow_all.new.marks in
    let path = c.follow_all.new.path.items in
    let place = c.in-Some.place in
    let found = subst (λ f. IfSome f (λ place. LeadsBack edges path place × ((done : ℕ) × Searches edges left marks path done))) c.in-Some.is c.in_ok-follow_all.ensures.back in
    let cycle = is_cycle edges left marks path found.1.0 place found.1.1 found.0 in
    let at : c.deref.result.now ≡ path = c.deref.ensures.value in
    let rest : c.in_ok-from_slice-in-Some.field-0.items ≡ drop place path =
    c.in_ok-from_slice-in-Some.ensures.items ∙ (take_rest c.deref.result.now place ∙ ap (λ p. drop place p) at) in
    subst (λ n. IsCycle edges c.in_ok-from_slice-in-Some.field-0.items × All (λ v. v < n) c.in_ok-from_slice-in-Some.field-0.items) c.in_ok-follow_all.ensures.many
    (subst (λ p. IsCycle edges p × All (λ v. v < length marks) p) (sym rest) cycle)
