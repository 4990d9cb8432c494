use Rattle.std.proofs.Common.{◌≡◌, suc, ◌+◌, ◌-◌, ◌<◌, ◌∷◌, [], ◌++◌, List, ℕ, Option, Some, None, IsSome, option_to_list, length, get_or, set, sym, ap, ◌∙◌, subst, refl, arith, rules}
use Rattle.hp_graph.specs.Searching.{mark_at, Goes, to_of, Searches, IsEnd}
use Rattle.hp_graph.specs.declared.search.Mark.{Mark}
use Rattle.hp_graph.proofs.LookLaws.{looks_left, looks_in, looks_back, looks_on, number_there}
use Rattle.hp_graph.proofs.search.look.Goals as goal

-- the last vertex is taken off a path that has one
popped : (edges : List (ℕ × ℕ)) (left : List ℕ) (marks : List Mark) (path rest : List ℕ) (done v : ℕ) (top : Option ℕ) → Searches edges left marks path done → IsEnd path v → path ≡ rest ++ option_to_list top → (0 < length path) → get_or left v 0 ≡ 0 → IsSome top → Goes edges left marks left (set marks v (Mark.Done done)) rest (done + 1)
popped edges left marks path rest done v None s e split some none top = absurd (cc top)
popped edges left marks path rest done v (Some w) s e split some none top = looks_left edges left marks path done v s e rest w split none

pub returns-then-number-eq0-clause-goes : goal.returns-then-number-eq0-clause-goes
returns-then-number-eq0-clause-goes c =
    let many : length c.args.path.now.items ≡ suc c.requires.end.before = c.requires.end.many in
    popped c.args.edges.now c.args.left.now c.args.marks.now c.args.path.now.items c.pop.new.self.items c.args.done.now c.args.vertex c.pop.result c.requires.searches c.requires.end c.pop.ensures.items (omega arith) c.if-number-eq0.true (c.pop.ensures.variant.1 (search rules))

pub target-next-requires : goal.target-next-requires
target-next-requires c =
    (number_there c.args.edges.now c.args.left.now c.args.marks.now c.args.path.now.items c.args.done.now c.args.vertex c.requires.searches c.requires.end (get_or c.args.left.now c.args.vertex 0) refl c.if-number-eq0.false).0

pub returns-in_ok-enter-in-New-clause-goes : goal.returns-in_ok-enter-in-New-clause-goes
returns-in_ok-enter-in-New-clause-goes c =
    let edges = c.args.edges.now in
    let left = c.args.left.now in
    let marks = c.args.marks.now in
    let path = c.args.path.now.items in
    let done = c.args.done.now in
    let number = get_or left c.args.vertex 0 in
    let next : c.target-next.result ≡ to_of edges (number - 1) = c.target-next.ensures in
    let new : mark_at marks (to_of edges (number - 1)) ≡ Mark.New = ap (λ w. mark_at marks w) (sym next) ∙ c.in-New.is in
    let law = looks_in edges left marks path done c.args.vertex c.requires.searches c.requires.end number refl c.if-number-eq0.false new in
    subst (λ m. Goes edges left marks left m c.enter.new.path.items done) (sym (c.in_ok-enter-in-New.ensures.marks ∙ ap (λ w. set marks w (Mark.Open (length path))) next))
    (subst (λ p. Goes edges left marks left (set marks (to_of edges (number - 1)) (Mark.Open (length path))) p done) (sym (c.in_ok-enter-in-New.ensures.path ∙ ap (λ w. path ++ w ∷ []) next)) law)

pub returns-in-Open-clause-back : goal.returns-in-Open-clause-back
returns-in-Open-clause-back c =
    let number = get_or c.args.left.now c.args.vertex 0 in
    let back = ap (λ w. mark_at c.args.marks.now w) (sym c.target-next.ensures) ∙ c.in-Open.is in
    (looks_back c.args.edges.now c.args.left.now c.args.marks.now c.args.path.now.items c.args.done.now c.args.vertex c.requires.searches c.requires.end number c.in-Open.place refl c.if-number-eq0.false back, c.requires.searches, refl)

pub returns-in-Done-clause-goes : goal.returns-in-Done-clause-goes
returns-in-Done-clause-goes c =
    let number = get_or c.args.left.now c.args.vertex 0 in
    let ranked = ap (λ w. mark_at c.args.marks.now w) (sym c.target-next.ensures) ∙ c.in-Done.is in
    looks_on c.args.edges.now c.args.left.now c.args.marks.now c.args.path.now.items c.args.done.now c.args.vertex c.requires.searches c.requires.end c.args.links.now c.requires.links number c.in-Done.field-0 refl c.if-number-eq0.false ranked
