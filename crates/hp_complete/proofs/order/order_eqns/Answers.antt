use Rattle.std.proofs.Common.{map, sym, ap, subst, ◌∙◌}
use Rattle.law_equations.specs.Meaning.Scheduling.{IsRanked}
use Rattle.hp_graph.specs.Graphs.{IsSortedBy}
use Rattle.hp_complete.specs.Edges.{edges_of, placed}
use Rattle.hp_complete.specs.Ordering.{unplaced}
use Rattle.hp_complete.proofs.OrderLaws.{ranked-placed, same-placed, circular-cycle}
use Rattle.hp_complete.proofs.order.order_eqns.Goals as goal

pub returns-in-Ranks-clause-same : goal.returns-in-Ranks-clause-same
returns-in-Ranks-clause-same c =
    let ranks = c.in-Ranks.ranks.items in
    let v = c.args.variables in
    let es = c.args.eqns.now in
    ap (map unplaced) (c.in_ok-place-in-Ranks.ensures.placed ∙ ap (λ rs. placed rs v es) c.deref.ensures.value) ∙ same-placed ranks v es

pub returns-in-Ranks-clause-ranked : goal.returns-in-Ranks-clause-ranked
returns-in-Ranks-clause-ranked c =
    let ranks = c.in-Ranks.ranks.items in
    let v = c.args.variables in
    let es = c.args.eqns.now in
    subst IsRanked (sym (c.in_ok-place-in-Ranks.ensures.placed ∙ ap (λ rs. placed rs v es) c.deref.ensures.value))
    (ranked-placed ranks v es (subst (IsSortedBy (edges_of v es)) c.in-Ranks.is c.in_ok-ranks.ensures))

pub returns-clause-circular : goal.returns-clause-circular
returns-clause-circular c =
    λ h. circular-cycle c.args.variables c.args.eqns.now h c.in-Cycle.field-0.items (subst (IsSortedBy (edges_of c.args.variables c.args.eqns.now)) c.in-Cycle.is c.in_ok-ranks.ensures)
