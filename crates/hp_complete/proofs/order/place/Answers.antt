use Rattle.std.proofs.Common.{◌<◌, ◌+◌, ◌++◌, length, get_or, take, drop, set, arith, sym, ap, subst, ◌∙◌}
use Rattle.std.proofs.lemmas.List.{get_or_default}
use Rattle.std.proofs.lemmas.List.Elements.{All-get_or, All-set}
use Rattle.hp_flat.specs.Equations.{FlatEqn}
use Rattle.hp_complete.specs.Edges.{placed}
use Rattle.hp_complete.specs.Ranges.{EqnWithin}
use Rattle.hp_complete.proofs.EdgeSteps.{places-begin, places-next, place-within}
use Rattle.hp_complete.proofs.order.place.Goals as goal

pub loop-i-init : goal.loop-i-init
loop-i-init c = record { placed = places-begin c.args.ranks.now c.args.variables c.args.eqns.now; within = λ n h. h }

pub loop-i-preserved : goal.loop-i-preserved
loop-i-preserved c =
    let es = c.loop-i.eqns in
    let i = c.loop-i.i in
    let e : FlatEqn = get_or es i c.index-eqns-i.result in
    let inside : i < length es = omega (arith, c.loop-i.auto.eqns, c.loop-i-test.true) in
    record {
      placed = ap (λ d. take (i + 1) (set es i d) ++ placed c.args.ranks.now (c.args.variables + (i + 1)) (drop (i + 1) (set es i d))) c.place_one.ensures
          ∙ places-next c.args.ranks.now c.args.variables es i c.rank_of.result c.in_ok-vertex.vertex e inside (get_or_default es i c.index-eqns-i.result e inside) c.in_ok-vertex.ensures c.rank_of.ensures
          ∙ c.loop-i.invariant.placed;
      within = λ n h. let all = c.loop-i.invariant.within n h in
          All-set (EqnWithin n) es i c.place_one.new.eqn (subst (EqnWithin n) (sym c.place_one.ensures) (place-within n e c.rank_of.result (All-get_or (EqnWithin n) es i c.index-eqns-i.result inside all))) all;
    }
