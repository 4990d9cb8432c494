use Rattle.std.proofs.Common.{◌≡◌, ◌<◌, ◌+◌, ◌∙◌, length, refl, sym, subst, rules}
use Rattle.hp_circuit.specs.Levels.{AreLifted, lifted, read_of, reader_of}
use Rattle.hp_circuit.proofs.LevelLaws.{lifted_long, lifted_more, lifted_none}
use Rattle.hp_circuit.proofs.levels.lift_all.Goals as goal

pub loop-i-init : goal.loop-i-init
loop-i-init c = (refl, λ ranks f. subst (AreLifted c.args.edges.now 0) (sym c.requires.none) (lifted_none c.args.edges.now (length c.args.levels.now)))

pub loop-i-preserved : goal.loop-i-preserved
loop-i-preserved c =
    let edges = c.args.edges.now in
    let i = c.loop-i.i in
    let levels = c.loop-i.levels in
    let l : i < length edges = search rules in
    let there : reader_of edges i < length levels = search rules in
    let new : c.lift.new.levels ≡ lifted levels (reader_of edges i) (read_of edges i) = c.in_ok-lift.ensures in (
      subst (λ ls. length ls ≡ length c.args.levels.now) (sym new) (lifted_long levels (reader_of edges i) (read_of edges i) ∙ c.loop-i.invariant.0),
      λ ranks f. subst (AreLifted edges (i + 1)) (sym new) (lifted_more edges ranks f i l levels there (c.loop-i.invariant.1 ranks f)),
    )

pub returns-clause-lifted : goal.returns-clause-lifted
returns-clause-lifted c =
    λ ranks f.
    let e : c.loop-i.i ≡ length c.args.edges.now = search rules in
    subst (λ n. AreLifted c.args.edges.now n c.loop-i.levels) e (c.loop-i.invariant.1 ranks f)
