use Rattle.std.proofs.Common.{◌≡◌, ◌<◌, ◌+◌, ◌∙◌, false, true, length, get_or, sym, subst, rules}
use Rattle.hp_circuit.proofs.SteeredLaws.{Grown, AreClosed, grown_more, closed_then, closed_else}
use Rattle.hp_circuit.proofs.steered.mark_readers.Goals as goal
use Rattle.hp_circuit.proofs.steered.mark_readers.Goals.{then-steered-read, else-steered-read}

pub loop-i-preserved : goal.loop-i-preserved
loop-i-preserved c =
    let edges = c.args.edges.now in
    let i = c.loop-i.i in
    let l : i < length edges = search rules in
    let within : (get_or edges i (0, 0, 0)).1 < length c.loop-i.steered = search rules in
    elim c.if-steered-read.branch [
      | then-steered-read w ↦ (
        subst (Grown edges c.args.steered.now) (sym w.steered-is) (grown_more edges c.args.steered.now c.loop-i.steered i l within w.if-steered-read.true c.loop-i.invariant.0),
        subst (AreClosed edges (i + 1)) (sym w.steered-is) (closed_then edges c.loop-i.steered i l within c.loop-i.invariant.1),
      )
      | else-steered-read w ↦ (
        subst (Grown edges c.args.steered.now) (sym w.steered-is) c.loop-i.invariant.0,
        subst (AreClosed edges (i + 1)) (sym w.steered-is) (closed_else edges c.loop-i.steered i l (λ r. let e : false ≡ true = sym w.if-steered-read.false ∙ r in cc) c.loop-i.invariant.1),
      )
    ]

pub returns-clause-closed : goal.returns-clause-closed
returns-clause-closed c = λ ranks f k d l. c.loop-i.invariant.1 ranks f k d (search rules)
