use Rattle.std.proofs.Common.{arith}
use Rattle.hp_diagram.proofs.Choices.{Keeps-trans}
use Rattle.hp_quant.specs.declared.pair.Pair.{Pair}
use Rattle.hp_quant.proofs.Sought.{Answers-settled, IfOk-behind, Answers-turned, turned-back, Answers-node, sides-smaller, low_behind, high_behind, AllAnswered-keeps, AllAnswered-put, Means-settled, IfOk-sides, low_later, high_later}
use Rattle.hp_quant.proofs.turns.+seek.Goals as goal

-- ---- seek

pub seek-returns-in-Some-clause-ok : goal.seek-returns-in-Some-clause-ok
seek-returns-in-Some-clause-ok m c = Answers-settled c.args.t.now c.args.plan c.args.of.now c.args.p c.in-Some.s c.requires.f c.requires.g c.in-Some.ensures

pub seek-returns-then-from-plan-clause-ok : goal.seek-returns-then-from-plan-clause-ok
seek-returns-then-from-plan-clause-ok m c =
    IfOk-behind c.args.t.now c.args.plan c.args.of.now c.vars-vars.ensures.reduced c.join.new.t c.args.p c.requires.f c.requires.g
    (omega (arith, c.if-from-plan.true, c.from.ensures, c.min-var.ensures, c.level.ensures.level, c.level-2.ensures.level))
    (omega (arith, c.if-from-plan.true, c.from.ensures, c.min-var.ensures, c.level.ensures.level, c.level-2.ensures.level))
    c.join.ensures.keeps c.join.result c.join.ensures.ok

pub seek-returns-then-from-plan-clause-right : goal.seek-returns-then-from-plan-clause-right
seek-returns-then-from-plan-clause-right m c = AllAnswered-keeps c.args.t.now c.join.new.t c.args.plan c.args.of.now c.join.ensures.keeps c.args.found.now c.requires.right

pub seek-returns-in-Some-get-clause-ok : goal.seek-returns-in-Some-get-clause-ok
seek-returns-in-Some-get-clause-ok m c =
    Answers-turned c.args.t.now c.args.plan c.args.of.now c.ordered-key.result c.args.p c.in-Some-get.s (turned-back c.args.t.now c.args.plan c.args.of.now c.args.p c.ordered-key.result c.ordered-key.ensures) (c.requires.right c.ordered-key.result c.in-Some-get.s c.in-Some-get.ensures)

pub seek-seek_sides-requires : goal.seek-seek_sides-requires
seek-seek_sides-requires m c =
    let t = c.args.t.now in
    let reduced = c.vars-vars.ensures.reduced in
    let low : Pair = record { f = c.children.result.0; g = c.children-2.result.0 } in
    let high : Pair = record { f = c.children.result.1; g = c.children-2.result.1 } in
    let smaller = sides-smaller t c.args.plan c.args.of.now reduced c.min-var.result c.args.p low high c.children.ensures c.children-2.ensures (omega (arith, c.if-from-plan.false, c.from.ensures)) (omega (arith, c.min-var.ensures, c.level.ensures.level, c.level-2.ensures.level)) in (
      omega (arith, smaller.0, smaller.1, c.decreases),
      (
        low_behind t c.args.plan c.args.of.now reduced c.min-var.result c.args.p low high c.children.ensures c.children-2.ensures (omega (arith, c.if-from-plan.false, c.from.ensures)),
        (
          high_behind t c.args.plan c.args.of.now reduced c.min-var.result c.args.p low high c.children.ensures c.children-2.ensures (omega (arith, c.if-from-plan.false, c.from.ensures)),
          (omega (arith, c.if-from-plan.false, c.from.ensures), (c.requires.within, c.requires.right)),
        ),
      ),
    )

pub seek-returns-clause-ok : goal.seek-returns-clause-ok
seek-returns-clause-ok m c =
    Answers-node c.args.t.now c.args.plan c.args.of.now c.vars-vars.ensures.reduced c.min-var.result c.args.p _ _ c.children.ensures c.children-2.ensures (omega (arith, c.if-from-plan.false, c.from.ensures)) c.seek_sides.new.t c.in_ok-s.s c.requires.f c.requires.g c.seek_sides.ensures.keeps c.in_ok-s.ensures.ok

pub seek-returns-clause-right : goal.seek-returns-clause-right
seek-returns-clause-right m c =
    let new = Answers-node c.args.t.now c.args.plan c.args.of.now c.vars-vars.ensures.reduced c.min-var.result c.args.p _ _ c.children.ensures c.children-2.ensures (omega (arith, c.if-from-plan.false, c.from.ensures)) c.seek_sides.new.t c.in_ok-s.s c.requires.f c.requires.g c.seek_sides.ensures.keeps c.in_ok-s.ensures.ok in
    let turned = Answers-turned c.seek_sides.new.t c.args.plan c.args.of.now c.args.p c.ordered-key.result c.in_ok-s.s c.ordered-key.ensures new in
    AllAnswered-put c.seek_sides.new.t c.args.plan c.args.of.now c.seek_sides.new.found c.put.new.self c.ordered-key.result c.in_ok-s.s c.put.ensures c.seek_sides.ensures.right turned

pub seek-returns-in_err-put-clause-right : goal.seek-returns-in_err-put-clause-right
seek-returns-in_err-put-clause-right m c =
    let new = Answers-node c.args.t.now c.args.plan c.args.of.now c.vars-vars.ensures.reduced c.min-var.result c.args.p _ _ c.children.ensures c.children-2.ensures (omega (arith, c.if-from-plan.false, c.from.ensures)) c.seek_sides.new.t c.in_ok-s.s c.requires.f c.requires.g c.seek_sides.ensures.keeps c.in_ok-s.ensures.ok in
    let turned = Answers-turned c.seek_sides.new.t c.args.plan c.args.of.now c.args.p c.ordered-key.result c.in_ok-s.s c.ordered-key.ensures new in
    AllAnswered-put c.seek_sides.new.t c.args.plan c.args.of.now c.seek_sides.new.found c.put.new.self c.ordered-key.result c.in_ok-s.s c.put.ensures c.seek_sides.ensures.right turned

-- ---- seek_sides

pub seek_sides-returns-then-is_settled-clause-ok : goal.seek_sides-returns-then-is_settled-clause-ok
seek_sides-returns-then-is_settled-clause-ok m c =
    Means-settled c.args.t.now c.seek.new.t c.args.plan c.args.of.now c.vars-vars.ensures.reduced c.args.var c.args.low c.args.high c.requires.low c.requires.high c.requires.within c.requires.in_range c.seek.ensures.keeps c.in_ok-below.below c.in_ok-below.ensures.ok
    c.way-way.result c.way-way.ensures (c.is_settled.ensures c.if-is_settled.true)

pub seek_sides-returns-in_err-above-clause-keeps : goal.seek_sides-returns-in_err-above-clause-keeps
seek_sides-returns-in_err-above-clause-keeps m c = Keeps-trans _ _ _ c.seek.ensures.keeps c.seek-2.ensures.keeps

pub seek_sides-join-requires-clause-low_later : goal.seek_sides-join-requires-clause-low_later
seek_sides-join-requires-clause-low_later m c =
    low_later c.args.t.now c.seek.new.t c.args.plan c.args.of.now c.vars-vars.ensures.reduced c.args.var c.args.low c.args.high c.requires.low c.requires.high c.requires.within c.requires.in_range c.seek.ensures.keeps c.in_ok-below.below c.in_ok-below.ensures.ok
    c.seek-2.new.t c.seek-2.ensures.keeps c.in_ok-above.above c.in_ok-above.ensures.ok

pub seek_sides-join-requires-clause-high_later : goal.seek_sides-join-requires-clause-high_later
seek_sides-join-requires-clause-high_later m c =
    high_later c.args.t.now c.seek.new.t c.args.plan c.args.of.now c.vars-vars.ensures.reduced c.args.var c.args.low c.args.high c.requires.low c.requires.high c.requires.within c.requires.in_range c.seek.ensures.keeps c.in_ok-below.below c.in_ok-below.ensures.ok
    c.seek-2.new.t c.seek-2.ensures.keeps c.in_ok-above.above c.in_ok-above.ensures.ok

pub seek_sides-returns-clause-ok : goal.seek_sides-returns-clause-ok
seek_sides-returns-clause-ok m c =
    IfOk-sides c.args.t.now c.seek.new.t c.args.plan c.args.of.now c.vars-vars.ensures.reduced c.args.var c.args.low c.args.high c.requires.low c.requires.high c.requires.within c.requires.in_range c.seek.ensures.keeps c.in_ok-below.below c.in_ok-below.ensures.ok
    c.seek-2.new.t c.seek-2.ensures.keeps c.in_ok-above.above c.in_ok-above.ensures.ok
    c.join.new.t c.way-way.result c.way-way.ensures c.join.result c.join.ensures.ok

pub seek_sides-returns-clause-keeps : goal.seek_sides-returns-clause-keeps
seek_sides-returns-clause-keeps m c = Keeps-trans _ _ _ (Keeps-trans _ _ _ c.seek.ensures.keeps c.seek-2.ensures.keeps) c.join.ensures.keeps

pub seek_sides-returns-clause-right : goal.seek_sides-returns-clause-right
seek_sides-returns-clause-right m c = AllAnswered-keeps c.seek-2.new.t c.join.new.t c.args.plan c.args.of.now c.join.ensures.keeps c.seek-2.new.found c.seek-2.ensures.right
