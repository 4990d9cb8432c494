use Rattle.std.proofs.Common.{◌≡◌, map, Some, sym, ap, ◌∙◌, arith, rules}
use Rattle.hp_native.proofs.LinkLaws.{get-map, none-next, none-all}
use Rattle.hp_native.proofs.linked.native_of.Goals as goal

pub loop-i-init : goal.loop-i-init
loop-i-init g c = λ j lt. absurd (omega (arith, lt))

pub returns-then-same_machine-clause-first : goal.returns-then-same_machine-clause-first
returns-then-same_machine-clause-first g c = (
  get-map g.N.Answers.machine c.args.natives.now c.loop-i.i c.index-natives-i.result (omega (arith, c.loop-i-test.true)) c.index-natives-i.is
      ∙ ap Some (sym c.machine-own.ensures.machine ∙ c.same_machine.ensures.0 c.if-same_machine.true),
  c.loop-i.invariant,
)

pub loop-i-preserved : goal.loop-i-preserved
loop-i-preserved g c =
    let natives = c.args.natives.now in
    none-next (map g.N.Answers.machine natives) c.args.machine.now c.loop-i.i c.loop-i.invariant
    (λ found. let at = get-map g.N.Answers.machine natives c.loop-i.i c.index-natives-i.result (omega (arith, c.loop-i-test.true)) c.index-natives-i.is in
    let same : g.N.Answers.machine c.index-natives-i.result ≡ c.args.machine.now = cc in
    let yes = c.same_machine.ensures.1 (c.machine-own.ensures.machine ∙ same) in
    absurd cc)

pub returns-clause-first : goal.returns-clause-first
returns-clause-first g c = none-all g.N.Answers.machine c.args.natives.now c.args.machine.now c.loop-i.i (search rules) c.loop-i.invariant
