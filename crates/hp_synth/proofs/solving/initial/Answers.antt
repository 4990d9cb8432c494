use Rattle.std.proofs.Common.{◌≡◌, length, sym, ap, ◌∙◌, arith}
use Rattle.hp_diagram.specs.Diagrams.{valuation}
use Rattle.hp_synth.specs.Layouts.{place}
use Rattle.hp_synth.specs.Valued.{Valued, read, through}
use Rattle.hp_synth.proofs.Ranges.{read-list}
use Rattle.hp_synth.proofs.solving.initial.Goals as goal

pub returns-clause-states : goal.returns-clause-states
returns-clause-states c =
    let m = c.args.m.now in
    let w : Valued = through (place c.args.layout.now) (valuation c.loop-k.values.items) in
    let len : length m.init ≡ m.registers = c.vars.ensures.kept.init in
    ap (λ n. read 0 n w) (sym len)
    ∙ read-list 0 w m.init (λ k l. ap w (omega arith) ∙ c.loop-k.invariant.1 k (omega (arith, l, len, c.loop-k-test.false, c.requires.counts.0)))
