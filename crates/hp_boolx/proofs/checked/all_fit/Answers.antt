use Rattle.std.proofs.Common.{◌≡◌, ◌+◌, ◌<◌, ◌++◌, ◌∷◌, [], List, false, true, not, length, take, slice_index_or, sym, subst, ◌∙◌, zero-add, rules, arith}
use Rattle.std.proofs.lemmas.List.{take_more, length-take-le}
use Rattle.std.proofs.lemmas.Bool.{both_ways}
use Rattle.hp_boolx.specs.declared.gate.Gate.{Gate}
use Rattle.hp_boolx.specs.declared.gate.Gate.TheVariants.{Const}
use Rattle.hp_boolx.specs.Machine.{AreFit, GateFits}
use Rattle.hp_boolx.proofs.GateLaws.{fit-at, fit-more}
use Rattle.hp_boolx.proofs.checked.all_fit.Goals as goal

pub returns-then-not-fits : goal.returns-then-not-fits
returns-then-not-fits c = (
  λ h. absurd cc,
  λ h.
      let i = c.loop-i.i in
      let fit = fit-at c.args.vars 0 c.args.gates.now h i i (Const false) (sym (zero-add i)) (omega arith) in
      absurd (both_ways c.fits.result c.if-not-fits.true (c.fits.ensures.1 fit)),
)

pub loop-i-preserved : goal.loop-i-preserved
loop-i-preserved c =
    let gates = c.args.gates.now in
    let i = c.loop-i.i in
    let gate = slice_index_or gates i (Const false) in
    let within : i < length gates = omega arith in
    let fit : GateFits c.args.vars i gate = c.fits.ensures.0 c.if-not-fits.false in
    let len : i ≡ 0 + length (take i gates) = sym (zero-add (length (take i gates)) ∙ length-take-le i gates (omega arith)) in
    subst (λ (gs : List Gate). AreFit c.args.vars 0 gs) (sym (take_more gates i (Const false) within)) (fit-more c.args.vars 0 (take i gates) gate c.loop-i.invariant (subst (λ n. GateFits c.args.vars n gate) len fit))
