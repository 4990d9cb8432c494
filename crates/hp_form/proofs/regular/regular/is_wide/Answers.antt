use Rattle.std.proofs.Common.{◌<◌, length, take, get_or, sym, subst, arith}
use Rattle.std.proofs.lemmas.List.{take_more}
use Rattle.hp_flat.specs.Equations.{Clock}
use Rattle.hp_toobc.specs.Stepping.{AreWide}
use Rattle.hp_toobc.specs.Tables.{variable_type, width_of}
use Rattle.hp_form.proofs.RegularLemmas.RegularLaws.{wide-more, wide-at}
use Rattle.hp_form.proofs.regular.regular.is_wide.Goals as goal

pub returns-then-from-width : goal.returns-then-from-width
returns-then-from-width c = (
  λ h. absurd cc,
  λ h.
      let t = c.args.tables.now in
      let at = wide-at t.types.now t.variables.now c.args.clock.now c.loop-i.i (0, 0) h (omega arith) in
      absurd (omega (arith, at, c.if-from-width.true, c.from.ensures, c.width.ensures)),
)

pub loop-i-preserved : goal.loop-i-preserved
loop-i-preserved c =
    let t = c.args.tables.now in
    let clock = c.args.clock.now in
    let i = c.loop-i.i in
    let within : i < length clock = omega arith in
    let fits : (get_or clock i (0, 0)).1 < width_of t.types.now (variable_type t.variables.now (get_or clock i (0, 0)).0) = omega (arith, c.if-from-width.false, c.from.ensures, c.width.ensures) in
    subst (λ (as_far : Clock). AreWide t.types.now t.variables.now as_far) (sym (take_more clock i (0, 0) within))
    (wide-more t.types.now t.variables.now (take i clock) (get_or clock i (0, 0)) c.loop-i.invariant fits)
