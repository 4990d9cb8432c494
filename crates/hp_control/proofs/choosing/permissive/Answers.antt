use Rattle.std.proofs.Common.{◌∙◌, sym, subst}
use Rattle.hp_boolx.specs.Machine.{IsMachine, game}
use Rattle.hp_boolx.proofs.GateLaws.{game-form}
use Rattle.hp_boolx.proofs.SolvedLaws.{permissive}
use Rattle.hp_synth.specs.Valued.{states, earlies, controls, control_from}
use Rattle.hp_synth.specs.Verdicts.{IsWon}
use Rattle.hp_synth.proofs.Ranges.{read-len}
use Rattle.hp_synth.proofs.RoundSteps.{if_ok-map}
use Rattle.hp_control.proofs.choosing.permissive.Goals as goal

pub returns-clause-ok : goal.returns-clause-ok
returns-clause-ok c =
    let m = c.args.m.now in
    let g = game m in
    let form = game-form m (subst IsMachine c.m.view_is c.m.invariant) in
    let won = subst (IsWon g c.args.s.now.table) c.in-Win.is c.requires.won in
    if_ok-map c.choices_of.result (λ r is.
    let means = is won.0 won.1 in
    record {
      has = means.has;
      value = λ v.
          let told = permissive g form won.0 won.2 (states g v) (earlies g v) (controls g v) (read-len (control_from g) g.control v) in
          (λ h. told.0 (sym (means.value v) ∙ h), λ p. means.value v ∙ told.1 p);
    })
    c.choices_of.ensures.ok
