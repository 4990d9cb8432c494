use Rattle.std.proofs.Common.{◌+◌, ◌≤◌, not, List, length, sym, subst, arith}
use Rattle.hp_diagram.specs.declared.reference.Ref.{Ref}
use Rattle.hp_diagram.proofs.Choices.{Keeps-trans, Means-keeps}
use Rattle.hp_boolx.specs.Machine.{game}
use Rattle.hp_boolx.proofs.GateLaws.{game-form}
use Rattle.hp_synth.specs.Building.{HasEach}
use Rattle.hp_synth.specs.Kept.{AllMean}
use Rattle.hp_synth.specs.Layouts.{place}
use Rattle.hp_synth.specs.Sought.{base_at}
use Rattle.hp_synth.specs.Valued.{OfState}
use Rattle.hp_synth.proofs.RoundSteps.{if_ok-map}
use Rattle.hp_synth.proofs.SearchSteps.{base_at-len}
use Rattle.hp_synth.proofs.SoughtLaws.{all-has, all-keeps, all-len}
use Rattle.hp_control.proofs.permitted.permitted_choices.Goals as goal

pub returns-in_err-lost-clause-keeps : goal.returns-in_err-lost-clause-keeps
returns-in_err-lost-clause-keeps c = Keeps-trans _ _ _ c.prepare.ensures.keeps c.others_at.ensures.keeps

pub permitted_at-requires-clause-has : goal.permitted_at-requires-clause-has
permitted_at-requires-clause-has c =
    let u = c.others_at.new.t in
    let fs = base_at (place c.args.layout.now) (game c.args.m.now) in
    subst (λ (rs : List Ref). HasEach u rs) (sym c.deref.ensures.value) (all-has u fs c.in_ok-roots.roots.items (all-keeps c.prepare.new.t u fs c.in_ok-roots.roots.items c.others_at.ensures.keeps c.in_ok-roots.ensures.ok))

pub permitted_at-requires-clause-roots : goal.permitted_at-requires-clause-roots
permitted_at-requires-clause-roots c =
    let g = game c.args.m.now in
    let at_places = place c.args.layout.now in
    let same = c.requires.counts.0 in
    let len = all-len c.prepare.new.t (base_at at_places g) c.in_ok-roots.roots.items c.in_ok-roots.ensures.ok in
    let front = base_at-len at_places g in
    let within : 5 + c.args.layout.now.counts.registers ≤ length c.in_ok-roots.roots.items = omega (arith, same, len, front) in
    subst (λ (rs : List Ref). 5 + c.args.layout.now.counts.registers ≤ length rs) (sym c.deref.ensures.value) within

pub returns-clause-ok : goal.returns-clause-ok
returns-clause-ok c =
    let m = c.args.m.now in
    let g = game m in
    let t = c.args.t.now in
    let u = c.others_at.new.t in
    let fs = base_at (place c.args.layout.now) g in
    let form = game-form m c.vars-vars.ensures.kept in
    let all_of = subst (λ (rs : List Ref). AllMean u fs rs) (sym c.deref.ensures.value) (all-keeps c.prepare.new.t u fs c.in_ok-roots.roots.items c.others_at.ensures.keeps c.in_ok-roots.ensures.ok) in
    if_ok-map c.permitted_at.result (λ r is X inv.
    let now = Means-keeps t c.prepare.new.t c.prepare.ensures.keeps _ c.args.inv inv in
    is g (λ s. not (X s)) form c.requires.counts all_of (c.in_ok-lost.ensures.ok (OfState g X) now))
    c.permitted_at.ensures.ok

pub returns-clause-keeps : goal.returns-clause-keeps
returns-clause-keeps c = Keeps-trans _ _ _ (Keeps-trans _ _ _ c.prepare.ensures.keeps c.others_at.ensures.keeps) c.permitted_at.ensures.keeps
