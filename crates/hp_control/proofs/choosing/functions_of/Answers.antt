use Rattle.std.proofs.Common.{◌≡◌, not, length, sym, ap, subst, ◌∙◌}
use Rattle.hp_diagram.proofs.Choices.{Keeps-trans}
use Rattle.hp_boolx.specs.Game.{permitted, preferred}
use Rattle.hp_boolx.specs.Machine.{Machine, IsMachine, game}
use Rattle.hp_boolx.specs.Search.{Bits, Set}
use Rattle.hp_boolx.specs.Solved.{IsChoice}
use Rattle.hp_boolx.proofs.GateLaws.{game-form}
use Rattle.hp_boolx.proofs.SolvedLaws.{win-choice}
use Rattle.hp_synth.specs.Layouts.{place, IsLayout}
use Rattle.hp_synth.specs.Valued.{through, states, earlies, control_from}
use Rattle.hp_control.specs.Controlling.{AreLeft}
use Rattle.hp_control.proofs.choosing.functions_of.Goals as goal

pub permitted_choices-requires-clause-layout : goal.permitted_choices-requires-clause-layout
permitted_choices-requires-clause-layout c = subst (λ n. IsLayout n c.in_ok-layout.layout) c.requires.fits c.in_ok-layout.ensures.layout

pub bits-requires-clause-layout : goal.bits-requires-clause-layout
bits-requires-clause-layout c = subst (λ n. IsLayout n c.in_ok-layout.layout) (c.requires.fits ∙ sym c.permitted_choices.ensures.keeps.vars) c.in_ok-layout.ensures.layout

pub bits-requires-clause-count : goal.bits-requires-clause-count
bits-requires-clause-count c =
    let m = c.args.m.now in
    let kept : IsMachine m = subst IsMachine c.m.view_is c.m.invariant in
    let prefer : c.deref.result.now ≡ m.prefer = c.deref.ensures.value ∙ ap (λ (n : Machine). n.prefer) c.m.view_is in
    ap (λ (bs : Bits). length bs) prefer ∙ kept.prefer ∙ c.in_ok-layout.ensures.counts.2

pub returns-in_err-funs-clause-keeps : goal.returns-in_err-funs-clause-keeps
returns-in_err-funs-clause-keeps c = Keeps-trans _ _ _ c.permitted_choices.ensures.keeps c.bits.ensures.keeps

pub returns-clause-keeps : goal.returns-clause-keeps
returns-clause-keeps c = Keeps-trans _ _ _ c.permitted_choices.ensures.keeps c.bits.ensures.keeps

pub returns-clause-ok : goal.returns-clause-ok
returns-clause-ok c = λ X safe won v.
    let m = c.args.m.now in
    let g = game m in
    let t = c.permitted_choices.new.t in
    let at_places = place c.in_ok-layout.layout in
    let w = through at_places v in
    let kept : IsMachine m = subst IsMachine c.m.view_is c.m.invariant in
    let prefer : c.deref.result.now ≡ m.prefer = c.deref.ensures.value ∙ ap (λ (n : Machine). n.prefer) c.m.view_is in
    let q : Bits → Bits → Set = λ r u. permitted g (λ s. not (X s)) r u in
    let choices = c.in_ok-choices.ensures.ok X safe in
    let left : AreLeft g at_places t (control_from g) g.control q c.in_ok-choices.choices = choices in
    let there : AreLeft g at_places t (control_from g) (length c.deref.result.now) q c.in_ok-choices.choices =
    subst (λ n. AreLeft g at_places t (control_from g) n q c.in_ok-choices.choices) (sym (ap (λ (bs : Bits). length bs) prefer ∙ kept.prefer)) left in
    let value = c.in_ok-funs.ensures.ok g q c.in_ok-layout.ensures.counts there v ∙ ap (λ (bs : Bits). preferred bs (q (states g w) (earlies g w))) prefer in
    subst (λ (bits : Bits). IsChoice g (states g w) (earlies g w) bits) (sym value) (win-choice g (game-form m kept) X won (states g w) (earlies g w))
