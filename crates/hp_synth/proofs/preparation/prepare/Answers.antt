use Rattle.std.proofs.Common.{◌≡◌, List, sym, ap, subst, ◌∙◌}
use Rattle.hp_diagram.specs.declared.reference.Ref.{Ref}
use Rattle.hp_diagram.proofs.Choices.{Keeps-trans}
use Rattle.hp_boolx.specs.declared.gate.Gate.{Gate}
use Rattle.hp_boolx.specs.Machine.{Machine, game}
use Rattle.hp_synth.specs.Layouts.{place}
use Rattle.hp_synth.proofs.LayoutLaws.{layout-total}
use Rattle.hp_synth.specs.Building.{AreGates}
use Rattle.hp_synth.proofs.preparation.prepare.Goals as goal

pub prepare_gates-requires-clause-gates : goal.prepare_gates-requires-clause-gates
prepare_gates-requires-clause-gates c =
    let m = c.args.m.now in
    let t = c.gate_diagrams.new.t in
    let gates : c.deref.result.now ≡ m.gates = c.deref.ensures.value ∙ ap (λ (n : Machine). n.gates) c.m.view_is in
    subst (λ (rs : List Ref). AreGates (game m) (place c.args.layout.now) t m.gates rs) (sym c.deref-2.ensures.value)
    (subst (λ (gs : List Gate). AreGates (game m) (place c.args.layout.now) t gs c.in_ok-gates.gates.items) gates (c.in_ok-gates.ensures.ok (game m) (sym (layout-total c.args.t.now.vars c.args.layout.now (game m) c.requires.layout c.requires.counts))))

pub returns-clause-keeps : goal.returns-clause-keeps
returns-clause-keeps c = Keeps-trans _ _ _ c.gate_diagrams.ensures.keeps c.prepare_gates.ensures.keeps
