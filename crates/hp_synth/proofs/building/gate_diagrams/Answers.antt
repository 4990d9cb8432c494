use Rattle.std.proofs.Common.{◌≡◌, ◌<◌, List, false, slice_index_or, length, take, refl, sym, subst, rules, arith}
use Rattle.std.proofs.lemmas.List.{take_all}
use Rattle.hp_diagram.specs.declared.reference.Ref.{Ref}
use Rattle.hp_diagram.specs.Diagrams.{Means}
use Rattle.hp_diagram.proofs.Choices.{Keeps-trans}
use Rattle.hp_boolx.specs.declared.gate.Gate.{Gate}
use Rattle.hp_boolx.specs.declared.gate.Gate.TheVariants.{Const}
use Rattle.hp_boolx.specs.Machine.{GateFits}
use Rattle.hp_synth.specs.Building.{AreGates, gate_function}
use Rattle.hp_synth.specs.Layouts.{place}
use Rattle.hp_synth.proofs.Gates.{fits-next, so-far-more}
use Rattle.hp_synth.proofs.building.gate_diagrams.Goals as goal

pub gate_diagram-requires-clause-fits : goal.gate_diagram-requires-clause-fits
gate_diagram-requires-clause-fits c =
    let gates = c.args.gates.now in
    let i = c.loop-i.i in
    let gate = slice_index_or gates i (Const false) in
    let within : i < length gates = search rules in
    let refs : c.deref.result.now ≡ c.loop-i.refs.items = c.deref.ensures.value in
    subst (λ (l : List Ref). GateFits c.loop-i.t.vars (length l) gate) (sym refs) (fits-next (place c.args.layout.now) c.args.t.now c.loop-i.t gates c.loop-i.refs.items i gate (Const false) within refl c.requires.fits c.loop-i.invariant)

pub loop-i-preserved : goal.loop-i-preserved
loop-i-preserved c =
    let gates = c.args.gates.now in
    let i = c.loop-i.i in
    let gate = slice_index_or gates i (Const false) in
    let within : i < length gates = search rules in
    so-far-more (place c.args.layout.now) c.args.t.now c.loop-i.t c.gate_diagram.new.t gates c.loop-i.refs.items i gate (Const false) within refl c.requires.fits c.loop-i.invariant c.gate_diagram.ensures.keeps c.in_ok-r.r
    (subst (λ (l : List Ref). Means c.gate_diagram.new.t (λ v. gate_function (place c.args.layout.now) c.loop-i.t l v gate) c.in_ok-r.r) c.deref.ensures.value c.in_ok-r.ensures.ok)
    c.push.new.self.items c.in_ok-push.ensures.items

pub returns-clause-ok : goal.returns-clause-ok
returns-clause-ok c = λ g same.
    let gates = c.args.gates.now in
    let whole : take c.loop-i.i gates ≡ gates = take_all c.loop-i.i gates (omega arith) in
    subst (λ (l : List Gate). AreGates g (place c.args.layout.now) c.loop-i.t l c.loop-i.refs.items) whole (c.loop-i.invariant.are g same)

pub returns-in_err-r-clause-keeps : goal.returns-in_err-r-clause-keeps
returns-in_err-r-clause-keeps c = Keeps-trans _ _ _ c.loop-i.invariant.keeps c.gate_diagram.ensures.keeps

pub returns-in_err-push-clause-keeps : goal.returns-in_err-push-clause-keeps
returns-in_err-push-clause-keeps c = Keeps-trans _ _ _ c.loop-i.invariant.keeps c.gate_diagram.ensures.keeps
