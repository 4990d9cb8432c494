use Rattle.std.proofs.Common.{[], sym, ap, subst, ◌≡◌, ◌∙◌}
use Rattle.std.proofs.lemmas.List.{with_items_is}
use Rattle.hp_base.specs.Kinds.{AreOfKinds}
use Rattle.hp_exec.specs.Executors.{Executor}
use Rattle.hp_exec.specs.Layouts.{flat_kinds}
use Rattle.hp_io.proofs.ToldLaws.{Grows-nil}
use Rattle.hp_obc.specs.Kinded.{machine_keeps}
use Rattle.hp_obc.specs.Steps.{machine_behaviour}
use Rattle.hp_obctext.specs.MemoryKinds.{AreOfTypes, kinds_at, memory_text, misfit}
use Rattle.hp_driver.specs.Diagnostics.{checkpoint_line}
use Rattle.hp_driver.specs.Restoring.{NotRestored, NotRestoredFrom}
use Rattle.hp_driver.specs.Status.{code_of}
use Rattle.hp_driver.proofs.OutcomeLaws.{told_or_not}
use Rattle.hp_driver.proofs.SegmentLaws.{is_checkpoint, kinds_are, of_types, refused_checkpoint, stands_loaded}
use Rattle.hp_driver.proofs.checkpoint.restore_text.Goals as goal

pub returns-in_default-clause-told : goal.returns-in_default-clause-told
returns-in_default-clause-told g c = ([], Grows-nil (g.E.Sink.took c.args.diag.now), λ files mem gives. NotRestored.no_memory)

pub read_memory-requires-clause-kinds : goal.read_memory-requires-clause-kinds
read_memory-requires-clause-kinds g c = subst (AreOfTypes c.args.machines.now.types) (sym c.memory-2.ensures.values) (of_types c.args.machines.now c.args.node.now c.args.exec.now c.requires.stands)

pub returns-in-Ok-read_memory-clause-stands : goal.returns-in-Ok-read_memory-clause-stands
returns-in-Ok-read_memory-clause-stands g c =
    let o = c.args.machines.now in
    let node = c.args.node.now in
    let old = c.args.exec.now in
    let h = c.requires.stands in
    let place : c.read_memory.new.into ≡ c.deref.result.now = sym (with_items_is c.in-Ok.values c.read_memory.new.into (c.read_memory.auto.into ∙ c.deref_mut.ensures.len)) ∙ sym c.deref.ensures.value in
    let kinds = ap (kinds_at o.types) c.memory-2.ensures.values ∙ kinds_are o node old h in
    let fit = subst (λ values. AreOfKinds (flat_kinds (machine_keeps o node)) values) place (subst (λ ks. AreOfKinds ks c.read_memory.new.into) kinds c.in-Ok-read_memory.ensures.values) in
    stands_loaded o node old c.load.new.self h c.load.ensures.signature (c.load.ensures.runs (machine_behaviour o node) h.runs) (c.load.ensures.kinds (machine_behaviour o node) (machine_keeps o node) h.runs h.kinds fit)

pub returns-in-Ok-read_memory-clause-memory : goal.returns-in-Ok-read_memory-clause-memory
returns-in-Ok-read_memory-clause-memory g c =
    let o = c.args.machines.now in
    let node = c.args.node.now in
    let place : c.read_memory.new.into ≡ c.deref.result.now = sym (with_items_is c.in-Ok.values c.read_memory.new.into (c.read_memory.auto.into ∙ c.deref_mut.ensures.len)) ∙ sym c.deref.ensures.value in
    let values : c.load.new.self.values ≡ c.deref.result.now = ap (λ (e : Executor). e.values) c.load.ensures.loaded in
    is_checkpoint o node c.load.new.self (returns-in-Ok-read_memory-clause-stands g c) c.args.text.now (c.in-Ok-read_memory.ensures.text ∙ ap (memory_text o.types node) (place ∙ sym values))

pub returns-clause-told : goal.returns-clause-told
returns-clause-told g c =
    let o = c.args.machines.now in
    let node = c.args.node.now in
    let text = c.args.text.now in
    let cause = c.in-Err.error in
    told_or_not (NotRestoredFrom o node text) (λ line b rest status f files mem gives. NotRestored.line_failed line b rest (f files mem gives)) (λ files mem gives. NotRestored.no_memory) (g.E.Sink.took c.args.diag.now) (g.E.Sink.took c.report_checkpoint.new.diag)
    (checkpoint_line cause) 9 (code_of c.report_checkpoint.result) c.report_checkpoint.ensures.reports
    (λ files mem gives. NotRestored.refused text cause gives (refused_checkpoint o node text c.args.exec.now cause c.requires.stands c.in-Err.ensures.refused
    (λ name ws says. c.in-Err.ensures.fits name ws says ∙ ap (λ values. misfit node (kinds_at o.types values) name ws) c.memory-2.ensures.values)))
