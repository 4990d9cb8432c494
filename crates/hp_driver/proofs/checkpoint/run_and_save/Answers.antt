use Rattle.std.proofs.Common.{[], ◌≡◌, ◌≢◌, ◌++◌, ◌∙◌, ⊎_elim, inl, inr, ℕ, List, true, refl, sym, ap, subst, rules, arith}
use Rattle.std.specs.Vec.{vec_len}
use Rattle.hp_io.specs.Told.{Grows}
use Rattle.hp_io.proofs.FaultLaws.{AllSame-refl}
use Rattle.hp_io.proofs.ToldLaws.{Grows-nil}
use Rattle.hp_obctext.specs.MemoryKinds.{AreOfTypes, kinds_at, memory_bound, memory_text}
use Rattle.hp_driver.specs.Course.{Takes}
use Rattle.hp_driver.specs.Executing.{executing}
use Rattle.hp_driver.specs.Lines.{lines_of}
use Rattle.hp_driver.specs.Log.{heard, said}
use Rattle.hp_driver.specs.Ran.{Ran}
use Rattle.hp_driver.specs.Restoring.{KeepsRun}
use Rattle.hp_driver.specs.Status.{code_of}
use Rattle.hp_driver.proofs.RanLaws.{done_line, heard_nothing}
use Rattle.hp_driver.proofs.SegmentLaws.{few_to_read, is_checkpoint, kinds_are, of_types, stands_behind}
use Rattle.hp_driver.proofs.checkpoint.run_and_save.Goals as goal

pub returns-in_default-clause-outcome : goal.returns-in_default-clause-outcome
returns-in_default-clause-outcome g c = (
  [],
  [],
  Grows-nil (g.C.Console.events c.args.console.now),
  heard_nothing (g.C.Console.left c.args.console.now),
  Grows-nil (g.E.Sink.took c.args.diag.now),
  KeepsRun.stopped Ran.no_memory (λ h. omega (arith, h)) refl,
)

pub new-requires-clause-few : goal.new-requires-clause-few
new-requires-clause-few g c = few_to_read c.args.machines.now c.args.segment.node.now c.args.exec c.requires.stands c.requires.form

pub returns-in_default-new-clause-outcome : goal.returns-in_default-new-clause-outcome
returns-in_default-new-clause-outcome g c = (
  [],
  [],
  Grows-nil (g.C.Console.events c.args.console.now),
  heard_nothing (g.C.Console.left c.args.console.now),
  Grows-nil (g.E.Sink.took c.args.diag.now),
  KeepsRun.stopped Ran.no_memory (λ h. omega (arith, h)) refl,
)

pub returns-then-code-ne0-clause-outcome : goal.returns-then-code-ne0-clause-outcome
returns-then-code-ne0-clause-outcome g c =
    let ran = c.run_trace-status.ensures.ran in
    let status = code_of c.run_trace-status.result in
    let fails : code_of c.run_trace-status.result ≢ 0 = search rules in
    (ran.0, ran.1, ran.2, ran.3, ran.4, KeepsRun.stopped (subst (λ e. Ran executing e ran.0 ran.1 status) c.in-Ok-new.ensures ran.5.0) fails refl)

pub returns-then-code-ne0-clause-writes : goal.returns-then-code-ne0-clause-writes
returns-then-code-ne0-clause-writes g c =
    let puts = c.run_trace-status.ensures.puts in
    let same = AllSame-refl (g.F.Folder.write_faults c.args.files.now) in
    ((λ five. inr (same, puts.0 five)), (λ no. (same, (puts.1 no).0, (puts.1 no).1)))

pub write_memory-requires-clause-kinds : goal.write_memory-requires-clause-kinds
write_memory-requires-clause-kinds g c =
    let o = c.args.machines.now in
    let node = c.args.segment.node.now in
    let ran = c.run_trace-status.ensures.ran in
    let behind = c.run_trace-status.new.reactor in
    let done : code_of c.run_trace-status.result ≡ 0 = search rules in
    let lines = lines_of true (heard ran.0) in
    let takes = subst (λ e. Takes executing e 1 lines (said ran.0) behind) c.in-Ok-new.ensures (ran.5.1 done) in
    subst (AreOfTypes o.types) (sym c.memory.ensures) (of_types o node behind (stands_behind o node c.args.exec c.requires.stands behind lines (said ran.0) takes))

pub write_memory-requires-clause-room : goal.write_memory-requires-clause-room
write_memory-requires-clause-room g c =
    let o = c.args.machines.now in
    let node = c.args.segment.node.now in
    let ran = c.run_trace-status.ensures.ran in
    let behind = c.run_trace-status.new.reactor in
    let done : code_of c.run_trace-status.result ≡ 0 = search rules in
    let lines = lines_of true (heard ran.0) in
    let takes = subst (λ e. Takes executing e 1 lines (said ran.0) behind) c.in-Ok-new.ensures (ran.5.1 done) in
    let stands = stands_behind o node c.args.exec c.requires.stands behind lines (said ran.0) takes in
    let kinds = ap (kinds_at o.types) c.memory.ensures ∙ kinds_are o node behind stands ∙ sym (kinds_are o node c.args.exec c.requires.stands) in
    let same : memory_bound node (kinds_at o.types c.memory.result.now) ≡ memory_bound node (kinds_at o.types c.args.exec.values) = ap (memory_bound node) kinds in
    let empty : vec_len c.in-Ok.text ≡ 0 = search rules in
    let room = c.in-Ok.ensures.room in
    omega (arith, same, empty, room)

pub returns-clause-outcome : goal.returns-clause-outcome
returns-clause-outcome g c =
    let o = c.args.machines.now in
    let node = c.args.segment.node.now in
    let ran = c.run_trace-status.ensures.ran in
    let status = code_of c.run_trace-status.result in
    let behind = c.run_trace-status.new.reactor in
    let done : code_of c.run_trace-status.result ≡ 0 = search rules in
    let lines = lines_of true (heard ran.0) in
    let takes = subst (λ e. Takes executing e 1 lines (said ran.0) behind) c.in-Ok-new.ensures (ran.5.1 done) in
    let r = subst (λ e. Ran executing e ran.0 ran.1 status) c.in-Ok-new.ensures ran.5.0 in
    let none = done_line executing c.args.exec ran.0 ran.1 status r done in
    let whole = subst (λ z. Ran executing c.args.exec ran.0 [] z) done (subst (λ l. Ran executing c.args.exec ran.0 l status) none r) in
    let spelled = c.as_slice.ensures.value ∙ c.write_memory.ensures.items ∙ ap (λ (xs : List ℕ). xs ++ memory_text o.types node c.memory.result.now) c.in-Ok.ensures.empty ∙ ap (memory_text o.types node) c.memory.ensures in
    let is = is_checkpoint o node behind (stands_behind o node c.args.exec c.requires.stands behind lines (said ran.0) takes) c.as_slice.result.now spelled in (
      ran.0,
      [],
      ran.2,
      ran.3,
      subst (λ l. Grows (g.E.Sink.took c.args.diag.now) (g.E.Sink.took c.run_trace-status.new.diag) l) none ran.4,
      KeepsRun.written behind whole takes is c.write_text.ensures.leaves,
    )

-- a run that ended well had no fault, and a write of a file is no take
pub returns-clause-takes : goal.returns-clause-takes
returns-clause-takes g c =
    let done : code_of c.run_trace-status.result ≡ 0 = search rules in
    let status = c.write_text.ensures.status in
    let other : code_of c.write_text.result ≢ 4 = λ four. ⊎_elim (λ e. omega (arith, e, four)) (λ r. ⊎_elim (λ e. omega (arith, e, four)) (λ e. omega (arith, e, four)) r) status in
    ((λ four. absurd (other four)), (λ no. c.run_trace-status.ensures.takes.1 (λ four. omega (arith, done, four))))

pub returns-clause-writes : goal.returns-clause-writes
returns-clause-writes g c =
    let done : code_of c.run_trace-status.result ≡ 0 = search rules in
    let puts = c.run_trace-status.ensures.puts.1 (λ five. omega (arith, done, five)) in
    ((λ five. inl (c.write_text.ensures.writes.0 five, puts.0, puts.1)), (λ no. (c.write_text.ensures.writes.1 no, puts.0, puts.1)))
