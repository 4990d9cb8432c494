use Rattle.std.proofs.Common.{[], ⊎_elim, inl, inr, subst, arith}
use Rattle.std.specs.Option.{option_copied}
use Rattle.hp_io.specs.Told.{Grows}
use Rattle.hp_io.proofs.FaultLaws.{Same-refl, Same-trans, Rose-behind, AllSame-trans}
use Rattle.hp_io.proofs.ToldLaws.{Grows-nil, Grows-trans}
use Rattle.hp_driver.specs.Restoring.{KeepsRun}
use Rattle.hp_driver.specs.Status.{code_of}
use Rattle.hp_driver.proofs.RanLaws.{heard_nothing}
use Rattle.hp_driver.proofs.SegmentLaws.{not_begun, segment_of_machines}
use Rattle.hp_driver.proofs.checkpoint.run_from.Goals as goal

pub returns-in-Err-clause-outcome : goal.returns-in-Err-clause-outcome
returns-in-Err-clause-outcome g c =
    let s = c.args.segment in
    let h = c.requires.runs in
    let told = c.in-Err.ensures.told in (
      [],
      told.0,
      Grows-nil (g.C.Console.events c.args.console.now),
      heard_nothing (g.C.Console.left c.args.console.now),
      told.1,
      not_begun (g.F.Folder.files c.args.files.now) (g.F.Folder.files c.begin.new.files) s.node.now (option_copied s.from) s.out.now c.args.runnable.machines c.types-types.ensures.form (record { machine = h.machine; named = h.named; chain = h.chain; count = h.count }) told.0
          (code_of c.in-Err.status) told.2 c.in-Err.ensures.fails c.begin.ensures.files,
    )

pub returns-clause-outcome : goal.returns-clause-outcome
returns-clause-outcome g c =
    let s = c.args.segment in
    let o = c.args.runnable.machines in
    let e = c.begin.new.exec in
    let before = g.F.Folder.files c.args.files.now in
    let after = g.F.Folder.files c.run_and_save.new.files in
    let status = code_of c.run_and_save.result in
    let told = c.in_default.ensures.told in
    let quiet = subst (λ line. Grows (g.E.Sink.took c.args.diag.now) (g.E.Sink.took c.begin.new.diag) line) told.2 told.1 in
    let ran = c.run_and_save.ensures.outcome in (
      ran.0,
      ran.1,
      ran.2,
      ran.3,
      Grows-trans (g.E.Sink.took c.args.diag.now) (g.E.Sink.took c.begin.new.diag) (g.E.Sink.took c.run_and_save.new.diag) [] ran.1 quiet ran.4,
      segment_of_machines before after s.node.now (option_copied s.from) s.out.now o e c.types-types.ensures.form c.in_default.ensures.stands c.in_default.ensures.memory ran.0 ran.1 status
          (subst (λ files. KeepsRun o s.node.now e s.out.now files after ran.0 ran.1 status) c.begin.ensures.files ran.5),
    )

pub returns-in-Err-clause-reads : goal.returns-in-Err-clause-reads
returns-in-Err-clause-reads g c =
    let same = Same-refl (g.C.Console.take_faults c.args.console.now) in
    ((λ four. inl (c.in-Err.ensures.reads.0 four, same)), (λ no. (c.in-Err.ensures.reads.1 no, same)))

-- The checkpoint was read well, so what failed is behind it.
pub returns-clause-reads : goal.returns-clause-reads
returns-clause-reads g c =
    let first = c.in_default.ensures.reads.1 (λ e. omega (arith, e)) in
    let all =
    AllSame-trans (g.F.Folder.reads c.args.files.now).faults (g.F.Folder.reads c.begin.new.files).faults (g.F.Folder.reads c.run_and_save.new.files).faults first c.run_and_save.ensures.reads.1 in
    ((λ four. inr (all, c.run_and_save.ensures.takes.0 four)), (λ no. (all, c.run_and_save.ensures.takes.1 no)))

pub returns-clause-writes : goal.returns-clause-writes
returns-clause-writes g c =
    let first = c.begin.ensures.writes in
    let told = c.in_default.ensures.faults.1 (λ e. omega (arith, e)) in
    let all = AllSame-trans (g.F.Folder.write_faults c.args.files.now) (g.F.Folder.write_faults c.begin.new.files) (g.F.Folder.write_faults c.run_and_save.new.files) first in
    let r = c.run_and_save.ensures.writes in (
      λ five.
          ⊎_elim (λ z. inl (Rose-behind (first c.args.segment.out.now) z.0, z.1, Same-trans told z.2))
          (λ z. inr (all z.0, ⊎_elim (λ q. inl (q.0, Same-trans told q.1)) (λ q. inr (q.0, Rose-behind told q.1)) z.1)) (r.0 five),
      λ no. let z = r.1 no in (all z.0, z.1, Same-trans told z.2),
    )
