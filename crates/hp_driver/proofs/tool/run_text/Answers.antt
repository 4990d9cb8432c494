use Rattle.std.proofs.Common.{ℕ, List, [], inl, inr, refl, sym, subst}
use Rattle.hp_io.proofs.FaultLaws.{Same-refl}
use Rattle.hp_io.proofs.ToldLaws.{Grows-nil}
use Rattle.hp_driver.specs.Commanded.{Spells, file_of}
use Rattle.hp_driver.specs.Leaves.{Leaves, ReadRose, WriteRose}
use Rattle.hp_driver.specs.Outcome.{Gives, Outcome}
use Rattle.hp_driver.specs.Readings.{ReadsOn}
use Rattle.hp_driver.specs.declared.words.Command.{Command}
use Rattle.hp_driver.proofs.MachineLaws.{exec_leaves, verify_leaves, write_rose, past_rose, prove_rose, verify_rose}
use Rattle.hp_driver.proofs.RanLaws.{heard_nothing}
use Rattle.hp_driver.proofs.ReadingLaws.{both_read}
use Rattle.hp_driver.specs.Status.{code_of}
use Rattle.hp_driver.proofs.tool.run_text.Goals as goal

pub returns-in-Exec-clause-leaves : goal.returns-in-Exec-clause-leaves
returns-in-Exec-clause-leaves g c =
    let files = g.F.Folder.files c.args.files.now in
    subst (λ (command : Command). (words : List (List ℕ)) → Spells words command → Gives files (file_of command) c.args.text.now → Leaves words files files (code_of c.run_machine.result)) (sym c.in-Exec.is)
    (λ words w held. exec_leaves words _ c.in-Exec.node.now files (code_of c.run_machine.result) w)

pub returns-in-Source-clause-writes : goal.returns-in-Source-clause-writes
returns-in-Source-clause-writes g c =
    let before = g.F.Folder.write_faults c.args.files.now in
    let after = g.F.Folder.write_faults c.run_source.new.files in (
      λ h. elim (c.run_source.ensures.writes.0 h) [
        | inl p ↦ inl (subst (λ (command : Command). (words : List (List ℕ)) → Spells words command → WriteRose words before after) (sym c.in-Source.is) (λ words w. write_rose words _ c.in-Source.task before after w p.0), p.1, p.2)
        | inr p ↦ inr p
      ],
      c.run_source.ensures.writes.1,
    )

pub returns-in-Past-clause-outcome : goal.returns-in-Past-clause-outcome
returns-in-Past-clause-outcome g c =
    let files = g.F.Folder.files c.args.files.now in
    let done = c.run_past.ensures.outcome in (
      [],
      done.0,
      Grows-nil (g.C.Console.events c.args.console.now),
      heard_nothing (g.C.Console.left c.args.console.now),
      done.1,
      subst (λ (command : Command). (words : List (List ℕ)) → Spells words command → Gives files (file_of command) c.args.text.now → Outcome words files [] done.0 (code_of c.run_past.result)) (sym c.in-Past.is)
          (λ words w held. done.2 words files _ w held),
    )

pub returns-in-Past-clause-leaves : goal.returns-in-Past-clause-leaves
returns-in-Past-clause-leaves g c =
    let before = g.F.Folder.files c.args.files.now in
    let after = g.F.Folder.files c.run_past.new.files in
    subst (λ (command : Command). (words : List (List ℕ)) → Spells words command → Gives before (file_of command) c.args.text.now → Leaves words before after (code_of c.run_past.result)) (sym c.in-Past.is)
    (λ words w held. c.run_past.ensures.leaves words _ w held)

pub returns-in-Past-clause-writes : goal.returns-in-Past-clause-writes
returns-in-Past-clause-writes g c =
    let before = g.F.Folder.write_faults c.args.files.now in
    let after = g.F.Folder.write_faults c.run_past.new.files in
    let same_puts = Same-refl (g.C.Console.put_faults c.args.console.now) in (
      λ h. elim (c.run_past.ensures.writes.0 h) [
        | inl p ↦ inl (subst (λ (command : Command). (words : List (List ℕ)) → Spells words command → WriteRose words before after) (sym c.in-Past.is) (λ words w. past_rose words _ c.in-Past.out.now before after w p.0), same_puts, p.1)
        | inr p ↦ inr (p.0, inr (same_puts, p.1))
      ],
      λ h. let quiet = c.run_past.ensures.writes.1 h in (quiet.0, same_puts, quiet.1),
    )

pub returns-in-Past-clause-readings : goal.returns-in-Past-clause-readings
returns-in-Past-clause-readings g c =
    subst (λ (command : Command). ReadsOn command c.args.text.now (g.F.Folder.reads c.args.files.now).gave (g.F.Folder.reads c.run_past.new.files).gave) (sym c.in-Past.is) c.run_past.ensures.reads.0

pub returns-in-Prove-clause-outcome : goal.returns-in-Prove-clause-outcome
returns-in-Prove-clause-outcome g c =
    let files = g.F.Folder.files c.args.files.now in
    let done = c.run_prove.ensures.outcome in (
      [],
      done.0,
      Grows-nil (g.C.Console.events c.args.console.now),
      heard_nothing (g.C.Console.left c.args.console.now),
      done.1,
      subst (λ (command : Command). (words : List (List ℕ)) → Spells words command → Gives files (file_of command) c.args.text.now → Outcome words files [] done.0 (code_of c.run_prove.result)) (sym c.in-Prove.is)
          (λ words w held. done.2 words _ w held),
    )

pub returns-in-Prove-clause-leaves : goal.returns-in-Prove-clause-leaves
returns-in-Prove-clause-leaves g c =
    let before = g.F.Folder.files c.args.files.now in
    let after = g.F.Folder.files c.run_prove.new.files in
    subst (λ (command : Command). (words : List (List ℕ)) → Spells words command → Gives before (file_of command) c.args.text.now → Leaves words before after (code_of c.run_prove.result)) (sym c.in-Prove.is)
    (λ words w held. c.run_prove.ensures.leaves words _ w held)

pub returns-in-Prove-clause-writes : goal.returns-in-Prove-clause-writes
returns-in-Prove-clause-writes g c =
    let before = g.F.Folder.write_faults c.args.files.now in
    let after = g.F.Folder.write_faults c.run_prove.new.files in
    let same_puts = Same-refl (g.C.Console.put_faults c.args.console.now) in (
      λ h. elim (c.run_prove.ensures.writes.0 h) [
        | inl p ↦ inl (subst (λ (command : Command). (words : List (List ℕ)) → Spells words command → WriteRose words before after) (sym c.in-Prove.is) (λ words w. prove_rose words _ c.in-Prove.node.now c.in-Prove.cert.now before after w p.0), same_puts, p.1)
        | inr p ↦ inr (p.0, inr (same_puts, p.1))
      ],
      λ h. let quiet = c.run_prove.ensures.writes.1 h in (quiet.0, same_puts, quiet.1),
    )

pub returns-in-Verify-clause-outcome : goal.returns-in-Verify-clause-outcome
returns-in-Verify-clause-outcome g c =
    let files = g.F.Folder.files c.args.files.now in
    let ran = c.run_verify.ensures.outcome in (
      ran.0,
      ran.1,
      ran.2,
      ran.3,
      ran.4,
      subst (λ (command : Command). (words : List (List ℕ)) → Spells words command → Gives files (file_of command) c.args.text.now → Outcome words files ran.0 ran.1 (code_of c.run_verify.result)) (sym c.in-Verify.is)
          (λ words w held. ran.5 words _ w held),
    )

pub returns-in-Verify-clause-leaves : goal.returns-in-Verify-clause-leaves
returns-in-Verify-clause-leaves g c =
    let before = g.F.Folder.files c.args.files.now in
    let after = g.F.Folder.files c.run_verify.new.files in
    subst (λ (command : Command). (words : List (List ℕ)) → Spells words command → Gives before (file_of command) c.args.text.now → Leaves words before after (code_of c.run_verify.result)) (sym c.in-Verify.is)
    (λ words w held. verify_leaves words _ c.in-Verify.node.now c.in-Verify.cert.now before after (code_of c.run_verify.result) c.run_verify.ensures.files w)

pub returns-in-Verify-clause-reads : goal.returns-in-Verify-clause-reads
returns-in-Verify-clause-reads g c =
    let before = (g.F.Folder.reads c.args.files.now).faults in
    let after = (g.F.Folder.reads c.run_verify.new.files).faults in (
      λ h. inl (
        subst (λ (command : Command). (words : List (List ℕ)) → Spells words command → ReadRose words before after) (sym c.in-Verify.is)
            (λ words w. verify_rose words _ c.in-Verify.node.now c.in-Verify.cert.now before after w (c.run_verify.ensures.reads.0.0 h)),
        c.run_verify.ensures.takes,
      ),
      λ h. (c.run_verify.ensures.reads.0.1 h, c.run_verify.ensures.takes),
    )

pub returns-in-Source-clause-readings : goal.returns-in-Source-clause-readings
returns-in-Source-clause-readings g c =
    subst (λ (command : Command). ReadsOn command c.args.text.now (g.F.Folder.reads c.args.files.now).gave (g.F.Folder.reads c.run_source.new.files).gave) (sym c.in-Source.is) c.run_source.ensures.reads.0

pub returns-in-Exec-clause-readings : goal.returns-in-Exec-clause-readings
returns-in-Exec-clause-readings g c =
    subst (λ (command : Command). ReadsOn command c.args.text.now (g.F.Folder.reads c.args.files.now).gave (g.F.Folder.reads c.args.files.now).gave) (sym c.in-Exec.is) refl

pub returns-in-Prove-clause-readings : goal.returns-in-Prove-clause-readings
returns-in-Prove-clause-readings g c =
    subst (λ (command : Command). ReadsOn command c.args.text.now (g.F.Folder.reads c.args.files.now).gave (g.F.Folder.reads c.run_prove.new.files).gave) (sym c.in-Prove.is) c.run_prove.ensures.reads.0

pub returns-in-Verify-clause-readings : goal.returns-in-Verify-clause-readings
returns-in-Verify-clause-readings g c =
    subst (λ (command : Command). ReadsOn command c.args.text.now (g.F.Folder.reads c.args.files.now).gave (g.F.Folder.reads c.run_verify.new.files).gave) (sym c.in-Verify.is) (both_read c.run_verify.ensures.reads.1 c.run_verify.ensures.machine)
