-- From what was found in a text of machines, and from how the trace of one ended, to what the call did; and what a call leaves in the files.
use Rattle.std.proofs.Common.{◌≡◌, ◌≢◌, ℕ, ◌<◌, ◌≤◌, inl, inr, Bool, false, List, [], ◌∷◌, ◌++◌, length, refl, sym, subst, arith}
use Rattle.std.specs.Prelude.{Option, None, Some}
use Rattle.hp_base.specs.Limits.{most}
use Rattle.hp_base.specs.declared.limit.Limit.{Limit}
use Rattle.hp_base.specs.declared.limit.What.TheVariants.{Text}
use Rattle.hp_base.specs.declared.span.Span.{Span}
use Rattle.hp_io.specs.Faults.{Faults, Rose, AllSame}
use Rattle.hp_io.proofs.FaultLaws.{Rose-behind}
use Rattle.hp_io.specs.Files.{Files}
use Rattle.hp_io.specs.Told.{Grows}
use Rattle.hp_io.specs.declared.console.Event.{Event}
use Rattle.hp_exec.specs.Answers.{Executes}
use Rattle.hp_exec.specs.Executors.{Executor}
use Rattle.hp_exec.specs.declared.error.ExecErr.{ExecErr}
use Rattle.hp_exec.specs.declared.error.ExecErr.TheVariants.{NoNode, Limit as Passed}
use Rattle.hp_obc.specs.Form.{TypesForm}
use Rattle.hp_obc.specs.Machines.{Obc}
use Rattle.hp_obctext.specs.Answers.{IsTextOf}
use Rattle.hp_obctext.proofs.FormMachines.{file_form}
use Rattle.hp_obctext.specs.declared.error.ObcErr.{ObcErr}
use Rattle.hp_obctext.specs.declared.error.ObcErr.TheVariants.{Syntax, Form, Limit as Longer}
use Rattle.hp_driver.specs.Command.{IsRunOf, IsPastOf, IsExecOf, IsCheckOf, IsProveOf, IsVerifyOf, IsOverSource, IsOverContract, ReadsSource, IsOver, Writes, no_node_line, IsNoFileCommand, IsTellOf, IsSweepOf}
use Rattle.hp_driver.specs.Commanded.{SpellsTask}
use Rattle.hp_driver.specs.Diagnostics.{no_text_line, no_form_line, limit_line, executor_line}
use Rattle.hp_driver.specs.Executing.{executing}
use Rattle.hp_driver.specs.Follows.{ExecOf, MachinesOutcome, RefusedText, RefusedMachine}
use Rattle.hp_driver.specs.Leaves.{Leaves, IsPrinted, ReadRose, WriteRose}
use Rattle.hp_driver.specs.Leaving.{WritesText, WritesMachines, RoseInWrite}
use Rattle.hp_driver.specs.Outcome.{Outcome, Gives, GivesMoreThan, IsMachine, IsAskedFor}
use Rattle.hp_driver.specs.Ran.{Ran, Reports, ReportsOrNot}
use Rattle.hp_driver.specs.Systems.{of_machine}
use Rattle.hp_driver.specs.declared.words.Task.{Task}
use Rattle.hp_driver.specs.declared.words.Task.TheVariants.{Run, Tell, Check, Compile}
use Rattle.hp_compile.specs.declared.refusal.Place.TheVariants.{Whole}
use Rattle.hp_driver.proofs.ExecutionLaws.{machine_says, machine_refuses}
use Rattle.hp_driver.proofs.OutcomeLaws.{told_or_not, Mirrors, outcome}
use Rattle.hp_driver.proofs.WordLaws.{run_writes, exec_writes, check_writes, verify_writes, tell_writes, sweep_writes}

-- the types of a text of machines have form
pub types_of_text : (text : List ℕ) (o : Obc) → IsTextOf text o → TypesForm o.types
types_of_text text o t = subst (λ (p : Obc). TypesForm p.types) (sym t.machines) (file_form t.file_is t.spelled.0 t.kept).0

-- ---- the text is refused

gives_more : (files : Option Files) (file text : List ℕ) (limit : ℕ) → Gives files file text → limit < length text → GivesMoreThan files file limit
gives_more None file text limit held longer = tt
gives_more (Some held) file text limit holds longer = (text, holds, longer)

text_line_failed : (error : ObcErr) (line : List ℕ) (b : ℕ) (rest : List ℕ) (status : ℕ) → RefusedText error (line ++ b ∷ rest) status → RefusedText error line 5
text_line_failed error line b rest status f text node h words files file w held = Outcome.line_failed line b rest (f text node h words files file w held)

pub text_no_memory : (error : ObcErr) → RefusedText error [] 6
text_no_memory error text node h words files file w held = Outcome.no_memory

-- what is told of it
module _ (error : ObcErr) (before after : Option (List ℕ)) (result : ℕ) where
  pub text_told : (line : List ℕ) (status : ℕ) → ReportsOrNot before after line status result → RefusedText error line status → (told : List ℕ) × Grows before after told × RefusedText error told result
  text_told line status r h = told_or_not (RefusedText error) (text_line_failed error) (text_no_memory error) before after line status result r h

pub no_text : (at : Span) → RefusedText (Syntax at) (no_text_line at) 8
no_text at text node h words files file w held = Outcome.no_text text at w held h

pub no_form : (at : Span) → RefusedText (Form at) (no_form_line at) 8
no_form at text node h words files file w held = Outcome.no_form text at w held h

pub long_text : (limit : Limit) → RefusedText (Longer limit) (limit_line Whole limit) 1
long_text limit text node h words files file w held =
    subst (λ l. Outcome words files [] (limit_line Whole l) 1) (sym h.limit_is) (Outcome.long_text w (gives_more files file text (most Text) held h.longer))

-- ---- the machine is not run

machine_line_failed : (node : List ℕ) (error : ExecErr) (line : List ℕ) (b : ℕ) (rest : List ℕ) (status : ℕ) → RefusedMachine node error (line ++ b ∷ rest) status → RefusedMachine node error line 5
machine_line_failed node error line b rest status f o h words files file w machines = Outcome.line_failed line b rest (f o h words files file w machines)

pub machine_no_memory : (node : List ℕ) (error : ExecErr) → RefusedMachine node error [] 6
machine_no_memory node error o h words files file w machines = Outcome.no_memory

module _ (node : List ℕ) (error : ExecErr) (before after : Option (List ℕ)) (result : ℕ) where
  pub machine_told : (line : List ℕ) (status : ℕ) → ReportsOrNot before after line status result → RefusedMachine node error line status →
      (told : List ℕ) × Grows before after told × RefusedMachine node error told result
  machine_told line status r h = told_or_not (RefusedMachine node error) (machine_line_failed node error) (machine_no_memory node error) before after line status result r h

pub no_machine : (node : List ℕ) → RefusedMachine node NoNode (no_node_line node) 1
no_machine node o h words files file w machines = Outcome.no_machine w machines h

pub too_large : (node : List ℕ) (limit : Limit) → RefusedMachine node (Passed limit) (executor_line limit) 1
too_large node limit o h words files file w machines = Outcome.too_large limit w machines h

-- ---- the machine is run

pub machine_of : (node : List ℕ) (o : Obc) (e : Executor) → Executes o node e → IsMachine node o
machine_of node o e h = record { machine = h.machine; named = h.named; chain = h.chain; count = h.count }

pub machine_mirrors : (node : List ℕ) (o : Obc) (e : Executor) → Executes o node e → Mirrors executing e (of_machine o node)
machine_mirrors node o e h = record { says = machine_says o node e h; refuses = machine_refuses o node e h }

pub machine_ran : (node : List ℕ) (o : Obc) (e : Executor) (log : List Event) (line : List ℕ) (status : ℕ) → Executes o node e → Ran executing e log line status → MachinesOutcome o node log line status
machine_ran node o e log line status h r words files file w machines =
    outcome executing e (of_machine o node) (machine_mirrors node o e h) words files (IsAskedFor.a_machine w machines (machine_of node o e h)) log line status r

-- of a text of machines
pub in_text : (text node : List ℕ) (o : Obc) (log : List Event) (line : List ℕ) (status : ℕ) → IsTextOf text o → MachinesOutcome o node log line status → ExecOf text node log line status
in_text text node o log line status read f words files file w held = f words files file w (record { text = text; held = held; read = read })

-- ---- the machines of a program

-- their text was written
pub wrote_machines : (o : Obc) (out text : List ℕ) (before after : Option Files) (status : ℕ) → IsPrinted o text → WritesText text out before after status → WritesMachines o out before after status
wrote_machines o out text before after status printed (WritesText.whole all) = WritesMachines.whole printed all
wrote_machines o out text before after status printed (WritesText.part why others this) = WritesMachines.part why printed others this

-- ---- what a call leaves that wrote nothing

-- a report gives another status than 0
pub not_done : (before after : Option (List ℕ)) (line : List ℕ) (result : ℕ) → Reports before after line 1 result → result ≢ 0
not_done before after line result (inl h) z = let e = h.0 in omega (arith, e, z)
not_done before after line result (inr h) z = let e = h.0 in omega (arith, e, z)

pub not_done_or_not : (before after : Option (List ℕ)) (line : List ℕ) (result : ℕ) → ReportsOrNot before after line 1 result → result ≢ 0
not_done_or_not before after line result (inl h) z = not_done before after line result h z
not_done_or_not before after line result (inr h) z = let e = h.0 in omega (arith, e, z)

pub nothing_written : (words : List (List ℕ)) (files : Option Files) (status : ℕ) → status ≢ 0 → Leaves words files files status
nothing_written words files status h = Leaves.as_they_were refl (λ out w. h)

-- it is a command that writes nothing
pub run_leaves : (words : List (List ℕ)) (file node : List ℕ) (files : Option Files) (status : ℕ) → IsRunOf words file node → Leaves words files files status
run_leaves words file node files status w = Leaves.as_they_were refl (λ y v. absurd (run_writes words file y node w v))

pub tell_leaves : (words : List (List ℕ)) (file node : List ℕ) (files : Option Files) (status : ℕ) → IsTellOf words file node → Leaves words files files status
tell_leaves words file node files status w = Leaves.as_they_were refl (λ y v. absurd (tell_writes words file y node w v))

pub sweep_leaves : (words : List (List ℕ)) (tasks instants : ℕ) (files : Option Files) (status : ℕ) → IsSweepOf words tasks instants → Leaves words files files status
sweep_leaves words tasks instants files status w = Leaves.as_they_were refl (λ y v. absurd (sweep_writes words tasks instants w y v))

pub exec_leaves : (words : List (List ℕ)) (file node : List ℕ) (files : Option Files) (status : ℕ) → IsExecOf words file node → Leaves words files files status
exec_leaves words file node files status w = Leaves.as_they_were refl (λ y v. absurd (exec_writes words file y node w v))

pub check_leaves : (words : List (List ℕ)) (file : List ℕ) (print : Bool) (files : Option Files) (status : ℕ) → IsCheckOf words file print → Leaves words files files status
check_leaves words file print files status w = Leaves.as_they_were refl (λ y v. absurd (check_writes words file y print w v))

pub verify_leaves : (words : List (List ℕ)) (file node cert : List ℕ) (before after : Option Files) (status : ℕ) → after ≡ before → IsVerifyOf words file node cert → Leaves words before after status
verify_leaves words file node cert before after status same w = Leaves.as_they_were same (λ y v. absurd (verify_writes words file y node cert w v))

pub no_command_leaves : (words : List (List ℕ)) (files : Option Files) (status : ℕ) → IsNoFileCommand words → Leaves words files files status
no_command_leaves words files status h = Leaves.as_they_were refl by
  where
    by : (out : List ℕ) → Writes words out → status ≢ 0
    by out (Writes.machines {file = x} w) = absurd (h x (IsOver.a_source (ReadsSource.of_program (IsOverSource.to_compile w))))
    by out (Writes.a_source {file = x} w) = absurd (h x (IsOver.a_tree w))
    by out (Writes.a_certificate {file = x} w) = absurd (h x (IsOver.a_source (ReadsSource.of_contract (IsOverContract.to_prove w))))
    by out (Writes.a_checkpoint {file = x} s) = absurd (h x (IsOver.a_segment s))

-- where a write failed, of the task
pub write_rose : (words : List (List ℕ)) (file : List ℕ) (task : Task) (before after : List ℕ → Faults) → SpellsTask words file task → RoseInWrite task before after → WriteRose words before after
write_rose words file (Run node) before after w h = absurd h
write_rose words file (Tell node) before after w h = absurd h
write_rose words file (Check print) before after w h = absurd h
write_rose words file (Compile out) before after w h = record { out = out.now; asked = Writes.machines w; rose = h }

-- where the write of a source text failed
pub past_rose : (words : List (List ℕ)) (file out : List ℕ) (before after : List ℕ → Faults) → IsPastOf words file out → Rose (before out) (after out) → WriteRose words before after
past_rose words file out before after w h = record { out = out; asked = Writes.a_source w; rose = h }

-- where the write of a certificate failed, or the read of one
pub prove_rose : (words : List (List ℕ)) (file node cert : List ℕ) (before after : List ℕ → Faults) → IsProveOf words file node cert → Rose (before cert) (after cert) → WriteRose words before after
prove_rose words file node cert before after w h = record { out = cert; asked = Writes.a_certificate w; rose = h }

pub verify_rose : (words : List (List ℕ)) (file node cert : List ℕ) (before after : List ℕ → Faults) → IsVerifyOf words file node cert → Rose (before cert) (after cert) → ReadRose words before after
verify_rose words file node cert before after w h = record { file = cert; asked = IsOver.a_certificate w; rose = h }

-- where nothing failed before
pub rose_before : (words : List (List ℕ)) (first before after : List ℕ → Faults) → AllSame first before → WriteRose words before after → WriteRose words first after
rose_before words first before after same h =
    record { out = h.out; asked = h.asked; rose = Rose-behind (same h.out) h.rose }

pub read_rose_before : (words : List (List ℕ)) (first before after : List ℕ → Faults) → AllSame first before → ReadRose words before after → ReadRose words first after
read_rose_before words first before after same h =
    record { file = h.file; asked = h.asked; rose = Rose-behind (same h.file) h.rose }
