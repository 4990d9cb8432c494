-- From why a sweep stops to what the call did.
use Rattle.std.proofs.Common.{ℕ, List, [], ◌∷◌, ◌++◌, subst}
use Rattle.std.specs.Prelude.{Option}
use Rattle.hp_base.specs.declared.limit.Limit.{Limit}
use Rattle.hp_io.specs.Told.{Grows}
use Rattle.hp_driver.specs.Compiled.{HasCircuit, IsNotCompiled}
use Rattle.hp_driver.specs.CompileErrors.{TellsCause}
use Rattle.hp_driver.specs.Diagnostics.{executor_line}
use Rattle.hp_driver.specs.Follows.{SweepOutcome}
use Rattle.hp_driver.specs.Outcome.{Outcome}
use Rattle.hp_driver.specs.Stopping.{Stops}
use Rattle.hp_driver.specs.Sweeping.{tasks_text}
use Rattle.hp_driver.specs.Swept.{IsNotSwept}
use Rattle.hp_driver.specs.declared.compile_error.CompileErr.{CompileErr}
use Rattle.hp_driver.specs.declared.sweep.Stop.{Stop}
use Rattle.hp_driver.specs.declared.sweep.Stop.TheVariants.{NotCompiled, TooLarge}

abbrev pub Stopped : Stop → List ℕ → ℕ → Type 0
Stopped why line status = (tasks instants : ℕ) → Stops tasks why → SweepOutcome tasks instants [] line status

abbrev pub ToldStop : Option (List ℕ) → Option (List ℕ) → Stop → ℕ → Type 0
ToldStop before after why status = (line : List ℕ) × Grows before after line × Stopped why line status

pub stop_failed : (why : Stop) (line : List ℕ) (b : ℕ) (rest : List ℕ) (status : ℕ) → Stopped why (line ++ b ∷ rest) status → Stopped why line 5
stop_failed why line b rest status f tasks instants h words files w = Outcome.line_failed line b rest (f tasks instants h words files w)

pub stop_memory : (why : Stop) → Stopped why [] 6
stop_memory why tasks instants h words files w = Outcome.no_memory

pub stop_too_large : (limit : Limit) → Stopped (TooLarge limit) (executor_line limit) 1
stop_too_large limit tasks instants h words files w = Outcome.not_swept w (IsNotSwept.too_large limit h.1 h.2)

-- the program is not compiled, and this is told of it
uncompiled : (cause : CompileErr) (line : List ℕ) (status : ℕ) → TellsCause cause line status → Stopped (NotCompiled cause) line status
uncompiled cause line status (TellsCause.refused refusal e) tasks instants h words files w = Outcome.not_swept w (IsNotSwept.refused refusal (subst (IsNotCompiled (tasks_text tasks)) e h.0))
uncompiled cause line status (TellsCause.contract_refused refusal e) tasks instants h words files w = Outcome.not_swept w (IsNotSwept.contract_refused refusal (subst (IsNotCompiled (tasks_text tasks)) e h.0))
uncompiled cause line status TellsCause.no_memory tasks instants h words files w = Outcome.no_memory
uncompiled cause line status (TellsCause.line_failed front b rest before told) tasks instants h words files w =
    Outcome.line_failed front b rest (uncompiled cause (front ++ b ∷ rest) before told tasks instants h words files w)

pub stop_uncompiled : (before after : Option (List ℕ)) (cause : CompileErr) (status : ℕ) → (line : List ℕ) × Grows before after line × TellsCause cause line status → ToldStop before after (NotCompiled cause) status
stop_uncompiled before after cause status told = (told.0, told.1, uncompiled cause told.0 status told.2)

pub has_its_circuit : (tasks : ℕ) (cause : CompileErr) → Stops tasks (NotCompiled cause) → HasCircuit cause
has_its_circuit tasks cause h = h.1
