-- How the readers of machines and of files go.
use Rattle.std.proofs.Common.{◌≡◌, ℕ, Bool, true, false, List, [], ◌∷◌, codes, refl, sym, ap, ◌∙◌}
use Rattle.hp_obc.specs.Machines.{ObcType}
use Rattle.hp_obctext.specs.Files.{Text, File}
use Rattle.hp_obctext.specs.Outcomes.{Words, Outcome, done, refused, ◌>>=◌}
use Rattle.hp_obctext.specs.Spelling.{name_of}
use Rattle.hp_obctext.specs.Reading.{one, fixed, is_this, section, var, mem, inst, begins_step, steps_within, type_declaration, types, machine, machines, all_read, file}
use Rattle.hp_obctext.proofs.ListRounds.{type_strict}
use Rattle.hp_obctext.proofs.StepRounds.{machine_strict, machines_end}
use Rattle.hp_obctext.proofs.Courses.{SameNext, Runs, Anything, Apart, then_runs, next, done_runs, many_runs}
use Rattle.hp_obctext.proofs.CourseOfLists.{NotAhead, other_ahead, fixed_ahead, strict_of, fixed_runs, name_runs, var_sections, mem_section, inst_section, type_runs}
use Rattle.hp_obctext.proofs.CourseOfSteps.{steps_run}

machine_runs : Runs machine Anything
machine_runs =
    next (fixed (codes "machine")) _ Anything (fixed_runs (codes "machine") refl) (λ u. next (one name_of) _ Anything name_runs
    (λ x. next (section (codes "in") var) _ Anything (var_sections (codes "in") refl) (λ a. next (section (codes "out") var) _ Anything (var_sections (codes "out") refl)
    (λ b. next (section (codes "var") var) _ Anything (var_sections (codes "var") refl) (λ c. next (section (codes "mem") mem) _ Anything mem_section
    (λ d. next (section (codes "inst") inst) _ Anything inst_section (λ e. next (fixed (codes "step")) _ Anything (fixed_runs (codes "step") refl)
    (λ u. then_runs (steps_within 301) _ (NotAhead begins_step) Anything (λ ss us m rest h s. other_ahead (codes "end") begins_step refl us (fixed_ahead (codes "end") _ us m rest h)) (steps_run 301)
    (λ ss. next (fixed (codes "end")) _ Anything (fixed_runs (codes "end") refl)
    (λ u. done_runs (record { name = x; inputs = a; outputs = b; vars = c; mems = d; insts = e; steps = ss })))))))))))

-- where neither a type nor a constructor is ahead
abbrev BehindTypes : Words → Type 0
BehindTypes ws = NotAhead (is_this (codes "type")) ws × NotAhead (is_this (codes "|")) ws

types_run : Runs types BehindTypes
types_run =
    many_runs (is_this (codes "type")) type_declaration (strict_of type_declaration type_strict) (NotAhead (is_this (codes "|"))) BehindTypes type_runs (other_ahead (codes "type") (is_this (codes "|")) refl) (λ us h. h.0) (λ us h. h.1) []

machines_run : Runs machines (NotAhead (is_this (codes "machine")))
machines_run = many_runs (is_this (codes "machine")) machine (strict_of machine machine_strict) Anything (NotAhead (is_this (codes "machine"))) machine_runs (λ us h. tt) (λ us h. h) (λ us h. tt) []

-- ---- files

abbrev pub IsEnd : Words → Type 0
IsEnd ws = ws ≡ []

whole_read : (f : File) (other : Words) → IsEnd other → all_read f other ≡ done f other
whole_read f [] s = refl
whole_read f (w ∷ ws) s = absurd cc

same_end : (f : File) (other : Words) → SameNext [] other → all_read f other ≡ done f other
same_end f [] s = refl
same_end f (w ∷ ws) s = absurd s

same_word : (f : File) (v : List ℕ) (vs other : Words) → SameNext (v ∷ vs) other → all_read f other ≡ refused other
same_word f v vs [] s = absurd s
same_word f v vs (w ∷ ws) s = refl

all_read_runs : (f : File) → Runs (all_read f) IsEnd
all_read_runs f [] = record { front = []; split = refl; same = same_end f; stopped = whole_read f }
all_read_runs f (w ∷ ws) = record { front = []; split = refl; same = same_word f w ws; more = []; value = f; whole = whole_read f }

abbrev after_machines : List ObcType → List Text × Words → Outcome File
after_machines ts ms = all_read (record { types = ts; machines = ms.0 }) ms.1

machines_apart : (ts : List ObcType) → Apart (after_machines ts) (NotAhead (is_this (codes "machine"))) IsEnd
machines_apart ts ms [] f rest e s = refl
machines_apart ts ms (w ∷ ws) f rest e s = absurd cc

abbrev after_types : List ObcType × Words → Outcome File
after_types ts = machines ts.1 >>= after_machines ts.0

types_apart : Apart after_types BehindTypes IsEnd
types_apart ts [] f rest e s = (refl, refl)
types_apart ts (w ∷ ws) f rest e s = by (is_this (codes "machine") w) refl
  where
    by : (d : Bool) → is_this (codes "machine") w ≡ d → BehindTypes (w ∷ ws)
    by true p = (other_ahead (codes "machine") (is_this (codes "type")) refl (w ∷ ws) p, other_ahead (codes "machine") (is_this (codes "|")) refl (w ∷ ws) p)
    by false p =
        let stopped : refused (w ∷ ws) ≡ done f rest = sym (ap (λ o. o >>= after_machines ts) (machines_end [] (w ∷ ws) p)) ∙ e in
        absurd cc

pub file_runs : Runs file IsEnd
file_runs =
    next (fixed (codes "obc")) _ IsEnd (fixed_runs (codes "obc") refl) (λ u. next (fixed (codes "1")) _ IsEnd (fixed_runs (codes "1") refl)
    (λ u. then_runs types after_types BehindTypes IsEnd types_apart types_run
    (λ ts. then_runs machines (after_machines ts) (NotAhead (is_this (codes "machine"))) IsEnd (machines_apart ts) machines_run (λ ms. all_read_runs (record { types = ts; machines = ms })))))
