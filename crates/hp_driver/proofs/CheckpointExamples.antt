-- A delay that is stopped behind one line: what its checkpoint says, and how it goes on. Two wrong ways are refused.
use Rattle.std.proofs.Common.{◌≡◌, ℕ, Bool, true, false, List, [], ◌∷◌, codes, get_or, refl, ap, ◌∙◌, arith}
use Rattle.std.specs.List.{flat_map}
use Rattle.hp_base.specs.declared.value.Value.TheVariants.{B}
use Rattle.hp_obc.specs.Machines.{Obc}
use Rattle.hp_obc.specs.Steps.{Memory, memory, no_memory, machine_behaviour}
use Rattle.hp_obc.proofs.Examples.{delay}
use Rattle.hp_obctext.specs.MemoryKinds.{memory_text}
use Rattle.hp_exec.specs.Layouts.{flattened}
use Rattle.hp_driver.specs.Answers.{IsAnswer}
use Rattle.hp_driver.specs.Checkpoints.{IsCheckpointOf}
use Rattle.hp_driver.specs.Joined.{memory_past}
use Rattle.hp_driver.specs.Systems.{from_memory, line_in}

abbrev delays : Obc
delays = record { types = []; machines = delay ∷ [] }

abbrev keeps : Bool → Memory
keeps b = memory (B b ∷ []) no_memory

abbrev one_line : List (List ℕ)
one_line = codes "true" ∷ []

reset_is : (machine_behaviour delays (codes "f")).reset ≡ keeps false
reset_is = refl

-- behind the line it keeps what it took
pub kept_is : memory_past delays (codes "f") (keeps false) one_line ≡ keeps true
kept_is = refl

pub text_is : memory_text [] (codes "f") (flattened (keeps true)) ≡ codes "hept-mem 1\nnode f\ntrue\nend\n"
text_is = refl

pub is_checkpoint : IsCheckpointOf delays (codes "f") (memory_past delays (codes "f") (keeps false) one_line) (codes "hept-mem 1\nnode f\ntrue\nend\n")
is_checkpoint = record { shaped = (refl, tt); kinded = ((tt, tt), tt); spelled = refl }

-- the checkpoint of the memory after a reset is not the one that is to be written
pub of_the_reset_memory : IsCheckpointOf delays (codes "f") (memory_past delays (codes "f") (keeps false) one_line) (memory_text [] (codes "f") (flattened (machine_behaviour delays (codes "f")).reset)) → ⊥
of_the_reset_memory is = let byte : ◌≡◌ {A = ℕ} 102 116 = ap (λ text. get_or text 18 0) is.spelled in omega (arith, byte)

-- from its memory behind the line it says this to the next one
pub says : IsAnswer (from_memory delays (codes "f") (keeps true)) one_line (codes "true\n")
says = record { outputs = (B true ∷ []) ∷ []; run = refl; kinds = ((tt, tt), tt); said = refl }

-- and not what it says from the memory after a reset on
pub from_the_reset_memory : IsAnswer (from_memory delays (codes "f") (keeps true)) one_line (codes "false\n") → ⊥
from_the_reset_memory a =
    let outputs : a.outputs ≡ (B true ∷ []) ∷ [] = a.run in
    let line : codes "false\n" ≡ codes "true\n" = a.said ∙ ap (flat_map (line_in (from_memory delays (codes "f") (keeps true)))) outputs in
    let byte : ◌≡◌ {A = ℕ} 102 116 = ap (λ text. get_or text 0 0) line in omega (arith, byte)
