-- Machines that read values from each line.
use Rattle.std.specs.Prelude.{ℕ, List, [], ◌∷◌, ◌++◌, Result, Ok, Err}
use Rattle.hp_base.specs.declared.value.Value.{Value}
use Rattle.hp_base.specs.Kinds.{KindData}
use Rattle.hp_driver.specs.Trace.{Machine}
use Rattle.hp_driver.specs.Values.{reading}

-- what a step gives for the values on a line
abbrev pub stepped : {S E : Type 0} → (S → List Value → List ℕ × S) → S → Result (List Value) E → Result (List ℕ × S) E
stepped step s (Ok values) = Ok (step s values)
stepped step s (Err e) = Err e

-- the machine that reads values of these kinds from each line, and says and keeps what a step gives for them
abbrev pub reader : {S : Type 0} → List KindData → (S → List Value → List ℕ × S) → Machine S
reader kinds step s line = stepped step s (reading kinds line)

-- what a step says for inputs, one after another
abbrev pub reacts : {S : Type 0} → (S → List Value → List ℕ × S) → S → List (List Value) → List ℕ
reacts step s [] = []
reacts step s (values ∷ more) = (step s values).0 ++ reacts step (step s values).1 more
