-- What the run of a node or a machine says to the lines of a trace.
use Rattle.std.specs.Prelude.{◌≡◌, ℕ, List}
use Rattle.std.specs.List.{AllByRecursion, flat_map}
use Rattle.hp_base.specs.Kinds.{AreOfKinds}
use Rattle.hp_base.specs.declared.value.Value.{Value}
use Rattle.hp_driver.specs.Systems.{System, inputs_of, outputs_of, line_in, Gives}
use Rattle.hp_driver.specs.Values.{inputs_until}

-- These bytes are the outputs of its run, a line for each instant, over the inputs that the lines spell up to the first one that has a fault. Each output is a value of its kind, so none is Nil or absent.
pub record IsAnswer (s : System) (lines : List (List ℕ)) (bytes : List ℕ) : Type 0 where
  pub outputs : List (List Value)
  pub run : Gives s (inputs_until (inputs_of s) 1 lines) outputs
  pub kinds : AllByRecursion (AreOfKinds (outputs_of s)) outputs
  pub said : bytes ≡ flat_map (line_in s) outputs
