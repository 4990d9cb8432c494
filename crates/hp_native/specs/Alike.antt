-- When machines have the same parts.
use Rattle.std.specs.Prelude.{◌≡◌}
use Rattle.hp_obc.specs.Machines.{Machine}

-- Two machines have the same variables, memories and instances.
pub record SameParts (m n : Machine) : Type 0 where
  pub inputs : m.inputs ≡ n.inputs
  pub outputs : m.outputs ≡ n.outputs
  pub vars : m.vars ≡ n.vars
  pub mems : m.mems ≡ n.mems
  pub insts : m.insts ≡ n.insts
