-- When a hook changes no step of an executor on inputs of their kinds.
use Rattle.std.specs.Prelude.{ℕ}
use Rattle.hp_base.specs.Kinds.{kinds_of}
use Rattle.hp_obc.specs.Kinded.{MemoryKinds}
use Rattle.hp_obc.specs.Steps.{Behaviour}
use Rattle.hp_exec.specs.Executors.{Executor, Runs, RunsHooked, IsKindedBy}
use Rattle.hp_exec.specs.Hooked.{Hooking, AgreeInKind}

-- An executor does what a behaviour says, and with a hook, at each instant, what another one says that agrees with it in kind. Its memory
-- is of the kinds.
pub record GoesNatively (h : Hooking) (e : Executor) : Type 0 where
  pub behaviour : Behaviour
  pub hooked : ℕ → Behaviour
  pub keeps : MemoryKinds
  pub runs : Runs e behaviour
  pub kinds : IsKindedBy keeps e behaviour
  pub runs_hooked : (t : ℕ) → RunsHooked e h t (hooked t)
  pub agree : (t : ℕ) → AgreeInKind (kinds_of e.signature.inputs) keeps (hooked t) behaviour
