-- Machines in which no neighbouring cases are left to be joined.
-- Source: the joining of control structures by Biernacki, Colaço, Hamon and Pouzet (LCTES 2008).
use Rattle.std.specs.Prelude.{◌≡◌, ⊤, false, List}
use Rattle.hp_fuse.specs.Fusing.{fused_machine, is_joinable}
use Rattle.hp_obc.specs.Commands.{Cmds, Cmd, Arms, done, and_then, set, call, restart, case_of, no_arm, more_arms}
use Rattle.hp_obc.specs.Form.{MachineForm}
use Rattle.hp_obc.specs.Machines.{ObcType, Machine}

-- a command is not to be joined with the one behind it
abbrev pub IsApartFrom : Cmd → Cmds → Type 0
IsApartFrom c done = ⊤
IsApartFrom c (and_then d ds) = is_joinable c d ≡ false

-- No two neighbours are, nor any within arms.
abbrev mutual
  pub AreApart : Cmds → Type 0
  AreApart done = ⊤
  AreApart (and_then c cs) = IsApart c × IsApartFrom c cs × AreApart cs

  pub IsApart : Cmd → Type 0
  IsApart (set x op args) = ⊤
  IsApart (call i outs args) = ⊤
  IsApart (restart i) = ⊤
  IsApart (case_of x arms) = ArmsAreApart arms

  pub ArmsAreApart : Arms → Type 0
  ArmsAreApart no_arm = ⊤
  ArmsAreApart (more_arms cs arms) = AreApart cs × ArmsAreApart arms

-- So it is of each machine of form whose neighbours were joined.
abbrev pub ApartLaw : Type 0
ApartLaw = (types : List ObcType) (earlier : List Machine) (m : Machine) → MachineForm types earlier m → AreApart (fused_machine m).step
