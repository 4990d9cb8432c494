-- What became of commands and machines does what they do, and has form where they have.
use Rattle.std.specs.Prelude.{◌≡◌, ◌≤◌, ℕ, List}
use Rattle.hp_obc.specs.Commands.{Cmds, Arms, no_arm, more_arms}
use Rattle.hp_obc.specs.Machines.{ObcType, Machine}
use Rattle.hp_obc.specs.Form.{HaveForm, ArmsHaveForm, MachineForm, arm_count, depth_of_arms}
use Rattle.hp_obc.specs.Steps.{Names, State, Behaviour, Known, after, after_arm, behaviour}
use Rattle.hp_fuse.specs.Fusing.{with_step}

-- the commands ds, which became of cs
pub record AreAlike (cs ds : Cmds) : Type 0 where
  pub does : (types : List ObcType) (instances : Names Behaviour) (s : State) → after types instances ds s ≡ after types instances cs s
  pub form : (types : List ObcType) (earlier : List Machine) (m : Machine) → HaveForm types earlier m cs → HaveForm types earlier m ds
  pub deep : depth_of_arms (more_arms ds no_arm) ≤ depth_of_arms (more_arms cs no_arm)

-- the arms `others`, which became of `arms`
pub record ArmsAreAlike (arms others : Arms) : Type 0 where
  pub does : (types : List ObcType) (instances : Names Behaviour) (n : ℕ) (s : State) → after_arm types instances n others s ≡ after_arm types instances n arms s
  pub form : (types : List ObcType) (earlier : List Machine) (m : Machine) → ArmsHaveForm types earlier m arms → ArmsHaveForm types earlier m others
  pub count : arm_count others ≡ arm_count arms
  pub deep : depth_of_arms others ≤ depth_of_arms arms

-- the machine n, which became of m: only its commands may differ
pub record IsLike (m n : Machine) : Type 0 where
  pub declares : n ≡ with_step m n.step
  pub does : (types : List ObcType) (known : Known) → behaviour types known n ≡ behaviour types known m
  pub form : (types : List ObcType) (earlier : List Machine) → MachineForm types earlier m → MachineForm types earlier n
