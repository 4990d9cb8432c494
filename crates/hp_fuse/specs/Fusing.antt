-- Neighbouring cases on one variable, joined.
use Rattle.std.specs.Prelude.{ℕ, zero, suc, Bool, false, ◌&&◌, ◌||◌, not, ◌==◌, List, if◌then◌else◌}
use Rattle.std.specs.Str.{bytes_eq}
use Rattle.hp_obc.specs.Commands.{Cmds, Cmd, Arms, done, and_then, set, call, restart, case_of, no_arm, more_arms}
use Rattle.hp_obc.specs.Machines.{Machine}
use Rattle.hp_obc.specs.Form.{has_name, arm_count}

-- commands may set a name
abbrev mutual
  pub set_in : Cmds → List ℕ → Bool
  set_in done x = false
  set_in (and_then c cs) x = set_by c x || set_in cs x

  pub set_by : Cmd → List ℕ → Bool
  set_by (set y op args) x = bytes_eq y x
  set_by (call i outs args) x = has_name outs x
  set_by (restart i) x = false
  set_by (case_of y arms) x = set_in_arms arms x

  pub set_in_arms : Arms → List ℕ → Bool
  set_in_arms no_arm x = false
  set_in_arms (more_arms cs arms) x = set_in cs x || set_in_arms arms x

-- a case that does not set its variable
abbrev pub is_steady : Cmd → Bool
is_steady (case_of x arms) = not (set_in_arms arms x)
is_steady c = false

-- two cases on one variable, of as many arms
abbrev pub ask_the_same : Cmd → Cmd → Bool
ask_the_same (case_of x arms) (case_of y others) = bytes_eq x y && arm_count arms == arm_count others
ask_the_same c d = false

-- Two neighbours are to be joined.
abbrev pub is_joinable : Cmd → Cmd → Bool
is_joinable c d = is_steady c && (is_steady d && ask_the_same c d)

-- commands, and then others
abbrev pub followed : Cmds → Cmds → Cmds
followed done ds = ds
followed (and_then c cs) ds = and_then c (followed cs ds)

-- arms, each with the other arm of its value behind it
abbrev pub paired : Arms → Arms → Arms
paired no_arm others = no_arm
paired (more_arms cs arms) no_arm = more_arms cs arms
paired (more_arms cs arms) (more_arms ds others) = more_arms (followed cs ds) (paired arms others)

-- two cases as one
abbrev pub as_one : Cmd → Cmd → Cmd
as_one (case_of x arms) (case_of y others) = case_of x (paired arms others)
as_one c d = c

-- a command in front of others, joined with the first of them where it can be
abbrev pub led_by : Cmd → Cmds → Cmds
led_by c done = and_then c done
led_by c (and_then d ds) = if is_joinable c d then and_then (as_one c d) ds else and_then c (and_then d ds)

-- commands with their neighbours joined, but for those within arms
abbrev pub joined : Cmds → Cmds
joined done = done
joined (and_then c cs) = led_by c (joined cs)

-- the same done to the commands of all arms
abbrev pub in_arms : (Cmds → Cmds) → Arms → Arms
in_arms f no_arm = no_arm
in_arms f (more_arms cs arms) = more_arms (f cs) (in_arms f arms)

abbrev pub within : (Cmds → Cmds) → Cmd → Cmd
within f (case_of x arms) = case_of x (in_arms f arms)
within f c = c

abbrev pub all_within : (Cmds → Cmds) → Cmds → Cmds
all_within f done = done
all_within f (and_then c cs) = and_then (within f c) (all_within f cs)

-- commands with their neighbours joined, and so within arms, to so many levels
abbrev pub fused_to : ℕ → Cmds → Cmds
fused_to zero cs = cs
fused_to (suc levels) cs = all_within (fused_to levels) (joined cs)

-- the machine with other commands
abbrev pub with_step : Machine → Cmds → Machine
with_step m cs = record { name = m.name; inputs = m.inputs; outputs = m.outputs; vars = m.vars; mems = m.mems; insts = m.insts; step = cs }

-- the machine with neighbours joined to 301 levels: where it has form, there are no more
abbrev pub fused_machine : Machine → Machine
fused_machine m = with_step m (fused_to 301 m.step)
