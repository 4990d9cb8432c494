-- The commands of a step as plain data.
use Rattle.std.specs.Prelude.{ℕ, List, [], ◌∷◌}
use Rattle.hp_obc.specs.declared.command.Arg.{Arg}
use Rattle.hp_obc.specs.declared.command.ObcOp.{ObcOp}

mutual
  -- commands in order
  pub data Cmds : Type 0 where
    done : Cmds
    and_then : Cmd → Cmds → Cmds

  -- a command; a name is its bytes
  pub data Cmd : Type 0 where
    set : List ℕ → ObcOp → List Arg → Cmd
    call : List ℕ → List (List ℕ) → List Arg → Cmd
    restart : List ℕ → Cmd
    case_of : List ℕ → Arms → Cmd

  -- the arms of a case, in the order of the values
  pub data Arms : Type 0 where
    no_arm : Arms
    more_arms : Cmds → Arms → Arms

-- the lists of a tree, made of plain lists
abbrev pub cmds_of : List Cmd → Cmds
cmds_of [] = done
cmds_of (c ∷ cs) = and_then c (cmds_of cs)

abbrev pub arms_of : List Cmds → Arms
arms_of [] = no_arm
arms_of (cs ∷ arms) = more_arms cs (arms_of arms)
