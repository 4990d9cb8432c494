-- How far cases are joined where memory ends: for the private functions alone.
use Rattle.std.specs.Prelude.{◌≡◌, ℕ, zero, suc, List, [], ◌∷◌, map}
use Rattle.std.specs.declared.alloc.Global.{Global}
use Rattle.std.specs.declared.vec.IntoIter.{IntoIter}
use Rattle.std.specs.Vec.Iter.{into_iter_items}
use Rattle.hp_obc.specs.declared.command.Cmd as code
use Rattle.hp_obc.specs.CommandView.{cmd_seen}
use Rattle.hp_obc.specs.Commands.{Cmds, Cmd, done, case_of, arms_of}
use Rattle.hp_fuse.specs.Fusing.{followed}

-- the commands that an iterator still gives
abbrev pub ahead : IntoIter code.Cmd Global → List Cmd
ahead it = map cmd_seen (into_iter_items it)

-- the first arms, so many of them, with the other arms behind them
abbrev pub paired_to : ℕ → List Cmds → List Cmds → List Cmds
paired_to zero arms others = arms
paired_to (suc k) [] others = []
paired_to (suc k) (cs ∷ arms) [] = cs ∷ arms
paired_to (suc k) (cs ∷ arms) (ds ∷ others) = followed cs ds ∷ paired_to k arms others

-- what is left of the other arms
abbrev pub left_to : ℕ → List Cmds → List Cmds
left_to zero others = others
left_to (suc k) [] = []
left_to (suc k) (ds ∷ others) = done ∷ left_to k others

-- So many of the other arms stand behind the arms.
pub record ArePartlyPaired (arms others new left : List Cmds) : Type 0 where
  pub number : ℕ
  pub paired : new ≡ paired_to number arms others
  pub emptied : left ≡ left_to number others

-- Two cases share what they do anew.
pub record ArePartlyOne (c d new left : Cmd) : Type 0 where
  pub x : List ℕ
  pub y : List ℕ
  pub arms : List Cmds
  pub others : List Cmds
  pub number : ℕ
  pub first : c ≡ case_of x (arms_of arms)
  pub second : d ≡ case_of y (arms_of others)
  pub paired : new ≡ case_of x (arms_of (paired_to number arms others))
  pub emptied : left ≡ case_of y (arms_of (left_to number others))
