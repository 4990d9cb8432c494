-- Where there are commands in an arm, a case stands around them.
use Rattle.std.proofs.Common.{◌≡◌, ℕ, ◌≤◌, false, List, [], ◌∷◌, length, map, sym, subst, arith}
use Rattle.std.specs.Prelude.{◌==◌}
use Rattle.std.proofs.lemmas.Bool.Decides.{nat_tests}
use Rattle.hp_obc.specs.declared.command.Cmd.{Cmd}
use Rattle.hp_obc.specs.CommandView.{cmd_seen}
use Rattle.hp_obc.specs.Commands.{Cmds, no_arm, more_arms, cmds_of}
use Rattle.hp_obc.specs.Form.{depth_of_arms}

pub some_deep : (cs : List Cmd) (whole : Cmds) (count n : ℕ) → cmds_of (map cmd_seen cs) ≡ whole → count ≡ length cs → (count == 0) ≡ false → n ≤ 0 → depth_of_arms (more_arms whole no_arm) ≤ n → ⊥
some_deep [] whole count n e h k l d = grind (arith, nat_tests)
some_deep (c ∷ cs) whole count n e h k l d =
    let f : depth_of_arms (more_arms (cmds_of (map cmd_seen (c ∷ cs))) no_arm) ≤ n = subst (λ z. depth_of_arms (more_arms z no_arm) ≤ n) (sym e) d in
    omega (arith, f, l)
