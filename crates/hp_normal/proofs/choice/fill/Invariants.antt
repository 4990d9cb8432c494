use Rattle.std.proofs.Common.{◌≡◌, length, drop}
use Rattle.hp_normal.specs.Choices.{choice_meanings}
use Rattle.hp_normal.specs.Tables.{stands_at}
use Rattle.hp_normal.proofs.choice.fill.Given as goal

abbrev pub invariant-loop-eqn : goal.invariant-loop-eqn
invariant-loop-eqn l =
    record {
      len : length l.table ≡ length l.node.variables;
      meanings : choice_meanings l.node (drop l.eqn-index l.node.eqns) (stands_at l.table) ≡ choice_meanings l.node l.node.eqns (stands_at l.initial.table);
    }
