use Rattle.std.proofs.Common.{◌≡◌, length, drop}
use Rattle.hp_normal.specs.Substituting.{meanings}
use Rattle.hp_normal.specs.Tables.{stands_at}
use Rattle.hp_normal.proofs.substitute.fill.Given as goal

abbrev pub invariant-loop-eqn : goal.invariant-loop-eqn
invariant-loop-eqn l =
    record {
      len : length l.table ≡ length l.node.variables;
      meanings : meanings l.node (drop l.eqn-index l.node.eqns) (stands_at l.table) ≡ meanings l.node l.node.eqns (stands_at l.initial.table);
    }
