use Rattle.std.proofs.Common.{◌≡◌, ◌+◌, ◌++◌, ℕ, take, drop}
use Rattle.std.specs.Prelude.{All}
use Rattle.hp_complete.specs.Edges.{placed}
use Rattle.hp_complete.specs.Ranges.{EqnWithin}
use Rattle.hp_complete.proofs.order.place.Given as goal

abbrev pub invariant-loop-i : goal.invariant-loop-i
invariant-loop-i l =
    record {
      placed : take l.i l.eqns ++ placed l.ranks (l.variables + l.i) (drop l.i l.eqns) ≡ placed l.ranks l.variables l.initial.eqns;
      within : (n : ℕ) → All (EqnWithin n) l.initial.eqns → All (EqnWithin n) l.eqns;
    }
