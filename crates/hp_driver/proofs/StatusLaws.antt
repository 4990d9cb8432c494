-- A call, and the number of its status.
use Rattle.std.proofs.Common.{◌≡◌, ℕ, List, [], refl, sym, subst, arith, rules}
use Rattle.hp_io.proofs.ToldLaws.{Grows-nil}
use Rattle.hp_driver.specs.Calls.{Moment, IsCall}
use Rattle.hp_driver.specs.Leaves.{Leaves}
use Rattle.hp_driver.specs.Segments.{CallOutcome}
use Rattle.hp_driver.proofs.RanLaws.{heard_nothing}
use Rattle.hp_driver.proofs.ReadingLaws.{read_none}

-- the same call with the same number
pub numbered : {words : List (List ℕ)} {before after : Moment} {status number : ℕ} → number ≡ status → IsCall words before after status → IsCall words before after number
numbered {words} {before} {after} {status} {number} same call = subst (IsCall words before after) (sym same) call

-- there was no memory for anything
pub nothing_done : (words : List (List ℕ)) (m : Moment) → IsCall words m m 6
nothing_done words m = record {
  outcome = ([], [], Grows-nil m.events, heard_nothing m.left, Grows-nil m.took, CallOutcome.no_memory);
  leaves = Leaves.as_they_were refl (λ out w h. omega (arith, h));
  readings = read_none words m.files m.reads.gave;
  reads = (search rules, search rules);
  writes = (search rules, search rules);
}
