-- An observer meets what is asked.
use Rattle.std.proofs.Common.{ℕ, List, refl, subst, arith}
use Rattle.std.specs.Prelude.{codes, IsTrue}
use Rattle.std.specs.Str.{bytes_eq}
use Rattle.law_judged.specs.Named.Scoped.{interface}
use Rattle.law_judged.proofs.OnceLemmas.Renamed.{or_none}
use Rattle.law_automata.proofs.LoweredLemmas.Apart.{same_bytes}
use Rattle.law_choices.specs.Observed.Contracts.{IsOther, IsObservable}
use Rattle.law_choices.specs.Observed.Worked.{keeping_tree, SomeObservedLaw}

other : IsOther (codes "o")
other = record { assumed = refl; enforced = refl; input = λ i. refl }

named : (x : List ℕ) → IsTrue (interface keeping_tree x) → IsOther x
named x h = subst IsOther (same_bytes (codes "o") x (or_none (bytes_eq (codes "o") x) (or_none _ h))) other

observable : IsObservable keeping_tree
observable = record { interface = named; contract = ((λ x h. absurd cc), tt); short = ((tt, tt), (tt, tt)); few = omega arith }

pub some_observed : SomeObservedLaw
some_observed = (
  (refl, tt),
  (observable, tt),
  (((tt, tt), ((tt, tt), ((tt, tt), tt))), tt),
)
