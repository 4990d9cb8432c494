use Rattle.std.proofs.Common.{rules, ◌≡◌, List, ◌++◌, Some, sym, subst}
use Rattle.std.specs.Prelude.{IfErr, Option}
use Rattle.std.specs.Vec.Iter.{into_iter_items}
use Rattle.hp_tree.specs.Programs.{Contract}
use Rattle.hp_controlled.specs.Compiled.{contract_if}
use Rattle.hp_controlled.specs.Lacking.{FitContracts, SaysNotBuilt}
use Rattle.hp_controlled.proofs.machines.add_observer_of.Goals as goal

pub returns-in-Some-clause-unfitting : goal.returns-in-Some-clause-unfitting
returns-in-Some-clause-unfitting c =
    let some : c.args.node.now.contract ≡ Some c.in-Some.contract = search rules in
    subst (λ (o : Option Contract). IfErr c.add_observer.result (SaysNotBuilt ((cs : List Contract) → FitContracts (contract_if o ++ cs) (into_iter_items c.args.flats.now) → ⊥))) (sym some) c.add_observer.ensures.unfitting
