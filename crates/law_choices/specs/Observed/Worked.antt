-- A node with a contract, whose observer meets what is asked.
-- Source: own.
use Rattle.std.specs.Prelude.{codes, true, List, [], ◌∷◌, None, Some}
use Rattle.hp_base.specs.declared.ty.Ty.TheVariants as ty
use Rattle.hp_base.specs.declared.ty.Const.TheVariants.{B}
use Rattle.hp_tree.specs.declared.program.Item.{Item}
use Rattle.hp_tree.specs.declared.program.Item.TheVariants.{NodeItem}
use Rattle.hp_tree.specs.Expressions.{constant, variable}
use Rattle.hp_tree.specs.Blocks.{Decl, block, no_eqn, more_eqns, define}
use Rattle.hp_tree.specs.Programs.{Contract, Node}
use Rattle.hp_meaning.specs.Contract.Forgetting.{ContractsCallNothing}
use Rattle.law_judged.specs.Named.Scoped.{EachNode}
use Rattle.law_choices.specs.Adding.Worked.{nowhere}
use Rattle.law_choices.specs.Observed.Contracts.{IsObservable}
use Rattle.law_choices.specs.Observed.Laws.{AreTestedObservers}

-- an output that is always true, which the contract enforces
abbrev pub output : Decl
output = record { name = codes "o"; ty = ty.Bool; last = None; clock = Some []; span = nowhere }

abbrev pub keeping_contract : Contract
keeping_contract = record { span = nowhere; body = block [] no_eqn; assume = None; enforce = Some (variable nowhere (codes "o")); controls = [] }

abbrev pub keeping_tree : Node
keeping_tree = record {
  name = codes "f";
  span = nowhere;
  inputs = [];
  outputs = output ∷ [];
  contract = Some keeping_contract;
  body = block [] (more_eqns (define nowhere ((codes "o", nowhere) ∷ []) (constant nowhere (B true))) no_eqn);
}

abbrev pub keeping_program : List Item
keeping_program = NodeItem keeping_tree ∷ []

-- All that is asked of its contract and of its observer is met at once.
abbrev pub SomeObservedLaw : Type 0
SomeObservedLaw = ContractsCallNothing keeping_program × EachNode IsObservable keeping_program × AreTestedObservers keeping_program
