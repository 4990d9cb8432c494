-- Each contract has as many comparisons as the clocked equations of its observer.
use Rattle.std.proofs.Common.{◌≡◌, ℕ, ◌+◌, List, [], ◌∷◌, ◌++◌, map, Option, None, Some, refl, sym, ◌∙◌, arith}
use Rattle.hp_base.specs.declared.span.Span.{Span}
use Rattle.hp_tree.specs.Blocks.{Decl, Block, block, Eqn, Eqns, no_eqn, more_eqns, eqns_of, list_of_eqns}
use Rattle.hp_tree.specs.Expressions.{Expr}
use Rattle.hp_tree.specs.Programs.{Contract, Node}
use Rattle.hp_tree.specs.declared.program.Item.{Item}
use Rattle.hp_tree.specs.declared.program.Item.TheVariants.{TypeItem, NodeItem}
use Rattle.hp_automata.specs.Lowering.{Enumerations, lowered_item}
use Rattle.hp_flat.specs.Nodes.{FlatNode}
use Rattle.law_equations.specs.Made.Making.{Known}
use Rattle.hp_complete.specs.Made.{AreMadeOf}
use Rattle.hp_watch.specs.Observing.{all_handed_on, condition_of, lines_of, observer_of, observer_if, observers, with_lines}
use Rattle.hp_watch.specs.Walk.{in_block, in_condition, in_contract, in_eqns, in_expr}
use Rattle.law_choices.specs.Places.Laws.{CountLaw, KnowsOutputs}
use Rattle.hp_controlled.specs.Compiled.{contract_if, contracts_of}
use Rattle.hp_controlled.specs.Lacking.{FitContracts}

-- equations behind others
in_more : (es : Eqns) (lines : List Eqn) → in_eqns (eqns_of (list_of_eqns es ++ lines)) ≡ in_eqns es + in_eqns (eqns_of lines)
in_more no_eqn lines = omega arith
in_more (more_eqns e es) lines = let h = in_more es lines in omega (arith, h)

-- what hands the outputs of a node on compares nothing
in_handed : (i : ℕ) (ds : List Decl) → in_eqns (eqns_of (all_handed_on i ds)) ≡ 0
in_handed i [] = refl
in_handed i (d ∷ ds) = let h = in_handed (i + 1) ds in omega (arith, h)

in_said : (o : Option Expr) (span : Span) → in_expr (condition_of o span) ≡ in_condition o
in_said None span = refl
in_said (Some e) span = refl

in_lines : (n : Node) (c : Contract) → in_eqns (eqns_of (lines_of n c)) ≡ in_condition c.assume + in_condition c.enforce
in_lines n c =
    let a = in_said c.assume c.span in
    let e = in_said c.enforce c.span in
    let h = in_handed 0 n.outputs in
    omega (arith, a, e, h)

in_body : (b : Block) (more : List Decl) (lines : List Eqn) → in_block (with_lines b more lines) ≡ in_block b + in_eqns (eqns_of lines)
in_body (block ds es) more lines = in_more es lines

in_observer : (n : Node) (c : Contract) → in_block (with_lines c.body n.outputs (lines_of n c)) ≡ in_contract c
in_observer n c =
    let b = in_body c.body n.outputs (lines_of n c) in
    let l = in_lines n c in
    omega (arith, b, l)

module _ (count : CountLaw) (outputs : List ℕ → List (List ℕ)) (k : Known) (enums : Enumerations) (knows : KnowsOutputs outputs k) where
  pub contracts_fit : (items : List Item) (fs : List FlatNode) → AreMadeOf k (map (lowered_item enums) (observers items)) fs → FitContracts (contracts_of items) fs
  contracts_fit [] fs made = tt
  contracts_fit (TypeItem t ∷ items) fs made = contracts_fit items fs made
  contracts_fit (NodeItem n ∷ items) fs made = by n.contract fs made (contracts_fit items)
    where
      by : (o : Option Contract) (fs : List FlatNode) → AreMadeOf k (map (lowered_item enums) (observer_if n o ++ observers items)) fs
          → ((fs : List FlatNode) → AreMadeOf k (map (lowered_item enums) (observers items)) fs → FitContracts (contracts_of items) fs) → FitContracts (contract_if o ++ contracts_of items) fs
      by None fs made rest = rest fs made
      by (Some c) [] made rest = absurd made
      by (Some c) (f ∷ fs) made rest =
          let own = made.0 in
          (sym (in_observer n c) ∙ sym (count outputs k enums (observer_of n c) f.eqns knows own.eqns), rest fs made.1)
