-- Nodes and programs whose names are well used and whose types agree have types.
use Rattle.std.proofs.Common.{List, [], ◌∷◌, Option, None, Some}
use Rattle.hp_tree.specs.declared.program.Item.{Item}
use Rattle.hp_tree.specs.declared.program.Item.TheVariants.{TypeItem, NodeItem}
use Rattle.hp_tree.specs.Expressions.{Expr}
use Rattle.hp_tree.specs.Programs.{Contract}
use Rattle.hp_names.specs.Scopes as names
use Rattle.hp_names.specs.Rules.{ConditionIsNamed, ContractIsNamed, ItemIsNamed, ItemsAreNamed}
use Rattle.hp_tree.specs.Meaning.{controls_of}
use Rattle.hp_typing.specs.Scopes.{nothing, with_variables, inside, inside_node, behind}
use Rattle.hp_typing.specs.Rules.{ConditionIsTyped, ContractIsTyped, ItemIsTyped, ItemsAreTyped}
use Rattle.law_judged.specs.Typed.Scopes.{Scope, NameScope}
use Rattle.law_judged.specs.Typed.Merges.{ConditionIsFull, ContractIsFull, ItemIsFull, MergesHaveParts}
use Rattle.law_judged.specs.Typed.Typed.{ConditionHasType, ContractHasTypes, ItemHasTypes, ItemsHaveTypes, TypedLaw}
use Rattle.law_judged.proofs.TypedLemmas.NameLaws.{Covers, covers_nothing, covers_variables, covers_inside, covers_node, covers_behind}
use Rattle.law_judged.proofs.TypedLemmas.ExpressionLaws.{expr_typed}
use Rattle.law_judged.proofs.TypedLemmas.BlockLaws.{decls_typed, block_typed}

condition_typed : (s : Scope) (n : NameScope) → Covers s n → (e : Option Expr) → ConditionIsNamed n e → ConditionIsTyped s e → ConditionIsFull e → ConditionHasType s e
condition_typed s n k None m t f = tt
condition_typed s n k (Some e) m t f = expr_typed s n k e m t.0 f

contract_typed : (s : Scope) (n : NameScope) → Covers s n → (c : Option Contract) → ContractIsNamed n c → ContractIsTyped s c → ContractIsFull c → ContractHasTypes s c
contract_typed s n k None m t f = tt
contract_typed s n k (Some c) m t f =
    let i = covers_inside s n c.body k in (
      block_typed s n k c.body m.0 t.0 f.0,
      (
        condition_typed (inside s c.body) (names.inside n c.body) i c.assume m.1.0 t.1.0 f.1.0,
        condition_typed (inside s c.body) (names.inside n c.body) i c.enforce m.1.1 t.1.1 f.1.1,
      ),
    )

item_typed : (s : Scope) (n : NameScope) → Covers s n → (item : Item) → ItemIsNamed n item → ItemIsTyped s item → ItemIsFull item → ItemHasTypes s item
item_typed s n k (TypeItem d) m t f = tt
item_typed s n k (NodeItem d) m t f =
    let i = covers_node s n d k in
    let ds = controls_of d.contract in
    let j = covers_variables (inside_node s d) (names.inside_node n d) ds i in
    let body = m.1.1.1.1.1.1 in (
      decls_typed (inside_node s d) (names.inside_node n d) i d.inputs m.1.1.1.0,
      (
        decls_typed (inside_node s d) (names.inside_node n d) i d.outputs m.1.1.1.1.0,
        (
          contract_typed (inside_node s d) (names.inside_node n d) i d.contract m.1.1.1.1.1.0 t.1.1.0 f.0,
          (
            decls_typed (with_variables (inside_node s d) ds) (names.with_variables (names.inside_node n d) ds) j ds body.0.1,
            block_typed (with_variables (inside_node s d) ds) (names.with_variables (names.inside_node n d) ds) j d.body body.1 t.1.1.1.1 f.1,
          ),
        ),
      ),
    )

items_typed : (s : Scope) (n : NameScope) → Covers s n → (items : List Item) → ItemsAreNamed n items → ItemsAreTyped s items → MergesHaveParts items → ItemsHaveTypes s items
items_typed s n k [] m t f = tt
items_typed s n k (item ∷ items) m t f =
    (item_typed s n k item m.0 t.0 f.0, items_typed (behind s item) (names.behind n item) (covers_behind s n item k) items m.1 t.1 f.1)

pub typed : TypedLaw
typed program m t f = items_typed nothing names.nothing covers_nothing program m t f
