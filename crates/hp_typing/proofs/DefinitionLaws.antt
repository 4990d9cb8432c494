-- The names of a part of a program are well defined exactly where none of its claims has a breach.
use Rattle.std.proofs.Common.{◌≡◌, ℕ, Bool, true, false, ◌⊎◌, inl, inr, is_some, nat_eq, count_by, if◌then◌else◌, List, [], ◌∷◌, ◌++◌, Option, None, Some, ◌↔◌, refl, arith}
use Rattle.std.proofs.lemmas.Bool.Decides.{nat_tests}
use Rattle.hp_base.specs.declared.span.Span.{Span}
use Rattle.hp_tree.specs.declared.block.Trans.{Trans}
use Rattle.hp_tree.specs.declared.decl.Cons.{Cons}
use Rattle.hp_tree.specs.declared.program.Item.{Item}
use Rattle.hp_tree.specs.declared.program.Item.TheVariants.{TypeItem, NodeItem}
use Rattle.hp_tree.specs.Expressions.{Expr, constant, variable, last_of, one, two, choose, pre, fby, arrow, when_is, merge, call, Exprs, no_expr, more_exprs, Parts, no_part, more_parts}
use Rattle.hp_tree.specs.Blocks.{Decl, Block, block, Eqns, no_eqn, more_eqns, Eqn, define, switch, reset, automaton, Arms, no_arm, more_arms, States, no_state, more_states}
use Rattle.hp_tree.specs.Programs.{Contract, Node}
use Rattle.hp_typing.specs.declared.uses.Use.{Use}
use Rattle.hp_typing.specs.declared.uses.Use.TheVariants.{Never, Once, Partly, Twice}
use Rattle.hp_base.specs.Known.Known.{lookup}
use Rattle.hp_tree.specs.Meaning.{controls_of}
use Rattle.hp_typing.specs.Scopes.{Scope, nothing, with_variables, inside, inside_node, behind}
use Rattle.hp_typing.specs.Types.{type_of, constructors_of}
use Rattle.hp_typing.specs.Uses.{use_in_eqns}
use Rattle.hp_typing.specs.Definitions.{SomeDefines, DefineAtMostOnce, DefineWhole, StandsOnce, EachStandsOnce, same_cons}
use Rattle.hp_typing.specs.Claims.{has_equation, has_none, stands_once}
use Rattle.hp_typing.specs.Breaches.{branch, text_of, of_variable, of_other, breaches}
use Rattle.hp_typing.specs.Definedness.{conses_of_parts, conses_of_arms, in_constructors, in_expr, in_exprs, in_parts, in_transitions, in_variables, in_others, in_block, in_eqns, in_eqn, in_arms, in_states, in_condition, equations, in_contract, in_body, in_node, in_item, in_items, definition_claims}
use Rattle.hp_typing.specs.DefinitionRules.{VariablesAreDefined, HaveNoEquation, MergesAreWhole, ArgumentsAreWhole, PartsAreWhole, TransitionsAreWhole, BlockIsDefined, EqnsAreDefined, EqnIsDefined, ArmsAreDefined, StatesAreDefined, ConditionIsWhole, ContractIsDefined, BodyIsDefined, NodeIsDefined, ItemIsDefined, ItemsAreDefined, WellDefined}
use Rattle.hp_typing.proofs.UseLaws.{Says, says_eqns}
use Rattle.hp_typing.proofs.RuleLaws.{IsClear, none, both}

-- ---- declarations

clear_variable : (at : Span) (x : List ℕ) (is_last : Bool) (u : Use) (D O W : Type 0) → Says u D O W
    → (D × (O × ((is_last ≡ true) ⊎ W))) ↔ (of_variable at x is_last u ++ [] ≡ [])
clear_variable at x is_last Never D O W a = (λ h. absurd (a.0 h.0), λ p. absurd cc)
clear_variable at x is_last Once D O W a = (λ h. refl, λ p. (a.0, (a.1.0, inr a.1.1)))
clear_variable at x true Partly D O W a = (λ h. refl, λ p. (a.0, (a.1.0, inl refl)))
clear_variable at x false Partly D O W a = (λ h. elim h.1.1 [ inl e ↦ absurd cc | inr w ↦ absurd (a.1.1 w) ], λ p. absurd cc)
clear_variable at x is_last Twice D O W a = (λ h. absurd (a.1 h.1.0), λ p. absurd cc)

clear_other : (at : Span) (x : List ℕ) (u : Use) (D O W : Type 0) → Says u D O W → (D → ⊥) ↔ (of_other at x u ++ [] ≡ [])
clear_other at x Never D O W a = (λ h. refl, λ p. a.0)
clear_other at x Once D O W a = (λ h. absurd (h a.0), λ p. absurd cc)
clear_other at x Partly D O W a = (λ h. absurd (h a.0), λ p. absurd cc)
clear_other at x Twice D O W a = (λ h. absurd (h a.0), λ p. absurd cc)

variables_law : (es : Eqns) (ds : List Decl) → VariablesAreDefined es ds ↔ IsClear (in_variables es ds)
variables_law es [] = none
variables_law es (d ∷ ds) =
    both (has_equation d.span d.name (is_some d.last) es ∷ []) (in_variables es ds)
    (clear_variable d.span d.name (is_some d.last) (use_in_eqns es d.name) (SomeDefines es d.name) (DefineAtMostOnce es d.name) (DefineWhole es d.name) (says_eqns es d.name))
    (variables_law es ds)

others_law : (es : Eqns) (ds : List Decl) → HaveNoEquation es ds ↔ IsClear (in_others es ds)
others_law es [] = none
others_law es (d ∷ ds) =
    both (has_none d.span d.name es ∷ []) (in_others es ds)
    (clear_other d.span d.name (use_in_eqns es d.name) (SomeDefines es d.name) (DefineAtMostOnce es d.name) (DefineWhole es d.name) (says_eqns es d.name))
    (others_law es ds)

-- ---- constructors

one_count : (n : ℕ) → nat_eq n 1 ≡ true → n ≡ 1
one_count n h = grind (arith, nat_tests)

clear_constructor : (at : Span) (c : Cons) (given : List Cons) → StandsOnce c given ↔ IsClear (stands_once at c given ∷ [])
clear_constructor at c given = by (nat_eq (count_by (same_cons c) given) 1) refl
  where
    by : (d : Bool) → nat_eq (count_by (same_cons c) given) 1 ≡ d → StandsOnce c given ↔ ((if d then [] else branch at (text_of c) ∷ []) ++ [] ≡ [])
    by true e = (λ h. refl, λ p. one_count (count_by (same_cons c) given) e)
    by false e = (λ h. let r : nat_eq (count_by (same_cons c) given) 1 ≡ true = rw h in absurd cc, λ p. absurd cc)

constructors_law : (at : Span) (cs given : List Cons) → EachStandsOnce cs given ↔ IsClear (in_constructors at cs given)
constructors_law at [] given = none
constructors_law at (c ∷ cs) given = both (stands_once at c given ∷ []) (in_constructors at cs given) (clear_constructor at c given) (constructors_law at cs given)

-- ---- expressions

mutual
  expr_law : (s : Scope) (e : Expr) → MergesAreWhole s e ↔ IsClear (in_expr s e)
  expr_law s (constant at c) = none
  expr_law s (variable at x) = none
  expr_law s (last_of at x) = none
  expr_law s (one at op a) = expr_law s a
  expr_law s (two at op a b) = both (in_expr s a) (in_expr s b) (expr_law s a) (expr_law s b)
  expr_law s (choose at a b c) = both (in_expr s a) (in_expr s b ++ in_expr s c) (expr_law s a) (both (in_expr s b) (in_expr s c) (expr_law s b) (expr_law s c))
  expr_law s (pre at a) = expr_law s a
  expr_law s (fby at a b) = both (in_expr s a) (in_expr s b) (expr_law s a) (expr_law s b)
  expr_law s (arrow at a b) = both (in_expr s a) (in_expr s b) (expr_law s a) (expr_law s b)
  expr_law s (when_is at a c x) = expr_law s a
  expr_law s (merge at x ps) =
      let cs = constructors_of s (lookup s.variables x) in
      both (in_constructors at cs (conses_of_parts ps)) (in_parts s ps) (constructors_law at cs (conses_of_parts ps)) (parts_law s ps)
  expr_law s (call at f inlined es) = exprs_law s es

  exprs_law : (s : Scope) (es : Exprs) → ArgumentsAreWhole s es ↔ IsClear (in_exprs s es)
  exprs_law s no_expr = none
  exprs_law s (more_exprs e es) = both (in_expr s e) (in_exprs s es) (expr_law s e) (exprs_law s es)

  parts_law : (s : Scope) (ps : Parts) → PartsAreWhole s ps ↔ IsClear (in_parts s ps)
  parts_law s no_part = none
  parts_law s (more_parts c e ps) = both (in_expr s e) (in_parts s ps) (expr_law s e) (parts_law s ps)

transitions_law : (s : Scope) (ts : List Trans) → TransitionsAreWhole s ts ↔ IsClear (in_transitions s ts)
transitions_law s [] = none
transitions_law s (t ∷ ts) = both (in_expr s t.cond) (in_transitions s ts) (expr_law s t.cond) (transitions_law s ts)

-- ---- equations

mutual
  block_law : (s : Scope) (b : Block) → BlockIsDefined s b ↔ IsClear (in_block s b)
  block_law s (block ds es) = both (in_eqns (with_variables s ds) es) (in_variables es ds) (eqns_law (with_variables s ds) es) (variables_law es ds)

  eqns_law : (s : Scope) (es : Eqns) → EqnsAreDefined s es ↔ IsClear (in_eqns s es)
  eqns_law s no_eqn = none
  eqns_law s (more_eqns e es) = both (in_eqn s e) (in_eqns s es) (eqn_law s e) (eqns_law s es)

  eqn_law : (s : Scope) (e : Eqn) → EqnIsDefined s e ↔ IsClear (in_eqn s e)
  eqn_law s (define at xs e) = expr_law s e
  eqn_law s (switch at e arms) =
      let cs = constructors_of s (type_of s e) in
      let all = in_constructors at cs (conses_of_arms arms) in
      both (in_expr s e) (all ++ in_arms s arms) (expr_law s e) (both all (in_arms s arms) (constructors_law at cs (conses_of_arms arms)) (arms_law s arms))
  eqn_law s (reset at b e) = both (in_block s b) (in_expr s e) (block_law s b) (expr_law s e)
  eqn_law s (automaton at qs) = states_law s qs

  arms_law : (s : Scope) (arms : Arms) → ArmsAreDefined s arms ↔ IsClear (in_arms s arms)
  arms_law s no_arm = none
  arms_law s (more_arms c b at arms) = both (in_block s b) (in_arms s arms) (block_law s b) (arms_law s arms)

  states_law : (s : Scope) (qs : States) → StatesAreDefined s qs ↔ IsClear (in_states s qs)
  states_law s no_state = none
  states_law s (more_states x b until unless at qs) =
      let weak = in_transitions (inside s b) until in
      let strong = in_transitions s unless in
      both (in_block s b) (weak ++ (strong ++ in_states s qs)) (block_law s b)
      (both weak (strong ++ in_states s qs) (transitions_law (inside s b) until)
      (both strong (in_states s qs) (transitions_law s unless) (states_law s qs)))

-- ---- nodes and programs

condition_law : (s : Scope) (e : Option Expr) → ConditionIsWhole s e ↔ IsClear (in_condition s e)
condition_law s None = none
condition_law s (Some e) = expr_law s e

contract_law : (s : Scope) (inputs outputs : List Decl) (c : Option Contract) → ContractIsDefined s inputs outputs c ↔ IsClear (in_contract s inputs outputs c)
contract_law s inputs outputs None = none
contract_law s inputs outputs (Some c) =
    let t = inside s c.body in
    let es = equations c.body in
    let conditions = in_condition t c.assume ++ in_condition t c.enforce in
    both (in_block s c.body) (in_others es inputs ++ (in_others es outputs ++ conditions)) (block_law s c.body)
    (both (in_others es inputs) (in_others es outputs ++ conditions) (others_law es inputs)
    (both (in_others es outputs) conditions (others_law es outputs)
    (both (in_condition t c.assume) (in_condition t c.enforce) (condition_law t c.assume) (condition_law t c.enforce))))

body_law : (s : Scope) (inputs outputs controls : List Decl) (b : Block) → BodyIsDefined s inputs outputs controls b ↔ IsClear (in_body s inputs outputs controls b)
body_law s inputs outputs controls b =
    let es = equations b in
    let behind = in_others es controls ++ in_variables es outputs in
    both (in_block (with_variables s controls) b) (in_others es inputs ++ behind) (block_law (with_variables s controls) b)
    (both (in_others es inputs) behind (others_law es inputs) (both (in_others es controls) (in_variables es outputs) (others_law es controls) (variables_law es outputs)))

node_law : (s : Scope) (n : Node) → NodeIsDefined s n ↔ IsClear (in_node s n)
node_law s n =
    let t = inside_node s n in
    both (in_contract t n.inputs n.outputs n.contract) (in_body t n.inputs n.outputs (controls_of n.contract) n.body)
    (contract_law t n.inputs n.outputs n.contract) (body_law t n.inputs n.outputs (controls_of n.contract) n.body)

item_law : (s : Scope) (item : Item) → ItemIsDefined s item ↔ IsClear (in_item s item)
item_law s (TypeItem t) = none
item_law s (NodeItem n) = node_law s n

items_law : (s : Scope) (items : List Item) → ItemsAreDefined s items ↔ IsClear (in_items s items)
items_law s [] = none
items_law s (item ∷ items) = both (in_item s item) (in_items (behind s item) items) (item_law s item) (items_law (behind s item) items)

-- the names of a program are well defined exactly where it has no breach
pub definitions_law : (program : List Item) → WellDefined program ↔ (breaches (definition_claims program) ≡ [])
definitions_law program = items_law nothing program
