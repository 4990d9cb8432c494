-- A part of a program is well named exactly where none of its claims has a breach.
use Rattle.std.proofs.Common.{◌≡◌, ℕ, Bool, true, false, List, [], ◌∷◌, ◌++◌, Option, None, Some, Contains, ◌↔◌, refl, sym, ap, ◌∙◌}
use Rattle.std.proofs.lemmas.Map.Views.{list_any-from_Contains}
use Rattle.std.specs.Cmp.Lexicographic.{same_text, nat_list_eq_equiv}
use Rattle.std.specs.Str.{bytes_eq}
use Rattle.indexmap.proofs.CallerLemmas.{Contains-list_any}
use Rattle.hp_base.specs.declared.span.Span.{Span}
use Rattle.hp_tree.specs.declared.block.Trans.{Trans}
use Rattle.hp_base.specs.declared.ty.Ty.{Ty}
use Rattle.hp_base.specs.declared.ty.Ty.TheVariants as ty
use Rattle.hp_base.specs.declared.ty.Const.{Const}
use Rattle.hp_base.specs.declared.ty.Const.TheVariants as const
use Rattle.hp_tree.specs.declared.decl.Cons.{Cons}
use Rattle.hp_tree.specs.declared.decl.Cons.TheVariants as cons
use Rattle.hp_tree.specs.declared.program.Item.{Item}
use Rattle.hp_tree.specs.declared.program.Item.TheVariants.{TypeItem, NodeItem}
use Rattle.hp_tree.specs.Expressions.{Expr, constant, variable, last_of, one, two, choose, pre, fby, arrow, when_is, merge, call, Exprs, no_expr, more_exprs, Parts, no_part, more_parts}
use Rattle.hp_tree.specs.Blocks.{Decl, Block, block, Eqns, no_eqn, more_eqns, Eqn, define, switch, reset, automaton, Arms, no_arm, more_arms, States, no_state, more_states}
use Rattle.hp_tree.specs.Programs.{Contract, Node}
use Rattle.hp_names.specs.Names.{Placed, has, with_name, with_names, declared_names, state_names, names_at}
use Rattle.hp_tree.specs.Meaning.{controls_of}
use Rattle.hp_names.specs.Scopes.{Scope, nothing, with_variables, inside, inside_node, behind}
use Rattle.hp_names.specs.Rules.{AreNew, ConstantIsNamed, ConsIsNamed, ExprIsNamed, ExprsAreNamed, PartsAreNamed, TyIsNamed, FirstIsNamed, PathIsNamed, ClockIsNamed, DeclsAreNamed, VariablesAreNamed, LeftIsNamed, TransitionsAreNamed, BlockIsNamed, EqnsAreNamed, EqnIsNamed, ArmsAreNamed, StatesAreNamed, ConditionIsNamed, ContractIsNamed, BodyIsNamed, NodeIsNamed, ItemIsNamed, ItemsAreNamed, WellNamed}
use Rattle.hp_names.specs.Claims.{Claim, uses, declares, new_names, in_constant, in_cons, in_expr, in_exprs, in_parts, in_type, in_first, in_path, in_clock, in_decl, in_decls, in_variables, in_left, in_transitions, in_block, in_eqns, in_eqn, in_arms, in_states, in_condition, in_contract, in_body, in_node, in_item, in_items, claims}
use Rattle.hp_names.specs.Breaches.{breaches}
use Rattle.hp_names.proofs.FoundLaws.{breaches-append}

-- a name is found where it is among the names, and there alone
pub Contains-has : (names : List (List ℕ)) (x : List ℕ) → has names x ≡ true → Contains names x
Contains-has names x h = Contains-list_any bytes_eq (λ a b e. same_text a b (sym e)) names x h

pub has-Contains : (names : List (List ℕ)) (x : List ℕ) → Contains names x → has names x ≡ true
has-Contains names x h = list_any-from_Contains nat_list_eq_equiv x names h

-- Nothing that is claimed is broken.
abbrev IsClear : List Claim → Type 0
IsClear cs = breaches cs ≡ []

append-empty : {A : Type 0} (xs ys : List A) → xs ++ ys ≡ [] → (xs ≡ []) × (ys ≡ [])
append-empty [] ys p = (refl, p)
append-empty (x ∷ xs) ys p = absurd cc

-- ---- one claim

use_law : (names : List (List ℕ)) (x : List ℕ) (at : Span) → Contains names x ↔ IsClear (uses names x at ∷ [])
use_law names x at = (λ h. rw (has-Contains names x h), λ p. by (has names x) refl p)
  where
    by : (known : Bool) → has names x ≡ known → IsClear (uses names x at ∷ []) → Contains names x
    by true e p = Contains-has names x e
    by false e p = let q = rw e at p in absurd cc

declare_law : (names : List (List ℕ)) (x : List ℕ) (at : Span) → (Contains names x → ⊥) ↔ IsClear (declares names x at ∷ [])
declare_law names x at = (λ h. by (has names x) refl h, λ p h. let e = has-Contains names x h in let q = rw e at p in absurd cc)
  where
    by : (known : Bool) → has names x ≡ known → (Contains names x → ⊥) → IsClear (declares names x at ∷ [])
    by true e h = absurd (h (Contains-has names x e))
    by false e h = rw e

-- ---- several claims

none : Unit {0} ↔ IsClear []
none = (λ u. refl, λ p. tt)

both : {A B : Type 0} (cs ds : List Claim) → A ↔ IsClear cs → B ↔ IsClear ds → (A × B) ↔ IsClear (cs ++ ds)
both cs ds l r = (
  λ h. breaches-append cs ds ∙ ap (λ bs. bs ++ breaches ds) (l.0 h.0) ∙ r.0 h.1,
  λ p. let q = append-empty (breaches cs) (breaches ds) (sym (breaches-append cs ds) ∙ p) in (l.1 q.0, r.1 q.1),
)

new_law : (names : List (List ℕ)) (xs : List Placed) → AreNew names xs ↔ IsClear (new_names names xs)
new_law names [] = none
new_law names (x ∷ xs) = both (declares names x.0 x.1 ∷ []) (new_names (with_name names x.0) xs) (declare_law names x.0 x.1) (new_law (with_name names x.0) xs)

module _ (s : Scope) (at : Span) where
  constant_law : (c : Const) → ConstantIsNamed s c ↔ IsClear (in_constant s at c)
  constant_law (const.B b) = none
  constant_law (const.I n) = none
  constant_law (const.E c) = use_law s.constructors c at

  cons_law : (c : Cons) → ConsIsNamed s c ↔ IsClear (in_cons s at c)
  cons_law cons.False = none
  cons_law cons.True = none
  cons_law (cons.Named c) = use_law s.constructors c at

  type_law : (t : Ty) → TyIsNamed s t ↔ IsClear (in_type s at t)
  type_law ty.Bool = none
  type_law ty.Int = none
  type_law (ty.Enum t) = use_law s.types t at

  first_law : (first : Option Const) → FirstIsNamed s first ↔ IsClear (in_first s at first)
  first_law None = none
  first_law (Some c) = constant_law c

  path_law : (path : List (Cons × List ℕ)) → PathIsNamed s path ↔ IsClear (in_path s at path)
  path_law [] = none
  path_law (step ∷ steps) =
      both (in_cons s at step.0) (uses s.variables step.1 at ∷ in_path s at steps) (cons_law step.0)
      (both (uses s.variables step.1 at ∷ []) (in_path s at steps) (use_law s.variables step.1 at) (path_law steps))

  clock_law : (clock : Option (List (Cons × List ℕ))) → ClockIsNamed s clock ↔ IsClear (in_clock s at clock)
  clock_law None = none
  clock_law (Some path) = path_law path

-- ---- expressions

mutual
  expr_law : (s : Scope) (e : Expr) → ExprIsNamed s e ↔ IsClear (in_expr s e)
  expr_law s (constant at c) = constant_law s at c
  expr_law s (variable at x) = use_law s.variables x at
  expr_law s (last_of at x) = use_law s.lasts x at
  expr_law s (one at op a) = expr_law s a
  expr_law s (two at op a b) = both (in_expr s a) (in_expr s b) (expr_law s a) (expr_law s b)
  expr_law s (choose at a b c) = both (in_expr s a) (in_expr s b ++ in_expr s c) (expr_law s a) (both (in_expr s b) (in_expr s c) (expr_law s b) (expr_law s c))
  expr_law s (pre at a) = expr_law s a
  expr_law s (fby at a b) = both (in_expr s a) (in_expr s b) (expr_law s a) (expr_law s b)
  expr_law s (arrow at a b) = both (in_expr s a) (in_expr s b) (expr_law s a) (expr_law s b)
  expr_law s (when_is at a c x) =
      both (in_expr s a) (in_cons s at c ++ uses s.variables x at ∷ []) (expr_law s a)
      (both (in_cons s at c) (uses s.variables x at ∷ []) (cons_law s at c) (use_law s.variables x at))
  expr_law s (merge at x ps) = both (uses s.variables x at ∷ []) (in_parts s at ps) (use_law s.variables x at) (parts_law s at ps)
  expr_law s (call at f inlined es) = both (uses s.nodes f at ∷ []) (in_exprs s es) (use_law s.nodes f at) (exprs_law s es)

  exprs_law : (s : Scope) (es : Exprs) → ExprsAreNamed s es ↔ IsClear (in_exprs s es)
  exprs_law s no_expr = none
  exprs_law s (more_exprs e es) = both (in_expr s e) (in_exprs s es) (expr_law s e) (exprs_law s es)

  parts_law : (s : Scope) (at : Span) (ps : Parts) → PartsAreNamed s ps ↔ IsClear (in_parts s at ps)
  parts_law s at no_part = none
  parts_law s at (more_parts c e ps) =
      both (in_cons s at c) (in_expr s e ++ in_parts s at ps) (cons_law s at c) (both (in_expr s e) (in_parts s at ps) (expr_law s e) (parts_law s at ps))

-- ---- declarations

decls_law : (s : Scope) (ds : List Decl) → DeclsAreNamed s ds ↔ IsClear (in_decls s ds)
decls_law s [] = none
decls_law s (d ∷ ds) =
    both (in_decl s d) (in_decls s ds)
    (both (in_type s d.span d.ty) (in_first s d.span d.last ++ in_clock s d.span d.clock) (type_law s d.span d.ty)
    (both (in_first s d.span d.last) (in_clock s d.span d.clock) (first_law s d.span d.last) (clock_law s d.span d.clock)))
    (decls_law s ds)

variables_law : (s : Scope) (ds : List Decl) → VariablesAreNamed s ds ↔ IsClear (in_variables s ds)
variables_law s ds =
    both (new_names s.variables (declared_names ds)) (in_decls (with_variables s ds) ds) (new_law s.variables (declared_names ds)) (decls_law (with_variables s ds) ds)

-- ---- equations

left_law : (s : Scope) (xs : List Placed) → LeftIsNamed s xs ↔ IsClear (in_left s xs)
left_law s [] = none
left_law s (x ∷ xs) = both (uses s.variables x.0 x.1 ∷ []) (in_left s xs) (use_law s.variables x.0 x.1) (left_law s xs)

transitions_law : (s : Scope) (states : List (List ℕ)) (ts : List Trans) → TransitionsAreNamed s states ts ↔ IsClear (in_transitions s states ts)
transitions_law s states [] = none
transitions_law s states (t ∷ ts) =
    both (in_expr s t.cond) (uses states t.target t.span ∷ in_transitions s states ts) (expr_law s t.cond)
    (both (uses states t.target t.span ∷ []) (in_transitions s states ts) (use_law states t.target t.span) (transitions_law s states ts))

mutual
  block_law : (s : Scope) (b : Block) → BlockIsNamed s b ↔ IsClear (in_block s b)
  block_law s (block ds es) = both (in_variables s ds) (in_eqns (with_variables s ds) es) (variables_law s ds) (eqns_law (with_variables s ds) es)

  eqns_law : (s : Scope) (es : Eqns) → EqnsAreNamed s es ↔ IsClear (in_eqns s es)
  eqns_law s no_eqn = none
  eqns_law s (more_eqns e es) = both (in_eqn s e) (in_eqns s es) (eqn_law s e) (eqns_law s es)

  eqn_law : (s : Scope) (e : Eqn) → EqnIsNamed s e ↔ IsClear (in_eqn s e)
  eqn_law s (define at xs e) = both (in_left s xs) (in_expr s e) (left_law s xs) (expr_law s e)
  eqn_law s (switch at e arms) = both (in_expr s e) (in_arms s arms) (expr_law s e) (arms_law s arms)
  eqn_law s (reset at b e) = both (in_block s b) (in_expr s e) (block_law s b) (expr_law s e)
  eqn_law s (automaton at qs) =
      both (new_names [] (state_names qs)) (in_states s (with_names [] (state_names qs)) qs) (new_law [] (state_names qs)) (states_law s (with_names [] (state_names qs)) qs)

  arms_law : (s : Scope) (arms : Arms) → ArmsAreNamed s arms ↔ IsClear (in_arms s arms)
  arms_law s no_arm = none
  arms_law s (more_arms c b at arms) =
      both (in_cons s at c) (in_block s b ++ in_arms s arms) (cons_law s at c) (both (in_block s b) (in_arms s arms) (block_law s b) (arms_law s arms))

  states_law : (s : Scope) (states : List (List ℕ)) (qs : States) → StatesAreNamed s states qs ↔ IsClear (in_states s states qs)
  states_law s states no_state = none
  states_law s states (more_states x b until unless at qs) =
      let weak = in_transitions (inside s b) states until in
      let strong = in_transitions s states unless in
      both (in_block s b) (weak ++ (strong ++ in_states s states qs)) (block_law s b)
      (both weak (strong ++ in_states s states qs) (transitions_law (inside s b) states until)
      (both strong (in_states s states qs) (transitions_law s states unless) (states_law s states qs)))

-- ---- nodes and programs

condition_law : (s : Scope) (e : Option Expr) → ConditionIsNamed s e ↔ IsClear (in_condition s e)
condition_law s None = none
condition_law s (Some e) = expr_law s e

contract_law : (s : Scope) (c : Option Contract) → ContractIsNamed s c ↔ IsClear (in_contract s c)
contract_law s None = none
contract_law s (Some c) =
    let t = inside s c.body in
    both (in_block s c.body) (in_condition t c.assume ++ in_condition t c.enforce) (block_law s c.body)
    (both (in_condition t c.assume) (in_condition t c.enforce) (condition_law t c.assume) (condition_law t c.enforce))

body_law : (s : Scope) (controls : List Decl) (body : Block) → BodyIsNamed s controls body ↔ IsClear (in_body s controls body)
body_law s controls body =
    both (in_variables s controls) (in_block (with_variables s controls) body) (variables_law s controls) (block_law (with_variables s controls) body)

node_law : (s : Scope) (n : Node) → NodeIsNamed s n ↔ IsClear (in_node s n)
node_law s n =
    let t = inside_node s n in
    let outputs = (with_variables s n.inputs).variables in
    let last_part = in_contract t n.contract ++ in_body t (controls_of n.contract) n.body in
    both (new_names s.variables (declared_names n.inputs)) (new_names outputs (declared_names n.outputs) ++ (in_decls t n.inputs ++ (in_decls t n.outputs ++ last_part)))
    (new_law s.variables (declared_names n.inputs))
    (both (new_names outputs (declared_names n.outputs)) (in_decls t n.inputs ++ (in_decls t n.outputs ++ last_part))
    (new_law outputs (declared_names n.outputs))
    (both (in_decls t n.inputs) (in_decls t n.outputs ++ last_part) (decls_law t n.inputs)
    (both (in_decls t n.outputs) last_part (decls_law t n.outputs)
    (both (in_contract t n.contract) (in_body t (controls_of n.contract) n.body) (contract_law t n.contract)
    (body_law t (controls_of n.contract) n.body)))))

item_law : (s : Scope) (item : Item) → ItemIsNamed s item ↔ IsClear (in_item s item)
item_law s (TypeItem t) =
    both (declares s.types t.name t.span ∷ []) (new_names s.constructors (names_at t.span t.cons)) (declare_law s.types t.name t.span)
    (new_law s.constructors (names_at t.span t.cons))
item_law s (NodeItem n) = both (declares s.nodes n.name n.span ∷ []) (in_node s n) (declare_law s.nodes n.name n.span) (node_law s n)

items_law : (s : Scope) (items : List Item) → ItemsAreNamed s items ↔ IsClear (in_items s items)
items_law s [] = none
items_law s (item ∷ items) = both (in_item s item) (in_items (behind s item) items) (item_law s item) (items_law (behind s item) items)

-- a program is well named exactly where it has no breach
pub program_law : (program : List Item) → WellNamed program ↔ (breaches (claims program) ≡ [])
program_law program = items_law nothing program
