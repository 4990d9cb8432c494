-- Declarations, equations and blocks whose names are well used and whose types agree have types.
use Rattle.std.proofs.Common.{◌≡◌, ℕ, List, [], ◌∷◌, Option, None, Some, IsSome, IsSomeAnd, length}
use Rattle.hp_base.specs.declared.span.Span.{Span}
use Rattle.hp_base.specs.declared.ty.Ty.{Ty}
use Rattle.hp_base.specs.declared.ty.Ty.TheVariants.{Bool as bool, Int as int, Enum as enum}
use Rattle.hp_base.specs.declared.ty.Const.{Const}
use Rattle.hp_tree.specs.declared.decl.Cons.{Cons}
use Rattle.hp_tree.specs.declared.block.Trans.{Trans}
use Rattle.hp_tree.specs.Expressions.{Expr, constant, variable, last_of, one, two, choose, pre, fby, arrow, when_is, merge, call}
use Rattle.hp_tree.specs.Blocks.{Decl, Block, block, Eqns, no_eqn, more_eqns, Eqn, define, switch, reset, automaton, Arms, no_arm, more_arms, States, no_state, more_states}
use Rattle.hp_names.specs.Scopes as names
use Rattle.hp_names.specs.Rules.{ExprIsNamed, TyIsNamed, FirstIsNamed, PathIsNamed, ClockIsNamed, DeclsAreNamed, LeftIsNamed, TransitionsAreNamed, BlockIsNamed, EqnsAreNamed, EqnIsNamed, ArmsAreNamed, StatesAreNamed}
use Rattle.hp_base.specs.Known.Known.{lookup}
use Rattle.hp_typing.specs.Scopes.{with_variables, inside}
use Rattle.hp_typing.specs.Types.{outputs_in, type_of, types_in}
use Rattle.hp_typing.specs.Rules.{RowFits, RightIsTyped, TransitionsAreTyped, BlockIsTyped, EqnsAreTyped, EqnIsTyped, ArmsAreTyped, StatesAreTyped}
use Rattle.law_judged.specs.Typed.Scopes.{Scope, NameScope}
use Rattle.law_judged.specs.Typed.Merges.{ExprIsFull, TransitionsAreFull, BlockIsFull, EqnsAreFull, EqnIsFull, ArmsAreFull, StatesAreFull}
use Rattle.law_judged.specs.Typed.Typed.{TypeIsKnown, FirstHasType, PathHasTypes, ClockHasTypes, DeclsHaveTypes, LeftHasTypes, RightHasTypes, TransitionsHaveTypes, BlockHasTypes, EqnsHaveTypes, EqnHasTypes, ArmsHaveTypes, StatesHaveTypes}
use Rattle.law_judged.proofs.TypedLemmas.NameLaws.{Covers, covers_variables, covers_inside}
use Rattle.law_judged.proofs.TypedLemmas.ExpressionLaws.{constant_typed, cons_typed, outputs_some, expr_typed, exprs_typed}

-- ---- declarations and equations in one scope

module _ (s : Scope) (n : NameScope) (k : Covers s n) where
  type_known : (t : Ty) → TyIsNamed n t → TypeIsKnown s t
  type_known bool m = tt
  type_known int m = tt
  type_known (enum t) m = k.of_types t m

  first_typed : (first : Option Const) → FirstIsNamed n first → FirstHasType s first
  first_typed None m = tt
  first_typed (Some c) m = constant_typed s n c k m

  path_typed : (path : List (Cons × List ℕ)) → PathIsNamed n path → PathHasTypes s path
  path_typed [] m = tt
  path_typed (step ∷ steps) m = (cons_typed s n step.0 k m.0, (k.of_variables step.1 m.1.0, path_typed steps m.1.1))

  clock_typed : (clock : Option (List (Cons × List ℕ))) → ClockIsNamed n clock → ClockHasTypes s clock
  clock_typed None m = tt
  clock_typed (Some path) m = path_typed path m

  pub decls_typed : (ds : List Decl) → DeclsAreNamed n ds → DeclsHaveTypes s ds
  decls_typed [] m = tt
  decls_typed (d ∷ ds) m = ((type_known d.ty m.0.0, (first_typed d.last m.0.1.0, clock_typed d.clock m.0.1.1)), decls_typed ds m.1)

  left_typed : (xs : List (List ℕ × Span)) → LeftIsNamed n xs → LeftHasTypes s xs
  left_typed [] m = tt
  left_typed (x ∷ xs) m = (k.of_variables x.0 m.0, left_typed xs m.1)

  row_typed : (xs : List (List ℕ × Span)) (o : Option (List Decl)) → IsSome o → RowFits s xs o → IsSomeAnd o (λ ds. length xs ≡ length ds)
  row_typed xs None h r = absurd cc
  row_typed xs (Some ds) h r = r.0

  right_typed : (xs : List (List ℕ × Span)) (e : Expr) → ExprIsNamed n e → RightIsTyped s xs e → ExprIsFull e → RightHasTypes s xs e
  right_typed xs (constant at c) m t f = expr_typed s n k (constant at c) m t.0 f
  right_typed xs (variable at x) m t f = expr_typed s n k (variable at x) m t.0 f
  right_typed xs (last_of at x) m t f = expr_typed s n k (last_of at x) m t.0 f
  right_typed xs (one at op a) m t f = expr_typed s n k (one at op a) m t.0 f
  right_typed xs (two at op a b) m t f = expr_typed s n k (two at op a b) m t.0 f
  right_typed xs (choose at a b c) m t f = expr_typed s n k (choose at a b c) m t.0 f
  right_typed xs (pre at a) m t f = expr_typed s n k (pre at a) m t.0 f
  right_typed xs (fby at a b) m t f = expr_typed s n k (fby at a b) m t.0 f
  right_typed xs (arrow at a b) m t f = expr_typed s n k (arrow at a b) m t.0 f
  right_typed xs (when_is at a c x) m t f = expr_typed s n k (when_is at a c x) m t.0 f
  right_typed xs (merge at x ps) m t f = expr_typed s n k (merge at x ps) m t.0 f
  right_typed xs (call at f inlined es) m t p =
      let h = exprs_typed s n k es m.1 t.0.0 p in
      (h, row_typed xs (outputs_in (lookup s.nodes f) (types_in s es)) (outputs_some s (lookup s.nodes f) es (k.of_nodes f m.0) h t.0.1) t.1)

  transitions_typed : (states : List (List ℕ)) (ts : List Trans) → TransitionsAreNamed n states ts → TransitionsAreTyped s ts → TransitionsAreFull ts → TransitionsHaveTypes s ts
  transitions_typed states [] m t f = tt
  transitions_typed states (x ∷ xs) m t f = (expr_typed s n k x.cond m.0 t.0.0 f.0, transitions_typed states xs m.1.1 t.1 f.1)

-- ---- blocks

mutual
  pub block_typed : (s : Scope) (n : NameScope) → Covers s n → (b : Block) → BlockIsNamed n b → BlockIsTyped s b → BlockIsFull b → BlockHasTypes s b
  block_typed s n k (block ds es) m t f =
      let i = covers_variables s n ds k in
      (decls_typed (with_variables s ds) (names.with_variables n ds) i ds m.0.1, eqns_typed (with_variables s ds) (names.with_variables n ds) i es m.1 t.1 f)

  eqns_typed : (s : Scope) (n : NameScope) → Covers s n → (es : Eqns) → EqnsAreNamed n es → EqnsAreTyped s es → EqnsAreFull es → EqnsHaveTypes s es
  eqns_typed s n k no_eqn m t f = tt
  eqns_typed s n k (more_eqns e es) m t f = (eqn_typed s n k e m.0 t.0 f.0, eqns_typed s n k es m.1 t.1 f.1)

  eqn_typed : (s : Scope) (n : NameScope) → Covers s n → (e : Eqn) → EqnIsNamed n e → EqnIsTyped s e → EqnIsFull e → EqnHasTypes s e
  eqn_typed s n k (define at xs e) m t f = (left_typed s n k xs m.0, right_typed s n k xs e m.1 t f)
  eqn_typed s n k (switch at e arms) m t f = (expr_typed s n k e m.0 t.0 f.0, arms_typed s n k (type_of s e) arms m.1 t.1.1 f.1)
  eqn_typed s n k (reset at b e) m t f = (block_typed s n k b m.0 t.0 f.0, expr_typed s n k e m.1 t.1.0 f.1)
  eqn_typed s n k (automaton at qs) m t f = states_typed s n k _ qs m.1 t f

  arms_typed : (s : Scope) (n : NameScope) → Covers s n → (cond : Option Ty) (arms : Arms) → ArmsAreNamed n arms → ArmsAreTyped s cond arms → ArmsAreFull arms → ArmsHaveTypes s arms
  arms_typed s n k cond no_arm m t f = tt
  arms_typed s n k cond (more_arms c b at arms) m t f =
      (cons_typed s n c k m.0, (block_typed s n k b m.1.0 t.1.0 f.0, arms_typed s n k cond arms m.1.1 t.1.1 f.1))

  states_typed : (s : Scope) (n : NameScope) → Covers s n → (states : List (List ℕ)) (qs : States) → StatesAreNamed n states qs → StatesAreTyped s qs → StatesAreFull qs → StatesHaveTypes s qs
  states_typed s n k states no_state m t f = tt
  states_typed s n k states (more_states x b until unless at qs) m t f = (
    block_typed s n k b m.0 t.0 f.0,
    (
      transitions_typed (inside s b) (names.inside n b) (covers_inside s n b k) states until m.1.0 t.1.0 f.1.0,
      (transitions_typed s n k states unless m.1.1.0 t.1.1.0 f.1.1.0, states_typed s n k states qs m.1.1.1 t.1.1.1 f.1.1.1),
    ),
  )
