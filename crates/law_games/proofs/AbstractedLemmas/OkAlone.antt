-- A contract that makes no call is as right where no node is known.
use Rattle.std.proofs.Common.{ℕ, List, [], ◌∷◌}
use Rattle.std.specs.Prelude.{false, Option, None, Some}
use Rattle.hp_tree.specs.declared.block.Trans.{Trans}
use Rattle.hp_base.specs.declared.span.Span.{Span}
use Rattle.hp_tree.specs.Expressions.{Expr, constant, variable, last_of, one, two, choose, pre, fby, arrow, when_is, merge, call, Parts, no_part, more_parts}
use Rattle.hp_tree.specs.Blocks.{Decl, Block, block, Eqns, no_eqn, more_eqns, Eqn, define, switch, reset, automaton, Arms, no_arm, more_arms, States, no_state, more_states}
use Rattle.hp_tree.specs.Programs.{TypeDecl, Contract, Node}
use Rattle.hp_tree.specs.Instant.{Observer, Equations, Head, Tail, Arms as ArmsOf, States as StatesOf, Body}
use Rattle.hp_typing.specs.Scopes.{with_variables, inside}
use Rattle.law_judged.specs.Typed.Scopes.{Scope}
use Rattle.hp_init.specs.Classes.{Classes, Assignment}
use Rattle.law_values.specs.Valued.Judged.{Lasts, lasts_in, lasts_of}
use Rattle.law_values.specs.Valued.Classed.{classes_in, classes_within, classes_of, none_second}
use Rattle.law_values.proofs.ValuedLemmas.Both.{ExprOk, PartsOk, RightOk, TestsOk, DeclsOk, BlockOk, EqnsOk, EqnOk, ArmsOk, StatesOk, ToldOk, ContractOk}
use Rattle.law_games.proofs.SettledLemmas.Calling.{ExprCalls, PartsCall, TestsCall, BlockCalls, EqnsCall, EqnCalls, ArmsCall, StatesCall, ToldCalls, ContractCalls}

abbrev pub no_node : List ℕ → Option Node
no_node f = None

module _ (types : List TypeDecl) (among : List ℕ → Option Node) where
  module _ (s : Scope) (second : Classes) (lasts : Lasts) where
    mutual
      expr_alone : (e : Expr) → ExprCalls false e → ExprOk types among s second lasts e → ExprOk types no_node s second lasts e
      expr_alone (constant at c) k h = h
      expr_alone (variable at x) k h = tt
      expr_alone (last_of at x) k h = h
      expr_alone (one at o a) k h = expr_alone a k h
      expr_alone (two at o a b) k h = (expr_alone a k.0 h.0, expr_alone b k.1 h.1)
      expr_alone (choose at a b c) k h = (expr_alone a k.0 h.0, (expr_alone b k.1.0 h.1.0, expr_alone c k.1.1 h.1.1))
      expr_alone (pre at a) k h = (h.0, expr_alone a k h.1)
      expr_alone (fby at a b) k h = (h.0, (expr_alone a k.0 h.1.0, expr_alone b k.1 h.1.1))
      expr_alone (arrow at a b) k h = (expr_alone a k.0 h.0, expr_alone b k.1 h.1)
      expr_alone (when_is at a c x) k h = (h.0, expr_alone a k h.1)
      expr_alone (merge at x ps) k h = (h.0, (h.1.0, parts_alone ps k h.1.1))
      expr_alone (call at f i es) k h = absurd (cc)

      parts_alone : (ps : Parts) → PartsCall false ps → PartsOk types among s second lasts ps → PartsOk types no_node s second lasts ps
      parts_alone no_part k h = tt
      parts_alone (more_parts c e ps) k h = (h.0, (expr_alone e k.0 h.1.0, parts_alone ps k.1 h.1.1))

    right_alone : (ys : List (List ℕ × Span)) (e : Expr) → ExprCalls false e → RightOk types among s second lasts ys e → RightOk types no_node s second lasts ys e
    right_alone ys (constant at c) k h = h
    right_alone ys (variable at x) k h = h
    right_alone ys (last_of at x) k h = h
    right_alone ys (one at o a) k h = (expr_alone (one at o a) k h.0, h.1)
    right_alone ys (two at o a b) k h = (expr_alone (two at o a b) k h.0, h.1)
    right_alone ys (choose at a b c) k h = (expr_alone (choose at a b c) k h.0, h.1)
    right_alone ys (pre at a) k h = (expr_alone (pre at a) k h.0, h.1)
    right_alone ys (fby at a b) k h = (expr_alone (fby at a b) k h.0, h.1)
    right_alone ys (arrow at a b) k h = (expr_alone (arrow at a b) k h.0, h.1)
    right_alone ys (when_is at a c x) k h = (expr_alone (when_is at a c x) k h.0, h.1)
    right_alone ys (merge at x ps) k h = (expr_alone (merge at x ps) k h.0, h.1)
    right_alone ys (call at f i es) k h = absurd (cc)

    tests_alone : (ts : List Trans) → TestsCall false ts → TestsOk types among s second lasts ts → TestsOk types no_node s second lasts ts
    tests_alone [] k h = tt
    tests_alone (t ∷ ts) k h = ((expr_alone t.cond k.0 h.0.0, h.0.1), tests_alone ts k.1 h.1)

  decls_alone : (s : Scope) (second : Classes) (es : Eqns) (ds : List Decl) → DeclsOk types among s second es ds → DeclsOk types no_node s second es ds
  decls_alone s second es [] h = tt
  decls_alone s second es (d ∷ ds) h = (h.0, decls_alone s second es ds h.1)

  mutual
    block_alone : (b : Block) (s : Scope) (second : Classes) (lasts : Lasts) (class : Assignment) → BlockCalls false b → BlockOk types among s second lasts class b → BlockOk types no_node s second lasts class b
    block_alone (block ds es) s second lasts class k h =
        (decls_alone (with_variables s ds) (classes_in es second class) es ds h.0, (h.1.0, eqns_alone es (with_variables s ds) (classes_in es second class) (lasts_in ds lasts) (λ p. class (Equations ∷ p)) k h.1.1))

    eqns_alone : (es : Eqns) (s : Scope) (second : Classes) (lasts : Lasts) (class : Assignment) → EqnsCall false es → EqnsOk types among s second lasts class es → EqnsOk types no_node s second lasts class es
    eqns_alone no_eqn s second lasts class k h = tt
    eqns_alone (more_eqns e es) s second lasts class k h = (eqn_alone e s second lasts (λ p. class (Head ∷ p)) k.0 h.0, eqns_alone es s second lasts (λ p. class (Tail ∷ p)) k.1 h.1)

    eqn_alone : (e : Eqn) (s : Scope) (second : Classes) (lasts : Lasts) (class : Assignment) → EqnCalls false e → EqnOk types among s second lasts class e → EqnOk types no_node s second lasts class e
    eqn_alone (define at ys e) s second lasts class k h = right_alone s second lasts ys e k h
    eqn_alone (switch at e arms) s second lasts class k h =
        (expr_alone s second lasts e k.0 h.0, (h.1.0, (h.1.1.0, arms_alone arms (switch at e arms) s (classes_within (switch at e arms) second) lasts (λ p. class (ArmsOf ∷ p)) k.1 h.1.1.1)))
    eqn_alone (reset at b e) s second lasts class k h =
        ((expr_alone s second lasts e k.0 h.0.0, h.0.1), block_alone b s (classes_within (reset at b e) second) lasts (λ p. class (Body ∷ p)) k.1 h.1)
    eqn_alone (automaton at ss) s second lasts class k h =
        states_alone ss (automaton at ss) s second (classes_within (automaton at ss) second) lasts (λ p. class (StatesOf ∷ p)) k h

    arms_alone : (arms : Arms) (e : Eqn) (s : Scope) (second : Classes) (lasts : Lasts) (class : Assignment) → ArmsCall false arms → ArmsOk types among e s second lasts class arms → ArmsOk types no_node e s second lasts class arms
    arms_alone no_arm e s second lasts class k h = tt
    arms_alone (more_arms c b at arms) e s second lasts class k h =
        (h.0, (block_alone b s second lasts (λ p. class (Head ∷ p)) k.0 h.1.0, arms_alone arms e s second lasts (λ p. class (Tail ∷ p)) k.1 h.1.1))

    states_alone : (ss : States) (e : Eqn) (s : Scope) (out second : Classes) (lasts : Lasts) (class : Assignment) → StatesCall false ss → StatesOk types among e s out second lasts class ss → StatesOk types no_node e s out second lasts class ss
    states_alone no_state e s out second lasts class k h = tt
    states_alone (more_states f b until unless at ss) e s out second lasts class k h = (
      h.0,
      (
        block_alone b s second lasts (λ p. class (Head ∷ Body ∷ p)) k.0 h.1.0,
        (
          tests_alone (inside s b) (classes_of b second (λ p. class (Head ∷ Body ∷ p))) (lasts_of b lasts) until k.1.0 h.1.1.0,
          (tests_alone s out lasts unless k.1.1.0 h.1.1.1.0, states_alone ss e s out second lasts (λ p. class (Tail ∷ p)) k.1.1.1 h.1.1.1.1),
        ),
      ),
    )

  told_alone : (o : Option Expr) (s : Scope) (second : Classes) (lasts : Lasts) → ToldCalls false o → ToldOk types among s second lasts o → ToldOk types no_node s second lasts o
  told_alone None s second lasts k h = tt
  told_alone (Some e) s second lasts k h = (expr_alone s second lasts e k h.0, h.1)

  pub contract_alone_ok : (o : Option Contract) (s : Scope) (lasts : Lasts) (class : Assignment) → ContractCalls false o → ContractOk types among s lasts class o → ContractOk types no_node s lasts class o
  contract_alone_ok None s lasts class k h = tt
  contract_alone_ok (Some c) s lasts class k h = (
    block_alone c.body s none_second lasts (λ p. class (Observer ∷ p)) k.0 h.0,
    (
      told_alone c.assume (inside s c.body) (classes_of c.body none_second (λ p. class (Observer ∷ p))) (lasts_of c.body lasts) k.1.0 h.1.0,
      told_alone c.enforce (inside s c.body) (classes_of c.body none_second (λ p. class (Observer ∷ p))) (lasts_of c.body lasts) k.1.1 h.1.1,
    ),
  )
