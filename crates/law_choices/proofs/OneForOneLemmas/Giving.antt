-- Whatever is given to a program, the same can be given to the program without its automata: each part gets it where it stands then.
use Rattle.std.proofs.Common.{◌≡◌, ℕ, Bool, true, false, List, [], ◌∷◌, reverse, refl, sym, subst}
use Rattle.std.specs.Prelude.{Option, None, Some}
use Rattle.std.specs.Str.{bytes_eq}
use Rattle.hp_base.specs.declared.value.Value.{Value}
use Rattle.hp_base.specs.declared.value.Value.TheVariants.{Nil}
use Rattle.hp_tree.specs.declared.block.Trans.{Trans}
use Rattle.hp_tree.specs.declared.program.Item.{Item}
use Rattle.hp_tree.specs.declared.program.Item.TheVariants.{TypeItem, NodeItem}
use Rattle.hp_tree.specs.Expressions.{Expr, constant, variable, last_of, one, two, choose, pre, fby, arrow, when_is, merge, call, Exprs, no_expr, more_exprs, Parts, no_part, more_parts}
use Rattle.hp_tree.specs.Blocks.{Block, block, Eqns, no_eqn, more_eqns, Eqn, define, switch, reset, automaton, Arms, no_arm, more_arms, States, no_state, more_states}
use Rattle.hp_tree.specs.Programs.{Contract, Node}
use Rattle.hp_tree.specs.Instant.{Controls, Body, Observer, Assume, Enforce, Equations, Head, Tail, Right, Test, Arms as ArmsOf, States as StatesOf, First, Second, Third, Args, Instance, Instant, part, top}
use Rattle.hp_tree.specs.Meaning.{controls_of}
use Rattle.hp_tree.specs.Reaction.{row_of}
use Rattle.hp_tables.specs.Defining.Names.{names_of_states}
use Rattle.hp_automata.specs.Names.{once}
use Rattle.law_automata.specs.Lowered.Standing.{Relation, behind, arm_in, body_in, either_is}
use Rattle.law_automata.specs.Lowered.Giving.{ExprGiven, ExprsGiven, PartsGiven, BlockGiven, EqnsGiven, EqnGiven, ArmsGiven, StatesGiven, BodyGiven, ConditionGiven, ContractGiven, NodeGiven, given_among}
use Rattle.law_choices.specs.OneForOne.Always.{AlwaysLaw}

-- something is related to each instant
abbrev Always : Relation → Type 0
Always R = (i : Instant) → (j : Instant) × R i j

-- ---- instants put together

abbrev nothing : Instant
nothing p = Nil

abbrev at_first : Value → Instant → Instant
at_first v a [] = v
at_first v a (First ∷ p) = a p
at_first v a p = Nil

abbrev at_second : Instant → Instant → Instant
at_second a b (First ∷ p) = a p
at_second a b (Second ∷ p) = b p
at_second a b p = Nil

abbrev at_third : Instant → Instant → Instant → Instant
at_third a b c (First ∷ p) = a p
at_third a b c (Second ∷ p) = b p
at_third a b c (Third ∷ p) = c p
at_third a b c p = Nil

abbrev at_args : Instant → Instant → Instant
at_args a b (Args ∷ p) = a p
at_args a b (Instance ∷ p) = b p
at_args a b p = Nil

abbrev in_row : Instant → Instant → Instant
in_row a b (Head ∷ p) = a p
in_row a b (Tail ∷ p) = b p
in_row a b p = Nil

abbrev at_equations : Instant → Instant
at_equations a (Equations ∷ p) = a p
at_equations a p = Nil

abbrev at_right : Instant → Instant
at_right a (Right ∷ p) = a p
at_right a p = Nil

abbrev at_arms : Instant → Instant → Instant
at_arms a b (Test ∷ p) = a p
at_arms a b (ArmsOf ∷ p) = b p
at_arms a b p = Nil

abbrev at_body : Instant → Instant → Instant
at_body a b (Test ∷ p) = a p
at_body a b (Body ∷ p) = b p
at_body a b p = Nil

-- behind so many in a row
abbrev moved : {A : Type 0} → List A → Instant → Instant
moved [] a = a
moved (x ∷ xs) a = in_row nothing (moved xs a)

moved_back : {A : Type 0} (xs : List A) (a : Instant) → behind xs (moved xs a) ≡ a
moved_back [] a = refl
moved_back (x ∷ xs) a = moved_back xs a

module _ (u : Value → Value) (callee : List ℕ → Relation) (known : (f : List ℕ) → Always (callee f)) where
  mutual
    expr_given : (e : Expr) → Always (ExprGiven u callee e)
    expr_given (constant s c) i = (nothing, tt)
    expr_given (variable s x) i = (nothing, tt)
    expr_given (last_of s x) i = (nothing, tt)
    expr_given (one s o a) i = let r = expr_given a (part First i) in (at_first Nil r.0, r.1)
    expr_given (two s o a b) i = let r = expr_given a (part First i) in let q = expr_given b (part Second i) in (at_second r.0 q.0, (r.1, q.1))
    expr_given (choose s a b c) i =
        let r = expr_given a (part First i) in
        let q = expr_given b (part Second i) in
        let t = expr_given c (part Third i) in
        (at_third r.0 q.0 t.0, (r.1, q.1, t.1))
    expr_given (pre s a) i = let r = expr_given a (part First i) in (at_first (top i) r.0, (refl, r.1))
    expr_given (fby s a b) i = let r = expr_given a (part First i) in let q = expr_given b (part Second i) in (at_second r.0 q.0, (r.1, q.1))
    expr_given (arrow s a b) i = let r = expr_given a (part First i) in let q = expr_given b (part Second i) in (at_second r.0 q.0, (r.1, q.1))
    expr_given (when_is s a c x) i = let r = expr_given a (part First i) in (at_first Nil r.0, r.1)
    expr_given (merge s x ps) i = let r = parts_given ps (part Args i) in (at_args r.0 nothing, r.1)
    expr_given (call s f inlined es) i = let r = exprs_given es (part Args i) in let q = known f (part Instance i) in (at_args r.0 q.0, (r.1, q.1))

    exprs_given : (es : Exprs) → Always (ExprsGiven u callee es)
    exprs_given no_expr i = (nothing, tt)
    exprs_given (more_exprs e es) i = let r = expr_given e (part Head i) in let q = exprs_given es (part Tail i) in (in_row r.0 q.0, (r.1, q.1))

    parts_given : (ps : Parts) → Always (PartsGiven u callee ps)
    parts_given no_part i = (nothing, tt)
    parts_given (more_parts c e ps) i = let r = expr_given e (part Head i) in let q = parts_given ps (part Tail i) in (in_row r.0 q.0, (r.1, q.1))

  -- the body of a state in its arm, behind its strong transitions, and the states behind it
  abbrev in_arm : Instant → Instant
  in_arm a = at_arms nothing (in_row (at_equations (in_row (at_body nothing a) nothing)) nothing)

  abbrev of_state : Instant → Instant → Instant
  of_state a later = in_row nothing (in_row nothing (in_row (in_arm a) later))

  mutual
    block_given : (b : Block) → Always (BlockGiven u callee b)
    block_given (block ds es) i = let r = eqns_given es (part Equations i) in (at_equations r.0, r.1)

    eqns_given : (es : Eqns) → Always (EqnsGiven u callee es)
    eqns_given no_eqn i = (nothing, tt)
    eqns_given (more_eqns e es) i = let r = eqn_given e (part Head i) in let q = eqns_given es (part Tail i) in (in_row r.0 q.0, (r.1, q.1))

    eqn_given : (e : Eqn) → Always (EqnGiven u callee e)
    eqn_given (define s ys e) i = let r = expr_given e (part Right i) in (at_right r.0, r.1)
    eqn_given (switch s e arms) i = let r = expr_given e (part Test i) in let q = arms_given arms (part ArmsOf i) in (at_arms r.0 q.0, (r.1, q.1))
    eqn_given (reset s b e) i = let r = expr_given e (part Test i) in let q = block_given b (part Body i) in (at_body r.0 q.0, (r.1, q.1))
    eqn_given (automaton s ss) i =
        let r = states_given ss (part StatesOf i) in
        let names = once (names_of_states ss) in (
          at_body nothing (at_equations (in_row nothing (in_row nothing (moved names r.0)))),
          subst (λ (j : Instant). StatesGiven u callee ss (part StatesOf i) j) (sym (moved_back names r.0)) r.1,
        )

    arms_given : (arms : Arms) → Always (ArmsGiven u callee arms)
    arms_given no_arm i = (nothing, tt)
    arms_given (more_arms c b s arms) i = let r = block_given b (part Head i) in let q = arms_given arms (part Tail i) in (in_row r.0 q.0, (r.1, q.1))

    states_given : (ss : States) → Always (StatesGiven u callee ss)
    states_given no_state i = (nothing, tt)
    states_given (more_states f b until unless s ss) i =
        let r = body_given until b (part Body (part Head i)) in
        let q = states_given ss (part Tail i) in (
          moved unless (of_state r.0 q.0),
          (
            subst (λ (j : Instant). BodyGiven u callee until b (part Body (part Head i)) (body_in (arm_in (part Head (part Tail (part Tail j)))))) (sym (moved_back unless (of_state r.0 q.0))) r.1,
            subst (λ (j : Instant). StatesGiven u callee ss (part Tail i) (part Tail (part Tail (part Tail j)))) (sym (moved_back unless (of_state r.0 q.0))) q.1,
          ),
        )

    body_given : (until : List Trans) (b : Block) → Always (BodyGiven u callee until b)
    body_given until (block ds es) i =
        let r = eqns_given es (part Equations i) in (
          at_equations (moved until (in_row nothing r.0)),
          subst (λ (j : Instant). EqnsGiven u callee es (part Equations i) (part Tail j)) (sym (moved_back until (in_row nothing r.0))) r.1,
        )

  condition_given : (o : Option Expr) → Always (ConditionGiven u callee o)
  condition_given None i = (nothing, tt)
  condition_given (Some e) i = expr_given e i

  -- ---- nodes

  abbrev in_node : Instant → Instant → Instant → Instant → Instant → Instant
  in_node controls body observer assume enforce (Controls ∷ p) = controls p
  in_node controls body observer assume enforce (Body ∷ p) = body p
  in_node controls body observer assume enforce (Observer ∷ p) = observer p
  in_node controls body observer assume enforce (Assume ∷ p) = assume p
  in_node controls body observer assume enforce (Enforce ∷ p) = enforce p
  in_node controls body observer assume enforce p = Nil

  node_given : (n : Node) → Always (NodeGiven u callee n)
  node_given n i = by n.contract
    where
      body : (j : Instant) × BlockGiven u callee n.body (part Body i) j
      body = block_given n.body (part Body i)

      by : (o : Option Contract) → (j : Instant) × ((row_of (controls_of n.contract) (part Controls i) ≡ row_of (controls_of n.contract) (part Controls j)) × BlockGiven u callee n.body (part Body i) (part Body j) × ContractGiven u callee o i j)
      by None = (in_node (part Controls i) body.0 nothing nothing nothing, (refl, body.1, tt))
      by (Some c) =
          let g = block_given c.body (part Observer i) in
          let a = condition_given c.assume (part Assume i) in
          let e = condition_given c.enforce (part Enforce i) in
          (in_node (part Controls i) body.0 g.0 a.0 e.0, (refl, body.1, (g.1, a.1, e.1)))

either_given : (b : Bool) (P Q : Instant → Instant → Type 0) → Always P → Always Q → Always (λ i j. either_is b (P i j) (Q i j))
either_given true P Q p q = p
either_given false P Q p q = q

pub among_given : (u : Value → Value) (items : List Item) (f : List ℕ) → Always (given_among u items f)
among_given u [] f i = (nothing, tt)
among_given u (TypeItem t ∷ earlier) f i = among_given u earlier f i
among_given u (NodeItem n ∷ earlier) f i =
    either_given (bytes_eq n.name f) (NodeGiven u (given_among u earlier) n) (given_among u earlier f) (node_given u (given_among u earlier) (λ g. among_given u earlier g) n) (among_given u earlier f) i

pub always_law : AlwaysLaw
always_law u program f [] = ([], tt)
always_law u program f (i ∷ frees) =
    let now = among_given u (reverse program) f i in
    let rest = always_law u program f frees in
    (now.0 ∷ rest.0, (now.1, rest.1))
