-- Where first values are given, a call is given those of its node.
use Rattle.std.proofs.Common.{◌≡◌, ℕ, List, ◌∷◌, ◌∙◌}
use Rattle.std.specs.Prelude.{IsTrue}
use Rattle.hp_base.specs.declared.value.Value.{Value}
use Rattle.hp_tree.specs.declared.program.Item.{Item}
use Rattle.hp_tree.specs.Expressions.{Expr, constant, variable, last_of, one, two, choose, pre, fby, arrow, when_is, merge, call, Exprs, no_expr, more_exprs, Parts, no_part, more_parts}
use Rattle.hp_tree.specs.Blocks.{Block, block, Eqns, no_eqn, more_eqns, Eqn, define, switch, reset, automaton, Arms, no_arm, more_arms}
use Rattle.hp_tree.specs.Instant.{Body, Equations, Head, Tail, Right as RightOf, Test, Arms as ArmsOf, First, Second, Third, Args, Instance, Place, Instant, in_row}
use Rattle.hp_typing.specs.Scopes.{with_variables}
use Rattle.law_judged.specs.Typed.Scopes.{Scope}
use Rattle.law_equations.specs.Flattened.Flatten.{Prefix, below}
use Rattle.law_equations.specs.Flattened.Lifted.{uncontrolled}
use Rattle.law_equations.specs.Flattened.Behaves.{EachCall, EachCallOfAll, EachCallOfParts, EachCallIn, EachCallInAll, EachCallInOne, EachCallInArms}
use Rattle.law_equations.specs.Made.Making.{Known}
use Rattle.law_equations.specs.Answered.Answering.{has_node, IsCalled}
use Rattle.law_wellmade.specs.Begun.Firsts.{expr_firsts, exprs_firsts, parts_firsts, block_firsts, eqns_firsts, eqn_firsts, arms_firsts}

-- no place of a part is one of a controllable variable, unless it is within the part
abbrev Stays : Prefix → Type 0
Stays here = (p : Place) → IsTrue (uncontrolled p) → IsTrue (uncontrolled (here p))

module _ (k : Known) (callee : List ℕ → Instant) (fill : Place → Value) (earlier : List Item) (fills : List ℕ → Place → Value)
    (given_to : (f : List ℕ) → IsTrue (has_node earlier f) → (p : Place) → callee f p ≡ fills f p) where
  abbrev IsThere : List ℕ → Prefix → Type 0
  IsThere f here = IsTrue (has_node earlier f)

  -- what is given at the places of a part are these values
  abbrev Gives : Prefix → Instant → Type 0
  Gives here i = (p : Place) → fill (here p) ≡ i p

  mutual
    in_expr : (e : Expr) (names : Scope) (here : Prefix) → Gives here (expr_firsts k callee names e) → Stays here → EachCall IsThere e here → EachCall (IsCalled earlier fills fill) e here
    in_expr (constant s c) names here g u h = tt
    in_expr (variable s x) names here g u h = tt
    in_expr (last_of s x) names here g u h = tt
    in_expr (one s o a) names here g u h = in_expr a names (below First here) (λ p. g (First ∷ p)) (λ p. u (First ∷ p)) h
    in_expr (two s o a b) names here g u h = (in_expr a names (below First here) (λ p. g (First ∷ p)) (λ p. u (First ∷ p)) h.0, in_expr b names (below Second here) (λ p. g (Second ∷ p)) (λ p. u (Second ∷ p)) h.1)
    in_expr (choose s a b c) names here g u h =
        (in_expr a names (below First here) (λ p. g (First ∷ p)) (λ p. u (First ∷ p)) h.0, in_expr b names (below Second here) (λ p. g (Second ∷ p)) (λ p. u (Second ∷ p)) h.1, in_expr c names (below Third here) (λ p. g (Third ∷ p)) (λ p. u (Third ∷ p)) h.2)
    in_expr (pre s a) names here g u h = in_expr a names (below First here) (λ p. g (First ∷ p)) (λ p. u (First ∷ p)) h
    in_expr (fby s a b) names here g u h = (in_expr a names (below First here) (λ p. g (First ∷ p)) (λ p. u (First ∷ p)) h.0, in_expr b names (below Second here) (λ p. g (Second ∷ p)) (λ p. u (Second ∷ p)) h.1)
    in_expr (arrow s a b) names here g u h = (in_expr a names (below First here) (λ p. g (First ∷ p)) (λ p. u (First ∷ p)) h.0, in_expr b names (below Second here) (λ p. g (Second ∷ p)) (λ p. u (Second ∷ p)) h.1)
    in_expr (when_is s a c x) names here g u h = in_expr a names (below First here) (λ p. g (First ∷ p)) (λ p. u (First ∷ p)) h
    in_expr (merge s x ps) names here g u h = in_parts ps names (below Args here) (λ p. g (Args ∷ p)) (λ p. u (Args ∷ p)) h
    in_expr (call s f inlined es) names here g u h =
        (record { declared = h.0; given_there = λ p w. (u (Instance ∷ p) w, g (Instance ∷ p) ∙ given_to f h.0 p) }, in_all es names (below Args here) (λ p. g (Args ∷ p)) (λ p. u (Args ∷ p)) h.1)

    in_all : (es : Exprs) (names : Scope) (here : Prefix) → Gives here (in_row (exprs_firsts k callee names es)) → Stays here → EachCallOfAll IsThere es here → EachCallOfAll (IsCalled earlier fills fill) es here
    in_all no_expr names here g u h = tt
    in_all (more_exprs e es) names here g u h = (in_expr e names (below Head here) (λ p. g (Head ∷ p)) (λ p. u (Head ∷ p)) h.0, in_all es names (below Tail here) (λ p. g (Tail ∷ p)) (λ p. u (Tail ∷ p)) h.1)

    in_parts : (ps : Parts) (names : Scope) (here : Prefix) → Gives here (in_row (parts_firsts k callee names ps)) → Stays here → EachCallOfParts IsThere ps here → EachCallOfParts (IsCalled earlier fills fill) ps here
    in_parts no_part names here g u h = tt
    in_parts (more_parts c e ps) names here g u h = (in_expr e names (below Head here) (λ p. g (Head ∷ p)) (λ p. u (Head ∷ p)) h.0, in_parts ps names (below Tail here) (λ p. g (Tail ∷ p)) (λ p. u (Tail ∷ p)) h.1)

  mutual
    pub in_scope : (b : Block) (names : Scope) (here : Prefix) → Gives here (block_firsts k callee names b) → Stays here → EachCallIn IsThere b here → EachCallIn (IsCalled earlier fills fill) b here
    in_scope (block ds es) names here g u h = in_eqns es (with_variables names ds) (below Equations here) (λ p. g (Equations ∷ p)) (λ p. u (Equations ∷ p)) h

    in_eqns : (es : Eqns) (names : Scope) (here : Prefix) → Gives here (eqns_firsts k callee names es) → Stays here → EachCallInAll IsThere es here → EachCallInAll (IsCalled earlier fills fill) es here
    in_eqns no_eqn names here g u h = tt
    in_eqns (more_eqns e es) names here g u h = (in_eqn e names (below Head here) (λ p. g (Head ∷ p)) (λ p. u (Head ∷ p)) h.0, in_eqns es names (below Tail here) (λ p. g (Tail ∷ p)) (λ p. u (Tail ∷ p)) h.1)

    in_eqn : (e : Eqn) (names : Scope) (here : Prefix) → Gives here (eqn_firsts k callee names e) → Stays here → EachCallInOne IsThere e here → EachCallInOne (IsCalled earlier fills fill) e here
    in_eqn (define s ys e) names here g u h = in_expr e names (below RightOf here) (λ p. g (RightOf ∷ p)) (λ p. u (RightOf ∷ p)) h
    in_eqn (switch s e arms) names here g u h = (in_expr e names (below Test here) (λ p. g (Test ∷ p)) (λ p. u (Test ∷ p)) h.0, in_arms arms names (below ArmsOf here) (λ p. g (ArmsOf ∷ p)) (λ p. u (ArmsOf ∷ p)) h.1)
    in_eqn (reset s b e) names here g u h = (in_expr e names (below Test here) (λ p. g (Test ∷ p)) (λ p. u (Test ∷ p)) h.0, in_scope b names (below Body here) (λ p. g (Body ∷ p)) (λ p. u (Body ∷ p)) h.1)
    in_eqn (automaton s ss) names here g u h = tt

    in_arms : (arms : Arms) (names : Scope) (here : Prefix) → Gives here (arms_firsts k callee names arms) → Stays here → EachCallInArms IsThere arms here → EachCallInArms (IsCalled earlier fills fill) arms here
    in_arms no_arm names here g u h = tt
    in_arms (more_arms c b s arms) names here g u h = (in_scope b names (below Head here) (λ p. g (Head ∷ p)) (λ p. u (Head ∷ p)) h.0, in_arms arms names (below Tail here) (λ p. g (Tail ∷ p)) (λ p. u (Tail ∷ p)) h.1)
