-- What the nodes of a program do, as functions of the arguments so far.
use Rattle.std.specs.Prelude.{◌≡◌, ⊤, ℕ, false, List, [], ◌∷◌, map}
use Rattle.hp_base.specs.declared.value.Value.{Value}
use Rattle.hp_base.specs.declared.value.Value.TheVariants.{B}
use Rattle.hp_tree.specs.Expressions.{Expr, constant, variable, last_of, one, two, choose, pre, fby, arrow, when_is, merge, call, Exprs, no_expr, more_exprs, Parts, no_part, more_parts}
use Rattle.hp_tree.specs.Blocks.{Block, block, Eqns, no_eqn, more_eqns, Eqn, define, switch, reset, automaton, Arms, no_arm, more_arms}
use Rattle.hp_tree.specs.Instant.{Named, Fresh, Equations, Head, Tail, Right as RightOf, Test, Arms as ArmsOf, Body, First, Second, Third, Args, Instance, Instant, Past, Given}
use Rattle.hp_tree.specs.Meaning.{Nodes}
use Rattle.law_equations.specs.Flattened.Flat.{Behaviours}
use Rattle.law_equations.specs.Flattened.Flatten.{Prefix, below}
use Rattle.law_equations.specs.Flattened.Lifted.{Reacts}

abbrev pub OutputsAre : List (List ℕ) → Past → List Value → Type 0
OutputsAre os [] vs = ⊤
OutputsAre os (now ∷ past) vs = map (λ o. now (Named o ∷ [])) os ≡ vs

-- each of some instants has a property
abbrev pub AllAre : (Instant → Type 0) → List Instant → Type 0
AllAre P [] = ⊤
AllAre P (i ∷ is) = P i × AllAre P is

-- An instance never begins anew by itself, and its outputs are one function of the inputs so far, whatever is given among what is allowed.
abbrev pub Behaves : Nodes → Behaviours → (Instant → Type 0) → List ℕ → Type 0
Behaves N does ok f =
    ((inputs : List Value) (g : Given) (now : Instant) → N.instant f inputs g now (Fresh ∷ []) ≡ B false)
    × ((inputs : List (List Value)) (frees : List Instant) (past : Past) → AllAre ok frees → Reacts (N.instant f) inputs frees past → OutputsAre (N.outputs f) past (does f inputs))

-- A call at a place: its node behaves, and gets what is allowed wherever the caller does.
abbrev pub IsFine : Nodes → Behaviours → (List ℕ → Instant → Type 0) → (Instant → Type 0) → List ℕ → Prefix → Type 0
IsFine N does ok mine f here = Behaves N does (ok f) f × ((free : Instant) → mine free → ok f (λ p. free (here p)))

-- each call in a part has a property of its node and place
abbrev mutual
  pub EachCall : (List ℕ → Prefix → Type 0) → Expr → Prefix → Type 0
  EachCall P (constant s c) here = ⊤
  EachCall P (variable s x) here = ⊤
  EachCall P (last_of s x) here = ⊤
  EachCall P (one s o a) here = EachCall P a (below First here)
  EachCall P (two s o a b) here = EachCall P a (below First here) × EachCall P b (below Second here)
  EachCall P (choose s a b c) here = EachCall P a (below First here) × EachCall P b (below Second here) × EachCall P c (below Third here)
  EachCall P (pre s a) here = EachCall P a (below First here)
  EachCall P (fby s a b) here = EachCall P a (below First here) × EachCall P b (below Second here)
  EachCall P (arrow s a b) here = EachCall P a (below First here) × EachCall P b (below Second here)
  EachCall P (when_is s a c x) here = EachCall P a (below First here)
  EachCall P (merge s x ps) here = EachCallOfParts P ps (below Args here)
  EachCall P (call s f inlined es) here = P f (below Instance here) × EachCallOfAll P es (below Args here)

  pub EachCallOfAll : (List ℕ → Prefix → Type 0) → Exprs → Prefix → Type 0
  EachCallOfAll P no_expr here = ⊤
  EachCallOfAll P (more_exprs e es) here = EachCall P e (below Head here) × EachCallOfAll P es (below Tail here)

  pub EachCallOfParts : (List ℕ → Prefix → Type 0) → Parts → Prefix → Type 0
  EachCallOfParts P no_part here = ⊤
  EachCallOfParts P (more_parts c e ps) here = EachCall P e (below Head here) × EachCallOfParts P ps (below Tail here)

abbrev mutual
  pub EachCallIn : (List ℕ → Prefix → Type 0) → Block → Prefix → Type 0
  EachCallIn P (block ds es) here = EachCallInAll P es (below Equations here)

  pub EachCallInAll : (List ℕ → Prefix → Type 0) → Eqns → Prefix → Type 0
  EachCallInAll P no_eqn here = ⊤
  EachCallInAll P (more_eqns e es) here = EachCallInOne P e (below Head here) × EachCallInAll P es (below Tail here)

  pub EachCallInOne : (List ℕ → Prefix → Type 0) → Eqn → Prefix → Type 0
  EachCallInOne P (define s ys e) here = EachCall P e (below RightOf here)
  EachCallInOne P (switch s e arms) here = EachCall P e (below Test here) × EachCallInArms P arms (below ArmsOf here)
  EachCallInOne P (reset s b e) here = EachCall P e (below Test here) × EachCallIn P b (below Body here)
  EachCallInOne P (automaton s ss) here = ⊤

  pub EachCallInArms : (List ℕ → Prefix → Type 0) → Arms → Prefix → Type 0
  EachCallInArms P no_arm here = ⊤
  EachCallInArms P (more_arms c b s arms) here = EachCallIn P b (below Head here) × EachCallInArms P arms (below Tail here)
