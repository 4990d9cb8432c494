-- Of which places of a tree equations are made that compare or call.
-- A comparison of the tree makes one equation, whose variable stands for its place. A call makes one, whose variables stand for the outputs of its instance. No other equation compares or calls.
use Rattle.std.specs.Prelude.{◌≡◌, ⊤, ℕ, Bool, true, false, is_some, if◌then◌else◌, List, [], ◌∷◌, map}
use Rattle.hp_obc.specs.declared.command.ObcOp.{ObcOp}
use Rattle.hp_obc.specs.declared.command.ObcOp.TheVariants as obc
use Rattle.hp_tree.specs.declared.expr.Op2.{Op2}
use Rattle.hp_tree.specs.Operators.{is_comparison}
use Rattle.hp_tree.specs.Expressions.{Expr, constant, variable, last_of, one, two, choose, pre, fby, arrow, when_is, merge, call, Exprs, no_expr, more_exprs, Parts, no_part, more_parts}
use Rattle.hp_tree.specs.Blocks.{Block, block, Eqns, no_eqn, more_eqns, Eqn, define, switch, reset, automaton, Arms, no_arm, more_arms}
use Rattle.hp_tree.specs.Instant.{Body as BodyOf, Named, Equations, Head, Tail, Right as RightOf, Test, Arms as ArmsOf, First, Second, Third, Args, Instance, Place}
use Rattle.hp_flat.specs.Equations.{Right, operator, register, called, FlatEqn}
use Rattle.law_equations.specs.Flattened.Flatten.{FlatName, ats, Prefix, below, obc_two, constant_in, is_false}

-- ---- equations

-- an operator of equations that compares
abbrev pub compares : ObcOp → Bool
compares obc.Eq = true
compares obc.Ne = true
compares obc.Lt = true
compares obc.Le = true
compares obc.Gt = true
compares obc.Ge = true
compares other = false

-- whether it compares or calls
abbrev pub compares_or_calls : Right → Bool
compares_or_calls (operator o args) = compares o
compares_or_calls (register first next) = false
compares_or_calls (called f args) = true

-- the equations that compare or call, in their order
abbrev pub events : List FlatEqn → List FlatEqn
events [] = []
events (e ∷ es) = if compares_or_calls e.right then e ∷ events es else events es

-- ---- what they are made of

-- A comparison at a place, or a call of a node at a place, with the places of its instance's outputs.
pub data Label : Type 0 where
  comparison : Op2 → Place → Label
  calling : List ℕ → Place → List Place → Label

-- what gives values is of this kind
abbrev pub IsOf : Label → Right → Type 0
IsOf (comparison o p) (operator op args) = op ≡ obc_two o
IsOf (calling f p ps) (called g args) = g ≡ f
IsOf label right = ⊥

-- the places that its variables stand for
abbrev pub places_of : Label → List Place
places_of (comparison o p) = p ∷ []
places_of (calling f p ps) = ps

-- An equation is made of what a label says: it compares or calls so, and its variables stand for the places.
pub record IsMadeAt (means : ℕ → FlatName) (e : FlatEqn) (label : Label) : Type 0 where
  pub right : IsOf label e.right
  pub targets : map means e.targets ≡ ats (places_of label)

-- equations one by one
abbrev pub AreMadeAt : (ℕ → FlatName) → List FlatEqn → List Label → Type 0
AreMadeAt means [] [] = ⊤
AreMadeAt means (e ∷ es) (l ∷ labels) = IsMadeAt means e l × AreMadeAt means es labels
AreMadeAt means es labels = ⊥

-- ---- the labels of a part of a tree, in the order of making, in front of those behind it

abbrev pub with_comparison : Op2 → Place → List Label → List Label
with_comparison o p rest = if is_comparison o then comparison o p ∷ rest else rest

-- the places of the outputs of a call
abbrev pub output_places : List (List ℕ) → Prefix → List Place
output_places os here = map (λ o. here (Instance ∷ Named o ∷ [])) os

module _ (outputs : List ℕ → List (List ℕ)) where
  -- operands come before the operator; the first operand of a `fby` is left out where it is a constant
  abbrev mutual
    pub expr_labels : Expr → Prefix → List Label → List Label
    expr_labels (constant s c) here rest = rest
    expr_labels (variable s x) here rest = rest
    expr_labels (last_of s x) here rest = rest
    expr_labels (one s o a) here rest = expr_labels a (below First here) rest
    expr_labels (two s o a b) here rest = expr_labels a (below First here) (expr_labels b (below Second here) (with_comparison o (here []) rest))
    expr_labels (choose s a b c) here rest = expr_labels a (below First here) (expr_labels b (below Second here) (expr_labels c (below Third here) rest))
    expr_labels (pre s a) here rest = expr_labels a (below First here) rest
    expr_labels (fby s a b) here rest =
        if is_some (constant_in a) then expr_labels b (below Second here) rest else expr_labels a (below First here) (expr_labels b (below Second here) rest)
    expr_labels (arrow s a b) here rest = expr_labels a (below First here) (expr_labels b (below Second here) rest)
    expr_labels (when_is s a c x) here rest = expr_labels a (below First here) rest
    expr_labels (merge s x ps) here rest = parts_labels ps (below Args here) rest
    expr_labels (call s f inlined es) here rest = exprs_labels es (below Args here) (calling f (here []) (output_places (outputs f) here) ∷ rest)

    pub exprs_labels : Exprs → Prefix → List Label → List Label
    exprs_labels no_expr here rest = rest
    exprs_labels (more_exprs e es) here rest = expr_labels e (below Head here) (exprs_labels es (below Tail here) rest)

    pub parts_labels : Parts → Prefix → List Label → List Label
    parts_labels no_part here rest = rest
    parts_labels (more_parts c e ps) here rest = expr_labels e (below Head here) (parts_labels ps (below Tail here) rest)

  -- A condition comes before what it governs; that of a `reset` is left out where it is the constant `false`. No automaton is left.
  abbrev mutual
    pub block_labels : Block → Prefix → List Label → List Label
    block_labels (block ds es) here rest = eqns_labels es (below Equations here) rest

    pub eqns_labels : Eqns → Prefix → List Label → List Label
    eqns_labels no_eqn here rest = rest
    eqns_labels (more_eqns e es) here rest = eqn_labels e (below Head here) (eqns_labels es (below Tail here) rest)

    pub eqn_labels : Eqn → Prefix → List Label → List Label
    eqn_labels (define s ys e) here rest = expr_labels e (below RightOf here) rest
    eqn_labels (switch s e arms) here rest = expr_labels e (below Test here) (arms_labels arms (below ArmsOf here) rest)
    eqn_labels (reset s b e) here rest =
        if is_false e then block_labels b (below BodyOf here) rest else expr_labels e (below Test here) (block_labels b (below BodyOf here) rest)
    eqn_labels (automaton s ss) here rest = rest

    pub arms_labels : Arms → Prefix → List Label → List Label
    arms_labels no_arm here rest = rest
    arms_labels (more_arms c b s arms) here rest = block_labels b (below Head here) (arms_labels arms (below Tail here) rest)
