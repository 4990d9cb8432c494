-- The free places that each comparison and each call of a part brings, in the order of slots.
-- Source: own. A comparison brings its own place where it compares integers. A call brings its outputs that are no integers, and behind them the free places of the contract that is called.
use Rattle.std.specs.Prelude.{ℕ, ◌≡◌, ◌⊎◌, if◌then◌else◌, List, [], ◌∷◌, ◌++◌, map, Option, None, Some}
use Rattle.hp_base.specs.declared.ty.Ty.{Ty}
use Rattle.hp_base.specs.declared.ty.Ty.TheVariants as ty
use Rattle.hp_tree.specs.declared.block.Trans.{Trans}
use Rattle.hp_tree.specs.declared.expr.Op2.{Op2}
use Rattle.hp_tree.specs.Expressions.{Expr, constant, variable, last_of, one, two, choose, pre, fby, arrow, when_is, merge, call, Exprs, no_expr, more_exprs, Parts, no_part, more_parts}
use Rattle.hp_tree.specs.ExpressionTypes.{Scope, typed_in, scope_of, type_of}
use Rattle.hp_tree.specs.Blocks.{Decl, Block, block, Eqns, no_eqn, more_eqns, Eqn, define, switch, reset, automaton, Arms, no_arm, more_arms, States, no_state, more_states}
use Rattle.hp_tree.specs.Programs.{TypeDecl, Contract}
use Rattle.hp_tree.specs.Instant.{Body, Observer, Assume, Enforce, Named, Equations, Head, Tail, Right, Test, Arms as ArmsOf, States as StatesOf, Until, Unless, First, Second, Third, Args, Instance, Place}
use Rattle.hp_meaning.specs.Contract.Slots.{Slot, FreePlace, free_among, is_int, slots_of_block}
use Rattle.law_automata.specs.Lowered.Standing.{Along}
use Rattle.law_equations.specs.Flattened.Flatten.{Prefix, below}
use Rattle.hp_watch.specs.Walk.{compares}
use Rattle.law_choices.specs.Places.Spots.{Spot, compared, called}
use Rattle.law_choices.specs.Places.Found.{found_in_block}

-- a place with its type, unless it is an integer
abbrev pub unless_integer : Place → Ty → List FreePlace
unless_integer p ty.Bool = (p, ty.Bool) ∷ []
unless_integer p ty.Int = []
unless_integer p (ty.Enum x) = (p, ty.Enum x) ∷ []

-- outputs that are no integers
abbrev pub free_outputs : List Decl → Prefix → List FreePlace
free_outputs [] w = []
free_outputs (d ∷ ds) w = unless_integer (w (Named d.name ∷ [])) d.ty ++ free_outputs ds w

module _ (types : List TypeDecl) (outs : List ℕ → List Decl) (callee : List ℕ → Prefix → List Slot) where
  abbrev pub call_group : List ℕ → Prefix → List FreePlace
  call_group f w = free_outputs (outs f) w ++ free_among (callee f w)

  abbrev pub compared_groups : Op2 → Expr → Scope → Prefix → List (List FreePlace)
  compared_groups o a names w = if compares o then (if is_int (type_of types outs a names) then (w [], ty.Bool) ∷ [] else []) ∷ [] else []

  abbrev mutual
    pub groups : Expr → Scope → Prefix → List (List FreePlace)
    groups (constant s c) names w = []
    groups (variable s x) names w = []
    groups (last_of s x) names w = []
    groups (one s o a) names w = groups a names (below First w)
    groups (two s o a b) names w = compared_groups o a names w ++ (groups a names (below First w) ++ groups b names (below Second w))
    groups (choose s a b c) names w = groups a names (below First w) ++ (groups b names (below Second w) ++ groups c names (below Third w))
    groups (pre s a) names w = groups a names (below First w)
    groups (fby s a b) names w = groups a names (below First w) ++ groups b names (below Second w)
    groups (arrow s a b) names w = groups a names (below First w) ++ groups b names (below Second w)
    groups (when_is s a c x) names w = groups a names (below First w)
    groups (merge s x ps) names w = groups_of_parts ps names (below Args w)
    groups (call s f inlined es) names w = call_group f (below Instance w) ∷ groups_of_all es names (below Args w)

    pub groups_of_all : Exprs → Scope → Prefix → List (List FreePlace)
    groups_of_all no_expr names w = []
    groups_of_all (more_exprs e es) names w = groups e names (below Head w) ++ groups_of_all es names (below Tail w)

    pub groups_of_parts : Parts → Scope → Prefix → List (List FreePlace)
    groups_of_parts no_part names w = []
    groups_of_parts (more_parts c e ps) names w = groups e names (below Head w) ++ groups_of_parts ps names (below Tail w)

  abbrev pub groups_of_conditions : List Trans → Scope → Prefix → List (List FreePlace)
  groups_of_conditions [] names w = []
  groups_of_conditions (t ∷ ts) names w = groups t.cond names (below Head w) ++ groups_of_conditions ts names (below Tail w)

  abbrev mutual
    pub groups_of_block : Block → Scope → Prefix → List (List FreePlace)
    groups_of_block (block ds es) out w = groups_of_equations es (typed_in ds out) (below Equations w)

    pub groups_of_equations : Eqns → Scope → Prefix → List (List FreePlace)
    groups_of_equations no_eqn names w = []
    groups_of_equations (more_eqns e es) names w = groups_of_equation e names (below Head w) ++ groups_of_equations es names (below Tail w)

    pub groups_of_equation : Eqn → Scope → Prefix → List (List FreePlace)
    groups_of_equation (define s ys e) names w = groups e names (below Right w)
    groups_of_equation (switch s e arms) names w = groups e names (below Test w) ++ groups_of_arms arms names (below ArmsOf w)
    groups_of_equation (reset s b e) names w = groups_of_block b names (below Body w) ++ groups e names (below Test w)
    groups_of_equation (automaton s ss) names w = groups_of_states ss names (below StatesOf w)

    pub groups_of_arms : Arms → Scope → Prefix → List (List FreePlace)
    groups_of_arms no_arm names w = []
    groups_of_arms (more_arms c b s arms) names w = groups_of_block b names (below Head w) ++ groups_of_arms arms names (below Tail w)

    pub groups_of_states : States → Scope → Prefix → List (List FreePlace)
    groups_of_states no_state names w = []
    groups_of_states (more_states f b until unless s ss) names w =
        groups_of_block b names (below Body (below Head w))
        ++ (groups_of_conditions until (scope_of b names) (below Until (below Head w))
        ++ (groups_of_conditions unless names (below Unless (below Head w)) ++ groups_of_states ss names (below Tail w)))

  -- of what a contract assumes or enforces, and of a contract
  abbrev pub groups_of_told : Option Expr → Scope → Prefix → List (List FreePlace)
  groups_of_told None names w = []
  groups_of_told (Some e) names w = groups e names w

  abbrev pub groups_of_contract : Contract → Scope → Prefix → List (List FreePlace)
  groups_of_contract c names w =
      groups_of_block c.body names (below Observer w) ++ (groups_of_told c.assume (scope_of c.body names) (below Assume w) ++ groups_of_told c.enforce (scope_of c.body names) (below Enforce w))

  -- What a comparison or a call brings. The prefix of what is called is as is said.
  abbrev pub IsGroupOf : (Prefix → Type 0) → Spot → List FreePlace → Type 0
  IsGroupOf P (compared o p) g = (g ≡ []) ⊎ (g ≡ (p, ty.Bool) ∷ [])
  IsGroupOf P (called f ps) g = (w : Prefix) × P w × (ps ≡ map (λ (o : List ℕ). w (Named o ∷ [])) (map (λ (d : Decl). d.name) (outs f))) × (g ≡ call_group f w)

-- two comparisons with one operator, or two calls of one node
abbrev pub AreAlike : Spot → Spot → Type 0
AreAlike (compared o p) (compared u q) = o ≡ u
AreAlike (called f ps) (called h qs) = f ≡ h
AreAlike s t = ⊥

-- a prefix that puts a place in front
abbrev pub IsInFront : Prefix → Type 0
IsInFront w = (q : Place) × ((p : Place) → w p ≡ q ++ p)

-- lists in a row
abbrev pub in_a_row : List (List FreePlace) → List FreePlace
in_a_row [] = []
in_a_row (g ∷ gs) = g ++ in_a_row gs

-- What a walk over a block finds brings these groups, one by one, and in a row they are its free places.
abbrev pub GroupsLaw : Type 0
GroupsLaw =
    (types : List TypeDecl) (outs : List ℕ → List Decl) (callee : List ℕ → Prefix → List Slot) (b : Block) (names : Scope) (w here : Prefix) → IsInFront w
    → Along (λ (c : Spot × Spot) (g : List FreePlace). IsGroupOf types outs callee IsInFront c.0 g × AreAlike c.0 c.1) (found_in_block (λ f. map (λ (d : Decl). d.name) (outs f)) b w here) (groups_of_block types outs callee b names w)
    × (in_a_row (groups_of_block types outs callee b names w) ≡ free_among (slots_of_block types outs callee b names w))
