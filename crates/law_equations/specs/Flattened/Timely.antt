-- Where each expression of a node stands, and that its values are there exactly so.
use Rattle.std.specs.Prelude.{◌≡◌, ⊤, ℕ, Bool, true, false, if◌then◌else◌, List, [], ◌∷◌, Option, None, Some}
use Rattle.std.specs.Str.{bytes_eq}
use Rattle.hp_base.specs.declared.value.Value.{Value}
use Rattle.hp_base.specs.declared.value.Value.TheVariants.{Absent, Nil}
use Rattle.hp_tree.specs.Expressions.{Expr, constant, variable, last_of, one, two, choose, pre, fby, arrow, when_is, merge, call, Exprs, no_expr, more_exprs, Parts, no_part, more_parts}
use Rattle.hp_tree.specs.Blocks.{Decl, Block, block, Eqns, no_eqn, more_eqns, Eqn, define, switch, reset, automaton, Arms, no_arm, more_arms}
use Rattle.hp_tree.specs.Programs.{TypeDecl}
use Rattle.hp_tree.specs.Operators.{cons_of}
use Rattle.hp_tree.specs.Instant.{Body, Equations, Head, Tail, Test, Arms as ArmsOf, Place, Clock, without}
use Rattle.hp_tree.specs.Meaning.{clock_of}
use Rattle.law_equations.specs.Flattened.Flat.{Now, holds}
use Rattle.law_equations.specs.Flattened.Flatten.{FlatName, At, When, on, steps, Plan, no_plan, plan_alone, plan_one, plan_two, plan_three, plan_row, plan_call, plan_of_two, plan_block, plan_right, plan_arms, plan_body, Prefix, below, Scope, inside_at, within_at, restarts_at, lasts_at, under}

-- a value that is neither Absent nor Nil
abbrev pub IsValue : Value → Type 0
IsValue Absent = ⊥
IsValue Nil = ⊥
IsValue v = ⊤

-- a value where a clock is there, and else none
abbrev pub Fits : Bool → Value → Type 0
Fits true v = IsValue v
Fits false v = v ≡ Absent

-- at each instant of a list, with the earlier ones
abbrev pub Along : {A : Type 0} → (List A → A → Type 0) → List A → Type 0
Along P [] = ⊤
Along P (i ∷ G) = P G i × Along P G

abbrev pub Stands : Option When → FlatName → List (Now FlatName) → Type 0
Stands None x L = ⊤
Stands (Some w) x L = Along (λ G i. Fits (holds (steps w) i) (i x)) L

-- the places of a part that have a clock have values exactly there
abbrev pub Timely : Plan When → Prefix → List (Now FlatName) → Type 0
Timely clocks here L = (p : Place) → Stands (clocks p) (At (here p)) L

-- the outputs of a call stand on its clock
abbrev pub outputs_stand : List (List ℕ) → When → List ℕ → Option When
outputs_stand [] w x = None
outputs_stand (o ∷ os) w x = if bytes_eq o x then Some w else outputs_stand os w x

-- a call has a value where its node has an output
abbrev pub only_stands : List (List ℕ) → When → Option When
only_stands [] w = None
only_stands (o ∷ os) w = Some w

-- an operand that is remembered has a value
abbrev pub demand : When → Plan When → Plan When
demand w i [] = Some w
demand w i (s ∷ p) = i (s ∷ p)

module _ (types : List TypeDecl) (outputs : List ℕ → List (List ℕ)) where
  abbrev mutual
    pub expr_clocks : Expr → Clock → Scope → When → Plan When
    expr_clocks (constant s c) clock sc ck = plan_alone (under types sc clock ck)
    expr_clocks (variable s x) clock sc ck = plan_alone (under types sc clock ck)
    expr_clocks (last_of s x) clock sc ck = plan_alone (under types sc clock ck)
    expr_clocks (one s o a) clock sc ck = plan_one (under types sc clock ck) (expr_clocks a clock sc ck)
    expr_clocks (two s o a b) clock sc ck = plan_two (under types sc clock ck) (expr_clocks a clock sc ck) (expr_clocks b clock sc ck)
    expr_clocks (choose s a b c) clock sc ck =
        plan_three (under types sc clock ck) (expr_clocks a clock sc ck) (expr_clocks b clock sc ck) (expr_clocks c clock sc ck)
    expr_clocks (pre s a) clock sc ck = plan_one (under types sc clock ck) (demand (under types sc clock ck) (expr_clocks a clock sc ck))
    expr_clocks (fby s a b) clock sc ck =
        plan_two (under types sc clock ck) (demand (under types sc clock ck) (expr_clocks a clock sc ck)) (demand (under types sc clock ck) (expr_clocks b clock sc ck))
    expr_clocks (arrow s a b) clock sc ck = plan_two (under types sc clock ck) (demand (under types sc clock ck) (expr_clocks a clock sc ck)) (expr_clocks b clock sc ck)
    expr_clocks (when_is s a c x) clock sc ck = plan_one (under types sc clock ck) (expr_clocks a (without clock) sc ck)
    expr_clocks (merge s x ps) clock sc ck = plan_row (under types sc clock ck) (parts_clocks ps x clock sc ck)
    expr_clocks (call s f inlined es) clock sc ck =
        plan_call (only_stands (outputs f) (under types sc clock ck)) (exprs_clocks es clock sc ck) (outputs_stand (outputs f) (under types sc clock ck))

    pub exprs_clocks : Exprs → Clock → Scope → When → Plan When
    exprs_clocks no_expr clock sc ck = no_plan
    exprs_clocks (more_exprs e es) clock sc ck = plan_of_two (expr_clocks e clock sc ck) (exprs_clocks es clock sc ck)

    pub parts_clocks : Parts → List ℕ → Clock → Scope → When → Plan When
    parts_clocks no_part x clock sc ck = no_plan
    parts_clocks (more_parts c e ps) x clock sc ck = plan_of_two (expr_clocks e ((c, x) ∷ clock) sc ck) (parts_clocks ps x clock sc ck)

  abbrev mutual
    pub scope_clocks : Block → Scope → Scope → Prefix → When → List Place → Plan When
    scope_clocks (block ds es) sc lsc here ck rs =
        plan_block (λ x. None) (equations_clocks ds es (inside_at es sc here) (lasts_at types ds lsc here ck rs) (below Equations here) ck rs)

    pub equations_clocks : List Decl → Eqns → Scope → Scope → Prefix → When → List Place → Plan When
    equations_clocks ds no_eqn sc lsc here ck rs = no_plan
    equations_clocks ds (more_eqns e es) sc lsc here ck rs =
        plan_of_two (equation_clocks ds e sc lsc (below Head here) ck rs) (equations_clocks ds es sc lsc (below Tail here) ck rs)

    pub equation_clocks : List Decl → Eqn → Scope → Scope → Prefix → When → List Place → Plan When
    equation_clocks ds (define s ys e) sc lsc here ck rs = plan_right (expr_clocks e (clock_of ds ys e) sc ck)
    equation_clocks ds (switch s e arms) sc lsc here ck rs =
        plan_arms (expr_clocks e [] sc ck) (arms_clocks arms (At (here (Test ∷ []))) (within_at (switch s e arms) sc lsc) lsc (below ArmsOf here) ck rs)
    equation_clocks ds (reset s b e) sc lsc here ck rs =
        plan_body (expr_clocks e [] sc ck) (scope_clocks b (within_at (reset s b e) sc lsc) lsc (below Body here) ck (restarts_at e here rs))
    equation_clocks ds (automaton s ss) sc lsc here ck rs = no_plan

    pub arms_clocks : Arms → FlatName → Scope → Scope → Prefix → When → List Place → Plan When
    arms_clocks no_arm test sc lsc here ck rs = no_plan
    arms_clocks (more_arms c b s arms) test sc lsc here ck rs =
        plan_of_two (scope_clocks b sc lsc (below Head here) (on (cons_of types c) test ck) rs) (arms_clocks arms test sc lsc (below Tail here) ck rs)

-- no automaton is left
abbrev mutual
  pub Lowered : Block → Type 0
  Lowered (block ds es) = AllLowered es

  pub AllLowered : Eqns → Type 0
  AllLowered no_eqn = ⊤
  AllLowered (more_eqns e es) = OneLowered e × AllLowered es

  pub OneLowered : Eqn → Type 0
  OneLowered (define s ys e) = ⊤
  OneLowered (switch s e arms) = ArmsLowered arms
  OneLowered (reset s b e) = Lowered b
  OneLowered (automaton s ss) = ⊥

  pub ArmsLowered : Arms → Type 0
  ArmsLowered no_arm = ⊤
  ArmsLowered (more_arms c b s arms) = Lowered b × ArmsLowered arms
