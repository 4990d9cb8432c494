-- The equations between clocks that a unit asks for: an expression is read on a term that is passed down, so it needs no variables of its own.
use Rattle.std.specs.Prelude.{ℕ, List, [], ◌∷◌, ◌++◌, None}
use Rattle.hp_tree.specs.declared.decl.Cons.TheVariants.{True}
use Rattle.hp_tree.specs.Expressions.{Expr, constant, variable, last_of, one, two, choose, pre, fby, arrow, when_is, merge, call, Exprs, no_expr, more_exprs, Parts, no_part, more_parts}
use Rattle.hp_tree.specs.Instant.{Clock, Place}
use Rattle.hp_meaning.specs.Clocking.Terms.{Equation as EquationOf}
use Rattle.hp_meaning.specs.Clocking.Clocking.{On, Term, base, Seen, nowhere, own, further, Sight, ClockUnit, declared, equated, tested}

abbrev pub Equation : Type 0
Equation = EquationOf Place On

-- equations that nothing meets, for a name that may not be read
abbrev pub never : List Equation
never = (((True, []) ∷ [], None), ([], None)) ∷ []

-- a step on top of a term
abbrev pub on_term : On → Term → Term
on_term o t = (o ∷ t.0, t.1)

-- a name is on a term
abbrev pub name_is : Seen → Term → List Equation
name_is nowhere t = never
name_is (own u) t = (u, t) ∷ []
name_is (further u) t = (u, base) ∷ (t, base) ∷ []

-- what the name of a `when` is on
abbrev pub name_asks : Seen → List Equation
name_asks nowhere = never
name_asks (own u) = []
name_asks (further u) = (u, base) ∷ []

abbrev pub name_term : Seen → Term
name_term nowhere = base
name_term (own u) = u
name_term (further u) = base

abbrev mutual
  pub of_expr : Sight → Expr → Term → List Equation
  of_expr sight (constant s c) t = []
  of_expr sight (variable s x) t = name_is (sight x) t
  of_expr sight (last_of s x) t = (t, base) ∷ []
  of_expr sight (one s o a) t = of_expr sight a t
  of_expr sight (two s o a b) t = of_expr sight a t ++ of_expr sight b t
  of_expr sight (choose s a b c) t = of_expr sight a t ++ (of_expr sight b t ++ of_expr sight c t)
  of_expr sight (pre s a) t = of_expr sight a t
  of_expr sight (fby s a b) t = of_expr sight a t ++ of_expr sight b t
  of_expr sight (arrow s a b) t = of_expr sight a t ++ of_expr sight b t
  of_expr sight (when_is s a c x) t =
      name_asks (sight x) ++ ((t, on_term (c, x) (name_term (sight x))) ∷ of_expr sight a (name_term (sight x)))
  of_expr sight (merge s x ps) t = name_is (sight x) t ++ of_parts sight x ps t
  of_expr sight (call s f inlined es) t = of_exprs sight es t

  pub of_exprs : Sight → Exprs → Term → List Equation
  of_exprs sight no_expr t = []
  of_exprs sight (more_exprs e es) t = of_expr sight e t ++ of_exprs sight es t

  pub of_parts : Sight → List ℕ → Parts → Term → List Equation
  of_parts sight x no_part t = []
  of_parts sight x (more_parts c e ps) t = of_expr sight e (on_term (c, x) t) ++ of_parts sight x ps t

-- the names of a written clock, and the clock
abbrev pub of_clock : Sight → Clock → List Equation
of_clock sight [] = []
of_clock sight (o ∷ clock) = name_is (sight o.1) (clock, None) ++ of_clock sight clock

abbrev pub all_are : List Term → Term → List Equation
all_are [] t = []
all_are (u ∷ us) t = (u, t) ∷ all_are us t

abbrev pub of_unit : ClockUnit → List Equation
of_unit (declared s sight t clock) = of_clock sight clock ++ ((t, (clock, None)) ∷ [])
of_unit (equated s sight ts t e) = all_are ts t ++ of_expr sight e t
of_unit (tested s sight e) = of_expr sight e base
