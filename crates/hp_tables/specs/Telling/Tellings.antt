-- How the clock of a definition is told.
-- Source: own.
use Rattle.std.specs.Prelude.{ℕ, List, [], ◌∷◌, Option, None, Some}
use Rattle.hp_base.specs.declared.span.Span.{Span}
use Rattle.hp_tree.specs.declared.decl.Cons.{Cons}
use Rattle.hp_tree.specs.Expressions.{Expr, constant, variable, last_of, one, two, choose, pre, fby, arrow, when_is, merge, call, Exprs, no_expr, more_exprs}

-- It is the base clock, that of a name, or the clock of a name with one step more.
pub data Told : Type 0 where
  at_base : Told
  as_of : List ℕ → Told
  one_more : Cons → List ℕ → Told

abbrev pub or_else : Option Told → Option Told → Option Told
or_else None t = t
or_else (Some s) t = Some s

-- what the names of an expression tell, the first of them that tells anything
abbrev mutual
  pub tells : Expr → Option Told
  tells (constant s c) = None
  tells (variable s x) = Some (as_of x)
  tells (last_of s x) = Some at_base
  tells (one s o a) = tells a
  tells (two s o a b) = or_else (tells a) (tells b)
  tells (choose s a b c) = or_else (tells a) (or_else (tells b) (tells c))
  tells (pre s a) = tells a
  tells (fby s a b) = or_else (tells a) (tells b)
  tells (arrow s a b) = or_else (tells a) (tells b)
  tells (when_is s a c x) = Some (one_more c x)
  tells (merge s x ps) = Some (as_of x)
  tells (call s f i es) = tells_in_all es

  pub tells_in_all : Exprs → Option Told
  tells_in_all no_expr = None
  tells_in_all (more_exprs e es) = or_else (tells e) (tells_in_all es)

-- a definition has the clock of its first name, or else that of its right side
abbrev pub tells_of : List (List ℕ × Span) → Expr → Option Told
tells_of [] e = tells e
tells_of (y ∷ ys) e = Some (as_of y.0)
