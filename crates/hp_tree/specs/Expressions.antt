-- Expressions as plain data.
use Rattle.std.specs.Prelude.{ℕ, Bool, List, [], ◌∷◌}
use Rattle.hp_base.specs.declared.span.Span.{Span}
use Rattle.hp_base.specs.declared.ty.Const.{Const}
use Rattle.hp_tree.specs.declared.decl.Cons.{Cons}
use Rattle.hp_tree.specs.declared.expr.Op1.{Op1}
use Rattle.hp_tree.specs.declared.expr.Op2.{Op2}

mutual
  -- an expression: its place, and its parts in the order in which they are written; a name is its bytes
  pub data Expr : Type 0 where
    constant : Span → Const → Expr
    variable : Span → List ℕ → Expr
    last_of : Span → List ℕ → Expr
    one : Span → Op1 → Expr → Expr
    two : Span → Op2 → Expr → Expr → Expr
    choose : Span → Expr → Expr → Expr → Expr
    pre : Span → Expr → Expr
    fby : Span → Expr → Expr → Expr
    arrow : Span → Expr → Expr → Expr
    when_is : Span → Expr → Cons → List ℕ → Expr
    merge : Span → List ℕ → Parts → Expr
    call : Span → List ℕ → Bool → Exprs → Expr

  -- the arguments of a call
  pub data Exprs : Type 0 where
    no_expr : Exprs
    more_exprs : Expr → Exprs → Exprs

  -- the parts of a merge
  pub data Parts : Type 0 where
    no_part : Parts
    more_parts : Cons → Expr → Parts → Parts

-- the lists of a tree, made of plain lists and read as such
abbrev pub exprs_of : List Expr → Exprs
exprs_of [] = no_expr
exprs_of (e ∷ es) = more_exprs e (exprs_of es)

abbrev pub list_of : Exprs → List Expr
list_of no_expr = []
list_of (more_exprs e es) = e ∷ list_of es

abbrev pub parts_of : List (Cons × Expr) → Parts
parts_of [] = no_part
parts_of (p ∷ ps) = more_parts p.0 p.1 (parts_of ps)

abbrev pub list_of_parts : Parts → List (Cons × Expr)
list_of_parts no_part = []
list_of_parts (more_parts c e ps) = (c, e) ∷ list_of_parts ps
