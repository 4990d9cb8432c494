-- Each part of an expression has fewer nodes than the expression.
use Rattle.std.specs.Prelude.{◌+◌, ◌≤◌, max, List, [], ◌∷◌}
use Rattle.std.proofs.Common.{arith}
use denote.Param.Weighed.{most}
use Rattle.hp_base.specs.declared.span.Span.{Span}
use Rattle.hp_tree.specs.declared.decl.Cons.{Cons}
use Rattle.hp_tree.specs.declared.expr.ExprKind.{ExprKind}
use Rattle.hp_tree.specs.declared.expr.ExprKind.TheVariants.{Const, Name, Last, One, Two, If, Pre, Fby, Arrow, When, Merge, Call}
use Rattle.hp_tree.specs.declared.expr.Expr.TheInside.{Inside}
use Rattle.hp_tree.specs.declared.expr.Expr.TheDeep.{deep-ExprKind}
use Rattle.hp_tree.specs.Expressions.{Expr, exprs_of, parts_of}
use Rattle.hp_tree.specs.ExpressionView.{expr_at, expr_seen}
use Rattle.hp_tree.specs.Sizes.{nodes, nodes_of_all, nodes_of_parts}

most_of_all : (es : List Expr) → most (λ e. nodes e + 1) es ≤ nodes_of_all (exprs_of es) + 1
most_of_all [] = omega arith
most_of_all (e ∷ es) = omega (arith, most_of_all es)

most_of_parts : (ps : List (Cons × Expr)) → most (λ p. max 0 (max (nodes p.1 + 1) 0)) ps ≤ nodes_of_parts (parts_of ps) + 1
most_of_parts [] = omega arith
most_of_parts (p ∷ ps) = omega (arith, most_of_parts ps)

kind_smaller : (s : Span) (k : ExprKind) → max (deep-ExprKind k) 0 ≤ nodes (expr_at s k)
kind_smaller s (Const c) = omega arith
kind_smaller s (Name x) = omega arith
kind_smaller s (Last x) = omega arith
kind_smaller s (One op a) = omega arith
kind_smaller s (Two op a b) = omega arith
kind_smaller s (If a b c) = omega arith
kind_smaller s (Pre a) = omega arith
kind_smaller s (Fby a b) = omega arith
kind_smaller s (Arrow a b) = omega arith
kind_smaller s (When a c x) = omega arith
kind_smaller s (Merge x ps) = omega (arith, most_of_parts ps.items)
kind_smaller s (Call f i es) = omega (arith, most_of_all es.items)

pub children_smaller : (a : Inside) → max (deep-ExprKind a.kind.value) 0 ≤ nodes (expr_seen a)
children_smaller a = kind_smaller a.span a.kind.value
