-- What an expression is seen as: one level, whose children are seen already.
use Rattle.hp_base.specs.declared.span.Span.{Span}
use Rattle.hp_tree.specs.declared.expr.ExprKind.{ExprKind}
use Rattle.hp_tree.specs.declared.expr.ExprKind.TheVariants.{Const, Name, Last, One, Two, If, Pre, Fby, Arrow, When, Merge, Call}
use Rattle.hp_tree.specs.declared.expr.Expr.TheInside.{Inside}
use Rattle.hp_tree.specs.Expressions as tree
use Rattle.hp_tree.specs.Expressions.{exprs_of, parts_of}

-- the expression of a kind at a place
abbrev pub expr_at : Span → ExprKind → tree.Expr
expr_at s (Const c) = tree.constant s c
expr_at s (Name x) = tree.variable s x
expr_at s (Last x) = tree.last_of s x
expr_at s (One op a) = tree.one s op a
expr_at s (Two op a b) = tree.two s op a b
expr_at s (If a b c) = tree.choose s a b c
expr_at s (Pre a) = tree.pre s a
expr_at s (Fby a b) = tree.fby s a b
expr_at s (Arrow a b) = tree.arrow s a b
expr_at s (When a c x) = tree.when_is s a c x
expr_at s (Merge x ps) = tree.merge s x (parts_of ps.items)
expr_at s (Call f i es) = tree.call s f i (exprs_of es.items)

-- an expression, by its fields
abbrev pub expr_seen : Inside → tree.Expr
expr_seen a = expr_at a.span a.kind.value
