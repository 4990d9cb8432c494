-- How large an expression of a kind is, wherever it stands.
use Rattle.std.proofs.Common.{◌≡◌, ℕ, refl}
use Rattle.hp_base.specs.declared.span.Span.{Span}
use Rattle.hp_tree.specs.declared.expr.ExprKind.{ExprKind}
use Rattle.hp_tree.specs.declared.expr.ExprKind.TheVariants.{Const, Name, Last, One, Two, If, Pre, Fby, Arrow, When, Merge, Call}
use Rattle.hp_tree.specs.ExpressionView.{expr_at}
use Rattle.hp_tree.specs.Sizes.{nodes}

abbrev pub nodes_of_kind : ExprKind → ℕ
nodes_of_kind k = nodes (expr_at (record { line = 0; col = 0; end = 0 }) k)

pub nodes-expr_at : (s : Span) (k : ExprKind) → nodes (expr_at s k) ≡ nodes_of_kind k
nodes-expr_at s (Const c) = refl
nodes-expr_at s (Name x) = refl
nodes-expr_at s (Last x) = refl
nodes-expr_at s (One op a) = refl
nodes-expr_at s (Two op a b) = refl
nodes-expr_at s (If a b c) = refl
nodes-expr_at s (Pre a) = refl
nodes-expr_at s (Fby a b) = refl
nodes-expr_at s (Arrow a b) = refl
nodes-expr_at s (When a c x) = refl
nodes-expr_at s (Merge x ps) = refl
nodes-expr_at s (Call f i es) = refl
