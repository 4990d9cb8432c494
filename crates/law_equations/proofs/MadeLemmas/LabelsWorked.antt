-- A body whose comparisons and call have no names: a condition and an argument, in a block of a `reset`.
use Rattle.std.proofs.Common.{◌≡◌, ℕ, false, List, [], ◌∷◌, refl}
use Rattle.std.specs.Prelude.{pos}
use Rattle.hp_base.specs.declared.span.Span.{Span}
use Rattle.hp_base.specs.declared.ty.Const.TheVariants as const
use Rattle.hp_tree.specs.declared.expr.Op2.TheVariants.{Eq, Lt}
use Rattle.hp_tree.specs.Expressions.{Expr, constant, variable, two, call, no_expr, more_exprs}
use Rattle.hp_tree.specs.Blocks.{Block, block, no_eqn, more_eqns, define, reset}
use Rattle.hp_tree.specs.Instant.{Body, Named, Equations, Head, Right, Test, Args, Instance, Place}
use Rattle.law_equations.specs.Flattened.Lifted.{in_body}
use Rattle.law_equations.specs.Made.Labels.{comparison, calling, block_labels}

abbrev at : Span
at = record { line = 1; col = 1; end = 0 }

abbrev x : List ℕ
x = 120 ∷ []

abbrev y : List ℕ
y = 121 ∷ []

abbrev z : List ℕ
z = 122 ∷ []

abbrev g : List ℕ
g = 103 ∷ []

-- x < 0
abbrev below_zero : Expr
below_zero = two at Lt (variable at x) (constant at (const.I (pos 0)))

-- x = 1
abbrev is_one : Expr
is_one = two at Eq (variable at x) (constant at (const.I (pos 1)))

-- reset z = g(x < 0) every x = 1
abbrev body : Block
body = block [] (more_eqns (reset at (block [] (more_eqns (define at ((z, at) ∷ []) (call at g false (more_exprs below_zero no_expr))) no_eqn)) is_one) no_eqn)

-- the place of the call
abbrev called : Place → Place
called p = Body ∷ Equations ∷ Head ∷ Body ∷ Equations ∷ Head ∷ Right ∷ p

-- The condition comes first, then the argument, then the call.
labels : block_labels (λ f. y ∷ []) body in_body []
    ≡ comparison Eq (Body ∷ Equations ∷ Head ∷ Test ∷ []) ∷ comparison Lt (called (Args ∷ Head ∷ [])) ∷ calling g (called []) (called (Instance ∷ Named y ∷ []) ∷ []) ∷ []
labels = refl
