-- How tightly an expression holds together.
use Rattle.std.specs.Prelude.{ℕ, Bool, nat_lt}
use Rattle.hp_print.specs.declared.level.Level.{Level}
use Rattle.hp_print.specs.declared.level.Level.TheVariants.{Conditional, Arrow, Sample, Delay, Implication, Disjunction, Conjunction, Comparison, Sum, Product, Unary, Atom}
use Rattle.hp_tree.specs.Expressions.{Expr, constant, variable, last_of, one, two, choose, pre, fby, arrow, when_is, merge, call}
use Rattle.hp_tree.specs.declared.expr.Op2.{Op2}
use Rattle.hp_tree.specs.declared.expr.Op2.TheVariants.{And, Or, Xor, Imp, Eq, Ne, Lt, Le, Gt, Ge, Add, Sub, Mul, Div, Rem}

-- the levels from the loosest to the tightest, by number
abbrev pub rank : Level → ℕ
rank Conditional = 0
rank Arrow = 1
rank Sample = 2
rank Delay = 3
rank Implication = 4
rank Disjunction = 5
rank Conjunction = 6
rank Comparison = 7
rank Sum = 8
rank Product = 9
rank Unary = 10
rank Atom = 11

abbrev pub is_looser : Level → Level → Bool
is_looser a b = nat_lt (rank a) (rank b)

abbrev pub level_of_operator : Op2 → Level
level_of_operator Imp = Implication
level_of_operator Or = Disjunction
level_of_operator Xor = Disjunction
level_of_operator And = Conjunction
level_of_operator Eq = Comparison
level_of_operator Ne = Comparison
level_of_operator Lt = Comparison
level_of_operator Le = Comparison
level_of_operator Gt = Comparison
level_of_operator Ge = Comparison
level_of_operator Add = Sum
level_of_operator Sub = Sum
level_of_operator Mul = Product
level_of_operator Div = Product
level_of_operator Rem = Product

abbrev pub level_of : Expr → Level
level_of (choose s a b c) = Conditional
level_of (arrow s a b) = Arrow
level_of (when_is s a c x) = Sample
level_of (fby s a b) = Delay
level_of (two s op a b) = level_of_operator op
level_of (one s op a) = Unary
level_of (pre s a) = Unary
level_of (constant s c) = Atom
level_of (variable s x) = Atom
level_of (last_of s x) = Atom
level_of (merge s x ps) = Atom
level_of (call s f i es) = Atom

-- The operand in front of an operator is of its level where that groups to the left, and else of the next tighter one.
abbrev pub level_before : Op2 → Level
level_before Imp = Disjunction
level_before Or = Disjunction
level_before Xor = Disjunction
level_before And = Conjunction
level_before Eq = Sum
level_before Ne = Sum
level_before Lt = Sum
level_before Le = Sum
level_before Gt = Sum
level_before Ge = Sum
level_before Add = Sum
level_before Sub = Sum
level_before Mul = Product
level_before Div = Product
level_before Rem = Product

-- The operand behind it is of its level where that groups to the right, and else of the next tighter one.
abbrev pub level_behind : Op2 → Level
level_behind Imp = Implication
level_behind Or = Conjunction
level_behind Xor = Conjunction
level_behind And = Comparison
level_behind Eq = Sum
level_behind Ne = Sum
level_behind Lt = Sum
level_behind Le = Sum
level_behind Gt = Sum
level_behind Ge = Sum
level_behind Add = Product
level_behind Sub = Product
level_behind Mul = Unary
level_behind Div = Unary
level_behind Rem = Unary
