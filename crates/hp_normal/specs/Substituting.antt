-- A variable that a copy alone defines: whoever reads it reads what is copied.
use Rattle.std.specs.Prelude.{ℕ, Bool, true, false, ◌&&◌, ◌||◌, not, nat_eq, if◌then◌else◌, List, [], ◌∷◌, map, Option, None, Some}
use Rattle.std.specs.List.{filter}
use Rattle.hp_flat.specs.declared.equation.Atom.{Atom}
use Rattle.hp_flat.specs.declared.equation.Atom.TheVariants.{Variable, Value}
use Rattle.hp_flat.specs.Equations.{Clock, Right, operator, register, called, FlatEqn}
use Rattle.hp_flat.specs.Nodes.{FlatNode}
use Rattle.hp_normal.specs.Reading.{occurs, targets, fixed, sampled, copy_of}
use Rattle.hp_normal.specs.Retargeting.{put, with_eqns}

-- what each variable stands for
abbrev pub Meanings : Type 0
Meanings = ℕ → Atom

abbrev pub read : Meanings → Atom → Atom
read s (Variable x) = s x
read s (Value v) = Value v

abbrev pub is_variable : Atom → Bool
is_variable (Variable x) = true
is_variable (Value v) = false

-- A variable may stand for what its one equation copies: it keeps its number for nobody, and a clock reads no constant.
abbrev pub may_stand : FlatNode → ℕ → Atom → Bool
may_stand n x a =
    occurs n 1 (targets n) x && occurs n 0 (fixed n) x && (is_variable a || occurs n 0 (sampled n) x)

abbrev pub standing : FlatNode → Option (ℕ × Atom) → Meanings → Meanings
standing n None s = s
standing n (Some (x, a)) s = if may_stand n x (read s a) then put x (read s a) s else s

-- by copies in order, each of which reads what stands before it
abbrev pub meanings : FlatNode → List FlatEqn → Meanings → Meanings
meanings n [] s = s
meanings n (e ∷ es) s = meanings n es (standing n (copy_of e) s)

-- ---- reading what variables stand for

abbrev pub is_itself : ℕ → Atom → Bool
is_itself x (Variable y) = nat_eq y x
is_itself x (Value v) = false

abbrev pub stands_for : Meanings → Option (ℕ × Atom) → Bool
stands_for s (Some (x, a)) = not (is_itself x (s x))
stands_for s None = false

-- an equation whose variable stands for something else
abbrev pub is_replaced : Meanings → FlatEqn → Bool
is_replaced s e = stands_for s (copy_of e)

abbrev pub variable_or : ℕ → Atom → ℕ
variable_or x (Variable y) = y
variable_or x (Value v) = x

abbrev pub read_clock : Meanings → Clock → Clock
read_clock s clock = map (λ (on : ℕ × ℕ). (variable_or on.0 (s on.0), on.1)) clock

abbrev pub read_right : Meanings → Right → Right
read_right s (operator op args) = operator op (map (read s) args)
read_right s (register first next) = register first (read s next)
read_right s (called f args) = called f (map (read s) args)

abbrev pub read_eqn : Meanings → FlatEqn → FlatEqn
read_eqn s e = record { targets = e.targets; clock = read_clock s e.clock; right = read_right s e.right; restart = e.restart; at = e.at }

abbrev pub substituted_eqns : Meanings → List FlatEqn → List FlatEqn
substituted_eqns s es = filter (λ e. not (is_replaced s e)) (map (read_eqn s) es)

abbrev pub substituted : FlatNode → FlatNode
substituted n = with_eqns n (substituted_eqns (meanings n n.eqns (λ x. Variable x)) n.eqns)
