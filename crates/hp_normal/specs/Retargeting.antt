-- A variable that is read by nothing but a copy, on its own clock: its equation defines the variable of the copy in its place.
use Rattle.std.specs.Prelude.{ℕ, Bool, true, false, ◌&&◌, not, nat_eq, nat_lt, if◌then◌else◌, List, [], ◌∷◌, map, Option, None, Some}
use Rattle.std.specs.List.{filter}
use Rattle.hp_flat.specs.declared.equation.Atom.{Atom}
use Rattle.hp_flat.specs.declared.equation.Atom.TheVariants.{Variable}
use Rattle.hp_flat.specs.Equations.{Clock, FlatEqn}
use Rattle.hp_flat.specs.Nodes.{FlatNode}
use Rattle.hp_normal.specs.Reading.{occurs, targets, uses, copy_of}

-- two clocks are the same
abbrev pub same_clock : Clock → Clock → Bool
same_clock [] [] = true
same_clock (a ∷ first) (b ∷ second) = nat_eq a.0 b.0 && nat_eq a.1 b.1 && same_clock first second
same_clock first second = false

abbrev pub has : List ℕ → ℕ → Bool
has [] x = false
has (y ∷ ys) x = if nat_eq y x then true else has ys x

-- the clock of the first equation that defines a variable; the empty one where there is none
abbrev pub clock_of : List FlatEqn → ℕ → Clock
clock_of [] x = []
clock_of (e ∷ es) x = if has e.targets x then e.clock else clock_of es x

-- A variable of a node that is no input has one equation, on this clock, and is read once.
abbrev pub is_free : FlatNode → Clock → ℕ → Bool
is_free n clock y =
    not (nat_lt y n.inputs) && occurs n 1 (targets n) y && occurs n 1 (uses n) y && same_clock (clock_of n.eqns y) clock

-- the variable that an equation defines, and the one whose equation can define it
abbrev pub free_copy : FlatNode → Clock → Option (ℕ × Atom) → Option (ℕ × ℕ)
free_copy n clock (Some (x, Variable y)) = if is_free n clock y then Some (x, y) else None
free_copy n clock copy = None

abbrev pub moved : FlatNode → FlatEqn → Option (ℕ × ℕ)
moved n e = free_copy n e.clock (copy_of e)

-- a function, changed at a number
abbrev pub put : {A : Type 0} → ℕ → A → (ℕ → A) → ℕ → A
put x a f y = if nat_eq x y then a else f y

abbrev pub after_move : Option (ℕ × ℕ) → (ℕ → ℕ) → ℕ → ℕ
after_move None r = r
after_move (Some (x, y)) r = put y (r x) r

-- Which variable is defined in place of each, by copies in order: a later copy takes what an earlier one gives on.
abbrev pub ends : FlatNode → List FlatEqn → ℕ → ℕ
ends n [] = λ x. x
ends n (e ∷ es) = after_move (moved n e) (ends n es)

abbrev pub goes_on : (ℕ → ℕ) → Option (ℕ × Atom) → Bool
goes_on r (Some (x, Variable y)) = not (nat_eq (r y) y)
goes_on r copy = false

-- an equation that copies a variable in whose place another one is defined
abbrev pub is_moved : (ℕ → ℕ) → FlatEqn → Bool
is_moved r e = goes_on r (copy_of e)

abbrev pub with_targets : (ℕ → ℕ) → FlatEqn → FlatEqn
with_targets r e = record { targets = map r e.targets; clock = e.clock; right = e.right; restart = e.restart; at = e.at }

abbrev pub with_eqns : FlatNode → List FlatEqn → FlatNode
with_eqns n es = record { name = n.name; variables = n.variables; inputs = n.inputs; outputs = n.outputs; eqns = es }

abbrev pub retargeted_eqns : (ℕ → ℕ) → List FlatEqn → List FlatEqn
retargeted_eqns r es = filter (λ e. not (is_moved r e)) (map (with_targets r) es)

abbrev pub retargeted : FlatNode → FlatNode
retargeted n = with_eqns n (retargeted_eqns (ends n n.eqns) n.eqns)
