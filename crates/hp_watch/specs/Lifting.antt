-- Values on the base clock, and their bits.
-- Source: own; codes of constructors as in the machine of a contract, the most significant bit first.
use Rattle.std.specs.Prelude.{ℕ, zero, suc, ◌+◌, ◌/◌, ◌%◌, ◌^◌, ◌==◌, nat_le, Bool, false, if◌then◌else◌, List, [], ◌∷◌, ◌++◌, length, map, min, slice_get, Option, None, Some}
use Rattle.std.specs.List.{range_with_len}
use Rattle.hp_base.specs.declared.value.Value.TheVariants.{B, E}
use Rattle.hp_obc.specs.Machines.{ObcType}
use Rattle.hp_obc.specs.declared.command.ObcOp.TheVariants.{Copy, Or, Eq}
use Rattle.hp_flat.specs.declared.equation.Atom.TheVariants.{Variable as Read, Value as Fixed}
use Rattle.hp_flat.specs.declared.node.FlatTy.{FlatTy}
use Rattle.hp_flat.specs.declared.node.FlatTy.TheVariants as ty
use Rattle.hp_flat.specs.Equations.{Clock, FlatEqn}
use Rattle.hp_flat.specs.Nodes.{FlatNode}
use Rattle.hp_watch.specs.Adding.{type_at, next_variable, with_variable, with_eqn, operator_eqn, with_operator, some_value}

-- how many constructors a type has, of which each has a number of one byte
abbrev pub constructors : Option ObcType → ℕ
constructors None = 0
constructors (Some t) = min (length t.cons) 256

-- how many values a type has of which clocks and bits speak
abbrev pub count_of : List ObcType → FlatTy → ℕ
count_of types ty.Bool = 2
count_of types ty.Int = 0
count_of types (ty.Enum t) = constructors (slice_get types t)

-- a node to which something is added for each number below another, in order
abbrev pub with_each : (ℕ → FlatNode → FlatNode) → ℕ → FlatNode → FlatNode
with_each add zero n = n
with_each add (suc k) n = add k (with_each add k n)

-- a node to which more is added, and the variable that has the value that was asked for
pub record Valued : Type 0 where
  pub node : FlatNode
  pub value : ℕ

-- ---- lifting

-- Where a variable has a constructor, behind a clock: the value of another one if the constructor is that of the step, and else some value.
abbrev pub case_eqn : ℕ → FlatTy → Clock → ℕ × ℕ → ℕ → ℕ → FlatEqn
case_eqn target t clock step value k = operator_eqn target (clock ++ (step.0, k) ∷ []) Copy ((if k == step.1 then Read value else Fixed (some_value t)) ∷ [])

-- the equations of so many constructors
abbrev pub with_cases : ℕ → FlatTy → Clock → ℕ × ℕ → ℕ → ℕ → FlatNode → FlatNode
with_cases target t clock step value count n = with_each (λ k. with_eqn (case_eqn target t clock step value k)) count n

-- a variable on a clock that has the value of another one, which is on this clock and one step more; and else some value
abbrev pub with_step : List ObcType → Clock → ℕ × ℕ → ℕ → FlatNode → FlatNode
with_step types clock step value n =
    with_cases (next_variable n) (type_at n value) clock step value (count_of types (type_at n step.0)) (with_variable (type_at n value) n)

-- The variable on a clock that has the value of another one on this clock and more steps: these are taken away one by one, innermost first.
abbrev pub lifted : List ObcType → Clock → Clock → ℕ → FlatNode → Valued
lifted types clock [] x n = record { node = n; value = x }
lifted types clock (step ∷ steps) x n =
    let inner = lifted types (clock ++ step ∷ []) steps x n in
    record { node = with_step types clock step inner.value inner.node; value = next_variable inner.node }

-- ---- bits

-- a variable that says whether a value is a constructor
abbrev pub with_test : ℕ → ℕ → ℕ → FlatNode → FlatNode
with_test t value k n = with_operator ty.Bool Eq (Read value ∷ Fixed (E t k) ∷ []) n

-- whether a number has the bit of this place, from the least significant on
abbrev pub has_bit : ℕ → ℕ → Bool
has_bit k place = k / 2 ^ place % 2 == 1

-- whether a variable is true, or the test of a constructor, if its number has the bit of this place
abbrev pub with_either : ℕ → ℕ → ℕ → ℕ → FlatNode → Valued
with_either k place bit test n =
    if has_bit k place then record { node = with_operator ty.Bool Or (Read bit ∷ Read test ∷ []) n; value = next_variable n }
    else record { node = n; value = bit }

-- whether a variable is true, or one of the tests of constructors, from a number on, that have the bit of this place
abbrev pub either : ℕ → ℕ → List ℕ → ℕ → FlatNode → Valued
either place k [] bit n = record { node = n; value = bit }
either place k (test ∷ tests) bit n = let first = with_either k place bit test n in either place (k + 1) tests first.value first.node

-- the bit of a place
abbrev pub with_bit : List ℕ → ℕ → FlatNode → Valued
with_bit tests place n = either place 0 tests (next_variable n) (with_operator ty.Bool Copy (Fixed (B false) ∷ []) n)

-- a node to which bits are added, and these
pub record Spelled : Type 0 where
  pub node : FlatNode
  pub bits : List ℕ

-- so many bits, the most significant first
abbrev pub with_bits : List ℕ → ℕ → FlatNode → Spelled
with_bits tests zero n = record { node = n; bits = [] }
with_bits tests (suc place) n =
    let bit = with_bit tests place n in
    let rest = with_bits tests place bit.node in
    record { node = rest.node; bits = bit.value ∷ rest.bits }

-- how many codes so many bits have
abbrev pub powers : List ℕ
powers = 1 ∷ 2 ∷ 4 ∷ 8 ∷ 16 ∷ 32 ∷ 64 ∷ 128 ∷ []

-- the place of the first number that is not below another one, and of none how many there are
abbrev pub least_width : List ℕ → ℕ → ℕ
least_width [] count = 0
least_width (p ∷ ps) count = if nat_le count p then 0 else suc (least_width ps count)

-- the least number of bits that give each of so many constructors a code
abbrev pub width_of : ℕ → ℕ
width_of count = least_width powers count

-- the bits of a constructor of a type with this number
abbrev pub with_code : ℕ → ℕ → ℕ → FlatNode → Spelled
with_code t count value n = with_bits (range_with_len (next_variable n) count) (width_of count) (with_each (with_test t value) count n)

-- the bits of a value of a type: a truth value is its own bit, and an integer has none
abbrev pub with_spelling : List ObcType → FlatTy → ℕ → FlatNode → Spelled
with_spelling types ty.Bool value n = record { node = n; bits = value ∷ [] }
with_spelling types ty.Int value n = record { node = n; bits = [] }
with_spelling types (ty.Enum t) value n = with_code t (count_of types (ty.Enum t)) value n

-- the bits of a variable
abbrev pub spelled : List ObcType → ℕ → FlatNode → Spelled
spelled types value n = with_spelling types (type_at n value) value n
