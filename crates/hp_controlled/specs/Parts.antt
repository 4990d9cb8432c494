-- The part of a node that some outputs read.
-- Source: own.
use Rattle.std.specs.Prelude.{◌≡◌, ◌↔◌, ◌⊎◌, ℕ, ◌+◌, ◌<◌, nat_lt, not, Bool, true, false, if◌then◌else◌, IsTrue, List, [], ◌∷◌, ◌++◌, length, map, slice_get, slice_index_or, slice_set, replicate, Option, None, Some, unwrap_or}
use Rattle.std.specs.List.{range_with_len}
use Rattle.hp_flat.specs.declared.equation.Atom.{Atom}
use Rattle.hp_flat.specs.declared.equation.Atom.TheVariants.{Variable as Read, Value as Fixed}
use Rattle.hp_flat.specs.declared.node.Variable.{Variable}
use Rattle.hp_flat.specs.Equations.{Clock, Right, operator, register, called, FlatEqn}
use Rattle.hp_flat.specs.Nodes.{FlatNode}

-- ---- other numbers

-- the new number of a variable, where there is one
abbrev pub number_at : List ℕ → ℕ → ℕ
number_at numbers x = unwrap_or (slice_get numbers x) x

module _ (to : ℕ → ℕ) where
  abbrev pub renumbered_atom : Atom → Atom
  renumbered_atom (Read x) = Read (to x)
  renumbered_atom (Fixed v) = Fixed v

  abbrev pub renumbered_clock : Clock → Clock
  renumbered_clock clock = map (λ s. (to s.0, s.1)) clock

  abbrev pub renumbered_right : Right → Right
  renumbered_right (operator op args) = operator op (map renumbered_atom args)
  renumbered_right (register first next) = register first (renumbered_atom next)
  renumbered_right (called f args) = called f (map renumbered_atom args)

  -- an equation whose variables have other numbers
  abbrev pub renumbered_eqn : FlatEqn → FlatEqn
  renumbered_eqn e = record {
    targets = map to e.targets;
    clock = renumbered_clock e.clock;
    right = renumbered_right e.right;
    restart = map to e.restart;
    at = e.at;
  }

-- ---- a part

-- those elements that are marked
abbrev pub marked : {A : Type 0} → List Bool → List A → List A
marked [] xs = []
marked (m ∷ ms) [] = []
marked (m ∷ ms) (x ∷ xs) = if m then x ∷ marked ms xs else marked ms xs

-- the new numbers, from one on: each marked variable has the next one
abbrev pub numbers_from : ℕ → List Bool → List ℕ
numbers_from k [] = []
numbers_from k (m ∷ ms) = k ∷ numbers_from (if m then k + 1 else k) ms

-- which variables and which equations of a node are in a part
pub record Marks : Type 0 where
  pub variables : List Bool
  pub eqns : List Bool

-- the node of a name that has some variables and equations of another one, in order, and these outputs
abbrev pub part_by : Marks → FlatNode → List ℕ → List ℕ → FlatNode
part_by m n name outputs =
    let to = number_at (numbers_from 0 m.variables) in
    record {
      name = name;
      variables = marked m.variables n.variables;
      inputs = n.inputs;
      outputs = map to outputs;
      eqns = map (renumbered_eqn to) (marked m.eqns n.eqns);
    }

-- ---- what outputs read

abbrev pub read_by_atom : Atom → List ℕ
read_by_atom (Read x) = x ∷ []
read_by_atom (Fixed v) = []

abbrev pub read_by_atoms : List Atom → List ℕ
read_by_atoms [] = []
read_by_atoms (a ∷ args) = read_by_atom a ++ read_by_atoms args

-- what the right side reads; of a register also what it takes next
abbrev pub read_by_right : Right → List ℕ
read_by_right (operator op args) = read_by_atoms args
read_by_right (register first next) = read_by_atom next
read_by_right (called f args) = read_by_atoms args

abbrev pub tested_by : Clock → List ℕ
tested_by clock = map (λ s. s.0) clock

-- all variables of an equation: what it defines, its clock, what it begins anew with, and what it reads
abbrev pub variables_of : FlatEqn → List ℕ
variables_of e = e.targets ++ (tested_by e.clock ++ (e.restart ++ read_by_right e.right))

-- a number stands in a list
abbrev pub IsIn : ℕ → List ℕ → Type 0
IsIn x [] = ⊥
IsIn x (y ∷ ys) = (x ≡ y) ⊎ IsIn x ys

-- The least set of variables that has the inputs and the outputs, and with a variable of the node all variables of each equation that defines it.
pub data IsReached (n : FlatNode) (outputs : List ℕ) : ℕ → Type 0 where
  reached_input : {x : ℕ} → x < n.inputs → IsReached n outputs x
  reached_output : {x : ℕ} → IsIn x outputs → IsReached n outputs x
  reached_by : {y : ℕ} (x k : ℕ) (e : FlatEqn) → IsReached n outputs x → x < length n.variables → slice_get n.eqns k ≡ Some e → IsIn x e.targets → IsIn y (variables_of e) → IsReached n outputs y

-- an equation that defines a variable that is reached
abbrev pub IsUsed : FlatNode → List ℕ → ℕ → Type 0
IsUsed n outputs k = (e : FlatEqn) × (x : ℕ) × (slice_get n.eqns k ≡ Some e) × IsIn x e.targets × (x < length n.variables) × IsReached n outputs x

-- The marks are those of the variables that outputs reach, and of the equations that define these.
pub record AreReached (n : FlatNode) (outputs : List ℕ) (m : Marks) : Type 0 where
  pub as_many : length m.variables ≡ length n.variables
  pub each : length m.eqns ≡ length n.eqns
  pub variables : (x : ℕ) → x < length n.variables → (slice_index_or m.variables x false ≡ true) ↔ IsReached n outputs x
  pub eqns : (k : ℕ) → k < length n.eqns → (slice_index_or m.eqns k false ≡ true) ↔ IsUsed n outputs k

-- The part of a node that some outputs read, one equation by another: the least one.
pub record IsPart (n : FlatNode) (name outputs : List ℕ) (other : FlatNode) : Type 0 where
  pub marks : Marks
  pub reached : AreReached n outputs marks
  pub is : other ≡ part_by marks n name outputs
