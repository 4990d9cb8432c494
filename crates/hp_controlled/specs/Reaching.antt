-- How the part of a node is found: variables are marked when they are met, and the equations that define them when they are followed.
-- Source: own.
use Rattle.std.specs.Prelude.{◌≡◌, ℕ, zero, suc, ◌+◌, nat_lt, not, Bool, true, false, if◌then◌else◌, List, [], ◌∷◌, ◌++◌, length, slice_get, slice_index_or, slice_set, replicate, take, Option, None, Some}
use Rattle.std.specs.List.{range_with_len}
use Rattle.hp_flat.specs.Equations.{FlatEqn}
use Rattle.hp_flat.specs.Nodes.{FlatNode}
use Rattle.hp_controlled.specs.declared.part.Reached as held
use Rattle.hp_controlled.specs.declared.part.Definitions as table
use Rattle.hp_controlled.specs.Parts.{variables_of, Marks}

-- which variables and equations are marked, and which variables are not followed yet
pub record Reaching : Type 0 where
  pub variables : List Bool
  pub eqns : List Bool
  pub waiting : List ℕ

-- as the code holds it
abbrev pub reaching_seen : held.Reached → Reaching
reaching_seen r = record { variables = r.variables.items; eqns = r.eqns.items; waiting = r.waiting.items }

abbrev pub marks_seen : held.Reached → Marks
marks_seen r = record { variables = r.variables.items; eqns = r.eqns.items }

-- a variable is marked, and waits
abbrev pub with_variable : ℕ → Reaching → Reaching
with_variable x r = record { variables = slice_set r.variables x true; eqns = r.eqns; waiting = r.waiting ++ x ∷ [] }

-- a variable is met: if it is none of those that are marked, it is marked
unfoldable pub touched : ℕ → Reaching → Reaching
touched x r = if slice_index_or r.variables x true then r else with_variable x r

abbrev pub all_touched : List ℕ → Reaching → Reaching
all_touched [] r = r
all_touched (x ∷ xs) r = all_touched xs (touched x r)

-- an equation is marked
abbrev pub with_eqn : ℕ → Reaching → Reaching
with_eqn k r = record { variables = r.variables; eqns = slice_set r.eqns k true; waiting = r.waiting }

-- an equation is met: if it is none of those that are marked, it is marked, and all its variables are met
unfoldable pub entered : ℕ → FlatEqn → Reaching → Reaching
entered k e r = if slice_index_or r.eqns k true then r else all_touched (variables_of e) (with_eqn k r)

abbrev pub entered_if : ℕ → Option FlatEqn → Reaching → Reaching
entered_if k None r = r
entered_if k (Some e) r = entered k e r

abbrev pub entered_at : FlatNode → ℕ → Reaching → Reaching
entered_at n k r = entered_if k (slice_get n.eqns k) r

-- equations of a node are met, by their numbers
abbrev pub all_entered : FlatNode → List ℕ → Reaching → Reaching
all_entered n [] r = r
all_entered n (k ∷ ks) r = all_entered n ks (entered_at n k r)

-- ---- definitions

-- Definitions, each with the place of the one before it of the same variable, one more than it, or 0; and of each variable the place of the last one, likewise.
pub record Definitions : Type 0 where
  pub last : List ℕ
  pub all : List (ℕ × ℕ)

abbrev pub definitions_seen : table.Definitions → Definitions
definitions_seen d = record { last = d.last.items; all = d.all.items }

-- one more definition of a variable, by the equation with this number
unfoldable pub with_definition : ℕ → ℕ → Definitions → Definitions
with_definition x k d =
    if nat_lt x (length d.last) then record { last = slice_set d.last x (length d.all + 1); all = d.all ++ (k, slice_index_or d.last x 0) ∷ [] } else d

abbrev pub with_definitions : List ℕ → ℕ → Definitions → Definitions
with_definitions [] k d = d
with_definitions (x ∷ xs) k d = with_definitions xs k (with_definition x k d)

-- those of equations that are numbered from one on
abbrev pub with_eqns : ℕ → List FlatEqn → Definitions → Definitions
with_eqns k [] d = d
with_eqns k (e ∷ es) d = with_eqns (k + 1) es (with_definitions e.targets k d)

abbrev pub no_definitions : ℕ → Definitions
no_definitions count = record { last = replicate count 0; all = [] }

abbrev pub definitions_of : FlatNode → Definitions
definitions_of n = with_eqns 0 n.eqns (no_definitions (length n.variables))

-- the equations of definitions from a place on, at most so many
abbrev pub chain : ℕ → List (ℕ × ℕ) → ℕ → List ℕ
chain zero all at = []
chain (suc most) all zero = []
chain (suc most) all (suc i) = elim (slice_get all i) [ None ↦ [] | Some d ↦ d.0 ∷ chain most all d.1 ]

-- the equations that define a variable
abbrev pub definitions_at : Definitions → ℕ → List ℕ
definitions_at d x = chain (length d.all) d.all (slice_index_or d.last x 0)

-- a variable is followed: the equations that define it are met
abbrev pub followed : FlatNode → Definitions → ℕ → Reaching → Reaching
followed n d x r = all_entered n (definitions_at d x) r

-- ---- to the end

-- what is marked first: the inputs and the outputs
abbrev pub nothing_marked : FlatNode → Reaching
nothing_marked n = record { variables = replicate (length n.variables) false; eqns = replicate (length n.eqns) false; waiting = [] }

abbrev pub first_marked : FlatNode → List ℕ → Reaching
first_marked n outputs = all_touched outputs (all_touched (range_with_len 0 n.inputs) (nothing_marked n))

-- without the last one that waits
abbrev pub without : Reaching → List ℕ → Reaching
without r waiting = record { variables = r.variables; eqns = r.eqns; waiting = waiting }

-- Those that wait are followed, the last one first, until none is left.
pub data Ends (n : FlatNode) (d : Definitions) : Reaching → Reaching → Type 0 where
  at_end : {r : Reaching} → r.waiting ≡ [] → Ends n d r r
  one_more : {r other : Reaching} (waiting : List ℕ) (x : ℕ) → r.waiting ≡ waiting ++ x ∷ [] → Ends n d (followed n d x (without r waiting)) other → Ends n d r other
