-- Tables by number of variable.
use Rattle.std.specs.Prelude.{◌≡◌, ℕ, ◌+◌, Bool, true, ◌&&◌, min, nat_eq, nat_lt, if◌then◌else◌, List, [], ◌∷◌, length, get_or}
use Rattle.std.proofs.Math.ListN.{set, replicate}
use Rattle.hp_flat.specs.declared.equation.Atom.{Atom}
use Rattle.hp_flat.specs.declared.equation.Atom.TheVariants.{Variable}
use Rattle.hp_flat.specs.Equations.{FlatEqn}
use Rattle.hp_flat.specs.Nodes.{FlatNode}
use Rattle.hp_normal.specs.Needing.{is_operator}
use Rattle.hp_normal.specs.Reading.{eqn_reads, targets, uses, fixed, sampled}
use Rattle.hp_normal.specs.declared.retarget.MoveFacts.{MoveFacts}
use Rattle.hp_normal.specs.declared.substitute.ReadFacts.{ReadFacts}

-- ---- how often, up to twice

abbrev pub counted_one : ℕ → List ℕ → List ℕ
counted_one x counts = set counts x (min 2 (get_or counts x 0 + 1))

abbrev pub counted : List ℕ → List ℕ → List ℕ
counted [] counts = counts
counted (x ∷ xs) counts = counted xs (counted_one x counts)

-- ---- where a variable is defined

-- the places of some numbers are set
abbrev pub all_set : {A : Type 0} → List ℕ → A → List A → List A
all_set [] a xs = xs
all_set (n ∷ ns) a xs = all_set ns a (set xs n a)

-- the place of the first equation that defines each variable; equations of which the first has a place
abbrev pub definers : ℕ → List FlatEqn → List ℕ → List ℕ
definers i [] places = places
definers i (e ∷ es) places = all_set e.targets i (definers (i + 1) es places)

-- ---- tables as functions

abbrev pub ends_at : List ℕ → ℕ → ℕ
ends_at table x = get_or table x x

abbrev pub stands_at : List Atom → ℕ → Atom
stands_at table x = get_or table x (Variable x)

-- ---- what is needed

-- none of some variables is counted
abbrev pub none_counted : List ℕ → List ℕ → Bool
none_counted counts [] = true
none_counted counts (y ∷ ys) = (nat_lt y (length counts) && nat_eq (get_or counts y 0) 0) && none_counted counts ys

abbrev pub is_uncounted : List ℕ → FlatEqn → Bool
is_uncounted counts e = is_operator e.right && none_counted counts e.targets

-- an equation counts what it reads, if it is needed
abbrev pub with_need : FlatEqn → List ℕ → List ℕ
with_need e counts = if is_uncounted counts e then counts else counted (eqn_reads e) counts

-- so do equations, the last one first
abbrev pub with_needs : List FlatEqn → List ℕ → List ℕ
with_needs [] counts = counts
with_needs (e ∷ es) counts = with_need e (with_needs es counts)

-- ---- what is known of the variables of a node

-- a table of counts for a list
abbrev pub Counts : FlatNode → List ℕ → List ℕ → Type 0
Counts n xs counts = counts ≡ counted xs (replicate (length n.variables) 0)

pub record AreMoveFacts (n : FlatNode) (f : MoveFacts) : Type 0 where
  pub targets : Counts n (targets n) f.targets.items
  pub uses : Counts n (uses n) f.uses.items
  pub definers : f.definers.items ≡ definers 0 n.eqns (replicate (length n.variables) 0)

pub record AreReadFacts (n : FlatNode) (f : ReadFacts) : Type 0 where
  pub targets : Counts n (targets n) f.targets.items
  pub fixed : Counts n (fixed n) f.fixed.items
  pub sampled : Counts n (sampled n) f.sampled.items
