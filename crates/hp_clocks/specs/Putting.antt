-- What is told of the cells, unit by unit.
use Rattle.std.specs.Prelude.{ℕ, ◌<◌, ◌≤◌, ◌≡◌, ⊤, ◌||◌, List, [], ◌∷◌, ◌++◌, length, map, reverse, None, Some, Result, Ok, Err}
use Rattle.std.specs.Borrow.{Bor}
use Rattle.hp_base.specs.declared.span.Span.{Span}
use Rattle.hp_tree.specs.Expressions.{Expr}
use Rattle.hp_tree.specs.Blocks.{Decl, Block, block}
use Rattle.hp_tree.specs.Programs.{Node}
use Rattle.hp_tree.specs.Meaning.{declares}
use Rattle.hp_tree.specs.Instant.{Clock}
use Rattle.hp_meaning.specs.Causal.Clocked.{ClockRight}
use Rattle.hp_clocks.specs.declared.cell.Cell.{Cell}
use Rattle.hp_clocks.specs.declared.cell.Failure.{Failure}
use Rattle.hp_clocks.specs.declared.cell.Failure.TheVariants as failure
use Rattle.hp_clocks.specs.declared.solve.Unsolved.{Unsolved}
use Rattle.hp_clocks.specs.declared.solve.Unsolved.TheVariants as unsolved
use Rattle.hp_clocks.specs.Cells.{Clocks, told_at, Fits, AreCells, Never}
use Rattle.hp_clocks.specs.Scopes.{Sight, standing, Agree, AreThere, Grows}
use Rattle.hp_clocks.specs.Units.{CellUnit, declared, Allows, AllAllow, place_of, cell_of, on_base}

-- Clocks of the first cells settle it.
abbrev pub Settles : ℕ → (Clocks → Type 0) → Type 0
Settles n P = (at more : Clocks) → Agree n at more → P at → P more

-- More is told: the clocks are those that these units allow. The first n cells are those of variables.
pub record Puts (n : ℕ) (before after : List Cell) (us : List CellUnit) : Type 0 where
  pub floor : n ≤ length before
  pub grows : Grows before after (λ at. AllAllow at us)
  pub settles : Settles n (λ at. AllAllow at us)

-- The unit at a place is the first such that the clocks of these cells that the units up to it allow are none.
pub record Fails (n : ℕ) (before : List Cell) (us : List CellUnit) (at : Span) : Type 0 where
  pub earlier : List CellUnit
  pub one : CellUnit
  pub later : List CellUnit
  pub split : us ≡ earlier ++ one ∷ later
  pub placed : place_of one ≡ at
  pub cells : List Cell
  pub puts : Puts n before cells earlier
  pub never : Never cells (λ clocks. Allows clocks one)

-- how the units come out
abbrev pub Solves : ℕ → List Cell → List Cell → List CellUnit → Result ⊤ Unsolved → Type 0
Solves n before after us (Ok x) = Puts n before after us
Solves n before after us (Err (unsolved.Clash at)) = Fails n before us at
Solves n before after us (Err unsolved.OutOfMemory) = ⊤

-- The cells of variables are there, and names are seen by them.
pub record IsReady (n : ℕ) (known : List Cell) (see : Sight) : Type 0 where
  pub cells : AreCells known
  pub floor : n ≤ length known
  pub some : 0 < n
  pub there : AreThere n see

-- A clock that is written has this cell, where the names of its steps are on the clocks under them.
pub record IsPath (before after : List Cell) (see : Sight) (path : Clock) (i : ℕ) : Type 0 where
  pub grows : Grows before after (λ at. ClockRight (standing at see) (reverse path))
  pub there : i < length after
  pub told : (at : Clocks) → Fits (told_at after) at → at i ≡ reverse path

-- right sides as the code holds them
abbrev pub rights_seen : List (ℕ × Bor Expr) → List (ℕ × Expr)
rights_seen rs = map (λ r. (r.0, r.1.now)) rs

-- ---- a block that has been entered

abbrev pub own_size : Block → ℕ
own_size (block ds es) = length ds

-- the cells of a block's own locals
abbrev pub own_locals : ℕ → Block → List ℕ
own_locals k (block ds es) = map (λ d. cell_of es k ds d) ds

-- what becomes of a unit
abbrev pub out_of_unit : Span → Result ⊤ Failure → Result ⊤ Unsolved
out_of_unit at (Ok x) = Ok x
out_of_unit at (Err failure.Clash) = Err (unsolved.Clash at)
out_of_unit at (Err failure.OutOfMemory) = Err unsolved.OutOfMemory

-- the unit of a declaration, if a clock is written on it
abbrev pub declared_unit : Sight → ℕ → Decl → List CellUnit
declared_unit see i d = elim d.clock [ None ↦ [] | Some path ↦ declared d.span see i (reverse path) ∷ [] ]

-- those of declarations with these cells
abbrev pub declared_units : Sight → List ℕ → List Decl → List CellUnit
declared_units see is [] = []
declared_units see [] (d ∷ ds) = []
declared_units see (i ∷ is) (d ∷ ds) = declared_unit see i d ++ declared_units see is ds

-- inputs, outputs and some controllable variables are on the base clock
abbrev pub interface_sight : Node → List Decl → Sight
interface_sight n controls x = on_base (declares n.inputs x || (declares n.outputs x || declares controls x))

-- Cells of the base clock and of variables, of which nothing is known.
pub record IsOpened (n : ℕ) (known : List Cell) : Type 0 where
  pub cells : AreCells known
  pub many : length known ≡ n
  pub fits : (at : Clocks) → at 0 ≡ [] → Fits (told_at known) at
