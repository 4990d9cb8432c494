-- Clocks that are known in part, as cells: what each cell tells of its clock.
-- Source: unification by Robinson (1965), of terms with one argument, over an array of terms that share their parts.
use Rattle.std.specs.Prelude.{ℕ, zero, suc, ◌<◌, ◌≤◌, ◌≡◌, ⊤, Bool, true, false, if◌then◌else◌, List, [], ◌∷◌, length}
use Rattle.hp_tree.specs.Instant.{Clock}
use Rattle.hp_meaning.specs.Clocking.Clocking.{On}
use Rattle.hp_clocks.specs.declared.cell.Cell.{Cell}
use Rattle.hp_clocks.specs.declared.cell.Cell.TheVariants as cell
use Rattle.hp_clocks.specs.declared.cell.Meeting.{Meeting}
use Rattle.hp_clocks.specs.declared.cell.Meeting.TheVariants as meeting

-- what is told of a clock
pub data Told : Type 0 where
  unknown : Told
  same_as : ℕ → Told
  on_base : Told
  step_on : On → ℕ → Told

abbrev pub told : Cell → Told
told (cell.Open n) = unknown
told (cell.Same j) = same_as j
told cell.Base = on_base
told (cell.On c x u) = step_on (c.now, x.now) u

-- Nothing is told of what is no cell.
abbrev pub told_at : List Cell → ℕ → Told
told_at [] i = unknown
told_at (c ∷ cs) zero = told c
told_at (c ∷ cs) (suc i) = told_at cs i

-- a clock for each cell
abbrev pub Clocks : Type 0
Clocks = ℕ → Clock

abbrev pub Says : Clocks → ℕ → Told → Type 0
Says at i unknown = ⊤
Says at i (same_as j) = at i ≡ at j
Says at i on_base = at i ≡ []
Says at i (step_on o u) = at i ≡ o ∷ at u

-- These are clocks of the cells.
abbrev pub Fits : (ℕ → Told) → Clocks → Type 0
Fits cells at = (i : ℕ) → Says at i (cells i)

abbrev pub is_cell : ℕ → ℕ → Bool
is_cell zero zero = true
is_cell zero (suc j) = false
is_cell (suc i) zero = false
is_cell (suc i) (suc j) = is_cell i j

abbrev pub with_told : (ℕ → Told) → ℕ → Told → ℕ → Told
with_told cells w c i = if is_cell w i then c else cells i

-- ---- no clock stands on itself: a number falls from each cell to the one that it is told by

abbrev pub IsLess : (ℕ → ℕ) → ℕ → Told → Type 0
IsLess rank i unknown = ⊤
IsLess rank i (same_as j) = rank j < rank i
IsLess rank i on_base = ⊤
IsLess rank i (step_on o u) = rank u < rank i

pub record Falls (cells : ℕ → Told) : Type 0 where
  pub rank : ℕ → ℕ
  pub falls : (i : ℕ) → IsLess rank i (cells i)

-- ---- the clock that is read from the cells, where what is unknown is the base clock

abbrev pub steps_by : (ℕ → Clock) → Told → Clock
steps_by below unknown = []
steps_by below (same_as j) = below j
steps_by below on_base = []
steps_by below (step_on o u) = o ∷ below u

-- as far as this many cells tell
abbrev pub steps : ℕ → (ℕ → Told) → ℕ → Clock
steps zero cells i = []
steps (suc n) cells i = steps_by (λ j. steps n cells j) (cells i)

-- ---- how many cells tell a clock

abbrev pub chain_by : (ℕ → ℕ) → Told → ℕ
chain_by below unknown = 0
chain_by below (same_as j) = suc (below j)
chain_by below on_base = 0
chain_by below (step_on o u) = suc (below u)

abbrev pub chain : ℕ → (ℕ → Told) → ℕ → ℕ
chain zero cells i = 0
chain (suc n) cells i = chain_by (λ j. chain n cells j) (cells i)

abbrev pub turns : List Cell → ℕ → ℕ
turns cells i = chain (suc (length cells)) (told_at cells) i

-- ---- the open clock, or the base clock, on which a clock stands

abbrev pub end_by : ℕ → (ℕ → ℕ) → Told → ℕ
end_by i below unknown = i
end_by i below (same_as j) = below j
end_by i below on_base = i
end_by i below (step_on o u) = below u

abbrev pub end_of : ℕ → (ℕ → Told) → ℕ → ℕ
end_of zero cells i = i
end_of (suc n) cells i = end_by i (λ j. end_of n cells j) (cells i)

abbrev pub end_at : List Cell → ℕ → ℕ
end_at cells i = end_of (suc (length cells)) (told_at cells) i

-- ---- the cells of an array

-- Each is told by cells that are there.
abbrev pub IsWithin : ℕ → Told → Type 0
IsWithin n unknown = ⊤
IsWithin n (same_as j) = j < n
IsWithin n on_base = ⊤
IsWithin n (step_on o u) = u < n

pub record AreCells (cells : List Cell) : Type 0 where
  pub falling : Falls (told_at cells)
  pub within : (i : ℕ) → IsWithin (length cells) (told_at cells i)
  pub base : told_at cells 0 ≡ on_base

-- More is told: the clocks are those for which this holds too.
pub record Tells (before after : List Cell) (P : Clocks → Type 0) : Type 0 where
  pub cells : AreCells after
  pub longer : length before ≤ length after
  pub says : (at : Clocks) → Fits (told_at after) at → Fits (told_at before) at × P at
  pub fits : (at : Clocks) → Fits (told_at before) at → P at → Fits (told_at after) at

-- No clocks of the cells are so.
abbrev pub Never : List Cell → (Clocks → Type 0) → Type 0
Never cells P = (at : Clocks) → Fits (told_at cells) at → P at → ⊥

-- the cells that are not the same as another one
abbrev pub IsEnd : Told → Type 0
IsEnd (same_as j) = ⊥
IsEnd c = ⊤

-- ---- where two clocks are made equal

-- Two clocks are equal exactly where two others are.
abbrev pub Alike : List Cell → ℕ → ℕ → ℕ → ℕ → Type 0
Alike cells a b left right =
    (at : Clocks) → Fits (told_at cells) at → (at a ≡ at b → at left ≡ at right) × (at left ≡ at right → at a ≡ at b)

-- One of the two is open or the base clock, and none is the same as another one.
abbrev pub AreEnds : Told → Told → Type 0
AreEnds unknown unknown = ⊤
AreEnds unknown on_base = ⊤
AreEnds unknown (step_on o u) = ⊤
AreEnds on_base unknown = ⊤
AreEnds on_base on_base = ⊤
AreEnds on_base (step_on o u) = ⊤
AreEnds (step_on o u) unknown = ⊤
AreEnds (step_on o u) on_base = ⊤
AreEnds c d = ⊥

-- a step, or the base clock
abbrev pub StandsAbove : Told → Type 0
StandsAbove unknown = ⊥
StandsAbove (same_as j) = ⊥
StandsAbove on_base = ⊤
StandsAbove (step_on o u) = ⊤

pub record Met (cells : List Cell) (a b left right : ℕ) : Type 0 where
  pub left_there : left < length cells
  pub right_there : right < length cells
  pub differ : left ≡ right → ⊥
  pub ends : AreEnds (told_at cells left) (told_at cells right)
  pub alike : Alike cells a b left right

-- what there is where two clocks are walked down together
abbrev pub Meets : List Cell → ℕ → ℕ → Meeting → Type 0
Meets cells a b meeting.Clash = Never cells (λ at. at a ≡ at b)
Meets cells a b meeting.Equal = (at : Clocks) → Fits (told_at cells) at → at a ≡ at b
Meets cells a b (meeting.Ends left right) = Met cells a b left right
