-- Diagrams as lines, which may be unreduced and out of order.
use Rattle.std.specs.Prelude.{◌≡◌, ℕ, zero, suc, ◌+◌, ◌<◌, Bool, List, map, slice_get, slice_index_or, Some}
use Rattle.hp_diagram.specs.declared.reference.Ref.{Ref}
use Rattle.hp_diagram.specs.declared.reference.Branch.{Branch}
use Rattle.hp_diagram.specs.Diagrams.{Diagrams, zero_ref, one_ref, path_end, Means}
use Rattle.hp_quant.specs.declared.line.Line.{Line}

-- a line as a node
abbrev pub node_of : Line → Branch
node_of l = record { var = l.var; low = record { index = l.low }; high = record { index = l.high } }

-- the end of the path from a reference of the lines, of which 0 is false, 1 is true, and 2 is the first line
abbrev pub line_function : List Line → ℕ → (ℕ → Bool) → Bool
line_function lines i v = path_end i (map node_of lines) v i

-- the reference that stands for an index of the lines
abbrev pub reference_at : List Ref → ℕ → Ref
reference_at refs zero = zero_ref
reference_at refs (suc zero) = one_ref
reference_at refs (suc (suc i)) = slice_index_or refs i zero_ref

-- each line has a variable of the table and refers to 0, 1 or earlier lines
pub record MayBeImported (t : Diagrams) (lines : List Line) : Type 0 where
  pub var : (i : ℕ) (l : Line) → slice_get lines i ≡ Some l → l.var < t.vars
  pub low : (i : ℕ) (l : Line) → slice_get lines i ≡ Some l → l.low < i + 2
  pub high : (i : ℕ) (l : Line) → slice_get lines i ≡ Some l → l.high < i + 2

-- each of these references is the one of its line's function
abbrev pub AreOfLines : Diagrams → List Line → List Ref → Type 0
AreOfLines t lines refs = (i : ℕ) (r : Ref) → slice_get refs i ≡ Some r → Means t (line_function lines (i + 2)) r
