-- What a flat name reads at its own instant, and how long chains of such reads are.
use Rattle.std.specs.Prelude.{⊤, ℕ, zero, suc, List, Option, None, Some}
use Rattle.std.specs.List.{AllByRecursion}
use Rattle.hp_base.specs.declared.value.Value.{Value}
use Rattle.law_equations.specs.Flattened.Flat.{Arg, name, value, Right, Op, Register, Call, Row, Flat}
use Rattle.law_equations.specs.Flattened.Flatten.{FlatName}

-- P is true of each name that is read: those of its arguments, but not the next value of a register
module _ (P : FlatName → Type 0) where
  abbrev pub ArgReads : Arg FlatName → Type 0
  ArgReads (name a) = P a
  ArgReads (value v) = ⊤

  abbrev pub RightReads : Right FlatName → Type 0
  RightReads (Op o xs) = AllByRecursion ArgReads xs
  RightReads (Register v x) = ⊤
  RightReads (Call f k xs) = AllByRecursion ArgReads xs

  -- and those of its clock and its restart list
  abbrev pub RowReads : Row FlatName → Type 0
  RowReads r = AllByRecursion (λ (on : Value × FlatName). P on.1) r.clock × AllByRecursion P r.restart × RightReads r.right

  abbrev pub RowsRead : Option (List (Row FlatName)) → Type 0
  RowsRead None = ⊤
  RowsRead (Some rows) = AllByRecursion RowReads rows

-- Each chain of reads from a name has fewer names than this.
abbrev pub IsShorter : Flat FlatName → ℕ → FlatName → Type 0
IsShorter flat zero a = ⊥
IsShorter flat (suc n) a = RowsRead (λ b. IsShorter flat n b) (flat a)

-- The chains of reads from a name end.
abbrev pub Ends : Flat FlatName → FlatName → Type 0
Ends flat a = (n : ℕ) × IsShorter flat n a
