-- Why a program is refused: shapes of contracts in all nodes come before the counts of all nodes.
use Rattle.std.specs.Prelude.{◌≡◌, ℕ, List, Option, None, Some, option_map}
use Rattle.hp_base.specs.declared.limit.Limit.{Limit}
use Rattle.hp_tree.specs.declared.program.Item.{Item}
use Rattle.hp_expand.specs.Counts.{limit_of}
use Rattle.hp_expand.specs.Shapes.{Breach, breach_in}
use Rattle.hp_expand.specs.declared.error.ExpandErr.{ExpandErr}
use Rattle.hp_expand.specs.declared.error.ExpandErr.TheVariants as error

-- a breach of a shape, and a limit that is passed, each with the node
abbrev pub shape_at : List ℕ × Breach → ExpandErr
shape_at b = error.Shape b.0 b.1.at b.1.shape

abbrev pub limit_at : List ℕ × Limit → ExpandErr
limit_at l = error.Limit l.0 l.1

abbrev pub first_of : Option (List ℕ × Breach) → Option (List ℕ × Limit) → Option ExpandErr
first_of None limit = option_map limit_at limit
first_of (Some b) limit = Some (shape_at b)

-- what is said of a program, if anything
abbrev pub refusal_of : List Item → Option ExpandErr
refusal_of program = first_of (breach_in program) (limit_of program)

-- The contracts of a program have their shapes, and its counts are within the limits.
abbrev pub IsFormed : List Item → Type 0
IsFormed program = refusal_of program ≡ None

-- The error is what is said; want of memory may come at any time.
abbrev pub Names : Option ExpandErr → ExpandErr → Type 0
Names refusal (error.Shape node span shape) = refusal ≡ Some (error.Shape node span shape)
Names refusal (error.Limit node limit) = refusal ≡ Some (error.Limit node limit)
Names refusal error.OutOfMemory = Unit {0}
