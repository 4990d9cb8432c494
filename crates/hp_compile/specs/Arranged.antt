-- What a judged program has to meet further, and what it is then.
use Rattle.std.specs.Prelude.{ℕ, List, Option, None, Some, option_map}
use Rattle.hp_base.specs.declared.limit.Limit.{Limit}
use Rattle.hp_base.specs.declared.span.Span.{Span}
use Rattle.hp_tree.specs.declared.program.Item.{Item}
use Rattle.hp_expand.specs.declared.error.ExpandErr.{ExpandErr}
use Rattle.hp_expand.specs.declared.error.ExpandErr.TheVariants as error
use Rattle.hp_expand.specs.declared.error.Shape.{Shape}
use Rattle.hp_expand.specs.Numbering.{replaced}
use Rattle.hp_clocks.specs.Answers.{HaveClocks, IsClocked, NoneLong}
use Rattle.hp_clocks.specs.Writing.{AreWritten}
use Rattle.hp_init.specs.Initialised.{IsInitialised}
use Rattle.hp_meaning.specs.Causal.RanksOfPoints.{AllFall}
use Rattle.hp_cause.specs.Ordering.{AllNodesCausal}
use Rattle.hp_compile.specs.Counts.{counts, KeepLimits, first_passed}
use Rattle.hp_compile.specs.Shapes.{HasShapes, first_shape}

-- Its contracts have their shapes, and with its inlined calls replaced its counts are within the limits.
pub record IsWellFormed (program : List Item) : Type 0 where
  pub shapes : HasShapes program
  pub limits : KeepLimits (counts (replaced program))

-- Else this is said: the first breach of a shape, or where there is none the first count that passes its limit.
abbrev pub said_of : Option (List ℕ × Span × Shape) → Option (List ℕ × Limit) → Option ExpandErr
said_of None limit = option_map (λ (l : List ℕ × Limit). error.Limit l.0 l.1) limit
said_of (Some b) limit = Some (error.Shape b.0 b.1 b.2)

abbrev pub first_breach : List Item → Option ExpandErr
first_breach program = said_of (first_shape program) (first_passed (counts (replaced program)))

-- the program with the shortest clocks of each node written, none of which is too long
abbrev pub HasClocks : List Item → List Item → Type 0
HasClocks program clocked = AreWritten IsClocked program clocked

-- It is well formed. With its inlined calls replaced each node may have clocks, and none of the shortest is too long; its values are there from the first instant on where that is wanted; and with its clocks
-- written no value depends on itself at one instant.
pub record IsArrangeable (program : List Item) : Type 0 where
  pub well_formed : IsWellFormed program
  pub clocks : HaveClocks (replaced program)
  pub short : NoneLong (replaced program)
  pub initialised : IsInitialised (replaced program)
  pub causal : (clocked : List Item) → HasClocks (replaced program) clocked → AllNodesCausal clocked

-- What it is then: this is the program with its clocks written, which is causal, and these are ranks of the points of its nodes.
pub record IsArranged (program clocked : List Item) (ranks : List (List ℕ)) : Type 0 where
  pub well_formed : IsWellFormed program
  pub clocks : HasClocks (replaced program) clocked
  pub initialised : IsInitialised (replaced program)
  pub causal : AllNodesCausal clocked
  pub ordered : AllFall clocked ranks
