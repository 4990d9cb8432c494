-- What a solver's verdict says of its table.
use Rattle.std.specs.Prelude.{List, [], ◌∷◌, map}
use Rattle.hp_diagram.specs.declared.reference.Ref.{Ref}
use Rattle.hp_diagram.specs.Diagrams.{Diagrams, Means}
use Rattle.hp_synth.specs.declared.verdict.Verdict.{Verdict}
use Rattle.hp_synth.specs.declared.verdict.Verdict.TheVariants.{Win, Lose}
use Rattle.hp_boolx.specs.Search.{Set}
use Rattle.hp_boolx.specs.Game.{Game}
use Rattle.hp_boolx.specs.Solved.{IsWin, IsLose}
use Rattle.hp_synth.specs.Kept.{AllMean}
use Rattle.hp_synth.specs.Valued.{OfState}

-- Nothing is forced at first, and the reference is that of the safe states; or a violation is forced, and the references are those of the states from which it is forced
-- in one instant, in two, and so on to the least number for the initial state.
abbrev pub IsSolved : Game → Diagrams → Verdict → Type 0
IsSolved g t (Win inv) = (X : Set) × Means t (OfState g X) inv × IsWin g X
IsSolved g t (Lose ranks) = (Xs : List Set) × AllMean t (map (OfState g) Xs) ranks.items × IsLose g Xs

-- the references of a verdict
abbrev pub refs_of : Verdict → List Ref
refs_of (Win inv) = inv ∷ []
refs_of (Lose ranks) = ranks.items

-- The verdict is that nothing is forced.
abbrev pub IsWon : Game → Diagrams → Verdict → Type 0
IsWon g t (Win inv) = (X : Set) × Means t (OfState g X) inv × IsWin g X
IsWon g t (Lose ranks) = ⊥
