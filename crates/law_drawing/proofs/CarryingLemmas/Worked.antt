-- The sketch before all is solved by its two numbers, and the place of a node itself is there and begins nothing anew.
use Rattle.std.proofs.Common.{ℕ, true, false, List, [], ◌∷◌, refl}
use Rattle.hp_tree.specs.Meaning.{Names}
use Rattle.hp_tree.specs.Programs.{TypeDecl}
use Rattle.hp_drawing.specs.Places.{top_place}
use Rattle.hp_drawing.specs.Sketch.{nothing, begun, empty, push, add_clock}
use Rattle.law_drawing.specs.Carrying.Drawing.{IsSolved, IsTold, IsPlace, IsClock}

pub empty-solved : (slot : ℕ → ℕ) → IsSolved slot empty (0 ∷ 1 ∷ [])
unfolding empty begun nothing push add_clock
empty-solved slot = record { solved = (refl, (refl, tt)); low_is = refl; high_is = refl; base_is = refl; shaped = refl; hyp_is = (true, refl); duty_is = (true, refl) }

pub empty-told : IsTold empty (0 ∷ 1 ∷ []) true true
unfolding empty begun nothing push add_clock
empty-told = record { hyp = refl; duty = refl }

pub top-place : IsPlace (0 ∷ 1 ∷ []) top_place true false false
top-place = record { here_is = refl; cut_is = refl; kept_is = refl; same = λ h. refl }

pub top-clock : (types : List TypeDecl) (names : Names) → IsClock types names empty.clocks (0 ∷ 1 ∷ []) top_place.clock []
top-clock types names = refl
