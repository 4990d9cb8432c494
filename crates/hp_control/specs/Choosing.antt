-- Control bits that are chosen one by one.
use Rattle.std.specs.Prelude.{ℕ, ◌+◌, ◌-◌, ◌≡◌, List, ◌++◌, drop, length}
use Rattle.hp_diagram.specs.declared.reference.Ref.{Ref}
use Rattle.hp_diagram.specs.Diagrams.{Diagrams}
use Rattle.hp_boolx.specs.Game.{Game, preferred}
use Rattle.hp_boolx.specs.Search.{Bits, Set}
use Rattle.hp_synth.specs.Building.{HasEach, functions_at}
use Rattle.hp_synth.specs.Valued.{Valued, through, states, earlies}
use Rattle.hp_control.specs.Controlling.{AreLeft}

-- The first i bits have their functions: the rest is to be chosen from what is left, and together they are the preferred choice.
pub record Chosen (g : Game) (place : ℕ → ℕ) (q : Bits → Bits → Set) (from : ℕ) (prefer : Bits) (t : Diagrams) (i : ℕ) (left : Ref) (funs : List Ref) : Type 0 where
  pub rest : Bits → Bits → Set
  pub is_left : AreLeft g place t (from + i) (length prefer - i) rest left
  pub has : HasEach t funs
  pub together : (v : Valued) → functions_at t funs v ++ preferred (drop i prefer) (rest (states g (through place v)) (earlies g (through place v))) ≡ preferred prefer (q (states g (through place v)) (earlies g (through place v)))
