-- A function that is true wherever another is.
use Rattle.std.specs.Prelude.{ℕ, Bool, IsTrue}
use Rattle.hp_diagram.specs.declared.reference.Ref.{Ref}
use Rattle.hp_diagram.specs.Diagrams.{Diagrams, function}
use Rattle.hp_quant.specs.declared.pair.Pair.{Pair}
use Rattle.hp_quant.specs.declared.pair.Found.{Found}
use Rattle.hp_quant.specs.Turns.{WasFound}

abbrev pub Implies : Diagrams → Ref → Ref → Type 0
Implies t f g = (v : ℕ → Bool) → IsTrue (function t f v) → IsTrue (function t g v)

-- what the pass has found is right: of each pair the second function is true wherever the first is
abbrev pub AllImplied : Diagrams → Found → Type 0
AllImplied t m = (p : Pair) (s : Ref) → WasFound m p s → Implies t p.f p.g
