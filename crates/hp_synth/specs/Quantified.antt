-- There is a value, and for all values, of ranges of a machine's variables, in a table where these stand at places.
use Rattle.std.specs.Prelude.{◌↔◌, ℕ, IsTrue}
use Rattle.hp_diagram.specs.declared.reference.Ref.{Ref}
use Rattle.hp_diagram.specs.Diagrams.{Diagrams, function, Has}
use Rattle.hp_quant.specs.Quantifiers.{DifferWithin}
use Rattle.hp_synth.specs.Valued.{Valued, Fun, through}

module _ (place : ℕ → ℕ) (from to : ℕ) where
  -- the machine's variables differ at most from `from` up to, not including, `to`
  abbrev pub DifferIn : Valued → Valued → Type 0
  DifferIn v w = DifferWithin from to (through place v) (through place w)

  -- s is true where some values of the range make a function true
  pub record IsSomeIn (new : Diagrams) (f : Fun) (s : Ref) : Type 0 where
    pub has : Has new s
    pub value : (v : Valued) → IsTrue (function new s v) ↔ ((w : Valued) × DifferIn v w × IsTrue (f w))

  -- s is true where all values of the range make a function true
  pub record IsAllIn (new : Diagrams) (f : Fun) (s : Ref) : Type 0 where
    pub has : Has new s
    pub value : (v : Valued) → IsTrue (function new s v) ↔ ((w : Valued) → DifferIn v w → IsTrue (f w))
