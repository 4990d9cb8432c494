-- What the filled form has in place of the language's values.
-- Source: own. Nil says that nothing is known; the filled form takes some value there, so what is Nil may become anything, and nothing else changes.
use Rattle.std.specs.Prelude.{◌≡◌, ⊤, List, [], ◌∷◌, ◌++◌}
use Rattle.hp_base.specs.declared.value.Value.{Value}
use Rattle.hp_base.specs.declared.value.Value.TheVariants.{Nil}
use Rattle.hp_tree.specs.Instant.{Controls, Place, Instant, Past}

-- Nil is under each value, and each other value under itself alone.
abbrev pub Under : Value → Value → Type 0
Under Nil w = ⊤
Under v w = w ≡ v

-- as many instants, each place of the first ones under that of the others
abbrev pub PastsUnder : Past → Past → Type 0
PastsUnder [] [] = ⊤
PastsUnder (i ∷ past) (j ∷ other) = ((p : Place) → Under (i p) (j p)) × PastsUnder past other
PastsUnder past other = ⊥

-- What is given is the same at the controllable variables of the node and of each instance.
abbrev pub SameControls : Instant → Instant → Type 0
SameControls free other = (p q : Place) → other (p ++ Controls ∷ q) ≡ free (p ++ Controls ∷ q)

abbrev pub AllSameControls : List Instant → List Instant → Type 0
AllSameControls [] [] = ⊤
AllSameControls (free ∷ frees) (other ∷ others) = SameControls free other × AllSameControls frees others
AllSameControls frees others = ⊥
