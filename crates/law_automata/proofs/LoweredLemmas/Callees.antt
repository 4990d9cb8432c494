-- What is known of the nodes that are called, before and after.
use Rattle.std.proofs.Common.{◌≡◌, ℕ, List, [], ◌∷◌}
use Rattle.hp_base.specs.declared.value.Value.{Value}
use Rattle.hp_tree.specs.Instant.{Fresh, Named, Instant, Given}
use Rattle.hp_tree.specs.Meaning.{Nodes}
use Rattle.law_automata.specs.Lowered.Standing.{Relation, Along}
use Rattle.law_automata.specs.Lowered.Deciding.{Property, IfThere}

-- an instant that holds what is said of it, and is so
abbrev pub Met : Property → (Instant → Instant) → Type 0
Met P said = (j : Instant) × (j ≡ said j) × P j

-- Each instant of a node gives one of the node without automata that stands for it.
pub record Callees (N N' : Nodes) (stands given : List ℕ → Relation) (decided : List ℕ → Property) : Type 0 where
  pub outputs : (f : List ℕ) → N'.outputs f ≡ N.outputs f
  pub fresh : (f : List ℕ) (i j : Instant) → stands f i j → i (Fresh ∷ []) ≡ j (Fresh ∷ [])
  pub named : (f : List ℕ) (i j : Instant) → stands f i j → (x : List ℕ) → i (Named x ∷ []) ≡ j (Named x ∷ [])
  pub step : (f : List ℕ) (inputs : List Value) (g g' : Given) (now : Instant) → Along (stands f) g.past g'.past → given f g.free g'.free → IfThere (decided f) now
      → now ≡ N.instant f inputs g now → Met (stands f now) (λ j. N'.instant f inputs g' j)
