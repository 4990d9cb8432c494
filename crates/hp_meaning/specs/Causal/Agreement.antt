-- Where what is given is looked at. Two instants are one where it agrees there.
use Rattle.std.specs.Prelude.{ℕ, ◌≡◌, IsTrue, ⊤, List, [], ◌∷◌, ◌++◌}
use Rattle.hp_base.specs.declared.value.Value.{Value}
use Rattle.hp_base.specs.declared.value.Value.TheVariants.{Star}
use Rattle.hp_tree.specs.declared.program.Item.{Item}
use Rattle.hp_tree.specs.Operators.{real, marked, is_there}
use Rattle.hp_tree.specs.Instant.{Controls, Named, Fresh, First, Second, Instance, Place, Instant, Past}
use Rattle.hp_tree.specs.Reaction.{Meets, Reaction}
use Rattle.hp_meaning.specs.Causal.Causality.{IsRanked}
use Rattle.hp_meaning.specs.Causal.Abstract.{abstract_meaning}
use Rattle.hp_meaning.specs.Causal.OneReaction.{SamePasts}

-- ---- in the language: controllable variables alone

-- Two given values agree at the controllable variables of the node and of each instance that is there; these are the parts that have a word whether they begin anew.
abbrev pub AgreeAtControls : Instant → Instant → Instant → Type 0
AgreeAtControls now free other = (p q : Place) → IsTrue (is_there (now (p ++ (Fresh ∷ [])))) → free (p ++ (Controls ∷ q)) ≡ other (p ++ (Controls ∷ q))

abbrev pub AgreeThroughout : Past → List Instant → List Instant → Type 0
AgreeThroughout [] [] [] = ⊤
AgreeThroughout (now ∷ past) (free ∷ frees) (other ∷ others) = AgreeThroughout past frees others × AgreeAtControls now free other
AgreeThroughout past frees others = ⊥

-- Then an instant is one of both.
abbrev pub GivenLaw : Type 0
GivenLaw =
    (program : List Item) (f : List ℕ) (inputs : List Value) (past : Past) (free other now : Instant) → AgreeAtControls now free other
    → Meets real program f inputs (record { past = past; free = free }) now → Meets real program f inputs (record { past = past; free = other }) now

-- So there is one reaction for all given values that agree at the controllable variables of every instance.
abbrev pub OneByControlsLaw : Type 0
OneByControlsLaw =
    (program : List Item) (f : List ℕ) (inputs : List (List Value)) (frees others : List Instant) (past other : Past) → IsRanked program
    → AgreeThroughout past frees others → Reaction program f inputs frees past → Reaction program f inputs others other → SamePasts other past

-- ---- in the abstraction: controllable variables of the node itself, and free places whose values are taken

-- Two given values agree at the comparisons of two integers, and at the outputs of calls that are there, whose values are those that are given.
pub record AgreeAtFree (now free other : Instant) : Type 0 where
  pub comparisons : (p : Place) → now (p ++ (First ∷ [])) ≡ Star → now (p ++ (Second ∷ [])) ≡ Star → now p ≡ free p → free p ≡ other p
  pub outputs : (p : Place) (x : List ℕ) → IsTrue (is_there (now (p ++ (Instance ∷ Fresh ∷ [])))) → now (p ++ (Instance ∷ Named x ∷ [])) ≡ marked (free (p ++ (Instance ∷ Named x ∷ []))) → marked (free (p ++ (Instance ∷ Named x ∷ []))) ≡ marked (other (p ++ (Instance ∷ Named x ∷ [])))

-- Then an abstract instant is one of both, where they agree at the controllable variables of the node.
abbrev pub AbstractGivenLaw : Type 0
AbstractGivenLaw =
    (program : List Item) (f : List ℕ) (inputs : List Value) (past : Past) (free other now : Instant) → AgreeAtFree now free other → ((q : Place) → free (Controls ∷ q) ≡ other (Controls ∷ q))
    → ((p : Place) → now p ≡ abstract_meaning program f inputs (record { past = past; free = free }) now p)
    → (p : Place) → now p ≡ abstract_meaning program f inputs (record { past = past; free = other }) now p

-- So there is one abstract instant for all such given values.
abbrev pub OneByFreeLaw : Type 0
OneByFreeLaw =
    (program : List Item) (f : List ℕ) (inputs : List Value) (past : Past) (free others now other : Instant) → IsRanked program → AgreeAtFree now free others → ((q : Place) → free (Controls ∷ q) ≡ others (Controls ∷ q))
    → ((p : Place) → now p ≡ abstract_meaning program f inputs (record { past = past; free = free }) now p)
    → ((p : Place) → other p ≡ abstract_meaning program f inputs (record { past = past; free = others }) other p)
    → (p : Place) → other p ≡ now p
