-- That there is exactly one instant, and exactly one reaction.
use Rattle.std.specs.Prelude.{ℕ, ◌≡◌, ◌++◌, List, [], ◌∷◌, ⊤, length, drop}
use Rattle.hp_base.specs.declared.value.Value.{Value}
use Rattle.hp_tree.specs.declared.program.Item.{Item}
use Rattle.hp_tree.specs.Operators.{Reading}
use Rattle.hp_tree.specs.Instant.{Place, Instant, Past, Given}
use Rattle.hp_tree.specs.Meaning.{meaning}
use Rattle.hp_tree.specs.Filled.{filled_meaning}
use Rattle.hp_tree.specs.Reaction.{Reaction}
use Rattle.hp_meaning.specs.Causal.Causality.{IsRanked, AllCausal}
use Rattle.hp_meaning.specs.Causal.Abstract.{abstract_meaning}

-- An instant holds at each place what is said of it, and every other one that does is the same at every place.
pub record OneInstant (said : Instant → Instant) : Type 0 where
  pub now : Instant
  pub meets : (p : Place) → now p ≡ said now p
  pub only : (other : Instant) → ((p : Place) → other p ≡ said other p) → (p : Place) → other p ≡ now p

-- what is said of an instant, by its inputs and by what it is read with
abbrev pub Said : Type 0
Said = List Value → Given → Instant → Instant

-- one instant for each list of inputs, the newest first, each with the earlier ones as its past
abbrev pub ReactionOf : Said → List (List Value) → List Instant → Past → Type 0
ReactionOf said [] [] [] = ⊤
ReactionOf said (inputs ∷ earlier) (free ∷ frees) (now ∷ past) =
    ReactionOf said earlier frees past × ((p : Place) → now p ≡ said inputs (record { past = past; free = free }) now p)
ReactionOf said inputs frees past = ⊥

-- as many instants, which agree at every place
abbrev pub SamePasts : Past → Past → Type 0
SamePasts [] [] = ⊤
SamePasts (i ∷ past) (j ∷ other) = ((p : Place) → i p ≡ j p) × SamePasts past other
SamePasts past other = ⊥

pub record OneReactionOf (reaction : Past → Type 0) : Type 0 where
  pub past : Past
  pub is_one : reaction past
  pub only : (other : Past) → reaction other → SamePasts other past

-- ---- the laws

-- Under each reading: after each past, for each list of inputs and all that is given, there is exactly one instant.
abbrev pub InstantLaw : Type 0
InstantLaw = (reading : Reading) (program : List Item) (node : List ℕ) (inputs : List Value) (g : Given) → IsRanked program → OneInstant (meaning reading program node inputs g)

-- So in the filled form of the language.
abbrev pub FilledLaw : Type 0
FilledLaw = (program : List Item) (node : List ℕ) (inputs : List Value) (g : Given) → IsRanked program → OneInstant (filled_meaning program node inputs g)

-- Over each list of inputs, and as many instants of given values, there is exactly one reaction.
abbrev pub ReactionLaw : Type 0
ReactionLaw = (program : List Item) (node : List ℕ) (inputs : List (List Value)) (frees : List Instant) → IsRanked program → length frees ≡ length inputs → OneReactionOf (Reaction program node inputs frees)

-- So in a program whose nodes are causal, with each name declared and the clocks right.
abbrev pub CausalReactionLaw : Type 0
CausalReactionLaw = (program : List Item) (node : List ℕ) (inputs : List (List Value)) (frees : List Instant) → AllCausal program → length frees ≡ length inputs → OneReactionOf (Reaction program node inputs frees)

-- the same under each reading
abbrev pub ReactionLawRead : Type 0
ReactionLawRead = (reading : Reading) (program : List Item) (node : List ℕ) (inputs : List (List Value)) (frees : List Instant) → IsRanked program → length frees ≡ length inputs → OneReactionOf (ReactionOf (meaning reading program node) inputs frees)

-- What comes later changes nothing: a reaction over more inputs begins with the one over the fewer.
abbrev pub PrefixLaw : Type 0
PrefixLaw = (program : List Item) (node : List ℕ) (later inputs : List (List Value)) (later_frees frees : List Instant) (past other : Past) → IsRanked program → length later_frees ≡ length later → Reaction program node (later ++ inputs) (later_frees ++ frees) past → Reaction program node inputs frees other → SamePasts (drop (length later) past) other

-- In the Boolean abstraction too there is exactly one instant, after each history and for all values of the free places.
abbrev pub AbstractLaw : Type 0
AbstractLaw = (program : List Item) (node : List ℕ) (inputs : List Value) (g : Given) → IsRanked program → OneInstant (abstract_meaning program node inputs g)

-- and exactly one abstract history
abbrev pub AbstractHistoryLaw : Type 0
AbstractHistoryLaw = (program : List Item) (node : List ℕ) (inputs : List (List Value)) (frees : List Instant) → IsRanked program → length frees ≡ length inputs → OneReactionOf (ReactionOf (abstract_meaning program node) inputs frees)
