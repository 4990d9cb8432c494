-- What an abstract history keeps of a reaction.
-- Source: own. Integers are one mark, and of each callee its contract is kept with the arguments and outputs that it speaks of.
use Rattle.std.specs.Prelude.{ℕ, ℤ, ◌≡◌, Bool, true, false, ◌&&◌, ◌||◌, if◌then◌else◌, List, [], ◌∷◌, ◌++◌, map, filter, ⊤}
use Rattle.hp_base.specs.declared.value.Value.{Value}
use Rattle.hp_base.specs.declared.value.Value.TheVariants.{Absent, I, Star}
use Rattle.hp_tree.specs.declared.program.Item.{Item}
use Rattle.hp_tree.specs.declared.program.Item.TheVariants.{TypeItem, NodeItem}
use Rattle.hp_tree.specs.Operators.{real, marked}
use Rattle.hp_tree.specs.Instant.{Step, Body, Controls, Instance, First, Second, Place, Instant, Past}
use Rattle.hp_tree.specs.Meaning.{meaning}
use Rattle.hp_meaning.specs.Causal.Points.{points_of_contract}
use Rattle.hp_meaning.specs.Causal.Abstract.{abstract_meaning}
use Rattle.hp_meaning.specs.Contract.FreePlaces.{is_call}

abbrev pub is_instance : Step → Bool
is_instance Instance = true
is_instance s = false

-- a callee's body and its controllable variables, which its contract does not see
abbrev pub begins_hidden : Place → Bool
begins_hidden (Body ∷ p) = true
begins_hidden (Controls ∷ p) = true
begins_hidden p = false

-- whether a place stands in a callee, outside of its contract
abbrev pub is_forgotten : Place → Bool
is_forgotten [] = false
is_forgotten (s ∷ p) = is_instance s && begins_hidden p || is_forgotten p

-- an instant of a node, as its abstraction sees it
abbrev pub erased : Instant → Instant
erased i p = if is_forgotten p then Absent else marked (i p)

abbrev pub erase : Past → Past
erase past = map erased past

-- ---- the law

-- What holds at the instants of a program of right types: no place holds the mark, and what is made of two integers is there.
pub record WellValued (now : Instant) : Type 0 where
  pub no_mark : (p : Place) → now p ≡ Star → ⊥
  pub of_numbers : (p : Place) (a b : ℤ) → now (p ++ (First ∷ [])) ≡ I a → now (p ++ (Second ∷ [])) ≡ I b → now p ≡ Absent → ⊥

-- No contract of a program holds a call.
abbrev pub ContractsCallNothing : List Item → Type 0
ContractsCallNothing [] = ⊤
ContractsCallNothing (TypeItem t ∷ items) = ContractsCallNothing items
ContractsCallNothing (NodeItem n ∷ items) = (filter (λ c. is_call c.point.kind) (points_of_contract n.contract (λ p. p)) ≡ []) × ContractsCallNothing items

-- Forgetting turns an instant of a node into one of its abstraction, after the forgotten past; the values of its free places are its own.
abbrev pub ErasedLaw : Type 0
ErasedLaw = (program : List Item) (f : List ℕ) (inputs : List Value) (past : Past) (free now : Instant) → ContractsCallNothing program → WellValued now → ((p : Place) → now p ≡ meaning real program f inputs (record { past = past; free = free }) now p) → (p : Place) → erased now p ≡ abstract_meaning program f inputs (record { past = erase past; free = λ q. marked (now q) }) (erased now) p
