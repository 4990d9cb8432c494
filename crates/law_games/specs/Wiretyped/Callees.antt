-- The instances of calls: which of their wires are typed, which registers are in shape, and what given values fit. Of a called node its contract alone is there, and it calls nothing.
-- Source: own.
use Rattle.std.specs.Prelude.{ℕ, ⊤, List, [], ◌∷◌, Option, None, Some}
use Rattle.std.specs.Str.{bytes_eq}
use Rattle.hp_tree.specs.declared.program.Item.{Item}
use Rattle.hp_tree.specs.declared.program.Item.TheVariants.{TypeItem, NodeItem}
use Rattle.hp_tree.specs.Programs.{TypeDecl, Contract, Node}
use Rattle.hp_tree.specs.Instant.{Instant}
use Rattle.hp_typing.specs.Scopes.{inside_node}
use Rattle.law_judged.specs.Typed.Scopes.{Scope}
use Rattle.law_values.specs.Valued.Values.{scope_behind, either_of}
use Rattle.law_games.specs.Wiretyped.Typed.{OutputsTyped, ContractTyped}
use Rattle.law_games.specs.Wiretyped.Kept.{LastsKept, ContractKept, OutputsGiven, ContractGiven}

-- No call in a contract is typed, and none has registers.
abbrev pub none_typed : List ℕ → Instant → Type 0
none_typed f i = ⊥

abbrev pub none_kept : List ℕ → Instant → Instant → Type 0
none_kept f start mem = ⊥

abbrev pub any_given : List ℕ → Instant → Type 0
any_given f i = ⊤

module _ (types : List TypeDecl) where
  abbrev pub AloneTyped : Scope → Node → Instant → Type 0
  AloneTyped s n i = OutputsTyped types n.outputs i × ContractTyped types none_typed (inside_node s n) n.contract i

  -- `last` outputs have registers where there is a contract
  abbrev pub OwnKept : Scope → Node → Option Contract → Instant → Instant → Type 0
  OwnKept s n None start mem = ⊤
  OwnKept s n (Some c) start mem = LastsKept types (inside_node s n) n.outputs mem × ContractKept types none_kept (inside_node s n) (Some c) start mem

  abbrev pub AloneKept : Scope → Node → Instant → Instant → Type 0
  AloneKept s n start mem = OwnKept s n n.contract start mem

  abbrev pub AloneGiven : Scope → Node → Instant → Type 0
  AloneGiven s n i = OutputsGiven types n.outputs i × ContractGiven types any_given (inside_node s n) n.contract i

  -- the node of a name among some items, the last one first
  abbrev pub CalleeTyped : List Item → List ℕ → Instant → Type 0
  CalleeTyped [] f i = ⊥
  CalleeTyped (TypeItem t ∷ earlier) f i = CalleeTyped earlier f i
  CalleeTyped (NodeItem n ∷ earlier) f i = either_of (bytes_eq n.name f) (AloneTyped (scope_behind earlier) n i) (CalleeTyped earlier f i)

  abbrev pub CalleeKept : List Item → List ℕ → Instant → Instant → Type 0
  CalleeKept [] f start mem = ⊥
  CalleeKept (TypeItem t ∷ earlier) f start mem = CalleeKept earlier f start mem
  CalleeKept (NodeItem n ∷ earlier) f start mem = either_of (bytes_eq n.name f) (AloneKept (scope_behind earlier) n start mem) (CalleeKept earlier f start mem)

  abbrev pub CalleeGiven : List Item → List ℕ → Instant → Type 0
  CalleeGiven [] f i = ⊤
  CalleeGiven (TypeItem t ∷ earlier) f i = CalleeGiven earlier f i
  CalleeGiven (NodeItem n ∷ earlier) f i = either_of (bytes_eq n.name f) (AloneGiven (scope_behind earlier) n i) (CalleeGiven earlier f i)
