-- What may be chosen after a history of the game is what a machine that mirrors the node may choose.
use Rattle.std.proofs.Common.{◌≡◌, ◌⊎◌, inl, inr, List, [], ◌∷◌, map, refl, subst}
use Rattle.std.proofs.lemmas.List.Elements.{All-nil, All-cons}
use Rattle.std.specs.Prelude.{ℕ, All, Option, None, Some, length}
use Rattle.hp_base.specs.declared.ty.Ty.{Ty}
use Rattle.hp_base.specs.declared.ty.Ty.TheVariants as ty
use Rattle.hp_base.specs.declared.value.Value.{Value}
use Rattle.hp_base.specs.declared.value.Value.TheVariants.{B, E, I}
use Rattle.hp_tree.specs.declared.program.Item.{Item}
use Rattle.hp_tree.specs.Programs.{TypeDecl, Contract, Node}
use Rattle.hp_tree.specs.Operators.{marked}
use Rattle.hp_tree.specs.Instant.{Inputs, Controls, Body, Step, Place, Instant, Past, Clock}
use Rattle.hp_tree.specs.Meaning.{types_of}
use Rattle.hp_tree.specs.Values.{IsOf}
use Rattle.law_games.proofs.WiretypedLemmas.Givens.{inputs_fit}
use Rattle.hp_meaning.specs.Contract.FreePlaces.{FreeClocks, by_step, free_in_contract, free_in_block, IsAbstractOf, IsEarly}
use Rattle.hp_meaning.specs.Contract.Game.{Choice}
use Rattle.hp_boolx.specs.Machine.{Machine}
use Rattle.hp_meaning.specs.Contract.Memory.{memory}
use Rattle.hp_meaning.specs.Contract.Slots.{Slot, register, free, input, control, free_among, slots_of_node}
use Rattle.law_games.specs.Mirror.Choices.{BitsInOrder, SameMemoryPermittedLaw, SameMemoryChoiceLaw, SomeMemoryChoiceLaw}
use Rattle.law_games.specs.Mirror.FilledHistories.{AllFilled}
use Rattle.law_games.specs.Mirror.Histories.{EarlyFits}
use Rattle.law_games.specs.Mirror.Mirrored.{given_with, Mirrors}
use Rattle.law_games.specs.Mirror.Memories.{SlotsFit}
use Rattle.law_games.proofs.ReadyGamesLemmas.Settled.{class, settled}
use Rattle.law_games.specs.ReadyGames.Laws.{Stands, IsInOrder}
use Rattle.law_games.specs.Forced.Laws.{MachineChoicesLaw, SomeChoiceLaw}
use Rattle.law_games.specs.Forced.Twins.{ChoosesAsMemory, ChoosesAsMachine}
use Rattle.law_games.proofs.ReadyGamesLemmas.Histories.{twin}
use Rattle.law_games.proofs.ForcedLemmas.Choices.{memory_shaped, safe_memory, each_choice, choices}

-- ---- early places

abbrev base : Clock
base = []

none_base : {X : Type 0} → None ≡ Some base → X
none_base e = absurd (cc)

-- An early place is none of inputs and controllable variables.
not_base : {X : Type 0} (k : FreeClocks) (s : Step) (p : Place) (o : Option Contract) → by_step ((Body, k) ∷ free_in_contract o) (s ∷ p) ≡ Some [] → (s ≡ Inputs) ⊎ (s ≡ Controls) → X
not_base k s p None e (inl q) = none_base (subst (λ z. by_step ((Body, k) ∷ []) (z ∷ p) ≡ Some []) q e)
not_base k s p None e (inr q) = none_base (subst (λ z. by_step ((Body, k) ∷ []) (z ∷ p) ≡ Some []) q e)
not_base k s p (Some c) e (inl q) = none_base (subst (λ z. by_step ((Body, k) ∷ free_in_contract (Some c)) (z ∷ p) ≡ Some []) q e)
not_base k s p (Some c) e (inr q) = none_base (subst (λ z. by_step ((Body, k) ∷ free_in_contract (Some c)) (z ∷ p) ≡ Some []) q e)

early_given : (program : List Item) (n : Node) (inputs : List Value) (early : Instant) (c : Choice) (p : Place) → IsEarly program n p → given_with inputs early c p ≡ early p
early_given program n inputs early c (Inputs ∷ p) e = not_base (free_in_block n.body) Inputs p n.contract e.on_base (inl refl)
early_given program n inputs early c (Controls ∷ p) e = not_base (free_in_block n.body) Controls p n.contract e.on_base (inr refl)
early_given program n inputs early c p e = refl

-- ---- values of types

of_is : (types : List TypeDecl) (t : Ty) (v : Value) → IsOf types t v → IsAbstractOf types t v
of_is types ty.Bool (B b) h = (b, refl)
of_is types ty.Int (I n) h = refl
of_is types (ty.Enum t) (E u k) h = h
of_is types t v h = absurd h

module _ (types : List TypeDecl) (P : Place → Type 0) (root early : Instant) (same : (p : Place) → P p → root p ≡ early p) where
  one_fits : (p : Place) (t : Ty) → IsOf types t (root p) → P p → IsAbstractOf types t (early p)
  one_fits p t h e = subst (IsAbstractOf types t) (same p e) (of_is types t (root p) h)

  early_fits : (ss : List Slot) → SlotsFit types ss root → All (λ q. P q.0 → IsAbstractOf types q.1 (early q.0)) (free_among ss)
  early_fits [] h = All-nil (λ q. P q.0 → IsAbstractOf types q.1 (early q.0))
  early_fits (register p s ∷ ss) h = early_fits ss h
  early_fits (control p t ∷ ss) h = early_fits ss h
  early_fits (input p t ∷ ss) h = All-cons (λ q. P q.0 → IsAbstractOf types q.1 (early q.0)) (p, t) (free_among ss) (one_fits p t h.0) (early_fits ss h.1)
  early_fits (free p t ∷ ss) h = All-cons (λ q. P q.0 → IsAbstractOf types q.1 (early q.0)) (p, t) (free_among ss) (one_fits p t h.0) (early_fits ss h.1)

module _ (after : List Item) (n : Node) (inputs : List Value) (early : Instant) (slots : (d : Choice) → SlotsFit (types_of after) (slots_of_node after n) (given_with (map marked inputs) early d)) where
  early_typed : (c : Choice) → EarlyFits after n early
  early_typed c = early_fits (types_of after) (IsEarly after n) (given_with (map marked inputs) early c) early (early_given after n (map marked inputs) early c) (slots_of_node after n) (slots c)

-- ---- the laws

-- Where nothing is ever forced from the memory that a history leaves, some choice is permitted after it.
pub some_choice : SomeMemoryChoiceLaw → SomeChoiceLaw
some_choice some program after ranks o earlier n st m form M h a s inputs early fit slots =
    let S = settled program after ranks o earlier n st in
    let cl = class program after ranks o earlier n st in
    let b = twin program after ranks o earlier n st h a in
    let shape = memory_shaped program after ranks o earlier n st m M b.0 b.1.0 in
    let safe = safe_memory program after ranks o earlier n st m M h b.0 a b.1.0 b.1.1 s in
    let c = some after cl.0 earlier n m form S M (memory after n b.0) (map marked inputs) early shape slots safe in
    let both = each_choice program after ranks o earlier n st m M h b.0 a b.1.0 b.1.1 inputs early fit (early_typed after n inputs early slots c.0) in
    (c.0, c.1, (both.0 c.0 c.1).1 c.2)

-- What may be chosen at the memory that a history leaves is what the machine may choose at its bits.
pub machine_choices : SameMemoryPermittedLaw → SameMemoryChoiceLaw → (program after : List Item) (ranks : List (List ℕ)) (o : IsInOrder program after ranks) (earlier : List Item) (n : Node) (st : Stands after earlier n) (m : Machine) (M : Mirrors after earlier n m)
    → BitsInOrder after n m.prefer → length m.prefer ≡ m.control → (h h' : Past) → AllFilled after earlier n h' → ChoosesAsMemory after earlier n h h' → ChoosesAsMachine after earlier n m M h h'
machine_choices permitted chosen program after ranks o earlier n st m M O long h h' u memories inputs early fit slots c is =
    let S = settled program after ranks o earlier n st in
    let cl = class program after ranks o earlier n st in
    let both = memories inputs early fit (early_typed after n inputs early slots c) in
    let shape = memory_shaped program after ranks o earlier n st m M h' u in
    let wires = inputs_fit (types_of after) n.inputs inputs fit in
    let p = permitted after cl.0 earlier n m S M (memory after n h') (map marked inputs) early c shape wires (slots c) is in
    let q = chosen after cl.0 earlier n m S M O long (memory after n h') (map marked inputs) early c shape wires slots is in
    (((λ z. p.0 ((both.0 c is).0 z)), (λ z. (both.0 c is).1 (p.1 z))), ((λ z. q.0 ((both.1 c is).0 z)), (λ z. (both.1 c is).1 (q.1 z))))

pub on_machines : SameMemoryPermittedLaw → SameMemoryChoiceLaw → MachineChoicesLaw
on_machines permitted chosen program after ranks o earlier n st m M O long h a =
    let x = choices program after ranks o earlier n st m M h a in
    (x.0, (x.1.0, (x.1.1.0, machine_choices permitted chosen program after ranks o earlier n st m M O long h x.0 x.1.0 x.1.1.1)))
