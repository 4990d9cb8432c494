-- A free slot whose wire reads a controllable variable has a place that depends on one, and so none that is early.
use Rattle.std.proofs.Common.{◌≡◌, ℕ, ◌<◌, Bool, true, false, List, [], ◌∷◌, length, reverse, slice_index_or, Option, None, Some, refl, sym, ap, ◌∙◌, inl, inr}
use Rattle.std.proofs.lemmas.Option.{none-some}
use Rattle.hp_tree.specs.declared.program.Item.{Item}
use Rattle.hp_tree.specs.Instant.{Assume, Body, Controls, Place}
use Rattle.hp_tree.specs.Meaning.{node_among}
use Rattle.hp_tree.specs.Programs.{Contract, Node}
use Rattle.hp_circuit.specs.declared.circuit.Role.TheVariants as role
use Rattle.hp_circuit.specs.declared.circuit.Role.{Role}
use Rattle.hp_circuit.specs.declared.kind.Kind.TheVariants.{Early}
use Rattle.hp_circuit.specs.Forms.{slot_at}
use Rattle.hp_circuit.specs.Kinds.{role_kind, kind_of}
use Rattle.hp_circuit.specs.Reading.{edges_of, IsSteered, AreSteered}
use Rattle.hp_meaning.specs.Contract.Forgetting.{ContractsCallNothing}
use Rattle.hp_meaning.specs.Contract.FreePlaces.{FreeClocks, by_step, free_in_block, free_in_contract, own_free, IsEarly}
use Rattle.hp_drawing.specs.Told.{Told}
use Rattle.hp_drawing.specs.DrawnNodes.{drawn_node}
use Rattle.law_drawing.specs.Steered.Nodes.{Depends, steering_of, NodeFits}
use Rattle.law_drawing.specs.Steered.Laid.{slot_place}
use Rattle.law_drawing.proofs.SteeredLemmas.Nodes.{free-depends, assumption-depends}
use Rattle.law_drawing.proofs.SteeredLemmas.StandingNodes.{node-placed}
use Rattle.law_drawing.proofs.SteeredLemmas.NothingCalled.{contracts-none}
use Rattle.law_drawing.proofs.SteeredLemmas.LayingNodes.{node-stands}

pub slot-depends : (program : List Item) (t : Told) (n : Node) → ((f : List ℕ) → t.nodes f ≡ node_among (reverse program) f) → ContractsCallNothing program → NodeFits t n
    → let s = drawn_node t n in
    (i : ℕ) → i < length s.slots → (early : Bool) → (slot_at s.slots i).role ≡ role.Free early → IsSteered s.slots (edges_of s.wires s.reads) (slot_at s.slots i).wire → Depends n (slot_place program n i)
slot-depends program t n known nothing fits = free-depends t n (slot_place program n) fits (node-placed (steering_of n (slot_place program n)) t n (node-stands program t n known (λ f m q. contracts-none program nothing f m (sym (known f) ∙ q))))

-- a controllable variable is no free place
controls-free : (body : FreeClocks) (o : Option Contract) (q : Place) → by_step ((Body, body) ∷ free_in_contract o) (Controls ∷ q) ≡ None
controls-free body None q = refl
controls-free body (Some c) q = refl

independent : (program : List Item) (n : Node) (p : Place) → IsEarly program n p → Depends n p → ⊥
independent program n p early (inl c) = none-some [] (sym (controls-free (free_in_block n.body) n.contract c.0) ∙ ap (own_free n) (sym c.1) ∙ early.on_base)
independent program n p early (inr c) = early.unsteered c.0 c.1 c.2

pub early-unsteered : (program : List Item) (t : Told) (n : Node) → ((f : List ℕ) → t.nodes f ≡ node_among (reverse program) f) → ContractsCallNothing program → NodeFits t n
    → let s = drawn_node t n in
    (i : ℕ) → i < length s.slots → (early : Bool) → (slot_at s.slots i).role ≡ role.Free early → IsEarly program n (slot_place program n i) → IsSteered s.slots (edges_of s.wires s.reads) (slot_at s.slots i).wire → ⊥
early-unsteered program t n known nothing fits i l early e is from = independent program n (slot_place program n i) is (slot-depends program t n known nothing fits i l early e from)

-- ---- kinds

early-kind : (r : Role) (b : Bool) → r ≡ role.Free true → (b ≡ true → ⊥) → role_kind r b ≡ Early
early-kind r b e h = ap (λ i. role_kind i b) e ∙ by b h
  where
    by : (b : Bool) → (b ≡ true → ⊥) → role_kind (role.Free true) b ≡ Early
    by true h = absurd (h refl)
    by false h = refl

pub early-kinds : (program : List Item) (t : Told) (n : Node) → ((f : List ℕ) → t.nodes f ≡ node_among (reverse program) f) → ContractsCallNothing program → NodeFits t n
    → let s = drawn_node t n in
    (steered : List Bool) → AreSteered s.slots (edges_of s.wires s.reads) steered → (i : ℕ) → i < length s.slots → (slot_at s.slots i).role ≡ role.Free true → IsEarly program n (slot_place program n i) → kind_of steered (slot_at s.slots i) ≡ Early
early-kinds program t n known nothing fits steered are i l e is =
    let s = drawn_node t n in
    let c = slot_at s.slots i in
    early-kind c.role (slice_index_or steered c.wire false) e (λ m. early-unsteered program t n known nothing fits i l true e is ((are c.wire).0 m))

-- ---- the assumption

pub assumption-marked : (program : List Item) (t : Told) (n : Node) → ((f : List ℕ) → t.nodes f ≡ node_among (reverse program) f) → ContractsCallNothing program → NodeFits t n → let s = drawn_node t n in IsSteered s.slots (edges_of s.wires s.reads) s.assume → Depends n (Assume ∷ [])
assumption-marked program t n known nothing fits = assumption-depends t n (slot_place program n) fits (node-placed (steering_of n (slot_place program n)) t n (node-stands program t n known (λ f m q. contracts-none program nothing f m (sym (known f) ∙ q))))
