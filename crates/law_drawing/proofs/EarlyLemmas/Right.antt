-- Slots that are early exactly where their places are, one by one.
use Rattle.std.proofs.Common.{◌≡◌, ℕ, suc, ◌<◌, Bool, true, false, List, [], ◌∷◌, length, reverse, slice_index_or, inl, inr, refl, sym, ap, subst, ◌∙◌, arith}
use Rattle.hp_tree.specs.declared.program.Item.{Item}
use Rattle.hp_tree.specs.Instant.{Place}
use Rattle.hp_tree.specs.Meaning.{types_of, node_among}
use Rattle.hp_tree.specs.Programs.{TypeDecl, Node}
use Rattle.hp_circuit.specs.declared.circuit.Circuit.{Circuit}
use Rattle.hp_circuit.specs.declared.circuit.Role.{Role}
use Rattle.hp_circuit.specs.declared.circuit.Role.TheVariants as role
use Rattle.hp_circuit.specs.declared.circuit.Shape.{Shape}
use Rattle.hp_circuit.specs.declared.circuit.Slot.{Slot}
use Rattle.hp_circuit.specs.declared.kind.Kind.TheVariants.{Early, Late}
use Rattle.hp_circuit.specs.Forms.{slot_at}
use Rattle.hp_circuit.specs.Kinds.{role_kind, kind_of}
use Rattle.hp_circuit.specs.Reading.{edges_of, AreSteered}
use Rattle.hp_meaning.specs.Contract.Forgetting.{ContractsCallNothing}
use Rattle.hp_meaning.specs.Contract.FreePlaces.{IsFree, IsEarly}
use Rattle.hp_meaning.specs.Contract.Memory.{number_in, memory}
use Rattle.hp_meaning.specs.Contract.Slots as slots
use Rattle.hp_meaning.specs.Contract.Slots.{register, free, input, control, free_among, free_places, slots_of_node}
use Rattle.hp_drawing.specs.Kept as kept
use Rattle.hp_drawing.specs.Kept.{Kept, kept_as, kept_of, kept_slots}
use Rattle.hp_drawing.specs.Seen.{IsOf}
use Rattle.hp_drawing.specs.Told.{told_of}
use Rattle.hp_drawing.specs.DrawnNodes.{drawn_node}
use Rattle.hp_drawing.proofs.NodeDrawn.{node-planned}
use Rattle.hp_drawing.specs.Slotted.Slotted.{slots_as}
use Rattle.hp_drawing.proofs.SlottedLemmas.NamedLaws.{all_apart, one_apart}
use Rattle.hp_drawing.proofs.SlottedLemmas.StartLaws.{node_starts}
use Rattle.hp_drawing.proofs.SlottedLemmas.TypeLaws.{node-same}
use Rattle.law_drawing.specs.Steered.Laid.{laid, place_at, slot_place}
use Rattle.law_drawing.specs.Steered.Nodes.{NodeFits}
use Rattle.law_drawing.proofs.SteeredLemmas.EarlySlots.{early-kinds}
use Rattle.law_drawing.specs.Carried.Early.{HasRight, AreRight}
use Rattle.law_drawing.specs.Early.Right.{IsReached, RightLaw}
use Rattle.law_drawing.proofs.EarlyLemmas.Nodes.{node-flagged}

-- a slot that is kept as a free one is free by its role
free-role : (r : Role) (s t : Shape) {C : Type 0} → kept_as r s ≡ kept.free t → ((early : Bool) → r ≡ role.Free early → C) → C
free-role (role.Register first next) s t e f = absurd cc
free-role role.Input s t e f = absurd cc
free-role role.Control s t e f = absurd cc
free-role (role.Free early) s t e f = f early refl

-- what is of the early kind may be early, and its wire is not marked
early-kind : (r : Role) (early b : Bool) → r ≡ role.Free early → role_kind r b ≡ Early → (early ≡ true) × (b ≡ false)
early-kind r early b e h = by early b (sym (ap (λ i. role_kind i b) e) ∙ h)
  where
    by : (early b : Bool) → role_kind (role.Free early) b ≡ Early → (early ≡ true) × (b ≡ false)
    by false b k = absurd (let z : Late ≡ Early = k in cc)
    by true true k = absurd (let z : Late ≡ Early = k in cc)
    by true false k = (refl, refl)

module _ (program : List Item) (n : Node) (steered : List Bool) where
  abbrev Says : Slot → Place → Type 0
  Says c p = (early : Bool) → c.role ≡ role.Free early → IsFree (free_places program n) p → HasRight program n steered p c

  tail-kept : (c : Slot) (cs : List Slot) (k : Kept) (ks : List Kept) → kept_slots (c ∷ cs) ≡ k ∷ ks → kept_slots cs ≡ ks
  tail-kept c cs k ks e = cc

  head-kept : (c : Slot) (cs : List Slot) (k : Kept) (ks : List Kept) → kept_slots (c ∷ cs) ≡ k ∷ ks → kept_of c ≡ k
  head-kept c cs k ks e = cc

  none-kept : (k : Kept) (ks : List Kept) → kept_slots [] ≡ k ∷ ks → ⊥
  none-kept k ks e = absurd cc

  abbrev Others : List Slot → List Place → Type 0
  Others cs ps = (i : ℕ) → i < length cs → Says (slot_at cs i) (place_at ps i)

  more : (c : Slot) (cs : List Slot) (p : Place) (ps : List Place) → Others (c ∷ cs) (p ∷ ps) → Others cs ps
  more c cs p ps f i l = f (suc i) (omega (arith, l))

  module _ (types : List TypeDecl) (first : Place → ℕ) where
    right-from : (ss : List slots.Slot) (cs : List Slot) → kept_slots cs ≡ slots_as types first ss → ((q : Place) → IsFree (free_among ss) q → IsFree (free_places program n) q) → Others cs (laid ss) → AreRight program n steered ss cs
    right-from [] cs e is f = tt
    right-from (register q slots.truth ∷ ss) [] e is f = absurd (none-kept _ (slots_as types first ss) e)
    right-from (register q slots.truth ∷ ss) (c ∷ cs) e is f = (tt, right-from ss cs (tail-kept c cs _ (slots_as types first ss) e) is (more c cs q (laid ss) f))
    right-from (register q slots.mark ∷ ss) cs e is f = right-from ss cs e is f
    right-from (register q (slots.cons t m) ∷ ss) [] e is f = absurd (none-kept _ (slots_as types first ss) e)
    right-from (register q (slots.cons t m) ∷ ss) (c ∷ cs) e is f = (tt, right-from ss cs (tail-kept c cs _ (slots_as types first ss) e) is (more c cs q (laid ss) f))
    right-from (free q t ∷ ss) [] e is f = absurd (none-kept _ (slots_as types first ss) e)
    right-from (free q t ∷ ss) (c ∷ cs) e is f = (
      free-role c.role c.shape _ (head-kept c cs _ (slots_as types first ss) e) (λ early r. f 0 (omega arith) early r (is q (inl refl))),
      right-from ss cs (tail-kept c cs _ (slots_as types first ss) e) (λ p h. is p (inr h)) (more c cs q (laid ss) f),
    )
    right-from (input q t ∷ ss) [] e is f = absurd (none-kept _ (slots_as types first ss) e)
    right-from (input q t ∷ ss) (c ∷ cs) e is f = (tt, right-from ss cs (tail-kept c cs _ (slots_as types first ss) e) (λ p h. is p (inr h)) (more c cs q (laid ss) f))
    right-from (control q t ∷ ss) [] e is f = absurd (none-kept _ (slots_as types first ss) e)
    right-from (control q t ∷ ss) (c ∷ cs) e is f = (tt, right-from ss cs (tail-kept c cs _ (slots_as types first ss) e) is (more c cs q (laid ss) f))

  marked-not : (b : Bool) → b ≡ true → b ≡ false → ⊥
  marked-not b h k = let z : true ≡ false = sym h ∙ k in cc

  one-right : ContractsCallNothing program → NodeFits (told_of program) n → IsReached program n (drawn_node (told_of program) n)
      → let s = drawn_node (told_of program) n in AreSteered s.slots (edges_of s.wires s.reads) steered → Others s.slots (laid (slots_of_node program n))
  one-right nothing fits reached are i l early e free_is =
      let t = told_of program in
      let s = drawn_node t n in
      let c = slot_at s.slots i in
      let p = slot_place program n i in
      let known : (f : List ℕ) → t.nodes f ≡ node_among (reverse program) f = node-same program in
      let flag = node-flagged program t n known nothing i l early e in
      let into : kind_of steered c ≡ Early → IsEarly program n p = λ k. (let m = early-kind c.role early (slice_index_or steered c.wire false) e k in
      record { is_free = free_is; on_base = flag.0 m.0; unsteered = λ between q chain. marked-not (slice_index_or steered c.wire false) ((are c.wire).1 (reached i l (e ∙ ap role.Free m.0) (inr (between, q, chain)))) m.1 }) in
      (into, λ is. early-kinds program t n known nothing fits steered are i l (e ∙ ap role.Free (flag.1 is.on_base)) is)

-- where the slots of what is drawn are those of the node, but for wires
pub right-where : (program : List Item) (n : Node) (c : Circuit) → ContractsCallNothing program
    → kept_slots (drawn_node (told_of program) n).slots ≡ slots_as (types_of program) (λ p. number_in (memory program n [] p)) (slots_of_node program n)
    → NodeFits (told_of program) n → IsOf c (drawn_node (told_of program) n) → IsReached program n (drawn_node (told_of program) n)
    → (steered : List Bool) → AreSteered c.slots.items (edges_of c.wires.items c.reads.items) steered → AreRight program n steered (slots_of_node program n) c.slots.items
right-where program n c calls kept fits is reached steered are =
    let s = drawn_node (told_of program) n in
    let here : AreSteered s.slots (edges_of s.wires s.reads) steered = subst (λ ss. AreSteered ss (edges_of s.wires s.reads) steered) is.slots (subst (λ es. AreSteered c.slots.items es steered) (λ j. edges_of (is.wires j) (is.reads j)) are) in
    subst (λ ss. AreRight program n steered (slots_of_node program n) ss) (sym is.slots)
    (right-from program n steered (types_of program) (λ p. number_in (memory program n [] p)) (slots_of_node program n) s.slots kept (λ q h. h) (one-right program n steered calls fits reached here))

pub node-right : RightLaw
node-right program n c calls named among fits is reached steered are =
    right-where program n c calls (node-planned (told_of program) n ∙ node_starts program n calls (all_apart program named) (one_apart program n among (all_apart program named))) fits is reached steered are
