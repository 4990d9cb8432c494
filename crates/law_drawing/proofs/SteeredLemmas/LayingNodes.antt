-- So the slots of a node stand for its places.
use Rattle.std.proofs.Common.{◌≡◌, ℕ, List, [], ◌∷◌, ◌++◌, reverse, Option, None, Some, refl, sym, ap, subst, ◌∙◌, inl, inr}
use Rattle.std.specs.Prelude.{⊤}
use Rattle.std.proofs.lemmas.List.{append-nil}
use Rattle.hp_tree.specs.declared.program.Item.{Item}
use Rattle.hp_tree.specs.Blocks.{Decl}
use Rattle.hp_tree.specs.ExpressionTypes as types_shown
use Rattle.hp_tree.specs.ExpressionTypes.{typed_in, untyped, first_type}
use Rattle.hp_tree.specs.Instant.{Inputs, Controls, Body, Instance, Place}
use Rattle.hp_tree.specs.Meaning.{types_of, controls_of, node_among}
use Rattle.hp_tree.specs.Programs.{TypeDecl, Contract, Node}
use Rattle.hp_meaning.specs.Causal.Sources.{only, below}
use Rattle.hp_circuit.specs.declared.circuit.Shape.TheVariants.{Truth}
use Rattle.hp_meaning.specs.Contract.Slots as slots
use Rattle.hp_meaning.specs.Contract.Slots.{Slot, is_int, callee_slots, slots_of_block, slots_of_contract, slots_of_node}
use Rattle.hp_drawing.specs.Kept as kept
use Rattle.hp_drawing.specs.Kept.{Kept, is_mark}
use Rattle.hp_drawing.specs.Told.{Told}
use Rattle.hp_drawing.specs.Planned.{Names, first_shape, outputs_by, with_row, with_lasts, with_call, declaring, planned_observer, contract_names, no_callee, called_of, called}
use Rattle.law_drawing.specs.Steered.Marks.{Steering}
use Rattle.law_drawing.specs.Steered.Stands.{none_asked, CallStands, CalledStands, contracts_asked, ObserverStands, NodeStands}
use Rattle.law_drawing.specs.Steered.Nodes.{Depends, steering_of}
use Rattle.law_drawing.specs.Steered.Laid.{laid, slot_place}
use Rattle.law_drawing.proofs.SteeredLemmas.Uncalled.{ContractCallsNothing}
use Rattle.law_drawing.proofs.SteeredLemmas.Laying.{laid-both, mark-type, Agree, declared-agree, At, at-lasts, at-row, lasts_slots, outputs_slots, row_slots, steers, outputs-next}
use Rattle.law_drawing.proofs.SteeredLemmas.LayingParts.{block-laid, contract-laid}

abbrev decls_by : Option Node → List Decl
decls_by None = []
decls_by (Some n) = n.outputs

abbrev nothing_called : List ℕ → (Place → Place) → List Slot
nothing_called f w = []

abbrev no_outputs : List ℕ → List Decl
no_outputs f = []

-- what a contract sees
abbrev seen : Node → types_shown.Scope
seen n = typed_in n.inputs (typed_in n.outputs untyped)

contract-agree : (t : Told) (n : Node) → Agree (contract_names t n) (seen n)
contract-agree t n = declared-agree t n.inputs (declaring t n.outputs (λ x. Truth)) (typed_in n.outputs untyped) (declared-agree t n.outputs (λ x. Truth) untyped (λ x. refl))

first-agree : (t : Told) (types : List TypeDecl) (outs : List ℕ → List Decl) (ds : List Decl) → is_mark (first_shape t ds) ≡ is_int (first_type types outs ds)
first-agree t types outs [] = refl
first-agree t types outs (d ∷ ds) = mark-type t d.ty

module _ (ps : List Place) (places : Place → Type 0) (t : Told) (types : List TypeDecl) where
  abbrev S : Steering
  S = steers ps places

  -- the contract of a node that is called, in which nothing is called
  called-laid : (o : Option Contract) (n : Node) (w : Place → Place) (before : List Kept) (rest : List Place) → ContractCallsNothing o
      → At ps before (laid (elim o [ None ↦ [] | Some c ↦ lasts_slots ps types n.outputs w ++ slots_of_contract types no_outputs nothing_called (Some c) (seen n) w ]) ++ rest)
      → CalledStands S t o n (λ p. only (w p)) before × At ps (called_of t o n before) rest
  called-laid None n w before rest none h = (tt, h)
  called-laid (Some c) n w before rest none h =
      let own = lasts_slots ps types n.outputs w in
      let contract = slots_of_contract types no_outputs nothing_called (Some c) (seen n) w in
      let start = at-lasts ps t types n.outputs w before (laid contract ++ rest) (h ∙ laid-both own contract rest) in
      contract-laid ps places t types no_callee none_asked no_outputs nothing_called ⊥ (λ a. absurd a) (λ a. absurd a) c (contract_names t n) (seen n) w (with_lasts t n.outputs before) rest (contract-agree t n) (inr none) start

  call-laid : (o : Option Node) (w : Place → Place) (before : List Kept) (rest : List Place) → ((m : Node) → o ≡ Some m → ContractCallsNothing m.contract)
      → At ps before (laid (outputs_slots ps (decls_by o) (below Instance w) ++ callee_slots types o (below Instance w)) ++ rest) → CallStands S t called (contracts_asked S t) o (λ p. only (w p)) before × At ps (with_call t called o before) rest
  call-laid None w before rest none h = (tt, h)
  call-laid (Some n) w before rest none h =
      let inside : Place → Place = below Instance w in
      let own = outputs_slots ps n.outputs inside in
      let brought = callee_slots types (Some n) inside in
      let u = outputs-next ps places t n.outputs inside before (laid brought ++ rest) (h ∙ laid-both own brought rest) in
      let v = called-laid n.contract n inside (with_row kept.free t n.outputs before) rest (none n refl) u.1 in
      ((u.0, v.0), v.1)

module _ (program : List Item) (t : Told) (known : (f : List ℕ) → t.nodes f ≡ node_among (reverse program) f) (nothing : (f : List ℕ) (m : Node) → t.nodes f ≡ Some m → ContractCallsNothing m.contract) (ps : List Place) (places : Place → Type 0) where
  abbrev types : List TypeDecl
  types = types_of program

  abbrev outs : List ℕ → List Decl
  outs f = decls_by (node_among (reverse program) f)

  abbrev brought : List ℕ → (Place → Place) → List Slot
  brought f w = callee_slots types (node_among (reverse program) f) w

  abbrev N : Steering
  N = steers ps places

  outputs-known : (f : List ℕ) → outputs_by (t.nodes f) ≡ outs f
  outputs-known f = ap outputs_by (known f) ∙ same (node_among (reverse program) f)
    where
      same : (o : Option Node) → outputs_by o ≡ decls_by o
      same None = refl
      same (Some n) = refl

  shaped : ⊤ → (f : List ℕ) → is_mark (first_shape t (outputs_by (t.nodes f))) ≡ is_int (first_type types outs (outs f))
  shaped a f = ap (λ ds. is_mark (first_shape t ds)) (outputs-known f) ∙ first-agree t types outs (outs f)

  calls : ⊤ → (f : List ℕ) (w : Place → Place) (before : List Kept) (rest : List Place) → At ps before (laid (outputs_slots ps (outs f) (below Instance w) ++ brought f (below Instance w)) ++ rest)
      → CallStands N t called (contracts_asked N t) (t.nodes f) (λ p. only (w p)) before × At ps (with_call t called (t.nodes f) before) rest
  calls a f w before rest h =
      subst (λ o. CallStands N t called (contracts_asked N t) o (λ p. only (w p)) before × At ps (with_call t called o before) rest) (sym (known f))
      (call-laid ps places t types (node_among (reverse program) f) w before rest (λ m e. nothing f m (known f ∙ e)) h)

  observer-laid : (o : Option Contract) (names : Names) (scope : types_shown.Scope) (before : List Kept) (rest : List Place) → Agree names scope → At ps before (laid (slots_of_contract types outs brought o scope (λ p. p)) ++ rest)
      → ObserverStands N t o names before × At ps (planned_observer t called o names before) rest
  observer-laid None names scope before rest g h = (tt, h)
  observer-laid (Some c) names scope before rest g h = contract-laid ps places t types called (contracts_asked N t) outs brought ⊤ shaped calls c names scope (λ p. p) before rest g (inl tt) h

  pub rows-laid : (n : Node) → At ps [] (laid (slots_of_node program n)) → NodeStands N t n
  rows-laid n h =
      let here : Place → Place = λ p. p in
      let names = contract_names t n in
      let scope = seen n in
      let controls = controls_of n.contract in
      let body = slots_of_block types outs brought n.body (typed_in controls scope) (below Body here) in
      let observer = slots_of_contract types outs brought n.contract scope here in
      let given = row_slots ps slots.control controls (below Controls here) in
      let lasts = lasts_slots ps types n.outputs here in
      let first = row_slots ps slots.input n.inputs (below Inputs here) in
      let start = h ∙ sym (append-nil (laid (first ++ (lasts ++ (given ++ (observer ++ body)))))) ∙ laid-both first (lasts ++ (given ++ (observer ++ body))) [] in
      let one = at-row ps t kept.input slots.input (record { is = λ p u. refl }) n.inputs (below Inputs here) [] (laid (lasts ++ (given ++ (observer ++ body))) ++ []) start in
      let with_inputs = with_row kept.input t n.inputs [] in
      let two = at-lasts ps t types n.outputs here with_inputs (laid (given ++ (observer ++ body)) ++ []) (one ∙ laid-both lasts (given ++ (observer ++ body)) []) in
      let with_memory = with_lasts t n.outputs with_inputs in
      let three = at-row ps t kept.control slots.control (record { is = λ p u. refl }) controls (below Controls here) with_memory (laid (observer ++ body) ++ []) (two ∙ laid-both given (observer ++ body) []) in
      let before = with_row kept.control t controls with_memory in
      let agree = contract-agree t n in
      let u = observer-laid n.contract names scope before (laid body ++ []) agree (three ∙ laid-both observer body []) in
      let v = block-laid ps places t types called (contracts_asked N t) outs brought ⊤ shaped calls n.body (declaring t controls names) (typed_in controls scope) (below Body here) (planned_observer t called n.contract names before) [] (declared-agree t controls names scope agree) (inl tt) u.1 in
      (u.0, v.0)

pub node-stands : (program : List Item) (t : Told) (n : Node) → ((f : List ℕ) → t.nodes f ≡ node_among (reverse program) f) → ((f : List ℕ) (m : Node) → t.nodes f ≡ Some m → ContractCallsNothing m.contract) → NodeStands (steering_of n (slot_place program n)) t n
node-stands program t n known nothing = rows-laid program t known nothing (laid (slots_of_node program n)) (Depends n) n refl
