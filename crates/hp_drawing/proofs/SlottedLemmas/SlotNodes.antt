-- What a node brings are the slots of its abstraction.
use Rattle.std.proofs.Common.{◌≡◌, ℕ, Bool, true, false, if◌then◌else◌, List, [], ◌∷◌, ◌++◌, reverse, Option, None, Some, sym, ap, subst, ◌∙◌}
use Rattle.std.specs.Prelude.{⊤}
use Rattle.std.specs.Str.{bytes_eq}
use Rattle.hp_tree.specs.declared.program.Item.{Item}
use Rattle.hp_tree.specs.declared.program.Item.TheVariants.{TypeItem, NodeItem}
use Rattle.hp_tree.specs.ExpressionTypes.{Scope, typed_in, untyped}
use Rattle.hp_tree.specs.Blocks.{Decl}
use Rattle.hp_tree.specs.Instant.{Named, Inputs, Controls, Body, Place, Instant, Past, part, nothing as no_memory}
use Rattle.hp_tree.specs.Meaning.{types_of, controls_of, node_among}
use Rattle.hp_tree.specs.Programs.{TypeDecl, Contract, Node}
use Rattle.hp_meaning.specs.Causal.Sources.{below}
use Rattle.hp_meaning.specs.Contract.Forgetting.{ContractsCallNothing}
use Rattle.hp_meaning.specs.Contract.Slots as slots
use Rattle.hp_meaning.specs.Contract.Slots.{Slot, callee_slots, slots_of_contract, slots_of_node}
use Rattle.hp_drawing.specs.Kept.{Kept, input, control, free}
use Rattle.hp_drawing.specs.Told.{Told, told_of, with_nodes, put_at, none_of}
use Rattle.hp_drawing.specs.Planned.{Names, outputs_by, declaring, with_row, with_lasts, with_call, planned_block, planned_contract, planned_observer, contract_names, no_callee, called_of, called, planned_node}
use Rattle.hp_drawing.proofs.SlottedLemmas.AllCall.{block_calls, contract_calls}
use Rattle.hp_drawing.proofs.SlottedLemmas.Calling.{ContractCalls}
use Rattle.hp_drawing.proofs.SlottedLemmas.NoCalls.{contract_none}
use Rattle.hp_drawing.proofs.SlottedLemmas.TypeLaws.{seen, declared-same, node-same}
use Rattle.hp_drawing.proofs.SlottedLemmas.Declaring.{ContractDeclares, NodeDeclares, NodesDeclare}
use Rattle.hp_meaning.specs.Contract.Memory.{in_memory, remembers_block, remembers_contract, remembers_callee, remembers_node}
use Rattle.hp_drawing.proofs.SlottedLemmas.SlotLaws.{Look, Starts, Zeros, AllStart, remembered, Brings, Callees, nothing, both, lasts_slots, lasts_bring, outputs_slots, outputs_bring, row_slots, row_brings, input_kept, control_kept}
use Rattle.hp_drawing.proofs.SlottedLemmas.SlotBlocks.{block_brings, contract_brings, observer_brings, observer_starts}

-- ---- no node has a contract with a call

abbrev CallsNone : Option Node → Type 0
CallsNone None = ⊤
CallsNone (Some n) = ContractCalls false n.contract

none-put : (b : Bool) (n : Node) (o : Option Node) → ContractCalls false n.contract → CallsNone o → CallsNone (if b then Some n else o)
none-put true n o h k = h
none-put false n o h k = k

none-nodes : (items : List Item) (before : List ℕ → Option Node) → ContractsCallNothing items → ((f : List ℕ) → CallsNone (before f)) → (f : List ℕ) → CallsNone (with_nodes before items f)
none-nodes [] before h k f = k f
none-nodes (TypeItem d ∷ items) before h k f = none-nodes items before h k f
none-nodes (NodeItem n ∷ items) before h k f = none-nodes items (put_at before n.name n) h.1 (λ g. none-put (bytes_eq n.name g) n (before g) (contract_none n.contract (λ p. p) h.0) (k g)) f

-- ---- callees

abbrev no_slots : List ℕ → (Place → Place) → List Slot
no_slots f w = []

abbrev no_past : List ℕ → Instant → Past → Instant
no_past f zero past = no_memory

abbrev no_outputs : List ℕ → List Decl
no_outputs f = []

-- each node has what is asked of lists of declarations
module _ (Good : List Decl → Type 0) where
  abbrev DeclaresGood : Option Node → Type 0
  DeclaresGood None = ⊤
  DeclaresGood (Some n) = NodeDeclares Good n

  good-put : (b : Bool) (n : Node) (o : Option Node) → NodeDeclares Good n → DeclaresGood o → DeclaresGood (if b then Some n else o)
  good-put true n o h k = h
  good-put false n o h k = k

  good-nodes : (items : List Item) (before : List ℕ → Option Node) → NodesDeclare Good items → ((f : List ℕ) → DeclaresGood (before f)) → (f : List ℕ) → DeclaresGood (with_nodes before items f)
  good-nodes [] before h k f = k f
  good-nodes (TypeItem d ∷ items) before h k f = good-nodes items before h k f
  good-nodes (NodeItem n ∷ items) before h k f = good-nodes items (put_at before n.name n) h.1 (λ g. good-put (bytes_eq n.name g) n (before g) h.0 (k g)) f

module _ (L : Look) (program : List Item) (first : Place → ℕ) (Good : List Decl → Type 0) (starting : (ds : List Decl) → Good ds → AllStart L (told_of program) ds (remembered (types_of program) ds)) where
  abbrev types : List TypeDecl
  types = types_of program

  abbrev t : Told
  t = told_of program

  abbrev outer : Node → Scope
  outer n = typed_in n.inputs (typed_in n.outputs untyped)

  outer-same : (n : Node) → contract_names t n ≡ seen types (outer n)
  outer-same n = ap (declaring t n.inputs) (declared-same program n.outputs untyped) ∙ declared-same program n.inputs (typed_in n.outputs untyped)

  nothing_called : Callees L program first false no_callee no_outputs no_slots no_past
  nothing_called = record { outputs = λ h f. absurd (cc); brings = λ h f w zero before k z. absurd (cc) }

  abbrev remembered_alone : Node → Option Contract → Instant → Instant
  remembered_alone n o zero = elim o [ None ↦ no_memory | Some c ↦ in_memory (remembered types n.outputs) no_memory (remembers_contract types no_past (Some c) zero []) ]

  contract_called : (n : Node) (o : Option Contract) (w : Place → Place) (zero : Instant) (before : List Kept) → ContractCalls false o → Good n.outputs → ContractDeclares Good o
      → Starts L first w (remembered_alone n o zero) → Zeros L zero
      → Brings L types first before (called_of t o n before) (elim o [ None ↦ [] | Some c ↦ lasts_slots types n.outputs w ++ slots_of_contract types no_outputs no_slots (Some c) (outer n) w ])
  contract_called n None w zero before h d g k z = nothing L types first before
  contract_called n (Some c) w zero before h d g k z =
      let d1 = with_lasts t n.outputs before in
      both L types first before d1 (planned_contract t no_callee c (contract_names t n) d1) (lasts_slots types n.outputs w) (slots_of_contract types no_outputs no_slots (Some c) (outer n) w)
      (lasts_bring L program first n.outputs before w (remembered types n.outputs) (starting n.outputs d) (λ x. k (Named x ∷ [])))
      (subst (λ (ns : Names). Brings L types first d1 (planned_contract t no_callee c ns d1) (slots_of_contract types no_outputs no_slots (Some c) (outer n) w)) (sym (outer-same n))
      (contract_brings L program first false no_callee no_outputs no_slots no_past nothing_called Good starting c (outer n) w zero d1 h g (observer_starts L program first false no_callee no_outputs no_slots no_past nothing_called Good starting (Some c) w zero (remembered types n.outputs) no_memory k) z))

  node_called : (o : Option Node) (w : Place → Place) (zero : Instant) (before : List Kept) → CallsNone o → DeclaresGood Good o
      → Starts L first w (remembers_callee types o zero []) → Zeros L zero
      → Brings L types first before (with_call t called o before) (outputs_slots types (outputs_by o) w ++ callee_slots types o w)
  node_called None w zero before h g k z = nothing L types first before
  node_called (Some n) w zero before h g k z =
      let d1 = with_row free t n.outputs before in
      both L types first before d1 (called t n d1) (outputs_slots types n.outputs w) (callee_slots types (Some n) w) (outputs_bring L program first n.outputs before w) (contract_called n n.contract w zero d1 h g.0 g.1.0 k z)

  abbrev node_named : List ℕ → Option Node
  node_named f = node_among (reverse program) f

  contracts_called : ContractsCallNothing program → NodesDeclare Good program → Callees L program first true called (λ f. outputs_by (node_named f)) (λ f w. callee_slots types (node_named f) w) (λ f zero past. remembers_callee types (node_named f) zero past)
  contracts_called h g = record {
    outputs = λ may f. ap outputs_by (node-same program f);
    brings = λ may f w zero before k z.
        subst (λ (o : Option Node). Brings L types first before (with_call t called o before) (outputs_slots types (outputs_by (node_named f)) w ++ callee_slots types (node_named f) w)) (sym (node-same program f))
        (node_called (node_named f) w zero before (subst CallsNone (node-same program f) (none-nodes program none_of h (λ g. tt) f)) (subst (DeclaresGood Good) (node-same program f) (good-nodes Good program none_of g (λ g. tt) f)) k z);
  }

  -- ---- a node

  pub node_brings : (n : Node) (zero : Instant) (before : List Kept) → ContractsCallNothing program → NodesDeclare Good program → NodeDeclares Good n
      → ((p : Place) → first p ≡ L.number (remembers_node program n zero [] p)) → Zeros L zero
      → Brings L types first before (planned_node t n before) (slots_of_node program n)
  node_brings n zero before h gs g k z =
      let outs : List ℕ → List Decl = λ f. outputs_by (node_named f) in
      let callee : List ℕ → (Place → Place) → List Slot = λ f w. callee_slots types (node_named f) w in
      let here : Place → Place = λ p. p in
      let memory : List ℕ → Instant → Past → Instant = λ f zero past. remembers_callee types (node_named f) zero past in
      let controls = controls_of n.contract in
      let names = contract_names t n in
      let known = contracts_called h gs in
      let d1 = with_row input t n.inputs before in
      let d2 = with_lasts t n.outputs d1 in
      let d3 = with_row control t controls d2 in
      let d4 = planned_observer t called n.contract names d3 in
      let d5 = planned_block t called n.body (declaring t controls names) d4 in
      let s1 = row_slots types slots.input n.inputs (below Inputs here) in
      let s2 = lasts_slots types n.outputs here in
      let s3 = row_slots types slots.control controls (below Controls here) in
      let s4 = slots_of_contract types outs callee n.contract (outer n) here in
      let s5 = slots.slots_of_block types outs callee n.body (typed_in controls (outer n)) (below Body here) in
      both L types first before d1 d5 s1 (s2 ++ (s3 ++ (s4 ++ s5))) (row_brings L program first input slots.input (input_kept L types first) n.inputs before (below Inputs here))
      (both L types first d1 d2 d5 s2 (s3 ++ (s4 ++ s5)) (lasts_bring L program first n.outputs d1 here (remembered types n.outputs) (starting n.outputs g.0) (λ x. k (Named x ∷ [])))
      (both L types first d2 d3 d5 s3 (s4 ++ s5) (row_brings L program first control slots.control (control_kept L types first) controls d2 (below Controls here))
      (both L types first d3 d4 d5 s4 s5
      (subst (λ (ns : Names). Brings L types first d3 (planned_observer t called n.contract ns d3) s4) (sym (outer-same n)) (observer_brings L program first true called outs callee memory known Good starting n.contract (outer n) here zero d3 (contract_calls n.contract) g.1.0 (observer_starts L program first true called outs callee memory known Good starting n.contract here zero (remembered types n.outputs) (remembers_block types memory n.body (part Body zero) []) k) z))
      (subst (λ (ns : Names). Brings L types first d4 (planned_block t called n.body ns d4) s5) (sym (ap (declaring t controls) (outer-same n) ∙ declared-same program controls (outer n)))
      (block_brings L program first true called outs callee memory known Good starting n.body (typed_in controls (outer n)) (below Body here) (part Body zero) d4 (block_calls n.body) g.1.1 (λ p. k (Body ∷ p)) (λ p. z (Body ∷ p)))))))
