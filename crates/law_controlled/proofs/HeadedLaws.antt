-- What the machines of nodes that choose are called, take and give.
use Rattle.std.proofs.Common.{◌≡◌, inl, inr, ℕ, zero, suc, ◌+◌, ◌<◌, Bool, true, false, if◌then◌else◌, List, [], ◌∷◌, ◌++◌, length, map, take, drop, Option, None, Some, refl, sym, ap, ap₂, subst, ◌∙◌, arith}
use Rattle.std.specs.Prelude.{◌-◌, codes, sum, IsSome, IsTrue, is_some, slice_get, slice_index_or}
use Rattle.std.specs.Str.{bytes_eq}
use Rattle.std.proofs.lemmas.List.{append_assoc, append-nil, length-map, map-append, take-append-drop}
use Rattle.std.proofs.lemmas.Option.{slice_get_within}
use Rattle.std.proofs.Math.Seq.{take-append_seam}
use Rattle.hp_obc.specs.Form.{MachineForm, MachinesForm, TypesForm, machine_named, mem_vars, var_kinds, written}
use Rattle.hp_obc.specs.Machines.{Machine, Obc, ObcType}
use Rattle.hp_meaning.specs.Causal.Runs.{NoControls}
use Rattle.hp_tree.specs.Blocks.{Decl}
use Rattle.hp_tree.specs.Meaning.{controls_of, node_among}
use Rattle.hp_tree.specs.Programs.{Node}
use Rattle.hp_tree.specs.declared.program.Item.{Item}
use Rattle.hp_tree.specs.declared.program.Item.TheVariants.{NodeItem}
use Rattle.hp_automata.specs.Lowering.{Enumerations, enumerations, lowered_item, lowered_node, lowered_program, types_of}
use Rattle.law_automata.proofs.LoweredLemmas.Apart.{bytes_same, same_bytes}
use Rattle.hp_complete.specs.Signatures.{AreFlat, IsSigned, numbered, type_names, variable_of, variables_of}
use Rattle.hp_flat.specs.declared.node.FlatTy.TheVariants.{Bool as FlatBool}
use Rattle.hp_flat.specs.declared.node.Variable.{Variable}
use Rattle.hp_flat.specs.Nodes.{FlatNode}
use Rattle.hp_toobc.specs.Making.{declared}
use Rattle.hp_toobc.specs.Tables.{variable_at}
use Rattle.hp_machines.specs.Flattened.{heading_of_flat}
use Rattle.hp_machines.specs.Machined.{Heading, heading_of_machine, heading_of_node, headings_of, vars_of}
use Rattle.hp_machines.specs.Making.{AreMade, IsMachineOf}
use Rattle.hp_machines.proofs.HeadingLaws.{kinds_apart, names_lowered, names_of, names_of_types, same_controls, same_outputs, same_vars}
use Rattle.hp_machines.proofs.MakingLaws.{heading-made}
use Rattle.hp_watch.specs.Adding.{added_variable, next_variable, with_copy, with_eqn, with_variable}
use Rattle.hp_watch.specs.Growing.{Grows}
use Rattle.hp_watch.specs.Watching.{Observing, Watched}
use Rattle.hp_watch.proofs.GrowLaws.{larger}
use Rattle.hp_controlled.specs.Chosen.{IsChosen, IsToldBy, own_heading}
use Rattle.hp_controlled.specs.Choosing.{AreOfContract, IsOwn, Telling, asking, contract_name, first_gate, told_outputs}
use Rattle.hp_controlled.specs.Choosing.AreNodesOf.{without_contract, with_contract}
use Rattle.hp_controlled.specs.Choosing.IsOwn.{that_stays, that_chooses}
use Rattle.hp_controlled.specs.Compiled.{AreNodes}
use Rattle.hp_controlled.specs.Joining.{AreOfNode, AreOfNodes, ChoosesNothing, Tells}
use Rattle.hp_controlled.specs.Compiled.AreNodes.{of_none, of_a_type, of_a_node}
use Rattle.hp_controlled.specs.Parts.{IsIn, IsPart, IsReached, marked, number_at, numbers_from}
use Rattle.hp_controlled.specs.Parts.IsReached.{reached_input, reached_output}
use Rattle.law_wellmade.proofs.RegularLemmas.Good.{longer}
use Rattle.law_choices.proofs.InTurnLemmas.Telling.{copy_next, copy_outputs}
use Rattle.law_controlled.specs.Headed.{HeadedLaw, PlainLaw}
use Rattle.law_controlled.specs.Names.{Adds}
use Rattle.law_controlled.proofs.AddedLaws.{choosing_adds}
use Rattle.law_controlled.proofs.MadeLaws.{choosing, count, made_choosing, places, suited}
use Rattle.law_controlled.proofs.PartLaws.{before, number_is}

-- ---- variables of a part

-- a variable that is marked stands where its number says
marked_variable : (ms : List Bool) (vs : List Variable) (x : ℕ) → slice_index_or ms x false ≡ true → length ms ≡ length vs → slice_get (marked ms vs) (before ms x) ≡ slice_get vs x
marked_variable [] vs x h l = absurd cc
marked_variable (m ∷ ms) [] x h l = absurd (omega (arith, l))
marked_variable (true ∷ ms) (v ∷ vs) zero h l = refl
marked_variable (true ∷ ms) (v ∷ vs) (suc x) h l = marked_variable ms vs x h (omega (arith, l))
marked_variable (false ∷ ms) (v ∷ vs) zero h l = absurd cc
marked_variable (false ∷ ms) (v ∷ vs) (suc x) h l = marked_variable ms vs x h (omega (arith, l))

-- the first ones stay where all of them are marked
take_marked : (k : ℕ) (ms : List Bool) (vs : List Variable) → length ms ≡ length vs → ((y : ℕ) → y < k → y < length vs → slice_index_or ms y false ≡ true) → take k (marked ms vs) ≡ take k vs
take_marked zero ms vs l all = refl
take_marked (suc k) [] [] l all = refl
take_marked (suc k) [] (v ∷ vs) l all = absurd (omega (arith, l))
take_marked (suc k) (m ∷ ms) [] l all = absurd (omega (arith, l))
take_marked (suc k) (true ∷ ms) (v ∷ vs) l all =
    ap (λ xs. v ∷ xs) (take_marked k ms vs (omega (arith, l)) (λ y below there. all (suc y) (omega (arith, below)) (omega (arith, there))))
take_marked (suc k) (false ∷ ms) (v ∷ vs) l all = let first : false ≡ true = all 0 (omega arith) (omega arith) in absurd cc

module _ (n : FlatNode) (name outputs : List ℕ) (other : FlatNode) (part : IsPart n name outputs other) where
  abbrev marks : List Bool
  marks = let m = part.marks in m.variables

  abbrev to : ℕ → ℕ
  to = number_at (numbers_from 0 marks)

  abbrev kept : List Variable
  kept = marked marks n.variables

  as_many : length marks ≡ length n.variables
  as_many = let r = part.reached in r.as_many

  part_named : other.name ≡ name
  part_named = ap (λ (o : FlatNode). o.name) part.is

  part_inputs : take other.inputs other.variables ≡ take n.inputs n.variables
  part_inputs =
      let reached = part.reached in
      subst (λ (o : FlatNode). take o.inputs o.variables ≡ take n.inputs n.variables) (sym part.is) (take_marked n.inputs marks n.variables as_many (λ y below there. (reached.variables y there).1 (reached_input below)))

  each_moved : (outs : List ℕ) (wanted : List Variable) → ((x : ℕ) → IsIn x outs → IsReached n outputs x) → map (slice_get n.variables) outs ≡ map Some wanted → map (slice_get kept) (map to outs) ≡ map Some wanted
  each_moved [] [] there h = refl
  each_moved [] (w ∷ ws) there h = absurd cc
  each_moved (x ∷ outs) [] there h = absurd cc
  each_moved (x ∷ outs) (w ∷ ws) there h =
      let reached = part.reached in
      let first : slice_get n.variables x ≡ Some w = cc in
      let rest : map (slice_get n.variables) outs ≡ map Some ws = cc in
      let less = slice_get_within n.variables x w first in
      let mark = (reached.variables x less).1 (there x (inl refl)) in
      let same = ap (slice_get kept) (number_is marks x (omega (arith, less, as_many))) ∙ marked_variable marks n.variables x mark as_many ∙ first in
      λ i. same i ∷ each_moved outs ws (λ y at. there y (inr at)) rest i

  part_outputs : (wanted : List Variable) → map (slice_get n.variables) outputs ≡ map Some wanted → map (slice_get other.variables) other.outputs ≡ map Some wanted
  part_outputs wanted h = subst (λ (o : FlatNode). map (slice_get o.variables) o.outputs ≡ map Some wanted) (sym part.is) (each_moved outputs wanted (λ x at. reached_output at) h)

-- outputs are the same variables where there are more behind
outputs_stay : (vs more : List Variable) (outs : List ℕ) (wanted : List Variable) → map (slice_get vs) outs ≡ map Some wanted → map (slice_get (vs ++ more)) outs ≡ map Some wanted
outputs_stay vs more [] [] h = refl
outputs_stay vs more [] (w ∷ ws) h = absurd cc
outputs_stay vs more (x ∷ outs) [] h = absurd cc
outputs_stay vs more (x ∷ outs) (w ∷ ws) h =
    let first : slice_get vs x ≡ Some w = cc in
    let rest : map (slice_get vs) outs ≡ map Some ws = cc in
    let same = longer vs more x w first in
    λ i. same i ∷ outputs_stay vs more outs ws rest i

-- ---- the node that chooses

get_last : (vs : List Variable) (v : Variable) → slice_get (vs ++ v ∷ []) (length vs) ≡ Some v
get_last [] v = refl
get_last (u ∷ vs) v = get_last vs v

copy_inputs : (x : ℕ) (n : FlatNode) → (with_copy x n).inputs ≡ n.inputs
unfolding with_eqn with_variable
copy_inputs x n = refl

copy_variables : (x : ℕ) (n : FlatNode) → (with_copy x n).variables ≡ n.variables ++ added_variable (next_variable n) FlatBool ∷ []
unfolding with_eqn with_variable
copy_variables x n = refl

less_some : (a b c d : ℕ) → a ≡ b + c → d ≡ c → a - d ≡ b
less_some a b c d e f = omega (arith, e, f)

module _ (program : List Item) (types : List ObcType) (observers : Observing) (node : Node) (n controller own told : FlatNode) (named : n.name ≡ node.name) (are : AreOfContract program types observers node n controller own told) where
  abbrev its_choosing : Telling
  its_choosing = choosing program types observers node n controller own told named are

  abbrev its_node : FlatNode
  its_node = its_choosing.node

  abbrev asks : FlatNode
  asks = let s = suited program types observers node n controller own told named are in asking node.name s.watched are.abstraction s.controls

  abbrev assume_gate : ℕ
  assume_gate = let s = suited program types observers node n controller own told named are in let a = are.abstraction in first_gate s.watched a.machine + a.assume

  abbrev enforce_gate : ℕ
  enforce_gate = let s = suited program types observers node n controller own told named are in let a = are.abstraction in first_gate s.watched a.machine + a.enforce

  abbrev one : FlatNode
  one = with_copy assume_gate asks

  variables_are : its_node.variables ≡ one.variables ++ added_variable (next_variable one) FlatBool ∷ []
  variables_are = let c = made_choosing program types observers node n controller own told named are in let is = c.is in is.node.variables ∙ copy_variables enforce_gate one

  assume_is : slice_get its_node.variables its_choosing.assume ≡ Some (added_variable (next_variable asks) FlatBool)
  assume_is =
      let at = (places program types observers node n controller own told named are).0 in
      let v = added_variable (next_variable asks) FlatBool in
      let inner : slice_get one.variables (length asks.variables) ≡ Some v = ap (λ vs. slice_get vs (length asks.variables)) (copy_variables assume_gate asks) ∙ get_last asks.variables v in
      ap (slice_get its_node.variables) at
      ∙ ap (λ vs. slice_get vs (length asks.variables)) variables_are
      ∙ longer one.variables (added_variable (next_variable one) FlatBool ∷ []) (length asks.variables) v inner

  enforce_is : slice_get its_node.variables its_choosing.enforce ≡ Some (added_variable (next_variable one) FlatBool)
  enforce_is =
      let at = places program types observers node n controller own told named are in
      let behind : its_choosing.enforce ≡ length one.variables = at.1 ∙ ap suc at.0 ∙ sym (copy_next assume_gate asks) in
      ap (slice_get its_node.variables) behind ∙ ap (λ vs. slice_get vs (length one.variables)) variables_are ∙ get_last one.variables (added_variable (next_variable one) FlatBool)

  its_grown : (w : Watched) → w ≡ (let s = suited program types observers node n controller own told named are in s.watched) → Grows n w.node
  its_grown w same =
      let s = suited program types observers node n controller own told named are in
      let a = are.abstraction in
      let sees = s.sees in
      let large = larger types observers node (map (λ g. g.is_early) a.given.items) n s.watched sees.is_watched in
      subst (λ (z : Watched). Grows n z.node) (sym same) large.grows

  outputs_are : its_node.outputs ≡ n.outputs
  outputs_are =
      let c = made_choosing program types observers node n controller own told named are in
      let s = suited program types observers node n controller own told named are in
      let is = c.is in
      let grows = its_grown s.watched refl in
      is.node.outputs ∙ copy_outputs enforce_gate one ∙ copy_outputs assume_gate asks ∙ grows.outputs

  inputs_are : its_node.inputs ≡ length node.inputs
  inputs_are =
      let c = made_choosing program types observers node n controller own told named are in
      let s = suited program types observers node n controller own told named are in
      let w = s.watched in
      let is = c.is in
      let grows = its_grown w refl in
      let many = count program types observers node n controller own told named are in
      is.node.inputs ∙ copy_inputs enforce_gate one ∙ copy_inputs assume_gate asks
      ∙ less_some w.node.inputs (length node.inputs) (length (controls_of node.contract)) (length s.controls) (grows.inputs ∙ s.inputs) many

  its_adds : Adds n its_node
  its_adds = choosing_adds types observers node n are.abstraction its_choosing (made_choosing program types observers node n controller own told named are)

  module _ (at : List ℕ → Option ℕ) (l : Node) (ins : l.inputs ≡ node.inputs) (outs : l.outputs ≡ node.outputs) (signed : IsSigned at l n) where
    -- its inputs are those of the node
    inputs_first : take its_node.inputs its_node.variables ≡ variables_of at node.inputs
    inputs_first =
        let front : n.variables ≡ (variables_of at l.inputs ++ variables_of at (controls_of l.contract)) ++ drop n.inputs n.variables =
        sym (take-append-drop n.inputs n.variables) ∙ ap (λ vs. vs ++ drop n.inputs n.variables) (signed.first ∙ map-append (variable_of at) l.inputs (controls_of l.contract)) in
        let rest = variables_of at (controls_of l.contract) ++ drop n.inputs n.variables in
        let all : its_node.variables ≡ variables_of at node.inputs ++ (rest ++ its_adds.more) =
        its_adds.variables ∙ ap (λ vs. vs ++ its_adds.more) (front ∙ append_assoc (variables_of at l.inputs) (variables_of at (controls_of l.contract)) (drop n.inputs n.variables))
        ∙ append_assoc (variables_of at l.inputs) rest its_adds.more ∙ ap (λ ds. variables_of at ds ++ (rest ++ its_adds.more)) ins in
        let many : its_node.inputs ≡ length (variables_of at node.inputs) = inputs_are ∙ sym (length-map node.inputs (variable_of at)) in
        ap (λ k. take k its_node.variables) many ∙ ap (take (length (variables_of at node.inputs))) all ∙ take-append_seam (variables_of at node.inputs) (rest ++ its_adds.more)

    -- and so are its outputs
    outputs_same : map (slice_get its_node.variables) its_node.outputs ≡ map Some (variables_of at node.outputs)
    outputs_same =
        let signed_outputs : map (slice_get n.variables) n.outputs ≡ map Some (variables_of at node.outputs) = signed.outputs ∙ ap (λ ds. map Some (variables_of at ds)) outs in
        ap (map (slice_get its_node.variables)) outputs_are ∙ ap (λ vs. map (slice_get vs) n.outputs) its_adds.variables ∙ outputs_stay n.variables its_adds.more n.outputs (variables_of at node.outputs) signed_outputs

    abbrev told_variables : List Variable
    told_variables = variables_of at node.outputs ++ added_variable (next_variable asks) FlatBool ∷ added_variable (next_variable one) FlatBool ∷ []

    told_same : map (slice_get its_node.variables) (told_outputs its_choosing) ≡ map Some told_variables
    told_same =
        let pair = added_variable (next_variable asks) FlatBool ∷ added_variable (next_variable one) FlatBool ∷ [] in
        let two : map (slice_get its_node.variables) (its_choosing.assume ∷ its_choosing.enforce ∷ []) ≡ map Some pair = λ i. assume_is i ∷ enforce_is i ∷ [] in
        map-append (slice_get its_node.variables) its_node.outputs (its_choosing.assume ∷ its_choosing.enforce ∷ [])
        ∙ ap₂ (λ xs ys. xs ++ ys) outputs_same two
        ∙ sym (map-append (λ (v : Variable). Some v) (variables_of at node.outputs) pair)

-- ---- a machine

module _ (types : List ObcType) (form : TypesForm types) where
  abbrev at : List ℕ → Option ℕ
  at = numbered 0 (names_of types)

  module _ (node : Node) (k : FlatNode) (m : Machine) (earlier : List Machine) (made : heading_of_machine m ≡ heading_of_flat types k) (has : MachineForm types earlier m) where
    machine_inputs : take k.inputs k.variables ≡ variables_of at node.inputs → m.inputs ≡ vars_of node.inputs
    machine_inputs h =
        let first : m.inputs ≡ map (declared types) (variables_of at node.inputs) = ap (λ (g : Heading). g.inputs) made ∙ ap (map (declared types)) h in
        let all = kinds_apart types m.inputs (written m) has.kinds in
        first ∙ same_vars types form node.inputs (subst (λ vs. IsSome (var_kinds types vs)) first all.0)

    machine_outputs : (more : List Variable) → map (slice_get k.variables) k.outputs ≡ map Some (variables_of at node.outputs ++ more) → m.outputs ≡ vars_of node.outputs ++ map (declared types) more
    machine_outputs more h =
        let wanted = variables_of at node.outputs ++ more in
        let first : m.outputs ≡ map (declared types) (variables_of at node.outputs) ++ map (declared types) more =
        ap (λ (g : Heading). g.outputs) made ∙ same_outputs types form k.variables k.outputs wanted h ∙ map-append (declared types) (variables_of at node.outputs) more in
        let all = kinds_apart types m.inputs (written m) has.kinds in
        let behind = kinds_apart types (m.outputs ++ m.vars) (mem_vars m.mems) all.1 in
        let outs = kinds_apart types m.outputs m.vars behind.0 in
        let front = kinds_apart types (map (declared types) (variables_of at node.outputs)) (map (declared types) more) (subst (λ vs. IsSome (var_kinds types vs)) first outs.0) in
        first ∙ ap (λ vs. vs ++ map (declared types) more) (same_vars types form node.outputs front.0)

    machine_headed : k.name ≡ node.name → take k.inputs k.variables ≡ variables_of at node.inputs → map (slice_get k.variables) k.outputs ≡ map Some (variables_of at node.outputs) → heading_of_machine m ≡ own_heading node
    machine_headed name ins outs =
        let padded : map (slice_get k.variables) k.outputs ≡ map Some (variables_of at node.outputs ++ []) = outs ∙ ap (map Some) (sym (append-nil (variables_of at node.outputs))) in
        let named = ap (λ (g : Heading). g.name) made ∙ name in
        let given = machine_outputs [] padded ∙ append-nil (vars_of node.outputs) in
        let taken = machine_inputs ins in
        λ i. record { name = named i; inputs = taken i; outputs = given i }

-- ---- machines by their names

found_behind : (earlier later : List Machine) (x : List ℕ) → machine_named earlier x ≡ None → machine_named (earlier ++ later) x ≡ machine_named later x
found_behind [] later x h = refl
found_behind (m ∷ earlier) later x h = by (bytes_eq m.name x) h (found_behind earlier later x)
  where
    by : (b : Bool) → (if b then Some m else machine_named earlier x) ≡ None → (machine_named earlier x ≡ None → machine_named (earlier ++ later) x ≡ machine_named later x) → (if b then Some m else machine_named (earlier ++ later) x) ≡ machine_named later x
    by true e rest = absurd cc
    by false e rest = rest e

-- a machine that has form behind others is the one of its name
is_named : (types : List ObcType) (earlier : List Machine) (m : Machine) (later : List Machine) → MachineForm types earlier m → machine_named (earlier ++ m ∷ later) m.name ≡ Some m
is_named types earlier m later h = found_behind earlier (m ∷ later) m.name h.new ∙ ap (λ b. if b then Some m else machine_named later m.name) (bytes_same m.name)

none_left : {A : Type 0} (xs : List A) → length xs ≡ 0 → xs ≡ []
none_left [] h = refl
none_left (x ∷ xs) h = absurd (omega (arith, h))

-- a node with nothing to choose is that of its own clocked equations
own_stays : (node : Node) (n own : FlatNode) (c : Telling) → controls_of node.contract ≡ [] → IsOwn node n c own → own ≡ n
own_stays node n own c none (that_stays nothing same) = same
own_stays node n own c none (that_chooses some part) = absurd (some none)

module _ (program : List Item) (o : Obc) (form : TypesForm o.types) (enums : Enumerations) (observers : Observing) where
  -- one machine among all: those before it, and those behind
  abbrev Among : List Machine → Machine → List Machine → Type 0
  Among earlier m later = earlier ++ m ∷ later ≡ o.machines

  next : (earlier : List Machine) (m : Machine) (later : List Machine) → Among earlier m later → (earlier ++ m ∷ []) ++ later ≡ o.machines
  next earlier m later e = append_assoc earlier (m ∷ []) later ∙ e

  there : (earlier : List Machine) (m : Machine) (later : List Machine) → Among earlier m later → MachineForm o.types earlier m → (f : List ℕ) → m.name ≡ f → machine_named o.machines f ≡ Some m
  there earlier m later e h f name = ap (λ ms. machine_named ms f) (sym e) ∙ ap (machine_named (earlier ++ m ∷ later)) (sym name) ∙ is_named o.types earlier m later h

  abbrev Has : List ℕ → Node → Type 0
  Has f n = IsChosen f o n × (IsTrue (is_some n.contract) → IsToldBy (contract_name f) o n)

  abbrev numbers : List ℕ → Option ℕ
  numbers = at o.types form

  -- ---- one node

  module _ (node : Node) (n : FlatNode) (signed : IsSigned numbers (lowered_node enums node) n) where
    -- the machine of its own clocked equations, where it has nothing to choose
    plain_headed : controls_of node.contract ≡ [] → (m : Machine) (earlier : List Machine) → IsMachineOf o.types n m → MachineForm o.types earlier m → heading_of_machine m ≡ own_heading node
    plain_headed none m earlier made h =
        let controls : controls_of (lowered_node enums node).contract ≡ [] = same_controls enums (types_of node) node.contract ∙ none in
        let ins : take n.inputs n.variables ≡ variables_of numbers node.inputs = signed.first ∙ ap (λ ds. variables_of numbers (node.inputs ++ ds)) controls ∙ ap (variables_of numbers) (append-nil node.inputs) in
        machine_headed o.types form node n m earlier (heading-made o.types n m made) h signed.name ins signed.outputs

    plain_has : controls_of node.contract ≡ [] → (m : Machine) (earlier later : List Machine) → Among earlier m later → IsMachineOf o.types n m → MachineForm o.types earlier m → IsChosen node.name o node
    plain_has none m earlier later e made h =
        let headed = plain_headed none m earlier made h in
        record { machine = m; named = there earlier m later e h node.name (ap (λ (g : Heading). g.name) headed); headed = headed }

    module _ (controller own told : FlatNode) (are : AreOfContract program o.types observers node n controller own told) where
      named : n.name ≡ node.name
      named = signed.name

      abbrev t : Telling
      t = its_choosing program o.types observers node n controller own told named are

      own_headed : IsOwn node n t own → (m : Machine) (earlier : List Machine) → IsMachineOf o.types own m → MachineForm o.types earlier m → heading_of_machine m ≡ own_heading node
      own_headed (that_stays none same) m earlier made h = plain_headed none m earlier (subst (λ k. IsMachineOf o.types k m) same made) h
      own_headed (that_chooses some part) m earlier made h =
          let ins = part_inputs t.node node.name t.node.outputs own part ∙ inputs_first program o.types observers node n controller own told named are numbers (lowered_node enums node) refl refl signed in
          let outs = part_outputs t.node node.name t.node.outputs own part (variables_of numbers node.outputs) (outputs_same program o.types observers node n controller own told named are numbers (lowered_node enums node) refl refl signed) in
          machine_headed o.types form node own m earlier (heading-made o.types own m made) h (part_named t.node node.name t.node.outputs own part) ins outs

      own_has : (m : Machine) (earlier later : List Machine) → Among earlier m later → IsMachineOf o.types own m → MachineForm o.types earlier m → IsChosen node.name o node
      own_has m earlier later e made h =
          let chosen = are.chosen in
          let headed = own_headed chosen.itself m earlier made h in
          record { machine = m; named = there earlier m later e h node.name (ap (λ (g : Heading). g.name) headed); headed = headed }

      told_tells : (m : Machine) (earlier : List Machine) → IsMachineOf o.types told m → MachineForm o.types earlier m → Tells node m
      told_tells m earlier made h =
          let chosen = are.chosen in
          let part = chosen.tells in
          let heading = heading-made o.types told m made in
          let ins = part_inputs t.node (contract_name node.name) (told_outputs t) told part ∙ inputs_first program o.types observers node n controller own told named are numbers (lowered_node enums node) refl refl signed in
          let wanted = told_variables program o.types observers node n controller own told named are numbers (lowered_node enums node) refl refl signed in
          let outs = part_outputs t.node (contract_name node.name) (told_outputs t) told part wanted (told_same program o.types observers node n controller own told named are numbers (lowered_node enums node) refl refl signed) in
          let asking_node = asks program o.types observers node n controller own told named are in
          let telling_one = one program o.types observers node n controller own told named are in
          let more = added_variable (next_variable asking_node) FlatBool ∷ added_variable (next_variable telling_one) FlatBool ∷ [] in
          record {
            name = ap (λ (g : Heading). g.name) heading ∙ part_named t.node (contract_name node.name) (told_outputs t) told part;
            inputs = machine_inputs o.types form node told m earlier heading h ins;
            assume = let v = added_variable (next_variable asking_node) FlatBool in v.name;
            enforce = let v = added_variable (next_variable telling_one) FlatBool in v.name;
            outputs = machine_outputs o.types form node told m earlier heading h more outs;
          }

      told_has : (m : Machine) (earlier later : List Machine) → Among earlier m later → IsMachineOf o.types told m → MachineForm o.types earlier m → IsToldBy (contract_name node.name) o node
      told_has m earlier later e made h =
          let tells = told_tells m earlier made h in
          record { machine = m; named = there earlier m later e h (contract_name node.name) tells.name; inputs = tells.inputs; assume = tells.assume; enforce = tells.enforce; outputs = tells.outputs }

      -- its controller gives nothing, where there is nothing to choose
      gives_nothing : controls_of node.contract ≡ [] → (m : Machine) → IsMachineOf o.types controller m → ChoosesNothing node m
      gives_nothing none m made =
          let a = are.abstraction in
          let is = are.controls in
          let machine = are.is_machine in
          let drawn = are.is_abstraction in
          let its_machine = drawn.machine in
          let s = suited program o.types observers node n controller own told named are in
          let heading = heading-made o.types controller m made in
          let no_widths : a.machine.widths ≡ [] = none_left a.machine.widths (s.widths ∙ ap (λ (ds : List Decl). length ds) none) in
          let no_bits : length controller.outputs ≡ 0 = is.outputs ∙ machine.prefer ∙ sym machine.widths ∙ ap sum no_widths in
          record {
            name = ap (λ (g : Heading). g.name) heading ∙ is.name ∙ ap (λ f. f ++ codes "$ctl") its_machine.named;
            outputs = ap (λ (g : Heading). g.outputs) heading ∙ ap (map (λ x. declared o.types (variable_at controller.variables x))) (none_left controller.outputs no_bits);
          }

  -- ---- all nodes

  -- a node that is found is this one, or it stands behind
  found_here : (node : Node) (items : List Item) (f : List ℕ) (n : Node) → node_among (NodeItem node ∷ items) f ≡ Some n → (Has node.name node) → (node_among items f ≡ Some n → Has f n) → Has f n
  found_here node items f n e first behind = by (bytes_eq node.name f) refl e
    where
      by : (b : Bool) → bytes_eq node.name f ≡ b → (if b then Some node else node_among items f) ≡ Some n → Has f n
      by true q h =
          let same : node ≡ n = cc in
          subst (Has f) same (subst (λ x. Has x node) (same_bytes node.name f q) first)
      by false q h = behind h

  each : (items : List Item) (plants nodes : List FlatNode) (earlier ms : List Machine) → earlier ++ ms ≡ o.machines → AreNodes program o.types observers items plants nodes → AreFlat numbers (map (lowered_item enums) items) plants
      → AreMade o.types nodes ms → MachinesForm o.types earlier ms → (f : List ℕ) (n : Node) → node_among items f ≡ Some n → Has f n
  each items plants nodes earlier ms e of_none flat made h f n found = absurd cc
  each items plants nodes earlier ms e (of_a_type {items = rest} t are) flat made h f n found = each rest plants nodes earlier ms e are flat made h f n found
  each items plants nodes earlier [] e (of_a_node node p these (without_contract none) are) flat made h f n found = absurd made
  each items plants nodes earlier (m ∷ ms) e (of_a_node {items = rest} {ns = others} {all = all} node p these (without_contract none) are) flat made h f n found =
      let chosen = plain_has node p flat.0.signed (ap controls_of none) m earlier ms e made.0 h.0 in
      let no : IsTrue (is_some node.contract) → IsToldBy (contract_name node.name) o node = λ some. absurd (let both : false ≡ true = sym (ap (λ c. is_some c) none) ∙ some in cc) in
      found_here node rest f n found (chosen, no) (each rest others all (earlier ++ m ∷ []) ms (next earlier m ms e) are flat.1 made.1 h.1 f n)
  each items plants nodes earlier [] e (of_a_node node p these (with_contract controller own told some of) are) flat made h f n found = absurd made
  each items plants nodes earlier (c ∷ []) e (of_a_node node p these (with_contract controller own told some of) are) flat made h f n found = absurd made.1
  each items plants nodes earlier (c ∷ m ∷ []) e (of_a_node node p these (with_contract controller own told some of) are) flat made h f n found = absurd made.1.1
  each items plants nodes earlier (c ∷ m ∷ k ∷ ms) e (of_a_node {items = rest} {ns = others} {all = all} node p these (with_contract controller own told some of) are) flat made h f n found =
      let one = next earlier c (m ∷ k ∷ ms) e in
      let two = next (earlier ++ c ∷ []) m (k ∷ ms) one in
      let three = next ((earlier ++ c ∷ []) ++ m ∷ []) k ms two in
      let chosen = own_has node p flat.0.signed controller own told of m (earlier ++ c ∷ []) (k ∷ ms) one made.1.0 h.1.0 in
      let tells = told_has node p flat.0.signed controller own told of k ((earlier ++ c ∷ []) ++ m ∷ []) ms two made.1.1.0 h.1.1.0 in
      found_here node rest f n found (chosen, λ some. tells) (each rest others all (((earlier ++ c ∷ []) ++ m ∷ []) ++ k ∷ []) ms three are flat.1 made.1.1.1 h.1.1.1 f n)

  -- ---- own machines

  -- the own machines of some nodes that have nothing to choose, and those of contracts around them
  record OwnAmong (items : List Item) (plants : List FlatNode) (ms : List Machine) : Type 0 where
    pub own : List Machine
    pub made : AreMade o.types plants own
    pub are : AreOfNodes items own ms

  as_node : (node : Node) (m : Machine) → controls_of node.contract ≡ [] → heading_of_machine m ≡ own_heading node → heading_of_machine m ≡ heading_of_node node
  as_node node m none headed =
      let ins : node.inputs ≡ node.inputs ++ controls_of node.contract = sym (append-nil node.inputs) ∙ ap (λ ds. node.inputs ++ ds) (sym none) in
      headed ∙ (λ i. record { name = node.name; inputs = vars_of (ins i); outputs = vars_of node.outputs })

  owns : (items : List Item) (plants nodes : List FlatNode) (earlier ms : List Machine) → NoControls items → AreNodes program o.types observers items plants nodes
      → AreFlat numbers (map (lowered_item enums) items) plants → AreMade o.types nodes ms → MachinesForm o.types earlier ms → OwnAmong items plants ms
  owns items [] nodes earlier [] plain of_none flat made h = record { own = []; made = tt; are = AreOfNodes.of_none }
  owns items (p ∷ plants) nodes earlier ms plain of_none flat made h = absurd flat
  owns items [] nodes earlier (m ∷ ms) plain of_none flat made h = absurd made
  owns items plants nodes earlier ms plain (of_a_type {items = rest} t are) flat made h =
      let more = owns rest plants nodes earlier ms plain are flat made h in
      record { own = more.own; made = more.made; are = AreOfNodes.of_a_type t more.are }
  owns items plants nodes earlier [] plain (of_a_node node p these (without_contract none) are) flat made h = absurd made
  owns items plants nodes earlier (m ∷ ms) plain (of_a_node {items = rest} {ns = others} {all = all} node p these (without_contract none) are) flat made h =
      let more = owns rest others all (earlier ++ m ∷ []) ms plain.1 are flat.1 made.1 h.1 in
      let headed = as_node node m plain.0 (plain_headed node p flat.0.signed plain.0 m earlier made.0 h.0) in
      record { own = m ∷ more.own; made = (made.0, more.made); are = AreOfNodes.of_a_node node m (m ∷ []) headed (AreOfNode.own_alone none) more.are }
  owns items plants nodes earlier [] plain (of_a_node node p these (with_contract controller own told some of) are) flat made h = absurd made
  owns items plants nodes earlier (c ∷ []) plain (of_a_node node p these (with_contract controller own told some of) are) flat made h = absurd made.1
  owns items plants nodes earlier (c ∷ m ∷ []) plain (of_a_node node p these (with_contract controller own told some of) are) flat made h = absurd made.1.1
  owns items plants nodes earlier (c ∷ m ∷ k ∷ ms) plain (of_a_node {items = rest} {ns = others} {all = all} node p these (with_contract controller own told some of) are) flat made h =
      let more = owns rest others all (((earlier ++ c ∷ []) ++ m ∷ []) ++ k ∷ []) ms plain.1 are flat.1 made.1.1.1 h.1.1.1 in
      let chosen = of.chosen in
      let same = own_stays node p own (t node p flat.0.signed controller own told of) plain.0 chosen.itself in
      let its_own = subst (λ f. IsMachineOf o.types f m) same made.1.0 in
      let headed = as_node node m plain.0 (plain_headed node p flat.0.signed plain.0 m (earlier ++ c ∷ []) its_own h.1.0) in
      record {
        own = m ∷ more.own;
        made = (its_own, more.made);
        are = AreOfNodes.of_a_node node m (c ∷ m ∷ k ∷ []) headed
            (AreOfNode.with_contract c k some (gives_nothing node p flat.0.signed controller own told of plain.0 c made.0) (told_tells node p flat.0.signed controller own told of k ((earlier ++ c ∷ []) ++ m ∷ []) made.1.1.0 h.1.1.0)) more.are;
      }

headings_are : (items : List Item) (own all : List Machine) → AreOfNodes items own all → map heading_of_machine own ≡ headings_of items
headings_are items own all AreOfNodes.of_none = refl
headings_are items own all (AreOfNodes.of_a_type {items = rest} t are) = headings_are rest own all are
headings_are items own all (AreOfNodes.of_a_node {items = rest} {own = others} {all = behind} n m these heading these_are are) =
    let more = headings_are rest others behind are in
    λ j. heading j ∷ more j

pub plain_law : PlainLaw
plain_law program o are plain =
    let compiled = are.machines in
    let equations = compiled.equations in
    let have = compiled.have in
    let enums = enumerations [] program in
    let names : type_names (lowered_program program) ≡ names_of o.types = names_lowered enums program ∙ names_of_types program ∙ ap names_of (sym are.types) in
    let flat = subst (λ xs. AreFlat (numbered 0 xs) (lowered_program program) compiled.plants) names equations.flat in
    let its = owns program o are.form enums compiled.observers program compiled.plants have.nodes [] o.machines plain have.are flat have.made are.machines_form in (
      record { types = o.types; machines = its.own },
      record {
        own_machines = record {
          types = are.types;
          form = are.form;
          machines = headings_are program its.own o.machines its.are;
          nodes = compiled.plants;
          flat = equations.flat;
          equations = equations.made;
          made = its.made;
        };
        types = refl;
        form = (are.form, are.machines_form);
        machines = its.are;
      },
    )

pub headed_law : HeadedLaw
headed_law program o are f n found =
    let compiled = are.machines in
    let equations = compiled.equations in
    let have = compiled.have in
    let enums = enumerations [] program in
    let names : type_names (lowered_program program) ≡ names_of o.types = names_lowered enums program ∙ names_of_types program ∙ ap names_of (sym are.types) in
    let flat = subst (λ xs. AreFlat (numbered 0 xs) (lowered_program program) compiled.plants) names equations.flat in
    each program o are.form enums compiled.observers program compiled.plants have.nodes [] o.machines refl have.are flat have.made are.machines_form f n found
