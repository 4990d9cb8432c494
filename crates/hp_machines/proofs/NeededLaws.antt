-- Each equation that a machine is made of is needed.
use Rattle.std.proofs.Common.{◌<◌, ℕ, Option, List, [], ◌∷◌, length, map}
use Rattle.std.specs.List.{AllByRecursion, flat_map}
use Rattle.std.proofs.lemmas.List.Elements.{All-map, recursion_from_All}
use Rattle.hp_complete.specs.Ranges.{AtomWithin, EqnWithin, IsInRange, RightWithin}
use Rattle.hp_automata.specs.Lowering.{lowered_program}
use Rattle.hp_complete.specs.Signatures.{AreFlat, places_of}
use Rattle.hp_flat.specs.declared.equation.Atom.{Atom}
use Rattle.hp_flat.specs.declared.equation.Atom.TheVariants.{Variable, Value}
use Rattle.hp_flat.specs.Equations.{Right, operator, register, called, FlatEqn}
use Rattle.hp_flat.specs.Nodes.{FlatNode}
use Rattle.hp_machines.specs.Making.{AreMade, IsMachineOf, giving}
use Rattle.hp_machines.specs.Needed.{HasNeeded, NeededMachinesLaw}
use Rattle.hp_machines.proofs.OneLaws.{each_given}
use Rattle.hp_normal.specs.Choices.{simple}
use Rattle.hp_normal.specs.Needing.{pruned}
use Rattle.hp_normal.specs.Retargeting.{retargeted, with_eqns}
use Rattle.hp_normal.specs.Substituting.{substituted}
use Rattle.hp_normal.proofs.LeftLaws.{needed_law}
use Rattle.hp_obc.specs.Machines.{ObcType, Machine}
use Rattle.hp_tree.specs.declared.program.Item.{Item}
use Rattle.hp_tree.specs.declared.program.Item.TheVariants.{TypeItem, NodeItem}
use Rattle.law_equations.specs.Made.Laws.{unplaced}
use Rattle.law_equations.specs.Meaning.Fitting.{atom_variables, operands}
use Rattle.law_equations.specs.Meaning.Scheduling.{AreBelow, clock_variables, IsWithin}
use Rattle.law_equations.specs.Meaning.Scheduling as scheduling
use Rattle.law_equations.proofs.FewerLemmas.Members.{each_map}
use Rattle.law_equations.proofs.FewerLemmas.OrderLaws.{each_moved}
use Rattle.law_equations.proofs.FewerLemmas.RetargetForms.{retargeted-within}
use Rattle.law_equations.proofs.FewerLemmas.SimpleForms.{simple-within}
use Rattle.law_equations.proofs.FewerLemmas.SubstituteForms.{substituted-within}

-- ---- numbers of variables

module _ (n : ℕ) where
  atom_below : (a : Atom) → AtomWithin n a → AreBelow n (atom_variables a)
  atom_below (Variable x) h = (h, tt)
  atom_below (Value v) h = tt

  atoms_below : (args : List Atom) → AllByRecursion (AtomWithin n) args → AreBelow n (flat_map atom_variables args)
  atoms_below [] h = tt
  atoms_below (Variable x ∷ args) h = (h.0, atoms_below args h.1)
  atoms_below (Value v ∷ args) h = atoms_below args h.1

  right_below : (r : Right) → RightWithin n r → AreBelow n (operands r)
  right_below (operator op args) h = atoms_below args (recursion_from_All (AtomWithin n) args h)
  right_below (register first next) h = atom_below next h
  right_below (called f args) h = atoms_below args (recursion_from_All (AtomWithin n) args h)

  eqn_within : (e : FlatEqn) → EqnWithin n e → scheduling.EqnWithin n e
  eqn_within e w = record {
    targets = recursion_from_All (λ x. x < n) e.targets w.targets;
    clock = recursion_from_All (λ x. x < n) (clock_variables e.clock) (All-map (λ x. x < n) (λ (on : ℕ × ℕ). on.0) e.clock w.clock);
    operands = right_below e.right w.right;
    restart = recursion_from_All (λ x. x < n) e.restart w.restart;
  }

  -- places are no numbers of variables
  all_unplaced : (es : List FlatEqn) → AllByRecursion (scheduling.EqnWithin n) es → AllByRecursion (scheduling.EqnWithin n) (map unplaced es)
  all_unplaced [] h = tt
  all_unplaced (e ∷ es) h = (record { targets = (h.0).targets; clock = (h.0).clock; operands = (h.0).operands; restart = (h.0).restart }, all_unplaced es h.1)

  all_placed : (es : List FlatEqn) → AllByRecursion (scheduling.EqnWithin n) (map unplaced es) → AllByRecursion (scheduling.EqnWithin n) es
  all_placed [] h = tt
  all_placed (e ∷ es) h = (record { targets = (h.0).targets; clock = (h.0).clock; operands = (h.0).operands; restart = (h.0).restart }, all_placed es h.1)

-- ---- one machine

module _ (types : List ObcType) (n : FlatNode) (m : Machine) (range : IsInRange n) (made : IsMachineOf types n m) where
  abbrev scheduled : FlatNode
  scheduled = with_eqns (giving n) (made.arranged).scheduled

  -- the numbers in the equations in their order are those of variables
  within : IsWithin scheduled
  within =
      let size = length n.variables in
      let all : AllByRecursion (scheduling.EqnWithin size) n.eqns = each_map (EqnWithin size) (scheduling.EqnWithin size) (eqn_within size) n.eqns (recursion_from_All (EqnWithin size) n.eqns range.eqns) in
      let given : AllByRecursion (scheduling.EqnWithin size) (giving n).eqns = each_given (scheduling.EqnWithin size) n.eqns all in
      let a = made.arranged in
      record {
        inputs = range.inputs;
        outputs = recursion_from_All (λ x. x < size) n.outputs range.outputs;
        eqns = all_placed size a.scheduled (each_moved (scheduling.EqnWithin size) (map unplaced (giving n).eqns) (map unplaced a.scheduled) a.same (all_unplaced size (giving n).eqns given));
      }

  abbrev plain : FlatNode
  plain = retargeted (substituted (retargeted (simple scheduled)))

  plain_within : IsWithin plain
  plain_within =
      let m1 : FlatNode = simple scheduled in
      let m2 : FlatNode = retargeted m1 in
      let m3 : FlatNode = substituted m2 in
      retargeted-within m3 (substituted-within m2 (retargeted-within m1 (simple-within scheduled within)))

  pub has-needed : HasNeeded types m
  has-needed =
      let h = plain_within in
      let a = made.arranged in
      record {
        node = pruned plain;
        made = a.made;
        needed =
            needed_law plain
            (each_map (scheduling.EqnWithin (length n.variables)) (λ (e : FlatEqn). AllByRecursion (λ x. x < length n.variables) e.targets) (λ e w. w.targets) plain.eqns h.eqns);
      }

-- ---- all machines

all_needed : (types : List ObcType) (places : List ℕ → Option ℕ) (items : List Item) (ns : List FlatNode) (ms : List Machine) → AreFlat places items ns → AreMade types ns ms → AllByRecursion (HasNeeded types) ms
all_needed types places items ns [] flat made = tt
all_needed types places items [] (m ∷ ms) flat made = absurd made
all_needed types places [] (n ∷ ns) (m ∷ ms) flat made = absurd flat
all_needed types places (TypeItem t ∷ items) (n ∷ ns) (m ∷ ms) flat made = all_needed types places items (n ∷ ns) (m ∷ ms) flat made
all_needed types places (NodeItem node ∷ items) (n ∷ ns) (m ∷ ms) flat made =
    (has-needed types n m (flat.0).in_range made.0, all_needed types places items ns ms flat.1 made.1)

pub needed_machines_law : NeededMachinesLaw
needed_machines_law program o h = all_needed o.types (places_of (lowered_program program)) (lowered_program program) h.nodes o.machines h.flat h.made
