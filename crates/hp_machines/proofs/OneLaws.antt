-- A program has one list of machines: its nodes are made but for places, and places do not tell the order by clock.
use Rattle.std.proofs.Common.{◌≡◌, ◌<◌, ℕ, Bool, true, false, cond, List, [], ◌∷◌, length, map, refl, sym, ap, subst, ◌∙◌, Option}
use Rattle.std.specs.List.{AllByRecursion, filter, flat_map}
use Rattle.std.proofs.lemmas.List.Elements.{All-map, recursion_from_All}
use Rattle.hp_obc.specs.Machines.{ObcType, Machine, Obc}
use Rattle.hp_tree.specs.declared.program.Item.{Item}
use Rattle.hp_tree.specs.declared.program.Item.TheVariants.{TypeItem, NodeItem}
use Rattle.hp_flat.specs.declared.equation.Atom.{Atom}
use Rattle.hp_flat.specs.declared.equation.Atom.TheVariants.{Variable, Value}
use Rattle.hp_flat.specs.Equations.{Right, operator, register, called, FlatEqn}
use Rattle.hp_flat.specs.Nodes.{FlatNode}
use Rattle.hp_fuse.specs.Fusing.{fused_machine}
use Rattle.hp_normal.specs.Normal.{normal}
use Rattle.hp_normal.specs.Retargeting.{with_eqns}
use Rattle.hp_toobc.specs.Making.{machine_of}
use Rattle.law_equations.specs.Made.Laws.{unplaced}
use Rattle.law_equations.specs.Made.Making.{Known}
use Rattle.law_equations.specs.Meaning.Fitting.{atom_variables}
use Rattle.law_equations.specs.Meaning.Reactions.{has}
use Rattle.law_equations.specs.Meaning.Scheduling as scheduling
use Rattle.law_equations.specs.Meaning.Scheduling.{AreBelow, clock_variables, right_reads, reads, IsDefinedBelow, IsRanked, IsWithin}
use Rattle.law_equations.proofs.FewerLemmas.Members.{each_map}
use Rattle.hp_automata.specs.Lowering.{lowered_program}
use Rattle.hp_complete.specs.Declaring.{known_of}
use Rattle.hp_complete.specs.Made.{IsMadeOf, AreMadeOf}
use Rattle.hp_complete.specs.Ranges.{AtomWithin, EqnWithin, IsInRange, RightWithin}
use Rattle.hp_complete.specs.Signatures.{AreFlat, places_of}
use Rattle.hp_schedule.specs.ByClock.{IsByClock}
use Rattle.hp_schedule.proofs.ReadLaws.{reads-below, reads-within}
use Rattle.hp_schedule.proofs.UniqueLaws.{one_by_clock}
use Rattle.hp_machines.specs.Machined.{AreMachinesOf}
use Rattle.hp_machines.specs.Making.{AreMade, IsMachineOf, defines_some, giving}
use Rattle.hp_machines.specs.One.{OneMachinesLaw}

-- ---- equations that define something

pub each_given : (P : FlatEqn → Type 0) (es : List FlatEqn) → AllByRecursion P es → AllByRecursion P (filter defines_some es)
each_given P [] h = tt
each_given P (e ∷ es) h = by (defines_some e) (each_given P es h.1)
  where
    by : (b : Bool) → AllByRecursion P (filter defines_some es) → AllByRecursion P (cond b (e ∷ filter defines_some es) (filter defines_some es))
    by true g = (h.0, g)
    by false g = g

given_plain : (es : List FlatEqn) → map unplaced (filter defines_some es) ≡ filter defines_some (map unplaced es)
given_plain [] = refl
given_plain (e ∷ es) = by (defines_some e) (given_plain es)
  where
    by : (b : Bool) → map unplaced (filter defines_some es) ≡ filter defines_some (map unplaced es)
        → map unplaced (cond b (e ∷ filter defines_some es) (filter defines_some es)) ≡ cond b (unplaced e ∷ filter defines_some (map unplaced es)) (filter defines_some (map unplaced es))
    by true g = ap (λ ds. unplaced e ∷ ds) g
    by false g = g

given_ranked : (es : List FlatEqn) → IsRanked es → IsRanked (filter defines_some es)
given_ranked es h =
    each_map (λ (e : FlatEqn). AllByRecursion (IsDefinedBelow es e) (reads e)) (λ (e : FlatEqn). AllByRecursion (IsDefinedBelow (filter defines_some es) e) (reads e))
    (λ e q. each_map (IsDefinedBelow es e) (IsDefinedBelow (filter defines_some es) e) (λ x b. each_given (λ (d : FlatEqn). has d.targets x ≡ true → d.at < e.at) es b) (reads e) q) (filter defines_some es)
    (each_given (λ (e : FlatEqn). AllByRecursion (IsDefinedBelow es e) (reads e)) es h)

-- ---- one node

abbrev ReadsBelow : ℕ → List FlatEqn → Type 0
ReadsBelow n es = AllByRecursion (λ (e : FlatEqn). AreBelow n (reads e)) es

atoms_below : (n : ℕ) (args : List Atom) → AllByRecursion (AtomWithin n) args → AreBelow n (flat_map atom_variables args)
atoms_below n [] h = tt
atoms_below n (Variable x ∷ args) h = (h.0, atoms_below n args h.1)
atoms_below n (Value v ∷ args) h = atoms_below n args h.1

right_below : (n : ℕ) (r : Right) → RightWithin n r → AreBelow n (right_reads r)
right_below n (operator op args) h = atoms_below n args (recursion_from_All (AtomWithin n) args h)
right_below n (register first next) h = tt
right_below n (called f args) h = atoms_below n args (recursion_from_All (AtomWithin n) args h)

eqn_below : (n : ℕ) (e : FlatEqn) → EqnWithin n e → AreBelow n (reads e)
eqn_below n e w =
    reads-below n e (recursion_from_All (λ x. x < n) (clock_variables e.clock) (All-map (λ x. x < n) (λ (on : ℕ × ℕ). on.0) e.clock w.clock)) (recursion_from_All (λ x. x < n) e.restart w.restart)
    (right_below n e.right w.right)

in_range : (f : FlatNode) → IsInRange f → ReadsBelow (length f.variables) f.eqns
in_range f h =
    each_map (EqnWithin (length f.variables)) (λ (e : FlatEqn). AreBelow (length f.variables) (reads e)) (eqn_below (length f.variables)) f.eqns
    (recursion_from_All (EqnWithin (length f.variables)) f.eqns h.eqns)

all_below : (n : ℕ) (es : List FlatEqn) → AllByRecursion (scheduling.EqnWithin n) es → ReadsBelow n es
all_below n es h = each_map (scheduling.EqnWithin n) (λ (e : FlatEqn). AreBelow n (reads e)) (reads-within n) es h

module _ (types : List ObcType) (n k : FlatNode) (name : n.name ≡ k.name) (variables : n.variables ≡ k.variables) (inputs : n.inputs ≡ k.inputs) (outputs : n.outputs ≡ k.outputs)
    (plain : map unplaced n.eqns ≡ map unplaced k.eqns) where
  given_alike : map unplaced (giving n).eqns ≡ map unplaced (giving k).eqns
  given_alike = given_plain n.eqns ∙ ap (filter defines_some) plain ∙ sym (given_plain k.eqns)

  one_machine : (m l : Machine) → IsRanked n.eqns → IsRanked k.eqns → ReadsBelow (length n.variables) n.eqns → ReadsBelow (length k.variables) k.eqns → IsMachineOf types n m → IsMachineOf types k l → m ≡ l
  one_machine m l r q u v h g =
      let a = h.arranged in
      let b = g.arranged in
      let first : IsByClock (length n.variables) (giving n).eqns a.scheduled =
      a.by_clock (given_ranked n.eqns r) (each_given (λ (e : FlatEqn). AreBelow (length n.variables) (reads e)) n.eqns u) in
      let second : IsByClock (length k.variables) (giving k).eqns b.scheduled =
      b.by_clock (given_ranked k.eqns q) (each_given (λ (e : FlatEqn). AreBelow (length k.variables) (reads e)) k.eqns v) in
      let moved : IsByClock (length n.variables) (giving k).eqns b.scheduled = subst (λ c. IsByClock c (giving k).eqns b.scheduled) (sym (ap length variables)) second in
      let scheduled : a.scheduled ≡ b.scheduled = one_by_clock (length n.variables) (giving n).eqns (giving k).eqns a.scheduled b.scheduled given_alike first moved in
      let node : with_eqns (giving n) a.scheduled ≡ with_eqns (giving k) b.scheduled = λ i. record { name = name i; variables = variables i; inputs = inputs i; outputs = outputs i; eqns = scheduled i } in
      a.made ∙ ap (λ (f : FlatNode). fused_machine (machine_of types (normal f))) node ∙ sym b.made

  -- so where the numbers in a node are those of its variables
  pub one_within : (m l : Machine) → IsRanked n.eqns → IsRanked k.eqns → IsWithin n → IsWithin k → IsMachineOf types n m → IsMachineOf types k l → m ≡ l
  one_within m l r q u v h g = one_machine m l r q (all_below (length n.variables) n.eqns u.eqns) (all_below (length k.variables) k.eqns v.eqns) h g

-- ---- all nodes

one_list : (types : List ObcType) (k : Known) (places : List ℕ → Option ℕ) (items : List Item) (ns ks : List FlatNode) (ms ls : List Machine) → AreFlat places items ns → AreFlat places items ks
    → AreMadeOf k items ns → AreMadeOf k items ks → AreMade types ns ms → AreMade types ks ls → ms ≡ ls
one_list types k places [] (n ∷ ns) ks ms ls a b c d e f = absurd c
one_list types k places [] [] (g ∷ ks) ms ls a b c d e f = absurd d
one_list types k places [] [] [] (m ∷ ms) ls a b c d e f = absurd e
one_list types k places [] [] [] [] (l ∷ ls) a b c d e f = absurd f
one_list types k places [] [] [] [] [] a b c d e f = refl
one_list types k places (TypeItem t ∷ items) ns ks ms ls a b c d e f = one_list types k places items ns ks ms ls a b c d e f
one_list types k places (NodeItem node ∷ items) [] ks ms ls a b c d e f = absurd c
one_list types k places (NodeItem node ∷ items) (n ∷ ns) [] ms ls a b c d e f = absurd d
one_list types k places (NodeItem node ∷ items) (n ∷ ns) (g ∷ ks) [] ls a b c d e f = absurd e
one_list types k places (NodeItem node ∷ items) (n ∷ ns) (g ∷ ks) (m ∷ ms) [] a b c d e f = absurd f
one_list types k places (NodeItem node ∷ items) (n ∷ ns) (g ∷ ks) (m ∷ ms) (l ∷ ls) a b c d e f =
    let one : IsMadeOf k node n = c.0 in
    let other : IsMadeOf k node g = d.0 in
    let same : m ≡ l =
    one_machine types n g (one.name ∙ sym other.name) (one.variables ∙ sym other.variables) (one.inputs ∙ sym other.inputs) (one.outputs ∙ sym other.outputs) (one.eqns ∙ sym other.eqns) m l one.ranked other.ranked
    (in_range n (a.0).in_range) (in_range g (b.0).in_range) e.0 f.0 in
    let rest : ms ≡ ls = one_list types k places items ns ks ms ls a.1 b.1 c.1 d.1 e.1 f.1 in
    (λ i. same i ∷ rest i)

pub one_machines_law : OneMachinesLaw
one_machines_law program o p h g =
    let types : o.types ≡ p.types = h.types ∙ sym g.types in
    let low = lowered_program program in
    let made : AreMade o.types g.nodes p.machines = subst (λ ts. AreMade ts g.nodes p.machines) (sym types) g.made in
    let machines : o.machines ≡ p.machines = one_list o.types (known_of low) (places_of low) low h.nodes g.nodes o.machines p.machines h.flat g.flat h.equations g.equations h.made made in
    (λ i. record { types = types i; machines = machines i })
