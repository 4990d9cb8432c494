-- The machines of a program are made of its nodes one by one.
use Rattle.std.proofs.Common.{◌≡◌, ◌≤◌, ℕ, List, [], ◌∷◌, map, length, refl, sym, ap, subst, ◌∙◌, arith}
use Rattle.std.specs.Prelude.{reverse}
use Rattle.std.specs.List.{AllByRecursion}
use Rattle.std.specs.List.Sorted.{IsPermutation}
use Rattle.std.proofs.lemmas.List.Sorted.{IsPermutation-sym}
use Rattle.hp_base.specs.Kinds.{KindData, AreOfKinds}
use Rattle.hp_base.specs.declared.value.Value.{Value}
use Rattle.hp_flat.specs.Equations.{FlatEqn}
use Rattle.hp_flat.specs.Nodes.{FlatNode}
use Rattle.hp_obc.specs.Machines.{ObcType, Machine}
use Rattle.hp_obc.specs.Steps.{Names, machine_behaviour, run}
use Rattle.hp_form.specs.Regular.Regular.{IsRegular}
use Rattle.hp_normal.specs.Retargeting.{with_eqns}
use Rattle.hp_schedule.proofs.PlacedLaws.{Placed, placed-back, ranked-moved, form-alike, calls-alike, answered-alike}
use Rattle.hp_schedule.proofs.ReadLaws.{reads-within}
use Rattle.hp_schedule.proofs.UniqueLaws.{ranked-by_clock}
use Rattle.law_equations.specs.Meaning.Reactions.{Answers}
use Rattle.law_equations.specs.Meaning.Scheduling.{AreBelow, EqnWithin, reads, IsRanked}
use Rattle.law_equations.specs.Followed.Programs.{Answered, CallsOnly, file_of, all_answers}
use Rattle.law_equations.specs.Fewer.Compiling.{AreCompiled, AreFlatNodes, CompiledLaw, FlatForm, IsCompiled}
use Rattle.law_equations.specs.Made.Laws.{unplaced}
use Rattle.law_equations.proofs.FewerLemmas.Members.{each_map}
use Rattle.law_wellmade.specs.Suited.Suited.{HasFew}
use Rattle.hp_machines.specs.Making.{AreMade, IsMachineOf, giving}

-- ---- the places of the order in which a machine is made

module _ (types : List ObcType) (n : FlatNode) (m : Machine) (made : IsMachineOf types n m) where
  -- the equations of the node, each with its place in that order
  pub placed_of : Placed (map unplaced (giving n).eqns) (made.arranged).scheduled
  placed_of = placed-back (giving n).eqns (made.arranged).scheduled (made.arranged).same

  abbrev pub placed_node : FlatNode
  placed_node = with_eqns (giving n) placed_of.placed

  pub compiled_node : IsCompiled types placed_node m
  compiled_node = record { scheduled = (made.arranged).scheduled; same = placed_of.same; order = (made.arranged).order; made = (made.arranged).made }

  pub placed_ranked : IsRanked (giving n).eqns → AllByRecursion (λ (e : FlatEqn). AreBelow (length n.variables) (reads e)) (giving n).eqns → IsRanked placed_of.placed
  placed_ranked ranked within =
      let a = made.arranged in
      ranked-moved a.scheduled placed_of.placed (IsPermutation-sym placed_of.placed a.scheduled placed_of.same) (ranked-by_clock (length n.variables) (giving n).eqns a.scheduled (a.by_clock ranked within))

  pub placed_form : FlatForm types (giving n) → FlatForm types placed_node
  placed_form f =
      form-alike (giving n) placed_of.placed placed_of.alike types
      (placed_ranked f.ranked (each_map (EqnWithin (length n.variables)) (λ (e : FlatEqn). AreBelow (length n.variables) (reads e)) (λ e w. reads-within (length n.variables) e w) (giving n).eqns (f.within).eqns)) f

abbrev pub placed_nodes : (types : List ObcType) (ns : List FlatNode) (ms : List Machine) → AreMade types ns ms → List FlatNode
placed_nodes types [] [] h = []
placed_nodes types (n ∷ ns) (m ∷ ms) h = placed_node types n m h.0 ∷ placed_nodes types ns ms h.1
placed_nodes types [] (m ∷ ms) h = []
placed_nodes types (n ∷ ns) [] h = []

pub are_compiled : (types : List ObcType) (ns : List FlatNode) (ms : List Machine) (h : AreMade types ns ms) → AreCompiled types (placed_nodes types ns ms h) ms
are_compiled types [] [] h = tt
are_compiled types [] (m ∷ ms) h = absurd h
are_compiled types (n ∷ ns) [] h = absurd h
are_compiled types (n ∷ ns) (m ∷ ms) h = (compiled_node types n m h.0, are_compiled types ns ms h.1)

placed_flat : (types : List ObcType) (earlier : List (List ℕ)) (ns : List FlatNode) (ms : List Machine) (h : AreMade types ns ms) → AreFlatNodes types earlier (map giving ns) → AreFlatNodes types earlier (placed_nodes types ns ms h)
placed_flat types earlier [] [] h f = tt
placed_flat types earlier [] (m ∷ ms) h f = absurd h
placed_flat types earlier (n ∷ ns) [] h f = absurd h
placed_flat types earlier (n ∷ ns) (m ∷ ms) h f =
    let p = placed_of types n m h.0 in
    (placed_form types n m h.0 f.0, calls-alike (giving n) p.placed p.alike earlier f.1, placed_flat types (n.name ∷ earlier) ns ms h.1 f.2)

module _ (types : List ObcType) (answers : Answers) (takes : Names (List KindData)) where
  placed_answered : (ns : List FlatNode) (ms : List Machine) (h : AreMade types ns ms) → AllByRecursion (Answered answers takes) (map giving ns) → AllByRecursion (Answered answers takes) (placed_nodes types ns ms h)
  placed_answered [] [] h a = tt
  placed_answered [] (m ∷ ms) h a = absurd h
  placed_answered (n ∷ ns) [] h a = absurd h
  placed_answered (n ∷ ns) (m ∷ ms) h a =
      let p = placed_of types n m h.0 in
      (answered-alike (giving n) p.placed p.alike answers takes a.0, placed_answered ns ms h.1 a.1)

  given_back : (P : List ℕ → Type 0) (ns : List FlatNode) (ms : List Machine) (h : AreMade types ns ms) → AllByRecursion (λ (k : FlatNode). P k.name) (placed_nodes types ns ms h) → AllByRecursion (λ (k : FlatNode). P k.name) (map giving ns)
  given_back P [] [] h a = tt
  given_back P [] (m ∷ ms) h a = absurd h
  given_back P (n ∷ ns) [] h a = absurd h
  given_back P (n ∷ ns) (m ∷ ms) h a = (a.0, given_back P ns ms h.1 a.1)

  -- machines that are made of nodes in order run as the nodes answer
  pub made_run : CompiledLaw → (ns : List FlatNode) (ms : List Machine) → AreFlatNodes types [] (map giving ns) → AreMade types ns ms → AllByRecursion (Answered answers takes) (map giving ns)
      → AllByRecursion (λ (n : FlatNode). (inputs : List (List Value)) → AllByRecursion (AreOfKinds (takes n.name)) inputs
      → run (machine_behaviour (file_of types ms) n.name) (reverse inputs) ≡ reverse (all_answers (answers n.name) inputs)) (map giving ns)
  made_run compiled ns ms flat h a =
      given_back (λ x. (inputs : List (List Value)) → AllByRecursion (AreOfKinds (takes x)) inputs → run (machine_behaviour (file_of types ms) x) (reverse inputs) ≡ reverse (all_answers (answers x) inputs)) ns ms h
      (compiled types (placed_nodes types ns ms h) ms answers takes (placed_flat types [] ns ms h flat) (are_compiled types ns ms h) (placed_answered ns ms h a))

-- ---- what is looked at before

pub are_regular : (types : List ObcType) (ns : List FlatNode) (ms : List Machine) → AreMade types ns ms → AllByRecursion (IsRegular types) ns
are_regular types [] ms h = tt
are_regular types (n ∷ ns) [] h = absurd h
are_regular types (n ∷ ns) (m ∷ ms) h = let one = h.0 in (one.regular, are_regular types ns ms h.1)

pub have_few : (types : List ObcType) (ns : List FlatNode) (ms : List Machine) → AreMade types ns ms → AllByRecursion HasFew ns
have_few types [] ms h = tt
have_few types (n ∷ ns) [] h = absurd h
have_few types (n ∷ ns) (m ∷ ms) h =
    let one = h.0 in
    let regular = one.regular in
    let few = regular.few_variables in
    (omega (arith, few), have_few types ns ms h.1)
