-- Machines that are made one by one.
use Rattle.std.proofs.Common.{◌≡◌, List, [], ◌∷◌, ◌++◌, length, map, refl, sym, ap, subst, ◌∙◌}
use Rattle.std.proofs.lemmas.List.{append_assoc, append-nil}
use Rattle.std.specs.List.{AllByRecursion}
use Rattle.std.specs.List.Sorted.{IsPermutation}
use Rattle.hp_flat.specs.Equations.{FlatEqn}
use Rattle.hp_flat.specs.Nodes.{FlatNode}
use Rattle.hp_normal.specs.Normal.{normal}
use Rattle.hp_normal.specs.Retargeting.{with_eqns}
use Rattle.hp_obc.specs.Machines.{ObcType, Machine}
use Rattle.hp_schedule.specs.ByClock.{IsByClock}
use Rattle.law_equations.specs.Made.Laws.{unplaced}
use Rattle.law_equations.specs.Meaning.Scheduling.{IsInOrder, reads, AreBelow, IsRanked}
use Rattle.hp_toobc.specs.Making.{machine_of}
use Rattle.hp_fuse.specs.Fusing.{fused_machine}
use Rattle.hp_machines.specs.Flattened.{heading_of_flat}
use Rattle.hp_machines.specs.Machined.{heading_of_machine}
use Rattle.hp_machines.specs.Making.{IsArrangedAs, IsMachineOf, AreMade}

-- one machine more, where those that are made stand in front of what comes
pub made-next : (types : List ObcType) (all rest : List FlatNode) (n : FlatNode) (old new : List Machine) → ((after : List Machine) → AreMade types (n ∷ rest) after → AreMade types all (old ++ after)) →
    ((m : Machine) × (new ≡ old ++ m ∷ []) × IsMachineOf types n m) → (after : List Machine) → AreMade types rest after → AreMade types all (new ++ after)
made-next types all rest n old new before one after h =
    let place : new ++ after ≡ old ++ one.0 ∷ after = ap (λ ms. ms ++ after) one.1 ∙ append_assoc old (one.0 ∷ []) after in
    subst (λ ms. AreMade types all ms) (sym place) (before (one.0 ∷ after) (one.2, h))

-- the machine of a node has its heading
pub heading-made : (types : List ObcType) (n : FlatNode) (m : Machine) → IsMachineOf types n m → heading_of_machine m ≡ heading_of_flat types n
heading-made types n m h = ap heading_of_machine (h.arranged).made

pub headings-made : (types : List ObcType) (ns : List FlatNode) (ms : List Machine) → AreMade types ns ms → map heading_of_machine ms ≡ map (heading_of_flat types) ns
headings-made types [] [] h = refl
headings-made types [] (m ∷ ms) h = absurd h
headings-made types (n ∷ ns) [] h = absurd h
headings-made types (n ∷ ns) (m ∷ ms) h =
    let one = heading-made types n m h.0 in
    let rest = headings-made types ns ms h.1 in
    λ i. one i ∷ rest i

-- a node whose equations alone are arranged
pub with-others : (n k : FlatNode) → k.name ≡ n.name → k.variables ≡ n.variables → k.inputs ≡ n.inputs → k.outputs ≡ n.outputs → k ≡ with_eqns n k.eqns
with-others n k name variables inputs outputs = λ i. record { name = name i; variables = variables i; inputs = inputs i; outputs = outputs i; eqns = k.eqns }

pub made-one : (types : List ObcType) (n scheduled plain : FlatNode) (raw m : Machine) → scheduled.name ≡ n.name → scheduled.variables ≡ n.variables → scheduled.inputs ≡ n.inputs → scheduled.outputs ≡ n.outputs →
    IsPermutation (map unplaced n.eqns) (map unplaced scheduled.eqns) → IsInOrder scheduled.eqns →
    (IsRanked n.eqns → AllByRecursion (λ (e : FlatEqn). AreBelow (length n.variables) (reads e)) n.eqns → IsByClock (length n.variables) n.eqns scheduled.eqns) →
    plain ≡ normal scheduled → raw ≡ machine_of types plain → m ≡ fused_machine raw → IsArrangedAs types n m
made-one types n scheduled plain raw m name variables inputs outputs same order by_clock p r f =
    let arranged = with-others n scheduled name variables inputs outputs in
    record {
      scheduled = scheduled.eqns;
      same = same;
      order = order;
      by_clock = by_clock;
      made = f ∙ ap fused_machine (r ∙ ap (machine_of types) (p ∙ ap normal arranged));
    }

-- no node is left
pub made-all : (types : List ObcType) (all rest : List FlatNode) (ms : List Machine) → ((after : List Machine) → AreMade types rest after → AreMade types all (ms ++ after)) → length rest ≡ 0 → AreMade types all ms
made-all types all [] ms h e = subst (λ (xs : List Machine). AreMade types all xs) (append-nil ms) (h [] tt)
made-all types all (n ∷ rest) ms h e = absurd cc
