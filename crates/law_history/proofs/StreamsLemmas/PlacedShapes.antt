-- Nodes with the places of the order in which their machines are made have shape, as they had before.
use Rattle.std.proofs.Common.{◌≡◌, ◌<◌, ◌≤◌, ◌+◌, ℕ, suc, Bool, true, false, cond, List, [], ◌∷◌, drop, length, map, refl, sym, ap, subst, ◌∙◌, arith}
use Rattle.std.specs.List.{AllByRecursion, IsDistinct, filter}
use Rattle.std.specs.List.Sorted.{IsPermutation}
use Rattle.std.proofs.lemmas.List.Sorted.{IsPermutation-sym}
use Rattle.std.specs.Prelude.{nat_eq}
use Rattle.hp_tree.specs.declared.program.Item.{Item}
use Rattle.hp_tree.specs.declared.program.Item.TheVariants.{TypeItem, NodeItem}
use Rattle.hp_flat.specs.Equations.{FlatEqn}
use Rattle.hp_flat.specs.Nodes.{FlatNode}
use Rattle.hp_obc.specs.Machines.{ObcType, Machine}
use Rattle.hp_normal.specs.Retargeting.{with_eqns}
use Rattle.law_equations.specs.Made.Laws.{unplaced}
use Rattle.law_equations.specs.Made.Making.{Known}
use Rattle.law_equations.specs.Meaning.Kinding.{Callees, EqnKinds}
use Rattle.law_equations.specs.Meaning.Reactions.{has}
use Rattle.law_equations.specs.Meaning.Scheduling.{AreBelow, EqnWithin, reads, IsDefinedBelow, IsRanked}
use Rattle.law_equations.specs.Shaped.Shaped.{AreApart, AreShaped, DefineApart, IsShort, NodeShape}
use Rattle.law_equations.proofs.FewerLemmas.Members.{each_map}
use Rattle.law_equations.proofs.FewerLemmas.OrderLaws.{each_moved}
use Rattle.hp_complete.specs.Made.{AreMadeOf}
use Rattle.hp_schedule.specs.ByClock.{IsByClock, numbered}
use Rattle.hp_schedule.proofs.PlacedLaws.{all-alike, calls-alike, same-count, within-alike}
use Rattle.hp_schedule.proofs.ReadLaws.{reads-within}
use Rattle.hp_schedule.proofs.UniqueLaws.{ranked-by_clock}
use Rattle.hp_machines.specs.Making.{AreMade, IsMachineOf, defines_some, giving}
use Rattle.law_history.proofs.StreamsLemmas.MadeMachines.{placed_of, placed_node, placed_nodes, placed_ranked}

-- ---- the equations that define nothing stand behind all others

abbrev first_or : FlatEqn → List FlatEqn → FlatEqn
first_or d [] = d
first_or d (e ∷ es) = e

-- each equation that defines something is the next one of some, and each other one has a place
abbrev merged : ℕ → List FlatEqn → List FlatEqn → List FlatEqn
merged k [] ps = []
merged k (e ∷ es) ps = cond (defines_some e) (first_or e ps ∷ merged k es (drop 1 ps)) (record e { at = k } ∷ merged k es ps)

abbrev Given : List FlatEqn → List FlatEqn → Type 0
Given es ps = map unplaced ps ≡ map unplaced (filter defines_some es)

-- the two cases of the next equation
module _ (e : FlatEqn) (es : List FlatEqn) where
  given_true : (ps : List FlatEqn) → map unplaced ps ≡ unplaced e ∷ map unplaced (filter defines_some es) → (unplaced (first_or e ps) ≡ unplaced e) × Given es (drop 1 ps) × (ps ≡ first_or e ps ∷ drop 1 ps)
  given_true [] h = absurd (cc)
  given_true (p ∷ ps) h = (cc, ap (λ ds. drop 1 ds) h, refl)

pub merged_alike : (k : ℕ) (es ps : List FlatEqn) → Given es ps → map unplaced (merged k es ps) ≡ map unplaced es
merged_alike k [] ps h = refl
merged_alike k (e ∷ es) ps h = by (defines_some e) h (merged_alike k es)
  where
    by : (b : Bool) → map unplaced ps ≡ map unplaced (cond b (e ∷ filter defines_some es) (filter defines_some es)) → ((qs : List FlatEqn) → Given es qs → map unplaced (merged k es qs) ≡ map unplaced es)
        → map unplaced (cond b (first_or e ps ∷ merged k es (drop 1 ps)) (record e { at = k } ∷ merged k es ps)) ≡ unplaced e ∷ map unplaced es
    by true g rest = let its = given_true e es ps g in λ i. its.0 i ∷ rest (drop 1 ps) its.1 i
    by false g rest = ap (λ ds. unplaced e ∷ ds) (rest ps g)

pub merged_given : (k : ℕ) (es ps : List FlatEqn) → Given es ps → filter defines_some (merged k es ps) ≡ ps
merged_given k [] [] h = refl
merged_given k [] (p ∷ ps) h = absurd (cc)
merged_given k (e ∷ es) ps h = by (defines_some e) refl h (merged_given k es)
  where
    by : (b : Bool) → defines_some e ≡ b → map unplaced ps ≡ map unplaced (cond b (e ∷ filter defines_some es) (filter defines_some es)) → ((qs : List FlatEqn) → Given es qs → filter defines_some (merged k es qs) ≡ qs)
        → filter defines_some (cond b (first_or e ps ∷ merged k es (drop 1 ps)) (record e { at = k } ∷ merged k es ps)) ≡ ps
    by true d g rest =
        let its = given_true e es ps g in
        let there : defines_some (first_or e ps) ≡ true = ap defines_some its.0 ∙ d in
        ap (λ c. cond c (first_or e ps ∷ filter defines_some (merged k es (drop 1 ps))) (filter defines_some (merged k es (drop 1 ps)))) there
        ∙ ap (λ ds. first_or e ps ∷ ds) (rest (drop 1 ps) its.1)
        ∙ sym its.2
    by false d g rest = ap (λ c. cond c (record e { at = k } ∷ filter defines_some (merged k es ps)) (filter defines_some (merged k es ps))) d ∙ rest ps g

-- what holds of all that define something, and of all others, holds of all
merged_all : (P : FlatEqn → Type 0) (k : ℕ) (es ps : List FlatEqn) → Given es ps → AllByRecursion P ps → ((e : FlatEqn) → defines_some e ≡ false → P (record e { at = k })) → AllByRecursion P (merged k es ps)
merged_all P k [] ps h all others = tt
merged_all P k (e ∷ es) ps h all others = by (defines_some e) refl h (merged_all P k es)
  where
    by : (b : Bool) → defines_some e ≡ b → map unplaced ps ≡ map unplaced (cond b (e ∷ filter defines_some es) (filter defines_some es))
        → ((qs : List FlatEqn) → Given es qs → AllByRecursion P qs → ((d : FlatEqn) → defines_some d ≡ false → P (record d { at = k })) → AllByRecursion P (merged k es qs))
        → AllByRecursion P (cond b (first_or e ps ∷ merged k es (drop 1 ps)) (record e { at = k } ∷ merged k es ps))
    by true d g rest =
        let its = given_true e es ps g in
        let split : AllByRecursion P (first_or e ps ∷ drop 1 ps) = subst (AllByRecursion P) its.2 all in
        (split.0, rest (drop 1 ps) its.1 split.1 others)
    by false d g rest = (others e d, rest ps g all others)

none_has : (ts : List ℕ) (x : ℕ) → elim ts [ [] ↦ false | y ∷ ys ↦ true ] ≡ false → has ts x ≡ true → ⊥
none_has [] x h g = absurd (cc)
none_has (t ∷ ts) x h g = absurd (cc)

pub merged_ranked : (k : ℕ) (es ps : List FlatEqn) → Given es ps → AllByRecursion (λ (p : FlatEqn). p.at < k) ps → IsRanked ps → IsRanked (merged k es ps)
merged_ranked k es ps h below ranked =
    let all : List FlatEqn = merged k es ps in
    let lifted : (x m : ℕ) → AllByRecursion (λ (d : FlatEqn). has d.targets x ≡ true → d.at < m) ps → AllByRecursion (λ (d : FlatEqn). has d.targets x ≡ true → d.at < m) all =
    λ x m g. merged_all (λ (d : FlatEqn). has d.targets x ≡ true → d.at < m) k es ps h g (λ d none q. absurd (none_has d.targets x none q)) in
    merged_all (λ (e : FlatEqn). AllByRecursion (IsDefinedBelow all e) (reads e)) k es ps h
    (each_map (λ (e : FlatEqn). AllByRecursion (IsDefinedBelow ps e) (reads e)) (λ (e : FlatEqn). AllByRecursion (IsDefinedBelow all e) (reads e))
    (λ e r. each_map (IsDefinedBelow ps e) (IsDefinedBelow all e) (λ x q. lifted x e.at q) (reads e) r) ps ranked)
    (λ e none. every (IsDefinedBelow all (record e { at = k })) (λ x. lifted x k (each_map (λ (p : FlatEqn). p.at < k) (λ (d : FlatEqn). has d.targets x ≡ true → d.at < k) (λ d lt q. lt) ps below)) (reads e))
  where
    every : (P : ℕ → Type 0) → ((x : ℕ) → P x) → (xs : List ℕ) → AllByRecursion P xs
    every P f [] = tt
    every P f (x ∷ xs) = (f x, every P f xs)

-- ---- nodes

row_below : (k n : ℕ) (es : List FlatEqn) → k + length es ≤ n → AllByRecursion (λ (e : FlatEqn). e.at < n) (numbered k es)
row_below k n [] h = tt
row_below k n (e ∷ es) h = (omega arith, row_below (suc k) n es (omega arith))

row_length : (k : ℕ) (es : List FlatEqn) → length (numbered k es) ≡ length es
row_length k [] = refl
row_length k (e ∷ es) = ap suc (row_length (suc k) es)

each_given : (P : FlatEqn → Type 0) (es : List FlatEqn) → AllByRecursion P es → AllByRecursion P (filter defines_some es)
each_given P [] h = tt
each_given P (e ∷ es) h = by (defines_some e) (each_given P es h.1)
  where
    by : (b : Bool) → AllByRecursion P (filter defines_some es) → AllByRecursion P (cond b (e ∷ filter defines_some es) (filter defines_some es))
    by true g = (h.0, g)
    by false g = g

apart_given : (es : List FlatEqn) → DefineApart es → DefineApart (filter defines_some es)
apart_given es h =
    each_map (λ (d : FlatEqn). AllByRecursion (AreApart d) es) (λ (d : FlatEqn). AllByRecursion (AreApart d) (filter defines_some es)) (λ d g. each_given (AreApart d) es g) (filter defines_some es)
    (each_given (λ (d : FlatEqn). AllByRecursion (AreApart d) es) es h)

module _ (types : List ObcType) (n : FlatNode) (m : Machine) (made : IsMachineOf types n m) where
  -- the whole node: equations that define nothing come last
  abbrev pub whole_node : FlatNode
  whole_node = with_eqns n (merged (length (made.arranged).scheduled) n.eqns (placed_of types n m made).placed)

  pub whole_alike : map unplaced whole_node.eqns ≡ map unplaced n.eqns
  whole_alike = let p = placed_of types n m made in merged_alike (length (made.arranged).scheduled) n.eqns p.placed p.alike

  pub whole_given : filter defines_some whole_node.eqns ≡ (placed_of types n m made).placed
  whole_given = let p = placed_of types n m made in merged_given (length (made.arranged).scheduled) n.eqns p.placed p.alike

  pub whole_ranked : IsRanked (giving n).eqns → AllByRecursion (λ (e : FlatEqn). AreBelow (length n.variables) (reads e)) (giving n).eqns → IsRanked whole_node.eqns
  whole_ranked ranked within =
      let a = made.arranged in
      let p = placed_of types n m made in
      let by_clock : IsByClock (length n.variables) (giving n).eqns a.scheduled = a.by_clock ranked within in
      let count : length a.scheduled ≡ length by_clock.ordered = ap length by_clock.places ∙ row_length 0 by_clock.ordered in
      let below : AllByRecursion (λ (e : FlatEqn). e.at < length a.scheduled) a.scheduled =
      subst (λ (es : List FlatEqn). AllByRecursion (λ (e : FlatEqn). e.at < length a.scheduled) es) (sym by_clock.places) (row_below 0 (length a.scheduled) by_clock.ordered (omega (arith, count))) in
      merged_ranked (length a.scheduled) n.eqns p.placed p.alike
      (each_moved (λ (e : FlatEqn). e.at < length a.scheduled) a.scheduled p.placed (IsPermutation-sym p.placed a.scheduled p.same) below)
      (placed_ranked types n m made ranked within)

  -- a node with shape has it with these places, where no variable is defined twice at one instant
  pub placed_shape : (callees : Callees) → DefineApart (placed_of types n m made).placed → NodeShape types callees (giving n) → NodeShape types callees (placed_node types n m made)
  placed_shape callees apart h =
      let p = placed_of types n m made in
      let g : FlatNode = giving n in
      record {
        name = h.name;
        within = within-alike g p.placed p.alike h.within;
        no_inputs = all-alike (λ (e : FlatEqn). AllByRecursion (λ x. n.inputs ≤ x) e.targets) (λ e q. q) (λ e q. q) g.eqns p.placed p.alike h.no_inputs;
        outputs_behind = h.outputs_behind;
        outputs_differ = h.outputs_differ;
        kinds = all-alike (EqnKinds types callees n.variables) (λ e k. record { right = k.right; clock = k.clock; restart = k.restart }) (λ e k. record { right = k.right; clock = k.clock; restart = k.restart })
            g.eqns p.placed p.alike h.kinds;
        values = h.values;
        targets_differ = all-alike (λ (e : FlatEqn). IsDistinct nat_eq e.targets) (λ e q. q) (λ e q. q) g.eqns p.placed p.alike h.targets_differ;
        apart = apart;
        short = all-alike IsShort (λ e q. q) (λ e q. q) g.eqns p.placed p.alike h.short;
        names_good = h.names_good;
        names_differ = h.names_differ;
        names_own = h.names_own;
        few = omega (arith, h.few, same-count g.eqns p.placed p.alike);
      }

-- ---- programs

module _ (types : List ObcType) (callees : Callees) where
  abbrev pub whole_nodes : (ns : List FlatNode) (ms : List Machine) → AreMade types ns ms → List FlatNode
  whole_nodes [] [] h = []
  whole_nodes (n ∷ ns) (m ∷ ms) h = whole_node types n m h.0 ∷ whole_nodes ns ms h.1
  whole_nodes [] (m ∷ ms) h = []
  whole_nodes (n ∷ ns) [] h = []

  reads_below : (n : FlatNode) → NodeShape types callees (giving n) → AllByRecursion (λ (e : FlatEqn). AreBelow (length n.variables) (reads e)) (giving n).eqns
  reads_below n h = each_map (EqnWithin (length n.variables)) (λ (e : FlatEqn). AreBelow (length n.variables) (reads e)) (λ e w. reads-within (length n.variables) e w) (giving n).eqns (h.within).eqns

  -- they are made of the same nodes of the program
  pub whole_made : (k : Known) (items : List Item) (earlier : List (List ℕ)) (ns : List FlatNode) (ms : List Machine) (h : AreMade types ns ms) → AreShaped types callees earlier (map giving ns) → AreMadeOf k items ns
      → AreMadeOf k items (whole_nodes ns ms h)
  whole_made k [] earlier [] [] h s made = tt
  whole_made k [] earlier [] (m ∷ ms) h s made = absurd h
  whole_made k [] earlier (n ∷ ns) ms h s made = absurd made
  whole_made k (TypeItem t ∷ items) earlier ns ms h s made = whole_made k items earlier ns ms h s made
  whole_made k (NodeItem node ∷ items) earlier [] ms h s made = absurd made
  whole_made k (NodeItem node ∷ items) earlier (n ∷ ns) [] h s made = absurd h
  whole_made k (NodeItem node ∷ items) earlier (n ∷ ns) (m ∷ ms) h s made =
      let one = made.0 in (
        record {
          name = one.name;
          variables = one.variables;
          inputs = one.inputs;
          outputs = one.outputs;
          eqns = whole_alike types n m h.0 ∙ one.eqns;
          ranked = whole_ranked types n m h.0 s.1 (reads_below n s.0);
        },
        whole_made k items (n.name ∷ earlier) ns ms h.1 s.5 made.1,
      )

  pub placed_shaped : (earlier : List (List ℕ)) (ns : List FlatNode) (ms : List Machine) (h : AreMade types ns ms) → AllByRecursion (λ (f : FlatNode). DefineApart f.eqns) (whole_nodes ns ms h) → AreShaped types callees earlier (map giving ns)
      → AreShaped types callees earlier (placed_nodes types ns ms h)
  placed_shaped earlier [] [] h a s = tt
  placed_shaped earlier [] (m ∷ ms) h a s = absurd h
  placed_shaped earlier (n ∷ ns) [] h a s = absurd h
  placed_shaped earlier (n ∷ ns) (m ∷ ms) h a s =
      let p = placed_of types n m h.0 in
      let apart : DefineApart p.placed = subst DefineApart (whole_given types n m h.0) (apart_given (whole_node types n m h.0).eqns a.0) in (
        placed_shape types n m h.0 callees apart s.0,
        placed_ranked types n m h.0 s.1 (reads_below n s.0),
        record { takes = (s.2).takes; gives = (s.2).gives },
        s.3,
        calls-alike (giving n) p.placed p.alike earlier s.4,
        placed_shaped (n.name ∷ earlier) ns ms h.1 a.1 s.5,
      )
