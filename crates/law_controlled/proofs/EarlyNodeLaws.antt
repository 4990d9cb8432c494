-- Targets of comparisons and calls, whose places are early, depend on no controllable variable: in the clocked equations of a node, and in those of its contract's observer where this stands among them.
use Rattle.std.proofs.Common.{◌≡◌, inl, inr, ℕ, zero, suc, ◌+◌, ◌-◌, ◌<◌, ◌≤◌, List, [], ◌∷◌, ◌++◌, length, slice_get, Some, refl, sym, ap, ap₂, ◌∙◌, arith}
use Rattle.std.specs.Prelude.{true, Contains}
use Rattle.std.specs.List.{AllByRecursion}
use Rattle.std.specs.Str.{bytes_eq}
use Rattle.std.proofs.lemmas.List.{length-map}
use Rattle.hp_tree.specs.Blocks.{Decl}
use Rattle.hp_tree.specs.Instant.{Body, Place}
use Rattle.hp_tree.specs.Meaning.{declares, controls_of}
use Rattle.hp_tree.specs.Programs.{Contract, Node}
use Rattle.hp_tree.specs.declared.program.Item.{Item}
use Rattle.hp_meaning.specs.Contract.FreePlaces.{IsEarly}
use Rattle.law_judged.proofs.NamedLemmas.Sets.{or_left, or_right}
use Rattle.hp_automata.specs.Lowering.{Enumerations, lowered_node, types_of as old_types}
use Rattle.law_automata.specs.Lowered.Standing.{Along}
use Rattle.law_automata.proofs.LoweredLemmas.Apart.{bytes_same}
use Rattle.law_automata.proofs.LoweredLemmas.RightSteps.{controls_same}
use Rattle.hp_flat.specs.Equations.{FlatEqn}
use Rattle.hp_flat.specs.Nodes.{FlatNode}
use Rattle.law_equations.specs.Flattened.Flatten.{Input}
use Rattle.law_equations.specs.Made.Making.{Known}
use Rattle.law_equations.specs.Made.Laws.{names}
use Rattle.law_equations.specs.Meaning.Scheduling.{DefinesNoInput}
use Rattle.hp_complete.specs.Made.{IsMadeOf}
use Rattle.hp_watch.specs.declared.watching.Free.{Free}
use Rattle.hp_watch.specs.Embedding.{embedded}
use Rattle.hp_watch.specs.Observing.{observer_of}
use Rattle.hp_watch.specs.Walk.{events_from, walk_block, walk_contract}
use Rattle.hp_watch.specs.Watching.{own_site}
use Rattle.law_choices.specs.Depending.Contracts.{found_in_contract}
use Rattle.law_choices.specs.Depending.Dependence.{DependsOn}
use Rattle.law_choices.specs.Depending.Found.{LabelsMeanLaw, TargetsMean}
use Rattle.law_choices.specs.Depending.Laws.{VariablesLaw}
use Rattle.law_choices.specs.Places.Found.{Both, found_in_node}
use Rattle.law_choices.specs.Places.Laws.{events, places_of, WalkLaw}
use Rattle.law_choices.specs.Places.Spots.{spots_of_node}
use Rattle.law_choices.specs.Undisturbed.Laws.{KeepsPlaces}
use Rattle.law_choices.proofs.AddingLemmas.Surveyed.{at_number}
use Rattle.law_choices.proofs.BroughtLemmas.Flagged.{At, Targets}
use Rattle.law_choices.proofs.ClosedLemmas.ClosedLaws.{first_one, later_one}
use Rattle.law_choices.proofs.DependingLemmas.ContractLaws.{AtEvent, each_event}
use Rattle.law_choices.proofs.DependingLemmas.EventLaws.{walk_told}
use Rattle.law_choices.proofs.PlacesLemmas.Related.{block-hidden}
use Rattle.law_controlled.specs.Embedded.{CanStand, KeepsOwnContract, WaitsForNone}
use Rattle.law_controlled.proofs.ClearLaws.{IsClear, IsStanding}
use Rattle.law_controlled.proofs.OwnContractLaws.{get-behind}
use Rattle.law_controlled.proofs.StandingLaws.{StandsThere}

-- a declaration of this number, by its name
declared-at : (ds : List Decl) (j : ℕ) → j < length ds → (x : List ℕ) × (slice_get (names ds) j ≡ Some x) × (declares ds x ≡ true)
declared-at [] j l = absurd (omega (arith, l))
declared-at (d ∷ ds) zero l = (d.name, refl, or_left (bytes_eq d.name d.name) (declares ds d.name) (bytes_same d.name))
declared-at (d ∷ ds) (suc j) l = let h = declared-at ds j (omega (arith, l)) in (h.0, h.1, or_right (bytes_eq d.name h.0) (declares ds h.0) h.2)

-- ---- targets, by what is known of them beside their places

module _ (es : List FlatEqn) (low : ℕ) (no : AllByRecursion (λ (e : FlatEqn). AllByRecursion (λ x. low ≤ x) e.targets) es) (S : ℕ → Place → Type 0) (V : Free → Place → Type 0)
    (one : (i x : ℕ) (e : FlatEqn) (q : Place) → slice_get es i ≡ Some e → Contains e.targets x → low ≤ x → S x q → V (record { variable = x; eqn = Some i }) q) where
  targets-so : (i : ℕ) (e : FlatEqn) → slice_get es i ≡ Some e → (xs : List ℕ) (qs : List Place) → ((x : ℕ) → Contains xs x → Contains e.targets x) → AllByRecursion (λ x. low ≤ x) xs → Along S xs qs → Along (At V i) xs qs
  targets-so i e at [] [] sub l h = tt
  targets-so i e at [] (q ∷ qs) sub l h = absurd h
  targets-so i e at (x ∷ xs) [] sub l h = absurd h
  targets-so i e at (x ∷ xs) (q ∷ qs) sub l h = (one i x e q at (sub x (first_one x xs)) l.0 h.0, targets-so i e at xs qs (λ y c. sub y (later_one x y xs c)) l.1 h.1)

  each-so : (is : List ℕ) (fs : Both) → Along (AtEvent es S) is fs → Along (Targets V es) is fs
  each-so [] [] h = tt
  each-so [] (c ∷ fs) h = absurd h
  each-so (i ∷ is) [] h = absurd h
  each-so (i ∷ is) (c ∷ fs) h =
      let here = h.0 in
      let e : FlatEqn = here.0 in
      ((e, here.1, targets-so i e here.1 e.targets (places_of c.0) (λ x k. k) (at_number (λ (d : FlatEqn). AllByRecursion (λ x. low ≤ x) d.targets) es i e here.1 no) here.2), each-so is fs h.1)

-- ---- one node

module _ (variables : VariablesLaw) (labels : LabelsMeanLaw) (walk : WalkLaw) (enums : Enumerations) (after : List Item) (n : Node) (c : Contract) (has : n.contract ≡ Some c) (k k_seen : Known) (f g : FlatNode)
    (made : IsMadeOf k (lowered_node enums n) f) (p : StandsThere k (lowered_node enums n) f) (t : StandsThere k_seen (lowered_node enums (observer_of n c)) g) (no_inputs : DefinesNoInput f) (can : CanStand f g (own_site (length n.inputs) f)) where
  abbrev inputs : ℕ
  inputs = length n.inputs

  abbrev m : Node
  m = lowered_node enums n

  abbrev V : ℕ
  V = length f.variables

  abbrev start : FlatNode
  start = embedded g (own_site (length n.inputs) f) f

  same-controls : controls_of m.contract ≡ controls_of n.contract
  same-controls = controls_same enums (old_types n) n.contract

  count : f.inputs ≡ inputs + length (controls_of n.contract)
  count = made.inputs ∙ ap (λ cs. length n.inputs + length cs) same-controls

  -- a controllable variable
  abbrev Control : Type 0
  Control = (w : ℕ) × (inputs ≤ w) × (w < f.inputs)

  -- it stands for one of its name
  its-name : (w : ℕ) → inputs ≤ w → w < f.inputs → (x : List ℕ) × (declares (controls_of n.contract) x ≡ true) × (p.stands.means w ≡ Input x)
  its-name w l u =
      let many = count in
      let d = declared-at (controls_of n.contract) (w - inputs) (omega (arith, l, u, many)) in
      let long : length (names n.inputs) ≡ inputs = length-map n.inputs (λ (d : Decl). d.name) in
      let at : length (names n.inputs) + (w - inputs) ≡ w = omega (arith, l, long) in
      let place : slice_get (names n.inputs ++ names (controls_of m.contract)) w ≡ Some d.0 =
      ap₂ (λ cs j. slice_get (names n.inputs ++ names cs) j) same-controls (sym at) ∙ get-behind (names n.inputs) (names (controls_of n.contract)) (w - inputs) ∙ d.1 in
      (d.0, d.2, (variables p.types p.outputs k p.fill m f p.stands).1 w d.0 place)

  -- ---- comparisons and calls of the node

  mean : Along (TargetsMean p.stands.means) (events f.eqns) (spots_of_node p.outputs m)
  mean = labels p.outputs m f.eqns p.stands.means p.labelled

  abbrev order : List ℕ
  order = (walk_block n.body (events_from 0 f.eqns)).0

  -- what is so of free places of the node whose place is early
  abbrev pub Own : Free → Place → Type 0
  Own fr q = IsEarly after n q → IsStanding f fr × IsClear inputs f.inputs f.eqns fr.variable

  pub own-targets : KeepsPlaces enums n → Along (Targets Own f.eqns) order (found_in_node p.outputs n)
  own-targets keeps =
      let fs = found_in_node p.outputs n in
      let S : Control → ℕ → Place → Type 0 = λ a x q. IsEarly after n q → DependsOn f.eqns x a.0 → ⊥ in
      let as_many : Along (AtEvent f.eqns (λ x q. Unit {0})) order fs =
      walk_told p.outputs f.eqns p.stands.means (λ q r. Unit {0}) (λ x q. Unit {0}) (λ x q r e u. tt) walk enums n mean (block-hidden p.outputs (λ q r. Unit {0}) n.body (λ q. Body ∷ q) (λ q. Body ∷ q) (λ q r. tt)) in
      let each = each_event f.eqns S order fs as_many (λ a. let d = its-name a.0 a.1 a.2 in keeps.events p.outputs after d.0 d.1 p.types p.outputs k p.fill f p.stands a.0 d.2 mean) in
      each-so f.eqns f.inputs no_inputs (λ x q. (a : Control) → S a x q) Own
      (λ i x e q at there low h early. ((i, e, refl, at, there), clear x low (λ w l u d. h (w, l, u) early d))) order fs each
    where
      clear : (x : ℕ) → f.inputs ≤ x → ((w : ℕ) → inputs ≤ w → w < f.inputs → DependsOn f.eqns x w → ⊥) → IsClear inputs f.inputs f.eqns x
      clear x low h w l u (inl e) = omega (arith, low, e, u)
      clear x low h w l u (inr d) = h w l u d

  -- ---- comparisons of its contract

  -- what is so of free places of the observer whose place is early
  abbrev pub Told : Free → Place → Type 0
  Told fr q = IsEarly after n q → IsStanding g fr × IsClear inputs f.inputs start.eqns (fr.variable + V)

  pub told-targets : KeepsOwnContract enums enums n → Along (Targets Told g.eqns) (walk_contract c (events_from 0 g.eqns)).0 (found_in_contract t.outputs c)
  told-targets keeps =
      let many = count in
      let seen = labels t.outputs (lowered_node enums (observer_of n c)) g.eqns t.stands.means t.labelled in
      let each = keeps c t.outputs after has p.types p.outputs k p.fill f p.stands t.types t.outputs k_seen t.fill g t.stands can no_inputs (omega (arith, many)) seen in
      each-so g.eqns g.inputs can.no_inputs (WaitsForNone after n f g p.stands.means) Told (λ i x e q at there low h early. ((i, e, refl, at, there), clear x q h early)) (walk_contract c (events_from 0 g.eqns)).0 (found_in_contract t.outputs c) each
    where
      clear : (x : ℕ) (q : Place) → WaitsForNone after n f g p.stands.means x q → IsEarly after n q → IsClear inputs f.inputs start.eqns (x + V)
      clear x q h early w l u (inl e) = let i = can.within in let few = i.inputs in omega (arith, e, u, few)
      clear x q h early w l u (inr d) = let i = can.within in let few = i.inputs in let name = its-name w l u in h early name.0 w name.1 name.2 l (omega (arith, u, few)) d
