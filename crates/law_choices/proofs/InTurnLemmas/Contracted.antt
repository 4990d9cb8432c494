-- What is made of a node with a contract is well made.
use Rattle.std.proofs.Common.{◌≡◌, ℕ, suc, ◌+◌, ◌-◌, ◌<◌, ◌≤◌, true, List, [], ◌∷◌, ◌++◌, map, refl, sym, ap, ap₂, subst, ◌∙◌, arith}
use Rattle.std.specs.Prelude.{zero, length, codes}
use Rattle.std.specs.List.{AllByRecursion, range_with_len}
use Rattle.hp_base.specs.Kinds.{Bools, Constructors}
use Rattle.hp_boolx.specs.Machine.{Machine}
use Rattle.hp_obc.specs.Form.{has_name}
use Rattle.hp_obc.specs.Machines.{ObcType}
use Rattle.hp_tree.specs.Programs.{Node}
use Rattle.hp_tree.specs.Meaning.{controls_of}
use Rattle.hp_flat.specs.declared.node.FlatTy.{FlatTy}
use Rattle.hp_flat.specs.declared.node.FlatTy.TheVariants as flat
use Rattle.hp_flat.specs.declared.node.Variable.{Variable}
use Rattle.hp_flat.specs.Equations.{Clock, FlatEqn}
use Rattle.hp_flat.specs.Nodes.{FlatNode}
use Rattle.law_equations.specs.Followed.Programs.{CallsAmong, CallsOnly}
use Rattle.law_equations.specs.Meaning.Kinding.{Callees, constructors, kind_of_type, variable_kind, HasValue, kinds_at, IsWellMade}
use Rattle.law_equations.specs.Meaning.Reactions.{Answers, inputs_of}
use Rattle.law_equations.specs.Meaning.Scheduling.{AreBelow, IsRanked, IsWithin}
use Rattle.law_equations.specs.Shaped.Shaped.{IsHeaded}
use Rattle.hp_controller.specs.declared.decoding.Control.{Control}
use Rattle.hp_controller.specs.declared.decoding.ControlKind.{ControlKind}
use Rattle.hp_controller.specs.declared.decoding.ControlKind.TheVariants.{Truth, Constructor}
use Rattle.hp_controller.specs.Controlled.{controlled, IsControllable}
use Rattle.hp_watch.specs.Adding.{type_at, with_copy}
use Rattle.hp_watch.specs.Watching.{Observing}
use Rattle.law_choices.specs.Answered.Loops.{Loop, IsLoop, IsClosed, OwnLoopLaw}
use Rattle.law_choices.specs.Adding.Choosing.{IsOfNode, WatchingLaw, ChoosingLaw}
use Rattle.law_choices.specs.Adding.Controls.{bools, IsAskedFor, HasControlKind, HaveControlKinds}
use Rattle.law_choices.specs.Adding.Laws.{OrderedLaw}
use Rattle.law_choices.specs.Adding.Lifts.{HaveBytes}
use Rattle.law_choices.specs.Adding.Surveyed.{AllSuit}
use Rattle.law_choices.specs.Adding.Watched.{HasBits}
use Rattle.law_choices.proofs.AddingLemmas.Adding.{targets_kinds}
use Rattle.law_choices.proofs.AddingLemmas.One.{kind-at, value-at}
use Rattle.law_choices.proofs.AddingLemmas.Placed.{same_eqns, transfer}
use Rattle.law_choices.proofs.AddingLemmas.Rows.{each_range}
use Rattle.law_choices.specs.InTurn.Calling.{CallNothing}
use Rattle.law_choices.specs.InTurn.Nodes.{Contracted, controller_name, telling, IsOfType, AreOfTypes, IsOwn, IsContracted}
use Rattle.law_choices.specs.Closed.Exclusive.{IsParted}
use Rattle.law_choices.proofs.InTurnLemmas.Calls.{calls_among, calls_nothing, stateless_calls, copy_good, watched_good, controlled_good}
use Rattle.law_choices.proofs.InTurnLemmas.Telling.{copy_outputs, telling_well, telling_in_range, told_kinds}

-- the laws that are joined here
pub record NodeLaws : Type 0 where
  pub watching : WatchingLaw
  pub choosing : ChoosingLaw
  pub ordered : OrderedLaw
  pub itself : OwnLoopLaw

-- ---- kinds

same_bools : (xs ys : List ℕ) → length xs ≡ length ys → map (λ (x : ℕ). Bools) xs ≡ map (λ (y : ℕ). Bools) ys
same_bools [] [] h = refl
same_bools [] (y ∷ ys) h = absurd (omega (arith, h))
same_bools (x ∷ xs) [] h = absurd (omega (arith, h))
same_bools (x ∷ xs) (y ∷ ys) h = ap (λ ks. Bools ∷ ks) (same_bools xs ys (omega (arith, h)))

range_length : (a k : ℕ) → length (range_with_len a k) ≡ k
range_length a zero = refl
range_length a (suc k) = ap suc (range_length (a + 1) k)

module _ (types : List ObcType) where
  bit_kind : (vs : List Variable) (x : ℕ) → AllByRecursion (λ (v : Variable). v.ty ≡ flat.Bool) vs → x < length vs → variable_kind types vs x ≡ Bools
  bit_kind [] x h l = absurd (omega (arith, l))
  bit_kind (v ∷ vs) zero h l = ap (kind_of_type types) h.0
  bit_kind (v ∷ vs) (suc x) h l = bit_kind vs x h.1 (omega (arith, l))

  bit_kinds : (vs : List Variable) (xs : List ℕ) → AllByRecursion (λ (v : Variable). v.ty ≡ flat.Bool) vs → AreBelow (length vs) xs → map (variable_kind types vs) xs ≡ map (λ (x : ℕ). Bools) xs
  bit_kinds vs [] h l = refl
  bit_kinds vs (x ∷ xs) h l = ap₂ (λ k ks. k ∷ ks) (bit_kind vs x h l.0) (bit_kinds vs xs h l.1)

  -- what a control variable is follows from its type
  control_kind : (ty : FlatTy) (k : ControlKind) → HasValue types ty → IsOfType types ty k → HasControlKind types (kind_of_type types ty) k
  control_kind flat.Bool Truth v h = refl
  control_kind flat.Bool (Constructor e) v h = absurd h
  control_kind flat.Int Truth v h = absurd h
  control_kind flat.Int (Constructor e) v h = absurd h
  control_kind (flat.Enum t) Truth v h = absurd h
  control_kind (flat.Enum t) (Constructor e) v h = (
    ap (λ z. Constructors z (constructors types z)) (sym h.0),
    h.1 ∙ ap (λ z. length (constructors types z)) (sym h.0),
    let l = h.1 in omega (arith, l, v),
  )

  control_kinds : (n : FlatNode) (target : ℕ) (cs : List Control) → AllByRecursion (λ (v : Variable). HasValue types v.ty) n.variables → target + length cs ≤ length n.variables → AreOfTypes types n target cs → HaveControlKinds types n.variables target cs
  control_kinds n target [] v l h = tt
  control_kinds n target (c ∷ cs) v l h = (
    subst (λ k. HasControlKind types k c.kind) (sym (kind-at types n target)) (control_kind (type_at n target) c.kind (value-at types n target (omega (arith, l)) v) h.0),
    control_kinds n (target + 1) cs v (omega (arith, l)) h.1,
  )

-- ---- the node that stands for another one, in which control variables are inputs

-- it takes and gives what is said of the other one
pub own_headed : (types : List ObcType) (all : Callees) (count inputs : ℕ) (l : Loop) → IsLoop count l → l.plant.inputs ≡ inputs + count → l.closed.outputs ≡ l.plant.outputs → AreBelow (length l.plant.variables) l.plant.outputs
    → all.takes l.plant.name ≡ kinds_at types l.plant (range_with_len 0 inputs) → all.gives l.plant.name ≡ kinds_at types l.plant l.plant.outputs → IsHeaded types all l.closed
own_headed types all count inputs l is same outputs below takes gives =
    let more = is.variables in
    let own = is.inputs in
    let within = is.within in
    let few : l.closed.inputs ≡ inputs = omega (arith, own, same) in
    let kept : (xs : List ℕ) → AreBelow (length l.plant.variables) xs → kinds_at types l.plant xs ≡ kinds_at types l.closed xs =
    (λ xs h. sym (ap (λ vs. map (variable_kind types vs) xs) more.1 ∙ targets_kinds types all l.plant.variables more.0 xs h)) in
    let low : AreBelow (length l.plant.variables) (range_with_len 0 inputs) = each_range (λ x. x < length l.plant.variables) 0 inputs (λ x m u. omega (arith, u, own, same, within)) in
    record {
      takes = ap all.takes is.name ∙ takes ∙ kept (range_with_len 0 inputs) low ∙ ap (λ k. kinds_at types l.closed (range_with_len 0 k)) (sym few);
      gives = ap all.gives is.name ∙ gives ∙ kept l.plant.outputs below ∙ ap (kinds_at types l.closed) (sym outputs);
    }

-- ---- a node with a contract

-- what is known of it: that its clocked equations are well built, that observers suit, and what is said of its controller
pub record Ground (types : List ObcType) (all : Callees) (observers : Observing) (node : Node) (c : Contracted) : Type 0 where
  pub clock : ℕ → Clock
  pub bytes : HaveBytes types
  pub of_node : IsOfNode types all clock node c.plant
  pub suit : AllSuit types all observers
  pub is : IsContracted types observers node c
  pub named : c.plant.name ≡ node.name
  pub inputs : c.plant.inputs ≡ length node.inputs + length (controls_of node.contract)
  pub ranked : IsRanked c.plant.eqns
  pub asked : IsHeaded types all c.controller

module _ (laws : NodeLaws) (types : List ObcType) (all : Callees) (observers : Observing) (node : Node) (c : Contracted) (g : Ground types all observers node c) where
  abbrev clock : ℕ → Clock
  clock = g.clock

  abbrev of_node : IsOfNode types all clock node c.plant
  of_node = g.of_node

  abbrev is : IsContracted types observers node c
  is = g.is

  abbrev inputs : c.plant.inputs ≡ length node.inputs + length (controls_of node.contract)
  inputs = g.inputs

  abbrev asked : IsHeaded types all c.controller
  asked = g.asked

  abbrev m : Machine
  m = is.machine

  abbrev controls : List Control
  controls = is.controls

  -- ---- its controller

  abbrev pub controller_is : c.controller.name ≡ controller_name node.name
  controller_is = let k = is.controller in k.name ∙ ap (λ f. f ++ codes "$ctl") is.named

  pub asked_for : IsAskedFor all m (controller_name node.name)
  asked_for =
      let k = is.controller in
      let within = k.within in
      let few = within.inputs in
      let many = k.outputs in
      let machine = is.is_machine in
      let count = k.inputs in
      let low : AreBelow (length c.controller.variables) (inputs_of c.controller) = each_range (λ x. x < length c.controller.variables) 0 c.controller.inputs (λ x l u. omega (arith, u, few)) in
      record {
        takes = ap all.takes (sym controller_is) ∙ asked.takes ∙ bit_kinds types c.controller.variables (inputs_of c.controller) k.bits low ∙ ap bools count;
        gives = ap all.gives (sym controller_is) ∙ asked.gives ∙ bit_kinds types c.controller.variables c.controller.outputs k.bits within.outputs
            ∙ same_bools c.controller.outputs (range_with_len 0 m.control) (many ∙ machine.prefer ∙ sym (range_length 0 m.control));
      }

  pub controller_well : IsWellMade types all c.controller
  controller_well = let k = is.controller in k.well_made types all

  pub controller_calls : (names : List (List ℕ)) → CallsOnly names c.controller.eqns
  controller_calls names = let k = is.controller in calls_nothing names c.controller.eqns (stateless_calls c.controller.eqns k.stateless)

  -- ---- the node that chooses

  target_is : c.plant.inputs - length controls ≡ length node.inputs
  target_is = let count = is.count in omega (arith, inputs, count)

  pub kinds : HaveControlKinds types c.plant.variables (c.plant.inputs - length controls) controls
  kinds =
      let b = of_node.based in
      let w = b.well in
      let i = w.within in
      let few = i.inputs in
      let count = is.count in
      subst (λ t. HaveControlKinds types c.plant.variables t controls) (sym target_is) (control_kinds types c.plant (length node.inputs) controls w.values (omega (arith, few, inputs, count)) is.kinds)

  bits : HasBits types all clock c.plant is.watched
  bits = laws.watching types all clock observers node is.is_early c.plant is.watched g.bytes of_node g.suit is.is_watched

  can : IsControllable is.watched.node m is.watched.early controls
  can =
      let k = bits.keeps in
      let g = k.grows in
      let same = g.inputs in
      let b = k.built in
      let w = b.well in
      let i = w.within in
      let count = is.count in
      record { machine = is.is_machine; inputs = omega (arith, same, inputs, count); variables = i.inputs; within = i.eqns; as_many = is.early; bits = is.bits; widths = is.widths }

  pub chooses : IsWellMade types all c.chosen.node × IsWithin c.chosen.node × ((answers : Answers) → IsClosed answers (length controls) (record { plant = c.plant; closed = c.chosen.node })) × IsParted c.chosen.node
  chooses = laws.choosing types all clock observers node is.is_early c.plant is.watched g.bytes of_node g.suit is.is_watched m (controller_name node.name) controls c.chosen.node can asked_for kinds is.whole

  abbrev asking : FlatNode
  asking = controlled is.watched.node m (controller_name node.name) is.watched.early is.watched.late controls

  pub chosen_outputs : c.chosen.node.outputs ≡ c.plant.outputs
  chosen_outputs =
      let whole = is.whole in
      let placed = whole.placed in
      let k = bits.keeps in
      let g = k.grows in
      placed.outputs ∙ copy_outputs whole.enforce (with_copy whole.assume asking) ∙ copy_outputs whole.assume asking ∙ g.outputs

  chosen_calls : (names more : List (List ℕ)) → CallNothing observers → CallsOnly names c.plant.eqns → ((f : List ℕ) → has_name names f ≡ true → has_name more f ≡ true) → has_name more (controller_name node.name) ≡ true → CallsOnly more c.chosen.node.eqns
  chosen_calls names more alone calls among has =
      let whole = is.whole in
      let placed = whole.placed in
      let w = is.watched in
      let first = with_copy whole.assume asking in
      let second = with_copy whole.enforce first in
      transfer (λ (e : FlatEqn). CallsAmong more e.right) (λ e h. h) (λ e h. h) second.eqns c.chosen.node.eqns (same_eqns second.eqns c.chosen.node.eqns (sym placed.eqns))
      (copy_good more whole.enforce first (copy_good more whole.assume asking
      (controlled_good more w.node m (controller_name node.name) w.early w.late controls has
      (watched_good more observers alone types node is.is_early c.plant w is.is_watched (calls_among names more among c.plant.eqns calls)))))

  pub telling_is_well : IsWellMade types all (telling c.chosen)
  telling_is_well = let whole = is.whole in telling_well types all asking whole.assume whole.enforce c.chosen whole.placed is.assume is.enforce chooses.0

  pub telling_within : IsWithin (telling c.chosen)
  telling_within = let whole = is.whole in telling_in_range types all asking whole.assume whole.enforce c.chosen whole.placed is.assume is.enforce chooses.1

  pub told_truth : (variable_kind types c.chosen.node.variables c.chosen.assume ≡ Bools) × (variable_kind types c.chosen.node.variables c.chosen.enforce ≡ Bools)
  told_truth = let whole = is.whole in told_kinds types all asking whole.assume whole.enforce c.chosen whole.placed is.assume is.enforce

  -- ---- the node that stands for it

  pub plant_well : IsWellMade types all c.plant
  plant_well = let b = of_node.based in laws.ordered types all clock c.plant b.well g.ranked

  pub own_well : IsWellMade types all c.own
  own_well = by controls is.own
    where
      by : (cs : List Control) → IsOwn cs c → IsWellMade types all c.own
      by [] e = subst (IsWellMade types all) (sym e) plant_well
      by (k ∷ ks) e = subst (IsWellMade types all) (sym e) chooses.0

  pub own_within : IsWithin c.own
  own_within = by controls is.own
    where
      by : (cs : List Control) → IsOwn cs c → IsWithin c.own
      by [] e = let b = of_node.based in let w = b.well in subst IsWithin (sym e) w.within
      by (k ∷ ks) e = subst IsWithin (sym e) chooses.1

  pub own_closes : (answers : Answers) → IsClosed answers (length controls) (record { plant = c.plant; closed = c.own })
  own_closes answers = by controls is.own (chooses.2 answers)
    where
      by : (cs : List Control) → IsOwn cs c → IsClosed answers (length cs) (record { plant = c.plant; closed = c.chosen.node }) → IsClosed answers (length cs) (record { plant = c.plant; closed = c.own })
      by [] e h = let b = of_node.based in let w = b.well in let i = w.within in subst (λ (n : FlatNode). IsClosed answers 0 (record { plant = c.plant; closed = n })) (sym e) (laws.itself c.plant i.inputs answers)
      by (k ∷ ks) e h = subst (λ (n : FlatNode). IsClosed answers (length (k ∷ ks)) (record { plant = c.plant; closed = n })) (sym e) h

  own_outputs : c.own.outputs ≡ c.plant.outputs
  own_outputs = by controls is.own
    where
      by : (cs : List Control) → IsOwn cs c → c.own.outputs ≡ c.plant.outputs
      by [] e = ap (λ (n : FlatNode). n.outputs) e
      by (k ∷ ks) e = ap (λ (n : FlatNode). n.outputs) e ∙ chosen_outputs

  pub own_calls : (names more : List (List ℕ)) → CallNothing observers → CallsOnly names c.plant.eqns → ((f : List ℕ) → has_name names f ≡ true → has_name more f ≡ true) → has_name more (controller_name node.name) ≡ true → CallsOnly more c.own.eqns
  own_calls names more alone calls among has = by controls is.own
    where
      by : (cs : List Control) → IsOwn cs c → CallsOnly more c.own.eqns
      by [] e = subst (λ (n : FlatNode). CallsOnly more n.eqns) (sym e) (calls_among names more among c.plant.eqns calls)
      by (k ∷ ks) e = subst (λ (n : FlatNode). CallsOnly more n.eqns) (sym e) (chosen_calls names more alone calls among has)

  pub telling_calls : (names more : List (List ℕ)) → CallNothing observers → CallsOnly names c.plant.eqns → ((f : List ℕ) → has_name names f ≡ true → has_name more f ≡ true) → has_name more (controller_name node.name) ≡ true → CallsOnly more (telling c.chosen).eqns
  telling_calls names more alone calls among has = chosen_calls names more alone calls among has

  pub own_named : c.own.name ≡ node.name
  own_named = let k = own_closes (λ f args earlier. []) in let l = k.loop in l.name ∙ g.named

  pub chosen_named : c.chosen.node.name ≡ node.name
  chosen_named = let k = chooses.2 (λ f args earlier. []) in let l = k.loop in l.name ∙ g.named

  pub own_is_headed : IsHeaded types all c.own
  own_is_headed =
      let k = own_closes (λ f args earlier. []) in
      let b = of_node.based in
      let w = b.well in
      let i = w.within in
      let count = is.count in
      own_headed types all (length controls) (length node.inputs) (record { plant = c.plant; closed = c.own }) k.loop (omega (arith, inputs, count)) own_outputs i.outputs of_node.takes of_node.gives

  pub chosen_is_headed : IsHeaded types all c.chosen.node
  chosen_is_headed =
      let k = chooses.2 (λ f args earlier. []) in
      let b = of_node.based in
      let w = b.well in
      let i = w.within in
      let count = is.count in
      own_headed types all (length controls) (length node.inputs) (record { plant = c.plant; closed = c.chosen.node }) k.loop (omega (arith, inputs, count)) chosen_outputs i.outputs of_node.takes of_node.gives
