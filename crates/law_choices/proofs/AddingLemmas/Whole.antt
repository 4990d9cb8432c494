-- The node that chooses.
use Rattle.std.proofs.Common.{◌≡◌, ◌⊎◌, inl, inr, ℕ, ◌+◌, ◌<◌, ◌≤◌, true, List, [], ◌++◌, length, refl, sym, ap, subst, ◌∙◌, arith}
use Rattle.std.specs.List.{AllByRecursion, range_with_len}
use Rattle.std.proofs.lemmas.List.{append_assoc, length-append}
use Rattle.hp_base.specs.Kinds.{Bools}
use Rattle.hp_boolx.specs.Machine.{Machine}
use Rattle.hp_obc.specs.Machines.{ObcType}
use Rattle.hp_flat.specs.declared.node.FlatTy.{FlatTy}
use Rattle.hp_flat.specs.declared.node.FlatTy.TheVariants.{Bool as Truth, Int, Enum}
use Rattle.hp_flat.specs.Equations.{Clock, FlatEqn}
use Rattle.hp_flat.specs.Nodes.{FlatNode}
use Rattle.law_equations.specs.Meaning.Kinding.{Callees, IsWellMade, kind_of_type}
use Rattle.law_equations.specs.Meaning.Scheduling.{IsWithin}
use Rattle.law_equations.specs.Meaning.Reactions.{Answers, is_set}
use Rattle.hp_controller.specs.declared.decoding.Control.{Control}
use Rattle.hp_controller.specs.Controlled.{placing_of, bit_variables, decoded_controls, controlled, IsControllable}
use Rattle.hp_controller.specs.Extending.{Extends}
use Rattle.hp_controller.specs.Steps.{step_eqns}
use Rattle.hp_watch.specs.Adding.{type_at, next_variable, with_copy}
use Rattle.law_choices.specs.Answered.Loops.{IsLoop, IsClosed, SameOutputs, ExtendedLoopLaw, ThenLaw, ControlledLoopLaw}
use Rattle.law_choices.specs.Adding.Controls.{with_steps}
use Rattle.law_choices.specs.Adding.Keeping.{IsBased, Keeps}
use Rattle.law_choices.specs.Adding.Laws.{OrderedLaw}
use Rattle.law_choices.specs.Adding.Lifts.{IsOn}
use Rattle.law_choices.specs.Adding.Whole.{IsBit, IsWhole, MayChoose, WholeLaw}
use Rattle.law_choices.specs.Closed.Exclusive.{IsParted}
use Rattle.law_choices.proofs.ClosedLemmas.ClosedLaws.{each_other}
use Rattle.law_choices.proofs.AnsweredLemmas.ControlledLoops.{set_front}
use Rattle.law_choices.proofs.AddingLemmas.Adding.{both}
use Rattle.law_choices.proofs.AddingLemmas.One.{kind-at, keeps-both, on-kept}
use Rattle.law_choices.proofs.AddingLemmas.Rows.{Between, between}
use Rattle.law_choices.proofs.AddingLemmas.Bits.{copy_law}
use Rattle.law_choices.proofs.AddingLemmas.Machine.{rows as step_rows}
use Rattle.law_choices.proofs.AddingLemmas.Decoding.{stays, bit_there, middle_total, rows as decoded_rows}
use Rattle.law_choices.proofs.AddingLemmas.Placed.{placed_law, placed_loop_law}

truth_type : (types : List ObcType) (ty : FlatTy) → kind_of_type types ty ≡ Bools → ty ≡ Truth
truth_type types Truth e = refl
truth_type types Int e = absurd cc
truth_type types (Enum t) e = absurd cc

module _ (types : List ObcType) (callees : Callees) (clock : ℕ → Clock) (plant n other : FlatNode) (m : Machine) (name early late : List ℕ) (controls : List Control) (k : Keeps types callees clock plant n)
    (may : MayChoose types callees k.clocks n m name early late controls) (whole : IsWhole n m name early late controls other) where
  abbrev can : IsControllable n m early controls
  can = may.controllable

  abbrev count : ℕ
  count = length controls

  abbrev pub asking : FlatNode
  asking = controlled n m name early late controls

  abbrev assumed : FlatNode
  assumed = with_copy whole.assume asking

  abbrev pub closed : FlatNode
  closed = with_copy whole.enforce assumed

  pub asking_clocks : ℕ → Clock
  asking_clocks = (stays types callees n k.clocks m name early late controls k.built can may.asked may.early_there may.late_there may.kinds).clocks

  pub asking_based : IsBased types callees asking_clocks asking
  unfolding asking_clocks
  asking_based = (stays types callees n k.clocks m name early late controls k.built can may.asked may.early_there may.late_there may.kinds).built

  pub asking_same : (x : ℕ) → x < length n.variables → asking_clocks x ≡ k.clocks x
  unfolding asking_clocks
  asking_same x l = (stays types callees n k.clocks m name early late controls k.built can may.asked may.early_there may.late_there may.kinds).same x l

  bit_on : (x : ℕ) → IsBit n m x → IsOn asking asking_clocks [] Truth x
  unfolding asking_clocks
  bit_on x h =
      let b = bit_there types callees n k.clocks m name early late controls k.built can may.asked may.early_there may.late_there may.kinds x h.0 h.1 in
      record { variable = b.variable; there = b.there; type = truth_type types (type_at asking x) (sym (kind-at types asking x) ∙ b.kind) }

  first_copy : (c : Keeps types callees asking_clocks asking assumed) × IsOn assumed c.clocks [] Truth (next_variable asking)
  first_copy = copy_law types callees asking asking_clocks whole.assume asking_based (bit_on whole.assume whole.assume_bit)

  second_copy : (c : Keeps types callees (first_copy.0).clocks assumed closed) × IsOn closed c.clocks [] Truth (next_variable assumed)
  second_copy =
      let c = first_copy.0 in
      copy_law types callees assumed c.clocks whole.enforce c.built (on-kept types callees asking assumed asking_clocks c [] Truth whole.enforce (bit_on whole.enforce whole.enforce_bit))

  pub copies : Keeps types callees asking_clocks asking closed
  copies = keeps-both types callees asking assumed closed asking_clocks first_copy.0 second_copy.0

  -- ---- the node is well made

  pub other_based : IsBased types callees copies.clocks other
  other_based = placed_law types callees copies.clocks closed other whole.placed copies.built

  well_made : OrderedLaw → IsWellMade types callees other
  well_made ordered = let o = other_based in ordered types callees copies.clocks other o.well whole.ranked

  in_range : IsWithin other
  in_range = let o = other_based in let w = o.well in w.within

  parted : IsParted other
  parted = let o = other_based in let w = o.well in w.parted

  -- ---- it closes the plant

  few : count ≤ n.inputs
  few = can.inputs

  abbrev IsNew : ℕ → Type 0
  IsNew x = (x < n.inputs) ⊎ (length n.variables ≤ x)

  abbrev New : FlatEqn → Type 0
  New e = AllByRecursion IsNew e.targets

  abbrev steps : List FlatEqn
  steps = step_eqns m (placing_of (length n.variables) m early late) name

  abbrev decoding : List FlatEqn
  decoding = (decoded_controls n m controls).eqns

  new_between : (a b t : ℕ) → length n.variables ≤ a → (x : ℕ) → Between a b t n.inputs x → IsNew x
  new_between a b t l x (inl h) = let g = h.0 in inr (omega (arith, l, g))
  new_between a b t l x (inr h) = inl h.1

  abbrev V : ℕ
  V = length n.variables

  abbrev middle : FlatNode
  middle = with_steps n m name early late

  steps_new : AllByRecursion New steps
  steps_new =
      let end = length middle.variables in
      each_other (λ (e : FlatEqn). AllByRecursion (Between V end n.inputs n.inputs) e.targets) New (λ e h. each_other (Between V end n.inputs n.inputs) IsNew (new_between V end n.inputs (omega arith)) e.targets h) steps
      (between V n.inputs steps end n.inputs (step_rows types callees n k.clocks m name early late k.built can.machine can.as_many may.asked may.early_there may.late_there))

  decoding_new : AllByRecursion New decoding
  decoding_new =
      let from = length middle.variables in
      let end = length asking.variables in
      let low : V ≤ from = let l = middle_total types callees n k.clocks m name early late controls k.built can may.asked may.early_there may.late_there may.kinds in omega (arith, l) in
      each_other (λ (e : FlatEqn). AllByRecursion (Between from end asking.inputs n.inputs) e.targets) New (λ e h. each_other (Between from end asking.inputs n.inputs) IsNew (new_between from end asking.inputs low) e.targets h) decoding
      (between from asking.inputs decoding end n.inputs (decoded_rows types callees n k.clocks m name early late controls k.built can may.asked may.early_there may.late_there may.kinds))

  abbrev extra : List FlatEqn
  extra = (copies.grows.eqns).0

  longer : V ≤ length asking.variables
  longer = let a = length-append middle.variables (decoded_controls n m controls).variables in let b = length-append n.variables (bit_variables V m) in omega (arith, a, b)

  extra_new : AllByRecursion New extra
  extra_new =
      each_other (λ (e : FlatEqn). AllByRecursion (λ x. length asking.variables ≤ x) e.targets) New (λ e h. each_other (λ x. length asking.variables ≤ x) IsNew (λ x l. let g = longer in inr (omega (arith, l, g))) e.targets h) extra copies.fresh

  abbrev pub more : List FlatEqn
  more = (steps ++ decoding) ++ extra

  closed_inputs : n.inputs ≡ closed.inputs + count
  closed_inputs = let g = copies.grows in let i = g.inputs in let f = few in omega (arith, i, f)

  pub extends : Extends n closed count more
  extends = record {
    inputs = closed_inputs;
    variables = can.variables;
    within = can.within;
    eqns = let g = copies.grows in let e = g.eqns in e.1 ∙ ap (λ es. es ++ extra) (append_assoc n.eqns steps decoding) ∙ append_assoc n.eqns (steps ++ decoding) extra;
    targets = both New (steps ++ decoding) extra (both New steps decoding steps_new decoding_new) extra_new;
  }

  second_loop : ControlledLoopLaw → IsLoop count (record { plant = n; closed = closed })
  second_loop controlled_loop =
      let l = controlled_loop n m name early late controls can in
      let g = copies.grows in
      let v = g.variables in
      let u = l.variables in
      let e = g.eqns in
      record {
        name = g.name;
        inputs = closed_inputs;
        within = can.variables;
        variables = (u.0 ++ v.0, v.1 ∙ ap (λ vs. vs ++ v.0) u.1 ∙ append_assoc n.variables u.0 v.0);
        defined = λ now. subst (λ i. AllByRecursion (λ x. is_set closed.eqns now x ≡ true) (range_with_len i count)) (sym g.inputs)
            (each_other (λ x. is_set asking.eqns now x ≡ true) (λ x. is_set closed.eqns now x ≡ true) (λ x h. subst (λ es. is_set es now x ≡ true) (sym e.1) (set_front asking.eqns e.0 now x h)) (range_with_len asking.inputs count) (l.defined now));
      }

  module _ (b : IsBased types callees clock plant) where
    abbrev pub first : List FlatEqn
    first = (k.grows.eqns).0

    within_plant : plant.inputs ≤ length plant.variables
    within_plant = let w = b.well in let i = w.within in i.inputs

    first_inputs : plant.inputs ≡ n.inputs + 0
    first_inputs = let g = k.grows in let i = g.inputs in omega (arith, i)

    first_loop : IsLoop 0 (record { plant = plant; closed = n })
    first_loop = let g = k.grows in record { name = g.name; inputs = first_inputs; within = within_plant; variables = g.variables; defined = λ now. tt }

    pub first_extends : Extends plant n 0 first
    first_extends = record {
      inputs = first_inputs;
      variables = within_plant;
      within = let w = b.well in let i = w.within in i.eqns;
      eqns = let g = k.grows in let e = g.eqns in e.1;
      targets = each_other (λ (e : FlatEqn). AllByRecursion (λ x. length plant.variables ≤ x) e.targets) (λ (e : FlatEqn). AllByRecursion (λ x. (x < plant.inputs) ⊎ (length plant.variables ≤ x)) e.targets)
          (λ e h. each_other (λ x. length plant.variables ≤ x) (λ x. (x < plant.inputs) ⊎ (length plant.variables ≤ x)) (λ x l. inr l) e.targets h) first k.fresh;
    }

    same_outputs : SameOutputs (record { plant = plant; closed = closed })
    same_outputs = record { outputs = let g = copies.grows in let f = k.grows in g.outputs ∙ f.outputs; within = let w = b.well in let i = w.within in i.outputs }

    closes : ExtendedLoopLaw → ThenLaw → ControlledLoopLaw → (answers : Answers) → IsClosed answers count (record { plant = plant; closed = other })
    closes extended then_law controlled_loop answers =
        let both_loops = then_law count first more plant n closed first_loop first_extends (second_loop controlled_loop) extends in
        placed_loop_law plant closed other count answers whole.placed (extended count (first ++ more) (record { plant = plant; closed = closed }) both_loops.0 same_outputs both_loops.1 answers)

pub whole_law : OrderedLaw → ExtendedLoopLaw → ThenLaw → ControlledLoopLaw → WholeLaw
whole_law ordered extended then_law controlled_loop types callees clock plant n other m name early late controls b k may whole = (
  well_made types callees clock plant n other m name early late controls k may whole ordered,
  in_range types callees clock plant n other m name early late controls k may whole,
  λ answers. closes types callees clock plant n other m name early late controls k may whole b extended then_law controlled_loop answers,
  parted types callees clock plant n other m name early late controls k may whole,
)
