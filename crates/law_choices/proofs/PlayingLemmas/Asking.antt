-- What the node that chooses holds at an instant, for each node with a contract: its early and late variables hold the bits of free places, and it is steered.
use Rattle.std.proofs.Common.{◌≡◌, ℕ, ◌+◌, ◌-◌, ◌<◌, ◌≤◌, true, false, nat_lt, if◌then◌else◌, List, [], ◌∷◌, ◌++◌, length, map, refl, sym, ap, subst, ◌∙◌, arith}
use Rattle.std.specs.Prelude.{slice_get}
use Rattle.std.specs.List.{AllByRecursion, range_with_len}
use Rattle.std.proofs.lemmas.Bool.Decides.{nat_tests}
use Rattle.std.proofs.lemmas.List.{append_assoc, length-append}
use Rattle.hp_base.specs.Kinds.{IsOfKind}
use Rattle.hp_base.specs.declared.value.Value.{Value}
use Rattle.hp_base.specs.declared.value.Value.TheVariants.{Absent, B}
use Rattle.hp_boolx.specs.Machine.{Machine}
use Rattle.hp_boolx.specs.Search.{Bits}
use Rattle.hp_obc.specs.Machines.{ObcType}
use Rattle.hp_tree.specs.Programs.{Node}
use Rattle.hp_flat.specs.declared.node.Variable.{Variable}
use Rattle.hp_flat.specs.Equations.{Clock, FlatEqn}
use Rattle.hp_flat.specs.Nodes.{FlatNode}
use Rattle.law_equations.specs.Meaning.Instants.{Instant, holds, is_true}
use Rattle.law_equations.specs.Meaning.Kinding.{Callees, IsPossible, kind_of_type}
use Rattle.law_equations.specs.Meaning.Reactions.{Answers, Holds, Continues, Reaction}
use Rattle.hp_controller.specs.declared.decoding.Control.{Control}
use Rattle.hp_controller.specs.Controlled.{ControlledLaw, IsControllable, IsControlledRun, bit_variables, controlled, decoded_controls}
use Rattle.hp_controller.specs.Extending.{ExtendedLaw, cut}
use Rattle.hp_controller.specs.Steps.{AnswersAsController, AnswersLaw, AreBits}
use Rattle.hp_watch.specs.Adding.{type_at, type_of}
use Rattle.hp_watch.specs.Watching.{Fits, Observing, Surveyed, Watched, surveyed, walked, watched_by}
use Rattle.law_choices.specs.Adding.Controls.{HaveControlKinds}
use Rattle.law_choices.specs.Adding.Keeping.{IsBased}
use Rattle.law_choices.specs.Adding.Surveyed.{IsSeen}
use Rattle.law_choices.specs.Adding.Watched.{AreBitsOf, HasBits}
use Rattle.law_choices.specs.Adding.Whole.{IsWhole, MayChoose}
use Rattle.law_choices.specs.Coded.Laws.{AreCoded, HaveBits, IsTypedAt}
use Rattle.law_choices.specs.InTurn.Nodes.{Contracted, IsContracted, controller_name}
use Rattle.law_choices.specs.OnClocks.Meaning.{GivesAnswers}
use Rattle.law_choices.specs.Playing.Steering.{AlwaysBits, asking_instants}
use Rattle.law_choices.proofs.AddingLemmas.Base.{front}
use Rattle.law_choices.proofs.AddingLemmas.Choosing.{bits_there, seen_in}
use Rattle.law_choices.proofs.AddingLemmas.Decoding.{kinds-more}
use Rattle.law_choices.proofs.AddingLemmas.One.{type-more}
use Rattle.law_choices.proofs.AddingLemmas.Placed.{same_eqns, transfer}
use Rattle.law_choices.proofs.AddingLemmas.Watched.{watched_law}
use Rattle.law_choices.proofs.AddingLemmas.Whole.{asking_clocks, asking_same, closed, copies, other_based}
use Rattle.law_choices.proofs.CodedLemmas.Watched.{coded_law}
use Rattle.law_choices.proofs.InTurnLemmas.Contracted.{Ground, NodeLaws, asked_for, controller_is, kinds}
use Rattle.law_choices.proofs.PlayingLemmas.Controllers.{controller_answers_law}
use Rattle.law_choices.proofs.PlayingLemmas.Steering.{typed_at_law, whole_run_law}

-- ---- the first variables of an instant

pub cut-below : (count : ℕ) (now : Instant) (x : ℕ) → x < count → cut count now x ≡ now x
cut-below count now x l = let e : nat_lt x count ≡ true = grind (arith, nat_tests, l) in ap (λ b. if b then now x else Absent) e

pub cut-all : (count : ℕ) (now : Instant) (xs : List ℕ) → AllByRecursion (λ x. x < count) xs → map (cut count now) xs ≡ map now xs
cut-all count now [] h = refl
cut-all count now (x ∷ xs) h = ap (λ v. v ∷ map (cut count now) xs) (cut-below count now x h.0) ∙ ap (λ vs. now x ∷ vs) (cut-all count now xs h.1)

-- variables that hold bits hold truth values
pub are-bits : (now : Instant) (xs : List ℕ) (bits : Bits) → map now xs ≡ map (λ b. B b) bits → AreBits now xs
are-bits now [] bits h = tt
are-bits now (x ∷ xs) [] h = absurd cc
are-bits now (x ∷ xs) (b ∷ bits) h =
    let here : now x ≡ B b = cc in
    let behind : map now xs ≡ map (λ b. B b) bits = cc in
    (here ∙ sym (ap (λ v. B (is_true v)) here), are-bits now xs bits behind)

pub type-same : (vs : List Variable) (n other : FlatNode) (x : ℕ) → other.variables ≡ n.variables ++ vs → x < length n.variables → type_at other x ≡ type_at n x
type-same vs n other x e l = ap (λ us. type_of (slice_get us x)) e ∙ type-more n.variables vs x l

module _ (laws : NodeLaws) (types : List ObcType) (all : Callees) (observers : Observing) (node : Node) (c : Contracted) (g : Ground types all observers node c) where
  abbrev pub is : IsContracted types observers node c
  is = g.is

  abbrev pub machine : Machine
  machine = is.machine

  abbrev pub name : List ℕ
  name = controller_name node.name

  abbrev pub controls : List Control
  controls = is.controls

  abbrev pub chosen : FlatNode
  chosen = c.chosen.node

  abbrev fits : Fits observers node is.is_early c.plant
  fits = (is.is_watched).fits

  abbrev pub survey : Surveyed
  survey = surveyed observers fits.own (length node.inputs) (walked node c.plant) c.plant

  abbrev pub made : Watched
  made = watched_by types is.is_early survey

  pub seen : IsSeen types all g.clock c.plant survey
  seen = seen_in types all g.clock observers node is.is_early c.plant is.watched g.bytes g.of_node g.suit is.is_watched

  pub bits : HasBits types all (seen.keeps).clocks survey.node made
  bits = let k = seen.keeps in watched_law types all k.clocks survey.node survey.free is.is_early g.bytes k.built seen.free

  same_watched : is.watched ≡ made
  same_watched = let w = is.is_watched in w.is

  pub whole : IsWhole made.node machine name made.early made.late controls chosen
  whole = subst (λ (w : Watched). IsWhole w.node machine name w.early w.late controls chosen) same_watched is.whole

  -- ---- what may be asked

  pub made_inputs : made.node.inputs ≡ c.plant.inputs
  made_inputs = let k = bits.keeps in let j = seen.keeps in let a = k.grows in let b = j.grows in a.inputs ∙ b.inputs

  few_controls : length controls ≤ c.plant.inputs
  few_controls = let i = g.inputs in let e = is.count in omega (arith, i, e)

  can : IsControllable made.node machine made.early controls
  can =
      let k = bits.keeps in
      let w = (k.built).well in
      let i = w.within in
      let few = few_controls in
      let same = made_inputs in
      record {
        machine = is.is_machine;
        inputs = omega (arith, few, same);
        variables = i.inputs;
        within = i.eqns;
        as_many = subst (λ (v : Watched). length v.early ≡ machine.early) same_watched is.early;
        bits = is.bits;
        widths = is.widths;
      }

  pub early_many : length made.early ≡ machine.early
  early_many = can.as_many

  control_kinds : HaveControlKinds types made.node.variables (made.node.inputs - length controls) controls
  control_kinds =
      let k = bits.keeps in
      let j = seen.keeps in
      let a = k.grows in
      let b = j.grows in
      let v = a.variables in
      let u = b.variables in
      let first = (((g.of_node).based).well).within in
      let second = ((j.built).well).within in
      let few = few_controls in
      let l = first.inputs in
      let r = second.inputs in
      let q = b.inputs in
      let t = c.plant.inputs - length controls in
      subst (λ i. HaveControlKinds types made.node.variables (i - length controls) controls) (sym made_inputs)
      (subst (λ vs. HaveControlKinds types vs t controls) (sym v.1)
      (kinds-more types all survey.node.variables v.0 t controls (omega (arith, few, r, q))
      (subst (λ vs. HaveControlKinds types vs t controls) (sym u.1) (kinds-more types all c.plant.variables u.0 t controls (omega (arith, few, l)) (kinds laws types all observers node c g)))))

  pub may : MayChoose types all (bits.keeps).clocks made.node machine name made.early made.late controls
  may = record {
    controllable = can;
    asked = asked_for laws types all observers node c g;
    early_there = bits_there types all made.node (bits.keeps).clocks made.early bits.early;
    late_there = bits_there types all made.node (bits.keeps).clocks made.late bits.late;
    kinds = control_kinds;
  }

  -- ---- its variables

  abbrev pub asking : FlatNode
  asking = controlled made.node machine name made.early made.late controls

  abbrev told : FlatNode
  told = closed types all (seen.keeps).clocks survey.node made.node chosen machine name made.early made.late controls bits.keeps may whole

  more_variables : (more : List Variable) × (asking.variables ≡ made.node.variables ++ more)
  more_variables =
      let first = bit_variables (length made.node.variables) machine in
      let second = (decoded_controls made.node machine controls).variables in
      (first ++ second, append_assoc made.node.variables first second)

  pub many_variables : length made.node.variables ≤ length asking.variables
  many_variables = let m = more_variables in let l = length-append made.node.variables m.0 in let e = ap length m.1 in omega (arith, l, e)

  pub plant_below : length c.plant.variables ≤ length asking.variables
  plant_below =
      let a = (bits.keeps).grows in
      let b = (seen.keeps).grows in
      let v = a.variables in
      let u = b.variables in
      let l = length-append c.plant.variables u.0 in
      let e = ap length u.1 in
      let j = length-append survey.node.variables v.0 in
      let f = ap length v.1 in
      let m = many_variables in
      omega (arith, l, e, j, f, m)

  all_variables : (more : List Variable) × (chosen.variables ≡ survey.node.variables ++ more)
  all_variables =
      let k = copies types all (seen.keeps).clocks survey.node made.node chosen machine name made.early made.late controls bits.keeps may whole in
      let v = (k.grows).variables in
      let u = ((bits.keeps).grows).variables in
      let m = more_variables in
      let p = whole.placed in (
        u.0 ++ (m.0 ++ v.0),
        p.variables ∙ v.1 ∙ ap (λ vs. vs ++ v.0) m.1 ∙ append_assoc made.node.variables m.0 v.0 ∙ ap (λ vs. vs ++ (m.0 ++ v.0)) u.1 ∙ append_assoc survey.node.variables u.0 (m.0 ++ v.0),
      )

  abbrev clocks : ℕ → Clock
  clocks = (copies types all (seen.keeps).clocks survey.node made.node chosen machine name made.early made.late controls bits.keeps may whole).clocks

  same_clock : (x : ℕ) → x < length survey.node.variables → clocks x ≡ (seen.keeps).clocks x
  same_clock x l =
      let k = copies types all (seen.keeps).clocks survey.node made.node chosen machine name made.early made.late controls bits.keeps may whole in
      let b = bits.keeps in
      let u = (b.grows).variables in
      let long = length-append survey.node.variables u.0 in
      let e = ap length u.1 in
      let more = many_variables in
      k.same x (omega (arith, l, long, e, more)) ∙ asking_same types all (seen.keeps).clocks survey.node made.node chosen machine name made.early made.late controls bits.keeps may whole x (omega (arith, l, long, e)) ∙ b.same x l

  chosen_typed : (now : Instant) → IsPossible types chosen now → IsTypedAt types chosen clocks now
  chosen_typed now p =
      typed_at_law types all clocks chosen now (other_based types all (seen.keeps).clocks survey.node made.node chosen machine name made.early made.late controls bits.keeps may whole) whole.ranked p

  pub survey_typed : (now : Instant) → IsPossible types chosen now → IsTypedAt types survey.node (seen.keeps).clocks now
  survey_typed now p x l h =
      let m = all_variables in
      let long = length-append survey.node.variables m.0 in
      let e = ap length m.1 in
      subst (λ t. IsOfKind (kind_of_type types t) (now x)) (type-same m.0 survey.node chosen x m.1 l) (chosen_typed now p x (omega (arith, l, long, e)) (ap (λ d. holds d now) (same_clock x l) ∙ h))

  -- ---- one instant

  module _ (answers : Answers) where
    watched_holds : (past : List Instant) (row : List Value) (now : Instant) → Continues answers chosen past row now → AllByRecursion (Holds answers past now) made.node.eqns
    watched_holds past row now h =
        let k = copies types all (seen.keeps).clocks survey.node made.node chosen machine name made.early made.late controls bits.keeps may whole in
        let e = (k.grows).eqns in
        let p = whole.placed in
        let P = Holds answers past now in
        let all_told = transfer P (λ e h. h) (λ e h. h) chosen.eqns told.eqns (same_eqns chosen.eqns told.eqns p.eqns) h.equations in
        let asked = front P asking.eqns e.0 (subst (λ es. AllByRecursion P es) e.1 all_told) in
        front P made.node.eqns _ (front P (made.node.eqns ++ _) _ asked)

    -- early and late variables hold the bits of free places
    pub are_coded : (past : List Instant) (row : List Value) (now : Instant) → Continues answers chosen past row now → IsPossible types chosen now → AreCoded types survey.node survey.free is.is_early now made
    are_coded past row now h p =
        let k = seen.keeps in
        coded_law types all k.clocks survey.node survey.free is.is_early answers past now g.bytes k.built seen.free (survey_typed now p) (watched_holds past row now h)

    below_all : (xs : List ℕ) → AreBitsOf made.node (bits.keeps).clocks xs → AllByRecursion (λ x. x < length asking.variables) xs
    below_all [] h = tt
    below_all (x ∷ xs) h = (let l = (h.0).variable in let m = many_variables in omega (arith, l, m), below_all xs h.1)

    pub early_below : AllByRecursion (λ x. x < length asking.variables) made.early
    early_below = below_all made.early bits.early

    pub late_below : AllByRecursion (λ x. x < length asking.variables) made.late
    late_below = below_all made.late bits.late

    cut_bits : (now : Instant) (xs : List ℕ) (bs : Bits) → AllByRecursion (λ x. x < length asking.variables) xs → HaveBits now xs bs → AreBits (cut (length asking.variables) now) xs
    cut_bits now xs bs below h = are-bits (cut (length asking.variables) now) xs bs (cut-all (length asking.variables) now xs below ∙ h)

    -- ---- all instants

    always_bits : (rows : List (List Value)) (instants : List Instant) → Reaction answers chosen rows instants → AllByRecursion (IsPossible types chosen) instants
        → AlwaysBits made.early made.late (asking_instants made.node machine name made.early made.late controls instants)
    always_bits [] [] r p = tt
    always_bits [] (now ∷ past) r p = absurd r
    always_bits (row ∷ rows) [] r p = absurd r
    always_bits (row ∷ rows) (now ∷ past) r p =
        let coded = are_coded past row now r.1 p.0 in (
          (cut_bits now made.early _ (below_all made.early bits.early) coded.early, cut_bits now made.late _ (below_all made.late bits.late) coded.late),
          always_bits rows past r.0 p.1,
        )

    controller_answers : AnswersLaw → GivesAnswers answers all.takes c.controller → AnswersAsController answers machine name
    controller_answers law gives =
        subst (AnswersAsController answers machine) (controller_is laws types all observers node c g)
        (controller_answers_law law types machine c.controller answers all.takes is.controller (g.asked).takes gives)

    -- The node that chooses is steered.
    pub is_steered : AnswersLaw → ExtendedLaw → ControlledLaw → GivesAnswers answers all.takes c.controller → (rows : List (List Value)) (instants : List Instant) → Reaction answers chosen rows instants → AllByRecursion (IsPossible types chosen) instants
        → IsControlledRun answers made.node machine made.early made.late controls rows (asking_instants made.node machine name made.early made.late controls instants)
    is_steered law extended controlled_law gives rows instants reaction possible =
        let k = seen.keeps in
        whole_run_law extended controlled_law types all k.clocks survey.node made.node chosen machine name made.early made.late controls k.built bits.keeps may whole answers (controller_answers law gives) rows instants reaction (always_bits rows instants reaction possible)
