-- The machines of nodes and of parts of nodes answer as the whole nodes do.
use Rattle.std.proofs.Common.{◌≡◌, ℕ, Bool, true, false, ◌&&◌, ◌||◌, List, [], ◌∷◌, map, filter, reverse, cond, refl, sym, ap, ◌∙◌, subst}
use Rattle.std.specs.List.{AllByRecursion}
use Rattle.hp_base.specs.Kinds.{KindData, AreOfKinds}
use Rattle.hp_base.specs.declared.value.Value.{Value}
use Rattle.hp_obc.specs.Form.{TypesForm}
use Rattle.hp_obc.specs.Machines.{ObcType}
use Rattle.hp_obc.specs.Steps.{Names, machine_behaviour, run}
use Rattle.hp_flat.specs.Equations.{Right, operator, register, called, FlatEqn}
use Rattle.hp_flat.specs.Nodes.{FlatNode}
use Rattle.law_equations.specs.Meaning.Fitting.{EqnFits, Fits}
use Rattle.law_equations.specs.Meaning.Instants.{Instant, holds}
use Rattle.law_equations.specs.Meaning.Reactions.{Answers, has, is_set, Holds, Reaction}
use Rattle.law_equations.specs.Fewer.Compiling.{AreFlatNodes, CompiledLaw, FlatForm}
use Rattle.law_equations.specs.Followed.Programs.{Answered, CallsAmong, CallsOnly, all_answers, file_of}
use Rattle.hp_form.specs.Regular.Regular.{IsRegular, RegularLaw}
use Rattle.hp_machines.specs.Making.{defines_some, giving}
use Rattle.law_history.proofs.StreamsLemmas.Giving.{kept_all, kept_nodes}
use Rattle.law_history.proofs.StreamsLemmas.MadeMachines.{are_regular, made_run}
use Rattle.law_equations.specs.Meaning.Kinding.{Callees}
use Rattle.law_choices.specs.OnClocks.Meaning.{AreInTurn}
use Rattle.law_choices.specs.Part.Laws as laws
use Rattle.law_choices.specs.Part.Part.{Renumbering, ArePart, IsPart, renumbered_right}
use Rattle.law_choices.specs.Part.Part.ArePart.{no_eqn, kept_eqn, left_eqn}
use Rattle.law_controlled.specs.Parts.{MadePartLaw, with_outputs}
use Rattle.law_controlled.specs.Machines.{AreMadeFrom, AreShapedInTurn, HasShape, IsMadeFrom, IsWritable, MadeMachinesLaw, TurnMachinesLaw}
use Rattle.law_controlled.specs.Machines.IsMadeFrom.{itself, a_part}

-- ---- without the equations that define nothing

kept_set : (es : List FlatEqn) (now : Instant) (x : ℕ) → is_set (filter defines_some es) now x ≡ is_set es now x
kept_set [] now x = refl
kept_set (e ∷ es) now x = by e.targets refl (kept_set es now x)
  where
    Same : List ℕ → Type 0
    Same us = is_set (cond (elim us [ [] ↦ false | y ∷ ys ↦ true ]) (e ∷ filter defines_some es) (filter defines_some es)) now x ≡ (holds e.clock now && has us x) || is_set es now x

    none : (b : Bool) → (b && false) ≡ false
    none true = refl
    none false = refl

    by : (ts : List ℕ) → e.targets ≡ ts → is_set (filter defines_some es) now x ≡ is_set es now x → is_set (filter defines_some (e ∷ es)) now x ≡ is_set (e ∷ es) now x
    by [] q rest = subst Same (sym q) (rest ∙ ap (λ b. b || is_set es now x) (sym (none (holds e.clock now))))
    by (t ∷ ts) q rest =
        subst Same (sym q) (ap (λ us. (holds e.clock now && has us x) || is_set (filter defines_some es) now x) q ∙ ap (λ b. (holds e.clock now && has (t ∷ ts) x) || b) rest)

module _ (answers : Answers) (takes : Names (List KindData)) where
  reaction_kept : (n : FlatNode) (inputs : List (List Value)) (instants : List Instant) → Reaction answers n inputs instants → Reaction answers (giving n) inputs instants
  reaction_kept n [] [] r = tt
  reaction_kept n [] (now ∷ past) r = absurd r
  reaction_kept n (inputs ∷ earlier) [] r = absurd r
  reaction_kept n (inputs ∷ earlier) (now ∷ past) r = (
    reaction_kept n earlier past r.0,
    record {
      inputs_are = r.1.inputs_are;
      equations = kept_all (Holds answers past now) n.eqns r.1.equations;
      others = λ x l e. r.1.others x l (sym (kept_set n.eqns now x) ∙ e);
    },
  )

  fits_kept : (n : FlatNode) (instants : List Instant) → AllByRecursion (Fits takes n) instants → AllByRecursion (Fits takes (giving n)) instants
  fits_kept n [] h = tt
  fits_kept n (now ∷ past) h = (record { inputs = h.0.inputs; outputs = h.0.outputs; eqns = kept_all (EqnFits takes now) n.eqns h.0.eqns }, fits_kept n past h.1)

  answered_kept : (ns : List FlatNode) → AllByRecursion (Answered answers takes) ns → AllByRecursion (Answered answers takes) (map giving ns)
  answered_kept [] h = tt
  answered_kept (n ∷ ns) h = (
    λ args earlier k g.
        let a = h.0 args earlier k g in
        record {
          now = a.now;
          past = a.past;
          reaction = reaction_kept n (args ∷ earlier) (a.now ∷ a.past) a.reaction;
          fit = fits_kept n (a.now ∷ a.past) a.fit;
          answer = a.answer;
        },
    answered_kept ns h.1,
  )

-- ---- parts

module _ (r : Renumbering) where
  right_calls : (names : List (List ℕ)) (right : Right) → CallsAmong names right → CallsAmong names (renumbered_right r right)
  right_calls names (operator op args) h = tt
  right_calls names (register first next) h = tt
  right_calls names (called f args) h = h

  pub part_calls : (names : List (List ℕ)) (es fs : List FlatEqn) → ArePart r es fs → CallsOnly names es → CallsOnly names fs
  part_calls names es fs no_eqn h = tt
  part_calls names es fs (kept_eqn {es = rest} {fs = others} e kept are) h = (right_calls names e.right h.0, part_calls names rest others are h.1)
  part_calls names es fs (left_eqn {es = rest} e not_kept are) h = part_calls names rest fs are h.1

pub record PartLaws : Type 0 where
  pub made : MadePartLaw
  pub within : laws.WithinLaw
  pub no_inputs : laws.NoInputsLaw
  pub ranked : laws.RankedLaw
  pub names : laws.NamesLaw
  pub answered : laws.AnsweredLaw

module _ (l : PartLaws) (regular : RegularLaw) (types : List ObcType) (form : TypesForm types) where
  shaped : (n : FlatNode) → IsRegular types n → HasShape n → FlatForm types n
  shaped n is h =
      let told = regular types n form is in
      record { within = h.within; no_inputs = h.no_inputs; ranked = h.ranked; eqns = told.0; copies = told.1; names_differ = h.names_differ; names_own = h.names_own; few = is.few }

  part_shaped : (r : Renumbering) (n part : FlatNode) → IsPart r n part → HasShape n → HasShape part
  part_shaped r n part is h =
      let apart = l.names r n part is h.names_differ h.names_own in
      record { within = l.within r n part is h.within; no_inputs = l.no_inputs r n part is h.no_inputs; ranked = l.ranked r n part is h.ranked; names_differ = apart.0; names_own = apart.1 }

  -- what a node is made from has shape, so it has, too; it has the name, calls what that calls, and answers as it does
  pub one_shaped : (whole n : FlatNode) → IsMadeFrom whole n → HasShape whole → HasShape n
  one_shaped whole n itself h = h
  one_shaped whole n (a_part of part name outputs is made) h =
      let shape = subst HasShape is h in
      let its = l.made of name outputs n shape.within made in
      part_shaped its.0 (with_outputs name outputs of) n its.1 shape

  one_name : (whole n : FlatNode) → IsMadeFrom whole n → n.name ≡ whole.name
  one_name whole n itself = refl
  one_name whole n (a_part of part name outputs is made) = ap (λ (m : FlatNode). m.name) made.is ∙ sym (ap (λ (m : FlatNode). m.name) is)

  one_calls : (names : List (List ℕ)) (whole n : FlatNode) → IsMadeFrom whole n → HasShape whole → CallsOnly names whole.eqns → CallsOnly names n.eqns
  one_calls names whole n itself h c = c
  one_calls names whole n (a_part of part name outputs is made) h c =
      let shape = subst HasShape is h in
      let its = l.made of name outputs n shape.within made in
      let all = its.1 in
      part_calls its.0 names of.eqns n.eqns all.eqns (subst (λ (m : FlatNode). CallsOnly names m.eqns) is c)

  one_answered : (answers : Answers) (takes : Names (List KindData)) (whole n : FlatNode) → IsMadeFrom whole n → HasShape whole → Answered answers takes whole → Answered answers takes n
  one_answered answers takes whole n itself h a = a
  one_answered answers takes whole n (a_part of part name outputs is made) h a =
      let shape = subst HasShape is h in
      let its = l.made of name outputs n shape.within made in
      l.answered its.0 (with_outputs name outputs of) n answers takes its.1 (ap (λ (m : FlatNode). m.name) made.is) (subst (Answered answers takes) is a)

  flat_nodes : (earlier : List (List ℕ)) (ws ns : List FlatNode) → AreMadeFrom ws ns → AllByRecursion (IsRegular types) ns → AreShapedInTurn earlier ws → AreFlatNodes types earlier ns
  flat_nodes earlier [] [] m g h = tt
  flat_nodes earlier [] (n ∷ ns) m g h = absurd m
  flat_nodes earlier (w ∷ ws) [] m g h = absurd m
  flat_nodes earlier (w ∷ ws) (n ∷ ns) m g h = (
    shaped n g.0 (one_shaped w n m.0 h.0),
    one_calls earlier w n m.0 h.0 h.1,
    subst (λ x. AreFlatNodes types (x ∷ earlier) ns) (sym (one_name w n m.0)) (flat_nodes (w.name ∷ earlier) ws ns m.1 g.1 h.2),
  )

  all_answered : (answers : Answers) (takes : Names (List KindData)) (earlier : List (List ℕ)) (ws ns : List FlatNode) → AreMadeFrom ws ns → AreShapedInTurn earlier ws → AllByRecursion (Answered answers takes) ws
      → AllByRecursion (Answered answers takes) ns
  all_answered answers takes earlier [] [] m h a = tt
  all_answered answers takes earlier [] (n ∷ ns) m h a = absurd m
  all_answered answers takes earlier (w ∷ ws) [] m h a = absurd m
  all_answered answers takes earlier (w ∷ ws) (n ∷ ns) m h a = (one_answered answers takes w n m.0 h.0 a.0, all_answered answers takes (w.name ∷ earlier) ws ns m.1 h.2 a.1)

  -- what is so of the names of nodes is so of those of whole ones
  of_names : (P : List ℕ → Type 0) (ws ns : List FlatNode) → AreMadeFrom ws ns → AllByRecursion (λ (n : FlatNode). P n.name) (map giving ns) → AllByRecursion (λ (w : FlatNode). P w.name) ws
  of_names P [] [] m h = tt
  of_names P [] (n ∷ ns) m h = absurd m
  of_names P (w ∷ ws) [] m h = absurd m
  of_names P (w ∷ ws) (n ∷ ns) m h = (subst P (one_name w n m.0) h.0, of_names P ws ns m.1 h.1)

pub made_machines : PartLaws → RegularLaw → CompiledLaw → MadeMachinesLaw
made_machines l regular compiled types ws ns machines answers takes form shaped_ws from made answered =
    let flat = kept_nodes types [] ns (flat_nodes l regular types form [] ws ns from (are_regular types ns machines made) shaped_ws) in
    let all = made_run types answers takes compiled ns machines flat made (answered_kept answers takes ns (all_answered l regular types form answers takes [] ws ns from shaped_ws answered)) in
    of_names l regular types form
    (λ x. (inputs : List (List Value)) → AllByRecursion (AreOfKinds (takes x)) inputs → run (machine_behaviour (file_of types machines) x) (reverse inputs) ≡ reverse (all_answers (answers x) inputs)) ws ns from all

-- ---- nodes in turn

pub shaped_in_turn : (types : List ObcType) (callees : Callees) (earlier : List (List ℕ)) (ws : List FlatNode) → AreInTurn types callees earlier ws → AllByRecursion IsWritable ws → AreShapedInTurn earlier ws
shaped_in_turn types callees earlier [] turn all = tt
shaped_in_turn types callees earlier (w ∷ ws) turn all =
    let well = turn.0 in
    let one = all.0 in (
      record { within = one.within; no_inputs = well.no_inputs; ranked = well.ranked; names_differ = one.names_differ; names_own = one.names_own },
      turn.3,
      shaped_in_turn types callees (w.name ∷ earlier) ws turn.4 all.1,
    )

pub turn_machines : MadeMachinesLaw → TurnMachinesLaw
turn_machines law types callees ws ns machines form turn all from made one = law types ws ns machines one.answers callees.takes form (shaped_in_turn types callees [] ws turn all) from made one.answered
