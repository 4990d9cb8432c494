-- The machines of a program whose nodes choose have form.
use Rattle.std.proofs.Common.{◌≡◌, ℕ, ◌≤◌, false, List, [], ◌∷◌, length, sym, subst, ◌∙◌, arith}
use Rattle.std.specs.List.{AllByRecursion}
use Rattle.hp_obc.specs.Form.{HasObcForm, TypesForm}
use Rattle.hp_obc.specs.Machines.{Machine, ObcType}
use Rattle.hp_tree.specs.Meaning.{types_of}
use Rattle.hp_tree.specs.Programs.{Node}
use Rattle.hp_tree.specs.declared.program.Item.{Item}
use Rattle.law_judged.specs.Named.Scoped.{EachNode}
use Rattle.hp_automata.specs.Lowering.{enumerations, lowered_program}
use Rattle.hp_automata.specs.NewNames.{is_new}
use Rattle.hp_flat.specs.Nodes.{FlatNode}
use Rattle.law_equations.specs.Made.Making.{Known}
use Rattle.law_equations.specs.Made.Types.{obc_types, obc_types_of}
use Rattle.law_equations.specs.Meaning.Kinding.{Callees}
use Rattle.law_equations.specs.Meaning.Scheduling.{IsWithin}
use Rattle.law_equations.specs.Shaped.Laws.{KeptLaw, ProgramFormLaw}
use Rattle.hp_complete.specs.Declaring.{known_of}
use Rattle.hp_complete.specs.Made.{AreMadeOf}
use Rattle.law_wellmade.specs.Lettered.Laws.{NodeLettered}
use Rattle.law_history.proofs.StreamsLemmas.MadeMachines.{have_few}
use Rattle.hp_watch.specs.Observing as observing
use Rattle.hp_watch.specs.Watching.{Observed}
use Rattle.law_choices.specs.Adding.Made.{IsReadyMade}
use Rattle.law_choices.specs.Answered.Loops as loop
use Rattle.law_choices.specs.Closed.Exclusive.{IsParted}
use Rattle.law_choices.specs.InTurn.Laws as turn
use Rattle.law_choices.specs.InTurn.Nodes.{Contracted, Made, all_nodes, loops}
use Rattle.law_choices.specs.InTurn.Nodes.Made.{plain, contracted}
use Rattle.law_choices.specs.InTurn.Observed.{CanBeObserved}
use Rattle.law_choices.specs.OnClocks.Meaning.{AreInTurn}
use Rattle.law_choices.specs.OnClocks.WellMade.{callees_of}
use Rattle.law_choices.proofs.InTurnLemmas.Contracted.{Ground, chooses, chosen_named, chosen_outputs}
use Rattle.law_choices.proofs.InTurnLemmas.Programs.{Grounded, IsOfProgram, TurnLaws, all_old, all_stand, have_bytes}
use Rattle.law_choices.proofs.OnClocksLemmas.Texts.{IsArranged}
use Rattle.hp_controlled.specs.Compiled.{AreCompiled}
use Rattle.law_controlled.specs.Names.{HasFreeNames}
use Rattle.law_controlled.specs.Observers.{ObserversSuitLaw}
use Rattle.law_controlled.specs.Program.{HaveMade, MadeNamesLaw}
use Rattle.law_controlled.proofs.ExtraLaws.{ChoosesSo, HasExtras, IsChosenOf, all_extras, fit_of}
use Rattle.law_controlled.proofs.FormLaws.{FitsByName, have_form}
use Rattle.law_controlled.proofs.ObserverLaws.{found_by}
use Rattle.law_controlled.proofs.ObserverShortLaws.{IsLevel, observers_short}
use Rattle.law_controlled.proofs.ShortLaws.{AllShort, ObserversShort}

-- the laws that are joined here
pub record FormedLaws : Type 0 where
  pub turn : TurnLaws
  pub observers : ObserversSuitLaw
  pub names : MadeNamesLaw
  pub kept : KeptLaw
  pub file : ProgramFormLaw

-- What is known of the program: of the names of its nodes, of the levels of arms in them, and of clocks.
pub record IsSpelled (after : List Item) : Type 0 where
  pub short : EachNode (λ (n : Node). length n.name ≤ 255) after
  pub lettered : EachNode (NodeLettered (known_of (lowered_program after))) (lowered_program after)
  pub levels : EachNode IsLevel after
  pub clocks : (fs : List FlatNode) → AreMadeOf (known_of (lowered_program after)) (lowered_program after) fs → AllByRecursion (λ (f : FlatNode). AllShort 128 f.eqns) fs

all_parted : (types : List ObcType) (callees : Callees) (fs : List FlatNode) → AllByRecursion (IsReadyMade types callees) fs → AllByRecursion IsParted fs
all_parted types callees [] h = tt
all_parted types callees (f ∷ fs) h = ((let r = h.0 in let b = r.based in let w = b.well in w.parted), all_parted types callees fs h.1)

all_fit : (types : List ObcType) (callees : Callees) (earlier : List (List ℕ)) (ws : List FlatNode) → AreInTurn types callees earlier ws → AllByRecursion IsWithin ws → AllByRecursion HasFreeNames ws → AllByRecursion HasExtras ws
    → AllByRecursion (FitsByName types callees) ws
all_fit types callees earlier [] t i f x = tt
all_fit types callees earlier (w ∷ ws) t i f x = let one = x.0 in ((fit_of types callees w t.0 i.0 f.0 x.0, one.name), all_fit types callees (w.name ∷ earlier) ws t.4 i.1 f.1 x.1)

module _ (l : FormedLaws) (program after : List Item) (q : IsArranged program after) (signs : EachNode (λ (n : Node). is_new n.name ≡ false) after) (can : CanBeObserved after) (spelled : IsSpelled after) (form : TypesForm (obc_types (types_of after)))
    (machines : List Machine) (c : AreCompiled after (obc_types_of after) machines) (made : HaveMade after (obc_types_of after) c.observers after c.plants c.have.nodes) where
  abbrev types : List ObcType
  types = obc_types (types_of after)

  abbrev k : Known
  k = known_of (lowered_program after)

  equations : AreMadeOf k (lowered_program after) (loop.plants (loops made.all))
  equations = let e = c.equations in subst (AreMadeOf k (lowered_program after)) (sym made.are_plants) e.made

  chooses_all : turn.IsChoosing program after c.observers made.all
  chooses_all =
      let suit = l.observers program after c.observers made.all q.ready q.form signs can made.made c.observed in
      record {
        ready = q.ready;
        removable = q.removable;
        form = q.form;
        short = q.short;
        names = signs;
        equations = equations;
        suit = suit.0;
        alone = suit.1;
        made = made.made;
      }

  -- ---- the nodes that choose

  abbrev said : Callees
  said = turn.said_of after made.all

  chosen_of : (n : Node) (d : Contracted) → Ground types said c.observers n d → IsChosenOf d
  chosen_of n d g =
      let laws = l.turn.nodes in
      let its = chooses laws types said c.observers n d g in
      let closed = its.2 (λ f args earlier. []) in
      let its_loop = closed.loop in
      let fewer = its_loop.inputs in
      let of_node = g.of_node in
      let based = of_node.based in
      let well = based.well in
      let inside = well.within in
      record {
        parted = its.3;
        name = chosen_named laws types said c.observers n d g ∙ sym g.named;
        outputs = chosen_outputs laws types said c.observers n d g;
        inputs = omega (arith, fewer);
        inputs_below = inside.inputs;
        outputs_below = inside.outputs;
      }

  abbrev KnownOf : Made → Type 0
  KnownOf =
      Grounded l.turn types k (enumerations [] after) c.observers said (have_bytes l.turn program after c.observers made.all chooses_all) chooses_all.suit chooses_all.alone (all_old l.turn program after c.observers made.all chooses_all)
      (IsOfProgram l.turn program after c.observers made.all chooses_all)

  all_chosen : (ms : List Made) → AllByRecursion KnownOf ms → AllByRecursion ChoosesSo ms
  all_chosen [] h = tt
  all_chosen (plain f ∷ ms) h = (tt, all_chosen ms h.1)
  all_chosen (contracted d ∷ ms) h = let it = h.0 in (chosen_of it.0 d it.1, all_chosen ms h.1)

  -- ---- observers

  seen : ObserversShort c.observers
  seen f o e =
      let are = c.observed in
      let its = are.equations in
      let low = lowered_program (observing.observers after) in
      let possible = can.compilable in
      let each = observers_short (enumerations [] (observing.observers after)) (known_of low) after are.nodes spelled.levels possible.clocks its.made in
      let at = found_by (λ n g. AllShort 128 g.eqns) after c.observers are each f o e in
      subst (λ (z : Observed). AllShort 128 z.node.eqns) at.4 at.5

  -- ---- all machines

  pub has_form : HasObcForm (obc_types_of after) machines
  has_form =
      let e = c.equations in
      let have = c.have in
      let stand = all_stand l.turn program after c.observers made.all chooses_all in
      let few = have_few types have.nodes machines have.made in
      let free = l.names program after types c.observers c.plants have.nodes q.ready e.made made few in
      let ready = l.turn.ready program after q.ready q.removable q.form q.short (loop.plants (loops made.all)) equations in
      let extras =
      all_extras types c.observers k (enumerations [] after) seen after made.all made.made equations spelled.lettered spelled.short (all_parted types (callees_of after) (loop.plants (loops made.all)) ready)
      (spelled.clocks (loop.plants (loops made.all)) equations) (all_chosen made.all stand.2) made.added (made.few few) in
      have_form types said l.kept l.file form (all_nodes made.all) have.nodes machines stand.0 (all_fit types said [] (all_nodes made.all) stand.0 stand.1 free extras) made.from have.made
