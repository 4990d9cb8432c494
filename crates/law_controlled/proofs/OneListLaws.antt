-- A program whose nodes choose has one list of machines, but for the commands of controllers.
use Rattle.std.proofs.Common.{◌≡◌, ℕ, false, List, [], ◌∷◌, sym, ap, subst, ◌∙◌}
use Rattle.std.specs.List.{AllByRecursion}
use Rattle.hp_obc.specs.Form.{TypesForm}
use Rattle.hp_obc.specs.Machines.{Machine, Obc, ObcType}
use Rattle.hp_tree.specs.declared.program.Item.{Item}
use Rattle.hp_tree.specs.Meaning.{types_of}
use Rattle.hp_tree.specs.Programs.{Node}
use Rattle.hp_abstract.specs.Abstractions.{OneAbstractionLaw}
use Rattle.hp_automata.specs.Lowering.{enumerations, lowered_program}
use Rattle.hp_automata.specs.NewNames.{is_new}
use Rattle.hp_complete.specs.Declaring.{known_of}
use Rattle.hp_complete.specs.Made.{AreMadeOf}
use Rattle.hp_flat.specs.Nodes.{FlatNode}
use Rattle.hp_form.specs.Regular.Regular.{RegularLaw}
use Rattle.hp_machines.specs.Making.{AreMade}
use Rattle.hp_machines.proofs.OneLaws.{one_within}
use Rattle.hp_watch.specs.Observing as observing
use Rattle.law_automata.specs.Lowered.Removable.{IsRemovable}
use Rattle.law_choices.specs.InTurn.Laws as turn
use Rattle.law_choices.specs.InTurn.Nodes.{all_nodes}
use Rattle.law_choices.specs.Observed.Contracts.{IsObservable}
use Rattle.law_choices.specs.Observed.Laws.{CanBeObservedLaw, TestedObserversLaw}
use Rattle.law_choices.specs.Observed.Texts.{ObservableTextsLaw}
use Rattle.law_choices.specs.InTurn.Texts.{SignLaw}
use Rattle.law_choices.proofs.OnClocksLemmas.Texts.{when_accepted}
use Rattle.law_equations.specs.Made.Types.{obc_types, obc_types_of}
use Rattle.law_games.specs.ReadyGames.Laws.{IsInOrder, ReadyContractsLaw, TextOrderLaw}
use Rattle.law_history.proofs.StreamsLemmas.MadeMachines.{have_few}
use Rattle.law_judged.specs.Named.Scoped.{EachNode}
use Rattle.law_wellmade.specs.Spelled.Integers.{NodeShort}
use Rattle.hp_controlled.specs.Chosen.{AreControlledMachines}
use Rattle.hp_controlled.specs.Compiled.{AreNodes, contracts_of, names_with_contracts}
use Rattle.law_controlled.specs.Alike.{AreAlike, AreNearly, AreOneList, IsAlike, IsNearly}
use Rattle.law_controlled.specs.Alike.IsAlike.{the_same, both_control}
use Rattle.law_controlled.specs.Alike.IsNearly.{one, control}
use Rattle.law_controlled.specs.Machines.{AreMadeFrom, AreShapedInTurn, HasShape}
use Rattle.law_controlled.specs.Observers.{ObserversSuitLaw}
use Rattle.law_controlled.specs.One.{AreOne, OneListLaw, OneTextListLaw}
use Rattle.law_controlled.specs.Program.{MadeNamesLaw, MadeNodesLaw}
use Rattle.law_controlled.proofs.AlikeLaws.{AreBare, all_nodes_both, made_bare, observers_both}
use Rattle.law_controlled.proofs.AllowedLaws.{writable}
use Rattle.law_controlled.proofs.BareLaws.{bare_observing}
use Rattle.law_controlled.proofs.ControlLaws.{ControlLaws}
use Rattle.law_controlled.proofs.MachineLaws.{PartLaws, one_shaped, shaped_in_turn}
use Rattle.law_controlled.proofs.NearlyLaws.{nearly_one}

-- ---- machines that are made

nearly_made : (types : List ObcType) (ns ks : List FlatNode) (ms os : List Machine) → AreAlike ns ks → AreMade types ns ms → AreMade types ks os → AllByRecursion HasShape ns → AllByRecursion HasShape ks → AreNearly types ms os
nearly_made types [] [] [] [] alike made made_too shape shape_too = tt
nearly_made types [] [] [] (o ∷ os) alike made made_too shape shape_too = absurd made_too
nearly_made types [] [] (m ∷ ms) os alike made made_too shape shape_too = absurd made
nearly_made types [] (k ∷ ks) ms os alike made made_too shape shape_too = absurd alike
nearly_made types (n ∷ ns) [] ms os alike made made_too shape shape_too = absurd alike
nearly_made types (n ∷ ns) (k ∷ ks) [] os alike made made_too shape shape_too = absurd made
nearly_made types (n ∷ ns) (k ∷ ks) (m ∷ ms) [] alike made made_too shape shape_too = absurd made_too
nearly_made types (n ∷ ns) (k ∷ ks) (m ∷ ms) (o ∷ os) alike made made_too shape shape_too = (by alike.0, nearly_made types ns ks ms os alike.1 made.1 made_too.1 shape.1 shape_too.1)
  where
    by : IsAlike n k → IsNearly types m o
    by (the_same e) =
        let a = shape.0 in
        let b = shape_too.0 in
        one
        (one_within types n k (ap (λ (z : FlatNode). z.name) e) (ap (λ (z : FlatNode). z.variables) e) (ap (λ (z : FlatNode). z.inputs) e) (ap (λ (z : FlatNode). z.outputs) e) (ap (λ (z : FlatNode). z.eqns) e) m o a.ranked b.ranked a.within b.within made.0 made_too.0)
    by (both_control are) = control (record { node = n; made = made.0; shape = shape.0; other_node = k; other_made = made_too.0; other_shape = shape_too.0; are = are })

-- ---- what they are made of has shape

pub record ShapeLaws : Type 0 where
  pub can : CanBeObservedLaw
  pub tested : TestedObserversLaw
  pub contracts : ReadyContractsLaw
  pub observers : ObserversSuitLaw
  pub made : MadeNodesLaw
  pub names : MadeNamesLaw
  pub in_turn : turn.TurnLaw
  pub within : turn.WithinLaw
  pub part : PartLaws
  pub regular : RegularLaw

all_shaped : PartLaws → RegularLaw → (types : List ObcType) → TypesForm types → (earlier : List (List ℕ)) (ws ns : List FlatNode) → AreMadeFrom ws ns → AreShapedInTurn earlier ws → AllByRecursion HasShape ns
all_shaped part regular types form earlier [] [] from shaped = tt
all_shaped part regular types form earlier [] (n ∷ ns) from shaped = absurd from
all_shaped part regular types form earlier (w ∷ ws) [] from shaped = absurd from
all_shaped part regular types form earlier (w ∷ ws) (n ∷ ns) from shaped = (one_shaped part regular types form w n from.0 shaped.0, all_shaped part regular types form (w.name ∷ earlier) ws ns from.1 shaped.2)

module _ (l : ShapeLaws) (program after : List Item) (ranks : List (List ℕ)) (order : IsInOrder program after ranks) (removable : IsRemovable after) (form : TypesForm (obc_types_of program)) (short : EachNode NodeShort after)
    (names : EachNode (λ (n : Node). is_new n.name ≡ false) after) (observable : EachNode IsObservable after) where
  nodes_shaped : (o : Obc) (machines : AreControlledMachines after o) → AllByRecursion HasShape machines.machines.have.nodes
  nodes_shaped o machines =
      let ready = order.ready in
      let c = machines.machines in
      let equations = c.equations in
      let have = c.have in
      let types = obc_types (types_of after) in
      let are = subst (λ (ts : List ObcType). AreNodes after ts c.observers after c.plants have.nodes) machines.types have.are in
      let its_form = subst TypesForm machines.types machines.form in
      let its_machines = subst (λ (ts : List ObcType). AreMade ts have.nodes o.machines) machines.types have.made in
      let made = l.made after types c.observers (known_of (lowered_program after)) (enumerations [] after) after c.plants have.nodes equations.made are in
      let calls = l.contracts program after ready order.conditions in
      let can = l.can program after ready removable form short calls observable (l.tested program after ranks order removable form short calls observable) in
      let suit = l.observers program after c.observers made.all ready form names can made.made c.observed in
      let chooses : turn.IsChoosing program after c.observers made.all = record {
        ready = ready;
        removable = removable;
        form = form;
        short = short;
        names = names;
        equations = subst (AreMadeOf (known_of (lowered_program after)) (lowered_program after)) (sym made.are_plants) equations.made;
        suit = suit.0;
        alone = suit.1;
        made = made.made;
      } in
      let free = l.names program after types c.observers c.plants have.nodes ready equations.made made (have_few types have.nodes o.machines its_machines) in
      let in_turn = l.in_turn program after c.observers made.all chooses in
      let shaped = shaped_in_turn types (turn.said_of after made.all) [] (all_nodes made.all) in_turn (writable (all_nodes made.all) (l.within program after c.observers made.all chooses) free) in
      all_shaped l.part l.regular types its_form [] (all_nodes made.all) have.nodes made.from shaped

  module _ (abstraction : OneAbstractionLaw) (controls : ControlLaws) (o other : Obc) (first : AreControlledMachines after o) (second : AreControlledMachines after other) where
    types_same : o.types ≡ other.types
    types_same = first.types ∙ sym second.types

    plants_bare : AreBare first.machines.plants second.machines.plants
    plants_bare = made_bare (known_of (lowered_program after)) (lowered_program after) first.machines.plants second.machines.plants first.machines.equations.made second.machines.equations.made

    watch : bare_observing first.machines.observers ≡ bare_observing second.machines.observers
    watch =
        let a = first.machines.observed in
        let b = second.machines.observed in
        let items = lowered_program (observing.observers after) in
        let nodes : AreBare a.nodes b.nodes = made_bare (known_of items) items a.nodes b.nodes a.equations.made b.equations.made in
        ap bare_observing a.are ∙ observers_both (names_with_contracts after) (contracts_of after) a.nodes b.nodes nodes ∙ sym (ap bare_observing b.are)

    nearly : AreNearly o.types o.machines other.machines
    nearly =
        let a = first.machines.have in
        let b = second.machines.have in
        let are : AreNodes after o.types second.machines.observers after second.machines.plants b.nodes =
        subst (λ (ts : List ObcType). AreNodes after ts second.machines.observers after second.machines.plants b.nodes) (sym types_same) b.are in
        let made : AreMade o.types b.nodes other.machines = subst (λ (ts : List ObcType). AreMade ts b.nodes other.machines) (sym types_same) b.made in
        let alike : AreAlike a.nodes b.nodes =
        all_nodes_both abstraction after o.types first.machines.observers second.machines.observers watch after first.machines.plants second.machines.plants a.nodes b.nodes plants_bare a.are are in
        nearly_made o.types a.nodes b.nodes o.machines other.machines alike a.made made (nodes_shaped o first) (nodes_shaped other second)

    as_other : ◌≡◌ {A = Obc} (record { types = o.types; machines = other.machines }) other
    as_other = λ i. record { types = types_same i; machines = other.machines }

    pub are_one : AreOne o other
    are_one = record { types = types_same; machines = subst (AreOneList o) as_other (nearly_one controls o.types first.form o.machines other.machines first.machines_form nearly) }

pub one_list : ShapeLaws → OneAbstractionLaw → ControlLaws → OneListLaw
one_list l abstraction controls program after ranks o other order removable form short names observable first second = are_one l program after ranks order removable form short names observable abstraction controls o other first second

pub one_text_list : OneListLaw → SignLaw → TextOrderLaw → ObservableTextsLaw → OneTextListLaw
one_text_list one_law sign order observable text tokens program after ranks o other a p named typed defined formed initialised clocks fall first second =
    let q = when_accepted text tokens program after a p named typed defined formed initialised clocks in
    one_law program after ranks o other (order text tokens program after ranks a p named typed defined formed initialised clocks fall) q.removable q.form q.short (sign text tokens program after a p clocks) (observable text tokens program after a p clocks) first second
