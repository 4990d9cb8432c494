-- The machines of a program that chooses give what the program allows.
use Rattle.std.proofs.Common.{List, [], ◌∷◌, refl, sym, subst}
use Rattle.std.specs.List.{AllByRecursion}
use Rattle.hp_obc.specs.Form.{TypesForm}
use Rattle.hp_obc.specs.Machines.{ObcType}
use Rattle.hp_tree.specs.Meaning.{types_of}
use Rattle.hp_automata.specs.Lowering.{enumerations, lowered_program}
use Rattle.hp_complete.specs.Declaring.{known_of}
use Rattle.hp_complete.specs.Made.{AreMadeOf}
use Rattle.hp_flat.specs.Nodes.{FlatNode}
use Rattle.hp_machines.specs.Making.{AreMade}
use Rattle.law_equations.specs.Made.Types.{obc_types}
use Rattle.law_equations.specs.Meaning.Scheduling.{IsWithin}
use Rattle.law_games.specs.ReadyGames.Laws.{ReadyContractsLaw}
use Rattle.law_history.proofs.StreamsLemmas.MadeMachines.{have_few}
use Rattle.law_choices.specs.InTurn.Laws as turn
use Rattle.law_choices.specs.InTurn.Nodes.{all_nodes}
use Rattle.law_choices.specs.InTurn.Standing.{StandsLaw}
use Rattle.law_choices.specs.Observed.Laws.{CanBeObservedLaw, TestedObserversLaw}
use Rattle.hp_controlled.specs.Compiled.{AreNodes}
use Rattle.law_controlled.specs.Machines.{AnswerAsWhole, IsWritable, TurnMachinesLaw}
use Rattle.law_controlled.specs.Names.{HasFreeNames}
use Rattle.law_controlled.specs.Program.{MadeNamesLaw, MadeNodesLaw}
use Rattle.law_controlled.specs.Mirrored.{MirroredLaw}
use Rattle.law_controlled.specs.Observers.{ObserversSuitLaw}
use Rattle.hp_expand.specs.Numbering.{replaced}
use Rattle.law_automata.proofs.LowerableLemmas.Texts.{clocked_of}
use Rattle.law_wellmade.proofs.BegunLemmas.NamesApart.{lowered_apart}
use Rattle.law_choices.proofs.ObservedLemmas.Programs.{with_automata}
use Rattle.law_controlled.specs.Allowed.{AllowedLaw}
use Rattle.law_controlled.proofs.OwnObservers.{own_observers}

pub writable : (ns : List FlatNode) → AllByRecursion IsWithin ns → AllByRecursion HasFreeNames ns → AllByRecursion IsWritable ns
writable [] h k = tt
writable (n ∷ ns) h k =
    let names = k.0 in
    (record { within = h.0; names_differ = names.differ; names_own = names.own }, writable ns h.1 k.1)

pub allowed_law : CanBeObservedLaw → TestedObserversLaw → ReadyContractsLaw → ObserversSuitLaw → MadeNodesLaw → MirroredLaw → MadeNamesLaw → TurnMachinesLaw → turn.TurnLaw → turn.WithinLaw → turn.ChoosingProgramLaw → StandsLaw → AllowedLaw
allowed_law can_law tested_law contracts_law observers_law made_law mirrored_law names_law machines_law in_turn within means standing program after ranks o order removable form short names observable machines =
    let ready = order.ready in
    let c = machines.machines in
    let equations = c.equations in
    let have = c.have in
    let types = obc_types (types_of after) in
    let are = subst (λ (ts : List ObcType). AreNodes after ts c.observers after c.plants have.nodes) machines.types have.are in
    let its_form = subst TypesForm machines.types machines.form in
    let its_machines = subst (λ (ts : List ObcType). AreMade ts have.nodes o.machines) machines.types have.made in
    let made = made_law after types c.observers (known_of (lowered_program after)) (enumerations [] after) after c.plants have.nodes equations.made are in
    let calls = contracts_law program after ready order.conditions in
    let can = can_law program after ready removable form short calls observable (tested_law program after ranks order removable form short calls observable) in
    let suit = observers_law program after c.observers made.all ready form names can made.made c.observed in
    let chooses : turn.IsChoosing program after c.observers made.all = record {
      ready = ready;
      removable = removable;
      form = form;
      short = short;
      names = names;
      equations = subst (AreMadeOf (known_of (lowered_program after)) (lowered_program after)) (sym made.are_plants) equations.made;
      suit = suit.0;
      alone = suit.1;
      made = made.made;
    } in
    let free = names_law program after types c.observers c.plants have.nodes ready equations.made made (have_few types have.nodes o.machines its_machines) in
    let allowed = means program after ranks c.observers made.all order.ordered chooses in
    let runs = machines_law types (turn.said_of after made.all) (all_nodes made.all) have.nodes o.machines its_form (in_turn program after c.observers made.all chooses)
    (writable (all_nodes made.all) (within program after c.observers made.all chooses) free) made.from its_machines allowed.one in
    record {
      observers = c.observers;
      all = made.all;
      chooses = chooses;
      silent = calls;
      observable = observable;
      own = own_observers after c.observers c.observed (with_automata (enumerations [] after) after [] [] (λ f. refl) tt (lowered_apart program after ready.named (clocked_of (replaced program) after ready.clocks)));
      mirrored = mirrored_law program after ranks types c.observers made.all order made.ask;
      allowed = allowed;
      runs = subst (λ (ts : List ObcType). AnswerAsWhole ts o.machines allowed.one.answers (turn.said_of after made.all).takes (all_nodes made.all)) (sym machines.types) runs;
      stands = standing program after c.observers made.all chooses;
    }
