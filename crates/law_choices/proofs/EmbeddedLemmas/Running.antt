-- Where a node with a contract stands by itself, with chosen values, its observer goes beside it, behind any items. So it is of instances, whose rows are the arguments of their calls.
use Rattle.std.proofs.Common.{◌≡◌, List, [], ◌∷◌, length}
use Rattle.std.specs.List.{AllByRecursion}
use Rattle.hp_base.specs.declared.value.Value.{Value}
use Rattle.hp_tree.specs.declared.program.Item.{Item}
use Rattle.hp_tree.specs.Programs.{TypeDecl, Contract, Node}
use Rattle.hp_tree.specs.Operators.{real}
use Rattle.hp_tree.specs.Instant.{Past, nothing}
use Rattle.hp_tree.specs.Meaning.{Nodes}
use Rattle.hp_meaning.proofs.CausalLemmas.Swap.{given}
use Rattle.law_automata.specs.Lowered.Standing.{Along}
use Rattle.hp_watch.specs.Observing.{observer_of}
use Rattle.law_choices.specs.Choosing.Choices.{Choices}
use Rattle.law_choices.specs.Embedded.Observed.{IsObserved, observed_rows}
use Rattle.law_choices.specs.Runs.Chosen.{chosen_given, chosen_nodes}
use Rattle.law_choices.proofs.PlayingLemmas.Holding.{Runs}
use Rattle.law_choices.proofs.EmbeddedLemmas.Beside.{Goes, GoesAnyhow, IsWatched, all_observed, instants_of, observer_goes}

runs_goes : (choices : Choices) (types : List TypeDecl) (earlier : List Item) (M : Nodes) (n : Node) (c : Contract) (w : IsWatched n c) (rows : List (List Value)) (past : Past) → Runs choices types earlier n rows past
    → Goes types (chosen_nodes choices types real earlier) M n c w rows past
runs_goes choices types earlier M n c w [] [] r = tt
runs_goes choices types earlier M n c w [] (now ∷ past) r = absurd r
runs_goes choices types earlier M n c w (row ∷ rows) [] r = absurd r
runs_goes choices types earlier M n c w (row ∷ rows) (now ∷ past) r = (runs_goes choices types earlier M n c w rows past r.0, ((chosen_given (choices n.name) n row (given past r.1.0)).free, r.1.1))

goes_runs : (choices : Choices) (types : List TypeDecl) (before : List Item) (m : Node) (rows : List (List Value)) (past : Past) → GoesAnyhow types (chosen_nodes choices types real before) m rows past → Runs choices types before m rows past
goes_runs choices types before m [] [] h = tt
goes_runs choices types before m [] (now ∷ past) h = absurd h
goes_runs choices types before m (row ∷ rows) [] h = absurd h
goes_runs choices types before m (row ∷ rows) (now ∷ past) h = (goes_runs choices types before m rows past h.0, (nothing, h.1 (chosen_given (choices m.name) m row (given past nothing)).free))

pub observer_runs : (choices others : Choices) (types : List TypeDecl) (earlier before : List Item) (n : Node) (c : Contract) → IsWatched n c → (rows : List (List Value)) (past : Past) → AllByRecursion (λ (row : List Value). length row ≡ length n.inputs) rows
    → Runs choices types earlier n rows past → Runs others types before (observer_of n c) (observed_rows n.outputs rows past) (instants_of n c rows past) × Along (IsObserved c) past (instants_of n c rows past)
observer_runs choices others types earlier before n c w rows past long r =
    let N = chosen_nodes choices types real earlier in
    let M = chosen_nodes others types real before in
    let goes = runs_goes choices types earlier M n c w rows past r in
    (goes_runs others types before (observer_of n c) (observed_rows n.outputs rows past) (instants_of n c rows past) (observer_goes types N M n c w rows past long goes), all_observed types N M n c w rows past goes)
