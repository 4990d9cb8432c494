-- The clocked equations of observers have one meaning, in which the places of comparisons have their values.
use Rattle.hp_meaning.specs.Causal.RanksOfPoints.{AllRanksLaw}
use Rattle.hp_automata.specs.Lowering.{lowered_program}
use Rattle.law_automata.specs.Lowered.Laws.{RanksLaw}
use Rattle.law_equations.specs.Meaning.Kinding.{OneReactionLaw}
use Rattle.hp_watch.specs.Observing.{observers}
use Rattle.law_choices.specs.Embedded.Meaning.{ObserversKeepLaw, ObserversKnownLaw}
use Rattle.law_choices.specs.Flat.Places.{PlacesLaw as NodePlacesLaw}
use Rattle.law_choices.specs.Seeing.Found.{FilledFoundLaw}
use Rattle.law_choices.specs.Streams.Uncontrolled.{no_choice}
use Rattle.law_choices.proofs.ChoosingLemmas.Programs.{compiled_law}
use Rattle.law_choices.proofs.OnClocksLemmas.WellMade.{compiled_knows}
use Rattle.law_choices.proofs.ObservedLemmas.Meaningful.{observers_uncontrolled, observers_meaningful}
use Rattle.law_choices.proofs.StreamsLemmas.Places.{meaningful_places}
use Rattle.law_choices.proofs.StreamsLemmas.Streams.{MeaningLaws}
use Rattle.law_choices.proofs.StreamsLemmas.Uncontrolled.{no_choice_law}

pub observers_keep_law : NodePlacesLaw → FilledFoundLaw → OneReactionLaw → AllRanksLaw → RanksLaw → MeaningLaws → ObserversKeepLaw
observers_keep_law places found one_law all_ranks kept_ranks laws program after ranks o ok form short nothing observable fs made =
    let seen = observers after in
    let m = observers_meaningful kept_ranks program after ranks o ok form short nothing observable (all_ranks after ranks o.ordered) in
    let chosen = no_choice_law seen (observers_uncontrolled after) in
    let one = compiled_law laws.targets laws.calls one_law laws.outputs program seen m.types m.compilable m.short no_choice chosen.0 fs made in
    (one, meaningful_places places found laws program seen m no_choice chosen.1 chosen.0 fs made one)

pub observers_known_law : AllRanksLaw → RanksLaw → ObserversKnownLaw
observers_known_law all_ranks kept_ranks program after ranks o ok form short nothing observable =
    let m = observers_meaningful kept_ranks program after ranks o ok form short nothing observable (all_ranks after ranks o.ordered) in
    (compiled_knows program (lowered_program (observers after)) m.types m.compilable).calls
