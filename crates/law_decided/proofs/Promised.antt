-- The machines of a program keep its contracts.
use Rattle.hp_obc.specs.Steps.{machine_behaviour, run}
use Rattle.law_games.specs.ReadyGames.Laws.{TextOrderLaw}
use Rattle.law_games.specs.Guaranteed.Laws.{NodeRunsKeepContractsLaw}
use Rattle.law_history.specs.Streams.Texts.{TextLaw}
use Rattle.law_history.proofs.StreamsLemmas.Texts.{none_controlled}
use Rattle.law_decided.specs.Promised.{RunLaw, MachineLaw}

pub run_kept : TextOrderLaw → NodeRunsKeepContractsLaw → RunLaw
run_kept order law text tokens program after ranks a games f inputs outputs run frees past reaction =
    let in_order = order text tokens program after ranks a.spelled a.read a.named a.typed a.defined a.formed a.initialised a.clocks a.fall in
    (law program after ranks in_order (none_controlled program after a.clocks a.uncontrolled) games.safe f inputs outputs frees past run reaction).1

pub machine_kept : TextOrderLaw → NodeRunsKeepContractsLaw → TextLaw → MachineLaw
machine_kept order law history text tokens program after ranks o a games machines f m e inputs fit =
    let runs = (history text tokens program after ranks o a machines f m e).runs inputs fit in (
      runs,
      run_kept order law text tokens program after ranks a games f inputs (run (machine_behaviour o f) inputs) runs,
    )
