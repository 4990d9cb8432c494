-- A ready program with ranks meets the premises of the laws.
use Rattle.std.proofs.Common.{List, [], ◌∷◌}
use Rattle.hp_tree.specs.declared.program.Item.{Item}
use Rattle.hp_tree.specs.declared.program.Item.TheVariants.{TypeItem, NodeItem}
use Rattle.hp_meaning.specs.Causal.Clocked.{ClocksRight}
use Rattle.hp_meaning.specs.Contract.SteeredRuns.{AllClocksRight}
use Rattle.hp_meaning.proofs.CausalLemmas.Ranking.{all_ranks_enough}
use Rattle.law_judged.specs.Named.Scoped.{EachNode}
use Rattle.law_games.specs.ReadyGames.Laws.{ReadyContractsLaw}
use Rattle.law_choices.specs.Once.Laws.{OneChosenReactionLaw, OneChosenRunLaw, ReadyReactionLaw, ReadyRunLaw}
use Rattle.law_choices.proofs.OnClocksLemmas.Programs.{ready_clocks}

all_right : (items : List Item) → EachNode ClocksRight items → AllClocksRight items
all_right [] h = tt
all_right (TypeItem t ∷ items) h = all_right items h
all_right (NodeItem n ∷ items) h = (h.0, all_right items h.1)

module _ (nothing_called : ReadyContractsLaw) where
  pub ready_reaction : OneChosenReactionLaw → ReadyReactionLaw
  ready_reaction one program after ranks o =
      one after (all_ranks_enough after ranks o.ordered) (all_right after (ready_clocks program after o.ready)) (nothing_called program after o.ready o.conditions)

  pub ready_run : OneChosenRunLaw → ReadyRunLaw
  ready_run one program after ranks o =
      one after (all_ranks_enough after ranks o.ordered) (all_right after (ready_clocks program after o.ready)) (nothing_called program after o.ready o.conditions)
