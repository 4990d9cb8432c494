-- In a ready program each contract whose observer can be made reads there no more of the outputs than in the node.
use Rattle.std.proofs.Common.{ℕ, List, [], ◌∷◌}
use Rattle.hp_tree.specs.declared.program.Item.{Item}
use Rattle.hp_tree.specs.declared.program.Item.TheVariants.{TypeItem, NodeItem}
use Rattle.hp_tree.specs.Programs.{Node}
use Rattle.hp_meaning.specs.Causal.Clocked.{ClocksRight}
use Rattle.hp_meaning.specs.Causal.RanksOfPoints.{AllFall, RanksLaw}
use Rattle.law_judged.specs.Named.Scoped.{EachNode, NodeScoped}
use Rattle.hp_expand.specs.Numbering.{replaced}
use Rattle.hp_automata.specs.Lowering.{Enumerations}
use Rattle.law_automata.specs.Lowered.Removable.{IsRemovable}
use Rattle.law_automata.proofs.LowerableLemmas.Texts.{clocked_of}
use Rattle.law_automata.proofs.ReadiedLemmas.Whole.{ready_scoped}
use Rattle.law_choices.specs.Depending.Contracts.{ContractsLaw, KeepsContract, ReadsOutputs, ReadsOutputsLaw}
use Rattle.law_choices.specs.Depending.Found.{EventPlacesLaw}
use Rattle.law_choices.specs.Observed.Contracts.{IsObservable}
use Rattle.law_choices.specs.Places.Laws.{WalkLaw}
use Rattle.law_choices.proofs.DependingLemmas.ContractLaws.{keeps_contract, reads_outputs}
use Rattle.law_choices.proofs.ObservedLemmas.Clocks.{outputs_based}
use Rattle.law_choices.proofs.ObservedLemmas.Removable.{AllBase}
use Rattle.law_choices.proofs.OnClocksLemmas.Programs.{ready_clocks}

each_reads : (items : List Item) → EachNode NodeScoped items → EachNode (λ (n : Node). AllBase n.outputs) items → EachNode IsObservable items → EachNode ClocksRight items → EachNode ReadsOutputs items
each_reads [] s b o c = tt
each_reads (TypeItem t ∷ items) s b o c = each_reads items s b o c
each_reads (NodeItem n ∷ items) s b o c = (reads_outputs n s.0 b.0 o.0 c.0, each_reads items s.1 b.1 o.1 c.1)

pub reads_outputs_law : ReadsOutputsLaw
reads_outputs_law program after r o = each_reads after (ready_scoped program after r) (outputs_based (replaced program) after (clocked_of (replaced program) after r.clocks)) o (ready_clocks program after r)

module _ (events : EventPlacesLaw) (walk : WalkLaw) (ranked : RanksLaw) (enums : Enumerations) where
  each_keeps : (items : List Item) (ranks : List (List ℕ)) → IsRemovable items → AllFall items ranks → EachNode NodeScoped items → EachNode (λ (n : Node). AllBase n.outputs) items → EachNode IsObservable items → EachNode ClocksRight items → EachNode (KeepsContract enums) items
  each_keeps [] ranks ok fall s b o c = tt
  each_keeps (TypeItem t ∷ items) ranks ok fall s b o c = each_keeps items ranks ok fall s b o c
  each_keeps (NodeItem n ∷ items) [] ok fall s b o c = absurd fall
  each_keeps (NodeItem n ∷ items) (r ∷ ranks) ok fall s b o c =
      (keeps_contract n s.0 b.0 o.0 c.0 events walk enums ok.0 (ranked n r fall.0 fall.1), each_keeps items ranks ok.1 fall.2 s.1 b.1 o.1 c.1)

pub contracts_law : EventPlacesLaw → WalkLaw → RanksLaw → ContractsLaw
contracts_law events walk ranked program after ranks enums r ok fall o =
    each_keeps events walk ranked enums after ranks ok fall (ready_scoped program after r) (outputs_based (replaced program) after (clocked_of (replaced program) after r.clocks)) o (ready_clocks program after r)
