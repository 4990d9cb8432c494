-- Judged programs can be replaced.
use Rattle.std.proofs.Common.{ℕ, List, [], ◌∷◌}
use Rattle.hp_tree.specs.declared.program.Item.{Item}
use Rattle.hp_tree.specs.declared.program.Item.TheVariants.{TypeItem, NodeItem}
use Rattle.hp_tree.specs.Programs.{Node}
use Rattle.hp_expand.specs.Numbering.{replaced_node, with_node, no_node}
use Rattle.law_judged.specs.Named.Scoped.{NodeScoped, EachNode}
use Rattle.law_judged.proofs.NamedLemmas.Judged.{scoped}
use Rattle.law_judged.proofs.TypedLemmas.ProgramLaws.{typed}
use Rattle.law_judged.specs.Replaced.Fitting.{IsPlain, NodeNames}
use Rattle.law_judged.specs.Replaced.Laws.{AllCanBeReplaced}
use Rattle.law_judged.specs.Replaced.Judged.{CallsFit, AllFewCalls, AllFewVariables, JudgedReplacedLaw}
use Rattle.law_judged.proofs.ReplacedLemmas.CallsFit.{calls_fit}
use Rattle.law_judged.proofs.ReplacedLemmas.Enough.{few_variables}
use Rattle.law_judged.proofs.ReplacedLemmas.Marks.{all_few_calls}
use Rattle.law_judged.proofs.ReplacedLemmas.ReplacedNodes.{program_replaced}

pub all_can : (nodes : List ℕ → Node) (items : List Item) → EachNode NodeScoped items → EachNode (NodeNames IsPlain) items → CallsFit nodes items → AllFewCalls nodes items → AllFewVariables nodes items → AllCanBeReplaced nodes items
all_can nodes [] s p f e v = tt
all_can nodes (TypeItem t ∷ items) s p f e v = all_can nodes items s p f e v
all_can nodes (NodeItem n ∷ items) s p f e v = (
  record { scoped = s.0; plain = p.0; fits = f.0; few_calls = e.0; few_variables = v.0 },
  all_can (with_node nodes (replaced_node nodes n)) items s.1 p.1 f.1 e.1 v.1,
)

pub judged_replaced : JudgedReplacedLaw
judged_replaced program n t d l m p e =
    program_replaced program (all_can no_node program (scoped program n d) p (calls_fit program n (typed program n t m)) (all_few_calls no_node program e) (few_variables program l))
