-- What the judgements give to the judgements behind them.
use Rattle.std.proofs.Common.{ℕ, List, [], ◌∷◌, sym, subst}
use Rattle.hp_tree.specs.declared.program.Item.{Item}
use Rattle.hp_tree.specs.declared.program.Item.TheVariants.{TypeItem, NodeItem}
use Rattle.hp_meaning.specs.Causal.Points.{NamesDeclared}
use Rattle.hp_meaning.specs.Clocking.Clocking.{NodeNamed}
use Rattle.hp_clocks.specs.Answers.{AreNamed, IsClocked}
use Rattle.hp_clocks.specs.Writing.{AreWritten}
use Rattle.law_judged.specs.Clocked.Laws.{HasClocks}
use Rattle.law_judged.proofs.ClockedLemmas.Clocked as clocked
use Rattle.hp_expand.specs.Numbering.{replaced}
use Rattle.hp_expand.specs.Refusals.{IsFormed}
use Rattle.hp_expand.proofs.FormedLaws.{formed_law}
use Rattle.law_judged.specs.Named.Scoped.{NodeScoped, EachNode}
use Rattle.law_judged.proofs.PlainLemmas.CallsOfTexts.{few_calls}
use Rattle.law_judged.proofs.PlainLemmas.Spelled.{text_replaced, merges_full, names_plain, of_text}
use Rattle.law_judged.specs.Once.Once.{DefinedOnce}
use Rattle.law_judged.proofs.OnceLemmas.Clocks.{kept}
use Rattle.law_judged.proofs.OnceLemmas.ReplacedNodes.{judged_once}
use Rattle.hp_cause.specs.Ordering.{AllJudged}
use Rattle.hp_compile.specs.Judged.{IsJudged}
use Rattle.hp_compile.specs.Arranged as arranged
use Rattle.hp_compile.proofs.OnceLaws.{node_once}

scoped_nodes : (items : List Item) → EachNode (λ n. NodeScoped n × NodeNamed n × NamesDeclared n) items → EachNode NodeScoped items
scoped_nodes [] k = tt
scoped_nodes (TypeItem t ∷ items) k = scoped_nodes items k
scoped_nodes (NodeItem n ∷ items) k = (k.0.0, scoped_nodes items k.1)

once_written : (items after : List Item) → EachNode DefinedOnce items → AreWritten IsClocked items after → EachNode DefinedOnce after
once_written [] [] o w = tt
once_written [] (y ∷ ys) o w = absurd w
once_written (TypeItem t ∷ items) [] o w = absurd w
once_written (NodeItem n ∷ items) [] o w = absurd w
once_written (TypeItem t ∷ items) (y ∷ ys) o w = subst (λ z. EachNode DefinedOnce (z ∷ ys)) (sym w.0) (once_written items ys o w.1)
once_written (NodeItem n ∷ items) (y ∷ ys) o w =
    subst (λ z. EachNode DefinedOnce (z ∷ ys)) (sym w.0.2) (kept n w.0.0 o.0, once_written items ys o.1 w.1)

judged_nodes : (items : List Item) → EachNode HasClocks items → EachNode DefinedOnce items → AllJudged items
judged_nodes [] c o = tt
judged_nodes (TypeItem t ∷ items) c o = judged_nodes items c o
judged_nodes (NodeItem n ∷ items) c o = (c.0.declared, node_once n o.0, c.0.right, judged_nodes items c.1 o.1)

scoped : (text : List ℕ) (program : List Item) → IsJudged text program → IsFormed program → EachNode NodeScoped (replaced program)
scoped text program j f =
    let p = j.program_of in
    scoped_nodes (replaced program) (text_replaced text p.tokens program p.spelled p.read j.named j.typed j.defined ((formed_law program).1 f).1)

once : (text : List ℕ) (program : List Item) → IsJudged text program → IsFormed program → EachNode DefinedOnce (replaced program)
once text program j f =
    let p = j.program_of in
    judged_once program j.named j.typed j.defined ((formed_law program).1 f).1 (merges_full text p.tokens program p.spelled p.read)
    (names_plain program (of_text text p.tokens program p.spelled p.read)) (few_calls text p.tokens program p.spelled p.read)

-- The nodes of a judged program can be given clocks, and then be ordered.
pub named : (text : List ℕ) (program : List Item) → IsJudged text program → IsFormed program → AreNamed (replaced program)
named text program j f = clocked.named (replaced program) (scoped text program j f)

pub ready : (text : List ℕ) (program after : List Item) → IsJudged text program → IsFormed program → arranged.HasClocks (replaced program) after → AllJudged after
ready text program after j f w =
    judged_nodes after (clocked.clocked (replaced program) after (scoped text program j f) w) (once_written (replaced program) after (once text program j f) w)
