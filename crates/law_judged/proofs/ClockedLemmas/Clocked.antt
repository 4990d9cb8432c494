-- Node by node.
use Rattle.std.proofs.Common.{List, [], ◌∷◌, sym, subst}
use Rattle.hp_tree.specs.declared.program.Item.{Item}
use Rattle.hp_tree.specs.declared.program.Item.TheVariants.{TypeItem, NodeItem}
use Rattle.hp_tree.specs.Programs.{Node}
use Rattle.hp_meaning.specs.Clocking.Clocking.{Assignment, node_with_clocks}
use Rattle.hp_meaning.proofs.ClockingLemmas.Judging.{writes}
use Rattle.hp_meaning.proofs.ClockingLemmas.Stable.{node_written}
use Rattle.law_judged.specs.Named.Scoped.{NodeScoped, EachNode}
use Rattle.law_judged.proofs.NamedLemmas.Declared.{node_names}
use Rattle.law_judged.proofs.NamedLemmas.Clocks.{node_kept}
use Rattle.hp_clocks.specs.Writing.{AreWritten}
use Rattle.hp_clocks.specs.Answers.{IsClocked}
use Rattle.law_judged.specs.Clocked.Laws.{HasClocks, NamedLaw, ClockedLaw}

pub named : NamedLaw
named [] s = tt
named (TypeItem t ∷ items) s = named items s
named (NodeItem n ∷ items) s = ((node_names n s.0).0, named items s.1)

node_clocked : (n : Node) (at : Assignment) → NodeScoped n → IsClocked n at → HasClocks (node_with_clocks at n)
node_clocked n at s c =
    let right = (node_names n s).0 in
    let kept = node_kept at n s in
    let names = node_names (node_with_clocks at n) kept in
    record {
      scoped = kept;
      named = names.0;
      declared = names.1;
      right = writes n at right c.0.0;
      written = node_written at n;
      short = c.1 right;
    }

pub clocked : ClockedLaw
clocked [] [] s w = tt
clocked [] (y ∷ ys) s w = absurd w
clocked (x ∷ xs) [] s w = absurd (none x xs w)
  where
    none : (x : Item) (xs : List Item) → AreWritten IsClocked (x ∷ xs) [] → ⊥
    none x xs w = w
clocked (TypeItem t ∷ xs) (y ∷ ys) s w = subst (λ z. EachNode HasClocks (z ∷ ys)) (sym w.0) (clocked xs ys s w.1)
clocked (NodeItem n ∷ xs) (y ∷ ys) s w =
    subst (λ z. EachNode HasClocks (z ∷ ys)) (sym w.0.2) (node_clocked n w.0.0 s.0 w.0.1, clocked xs ys s.1 w.1)
