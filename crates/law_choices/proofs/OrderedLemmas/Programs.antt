-- A ready program is ordered without its automata.
use Rattle.std.proofs.Common.{ℕ, List, [], ◌∷◌, map, sym, subst}
use Rattle.hp_tree.specs.declared.program.Item.{Item}
use Rattle.hp_tree.specs.declared.program.Item.TheVariants.{TypeItem, NodeItem}
use Rattle.hp_meaning.specs.Causal.Causality.{IsRanked}
use Rattle.hp_meaning.specs.Causal.RanksOfPoints.{AllFall, AllRanksLaw}
use Rattle.hp_meaning.specs.Clocking.Clocking.{NodeWritten}
use Rattle.hp_meaning.proofs.ClockingLemmas.Stable.{node_written}
use Rattle.law_judged.specs.Named.Scoped.{NodeScoped, EachNode}
use Rattle.hp_expand.specs.Numbering.{replaced}
use Rattle.law_values.specs.Accepted.Written.{AreClocked}
use Rattle.hp_automata.specs.Lowering.{Enumerations, enumerations, lowered_node, lowered_item}
use Rattle.law_automata.specs.Lowered.Removable.{IsRemovable}
use Rattle.law_automata.specs.Lowered.Laws.{RanksLaw}
use Rattle.law_automata.proofs.LowerableLemmas.Texts.{clocked_of}
use Rattle.law_automata.specs.Readied.Accepted.{AcceptedLaw}
use Rattle.law_automata.proofs.ReadiedLemmas.Whole.{ready_scoped}
use Rattle.law_automata.specs.Classed.Laws.{ClassesLaw}
use Rattle.law_choices.specs.Ordered.Ordered.{PointsLaw, DeclaredLaw, OrderedLaw}
use Rattle.law_choices.specs.Ordered.Written.{WrittenLaw}

module _ (points : PointsLaw) (declared : DeclaredLaw) (enums : Enumerations) where
  each_ranked : (items : List Item) → EachNode NodeScoped items → IsRemovable items → IsRanked (map (lowered_item enums) items) → (ranks : List (List ℕ)) × AllFall (map (lowered_item enums) items) ranks
  each_ranked [] s ok R = ([], tt)
  each_ranked (TypeItem t ∷ items) s ok R = each_ranked items s ok R
  each_ranked (NodeItem n ∷ items) s ok R =
      let names = declared enums n s.0 ok.0 in
      let own = points (lowered_node enums n) names R.0 in
      let rest = each_ranked items s.1 ok.1 R.1 in
      (own.0 ∷ rest.0, (names, own.1, rest.1))

-- clocks are written, as their judgement does it
each_written : (xs ys : List Item) → AreClocked xs ys → EachNode NodeWritten ys
each_written [] [] c = tt
each_written (TypeItem t ∷ xs) (y ∷ ys) c = subst (λ z. EachNode NodeWritten (z ∷ ys)) (sym c.0) (each_written xs ys c.1)
each_written (NodeItem n ∷ xs) (y ∷ ys) c = subst (λ z. EachNode NodeWritten (z ∷ ys)) (sym c.0.1.1) (node_written c.0.0 n, each_written xs ys c.1)
each_written [] (y ∷ ys) c = absurd c
each_written (TypeItem t ∷ xs) [] c = absurd c
each_written (NodeItem n ∷ xs) [] c = absurd c

each_low_written : WrittenLaw → (enums : Enumerations) (items : List Item) → EachNode NodeWritten items → EachNode NodeWritten (map (lowered_item enums) items)
each_low_written law enums [] h = tt
each_low_written law enums (TypeItem t ∷ items) h = each_low_written law enums items h
each_low_written law enums (NodeItem n ∷ items) h = (law enums n h.0, each_low_written law enums items h.1)

pub ordered_law : PointsLaw → DeclaredLaw → WrittenLaw → AllRanksLaw → RanksLaw → ClassesLaw → AcceptedLaw → OrderedLaw
ordered_law points declared written all_ranks ranked classes accepted program after ranks r ok fall full =
    let own = each_ranked points declared (enumerations [] after) after (ready_scoped program after r) ok (ranked after ok (all_ranks after ranks fall)) in
    let class = classes program after r ok in
    let clocks = each_written (replaced program) after (clocked_of (replaced program) after r.clocks) in
    record { ranks = own.0; fall = own.1; classes = class.0; accepted = accepted program after class.0 r ok full class.1; written = each_low_written written (enumerations [] after) after clocks }
