-- What is written of a contract is what is to be verified: a program is arranged in one way but for its ranks, and its nodes have names that a text can say.
use Rattle.std.proofs.Common.{◌≡◌, ℕ, Bool, true, false, List, [], ◌∷◌, Some, refl, sym, ap, subst, ◌∙◌, if◌then◌else◌}
use Rattle.std.specs.Prelude.{Option}
use Rattle.std.specs.Str.{bytes_eq}
use Rattle.hp_meaning.specs.Clocking.Clocking.{node_with_clocks}
use Rattle.hp_meaning.proofs.ClockingLemmas.Judging.{one}
use Rattle.hp_clocks.specs.Answers.{IsClocked}
use Rattle.hp_clocks.specs.Writing.{AreWritten}
use Rattle.hp_compile.specs.Arranged.{IsArranged}
use Rattle.hp_expand.specs.Numbering.{replaced}
use Rattle.hp_io.specs.Files.{Files}
use Rattle.law_wellmade.specs.Lettered.Laws.{TextNamesLaw, ReplacedNamesLaw, ClockedNamesLaw}
use Rattle.law_wellmade.specs.Lettered.Names.{NodeSpelled, IsName, IsSourceName}
use Rattle.law_wellmade.proofs.LetteredLemmas.TextNames.{program_so}
use Rattle.law_judged.specs.Named.Scoped.{EachNode}
use Rattle.hp_tree.specs.Meaning.{node_among}
use Rattle.hp_tree.specs.Programs.{Node}
use Rattle.hp_tree.specs.declared.program.Item.{Item}
use Rattle.hp_tree.specs.declared.program.Item.TheVariants.{TypeItem, NodeItem}
use Rattle.hp_verdicts.specs.Decided.{verdict_of}
use Rattle.hp_verdicts.proofs.WrittenLaws.{node_written}
use Rattle.hp_driver.specs.GoodCalls.{IsVerifiable, ProvedLaw}
use Rattle.hp_driver.specs.Outcome.{IsHeld}

-- ---- one program once it is arranged

written_once : (xs ys zs : List Item) → AreWritten IsClocked xs ys → AreWritten IsClocked xs zs → ys ≡ zs
written_once [] [] [] v w = refl
written_once [] [] (z ∷ zs) v w = absurd w
written_once [] (y ∷ ys) zs v w = absurd v
written_once (TypeItem t ∷ xs) [] zs v w = absurd v
written_once (NodeItem n ∷ xs) [] zs v w = absurd v
written_once (TypeItem t ∷ xs) (y ∷ ys) [] v w = absurd w
written_once (NodeItem n ∷ xs) (y ∷ ys) [] v w = absurd w
written_once (TypeItem t ∷ xs) (y ∷ ys) (z ∷ zs) v w = ap (λ x. x ∷ ys) (v.0 ∙ sym w.0) ∙ ap (λ rest. z ∷ rest) (written_once xs ys zs v.1 w.1)
written_once (NodeItem n ∷ xs) (y ∷ ys) (z ∷ zs) v w =
    let same : v.0.0 ≡ w.0.0 = one n v.0.0 w.0.0 v.0.1.0 w.0.1.0 in
    ap (λ x. x ∷ ys) (v.0.2 ∙ ap (λ at. NodeItem (node_with_clocks at n)) same ∙ sym w.0.2) ∙ ap (λ rest. z ∷ rest) (written_once xs ys zs v.1 w.1)

arranged_once : (program clocked other : List Item) (ranks others : List (List ℕ)) → IsArranged program clocked ranks → IsArranged program other others → clocked ≡ other
arranged_once program clocked other ranks others a b = written_once (replaced program) clocked other a.clocks b.clocks

-- ---- names of nodes

same_some : (n m : Node) → Some n ≡ Some m → n ≡ m
same_some n m e = cc

name_of : (items : List Item) (f : List ℕ) (n : Node) → EachNode (NodeSpelled IsName) items → node_among items f ≡ Some n → IsName n.name
name_of [] f n each e = absurd cc
name_of (TypeItem t ∷ items) f n each e = name_of items f n each e
name_of (NodeItem m ∷ items) f n each e = by (bytes_eq m.name f) e (λ k. name_of items f n each.1 k)
  where
    by : (b : Bool) → (if b then Some m else node_among items f) ≡ Some n → (node_among items f ≡ Some n → IsName n.name) → IsName n.name
    by true k rest = subst (λ (x : Node). IsName x.name) (same_some m n k) each.0.0
    by false k rest = rest k

module _ (of_text : TextNamesLaw) (of_replaced : ReplacedNamesLaw) (of_clocked : ClockedNamesLaw) where
  all_named : (files : Option Files) (file : List ℕ) (program : List Item) (held : IsHeld files file program) → EachNode (NodeSpelled IsName) held.clocked
  all_named files file program held =
      let read = held.judged.program_of in
      let arranged = held.arranged in
      let source = of_text held.text read.tokens program read.spelled read.read in
      let named = program_so IsSourceName IsName (λ x s. s.0) program source in
      of_clocked (replaced program) held.clocked arranged.clocks (of_replaced program named)

  pub written_is_good : ProvedLaw
  written_is_good files file program held name text there proof clocked ranks arranged =
      let n = there.node in
      let named = name_of held.clocked name n (all_named files file program held) there.named in
      let verdict = verdict_of proof.certified.certificate.claim in
      let good : IsVerifiable held.clocked name text = record { there = there; verdict = verdict; shown = node_written held.clocked n text named proof } in
      let of_held = held.arranged in
      subst (λ items. IsVerifiable items name text) (arranged_once program held.clocked clocked held.ranks ranks of_held arranged) good
