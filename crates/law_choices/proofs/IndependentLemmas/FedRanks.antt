-- A fed node has ranks, where y does not depend on what is given under x.
use Rattle.std.proofs.Common.{◌≡◌, ℕ, List, []}
use Rattle.hp_tree.specs.Blocks.{Decl, Eqns}
use Rattle.hp_tree.specs.Programs.{Node}
use Rattle.hp_tree.specs.Instant.{Place}
use Rattle.hp_tree.specs.Meaning.{clock_in}
use Rattle.hp_meaning.specs.Causal.Causality.{Ranked, IsCausal, ClocksLaw, OrderLaw}
use Rattle.hp_meaning.specs.Causal.Clocked.{ClocksRight}
use Rattle.hp_meaning.specs.Causal.InputDependence.{SameReadsLaw}
use Rattle.hp_meaning.specs.Causal.Points.{NamesDeclared}
use Rattle.law_choices.specs.Independent.Dependence.{DependsOnGiven, IsGiven}
use Rattle.law_choices.proofs.IndependentLemmas.Ours.{with_body}
use Rattle.law_choices.proofs.IndependentLemmas.Fed.{Feeds, fed}
use Rattle.law_choices.proofs.IndependentLemmas.Circles.{fed_causal}
use Rattle.law_choices.proofs.IndependentLemmas.FedNodes.{fed_declared, fed_right}

pub fed_ranked : SameReadsLaw → OrderLaw → ClocksLaw → (n : Node) (ds : List Decl) (es : Eqns) (x y : List ℕ) (px : Place) → Feeds n ds es x y px → NamesDeclared (with_body n ds es) → ClocksRight (with_body n ds es)
    → IsCausal (with_body n ds es) → IsGiven (with_body n ds es) x → clock_in ds y ≡ [] → (DependsOnGiven (with_body n ds es) y x → ⊥) → Ranked (fed n ds es x y)
fed_ranked same order clocks n ds es x y px f declared right causal given base independent =
    let is_causal : IsCausal (fed n ds es x y) = fed_causal n ds es x y px f same causal (λ r. independent (px, f.placed, r.0, r.1)) in
    let clocked : ClocksRight (fed n ds es x y) = fed_right n x y ds es given f.base base f.defined right in
    order (fed n ds es x y) (fed_declared n x y ds es declared) (clocks (fed n ds es x y) is_causal clocked)
