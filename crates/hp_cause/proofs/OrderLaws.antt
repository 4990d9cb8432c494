-- What is found of a node.
use Rattle.std.proofs.Common.{◌≡◌, ℕ, ◌<◌, List, get_or, map, sym, ap, subst, ◌∙◌}
use Rattle.std.specs.Prelude.{All}
use Rattle.hp_tree.specs.Programs.{Node}
use Rattle.hp_meaning.specs.Causal.Causality.{IsCausal}
use Rattle.hp_meaning.specs.Causal.Clocked.{ClocksRight}
use Rattle.hp_meaning.specs.Causal.Points.{NamesDeclared}
use Rattle.hp_meaning.specs.Causal.RanksOfPoints.{RanksFall}
use Rattle.hp_graph.specs.Graphs.{IsCycle}
use Rattle.hp_cause.specs.Facts.{Fact, reads_in, dependences_in, vertices_in}
use Rattle.hp_cause.specs.Gathering.{of_node}
use Rattle.hp_cause.specs.Walked.{NamesDefinedOnce}
use Rattle.hp_cause.proofs.CycleLaws.{clocked_has_none}
use Rattle.hp_cause.proofs.RankLaws.{ranks_fall, causal_by_ranks}

abbrev pub by_list : List ℕ → ℕ → ℕ
by_list ranks v = get_or ranks v 0

module _ (n : Node) (facts : List Fact) (gathered : facts ≡ of_node n) where
  pub causal-ranked : (ranks : List ℕ) → NamesDeclared n → All (λ (e : ℕ × ℕ). get_or ranks e.1 0 < get_or ranks e.0 0) (reads_in facts) → IsCausal n
  causal-ranked ranks known h = causal_by_ranks n known (by_list ranks) (subst (λ fs. All (λ (e : ℕ × ℕ). get_or ranks e.1 0 < get_or ranks e.0 0) (reads_in fs)) gathered h)

  pub points-ranked : (ranks found : List ℕ) → NamesDeclared n → All (λ (e : ℕ × ℕ). get_or ranks e.1 0 < get_or ranks e.0 0) (dependences_in facts) → found ≡ map (λ v. get_or ranks v 0) (vertices_in facts) → RanksFall n found
  points-ranked ranks found known h e =
      subst (RanksFall n) (sym (e ∙ ap (λ fs. map (λ v. get_or ranks v 0) (vertices_in fs)) gathered))
      (ranks_fall n known (by_list ranks) (subst (λ fs. All (λ (d : ℕ × ℕ). get_or ranks d.1 0 < get_or ranks d.0 0) (dependences_in fs)) gathered h))

  pub no_cycle : NamesDefinedOnce n → IsCausal n → ClocksRight n → (c : List ℕ) → IsCycle (dependences_in facts) c → ⊥
  no_cycle once causal clocks c h = clocked_has_none n once causal clocks c (subst (λ fs. IsCycle (dependences_in fs) c) gathered h)

  pub cycle-there : (c : List ℕ) → IsCycle (reads_in facts) c → IsCycle (reads_in (of_node n)) c
  cycle-there c h = subst (λ fs. IsCycle (reads_in fs) c) gathered h
