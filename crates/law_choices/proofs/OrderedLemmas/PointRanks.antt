-- Ranks of all places of a node, as one list of the ranks of its points.
use Rattle.std.proofs.Common.{◌≡◌, ℕ, ◌<◌, Bool, true, false, if◌then◌else◌, List, [], ◌∷◌, map, inl, inr, refl, sym, ap, subst}
use Rattle.std.specs.Prelude.{Contains}
use Rattle.std.specs.List.{AllByRecursion}
use Rattle.std.proofs.lemmas.List.{length-map}
use Rattle.std.proofs.lemmas.List.Elements.{All-contains, All-contains_itself, All-from_recursion, All-weaker}
use Rattle.hp_tree.specs.Programs.{Node}
use Rattle.hp_tree.specs.Instant.{Place}
use Rattle.hp_meaning.specs.Causal.Sources.{Sources, none, only, both, also, Within, IsSource}
use Rattle.hp_meaning.specs.Causal.Causality.{sources, Ranked}
use Rattle.hp_meaning.specs.Causal.Points.{places, NamesDeclared}
use Rattle.hp_meaning.specs.Causal.RanksOfPoints.{same_place, rank_among, above, rank_of, RanksFall, PointsLaw as AllArePoints}
use Rattle.hp_meaning.proofs.CausalLemmas.Ranking.{place_same, same_place_refl, source_in}
use Rattle.law_choices.specs.Ordered.Ordered.{PointsLaw}

-- ---- the list has the rank of each of its places

module _ (rank : Place → ℕ) (other : ℕ) where
  one_more : (q : Place) (qs rest : List Place) → AllByRecursion (λ p. rank_among qs (map rank qs) other p ≡ rank p) rest → AllByRecursion (λ p. rank_among (q ∷ qs) (map rank (q ∷ qs)) other p ≡ rank p) rest
  one_more q qs [] h = tt
  one_more q qs (p ∷ rest) h = (by (same_place q p) refl, one_more q qs rest h.1)
    where
      by : (t : Bool) → same_place q p ≡ t → (if t then rank q else rank_among qs (map rank qs) other p) ≡ rank p
      by true e = ap rank (place_same q p e)
      by false e = h.0

  each_rank : (qs : List Place) → AllByRecursion (λ p. rank_among qs (map rank qs) other p ≡ rank p) qs
  each_rank [] = tt
  each_rank (q ∷ qs) = (ap (λ t. if t then rank q else rank_among qs (map rank qs) other q) (same_place_refl q), one_more q qs qs (each_rank qs))

within_by : (P : Place → Type 0) (s : Sources) → ((q : Place) → IsSource q s → P q) → Within P s
within_by P none f = tt
within_by P (only q) f = f q refl
within_by P (both s t) f = (within_by P s (λ q h. f q (inl h)), within_by P t (λ q h. f q (inr h)))
within_by P (also s) f = within_by P s f

-- ---- a node

module _ (points : AllArePoints) (n : Node) (declared : NamesDeclared n) (R : Ranked n) where
  abbrev ranks : List ℕ
  ranks = map R.rank (places n)

  -- the list gives a point its rank
  point_rank : (p : Place) → Contains (places n) p → rank_of n ranks p ≡ R.rank p
  point_rank p at =
      All-contains (λ q. rank_of n ranks q ≡ R.rank q) (places n) p (All-from_recursion (λ q. rank_of n ranks q ≡ R.rank q) (places n) (each_rank R.rank (above ranks) (places n))) at

  falls : (p : Place) → Contains (places n) p → Within (λ q. rank_of n ranks q < rank_of n ranks p) (sources n p)
  falls p at =
      within_by (λ q. rank_of n ranks q < rank_of n ranks p) (sources n p)
      (λ q h.
      subst (λ k. k < rank_of n ranks p) (sym (point_rank q (points n declared p q h)))
      (subst (λ k. R.rank q < k) (sym (point_rank p at)) (source_in (λ r. R.rank r < R.rank p) q (sources n p) (R.falls p) h)))

  pub ranks_fall : RanksFall n ranks
  ranks_fall = record {
    one_each = length-map (places n) R.rank;
    falls = All-weaker (Contains (places n)) (λ p. Within (λ q. rank_of n ranks q < rank_of n ranks p) (sources n p)) falls (places n) (All-contains_itself (places n));
  }

pub points_law : AllArePoints → PointsLaw
points_law points n declared R = (map R.rank (places n), ranks_fall points n declared R)
