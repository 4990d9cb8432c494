-- The edges of facts, one after the other.
use Rattle.std.proofs.Common.{◌≡◌, ℕ, ◌+◌, ◌<◌, ◌≤◌, get_or, length, drop, map, List, [], ◌∷◌, ◌++◌, refl, sym, ap, subst, ◌∙◌, arith}
use Rattle.std.proofs.lemmas.List.{get_or_default}
use Rattle.hp_cause.specs.declared.fact.Fact as held
use Rattle.hp_cause.specs.Edges.{read_edge, dependence_edge, vertex_of}
use Rattle.hp_cause.specs.Facts.{Fact, stands, reads, depends, reads_in, dependences_in, vertices_in}
use Rattle.hp_cause.specs.Told.{fact_seen, facts_seen, with_more}
use Rattle.hp_cause.proofs.GrowLaws.{drop-next, drop-end, more-append}

read_first : (f : Fact) (fs : List Fact) → reads_in (f ∷ fs) ≡ read_edge f ++ reads_in fs
read_first (stands p v) fs = refl
read_first (reads v u) fs = refl
read_first (depends v u) fs = refl

dependence_first : (f : Fact) (fs : List Fact) → dependences_in (f ∷ fs) ≡ dependence_edge f ++ dependences_in fs
dependence_first (stands p v) fs = refl
dependence_first (reads v u) fs = refl
dependence_first (depends v u) fs = refl

vertex_first : (f : Fact) (fs : List Fact) → vertices_in (f ∷ fs) ≡ vertex_of f ++ vertices_in fs
vertex_first (stands p v) fs = refl
vertex_first (reads v u) fs = refl
vertex_first (depends v u) fs = refl

module _ (fs : List held.Fact) (i : ℕ) (f : held.Fact) (h : i < length fs) (p : f ≡ get_or fs i f) where
  pub next-read : (before : List (ℕ × ℕ)) → with_more before (reads_in (facts_seen (drop i fs))) ≡ with_more (with_more before (read_edge (fact_seen f))) (reads_in (facts_seen (drop (i + 1) fs)))
  next-read before =
      ap (λ more. with_more before (reads_in (facts_seen more))) (drop-next fs i f h p) ∙ ap (with_more before) (read_first (fact_seen f) (facts_seen (drop (i + 1) fs))) ∙ more-append before (read_edge (fact_seen f)) (reads_in (facts_seen (drop (i + 1) fs)))

  pub next-dependence : (before : List (ℕ × ℕ)) → with_more before (dependences_in (facts_seen (drop i fs))) ≡ with_more (with_more before (dependence_edge (fact_seen f))) (dependences_in (facts_seen (drop (i + 1) fs)))
  next-dependence before =
      ap (λ more. with_more before (dependences_in (facts_seen more))) (drop-next fs i f h p) ∙ ap (with_more before) (dependence_first (fact_seen f) (facts_seen (drop (i + 1) fs)))
      ∙ more-append before (dependence_edge (fact_seen f)) (dependences_in (facts_seen (drop (i + 1) fs)))

  pub next-point : (before : List ℕ) → with_more before (vertices_in (facts_seen (drop i fs))) ≡ with_more (with_more before (vertex_of (fact_seen f))) (vertices_in (facts_seen (drop (i + 1) fs)))
  next-point before =
      ap (λ more. with_more before (vertices_in (facts_seen more))) (drop-next fs i f h p) ∙ ap (with_more before) (vertex_first (fact_seen f) (facts_seen (drop (i + 1) fs))) ∙ more-append before (vertex_of (fact_seen f)) (vertices_in (facts_seen (drop (i + 1) fs)))

pub next-rank : (before : List ℕ) (r : ℕ → ℕ) (vs : List ℕ) (i v : ℕ) → i < length vs → v ≡ get_or vs i v → with_more before (map r (drop i vs)) ≡ with_more (with_more before (r v ∷ [])) (map r (drop (i + 1) vs))
next-rank before r vs i v h p = ap (λ more. with_more before (map r more)) (drop-next vs i v h p) ∙ more-append before (r v ∷ []) (map r (drop (i + 1) vs))

-- ---- one step of a loop over facts

module _ (d : held.Fact) (fs : List held.Fact) (i : ℕ) (h : i < length fs) where
  pub read-step : (before made : List (ℕ × ℕ)) → made ≡ with_more before (read_edge (fact_seen (get_or fs i d))) → with_more made (reads_in (facts_seen (drop (i + 1) fs))) ≡ with_more before (reads_in (facts_seen (drop i fs)))
  read-step before made e = ap (λ m. with_more m (reads_in (facts_seen (drop (i + 1) fs)))) e ∙ sym (next-read fs i (get_or fs i d) h (get_or_default fs i d (get_or fs i d) h) before)

  pub dependence-step : (before made : List (ℕ × ℕ)) → made ≡ with_more before (dependence_edge (fact_seen (get_or fs i d))) → with_more made (dependences_in (facts_seen (drop (i + 1) fs))) ≡ with_more before (dependences_in (facts_seen (drop i fs)))
  dependence-step before made e = ap (λ m. with_more m (dependences_in (facts_seen (drop (i + 1) fs)))) e ∙ sym (next-dependence fs i (get_or fs i d) h (get_or_default fs i d (get_or fs i d) h) before)

  pub point-step : (before made : List ℕ) → made ≡ with_more before (vertex_of (fact_seen (get_or fs i d))) → with_more made (vertices_in (facts_seen (drop (i + 1) fs))) ≡ with_more before (vertices_in (facts_seen (drop i fs)))
  point-step before made e = ap (λ m. with_more m (vertices_in (facts_seen (drop (i + 1) fs)))) e ∙ sym (next-point fs i (get_or fs i d) h (get_or_default fs i d (get_or fs i d) h) before)
