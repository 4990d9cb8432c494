-- Ranks of a graph's vertices are ranks of the points of its node.
use Rattle.std.proofs.Common.{◌≡◌, inl, inr, ℕ, suc, ◌<◌, List, [], ◌∷◌, length, map, Bool, true, false, IsTrue, ◌||◌, if◌then◌else◌, Option, Some, refl, sym, ap, subst, ◌∙◌, ⊎_elim, arith}
use Rattle.std.specs.Prelude.{⊤, All, Contains}
use Rattle.std.proofs.lemmas.List.Elements.{All-head, All-tail, All-nil, All-cons, All-contains}
use Rattle.hp_tree.specs.Programs.{Node}
use Rattle.hp_tree.specs.Instant.{Place}
use Rattle.hp_meaning.specs.declared.causal.point.Point.{Point}
use Rattle.hp_meaning.specs.Causal.Sources.{Sources, none, only, both, also, Within, IsRead, IsSource}
use Rattle.hp_meaning.specs.Causal.Causality.{sources, Reads, Chain, IsCausal}
use Rattle.hp_meaning.specs.Causal.Points.{Placed, points, places, NamesDeclared}
use Rattle.hp_meaning.specs.Causal.RanksOfPoints.{same_place, rank_among, above, rank_of, RanksFall}
use Rattle.hp_meaning.proofs.CausalLemmas.Choices.{or_cases, or_first, or_second}
use Rattle.hp_meaning.proofs.CausalLemmas.Ranking.{is_among, place_same, same_place_refl, sources_are_points}
use Rattle.hp_cause.specs.Facts.{Fact, stands, reads, depends, vertices_in, reads_in, dependences_in}
use Rattle.hp_cause.specs.Falling.{table_in, Falls, WithinReads, rank_at}
use Rattle.hp_cause.specs.Gathering.{of_node}
use Rattle.hp_cause.specs.Vertices.{Numbering, number_node}
use Rattle.hp_cause.proofs.FallLaws.{node_below}
use Rattle.hp_cause.proofs.ListedLaws.{node_listed}

-- A rank falls along an edge.
abbrev pub FallsAt : (ℕ → ℕ) → ℕ × ℕ → Type 0
FallsAt r e = r e.1 < r e.0

pub reads_fall : (r : ℕ → ℕ) (facts : List Fact) → All (FallsAt r) (reads_in facts) → Falls ⊥ r facts
reads_fall r [] h = tt
reads_fall r (stands p v ∷ facts) h = reads_fall r facts h
reads_fall r (reads v u ∷ facts) h = (All-head (FallsAt r) (v, u) (reads_in facts) h, reads_fall r facts (All-tail (FallsAt r) (v, u) (reads_in facts) h))
reads_fall r (depends v u ∷ facts) h = (λ d. absurd d, reads_fall r facts h)

pub all_fall : (r : ℕ → ℕ) (facts : List Fact) → All (FallsAt r) (dependences_in facts) → Falls ⊤ r facts
all_fall r [] h = tt
all_fall r (stands p v ∷ facts) h = all_fall r facts h
all_fall r (reads v u ∷ facts) h = (All-head (FallsAt r) (v, u) (dependences_in facts) h, all_fall r facts (All-tail (FallsAt r) (v, u) (dependences_in facts) h))
all_fall r (depends v u ∷ facts) h = (λ d. All-head (FallsAt r) (v, u) (dependences_in facts) h, all_fall r facts (All-tail (FallsAt r) (v, u) (dependences_in facts) h))

-- ---- places and their numbers

module _ (A : Numbering) where
  -- These are the numbers of these places, one for each.
  abbrev pub Numbers : List Place → List ℕ → Type 0
  Numbers [] [] = ⊤
  Numbers [] (v ∷ vs) = ⊥
  Numbers (p ∷ ps) [] = ⊥
  Numbers (p ∷ ps) (v ∷ vs) = (A p ≡ Some v) × Numbers ps vs

  pub listed_numbers : (ps : List Placed) (facts : List Fact) → table_in facts ≡ map (λ (p : Placed). (p.point, A p.place)) ps → Numbers (map (λ (p : Placed). p.place) ps) (vertices_in facts)
  listed_numbers ps (reads v u ∷ facts) h = listed_numbers ps facts h
  listed_numbers ps (depends v u ∷ facts) h = listed_numbers ps facts h
  listed_numbers [] [] h = tt
  listed_numbers [] (stands p v ∷ facts) h = absurd cc
  listed_numbers (x ∷ ps) [] h = absurd cc
  listed_numbers (x ∷ ps) (stands p v ∷ facts) h =
      let first : ◌≡◌ {A = Point × Option ℕ} (p, Some v) (x.point, A x.place) = cc in
      let rest : table_in facts ≡ map (λ (q : Placed). (q.point, A q.place)) ps = cc in
      (sym (ap (λ (t : Point × Option ℕ). t.1) first), listed_numbers ps facts rest)

  one_each : (r : ℕ → ℕ) (ps : List Place) (vs : List ℕ) → Numbers ps vs → length (map r vs) ≡ length ps
  one_each r [] [] h = refl
  one_each r [] (v ∷ vs) h = absurd h
  one_each r (p ∷ ps) [] h = absurd h
  one_each r (p ∷ ps) (v ∷ vs) h = ap suc (one_each r ps vs h.1)

  rank_found : (r : ℕ → ℕ) (ps : List Place) (vs : List ℕ) (other : ℕ) (q : Place) (v : ℕ) → Numbers ps vs → IsTrue (is_among ps q) → A q ≡ Some v → rank_among ps (map r vs) other q ≡ r v
  rank_found r [] vs other q v h m e = absurd cc
  rank_found r (p ∷ ps) [] other q v h m e = absurd h
  rank_found r (p ∷ ps) (u ∷ us) other q v h m e = by (same_place p q) refl m (λ n. rank_found r ps us other q v h.1 n e)
    where
      by : (d : Bool) → same_place p q ≡ d → IsTrue (d || is_among ps q) → (IsTrue (is_among ps q) → rank_among ps (map r us) other q ≡ r v) → (if d then r u else rank_among ps (map r us) other q) ≡ r v
      by true s n rest =
          let same : p ≡ q = place_same p q s in
          let number : Some u ≡ Some v = sym h.0 ∙ ap A same ∙ e in
          let is : u ≡ v = cc in ap r is
      by false s n rest = rest n

  numbered_one : (ps : List Place) (vs : List ℕ) (q : Place) → Numbers ps vs → IsTrue (is_among ps q) → (v : ℕ) × (A q ≡ Some v)
  numbered_one [] vs q h m = absurd cc
  numbered_one (p ∷ ps) [] q h m = absurd h
  numbered_one (p ∷ ps) (u ∷ us) q h m = or_cases (same_place p q) (is_among ps q) m (λ s. (u, sym (ap A (place_same p q s)) ∙ h.0)) (λ n. numbered_one ps us q h.1 n)

among_itself : (ps : List Place) → All (λ p. IsTrue (is_among ps p)) ps
among_itself ps = each ps (λ p m. m)
  where
    each : (qs : List Place) → ((p : Place) → IsTrue (is_among qs p) → IsTrue (is_among ps p)) → All (λ p. IsTrue (is_among ps p)) qs
    each [] h = All-nil (λ p. IsTrue (is_among ps p))
    each (q ∷ qs) h = All-cons (λ p. IsTrue (is_among ps p)) q qs (h q (or_first (same_place q q) (is_among qs q) (same_place_refl q))) (each qs (λ p m. h p (or_second (same_place q p) (is_among qs p) m)))

pub contained : (ps : List Place) (p : Place) → Contains ps p → IsTrue (is_among ps p)
contained ps p c = All-contains (λ q. IsTrue (is_among ps q)) ps p (among_itself ps) c

all_of : (Q : Place → Type 0) (ps : List Place) → ((p : Place) → IsTrue (is_among ps p) → Q p) → All Q ps
all_of Q [] h = All-nil Q
all_of Q (p ∷ ps) h = All-cons Q p ps (h p (or_first (same_place p p) (is_among ps p) (same_place_refl p))) (all_of Q ps (λ q m. h q (or_second (same_place p q) (is_among ps q) m)))

within_by : (P Q : Place → Type 0) (s : Sources) → ((q : Place) → IsSource q s → P q → Q q) → WithinReads ⊤ P s → Within Q s
within_by P Q none f h = tt
within_by P Q (only p) f h = f p refl h
within_by P Q (both s t) f h = (within_by P Q s (λ q i. f q (inl i)) h.0, within_by P Q t (λ q i. f q (inr i)) h.1)
within_by P Q (also s) f h = within_by P Q s f (h tt)

read_in : (P : Place → Type 0) (q : Place) (s : Sources) → WithinReads ⊥ P s → IsRead q s → P q
read_in P q none h r = absurd r
read_in P q (only p) h r = subst P (sym r) h
read_in P q (both s t) h r = ⊎_elim (read_in P q s h.0) (read_in P q t h.1) r
read_in P q (also s) h r = absurd r

pub read_source : (q : Place) (s : Sources) → IsRead q s → IsSource q s
read_source q none r = r
read_source q (only p) r = r
read_source q (both s t) r = ⊎_elim (λ i. inl (read_source q s i)) (λ j. inr (read_source q t j)) r
read_source q (also s) r = absurd r

-- ---- a node

module _ (n : Node) (known : NamesDeclared n) (r : ℕ → ℕ) where
  numbers : Numbers (number_node n) (places n) (vertices_in (of_node n))
  numbers = listed_numbers (number_node n) (points n) (of_node n) (node_listed n)

  -- Ranks of all dependences.
  pub ranks_fall : All (FallsAt r) (dependences_in (of_node n)) → RanksFall n (map r (vertices_in (of_node n)))
  ranks_fall falls =
      let vs = vertices_in (of_node n) in
      let ranks = map r vs in
      let rank : (q : Place) (v : ℕ) → IsTrue (is_among (places n) q) → number_node n q ≡ Some v → rank_of n ranks q ≡ r v = λ q v m e. rank_found (number_node n) r (places n) vs (above ranks) q v numbers m e in
      record {
        one_each = one_each (number_node n) r (places n) vs numbers;
        falls = all_of (λ p. Within (λ q. rank_of n ranks q < rank_of n ranks p) (sources n p)) (places n)
            (λ p m. let own = numbered_one (number_node n) (places n) vs p numbers m in
            within_by (λ q. rank_at r (number_node n q) < r own.0) (λ q. rank_of n ranks q < rank_of n ranks p) (sources n p)
            (λ q i h. let c = contained (places n) q (sources_are_points n known p q i) in
            let found = numbered_one (number_node n) (places n) vs q numbers c in
            let a : rank_of n ranks q ≡ r found.0 = rank q found.0 c found.1 in
            let b : rank_of n ranks p ≡ r own.0 = rank p own.0 m own.1 in
            let g : rank_at r (number_node n q) < r own.0 = h in
            let f : rank_at r (number_node n q) ≡ r found.0 = ap (rank_at r) found.1 in
            omega arith)
            (node_below ⊤ r n known (all_fall r (of_node n) falls) p own.0 own.1));
      }

  -- Ranks of reads: no point reads itself by any chain.
  module _ (falls : All (FallsAt r) (reads_in (of_node n))) where
    one_less : (p q : Place) (v : ℕ) → number_node n p ≡ Some v → Reads n p q → rank_at r (number_node n q) < r v
    one_less p q v e i = read_in (λ z. rank_at r (number_node n z) < r v) q (sources n p) (node_below ⊥ r n known (reads_fall r (of_node n) falls) p v e) i

    source_number : (p q : Place) → Reads n p q → (v : ℕ) × (number_node n q ≡ Some v)
    source_number p q i = numbered_one (number_node n) (places n) (vertices_in (of_node n)) q numbers (contained (places n) q (sources_are_points n known p q (read_source q (sources n p) i)))

    chain_less : (p : Place) (between : List Place) (end : Place) (v : ℕ) → number_node n p ≡ Some v → Chain n p between end → rank_at r (number_node n end) < r v
    chain_less p [] end v e c = one_less p end v e c
    chain_less p (q ∷ qs) end v e c =
        let found = source_number p q c.0 in
        let a : rank_at r (number_node n q) < r v = one_less p q v e c.0 in
        let b : rank_at r (number_node n end) < r found.0 = chain_less q qs end found.0 found.1 c.1 in
        let f : rank_at r (number_node n q) ≡ r found.0 = ap (rank_at r) found.1 in
        omega arith

    end_number : (p : Place) (between : List Place) (end : Place) → Chain n p between end → (v : ℕ) × (number_node n end ≡ Some v)
    end_number p [] end c = source_number p end c
    end_number p (q ∷ qs) end c = end_number q qs end c.1

    pub causal_by_ranks : IsCausal n
    causal_by_ranks p between c =
        let found = end_number p between p c in
        let a : rank_at r (number_node n p) < r found.0 = chain_less p between p found.0 found.1 c in
        let f : rank_at r (number_node n p) ≡ r found.0 = ap (rank_at r) found.1 in
        absurd (omega arith)
