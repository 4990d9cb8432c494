-- What is found at the end of a search.
use Rattle.std.proofs.Common.{◌≡◌, ℕ, zero, suc, ◌+◌, ◌-◌, ◌<◌, inl, inr, List, [], ◌∷◌, length, get_or, map, drop, replicate, All, refl, sym, ap, ◌∙◌, subst, arith, length-drop}
use Rattle.std.proofs.lemmas.List.{length-map, length-replicate, get_or-drop, get_or-map}
use Rattle.hp_graph.specs.declared.search.Mark.{Mark}
use Rattle.hp_graph.specs.declared.search.Mark.TheVariants.{New, Open, Done}
use Rattle.hp_graph.specs.Graphs.{AreWithin, IsEdge, Leads, IsNone, AreDistinct, IsCycle, AreRanks}
use Rattle.hp_graph.specs.Searching.{from_of, to_of, mark_at, rank_of, is_waiting, total, Searches, Keeps, LeadsBack, AreDone, AreLast}
use Rattle.hp_graph.proofs.SearchLaws.{below_or_same, place_of_open, begun_is_there, done_is_not_new}
use Rattle.hp_graph.proofs.Totals.{total-replicate}

-- ---- where the path is left, each vertex that has been begun has a rank

module _ (edges : List (ℕ × ℕ)) (left : List ℕ) (marks : List Mark) (done : ℕ) (s : Searches edges left marks [] done) where
  ranked_by : (v : ℕ) (m : Mark) → mark_at marks v ≡ m → (m ≡ New → ⊥) → (r : ℕ) × (mark_at marks v ≡ Done r)
  ranked_by v New e n = absurd (n refl)
  ranked_by v (Open i) e n = let none : i < 0 = (s.placed v i e).0 in absurd (omega arith)
  ranked_by v (Done r) e n = (r, e)

  pub ranked : (v : ℕ) → (mark_at marks v ≡ New → ⊥) → (r : ℕ) × (mark_at marks v ≡ Done r)
  ranked v n = ranked_by v (mark_at marks v) refl n

  pub done_more : (old : List Mark) (v : ℕ) → Keeps old marks → (mark_at marks v ≡ New → ⊥) → AreDone old v → AreDone marks (v + 1)
  done_more old v keeps begun before u h =
      elim (below_or_same u v (omega arith)) [
        | inl less ↦ let was = before u less in ranked u (keeps u (λ n. done_is_not_new was.0 (sym was.1 ∙ n)))
        | inr same ↦ ranked u (λ n. begun (ap (λ w. mark_at marks w) (sym same) ∙ n))
      ]

pub done_more_at : (edges : List (ℕ × ℕ)) (left : List ℕ) (marks : List Mark) (path : List ℕ) (done : ℕ) → Searches edges left marks path done → path ≡ [] → (old : List Mark) (v : ℕ) → Keeps old marks → (mark_at marks v ≡ New → ⊥) → AreDone old v → AreDone marks (v + 1)
done_more_at edges left marks path done s e = done_more edges left marks done (subst (λ p. Searches edges left marks p done) e s)

-- ---- ranks

module _ (edges : List (ℕ × ℕ)) (left : List ℕ) (marks : List Mark) (done : ℕ) (s : Searches edges left marks [] done) (all : AreDone marks (length marks)) where
  rank_there : (v r : ℕ) → v < length marks → mark_at marks v ≡ Done r → get_or (map rank_of marks) v 0 ≡ r
  rank_there v r h e = get_or-map rank_of marks v New 0 h ∙ ap rank_of e

  rank_below : (k d : ℕ) → k < length (map rank_of marks) → get_or (map rank_of marks) k d < length marks
  rank_below k d h =
      let many : length (map rank_of marks) ≡ length marks = length-map marks rank_of in
      let there : k < length marks = omega arith in
      let known = all k there in
      let at : get_or (map rank_of marks) k d ≡ known.0 = get_or-map rank_of marks k New d there ∙ ap rank_of known.1 in
      let less : known.0 < done = s.below k known.0 known.1 in
      let counted : done + total is_waiting marks ≡ length marks = s.counted in
      omega arith

  falls_at : (k : ℕ) → k < length edges → get_or (map rank_of marks) (to_of edges k) 0 < get_or (map rank_of marks) (from_of edges k) 0
  falls_at k h =
      let ends = s.ends k h in
      let from = all (from_of edges k) ends.0 in
      let to = s.falls k from.0 h from.1 in
      let here : get_or (map rank_of marks) (from_of edges k) 0 ≡ from.0 = rank_there (from_of edges k) from.0 ends.0 from.1 in
      let there : get_or (map rank_of marks) (to_of edges k) 0 ≡ to.0 = rank_there (to_of edges k) to.0 ends.1 to.1.0 in
      let less : to.0 < from.0 = to.1.1 in
      omega arith

  pub are_ranks : AreRanks (length marks) edges (map rank_of marks)
  are_ranks = record {
    one_each = length-map marks rank_of;
    below = rank_below;
    falls = λ k d h. subst (λ e. get_or (map rank_of marks) e.1 0 < get_or (map rank_of marks) e.0 0) (same_there edges k (0, 0) d h) (falls_at k h);
  }
    where
      same_there : (es : List (ℕ × ℕ)) (k : ℕ) (d e : ℕ × ℕ) → k < length es → get_or es k d ≡ get_or es k e
      same_there [] k d e h = absurd (omega (arith, h))
      same_there (x ∷ xs) zero d e h = refl
      same_there (x ∷ xs) (suc k) d e h = same_there xs k d e (omega (arith, h))

-- ---- a cycle

module _ (edges : List (ℕ × ℕ)) where
  pub leads_on : (a : ℕ) (bs : List ℕ) (end : ℕ) → ((i : ℕ) → suc i < length (a ∷ bs) → IsEdge edges (get_or (a ∷ bs) i 0) (get_or (a ∷ bs) (suc i) 0)) → IsEdge edges (get_or (a ∷ bs) (length bs) 0) end → Leads edges a bs end
  leads_on a [] end linked last = last
  leads_on a (b ∷ bs) end linked last = (linked 0 (omega arith), leads_on b bs end (λ i h. linked (suc i) (omega (arith, h))) last)

pub none_of : (bs : List ℕ) (a : ℕ) → ((i : ℕ) → i < length bs → get_or bs i 0 ≡ a → ⊥) → IsNone bs a
none_of [] a h = tt
none_of (b ∷ bs) a h = (h 0 (omega arith), none_of bs a (λ i l. h (suc i) (omega (arith, l))))

pub distinct_of : (bs : List ℕ) → ((i j : ℕ) → i < length bs → j < length bs → get_or bs i 0 ≡ get_or bs j 0 → i ≡ j) → AreDistinct bs
distinct_of [] h = tt
distinct_of (b ∷ bs) h = (
  none_of bs b (λ i l e. let same : suc i ≡ 0 = h (suc i) 0 (omega (arith, l)) (omega arith) e in omega arith),
  distinct_of bs (λ i j l m e. let same : suc i ≡ suc j = h (suc i) (suc j) (omega (arith, l)) (omega (arith, m)) e in omega arith),
)

cycle_of : (edges : List (ℕ × ℕ)) (bs : List ℕ) → (0 < length bs) → ((i : ℕ) → suc i < length bs → IsEdge edges (get_or bs i 0) (get_or bs (suc i) 0)) → IsEdge edges (get_or bs (length bs - 1) 0) (get_or bs 0 0) → AreDistinct bs → IsCycle edges bs
cycle_of edges [] h linked last distinct = absurd (omega arith)
cycle_of edges (a ∷ bs) h linked last distinct =
    let same : suc (length bs) - 1 ≡ length bs = omega arith in
    (leads_on edges a bs a linked (subst (λ n. IsEdge edges (get_or (a ∷ bs) n 0) a) same last), distinct)

module _ (edges : List (ℕ × ℕ)) (left : List ℕ) (marks : List Mark) (path : List ℕ) (done place : ℕ) (s : Searches edges left marks path done) (back : LeadsBack edges path place) where
  path_there : (k d : ℕ) → k < length (drop place path) → get_or (drop place path) k d < length marks
  path_there k d h =
      let many : length (drop place path) ≡ length path - place = length-drop place path in
      let there : place + k < length path = omega arith in
      let mark : mark_at marks (get_or path (place + k) 0) ≡ Open (place + k) = s.opened (place + k) there in
      let less : get_or path (place + k) 0 < length marks = begun_is_there marks (get_or path (place + k) 0) (λ e. open_new (place + k) (sym mark ∙ e)) in
      let at : get_or (drop place path) k d ≡ get_or path (place + k) d = get_or-drop place path k d in
      let same : get_or path (place + k) d ≡ get_or path (place + k) 0 = default_there path (place + k) d 0 there in
      omega arith
    where
      open_new : (i : ℕ) → Open i ≡ New → ⊥
      open_new i e = absurd cc

      default_there : (xs : List ℕ) (i d e : ℕ) → i < length xs → get_or xs i d ≡ get_or xs i e
      default_there [] i d e h = absurd (omega (arith, h))
      default_there (x ∷ xs) zero d e h = refl
      default_there (x ∷ xs) (suc i) d e h = default_there xs i d e (omega (arith, h))

  linked_here : (i : ℕ) → suc i < length (drop place path) → IsEdge edges (get_or (drop place path) i 0) (get_or (drop place path) (suc i) 0)
  linked_here i h =
      let many : length (drop place path) ≡ length path - place = length-drop place path in
      let next : place + suc i ≡ suc (place + i) = omega arith in
      subst (λ x. IsEdge edges x (get_or (drop place path) (suc i) 0)) (sym (get_or-drop place path i 0))
      (subst (λ x. IsEdge edges (get_or path (place + i) 0) x) (sym (get_or-drop place path (suc i) 0 ∙ ap (λ j. get_or path j 0) next)) (s.linked (place + i) (omega arith)))

  back_here : IsEdge edges (get_or (drop place path) (length (drop place path) - 1) 0) (get_or (drop place path) 0 0)
  back_here =
      let there : place < length path = back.there in
      let many : length (drop place path) ≡ length path - place = length-drop place path in
      let last : place + (length (drop place path) - 1) ≡ length path - 1 = omega arith in
      let none : place + 0 ≡ place = omega arith in
      subst (λ x. IsEdge edges x (get_or (drop place path) 0 0)) (sym (get_or-drop place path (length (drop place path) - 1) 0 ∙ ap (λ j. get_or path j 0) last))
      (subst (λ x. IsEdge edges (get_or path (length path - 1) 0) x) (sym (get_or-drop place path 0 0 ∙ ap (λ j. get_or path j 0) none))
      (back.back (get_or path (length path - 1) 0) (record { before = length path - 1; many = omega arith; last = refl })))

  distinct_here : (i j : ℕ) → i < length (drop place path) → j < length (drop place path) → get_or (drop place path) i 0 ≡ get_or (drop place path) j 0 → i ≡ j
  distinct_here i j h k e =
      let many : length (drop place path) ≡ length path - place = length-drop place path in
      let first : mark_at marks (get_or path (place + i) 0) ≡ Open (place + i) = s.opened (place + i) (omega arith) in
      let second : mark_at marks (get_or path (place + j) 0) ≡ Open (place + j) = s.opened (place + j) (omega arith) in
      let same : get_or path (place + i) 0 ≡ get_or path (place + j) 0 = sym (get_or-drop place path i 0) ∙ (e ∙ get_or-drop place path j 0) in
      let places : place + i ≡ place + j = place_of_open (place + i) (place + j) (sym first ∙ (ap (λ v. mark_at marks v) same ∙ second)) in
      omega arith

  pub is_cycle : IsCycle edges (drop place path) × All (λ v. v < length marks) (drop place path)
  is_cycle =
      let there : place < length path = back.there in
      let many : length (drop place path) ≡ length path - place = length-drop place path in
      (cycle_of edges (drop place path) (omega arith) linked_here back_here (distinct_of (drop place path) distinct_here), path_there)

-- ---- the beginning

pub begins : (edges : List (ℕ × ℕ)) (left : List ℕ) (count : ℕ) → AreWithin count edges → length left ≡ count → AreLast edges (length edges) left → Searches edges left (replicate count New) [] 0
begins edges left count within many last =
    record {
      ends = λ k h. let both = within k (0, 0) h in let same : length (replicate count New) ≡ count = length-replicate count New in (subst (λ n. from_of edges k < n) (sym same) both.0, subst (λ n. to_of edges k < n) (sym same) both.1);
      lefts = many ∙ sym (length-replicate count New);
      mine = λ v k e. (last v).mine k e;
      seen = λ k h l. absurd ((last (from_of edges k)).none k l h refl);
      falls = λ k r h e. absurd (not_done (from_of edges k) r e);
      below = λ v r e. absurd (not_done v r e);
      opened = λ i h. absurd (omega arith);
      placed = λ v i e. absurd (not_open v i e);
      linked = λ i h. absurd (omega arith);
      counted = let sum : total is_waiting (replicate count New) ≡ count = total-replicate is_waiting count New refl in let same : length (replicate count New) ≡ count = length-replicate count New in omega arith;
    }
  where
    all_new : (n v : ℕ) → mark_at (replicate n New) v ≡ New
    all_new zero v = refl
    all_new (suc n) zero = refl
    all_new (suc n) (suc v) = all_new n v

    not_done : (v r : ℕ) → mark_at (replicate count New) v ≡ Done r → ⊥
    not_done v r e = absurd (cc (all_new count v))

    not_open : (v i : ℕ) → mark_at (replicate count New) v ≡ Open i → ⊥
    not_open v i e = absurd (cc (all_new count v))
