-- What holds while a graph is searched goes on to hold.
use Rattle.std.proofs.Common.{◌≡◌, ℕ, zero, suc, ◌+◌, ◌<◌, ◌≤◌, ◌⊎◌, inl, inr, List, [], ◌∷◌, ◌++◌, length, get_or, set, refl, sym, ap, ◌∙◌, subst, arith}
use Rattle.std.proofs.Math.ListN.{length-set, length-append}
use Rattle.std.proofs.lemmas.List.{get_or-set_same, get_or-set_other, get_or_append_left, get_or_push}
use Rattle.hp_graph.specs.declared.search.Mark.{Mark}
use Rattle.hp_graph.specs.declared.search.Mark.TheVariants.{New, Open, Done}
use Rattle.hp_graph.specs.Graphs.{IsEdge}
use Rattle.hp_graph.specs.Searching.{from_of, to_of, mark_at, is_waiting, is_ahead, total, itself, size, Searches, Keeps, Goes, IsLast, AreLinked}
use Rattle.hp_graph.proofs.Totals.{total-set}

-- ---- numbers

pub same_or_not : (i j : ℕ) → (i ≡ j) ⊎ (i ≡ j → ⊥)
same_or_not zero zero = inl refl
same_or_not zero (suc j) = inr (λ e. absurd cc)
same_or_not (suc i) zero = inr (λ e. absurd cc)
same_or_not (suc i) (suc j) = elim (same_or_not i j) [ inl e ↦ inl (ap suc e) | inr n ↦ inr (λ e. n (omega arith)) ]

pub below_or_same : (i n : ℕ) → i < suc n → (i < n) ⊎ (i ≡ n)
below_or_same i n h = elim (same_or_not i n) [ inl e ↦ inr e | inr d ↦ inl (omega arith) ]

-- ---- the mark that is written, and the others

pub begun_is_there : (marks : List Mark) (v : ℕ) → (mark_at marks v ≡ New → ⊥) → v < length marks
begun_is_there [] v h = absurd (h refl)
begun_is_there (m ∷ ms) zero h = omega arith
begun_is_there (m ∷ ms) (suc v) h = let k : v < length ms = begun_is_there ms v h in omega arith

module _ (marks : List Mark) (v : ℕ) (m : Mark) where
  pub new_mark : v < length marks → mark_at (set marks v m) v ≡ m
  new_mark h = get_or-set_same marks v m New h

  pub old_mark : (u : ℕ) → (u ≡ v → ⊥) → mark_at (set marks v m) u ≡ mark_at marks u
  old_mark u d = get_or-set_other marks v u m New d

  -- a vertex with another mark than the one that is written over keeps it
  pub stays : (u : ℕ) (x y : Mark) → mark_at marks u ≡ x → mark_at marks v ≡ y → (x ≡ y → ⊥) → mark_at (set marks v m) u ≡ x
  stays u x y e f d =
      elim (same_or_not u v) [
        | inl s ↦ absurd (d (sym e ∙ (ap (λ w. mark_at marks w) s ∙ f)))
        | inr s ↦ old_mark u s ∙ e
      ]

  -- a vertex whose mark is not the one that is written had it before
  pub was : (u : ℕ) (x : Mark) → v < length marks → mark_at (set marks v m) u ≡ x → (m ≡ x → ⊥) → mark_at marks u ≡ x
  was u x h e d =
      elim (same_or_not u v) [
        | inl s ↦ absurd (d (sym (new_mark h) ∙ (ap (λ w. mark_at (set marks v m) w) (sym s) ∙ e)))
        | inr s ↦ sym (old_mark u s) ∙ e
      ]

  pub begun_stays : v < length marks → (m ≡ New → ⊥) → Keeps marks (set marks v m)
  begun_stays h d u n e =
      elim (same_or_not u v) [
        | inl s ↦ d (sym (new_mark h) ∙ (ap (λ w. mark_at (set marks v m) w) (sym s) ∙ e))
        | inr s ↦ n (sym (old_mark u s) ∙ e)
      ]

pub done_is_not_new : (r : ℕ) → Done r ≡ New → ⊥
done_is_not_new r e = absurd cc

pub done_is_not_open : (r i : ℕ) → Done r ≡ Open i → ⊥
done_is_not_open r i e = absurd cc

pub open_is_not_done : (r i : ℕ) → Open i ≡ Done r → ⊥
open_is_not_done r i e = absurd cc

pub open_is_not_new : (i : ℕ) → Open i ≡ New → ⊥
open_is_not_new i e = absurd cc

pub new_is_not_open : (i : ℕ) → New ≡ Open i → ⊥
new_is_not_open i e = absurd cc

pub place_of_open : (i j : ℕ) → Open i ≡ Open j → i ≡ j
place_of_open i j e = cc

pub rank_of_done : (r s : ℕ) → Done r ≡ Done s → r ≡ s
rank_of_done r s e = cc

-- ---- a new vertex at the end of the path

module _ (edges : List (ℕ × ℕ)) (left : List ℕ) (marks : List Mark) (path : List ℕ) (done v : ℕ) (s : Searches edges left marks path done) (there : v < length marks) (new : mark_at marks v ≡ New) where
  entered_seen : (k : ℕ) → k < length edges → get_or left (from_of edges k) 0 ≤ k → (r : ℕ) × (mark_at (set marks v (Open (length path))) (to_of edges k) ≡ Done r)
  entered_seen k h l =
      let old = s.seen k h l in
      (old.0, stays marks v (Open (length path)) (to_of edges k) (Done old.0) New old.1 new (done_is_not_new old.0))

  entered_falls : (k r : ℕ) → k < length edges → mark_at (set marks v (Open (length path))) (from_of edges k) ≡ Done r → (t : ℕ) × ((mark_at (set marks v (Open (length path))) (to_of edges k) ≡ Done t) × (t < r))
  entered_falls k r h e =
      let old = s.falls k r h (was marks v (Open (length path)) (from_of edges k) (Done r) there e (open_is_not_done r (length path))) in
      (old.0, (stays marks v (Open (length path)) (to_of edges k) (Done old.0) New old.1.0 new (done_is_not_new old.0), old.1.1))

  entered_opened : (i : ℕ) → i < length (path ++ v ∷ []) → mark_at (set marks v (Open (length path))) (get_or (path ++ v ∷ []) i 0) ≡ Open i
  entered_opened i h =
      elim (below_or_same i (length path) (subst (λ n. i < n) (length-append path (v ∷ []) ∙ omega arith) h)) [
        | inl l ↦ subst (λ x. mark_at (set marks v (Open (length path))) x ≡ Open i) (sym (get_or_append_left path (v ∷ []) 0 i l))
            (stays marks v (Open (length path)) (get_or path i 0) (Open i) New (s.opened i l) new (open_is_not_new i))
        | inr e ↦ subst (λ x. mark_at (set marks v (Open (length path))) x ≡ Open i) (sym (get_or_push path v 0 i (sym e)))
            (new_mark marks v (Open (length path)) there ∙ ap Open (sym e))
      ]

  entered_placed : (u i : ℕ) → mark_at (set marks v (Open (length path))) u ≡ Open i → (i < length (path ++ v ∷ [])) × (get_or (path ++ v ∷ []) i 0 ≡ u)
  entered_placed u i e =
      let longer : length (path ++ v ∷ []) ≡ length path + 1 = length-append path (v ∷ []) in
      elim (same_or_not u v) [
        | inl d ↦ let at : length path ≡ i = place_of_open (length path) i (sym (new_mark marks v (Open (length path)) there) ∙ (ap (λ w. mark_at (set marks v (Open (length path))) w) (sym d) ∙ e)) in
            (omega arith, get_or_push path v 0 i at ∙ sym d)
        | inr d ↦ let old = s.placed u i (sym (old_mark marks v (Open (length path)) u d) ∙ e) in
            let h : i < length path = old.0 in
            (omega arith, get_or_append_left path (v ∷ []) 0 i h ∙ old.1)
      ]

  entered_linked : ((i : ℕ) → suc i ≡ length path → IsEdge edges (get_or path i 0) v) → (i : ℕ) → suc i < length (path ++ v ∷ []) → IsEdge edges (get_or (path ++ v ∷ []) i 0) (get_or (path ++ v ∷ []) (suc i) 0)
  entered_linked edge i h =
      let longer : length (path ++ v ∷ []) ≡ length path + 1 = length-append path (v ∷ []) in
      elim (below_or_same (suc i) (length path) (omega arith)) [
        | inl l ↦ subst (λ x. IsEdge edges x (get_or (path ++ v ∷ []) (suc i) 0)) (sym (get_or_append_left path (v ∷ []) 0 i (omega arith)))
            (subst (λ x. IsEdge edges (get_or path i 0) x) (sym (get_or_append_left path (v ∷ []) 0 (suc i) l)) (s.linked i l))
        | inr e ↦ subst (λ x. IsEdge edges x (get_or (path ++ v ∷ []) (suc i) 0)) (sym (get_or_append_left path (v ∷ []) 0 i (omega arith)))
            (subst (λ x. IsEdge edges (get_or path i 0) x) (sym (get_or_push path v 0 (suc i) (sym e))) (edge i e))
      ]

  pub entered : ((i : ℕ) → suc i ≡ length path → IsEdge edges (get_or path i 0) v) → Searches edges left (set marks v (Open (length path))) (path ++ v ∷ []) done
  entered edge =
      let many : length (set marks v (Open (length path))) ≡ length marks = length-set marks v (Open (length path)) in
      let sums : total is_waiting (set marks v (Open (length path))) + is_waiting (mark_at marks v) ≡ total is_waiting marks + 1 = total-set is_waiting marks v (Open (length path)) New there in
      let one : is_waiting (mark_at marks v) ≡ 1 = ap is_waiting new in
      let known : done + total is_waiting marks ≡ length marks = s.counted in
      record {
        ends = λ k h. subst (λ n. (from_of edges k < n) × (to_of edges k < n)) (sym many) (s.ends k h);
        lefts = s.lefts ∙ sym many;
        mine = s.mine;
        seen = entered_seen;
        falls = entered_falls;
        below = λ u r e. s.below u r (was marks v (Open (length path)) u (Done r) there e (open_is_not_done r (length path)));
        opened = entered_opened;
        placed = entered_placed;
        linked = entered_linked edge;
        counted = omega arith;
      }

  pub entered_smaller : size left (set marks v (Open (length path))) < size left marks
  entered_smaller =
      let sums : total is_ahead (set marks v (Open (length path))) + is_ahead (mark_at marks v) ≡ total is_ahead marks + 1 = total-set is_ahead marks v (Open (length path)) New there in
      let two : is_ahead (mark_at marks v) ≡ 2 = ap is_ahead new in
      omega arith

  pub entered_goes : ((i : ℕ) → suc i ≡ length path → IsEdge edges (get_or path i 0) v) → Goes edges left marks left (set marks v (Open (length path))) (path ++ v ∷ []) done
  entered_goes edge = record {
    searches = entered edge;
    many = length-set marks v (Open (length path));
    smaller = entered_smaller;
    keeps = begun_stays marks v (Open (length path)) there (open_is_not_new (length path));
  }

-- ---- the vertex at the end of the path, none of whose edges is left

module _ (edges : List (ℕ × ℕ)) (left : List ℕ) (marks : List Mark) (rest : List ℕ) (done v : ℕ) (s : Searches edges left marks (rest ++ v ∷ []) done) (none_left : get_or left v 0 ≡ 0) where
  was_open : mark_at marks v ≡ Open (length rest)
  was_open =
      let longer : length (rest ++ v ∷ []) ≡ length rest + 1 = length-append rest (v ∷ []) in
      subst (λ x. mark_at marks x ≡ Open (length rest)) (get_or_push rest v 0 (length rest) refl) (s.opened (length rest) (omega arith))

  is_there : v < length marks
  is_there = begun_is_there marks v (λ e. open_is_not_new (length rest) (sym was_open ∙ e))

  left_seen : (k : ℕ) → k < length edges → get_or left (from_of edges k) 0 ≤ k → (r : ℕ) × (mark_at (set marks v (Done done)) (to_of edges k) ≡ Done r)
  left_seen k h l =
      let old = s.seen k h l in
      (old.0, stays marks v (Done done) (to_of edges k) (Done old.0) (Open (length rest)) old.1 was_open (done_is_not_open old.0 (length rest)))

  left_falls : (k r : ℕ) → k < length edges → mark_at (set marks v (Done done)) (from_of edges k) ≡ Done r → (t : ℕ) × ((mark_at (set marks v (Done done)) (to_of edges k) ≡ Done t) × (t < r))
  left_falls k r h e =
      elim (same_or_not (from_of edges k) v) [
        | inl d ↦ let none : get_or left (from_of edges k) 0 ≡ 0 = ap (λ w. get_or left w 0) d ∙ none_left in
            let old = s.seen k h (omega arith) in
            let same : done ≡ r = rank_of_done done r (sym (new_mark marks v (Done done) is_there) ∙ (ap (λ w. mark_at (set marks v (Done done)) w) (sym d) ∙ e)) in
            let less : old.0 < done = s.below (to_of edges k) old.0 old.1 in
            (old.0, (stays marks v (Done done) (to_of edges k) (Done old.0) (Open (length rest)) old.1 was_open (done_is_not_open old.0 (length rest)), omega arith))
        | inr d ↦ let old = s.falls k r h (sym (old_mark marks v (Done done) (from_of edges k) d) ∙ e) in
            (old.0, (stays marks v (Done done) (to_of edges k) (Done old.0) (Open (length rest)) old.1.0 was_open (done_is_not_open old.0 (length rest)), old.1.1))
      ]

  left_below : (u r : ℕ) → mark_at (set marks v (Done done)) u ≡ Done r → r < done + 1
  left_below u r e =
      elim (same_or_not u v) [
        | inl d ↦ let same : done ≡ r = rank_of_done done r (sym (new_mark marks v (Done done) is_there) ∙ (ap (λ w. mark_at (set marks v (Done done)) w) (sym d) ∙ e)) in omega arith
        | inr d ↦ let less : r < done = s.below u r (sym (old_mark marks v (Done done) u d) ∙ e) in omega arith
      ]

  left_opened : (i : ℕ) → i < length rest → mark_at (set marks v (Done done)) (get_or rest i 0) ≡ Open i
  left_opened i h =
      let longer : length (rest ++ v ∷ []) ≡ length rest + 1 = length-append rest (v ∷ []) in
      let old : mark_at marks (get_or rest i 0) ≡ Open i = subst (λ x. mark_at marks x ≡ Open i) (get_or_append_left rest (v ∷ []) 0 i h) (s.opened i (omega arith)) in
      stays marks v (Done done) (get_or rest i 0) (Open i) (Open (length rest)) old was_open (λ e. let same : i ≡ length rest = place_of_open i (length rest) e in omega arith)

  left_placed : (u i : ℕ) → mark_at (set marks v (Done done)) u ≡ Open i → (i < length rest) × (get_or rest i 0 ≡ u)
  left_placed u i e =
      let longer : length (rest ++ v ∷ []) ≡ length rest + 1 = length-append rest (v ∷ []) in
      let was_so : mark_at marks u ≡ Open i = was marks v (Done done) u (Open i) is_there e (done_is_not_open done i) in
      let old = s.placed u i was_so in
      let h : i < length (rest ++ v ∷ []) = old.0 in
      elim (below_or_same i (length rest) (omega arith)) [
        | inl l ↦ (l, sym (get_or_append_left rest (v ∷ []) 0 i l) ∙ old.1)
        | inr d ↦ let at : v ≡ u = sym (get_or_push rest v 0 i (sym d)) ∙ old.1 in
            absurd (done_is_not_open done i (sym (new_mark marks v (Done done) is_there) ∙ (ap (λ w. mark_at (set marks v (Done done)) w) at ∙ e)))
      ]

  left_linked : (i : ℕ) → suc i < length rest → IsEdge edges (get_or rest i 0) (get_or rest (suc i) 0)
  left_linked i h =
      let longer : length (rest ++ v ∷ []) ≡ length rest + 1 = length-append rest (v ∷ []) in
      subst (λ x. IsEdge edges x (get_or rest (suc i) 0)) (get_or_append_left rest (v ∷ []) 0 i (omega arith))
      (subst (λ x. IsEdge edges (get_or (rest ++ v ∷ []) i 0) x) (get_or_append_left rest (v ∷ []) 0 (suc i) h) (s.linked i (omega arith)))

  pub left_off : Searches edges left (set marks v (Done done)) rest (done + 1)
  left_off =
      let many : length (set marks v (Done done)) ≡ length marks = length-set marks v (Done done) in
      let sums : total is_waiting (set marks v (Done done)) + is_waiting (mark_at marks v) ≡ total is_waiting marks + 0 = total-set is_waiting marks v (Done done) New is_there in
      let one : is_waiting (mark_at marks v) ≡ 1 = ap is_waiting was_open in
      let known : done + total is_waiting marks ≡ length marks = s.counted in
      record {
        ends = λ k h. subst (λ n. (from_of edges k < n) × (to_of edges k < n)) (sym many) (s.ends k h);
        lefts = s.lefts ∙ sym many;
        mine = s.mine;
        seen = left_seen;
        falls = left_falls;
        below = left_below;
        opened = left_opened;
        placed = left_placed;
        linked = left_linked;
        counted = omega arith;
      }

  pub left_smaller : size left (set marks v (Done done)) < size left marks
  left_smaller =
      let sums : total is_ahead (set marks v (Done done)) + is_ahead (mark_at marks v) ≡ total is_ahead marks + 0 = total-set is_ahead marks v (Done done) New is_there in
      let one : is_ahead (mark_at marks v) ≡ 1 = ap is_ahead was_open in
      omega arith

  -- so the number of ranks that are given is less than that of vertices
  pub left_bound : done < length marks
  left_bound =
      let sums : total is_waiting (set marks v (Done done)) + is_waiting (mark_at marks v) ≡ total is_waiting marks + 0 = total-set is_waiting marks v (Done done) New is_there in
      let one : is_waiting (mark_at marks v) ≡ 1 = ap is_waiting was_open in
      let known : done + total is_waiting marks ≡ length marks = s.counted in
      omega arith

  pub left_goes : Goes edges left marks left (set marks v (Done done)) rest (done + 1)
  left_goes = record {
    searches = left_off;
    many = length-set marks v (Done done);
    smaller = left_smaller;
    keeps = begun_stays marks v (Done done) is_there (done_is_not_new done);
  }

-- ---- an edge to a vertex that has a rank is passed

module _ (edges : List (ℕ × ℕ)) (links left : List ℕ) (marks : List Mark) (path : List ℕ) (done v k r : ℕ) (s : Searches edges left marks path done) (linked : AreLinked edges (length edges) links) (begun : mark_at marks v ≡ New → ⊥) (number : get_or left v 0 ≡ suc k) (ranked : mark_at marks (to_of edges k) ≡ Done r) where
  edge_there : k < length edges
  edge_there = (s.mine v k number).0

  edge_from : from_of edges k ≡ v
  edge_from = (s.mine v k number).1

  earlier : IsLast edges k v (get_or links k 0)
  earlier = subst (λ w. IsLast edges k w (get_or links k 0)) edge_from (linked k edge_there)

  left_there : v < length left
  left_there = let h : v < length marks = begun_is_there marks v begun in let e : length left ≡ length marks = s.lefts in omega arith

  passed_mine : (u m : ℕ) → get_or (set left v (get_or links k 0)) u 0 ≡ suc m → (m < length edges) × (from_of edges m ≡ u)
  passed_mine u m e =
      elim (same_or_not u v) [
        | inl d ↦ let at : get_or links k 0 ≡ suc m = sym (get_or-set_same left v (get_or links k 0) 0 left_there) ∙ (ap (λ w. get_or (set left v (get_or links k 0)) w 0) (sym d) ∙ e) in
            let found = earlier.mine m at in
            let h : m < k = found.0 in
            let i : k < length edges = edge_there in
            (omega arith, found.1 ∙ sym d)
        | inr d ↦ s.mine u m (sym (get_or-set_other left v u (get_or links k 0) 0 d) ∙ e)
      ]

  passed_seen : (e : ℕ) → e < length edges → get_or (set left v (get_or links k 0)) (from_of edges e) 0 ≤ e → (t : ℕ) × (mark_at marks (to_of edges e) ≡ Done t)
  passed_seen e h l =
      elim (same_or_not (from_of edges e) v) [
        | inl d ↦ let at : get_or (set left v (get_or links k 0)) (from_of edges e) 0 ≡ get_or links k 0 = ap (λ w. get_or (set left v (get_or links k 0)) w 0) d ∙ get_or-set_same left v (get_or links k 0) 0 left_there in
            elim (same_or_not e k) [
              | inl same ↦ (r, ap (λ w. mark_at marks (to_of edges w)) same ∙ ranked)
              | inr differ ↦ elim (below_or_not e k) [
                | inl less ↦ absurd (earlier.none e (omega arith) less d)
                | inr more ↦ s.seen e h (let old : get_or left (from_of edges e) 0 ≡ suc k = ap (λ w. get_or left w 0) d ∙ number in omega arith)
              ]
            ]
        | inr d ↦ s.seen e h (let old : get_or (set left v (get_or links k 0)) (from_of edges e) 0 ≡ get_or left (from_of edges e) 0 = get_or-set_other left v (from_of edges e) (get_or links k 0) 0 d in omega arith)
      ]
    where
      below_or_not : (i n : ℕ) → (i < n) ⊎ (n ≤ i)
      below_or_not i zero = inr (omega arith)
      below_or_not zero (suc n) = inl (omega arith)
      below_or_not (suc i) (suc n) = elim (below_or_not i n) [ inl h ↦ inl (omega arith) | inr h ↦ inr (omega arith) ]

  pub passed : Searches edges (set left v (get_or links k 0)) marks path done
  passed = record {
    ends = s.ends;
    lefts = length-set left v (get_or links k 0) ∙ s.lefts;
    mine = passed_mine;
    seen = passed_seen;
    falls = s.falls;
    below = s.below;
    opened = s.opened;
    placed = s.placed;
    linked = s.linked;
    counted = s.counted;
  }

  number_falls : (n : ℕ) → get_or links k 0 ≡ n → n < suc k
  number_falls zero e = omega arith
  number_falls (suc m) e = let h : m < k = (earlier.mine m e).0 in omega arith

  pub passed_goes : Goes edges left marks (set left v (get_or links k 0)) marks path done
  passed_goes =
      let sums : total itself (set left v (get_or links k 0)) + get_or left v 0 ≡ total itself left + get_or links k 0 = total-set itself left v (get_or links k 0) 0 left_there in
      let less : get_or links k 0 < suc k = number_falls (get_or links k 0) refl in
      record {
        searches = passed;
        many = refl;
        smaller = omega arith;
        keeps = λ u n e. n e;
      }
