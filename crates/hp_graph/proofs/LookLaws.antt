-- One look at the end of the path, in the words of the code.
use Rattle.std.proofs.Common.{◌≡◌, ℕ, zero, suc, ◌+◌, ◌-◌, ◌<◌, List, [], ◌∷◌, ◌++◌, length, get_or, set, refl, sym, ap, ◌∙◌, subst, arith}
use Rattle.std.proofs.lemmas.List.{get_or_push, get_or_default}
use Rattle.std.proofs.Math.ListN.{length-append}
use Rattle.hp_graph.specs.declared.search.Mark.{Mark}
use Rattle.hp_graph.specs.declared.search.Mark.TheVariants.{New, Open, Done}
use Rattle.hp_graph.specs.Graphs.{IsEdge}
use Rattle.hp_graph.specs.Searching.{from_of, to_of, mark_at, Searches, IsEnd, LeadsBack, Goes, AreLinked}
use Rattle.hp_graph.proofs.SearchLaws.{begun_is_there, open_is_not_new, entered_goes, left_goes, left_bound, passed_goes}

-- the vertex at the end of the path is open
pub end_open : (edges : List (ℕ × ℕ)) (left : List ℕ) (marks : List Mark) (path : List ℕ) (done v : ℕ) → Searches edges left marks path done → (e : IsEnd path v) → mark_at marks v ≡ Open e.before
end_open edges left marks path done v s e =
    let many : length path ≡ suc e.before = e.many in
    subst (λ x. mark_at marks x ≡ Open e.before) e.last (s.opened e.before (omega arith))

module _ (edges : List (ℕ × ℕ)) (left : List ℕ) (marks : List Mark) (path : List ℕ) (done v : ℕ) (s : Searches edges left marks path done) (e : IsEnd path v) where
  pub begun : mark_at marks v ≡ New → ⊥
  begun n = open_is_not_new e.before (sym (end_open edges left marks path done v s e) ∙ n)

  pub mark_there : v < length marks
  mark_there = begun_is_there marks v begun

  pub left_there : v < length left
  left_there = let h : v < length marks = mark_there in let f : length left ≡ length marks = s.lefts in omega arith

  -- the number of the next edge, counted from 1
  pub number_there : (n : ℕ) → get_or left v 0 ≡ n → (n ≡ 0 → ⊥) → (n - 1 < length edges) × (from_of edges (n - 1) ≡ v)
  number_there zero h d = absurd (d refl)
  number_there (suc k) h d = let e : k ≡ suc k - 1 = omega arith in subst (λ j. (j < length edges) × (from_of edges j ≡ v)) e (s.mine v k h)

  pub next_there : (k : ℕ) → k < length edges → to_of edges k < length marks
  next_there k h = (s.ends k h).1

  pub looks_left : (rest : List ℕ) (w : ℕ) → path ≡ rest ++ w ∷ [] → get_or left v 0 ≡ 0 → Goes edges left marks left (set marks v (Done done)) rest (done + 1)
  looks_left rest w split none =
      let longer : length path ≡ length rest + 1 = ap length split ∙ length-append rest (w ∷ []) in
      let many : length path ≡ suc e.before = e.many in
      let same : w ≡ v = sym (get_or_push rest w 0 e.before (omega arith)) ∙ (ap (λ p. get_or p e.before 0) (sym split) ∙ e.last) in
      let known : Searches edges left marks (rest ++ v ∷ []) done = subst (λ p. Searches edges left marks p done) (split ∙ ap (λ x. rest ++ x ∷ []) same) s in
      left_goes edges left marks rest done v known none

  pub looks_bound : (rest : List ℕ) (w : ℕ) → path ≡ rest ++ w ∷ [] → get_or left v 0 ≡ 0 → done < length marks
  looks_bound rest w split none =
      let longer : length path ≡ length rest + 1 = ap length split ∙ length-append rest (w ∷ []) in
      let many : length path ≡ suc e.before = e.many in
      let same : w ≡ v = sym (get_or_push rest w 0 e.before (omega arith)) ∙ (ap (λ p. get_or p e.before 0) (sym split) ∙ e.last) in
      let known : Searches edges left marks (rest ++ v ∷ []) done = subst (λ p. Searches edges left marks p done) (split ∙ ap (λ x. rest ++ x ∷ []) same) s in
      left_bound edges left marks rest done v known none

  edge_at : (k w : ℕ) → k < length edges → from_of edges k ≡ w → IsEdge edges w (to_of edges k)
  edge_at k w h f = (k, h, get_or_default edges k (w, to_of edges k) (0, 0) h ∙ ap (λ x. (x, to_of edges k)) f)

  -- the path ends here
  edge_from_end : (k : ℕ) → k < length edges → from_of edges k ≡ v → (i : ℕ) → suc i ≡ length path → IsEdge edges (get_or path i 0) (to_of edges k)
  edge_from_end k h f i l =
      let many : length path ≡ suc e.before = e.many in
      let same : e.before ≡ i = omega arith in
      edge_at k (get_or path i 0) h (f ∙ (sym e.last ∙ ap (λ j. get_or path j 0) same))

  pub looks_in : (n : ℕ) → get_or left v 0 ≡ n → (n ≡ 0 → ⊥) → mark_at marks (to_of edges (n - 1)) ≡ New → Goes edges left marks left (set marks (to_of edges (n - 1)) (Open (length path))) (path ++ to_of edges (n - 1) ∷ []) done
  looks_in n h d new =
      let there = number_there n h d in
      entered_goes edges left marks path done (to_of edges (n - 1)) s (next_there (n - 1) there.0) new (edge_from_end (n - 1) there.0 there.1)

  pub looks_back : (n place : ℕ) → get_or left v 0 ≡ n → (n ≡ 0 → ⊥) → mark_at marks (to_of edges (n - 1)) ≡ Open place → LeadsBack edges path place
  looks_back n place h d open_mark =
      let there = number_there n h d in
      let at = s.placed (to_of edges (n - 1)) place open_mark in
      record {
        there = at.0;
        back = λ w f. subst (λ x. IsEdge edges w x) (sym at.1) (edge_at (n - 1) w there.0 (there.1 ∙ one_end w f));
      }
    where
      one_end : (w : ℕ) → IsEnd path w → v ≡ w
      one_end w f =
          let many : length path ≡ suc e.before = e.many in
          let others : length path ≡ suc f.before = f.many in
          let same : e.before ≡ f.before = omega arith in
          sym e.last ∙ (ap (λ i. get_or path i 0) same ∙ f.last)

  pub looks_on : (links : List ℕ) → AreLinked edges (length edges) links → (n r : ℕ) → get_or left v 0 ≡ n → (n ≡ 0 → ⊥) → mark_at marks (to_of edges (n - 1)) ≡ Done r → Goes edges left marks (set left v (get_or links (n - 1) 0)) marks path done
  looks_on links linked zero r h d ranked = absurd (d refl)
  looks_on links linked (suc k) r h d ranked =
      let e : suc k - 1 ≡ k = omega arith in
      subst (λ j. Goes edges left marks (set left v (get_or links j 0)) marks path done) (sym e)
      (passed_goes edges links left marks path done v k r s linked begun h (subst (λ j. mark_at marks (to_of edges j) ≡ Done r) e ranked))
