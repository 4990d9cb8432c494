-- Lists of the edges that leave each vertex, one edge more.
use Rattle.std.proofs.Common.{◌≡◌, ℕ, zero, suc, ◌+◌, ◌<◌, inl, inr, List, [], ◌∷◌, ◌++◌, length, get_or, set, replicate, refl, sym, ap, ◌∙◌, subst, arith}
use Rattle.std.proofs.lemmas.List.{get_or-set_same, get_or-set_other, get_or_append_left, get_or_push}
use Rattle.hp_graph.specs.Searching.{from_of, IsLast, AreLast, AreLinked}
use Rattle.hp_graph.proofs.SearchLaws.{same_or_not, below_or_same}

same_anywhere : (d n v : ℕ) → get_or (replicate n d) v d ≡ d
same_anywhere d zero v = refl
same_anywhere d (suc n) zero = refl
same_anywhere d (suc n) (suc v) = same_anywhere d n v

-- before the first edge
pub none_yet : (edges : List (ℕ × ℕ)) (last : List ℕ) (n : ℕ) → last ≡ replicate n 0 → AreLast edges 0 last
none_yet edges last n e v = record {
  mine = λ k h. let z : get_or last v 0 ≡ 0 = ap (λ l. get_or l v 0) e ∙ same_anywhere 0 n v in absurd (omega arith);
  none = λ k l h. absurd (omega arith);
}

pub none_linked : (edges : List (ℕ × ℕ)) (links : List ℕ) → AreLinked edges 0 links
none_linked edges links k h = absurd (omega arith)

module _ (edges : List (ℕ × ℕ)) (i : ℕ) (last : List ℕ) (known : AreLast edges i last) (there : from_of edges i < length last) where
  pub last_more : AreLast edges (i + 1) (set last (from_of edges i) (i + 1))
  last_more v =
      elim (same_or_not v (from_of edges i)) [
        | inl d ↦ let at : get_or (set last (from_of edges i) (i + 1)) v 0 ≡ i + 1 = ap (λ w. get_or (set last (from_of edges i) (i + 1)) w 0) d ∙ get_or-set_same last (from_of edges i) (i + 1) 0 there in
            record {
              mine = λ k h. let same : k ≡ i = omega arith in (omega arith, ap (λ w. from_of edges w) same ∙ sym d);
              none = λ k l h e. omega arith;
            }
        | inr d ↦ let at : get_or (set last (from_of edges i) (i + 1)) v 0 ≡ get_or last v 0 = get_or-set_other last (from_of edges i) v (i + 1) 0 d in
            record {
              mine = λ k h. let old = (known v).mine k (sym at ∙ h) in let less : k < i = old.0 in (omega arith, old.1);
              none = λ k l h e. elim (below_or_same k i (omega arith)) [
                | inl less ↦ (known v).none k (omega arith) less e
                | inr same ↦ d (sym e ∙ ap (λ w. from_of edges w) same)
              ];
            }
      ]

  pub linked_more : (links : List ℕ) → length links ≡ i → AreLinked edges i links → AreLinked edges (i + 1) (links ++ get_or last (from_of edges i) 0 ∷ [])
  linked_more links many old k h =
      elim (below_or_same k i (omega arith)) [
        | inl less ↦ subst (λ n. IsLast edges k (from_of edges k) n) (sym (get_or_append_left links (get_or last (from_of edges i) 0 ∷ []) 0 k (omega arith))) (old k less)
        | inr same ↦ subst (λ n. IsLast edges k (from_of edges k) n) (sym (get_or_push links (get_or last (from_of edges i) 0) 0 k (many ∙ sym same)))
            (subst (λ w. IsLast edges w (from_of edges w) (get_or last (from_of edges i) 0)) (sym same) (known (from_of edges i)))
      ]
