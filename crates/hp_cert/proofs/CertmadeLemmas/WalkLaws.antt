-- What a walk has visited: each node once, and behind its children.
use Rattle.std.proofs.Common.{◌≡◌, ℕ, zero, suc, ◌+◌, ◌<◌, ◌≤◌, ◌⊎◌, inl, inr, List, [], ◌∷◌, ◌++◌, length, slice_get, get_or, All, Some, None, refl, sym, ap, subst, ◌∙◌, arith}
use Rattle.std.specs.List.{Contains}
use Rattle.std.proofs.lemmas.Bool.{cases_lt}
use Rattle.std.proofs.lemmas.List.{length_push, get_or_append_left, get_or_push}
use Rattle.std.proofs.lemmas.Option.{slice_get_within, slice_get-get_or, get_or_from_slice_get}
use Rattle.std.proofs.lemmas.List.Elements.{All-cons, All-head, All-tail, Contains-append_right, Contains-append_cases}
use Rattle.hp_diagram.specs.declared.reference.Ref.{Ref}
use Rattle.hp_diagram.specs.declared.reference.Branch.{Branch}
use Rattle.hp_diagram.specs.Diagrams.{Diagrams, zero_ref, branch_at, branch_of, Has, IsReduced}
use Rattle.hp_cert.specs.Certmade.Walks.{Walks, leaf, again, visit, WalksAll}
use Rattle.hp_cert.specs.Certmade.Lines.{number_in}
use Rattle.hp_cert.specs.Certmade.Placed.{HasNode}
use Rattle.hp_cert.proofs.CertmadeLemmas.PlaceLaws.{Covers, place_last, number_large, covers_more, number_more, number_below}

-- a node at a place, behind its children
pub record IsPlaced (t : Diagrams) (nodes : List ℕ) (k i : ℕ) : Type 0 where
  pub branch : Branch
  pub is : branch_at t.nodes i ≡ Some branch
  pub number : number_in nodes i ≡ k + 2
  pub low : Covers nodes branch.low.index × (number_in nodes branch.low.index < k + 2)
  pub high : Covers nodes branch.high.index × (number_in nodes branch.high.index < k + 2)

abbrev pub ArePlaced : Diagrams → List ℕ → Type 0
ArePlaced t nodes = (k i : ℕ) → slice_get nodes k ≡ Some i → IsPlaced t nodes k i

large : (nodes : List Branch) (i : ℕ) (b : Branch) → branch_at nodes i ≡ Some b → 2 ≤ i
large nodes zero b h = absurd (cc)
large nodes (suc zero) b h = absurd (cc)
large nodes (suc (suc i)) b h = omega arith

placed_more : (t : Diagrams) (nodes : List ℕ) (y k i : ℕ) → Covers nodes i → IsPlaced t nodes k i → IsPlaced t (nodes ++ y ∷ []) k i
placed_more t nodes y k i there p =
    let low = p.low.1 in
    let high = p.high.1 in
    let low_same = number_more nodes y p.branch.low.index p.low.0 in
    let high_same = number_more nodes y p.branch.high.index p.high.0 in
    record {
      branch = p.branch;
      is = p.is;
      number = number_more nodes y i there ∙ p.number;
      low = (covers_more nodes y p.branch.low.index p.low.0, omega (arith, low, low_same));
      high = (covers_more nodes y p.branch.high.index p.high.0, omega (arith, high, high_same));
    }

contains_at : (nodes : List ℕ) (k i : ℕ) → slice_get nodes k ≡ Some i → Contains nodes i
contains_at nodes k i at = (k, slice_get_within nodes k i at, get_or_from_slice_get nodes k i i at)

module _ (t : Diagrams) (nodes : List ℕ) (i : ℕ) (b : Branch) (are : ArePlaced t nodes) (is : branch_at t.nodes i ≡ Some b) (none : ¬ Contains nodes i) (low : Covers nodes b.low.index) (high : Covers nodes b.high.index) where
  last_placed : IsPlaced t (nodes ++ i ∷ []) (length nodes) i
  last_placed =
      let low_less = number_below nodes b.low.index low in
      let high_less = number_below nodes b.high.index high in
      let low_same = number_more nodes i b.low.index low in
      let high_same = number_more nodes i b.high.index high in
      record {
        branch = b;
        is = is;
        number = number_large (nodes ++ i ∷ []) i (large t.nodes i b is) ∙ ap (λ n. n + 2) (place_last nodes i none);
        low = (covers_more nodes i b.low.index low, omega (arith, low_less, low_same));
        high = (covers_more nodes i b.high.index high, omega (arith, high_less, high_same));
      }

  pub placed_push : ArePlaced t (nodes ++ i ∷ [])
  placed_push k j at = by (cases_lt k (length nodes))
    where
      by : (k < length nodes) ⊎ (length nodes ≤ k) → IsPlaced t (nodes ++ i ∷ []) k j
      by (inl less) =
          let same : get_or nodes k j ≡ j = sym (get_or_append_left nodes (i ∷ []) j k less) ∙ get_or_from_slice_get (nodes ++ i ∷ []) k j j at in
          let there : slice_get nodes k ≡ Some j = slice_get-get_or nodes k j less ∙ ap Some same in
          placed_more t nodes i k j (inr (contains_at nodes k j there)) (are k j there)
      by (inr more) =
          let within = slice_get_within (nodes ++ i ∷ []) k j at in
          let len = length_push nodes i in
          let end : length nodes ≡ k = omega (arith, more, within, len) in
          let same : i ≡ j = sym (get_or_push nodes i j k end) ∙ get_or_from_slice_get (nodes ++ i ∷ []) k j j at in
          subst (λ n. IsPlaced t (nodes ++ i ∷ []) n j) end (subst (λ n. IsPlaced t (nodes ++ i ∷ []) (length nodes) n) same last_placed)

-- ---- walks

-- what a walk from a reference has done
pub record Visits (t : Diagrams) (seen : List ℕ) (r : Ref) (after : List ℕ) : Type 0 where
  pub placed : ArePlaced t after
  pub covers : Covers after r.index
  pub kept : (j : ℕ) → Covers seen j → Covers after j

some_branch : Branch
some_branch = record { var = 0; low = zero_ref; high = zero_ref }

leaf_small : (t : Diagrams) (i : ℕ) → i < length t.nodes + 2 → branch_at t.nodes i ≡ None → i < 2
leaf_small t zero within h = omega arith
leaf_small t (suc zero) within h = omega arith
leaf_small t (suc (suc i)) within h =
    let get : slice_get t.nodes i ≡ Some (get_or t.nodes i some_branch) = slice_get-get_or t.nodes i some_branch (omega (arith, within)) in
    absurd (cc)

only : (i j : ℕ) → Contains (i ∷ []) j → i ≡ j
only i j (zero, less, at) = at
only i j (suc k, less, at) = absurd (omega (arith, less))

-- what a walk visits that was not visited stands no higher than where it begins
either_new : (t : Diagrams) (seen middle after : List ℕ) (r low high : Ref) → low.index < r.index → high.index < r.index → ((j : ℕ) → Contains middle j → Contains seen j ⊎ (j ≤ low.index))
    → ((j : ℕ) → Contains after j → Contains middle j ⊎ (j ≤ high.index)) → (j : ℕ) → Contains after j → Contains seen j ⊎ (j < r.index)
either_new t seen middle after r low high low_less high_less l h j c =
    elim (h j c) as (λ o. Contains seen j ⊎ (j < r.index)) [
      | inl d ↦ (elim (l j d) as (λ o. Contains seen j ⊎ (j < r.index)) [ inl e ↦ inl e | inr e ↦ inr (omega (arith, e, low_less)) ])
      | inr e ↦ inr (omega (arith, e, high_less))
    ]

with_this : (seen after : List ℕ) (i : ℕ) → ((j : ℕ) → Contains after j → Contains seen j ⊎ (j < i)) → (j : ℕ) → Contains after j ⊎ Contains (i ∷ []) j → Contains seen j ⊎ (j ≤ i)
with_this seen after i new j (inl c) = elim (new j c) as (λ o. Contains seen j ⊎ (j ≤ i)) [ inl e ↦ inl e | inr e ↦ inr (omega (arith, e)) ]
with_this seen after i new j (inr c) = let same = only i j c in inr (omega (arith, same))

not_yet : (r : Ref) (seen : List ℕ) → ¬ Contains seen r.index → Contains seen r.index ⊎ (r.index < r.index) → ⊥
not_yet r seen none (inl c) = none c
not_yet r seen none (inr h) = absurd (omega (arith, h))

module _ (t : Diagrams) (reduced : IsReduced t) where
  pub walk_new : (seen : List ℕ) (r : Ref) (after : List ℕ) → Walks t seen r after → (j : ℕ) → Contains after j → Contains seen j ⊎ (j ≤ r.index)
  walk_new seen r after (leaf none) j c = inl c
  walk_new seen r after (again there) j c = inl c
  walk_new seen r after (visit {from_low = from_low} {from_high = from_high} {b = b} is none low high) j c =
      let node = reduced.nodes r.index b is in
      with_this seen from_high r.index
      (either_new t seen from_low from_high r b.low b.high node.low node.high (λ j c. walk_new seen b.low from_low low j c) (λ j c. walk_new from_low b.high from_high high j c))
      j (Contains-append_cases from_high (r.index ∷ []) j c)

  -- so a node is not among those that come from its children
  pub children_new : (seen : List ℕ) (r : Ref) (from_low from_high : List ℕ) (b : Branch) → branch_of t r ≡ Some b → Walks t seen b.low from_low → Walks t from_low b.high from_high
      → (j : ℕ) → Contains from_high j → Contains seen j ⊎ (j < r.index)
  children_new seen r from_low from_high b is low high =
      let node = reduced.nodes r.index b is in
      either_new t seen from_low from_high r b.low b.high node.low node.high (walk_new seen b.low from_low low) (walk_new from_low b.high from_high high)

  pub still_new : (seen : List ℕ) (r : Ref) (from_low from_high : List ℕ) (b : Branch) → branch_of t r ≡ Some b → ¬ Contains seen r.index → Walks t seen b.low from_low → Walks t from_low b.high from_high → ¬ Contains from_high r.index
  still_new seen r from_low from_high b is none low high c = not_yet r seen none (children_new seen r from_low from_high b is low high r.index c)

module _ (t : Diagrams) (reduced : IsReduced t) where
  pub visits : (seen : List ℕ) (r : Ref) (after : List ℕ) → Walks t seen r after → Has t r → ArePlaced t seen → Visits t seen r after
  visits seen r after (leaf none) has are = record { placed = are; covers = inl (leaf_small t r.index has none); kept = λ j c. c }
  visits seen r after (again there) has are = record { placed = are; covers = inr there; kept = λ j c. c }
  visits seen r after (visit {from_low = from_low} {from_high = from_high} {b = b} is none low high) has are =
      let node = reduced.nodes r.index b is in
      let low_less = node.low in
      let high_less = node.high in
      let L = visits seen b.low from_low low (omega (arith, has, low_less)) are in
      let H = visits from_low b.high from_high high (omega (arith, has, high_less)) L.placed in
      record {
        placed = placed_push t from_high r.index b H.placed is (still_new t reduced seen r from_low from_high b is none low high) (H.kept b.low.index L.covers) H.covers;
        covers = inr (Contains-append_right from_high (r.index ∷ []) r.index (0, omega arith, refl));
        kept = λ j c. covers_more from_high r.index j (H.kept j (L.kept j c));
      }

-- ---- from some references

pub record AllVisited (t : Diagrams) (seen : List ℕ) (rs : List Ref) (after : List ℕ) : Type 0 where
  pub placed : ArePlaced t after
  pub covers : All (λ (r : Ref). Covers after r.index) rs
  pub kept : (j : ℕ) → Covers seen j → Covers after j

pub all_visited : (t : Diagrams) → IsReduced t → (seen : List ℕ) (rs : List Ref) (after : List ℕ) → WalksAll t seen rs after → All (Has t) rs → ArePlaced t seen → AllVisited t seen rs after
all_visited t reduced seen [] after same has are =
    subst (λ (a : List ℕ). AllVisited t seen [] a) (sym same) (record { placed = are; covers = λ i d less. absurd (omega (arith, less)); kept = λ j c. c })
all_visited t reduced seen (r ∷ rs) after (between, first, others) has are =
    let F = visits t reduced seen r between first (All-head (Has t) r rs has) are in
    let O = all_visited t reduced between rs after others (All-tail (Has t) r rs has) F.placed in
    record {
      placed = O.placed;
      covers = All-cons (λ (r : Ref). Covers after r.index) r rs (O.kept r.index F.covers) O.covers;
      kept = λ j c. O.kept j (F.kept j c);
    }

-- nothing is visited yet
pub none_placed : (t : Diagrams) → ArePlaced t []
none_placed t k i at = absurd (cc)

-- each of them has a node
pub placed_nodes : (t : Diagrams) (nodes : List ℕ) → ArePlaced t nodes → All (HasNode t) nodes
placed_nodes t nodes are = λ k d less. let p = are k (get_or nodes k d) (slice_get-get_or nodes k d less) in (p.branch, p.is)
