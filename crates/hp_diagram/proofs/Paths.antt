-- Paths through a list of nodes, and the functions of a table.
use Rattle.std.proofs.Common.{◌≡◌, ℕ, zero, suc, ◌+◌, ◌<◌, ◌≤◌, Bool, true, false, ◌==◌, List, length, Option, Some, None, refl, sym, ◌∙◌, arith, if◌then◌else◌}
use Rattle.hp_diagram.specs.declared.reference.Ref.{Ref}
use Rattle.hp_diagram.specs.declared.reference.Branch.{Branch}
use Rattle.hp_diagram.specs.Diagrams.{Diagrams, branch_at, child, path_end, function, branch_of, IsReduced}

-- the child that a path takes is one of the two
pub child_cases : (b : Branch) (v : ℕ → Bool) (P : ℕ → Type 0) → P b.low.index → P b.high.index → P (child b v).index
child_cases b v P low high =
    elim (v b.var) as (λ c. P (if c then b.high else b.low).index) [ true ↦ high | false ↦ low ]

path_end-node : (most : ℕ) (nodes : List Branch) (v : ℕ → Bool) (i : ℕ) (b : Branch) → branch_at nodes i ≡ Some b → path_end (suc most) nodes v i ≡ path_end most nodes v (child b v).index
unfolding path_end
path_end-node most nodes v i b h = rw h refl

pub path_end-leaf : (most : ℕ) (nodes : List Branch) (v : ℕ → Bool) (i : ℕ) → branch_at nodes i ≡ None → path_end most nodes v i ≡ (i == 1)
unfolding path_end
path_end-leaf zero nodes v i h = refl
path_end-leaf (suc most) nodes v i h = rw h refl

-- each child stands below its parent
abbrev pub AreBelow : List Branch → Type 0
AreBelow nodes = (i : ℕ) (b : Branch) → branch_at nodes i ≡ Some b → (b.low.index < i) × (b.high.index < i)

module _ (nodes : List Branch) (below : AreBelow nodes) (v : ℕ → Bool) where
  child-below : (i : ℕ) (b : Branch) → branch_at nodes i ≡ Some b → (child b v).index < i
  child-below i b h = child_cases b v (λ c. c < i) (below i b h).0 (below i b h).1

  -- any bound that is not too small gives the same end
  path_end-bound : (m n i : ℕ) → i ≤ m → i ≤ n → path_end m nodes v i ≡ path_end n nodes v i
  path_end-bound m n i = by m n i (branch_at nodes i) refl
    where
      by : (m n i : ℕ) (o : Option Branch) → branch_at nodes i ≡ o → i ≤ m → i ≤ n → path_end m nodes v i ≡ path_end n nodes v i
      by m n i None h in_m in_n = path_end-leaf m nodes v i h ∙ sym (path_end-leaf n nodes v i h)
      by zero n i (Some b) h in_m in_n = let c = child-below i b h in absurd (omega arith)
      by (suc m) zero i (Some b) h in_m in_n = let c = child-below i b h in absurd (omega arith)
      by (suc m) (suc n) i (Some b) h in_m in_n =
          let c = child-below i b h in
          let next = by m n (child b v).index (branch_at nodes (child b v).index) refl (omega arith) (omega arith) in
          path_end-node m nodes v i b h ∙ next ∙ sym (path_end-node n nodes v i b h)

  -- the path goes on at the child
  pub path_end-child : (i : ℕ) (b : Branch) → branch_at nodes i ≡ Some b → path_end i nodes v i ≡ path_end (child b v).index nodes v (child b v).index
  path_end-child i b h =
      let c = child-below i b h in
      path_end-bound i (suc i) i (omega arith) (omega arith)
      ∙ path_end-node i nodes v i b h
      ∙ path_end-bound i (child b v).index (child b v).index (omega arith) (omega arith)

-- where the nodes of the first list stand in the second too, their paths are the same
pub path_end-same : (old new : List Branch) (v : ℕ → Bool) → AreBelow old → ((i : ℕ) → i < length old + 2 → branch_at new i ≡ branch_at old i) → (most i : ℕ) → i < length old + 2 → path_end most new v i ≡ path_end most old v i
unfolding path_end
path_end-same old new v below same most i = by most i (branch_at old i) refl
  where
    by : (most i : ℕ) (o : Option Branch) → branch_at old i ≡ o → i < length old + 2 → path_end most new v i ≡ path_end most old v i
    by most i None h has = path_end-leaf most new v i (same i has ∙ h) ∙ sym (path_end-leaf most old v i h)
    by zero i (Some b) h has = refl
    by (suc most) i (Some b) h has =
        let c = child-below old below v i b h in
        let next = by most (child b v).index (branch_at old (child b v).index) refl (omega arith) in
        path_end-node most new v i b (same i has ∙ h) ∙ next ∙ sym (path_end-node most old v i b h)

module _ (t : Diagrams) (reduced : IsReduced t) where
  pub AreBelow-nodes : AreBelow t.nodes
  AreBelow-nodes i b h = let n = reduced.nodes i b h in (n.low, n.high)

  -- the function of a node is the one of the child that its variable picks
  pub function-node : (r : Ref) (b : Branch) → branch_of t r ≡ Some b → (v : ℕ → Bool) → function t r v ≡ (if v b.var then function t b.high v else function t b.low v)
  function-node r b h v =
      path_end-child t.nodes AreBelow-nodes v r.index b h
      ∙ (elim (v b.var) as (λ c. function t (if c then b.high else b.low) v ≡ (if c then function t b.high v else function t b.low v)) [ true ↦ refl | false ↦ refl ])

  pub child-index : (r : Ref) (b : Branch) → branch_of t r ≡ Some b → (v : ℕ → Bool) → (child b v).index < r.index
  child-index r b h v = child-below t.nodes AreBelow-nodes v r.index b h

  pub function-child : (r : Ref) (b : Branch) → branch_of t r ≡ Some b → (v : ℕ → Bool) → function t (child b v) v ≡ function t r v
  function-child r b h v = sym (path_end-child t.nodes AreBelow-nodes v r.index b h)
