-- Bounds of edges, and what a search of a graph tells of its edges alone.
use Rattle.std.proofs.Common.{◌≡◌, ℕ, ◌+◌, ◌<◌, ◌≤◌, get_or, length, drop, drop-cons, add-one, List, [], ◌∷◌, sym, subst, ◌∙◌, arith}
use Rattle.std.proofs.lemmas.List.{drop_all, get_or_past}
use Rattle.std.proofs.lemmas.List.Elements.{All-cons}
use Rattle.hp_graph.specs.Graphs.{AreWithin, IsSorted, IsSortedBy}
use Rattle.hp_graph.specs.declared.sorted.Sorted.{Sorted}
use Rattle.hp_graph.specs.declared.sorted.Sorted.TheVariants as sorted

drop-next : {A : Type 0} (xs : List A) (i : ℕ) (x : A) → i < length xs → x ≡ get_or xs i x → drop i xs ≡ x ∷ drop (i + 1) xs
drop-next xs i x h p = drop-cons xs i x h ∙ rw (add-one, ← p)

-- Where a number covers the edges from one on, it covers that one and those behind.
pub next-covered : (edges : List (ℕ × ℕ)) (i : ℕ) (e : ℕ × ℕ) (bound : ℕ) → i < length edges → e ≡ get_or edges i e → e.0 < bound → e.1 < bound → AreWithin bound (drop (i + 1) edges) → AreWithin bound (drop i edges)
next-covered edges i e bound h p a b rest =
    subst (AreWithin bound) (sym (drop-next edges i e h p)) (All-cons (λ (d : ℕ × ℕ). (d.0 < bound) × (d.1 < bound)) e (drop (i + 1) edges) (a, b) rest)

pub all-covered : (edges : List (ℕ × ℕ)) (i bound : ℕ) → length edges ≤ i → AreWithin bound (drop i edges)
all-covered edges i bound h = subst (AreWithin bound) (sym (drop_all i edges h)) (λ k d lt. absurd (omega arith))

pub sorted-by : (count : ℕ) (edges : List (ℕ × ℕ)) (s : Sorted) → IsSorted count edges s → IsSortedBy edges s
sorted-by count edges (sorted.Ranks ranks) h = h.falls
sorted-by count edges (sorted.Cycle cycle) h = h.0

pub rank-beyond : (ranks : List ℕ) (v : ℕ) → length ranks ≤ v → 0 ≡ get_or ranks v 0
rank-beyond ranks v h = sym (get_or_past ranks v 0 h)
