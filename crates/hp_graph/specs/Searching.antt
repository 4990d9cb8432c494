-- What holds while a graph is searched: words for the contracts of private functions.
use Rattle.std.specs.Prelude.{ℕ, suc, ◌+◌, ◌<◌, ◌≤◌, ◌≡◌, List, [], ◌∷◌, length, get_or}
use Rattle.hp_graph.specs.declared.search.Mark.{Mark}
use Rattle.hp_graph.specs.declared.search.Mark.TheVariants.{New, Open, Done}
use Rattle.hp_graph.specs.Graphs.{IsEdge}

-- the ends of the edge at an index
abbrev pub from_of : List (ℕ × ℕ) → ℕ → ℕ
from_of edges k = (get_or edges k (0, 0)).0

abbrev pub to_of : List (ℕ × ℕ) → ℕ → ℕ
to_of edges k = (get_or edges k (0, 0)).1

-- ---- the edges that leave a vertex, each by the one after it

-- Of the first edges, so many, the last one that leaves the vertex has this number, counted from 1; 0 is none.
pub record IsLast (edges : List (ℕ × ℕ)) (many vertex number : ℕ) : Type 0 where
  pub mine : (k : ℕ) → number ≡ suc k → (k < many) × (from_of edges k ≡ vertex)
  pub none : (k : ℕ) → number ≤ k → k < many → from_of edges k ≡ vertex → ⊥

-- the same for each vertex
abbrev pub AreLast : List (ℕ × ℕ) → ℕ → List ℕ → Type 0
AreLast edges many last = (v : ℕ) → IsLast edges many v (get_or last v 0)

-- and for each of the first edges, the last one before it that leaves the same vertex
abbrev pub AreLinked : List (ℕ × ℕ) → ℕ → List ℕ → Type 0
AreLinked edges many links = (k : ℕ) → k < many → IsLast edges k (from_of edges k) (get_or links k 0)

-- ---- the search

abbrev pub mark_at : List Mark → ℕ → Mark
mark_at marks v = get_or marks v New

-- how many vertices have no rank yet
abbrev pub is_waiting : Mark → ℕ
is_waiting New = 1
is_waiting (Open i) = 1
is_waiting (Done r) = 0

-- how much is still to be done at a vertex, besides its edges
abbrev pub is_ahead : Mark → ℕ
is_ahead New = 2
is_ahead (Open i) = 1
is_ahead (Done r) = 0

abbrev pub total : {A : Type 0} → (A → ℕ) → List A → ℕ
total f [] = 0
total f (x ∷ xs) = f x + total f xs

abbrev pub itself : ℕ → ℕ
itself n = n

abbrev pub size : List ℕ → List Mark → ℕ
size left marks = total is_ahead marks + total itself left

-- The vertices on the path are open, and edges lead from each to the next. For each vertex the edges up to the number that is left have still to be looked at; all others lead to vertices with ranks.
pub record Searches (edges : List (ℕ × ℕ)) (left : List ℕ) (marks : List Mark) (path : List ℕ) (done : ℕ) : Type 0 where
  pub ends : (k : ℕ) → k < length edges → (from_of edges k < length marks) × (to_of edges k < length marks)
  pub lefts : length left ≡ length marks
  pub mine : (v k : ℕ) → get_or left v 0 ≡ suc k → (k < length edges) × (from_of edges k ≡ v)
  pub seen : (k : ℕ) → k < length edges → get_or left (from_of edges k) 0 ≤ k → (r : ℕ) × (mark_at marks (to_of edges k) ≡ Done r)
  pub falls : (k r : ℕ) → k < length edges → mark_at marks (from_of edges k) ≡ Done r → (s : ℕ) × ((mark_at marks (to_of edges k) ≡ Done s) × (s < r))
  pub below : (v r : ℕ) → mark_at marks v ≡ Done r → r < done
  pub opened : (i : ℕ) → i < length path → mark_at marks (get_or path i 0) ≡ Open i
  pub placed : (v i : ℕ) → mark_at marks v ≡ Open i → (i < length path) × (get_or path i 0 ≡ v)
  pub linked : (i : ℕ) → suc i < length path → IsEdge edges (get_or path i 0) (get_or path (suc i) 0)
  pub counted : done + total is_waiting marks ≡ length marks

-- what has been begun stays so
abbrev pub Keeps : List Mark → List Mark → Type 0
Keeps old new = (v : ℕ) → (mark_at old v ≡ New → ⊥) → mark_at new v ≡ New → ⊥

-- The vertex stands at the end of the path.
pub record IsEnd (path : List ℕ) (vertex : ℕ) : Type 0 where
  pub before : ℕ
  pub many : length path ≡ suc before
  pub last : get_or path before 0 ≡ vertex

-- An edge leads from the end of the path back to a place on it.
pub record LeadsBack (edges : List (ℕ × ℕ)) (path : List ℕ) (place : ℕ) : Type 0 where
  pub there : place < length path
  pub back : (v : ℕ) → IsEnd path v → IsEdge edges v (get_or path place 0)

-- The search goes on.
pub record Goes (edges : List (ℕ × ℕ)) (old_left : List ℕ) (old_marks : List Mark) (left : List ℕ) (marks : List Mark) (path : List ℕ) (done : ℕ) : Type 0 where
  pub searches : Searches edges left marks path done
  pub many : length marks ≡ length old_marks
  pub smaller : size left marks < size old_left old_marks
  pub keeps : Keeps old_marks marks

-- Each vertex below a number has a rank.
abbrev pub AreDone : List Mark → ℕ → Type 0
AreDone marks n = (v : ℕ) → v < n → (r : ℕ) × (mark_at marks v ≡ Done r)

abbrev pub rank_of : Mark → ℕ
rank_of New = 0
rank_of (Open i) = 0
rank_of (Done r) = r
