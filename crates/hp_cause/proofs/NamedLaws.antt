-- A cycle of the graph of reads names a cycle of points.
use Rattle.std.proofs.Common.{◌≡◌, inl, inr, ℕ, zero, suc, ◌+◌, ◌<◌, ◌≤◌, length, get_or, take, drop, map, Bool, true, false, IsTrue, if◌then◌else◌, List, [], ◌∷◌, ◌++◌, Option, None, Some, refl, sym, ap, subst, ◌∙◌, arith}
use Rattle.std.specs.Prelude.{⊤, All, Contains, nat_eq}
use Rattle.std.proofs.lemmas.Bool.Decides.{Decides-eqb}
use Rattle.std.proofs.lemmas.List.{append_assoc, map-append, append-nil, get_or_default, take-append-drop}
use Rattle.std.proofs.lemmas.List.Elements.{All-head, All-tail, All-nil, All-cons, All-contains_itself}
use Rattle.hp_tree.specs.Programs.{Node}
use Rattle.hp_tree.specs.Instant.{Place}
use Rattle.hp_meaning.specs.declared.causal.point.Point.{Point}
use Rattle.hp_meaning.specs.Causal.Causality.{Chain, sources}
use Rattle.hp_meaning.specs.Causal.Points.{Placed, points, places, NamesDeclared}
use Rattle.hp_meaning.specs.Causal.RanksOfPoints.{same_place}
use Rattle.hp_meaning.proofs.CausalLemmas.Choices.{or_cases}
use Rattle.hp_meaning.proofs.CausalLemmas.Ranking.{is_among, place_same, sources_are_points}
use Rattle.hp_cause.proofs.AgreeLaws.{Is}
use Rattle.hp_graph.specs.Graphs.{Leads, IsNone, AreDistinct, IsCycle}
use Rattle.hp_cause.specs.Facts.{Fact, stands, reads, depends, reads_in, points_in, vertices_in}
use Rattle.hp_cause.specs.Falling.{table_in}
use Rattle.hp_cause.specs.Gathering.{in_list, of_node}
use Rattle.hp_cause.specs.Vertices.{Numbering, number_node}
use Rattle.hp_cause.specs.Walked.{NamesDefinedOnce}
use Rattle.hp_cause.specs.Naming.{first_at, numbers_of, point_by, picked, NoneBelow}
use Rattle.hp_cause.specs.Ordering.{IsNoneOf, EachOnce, IsCycleOf}
use Rattle.hp_cause.proofs.CycleLaws.{Kind, kind_of, place_by, among, read_around, no_control, leads_around, read_point}
use Rattle.hp_cause.proofs.GrowLaws.{drop-next}
use Rattle.hp_cause.proofs.ListedLaws.{node_listed}
use Rattle.hp_cause.proofs.PlaceLaws.{node_placed}
use Rattle.hp_cause.proofs.RankLaws.{contained, read_source}

-- the point of a number
abbrev pub at : List Placed → ℕ → Option Placed
at [] i = None
at (p ∷ ps) zero = Some p
at (p ∷ ps) (suc i) = at ps i

-- ---- rows

-- The points and the vertices of facts are those of placed points, one by one.
abbrev Rows : Numbering → List Placed → List Point → List ℕ → Type 0
Rows A [] [] [] = ⊤
Rows A (x ∷ xs) (p ∷ ps) (v ∷ vs) = (x.point ≡ p) × ((A x.place ≡ Some v) × Rows A xs ps vs)
Rows A xs ps vs = ⊥

rows_of : (A : Numbering) (xs : List Placed) (facts : List Fact) → table_in facts ≡ map (λ (p : Placed). (p.point, A p.place)) xs → Rows A xs (points_in facts) (vertices_in facts)
rows_of A xs (reads v u ∷ facts) h = rows_of A xs facts h
rows_of A xs (depends v u ∷ facts) h = rows_of A xs facts h
rows_of A [] [] h = tt
rows_of A [] (stands p v ∷ facts) h = absurd cc
rows_of A (x ∷ xs) [] h = absurd cc
rows_of A (x ∷ xs) (stands p v ∷ facts) h =
    let first : ◌≡◌ {A = Point × Option ℕ} (p, Some v) (x.point, A x.place) = cc in
    let rest : table_in facts ≡ map (λ (q : Placed). (q.point, A q.place)) xs = cc in
    (sym (ap (λ (t : Point × Option ℕ). t.0) first), (sym (ap (λ (t : Point × Option ℕ). t.1) first), rows_of A xs facts rest))

-- a number that is found: its point, and its vertex
pub record Stands (A : Numbering) (xs : List Placed) (ps : List Point) (i v : ℕ) : Type 0 where
  pub placed : Placed
  pub found : at xs i ≡ Some placed
  pub point : point_by ps i ≡ placed.point ∷ []
  pub number : A placed.place ≡ Some v

some_one : (k v : ℕ) → Some k ≡ Some v → k ≡ v
some_one k v h = cc

stands_by : (A : Numbering) (xs : List Placed) (ps : List Point) (vs : List ℕ) (k i v : ℕ) → Rows A xs ps vs → first_at k vs v ≡ Some i → (j : ℕ) × ((i ≡ j + k) × Stands A xs ps j v)
stands_by A [] [] [] k i v r h = absurd cc
stands_by A [] [] (u ∷ us) k i v r h = absurd r
stands_by A [] (p ∷ ps) vs k i v r h = absurd (none vs r)
  where
    none : (vs : List ℕ) → Rows A [] (p ∷ ps) vs → ⊥
    none [] r = r
    none (u ∷ us) r = r
stands_by A (x ∷ xs) [] vs k i v r h = absurd (none vs r)
  where
    none : (vs : List ℕ) → Rows A (x ∷ xs) [] vs → ⊥
    none [] r = r
    none (u ∷ us) r = r
stands_by A (x ∷ xs) (p ∷ ps) [] k i v r h = absurd r
stands_by A (x ∷ xs) (p ∷ ps) (u ∷ us) k i v r h = by (nat_eq u v) refl h (λ g. stands_by A xs ps us (k + 1) i v r.1.1 g)
  where
    by : (d : Bool) → nat_eq u v ≡ d → (if d then Some k else first_at (k + 1) us v) ≡ Some i → (first_at (k + 1) us v ≡ Some i → (j : ℕ) × ((i ≡ j + (k + 1)) × Stands A xs ps j v)) → (j : ℕ) × ((i ≡ j + k) × Stands A (x ∷ xs) (p ∷ ps) j v)
    by true e g rest =
        let same : u ≡ v = (Decides-eqb u v).0 e in
        let is : k ≡ i = some_one k i g in
        (0, (omega arith, record { placed = x; found = refl; point = ap (λ q. q ∷ []) (sym r.0); number = r.1.0 ∙ ap Some same }))
    by false e g rest =
        let t = rest g in
        let m : i ≡ t.0 + (k + 1) = t.1.0 in
        (suc t.0, (omega arith, record { placed = t.1.1.placed; found = t.1.1.found; point = t.1.1.point; number = t.1.1.number }))

first_none : (A : Numbering) (xs : List Placed) (ps : List Point) (vs : List ℕ) (k v : ℕ) (p : Place) → Rows A xs ps vs → first_at k vs v ≡ None → IsTrue (is_among (map (λ (x : Placed). x.place) xs) p) → A p ≡ Some v → ⊥
first_none A [] ps vs k v p r h m e = absurd cc
first_none A (x ∷ xs) [] vs k v p r h m e = none vs r
  where
    none : (vs : List ℕ) → Rows A (x ∷ xs) [] vs → ⊥
    none [] r = r
    none (u ∷ us) r = r
first_none A (x ∷ xs) (q ∷ ps) [] k v p r h m e = r
first_none A (x ∷ xs) (q ∷ ps) (u ∷ us) k v p r h m e = by (nat_eq u v) refl h (λ g n. first_none A xs ps us (k + 1) v p r.1.1 g n e)
  where
    by : (d : Bool) → nat_eq u v ≡ d → (if d then Some k else first_at (k + 1) us v) ≡ None → (first_at (k + 1) us v ≡ None → IsTrue (is_among (map (λ (y : Placed). y.place) xs) p) → ⊥) → ⊥
    by true f g rest = absurd cc
    by false f g rest =
        or_cases (same_place x.place p) (is_among (map (λ (y : Placed). y.place) xs) p) m
        (λ s. let number : Some u ≡ Some v = sym r.1.0 ∙ ap A (place_same x.place p s) ∙ e in let is : u ≡ v = some_one u v number in let t : nat_eq u v ≡ true = (Decides-eqb u v).1 is in let no : false ≡ true = sym f ∙ t in absurd cc)
        (λ n. rest g n)

first_is : (k i v : ℕ) (vs : List ℕ) → first_at k vs v ≡ Some i → Is v vs
first_is k i v [] h = absurd cc
first_is k i v (u ∷ us) h = by (nat_eq u v) refl h (λ g. first_is (k + 1) i v us g)
  where
    by : (d : Bool) → nat_eq u v ≡ d → (if d then Some k else first_at (k + 1) us v) ≡ Some i → (first_at (k + 1) us v ≡ Some i → Is v us) → Is v (u ∷ us)
    by true e g rest = inl (sym ((Decides-eqb u v).0 e))
    by false e g rest = inr (rest g)

unequal_less : (i j : ℕ) → i ≤ j → (i ≡ j → ⊥) → i < j
unequal_less i j h d = omega arith

-- ---- lists of numbers

numbers_append : (vs xs ys : List ℕ) → numbers_of vs (xs ++ ys) ≡ numbers_of vs xs ++ numbers_of vs ys
numbers_append vs [] ys = refl
numbers_append vs (x ∷ xs) ys = ap (λ is. in_list (first_at 0 vs x) ++ is) (numbers_append vs xs ys) ∙ sym (append_assoc (in_list (first_at 0 vs x)) (numbers_of vs xs) (numbers_of vs ys))

pub picked_append : (ps : List Point) (is js : List ℕ) → picked ps (is ++ js) ≡ picked ps is ++ picked ps js
picked_append ps [] js = refl
picked_append ps (i ∷ is) js = ap (λ more. point_by ps i ++ more) (picked_append ps is js) ∙ sym (append_assoc (point_by ps i) (picked ps is) (picked ps js))

pub record SplitAt (vs c before : List ℕ) (i : ℕ) (after : List ℕ) : Type 0 where
  pub front : List ℕ
  pub vertex : ℕ
  pub rear : List ℕ
  pub split : c ≡ front ++ vertex ∷ rear
  pub fronts : numbers_of vs front ≡ before
  pub number : first_at 0 vs vertex ≡ Some i
  pub rears : numbers_of vs rear ≡ after

split_numbers : (vs c before : List ℕ) (i : ℕ) (after : List ℕ) → numbers_of vs c ≡ before ++ i ∷ after → SplitAt vs c before i after
split_numbers vs [] before i after h = absurd (none before h)
  where
    none : (before : List ℕ) → [] ≡ before ++ i ∷ after → ⊥
    none [] h = absurd cc
    none (b ∷ bs) h = absurd cc
split_numbers vs (u ∷ c) before i after h = by (first_at 0 vs u) refl before h (λ bs g. split_numbers vs c bs i after g)
  where
    by : (o : Option ℕ) → first_at 0 vs u ≡ o → (before : List ℕ) → in_list o ++ numbers_of vs c ≡ before ++ i ∷ after → ((bs : List ℕ) → numbers_of vs c ≡ bs ++ i ∷ after → SplitAt vs c bs i after) → SplitAt vs (u ∷ c) before i after
    by None e bs g rest =
        let t = rest bs g in
        record { front = u ∷ t.front; vertex = t.vertex; rear = t.rear; split = ap (λ xs. u ∷ xs) t.split; fronts = ap (λ o. in_list o ++ numbers_of vs t.front) e ∙ t.fronts; number = t.number; rears = t.rears }
    by (Some k) e [] g rest =
        let same : k ≡ i = cc in
        let more : numbers_of vs c ≡ after = cc in
        record { front = []; vertex = u; rear = c; split = refl; fronts = refl; number = e ∙ ap Some same; rears = more }
    by (Some k) e (b ∷ bs) g rest =
        let same : k ≡ b = cc in
        let more : numbers_of vs c ≡ bs ++ i ∷ after = cc in
        let t = rest bs more in
        record { front = u ∷ t.front; vertex = t.vertex; rear = t.rear; split = ap (λ xs. u ∷ xs) t.split; fronts = ap (λ o. in_list o ++ numbers_of vs t.front) e ∙ ap (λ xs. k ∷ xs) t.fronts ∙ ap (λ z. z ∷ bs) same; number = t.number; rears = t.rears }

-- ---- vertices that differ

none_insert : (ys : List ℕ) (x : ℕ) (xs : List ℕ) (y : ℕ) → IsNone (ys ++ xs) y → (x ≡ y → ⊥) → IsNone (ys ++ x ∷ xs) y
none_insert [] x xs y h d = (d, h)
none_insert (z ∷ ys) x xs y h d = (h.0, none_insert ys x xs y h.1 d)

distinct_insert : (ys : List ℕ) (x : ℕ) (xs : List ℕ) → AreDistinct (ys ++ xs) → IsNone (ys ++ xs) x → AreDistinct (ys ++ x ∷ xs)
distinct_insert [] x xs h d = (d, h)
distinct_insert (y ∷ ys) x xs h d = (none_insert ys x xs y h.0 (λ e. d.0 (sym e)), distinct_insert ys x xs h.1 d.1)

none_swap : (xs ys : List ℕ) (a : ℕ) → IsNone (xs ++ ys) a → IsNone (ys ++ xs) a
none_swap [] ys a h = subst (λ zs. IsNone zs a) (sym (append-nil ys)) h
none_swap (x ∷ xs) ys a h = none_insert ys x xs a (none_swap xs ys a h.1) h.0

distinct_swap : (xs ys : List ℕ) → AreDistinct (xs ++ ys) → AreDistinct (ys ++ xs)
distinct_swap [] ys h = subst AreDistinct (sym (append-nil ys)) h
distinct_swap (x ∷ xs) ys h = distinct_insert ys x xs (distinct_swap xs ys h.1) (none_swap xs ys x h.0)

-- ---- where a point stands

at_all : (Q : Placed → Type 0) (xs : List Placed) (i : ℕ) (x : Placed) → All Q xs → at xs i ≡ Some x → Q x
at_all Q [] i x h e = absurd cc
at_all Q (y ∷ ys) zero x h e = let same : y ≡ x = cc in subst Q same (All-head Q y ys h)
at_all Q (y ∷ ys) (suc i) x h e = at_all Q ys i x (All-tail Q y ys h) e

pub record ListedAt (xs : List Placed) (i : ℕ) (x : Placed) : Type 0 where
  pub before : List Placed
  pub behind : List Placed
  pub split : xs ≡ before ++ x ∷ behind
  pub later : (j : ℕ) (y : Placed) → i < j → at xs j ≡ Some y → Contains behind y

listed_at : (xs : List Placed) (i : ℕ) (x : Placed) → at xs i ≡ Some x → ListedAt xs i x
listed_at [] i x e = absurd cc
listed_at (y ∷ ys) zero x e =
    let same : y ≡ x = cc in
    record { before = []; behind = ys; split = ap (λ z. z ∷ ys) same; later = λ j z l g. after j z l g }
  where
    after : (j : ℕ) (z : Placed) → 0 < j → at (y ∷ ys) j ≡ Some z → Contains ys z
    after zero z l g = absurd (omega arith)
    after (suc j) z l g = at_all (Contains ys) ys j z (All-contains_itself ys) g
listed_at (y ∷ ys) (suc i) x e = by (listed_at ys i x e)
  where
    by : ListedAt ys i x → ListedAt (y ∷ ys) (suc i) x
    by t = record { before = y ∷ t.before; behind = t.behind; split = ap (λ zs. y ∷ zs) t.split; later = λ j z l g. after t j z l g }
      where
        after : ListedAt ys i x → (j : ℕ) (z : Placed) → suc i < j → at (y ∷ ys) j ≡ Some z → Contains t.behind z
        after u zero z l g = absurd (omega arith)
        after u (suc j) z l g = t.later j z (omega arith) g

-- ---- none below

none_below : (k : ℕ) (xs : List ℕ) → ((j : ℕ) → j < length xs → k ≤ get_or xs j 0) → NoneBelow k xs
none_below k [] f = tt
none_below k (x ∷ xs) f = (f 0 (omega arith), none_below k xs (λ j l. f (suc j) (omega arith)))

none_split : (k : ℕ) (xs ys : List ℕ) → NoneBelow k (xs ++ ys) → NoneBelow k xs × NoneBelow k ys
none_split k [] ys h = (tt, h)
none_split k (x ∷ xs) ys h = let t = none_split k xs ys h.1 in ((h.0, t.0), t.1)

none_join : (k : ℕ) (xs ys : List ℕ) → NoneBelow k xs → NoneBelow k ys → NoneBelow k (xs ++ ys)
none_join k [] ys a b = b
none_join k (x ∷ xs) ys a b = (a.0, none_join k xs ys a.1 b)

take_one : (ns : List ℕ) (f : ℕ) → f < length ns → take (f + 1) ns ≡ take f ns ++ get_or ns f 0 ∷ []
take_one ns f l = ap (λ k. take k ns) (let e : f + 1 ≡ suc f = omega arith in e) ∙ by ns f l
  where
    by : (xs : List ℕ) (i : ℕ) → i < length xs → take (suc i) xs ≡ take i xs ++ get_or xs i 0 ∷ []
    by [] i h = absurd (omega arith)
    by (x ∷ xs) zero h = refl
    by (x ∷ xs) (suc i) h = ap (λ more. x ∷ more) (by xs i (omega arith))

-- ---- a node

module _ (n : Node) (known : NamesDeclared n) (once : NamesDefinedOnce n) where
  abbrev pub own_points : List Point
  own_points = points_in (of_node n)

  abbrev pub own_vertices : List ℕ
  own_vertices = vertices_in (of_node n)

  rows : Rows (number_node n) (points n) own_points own_vertices
  rows = rows_of (number_node n) (points n) (of_node n) (node_listed n)

  one_place : (p q : Place) (v : ℕ) → number_node n p ≡ Some v → number_node n q ≡ Some v → q ≡ p
  one_place p q v h g = let same : Some q ≡ Some p = sym (node_placed n q v g) ∙ node_placed n p v h in cc

  stands_at : (i v : ℕ) → first_at 0 own_vertices v ≡ Some i → Stands (number_node n) (points n) own_points i v
  stands_at i v h =
      let t = stands_by (number_node n) (points n) own_points own_vertices 0 i v rows h in
      subst (λ j. Stands (number_node n) (points n) own_points j v) (let e : i ≡ t.0 + 0 = t.1.0 in let g : t.0 ≡ i = omega arith in g) t.1.1

  -- a vertex with a point is that point
  own_kind : (i v : ℕ) (h : first_at 0 own_vertices v ≡ Some i) (k : Kind n once v) → place_by n once v k ≡ (stands_at i v h).placed.place ∷ []
  own_kind i v h (inl p) = ap (λ q. q ∷ []) (one_place (stands_at i v h).placed.place p.0 v (stands_at i v h).number p.1.0)
  own_kind i v h (inr c) = absurd (no_control n once v (first_is 0 i v own_vertices h) c)

  abbrev AllAmong : List Place → Type 0
  AllAmong [] = ⊤
  AllAmong (p ∷ ps) = IsTrue (is_among (places n) p) × AllAmong ps

  all_among_split : (ps qs : List Place) → AllAmong (ps ++ qs) → AllAmong qs
  all_among_split [] qs h = h
  all_among_split (p ∷ ps) qs h = all_among_split ps qs h.1

  chain_among : (p : Place) (qs : List Place) (end : Place) → Chain n p qs end → AllAmong qs
  chain_among p [] end h = tt
  chain_among p (q ∷ qs) end h = (contained (places n) q (sources_are_points n known p q (read_source q (sources n p) h.0)), chain_among q qs end h.1)

  abbrev Ats : List ℕ → List Placed → Type 0
  Ats [] [] = ⊤
  Ats [] (o ∷ os) = ⊥
  Ats (i ∷ is) [] = ⊥
  Ats (i ∷ is) (o ∷ os) = (at (points n) i ≡ Some o) × Ats is os

  -- the placed points among some vertices
  pub record Told (c : List ℕ) : Type 0 where
    pub placed : List Placed
    pub here : map (λ (o : Placed). o.place) placed ≡ among n once c
    pub named : picked own_points (numbers_of own_vertices c) ≡ map (λ (o : Placed). o.point) placed
    pub ats : Ats (numbers_of own_vertices c) placed

  told : (c : List ℕ) → AllAmong (among n once c) → Told c
  told [] h = record { placed = []; here = refl; named = refl; ats = tt }
  told (v ∷ c) h = by (first_at 0 own_vertices v) refl (told c (all_among_split (place_by n once v (kind_of n once v)) (among n once c) h))
    where
      none : (k : Kind n once v) → first_at 0 own_vertices v ≡ None → AllAmong (place_by n once v k ++ among n once c) → place_by n once v k ≡ []
      none (inl p) e h = absurd (first_none (number_node n) (points n) own_points own_vertices 0 v p.0 rows e h.0 p.1.0)
      none (inr c) e h = refl

      by : (o : Option ℕ) → first_at 0 own_vertices v ≡ o → Told c → Told (v ∷ c)
      by None e t =
          let is : numbers_of own_vertices (v ∷ c) ≡ numbers_of own_vertices c = ap (λ o. in_list o ++ numbers_of own_vertices c) e in
          record { placed = t.placed; here = t.here ∙ sym (ap (λ ps. ps ++ among n once c) (none (kind_of n once v) e h)); named = ap (picked own_points) is ∙ t.named; ats = subst (λ js. Ats js t.placed) (sym is) t.ats }
      by (Some i) e t =
          let s = stands_at i v e in
          let is : numbers_of own_vertices (v ∷ c) ≡ i ∷ numbers_of own_vertices c = ap (λ o. in_list o ++ numbers_of own_vertices c) e in
          record {
            placed = s.placed ∷ t.placed;
            here = ap (λ ps. s.placed.place ∷ ps) t.here ∙ sym (ap (λ ps. ps ++ among n once c) (own_kind i v e (kind_of n once v)));
            named = ap (picked own_points) is ∙ ap (λ ps. ps ++ picked own_points (numbers_of own_vertices c)) s.point ∙ ap (λ ps. s.placed.point ∷ ps) t.named;
            ats = subst (λ js. Ats js (s.placed ∷ t.placed)) (sym is) (s.found, t.ats);
          }

  -- places of vertices that differ
  none_of : (us : List ℕ) (v : ℕ) (p : Place) → number_node n p ≡ Some v → IsNone us v → IsNoneOf (among n once us) p
  none_of [] v p e h = tt
  none_of (u ∷ us) v p e h = by (kind_of n once u) (none_of us v p e h.1)
    where
      by : (k : Kind n once u) → IsNoneOf (among n once us) p → IsNoneOf (place_by n once u k ++ among n once us) p
      by (inl q) rest = (λ g. h.0 (some_one u v (sym q.1.0 ∙ ap (number_node n) g ∙ e)), rest)
      by (inr c) rest = rest

  each_once : (us : List ℕ) → AreDistinct us → EachOnce (among n once us)
  each_once [] h = tt
  each_once (u ∷ us) h = by (kind_of n once u) (each_once us h.1)
    where
      by : (k : Kind n once u) → EachOnce (among n once us) → EachOnce (place_by n once u k ++ among n once us)
      by (inl q) rest = (none_of us u q.0 q.1.0 h.0, rest)
      by (inr c) rest = rest

  later_all : (behind : List Placed) (i : ℕ) (first : Placed) (is : List ℕ) (os : List Placed) → at (points n) i ≡ Some first → ((j : ℕ) (y : Placed) → i < j → at (points n) j ≡ Some y → Contains behind y) → NoneBelow i is → Ats is os → IsNoneOf (map (λ (o : Placed). o.place) os) first.place → All (Contains behind) os
  later_all behind i first [] [] e f b a d = All-nil (Contains behind)
  later_all behind i first [] (o ∷ os) e f b a d = absurd a
  later_all behind i first (j ∷ is) [] e f b a d = absurd a
  later_all behind i first (j ∷ is) (o ∷ os) e f b a d =
      let less : i < j = strict i j b.0 (λ g. d.0 (let s : Some o ≡ Some first = sym a.0 ∙ ap (at (points n)) (sym g) ∙ e in let t : o ≡ first = cc in ap (λ (z : Placed). z.place) t)) in
      All-cons (Contains behind) o os (f j o less a.0) (later_all behind i first is os e f b.1 a.1 d.1)
    where
      strict : (i j : ℕ) → i ≤ j → (i ≡ j → ⊥) → i < j
      strict i j h d = by (nat_eq i j) refl
        where
          by : (b : Bool) → nat_eq i j ≡ b → i < j
          by true e = absurd (d ((Decides-eqb i j).0 e))
          by false e = unequal_less i j h (λ g. let t : nat_eq i j ≡ true = (Decides-eqb i j).1 g in let no : false ≡ true = sym e ∙ t in absurd cc)

  -- The points of a cycle of vertices, from one on whose number is the least.
  pub cycle_named : (c before : List ℕ) (i : ℕ) (after : List ℕ) → IsCycle (reads_in (of_node n)) c → AreDistinct c → numbers_of own_vertices c ≡ before ++ i ∷ after → NoneBelow i (after ++ before) → IsCycleOf n (picked own_points ((i ∷ after) ++ (before ++ i ∷ [])))
  cycle_named c before i after h distinct e least =
      let t = split_numbers own_vertices c before i after e in
      let s = stands_at i t.vertex t.number in
      let rest = t.rear ++ t.front in
      let numbers : numbers_of own_vertices rest ≡ after ++ before = numbers_append own_vertices t.rear t.front ∙ ap (λ is. is ++ numbers_of own_vertices t.front) t.rears ∙ ap (λ is. after ++ is) t.fronts in
      let round : Leads (reads_in (of_node n)) t.vertex rest t.vertex = leads_around n once c t.front t.vertex t.rear h t.split in
      let chain = around t.vertex rest i t.number round in
      let own = told rest (chain_among s.placed.place (among n once rest) s.placed.place chain) in
      let apart : AreDistinct (t.vertex ∷ rest) = distinct_swap t.front (t.vertex ∷ t.rear) (subst AreDistinct t.split distinct) in
      let none : IsNoneOf (map (λ (o : Placed). o.place) own.placed) s.placed.place = subst (λ ps. IsNoneOf ps s.placed.place) (sym own.here) (none_of rest t.vertex s.placed.place s.number apart.0) in
      let each : EachOnce (map (λ (o : Placed). o.place) own.placed) = subst EachOnce (sym own.here) (each_once rest apart.1) in
      let spot = listed_at (points n) i s.placed s.found in
      record {
        first = s.placed;
        others = own.placed;
        told = all_named i after before s.placed own.placed s.point (ap (picked own_points) (sym numbers) ∙ own.named);
        reads = subst (λ ps. Chain n s.placed.place ps s.placed.place) (sym own.here) chain;
        before = spot.before;
        behind = spot.behind;
        listed = spot.split;
        later = later_all spot.behind i s.placed (numbers_of own_vertices rest) own.placed s.found spot.later (subst (NoneBelow i) (sym numbers) least) own.ats none;
        once = (none, each);
      }
    where
      around : (v : ℕ) (rest : List ℕ) (i : ℕ) (g : first_at 0 own_vertices v ≡ Some i) → Leads (reads_in (of_node n)) v rest v → Chain n (stands_at i v g).placed.place (among n once rest) (stands_at i v g).placed.place
      around v rest i g l = by (kind_of n once v)
        where
          by : Kind n once v → Chain n (stands_at i v g).placed.place (among n once rest) (stands_at i v g).placed.place
          by (inl p) =
              let same : p.0 ≡ (stands_at i v g).placed.place = one_place (stands_at i v g).placed.place p.0 v (stands_at i v g).number p.1.0 in
              subst (λ q. Chain n q (among n once rest) q) same (read_around n once v rest p.0 p.1.0 p.1.1 l)
          by (inr c) = absurd (no_control n once v (first_is 0 i v own_vertices g) c)

      all_named : (i : ℕ) (after before : List ℕ) (first : Placed) (os : List Placed) → point_by own_points i ≡ first.point ∷ [] → picked own_points (after ++ before) ≡ map (λ (o : Placed). o.point) os
          → picked own_points ((i ∷ after) ++ (before ++ i ∷ [])) ≡ map (λ (o : Placed). o.point) (first ∷ (os ++ first ∷ []))
      all_named i after before first os one rest =
          ap (λ is. picked own_points (i ∷ is)) (sym (append_assoc after before (i ∷ [])))
          ∙ ap (λ ps. point_by own_points i ++ ps) (picked_append own_points (after ++ before) (i ∷ []))
          ∙ ap (λ ps. ps ++ (picked own_points (after ++ before) ++ (point_by own_points i ++ []))) one
          ∙ ap (λ ps. first.point ∷ (ps ++ (point_by own_points i ++ []))) rest
          ∙ ap (λ ps. first.point ∷ (map (λ (o : Placed). o.point) os ++ (ps ++ []))) one
          ∙ ap (λ ps. first.point ∷ ps) (sym (map-append (λ (o : Placed). o.point) os (first ∷ [])))

  end_among : (p : Place) (qs : List Place) (end : Place) → Chain n p qs end → IsTrue (is_among (places n) end)
  end_among p [] end h = contained (places n) end (sources_are_points n known p end (read_source end (sources n p) h))
  end_among p (q ∷ qs) end h = end_among q qs end h.1

  -- A cycle has a point.
  numbers_some : (c : List ℕ) → IsCycle (reads_in (of_node n)) c → numbers_of own_vertices c ≡ [] → ⊥
  numbers_some c h e =
      let t = read_point n once c h in
      let front = t.0 in
      let v = t.1.0 in
      let rear = t.1.1.0 in
      let p = t.1.1.1.0 in
      let facts = t.1.1.1.1 in
      let chain = read_around n once v (rear ++ front) p facts.1.0 facts.1.1 (leads_around n once c front v rear h facts.0) in
      let m = end_among p (among n once (rear ++ front)) p chain in
      by (first_at 0 own_vertices v) rear front (sym (numbers_append own_vertices front (v ∷ rear)) ∙ sym (ap (numbers_of own_vertices) facts.0) ∙ e) (λ g. first_none (number_node n) (points n) own_points own_vertices 0 v p rows g m facts.1.0)
    where
      filled : (xs : List ℕ) (i : ℕ) (ys : List ℕ) → xs ++ i ∷ ys ≡ [] → ⊥
      filled [] i ys h = absurd cc
      filled (x ∷ xs) i ys h = absurd cc

      by : (o : Option ℕ) (rear front : List ℕ) → numbers_of own_vertices front ++ (in_list o ++ numbers_of own_vertices rear) ≡ [] → (o ≡ None → ⊥) → ⊥
      by None rear front e f = f refl
      by (Some i) rear front e f = filled (numbers_of own_vertices front) i (numbers_of own_vertices rear) e

  distinct_of : (c : List ℕ) → IsCycle (reads_in (of_node n)) c → AreDistinct c
  distinct_of [] h = absurd h
  distinct_of (a ∷ others) h = h.1

  pub some_number : (c ns : List ℕ) → IsCycle (reads_in (of_node n)) c → ns ≡ numbers_of own_vertices c → 0 < length ns
  some_number c [] h e = absurd (numbers_some c h (sym e))
  some_number c (i ∷ is) h e = omega arith

  pub turned_cycle : (c ns : List ℕ) (f : ℕ) → IsCycle (reads_in (of_node n)) c → ns ≡ numbers_of own_vertices c → f < length ns → ((j : ℕ) → j < length ns → get_or ns f 0 ≤ get_or ns j 0) → IsCycleOf n (picked own_points (drop f ns ++ take (f + 1) ns))
  turned_cycle c ns f h e l least =
      let i = get_or ns f 0 in
      let before = take f ns in
      let after = drop (f + 1) ns in
      let behind : drop f ns ≡ i ∷ after = drop-next ns f i l (get_or_default ns f 0 i l) in
      let split : ns ≡ before ++ i ∷ after = sym (take-append-drop f ns) ∙ ap (λ more. before ++ more) behind in
      let up_to : take (f + 1) ns ≡ before ++ i ∷ [] = take_one ns f l in
      let all : NoneBelow i ns = none_below i ns least in
      let sides : NoneBelow i before × NoneBelow i (i ∷ after) = none_split i before (i ∷ after) (subst (NoneBelow i) split all) in
      subst (λ js. IsCycleOf n (picked own_points js)) (sym (ap (λ xs. xs ++ take (f + 1) ns) behind ∙ ap (λ xs. (i ∷ after) ++ xs) up_to))
      (cycle_named c before i after h (distinct_of c h) (sym e ∙ split) (none_join i after before sides.1.1 sides.0))
