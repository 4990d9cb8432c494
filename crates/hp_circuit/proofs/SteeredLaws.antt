-- Which wires read a controllable variable.
use Rattle.std.proofs.Common.{◌≡◌, ◌≢◌, ◌≤◌, ◌<◌, ◌+◌, ◌⊎◌, inl, inr, ℕ, zero, suc, Bool, true, false, List, [], ◌∷◌, ◌++◌, length, set, take, drop, get_or, replicate, refl, sym, ap, subst, ◌∙◌, arith}
use Rattle.std.specs.Prelude.{All, Contains, nat_le}
use Rattle.std.specs.List.Sorted.{IsNonDecreasingBy, IsPermutation}
use Rattle.std.proofs.Math.Seq.{take-append_seam}
use Rattle.std.proofs.lemmas.List.{get_or-set_same, get_or-set_other}
use Rattle.std.proofs.lemmas.List.Elements.{All-contains, All-get_or, All-push, Contains-append_left, Contains-get_or, Contains-push}
use Rattle.std.proofs.lemmas.List.Sorted.{All-permutation, Contains-permutation}
use Rattle.std.proofs.Math.ListN.{get_or-eq_default}
use Rattle.hp_graph.specs.Graphs.{AreRanks, AreWithin}
use Rattle.hp_circuit.specs.declared.circuit.Slot.{Slot}
use Rattle.hp_circuit.specs.Ordering.{AreEdgesByRank, AreFalling}
use Rattle.hp_circuit.specs.Reading.{IsControl, IsMarked, IsSteered, AreSteered}
use Rattle.hp_circuit.proofs.NumberLaws.{tests, le_true, le_false}

-- ---- marks

pub same_number : (a b : ℕ) → (a ≡ b) ⊎ (a ≢ b)
same_number zero zero = inl refl
same_number zero (suc b) = inr (λ e. omega (arith, e))
same_number (suc a) zero = inr (λ e. omega (arith, e))
same_number (suc a) (suc b) = by (same_number a b)
  where
    by : (a ≡ b) ⊎ (a ≢ b) → (suc a ≡ suc b) ⊎ (suc a ≢ suc b)
    by (inl e) = inl (ap suc e)
    by (inr f) = inr (λ e. f (omega (arith, e)))

-- one more mark
pub marked_here : (marks : List Bool) (i : ℕ) → i < length marks → IsMarked (set marks i true) i
marked_here marks i l = get_or-set_same marks i true false l

pub marked_kept : (marks : List Bool) (i w : ℕ) → i < length marks → IsMarked marks w → IsMarked (set marks i true) w
marked_kept marks i w l h = by (same_number w i)
  where
    by : (w ≡ i) ⊎ (w ≢ i) → IsMarked (set marks i true) w
    by (inl e) = subst (λ z. IsMarked (set marks i true) z) (sym e) (marked_here marks i l)
    by (inr f) = get_or-set_other marks i w true false f ∙ h

pub marked_new : (marks : List Bool) (i w : ℕ) → IsMarked (set marks i true) w → IsMarked marks w ⊎ (w ≡ i)
marked_new marks i w h = by (same_number w i)
  where
    by : (w ≡ i) ⊎ (w ≢ i) → IsMarked marks w ⊎ (w ≡ i)
    by (inl e) = inr e
    by (inr f) = inl (sym (get_or-set_other marks i w true false f) ∙ h)

pub none_marked : (n w : ℕ) → IsMarked (replicate n false) w → ⊥
none_marked n w h = absurd (let e : false ≡ true = sym (false_at n w) ∙ h in cc)
  where
    false_at : (n w : ℕ) → get_or (replicate n false) w false ≡ false
    false_at zero w = get_or-eq_default {A = Bool} [] false {n = w} (omega arith)
    false_at (suc n) zero = refl
    false_at (suc n) (suc w) = false_at n w

-- ---- edges in order

-- the first edges, each behind the rank of the wire that reads
abbrev pub AreEdges : List (ℕ × ℕ) → List ℕ → ℕ → List (ℕ × ℕ × ℕ) → Type 0
AreEdges edges ranks many sorted =
    All (λ e. (e.1 < length ranks) × (e.2 < length ranks)) sorted
    × All (λ e. Contains edges (e.1, e.2)) sorted
    × All (λ e. e.0 ≡ get_or ranks e.1 0) sorted
    × ((k : ℕ) (d : ℕ × ℕ) → k < many → Contains sorted (get_or ranks (get_or edges k d).0 0, (get_or edges k d).0, (get_or edges k d).1))

default_free : (xs : List (ℕ × ℕ)) (k : ℕ) (d e : ℕ × ℕ) → k < length xs → get_or xs k d ≡ get_or xs k e
default_free [] k d e l = absurd (omega (arith, l))
default_free (x ∷ xs) zero d e l = refl
default_free (x ∷ xs) (suc k) d e l = default_free xs k d e (omega (arith, l))

pub one_edge : (edges : List (ℕ × ℕ)) (ranks : List ℕ) (sorted more : List (ℕ × ℕ × ℕ)) (i : ℕ) → AreWithin (length ranks) edges → i < length edges → AreEdges edges ranks i sorted
    → more ≡ sorted ++ (get_or ranks (get_or edges i (0, 0)).0 0, (get_or edges i (0, 0)).0, (get_or edges i (0, 0)).1) ∷ [] → AreEdges edges ranks (i + 1) more
one_edge edges ranks sorted more i within l h e = subst (AreEdges edges ranks (i + 1)) (sym e) (
  All-push (λ (e : ℕ × ℕ × ℕ). (e.1 < length ranks) × (e.2 < length ranks)) sorted new h.0 (All-get_or (λ e. (e.0 < length ranks) × (e.1 < length ranks)) edges i (0, 0) l within),
  All-push (λ (e : ℕ × ℕ × ℕ). Contains edges (e.1, e.2)) sorted new h.1 (Contains-get_or edges i (0, 0) l),
  All-push (λ (e : ℕ × ℕ × ℕ). e.0 ≡ get_or ranks e.1 0) sorted new h.2 refl,
  λ k d m. tests (nat_le i k)
      (λ t.
      let s : get_or edges k d ≡ get_or edges i (0, 0) =
      ap (λ n. get_or edges n d) (let u = le_true i k t in let s : k ≡ i = omega (arith, m, u) in s) ∙ default_free edges i d (0, 0) l in
      subst (λ (p : ℕ × ℕ). Contains (sorted ++ new ∷ []) (get_or ranks p.0 0, p.0, p.1)) (sym s) (Contains-push sorted new))
      (λ f. Contains-append_left sorted (new ∷ []) (get_or ranks (get_or edges k d).0 0, (get_or edges k d).0, (get_or edges k d).1) (h.3 k d (le_false i k f))),
)
  where
    new : ℕ × ℕ × ℕ
    new = (get_or ranks (get_or edges i (0, 0)).0 0, (get_or edges i (0, 0)).0, (get_or edges i (0, 0)).1)

pub edges_by_rank : (edges : List (ℕ × ℕ)) (ranks : List ℕ) (i : ℕ) (some sorted : List (ℕ × ℕ × ℕ)) → i ≡ length edges → AreEdges edges ranks i some → IsPermutation some sorted
    → IsNonDecreasingBy (λ e. e.0) sorted → AreEdgesByRank edges ranks sorted
edges_by_rank edges ranks i some sorted e h p up = record {
  within = All-permutation (λ (e : ℕ × ℕ × ℕ). (e.1 < length ranks) × (e.2 < length ranks)) some sorted p h.0;
  are = All-permutation (λ (e : ℕ × ℕ × ℕ). Contains edges (e.1, e.2)) some sorted p h.1;
  own = All-permutation (λ (e : ℕ × ℕ × ℕ). e.0 ≡ get_or ranks e.1 0) some sorted p h.2;
  whole = λ k d l. Contains-permutation some sorted (get_or ranks (get_or edges k d).0 0, (get_or edges k d).0, (get_or edges k d).1) p (h.3 k d (omega (arith, l, e)));
  rising = up;
}

-- edges by rank fall where ranks do
pub falling : (count : ℕ) (edges : List (ℕ × ℕ)) (ranks : List ℕ) (sorted : List (ℕ × ℕ × ℕ)) → AreRanks count edges ranks → AreEdgesByRank edges ranks sorted → AreFalling ranks sorted
falling count edges ranks sorted are by = record {
  own = by.own;
  falls = λ k d l. All-contains (λ (e : ℕ × ℕ). get_or ranks e.1 0 < get_or ranks e.0 0) edges ((get_or sorted k d).1, (get_or sorted k d).2) are.falls (by.are k d l);
  rising = by.rising;
}

-- what holds of all edges by rank holds of all edges
pub closed_all : (edges : List (ℕ × ℕ)) (ranks : List ℕ) (sorted : List (ℕ × ℕ × ℕ)) (marks : List Bool) → AreEdgesByRank edges ranks sorted
    → All (λ e. IsMarked marks e.2 → IsMarked marks e.1) sorted → All (λ e. IsMarked marks e.1 → IsMarked marks e.0) edges
closed_all edges ranks sorted marks by all k d l =
    All-contains (λ (e : ℕ × ℕ × ℕ). IsMarked marks e.2 → IsMarked marks e.1) sorted (get_or ranks (get_or edges k d).0 0, (get_or edges k d).0, (get_or edges k d).1) all (by.whole k d l)

-- ---- readers of what is marked

-- what was marked stays so, and what is marked besides reads a controllable variable
abbrev pub Grown : List (ℕ × ℕ × ℕ) → List Bool → List Bool → Type 0
Grown edges first marks =
    ((w : ℕ) → IsMarked first w → IsMarked marks w)
    × ((slots : List Slot) (all : List (ℕ × ℕ)) → All (λ e. Contains all (e.1, e.2)) edges → ((w : ℕ) → IsMarked first w → IsSteered slots all w) → (w : ℕ) → IsMarked marks w → IsSteered slots all w)

pub grown_more : (edges : List (ℕ × ℕ × ℕ)) (first marks : List Bool) (i : ℕ) → i < length edges → (get_or edges i (0, 0, 0)).1 < length marks → IsMarked marks (get_or edges i (0, 0, 0)).2
    → Grown edges first marks → Grown edges first (set marks (get_or edges i (0, 0, 0)).1 true)
grown_more edges first marks i l within read g =
    (λ w h. marked_kept marks reader w within (g.0 w h), λ slots all there old w h. by slots all there old w (marked_new marks reader w h))
  where
    reader : ℕ
    reader = (get_or edges i (0, 0, 0)).1

    by : (slots : List Slot) (all : List (ℕ × ℕ)) → All (λ (e : ℕ × ℕ × ℕ). Contains all (e.1, e.2)) edges → ((w : ℕ) → IsMarked first w → IsSteered slots all w) → (w : ℕ) → IsMarked marks w ⊎ (w ≡ reader) → IsSteered slots all w
    by slots all there old w (inl h) = g.1 slots all there old w h
    by slots all there old w (inr e) =
        subst (IsSteered slots all) (sym e)
        (IsSteered.reads reader (get_or edges i (0, 0, 0)).2 (All-get_or (λ (e : ℕ × ℕ × ℕ). Contains all (e.1, e.2)) edges i (0, 0, 0) l there) (g.1 slots all there old (get_or edges i (0, 0, 0)).2 read))

-- the first edges are closed: where the wire that is read is marked, so is the one that reads
abbrev pub AreClosed : List (ℕ × ℕ × ℕ) → ℕ → List Bool → Type 0
AreClosed edges many marks = (ranks : List ℕ) → AreFalling ranks edges → (k : ℕ) (d : ℕ × ℕ × ℕ) → k < many → IsMarked marks (get_or edges k d).2 → IsMarked marks (get_or edges k d).1

pub same_edge : (edges : List (ℕ × ℕ × ℕ)) (k i : ℕ) (d e : ℕ × ℕ × ℕ) → k ≡ i → i < length edges → get_or edges k d ≡ get_or edges i e
same_edge edges k i d e s l = ap (λ n. get_or edges n d) s ∙ free edges i l
  where
    free : (xs : List (ℕ × ℕ × ℕ)) (i : ℕ) → i < length xs → get_or xs i d ≡ get_or xs i e
    free [] i l = absurd (omega (arith, l))
    free (x ∷ xs) zero l = refl
    free (x ∷ xs) (suc i) l = free xs i (omega (arith, l))

-- the wire that reads is marked: no edge before reads it, since ranks do not fall
pub closed_then : (edges : List (ℕ × ℕ × ℕ)) (marks : List Bool) (i : ℕ) → i < length edges → (get_or edges i (0, 0, 0)).1 < length marks
    → AreClosed edges i marks → AreClosed edges (i + 1) (set marks (get_or edges i (0, 0, 0)).1 true)
closed_then edges marks i l within h ranks f k d m read = tests (nat_le i k) here before
  where
    reader : ℕ
    reader = (get_or edges i (0, 0, 0)).1

    here : nat_le i k ≡ true → IsMarked (set marks reader true) (get_or edges k d).1
    here t =
        let s : k ≡ i = (let u = le_true i k t in omega (arith, m, u)) in
        subst (λ (e : ℕ × ℕ × ℕ). IsMarked (set marks reader true) e.1) (sym (same_edge edges k i d (0, 0, 0) s l)) (marked_here marks reader within)

    by : k < i → IsMarked marks (get_or edges k d).2 ⊎ ((get_or edges k d).2 ≡ reader) → IsMarked (set marks reader true) (get_or edges k d).1
    by lk (inl r) = marked_kept marks reader (get_or edges k d).1 within (h ranks f k d lk r)
    by lk (inr e) =
        let up : (get_or edges k d).0 ≤ (get_or edges i d).0 = f.rising k i d (omega (arith, lk)) l in
        let falls : get_or ranks (get_or edges k d).2 0 < get_or ranks (get_or edges k d).1 0 = f.falls k d (omega (arith, lk, l)) in
        let a : (get_or edges k d).0 ≡ get_or ranks (get_or edges k d).1 0 = f.own k d (omega (arith, lk, l)) in
        let b : (get_or edges i d).0 ≡ get_or ranks (get_or edges i d).1 0 = f.own i d l in
        let c : (get_or edges i d).1 ≡ reader = ap (λ (e : ℕ × ℕ × ℕ). e.1) (same_edge edges i i d (0, 0, 0) refl l) in
        let x : get_or ranks (get_or edges k d).2 0 ≡ get_or ranks (get_or edges i d).1 0 = ap (λ n. get_or ranks n 0) (e ∙ sym c) in
        absurd (omega (arith, up, falls, a, b, x))

    before : nat_le i k ≡ false → IsMarked (set marks reader true) (get_or edges k d).1
    before t = by (le_false i k t) (marked_new marks reader (get_or edges k d).2 read)

-- the wire that is read is not marked
pub closed_else : (edges : List (ℕ × ℕ × ℕ)) (marks : List Bool) (i : ℕ) → i < length edges → (IsMarked marks (get_or edges i (0, 0, 0)).2 → ⊥) → AreClosed edges i marks → AreClosed edges (i + 1) marks
closed_else edges marks i l not h ranks f k d m read = tests (nat_le i k)
    (λ t. absurd (not (subst (λ (e : ℕ × ℕ × ℕ). IsMarked marks e.2) (same_edge edges k i d (0, 0, 0) (let u = le_true i k t in omega (arith, m, u)) l) read)))
    (λ t. h ranks f k d (le_false i k t) read)

-- ---- all that is marked

pub steered_are : (slots : List Slot) (edges : List (ℕ × ℕ)) (marks : List Bool) → ((w : ℕ) → IsControl slots w → IsMarked marks w) → ((w : ℕ) → IsMarked marks w → IsSteered slots edges w)
    → All (λ (e : ℕ × ℕ). IsMarked marks e.1 → IsMarked marks e.0) edges → AreSteered slots edges marks
steered_are slots edges marks whole sound closed w = (sound w, back w)
  where
    back : (x : ℕ) → IsSteered slots edges x → IsMarked marks x
    back x (IsSteered.controls y h) = whole x h
    back x (IsSteered.reads y a e h) = All-contains (λ (p : ℕ × ℕ). IsMarked marks p.1 → IsMarked marks p.0) edges (x, a) closed e (back a h)

-- marks that were put into a vector of their length
pub put_back : (n : ℕ) (marks old : List Bool) → length marks ≡ n → take n (marks ++ drop (length marks) old) ≡ marks
put_back n marks old h = ap (λ m. take m (marks ++ drop (length marks) old)) (sym h) ∙ take-append_seam marks (drop (length marks) old)
