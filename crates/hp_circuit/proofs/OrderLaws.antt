-- Wires, and what they read, in the order of ranks.
use Rattle.std.proofs.Common.{◌≡◌, ◌≤◌, ◌<◌, ℕ, zero, suc, ◌+◌, List, [], ◌∷◌, ◌++◌, length, get_or, refl, sym, ap, subst, ◌∙◌, arith}
use Rattle.std.specs.Prelude.{Bool, true, false, nat_lt, nat_le, All, Contains}
use Rattle.std.specs.Ordering.{is_lt, nat_cmp, ordering_then}
use Rattle.std.specs.declared.cmp.Ordering.{Ordering}
use Rattle.std.specs.List.Sorted.{IsSorted, IsSortedBy, IsNonDecreasingBy, IsPermutation}
use Rattle.std.proofs.lemmas.Bool.Decides.{nat_tests}
use Rattle.std.proofs.lemmas.List.Elements.{All-contains, All-push, Contains-append_left, Contains-append_right, Contains-push}
use Rattle.std.proofs.lemmas.List.Sorted.{All-permutation, Contains-permutation, IsNonDecreasingBy-from_all_adjacent}
use Rattle.hp_graph.specs.Graphs.{AreRanks, AreWithin, IsCycle, Leads, RanksAlong}
use Rattle.hp_circuit.specs.declared.circuit.Circuit.{Circuit}
use Rattle.hp_circuit.specs.declared.circuit.Wire.{Wire}
use Rattle.hp_circuit.specs.declared.circuit.Wire.TheVariants as wire
use Rattle.hp_circuit.specs.Forms.{wire_at, IsCircuit}
use Rattle.hp_circuit.specs.Machines.{HasCircle}
use Rattle.hp_circuit.specs.Making.{AtReads}
use Rattle.hp_circuit.specs.Ordering.{AreByRank, IsAmong, AreInOrder}
use Rattle.hp_circuit.specs.Reading.{operand_edges, wire_edges, edges_of}
use Rattle.hp_circuit.proofs.NumberLaws.{tests, le_true, le_false}
use Rattle.hp_circuit.proofs.MakingLaws.{reads_of}
use Rattle.hp_circuit.proofs.ReadingLaws.{edges_within}

-- ---- what a sort by rank gives

pub first_le : (a b : ℕ) (o : Ordering) → is_lt (ordering_then (nat_cmp b a) o) ≡ false → a ≤ b
first_le a b o h = tests (nat_lt b a) (λ t. absurd (below t)) (λ t. grind (arith, nat_tests, t))
  where
    below : nat_lt b a ≡ true → ⊥
    below t = let e : is_lt (ordering_then (nat_cmp b a) o) ≡ true = (let l : b < a = grind (arith, nat_tests, t) in grind (arith, nat_tests, t)) in cc

first_of_three : (a b : ℕ) (o q : Ordering) → is_lt (ordering_then (ordering_then (nat_cmp b a) o) q) ≡ false → a ≤ b
first_of_three a b o q h = tests (nat_lt b a) (λ t. absurd (below t)) (λ t. grind (arith, nat_tests, t))
  where
    below : nat_lt b a ≡ true → ⊥
    below t = let e : is_lt (ordering_then (ordering_then (nat_cmp b a) o) q) ≡ true = (let l : b < a = grind (arith, nat_tests, t) in grind (arith, nat_tests, t)) in cc

rising : {X : Type 0} (rank : X → ℕ) (lt : X → X → Bool) → ((x y : X) → lt y x ≡ false → rank x ≤ rank y) → (xs : List X) → IsSortedBy lt xs → IsNonDecreasingBy rank xs
rising rank lt sound xs up = IsNonDecreasingBy-from_all_adjacent rank xs (λ k d l. sound (get_or xs k d) (get_or xs (k + 1) d) (up k d (omega arith) l))

pub pairs_rise : (xs : List (ℕ × ℕ)) → IsSorted (λ x y. ordering_then (nat_cmp x.0 y.0) (nat_cmp x.1 y.1)) xs → IsNonDecreasingBy (λ (p : ℕ × ℕ). p.0) xs
pairs_rise xs up = rising (λ (p : ℕ × ℕ). p.0) (λ x y. is_lt (ordering_then (nat_cmp x.0 y.0) (nat_cmp x.1 y.1))) (λ x y h. first_le x.0 y.0 (nat_cmp y.1 x.1) h) xs up

pub triples_rise : (xs : List (ℕ × ℕ × ℕ)) → IsSorted (λ x y. ordering_then (ordering_then (nat_cmp x.0 y.0) (nat_cmp x.1 y.1)) (nat_cmp x.2 y.2)) xs → IsNonDecreasingBy (λ (e : ℕ × ℕ × ℕ). e.0) xs
triples_rise xs up =
    rising (λ (e : ℕ × ℕ × ℕ). e.0) (λ x y. is_lt (ordering_then (ordering_then (nat_cmp x.0 y.0) (nat_cmp x.1 y.1)) (nat_cmp x.2 y.2)))
    (λ x y h. first_of_three x.0 y.0 (nat_cmp y.1 x.1) (nat_cmp y.2 x.2) h) xs up

-- ---- the wires, one after another

-- the first wires, each with its rank
abbrev pub AreSome : List ℕ → ℕ → List (ℕ × ℕ) → Type 0
AreSome ranks many order =
    All (λ p. (p.1 < length ranks) × (p.0 ≡ get_or ranks p.1 0)) order
    × ((w : ℕ) → w < many → Contains order (get_or ranks w 0, w))

pub some_more : (ranks : List ℕ) (i : ℕ) (order more : List (ℕ × ℕ)) → i < length ranks → AreSome ranks i order → more ≡ order ++ (get_or ranks i 0, i) ∷ [] → AreSome ranks (i + 1) more
some_more ranks i order more l h e = subst (AreSome ranks (i + 1)) (sym e) (
  All-push (λ (p : ℕ × ℕ). (p.1 < length ranks) × (p.0 ≡ get_or ranks p.1 0)) order (get_or ranks i 0, i) h.0 (l, refl),
  λ w k. tests (nat_le i w)
      (λ t.
      let s : w ≡ i = (let u = le_true i w t in omega (arith, k, u)) in
      subst (λ v. Contains (order ++ (get_or ranks i 0, i) ∷ []) (get_or ranks v 0, v)) (sym s) (Contains-push order (get_or ranks i 0, i)))
      (λ f. Contains-append_left order ((get_or ranks i 0, i) ∷ []) (get_or ranks w 0, w) (h.1 w (le_false i w f))),
)

pub by_rank : (ranks : List ℕ) (i : ℕ) (order sorted : List (ℕ × ℕ)) → i ≡ length ranks → AreSome ranks i order → IsPermutation order sorted
    → IsSorted (λ x y. ordering_then (nat_cmp x.0 y.0) (nat_cmp x.1 y.1)) sorted → AreByRank ranks sorted
by_rank ranks i order sorted e h p up = record {
  own = All-permutation (λ (q : ℕ × ℕ). (q.1 < length ranks) × (q.0 ≡ get_or ranks q.1 0)) order sorted p h.0;
  whole = λ w l. Contains-permutation order sorted (get_or ranks w 0, w) p (h.1 w (omega (arith, l, e)));
  rising = pairs_rise sorted up;
}

-- ---- each wire comes behind what it reads

reads_edges : (i : ℕ) (w : Wire) (es : List (ℕ × ℕ)) → ((e : ℕ × ℕ) → Contains (operand_edges i w) e → Contains es e) → AtReads (λ a. Contains es (i, a)) w
reads_edges i (wire.Slot k) es f = omega arith
reads_edges i (wire.Constant k) es f = omega arith
reads_edges i (wire.Copy a) es f = f (i, a) (0, omega arith, refl)
reads_edges i (wire.Not a) es f = f (i, a) (0, omega arith, refl)
reads_edges i (wire.And a b) es f = (f (i, a) (0, omega arith, refl), f (i, b) (1, omega arith, refl))
reads_edges i (wire.Or a b) es f = (f (i, a) (0, omega arith, refl), f (i, b) (1, omega arith, refl))
reads_edges i (wire.Xor a b) es f = (f (i, a) (0, omega arith, refl), f (i, b) (1, omega arith, refl))
reads_edges i (wire.Equal a b) es f = (f (i, a) (0, omega arith, refl), f (i, b) (1, omega arith, refl))
reads_edges i (wire.Is a k) es f = f (i, a) (0, omega arith, refl)
reads_edges i (wire.If t a b) es f = (f (i, t) (0, omega arith, refl), f (i, a) (1, omega arith, refl), f (i, b) (2, omega arith, refl))

own_edges : (wires : List Wire) (start k : ℕ) (e : ℕ × ℕ) → k < length wires → Contains (operand_edges (start + k) (wire_at wires k)) e → Contains (wire_edges start wires) e
own_edges [] start k e l h = absurd (omega (arith, l))
own_edges (w ∷ ws) start zero e l h =
    Contains-append_left (operand_edges start w) (wire_edges (suc start) ws) e (subst (λ n. Contains (operand_edges n w) e) (let s : start + 0 ≡ start = omega arith in s) h)
own_edges (w ∷ ws) start (suc k) e l h =
    Contains-append_right (operand_edges start w) (wire_edges (suc start) ws) e
    (own_edges ws (suc start) k e (omega (arith, l)) (subst (λ n. Contains (operand_edges n (wire_at ws k)) e) (let s : start + suc k ≡ suc start + k = omega arith in s) h))

wire_reads : (wires : List Wire) (reads : List (ℕ × ℕ)) (w : ℕ) → w < length wires → AtReads (λ a. Contains (edges_of wires reads) (w, a)) (wire_at wires w)
wire_reads wires reads w l = reads_edges w (wire_at wires w) (edges_of wires reads) (λ e h.
    Contains-append_left (wire_edges 0 wires) reads e (own_edges wires 0 w e l (subst (λ n. Contains (operand_edges n (wire_at wires w)) e) (let s : w ≡ 0 + w = omega arith in s) h)))

-- one that stands at an index
among : (order : List (ℕ × ℕ)) (rank w : ℕ) → Contains order (rank, w) → (k : ℕ) × (k < length order) × (get_or order k (0, 0) ≡ (rank, w))
among order rank w h = (h.0, h.1, at order h.0 (rank, w) (0, 0) h.1 ∙ h.2)
  where
    at : (xs : List (ℕ × ℕ)) (k : ℕ) (d e : ℕ × ℕ) → k < length xs → get_or xs k e ≡ get_or xs k d
    at [] k d e l = absurd (omega (arith, l))
    at (x ∷ xs) zero d e l = refl
    at (x ∷ xs) (suc k) d e l = at xs k d e (omega (arith, l))

in_order : (wires : List Wire) (edges : List (ℕ × ℕ)) (ranks : List ℕ) (order : List (ℕ × ℕ)) → AreWithin (length wires) edges → length ranks ≡ length wires → RanksAlong edges ranks
    → ((w : ℕ) → w < length wires → AtReads (λ a. Contains edges (w, a)) (wire_at wires w)) → AreByRank ranks order → AreInOrder wires order
in_order wires edges ranks order within many along reads by = record { within = inside; whole = whole; behind = behind }
  where
    inside : All (λ (p : ℕ × ℕ). p.1 < length wires) order
    inside k d l = let m : (get_or order k d).1 < length ranks = (by.own k d l).0 in let e = many in omega (arith, m, e)

    whole : (w : ℕ) → w < length wires → IsAmong order (length order) w
    whole w l =
        let found = among order (get_or ranks w 0) w (by.whole w (let e = many in omega (arith, l, e))) in
        (found.0, found.1, ap (λ (p : ℕ × ℕ). p.1) found.2)

    before : (i w : ℕ) → i < length order → w ≡ (get_or order i (0, 0)).1 → (a : ℕ) → Contains edges (w, a) → IsAmong order i a
    before i w l ew a h =
        let ends = All-contains (λ (e : ℕ × ℕ). (e.0 < length wires) × (e.1 < length wires)) edges (w, a) within h in
        let falls : get_or ranks a 0 < get_or ranks w 0 = All-contains (λ (e : ℕ × ℕ). get_or ranks e.1 0 < get_or ranks e.0 0) edges (w, a) along h in
        let la : a < length wires = ends.1 in
        let found = among order (get_or ranks a 0) a (by.whole a (let e = many in omega (arith, la, e))) in
        let mine : (get_or order i (0, 0)).0 ≡ get_or ranks w 0 = (by.own i (0, 0) l).1 ∙ ap (λ n. get_or ranks n 0) (sym ew) in
        let its : (get_or order found.0 (0, 0)).0 ≡ get_or ranks a 0 = ap (λ (p : ℕ × ℕ). p.0) found.2 in
        tests (nat_le i found.0)
        (λ t.
        let up : (get_or order i (0, 0)).0 ≤ (get_or order found.0 (0, 0)).0 = by.rising i found.0 (0, 0) (le_true i found.0 t) found.1 in
        absurd (omega (arith, up, mine, its, falls)))
        (λ f. (found.0, le_false i found.0 f, ap (λ (p : ℕ × ℕ). p.1) found.2))

    behind : (i : ℕ) → i < length order → AtReads (IsAmong order i) (wire_at wires (get_or order i (0, 0)).1)
    behind i l =
        let w = (get_or order i (0, 0)).1 in
        reads_of (λ a. Contains edges (w, a)) (IsAmong order i) (before i w l refl) (wire_at wires w) (reads w (inside i (0, 0) l))

pub circuit_order : (c : Circuit) → IsCircuit c → (edges : List (ℕ × ℕ)) (ranks : List ℕ) (order : List (ℕ × ℕ)) → edges ≡ edges_of c.wires.items c.reads.items → length ranks ≡ length c.wires.items → RanksAlong edges ranks
    → AreByRank ranks order → AreInOrder c.wires.items order
circuit_order c is edges ranks order e many along by =
    in_order c.wires.items (edges_of c.wires.items c.reads.items) ranks order (edges_within c is) many
    (subst (λ (es : List (ℕ × ℕ)). RanksAlong es ranks) e along) (wire_reads c.wires.items c.reads.items) by

-- ---- there is no circle where there are ranks

leads_falls : (edges : List (ℕ × ℕ)) (ranks : List ℕ) → All (λ e. get_or ranks e.1 0 < get_or ranks e.0 0) edges → (a : ℕ) (between : List ℕ) (end : ℕ) → Leads edges a between end → get_or ranks end 0 < get_or ranks a 0
leads_falls edges ranks falls a [] end h = All-contains (λ (e : ℕ × ℕ). get_or ranks e.1 0 < get_or ranks e.0 0) edges (a, end) falls h
leads_falls edges ranks falls a (b ∷ between) end h =
    let here : get_or ranks b 0 < get_or ranks a 0 = All-contains (λ (e : ℕ × ℕ). get_or ranks e.1 0 < get_or ranks e.0 0) edges (a, b) falls h.0 in
    let rest = leads_falls edges ranks falls b between end h.1 in
    omega (arith, here, rest)

no_cycle : (edges : List (ℕ × ℕ)) (ranks : List ℕ) → All (λ e. get_or ranks e.1 0 < get_or ranks e.0 0) edges → (wires : List ℕ) → IsCycle edges wires → ⊥
no_cycle edges ranks falls [] h = h
no_cycle edges ranks falls (a ∷ others) h = let l = leads_falls edges ranks falls a others a h.0 in absurd (omega (arith, l))

pub no_circle : (c : Circuit) (count : ℕ) (edges : List (ℕ × ℕ)) (ranks : List ℕ) → edges ≡ edges_of c.wires.items c.reads.items → AreRanks count edges ranks → HasCircle c → ⊥
no_circle c count edges ranks e are h = no_cycle edges ranks are.falls h.0 (subst (λ (es : List (ℕ × ℕ)). IsCycle es h.0) (sym e) h.1)
