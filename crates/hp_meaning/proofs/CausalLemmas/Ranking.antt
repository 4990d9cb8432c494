-- Ranks of the points of a node are ranks of all its places, and where ranks are there is no cycle.
use Rattle.std.proofs.Common.{◌≡◌, ℕ, suc, ◌<◌, ◌≤◌, List, [], ◌∷◌, map, length, refl, sym, ap₂, ◌∙◌, subst, ⊎_elim, arith}
use Rattle.std.proofs.Math.Nat.{le-max_left, le-max_right}
use Rattle.std.proofs.lemmas.Bool.Decides.{Decides-eqb}
use Rattle.std.proofs.lemmas.Slice.Eq.{bytes_eq-Decides}
use Rattle.std.proofs.lemmas.List.Elements.{All-head, All-tail, All-contains_itself}
use Rattle.std.specs.Prelude.{Bool, true, false, ◌||◌, IsTrue, IsFalse, if◌then◌else◌, nat_eq, All, Contains}
use Rattle.hp_tree.specs.declared.program.Item.TheVariants.{TypeItem, NodeItem}
use Rattle.hp_tree.specs.Programs.{Node}
use Rattle.hp_tree.specs.Instant.{Step, Inputs, Controls, Body, Observer, Assume, Enforce, Named, Fresh, Equations, Head, Tail, Right, Test, Arms, States, Until, Unless, Active, Next, Pending, First, Second, Third, Args, Instance, Place}
use Rattle.hp_meaning.specs.Causal.Sources.{Sources, none, only, both, also, Within, IsRead, IsSource}
use Rattle.hp_meaning.specs.Causal.Causality.{sources, Chain, Ranked, CausalLaw}
use Rattle.hp_meaning.specs.Causal.Points.{Placed, points, places}
use Rattle.hp_meaning.specs.Causal.RanksOfPoints.{step_code, same_step, same_place, rank_among, above, rank_of, RanksLaw, AllRanksLaw, PointsLaw}
use Rattle.hp_meaning.proofs.CausalLemmas.NodesAgree.{within_more}
use Rattle.hp_meaning.proofs.CausalLemmas.Listed.{Each, node_whole}
use Rattle.hp_meaning.proofs.CausalLemmas.Choices.{by_cases, or_cases, both_true, and_true, or_first, or_second, neither, if_true, if_false}

-- ---- no cycle

read_within : (P : Place → Type 0) (p : Place) (s : Sources) → Within P s → IsRead p s → P p
read_within P p none h r = absurd r
read_within P p (only q) h r = subst P (sym r) h
read_within P p (both s t) h r = ⊎_elim (read_within P p s h.0) (read_within P p t h.1) r
read_within P p (also s) h r = absurd r

chain_falls : (n : Node) (o : Ranked n) (p : Place) (between : List Place) (end : Place) → Chain n p between end → o.rank end < o.rank p
chain_falls n o p [] end c = read_within (λ q. o.rank q < o.rank p) end (sources n p) (o.falls p) c
chain_falls n o p (q ∷ qs) end c =
    let e = read_within (λ r. o.rank r < o.rank p) q (sources n p) (o.falls p) c.0 in
    let f = chain_falls n o q qs end c.1 in
    omega arith

pub ranked_causal : CausalLaw
ranked_causal n o p between c = let e = chain_falls n o p between p c in absurd (omega arith)

-- ---- the same place

decoded : ℕ × List ℕ → Step
decoded c =
    if nat_eq c.0 0 then Inputs else if nat_eq c.0 1 then Controls else if nat_eq c.0 2 then Body else if nat_eq c.0 3 then Observer
    else if nat_eq c.0 4 then Assume else if nat_eq c.0 5 then Enforce else if nat_eq c.0 6 then Named c.1 else if nat_eq c.0 7 then Fresh
    else if nat_eq c.0 8 then Equations else if nat_eq c.0 9 then Head else if nat_eq c.0 10 then Tail else if nat_eq c.0 11 then Right
    else if nat_eq c.0 12 then Test else if nat_eq c.0 13 then Arms else if nat_eq c.0 14 then States else if nat_eq c.0 15 then Until
    else if nat_eq c.0 16 then Unless else if nat_eq c.0 17 then Active else if nat_eq c.0 18 then Next else if nat_eq c.0 19 then Pending
    else if nat_eq c.0 20 then First else if nat_eq c.0 21 then Second else if nat_eq c.0 22 then Third else if nat_eq c.0 23 then Args else Instance

decoded_code : (s : Step) → decoded (step_code s) ≡ s
unfolding decoded
decoded_code Inputs = refl
decoded_code Controls = refl
decoded_code Body = refl
decoded_code Observer = refl
decoded_code Assume = refl
decoded_code Enforce = refl
decoded_code (Named x) = refl
decoded_code Fresh = refl
decoded_code Equations = refl
decoded_code Head = refl
decoded_code Tail = refl
decoded_code Right = refl
decoded_code Test = refl
decoded_code Arms = refl
decoded_code States = refl
decoded_code Until = refl
decoded_code Unless = refl
decoded_code Active = refl
decoded_code Next = refl
decoded_code Pending = refl
decoded_code First = refl
decoded_code Second = refl
decoded_code Third = refl
decoded_code Args = refl
decoded_code Instance = refl

pub step_same : (s t : Step) → IsTrue (same_step s t) → s ≡ t
step_same s t h =
    let u = both_true (nat_eq (step_code s).0 (step_code t).0) _ h in
    let e : (step_code s).0 ≡ (step_code t).0 = (Decides-eqb (step_code s).0 (step_code t).0).0 u.0 in
    let f : (step_code s).1 ≡ (step_code t).1 = (bytes_eq-Decides (step_code s).1 (step_code t).1).0 u.1 in
    sym (decoded_code s) ∙ ap₂ (λ k x. decoded (k, x)) e f ∙ decoded_code t

same_step_refl : (s : Step) → IsTrue (same_step s s)
same_step_refl s = and_true _ _ ((Decides-eqb (step_code s).0 (step_code s).0).1 refl) ((bytes_eq-Decides (step_code s).1 (step_code s).1).1 refl)

pub place_same : (p q : Place) → IsTrue (same_place p q) → p ≡ q
place_same [] [] h = refl
place_same [] (t ∷ q) h = absurd (cc)
place_same (s ∷ p) [] h = absurd (cc)
place_same (s ∷ p) (t ∷ q) h =
    let u = both_true (same_step s t) (same_place p q) h in
    ap₂ (λ a b. a ∷ b) (step_same s t u.0) (place_same p q u.1)

pub same_place_refl : (p : Place) → IsTrue (same_place p p)
same_place_refl [] = refl
same_place_refl (s ∷ p) = and_true (same_step s s) (same_place p p) (same_step_refl s) (same_place_refl p)

-- ---- places among some

abbrev pub is_among : List Place → Place → Bool
is_among [] p = false
is_among (q ∷ qs) p = same_place q p || is_among qs p

all_among : (Q : Place → Type 0) (qs : List Place) → All Q qs → (p : Place) → IsTrue (is_among qs p) → Q p
all_among Q [] h p m = absurd (cc)
all_among Q (q ∷ qs) h p m =
    or_cases (same_place q p) (is_among qs p) m
    (λ e. subst Q (place_same q p e) (All-head Q q qs h))
    (all_among Q qs (All-tail Q q qs h) p)

not_among : (qs : List Place) (ranks : List ℕ) (other : ℕ) (p : Place) → IsFalse (is_among qs p) → rank_among qs ranks other p ≡ other
not_among [] ranks other p f = refl
not_among (q ∷ qs) [] other p f = refl
not_among (q ∷ qs) (r ∷ rs) other p f =
    let u = neither (same_place q p) (is_among qs p) f in
    if_false (same_place q p) r (rank_among qs rs other p) u.0 ∙ not_among qs rs other p u.1

if_below : (d : Bool) (a b m : ℕ) → a < m → b < m → (if d then a else b) < m
if_below true a b m h k = h
if_below false a b m h k = k

among_below : (qs : List Place) (ranks : List ℕ) (other : ℕ) → length ranks ≡ length qs → above ranks ≤ other → (p : Place) → IsTrue (is_among qs p) → rank_among qs ranks other p < other
among_below [] ranks other e a p m = absurd (cc)
among_below (q ∷ qs) [] other e a p m = absurd (omega arith)
among_below (q ∷ qs) (r ∷ rs) other e a p m =
    let h = le-max_left (suc r) (above rs) in
    let k = le-max_right (suc r) (above rs) in
    or_cases (same_place q p) (is_among qs p) m
    (λ t. subst (λ z. z < other) (sym (if_true (same_place q p) r (rank_among qs rs other p) t)) (omega arith))
    (λ t. if_below (same_place q p) r (rank_among qs rs other p) other (omega arith) (among_below qs rs other (omega arith) (omega arith) p t))

among_within : (qs : List Place) (ranks : List ℕ) (other : ℕ) → above ranks ≤ other → (p : Place) → rank_among qs ranks other p < suc other
among_within [] ranks other a p = omega arith
among_within (q ∷ qs) [] other a p = omega arith
among_within (q ∷ qs) (r ∷ rs) other a p =
    let h = le-max_left (suc r) (above rs) in
    let k = le-max_right (suc r) (above rs) in
    if_below (same_place q p) r (rank_among qs rs other p) (suc other) (omega arith) (among_within qs rs other (omega arith) p)

pub each_among : (P : Place → Type 0) (xs : List Placed) → ((p : Place) → IsTrue (is_among (map (λ x. x.place) xs) p) → P p) → Each P xs
each_among P [] h = tt
each_among P (x ∷ xs) h = (
  h x.place (or_first (same_place x.place x.place) (is_among (map (λ y. y.place) xs) x.place) (same_place_refl x.place)),
  each_among P xs (λ p m. h p (or_second (same_place x.place p) (is_among (map (λ y. y.place) xs) p) m)),
)

pub ranks_enough : RanksLaw
ranks_enough n ranks d f =
    let other = above ranks in
    record {
      rank = rank_of n ranks;
      bound = suc other;
      bounded = among_within (places n) ranks other (omega arith);
      falls = λ p. by_cases (is_among (places n) p)
          (all_among (λ q. Within (λ r. rank_of n ranks r < rank_of n ranks q) (sources n q)) (places n) f.falls p)
          (λ m. within_more (λ q. rank_of n ranks q < other) (λ q. rank_of n ranks q < rank_of n ranks p)
          (λ q h. subst (λ z. rank_of n ranks q < z) (sym (not_among (places n) ranks other p m)) h)
          (sources n p)
          (node_whole (λ q. rank_of n ranks q < other) n d (each_among (λ q. rank_of n ranks q < other) (points n) (among_below (places n) ranks other f.one_each (omega arith))) p));
    }

pub all_ranks_enough : AllRanksLaw
all_ranks_enough [] ranks f = tt
all_ranks_enough (TypeItem t ∷ items) ranks f = all_ranks_enough items ranks f
all_ranks_enough (NodeItem n ∷ items) [] f = absurd f
all_ranks_enough (NodeItem n ∷ items) (r ∷ ranks) f = (ranks_enough n r f.0 f.1, all_ranks_enough items ranks f.2)

-- ---- what is depended on is a point

pub source_in : (P : Place → Type 0) (q : Place) (s : Sources) → Within P s → IsSource q s → P q
source_in P q none h r = absurd r
source_in P q (only p) h r = subst P (sym r) h
source_in P q (both s t) h r = ⊎_elim (source_in P q s h.0) (source_in P q t h.1) r
source_in P q (also s) h r = source_in P q s h r

all_each : (P : Place → Type 0) (xs : List Placed) → All P (map (λ x. x.place) xs) → Each P xs
all_each P [] h = tt
all_each P (x ∷ xs) h = (All-head P x.place (map (λ y. y.place) xs) h, all_each P xs (All-tail P x.place (map (λ y. y.place) xs) h))

pub sources_are_points : PointsLaw
sources_are_points n d p q h =
    source_in (Contains (places n)) q (sources n p) (node_whole (Contains (places n)) n d (all_each (Contains (places n)) (points n) (All-contains_itself (places n))) p) h
