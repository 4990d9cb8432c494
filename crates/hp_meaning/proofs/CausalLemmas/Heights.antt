-- A node without a cycle of dependences has ranks: the rank of a place is the length of the longest chain from it.
use Rattle.std.proofs.Common.{◌≡◌, ℕ, zero, suc, ◌<◌, ◌≤◌, List, [], ◌∷◌, length, refl, sym, ap, ap₂, subst, ◌⊎◌, inl, inr, ⊎_elim, arith}
use Rattle.std.proofs.Math.Nat.{le-max_left, le-max_right, max-eq_left, max-eq_right}
use Rattle.std.specs.Prelude.{Bool, true, false, ◌&&◌, ◌||◌, not, IsTrue, IsFalse, if◌then◌else◌, max}
use Rattle.hp_tree.specs.declared.program.Item.TheVariants.{TypeItem, NodeItem}
use Rattle.hp_tree.specs.Programs.{Node}
use Rattle.hp_tree.specs.Instant.{Place}
use Rattle.hp_meaning.specs.Causal.Sources.{Sources, none, only, both, also, Within, IsSource}
use Rattle.hp_meaning.specs.Causal.Causality.{sources, DependsBy, Ranked, OrderLaw, CausalProgramLaw}
use Rattle.hp_meaning.specs.Causal.OneReaction.{CausalReactionLaw}
use Rattle.hp_meaning.proofs.CausalLemmas.Unique.{one_reaction}
use Rattle.hp_meaning.specs.Causal.Points.{points, places, NamesDeclared}
use Rattle.hp_meaning.specs.Causal.RanksOfPoints.{same_place}
use Rattle.hp_meaning.proofs.CausalLemmas.NodesAgree.{within_more}
use Rattle.hp_meaning.proofs.CausalLemmas.Listed.{node_whole}
use Rattle.hp_meaning.proofs.CausalLemmas.Choices.{both_true, or_cases, or_first, or_second, by_cases}
use Rattle.hp_meaning.proofs.CausalLemmas.Ranking.{place_same, same_place_refl, is_among, each_among, source_in}
use Rattle.hp_meaning.proofs.CausalLemmas.Clocks.{clocks_make_no_cycle}

-- ---- the greatest of some numbers

greatest : (Place → ℕ) → Sources → ℕ
greatest f none = 0
greatest f (only p) = f p
greatest f (both s t) = max (greatest f s) (greatest f t)
greatest f (also s) = greatest f s

greatest_same : (f g : Place → ℕ) (s : Sources) → Within (λ p. f p ≡ g p) s → greatest f s ≡ greatest g s
unfolding greatest
greatest_same f g none h = refl
greatest_same f g (only p) h = h
greatest_same f g (both s t) h = ap₂ max (greatest_same f g s h.0) (greatest_same f g t h.1)
greatest_same f g (also s) h = greatest_same f g s h

below_greatest : (f : Place → ℕ) (m : ℕ) (s : Sources) → greatest f s ≤ m → Within (λ p. f p ≤ m) s
unfolding greatest
below_greatest f m none h = tt
below_greatest f m (only p) h = h
below_greatest f m (both s t) h =
    let a = le-max_left (greatest f s) (greatest f t) in
    let b = le-max_right (greatest f s) (greatest f t) in
    (below_greatest f m s (omega arith), below_greatest f m t (omega arith))
below_greatest f m (also s) h = below_greatest f m s h

le_or : (a b : ℕ) → (a ≤ b) ⊎ (b ≤ a)
le_or zero b = inl (omega arith)
le_or (suc a) zero = inr (omega arith)
le_or (suc a) (suc b) = ⊎_elim (λ h. inl (omega arith)) (λ h. inr (omega arith)) (le_or a b)

le_or_less : (a b : ℕ) → (a ≤ b) ⊎ (b < a)
le_or_less zero b = inl (omega arith)
le_or_less (suc a) zero = inr (omega arith)
le_or_less (suc a) (suc b) = ⊎_elim (λ h. inl (omega arith)) (λ h. inr (omega arith)) (le_or_less a b)

less_than_max : (m a b : ℕ) → m < max a b → (m < a) ⊎ (m < b)
less_than_max m a b h =
    ⊎_elim (λ k. inr (subst (λ z. m < z) (max-eq_right k) h)) (λ k. inl (subst (λ z. m < z) (max-eq_left k) h)) (le_or a b)

-- one of the sources is above what the greatest is above
reached : (f : Place → ℕ) (m : ℕ) (s : Sources) → m < greatest f s → (p : Place) × IsSource p s × (m < f p)
unfolding greatest
reached f m none h = absurd (omega arith)
reached f m (only p) h = (p, refl, h)
reached f m (both s t) h =
    ⊎_elim
    (λ u. let r = reached f m s u in (r.0, inl r.1, r.2))
    (λ u. let r = reached f m t u in (r.0, inr r.1, r.2))
    (less_than_max m (greatest f s) (greatest f t) h)
reached f m (also s) h = reached f m s h

-- ---- lists of places without repetition

distinct : List Place → Bool
distinct [] = true
distinct (q ∷ qs) = not (is_among qs q) && distinct qs

without : Place → List Place → List Place
without q [] = []
without q (p ∷ ps) = if same_place p q then ps else p ∷ without q ps

one_less : (d : Bool) (p : Place) (ps rest : List Place) → (IsFalse d → suc (length rest) ≡ length ps) → suc (length (if d then ps else p ∷ rest)) ≡ suc (length ps)
one_less true p ps rest e = refl
one_less false p ps rest e = ap suc (e refl)

second_one : (a b : Bool) → IsTrue (a || b) → IsFalse a → IsTrue b
second_one true b h f = absurd (cc)
second_one false b h f = h

chosen : (d : Bool) (ps qs : List Place) (x : Place) → (IsTrue d → IsTrue (is_among ps x)) → (IsFalse d → IsTrue (is_among qs x)) → IsTrue (is_among (if d then ps else qs) x)
chosen true ps qs x f g = f refl
chosen false ps qs x f g = g refl

true_false : {X : Type 0} (a : Bool) → IsTrue a → IsFalse a → X
true_false true t f = absurd (cc)
true_false false t f = absurd (cc)

length_without : (q : Place) (ps : List Place) → IsTrue (is_among ps q) → suc (length (without q ps)) ≡ length ps
unfolding without
length_without q [] m = absurd (cc)
length_without q (p ∷ ps) m = one_less (same_place p q) p ps (without q ps) (λ f. length_without q ps (second_one (same_place p q) (is_among ps q) m f))

among_without : (q x : Place) (ps : List Place) → IsFalse (same_place q x) → IsTrue (is_among ps x) → IsTrue (is_among (without q ps) x)
unfolding without
among_without q x [] f m = absurd (cc)
among_without q x (p ∷ ps) f m =
    chosen (same_place p q) ps (p ∷ without q ps) x
    (λ t. second_one (same_place p x) (is_among ps x) m (subst (λ z. IsFalse (same_place z x)) (sym (place_same p q t)) f))
    (λ u. or_cases (same_place p x) (is_among ps x) m
    (or_first (same_place p x) (is_among (without q ps) x))
    (λ t. or_second (same_place p x) (is_among (without q ps) x) (among_without q x ps f t)))

not_true : (a : Bool) → IsTrue (not a) → IsFalse a
not_true true h = absurd (cc)
not_true false h = refl

pigeons : (qs ps : List Place) → IsTrue (distinct qs) → ((x : Place) → IsTrue (is_among qs x) → IsTrue (is_among ps x)) → length qs ≤ length ps
unfolding distinct
pigeons [] ps d h = omega arith
pigeons (q ∷ qs) ps d h =
    let u = both_true (not (is_among qs q)) (distinct qs) d in
    let f = not_true (is_among qs q) u.0 in
    let l = length_without q ps (h q (or_first (same_place q q) (is_among qs q) (same_place_refl q))) in
    let k = pigeons qs (without q ps) u.1
    (λ x m. among_without q x ps
    (by_cases (same_place q x) (λ t. true_false (is_among qs q) (subst (λ z. IsTrue (is_among qs z)) (sym (place_same q x t)) m) f) (λ e. e))
    (h x (or_second (same_place q x) (is_among qs x) m))) in
    omega arith

-- ---- paths

and_false : (a b : Bool) → IsFalse (not a && b) → IsFalse a → IsFalse b
and_false true b h f = absurd (cc)
and_false false b h f = h

-- the longest chain from a place, of those of at most so many places
height : Node → ℕ → Place → ℕ
height n zero p = 0
height n (suc k) p = suc (greatest (height n k) (sources n p))

module _ (n : Node) where
  abbrev Along : Place → List Place → Type 0
  Along p [] = Unit {0}
  Along p (q ∷ qs) = IsSource q (sources n p) × Along q qs

  leads_to : (p : Place) (qs : List Place) (t : Place) → Along p qs → IsTrue (is_among qs t) → (bs : List Place) × DependsBy n p bs t
  leads_to p [] t h m = absurd (cc)
  leads_to p (q ∷ qs) t h m =
      or_cases (same_place q t) (is_among qs t) m
      (λ e. ([], subst (λ z. IsSource z (sources n p)) (place_same q t e) h.0))
      (λ u. let r = leads_to q qs t h.1 u in (q ∷ r.0, (h.0, r.1)))

  repeats : (p : Place) (qs : List Place) → Along p qs → IsFalse (distinct qs) → (t : Place) × (bs : List Place) × DependsBy n t bs t
  unfolding distinct
  repeats p [] h f = absurd (cc)
  repeats p (q ∷ qs) h f =
      by_cases (is_among qs q)
      (λ m. let r = leads_to q qs q h.1 m in (q, r.0, r.1))
      (λ e. repeats q qs h.1 (and_false (is_among qs q) (distinct qs) f e))

  tall : (k : ℕ) (p : Place) → k < height n (suc k) p → (qs : List Place) × Along p qs × (length qs ≡ k)
  unfolding height
  tall zero p h = ([], tt, refl)
  tall (suc k) p h =
      let r = reached (height n (suc k)) k (sources n p) (omega arith) in
      let t = tall k r.0 r.2 in
      (r.0 ∷ t.0, (r.1, t.1), ap suc t.2)

  stable : (k : ℕ) (p : Place) → height n k p < k → height n (suc k) p ≡ height n k p
  unfolding height
  stable zero p h = absurd (omega arith)
  stable (suc k) p h =
      ap suc (greatest_same (height n (suc k)) (height n k) (sources n p)
      (within_more (λ q. height n k q ≤ greatest (height n k) (sources n p)) (λ q. height n (suc k) q ≡ height n k q) (λ q l. stable k q (omega arith)) (sources n p)
      (below_greatest (height n k) (greatest (height n k) (sources n p)) (sources n p) (omega arith))))

  module _ (d : NamesDeclared n) (acyclic : (p : Place) (between : List Place) → DependsBy n p between p → ⊥) where
    abbrev IsListed : Place → Type 0
    IsListed p = IsTrue (is_among (places n) p)

    listed : (p : Place) → Within IsListed (sources n p)
    listed = node_whole IsListed n d (each_among IsListed (points n) (λ p m. m))

    all_listed : (p : Place) (qs : List Place) → Along p qs → (x : Place) → IsTrue (is_among qs x) → IsListed x
    all_listed p [] h x m = absurd (cc)
    all_listed p (q ∷ qs) h x m =
        or_cases (same_place q x) (is_among qs x) m
        (λ e. subst IsListed (place_same q x e) (source_in IsListed q (sources n p) (listed p) h.0))
        (all_listed q qs h.1 x)

    abbrev enough : ℕ
    enough = suc (suc (length (places n)))

    low : (p : Place) → height n enough p < enough
    low p = ⊎_elim high (λ h. h) (le_or_less enough (height n enough p))
      where
        high : enough ≤ height n enough p → height n enough p < enough
        high h =
            let t = tall (suc (length (places n))) p (omega arith) in
            by_cases (distinct t.0)
            (λ e. let l = pigeons t.0 (places n) e (all_listed p t.0 t.1) in let k = t.2 in absurd (omega arith))
            (λ f. let r = repeats p t.0 t.1 f in absurd (acyclic r.0 r.1 r.2))

    -- a place is higher than each of its sources
    falls : (p : Place) → Within (λ q. height n enough q < height n enough p) (sources n p)
    unfolding height
    falls p =
        let e : suc (greatest (height n enough) (sources n p)) ≡ height n enough p = stable enough p (low p) in
        within_more (λ q. height n enough q ≤ greatest (height n enough) (sources n p)) (λ q. height n enough q < height n enough p) (λ q l. omega arith) (sources n p)
        (below_greatest (height n enough) (greatest (height n enough) (sources n p)) (sources n p) (omega arith))

    pub heights : Ranked n
    heights = record { rank = height n enough; bound = enough; bounded = low; falls = falls }

pub order : OrderLaw
order n d acyclic = heights n d acyclic

pub causal_programs : CausalProgramLaw
causal_programs [] c = tt
causal_programs (TypeItem t ∷ items) c = causal_programs items c
causal_programs (NodeItem n ∷ items) c = (order n c.0 (clocks_make_no_cycle n c.2 c.1), causal_programs items c.3)

pub causal_reaction : CausalReactionLaw
causal_reaction program f inputs frees c e = one_reaction program f inputs frees (causal_programs program c) e
