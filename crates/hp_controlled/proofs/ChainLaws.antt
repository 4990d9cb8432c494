-- The definitions of a variable, chained one behind another, are the equations that define it.
use Rattle.std.proofs.Common.{◌≡◌, ◌⊎◌, inl, inr, ℕ, zero, suc, ◌+◌, ◌-◌, ◌<◌, ◌≤◌, nat_lt, Bool, true, false, if◌then◌else◌, List, [], ◌∷◌, ◌++◌, length, slice_get, Option, None, Some, refl, sym, ap, subst, ◌∙◌, arith}
use Rattle.std.specs.Prelude.{slice_index_or, slice_set, replicate}
use Rattle.std.proofs.lemmas.Bool.Decides.{nat_tests}
use Rattle.std.proofs.lemmas.List.{length-append}
use Rattle.hp_flat.specs.Equations.{FlatEqn}
use Rattle.hp_flat.specs.Nodes.{FlatNode}
use Rattle.hp_controlled.specs.Parts.{IsIn}
use Rattle.hp_controlled.specs.Reaching.{Definitions, with_definition, with_definitions, with_eqns, no_definitions, definitions_of, definitions_at, chain}
use Rattle.hp_controlled.proofs.ReachLaws.{Defines, AreDefinitions}

-- ---- chains

data Chain (all : List (ℕ × ℕ)) : ℕ → List ℕ → Type 0 where
  empty : Chain all 0 []
  link : {i : ℕ} {d : ℕ × ℕ} {ks : List ℕ} → slice_get all i ≡ Some d → d.1 ≤ i → Chain all d.1 ks → Chain all (suc i) (d.0 ∷ ks)

opened : (most : ℕ) (all : List (ℕ × ℕ)) (i : ℕ) (d : ℕ × ℕ) → slice_get all i ≡ Some d → chain (suc most) all (suc i) ≡ d.0 ∷ chain most all d.1
opened most all i d e = ap (λ (o : Option (ℕ × ℕ)). elim o [ None ↦ [] | Some x ↦ x.0 ∷ chain most all x.1 ]) e

chain-is : (all : List (ℕ × ℕ)) (at : ℕ) (ks : List ℕ) (most : ℕ) → Chain all at ks → at ≤ most → chain most all at ≡ ks
chain-is all at ks zero empty h = refl
chain-is all at ks (suc most) empty h = refl
chain-is all at ks zero (link {i = i} e l rest) h = absurd (omega (arith, h))
chain-is all at ks (suc most) (link {i = i} {d = d} {ks = more} e l rest) h = opened most all i d e ∙ ap (λ xs. d.0 ∷ xs) (chain-is all d.1 more most rest (omega (arith, h, l)))

get_front : {A : Type 0} (xs more : List A) (i : ℕ) (x : A) → slice_get xs i ≡ Some x → slice_get (xs ++ more) i ≡ Some x
get_front [] more i x h = absurd cc
get_front (y ∷ xs) more zero x h = h
get_front (y ∷ xs) more (suc i) x h = get_front xs more i x h

get_last : {A : Type 0} (xs : List A) (x : A) → slice_get (xs ++ x ∷ []) (length xs) ≡ Some x
get_last [] x = refl
get_last (y ∷ xs) x = get_last xs x

get_in : {A : Type 0} (xs : List A) (i : ℕ) (x : A) → slice_get xs i ≡ Some x → i < length xs
get_in [] i x h = absurd cc
get_in (y ∷ xs) zero x h = omega arith
get_in (y ∷ xs) (suc i) x h = omega (arith, get_in xs i x h)

grown : (all more : List (ℕ × ℕ)) (at : ℕ) (ks : List ℕ) → Chain all at ks → Chain (all ++ more) at ks
grown all more at ks empty = empty
grown all more at ks (link {i = i} {d = d} {ks = rest} e l c) = link (get_front all more i d e) l (grown all more d.1 rest c)

chain_within : (all : List (ℕ × ℕ)) (at : ℕ) (ks : List ℕ) → Chain all at ks → at ≤ length all
chain_within all at ks empty = omega arith
chain_within all at ks (link {i = i} {d = d} e l c) = omega (arith, get_in all i d e)

-- ---- tables

-- Of each variable a chain has what is known to define it.
record Holds (count : ℕ) (known : ℕ → ℕ → Type 0) (d : Definitions) : Type 0 where
  as_many : length d.last ≡ count
  chains : (x : ℕ) → x < count → (ks : List ℕ) × Chain d.all (slice_index_or d.last x 0) ks × ((k : ℕ) → IsIn k ks → known x k) × ((k : ℕ) → known x k → IsIn k ks)

set_length : (xs : List ℕ) (x v : ℕ) → length (slice_set xs x v) ≡ length xs
set_length [] x v = refl
set_length (y ∷ xs) zero v = refl
set_length (y ∷ xs) (suc x) v = ap suc (set_length xs x v)

set_same : (xs : List ℕ) (x v : ℕ) → x < length xs → slice_index_or (slice_set xs x v) x 0 ≡ v
set_same [] x v h = absurd (omega (arith, h))
set_same (y ∷ xs) zero v h = refl
set_same (y ∷ xs) (suc x) v h = set_same xs x v (omega (arith, h))

set_other : (xs : List ℕ) (x y v : ℕ) → (y ≡ x → ⊥) → slice_index_or (slice_set xs x v) y 0 ≡ slice_index_or xs y 0
set_other [] x y v h = refl
set_other (z ∷ xs) zero zero v h = absurd (h refl)
set_other (z ∷ xs) zero (suc y) v h = refl
set_other (z ∷ xs) (suc x) zero v h = refl
set_other (z ∷ xs) (suc x) (suc y) v h = set_other xs x y v (λ e. h (ap suc e))

same_or_not : (x y : ℕ) → (x ≡ y) ⊎ (x ≡ y → ⊥)
same_or_not zero zero = inl refl
same_or_not zero (suc y) = inr (λ e. cc)
same_or_not (suc x) zero = inr (λ e. cc)
same_or_not (suc x) (suc y) = elim (same_or_not x y) [ inl e ↦ inl (ap suc e) | inr d ↦ inr (λ e. d (omega (arith, e))) ]

-- what is known when one definition more is
abbrev WithOne : (ℕ → ℕ → Type 0) → ℕ → ℕ → ℕ → ℕ → Type 0
WithOne known x k y j = known y j ⊎ ((y ≡ x) × (j ≡ k))

module _ (count : ℕ) (known : ℕ → ℕ → Type 0) (x k : ℕ) (d : Definitions) (h : Holds count known d) where
  step : (b : Bool) → nat_lt x (length d.last) ≡ b → Holds count (WithOne known x k) (if b then record { last = slice_set d.last x (length d.all + 1); all = d.all ++ (k, slice_index_or d.last x 0) ∷ [] } else d)
  step true is = record {
    as_many = set_length d.last x (length d.all + 1) ∙ h.as_many;
    chains = λ y less. elim (same_or_not y x) [
      | inl p ↦
          (let c = h.chains x (subst (λ z. z < count) p less) in
          let one : suc (length d.all) ≡ length d.all + 1 = omega arith in
          let here : slice_index_or (slice_set d.last x (length d.all + 1)) y 0 ≡ suc (length d.all) = ap (λ z. slice_index_or (slice_set d.last x (length d.all + 1)) z 0) p ∙ set_same d.last x (length d.all + 1) (inside is) ∙ sym one in
          let more = d.all ++ (k, slice_index_or d.last x 0) ∷ [] in
          let linked : Chain more (suc (length d.all)) (k ∷ c.0) = link {d = (k, slice_index_or d.last x 0)} (get_last d.all (k, slice_index_or d.last x 0)) (chain_within d.all (slice_index_or d.last x 0) c.0 c.1) (grown d.all ((k, slice_index_or d.last x 0) ∷ []) (slice_index_or d.last x 0) c.0 c.1) in (
            k ∷ c.0,
            subst (λ at. Chain more at (k ∷ c.0)) (sym here) linked,
            λ j i. elim i [ inl e ↦ inr (p, e) | inr old ↦ inl (subst (λ z. known z j) (sym p) (c.2 j old)) ],
            λ j w. elim w [ inl old ↦ inr (c.3 j (subst (λ z. known z j) p old)) | inr e ↦ inl e.1 ],
          ))
      | inr other ↦
          (let c = h.chains y less in
          let here = set_other d.last x y (length d.all + 1) other in (
            c.0,
            subst (λ at. Chain (d.all ++ (k, slice_index_or d.last x 0) ∷ []) at c.0) (sym here) (grown d.all ((k, slice_index_or d.last x 0) ∷ []) (slice_index_or d.last y 0) c.0 c.1),
            λ j i. inl (c.2 j i),
            λ j w. elim w [ inl old ↦ c.3 j old | inr e ↦ absurd (other e.0) ],
          ))
    ];
  }
    where
      inside : nat_lt x (length d.last) ≡ true → x < length d.last
      inside e = grind (arith, nat_tests)
  step false is = record {
    as_many = h.as_many;
    chains = λ y less.
        let c = h.chains y less in
        (c.0, c.1, λ j i. inl (c.2 j i), λ j w. elim w [ inl old ↦ c.3 j old | inr e ↦ absurd (outside is (subst (λ z. z < length d.last) e.0 (subst (λ z. y < z) (sym h.as_many) less))) ]);
  }
    where
      outside : nat_lt x (length d.last) ≡ false → x < length d.last → ⊥
      outside e l = absurd (grind (arith, nat_tests))

  one_more : Holds count (WithOne known x k) (with_definition x k d)
  unfolding with_definition
  one_more = step (nat_lt x (length d.last)) refl

changed : (count : ℕ) (known other : ℕ → ℕ → Type 0) (d : Definitions) → ((x k : ℕ) → known x k → other x k) → ((x k : ℕ) → other x k → known x k) → Holds count known d → Holds count other d
changed count known other d to from h = record {
  as_many = h.as_many;
  chains = λ x less. let c = h.chains x less in (c.0, c.1, λ k i. to x k (c.2 k i), λ k o. c.3 k (from x k o));
}

-- definitions of some variables by one equation
abbrev WithAll : (ℕ → ℕ → Type 0) → List ℕ → ℕ → ℕ → ℕ → Type 0
WithAll known xs k y j = known y j ⊎ (IsIn y xs × (j ≡ k))

all_more : (count : ℕ) (known : ℕ → ℕ → Type 0) (xs : List ℕ) (k : ℕ) (d : Definitions) → Holds count known d → Holds count (WithAll known xs k) (with_definitions xs k d)
all_more count known [] k d h = changed count known (WithAll known [] k) d (λ y j o. inl o) (λ y j o. elim o [ inl p ↦ p | inr p ↦ absurd p.0 ]) h
all_more count known (x ∷ xs) k d h =
    changed count (WithAll (WithOne known x k) xs k) (WithAll known (x ∷ xs) k) (with_definitions xs k (with_definition x k d))
    (λ y j o. elim o [ inl w ↦ elim w [ inl p ↦ inl p | inr p ↦ inr (inl p.0, p.1) ] | inr p ↦ inr (inr p.0, p.1) ])
    (λ y j o. elim o [ inl p ↦ inl (inl p) | inr p ↦ elim p.0 [ inl e ↦ inl (inr (e, p.1)) | inr i ↦ inr (i, p.1) ] ])
    (all_more count (WithOne known x k) xs k (with_definition x k d) (one_more count known x k d h))

-- definitions by equations that are numbered from one on
abbrev ByEqns : ℕ → List FlatEqn → ℕ → ℕ → Type 0
ByEqns k es y j = (i : ℕ) × (e : FlatEqn) × (slice_get es i ≡ Some e) × (j ≡ k + i) × IsIn y e.targets

abbrev WithEqns : (ℕ → ℕ → Type 0) → ℕ → List FlatEqn → ℕ → ℕ → Type 0
WithEqns known k es y j = known y j ⊎ ByEqns k es y j

eqns_more : (count : ℕ) (known : ℕ → ℕ → Type 0) (k : ℕ) (es : List FlatEqn) (d : Definitions) → Holds count known d → Holds count (WithEqns known k es) (with_eqns k es d)
eqns_more count known k [] d h = changed count known (WithEqns known k []) d (λ y j o. inl o) (λ y j o. elim o [ inl p ↦ p | inr p ↦ absurd (none_of p.0 p.1 p.2) ]) h
  where
    none_of : (i : ℕ) (e : FlatEqn) → slice_get [] i ≡ Some e → ⊥
    none_of i e p = cc
eqns_more count known k (e ∷ es) d h =
    changed count (WithEqns (WithAll known e.targets k) (k + 1) es) (WithEqns known k (e ∷ es)) (with_eqns (k + 1) es (with_definitions e.targets k d))
    (λ y j o. elim o [ inl w ↦ elim w [ inl p ↦ inl p | inr p ↦ inr (0, e, refl, omega (arith, p.1), p.0) ] | inr p ↦ inr (suc p.0, p.1, p.2, omega (arith, p.3), p.4) ])
    (λ y j o. elim o [ inl p ↦ inl (inl p) | inr p ↦ back y j p ])
    (eqns_more count (WithAll known e.targets k) (k + 1) es (with_definitions e.targets k d) (all_more count known e.targets k d h))
  where
    split : (y j i : ℕ) (f : FlatEqn) → slice_get (e ∷ es) i ≡ Some f → j ≡ k + i → IsIn y f.targets → WithEqns (WithAll known e.targets k) (k + 1) es y j
    split y j zero f at is i = inl (inr (subst (λ g. IsIn y g.targets) (first_of_both e f at) i, omega (arith, is)))
      where
        first_of_both : (a b : FlatEqn) → Some a ≡ Some b → b ≡ a
        first_of_both a b p = cc
    split y j (suc m) f at is i = inr (m, f, at, omega (arith, is), i)

    back : (y j : ℕ) → ByEqns k (e ∷ es) y j → WithEqns (WithAll known e.targets k) (k + 1) es y j
    back y j p = split y j p.0 p.1 p.2 p.3 p.4

replicate_length : (count v : ℕ) → length (replicate count v) ≡ count
replicate_length zero v = refl
replicate_length (suc count) v = ap suc (replicate_length count v)

replicate_at : (count x : ℕ) → let nought : ℕ = 0 in slice_index_or (replicate count nought) x nought ≡ nought
replicate_at zero x = refl
replicate_at (suc count) zero = refl
replicate_at (suc count) (suc x) = replicate_at count x

pub definitions : (n : FlatNode) → AreDefinitions n (definitions_of n)
definitions n =
    let count = length n.variables in
    let d = definitions_of n in
    let Nothing : ℕ → ℕ → Type 0 = λ x k. ⊥ in
    let start : Holds count Nothing (no_definitions count) = record {
      as_many = replicate_length count 0;
      chains = λ x less. ([], subst (λ at. Chain [] at []) (sym (replicate_at count x)) empty, λ k i. absurd i, λ k i. absurd i);
    } in
    let h = eqns_more count Nothing 0 n.eqns (no_definitions count) start in
    λ x less.
    let c = h.chains x less in
    let is : definitions_at d x ≡ c.0 = chain-is d.all (slice_index_or d.last x 0) c.0 (length d.all) c.1 (chain_within d.all (slice_index_or d.last x 0) c.0 c.1) in (
      λ k i. elim (c.2 k (subst (λ ks. IsIn k ks) is i)) [ inl none ↦ absurd none | inr p ↦ (p.1, subst (λ z. slice_get n.eqns z ≡ Some p.1) (omega (arith, p.3)) p.2, p.4) ],
      λ k q. subst (λ ks. IsIn k ks) (sym is) (c.3 k (inr (k, q.0, q.1, omega arith, q.2))),
    )
