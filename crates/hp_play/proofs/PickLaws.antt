-- A valuation that a diagram is followed to.
use Rattle.std.proofs.Common.{◌≡◌, ◌≢◌, ◌⊎◌, inl, inr, ℕ, ◌+◌, ◌<◌, ◌≤◌, ◌==◌, Bool, true, false, ◌&&◌, if◌then◌else◌, IsTrue, [], ◌∷◌, ◌++◌, length, take, get_or, slice_set, Option, None, Some, refl, sym, ap, ap₂, ◌∙◌, arith, true≢false}
use Rattle.std.proofs.lemmas.Bool.{and_parts, and_from}
use Rattle.std.proofs.lemmas.List.{length-take-le, take_more}
use Rattle.hp_diagram.specs.declared.reference.Branch.{Branch}
use Rattle.hp_diagram.specs.declared.reference.Ref.{Ref}
use Rattle.hp_diagram.specs.Diagrams.{Diagrams, Has, HasChildren, IsReduced, Keeps, Means, branch_of, function, level, one_ref, path_end, valuation, zero_ref}
use Rattle.hp_diagram.proofs.Canonical.{leaf_cases, level-node, same_from_functions}
use Rattle.hp_diagram.proofs.Paths.{path_end-leaf}
use Rattle.hp_boolx.specs.Search.{Bits}
use Rattle.hp_synth.specs.Valued.{Valued, read, through}
use Rattle.hp_synth.proofs.LayoutLaws.{set-other, set-same}
use Rattle.hp_synth.proofs.Ranges.{read-len, read-parts}
use Rattle.hp_play.specs.Fields.{AreValues, IsLiteral}

zero-false : (t : Diagrams) (v : Valued) → function t zero_ref v ≡ false
unfolding path_end
zero-false t v = refl

-- a function that is true somewhere is not false
pub not-zero : (t : Diagrams) (r : Ref) (v : Valued) → IsTrue (function t r v) → r ≢ zero_ref
not-zero t r v h e = true≢false (sym h ∙ ap (λ q. function t q v) e ∙ zero-false t v)

module _ (t : Diagrams) (reduced : IsReduced t) where
  -- of a function that is not false one child is not
  pub some-child : (r : Ref) (x : ℕ) (low high : Ref) → Has t r → HasChildren t r x low high → r ≢ zero_ref → low ≡ zero_ref → high ≢ zero_ref
  some-child r x low high has c not l h =
      not (same_from_functions t reduced r zero_ref has (let z : 0 < length t.nodes + 2 = omega arith in z) (λ v.
      c.value v ∙ both (v x) (ap (λ q. function t q v) h ∙ zero-false t v) (ap (λ q. function t q v) l ∙ zero-false t v) ∙ sym (zero-false t v)))
    where
      both : {p q : Bool} (b : Bool) → p ≡ false → q ≡ false → (if b then p else q) ≡ false
      both true e f = e
      both false e f = f

  -- and behind all variables it is true
  pub true-behind : (r : Ref) → Has t r → t.vars ≤ level t r → r ≢ zero_ref → (v : Valued) → IsTrue (function t r v)
  true-behind r has behind not v = by (branch_of t r) refl
    where
      leaf : (r.index ≡ 0) ⊎ (r.index ≡ 1) → IsTrue (r.index == 1)
      leaf (inl e) = absurd (not (λ j. record { index = e j }))
      leaf (inr e) = ap (λ k. k == 1) e

      by : (o : Option Branch) → branch_of t r ≡ o → IsTrue (function t r v)
      by None h = path_end-leaf r.index t.nodes v r.index h ∙ leaf (leaf_cases t r.index has h)
      by (Some b) h =
          let n = reduced.nodes r.index b h in
          absurd (omega (arith, n.var, behind, level-node t reduced r b h))

pub has-either : (t : Diagrams) (b : Bool) (x y : Ref) → Has t x → Has t y → Has t (if b then x else y)
has-either t true x y h k = h
has-either t false x y h k = k

pub later-either : (t : Diagrams) (b : Bool) (x y : Ref) (n : ℕ) → n < level t x → n < level t y → n + 1 ≤ level t (if b then x else y)
later-either t true x y n h k = omega (arith, h)
later-either t false x y n h k = omega (arith, k)

-- one variable further
pub path-step : (t : Diagrams) (r : Ref) (at low high : Ref) (y : ℕ) (values : Bits) (b : Bool) → y < length values
    → ((v : Valued) → ((k : ℕ) → k < y → v k ≡ valuation values k) → function t r v ≡ function t at v) → HasChildren t at y low high
    → (v : Valued) → ((k : ℕ) → k < y + 1 → v k ≡ valuation (slice_set values y b) k) → function t r v ≡ function t (if b then high else low) v
path-step t r at low high y values b l before c v agree =
    before v (λ k below. agree k (omega (arith, below)) ∙ set-other values y k b false (λ e. absurd (omega (arith, e, below))))
    ∙ c.value v ∙ ap (λ z. if z then function t high v else function t low v) (agree y (omega arith) ∙ set-same values y b false l) ∙ chosen b
  where
    chosen : (b : Bool) → (if b then function t high v else function t low v) ≡ function t (if b then high else low) v
    chosen true = refl
    chosen false = refl

-- ---- valuations with given values

pub one-true : (t : Diagrams) (v : Valued) → function t one_ref v ≡ true
unfolding path_end
one-true t v = refl

-- those of none are all
pub no-values : (p : ℕ → ℕ) (t : Diagrams) (from : ℕ) (r : Ref) → Has t r → ((v : Valued) → IsTrue (function t r v)) → AreValues p t from [] r
no-values p t from r has all = record { has = has; are = λ v. (λ h. refl, λ h. all v) }

append-last : (xs ys : Bits) (a b : Bool) → xs ++ a ∷ [] ≡ ys ++ b ∷ [] → length xs ≡ length ys → (xs ≡ ys) × (a ≡ b)
append-last [] [] a b e l = (refl, ap (λ q. get_or q 0 a) e)
append-last [] (y ∷ ys) a b e l = absurd (omega (arith, l))
append-last (x ∷ xs) [] a b e l = absurd (omega (arith, l))
append-last (x ∷ xs) (y ∷ ys) a b e l =
    let rest = append-last xs ys a b (ap (λ q. tail q) e) (omega (arith, l)) in
    (λ j. ap (λ q. get_or q 0 x) e j ∷ rest.0 j, rest.1)
  where
    tail : Bits → Bits
    tail [] = []
    tail (z ∷ zs) = zs

-- one value more
pub more-values : (p : ℕ → ℕ) (t u w : Diagrams) (from i y : ℕ) (values : Bits) (b : Bool) (all one r : Ref) → i < length values → y ≡ p (from + i) → b ≡ get_or values i false → Keeps t u
    → AreValues p t from (take i values) all → IsLiteral u y b one → Means w (λ v. function u all v && function u one v) r → AreValues p w from (take (i + 1) values) r
more-values p t u w from i y values b all one r l at_place at k are is m = record {
  has = m.has;
  are = λ v. (
    λ h.
        let both = and_parts (function u all v) (function u one v) (sym (m.value v) ∙ h) in
        longer v ∙ ap₂ (λ (x : Bits) (c : Bool). x ++ c ∷ []) ((are.are v).0 (sym (k.functions all are.has v) ∙ both.0)) (ap v (sym at_place) ∙ (is.is v).0 both.1) ∙ sym cut,
    λ h.
        let parts = append-last (read from (length (take i values)) (through p v)) (take i values) (through p v (from + i)) b (sym (longer v) ∙ h ∙ cut) (read-len from (length (take i values)) (through p v)) in
        m.value v ∙ and_from (function u all v) (function u one v) (k.functions all are.has v ∙ (are.are v).1 parts.0) ((is.is v).1 (ap v at_place ∙ parts.1)),
  );
}
  where
    cut : take (i + 1) values ≡ take i values ++ b ∷ []
    cut = take_more values i false l ∙ ap (λ c. take i values ++ c ∷ []) (sym at)

    len : length (take i values) ≡ i
    len = length-take-le i values (omega (arith, l))

    longer : (v : Valued) → read from (length (take (i + 1) values)) (through p v) ≡ read from (length (take i values)) (through p v) ++ through p v (from + i) ∷ []
    longer v =
        ap (λ n. read from n (through p v)) (length-take-le (i + 1) values (omega (arith, l)))
        ∙ read-parts from i 1 (i + 1) (through p v) refl
        ∙ ap (λ n. read from n (through p v) ++ through p v (from + i) ∷ []) (sym len)
