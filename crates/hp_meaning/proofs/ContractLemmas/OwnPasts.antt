-- What holds of each instant at which an instance is there holds all along its own past.
use Rattle.std.proofs.Common.{◌≡◌, [], ◌∷◌, refl, sym, subst}
use Rattle.std.specs.Prelude.{Bool, true, false, IsTrue, IsFalse, ◌++◌}
use Rattle.std.specs.Bool.{MatchBool}
use Rattle.hp_base.specs.declared.value.Value.{Value}
use Rattle.hp_base.specs.declared.value.Value.TheVariants.{Absent, Nil, B, E, I, Star}
use Rattle.hp_tree.specs.Operators.{is_there}
use Rattle.hp_tree.specs.Instant.{Step, Fresh, Instance, Place, Instant, Past, part, parts, own_with, own}
use Rattle.hp_meaning.proofs.CausalLemmas.Choices.{by_cases}
use Rattle.hp_meaning.specs.Contract.ChosenRuns.{cut_by, own_past}
use Rattle.hp_meaning.specs.Contract.Guarantee.{Through}
use Rattle.hp_meaning.proofs.ContractLemmas.Instances.{is_block, after_step, Entered, Goes}

pub through_map : {R S : Past → Instant → Type 0} → ((older : Past) (i : Instant) → R older i → S older i) → (past : Past) → Through R past → Through S past
through_map {R} {S} f [] h = tt
through_map {R} {S} f (i ∷ past) h = (through_map {R = R} {S = S} f past h.0, f past i h.1)

pub absent_is : (v : Value) → IsFalse (is_there v) → v ≡ Absent
absent_is Absent e = refl
absent_is Nil e = absurd (cc)
absent_is (B b) e = absurd (cc)
absent_is (E t c) e = absurd (cc)
absent_is (I n) e = absurd (cc)
absent_is Star e = absurd (cc)

no_true : {X : Type 0} → IsTrue false → X
no_true e = absurd (cc)

absent_not_there : {X : Type 0} (v : Value) → v ≡ Absent → IsTrue (is_there v) → X
absent_not_there v e t = no_true (subst (λ v. IsTrue (is_there v)) e t)

own_through : (S : Past → Instant → Type 0) (v : Value) (j : Instant) (q : Past) → Through S (own q) → (IsTrue (is_there v) → S (cut_by v q) j) → Through S (own_with v j (own q))
own_through S Absent j q h k = h
own_through S (B true) j q h k = (tt, k refl)
own_through S (B false) j q h k = (h, k refl)
own_through S Nil j q h k = (h, k refl)
own_through S (E t c) j q h k = (h, k refl)
own_through S (I n) j q h k = (h, k refl)
own_through S Star j q h k = (h, k refl)

cut_through : (S : Past → Instant → Type 0) (v : Value) (q : Past) → IsTrue (is_there v) → Through S (own q) → Through S (cut_by v q)
cut_through S Absent q t h = no_true t
cut_through S (B true) q t h = tt
cut_through S (B false) q t h = h
cut_through S Nil q t h = h
cut_through S (E t' c) q t h = h
cut_through S (I n) q t h = h
cut_through S Star q t h = h

-- the instants at which a block is there
block_through : (s : Step) (S : Past → Instant → Type 0) (past : Past) → Through (λ older i. IsTrue (is_there (i (s ∷ Fresh ∷ []))) → S (cut_by (i (s ∷ Fresh ∷ [])) (parts s older)) (part s i)) past → Through S (own (parts s past))
block_through s S [] h = tt
block_through s S (i ∷ past) h = own_through S (i (s ∷ Fresh ∷ [])) (part s i) (parts s past) (block_through s S past h.0) h.1

parts_through : (s : Step) (S : Past → Instant → Type 0) (past : Past) → Through (λ older i. S (parts s older) (part s i)) past → Through S (parts s past)
parts_through s S [] h = tt
parts_through s S (i ∷ past) h = (parts_through s S past h.0, h.1)

-- a property of the instance at a place, at an instant with those before it
abbrev pub AtInstance : (Past → Instant → Type 0) → Bool → Place → Past → Instant → Type 0
AtInstance Q st p older i =
    Goes st (p ++ (Instance ∷ [])) i
    × (IsTrue (is_there (i (p ++ (Instance ∷ Fresh ∷ [])))) → Q (own_past (p ++ (Instance ∷ [])) older i) (λ q. i (p ++ (Instance ∷ q))))

pub along : (Q : Past → Instant → Type 0) (p : Place) (st : Bool) (past : Past) (now : Instant) → Through (AtInstance Q st p) past → Goes st (p ++ (Instance ∷ [])) now → IsTrue (is_there (now (p ++ (Instance ∷ Fresh ∷ [])))) → Through Q (own_past (p ++ (Instance ∷ [])) past now)
along Q [] st past now h g t =
    cut_through Q (now (Instance ∷ Fresh ∷ [])) (parts Instance past) t
    (block_through Instance Q past (through_map {R = AtInstance Q st []} (λ older i r. r.1) past h))
along Q (s ∷ p) st past now h g t =
    by_kind (is_block st s) refl (λ past' h'. along Q p (after_step st s) past' (part s now) h' g.1 t)
  where
    Onward : Past → Instant → Type 0
    Onward = AtInstance Q (after_step st s) p

    Rest : Place
    Rest = p ++ (Instance ∷ [])

    by_kind : (d : Bool) → is_block st s ≡ d → ((past' : Past) → Through (AtInstance Q (after_step st s) p) past' → Through Q (own_past (p ++ (Instance ∷ [])) past' (part s now))) → Through Q (own_past (p ++ (Instance ∷ [])) (cut_by (now (s ∷ Fresh ∷ [])) (parts s past)) (part s now))
    by_kind true e next =
        let v = now (s ∷ Fresh ∷ []) in
        let entered = subst (λ d. MatchBool d (now (s ∷ Fresh ∷ []) ≡ Absent → (q : Place) → now (s ∷ q) ≡ Absent) (now (s ∷ Fresh ∷ []) ≡ Absent)) e g.0 in
        by_cases (is_there v)
        (λ y. next (cut_by v (parts s past)) (cut_through Onward v (parts s past) y (block_through s Onward past (through_map {R = AtInstance Q st (s ∷ p)} (λ older i r y. (r.0.1, r.1)) past h))))
        (λ n. absent_not_there (now (s ∷ (p ++ (Instance ∷ Fresh ∷ [])))) (entered (absent_is v n) (p ++ (Instance ∷ Fresh ∷ []))) t)
    by_kind false e next =
        let plain = λ (i : Instant) (x : Entered st s i). subst (λ d. MatchBool d (i (s ∷ Fresh ∷ []) ≡ Absent → (q : Place) → i (s ∷ q) ≡ Absent) (i (s ∷ Fresh ∷ []) ≡ Absent)) e x in
        subst (λ v. Through Q (own_past Rest (cut_by v (parts s past)) (part s now))) (sym (plain now g.0))
        (next (parts s past) (parts_through s Onward past (through_map {R = AtInstance Q st (s ∷ p)}
        (λ older i r. (r.0.1, λ y. subst (λ v. Q (own_past Rest (cut_by v (parts s older)) (part s i)) (λ q. i (s ∷ (p ++ (Instance ∷ q))))) (plain i r.0.0) (r.1 y))) past h)))
