-- The preferred list among those of a set, found bit by bit.
use Rattle.std.proofs.Common.{◌≡◌, ◌≢◌, ◌⊎◌, ◌↔◌, inl, inr, ℕ, suc, Bool, true, false, not, ◌&&◌, ◌||◌, IsTrue, IsFalse, [], ◌∷◌, length, refl, sym, ap, ap₂, subst, ◌∙◌, arith, if◌then◌else◌, true≢false}
use Rattle.std.proofs.lemmas.Bool.{cases_Bool, both_ways, false≢true}
use Rattle.hp_boolx.specs.Search.{Bits, Set, some_of}
use Rattle.hp_boolx.specs.Game.{Before, IsPreferred, first_bit, preferred}
use Rattle.hp_boolx.proofs.SearchLaws.{some-found, some-from, some-none}

first-best : (b h l y : Bool) → IsTrue (if y then h else l) → (first_bit b h l ≡ y) ⊎ ((first_bit b h l ≢ y) × (first_bit b h l ≡ b))
first-best true true l true e = inl refl
first-best true false l true e = absurd (true≢false (sym e))
first-best true true l false e = inr (true≢false, refl)
first-best true false true false e = inl refl
first-best true false false false e = absurd (true≢false (sym e))
first-best false true true true e = inr (false≢true, refl)
first-best false true false true e = inl refl
first-best false false l true e = absurd (true≢false (sym e))
first-best false true true false e = inl refl
first-best false false l false e = inl refl
first-best false true false false e = absurd (true≢false (sym e))

first-has : (b h l y : Bool) → IsTrue (if y then h else l) → IsTrue (if first_bit b h l then h else l)
first-has true true l y e = refl
first-has true false true true e = absurd (true≢false (sym e))
first-has true false true false e = refl
first-has true false false true e = e
first-has true false false false e = absurd (true≢false (sym e))
first-has false true true y e = refl
first-has false true false y e = refl
first-has false false true true e = absurd (true≢false (sym e))
first-has false false true false e = refl
first-has false false false true e = e
first-has false false false false e = e

first-none : (b h l : Bool) → IsFalse h → IsFalse l → first_bit b h l ≡ b
first-none true h l e f = (λ i. e i || not (f i))
first-none false h l e f = (λ i. e i && not (f i))

side : (p : Set) (n : ℕ) (y : Bool) → some_of n (λ c. p (y ∷ c)) ≡ (if y then some_of n (λ c. p (true ∷ c)) else some_of n (λ c. p (false ∷ c)))
side p n true = refl
side p n false = refl

pub preferred-len : (bs : Bits) (p : Set) → length (preferred bs p) ≡ length bs
preferred-len [] p = refl
preferred-len (b ∷ bs) p = ap suc (preferred-len bs _)

pub preferred-best : (bs : Bits) (p : Set) (d : Bits) → length d ≡ length bs → IsTrue (p d) → IsTrue (p (preferred bs p)) × Before bs (preferred bs p) d
preferred-best [] p [] e h = (h, tt)
preferred-best [] p (y ∷ d) e h = absurd (omega arith)
preferred-best (b ∷ bs) p [] e h = absurd (omega arith)
preferred-best (b ∷ bs) p (y ∷ d) e h =
    let high : Bool = some_of (length bs) (λ c. p (true ∷ c)) in
    let low : Bool = some_of (length bs) (λ c. p (false ∷ c)) in
    let x : Bool = first_bit b high low in
    let len : length d ≡ length bs = omega arith in
    let at_y : IsTrue (if y then high else low) = sym (side p (length bs) y) ∙ some-from (length bs) (λ c. p (y ∷ c)) d len h in
    elim (first-best b high low y at_y) [
      | inl same ↦ let i = preferred-best bs (λ c. p (x ∷ c)) d len (subst (λ z. IsTrue (p (z ∷ d))) (sym same) h) in (i.0, inl (same, i.1))
      | inr other ↦
          let s = some-found (length bs) (λ c. p (x ∷ c)) (side p (length bs) x ∙ first-has b high low y at_y) in
          let i = preferred-best bs (λ c. p (x ∷ c)) s.0 s.1 s.2 in
          (i.0, inr other)
    ]

pub preferred-none : (bs : Bits) (p : Set) → ((d : Bits) → length d ≡ length bs → IsTrue (p d) → ⊥) → preferred bs p ≡ bs
preferred-none [] p h = refl
preferred-none (b ∷ bs) p h =
    let high : Bool = some_of (length bs) (λ c. p (true ∷ c)) in
    let low : Bool = some_of (length bs) (λ c. p (false ∷ c)) in
    ap₂ (λ a q. a ∷ q)
    (first-none b high low (some-none (length bs) _ (λ c e t. h (true ∷ c) (ap suc e) t)) (some-none (length bs) _ (λ c e t. h (false ∷ c) (ap suc e) t)))
    (preferred-none bs (λ c. p (first_bit b high low ∷ c)) (λ c e t. h (first_bit b high low ∷ c) (ap suc e) t))

-- the bits that are found are the preferred list
pub preferred-is : (prefer : Bits) (p : Set) (P : Bits → Type 0) → ((c : Bits) → length c ≡ length prefer → IsTrue (p c) ↔ P c) → IsPreferred prefer P (preferred prefer p)
preferred-is prefer p P t =
    record {
      len = preferred-len prefer p;
      best = λ d e h. let b = preferred-best prefer p d e ((t d e).1 h) in ((t (preferred prefer p) (preferred-len prefer p)).0 b.0, b.1);
      else_prefer = λ none. preferred-none prefer p (λ d e h. none d e ((t d e).0 h));
    }

-- ---- there is one

before-both : (bs c d : Bits) → Before bs c d → Before bs d c → c ≡ d
before-both bs [] [] h k = refl
before-both [] [] (y ∷ d) h k = absurd h
before-both (b ∷ bs) [] (y ∷ d) h k = absurd h
before-both [] (x ∷ c) d h k = absurd h
before-both (b ∷ bs) (x ∷ c) [] h k = absurd h
before-both (b ∷ bs) (x ∷ c) (y ∷ d) h k =
    elim h [
      | inl s ↦ elim k [
        | inl t ↦ ap₂ (λ a q. a ∷ q) s.0 (before-both bs c d s.1 t.1)
        | inr t ↦ absurd (t.0 (sym s.0))
      ]
      | inr s ↦ elim k [
        | inl t ↦ absurd (s.0 (sym t.0))
        | inr t ↦ absurd (s.0 (s.1 ∙ sym t.1))
      ]
    ]

-- where membership is decided, two preferred lists are one
pub preferred-one : (prefer : Bits) (p : Set) (P : Bits → Type 0) → ((c : Bits) → length c ≡ length prefer → IsTrue (p c) ↔ P c) → (c d : Bits) → IsPreferred prefer P c → IsPreferred prefer P d → c ≡ d
preferred-one prefer p P t c d h k =
    elim (cases_Bool (some_of (length prefer) p)) [
      | inl e ↦
          let s = some-found (length prefer) p e in
          let x : P s.0 = (t s.0 s.1).0 s.2 in
          before-both prefer c d
          (h.best d k.len (k.best s.0 s.1 x).0).1
          (k.best c h.len (h.best s.0 s.1 x).0).1
      | inr e ↦
          let none : (x : Bits) → length x ≡ length prefer → P x → ⊥ = λ x l y. both_ways (some_of (length prefer) p) e (some-from (length prefer) p x l ((t x l).1 y)) in
          h.else_prefer none ∙ sym (k.else_prefer none)
    ]
