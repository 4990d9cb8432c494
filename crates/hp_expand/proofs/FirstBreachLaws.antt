-- The breach that is named is the first of its node in the text.
use Rattle.std.proofs.Common.{◌≡◌, Bool, true, false, if◌then◌else◌, List, [], ◌∷◌, Option, None, Some, ◌⊎◌, inl, inr, fold, refl, sym, ap, subst, ◌∙◌, arith}
use Rattle.std.proofs.lemmas.Bool.Decides.{nat_tests}
use Rattle.hp_base.specs.declared.span.Span.{Span}
use Rattle.hp_base.specs.First.First.{is_before, itself, sooner, merged}
use Rattle.hp_base.proofs.FirstLemmas.FirstLaws.{not_before_trans}
use Rattle.hp_expand.specs.Shapes.{Found, Breach, Mark, plain_at, bound_at, integer_at, nothing, see, found_after, breach_at, place_of, breach_among, in_contract, in_block}
use Rattle.hp_expand.specs.declared.error.Shape.{Shape}
use Rattle.hp_expand.specs.declared.error.Shape.TheVariants.{Call, Inline, WrongType}
use Rattle.hp_expand.specs.FirstBreach.{IsPlain, IsBound, IsInteger, IsBroken, FirstIsNamed}

never-itself : (p : Span) → is_before p p ≡ false
never-itself p = grind (arith, nat_tests)

-- what stands before none of two places that are compared
before-both : (x q r : Span) → is_before r q ≡ true → is_before x q ≡ false → is_before x r ≡ false
before-both x q r h k = grind (arith, nat_tests)

turned : (q r : Span) → is_before r q ≡ true → is_before q r ≡ false
turned q r h = grind (arith, nat_tests)

-- the first of the places that are so
abbrev Least : Option Span → (Span → Type 0) → Type 0
Least None P = (p : Span) → P p → ⊥
Least (Some q) P = P q × ((p : Span) → P p → is_before p q ≡ false)

-- one place more
least-more : (P : Span → Type 0) (o : Option Span) (at : Span) → Least o P → Least (sooner itself o at) (λ p. P p ⊎ (p ≡ at))
least-more P None at h = (inr refl, λ p k. by p k)
  where
    by : (p : Span) → P p ⊎ (p ≡ at) → is_before p at ≡ false
    by p (inl k) = absurd (h p k)
    by p (inr e) = ap (λ x. is_before x at) e ∙ never-itself at
least-more P (Some q) at h = by (is_before at q) refl
  where
    to_at : is_before at q ≡ true → (p : Span) → P p ⊎ (p ≡ at) → is_before p at ≡ false
    to_at e p (inl k) = before-both p q at e (h.1 p k)
    to_at e p (inr f) = ap (λ x. is_before x at) f ∙ never-itself at

    to_q : is_before at q ≡ false → (p : Span) → P p ⊎ (p ≡ at) → is_before p q ≡ false
    to_q e p (inl k) = h.1 p k
    to_q e p (inr f) = ap (λ x. is_before x q) f ∙ e

    by : (d : Bool) → is_before at q ≡ d → Least (if◌then◌else◌ {A = Option Span} d (Some at) (Some q)) (λ p. P p ⊎ (p ≡ at))
    by true e = (inr refl, to_at e)
    by false e = (inl h.0, to_q e)

-- the same places said in another way
least-same : (P Q : Span → Type 0) (o : Option Span) → ((p : Span) → P p → Q p) → ((p : Span) → Q p → P p) → Least o P → Least o Q
least-same P Q None f g h = λ p k. h p (g p k)
least-same P Q (Some q) f g h = (f q h.0, λ p k. h.1 p (g p k))

module _ (P : Span → Type 0) (at : Span) (M : Span → Type 0) where
  over : (p : Span) → (P p ⊎ (p ≡ at)) ⊎ M p → P p ⊎ ((p ≡ at) ⊎ M p)
  over p (inl (inl k)) = inl k
  over p (inl (inr k)) = inr (inl k)
  over p (inr k) = inr (inr k)

  back : (p : Span) → P p ⊎ ((p ≡ at) ⊎ M p) → (P p ⊎ (p ≡ at)) ⊎ M p
  back p (inl k) = inl (inl k)
  back p (inr (inl k)) = inl (inr k)
  back p (inr (inr k)) = inr k

no_more : (P : Span → Type 0) (o : Option Span) → Least o P → Least o (λ p. P p ⊎ ⊥)
no_more P o h = least-same P (λ p. P p ⊎ ⊥) o (λ p k. inl k) (λ p k. only p k) h
  where
    only : (p : Span) → P p ⊎ ⊥ → P p
    only p (inl k) = k
    only p (inr k) = absurd k

plain-least : (ms : List Mark) (f : Found) (P : Span → Type 0) → Least f.plain P → Least (fold see f ms).plain (λ p. P p ⊎ IsPlain ms p)
plain-least [] f P h = no_more P f.plain h
plain-least (plain_at at ∷ ms) f P h =
    least-same (λ p. (P p ⊎ (p ≡ at)) ⊎ IsPlain ms p) (λ p. P p ⊎ ((p ≡ at) ⊎ IsPlain ms p)) (fold see (see f (plain_at at)) ms).plain (over P at (IsPlain ms)) (back P at (IsPlain ms))
    (plain-least ms (see f (plain_at at)) (λ p. P p ⊎ (p ≡ at)) (least-more P f.plain at h))
plain-least (bound_at at ∷ ms) f P h = plain-least ms (see f (bound_at at)) P h
plain-least (integer_at at ∷ ms) f P h = plain-least ms (see f (integer_at at)) P h

bound-least : (ms : List Mark) (f : Found) (P : Span → Type 0) → Least f.bound P → Least (fold see f ms).bound (λ p. P p ⊎ IsBound ms p)
bound-least [] f P h = no_more P f.bound h
bound-least (plain_at at ∷ ms) f P h = bound-least ms (see f (plain_at at)) P h
bound-least (bound_at at ∷ ms) f P h =
    least-same (λ p. (P p ⊎ (p ≡ at)) ⊎ IsBound ms p) (λ p. P p ⊎ ((p ≡ at) ⊎ IsBound ms p)) (fold see (see f (bound_at at)) ms).bound (over P at (IsBound ms)) (back P at (IsBound ms))
    (bound-least ms (see f (bound_at at)) (λ p. P p ⊎ (p ≡ at)) (least-more P f.bound at h))
bound-least (integer_at at ∷ ms) f P h = bound-least ms (see f (integer_at at)) P h

integer-least : (ms : List Mark) (f : Found) (P : Span → Type 0) → Least f.integer P → Least (fold see f ms).integer (λ p. P p ⊎ IsInteger ms p)
integer-least [] f P h = no_more P f.integer h
integer-least (plain_at at ∷ ms) f P h = integer-least ms (see f (plain_at at)) P h
integer-least (bound_at at ∷ ms) f P h = integer-least ms (see f (bound_at at)) P h
integer-least (integer_at at ∷ ms) f P h =
    least-same (λ p. (P p ⊎ (p ≡ at)) ⊎ IsInteger ms p) (λ p. P p ⊎ ((p ≡ at) ⊎ IsInteger ms p)) (fold see (see f (integer_at at)) ms).integer (over P at (IsInteger ms)) (back P at (IsInteger ms))
    (integer-least ms (see f (integer_at at)) (λ p. P p ⊎ (p ≡ at)) (least-more P f.integer at h))

-- from nothing
module _ (M : Span → Type 0) (o : Option Span) (h : Least o (λ p. ⊥ ⊎ M p)) where
  only-these : (p : Span) → ⊥ ⊎ M p → M p
  only-these p (inl k) = absurd k
  only-these p (inr k) = k

  begun : Least o M
  begun = least-same (λ p. ⊥ ⊎ M p) M o only-these (λ p k. inr k) h

-- ---- breaches

-- the first of the breaches that are so
abbrev First : Option Breach → (Shape → Span → Type 0) → Type 0
First None P = (shape : Shape) (p : Span) → P shape p → ⊥
First (Some b) P = P b.shape b.at × ((shape : Shape) (p : Span) → P shape p → is_before p b.at ≡ false)

-- of a shape alone
first-at : (shape : Shape) (o : Option Span) (M : Span → Type 0) → Least o M → First (breach_at shape o) (λ s p. (s ≡ shape) × M p)
first-at shape None M h = λ s p k. h p k.1
first-at shape (Some q) M h = ((refl, h.0), λ s p k. h.1 p k.1)

first-both : (P Q : Shape → Span → Type 0) (a b : Option Breach) → First a P → First b Q → First (merged place_of a b) (λ s p. P s p ⊎ Q s p)
first-both P Q None None h k = λ s p. by s p
  where
    by : (s : Shape) (p : Span) → P s p ⊎ Q s p → ⊥
    by s p (inl x) = h s p x
    by s p (inr x) = k s p x
first-both P Q None (Some b) h k = (inr k.0, λ s p. by s p)
  where
    by : (s : Shape) (p : Span) → P s p ⊎ Q s p → is_before p b.at ≡ false
    by s p (inl x) = absurd (h s p x)
    by s p (inr x) = k.1 s p x
first-both P Q (Some a) None h k = (inl h.0, λ s p. by s p)
  where
    by : (s : Shape) (p : Span) → P s p ⊎ Q s p → is_before p a.at ≡ false
    by s p (inl x) = h.1 s p x
    by s p (inr x) = absurd (k s p x)
first-both P Q (Some a) (Some b) h k = by (is_before b.at a.at) refl
  where
    to_b : is_before b.at a.at ≡ true → (s : Shape) (p : Span) → P s p ⊎ Q s p → is_before p b.at ≡ false
    to_b e s p (inl x) = before-both p a.at b.at e (h.1 s p x)
    to_b e s p (inr x) = k.1 s p x

    to_a : is_before b.at a.at ≡ false → (s : Shape) (p : Span) → P s p ⊎ Q s p → is_before p a.at ≡ false
    to_a e s p (inl x) = h.1 s p x
    to_a e s p (inr x) = not_before_trans p b.at a.at (k.1 s p x) e

    by : (d : Bool) → is_before b.at a.at ≡ d → First (if◌then◌else◌ {A = Option Breach} d (Some b) (Some a)) (λ s p. P s p ⊎ Q s p)
    by true e = (inr k.0, to_b e)
    by false e = (inl h.0, to_a e)

first-same : (P Q : Shape → Span → Type 0) (o : Option Breach) → ((s : Shape) (p : Span) → P s p → Q s p) → ((s : Shape) (p : Span) → Q s p → P s p) → First o P → First o Q
first-same P Q None f g h = λ s p k. h s p (g s p k)
first-same P Q (Some b) f g h = (f b.shape b.at h.0, λ s p k. h.1 s p (g s p k))

module _ (cs bs : List Mark) where
  abbrev Apart : Shape → Span → Type 0
  Apart s p = (((s ≡ Call) × IsPlain cs p) ⊎ ((s ≡ Inline) × IsBound cs p)) ⊎ (((s ≡ WrongType) × IsInteger cs p) ⊎ ((s ≡ Inline) × IsBound bs p))

  joined : (s : Shape) (p : Span) → Apart s p → IsBroken cs bs s p
  joined s p (inl (inl k)) = subst (λ t. IsBroken cs bs t p) (sym k.0) k.1
  joined s p (inl (inr k)) = subst (λ t. IsBroken cs bs t p) (sym k.0) (inl k.1)
  joined s p (inr (inl k)) = subst (λ t. IsBroken cs bs t p) (sym k.0) k.1
  joined s p (inr (inr k)) = subst (λ t. IsBroken cs bs t p) (sym k.0) (inr k.1)

  parted : (s : Shape) (p : Span) → IsBroken cs bs s p → Apart s p
  parted Call p k = inl (inl (refl, k))
  parted Inline p (inl k) = inl (inr (refl, k))
  parted Inline p (inr k) = inr (inr (refl, k))
  parted WrongType p k = inr (inl (refl, k))

  first-among : First (breach_among (found_after nothing cs) (found_after nothing bs)) (IsBroken cs bs)
  unfolding breach_among found_after
  first-among =
      let c = fold see nothing cs in
      let b = fold see nothing bs in
      let calls = begun (IsPlain cs) c.plain (plain-least cs nothing (λ p. ⊥) (λ p k. k)) in
      let inlines = begun (IsBound cs) c.bound (bound-least cs nothing (λ p. ⊥) (λ p k. k)) in
      let integers = begun (IsInteger cs) c.integer (integer-least cs nothing (λ p. ⊥) (λ p k. k)) in
      let others = begun (IsBound bs) b.bound (bound-least bs nothing (λ p. ⊥) (λ p k. k)) in
      first-same Apart (IsBroken cs bs) (breach_among c b) joined parted
      (first-both (λ s p. ((s ≡ Call) × IsPlain cs p) ⊎ ((s ≡ Inline) × IsBound cs p)) (λ s p. ((s ≡ WrongType) × IsInteger cs p) ⊎ ((s ≡ Inline) × IsBound bs p))
      (merged place_of (breach_at Call c.plain) (breach_at Inline c.bound)) (merged place_of (breach_at WrongType c.integer) (breach_at Inline b.bound))
      (first-both (λ s p. (s ≡ Call) × IsPlain cs p) (λ s p. (s ≡ Inline) × IsBound cs p) (breach_at Call c.plain) (breach_at Inline c.bound)
      (first-at Call c.plain (IsPlain cs) calls) (first-at Inline c.bound (IsBound cs) inlines))
      (first-both (λ s p. (s ≡ WrongType) × IsInteger cs p) (λ s p. (s ≡ Inline) × IsBound bs p) (breach_at WrongType c.integer) (breach_at Inline b.bound)
      (first-at WrongType c.integer (IsInteger cs) integers) (first-at Inline b.bound (IsBound bs) others)))

pub first_law : FirstIsNamed
first_law forms n b h =
    let cs = in_contract forms n.contract in
    let bs = in_block forms n.body in
    subst (λ o. First o (IsBroken cs bs)) h (first-among cs bs)
