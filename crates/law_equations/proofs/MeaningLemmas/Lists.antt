-- What holds of each element of a list, and values of variables.
use Rattle.std.proofs.Common.{◌≡◌, ℕ, nat_eq, Bool, true, false, ◌||◌, List, [], ◌∷◌, ◌++◌, length, map, if◌then◌else◌, refl, ap, subst, ◌∙◌, arith}
use Rattle.std.specs.List.{AllByRecursion, IsDistinct}
use Rattle.std.proofs.lemmas.Bool.{eqb-true, eq-eqb}
use Rattle.hp_base.specs.declared.value.Value.{Value}
use Rattle.law_equations.specs.Meaning.Instants.{Instant}
use Rattle.law_equations.specs.Meaning.Reactions.{has}
use Rattle.law_equations.specs.Meaning.Solving.{valued}

module _ {A : Type 0} where
  pub each_map : (P Q : A → Type 0) → ((a : A) → P a → Q a) → (ws : List A) → AllByRecursion P ws → AllByRecursion Q ws
  each_map P Q f [] h = tt
  each_map P Q f (a ∷ ws) h = (f a h.0, each_map P Q f ws h.1)

  pub each_both : (P Q R : A → Type 0) → ((a : A) → P a → Q a → R a) → (ws : List A) → AllByRecursion P ws → AllByRecursion Q ws → AllByRecursion R ws
  each_both P Q R f [] h g = tt
  each_both P Q R f (a ∷ ws) h g = (f a h.0 g.0, each_both P Q R f ws h.1 g.1)

  pub each_first : (P : A → Type 0) (xs ys : List A) → AllByRecursion P (xs ++ ys) → AllByRecursion P xs
  each_first P [] ys h = tt
  each_first P (x ∷ xs) ys h = (h.0, each_first P xs ys h.1)

  pub each_second : (P : A → Type 0) (xs ys : List A) → AllByRecursion P (xs ++ ys) → AllByRecursion P ys
  each_second P [] ys h = h
  each_second P (x ∷ xs) ys h = each_second P xs ys h.1

pub or_true : (a : Bool) → (a || true) ≡ true
or_true true = refl
or_true false = refl

has_by : (d e : Bool) (P : ℕ → Type 0) (x y : ℕ) → nat_eq x y ≡ d → P x → (e ≡ true → P y) → (d || e) ≡ true → P y
has_by true e P x y h p r t = subst P (eqb-true x y h) p
has_by false e P x y h p r t = r t

-- what holds of all numbers of a list holds of one
pub each_has : (P : ℕ → Type 0) (xs : List ℕ) (y : ℕ) → AllByRecursion P xs → has xs y ≡ true → P y
each_has P [] y h t = absurd (cc)
each_has P (x ∷ xs) y h t = has_by (nat_eq x y) (has xs y) P x y refl h.0 (λ e. each_has P xs y h.1 e) t

pub all_self : (xs : List ℕ) → AllByRecursion (λ x. has xs x ≡ true) xs
all_self [] = tt
all_self (x ∷ xs) = (
  ap (λ (d : Bool). d || has xs x) (eq-eqb x x refl),
  each_map (λ y. has xs y ≡ true) (λ y. has (x ∷ xs) y ≡ true) (λ y h. ap (λ (d : Bool). nat_eq x y || d) h ∙ or_true (nat_eq x y)) xs (all_self xs),
)

pub same_map : (f g : Instant) (xs : List ℕ) → AllByRecursion (λ x. f x ≡ g x) xs → map f xs ≡ map g xs
same_map f g [] h = refl
same_map f g (x ∷ xs) h = λ i. h.0 i ∷ same_map f g xs h.1 i

-- ---- variables that have values

take_by : (d e : Bool) (x y : ℕ) (f : Instant) (w : Value) → nat_eq x y ≡ d → (d || e) ≡ true → (e ≡ true → w ≡ f y) → (if d then f x else w) ≡ f y
take_by true e x y f w h p r = ap f (eqb-true x y h)
take_by false e x y f w h p r = r p

-- variables have the values that they have at an instant
pub valued-map : (xs : List ℕ) (f : Instant) (y : ℕ) → has xs y ≡ true → valued xs (map f xs) y ≡ f y
valued-map [] f y h = absurd (cc)
valued-map (x ∷ xs) f y h = take_by (nat_eq x y) (has xs y) x y f (valued xs (map f xs) y) refl h (λ e. valued-map xs f y e)

others_stay : (x : ℕ) (v : Value) (g : Instant) (ys : List ℕ) → AllByRecursion (λ y. nat_eq x y ≡ false) ys → map (λ y. if nat_eq x y then v else g y) ys ≡ map g ys
others_stay x v g [] h = refl
others_stay x v g (y ∷ ys) h = λ i. (if h.0 i then v else g y) ∷ others_stay x v g ys h.1 i

-- variables that differ have the values that they were given
pub map-valued : (xs : List ℕ) (vs : List Value) → IsDistinct nat_eq xs → length xs ≡ length vs → map (valued xs vs) xs ≡ vs
unfolding IsDistinct
map-valued [] [] h e = refl
map-valued [] (v ∷ vs) h e = absurd (omega arith)
map-valued (x ∷ xs) [] h e = absurd (omega arith)
map-valued (x ∷ xs) (v ∷ vs) h e = λ i. (if eq-eqb x x refl i then v else valued xs vs x) ∷ (others_stay x v (valued xs vs) xs h.0 ∙ map-valued xs vs h.1 (omega arith)) i
