-- What names stand for after some of them were given values.
use Rattle.std.proofs.Common.{◌≡◌, ℕ, zero, suc, ◌<◌, Bool, true, false, ◌||◌, nat_eq, List, [], ◌∷◌, length, map, if◌then◌else◌, refl, sym, ap, ◌∙◌, arith}
use Rattle.std.specs.List.{AllByRecursion, IsDistinct}
use Rattle.std.specs.Str.{bytes_eq}
use Rattle.std.proofs.lemmas.Bool.{eqb-true, eq-eqb}
use Rattle.std.proofs.lemmas.Slice.Eq.{bytes_eq-Decides}
use Rattle.hp_obc.specs.Steps.{Names, given, all_given}
use Rattle.hp_obc.proofs.Positions.{bytes_eq-sym}
use Rattle.hp_flat.specs.declared.node.Variable.{Variable}
use Rattle.law_equations.specs.Meaning.Reactions.{has}
use Rattle.hp_toobc.specs.Tables.{name_of}
use Rattle.law_equations.specs.Followed.Premises.{names}

pub same_name : (x y : List ℕ) → bytes_eq x y ≡ true → x ≡ y
same_name x y = (bytes_eq-Decides x y).0

pub its_name : (x : List ℕ) → bytes_eq x x ≡ true
its_name x = (bytes_eq-Decides x x).1 refl

pub turned : (x y : List ℕ) → bytes_eq x y ≡ false → bytes_eq y x ≡ false
turned x y h = bytes_eq-sym y x ∙ h

-- ---- what holds of each of a list

module _ {A : Type 0} where
  pub each_map : (P Q : A → Type 0) → ((a : A) → P a → Q a) → (ws : List A) → AllByRecursion P ws → AllByRecursion Q ws
  each_map P Q f [] h = tt
  each_map P Q f (a ∷ ws) h = (f a h.0, each_map P Q f ws h.1)

  pub each_both : (P Q R : A → Type 0) → ((a : A) → P a → Q a → R a) → (ws : List A) → AllByRecursion P ws → AllByRecursion Q ws → AllByRecursion R ws
  each_both P Q R f [] h g = tt
  each_both P Q R f (a ∷ ws) h g = (f a h.0 g.0, each_both P Q R f ws h.1 g.1)

-- ---- names that are given values

module _ {A : Type 0} where
  pub given-at : (x : List ℕ) (v : A) (g : Names A) → given x v g x ≡ v
  given-at x v g = ap (λ (d : Bool). if d then v else g x) (its_name x)

  pub given-else : (x : List ℕ) (v : A) (g : Names A) (y : List ℕ) → bytes_eq x y ≡ false → given x v g y ≡ g y
  given-else x v g y e = ap (λ (d : Bool). if d then v else g y) e

  self_by : (d : Bool) (x y : List ℕ) (v : A) (g : Names A) → bytes_eq x y ≡ d → g x ≡ v → (if d then v else g y) ≡ g y
  self_by true x y v g e h = sym h ∙ ap g (same_name x y e)
  self_by false x y v g e h = refl

  -- a name that is given the value that it has
  pub given-self : (x : List ℕ) (v : A) (g : Names A) → g x ≡ v → given x v g ≡ g
  given-self x v g h = λ i y. self_by (bytes_eq x y) x y v g refl h i

  twice_by : (d : Bool) (v w r : A) → (if d then v else (if d then w else r)) ≡ (if d then v else r)
  twice_by true v w r = refl
  twice_by false v w r = refl

  pub given-twice : (x : List ℕ) (v w : A) (g : Names A) → given x v (given x w g) ≡ given x v g
  given-twice x v w g = λ i y. twice_by (bytes_eq x y) v w (g y) i

  pub all_given-skip : (xs : List (List ℕ)) (vs : List A) (g : Names A) (y : List ℕ) → AllByRecursion (λ x. bytes_eq x y ≡ false) xs → all_given xs vs g y ≡ g y
  all_given-skip [] vs g y h = refl
  all_given-skip (x ∷ xs) [] g y h = refl
  all_given-skip (x ∷ xs) (v ∷ vs) g y h = given-else x v (all_given xs vs g) y h.0 ∙ all_given-skip xs vs g y h.1

-- ---- the names of variables

-- what holds of the names of all variables holds of the one of a number
pub named : (P : List ℕ → Type 0) (variables : List Variable) (x : ℕ) → AllByRecursion P (names variables) → x < length variables → P (name_of variables x)
named P [] x h lt = absurd (omega arith)
named P (v ∷ variables) zero h lt = h.0
named P (v ∷ variables) (suc x) h lt = named P variables x h.1 (omega arith)

pub all_named : (P : List ℕ → Type 0) (variables : List Variable) (xs : List ℕ) → AllByRecursion P (names variables) → AllByRecursion (λ x. x < length variables) xs → AllByRecursion P (map (name_of variables) xs)
all_named P variables [] h lt = tt
all_named P variables (x ∷ xs) h lt = (named P variables x h lt.0, all_named P variables xs h lt.1)

one_number : (variables : List Variable) → IsDistinct bytes_eq (names variables) → (x y : ℕ) → x < length variables → y < length variables → bytes_eq (name_of variables x) (name_of variables y) ≡ true → x ≡ y
unfolding IsDistinct
one_number [] d x y h g e = absurd (omega arith)
one_number (v ∷ variables) d zero zero h g e = refl
one_number (v ∷ variables) d zero (suc y) h g e =
    let apart : bytes_eq v.name (name_of variables y) ≡ false = named (λ z. bytes_eq v.name z ≡ false) variables y d.0 (omega arith) in absurd (cc)
one_number (v ∷ variables) d (suc x) zero h g e =
    let apart : bytes_eq v.name (name_of variables x) ≡ false = named (λ z. bytes_eq v.name z ≡ false) variables x d.0 (omega arith) in
    let other : bytes_eq (name_of variables x) v.name ≡ false = turned v.name (name_of variables x) apart in absurd (cc)
one_number (v ∷ variables) d (suc x) (suc y) h g e = ap suc (one_number variables d.1 x y (omega arith) (omega arith) e)

same_by : (d e : Bool) (x y : ℕ) → nat_eq x y ≡ e → (d ≡ true → x ≡ y) → (x ≡ y → d ≡ true) → d ≡ e
same_by true true x y n h g = refl
same_by false false x y n h g = refl
same_by true false x y n h g = absurd (cc (eq-eqb x y (h refl)))
same_by false true x y n h g = absurd (cc (g (eqb-true x y n)))

-- Names of variables are the same exactly where their numbers are.
pub same-name : (variables : List Variable) → IsDistinct bytes_eq (names variables) → (x y : ℕ) → x < length variables → y < length variables → bytes_eq (name_of variables x) (name_of variables y) ≡ nat_eq x y
same-name variables d x y h g =
    same_by (bytes_eq (name_of variables x) (name_of variables y)) (nat_eq x y) x y refl (one_number variables d x y h g) (λ e. ap (λ z. bytes_eq (name_of variables x) (name_of variables z)) (sym e) ∙ its_name (name_of variables x))

at_by : {A : Type 0} (b d e : Bool) (x y : ℕ) (now : ℕ → A) (w r : A) → b ≡ d → nat_eq x y ≡ d → w ≡ (if e then now y else r) → (if b then now x else w) ≡ (if d || e then now y else r)
at_by b true e x y now w r p n h = ap (λ (c : Bool). if c then now x else w) p ∙ ap now (eqb-true x y n)
at_by b false e x y now w r p n h = ap (λ (c : Bool). if c then now x else w) p ∙ h

-- Variables that are given their values at an instant have these, and no other variable is changed.
pub all_given-at : {A : Type 0} (variables : List Variable) → IsDistinct bytes_eq (names variables) → (xs : List ℕ) → AllByRecursion (λ x. x < length variables) xs → (now : ℕ → A) (g : Names A) (y : ℕ) → y < length variables
    → all_given (map (name_of variables) xs) (map now xs) g (name_of variables y) ≡ (if has xs y then now y else g (name_of variables y))
all_given-at variables d [] h now g y lt = refl
all_given-at variables d (x ∷ xs) h now g y lt =
    at_by (bytes_eq (name_of variables x) (name_of variables y)) (nat_eq x y) (has xs y) x y now (all_given (map (name_of variables) xs) (map now xs) g (name_of variables y)) (g (name_of variables y))
    (same-name variables d x y h.0 lt) refl (all_given-at variables d xs h.1 now g y lt)
