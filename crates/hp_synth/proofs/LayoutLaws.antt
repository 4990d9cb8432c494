-- Where the variables of a machine stand in a table.
use Rattle.std.proofs.Common.{◌≡◌, ◌≢◌, inl, inr, ℕ, zero, suc, ◌+◌, ◌<◌, ◌≤◌, List, [], ◌∷◌, length, slice_set, slice_index_or, refl, sym, ap, subst, ◌∙◌, arith}
use Rattle.std.proofs.lemmas.Bool.{cases_lt}
use Rattle.hp_synth.specs.declared.layout.Layout.{Layout}
use Rattle.hp_synth.specs.Layouts.{at, place, variable, IsLayout, IsPlain, Undoes, AreInverse}
use Rattle.hp_boolx.specs.Game.{Game}
use Rattle.hp_boolx.specs.declared.machine.Counts.{Counts}
use Rattle.hp_synth.specs.Rounds.{IsCounts}
use Rattle.hp_synth.specs.Valued.{Valued, through, total}

-- ---- lists

pub beyond-end : {A : Type 0} (xs : List A) (x : ℕ) (d : A) → length xs ≤ x → slice_index_or xs x d ≡ d
beyond-end [] x d l = refl
beyond-end (y ∷ xs) zero d l = absurd (omega (arith, l))
beyond-end (y ∷ xs) (suc x) d l = beyond-end xs x d (omega (arith, l))

pub set-same : {A : Type 0} (xs : List A) (i : ℕ) (a d : A) → i < length xs → slice_index_or (slice_set xs i a) i d ≡ a
set-same [] i a d l = absurd (omega (arith, l))
set-same (x ∷ xs) zero a d l = refl
set-same (x ∷ xs) (suc i) a d l = set-same xs i a d (omega (arith, l))

pub set-other : {A : Type 0} (xs : List A) (i j : ℕ) (a d : A) → i ≢ j → slice_index_or (slice_set xs i a) j d ≡ slice_index_or xs j d
set-other [] i j a d apart = refl
set-other (x ∷ xs) zero zero a d apart = absurd (apart refl)
set-other (x ∷ xs) zero (suc j) a d apart = refl
set-other (x ∷ xs) (suc i) zero a d apart = refl
set-other (x ∷ xs) (suc i) (suc j) a d apart = set-other xs i j a d (λ e. apart (ap suc e))

pub set-len : {A : Type 0} (xs : List A) (i : ℕ) (a : A) → length (slice_set xs i a) ≡ length xs
set-len [] i a = refl
set-len (x ∷ xs) zero a = refl
set-len (x ∷ xs) (suc i) a = ap suc (set-len xs i a)

-- ---- layouts

-- lists that undo each other are the places of so many variables
pub inverse-layout : (vars : ℕ) (l : Layout) → l.counts.registers + l.counts.early + l.counts.control + l.counts.late ≡ vars → AreInverse vars l.places.items l.variables.items → IsLayout vars l
inverse-layout vars l fits inverse =
    record {
      fits = fits;
      within = λ x lt. let h = (inverse.there x (omega (arith, lt, inverse.many))).0 in omega (arith, h, inverse.as_many);
      beyond = λ x ge. beyond-end l.places.items x x (omega (arith, ge, inverse.many));
      there = λ x. turned l.places.items l.variables.items inverse.there inverse.many inverse.as_many x;
      again = λ y. turned l.variables.items l.places.items inverse.again inverse.as_many inverse.many y;
    }
  where
    turned : (xs ys : List ℕ) → Undoes xs ys → length xs ≡ vars → length ys ≡ vars → (x : ℕ) → at ys (at xs x) ≡ x
    turned xs ys undoes e d x =
        elim (cases_lt x vars) [
          | inl lt ↦ (undoes x (omega (arith, lt, e))).1
          | inr ge ↦ ap (at ys) (beyond-end xs x x (omega (arith, ge, e))) ∙ beyond-end ys x x (omega (arith, ge, d))
        ]

pub plain-place : (l : Layout) → IsPlain l → (x : ℕ) → place l x ≡ x
plain-place l is x = ap (λ (xs : List ℕ). slice_index_or xs x x) is.0

pub plain-layout : (vars : ℕ) (l : Layout) → l.counts.registers + l.counts.early + l.counts.control + l.counts.late ≡ vars → IsPlain l → IsLayout vars l
plain-layout vars l fits is =
    record {
      fits = fits;
      within = λ x lt. subst (λ y. y < vars) (sym (plain-place l is x)) lt;
      beyond = λ x ge. plain-place l is x;
      there = λ x. back (place l x) ∙ plain-place l is x;
      again = λ y. plain-place l is (variable l y) ∙ back y;
    }
  where
    back : (y : ℕ) → variable l y ≡ y
    back y = ap (λ (xs : List ℕ). slice_index_or xs y y) is.1

module _ (vars : ℕ) (l : Layout) (is : IsLayout vars l) where
  variable-within : (y : ℕ) → y < vars → variable l y < vars
  variable-within y lt =
      elim (cases_lt (variable l y) vars) [
        | inl below ↦ below
        | inr ge ↦ let same : variable l y ≡ y = sym (is.beyond (variable l y) ge) ∙ is.again y in absurd (omega (arith, same, ge, lt))
      ]

  variable-beyond : (y : ℕ) → vars ≤ y → variable l y ≡ y
  variable-beyond y ge =
      elim (cases_lt (variable l y) vars) [
        | inl below ↦ let within = is.within (variable l y) below in let same = is.again y in absurd (omega (arith, within, same, ge))
        | inr far ↦ sym (is.beyond (variable l y) far) ∙ is.again y
      ]

  -- places and variables change their parts
  pub turned-layout : (other : Layout) → other.counts ≡ l.counts → other.places.items ≡ l.variables.items → other.variables.items ≡ l.places.items → IsLayout vars other
  turned-layout other counts places variables =
      let at_place : (x : ℕ) → place other x ≡ variable l x = λ x. ap (λ (xs : List ℕ). at xs x) places in
      let at_variable : (y : ℕ) → variable other y ≡ place l y = λ y. ap (λ (xs : List ℕ). at xs y) variables in
      record {
        fits = subst (λ (c : Counts). c.registers + c.early + c.control + c.late ≡ vars) (sym counts) is.fits;
        within = λ x lt. subst (λ y. y < vars) (sym (at_place x)) (variable-within x lt);
        beyond = λ x ge. at_place x ∙ variable-beyond x ge;
        there = λ x. at_variable (place other x) ∙ ap (place l) (at_place x) ∙ is.again x;
        again = λ y. at_place (variable other y) ∙ ap (variable l) (at_variable y) ∙ is.there y;
      }

  -- two variables have two places
  pub apart : (x z : ℕ) → x ≢ z → place l x ≢ place l z
  apart x z differ same = differ (sym (is.there x) ∙ ap (variable l) same ∙ is.there z)

  -- what is written at the place of a variable stands there, and leaves the others
  pub written : {A : Type 0} (xs : List A) (x : ℕ) (a d : A) → length xs ≡ vars → x < vars → slice_index_or (slice_set xs (place l x) a) (place l x) d ≡ a
  written xs x a d e lt = let h = is.within x lt in set-same xs (place l x) a d (omega (arith, h, e))

  pub left : {A : Type 0} (xs : List A) (x z : ℕ) (a d : A) → x ≢ z → slice_index_or (slice_set xs (place l x) a) (place l z) d ≡ slice_index_or xs (place l z) d
  left xs x z a d differ = set-other xs (place l x) (place l z) a d (apart x z differ)

  -- a valuation of a machine's variables, as one of the table's, and back
  pub seen : (v : Valued) → through (place l) (through (variable l) v) ≡ v
  seen v = λ j x. v (is.there x j)

  pub unseen : (v : Valued) → through (variable l) (through (place l) v) ≡ v
  unseen v = λ j y. v (is.again y j)

-- all kinds of variables together
pub layout-total : (vars : ℕ) (l : Layout) (g : Game) → IsLayout vars l → IsCounts g l.counts → vars ≡ total g
layout-total vars l g is counts = omega (arith, is.fits, counts.0, counts.1, counts.2, counts.3)
