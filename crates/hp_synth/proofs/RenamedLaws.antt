-- Functions of a table where a machine's variables stand at places, over these variables themselves.
use Rattle.std.proofs.Common.{◌≡◌, inl, inr, ℕ, suc, ◌+◌, ◌<◌, List, [], ◌∷◌, length, map, slice_get, slice_set, slice_index_or, Option, Some, None, refl, sym, ap, subst, ◌∙◌, arith}
use Rattle.std.proofs.lemmas.Bool.{cases_lt, cases_order}
use Rattle.std.proofs.lemmas.List.Elements.{All-nil, All-cons}
use Rattle.std.specs.Option.{option_map_or}
use Rattle.hp_diagram.specs.declared.reference.Ref.{Ref}
use Rattle.hp_diagram.specs.Diagrams.{Diagrams, function, Has, Means, Keeps}
use Rattle.hp_diagram.proofs.Choices.{Means-keeps}
use Rattle.hp_quant.specs.Replacements.{replaced, HasAll}
use Rattle.hp_synth.specs.declared.layout.Layout.{Layout}
use Rattle.hp_synth.specs.Building.{HasEach}
use Rattle.hp_synth.specs.Kept.{AllMean}
use Rattle.hp_synth.specs.Layouts.{place, variable, IsLayout}
use Rattle.hp_synth.specs.Renamed.{AreNamed}
use Rattle.hp_synth.specs.Valued.{Valued, Fun, through, over}
use Rattle.hp_synth.proofs.LayoutLaws.{written, left, set-len}

-- ---- the names, one by one

module _ (vars : ℕ) (l : Layout) (placed : IsLayout vars l) where
  pub none-named : (t : Diagrams) (by : List (Option Ref)) → length by ≡ t.vars → ((y : ℕ) → slice_index_or by y None ≡ None) → AreNamed l t 0 by
  none-named t by len none = record { len = len; named = λ x lt. absurd (omega (arith, lt)); others = λ x ge. none (place l x) }

  pub one-named : (t u : Diagrams) (by : List (Option Ref)) (x : ℕ) (r : Ref) → t.vars ≡ vars → x < vars → Keeps t u → Means u (λ v. v x) r → AreNamed l t x by → AreNamed l u (x + 1) (slice_set by (place l x) (Some r))
  one-named t u by x r many lt keeps m h =
      let len : length by ≡ vars = h.len ∙ many in
      record {
        len = set-len by (place l x) (Some r) ∙ h.len ∙ sym keeps.vars;
        named = λ z below. elim (cases_order z x) [
          | inl e ↦
              (r, subst (λ y. slice_index_or (slice_set by (place l x) (Some r)) (place l y) None ≡ Some r) (sym e) (written vars l placed by x (Some r) None len lt), subst (λ y. Means u (λ v. v y) r) (sym e) m)
          | inr (inl before) ↦
              let old = h.named z before in
              (old.0, left vars l placed by x z (Some r) None (λ e. absurd (omega (arith, e, before))) ∙ old.1, Means-keeps t u keeps (λ v. v z) old.0 old.2)
          | inr (inr behind) ↦ absurd (omega (arith, below, behind))
        ];
        others = λ z ge. left vars l placed by x z (Some r) None (λ e. absurd (omega (arith, e, ge))) ∙ h.others z (omega (arith, ge));
      }

  -- ---- what they do

  module _ (t : Diagrams) (by : List (Option Ref)) (h : AreNamed l t vars by) where
    pub named-has : HasAll t by
    named-has x g e =
        let v : ℕ = variable l x in
        let there : slice_index_or by (place l v) None ≡ Some g = ap (λ (y : ℕ). slice_index_or by y None) (placed.again x) ∙ e in
        elim (cases_lt v vars) [
          | inl before ↦
              let is = h.named v before in
              let both : Some is.0 ≡ Some g = sym is.1 ∙ there in
              let one : is.0 ≡ g = cc in
              subst (Has t) one is.2.has
          | inr behind ↦
              let none : None ≡ Some g = sym (h.others v behind) ∙ there in
              absurd cc
        ]

    at-own : (v : Valued) (x : ℕ) → replaced t by v (place l x) ≡ v x
    at-own v x =
        elim (cases_lt x vars) [
          | inl before ↦ let is = h.named x before in ap (λ o. option_map_or (λ (r : Ref). function t r v) o (v (place l x))) is.1 ∙ is.2.value v
          | inr behind ↦ ap (λ o. option_map_or (λ (r : Ref). function t r v) o (v (place l x))) (h.others x behind) ∙ ap v (placed.beyond x behind)
        ]

    -- at the valuation that they give, a machine's variables have their own values
    own : (v : Valued) → through (place l) (replaced t by v) ≡ v
    own v = λ j x. at-own v x j

    -- ---- lists of references

    pub all-renamed : (u : Diagrams) (refs made : List Ref) → length made ≡ length refs → ((i : ℕ) (r s : Ref) → slice_get refs i ≡ Some r → slice_get made i ≡ Some s → Means u (λ v. function t r (replaced t by v)) s) →
        (fs : List Fun) → AllMean t (map (over (place l)) fs) refs → AllMean u fs made
    all-renamed u [] [] len is [] m = tt
    all-renamed u [] (s ∷ made) len is fs m = absurd (omega (arith, len))
    all-renamed u (r ∷ refs) [] len is fs m = absurd (omega (arith, len))
    all-renamed u [] [] len is (f ∷ fs) m = absurd m
    all-renamed u (r ∷ refs) (s ∷ made) len is [] m = absurd m
    all-renamed u (r ∷ refs) (s ∷ made) len is (f ∷ fs) m =
        let one = is 0 r s refl refl in (
          record { has = one.has; value = λ v. one.value v ∙ (m.0).value (replaced t by v) ∙ ap f (own v) },
          all-renamed u refs made (omega (arith, len)) (λ i p q e d. is (suc i) p q e d) fs m.1,
        )

pub each-has : (t u : Diagrams) (by : List (Option Ref)) (refs made : List Ref) → length made ≡ length refs → ((i : ℕ) (r s : Ref) → slice_get refs i ≡ Some r → slice_get made i ≡ Some s → Means u (λ v. function t r (replaced t by v)) s) → HasEach u made
each-has t u by [] [] len is = All-nil (Has u)
each-has t u by [] (s ∷ made) len is = absurd (omega (arith, len))
each-has t u by (r ∷ refs) [] len is = absurd (omega (arith, len))
each-has t u by (r ∷ refs) (s ∷ made) len is = All-cons (Has u) s made (is 0 r s refl refl).has (each-has t u by refs made (omega (arith, len)) (λ i p q e d. is (suc i) p q e d))

-- functions that are placed, and then named by variables that are told where they stand
pub placed-back : (p q : ℕ → ℕ) → ((x : ℕ) → q (p x) ≡ x) → (fs : List Fun) → map (over q) (map (over p) fs) ≡ fs
placed-back p q same [] = refl
placed-back p q same (f ∷ fs) = λ j. (λ v. f (λ x. v (same x j))) ∷ placed-back p q same fs j
