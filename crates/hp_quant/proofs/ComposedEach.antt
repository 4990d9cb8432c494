-- Functions in the place of variables of several functions, one after the other.
use Rattle.std.proofs.Common.{◌≡◌, ℕ, ◌+◌, inl, inr, List, [], ◌∷◌, ◌++◌, length, get_or, slice_get, Option, Some, sym, ap, subst, ◌∙◌, arith}
use Rattle.std.proofs.lemmas.Bool.{cases_lt}
use Rattle.std.proofs.lemmas.List.{length_push, get_or_append_left, get_or_push}
use Rattle.std.proofs.lemmas.Option.{slice_get_within, slice_get-get_or, get_or_from_slice_get}
use Rattle.hp_diagram.specs.declared.reference.Ref.{Ref}
use Rattle.hp_diagram.specs.Diagrams.{Diagrams, function, Has, IsReduced, Means, Keeps}
use Rattle.hp_diagram.proofs.Choices.{Keeps-refl, Keeps-trans, Means-keeps}
use Rattle.hp_quant.specs.declared.memo.Memo.{Memo}
use Rattle.hp_quant.specs.Memo.{Knows}
use Rattle.hp_quant.specs.Replacements.{replaced, HasAll, Composes, AllComposed, AreComposed}
use Rattle.hp_quant.proofs.Composed.{function-replaced}

-- so many of the references are done, and what the pass has found is right
pub record ComposedSoFar (old t : Diagrams) (by : List (Option Ref)) (refs made : List Ref) (memo : Memo) (count : ℕ) : Type 0 where
  pub keeps : Keeps old t
  pub found : AllComposed t by memo
  pub len : length made ≡ count
  pub right : AreComposed old t by refs made

pub none_composed : (t : Diagrams) (by : List (Option Ref)) (refs made : List Ref) (memo : Memo) → IsReduced t → ((r s : Ref) → ¬ Knows memo r s) → made ≡ [] → ComposedSoFar t t by refs made memo 0
none_composed t by refs made memo reduced nothing none =
    record {
      keeps = Keeps-refl t reduced;
      found = λ r s known. absurd (nothing r s known);
      len = ap length none;
      right = λ i r s at there. absurd (omega (arith, slice_get_within made i s there, ap length none));
    }

-- one more
module _ (old t u : Diagrams) (by : List (Option Ref)) (refs made : List Ref) (memo after : Memo) (count : ℕ) (all : HasAll old by) (so_far : ComposedSoFar old t by refs made memo count)
    (r : Ref) (at : slice_get refs count ≡ Some r) (has : Has old r) (s : Ref) (to_u : Keeps t u) (found : AllComposed u by after) (is : Composes u by r s) where
  keeps : Keeps old u
  keeps = Keeps-trans old t u so_far.keeps to_u

  new_one : Means u (λ v. function old r (replaced old by v)) s
  new_one = record { has = is.means.has; value = λ v. is.means.value v ∙ function-replaced old u by keeps all r has v }

  all_right : (i : ℕ) (q p : Ref) → slice_get refs i ≡ Some q → slice_get (made ++ s ∷ []) i ≡ Some p → Means u (λ v. function old q (replaced old by v)) p
  all_right i q p of h =
      let there : get_or (made ++ s ∷ []) i p ≡ p = get_or_from_slice_get (made ++ s ∷ []) i p p h in
      elim (cases_lt i count) [
        | inl before ↦
            let same : get_or (made ++ s ∷ []) i p ≡ get_or made i p = get_or_append_left made (s ∷ []) p i (omega (arith, before, so_far.len)) in
            let read : slice_get made i ≡ Some p = slice_get-get_or made i p (omega (arith, before, so_far.len)) ∙ ap Some (sym same ∙ there) in
            Means-keeps t u to_u (λ v. function old q (replaced old by v)) p (so_far.right i q p of read)
        | inr behind ↦
            let last : i ≡ count = omega (arith, behind, slice_get_within (made ++ s ∷ []) i p h, length_push made s, so_far.len) in
            let is_new : get_or (made ++ s ∷ []) i p ≡ s = get_or_push made s p i (omega (arith, last, so_far.len)) in
            let same : Some r ≡ Some q = sym at ∙ ap (slice_get refs) (sym last) ∙ of in
            let one : r ≡ q = cc in
            subst (λ (k : Ref). Means u (λ v. function old k (replaced old by v)) p) one (subst (Means u (λ v. function old r (replaced old by v))) (sym is_new ∙ there) new_one)
      ]

  pub one_composed : (more : List Ref) → more ≡ made ++ s ∷ [] → ComposedSoFar old u by refs more after (count + 1)
  one_composed more e =
      record {
        keeps = keeps;
        found = found;
        len = omega (arith, ap length e, length_push made s, so_far.len);
        right = λ i q p of h. all_right i q p of (ap (λ xs. slice_get xs i) (sym e) ∙ h);
      }
