-- The names that equations define, one after the other.
use Rattle.std.proofs.Common.{◌≡◌, ℕ, List, [], ◌∷◌, ◌++◌, Bor, refl, sym, ◌∙◌}
use Rattle.std.proofs.lemmas.List.{map-append, append_assoc, append-nil}
use Rattle.hp_tree.specs.Expressions.{Expr}
use Rattle.hp_clocks.specs.Putting.{rights_seen}
use Rattle.hp_clocks.specs.Names.{with_more}

module _ {A : Type 0} (before : List A) where
  pub more-nil : with_more before [] ≡ before
  unfolding with_more
  more-nil = append-nil before

  pub more-one : (a : A) → before ++ a ∷ [] ≡ with_more before (a ∷ [])
  unfolding with_more
  more-one a = refl

  pub more-append : (xs ys : List A) → with_more before (xs ++ ys) ≡ with_more (with_more before xs) ys
  unfolding with_more
  more-append xs ys = sym (append_assoc before xs ys)

pub more-is : {A : Type 0} (xs ys : List A) → with_more xs ys ≡ xs ++ ys
unfolding with_more
more-is xs ys = refl

pub more-from_nil : {A : Type 0} (xs : List A) → with_more [] xs ≡ xs
unfolding with_more
more-from_nil xs = refl

pub rights_push : (rs : List (ℕ × Bor Expr)) (i : ℕ) (e : Bor Expr) → rights_seen (rs ++ (i, e) ∷ []) ≡ with_more (rights_seen rs) ((i, e.now) ∷ [])
rights_push rs i e =
    map-append (λ (r : ℕ × Bor Expr). let s : ℕ × Expr = (r.0, r.1.now) in s) rs ((i, e) ∷ []) ∙ more-one (rights_seen rs) (i, e.now)
