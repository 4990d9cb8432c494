-- Lists that grow, and their elements one after the other.
use Rattle.std.proofs.Common.{◌≡◌, ℕ, ◌+◌, ◌-◌, ◌<◌, ◌≤◌, get_or, length, take, drop, map, List, [], ◌∷◌, ◌++◌, Bor, refl, sym, ap, ◌∙◌, arith}
use Rattle.std.proofs.lemmas.List.{append_assoc, append-nil, map-append, drop_all, length-append, take-append-le, take_all}
use Rattle.std.proofs.Math.Seq.{drop-cons}
use Rattle.std.proofs.Math.Numerals.{add-one}
use Rattle.hp_tree.specs.declared.block.Eqn as code_eqn
use Rattle.hp_tree.specs.BlockView.{eqn_seen}
use Rattle.hp_automata.specs.Lists.{names_seen, with_more, front}

-- an element of a list, and what is behind it
pub drop-next : {A : Type 0} (xs : List A) (i : ℕ) (x : A) → i < length xs → x ≡ get_or xs i x → drop i xs ≡ x ∷ drop (i + 1) xs
drop-next xs i x h p = drop-cons xs i x h ∙ rw (add-one, ← p)

pub drop-end : {A : Type 0} (xs : List A) (i : ℕ) → length xs ≤ i → drop i xs ≡ []
drop-end xs i h = drop_all i xs h

module _ {A : Type 0} (before : List A) where
  pub more-nil : with_more before [] ≡ before
  unfolding with_more
  more-nil = append-nil before

  pub more-one : (a : A) → before ++ a ∷ [] ≡ with_more before (a ∷ [])
  unfolding with_more
  more-one a = refl

  pub more-append : (xs ys : List A) → with_more before (xs ++ ys) ≡ with_more (with_more before xs) ys
  unfolding with_more
  more-append xs ys = sym (append_assoc before xs ys)

  pub more-cons : (x : A) (ys : List A) → with_more before (x ∷ ys) ≡ with_more (with_more before (x ∷ [])) ys
  unfolding with_more
  more-cons x ys = sym (append_assoc before (x ∷ []) ys)

pub more-is : {A : Type 0} (xs ys : List A) → with_more xs ys ≡ xs ++ ys
unfolding with_more
more-is xs ys = refl

pub more-from_nil : {A : Type 0} (xs : List A) → with_more [] xs ≡ xs
unfolding with_more
more-from_nil xs = refl

-- one more element
pub more-on : {A : Type 0} (now after own rest from all : List A) → after ≡ with_more now own → from ≡ own ++ rest → with_more now from ≡ all → with_more after rest ≡ all
more-on now after own rest from all step parts known = ap (λ made. with_more made rest) step ∙ sym (more-append now own rest) ∙ sym (ap (with_more now) parts) ∙ known

pub map-one : {A B : Type 0} (f : A → B) (xs : List A) (x : A) → map f (xs ++ x ∷ []) ≡ map f xs ++ f x ∷ []
map-one f [] x = refl
map-one f (y ∷ xs) x = ap (λ rest. f y ∷ rest) (map-one f xs x)

pub seen-pushed : (es : List code_eqn.Eqn) (e : code_eqn.Eqn) → map eqn_seen (es ++ e ∷ []) ≡ with_more (map eqn_seen es) (eqn_seen e ∷ [])
unfolding with_more
seen-pushed es e = map-one eqn_seen es e

pub names-push : (xs : List (Bor (List ℕ))) (x : Bor (List ℕ)) → names_seen (xs ++ x ∷ []) ≡ with_more (names_seen xs) (x.now ∷ [])
names-push xs x = map-append (λ (y : Bor (List ℕ)). y.now) xs (x ∷ []) ∙ more-one (names_seen xs) x.now

-- what is entered, and left again
pub front-more : {A : Type 0} (xs : List A) (x : A) → front (xs ++ x ∷ []) ≡ xs
front-more xs x =
    let long : length (xs ++ x ∷ []) ≡ length xs + 1 = length-append xs (x ∷ []) in
    let less : length (xs ++ x ∷ []) - 1 ≡ length xs = omega (arith, long) in
    ap (λ n. take n (xs ++ x ∷ [])) less ∙ take-append-le (length xs) xs (x ∷ []) (omega arith) ∙ take_all (length xs) xs (omega arith)
