-- The lists of a tree and the plain lists.
use Rattle.std.proofs.Common.{◌≡◌, ℕ, zero, suc, ◌<◌, ◌≤◌, get_or, length, arith, List, [], ◌∷◌, map, Bool, false, ◌↔◌, IsTrue, refl, sym, ap, ◌∙◌}
use Rattle.std.proofs.lemmas.Bool.{both_ways}
use Rattle.hp_tree.specs.declared.decl.Cons.{Cons}
use Rattle.hp_tree.specs.Expressions.{Expr, exprs_of, list_of, parts_of, list_of_parts}
use Rattle.hp_tree.specs.Sizes.{nodes, nodes_of_all, nodes_of_parts}

-- the plain list is read back
pub list_of-exprs_of : (es : List Expr) → list_of (exprs_of es) ≡ es
list_of-exprs_of [] = refl
list_of-exprs_of (e ∷ es) = ap (λ rest. e ∷ rest) (list_of-exprs_of es)

pub exprs_of-one : (es fs : List Expr) → exprs_of es ≡ exprs_of fs → es ≡ fs
exprs_of-one es fs p = sym (list_of-exprs_of es) ∙ ap list_of p ∙ list_of-exprs_of fs

pub list_of_parts-parts_of : (ps : List (Cons × Expr)) → list_of_parts (parts_of ps) ≡ ps
list_of_parts-parts_of [] = refl
list_of_parts-parts_of (p ∷ ps) = ap (λ rest. p ∷ rest) (list_of_parts-parts_of ps)

pub parts_of-one : (ps qs : List (Cons × Expr)) → parts_of ps ≡ parts_of qs → ps ≡ qs
parts_of-one ps qs p = sym (list_of_parts-parts_of ps) ∙ ap list_of_parts p ∙ list_of_parts-parts_of qs

-- no element has more nodes than all together
pub nodes-at : (es : List Expr) (i : ℕ) (d : Expr) → i < length es → nodes (get_or es i d) ≤ nodes_of_all (exprs_of es)
nodes-at [] i d h = absurd (omega arith)
nodes-at (e ∷ es) zero d h = omega arith
nodes-at (e ∷ es) (suc i) d h = omega (arith, nodes-at es i d (omega arith))

pub nodes-at_part : (ps : List (Cons × Expr)) (i : ℕ) (d : Cons × Expr) → i < length ps → nodes (get_or ps i d).1 ≤ nodes_of_parts (parts_of ps)
nodes-at_part [] i d h = absurd (omega arith)
nodes-at_part (p ∷ ps) zero d h = omega arith
nodes-at_part (p ∷ ps) (suc i) d h = omega (arith, nodes-at_part ps i d (omega arith))

-- lists that are seen as one are seen as one at each place
pub map-at : {A B : Type 0} (f : A → B) (xs ys : List A) (i : ℕ) (d e : A) → i < length xs → map f xs ≡ map f ys → f (get_or xs i d) ≡ f (get_or ys i e)
map-at f [] ys i d e h p = absurd (omega arith)
map-at f (x ∷ xs) [] i d e h p = cc
map-at f (x ∷ xs) (y ∷ ys) zero d e h p = cc
map-at f (x ∷ xs) (y ∷ ys) (suc i) d e h p = map-at f xs ys i d e (omega arith) cc

-- so a test that tells two elements apart tells the lists apart
pub map-differs : {A B : Type 0} (f : A → B) (xs ys : List A) (i : ℕ) (x y : A) (test : Bool) → x ≡ get_or xs i x → y ≡ get_or ys i y → i < length xs → test ≡ false
    → (IsTrue test ↔ (f x ≡ f y)) → IsTrue false ↔ (map f xs ≡ map f ys)
map-differs f xs ys i x y test px py h fails told =
    (λ z. cc, λ p. absurd (both_ways test fails (told.1 (ap f px ∙ map-at f xs ys i x y h p ∙ sym (ap f py)))))
