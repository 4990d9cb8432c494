-- Laws of what is told.
use Rattle.std.proofs.Common.{◌≡◌, ℕ, ◌+◌, ◌-◌, List, [], ◌++◌, length, take, drop, map, subst, None, Some, refl, sym, ap, ◌∙◌, append_assoc, append-nil, arith}
use Rattle.std.specs.Prelude.{Option, option_map}
use Rattle.std.proofs.Math.Seq.{take-add}
use Rattle.std.proofs.lemmas.List.{take_rest, map-append}
use Rattle.hp_io.specs.Told.{Told, Grows, Loses}

-- a list that stays as it is grows by nothing
pub Grows-nil : {X : Type 0} (a : Option (List X)) → Grows a a []
Grows-nil None = refl
Grows-nil (Some xs) = ap Some (sym (append-nil xs))

pub Grows-same : {X : Type 0} (a b : Option (List X)) → Grows a b [] → b ≡ a
Grows-same None b e = e
Grows-same (Some xs) b e = e ∙ ap Some (append-nil xs)

-- two growths, one after the other
pub Grows-trans : {X : Type 0} (a b c : Option (List X)) (x y : List X) → Grows a b x → Grows b c y → Grows a c (x ++ y)
Grows-trans None b c x y p q = q ∙ ap (option_map (λ xs. xs ++ y)) p
Grows-trans (Some xs) b c x y p q = q ∙ ap (option_map (λ xs. xs ++ y)) p ∙ ap Some (append_assoc xs x y)

-- the first n of what is left of a text behind its first d
next_piece : {A : Type 0} (text : List A) (d n : ℕ) → take d text ++ take n (take (length text - d) (drop d text)) ≡ take (d + n) text
next_piece text d n = ap (λ rest. take d text ++ take n rest) (take_rest text d) ∙ sym (take-add d n text)

-- a loop that gives a text in pieces
pub Grows-piece : {X : Type 0} (a b c : Option (List X)) (text : List X) (d n : ℕ)
    → Grows a b (take d text) → Grows b c (take n (take (length text - d) (drop d text))) → Grows a c (take (d + n) text)
Grows-piece a b c text d n p q = subst (Grows a c) (next_piece text d n) (Grows-trans a b c _ _ p q)

-- the same, where an item is told for each of the text
pub Grows-map_piece : {A X : Type 0} (f : A → X) (a b c : Option (List X)) (text : List A) (d n : ℕ)
    → Grows a b (map f (take d text)) → Grows b c (map f (take n (take (length text - d) (drop d text)))) → Grows a c (map f (take (d + n) text))
Grows-map_piece f a b c text d n p q =
    subst (Grows a c) (sym (map-append f _ _) ∙ ap (map f) (next_piece text d n)) (Grows-trans a b c _ _ p q)

pub Loses-nil : {X : Type 0} (a : Option (List X)) → Loses a a []
Loses-nil None = refl
Loses-nil (Some xs) = refl

-- two losses, one after the other
pub Loses-trans : {X : Type 0} (a b c : Option (List X)) (x y : List X) → Loses a b x → Loses b c y → Loses a c (x ++ y)
Loses-trans a b None x y p q = p ∙ ap (option_map (λ xs. x ++ xs)) q
Loses-trans a b (Some zs) x y p q = p ∙ ap (option_map (λ xs. x ++ xs)) q ∙ ap Some (sym (append_assoc x y zs))

-- a list that lost all that it had
pub Loses-all : {X : Type 0} (a b : Option (List X)) (x : List X) → Loses a b x → Told b (λ rest. rest ≡ []) → Told a (λ xs. xs ≡ x)
Loses-all None b x p q = tt
Loses-all (Some xs) None x p q = absurd (cc)
Loses-all (Some xs) (Some ys) x p q = grind (arith, append-nil)
