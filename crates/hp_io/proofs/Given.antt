-- What a take gives of the bytes that are left.
use Rattle.std.proofs.Common.{◌≡◌, ◌<◌, ◌+◌, ℕ, List, [], ◌∷◌, ◌++◌, length, take, drop, sym, ap, ◌∙◌, arith}
use Rattle.std.proofs.Math.Seq.{take-append_seam}
use Rattle.std.proofs.lemmas.List.{drop-drop, length-take, drop_min, take-append-drop, nil_from_length}
use Rattle.hp_io.specs.Memory.{bound_of}

-- what is put in front of other bytes stands there, and the rest comes behind it
pub given_back : (input old : List ℕ) (heard most : ℕ) → let given = take most (drop heard input) in
    drop heard input ≡ take (length given) (given ++ old) ++ drop (heard + length given) input
given_back input old heard most =
    let left = drop heard input in
    let given = take most left in
    let behind : drop (heard + length given) input ≡ drop most left =
    sym (drop-drop (length given) heard input) ∙ ap (λ n. drop n left) (length-take most left) ∙ drop_min most left in
    sym (ap (λ xs. xs ++ drop (heard + length given) input) (take-append_seam given old) ∙ ap (λ xs. given ++ xs) behind ∙ take-append-drop most left)

-- nothing is given only where nothing is left
pub none_given : (left : List ℕ) (most : ℕ) → 0 < most → length (take most left) ≡ 0 → left ≡ []
none_given left most some none = nil_from_length left (omega (arith, length-take most left))

pub bound_of-positive : (gives : List ℕ) (room : ℕ) → 0 < room → 0 < bound_of gives room
bound_of-positive [] room some = some
bound_of-positive (give ∷ gives) room some = omega arith
