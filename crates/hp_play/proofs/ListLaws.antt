-- Lists, place by place.
use Rattle.std.proofs.Common.{◌≡◌, ℕ, ◌+◌, ◌<◌, ◌≤◌, Bool, List, [], ◌∷◌, ◌++◌, arith, get_or, length, map, take, drop, drop-cons, add-one, sym, ap, ap₂, ◌∙◌}
use Rattle.std.proofs.lemmas.List.{take_more, get_or-take, map-append, drop_all}
use Rattle.hp_boolx.specs.Search.{Bits}
use Rattle.hp_synth.specs.Valued.{Valued, read}
use Rattle.hp_synth.proofs.Ranges.{read-parts}

-- two lists agree up to one place more
pub takes-next : (xs ys : Bits) (i : ℕ) (d : Bool) → i < length xs → i < length ys → take i xs ≡ take i ys → get_or xs i d ≡ get_or ys i d → take (i + 1) xs ≡ take (i + 1) ys
takes-next xs ys i d l k front same = take_more xs i d l ∙ ap₂ (λ (a : Bits) (b : Bool). a ++ b ∷ []) front same ∙ sym (take_more ys i d k)

-- or they do not at one
pub takes-differ : (xs ys : Bits) (i : ℕ) (d : Bool) → i < length ys → (get_or xs i d ≡ get_or ys i d → ⊥) → take (length ys) xs ≡ ys → ⊥
takes-differ xs ys i d l differ same = differ (sym (get_or-take (length ys) xs i d l) ∙ ap (λ (q : Bits). get_or q i d) same)

pub map-next : (f : ℕ → Bool) (xs : List ℕ) (i d : ℕ) → i < length xs → map f (take (i + 1) xs) ≡ map f (take i xs) ++ f (get_or xs i d) ∷ []
map-next f xs i d l = ap (map f) (take_more xs i d l) ∙ map-append f (take i xs) (get_or xs i d ∷ [])

pub drop-next : {A : Type 0} (xs : List A) (i : ℕ) (x : A) → i < length xs → x ≡ get_or xs i x → drop i xs ≡ x ∷ drop (i + 1) xs
drop-next xs i x h p = drop-cons xs i x h ∙ rw (add-one, ← p)

pub drop-end : {A : Type 0} (xs : List A) (i : ℕ) → length xs ≤ i → drop i xs ≡ []
drop-end xs i h = drop_all i xs h

-- the value of one variable more
pub read-next : (x : ℕ) (v : Valued) → read 0 (x + 1) v ≡ read 0 x v ++ v x ∷ []
read-next x v = read-parts 0 x 1 (x + 1) v (omega arith) ∙ ap (λ k. read 0 x v ++ v k ∷ []) (let same : 0 + x ≡ x = omega arith in same)
