-- What layers and tables say of names.
use Rattle.std.proofs.Common.{◌≡◌, ℕ, ◌+◌, ◌-◌, ◌<◌, ◌≤◌, get_or, length, drop, take, drop-cons, add-one, Bool, true, false, cond, if◌then◌else◌, List, [], ◌∷◌, ◌++◌, reverse, Option, Some, map, refl, sym, ap, ◌∙◌, arith}
use Rattle.std.proofs.lemmas.List.{drop_all, map-append, reverse-append, get_or_default}
use Rattle.std.proofs.Math.Seq.{take-suc, take-length}
use Rattle.law_equations.specs.Made.Making.{or_entry}
use Rattle.hp_complete.specs.declared.layer.Entry as code_entry
use Rattle.hp_complete.specs.declared.layer.Layer as code_layer
use Rattle.hp_complete.specs.Layers.{seen, seen_if, says, inner_first, sight}
use Rattle.hp_complete.specs.Places.{others}

pub drop-next : {A : Type 0} (xs : List A) (i : ℕ) (x : A) → i < length xs → x ≡ get_or xs i x → drop i xs ≡ x ∷ drop (i + 1) xs
drop-next xs i x h p = drop-cons xs i x h ∙ rw (add-one, ← p)

pub drop-end : {A : Type 0} (xs : List A) (i : ℕ) → length xs ≤ i → drop i xs ≡ []
drop-end xs i h = drop_all i xs h

pub take-next : {A : Type 0} (xs : List A) (i : ℕ) (x : A) → i < length xs → x ≡ get_or xs i x → take (i + 1) xs ≡ take i xs ++ x ∷ []
take-next xs i x h p = ap (λ n. take n xs) (add-one i) ∙ take-suc xs i x h ∙ ap (λ y. take i xs ++ y ∷ []) (sym p)

-- ---- layers, the outermost first

pub seen-chosen : (d : Bool) (e : code_entry.Entry) (o : Option code_entry.Entry) → seen_if (cond d (Some e) o) ≡ (if d then Some (seen e) else seen_if o)
seen-chosen true e o = refl
seen-chosen false e o = refl

pub inner-pushed : (ls : List code_layer.Layer) (l : code_layer.Layer) → inner_first (ls ++ l ∷ []) ≡ says l ∷ inner_first ls
inner-pushed ls l = ap reverse (map-append says ls (l ∷ [])) ∙ reverse-append (map says ls) (says l ∷ [])

pub sight-pushed : (ls : List code_layer.Layer) (l : code_layer.Layer) (x : List ℕ) → sight (inner_first (ls ++ l ∷ [])) x ≡ or_entry (says l x) (sight (inner_first ls) x)
sight-pushed ls l x = ap (λ more. sight more x) (inner-pushed ls l)

-- what the layers up to one say
pub sight-next : (ls : List code_layer.Layer) (i k : ℕ) (l : code_layer.Layer) (x : List ℕ) → k ≡ i + 1 → i < length ls → l ≡ get_or ls i l → sight (inner_first (take k ls)) x ≡ or_entry (says l x) (sight (inner_first (take i ls)) x)
sight-next ls i k l x next h p = ap (λ n. sight (inner_first (take n ls)) x) next ∙ ap (λ more. sight (inner_first more) x) (take-next ls i l h p) ∙ sight-pushed (take i ls) l x

pub sight-all : (ls : List code_layer.Layer) (x : List ℕ) → sight (inner_first ls) x ≡ sight (inner_first (take (length ls) ls)) x
sight-all ls x = sym (ap (λ more. sight (inner_first more) x) (take-length ls))

pub front-others : (ls : List code_layer.Layer) → inner_first (take (length ls - 1) ls) ≡ others (inner_first ls)
front-others [] = refl
front-others (l ∷ ls) =
    let all = l ∷ ls in
    let k = length ls in
    let last = get_or all k l in
    let inside : k < length all = omega arith in
    let one : last ≡ get_or all k last = get_or_default all k l last inside in
    let parts : all ≡ take k all ++ last ∷ [] = sym (take-length all) ∙ ap (λ n. take n all) (let e : length all ≡ k + 1 = omega arith in e) ∙ take-next all k last inside one in
    ap (λ n. inner_first (take n all)) (let e : length all - 1 ≡ k = omega arith in e) ∙ sym (ap (λ more. others (inner_first more)) parts ∙ ap others (inner-pushed (take k all) last))
