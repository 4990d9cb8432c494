-- Where types have form, each is found by its name.
use Rattle.std.proofs.Common.{◌≡◌, ℕ, zero, suc, ◌+◌, ◌<◌, if◌then◌else◌, List, [], ◌∷◌, false, length, map, Some, refl, ap, ◌∙◌, arith}
use Rattle.std.specs.Prelude.{get_or}
use Rattle.std.specs.List.{AllByRecursion, IsDistinct}
use Rattle.std.specs.Str.{bytes_eq}
use Rattle.std.proofs.lemmas.Slice.Eq.{bytes_eq-Decides}
use Rattle.hp_base.specs.Kinds.{Constructors}
use Rattle.hp_obc.specs.Machines.{ObcType}
use Rattle.hp_obc.specs.Values.{enum_from}
use Rattle.hp_flat.specs.declared.node.FlatTy.TheVariants as flat
use Rattle.law_wellmade.specs.Regular.Kinds.{FoundLaw}

differs : (x : List ℕ) (types : List ObcType) (i : ℕ) → AllByRecursion (λ y. bytes_eq x y ≡ false) (map (λ (t : ObcType). t.name) types) → i < length types → bytes_eq x (get_or types i (record { name = []; cons = [] })).name ≡ false
differs x [] i h l = absurd (omega (arith, l))
differs x (t ∷ types) zero h l = h.0
differs x (t ∷ types) (suc i) h l = differs x types i h.1 (omega (arith, l))

found_from : (n : ℕ) (types : List ObcType) (i : ℕ) → IsDistinct bytes_eq (map (λ (t : ObcType). t.name) types) → i < length types
    → let t : ObcType = get_or types i (record { name = []; cons = [] }) in enum_from n types t.name ≡ Some (Constructors (n + i) t.cons)
unfolding IsDistinct
found_from n [] i d l = absurd (omega (arith, l))
found_from n (t ∷ types) zero d l =
    let first : n ≡ n + 0 = omega arith in
    ap (λ b. if b then Some (Constructors n t.cons) else enum_from (suc n) types t.name) ((bytes_eq-Decides t.name t.name).1 refl) ∙ ap (λ m. Some (Constructors m t.cons)) first
found_from n (t ∷ types) (suc i) d l =
    let u : ObcType = get_or types i (record { name = []; cons = [] }) in
    let below : i < length types = omega (arith, l) in
    let later : suc n + i ≡ n + suc i = omega arith in
    ap (λ b. if b then Some (Constructors n t.cons) else enum_from (suc n) types u.name) (differs t.name types i d.0 below) ∙ found_from (suc n) types i d.1 below ∙ ap (λ m. Some (Constructors m u.cons)) later

pub found : FoundLaw
found types form flat.Bool h = refl
found types form flat.Int h = refl
found types form (flat.Enum t) h = found_from 0 types t form.names.1 h ∙ ap (λ m. Some (Constructors m (get_or types t (record { name = []; cons = [] })).cons)) (let same : 0 + t ≡ t = omega arith in same)
