-- Each valuation is made of codes.
use Rattle.std.proofs.Common.{◌≡◌, ℕ, [], ◌∷◌, ◌++◌, length, take, drop, refl, ap₂, ◌∙◌, arith}
use Rattle.std.proofs.lemmas.List.{take-append-drop, length-drop, length-take}
use Rattle.hp_boolx.specs.Search.{Bits}
use Rattle.hp_circuit.specs.declared.kind.Kind.{Kind}
use Rattle.hp_circuit.specs.declared.kind.Kind.TheVariants.{Registers, Early, Control, Late}
use Rattle.hp_circuit.specs.Kinds.{own, kind_of}
use Rattle.hp_circuit.specs.Shapes.{shape_width}
use Rattle.hp_circuit.specs.Placed.Valuations.{own_code, MadeOfCodesLaw}

-- the first bits of a kind are the code of the first slot, if it is of the kind
own-take : (kind other : Kind) (width : ℕ) (bits : Kind → Bits) → own_code kind other (take width (bits other)) ≡ take (own kind other width) (bits kind)
own-take Registers Registers width bits = refl
own-take Registers Early width bits = refl
own-take Registers Control width bits = refl
own-take Registers Late width bits = refl
own-take Early Registers width bits = refl
own-take Early Early width bits = refl
own-take Early Control width bits = refl
own-take Early Late width bits = refl
own-take Control Registers width bits = refl
own-take Control Early width bits = refl
own-take Control Control width bits = refl
own-take Control Late width bits = refl
own-take Late Registers width bits = refl
own-take Late Early width bits = refl
own-take Late Control width bits = refl
own-take Late Late width bits = refl

own-whole : (kind : Kind) (width : ℕ) → own kind kind width ≡ width
own-whole Registers width = refl
own-whole Early width = refl
own-whole Control width = refl
own-whole Late width = refl

none_left : (bits : Bits) → length bits ≡ 0 → [] ≡ bits
none_left [] e = refl
none_left (b ∷ bits) e = absurd (omega (arith, e))

pub made_of_codes : MadeOfCodesLaw
made_of_codes steered [] bits long = ([], tt, λ kind. none_left (bits kind) (long kind))
made_of_codes steered (slot ∷ slots) bits long =
    let own_kind = kind_of steered slot in
    let width = shape_width slot.shape in
    let rest : Kind → Bits = λ kind. drop (own kind own_kind width) (bits kind) in
    let more = made_of_codes steered slots rest (λ kind. length-drop (own kind own_kind width) (bits kind) ∙ (let e = long kind in omega (arith, e))) in (
      take width (bits own_kind) ∷ more.0,
      (
        (let e = long own_kind in let w = own-whole own_kind width in omega (arith, e, w, length-take width (bits own_kind))),
        more.1,
      ),
      λ kind. ap₂ (λ xs ys. xs ++ ys) (own-take kind own_kind width bits) (more.2 kind) ∙ take-append-drop (own kind own_kind width) (bits kind),
    )
