-- The kinds of a type, by its number and by its name.
use Rattle.std.proofs.Common.{◌≡◌, ℕ, ◌+◌, ◌≤◌, min, Bool, true, false, if◌then◌else◌, List, [], ◌∷◌, length, map, Option, None, Some, refl, sym, ap, ap₂, subst, ◌∙◌, arith}
use Rattle.std.specs.Str.{bytes_eq}
use Rattle.hp_base.specs.Kinds.{KindData, Constructors}
use Rattle.hp_base.specs.declared.ty.Ty.{Ty}
use Rattle.hp_base.specs.declared.ty.Ty.TheVariants as ty
use Rattle.hp_base.specs.declared.value.Value.TheVariants.{Absent}
use Rattle.hp_tree.specs.declared.program.Item.{Item}
use Rattle.hp_tree.specs.Blocks.{Decl}
use Rattle.hp_tree.specs.Operators.{constructor_from}
use Rattle.hp_tree.specs.Programs.{TypeDecl}
use Rattle.hp_tree.specs.Values.{constructors_of, IsOf}
use Rattle.hp_tree.specs.Meaning.{types_of}
use Rattle.law_values.specs.Filled.Firsts.{HasFirst, DeclsHaveFirsts}
use Rattle.law_equations.specs.Meaning.Kinding.{kind_of_type, constructors}
use Rattle.law_equations.specs.Made.Making.{type_number, flat_type}
use Rattle.law_equations.specs.Made.Types.{obc_types}
use Rattle.hp_complete.specs.Declaring.{known_of}
use Rattle.hp_complete.specs.Signatures.{numbered, type_names, places_of}
use Rattle.law_wellmade.specs.Timely.Kinds.{declared_kind, kind_of}
use Rattle.law_wellmade.specs.Timely.Kinds as timely
use Rattle.law_wellmade.specs.Regular.Kinds.{kinds_of_decls}
use Rattle.law_choices.proofs.OnClocksLemmas.ArmNumbers.{AreFew, numbered_type}

not_numbered : (t : ℕ) (types : List TypeDecl) (y : List ℕ) → numbered t (map (λ (d : TypeDecl). d.name) types) y ≡ None → constructors_of types y ≡ []
not_numbered t [] y e = refl
not_numbered t (d ∷ types) y e = by (bytes_eq d.name y) e (not_numbered (t + 1) types y)
  where
    by : (b : Bool) → (if b then Some t else numbered (t + 1) (map (λ (d : TypeDecl). d.name) types) y) ≡ None → (numbered (t + 1) (map (λ (d : TypeDecl). d.name) types) y ≡ None → constructors_of types y ≡ [])
        → (if b then d.cons else constructors_of types y) ≡ []
    by true q f = absurd cc
    by false q f = f q

module _ (items : List Item) (named : type_names items ≡ map (λ (d : TypeDecl). d.name) (types_of items)) (many : length (types_of items) ≤ 65535) (few : AreFew (types_of items)) where
  kind_same : (t : Ty) → HasFirst (types_of items) t → kind_of_type (obc_types (types_of items)) (flat_type (places_of items) t) ≡ kind_of (types_of items) t
  kind_same ty.Bool h = refl
  kind_same ty.Int h = refl
  kind_same (ty.Enum y) h = subst (λ ns. Same (numbered 0 ns y)) (sym named) (by (numbered 0 (map (λ (d : TypeDecl). d.name) (types_of items)) y) refl)
    where
      Same : Option ℕ → Type 0
      Same o = Constructors (type_number o) (constructors (obc_types (types_of items)) (type_number o)) ≡ declared_kind 0 (types_of items) y

      by : (o : Option ℕ) → numbered 0 (map (λ (d : TypeDecl). d.name) (types_of items)) y ≡ o → Same o
      by None e =
          let none = not_numbered 0 (types_of items) y e in
          absurd (subst (λ cs. IsOf (types_of items) (ty.Enum y) (elim cs [ [] ↦ Absent | c ∷ more ↦ constructor_from 0 (types_of items) c ])) none h)
      by (Some u) e =
          let r = numbered_type 0 (types_of items) y u few e in
          let number = r.number in
          let below = r.below in
          let least : min u 65535 ≡ u = omega (arith, number, below, many) in
          let place : u ≡ r.place = omega (arith, number) in
          ap (λ z. Constructors z (constructors (obc_types (types_of items)) z)) least ∙ ap (λ z. Constructors u (constructors (obc_types (types_of items)) z)) place ∙ sym r.kind

  pub kinds_same : (ds : List Decl) → DeclsHaveFirsts (types_of items) ds → kinds_of_decls (obc_types (types_of items)) (known_of items) ds ≡ timely.kinds_of_decls (types_of items) ds
  kinds_same [] h = refl
  kinds_same (d ∷ ds) h = ap₂ (λ (k : KindData) ks. k ∷ ks) (kind_same d.ty h.0) (kinds_same ds h.1)
