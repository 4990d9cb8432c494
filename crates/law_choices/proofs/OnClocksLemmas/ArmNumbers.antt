-- Arms have the numbers of the constructors that they name.
use Rattle.std.proofs.Common.{◌≡◌, ℕ, zero, suc, ◌+◌, ◌<◌, ◌≤◌, min, Bool, true, false, if◌then◌else◌, List, [], ◌∷◌, length, map, Option, None, Some, refl, sym, ap, subst, ◌∙◌, arith}
use Rattle.std.specs.Prelude.{IsTrue}
use Rattle.std.specs.List.{AllByRecursion}
use Rattle.std.specs.Str.{bytes_eq}
use Rattle.std.proofs.lemmas.List.{length-map}
use Rattle.hp_base.specs.Kinds.{KindData, Constructors, IsOfKind}
use Rattle.hp_base.specs.declared.ty.Ty.{Ty}
use Rattle.hp_base.specs.declared.ty.Ty.TheVariants as ty
use Rattle.hp_base.specs.declared.value.Value.TheVariants.{E}
use Rattle.hp_obc.specs.Machines.{ObcType}
use Rattle.hp_tree.specs.declared.decl.Cons.{Cons}
use Rattle.hp_tree.specs.declared.decl.Cons.TheVariants as cons
use Rattle.hp_tree.specs.declared.program.Item.{Item}
use Rattle.hp_tree.specs.declared.program.Item.TheVariants.{TypeItem, NodeItem}
use Rattle.hp_tree.specs.Programs.{TypeDecl}
use Rattle.hp_tree.specs.Meaning.{types_of}
use Rattle.law_values.specs.Valued.Judged.{is_named, Covers}
use Rattle.law_equations.specs.Meaning.Kinding.{HasArm, kind_of_type, constructors}
use Rattle.hp_toobc.specs.Tables.{width_of}
use Rattle.law_equations.specs.Made.Making.{type_number, flat_type, own_number, cons_number}
use Rattle.law_equations.specs.Made.Types.{obc_type_of, obc_types}
use Rattle.hp_complete.specs.Declaring.{known_of}
use Rattle.hp_complete.specs.Signatures.{numbered, type_names, places_of}
use Rattle.law_wellmade.specs.Timely.Kinds.{declared_kind}
use Rattle.law_wellmade.specs.Timely.Tested.{ConstructorsDiffer}
use Rattle.law_wellmade.proofs.TimelyLemmas.KindLaws.{of_kind}
use Rattle.law_wellmade.proofs.RegularLemmas.Expressions.{TypeFacts}
use Rattle.law_wellmade.proofs.RegularLemmas.TypeLaws.{AreNumbered, constructor_known}
use Rattle.law_choices.proofs.OnClocksLemmas.Arms.{ArmFacts}

-- each type has so few constructors that each has a number of its own
abbrev pub AreFew : List TypeDecl → Type 0
AreFew types = AllByRecursion (λ (t : TypeDecl). length t.cons ≤ 256) types

abbrev names : List TypeDecl → List (List ℕ)
names types = map (λ (t : TypeDecl). t.name) types

names_of_types : (items : List Item) → type_names items ≡ names (types_of items)
names_of_types [] = refl
names_of_types (TypeItem t ∷ items) = ap (λ xs. t.name ∷ xs) (names_of_types items)
names_of_types (NodeItem n ∷ items) = names_of_types items

outside : (types : List ObcType) (i : ℕ) → length types ≤ i → constructors types i ≡ []
outside [] i l = refl
outside (t ∷ types) zero l = absurd (omega (arith, l))
outside (t ∷ types) (suc i) l = outside types i (omega (arith, l))

-- The type of a number, where the first of some types is number t.
pub record Numbered (t : ℕ) (types : List TypeDecl) (y : List ℕ) (u : ℕ) : Type 0 where
  pub place : ℕ
  pub number : u ≡ t + place
  pub below : place < length types
  pub few : length (constructors (obc_types types) place) ≤ 256
  pub kind : declared_kind t types y ≡ Constructors u (constructors (obc_types types) place)

pub numbered_type : (t : ℕ) (types : List TypeDecl) (y : List ℕ) (u : ℕ) → AreFew types → numbered t (names types) y ≡ Some u → Numbered t types y u
numbered_type t [] y u few e = absurd cc
numbered_type t (d ∷ types) y u few e = by (bytes_eq d.name y) refl e (λ q. numbered_type (t + 1) types y u few.1 q)
  where
    by : (b : Bool) → bytes_eq d.name y ≡ b → (if b then Some t else numbered (t + 1) (names types) y) ≡ Some u → (numbered (t + 1) (names types) y ≡ Some u → Numbered (t + 1) types y u) → Numbered t (d ∷ types) y u
    by true i q f =
        let same : t ≡ u = cc in
        record {
          place = 0;
          number = omega (arith, same);
          below = omega arith;
          few = few.0;
          kind = ap (λ b. if b then Constructors t d.cons else declared_kind (suc t) types y) i ∙ ap (λ w. Constructors w d.cons) same;
        }
    by false i q f =
        let r = f q in
        let number = r.number in
        let below = r.below in
        let more : t + 1 ≡ suc t = omega arith in
        record {
          place = suc r.place;
          number = omega (arith, number);
          below = omega (arith, below);
          few = r.few;
          kind = ap (λ b. if b then Constructors t d.cons else declared_kind (suc t) types y) i ∙ ap (λ w. declared_kind w types y) (sym more) ∙ r.kind;
        }

module _ (items : List Item) (numbers : AreNumbered (places_of items) 0 (type_names items)) (many : length (types_of items) ≤ 65535) (few : AreFew (types_of items)) (differ : ConstructorsDiffer (types_of items))
    (facts : TypeFacts (obc_types (types_of items)) (known_of items) (types_of items)) where
  abbrev Named : List Cons → ℕ → Type 0
  Named cs i = (c : Cons) × IsTrue (is_named cs c) × (cons_number (known_of items) c ≡ i)

  -- the constructor of a number
  enum_named : (y : List ℕ) (cs : List Cons) (i : ℕ) → Covers (types_of items) (ty.Enum y) cs → (o : Option ℕ) → numbered 0 (names (types_of items)) y ≡ o → i < length (constructors (obc_types (types_of items)) (type_number o)) → Named cs i
  enum_named y cs i cover None e l =
      let long = length-map (types_of items) obc_type_of in
      let none = outside (obc_types (types_of items)) 65535 (omega (arith, many, long)) in
      absurd (let no : i < 0 = subst (λ xs. i < length xs) none l in omega (arith, no))
  enum_named y cs i cover (Some u) e l =
      let r = numbered_type 0 (types_of items) y u few e in
      let number = r.number in
      let below = r.below in
      let least : min u 65535 ≡ r.place = omega (arith, number, below, many) in
      let there : i < length (constructors (obc_types (types_of items)) r.place) = subst (λ z. i < length (constructors (obc_types (types_of items)) z)) least l in
      let q = of_kind (types_of items) (ty.Enum y) (E u i) differ (subst (λ (z : KindData). IsOfKind z (E u i)) (sym r.kind) (refl, there)) in
      let known = constructor_known q.0 (places_of items) 0 items u i numbers (let m : 0 + length (types_of items) ≤ 65535 = omega (arith, many) in m) (sym q.2) in
      let small = r.few in
      let own : min i 255 ≡ i = omega (arith, there, small) in
      (cons.Named q.0, cover q.0 q.1, ap own_number known ∙ own)

  named : (t : Ty) (cs : List Cons) (i : ℕ) → Covers (types_of items) t cs → HasArm (kind_of_type (obc_types (types_of items)) (flat_type (places_of items) t)) i → Named cs i
  named ty.Bool cs zero cover h = (cons.False, cover.0, refl)
  named ty.Bool cs (suc zero) cover h = (cons.True, cover.1, refl)
  named ty.Bool cs (suc (suc i)) cover h = absurd (omega (arith, h))
  named ty.Int cs i cover h = absurd h
  named (ty.Enum y) cs i cover h = enum_named y cs i cover (numbered 0 (names (types_of items)) y) refl (subst (λ ns. i < length (constructors (obc_types (types_of items)) (type_number (numbered 0 ns y)))) (names_of_types items) h)

  some_arm : (t : Ty) (c : ℕ) → c < width_of (obc_types (types_of items)) (flat_type (places_of items) t) → HasArm (kind_of_type (obc_types (types_of items)) (flat_type (places_of items) t)) 0
  some_arm ty.Bool c l = omega arith
  some_arm ty.Int c l = absurd (omega (arith, l))
  some_arm (ty.Enum y) c l = omega (arith, l)

  pub arm_facts : ArmFacts (obc_types (types_of items)) (known_of items) (types_of items)
  arm_facts = record { named = named; some = λ t c i. some_arm t (cons_number (known_of items) c) (facts.wide t c i) }
