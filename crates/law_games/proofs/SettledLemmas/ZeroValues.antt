-- The zero of a type's shape is a value of the type on a wire.
use Rattle.std.proofs.Common.{◌≡◌, ℕ, suc, List, [], ◌∷◌, refl, sym, ap, subst, ◌∙◌, arith}
use Rattle.std.proofs.lemmas.Slice.Eq.{bytes_eq-Decides}
use Rattle.std.specs.Prelude.{Bool, true, false, Contains, if◌then◌else◌, Option, None, Some}
use Rattle.std.specs.Str.{bytes_eq}
use Rattle.hp_base.specs.declared.ty.Ty.TheVariants as ty
use Rattle.hp_base.specs.declared.value.Value.{Value}
use Rattle.hp_base.specs.declared.value.Value.TheVariants.{Absent, E}
use Rattle.hp_tree.specs.Programs.{TypeDecl}
use Rattle.hp_tree.specs.Operators.{place_in, or_later, constructor_from}
use Rattle.hp_tree.specs.Values.{constructors_of, IsOf}
use Rattle.hp_tree.specs.ExpressionTypes.{some_place, type_with}
use Rattle.hp_meaning.specs.Contract.Slots.{shape_of, zero_of}
use Rattle.law_values.specs.Filled.Firsts.{HasFirst}
use Rattle.law_games.specs.Wiretyped.Typed.{IsWire}
use Rattle.law_games.specs.Settled.Laws.{ZeroValueLaw}

-- the number of a type, where the first one is number k
abbrev number : ℕ → List TypeDecl → List ℕ → ℕ
number k [] x = k
number k (d ∷ ds) x = if bytes_eq d.name x then k else number (suc k) ds x

self : (c : List ℕ) → bytes_eq c c ≡ true
self c = (bytes_eq-Decides c c).1 refl

one_type : (d t : List ℕ) → ty.Enum d ≡ ty.Enum t → d ≡ t
one_type d t h = cc

-- The first constructor of a type is its constructor 0, where it is no constructor of a type before.
numbered : (types : List TypeDecl) (k : ℕ) (t c : List ℕ) (cs : List (List ℕ)) → constructors_of types t ≡ c ∷ cs → type_with types c ≡ ty.Enum t → constructor_from k types c ≡ E (number k types t) 0
numbered [] k t c cs e w = absurd (cc)
numbered (d ∷ ds) k t c cs e w = by (bytes_eq d.name t) refl e (place_in 0 d.cons c) refl w (numbered ds (suc k) t c cs)
  where
    here : d.cons ≡ c ∷ cs → place_in 0 d.cons c ≡ Some 0
    here h = ap (λ xs. place_in 0 xs c) h ∙ ap (λ b. if b then Some 0 else place_in 1 cs c) (self c)

    by : (b : Bool) → bytes_eq d.name t ≡ b → (if b then d.cons else constructors_of ds t) ≡ c ∷ cs → (o : Option ℕ) → place_in 0 d.cons c ≡ o → type_with (d ∷ ds) c ≡ ty.Enum t
        → (constructors_of ds t ≡ c ∷ cs → type_with ds c ≡ ty.Enum t → constructor_from (suc k) ds c ≡ E (number (suc k) ds t) 0) → or_later k (place_in 0 d.cons c) (constructor_from (suc k) ds c) ≡ E (if b then k else number (suc k) ds t) 0
    by true q e o p w f = ap (λ o. or_later k o (constructor_from (suc k) ds c)) (here e)
    by false q e None p w f =
        ap (λ o. or_later k o (constructor_from (suc k) ds c)) p ∙ f e (sym (ap (λ o. if some_place o then ty.Enum d.name else type_with ds c) p) ∙ w)
    by false q e (Some j) p w f =
        let same : d.name ≡ t = one_type d.name t (sym (ap (λ o. if some_place o then ty.Enum d.name else type_with ds c) p) ∙ w) in
        let yes : bytes_eq d.name t ≡ true = (bytes_eq-Decides d.name t).1 same in
        absurd (let r : true ≡ false = sym yes ∙ q in cc)

abbrev first_among : List TypeDecl → List (List ℕ) → Value
first_among types [] = Absent
first_among types (c ∷ cs) = constructor_from 0 types c

no_first : (types : List TypeDecl) (t : List ℕ) → constructors_of types t ≡ [] → HasFirst types (ty.Enum t) → ⊥
no_first types t e h = subst (λ cs. IsOf types (ty.Enum t) (first_among types cs)) e h

pub zero_value : ZeroValueLaw
zero_value types ty.Bool h o = tt
zero_value types ty.Int h o = refl
zero_value types (ty.Enum t) h o = by (constructors_of types t) refl
  where
    by : (cs : List (List ℕ)) → constructors_of types t ≡ cs → IsWire types (ty.Enum t) (zero_of (shape_of types (ty.Enum t)))
    by [] e = absurd (no_first types t e h)
    by (c ∷ cs) e =
        let there : Contains (constructors_of types t) c = subst (λ xs. Contains xs c) (sym e) (0, omega arith, refl) in
        (c, there, sym (numbered types 0 t c cs e (o c there)))
