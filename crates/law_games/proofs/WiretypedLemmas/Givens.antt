-- Inputs, choices and outputs of calls fit wires.
use Rattle.std.proofs.Common.{◌≡◌, ℕ, zero, suc, ◌<◌, inl, inr, List, [], ◌∷◌, map, length, refl, sym, ◌∙◌, subst, None, Some, arith}
use Rattle.std.proofs.lemmas.List.Elements.{All-contains_itself, All-head, All-tail}
use Rattle.std.proofs.lemmas.Slice.Eq.{bytes_eq-Decides}
use Rattle.std.specs.Prelude.{Bool, true, false, IsTrue, IsFalse, if◌then◌else◌, Option, All, Contains, slice_index_or}
use Rattle.std.specs.Str.{bytes_eq}
use Rattle.hp_base.specs.declared.ty.Ty.{Ty}
use Rattle.hp_base.specs.declared.ty.Ty.TheVariants as ty
use Rattle.hp_base.specs.declared.value.Value.{Value}
use Rattle.hp_base.specs.declared.value.Value.TheVariants.{E}
use Rattle.hp_tree.specs.Blocks.{Decl}
use Rattle.hp_tree.specs.Programs.{TypeDecl}
use Rattle.hp_tree.specs.Operators.{constructor_from, place_in, or_later, marked}
use Rattle.hp_tree.specs.Meaning.{types_of, controls_of}
use Rattle.hp_tree.specs.Values.{constructors_of, IsOf}
use Rattle.hp_meaning.specs.Contract.FreePlaces.{IsAbstractOf, OutputFits, instance_at}
use Rattle.hp_meaning.specs.Contract.Game.{Choice, choices_of, IsAmong, AreChoices, at_controls}
use Rattle.law_games.specs.Wiretyped.Typed.{IsWire}
use Rattle.law_games.specs.Wiretyped.Kept.{RowGiven}
use Rattle.law_games.specs.Wiretyped.Fitting.{InputsLaw, ChoiceLaw, OutputsLaw}

-- a name that stands among some is found there
found_among : (j : ℕ) (xs : List (List ℕ)) (x : List ℕ) → Contains xs x → place_in j xs x ≡ None → ⊥
found_among j [] x (k, l, e) none = absurd (omega arith)
found_among j (y ∷ xs) x (k, l, e) none = by_test (λ h n. found_among (suc j) xs x h n) (bytes_eq y x) refl none
  where
    differs : (k : ℕ) → k < length (y ∷ xs) → slice_index_or (y ∷ xs) k x ≡ x → IsFalse (bytes_eq y x) → Contains xs x
    differs zero l e f = absurd (not_so (bytes_eq y x) f ((bytes_eq-Decides y x).1 e))
      where
        not_so : (d : Bool) → IsFalse d → IsTrue d → ⊥
        not_so true f t = absurd (cc)
        not_so false f t = absurd (cc)
    differs (suc k) l e f = (k, omega arith, e)

    by_test : (Contains xs x → place_in (suc j) xs x ≡ None → ⊥) → (d : Bool) → bytes_eq y x ≡ d → (if d then Some j else place_in (suc j) xs x) ≡ None → ⊥
    by_test rest true t none = absurd (cc)
    by_test rest false t none = rest (differs k l e t) none

-- A constructor of a type has the value of a constructor.
is_constructor : (j : ℕ) (types : List TypeDecl) (t c : List ℕ) → Contains (constructors_of types t) c → (u : ℕ) × (k : ℕ) × (constructor_from j types c ≡ E u k)
is_constructor j [] t c (k, l, e) = absurd (omega arith)
is_constructor j (d ∷ ds) t c has = by_place (place_in 0 d.cons c) refl (bytes_eq d.name t) has (λ h. is_constructor (suc j) ds t c h)
  where
    by_place : (o : Option ℕ) → place_in 0 d.cons c ≡ o → (b : Bool) → Contains (if b then d.cons else constructors_of ds t) c → (Contains (constructors_of ds t) c → (u : ℕ) × (k : ℕ) × (constructor_from (suc j) ds c ≡ E u k)) → (u : ℕ) × (k : ℕ) × (or_later j o (constructor_from (suc j) ds c) ≡ E u k)
    by_place (Some k) e b has later = (j, k, refl)
    by_place None e true has later = absurd (found_among 0 d.cons c has e)
    by_place None e false has later = later has

enum_wire : (types : List TypeDecl) (t c : List ℕ) (v : Value) → Contains (constructors_of types t) c → v ≡ constructor_from 0 types c → IsOf types (ty.Enum t) (marked v)
enum_wire types t c v has e =
    let is = is_constructor 0 types t c has in
    subst (λ z. IsOf types (ty.Enum t) (marked z)) (sym (e ∙ is.2)) (c, has, sym is.2)

abstract_wire : (types : List TypeDecl) (t : Ty) (v : Value) → IsAbstractOf types t v → IsWire types t (marked v)
abstract_wire types ty.Bool v h = subst (λ z. IsOf types ty.Bool (marked z)) (sym h.1) tt
abstract_wire types ty.Int v h = h
abstract_wire types (ty.Enum t) v h = enum_wire types t h.0 v h.1 h.2

pub inputs_fit : InputsLaw
inputs_fit types [] [] h = tt
inputs_fit types [] (v ∷ vs) h = absurd h
inputs_fit types (d ∷ ds) [] h = absurd h
inputs_fit types (d ∷ ds) (v ∷ vs) h = (abstract_wire types d.ty v h.0, inputs_fit types ds vs h.1)

constructor_chosen : (types : List TypeDecl) (t : List ℕ) (cs : List (List ℕ)) → All (Contains (constructors_of types t)) cs → (v : Value) → IsAmong (map (constructor_from 0 types) cs) v → IsOf types (ty.Enum t) v
constructor_chosen types t [] has v m = absurd m
constructor_chosen types t (c ∷ cs) has v (inl e) =
    let here = All-head (Contains (constructors_of types t)) c cs has in
    let is = is_constructor 0 types t c here in
    subst (IsOf types (ty.Enum t)) (sym (e ∙ is.2)) (c, here, sym is.2)
constructor_chosen types t (c ∷ cs) has v (inr m) = constructor_chosen types t cs (All-tail (Contains (constructors_of types t)) c cs has) v m

chosen_wire : (types : List TypeDecl) (t : Ty) (v : Value) → IsAmong (choices_of types t) v → IsWire types t v
chosen_wire types ty.Bool v (inl e) = subst (IsOf types ty.Bool) (sym e) tt
chosen_wire types ty.Bool v (inr (inl e)) = subst (IsOf types ty.Bool) (sym e) tt
chosen_wire types ty.Bool v (inr (inr m)) = absurd m
chosen_wire types ty.Int v m = absurd m
chosen_wire types (ty.Enum t) v m = constructor_chosen types t (constructors_of types t) (All-contains_itself (constructors_of types t)) v m

choices_fit : (types : List TypeDecl) (ds : List Decl) (c : Choice) → AreChoices types ds c → RowGiven types ds (at_controls c)
choices_fit types [] [] h = tt
choices_fit types [] (v ∷ c) h = absurd h
choices_fit types (d ∷ ds) [] h = absurd h
choices_fit types (d ∷ ds) (v ∷ c) h = (chosen_wire types d.ty v h.0, choices_fit types ds c h.1)

pub choice_fits : ChoiceLaw
choice_fits program n c h = choices_fit (types_of program) (controls_of n.contract) c h

pub outputs_fit : OutputsLaw
outputs_fit types c free [] h = tt
outputs_fit types c free (d ∷ ds) h =
    (abstract_wire types d.ty (instance_at c free _) (All-head (OutputFits types c free) d ds h), outputs_fit types c free ds (All-tail (OutputFits types c free) d ds h))
