-- Values of types stay as they are mended, and what fits on wires is of its type in the abstraction.
use Rattle.std.proofs.Common.{◌≡◌, ℕ, zero, suc, List, [], ◌∷◌, ◌++◌, refl, sym, ap, subst, ◌∙◌, arith}
use Rattle.std.proofs.lemmas.List.Elements.{All-nil, All-cons, All-head, All-tail}
use Rattle.std.proofs.lemmas.Slice.Eq.{bytes_eq-Decides}
use Rattle.std.specs.Prelude.{Bool, true, false, ◌&&◌, nat_eq, if◌then◌else◌, All, Contains}
use Rattle.std.specs.Str.{bytes_eq}
use Rattle.hp_base.specs.declared.ty.Ty.{Ty}
use Rattle.hp_base.specs.declared.ty.Ty.TheVariants as ty
use Rattle.hp_base.specs.declared.value.Value.{Value}
use Rattle.hp_base.specs.declared.value.Value.TheVariants.{Absent, Nil, B, E, I, Star}
use Rattle.hp_tree.specs.Blocks.{Decl}
use Rattle.hp_tree.specs.Programs.{TypeDecl}
use Rattle.hp_tree.specs.Operators.{constructor_from, same_value, marked}
use Rattle.hp_tree.specs.Filled.{first_value}
use Rattle.hp_tree.specs.Instant.{Named, Instance, Instant}
use Rattle.hp_tree.specs.Values.{constructors_of, IsOf}
use Rattle.hp_meaning.specs.Causal.Points.{Placed}
use Rattle.hp_meaning.specs.Contract.FreePlaces.{IsAbstractOf, InputsFit, OutputFits}
use Rattle.law_games.specs.Wiretyped.Typed.{IsWire, AreWires}
use Rattle.law_games.specs.Wiretyped.Kept.{OutputsGiven}
use Rattle.law_games.proofs.WiretypedLemmas.Givens.{inputs_fit}
use Rattle.law_games.proofs.ForcedLemmas.Mended.{flag_of, one_among, of_type, of_output}

-- ---- constructors

nat_same : (a b : ℕ) → nat_eq a b ≡ true → a ≡ b
nat_same a b e = grind arith

and_both : (a b : Bool) → (a && b) ≡ true → (a ≡ true) × (b ≡ true)
and_both true true e = (refl, refl)
and_both true false e = absurd (cc)
and_both false b e = absurd (cc)

same_enum : (u k : ℕ) (w : Value) → same_value (E u k) w ≡ true → w ≡ E u k
same_enum u k (E s a) e = let h = and_both (nat_eq u s) (nat_eq k a) e in sym (ap (λ z. E z k) (nat_same u s h.0) ∙ ap (λ z. E s z) (nat_same k a h.1))
same_enum u k Absent e = absurd (cc)
same_enum u k Nil e = absurd (cc)
same_enum u k (B b) e = absurd (cc)
same_enum u k (I n) e = absurd (cc)
same_enum u k Star e = absurd (cc)

nat_self : (a : ℕ) → nat_eq a a ≡ true
nat_self a = grind arith

enum_self : (u k : ℕ) → same_value (E u k) (E u k) ≡ true
enum_self u k = ap (λ z. z && nat_eq k k) (nat_self u) ∙ nat_self k

later : (y : List ℕ) (ys : List (List ℕ)) (x : List ℕ) → Contains (y ∷ ys) x → (y ≡ x → ⊥) → Contains ys x
later y ys x (zero, l, e) n = absurd (n e)
later y ys x (suc k, l, e) n = (k, omega arith, e)

module _ (types : List TypeDecl) where
  pub among_kept : (cs : List (List ℕ)) (other v : Value) (c : List ℕ) (u k : ℕ) → Contains cs c → v ≡ constructor_from 0 types c → v ≡ E u k → one_among types cs other v ≡ v
  among_kept [] other v c u k (i, l, e) h q = absurd (omega arith)
  among_kept (y ∷ cs) other v c u k has h q = by (same_value v (constructor_from 0 types y)) refl (λ z. among_kept cs other v c u k z h q)
    where
      by : (b : Bool) → same_value v (constructor_from 0 types y) ≡ b → (Contains cs c → one_among types cs other v ≡ v) → (if b then constructor_from 0 types y else one_among types cs other v) ≡ v
      by true e more = same_enum u k (constructor_from 0 types y) (subst (λ z. same_value z (constructor_from 0 types y) ≡ true) q e) ∙ sym q
      by false e more =
          more (later y cs c has
          (λ s.
          let here : same_value v (constructor_from 0 types c) ≡ false = subst (λ z. same_value v (constructor_from 0 types z) ≡ false) s e in
          let self : same_value v v ≡ false = subst (λ z. same_value v z ≡ false) (sym h) here in
          let no : true ≡ false = sym (enum_self u k) ∙ subst (λ z. same_value z z ≡ false) q self in
          absurd (cc)))

  pub enum_is : (t : List ℕ) (v : Value) → IsOf types (ty.Enum t) (marked v) → (u : ℕ) × (k : ℕ) × (v ≡ E u k)
  enum_is t (E u k) h = (u, k, refl)
  enum_is t v h = absurd h

  -- A value of a type stays, but for the number of an integer.
  type_kept : (t : Ty) (v : Value) → IsAbstractOf types t v → IsWire types t (marked v) → marked v ≡ marked (of_type types t v)
  type_kept ty.Bool v h w = subst (λ z. marked z ≡ marked (flag_of z)) (sym h.1) refl
  type_kept ty.Int v h w = h
  type_kept (ty.Enum t) v h w =
      let e = enum_is t v w in ap marked (sym (among_kept (constructors_of types t) (first_value types (ty.Enum t)) v h.0 e.0 e.1 h.1 h.2 e.2))

  pub outputs_kept : (c : Placed) (free : Instant) (ds : List Decl) (x : List ℕ) (v : Value) → All (OutputFits types c free) ds → v ≡ free (c.place ++ (Instance ∷ Named x ∷ [])) → marked v ≡ marked (of_output types ds x v)
  outputs_kept c free [] x v h e = refl
  outputs_kept c free (d ∷ ds) x v h e = by (bytes_eq d.name x) refl (outputs_kept c free ds x v (All-tail (OutputFits types c free) d ds h) e)
    where
      is : d.name ≡ x → IsAbstractOf types d.ty v
      is q = subst (IsAbstractOf types d.ty) (ap (λ z. free (c.place ++ (Instance ∷ Named z ∷ []))) q ∙ sym e) (All-head (OutputFits types c free) d ds h)

      by : (b : Bool) → bytes_eq d.name x ≡ b → marked v ≡ marked (of_output types ds x v) → marked v ≡ marked (if b then of_type types d.ty v else of_output types ds x v)
      by true q more =
          let a : IsAbstractOf types d.ty v = is ((bytes_eq-Decides d.name x).0 q) in
          type_kept d.ty v a (inputs_fit types (d ∷ []) (v ∷ []) (a, tt)).0
      by false q more = more

  -- ---- wires

  pub wire_abstract : (t : Ty) (v : Value) → IsWire types t (marked v) → IsAbstractOf types t v
  wire_abstract ty.Bool (B b) h = (b, refl)
  wire_abstract ty.Bool v h = absurd h
  wire_abstract ty.Int v h = h
  wire_abstract (ty.Enum t) (E u k) h = h
  wire_abstract (ty.Enum t) v h = absurd h

  marked_one : (t : Ty) (v : Value) → IsWire types t v → IsWire types t (marked v)
  marked_one ty.Bool (B b) h = h
  marked_one ty.Bool v h = absurd h
  marked_one ty.Int v h = ap marked h
  marked_one (ty.Enum t) (E u k) h = h
  marked_one (ty.Enum t) v h = absurd h

  pub wires_fit : (ds : List Decl) (vs : List Value) → AreWires types ds vs → InputsFit types ds vs
  wires_fit [] [] h = tt
  wires_fit [] (v ∷ vs) h = absurd h
  wires_fit (d ∷ ds) [] h = absurd h
  wires_fit (d ∷ ds) (v ∷ vs) h = (wire_abstract d.ty v (marked_one d.ty v h.0), wires_fit ds vs h.1)

  pub outputs_are : (c : Placed) (free j : Instant) (ds : List Decl) → ((x : List ℕ) → free (c.place ++ (Instance ∷ Named x ∷ [])) ≡ j (Named x ∷ [])) → OutputsGiven types ds j → All (OutputFits types c free) ds
  outputs_are c free j [] e g = All-nil (OutputFits types c free)
  outputs_are c free j (d ∷ ds) e g =
      All-cons (OutputFits types c free) d ds (wire_abstract d.ty (free (c.place ++ (Instance ∷ Named d.name ∷ []))) (subst (λ z. IsWire types d.ty (marked z)) (sym (e d.name)) g.0)) (outputs_are c free j ds e g.1)
