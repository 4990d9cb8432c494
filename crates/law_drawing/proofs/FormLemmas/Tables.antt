-- The tables of a program tell its constructors: each has a number below the count of its type, and a type with a value has one.
use Rattle.std.proofs.Common.{◌≡◌, ℕ, zero, suc, ◌+◌, ◌<◌, ◌≤◌, Bool, true, false, if◌then◌else◌, List, [], ◌∷◌, length, Option, None, Some, refl, sym, ap, subst, ◌∙◌, arith}
use Rattle.std.specs.Prelude.{Contains}
use Rattle.std.specs.Str.{bytes_eq}
use Rattle.std.proofs.lemmas.Option.{same_Some, none-some}
use Rattle.hp_base.specs.declared.ty.Const.{Const}
use Rattle.hp_base.specs.declared.ty.Const.TheVariants as const
use Rattle.hp_base.specs.declared.ty.Ty.{Ty}
use Rattle.hp_base.specs.declared.ty.Ty.TheVariants as ty
use Rattle.hp_base.specs.declared.value.Value.{Value}
use Rattle.hp_base.specs.declared.value.Value.TheVariants.{Absent, Nil, B, E, I, Star}
use Rattle.hp_tree.specs.declared.program.Item.{Item}
use Rattle.hp_tree.specs.declared.program.Item.TheVariants.{TypeItem, NodeItem}
use Rattle.hp_tree.specs.Filled.{first_value}
use Rattle.hp_tree.specs.Meaning.{types_of}
use Rattle.hp_tree.specs.Operators.{place_in, or_later, constant_of, constructor_from}
use Rattle.hp_tree.specs.Programs.{TypeDecl}
use Rattle.hp_tree.specs.Values as values
use Rattle.hp_tree.specs.Values.{IsOf}
use Rattle.hp_base.specs.Known.Known.{lookup}
use Rattle.law_judged.specs.Typed.Scopes.{Scope as TypeScope}
use Rattle.hp_meaning.specs.Contract.Memory.{number_in}
use Rattle.law_games.proofs.ReadyGamesLemmas.Constructors.{HaveOwn, had}
use Rattle.hp_circuit.specs.Forms.{IsValue}
use Rattle.hp_drawing.specs.declared.parts.Constructor.{Constructor}
use Rattle.hp_drawing.specs.Told as told
use Rattle.hp_drawing.specs.Told.{Told, or_none, with_constructors, type_shape, constructor_shape, constructor_number, counts_of, told_of}
use Rattle.law_drawing.specs.Carrying.Typing.{AreNumbered}
use Rattle.law_drawing.proofs.CarryingLemmas.Layers.{same-name, self-name}
use Rattle.law_drawing.proofs.FormLemmas.Values.{AreCounted}
use Rattle.law_drawing.proofs.FormLemmas.Blocks.{FirstsFit}

-- ---- the constructors of one type

-- a constructor of so many, numbered from one on
abbrev IsNumbered : ℕ → ℕ → Option Constructor → Type 0
IsNumbered count below o = (j : ℕ) × (o ≡ Some (record { number = j; count = count })) × (j < below)

row-told : (count k : ℕ) (cs : List (List ℕ)) (others : List ℕ → Option Constructor) (c : List ℕ) → Contains cs c → IsNumbered count (k + length cs) (with_constructors count k cs others c)
row-told count k [] others c h = let l = h.1 in absurd (omega (arith, l))
row-told count k (d ∷ cs) others c (zero, l, e) =
    let here : bytes_eq d c ≡ true = subst (λ n. bytes_eq d n ≡ true) e (self-name d) in
    (k, ap (λ (b : Bool). if b then Some (record { number = k; count = count }) else with_constructors count (k + 1) cs others c) here, omega arith)
row-told count k (d ∷ cs) others c (suc i, l, e) = by (bytes_eq d c) (row-told count (k + 1) cs others c (i, omega (arith, l), e))
  where
    by : (b : Bool) → IsNumbered count ((k + 1) + length cs) (with_constructors count (k + 1) cs others c) → IsNumbered count (k + suc (length cs)) (if b then Some (record { number = k; count = count }) else with_constructors count (k + 1) cs others c)
    by true f = (k, refl, omega arith)
    by false f = let l = f.2 in (f.0, f.1, omega (arith, l))

row-other : (count k : ℕ) (cs : List (List ℕ)) (others : List ℕ → Option Constructor) (c : List ℕ) → (Contains cs c → ⊥) → with_constructors count k cs others c ≡ others c
row-other count k [] others c n = refl
row-other count k (d ∷ cs) others c n = by (bytes_eq d c) refl (row-other count (k + 1) cs others c (λ h. n (suc h.0, (let l = h.1 in omega (arith, l)), h.2)))
  where
    by : (b : Bool) → bytes_eq d c ≡ b → with_constructors count (k + 1) cs others c ≡ others c → (if b then Some (record { number = k; count = count }) else with_constructors count (k + 1) cs others c) ≡ others c
    by true e h = absurd (n (0, omega arith, same-name d c e))
    by false e h = h

-- ---- the tables of a program

count-is : (items : List Item) (x : List ℕ) → or_none (counts_of items x) ≡ length (values.constructors_of (types_of items) x)
count-is [] x = refl
count-is (TypeItem d ∷ items) x = by (bytes_eq d.name x) (count-is items x)
  where
    by : (b : Bool) → or_none (counts_of items x) ≡ length (values.constructors_of (types_of items) x) → or_none (if b then Some (length d.cons) else counts_of items x) ≡ length (if b then d.cons else values.constructors_of (types_of items) x)
    by true h = refl
    by false h = h
count-is (NodeItem n ∷ items) x = count-is items x

constructor-told : (counts : List ℕ → Option ℕ) (items : List Item) (x c : List ℕ) → HaveOwn (types_of items) → Contains (values.constructors_of (types_of items) x) c
    → IsNumbered (or_none (counts x)) (length (values.constructors_of (types_of items) x)) (told.constructors_of counts items c)
constructor-told counts [] x c o h = let l = h.1 in absurd (omega (arith, l))
constructor-told counts (NodeItem n ∷ items) x c o h = constructor-told counts items x c o h
constructor-told counts (TypeItem d ∷ items) x c o h = by (bytes_eq d.name x) refl h (λ k. constructor-told counts items x c o.1 k)
  where
    others : List ℕ → Option Constructor
    others = told.constructors_of counts items

    by : (b : Bool) → bytes_eq d.name x ≡ b → Contains (if b then d.cons else values.constructors_of (types_of items) x) c
        → (Contains (values.constructors_of (types_of items) x) c → IsNumbered (or_none (counts x)) (length (values.constructors_of (types_of items) x)) (others c))
        → IsNumbered (or_none (counts x)) (length (if b then d.cons else values.constructors_of (types_of items) x)) (with_constructors (or_none (counts d.name)) 0 d.cons others c)
    by true e k more =
        let r = row-told (or_none (counts d.name)) 0 d.cons others c k in
        let l = r.2 in
        (r.0, r.1 ∙ ap (λ n. Some (record { number = r.0; count = or_none (counts n) })) (same-name d.name x e), omega (arith, l))
    by false e k more =
        let r = more k in
        (r.0, row-other (or_none (counts d.name)) 0 d.cons others c (λ q. had (types_of items) x c k (o.0 c q)) ∙ r.1, r.2)

-- ---- two constructors of one value are one

place-from : (k j : ℕ) (cs : List (List ℕ)) (c : List ℕ) → place_in k cs c ≡ Some j → k ≤ j
place-from k j [] c h = absurd (none-some j h)
place-from k j (d ∷ cs) c h = by (bytes_eq d c) h (place-from (suc k) j cs c)
  where
    by : (b : Bool) → (if b then Some k else place_in (suc k) cs c) ≡ Some j → (place_in (suc k) cs c ≡ Some j → suc k ≤ j) → k ≤ j
    by true q f = let e = same_Some k j q in omega (arith, e)
    by false q f = let l = f q in omega (arith, l)

place-same : (k j : ℕ) (cs : List (List ℕ)) (c e : List ℕ) → place_in k cs c ≡ Some j → place_in k cs e ≡ Some j → c ≡ e
place-same k j [] c e h q = absurd (none-some j h)
place-same k j (d ∷ cs) c e h q = by (bytes_eq d c) refl (bytes_eq d e) refl h q (place-same (suc k) j cs c e)
  where
    apart : (x : List ℕ) → Some k ≡ Some j → place_in (suc k) cs x ≡ Some j → ⊥
    apart x f g = let i = same_Some k j f in let l = place-from (suc k) j cs x g in absurd (omega (arith, i, l))

    by : (a : Bool) → bytes_eq d c ≡ a → (b : Bool) → bytes_eq d e ≡ b → (if a then Some k else place_in (suc k) cs c) ≡ Some j → (if b then Some k else place_in (suc k) cs e) ≡ Some j
        → (place_in (suc k) cs c ≡ Some j → place_in (suc k) cs e ≡ Some j → c ≡ e) → c ≡ e
    by true x true y f g more = sym (same-name d c x) ∙ same-name d e y
    by true x false y f g more = absurd (apart e f g)
    by false x true y f g more = absurd (apart c g f)
    by false x false y f g more = more f g

type-from : (n : ℕ) (ds : List TypeDecl) (u k : ℕ) (c : List ℕ) → constructor_from n ds c ≡ E u k → n ≤ u
type-from n [] u k c h = absurd cc
type-from n (d ∷ ds) u k c h = by (place_in 0 d.cons c) h (type-from (suc n) ds u k c)
  where
    same : (j : ℕ) → E n j ≡ E u k → n ≡ u
    same j q = cc

    by : (p : Option ℕ) → or_later n p (constructor_from (suc n) ds c) ≡ E u k → (constructor_from (suc n) ds c ≡ E u k → suc n ≤ u) → n ≤ u
    by (Some j) q f = let e = same j q in omega (arith, e)
    by None q f = let l = f q in omega (arith, l)

value-same : (n : ℕ) (ds : List TypeDecl) (u k : ℕ) (c e : List ℕ) → constructor_from n ds c ≡ E u k → constructor_from n ds e ≡ E u k → c ≡ e
value-same n [] u k c e h q = absurd cc
value-same n (d ∷ ds) u k c e h q = by (place_in 0 d.cons c) refl (place_in 0 d.cons e) refl h q (value-same (suc n) ds u k c e)
  where
    number : (j : ℕ) → E n j ≡ E u k → j ≡ k
    number j q = cc

    type : (j : ℕ) → E n j ≡ E u k → n ≡ u
    type j q = cc

    apart : (x : List ℕ) (j : ℕ) → E n j ≡ E u k → constructor_from (suc n) ds x ≡ E u k → ⊥
    apart x j f g = let i = type j f in let l = type-from (suc n) ds u k x g in absurd (omega (arith, i, l))

    by : (a : Option ℕ) → place_in 0 d.cons c ≡ a → (b : Option ℕ) → place_in 0 d.cons e ≡ b → or_later n a (constructor_from (suc n) ds c) ≡ E u k → or_later n b (constructor_from (suc n) ds e) ≡ E u k
        → (constructor_from (suc n) ds c ≡ E u k → constructor_from (suc n) ds e ≡ E u k → c ≡ e) → c ≡ e
    by (Some i) x (Some j) y f g more = place-same 0 k d.cons c e (x ∙ ap Some (number i f)) (y ∙ ap Some (number j g))
    by (Some i) x None y f g more = absurd (apart e i f g)
    by None x (Some j) y f g more = absurd (apart c j g f)
    by None x None y f g more = more f g

-- so a constructor that is known is one of its type
own-type : (types : List TypeDecl) (t : Told) (s : TypeScope) → AreNumbered types t s → (c x : List ℕ) → lookup s.constructors c ≡ Some x → Contains (values.constructors_of types x) c
own-type types t s N c x l = by (constructor_from 0 types c) refl (N.of_type c x l)
  where
    by : (v : Value) → constructor_from 0 types c ≡ v → IsOf types (ty.Enum x) v → Contains (values.constructors_of types x) c
    by (E u k) q h = subst (Contains (values.constructors_of types x)) (value-same 0 types u k h.0 c (sym h.2) q) h.1
    by (B b) q h = absurd h
    by (I n) q h = absurd h
    by Absent q h = absurd h
    by Nil q h = absurd h
    by Star q h = absurd h

module _ (items : List Item) (o : HaveOwn (types_of items)) where
  abbrev types : List TypeDecl
  types = types_of items

  abbrev told_here : (x c : List ℕ) → Contains (values.constructors_of types x) c → IsNumbered (or_none (counts_of items x)) (length (values.constructors_of types x)) (told.constructors_of (counts_of items) items c)
  told_here x c h = constructor-told (counts_of items) items x c o h

  number-below : (x c : List ℕ) → Contains (values.constructors_of types x) c → constructor_number ((told_of items).constructors c) < or_none ((told_of items).counts x)
  number-below x c h =
      let r = told_here x c h in
      let l = r.2 in
      let n = ap constructor_number r.1 in
      let e = count-is items x in
      omega (arith, l, n, e)

  -- a value of a type has a number of its shape
  value-number : (s : TypeScope) → AreNumbered types (told_of items) s → (u : Ty) (v : Value) → IsOf types u v → IsValue (type_shape (told_of items) u) (number_in v)
  value-number s N ty.Bool (B true) h = omega arith
  value-number s N ty.Bool (B false) h = omega arith
  value-number s N ty.Int (I n) h = refl
  value-number s N (ty.Enum x) (E u k) h =
      let l = number-below x h.0 h.1 in
      let e : k ≡ constructor_number ((told_of items).constructors h.0) = ap number_in h.2 ∙ N.numbers h.0 in
      omega (arith, l, e)
  value-number s N ty.Bool (E u k) h = absurd h
  value-number s N ty.Bool (I n) h = absurd h
  value-number s N ty.Bool Absent h = absurd h
  value-number s N ty.Bool Nil h = absurd h
  value-number s N ty.Bool Star h = absurd h
  value-number s N ty.Int (B b) h = absurd h
  value-number s N ty.Int (E u k) h = absurd h
  value-number s N ty.Int Absent h = absurd h
  value-number s N ty.Int Nil h = absurd h
  value-number s N ty.Int Star h = absurd h
  value-number s N (ty.Enum x) (B b) h = absurd h
  value-number s N (ty.Enum x) (I n) h = absurd h
  value-number s N (ty.Enum x) Absent h = absurd h
  value-number s N (ty.Enum x) Nil h = absurd h
  value-number s N (ty.Enum x) Star h = absurd h

  truth-number : (b : Bool) → number_in (B b) ≡ (if b then 1 else 0)
  truth-number true = refl
  truth-number false = refl

  -- So constants of types are values of their shapes, and so are constructors.
  pub counted : (s : TypeScope) → AreNumbered types (told_of items) s → AreCounted types (told_of items) s
  counted s N = record {
    constants = λ c u h. constant c u h;
    constructors = λ c x l. let h = own-type types (told_of items) s N c x l in let r = told_here x c h in (ap constructor_shape r.1, number-below x c h);
  }
    where
      constant : (c : Const) (u : Ty) → IsOf types u (constant_of types c) → IsValue (type_shape (told_of items) u) (told.constant_number (told_of items) c)
      constant (const.B b) u h = subst (λ k. IsValue (type_shape (told_of items) u) k) (truth-number b) (value-number s N u (B b) h)
      constant (const.I n) u h = value-number s N u (I n) h
      constant (const.E x) u h = subst (λ k. IsValue (type_shape (told_of items) u) k) (N.numbers x) (value-number s N u (constructor_from 0 types x) h)

  some-member : (x : List ℕ) (v : Value) → IsOf types (ty.Enum x) v → 1 ≤ length (values.constructors_of types x)
  some-member x (E u k) h = let l = h.1.1 in omega (arith, l)
  some-member x (B b) h = absurd h
  some-member x (I n) h = absurd h
  some-member x Absent h = absurd h
  some-member x Nil h = absurd h
  some-member x Star h = absurd h

  -- a type with a first value has values
  pub firsts-fit : FirstsFit types (told_of items)
  firsts-fit ty.Bool h = tt
  firsts-fit ty.Int h = tt
  firsts-fit (ty.Enum x) h = let l = some-member x (first_value types (ty.Enum x)) h in let e = count-is items x in omega (arith, l, e)
