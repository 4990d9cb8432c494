-- Operators give values of their kinds.
use Rattle.std.proofs.Common.{◌≡◌, ℕ, zero, suc, ◌%◌, ◌<◌, ◌≤◌, neg_ℤ, Bool, true, false, ℤ, pos, negsuc, List, [], ◌∷◌, get_or, Option, None, Some, if◌then◌else◌, refl, sym, ap, subst, ◌∙◌, arith}
use Rattle.std.specs.Int.{w32}
use Rattle.std.specs.Int.RustNames.{FitsSigned, int_div, int_rem}
use Rattle.std.specs.Ordering.{int_eq}
use Rattle.std.proofs.Math.Nat.{mod-le}
use Rattle.std.specs.Prelude.{unsigned_abs}
use Rattle.std.proofs.lemmas.Int.{SFits-int_wrap}
use Rattle.std.proofs.lemmas.Bool.Decides.{Decides-eqb}
use Rattle.hp_base.specs.Arithmetic.{arithmetic, wrapped}
use Rattle.hp_base.specs.declared.op.Op.{Op}
use Rattle.hp_base.specs.declared.op.Op.TheVariants.{Add as Plus, Sub as Minus, Mul as Times, Div as Over, Rem as Rest}
use Rattle.hp_base.specs.Kinds.{KindData, Bools, Ints, Constructors, IsOfKind, AreOfKinds}
use Rattle.hp_base.specs.declared.value.Value.{Value}
use Rattle.hp_base.specs.declared.value.Value.TheVariants.{Absent, Nil, B, E, I, Star}
use Rattle.hp_obc.specs.Machines.{ObcType}
use Rattle.hp_obc.specs.declared.command.ObcOp.{ObcOp}
use Rattle.hp_obc.specs.declared.command.ObcOp.TheVariants.{Copy, Not, Neg, Mux, And, Or, Xor, Imp, Eq, Ne, Lt, Le, Gt, Ge, Add, Sub, Mul, Div, Rem}
use Rattle.hp_obc.specs.Values.{unary, binary, ternary, operated, on_bools, on_ints}
use Rattle.hp_obc.specs.Form.{unary_kind, binary_kind, ternary_kind, result_kind, for_bools, for_ints, for_same, same_kind}

-- what kinds give is there
same_some : {A : Type 0} (x y : A) → ◌≡◌ {A = Option A} (Some x) (Some y) → x ≡ y
same_some x y e = cc

of_same : (k l : KindData) (v : Value) → k ≡ l → IsOfKind k v → IsOfKind l v
of_same k l v e h = subst (λ j. IsOfKind j v) e h

bools-kind : (f : Bool → Bool → Bool) (k l j : KindData) (v w : Value) → for_bools k l ≡ Some j → IsOfKind k v → IsOfKind l w → IsOfKind j (on_bools f v w)
bools-kind f Bools Bools j (B a) (B b) e h g = of_same Bools j (B (f a b)) (same_some Bools j e) tt
bools-kind f Bools Bools j (B a) Absent e h g = absurd g
bools-kind f Bools Bools j (B a) Nil e h g = absurd g
bools-kind f Bools Bools j (B a) (E t c) e h g = absurd g
bools-kind f Bools Bools j (B a) (I n) e h g = absurd g
bools-kind f Bools Bools j (B a) Star e h g = absurd g
bools-kind f Bools Bools j Absent w e h g = absurd h
bools-kind f Bools Bools j Nil w e h g = absurd h
bools-kind f Bools Bools j (E t c) w e h g = absurd h
bools-kind f Bools Bools j (I n) w e h g = absurd h
bools-kind f Bools Bools j Star w e h g = absurd h
bools-kind f Bools Ints j v w e h g = absurd (cc)
bools-kind f Bools (Constructors n xs) j v w e h g = absurd (cc)
bools-kind f Ints l j v w e h g = absurd (cc)
bools-kind f (Constructors n xs) l j v w e h g = absurd (cc)

ints-kind : (f : ℤ → ℤ → Value) (r k l j : KindData) (v w : Value) → ((a b : ℤ) → FitsSigned w32 a → FitsSigned w32 b → IsOfKind r (f a b)) → for_ints r k l ≡ Some j → IsOfKind k v → IsOfKind l w → IsOfKind j (on_ints f v w)
ints-kind f r Ints Ints j (I a) (I b) p e h g = of_same r j (f a b) (same_some r j e) (p a b h g)
ints-kind f r Ints Ints j (I a) Absent p e h g = absurd g
ints-kind f r Ints Ints j (I a) Nil p e h g = absurd g
ints-kind f r Ints Ints j (I a) (E t c) p e h g = absurd g
ints-kind f r Ints Ints j (I a) (B b) p e h g = absurd g
ints-kind f r Ints Ints j (I a) Star p e h g = absurd g
ints-kind f r Ints Ints j Absent w p e h g = absurd h
ints-kind f r Ints Ints j Nil w p e h g = absurd h
ints-kind f r Ints Ints j (E t c) w p e h g = absurd h
ints-kind f r Ints Ints j (B b) w p e h g = absurd h
ints-kind f r Ints Ints j Star w p e h g = absurd h
ints-kind f r Ints Bools j v w p e h g = absurd (cc)
ints-kind f r Ints (Constructors n xs) j v w p e h g = absurd (cc)
ints-kind f r Bools l j v w p e h g = absurd (cc)
ints-kind f r (Constructors n xs) l j v w p e h g = absurd (cc)

same_gives : (d : Bool) (r j : KindData) (P : Type 0) → (if d then Some r else None) ≡ Some j → (d ≡ true → r ≡ j → P) → P
same_gives true r j P e f = f refl (same_some r j e)
same_gives false r j P e f = absurd (cc)

eq-kind : (b : Bool) (k l j : KindData) → for_same Bools k l ≡ Some j → IsOfKind j (B b)
eq-kind b k l j e = same_gives (same_kind k l) Bools j (IsOfKind j (B b)) e (λ d s. of_same Bools j (B b) s tt)

rest_fits : (d : Bool) (a r : ℤ) → FitsSigned w32 a → FitsSigned w32 r → FitsSigned w32 (if d then a else r)
rest_fits true a r h g = h
rest_fits false a r h g = g

zero_fits : FitsSigned w32 (pos 0)
zero_fits = record { sfits = omega arith }

over_fits : (d : Bool) (q : ℤ) → FitsSigned w32 (if d then pos 0 else wrapped q)
over_fits true q = zero_fits
over_fits false q = SFits-int_wrap w32 q

turned_fits : (x : ℕ) → x ≤ 2147483648 → FitsSigned w32 (neg_ℤ (pos x))
turned_fits zero h = record { sfits = omega arith }
turned_fits (suc k) h = record { sfits = omega arith }

rest_kind : (a b : ℤ) → FitsSigned w32 a → FitsSigned w32 b → FitsSigned w32 (int_rem a b)
rest_kind (pos n) b h g = let small : n < 2147483648 = h.sfits in record { sfits = omega (arith, mod-le n (unsigned_abs b)) }
rest_kind (negsuc n) b h g = let small : n < 2147483648 = h.sfits in turned_fits (suc n % unsigned_abs b) (omega (arith, mod-le (suc n) (unsigned_abs b)))

arithmetic-kind : (op : Op) (a b : ℤ) → FitsSigned w32 a → FitsSigned w32 b → FitsSigned w32 (arithmetic op a b)
arithmetic-kind Plus a b h g = SFits-int_wrap w32 _
arithmetic-kind Minus a b h g = SFits-int_wrap w32 _
arithmetic-kind Times a b h g = SFits-int_wrap w32 _
arithmetic-kind Over a b h g = over_fits (int_eq b (pos 0)) (int_div a b)
arithmetic-kind Rest a b h g = rest_fits (int_eq b (pos 0)) a (int_rem a b) h (rest_kind a b h g)

unary-kind : (op : ObcOp) (k j : KindData) (v : Value) → unary_kind op k ≡ Some j → IsOfKind k v → IsOfKind j (unary op v)
unary-kind Copy k j v e h = of_same k j v (same_some k j e) h
unary-kind Not Bools j (B b) e h = of_same Bools j _ (same_some Bools j e) tt
unary-kind Not Bools j Absent e h = absurd h
unary-kind Not Bools j Nil e h = absurd h
unary-kind Not Bools j (E t c) e h = absurd h
unary-kind Not Bools j (I n) e h = absurd h
unary-kind Not Bools j Star e h = absurd h
unary-kind Not Ints j v e h = absurd (cc)
unary-kind Not (Constructors n xs) j v e h = absurd (cc)
unary-kind Neg Ints j (I n) e h = of_same Ints j (unary Neg (I n)) (same_some Ints j e) (SFits-int_wrap w32 _)
unary-kind Neg Ints j Absent e h = absurd h
unary-kind Neg Ints j Nil e h = absurd h
unary-kind Neg Ints j (E t c) e h = absurd h
unary-kind Neg Ints j (B b) e h = absurd h
unary-kind Neg Ints j Star e h = absurd h
unary-kind Neg Bools j v e h = absurd (cc)
unary-kind Neg (Constructors n xs) j v e h = absurd (cc)
unary-kind Mux k j v e h = absurd (cc)
unary-kind And k j v e h = absurd (cc)
unary-kind Or k j v e h = absurd (cc)
unary-kind Xor k j v e h = absurd (cc)
unary-kind Imp k j v e h = absurd (cc)
unary-kind Eq k j v e h = absurd (cc)
unary-kind Ne k j v e h = absurd (cc)
unary-kind Lt k j v e h = absurd (cc)
unary-kind Le k j v e h = absurd (cc)
unary-kind Gt k j v e h = absurd (cc)
unary-kind Ge k j v e h = absurd (cc)
unary-kind Add k j v e h = absurd (cc)
unary-kind Sub k j v e h = absurd (cc)
unary-kind Mul k j v e h = absurd (cc)
unary-kind Div k j v e h = absurd (cc)
unary-kind Rem k j v e h = absurd (cc)

binary-kind : (op : ObcOp) (k l j : KindData) (v w : Value) → binary_kind op k l ≡ Some j → IsOfKind k v → IsOfKind l w → IsOfKind j (binary op v w)
binary-kind And k l j v w e h g = bools-kind _ k l j v w e h g
binary-kind Or k l j v w e h g = bools-kind _ k l j v w e h g
binary-kind Xor k l j v w e h g = bools-kind _ k l j v w e h g
binary-kind Imp k l j v w e h g = bools-kind _ k l j v w e h g
binary-kind Eq k l j v w e h g = eq-kind _ k l j e
binary-kind Ne k l j v w e h g = eq-kind _ k l j e
binary-kind Lt k l j v w e h g = ints-kind _ Bools k l j v w (λ a b p q. tt) e h g
binary-kind Le k l j v w e h g = ints-kind _ Bools k l j v w (λ a b p q. tt) e h g
binary-kind Gt k l j v w e h g = ints-kind _ Bools k l j v w (λ a b p q. tt) e h g
binary-kind Ge k l j v w e h g = ints-kind _ Bools k l j v w (λ a b p q. tt) e h g
binary-kind Add k l j v w e h g = ints-kind (λ m n. I (arithmetic Plus m n)) Ints k l j v w (λ a b p q. arithmetic-kind Plus a b p q) e h g
binary-kind Sub k l j v w e h g = ints-kind (λ m n. I (arithmetic Minus m n)) Ints k l j v w (λ a b p q. arithmetic-kind Minus a b p q) e h g
binary-kind Mul k l j v w e h g = ints-kind (λ m n. I (arithmetic Times m n)) Ints k l j v w (λ a b p q. arithmetic-kind Times a b p q) e h g
binary-kind Div k l j v w e h g = ints-kind (λ m n. I (arithmetic Over m n)) Ints k l j v w (λ a b p q. arithmetic-kind Over a b p q) e h g
binary-kind Rem k l j v w e h g = ints-kind (λ m n. I (arithmetic Rest m n)) Ints k l j v w (λ a b p q. arithmetic-kind Rest a b p q) e h g
binary-kind Copy k l j v w e h g = absurd (cc)
binary-kind Not k l j v w e h g = absurd (cc)
binary-kind Neg k l j v w e h g = absurd (cc)
binary-kind Mux k l j v w e h g = absurd (cc)

-- ---- kinds of a file

-- a kind of a file: the constructors are those of the type of its number
abbrev pub IsKindOf : List ObcType → KindData → Type 0
IsKindOf types Bools = Unit {0}
IsKindOf types Ints = Unit {0}
IsKindOf types (Constructors n xs) = xs ≡ (get_or types n (record { name = []; cons = [] })).cons

abbrev pub AreKindsOf : List ObcType → List KindData → Type 0
AreKindsOf types [] = Unit {0}
AreKindsOf types (k ∷ kinds) = IsKindOf types k × AreKindsOf types kinds

-- kinds of a file that are held to be the same are the same
pub same_kind-one : (types : List ObcType) (k l : KindData) → IsKindOf types k → IsKindOf types l → same_kind k l ≡ true → k ≡ l
same_kind-one types Bools Bools h g e = refl
same_kind-one types Bools Ints h g e = absurd (cc)
same_kind-one types Bools (Constructors n ys) h g e = absurd (cc)
same_kind-one types Ints Ints h g e = refl
same_kind-one types Ints Bools h g e = absurd (cc)
same_kind-one types Ints (Constructors n ys) h g e = absurd (cc)
same_kind-one types (Constructors m xs) Bools h g e = absurd (cc)
same_kind-one types (Constructors m xs) Ints h g e = absurd (cc)
same_kind-one types (Constructors m xs) (Constructors n ys) h g e =
    let same : m ≡ n = (Decides-eqb m n).0 e in
    let cons : xs ≡ ys = h ∙ ap (λ i. (get_or types i (record { name = []; cons = [] })).cons) same ∙ sym g in
    λ i. Constructors (same i) (cons i)

either_kind : (b : Bool) (k : KindData) (v w : Value) → IsOfKind k v → IsOfKind k w → IsOfKind k (if b then v else w)
either_kind true k v w h g = h
either_kind false k v w h g = g

ternary-kind : (types : List ObcType) (op : ObcOp) (i k l j : KindData) (u v w : Value) → ternary_kind op i k l ≡ Some j → IsKindOf types k → IsKindOf types l → IsOfKind i u → IsOfKind k v → IsOfKind l w → IsOfKind j (ternary op u v w)
ternary-kind types Mux Bools k l j (B b) v w e p q h g f =
    same_gives (same_kind k l) k j (IsOfKind j (if b then v else w)) e
    (λ d s. of_same k j (if b then v else w) s (either_kind b k v w g (of_same l k w (sym (same_kind-one types k l p q d)) f)))
ternary-kind types Mux Bools k l j Absent v w e p q h g f = absurd h
ternary-kind types Mux Bools k l j Nil v w e p q h g f = absurd h
ternary-kind types Mux Bools k l j (E t c) v w e p q h g f = absurd h
ternary-kind types Mux Bools k l j (I n) v w e p q h g f = absurd h
ternary-kind types Mux Bools k l j Star v w e p q h g f = absurd h
ternary-kind types Mux Ints k l j u v w e p q h g f = absurd (cc)
ternary-kind types Mux (Constructors n xs) k l j u v w e p q h g f = absurd (cc)
ternary-kind types Copy i k l j u v w e p q h g f = absurd (cc)
ternary-kind types Not i k l j u v w e p q h g f = absurd (cc)
ternary-kind types Neg i k l j u v w e p q h g f = absurd (cc)
ternary-kind types And i k l j u v w e p q h g f = absurd (cc)
ternary-kind types Or i k l j u v w e p q h g f = absurd (cc)
ternary-kind types Xor i k l j u v w e p q h g f = absurd (cc)
ternary-kind types Imp i k l j u v w e p q h g f = absurd (cc)
ternary-kind types Eq i k l j u v w e p q h g f = absurd (cc)
ternary-kind types Ne i k l j u v w e p q h g f = absurd (cc)
ternary-kind types Lt i k l j u v w e p q h g f = absurd (cc)
ternary-kind types Le i k l j u v w e p q h g f = absurd (cc)
ternary-kind types Gt i k l j u v w e p q h g f = absurd (cc)
ternary-kind types Ge i k l j u v w e p q h g f = absurd (cc)
ternary-kind types Add i k l j u v w e p q h g f = absurd (cc)
ternary-kind types Sub i k l j u v w e p q h g f = absurd (cc)
ternary-kind types Mul i k l j u v w e p q h g f = absurd (cc)
ternary-kind types Div i k l j u v w e p q h g f = absurd (cc)
ternary-kind types Rem i k l j u v w e p q h g f = absurd (cc)

-- an operator gives a value of the kind that it has for the kinds of its arguments
pub operated-kind : (types : List ObcType) (op : ObcOp) (kinds : List KindData) (values : List Value) (j : KindData) → result_kind op kinds ≡ Some j → AreKindsOf types kinds → AreOfKinds kinds values → IsOfKind j (operated op values)
operated-kind types op [] values j e p h = absurd (cc)
operated-kind types op (k ∷ []) [] j e p h = absurd h
operated-kind types op (k ∷ []) (v ∷ []) j e p h = unary-kind op k j v e h.0
operated-kind types op (k ∷ []) (v ∷ w ∷ values) j e p h = absurd h.1
operated-kind types op (k ∷ l ∷ []) [] j e p h = absurd h
operated-kind types op (k ∷ l ∷ []) (v ∷ []) j e p h = absurd h.1
operated-kind types op (k ∷ l ∷ []) (v ∷ w ∷ []) j e p h = binary-kind op k l j v w e h.0 h.1.0
operated-kind types op (k ∷ l ∷ []) (v ∷ w ∷ u ∷ values) j e p h = absurd h.1.1
operated-kind types op (i ∷ k ∷ l ∷ []) [] j e p h = absurd h
operated-kind types op (i ∷ k ∷ l ∷ []) (u ∷ []) j e p h = absurd h.1
operated-kind types op (i ∷ k ∷ l ∷ []) (u ∷ v ∷ []) j e p h = absurd h.1.1
operated-kind types op (i ∷ k ∷ l ∷ []) (u ∷ v ∷ w ∷ []) j e p h = ternary-kind types op i k l j u v w e p.1.0 p.1.1.0 h.0 h.1.0 h.1.1.0
operated-kind types op (i ∷ k ∷ l ∷ []) (u ∷ v ∷ w ∷ x ∷ values) j e p h = absurd h.1.1.1
operated-kind types op (i ∷ k ∷ l ∷ m ∷ kinds) values j e p h = absurd (cc)
