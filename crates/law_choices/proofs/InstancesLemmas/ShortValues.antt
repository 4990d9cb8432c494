-- What operators, pasts and instants made of parts give of integers of 32 bits is of 32 bits.
use Rattle.std.proofs.Common.{◌≡◌, ℕ, suc, Bool, true, false, ℤ, List, [], ◌∷◌, map, refl}
use Rattle.std.specs.Prelude.{if◌then◌else◌, None, Option, Some}
use Rattle.std.specs.Int.{w32}
use Rattle.std.specs.Int.RustNames.{FitsSigned}
use Rattle.std.specs.List.{AllByRecursion}
use Rattle.std.proofs.lemmas.Int.{SFits-int_wrap}
use Rattle.hp_base.specs.Kinds.{Ints, IsOfKind}
use Rattle.hp_base.specs.declared.ty.Const.{Const}
use Rattle.hp_base.specs.declared.ty.Const.TheVariants as const
use Rattle.hp_base.specs.declared.value.Value.{Value}
use Rattle.hp_base.specs.declared.value.Value.TheVariants.{Absent, Nil, B, E, I}
use Rattle.hp_obc.specs.Form.{result_kind}
use Rattle.hp_obc.specs.Values.{operated}
use Rattle.hp_obc.specs.declared.command.ObcOp.{ObcOp}
use Rattle.hp_obc.specs.declared.command.ObcOp.TheVariants as obc
use Rattle.hp_obc.proofs.OperatorKinds.{operated-kind}
use Rattle.hp_tree.specs.declared.expr.Op1.{Op1}
use Rattle.hp_tree.specs.declared.expr.Op1.TheVariants.{Not, Neg}
use Rattle.hp_tree.specs.declared.expr.Op2.{Op2}
use Rattle.hp_tree.specs.declared.expr.Op2.TheVariants.{And, Or, Xor, Imp, Eq, Ne, Lt, Le, Gt, Ge, Add, Sub, Mul, Div, Rem}
use Rattle.hp_tree.specs.Instant.{Step, Body, Controls, Named, Fresh, Inputs, Equations, Head, Tail, Right, Test, Arms, States, Until, Unless, Active, Next, Pending, First, Second, Third, Args, Instance, Observer, Assume, Enforce, Place, Instant, Past, part, parts, top, own, own_with, or_else, newest, after, at_first, alone, with_one, with_two, with_three, in_row, with_row, with_instance, of_two, in_block, in_right, with_arms, with_body, in_state, with_words, in_observer, in_node}
use Rattle.hp_tree.specs.Operators.{arithmetic_of, constant_of, constructor_from, if_of, logic, numbers, one_of, or_later, place_in, two_of}
use Rattle.hp_tree.specs.Programs.{TypeDecl}
use Rattle.law_equations.specs.Answered.Short.{AreShort, IsShort}
use Rattle.law_wellmade.specs.Spelled.Integers.{ConstShort}
use Rattle.hp_meaning.specs.Contract.ChosenRuns.{cut_by, own_past}
use Rattle.law_choices.specs.Instances.Integers.{HoldsShort}

-- each instant of a past holds such integers
abbrev pub AllHold : Past → Type 0
AllHold past = AllByRecursion HoldsShort past

-- ---- values

pub if_short : (d : Bool) (v w : Value) → IsShort v → IsShort w → IsShort (if d then v else w)
if_short true v w h k = h
if_short false v w h k = k

constructor_short : (t : ℕ) (types : List TypeDecl) (x : List ℕ) → IsShort (constructor_from t types x)
constructor_short t [] x = tt
constructor_short t (d ∷ ds) x = by (place_in 0 d.cons x) (constructor_short (suc t) ds x)
  where
    by : (o : Option ℕ) → IsShort (constructor_from (suc t) ds x) → IsShort (or_later t o (constructor_from (suc t) ds x))
    by (Some c) h = tt
    by None h = h

pub constant_short : (types : List TypeDecl) (c : Const) → ConstShort c → IsShort (constant_of types c)
constant_short types (const.B b) h = tt
constant_short types (const.I n) h = h
constant_short types (const.E x) h = constructor_short 0 types x

pub one_short : (o : Op1) (v : Value) → IsShort v → IsShort (one_of o v)
one_short Not (B b) h = tt
one_short Not v h = tt
one_short Neg (I n) h = SFits-int_wrap w32 _
one_short Neg v h = tt

logic_short : (o : Op2) (a b : Bool) → IsShort (logic o a b)
logic_short And a b = tt
logic_short Or a b = tt
logic_short Xor a b = tt
logic_short Imp a b = tt
logic_short Eq a b = tt
logic_short Ne a b = tt
logic_short o a b = tt

-- what an operator gives on two integers that it takes
computed : (o : ObcOp) → result_kind o (Ints ∷ Ints ∷ []) ≡ Some Ints → (a b : ℤ) → FitsSigned w32 a → FitsSigned w32 b → IsOfKind Ints (operated o (I a ∷ I b ∷ []))
computed o e a b h k = operated-kind [] o (Ints ∷ Ints ∷ []) (I a ∷ I b ∷ []) Ints e (tt, (tt, tt)) (h, (k, tt))

numbers_short : (o : Op2) (a b : ℤ) → FitsSigned w32 a → FitsSigned w32 b → IsShort (numbers arithmetic_of o a b)
numbers_short Eq a b h k = tt
numbers_short Ne a b h k = tt
numbers_short Lt a b h k = tt
numbers_short Le a b h k = tt
numbers_short Gt a b h k = tt
numbers_short Ge a b h k = tt
numbers_short Add a b h k = computed obc.Add refl a b h k
numbers_short Sub a b h k = computed obc.Sub refl a b h k
numbers_short Mul a b h k = computed obc.Mul refl a b h k
numbers_short Div a b h k = computed obc.Div refl a b h k
numbers_short Rem a b h k = computed obc.Rem refl a b h k
numbers_short o a b h k = tt

same_short : (o : Op2) (s a t b : ℕ) → IsShort (two_of o (E s a) (E t b))
same_short Eq s a t b = tt
same_short Ne s a t b = tt
same_short o s a t b = tt

pub two_short : (o : Op2) (v w : Value) → IsShort v → IsShort w → IsShort (two_of o v w)
two_short o (B a) (B b) h k = logic_short o a b
two_short o (I a) (I b) h k = numbers_short o a b h k
two_short o (E s a) (E t b) h k = same_short o s a t b
two_short o Nil w h k = tt
two_short o v Nil h k = tt
two_short o v w h k = tt

pub choose_short : (c v w : Value) → IsShort v → IsShort w → IsShort (if_of c v w)
choose_short (B c) Nil w h k = tt
choose_short (B c) v Nil h k = tt
choose_short (B true) v w h k = h
choose_short (B false) v w h k = k
choose_short Nil v w h k = tt
choose_short c v w h k = tt

-- ---- pasts

pub parts_hold : (s : Step) (past : Past) → AllHold past → AllHold (parts s past)
parts_hold s [] h = tt
parts_hold s (i ∷ past) h = ((λ p. h.0 (s ∷ p)), parts_hold s past h.1)

own_with_holds : (v : Value) (i : Instant) (past : Past) → HoldsShort i → AllHold past → AllHold (own_with v i past)
own_with_holds Absent i past h k = k
own_with_holds (B true) i past h k = (h, tt)
own_with_holds v i past h k = (h, k)

pub own_holds : (past : Past) → AllHold past → AllHold (own past)
own_holds [] h = tt
own_holds (i ∷ past) h = own_with_holds (i (Fresh ∷ [])) i (own past) h.0 (own_holds past h.1)

pub since_holds : (fresh : Bool) (past : Past) → AllHold past → AllHold (if fresh then [] else own past)
since_holds true past h = tt
since_holds false past h = own_holds past h

or_else_short : (v w : Value) → IsShort v → IsShort w → IsShort (or_else v w)
or_else_short Absent w h k = k
or_else_short v w h k = h

pub newest_short : (none : Value) (past : Past) → IsShort none → AllHold past → IsShort (newest none past)
newest_short none [] h k = h
newest_short none (i ∷ past) h k = or_else_short (top i) (newest none past) (k.0 []) (newest_short none past h k.1)

after_short : (u v w : Value) → IsShort v → IsShort w → IsShort (after u v w)
after_short Absent v w h k = h
after_short u v w h k = k

pub at_first_short : (past : Past) (v w : Value) → IsShort v → IsShort w → IsShort (at_first past v w)
at_first_short [] v w h k = h
at_first_short (i ∷ past) v w h k = after_short (top i) (at_first past v w) w (at_first_short past v w h k) k

cut_holds : (v : Value) (past : Past) → AllHold past → AllHold (cut_by v past)
cut_holds Absent past h = h
cut_holds (B true) past h = tt
cut_holds v past h = own_holds past h

-- the own past of the part at a place
pub own_past_holds : (p : Place) (past : Past) (now : Instant) → AllHold past → AllHold (own_past p past now)
own_past_holds [] past now h = h
own_past_holds (s ∷ p) past now h = own_past_holds p (cut_by (now (s ∷ Fresh ∷ [])) (parts s past)) (part s now) (cut_holds (now (s ∷ Fresh ∷ [])) (parts s past) (parts_hold s past h))

-- ---- instants made of parts

pub if_holds : (d : Bool) (i j : Instant) → HoldsShort i → HoldsShort j → HoldsShort (if d then i else j)
if_holds true i j h k = h
if_holds false i j h k = k

pub alone_holds : (v : Value) → IsShort v → HoldsShort (alone v)
alone_holds v h [] = h
alone_holds v h (s ∷ p) = tt

pub one_holds : (v : Value) (i : Instant) → IsShort v → HoldsShort i → HoldsShort (with_one v i)
one_holds v i h a [] = h
one_holds v i h a (First ∷ p) = a p
one_holds v i h a p = tt

pub two_holds : (v : Value) (i j : Instant) → IsShort v → HoldsShort i → HoldsShort j → HoldsShort (with_two v i j)
two_holds v i j h a b [] = h
two_holds v i j h a b (First ∷ p) = a p
two_holds v i j h a b (Second ∷ p) = b p
two_holds v i j h a b p = tt

pub three_holds : (v : Value) (i j k : Instant) → IsShort v → HoldsShort i → HoldsShort j → HoldsShort k → HoldsShort (with_three v i j k)
three_holds v i j k h a b c [] = h
three_holds v i j k h a b c (First ∷ p) = a p
three_holds v i j k h a b c (Second ∷ p) = b p
three_holds v i j k h a b c (Third ∷ p) = c p
three_holds v i j k h a b c p = tt

pub row_holds : (is : List Instant) → AllHold is → HoldsShort (in_row is)
row_holds (i ∷ is) h (Head ∷ p) = h.0 p
row_holds (i ∷ is) h (Tail ∷ p) = row_holds is h.1 p
row_holds is h p = tt

pub with_row_holds : (v : Value) (is : List Instant) → IsShort v → AllHold is → HoldsShort (with_row v is)
with_row_holds v is h a [] = h
with_row_holds v is h a (Args ∷ p) = row_holds is a p
with_row_holds v is h a p = tt

pub instance_holds : (v : Value) (is : List Instant) (i : Instant) → IsShort v → AllHold is → HoldsShort i → HoldsShort (with_instance v is i)
instance_holds v is i h a b [] = h
instance_holds v is i h a b (Args ∷ p) = row_holds is a p
instance_holds v is i h a b (Instance ∷ p) = b p
instance_holds v is i h a b p = tt

pub of_two_holds : (i j : Instant) → HoldsShort i → HoldsShort j → HoldsShort (of_two i j)
of_two_holds i j a b (Head ∷ p) = a p
of_two_holds i j a b (Tail ∷ p) = b p
of_two_holds i j a b p = tt

pub block_holds : (named : List ℕ → Value) (fresh : Bool) (i : Instant) → ((x : List ℕ) → IsShort (named x)) → HoldsShort i → HoldsShort (in_block named (B fresh) i)
block_holds named fresh i h a (Named x ∷ []) = h x
block_holds named fresh i h a (Fresh ∷ []) = tt
block_holds named fresh i h a (Equations ∷ p) = a p
block_holds named fresh i h a p = tt

pub right_holds : (i : Instant) → HoldsShort i → HoldsShort (in_right i)
right_holds i a (Right ∷ p) = a p
right_holds i a p = tt

pub arms_hold : (i j : Instant) → HoldsShort i → HoldsShort j → HoldsShort (with_arms i j)
arms_hold i j a b (Test ∷ p) = a p
arms_hold i j a b (Arms ∷ p) = b p
arms_hold i j a b p = tt

pub body_holds : (i j : Instant) → HoldsShort i → HoldsShort j → HoldsShort (with_body i j)
body_holds i j a b (Test ∷ p) = a p
body_holds i j a b (Body ∷ p) = b p
body_holds i j a b p = tt

pub state_holds : (i j k : Instant) → HoldsShort i → HoldsShort j → HoldsShort k → HoldsShort (in_state i j k)
state_holds i j k a b c (Body ∷ p) = a p
state_holds i j k a b c (Until ∷ p) = b p
state_holds i j k a b c (Unless ∷ p) = c p
state_holds i j k a b c p = tt

pub words_hold : (s t : ℕ) (restart : Bool) (i : Instant) → HoldsShort i → HoldsShort (with_words (E 0 s) (E 0 t) (B restart) i)
words_hold s t restart i a (Active ∷ []) = tt
words_hold s t restart i a (Next ∷ []) = tt
words_hold s t restart i a (Pending ∷ []) = tt
words_hold s t restart i a (States ∷ p) = a p
words_hold s t restart i a p = tt

pub observer_holds : (i j k : Instant) → HoldsShort i → HoldsShort j → HoldsShort k → HoldsShort (in_observer i j k)
observer_holds i j k a b c (Observer ∷ p) = a p
observer_holds i j k a b c (Assume ∷ p) = b p
observer_holds i j k a b c (Enforce ∷ p) = c p
observer_holds i j k a b c p = tt

pub alone_row : (vs : List Value) → AreShort vs → AllHold (map alone vs)
alone_row [] h = tt
alone_row (v ∷ vs) h = (alone_holds v h.0, alone_row vs h.1)

pub node_holds : (outputs : List ℕ → Value) (inputs controls : List Value) (i j : Instant) → ((x : List ℕ) → IsShort (outputs x)) → AreShort inputs → AreShort controls → HoldsShort i → HoldsShort j → HoldsShort (in_node outputs inputs controls i j)
node_holds outputs inputs controls i j o v c a b (Named x ∷ []) = o x
node_holds outputs inputs controls i j o v c a b (Fresh ∷ []) = tt
node_holds outputs inputs controls i j o v c a b (Inputs ∷ p) = row_holds (map alone inputs) (alone_row inputs v) p
node_holds outputs inputs controls i j o v c a b (Controls ∷ p) = row_holds (map alone controls) (alone_row controls c) p
node_holds outputs inputs controls i j o v c a b (Body ∷ p) = a p
node_holds outputs inputs controls i j o v c a b p = b p

pub tops_short : (is : List Instant) → AllHold is → AreShort (map top is)
tops_short [] h = tt
tops_short (i ∷ is) h = (h.0 [], tops_short is h.1)
