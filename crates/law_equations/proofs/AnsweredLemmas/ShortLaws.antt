-- Each integer of a reaction of clocked equations is one of 32 bits, where constants, inputs and answers are.
use Rattle.std.proofs.Common.{◌≡◌, ℕ, zero, suc, ◌+◌, ◌<◌, ◌≤◌, Bool, true, false, ◌||◌, ◌&&◌, nat_eq, nat_lt, ℤ, List, [], ◌∷◌, ◌++◌, map, refl, sym, subst, if◌then◌else◌, arith}
use Rattle.std.specs.Prelude.{IsTrue, Some}
use Rattle.std.specs.Int.{w32}
use Rattle.std.specs.Int.RustNames.{FitsSigned}
use Rattle.std.specs.List.{AllByRecursion, flat_map, range_with_len}
use Rattle.std.proofs.lemmas.Int.{SFits-int_wrap}
use Rattle.std.proofs.lemmas.Bool.{eqb-true, ltb-true, ltb-false}
use Rattle.hp_base.specs.Arithmetic.{arithmetic}
use Rattle.hp_base.specs.Kinds.{KindData, Ints, IsOfKind, AreOfKinds}
use Rattle.hp_base.specs.declared.op.Op.TheVariants.{Add as Plus, Sub as Minus, Mul as Times, Div as Over, Rem as Rest}
use Rattle.hp_base.specs.declared.value.Value.{Value}
use Rattle.hp_base.specs.declared.value.Value.TheVariants.{Absent, Nil, B, E, I, Star}
use Rattle.hp_obc.specs.Form.{result_kind}
use Rattle.hp_obc.specs.Steps.{Names}
use Rattle.hp_obc.specs.Values.{unary, binary, ternary, operated, on_bools, on_ints}
use Rattle.hp_obc.specs.declared.command.ObcOp.{ObcOp}
use Rattle.hp_obc.specs.declared.command.ObcOp.TheVariants.{Copy, Not, Neg, Mux, And, Or, Xor, Imp, Eq, Ne, Lt, Le, Gt, Ge, Add, Sub, Mul, Div, Rem}
use Rattle.hp_obc.proofs.OperatorKinds.{operated-kind}
use Rattle.hp_flat.specs.declared.equation.Atom.{Atom}
use Rattle.hp_flat.specs.declared.equation.Atom.TheVariants.{Variable, Value as Fixed}
use Rattle.hp_flat.specs.Equations.{Clock, Right, operator, register, called, FlatEqn}
use Rattle.hp_flat.specs.Nodes.{FlatNode}
use Rattle.law_equations.specs.Meaning.Instants.{Instant, holds, restarted, atom, atoms, unless, noted, history, since, newest}
use Rattle.law_equations.specs.Meaning.Reactions.{Answers, has, is_set, right_gives, Holds, Continues, Reaction}
use Rattle.law_equations.specs.Meaning.Fitting.{atom_variables}
use Rattle.law_equations.specs.Meaning.Scheduling.{right_reads, clock_variables, IsDefinedBelow, IsRanked}
use Rattle.law_equations.specs.Followed.Premises.{constants_in, constants_of}
use Rattle.law_equations.specs.Followed.Programs.{CallsAmong, CallsOnly}
use Rattle.law_equations.specs.Answered.Short.{IsShort, AreShort, ConstantsShort, AllAnswerShort, TakenIfShort, AllTakenIfShort, InstantShort, ShortLaw}

-- ---- operators

on_bools_short : (f : Bool → Bool → Bool) (v w : Value) → IsShort (on_bools f v w)
on_bools_short f (B a) (B b) = tt
on_bools_short f (B a) Absent = tt
on_bools_short f (B a) Nil = tt
on_bools_short f (B a) (E t c) = tt
on_bools_short f (B a) (I n) = tt
on_bools_short f (B a) Star = tt
on_bools_short f Absent w = tt
on_bools_short f Nil w = tt
on_bools_short f (E t c) w = tt
on_bools_short f (I n) w = tt
on_bools_short f Star w = tt

on_ints_short : (f : ℤ → ℤ → Value) → ((a b : ℤ) → FitsSigned w32 a → FitsSigned w32 b → IsShort (f a b)) → (v w : Value) → IsShort v → IsShort w → IsShort (on_ints f v w)
on_ints_short f p (I a) (I b) h g = p a b h g
on_ints_short f p (I a) (B b) h g = tt
on_ints_short f p (I a) Absent h g = tt
on_ints_short f p (I a) Nil h g = tt
on_ints_short f p (I a) (E t c) h g = tt
on_ints_short f p (I a) Star h g = tt
on_ints_short f p (B b) w h g = tt
on_ints_short f p Absent w h g = tt
on_ints_short f p Nil w h g = tt
on_ints_short f p (E t c) w h g = tt
on_ints_short f p Star w h g = tt

-- what an operator gives on two integers that it takes
computed : (op : ObcOp) → result_kind op (Ints ∷ Ints ∷ []) ≡ Some Ints → (a b : ℤ) → FitsSigned w32 a → FitsSigned w32 b → IsOfKind Ints (operated op (I a ∷ I b ∷ []))
computed op e a b h g = operated-kind [] op (Ints ∷ Ints ∷ []) (I a ∷ I b ∷ []) Ints e (tt, (tt, tt)) (h, (g, tt))

unary_short : (op : ObcOp) (v : Value) → IsShort v → IsShort (unary op v)
unary_short Copy v h = h
unary_short Not (B b) h = tt
unary_short Not Absent h = tt
unary_short Not Nil h = tt
unary_short Not (E t c) h = tt
unary_short Not (I n) h = tt
unary_short Not Star h = tt
unary_short Neg (I n) h = SFits-int_wrap w32 _
unary_short Neg (B b) h = tt
unary_short Neg Absent h = tt
unary_short Neg Nil h = tt
unary_short Neg (E t c) h = tt
unary_short Neg Star h = tt
unary_short Mux v h = tt
unary_short And v h = tt
unary_short Or v h = tt
unary_short Xor v h = tt
unary_short Imp v h = tt
unary_short Eq v h = tt
unary_short Ne v h = tt
unary_short Lt v h = tt
unary_short Le v h = tt
unary_short Gt v h = tt
unary_short Ge v h = tt
unary_short Add v h = tt
unary_short Sub v h = tt
unary_short Mul v h = tt
unary_short Div v h = tt
unary_short Rem v h = tt

binary_short : (op : ObcOp) (v w : Value) → IsShort v → IsShort w → IsShort (binary op v w)
binary_short And v w h g = on_bools_short _ v w
binary_short Or v w h g = on_bools_short _ v w
binary_short Xor v w h g = on_bools_short _ v w
binary_short Imp v w h g = on_bools_short _ v w
binary_short Eq v w h g = tt
binary_short Ne v w h g = tt
binary_short Lt v w h g = on_ints_short _ (λ a b p q. tt) v w h g
binary_short Le v w h g = on_ints_short _ (λ a b p q. tt) v w h g
binary_short Gt v w h g = on_ints_short _ (λ a b p q. tt) v w h g
binary_short Ge v w h g = on_ints_short _ (λ a b p q. tt) v w h g
binary_short Add v w h g = on_ints_short (λ m n. I (arithmetic Plus m n)) (λ a b p q. computed Add refl a b p q) v w h g
binary_short Sub v w h g = on_ints_short (λ m n. I (arithmetic Minus m n)) (λ a b p q. computed Sub refl a b p q) v w h g
binary_short Mul v w h g = on_ints_short (λ m n. I (arithmetic Times m n)) (λ a b p q. computed Mul refl a b p q) v w h g
binary_short Div v w h g = on_ints_short (λ m n. I (arithmetic Over m n)) (λ a b p q. computed Div refl a b p q) v w h g
binary_short Rem v w h g = on_ints_short (λ m n. I (arithmetic Rest m n)) (λ a b p q. computed Rem refl a b p q) v w h g
binary_short Copy v w h g = tt
binary_short Not v w h g = tt
binary_short Neg v w h g = tt
binary_short Mux v w h g = tt

either_short : (b : Bool) (v w : Value) → IsShort v → IsShort w → IsShort (if b then v else w)
either_short true v w h g = h
either_short false v w h g = g

mux_short : (u v w : Value) → IsShort v → IsShort w → IsShort (ternary Mux u v w)
mux_short (B b) v w h g = either_short b v w h g
mux_short Absent v w h g = tt
mux_short Nil v w h g = tt
mux_short (E t c) v w h g = tt
mux_short (I n) v w h g = tt
mux_short Star v w h g = tt

ternary_short : (op : ObcOp) (u v w : Value) → IsShort v → IsShort w → IsShort (ternary op u v w)
ternary_short Mux u v w h g = mux_short u v w h g
ternary_short Copy u v w h g = tt
ternary_short Not u v w h g = tt
ternary_short Neg u v w h g = tt
ternary_short And u v w h g = tt
ternary_short Or u v w h g = tt
ternary_short Xor u v w h g = tt
ternary_short Imp u v w h g = tt
ternary_short Eq u v w h g = tt
ternary_short Ne u v w h g = tt
ternary_short Lt u v w h g = tt
ternary_short Le u v w h g = tt
ternary_short Gt u v w h g = tt
ternary_short Ge u v w h g = tt
ternary_short Add u v w h g = tt
ternary_short Sub u v w h g = tt
ternary_short Mul u v w h g = tt
ternary_short Div u v w h g = tt
ternary_short Rem u v w h g = tt

pub operated_short : (op : ObcOp) (vs : List Value) → AreShort vs → IsShort (operated op vs)
operated_short op [] h = tt
operated_short op (v ∷ []) h = unary_short op v h.0
operated_short op (v ∷ w ∷ []) h = binary_short op v w h.0 h.1.0
operated_short op (u ∷ v ∷ w ∷ []) h = ternary_short op u v w h.1.0 h.1.1.0
operated_short op (u ∷ v ∷ w ∷ x ∷ vs) h = tt

-- ---- lists

all_map : {A : Type 0} (P Q : A → Type 0) (xs : List A) → ((x : A) → P x → Q x) → AllByRecursion P xs → AllByRecursion Q xs
all_map P Q [] f h = tt
all_map P Q (x ∷ xs) f h = (f x h.0, all_map P Q xs f h.1)

all_zip : {A : Type 0} (P Q R : A → Type 0) (xs : List A) → ((x : A) → P x → Q x → R x) → AllByRecursion P xs → AllByRecursion Q xs → AllByRecursion R xs
all_zip P Q R [] f h k = tt
all_zip P Q R (x ∷ xs) f h k = (f x h.0 k.0, all_zip P Q R xs f h.1 k.1)

all_true : {A : Type 0} (P : A → Type 0) (xs : List A) → ((x : A) → P x) → AllByRecursion P xs
all_true P [] f = tt
all_true P (x ∷ xs) f = (f x, all_true P xs f)

all_behind : {A : Type 0} (P : A → Type 0) (xs ys : List A) → AllByRecursion P (xs ++ ys) → AllByRecursion P ys
all_behind P [] ys h = h
all_behind P (x ∷ xs) ys h = all_behind P xs ys h.1

all_front : {A : Type 0} (P : A → Type 0) (xs ys : List A) → AllByRecursion P (xs ++ ys) → AllByRecursion P xs
all_front P [] ys h = tt
all_front P (x ∷ xs) ys h = (h.0, all_front P xs ys h.1)

-- ---- histories

module _ {A : Type 0} (P : A → Type 0) (f : Instant → A) where
  unless_all : (b : Bool) (h : List A) → AllByRecursion P h → AllByRecursion P (unless b h)
  unless_all true h k = tt
  unless_all false h k = k

  noted_all : (b : Bool) (a : A) (h : List A) → (IsTrue b → P a) → AllByRecursion P h → AllByRecursion P (noted b a h)
  noted_all true a h p k = (p refl, k)
  noted_all false a h p k = k

  history_all : (clock : Clock) (restart : List ℕ) (past : List Instant) → AllByRecursion (λ i. IsTrue (holds clock i) → P (f i)) past → AllByRecursion P (history clock restart f past)
  history_all clock restart [] h = tt
  history_all clock restart (i ∷ past) h = noted_all (holds clock i) (f i) _ h.0 (unless_all (restarted restart i) _ (history_all clock restart past h.1))

  since_all : (clock : Clock) (restart : List ℕ) (past : List Instant) (now : Instant) → AllByRecursion (λ i. IsTrue (holds clock i) → P (f i)) past → AllByRecursion P (since clock restart f past now)
  since_all clock restart past now h = unless_all (restarted restart now) _ (history_all clock restart past h)

newest_short : (first : Value) (h : List Value) → IsShort first → AreShort h → IsShort (newest first h)
newest_short first [] p k = p
newest_short first (v ∷ h) p k = k.0

-- ---- arguments

atom_short : (now : Instant) (a : Atom) → AllByRecursion (λ x. IsShort (now x)) (atom_variables a) → AreShort (constants_in (a ∷ [])) → IsShort (atom now a)
atom_short now (Variable x) h c = h.0
atom_short now (Fixed v) h c = c.0

atoms_short : (now : Instant) (args : List Atom) → AllByRecursion (λ x. IsShort (now x)) (flat_map atom_variables args) → AreShort (constants_in args) → AreShort (atoms now args)
atoms_short now [] h c = tt
atoms_short now (Variable x ∷ args) h c = (h.0, atoms_short now args h.1 c)
atoms_short now (Fixed v ∷ args) h c = (c.0, atoms_short now args h c.1)

-- at an instant all of whose values are
pub atoms_then : (args : List Atom) → AreShort (constants_in args) → (i : Instant) → InstantShort i → AreShort (atoms i args)
atoms_then args c i h = atoms_short i args (all_true (λ x. IsShort (i x)) (flat_map atom_variables args) h) c

-- ---- an instant

first_or : (now : Instant) (y x : ℕ) (b c : Bool) → nat_eq y x ≡ b → (b || c) ≡ true → IsShort (now y) → (c ≡ true → IsShort (now x)) → IsShort (now x)
first_or now y x true c e g h k = subst (λ z. IsShort (now z)) (eqb-true y x e) h
first_or now y x false c e g h k = k g

target_short : (now : Instant) (ys : List ℕ) (x : ℕ) → has ys x ≡ true → AreShort (map now ys) → IsShort (now x)
target_short now [] x h k = absurd (cc)
target_short now (y ∷ ys) x h k = first_or now y x (nat_eq y x) (has ys x) refl h k.0 (λ g. target_short now ys x g k.1)

by_order : (now : Instant) (first x : ℕ) (b : Bool) → nat_lt first x ≡ b → first ≤ x → IsShort (now first) → (suc first ≤ x → IsShort (now x)) → IsShort (now x)
by_order now first x true e l h k = k (let less = ltb-true first x e in omega (arith, less))
by_order now first x false e l h k = subst (λ z. IsShort (now z)) (let not_less = ltb-false first x e in omega (arith, not_less, l)) h

input_short : (now : Instant) (first count x : ℕ) → first ≤ x → x < first + count → AreShort (map now (range_with_len first count)) → IsShort (now x)
input_short now first zero x l m h = absurd (omega (arith, l, m))
input_short now first (suc count) x l m h = by_order now first x (nat_lt first x) refl l h.0 (λ later. input_short now (first + 1) count x (omega (arith, later)) (omega (arith, m)) h.1)

module _ (answers : Answers) (takes : Names (List KindData)) (names : List (List ℕ)) (n : FlatNode) (ranked : IsRanked n.eqns) (calls : CallsOnly names n.eqns) (constants : ConstantsShort n.eqns) (short : AllAnswerShort answers takes names) where
  -- at the instants of a past
  abbrev Before : FlatEqn → List Instant → Type 0
  Before e past = AllByRecursion (λ i. InstantShort i × (IsTrue (holds e.clock i) → TakenIfShort takes i e.right)) past

  right_short : (clock : Clock) (restart : List ℕ) (past : List Instant) (now : Instant) (right : Right) → AllByRecursion (λ i. InstantShort i × (IsTrue (holds clock i) → TakenIfShort takes i right)) past
      → TakenIfShort takes now right → CallsAmong names right → AreShort (constants_of right) → AllByRecursion (λ x. IsShort (now x)) (right_reads right) → AreShort (right_gives answers clock restart past now right)
  right_short clock restart past now (operator op args) before taken call c h = (operated_short op (atoms now args) (atoms_short now args h c), tt)
  right_short clock restart past now (register first next) before taken call c h = (
    newest_short first (since clock restart (λ i. atom i next) past now) c.0
        (since_all IsShort (λ i. atom i next) clock restart past now
        (all_map _ (λ i. IsTrue (holds clock i) → IsShort (atom i next)) past (λ i k there. atom_short i next (all_true (λ x. IsShort (i x)) (atom_variables next) k.0) c.1) before)),
    tt,
  )
  right_short clock restart past now (called f args) before taken call c h =
      short f call (atoms now args) (since clock restart (λ i. atoms i args) past now) (taken (atoms_short now args h c))
      (since_all (AreOfKinds (takes f)) (λ i. atoms i args) clock restart past now
      (all_map _ (λ i. IsTrue (holds clock i) → AreOfKinds (takes f) (atoms i args)) past (λ i k there. k.1 there (atoms_then args c i k.0)) before))

  module _ (past : List Instant) (now : Instant) (inputs : List Value) (before : AllByRecursion (λ e. Before e past) n.eqns) (continues : Continues answers n past inputs now) (given : AreShort inputs) (taken : AllTakenIfShort takes n now) where
    -- what the equations that define a variable give it
    abbrev Defined : ℕ → FlatEqn → Type 0
    Defined x d = has d.targets x ≡ true → IsTrue (holds d.clock now) → IsShort (now x)

    this_or : (b c d : Bool) (x : ℕ) → (b && c || d) ≡ true → (c ≡ true → IsTrue b → IsShort (now x)) → (d ≡ true → IsShort (now x)) → IsShort (now x)
    this_or true true d x g h k = h refl refl
    this_or true false d x g h k = k g
    this_or false c d x g h k = k g

    set_short : (es : List FlatEqn) (x : ℕ) → AllByRecursion (Defined x) es → is_set es now x ≡ true → IsShort (now x)
    set_short [] x h e = absurd (cc)
    set_short (d ∷ es) x h e = this_or (holds d.clock now) (has d.targets x) (is_set es now x) x e (λ q p. h.0 q p) (λ g. set_short es x h.1 g)

    set_or : (x : ℕ) → AllByRecursion (Defined x) n.eqns → n.inputs ≤ x → (b : Bool) → is_set n.eqns now x ≡ b → IsShort (now x)
    set_or x h l true e = set_short n.eqns x h e
    set_or x h l false e = subst IsShort (sym (continues.others x l e)) tt

    input_or : (x : ℕ) → AllByRecursion (Defined x) n.eqns → (b : Bool) → nat_lt x n.inputs ≡ b → IsShort (now x)
    input_or x h true e = input_short now 0 n.inputs x (omega arith) (let less = ltb-true x n.inputs e in omega (arith, less)) (subst AreShort (sym continues.inputs_are) given)
    input_or x h false e = set_or x h (ltb-false x n.inputs e) (is_set n.eqns now x) refl

    variable_short : (x : ℕ) → AllByRecursion (Defined x) n.eqns → IsShort (now x)
    variable_short x h = input_or x h (nat_lt x n.inputs) refl

    abbrev Gives : FlatEqn → Type 0
    Gives d = IsTrue (holds d.clock now) → AreShort (map now d.targets)

    abbrev Below : ℕ → FlatEqn → Type 0
    Below k d = d.at < k → Gives d

    defined : (k x : ℕ) (e : FlatEqn) → suc e.at ≤ suc k → AllByRecursion (Below k) n.eqns → IsDefinedBelow n.eqns e x → AllByRecursion (Defined x) n.eqns
    defined k x e l h below =
        all_zip (Below k) (λ d. has d.targets x ≡ true → d.at < e.at) (Defined x) n.eqns
        (λ d g b p q. target_short now d.targets x p (g (let less = b p in omega (arith, less, l)) q)) h below

    abbrev Known : FlatEqn → Type 0
    Known e = ((AreShort (constants_of e.right) × CallsAmong names e.right) × (Before e past × (IsTrue (holds e.clock now) → TakenIfShort takes now e.right))) × (AllByRecursion (IsDefinedBelow n.eqns e) (clock_variables e.clock ++ (e.restart ++ right_reads e.right)) × Holds answers past now e)

    known : AllByRecursion Known n.eqns
    known =
        all_zip _ _ Known n.eqns (λ e a b. (a, b))
        (all_zip _ _ (λ e. (AreShort (constants_of e.right) × CallsAmong names e.right) × (Before e past × (IsTrue (holds e.clock now) → TakenIfShort takes now e.right))) n.eqns (λ e a b. (a, b))
        (all_zip _ _ (λ e. AreShort (constants_of e.right) × CallsAmong names e.right) n.eqns (λ e a b. (a, b)) constants calls)
        (all_zip _ _ (λ e. Before e past × (IsTrue (holds e.clock now) → TakenIfShort takes now e.right)) n.eqns (λ e a b. (a, b)) before taken))
        (all_zip _ _ (λ e. AllByRecursion (IsDefinedBelow n.eqns e) (clock_variables e.clock ++ (e.restart ++ right_reads e.right)) × Holds answers past now e) n.eqns (λ e a b. (a, b)) ranked continues.equations)

    below_short : (k : ℕ) → AllByRecursion (Below k) n.eqns
    below_short zero = all_true (Below zero) n.eqns (λ d l. absurd (omega (arith, l)))
    below_short (suc k) =
        let earlier = below_short k in
        all_map Known (Below (suc k)) n.eqns
        (λ e g l there.
        let reads = all_behind (IsDefinedBelow n.eqns e) e.restart (right_reads e.right) (all_behind (IsDefinedBelow n.eqns e) (clock_variables e.clock) (e.restart ++ right_reads e.right) g.1.0) in
        subst AreShort (sym (g.1.1 there))
        (right_short e.clock e.restart past now e.right g.0.1.0 (g.0.1.1 there) g.0.0.1 g.0.0.0
        (all_map (IsDefinedBelow n.eqns e) (λ x. IsShort (now x)) (right_reads e.right) (λ x b. variable_short x (defined k x e l earlier b)) reads)))
        known

    -- above the ranks of all equations
    abbrev top : List FlatEqn → ℕ
    top [] = 0
    top (e ∷ es) = suc (e.at + top es)

    under_top : (es : List FlatEqn) → AllByRecursion (λ (e : FlatEqn). e.at < top es) es
    under_top [] = tt
    under_top (e ∷ es) = (omega arith, all_map (λ (d : FlatEqn). d.at < top es) (λ (d : FlatEqn). d.at < suc (e.at + top es)) es (λ d l. omega (arith, l)) (under_top es))

    instant_short : InstantShort now
    instant_short x =
        variable_short x
        (all_zip (Below (top n.eqns)) (λ (d : FlatEqn). d.at < top n.eqns) (Defined x) n.eqns (λ d g l p q. target_short now d.targets x p (g l q)) (below_short (top n.eqns)) (under_top n.eqns))

  -- by equations, what is known by instants
  by_equations : (es : List FlatEqn) (past : List Instant) → AllByRecursion InstantShort past → AllByRecursion (λ i. AllByRecursion (λ (e : FlatEqn). IsTrue (holds e.clock i) → TakenIfShort takes i e.right) es) past → AllByRecursion (λ e. Before e past) es
  by_equations [] past h k = tt
  by_equations (e ∷ es) past h k =
      (all_zip _ _ (λ i. InstantShort i × (IsTrue (holds e.clock i) → TakenIfShort takes i e.right)) past (λ i a b. (a, b.0)) h k, by_equations es past h (all_map _ _ past (λ i b. b.1) k))

  all_short : (inputs : List (List Value)) (instants : List Instant) → Reaction answers n inputs instants → AllByRecursion AreShort inputs → AllByRecursion (AllTakenIfShort takes n) instants → AllByRecursion InstantShort instants
  all_short [] [] r h k = tt
  all_short [] (now ∷ past) r h k = absurd r
  all_short (vs ∷ inputs) [] r h k = absurd r
  all_short (vs ∷ inputs) (now ∷ past) r h k =
      let before = all_short inputs past r.0 h.1 k.1 in
      (instant_short past now vs (by_equations n.eqns past before k.1) r.1 h.0 k.0, before)

pub short_law : ShortLaw
short_law answers takes names n ranked calls constants short inputs instants r h k = all_short answers takes names n ranked calls constants short inputs instants r h k
