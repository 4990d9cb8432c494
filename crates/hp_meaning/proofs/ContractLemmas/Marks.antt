-- What values give when integers are marks.
use Rattle.std.proofs.Common.{◌≡◌, ℕ, ℤ, suc, List, [], ◌∷◌, map, refl, sym, ap, ap₂, ◌∙◌}
use Rattle.std.proofs.Math.Path.{fun_ext}
use Rattle.std.specs.Prelude.{Bool, true, false, ◌&&◌, if◌then◌else◌, Option, None, Some}
use Rattle.std.specs.Str.{bytes_eq}
use Rattle.hp_base.specs.declared.value.Value.{Value}
use Rattle.hp_base.specs.declared.value.Value.TheVariants.{Absent, Nil, B, E, I, Star}
use Rattle.hp_tree.specs.declared.block.Trans.{Trans}
use Rattle.hp_tree.specs.declared.decl.Cons.{Cons}
use Rattle.hp_tree.specs.declared.decl.Cons.TheVariants as cons
use Rattle.hp_tree.specs.declared.expr.Op1.{Op1}
use Rattle.hp_tree.specs.declared.expr.Op1.TheVariants.{Not, Neg}
use Rattle.hp_tree.specs.declared.expr.Op2.{Op2}
use Rattle.hp_tree.specs.declared.expr.Op2.TheVariants.{And, Or, Xor, Imp, Eq, Ne, Lt, Le, Gt, Ge, Add, Sub, Mul, Div, Rem}
use Rattle.hp_tree.specs.Blocks.{Decl, Eqns, Eqn, States}
use Rattle.hp_tree.specs.Programs.{TypeDecl}
use Rattle.hp_tree.specs.Operators.{place_in, or_later, constructor_from, same_value, is_cons, is_true, one_of, two_of, if_of, marked, one_marked, two_marked}
use Rattle.hp_tree.specs.Instant.{Named, Instant, or_else, after, Clock, holds}
use Rattle.hp_tree.specs.Meaning.{Names, some_defines, inside, defines, within, Jump, state_of, number_of, first_true, input_of}

abbrev pub marks : Names → Names
marks names x = marked (names x)

pub if_marked : (d : Bool) (v w : Value) → (if d then marked v else marked w) ≡ marked (if d then v else w)
if_marked true v w = refl
if_marked false v w = refl

pub marked_twice : (v : Value) → marked (marked v) ≡ marked v
marked_twice Absent = refl
marked_twice Nil = refl
marked_twice (B b) = refl
marked_twice (E t c) = refl
marked_twice (I n) = refl
marked_twice Star = refl

pub is_true_marked : (v : Value) → is_true (marked v) ≡ is_true v
is_true_marked Absent = refl
is_true_marked Nil = refl
is_true_marked (B b) = refl
is_true_marked (E t c) = refl
is_true_marked (I n) = refl
is_true_marked Star = refl

pub state_of_marked : (v : Value) → state_of (marked v) ≡ state_of v
state_of_marked Absent = refl
state_of_marked Nil = refl
state_of_marked (B b) = refl
state_of_marked (E t c) = refl
state_of_marked (I n) = refl
state_of_marked Star = refl

-- ---- constructors

later_is_no_number : (t : ℕ) (o : Option ℕ) (v : Value) (n : ℤ) → same_value (I n) v ≡ false → same_value (I n) (or_later t o v) ≡ false
later_is_no_number t (Some c) v n h = refl
later_is_no_number t None v n h = h

no_number : (t : ℕ) (types : List TypeDecl) (x : List ℕ) (n : ℤ) → same_value (I n) (constructor_from t types x) ≡ false
no_number t [] x n = refl
no_number t (d ∷ ds) x n = later_is_no_number t (place_in 0 d.cons x) (constructor_from (suc t) ds x) n (no_number (suc t) ds x n)

is_no_cons : (types : List TypeDecl) (c : Cons) (n : ℤ) → is_cons types (I n) c ≡ false
is_no_cons types cons.False n = refl
is_no_cons types cons.True n = refl
is_no_cons types (cons.Named x) n = no_number 0 types x n

pub is_cons_marked : (types : List TypeDecl) (v : Value) (c : Cons) → is_cons types (marked v) c ≡ is_cons types v c
is_cons_marked types Absent c = refl
is_cons_marked types Nil c = refl
is_cons_marked types (B b) c = refl
is_cons_marked types (E t k) c = refl
is_cons_marked types (I n) c = sym (is_no_cons types c n)
is_cons_marked types Star c = refl

pub holds_marks : (types : List TypeDecl) (clock : Clock) (names : Names) → holds types clock (marks names) ≡ holds types clock names
holds_marks types [] names = refl
holds_marks types (on ∷ clock) names = ap₂ (λ a b. a && b) (is_cons_marked types (names on.1) on.0) (holds_marks types clock names)

pub on_marks : (types : List TypeDecl) (clock : Clock) (names : Names) (v : Value) → (if holds types clock (marks names) then marked v else Absent) ≡ marked (if holds types clock names then v else Absent)
on_marks types clock names v = ap (λ d. if d then marked v else Absent) (holds_marks types clock names) ∙ if_marked (holds types clock names) v Absent

-- ---- operators

pub one_mark : (o : Op1) (v : Value) → (v ≡ Star → ⊥) → one_marked o (marked v) ≡ marked (one_of o v)
one_mark Not Absent h = refl
one_mark Not Nil h = refl
one_mark Not (B b) h = refl
one_mark Not (E t c) h = refl
one_mark Not (I n) h = refl
one_mark Not Star h = absurd (h refl)
one_mark Neg Absent h = refl
one_mark Neg Nil h = refl
one_mark Neg (B b) h = refl
one_mark Neg (E t c) h = refl
one_mark Neg (I n) h = refl
one_mark Neg Star h = absurd (h refl)

-- Two integers: a comparison is what is given, and what is no operator of integers is not there.
integers : (o : Op2) (given now : Value) (a b : ℤ) → now ≡ two_of o (I a) (I b) → ((t : Bool) → now ≡ B t → given ≡ B t) → (now ≡ Absent → ⊥) → two_marked o given Star Star ≡ marked (two_of o (I a) (I b))
integers And given now a b e told there = absurd (there e)
integers Or given now a b e told there = absurd (there e)
integers Xor given now a b e told there = absurd (there e)
integers Imp given now a b e told there = absurd (there e)
integers Eq given now a b e told there = told _ e
integers Ne given now a b e told there = told _ e
integers Lt given now a b e told there = told _ e
integers Le given now a b e told there = told _ e
integers Gt given now a b e told there = told _ e
integers Ge given now a b e told there = told _ e
integers Add given now a b e told there = refl
integers Sub given now a b e told there = refl
integers Mul given now a b e told there = refl
integers Div given now a b e told there = refl
integers Rem given now a b e told there = refl

logic_mark : (o : Op2) (given : Value) (a b : Bool) → two_marked o given (B a) (B b) ≡ marked (two_of o (B a) (B b))
logic_mark And given a b = refl
logic_mark Or given a b = refl
logic_mark Xor given a b = refl
logic_mark Imp given a b = refl
logic_mark Eq given a b = refl
logic_mark Ne given a b = refl
logic_mark Lt given a b = refl
logic_mark Le given a b = refl
logic_mark Gt given a b = refl
logic_mark Ge given a b = refl
logic_mark Add given a b = refl
logic_mark Sub given a b = refl
logic_mark Mul given a b = refl
logic_mark Div given a b = refl
logic_mark Rem given a b = refl

constructor_mark : (o : Op2) (given : Value) (s a t b : ℕ) → two_marked o given (E s a) (E t b) ≡ marked (two_of o (E s a) (E t b))
constructor_mark And given s a t b = refl
constructor_mark Or given s a t b = refl
constructor_mark Xor given s a t b = refl
constructor_mark Imp given s a t b = refl
constructor_mark Eq given s a t b = refl
constructor_mark Ne given s a t b = refl
constructor_mark Lt given s a t b = refl
constructor_mark Le given s a t b = refl
constructor_mark Gt given s a t b = refl
constructor_mark Ge given s a t b = refl
constructor_mark Add given s a t b = refl
constructor_mark Sub given s a t b = refl
constructor_mark Mul given s a t b = refl
constructor_mark Div given s a t b = refl
constructor_mark Rem given s a t b = refl

pub two_mark : (o : Op2) (given now v w : Value) → now ≡ two_of o v w → ((t : Bool) → now ≡ B t → given ≡ B t) → (v ≡ Star → ⊥) → (w ≡ Star → ⊥) → ((a b : ℤ) → v ≡ I a → w ≡ I b → now ≡ Absent → ⊥) → two_marked o given (marked v) (marked w) ≡ marked (two_of o v w)
two_mark o given now (B a) (B b) e told g h there = logic_mark o given a b
two_mark o given now (E s a) (E t b) e told g h there = constructor_mark o given s a t b
two_mark o given now (I a) (I b) e told g h there = integers o given now a b e told (there a b refl refl)
two_mark o given now Star w e told g h there = absurd (g refl)
two_mark o given now v Star e told g h there = absurd (h refl)
two_mark o given now v w e told g h there = refl

pub if_mark : (c v w : Value) → if_of (marked c) (marked v) (marked w) ≡ marked (if_of c v w)
if_mark (B true) Absent Absent = refl
if_mark (B true) (B c) Absent = refl
if_mark (B true) (E t c) Absent = refl
if_mark (B true) (I n) Absent = refl
if_mark (B true) Star Absent = refl
if_mark (B false) Absent Absent = refl
if_mark (B false) (B c) Absent = refl
if_mark (B false) (E t c) Absent = refl
if_mark (B false) (I n) Absent = refl
if_mark (B false) Star Absent = refl
if_mark c v w = refl

-- ---- pasts

pub or_else_mark : (v w : Value) → or_else (marked v) (marked w) ≡ marked (or_else v w)
or_else_mark Absent w = refl
or_else_mark Nil w = refl
or_else_mark (B b) w = refl
or_else_mark (E t c) w = refl
or_else_mark (I n) w = refl
or_else_mark Star w = refl

pub after_mark : (u v w : Value) → after (marked u) (marked v) (marked w) ≡ marked (after u v w)
after_mark Absent v w = refl
after_mark Nil v w = refl
after_mark (B b) v w = refl
after_mark (E t c) v w = refl
after_mark (I n) v w = refl
after_mark Star v w = refl

-- ---- names

pub inside_marks : (es : Eqns) (out : Names) (now now' : Instant) → ((x : List ℕ) → now' (Named x ∷ []) ≡ marked (now (Named x ∷ []))) → inside es (marks out) now' ≡ marks (inside es out now)
inside_marks es out now now' e =
    fun_ext (λ x. ap (λ v. if some_defines es x then v else marked (out x)) (e x) ∙ if_marked (some_defines es x) (now (Named x ∷ [])) (out x))

pub within_marks : (e : Eqn) (out last : Names) → within e (marks out) (marks last) ≡ marks (within e out last)
within_marks e out last = fun_ext (λ x. if_marked (defines e x) (last x) (out x))

pub input_marks : (ds : List Decl) (vs : List Value) (out : Names) → input_of ds (map marked vs) (marks out) ≡ marks (input_of ds vs out)
input_marks ds vs out = fun_ext (λ x. at_name ds vs x)
  where
    at_name : (ds : List Decl) (vs : List Value) (x : List ℕ) → input_of ds (map marked vs) (marks out) x ≡ marked (input_of ds vs out x)
    at_name [] vs x = refl
    at_name (d ∷ ds) [] x = refl
    at_name (d ∷ ds) (v ∷ vs) x =
        ap (λ w. if bytes_eq d.name x then marked v else w) (at_name ds vs x) ∙ if_marked (bytes_eq d.name x) v (input_of ds vs out x)

-- ---- transitions

pub first_true_marks : (ss : States) (ts : List Trans) (vs : List Value) (else_jump : Jump) → first_true ss ts (map marked vs) else_jump ≡ first_true ss ts vs else_jump
first_true_marks ss [] vs j = refl
first_true_marks ss (t ∷ ts) [] j = refl
first_true_marks ss (t ∷ ts) (v ∷ vs) j =
    ap₂ (λ d k. if d then record { state = number_of 0 ss t.target; restart = t.restart } else k) (is_true_marked v) (first_true_marks ss ts vs j)
