-- Values on wires: what operators give is of their type.
use Rattle.std.proofs.Common.{◌≡◌, ℕ, List, refl, sym, ap, subst, ◌∙◌}
use Rattle.std.specs.Prelude.{Bool, true, false, ◌||◌, IsTrue, if◌then◌else◌, Some}
use Rattle.hp_base.specs.declared.ty.Ty.{Ty}
use Rattle.hp_base.specs.declared.ty.Ty.TheVariants as ty
use Rattle.hp_base.specs.declared.value.Value.{Value}
use Rattle.hp_base.specs.declared.value.Value.TheVariants.{Absent, Nil, B, E, I, Star}
use Rattle.hp_tree.specs.declared.decl.Cons.{Cons}
use Rattle.hp_tree.specs.declared.expr.Op1.{Op1}
use Rattle.hp_tree.specs.declared.expr.Op1.TheVariants.{Not, Neg}
use Rattle.hp_tree.specs.declared.expr.Op2.{Op2}
use Rattle.hp_tree.specs.declared.expr.Op2.TheVariants.{And, Or, Xor, Imp, Eq, Ne, Lt, Le, Gt, Ge, Add, Sub, Mul, Div, Rem}
use Rattle.hp_tree.specs.Expressions.{Parts, no_part, more_parts}
use Rattle.hp_tree.specs.Blocks.{Arms, no_arm, more_arms}
use Rattle.hp_tree.specs.Programs.{TypeDecl}
use Rattle.hp_tree.specs.Operators.{marked, one_marked, two_marked, two_of, if_of, is_cons, is_comparison}
use Rattle.hp_tree.specs.Values.{IsOf}
use Rattle.hp_typing.specs.Types.{type_of_one, operand, answer}
use Rattle.law_values.specs.Valued.Judged.{Covers, of_parts, of_arms}
use Rattle.law_values.proofs.ValuedLemmas.Laws.{value_of, never_nil, is_bool, is_enum, two_value, if_value, is_one, covered}
use Rattle.law_games.specs.Wires.Wired.{IsValue, Callees, has_part}
use Rattle.law_games.specs.Wires.WiredBlocks.{has_arm}
use Rattle.law_games.specs.Wiretyped.Typed.{IsWire, IsFlag}
use Rattle.law_games.specs.Wiretyped.Kept.{ComparisonGiven}

pub either : (P : Value → Type 0) (d : Bool) (u v : Value) → P u → P v → P (if d then u else v)
either P true u v p q = p
either P false u v p q = q

module _ (types : List TypeDecl) where
  value_is_of : (t : Ty) (v : Value) → IsOf types t v → IsValue v
  value_is_of t (B b) h = tt
  value_is_of t (E u k) h = tt
  value_is_of t (I n) h = tt
  value_is_of t Star h = tt
  value_is_of ty.Bool Absent h = absurd h
  value_is_of ty.Int Absent h = absurd h
  value_is_of (ty.Enum t) Absent h = absurd h
  value_is_of ty.Bool Nil h = absurd h
  value_is_of ty.Int Nil h = absurd h
  value_is_of (ty.Enum t) Nil h = absurd h

  pub wire_value : (t : Ty) (v : Value) → IsWire types t v → IsValue v
  wire_value ty.Bool v h = value_is_of ty.Bool v h
  wire_value ty.Int v h = subst IsValue (sym h) tt
  wire_value (ty.Enum t) v h = value_is_of (ty.Enum t) v h

  -- a value of a type, as the abstraction has it
  pub marked_wire : (t : Ty) (v : Value) → IsOf types t v → IsWire types t (marked v)
  marked_wire ty.Int (I n) h = refl
  marked_wire ty.Bool (B b) h = h
  marked_wire (ty.Enum t) (E u k) h = h
  marked_wire ty.Int (B b) h = absurd h
  marked_wire ty.Int (E u k) h = absurd h
  marked_wire ty.Bool (I n) h = absurd h
  marked_wire ty.Bool (E u k) h = absurd h
  marked_wire (ty.Enum t) (B b) h = absurd h
  marked_wire (ty.Enum t) (I n) h = absurd h
  marked_wire ty.Bool Absent h = absurd h
  marked_wire ty.Int Absent h = absurd h
  marked_wire (ty.Enum t) Absent h = absurd h
  marked_wire ty.Bool Nil h = absurd h
  marked_wire ty.Int Nil h = absurd h
  marked_wire (ty.Enum t) Nil h = absurd h
  marked_wire ty.Bool Star h = absurd h
  marked_wire ty.Int Star h = absurd h
  marked_wire (ty.Enum t) Star h = absurd h

  pub flag_wire : (v : Value) → IsFlag v → IsWire types ty.Bool v
  flag_wire v h = subst (λ z. IsWire types ty.Bool z) (sym h.1) tt

  pub one_wire : (o : Op1) (v : Value) → IsWire types (type_of_one o) v → IsWire types (type_of_one o) (one_marked o v)
  one_wire Not v h = let b = is_bool types v h in subst (λ z. IsWire types ty.Bool (one_marked Not z)) (sym b.1) tt
  one_wire Neg v h = ap (one_marked Neg) h

  answers_bool : (o : Op2) → operand o (Some ty.Bool) ≡ Some ty.Bool → answer o ≡ ty.Bool
  answers_bool And h = refl
  answers_bool Or h = refl
  answers_bool Xor h = refl
  answers_bool Imp h = refl
  answers_bool Eq h = refl
  answers_bool Ne h = refl
  answers_bool Lt h = refl
  answers_bool Le h = refl
  answers_bool Gt h = refl
  answers_bool Ge h = refl
  answers_bool Add h = cc
  answers_bool Sub h = cc
  answers_bool Mul h = cc
  answers_bool Div h = cc
  answers_bool Rem h = cc

  answers_enum : (o : Op2) (t : List ℕ) → operand o (Some (ty.Enum t)) ≡ Some (ty.Enum t) → answer o ≡ ty.Bool
  answers_enum And t h = refl
  answers_enum Or t h = refl
  answers_enum Xor t h = refl
  answers_enum Imp t h = refl
  answers_enum Eq t h = refl
  answers_enum Ne t h = refl
  answers_enum Lt t h = refl
  answers_enum Le t h = refl
  answers_enum Gt t h = refl
  answers_enum Ge t h = refl
  answers_enum Add t h = cc
  answers_enum Sub t h = cc
  answers_enum Mul t h = cc
  answers_enum Div t h = cc
  answers_enum Rem t h = cc

  bool_answer : (t : Ty) (v : Value) → t ≡ ty.Bool → IsOf types t v → IsWire types t v
  bool_answer t v e h = subst (λ z. IsWire types z v) (sym e) (subst (λ z. IsOf types z v) e h)

  integers : (o : Op2) (g : Value) → operand o (Some ty.Int) ≡ Some ty.Int → (IsTrue (is_comparison o) → IsFlag g) → IsWire types (answer o) (if is_comparison o then g else Star)
  integers And g h f = absurd (cc)
  integers Or g h f = absurd (cc)
  integers Xor g h f = absurd (cc)
  integers Imp g h f = absurd (cc)
  integers Eq g h f = flag_wire g (f refl)
  integers Ne g h f = flag_wire g (f refl)
  integers Lt g h f = flag_wire g (f refl)
  integers Le g h f = flag_wire g (f refl)
  integers Gt g h f = flag_wire g (f refl)
  integers Ge g h f = flag_wire g (f refl)
  integers Add g h f = refl
  integers Sub g h f = refl
  integers Mul g h f = refl
  integers Div g h f = refl
  integers Rem g h f = refl

  real_two : (o : Op2) (t : Ty) (v w : Value) → operand o (Some t) ≡ Some t → IsOf types t v → IsOf types t w → IsOf types (answer o) (two_of o v w)
  real_two o t v w k h g =
      never_nil types (answer o) false (two_of o v w) refl
      (two_value types o t false false false v w k (λ z. z) (λ z. z) (value_of types t false v h) (value_of types t false w g))

  pub two_wire : (o : Op2) (t : Ty) (g v w : Value) → operand o (Some t) ≡ Some t → ComparisonGiven o (Some t) g → IsWire types t v → IsWire types t w → IsWire types (answer o) (two_marked o g v w)
  two_wire o ty.Bool g v w k f h l =
      let b = is_bool types v h in
      subst (λ z. IsWire types (answer o) (two_marked o g z w)) (sym b.1)
      (bool_answer (answer o) (two_of o (B b.0) w) (answers_bool o k) (subst (λ z. IsOf types (answer o) (two_of o z w)) b.1 (real_two o ty.Bool v w k h l)))
  two_wire o ty.Int g v w k f h l =
      subst (λ z. IsWire types (answer o) (two_marked o g z w)) (sym h) (subst (λ z. IsWire types (answer o) (two_marked o g Star z)) (sym l) (integers o g k f))
  two_wire o (ty.Enum t) g v w k f h l =
      let e = is_enum types t v h in
      subst (λ z. IsWire types (answer o) (two_marked o g z w)) (sym e.2)
      (bool_answer (answer o) (two_of o (E e.0 e.1) w) (answers_enum o t k) (subst (λ z. IsOf types (answer o) (two_of o z w)) e.2 (real_two o (ty.Enum t) v w k h l)))

  real_if : (t : Ty) (u v w : Value) → IsOf types ty.Bool u → IsOf types t v → IsOf types t w → IsOf types t (if_of u v w)
  real_if t u v w h k l =
      never_nil types t false (if_of u v w) refl
      (if_value types t false false false false u v w (λ z. z) (λ z. z) (λ z. z) (value_of types ty.Bool false u h) (value_of types t false v k) (value_of types t false w l))

  star_if : (b : Bool) → if_of (B b) Star Star ≡ Star
  star_if true = refl
  star_if false = refl

  pub if_wire : (t : Ty) (u v w : Value) → IsWire types ty.Bool u → IsWire types t v → IsWire types t w → IsWire types t (if_of u v w)
  if_wire ty.Bool u v w h k l = real_if ty.Bool u v w h k l
  if_wire ty.Int u v w h k l = let b = is_bool types u h in (λ z. if_of (b.1 z) (k z) (l z)) ∙ star_if b.0
  if_wire (ty.Enum t) u v w h k l = real_if (ty.Enum t) u v w h k l

  -- a type whose constructors are all named is no integer, so one of them is that of a value
  pub wire_covered : (t : Ty) (v : Value) (given : List Cons) → IsWire types t v → Covers types t given → IsTrue (is_one types given v)
  wire_covered ty.Bool v given h g = covered types ty.Bool v given h g
  wire_covered ty.Int v given h g = absurd g
  wire_covered (ty.Enum t) v given h g = covered types (ty.Enum t) v given h g

  pub part_of : (ps : Parts) (v : Value) → is_one types (of_parts ps) v ≡ has_part types ps v
  part_of no_part v = refl
  part_of (more_parts c e ps) v = ap (λ b. is_cons types v c || b) (part_of ps v)

  pub arm_of : (C : Callees) (arms : Arms) (v : Value) → is_one types (of_arms arms) v ≡ has_arm types C arms v
  arm_of C no_arm v = refl
  arm_of C (more_arms c b s arms) v = ap (λ d. is_cons types v c || d) (arm_of C arms v)
