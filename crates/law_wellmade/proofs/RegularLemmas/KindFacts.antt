-- Where integers are of 32 bits, good equations are regular, and their kinds agree.
use Rattle.std.proofs.Common.{◌≡◌, ℕ, zero, suc, ◌<◌, List, [], ◌∷◌, ◌++◌, length, map, append-nil, Option, None, Some, refl, sym, ap, subst, ◌∙◌, arith}
use Rattle.std.specs.Prelude.{slice_get, get_or}
use Rattle.std.specs.List.{AllByRecursion}
use Rattle.hp_base.specs.Kinds.{KindData, Bools, Constructors, IsOfKind}
use Rattle.hp_base.specs.declared.value.Value.{Value}
use Rattle.hp_base.specs.declared.value.Value.TheVariants.{Absent, Nil, B, E, I, Star}
use Rattle.hp_obc.specs.Form.{result_kind}
use Rattle.hp_obc.specs.Machines.{ObcType}
use Rattle.hp_obc.specs.declared.command.ObcOp.TheVariants.{Copy}
use Rattle.hp_tree.specs.Blocks.{Decl}
use Rattle.hp_tree.specs.Meaning.{controls_of}
use Rattle.hp_tree.specs.Programs.{Node}
use Rattle.hp_flat.specs.declared.equation.Atom.{Atom}
use Rattle.hp_flat.specs.declared.equation.Atom.TheVariants.{Variable as Named, Value as Fixed}
use Rattle.hp_flat.specs.declared.node.FlatTy.{FlatTy}
use Rattle.hp_flat.specs.declared.node.FlatTy.TheVariants as flat
use Rattle.hp_flat.specs.declared.node.Variable.{Variable}
use Rattle.hp_flat.specs.Equations.{Clock, Right, operator, register, called, FlatEqn}
use Rattle.law_equations.specs.Meaning.Kinding.{constructors, kind_of_type, variable_kind, IsTyped, HasValue, HasArm, Callees, AtomHasKind, HaveKinds, RightHasKinds, EqnKinds}
use Rattle.hp_toobc.specs.Tables.{variable_type, width_of}
use Rattle.hp_toobc.specs.Stepping.{AreWide}
use Rattle.hp_normal.specs.Reading.{only, copied, both as and_also}
use Rattle.law_equations.specs.Followed.Premises.{IsOfTypes, constants_in, constants_of}
use Rattle.law_equations.specs.Fewer.Compiling.{CopyAgrees}
use Rattle.hp_form.specs.Regular.Regular.{EqnIsRegular}
use Rattle.law_equations.specs.Made.Making.{Known, Sketch, flat_type, outputs_of}
use Rattle.law_equations.specs.Answered.Short.{IsShort, AreShort}
use Rattle.law_wellmade.proofs.BegunLemmas.Keeping.{HasType}
use Rattle.law_wellmade.specs.Regular.Kinds.{taken_by, kinds_of_decls, program_callees, IsKnownType}
use Rattle.law_wellmade.proofs.RegularLemmas.Good.{HaveTypes, RestartGood, types_of_decls, inputs_of, kind, IsValue, AtomTyped, ArgsTyped, ClockGood, RightTyped, EqnGood}

-- ---- types by their kinds

number_of : KindData → ℕ
number_of (Constructors t cons) = t
number_of k = 0

-- types of one kind are one
one_type : (types : List ObcType) (a b : FlatTy) → kind_of_type types a ≡ kind_of_type types b → a ≡ b
unfolding number_of
one_type types flat.Bool flat.Bool e = refl
one_type types flat.Int flat.Int e = refl
one_type types (flat.Enum t) (flat.Enum u) e = ap flat.Enum (ap number_of e)
one_type types flat.Bool flat.Int e = absurd (cc)
one_type types flat.Bool (flat.Enum u) e = absurd (cc)
one_type types flat.Int flat.Bool e = absurd (cc)
one_type types flat.Int (flat.Enum u) e = absurd (cc)
one_type types (flat.Enum t) flat.Bool e = absurd (cc)
one_type types (flat.Enum t) flat.Int e = absurd (cc)

one_kind : (k l : KindData) → ◌≡◌ {A = Option KindData} (Some k) (Some l) → k ≡ l
one_kind k l e = cc

first_type : (t u : FlatTy) (ts us : List FlatTy) → t ∷ ts ≡ u ∷ us → t ≡ u
first_type t u ts us e = cc

-- a type with a value is one of the types
below_length : (types : List ObcType) (t : ℕ) → 0 < length (constructors types t) → t < length types
below_length [] t h = absurd (let l : 0 < 0 = h in omega (arith, l))
below_length (x ∷ types) zero h = omega arith
below_length (x ∷ types) (suc t) h = let l = below_length types t h in omega (arith, l)

pub known_type : (types : List ObcType) (t : FlatTy) → HasValue types t → IsKnownType types t
known_type types flat.Bool h = tt
known_type types flat.Int h = tt
known_type types (flat.Enum t) h = below_length types t h

-- ---- types of variables

get_is : (xs : List Variable) (i : ℕ) (v z : Variable) → slice_get xs i ≡ Some v → get_or xs i z ≡ v
get_is [] i v z h = absurd (cc)
get_is (x ∷ xs) zero v z h = cc
get_is (x ∷ xs) (suc i) v z h = get_is xs i v z h

type_there : (d : Sketch) (x : ℕ) (t : FlatTy) → HasType d x t → variable_type d.variables x ≡ t
type_there d x t h = ap (λ (v : Variable). v.ty) (get_is d.variables x h.0 _ h.1) ∙ h.2

-- without controllable variables a node takes its inputs
kinds_of_types : (types : List ObcType) (k : Known) (ds : List Decl) → kinds_of_decls types k ds ≡ map (kind types) (types_of_decls k ds)
kinds_of_types types k [] = refl
kinds_of_types types k (d ∷ ds) = ap (λ ks. kind types (flat_type k.types d.ty) ∷ ks) (kinds_of_types types k ds)

taken_is : (types : List ObcType) (k : Known) (o : Option Node) → ((n : Node) → o ≡ Some n → controls_of n.contract ≡ []) → kinds_of_decls types k (taken_by o) ≡ map (kind types) (types_of_decls k (inputs_of o))
taken_is types k None f = refl
taken_is types k (Some n) f = ap (λ ds. kinds_of_decls types k ds) (ap (λ cs. n.inputs ++ cs) (f n refl) ∙ append-nil n.inputs) ∙ kinds_of_types types k n.inputs

module _ (types : List ObcType) where
  typed_kind : (t : FlatTy) → IsTyped types (kind types t)
  typed_kind flat.Bool = tt
  typed_kind flat.Int = tt
  typed_kind (flat.Enum t) = refl

  of_kind : (t : FlatTy) (v : Value) → IsValue types t v → IsShort v → IsOfKind (kind types t) v
  of_kind flat.Bool (B b) h s = tt
  of_kind flat.Int (I n) h s = s
  of_kind (flat.Enum t) (E u c) h s = h
  of_kind flat.Bool (I n) h s = absurd h
  of_kind flat.Bool (E u c) h s = absurd h
  of_kind flat.Bool Absent h s = absurd h
  of_kind flat.Bool Nil h s = absurd h
  of_kind flat.Bool Star h s = absurd h
  of_kind flat.Int (B b) h s = absurd h
  of_kind flat.Int (E u c) h s = absurd h
  of_kind flat.Int Absent h s = absurd h
  of_kind flat.Int Nil h s = absurd h
  of_kind flat.Int Star h s = absurd h
  of_kind (flat.Enum t) (B b) h s = absurd h
  of_kind (flat.Enum t) (I n) h s = absurd h
  of_kind (flat.Enum t) Absent h s = absurd h
  of_kind (flat.Enum t) Nil h s = absurd h
  of_kind (flat.Enum t) Star h s = absurd h

  -- a value of a kind of the types is a value of the types
  kind_in_types : (t : FlatTy) (v : Value) → IsOfKind (kind types t) v → IsOfTypes types v
  kind_in_types flat.Bool (B b) h = tt
  kind_in_types flat.Bool v h = absurd h
  kind_in_types flat.Int (I n) h = h
  kind_in_types flat.Int v h = absurd h
  kind_in_types (flat.Enum t) (E u c) h = subst (λ z. c < length (constructors types z)) (sym h.0) h.1
  kind_in_types (flat.Enum t) v h = absurd h

  has_arm : (t : FlatTy) (c : ℕ) → c < width_of types t → HasArm (kind types t) c
  has_arm flat.Bool c h = h
  has_arm flat.Int c h = absurd (omega (arith, h))
  has_arm (flat.Enum t) c h = h

  module _ (d : Sketch) where
    abbrev own_kind : ℕ → KindData
    own_kind x = variable_kind types d.variables x

    kind_there : (x : ℕ) (t : FlatTy) → HasType d x t → own_kind x ≡ kind types t
    kind_there x t h = ap (kind types) (type_there d x t h)

    kinds_there : (xs : List ℕ) (ts : List FlatTy) → HaveTypes d xs ts → map own_kind xs ≡ map (kind types) ts
    kinds_there [] [] h = refl
    kinds_there [] (t ∷ ts) h = absurd h
    kinds_there (x ∷ xs) [] h = absurd h
    kinds_there (x ∷ xs) (t ∷ ts) h = ap (λ k. k ∷ map own_kind xs) (kind_there x t h.0) ∙ ap (λ ks. kind types t ∷ ks) (kinds_there xs ts h.1)

    -- ---- clocks and restarts

    clock_wide : (clock : Clock) → ClockGood types d clock → AreWide types d.variables clock
    clock_wide [] h = tt
    clock_wide (on ∷ clock) h = (subst (λ t. on.1 < width_of types t) (sym (type_there d on.0 h.0.0 h.0.1)) h.0.2, clock_wide clock h.1)

    clock_kinds : (clock : Clock) → ClockGood types d clock → AllByRecursion (λ (on : ℕ × ℕ). HasArm (own_kind on.0) on.1) clock
    clock_kinds [] h = tt
    clock_kinds (on ∷ clock) h = (subst (λ k. HasArm k on.1) (sym (kind_there on.0 h.0.0 h.0.1)) (has_arm h.0.0 on.1 h.0.2), clock_kinds clock h.1)

    restart_kinds : (xs : List ℕ) → RestartGood d xs → AllByRecursion (λ x. own_kind x ≡ Bools) xs
    restart_kinds [] h = tt
    restart_kinds (x ∷ xs) h = (kind_there x flat.Bool h.0, restart_kinds xs h.1)

    -- ---- what gives values

    module _ (callees : Callees) where
      args_kinds : (args : List Atom) (ts : List FlatTy) → ArgsTyped types d args ts → AreShort (constants_in args) → HaveKinds types callees d.variables args (map (kind types) ts)
      args_kinds [] [] h s = tt
      args_kinds [] (t ∷ ts) h s = absurd h
      args_kinds (a ∷ args) [] h s = absurd h
      args_kinds (Named x ∷ args) (t ∷ ts) h s = (kind_there x t h.0, args_kinds args ts h.1 s)
      args_kinds (Fixed v ∷ args) (t ∷ ts) h s = ((of_kind t v h.0 s.0, typed_kind t), args_kinds args ts h.1 s.1)

      next_kind : (a : Atom) (t : FlatTy) → AtomTyped types d a t → AreShort (constants_in (a ∷ [])) → AtomHasKind types callees d.variables a (kind types t)
      next_kind (Named x) t h s = kind_there x t h
      next_kind (Fixed v) t h s = (of_kind t v h s.0, typed_kind t)

    module _ (k : Known) where
      right_kinds : (right : Right) (xs : List ℕ) (ts : List FlatTy) → HaveTypes d xs ts → RightTyped types k d right ts → AreShort (constants_of right) → ((f : List ℕ) (n : Node) → k.nodes f ≡ Some n → controls_of n.contract ≡ [])
          → RightHasKinds types (program_callees types k) d.variables right (map own_kind xs)
      right_kinds (operator op args) xs ts h r s none =
          (map (kind types) r.0, args_kinds (program_callees types k) args r.0 r.1 s, kind types r.2, r.3, kinds_there xs ts h ∙ ap (map (kind types)) r.4)
      right_kinds (register first next) xs ts h r s none =
          (kind types r.0, of_kind r.0 first r.1 s.0, next_kind (program_callees types k) next r.0 r.2 s.1, kinds_there xs ts h ∙ ap (map (kind types)) r.3)
      right_kinds (called f args) xs ts h r s none = (
        subst (λ ks. HaveKinds types (program_callees types k) d.variables args ks) (sym (taken_is types k (k.nodes f) (none f))) (args_kinds (program_callees types k) args (types_of_decls k (inputs_of (k.nodes f))) r.0 s),
        kinds_there xs ts h ∙ ap (map (kind types)) r.1 ∙ sym (kinds_of_types types k (outputs_of (k.nodes f))),
      )

      pub eqn_kinds : (e : FlatEqn) → EqnGood types k d e → AreShort (constants_of e.right) → ((f : List ℕ) (n : Node) → k.nodes f ≡ Some n → controls_of n.contract ≡ []) → EqnKinds types (program_callees types k) d.variables e
      eqn_kinds e h s none = record { right = right_kinds e.right e.targets h.given h.targets h.right s none; clock = clock_kinds e.clock h.clock; restart = restart_kinds e.restart h.restart }

      -- ---- constants and copies

      args_in_types : (args : List Atom) (ts : List FlatTy) → ArgsTyped types d args ts → AreShort (constants_in args) → AllByRecursion (IsOfTypes types) (constants_in args)
      args_in_types [] ts h s = tt
      args_in_types (a ∷ args) [] h s = absurd h
      args_in_types (Named x ∷ args) (t ∷ ts) h s = args_in_types args ts h.1 s
      args_in_types (Fixed v ∷ args) (t ∷ ts) h s = (kind_in_types t v (of_kind t v h.0 s.0), args_in_types args ts h.1 s.1)

      right_in_types : (right : Right) (ts : List FlatTy) → RightTyped types k d right ts → AreShort (constants_of right) → AllByRecursion (IsOfTypes types) (constants_of right)
      right_in_types (operator op args) ts r s = args_in_types args r.0 r.1 s
      right_in_types (register first next) ts r s = (kind_in_types r.0 first (of_kind r.0 first r.1 s.0), args_in_types (next ∷ []) (r.0 ∷ []) (r.2, tt) s.1)
      right_in_types (called f args) ts r s = args_in_types args (types_of_decls k (inputs_of (k.nodes f))) r.0 s

      -- a copy of a variable has its type
      copy_types : (x y : ℕ) (ts : List FlatTy) → HaveTypes d (x ∷ []) ts → RightTyped types k d (operator Copy (Named y ∷ [])) ts → variable_type d.variables x ≡ variable_type d.variables y
      copy_types x y [] h r = absurd h
      copy_types x y (t ∷ u ∷ ts) h r = absurd h.1
      copy_types x y (t ∷ []) h r = by r.0 r.1 r.3
        where
          by : (us : List FlatTy) → ArgsTyped types d (Named y ∷ []) us → result_kind Copy (map (kind types) us) ≡ Some (kind types r.2) → variable_type d.variables x ≡ variable_type d.variables y
          by [] i e = absurd i
          by (u ∷ v ∷ us) i e = absurd i.1
          by (u ∷ []) i e = type_there d x t h.0 ∙ first_type t r.2 [] [] r.4 ∙ sym (one_type types u r.2 (one_kind (kind types u) (kind types r.2) e)) ∙ sym (type_there d y u i.0)

      copy_by : (xs : List ℕ) (right : Right) (ts : List FlatTy) → HaveTypes d xs ts → RightTyped types k d right ts → CopyAgrees d.variables (and_also (only xs) (copied right))
      copy_by [] (operator op args) ts h r = tt
      copy_by [] (register first next) ts h r = tt
      copy_by [] (called f args) ts h r = tt
      copy_by (x ∷ []) (operator Copy []) ts h r = tt
      copy_by (x ∷ []) (operator Copy (Named y ∷ [])) ts h r = copy_types x y ts h r
      copy_by (x ∷ []) (operator Copy (Fixed v ∷ [])) ts h r = tt
      copy_by (x ∷ []) (operator Copy (a ∷ b ∷ args)) ts h r = tt
      copy_by (x ∷ []) (operator op args) ts h r = tt
      copy_by (x ∷ []) (register first next) ts h r = tt
      copy_by (x ∷ []) (called f args) ts h r = tt
      copy_by (x ∷ y ∷ xs) right ts h r = tt

      pub eqn_regular : (e : FlatEqn) → EqnGood types k d e → AreShort (constants_of e.right) → EqnIsRegular types d.variables e
      eqn_regular e h s = record { clock = clock_wide e.clock h.clock; constants = right_in_types e.right h.given h.right s; copy = copy_by e.targets e.right h.given h.targets h.right }
