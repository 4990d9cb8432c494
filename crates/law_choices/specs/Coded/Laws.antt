-- The bits of free places have the codes of their values.
-- Source: own.
use Rattle.std.specs.Prelude.{◌≡◌, ℕ, ◌<◌, Bool, true, List, length, map}
use Rattle.std.specs.List.{AllByRecursion, range_with_len}
use Rattle.hp_base.specs.Kinds.{IsOfKind}
use Rattle.hp_base.specs.declared.ty.Ty.{Ty}
use Rattle.hp_base.specs.declared.value.Value.{Value}
use Rattle.hp_base.specs.declared.value.Value.TheVariants.{B}
use Rattle.hp_tree.specs.Programs.{TypeDecl}
use Rattle.hp_obc.specs.Machines.{ObcType}
use Rattle.hp_boolx.specs.Search.{Bits}
use Rattle.hp_flat.specs.declared.node.FlatTy.{FlatTy}
use Rattle.hp_flat.specs.Equations.{Clock}
use Rattle.hp_flat.specs.Nodes.{FlatNode}
use Rattle.law_equations.specs.Meaning.Instants.{Instant, holds}
use Rattle.law_equations.specs.Meaning.Kinding.{Callees, kind_of_type, kinds_at}
use Rattle.law_equations.specs.Meaning.Reactions.{Answers, Holds}
use Rattle.hp_meaning.specs.Contract.Codes.{code}
use Rattle.law_wellmade.specs.Timely.Kinds.{kind_of}
use Rattle.hp_watch.specs.Adding.{type_at}
use Rattle.hp_watch.specs.declared.watching.Free.{Free}
use Rattle.hp_watch.specs.Watching.{Watched, free_inputs, unwatched, with_places}
use Rattle.law_choices.specs.Adding.Keeping.{IsBased}
use Rattle.law_choices.specs.Adding.Lifts.{HaveBytes}
use Rattle.law_choices.specs.Adding.Watched.{IsFree}
use Rattle.law_choices.specs.Coded.Codes.{all_bits_at, bits_of_kind, bits_of_kinds, bits_of_value, early_places, late_places}

-- each variable has a value of its kind where its clock holds
abbrev pub IsTypedAt : List ObcType → FlatNode → (ℕ → Clock) → Instant → Type 0
IsTypedAt types n clock now = (x : ℕ) → x < length n.variables → holds (clock x) now ≡ true → IsOfKind (kind_of_type types (type_at n x)) (now x)

-- some variables have these truth values
abbrev pub HaveBits : Instant → List ℕ → Bits → Type 0
HaveBits now xs bits = map now xs ≡ map (λ b. B b) bits

-- At an instant at which the equations of the watched node hold, early and late variables have the bits of the values of early and of late places.
pub record AreCoded (types : List ObcType) (n : FlatNode) (free : List Free) (is_early : List Bool) (now : Instant) (w : Watched) : Type 0 where
  pub early : HaveBits now w.early (all_bits_at types n now (early_places free is_early))
  pub late : HaveBits now w.late (all_bits_at types n now (late_places free is_early))

abbrev pub CodedLaw : Type 0
CodedLaw =
    (types : List ObcType) (callees : Callees) (clock : ℕ → Clock) (n : FlatNode) (free : List Free) (is_early : List Bool) (answers : Answers) (past : List Instant) (now : Instant)
    → HaveBytes types → IsBased types callees clock n → AllByRecursion (IsFree types n clock) free → IsTypedAt types n clock now
    → AllByRecursion (Holds answers past now) (with_places types free is_early (unwatched n)).node.eqns → AreCoded types n free is_early now (with_places types free is_early (unwatched n))

-- The bits of a value of a type are those of its kind, in clocked equations
abbrev pub KindBitsLaw : Type 0
KindBitsLaw = (types : List ObcType) (ty : FlatTy) (v : Value) → HaveBytes types → bits_of_value types ty v ≡ bits_of_kind (kind_of_type types ty) v

-- as in the machine of a contract.
abbrev pub CodeBitsLaw : Type 0
CodeBitsLaw = (types : List TypeDecl) (t : Ty) (v : Value) → code types t v ≡ bits_of_kind (kind_of types t) v

-- The bits of the inputs of a node are those of their values.
abbrev pub InputBitsLaw : Type 0
InputBitsLaw =
    (types : List ObcType) (n : FlatNode) (count : ℕ) (now : Instant) → HaveBytes types → all_bits_at types n now (free_inputs n count) ≡ bits_of_kinds (kinds_at types n (range_with_len 0 count)) (map now (range_with_len 0 count))
