-- A plain machine does the same in every file, whatever its memory.
use Rattle.std.proofs.Common.{◌≡◌, ℕ, Bool, true, false, ◌&&◌, ◌==◌, List, [], ◌∷◌, ◌++◌, length, map, refl, sym, ◌∙◌, arith}
use Rattle.std.specs.Prelude.{unwrap_or}
use Rattle.std.proofs.lemmas.List.{length-map}
use Rattle.std.proofs.lemmas.Bool.Decides.{Decides-eqb}
use Rattle.hp_base.specs.Kinds.{KindData, Bools, Ints, IsOfKind, AreOfKinds}
use Rattle.hp_base.specs.declared.ty.Ty.{Ty}
use Rattle.hp_base.specs.declared.ty.Ty.TheVariants.{Bool as BoolTy, Int as IntTy, Enum as EnumTy}
use Rattle.hp_base.specs.declared.value.Value.{Value}
use Rattle.hp_base.specs.declared.value.Value.TheVariants.{Absent, Nil, B, E, I, Star}
use Rattle.hp_obc.specs.declared.machine.Mem.{Mem}
use Rattle.hp_obc.specs.declared.machine.Var.{Var}
use Rattle.hp_obc.specs.Machines.{ObcType, Machine}
use Rattle.hp_obc.specs.Values.{kind_of, first_value}
use Rattle.hp_obc.specs.Kinded.{kinds_in}
use Rattle.hp_obc.specs.Steps.{Memory, Known, State, unknown, empty, behaviour, before, after, of_instance, all_given, values_in, inner_of, listed, var_names, mem_names, inst_names}
use Rattle.hp_native.specs.Natively.{is_simple, are_simple, is_plain, kind_in, fits_one, fits, outputs_of}

-- ---- truth values

left_true : (a b : Bool) → (a && b) ≡ true → a ≡ true
left_true true b h = refl
left_true false b h = absurd (cc)

pub right_true : (a b : Bool) → (a && b) ≡ true → b ≡ true
right_true true b h = h
right_true false b h = absurd (cc)

pub both_true : (a b : Bool) → a ≡ true → b ≡ true → (a && b) ≡ true
both_true true b h g = g
both_true false b h g = absurd (cc)

empty_of : {A : Type 0} (xs : List A) → (length xs == 0) ≡ true → xs ≡ []
empty_of [] h = refl
empty_of (x ∷ xs) h = let none : length (x ∷ xs) ≡ 0 = (Decides-eqb (length (x ∷ xs)) 0).0 h in absurd (omega (arith, none))

-- ---- a plain machine

pub record Parts (m : Machine) : Type 0 where
  pub no_memories : m.mems ≡ []
  pub no_instances : m.insts ≡ []
  pub inputs : are_simple m.inputs ≡ true
  pub outputs : are_simple m.outputs ≡ true

pub parts_of : (m : Machine) → is_plain m ≡ true → Parts m
parts_of m h =
    let no_mems : Bool = length m.mems == 0 in
    let no_insts : Bool = length m.insts == 0 in
    let four : (no_mems && no_insts && are_simple m.inputs && are_simple m.outputs) ≡ true = left_true (no_mems && no_insts && are_simple m.inputs && are_simple m.outputs) (are_simple m.vars) h in
    let three : (no_mems && no_insts && are_simple m.inputs) ≡ true = left_true (no_mems && no_insts && are_simple m.inputs) (are_simple m.outputs) four in
    let two : (no_mems && no_insts) ≡ true = left_true (no_mems && no_insts) (are_simple m.inputs) three in
    record {
      no_memories = empty_of m.mems (left_true no_mems no_insts two);
      no_instances = empty_of m.insts (right_true no_mems no_insts two);
      inputs = right_true (no_mems && no_insts) (are_simple m.inputs) three;
      outputs = right_true (no_mems && no_insts && are_simple m.inputs) (are_simple m.outputs) four;
    }

module _ (types : List ObcType) where
  kind_by : (ty : Ty) → is_simple ty ≡ true → kind_of types ty ≡ kind_of [] ty
  kind_by BoolTy h = refl
  kind_by IntTy h = refl
  kind_by (EnumTy x) h = absurd (cc)

  -- simple types have one kind in all files
  pub simple-kinds : (vars : List Var) → are_simple vars ≡ true → kinds_in types vars ≡ kinds_in [] vars
  simple-kinds [] h = refl
  simple-kinds (x ∷ vars) h =
      λ i. unwrap_or (kind_by x.ty (left_true (is_simple x.ty) (are_simple vars) h) i) Bools ∷ simple-kinds vars (right_true (is_simple x.ty) (are_simple vars) h) i

  first_by : (ty : Ty) → is_simple ty ≡ true → fits_one (kind_in ty) (first_value types ty) ≡ true
  first_by BoolTy h = refl
  first_by IntTy h = refl
  first_by (EnumTy x) h = absurd (cc)

  -- first values are of simple types
  pub firsts-fit : (vars : List Var) → are_simple vars ≡ true → fits (kinds_in [] vars) (map (λ (x : Var). first_value types x.ty) vars) ≡ true
  firsts-fit [] h = refl
  firsts-fit (x ∷ vars) h =
      both_true (fits_one (kind_in x.ty) (first_value types x.ty)) (fits (kinds_in [] vars) (map (λ (y : Var). first_value types y.ty) vars))
      (first_by x.ty (left_true (is_simple x.ty) (are_simple vars) h)) (firsts-fit vars (right_true (is_simple x.ty) (are_simple vars) h))

-- ---- values of simple types

bool_fits : (v : Value) → IsOfKind Bools v → fits_one Bools v ≡ true
bool_fits (B b) h = refl
bool_fits Absent h = absurd h
bool_fits Nil h = absurd h
bool_fits (E t c) h = absurd h
bool_fits (I n) h = absurd h
bool_fits Star h = absurd h

int_fits : (v : Value) → IsOfKind Ints v → fits_one Ints v ≡ true
int_fits (I n) h = refl
int_fits Absent h = absurd h
int_fits Nil h = absurd h
int_fits (E t c) h = absurd h
int_fits (B b) h = absurd h
int_fits Star h = absurd h

one_fits : (ty : Ty) (v : Value) → IsOfKind (kind_in ty) v → fits_one (kind_in ty) v ≡ true
one_fits BoolTy v h = bool_fits v h
one_fits IntTy v h = int_fits v h
one_fits (EnumTy x) v h = bool_fits v h

-- values of the kinds of variables fit them
pub values-fit : (vars : List Var) (values : List Value) → AreOfKinds (kinds_in [] vars) values → fits (kinds_in [] vars) values ≡ true
values-fit [] [] h = refl
values-fit [] (v ∷ values) h = absurd h
values-fit (x ∷ vars) [] h = absurd h
values-fit (x ∷ vars) (v ∷ values) h = both_true (fits_one (kind_in x.ty) v) (fits (kinds_in [] vars) values) (one_fits x.ty v h.0) (values-fit vars values h.1)

pub fits-long : (kinds : List KindData) (values : List Value) → fits kinds values ≡ true → length values ≡ length kinds
fits-long [] [] h = refl
fits-long [] (v ∷ values) h = absurd (cc)
fits-long (k ∷ kinds) [] h = absurd (cc)
fits-long (k ∷ kinds) (v ∷ values) h = let rest = fits-long kinds values (right_true (fits_one k v) (fits kinds values) h) in omega (arith, rest)

pub fits-apart : (kinds : List KindData) (values : List Value) → (length kinds ≡ length values → ⊥) → fits kinds values ≡ false
fits-apart kinds values apart = by (fits kinds values) refl
  where
    by : (b : Bool) → fits kinds values ≡ b → b ≡ false
    by true e = absurd (apart (sym (fits-long kinds values e)))
    by false e = refl

-- ---- a step of its own

-- what a step gives where the memories and instances are these
abbrev given_with : List ObcType → Machine → Known → List Mem → List (List ℕ × List ℕ) → Memory → List Value → List Value
given_with types m known mems insts kept inputs =
    let s : State = record {
      values = all_given (var_names m.inputs) inputs
          (all_given (var_names (m.outputs ++ m.vars)) (map (λ (x : Var). first_value types x.ty) (m.outputs ++ m.vars))
          (all_given (mem_names mems) (values_in kept) (λ x. Absent)));
      memories = all_given (inst_names insts) (listed (inner_of kept)) (λ i. empty);
    } in
    map (after types (of_instance known insts) m.step s).values (var_names m.outputs)

-- without memories and instances neither the memory nor other machines count
pub outputs-alone : (types : List ObcType) (m : Machine) (known : Known) (kept : Memory) (inputs : List Value) → m.mems ≡ [] → m.insts ≡ [] → ((behaviour types known m).step kept inputs).outputs ≡ outputs_of types m inputs
outputs-alone types m known kept inputs mems insts =
    (λ i. given_with types m known (mems i) (insts i) kept inputs)
    ∙ sym (λ i. given_with types m unknown (mems i) (insts i) empty inputs)

pub outputs-long : (types : List ObcType) (m : Machine) (inputs : List Value) → length (outputs_of types m inputs) ≡ length (kinds_in [] m.outputs)
outputs-long types m inputs =
    let s : State = after types (of_instance unknown m.insts) m.step (before types m empty inputs) in
    length-map (var_names m.outputs) s.values ∙ length-map m.outputs (λ (x : Var). x.name) ∙ sym (length-map m.outputs (λ (x : Var). unwrap_or (kind_of [] x.ty) Bools))
