-- Machines whose runs are known, and one that has no form.
use Rattle.std.proofs.Common.{◌≡◌, ℕ, zero, suc, true, false, pos, List, [], ◌∷◌, codes, IsTrue, IsSome, refl, sym, subst, arith, rules}
use Rattle.std.specs.List.{All, IsDistinct}
use Rattle.std.specs.Int.{int_wrap}
use Rattle.hp_base.specs.declared.value.Value.{Value}
use Rattle.hp_base.specs.declared.value.Value.TheVariants.{B, E, I}
use Rattle.hp_obc.specs.declared.command.Arg.TheVariants.{Name as NameArg, Const as ConstArg}
use Rattle.hp_base.specs.declared.ty.Const.TheVariants.{B as BoolConst, I as IntConst, E as EnumConst}
use Rattle.hp_obc.specs.declared.command.ObcOp.TheVariants.{Copy, Not, Add}
use Rattle.hp_base.specs.declared.ty.Ty.TheVariants.{Bool as BoolTy, Int as IntTy, Enum as EnumTy}
use Rattle.hp_obc.specs.declared.machine.Mem.{Mem}
use Rattle.hp_obc.specs.Commands.{Cmds, done, and_then, set, call, restart, case_of, no_arm, more_arms}
use Rattle.hp_obc.specs.Machines.{ObcType, Machine, Obc}
use Rattle.hp_obc.specs.Steps.{machine_behaviour, run}
use Rattle.hp_obc.specs.Form.{machine_named, MachineForm, HasForm, BothAre, constant_kind, is_name, is_constructor, HasConstructors, HasObcForm}
use Rattle.hp_obc.specs.Values.{kind_of}

abbrev yes : List Value
yes = B true ∷ []

abbrev no : List Value
no = B false ∷ []

-- ---- a delay: what was taken is given one step later

abbrev pub delay : Machine
delay = record {
  name = codes "f";
  inputs = record { name = codes "x"; ty = BoolTy } ∷ [];
  outputs = record { name = codes "y"; ty = BoolTy } ∷ [];
  vars = [];
  mems = record { name = codes "m"; ty = BoolTy; first = BoolConst false } ∷ [];
  insts = [];
  step = and_then (set (codes "y") Copy (NameArg (codes "m") ∷ [])) (and_then (set (codes "m") Copy (NameArg (codes "x") ∷ [])) done);
}

abbrev delays : Obc
delays = record { types = []; machines = delay ∷ [] }

pub delay_runs : run (machine_behaviour delays (codes "f")) (yes ∷ no ∷ yes ∷ []) ≡ no ∷ yes ∷ no ∷ []
delay_runs = refl

-- the other way round the memory is written before it is read
abbrev hasty : Machine
hasty = record {
  name = codes "f";
  inputs = record { name = codes "x"; ty = BoolTy } ∷ [];
  outputs = record { name = codes "y"; ty = BoolTy } ∷ [];
  vars = [];
  mems = record { name = codes "m"; ty = BoolTy; first = BoolConst false } ∷ [];
  insts = [];
  step = and_then (set (codes "m") Copy (NameArg (codes "x") ∷ [])) (and_then (set (codes "y") Copy (NameArg (codes "m") ∷ [])) done);
}

pub hasty_runs : run (machine_behaviour (record { types = []; machines = hasty ∷ [] }) (codes "f")) (yes ∷ no ∷ yes ∷ []) ≡ yes ∷ no ∷ yes ∷ []
hasty_runs = refl

-- ---- a counter, and a machine that restarts it: an output that no command sets holds the first constructor

abbrev counter : Machine
counter = record {
  name = codes "count";
  inputs = [];
  outputs = record { name = codes "n"; ty = IntTy } ∷ [];
  vars = [];
  mems = record { name = codes "m"; ty = IntTy; first = IntConst (pos 0) } ∷ [];
  insts = [];
  step = and_then (set (codes "n") Copy (NameArg (codes "m") ∷ [])) (and_then (set (codes "m") Add (NameArg (codes "m") ∷ ConstArg (IntConst (pos 1)) ∷ [])) done);
}

abbrev counting : Cmds
counting = and_then (call (codes "c") (codes "n" ∷ []) []) done

abbrev restarter : Machine
restarter = record {
  name = codes "f";
  inputs = record { name = codes "r"; ty = BoolTy } ∷ [];
  outputs = record { name = codes "n"; ty = IntTy } ∷ record { name = codes "s"; ty = EnumTy (codes "st") } ∷ [];
  vars = [];
  mems = [];
  insts = (codes "c", codes "count") ∷ [];
  step = and_then (case_of (codes "r") (more_arms counting (more_arms
      (and_then (restart (codes "c")) (and_then (set (codes "s") Copy (ConstArg (EnumConst (codes "Off")) ∷ [])) counting))
      no_arm))) done;
}

abbrev counts : Obc
counts = record {
  types = record { name = codes "st"; cons = codes "On" ∷ codes "Off" ∷ [] } ∷ [];
  machines = counter ∷ restarter ∷ [];
}

pub counter_runs : run (machine_behaviour counts (codes "f")) (no ∷ no ∷ yes ∷ no ∷ [])
    ≡ (I (pos 0) ∷ E 0 0 ∷ []) ∷ (I (pos 1) ∷ E 0 0 ∷ []) ∷ (I (pos 0) ∷ E 0 1 ∷ []) ∷ (I (pos 1) ∷ E 0 0 ∷ []) ∷ []
unfolding int_wrap
counter_runs = refl

-- ---- form

all_none : {X : Type 0} (P : X → Type 0) → All P []
all_none P k d h = absurd (omega (arith, h))

all_more : {X : Type 0} (P : X → Type 0) (x : X) (xs : List X) → P x → All P xs → All P (x ∷ xs)
all_more P x xs p ps zero d h = p
all_more P x xs p ps (suc k) d h = ps k d (omega (arith, h))

abbrev is_named : List ℕ → Type 0
is_named x = IsTrue (is_name x)

-- the delay has form
pub delay_form : MachineForm [] [] delay
unfolding IsDistinct
delay_form = record {
  name = refl;
  new = refl;
  names = (all_more is_named (codes "x") (codes "y" ∷ codes "m" ∷ []) refl (all_more is_named (codes "y") (codes "m" ∷ []) refl (all_more is_named (codes "m") [] refl (all_none is_named))), search rules);
  kinds = refl;
  firsts = all_more (λ (x : Mem). BothAre (kind_of [] x.ty) (constant_kind [] x.first)) (record { name = codes "m"; ty = BoolTy; first = BoolConst false }) [] (refl, refl) (all_none _);
  instances = (all_none _, search rules);
  instances_known = all_none _;
  commands = ((refl, refl), ((refl, refl), tt));
  deep = omega arith;
}

-- a name that is not declared
pub unknown_has_no_form : HasForm [] [] delay (set (codes "y") Copy (NameArg (codes "q") ∷ [])) → ⊥
unknown_has_no_form h = let e = h.1 in cc

-- an input is not set
pub input_is_not_set : HasForm [] [] delay (set (codes "x") Copy (NameArg (codes "y") ∷ [])) → ⊥
input_is_not_set h = let e = h.0 in cc

-- a file of nothing has form
pub empty_form : HasObcForm [] []
unfolding IsDistinct
empty_form = (
  record {
    number = omega arith;
    names = (all_none is_named, tt);
    counts = all_none HasConstructors;
    constructors = all_none (λ x. IsTrue (is_constructor x));
    distinct = tt;
  },
  tt,
)

-- a file of the delay alone has form
pub delays_form : HasObcForm [] (delay ∷ [])
delays_form = (empty_form.0, (delay_form, tt))

pub delays_form_of : (types : List ObcType) (machines : List Machine) → types ≡ [] → machines ≡ delay ∷ [] → HasObcForm types machines
delays_form_of types machines h k = subst (λ ts. HasObcForm ts machines) (sym h) (subst (λ ms. HasObcForm [] ms) (sym k) delays_form)

pub empty_form_of : (types : List ObcType) (machines : List Machine) → types ≡ [] → machines ≡ [] → HasObcForm types machines
empty_form_of types machines h k = subst (λ ts. HasObcForm ts machines) (sym h) (subst (λ ms. HasObcForm [] ms) (sym k) empty_form)

-- ---- a negation, and a machine that calls it

abbrev pub negation : Machine
negation = record {
  name = codes "d";
  inputs = record { name = codes "x"; ty = BoolTy } ∷ [];
  outputs = record { name = codes "y"; ty = BoolTy } ∷ [];
  vars = [];
  mems = [];
  insts = [];
  step = and_then (set (codes "y") Not (NameArg (codes "x") ∷ [])) done;
}

abbrev pub caller : Machine
caller = record {
  name = codes "f";
  inputs = record { name = codes "x"; ty = BoolTy } ∷ [];
  outputs = record { name = codes "y"; ty = BoolTy } ∷ [];
  vars = [];
  mems = [];
  insts = (codes "i", codes "d") ∷ [];
  step = and_then (call (codes "i") (codes "y" ∷ []) (NameArg (codes "x") ∷ [])) done;
}

negation_form : MachineForm [] [] negation
unfolding IsDistinct
negation_form = record {
  name = refl;
  new = refl;
  names = (all_more is_named (codes "x") (codes "y" ∷ []) refl (all_more is_named (codes "y") [] refl (all_none is_named)), search rules);
  kinds = refl;
  firsts = all_none _;
  instances = (all_none _, search rules);
  instances_known = all_none _;
  commands = ((refl, refl), tt);
  deep = omega arith;
}

caller_form : MachineForm [] (negation ∷ []) caller
unfolding IsDistinct
caller_form = record {
  name = refl;
  new = refl;
  names = (all_more is_named (codes "x") (codes "y" ∷ []) refl (all_more is_named (codes "y") [] refl (all_none is_named)), search rules);
  kinds = refl;
  firsts = all_none _;
  instances = (all_more is_named (codes "i") [] refl (all_none is_named), search rules);
  instances_known = all_more (λ (i : List ℕ × List ℕ). IsSome (machine_named (negation ∷ []) i.1)) (codes "i", codes "d") [] refl (all_none _);
  commands = ((negation, refl, record { arguments = (refl, refl); outputs = (refl, refl); once = search rules }), tt);
  deep = omega arith;
}

pub calls_form_of : (types : List ObcType) (machines : List Machine) → types ≡ [] → machines ≡ negation ∷ caller ∷ [] → HasObcForm types machines
calls_form_of types machines h k =
    subst (λ ts. HasObcForm ts machines) (sym h) (subst (λ ms. HasObcForm [] ms) (sym k) (empty_form.0, (negation_form, (caller_form, tt))))

-- a case over a Boolean that lacks its second arm
pub lacking_arm_has_no_form : HasForm [] [] delay (case_of (codes "x") (more_arms done no_arm)) → ⊥
lacking_arm_has_no_form h = let e = h.0 in cc

-- a value of another kind
pub wrong_kind_has_no_form : HasForm [] [] delay (set (codes "y") Copy (ConstArg (IntConst (pos 0)) ∷ [])) → ⊥
wrong_kind_has_no_form h = let e = h.1 in cc

-- an instance that is not declared
pub unknown_instance_has_no_form : HasForm [] [] delay (restart (codes "c")) → ⊥
unknown_instance_has_no_form h = cc

-- an output that a call gives twice
pub twice_has_no_form : HasForm counts.types (counter ∷ []) restarter (call (codes "c") (codes "n" ∷ codes "n" ∷ []) []) → ⊥
twice_has_no_form h = let e = h.1 in let f = h.2.outputs.1 in cc
