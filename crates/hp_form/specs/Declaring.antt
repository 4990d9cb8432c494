-- Names that are declared one behind the other.
use Rattle.std.specs.Prelude.{◌≡◌, ◌≤◌, ℕ, Bool, true, false, None, Some, List, [], ◌∷◌, ◌++◌, map, IsSome}
use Rattle.hp_obc.specs.declared.machine.Var.{Var}
use Rattle.hp_obc.specs.declared.machine.Mem.{Mem}
use Rattle.hp_obc.specs.Machines.{ObcType, Machine}
use Rattle.hp_obc.specs.Steps.{var_names, inst_names}
use Rattle.std.specs.List.{All}
use Rattle.hp_obc.specs.Values.{kind_of}
use Rattle.hp_obc.specs.Form.{is_name, is_constructor, has_name, constant_kind, BothAre, AreNames, machine_named, depth, HaveForm}
use Rattle.hp_base.specs.Known.Known.{lookup}

-- the names of entries
abbrev pub keys : {A : Type 0} → List (List ℕ × A) → List (List ℕ)
keys es = map (λ e. e.0) es

-- Each thing is as it should be behind the names that were there and those of the things before it.
module _ {B : Type 0} (name : B → List ℕ) (P : List (List ℕ) → B → Type 0) where
  abbrev pub Each : List (List ℕ) → List B → Type 0
  Each olds [] = Unit {0}
  Each olds (b ∷ bs) = P olds b × Each (olds ++ name b ∷ []) bs

-- A name is spelled as it should be, and is none of the others.
abbrev pub IsNew : (List ℕ → Bool) → List (List ℕ) → List ℕ → Type 0
IsNew spelled olds x = (spelled x ≡ true) × (has_name olds x ≡ false)

abbrev pub TypeIsNew : List (List ℕ) → ObcType → Type 0
TypeIsNew olds t = IsNew is_name olds t.name

abbrev pub TypesAreNew : List (List ℕ) → List ObcType → Type 0
TypesAreNew olds types = Each (λ (t : ObcType). t.name) TypeIsNew olds types

abbrev pub ConstructorsAreNew : List (List ℕ) → List (List ℕ) → Type 0
ConstructorsAreNew olds xs = Each (λ (x : List ℕ). x) (IsNew is_constructor) olds xs

-- a variable and a memory
abbrev pub VarForm : List ObcType → List (List ℕ) → Var → Type 0
VarForm types olds v = IsNew is_name olds v.name × IsSome (kind_of types v.ty)

abbrev pub VarsForm : List ObcType → List (List ℕ) → List Var → Type 0
VarsForm types olds vars = Each (λ (v : Var). v.name) (VarForm types) olds vars

abbrev pub MemForm : List ObcType → List (List ℕ) → Mem → Type 0
MemForm types olds m = IsNew is_name olds m.name × BothAre (kind_of types m.ty) (constant_kind types m.first)

abbrev pub MemsForm : List ObcType → List (List ℕ) → List Mem → Type 0
MemsForm types olds mems = Each (λ (m : Mem). m.name) (MemForm types) olds mems

-- Names differ from those before them.
abbrev pub AreApart : List (List ℕ) → List (List ℕ) → Type 0
AreApart olds xs = Each (λ (x : List ℕ). x) (λ olds x. has_name olds x ≡ false) olds xs

-- Instances are new, and their machines known.
abbrev pub InstsKnown : List (List ℕ × Machine) → List (List ℕ) → List (List ℕ × List ℕ) → Type 0
InstsKnown earlier olds insts = Each (λ (i : List ℕ × List ℕ). i.0) (λ olds i. IsNew is_name olds i.0 × IsSome (lookup earlier i.1)) olds insts

-- one more instance, where its machine is known
abbrev pub with_inst : List (List ℕ × Machine) → List (List ℕ × Machine) → List ℕ × List ℕ → List (List ℕ × Machine)
with_inst earlier known i = elim (lookup earlier i.1) [ None ↦ known | Some m ↦ known ++ (i.0, m) ∷ [] ]

abbrev pub with_insts : List (List ℕ × Machine) → List (List ℕ × Machine) → List (List ℕ × List ℕ) → List (List ℕ × Machine)
with_insts earlier known [] = known
with_insts earlier known (i ∷ insts) = with_insts earlier (with_inst earlier known i) insts

-- The variables and memories of a machine are new, and of kinds.
pub record NamesForm (types : List ObcType) (m : Machine) : Type 0 where
  pub inputs : VarsForm types [] m.inputs
  pub outputs : VarsForm types (var_names m.inputs) m.outputs
  pub vars : VarsForm types (var_names m.inputs ++ var_names m.outputs) m.vars
  pub mems : MemsForm types (var_names m.inputs ++ (var_names m.outputs ++ var_names m.vars)) m.mems

-- What a machine declares has form behind earlier machines.
pub record DeclaredForm (types : List ObcType) (earlier : List Machine) (m : Machine) : Type 0 where
  pub names : NamesForm types m
  pub insts : AreNames (inst_names m.insts)
  pub insts_known : All (λ (i : List ℕ × List ℕ). IsSome (machine_named earlier i.1)) m.insts

-- So have its commands.
abbrev pub StepForm : List ObcType → List Machine → Machine → Type 0
StepForm types earlier m = (depth m.step ≤ 300) × HaveForm types earlier m m.step
