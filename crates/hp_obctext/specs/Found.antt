-- How the values of the arms of a case are found: for the private functions alone.
use Rattle.std.specs.Prelude.{ℕ, true, false, List, [], ◌∷◌, map, Option, None, Some}
use Rattle.hp_base.specs.declared.ty.Ty.{Ty}
use Rattle.hp_base.specs.declared.ty.Ty.TheVariants.{Bool as BoolTy, Enum as EnumTy}
use Rattle.hp_base.specs.declared.ty.Const.{Const}
use Rattle.hp_base.specs.declared.ty.Const.TheVariants.{B as BoolConst, E as EnumConst}
use Rattle.hp_obc.specs.declared.machine.Var.{Var}
use Rattle.hp_obc.specs.Form.{scope}
use Rattle.hp_obc.specs.Machines.{ObcType, Machine, Obc}
use Rattle.hp_base.specs.Known.Known.{lookup}
use Rattle.hp_obctext.specs.Files.{Text, File}
use Rattle.hp_obctext.specs.Labels.{text_by}
use Rattle.hp_obctext.specs.declared.labels.Labels.{Labels}
use Rattle.hp_obctext.specs.declared.labels.Labels.TheVariants.{Bools, Named, Nothing}
use Rattle.hp_obctext.specs.declared.scope.Scope.{Scope}

abbrev pub named : Option ObcType → List Const
named None = []
named (Some t) = map EnumConst t.cons

abbrev pub labels_for : List (List ℕ × ObcType) → Option Ty → List Const
labels_for types (Some BoolTy) = BoolConst false ∷ BoolConst true ∷ []
labels_for types (Some (EnumTy t)) = named (lookup types t)
labels_for types ty = []

-- the values of the kind of a name
abbrev pub labels_at : Scope → List ℕ → List Const
labels_at s x = labels_for s.types.now (lookup s.vars x)

-- what is known of variables and of types
abbrev pub var_entries : List Var → List (List ℕ × Ty)
var_entries vars = map (λ (v : Var). (v.name, v.ty)) vars

abbrev pub type_entries : List ObcType → List (List ℕ × ObcType)
type_entries types = map (λ (t : ObcType). (t.name, t)) types

-- the values of the kind of a name in a machine, and what the machine's text says
abbrev pub labels_known : List (List ℕ × ObcType) → Machine → List ℕ → List Const
labels_known types m x = labels_for types (lookup (var_entries (scope m)) x)

abbrev pub text_known : List (List ℕ × ObcType) → Machine → Text
text_known types m = text_by (labels_known types m) m

-- a file, where the types are known
abbrev pub file_known : List (List ℕ × ObcType) → Obc → File
file_known types o = record { types = o.types; machines = map (text_known types) o.machines }

-- what stands in a list of values for arms
abbrev pub labels_seen : Labels → List Const
labels_seen Bools = BoolConst false ∷ BoolConst true ∷ []
labels_seen (Named names) = map EnumConst names.now
labels_seen Nothing = []
