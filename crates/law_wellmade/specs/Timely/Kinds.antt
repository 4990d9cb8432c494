-- The kinds of the inputs and outputs of nodes.
use Rattle.std.specs.Prelude.{ℕ, suc, List, [], ◌∷◌, map, if◌then◌else◌, None, Some}
use Rattle.std.specs.Str.{bytes_eq}
use Rattle.hp_base.specs.Kinds.{KindData, Bools, Ints, Constructors}
use Rattle.hp_base.specs.declared.ty.Ty.{Ty}
use Rattle.hp_base.specs.declared.ty.Ty.TheVariants as ty
use Rattle.hp_tree.specs.declared.program.Item.{Item}
use Rattle.hp_tree.specs.Blocks.{Decl}
use Rattle.hp_tree.specs.Meaning.{node_among}
use Rattle.hp_tree.specs.Programs.{TypeDecl}

-- the kind of the declared type of this name, where the first type is number t; a name that no type has stands for no constructor
abbrev pub declared_kind : ℕ → List TypeDecl → List ℕ → KindData
declared_kind t [] x = Constructors t []
declared_kind t (d ∷ types) x = if bytes_eq d.name x then Constructors t d.cons else declared_kind (suc t) types x

abbrev pub kind_of : List TypeDecl → Ty → KindData
kind_of types ty.Bool = Bools
kind_of types ty.Int = Ints
kind_of types (ty.Enum x) = declared_kind 0 types x

abbrev pub kinds_of_decls : List TypeDecl → List Decl → List KindData
kinds_of_decls types ds = map (λ (d : Decl). kind_of types d.ty) ds

-- the kinds of what the node of a name takes, among items with the last one first
abbrev pub takes_among : List TypeDecl → List Item → List ℕ → List KindData
takes_among types items f = elim (node_among items f) [ None ↦ [] | Some n ↦ kinds_of_decls types n.inputs ]
