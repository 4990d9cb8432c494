-- What the code knows of names, as the rules of form speak of it.
use Rattle.std.specs.Prelude.{Option, None, Some}
use Rattle.hp_base.specs.declared.ty.Ty.{Ty}
use Rattle.hp_base.specs.declared.ty.Ty.TheVariants.{Bool as BoolTy, Int as IntTy, Enum as EnumTy}
use Rattle.hp_obctext.specs.declared.names.Types.{Types}
use Rattle.hp_obctext.specs.declared.names.Names.{Names}
use Rattle.hp_obctext.specs.declared.names.Kind.{Kind}
use Rattle.hp_obctext.specs.declared.names.Kind.TheVariants as kind
use Rattle.hp_obctext.specs.Rules as rules

abbrev pub types_seen : Types → rules.Types
types_seen t = record { names = t.names; cons = t.cons }

abbrev pub names_seen : Names → rules.Context
names_seen n = record { types = types_seen n.types.now; vars = n.vars; written = n.written; insts = n.insts }

abbrev pub kind_seen : Kind → Ty
kind_seen kind.Bool = BoolTy
kind_seen kind.Int = IntTy
kind_seen (kind.Enum x) = EnumTy x.now

abbrev pub maybe_kind_seen : Option Kind → Option Ty
maybe_kind_seen None = None
maybe_kind_seen (Some k) = Some (kind_seen k)
