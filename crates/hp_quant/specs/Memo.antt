-- What a pass over a diagram has found.
use Rattle.std.specs.Prelude.{◌≡◌, nat_eq, Some}
use Rattle.std.specs.HashMap.{get}
use Rattle.hp_diagram.specs.declared.reference.Ref.{Ref}
use Rattle.hp_quant.specs.declared.memo.Memo.{Memo}

-- s was found for r
abbrev pub Knows : Memo → Ref → Ref → Type 0
Knows m r s = get nat_eq m.known r.index ≡ Some s
