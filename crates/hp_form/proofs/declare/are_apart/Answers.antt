use Rattle.std.proofs.Common.{sym, subst}
use Rattle.std.specs.Prelude.{◌↔◌}
use Rattle.std.specs.List.{IsDistinct}
use Rattle.std.specs.Str.{bytes_eq}
use Rattle.hp_form.specs.Declaring.{keys, AreApart}
use Rattle.hp_form.proofs.EachLaws.{apart_law}
use Rattle.hp_form.proofs.declare.are_apart.Goals as goal

pub loop-name-init : goal.loop-name-init
loop-name-init c = subst (λ z. AreApart (keys z) c.args.names.now ↔ IsDistinct bytes_eq c.args.names.now) (sym c.new-known.ensures) (apart_law c.args.names.now)
