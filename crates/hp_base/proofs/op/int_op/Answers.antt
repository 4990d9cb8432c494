use Rattle.std.proofs.Common.{◌≡◌, sym, ap, ◌∙◌}
use Rattle.std.proofs.lemmas.Int.{wrapping_add_is, wrapping_sub_is}
use Rattle.std.specs.Int.{w32}
use Rattle.hp_base.specs.Arithmetic.{arithmetic}
use Rattle.hp_base.proofs.op.int_op.Goals as goal

pub returns-in-Add : goal.returns-in-Add
returns-in-Add c =
    wrapping_add_is w32 _ _ c.ranges.a c.ranges.b ∙ sym (ap (λ op. arithmetic op c.args.a c.args.b) c.in-Add.is)

pub returns-in-Sub : goal.returns-in-Sub
returns-in-Sub c =
    wrapping_sub_is w32 _ _ c.ranges.a c.ranges.b ∙ sym (ap (λ op. arithmetic op c.args.a c.args.b) c.in-Sub.is)
