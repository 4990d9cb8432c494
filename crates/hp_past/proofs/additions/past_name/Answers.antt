use Rattle.std.proofs.Common.{arith}
use Rattle.hp_past.proofs.additions.past_name.Goals as goal

pub new-requires : goal.new-requires
new-requires c =
    omega (arith, c.deref.ensures.len, c.in_ok-extend_from_slice.ensures.len, c.in_ok-bytes.ensures.len, c.as_bytes.ensures.len, c.format.ensures.short)
