use Rattle.std.proofs.Common.{◌≡◌, ℕ, ◌+◌, ◌^◌, ◌<◌, Bool, true, false, if◌then◌else◌, arith}
use Rattle.hp_diagram.proofs.Growth.{Stores-from_insert}
use Rattle.hp_diagram.proofs.table.place_of.Goals as goal

place_small : (new : Bool) (before after place : ℕ) → after ≡ before + (if new then 1 else 0) → before < 2 ^ 63 → place < after → place < 2 ^ 63
place_small true before after place e small within = omega arith
place_small false before after place e small within = omega arith

pub returns-clause-ok : goal.returns-clause-ok
returns-clause-ok c =
    let e = c.in_ok-place.ensures in
    let small = place_small c.in_ok-place.field-0-1 _ _ c.in_ok-place.place e.len (omega (arith, c.len-count.ensures.len, c.len-count.ensures.small)) e.within in
    Stores-from_insert _ _ c.args.node c.in_ok-place.place e.keys e.index e.stored small
