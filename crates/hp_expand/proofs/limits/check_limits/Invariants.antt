use Rattle.std.proofs.Common.{◌≡◌, ◌≤◌, drop}
use Rattle.hp_expand.specs.Counts.{in_items, limit_of}
use Rattle.hp_expand.specs.Tables.{size_in}
use Rattle.hp_expand.proofs.limits.check_limits.Given as goal

abbrev pub invariant-loop-item : goal.invariant-loop-item
invariant-loop-item l = record {
  within : l.total ≤ 1000000;
  found : in_items (size_in l.known) l.total (drop l.item-index l.items) ≡ limit_of l.items;
}
