use Rattle.std.proofs.Common.{◌≡◌, ◌++◌, drop}
use Rattle.hp_past.specs.Unfolding.{in_items, number_behind}
use Rattle.hp_past.proofs.programs.unfold_items.Given as goal

abbrev pub invariant-loop-item : goal.invariant-loop-item
invariant-loop-item l =
    record {
      items : l.others.items ++ in_items l.text.formulas l.text.names (drop l.item-index l.items) l.next ≡ in_items l.text.formulas l.text.names l.items l.initial.next;
      next : number_behind l.text.formulas l.text.names (drop l.item-index l.items) l.next ≡ number_behind l.text.formulas l.text.names l.items l.initial.next;
    }
