use Rattle.std.proofs.Common.{◌≡◌, ◌+◌, drop}
use Rattle.hp_expand.specs.Numbering.{new_in_decls}
use Rattle.hp_expand.specs.Layers.{says, numbers_from, no_number}
use Rattle.hp_expand.proofs.names.Layer.declaring.Given as goal

abbrev pub invariant-loop-decl : goal.invariant-loop-decl
invariant-loop-decl l =
    record {
      numbers : numbers_from (says l.layer) l.next (drop l.decl-index l.decls) ≡ numbers_from no_number l.initial.next l.decls;
      next : l.next + new_in_decls (drop l.decl-index l.decls) ≡ l.initial.next + new_in_decls l.decls;
    }
