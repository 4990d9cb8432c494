-- Parts of lists under other names, as plain lists.
use Rattle.std.specs.Prelude.{ℕ, List, map}
use Rattle.hp_tree.specs.Blocks.{Arm, State}
use Rattle.hp_expand.specs.Renaming.{renamed_block, renamed_transition}

abbrev pub renamed_arm : (List ℕ → List ℕ) → Arm → Arm
renamed_arm to a = record { cons = a.cons; body = renamed_block to a.body; span = a.span }

abbrev pub renamed_state : (List ℕ → List ℕ) → State → State
renamed_state to q = record {
  name = q.name;
  body = renamed_block to q.body;
  until = map (renamed_transition to) q.until;
  unless = map (renamed_transition to) q.unless;
  span = q.span;
}
