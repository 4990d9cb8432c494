-- Blocks that have been entered, and parts of lists as elements.
use Rattle.std.specs.Prelude.{ℕ, List, ◌++◌}
use Rattle.hp_base.specs.declared.span.Span.{Span}
use Rattle.hp_tree.specs.declared.block.Trans.{Trans}
use Rattle.hp_tree.specs.Blocks.{Decl, Block, block, Arm, States, eqns_of}
use Rattle.hp_automata.specs.declared.new_names.Word.TheVariants.{Weak}
use Rattle.hp_automata.specs.Renaming.{renamed_decls}
use Rattle.hp_automata.specs.Lowering.{Types, Enumerations, declaring, Frame, transition_locals, weak_eqns, frame_locals, frame_eqns, all_kept, lowered_block, lowered_eqns, lowered_states}

abbrev pub locals_of : Block → List Decl
locals_of (block ds es) = ds

-- the types in a block
abbrev pub declared_in : Types → Block → Types
declared_in types (block ds es) = declaring types ds

module _ (enums : Enumerations) (to : List ℕ → List ℕ) (types : Types) where
  -- a block whose variables are in scope
  abbrev pub lowered_inside : ℕ → Span → List (List ℕ) → Block → Block
  lowered_inside d s xs (block ds es) = block (renamed_decls to ds) (eqns_of (lowered_eqns enums to types d es ++ all_kept to s xs (block ds es)))

  abbrev pub lowered_arm : ℕ → List (List ℕ) → Arm → Arm
  lowered_arm d xs a = record { cons = a.cons; body = lowered_block enums to types d a.span xs a.body; span = a.span }

  abbrev pub frame_block : Frame → States → Block
  frame_block f ss = block (frame_locals types f ss) (eqns_of (frame_eqns enums to types f ++ lowered_states enums to types f 0 ss))

  -- the body of a state whose names stand for their values there, and whose variables are in scope
  abbrev pub body_inside : ℕ → Frame → ℕ → Block → List Trans → Block
  body_inside d f k (block ds es) until =
      block (renamed_decls to ds ++ transition_locals f Weak k 0 until)
      (eqns_of (weak_eqns to f k until ++ (lowered_eqns enums to types d es ++ all_kept to f.at f.names (block ds es))))
