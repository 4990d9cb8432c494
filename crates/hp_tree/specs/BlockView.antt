-- What a block is seen as: one level, whose inner blocks are seen already.
use Rattle.std.specs.Prelude.{map}
use Rattle.hp_tree.specs.declared.block.Eqn.{Eqn}
use Rattle.hp_tree.specs.declared.block.Eqn.TheVariants.{Def, Switch, Reset, Automaton}
use Rattle.hp_tree.specs.declared.block.Arm.{Arm}
use Rattle.hp_tree.specs.declared.block.State.{State}
use Rattle.hp_tree.specs.declared.block.Block.TheInside.{Inside}
use Rattle.hp_tree.specs.Blocks as tree
use Rattle.hp_tree.specs.Blocks.{eqns_of, arms_of, states_of}

-- what an arm of the code is seen as
abbrev pub arm_seen : Arm → tree.Arm
arm_seen a = record { cons = a.cons; body = a.body; span = a.span }

-- a state, its transitions as plain lists
abbrev pub state_seen : State → tree.State
state_seen q = record { name = q.name; body = q.body; until = q.until.items; unless = q.unless.items; span = q.span }

-- an equation, its arms and states as the lists of a tree
abbrev pub eqn_seen : Eqn → tree.Eqn
eqn_seen (Def s xs e) = tree.define s xs.items e
eqn_seen (Switch s e arms) = tree.switch s e (arms_of (map arm_seen arms.items))
eqn_seen (Reset s b e) = tree.reset s b e
eqn_seen (Automaton s qs) = tree.automaton s (states_of (map state_seen qs.items))

-- a block, by its fields
abbrev pub block_seen : Inside → tree.Block
block_seen a = tree.block a.locals.items (eqns_of (map eqn_seen a.eqns.items))
