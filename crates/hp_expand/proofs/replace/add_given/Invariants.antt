use Rattle.std.proofs.Common.{◌≡◌, drop, map}
use Rattle.hp_tree.specs.BlockView.{eqn_seen}
use Rattle.hp_tree.specs.Expressions.{exprs_of}
use Rattle.hp_expand.specs.Renaming.{renamed_decls}
use Rattle.hp_expand.specs.Replacing.{given}
use Rattle.hp_expand.specs.Layers.{said}
use Rattle.hp_expand.specs.Making.{with_more}
use Rattle.hp_expand.proofs.replace.add_given.Given as goal

abbrev pub invariant-loop-i : goal.invariant-loop-i
invariant-loop-i l =
    with_more (map eqn_seen l.into.items) (given (renamed_decls (said l.naming) (drop l.i l.inputs)) (exprs_of (drop l.i l.args)))
    ≡ with_more (map eqn_seen l.initial.into.items) (given (renamed_decls (said l.naming) l.inputs) (exprs_of l.args))
