use Rattle.std.proofs.Common.{ap, ◌∙◌}
use Rattle.hp_tree.specs.Blocks.{Decl}
use Rattle.hp_typing.specs.Uses.{how}
use Rattle.hp_typing.proofs.DefinedLaws.{variables-step}
use Rattle.hp_typing.proofs.definitions.check_variables.Goals as goal

pub loop-decl-preserved : goal.loop-decl-preserved
loop-decl-preserved c =
    variables-step (how c.args.uses.now) c.args.decls.now c.loop-decl.decl-index c.decl-item.result c.loop-decl-test.true c.decl-item.is c.of.result c.bytes.result.now
    c.of.ensures (c.bytes.ensures.bytes ∙ ap (λ (d : Decl). d.name) c.decl.view_is) c.loop-decl.found c.check_variable.new.found _ c.check_variable.ensures c.loop-decl.invariant
