use Rattle.std.proofs.Common.{ap, ◌∙◌}
use Rattle.hp_tree.specs.Blocks.{Decl}
use Rattle.hp_typing.specs.Uses.{how}
use Rattle.hp_typing.proofs.DefinedLaws.{others-step}
use Rattle.hp_typing.proofs.definitions.check_others.Goals as goal

pub loop-decl-preserved : goal.loop-decl-preserved
loop-decl-preserved c =
    others-step (how c.args.uses.now) c.args.decls.now c.loop-decl.decl-index c.decl-item.result c.loop-decl-test.true c.decl-item.is c.of.result c.bytes.result.now
    c.of.ensures (c.bytes.ensures.bytes ∙ ap (λ (d : Decl). d.name) c.decl.view_is) c.loop-decl.found c.check_other.new.found _ c.check_other.ensures c.loop-decl.invariant
