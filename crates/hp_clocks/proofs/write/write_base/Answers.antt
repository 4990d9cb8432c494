use Rattle.std.proofs.Common.{◌∙◌, length}
use Rattle.hp_clocks.proofs.Turned.{plain_ended, at_end}
use Rattle.hp_clocks.proofs.WriteLaws.{on_base_written, same_left, base_each}
use Rattle.hp_clocks.proofs.write.write_base.Goals as goal

pub returns : goal.returns
returns c =
    plain_ended on_base_written same_left c.args.decls.now tt c.loop-decl.decls c.loop-decl.decl-index tt c.loop-decl.invariant
    (at_end c.loop-decl.decl-index (length c.loop-decl.decls) (length c.args.decls.now) c.loop-decl-test.false c.loop-decl.auto.decls)
    ∙ base_each c.args.decls.now tt
