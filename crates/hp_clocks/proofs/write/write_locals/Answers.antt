use Rattle.std.proofs.Common.{◌∙◌, length}
use Rattle.hp_clocks.specs.Writing.{ahead}
use Rattle.hp_clocks.proofs.Turned.{plain_ended, plain_left, at_end}
use Rattle.hp_clocks.proofs.WriteLaws.{decl_written, decl_left, decls_each, decls_each_left}
use Rattle.hp_clocks.proofs.write.write_locals.Goals as goal

pub returns-clause-decls : goal.returns-clause-decls
returns-clause-decls c =
    plain_ended decl_written decl_left c.args.decls.now (ahead c.args.paths.now) c.loop-decl.decls c.loop-decl.decl-index (ahead c.loop-decl.paths) c.loop-decl.invariant
    (at_end c.loop-decl.decl-index (length c.loop-decl.decls) (length c.args.decls.now) c.loop-decl-test.false c.loop-decl.auto.decls)
    ∙ decls_each c.args.decls.now (ahead c.args.paths.now)

pub returns-clause-left : goal.returns-clause-left
returns-clause-left c =
    plain_left decl_written decl_left c.args.decls.now (ahead c.args.paths.now) c.loop-decl.decls c.loop-decl.decl-index (ahead c.loop-decl.paths) c.loop-decl.invariant
    (at_end c.loop-decl.decl-index (length c.loop-decl.decls) (length c.args.decls.now) c.loop-decl-test.false c.loop-decl.auto.decls)
    ∙ decls_each_left c.args.decls.now (ahead c.args.paths.now)
