use Rattle.std.proofs.Common.{◌≡◌, ◌≤◌, length, ◌∙◌, arith}
use Rattle.hp_tables.specs.Defining.Seen.{holds}
use Rattle.hp_tables.proofs.DefiningLemmas.NameLaws.{known-step, known-all}
use Rattle.hp_tables.proofs.defining.names.declared.Goals as goal

pub loop-decl-preserved : goal.loop-decl-preserved
loop-decl-preserved c =
    let d = c.decl-item.result in
    let name : c.bytes.result.now ≡ d.name = cc in
    known-step c.args.decls.now c.loop-decl.decl-index d (holds c.loop-decl.names) (holds c.add_known.new.names) c.bytes.result.now c.loop-decl-test.true c.decl-item.is name c.in_ok-add_known.ensures
    ∙ c.loop-decl.invariant

pub returns : goal.returns
returns c =
    let end : length c.args.decls.now ≤ c.loop-decl.decl-index = omega arith in
    known-all c.args.decls.now c.loop-decl.decl-index (holds c.loop-decl.names) end ∙ c.loop-decl.invariant
