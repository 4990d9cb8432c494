use Rattle.std.proofs.Common.{◌+◌, [], ◌∷◌, if◌then◌else◌, drop, sym, ap, ◌∙◌}
use Rattle.hp_tables.specs.Defining.Names.{undeclared}
use Rattle.hp_tables.specs.Defining.Seen.{names_seen, with_more}
use Rattle.hp_tables.proofs.DefiningLemmas.NameLaws.{names-undeclared}
use Rattle.hp_tables.proofs.defining.names.add_undeclared.Goals as goal

pub loop-i-preserved : goal.loop-i-preserved
loop-i-preserved c =
    let names = c.args.names.now in
    let i = c.loop-i.i in
    let name = c.index-names-i.result in
    let before = names_seen c.loop-i.into.items in
    let rest = undeclared c.args.decls.now (names_seen (drop (i + 1) names)) in
    ap (λ made. with_more made rest) (c.in_ok-add_unknown.ensures ∙ ap (λ known. if known name.now then before else with_more before (name.now ∷ [])) c.in_ok-known.ensures)
    ∙ sym (names-undeclared before c.args.decls.now names i name c.loop-i-test.true c.index-names-i.is)
    ∙ c.loop-i.invariant
