use Rattle.std.proofs.Common.{◌≡◌, ◌+◌, [], ◌∷◌, drop, sym, ap, ◌∙◌}
use Rattle.hp_tree.specs.Meaning.{names_of}
use Rattle.hp_tables.specs.Defining.Seen.{names_seen, with_more}
use Rattle.hp_tables.proofs.DefiningLemmas.LayerLaws.{next-declared}
use Rattle.hp_tables.proofs.defining.layer.add_declared.Goals as goal

pub loop-decl-preserved : goal.loop-decl-preserved
loop-decl-preserved c =
    let i = c.loop-decl.decl-index in
    let decls = c.args.decls.now in
    let decl = c.decl-item.result in
    let before = names_seen c.loop-decl.into.items in
    let rest = names_of (drop (i + 1) decls) in
    let name_is : c.decl.inside.name ≡ decl.name = cc in
    ap (λ made. with_more made rest) (c.in_ok-push.ensures ∙ ap (λ name. with_more before (name ∷ [])) name_is)
    ∙ sym (next-declared before decls i decl c.loop-decl-test.true c.decl-item.is)
    ∙ c.loop-decl.invariant
