use Rattle.std.proofs.Common.{◌≡◌, ◌+◌, drop, sym, ap, ◌∙◌}
use Rattle.hp_clocks.specs.Layers.{put_at, says, says_based}
use Rattle.hp_clocks.proofs.TableLaws.{based_next, based_end}
use Rattle.hp_clocks.proofs.layer.Layer.add_based.Goals as goal

pub loop-decl-preserved : goal.loop-decl-preserved
loop-decl-preserved c =
    let decls = c.args.decls.now in
    let i = c.loop-decl.decl-index in
    let decl = c.decl-item.result in
    let name_is : c.bytes.result.now ≡ decl.name = cc in
    ap (λ f. says_based (drop (i + 1) decls) f) (c.in_ok-put.ensures ∙ ap (λ name. put_at (says c.loop-decl.self) name 0) name_is)
    ∙ based_next (says c.loop-decl.self) decls i decl c.loop-decl-test.true c.decl-item.is ∙ c.loop-decl.invariant

pub returns : goal.returns
returns c = sym (based_end (says c.loop-decl.self) c.args.decls.now c.loop-decl.decl-index c.loop-decl-test.false) ∙ c.loop-decl.invariant
