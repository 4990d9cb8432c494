use Rattle.std.proofs.Common.{◌≡◌, ◌-◌, length, drop, ap, ◌∙◌, arith}
use Rattle.hp_clocks.specs.Layers.{put_at, says, says_locals}
use Rattle.hp_clocks.proofs.TableLaws.{locals_end, locals_next}
use Rattle.hp_clocks.proofs.layer.Layer.of_locals.Goals as goal

pub loop-i-init : goal.loop-i-init
loop-i-init c =
    let decls = c.args.decls.now in
    record { within = omega arith; named = c.new-layer.ensures ∙ locals_end (says c.args.controls.now) (says c.args.numbers.now) decls (length decls) (omega arith) }

pub loop-i-preserved : goal.loop-i-preserved
loop-i-preserved c =
    let decls = c.args.decls.now in
    let decl = c.index-decls-i.result in
    let i = c.loop-i.i - 1 in
    let f = says c.args.controls.now in
    let g = says c.args.numbers.now in
    let name_is : c.bytes.result.now ≡ decl.name = cc in
    record {
      within = omega arith;
      named = c.in_ok-put.ensures
          ∙ ap (λ h. put_at h c.bytes.result.now c.cell_by.result) c.loop-i.invariant.named
          ∙ ap (λ name. put_at (says_locals f g (drop c.loop-i.i decls)) name c.cell_by.result) name_is
          ∙ ap (λ cell. put_at (says_locals f g (drop c.loop-i.i decls)) decl.name cell) c.cell_by.ensures
          ∙ locals_next f g decls i c.loop-i.i decl (omega arith) (omega arith) c.index-decls-i.is;
    }

pub returns : goal.returns
returns c =
    let none : c.loop-i.i ≡ 0 = omega arith in
    c.loop-i.invariant.named ∙ ap (λ i. says_locals (says c.args.controls.now) (says c.args.numbers.now) (drop i c.args.decls.now)) none
