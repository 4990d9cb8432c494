use Rattle.std.proofs.Common.{◌≡◌, ◌+◌, ◌-◌, length, drop, ap, ◌∙◌, arith}
use Rattle.hp_clocks.specs.Units.{number_in}
use Rattle.hp_clocks.specs.Layers.{put_at}
use Rattle.hp_clocks.proofs.TableLaws.{numbers_end, numbers_next}
use Rattle.hp_clocks.proofs.layer.Layer.numbered.Goals as goal

pub loop-i-init : goal.loop-i-init
loop-i-init c =
    let decls = c.args.decls.now in
    record { within = omega arith; numbers = c.new-layer.ensures ∙ numbers_end c.args.first decls (length decls) (omega arith) }

pub loop-i-preserved : goal.loop-i-preserved
loop-i-preserved c =
    let decls = c.args.decls.now in
    let decl = c.index-decls-i.result in
    let i = c.loop-i.i - 1 in
    let number = c.args.first + i in
    let name_is : c.bytes.result.now ≡ decl.name = cc in
    record {
      within = omega arith;
      numbers = c.in_ok-put.ensures
          ∙ ap (λ f. put_at f c.bytes.result.now number) c.loop-i.invariant.numbers
          ∙ ap (λ name. put_at (number_in (c.args.first + c.loop-i.i) (drop c.loop-i.i decls)) name number) name_is
          ∙ numbers_next c.args.first decls i c.loop-i.i decl (omega arith) (omega arith) c.index-decls-i.is;
    }
