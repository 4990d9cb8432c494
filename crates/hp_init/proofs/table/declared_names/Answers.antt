use Rattle.std.proofs.Common.{◌≡◌, ◌-◌, drop, is_some, ap, ◌∙◌, arith}
use Rattle.hp_init.specs.Tables.{declared_in}
use Rattle.hp_tables.specs.Defining.Layers.{put_at}
use Rattle.hp_init.proofs.TableLaws.{declared-next}
use Rattle.hp_init.proofs.table.declared_names.Goals as goal

pub loop-i-preserved : goal.loop-i-preserved
loop-i-preserved c =
    let decls = c.args.decls.now in
    let decl = c.index-decls-i.result in
    let name_is : c.bytes.result.now ≡ decl.name = cc in
    let last_is : c.is_some.result ≡ is_some decl.last = cc in
    record {
      within = omega arith;
      declared = c.in_ok-put.ensures
          ∙ ap (λ f. put_at f c.bytes.result.now c.is_some.result) c.loop-i.invariant.declared
          ∙ ap (λ name. put_at (declared_in (drop c.loop-i.i decls)) name c.is_some.result) name_is
          ∙ ap (λ is_last. put_at (declared_in (drop c.loop-i.i decls)) decl.name is_last) last_is
          ∙ declared-next decls (c.loop-i.i - 1) c.loop-i.i decl (omega arith) (omega arith) c.index-decls-i.is;
    }
