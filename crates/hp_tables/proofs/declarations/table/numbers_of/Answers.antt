use Rattle.std.proofs.Common.{◌≡◌, ◌<◌, ◌-◌, length, ap, ◌∙◌, arith}
use Rattle.hp_tables.specs.Declarations.Tables.{put_at, said_in}
use Rattle.hp_tables.proofs.DeclarationsLemmas.TableLaws.{numbers-end, numbers-next}
use Rattle.hp_tables.proofs.declarations.table.numbers_of.Goals as goal

pub loop-i-init : goal.loop-i-init
loop-i-init c =
    let names = c.args.names.now in
    record { within = omega arith; numbers = c.new-numbers.ensures ∙ numbers-end names (length names) (omega arith) }

pub loop-i-preserved : goal.loop-i-preserved
loop-i-preserved c =
    let names = c.args.names.now in
    let i = c.loop-i.i - 1 in
    let name = c.index-names-i.result in
    let inside : i < length names = omega arith in
    let name_is : c.bytes.result.now ≡ name.now = cc in
    record {
      within = omega arith;
      numbers = c.in_ok-put.ensures
          ∙ ap (λ x. put_at (said_in c.loop-i.numbers) x i) name_is
          ∙ ap (λ f. put_at f name.now i) c.loop-i.invariant.numbers
          ∙ numbers-next names i c.loop-i.i name (omega arith) inside c.index-names-i.is;
    }
