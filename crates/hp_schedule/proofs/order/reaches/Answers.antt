use Rattle.std.proofs.Common.{◌≡◌, ap, sym, ◌∙◌, length}
use Rattle.std.proofs.Math.ListN.{replicate}
use Rattle.hp_schedule.specs.Turning.{noted_turns}
use Rattle.hp_normal.proofs.Lists.{written-back}
use Rattle.hp_schedule.proofs.TurnLaws.{length-turns}
use Rattle.hp_schedule.proofs.order.reaches.Goals as goal

pub returns : goal.returns
returns c =
    let first = c.in_ok-table.table in
    let turns = c.in_ok-turns.turns.items in
    let depth = c.args.depth in
    let base = c.args.variables in
    let es = c.args.eqns.now in
    let is : c.note_turns.new.table ≡ noted_turns depth base es turns first.items = c.in_ok-note_turns.ensures ∙ ap (λ ts. noted_turns depth base es ts c.deref_mut.result.now) c.deref.ensures.value ∙ ap (noted_turns depth base es turns) c.deref_mut.ensures.value in
    record {
      turns = turns;
      all = c.in_ok-turns.ensures.all;
      order = c.in_ok-turns.ensures.order;
      noted_are = written-back first.items c.note_turns.new.table first.len (sym c.deref_mut.ensures.len ∙ ap length c.deref_mut.ensures.value) (ap length is ∙ length-turns depth base es turns first.items)
          ∙ is ∙ ap (noted_turns depth base es turns) (c.in_ok-table.ensures.items_if_clones_equal (λ y same. same) ∙ ap (replicate base) c.unmet.ensures);
    }
