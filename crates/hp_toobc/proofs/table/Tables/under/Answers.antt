use Rattle.std.proofs.Common.{◌-◌, get_or, map, arith}
use Rattle.std.proofs.lemmas.List.{get_or_default}
use Rattle.hp_obc.specs.CommandView.{cmd_seen}
use Rattle.hp_toobc.proofs.CommandLaws.{under-step}
use Rattle.hp_toobc.specs.Making.{under}
use Rattle.hp_toobc.proofs.table.Tables.under.Goals as goal

pub loop-i-preserved : goal.loop-i-preserved
loop-i-preserved c =
    let clock = c.args.clock.now in
    let i = c.loop-i.i - 1 in
    let on = get_or clock i (0, 0) in
    record {
      within = omega (arith, c.loop-i.invariant.within);
      under = under-step c.args.self.now.types.now c.args.self.now.variables.now clock i c.loop-i.i on (map cmd_seen c.loop-i.there.items) (map cmd_seen c.in_ok-there.there.items)
          (under c.args.self.now.types.now c.args.self.now.variables.now clock (map cmd_seen c.args.cmds.items))
          (omega (arith, c.loop-i-test.true)) (omega (arith, c.loop-i.invariant.within, c.loop-i-test.true)) (get_or_default clock i (0, 0) on (omega (arith, c.loop-i.invariant.within, c.loop-i-test.true)))
          c.in_ok-there.ensures c.loop-i.invariant.under;
    }
