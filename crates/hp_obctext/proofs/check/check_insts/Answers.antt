use Rattle.std.proofs.Common.{◌∙◌, Bor}
use Rattle.std.specs.Option.{option_map}
use Rattle.hp_obctext.specs.Files.{Text}
use Rattle.hp_obctext.proofs.CheckLaws.{insts_step, insts_known_step}
use Rattle.hp_obctext.proofs.check.check_insts.Goals as goal

pub loop-inst-preserved : goal.loop-inst-preserved
loop-inst-preserved c =
    let i = c.loop-inst.inst-index in
    let found = option_map (λ (m : Bor Text). m.now) c.get.result in
    record {
      found = insts_step c.loop-inst.found c.comma.new.self c.word.new.self c.word-in-loop-inst.new.self c.word-in-loop-inst-2.new.self c.args.machines.now c.loop-inst.first c.loop-inst.known c.add_instance.new.insts
          c.args.insts.now i c.inst-item.result c.has.result c.has-in-loop-inst.result found c.loop-inst-test.true c.inst-item.is
          c.comma.ensures c.has.ensures c.word.ensures c.word-in-loop-inst.ensures c.has-in-loop-inst.ensures c.word-in-loop-inst-2.ensures c.get.ensures c.in_ok-add_instance.ensures
          ∙ c.loop-inst.invariant.found;
      known = insts_known_step c.args.machines.now c.loop-inst.known c.add_instance.new.insts c.args.insts.now i c.inst-item.result found c.loop-inst-test.true c.inst-item.is c.get.ensures c.in_ok-add_instance.ensures
          ∙ c.loop-inst.invariant.known;
    }
