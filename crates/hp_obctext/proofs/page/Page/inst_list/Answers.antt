use Rattle.std.proofs.lemmas.Result.{on_ok_weaker}
use Rattle.hp_obctext.specs.Files.{inst_words}
use Rattle.hp_obctext.proofs.Writing.{listed_from}
use Rattle.hp_obctext.proofs.page.Page.inst_list.Goals as goal

pub returns-in_ok-inst-in-len1-up : goal.returns-in_ok-inst-in-len1-up
returns-in_ok-inst-in-len1-up c =
    on_ok_weaker c.insts.result (λ e. listed_from inst_words c.args.self.now c.inst.new.self c.insts.new.self c.args.insts.now c.first-item.result c.in-len1-up.len_at_least c.first-item.is c.in_ok-inst-in-len1-up.ensures e) c.insts.ensures
