use Rattle.std.proofs.lemmas.Result.{on_ok_weaker}
use Rattle.hp_obctext.specs.Files.{mem_words}
use Rattle.hp_obctext.proofs.Writing.{listed_from}
use Rattle.hp_obctext.proofs.page.Page.mem_list.Goals as goal

pub returns-in_ok-mem-in-len1-up : goal.returns-in_ok-mem-in-len1-up
returns-in_ok-mem-in-len1-up c =
    on_ok_weaker c.mems.result (λ e. listed_from mem_words c.args.self.now c.mem.new.self c.mems.new.self c.args.mems.now c.first-item.result c.in-len1-up.len_at_least c.first-item.is c.in_ok-mem-in-len1-up.ensures e) c.mems.ensures
