use Rattle.std.proofs.lemmas.Result.{on_ok_weaker}
use Rattle.hp_obctext.specs.Files.{var_words}
use Rattle.hp_obctext.proofs.Writing.{listed_from}
use Rattle.hp_obctext.proofs.page.Page.var_list.Goals as goal

pub returns-in_ok-var-in-len1-up : goal.returns-in_ok-var-in-len1-up
returns-in_ok-var-in-len1-up c =
    on_ok_weaker c.vars.result (λ e. listed_from var_words c.args.self.now c.var.new.self c.vars.new.self c.args.vars.now c.first-item.result c.in-len1-up.len_at_least c.first-item.is c.in_ok-var-in-len1-up.ensures e) c.vars.ensures
