use Rattle.std.proofs.lemmas.Result.{on_ok_weaker}
use Rattle.hp_obctext.proofs.Writing.{constructors_from}
use Rattle.hp_obctext.proofs.page.Page.constructors.Goals as goal

pub returns-in_ok-capital-in-len1-up : goal.returns-in_ok-capital-in-len1-up
returns-in_ok-capital-in-len1-up c =
    on_ok_weaker c.more_constructors.result (λ e. constructors_from c.args.self.now c.capital.new.self c.more_constructors.new.self c.args.cons.now c.first-item.result c.in-len1-up.len_at_least c.first-item.is c.in_ok-capital-in-len1-up.ensures e) c.more_constructors.ensures
