use Rattle.std.proofs.Common.{subst, sym}
use Rattle.hp_obctext.specs.declared.found.Found.{Found}
use Rattle.hp_obctext.specs.Rules.{in_file, IsBreach}
use Rattle.hp_obctext.specs.Texts.{file_seen}
use Rattle.hp_obctext.proofs.Truths.{breach_found}
use Rattle.hp_obctext.proofs.read.breach_of.Goals as goal

pub returns : goal.returns
returns c =
    let words = in_file (file_seen c.args.file.now) in
    subst (λ (f : Found). IsBreach words f.breach) (sym c.in_ok-check_file.ensures) (breach_found c.new-found.result words c.new-found.ensures.breach c.new-found.ensures.passed)
