-- What is printed stands for the machines.
use Rattle.std.proofs.Common.{◌≡◌, ◌≤◌, ℕ, List, length, sym, subst}
use Rattle.hp_base.specs.Limits.{most}
use Rattle.hp_base.specs.declared.limit.What.TheVariants as what
use Rattle.hp_obc.specs.Form.{HasObcForm}
use Rattle.hp_obc.specs.Machines.{Obc}
use Rattle.hp_obctext.specs.Answers.{IsTextOf}
use Rattle.hp_obctext.specs.Files.{file_words}
use Rattle.hp_obctext.specs.Labels.{file_of}
use Rattle.hp_obctext.specs.Words.{printed}
use Rattle.hp_obctext.proofs.KeptMachines.{good_file}
use Rattle.hp_obctext.proofs.PrintedWords.{printed_spell}

pub printed_text : (text : List ℕ) (o : Obc) → HasObcForm o.types o.machines → text ≡ printed (file_words (file_of o)) → length text ≤ most what.Text → IsTextOf text o
printed_text text o h e l =
    let good = good_file o h in
    subst (λ t. length t ≤ most what.Text → IsTextOf t o) (sym e)
    (λ k. record { within = k; file_is = file_of o; spelled = (good.shape, printed_spell (file_words (file_of o)) good.plain); kept = good.kept; machines = sym good.same }) l
