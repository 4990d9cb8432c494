-- What `print` names.
use Rattle.hp_print.proofs.ReadBackLaws.{read-back}
use Rattle.hp_print.proofs.WrittenLaws.{written_after-nothing}

-- the whole text, and that it is read back
pub ruleset printed = (written_after-nothing, read-back)
