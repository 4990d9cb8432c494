use Rattle.hp_driver.proofs.WrittenCertificates.{written_is_good}
use Rattle.hp_driver.proofs.laws.written_certificates_are_good.Goals as goal

pub returns : goal.returns
returns c =
    let names = c.names_are_spelled.ensures in
    written_is_good names.text names.replaced names.clocked
