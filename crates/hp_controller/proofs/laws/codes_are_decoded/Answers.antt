use Rattle.hp_controller.proofs.laws.codes_are_decoded.Goals as goal
use Rattle.hp_controller.proofs.DecodingLaws.{controls_law, decoded_law}

pub returns : goal.returns
returns c = record { value = decoded_law; controls = controls_law }
