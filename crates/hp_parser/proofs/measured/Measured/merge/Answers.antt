use Rattle.std.proofs.Common.{arith}
use Rattle.std.proofs.lemmas.Grind.{common_steps}
use Rattle.hp_parser.proofs.MeasuredLaws.{values_seen, pairs_seen}
use Rattle.hp_parser.proofs.measured.Measured.merge.Goals as goal

pub returns : goal.returns
returns c =
    let values = values_seen c.args.parts.items in
    let pairs = pairs_seen c.args.parts.items in
    grind (arith, common_steps, values, pairs)
