use Rattle.std.proofs.Common.{arith}
use Rattle.std.proofs.lemmas.Grind.{common_steps}
use Rattle.hp_parser.proofs.NameRounds.{names_begin, names_pushed}
use Rattle.hp_parser.proofs.Short.{short_none, short_pushed}
use Rattle.hp_parser.proofs.reader.Reader.names.Goals as goal

pub loop-names-init : goal.loop-names-init
loop-names-init c = record {
  read = grind (arith, common_steps, names_begin);
  within = grind (arith, common_steps, short_none, short_pushed);
}

pub loop-names-preserved : goal.loop-names-preserved
loop-names-preserved c = record {
  read = grind (arith, common_steps, names_pushed);
  within = grind (arith, common_steps, short_pushed);
}
