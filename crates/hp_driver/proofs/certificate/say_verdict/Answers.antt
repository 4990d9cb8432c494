use Rattle.std.proofs.Common.{[]}
use Rattle.hp_io.proofs.ToldLaws.{Grows-nil}
use Rattle.hp_driver.specs.Follows.{Accepts}
use Rattle.hp_driver.proofs.certificate.say_verdict.Goals as goal

pub returns-in-Err-clause-accepts : goal.returns-in-Err-clause-accepts
returns-in-Err-clause-accepts g c = ([], Grows-nil (g.C.Console.events c.args.console.now), Accepts.no_memory)
