use Rattle.hp_schedule.proofs.UniqueLaws.{ranked-by_clock, one_by_clock}
use Rattle.hp_schedule.proofs.laws.order_by_clock_is_one.Goals as goal

pub returns : goal.returns
returns c = record { ranked = ranked-by_clock; one = one_by_clock }
