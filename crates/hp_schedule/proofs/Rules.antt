-- Sets of lemmas that functions name.
use Rattle.hp_schedule.proofs.TableLaws.{asked, unasked, noted-append, raised-end, raised-next, each-next, each-end, clock-next, clock-end, noted-past, noted-next, noted-end}

pub ruleset raising = (raised-end, raised-next)

pub ruleset joining = noted-append

pub ruleset noting = (noted-past, noted-next, noted-end, each-next, each-end, clock-next, clock-end)

pub ruleset asking = (asked, unasked)
