-- Sets of lemmas that functions name.
use Rattle.std.proofs.lemmas.List.{append-nil, take_all}
use Rattle.hp_normal.proofs.Lists.{written-next, written-end}
use Rattle.hp_normal.proofs.CountLaws.{counted-append, counted-past, counted-next, counted-end, all-next, all-end, clock-next, clock-end, stop-first, stop-second, stop-third, go-on, stop-first_of_three, stop-second_of_three, go-on_to_third}
use Rattle.hp_normal.proofs.ClockLaws.{clocks-longer, clocks-next, clocks-differ_variable, clocks-differ_constructor, clocks-end}
use Rattle.hp_normal.proofs.DefinerLaws.{set-next, set-skip, set-end, definers-step}
use Rattle.hp_normal.proofs.TableLaws.{ends-step, ends-begin, moved-inside, meanings-next, meanings-end, occurs-inside}
use Rattle.hp_normal.proofs.ChoiceLaws.{choices-next, choices-end, simplified-next, simplified-end}
use Rattle.hp_normal.proofs.NeedLaws.{none_counted-next, none_counted-stop, none_counted-end, needs-step, needs-begin}

pub ruleset counting = (counted-past, counted-next, counted-end, all-next, all-end, clock-next, clock-end)

pub ruleset joining = (counted-append, all-next, all-end)

pub ruleset tables = append-nil

pub ruleset clocks = (clocks-longer, clocks-next, clocks-differ_variable, clocks-differ_constructor, clocks-end)

pub ruleset sets = (set-next, set-skip, set-end, definers-step)

pub ruleset written = (written-next, written-end, append-nil)

pub ruleset tests = (stop-first, stop-second, stop-third, go-on, stop-first_of_three, stop-second_of_three, go-on_to_third)

pub ruleset needs = (none_counted-next, none_counted-stop, none_counted-end, needs-step, needs-begin)

pub ruleset choices = (choices-next, choices-end, simplified-next, simplified-end)

pub ruleset ends = (ends-step, ends-begin, moved-inside)

pub ruleset meanings = (meanings-next, meanings-end, occurs-inside)
