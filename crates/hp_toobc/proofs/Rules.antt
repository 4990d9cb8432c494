-- Sets of lemmas that functions name.
use Rattle.std.proofs.lemmas.List.{map_more, take_all, map-append, append_assoc, append-nil}
use Rattle.hp_toobc.proofs.LabelLaws.{stem-here, stem-next, stem-end}
use Rattle.hp_toobc.proofs.CommandLaws.{empty-next, arms-chosen, arms-none, under-step}
use Rattle.hp_toobc.proofs.PlaceLaws.{places-next, places-end, stores-next, stores-end, mems-next, mems-end, insts-next, insts-end}
use Rattle.hp_toobc.proofs.FlagLaws.{set-past, mark-next, mark-past, mark-end, marked-append, clock-next, clock-end, atoms-next, atoms-end, all-next, all-end, flagged-next, flagged-done}

pub ruleset stems = (stem-here, stem-next, stem-end)

pub ruleset mapped = (map_more, take_all)

pub ruleset arms = (empty-next, arms-chosen, arms-none, append-nil)

pub ruleset clocks = (under-step, take_all)

pub ruleset added = (map-append, append_assoc, append-nil, map_more, take_all)

pub ruleset places = (places-next, places-end)

pub ruleset stores = (stores-next, stores-end)

pub ruleset mems = (mems-next, mems-end)

pub ruleset insts = (insts-next, insts-end)

pub ruleset marks = (mark-next, mark-past, mark-end, all-next, all-end)

pub ruleset marked = (set-past, marked-append, clock-next, clock-end, atoms-next, atoms-end)

pub ruleset flagged = (flagged-next, flagged-done)
