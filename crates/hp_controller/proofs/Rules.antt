-- Sets of lemmas that functions name.
use Rattle.std.proofs.lemmas.List.{map_more, append-nil}
use Rattle.hp_controller.proofs.NodeLaws.{added-next, controls-next, controls-free, controls-named, controls-all, controls-end, controls-last, registers-next, registers-end, gates-next, gates-end, lines-next, lines-end, outputs-next, outputs-end, range-next, variables-next}

pub ruleset added = (lines-next, lines-end, outputs-next, outputs-end, gates-next, gates-end)

pub ruleset numbered = (variables-next, range-next)

pub ruleset stepped = (registers-next, registers-end)

pub ruleset read = map_more

pub ruleset decoded = (controls-next, controls-free, controls-named, controls-all, controls-end, controls-last)

pub ruleset named = (added-next, append-nil)
