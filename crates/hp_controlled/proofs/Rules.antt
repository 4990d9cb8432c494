-- Sets of lemmas that functions name.
use Rattle.std.proofs.lemmas.List.{map_more}
use Rattle.hp_controlled.proofs.CompiledLaws.{names-next, names-end}
use Rattle.hp_controlled.proofs.PartLaws.{touched-both, touched-next, touched-end, atoms-next, atoms-end, steps-next, steps-end, range-next, definitions-next, definitions-end, eqns-next, eqns-end, chain-next, chain-none, chain-first, chain-end, marked-next, marked-end, marked_eqns-next, marked_eqns-end, numbers-next, numbers-end, same-under, one-followed, none-left, room-next}

pub ruleset reaching = (touched-both, touched-next, touched-end, atoms-next, atoms-end, steps-next, steps-end, range-next)

pub ruleset defining = (definitions-next, definitions-end, eqns-next, eqns-end)

pub ruleset following = (chain-next, chain-none, chain-first, chain-end)

pub ruleset mapped = map_more

pub ruleset marking = (marked-next, marked-end, marked_eqns-next, marked_eqns-end, numbers-next, numbers-end)

pub ruleset copies = same-under

pub ruleset endings = (one-followed, none-left, room-next)

pub ruleset naming = (names-next, names-end)
