-- Sets of lemmas that functions over turns name.
use Rattle.hp_schedule.proofs.TurnLaws.{turns-next, turns-end, turn-inside, turn-outside, all-next, all-end, place-next}

pub ruleset turning = (turns-next, turns-end, turn-inside, turn-outside, all-next, all-end)

pub ruleset placing = place-next
