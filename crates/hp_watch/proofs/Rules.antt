-- Sets of lemmas that functions name.
use Rattle.hp_tree.proofs.Lists.{nodes-at, nodes-at_part}
use Rattle.hp_tree.proofs.BlockLists.{lines-at_eqn, lines-at_arm, lines-at_state}
use Rattle.std.proofs.lemmas.List.{append_assoc}
use Rattle.std.proofs.lemmas.List.{map_more}
use Rattle.hp_watch.proofs.EmbedLaws.{all-next, all-end, clock-next, clock-end, variables-next, variables-end, inputs-next, inputs-end, moved-next, moved-end}
use Rattle.hp_watch.proofs.ObserveLaws.{inputs_for-next, inputs_for-end, handed-next, handed-end, decls-next, decls-end, items-next, items-end, seen-more}
use Rattle.hp_watch.proofs.PlaceLaws.{targets-next, targets-end, found-next, found-end, placed_places-next, placed_places-end, free_inputs-next, moved_free-next, moved_free-end, reads-next, reads-end, first_reads-next, placed-next, with_places-next, with_places-end}
use Rattle.hp_watch.proofs.LiftLaws.{each-next, tests-next, lifted-next, either-next, either-end, bits-next, bits-more, width-next, width-here, width-end}
use Rattle.hp_watch.proofs.WalkLaws.{events-next, events-end}

pub ruleset events = (events-next, events-end)

-- an element of a list is no larger than the list
pub ruleset walks = (nodes-at, nodes-at_part, lines-at_eqn, lines-at_arm, lines-at_state, append_assoc)

pub ruleset eachwise = (each-next, tests-next)

pub ruleset lifting = lifted-next

pub ruleset eithers = (either-next, either-end)

pub ruleset spelling = (bits-next, bits-more)

pub ruleset widths = (width-next, width-here, width-end)

pub ruleset moves = (map_more, all-next, all-end, clock-next, clock-end)

pub ruleset embeddings = (variables-next, variables-end, inputs-next, inputs-end, moved-next, moved-end)

pub ruleset observings = (inputs_for-next, inputs_for-end, handed-next, handed-end, decls-next, decls-end, items-next, items-end, seen-more, append_assoc)

pub ruleset places = (targets-next, targets-end, found-next, found-end, placed_places-next, placed_places-end, free_inputs-next, moved_free-next, moved_free-end, reads-next, reads-end, first_reads-next, append_assoc)

pub ruleset callings = placed-next

pub ruleset bits_of_places = (with_places-next, with_places-end)
