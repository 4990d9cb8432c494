-- What the answers for programs cite.
use Rattle.hp_clocks.proofs.Leading.{drop_end}
use Rattle.hp_clocks.proofs.AnswerLaws.{err_node, so_far_start, so_far_next, so_far_clash, so_far_end, all_known, short_start, short_next, short_long, short_end}

pub ruleset answered = (err_node, so_far_start, so_far_next, so_far_clash, so_far_end, all_known, short_start, short_next, short_long, short_end, drop_end)
