use Rattle.hp_parser.proofs.OneLimit.{one_limit}
use Rattle.hp_parser.proofs.laws.one_limit_is_passed.Goals as goal

pub returns-clause-limit : goal.returns-clause-limit
returns-clause-limit c = λ tokens place other_place limit other h k. (one_limit tokens place other_place limit other h k).0

pub returns-clause-place : goal.returns-clause-place
returns-clause-place c = λ tokens place other_place limit other h k. (one_limit tokens place other_place limit other h k).1
