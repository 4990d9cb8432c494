use Rattle.std.proofs.Common.{◌≡◌, None}
use Rattle.hp_expand.specs.Counts.{passed_by}
use Rattle.hp_expand.specs.Sizes.{in_node}
use Rattle.hp_expand.specs.Tables.{size_in}
use Rattle.hp_expand.proofs.LimitLaws.{keeps}
use Rattle.hp_expand.proofs.limits.check_node.Goals as goal

pub returns-in-None : goal.returns-in-None
returns-in-None c =
    let none : None ≡ passed_by c.args.total c.size_of_node-size.result = cc in
    keeps c.args.total (in_node (size_in c.args.known.now) c.args.node.now) c.size_of_node-size.result c.size_of_node-size.ensures none
