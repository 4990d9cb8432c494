use Rattle.hp_tree.specs.declared.program.Item.{Item}
use Rattle.hp_parser.specs.ItemReading.{item_read}
use Rattle.hp_parser.proofs.Rounds.{gives_shorter}
use Rattle.hp_parser.proofs.ItemRounds.{item_strict}
use Rattle.hp_parser.proofs.reader.Reader.next_item.Goals as goal

pub returns-clause-shorter : goal.returns-clause-shorter
returns-clause-shorter c = gives_shorter item_read item_strict (λ (i : Item). i) c.item.result c.item.new.self c.args.self.now c.item.ensures
