use Rattle.hp_parser.proofs.DeclarationRounds.{declarations_shrink}
use Rattle.hp_parser.proofs.reader.Reader.declarations.Goals as goal

pub loop-what-smaller : goal.loop-what-smaller
loop-what-smaller c =
    declarations_shrink c.args.what c.args.may_last c.loop-what.left c.loop-what.self c.in_ok-more.more.items c.next_entry.new.self c.in_ok-more.ensures
