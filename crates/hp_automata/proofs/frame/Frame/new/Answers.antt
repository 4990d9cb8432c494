use Rattle.std.proofs.Common.{length, refl}
use Rattle.hp_automata.specs.Lists.{names_seen}
use Rattle.hp_automata.specs.Held.{target_in}
use Rattle.hp_automata.proofs.FrameLaws.{framed}
use Rattle.hp_automata.proofs.frame.Frame.new.Goals as goal

pub returns : goal.returns
returns c =
    framed c.args.span c.args.depth (length c.args.states.now) (target_in c.in_ok-targets.targets) (names_seen c.in_ok-names.names.names.items) c.args.states.now
    refl c.in_ok-targets.ensures c.in_ok-names.ensures
