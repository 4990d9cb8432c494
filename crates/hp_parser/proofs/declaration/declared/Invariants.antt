use Rattle.std.proofs.Common.{◌≡◌, map, take}
use Rattle.hp_tree.specs.DeclView.{clock_seen}
use Rattle.hp_parser.specs.BlockGrammar.{declared}
use Rattle.hp_parser.specs.Seen.{word_seen}
use Rattle.hp_parser.proofs.declaration.declared.Given as goal

abbrev pub invariant-loop-name : goal.invariant-loop-name
invariant-loop-name l = l.declarations.items ≡ map (λ w. declared l.ty (clock_seen l.clock) (word_seen w)) (take l.name-index l.names)
