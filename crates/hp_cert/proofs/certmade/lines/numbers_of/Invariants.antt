use Rattle.std.proofs.Common.{◌≡◌, map, take}
use Rattle.hp_cert.specs.Certmade.Lines.{number_in}
use Rattle.hp_diagram.specs.declared.reference.Ref.{Ref}
use Rattle.hp_cert.proofs.certmade.lines.numbers_of.Given as goal

abbrev pub invariant-loop-root : goal.invariant-loop-root
invariant-loop-root l = l.numbers.items ≡ map (λ (r : Ref). number_in l.nodes.keys r.index) (take l.root-index l.roots)
