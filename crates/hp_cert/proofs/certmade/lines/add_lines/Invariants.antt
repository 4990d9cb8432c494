use Rattle.std.proofs.Common.{◌≡◌, ◌++◌, map, take, Some}
use Rattle.std.specs.Option.{option_map}
use Rattle.hp_cert.specs.Certmade.Lines.{line_of}
use Rattle.hp_diagram.specs.Diagrams.{branch_at}
use Rattle.hp_cert.proofs.certmade.lines.add_lines.Given as goal

abbrev pub invariant-loop-index : goal.invariant-loop-index
invariant-loop-index l = map Some l.lines.items ≡ map Some l.initial.lines.items ++ map (λ i. option_map (line_of l.nodes.keys) (branch_at l.t.nodes i)) (take l.index-index l.indices)
