use Rattle.std.proofs.Common.{ℕ, List, [], drop}
use Rattle.hp_cert.specs.Certmade.Walks.{WalksAll}
use Rattle.hp_cert.proofs.certmade.walk.walk.Given as goal

abbrev pub invariant-loop-root : goal.invariant-loop-root
invariant-loop-root l = (after : List ℕ) → WalksAll l.t l.nodes.keys (drop l.root-index l.roots) after → WalksAll l.t [] l.roots after
