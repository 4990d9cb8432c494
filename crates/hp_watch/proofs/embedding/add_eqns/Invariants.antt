use Rattle.std.proofs.Common.{◌≡◌, drop}
use Rattle.hp_watch.specs.Embedding.{site_seen, with_moved}
use Rattle.hp_watch.proofs.embedding.add_eqns.Given as goal

abbrev pub invariant-loop-i : goal.invariant-loop-i
invariant-loop-i l = with_moved (site_seen l.site) l.by (drop l.i l.eqns) l.node ≡ with_moved (site_seen l.site) l.by l.eqns l.initial.node
