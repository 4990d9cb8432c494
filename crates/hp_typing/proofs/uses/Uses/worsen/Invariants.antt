use Rattle.std.proofs.Common.{◌≡◌, drop}
use Rattle.hp_typing.specs.Uses.{pairwise, worsened, how}
use Rattle.hp_typing.proofs.UseMaps.{worse_in}
use Rattle.hp_typing.proofs.uses.Uses.worsen.Given as goal

abbrev pub invariant-loop-i : goal.invariant-loop-i
invariant-loop-i l =
    worse_in (drop l.i l.names.names.entries) (how l.self) (pairwise (how l.first) (how l.second))
    ≡ worsened l.names (how l.initial.self) (pairwise (how l.first) (how l.second))
