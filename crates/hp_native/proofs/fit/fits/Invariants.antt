use Rattle.std.proofs.Common.{◌≡◌, [], drop}
use Rattle.hp_base.specs.Kinds.{AreOfKinds}
use Rattle.hp_obc.specs.Kinded.{kinds_in}
use Rattle.hp_native.specs.Natively.{fits}
use Rattle.hp_native.proofs.fit.fits.Given as goal

abbrev pub invariant-loop-i : goal.invariant-loop-i
invariant-loop-i l =
    (fits (kinds_in [] (drop l.i l.vars)) (drop l.i l.values) ≡ fits (kinds_in [] l.vars) l.values)
    × (AreOfKinds (kinds_in [] (drop l.i l.vars)) (drop l.i l.values) → AreOfKinds (kinds_in [] l.vars) l.values)
