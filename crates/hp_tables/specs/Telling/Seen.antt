-- How the code tells a clock.
-- Source: own.
use Rattle.std.specs.Prelude.{Option, option_map}
use Rattle.hp_tables.specs.declared.telling.clock.Telling.{Telling}
use Rattle.hp_tables.specs.declared.telling.clock.Telling.TheVariants.{Base, Of, On}
use Rattle.hp_tables.specs.Telling.Tellings.{Told, at_base, as_of, one_more}

abbrev pub telling_seen : Telling → Told
telling_seen Base = at_base
telling_seen (Of x) = as_of x.now
telling_seen (On c x) = one_more c.now x.now

abbrev pub told_seen : Option Telling → Option Told
told_seen t = option_map telling_seen t
