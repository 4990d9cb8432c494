use Rattle.std.proofs.Common.{◌≡◌, ◌+◌, ◌-◌, ◌^◌, length}
use Rattle.hp_boolx.specs.Search.{count_of}
use Rattle.hp_boolx.specs.Game.{forced}
use Rattle.hp_boolx.specs.Machine.{game}
use Rattle.hp_synth.specs.Courses.{IsCourse}
use Rattle.hp_synth.specs.Layouts.{place}
use Rattle.hp_synth.specs.Sought.{Stands}
use Rattle.hp_synth.proofs.search.search.Given as goal

abbrev pub invariant-loop-course : goal.invariant-loop-course
invariant-loop-course l = Stands (place l.layout) (game l.m) l.t l.roots.items l.x (length l.roots.items - (5 + l.m.registers)) × (l.t.vars ≡ l.initial.t.vars) × IsCourse l.t l.layout l.roots.items l.course

-- the states that are left
abbrev pub decreases-loop-course : goal.decreases-loop-course
decreases-loop-course l = 2 ^ l.m.registers - count_of l.m.registers (forced (game l.m) (length l.roots.items - (5 + l.m.registers)))
