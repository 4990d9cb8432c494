-- What the rounds of a solver go on with, as long as its table only grows.
-- Source: own.
use Rattle.std.specs.Prelude.{◌≡◌, ℕ, ◌+◌, ◌<◌, ◌≤◌, List, Some, None, length, slice_index_or}
use Rattle.hp_diagram.specs.declared.reference.Ref.{Ref}
use Rattle.hp_diagram.specs.Diagrams.{Diagrams, zero_ref}
use Rattle.hp_quant.specs.Replacements.{AllComposed}
use Rattle.hp_synth.specs.declared.course.Course.{Course}
use Rattle.hp_synth.specs.declared.layout.Layout.{Layout}
use Rattle.hp_synth.specs.Layouts.{place}

-- The next value of each register stands in its place, where these are the references of a solver, and what was composed with these is right in a table.
pub record IsCourse (t : Diagrams) (layout : Layout) (roots : List Ref) (course : Course) : Type 0 where
  pub len : length course.by.items ≡ t.vars
  pub registers_are : (k : ℕ) → k < layout.counts.registers → slice_index_or course.by.items (place layout k) None ≡ Some (slice_index_or roots (5 + k) zero_ref)
  pub others : (k : ℕ) → layout.counts.registers ≤ k → slice_index_or course.by.items (place layout k) None ≡ None
  pub right : AllComposed t course.by.items course.composed
