-- Functions of a table where a machine's variables stand at places, over these variables themselves.
use Rattle.std.specs.Prelude.{◌≡◌, ℕ, ◌<◌, ◌≤◌, List, length, Option, Some, None, slice_index_or}
use Rattle.hp_diagram.specs.declared.reference.Ref.{Ref}
use Rattle.hp_diagram.specs.Diagrams.{Diagrams, Means}
use Rattle.hp_synth.specs.declared.layout.Layout.{Layout}
use Rattle.hp_synth.specs.Layouts.{place}

-- at the places of the first variables stand the functions of these, and nothing at other places
pub record AreNamed (layout : Layout) (t : Diagrams) (count : ℕ) (by : List (Option Ref)) : Type 0 where
  pub len : length by ≡ t.vars
  pub named : (x : ℕ) → x < count → (r : Ref) × (slice_index_or by (place layout x) None ≡ Some r) × Means t (λ v. v x) r
  pub others : (x : ℕ) → count ≤ x → slice_index_or by (place layout x) None ≡ None
