-- A node that breaks a shape, or none.
use Rattle.std.specs.Prelude.{◌≡◌, ℕ, List}
use Rattle.hp_tree.specs.Programs.{Node}
use Rattle.hp_expand.specs.Shapes.{Form, Breach, breach_of, form_of}
use Rattle.hp_expand.specs.declared.shapes.Broken.{Broken}
use Rattle.hp_expand.specs.declared.shapes.Judged.{Judged}

-- what is said of a node that breaks one
abbrev pub broken_seen : Broken → List ℕ × Breach
broken_seen b = (b.node.now, b.breach)

-- The form of a node, and its first breach.
pub record Shaped (forms : List ℕ → Form) (n : Node) (j : Judged) : Type 0 where
  pub form : j.form ≡ form_of forms n
  pub breach : j.breach ≡ breach_of forms n
