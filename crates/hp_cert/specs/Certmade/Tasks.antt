-- What a walk has still to do: words for the contracts of private functions.
use Rattle.std.specs.Prelude.{◌≡◌, ℕ, zero, suc, ◌+◌, ◌==◌, ⊤, List, [], ◌∷◌, ◌++◌, if◌then◌else◌}
use Rattle.std.specs.List.{list_any}
use Rattle.hp_cert.specs.declared.certmade.walk.Task.{Task}
use Rattle.hp_cert.specs.declared.certmade.walk.Task.TheVariants.{Enter, Leave}
use Rattle.hp_cert.specs.Certmade.Walks.{Walks}
use Rattle.hp_diagram.specs.Diagrams.{Diagrams, Has}

-- behind some nodes, unless it is one of them
abbrev pub with_node : ℕ → List ℕ → List ℕ
with_node i seen = if list_any (λ k. i == k) seen then seen else seen ++ i ∷ []

abbrev pub Does : Diagrams → Task → List ℕ → List ℕ → Type 0
Does t (Enter r) seen after = Walks t seen r after
Does t (Leave i) seen after = after ≡ with_node i seen

-- the tasks of a stack, the last one first
abbrev pub DoesAll : Diagrams → List Task → List ℕ → List ℕ → Type 0
DoesAll t [] seen after = after ≡ seen
DoesAll t (task ∷ tasks) seen after = (between : List ℕ) × DoesAll t tasks seen between × Does t task between after

-- the references of tasks are of the table
abbrev pub IsTask : Diagrams → Task → Type 0
IsTask t (Enter r) = Has t r
IsTask t (Leave i) = ⊤

-- more tasks than come of one: those of two children, and the visit
abbrev pub tasks_from : ℕ → ℕ
tasks_from zero = 2
tasks_from (suc i) = 2 + tasks_from i + tasks_from i

abbrev pub weight : Task → ℕ
weight (Enter r) = tasks_from r.index
weight (Leave i) = 1

abbrev pub weights : List Task → ℕ
weights [] = 0
weights (task ∷ tasks) = weight task + weights tasks
