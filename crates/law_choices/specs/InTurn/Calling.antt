-- Which nodes are called.
use Rattle.std.specs.Prelude.{◌≡◌, ℕ, List, [], Some}
use Rattle.law_equations.specs.Followed.Programs.{CallsOnly}
use Rattle.hp_watch.specs.Watching.{Observed, Observing}

-- observers call no node
abbrev pub CallNothing : Observing → Type 0
CallNothing observers = (f : List ℕ) (o : Observed) → observers f ≡ Some o → CallsOnly [] o.node.eqns
