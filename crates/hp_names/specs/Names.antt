-- Sets of names: lists in which each name stands once, in the order in which they came. A name is its bytes.
use Rattle.std.specs.Prelude.{ℕ, Bool, List, [], ◌∷◌, ◌++◌, map, if◌then◌else◌}
use Rattle.std.specs.Str.{bytes_eq}
use Rattle.std.specs.List.{list_any}
use Rattle.hp_base.specs.declared.span.Span.{Span}
use Rattle.hp_tree.specs.Blocks.{Decl, States, no_state, more_states}

-- a name at its place
abbrev pub Placed : Type 0
Placed = List ℕ × Span

-- whether a name is among some names
abbrev pub has : List (List ℕ) → List ℕ → Bool
has names x = list_any (bytes_eq x) names

-- the names, and one more behind them where it is not among them
abbrev pub with_name : List (List ℕ) → List ℕ → List (List ℕ)
with_name names x = if has names x then names else names ++ x ∷ []

-- the names, and each of these where it is not among them
abbrev pub with_names : List (List ℕ) → List Placed → List (List ℕ)
with_names names [] = names
with_names names (x ∷ xs) = with_names (with_name names x.0) xs

-- the names of declarations, at their places
abbrev pub declared_names : List Decl → List Placed
declared_names ds = map (λ (d : Decl). (d.name, d.span)) ds

-- the names of the states of an automaton
abbrev pub state_names : States → List Placed
state_names no_state = []
state_names (more_states x b until unless s qs) = (x, s) ∷ state_names qs

-- some names that all stand at one place
abbrev pub names_at : Span → List (List ℕ) → List Placed
names_at at xs = map (λ (x : List ℕ). (x, at)) xs
