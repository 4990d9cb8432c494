-- How many new variables there are.
use Rattle.std.specs.Prelude.{◌≡◌, ◌≤◌, ℕ, ◌+◌, List, ◌∷◌, ◌++◌, length, decimal}
use Rattle.hp_tree.specs.Programs.{Node}
use Rattle.hp_expand.specs.Sizes.{Size}
use Rattle.hp_expand.specs.Sizes as sizes
use Rattle.hp_expand.specs.NewNames.{dollar, with_number}
use Rattle.hp_expand.specs.Replacing.{in_node}
use Rattle.hp_expand.specs.Numbering.{new_in_block}
use Rattle.hp_expand.specs.Numbered.{new_in_contract}
use Rattle.hp_expand.specs.Fitting.{NodeFits}

-- those that a node declares
abbrev pub new_in_node : Node → ℕ
new_in_node n = new_in_contract n.contract + new_in_block n.body

-- A node whose inlined calls are replaced has no more of them than places are counted of it. So their numbers are within the limit on
-- places, where that is kept.
abbrev pub NumbersWithinPlaces : Type 0
NumbersWithinPlaces = (known : List ℕ → Size) (nodes : List ℕ → Node) (n : Node) → NodeFits known nodes n → new_in_node (in_node nodes n) ≤ (sizes.in_node known n).places

-- Where a name is short enough and a number small enough, the new name is the whole name with the whole number.
abbrev pub NamesAreWhole : Type 0
NamesAreWhole = (room : ℕ) (x : List ℕ) (k : ℕ) → length x ≤ room → k ≤ 999999 → with_number room x k ≡ x ++ (dollar ∷ decimal k)
