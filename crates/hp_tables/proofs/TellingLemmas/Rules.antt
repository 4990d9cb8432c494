-- Sets of lemmas that functions name.
use Rattle.std.proofs.Common.{◌≡◌, ℕ, ◌≤◌, length, drop, List, []}
use Rattle.std.proofs.lemmas.List.{drop_all}
use Rattle.hp_tree.proofs.Lists.{nodes-at}

pub drop-end : {A : Type 0} (xs : List A) (i : ℕ) → length xs ≤ i → drop i xs ≡ []
drop-end xs i h = drop_all i xs h

-- a part is no larger than the list that it stands in
pub ruleset telling = (drop-end, nodes-at)
