-- Where the sources of an expression go as the code holds it, and what is gathered so far.
use Rattle.std.specs.Prelude.{ℕ, List, [], ◌∷◌, ◌++◌, Option, None, Some}
use Rattle.hp_init.specs.declared.expression.Goes.{Goes as Held}
use Rattle.hp_init.specs.Asks.{Sight, Goes}

abbrev pub goal_of : Held → Goes
goal_of g = record { wanted = g.is_wanted; targets = g.targets.now }

-- a list and more behind it
unfoldable pub with_more : {A : Type 0} → List A → List A → List A
with_more before more = before ++ more

-- the number of a name on a left side, if it has one
abbrev pub number_in : Option ℕ → List ℕ
number_in None = []
number_in (Some k) = k ∷ []

abbrev pub target_of : Sight → List ℕ → List ℕ
target_of see x = number_in (see x)
