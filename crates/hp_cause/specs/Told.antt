-- What is gathered, as the code holds it.
use Rattle.std.specs.Prelude.{ℕ, ◌-◌, List, ◌++◌, length, map, take}
use Rattle.std.specs.Borrow.{Bor}
use Rattle.hp_cause.specs.declared.fact.Fact as held
use Rattle.hp_cause.specs.declared.fact.Fact.TheVariants as variant
use Rattle.hp_cause.specs.Facts.{Fact, stands, reads, depends}

abbrev pub fact_seen : held.Fact → Fact
fact_seen (variant.Stands kind name span vertex) = stands (record { kind = kind; name = name.now; span = span }) vertex
fact_seen (variant.Reads v u) = reads v u
fact_seen (variant.Depends v u) = depends v u

abbrev pub facts_seen : List held.Fact → List Fact
facts_seen facts = map fact_seen facts

abbrev pub names_seen : List (Bor (List ℕ)) → List (List ℕ)
names_seen names = map (λ (x : Bor (List ℕ)). x.now) names

-- a list and more behind it
unfoldable pub with_more : {A : Type 0} → List A → List A → List A
with_more before more = before ++ more

-- all but the last
abbrev pub front : {A : Type 0} → List A → List A
front xs = take (length xs - 1) xs
