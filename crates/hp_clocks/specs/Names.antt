-- The names that equations define.
use Rattle.std.specs.Prelude.{List, ◌++◌}

-- a list and more behind it
unfoldable pub with_more : {A : Type 0} → List A → List A → List A
with_more before more = before ++ more
