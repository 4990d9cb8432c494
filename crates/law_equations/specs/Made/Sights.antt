-- What names stand for at a place of a node, and where equations are made.
use Rattle.std.specs.Prelude.{ℕ, Bool, Option}
use Rattle.hp_flat.specs.declared.node.FlatTy.{FlatTy}

pub record Entry : Type 0 where
  pub ty : FlatTy
  pub value : Option ℕ
  pub last : Option ℕ
  pub is_local : Bool
