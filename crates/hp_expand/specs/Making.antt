-- What has been made of a block so far.
use Rattle.std.specs.Prelude.{ℕ, List, [], ◌∷◌, ◌++◌, Option}
use Rattle.hp_tree.specs.Expressions.{Expr, Exprs, more_exprs, Parts, more_parts}
use Rattle.hp_tree.specs.declared.decl.Cons.{Cons}
use Rattle.hp_tree.specs.Blocks.{Arm, State, list_of_eqns}
use Rattle.hp_tree.specs.Programs.{Contract, Node}
use Rattle.hp_expand.specs.Replacing.{Replaced, equations_of, in_block, in_eqns, in_condition}

-- a list and more behind it
unfoldable pub with_more : {A : Type 0} → List A → List A → List A
with_more before more = before ++ more

-- some elements in front of others
abbrev pub exprs_onto : List Expr → Exprs → Exprs
exprs_onto [] rest = rest
exprs_onto (e ∷ es) rest = more_exprs e (exprs_onto es rest)

abbrev pub parts_onto : List (Cons × Expr) → Parts → Parts
parts_onto [] rest = rest
parts_onto (p ∷ ps) rest = more_parts p.0 p.1 (parts_onto ps rest)

-- an arm and a state whose calls from a number on are replaced
abbrev pub replaced_arm : (List ℕ → Node) → ℕ → Arm → Arm
replaced_arm nodes k a = record { cons = a.cons; body = (in_block nodes k a.body).part; span = a.span }

abbrev pub replaced_state : (List ℕ → Node) → ℕ → State → State
replaced_state nodes k q = record { name = q.name; body = (in_block nodes k q.body).part; until = q.until; unless = q.unless; span = q.span }

-- what replaces the equations of a contract and the calls of its conditions
abbrev pub in_conditions : (List ℕ → Node) → ℕ → Contract → Replaced (Option Expr × Option Expr)
in_conditions nodes k c =
    let es = in_eqns nodes k (equations_of c.body) in
    let assume = in_condition nodes es.next c.assume in
    let enforce = in_condition nodes assume.next c.enforce in
    record {
      locals = es.locals ++ (assume.locals ++ enforce.locals);
      before = list_of_eqns es.part ++ (assume.before ++ enforce.before);
      next = enforce.next;
      part = (assume.part, enforce.part);
    }
