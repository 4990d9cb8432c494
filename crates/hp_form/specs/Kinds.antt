-- Kinds by the numbers of types, and what is known of the names of types.
use Rattle.std.specs.Prelude.{ℕ, zero, suc, Bool, ◌&&◌, nat_le, length, List, [], ◌∷◌, ◌++◌, map, Option, None, Some, option_map}
use Rattle.hp_base.specs.Kinds.{KindData, Bools, Ints, Constructors}
use Rattle.hp_obc.specs.Machines.{ObcType}
use Rattle.hp_obc.specs.declared.command.ObcOp.{ObcOp}
use Rattle.hp_obc.specs.Form.{unary_kind, binary_kind, ternary_kind}
use Rattle.hp_form.specs.declared.kind.Kind.{Kind}
use Rattle.hp_form.specs.declared.kind.Kind.TheVariants as code

-- the constructors of the type with a number; none where there is no such type
abbrev pub cons_at : List ObcType → ℕ → List (List ℕ)
cons_at [] n = []
cons_at (t ∷ types) zero = t.cons
cons_at (t ∷ types) (suc n) = cons_at types n

-- what a kind is among some types
abbrev pub kind_at : List ObcType → Kind → KindData
kind_at types code.Bool = Bools
kind_at types code.Int = Ints
kind_at types (code.Enum n) = Constructors n (cons_at types n)

abbrev pub maybe_at : List ObcType → Option Kind → Option KindData
maybe_at types k = option_map (kind_at types) k

-- the numbers of types by their names, and by their constructors, where the first has the number n
abbrev pub numbered : ℕ → List ObcType → List (List ℕ × ℕ)
numbered n [] = []
numbered n (t ∷ types) = (t.name, n) ∷ numbered (suc n) types

abbrev pub all_at : ℕ → List (List ℕ) → List (List ℕ × ℕ)
all_at n xs = map (λ (x : List ℕ). (x, n)) xs

abbrev pub held : ℕ → List ObcType → List (List ℕ × ℕ)
held n [] = []
held n (t ∷ types) = all_at n t.cons ++ held (suc n) types

-- a type has a constructor, and 64 at most
abbrev pub has_few_constructors : ObcType → Bool
has_few_constructors t = nat_le 1 (length t.cons) && nat_le (length t.cons) 64

-- what an operator gives on one, two or three arguments, where these have kinds
abbrev pub on_one : ObcOp → Option KindData → Option KindData
on_one op (Some k) = unary_kind op k
on_one op None = None

abbrev pub on_two : ObcOp → Option KindData → Option KindData → Option KindData
on_two op (Some k) (Some l) = binary_kind op k l
on_two op k l = None

abbrev pub on_three : ObcOp → Option KindData → Option KindData → Option KindData → Option KindData
on_three op (Some j) (Some k) (Some l) = ternary_kind op j k l
on_three op j k l = None
