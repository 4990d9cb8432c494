-- Worked: a program of a type and two nodes has its types, and small programs that lack one.
use Rattle.std.proofs.Common.{◌≡◌, ℕ, pos, true, false, List, [], ◌∷◌, None, Some, codes, refl}
use Rattle.hp_base.specs.declared.span.Span.{Span}
use Rattle.hp_base.specs.declared.ty.Ty.{Ty}
use Rattle.hp_base.specs.declared.ty.Ty.TheVariants.{Bool as bool, Enum as enum}
use Rattle.hp_base.specs.declared.ty.Const.TheVariants as const
use Rattle.hp_tree.specs.declared.decl.Cons.TheVariants.{Named}
use Rattle.hp_tree.specs.declared.expr.Op2.TheVariants.{And}
use Rattle.hp_tree.specs.declared.program.Item.{Item}
use Rattle.hp_tree.specs.declared.program.Item.TheVariants.{TypeItem, NodeItem}
use Rattle.hp_tree.specs.Expressions.{Expr, constant, variable, two, fby, when_is, merge, call, no_expr, more_exprs, no_part, more_parts}
use Rattle.hp_tree.specs.Blocks.{Decl, block, Eqn, define, eqns_of}
use Rattle.hp_tree.specs.Programs.{Node}
use Rattle.hp_names.specs.Rules.{WellNamed}
use Rattle.hp_names.proofs.RuleLaws.{program_law as named_law}
use Rattle.hp_typing.specs.Rules.{WellTyped}
use Rattle.hp_typing.specs.Scopes.{nothing, inside_node, behind}
use Rattle.hp_typing.specs.Types.{type_of}
use Rattle.hp_typing.proofs.RuleLaws.{program_law as typed_law}
use Rattle.law_judged.specs.Typed.Scopes.{Scope}
use Rattle.law_judged.specs.Typed.Typed.{RightHasTypes, HaveTypes}
use Rattle.law_judged.proofs.TypedLemmas.ProgramLaws.{typed}

-- ---- words

abbrev here : Span
here = record { line = 1; col = 1; end = 1 }

abbrev a : List ℕ
a = codes "a"

abbrev b : List ℕ
b = codes "b"

abbrev c : List ℕ
c = codes "c"

abbrev f : List ℕ
f = codes "f"

abbrev g : List ℕ
g = codes "g"

abbrev n : List ℕ
n = codes "n"

abbrev t : List ℕ
t = codes "t"

abbrev x : List ℕ
x = codes "x"

abbrev y : List ℕ
y = codes "y"

abbrev decl : List ℕ → Ty → Decl
decl name ty = record { name = name; ty = ty; last = None; clock = None; span = here }

abbrev v : List ℕ → Expr
v name = variable here name

abbrev truth : Expr
truth = constant here (const.B true)

abbrev number : Expr
number = constant here (const.I (pos 1))

abbrev node : List ℕ → List Decl → List Decl → List Eqn → Node
node name ins outs es = record { name = name; span = here; inputs = ins; outputs = outs; contract = None; body = block [] (eqns_of es) }

-- ---- a program that has its types

-- type t = a | b
abbrev letters : Item
letters = TypeItem (record { name = t; cons = a ∷ b ∷ []; span = here })

-- merge c (a -> y when a(c)) (b -> true)
abbrev chosen : Expr
chosen = merge here c (more_parts (Named a) (when_is here (v y) (Named a) c) (more_parts (Named b) truth no_part))

-- node f(c : t; x : bool) returns (y : bool; n : t)  y = true fby x; n = c
abbrev lower : Node
lower = node f (decl c (enum t) ∷ decl x bool ∷ []) (decl y bool ∷ decl n (enum t) ∷ [])
    (define here ((y, here) ∷ []) (fby here truth (v x)) ∷ define here ((n, here) ∷ []) (v c) ∷ [])

-- node g(c : t) returns (x, y : bool; n : t)  (y, n) = f(c, true); x = merge c (a -> y when a(c)) (b -> true)
abbrev upper : Node
upper = node g (decl c (enum t) ∷ []) (decl x bool ∷ decl y bool ∷ decl n (enum t) ∷ [])
    (define here ((y, here) ∷ (n, here) ∷ []) (call here f false (more_exprs (v c) (more_exprs truth no_expr))) ∷ define here ((x, here) ∷ []) chosen ∷ [])

abbrev program : List Item
program = letters ∷ NodeItem lower ∷ NodeItem upper ∷ []

-- by the law
program_typed : HaveTypes program
program_typed = typed program ((named_law program).1 refl) ((typed_law program).1 refl)
    (tt, ((tt, ((tt, tt), (tt, tt))), ((tt, ((tt, (tt, tt)), ((tt, (tt, (tt, tt))), tt))), tt)))

-- and by computing
abbrev inside_upper : Scope
inside_upper = inside_node (behind (behind nothing letters) (NodeItem lower)) upper

chosen_type : type_of inside_upper chosen ≡ Some bool
chosen_type = refl

name_type : type_of inside_upper (v n) ≡ Some (enum t)
name_type = refl

-- ---- programs that lack a type

-- node f() returns (y : bool)  y = e
abbrev defines : Expr → List Item
defines e = NodeItem (node f [] (decl y bool ∷ []) (define here ((y, here) ∷ []) e ∷ [])) ∷ []

-- the right side of its equation
abbrev right_of : (e : Expr) → HaveTypes (defines e) → RightHasTypes (inside_node nothing (node f [] (decl y bool ∷ []) [])) ((y, here) ∷ []) e
right_of e h = h.0.1.1.1.1.1.0.1

-- types that do not agree: true & 1
unequal_named : WellNamed (defines (two here And truth number))
unequal_named = (named_law (defines (two here And truth number))).1 refl

unequal_lacks : HaveTypes (defines (two here And truth number)) → ⊥
unequal_lacks h = let e = (right_of (two here And truth number) h).1.1 in absurd cc

-- a name that is not declared, of which the types ask nothing
unknown_typed : WellTyped (defines (v x))
unknown_typed = (typed_law (defines (v x))).1 refl

unknown_lacks : HaveTypes (defines (v x)) → ⊥
unknown_lacks h = let e = right_of (v x) h in absurd cc

-- a `merge` without parts, which no text has
empty_named : WellNamed (defines (merge here y no_part))
empty_named = (named_law (defines (merge here y no_part))).1 refl

empty_typed : WellTyped (defines (merge here y no_part))
empty_typed = (typed_law (defines (merge here y no_part))).1 refl

empty_lacks : HaveTypes (defines (merge here y no_part)) → ⊥
empty_lacks h = let e = (right_of (merge here y no_part) h).1.1 in absurd cc
