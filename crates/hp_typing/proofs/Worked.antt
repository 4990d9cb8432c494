-- Small bodies and what is wrong of their definitions.
use Rattle.std.proofs.Common.{◌≡◌, ℕ, List, [], ◌∷◌, None, Some, true, refl}
use Rattle.hp_base.specs.declared.span.Span.{Span}
use Rattle.hp_base.specs.declared.ty.Ty.TheVariants.{Bool as bool}
use Rattle.hp_base.specs.declared.ty.Const.TheVariants.{B}
use Rattle.hp_tree.specs.declared.decl.Cons.TheVariants.{False, True}
use Rattle.hp_tree.specs.Expressions.{variable}
use Rattle.hp_tree.specs.Blocks.{Decl, block, Eqns, no_eqn, more_eqns, Eqn, define, switch, reset, no_arm, more_arms}
use Rattle.hp_typing.specs.Scopes.{nothing, with_variables}
use Rattle.hp_typing.specs.Breaches.{Breach, undefined, twice, branch, breaches}
use Rattle.hp_typing.specs.Definedness.{in_variables, in_others, in_eqns}

abbrev here : Span
here = record { line = 1; col = 1; end = 1 }

abbrev x : List ℕ
x = 120 ∷ []

abbrev y : List ℕ
y = 121 ∷ []

abbrev decl : List ℕ → Decl
decl name = record { name = name; ty = bool; last = None; clock = None; span = here }

-- y = x
abbrev assign : Eqn
assign = define here ((y, here) ∷ []) (variable here x)

abbrev body : Eqns
body = more_eqns assign no_eqn

-- switch x | true do .. | false do ..
abbrev choice : Eqns → Eqns → Eqns
choice es fs = more_eqns (switch here (variable here x) (more_arms True (block [] es) here (more_arms False (block [] fs) here no_arm))) no_eqn

abbrev wrong_of : Eqns → Decl → List Breach
wrong_of es d = breaches (in_variables es (d ∷ []))

fine : wrong_of body (decl y) ≡ []
fine = refl

fine_in_both : wrong_of (choice body body) (decl y) ≡ []
fine_in_both = refl

no_equation : wrong_of no_eqn (decl y) ≡ undefined here y ∷ []
no_equation = refl

two_names : wrong_of (more_eqns (define here ((y, here) ∷ (y, here) ∷ []) (variable here x)) no_eqn) (decl y) ≡ twice here y ∷ []
two_names = refl

two_equations : wrong_of (more_eqns assign body) (decl y) ≡ twice here y ∷ []
two_equations = refl

twice_inside : wrong_of (more_eqns (reset here (block [] (more_eqns assign body)) (variable here x)) no_eqn) (decl y) ≡ twice here y ∷ []
twice_inside = refl

-- in one block twice and in the other not
twice_in_one_branch : wrong_of (choice (more_eqns assign body) no_eqn) (decl y) ≡ twice here y ∷ []
twice_in_one_branch = refl

one_branch : wrong_of (choice body no_eqn) (decl y) ≡ branch here y ∷ []
one_branch = refl

one_branch_inside : wrong_of (choice body (choice no_eqn body)) (decl y) ≡ branch here y ∷ []
one_branch_inside = refl

one_branch_of_last : wrong_of (choice body no_eqn) (record (decl y) { last = Some (B true) }) ≡ []
one_branch_of_last = refl

input_in_branch : breaches (in_others (choice body no_eqn) (decl y ∷ [])) ≡ twice here y ∷ []
input_in_branch = refl

-- a `switch` that lacks `false`, and one that repeats `true` too
lacking : breaches (in_eqns (with_variables nothing (decl x ∷ [])) (more_eqns (switch here (variable here x) (more_arms True (block [] no_eqn) here no_arm)) no_eqn))
    ≡ branch here (102 ∷ 97 ∷ 108 ∷ 115 ∷ 101 ∷ []) ∷ []
lacking = refl

repeated : breaches (in_eqns (with_variables nothing (decl x ∷ []))
    (more_eqns (switch here (variable here x) (more_arms True (block [] no_eqn) here (more_arms True (block [] no_eqn) here no_arm))) no_eqn))
    ≡ branch here (102 ∷ 97 ∷ 108 ∷ 115 ∷ 101 ∷ []) ∷ branch here (116 ∷ 114 ∷ 117 ∷ 101 ∷ []) ∷ []
repeated = refl
