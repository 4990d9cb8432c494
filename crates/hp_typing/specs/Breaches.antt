-- The breaches of the rules, and which is first in the text.
use Rattle.std.specs.Prelude.{◌≡◌, ℕ, Bool, true, false, nat_eq, List, [], ◌∷◌, ◌++◌, Option, is_some, if◌then◌else◌, fold, count_by, Contains, ◌↔◌}
use Rattle.std.specs.Str.{bytes_eq}
use Rattle.hp_base.specs.declared.span.Span.{Span}
use Rattle.hp_base.specs.First.First.{IsFirst, sooner, merged}
use Rattle.hp_typing.specs.declared.error.Is.{Is}
use Rattle.hp_typing.specs.declared.error.Is.TheVariants.{Bool as is_bool, Int as is_int, Enum as is_enum, Row as is_row}
use Rattle.hp_typing.specs.declared.error.TypeErr.{TypeErr}
use Rattle.hp_typing.specs.declared.error.TypeErr.TheVariants as error
use Rattle.hp_tree.specs.declared.decl.Cons.{Cons}
use Rattle.hp_tree.specs.declared.decl.Cons.TheVariants as cons
use Rattle.hp_tree.specs.Blocks.{Decl, Eqns}
use Rattle.hp_typing.specs.Claims.{Claim, wants, has_equation, has_none, stands_once}
use Rattle.hp_typing.specs.Definitions.{SomeDefines, DefineAtMostOnce, DefineWhole, StandsOnce, same_cons}
use Rattle.hp_typing.specs.declared.uses.Use.{Use}
use Rattle.hp_typing.specs.declared.uses.Use.TheVariants.{Never, Once, Partly, Twice}
use Rattle.hp_typing.specs.Uses.{use_in_eqns}

-- a type that is wrong, or a name whose definition is, at its place
pub data Breach : Type 0 where
  wrong : Span → Is → Is → Breach
  undefined : Span → List ℕ → Breach
  twice : Span → List ℕ → Breach
  branch : Span → List ℕ → Breach

abbrev pub place_of : Breach → Span
place_of (wrong at t u) = at
place_of (undefined at x) = at
place_of (twice at x) = at
place_of (branch at x) = at

-- the name that a breach is of, where it is of one
abbrev pub name_of : Breach → List ℕ
name_of (wrong at t u) = []
name_of (undefined at x) = x
name_of (twice at x) = x
name_of (branch at x) = x

-- the error that names a breach
abbrev pub error_of : Breach → TypeErr
error_of (wrong at t u) = error.Wrong at t u
error_of (undefined at x) = error.Undefined x at
error_of (twice at x) = error.Twice x at
error_of (branch at x) = error.Branch x at

-- whether what is found is what is wanted
abbrev pub same_is : Is → Is → Bool
same_is is_bool is_bool = true
same_is is_int is_int = true
same_is (is_enum t) (is_enum u) = bytes_eq t u
same_is (is_row m) (is_row n) = nat_eq m n
same_is t u = false

-- what is wrong of a variable that its block defines so; a name that is defined twice is not looked at further
abbrev pub of_variable : Span → List ℕ → Bool → Use → List Breach
of_variable at x is_last Never = undefined at x ∷ []
of_variable at x is_last Once = []
of_variable at x is_last Partly = if is_last then [] else branch at x ∷ []
of_variable at x is_last Twice = twice at x ∷ []

-- and of a name that is to have no equation
abbrev pub of_other : Span → List ℕ → Use → List Breach
of_other at x Never = []
of_other at x Once = twice at x ∷ []
of_other at x Partly = twice at x ∷ []
of_other at x Twice = twice at x ∷ []

-- how a constructor is written
abbrev pub text_of : Cons → List ℕ
text_of cons.False = 102 ∷ 97 ∷ 108 ∷ 115 ∷ 101 ∷ []
text_of cons.True = 116 ∷ 114 ∷ 117 ∷ 101 ∷ []
text_of (cons.Named c) = c

-- the breaches of a claim, where it is false
abbrev pub breach_in : Claim → List Breach
breach_in (wants at t u) = if same_is t u then [] else wrong at t u ∷ []
breach_in (has_equation at x is_last es) = of_variable at x is_last (use_in_eqns es x)
breach_in (has_none at x es) = of_other at x (use_in_eqns es x)
breach_in (stands_once at c given) = if nat_eq (count_by (same_cons c) given) 1 then [] else branch at (text_of c) ∷ []

-- the breaches of some claims, in their order
abbrev pub breaches : List Claim → List Breach
breaches [] = []
breaches (c ∷ cs) = breach_in c ++ breaches cs

-- the same of declarations, where it is known how names are defined
abbrev pub of_variables : (List ℕ → Use) → List Decl → List Breach
of_variables uses [] = []
of_variables uses (d ∷ ds) = of_variable d.span d.name (is_some d.last) (uses d.name) ++ of_variables uses ds

abbrev pub of_others : (List ℕ → Use) → List Decl → List Breach
of_others uses [] = []
of_others uses (d ∷ ds) = of_other d.span d.name (uses d.name) ++ of_others uses ds

-- A claim on a variable is false in the way that the breach names. What a block of a control equation lacks is named of names alone
-- that are defined at most once.
abbrev pub IsMisdefined : List ℕ → Bool → Eqns → Breach → Type 0
IsMisdefined x is_last es (wrong at t u) = ⊥
IsMisdefined x is_last es (undefined at y) = SomeDefines es x → ⊥
IsMisdefined x is_last es (twice at y) = DefineAtMostOnce es x → ⊥
IsMisdefined x is_last es (branch at y) = (is_last ≡ false) × (DefineAtMostOnce es x × (DefineWhole es x → ⊥))

-- A claim is false, and the breach says so.
abbrev pub Breaks : Claim → Breach → Type 0
Breaks (wants at t u) b = (t ≡ u → ⊥) × (b ≡ wrong at t u)
Breaks (has_equation at x is_last es) b = IsMisdefined x is_last es b × ((place_of b ≡ at) × (name_of b ≡ x))
Breaks (has_none at x es) b = SomeDefines es x × (b ≡ twice at x)
Breaks (stands_once at c given) b = (StandsOnce c given → ⊥) × (b ≡ branch at (text_of c))

-- Each breach is that of a claim that does not hold.
abbrev pub AreBreachesOf : List Claim → List Breach → Type 0
AreBreachesOf cs [] = Unit {0}
AreBreachesOf cs (b ∷ bs) = ((c : Claim) × (Contains cs c × Breaks c b)) × AreBreachesOf cs bs

-- A claim on a variable has the use "twice" exactly where its equations do not define the name at most once.
abbrev pub IsTwiceUsed : Claim → Type 0
IsTwiceUsed (wants at t u) = Unit {0}
IsTwiceUsed (has_equation at x is_last es) = (use_in_eqns es x ≡ Twice) ↔ (DefineAtMostOnce es x → ⊥)
IsTwiceUsed (has_none at x es) = (use_in_eqns es x ≡ Twice) ↔ (DefineAtMostOnce es x → ⊥)
IsTwiceUsed (stands_once at c given) = Unit {0}

-- A variable is named as defined twice, and as nothing else, exactly where its equations do not define it at most once; a name that
-- is to have no equation, exactly where some equation defines it.
abbrev pub IsTwiceFirst : Claim → Type 0
IsTwiceFirst (wants at t u) = Unit {0}
IsTwiceFirst (has_equation at x is_last es) = (breach_in (has_equation at x is_last es) ≡ twice at x ∷ []) ↔ (DefineAtMostOnce es x → ⊥)
IsTwiceFirst (has_none at x es) = (breach_in (has_none at x es) ≡ twice at x ∷ []) ↔ SomeDefines es x
IsTwiceFirst (stands_once at c given) = Unit {0}

-- what is found first when some breaches are met too, and when some claims are looked at
unfoldable pub found_among : Option Breach → List Breach → Option Breach
found_among found bs = fold (sooner place_of) found bs

unfoldable pub found_after : Option Breach → List Claim → Option Breach
found_after found cs = fold (sooner place_of) found (breaches cs)

-- what is found first when the arguments of a call are compared with its inputs too, where `other` is what is wrong of their types
abbrev pub found_with : Option Breach → Span → ℕ → ℕ → Bool → Option Breach → Option Breach
found_with found at inputs args typed other =
    if typed then (if nat_eq inputs args then merged place_of found other else found_after found (wants at (is_row inputs) (is_row args) ∷ [])) else found

-- the breaches of types, or where there is none those of definitions
abbrev pub or_else : List Breach → List Breach → List Breach
or_else [] others = others
or_else (b ∷ bs) others = b ∷ bs

-- The error names the breach that is first by its place, and of two at one place the first in the list; want of memory names none.
abbrev pub NamesFirst : List Breach → TypeErr → Type 0
NamesFirst bs (error.Wrong at t u) = IsFirst place_of bs (wrong at t u)
NamesFirst bs (error.Undefined x at) = IsFirst place_of bs (undefined at x)
NamesFirst bs (error.Twice x at) = IsFirst place_of bs (twice at x)
NamesFirst bs (error.Branch x at) = IsFirst place_of bs (branch at x)
NamesFirst bs error.OutOfMemory = Unit {0}
