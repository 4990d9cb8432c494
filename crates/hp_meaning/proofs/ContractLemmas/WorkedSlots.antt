-- Worked: free places and registers in their order, codes, and the bits of a history, by computing.
use Rattle.std.proofs.Common.{◌≡◌, List, [], ◌∷◌, refl}
use Rattle.std.specs.Prelude.{Bool, true, false}
use Rattle.hp_base.specs.declared.ty.Ty.TheVariants as ty
use Rattle.hp_base.specs.declared.value.Value.TheVariants.{Nil, Absent, B, E}
use Rattle.hp_tree.specs.Programs.{TypeDecl}
use Rattle.hp_tree.specs.Instant.{Inputs, Body, Enforce, Equations, Head, Tail, Right, States, Next, Pending, First, Second, Fresh, Named, Instance, Place}
use Rattle.hp_meaning.specs.Contract.Codes.{width, code, decode}
use Rattle.hp_meaning.specs.Contract.Slots.{truth, mark, cons, registers, free_places}
use Rattle.hp_meaning.specs.Contract.Memory.{bits}
use Rattle.hp_meaning.proofs.ContractLemmas.Texts.{y, alone, silent, top, same_outputs, v, c, remembered, compared_twice, matched, pending}
use Rattle.hp_meaning.proofs.ContractLemmas.WorkedModes.{mode, modes, heat, heating}
use Rattle.hp_meaning.proofs.ContractLemmas.WorkedMemory.{after}

abbrev right_of_first : Place
right_of_first = Body ∷ Equations ∷ Head ∷ Right ∷ []

-- ---- free places: inputs, comparisons of integers and outputs of calls, in the order of places; integers are none

abbrev first_input : Place
first_input = Inputs ∷ Head ∷ []

two_comparisons : free_places (alone compared_twice) compared_twice ≡ ((Enforce ∷ Second ∷ []), ty.Bool) ∷ (right_of_first, ty.Bool) ∷ []
two_comparisons = refl

-- A comparison of Booleans, or of constructors, is none.
one_comparison : free_places (alone matched) matched ≡ (right_of_first, ty.Bool) ∷ []
one_comparison = refl

no_comparison : free_places heating heat ≡ (first_input, ty.Bool) ∷ []
no_comparison = refl

one_output : free_places silent (top same_outputs (v c)) ≡ (first_input, ty.Bool) ∷ ((Body ∷ Equations ∷ Head ∷ Right ∷ Instance ∷ Named y ∷ []), ty.Bool) ∷ []
one_output = refl

-- ---- registers

-- a delay: its value, and whether it has a past
of_delay : registers (alone remembered) remembered ≡ (right_of_first, truth) ∷ ((Body ∷ Equations ∷ Head ∷ Right ∷ Fresh ∷ []), truth) ∷ []
of_delay = refl

abbrev in_state : Place → Place
in_state p = Body ∷ Equations ∷ Head ∷ States ∷ p

-- an automaton with two states: the next state, whether a restart is pending, and in each state a flag of `->` and an integer, which takes no bits
of_automaton :
    registers (alone pending) pending
    ≡ ((Body ∷ Equations ∷ Head ∷ Next ∷ []), cons 0 2)
    ∷ ((Body ∷ Equations ∷ Head ∷ Pending ∷ []), truth)
    ∷ (in_state (Head ∷ Body ∷ Equations ∷ Head ∷ Right ∷ Fresh ∷ []), truth)
    ∷ (in_state (Head ∷ Body ∷ Equations ∷ Head ∷ Right ∷ Second ∷ First ∷ []), mark)
    ∷ (in_state (Tail ∷ Head ∷ Body ∷ Equations ∷ Head ∷ Right ∷ Fresh ∷ []), truth)
    ∷ (in_state (Tail ∷ Head ∷ Body ∷ Equations ∷ Head ∷ Right ∷ Second ∷ First ∷ []), mark)
    ∷ []
of_automaton = refl

-- ---- bits

-- zeros at first, and then the input and that there is a past
at_first : bits (alone remembered) remembered [] ≡ false ∷ false ∷ []
at_first = refl

after_one : (x : Bool) → bits (alone remembered) remembered (after [] x) ≡ x ∷ true ∷ []
after_one true = refl
after_one false = refl

after_two : (was x : Bool) → bits (alone remembered) remembered (after (after [] was) x) ≡ x ∷ true ∷ []
after_two true true = refl
after_two true false = refl
after_two false true = refl
after_two false false = refl

-- the first state, and no restart
automaton_at_first : bits (alone pending) pending [] ≡ false ∷ false ∷ false ∷ false ∷ []
automaton_at_first = refl

-- ---- codes, most significant bit first

abbrev three : List TypeDecl
three = modes ∷ []

of_three : width 3 ≡ 2
of_three = refl

of_four : width 4 ≡ 2
of_four = refl

of_one : width 1 ≡ 0
of_one = refl

third : code three (ty.Enum mode) (E 0 2) ≡ true ∷ false ∷ []
third = refl

second : decode (ty.Enum mode) 0 (false ∷ true ∷ []) ≡ E 0 1
second = refl

-- What is Nil or absent counts as the first constructor, or as false.
nil_as_first : code three (ty.Enum mode) Nil ≡ code three (ty.Enum mode) (E 0 0)
nil_as_first = refl

absent_as_false : code three ty.Bool Absent ≡ code three ty.Bool (B false)
absent_as_false = refl
