-- Worked programs and the outputs that the language gives them, by computing.
use Rattle.std.proofs.Common.{◌≡◌, ℕ, zero, suc, ℤ, List, [], ◌∷◌, map, refl}
use Rattle.std.specs.Prelude.{Bool, true, false, pos, negsuc}
use Rattle.std.specs.Int.{int_wrap}
use Rattle.hp_base.specs.declared.value.Value.{Value}
use Rattle.hp_base.specs.declared.value.Value.TheVariants.{B, I}
use Rattle.hp_tree.specs.declared.program.Item.{Item}
use Rattle.hp_tree.specs.Operators.{real}
use Rattle.hp_tree.specs.Instant.{Instant, Past, nothing}
use Rattle.hp_tree.specs.Meaning.{meaning}
use Rattle.hp_tree.specs.Reaction.{outputs_at}
use Rattle.hp_meaning.proofs.ContractLemmas.Texts.{f, g, alone, delay, always, pending, nested, shared, self_restarted, sums, crossed, late_start, compared_once}

-- rounds towards the one instant that meets the equations
abbrev pub round : List Item → List ℕ → Past → List Value → ℕ → Instant
round program n past inputs zero = nothing
round program n past inputs (suc k) = meaning real program n inputs (record { past = past; free = nothing }) (round program n past inputs k)

abbrev pub run : List Item → List ℕ → ℕ → List (List Value) → Past
run program n k [] = []
run program n k (inputs ∷ earlier) = let past = run program n k earlier in round program n past inputs k ∷ past

-- the outputs over inputs, both the newest first, after k rounds at each instant
abbrev pub outputs : List Item → List ℕ → ℕ → List (List Value) → List (List Value)
outputs program n k inputs = map (outputs_at program n) (run program n k inputs)

abbrev pub bits : List (List Bool) → List (List Value)
bits rows = map (map B) rows

abbrev pub numbers : List (List ℤ) → List (List Value)
numbers rows = map (map I) rows

is_delayed : outputs (alone delay) f 3 (bits ((true ∷ []) ∷ (false ∷ []) ∷ (true ∷ []) ∷ [])) ≡ bits ((false ∷ []) ∷ (true ∷ []) ∷ (false ∷ []) ∷ [])
is_delayed = refl

no_input_no_output : outputs (alone delay) f 3 [] ≡ []
no_input_no_output = refl

is_always : outputs (alone always) f 3 ([] ∷ [] ∷ []) ≡ bits ((true ∷ []) ∷ (true ∷ []) ∷ [])
is_always = refl

-- A pending restart of Q is lost by the strong transition, and Q goes on.
restart_is_lost :
    outputs (alone pending) f 4 (bits ((false ∷ false ∷ []) ∷ (false ∷ true ∷ []) ∷ (true ∷ false ∷ []) ∷ (true ∷ false ∷ []) ∷ (true ∷ false ∷ []) ∷ []))
    ≡ numbers ((pos 11 ∷ []) ∷ (pos 2 ∷ []) ∷ (pos 1 ∷ []) ∷ (pos 10 ∷ []) ∷ (pos 0 ∷ []) ∷ [])
unfolding int_wrap
restart_is_lost = refl

-- A restart of the outer state reaches the inner state that is not active.
restart_reaches_all :
    outputs (alone nested) g 4 (bits ((false ∷ false ∷ []) ∷ (false ∷ true ∷ []) ∷ (true ∷ false ∷ []) ∷ (true ∷ false ∷ []) ∷ (false ∷ false ∷ []) ∷ (false ∷ false ∷ []) ∷ (false ∷ true ∷ []) ∷ []))
    ≡ numbers ((pos 10 ∷ []) ∷ (pos 0 ∷ []) ∷ (negsuc 0 ∷ []) ∷ (pos 12 ∷ []) ∷ (pos 11 ∷ []) ∷ (pos 10 ∷ []) ∷ (pos 0 ∷ []) ∷ [])
unfolding int_wrap
restart_reaches_all = refl

-- The last value of a name is one for all modes.
last_is_shared : outputs (alone shared) f 4 (bits ((true ∷ []) ∷ (true ∷ []) ∷ (true ∷ []) ∷ (true ∷ []) ∷ [])) ≡ numbers ((pos 22 ∷ []) ∷ (pos 12 ∷ []) ∷ (pos 11 ∷ []) ∷ (pos 1 ∷ []) ∷ [])
unfolding int_wrap
last_is_shared = refl

-- A strong condition is read outside of the state: it is the value of this instant.
strong_is_outside :
    outputs (alone self_restarted) f 5 (bits ((false ∷ []) ∷ (true ∷ []) ∷ (false ∷ []) ∷ (false ∷ []) ∷ []))
    ≡ (B false ∷ I (pos 1) ∷ []) ∷ (B true ∷ I (pos 0) ∷ []) ∷ (B false ∷ I (pos 1) ∷ []) ∷ (B false ∷ I (pos 0) ∷ []) ∷ []
unfolding int_wrap
strong_is_outside = refl

-- Sums wrap at 32 bits; quotients are truncated towards zero, and one by 0 is 0.
sums_wrap :
    outputs (alone sums) f 3 (numbers ((negsuc 6 ∷ pos 2 ∷ []) ∷ (pos 7 ∷ pos 0 ∷ []) ∷ (negsuc 2147483647 ∷ negsuc 0 ∷ []) ∷ (pos 2147483647 ∷ pos 1 ∷ []) ∷ []))
    ≡ numbers ((negsuc 4 ∷ negsuc 2 ∷ negsuc 0 ∷ []) ∷ (pos 7 ∷ pos 0 ∷ pos 7 ∷ []) ∷ (pos 2147483647 ∷ negsuc 2147483647 ∷ pos 0 ∷ []) ∷ (negsuc 2147483647 ∷ pos 2147483647 ∷ pos 0 ∷ []) ∷ [])
unfolding int_wrap
sums_wrap = refl

arms_are_apart : outputs (alone crossed) f 4 (bits ((false ∷ []) ∷ (true ∷ []) ∷ [])) ≡ bits ((false ∷ false ∷ []) ∷ (true ∷ true ∷ []) ∷ [])
arms_are_apart = refl

starts_late : outputs (alone late_start) f 3 (numbers ((pos 7 ∷ []) ∷ (pos 6 ∷ []) ∷ (pos 5 ∷ []) ∷ [])) ≡ numbers ((pos 6 ∷ []) ∷ (pos 5 ∷ []) ∷ (pos 0 ∷ []) ∷ [])
starts_late = refl

-- A contract changes nothing of what the body gives.
contract_is_beside : outputs (alone compared_once) f 4 (numbers ((pos 3 ∷ []) ∷ (pos 4 ∷ []) ∷ [])) ≡ bits ((false ∷ false ∷ []) ∷ (true ∷ true ∷ []) ∷ [])
contract_is_beside = refl
