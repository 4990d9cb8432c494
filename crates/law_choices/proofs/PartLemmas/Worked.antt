-- A worked part.
use Rattle.std.proofs.Common.{◌≡◌, ℕ, zero, suc, ◌<◌, Bool, true, false, refl, arith}
use Rattle.law_choices.specs.Part.Part.{Renumbering, ArePart, AreFewer}
use Rattle.law_choices.specs.Part.Laws.{not_of, SomePartLaw}

-- the first variable and the third one
abbrev kept : ℕ → Bool
kept zero = true
kept (suc zero) = false
kept (suc (suc zero)) = true
kept (suc (suc (suc x))) = false

abbrev number : ℕ → ℕ
number zero = 0
number (suc x) = 1

abbrev old : ℕ → ℕ
old zero = 0
old (suc y) = 2

abbrev those : Renumbering
those = record { kept = kept; number = number; old = old; count = 2 }

below : (x : ℕ) → kept x ≡ true → number x < 2
below zero h = omega arith
below (suc x) h = omega arith

back : (x : ℕ) → kept x ≡ true → old (number x) ≡ x
back zero h = refl
back (suc zero) h = absurd cc
back (suc (suc zero)) h = refl
back (suc (suc (suc x))) h = absurd cc

forth : (y : ℕ) → y < 2 → (kept (old y) ≡ true) × (number (old y) ≡ y)
forth zero h = (refl, refl)
forth (suc zero) h = (refl, refl)
forth (suc (suc y)) h = absurd (omega (arith, h))

own : (x : ℕ) → x < 1 → (kept x ≡ true) × (number x ≡ x)
own zero h = (refl, refl)
own (suc x) h = absurd (omega (arith, h))

pub some_part_law : SomePartLaw
some_part_law = (
  those,
  record {
    renumbering = record { below = below; back = back; forth = forth };
    variables = AreFewer.kept_element _ (AreFewer.left_element _ (AreFewer.kept_element _ AreFewer.no_element));
    count = refl;
    inputs = refl;
    own_inputs = own;
    outputs_kept = (refl, tt);
    outputs = refl;
    eqns = ArePart.left_eqn (not_of 1 0) (refl, tt) (ArePart.kept_eqn (not_of 2 0) (record { targets = (refl, tt); clock = tt; restart = tt; operands = (refl, tt) }) ArePart.no_eqn);
  },
)
