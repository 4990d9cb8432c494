-- A word that begins with no `-` goes to the positional of its place, at a command with no subcommand.
use Rattle.std.proofs.Common.{◌≡◌, ◌∙◌, ◌==◌, ℕ, Bool, cond, true, false, not, refl, sym, ap, ap₂, ◌≢◌, true≢false, List, [], ◌∷◌, Some, None}
use Rattle.std.proofs.lemmas.Bool.{eqb-true}
use Rattle.std.specs.Prelude.{option_and_then}
use Rattle.std.specs.Option.{option_map_or}
use Rattle.std.specs.Str.{bytes_eq}
use Rattle.clap.specs.Lexer.{long_of, short_of, long_of_rest, short_of_rest, strip_byte}
use Rattle.clap.specs.Kinds.{Kinds, or_else}
use Rattle.clap.specs.Walk.{Held, Rule, Step, Text, Walk, arg_by_index, after_step, idle, long_or_other, short_or_plain, to_positional, trailing, value, walked, word_met}
use Rattle.clap.specs.Simple.{Shape}
use Rattle.clap.specs.Faults.{bundle_fault, flag_word_fault, step_fault, turn_fault, walk_fault, word_fault}
use Rattle.hp_arguments.specs.Words.{IsArgument, is_argument}

-- the two ways to say that a word is an argument
pub by_test : (word : Text) → is_argument word ≡ true → IsArgument word
by_test [] is = tt
by_test (b ∷ word) is = λ dash. true≢false (sym is ∙ ap (λ n. not (n == 45)) dash)

not_dash : (b : ℕ) → b ≢ 45 → (b == 45) ≡ false
not_dash b is = go (b == 45) refl
  where
    go : (t : Bool) → (b == 45) ≡ t → (b == 45) ≡ false
    go true e = absurd (is (eqb-true b 45 e))
    go false e = e

pub to_test : (word : Text) → IsArgument word → is_argument word ≡ true
to_test [] is = refl
to_test (b ∷ word) is = ap not (not_dash b is)

-- between two words, where no option waits for a value
abbrev pub between : ℕ → Held → Walk
between position h = record { held = h; waiting = idle; position = position; is_trailing = false; stopped = None }

no_strip : (word : Text) → IsArgument word → strip_byte 45 word ≡ None
no_strip [] is = refl
no_strip (b ∷ word) is = ap (λ t. cond t (Some word) None) (not_dash b is)

no_dashes : (word : Text) → IsArgument word → bytes_eq word (45 ∷ 45 ∷ []) ≡ false
no_dashes [] is = refl
no_dashes (b ∷ word) is = rw (not_dash b is) refl

module _ (word : Text) (is : IsArgument word) where
  no_long : long_of word ≡ None
  no_long = ap (λ o. option_and_then long_of_rest (option_and_then (strip_byte 45) o)) (no_strip word is)

  no_short : short_of word ≡ None
  no_short = ap (λ o. option_and_then short_of_rest o) (no_strip word is)

  met : (c : List Rule) (position : ℕ) (h : Held) → word_met c [] false idle position word h ≡ (h, value)
  met c position h =
      ap (λ t. cond t (h, trailing position) (long_or_other c idle word (long_of word) h)) (no_dashes word is)
      ∙ ap (λ o. long_or_other c idle word o h) no_long
      ∙ ap (λ o. short_or_plain c idle word o h) no_short

  faultless : (s : Shape) (h : Held) → word_fault s [] false idle word h ≡ []
  faultless s h =
      ap (λ t. cond t [] (flag_word_fault s.rules s.args_override_self (long_of word) word h)) (no_dashes word is)
      ∙ ap (λ o. flag_word_fault s.rules s.args_override_self o word h) no_long
      ∙ ap (λ o. option_map_or (λ flags. bundle_fault s.rules s.args_override_self flags h) o []) no_short

  -- the walk after the word
  pub goes : (c : List Rule) (position : ℕ) (h : Held)
      → walked c [] (between position h) word ≡ to_positional c (arg_by_index c position) word (between position h) h
  unfolding walked
  goes c position h = ap (λ (m : Held × Step). after_step c word (between position h) m.0 m.1) (met c position h)

  -- the word has the fault that there is no positional at its place, or none
  pub at_place : (s : Shape) (position : ℕ) (h : Held) → turn_fault s [] (between position h) word ≡ step_fault s position h value
  at_place s position h =
      ap (λ k. or_else k (step_fault s position (word_met s.rules [] false idle position word h).0 (word_met s.rules [] false idle position word h).1)) (faultless s h)
      ∙ ap (λ (m : Held × Step). step_fault s position m.0 m.1) (met s.rules position h)

  -- and what stands behind it
  pub and_behind : (s : Shape) (position : ℕ) (h : Held) (words : List Text)
      → walk_fault s [] (between position h) (word ∷ words)
      ≡ or_else (step_fault s position h value) (walk_fault s [] (to_positional s.rules (arg_by_index s.rules position) word (between position h) h) words)
  unfolding walk_fault
  and_behind s position h words =
      ap₂ (λ (k : Kinds) (w : Walk). or_else k (walk_fault s [] w words)) (at_place s position h) (goes s.rules position h)
