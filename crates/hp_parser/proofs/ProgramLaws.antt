-- The laws of equations and of programs.
use Rattle.std.proofs.Common.{◌≡◌, ℕ, zero, suc, Bool, true, false, List, [], Option, None, Some, refl}
use Rattle.hp_lexer.specs.declared.token.Sign.TheVariants as sign
use Rattle.hp_tree.specs.declared.program.Item.{Item}
use Rattle.hp_tree.specs.Blocks.{Eqn}
use Rattle.hp_parser.specs.Lexemes.{Kinds}
use Rattle.hp_parser.specs.Limits.{has_two}
use Rattle.hp_parser.specs.Notation.{Measured}
use Rattle.hp_parser.specs.declared.mode.Mode.{Mode}
use Rattle.hp_parser.specs.declared.mode.Mode.TheVariants.{Whole}
use Rattle.hp_parser.specs.Tokens.{sign_of, begins_equation, begins_expression, begins_item}
use Rattle.hp_parser.specs.BlockGrammar.{equations}
use Rattle.hp_parser.specs.ProgramGrammar.{program}
use Rattle.hp_parser.specs.Relation.{relation}
use Rattle.hp_parser.specs.Reading.{reading}
use Rattle.hp_parser.specs.Programs.{expression_of, blocks, programs, no_limit}
use Rattle.hp_parser.proofs.Ways.{Way, union}
use Rattle.hp_parser.proofs.Choices.{give_free}
use Rattle.hp_parser.proofs.Sound.{Sound, sound}
use Rattle.hp_parser.proofs.TokenSets.{inside_seen}
use Rattle.hp_parser.proofs.LevelLaws.{Facts, as_sound, facts, larger_free, expression, goes_expression, is_more, way_at, shift, two_known}

-- ---- expressions, for what stands above them

abbrev pub expression_way : Mode → ℕ → ℕ → Way Measured
expression_way mode n m = way_at mode n m expression

abbrev pub ExpressionFacts : ℕ → ℕ → Bool → Type 0
ExpressionFacts n m alive = (mode : Mode) → Facts (begins_expression mode) (goes_expression mode) false (expression_way mode n m) alive true

abbrev pub expression_sound : (n m : ℕ) (alive : Bool) → ExpressionFacts n m alive → Mode → Sound Measured
expression_sound n m alive e mode = as_sound (begins_expression mode) (goes_expression mode) false alive true (expression_way mode n m) (e mode)

-- ---- equations

abbrev pub goes_equations : Kinds
goes_equations = union (union (sign_of sign.Semicolon) (goes_expression Whole)) begins_equation

-- expressions of at most d levels, and e without limits; blocks of at most n, and m without limits
abbrev pub equations_way : (d e n m : ℕ) → Way (List Eqn)
equations_way d e n m = record {
  read = blocks reading Some (expression_of reading Some d) n;
  free_read = blocks reading no_limit (expression_of reading no_limit e) m;
  phrase = blocks relation Some (expression_of relation Some d) n;
  free = blocks relation no_limit (expression_of relation no_limit e) m;
}

abbrev pub EquationsFacts : (d e n m : ℕ) (alive starts : Bool) → Type 0
EquationsFacts d e n m alive starts = Facts begins_equation goes_equations true (equations_way d e n m) alive starts

abbrev pub equations_sound : (d e n m : ℕ) (alive starts : Bool) → EquationsFacts d e n m alive starts → Sound (List Eqn)
equations_sound d e n m alive starts f = as_sound begins_equation goes_equations true alive starts (equations_way d e n m) f

abbrev next_equations : (d e n m : ℕ) (two starts : Bool) → has_two (Some (suc n)) ≡ two → ExpressionFacts d e true → EquationsFacts d e n m two starts → Sound (List Eqn)
next_equations d e n m two starts is_two expressions f =
    equations sound (expression_sound d e true expressions) (record { limit = Some (suc n); two = two; is_two = is_two }) (equations_sound d e n m two starts f)

-- the laws without limits alone
no_law : (d e n m : ℕ) (starts : Bool) → EquationsFacts d e n m true starts → EquationsFacts d e n m false starts
no_law d e n m starts f = record { free_law = f.free_law; start = f.start; law = λ h. absurd cc }

free_equations : (d e n m : ℕ) → ExpressionFacts d e true → EquationsFacts d e zero m false (is_more m)
free_equations d e n zero expressions = record {
  free_law = larger_free (λ k. false) (λ k. false) begins_equation goes_equations true (inside_seen (λ k. false) begins_equation refl) (inside_seen (λ k. false) goes_equations refl)
      (blocks reading no_limit (expression_of reading no_limit e) zero) (blocks relation no_limit (expression_of relation no_limit e) zero) (give_free []);
  start = λ h. absurd cc;
  law = λ h. absurd cc;
}
free_equations d e n (suc m) expressions =
    let lower = free_equations d e n m expressions in
    let f = facts (next_equations d e zero m false (is_more m) refl expressions lower) begins_equation goes_equations true false true refl refl refl refl refl (λ h. absurd cc) (λ h. refl) in
    record { free_law = f.free_law; start = f.start; law = λ h. absurd cc }

equations_step : (d e n m : ℕ) (two : Bool) (is_two : has_two (Some (suc n)) ≡ two) → ExpressionFacts d e true → EquationsFacts d e n m two true → EquationsFacts d e (suc n) (suc m) true true
equations_step d e n m true is_two expressions f =
    facts (next_equations d e n m true true is_two expressions f) begins_equation goes_equations true true true refl refl refl refl refl (λ h. refl) (λ h. refl)
equations_step d e n m false is_two expressions f =
    facts (next_equations d e n m false true is_two expressions f) begins_equation goes_equations true true true refl refl refl refl refl (λ h. refl) (λ h. refl)

pub equations_known : (d e n k : ℕ) → ExpressionFacts d e true → EquationsFacts d e n (shift n k) (is_more n) true
equations_known d e zero k expressions = free_equations d e zero (suc k) expressions
equations_known d e (suc n) k expressions = equations_step d e n (shift n k) (is_more n) (two_known n) expressions (equations_known d e n k expressions)

-- ---- programs

module _ (types inputs outputs more_constructors : Option ℕ) where
  abbrev pub program_way : (d e n m : ℕ) → Way (List Item)
  program_way d e n m = record {
    read = programs reading Some Some types inputs outputs more_constructors d n;
    free_read = programs reading no_limit no_limit None None None None e m;
    phrase = programs relation Some Some types inputs outputs more_constructors d n;
    free = programs relation no_limit no_limit None None None None e m;
  }

  abbrev pub program_sound : (d e n m : ℕ) → ExpressionFacts d e true → EquationsFacts d e n m true true → Sound (List Item)
  program_sound d e n m expressions f =
      program sound types inputs outputs more_constructors (expression_sound d e true expressions) (equations_sound d e n m true true f)

  -- the laws of programs within limits
  pub program_facts : (d e n m : ℕ) (expressions : ExpressionFacts d e true) (f : EquationsFacts d e n m true true) → Facts begins_item (program_sound d e n m expressions f).goes true (program_way d e n m) true true
  program_facts d e n m expressions f =
      facts (program_sound d e n m expressions f) begins_item (program_sound d e n m expressions f).goes true true true refl refl refl refl refl (λ h. refl) (λ h. refl)
