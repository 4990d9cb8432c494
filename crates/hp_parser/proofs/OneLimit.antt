-- A refusal names one limit: where the tokens up to and with a token begin a program if one limit is lifted, and none within the limits,
-- it is this limit that stops the reading there.
use Rattle.std.proofs.Common.{◌≡◌, ℕ, zero, suc, ◌+◌, Bool, true, false, List, [], ◌∷◌, ◌++◌, ◌⊎◌, inl, inr, Option, None, Some, refl, sym, ap, subst, ◌∙◌, append_assoc}
use Rattle.std.proofs.lemmas.List.{append-nil}
use Rattle.hp_base.specs.Limits.{most}
use Rattle.hp_base.specs.declared.limit.What.{What}
use Rattle.hp_base.specs.declared.limit.What.TheVariants.{Size, Name, Nest, Depth, Inputs, Outputs, Constructors, Types, Places, Total, Instances, Cells, Calls, Clock, Registers, Early, Control, Late, Text}
use Rattle.hp_base.specs.declared.limit.Limit.{Limit as PassedLimit}
use Rattle.hp_base.specs.declared.span.Span.{Span}
use Rattle.hp_tree.specs.declared.program.Item.{Item}
use Rattle.hp_tree.specs.Blocks.{Eqn}
use Rattle.hp_parser.specs.declared.fault.Fault.TheVariants.{Limit}
use Rattle.hp_parser.specs.Lexemes.{Lexeme, Kinds}
use Rattle.hp_parser.specs.Limits.{has_two}
use Rattle.hp_parser.specs.Notation.{Measured}
use Rattle.hp_parser.specs.declared.mode.Mode.{Mode}
use Rattle.hp_parser.specs.declared.mode.Mode.TheVariants.{Whole, Plain}
use Rattle.hp_parser.specs.Tokens.{begins_expression, begins_equation}
use Rattle.hp_parser.specs.Grammar.{Levels, levels}
use Rattle.hp_parser.specs.BlockGrammar.{equations}
use Rattle.hp_parser.specs.ProgramGrammar.{program}
use Rattle.hp_parser.specs.Outcomes.{done, refused}
use Rattle.hp_parser.specs.Relation.{Phrase, relation}
use Rattle.hp_parser.specs.Reading.{Reader, reading}
use Rattle.hp_parser.specs.Programs.{Begins, expressions, expression_of, blocks, programs, no_limit, IsProgram, IsLongerProgram, read_program}
use Rattle.hp_parser.specs.Refusals.{PassesLimit}
use Rattle.hp_parser.proofs.Ways.{Course}
use Rattle.hp_parser.proofs.Choices.{nothing}
use Rattle.hp_parser.proofs.LevelLaws.{Level, expression, delayed, implication, conjunction, comparison, sum, product, unary, pick, shift, first_at, goes_at, goes_expression, free_at, free_known, is_more, two_known, not_inside}
use Rattle.hp_parser.proofs.ProgramLaws.{goes_equations}
use Rattle.hp_parser.proofs.TokenSets.{is_inside, inside_seen}
use Rattle.hp_parser.proofs.LiftedPrograms.{same, same_is, not_both, only, shift_is}
use Rattle.hp_parser.proofs.Passes.{Shape, Complete, Comes, Passed, Number, Deep, pass}
use Rattle.hp_parser.proofs.ParseLaws.{reads_program, whole_program, whole_way, course}

-- the limits that are lifted
module _ (lifted : What → Bool) where
  -- what is known of a phrase
  pub record Facts (first goes : Kinds) (empty alive : Bool) {A : Type 0} (read : Reader A) (phrase : Phrase A) : Type 0 where
    pub shape : Shape first empty phrase
    pub complete : alive ≡ true → Complete lifted goes read phrase

  abbrev as_passed : {A : Type 0} (first goes : Kinds) (empty alive : Bool) (read : Reader A) (phrase : Phrase A) → Facts first goes empty alive read phrase → Passed lifted A
  as_passed first goes empty alive read phrase f = record {
    read = read;
    phrase = phrase;
    first = first;
    goes = goes;
    empty = empty;
    fits = true;
    alive = alive;
    shape = λ h. f.shape;
    complete = λ h k. f.complete k;
  }

  larger_shape : {A : Type 0} (first first_2 : Kinds) (empty : Bool) (phrase : Phrase A) → is_inside first first_2 ≡ true → Shape first empty phrase → Shape first_2 empty phrase
  larger_shape first first_2 empty phrase h s = record { first_is = λ x u a k. inside_seen first first_2 h x.kind (s.first_is x u a k); not_empty = s.not_empty }

  -- what a phrase shows, with larger sets
  shown : {A : Type 0} (s : Passed lifted A) (first goes : Kinds) (empty : Bool) → s.fits ≡ true → s.empty ≡ empty → is_inside s.first first ≡ true → is_inside s.goes goes ≡ true → s.alive ≡ true → Facts first goes empty true s.read s.phrase
  shown s first goes empty fits same_empty in_first in_goes alive = record {
    shape = larger_shape s.first first empty s.phrase in_first (subst (λ e. Shape s.first e s.phrase) same_empty (s.shape fits));
    complete = λ h u a rest k stops. s.complete fits alive u a rest k (not_inside s.goes goes rest (inside_seen s.goes goes in_goes) stops);
  }

  -- ---- expressions, level by level

  abbrev LevelFacts : Mode → Bool → Levels Reader → Levels Phrase → Type 0
  LevelFacts mode alive reads phrases = (l : Level) → Facts (first_at mode l) (goes_at mode l) false alive (pick l reads) (pick l phrases)

  abbrev level_passed : (mode : Mode) (alive : Bool) (reads : Levels Reader) (phrases : Levels Phrase) → LevelFacts mode alive reads phrases → Level → Passed lifted Measured
  level_passed mode alive reads phrases known l = as_passed (first_at mode l) (goes_at mode l) false alive (pick l reads) (pick l phrases) (known l)

  abbrev levels_passed : (mode : Mode) (alive : Bool) (reads : Levels Reader) (phrases : Levels Phrase) → LevelFacts mode alive reads phrases → Levels (Passed lifted)
  levels_passed mode alive reads phrases known = record {
    expression = level_passed mode alive reads phrases known expression;
    delayed = level_passed mode alive reads phrases known delayed;
    implication = level_passed mode alive reads phrases known implication;
    conjunction = level_passed mode alive reads phrases known conjunction;
    comparison = level_passed mode alive reads phrases known comparison;
    sum = level_passed mode alive reads phrases known sum;
    product = level_passed mode alive reads phrases known product;
    unary = level_passed mode alive reads phrases known unary;
  }

  -- a limit of the language that is kept, or lifted
  abbrev leveled : (what : What) (low wide : Option ℕ) (two : Bool) → has_two low ≡ two → (lifted what ≡ false → wide ≡ low) → Deep lifted
  leveled what low wide two is_two kept = record {
    low = low;
    wide = wide;
    two = two;
    is_two = is_two;
    opens = λ w. same w what;
    kept = λ w k l. kept (subst (λ v. lifted v ≡ false) (same_is w what k) l);
  }

  abbrev counted : (what : What) (low wide : Option ℕ) → (lifted what ≡ false → wide ≡ low) → Number lifted
  counted what low wide kept = record { low = low; wide = wide; opens = λ w. same w what; kept = λ w k l. kept (subst (λ v. lifted v ≡ false) (same_is w what k) l) }

  module _ (low wide : Option ℕ) (kept : lifted Depth ≡ false → wide ≡ low) where
    abbrev next_levels : (mode : Mode) (two : Bool) → has_two low ≡ two → (reads : Levels Reader) (phrases : Levels Phrase) → LevelFacts mode two reads phrases → Levels (Passed lifted)
    next_levels mode two is_two reads phrases known = levels (pass lifted) mode (leveled Depth low wide two is_two kept) (levels_passed mode two reads phrases known)

    level_step : (mode : Mode) (two : Bool) → has_two low ≡ two → (reads : Levels Reader) (phrases : Levels Phrase) → LevelFacts mode two reads phrases → LevelFacts mode true (levels reading mode low reads) (levels relation mode wide phrases)
    level_step Whole true is_two reads phrases known expression = shown (pick expression (next_levels Whole true is_two reads phrases known)) (first_at Whole expression) (goes_at Whole expression) false refl refl refl refl refl
    level_step Whole true is_two reads phrases known delayed = shown (pick delayed (next_levels Whole true is_two reads phrases known)) (first_at Whole delayed) (goes_at Whole delayed) false refl refl refl refl refl
    level_step Whole true is_two reads phrases known implication = shown (pick implication (next_levels Whole true is_two reads phrases known)) (first_at Whole implication) (goes_at Whole implication) false refl refl refl refl refl
    level_step Whole true is_two reads phrases known conjunction = shown (pick conjunction (next_levels Whole true is_two reads phrases known)) (first_at Whole conjunction) (goes_at Whole conjunction) false refl refl refl refl refl
    level_step Whole true is_two reads phrases known comparison = shown (pick comparison (next_levels Whole true is_two reads phrases known)) (first_at Whole comparison) (goes_at Whole comparison) false refl refl refl refl refl
    level_step Whole true is_two reads phrases known sum = shown (pick sum (next_levels Whole true is_two reads phrases known)) (first_at Whole sum) (goes_at Whole sum) false refl refl refl refl refl
    level_step Whole true is_two reads phrases known product = shown (pick product (next_levels Whole true is_two reads phrases known)) (first_at Whole product) (goes_at Whole product) false refl refl refl refl refl
    level_step Whole true is_two reads phrases known unary = shown (pick unary (next_levels Whole true is_two reads phrases known)) (first_at Whole unary) (goes_at Whole unary) false refl refl refl refl refl
    level_step Whole false is_two reads phrases known expression = shown (pick expression (next_levels Whole false is_two reads phrases known)) (first_at Whole expression) (goes_at Whole expression) false refl refl refl refl refl
    level_step Whole false is_two reads phrases known delayed = shown (pick delayed (next_levels Whole false is_two reads phrases known)) (first_at Whole delayed) (goes_at Whole delayed) false refl refl refl refl refl
    level_step Whole false is_two reads phrases known implication = shown (pick implication (next_levels Whole false is_two reads phrases known)) (first_at Whole implication) (goes_at Whole implication) false refl refl refl refl refl
    level_step Whole false is_two reads phrases known conjunction = shown (pick conjunction (next_levels Whole false is_two reads phrases known)) (first_at Whole conjunction) (goes_at Whole conjunction) false refl refl refl refl refl
    level_step Whole false is_two reads phrases known comparison = shown (pick comparison (next_levels Whole false is_two reads phrases known)) (first_at Whole comparison) (goes_at Whole comparison) false refl refl refl refl refl
    level_step Whole false is_two reads phrases known sum = shown (pick sum (next_levels Whole false is_two reads phrases known)) (first_at Whole sum) (goes_at Whole sum) false refl refl refl refl refl
    level_step Whole false is_two reads phrases known product = shown (pick product (next_levels Whole false is_two reads phrases known)) (first_at Whole product) (goes_at Whole product) false refl refl refl refl refl
    level_step Whole false is_two reads phrases known unary = shown (pick unary (next_levels Whole false is_two reads phrases known)) (first_at Whole unary) (goes_at Whole unary) false refl refl refl refl refl
    level_step Plain true is_two reads phrases known expression = shown (pick expression (next_levels Plain true is_two reads phrases known)) (first_at Plain expression) (goes_at Plain expression) false refl refl refl refl refl
    level_step Plain true is_two reads phrases known delayed = shown (pick delayed (next_levels Plain true is_two reads phrases known)) (first_at Plain delayed) (goes_at Plain delayed) false refl refl refl refl refl
    level_step Plain true is_two reads phrases known implication = shown (pick implication (next_levels Plain true is_two reads phrases known)) (first_at Plain implication) (goes_at Plain implication) false refl refl refl refl refl
    level_step Plain true is_two reads phrases known conjunction = shown (pick conjunction (next_levels Plain true is_two reads phrases known)) (first_at Plain conjunction) (goes_at Plain conjunction) false refl refl refl refl refl
    level_step Plain true is_two reads phrases known comparison = shown (pick comparison (next_levels Plain true is_two reads phrases known)) (first_at Plain comparison) (goes_at Plain comparison) false refl refl refl refl refl
    level_step Plain true is_two reads phrases known sum = shown (pick sum (next_levels Plain true is_two reads phrases known)) (first_at Plain sum) (goes_at Plain sum) false refl refl refl refl refl
    level_step Plain true is_two reads phrases known product = shown (pick product (next_levels Plain true is_two reads phrases known)) (first_at Plain product) (goes_at Plain product) false refl refl refl refl refl
    level_step Plain true is_two reads phrases known unary = shown (pick unary (next_levels Plain true is_two reads phrases known)) (first_at Plain unary) (goes_at Plain unary) false refl refl refl refl refl
    level_step Plain false is_two reads phrases known expression = shown (pick expression (next_levels Plain false is_two reads phrases known)) (first_at Plain expression) (goes_at Plain expression) false refl refl refl refl refl
    level_step Plain false is_two reads phrases known delayed = shown (pick delayed (next_levels Plain false is_two reads phrases known)) (first_at Plain delayed) (goes_at Plain delayed) false refl refl refl refl refl
    level_step Plain false is_two reads phrases known implication = shown (pick implication (next_levels Plain false is_two reads phrases known)) (first_at Plain implication) (goes_at Plain implication) false refl refl refl refl refl
    level_step Plain false is_two reads phrases known conjunction = shown (pick conjunction (next_levels Plain false is_two reads phrases known)) (first_at Plain conjunction) (goes_at Plain conjunction) false refl refl refl refl refl
    level_step Plain false is_two reads phrases known comparison = shown (pick comparison (next_levels Plain false is_two reads phrases known)) (first_at Plain comparison) (goes_at Plain comparison) false refl refl refl refl refl
    level_step Plain false is_two reads phrases known sum = shown (pick sum (next_levels Plain false is_two reads phrases known)) (first_at Plain sum) (goes_at Plain sum) false refl refl refl refl refl
    level_step Plain false is_two reads phrases known product = shown (pick product (next_levels Plain false is_two reads phrases known)) (first_at Plain product) (goes_at Plain product) false refl refl refl refl refl
    level_step Plain false is_two reads phrases known unary = shown (pick unary (next_levels Plain false is_two reads phrases known)) (first_at Plain unary) (goes_at Plain unary) false refl refl refl refl refl

  shape_free : (mode : Mode) (m : ℕ) (l : Level) → Shape (first_at mode l) false (free_at mode m l)
  shape_free mode m l = let f = (free_known mode m l).free_law.reads in record { first_is = f.first_is; not_empty = f.not_empty }

  levels_kept : lifted Depth ≡ false → (mode : Mode) (n : ℕ) → LevelFacts mode (is_more n) (expressions reading Some mode n) (expressions relation Some mode n)
  levels_kept kept mode zero = λ l. record { shape = shape_free mode zero l; complete = λ h. absurd cc }
  levels_kept kept mode (suc n) = level_step (Some (suc n)) (Some (suc n)) (λ l. refl) mode (is_more n) (two_known n) (expressions reading Some mode n) (expressions relation Some mode n) (levels_kept kept mode n)

  levels_freed : lifted Depth ≡ true → (mode : Mode) (n k : ℕ) → LevelFacts mode (is_more n) (expressions reading Some mode n) (expressions relation no_limit mode (shift n k))
  levels_freed free mode zero k = λ l. record { shape = shape_free mode (suc k) l; complete = λ h. absurd cc }
  levels_freed free mode (suc n) k =
      level_step (Some (suc n)) None (λ l. absurd (not_both (lifted Depth) l free)) mode (is_more n) (two_known n) (expressions reading Some mode n) (expressions relation no_limit mode (shift n k)) (levels_freed free mode n k)

  -- ---- blocks

  abbrev ExpressionFacts : (Mode → Reader Measured) → (Mode → Phrase Measured) → Type 0
  ExpressionFacts read phrase = (mode : Mode) → Facts (begins_expression mode) (goes_expression mode) false true (read mode) (phrase mode)

  module _ (read : Mode → Reader Measured) (phrase : Mode → Phrase Measured) (known : ExpressionFacts read phrase) where
    abbrev expression_passed : Mode → Passed lifted Measured
    expression_passed mode = as_passed (begins_expression mode) (goes_expression mode) false true (read mode) (phrase mode) (known mode)

    abbrev BlockFacts : Bool → Reader (List Eqn) → Phrase (List Eqn) → Type 0
    BlockFacts alive below p = Facts begins_equation goes_equations true alive below p

    abbrev block_passed : (alive : Bool) (below : Reader (List Eqn)) (p : Phrase (List Eqn)) → BlockFacts alive below p → Passed lifted (List Eqn)
    block_passed alive below p f = as_passed begins_equation goes_equations true alive below p f

    block_step : (low wide : Option ℕ) → (lifted Nest ≡ false → wide ≡ low) → (two : Bool) → has_two low ≡ two → (below : Reader (List Eqn)) (p : Phrase (List Eqn)) → BlockFacts two below p →
        BlockFacts true (equations reading read low below) (equations relation phrase wide p)
    block_step low wide kept true is_two below p f = shown (equations (pass lifted) expression_passed (leveled Nest low wide true is_two kept) (block_passed true below p f)) begins_equation goes_equations true refl refl refl refl refl
    block_step low wide kept false is_two below p f = shown (equations (pass lifted) expression_passed (leveled Nest low wide false is_two kept) (block_passed false below p f)) begins_equation goes_equations true refl refl refl refl refl

    -- the shape alone
    shape_only : (p : Phrase (List Eqn)) → Shape begins_equation true p → BlockFacts false (λ ts. done [] ts) p
    shape_only p s = record { shape = s; complete = λ h. absurd cc }

    abbrev next_blocks : (p : Phrase (List Eqn)) → Shape begins_equation true p → Passed lifted (List Eqn)
    next_blocks p s = equations (pass lifted) expression_passed (leveled Nest None None true refl (λ l. refl)) (block_passed false (λ ts. done [] ts) p (shape_only p s))

    block_shape : (m : ℕ) → Shape begins_equation true (blocks relation no_limit phrase m)
    block_shape zero = larger_shape nothing begins_equation true (blocks relation no_limit phrase zero) refl (((pass lifted).give []).shape refl)
    block_shape (suc m) =
        let s = next_blocks (blocks relation no_limit phrase m) (block_shape m) in
        larger_shape s.first begins_equation true (blocks relation no_limit phrase (suc m)) refl (s.shape refl)

    blocks_kept : lifted Nest ≡ false → (n : ℕ) → BlockFacts (is_more n) (blocks reading Some read n) (blocks relation Some phrase n)
    blocks_kept kept zero = record { shape = block_shape zero; complete = λ h. absurd cc }
    blocks_kept kept (suc n) = block_step (Some (suc n)) (Some (suc n)) (λ l. refl) (is_more n) (two_known n) (blocks reading Some read n) (blocks relation Some phrase n) (blocks_kept kept n)

    blocks_freed : lifted Nest ≡ true → (n k : ℕ) → BlockFacts (is_more n) (blocks reading Some read n) (blocks relation no_limit phrase (shift n k))
    blocks_freed free zero k = record { shape = block_shape (suc k); complete = λ h. absurd cc }
    blocks_freed free (suc n) k =
        block_step (Some (suc n)) None (λ l. absurd (not_both (lifted Nest) l free)) (is_more n) (two_known n) (blocks reading Some read n) (blocks relation no_limit phrase (shift n k)) (blocks_freed free n k)

    -- ---- programs

    module _ (below : Reader (List Eqn)) (p : Phrase (List Eqn)) (f : BlockFacts true below p) (types inputs outputs more_constructors : Option ℕ)
        (types_kept : lifted Types ≡ false → types ≡ Some 1000) (inputs_kept : lifted Inputs ≡ false → inputs ≡ Some 64) (outputs_kept : lifted Outputs ≡ false → outputs ≡ Some 64)
        (constructors_kept : lifted Constructors ≡ false → more_constructors ≡ Some 63) where
      abbrev program_passed : Passed lifted (List Item)
      program_passed = program (pass lifted) (counted Types (Some 1000) types types_kept) (counted Inputs (Some 64) inputs inputs_kept)
          (counted Outputs (Some 64) outputs outputs_kept) (counted Constructors (Some 63) more_constructors constructors_kept) expression_passed (block_passed true below p f)

      program_comes : (ts : List Lexeme) (a : List Item) → program relation types inputs outputs more_constructors phrase p ts a → Comes lifted a [] (program reading (Some 1000) (Some 64) (Some 64) (Some 63) read below ts)
      program_comes ts a h = subst (λ z. Comes lifted a [] (program reading (Some 1000) (Some 64) (Some 64) (Some 63) read below z)) (append-nil ts) (program_passed.complete refl refl ts a [] h refl)

-- ---- one limit is lifted

module _ (what : What) where
  kept : (w : What) (low wide : Option ℕ) → same w what ≡ true → only what w ≡ false → wide ≡ low
  kept w low wide t f = absurd (not_both (same w what) f t)

  expressions_kept : same Depth what ≡ false → ExpressionFacts (only what) (expression_of reading Some 200) (expression_of relation Some 200)
  expressions_kept f mode = levels_kept (only what) f mode 200 expression

  -- one of the numbers is lifted
  numbers : same Depth what ≡ false → same Nest what ≡ false → (types inputs outputs more_constructors : Option ℕ) →
      (only what Types ≡ false → types ≡ Some 1000) → (only what Inputs ≡ false → inputs ≡ Some 64) → (only what Outputs ≡ false → outputs ≡ Some 64) → (only what Constructors ≡ false → more_constructors ≡ Some 63) →
      (ts : List Lexeme) (p : List Item) → programs relation Some Some types inputs outputs more_constructors 200 64 ts p → Comes (only what) p [] (read_program ts)
  numbers d n = program_comes (only what) (expression_of reading Some 200) (expression_of relation Some 200) (expressions_kept d) (blocks reading Some (expression_of reading Some 200) 64) (blocks relation Some (expression_of relation Some 200) 64)
      (blocks_kept (only what) (expression_of reading Some 200) (expression_of relation Some 200) (expressions_kept d) n 64)

-- any number of levels of expressions
expressions_freed : (k : ℕ) → ExpressionFacts (only Depth) (expression_of reading Some 200) (expression_of relation no_limit (201 + k))
expressions_freed k = subst (λ e. ExpressionFacts (only Depth) (expression_of reading Some 200) (expression_of relation no_limit e)) (shift_is 200 k) (λ mode. levels_freed (only Depth) refl mode 200 k expression)

deep : (k : ℕ) (ts : List Lexeme) (p : List Item) → programs relation no_limit Some (Some 1000) (Some 64) (Some 64) (Some 63) (201 + k) 64 ts p → Comes (only Depth) p [] (read_program ts)
deep k = program_comes (only Depth) (expression_of reading Some 200) (expression_of relation no_limit (201 + k)) (expressions_freed k) (blocks reading Some (expression_of reading Some 200) 64) (blocks relation Some (expression_of relation no_limit (201 + k)) 64)
    (blocks_kept (only Depth) (expression_of reading Some 200) (expression_of relation no_limit (201 + k)) (expressions_freed k) refl 64) (Some 1000) (Some 64) (Some 64) (Some 63) (λ l. refl) (λ l. refl) (λ l. refl) (λ l. refl)

-- any number of blocks in each other
blocks_nested : (k : ℕ) → Facts (only Nest) begins_equation goes_equations true true (blocks reading Some (expression_of reading Some 200) 64) (blocks relation no_limit (expression_of relation Some 200) (65 + k))
blocks_nested k = subst (λ m. Facts (only Nest) begins_equation goes_equations true true (blocks reading Some (expression_of reading Some 200) 64) (blocks relation no_limit (expression_of relation Some 200) m)) (shift_is 64 k)
    (blocks_freed (only Nest) (expression_of reading Some 200) (expression_of relation Some 200) (expressions_kept Nest refl) refl 64 k)

nested : (k : ℕ) (ts : List Lexeme) (p : List Item) → programs relation Some no_limit (Some 1000) (Some 64) (Some 64) (Some 63) 200 (65 + k) ts p → Comes (only Nest) p [] (read_program ts)
nested k = program_comes (only Nest) (expression_of reading Some 200) (expression_of relation Some 200) (expressions_kept Nest refl) (blocks reading Some (expression_of reading Some 200) 64)
    (blocks relation no_limit (expression_of relation Some 200) (65 + k)) (blocks_nested k) (Some 1000) (Some 64) (Some 64) (Some 63) (λ l. refl) (λ l. refl) (λ l. refl) (λ l. refl)

-- a program where one limit is lifted is read, or this limit stops the reading
pub comes : (what : What) (ts : List Lexeme) (p : List Item) → IsLongerProgram what ts p → Comes (only what) p [] (read_program ts)
comes Depth ts p (k, h) = deep k ts p h
comes Nest ts p (k, h) = nested k ts p h
comes Types ts p h = numbers Types refl refl None (Some 64) (Some 64) (Some 63) (kept Types Types (Some 1000) None refl) (λ l. refl) (λ l. refl) (λ l. refl) ts p h
comes Inputs ts p h = numbers Inputs refl refl (Some 1000) None (Some 64) (Some 63) (λ l. refl) (kept Inputs Inputs (Some 64) None refl) (λ l. refl) (λ l. refl) ts p h
comes Outputs ts p h = numbers Outputs refl refl (Some 1000) (Some 64) None (Some 63) (λ l. refl) (λ l. refl) (kept Outputs Outputs (Some 64) None refl) (λ l. refl) ts p h
comes Constructors ts p h = numbers Constructors refl refl (Some 1000) (Some 64) (Some 64) None (λ l. refl) (λ l. refl) (λ l. refl) (kept Constructors Constructors (Some 63) None refl) ts p h
comes Size ts p h = inl (reads_program ts p h)
comes Name ts p h = inl (reads_program ts p h)
comes Places ts p h = inl (reads_program ts p h)
comes Total ts p h = inl (reads_program ts p h)
comes Instances ts p h = inl (reads_program ts p h)
comes Cells ts p h = inl (reads_program ts p h)
comes Calls ts p h = inl (reads_program ts p h)
comes Clock ts p h = inl (reads_program ts p h)
comes Registers ts p h = inl (reads_program ts p h)
comes Early ts p h = inl (reads_program ts p h)
comes Control ts p h = inl (reads_program ts p h)
comes Late ts p h = inl (reads_program ts p h)
comes Text ts p h = inl (reads_program ts p h)

-- ---- the limit that a refusal names is the one that stops the reading there

-- two ways to part tokens: at one place, or one before the other
parted : (u v : List Lexeme) (x y : Lexeme) (p q : List Lexeme) → u ++ (x ∷ p) ≡ v ++ (y ∷ q) →
    ((u ≡ v) × (x ∷ p ≡ y ∷ q)) ⊎ (((t : List Lexeme) × (v ≡ (u ++ (x ∷ [])) ++ t)) ⊎ ((t : List Lexeme) × (u ≡ v ++ (y ∷ t))))
parted [] [] x y p q e = inl (refl, e)
parted [] (z ∷ v) x y p q e = let same : x ≡ z = cc in inr (inl (v, ap (λ w. w ∷ v) (sym same)))
parted (z ∷ u) [] x y p q e = let same : z ≡ y = cc in inr (inr (u, ap (λ w. w ∷ u) same))
parted (z ∷ u) (w ∷ v) x y p q e =
    let same : z ≡ w = cc in
    let rest : u ++ (x ∷ p) ≡ v ++ (y ∷ q) = cc in
    elim (parted u v x y p q rest) [
      | inl a ↦ inl (ap (λ s. s ∷ u) same ∙ ap (λ s. w ∷ s) a.0, a.1)
      | inr b ↦ elim b [ inl c ↦ inr (inl (c.0, ap (λ s. s ∷ v) (sym same) ∙ ap (λ s. z ∷ s) c.1)) | inr d ↦ inr (inr (d.0, ap (λ s. s ∷ u) same ∙ ap (λ s. w ∷ s) d.1)) ]
    ]

module _ (ts : List Lexeme) (span : Span) (limit : PassedLimit) (h : PassesLimit ts span limit) where
  abbrev Met : Type 0
  Met = read_program ts ≡ refused (Limit limit.what) (h.next ∷ h.more)

  no_program : (v : List Lexeme) (p : List Item) → IsProgram (h.before ++ (h.next ∷ v)) p → ⊥
  no_program v p k = h.dead (v, p, subst (λ z. IsProgram z p) (sym (append_assoc h.before (h.next ∷ []) v)) k)

  met_at : (w : What) → w ≡ limit.what → (v u : List Lexeme) (y : Lexeme) (others : List Lexeme) → Begins IsProgram u →
      ((other : List Lexeme) → read_program (u ++ (y ∷ other)) ≡ refused (Limit w) (y ∷ other)) →
      ((h.before ≡ u) × (h.next ∷ v ≡ y ∷ others)) ⊎ (((t : List Lexeme) × (u ≡ (h.before ++ (h.next ∷ [])) ++ t)) ⊎ ((t : List Lexeme) × (h.before ≡ u ++ (y ∷ t)))) → Met
  met_at w same v u y others started again (inl (a, b)) =
      let head : y ≡ h.next = cc in
      ap read_program (h.split ∙ ap (λ z. z ++ (h.next ∷ h.more)) a ∙ ap (λ z. u ++ (z ∷ h.more)) (sym head)) ∙ again h.more ∙ ap (λ z. refused (Limit z) (y ∷ h.more)) same ∙ ap (λ z. refused (Limit limit.what) (z ∷ h.more)) head
  met_at w same v u y others (s, a, k) again (inr (inl (t, e))) =
      absurd (h.dead (t ++ s, a, subst (λ z. IsProgram z a) (ap (λ z. z ++ s) e ∙ append_assoc (h.before ++ (h.next ∷ [])) t s) k))
  met_at w same v u y others started again (inr (inr (t, e))) =
      let b = h.begun in
      let whole : h.before ++ b.0 ≡ u ++ (y ∷ (t ++ b.0)) = ap (λ z. z ++ b.0) e ∙ append_assoc u (y ∷ t) b.0 in
      absurd (let both : done b.1 [] ≡ refused (Limit w) (y ∷ (t ++ b.0)) = sym (reads_program (h.before ++ b.0) b.1 b.2) ∙ ap read_program whole ∙ again (t ++ b.0) in cc)

  met_by : (v : List Lexeme) (p : List Item) → Comes (only limit.what) p [] (read_program (h.before ++ (h.next ∷ v))) → Met
  met_by v p (inl e) = absurd (no_program v p (whole_program [] (h.before ++ (h.next ∷ v)) p e))
  met_by v p (inr (w, r, l, e)) = by (subst (Course (whole_way 0) (h.before ++ (h.next ∷ v))) e (course 0 (h.before ++ (h.next ∷ v)))) where
    by : Course (whole_way 0) (h.before ++ (h.next ∷ v)) (refused (Limit w) r) → Met
    by (u, f, started, again, (y, others, g, long)) =
        met_at w (same_is w limit.what l) v u y others started (λ other. again y others other g) (parted h.before u h.next y v others (f ∙ ap (λ z. u ++ z) g))

  -- this very limit stops the reading there
  pub met : Met
  met =
      let b = h.lifted in
      met_by b.0 b.1 (comes limit.what (h.before ++ (h.next ∷ b.0)) b.1 (subst (λ z. IsLongerProgram limit.what z b.1) (append_assoc h.before (h.next ∷ []) b.0) b.2))

same_limit : (l m : PassedLimit) → l.what ≡ m.what → l.found ≡ suc (most l.what) → m.found ≡ suc (most m.what) → l ≡ m
same_limit l m same f g = ap (λ n. record { what = l.what; found = n }) f ∙ ap (λ w. record { what = w; found = suc (most w) }) same ∙ ap (λ n. record { what = m.what; found = n }) (sym g)

same_place : (s t : Span) (x y : Lexeme) → s ≡ x.span → x ≡ y → t ≡ y.span → s ≡ t
same_place s t x y e f g = e ∙ ap (λ (z : Lexeme). z.span) f ∙ sym g

-- tokens pass one limit, at one token
pub one_limit : (ts : List Lexeme) (s t : Span) (l m : PassedLimit) → PassesLimit ts s l → PassesLimit ts t m → (l ≡ m) × (s ≡ t)
one_limit ts s t l m h k =
    let both : refused (Limit l.what) (h.next ∷ h.more) ≡ refused (Limit m.what) (k.next ∷ k.more) = sym (met ts s l h) ∙ met ts t m k in
    let same : l.what ≡ m.what = cc in
    let token : h.next ≡ k.next = cc in
    (same_limit l m same h.found k.found, same_place s t h.next k.next h.place token k.place)
