-- Where a limit stops the reading of a program, the tokens up to and with the refused one begin a program where that one limit is lifted.
use Rattle.std.proofs.Common.{◌≡◌, ℕ, zero, suc, ◌+◌, arith, Bool, true, false, ◌==◌, eqb-true, T, List, [], ◌∷◌, ◌++◌, inl, inr, Option, None, Some, refl, sym, ap, subst, ◌∙◌}
use Rattle.std.proofs.Math.Dec.{eqb_refl}
use Rattle.hp_base.specs.declared.limit.What.{What}
use Rattle.hp_base.specs.declared.limit.What.TheVariants.{Size, Name, Nest, Depth, Inputs, Outputs, Constructors, Types, Places, Total, Instances, Cells, Calls, Clock, Registers, Early, Control, Late, Text}
use Rattle.hp_tree.specs.declared.program.Item.{Item}
use Rattle.hp_tree.specs.Blocks.{Eqn}
use Rattle.hp_tree.specs.Expressions.{variable}
use Rattle.hp_parser.specs.declared.fault.Fault.TheVariants.{Limit}
use Rattle.hp_parser.specs.Lexemes.{Lexeme, Kinds, is_ahead}
use Rattle.hp_parser.specs.Notation.{Measured}
use Rattle.hp_parser.specs.declared.mode.Mode.{Mode}
use Rattle.hp_parser.specs.declared.mode.Mode.TheVariants.{Whole, Plain}
use Rattle.hp_parser.specs.Tokens.{begins_expression, small}
use Rattle.hp_parser.specs.Grammar.{Levels, levels, of_token, atom, unary as unary_phrase, product as product_phrase, sum as sum_phrase, comparison as comparison_phrase, conjunction as conjunction_phrase, implication as implication_phrase, delayed as delayed_phrase, expression as expression_phrase}
use Rattle.hp_parser.specs.BlockGrammar.{equations}
use Rattle.hp_parser.specs.ProgramGrammar.{program}
use Rattle.hp_parser.specs.Outcomes.{refused}
use Rattle.hp_parser.specs.Relation.{Phrase, Suffix, Suffixes, relation}
use Rattle.hp_parser.specs.Reading.{Reader, reading}
use Rattle.hp_parser.specs.Programs.{name, lowest, expressions, expression_of, blocks, programs, no_limit, IsProgram, IsLongerProgram, read_program}
use Rattle.hp_parser.proofs.Choices.{nothing}
use Rattle.hp_parser.proofs.TokenSets.{is_inside, inside_seen}
use Rattle.hp_parser.proofs.LevelLaws.{Level, expression, delayed, implication, conjunction, comparison, sum, product, unary, pick, shift, free_known}
use Rattle.hp_parser.proofs.Leads.{Reaches, Wider, Leads, leads_on}
use Rattle.hp_parser.proofs.Lifts.{Laws, Lift, Count, lift}

-- ---- limits are told apart by numbers

abbrev limit_number : What → ℕ
limit_number Size = 0
limit_number Name = 1
limit_number Nest = 2
limit_number Depth = 3
limit_number Inputs = 4
limit_number Outputs = 5
limit_number Constructors = 6
limit_number Types = 7
limit_number Places = 8
limit_number Total = 9
limit_number Instances = 10
limit_number Cells = 11
limit_number Calls = 12
limit_number Clock = 13
limit_number Registers = 14
limit_number Early = 15
limit_number Control = 16
limit_number Late = 17
limit_number Text = 18

abbrev limits : List What
limits = Size ∷ Name ∷ Nest ∷ Depth ∷ Inputs ∷ Outputs ∷ Constructors ∷ Types ∷ Places ∷ Total ∷ Instances ∷ Cells ∷ Calls ∷ Clock ∷ Registers ∷ Early ∷ Control ∷ Late ∷ Text ∷ []

nth : List What → ℕ → Option What
nth [] n = None
nth (x ∷ xs) zero = Some x
nth (x ∷ xs) (suc n) = nth xs n

limit_at : (w : What) → nth limits (limit_number w) ≡ Some w
unfolding nth
limit_at Size = refl
limit_at Name = refl
limit_at Nest = refl
limit_at Depth = refl
limit_at Inputs = refl
limit_at Outputs = refl
limit_at Constructors = refl
limit_at Types = refl
limit_at Places = refl
limit_at Total = refl
limit_at Instances = refl
limit_at Cells = refl
limit_at Calls = refl
limit_at Clock = refl
limit_at Registers = refl
limit_at Early = refl
limit_at Control = refl
limit_at Late = refl
limit_at Text = refl

abbrev pub same : What → What → Bool
same w v = limit_number w == limit_number v

pub same_is : (w v : What) → same w v ≡ true → w ≡ v
same_is w v h = let found : Some w ≡ Some v = sym (limit_at w) ∙ ap (nth limits) (eqb-true (limit_number w) (limit_number v) h) ∙ limit_at v in cc

same_self : (w : What) → same w w ≡ true
same_self w = truth (same w w) (eqb_refl (limit_number w)) where
  truth : (b : Bool) → T b → b ≡ true
  truth true h = refl
  truth false h = absurd h

pub not_both : (b : Bool) → b ≡ false → b ≡ true → ⊥
not_both b f t = absurd (let no : false ≡ true = sym f ∙ t in cc)

-- the limits that are lifted
module _ (lifted : What → Bool) where
  -- a limit of the language that is kept, or lifted
  abbrev counted : (what : What) (low wide : Option ℕ) → Wider low wide → (lifted what ≡ true → wide ≡ None) → Count lifted
  counted what low wide wider freed = record {
    low = low;
    wide = wide;
    wider = wider;
    opens = λ w. same w what;
    freed = λ w k l. freed (subst (λ v. lifted v ≡ true) (same_is w what k) l);
  }

  abbrev as_lift : {A : Type 0} (first : Kinds) (empty : Bool) (starts : What → Bool) (read : Reader A) (phrase : Phrase A) → Laws lifted first empty starts read phrase → Lift lifted A
  as_lift first empty starts read phrase l = record { read = read; phrase = phrase; first = first; empty = empty; starts = starts; fits = true; laws = λ h. l }

  -- ---- expressions, level by level

  abbrev level_first : Mode → Level → Kinds
  level_first mode expression = begins_expression mode
  level_first mode l = nothing

  abbrev level_starts : Level → What → Bool
  level_starts expression w = same w Depth
  level_starts l w = false

  abbrev LevelLaws : Mode → Levels Reader → Levels Phrase → Type 0
  LevelLaws mode reads phrases = (l : Level) → Laws lifted (level_first mode l) false (level_starts l) (pick l reads) (pick l phrases)

  abbrev level_lift : (mode : Mode) (reads : Levels Reader) (phrases : Levels Phrase) → LevelLaws mode reads phrases → Level → Lift lifted Measured
  level_lift mode reads phrases known l = as_lift (level_first mode l) false (level_starts l) (pick l reads) (pick l phrases) (known l)

  abbrev level_lifts : (mode : Mode) (reads : Levels Reader) (phrases : Levels Phrase) → LevelLaws mode reads phrases → Levels (Lift lifted)
  level_lifts mode reads phrases known = record {
    expression = level_lift mode reads phrases known expression;
    delayed = level_lift mode reads phrases known delayed;
    implication = level_lift mode reads phrases known implication;
    conjunction = level_lift mode reads phrases known conjunction;
    comparison = level_lift mode reads phrases known comparison;
    sum = level_lift mode reads phrases known sum;
    product = level_lift mode reads phrases known product;
    unary = level_lift mode reads phrases known unary;
  }

  -- what a phrase shows
  plain : {A : Type 0} (s : Lift lifted A) → s.fits ≡ true → s.empty ≡ false → Laws lifted nothing false (λ w. false) s.read s.phrase
  plain s fits empty = let l = s.laws fits in record { leads = l.leads; begun = l.begun; full = λ e. l.full empty; start = λ w k h. absurd cc }

  begun_by : (first : Kinds) (s : Lift lifted Measured) → s.fits ≡ true → s.empty ≡ false → is_inside first s.first ≡ true → s.starts Depth ≡ true → Laws lifted first false (λ w. same w Depth) s.read s.phrase
  begun_by first s fits empty inside starts = let l = s.laws fits in record {
    leads = l.leads;
    begun = l.begun;
    full = λ e. l.full empty;
    start = λ w k h x e. l.start Depth (subst (λ v. lifted v ≡ true) (same_is w Depth h) k) starts x (inside_seen first s.first inside x.kind e);
  }

  module _ (low wide : Option ℕ) (wider : Wider low wide) (freed : lifted Depth ≡ true → wide ≡ None) where
    abbrev next_levels : (mode : Mode) (reads : Levels Reader) (phrases : Levels Phrase) → LevelLaws mode reads phrases → Levels (Lift lifted)
    next_levels mode reads phrases known = levels (lift lifted) mode (counted Depth low wide wider freed) (level_lifts mode reads phrases known)

    level_step : (mode : Mode) (reads : Levels Reader) (phrases : Levels Phrase) → LevelLaws mode reads phrases → LevelLaws mode (levels reading mode low reads) (levels relation mode wide phrases)
    level_step Whole reads phrases known expression = begun_by (begins_expression Whole) (pick expression (next_levels Whole reads phrases known)) refl refl refl refl
    level_step Whole reads phrases known delayed = plain (pick delayed (next_levels Whole reads phrases known)) refl refl
    level_step Whole reads phrases known implication = plain (pick implication (next_levels Whole reads phrases known)) refl refl
    level_step Whole reads phrases known conjunction = plain (pick conjunction (next_levels Whole reads phrases known)) refl refl
    level_step Whole reads phrases known comparison = plain (pick comparison (next_levels Whole reads phrases known)) refl refl
    level_step Whole reads phrases known sum = plain (pick sum (next_levels Whole reads phrases known)) refl refl
    level_step Whole reads phrases known product = plain (pick product (next_levels Whole reads phrases known)) refl refl
    level_step Whole reads phrases known unary = plain (pick unary (next_levels Whole reads phrases known)) refl refl
    level_step Plain reads phrases known expression = begun_by (begins_expression Plain) (pick expression (next_levels Plain reads phrases known)) refl refl refl refl
    level_step Plain reads phrases known delayed = plain (pick delayed (next_levels Plain reads phrases known)) refl refl
    level_step Plain reads phrases known implication = plain (pick implication (next_levels Plain reads phrases known)) refl refl
    level_step Plain reads phrases known conjunction = plain (pick conjunction (next_levels Plain reads phrases known)) refl refl
    level_step Plain reads phrases known comparison = plain (pick comparison (next_levels Plain reads phrases known)) refl refl
    level_step Plain reads phrases known sum = plain (pick sum (next_levels Plain reads phrases known)) refl refl
    level_step Plain reads phrases known product = plain (pick product (next_levels Plain reads phrases known)) refl refl
    level_step Plain reads phrases known unary = plain (pick unary (next_levels Plain reads phrases known)) refl refl

  -- a name stands on every level
  module _ (mode : Mode) (depth : Option ℕ) (lower : Levels Phrase) (u : List Lexeme) (m : Measured) (h : name relation u m) where
    on_atom : (t : Lexeme) → (u ≡ t ∷ []) × (small t.kind ≡ true) → of_token t (λ s. variable s t.bytes) ≡ m → atom relation mode depth lower u m
    on_atom t (e, k) f = inl (refl, ap (is_ahead small) e ∙ k, ((t, None), (t ∷ [], [], e, (refl, k), inr (refl, refl)), f))

    on_unary : unary_phrase relation mode depth lower u m
    on_unary = inr (on_atom h.0 h.1 h.2)

    on_product : product_phrase relation mode depth lower u m
    on_product = Suffixes.none on_unary

    on_sum : sum_phrase relation mode depth lower u m
    on_sum = Suffixes.none on_product

    on_comparison : comparison_phrase relation mode depth lower u m
    on_comparison = Suffix.none on_sum

    on_conjunction : conjunction_phrase relation mode depth lower u m
    on_conjunction = Suffixes.none on_comparison

    on_implication : implication_phrase relation mode depth lower u m
    on_implication = Suffix.none (Suffixes.none on_conjunction)

    on_delayed : delayed_phrase relation mode depth lower u m
    on_delayed = Suffix.none on_implication

    on_expression : expression_phrase relation mode depth lower u m
    on_expression = inr (Suffix.none (Suffixes.none on_delayed))

    name_level : (l : Level) → pick l (levels relation mode depth lower) u m
    name_level expression = on_expression
    name_level delayed = on_delayed
    name_level implication = on_implication
    name_level conjunction = on_conjunction
    name_level comparison = on_comparison
    name_level sum = on_sum
    name_level product = on_product
    name_level unary = on_unary

  name_laws : Laws lifted small false (λ w. true) (name reading) (name relation)
  name_laws = (name (lift lifted)).laws refl

  -- the lowest level, where the number of levels is kept
  module _ (kept : lifted Depth ≡ false) where
    lowest_kept : (mode : Mode) → LevelLaws mode (lowest reading) (lowest relation)
    lowest_kept mode expression = record {
      leads = name_laws.leads;
      begun = name_laws.begun;
      full = name_laws.full;
      start = λ w k h. absurd (not_both (lifted Depth) kept (subst (λ v. lifted v ≡ true) (same_is w Depth h) k));
    }
    lowest_kept mode delayed = plain (name (lift lifted)) refl refl
    lowest_kept mode implication = plain (name (lift lifted)) refl refl
    lowest_kept mode conjunction = plain (name (lift lifted)) refl refl
    lowest_kept mode comparison = plain (name (lift lifted)) refl refl
    lowest_kept mode sum = plain (name (lift lifted)) refl refl
    lowest_kept mode product = plain (name (lift lifted)) refl refl
    lowest_kept mode unary = plain (name (lift lifted)) refl refl

    levels_kept : (mode : Mode) (n : ℕ) → LevelLaws mode (expressions reading Some mode n) (expressions relation Some mode n)
    levels_kept mode zero = lowest_kept mode
    levels_kept mode (suc n) = level_step (Some (suc n)) (Some (suc n)) (inr refl) (λ l. absurd (not_both (lifted Depth) kept l)) mode (expressions reading Some mode n) (expressions relation Some mode n) (levels_kept mode n)

  -- the lowest level, where it is lifted
  lowest_reads : (mode : Mode) (k : ℕ) (l : Level) (ts : List Lexeme) → Leads lifted (pick l (expressions relation no_limit mode (suc k))) ts (name reading ts)
  lowest_reads mode k l ts = leads_on lifted (name relation) (pick l (expressions relation no_limit mode (suc k))) ts (name reading ts)
      (λ u m head h. name_level mode None (expressions relation no_limit mode k) u m h l) (name_laws.leads ts)

  lowest_freed : (mode : Mode) (k : ℕ) → LevelLaws mode (lowest reading) (expressions relation no_limit mode (suc k))
  lowest_freed mode k expression = let f = free_known mode (suc k) expression in record { leads = lowest_reads mode k expression; begun = f.free_law.begins; full = λ e. f.free_law.reads.not_empty refl; start = λ w l h. f.start refl }
  lowest_freed mode k delayed = let f = free_known mode (suc k) delayed in record { leads = lowest_reads mode k delayed; begun = f.free_law.begins; full = λ e. f.free_law.reads.not_empty refl; start = λ w l h. absurd cc }
  lowest_freed mode k implication = let f = free_known mode (suc k) implication in record { leads = lowest_reads mode k implication; begun = f.free_law.begins; full = λ e. f.free_law.reads.not_empty refl; start = λ w l h. absurd cc }
  lowest_freed mode k conjunction = let f = free_known mode (suc k) conjunction in record { leads = lowest_reads mode k conjunction; begun = f.free_law.begins; full = λ e. f.free_law.reads.not_empty refl; start = λ w l h. absurd cc }
  lowest_freed mode k comparison = let f = free_known mode (suc k) comparison in record { leads = lowest_reads mode k comparison; begun = f.free_law.begins; full = λ e. f.free_law.reads.not_empty refl; start = λ w l h. absurd cc }
  lowest_freed mode k sum = let f = free_known mode (suc k) sum in record { leads = lowest_reads mode k sum; begun = f.free_law.begins; full = λ e. f.free_law.reads.not_empty refl; start = λ w l h. absurd cc }
  lowest_freed mode k product = let f = free_known mode (suc k) product in record { leads = lowest_reads mode k product; begun = f.free_law.begins; full = λ e. f.free_law.reads.not_empty refl; start = λ w l h. absurd cc }
  lowest_freed mode k unary = let f = free_known mode (suc k) unary in record { leads = lowest_reads mode k unary; begun = f.free_law.begins; full = λ e. f.free_law.reads.not_empty refl; start = λ w l h. absurd cc }

  levels_freed : (mode : Mode) (n k : ℕ) → LevelLaws mode (expressions reading Some mode n) (expressions relation no_limit mode (shift n k))
  levels_freed mode zero k = lowest_freed mode k
  levels_freed mode (suc n) k = level_step (Some (suc n)) None (inl refl) (λ l. refl) mode (expressions reading Some mode n) (expressions relation no_limit mode (shift n k)) (levels_freed mode n k)

  -- ---- blocks

  abbrev ExpressionLaws : (Mode → Reader Measured) → (Mode → Phrase Measured) → Type 0
  ExpressionLaws read phrase = (mode : Mode) → Laws lifted (begins_expression mode) false (λ w. same w Depth) (read mode) (phrase mode)

  module _ (read : Mode → Reader Measured) (phrase : Mode → Phrase Measured) (known : ExpressionLaws read phrase) where
    abbrev expression_lift : Mode → Lift lifted Measured
    expression_lift mode = as_lift (begins_expression mode) false (λ w. same w Depth) (read mode) (phrase mode) (known mode)

    abbrev BlockLaws : Reader (List Eqn) → Phrase (List Eqn) → Type 0
    BlockLaws below p = Laws lifted nothing true (λ w. false) below p

    abbrev block_lift : (below : Reader (List Eqn)) (p : Phrase (List Eqn)) → BlockLaws below p → Lift lifted (List Eqn)
    block_lift below p l = as_lift nothing true (λ w. false) below p l

    -- what phrases that may be empty show
    loose : {A : Type 0} (s : Lift lifted A) → s.fits ≡ true → Laws lifted nothing true (λ w. false) s.read s.phrase
    loose s fits = let l = s.laws fits in record { leads = l.leads; begun = l.begun; full = λ e. absurd cc; start = λ w k h. absurd cc }

    block_step : (low wide : Option ℕ) → Wider low wide → (lifted Nest ≡ true → wide ≡ None) → (below : Reader (List Eqn)) (p : Phrase (List Eqn)) → BlockLaws below p → BlockLaws (equations reading read low below) (equations relation phrase wide p)
    block_step low wide wider freed below p l = loose (equations (lift lifted) expression_lift (counted Nest low wide wider freed) (block_lift below p l)) refl

    blocks_kept : lifted Nest ≡ false → (n : ℕ) → BlockLaws (blocks reading Some read n) (blocks relation Some phrase n)
    blocks_kept kept zero = loose ((lift lifted).give []) refl
    blocks_kept kept (suc n) = block_step (Some (suc n)) (Some (suc n)) (inr refl) (λ l. absurd (not_both (lifted Nest) kept l)) (blocks reading Some read n) (blocks relation Some phrase n) (blocks_kept kept n)

    blocks_freed : (n k : ℕ) → BlockLaws (blocks reading Some read n) (blocks relation no_limit phrase (shift n k))
    blocks_freed zero k = record { leads = λ ts. ([], refl, inr (refl, refl)); begun = ([], [], inr (refl, refl)); full = λ e. absurd cc; start = λ w l h. absurd cc }
    blocks_freed (suc n) k = block_step (Some (suc n)) None (inl refl) (λ l. refl) (blocks reading Some read n) (blocks relation no_limit phrase (shift n k)) (blocks_freed n k)

    -- ---- programs

    module _ (below : Reader (List Eqn)) (p : Phrase (List Eqn)) (l : BlockLaws below p) (types inputs outputs more_constructors : Option ℕ)
        (types_wider : Wider (Some 1000) types) (inputs_wider : Wider (Some 64) inputs) (outputs_wider : Wider (Some 64) outputs) (constructors_wider : Wider (Some 63) more_constructors)
        (types_freed : lifted Types ≡ true → types ≡ None) (inputs_freed : lifted Inputs ≡ true → inputs ≡ None) (outputs_freed : lifted Outputs ≡ true → outputs ≡ None)
        (constructors_freed : lifted Constructors ≡ true → more_constructors ≡ None) where
      program_leads : (ts : List Lexeme) → Leads lifted (program relation types inputs outputs more_constructors phrase p) ts (program reading (Some 1000) (Some 64) (Some 64) (Some 63) read below ts)
      program_leads = (loose (program (lift lifted) (counted Types (Some 1000) types types_wider types_freed) (counted Inputs (Some 64) inputs inputs_wider inputs_freed)
          (counted Outputs (Some 64) outputs outputs_wider outputs_freed) (counted Constructors (Some 63) more_constructors constructors_wider constructors_freed) expression_lift (block_lift below p l)) refl).leads

-- ---- which limit stops the reading of a program

pub shift_is : (n k : ℕ) → shift n k ≡ suc n + k
shift_is zero k = omega arith
shift_is (suc n) k = let e = shift_is n k in omega (arith, e)

-- one limit is lifted
module _ (what : What) where
  abbrev pub only : What → Bool
  only w = same w what

  kept : (w : What) (low : Option ℕ) → same w what ≡ false → only w ≡ true → low ≡ None
  kept w low f l = absurd (not_both (same w what) f l)

  expressions_kept : same Depth what ≡ false → ExpressionLaws only (expression_of reading Some 200) (expression_of relation Some 200)
  expressions_kept f mode = levels_kept only f mode 200 expression

  -- one of the numbers is lifted, or none
  numbers : same Depth what ≡ false → same Nest what ≡ false → (types inputs outputs more_constructors : Option ℕ) →
      Wider (Some 1000) types → Wider (Some 64) inputs → Wider (Some 64) outputs → Wider (Some 63) more_constructors →
      (only Types ≡ true → types ≡ None) → (only Inputs ≡ true → inputs ≡ None) → (only Outputs ≡ true → outputs ≡ None) → (only Constructors ≡ true → more_constructors ≡ None) →
      (ts : List Lexeme) → Leads only (programs relation Some Some types inputs outputs more_constructors 200 64) ts (read_program ts)
  numbers d n = program_leads only (expression_of reading Some 200) (expression_of relation Some 200) (expressions_kept d) (blocks reading Some (expression_of reading Some 200) 64) (blocks relation Some (expression_of relation Some 200) 64)
      (blocks_kept only (expression_of reading Some 200) (expression_of relation Some 200) (expressions_kept d) n 64)

  stopped : (p : Phrase (List Item)) (ts rest : List Lexeme) → read_program ts ≡ refused (Limit what) rest → Leads only p ts (read_program ts) → Reaches p ts rest
  stopped p ts rest e c = (subst (Leads only p ts) e c) (same_self what)

  -- none of the limits that reading knows
  other : same Depth what ≡ false → same Nest what ≡ false → same Types what ≡ false → same Inputs what ≡ false → same Outputs what ≡ false → same Constructors what ≡ false →
      (ts rest : List Lexeme) → read_program ts ≡ refused (Limit what) rest → Reaches IsProgram ts rest
  other d n t i o c ts rest e = stopped IsProgram ts rest e (numbers d n (Some 1000) (Some 64) (Some 64) (Some 63) (inr refl) (inr refl) (inr refl) (inr refl)
      (kept Types (Some 1000) t) (kept Inputs (Some 64) i) (kept Outputs (Some 64) o) (kept Constructors (Some 63) c) ts)

longer : (p q : Phrase (List Item)) (ts rest : List Lexeme) → ((u : List Lexeme) (a : List Item) → p u a → q u a) → Reaches p ts rest → Reaches q ts rest
longer p q ts rest f (u, x, more, e, g, (v, a, h)) = (u, x, more, e, g, (v, a, f ((u ++ (x ∷ [])) ++ v) a h))

-- any number of levels of expressions
expressions_freed : ExpressionLaws (only Depth) (expression_of reading Some 200) (expression_of relation no_limit 201)
expressions_freed = subst (λ e. ExpressionLaws (only Depth) (expression_of reading Some 200) (expression_of relation no_limit e)) (shift_is 200 0) (λ mode. levels_freed (only Depth) mode 200 0 expression)

deep : (ts : List Lexeme) → Leads (only Depth) (programs relation no_limit Some (Some 1000) (Some 64) (Some 64) (Some 63) 201 64) ts (read_program ts)
deep = program_leads (only Depth) (expression_of reading Some 200) (expression_of relation no_limit 201) expressions_freed (blocks reading Some (expression_of reading Some 200) 64) (blocks relation Some (expression_of relation no_limit 201) 64)
    (blocks_kept (only Depth) (expression_of reading Some 200) (expression_of relation no_limit 201) expressions_freed refl 64) (Some 1000) (Some 64) (Some 64) (Some 63) (inr refl) (inr refl) (inr refl) (inr refl)
    (kept Depth Types (Some 1000) refl) (kept Depth Inputs (Some 64) refl) (kept Depth Outputs (Some 64) refl) (kept Depth Constructors (Some 63) refl)

-- any number of blocks in each other
blocks_nested : Laws (only Nest) nothing true (λ w. false) (blocks reading Some (expression_of reading Some 200) 64) (blocks relation no_limit (expression_of relation Some 200) 65)
blocks_nested = subst (λ m. Laws (only Nest) nothing true (λ w. false) (blocks reading Some (expression_of reading Some 200) 64) (blocks relation no_limit (expression_of relation Some 200) m)) (shift_is 64 0)
    (blocks_freed (only Nest) (expression_of reading Some 200) (expression_of relation Some 200) (expressions_kept Nest refl) 64 0)

nested : (ts : List Lexeme) → Leads (only Nest) (programs relation Some no_limit (Some 1000) (Some 64) (Some 64) (Some 63) 200 65) ts (read_program ts)
nested = program_leads (only Nest) (expression_of reading Some 200) (expression_of relation Some 200) (expressions_kept Nest refl) (blocks reading Some (expression_of reading Some 200) 64)
    (blocks relation no_limit (expression_of relation Some 200) 65) blocks_nested (Some 1000) (Some 64) (Some 64) (Some 63) (inr refl) (inr refl) (inr refl) (inr refl)
    (kept Nest Types (Some 1000) refl) (kept Nest Inputs (Some 64) refl) (kept Nest Outputs (Some 64) refl) (kept Nest Constructors (Some 63) refl)

pub reaches : (what : What) (ts rest : List Lexeme) → read_program ts ≡ refused (Limit what) rest → Reaches (IsLongerProgram what) ts rest
reaches Depth ts rest e = longer (programs relation no_limit Some (Some 1000) (Some 64) (Some 64) (Some 63) 201 64) (IsLongerProgram Depth) ts rest (λ u a h. (0, h))
    (stopped Depth (programs relation no_limit Some (Some 1000) (Some 64) (Some 64) (Some 63) 201 64) ts rest e (deep ts))
reaches Nest ts rest e = longer (programs relation Some no_limit (Some 1000) (Some 64) (Some 64) (Some 63) 200 65) (IsLongerProgram Nest) ts rest (λ u a h. (0, h))
    (stopped Nest (programs relation Some no_limit (Some 1000) (Some 64) (Some 64) (Some 63) 200 65) ts rest e (nested ts))
reaches Types ts rest e = stopped Types (IsLongerProgram Types) ts rest e (numbers Types refl refl None (Some 64) (Some 64) (Some 63) (inl refl) (inr refl) (inr refl) (inr refl)
    (λ l. refl) (kept Types Inputs (Some 64) refl) (kept Types Outputs (Some 64) refl) (kept Types Constructors (Some 63) refl) ts)
reaches Inputs ts rest e = stopped Inputs (IsLongerProgram Inputs) ts rest e (numbers Inputs refl refl (Some 1000) None (Some 64) (Some 63) (inr refl) (inl refl) (inr refl) (inr refl)
    (kept Inputs Types (Some 1000) refl) (λ l. refl) (kept Inputs Outputs (Some 64) refl) (kept Inputs Constructors (Some 63) refl) ts)
reaches Outputs ts rest e = stopped Outputs (IsLongerProgram Outputs) ts rest e (numbers Outputs refl refl (Some 1000) (Some 64) None (Some 63) (inr refl) (inr refl) (inl refl) (inr refl)
    (kept Outputs Types (Some 1000) refl) (kept Outputs Inputs (Some 64) refl) (λ l. refl) (kept Outputs Constructors (Some 63) refl) ts)
reaches Constructors ts rest e = stopped Constructors (IsLongerProgram Constructors) ts rest e (numbers Constructors refl refl (Some 1000) (Some 64) (Some 64) None (inr refl) (inr refl) (inr refl) (inl refl)
    (kept Constructors Types (Some 1000) refl) (kept Constructors Inputs (Some 64) refl) (kept Constructors Outputs (Some 64) refl) (λ l. refl) ts)
reaches Size ts rest e = other Size refl refl refl refl refl refl ts rest e
reaches Name ts rest e = other Name refl refl refl refl refl refl ts rest e
reaches Places ts rest e = other Places refl refl refl refl refl refl ts rest e
reaches Total ts rest e = other Total refl refl refl refl refl refl ts rest e
reaches Instances ts rest e = other Instances refl refl refl refl refl refl ts rest e
reaches Cells ts rest e = other Cells refl refl refl refl refl refl ts rest e
reaches Calls ts rest e = other Calls refl refl refl refl refl refl ts rest e
reaches Clock ts rest e = other Clock refl refl refl refl refl refl ts rest e
reaches Registers ts rest e = other Registers refl refl refl refl refl refl ts rest e
reaches Early ts rest e = other Early refl refl refl refl refl refl ts rest e
reaches Control ts rest e = other Control refl refl refl refl refl refl ts rest e
reaches Late ts rest e = other Late refl refl refl refl refl refl ts rest e
reaches Text ts rest e = other Text refl refl refl refl refl refl ts rest e
