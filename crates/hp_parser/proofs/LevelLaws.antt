-- The laws of expressions, level by level.
use Rattle.std.proofs.Common.{◌≡◌, ℕ, zero, suc, Bool, true, false, arith, List, [], ◌∷◌, None, Some, refl, sym, subst, ◌∙◌}
use Rattle.std.proofs.lemmas.Bool.{le-leb}
use Rattle.hp_lexer.specs.declared.token.Sign.TheVariants as sign
use Rattle.hp_parser.specs.Lexemes.{Lexeme, Kinds, is_ahead}
use Rattle.hp_parser.specs.Limits.{has_two}
use Rattle.hp_parser.specs.Notation.{Measured}
use Rattle.hp_parser.specs.declared.mode.Mode.{Mode}
use Rattle.hp_parser.specs.declared.mode.Mode.TheVariants.{Whole, Plain}
use Rattle.hp_parser.specs.Tokens.{sign_of, prefix, begins_atom, begins_expression, begins_sample, is_product, is_sum, is_comparison, is_conjunction, is_disjunction, is_implication, is_delay, is_arrow}
use Rattle.hp_parser.specs.Grammar.{Levels, levels}
use Rattle.hp_parser.specs.Relation.{Phrase, relation}
use Rattle.hp_parser.specs.Reading.{Reader, reading}
use Rattle.hp_parser.specs.Programs.{expressions, lowest, no_limit}
use Rattle.hp_parser.proofs.Ways.{Way, Reads, Free, Starts, Within, union}
use Rattle.hp_parser.proofs.Choices.{Inside}
use Rattle.hp_parser.proofs.Sound.{Sound, sound, DepthIs}
use Rattle.hp_parser.proofs.TokenSets.{is_inside, inside_seen}

-- ---- laws with larger sets

pub not_inside : (p q : Kinds) (ts : List Lexeme) → Inside p q → is_ahead q ts ≡ false → is_ahead p ts ≡ false
not_inside p q [] inside h = refl
not_inside p q (x ∷ ts) inside h = by (p x.kind) refl where
  by : (d : Bool) → p x.kind ≡ d → p x.kind ≡ false
  by true e = absurd (let both : true ≡ false = sym (inside x.kind e) ∙ h in cc)
  by false e = e

module _ {A : Type 0} (first goes first_2 goes_2 : Kinds) (empty : Bool) (in_first : Inside first first_2) (in_goes : Inside goes goes_2) where
  larger_reads : (read : Reader A) (phrase : Phrase A) → Reads first goes empty read phrase → Reads first_2 goes_2 empty read phrase
  larger_reads read phrase r = record {
    complete = λ u a rest h stops. r.complete u a rest h (not_inside goes goes_2 rest in_goes stops);
    first_is = λ x u a h. in_first x.kind (r.first_is x u a h);
    not_empty = r.not_empty;
  }

  pub larger_free : (read : Reader A) (phrase : Phrase A) → Free first goes empty read phrase → Free first_2 goes_2 empty read phrase
  larger_free read phrase f = record { reads = larger_reads read phrase f.reads; begins = f.begins; may_be_empty = f.may_be_empty }

  larger_within : (w : Way A) → Within first goes empty w → Within first_2 goes_2 empty w
  larger_within w l = record { within = l.within; reads = larger_reads w.read w.phrase l.reads; begins = l.begins; course = l.course }

-- what is known of a way
pub record Facts (first goes : Kinds) (empty : Bool) {A : Type 0} (w : Way A) (alive starts : Bool) : Type 0 where
  pub free_law : Free first goes empty w.free_read w.free
  pub start : starts ≡ true → Starts first w.free
  pub law : alive ≡ true → Within first goes empty w

abbrev pub as_sound : {A : Type 0} (first goes : Kinds) (empty alive starts : Bool) (w : Way A) → Facts first goes empty w alive starts → Sound A
as_sound first goes empty alive starts w f = record {
  way = w;
  first = first;
  goes = goes;
  empty = empty;
  fits = true;
  alive = alive;
  starts = starts;
  free_laws = λ h. f.free_law;
  start_law = λ h k. f.start k;
  laws = λ h k. f.law k;
}

-- what a sound phrase shows, with larger sets
pub facts : {A : Type 0} (s : Sound A) (first goes : Kinds) (empty alive starts : Bool) → s.fits ≡ true → s.empty ≡ empty → is_inside s.first first ≡ true → is_inside s.goes goes ≡ true → is_inside first s.first ≡ true →
    (alive ≡ true → s.alive ≡ true) → (starts ≡ true → s.starts ≡ true) → Facts first goes empty s.way alive starts
facts s first goes empty alive starts fits same in_first in_goes back lives begins = record {
  free_law = larger_free s.first s.goes first goes empty (inside_seen s.first first in_first) (inside_seen s.goes goes in_goes) s.way.free_read s.way.free
      (subst (λ e. Free s.first s.goes e s.way.free_read s.way.free) same (s.free_laws fits));
  start = λ h x e. s.start_law fits (begins h) x (inside_seen first s.first back x.kind e);
  law = λ h. larger_within s.first s.goes first goes empty (inside_seen s.first first in_first) (inside_seen s.goes goes in_goes) s.way
      (subst (λ e. Within s.first s.goes e s.way) same (s.laws fits (lives h)));
}

-- ---- the levels and their sets

pub data Level : Type 0 where
  expression : Level
  delayed : Level
  implication : Level
  conjunction : Level
  comparison : Level
  sum : Level
  product : Level
  unary : Level

abbrev pub pick {ℓ} : {F : Type 0 → Type ℓ} → Level → Levels F → F Measured
pick expression l = l.expression
pick delayed l = l.delayed
pick implication l = l.implication
pick conjunction l = l.conjunction
pick comparison l = l.comparison
pick sum l = l.sum
pick product l = l.product
pick unary l = l.unary

abbrev pub goes_unary : Mode → Kinds
goes_unary mode = sign_of sign.Open

abbrev pub goes_sum : Mode → Kinds
goes_sum mode = union (union (goes_unary mode) is_product) is_sum

abbrev pub goes_conjunction : Mode → Kinds
goes_conjunction mode = union (union (goes_sum mode) is_comparison) is_conjunction

abbrev pub goes_implication : Mode → Kinds
goes_implication mode = union (union (goes_conjunction mode) is_disjunction) is_implication

abbrev pub goes_expression : Mode → Kinds
goes_expression mode = union (union (union (goes_implication mode) (is_delay mode)) (begins_sample mode)) (is_arrow mode)

abbrev pub first_at : Mode → Level → Kinds
first_at mode expression = begins_expression mode
first_at mode l = union (prefix mode) (begins_atom mode)

abbrev pub goes_at : Mode → Level → Kinds
goes_at mode expression = goes_expression mode
goes_at mode delayed = union (goes_implication mode) (is_delay mode)
goes_at mode implication = goes_implication mode
goes_at mode conjunction = goes_conjunction mode
goes_at mode comparison = union (goes_sum mode) is_comparison
goes_at mode sum = goes_sum mode
goes_at mode product = union (goes_unary mode) is_product
goes_at mode unary = goes_unary mode

-- ---- without limits

abbrev pub free_read_at : Mode → ℕ → Level → Reader Measured
free_read_at mode m l = pick l (expressions reading no_limit mode m)

abbrev pub free_at : Mode → ℕ → Level → Phrase Measured
free_at mode m l = pick l (expressions relation no_limit mode m)

abbrev pub FreeFacts : Mode → ℕ → Bool → Type 0
FreeFacts mode m starts = (l : Level) → Facts (first_at mode l) (goes_at mode l) false (record { read = free_read_at mode m l; free_read = free_read_at mode m l; phrase = free_at mode m l; free = free_at mode m l }) false starts

abbrev pub sounds : (mode : Mode) (alive starts : Bool) (way : Level → Way Measured) → ((l : Level) → Facts (first_at mode l) (goes_at mode l) false (way l) alive starts) → Levels Sound
sounds mode alive starts way known = record {
  expression = as_sound (first_at mode expression) (goes_at mode expression) false alive starts (way expression) (known expression);
  delayed = as_sound (first_at mode delayed) (goes_at mode delayed) false alive starts (way delayed) (known delayed);
  implication = as_sound (first_at mode implication) (goes_at mode implication) false alive starts (way implication) (known implication);
  conjunction = as_sound (first_at mode conjunction) (goes_at mode conjunction) false alive starts (way conjunction) (known conjunction);
  comparison = as_sound (first_at mode comparison) (goes_at mode comparison) false alive starts (way comparison) (known comparison);
  sum = as_sound (first_at mode sum) (goes_at mode sum) false alive starts (way sum) (known sum);
  product = as_sound (first_at mode product) (goes_at mode product) false alive starts (way product) (known product);
  unary = as_sound (first_at mode unary) (goes_at mode unary) false alive starts (way unary) (known unary);
}

abbrev free_depth : DepthIs
free_depth = record { limit = None; two = true; is_two = refl }

abbrev lowest_sound : Sound Measured
lowest_sound = (lowest sound).expression

lowest_known : (mode : Mode) → FreeFacts mode zero false
lowest_known Whole expression = record { free_law = larger_free lowest_sound.first lowest_sound.goes (first_at Whole expression) (goes_at Whole expression) false (inside_seen lowest_sound.first (first_at Whole expression) refl) (inside_seen lowest_sound.goes (goes_at Whole expression) refl) (free_read_at Whole 0 expression) (free_at Whole 0 expression) (lowest_sound.free_laws refl); start = λ h. absurd cc; law = λ h. absurd cc }
lowest_known Whole delayed = record { free_law = larger_free lowest_sound.first lowest_sound.goes (first_at Whole delayed) (goes_at Whole delayed) false (inside_seen lowest_sound.first (first_at Whole delayed) refl) (inside_seen lowest_sound.goes (goes_at Whole delayed) refl) (free_read_at Whole 0 delayed) (free_at Whole 0 delayed) (lowest_sound.free_laws refl); start = λ h. absurd cc; law = λ h. absurd cc }
lowest_known Whole implication = record { free_law = larger_free lowest_sound.first lowest_sound.goes (first_at Whole implication) (goes_at Whole implication) false (inside_seen lowest_sound.first (first_at Whole implication) refl) (inside_seen lowest_sound.goes (goes_at Whole implication) refl) (free_read_at Whole 0 implication) (free_at Whole 0 implication) (lowest_sound.free_laws refl); start = λ h. absurd cc; law = λ h. absurd cc }
lowest_known Whole conjunction = record { free_law = larger_free lowest_sound.first lowest_sound.goes (first_at Whole conjunction) (goes_at Whole conjunction) false (inside_seen lowest_sound.first (first_at Whole conjunction) refl) (inside_seen lowest_sound.goes (goes_at Whole conjunction) refl) (free_read_at Whole 0 conjunction) (free_at Whole 0 conjunction) (lowest_sound.free_laws refl); start = λ h. absurd cc; law = λ h. absurd cc }
lowest_known Whole comparison = record { free_law = larger_free lowest_sound.first lowest_sound.goes (first_at Whole comparison) (goes_at Whole comparison) false (inside_seen lowest_sound.first (first_at Whole comparison) refl) (inside_seen lowest_sound.goes (goes_at Whole comparison) refl) (free_read_at Whole 0 comparison) (free_at Whole 0 comparison) (lowest_sound.free_laws refl); start = λ h. absurd cc; law = λ h. absurd cc }
lowest_known Whole sum = record { free_law = larger_free lowest_sound.first lowest_sound.goes (first_at Whole sum) (goes_at Whole sum) false (inside_seen lowest_sound.first (first_at Whole sum) refl) (inside_seen lowest_sound.goes (goes_at Whole sum) refl) (free_read_at Whole 0 sum) (free_at Whole 0 sum) (lowest_sound.free_laws refl); start = λ h. absurd cc; law = λ h. absurd cc }
lowest_known Whole product = record { free_law = larger_free lowest_sound.first lowest_sound.goes (first_at Whole product) (goes_at Whole product) false (inside_seen lowest_sound.first (first_at Whole product) refl) (inside_seen lowest_sound.goes (goes_at Whole product) refl) (free_read_at Whole 0 product) (free_at Whole 0 product) (lowest_sound.free_laws refl); start = λ h. absurd cc; law = λ h. absurd cc }
lowest_known Whole unary = record { free_law = larger_free lowest_sound.first lowest_sound.goes (first_at Whole unary) (goes_at Whole unary) false (inside_seen lowest_sound.first (first_at Whole unary) refl) (inside_seen lowest_sound.goes (goes_at Whole unary) refl) (free_read_at Whole 0 unary) (free_at Whole 0 unary) (lowest_sound.free_laws refl); start = λ h. absurd cc; law = λ h. absurd cc }
lowest_known Plain expression = record { free_law = larger_free lowest_sound.first lowest_sound.goes (first_at Plain expression) (goes_at Plain expression) false (inside_seen lowest_sound.first (first_at Plain expression) refl) (inside_seen lowest_sound.goes (goes_at Plain expression) refl) (free_read_at Plain 0 expression) (free_at Plain 0 expression) (lowest_sound.free_laws refl); start = λ h. absurd cc; law = λ h. absurd cc }
lowest_known Plain delayed = record { free_law = larger_free lowest_sound.first lowest_sound.goes (first_at Plain delayed) (goes_at Plain delayed) false (inside_seen lowest_sound.first (first_at Plain delayed) refl) (inside_seen lowest_sound.goes (goes_at Plain delayed) refl) (free_read_at Plain 0 delayed) (free_at Plain 0 delayed) (lowest_sound.free_laws refl); start = λ h. absurd cc; law = λ h. absurd cc }
lowest_known Plain implication = record { free_law = larger_free lowest_sound.first lowest_sound.goes (first_at Plain implication) (goes_at Plain implication) false (inside_seen lowest_sound.first (first_at Plain implication) refl) (inside_seen lowest_sound.goes (goes_at Plain implication) refl) (free_read_at Plain 0 implication) (free_at Plain 0 implication) (lowest_sound.free_laws refl); start = λ h. absurd cc; law = λ h. absurd cc }
lowest_known Plain conjunction = record { free_law = larger_free lowest_sound.first lowest_sound.goes (first_at Plain conjunction) (goes_at Plain conjunction) false (inside_seen lowest_sound.first (first_at Plain conjunction) refl) (inside_seen lowest_sound.goes (goes_at Plain conjunction) refl) (free_read_at Plain 0 conjunction) (free_at Plain 0 conjunction) (lowest_sound.free_laws refl); start = λ h. absurd cc; law = λ h. absurd cc }
lowest_known Plain comparison = record { free_law = larger_free lowest_sound.first lowest_sound.goes (first_at Plain comparison) (goes_at Plain comparison) false (inside_seen lowest_sound.first (first_at Plain comparison) refl) (inside_seen lowest_sound.goes (goes_at Plain comparison) refl) (free_read_at Plain 0 comparison) (free_at Plain 0 comparison) (lowest_sound.free_laws refl); start = λ h. absurd cc; law = λ h. absurd cc }
lowest_known Plain sum = record { free_law = larger_free lowest_sound.first lowest_sound.goes (first_at Plain sum) (goes_at Plain sum) false (inside_seen lowest_sound.first (first_at Plain sum) refl) (inside_seen lowest_sound.goes (goes_at Plain sum) refl) (free_read_at Plain 0 sum) (free_at Plain 0 sum) (lowest_sound.free_laws refl); start = λ h. absurd cc; law = λ h. absurd cc }
lowest_known Plain product = record { free_law = larger_free lowest_sound.first lowest_sound.goes (first_at Plain product) (goes_at Plain product) false (inside_seen lowest_sound.first (first_at Plain product) refl) (inside_seen lowest_sound.goes (goes_at Plain product) refl) (free_read_at Plain 0 product) (free_at Plain 0 product) (lowest_sound.free_laws refl); start = λ h. absurd cc; law = λ h. absurd cc }
lowest_known Plain unary = record { free_law = larger_free lowest_sound.first lowest_sound.goes (first_at Plain unary) (goes_at Plain unary) false (inside_seen lowest_sound.first (first_at Plain unary) refl) (inside_seen lowest_sound.goes (goes_at Plain unary) refl) (free_read_at Plain 0 unary) (free_at Plain 0 unary) (lowest_sound.free_laws refl); start = λ h. absurd cc; law = λ h. absurd cc }

abbrev free_levels : (mode : Mode) (m : ℕ) (starts : Bool) → FreeFacts mode m starts → Levels Sound
free_levels mode m starts known = levels sound mode free_depth
    (sounds mode false starts (λ l. record { read = free_read_at mode m l; free_read = free_read_at mode m l; phrase = free_at mode m l; free = free_at mode m l }) known)

free_step : (mode : Mode) (m : ℕ) (starts : Bool) → FreeFacts mode m starts → FreeFacts mode (suc m) true
free_step Whole m starts known expression = let f = facts (pick expression (free_levels Whole m starts known)) (first_at Whole expression) (goes_at Whole expression) false false true refl refl refl refl refl (λ h. absurd cc) (λ h. refl) in record { free_law = f.free_law; start = f.start; law = λ h. absurd cc }
free_step Whole m starts known delayed = let f = facts (pick delayed (free_levels Whole m starts known)) (first_at Whole delayed) (goes_at Whole delayed) false false true refl refl refl refl refl (λ h. absurd cc) (λ h. refl) in record { free_law = f.free_law; start = f.start; law = λ h. absurd cc }
free_step Whole m starts known implication = let f = facts (pick implication (free_levels Whole m starts known)) (first_at Whole implication) (goes_at Whole implication) false false true refl refl refl refl refl (λ h. absurd cc) (λ h. refl) in record { free_law = f.free_law; start = f.start; law = λ h. absurd cc }
free_step Whole m starts known conjunction = let f = facts (pick conjunction (free_levels Whole m starts known)) (first_at Whole conjunction) (goes_at Whole conjunction) false false true refl refl refl refl refl (λ h. absurd cc) (λ h. refl) in record { free_law = f.free_law; start = f.start; law = λ h. absurd cc }
free_step Whole m starts known comparison = let f = facts (pick comparison (free_levels Whole m starts known)) (first_at Whole comparison) (goes_at Whole comparison) false false true refl refl refl refl refl (λ h. absurd cc) (λ h. refl) in record { free_law = f.free_law; start = f.start; law = λ h. absurd cc }
free_step Whole m starts known sum = let f = facts (pick sum (free_levels Whole m starts known)) (first_at Whole sum) (goes_at Whole sum) false false true refl refl refl refl refl (λ h. absurd cc) (λ h. refl) in record { free_law = f.free_law; start = f.start; law = λ h. absurd cc }
free_step Whole m starts known product = let f = facts (pick product (free_levels Whole m starts known)) (first_at Whole product) (goes_at Whole product) false false true refl refl refl refl refl (λ h. absurd cc) (λ h. refl) in record { free_law = f.free_law; start = f.start; law = λ h. absurd cc }
free_step Whole m starts known unary = let f = facts (pick unary (free_levels Whole m starts known)) (first_at Whole unary) (goes_at Whole unary) false false true refl refl refl refl refl (λ h. absurd cc) (λ h. refl) in record { free_law = f.free_law; start = f.start; law = λ h. absurd cc }
free_step Plain m starts known expression = let f = facts (pick expression (free_levels Plain m starts known)) (first_at Plain expression) (goes_at Plain expression) false false true refl refl refl refl refl (λ h. absurd cc) (λ h. refl) in record { free_law = f.free_law; start = f.start; law = λ h. absurd cc }
free_step Plain m starts known delayed = let f = facts (pick delayed (free_levels Plain m starts known)) (first_at Plain delayed) (goes_at Plain delayed) false false true refl refl refl refl refl (λ h. absurd cc) (λ h. refl) in record { free_law = f.free_law; start = f.start; law = λ h. absurd cc }
free_step Plain m starts known implication = let f = facts (pick implication (free_levels Plain m starts known)) (first_at Plain implication) (goes_at Plain implication) false false true refl refl refl refl refl (λ h. absurd cc) (λ h. refl) in record { free_law = f.free_law; start = f.start; law = λ h. absurd cc }
free_step Plain m starts known conjunction = let f = facts (pick conjunction (free_levels Plain m starts known)) (first_at Plain conjunction) (goes_at Plain conjunction) false false true refl refl refl refl refl (λ h. absurd cc) (λ h. refl) in record { free_law = f.free_law; start = f.start; law = λ h. absurd cc }
free_step Plain m starts known comparison = let f = facts (pick comparison (free_levels Plain m starts known)) (first_at Plain comparison) (goes_at Plain comparison) false false true refl refl refl refl refl (λ h. absurd cc) (λ h. refl) in record { free_law = f.free_law; start = f.start; law = λ h. absurd cc }
free_step Plain m starts known sum = let f = facts (pick sum (free_levels Plain m starts known)) (first_at Plain sum) (goes_at Plain sum) false false true refl refl refl refl refl (λ h. absurd cc) (λ h. refl) in record { free_law = f.free_law; start = f.start; law = λ h. absurd cc }
free_step Plain m starts known product = let f = facts (pick product (free_levels Plain m starts known)) (first_at Plain product) (goes_at Plain product) false false true refl refl refl refl refl (λ h. absurd cc) (λ h. refl) in record { free_law = f.free_law; start = f.start; law = λ h. absurd cc }
free_step Plain m starts known unary = let f = facts (pick unary (free_levels Plain m starts known)) (first_at Plain unary) (goes_at Plain unary) false false true refl refl refl refl refl (λ h. absurd cc) (λ h. refl) in record { free_law = f.free_law; start = f.start; law = λ h. absurd cc }

abbrev pub is_more : ℕ → Bool
is_more zero = false
is_more (suc n) = true

pub free_known : (mode : Mode) (m : ℕ) → FreeFacts mode m (is_more m)
free_known mode zero = lowest_known mode
free_known mode (suc m) = free_step mode m (is_more m) (free_known mode m)

-- ---- within limits

abbrev pub way_at : Mode → ℕ → ℕ → Level → Way Measured
way_at mode n m l = record {
  read = pick l (expressions reading Some mode n);
  free_read = free_read_at mode m l;
  phrase = pick l (expressions relation Some mode n);
  free = free_at mode m l;
}

abbrev pub Known : Mode → ℕ → ℕ → Bool → Bool → Type 0
Known mode n m alive starts = (l : Level) → Facts (first_at mode l) (goes_at mode l) false (way_at mode n m l) alive starts

abbrev next_levels : (mode : Mode) (n m : ℕ) (two : Bool) → has_two (Some (suc n)) ≡ two → Known mode n m two true → Levels Sound
next_levels mode n m two is_two known = levels sound mode (record { limit = Some (suc n); two = two; is_two = is_two }) (sounds mode two true (way_at mode n m) known)

step : (mode : Mode) (n m : ℕ) (two : Bool) → has_two (Some (suc n)) ≡ two → Known mode n m two true → Known mode (suc n) (suc m) true true
step Whole n m true is_two known expression = facts (pick expression (next_levels Whole n m true is_two known)) (first_at Whole expression) (goes_at Whole expression) false true true refl refl refl refl refl (λ h. refl) (λ h. refl)
step Whole n m true is_two known delayed = facts (pick delayed (next_levels Whole n m true is_two known)) (first_at Whole delayed) (goes_at Whole delayed) false true true refl refl refl refl refl (λ h. refl) (λ h. refl)
step Whole n m true is_two known implication = facts (pick implication (next_levels Whole n m true is_two known)) (first_at Whole implication) (goes_at Whole implication) false true true refl refl refl refl refl (λ h. refl) (λ h. refl)
step Whole n m true is_two known conjunction = facts (pick conjunction (next_levels Whole n m true is_two known)) (first_at Whole conjunction) (goes_at Whole conjunction) false true true refl refl refl refl refl (λ h. refl) (λ h. refl)
step Whole n m true is_two known comparison = facts (pick comparison (next_levels Whole n m true is_two known)) (first_at Whole comparison) (goes_at Whole comparison) false true true refl refl refl refl refl (λ h. refl) (λ h. refl)
step Whole n m true is_two known sum = facts (pick sum (next_levels Whole n m true is_two known)) (first_at Whole sum) (goes_at Whole sum) false true true refl refl refl refl refl (λ h. refl) (λ h. refl)
step Whole n m true is_two known product = facts (pick product (next_levels Whole n m true is_two known)) (first_at Whole product) (goes_at Whole product) false true true refl refl refl refl refl (λ h. refl) (λ h. refl)
step Whole n m true is_two known unary = facts (pick unary (next_levels Whole n m true is_two known)) (first_at Whole unary) (goes_at Whole unary) false true true refl refl refl refl refl (λ h. refl) (λ h. refl)
step Whole n m false is_two known expression = facts (pick expression (next_levels Whole n m false is_two known)) (first_at Whole expression) (goes_at Whole expression) false true true refl refl refl refl refl (λ h. refl) (λ h. refl)
step Whole n m false is_two known delayed = facts (pick delayed (next_levels Whole n m false is_two known)) (first_at Whole delayed) (goes_at Whole delayed) false true true refl refl refl refl refl (λ h. refl) (λ h. refl)
step Whole n m false is_two known implication = facts (pick implication (next_levels Whole n m false is_two known)) (first_at Whole implication) (goes_at Whole implication) false true true refl refl refl refl refl (λ h. refl) (λ h. refl)
step Whole n m false is_two known conjunction = facts (pick conjunction (next_levels Whole n m false is_two known)) (first_at Whole conjunction) (goes_at Whole conjunction) false true true refl refl refl refl refl (λ h. refl) (λ h. refl)
step Whole n m false is_two known comparison = facts (pick comparison (next_levels Whole n m false is_two known)) (first_at Whole comparison) (goes_at Whole comparison) false true true refl refl refl refl refl (λ h. refl) (λ h. refl)
step Whole n m false is_two known sum = facts (pick sum (next_levels Whole n m false is_two known)) (first_at Whole sum) (goes_at Whole sum) false true true refl refl refl refl refl (λ h. refl) (λ h. refl)
step Whole n m false is_two known product = facts (pick product (next_levels Whole n m false is_two known)) (first_at Whole product) (goes_at Whole product) false true true refl refl refl refl refl (λ h. refl) (λ h. refl)
step Whole n m false is_two known unary = facts (pick unary (next_levels Whole n m false is_two known)) (first_at Whole unary) (goes_at Whole unary) false true true refl refl refl refl refl (λ h. refl) (λ h. refl)
step Plain n m true is_two known expression = facts (pick expression (next_levels Plain n m true is_two known)) (first_at Plain expression) (goes_at Plain expression) false true true refl refl refl refl refl (λ h. refl) (λ h. refl)
step Plain n m true is_two known delayed = facts (pick delayed (next_levels Plain n m true is_two known)) (first_at Plain delayed) (goes_at Plain delayed) false true true refl refl refl refl refl (λ h. refl) (λ h. refl)
step Plain n m true is_two known implication = facts (pick implication (next_levels Plain n m true is_two known)) (first_at Plain implication) (goes_at Plain implication) false true true refl refl refl refl refl (λ h. refl) (λ h. refl)
step Plain n m true is_two known conjunction = facts (pick conjunction (next_levels Plain n m true is_two known)) (first_at Plain conjunction) (goes_at Plain conjunction) false true true refl refl refl refl refl (λ h. refl) (λ h. refl)
step Plain n m true is_two known comparison = facts (pick comparison (next_levels Plain n m true is_two known)) (first_at Plain comparison) (goes_at Plain comparison) false true true refl refl refl refl refl (λ h. refl) (λ h. refl)
step Plain n m true is_two known sum = facts (pick sum (next_levels Plain n m true is_two known)) (first_at Plain sum) (goes_at Plain sum) false true true refl refl refl refl refl (λ h. refl) (λ h. refl)
step Plain n m true is_two known product = facts (pick product (next_levels Plain n m true is_two known)) (first_at Plain product) (goes_at Plain product) false true true refl refl refl refl refl (λ h. refl) (λ h. refl)
step Plain n m true is_two known unary = facts (pick unary (next_levels Plain n m true is_two known)) (first_at Plain unary) (goes_at Plain unary) false true true refl refl refl refl refl (λ h. refl) (λ h. refl)
step Plain n m false is_two known expression = facts (pick expression (next_levels Plain n m false is_two known)) (first_at Plain expression) (goes_at Plain expression) false true true refl refl refl refl refl (λ h. refl) (λ h. refl)
step Plain n m false is_two known delayed = facts (pick delayed (next_levels Plain n m false is_two known)) (first_at Plain delayed) (goes_at Plain delayed) false true true refl refl refl refl refl (λ h. refl) (λ h. refl)
step Plain n m false is_two known implication = facts (pick implication (next_levels Plain n m false is_two known)) (first_at Plain implication) (goes_at Plain implication) false true true refl refl refl refl refl (λ h. refl) (λ h. refl)
step Plain n m false is_two known conjunction = facts (pick conjunction (next_levels Plain n m false is_two known)) (first_at Plain conjunction) (goes_at Plain conjunction) false true true refl refl refl refl refl (λ h. refl) (λ h. refl)
step Plain n m false is_two known comparison = facts (pick comparison (next_levels Plain n m false is_two known)) (first_at Plain comparison) (goes_at Plain comparison) false true true refl refl refl refl refl (λ h. refl) (λ h. refl)
step Plain n m false is_two known sum = facts (pick sum (next_levels Plain n m false is_two known)) (first_at Plain sum) (goes_at Plain sum) false true true refl refl refl refl refl (λ h. refl) (λ h. refl)
step Plain n m false is_two known product = facts (pick product (next_levels Plain n m false is_two known)) (first_at Plain product) (goes_at Plain product) false true true refl refl refl refl refl (λ h. refl) (λ h. refl)
step Plain n m false is_two known unary = facts (pick unary (next_levels Plain n m false is_two known)) (first_at Plain unary) (goes_at Plain unary) false true true refl refl refl refl refl (λ h. refl) (λ h. refl)

-- levels without limits that are enough for n within limits, and k more
abbrev pub shift : ℕ → ℕ → ℕ
shift zero k = suc k
shift (suc n) k = suc (shift n k)

pub two_known : (n : ℕ) → has_two (Some (suc n)) ≡ is_more n
two_known zero = refl
two_known (suc n) = le-leb 2 (suc (suc n)) (omega arith)

pub known : (mode : Mode) (n k : ℕ) → Known mode n (shift n k) (is_more n) true
known mode zero k = λ l. let f = free_known mode (suc k) l in record {
  free_law = f.free_law;
  start = f.start;
  law = λ h. absurd cc;
}
known mode (suc n) k = step mode n (shift n k) (is_more n) (two_known n) (known mode n k)
