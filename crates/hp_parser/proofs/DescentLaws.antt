-- Readings of expressions at a depth, phrase by phrase.
use Rattle.std.proofs.Common.{◌≡◌, ℕ, zero, suc, ◌+◌, ◌-◌, ◌<◌, ◌≤◌, Bool, true, false, not, if◌then◌else◌, List, [], ◌∷◌, ◌++◌, length, map, Option, None, Some, refl, sym, ap, subst, ◌∙◌, arith, length-append}
use Rattle.std.proofs.lemmas.Bool.{le-leb, lt-leb}
use Rattle.hp_base.specs.declared.limit.What.{What}
use Rattle.hp_base.specs.declared.limit.What.TheVariants.{Depth}
use Rattle.hp_lexer.specs.declared.token.Sign.TheVariants as sign
use Rattle.hp_lexer.specs.declared.token.Keyword.TheVariants as word
use Rattle.hp_parser.specs.declared.fault.Fault.{Fault}
use Rattle.hp_parser.specs.declared.fault.Fault.TheVariants.{Limit}
use Rattle.hp_parser.specs.declared.fault.Stop.{Stop}
use Rattle.hp_parser.specs.declared.fault.Stop.TheVariants as stop
use Rattle.hp_parser.specs.declared.level.Level.{Level}
use Rattle.hp_parser.specs.declared.level.Level.TheVariants.{Product, Sum, Comparison, Conjunction, Disjunction, Implication, Delay}
use Rattle.hp_parser.specs.declared.measured.Measured.{Measured as Found}
use Rattle.hp_parser.specs.declared.measured.Part.{Part as FoundPart}
use Rattle.hp_parser.specs.declared.mode.Mode.{Mode}
use Rattle.hp_parser.specs.declared.mode.Mode.TheVariants.{Whole}
use Rattle.hp_parser.specs.Lexemes.{Lexeme, Kinds, is_ahead}
use Rattle.hp_parser.specs.Limits.{has_two, has_above}
use Rattle.hp_parser.specs.Notation.{Measured}
use Rattle.hp_parser.specs.Outcomes.{Outcome, done, refused, Stops, ◌>>=◌}
use Rattle.hp_parser.specs.Tokens.{keyword, sign_of, small, number, constructor, prefix, only_whole, begins_sample, is_arrow, begins_expression}
use Rattle.hp_parser.specs.Grammar.{Levels, levels, Part, of_merge, merged, part, conditional, arguments, of_name, of_call, of_sample, of_arrow, of_prefix, behind, many}
use Rattle.hp_parser.specs.Reading.{Reader, reading, read_token, read_both, read_convert, read_either, read_while, read_suffix, suffix_loop}
use Rattle.hp_parser.specs.Programs.{lowest}
use Rattle.hp_parser.specs.Descent.{measured_seen, part_seen, at_depth, within, number_read, constructor_read, last_read, sample_read, arguments_read, part_read, parts_read, merged_read, parentheses_read, call_read, named_read, inlined_read, atom_read, disjunction_read, sampled_read, samples_read, arrowed_read, arrow_read, level_read, operand_read, below, behind_operator, is_repeated, operators, joined_by, joined_read, more_read, of_parts}
use Rattle.hp_parser.proofs.MeasuredLaws.{deepest_pushed, deepest_part_pushed}
use Rattle.hp_parser.proofs.Rounds.{Falls, Strict, ends, refuses, steps, token_strict, strict_falls, both_strict, then_falls, convert_strict, convert_falls, many_from, many_ends, many_steps, many_pushed, one_and_more}
use Rattle.hp_parser.proofs.Ways.{Way, Within, Course}
use Rattle.hp_parser.proofs.LevelLaws.{pick, known, way_at, is_more}
use Rattle.hp_parser.proofs.LevelLaws as all

-- ---- choices

no_then : {A : Type 0} (b : Bool) (x y : Outcome A) → b ≡ false → (if b then x else y) ≡ y
no_then b x y h = ap (λ c. if c then x else y) h

yes_then : {A : Type 0} (b : Bool) (x y : Outcome A) → b ≡ true → (if b then x else y) ≡ x
yes_then b x y h = ap (λ c. if c then x else y) h

either_strict : {A : Type 0} (what : What) (room : Bool) (begins : Kinds) (first second : Reader A) → Strict first → Strict second → Strict (read_either what room begins first second)
either_strict what room begins first second p q ts a rest e = by (is_ahead begins ts) room e where
  by : (b r : Bool) → (if b then (if r then first ts else refused (Limit what) ts) else second ts) ≡ done a rest → length rest < length ts
  by true true e = p ts a rest e
  by true false e = absurd cc
  by false r e = q ts a rest e

pub two_yes : (d : ℕ) → 2 ≤ d → has_two (Some d) ≡ true
two_yes d h = le-leb 2 d h

pub two_no : (d : ℕ) → d < 2 → has_two (Some d) ≡ false
two_no d h = lt-leb 2 d h

above_yes : (d h : ℕ) → 2 ≤ d - h → has_above (Some d) h ≡ true
above_yes d h p = le-leb (suc (suc h)) d (omega (arith, p))

above_no : (d h : ℕ) → d - h < 2 → has_above (Some d) h ≡ false
above_no d h p = lt-leb (suc (suc h)) d (omega (arith, p))

-- ---- at a depth of one at least there are all levels

deep : (mode : Mode) (d : ℕ) → 1 ≤ d → at_depth mode d ≡ levels reading mode (Some d) (within mode d)
deep mode zero h = absurd (omega (arith, h))
deep mode (suc n) h = let same : n ≡ suc n - 1 = omega arith in ap (λ k. levels reading mode (Some (suc n)) (at_depth mode k)) same

-- ---- expressions

pub expression_plain : (mode : Mode) (d : ℕ) (ts : List Lexeme) → 1 ≤ d → is_ahead (keyword word.If) ts ≡ false → (at_depth mode d).expression ts ≡ arrowed_read mode d ts
unfolding arrowed_read
expression_plain mode d ts h k = ap (λ l. l.expression ts) (deep mode d h) ∙ no_then _ _ _ k

pub expression_deep : (mode : Mode) (d : ℕ) (ts : List Lexeme) → 1 ≤ d → is_ahead (keyword word.If) ts ≡ true → d < 2 → (at_depth mode d).expression ts ≡ refused (Limit Depth) ts
expression_deep mode d ts h k r = ap (λ l. l.expression ts) (deep mode d h) ∙ yes_then _ _ _ k ∙ no_then _ _ _ (two_no d r)

pub expression_if : (mode : Mode) (d : ℕ) (ts : List Lexeme) → is_ahead (keyword word.If) ts ≡ true → 2 ≤ d → (at_depth mode d).expression ts ≡ conditional reading mode (Some d) (within mode d) ts
expression_if mode d ts k r = ap (λ l. l.expression ts) (deep mode d (omega (arith, r))) ∙ yes_then _ _ _ k ∙ yes_then _ _ _ (two_yes d r)

-- ---- prefixes

pub unary_plain : (mode : Mode) (d : ℕ) (ts : List Lexeme) → 1 ≤ d → is_ahead (prefix mode) ts ≡ false → (at_depth mode d).unary ts ≡ atom_read mode d ts
unfolding atom_read
unary_plain mode d ts h k = ap (λ l. l.unary ts) (deep mode d h) ∙ no_then _ _ _ k

pub unary_deep : (mode : Mode) (d : ℕ) (ts : List Lexeme) → 1 ≤ d → is_ahead (prefix mode) ts ≡ true → d < 2 → (at_depth mode d).unary ts ≡ refused (Limit Depth) ts
unary_deep mode d ts h k r = ap (λ l. l.unary ts) (deep mode d h) ∙ yes_then _ _ _ k ∙ no_then _ _ _ (two_no d r)

pub unary_prefix : (mode : Mode) (d : ℕ) (ts : List Lexeme) → is_ahead (prefix mode) ts ≡ true → 2 ≤ d →
    (at_depth mode d).unary ts ≡ read_convert (λ r. of_prefix r.0 r.1) (read_both (read_token (prefix mode)) (at_depth mode (d - 1)).unary) ts
unary_prefix mode d ts k r = ap (λ l. l.unary ts) (deep mode d (omega (arith, r))) ∙ yes_then _ _ _ k ∙ yes_then _ _ _ (two_yes d r)

-- ---- atoms

module _ (mode : Mode) (d : ℕ) (ts : List Lexeme) where
  pub atom_small : is_ahead small ts ≡ true → atom_read mode d ts ≡ named_read mode d ts
  unfolding atom_read named_read
  atom_small a = yes_then _ _ _ a

  pub atom_number : is_ahead small ts ≡ false → is_ahead number ts ≡ true → atom_read mode d ts ≡ number_read ts
  unfolding atom_read number_read
  atom_number a b = no_then _ _ _ a ∙ yes_then _ _ _ b

  pub atom_parentheses : is_ahead small ts ≡ false → is_ahead number ts ≡ false → is_ahead (sign_of sign.Open) ts ≡ true → atom_read mode d ts ≡ parentheses_read mode d ts
  unfolding atom_read parentheses_read
  atom_parentheses a b c = no_then _ _ _ a ∙ no_then _ _ _ b ∙ yes_then _ _ _ c

  pub atom_last : is_ahead small ts ≡ false → is_ahead number ts ≡ false → is_ahead (sign_of sign.Open) ts ≡ false → is_ahead (keyword word.Last) ts ≡ true → atom_read mode d ts ≡ last_read ts
  unfolding atom_read last_read
  atom_last a b c e = no_then _ _ _ a ∙ no_then _ _ _ b ∙ no_then _ _ _ c ∙ yes_then _ _ _ e

  pub atom_inlined : is_ahead small ts ≡ false → is_ahead number ts ≡ false → is_ahead (sign_of sign.Open) ts ≡ false → is_ahead (keyword word.Last) ts ≡ false →
      is_ahead (only_whole mode (keyword word.Merge)) ts ≡ false → is_ahead (only_whole mode (keyword word.Inlined)) ts ≡ true → atom_read mode d ts ≡ inlined_read mode d ts
  unfolding atom_read inlined_read
  atom_inlined a b c e f g =
      no_then _ _ _ a ∙ no_then _ _ _ b ∙ no_then _ _ _ c ∙ no_then _ _ _ e ∙ no_then _ _ _ f ∙ yes_then _ _ _ g

  pub atom_constructor : is_ahead small ts ≡ false → is_ahead number ts ≡ false → is_ahead (sign_of sign.Open) ts ≡ false → is_ahead (keyword word.Last) ts ≡ false →
      is_ahead (only_whole mode (keyword word.Merge)) ts ≡ false → is_ahead (only_whole mode (keyword word.Inlined)) ts ≡ false → atom_read mode d ts ≡ constructor_read ts
  unfolding atom_read constructor_read
  atom_constructor a b c e f g =
      no_then _ _ _ a ∙ no_then _ _ _ b ∙ no_then _ _ _ c ∙ no_then _ _ _ e ∙ no_then _ _ _ f ∙ no_then _ _ _ g

-- ---- calls

module _ (mode : Mode) (d : ℕ) (ts rest : List Lexeme) where
  named_by : (name : Lexeme) (o : Outcome (List Measured × Lexeme)) →
      read_convert (λ (r : Lexeme × Option (List Measured × Lexeme)). of_name r.0 r.1) (λ us. ((o >>= λ r. done (Some r.0) r.1) >>= λ r. done (name, r.0) r.1)) ts
      ≡ (o >>= λ r. done (of_call name.span false name r.0.0 r.0.1) r.1)
  named_by name (done a rest) = refl
  named_by name (refused fault rest) = refl

  choose_call : (name : Lexeme) (b : Bool) → Outcome (List Measured × Lexeme) → Outcome Measured
  choose_call name b o = read_convert (λ (r : Lexeme × Option (List Measured × Lexeme)). of_name r.0 r.1) (λ us. ((if b then (o >>= λ r. done (Some r.0) r.1) else done None rest) >>= λ r. done (name, r.0) r.1)) ts

  named_some : (name : Lexeme) → read_token small ts ≡ done name rest → named_read mode d ts ≡ choose_call name (is_ahead (only_whole mode (sign_of sign.Open)) rest) (arguments reading mode (Some d) (within mode d) rest)
  unfolding named_read choose_call
  named_some name e = ap (λ (o : Outcome Lexeme). read_convert (λ (r : Lexeme × Option (List Measured × Lexeme)). of_name r.0 r.1)
      (λ us. (o >>= λ r. (read_either Depth true (only_whole mode (sign_of sign.Open)) (read_convert Some (arguments reading mode (Some d) (within mode d))) (done None) r.1 >>= λ s. done (r.0, s.0) s.1))) ts) e

  pub named_call : (name : Lexeme) → read_token small ts ≡ done name rest → is_ahead (only_whole mode (sign_of sign.Open)) rest ≡ true → named_read mode d ts ≡ call_read mode d name.span false name rest
  unfolding choose_call call_read arguments_read
  named_call name e h = named_some name e ∙ ap (λ b. choose_call name b (arguments reading mode (Some d) (within mode d) rest)) h ∙ named_by name (arguments reading mode (Some d) (within mode d) rest)

  pub named_plain : (name : Lexeme) → read_token small ts ≡ done name rest → is_ahead (only_whole mode (sign_of sign.Open)) rest ≡ false → named_read mode d ts ≡ done (of_name name None) rest
  unfolding choose_call
  named_plain name e h = named_some name e ∙ ap (λ b. choose_call name b (arguments reading mode (Some d) (within mode d) rest)) h

  pub named_fails : (fault : Fault) → read_token small ts ≡ refused fault rest → named_read mode d ts ≡ refused fault rest
  unfolding named_read
  named_fails fault e = ap (λ (o : Outcome Lexeme). read_convert (λ (r : Lexeme × Option (List Measured × Lexeme)). of_name r.0 r.1)
      (λ us. (o >>= λ r. (read_either Depth true (only_whole mode (sign_of sign.Open)) (read_convert Some (arguments reading mode (Some d) (within mode d))) (done None) r.1 >>= λ s. done (r.0, s.0) s.1))) ts) e

abbrev pair : {A B : Type 0} → A → B → A × B
pair a b = (a, b)

pub atom_merged : (mode : Mode) (d : ℕ) (ts : List Lexeme) → is_ahead small ts ≡ false → is_ahead number ts ≡ false → is_ahead (sign_of sign.Open) ts ≡ false → is_ahead (keyword word.Last) ts ≡ false →
    is_ahead (only_whole mode (keyword word.Merge)) ts ≡ true → atom_read mode d ts ≡ merged_read mode d ts
unfolding atom_read merged_read parts_read part_read
atom_merged mode d ts a b c e f =
    no_then _ _ _ a ∙ no_then _ _ _ b ∙ no_then _ _ _ c ∙ no_then _ _ _ e ∙ yes_then _ _ _ f ∙ regrouped (has_two (Some d)) where
      -- the parts in one list
      parted : (first name : Lexeme) (o : Outcome (Part × List Part)) →
          (((o >>= λ r. done (pair name r.0) r.1) >>= λ r. done (pair first r.0) r.1) >>= λ r. done (of_merge r.0.0 r.0.1.0 r.0.1.1.0 r.0.1.1.1) r.1)
          ≡ ((((o >>= λ r. done (r.0.0 ∷ r.0.1) r.1) >>= λ r. done (pair name r.0) r.1) >>= λ r. done (pair first r.0) r.1) >>= λ r. done (of_parts r.0.0 r.0.1.0 r.0.1.1) r.1)
      parted first name (done a rest) = refl
      parted first name (refused fault rest) = refl

      named : (first : Lexeme) (o : Outcome Lexeme) (parts : Reader (Part × List Part)) →
          (((o >>= λ r. (parts r.1 >>= λ q. done (pair r.0 q.0) q.1)) >>= λ r. done (pair first r.0) r.1) >>= λ r. done (of_merge r.0.0 r.0.1.0 r.0.1.1.0 r.0.1.1.1) r.1)
          ≡ (((o >>= λ r. ((parts r.1 >>= λ q. done (q.0.0 ∷ q.0.1) q.1) >>= λ q. done (pair r.0 q.0) q.1)) >>= λ r. done (pair first r.0) r.1) >>= λ r. done (of_parts r.0.0 r.0.1.0 r.0.1.1) r.1)
      named first (done name rest) parts = parted first name (parts rest)
      named first (refused fault rest) parts = refl

      begun : (o : Outcome Lexeme) (parts : Reader (Part × List Part)) →
          ((o >>= λ s. ((read_token small s.1 >>= λ r. (parts r.1 >>= λ q. done (pair r.0 q.0) q.1)) >>= λ r. done (pair s.0 r.0) r.1)) >>= λ r. done (of_merge r.0.0 r.0.1.0 r.0.1.1.0 r.0.1.1.1) r.1)
          ≡ ((o >>= λ s. ((read_token small s.1 >>= λ r. ((parts r.1 >>= λ q. done (q.0.0 ∷ q.0.1) q.1) >>= λ q. done (pair r.0 q.0) q.1)) >>= λ r. done (pair s.0 r.0) r.1)) >>= λ r. done (of_parts r.0.0 r.0.1.0 r.0.1.1) r.1)
      begun (done first rest) parts = named first (read_token small rest) parts
      begun (refused fault rest) parts = refl

      regrouped : (b : Bool) → (if b then merged reading mode (Some d) (within mode d) ts else refused (Limit Depth) ts)
          ≡ (if b then read_convert (λ (r : Lexeme × (Lexeme × List Part)). of_parts r.0 r.1.0 r.1.1) (read_both (read_token (keyword word.Merge)) (read_both (read_token small) (parts_read mode d))) ts else refused (Limit Depth) ts)
      regrouped true = begun (read_token (keyword word.Merge) ts) (read_both (part reading mode (Some d) (within mode d)) (many reading (sign_of sign.Open) (part reading mode (Some d) (within mode d))))
      regrouped false = refl

pub inlined_call_is : (mode : Mode) (d : ℕ) (ts : List Lexeme) → inlined_read mode d ts ≡ (read_token (keyword word.Inlined) ts >>= λ a. (read_token small a.1 >>= λ b. call_read mode d a.0.span true b.0 b.1))
unfolding inlined_read call_read arguments_read
inlined_call_is mode d ts = begun (read_token (keyword word.Inlined) ts) where
  ended : (first name : Lexeme) (o : Outcome (List Measured × Lexeme)) →
      (((o >>= λ q. done (pair name q.0) q.1) >>= λ q. done (pair first q.0) q.1) >>= λ q. done (of_call q.0.0.span true q.0.1.0 q.0.1.1.0 q.0.1.1.1) q.1)
      ≡ (o >>= λ q. done (of_call first.span true name q.0.0 q.0.1) q.1)
  ended first name (done a rest) = refl
  ended first name (refused fault rest) = refl

  named : (first : Lexeme) (o : Outcome Lexeme) →
      (((o >>= λ r. (arguments reading mode (Some d) (within mode d) r.1 >>= λ q. done (pair r.0 q.0) q.1)) >>= λ q. done (pair first q.0) q.1) >>= λ q. done (of_call q.0.0.span true q.0.1.0 q.0.1.1.0 q.0.1.1.1) q.1)
      ≡ (o >>= λ b. (arguments reading mode (Some d) (within mode d) b.1 >>= λ q. done (of_call first.span true b.0 q.0.0 q.0.1) q.1))
  named first (done name rest) = ended first name (arguments reading mode (Some d) (within mode d) rest)
  named first (refused fault rest) = refl

  begun : (o : Outcome Lexeme) →
      ((o >>= λ s. ((read_token small s.1 >>= λ r. (arguments reading mode (Some d) (within mode d) r.1 >>= λ q. done (pair r.0 q.0) q.1)) >>= λ q. done (pair s.0 q.0) q.1)) >>= λ q. done (of_call q.0.0.span true q.0.1.0 q.0.1.1.0 q.0.1.1.1) q.1)
      ≡ (o >>= λ a. (read_token small a.1 >>= λ b. (arguments reading mode (Some d) (within mode d) b.1 >>= λ q. done (of_call a.0.span true b.0 q.0.0 q.0.1) q.1)))
  begun (done first rest) = named first (read_token small rest)
  begun (refused fault rest) = refl

-- ---- what is left falls

course_falls : {A : Type 0} (first goes : Kinds) (empty : Bool) (w : Way A) → Within first goes empty w → Falls w.read
course_falls first goes empty w law ts a rest e =
    let c : Course w ts (done a rest) = subst (Course w ts) e (law.course ts) in
    omega (arith, ap length c.1, length-append c.0 rest)

name_falls : Falls (lowest reading).unary
name_falls = strict_falls _ (convert_strict _ (read_token small) (token_strict small))

pub lower_falls : (mode : Mode) (n : ℕ) (l : all.Level) → Falls (pick l (at_depth mode n))
lower_falls mode zero all.expression = name_falls
lower_falls mode zero all.delayed = name_falls
lower_falls mode zero all.implication = name_falls
lower_falls mode zero all.conjunction = name_falls
lower_falls mode zero all.comparison = name_falls
lower_falls mode zero all.sum = name_falls
lower_falls mode zero all.product = name_falls
lower_falls mode zero all.unary = name_falls
lower_falls mode (suc n) l = course_falls _ _ _ (way_at mode (suc n) (all.shift (suc n) 0) l) ((known mode (suc n) 0 l).law refl)

behind_falls : (mode : Mode) (n : ℕ) (l : Level) → Falls (operand_read mode n (behind_operator l))
behind_falls mode n Product = lower_falls mode n all.unary
behind_falls mode n Sum = lower_falls mode n all.product
behind_falls mode n Comparison = lower_falls mode n all.sum
behind_falls mode n Conjunction = lower_falls mode n all.comparison
behind_falls mode n Disjunction = lower_falls mode n all.conjunction
behind_falls mode n Implication = lower_falls mode n all.implication
behind_falls mode n Delay = lower_falls mode n all.delayed

-- ---- levels of operators

abbrev item : Mode → ℕ → Level → Reader (Lexeme × Measured)
item mode d l = read_both (read_token (operators Whole l)) (operand_read mode (d - 1) (behind_operator l))

item_strict : (mode : Mode) (d : ℕ) (l : Level) → Strict (item mode d l)
item_strict mode d l = both_strict (read_token (operators Whole l)) (operand_read mode (d - 1) (behind_operator l)) (token_strict (operators Whole l)) (behind_falls mode (d - 1) l)

pub level_begin : (mode : Mode) (d : ℕ) (l : Level) (ts : List Lexeme) → 1 ≤ d → level_read mode d l ts ≡ (operand_read mode d (below l) ts >>= λ r. more_read mode d l r.0 r.1)
unfolding more_read disjunction_read
level_begin mode d Product ts h = subst (λ v. v.product ts ≡ (v.unary ts >>= λ r. more_read mode d Product r.0 r.1)) (sym (deep mode d h)) refl
level_begin mode d Sum ts h = subst (λ v. v.sum ts ≡ (v.product ts >>= λ r. more_read mode d Sum r.0 r.1)) (sym (deep mode d h)) refl
level_begin mode d Comparison ts h = subst (λ v. v.comparison ts ≡ (v.sum ts >>= λ r. more_read mode d Comparison r.0 r.1)) (sym (deep mode d h)) refl
level_begin mode d Conjunction ts h = subst (λ v. v.conjunction ts ≡ (v.comparison ts >>= λ r. more_read mode d Conjunction r.0 r.1)) (sym (deep mode d h)) refl
level_begin mode d Disjunction ts h = subst (λ (v : Levels Reader). disjunction_read mode d ts ≡ (v.conjunction ts >>= λ r. more_read mode d Disjunction r.0 r.1)) (sym (deep mode d h)) refl
level_begin mode d Implication ts h = subst (λ v. v.implication ts ≡ (disjunction_read mode d ts >>= λ r. more_read mode d Implication r.0 r.1)) (sym (deep mode d h)) refl
level_begin mode d Delay ts h = subst (λ v. v.delayed ts ≡ (v.implication ts >>= λ r. more_read mode d Delay r.0 r.1)) (sym (deep mode d h)) refl

-- ---- phrases behind an operand

module _ {A : Type 0} (begins : Kinds) (join : Measured → A → Measured) (d : ℕ) (suffix : Reader A) (strict : Strict suffix) where
  abbrev loop : Measured → Reader Measured
  loop = read_while (suffix_loop begins join (Some d) suffix)

  abbrev once : Measured → Reader Measured
  once = read_suffix begins join (Some d) suffix

  abbrev joining : Measured → Reader Measured
  joining m = read_convert (join m) suffix

  abbrev some_of : Bool → Measured → Reader Measured
  some_of b m = (if b then loop else once) m

  some_end : (b : Bool) (m : Measured) (ts : List Lexeme) → is_ahead begins ts ≡ false → some_of b m ts ≡ done m ts
  some_end true m ts h = ends (suffix_loop begins join (Some d) suffix) (λ s. strict) m ts h
  some_end false m ts h = no_then _ _ _ h

  some_deep : (b : Bool) (m : Measured) (ts : List Lexeme) → is_ahead begins ts ≡ true → d - m.height < 2 → some_of b m ts ≡ refused (Limit Depth) ts
  some_deep true m ts h k = refuses (suffix_loop begins join (Some d) suffix) (λ s. strict) m ts h (ap not (above_no d m.height k))
  some_deep false m ts h k = yes_then _ _ _ h ∙ no_then _ _ _ (above_no d m.height k)

  once_one : (m : Measured) (ts : List Lexeme) → is_ahead begins ts ≡ true → 2 ≤ d - m.height → once m ts ≡ joining m ts
  once_one m ts h k = yes_then _ _ _ h ∙ yes_then _ _ _ (above_yes d m.height k)

  grouped : (m : Measured) (o : Outcome A) → (o >>= λ r. loop (join m r.0) r.1) ≡ ((o >>= λ r. done (join m r.0) r.1) >>= λ r. loop r.0 r.1)
  grouped m (done a rest) = refl
  grouped m (refused fault rest) = refl

  loop_step : (m : Measured) (ts : List Lexeme) → is_ahead begins ts ≡ true → 2 ≤ d - m.height → loop m ts ≡ (joining m ts >>= λ r. loop r.0 r.1)
  loop_step m ts h k = steps (suffix_loop begins join (Some d) suffix) (λ s. strict) m ts h (ap not (above_yes d m.height k)) ∙ grouped m (suffix ts)

  loop_stepped : (m n : Measured) (ts rest : List Lexeme) → is_ahead begins ts ≡ true → 2 ≤ d - m.height → joining m ts ≡ done n rest → loop n rest ≡ loop m ts
  loop_stepped m n ts rest h k e = sym (loop_step m ts h k ∙ ap (λ o. o >>= λ r. loop r.0 r.1) e)

  some_fails : (b : Bool) (m : Measured) (ts rest : List Lexeme) (fault : Fault) → is_ahead begins ts ≡ true → 2 ≤ d - m.height → joining m ts ≡ refused fault rest → some_of b m ts ≡ refused fault rest
  some_fails true m ts rest fault h k e = loop_step m ts h k ∙ ap (λ o. o >>= λ r. loop r.0 r.1) e
  some_fails false m ts rest fault h k e = once_one m ts h k ∙ e

module _ (mode : Mode) (d : ℕ) (l : Level) where
  pub more_end : (m : Measured) (ts : List Lexeme) → is_ahead (operators mode l) ts ≡ false → more_read mode d l m ts ≡ done m ts
  unfolding more_read
  more_end = some_end (operators mode l) (joined_by l) d (item mode d l) (item_strict mode d l) (is_repeated l)

  pub more_deep : (m : Measured) (ts : List Lexeme) → is_ahead (operators mode l) ts ≡ true → d - m.height < 2 → more_read mode d l m ts ≡ refused (Limit Depth) ts
  unfolding more_read
  more_deep = some_deep (operators mode l) (joined_by l) d (item mode d l) (item_strict mode d l) (is_repeated l)

  pub more_fails : (m : Measured) (ts rest : List Lexeme) (fault : Fault) → is_ahead (operators mode l) ts ≡ true → 2 ≤ d - m.height → joined_read mode d l m ts ≡ refused fault rest →
      more_read mode d l m ts ≡ refused fault rest
  unfolding more_read joined_read
  more_fails = some_fails (operators mode l) (joined_by l) d (item mode d l) (item_strict mode d l) (is_repeated l)

  pub more_one : (m n : Measured) (ts rest : List Lexeme) → is_repeated l ≡ false → is_ahead (operators mode l) ts ≡ true → 2 ≤ d - m.height → joined_read mode d l m ts ≡ done n rest →
      more_read mode d l m ts ≡ done n rest
  unfolding more_read joined_read
  more_one m n ts rest r h k e =
      ap (λ b. some_of (operators mode l) (joined_by l) d (item mode d l) (item_strict mode d l) b m ts) r
      ∙ once_one (operators mode l) (joined_by l) d (item mode d l) (item_strict mode d l) m ts h k ∙ e

  pub more_stepped : (m n : Measured) (ts rest : List Lexeme) → is_repeated l ≡ true → is_ahead (operators mode l) ts ≡ true → 2 ≤ d - m.height → joined_read mode d l m ts ≡ done n rest →
      more_read mode d l n rest ≡ more_read mode d l m ts
  unfolding more_read joined_read
  more_stepped m n ts rest r h k e =
      ap (λ b. some_of (operators mode l) (joined_by l) d (item mode d l) (item_strict mode d l) b n rest) r
      ∙ loop_stepped (operators mode l) (joined_by l) d (item mode d l) (item_strict mode d l) m n ts rest h k e
      ∙ sym (ap (λ b. some_of (operators mode l) (joined_by l) d (item mode d l) (item_strict mode d l) b m ts) r)

-- ---- samples

sample_strict : Strict sample_read
unfolding sample_read
sample_strict = either_strict Depth true (keyword word.When) _ _
    (convert_strict _ _ (both_strict (read_token (keyword word.When)) _ (token_strict (keyword word.When))
    (strict_falls _ (either_strict Depth true constructor _ _
    (convert_strict _ _ (both_strict (read_token constructor) _ (token_strict constructor)
    (strict_falls _ (convert_strict _ _ (both_strict (read_token (sign_of sign.Open)) _ (token_strict (sign_of sign.Open))
    (strict_falls _ (both_strict (read_token small) (read_token (sign_of sign.Close)) (token_strict small) (strict_falls (read_token (sign_of sign.Close)) (token_strict (sign_of sign.Close))))))))))
    (convert_strict _ (read_token small) (token_strict small))))))
    (convert_strict _ _ (convert_strict _ _ (both_strict (read_token (keyword word.Whenot)) (read_token small) (token_strict (keyword word.Whenot)) (strict_falls (read_token small) (token_strict small)))))

pub sampled_begin : (mode : Mode) (d : ℕ) (ts : List Lexeme) → 1 ≤ d → sampled_read mode d ts ≡ (level_read mode d Delay ts >>= λ r. samples_read mode d r.0 r.1)
unfolding sampled_read samples_read sample_read
sampled_begin mode d ts h = subst (λ (v : Levels Reader). sampled_read mode d ts ≡ (v.delayed ts >>= λ r. samples_read mode d r.0 r.1)) (sym (deep mode d h)) refl

module _ (mode : Mode) (d : ℕ) where
  pub samples_end : (m : Measured) (ts : List Lexeme) → is_ahead (begins_sample mode) ts ≡ false → samples_read mode d m ts ≡ done m ts
  unfolding samples_read
  samples_end = some_end (begins_sample mode) of_sample d sample_read sample_strict true

  pub samples_deep : (m : Measured) (ts : List Lexeme) → is_ahead (begins_sample mode) ts ≡ true → d - m.height < 2 → samples_read mode d m ts ≡ refused (Limit Depth) ts
  unfolding samples_read
  samples_deep = some_deep (begins_sample mode) of_sample d sample_read sample_strict true

  pub samples_fails : (m : Measured) (ts rest : List Lexeme) (fault : Fault) → is_ahead (begins_sample mode) ts ≡ true → 2 ≤ d - m.height → read_convert (of_sample m) sample_read ts ≡ refused fault rest →
      samples_read mode d m ts ≡ refused fault rest
  unfolding samples_read
  samples_fails = some_fails (begins_sample mode) of_sample d sample_read sample_strict true

  pub samples_stepped : (m n : Measured) (ts rest : List Lexeme) → is_ahead (begins_sample mode) ts ≡ true → 2 ≤ d - m.height → read_convert (of_sample m) sample_read ts ≡ done n rest →
      samples_read mode d n rest ≡ samples_read mode d m ts
  unfolding samples_read
  samples_stepped m n ts rest h k e = loop_stepped (begins_sample mode) of_sample d sample_read sample_strict m n ts rest h k e

  -- ---- arrows

  pub arrow_begin : (ts : List Lexeme) → arrowed_read mode d ts ≡ (sampled_read mode d ts >>= λ r. arrow_read mode d r.0 r.1)
  unfolding arrowed_read sampled_read arrow_read
  arrow_begin ts = refl

  pub arrow_end : (m : Measured) (ts : List Lexeme) → is_ahead (is_arrow mode) ts ≡ false → arrow_read mode d m ts ≡ done m ts
  unfolding arrow_read
  arrow_end m ts h = no_then _ _ _ h

  pub arrow_deep : (m : Measured) (ts : List Lexeme) → is_ahead (is_arrow mode) ts ≡ true → d - m.height < 2 → arrow_read mode d m ts ≡ refused (Limit Depth) ts
  unfolding arrow_read
  arrow_deep m ts h k = yes_then _ _ _ h ∙ no_then _ _ _ (above_no d m.height k)

  pub arrow_one : (m : Measured) (ts : List Lexeme) → is_ahead (is_arrow mode) ts ≡ true → 2 ≤ d - m.height →
      arrow_read mode d m ts ≡ read_convert (of_arrow m) (read_both (read_token (sign_of sign.Arrow)) (at_depth mode (d - 1)).expression) ts
  unfolding arrow_read
  arrow_one m ts h k = yes_then _ _ _ h ∙ yes_then _ _ _ (above_yes d m.height k)

-- ---- arguments and parts, round by round

part_strict : (mode : Mode) (d : ℕ) → Strict (part_read mode d)
unfolding part_read
part_strict mode d =
    convert_strict _ _ (convert_strict _ _ (both_strict (read_token (sign_of sign.Open)) _ (token_strict (sign_of sign.Open))
    (strict_falls _ (both_strict (read_token constructor) _ (token_strict constructor)
    (strict_falls _ (convert_strict _ _ (both_strict (read_token (sign_of sign.Arrow)) _ (token_strict (sign_of sign.Arrow))
    (then_falls _ _ (lower_falls mode (d - 1) all.expression) (λ a. convert_falls _ (read_token (sign_of sign.Close)) (strict_falls _ (token_strict (sign_of sign.Close))))))))))))

module _ (mode : Mode) (d : ℕ) where
  abbrev next_argument : Reader Measured
  next_argument = behind reading (sign_of sign.Comma) (at_depth mode (d - 1)).expression

  argument_strict : Strict next_argument
  argument_strict = convert_strict _ _ (both_strict (read_token (sign_of sign.Comma)) (at_depth mode (d - 1)).expression (token_strict (sign_of sign.Comma)) (lower_falls mode (d - 1) all.expression))

  unfoldable pub arguments_from : List Measured → Reader (List Measured)
  arguments_from items = many_from (sign_of sign.Comma) next_argument items

  pub arguments_none : (ts : List Lexeme) → is_ahead (begins_expression mode) ts ≡ false → arguments_read mode d ts ≡ done [] ts
  unfolding arguments_read
  arguments_none ts h = no_then _ _ _ h

  pub arguments_deep : (ts : List Lexeme) → is_ahead (begins_expression mode) ts ≡ true → d < 2 → arguments_read mode d ts ≡ refused (Limit Depth) ts
  unfolding arguments_read
  arguments_deep ts h k = yes_then _ _ _ h ∙ no_then _ _ _ (two_no d k)

  pub arguments_begin : (ts : List Lexeme) → is_ahead (begins_expression mode) ts ≡ true → 2 ≤ d →
      arguments_read mode d ts ≡ ((at_depth mode (d - 1)).expression ts >>= λ r. arguments_from (r.0 ∷ []) r.1)
  unfolding arguments_read arguments_from
  arguments_begin ts h k = yes_then _ _ _ h ∙ yes_then _ _ _ (two_yes d k) ∙ one_and_more (sign_of sign.Comma) next_argument argument_strict (at_depth mode (d - 1)).expression ts

  pub arguments_end : (items : List Measured) (ts : List Lexeme) → is_ahead (sign_of sign.Comma) ts ≡ false → arguments_from items ts ≡ done items ts
  unfolding arguments_from
  arguments_end = many_ends (sign_of sign.Comma) next_argument argument_strict

  argument_is : (ts rest : List Lexeme) (t : Lexeme) → read_token (sign_of sign.Comma) ts ≡ done t rest → next_argument ts ≡ (((at_depth mode (d - 1)).expression rest >>= λ r. done (pair t r.0) r.1) >>= λ r. done r.0.1 r.1)
  argument_is ts rest t e = ap (λ (o : Outcome Lexeme). (o >>= λ s. ((at_depth mode (d - 1)).expression s.1 >>= λ r. done (pair s.0 r.0) r.1)) >>= λ r. done r.0.1 r.1) e

  argument_done : (ts rest last : List Lexeme) (t : Lexeme) (m : Measured) → read_token (sign_of sign.Comma) ts ≡ done t rest → (at_depth mode (d - 1)).expression rest ≡ done m last → next_argument ts ≡ done m last
  argument_done ts rest last t m e f = argument_is ts rest t e ∙ ap (λ (o : Outcome Measured). (o >>= λ r. done (pair t r.0) r.1) >>= λ r. done r.0.1 r.1) f

  pub arguments_pushed : (xs : List Found) (x : Found) (ts rest last : List Lexeme) (t : Lexeme) → is_ahead (sign_of sign.Comma) ts ≡ true → read_token (sign_of sign.Comma) ts ≡ done t rest →
      (at_depth mode (d - 1)).expression rest ≡ done (measured_seen x) last → arguments_from (map measured_seen (xs ++ (x ∷ []))) last ≡ arguments_from (map measured_seen xs) ts
  unfolding arguments_from
  arguments_pushed xs x ts rest last t h e f = many_pushed (sign_of sign.Comma) next_argument argument_strict measured_seen xs x ts last h (argument_done ts rest last t (measured_seen x) e f)

  pub arguments_fail : (items : List Measured) (ts rest last : List Lexeme) (t : Lexeme) (fault : Fault) → is_ahead (sign_of sign.Comma) ts ≡ true → read_token (sign_of sign.Comma) ts ≡ done t rest →
      (at_depth mode (d - 1)).expression rest ≡ refused fault last → arguments_from items ts ≡ refused fault last
  unfolding arguments_from
  arguments_fail items ts rest last t fault h e f =
      many_steps (sign_of sign.Comma) next_argument argument_strict items ts h
      ∙ ap (λ (o : Outcome Measured). o >>= λ r. many_from (sign_of sign.Comma) next_argument (items ++ (r.0 ∷ [])) r.1)
      (argument_is ts rest t e ∙ ap (λ (o : Outcome Measured). (o >>= λ r. done (pair t r.0) r.1) >>= λ r. done r.0.1 r.1) f)

  pub arguments_bad : (items : List Measured) (ts rest : List Lexeme) (fault : Fault) → is_ahead (sign_of sign.Comma) ts ≡ true → read_token (sign_of sign.Comma) ts ≡ refused fault rest → arguments_from items ts ≡ refused fault rest
  unfolding arguments_from
  arguments_bad items ts rest fault h e =
      many_steps (sign_of sign.Comma) next_argument argument_strict items ts h
      ∙ ap (λ (o : Outcome Lexeme). ((o >>= λ s. ((at_depth mode (d - 1)).expression s.1 >>= λ r. done (pair s.0 r.0) r.1)) >>= λ r. done r.0.1 r.1) >>= λ r. many_from (sign_of sign.Comma) next_argument (items ++ (r.0 ∷ [])) r.1) e

  unfoldable pub parts_from : List Part → Reader (List Part)
  parts_from items = many_from (sign_of sign.Open) (part_read mode d) items

  pub parts_begin : (ts : List Lexeme) → parts_read mode d ts ≡ (part_read mode d ts >>= λ r. parts_from (r.0 ∷ []) r.1)
  unfolding parts_read parts_from
  parts_begin ts = one_and_more (sign_of sign.Open) (part_read mode d) (part_strict mode d) (part_read mode d) ts

  pub parts_end : (items : List Part) (ts : List Lexeme) → is_ahead (sign_of sign.Open) ts ≡ false → parts_from items ts ≡ done items ts
  unfolding parts_from
  parts_end = many_ends (sign_of sign.Open) (part_read mode d) (part_strict mode d)

  pub parts_pushed : (xs : List FoundPart) (x : FoundPart) (ts rest : List Lexeme) → is_ahead (sign_of sign.Open) ts ≡ true → part_read mode d ts ≡ done (part_seen x) rest →
      parts_from (map part_seen (xs ++ (x ∷ []))) rest ≡ parts_from (map part_seen xs) ts
  unfolding parts_from
  parts_pushed = many_pushed (sign_of sign.Open) (part_read mode d) (part_strict mode d) part_seen

  pub parts_fail : (items : List Part) (ts rest : List Lexeme) (fault : Fault) → is_ahead (sign_of sign.Open) ts ≡ true → part_read mode d ts ≡ refused fault rest → parts_from items ts ≡ refused fault rest
  unfolding parts_from
  parts_fail items ts rest fault h e =
      many_steps (sign_of sign.Open) (part_read mode d) (part_strict mode d) items ts h ∙ ap (λ (o : Outcome Part). o >>= λ r. many_from (sign_of sign.Open) (part_read mode d) (items ++ (r.0 ∷ [])) r.1) e

-- ---- measures

unfoldable pub level_rank : Level → ℕ
level_rank Product = 6
level_rank Sum = 8
level_rank Comparison = 10
level_rank Conjunction = 12
level_rank Disjunction = 14
level_rank Implication = 16
level_rank Delay = 18

unfoldable pub operand_rank : Option Level → ℕ
operand_rank None = 5
operand_rank (Some l) = suc (level_rank l)

pub below_rank : (l : Level) → operand_rank (below l) < level_rank l
unfolding level_rank operand_rank
below_rank Product = omega arith
below_rank Sum = omega arith
below_rank Comparison = omega arith
below_rank Conjunction = omega arith
below_rank Disjunction = omega arith
below_rank Implication = omega arith
below_rank Delay = omega arith

pub level_rank_most : (l : Level) → level_rank l ≤ 18
unfolding level_rank
level_rank_most Product = omega arith
level_rank_most Sum = omega arith
level_rank_most Comparison = omega arith
level_rank_most Conjunction = omega arith
level_rank_most Disjunction = omega arith
level_rank_most Implication = omega arith
level_rank_most Delay = omega arith

pub level_rank_least : (l : Level) → 6 ≤ level_rank l
unfolding level_rank
level_rank_least Product = omega arith
level_rank_least Sum = omega arith
level_rank_least Comparison = omega arith
level_rank_least Conjunction = omega arith
level_rank_least Disjunction = omega arith
level_rank_least Implication = omega arith
level_rank_least Delay = omega arith

pub operand_rank_most : (o : Option Level) → operand_rank o ≤ 19
unfolding operand_rank
operand_rank_most None = omega arith
operand_rank_most (Some l) = omega (arith, level_rank_most l)

pub operand_rank_none : operand_rank None ≡ 5
unfolding operand_rank
operand_rank_none = refl

pub operand_rank_some : (l : Level) → operand_rank (Some l) ≡ level_rank l + 1
unfolding operand_rank
operand_rank_some l = omega arith

pub delay_rank : level_rank Delay ≡ 18
unfolding level_rank
delay_rank = refl

-- ---- what is left is less

pub joined_shorter : (mode : Mode) (d : ℕ) (l : Level) (m n : Measured) (ts rest : List Lexeme) → joined_read mode d l m ts ≡ done n rest → length rest < length ts
unfolding joined_read
joined_shorter mode d l m n ts rest e = convert_strict (joined_by l m) (item mode d l) (item_strict mode d l) ts n rest e

pub sample_shorter : (m n : Measured) (ts rest : List Lexeme) → read_convert (of_sample m) sample_read ts ≡ done n rest → length rest < length ts
sample_shorter m n ts rest e = convert_strict (of_sample m) sample_read sample_strict ts n rest e

pub argument_shorter : (mode : Mode) (d : ℕ) (ts rest last : List Lexeme) (t : Lexeme) (m : Measured) → read_token (sign_of sign.Comma) ts ≡ done t rest → (at_depth mode (d - 1)).expression rest ≡ done m last → length last < length ts
argument_shorter mode d ts rest last t m e f = argument_strict mode d ts m last (argument_done mode d ts rest last t m e f)

pub part_shorter : (mode : Mode) (d : ℕ) (ts rest : List Lexeme) (p : Part) → part_read mode d ts ≡ done p rest → length rest < length ts
part_shorter mode d ts rest p e = part_strict mode d ts p rest e

-- ---- what stops a phrase within another stops that one

pub stops_with : {A B : Type 0} (e : Stop) (rest : List Lexeme) (o : Outcome A) (w : Outcome B) → ((fault : Fault) → o ≡ refused fault rest → w ≡ refused fault rest) → Stops e rest o → Stops e rest w
stops_with stop.Memory rest o w f h = tt
stops_with (stop.Fault fault) rest o w f h = f fault h

-- ---- what each function needs

pub ruleset expression_rules = (expression_plain, expression_deep, expression_if)

pub ruleset arrowed_rules = (arrow_begin, arrow_end, arrow_deep, arrow_one)

pub ruleset sampled_rules = (sampled_begin, samples_end, samples_deep, samples_fails, samples_stepped, sample_shorter, delay_rank)

pub ruleset level_rules = (level_begin, more_end, more_deep, more_fails, more_one, more_stepped, joined_shorter, below_rank, level_rank_least)

pub ruleset unary_rules = (unary_plain, unary_deep, unary_prefix)

pub ruleset atom_rules = (atom_small, atom_number, atom_parentheses, atom_last, atom_merged, atom_inlined, atom_constructor)

pub ruleset named_rules = (named_call, named_plain, named_fails)

pub ruleset arguments_rules = (arguments_none, arguments_deep, arguments_begin, arguments_end, arguments_pushed, arguments_fail, arguments_bad, argument_shorter, deepest_pushed)

pub ruleset parts_rules = (parts_begin, parts_end, parts_pushed, parts_fail, part_shorter, deepest_part_pushed)
