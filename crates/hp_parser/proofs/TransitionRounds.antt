-- Transitions and left sides of equations, round by round.
use Rattle.std.proofs.Common.{◌≡◌, ℕ, suc, zero, ◌<◌, ◌≤◌, Bool, true, false, ◌||◌, List, [], ◌∷◌, ◌++◌, length, length-append, map, Option, None, Some, if◌then◌else◌, refl, sym, ap, subst, ◌∙◌, arith}
use Rattle.std.proofs.lemmas.List.{map-append}
use Rattle.hp_base.specs.declared.limit.What.TheVariants.{Depth}
use Rattle.hp_base.specs.declared.span.Span.{Span}
use Rattle.hp_lexer.specs.declared.token.Keyword.TheVariants as word
use Rattle.hp_lexer.specs.declared.token.Sign.TheVariants as sign
use Rattle.hp_tree.specs.declared.block.Trans.{Trans}
use Rattle.hp_tree.specs.Blocks.{Eqn, define}
use Rattle.hp_parser.specs.declared.mode.Mode.{Mode}
use Rattle.hp_parser.specs.declared.mode.Mode.TheVariants.{Whole, Plain}
use Rattle.hp_parser.specs.Lexemes.{Lexeme, Kinds, is_ahead}
use Rattle.hp_parser.specs.Nesting.{expression_read, first_transition_read, transitions_read, next_placed_read, placed_names_read, left_read, one_name_read}
use Rattle.hp_parser.specs.Notation.{Measured}
use Rattle.hp_parser.specs.Outcomes.{Outcome, done, refused, ◌>>=◌}
use Rattle.hp_parser.specs.Programs.{expression_of}
use Rattle.hp_parser.specs.BlockGrammar.{transition, transitions, all_transitions, Transitions, Left, definition, placed, all_or_none}
use Rattle.hp_parser.specs.Grammar.{behind, before, either, many}
use Rattle.hp_parser.specs.Tokens.{keyword, sign_of, small, capital}
use Rattle.hp_parser.specs.Reading.{Reader, reading, Loop, read_while, read_token, read_then, read_convert, read_both, read_either, items_loop, Taken}
use Rattle.hp_parser.proofs.Ways.{Way, Within, Course}
use Rattle.hp_parser.proofs.LevelLaws.{known, is_more, expression}
use Rattle.hp_parser.proofs.TokenSets.{apart_seen}
use Rattle.hp_parser.proofs.Rounds.{Falls, Strict, token_strict, strict_falls, then_falls, convert_falls, convert_strict, both_strict, done_falls, many_from, many_ends, many_steps, one_and_more}
use Rattle.hp_parser.proofs.FallLaws.{token_falls, both_falls, either_falls, behind_strict, behind_falls, before_falls, optional_falls, many_falls, simulated}

-- one more is pushed
pub many_more : {A : Type 0} (begins : Kinds) (item : Reader A) (strict : Strict item) (items : List A) (a : A) (ts rest : List Lexeme) → is_ahead begins ts ≡ true → item ts ≡ done a rest →
    many_from begins item (items ++ (a ∷ [])) rest ≡ many_from begins item items ts
many_more begins item strict items a ts rest h e =
    sym (many_steps begins item strict items ts h ∙ ap (λ o. o >>= λ r. many_from begins item (items ++ (r.0 ∷ [])) r.1) e)

-- ---- expressions fall

way_falls : {A : Type 0} (first goes : Kinds) (empty : Bool) (w : Way A) → Within first goes empty w → Falls w.read
way_falls first goes empty w l ts a rest e =
    let c : Course w ts (done a rest) = subst (Course w ts) e (l.course ts) in
    omega (arith, ap length c.1, length-append c.0 rest)

falls_at : (mode : Mode) (n : ℕ) → is_more n ≡ true → Falls (expression_of reading Some n mode)
falls_at mode n h = let f = known mode n 0 expression in way_falls _ _ false _ (f.law h)

pub expression_falls : (mode : Mode) → Falls (expression_read mode)
unfolding expression_read
expression_falls mode = falls_at mode 200 refl

-- ---- transitions

abbrev goes_read : Reader (Lexeme × Lexeme)
goes_read = read_both (read_token (λ k. keyword word.Then k || keyword word.Continue k)) (read_token capital)

abbrev of_transition : Measured × (Lexeme × Lexeme) → Trans
of_transition r = record { cond = r.0.expr; restart = keyword word.Then r.1.0.kind; target = r.1.1.bytes; span = r.0.first }

transition_falls : Falls (transition reading expression_read)
transition_falls = convert_falls of_transition (read_both (expression_read Plain) goes_read)
    (both_falls (expression_read Plain) goes_read (expression_falls Plain)
    (both_falls (read_token (λ k. keyword word.Then k || keyword word.Continue k)) (read_token capital) (token_falls (λ k. keyword word.Then k || keyword word.Continue k)) (token_falls capital)))

abbrev next_transition : Reader Trans
next_transition = behind reading (sign_of sign.Bar) (transition reading expression_read)

pub next_transition_strict : Strict next_transition
next_transition_strict = behind_strict (sign_of sign.Bar) (transition reading expression_read) transition_falls

next_transition_falls : Falls next_transition
next_transition_falls = strict_falls next_transition next_transition_strict

pub transitions_begin : (ts : List Lexeme) → transitions reading expression_read ts ≡ (first_transition_read ts >>= λ r. many_from (sign_of sign.Bar) next_transition (r.0 ∷ []) r.1)
transitions_begin ts = one_and_more (sign_of sign.Bar) next_transition next_transition_strict first_transition_read ts

pub transitions_end : (items : List Trans) (ts : List Lexeme) → is_ahead (sign_of sign.Bar) ts ≡ false → many_from (sign_of sign.Bar) next_transition items ts ≡ done items ts
transitions_end = many_ends (sign_of sign.Bar) next_transition next_transition_strict

pub transitions_more : (items : List Trans) (t : Trans) (ts rest : List Lexeme) → is_ahead (sign_of sign.Bar) ts ≡ true → next_transition ts ≡ done t rest →
    many_from (sign_of sign.Bar) next_transition (items ++ (t ∷ [])) rest ≡ many_from (sign_of sign.Bar) next_transition items ts
transitions_more = many_more (sign_of sign.Bar) next_transition next_transition_strict

abbrev whole_transitions : Reader (List Trans)
whole_transitions = transitions reading expression_read

transitions_falls : Falls whole_transitions
transitions_falls = convert_falls (λ (r : Trans × List Trans). r.0 ∷ r.1) (read_both first_transition_read (many reading (sign_of sign.Bar) next_transition))
    (both_falls first_transition_read (many reading (sign_of sign.Bar) next_transition)
    (either_falls Depth true (sign_of sign.Bar) next_transition (transition reading expression_read) next_transition_falls transition_falls)
    (many_falls (sign_of sign.Bar) next_transition next_transition_falls))

-- ---- the transitions of a state

abbrev until_part : Reader (List Trans)
until_part = behind reading (keyword word.Until) whole_transitions

abbrev unless_part : Reader (List Trans)
unless_part = behind reading (keyword word.Unless) whole_transitions

until_falls : Falls until_part
until_falls = behind_falls (keyword word.Until) whole_transitions transitions_falls

unless_falls : Falls unless_part
unless_falls = behind_falls (keyword word.Unless) whole_transitions transitions_falls

abbrev maybe_until : Reader (Option (List Trans))
maybe_until = read_either Depth true (keyword word.Until) (read_convert Some until_part) (done None)

abbrev maybe_unless : Reader (Option (List Trans))
maybe_unless = read_either Depth true (keyword word.Unless) (read_convert Some unless_part) (done None)

abbrev until_first : Reader Transitions
until_first = read_convert (λ (r : List Trans × Option (List Trans)). record { until = r.0; unless = all_or_none r.1 }) (read_both until_part maybe_unless)

abbrev unless_first : Reader Transitions
unless_first = read_convert (λ (r : List Trans × Option (List Trans)). record { until = all_or_none r.1; unless = r.0 }) (read_both unless_part maybe_until)

pub all_transitions_falls : Falls (all_transitions reading expression_read)
all_transitions_falls =
    either_falls Depth true (keyword word.Until) until_first (read_either Depth true (keyword word.Unless) unless_first (done (record { until = []; unless = [] })))
    (convert_falls (λ (r : List Trans × Option (List Trans)). record { until = r.0; unless = all_or_none r.1 }) (read_both until_part maybe_unless)
    (both_falls until_part maybe_unless until_falls (optional_falls (keyword word.Unless) unless_part unless_falls)))
    (either_falls Depth true (keyword word.Unless) unless_first (done (record { until = []; unless = [] }))
    (convert_falls (λ (r : List Trans × Option (List Trans)). record { until = all_or_none r.1; unless = r.0 }) (read_both unless_part maybe_until)
    (both_falls unless_part maybe_until unless_falls (optional_falls (keyword word.Until) until_part until_falls)))
    (done_falls (record { until = []; unless = [] })))

not_both : (ts : List Lexeme) → is_ahead (keyword word.Unless) ts ≡ true → is_ahead (keyword word.Until) ts ≡ false
not_both [] h = absurd cc
not_both (t ∷ ts) h = apart_seen (keyword word.Unless) (keyword word.Until) refl t.kind h

abbrev ending_until : List Trans → Outcome (Option (List Trans)) → Outcome Transitions
ending_until unless o = (o >>= λ r. done (all_or_none r.0) r.1) >>= λ r. done (record { until = r.0; unless = unless }) r.1

abbrev ending_unless : List Trans → Outcome (Option (List Trans)) → Outcome Transitions
ending_unless until o = (o >>= λ r. done (all_or_none r.0) r.1) >>= λ r. done (record { until = until; unless = r.0 }) r.1

abbrev paired : List Trans → Outcome (Option (List Trans)) → Outcome (List Trans × Option (List Trans))
paired xs o = o >>= λ r. done (xs, r.0) r.1

abbrev as_unless_first : Outcome (List Trans × Option (List Trans)) → Outcome Transitions
as_unless_first o = o >>= λ r. done (record { until = all_or_none r.0.1; unless = r.0.0 }) r.1

abbrev as_until_first : Outcome (List Trans × Option (List Trans)) → Outcome Transitions
as_until_first o = o >>= λ r. done (record { until = r.0.0; unless = all_or_none r.0.1 }) r.1

unless_then : (xs : List Trans) (o : Outcome (Option (List Trans))) → as_unless_first (paired xs o) ≡ ending_until xs o
unless_then xs (done a rest) = refl
unless_then xs (refused fault rest) = refl

until_then : (xs : List Trans) (o : Outcome (Option (List Trans))) → as_until_first (paired xs o) ≡ ending_unless xs o
until_then xs (done a rest) = refl
until_then xs (refused fault rest) = refl

unless_by : (o : Outcome (List Trans)) → as_unless_first (o >>= λ r. paired r.0 (maybe_until r.1)) ≡ (((o >>= λ r. done (Some r.0) r.1) >>= λ r. done (all_or_none r.0) r.1) >>= λ r. ending_until r.0 (maybe_until r.1))
unless_by (done xs rest) = unless_then xs (maybe_until rest)
unless_by (refused fault rest) = refl

until_by : (o : Outcome (List Trans)) → as_until_first (o >>= λ r. paired r.0 (maybe_unless r.1)) ≡ (((o >>= λ r. done (Some r.0) r.1) >>= λ r. done (all_or_none r.0) r.1) >>= λ r. ending_unless r.0 (maybe_unless r.1))
until_by (done xs rest) = until_then xs (maybe_unless rest)
until_by (refused fault rest) = refl

abbrev then_unless : Reader Transitions
then_unless ts = transitions_read word.Unless ts >>= λ r. ending_until r.0 (maybe_until r.1)

abbrev then_until : Reader Transitions
then_until ts = transitions_read word.Until ts >>= λ r. ending_unless r.0 (maybe_unless r.1)

by_unless : (ts : List Lexeme) (d e : Bool) → is_ahead (keyword word.Until) ts ≡ d → d ≡ false → is_ahead (keyword word.Unless) ts ≡ e → e ≡ true →
    (if d then until_first ts else (if e then unless_first ts else done (record { until = []; unless = [] }) ts)) ≡
    (((if e then read_convert Some unless_part ts else done None ts) >>= λ r. done (all_or_none r.0) r.1) >>= λ r. ending_until r.0 (maybe_until r.1))
by_unless ts false true p q s t = unless_by (unless_part ts)
by_unless ts true e p q s t = absurd cc
by_unless ts false false p q s t = absurd cc

-- strong transitions, and weak ones behind them
pub unless_until : (ts : List Lexeme) → is_ahead (keyword word.Unless) ts ≡ true →
    all_transitions reading expression_read ts ≡ (transitions_read word.Unless ts >>= λ r. transitions_read word.Until r.1 >>= λ s. done (record { until = s.0; unless = r.0 }) s.1)
unless_until ts h = by_unless ts (is_ahead (keyword word.Until) ts) (is_ahead (keyword word.Unless) ts) refl (not_both ts h) refl h

no_unless : (ts : List Lexeme) (e : Bool) → is_ahead (keyword word.Unless) ts ≡ e → e ≡ false → done (record { until = []; unless = [] }) ts ≡ ending_unless [] (if e then read_convert Some unless_part ts else done None ts)
no_unless ts false p q = refl
no_unless ts true p q = absurd cc

by_until : (ts : List Lexeme) (d e : Bool) → is_ahead (keyword word.Until) ts ≡ d → is_ahead (keyword word.Unless) ts ≡ e → e ≡ false →
    (if d then until_first ts else (if e then unless_first ts else done (record { until = []; unless = [] }) ts)) ≡
    (((if d then read_convert Some until_part ts else done None ts) >>= λ r. done (all_or_none r.0) r.1) >>= λ r. ending_unless r.0 (maybe_unless r.1))
by_until ts true e p s t = until_by (until_part ts)
by_until ts false false p s t = no_unless ts (is_ahead (keyword word.Unless) ts) refl s
by_until ts false true p s t = absurd cc

-- weak transitions, and strong ones behind them
pub until_unless : (ts : List Lexeme) → is_ahead (keyword word.Unless) ts ≡ false →
    all_transitions reading expression_read ts ≡ (transitions_read word.Until ts >>= λ r. transitions_read word.Unless r.1 >>= λ s. done (record { until = r.0; unless = s.0 }) s.1)
until_unless ts h = by_until ts (is_ahead (keyword word.Until) ts) (is_ahead (keyword word.Unless) ts) refl refl h

-- ---- names on the left

abbrev next_name : Reader Lexeme
next_name = behind reading (sign_of sign.Comma) (read_token small)

name_strict : Strict next_name
name_strict = behind_strict (sign_of sign.Comma) (read_token small) (token_falls small)

pub next_placed_strict : Strict next_placed_read
next_placed_strict = convert_strict placed next_name name_strict

abbrev pub placed_from : List (List ℕ × Span) → Reader (List (List ℕ × Span))
placed_from items = many_from (sign_of sign.Comma) next_placed_read items

pub placed_end : (items : List (List ℕ × Span)) (ts : List Lexeme) → is_ahead (sign_of sign.Comma) ts ≡ false → placed_from items ts ≡ done items ts
placed_end = many_ends (sign_of sign.Comma) next_placed_read next_placed_strict

pub placed_more : (items : List (List ℕ × Span)) (p : List ℕ × Span) (ts rest : List Lexeme) → is_ahead (sign_of sign.Comma) ts ≡ true → next_placed_read ts ≡ done p rest → placed_from (items ++ (p ∷ [])) rest ≡ placed_from items ts
placed_more = many_more (sign_of sign.Comma) next_placed_read next_placed_strict

abbrev name_loop : Loop (Taken Lexeme) Lexeme (List Lexeme)
name_loop = items_loop Depth (sign_of sign.Comma) (λ k. false) (λ a. 0) (λ count. next_name)

abbrev placed_loop : Loop (Taken (List ℕ × Span)) (List ℕ × Span) (List (List ℕ × Span))
placed_loop = items_loop Depth (sign_of sign.Comma) (λ k. false) (λ a. 0) (λ count. next_placed_read)

abbrev placed_state : Taken Lexeme → Taken (List ℕ × Span)
placed_state s = record { left = s.left; items = map placed s.items }

next_placed : (s : Taken Lexeme) (t : Lexeme) → placed_loop.next (placed_state s) (placed t) ≡ placed_state (name_loop.next s t)
next_placed s t = ap (λ z. placed_loop.next (record { left = s.left; items = z }) (placed t)) refl ∙ next_by s t where
  next_by : (s : Taken Lexeme) (t : Lexeme) → placed_loop.next (placed_state s) (placed t) ≡ placed_state (name_loop.next s t)
  next_by s t = ap (λ z. record { left = (name_loop.next s t).left; items = z }) (sym (map-append placed s.items (t ∷ [])))

placed_simulated : (s : Taken Lexeme) (ts : List Lexeme) → read_while placed_loop (placed_state s) ts ≡ read_convert (map placed) (read_while name_loop s) ts
placed_simulated = simulated name_loop placed_loop placed_state placed (map placed) (λ s ts. refl) (λ s ts. refl) refl (λ s ts. refl) next_placed (λ s. refl)

abbrev name_parts : Reader (Lexeme × List Lexeme)
name_parts = read_both (read_token small) (many reading (sign_of sign.Comma) next_name)

two_ways : (o : Outcome (Lexeme × List Lexeme)) → (o >>= λ r. done (placed r.0.0 ∷ map placed r.0.1) r.1) ≡ ((o >>= λ r. done (r.0.0 ∷ r.0.1) r.1) >>= λ r. done (map placed r.0) r.1)
two_ways (done a rest) = refl
two_ways (refused fault rest) = refl

first_placed : (o : Outcome Lexeme) → ((o >>= λ r. many_from (sign_of sign.Comma) next_name (r.0 ∷ []) r.1) >>= λ r. done (map placed r.0) r.1) ≡ ((o >>= λ r. done (placed r.0) r.1) >>= λ r. placed_from (r.0 ∷ []) r.1)
first_placed (done t rest) = sym (placed_simulated (record { left = None; items = t ∷ [] }) rest)
first_placed (refused fault rest) = refl

pub placed_begin : (ts : List Lexeme) → is_ahead small ts ≡ true → placed_names_read ts ≡ (read_convert placed (read_token small) ts >>= λ r. placed_from (r.0 ∷ []) r.1)
placed_begin ts h =
    ap (λ d. if d then read_convert (λ (r : Lexeme × List Lexeme). placed r.0 ∷ map placed r.1) name_parts ts else done [] ts) h
    ∙ two_ways (name_parts ts)
    ∙ ap (λ o. o >>= λ r. done (map placed r.0) r.1) (one_and_more (sign_of sign.Comma) next_name name_strict (read_token small) ts)
    ∙ first_placed (read_token small ts)

placed_names_falls : Falls placed_names_read
placed_names_falls = either_falls Depth true small (read_convert (λ (r : Lexeme × List Lexeme). placed r.0 ∷ map placed r.1) name_parts) (done [])
    (convert_falls (λ (r : Lexeme × List Lexeme). placed r.0 ∷ map placed r.1) name_parts
    (both_falls (read_token small) (many reading (sign_of sign.Comma) next_name) (token_falls small) (many_falls (sign_of sign.Comma) next_name (strict_falls next_name name_strict))))
    (done_falls [])

abbrev in_parentheses : Reader (Lexeme × List (List ℕ × Span))
in_parentheses = read_both (read_token (sign_of sign.Open)) (before reading placed_names_read (sign_of sign.Close))

left_falls : Falls left_read
left_falls = either_falls Depth true small one_name_read (read_convert (λ (r : Lexeme × List (List ℕ × Span)). record { first = r.0.span; names = r.1 }) in_parentheses)
    (convert_falls (λ (t : Lexeme). record { first = t.span; names = placed t ∷ [] }) (read_token small) (token_falls small))
    (convert_falls (λ (r : Lexeme × List (List ℕ × Span)). record { first = r.0.span; names = r.1 }) in_parentheses
    (both_falls (read_token (sign_of sign.Open)) (before reading placed_names_read (sign_of sign.Close)) (token_falls (sign_of sign.Open)) (before_falls placed_names_read (sign_of sign.Close) placed_names_falls)))

abbrev right_read : Reader Measured
right_read = behind reading (sign_of sign.Equal) (expression_read Whole)

pub definition_falls : Falls (definition reading expression_read)
definition_falls = convert_falls (λ (r : Left × Measured). define r.0.first r.0.names r.1.expr) (read_both left_read right_read)
    (both_falls left_read right_read left_falls (behind_falls (sign_of sign.Equal) (expression_read Whole) (expression_falls Whole)))
