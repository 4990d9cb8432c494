-- The words of transitions: each has the jump that the transitions from it on choose.
use Rattle.std.proofs.Common.{◌≡◌, ℕ, ◌+◌, ◌<◌, ◌≤◌, nat_lt, length, Bool, true, false, List, [], ◌∷◌, ◌++◌, refl, sym, ap, ◌∙◌, arith}
use Rattle.std.specs.Prelude.{pos, ⊤, if◌then◌else◌}
use Rattle.std.specs.Str.{bytes_eq}
use Rattle.std.proofs.lemmas.Bool.Decides.{nat_tests}
use Rattle.hp_base.specs.declared.span.Span.{Span}
use Rattle.hp_base.specs.declared.value.Value.{Value}
use Rattle.hp_base.specs.declared.value.Value.TheVariants.{B, I}
use Rattle.hp_tree.specs.declared.block.Trans.{Trans}
use Rattle.hp_tree.specs.Expressions.{Expr, variable, choose}
use Rattle.hp_tree.specs.Blocks.{Decl, Eqn, States, eqns_of}
use Rattle.hp_tree.specs.Programs.{TypeDecl}
use Rattle.hp_tree.specs.Operators.{is_true, if_of}
use Rattle.hp_tree.specs.Instant.{Head, Tail, Right, First, Instant, Given, at, part, in_row}
use Rattle.hp_tree.specs.Meaning.{Names, Nodes, Jump, expr, equations, conditions, number_of, clock_in, declares}
use Rattle.hp_automata.specs.declared.new_names.Word.{Word}
use Rattle.hp_automata.specs.NewNames.{transition_word}
use Rattle.hp_automata.specs.Renaming.{renamed}
use Rattle.hp_automata.specs.Lowering.{Frame, code, link, chosen, choices, number, transition_locals}
use Rattle.law_automata.specs.Lowered.OldNames.{IsOld}
use Rattle.law_automata.specs.Lowered.Removable.{Plain, TransitionsOk, most}
use Rattle.law_automata.specs.Lowered.Standing.{Relation, RowStands, code_of}
use Rattle.law_automata.proofs.LoweredLemmas.Spelling.{New, of_transition}
use Rattle.law_automata.proofs.LoweredLemmas.Apart.{told, bytes_same, bytes_differ}
use Rattle.law_automata.proofs.LoweredLemmas.Tests.{or_left, or_right}
use Rattle.law_automata.proofs.LoweredLemmas.Expressions.{ap₃, reading}
use Rattle.law_automata.proofs.LoweredLemmas.Plain.{pure, pure_renamed, plain_renamed, plain_stands}
use Rattle.law_automata.proofs.LoweredLemmas.Rows.{EachMet, plain_met}
use Rattle.law_automata.proofs.LoweredLemmas.Jumps.{first_pure, AllDecided, if_jump}

pub less_told : (j n : ℕ) → j < n → nat_lt j n ≡ true
less_told j n h = grind (arith, nat_tests)

pub not_less : (j n : ℕ) → n ≤ j → nat_lt j n ≡ false
not_less j n h = grind (arith, nat_tests)

plain_if : (t : Bool) (a b : Expr) → Plain a → Plain b → Plain (if t then a else b)
plain_if true a b h g = h
plain_if false a b h g = g

pub plain_link : (s : Span) (n : ℕ) (named : ℕ → List ℕ) (end : Expr) (k : ℕ) → Plain end → Plain (link s n named end k)
plain_link s n named end k h = plain_if (nat_lt k n) (variable s (named k)) end tt h

module _ (types : List TypeDecl) where
  -- a word in front of the end, or what stands there
  pub link_word : (s : Span) (n : ℕ) (named : ℕ → List ℕ) (end : Expr) (k : ℕ) (names last : Names) → k < n → pure types (link s n named end k) names last ≡ names (named k)
  link_word s n named end k names last h = ap (λ t. pure types (if t then variable s (named k) else end) names last) (less_told k n h)

  pub link_end : (s : Span) (n : ℕ) (named : ℕ → List ℕ) (end : Expr) (k : ℕ) (names last : Names) → n ≤ k → pure types (link s n named end k) names last ≡ pure types end names last
  link_end s n named end k names last h = ap (λ t. pure types (if t then variable s (named k) else end) names last) (not_less k n h)

  module _ (f : Frame) (w : Word) (k : ℕ) (all : States) (names last : Names) (s : Jump) where
    -- the words of some transitions have their jumps
    abbrev pub KnowsChoices : Names → ℕ → List Trans → Type 0
    KnowsChoices names' j [] = ⊤
    KnowsChoices names' j (t ∷ ts) = (names' (transition_word w f.depth k j) ≡ I (pos (code_of (first_pure types all (t ∷ ts) names last s)))) × KnowsChoices names' (j + 1) ts

    -- names, with these words in front
    abbrev pub with_choices : ℕ → List Trans → Names → Names
    with_choices j [] rest y = rest y
    with_choices j (t ∷ ts) rest y = if bytes_eq (transition_word w f.depth k j) y then I (pos (code_of (first_pure types all (t ∷ ts) names last s))) else with_choices (j + 1) ts rest y

    pub passes_choices : (j : ℕ) (ts : List Trans) (rest : Names) (y : List ℕ) → j + length ts ≤ most → ((i : ℕ) → j ≤ i → i < most → transition_word w f.depth k i ≡ y → ⊥) → with_choices j ts rest y ≡ rest y
    passes_choices j [] rest y room h = refl
    passes_choices j (t ∷ ts) rest y room h =
        ap (λ c. if c then I (pos (code_of (first_pure types all (t ∷ ts) names last s))) else with_choices (j + 1) ts rest y) (bytes_differ _ y (h j (omega arith) (omega arith)))
        ∙ passes_choices (j + 1) ts rest y (omega arith) (λ i l g. h i (omega arith) g)

    number_read : New → ℕ
    number_read (of_transition v i m) = m
    number_read a = 0

    words_differ : (i j : ℕ) → k < most → i < most → j < most → i < j → transition_word w f.depth k i ≡ transition_word w f.depth k j → ⊥
    unfolding number_read
    words_differ i j hk hi hj l e =
        let same : i ≡ j = ap number_read (told f.depth (of_transition w k i) (of_transition w k j) (hk, hi) (hk, hj) e) in
        omega arith

    pub choices_known : k < most → (names' rest : Names) (j : ℕ) (ts : List Trans) → j + length ts ≤ most
        → ((i : ℕ) → j ≤ i → i < most → declares (transition_locals f w k j ts) (transition_word w f.depth k i) ≡ true → names' (transition_word w f.depth k i) ≡ with_choices j ts rest (transition_word w f.depth k i))
        → KnowsChoices names' j ts
    choices_known hk names' rest j [] room h = tt
    choices_known hk names' rest j (t ∷ ts) room h = (
      h j (omega arith) (omega arith) (or_left (bytes_eq (transition_word w f.depth k j) (transition_word w f.depth k j)) _ (bytes_same (transition_word w f.depth k j)))
          ∙ ap (λ c. if c then I (pos (code_of (first_pure types all (t ∷ ts) names last s))) else with_choices (j + 1) ts rest (transition_word w f.depth k j)) (bytes_same (transition_word w f.depth k j)),
      choices_known hk names' rest (j + 1) ts (omega arith)
          (λ i l g q. h i (omega arith) g (or_right (bytes_eq (transition_word w f.depth k j) (transition_word w f.depth k i)) _ q)
          ∙ ap (λ c. if c then I (pos (code_of (first_pure types all (t ∷ ts) names last s))) else with_choices (j + 1) ts rest (transition_word w f.depth k i))
          (bytes_differ _ _ (words_differ j i hk (omega arith) g (omega arith)))),
    )

    -- their equations
    module _ (u : Value → Value) (N : Nodes) (ds : List Decl) (to : List ℕ → List ℕ) (names' last' : Names) (target : (x : List ℕ) → f.target x ≡ number_of 0 all x)
        (same : (x : List ℕ) → IsOld x → names' (to x) ≡ names x) (lasts : (x : List ℕ) → IsOld x → last' x ≡ last x) (clock : (j : ℕ) → j < most → clock_in ds (transition_word w f.depth k j) ≡ [])
        (n : ℕ) (end : Expr) (end_plain : Plain end) (end_value : pure types end names' last' ≡ I (pos (code_of s))) where
      pub chosen_value : (j : ℕ) (ts : List Trans) → j + length ts ≡ n → KnowsChoices names' j ts → pure types (chosen f w k n end j) names' last' ≡ I (pos (code_of (first_pure types all ts names last s)))
      chosen_value j [] e h = link_end f.at n (transition_word w f.depth k) end j names' last' (omega arith) ∙ end_value
      chosen_value j (t ∷ ts) e h = link_word f.at n (transition_word w f.depth k) end j names' last' (omega arith) ∙ h.0

      choice_value : (t : Trans) (rest : Jump) (v : Value) → ((b : Bool) × (pure types t.cond names last ≡ B b)) → pure types (renamed to t.cond) names' last' ≡ pure types t.cond names last → v ≡ I (pos (code_of rest))
          → if_of (pure types (renamed to t.cond) names' last') (I (pos (code (f.target t.target) t.restart))) v
          ≡ I (pos (code_of (if is_true (pure types t.cond names last) then record { state = number_of 0 all t.target; restart = t.restart } else rest)))
      choice_value t rest v d c e =
          let jump : Jump = record { state = number_of 0 all t.target; restart = t.restart } in
          ap₃ if_of (c ∙ d.1) (ap (λ q. I (pos (code q t.restart))) (target t.target)) e
          ∙ if_jump d.0 jump rest
          ∙ ap (λ b. I (pos (code_of (if is_true b then jump else rest)))) (sym d.1)

      -- Where such equations hold, with any behind them, the conditions in them stand for those of the transitions.
      pub choices_stand : (N₀ : Nodes) (stands : List ℕ → Relation) (more : List Eqn) (j : ℕ) (ts : List Trans) → j + length ts ≡ n → n ≤ most → TransitionsOk all ts → (g g' : Given) (now low : Instant)
          → now ≡ in_row (conditions types (reading u) N₀ ts names last g now) → low ≡ equations types (reading u) N ds (eqns_of (choices to f w k n end j ts ++ more)) names' last' g' low → RowStands stands ts now low
      choices_stand N₀ stands more j [] e room ok g g' now low m l = tt
      choices_stand N₀ stands more j (t ∷ ts) e room ok g g' now low m l = (
        plain_stands types u N₀ N stands to names' names last' last same lasts t.cond ok.0.1 ok.0.0 (at Head g) (at First (at Right (at Head g'))) (part Head now) (part First (part Right (part Head low))) (ap (part Head) m)
            (ap (λ i. part First (part Right (part Head i))) l ∙ ap (λ ck. expr types (reading u) N (renamed to t.cond) ck names' last' (at First (at Right (at Head g'))) (part First (part Right (part Head low)))) (clock j (omega arith))),
        choices_stand N₀ stands more (j + 1) ts (omega arith) room ok.1 (at Tail g) (at Tail g') (part Tail now) (part Tail low) (ap (part Tail) m) (ap (part Tail) l),
      )

      pub choices_met : (j : ℕ) (ts : List Trans) → j + length ts ≡ n → n ≤ most → TransitionsOk all ts → AllDecided types ts names last → KnowsChoices names' j ts → EachMet types u N ds names' last' (choices to f w k n end j ts)
      choices_met j [] e room ok dec h = tt
      choices_met j (t ∷ ts) e room ok dec h = (
        (λ g. plain_met types u N ds names' last' f.at (transition_word w f.depth k j) (choose f.at (renamed to t.cond) (number f.at (code (f.target t.target) t.restart)) (chosen f w k n end (j + 1)))
            (plain_renamed to t.cond ok.0.1, tt, plain_link f.at n (transition_word w f.depth k) end (j + 1) end_plain) (clock j (omega arith))
            (h.0 ∙ sym (choice_value t (first_pure types all ts names last s) (pure types (chosen f w k n end (j + 1)) names' last') dec.0
            (pure_renamed types to names' names last' last same lasts t.cond ok.0.1 ok.0.0) (chosen_value (j + 1) ts (omega arith) h.1))) g),
        choices_met (j + 1) ts (omega arith) room ok.1 dec.1 h.1,
      )
