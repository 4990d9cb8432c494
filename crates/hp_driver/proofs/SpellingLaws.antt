-- A machine that reads values from each line says and refuses what the lines spell.
use Rattle.std.proofs.Common.{◌≡◌, ℕ, suc, Bool, true, false, ◌==◌, nat_lt, if◌then◌else◌, List, [], ◌∷◌, ◌++◌, length, Option, None, Some, option_map, refl, sym, ap, subst, ◌∙◌}
use Rattle.std.specs.Prelude.{Result, Ok, Err}
use Rattle.std.specs.Option.{unwrap_or}
use Rattle.std.proofs.lemmas.Bool.{eqb-true}
use Rattle.hp_base.specs.declared.value.Value.{Value}
use Rattle.hp_base.specs.Kinds.{KindData, AreOfKinds}
use Rattle.hp_lines.specs.declared.read.LineErr.{LineErr}
use Rattle.hp_lines.specs.declared.read.LineErr.TheVariants.{Count, Word}
use Rattle.hp_lines.specs.declared.read.TheConstants.{MAX_LINE}
use Rattle.hp_lines.specs.Words.{words}
use Rattle.hp_lines.specs.Values.{values_of}
use Rattle.hp_lines.specs.Refusals.{wrong_word, refusal}
use Rattle.hp_lines.proofs.ReadLaws.{spelled}
use Rattle.hp_lines.proofs.KindLaws.{values_are_of_kinds}
use Rattle.hp_driver.specs.declared.trace_limits.Fault.{Fault}
use Rattle.hp_driver.specs.declared.trace_limits.TheConstants.{MAX_LINES}
use Rattle.hp_driver.specs.LineFaults.{by_words, on_line, bad}
use Rattle.hp_driver.specs.Course.{Takes, none, next}
use Rattle.hp_driver.specs.Trace.{Machine, answer, said_to, refused_in}
use Rattle.hp_driver.proofs.TraceLaws.{by_tests}
use Rattle.hp_driver.specs.Values.{reading, inputs_on, inputs_until, first_bad}
use Rattle.hp_driver.specs.Reader.{stepped, reader, reacts}

-- ---- what is read is of its kinds

abbrev read_or : Option LineErr → List KindData → List (List ℕ) → Result (List Value) LineErr
read_or o kinds ws = elim o [ None ↦ Ok (unwrap_or (values_of kinds ws) []) | Some e ↦ Err e ]

reads_by : (o : Option LineErr) (kinds : List KindData) (ws : List (List ℕ)) (values : List Value) → (o ≡ None → (vs : List Value) × (values_of kinds ws ≡ Some vs)) →
    read_or o kinds ws ≡ Ok values → values_of kinds ws ≡ Some values
reads_by None kinds ws values h e =
    let s = h refl in
    let same : unwrap_or (values_of kinds ws) [] ≡ values = cc in
    s.1 ∙ ap (λ vs. Some vs) (sym (ap (λ o. unwrap_or o []) s.1) ∙ same)
reads_by (Some error) kinds ws values h e = absurd (cc)

no_word : (o : Option ℕ) → option_map Word o ≡ None → o ≡ None
no_word None e = refl
no_word (Some n) e = absurd (cc)

unrefused_by : (d : Bool) (kinds : List KindData) (ws : List (List ℕ)) → (length ws == length kinds) ≡ d →
    (if d then option_map Word (wrong_word 1 kinds ws) else Some (Count (length ws))) ≡ None → (vs : List Value) × (values_of kinds ws ≡ Some vs)
unrefused_by true kinds ws t e = spelled 1 kinds ws (eqb-true (length ws) (length kinds) t) (no_word (wrong_word 1 kinds ws) e)
unrefused_by false kinds ws t e = absurd (cc)

-- words that are not refused spell values
unrefused : (kinds : List KindData) (ws : List (List ℕ)) → refusal kinds ws ≡ None → (vs : List Value) × (values_of kinds ws ≡ Some vs)
unrefused kinds ws e = unrefused_by (length ws == length kinds) kinds ws refl e

-- what is read is what the words spell
pub reading_spells : (kinds : List KindData) (line : List ℕ) (values : List Value) → reading kinds line ≡ Ok values → values_of kinds (words line) ≡ Some values
reading_spells kinds line values e = reads_by (refusal kinds (words line)) kinds (words line) values (unrefused kinds (words line)) e

pub reading_of_kinds : (kinds : List KindData) (line : List ℕ) (values : List Value) → reading kinds line ≡ Ok values → AreOfKinds kinds values
reading_of_kinds kinds line values e = values_are_of_kinds kinds (words line) values (reading_spells kinds line values e)

-- ---- the lines of a trace

stepped_by_words : {S : Type 0} (step : S → List Value → List ℕ × S) (s : S) (r : Result (List Value) LineErr) → by_words (stepped step s r) ≡ stepped step s (by_words r)
stepped_by_words step s (Ok values) = refl
stepped_by_words step s (Err e) = refl

stepped_by_tests : {S : Type 0} (step : S → List Value → List ℕ × S) (s : S) (many long : Bool) (r : Result (List Value) LineErr) → by_tests many long (stepped step s r) ≡ stepped step s (by_tests many long r)
stepped_by_tests step s true long r = refl
stepped_by_tests step s false true r = refl
stepped_by_tests step s false false r = stepped_by_words step s r

stepped_on_line : {S : Type 0} (step : S → List Value → List ℕ × S) (s : S) (n : ℕ) (line : List ℕ) (r : Result (List Value) LineErr) → on_line n line (stepped step s r) ≡ stepped step s (on_line n line r)
stepped_on_line step s n line r = stepped_by_tests step s (nat_lt MAX_LINES n) (nat_lt MAX_LINE (length line)) r

ok_by_words : (r : Result (List Value) LineErr) (values : List Value) → by_words r ≡ Ok values → r ≡ Ok values
ok_by_words (Ok vs) values e = let same : vs ≡ values = cc in ap (λ z. Ok z) same
ok_by_words (Err error) values e = absurd (cc)

ok_by_tests : (many long : Bool) (r : Result (List Value) LineErr) (values : List Value) → by_tests many long r ≡ Ok values → r ≡ Ok values
ok_by_tests true long r values e = absurd (cc)
ok_by_tests false true r values e = absurd (cc)
ok_by_tests false false r values e = ok_by_words r values e

-- the inputs on a line are of their kinds
inputs_of_kinds : (kinds : List KindData) (n : ℕ) (line : List ℕ) (values : List Value) → inputs_on kinds n line ≡ Ok values → AreOfKinds kinds values
inputs_of_kinds kinds n line values e = reading_of_kinds kinds line values (ok_by_tests (nat_lt MAX_LINES n) (nat_lt MAX_LINE (length line)) (reading kinds line) values e)

-- All inputs are of their kinds.
abbrev pub AllOfKinds : List KindData → List (List Value) → Type 0
AllOfKinds kinds [] = Unit {0}
AllOfKinds kinds (values ∷ more) = AreOfKinds kinds values × AllOfKinds kinds more

all_by : (kinds : List KindData) (n : ℕ) (line : List ℕ) (lines : List (List ℕ)) (r : Result (List Value) Fault) → inputs_on kinds n line ≡ r → AllOfKinds kinds (inputs_until kinds (suc n) lines) →
    AllOfKinds kinds (elim r [ Ok values ↦ values ∷ inputs_until kinds (suc n) lines | Err fault ↦ [] ])
all_by kinds n line lines (Ok values) e h = (inputs_of_kinds kinds n line values e, h)
all_by kinds n line lines (Err fault) e h = tt

pub all_of_kinds : (kinds : List KindData) (n : ℕ) (lines : List (List ℕ)) → AllOfKinds kinds (inputs_until kinds n lines)
all_of_kinds kinds n [] = tt
all_of_kinds kinds n (line ∷ lines) = all_by kinds n line lines (inputs_on kinds n line) refl (all_of_kinds kinds (suc n) lines)

-- the state behind the steps on some inputs
abbrev pub steps_through : {S : Type 0} → (S → List Value → List ℕ × S) → S → List (List Value) → S
steps_through step s [] = s
steps_through step s (values ∷ more) = steps_through step (step s values).1 more

-- a machine that reads values of these kinds where its state is good, which it then stays
module _ {S : Type 0} (machine : Machine S) (kinds : List KindData) (step : S → List Value → List ℕ × S) (IsGood : S → Type 0)
    (reads : (s : S) (line : List ℕ) → IsGood s → machine s line ≡ reader kinds step s line)
    (stays : (s : S) (values : List Value) → AreOfKinds kinds values → IsGood s → IsGood (step s values).1) where
  answers : (s : S) (n : ℕ) (line : List ℕ) → IsGood s → answer machine s n line ≡ stepped step s (inputs_on kinds n line)
  answers s n line h = ap (on_line n line) (reads s line h) ∙ stepped_on_line step s n line (reading kinds line)

  says_by : (s : S) (n : ℕ) (line : List ℕ) (lines : List (List ℕ)) (r : Result (List Value) Fault) → inputs_on kinds n line ≡ r → IsGood s →
      ((t : S) → IsGood t → said_to machine t (suc n) lines ≡ reacts step t (inputs_until kinds (suc n) lines)) →
      said_to machine s n (line ∷ lines) ≡ reacts step s (inputs_until kinds n (line ∷ lines))
  says_by s n line lines (Ok values) e h more =
      ap (λ r. elim r [ Ok a ↦ a.0 ++ said_to machine a.1 (suc n) lines | Err fault ↦ [] ]) (answers s n line h ∙ ap (stepped step s) e)
      ∙ ap (λ z. (step s values).0 ++ z) (more (step s values).1 (stays s values (inputs_of_kinds kinds n line values e) h))
      ∙ sym (ap (λ r. reacts step s (elim r [ Ok values ↦ values ∷ inputs_until kinds (suc n) lines | Err fault ↦ [] ])) e)
  says_by s n line lines (Err fault) e h more =
      ap (λ r. elim r [ Ok a ↦ a.0 ++ said_to machine a.1 (suc n) lines | Err fault ↦ [] ]) (answers s n line h ∙ ap (stepped step s) e)
      ∙ sym (ap (λ r. reacts step s (elim r [ Ok values ↦ values ∷ inputs_until kinds (suc n) lines | Err fault ↦ [] ])) e)

  -- it says what the step says for the inputs before the first line that has a fault
  pub says_inputs : (n : ℕ) (lines : List (List ℕ)) (s : S) → IsGood s → said_to machine s n lines ≡ reacts step s (inputs_until kinds n lines)
  says_inputs n [] s h = refl
  says_inputs n (line ∷ lines) s h = says_by s n line lines (inputs_on kinds n line) refl h (says_inputs (suc n) lines)

  refuses_by : (s : S) (n : ℕ) (line : List ℕ) (lines : List (List ℕ)) (r : Result (List Value) Fault) → inputs_on kinds n line ≡ r → IsGood s →
      ((t : S) → IsGood t → refused_in machine t (suc n) lines ≡ first_bad kinds (suc n) lines) →
      refused_in machine s n (line ∷ lines) ≡ first_bad kinds n (line ∷ lines)
  refuses_by s n line lines (Ok values) e h more =
      ap (λ r. elim r [ Ok a ↦ refused_in machine a.1 (suc n) lines | Err fault ↦ Some (bad n fault) ]) (answers s n line h ∙ ap (stepped step s) e)
      ∙ more (step s values).1 (stays s values (inputs_of_kinds kinds n line values e) h)
      ∙ sym (ap (λ r. elim r [ Ok values ↦ first_bad kinds (suc n) lines | Err fault ↦ Some (bad n fault) ]) e)
  refuses_by s n line lines (Err fault) e h more =
      ap (λ r. elim r [ Ok a ↦ refused_in machine a.1 (suc n) lines | Err fault ↦ Some (bad n fault) ]) (answers s n line h ∙ ap (stepped step s) e)
      ∙ sym (ap (λ r. elim r [ Ok values ↦ first_bad kinds (suc n) lines | Err fault ↦ Some (bad n fault) ]) e)

  -- it refuses the first line that has a fault
  pub refuses_first : (n : ℕ) (lines : List (List ℕ)) (s : S) → IsGood s → refused_in machine s n lines ≡ first_bad kinds n lines
  refuses_first n [] s h = refl
  refuses_first n (line ∷ lines) s h = refuses_by s n line lines (inputs_on kinds n line) refl h (refuses_first (suc n) lines)

  taken_by : (s t u : S) (n : ℕ) (line said : List ℕ) (lines : List (List ℕ)) (r : Result (List Value) Fault) → inputs_on kinds n line ≡ r → IsGood s → answer machine s n line ≡ Ok (said, t) →
      (IsGood t → u ≡ steps_through step t (inputs_until kinds (suc n) lines)) → u ≡ steps_through step s (elim r [ Ok values ↦ values ∷ inputs_until kinds (suc n) lines | Err fault ↦ [] ])
  taken_by s t u n line said lines (Ok values) e h taken more =
      let same : stepped step s (Ok values) ≡ Ok (said, t) = sym (ap (stepped step s) e) ∙ sym (answers s n line h) ∙ taken in
      let behind : (step s values).1 ≡ t = ap (λ (r : Result (List ℕ × S) Fault). elim r [ Ok a ↦ a.1 | Err fault ↦ t ]) same in
      more (subst IsGood behind (stays s values (inputs_of_kinds kinds n line values e) h)) ∙ ap (λ z. steps_through step z (inputs_until kinds (suc n) lines)) (sym behind)
  taken_by s t u n line said lines (Err fault) e h taken more =
      let same : stepped step s (Err fault) ≡ Ok (said, t) = sym (ap (stepped step s) e) ∙ sym (answers s n line h) ∙ taken in absurd cc

  -- the state behind lines that it takes is that behind the steps on the inputs that they spell
  pub takes_inputs : {s u : S} {n : ℕ} {lines : List (List ℕ)} {said : List ℕ} → Takes machine s n lines said u → IsGood s → u ≡ steps_through step s (inputs_until kinds n lines)
  takes_inputs none h = refl
  takes_inputs {s} {u} {n = n} (next {t} {line} {said} {lines} e k) h = taken_by s t u n line said lines (inputs_on kinds n line) refl h e (λ good. takes_inputs k good)
