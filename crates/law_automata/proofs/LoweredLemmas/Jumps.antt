-- Jumps as numbers, and the transitions that are taken, by the values of names alone.
use Rattle.std.proofs.Common.{◌≡◌, ℕ, suc, ◌+◌, nat_eq, Bool, true, false, ◌||◌, List, [], ◌∷◌, map, refl, sym, ap, ap₂, ◌∙◌, arith}
use Rattle.std.specs.Prelude.{pos, ⊤, if◌then◌else◌}
use Rattle.std.specs.Ordering.{int_eq}
use Rattle.std.proofs.lemmas.Int.{ints}
use Rattle.std.proofs.lemmas.Bool.Decides.{nat_tests}
use Rattle.hp_base.specs.declared.span.Span.{Span}
use Rattle.hp_base.specs.declared.value.Value.{Value}
use Rattle.hp_base.specs.declared.value.Value.TheVariants.{B, I}
use Rattle.hp_tree.specs.declared.block.Trans.{Trans}
use Rattle.hp_tree.specs.declared.expr.Op2.TheVariants.{Or, Eq}
use Rattle.hp_tree.specs.Expressions.{Expr}
use Rattle.hp_tree.specs.Blocks.{States, no_state, more_states}
use Rattle.hp_tree.specs.Programs.{TypeDecl}
use Rattle.hp_tree.specs.Operators.{is_true, if_of, two_of}
use Rattle.hp_tree.specs.Instant.{Head, Tail, Unless, Instant, Given, at, part, top, in_row}
use Rattle.hp_tree.specs.Meaning.{Names, Nodes, Jump, conditions, first_true, number_of, strong}
use Rattle.hp_automata.specs.Lowering.{code, goes_to}
use Rattle.law_automata.specs.Lowered.Removable.{Known, TransitionsOk, StatesOk}
use Rattle.law_automata.specs.Lowered.Standing.{code_of}
use Rattle.law_automata.specs.Lowered.Deciding.{RowDecided}
use Rattle.law_automata.proofs.LoweredLemmas.Expressions.{reading}
use Rattle.law_automata.proofs.LoweredLemmas.Plain.{pure, plain_top}

-- whether a jump is to a state, by two comparisons, and whether it restarts its state
goes : (n k : ℕ) (r : Bool) → (int_eq (pos (code n r)) (pos (code k false)) || int_eq (pos (code n r)) (pos (code k true))) ≡ nat_eq k n
goes n k true = grind (arith, ints, nat_tests)
goes n k false = grind (arith, ints, nat_tests)

pub anew : (n : ℕ) (r : Bool) → int_eq (pos (code n r)) (pos (code n true)) ≡ r
anew n true = grind (arith, ints, nat_tests)
anew n false = grind (arith, ints, nat_tests)

pub next_number : (k : ℕ) → k + 1 ≡ suc k
next_number k = omega arith

pub if_jump : (t : Bool) (a b : Jump) → if_of (B t) (I (pos (code_of a))) (I (pos (code_of b))) ≡ I (pos (code_of (if t then a else b)))
if_jump true a b = refl
if_jump false a b = refl

module _ (types : List TypeDecl) where
  pub goes_value : (s : Span) (e : Expr) (k : ℕ) (j : Jump) (names last : Names) → pure types e names last ≡ I (pos (code_of j)) → pure types (goes_to s e k) names last ≡ B (nat_eq k j.state)
  goes_value s e k j names last h =
      ap (λ v. two_of Or (two_of Eq v (I (pos (code k false)))) (two_of Eq v (I (pos (code k true))))) h ∙ ap B (goes j.state k j.restart)

  -- the first transition whose condition is true
  abbrev pub first_pure : States → List Trans → Names → Names → Jump → Jump
  first_pure all [] names last none = none
  first_pure all (t ∷ ts) names last none =
      if is_true (pure types t.cond names last) then record { state = number_of 0 all t.target; restart = t.restart } else first_pure all ts names last none

  abbrev pub strong_pure : States → States → ℕ → Names → Names → Jump → Jump
  strong_pure all no_state k names last s = s
  strong_pure all (more_states f b until unless p ss) k names last s = if nat_eq k s.state then first_pure all unless names last s else strong_pure all ss (k + 1) names last s

  abbrev pub AllDecided : List Trans → Names → Names → Type 0
  AllDecided [] names last = ⊤
  AllDecided (t ∷ ts) names last = ((b : Bool) × (pure types t.cond names last ≡ B b)) × AllDecided ts names last

  module _ (u : Value → Value) (N : Nodes) where
    pub first_same : (all : States) (ts : List Trans) → TransitionsOk all ts → (names last : Names) (g : Given) (now : Instant) (none : Jump)
        → first_true all ts (map top (conditions types (reading u) N ts names last g now)) none ≡ first_pure all ts names last none
    first_same all [] ok names last g now none = refl
    first_same all (t ∷ ts) ok names last g now none =
        ap₂ (λ v r. if is_true v then record { state = number_of 0 all t.target; restart = t.restart } else r) (plain_top types u N t.cond ok.0.1 names last (at Head g) (part Head now))
        (first_same all ts ok.1 names last (at Tail g) (part Tail now) none)

    pub strong_same : (all : States) (outer : Known) (d : ℕ) (ss : States) → StatesOk all outer d ss → (k : ℕ) (names last : Names) (g : Given) (now : Instant) (s : Jump)
        → strong types (reading u) N all ss k s names last g now ≡ strong_pure all ss k names last s
    strong_same all outer d no_state ok k names last g now s = refl
    strong_same all outer d (more_states f b until unless p ss) ok k names last g now s =
        ap₂ (λ a r. if nat_eq k s.state then a else r) (first_same all unless ok.0.2.0 names last (at Unless (at Head g)) (part Unless (part Head now)) s)
        (strong_same all outer d ss ok.1 (suc k) names last (at Tail g) (part Tail now) s ∙ ap (λ n. strong_pure all ss n names last s) (sym (next_number k)))

    pub decided_pure : (all : States) (ts : List Trans) → TransitionsOk all ts → (names last : Names) (g : Given) (i : Instant) → i ≡ in_row (conditions types (reading u) N ts names last g i) → RowDecided ts i → AllDecided ts names last
    decided_pure all [] ok names last g i m d = tt
    decided_pure all (t ∷ ts) ok names last g i m d = (
      (d.0.0, sym (plain_top types u N t.cond ok.0.1 names last (at Head g) (part Head i)) ∙ sym (ap (λ j. j (Head ∷ [])) m) ∙ d.0.1),
      decided_pure all ts ok.1 names last (at Tail g) (part Tail i) (ap (part Tail) m) d.1,
    )
