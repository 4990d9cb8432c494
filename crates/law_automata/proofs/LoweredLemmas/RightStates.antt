-- Right clocks of automata: their words are on the base clock.
use Rattle.std.proofs.Common.{◌≡◌, ℕ, ◌+◌, ◌<◌, ◌≤◌, nat_eq, nat_lt, length, Bool, true, false, ◌||◌, List, [], ◌∷◌, ◌++◌, map, Option, None, Some, refl, sym, ap, subst, ◌∙◌, arith}
use Rattle.std.specs.Prelude.{⊤, if◌then◌else◌}
use Rattle.std.specs.Str.{bytes_eq}
use Rattle.std.proofs.lemmas.Bool.Decides.{nat_tests}
use Rattle.hp_base.specs.declared.span.Span.{Span}
use Rattle.hp_base.specs.declared.ty.Const.{Const}
use Rattle.hp_tree.specs.declared.block.Trans.{Trans}
use Rattle.hp_tree.specs.Expressions.{Expr, constant, variable, choose}
use Rattle.hp_tree.specs.Blocks.{Decl, Eqns, States, no_state, more_states, eqns_of}
use Rattle.hp_tree.specs.Meaning.{declares, some_defines, clock_in, written}
use Rattle.hp_meaning.specs.Causal.Clocked.{Standing, base_alone, standing_in, ClockRight, IsOn, ConditionsOn, DeclarationsRight, BlockRight, AllRight}
use Rattle.hp_automata.specs.declared.new_names.Word.{Word}
use Rattle.hp_automata.specs.declared.new_names.Word.TheVariants.{Next}
use Rattle.hp_automata.specs.NewNames.{state_word, transition_word, value_name}
use Rattle.hp_automata.specs.Names.{is_name}
use Rattle.hp_automata.specs.Renaming.{renamed}
use Rattle.hp_automata.specs.Lowering.{Types, Enumerations, Frame, count_of, number, link, chosen, choices, code, handed, value_handed, some_constant, type_of, idle, idle_next, idle_value, transition_locals, state_locals, locals_from}
use Rattle.law_automata.specs.Lowered.OldNames.{IsOld}
use Rattle.law_automata.specs.Lowered.Removable.{TransitionsOk, most}
use Rattle.law_automata.proofs.LoweredLemmas.Apart.{bytes_same}
use Rattle.law_automata.proofs.LoweredLemmas.Tests.{or_left, or_right, declares_append, name_first}
use Rattle.law_automata.proofs.LoweredLemmas.BlockMaking.{OnBase}
use Rattle.law_automata.proofs.LoweredLemmas.RightExpressions.{plain_on, base_right}
use Rattle.std.proofs.lemmas.Bool.{eqb-true}

-- declarations on the base clock
pub locals_right : (to : List ℕ → List ℕ) (names : Standing) (ds : List Decl) → OnBase to ds → DeclarationsRight names ds
locals_right to names [] h = tt
locals_right to names (d ∷ ds) h = (subst (ClockRight names) (sym h.0) tt, by d.last, locals_right to names ds h.1)
  where
    by : (l : Option Const) → (elim l as (λ (o : Option Const). Type 0) [ None ↦ ⊤ | Some c ↦ written d.clock ≡ [] ])
    by None = tt
    by (Some c) = h.0

pub declarations_append : (names : Standing) (xs ys : List Decl) → DeclarationsRight names xs → DeclarationsRight names ys → DeclarationsRight names (xs ++ ys)
declarations_append names [] ys h g = g
declarations_append names (d ∷ xs) ys h g = (h.0, h.1, declarations_append names xs ys h.2 g)

less_back : (k n : ℕ) → nat_lt k n ≡ true → k < n
less_back k n h = grind (arith, nat_tests)

-- a word, or what stands behind the last
pub link_on : (names : Standing) (s : Span) (n : ℕ) (named : ℕ → List ℕ) (end : Expr) (k : ℕ) → (k < n → names (named k) ≡ Some []) → IsOn names end [] → IsOn names (link s n named end k) []
link_on names s n named end k h g = by (nat_lt k n) (λ q. h (less_back k n q))
  where
    by : (t : Bool) → (t ≡ true → names (named k) ≡ Some []) → IsOn names (if t then variable s (named k) else end) []
    by true p = p refl
    by false p = g

-- names that are read further in: those on the base clock stay so
pub further_in : (ds : List Decl) (es : Eqns) (out : Standing) → ((y : List ℕ) → clock_in ds y ≡ []) → (y : List ℕ) → out y ≡ Some [] → standing_in ds es out y ≡ Some []
further_in ds es out base y h = by (some_defines es y)
  where
    by : (t : Bool) → (if t then Some (clock_in ds y) else base_alone (out y)) ≡ Some []
    by true = ap Some (base y)
    by false = ap base_alone h

-- ---- choices

pub choices_right : (names outer' : Standing) (ds : List Decl) (to : List ℕ → List ℕ) (f : Frame) (w : Word) (k n : ℕ) (end : Expr) (all : States)
    → ((x : List ℕ) → IsOld x → outer' x ≡ Some [] → names (to x) ≡ Some []) → IsOn names end [] → ((j : ℕ) → j < most → clock_in ds (transition_word w f.depth k j) ≡ [])
    → (j : ℕ) (ts : List Trans) → j + length ts ≡ n → n ≤ most → TransitionsOk all ts → ConditionsOn outer' ts → ((y : List ℕ) → declares (transition_locals f w k j ts) y ≡ true → names y ≡ Some [])
    → AllRight names ds (eqns_of (choices to f w k n end j ts)) × IsOn names (chosen f w k n end j) []
choices_right names outer' ds to f w k n end all same end_on clock j [] e room ok h known = (tt, link_on names f.at n (transition_word w f.depth k) end j (λ l. absurd (omega arith)) end_on)
choices_right names outer' ds to f w k n end all same end_on clock j (t ∷ ts) e room ok h known =
    let rest = choices_right names outer' ds to f w k n end all same end_on clock (j + 1) ts (omega arith) room ok.1 h.1 (λ y q. known y (or_right (bytes_eq (transition_word w f.depth k j) y) _ q)) in
    let mine : names (transition_word w f.depth k j) ≡ Some [] = known (transition_word w f.depth k j) (or_left _ _ (bytes_same (transition_word w f.depth k j))) in (
      (
        base_right names ds f.at (transition_word w f.depth k j) (choose f.at (renamed to t.cond) (number f.at (code (f.target t.target) t.restart)) (chosen f w k n end (j + 1))) (clock j (omega arith))
            (plain_on to outer' names same t.cond ok.0.1 ok.0.0 h.0, tt, rest.1),
        rest.0,
      ),
      link_on names f.at n (transition_word w f.depth k) end j (λ l. mine) end_on,
    )

-- ---- the block of a state that is not active

pub idle_right : (enums : Enumerations) (tys : Types) (f : Frame) (k : ℕ) (names : Standing) → ((m : ℕ) → m < f.count → (names (state_word Next f.depth m) ≡ Some []) × ((x : List ℕ) → is_name f.names x ≡ true → names (value_name f.depth m x) ≡ Some []))
    → BlockRight names (idle enums tys f k)
idle_right enums tys f k names known = (
  tt,
  (
    base_right st [] f.at (state_word Next f.depth k) (handed f Next (number f.at 0) (k + 1)) refl (link_on st f.at f.count (state_word Next f.depth) (number f.at 0) (k + 1) (λ l. inner_on (state_word Next f.depth (k + 1)) (known (k + 1) l).0) tt),
    values f.names (λ x q. q),
  ),
)
  where
    st : Standing
    st = standing_in [] (eqns_of (idle_next f k ∷ map (idle_value enums tys f k) f.names)) names

    inner_on : (y : List ℕ) → names y ≡ Some [] → standing_in [] (eqns_of (idle_next f k ∷ map (idle_value enums tys f k) f.names)) names y ≡ Some []
    inner_on y h = further_in [] (eqns_of (idle_next f k ∷ map (idle_value enums tys f k) f.names)) names (λ z. refl) y h

    values : (xs : List (List ℕ)) → ((x : List ℕ) → is_name xs x ≡ true → is_name f.names x ≡ true) → AllRight (standing_in [] (eqns_of (idle_next f k ∷ map (idle_value enums tys f k) f.names)) names) [] (eqns_of (map (idle_value enums tys f k) xs))
    values [] sub = tt
    values (x ∷ xs) sub = (
      base_right (standing_in [] (eqns_of (idle_next f k ∷ map (idle_value enums tys f k) f.names)) names) [] f.at (value_name f.depth k x) (value_handed enums tys f (k + 1) x) refl
          (link_on (standing_in [] (eqns_of (idle_next f k ∷ map (idle_value enums tys f k) f.names)) names) f.at f.count (λ m. value_name f.depth m x) (constant f.at (some_constant enums (type_of tys x))) (k + 1)
          (λ l. inner_on (value_name f.depth (k + 1) x) ((known (k + 1) l).1 x (sub x (name_first x xs x ∙ or_left (bytes_eq x x) (is_name xs x) (bytes_same x))))) tt),
      values xs (λ z q. sub z (name_first x xs z ∙ or_right (bytes_eq x z) (is_name xs z) q)),
    )

-- ---- the words that are declared

pub declared_at : (tys : Types) (f : Frame) (named : ℕ → List ℕ) → ((k : ℕ) (unless : List Trans) → declares (state_locals tys f k unless) (named k) ≡ true) → (k : ℕ) (ss : States) (m : ℕ) → k ≤ m → m < k + count_of ss → declares (locals_from tys f k ss) (named m) ≡ true
declared_at tys f named h k no_state m l g = absurd (omega arith)
declared_at tys f named h k (more_states q b until unless place ss) m l g =
    declares_append (state_locals tys f k unless) (locals_from tys f (k + 1) ss) (named m) ∙ by (nat_eq k m) refl (λ p. declared_at tys f named h (k + 1) ss m p (omega arith))
  where
    by : (t : Bool) → nat_eq k m ≡ t → (k + 1 ≤ m → declares (locals_from tys f (k + 1) ss) (named m) ≡ true) → (declares (state_locals tys f k unless) (named m) || declares (locals_from tys f (k + 1) ss) (named m)) ≡ true
    by true e later = let same : k ≡ m = eqb-true k m e in or_left _ _ (subst (λ n. declares (state_locals tys f k unless) (named n) ≡ true) same (h k unless))
    by false e later = or_right (declares (state_locals tys f k unless) (named m)) _ (later (grind (arith, nat_tests)))
