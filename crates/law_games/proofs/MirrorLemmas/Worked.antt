-- Worked: a delay with one Boolean input, and a machine that mirrors it: two registers, which next hold the input and that there is a past, and a duty that the value held is true where there is a past.
use Rattle.std.proofs.Common.{◌≡◌, inl, inr, List, [], ◌∷◌, length, refl, sym, ap, subst, ◌∙◌}
use Rattle.std.specs.Prelude.{Bool, true, false, ◌&&◌, if◌then◌else◌, nat_le, Some}
use Rattle.hp_base.specs.declared.ty.Ty.TheVariants as ty
use Rattle.hp_base.specs.declared.value.Value.{Value}
use Rattle.hp_base.specs.declared.value.Value.TheVariants.{B}
use Rattle.hp_tree.specs.declared.program.Item.{Item}
use Rattle.hp_tree.specs.declared.program.Item.TheVariants.{NodeItem}
use Rattle.hp_tree.specs.Operators.{is_true}
use Rattle.hp_tree.specs.Instant.{Inputs, Body, Assume, Enforce, Named, Equations, Head, Right, Second, Place, Instant}
use Rattle.hp_tree.specs.Values.{IsOf}
use Rattle.hp_boolx.specs.Search.{Bits}
use Rattle.hp_boolx.specs.Machine.{Machine, game}
use Rattle.hp_boolx.specs.declared.gate.Gate.TheVariants.{Const, Var, Ite}
use Rattle.hp_meaning.specs.Contract.Duties.{holds_or_missing}
use Rattle.hp_meaning.specs.Contract.FreePlaces.{IsEarly, IsFree, own_free}
use Rattle.hp_meaning.specs.Contract.Game.{Choice}
use Rattle.hp_meaning.specs.Contract.Slots.{free_places, registers}
use Rattle.hp_meaning.specs.Contract.Memory.{number_in, bits_in}
use Rattle.law_games.specs.Wires.Laws.{instant_of, memory_behind, is_called, hypothesis_on, duty_on}
use Rattle.law_games.proofs.WiresLemmas.Worked.{y, delayed, register, begun}
use Rattle.law_games.specs.Wiretyped.Typed.{IsFlag}
use Rattle.law_games.specs.Mirror.Mirrored.{AreCodes, AreWiresOf, Mirrors, given_with, read_with, valuation}

abbrev pub program : List Item
program = NodeItem delayed ∷ []

abbrev pub machine : Machine
machine =
    record {
      name = delayed.name;
      registers = 2;
      early = 1;
      control = 0;
      late = 0;
      widths = [];
      prefer = [];
      gates = Var 0 ∷ Var 1 ∷ Var 2 ∷ Const true ∷ Ite 1 0 3 ∷ [];
      init = false ∷ false ∷ [];
      next = 2 ∷ 3 ∷ [];
      valid = 3;
      hyp = 3;
      duty = 4;
    }

none_early : (p : Place) → IsEarly program delayed p → ⊥
none_early p e = by e.is_free e.on_base
  where
    by : IsFree (free_places program delayed) p → own_free delayed p ≡ Some [] → ⊥
    by (inl f) o = let none : own_free delayed (Inputs ∷ Head ∷ []) ≡ Some [] = subst (λ p. own_free delayed p ≡ Some []) f o in absurd (cc)
    by (inr f) o = absurd f

one_bit : (u : Bits) → length u ≡ 1 → AreCodes [] ((Inputs ∷ Head ∷ [], ty.Bool) ∷ []) u
one_bit [] l = absurd (cc)
one_bit (b ∷ []) l = (B b, [], tt, refl, refl)
one_bit (b ∷ c ∷ u) l = absurd (cc)

no_bit : (u : Bits) → length u ≡ 0 → AreCodes [] [] u
no_bit [] l = refl
no_bit (b ∷ u) l = absurd (cc)

-- ---- what the wires are

is_bool : (v : Value) → IsOf [] ty.Bool v → (b : Bool) × (v ≡ B b)
is_bool (B b) h = (b, refl)
is_bool v h = absurd h

abbrev Wires : Instant → List Value → Instant → Choice → Instant → Type 0
Wires mem vs others c now = AreWiresOf program [] delayed mem vs others c now

-- the bit of a truth value
abbrev bit_of : Value → Bool
bit_of v = nat_le 1 (number_in v)

same_bit : (v : Value) → IsOf [] ty.Bool v → is_true v ≡ bit_of v
same_bit (B true) h = refl
same_bit (B false) h = refl
same_bit v h = absurd h

-- what is stored is the input
stored : (mem : Instant) (v : Value) (others : Instant) (c : Choice) (now : Instant) → Wires mem (v ∷ []) others c now → now (Body ∷ Equations ∷ Head ∷ Right ∷ Second ∷ []) ≡ v
stored mem v others c now W = ap (λ i. i (Body ∷ Equations ∷ Head ∷ Right ∷ Second ∷ [])) W.solves

next_of : (mem : Instant) (vs : List Value) (others : Instant) (c : Choice) (now : Instant) → Wires mem vs others c now
    → (game machine).next (valuation program delayed (λ p. false) mem (given_with vs others c)) ≡ bits_in (registers program delayed) (memory_behind [] [] delayed vs (read_with program delayed mem others c) now)
next_of mem [] others c now W = absurd W.values
next_of mem (v ∷ []) others c now W = ap (λ b. b ∷ true ∷ []) (same_bit v W.values.0 ∙ ap bit_of (sym (stored mem v others c now W)))
next_of mem (v ∷ w ∷ vs) others c now W = absurd W.values.1

-- what the contract enforces is the output, which is the value held where there is a past
enforced : (mem : Instant) (vs : List Value) (others : Instant) (c : Choice) (now : Instant) → Wires mem vs others c now → now (Enforce ∷ []) ≡ (if is_true (mem begun) then mem register else B true)
enforced mem vs others c now W =
    let at : Place → Instant → Value = λ p i. i p in
    ap (at (Enforce ∷ [])) W.solves ∙ ap (at (Named y ∷ [])) W.solves ∙ ap (at (Body ∷ Named y ∷ [])) W.solves

owed : (v w : Value) → IsOf [] ty.Bool v → IsFlag w → (if bit_of w then bit_of v else true) ≡ holds_or_missing (if is_true w then v else B true)
owed v w h (true, e) = ap (λ w. if bit_of w then bit_of v else true) e ∙ by v h ∙ sym (ap (λ w. holds_or_missing (if is_true w then v else B true)) e)
  where
    by : (v : Value) → IsOf [] ty.Bool v → bit_of v ≡ holds_or_missing v
    by (B true) h = refl
    by (B false) h = refl
    by v h = absurd h
owed v w h (false, e) = ap (λ w. if bit_of w then bit_of v else true) e ∙ sym (ap (λ w. holds_or_missing (if is_true w then v else B true)) e)

duty_of : (mem : Instant) (vs : List Value) (others : Instant) (c : Choice) (now : Instant) → Wires mem vs others c now
    → (game machine).duty (valuation program delayed (λ p. false) mem (given_with vs others c)) ≡ duty_on (is_called (instant_of [] [] delayed vs (read_with program delayed mem others c) now)) delayed now
duty_of mem vs others c now W =
    let kept = W.shape.1.0.1.0 in
    owed (mem register) (mem begun) kept.1.0 kept.1.1.0 ∙ ap holds_or_missing (sym (enforced mem vs others c now W)) ∙ with_none (holds_or_missing (now (Enforce ∷ [])))
  where
    with_none : (b : Bool) → b ≡ b && true
    with_none true = refl
    with_none false = refl

supposed : (mem : Instant) (vs : List Value) (others : Instant) (c : Choice) (now : Instant) → Wires mem vs others c now → hypothesis_on (is_called (instant_of [] [] delayed vs (read_with program delayed mem others c) now)) delayed now ≡ true
supposed mem vs others c now W = ap (λ i. holds_or_missing (i (Assume ∷ [])) && true) W.solves

pub mirrors : Mirrors program [] delayed machine
mirrors =
    record {
      is_early = λ p. false;
      early_places = λ p f. ((λ e. absurd (cc)), (λ e. absurd (none_early p e)));
      registers_are = refl;
      early_are = refl;
      control_are = refl;
      late_are = refl;
      widths = refl;
      prefer = refl;
      init = refl;
      valid = λ r u c w lr lu lc lw. ((λ t. (one_bit u lu, no_bit c lc, no_bit w lw)), (λ a. refl));
      next = next_of;
      hypothesis = λ mem vs others c now W. sym (supposed mem vs others c now W);
      duty = duty_of;
    }
