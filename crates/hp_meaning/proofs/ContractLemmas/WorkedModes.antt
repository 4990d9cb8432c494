-- Worked: a controllable variable of an enumeration. The first constructor is taken where it does no harm, else the second.
use Rattle.std.proofs.Common.{◌≡◌, inl, inr, List, [], ◌∷◌, refl, sym, ◌∙◌, subst, None}
use Rattle.std.specs.Prelude.{ℕ, Bool, true, false, not, ◌&&◌, IsTrue, nat_eq, codes}
use Rattle.hp_base.specs.declared.ty.Ty.TheVariants as ty
use Rattle.hp_base.specs.declared.ty.Const.TheVariants as const
use Rattle.hp_base.specs.declared.value.Value.{Value}
use Rattle.hp_base.specs.declared.value.Value.TheVariants.{B, E}
use Rattle.hp_tree.specs.declared.expr.Op1.TheVariants.{Not}
use Rattle.hp_tree.specs.declared.expr.Op2.TheVariants.{And, Eq}
use Rattle.hp_tree.specs.declared.program.Item.{Item}
use Rattle.hp_tree.specs.declared.program.Item.TheVariants.{TypeItem, NodeItem}
use Rattle.hp_tree.specs.Expressions.{constant, one, two}
use Rattle.hp_tree.specs.Blocks.{Decl}
use Rattle.hp_tree.specs.Programs.{TypeDecl, Node}
use Rattle.hp_tree.specs.Instant.{Body, Assume, Enforce, Named, Place, Instant, Past}
use Rattle.hp_meaning.specs.Causal.Causality.{IsRanked}
use Rattle.hp_meaning.specs.Causal.Abstract.{abstract_meaning}
use Rattle.hp_meaning.specs.Causal.Steering.{steered_by}
use Rattle.hp_meaning.proofs.CausalLemmas.AbstractOne.{abstract_one}
use Rattle.hp_meaning.proofs.CausalLemmas.Ranking.{ranks_enough}
use Rattle.hp_meaning.proofs.CausalLemmas.Worked.{tested}
use Rattle.hp_meaning.specs.Contract.FreePlaces.{InputsFit}
use Rattle.hp_meaning.specs.Contract.Duties.{hypothesis, duty}
use Rattle.hp_meaning.specs.Contract.Game.{Choice, IsChoiceOf, at_controls, IsNext, Permitted, Safe, IsChosen, AtMost}
use Rattle.hp_meaning.proofs.ContractLemmas.Games.{kept}
use Rattle.hp_meaning.proofs.ContractLemmas.Texts.{here, bool, c, m, v, node, promises, def}
use Rattle.hp_meaning.proofs.ContractLemmas.GameWords.{as_given, no_call_fits}

abbrev pub mode : List ℕ
mode = codes "mode"

abbrev hot : List ℕ
hot = codes "hot"

abbrev pub modes : TypeDecl
modes = record { name = mode; cons = codes "Fast" ∷ codes "Slow" ∷ codes "Off" ∷ []; span = here }

abbrev of_mode : List ℕ → Decl
of_mode n = record (bool n) { ty = ty.Enum mode }

-- It is not to be fast where it is hot.
abbrev pub heat : Node
heat =
    node (codes "heat") (bool hot ∷ []) (of_mode m ∷ [])
    (promises None (one here Not (two here And (v hot) (two here Eq (v m) (constant here (const.E (codes "Fast")))))) (of_mode c ∷ []))
    (def m (v c) ∷ [])

abbrev pub heating : List Item
heating = TypeItem modes ∷ NodeItem heat ∷ []

abbrev fast : Value
fast = E 0 0

abbrev slow : Value
slow = E 0 1

abbrev off : Value
off = E 0 2

module _ (w : Value) (is_hot : Bool) (is : w ≡ B is_hot) (history : Past) (free : Instant) (k : ℕ) (now : Instant) (meets : (p : Place) → now p ≡ abstract_meaning heating heat.name (w ∷ []) (record { past = history; free = steered_by free (at_controls (E 0 k ∷ [])) }) now p) where
  mode_is : now (Named m ∷ []) ≡ E 0 k
  mode_is = meets (Named m ∷ []) ∙ meets (Body ∷ Named m ∷ [])

  heat_owes : duty heat now ≡ not (is_hot && nat_eq k 0) && true
  heat_owes = rw (meets (Enforce ∷ []), mode_is, is) refl

  heat_supposes : IsTrue (hypothesis heat now)
  heat_supposes = rw (meets (Assume ∷ [])) refl

cool : (t : Bool) → IsTrue (not (t && false) && true)
cool true = refl
cool false = refl

-- Slow does no harm.
slow_keeps : (history : Past) (inputs : List Value) (early : Instant) (now : Instant) → InputsFit (modes ∷ []) heat.inputs inputs → IsNext heating heat history inputs early (slow ∷ []) now → IsTrue (duty heat now)
slow_keeps history [] early now fits next = absurd fits
slow_keeps history (w ∷ u ∷ inputs) early now fits next = absurd fits.1
slow_keeps history (w ∷ []) early now fits next = heat_owes w fits.0.0 fits.0.1 history next.free 1 now next.meets ∙ cool fits.0.0

slow_fits : IsChoiceOf heating heat (slow ∷ [])
slow_fits = (inr (inl refl), tt)

heat_is_safe : (history : Past) → Safe heating heat history
heat_is_safe history =
    kept heating heat (λ h. true)
    (λ history inputs early k fits. ((slow ∷ []), slow_fits, λ now next h. (slow_keeps history inputs early now fits next, refl)))
    history refl

-- each choice is one of three
of_modes : (P : Choice → Type 0) → P (fast ∷ []) → P (slow ∷ []) → P (off ∷ []) → (d : Choice) → IsChoiceOf heating heat d → P d
of_modes P p q r [] l = absurd l
of_modes P p q r (w ∷ []) (inl e, l) = subst (λ w. P (w ∷ [])) (sym e) p
of_modes P p q r (w ∷ []) (inr (inl e), l) = subst (λ w. P (w ∷ [])) (sym e) q
of_modes P p q r (w ∷ []) (inr (inr (inl e)), l) = subst (λ w. P (w ∷ [])) (sym e) r
of_modes P p q r (w ∷ []) (inr (inr (inr e)), l) = absurd e
of_modes P p q r (w ∷ u ∷ d) l = absurd l.1

abbrev Below : Value → Choice → Type 0
Below w d = AtMost (modes ∷ []) (of_mode c ∷ []) d (w ∷ [])

-- ---- where it is not hot

fast_keeps : (history : Past) (early : Instant) (now : Instant) → IsNext heating heat history (B false ∷ []) early (fast ∷ []) now → IsTrue (duty heat now)
fast_keeps history early now next = heat_owes (B false) false refl history next.free 0 now next.meets

fast_choice : (history : Past) (early : Instant) → IsChosen heating heat history (B false ∷ []) early (fast ∷ [])
fast_choice history early =
    record {
      fits = (inl refl, tt);
      greatest = λ d l p. ((λ now next h. (fast_keeps history early now next, heat_is_safe (now ∷ history))), of_modes (Below fast) (inr (refl, tt)) (inl ((λ e. absurd (cc)), inl refl)) (inl ((λ e. absurd (cc)), inl refl)) d l);
      else_preferred = λ none. refl;
    }

-- ---- where it is hot

heating_ranked : IsRanked heating
heating_ranked = (ranks_enough heat (0 ∷ 1 ∷ []) (tt, (tt, tt)) (tested heat (0 ∷ 1 ∷ []) refl refl), tt)

fast_is_refused : (history : Past) (k : Place → Bool) → Permitted heating heat history (B true ∷ []) (as_given k) (fast ∷ []) → ⊥
fast_is_refused history k permitted =
    let free = as_given k in
    let one = abstract_one heating heat.name (B true ∷ []) (record { past = history; free = steered_by free (at_controls (fast ∷ [])) }) heating_ranked in
    let next : IsNext heating heat history (B true ∷ []) (as_given k) (fast ∷ []) one.now =
    record { free = free; fits = no_call_fits heating heat one.now k refl; agrees = λ p e. refl; meets = one.meets } in
    let owed = (permitted one.now next (heat_supposes (B true) true refl history free 0 one.now one.meets)).0 in
    false_is_not (sym (heat_owes (B true) true refl history free 0 one.now one.meets) ∙ owed)
  where
    false_is_not : IsTrue false → ⊥
    false_is_not e = absurd (cc)

slow_choice : (history : Past) (k : Place → Bool) → IsChosen heating heat history (B true ∷ []) (as_given k) (slow ∷ [])
slow_choice history k =
    record {
      fits = slow_fits;
      greatest = λ d l p. (keeping, of_modes (λ d. Permitted heating heat history (B true ∷ []) (as_given k) d → Below slow d) (λ q. absurd (fast_is_refused history k q)) (λ q. inr (refl, tt)) (λ q. inl ((λ e. absurd (cc)), inr ((λ e. absurd (cc)), inl refl))) d l p);
      else_preferred = λ none. absurd (none (slow ∷ []) slow_fits keeping);
    }
  where
    keeping : Permitted heating heat history (B true ∷ []) (as_given k) (slow ∷ [])
    keeping now next h = (slow_keeps history (B true ∷ []) (as_given k) now ((true, refl), tt) next, heat_is_safe (now ∷ history))
