-- Worked: the delay and its machine meet what the laws ask, so their games are one. A violation is forced within two instants, which the machine tells by computing.
use Rattle.std.proofs.Common.{◌≡◌, ℕ, List, [], ◌∷◌, refl, sym, ap, subst}
use Rattle.std.proofs.lemmas.Slice.Eq.{bytes_eq-Decides}
use Rattle.std.specs.Prelude.{Bool, true, false, ◌||◌, IsTrue, IsFalse, if◌then◌else◌, None, Some}
use Rattle.std.specs.Str.{bytes_eq}
use Rattle.hp_base.specs.declared.ty.Ty.{Ty}
use Rattle.hp_base.specs.declared.ty.Ty.TheVariants as ty
use Rattle.hp_base.specs.declared.value.Value.{Value}
use Rattle.hp_base.specs.declared.value.Value.TheVariants.{B}
use Rattle.hp_tree.specs.Programs.{Node}
use Rattle.hp_tree.specs.Operators.{is_true}
use Rattle.hp_tree.specs.Instant.{Body, Enforce, Named, Equations, Head, Right, First, Second, Place, Instant}
use Rattle.hp_tree.specs.Meaning.{node_among}
use Rattle.hp_tree.specs.Values.{IsOf}
use Rattle.hp_base.specs.Known.Known.{lookup}
use Rattle.hp_meaning.specs.Causal.Causality.{Ranked}
use Rattle.hp_meaning.proofs.CausalLemmas.Ranking.{ranks_enough}
use Rattle.hp_meaning.proofs.CausalLemmas.Worked.{tested}
use Rattle.hp_boolx.specs.Game.{IsForm, forced}
use Rattle.hp_boolx.specs.Machine.{game}
use Rattle.hp_boolx.proofs.GameLaws.{forced-told}
use Rattle.hp_init.specs.Classes.{or_first}
use Rattle.hp_meaning.specs.Contract.Memory.{memory}
use Rattle.hp_meaning.specs.Contract.Slots.{registers, zero_at}
use Rattle.law_values.specs.Valued.Judged.{body_scope}
use Rattle.law_values.specs.Valued.Values.{Classing, NodeAccepted, scope_behind}
use Rattle.law_games.specs.Wires.Wired.{Held}
use Rattle.law_games.specs.Wires.WiredNodes.{wired_node}
use Rattle.law_games.specs.Wires.WiredCallees.{callee_wires}
use Rattle.law_games.proofs.WiresLemmas.Worked.{y, delayed, delayed_clocks, register, begun}
use Rattle.law_games.specs.Wiretyped.Typed.{HasWire, IsFlag}
use Rattle.law_games.specs.Wiretyped.Laws.{IsRead, WiresTyped, InShape}
use Rattle.law_games.specs.Mirror.Memories.{AreApart, IsSettled}
use Rattle.law_games.specs.Mirror.FilledHistories.{FilledForced}
use Rattle.law_games.proofs.MirrorLemmas.Worked.{program, machine, mirrors}
use Rattle.law_games.proofs.MirrorLemmas.SameFilled.{same_filled_game}

abbrev class : Classing
class = (λ p. false) ∷ []

delayed_ranked : Ranked delayed
delayed_ranked = ranks_enough delayed (0 ∷ []) (tt, (tt, tt)) (tested delayed (0 ∷ []) refl refl)

-- ---- names

no_last : (b : Bool) → IsTrue (if b then false else false) → ⊥
no_last true h = cc
no_last false h = cc

-- what holds of the output holds of each name that is it
of_output : (P : List ℕ → Type 0) → P y → (x : List ℕ) → IsTrue ((bytes_eq y x || false) || false) → P x
of_output P h x d = by (bytes_eq y x) refl d
  where
    by : (b : Bool) → bytes_eq y x ≡ b → IsTrue ((b || false) || false) → P x
    by true e d = subst P ((bytes_eq-Decides y x).0 e) h
    by false e d = absurd (cc)

the_type : (t : Ty) → Some ty.Bool ≡ Some t → ty.Bool ≡ t
the_type t e = ap (λ o. elim o [ None ↦ ty.Bool | Some z ↦ z ]) e

never_second : (b : Bool) → IsFalse (or_first (if b then Some false else None))
never_second true = refl
never_second false = refl

accepted : NodeAccepted [] (node_among []) (scope_behind []) (λ p. false) delayed
accepted =
    record {
      sound = (
        ((refl, tt), (refl, tt)),
        (
          ((refl, tt), (refl, tt)),
          (
            tt,
            (
              ((refl, tt), tt),
              (
                (tt, ((λ x d f. of_output (λ x. (t : Ty) × (lookup (body_scope (scope_behind []) delayed).variables x ≡ Some t)) (ty.Bool, refl) x d), ((((λ t e. subst (λ t. IsOf [] t (B true)) (the_type t e) tt), tt), (ty.Bool, (refl, (refl, tt)))), tt))),
                ((tt, ((λ x d f. absurd (cc)), tt)), (tt, (tt, refl))),
              ),
            ),
          ),
        ),
      );
      classes = record { follow = (tt, (((λ h. h), tt), tt)); met = refl; definite = ((tt, ((λ x d f. absurd (cc)), tt)), (tt, ((λ x d f. never_second (bytes_eq y x || false)), (tt, tt)))) };
      clocks = delayed_clocks;
      plain = (tt, tt);
      plain_contract = tt;
    }

first_shape : InShape [] [] delayed (zero_at (registers program delayed)) (memory program delayed [])
first_shape = (
  (λ x t h l. absurd (no_last (bytes_eq y x) h)),
  (
    ((λ x t h l. absurd (cc)), ((tt, (tt, ((false, refl), (tt, tt)))), tt)),
    (((λ x t h l. absurd (cc)), tt), (tt, tt)),
  ),
)

-- ---- wires that solve the circuits are typed

held_bool : (v w : Value) → IsOf [] ty.Bool v → IsFlag w → IsOf [] ty.Bool (if is_true w then v else B true)
held_bool v w h (true, e) = subst (λ w. IsOf [] ty.Bool (if is_true w then v else B true)) (sym e) h
held_bool v w h (false, e) = subst (λ w. IsOf [] ty.Bool (if is_true w then v else B true)) (sym e) tt

typed : (inputs : List Value) (m : Held) (now : Instant) → IsRead [] class [] delayed inputs m → now ≡ wired_node [] (callee_wires [] []) delayed inputs m now → WiresTyped [] [] delayed now
typed [] m now r h = absurd r.values
typed (v ∷ w ∷ vs) m now r h = absurd r.values.1
typed (v ∷ []) m now r h =
    let P : Value → Type 0 = λ v. IsOf [] ty.Bool v in
    let at : Place → Instant → Value = λ p i. i p in
    let kept = r.shape.1.0.1.0 in
    let right : P (now (Body ∷ Equations ∷ Head ∷ Right ∷ [])) = subst P (sym (ap (at (Body ∷ Equations ∷ Head ∷ Right ∷ [])) h)) (held_bool (m.memory register) (m.memory begun) kept.1.0 kept.1.1.0) in
    let body : P (now (Body ∷ Named y ∷ [])) = subst P (sym (ap (at (Body ∷ Named y ∷ [])) h)) (held_bool (m.memory register) (m.memory begun) kept.1.0 kept.1.1.0) in
    let out : P (now (Named y ∷ [])) = subst P (sym (ap (at (Named y ∷ [])) h)) body in (
      (out, tt),
      (
        (
          (λ x d. of_output (λ x. HasWire [] (lookup (body_scope (scope_behind []) delayed).variables x) (now (Body ∷ Named x ∷ []))) body x d),
          (
            (
              right,
              (subst P (sym (ap (at (Body ∷ Equations ∷ Head ∷ Right ∷ First ∷ [])) h)) tt, subst P (sym (ap (at (Body ∷ Equations ∷ Head ∷ Right ∷ Second ∷ [])) h)) r.values.0),
            ),
            tt,
          ),
        ),
        (((λ x d. absurd (cc)), tt), (tt, subst P (sym (ap (at (Enforce ∷ [])) h)) out)),
      ),
    )

settled : IsSettled program class [] delayed
settled =
    record {
      accepted = (accepted, tt);
      ranked = delayed_ranked;
      ranked_earlier = tt;
      typed = λ inputs m now r h. typed inputs m now r h;
      found = λ f k e. absurd (cc);
      apart = λ f k e. by (bytes_eq delayed.name f) k e;
      some_choice = tt;
    }
  where
    by : (b : Bool) (k : Node) → (if b then Some delayed else None) ≡ Some k → AreApart k.outputs
    by true k e = subst (λ k. AreApart k.outputs) (ap (λ o. elim o [ None ↦ delayed | Some z ↦ z ]) e) (refl, tt)
    by false k e = absurd (cc)

-- ---- the game

form : IsForm (game machine)
form = record { prefer = refl; init = refl; next = λ v. refl }

-- At first the contract holds, and the input false leads to an instant at which it does not.
forced_in_two : FilledForced program [] delayed 2 []
forced_in_two = (same_filled_game program class [] delayed machine settled mirrors first_shape 2 [] tt).1 ((forced-told (game machine) form 2 (false ∷ false ∷ []) refl).0 refl)

not_in_one : FilledForced program [] delayed 1 [] → ⊥
not_in_one f =
    let bad : IsTrue (forced (game machine) 1 (false ∷ false ∷ [])) = (forced-told (game machine) form 1 (false ∷ false ∷ []) refl).1 ((same_filled_game program class [] delayed machine settled mirrors first_shape 1 [] tt).0 f) in
    absurd (cc)
