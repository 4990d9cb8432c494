-- Worked: the wires of a node that calls a delay with a contract. At the start its registers are in shape, what is given fits, and its wires are typed.
use Rattle.std.proofs.Common.{◌≡◌, ℕ, List, [], ◌∷◌, refl, subst}
use Rattle.std.proofs.lemmas.Slice.Eq.{bytes_eq-Decides}
use Rattle.std.specs.Prelude.{Bool, true, false, ◌||◌, IsTrue, if◌then◌else◌}
use Rattle.std.specs.Str.{bytes_eq}
use Rattle.hp_base.specs.declared.value.Value.TheVariants.{B}
use Rattle.hp_tree.specs.declared.program.Item.{Item}
use Rattle.hp_tree.specs.declared.program.Item.TheVariants.{NodeItem}
use Rattle.hp_tree.specs.Instant.{Named, Body, Instant}
use Rattle.hp_base.specs.Known.Known.{lookup}
use Rattle.law_judged.specs.Typed.Scopes.{Scope}
use Rattle.law_values.specs.Valued.Judged.{body_scope}
use Rattle.law_values.specs.Valued.Values.{scope_behind}
use Rattle.law_games.specs.Wires.Wired.{held}
use Rattle.law_games.specs.Wires.WiredNodes.{remembers_in, wired_node}
use Rattle.law_games.specs.Wires.WiredCallees.{callee_wires}
use Rattle.law_games.proofs.WiresLemmas.Worked.{y, delayed, calling, zeros, all_true}
use Rattle.law_games.specs.Wiretyped.Typed.{HasWire}
use Rattle.law_games.specs.Wiretyped.Laws.{WiresTyped, InShape, GivenFits}

abbrev earlier : List Item
earlier = NodeItem delayed ∷ []

abbrev first : Instant
first = remembers_in [] (callee_wires [] earlier) calling zeros []

no_last : (b : Bool) → IsTrue (if b then false else false) → ⊥
no_last true h = cc
no_last false h = cc

at_start : InShape [] earlier calling zeros first
at_start = (
  (λ x t h l. absurd (no_last (bytes_eq y x) h)),
  (
    ((λ x t h l. absurd (cc)), (((tt, tt), ((λ x t h l. absurd (no_last (bytes_eq y x) h)), (((λ x t h l. absurd (cc)), tt), (tt, tt)))), tt)),
    tt,
  ),
)

given : GivenFits [] earlier calling all_true
given = (tt, ((((tt, tt), ((tt, tt), (tt, (tt, tt)))), tt), tt))

abbrev wires : Bool → Instant → Instant
wires b now = wired_node [] (callee_wires [] earlier) calling (B b ∷ []) (held zeros first all_true) now

abbrev settled : Bool → Instant
settled b = wires b (wires b (wires b (wires b zeros)))

solves : (b : Bool) → settled b ≡ wires b (settled b)
solves b = refl

name_typed : (s : Scope) (x : List ℕ) (i : Instant) → HasWire [] (lookup s.variables y) (i (Named y ∷ [])) → (b : Bool) → bytes_eq y x ≡ b → IsTrue ((b || false) || false) → HasWire [] (lookup s.variables x) (i (Named x ∷ []))
name_typed s x i h true q d = subst (λ z. HasWire [] (lookup s.variables z) (i (Named z ∷ []))) ((bytes_eq-Decides y x).0 q) h
name_typed s x i h false q d = cc

typed : (b : Bool) → WiresTyped [] earlier calling (settled b)
typed b = (
  (tt, tt),
  (
    (
      (λ x d. name_typed (body_scope (scope_behind earlier) calling) x (λ p. settled b (Body ∷ p)) tt (bytes_eq y x) refl d),
      ((tt, ((tt, tt), ((tt, tt), (((λ x d. absurd (cc)), tt), (tt, tt))))), tt),
    ),
    tt,
  ),
)
