-- An instant of the observer of a contract, beside an instant of the node that has it.
-- Source: own; the observer holds the contract's block, and behind it what is assumed and what is enforced (`hp_watch/specs/Observing`).
use Rattle.std.specs.Prelude.{◌≡◌, ⊤, List, [], ◌∷◌, ◌++◌, map, Option, None, Some}
use Rattle.hp_base.specs.declared.value.Value.{Value}
use Rattle.hp_tree.specs.Expressions.{Expr}
use Rattle.hp_tree.specs.Blocks.{Decl, Block, block, Eqns, no_eqn, more_eqns}
use Rattle.hp_tree.specs.Programs.{Contract}
use Rattle.hp_tree.specs.Instant.{Observer, Assume, Enforce, Body, Named, Equations, Head, Tail, Right, Place, Instant, Past, part}

-- the equations of a part hold the same, place by place
abbrev pub SameEqns : Eqns → Instant → Instant → Type 0
SameEqns no_eqn i j = ⊤
SameEqns (more_eqns e es) i j = ((p : Place) → i (Head ∷ p) ≡ j (Head ∷ p)) × SameEqns es (part Tail i) (part Tail j)

-- what stands behind the equations of a block
abbrev pub behind_eqns : Eqns → Instant → Instant
behind_eqns no_eqn i = i
behind_eqns (more_eqns e es) i = behind_eqns es (part Tail i)

abbrev pub eqns_in : Block → Eqns
eqns_in (block ds es) = es

-- what is assumed or enforced, where it is said
abbrev pub SameTold : Option Expr → Instant → Instant → Type 0
SameTold None i j = ⊤
SameTold (Some e) i j = (p : Place) → i p ≡ j (Head ∷ Right ∷ p)

-- The contract's part of an instant of a node holds what the body of an instant of the observer holds, place by place.
pub record IsObserved (c : Contract) (now observing : Instant) : Type 0 where
  pub body : SameEqns (eqns_in c.body) (part Equations (part Observer now)) (part Equations (part Body observing))
  pub assume : SameTold c.assume (part Assume now) (behind_eqns (eqns_in c.body) (part Equations (part Body observing)))
  pub enforce : SameTold c.enforce (part Enforce now) (part Tail (behind_eqns (eqns_in c.body) (part Equations (part Body observing))))

-- The inputs of the observer: those of the node, and behind them its outputs.
abbrev pub outputs_of_instant : List Decl → Instant → List Value
outputs_of_instant outputs now = map (λ (d : Decl). now (Named d.name ∷ [])) outputs

abbrev pub observed_rows : List Decl → List (List Value) → Past → List (List Value)
observed_rows outputs (row ∷ rows) (now ∷ past) = (row ++ outputs_of_instant outputs now) ∷ observed_rows outputs rows past
observed_rows outputs rows past = []
