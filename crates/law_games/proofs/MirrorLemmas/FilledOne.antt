-- There is exactly one instant without Nil after each history, for all that is given.
use Rattle.std.proofs.Common.{◌<◌, List, [], ◌∷◌, refl, arith}
use Rattle.std.specs.Str.{bytes_eq}
use Rattle.hp_base.specs.declared.value.Value.{Value}
use Rattle.hp_tree.specs.declared.program.Item.{Item}
use Rattle.hp_tree.specs.declared.program.Item.TheVariants.{TypeItem, NodeItem}
use Rattle.hp_tree.specs.Programs.{TypeDecl, Node}
use Rattle.hp_tree.specs.Instant.{Inputs, Controls, Body, Observer, Assume, Enforce, Named, Fresh, Place, Given, nothing}
use Rattle.hp_tree.specs.Meaning.{node}
use Rattle.hp_meaning.specs.Causal.Sources.{only, below}
use Rattle.hp_meaning.specs.Causal.WhatIsRead.{output_in}
use Rattle.hp_meaning.specs.Causal.Causality.{sources, Ranked, IsRanked}
use Rattle.hp_meaning.specs.Causal.OneReaction.{OneInstant}
use Rattle.hp_meaning.proofs.CausalLemmas.Fix.{Local, one}
use Rattle.hp_meaning.proofs.CausalLemmas.NodesAgree.{within_more, contract_agrees}
use Rattle.hp_meaning.proofs.CausalLemmas.Unique.{AllOne, none_one, one_of, node_one}
use Rattle.law_games.specs.Wires.Wired.{filled_abstraction}
use Rattle.law_games.specs.Wires.WiredCallees.{alone_in, filled_callees}

module _ (types : List TypeDecl) where
  module _ (n : Node) (o : Ranked n) (inputs : List Value) (g : Given) where
    abbrev Less : Place → Place → Type 0
    Less p q = o.rank q < o.rank p

    pub contract_local : Local (alone_in types n inputs g) o.rank
    contract_local k i j same (Named x ∷ []) l = refl
    contract_local k i j same (Fresh ∷ []) l = refl
    contract_local k i j same (Inputs ∷ p) l = refl
    contract_local k i j same (Controls ∷ p) l = refl
    contract_local k i j same (Body ∷ p) l = refl
    contract_local k i j same p l =
        contract_agrees types filled_abstraction (λ f. []) (λ f vs h. nothing) (Less p) n.contract (output_in n (below Body only)) only _ _ _ g i j
        (λ q u. within_more (Less (Observer ∷ q)) (Less p) (λ r v. omega arith) (sources n (Observer ∷ q)) (o.falls (Observer ∷ q)))
        (λ q u. within_more (Less (Assume ∷ q)) (Less p) (λ r v. omega arith) (sources n (Assume ∷ q)) (o.falls (Assume ∷ q)))
        (λ q u. within_more (Less (Enforce ∷ q)) (Less p) (λ r v. omega arith) (sources n (Enforce ∷ q)) (o.falls (Enforce ∷ q)))
        (λ x u. refl)
        (λ q u. same (Observer ∷ q) (omega arith))
        p (o.falls p)

    contract_one : OneInstant (alone_in types n inputs g)
    contract_one = one (alone_in types n inputs g) o.rank o.bound o.bounded contract_local

  pub callees_one : (items : List Item) → IsRanked items → AllOne (filled_callees types items).instant
  callees_one [] r f inputs g = none_one
  callees_one (TypeItem t ∷ items) r f inputs g = callees_one items r f inputs g
  callees_one (NodeItem n ∷ items) r f inputs g =
      one_of (bytes_eq n.name f) (alone_in types n inputs g) ((filled_callees types items).instant f inputs g)
      (contract_one n r.0 inputs g) (callees_one items r.1 f inputs g)

  pub filled_one : (items : List Item) → IsRanked items → (n : Node) → Ranked n → (inputs : List Value) (g : Given) → OneInstant (node types filled_abstraction (filled_callees types items) n inputs g)
  filled_one items r n o inputs g = node_one types filled_abstraction (filled_callees types items) (callees_one items r) n o inputs g
