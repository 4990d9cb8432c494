-- Where any wires of a ranked node are typed, those that solve its circuits are.
use Rattle.std.proofs.Common.{◌≡◌, ℕ, suc, ◌+◌, ◌<◌, List, [], ◌∷◌, refl, sym, ap, ◌∙◌, arith}
use Rattle.std.proofs.Math.Path.{fun_ext}
use Rattle.std.specs.Prelude.{Bool, true, false, if◌then◌else◌, Some}
use Rattle.std.specs.Str.{bytes_eq}
use Rattle.hp_base.specs.declared.value.Value.{Value}
use Rattle.hp_tree.specs.declared.program.Item.{Item}
use Rattle.hp_tree.specs.declared.program.Item.TheVariants.{TypeItem, NodeItem}
use Rattle.hp_tree.specs.Programs.{TypeDecl}
use Rattle.hp_tree.specs.Instant.{Place, Instant}
use Rattle.hp_tree.specs.Meaning.{node_among}
use Rattle.hp_meaning.specs.Causal.Causality.{IsRanked}
use Rattle.hp_meaning.specs.Causal.OneReaction.{OneInstant}
use Rattle.hp_meaning.proofs.CausalLemmas.Fix.{Local}
use Rattle.hp_meaning.proofs.CausalLemmas.NodesAgree.{ranked_with_contract, ranked_below}
use Rattle.law_values.specs.Valued.Values.{scope_behind, class_behind}
use Rattle.law_games.specs.Wires.Wired.{Held, Callees}
use Rattle.law_games.specs.Wires.WiredNodes.{wired_node}
use Rattle.law_games.specs.Wires.WiredCallees.{wired_by, callee_wires}
use Rattle.law_games.proofs.WiresLemmas.Swap.{with_wires, node_swap}
use Rattle.law_games.proofs.WiresLemmas.OneWiring.{node_local, alone_local, callee_one}
use Rattle.law_games.specs.Wiretyped.Callees.{CalleeTyped, CalleeKept, CalleeGiven}
use Rattle.law_games.specs.Wiretyped.Laws.{WiresTyped}
use Rattle.law_games.proofs.WiretypedLemmas.Exprs.{CalleesTyped}
use Rattle.law_games.proofs.WiretypedLemmas.Callees.{callees_typed}
use Rattle.law_games.proofs.WiretypedLemmas.Nodes.{node_wires}
use Rattle.law_games.specs.Settled.Laws.{SettledLaw}
use Rattle.law_games.proofs.SettledLemmas.Reached.{reached}

-- A map has ranks: it looks at places of less rank alone.
record HasRanks (F : Instant → Instant) : Type 0 where
  rank : Place → ℕ
  bound : ℕ
  below : (p : Place) → rank p < bound
  local : Local F rank

-- so do the wires of an instance
callee_ranks : (types : List TypeDecl) (items : List Item) → IsRanked items → (f : List ℕ) (ins : List Value) (m : Held) → HasRanks (wired_by types (node_among items f) ins m)
callee_ranks types [] r f ins m = record { rank = λ p. 0; bound = 1; below = λ p. omega arith; local = λ k i j s p l. refl }
callee_ranks types (TypeItem t ∷ items) r f ins m = callee_ranks types items r f ins m
callee_ranks types (NodeItem n ∷ items) r f ins m = by (bytes_eq n.name f) (callee_ranks types items r.1 f ins m)
  where
    by : (b : Bool) → HasRanks (wired_by types (node_among items f) ins m) → HasRanks (wired_by types (if b then Some n else node_among items f) ins m)
    by true u = record { rank = r.0.rank; bound = r.0.bound; below = r.0.bounded; local = alone_local types n r.0 ins m }
    by false u = u

pub settled : SettledLaw
settled types class earlier n inputs m from now r o rs w h =
    let C : Callees = callee_wires types earlier in
    let all : (f : List ℕ) (ins : List Value) (m : Held) → OneInstant (C.wired f ins m) = callee_one types earlier rs in
    let w' : List ℕ → List Value → Held → Instant → Instant = λ f ins m i. (all f ins m).now in
    let D : Callees = with_wires C w' in
    let forth : (f : List ℕ) (ins : List Value) (m : Held) (i : Instant) → i ≡ C.wired f ins m i → w' f ins m i ≡ C.wired f ins m i =
    λ f ins m i h. sym (fun_ext ((all f ins m).only i (λ p z. h z p))) ∙ h in
    let K : CalleesTyped types C (node_among earlier) (CalleeTyped types earlier) (CalleeKept types earlier) (CalleeGiven types earlier) = callees_typed types (class_behind class) earlier r.accepted.1 in
    let L : CalleesTyped types D (node_among earlier) (CalleeTyped types earlier) (CalleeKept types earlier) (CalleeGiven types earlier) =
    record {
      outputs = K.outputs;
      gives = K.gives;
      wires = λ f c ins m i a v k g t.
          let u : HasRanks (C.wired f ins m) = callee_ranks types earlier rs f ins m in
          reached (C.wired f ins m) u.rank u.local u.bound u.below (CalleeTyped types earlier f) (λ j z. K.wires f c ins m j a v k g z) i t (all f ins m).now (all f ins m).meets;
      sound = K.sound;
      next = K.next;
      begins = K.begins;
    } in
    reached (wired_node types D n inputs m) (ranked_with_contract o.rank o.bound) (node_local types D (λ f ins m i j. refl) n o inputs m) (suc (o.bound + o.bound)) (ranked_below o.rank o.bound o.bounded)
    (WiresTyped types earlier n)
    (λ i z. node_wires types D (node_among earlier) (CalleeTyped types earlier) (CalleeKept types earlier) (CalleeGiven types earlier) L (scope_behind earlier) n r.accepted.0.sound r.accepted.0.clocks inputs r.values m i r.shape r.given z)
    from w now (λ p. (λ z. h z p) ∙ sym (ap (λ t. t p) (node_swap types C w' forth n inputs m now h)))
