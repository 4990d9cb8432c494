-- The one wiring of a ranked node is typed.
use Rattle.std.proofs.Common.{◌≡◌, ℕ, List, [], ◌∷◌, refl}
use Rattle.std.proofs.Math.Path.{fun_ext}
use Rattle.std.specs.Prelude.{Bool, true, false, IsTrue, if◌then◌else◌, Option, Some}
use Rattle.std.specs.Str.{bytes_eq}
use Rattle.hp_tree.specs.declared.program.Item.{Item}
use Rattle.hp_tree.specs.declared.program.Item.TheVariants.{TypeItem, NodeItem}
use Rattle.hp_tree.specs.Programs.{TypeDecl, Node}
use Rattle.hp_tree.specs.Instant.{Instant, nothing, in_node}
use Rattle.hp_tree.specs.Meaning.{node_among}
use Rattle.hp_base.specs.Known.Known.{lookup}
use Rattle.hp_typing.specs.Scopes.{inside_node}
use Rattle.hp_meaning.specs.Causal.OneReaction.{OneInstant}
use Rattle.law_judged.specs.Named.Scoped.{EachNode}
use Rattle.hp_init.specs.Classes.{Assignment}
use Rattle.law_values.specs.Valued.Judged.{no_lasts, lasts_in, body_scope}
use Rattle.law_values.specs.Valued.Values.{Classing, NodeAccepted, AreAccepted, scope_behind, class_behind, either_of}
use Rattle.law_values.specs.Filled.Firsts.{NodeHasFirsts}
use Rattle.law_values.proofs.FilledLemmas.Programs.{no_variables, outputs_have}
use Rattle.law_games.specs.Wires.WiredNodes.{wired_node}
use Rattle.law_games.specs.Wires.WiredCallees.{callee_wires}
use Rattle.law_games.specs.Wires.Laws.{held_after}
use Rattle.law_games.proofs.WiresLemmas.OneWiring.{one_wiring}
use Rattle.law_games.specs.Wiretyped.Callees.{none_typed, AloneTyped, CalleeTyped}
use Rattle.law_games.proofs.WiretypedLemmas.Programs.{wiring}
use Rattle.hp_meaning.specs.Contract.Forgetting.{ContractsCallNothing}
use Rattle.law_games.proofs.SettledLemmas.NoCalls.{contract_none}
use Rattle.law_games.proofs.SettledLemmas.Calling.{ContractCalls}
use Rattle.law_games.specs.Settled.Laws.{ZerosLaw, TypedLaw, WiringLaw}
use Rattle.law_games.proofs.SettledLemmas.AllCall.{block_calls, contract_calls}
use Rattle.law_games.proofs.SettledLemmas.Zeros.{zero, outputs_typed, firsts_around, firsts_within, block_has, contract_has, contract_in}
use Rattle.law_games.proofs.SettledLemmas.Settled.{settled}

module _ (types : List TypeDecl) where
  -- the instance of a node whose contract makes no call
  alone_has : (earlier : List Item) (class : Assignment) (n : Node) → NodeAccepted types (node_among earlier) (scope_behind earlier) class n → EachNode (NodeHasFirsts types) earlier → NodeHasFirsts types n → ContractCalls false n.contract → (i : Instant) × AloneTyped types (scope_behind earlier) n i
  alone_has earlier class n a fs f k =
      let s = scope_behind earlier in
      let around = firsts_around types (node_among earlier) s n (no_variables earlier) a.sound f in
      let g =
      contract_has types (node_among earlier) none_typed false (outputs_have types earlier fs) (λ h f n e. absurd (cc)) n.contract (inside_node s n) (lasts_in n.outputs no_lasts) around f.contract k a.plain_contract a.sound.1.1.1.1.1 in (
        in_node (λ x. zero types (lookup (inside_node s n).variables x)) [] [] nothing g.0,
        (
          outputs_typed types (node_among earlier) (inside_node s n) n.outputs (in_node (λ x. zero types (lookup (inside_node s n).variables x)) [] [] nothing g.0) a.sound.0.1 around (λ x. refl),
          contract_in types (node_among earlier) none_typed false (outputs_have types earlier fs) (λ h f n e. absurd (cc)) n.contract (inside_node s n) (λ x. zero types (lookup (inside_node s n).variables x)) [] [] nothing g.0 g.1,
        ),
      )

  instance_has : (class : Classing) (items : List Item) → AreAccepted types class items → EachNode (NodeHasFirsts types) items → ContractsCallNothing items → (f : List ℕ) (n : Node) → node_among items f ≡ Some n → (i : Instant) × CalleeTyped types items f i
  instance_has class [] a fs k f n e = absurd (cc)
  instance_has class (TypeItem t ∷ items) a fs k f n e = instance_has class items a fs k f n e
  instance_has class (NodeItem c ∷ items) a fs k f n e = by (bytes_eq c.name f) (λ e. instance_has (class_behind class) items a.1 fs.1 k.1 f n e) e
    where
      by : (b : Bool) → (node_among items f ≡ Some n → (i : Instant) × CalleeTyped types items f i) → (if b then Some c else node_among items f) ≡ Some n → (i : Instant) × either_of b (AloneTyped types (scope_behind items) c i) (CalleeTyped types items f i)
      by true h e = alone_has items _ c a.0 fs.1 fs.0 (contract_none c.contract (λ p. p) k.0)
      by false h e = h e

pub zeros : ZerosLaw
zeros types class earlier n z =
    let s = scope_behind earlier in
    let among : List ℕ → Option Node = node_among earlier in
    let ok = z.accepted.0.sound in
    let instances : IsTrue true → (f : List ℕ) (n : Node) → among f ≡ Some n → (i : Instant) × CalleeTyped types earlier f i = λ h f n e. instance_has types (class_behind class) earlier z.accepted.1 z.firsts.1 z.called f n e in
    let around = firsts_around types among s n (no_variables earlier) ok z.firsts.0 in
    let within = firsts_within types among s n (no_variables earlier) ok z.firsts.0 in
    let outs = outputs_have types earlier z.firsts.1 in
    let b = block_has types among (CalleeTyped types earlier) true outs instances n.body (body_scope s n) (lasts_in n.outputs no_lasts) within z.firsts.0.body (block_calls n.body) z.accepted.0.plain ok.1.1.1.1.0 in
    let g =
    contract_has types among (CalleeTyped types earlier) true outs instances n.contract (inside_node s n) (lasts_in n.outputs no_lasts) around z.firsts.0.contract (contract_calls n.contract) z.accepted.0.plain_contract ok.1.1.1.1.1 in (
      in_node (λ x. zero types (lookup (inside_node s n).variables x)) [] [] b.0 g.0,
      (
        outputs_typed types among (inside_node s n) n.outputs (in_node (λ x. zero types (lookup (inside_node s n).variables x)) [] [] b.0 g.0) ok.0.1 around (λ x. refl),
        (
          b.1,
          contract_in types among (CalleeTyped types earlier) true outs instances n.contract (inside_node s n) (λ x. zero types (lookup (inside_node s n).variables x)) [] [] b.0 g.0 g.1,
        ),
      ),
    )

pub typed : TypedLaw
typed types class earlier n inputs m now z r o rs h = let w = zeros types class earlier n z in settled types class earlier n inputs m w.0 now r o rs w.1 h

pub wirings : WiringLaw
wirings types class earlier n inputs start free history z r fi o rs =
    let m = held_after types earlier n start free history in
    let u : OneInstant (wired_node types (callee_wires types earlier) n inputs m) = one_wiring types earlier n inputs m o rs in
    let h : u.now ≡ wired_node types (callee_wires types earlier) n inputs m u.now = fun_ext u.meets in
    let w = typed types class earlier n inputs m u.now z r o rs h in
    let v = wiring types class earlier n inputs start free history u.now r w fi h in
    (u.now, record { wiring = v.0; values = w; shape = v.1 })
