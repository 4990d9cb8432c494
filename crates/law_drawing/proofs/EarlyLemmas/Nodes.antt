-- The flags of what is drawn of contracts and of a node.
use Rattle.std.proofs.Common.{◌≡◌, ℕ, Bool, true, false, List, [], ◌∷◌, reverse, Option, None, Some, refl, sym, ap, ◌∙◌}
use Rattle.hp_tree.specs.declared.program.Item.{Item}
use Rattle.hp_tree.specs.Blocks.{Decl}
use Rattle.hp_tree.specs.Expressions.{Expr}
use Rattle.hp_tree.specs.Instant.{Body, Observer, Assume, Enforce, Place}
use Rattle.hp_tree.specs.Meaning.{controls_of, node_among}
use Rattle.hp_tree.specs.Programs.{Contract, Node}
use Rattle.hp_meaning.specs.Causal.Sources.{only}
use Rattle.hp_circuit.specs.declared.circuit.Role.{Role}
use Rattle.hp_circuit.specs.declared.circuit.Role.TheVariants as role
use Rattle.hp_meaning.specs.Contract.Forgetting.{ContractsCallNothing}
use Rattle.hp_meaning.specs.Contract.FreePlaces.{FreeClocks, by_step, free_in_block, free_in_told, free_in_contract, own_free}
use Rattle.hp_meaning.specs.Contract.Slots.{slots_of_node}
use Rattle.hp_drawing.specs.declared.parts.Callee.{Callee}
use Rattle.hp_drawing.specs.declared.parts.Place.{Place as Spot}
use Rattle.hp_drawing.specs.Told.{Told, type_shape}
use Rattle.hp_drawing.specs.Sketch.{Sketch, add_call, finish, next_wire, empty}
use Rattle.hp_drawing.specs.Places.{top_place, called_at}
use Rattle.hp_drawing.specs.Scopes.{Scope}
use Rattle.hp_drawing.specs.DrawnExpressions.{Brings}
use Rattle.hp_drawing.specs.DrawnBlocks.{drawn_block}
use Rattle.hp_drawing.specs.DrawnNodes.{contract_scope, body_layer, body_scope, drawn_told, drawn_contract, no_brings, drawn_called_if, contracts, add_one_given, add_given, define_from, drawn_observer, with_outputs, with_inputs, with_controls, node_scope, node_rows, drawn_node}
use Rattle.law_drawing.specs.Steered.Placed.{Held, none_held, ToldPlaced, ContractPlaced, CalledPlaced, contracts_held}
use Rattle.law_drawing.specs.Steered.Nodes.{ObserverPlaced, NodePlaced}
use Rattle.law_drawing.specs.Steered.Laid.{laid, slot_place}
use Rattle.law_drawing.specs.Steered.Stands.{NodeStands}
use Rattle.law_drawing.proofs.SteeredLemmas.StandingNodes.{node-placed}
use Rattle.law_drawing.proofs.SteeredLemmas.NothingCalled.{contracts-none}
use Rattle.law_drawing.proofs.SteeredLemmas.LayingNodes.{rows-laid}
use Rattle.law_drawing.specs.Early.Flags.{FlagsLaw}
use Rattle.law_drawing.proofs.EarlyLemmas.Running.{IsHeld, called-runs, scope-runs, call-runs, given-runs, from-runs, finish-runs, holes-run}
use Rattle.law_drawing.proofs.EarlyLemmas.Flags as flags
use Rattle.law_drawing.proofs.EarlyLemmas.Flags.{Goes, going, going-told, Stands, stands-behind, HasBase, base-later, if_own, none-own, flag-of, empty-flagged}
use Rattle.law_drawing.proofs.EarlyLemmas.Walk.{standing, Frees, BringsGo, both, expr-goes}
use Rattle.law_drawing.proofs.EarlyLemmas.Blocks.{block-goes}

called-outside : (spot : Spot) (s : Sketch) → ((called_at spot s).0.outside ≡ false) × ((called_at spot s).0.clock ≡ 0)
unfolding called_at
called-outside spot s = (refl, refl)

module _ (place : ℕ → Place) (clocks : FreeClocks) where
  abbrev G : Sketch → Sketch → Type 0
  G = Goes place clocks

  abbrev At : Sketch → Spot → Bool → Type 0
  At s spot own = Stands place clocks s spot own []

  on : (a b c : Sketch) → G a b → G b c → G a c
  on = both place clocks

  behind : (s s' : Sketch) (spot : Spot) (own : Bool) → G s s' → At s spot own → At s' spot own
  behind s s' spot own g h = stands-behind place clocks s s' spot own [] g h

  -- ---- contracts

  module _ (t : Told) (brings : Brings) (held : Place → Held) (b : BringsGo place clocks t brings held) where
    told-goes : (o : Option Expr) (z : Scope) (spot : Spot) (own : Bool) (at : Place → Place) (s : Sketch) → At s spot own → Frees place clocks at own (free_in_told o)
        → ((q : Place) → ToldPlaced (standing place q) t brings (held q) z spot o (λ p. only (at p)) s) → G s (drawn_told t brings z spot o s).1
    told-goes None z spot own at s h f l = flags.stays place clocks s
    told-goes (Some e) z spot own at s h f l = expr-goes place clocks t brings held b z e spot own [] at s h f l

    contract-goes : (c : Contract) (z : Scope) (spot : Spot) (own : Bool) (at : Place → Place) (s : Sketch) → At s spot own → Frees place clocks (λ p. at (Observer ∷ p)) own (free_in_block c.body) → Frees place clocks (λ p. at (Assume ∷ p)) own (free_in_told c.assume)
        → Frees place clocks (λ p. at (Enforce ∷ p)) own (free_in_told c.enforce) → ((q : Place) → ContractPlaced (standing place q) t brings (held q) z spot c (λ p. only (at p)) s) → G s (drawn_contract t brings z spot c s).1
    contract-goes c z spot own at s h f u v l =
        let inner = drawn_block t brings z spot c.body s in
        let g0 = block-goes place clocks t brings held b c.body z spot own (λ p. at (Observer ∷ p)) s h f (λ r. (l r).0) in
        let assume = drawn_told t brings inner.0 spot c.assume inner.1 in
        let g1 = on s inner.1 assume.1 g0 (told-goes c.assume inner.0 spot own (λ p. at (Assume ∷ p)) inner.1 (behind s inner.1 spot own g0 h) u (λ r. (l r).1)) in
        on s assume.1 (drawn_told t brings inner.0 spot c.enforce assume.1).1 g1 (told-goes c.enforce inner.0 spot own (λ p. at (Enforce ∷ p)) assume.1 (behind s assume.1 spot own g1 h) v (λ r. (l r).2))

  module _ (t : Told) where
    none-brings : BringsGo place clocks t no_brings (λ q. none_held)
    none-brings spot n c s at base f u v l = flags.stays place clocks s

    none-inside : (at : Place → Place) (free : FreeClocks) → ((p : Place) → clocks (at p) ≡ None) → Frees place clocks at false free
    none-inside at free f p = f p

    called-goes : (o : Option Contract) (spot : Spot) (n : Node) (c : Callee) (s : Sketch) (at : Place → Place) → HasBase s.clocks → ((p : Place) → clocks (at (Observer ∷ p)) ≡ None) → ((p : Place) → clocks (at (Assume ∷ p)) ≡ None) → ((p : Place) → clocks (at (Enforce ∷ p)) ≡ None)
        → ((q : Place) → CalledPlaced (standing place q) t spot n o c s (λ p. only (at p))) → G s (drawn_called_if t spot n o c s)
    called-goes None spot n c s at base f u v l = flags.stays place clocks s
    called-goes (Some contract) spot n c s at base f u v l =
        let inside = called_at spot s in
        let g0 = called-runs G (going place clocks) spot s in
        let o = called-outside spot s in
        let z = contract_scope t inside.0 n c.inputs c.outputs inside.1 in
        let g1 = on s inside.1 z.1 g0 (scope-runs G (going place clocks) t inside.0 n c.inputs c.outputs inside.1) in
        let here : At z.1 inside.0 false = record { based = base-later s.clocks z.1.clocks g1.later base; clock_is = o.1; outside = o.0 } in
        let d = drawn_contract t no_brings z.0 inside.0 contract z.1 in
        let g2 = on s z.1 d.1 g1 (contract-goes t no_brings (λ q. none_held) none-brings contract z.0 inside.0 false at z.1 here (none-inside (λ p. at (Observer ∷ p)) (free_in_block contract.body) f) (none-inside (λ p. at (Assume ∷ p)) (free_in_told contract.assume) u)
        (none-inside (λ p. at (Enforce ∷ p)) (free_in_told contract.enforce) v) l) in
        on s d.1 (add_call inside.0.here d.0.assume d.0.enforce d.1) g2 (call-runs G (going place clocks) (going-told place clocks) inside.0.here d.0.assume d.0.enforce d.1)

    contracts-go : BringsGo place clocks t contracts (λ q. contracts_held (standing place q) t)
    contracts-go spot n c s at base f u v l = called-goes n.contract spot n c s at base f u v l

    -- ---- nodes

    given-go : (r : Role) (ds : List Decl) (s : Sketch) → IsHeld r → G s (add_given t r ds s)
    given-go r [] s h = flags.stays place clocks s
    given-go r (d ∷ ds) s h = let s1 = add_one_given r (type_shape t d.ty) s in on s s1 (add_given t r ds s1) (given-runs G (going place clocks) r (type_shape t d.ty) s h) (given-go r ds s1 h)

    observer-goes : (o : Option Contract) (z : Scope) (s : Sketch) → At s top_place true → ((c : Contract) → o ≡ Some c → Frees place clocks (λ p. Observer ∷ p) true (free_in_block c.body) × Frees place clocks (λ p. Assume ∷ p) true (free_in_told c.assume) × Frees place clocks (λ p. Enforce ∷ p) true (free_in_told c.enforce))
        → ((q : Place) → ObserverPlaced (standing place q) t z o s) → G s (drawn_observer t z o s).1
    observer-goes None z s h f l = flags.stays place clocks s
    observer-goes (Some c) z s h f l = let k = f c refl in contract-goes t contracts (λ q. contracts_held (standing place q) t) contracts-go c z top_place true (λ p. p) s h k.0 k.1 k.2 l

    abbrev pub FreesOf : Node → Type 0
    FreesOf n =
        ((c : Contract) → n.contract ≡ Some c → Frees place clocks (λ p. Observer ∷ p) true (free_in_block c.body) × Frees place clocks (λ p. Assume ∷ p) true (free_in_told c.assume) × Frees place clocks (λ p. Enforce ∷ p) true (free_in_told c.enforce))
        × Frees place clocks (λ p. Body ∷ p) true (free_in_block n.body)

    -- what stands before the contract
    rows-go : (n : Node) → G empty (with_controls t n (node_scope t n empty).1)
    rows-go n =
        let outs = with_outputs t n empty in
        let g0 = holes-run G (going place clocks) t n.outputs empty in
        let ins = with_inputs t n empty in
        let g1 = on empty outs ins g0 (given-go role.Input n.inputs outs tt) in
        let z = node_scope t n empty in
        let g2 = on empty ins z.1 g1 (scope-runs G (going place clocks) t top_place n (next_wire outs) (next_wire empty) ins) in
        on empty z.1 (with_controls t n z.1) g2 (given-go role.Control (controls_of n.contract) z.1 tt)

    -- and what stands behind
    pub rest-goes : (n : Node) → FreesOf n → ((q : Place) → NodePlaced (standing place q) t n) → G (with_controls t n (node_scope t n empty).1) (drawn_node t n)
    rest-goes n f l =
        let z = node_scope t n empty in
        let s = with_controls t n z.1 in
        let start : At empty top_place true = record { based = (empty-flagged place clocks).1; clock_is = refl; outside = refl } in
        let here = behind empty s top_place true (rows-go n) start in
        let rows = node_rows t n empty z.1 in
        let g = drawn_observer t z.0 n.contract s in
        let g4 = observer-goes n.contract z.0 s here f.0 (λ q. (l q).0) in
        let y = body_scope (body_layer t n rows.inputs rows.controls) z.0 in
        let d = drawn_block t contracts y top_place n.body g.1 in
        let g5 = on s g.1 d.1 g4 (block-goes place clocks t contracts (λ q. contracts_held (standing place q) t) contracts-go n.body y top_place true (λ p. Body ∷ p) g.1 (behind s g.1 top_place true g4 here) f.1 (λ q. (l q).1)) in
        let e = define_from d.0 rows.outputs 0 n.outputs d.1 in
        let g6 = on s d.1 e g5 (from-runs G (going place clocks) d.0 rows.outputs 0 n.outputs d.1) in
        on s e (finish g.0.assume g.0.enforce e) g6 (finish-runs G (going place clocks) (going-told place clocks) g.0.assume g.0.enforce e)

    node-goes : (n : Node) → FreesOf n → ((q : Place) → NodePlaced (standing place q) t n) → G empty (drawn_node t n)
    node-goes n f l = let s = with_controls t n (node_scope t n empty).1 in on empty s (drawn_node t n) (rows-go n) (rest-goes n f l)

-- ---- what stands free in a node

body-free : (n : Node) (p : Place) → own_free n (Body ∷ p) ≡ free_in_block n.body p
body-free n p = refl

contract-free : (n : Node) (c : Contract) → n.contract ≡ Some c → ((p : Place) → own_free n (Observer ∷ p) ≡ free_in_block c.body p) × ((p : Place) → own_free n (Assume ∷ p) ≡ free_in_told c.assume p) × ((p : Place) → own_free n (Enforce ∷ p) ≡ free_in_told c.enforce p)
contract-free n c e =
    let by : (p : Place) → own_free n p ≡ by_step ((Body, free_in_block n.body) ∷ free_in_contract (Some c)) p = λ p. ap (λ o. by_step ((Body, free_in_block n.body) ∷ free_in_contract o) p) e in
    (λ p. by (Observer ∷ p), λ p. by (Assume ∷ p), λ p. by (Enforce ∷ p))

pub node-frees : (place : ℕ → Place) (t : Told) (n : Node) → FreesOf place (own_free n) t n
node-frees place t n = (contract-free n, body-free n)

-- the slots of a node have its places
pub node-lies : (program : List Item) (t : Told) (n : Node) → ((f : List ℕ) → t.nodes f ≡ node_among (reverse program) f) → ContractsCallNothing program → (q : Place) → NodePlaced (standing (slot_place program n) q) t n
node-lies program t n known nothing q =
    let stands : NodeStands (standing (slot_place program n) q) t n = rows-laid program t known (λ f m k. contracts-none program nothing f m (sym (known f) ∙ k)) (laid (slots_of_node program n)) (λ p. p ≡ q) n refl in
    node-placed (standing (slot_place program n) q) t n stands

pub node-flagged : FlagsLaw
node-flagged program t n known nothing i l early e =
    let place : ℕ → Place = slot_place program n in
    let g = node-goes place (own_free n) t n (node-frees place t n) (node-lies program t n known nothing) in
    flag-of place (own_free n) (drawn_node t n).slots i (g.flags (empty-flagged place (own_free n)).0) l early e
