-- A node in which an allowed assignment is written has right clocks.
use Rattle.std.proofs.Common.{◌≡◌, ℕ, List, [], ◌∷◌, ◌++◌, map, refl, sym, ap, ap₂, ◌∙◌, subst}
use Rattle.std.specs.Prelude.{Bool, true, false, ◌||◌, IsTrue, Option, None, Some}
use Rattle.std.specs.Str.{bytes_eq}
use Rattle.hp_tree.specs.Expressions.{Expr}
use Rattle.hp_tree.specs.Blocks.{Decl, Block, block}
use Rattle.hp_tree.specs.Programs.{Contract, Node}
use Rattle.hp_tree.specs.Instant.{Place, Body, Observer}
use Rattle.hp_tree.specs.Meaning.{declares}
use Rattle.hp_tree.specs.Meaning.{controls_of}
use Rattle.hp_meaning.specs.Causal.Clocked.{on_base, ClockRight, BlockRight, TellsOnBase, ContractRight, own_clock, ClocksRight}
use Rattle.hp_meaning.specs.Clocking.Clocking.{Assignment, Sight, seen_on, standing, sight_of, AllAllow, units, known_on_base, contract_sight, body_sight, told, in_observer, in_body, contract_units, base_written, with_clock, with_clocks, contract_with_clocks, node_with_clocks, contract_sights, IsAllowed, ContractDefined, locals_declare, NodeDefined}
use Rattle.hp_meaning.proofs.ClockingLemmas.Units.{all_allow}
use Rattle.hp_meaning.proofs.ClockingLemmas.Written.{declares_kept, undeclared, standing_of_written, block_right}

based_kept : (ds : List Decl) (x : List ℕ) → declares (map base_written ds) x ≡ declares ds x
based_kept [] x = refl
based_kept (d ∷ ds) x = ap (λ z. bytes_eq d.name x || z) (based_kept ds x)

module _ (at : Assignment) where
  pub on_known : (b : Bool) → seen_on at (known_on_base b) ≡ on_base b
  on_known true = refl
  on_known false = refl

  controls_kept : (c : Option Contract) (x : List ℕ) → declares (controls_of (contract_with_clocks at c)) x ≡ declares (controls_of c) x
  controls_kept None x = refl
  controls_kept (Some c) x = based_kept c.controls x

  outputs_on_base : (b : Block) (ds : List Decl) → ((x : List ℕ) → IsTrue (declares ds x) → IsTrue (locals_declare b x) → ⊥) → (x : List ℕ) → IsTrue (declares (map base_written ds) x) → own_clock (with_clocks at in_body b) x ≡ []
  outputs_on_base (block ls es) ds h x d =
      undeclared (map (with_clock at es in_body) ls) x (λ l. h x (subst IsTrue (based_kept ds x) d) (subst IsTrue (declares_kept at es in_body ls x) l))

  told_on : (sight : Sight) (e : Option Expr) → AllAllow at (told sight e) → TellsOnBase (standing at sight) e
  told_on sight None h = tt
  told_on sight (Some e) h = h.0

  contract_right : (out : Sight) (c : Option Contract) → ContractDefined c → AllAllow at (contract_units out c) → ((p : Place) → ClockRight (standing at (contract_sights c out p)) (at (in_observer p))) → ContractRight (standing at out) (contract_with_clocks at c)
  contract_right out None l a s = tt
  contract_right out (Some c) l a s =
      let sight = sight_of c.body in_observer out in
      let r = (all_allow at (units c.body in_observer out) (told sight c.assume ++ told sight c.enforce)).0 a in
      let q = (all_allow at (told sight c.assume) (told sight c.enforce)).0 r.1 in
      let path = standing_of_written at c.body in_observer out in (
        block_right at c.body in_observer out l r.0 s,
        subst (λ z. TellsOnBase z c.assume) path (told_on sight c.assume q.0),
        subst (λ z. TellsOnBase z c.enforce) path (told_on sight c.enforce q.1),
      )

  -- Where an assignment is allowed, the node in which it is written has right clocks.
  pub node_right : (n : Node) → NodeDefined n → IsAllowed n at → ClocksRight (node_with_clocks at n)
  node_right n d a =
      let r = (all_allow at (contract_units (contract_sight n) n.contract) (units n.body in_body (body_sight n))).0 a.1 in
      let ins : (x : List ℕ) → declares n.inputs x ≡ declares (map base_written n.inputs) x = λ x. sym (based_kept n.inputs x) in
      let outs : (x : List ℕ) → declares n.outputs x ≡ declares (map base_written n.outputs) x = λ x. sym (based_kept n.outputs x) in
      let body_path : standing at (body_sight n) ≡ (λ x. on_base (declares (map base_written n.inputs) x || (declares (map base_written n.outputs) x || declares (controls_of (contract_with_clocks at n.contract)) x))) =
      let f : (x : List ℕ) → standing at (body_sight n) x ≡ on_base (declares (map base_written n.inputs) x || (declares (map base_written n.outputs) x || declares (controls_of (contract_with_clocks at n.contract)) x)) =
      λ x. on_known (declares n.inputs x || (declares n.outputs x || declares (controls_of n.contract) x))
      ∙ ap on_base (ap₂ ◌||◌ (ins x) (ap₂ ◌||◌ (outs x) (sym (controls_kept n.contract x)))) in
      λ z x. f x z in
      let observer_path : standing at (contract_sight n) ≡ (λ x. on_base (declares (map base_written n.inputs) x || declares (map base_written n.outputs) x)) =
      let f : (x : List ℕ) → standing at (contract_sight n) x ≡ on_base (declares (map base_written n.inputs) x || declares (map base_written n.outputs) x) =
      λ x. on_known (declares n.inputs x || declares n.outputs x) ∙ ap on_base (ap₂ ◌||◌ (ins x) (outs x)) in
      λ z x. f x z in
      record {
        outputs = outputs_on_base n.body n.outputs d.2;
        body = subst (λ z. BlockRight z (with_clocks at in_body n.body)) body_path (block_right at n.body in_body (body_sight n) d.0 r.1 (λ p. a.0 (Body ∷ p)));
        contract = subst (λ z. ContractRight z (contract_with_clocks at n.contract)) observer_path (contract_right (contract_sight n) n.contract d.1 r.0 (λ p. a.0 (Observer ∷ p)));
      }
