-- What is given at places of controllable variables is not looked at where each node chooses: two instants of given values that agree elsewhere are one.
use Rattle.std.proofs.Common.{◌≡◌, ℕ, suc, List, [], ◌∷◌, ◌++◌, length, map, refl, sym, ap, ap₂, subst}
use Rattle.std.proofs.Math.Path.{fun_ext}
use Rattle.std.specs.Prelude.{false, if◌then◌else◌, Option, None, Some}
use Rattle.std.specs.Str.{bytes_eq}
use Rattle.hp_base.specs.declared.value.Value.{Value}
use Rattle.hp_base.specs.declared.value.Value.TheVariants.{Absent}
use Rattle.hp_tree.specs.declared.program.Item.{Item}
use Rattle.hp_tree.specs.declared.program.Item.TheVariants.{TypeItem, NodeItem}
use Rattle.hp_tree.specs.Blocks.{Decl}
use Rattle.hp_tree.specs.Programs.{TypeDecl, Contract, Node}
use Rattle.hp_tree.specs.Operators.{Reading, constant_of}
use Rattle.hp_tree.specs.Instant.{Controls, Body, Observer, Assume, Enforce, Named, Tail, Instant, Past, part, at, since, alone, in_row, in_observer, in_node}
use Rattle.hp_tree.specs.Meaning.{Names, Nodes, declares, lasts, input_of, scope, observer, controls_of, given_to, node}
use Rattle.hp_meaning.specs.Causal.Steering.{steered_by}
use Rattle.hp_meaning.proofs.CausalLemmas.Swap.{given}
use Rattle.law_equations.proofs.AnsweredLemmas.GivenLaws.{AgreeElsewhere, node_same}
use Rattle.law_choices.specs.Choosing.Choices.{Choices}
use Rattle.law_choices.specs.Runs.Chosen.{inputs_at, chosen_nodes}

-- the names of two lists of declarations, each with its values
input_append : (cs ds : List Decl) (vs ws : List Value) (out : Names) → length vs ≡ length cs → (x : List ℕ) → input_of cs vs (input_of ds ws out) x ≡ input_of (cs ++ ds) (vs ++ ws) out x
input_append [] ds [] ws out long x = refl
input_append [] ds (v ∷ vs) ws out long x = absurd (cc)
input_append (c ∷ cs) ds [] ws out long x = absurd (cc)
input_append (c ∷ cs) ds (v ∷ vs) ws out long x = let rest : length vs ≡ length cs = cc in ap (λ w. if bytes_eq c.name x then v else w) (input_append cs ds vs ws out rest x)

module _ (types : List TypeDecl) (R : Reading) (N : Nodes)
    (same : (f : List ℕ) (vs : List Value) (past : Past) (free other now : Instant) → AgreeElsewhere free other → N.instant f vs (given past free) now ≡ N.instant f vs (given past other) now) where
  given_long : (cs : List Decl) (free : Instant) → length (given_to types R N cs free) ≡ length cs
  given_long [] free = refl
  given_long (c ∷ cs) free = ap suc (given_long cs (part Tail free))

  -- a node that takes as inputs what its controllable variables are given
  abbrev taking : Node → Node
  taking n = record n { inputs = controls_of n.contract ++ n.inputs; contract = None }

  -- a node with no controllable variables
  abbrev bare : Node → Contract → Node
  bare n c = record n { contract = Some (record c { controls = [] }) }

  abbrev last_of_outputs : Node → Past → Names
  last_of_outputs n past = lasts (λ c. R.constant (constant_of types c)) n.outputs past (λ x. Absent)

  observer_alike : (n : Node) (c : Option Contract) → n.contract ≡ c → (vs : List Value) (past : Past) (free other now : Instant) → AgreeElsewhere free other
      → observer types R N c (λ x. if declares n.outputs x then now (Named x ∷ []) else input_of n.inputs vs (λ x. Absent) x) (last_of_outputs n past) (given past free) now
      ≡ observer types R N c (λ x. if declares n.outputs x then now (Named x ∷ []) else input_of n.inputs vs (λ x. Absent) x) (last_of_outputs n past) (given past other) now
  observer_alike n None e vs past free other now u = refl
  observer_alike n (Some c) e vs past free other now u =
      let t = node_same types R N same (bare n c) refl vs past free other now u in
      λ d. in_observer (λ p. t d (Observer ∷ p)) (λ p. t d (Assume ∷ p)) (λ p. t d (Enforce ∷ p))

  -- so is a node that is given the same for its controllable variables
  node_alike : (n : Node) (row : Instant) (vs : List Value) (past : Past) (free other now : Instant) → AgreeElsewhere (steered_by free row) (steered_by other row)
      → node types R N n vs (given past (steered_by free row)) now ≡ node types R N n vs (given past (steered_by other row)) now
  node_alike n row vs past free other now u =
      let F = steered_by free row in
      let G = steered_by other row in
      let cs = controls_of n.contract in
      let controls = given_to types R N cs row in
      let outputs' : Names = λ x. if declares n.outputs x then now (Body ∷ Named x ∷ []) else Absent in
      let outer : Names = input_of n.inputs vs (λ x. Absent) in
      let last : Names = last_of_outputs n past in
      let names : input_of cs controls outer ≡ input_of (cs ++ n.inputs) (controls ++ vs) (λ x. Absent) = fun_ext (input_append cs n.inputs controls vs (λ x. Absent) (given_long cs row)) in
      let t = node_same types R N same (taking n) refl (controls ++ vs) past F G now u in
      let body : scope types R N n.body false (input_of (cs ++ n.inputs) (controls ++ vs) (λ x. Absent)) last (since false (at Body (given past F))) (part Body now)
      ≡ scope types R N n.body false (input_of (cs ++ n.inputs) (controls ++ vs) (λ x. Absent)) last (since false (at Body (given past G))) (part Body now) = λ d p. t d (Body ∷ p) in
      ap₂ (λ b c. in_node outputs' vs controls b c)
      (subst (λ (z : Names). scope types R N n.body false z last (since false (at Body (given past F))) (part Body now) ≡ scope types R N n.body false z last (since false (at Body (given past G))) (part Body now)) (sym names) body)
      (observer_alike n n.contract refl vs past F G now u)

-- what is put in place of the given values of controllable variables is the same
steered_alike : (free other row : Instant) → AgreeElsewhere free other → AgreeElsewhere (steered_by free row) (steered_by other row)
steered_alike free other row u (Controls ∷ p) h = refl
steered_alike free other row u p h = u p h

pub chosen_same : (choices : Choices) (types : List TypeDecl) (R : Reading) (items : List Item) (f : List ℕ) (vs : List Value) (past : Past) (free other now : Instant) → AgreeElsewhere free other
    → (chosen_nodes choices types R items).instant f vs (given past free) now ≡ (chosen_nodes choices types R items).instant f vs (given past other) now
chosen_same choices types R [] f vs past free other now u = refl
chosen_same choices types R (TypeItem t ∷ items) f vs past free other now u = chosen_same choices types R items f vs past free other now u
chosen_same choices types R (NodeItem n ∷ items) f vs past free other now u =
    let row = in_row (map alone (choices n.name vs (map (inputs_at n) past))) in
    ap₂ (λ (i j : Instant). if bytes_eq n.name f then i else j)
    (node_alike types R (chosen_nodes choices types R items) (λ f vs past free other now u. chosen_same choices types R items f vs past free other now u) n row vs past free other now (steered_alike free other row u))
    (chosen_same choices types R items f vs past free other now u)
