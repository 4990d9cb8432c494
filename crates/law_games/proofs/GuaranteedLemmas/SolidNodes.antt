-- The instant of a node is solid.
use Rattle.std.proofs.Common.{◌≡◌, ℕ, List, [], ◌∷◌, refl, sym, ◌∙◌}
use Rattle.std.specs.Prelude.{Bool, true, false, if◌then◌else◌, Option, None, Some}
use Rattle.hp_base.specs.declared.ty.Ty.TheVariants as ty
use Rattle.hp_base.specs.declared.value.Value.{Value}
use Rattle.hp_base.specs.declared.value.Value.TheVariants.{Absent, Star}
use Rattle.hp_tree.specs.Blocks.{Block, block}
use Rattle.hp_tree.specs.Expressions.{Expr}
use Rattle.hp_tree.specs.Programs.{TypeDecl, Contract, Node}
use Rattle.hp_tree.specs.Operators.{constant_of}
use Rattle.hp_tree.specs.Values.{AreOf}
use Rattle.hp_tree.specs.Instant.{Step, Inputs, Controls, Body, Observer, Assume, Enforce, Named, Fresh, Place, Instant, Past, Given, at, part, parts, since, own, nothing}
use Rattle.hp_tree.specs.Meaning.{Names, Nodes, declares, input_of, lasts as lasts_said, expr, scope, observer, given_to, controls_of, read_in, last_in, node}
use Rattle.hp_tree.specs.Reaction.{Each}
use Rattle.hp_typing.specs.Scopes.{with_variables, inside, inside_node}
use Rattle.law_judged.specs.Typed.Scopes.{Scope}
use Rattle.hp_init.specs.Classes.{Classes, Assignment}
use Rattle.law_values.specs.Valued.Fitting.{Presence, ToldFits}
use Rattle.law_values.specs.Valued.Given.{reading}
use Rattle.law_values.specs.Valued.Judged.{Lasts, no_lasts, lasts_in, lasts_of}
use Rattle.law_values.specs.Valued.Classed.{none_second, classes_of}
use Rattle.law_values.proofs.ValuedLemmas.Both.{ToldOk, ContractOk, NodeOk}
use Rattle.law_values.proofs.ValuedLemmas.ExprTops.{own_all}
use Rattle.law_values.proofs.ValuedLemmas.Loose.{BlockLoose, ContractAt, ContractLoose, NodeLoose}
use Rattle.law_values.proofs.ValuedLemmas.NodeContract.{each_as}
use Rattle.law_games.proofs.GuaranteedLemmas.Solid.{Solid, absent_star, same_solid, nothing_solid, observer_solid, values_solid, node_solid}
use Rattle.law_games.proofs.GuaranteedLemmas.SolidExprs.{Been, expr_solid}
use Rattle.law_games.proofs.GuaranteedLemmas.SolidBlocks.{each_been, block_at_solid, block_loose_solid}

not_star : (c : Bool) (v w : Value) → (w ≡ Star → ⊥) → v ≡ (if c then w else Absent) → v ≡ Star → ⊥
not_star true v w h e f = h (sym e ∙ f)
not_star false v w h e f = absent_star v e f

module _ (types : List TypeDecl) (u : Value → Value) (N : Nodes) (among : List ℕ → Option Node) (fits : List ℕ → Instant → Type 0) (own_solid : (f : List ℕ) (i : Instant) → fits f i → Solid i) where
  abbrev ToldWas : Scope → Classes → Option Expr → Instant → Type 0
  ToldWas s second e j = (w : Presence) × ToldFits types true fits s second w e j

  -- what is told of a block, or nothing
  abbrev said : Option Expr → Names → Names → Given → Instant → Instant
  said None names last g i = nothing
  said (Some e) names last g i = expr types (reading u) N e [] names last g i

  told_solid : (e : Option Expr) (s : Scope) (second : Classes) (lasts : Lasts) (there : Presence) (names last : Names) (g : Given) (i : Instant) → ToldOk types among s second lasts e → ToldFits types true fits s second there e i → Been (ToldWas s second e) g.past → ((p : Place) → i p ≡ said e names last g i p) → Solid i
  told_solid None s second lasts there names last g i ok f was m = nothing_solid i m
  told_solid (Some e) s second lasts there names last g i ok f was m = expr_solid types u N among fits own_solid s second lasts there names last e ty.Bool [] g i ok.1.1 ok.0 f was m

  -- the past of a contract's block
  observer_past : (b : Block) (assume enforce : Option Expr) (s : Scope) (class : Assignment) (past : Past) → Each (ContractAt types true fits s class b assume enforce) past → Each (BlockLoose types true fits s none_second (λ p. class (Observer ∷ p)) b) (own (parts Observer past))
  observer_past (block ds es) assume enforce s class past a =
      own_all (BlockLoose types true fits s none_second (λ p. class (Observer ∷ p)) (block ds es)) (parts Observer past)
      (each_been (ContractAt types true fits s class (block ds es) assume enforce) (BlockLoose types true fits s none_second (λ p. class (Observer ∷ p)) (block ds es)) Observer past (λ j z. (z.0, (z.1.0, z.1.1.0))) a)

  contract_solid : (k : Option Contract) (s : Scope) (lasts : Lasts) (class : Assignment) (names last : Names) (g : Given) (i : Instant) → ContractOk types among s lasts class k → ContractLoose types true fits s class k i → Each (ContractLoose types true fits s class k) g.past
      → ((p : Place) → i (Observer ∷ p) ≡ observer types (reading u) N k names last g i (Observer ∷ p)) → ((p : Place) → i (Assume ∷ p) ≡ observer types (reading u) N k names last g i (Assume ∷ p)) → ((p : Place) → i (Enforce ∷ p) ≡ observer types (reading u) N k names last g i (Enforce ∷ p))
      → Solid (observer types (reading u) N k names last g i)
  contract_solid None s lasts class names last g i ok f was mg ma me = nothing_solid nothing (λ p. refl)
  contract_solid (Some c) s lasts class names last g i ok f was mg ma me =
      let own_names = read_in types (reading u) N c.body names (part Observer i) in
      let own_last = last_in types (reading u) N c.body (since false (at Observer g)).past last in
      let K = classes_of c.body none_second (λ p. class (Observer ∷ p)) in
      let C = ContractAt types true fits s class c.body c.assume c.enforce in
      observer_solid (scope types (reading u) N c.body false names last (since false (at Observer g)) (part Observer i)) (said c.assume own_names own_last (at Assume g) (part Assume i)) (said c.enforce own_names own_last (at Enforce g) (part Enforce i))
      (same_solid (scope types (reading u) N c.body false names last (since false (at Observer g)) (part Observer i)) (part Observer i) (λ p. sym (mg p))
      (block_at_solid types u N among fits own_solid c.body s none_second lasts (λ p. class (Observer ∷ p)) f.0 names last false (since false (at Observer g)) (part Observer i) ok.0 f.1.1.0 (observer_past c.body c.assume c.enforce s class g.past was) mg))
      (same_solid (said c.assume own_names own_last (at Assume g) (part Assume i)) (part Assume i) (λ p. sym (ma p))
      (told_solid c.assume (inside s c.body) K (lasts_of c.body lasts) f.0 own_names own_last (at Assume g) (part Assume i) ok.1.0 f.1.1.1.1.0 (each_been C (ToldWas (inside s c.body) K c.assume) Assume g.past (λ j z. (z.0, z.1.1.1.1.0)) was) ma))
      (same_solid (said c.enforce own_names own_last (at Enforce g) (part Enforce i)) (part Enforce i) (λ p. sym (me p))
      (told_solid c.enforce (inside s c.body) K (lasts_of c.body lasts) f.0 own_names own_last (at Enforce g) (part Enforce i) ok.1.1 f.1.1.1.1.1 (each_been C (ToldWas (inside s c.body) K c.enforce) Enforce g.past (λ j z. (z.0, z.1.1.1.1.1)) was) me))

  observer_named : (k : Option Contract) (names last : Names) (g : Given) (i : Instant) (x : List ℕ) (s : Step) (p : Place) → observer types (reading u) N k names last g i (Named x ∷ s ∷ p) ≡ Absent
  observer_named None names last g i x s p = refl
  observer_named (Some c) names last g i x s p = refl

  observer_fresh : (k : Option Contract) (names last : Names) (g : Given) (i : Instant) (s : Step) (p : Place) → observer types (reading u) N k names last g i (Fresh ∷ s ∷ p) ≡ Absent
  observer_fresh None names last g i s p = refl
  observer_fresh (Some c) names last g i s p = refl

  pub whole_solid : (s : Scope) (class : Assignment) (n : Node) → NodeOk types among s class n → (inputs : List Value) (g : Given) (i : Instant) → AreOf types n.inputs inputs → AreOf types (controls_of n.contract) (given_to types (reading u) N (controls_of n.contract) (part Controls g.free))
      → NodeLoose types true fits s class n i → Each (NodeLoose types true fits s class n) g.past → ((p : Place) → i p ≡ node types (reading u) N n inputs g i p) → Solid i
  whole_solid s class n ok inputs g i vf cf f was m =
      let controls = given_to types (reading u) N (controls_of n.contract) (part Controls g.free) in
      let outer : Names = input_of n.inputs inputs (λ x. Absent) in
      let last : Names = lasts_said (constant_of types) n.outputs g.past (λ x. Absent) in
      let names : Names = λ x. if declares n.outputs x then i (Named x ∷ []) else outer x in
      let sb = with_variables (inside_node s n) (controls_of n.contract) in
      let B = BlockLoose types true fits sb none_second (λ p. class (Body ∷ p)) n.body in
      let L = NodeLoose types true fits s class n in
      let body = block_loose_solid types u N among fits own_solid n.body sb none_second (lasts_in n.outputs no_lasts) (λ p. class (Body ∷ p)) (input_of (controls_of n.contract) controls outer) last false (since false (at Body g)) (part Body i)
      ok.1.1.1.1.0 f.0.1 (own_all B (parts Body g.past) (each_been L B Body g.past (λ j z. z.0.1) was)) (λ p. m (Body ∷ p)) in
      node_solid i (λ x. if declares n.outputs x then i (Body ∷ Named x ∷ []) else Absent) inputs controls _ (observer types (reading u) N n.contract names last g i) m
      (λ x. not_star (declares n.outputs x) (i (Named x ∷ [])) (i (Body ∷ Named x ∷ [])) (body (Named x ∷ [])).0 (m (Named x ∷ [])))
      (values_solid types n.inputs inputs (part Inputs i) vf (λ p. m (Inputs ∷ p)))
      (values_solid types (controls_of n.contract) controls (part Controls i) cf (λ p. m (Controls ∷ p)))
      body
      (contract_solid n.contract (inside_node s n) (lasts_in n.outputs no_lasts) class names last g i ok.1.1.1.1.1 f.1 (each_as L (ContractLoose types true fits (inside_node s n) class n.contract) g.past (λ j z. z.1) was) (λ p. m (Observer ∷ p)) (λ p. m (Assume ∷ p)) (λ p. m (Enforce ∷ p)))
      (observer_named n.contract names last g i) (observer_fresh n.contract names last g i)
