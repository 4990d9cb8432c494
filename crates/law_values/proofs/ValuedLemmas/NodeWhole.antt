-- All places of a node fit: its outputs, its body and its contract.
use Rattle.std.proofs.Common.{◌≡◌, ℕ, ◌<◌, List, [], ◌∷◌, refl, sym, subst, inl}
use Rattle.std.specs.Prelude.{Bool, true, false, ◌||◌, IsTrue, IsFalse, if◌then◌else◌, Option, None, Some}
use Rattle.hp_base.specs.declared.ty.Ty.{Ty}
use Rattle.hp_base.specs.declared.value.Value.{Value}
use Rattle.hp_base.specs.declared.value.Value.TheVariants.{Absent}
use Rattle.hp_tree.specs.Expressions.{Expr}
use Rattle.hp_tree.specs.Blocks.{Block, block}
use Rattle.hp_tree.specs.Programs.{TypeDecl, Contract, Node}
use Rattle.hp_tree.specs.Operators.{constant_of}
use Rattle.hp_tree.specs.Instant.{Inputs, Body, Named, Observer, Assume, Enforce, Place, Instant, Given, at, part, since}
use Rattle.hp_tree.specs.Meaning.{Names, Nodes, declares, lasts as lasts_said, input_of, scope, observer, node, read_in, last_in}
use Rattle.hp_typing.specs.Scopes.{inside, inside_node}
use Rattle.hp_tree.specs.Values.{IsOf, AreOf}
use Rattle.hp_init.specs.Classes.{Assignment}
use Rattle.law_values.specs.Valued.Judged.{Lasts, no_lasts, lasts_in, lasts_of, IsPlain, PlainContract}
use Rattle.law_values.specs.Valued.Classed.{none_second, classes_of}
use Rattle.law_values.proofs.ValuedLemmas.Both.{BlockOk, ToldOk, ContractOk, NodeOk}
use Rattle.law_values.specs.Valued.Fitting.{ContractAt as ContractStands, ContractFits, NodeFits, HasValue, OutputsFit}
use Rattle.law_values.proofs.ValuedLemmas.Loose.{ContractAt, ContractLoose, NodeLoose}
use Rattle.law_values.proofs.ValuedLemmas.Laws.{value_of, or_either, not_both}
use Rattle.hp_tree.specs.Reaction.{Each}
use Rattle.hp_base.specs.Known.Known.{lookup}
use Rattle.law_judged.specs.Typed.Scopes.{Scope}
use Rattle.hp_meaning.specs.Causal.Sources.{only, Within, NameSources, below}
use Rattle.hp_meaning.specs.Causal.WhatIsRead.{has_equation, in_block, in_contract, output_in}
use Rattle.hp_meaning.specs.Causal.Causality.{Ranked}
use Rattle.hp_meaning.specs.Causal.Clocked.{Standing, on_base, standing_of, BlockRight, TellsOnBase, ContractRight, ClocksRight}
use Rattle.law_values.specs.Valued.Given.{reading, BlockGiven, ToldGiven, ContractGiven, NodeGiven}
use Rattle.law_values.proofs.ValuedLemmas.ExprTops.{Callees}
use Rattle.law_values.proofs.ValuedLemmas.Gives.{HasLasts}
use Rattle.law_values.proofs.ValuedLemmas.BlockAll.{told}
use Rattle.law_values.proofs.ValuedLemmas.Loosen.{node_loose}
use Rattle.law_values.proofs.ValuedLemmas.NodeBody.{row_is, node_body, input_is, output_at, previous_output, last_output}
use Rattle.law_values.proofs.ValuedLemmas.NodeContract.{contract_at, each_as}

based : (d : Bool) → on_base d ≡ Some [] → IsTrue d
based true e = refl
based false e = absurd (cc)

module _ (types : List TypeDecl) (nils : Bool) (u : Value → Value) (N : Nodes) (among : List ℕ → Option Node) (fits given : List ℕ → Instant → Type 0) (known : Callees types nils (reading u) N among fits given) where
  module _ (sc : Scope) (st : Standing) (lasts : Lasts) (class : Assignment) (names last : Names) (rank : Place → ℕ) (nsrc : NameSources) (g : Given) (now : Instant) (hl : HasLasts types sc lasts last) where
    abbrev OuterOf : Block → Type 0
    OuterOf b = (x : List ℕ) (t : Ty) (d : Bool) → IsFalse (has_equation b x) → st x ≡ Some [] → lookup sc.variables x ≡ Some t → HasValue types t d (names x)

    contract_by : (b : Block) (assume enforce : Option Expr) → IsPlain b → BlockRight st b → TellsOnBase (standing_of b st) assume → TellsOnBase (standing_of b st) enforce → BlockOk types among sc none_second lasts (λ p. class (Observer ∷ p)) b → ToldOk types among (inside sc b) (classes_of b none_second (λ p. class (Observer ∷ p))) (lasts_of b lasts) assume → ToldOk types among (inside sc b) (classes_of b none_second (λ p. class (Observer ∷ p))) (lasts_of b lasts) enforce → BlockGiven types nils u given sc b (part Observer g.free) → ToldGiven types nils u given (inside sc b) assume (part Assume g.free) → ToldGiven types nils u given (inside sc b) enforce (part Enforce g.free) → Each (ContractAt types nils fits sc class b assume enforce) g.past → OuterOf b → ((p : Place) → Within (λ q. rank q < rank (Observer ∷ p)) (in_block b nsrc (λ q. only (Observer ∷ q)) p)) → ((p : Place) → now (Observer ∷ p) ≡ scope types (reading u) N b false names last (since false (at Observer g)) (part Observer now) p) → ((p : Place) → now (Assume ∷ p) ≡ told types nils u N among fits given known assume (read_in types (reading u) N b names (part Observer now)) (last_in types (reading u) N b (since false (at Observer g)).past last) (at Assume g) (part Assume now) p) → ((p : Place) → now (Enforce ∷ p) ≡ told types nils u N among fits given known enforce (read_in types (reading u) N b names (part Observer now)) (last_in types (reading u) N b (since false (at Observer g)).past last) (at Enforce g) (part Enforce now) p) → ContractStands types nils fits sc class names b assume enforce now
    contract_by (block ds es) assume enforce low on ona one ok oka oke gv gva gve past outer falls m ma me =
        contract_at types nils u N among fits given known sc st lasts class names last rank nsrc ds es assume enforce g now low on ona one ok oka oke gv gva gve past outer hl falls m ma me

    contract_of : (k : Option Contract) → PlainContract k → ContractRight st k → ContractOk types among sc lasts class k → ContractGiven types nils u given sc k g.free → Each (ContractLoose types nils fits sc class k) g.past → ((b : Block) → OuterOf b) → ((p : Place) → Within (λ q. rank q < rank (Observer ∷ p)) (in_contract k nsrc only (Observer ∷ p))) → ((p : Place) → now (Observer ∷ p) ≡ observer types (reading u) N k names last g now (Observer ∷ p)) → ((p : Place) → now (Assume ∷ p) ≡ observer types (reading u) N k names last g now (Assume ∷ p)) → ((p : Place) → now (Enforce ∷ p) ≡ observer types (reading u) N k names last g now (Enforce ∷ p)) → ContractFits types nils fits sc class names k now
    contract_of None low on ok gv past outer falls m ma me = tt
    contract_of (Some c) low on ok gv past outer falls m ma me =
        contract_by c.body c.assume c.enforce low on.0 on.1 on.2 ok.0 ok.1.0 ok.1.1 gv.0 gv.1.0 gv.1.1 past (outer c.body) falls m ma me

  pub node_whole : (s : Scope) (class : Assignment) (n : Node) → Ranked n → ClocksRight n → IsPlain n.body → PlainContract n.contract → NodeOk types among s class n → (inputs : List Value) (g : Given) (now : Instant) → AreOf types n.inputs inputs → NodeGiven types nils u given s n g.free → Each (NodeFits types nils fits s class n) g.past → ((p : Place) → now p ≡ node types (reading u) N n inputs g now p) → NodeFits types nils fits s class n now
  node_whole s class n o right low lowc ok inputs g now vf gv whole m =
      let past = each_as (NodeFits types nils fits s class n) (NodeLoose types nils fits s class n) g.past (λ i z. node_loose types nils fits s class n i z) whole in
      let bodies = each_as (NodeLoose types nils fits s class n) _ g.past (λ i z. z.0) past in
      let body = node_body types nils u N among fits given known s class n o right low ok inputs g now vf gv.0 bodies m in
      let sc = inside_node s n in
      let outer : Names = input_of n.inputs inputs (λ x. Absent) in
      let names : Names = λ x. if declares n.outputs x then now (Named x ∷ []) else outer x in
      let last : Names = lasts_said (constant_of types) n.outputs g.past (λ x. Absent) in
      let lasts : Lasts = lasts_in n.outputs no_lasts in
      let st : Standing = λ x. on_base (declares n.inputs x || declares n.outputs x) in
      let hl : HasLasts types sc lasts last = λ x h. last_output types nils u N among fits given known sc n.body x g.past n.outputs ok.0.1 ok.1.1.1.0 (λ z t l v k. previous_output types nils u N among fits given known s class n sc x t g.past ok.0.1 bodies z l v k) h in (
        body,
        subst (λ vs. ContractFits types nils fits sc class (λ x. if declares n.outputs x then now (Named x ∷ []) else input_of n.inputs vs (λ y. Absent) x) n.contract now) (sym (row_is types n.inputs inputs (part Inputs now) vf (λ p. m (Inputs ∷ p))))
            (contract_of sc st lasts class names last o.rank (output_in n (below Body only)) g now hl n.contract lowc right.contract ok.1.1.1.1.1 gv.1 (each_as (NodeLoose types nils fits s class n) _ g.past (λ i z. z.1) past)
            (λ b x t d f e l. value_of types t d (names x) (named x t (declares n.outputs x) refl e l body.0)) (λ p. o.falls (Observer ∷ p)) (λ p. m (Observer ∷ p)) (λ p. m (Assume ∷ p)) (λ p. m (Enforce ∷ p))),
      )
    where
      named : (x : List ℕ) (t : Ty) (d : Bool) → declares n.outputs x ≡ d → on_base (declares n.inputs x || declares n.outputs x) ≡ Some [] → lookup (inside_node s n).variables x ≡ Some t → OutputsFit types n.outputs now → IsOf types t (if d then now (Named x ∷ []) else input_of n.inputs inputs (λ x. Absent) x)
      named x t true q e l out = output_at types nils u N among fits given known (inside_node s n) n.outputs now x t ok.0.1 out q l
      named x t false q e l out =
          input_is types nils u N among fits given known (inside_node s n) n.inputs inputs (λ x. Absent) x t ok.0.0 vf l
          (or_either (declares n.inputs x) (declares n.outputs x) (based _ e) (λ h. inl h) (λ h. not_both (declares n.outputs x) h q))
