-- The instance of a called node agrees with one without Nil.
use Rattle.std.proofs.Common.{◌≡◌, ℕ, List, [], ◌∷◌, refl, sym, ap, subst}
use Rattle.std.proofs.Math.Path.{fun_ext}
use Rattle.std.specs.Prelude.{Bool, true, false, if◌then◌else◌, Option, None}
use Rattle.std.specs.Str.{bytes_eq}
use Rattle.hp_base.specs.declared.ty.Const.{Const}
use Rattle.hp_base.specs.declared.value.Value.{Value}
use Rattle.hp_base.specs.declared.value.Value.TheVariants.{Absent}
use Rattle.hp_tree.specs.Blocks.{Decl}
use Rattle.hp_tree.specs.Programs.{TypeDecl, Node}
use Rattle.hp_tree.specs.Operators.{abstraction, constant_of, marked}
use Rattle.hp_tree.specs.Instant.{Inputs, Controls, Body, Named, Fresh, Observer, Assume, Enforce, Place, Instant, Given, nothing}
use Rattle.hp_tree.specs.Meaning.{Names, lasts as lasts_said, input_of, observer, no_nodes}
use Rattle.hp_tree.specs.Reaction.{Each}
use Rattle.hp_typing.specs.Scopes.{inside_node}
use Rattle.law_judged.specs.Typed.Scopes.{Scope}
use Rattle.hp_init.specs.Classes.{Assignment}
use Rattle.hp_meaning.specs.Causal.Abstract.{given_outputs, contract_alone}
use Rattle.hp_meaning.specs.Causal.Causality.{Ranked}
use Rattle.hp_meaning.proofs.CausalLemmas.Fix.{Fixed}
use Rattle.law_values.specs.Valued.Judged.{no_lasts, lasts_in, PlainContract}
use Rattle.law_values.proofs.ValuedLemmas.Both.{NodeOk}
use Rattle.law_games.proofs.SettledLemmas.Calling.{ContractCalls}
use Rattle.law_values.specs.Filled.Firsts.{NodeHasFirsts}
use Rattle.law_values.proofs.FilledLemmas.FirstsFit.{as_given}
use Rattle.law_values.proofs.FilledLemmas.ClocksFirst.{NodeClocks}
use Rattle.law_games.specs.Wires.Wired.{filled_abstraction}
use Rattle.law_games.specs.Wires.WiredCallees.{alone_in}
use Rattle.law_games.proofs.MirrorLemmas.FilledOne.{contract_local}
use Rattle.law_games.specs.Abstracted.Fitting.{OutputsFit}
use Rattle.law_games.specs.Abstracted.Instances.{none_fits, any_given, read_names, InstanceFits, InstanceGiven}
use Rattle.law_games.specs.Abstracted.SameGiven.{SameGiven}
use Rattle.law_games.proofs.AbstractedLemmas.Loosen.{contract_loose}
use Rattle.law_games.proofs.AbstractedLemmas.NodeContract.{each_as}
use Rattle.law_games.proofs.AbstractedLemmas.OkAlone.{no_node, contract_alone_ok}
use Rattle.law_games.proofs.AbstractedLemmas.Marked.{Marks, Agree, AllAgree, PastsAgree, to_none, past_part}
use Rattle.law_games.proofs.AbstractedLemmas.Expressions.{Solved, Callees, HaveFirsts}
use Rattle.law_games.proofs.AbstractedLemmas.Names.{Same}
use Rattle.law_games.proofs.AbstractedLemmas.Nodes.{firsts_node, observer_mark, output_lasts, contract_agrees}
use Rattle.law_games.proofs.AbstractedLemmas.Reached.{ends_agree}

abbrev pub no_solved : Solved
no_solved f vs g = nothing

abbrev pub no_marks : List ℕ → Marks
no_marks f p = None

given_same : (ds : List Decl) (free other : Instant) (out : Names) (x : List ℕ) → SameGiven free other → given_outputs ds other out x ≡ given_outputs ds free out x
given_same [] free other out x h = refl
given_same (d ∷ ds) free other out x h = by (bytes_eq d.name x) (given_same ds free other out x h)
  where
    by : (b : Bool) → given_outputs ds other out x ≡ given_outputs ds free out x → (if b then marked (other (Named x ∷ [])) else given_outputs ds other out x) ≡ (if b then marked (free (Named x ∷ [])) else given_outputs ds free out x)
    by true e = ap marked (h (Named x ∷ []))
    by false e = e

module _ (types : List TypeDecl) where
  pub none_called : Callees types no_nodes no_solved no_node none_fits any_given no_marks
  none_called =
      record {
        firsts = λ f n e. absurd (cc);
        outputs = λ f n e. absurd (cc);
        gives = λ f n i e h. absurd h;
        fresh = λ f n inputs g i e. absurd (cc);
        named = λ f x. refl;
        word = λ f. refl;
        agree = λ f n inputs g g' i e cur past pasts gv cs h. absurd (cc);
      }

  -- the marks of an instance
  abbrev pub of_instance : Scope → Assignment → Node → Marks
  of_instance s class n p = observer_mark types no_nodes no_solved no_node none_fits any_given no_marks none_called (inside_node s n) class n.contract p

  module _ (among : List ℕ → Option Node) (s : Scope) (class : Assignment) (n : Node) (o : Ranked n) (plain : PlainContract n.contract) (ok : NodeOk types among s class n) (k : ContractCalls false n.contract) (ck : NodeClocks class n) (hf : NodeHasFirsts types n)
      (empty : s.variables ≡ []) where
    abbrev T : Marks
    T = of_instance s class n

    module _ (inputs : List Value) (g g' : Given) (i : Instant) (cur : InstanceFits types true s class n i) (past : Each (InstanceFits types true s class n) g.past) (pasts : PastsAgree types (of_instance s class n) g.past g'.past)
        (gv : InstanceGiven types false as_given s n g'.free) (cs : SameGiven g.free g'.free) (m : (p : Place) → i p ≡ contract_alone types n inputs g i p) where
      abbrev names : Names
      names = given_outputs n.outputs g.free (input_of n.inputs inputs (λ x. Absent))

      abbrev names' : Names
      names' = given_outputs n.outputs g'.free (input_of n.inputs inputs (λ x. Absent))

      abbrev last : Names
      last = lasts_said (λ (k : Const). marked (constant_of types k)) n.outputs g.past (λ x. Absent)

      abbrev last' : Names
      last' = lasts_said (λ (k : Const). marked (constant_of types k)) n.outputs g'.past (λ x. Absent)

      lasts_alike : (x : List ℕ) → Same (last x) (last' x)
      lasts_alike =
          output_lasts types no_nodes no_solved no_node none_fits any_given no_marks none_called (of_instance s class n) (λ x. refl) n.outputs g.past g'.past
          (each_as (InstanceFits types true s class n) (OutputsFit types n.outputs) g.past (λ j z. z.0) past) pasts

      outside : HaveFirsts types (inside_node s n)
      outside = firsts_node types no_node s n empty hf ok.0.0 ok.0.1

      contract : (z : Instant) → AllAgree types (of_instance s class n) i z
          → AllAgree types (of_instance s class n) (observer types abstraction no_nodes n.contract names last g i) (observer types filled_abstraction no_nodes n.contract names' last g' z)
      contract z here =
          contract_agrees types no_nodes no_solved no_node none_fits any_given no_marks none_called (inside_node s n) (lasts_in n.outputs no_lasts) class names names' last
          (λ x. to_none types (names x) (names' x) (given_same n.outputs g.free g'.free (input_of n.inputs inputs (λ x. Absent)) x cs)) outside (λ x. (lasts_alike x).1) g g' i z cs
          n.contract plain (contract_alone_ok types among n.contract (inside_node s n) (lasts_in n.outputs no_lasts) class k ok.1.1.1.1.1) ck.1 hf.contract
          (contract_loose types true none_fits n.contract (inside_node s n) class (read_names n i) i cur.1.1.1.1)
          (each_as (InstanceFits types true s class n) _ g.past (λ j z. contract_loose types true none_fits n.contract (inside_node s n) class (read_names n j) j z.1.1.1.1) past)
          (past_part types (of_instance s class n) Observer g.past g'.past pasts) (past_part types (of_instance s class n) Assume g.past g'.past pasts) (past_part types (of_instance s class n) Enforce g.past g'.past pasts)
          gv.1 (λ p. here (Observer ∷ p)) (λ p. m (Observer ∷ p)) (λ p. m (Assume ∷ p)) (λ p. m (Enforce ∷ p))

      parts_agree : (z : Instant) → AllAgree types (of_instance s class n) (observer types abstraction no_nodes n.contract names last g i) (observer types filled_abstraction no_nodes n.contract names' last' g' z)
          → (p : Place) → Agree types (of_instance s class n p) (contract_alone types n inputs g i p) (alone_in types n inputs g' z p)
      parts_agree z h (Named x ∷ []) = to_none types (contract_alone types n inputs g i (Named x ∷ [])) (alone_in types n inputs g' z (Named x ∷ [])) (given_same n.outputs g.free g'.free (λ y. Absent) x cs)
      parts_agree z h (Fresh ∷ []) = refl
      parts_agree z h (Inputs ∷ p) = to_none types (contract_alone types n inputs g i (Inputs ∷ p)) (alone_in types n inputs g' z (Inputs ∷ p)) refl
      parts_agree z h (Controls ∷ p) = to_none types (contract_alone types n inputs g i (Controls ∷ p)) (alone_in types n inputs g' z (Controls ∷ p)) refl
      parts_agree z h (Body ∷ p) = refl
      parts_agree z h (Observer ∷ p) = h (Observer ∷ p)
      parts_agree z h (Assume ∷ p) = h (Assume ∷ p)
      parts_agree z h (Enforce ∷ p) = h (Enforce ∷ p)
      parts_agree z h p = h p

      step : (z : Instant) → AllAgree types (of_instance s class n) i z → AllAgree types (of_instance s class n) i (alone_in types n inputs g' z)
      step z here p =
          subst (λ v. Agree types (of_instance s class n p) v (alone_in types n inputs g' z p)) (sym (m p))
          (parts_agree z
          (subst (λ l. AllAgree types (of_instance s class n) (observer types abstraction no_nodes n.contract names last g i) (observer types filled_abstraction no_nodes n.contract names' l g' z)) (sym (fun_ext (λ x. (lasts_alike x).0))) (contract z here)) p)

      pub instance_agrees : (j : Instant) → Fixed (alone_in types n inputs g') j → AllAgree types (of_instance s class n) i j
      instance_agrees j h = ends_agree types (of_instance s class n) i (alone_in types n inputs g') o.rank o.bound o.bounded (contract_local types n o inputs g') step j h
