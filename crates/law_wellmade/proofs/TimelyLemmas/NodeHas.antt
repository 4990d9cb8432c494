-- All that is read in the body of a node without automata fits, at each instant of its reactions.
use Rattle.std.proofs.Common.{◌≡◌, ℕ, zero, suc, ◌<◌, List, [], ◌∷◌, refl, subst, ◌∙◌, inl, inr, arith}
use Rattle.std.specs.Prelude.{Bool, true, false, ◌||◌, IsTrue, IsFalse, if◌then◌else◌, Option, Some}
use Rattle.hp_base.specs.declared.ty.Ty.{Ty}
use Rattle.hp_base.specs.declared.value.Value.{Value}
use Rattle.hp_base.specs.declared.value.Value.TheVariants.{Absent}
use Rattle.hp_tree.specs.Blocks.{Decl, Block, block}
use Rattle.hp_tree.specs.Programs.{TypeDecl, Node}
use Rattle.hp_tree.specs.Operators.{filled}
use Rattle.hp_tree.specs.Values.{IsOf, AreOf}
use Rattle.hp_tree.specs.Instant.{Controls, Body, Named, Place, Instant, Past, Given, part}
use Rattle.hp_tree.specs.Meaning.{Names, Nodes, declares, some_defines, block_defines, previous, input_of, node, controls_of}
use Rattle.hp_tree.specs.Reaction.{Each}
use Rattle.hp_base.specs.Known.Known.{lookup}
use Rattle.hp_typing.specs.Scopes.{with_variables, inside_node}
use Rattle.law_judged.specs.Typed.Scopes.{Scope as Known}
use Rattle.hp_init.specs.Classes.{Assignment}
use Rattle.hp_meaning.specs.Causal.Sources.{only, below}
use Rattle.hp_meaning.specs.Causal.WhatIsRead.{control_in, has_equation}
use Rattle.hp_meaning.specs.Causal.Causality.{sources, Ranked}
use Rattle.hp_meaning.specs.Causal.Clocked.{Standing, on_base, ClocksRight}
use Rattle.law_equations.specs.Flattened.Flat.{Now, Behaviours, since}
use Rattle.law_equations.specs.Flattened.Flatten.{FlatName, Input, Nowhere, always, node_scope}
use Rattle.law_equations.specs.Flattened.Lifted.{Reacts, lifted, inputs_of, lifts, in_body, node_lasts}
use Rattle.law_equations.proofs.FlattenedLemmas.PastLaws.{seen, view}
use Rattle.law_equations.proofs.FlattenedLemmas.ExpressionLaws.{if_true, given}
use Rattle.law_equations.proofs.FlattenedLemmas.BlockLaws.{last_at}
use Rattle.law_equations.proofs.FlattenedLemmas.NodeLaws.{remembers, body_live}
use Rattle.law_values.specs.Valued.Judged.{Lasts, no_lasts, lasts_in, IsPlain, PlainContract}
use Rattle.law_values.specs.Valued.Classed.{none_second}
use Rattle.law_values.specs.Valued.Fitting.{HasValue, NodeFits}
use Rattle.law_values.specs.Valued.Given.{reading, NodeGiven}
use Rattle.law_values.proofs.ValuedLemmas.Both.{HaveEquations, NodeOk}
use Rattle.law_values.proofs.ValuedLemmas.Loose.{BlockLoose}
use Rattle.law_values.proofs.ValuedLemmas.Loosen.{node_loose}
use Rattle.law_values.proofs.ValuedLemmas.Laws.{and_left, or_left, or_right, or_either, not_both, value_of}
use Rattle.law_values.proofs.ValuedLemmas.ExprTops.{Callees}
use Rattle.law_values.proofs.ValuedLemmas.Gives.{block_asks, HasLasts}
use Rattle.law_values.proofs.ValuedLemmas.BlockNames.{block_step}
use Rattle.law_values.proofs.ValuedLemmas.NodeBody.{within_more, input_is, controls_fit, output_at, last_output}
use Rattle.law_values.proofs.ValuedLemmas.NodeWhole.{node_whole}
use Rattle.law_wellmade.specs.Timely.Actual.{BlockHas}
use Rattle.law_wellmade.proofs.TimelyLemmas.Actual.{first, block_has}
use Rattle.std.specs.Str.{bytes_eq}
use Rattle.std.proofs.lemmas.Slice.Eq.{bytes_eq-Decides}

based : (d : Bool) → on_base d ≡ Some [] → IsTrue d
based true e = refl
based false e = absurd (cc)

module _ (types : List TypeDecl) (N : Nodes) (among : List ℕ → Option Node) (fits allowed : List ℕ → Instant → Type 0) (known : Callees types false (reading first) N among fits allowed) (does : Behaviours) (fill : Place → Value) where
  has_equations : (b : Block) (x : List ℕ) (ds : List Decl) → HaveEquations types among b ds → IsTrue (declares ds x) → IsTrue (block_defines b x)
  has_equations b x [] q h = absurd (cc)
  has_equations b x (d ∷ ds) q h = or_either (bytes_eq d.name x) (declares ds x) h (λ e. subst (λ z. IsTrue (block_defines b z)) ((bytes_eq-Decides d.name x).0 e) q.0.0) (λ e. has_equations b x ds q.1 e)

  defined_here : (b : Block) (x : List ℕ) → IsTrue (block_defines b x) → IsTrue (has_equation b x)
  defined_here (block ds es) x h = and_left (some_defines es x) _ h

  module _ (s : Known) (class : Assignment) (n : Node) (o : Ranked n) (right : ClocksRight n) (low : IsPlain n.body) (lowc : PlainContract n.contract) (ok : NodeOk types among s class n) where
    abbrev pub sb : Known
    sb = with_variables (inside_node s n) (controls_of n.contract)

    abbrev pub st : Standing
    st x = on_base (declares n.inputs x || (declares n.outputs x || declares (controls_of n.contract) x))

    abbrev pub lasts : Lasts
    lasts = lasts_in n.outputs no_lasts

    abbrev Said : List Value → Given → Instant → Instant
    Said inputs g now = node types filled N n inputs g now

    -- each instant fits, as far as law_values::valued says it
    pub all_whole : (inputs : List (List Value)) (frees : List Instant) (past : Past) → Reacts Said inputs frees past → Each (AreOf types n.inputs) inputs → Each (NodeGiven types false first allowed s n) frees → Each (NodeFits types false fits s class n) past
    all_whole [] [] [] r v gv = tt
    all_whole (vs ∷ inputs) (free ∷ frees) (now ∷ past) r v gv =
        let before = all_whole inputs frees past r.0 v.1 gv.1 in
        (node_whole types false first N among fits allowed known s class n o right low lowc ok vs (record { past = past; free = free }) now v.0 gv.0 before r.1, before)
    all_whole [] [] (now ∷ past) r v gv = absurd r
    all_whole [] (free ∷ frees) past r v gv = absurd r
    all_whole (vs ∷ inputs) [] past r v gv = absurd r
    all_whole (vs ∷ inputs) (free ∷ frees) [] r v gv = absurd r

    -- ---- the past of the body

    body_past : (inputs : List (List Value)) (frees : List Instant) (past : Past) → Reacts Said inputs frees past → Each (NodeFits types false fits s class n) past → Each (BlockLoose types false fits sb none_second (λ p. class (Body ∷ p)) n.body) (view in_body (since [] [] (lifts n inputs frees past)))
    body_past [] [] [] r w = tt
    body_past (vs ∷ inputs) (free ∷ frees) (now ∷ past) r w = ((node_loose types false fits s class n now w.0).0.1, body_past inputs frees past r.0 w.1)
    body_past [] [] (now ∷ past) r w = absurd r
    body_past [] (free ∷ frees) past r w = absurd r
    body_past (vs ∷ inputs) [] past r w = absurd r
    body_past (vs ∷ inputs) (free ∷ frees) [] r w = absurd r

    pub output_is : (vs : List Value) (g : Given) (now : Instant) (x : List ℕ) (t : Ty) → ((p : Place) → now p ≡ Said vs g now p) → NodeFits types false fits s class n now → IsTrue (declares n.outputs x) → lookup sb.variables x ≡ Some t → IsOf types t (now (Body ∷ Named x ∷ []))
    output_is vs g now x t m w h l =
        subst (λ v. IsOf types t v) (m (Named x ∷ []) ∙ if_true (declares n.outputs x) (now (Body ∷ Named x ∷ [])) Absent h)
        (output_at types false first N among fits allowed known sb n.outputs now x t ok.1.0.1 w.0.0 h l)

    previous_is : (inputs : List (List Value)) (frees : List Instant) (past : Past) → Reacts Said inputs frees past → Each (NodeFits types false fits s class n) past → (x : List ℕ) (t : Ty) → IsTrue (declares n.outputs x) → lookup sb.variables x ≡ Some t → (v : Value) → IsOf types t v → IsOf types t (previous (view in_body (since [] [] (lifts n inputs frees past))) x v)
    previous_is [] [] [] r w x t h l v k = k
    previous_is (vs ∷ inputs) (free ∷ frees) (now ∷ past) r w x t h l v k = output_is vs (record { past = past; free = free }) now x t r.1 w.0 h l
    previous_is [] [] (now ∷ past) r w x t h l v k = absurd r
    previous_is [] (free ∷ frees) past r w x t h l v k = absurd r
    previous_is (vs ∷ inputs) [] past r w x t h l v k = absurd r
    previous_is (vs ∷ inputs) (free ∷ frees) [] r w x t h l v k = absurd r

    -- ---- an instant

    module _ (vs : List Value) (free now : Instant) (inputs : List (List Value)) (frees : List Instant) (past : Past) (r : Reacts Said inputs frees past) (m : (p : Place) → now p ≡ Said vs (record { past = past; free = free }) now p) (vf : AreOf types n.inputs vs) (gv : NodeGiven types false first allowed s n free) (whole : Each (NodeFits types false fits s class n) past) where
      abbrev G : List (Now FlatName)
      G = lifts n inputs frees past

      abbrev j : Now FlatName
      j = lifted G (inputs_of n vs free) free now

      abbrev names : Names
      names x = j (node_scope n x)

      abbrev last : Names
      last x = j (node_lasts types n x)

      abbrev g : Given
      g = given in_body always [] G j

      pub has_lasts : HasLasts types sb lasts last
      has_lasts x h =
          let q = last_output types false first N among fits allowed known sb n.body x (view in_body (since [] [] G)) n.outputs ok.1.0.1 ok.1.1.1.0 (λ z t l v k. previous_is inputs frees past r whole x t z l v k) h in
          (q.0, (q.1.0, subst (λ v. IsOf types q.0 v) (last_at types n.outputs (λ x. Nowhere) in_body always [] G j (remembers G (inputs_of n vs free) free now) refl x) q.1.1))

      pub input_here : (x : List ℕ) (t : Ty) → IsTrue (declares n.inputs x || declares (controls_of n.contract) x) → lookup sb.variables x ≡ Some t → IsOf types t (inputs_of n vs free x)
      input_here x t h l =
          input_is types false first N among fits allowed known sb (controls_of n.contract) _ (input_of n.inputs vs (λ x. Absent)) x t ok.1.1.0 (controls_fit types false first N among fits allowed known (controls_of n.contract) (part Controls free) gv.0.0) l
          (or_either (declares n.inputs x) (declares (controls_of n.contract) x) h
          (λ z. inr (input_is types false first N among fits allowed known sb n.inputs vs (λ x. Absent) x t ok.1.0.0 vf l (inl z)))
          (λ z. inl z))

      read_here : (d : Bool) (x : List ℕ) (t : Ty) → IsTrue d → IsOf types t (inputs_of n vs free x) → IsOf types t (j (if d then Input x else Nowhere))
      read_here true x t h k = k
      read_here false x t h k = absurd (cc)

      outer : (x : List ℕ) (t : Ty) (d : Bool) → IsFalse (has_equation n.body x) → st x ≡ Some [] → lookup sb.variables x ≡ Some t → HasValue types t d (names x)
      outer x t d f e l =
          let declared : IsTrue (declares n.inputs x || declares (controls_of n.contract) x) =
          or_either (declares n.inputs x) (declares n.outputs x || declares (controls_of n.contract) x) (based _ e)
          (λ h. or_left (declares n.inputs x) (declares (controls_of n.contract) x) h)
          (λ h. or_either (declares n.outputs x) (declares (controls_of n.contract) x) h
          (λ z. not_both (has_equation n.body x) (defined_here n.body x (has_equations n.body x n.outputs ok.1.1.1.0 z)) f)
          (λ z. or_right (declares n.inputs x) (declares (controls_of n.contract) x) z)) in
          value_of types t d (names x) (read_here (declares n.inputs x || declares (controls_of n.contract) x) x t declared (input_here x t declared l))

      abbrev Asks : Place → Type 0
      Asks p = block_asks types false fits n.body sb (λ q. class (Body ∷ q)) names last g (seen in_body j) p (now (Body ∷ p))

      below_rank : (k : ℕ) (p : Place) → o.rank (Body ∷ p) < k → Asks p
      below_rank zero p h = absurd (omega arith)
      below_rank (suc k) p h =
          block_step (λ q. o.rank q < o.rank (Body ∷ p)) types false first N among fits allowed known n.body sb st none_second lasts (λ q. class (Body ∷ q)) (control_in (controls_of n.contract) (below Controls only)) (below Body only) names last false g (seen in_body j) low right.body ok.1.1.1.1.0 gv.0.1 (body_past inputs frees past r whole)
          (λ x t f e l w. outer x t _ f e l) has_lasts (λ q. (body_live types N does fill n vs free now inputs frees past r m).0 refl q)
          (λ q w. within_more (λ z. o.rank z < o.rank (Body ∷ q)) (λ z. o.rank z < o.rank (Body ∷ p)) (λ z y. omega arith) (sources n (Body ∷ q)) (o.falls (Body ∷ q)))
          (λ q w. below_rank k q (omega arith))
          p (o.falls (Body ∷ p))

      asked : (p : Place) → Asks p
      asked p = below_rank (suc (o.rank (Body ∷ p))) p (omega arith)

      pub body_has : BlockHas types fits sb st none_second lasts (λ q. class (Body ∷ q)) names last g n.body (seen in_body j)
      body_has =
          block_has types N among fits allowed known n.body sb st none_second lasts (λ q. class (Body ∷ q)) names last false g (seen in_body j) low right.body ok.1.1.1.1.0 gv.0.1 (body_past inputs frees past r whole)
          (λ x t f e l w. outer x t _ f e l) has_lasts (λ q. (body_live types N does fill n vs free now inputs frees past r m).0 refl q) asked
