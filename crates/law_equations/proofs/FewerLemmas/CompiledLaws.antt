-- The machines of ranked nodes in order answer as the nodes do.
use Rattle.std.proofs.Common.{◌≡◌, ℕ, map, List, [], ◌∷◌, refl, sym, ap, subst, ◌∙◌}
use Rattle.std.specs.Prelude.{reverse}
use Rattle.std.specs.List.{AllByRecursion}
use Rattle.std.specs.List.Sorted.{IsPermutation}
use Rattle.hp_base.specs.Kinds.{KindData, AreOfKinds}
use Rattle.hp_base.specs.declared.value.Value.{Value}
use Rattle.hp_obc.specs.Machines.{ObcType, Machine}
use Rattle.hp_obc.specs.Steps.{Names, machine_behaviour, run}
use Rattle.hp_flat.specs.Equations.{FlatEqn}
use Rattle.hp_flat.specs.Nodes.{FlatNode}
use Rattle.law_equations.specs.Meaning.Instants.{Instant}
use Rattle.law_equations.specs.Meaning.Reactions.{Answers, Reaction, outputs_at}
use Rattle.law_equations.specs.Meaning.Fitting.{Fits}
use Rattle.law_equations.specs.Meaning.Scheduling.{IsInOrder}
use Rattle.hp_normal.specs.Retargeting.{with_eqns, retargeted}
use Rattle.hp_normal.specs.Substituting.{substituted}
use Rattle.hp_normal.specs.Choices.{simple}
use Rattle.hp_normal.specs.Normal.{normal}
use Rattle.hp_fuse.specs.Fusing.{fused_machine}
use Rattle.law_equations.specs.Followed.Premises.{NodeForm}
use Rattle.law_equations.specs.Followed.Programs.{CallsAmong, CallsOnly, AreInOrder, IsAnswered, Answered, machines_of, file_of, all_answers}
use Rattle.law_equations.proofs.FollowedLemmas.ProgramLaws.{program_run_law}
use Rattle.law_equations.specs.Fewer.Keeping.{Remains, KeepsReactions}
use Rattle.law_equations.specs.Fewer.Compiling.{FlatForm, AreFlatNodes, AreCompiled, CompiledLaw}
use Rattle.law_equations.proofs.FewerLemmas.OrderLaws.{each_moved}
use Rattle.law_equations.proofs.FewerLemmas.NormalLaws.{both-passed}
use Rattle.law_equations.proofs.FewerLemmas.RetargetForms.{retargeted-calls}
use Rattle.law_equations.proofs.FewerLemmas.SubstituteForms.{substituted-calls}
use Rattle.law_equations.proofs.FewerLemmas.SimpleForms.{simple-calls}
use Rattle.law_equations.proofs.FewerLemmas.PrunedForms.{pruned-calls}

first_of : {A : Type 0} (x y : A) (xs ys : List A) → x ∷ xs ≡ y ∷ ys → x ≡ y
first_of x y xs ys h = cc

-- ---- one node

module _ (answers : Answers) (takes : Names (List KindData)) where
  answered_by : (n k : FlatNode) → k.name ≡ n.name → (args : List Value) (earlier : List (List Value)) (a : IsAnswered answers takes n args earlier) (others : List Instant) → Reaction answers k (args ∷ earlier) others
      → AllByRecursion (Fits takes k) others → map (outputs_at k) others ≡ map (outputs_at n) (a.now ∷ a.past) → IsAnswered answers takes k args earlier
  answered_by n k name args earlier a [] r fits same = absurd r
  answered_by n k name args earlier a (now ∷ past) r fits same = record {
    now = now;
    past = past;
    reaction = r;
    fit = fits;
    answer = ap (λ x. answers x args earlier) name ∙ a.answer ∙ sym (first_of (outputs_at k now) (outputs_at n a.now) (map (outputs_at k) past) (map (outputs_at n) a.past) same);
  }

  -- what is answered by reactions of a node is answered by those of one in which they remain
  pub still-answered : (n k : FlatNode) → k.name ≡ n.name → KeepsReactions n k → Answered answers takes n → Answered answers takes k
  still-answered n k name keeps is args earlier ks before =
      let a : IsAnswered answers takes n args earlier =
      is args earlier (subst (λ x. AreOfKinds (takes x) args) name ks) (subst (λ x. AllByRecursion (AreOfKinds (takes x)) earlier) name before) in
      let q : Remains answers takes n k (args ∷ earlier) (a.now ∷ a.past) = keeps answers takes (args ∷ earlier) (a.now ∷ a.past) a.fit a.reaction in
      answered_by n k name args earlier a q.others q.reaction q.fit q.outputs

pub record NodePassed (types : List ObcType) (earlier : List (List ℕ)) (n k : FlatNode) : Type 0 where
  pub name : k.name ≡ n.name
  pub form : NodeForm types k
  pub calls : CallsOnly earlier k.eqns
  pub keeps : KeepsReactions n k

passed-eqns : (types : List ObcType) (earlier : List (List ℕ)) (n : FlatNode) (es : List FlatEqn) → FlatForm types n → IsPermutation n.eqns es → IsInOrder es → CallsOnly earlier n.eqns → NodePassed types earlier n (normal (with_eqns n es))
passed-eqns types earlier n es h p order calls =
    let both = both-passed types n h es p order in
    let m : FlatNode = with_eqns n es in
    let moved : CallsOnly earlier es = each_moved (λ (e : FlatEqn). CallsAmong earlier e.right) n.eqns es p calls in
    record {
      name = refl;
      form = both.0;
      calls =
          pruned-calls (retargeted (substituted (retargeted (simple m)))) earlier
          (retargeted-calls (substituted (retargeted (simple m))) earlier (substituted-calls (retargeted (simple m)) earlier (retargeted-calls (simple m) earlier (simple-calls m earlier moved))));
      keeps = both.1;
    }

-- ---- nodes in order

-- the nodes of which machines are made
abbrev sources : (types : List ObcType) (ns : List FlatNode) (ms : List Machine) → AreCompiled types ns ms → List FlatNode
sources types [] [] h = []
sources types (n ∷ ns) (m ∷ ms) h = normal (with_eqns n h.0.scheduled) ∷ sources types ns ms h.1
sources types [] (m ∷ ms) h = []
sources types (n ∷ ns) [] h = []

machines_are : (types : List ObcType) (ns : List FlatNode) (ms : List Machine) (h : AreCompiled types ns ms) → ms ≡ map fused_machine (machines_of types (sources types ns ms h))
machines_are types [] [] h = refl
machines_are types [] (m ∷ ms) h = absurd h
machines_are types (n ∷ ns) [] h = absurd h
machines_are types (n ∷ ns) (m ∷ ms) h = λ i. h.0.made i ∷ machines_are types ns ms h.1 i

module _ (types : List ObcType) (answers : Answers) (takes : Names (List KindData)) where
  in_order : (earlier : List (List ℕ)) (ns : List FlatNode) (ms : List Machine) → AreFlatNodes types earlier ns → (h : AreCompiled types ns ms) → AreInOrder types earlier (sources types ns ms h)
  in_order earlier [] [] f h = tt
  in_order earlier [] (m ∷ ms) f h = absurd h
  in_order earlier (n ∷ ns) [] f h = absurd h
  in_order earlier (n ∷ ns) (m ∷ ms) f h =
      let one : NodePassed types earlier n (normal (with_eqns n h.0.scheduled)) = passed-eqns types earlier n h.0.scheduled f.0 h.0.same h.0.order f.1 in
      (one.form, one.calls, in_order (n.name ∷ earlier) ns ms f.2 h.1)

  all_answered : (earlier : List (List ℕ)) (ns : List FlatNode) (ms : List Machine) → AreFlatNodes types earlier ns → (h : AreCompiled types ns ms) → AllByRecursion (Answered answers takes) ns → AllByRecursion (Answered answers takes) (sources types ns ms h)
  all_answered earlier [] [] f h is = tt
  all_answered earlier [] (m ∷ ms) f h is = absurd h
  all_answered earlier (n ∷ ns) [] f h is = absurd h
  all_answered earlier (n ∷ ns) (m ∷ ms) f h is =
      let one : NodePassed types earlier n (normal (with_eqns n h.0.scheduled)) = passed-eqns types earlier n h.0.scheduled f.0 h.0.same h.0.order f.1 in
      (still-answered answers takes n (normal (with_eqns n h.0.scheduled)) refl one.keeps is.0, all_answered (n.name ∷ earlier) ns ms f.2 h.1 is.1)

  -- what holds of the nodes that are made holds of those they are made of, by name
  by_names : (P : List ℕ → Type 0) (ns : List FlatNode) (ms : List Machine) (h : AreCompiled types ns ms) → AllByRecursion (λ (k : FlatNode). P k.name) (sources types ns ms h) → AllByRecursion (λ (n : FlatNode). P n.name) ns
  by_names P [] [] h all = tt
  by_names P [] (m ∷ ms) h all = absurd h
  by_names P (n ∷ ns) [] h all = absurd h
  by_names P (n ∷ ns) (m ∷ ms) h all = (all.0, by_names P ns ms h.1 all.1)

pub compiled_law : CompiledLaw
compiled_law types ns ms answers takes f h is =
    by_names types answers takes
    (λ x. (inputs : List (List Value)) → AllByRecursion (AreOfKinds (takes x)) inputs → run (machine_behaviour (file_of types ms) x) (reverse inputs) ≡ reverse (all_answers (answers x) inputs)) ns ms h
    (subst
    (λ (ks : List Machine). AllByRecursion (λ (k : FlatNode). (inputs : List (List Value)) → AllByRecursion (AreOfKinds (takes k.name)) inputs
    → run (machine_behaviour (file_of types ks) k.name) (reverse inputs) ≡ reverse (all_answers (answers k.name) inputs)) (sources types ns ms h))
    (sym (machines_are types ns ms h))
    (program_run_law types (sources types ns ms h) answers takes (in_order types answers takes [] ns ms f h) (all_answered types answers takes [] ns ms f h is)))
