-- The machines of nodes in order answer as the nodes do, also where their neighbouring cases are joined.
use Rattle.std.proofs.Common.{◌≡◌, ℕ, Bool, true, false, ◌||◌, List, [], ◌∷◌, map, if◌then◌else◌, refl, sym, ap, subst, ◌∙◌}
use Rattle.std.specs.Prelude.{reverse}
use Rattle.std.specs.List.{AllByRecursion}
use Rattle.std.specs.Str.{bytes_eq}
use Rattle.hp_base.specs.Kinds.{KindData, AreOfKinds}
use Rattle.hp_base.specs.declared.value.Value.{Value}
use Rattle.hp_obc.specs.Form.{has_name}
use Rattle.hp_obc.specs.Machines.{ObcType, Machine}
use Rattle.hp_obc.specs.Steps.{Names, Behaviour, Known, unknown, given, behaviour, known_behind, machine_behaviour}
use Rattle.hp_flat.specs.Equations.{Right, operator, register, called, FlatEqn}
use Rattle.hp_flat.specs.Nodes.{FlatNode}
use Rattle.law_equations.specs.Meaning.Reactions.{Answers}
use Rattle.hp_toobc.specs.Making.{machine_of}
use Rattle.hp_fuse.specs.Fusing.{fused_machine, fused_to}
use Rattle.hp_fuse.proofs.LevelLaws.{like, alike-fused}
use Rattle.law_equations.specs.Followed.Memories.{all_answered, AnswersAs, CalleeAnswers, CalleesAnswer}
use Rattle.law_equations.specs.Followed.Premises.{NodeForm}
use Rattle.law_equations.specs.Followed.Programs.{CallsAmong, CallsOnly, AreInOrder, IsAnswered, Answered, machines_of, file_of, ProgramLaw, FusedLaw, all_answers, ProgramRunLaw}
use Rattle.law_equations.proofs.FollowedLemmas.Naming.{same_name, its_name, each_map}
use Rattle.law_equations.proofs.FollowedLemmas.RunLaws.{outputs_law, answered_law}

or_true : (a : Bool) → (a || true) ≡ true
or_true true = refl
or_true false = refl

module _ (types : List ObcType) (answers : Answers) (takes : Names (List KindData)) where
  -- the machines that are known answer under some names
  abbrev AnswerAmong : Known → List (List ℕ) → Type 0
  AnswerAmong known earlier = (f : List ℕ) → has_name earlier f ≡ true → AnswersAs answers takes f (known f)

  callee_by : (known : Known) (earlier : List (List ℕ)) → AnswerAmong known earlier → (r : Right) → CallsAmong earlier r → CalleeAnswers known answers takes r
  callee_by known earlier by (operator op args) h = tt
  callee_by known earlier by (register first next) h = tt
  callee_by known earlier by (called f args) h = by f h

  one_node : (known : Known) (earlier : List (List ℕ)) (n : FlatNode) → NodeForm types n → CallsOnly earlier n.eqns → AnswerAmong known earlier → Answered answers takes n
      → AnswersAs answers takes n.name (behaviour types known (machine_of types n))
  one_node known earlier n form calls by is args before ks ks_before =
      let r : IsAnswered answers takes n args before = is args before ks ks_before in
      let callees : CalleesAnswer known answers takes n.eqns =
      each_map (λ (e : FlatEqn). CallsAmong earlier e.right) (λ (e : FlatEqn). CalleeAnswers known answers takes e.right) (λ e h. callee_by known earlier by e.right h) n.eqns calls in
      r.answer ∙ sym (outputs_law types known answers takes n form callees args before r.now r.past r.fit r.reaction)

  given_by : (d : Bool) (name f : List ℕ) (e : Bool) (b c : Behaviour) → bytes_eq name f ≡ d → AnswersAs answers takes name b → (e ≡ true → AnswersAs answers takes f c) → (d || e) ≡ true → AnswersAs answers takes f (if d then b else c)
  given_by true name f e b c q h g t = subst (λ z. AnswersAs answers takes z b) (same_name name f q) h
  given_by false name f e b c q h g t = g t

  abbrev names_behind : List FlatNode → List (List ℕ) → List (List ℕ)
  names_behind [] earlier = earlier
  names_behind (n ∷ ns) earlier = names_behind ns (n.name ∷ earlier)

  all_nodes : (ns : List FlatNode) (known : Known) (earlier : List (List ℕ)) → AreInOrder types earlier ns → AllByRecursion (Answered answers takes) ns → AnswerAmong known earlier
      → AnswerAmong (known_behind types (machines_of types ns) known) (names_behind ns earlier)
  all_nodes [] known earlier order is by = by
  all_nodes (n ∷ ns) known earlier order is by =
      let b : Behaviour = behaviour types known (machine_of types n) in
      all_nodes ns (given n.name b known) (n.name ∷ earlier) order.2 is.1
      (λ f t. given_by (bytes_eq n.name f) n.name f (has_name earlier f) b (known f) refl (one_node known earlier n order.0 order.1 by is.0) (by f) t)

  still_there : (ns : List FlatNode) (earlier : List (List ℕ)) (f : List ℕ) → has_name earlier f ≡ true → has_name (names_behind ns earlier) f ≡ true
  still_there [] earlier f h = h
  still_there (n ∷ ns) earlier f h = still_there ns (n.name ∷ earlier) f (ap (λ d. bytes_eq n.name f || d) h ∙ or_true (bytes_eq n.name f))

  each_there : (ns : List FlatNode) (earlier : List (List ℕ)) → AllByRecursion (λ (n : FlatNode). has_name (names_behind ns earlier) n.name ≡ true) ns
  each_there [] earlier = tt
  each_there (n ∷ ns) earlier = (still_there ns (n.name ∷ earlier) n.name (ap (λ d. d || has_name earlier n.name) (its_name n.name)), each_there ns (n.name ∷ earlier))

pub program_law : ProgramLaw
program_law types ns answers takes order is =
    let all : AnswerAmong types answers takes (known_behind types (machines_of types ns) unknown) (names_behind types answers takes ns []) = all_nodes types answers takes ns unknown [] order is (λ f t. absurd (cc)) in
    each_map (λ (n : FlatNode). has_name (names_behind types answers takes ns []) n.name ≡ true) (λ (n : FlatNode). AnswersAs answers takes n.name (machine_behaviour (file_of types (machines_of types ns)) n.name))
    (λ n t. all n.name t) ns (each_there types answers takes ns [])

-- ---- joined cases

fused-does : (types : List ObcType) (known : Known) (m : Machine) → behaviour types known (fused_machine m) ≡ behaviour types known m
fused-does types known m = (like m (fused_to 301 m.step) (alike-fused 301 m.step)).does types known

fused-behind : (types : List ObcType) (ms : List Machine) (known : Known) → known_behind types (map fused_machine ms) known ≡ known_behind types ms known
fused-behind types [] known = refl
fused-behind types (m ∷ ms) known =
    ap (λ b. known_behind types (map fused_machine ms) (given m.name b known)) (fused-does types known m) ∙ fused-behind types ms (given m.name (behaviour types known m) known)

pub fused_law : FusedLaw
fused_law types ms = fused-behind types ms unknown

-- ---- runs

as-answered : (answers : Answers) (takes : Names (List KindData)) (f : List ℕ) (b : Behaviour) → AnswersAs answers takes f b → (inputs : List (List Value)) → AllByRecursion (AreOfKinds (takes f)) inputs → all_answered b inputs ≡ all_answers (answers f) inputs
as-answered answers takes f b h [] ks = refl
as-answered answers takes f b h (inputs ∷ earlier) ks = λ i. sym (h inputs earlier ks.0 ks.1) i ∷ as-answered answers takes f b h earlier ks.1 i

pub program_run_law : ProgramRunLaw
program_run_law types ns answers takes order is =
    let o = file_of types (machines_of types ns) in
    let joined = file_of types (map fused_machine (machines_of types ns)) in
    each_map (λ (n : FlatNode). AnswersAs answers takes n.name (machine_behaviour o n.name))
    (λ (n : FlatNode). (inputs : List (List Value)) → AllByRecursion (AreOfKinds (takes n.name)) inputs → Rattle.hp_obc.specs.Steps.run (machine_behaviour joined n.name) (reverse inputs) ≡ reverse (all_answers (answers n.name) inputs))
    (λ n h inputs ks.
    ap (λ (known : Known). Rattle.hp_obc.specs.Steps.run (known n.name) (reverse inputs)) (fused_law types (machines_of types ns))
    ∙ answered_law (machine_behaviour o n.name) inputs ∙ ap reverse (as-answered answers takes n.name (machine_behaviour o n.name) h inputs ks))
    ns (program_law types ns answers takes order is)
