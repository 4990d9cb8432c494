-- The names of observers are in their scopes, and each is defined once; so without automata they are whole.
use Rattle.std.proofs.Common.{arith, ◌≡◌, ◌⊎◌, inl, inr, ⊎_elim, ℕ, ◌+◌, ◌<◌, ◌≤◌, true, false, ◌||◌, List, [], ◌∷◌, ◌++◌, length, refl, sym, ap, ap₂, subst, ◌∙◌}
use Rattle.std.specs.Prelude.{IsTrue, codes, decimal, Some}
use Rattle.std.specs.Str.{bytes_eq}
use Rattle.std.proofs.lemmas.Fmt.{decimal_injective}
use Rattle.std.proofs.lemmas.List.{append_cancel_left}
use Rattle.hp_base.specs.declared.span.Span.{Span}
use Rattle.hp_tree.specs.Blocks.{Decl, Block, block, Eqns, no_eqn, more_eqns, Eqn, define, switch, reset, automaton, Arms, no_arm, more_arms, States, no_state, more_states, eqns_of, list_of_eqns}
use Rattle.hp_tree.specs.Programs.{Contract, Node}
use Rattle.hp_tree.specs.Meaning.{declares, some_defines}
use Rattle.hp_meaning.specs.Clocking.Clocking.{AreOnce, AreDefined}
use Rattle.law_judged.specs.Named.Scoped.{Names, also, no_names, AreFresh, BlockScoped, EqnsScoped, EqnScoped, ArmsScoped, StatesScoped, ContractScoped, equations_of, interface, NodeScoped}
use Rattle.law_judged.specs.Replaced.Fitting.{BlockNames, EqnsNames, EqnNames, ArmsNames, StatesNames, ContractNames}
use Rattle.law_judged.proofs.NamedLemmas.Sets.{or_cases, or_left, or_right, declares_append}
use Rattle.law_judged.proofs.OnceLemmas.Renamed.{or_none}
use Rattle.hp_automata.specs.Lowering.{Enumerations, lowered_node}
use Rattle.law_automata.specs.Lowered.Removable.{NodeOk}
use Rattle.law_automata.proofs.LoweredLemmas.Apart.{same_bytes}
use Rattle.law_automata.specs.Readied.Laws.{IsWhole}
use Rattle.law_automata.specs.Readied.Single.{BlockSingle, EqnsSingle, ContractSingle, NodeSingle}
use Rattle.law_automata.proofs.ReadiedLemmas.NoAutomata.{lowered_law}
use Rattle.law_automata.proofs.ReadiedLemmas.Outputs.{outputs_law}
use Rattle.law_automata.proofs.ReadiedLemmas.Plainly.{declared_once, plain_law}
use Rattle.hp_watch.specs.Observing.{assumed, enforced, outputs_at, input_name, inputs_for, all_handed_on, with_lines, lines_of, observer_of}
use Rattle.law_choices.specs.Observed.Contracts.{IsOther, IsObservable}
use Rattle.law_choices.proofs.ObservedLemmas.Bodies.{defines_behind, outputs_other, inputs_other, local_no_output, all_defined, once_first, once_last, once_both, false_unless}

-- ---- a part stays in its scope where more is seen around it that it does not declare

more_seen : (ds : List Decl) (seen all : Names) → ((x : List ℕ) → IsOther x → IsTrue (all x) → IsTrue (seen x)) → (x : List ℕ) → IsOther x → IsTrue (also all ds x) → IsTrue (also seen ds x)
more_seen ds seen all f x o h = ⊎_elim (λ k. or_left (declares ds x) (seen x) k) (λ k. or_right (declares ds x) (seen x) (f x o k)) (or_cases (declares ds x) (all x) h)

more_own : (ds : List Decl) (own may : Names) → ((x : List ℕ) → IsTrue (own x) → IsTrue (may x)) → (x : List ℕ) → IsTrue (also own ds x) → IsTrue (also may ds x)
more_own ds own may g x h = ⊎_elim (λ k. or_left (declares ds x) (may x) k) (λ k. or_right (declares ds x) (may x) (g x k)) (or_cases (declares ds x) (own x) h)

mutual
  wider_block : (seen own all may : Names) → ((x : List ℕ) → IsOther x → IsTrue (all x) → IsTrue (seen x)) → ((x : List ℕ) → IsTrue (own x) → IsTrue (may x)) → (b : Block) → BlockNames IsOther b → BlockScoped seen own b → BlockScoped all may b
  wider_block seen own all may f g (block ds es) names sc = (sc.0, (λ x h k. sc.1 x h (f x (names.0 x h) k)), sc.2, wider_eqns (also seen ds) (also own ds) (also all ds) (also may ds) (more_seen ds seen all f) (more_own ds own may g) es names.1 sc.3)

  pub wider_eqns : (seen own all may : Names) → ((x : List ℕ) → IsOther x → IsTrue (all x) → IsTrue (seen x)) → ((x : List ℕ) → IsTrue (own x) → IsTrue (may x)) → (es : Eqns) → EqnsNames IsOther es → EqnsScoped seen own es → EqnsScoped all may es
  wider_eqns seen own all may f g no_eqn names sc = tt
  wider_eqns seen own all may f g (more_eqns e es) names sc = (wider_eqn seen own all may f g e names.0 sc.0, wider_eqns seen own all may f g es names.1 sc.1)

  wider_eqn : (seen own all may : Names) → ((x : List ℕ) → IsOther x → IsTrue (all x) → IsTrue (seen x)) → ((x : List ℕ) → IsTrue (own x) → IsTrue (may x)) → (e : Eqn) → EqnNames IsOther e → EqnScoped seen own e → EqnScoped all may e
  wider_eqn seen own all may f g (define s ys e) names sc = λ x h. g x (sc x h)
  wider_eqn seen own all may f g (switch s e arms) names sc = wider_arms seen own all may f g arms names sc
  wider_eqn seen own all may f g (reset s b e) names sc = wider_block seen own all may f g b names sc
  wider_eqn seen own all may f g (automaton s ss) names sc = wider_states seen own all may f g ss names sc

  wider_arms : (seen own all may : Names) → ((x : List ℕ) → IsOther x → IsTrue (all x) → IsTrue (seen x)) → ((x : List ℕ) → IsTrue (own x) → IsTrue (may x)) → (arms : Arms) → ArmsNames IsOther arms → ArmsScoped seen own arms → ArmsScoped all may arms
  wider_arms seen own all may f g no_arm names sc = tt
  wider_arms seen own all may f g (more_arms c b s arms) names sc = (wider_block seen own all may f g b names.0 sc.0, wider_arms seen own all may f g arms names.1 sc.1)

  wider_states : (seen own all may : Names) → ((x : List ℕ) → IsOther x → IsTrue (all x) → IsTrue (seen x)) → ((x : List ℕ) → IsTrue (own x) → IsTrue (may x)) → (ss : States) → StatesNames IsOther ss → StatesScoped seen own ss → StatesScoped all may ss
  wider_states seen own all may f g no_state names sc = tt
  wider_states seen own all may f g (more_states q b until unless s ss) names sc = (wider_block seen own all may f g b names.0 sc.0, wider_states seen own all may f g ss names.1 sc.1)

scoped_behind : (seen own : Names) (es : Eqns) (more : List Eqn) → EqnsScoped seen own es → EqnsScoped seen own (eqns_of more) → EqnsScoped seen own (eqns_of (list_of_eqns es ++ more))
scoped_behind seen own no_eqn more h k = k
scoped_behind seen own (more_eqns e es) more h k = (h.0, scoped_behind seen own es more h.1 k)

-- ---- the inputs that stand for outputs

pub input_from : (i : ℕ) (ds : List Decl) (x : List ℕ) → IsTrue (declares (inputs_for i ds) x) → (j : ℕ) × (i ≤ j) × (j < i + length ds) × (input_name j ≡ x)
input_from i [] x h = absurd cc
input_from i (d ∷ ds) x h = by (or_cases (bytes_eq (input_name i) x) (declares (inputs_for (i + 1) ds) x) h) (input_from (i + 1) ds x)
  where
    by : IsTrue (bytes_eq (input_name i) x) ⊎ IsTrue (declares (inputs_for (i + 1) ds) x) → (IsTrue (declares (inputs_for (i + 1) ds) x) → (j : ℕ) × (i + 1 ≤ j) × (j < i + 1 + length ds) × (input_name j ≡ x)) → (j : ℕ) × (i ≤ j) × (j < i + length (d ∷ ds)) × (input_name j ≡ x)
    by (inl k) f = (i, omega arith, omega arith, same_bytes (input_name i) x k)
    by (inr k) f = let r = f k in let l = r.1 in let u = r.2 in (r.0, omega (arith, l), omega (arith, u), r.3)

not_input : (i : ℕ) (ds : List Decl) (x : List ℕ) → IsOther x → declares (inputs_for i ds) x ≡ false
not_input i [] x o = refl
not_input i (d ∷ ds) x o = ap₂ (λ a b. a || b) (o.input i) (not_input (i + 1) ds x o)

inputs_once : (i : ℕ) (ds : List Decl) → i + length ds < 1000000 → AreOnce (inputs_for i ds)
inputs_once i [] l = tt
inputs_once i (d ∷ ds) l = (false_unless (declares (inputs_for (i + 1) ds) (input_name i)) again, inputs_once (i + 1) ds (omega (arith, l)))
  where
    again : IsTrue (declares (inputs_for (i + 1) ds) (input_name i)) → ⊥
    again h =
        let r = input_from (i + 1) ds (input_name i) h in
        let low = r.1 in
        let high = r.2 in
        let same : r.0 ≡ i = decimal_injective r.0 i (omega (arith, high, l)) (omega (arith, l)) (append_cancel_left (codes "in$") (decimal r.0) (decimal i) r.3) in
        omega (arith, low, same)

once_apart : (xs ys : List Decl) → AreOnce (xs ++ ys) → (x : List ℕ) → IsTrue (declares xs x) → IsTrue (declares ys x) → ⊥
once_apart [] ys once x h k = absurd cc
once_apart (d ∷ xs) ys once x h k = by (or_cases (bytes_eq d.name x) (declares xs x) h) (once_apart xs ys once.1 x)
  where
    by : IsTrue (bytes_eq d.name x) ⊎ IsTrue (declares xs x) → (IsTrue (declares xs x) → IsTrue (declares ys x) → ⊥) → ⊥
    by (inl q) f =
        let there : IsTrue (declares ys d.name) = subst (λ z. IsTrue (declares ys z)) (sym (same_bytes d.name x q)) k in
        let r : true ≡ false = sym (or_right (declares xs d.name) (declares ys d.name) there) ∙ sym (declares_append xs ys d.name) ∙ once.0 in absurd cc
    by (inr q) f = f q k

-- the outputs are no other names
not_told : (s : Span) (x : List ℕ) → IsOther x → declares (outputs_at s) x ≡ false
not_told s x o = ap₂ (λ a b. a || (b || false)) o.assumed o.enforced

input_not_told : (s : Span) (j : ℕ) → declares (outputs_at s) (input_name j) ≡ false
input_not_told s j = refl

module _ (n : Node) (c : Contract) (once : AreOnce (n.inputs ++ n.outputs)) (names : (x : List ℕ) → IsTrue (interface n x) → IsOther x) (few : length n.outputs < 1000000) where
  abbrev ins : List Decl
  ins = inputs_for 0 n.outputs

  abbrev all : List Decl
  all = n.inputs ++ ins

  signature_once : AreOnce (all ++ outputs_at c.span)
  signature_once =
      once_both all (outputs_at c.span) (once_both n.inputs ins (once_first n.inputs n.outputs once) (inputs_once 0 n.outputs (omega (arith, few))) (λ x h. not_input 0 n.outputs x (inputs_other n c names x h))) (refl, (refl, tt))
      (λ x h. by x (or_cases (declares n.inputs x) (declares ins x) (sym (declares_append n.inputs ins x) ∙ h)))
    where
      by : (x : List ℕ) → IsTrue (declares n.inputs x) ⊎ IsTrue (declares ins x) → declares (outputs_at c.span) x ≡ false
      by x (inl k) = not_told c.span x (inputs_other n c names x k)
      by x (inr k) = let r = input_from 0 n.outputs x k in subst (λ z. declares (outputs_at c.span) z ≡ false) r.3 (input_not_told c.span r.0)

  -- what is seen in the observer
  abbrev seen : Names
  seen = also (also (also no_names all) (outputs_at c.span)) []

  abbrev own_names : Names
  own_names = also no_names (outputs_at c.span)

  -- of the other names these are the inputs
  seen_input : (x : List ℕ) → IsOther x → IsTrue (seen x) → IsTrue (declares n.inputs x)
  seen_input x o h = by (or_cases (declares all x) false (first h))
    where
      first : IsTrue (declares (outputs_at c.span) x || (declares all x || false)) → IsTrue (declares all x || false)
      first k = sym (ap (λ a. a || (declares all x || false)) (not_told c.span x o)) ∙ k

      by : IsTrue (declares all x) ⊎ IsTrue false → IsTrue (declares n.inputs x)
      by (inl k) = or_none (declares n.inputs x) (sym (ap (λ a. declares n.inputs x || a) (not_input 0 n.outputs x o)) ∙ sym (declares_append n.inputs ins x) ∙ k)
      by (inr k) = absurd cc

  handed_scoped : (names own : Names) (i : ℕ) (ds : List Decl) → ((x : List ℕ) → IsTrue (declares ds x) → IsTrue (own x)) → EqnsScoped names own (eqns_of (all_handed_on i ds))
  handed_scoped names own i [] f = tt
  handed_scoped names own i (d ∷ ds) f = (
    (λ x h. f x (or_left (bytes_eq d.name x) (declares ds x) (or_none (bytes_eq d.name x) h))),
    handed_scoped names own (i + 1) ds (λ x h. f x (or_right (bytes_eq d.name x) (declares ds x) h)),
  )

  body_scoped : (b : Block) → BlockScoped (interface n) no_names b → BlockNames IsOther b → BlockScoped seen own_names (with_lines b n.outputs (lines_of n c)) × AreDefined (outputs_at c.span) (equations_of (with_lines b n.outputs (lines_of n c)))
  body_scoped (block ds es) own inner = (
    (
      once_both ds n.outputs own.0 (once_last n.inputs n.outputs once) (local_no_output n c names ds es own inner),
      fresh,
      all_defined n c names ds es own inner,
      scoped_behind (also seen locals) (also own_names locals) es (lines_of n c)
          (wider_eqns (also (interface n) ds) (also no_names ds) (also seen locals) (also own_names locals) still_seen still_own es inner.1 own.3) lines_scoped,
    ),
    told_defined,
  )
    where
      locals : List Decl
      locals = ds ++ n.outputs

      other : (x : List ℕ) → IsTrue (declares (ds ++ n.outputs) x) → IsOther x
      other x h = ⊎_elim (λ k. inner.0 x k) (λ k. outputs_other n c names x k) (or_cases (declares ds x) (declares n.outputs x) (sym (declares_append ds n.outputs x) ∙ h))

      fresh : AreFresh seen (ds ++ n.outputs)
      fresh x h k =
          let i = seen_input x (other x h) k in
          ⊎_elim (λ l. own.1 x l (or_right (declares n.outputs x) (also no_names n.inputs x) (or_left (declares n.inputs x) (no_names x) i))) (λ l. once_apart n.inputs n.outputs once x i l)
          (or_cases (declares ds x) (declares n.outputs x) (sym (declares_append ds n.outputs x) ∙ h))

      still_seen : (x : List ℕ) → IsOther x → IsTrue (also seen (ds ++ n.outputs) x) → IsTrue (also (interface n) ds x)
      still_seen x o h = by (or_cases (declares (ds ++ n.outputs) x) (seen x) h)
        where
          inside : IsTrue (declares ds x) ⊎ IsTrue (declares n.outputs x) → IsTrue (also (interface n) ds x)
          inside (inl k) = or_left (declares ds x) (interface n x) k
          inside (inr k) = or_right (declares ds x) (interface n x) (or_left (declares n.outputs x) (also no_names n.inputs x) k)

          by : IsTrue (declares (ds ++ n.outputs) x) ⊎ IsTrue (seen x) → IsTrue (also (interface n) ds x)
          by (inl k) = inside (or_cases (declares ds x) (declares n.outputs x) (sym (declares_append ds n.outputs x) ∙ k))
          by (inr k) = or_right (declares ds x) (interface n x) (or_right (declares n.outputs x) (also no_names n.inputs x) (or_left (declares n.inputs x) (no_names x) (seen_input x o k)))

      still_own : (x : List ℕ) → IsTrue (also no_names ds x) → IsTrue (also own_names (ds ++ n.outputs) x)
      still_own x h = or_left (declares (ds ++ n.outputs) x) (own_names x) (declares_append ds n.outputs x ∙ or_left (declares ds x) (declares n.outputs x) (or_none (declares ds x) h))

      local_own : (x : List ℕ) → IsTrue (declares n.outputs x) → IsTrue (also own_names (ds ++ n.outputs) x)
      local_own x h = or_left (declares (ds ++ n.outputs) x) (own_names x) (declares_append ds n.outputs x ∙ or_right (declares ds x) (declares n.outputs x) h)

      told_own : (x : List ℕ) → IsTrue (declares (outputs_at c.span) x) → IsTrue (also own_names (ds ++ n.outputs) x)
      told_own x h = or_right (declares (ds ++ n.outputs) x) (own_names x) (or_left (declares (outputs_at c.span) x) false h)

      lines_scoped : EqnsScoped (also seen (ds ++ n.outputs)) (also own_names (ds ++ n.outputs)) (eqns_of (lines_of n c))
      lines_scoped = (
        (λ x h. told_own x (or_left (bytes_eq assumed x) (bytes_eq enforced x || false) (or_none (bytes_eq assumed x) h))),
        ((λ x h. told_own x (or_right (bytes_eq assumed x) (bytes_eq enforced x || false) h)), handed_scoped (also seen (ds ++ n.outputs)) (also own_names (ds ++ n.outputs)) 0 n.outputs local_own),
      )

      told_defined : AreDefined (outputs_at c.span) (eqns_of (list_of_eqns es ++ lines_of n c))
      told_defined x h = defines_behind es (lines_of n c) x ∙ or_right (some_defines es x) (some_defines (eqns_of (lines_of n c)) x) (by (or_cases (bytes_eq assumed x) (bytes_eq enforced x || false) h))
        where
          by : IsTrue (bytes_eq assumed x) ⊎ IsTrue (bytes_eq enforced x || false) → IsTrue (some_defines (eqns_of (lines_of n c)) x)
          by (inl k) = or_left (bytes_eq assumed x || false) ((bytes_eq enforced x || false) || some_defines (eqns_of (all_handed_on 0 n.outputs)) x) (or_left (bytes_eq assumed x) false k)
          by (inr k) = or_right (bytes_eq assumed x || false) ((bytes_eq enforced x || false) || some_defines (eqns_of (all_handed_on 0 n.outputs)) x) (or_left (bytes_eq enforced x || false) (some_defines (eqns_of (all_handed_on 0 n.outputs)) x) k)

pub observer_scoped : (n : Node) (c : Contract) → n.contract ≡ Some c → NodeScoped n → IsObservable n → NodeScoped (observer_of n c)
observer_scoped n c e scoped o =
    let body = body_scoped n c scoped.once o.interface o.few c.body (subst (ContractScoped (interface n)) e scoped.contract) (subst (ContractNames IsOther) e o.contract) in
    record { once = signature_once n c scoped.once o.interface o.few; contract = tt; body = body.0; outputs = body.1 }

-- ---- each name is defined once

single_behind : (es : Eqns) (more : List Eqn) → EqnsSingle es → EqnsSingle (eqns_of more) → EqnsSingle (eqns_of (list_of_eqns es ++ more))
single_behind no_eqn more h k = k
single_behind (more_eqns e es) more h k = (h.0, single_behind es more h.1 k)

handed_single : (i : ℕ) (ds : List Decl) → EqnsSingle (eqns_of (all_handed_on i ds))
handed_single i [] = tt
handed_single i (d ∷ ds) = ((refl, tt), handed_single (i + 1) ds)

body_single : (b : Block) (more : List Decl) (lines : List Eqn) → BlockSingle b → ((ds : List Decl) (es : Eqns) → b ≡ block ds es → AreOnce (ds ++ more)) → EqnsSingle (eqns_of lines) → BlockSingle (with_lines b more lines)
body_single (block ds es) more lines h once k = (once ds es refl, single_behind es lines h.1 k)

locals_once : (n : Node) (c : Contract) → NodeScoped n → IsObservable n → (b : Block) → BlockScoped (interface n) no_names b → BlockNames IsOther b → (ds : List Decl) (es : Eqns) → b ≡ block ds es → AreOnce (ds ++ n.outputs)
locals_once n c scoped o b own inner ds es e =
    let here : BlockScoped (interface n) no_names (block ds es) = subst (BlockScoped (interface n) no_names) e own in
    once_both ds n.outputs here.0 (once_last n.inputs n.outputs scoped.once) (local_no_output n c o.interface ds es here (subst (BlockNames IsOther) e inner))

pub observer_single : (n : Node) (c : Contract) → n.contract ≡ Some c → NodeScoped n → IsObservable n → NodeSingle n → NodeSingle (observer_of n c)
observer_single n c e scoped o h =
    let own : ContractSingle (Some c) = subst ContractSingle e h.0 in
    (tt, body_single c.body n.outputs (lines_of n c) own (locals_once n c scoped o c.body (subst (ContractScoped (interface n)) e scoped.contract) (subst (ContractNames IsOther) e o.contract)) ((refl, tt), ((refl, tt), handed_single 0 n.outputs)))

-- ---- without automata

pub observer_whole : (enums : Enumerations) (n : Node) (c : Contract) → NodeScoped (observer_of n c) → NodeSingle (observer_of n c) → NodeOk (observer_of n c) → IsWhole (lowered_node enums (observer_of n c))
observer_whole enums n c scoped single ok =
    let o = observer_of n c in
    let outputs = outputs_law enums o scoped ok in
    record {
      inputs = declared_once o.inputs (once_first o.inputs o.outputs scoped.once);
      controls = declared_once [] tt;
      outputs = declared_once o.outputs (once_last o.inputs o.outputs scoped.once);
      lowered = lowered_law enums o;
      plain = plain_law enums o ok single;
      defined = outputs.0;
      nothing_else = outputs.1;
    }
