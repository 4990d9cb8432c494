-- Classes that a node has are right part by part, and the other way round.
use Rattle.std.proofs.Common.{◌≡◌, ℕ, Bool, true, false, if◌then◌else◌, List, [], ◌∷◌, ◌++◌, refl}
use Rattle.std.specs.Prelude.{IsTrue, Option, None, Some}
use Rattle.hp_base.specs.declared.span.Span.{Span}
use Rattle.hp_tree.specs.declared.decl.Cons.{Cons}
use Rattle.hp_tree.specs.declared.block.Trans.{Trans}
use Rattle.hp_tree.specs.Expressions.{Expr}
use Rattle.hp_tree.specs.Blocks.{Decl, Block, block, Eqns, no_eqn, more_eqns, Eqn, define, switch, reset, automaton, Arms, no_arm, more_arms, States, no_state, more_states}
use Rattle.hp_tree.specs.Programs.{Contract, Node}
use Rattle.hp_tree.specs.Instant.{Body, Observer, Equations, Head, Tail, Arms as ArmsOf, States as StatesOf}
use Rattle.hp_meaning.specs.Causal.Points.{span_of}
use Rattle.hp_init.specs.Classes.{Classes, Assignment, Known, known_in, known_within, known_outputs, BlockFollows, EqnsFollow, EqnFollows, ArmsFollow, StatesFollow, ContractFollows}
use Rattle.hp_init.specs.Wants.{Wish, is_first, path_first, definition_met, of_clock, of_decls, of_test, of_tests, of_block, of_eqns, of_eqn, of_arms, of_states, of_told, of_contract}
use Rattle.hp_init.specs.Initialised.{first_unmet}
use Rattle.law_values.specs.Valued.Classed.{BlockDefinite, EqnsDefinite, EqnDefinite, ArmsDefinite, StatesDefinite, ContractDefinite, HasClasses}
use Rattle.law_values.proofs.ValuedLemmas.Joined.{met_left, met_right, met_one}
use Rattle.law_automata.specs.Classed.Good.{ClockFirst, ClocksFirst, TestsFirst, ToldFirst, BlockGood, EqnsGood, EqnGood, ArmsGood, StatesGood, ContractGood}

-- ---- wishes

met_append : (ws vs : List Wish) → first_unmet ws ≡ None → first_unmet vs ≡ None → first_unmet (ws ++ vs) ≡ None
met_append [] vs h k = k
met_append (w ∷ ws) vs h k = by w.met h (λ z. met_append ws vs z k)
  where
    by : (d : Bool) → (if d then first_unmet ws else Some w.at) ≡ None → (first_unmet ws ≡ None → first_unmet (ws ++ vs) ≡ None) → (if d then first_unmet (ws ++ vs) else Some w.at) ≡ None
    by true h f = f h
    by false h f = absurd (cc)

met_alone : (at : Span) (d : Bool) → IsTrue d → first_unmet (record { at = at; met = d } ∷ []) ≡ None
met_alone at true h = refl
met_alone at false h = absurd (cc)

told_alone : (at : Span) (d : Bool) → first_unmet (record { at = at; met = d } ∷ []) ≡ None → IsTrue d
told_alone at d h = met_one (record { at = at; met = d }) h

clock_told : (second : Classes) (at : Span) (o : Option (List (Cons × List ℕ))) → first_unmet (of_clock second at o) ≡ None → ClockFirst second o
clock_told second at None h = tt
clock_told second at (Some path) h = told_alone at (path_first second path) h

clocks_told : (second : Classes) (ds : List Decl) → first_unmet (of_decls second ds) ≡ None → ClocksFirst second ds
clocks_told second [] h = tt
clocks_told second (d ∷ ds) h = (
  clock_told second d.span d.clock (met_left (of_clock second d.span d.clock) (of_decls second ds) h),
  clocks_told second ds (met_right (of_clock second d.span d.clock) (of_decls second ds) h),
)

clock_met : (second : Classes) (at : Span) (o : Option (List (Cons × List ℕ))) → ClockFirst second o → first_unmet (of_clock second at o) ≡ None
clock_met second at None h = refl
clock_met second at (Some path) h = met_alone at (path_first second path) h

clocks_met : (second : Classes) (ds : List Decl) → ClocksFirst second ds → first_unmet (of_decls second ds) ≡ None
clocks_met second [] h = refl
clocks_met second (d ∷ ds) h = met_append (of_clock second d.span d.clock) (of_decls second ds) (clock_met second d.span d.clock h.0) (clocks_met second ds h.1)

test_told : (second : Classes) (e : Expr) → first_unmet (of_test second e) ≡ None → IsTrue (is_first second e)
test_told second e h = told_alone (span_of e) (is_first second e) h

test_met : (second : Classes) (e : Expr) → IsTrue (is_first second e) → first_unmet (of_test second e) ≡ None
test_met second e h = met_alone (span_of e) (is_first second e) h

tests_told : (second : Classes) (ts : List Trans) → first_unmet (of_tests second ts) ≡ None → TestsFirst second ts
tests_told second [] h = tt
tests_told second (t ∷ ts) h = (test_told second t.cond (met_left (of_test second t.cond) (of_tests second ts) h), tests_told second ts (met_right (of_test second t.cond) (of_tests second ts) h))

tests_met : (second : Classes) (ts : List Trans) → TestsFirst second ts → first_unmet (of_tests second ts) ≡ None
tests_met second [] h = refl
tests_met second (t ∷ ts) h = met_append (of_test second t.cond) (of_tests second ts) (test_met second t.cond h.0) (tests_met second ts h.1)

told_told : (second : Classes) (o : Option Expr) → first_unmet (of_told second o) ≡ None → ToldFirst second o
told_told second None h = tt
told_told second (Some e) h = test_told second e h

told_met : (second : Classes) (o : Option Expr) → ToldFirst second o → first_unmet (of_told second o) ≡ None
told_met second None h = refl
told_met second (Some e) h = test_met second e h

-- ---- part by part

mutual
  pub block_told : (k : Known) (class : Assignment) (b : Block) → BlockFollows k class b → first_unmet (of_block k class b) ≡ None → BlockDefinite k class b → BlockGood k class b
  block_told k class (block ds es) f m d =
      let K = known_in (block ds es) class k in
      let units = of_eqns K ds (λ p. class (Equations ∷ p)) es in (
        d.0,
        (
          d.1.0,
          (clocks_told K.values ds (met_left (of_decls K.values ds) units m), eqns_told K ds (λ p. class (Equations ∷ p)) es f (met_right (of_decls K.values ds) units m) d.1.1),
        ),
      )

  eqns_told : (k : Known) (ds : List Decl) (class : Assignment) (es : Eqns) → EqnsFollow k class es → first_unmet (of_eqns k ds class es) ≡ None → EqnsDefinite k class es → EqnsGood k ds class es
  eqns_told k ds class no_eqn f m d = tt
  eqns_told k ds class (more_eqns e es) f m d =
      let first = of_eqn k ds (λ p. class (Head ∷ p)) e in
      let others = of_eqns k ds (λ p. class (Tail ∷ p)) es in
      (eqn_told k ds (λ p. class (Head ∷ p)) e f.0 (met_left first others m) d.0, eqns_told k ds (λ p. class (Tail ∷ p)) es f.1 (met_right first others m) d.1)

  eqn_told : (k : Known) (ds : List Decl) (class : Assignment) (e : Eqn) → EqnFollows k class e → first_unmet (of_eqn k ds class e) ≡ None → EqnDefinite k class e → EqnGood k ds class e
  eqn_told k ds class (define at ys e) f m d = (f, told_alone at (definition_met k.values ds ys e) m)
  eqn_told k ds class (switch at e arms) f m d =
      let K = known_within (switch at e arms) k in
      let units = of_arms K (λ p. class (ArmsOf ∷ p)) arms in
      (test_told k.values e (met_left (of_test k.values e) units m), arms_told K (λ p. class (ArmsOf ∷ p)) arms f (met_right (of_test k.values e) units m) d)
  eqn_told k ds class (reset at b e) f m d =
      let K = known_within (reset at b e) k in
      let units = of_block K (λ p. class (Body ∷ p)) b in
      (test_told k.values e (met_right units (of_test k.values e) m), block_told K (λ p. class (Body ∷ p)) b f (met_left units (of_test k.values e) m) d)
  eqn_told k ds class (automaton at ss) f m d = states_told k (known_within (automaton at ss) k) (λ p. class (StatesOf ∷ p)) ss f m d

  arms_told : (k : Known) (class : Assignment) (arms : Arms) → ArmsFollow k class arms → first_unmet (of_arms k class arms) ≡ None → ArmsDefinite k class arms → ArmsGood k class arms
  arms_told k class no_arm f m d = tt
  arms_told k class (more_arms c b at arms) f m d =
      let first = of_block k (λ p. class (Head ∷ p)) b in
      let others = of_arms k (λ p. class (Tail ∷ p)) arms in
      (block_told k (λ p. class (Head ∷ p)) b f.0 (met_left first others m) d.0, arms_told k (λ p. class (Tail ∷ p)) arms f.1 (met_right first others m) d.1)

  states_told : (out k : Known) (class : Assignment) (ss : States) → StatesFollow k class ss → first_unmet (of_states out k class ss) ≡ None → StatesDefinite k class ss → StatesGood out k class ss
  states_told out k class no_state f m d = tt
  states_told out k class (more_states q b until unless at ss) f m d =
      let own : Assignment = λ p. class (Head ∷ Body ∷ p) in
      let first = of_block k own b in
      let weak = of_tests (known_in b own k).values until in
      let strong = of_tests out.values unless in
      let others = of_states out k (λ p. class (Tail ∷ p)) ss in
      let m1 = met_right first (weak ++ (strong ++ others)) m in
      let m2 = met_right weak (strong ++ others) m1 in (
        block_told k own b f.0 (met_left first (weak ++ (strong ++ others)) m) d.0,
        (
          tests_told (known_in b own k).values until (met_left weak (strong ++ others) m1),
          (tests_told out.values unless (met_left strong others m2), states_told out k (λ p. class (Tail ∷ p)) ss f.1 (met_right strong others m2) d.1),
        ),
      )

pub contract_told : (k : Known) (class : Assignment) (o : Option Contract) → ContractFollows k class o → first_unmet (of_contract k class o) ≡ None → ContractDefinite k class o → ContractGood k class o
contract_told k class None f m d = tt
contract_told k class (Some c) f m d =
    let first = of_block k class c.body in
    let assumed = of_told (known_in c.body class k).values c.assume in
    let enforced = of_told (known_in c.body class k).values c.enforce in
    let m1 = met_right first (assumed ++ enforced) m in (
      block_told k class c.body f (met_left first (assumed ++ enforced) m) d,
      (told_told (known_in c.body class k).values c.assume (met_left assumed enforced m1), told_told (known_in c.body class k).values c.enforce (met_right assumed enforced m1)),
    )

-- ---- and the other way round

mutual
  pub block_right : (k : Known) (class : Assignment) (b : Block) → BlockGood k class b → BlockFollows k class b × ((first_unmet (of_block k class b) ≡ None) × BlockDefinite k class b)
  block_right k class (block ds es) g =
      let K = known_in (block ds es) class k in
      let r = eqns_right K ds (λ p. class (Equations ∷ p)) es g.1.1.1 in
      (r.0, (met_append (of_decls K.values ds) (of_eqns K ds (λ p. class (Equations ∷ p)) es) (clocks_met K.values ds g.1.1.0) r.1.0, (g.0, (g.1.0, r.1.1))))

  eqns_right : (k : Known) (ds : List Decl) (class : Assignment) (es : Eqns) → EqnsGood k ds class es → EqnsFollow k class es × ((first_unmet (of_eqns k ds class es) ≡ None) × EqnsDefinite k class es)
  eqns_right k ds class no_eqn g = (tt, (refl, tt))
  eqns_right k ds class (more_eqns e es) g =
      let a = eqn_right k ds (λ p. class (Head ∷ p)) e g.0 in
      let r = eqns_right k ds (λ p. class (Tail ∷ p)) es g.1 in
      ((a.0, r.0), (met_append (of_eqn k ds (λ p. class (Head ∷ p)) e) (of_eqns k ds (λ p. class (Tail ∷ p)) es) a.1.0 r.1.0, (a.1.1, r.1.1)))

  eqn_right : (k : Known) (ds : List Decl) (class : Assignment) (e : Eqn) → EqnGood k ds class e → EqnFollows k class e × ((first_unmet (of_eqn k ds class e) ≡ None) × EqnDefinite k class e)
  eqn_right k ds class (define at ys e) g = (g.0, (met_alone at (definition_met k.values ds ys e) g.1, tt))
  eqn_right k ds class (switch at e arms) g =
      let K = known_within (switch at e arms) k in
      let r = arms_right K (λ p. class (ArmsOf ∷ p)) arms g.1 in
      (r.0, (met_append (of_test k.values e) (of_arms K (λ p. class (ArmsOf ∷ p)) arms) (test_met k.values e g.0) r.1.0, r.1.1))
  eqn_right k ds class (reset at b e) g =
      let K = known_within (reset at b e) k in
      let r = block_right K (λ p. class (Body ∷ p)) b g.1 in
      (r.0, (met_append (of_block K (λ p. class (Body ∷ p)) b) (of_test k.values e) r.1.0 (test_met k.values e g.0), r.1.1))
  eqn_right k ds class (automaton at ss) g = states_right k (known_within (automaton at ss) k) (λ p. class (StatesOf ∷ p)) ss g

  arms_right : (k : Known) (class : Assignment) (arms : Arms) → ArmsGood k class arms → ArmsFollow k class arms × ((first_unmet (of_arms k class arms) ≡ None) × ArmsDefinite k class arms)
  arms_right k class no_arm g = (tt, (refl, tt))
  arms_right k class (more_arms c b at arms) g =
      let a = block_right k (λ p. class (Head ∷ p)) b g.0 in
      let r = arms_right k (λ p. class (Tail ∷ p)) arms g.1 in
      ((a.0, r.0), (met_append (of_block k (λ p. class (Head ∷ p)) b) (of_arms k (λ p. class (Tail ∷ p)) arms) a.1.0 r.1.0, (a.1.1, r.1.1)))

  states_right : (out k : Known) (class : Assignment) (ss : States) → StatesGood out k class ss → StatesFollow k class ss × ((first_unmet (of_states out k class ss) ≡ None) × StatesDefinite k class ss)
  states_right out k class no_state g = (tt, (refl, tt))
  states_right out k class (more_states q b until unless at ss) g =
      let own : Assignment = λ p. class (Head ∷ Body ∷ p) in
      let a = block_right k own b g.0 in
      let r = states_right out k (λ p. class (Tail ∷ p)) ss g.1.1.1 in
      let weak = of_tests (known_in b own k).values until in
      let strong = of_tests out.values unless in
      let others = of_states out k (λ p. class (Tail ∷ p)) ss in (
        (a.0, r.0),
        (
          met_append (of_block k own b) (weak ++ (strong ++ others)) a.1.0
              (met_append weak (strong ++ others) (tests_met (known_in b own k).values until g.1.0) (met_append strong others (tests_met out.values unless g.1.1.0) r.1.0)),
          (a.1.1, r.1.1),
        ),
      )

contract_right : (k : Known) (class : Assignment) (o : Option Contract) → ContractGood k class o → ContractFollows k class o × ((first_unmet (of_contract k class o) ≡ None) × ContractDefinite k class o)
contract_right k class None g = (tt, (refl, tt))
contract_right k class (Some c) g =
    let a = block_right k class c.body g.0 in
    let assumed = of_told (known_in c.body class k).values c.assume in
    let enforced = of_told (known_in c.body class k).values c.enforce in
    (a.0, (met_append (of_block k class c.body) (assumed ++ enforced) a.1.0 (met_append assumed enforced (told_met (known_in c.body class k).values c.assume g.1.0) (told_met (known_in c.body class k).values c.enforce g.1.1)), a.1.1))

-- of a node

pub node_told : (class : Assignment) (n : Node) → HasClasses class n
    → ContractGood (known_outputs n class) (λ p. class (Observer ∷ p)) n.contract × BlockGood (known_outputs n class) (λ p. class (Body ∷ p)) n.body
node_told class n h =
    let k = known_outputs n class in
    let first = of_contract k (λ p. class (Observer ∷ p)) n.contract in
    let body = of_block k (λ p. class (Body ∷ p)) n.body in (
      contract_told k (λ p. class (Observer ∷ p)) n.contract h.follow.0 (met_left first body h.met) h.definite.0,
      block_told k (λ p. class (Body ∷ p)) n.body h.follow.1 (met_right first body h.met) h.definite.1,
    )

pub node_right : (class : Assignment) (n : Node) → ContractGood (known_outputs n class) (λ p. class (Observer ∷ p)) n.contract → BlockGood (known_outputs n class) (λ p. class (Body ∷ p)) n.body → HasClasses class n
node_right class n g h =
    let k = known_outputs n class in
    let a = contract_right k (λ p. class (Observer ∷ p)) n.contract g in
    let b = block_right k (λ p. class (Body ∷ p)) n.body h in
    record {
      follow = (a.0, b.0);
      met = met_append (of_contract k (λ p. class (Observer ∷ p)) n.contract) (of_block k (λ p. class (Body ∷ p)) n.body) a.1.0 b.1.0;
      definite = (a.1.1, b.1.1);
    }
