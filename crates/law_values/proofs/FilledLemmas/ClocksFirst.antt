-- Each name of a clock that is declared is First.
use Rattle.std.proofs.Common.{◌≡◌, ℕ, List, [], ◌∷◌, ◌++◌, refl, subst, ◌∙◌}
use Rattle.std.specs.Prelude.{⊤, Bool, true, false, not, IsTrue, if◌then◌else◌, Option, None, Some}
use Rattle.std.specs.Str.{bytes_eq}
use Rattle.hp_base.specs.declared.span.Span.{Span}
use Rattle.hp_tree.specs.declared.decl.Cons.{Cons}
use Rattle.hp_tree.specs.Expressions.{Expr, constant, variable, last_of, one, two, choose, pre, fby, arrow, when_is, merge, call, Exprs, no_expr, more_exprs}
use Rattle.hp_tree.specs.Blocks.{Decl, Block, block, Eqns, no_eqn, more_eqns, Eqn, define, switch, reset, automaton, Arms, no_arm, more_arms, States, no_state, more_states}
use Rattle.hp_tree.specs.Programs.{TypeDecl, Contract, Node}
use Rattle.hp_tree.specs.Instant.{Body, Observer, Equations, Head, Tail, Arms as ArmsOf, States as StatesOf, Clock}
use Rattle.hp_tree.specs.Meaning.{written, clock_in, or_clock, clock_told, clocks_told, or_base, clock_of}
use Rattle.law_judged.specs.Typed.Scopes.{Scope}
use Rattle.hp_init.specs.Classes.{Classes, Assignment, Known, known_in, known_within, known_outputs}
use Rattle.hp_init.specs.Wants as wants
use Rattle.hp_init.specs.Wants.{path_first, of_clock, of_decls, of_test, of_block, of_eqns, of_eqn, of_arms, of_states, of_contract, of_node}
use Rattle.hp_init.specs.Initialised.{first_unmet}
use Rattle.law_values.specs.Valued.Classed.{classes_in, classes_within, none_second, seen_in_block, seen_in_eqns, seen_in_eqn, seen_in_arms, seen_in_states, seen_in_contract, seen_in_node}
use Rattle.law_values.specs.Valued.Judged.{Lasts}
use Rattle.law_values.proofs.ValuedLemmas.Both.{ExprOk, ExprsOk}
use Rattle.law_values.proofs.ValuedLemmas.Gives.{is_not}
use Rattle.law_values.specs.Accepted.ClocksFirst.{AllFirst}
use Rattle.law_values.proofs.ValuedLemmas.Joined.{met_left, met_right, met_one}
use Rattle.law_values.proofs.ValuedLemmas.Laws.{and_left, and_right}

-- the clock of each declaration
abbrev pub DeclsFirst : Classes → List Decl → Type 0
DeclsFirst second [] = ⊤
DeclsFirst second (d ∷ ds) = AllFirst second (written d.clock) × DeclsFirst second ds

abbrev mutual
  pub BlockClocks : Classes → Assignment → Block → Type 0
  BlockClocks second class (block ds es) = DeclsFirst (classes_in es second class) ds × EqnsClocks (classes_in es second class) (λ p. class (Equations ∷ p)) es

  pub EqnsClocks : Classes → Assignment → Eqns → Type 0
  EqnsClocks second class no_eqn = ⊤
  EqnsClocks second class (more_eqns e es) = EqnClocks second (λ p. class (Head ∷ p)) e × EqnsClocks second (λ p. class (Tail ∷ p)) es

  pub EqnClocks : Classes → Assignment → Eqn → Type 0
  EqnClocks second class (define at ys e) = ⊤
  EqnClocks second class (switch at e arms) = ArmsClocks (classes_within (switch at e arms) second) (λ p. class (ArmsOf ∷ p)) arms
  EqnClocks second class (reset at b e) = BlockClocks (classes_within (reset at b e) second) (λ p. class (Body ∷ p)) b
  EqnClocks second class (automaton at ss) = StatesClocks (classes_within (automaton at ss) second) (λ p. class (StatesOf ∷ p)) ss

  pub ArmsClocks : Classes → Assignment → Arms → Type 0
  ArmsClocks second class no_arm = ⊤
  ArmsClocks second class (more_arms c b at arms) = BlockClocks second (λ p. class (Head ∷ p)) b × ArmsClocks second (λ p. class (Tail ∷ p)) arms

  pub StatesClocks : Classes → Assignment → States → Type 0
  StatesClocks second class no_state = ⊤
  StatesClocks second class (more_states f b until unless at ss) = BlockClocks second (λ p. class (Head ∷ Body ∷ p)) b × StatesClocks second (λ p. class (Tail ∷ p)) ss

abbrev pub ContractClocks : Assignment → Option Contract → Type 0
ContractClocks class None = ⊤
ContractClocks class (Some c) = BlockClocks none_second (λ p. class (Observer ∷ p)) c.body

abbrev pub NodeClocks : Assignment → Node → Type 0
NodeClocks class n = BlockClocks none_second (λ p. class (Body ∷ p)) n.body × ContractClocks class n.contract

-- ---- the clock of an equation

pub clock_first : (second : Classes) (ds : List Decl) (x : List ℕ) → DeclsFirst second ds → AllFirst second (clock_in ds x)
clock_first second [] x h = tt
clock_first second (d ∷ ds) x h = by (bytes_eq d.name x) (clock_first second ds x h.1)
  where
    by : (b : Bool) → AllFirst second (clock_in ds x) → AllFirst second (if b then written d.clock else clock_in ds x)
    by true k = h.0
    by false k = k

abbrev ToldFirst : Classes → Option Clock → Type 0
ToldFirst second None = ⊤
ToldFirst second (Some clock) = AllFirst second clock

either_first : (second : Classes) (o p : Option Clock) → ToldFirst second o → ToldFirst second p → ToldFirst second (or_clock o p)
either_first second None p h k = k
either_first second (Some c) p h k = h

module _ (types : List TypeDecl) (among : List ℕ → Option Node) (s : Scope) (second : Classes) (lasts : Lasts) (ds : List Decl) (first : DeclsFirst second ds) where
  mutual
    told_first : (e : Expr) → ExprOk types among s second lasts e → ToldFirst second (clock_told ds e)
    told_first (constant a c) ok = tt
    told_first (variable a x) ok = clock_first second ds x first
    told_first (last_of a x) ok = tt
    told_first (one a o b) ok = told_first b ok
    told_first (two a o b c) ok = either_first second (clock_told ds b) (clock_told ds c) (told_first b ok.0) (told_first c ok.1)
    told_first (choose a b c d) ok = either_first second (clock_told ds b) (or_clock (clock_told ds c) (clock_told ds d)) (told_first b ok.0) (either_first second (clock_told ds c) (clock_told ds d) (told_first c ok.1.0) (told_first d ok.1.1))
    told_first (pre a b) ok = told_first b ok.1
    told_first (fby a b c) ok = either_first second (clock_told ds b) (clock_told ds c) (told_first b ok.1.0) (told_first c ok.1.1)
    told_first (arrow a b c) ok = either_first second (clock_told ds b) (clock_told ds c) (told_first b ok.0) (told_first c ok.1)
    told_first (when_is a b c x) ok = (ok.0, clock_first second ds x first)
    told_first (merge a x ps) ok = clock_first second ds x first
    told_first (call a f i es) ok = all_told_first es ok.1

    all_told_first : (es : Exprs) → ExprsOk types among s second lasts es → ToldFirst second (clocks_told ds es)
    all_told_first no_expr ok = tt
    all_told_first (more_exprs e es) ok = either_first second (clock_told ds e) (clocks_told ds es) (told_first e ok.1.0) (all_told_first es ok.1.1)

  based_first : (o : Option Clock) → ToldFirst second o → AllFirst second (or_base o)
  based_first None h = tt
  based_first (Some clock) h = h

  pub equation_first : (ys : List (List ℕ × Span)) (e : Expr) → ExprOk types among s second lasts e → AllFirst second (clock_of ds ys e)
  equation_first [] e ok = based_first (clock_told ds e) (told_first e ok)
  equation_first (y ∷ ys) e ok = clock_first second ds y.0 first

-- ---- where what is wanted First is

path_all : (second : Classes) (path : List (Cons × List ℕ)) → IsTrue (path_first second path) → AllFirst second path
path_all second [] h = tt
path_all second (on ∷ path) h = (is_not (second on.1) (and_left (not (second on.1)) (path_first second path) h), path_all second path (and_right (not (second on.1)) (path_first second path) h))

abbrev list_onto : Clock → Clock → Clock
list_onto [] ys = ys
list_onto (x ∷ xs) ys = list_onto xs (x ∷ ys)

all_onto : (second : Classes) (xs ys : Clock) → AllFirst second xs → AllFirst second ys → AllFirst second (list_onto xs ys)
all_onto second [] ys h k = k
all_onto second (x ∷ xs) ys h k = all_onto second xs (x ∷ ys) h.1 (h.0, k)

written_first : (second : Classes) (at : Span) (o : Option (List (Cons × List ℕ))) → first_unmet (of_clock second at o) ≡ None → AllFirst second (written o)
written_first second at None h = tt
written_first second at (Some path) h = all_onto second path [] (path_all second path (met_one _ h)) tt

decls_first : (second : Classes) (ds : List Decl) → first_unmet (of_decls second ds) ≡ None → DeclsFirst second ds
decls_first second [] h = tt
decls_first second (d ∷ ds) h =
    (written_first second d.span d.clock (met_left (of_clock second d.span d.clock) (of_decls second ds) h), decls_first second ds (met_right (of_clock second d.span d.clock) (of_decls second ds) h))

abbrev inner : List Decl → Eqns → Assignment → Known → Known
inner ds es class k = known_in (block ds es) class k

mutual
  block_clocks : (b : Block) (class : Assignment) (k : Known) → first_unmet (of_block k class b) ≡ None → BlockClocks k.values (seen_in_block k class b) b
  block_clocks (block ds es) class k h =
      let K = inner ds es class k in (
        decls_first K.values ds (met_left (of_decls K.values ds) (of_eqns K ds (λ q. class (Equations ∷ q)) es) h),
        eqns_clocks es ds (λ q. class (Equations ∷ q)) K (met_right (of_decls K.values ds) (of_eqns K ds (λ q. class (Equations ∷ q)) es) h),
      )

  eqns_clocks : (es : Eqns) (ds : List Decl) (at : Assignment) (k : Known) → first_unmet (of_eqns k ds at es) ≡ None → EqnsClocks k.values (seen_in_eqns k at es) es
  eqns_clocks no_eqn ds at k h = tt
  eqns_clocks (more_eqns e es) ds at k h = (
    eqn_clocks e ds (λ q. at (Head ∷ q)) k (met_left (of_eqn k ds (λ q. at (Head ∷ q)) e) (of_eqns k ds (λ q. at (Tail ∷ q)) es) h),
    eqns_clocks es ds (λ q. at (Tail ∷ q)) k (met_right (of_eqn k ds (λ q. at (Head ∷ q)) e) (of_eqns k ds (λ q. at (Tail ∷ q)) es) h),
  )

  eqn_clocks : (e : Eqn) (ds : List Decl) (at : Assignment) (k : Known) → first_unmet (of_eqn k ds at e) ≡ None → EqnClocks k.values (seen_in_eqn k at e) e
  eqn_clocks (define a ys e) ds at k h = tt
  eqn_clocks (switch a e arms) ds at k h =
      arms_clocks arms (λ q. at (ArmsOf ∷ q)) (known_within (switch a e arms) k) (met_right (of_test k.values e) (of_arms (known_within (switch a e arms) k) (λ q. at (ArmsOf ∷ q)) arms) h)
  eqn_clocks (reset a b e) ds at k h =
      block_clocks b (λ q. at (Body ∷ q)) (known_within (reset a b e) k) (met_left (of_block (known_within (reset a b e) k) (λ q. at (Body ∷ q)) b) (of_test k.values e) h)
  eqn_clocks (automaton a ss) ds at k h = states_clocks ss (λ q. at (StatesOf ∷ q)) k (known_within (automaton a ss) k) h

  arms_clocks : (arms : Arms) (at : Assignment) (k : Known) → first_unmet (of_arms k at arms) ≡ None → ArmsClocks k.values (seen_in_arms k at arms) arms
  arms_clocks no_arm at k h = tt
  arms_clocks (more_arms c b a arms) at k h = (
    block_clocks b (λ q. at (Head ∷ q)) k (met_left (of_block k (λ q. at (Head ∷ q)) b) (of_arms k (λ q. at (Tail ∷ q)) arms) h),
    arms_clocks arms (λ q. at (Tail ∷ q)) k (met_right (of_block k (λ q. at (Head ∷ q)) b) (of_arms k (λ q. at (Tail ∷ q)) arms) h),
  )

  states_clocks : (ss : States) (at : Assignment) (out k : Known) → first_unmet (of_states out k at ss) ≡ None → StatesClocks k.values (seen_in_states k at ss) ss
  states_clocks no_state at out k h = tt
  states_clocks (more_states x b until unless a ss) at out k h =
      let own = of_block k (λ q. at (Head ∷ Body ∷ q)) b in
      let weak = wants.of_tests (known_in b (λ q. at (Head ∷ Body ∷ q)) k).values until in
      let strong = wants.of_tests out.values unless in
      let more = of_states out k (λ q. at (Tail ∷ q)) ss in (
        block_clocks b (λ q. at (Head ∷ Body ∷ q)) k (met_left own (weak ++ (strong ++ more)) h),
        states_clocks ss (λ q. at (Tail ∷ q)) out k (met_right strong more (met_right weak (strong ++ more) (met_right own (weak ++ (strong ++ more)) h))),
      )

contract_clocks : (o : Option Contract) (class : Assignment) (k : Known) → first_unmet (of_contract k class o) ≡ None → (second : Classes) → k.values ≡ second → (seen : Assignment) → seen_in_contract k class o ≡ (λ p. seen (Observer ∷ p)) → second ≡ none_second → ContractClocks seen o
contract_clocks None class k h second e seen q f = tt
contract_clocks (Some c) class k h second e seen q f =
    let own = block_clocks c.body class k (met_left (of_block k class c.body) _ h) in
    subst (λ z. BlockClocks none_second z c.body) q (subst (λ z. BlockClocks z (seen_in_block k class c.body) c.body) (e ∙ f) own)

pub node_clocks : (n : Node) (class : Assignment) → first_unmet (of_node class n) ≡ None → (known_outputs n class).values ≡ none_second → NodeClocks (seen_in_node class n) n
node_clocks n class h e =
    let K = known_outputs n class in
    let observed = of_contract K (λ q. class (Observer ∷ q)) n.contract in
    let own = of_block K (λ q. class (Body ∷ q)) n.body in (
      subst (λ z. BlockClocks z (seen_in_block K (λ q. class (Body ∷ q)) n.body) n.body) e (block_clocks n.body (λ q. class (Body ∷ q)) K (met_right observed own h)),
      contract_clocks n.contract (λ q. class (Observer ∷ q)) K (met_left observed own h) K.values refl (seen_in_node class n) refl e,
    )
