-- Writing clocks keeps the classes of nodes, where the names of written clocks are First.
use Rattle.std.proofs.Common.{◌≡◌, ℕ, List, [], ◌∷◌, ◌++◌, map, reverse, refl, sym, ap, ap₂, subst, ◌∙◌}
use Rattle.std.proofs.lemmas.List.{reverse-append}
use Rattle.std.specs.Str.{bytes_eq}
use Rattle.std.specs.Prelude.{⊤, Bool, true, false, ◌&&◌, ◌||◌, not, is_some, IsTrue, IsFalse, if◌then◌else◌, Option, None, Some}
use Rattle.hp_base.specs.declared.span.Span.{Span}
use Rattle.hp_base.specs.declared.ty.Const.{Const}
use Rattle.hp_tree.specs.declared.block.Trans.{Trans}
use Rattle.hp_tree.specs.Expressions.{Expr}
use Rattle.hp_tree.specs.Blocks.{Decl, Block, block, Eqns, no_eqn, more_eqns, Eqn, define, switch, reset, automaton, Arms, no_arm, more_arms, States, no_state, more_states}
use Rattle.hp_tree.specs.Programs.{Contract, Node}
use Rattle.hp_tree.specs.Instant.{Body, Observer, Named, Equations, Head, Tail, Arms as ArmsOf, States as StatesOf, Place, Clock}
use Rattle.hp_tree.specs.Meaning.{declares, defines, some_defines, arms_define, states_define, block_defines}
use Rattle.hp_meaning.specs.Causal.Sources.{below}
use Rattle.hp_meaning.specs.Clocking.Terms.{value}
use Rattle.hp_meaning.specs.Clocking.Clocking.{Assignment, On, local_term, with_clock, base_written, with_clocks, all_with_clocks, one_with_clocks, arms_with_clocks, states_with_clocks, contract_with_clocks, node_with_clocks, in_observer, in_body}
use Rattle.hp_init.specs.Classes as classes
use Rattle.hp_init.specs.Classes.{Classes, Known, or_first, with_declared, known_in, known_within, known_outputs, is_second, LeftsFollow, BlockFollows, EqnsFollow, EqnFollows, ArmsFollow, StatesFollow, ContractFollows, NodeFollows}
use Rattle.hp_init.specs.Wants.{is_met, Wish, path_first, of_clock, of_decls, of_test, of_tests, must_be_first, some_must, definition_met, of_block, of_eqns, of_eqn, of_arms, of_states, of_told, of_contract, of_node}
use Rattle.hp_init.specs.Initialised.{first_unmet}
use Rattle.law_values.specs.Valued.Classed.{LastFirst, LastsFirst, OthersFirst, BlockDefinite, EqnsDefinite, EqnDefinite, ArmsDefinite, StatesDefinite, ContractDefinite, NodeDefinite, HasClasses}
use Rattle.law_values.proofs.ValuedLemmas.Joined.{met_left, met_right, met_one}
use Rattle.law_values.specs.Accepted.ClocksFirst.{AllFirst, LocalsFirst, BlockFirst, EqnsFirst, EqnFirst, ArmsFirst, StatesFirst, ContractFirst, NodeFirst}
use Rattle.law_values.proofs.AcceptedLemmas.ClocksKept.{SameDecls, same_clocks, same_base, declares_same, true_as, some_same, one_same}

-- ---- what has to be First

must_same : (ds es : List Decl) → SameDecls ds es → (x : List ℕ) → must_be_first es x ≡ must_be_first ds x
must_same [] [] q x = refl
must_same (d ∷ ds) (e ∷ es) q x =
    let rest = must_same ds es q.1 x in
    let y = q.0.0 in
    let o = q.0.1.1 in
    λ i. if bytes_eq (y i) x then is_some (o i) else rest i
must_same [] (e ∷ es) q x = absurd q
must_same (d ∷ ds) [] q x = absurd q

some_must_same : (ds es : List Decl) → SameDecls ds es → (ys : List (List ℕ × Span)) → some_must es ys ≡ some_must ds ys
some_must_same ds es q [] = refl
some_must_same ds es q (y ∷ ys) = ap₂ (λ a b. a || b) (must_same ds es q y.0) (some_must_same ds es q ys)

-- ---- wishes

met_append : (ws vs : List Wish) → first_unmet ws ≡ None → first_unmet vs ≡ None → first_unmet (ws ++ vs) ≡ None
met_append [] vs h k = k
met_append (w ∷ ws) vs h k = by w.met h (λ z. met_append ws vs z k)
  where
    by : (d : Bool) → (if d then first_unmet ws else Some w.at) ≡ None → (first_unmet ws ≡ None → first_unmet (ws ++ vs) ≡ None) → (if d then first_unmet (ws ++ vs) else Some w.at) ≡ None
    by true h f = f h
    by false h f = absurd (cc)

met_alone : (at : Span) (d : Bool) → IsTrue d → first_unmet (record { at = at; met = d } ∷ []) ≡ None
met_alone at true h = refl
met_alone at false h = absurd (cc)

both : (a b : Bool) → IsTrue a → IsTrue b → IsTrue (a && b)
both true b h k = k
both false b h k = absurd (cc)

is_first : (b : Bool) → IsFalse b → IsTrue (not b)
is_first true h = absurd (cc)
is_first false h = refl

path_append : (second : Classes) (xs ys : Clock) → IsTrue (path_first second xs) → IsTrue (path_first second ys) → IsTrue (path_first second (xs ++ ys))
path_append second [] ys h k = k
path_append second (on ∷ xs) ys h k = by (not (second on.1)) h (λ z. path_append second xs ys z k)
  where
    by : (d : Bool) → IsTrue (d && path_first second xs) → (IsTrue (path_first second xs) → IsTrue (path_first second (xs ++ ys))) → IsTrue (d && path_first second (xs ++ ys))
    by true h f = f h
    by false h f = absurd (cc)

reversed : (second : Classes) (clock : Clock) → AllFirst second clock → IsTrue (path_first second (reverse clock))
reversed second [] f = refl
reversed second (on ∷ clock) f =
    subst (λ z. IsTrue (path_first second z)) (sym (reverse-append (on ∷ []) clock))
    (path_append second (reverse clock) (on ∷ []) (reversed second clock f.1) (both (not (second on.1)) true (is_first (second on.1) f.0) refl))

-- ---- what is known

module _ (at : Assignment) where
  known_same : (k : Known) (class : classes.Assignment) (b : Block) (here : Place → Place) → known_in (with_clocks at here b) class k ≡ known_in b class k
  known_same k class (block ds es) here =
      let d : (x : List ℕ) → declares (map (with_clock at es here) ds) x ≡ declares ds x = λ x. declares_same ds (map (with_clock at es here) ds) (same_clocks at es here ds) x in
      let s : (x : List ℕ) → some_defines (all_with_clocks at (below Equations here) es) x ≡ some_defines es x = λ x. some_same at x es (below Equations here) in
      λ i. record {
        variables = λ x. if d x i then Some (class (Named x ∷ [])) else k.variables x;
        values = λ x. if s x i then or_first (if d x i then Some (class (Named x ∷ [])) else k.variables x) else k.values x;
      }

  within_same : (k : Known) (e : Eqn) (here : Place → Place) → known_within (one_with_clocks at here e) k ≡ known_within e k
  within_same k e here = λ i. record { variables = k.variables; values = λ x. if one_same at x e here i then false else k.values x }

  outputs_same : (n : Node) (class : classes.Assignment) → known_outputs (node_with_clocks at n) class ≡ known_outputs n class
  outputs_same n class =
      let d : (x : List ℕ) → declares (map base_written n.outputs) x ≡ declares n.outputs x = λ x. declares_same n.outputs (map base_written n.outputs) (same_base n.outputs) x in
      λ i. record {
        variables = λ x. if d x i then Some (class (Named x ∷ [])) else None;
        values = λ x. or_first (if d x i then Some (class (Named x ∷ [])) else None);
      }

  -- ---- classes follow

  mutual
    follow_block : (k : Known) (class : classes.Assignment) (b : Block) (here : Place → Place) → BlockFollows k class b → BlockFollows k class (with_clocks at here b)
    follow_block k class (block ds es) here h =
        subst (λ z. EqnsFollow z (λ p. class (Equations ∷ p)) (all_with_clocks at (below Equations here) es)) (sym (known_same k class (block ds es) here))
        (follow_eqns (known_in (block ds es) class k) (λ p. class (Equations ∷ p)) es (below Equations here) h)

    follow_eqns : (k : Known) (class : classes.Assignment) (es : Eqns) (here : Place → Place) → EqnsFollow k class es → EqnsFollow k class (all_with_clocks at here es)
    follow_eqns k class no_eqn here h = tt
    follow_eqns k class (more_eqns e es) here h = (follow_eqn k (λ p. class (Head ∷ p)) e (below Head here) h.0, follow_eqns k (λ p. class (Tail ∷ p)) es (below Tail here) h.1)

    follow_eqn : (k : Known) (class : classes.Assignment) (e : Eqn) (here : Place → Place) → EqnFollows k class e → EqnFollows k class (one_with_clocks at here e)
    follow_eqn k class (define s ys e) here h = h
    follow_eqn k class (switch s e arms) here h =
        subst (λ z. ArmsFollow z (λ p. class (ArmsOf ∷ p)) (arms_with_clocks at (below ArmsOf here) arms)) (sym (within_same k (switch s e arms) here))
        (follow_arms (known_within (switch s e arms) k) (λ p. class (ArmsOf ∷ p)) arms (below ArmsOf here) h)
    follow_eqn k class (reset s b e) here h =
        subst (λ z. BlockFollows z (λ p. class (Body ∷ p)) (with_clocks at (below Body here) b)) (sym (within_same k (reset s b e) here))
        (follow_block (known_within (reset s b e) k) (λ p. class (Body ∷ p)) b (below Body here) h)
    follow_eqn k class (automaton s ss) here h =
        subst (λ z. StatesFollow z (λ p. class (StatesOf ∷ p)) (states_with_clocks at (below StatesOf here) ss)) (sym (within_same k (automaton s ss) here))
        (follow_states (known_within (automaton s ss) k) (λ p. class (StatesOf ∷ p)) ss (below StatesOf here) h)

    follow_arms : (k : Known) (class : classes.Assignment) (arms : Arms) (here : Place → Place) → ArmsFollow k class arms → ArmsFollow k class (arms_with_clocks at here arms)
    follow_arms k class no_arm here h = tt
    follow_arms k class (more_arms c b s arms) here h = (follow_block k (λ p. class (Head ∷ p)) b (below Head here) h.0, follow_arms k (λ p. class (Tail ∷ p)) arms (below Tail here) h.1)

    follow_states : (k : Known) (class : classes.Assignment) (ss : States) (here : Place → Place) → StatesFollow k class ss → StatesFollow k class (states_with_clocks at here ss)
    follow_states k class no_state here h = tt
    follow_states k class (more_states f b until unless s ss) here h =
        (follow_block k (λ p. class (Head ∷ Body ∷ p)) b (below Body (below Head here)) h.0, follow_states k (λ p. class (Tail ∷ p)) ss (below Tail here) h.1)

  follow_contract : (k : Known) (class : classes.Assignment) (o : Option Contract) → ContractFollows k class o → ContractFollows k class (contract_with_clocks at o)
  follow_contract k class None h = tt
  follow_contract k class (Some c) h = follow_block k class c.body in_observer h

  -- ---- names that have to be First are

  lasts_clocked : (class : classes.Assignment) (es : Eqns) (here : Place → Place) (ds : List Decl) → LastsFirst class ds → LastsFirst class (map (with_clock at es here) ds)
  lasts_clocked class es here [] h = tt
  lasts_clocked class es here (d ∷ ds) h = (h.0, lasts_clocked class es here ds h.1)

  mutual
    definite_block : (k : Known) (class : classes.Assignment) (b : Block) (here : Place → Place) → BlockDefinite k class b → BlockDefinite k class (with_clocks at here b)
    definite_block k class (block ds es) here h =
        let fs = map (with_clock at es here) ds in
        let qs = all_with_clocks at (below Equations here) es in (
          lasts_clocked class es here ds h.0,
          (
            (λ x d f. h.1.0 x (true_as (some_defines qs x) (some_defines es x) (some_same at x es (below Equations here)) d) (sym (declares_same ds fs (same_clocks at es here ds) x) ∙ f)),
            subst (λ z. EqnsDefinite z (λ p. class (Equations ∷ p)) qs) (sym (known_same k class (block ds es) here))
                (definite_eqns (known_in (block ds es) class k) (λ p. class (Equations ∷ p)) es (below Equations here) h.1.1),
          ),
        )

    definite_eqns : (k : Known) (class : classes.Assignment) (es : Eqns) (here : Place → Place) → EqnsDefinite k class es → EqnsDefinite k class (all_with_clocks at here es)
    definite_eqns k class no_eqn here h = tt
    definite_eqns k class (more_eqns e es) here h = (definite_eqn k (λ p. class (Head ∷ p)) e (below Head here) h.0, definite_eqns k (λ p. class (Tail ∷ p)) es (below Tail here) h.1)

    definite_eqn : (k : Known) (class : classes.Assignment) (e : Eqn) (here : Place → Place) → EqnDefinite k class e → EqnDefinite k class (one_with_clocks at here e)
    definite_eqn k class (define s ys e) here h = tt
    definite_eqn k class (switch s e arms) here h =
        subst (λ z. ArmsDefinite z (λ p. class (ArmsOf ∷ p)) (arms_with_clocks at (below ArmsOf here) arms)) (sym (within_same k (switch s e arms) here))
        (definite_arms (known_within (switch s e arms) k) (λ p. class (ArmsOf ∷ p)) arms (below ArmsOf here) h)
    definite_eqn k class (reset s b e) here h =
        subst (λ z. BlockDefinite z (λ p. class (Body ∷ p)) (with_clocks at (below Body here) b)) (sym (within_same k (reset s b e) here))
        (definite_block (known_within (reset s b e) k) (λ p. class (Body ∷ p)) b (below Body here) h)
    definite_eqn k class (automaton s ss) here h =
        subst (λ z. StatesDefinite z (λ p. class (StatesOf ∷ p)) (states_with_clocks at (below StatesOf here) ss)) (sym (within_same k (automaton s ss) here))
        (definite_states (known_within (automaton s ss) k) (λ p. class (StatesOf ∷ p)) ss (below StatesOf here) h)

    definite_arms : (k : Known) (class : classes.Assignment) (arms : Arms) (here : Place → Place) → ArmsDefinite k class arms → ArmsDefinite k class (arms_with_clocks at here arms)
    definite_arms k class no_arm here h = tt
    definite_arms k class (more_arms c b s arms) here h = (definite_block k (λ p. class (Head ∷ p)) b (below Head here) h.0, definite_arms k (λ p. class (Tail ∷ p)) arms (below Tail here) h.1)

    definite_states : (k : Known) (class : classes.Assignment) (ss : States) (here : Place → Place) → StatesDefinite k class ss → StatesDefinite k class (states_with_clocks at here ss)
    definite_states k class no_state here h = tt
    definite_states k class (more_states f b until unless s ss) here h =
        (definite_block k (λ p. class (Head ∷ Body ∷ p)) b (below Body (below Head here)) h.0, definite_states k (λ p. class (Tail ∷ p)) ss (below Tail here) h.1)

  definite_contract : (k : Known) (class : classes.Assignment) (o : Option Contract) → ContractDefinite k class o → ContractDefinite k class (contract_with_clocks at o)
  definite_contract k class None h = tt
  definite_contract k class (Some c) h = definite_block k class c.body in_observer h

  -- ---- what is wanted is met

  met_clocks : (second : Classes) (es : Eqns) (here : Place → Place) (ds : List Decl) → LocalsFirst at second es here ds → first_unmet (of_decls second (map (with_clock at es here) ds)) ≡ None
  met_clocks second es here [] f = refl
  met_clocks second es here (d ∷ ds) f =
      let clock = value at (local_term es here d) in
      met_append (record { at = d.span; met = path_first second (reverse clock) } ∷ []) (of_decls second (map (with_clock at es here) ds))
      (met_alone d.span (path_first second (reverse clock)) (reversed second clock f.0)) (met_clocks second es here ds f.1)

  mutual
    met_block : (k : Known) (class : classes.Assignment) (b : Block) (here : Place → Place) → BlockFirst at k class here b → first_unmet (of_block k class b) ≡ None → first_unmet (of_block k class (with_clocks at here b)) ≡ None
    met_block k class (block ds es) here f h =
        let fs = map (with_clock at es here) ds in
        let qs = all_with_clocks at (below Equations here) es in
        let z = known_in (block ds es) class k in
        let c : classes.Assignment = λ p. class (Equations ∷ p) in
        subst (λ y. first_unmet (of_decls y.values fs ++ of_eqns y fs c qs) ≡ None) (sym (known_same k class (block ds es) here))
        (met_append (of_decls z.values fs) (of_eqns z fs c qs) (met_clocks z.values es here ds f.0)
        (met_eqns z ds fs (same_clocks at es here ds) c es (below Equations here) f.1 (met_right (of_decls z.values ds) (of_eqns z ds c es) h)))

    met_eqns : (k : Known) (ds fs : List Decl) → SameDecls ds fs → (class : classes.Assignment) (es : Eqns) (here : Place → Place) → EqnsFirst at k class here es → first_unmet (of_eqns k ds class es) ≡ None → first_unmet (of_eqns k fs class (all_with_clocks at here es)) ≡ None
    met_eqns k ds fs q class no_eqn here f h = refl
    met_eqns k ds fs q class (more_eqns e es) here f h =
        let a : classes.Assignment = λ p. class (Head ∷ p) in
        let b : classes.Assignment = λ p. class (Tail ∷ p) in
        met_append (of_eqn k fs a (one_with_clocks at (below Head here) e)) (of_eqns k fs b (all_with_clocks at (below Tail here) es))
        (met_eqn k ds fs q a e (below Head here) f.0 (met_left (of_eqn k ds a e) (of_eqns k ds b es) h))
        (met_eqns k ds fs q b es (below Tail here) f.1 (met_right (of_eqn k ds a e) (of_eqns k ds b es) h))

    met_eqn : (k : Known) (ds fs : List Decl) → SameDecls ds fs → (class : classes.Assignment) (e : Eqn) (here : Place → Place) → EqnFirst at k class here e → first_unmet (of_eqn k ds class e) ≡ None → first_unmet (of_eqn k fs class (one_with_clocks at here e)) ≡ None
    met_eqn k ds fs q class (define s ys e) here f h =
        subst (λ m. first_unmet (record { at = s; met = is_met k.values e && not (m && is_second k.values e) } ∷ []) ≡ None) (sym (some_must_same ds fs q ys)) h
    met_eqn k ds fs q class (switch s e arms) here f h =
        let c : classes.Assignment = λ p. class (ArmsOf ∷ p) in
        let z = known_within (switch s e arms) k in
        let bs = arms_with_clocks at (below ArmsOf here) arms in
        subst (λ y. first_unmet (of_test k.values e ++ of_arms y c bs) ≡ None) (sym (within_same k (switch s e arms) here))
        (met_append (of_test k.values e) (of_arms z c bs) (met_left (of_test k.values e) (of_arms z c arms) h)
        (met_arms z c arms (below ArmsOf here) f (met_right (of_test k.values e) (of_arms z c arms) h)))
    met_eqn k ds fs q class (reset s b e) here f h =
        let c : classes.Assignment = λ p. class (Body ∷ p) in
        let z = known_within (reset s b e) k in
        let d = with_clocks at (below Body here) b in
        subst (λ y. first_unmet (of_block y c d ++ of_test k.values e) ≡ None) (sym (within_same k (reset s b e) here))
        (met_append (of_block z c d) (of_test k.values e) (met_block z c b (below Body here) f (met_left (of_block z c b) (of_test k.values e) h))
        (met_right (of_block z c b) (of_test k.values e) h))
    met_eqn k ds fs q class (automaton s ss) here f h =
        let c : classes.Assignment = λ p. class (StatesOf ∷ p) in
        subst (λ y. first_unmet (of_states k y c (states_with_clocks at (below StatesOf here) ss)) ≡ None) (sym (within_same k (automaton s ss) here))
        (met_states k (known_within (automaton s ss) k) c ss (below StatesOf here) f h)

    met_arms : (k : Known) (class : classes.Assignment) (arms : Arms) (here : Place → Place) → ArmsFirst at k class here arms → first_unmet (of_arms k class arms) ≡ None → first_unmet (of_arms k class (arms_with_clocks at here arms)) ≡ None
    met_arms k class no_arm here f h = refl
    met_arms k class (more_arms c b s arms) here f h =
        let a : classes.Assignment = λ p. class (Head ∷ p) in
        let t : classes.Assignment = λ p. class (Tail ∷ p) in
        met_append (of_block k a (with_clocks at (below Head here) b)) (of_arms k t (arms_with_clocks at (below Tail here) arms))
        (met_block k a b (below Head here) f.0 (met_left (of_block k a b) (of_arms k t arms) h))
        (met_arms k t arms (below Tail here) f.1 (met_right (of_block k a b) (of_arms k t arms) h))

    met_states : (out k : Known) (class : classes.Assignment) (ss : States) (here : Place → Place) → StatesFirst at k class here ss → first_unmet (of_states out k class ss) ≡ None → first_unmet (of_states out k class (states_with_clocks at here ss)) ≡ None
    met_states out k class no_state here f h = refl
    met_states out k class (more_states j b until unless s ss) here f h =
        let a : classes.Assignment = λ p. class (Head ∷ Body ∷ p) in
        let t : classes.Assignment = λ p. class (Tail ∷ p) in
        let g : Place → Place = below Body (below Head here) in
        let inner = known_in b a k in
        let rest = of_states out k t ss in
        let rest' = of_states out k t (states_with_clocks at (below Tail here) ss) in
        let h1 = met_right (of_block k a b) (of_tests inner.values until ++ (of_tests out.values unless ++ rest)) h in
        let h2 = met_right (of_tests inner.values until) (of_tests out.values unless ++ rest) h1 in
        subst (λ y. first_unmet (of_block k a (with_clocks at g b) ++ (of_tests y.values until ++ (of_tests out.values unless ++ rest'))) ≡ None) (sym (known_same k a b g))
        (met_append (of_block k a (with_clocks at g b)) (of_tests inner.values until ++ (of_tests out.values unless ++ rest'))
        (met_block k a b g f.0 (met_left (of_block k a b) (of_tests inner.values until ++ (of_tests out.values unless ++ rest)) h))
        (met_append (of_tests inner.values until) (of_tests out.values unless ++ rest') (met_left (of_tests inner.values until) (of_tests out.values unless ++ rest) h1)
        (met_append (of_tests out.values unless) rest' (met_left (of_tests out.values unless) rest h2) (met_states out k t ss (below Tail here) f.1 (met_right (of_tests out.values unless) rest h2)))))

  met_contract : (k : Known) (class : classes.Assignment) (o : Option Contract) → ContractFirst at k class o → first_unmet (of_contract k class o) ≡ None → first_unmet (of_contract k class (contract_with_clocks at o)) ≡ None
  met_contract k class None f h = refl
  met_contract k class (Some c) f h =
      let inner = known_in c.body class k in
      let told = of_told inner.values c.assume ++ of_told inner.values c.enforce in
      subst (λ y. first_unmet (of_block k class (with_clocks at in_observer c.body) ++ (of_told y.values c.assume ++ of_told y.values c.enforce)) ≡ None) (sym (known_same k class c.body in_observer))
      (met_append (of_block k class (with_clocks at in_observer c.body)) told (met_block k class c.body in_observer f (met_left (of_block k class c.body) told h)) (met_right (of_block k class c.body) told h))

  -- ---- nodes

  pub classes_kept : (n : Node) (class : classes.Assignment) → NodeFirst at class n → HasClasses class n → HasClasses class (node_with_clocks at n)
  classes_kept n class f h =
      let k = known_outputs n class in
      let m = node_with_clocks at n in
      let a : classes.Assignment = λ p. class (Observer ∷ p) in
      let b : classes.Assignment = λ p. class (Body ∷ p) in
      let same = sym (outputs_same n class) in
      record {
        follow = subst (λ z. ContractFollows z a m.contract × BlockFollows z b m.body) same (follow_contract k a n.contract h.follow.0, follow_block k b n.body in_body h.follow.1);
        met =
            subst (λ z. first_unmet (of_contract z a m.contract ++ of_block z b m.body) ≡ None) same
            (met_append (of_contract k a m.contract) (of_block k b m.body)
            (met_contract k a n.contract f.0 (met_left (of_contract k a n.contract) (of_block k b n.body) h.met))
            (met_block k b n.body in_body f.1 (met_right (of_contract k a n.contract) (of_block k b n.body) h.met)));
        definite = subst (λ z. ContractDefinite z a m.contract × BlockDefinite z b m.body) same (definite_contract k a n.contract h.definite.0, definite_block k b n.body in_body h.definite.1);
      }
