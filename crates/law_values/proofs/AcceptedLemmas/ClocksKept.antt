-- Writing clocks keeps nodes sound, and plain.
use Rattle.std.proofs.Common.{◌≡◌, ℕ, List, [], ◌∷◌, ◌++◌, map, reverse, refl, sym, ap, ap₂, subst, ◌∙◌, ◌⊎◌, inl, inr, ⊎_elim}
use Rattle.std.specs.Prelude.{⊤, Bool, true, false, ◌&&◌, ◌||◌, not, is_some, IsTrue, IsFalse, if◌then◌else◌, Option, None, Some}
use Rattle.std.specs.Str.{bytes_eq}
use Rattle.hp_base.specs.declared.span.Span.{Span}
use Rattle.hp_base.specs.declared.ty.Ty.{Ty}
use Rattle.hp_base.specs.declared.ty.Const.{Const}
use Rattle.hp_tree.specs.declared.decl.Cons.{Cons}
use Rattle.hp_tree.specs.declared.block.Trans.{Trans}
use Rattle.hp_tree.specs.Expressions.{Expr}
use Rattle.hp_tree.specs.Blocks.{Decl, Block, block, Eqns, no_eqn, more_eqns, Eqn, define, switch, reset, automaton, Arms, no_arm, more_arms, States, no_state, more_states}
use Rattle.hp_tree.specs.Programs.{TypeDecl, Contract, Node}
use Rattle.hp_tree.specs.Instant.{Body, Observer, Named, Equations, Head, Tail, Arms as ArmsOf, States as StatesOf, Place, Clock}
use Rattle.hp_tree.specs.Meaning.{declares, defines, some_defines, arms_define, states_define, block_defines, controls_of}
use Rattle.hp_base.specs.Known.Known.{lookup, with_entry}
use Rattle.hp_typing.specs.Scopes.{with_variables, inside, inside_node}
use Rattle.law_judged.specs.Named.Scopes.{Scope}
use Rattle.hp_meaning.specs.Causal.Sources.{below}
use Rattle.hp_meaning.specs.Clocking.Terms.{value}
use Rattle.hp_meaning.specs.Clocking.Clocking.{Assignment, On, local_term, with_clock, base_written, with_clocks, all_with_clocks, one_with_clocks, arms_with_clocks, states_with_clocks, contract_with_clocks, node_with_clocks, in_observer, in_body}
use Rattle.law_values.specs.Valued.Judged.{Lasts, lasts_in, lasts_of, no_lasts, body_scope, of_arms, Covers, HaveOwnTypes, HaveEquations, FirstSound, DeclsSound, TestsSound, Completes, OthersKnown, BlockSound, EqnsSound, EqnSound, ArmsSound, StatesSound, ToldSound, ContractSound, NodeSound, HasState, IsPlain, AllPlain, OnePlain, ArmsPlain, StatesPlain, PlainContract}

-- ---- declarations that differ in their clocks alone

abbrev pub SameDecls : List Decl → List Decl → Type 0
SameDecls [] [] = ⊤
SameDecls (d ∷ ds) (e ∷ es) = ((e.name ≡ d.name) × ((e.ty ≡ d.ty) × (e.last ≡ d.last))) × SameDecls ds es
SameDecls ds es = ⊥

pub same_clocks : (at : Assignment) (es : Eqns) (here : Place → Place) (ds : List Decl) → SameDecls ds (map (with_clock at es here) ds)
same_clocks at es here [] = tt
same_clocks at es here (d ∷ ds) = ((refl, (refl, refl)), same_clocks at es here ds)

pub same_base : (ds : List Decl) → SameDecls ds (map base_written ds)
same_base [] = tt
same_base (d ∷ ds) = ((refl, (refl, refl)), same_base ds)

scope_same : (ds es : List Decl) → SameDecls ds es → (s : Scope) → with_variables s es ≡ with_variables s ds
scope_same [] [] q s = refl
scope_same (d ∷ ds) (e ∷ es) q s =
    scope_same ds es q.1 (with_variables s (e ∷ [])) ∙ ap (λ r. with_variables r ds) (ap₂ (λ x t. record s { variables = with_entry s.variables x t }) q.0.0 q.0.1.0)
scope_same [] (e ∷ es) q s = absurd q
scope_same (d ∷ ds) [] q s = absurd q

pub declares_same : (ds es : List Decl) → SameDecls ds es → (x : List ℕ) → declares es x ≡ declares ds x
declares_same [] [] q x = refl
declares_same (d ∷ ds) (e ∷ es) q x = ap₂ (λ y b. bytes_eq y x || b) q.0.0 (declares_same ds es q.1 x)
declares_same [] (e ∷ es) q x = absurd q
declares_same (d ∷ ds) [] q x = absurd q

lasts_at : (ds es : List Decl) → SameDecls ds es → (out : Lasts) (x : List ℕ) → lasts_in es out x ≡ lasts_in ds out x
lasts_at [] [] q out x = refl
lasts_at (d ∷ ds) (e ∷ es) q out x =
    let rest = lasts_at ds es q.1 out x in
    let y = q.0.0 in
    let o = q.0.1.1 in
    λ i. if bytes_eq (y i) x then (elim (o i) [ None ↦ out x | Some c ↦ true ]) else rest i
lasts_at [] (e ∷ es) q out x = absurd q
lasts_at (d ∷ ds) [] q out x = absurd q

lasts_same : (ds es : List Decl) → SameDecls ds es → (out : Lasts) → lasts_in es out ≡ lasts_in ds out
lasts_same ds es q out = λ i x. lasts_at ds es q out x i

-- ---- what is defined

module _ (at : Assignment) (x : List ℕ) where
  mutual
    pub block_same : (b : Block) (here : Place → Place) → block_defines (with_clocks at here b) x ≡ block_defines b x
    block_same (block ds es) here = ap₂ (λ a b. a && not b) (some_same es (below Equations here)) (declares_same ds (map (with_clock at es here) ds) (same_clocks at es here ds) x)

    pub some_same : (es : Eqns) (here : Place → Place) → some_defines (all_with_clocks at here es) x ≡ some_defines es x
    some_same no_eqn here = refl
    some_same (more_eqns e es) here = ap₂ (λ a b. a || b) (one_same e (below Head here)) (some_same es (below Tail here))

    pub one_same : (e : Eqn) (here : Place → Place) → defines (one_with_clocks at here e) x ≡ defines e x
    one_same (define s ys e) here = refl
    one_same (switch s e arms) here = arms_same arms (below ArmsOf here)
    one_same (reset s b e) here = block_same b (below Body here)
    one_same (automaton s ss) here = states_same ss (below StatesOf here)

    arms_same : (arms : Arms) (here : Place → Place) → arms_define (arms_with_clocks at here arms) x ≡ arms_define arms x
    arms_same no_arm here = refl
    arms_same (more_arms c b s arms) here = ap₂ (λ a b. a || b) (block_same b (below Head here)) (arms_same arms (below Tail here))

    states_same : (ss : States) (here : Place → Place) → states_define (states_with_clocks at here ss) x ≡ states_define ss x
    states_same no_state here = refl
    states_same (more_states f b until unless s ss) here = ap₂ (λ a b. a || b) (block_same b (below Body (below Head here))) (states_same ss (below Tail here))

pub true_as : (a b : Bool) → a ≡ b → IsTrue a → IsTrue b
true_as a b e h = subst IsTrue e h

-- ---- sound

module _ (types : List TypeDecl) (among : List ℕ → Option Node) (at : Assignment) where
  decls_clocked : (s : Scope) (es qs : Eqns) (ds fs : List Decl) → ((x : List ℕ) → some_defines qs x ≡ some_defines es x) → SameDecls ds fs → DeclsSound types among s es ds → DeclsSound types among s qs fs
  decls_clocked s es qs [] [] f q ok = tt
  decls_clocked s es qs (d ∷ ds) (e ∷ fs) f q ok = (
    (
      ap (λ z. lookup s.variables z) q.0.0 ∙ ok.0.0 ∙ ap Some (sym q.0.1.0),
      (
        true_as (some_defines es d.name) (some_defines qs e.name) (sym (f d.name) ∙ ap (some_defines qs) (sym q.0.0)) ok.0.1.0,
        subst (λ z. FirstSound types among e.ty z) (sym q.0.1.1) (subst (λ z. FirstSound types among z d.last) (sym q.0.1.0) ok.0.1.1),
      ),
    ),
    decls_clocked s es qs ds fs f q.1 ok.1,
  )
  decls_clocked s es qs [] (e ∷ fs) f q ok = absurd q
  decls_clocked s es qs (d ∷ ds) [] f q ok = absurd q

  arms_conses : (here : Place → Place) (arms : Arms) → of_arms arms ≡ of_arms (arms_with_clocks at here arms)
  arms_conses here no_arm = refl
  arms_conses here (more_arms c b s arms) = ap (λ cs. c ∷ cs) (arms_conses (below Tail here) arms)

  completes_clocked : (e d : Eqn) (lasts : Lasts) (b c : Block) → ((x : List ℕ) → defines d x ≡ defines e x) → ((x : List ℕ) → block_defines c x ≡ block_defines b x) → Completes types among e lasts b → Completes types among d lasts c
  completes_clocked e d lasts b c f g ok x h = ⊎_elim (λ l. inl (true_as (block_defines b x) (block_defines c x) (sym (g x)) l)) (λ l. inr l) (ok x (true_as (defines d x) (defines e x) (f x) h))

  until_clocked : (here : Place → Place) (b : Block) (s : Scope) (lasts : Lasts) (ts : List Trans) → TestsSound types among (inside s b) (lasts_of b lasts) ts → TestsSound types among (inside s (with_clocks at here b)) (lasts_of (with_clocks at here b) lasts) ts
  until_clocked here (block ds es) s lasts ts ok =
      let q = same_clocks at es here ds in
      subst (λ l. TestsSound types among (with_variables s (map (with_clock at es here) ds)) l ts) (sym (lasts_same ds (map (with_clock at es here) ds) q lasts))
      (subst (λ r. TestsSound types among r (lasts_in ds lasts) ts) (sym (scope_same ds (map (with_clock at es here) ds) q s)) ok)

  mutual
    pub block_clocked : (b : Block) (here : Place → Place) (s : Scope) (lasts : Lasts) → BlockSound types among s lasts b → BlockSound types among s lasts (with_clocks at here b)
    block_clocked (block ds es) here s lasts ok =
        let fs = map (with_clock at es here) ds in
        let q = same_clocks at es here ds in
        let qs = all_with_clocks at (below Equations here) es in (
          subst (λ r. DeclsSound types among r qs fs) (sym (scope_same ds fs q s)) (decls_clocked (with_variables s ds) es qs ds fs (λ x. some_same at x es (below Equations here)) q ok.0),
          (
            (λ x h f. ok.1.0 x (true_as (some_defines qs x) (some_defines es x) (some_same at x es (below Equations here)) h) (sym (declares_same ds fs q x) ∙ f)),
            subst (λ r. EqnsSound types among r (lasts_in fs lasts) qs) (sym (scope_same ds fs q s))
                (subst (λ l. EqnsSound types among (with_variables s ds) l qs) (sym (lasts_same ds fs q lasts)) (eqns_clocked es (below Equations here) (with_variables s ds) (lasts_in ds lasts) ok.1.1)),
          ),
        )

    eqns_clocked : (es : Eqns) (here : Place → Place) (s : Scope) (lasts : Lasts) → EqnsSound types among s lasts es → EqnsSound types among s lasts (all_with_clocks at here es)
    eqns_clocked no_eqn here s lasts ok = tt
    eqns_clocked (more_eqns e es) here s lasts ok = (eqn_clocked e (below Head here) s lasts ok.0, eqns_clocked es (below Tail here) s lasts ok.1)

    eqn_clocked : (e : Eqn) (here : Place → Place) (s : Scope) (lasts : Lasts) → EqnSound types among s lasts e → EqnSound types among s lasts (one_with_clocks at here e)
    eqn_clocked (define w ys e) here s lasts ok = ok
    eqn_clocked (switch w e arms) here s lasts ok = (
      ok.0,
      (
        (ok.1.0.0, (ok.1.0.1.0, subst (λ z. Covers types ok.1.0.0 z) (arms_conses (below ArmsOf here) arms) ok.1.0.1.1)),
        arms_clocked (switch w e arms) (switch w e (arms_with_clocks at (below ArmsOf here) arms)) (λ x. one_same at x (switch w e arms) here) arms (below ArmsOf here) s lasts ok.1.1,
      ),
    )
    eqn_clocked (reset w b e) here s lasts ok = (ok.0, block_clocked b (below Body here) s lasts ok.1)
    eqn_clocked (automaton w ss) here s lasts ok = states_clocked (automaton w ss) (automaton w (states_with_clocks at (below StatesOf here) ss)) (λ x. one_same at x (automaton w ss) here) ss (below StatesOf here) s lasts ok

    arms_clocked : (e d : Eqn) → ((x : List ℕ) → defines d x ≡ defines e x) → (arms : Arms) (here : Place → Place) (s : Scope) (lasts : Lasts) → ArmsSound types among e s lasts arms → ArmsSound types among d s lasts (arms_with_clocks at here arms)
    arms_clocked e d f no_arm here s lasts ok = tt
    arms_clocked e d f (more_arms c b w arms) here s lasts ok =
        (completes_clocked e d lasts b (with_clocks at (below Head here) b) f (λ x. block_same at x b (below Head here)) ok.0, (block_clocked b (below Head here) s lasts ok.1.0, arms_clocked e d f arms (below Tail here) s lasts ok.1.1))

    states_clocked : (e d : Eqn) → ((x : List ℕ) → defines d x ≡ defines e x) → (ss : States) (here : Place → Place) (s : Scope) (lasts : Lasts) → StatesSound types among e s lasts ss → StatesSound types among d s lasts (states_with_clocks at here ss)
    states_clocked e d f no_state here s lasts ok = tt
    states_clocked e d f (more_states j b until unless w ss) here s lasts ok =
        let h = below Body (below Head here) in (
          completes_clocked e d lasts b (with_clocks at h b) f (λ x. block_same at x b h) ok.0,
          (block_clocked b h s lasts ok.1.0, (until_clocked h b s lasts until ok.1.1.0, (ok.1.1.1.0, states_clocked e d f ss (below Tail here) s lasts ok.1.1.1.1))),
        )

  own_clocked : (s : Scope) (ds : List Decl) → HaveOwnTypes types among s ds → HaveOwnTypes types among s (map base_written ds)
  own_clocked s [] o = tt
  own_clocked s (d ∷ ds) o = (o.0, own_clocked s ds o.1)

  equations_clocked : (b : Block) (here : Place → Place) (ds : List Decl) → HaveEquations types among b ds → HaveEquations types among (with_clocks at here b) (map base_written ds)
  equations_clocked b here [] h = tt
  equations_clocked b here (d ∷ ds) h = ((true_as (block_defines b d.name) (block_defines (with_clocks at here b) d.name) (sym (block_same at d.name b here)) h.0.0, h.0.1), equations_clocked b here ds h.1)

  told_clocked : (here : Place → Place) (b : Block) (s : Scope) (lasts : Lasts) (o : Option Expr) → ToldSound types among (inside s b) (lasts_of b lasts) o → ToldSound types among (inside s (with_clocks at here b)) (lasts_of (with_clocks at here b) lasts) o
  told_clocked here (block ds es) s lasts o ok =
      let q = same_clocks at es here ds in
      subst (λ l. ToldSound types among (with_variables s (map (with_clock at es here) ds)) l o) (sym (lasts_same ds (map (with_clock at es here) ds) q lasts))
      (subst (λ r. ToldSound types among r (lasts_in ds lasts) o) (sym (scope_same ds (map (with_clock at es here) ds) q s)) ok)

  contract_clocked : (o : Option Contract) (s : Scope) (lasts : Lasts) → ContractSound types among s lasts o → ContractSound types among s lasts (contract_with_clocks at o)
  contract_clocked None s lasts ok = tt
  contract_clocked (Some c) s lasts ok = (block_clocked c.body in_observer s lasts ok.0, (told_clocked in_observer c.body s lasts c.assume ok.1.0, told_clocked in_observer c.body s lasts c.enforce ok.1.1))

  controls_clocked : (o : Option Contract) → controls_of (contract_with_clocks at o) ≡ map base_written (controls_of o)
  controls_clocked None = refl
  controls_clocked (Some c) = refl

  abbrev Pieces : Scope → Scope → Lasts → List Decl → List Decl → List Decl → Block → Option Contract → Type 0
  Pieces s b lasts ins outs cs body contract =
      (HaveOwnTypes types among s ins × HaveOwnTypes types among s outs)
      × ((HaveOwnTypes types among b ins × HaveOwnTypes types among b outs) × (HaveOwnTypes types among b cs × (HaveEquations types among body outs × (BlockSound types among b lasts body × ContractSound types among s lasts contract))))

  pub node_clocked : (n : Node) (s : Scope) → NodeSound types among s n → NodeSound types among s (node_with_clocks at n)
  node_clocked n s ok =
      let ins = map base_written n.inputs in
      let outs = map base_written n.outputs in
      let cs = map base_written (controls_of n.contract) in
      let e1 : with_variables (with_variables s ins) outs ≡ inside_node s n = scope_same n.outputs outs (same_base n.outputs) (with_variables s ins) ∙ ap (λ r. with_variables r n.outputs) (scope_same n.inputs ins (same_base n.inputs) s) in
      let e2 : with_variables (with_variables (with_variables s ins) outs) cs ≡ body_scope s n = scope_same (controls_of n.contract) cs (same_base (controls_of n.contract)) (with_variables (with_variables s ins) outs) ∙ ap (λ r. with_variables r (controls_of n.contract)) e1 in
      let l : lasts_in outs no_lasts ≡ lasts_in n.outputs no_lasts = lasts_same n.outputs outs (same_base n.outputs) no_lasts in
      let m = node_with_clocks at n in
      subst (λ z. Pieces (with_variables (with_variables s ins) outs) (with_variables (with_variables (with_variables s ins) outs) z) (lasts_in outs no_lasts) ins outs z m.body m.contract) (sym (controls_clocked n.contract))
      (subst (λ z. Pieces (with_variables (with_variables s ins) outs) (with_variables (with_variables (with_variables s ins) outs) cs) z ins outs cs m.body m.contract) (sym l)
      (subst (λ z. Pieces z (with_variables (with_variables (with_variables s ins) outs) cs) (lasts_in n.outputs no_lasts) ins outs cs m.body m.contract) (sym e1)
      (subst (λ z. Pieces (inside_node s n) z (lasts_in n.outputs no_lasts) ins outs cs m.body m.contract) (sym e2) (
        (own_clocked (inside_node s n) n.inputs ok.0.0, own_clocked (inside_node s n) n.outputs ok.0.1),
        (
          (own_clocked (body_scope s n) n.inputs ok.1.0.0, own_clocked (body_scope s n) n.outputs ok.1.0.1),
          (
            own_clocked (body_scope s n) (controls_of n.contract) ok.1.1.0,
            (
              equations_clocked n.body in_body n.outputs ok.1.1.1.0,
              (block_clocked n.body in_body (body_scope s n) (lasts_in n.outputs no_lasts) ok.1.1.1.1.0, contract_clocked n.contract (inside_node s n) (lasts_in n.outputs no_lasts) ok.1.1.1.1.1),
            ),
          ),
        ),
      ))))

-- ---- plain conditions

module _ (at : Assignment) where
  has_state : (here : Place → Place) (ss : States) → HasState ss → HasState (states_with_clocks at here ss)
  has_state here no_state h = absurd h
  has_state here (more_states f b until unless s ss) h = tt

  mutual
    pub block_plain : (b : Block) (here : Place → Place) → IsPlain b → IsPlain (with_clocks at here b)
    block_plain (block ds es) here h = eqns_plain es (below Equations here) h

    eqns_plain : (es : Eqns) (here : Place → Place) → AllPlain es → AllPlain (all_with_clocks at here es)
    eqns_plain no_eqn here h = tt
    eqns_plain (more_eqns e es) here h = (eqn_plain e (below Head here) h.0, eqns_plain es (below Tail here) h.1)

    eqn_plain : (e : Eqn) (here : Place → Place) → OnePlain e → OnePlain (one_with_clocks at here e)
    eqn_plain (define s ys e) here h = tt
    eqn_plain (switch s e arms) here h = arms_plain arms (below ArmsOf here) h
    eqn_plain (reset s b e) here h = block_plain b (below Body here) h
    eqn_plain (automaton s ss) here h = (has_state (below StatesOf here) ss h.0, states_plain ss (below StatesOf here) h.1)

    arms_plain : (arms : Arms) (here : Place → Place) → ArmsPlain arms → ArmsPlain (arms_with_clocks at here arms)
    arms_plain no_arm here h = tt
    arms_plain (more_arms c b s arms) here h = (block_plain b (below Head here) h.0, arms_plain arms (below Tail here) h.1)

    states_plain : (ss : States) (here : Place → Place) → StatesPlain ss → StatesPlain (states_with_clocks at here ss)
    states_plain no_state here h = tt
    states_plain (more_states f b until unless s ss) here h = (block_plain b (below Body (below Head here)) h.0, (h.1.0, states_plain ss (below Tail here) h.1.1))

  pub contract_plain : (o : Option Contract) → PlainContract o → PlainContract (contract_with_clocks at o)
  contract_plain None h = tt
  contract_plain (Some c) h = block_plain c.body in_observer h
