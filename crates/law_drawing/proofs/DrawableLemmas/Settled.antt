-- A sound node whose parts are tidy, with its shortest clocks, can be drawn.
use Rattle.std.proofs.Common.{◌≡◌, inl, inr, ℕ, List, [], ◌∷◌, ◌++◌, map, reverse, refl, sym, ap, subst, ◌∙◌}
use Rattle.std.specs.Prelude.{Bool, true, false, ◌||◌, IsTrue, IsFalse, Option, None, Some}
use Rattle.std.specs.Str.{bytes_eq}
use Rattle.hp_base.specs.declared.span.Span.{Span}
use Rattle.hp_base.specs.declared.ty.Ty.{Ty}
use Rattle.hp_tree.specs.Blocks.{Decl, Block, block, Eqns, no_eqn, more_eqns, Eqn, define, switch, reset, automaton, Arms, no_arm, more_arms, States, no_state, more_states}
use Rattle.hp_tree.specs.Programs.{TypeDecl, Contract, Node}
use Rattle.hp_tree.specs.Instant.{Clock, Place, Body, Equations, Head, Tail, Arms as ArmsOf, States as StatesOf}
use Rattle.hp_tree.specs.Meaning.{declares, controls_of}
use Rattle.hp_base.specs.Known.Known.{lookup}
use Rattle.hp_typing.specs.Scopes.{with_variables, inside_node}
use Rattle.hp_typing.specs.Types.{type_of}
use Rattle.law_judged.specs.Typed.Scopes.{Scope}
use Rattle.hp_meaning.specs.Causal.Sources.{below}
use Rattle.hp_meaning.specs.Clocking.Terms.{value, IsShortest}
use Rattle.hp_meaning.specs.Clocking.Clocking.{Assignment, IsAllowed, AreOnce, local_term, with_clock, base_written, with_clocks, all_with_clocks, one_with_clocks, arms_with_clocks, states_with_clocks, in_observer, in_body, contract_with_clocks, node_with_clocks}
use Rattle.law_judged.specs.Named.Scoped.{no_names, also, interface, NodeScoped}
use Rattle.law_judged.proofs.NamedLemmas.Sets.{or_right, same_name}
use Rattle.law_judged.specs.Once.Once.{BlockOnce, AllOnce, OneOnce, ArmsOnce, StatesOnce, ContractOnce, DefinedOnce}
use Rattle.law_equations.specs.Made.Blocks.{LeftsOnce}
use Rattle.law_automata.specs.Readied.Single.{BlockSingle, EqnsSingle, EqnSingle, ArmsSingle, StatesSingle, ContractSingle, NodeSingle}
use Rattle.law_values.specs.Filled.Firsts.{BlockHasFirsts, EqnsHaveFirsts, EqnHasFirsts, ArmsHaveFirsts, StatesHaveFirsts, ContractHasFirsts, NodeHasFirsts}
use Rattle.law_values.specs.Valued.Judged.{Lasts, lasts_in, no_lasts, of_arms, body_scope, HaveOwnTypes, BlockSound, EqnsSound, EqnSound, ArmsSound, StatesSound, ContractSound, NodeSound}
use Rattle.law_games.specs.Mirror.Memories.{AreApart}
use Rattle.law_wellmade.specs.Tested.Around.{Around, Declares, among, AllConses, interface_of}
use Rattle.law_wellmade.proofs.TestedLemmas.GoodClocks.{AllGood, reversed, LocalsGood, BlockHas, EqnsHave, EqnHas, ArmsHave, StatesHave}
use Rattle.law_drawing.specs.Carrying.Typing.{PathFits}
use Rattle.law_drawing.specs.Carrying.Drawable.{PathsFit, LeftsApart, BlockDrawable, EqnsDrawable, EqnDrawable, ArmsDrawable, StatesDrawable, ContractDrawable, NodeDrawable}
use Rattle.law_drawing.specs.Drawable.Tidy.{BlockTidy, EqnsTidy, EqnTidy, ArmsTidy, StatesTidy, ContractTidy, NodeTidy}
use Rattle.law_drawing.proofs.DrawableLemmas.Renamed.{SameStates, states_same}
use Rattle.law_drawing.proofs.DrawableLemmas.Judged.{Same, same_more}
use Rattle.law_drawing.proofs.DrawableLemmas.GoodSteps.{ContractHas, clocks_good}
use Rattle.law_drawing.proofs.DrawableLemmas.Steps.{fitting, scope_written, local_written, Told, Unknown, unknown_more, block_good, contract_good}
use Rattle.law_drawing.proofs.DrawableLemmas.Members.{Owned, OwnType, Rich, rich_more, type_member, kind_same, arms_fit}

-- ---- names of their own

apart_of : (ds : List Decl) → AreOnce ds → AreApart ds
apart_of [] h = tt
apart_of (d ∷ ds) h = (h.0, apart_of ds h.1)

lefts_apart : (ys : List (List ℕ × Span)) → LeftsOnce ys → LeftsApart ys
lefts_apart [] h = tt
lefts_apart (y ∷ ys) h = (h.0, lefts_apart ys h.1)

once_then : (ds es : List Decl) → AreOnce (ds ++ es) → AreOnce es
once_then [] es h = h
once_then (d ∷ ds) es h = once_then ds es h.1

declared_then : (ds es : List Decl) (x : List ℕ) → IsTrue (declares es x) → IsTrue (declares (ds ++ es) x)
declared_then [] es x h = h
declared_then (d ∷ ds) es x h = or_right (bytes_eq d.name x) (declares (ds ++ es) x) (declared_then ds es x h)

-- what is declared first is not declared later
none_later : (ds es : List Decl) (x : List ℕ) → AreOnce (ds ++ es) → IsTrue (declares ds x) → IsFalse (declares es x)
none_later [] es x o h = absurd (cc)
none_later (d ∷ ds) es x o h = by (bytes_eq d.name x) refl h (none_later ds es x o.1)
  where
    other : (b : Bool) → declares es x ≡ b → bytes_eq d.name x ≡ true → b ≡ false
    other true e q =
        let k : IsTrue (declares (ds ++ es) d.name) = subst (λ z. IsTrue (declares (ds ++ es) z)) (sym (same_name d.name x q)) (declared_then ds es x e) in
        let f : IsFalse (declares (ds ++ es) d.name) = o.0 in
        absurd (cc)
    other false e q = refl

    by : (b : Bool) → bytes_eq d.name x ≡ b → IsTrue (b || declares ds x) → (IsTrue (declares ds x) → IsFalse (declares es x)) → IsFalse (declares es x)
    by true e k f = other (declares es x) refl e
    by false e k f = f k

-- ---- parts with their clocks

arms_same : (at : Assignment) (here : Place → Place) (arms : Arms) → of_arms (arms_with_clocks at here arms) ≡ of_arms arms
arms_same at here no_arm = refl
arms_same at here (more_arms c b s arms) = ap (λ cs. c ∷ cs) (arms_same at (below Tail here) arms)

same_states : (at : Assignment) (here : Place → Place) (ss : States) → SameStates ss (states_with_clocks at here ss)
same_states at here no_state = tt
same_states at here (more_states f b until unless s ss) = (refl, same_states at (below Tail here) ss)

path_fits : (s : Scope) (path : Clock) → AllGood (fitting s) path → PathFits s path
path_fits s [] h = tt
path_fits s (step ∷ path) h = (h.0, path_fits s path h.1)

module _ (types : List TypeDecl) (nodes : List ℕ → Option Node) (known : Scope) (owned : Owned types known) (own : OwnType types) (at : Assignment) where
  paths_fit : (es : Eqns) (here : Place → Place) (s : Scope) (ds : List Decl) → LocalsGood fitting at (fitting s) es here ds → PathsFit s (map (with_clock at es here) ds)
  paths_fit es here s [] h = tt
  paths_fit es here s (d ∷ ds) h = let c = value at (local_term es here d) in (path_fits s (reverse c) (reversed (fitting s) c h.0), paths_fit es here s ds h.1)

  mutual
    block_drawable : (b : Block) (here : Place → Place) (s : Scope) (G : Around) (lasts : Lasts) → Same known s → Rich types s → BlockTidy known G b → BlockSound types nodes s lasts (with_clocks at here b) → BlockHas fitting at s here b
        → BlockOnce (with_clocks at here b) → BlockSingle (with_clocks at here b) → BlockHasFirsts types (with_clocks at here b) → BlockDrawable s (with_clocks at here b)
    block_drawable (block ds es) here s G lasts same r a ok has once single firsts =
        let s' = with_variables s ds in
        let ds' = map (with_clock at es here) ds in
        let es' = all_with_clocks at (below Equations here) es in
        let e = local_written at es here ds s in
        let inner = subst (λ z. EqnsSound types nodes z (lasts_in ds' lasts) es') e ok.1.1 in
        let r' = subst (Rich types) e (rich_more types ds' s firsts.0 r) in (
          apart_of ds' single.0,
          subst (λ z. PathsFit z ds' × EqnsDrawable z es') (sym e)
              (paths_fit es here s' ds has.0, eqns_drawable es (below Equations here) s' (among G ds) (lasts_in ds' lasts) (same_more known s ds same) r' a.1 inner has.1 once single.1 firsts.1),
        )

    eqns_drawable : (es : Eqns) (here : Place → Place) (s : Scope) (G : Around) (lasts : Lasts) → Same known s → Rich types s → EqnsTidy known G es → EqnsSound types nodes s lasts (all_with_clocks at here es) → EqnsHave fitting at s here es
        → AllOnce (all_with_clocks at here es) → EqnsSingle (all_with_clocks at here es) → EqnsHaveFirsts types (all_with_clocks at here es) → EqnsDrawable s (all_with_clocks at here es)
    eqns_drawable no_eqn here s G lasts same r a ok has once single firsts = tt
    eqns_drawable (more_eqns e es) here s G lasts same r a ok has once single firsts = (
      once.0,
      (
        eqn_drawable e (below Head here) s G lasts same r a.0 ok.0 has.0 once.1.0 single.0 firsts.0,
        eqns_drawable es (below Tail here) s G lasts same r a.1 ok.1 has.1 once.1.1 single.1 firsts.1,
      ),
    )

    eqn_drawable : (e : Eqn) (here : Place → Place) (s : Scope) (G : Around) (lasts : Lasts) → Same known s → Rich types s → EqnTidy known G e → EqnSound types nodes s lasts (one_with_clocks at here e) → EqnHas fitting at s here e
        → OneOnce (one_with_clocks at here e) → EqnSingle (one_with_clocks at here e) → EqnHasFirsts types (one_with_clocks at here e) → EqnDrawable s (one_with_clocks at here e)
    eqn_drawable (define p ys e) here s G lasts same r a ok has once single firsts = lefts_apart ys single
    eqn_drawable (switch p e arms) here s G lasts same r a ok has once single firsts =
        let h = below ArmsOf here in
        let arms' = arms_with_clocks at h arms in
        let u = ok.1.0.0 in
        let q = ok.1.0.1.0 in
        let all = subst (λ cs. AllConses known a.0.0 cs) (sym (arms_same at h arms)) a.0.1 in
        let k = kind_same types known owned own u a.0.0 (of_arms arms') (type_member types known owned own s same r e u q) ok.1.0.1.1 all in (
          arms_fit types known owned own s same (type_of s e) u q arms' (subst (λ z. AllConses known z (of_arms arms')) k all),
          arms_drawable arms h (switch p e arms') s G lasts same r a.1 ok.1.1 has once single firsts,
        )
    eqn_drawable (reset p b e) here s G lasts same r a ok has once single firsts = block_drawable b (below Body here) s G lasts same r a ok.1 has once single firsts
    eqn_drawable (automaton p ss) here s G lasts same r a ok has once single firsts =
        let h = below StatesOf here in
        let ss' = states_with_clocks at h ss in
        (states_same ss ss' (same_states at h ss) a.0, states_drawable ss h (automaton p ss') s G lasts same r a.1 ok has once single firsts)

    arms_drawable : (arms : Arms) (here : Place → Place) (z : Eqn) (s : Scope) (G : Around) (lasts : Lasts) → Same known s → Rich types s → ArmsTidy known G arms → ArmsSound types nodes z s lasts (arms_with_clocks at here arms) → ArmsHave fitting at s here arms
        → ArmsOnce (arms_with_clocks at here arms) → ArmsSingle (arms_with_clocks at here arms) → ArmsHaveFirsts types (arms_with_clocks at here arms) → ArmsDrawable s (arms_with_clocks at here arms)
    arms_drawable no_arm here z s G lasts same r a ok has once single firsts = tt
    arms_drawable (more_arms c b p arms) here z s G lasts same r a ok has once single firsts =
        (block_drawable b (below Head here) s G lasts same r a.0 ok.1.0 has.0 once.0 single.0 firsts.0, arms_drawable arms (below Tail here) z s G lasts same r a.1 ok.1.1 has.1 once.1 single.1 firsts.1)

    states_drawable : (ss : States) (here : Place → Place) (z : Eqn) (s : Scope) (G : Around) (lasts : Lasts) → Same known s → Rich types s → StatesTidy known G ss → StatesSound types nodes z s lasts (states_with_clocks at here ss) → StatesHave fitting at s here ss
        → StatesOnce (states_with_clocks at here ss) → StatesSingle (states_with_clocks at here ss) → StatesHaveFirsts types (states_with_clocks at here ss) → StatesDrawable s (states_with_clocks at here ss)
    states_drawable no_state here z s G lasts same r a ok has once single firsts = tt
    states_drawable (more_states f b until unless p ss) here z s G lasts same r a ok has once single firsts =
        (block_drawable b (below Body (below Head here)) s G lasts same r a.0 ok.1.0 has.0 once.0 single.0 firsts.0, states_drawable ss (below Tail here) z s G lasts same r a.1 ok.1.1.1.1 has.1 once.1 single.1 firsts.1)

  contract_drawable : (o : Option Contract) (s : Scope) (G : Around) (lasts : Lasts) → Same known s → Rich types s → ContractTidy known G o → ContractSound types nodes s lasts (contract_with_clocks at o) → ContractHas fitting at s o
      → ContractOnce (contract_with_clocks at o) → ContractSingle (contract_with_clocks at o) → ContractHasFirsts types (contract_with_clocks at o) → ContractDrawable s (contract_with_clocks at o)
  contract_drawable None s G lasts same r a ok has once single firsts = tt
  contract_drawable (Some c) s G lasts same r a ok has once single firsts = block_drawable c.body in_observer s G lasts same r a ok.0 has once single firsts

-- ---- nodes

base_same : (ds : List Decl) (s : Scope) → with_variables s (map base_written ds) ≡ with_variables s ds
base_same ds s = scope_written base_written (λ d. refl) (λ d. refl) ds s

controls_written : (at : Assignment) (o : Option Contract) → controls_of (contract_with_clocks at o) ≡ map base_written (controls_of o)
controls_written at None = refl
controls_written at (Some c) = refl

node_same : (at : Assignment) (m : Node) (s : Scope) → inside_node s (node_with_clocks at m) ≡ inside_node s m
node_same at m s = ap (λ z. with_variables z (map base_written m.outputs)) (base_same m.inputs s) ∙ base_same m.outputs (with_variables s m.inputs)

body_same : (at : Assignment) (m : Node) (s : Scope) → body_scope s (node_with_clocks at m) ≡ body_scope s m
body_same at m s =
    ap (λ z. with_variables z (controls_of (contract_with_clocks at m.contract))) (node_same at m s) ∙ ap (λ cs. with_variables (inside_node s m) cs) (controls_written at m.contract)
    ∙ base_same (controls_of m.contract) (inside_node s m)

told_base : (types : List TypeDecl) (nodes : List ℕ → Option Node) (s : Scope) (ds : List Decl) → HaveOwnTypes types nodes s (map base_written ds) → (x : List ℕ) (t : Ty) → Declares ds x t → lookup s.variables x ≡ Some t
told_base types nodes s [] o x t h = absurd h
told_base types nodes s (d ∷ ds) o x t (inl h) = subst (λ z. lookup s.variables z ≡ Some t) h.0 (o.0 ∙ ap Some h.1)
told_base types nodes s (d ∷ ds) o x t (inr h) = told_base types nodes s ds o.1 x t h

told_interface : (types : List TypeDecl) (nodes : List ℕ → Option Node) (s : Scope) (m : Node) → HaveOwnTypes types nodes s (map base_written m.inputs) → HaveOwnTypes types nodes s (map base_written m.outputs) → Told (interface_of m) s
told_interface types nodes s m i o x t (inl h) = told_base types nodes s m.outputs o x t h
told_interface types nodes s m i o x t (inr (inl h)) = told_base types nodes s m.inputs i x t h
told_interface types nodes s m i o x t (inr (inr h)) = absurd h

told_body : (types : List TypeDecl) (nodes : List ℕ → Option Node) (s : Scope) (m : Node) → HaveOwnTypes types nodes s (map base_written m.inputs) → HaveOwnTypes types nodes s (map base_written m.outputs) → HaveOwnTypes types nodes s (map base_written (controls_of m.contract))
    → Told (among (interface_of m) (controls_of m.contract)) s
told_body types nodes s m i o c x t (inl h) = told_base types nodes s (controls_of m.contract) c x t h
told_body types nodes s m i o c x t (inr h) = told_interface types nodes s m i o x t h

-- In the scope in which it stands.
pub node_drawable : (types : List TypeDecl) (nodes : List ℕ → Option Node) (s : Scope) → Owned types s → OwnType types → Rich types s → ((x : List ℕ) → lookup s.variables x ≡ None) → (at : Assignment) (m : Node) → IsShortest (IsAllowed m) at → NodeTidy s m → NodeScoped m
    → NodeSound types nodes s (node_with_clocks at m) → NodeScoped (node_with_clocks at m) → NodeSingle (node_with_clocks at m) → DefinedOnce (node_with_clocks at m) → NodeHasFirsts types (node_with_clocks at m) → NodeDrawable s (node_with_clocks at m)
node_drawable types nodes s owned own rich empty at m short a sc ok scy single once firsts =
    let y = node_with_clocks at m in
    let cs = controls_of m.contract in
    let in_inputs = with_variables s m.inputs in
    let i = inside_node s m in
    let r = body_scope s m in
    let I = interface_of m in
    let ei = node_same at m s in
    let er = body_same at m s in
    let lasts = lasts_in y.outputs no_lasts in
    let sound : BlockSound types nodes r lasts y.body = subst (λ z. BlockSound types nodes z lasts y.body) er ok.1.1.1.1.0 in
    let observer : ContractSound types nodes i lasts y.contract = subst (λ z. ContractSound types nodes z lasts y.contract) ei ok.1.1.1.1.1 in
    let own_in : HaveOwnTypes types nodes r y.inputs = subst (λ z. HaveOwnTypes types nodes z y.inputs) er ok.1.0.0 in
    let own_out : HaveOwnTypes types nodes r y.outputs = subst (λ z. HaveOwnTypes types nodes z y.outputs) er ok.1.0.1 in
    let own_con : HaveOwnTypes types nodes r (map base_written cs) = subst (λ z. HaveOwnTypes types nodes r z) (controls_written at m.contract) (subst (λ z. HaveOwnTypes types nodes z (controls_of y.contract)) er ok.1.1.0) in
    let in_in : HaveOwnTypes types nodes i y.inputs = subst (λ z. HaveOwnTypes types nodes z y.inputs) ei ok.0.0 in
    let in_out : HaveOwnTypes types nodes i y.outputs = subst (λ z. HaveOwnTypes types nodes z y.outputs) ei ok.0.1 in
    let unknown_i : Unknown (interface m) i = unknown_more (also no_names m.inputs) in_inputs m.outputs (unknown_more no_names s m.inputs (λ x h. empty x)) in
    let unknown_r : Unknown (also (interface m) cs) r = unknown_more (interface m) i cs unknown_i in
    let same_i : Same s i = same_more s in_inputs m.outputs (same_more s s m.inputs refl) in
    let same_r : Same s r = same_more s i cs same_i in
    let rich_i : Rich types i = subst (Rich types) ei (rich_more types y.outputs (with_variables s y.inputs) firsts.outputs (rich_more types y.inputs s firsts.inputs rich)) in
    let rich_r : Rich types r = subst (Rich types) er (rich_more types (controls_of y.contract) (inside_node s y) firsts.controls (subst (Rich types) (sym ei) rich_i)) in
    let good_r = block_good types nodes s at m.body in_body r (also (interface m) cs) (also no_names m.outputs) (among I cs) lasts same_r (told_body types nodes r m own_in own_out own_con) unknown_r sc.body a.1.0 sound in
    let good_i = contract_good types nodes s at m.contract i (interface m) I lasts same_i (told_interface types nodes i m in_in in_out) unknown_i sc.contract a.1.1 observer in
    let has = clocks_good fitting i r m at good_i good_r short in
    record {
      outputs = apart_of y.outputs (once_then y.inputs y.outputs scy.once);
      inputs = λ x h. none_later y.inputs y.outputs x scy.once h;
      body = subst (λ z. BlockDrawable z y.body) (sym er) (block_drawable types nodes s owned own at m.body in_body r (among I cs) lasts same_r rich_r a.1.0 sound has.1 once.1 single.1 firsts.body);
      contract = subst (λ z. ContractDrawable z y.contract) (sym ei) (contract_drawable types nodes s owned own at m.contract i I lasts same_i rich_i a.1.1 observer has.0 once.0 single.0 firsts.contract);
    }
