-- What is sound stays so where the known nodes get other clocks for their inputs and outputs.
use Rattle.std.proofs.Common.{◌≡◌, ℕ, List, [], ◌∷◌, map, refl, sym, ap, ap₂, subst, ◌∙◌, ◌⊎◌}
use Rattle.std.specs.Prelude.{⊤, Bool, true, false, ◌&&◌, ◌||◌, IsTrue, IsFalse, if◌then◌else◌, Option, None, Some}
use Rattle.hp_base.specs.declared.span.Span.{Span}
use Rattle.hp_base.specs.declared.ty.Ty.{Ty}
use Rattle.hp_base.specs.declared.ty.Const.{Const}
use Rattle.hp_base.specs.declared.ty.Const.TheVariants as const
use Rattle.hp_tree.specs.declared.decl.Cons.{Cons}
use Rattle.hp_tree.specs.declared.decl.Cons.TheVariants as cons
use Rattle.hp_tree.specs.declared.block.Trans.{Trans}
use Rattle.hp_tree.specs.Expressions.{Expr, constant, variable, last_of, one, two, choose, pre, fby, arrow, when_is, merge, call, Exprs, no_expr, more_exprs, Parts, no_part, more_parts}
use Rattle.hp_tree.specs.Blocks.{Decl, Block, block, Eqns, no_eqn, more_eqns, Eqn, define, switch, reset, automaton, Arms, no_arm, more_arms, States, no_state, more_states}
use Rattle.hp_tree.specs.Programs.{TypeDecl, Contract, Node}
use Rattle.hp_tree.specs.Meaning.{controls_of}
use Rattle.hp_base.specs.Known.Known.{lookup, with_entry}
use Rattle.hp_typing.specs.Scopes.{with_variables, inside, inside_node}
use Rattle.hp_typing.specs.Types.{agrees, chooses, where_true, two_type, if_type, pair_type, single, args_fit, outputs_in, enum_of, constant_type, cons_type, type_of_one, type_of, merge_type, parts_fit, types_in}
use Rattle.law_judged.specs.Named.Scopes.{Scope}
use Rattle.law_values.specs.Valued.Judged.{Lasts, lasts_in, lasts_of, no_lasts, body_scope, ConstantIs, LeftsAre, LeftsHave, ExprSound, ExprsSound, PartsSound, RightSound, TestSound, TestsSound, DeclsSound, BlockSound, EqnsSound, EqnSound, ArmsSound, StatesSound, HaveOwnTypes, HaveEquations, ToldSound, ContractSound, NodeSound}
use Rattle.law_values.proofs.AcceptedLemmas.ClocksKept.{SameDecls}

abbrev pub NodesAlike : Option Node → Option Node → Type 0
NodesAlike None None = ⊤
NodesAlike (Some n) (Some m) = SameDecls n.inputs m.inputs × SameDecls n.outputs m.outputs
NodesAlike o p = ⊥

abbrev OutsAlike : Option (List Decl) → Option (List Decl) → Type 0
OutsAlike None None = ⊤
OutsAlike (Some ds) (Some es) = SameDecls ds es
OutsAlike o p = ⊥

args_alike : (ds es : List Decl) → SameDecls ds es → (ts : List (Option Ty)) → args_fit es ts ≡ args_fit ds ts
args_alike [] [] q ts = refl
args_alike (d ∷ ds) (e ∷ es) q [] = refl
args_alike (d ∷ ds) (e ∷ es) q (t ∷ ts) = ap₂ (λ y b. agrees (Some y) t && b) q.0.1.0 (args_alike ds es q.1 ts)
args_alike [] (e ∷ es) q ts = absurd q
args_alike (d ∷ ds) [] q ts = absurd q

outs_alike : (o p : Option Node) → NodesAlike o p → (ts : List (Option Ty)) → OutsAlike (outputs_in o ts) (outputs_in p ts)
outs_alike None None a ts = tt
outs_alike (Some n) (Some m) a ts =
    subst (λ b. OutsAlike (if args_fit n.inputs ts then Some n.outputs else None) (if b then Some m.outputs else None)) (sym (args_alike n.inputs m.inputs a.0 ts)) (by (args_fit n.inputs ts))
  where
    by : (b : Bool) → OutsAlike (if b then Some n.outputs else None) (if b then Some m.outputs else None)
    by true = a.1
    by false = tt
outs_alike None (Some m) a ts = absurd a
outs_alike (Some n) None a ts = absurd a

single_alike : (o p : Option (List Decl)) → OutsAlike o p → single p ≡ single o
single_alike None None a = refl
single_alike (Some []) (Some []) a = refl
single_alike (Some (d ∷ [])) (Some (e ∷ [])) a = ap Some a.0.1.0
single_alike (Some (d ∷ d' ∷ ds)) (Some (e ∷ e' ∷ es)) a = refl
single_alike (Some []) (Some (e ∷ es)) a = absurd a
single_alike (Some (d ∷ ds)) (Some []) a = absurd a
single_alike (Some (d ∷ [])) (Some (e ∷ e' ∷ es)) a = absurd a.1
single_alike (Some (d ∷ d' ∷ ds)) (Some (e ∷ [])) a = absurd a.1
single_alike None (Some es) a = absurd a
single_alike (Some ds) None a = absurd a

taken : (o p : Option (List Decl)) (ds : List Decl) → OutsAlike o p → o ≡ Some ds → (es : List Decl) × ((p ≡ Some es) × SameDecls ds es)
taken o None ds a h = absurd (subst (λ z. OutsAlike z None) h a)
taken o (Some es) ds a h = (es, (refl, subst (λ z. OutsAlike z (Some es)) h a))

lefts_are : (s r : Scope) → r.variables ≡ s.variables → (ys : List (List ℕ × Span)) (ds es : List Decl) → SameDecls ds es → LeftsAre s ys ds → LeftsAre r ys es
lefts_are s r v [] [] [] q h = tt
lefts_are s r v (y ∷ ys) (d ∷ ds) (e ∷ es) q h = (ap (λ z. lookup z y.0) v ∙ h.0 ∙ ap Some (sym q.0.1.0), lefts_are s r v ys ds es q.1 h.1)
lefts_are s r v [] (d ∷ ds) es q h = absurd h
lefts_are s r v (y ∷ ys) [] es q h = absurd h
lefts_are s r v [] [] (e ∷ es) q h = absurd q
lefts_are s r v (y ∷ ys) (d ∷ ds) [] q h = absurd q

lefts_have : (s r : Scope) → r.variables ≡ s.variables → (ys : List (List ℕ × Span)) (t : Ty) → LeftsHave s ys t → LeftsHave r ys t
lefts_have s r v [] t h = tt
lefts_have s r v (y ∷ ys) t h = (ap (λ z. lookup z y.0) v ∙ h.0, lefts_have s r v ys t h.1)

module _ (types : List TypeDecl) (among before : List ℕ → Option Node) (ns : List (List ℕ × Node)) (known : (f : List ℕ) → lookup ns f ≡ before f) where
  abbrev to : Scope → Scope
  to s = record s { nodes = ns }

  abbrev Alike : Scope → Type 0
  Alike s = (f : List ℕ) → NodesAlike (lookup s.nodes f) (lookup ns f)

  alike_more : (ds : List Decl) (s : Scope) → Alike s → Alike (with_variables s ds)
  alike_more [] s a = a
  alike_more (d ∷ ds) s a = alike_more ds (record s { variables = with_entry s.variables d.name d.ty }) a

  to_more : (ds : List Decl) (s : Scope) → with_variables (to s) ds ≡ to (with_variables s ds)
  to_more [] s = refl
  to_more (d ∷ ds) s = to_more ds (record s { variables = with_entry s.variables d.name d.ty })

  constant_same : (s : Scope) (c : Const) → constant_type (to s) c ≡ constant_type s c
  constant_same s (const.B b) = refl
  constant_same s (const.I n) = refl
  constant_same s (const.E c) = refl

  cons_same : (s : Scope) (c : Cons) → cons_type (to s) c ≡ cons_type s c
  cons_same s cons.False = refl
  cons_same s cons.True = refl
  cons_same s (cons.Named c) = refl

  mutual
    type_same : (s : Scope) → Alike s → (e : Expr) → type_of (to s) e ≡ type_of s e
    type_same s a (constant at c) = constant_same s c
    type_same s a (variable at x) = refl
    type_same s a (last_of at x) = refl
    type_same s a (one at o e) = ap (λ z. where_true (agrees (Some (type_of_one o)) z) (Some (type_of_one o))) (type_same s a e)
    type_same s a (two at o e f) = ap₂ (λ y z. two_type o y z) (type_same s a e) (type_same s a f)
    type_same s a (choose at e f g) =
        let x = type_same s a e in
        let y = type_same s a f in
        let z = type_same s a g in
        λ i. if_type (x i) (y i) (z i)
    type_same s a (pre at e) = type_same s a e
    type_same s a (fby at e f) = ap₂ (λ y z. pair_type y z) (type_same s a e) (type_same s a f)
    type_same s a (arrow at e f) = ap₂ (λ y z. pair_type y z) (type_same s a e) (type_same s a f)
    type_same s a (when_is at e c x) = ap₂ (λ k z. where_true (agrees (lookup s.variables x) k) z) (cons_same s c) (type_same s a e)
    type_same s a (merge at x ps) = merge_same s a (lookup s.variables x) ps
    type_same s a (call at f i es) =
        ap (λ ts. single (outputs_in (lookup ns f) ts)) (types_same s a es)
        ∙ single_alike (outputs_in (lookup s.nodes f) (types_in s es)) (outputs_in (lookup ns f) (types_in s es)) (outs_alike (lookup s.nodes f) (lookup ns f) (a f) (types_in s es))

    merge_same : (s : Scope) → Alike s → (name : Option Ty) (ps : Parts) → merge_type (to s) name ps ≡ merge_type s name ps
    merge_same s a name no_part = refl
    merge_same s a name (more_parts c e ps) =
        let t : type_of (to s) e ≡ type_of s e = type_same s a e in
        let q : parts_fit (to s) name (type_of (to s) e) ps ≡ parts_fit s name (type_of s e) ps = ap (λ z. parts_fit (to s) name z ps) t ∙ parts_same s a name (type_of s e) ps in
        let k : cons_type (to s) c ≡ cons_type s c = cons_same s c in
        λ i. where_true (chooses name && (agrees name (k i) && q i)) (t i)

    parts_same : (s : Scope) → Alike s → (name first : Option Ty) (ps : Parts) → parts_fit (to s) name first ps ≡ parts_fit s name first ps
    parts_same s a name first no_part = refl
    parts_same s a name first (more_parts c e ps) =
        let t : type_of (to s) e ≡ type_of s e = type_same s a e in
        let q : parts_fit (to s) name first ps ≡ parts_fit s name first ps = parts_same s a name first ps in
        let k : cons_type (to s) c ≡ cons_type s c = cons_same s c in
        λ i. agrees name (k i) && (agrees first (t i) && q i)

    types_same : (s : Scope) → Alike s → (es : Exprs) → types_in (to s) es ≡ types_in s es
    types_same s a no_expr = refl
    types_same s a (more_exprs e es) = ap₂ (λ t ts. t ∷ ts) (type_same s a e) (types_same s a es)

  -- ---- expressions

  module _ (s : Scope) (a : Alike s) (lasts : Lasts) where
    mutual
      expr_to : (e : Expr) → ExprSound types among s lasts e → ExprSound types before (to s) lasts e
      expr_to (constant at c) h = λ t k. h t (sym (constant_same s c) ∙ k)
      expr_to (variable at x) h = tt
      expr_to (last_of at x) h = h
      expr_to (one at o e) h = expr_to e h
      expr_to (two at o e f) h = (expr_to e h.0, expr_to f h.1)
      expr_to (choose at e f g) h = (expr_to e h.0, (expr_to f h.1.0, expr_to g h.1.1))
      expr_to (pre at e) h = expr_to e h
      expr_to (fby at e f) h = (expr_to e h.0, expr_to f h.1)
      expr_to (arrow at e f) h = (expr_to e h.0, expr_to f h.1)
      expr_to (when_is at e c x) h = expr_to e h
      expr_to (merge at x ps) h = (h.0, parts_to ps h.1)
      expr_to (call at f i es) h = (known f, exprs_to es h.1)

      exprs_to : (es : Exprs) → ExprsSound types among s lasts es → ExprsSound types before (to s) lasts es
      exprs_to no_expr h = tt
      exprs_to (more_exprs e es) h = (expr_to e h.0, exprs_to es h.1)

      parts_to : (ps : Parts) → PartsSound types among s lasts ps → PartsSound types before (to s) lasts ps
      parts_to no_part h = tt
      parts_to (more_parts c e ps) h = (expr_to e h.0, parts_to ps h.1)

    abbrev Plainly : List (List ℕ × Span) → Expr → Type 0
    Plainly ys e = ExprSound types among s lasts e × ((t : Ty) × ((type_of s e ≡ Some t) × LeftsHave s ys t))

    plainly : (ys : List (List ℕ × Span)) (e : Expr) → Plainly ys e → ExprSound types before (to s) lasts e × ((t : Ty) × ((type_of (to s) e ≡ Some t) × LeftsHave (to s) ys t))
    plainly ys e h = (expr_to e h.0, (h.1.0, (type_same s a e ∙ h.1.1.0, lefts_have s (to s) refl ys h.1.0 h.1.1.1)))

    right_to : (ys : List (List ℕ × Span)) (e : Expr) → RightSound types among s lasts ys e → RightSound types before (to s) lasts ys e
    right_to ys (constant at c) h = plainly ys (constant at c) h
    right_to ys (variable at x) h = plainly ys (variable at x) h
    right_to ys (last_of at x) h = plainly ys (last_of at x) h
    right_to ys (one at o e) h = plainly ys (one at o e) h
    right_to ys (two at o e f) h = plainly ys (two at o e f) h
    right_to ys (choose at e f g) h = plainly ys (choose at e f g) h
    right_to ys (pre at e) h = plainly ys (pre at e) h
    right_to ys (fby at e f) h = plainly ys (fby at e f) h
    right_to ys (arrow at e f) h = plainly ys (arrow at e f) h
    right_to ys (when_is at e c x) h = plainly ys (when_is at e c x) h
    right_to ys (merge at x ps) h = plainly ys (merge at x ps) h
    right_to ys (call at f i es) h =
        let q = taken (outputs_in (lookup s.nodes f) (types_in s es)) (outputs_in (lookup ns f) (types_in s es)) h.1.0 (outs_alike (lookup s.nodes f) (lookup ns f) (a f) (types_in s es)) h.1.1.0 in
        (expr_to (call at f i es) h.0, (q.0, (ap (λ ts. outputs_in (lookup ns f) ts) (types_same s a es) ∙ q.1.0, lefts_are s (to s) refl ys h.1.0 q.0 q.1.1 h.1.1.1)))

    test_to : (e : Expr) → TestSound types among s lasts e → TestSound types before (to s) lasts e
    test_to e h = (expr_to e h.0, type_same s a e ∙ h.1)

    tests_to : (ts : List Trans) → TestsSound types among s lasts ts → TestsSound types before (to s) lasts ts
    tests_to [] h = tt
    tests_to (t ∷ ts) h = (test_to t.cond h.0, tests_to ts h.1)

  -- ---- blocks

  decls_to : (s : Scope) (es : Eqns) (ds : List Decl) → DeclsSound types among s es ds → DeclsSound types before (to s) es ds
  decls_to s es [] h = tt
  decls_to s es (d ∷ ds) h = (h.0, decls_to s es ds h.1)

  until_to : (b : Block) (s : Scope) → Alike s → (lasts : Lasts) (ts : List Trans) → TestsSound types among (inside s b) (lasts_of b lasts) ts → TestsSound types before (inside (to s) b) (lasts_of b lasts) ts
  until_to (block ds es) s a lasts ts h = subst (λ z. TestsSound types before z (lasts_in ds lasts) ts) (sym (to_more ds s)) (tests_to (with_variables s ds) (alike_more ds s a) (lasts_in ds lasts) ts h)

  mutual
    block_to : (b : Block) (s : Scope) → Alike s → (lasts : Lasts) → BlockSound types among s lasts b → BlockSound types before (to s) lasts b
    block_to (block ds es) s a lasts h =
        let r = with_variables s ds in (
          subst (λ z. DeclsSound types before z es ds) (sym (to_more ds s)) (decls_to r es ds h.0),
          (h.1.0, subst (λ z. EqnsSound types before z (lasts_in ds lasts) es) (sym (to_more ds s)) (eqns_to es r (alike_more ds s a) (lasts_in ds lasts) h.1.1)),
        )

    eqns_to : (es : Eqns) (s : Scope) → Alike s → (lasts : Lasts) → EqnsSound types among s lasts es → EqnsSound types before (to s) lasts es
    eqns_to no_eqn s a lasts h = tt
    eqns_to (more_eqns e es) s a lasts h = (eqn_to e s a lasts h.0, eqns_to es s a lasts h.1)

    eqn_to : (e : Eqn) (s : Scope) → Alike s → (lasts : Lasts) → EqnSound types among s lasts e → EqnSound types before (to s) lasts e
    eqn_to (define w ys e) s a lasts h = right_to s a lasts ys e h
    eqn_to (switch w e arms) s a lasts h =
        (expr_to s a lasts e h.0, ((h.1.0.0, (type_same s a e ∙ h.1.0.1.0, h.1.0.1.1)), arms_to (switch w e arms) arms s a lasts h.1.1))
    eqn_to (reset w b e) s a lasts h = (test_to s a lasts e h.0, block_to b s a lasts h.1)
    eqn_to (automaton w ss) s a lasts h = states_to (automaton w ss) ss s a lasts h

    arms_to : (e : Eqn) (arms : Arms) (s : Scope) → Alike s → (lasts : Lasts) → ArmsSound types among e s lasts arms → ArmsSound types before e (to s) lasts arms
    arms_to e no_arm s a lasts h = tt
    arms_to e (more_arms c b w arms) s a lasts h = (h.0, (block_to b s a lasts h.1.0, arms_to e arms s a lasts h.1.1))

    states_to : (e : Eqn) (ss : States) (s : Scope) → Alike s → (lasts : Lasts) → StatesSound types among e s lasts ss → StatesSound types before e (to s) lasts ss
    states_to e no_state s a lasts h = tt
    states_to e (more_states f b until unless w ss) s a lasts h =
        (h.0, (block_to b s a lasts h.1.0, (until_to b s a lasts until h.1.1.0, (tests_to s a lasts unless h.1.1.1.0, states_to e ss s a lasts h.1.1.1.1))))

  told_to : (b : Block) (s : Scope) → Alike s → (lasts : Lasts) (o : Option Expr) → ToldSound types among (inside s b) (lasts_of b lasts) o → ToldSound types before (inside (to s) b) (lasts_of b lasts) o
  told_to b s a lasts None h = tt
  told_to (block ds es) s a lasts (Some e) h = subst (λ z. TestSound types before z (lasts_in ds lasts) e) (sym (to_more ds s)) (test_to (with_variables s ds) (alike_more ds s a) (lasts_in ds lasts) e h)

  contract_to : (o : Option Contract) (s : Scope) → Alike s → (lasts : Lasts) → ContractSound types among s lasts o → ContractSound types before (to s) lasts o
  contract_to None s a lasts h = tt
  contract_to (Some c) s a lasts h = (block_to c.body s a lasts h.0, (told_to c.body s a lasts c.assume h.1.0, told_to c.body s a lasts c.enforce h.1.1))

  own_to : (s : Scope) (ds : List Decl) → HaveOwnTypes types among s ds → HaveOwnTypes types before (to s) ds
  own_to s [] h = tt
  own_to s (d ∷ ds) h = (h.0, own_to s ds h.1)

  equations_to : (b : Block) (ds : List Decl) → HaveEquations types among b ds → HaveEquations types before b ds
  equations_to b [] h = tt
  equations_to b (d ∷ ds) h = (h.0, equations_to b ds h.1)

  abbrev Pieces : Scope → Scope → Node → Type 0
  Pieces s b n =
      (HaveOwnTypes types before s n.inputs × HaveOwnTypes types before s n.outputs)
      × ((HaveOwnTypes types before b n.inputs × HaveOwnTypes types before b n.outputs)
      × (HaveOwnTypes types before b (controls_of n.contract)
      × (HaveEquations types before n.body n.outputs × (BlockSound types before b (lasts_in n.outputs no_lasts) n.body × ContractSound types before s (lasts_in n.outputs no_lasts) n.contract))))

  pub node_to : (n : Node) (s : Scope) → Alike s → NodeSound types among s n → NodeSound types before (to s) n
  node_to n s a h =
      let r = inside_node s n in
      let b = body_scope s n in
      let c = controls_of n.contract in
      let ar : Alike r = alike_more n.outputs (with_variables s n.inputs) (alike_more n.inputs s a) in
      let ab : Alike b = alike_more c r ar in
      let e1 : inside_node (to s) n ≡ to r = ap (λ z. with_variables z n.outputs) (to_more n.inputs s) ∙ to_more n.outputs (with_variables s n.inputs) in
      let e2 : with_variables (inside_node (to s) n) c ≡ to b = ap (λ z. with_variables z c) e1 ∙ to_more c r in
      subst (λ z. Pieces z (with_variables (inside_node (to s) n) c) n) (sym e1)
      (subst (λ z. Pieces (to r) z n) (sym e2) (
        (own_to r n.inputs h.0.0, own_to r n.outputs h.0.1),
        (
          (own_to b n.inputs h.1.0.0, own_to b n.outputs h.1.0.1),
          (
            own_to b c h.1.1.0,
            (
              equations_to n.body n.outputs h.1.1.1.0,
              (block_to n.body b ab (lasts_in n.outputs no_lasts) h.1.1.1.1.0, contract_to n.contract r ar (lasts_in n.outputs no_lasts) h.1.1.1.1.1),
            ),
          ),
        ),
      ))
