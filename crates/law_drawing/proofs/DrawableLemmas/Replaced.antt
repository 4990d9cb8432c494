-- Replacing inlined calls keeps blocks tidy.
use Rattle.std.proofs.Common.{◌≡◌, inl, inr, ℕ, List, [], ◌∷◌, ◌++◌, refl, ap, subst}
use Rattle.std.specs.Prelude.{⊤, true, false, Option, None, Some}
use Rattle.hp_base.specs.declared.span.Span.{Span}
use Rattle.hp_base.specs.declared.ty.Ty.{Ty}
use Rattle.hp_tree.specs.Expressions.{Expr, constant, variable, last_of, one, two, choose, pre, fby, arrow, when_is, merge, call, Exprs, no_expr, more_exprs, Parts, no_part, more_parts}
use Rattle.hp_tree.specs.Blocks.{Decl, Block, block, Eqns, no_eqn, more_eqns, Eqn, define, switch, reset, automaton, Arms, no_arm, more_arms, States, no_state, more_states, eqns_of, list_of_eqns}
use Rattle.hp_tree.specs.Programs.{Contract, Node}
use Rattle.hp_tree.specs.Meaning.{controls_of}
use Rattle.law_judged.specs.Typed.Scopes.{Scope}
use Rattle.law_values.specs.Valued.Judged.{of_arms}
use Rattle.hp_expand.specs.NewNames.{marked}
use Rattle.hp_expand.specs.Renaming.{renamed_decls, renamed_eqns}
use Rattle.hp_expand.specs.Replacing.{given, locals_of, equations_of, inlined_call, defined_by, in_expr, in_exprs, in_parts, in_definition, in_block, in_eqns, in_eqn, in_arms, in_states, in_condition, in_contract}
use Rattle.law_values.proofs.AcceptedLemmas.ReplacesEqns.{ExprInlines, ExprsInline, PartsInline, BlockInlines, EqnsInline, EqnInlines, ArmsInline, StatesInline}
use Rattle.law_wellmade.specs.Tested.Around.{Around, Declares, among, DeclsAround, interface_of}
use Rattle.law_wellmade.proofs.TestedLemmas.Renamed.{first_declares, then_declares, declares_renamed, Becomes, Within, decls_renamed, decls_within, decls_both}
use Rattle.law_drawing.specs.Drawable.Tidy.{BlockTidy, EqnsTidy, EqnTidy, ArmsTidy, StatesTidy, ContractTidy, NodeTidy}
use Rattle.law_drawing.proofs.DrawableLemmas.Renamed.{SameStates, states_same, arms_alike, eqns_renamed, ListTidy, list_tidy, row_tidy, both_tidy}

-- the parts of a called node, under other names
module _ (known : Scope) (n : Node) (h : NodeTidy known n) (u : controls_of n.contract ≡ []) (to : List ℕ → List ℕ) (D : Around) where
  made_tidy : (b : Block) → BlockTidy known (among (interface_of n) (controls_of n.contract)) b → ((x : List ℕ) (t : Ty) → Declares (renamed_decls to (n.inputs ++ (n.outputs ++ locals_of b))) x t → D x t)
      → DeclsAround known D (renamed_decls to (n.inputs ++ (n.outputs ++ locals_of b))) × EqnsTidy known D (renamed_eqns to (equations_of b))
  made_tidy (block ds es) b sub =
      let all = n.inputs ++ (n.outputs ++ ds) in
      let I = interface_of n in
      let C = among I (controls_of n.contract) in
      let m : Becomes to (Declares all) D = λ x t k. sub (to x) t (declares_renamed to all x t k) in (
        decls_renamed known to (Declares all) D m all
            (decls_both known (Declares all) n.inputs (n.outputs ++ ds) (decls_within known I (Declares all) (interface ds) n.inputs h.0.0)
            (decls_both known (Declares all) n.outputs ds (decls_within known I (Declares all) (interface ds) n.outputs h.0.1) (decls_within known (among C ds) (Declares all) (inside ds) ds b.0))),
        eqns_renamed known to es (among C ds) D (λ x t k. m x t (inside ds x t k)) b.1,
      )
    where
      interface : (ds : List Decl) → Within (interface_of n) (Declares (n.inputs ++ (n.outputs ++ ds)))
      interface ds x t (inl k) = then_declares n.inputs (n.outputs ++ ds) x t (first_declares n.outputs ds x t k)
      interface ds x t (inr (inl k)) = first_declares n.inputs (n.outputs ++ ds) x t k
      interface ds x t (inr (inr k)) = absurd k

      no_control : (x : List ℕ) (t : Ty) → Declares (controls_of n.contract) x t → ⊥
      no_control x t k = subst (λ z. Declares z x t) u k

      inside : (ds : List Decl) → Within (among (among (interface_of n) (controls_of n.contract)) ds) (Declares (n.inputs ++ (n.outputs ++ ds)))
      inside ds x t (inl k) = then_declares n.inputs (n.outputs ++ ds) x t (then_declares n.outputs ds x t k)
      inside ds x t (inr (inl k)) = absurd (no_control x t k)
      inside ds x t (inr (inr k)) = interface ds x t k

-- a node without controllable variables
abbrev pub Free : (List ℕ → Node) → List ℕ → Type 0
Free nodes f = controls_of (nodes f).contract ≡ []

-- which nodes are inlined in a contract
module _ (P : List ℕ → Type 0) where
  abbrev pub ConditionFree : Option Expr → Type 0
  ConditionFree None = ⊤
  ConditionFree (Some e) = ExprInlines P e

  abbrev pub ContractFree : Option Contract → Type 0
  ContractFree None = ⊤
  ContractFree (Some c) = BlockInlines P c.body × (ConditionFree c.assume × ConditionFree c.enforce)

module _ (known : Scope) (nodes : List ℕ → Node) (bodies : (f : List ℕ) → NodeTidy known (nodes f)) where
  arms_same : (k : ℕ) (arms : Arms) → of_arms (in_arms nodes k arms).part ≡ of_arms arms
  arms_same k no_arm = refl
  arms_same k (more_arms c b a arms) = ap (λ cs. c ∷ cs) (arms_same (in_block nodes k b).next arms)

  same_states : (k : ℕ) (ss : States) → SameStates ss (in_states nodes k ss).part
  same_states k no_state = tt
  same_states k (more_states f b until unless a ss) = (refl, same_states (in_block nodes k b).next ss)

  module _ (D : Around) where
    abbrev pub Sub : List Decl → Type 0
    Sub ls = (x : List ℕ) (t : Ty) → Declares ls x t → D x t

    abbrev pub Good : List Decl → List Eqn → Type 0
    Good ds es = DeclsAround known D ds × ListTidy known D es

    pub sub_first : (as' bs : List Decl) → Sub (as' ++ bs) → Sub as'
    sub_first as' bs s x t h = s x t (first_declares as' bs x t h)

    pub sub_then : (as' bs : List Decl) → Sub (as' ++ bs) → Sub bs
    sub_then as' bs s x t h = s x t (then_declares as' bs x t h)

    pub both : (ds ds' : List Decl) (es es' : List Eqn) → Good ds es → Good ds' es' → Good (ds ++ ds') (es ++ es')
    both ds ds' es es' h k = (decls_both known D ds ds' h.0 k.0, both_tidy known D es es' h.1 k.1)

    given_tidy : (ds : List Decl) (es : Exprs) → ListTidy known D (given ds es)
    given_tidy [] es = tt
    given_tidy (d ∷ ds) no_expr = tt
    given_tidy (d ∷ ds) (more_exprs e es) = (tt, given_tidy ds es)

    defined_tidy : (s : Span) (xs : List (List ℕ × Span)) (at : Span) (ys : List (List ℕ)) → ListTidy known D (defined_by s xs at ys)
    defined_tidy s [] at ys = tt
    defined_tidy s (x ∷ xs) at [] = tt
    defined_tidy s (x ∷ xs) at (y ∷ ys) = (tt, defined_tidy s xs at ys)

    call_tidy : (f : List ℕ) (k : ℕ) (es : Exprs) → Free nodes f → Sub (inlined_call (nodes f) (in_exprs nodes k es)).locals → Good (in_exprs nodes k es).locals (in_exprs nodes k es).before
        → Good (inlined_call (nodes f) (in_exprs nodes k es)).locals (inlined_call (nodes f) (in_exprs nodes k es)).before
    call_tidy f k es u sub h =
        let args = in_exprs nodes k es in
        let to = marked args.next in
        let n = nodes f in
        let new = renamed_decls to (n.inputs ++ (n.outputs ++ locals_of n.body)) in
        let told = given (renamed_decls to n.inputs) args.part in
        let eqns = renamed_eqns to (equations_of n.body) in
        let m = made_tidy known n (bodies f) u to D n.body (bodies f).1.0 (sub_then args.locals new sub) in
        both args.locals new args.before (told ++ list_of_eqns eqns) h (m.0, both_tidy known D told (list_of_eqns eqns) (given_tidy (renamed_decls to n.inputs) args.part) (list_tidy known D eqns m.1))

    abbrev pub FineExpr : ℕ → Expr → Type 0
    FineExpr k e = Good (in_expr nodes k e).locals (in_expr nodes k e).before

    two_tidy : (k : ℕ) (a b : Expr) → FineExpr k a → FineExpr (in_expr nodes k a).next b
        → Good ((in_expr nodes k a).locals ++ (in_expr nodes (in_expr nodes k a).next b).locals) ((in_expr nodes k a).before ++ (in_expr nodes (in_expr nodes k a).next b).before)
    two_tidy k a b h l = both (in_expr nodes k a).locals (in_expr nodes (in_expr nodes k a).next b).locals (in_expr nodes k a).before (in_expr nodes (in_expr nodes k a).next b).before h l

    mutual
      pub expr_tidy : (k : ℕ) (e : Expr) → ExprInlines (Free nodes) e → Sub (in_expr nodes k e).locals → FineExpr k e
      expr_tidy k (constant at c) i s = (tt, tt)
      expr_tidy k (variable at x) i s = (tt, tt)
      expr_tidy k (last_of at x) i s = (tt, tt)
      expr_tidy k (one at o a) i s = expr_tidy k a i s
      expr_tidy k (two at o a b) i s =
          let ra = in_expr nodes k a in
          let rb = in_expr nodes ra.next b in
          two_tidy k a b (expr_tidy k a i.0 (sub_first ra.locals rb.locals s)) (expr_tidy ra.next b i.1 (sub_then ra.locals rb.locals s))
      expr_tidy k (choose at a b c) i s =
          let ra = in_expr nodes k a in
          let rb = in_expr nodes ra.next b in
          let rc = in_expr nodes rb.next c in
          let fa = expr_tidy k a i.0 (sub_first ra.locals (rb.locals ++ rc.locals) s) in
          let s1 = sub_then ra.locals (rb.locals ++ rc.locals) s in
          let fb = two_tidy ra.next b c (expr_tidy ra.next b i.1.0 (sub_first rb.locals rc.locals s1)) (expr_tidy rb.next c i.1.1 (sub_then rb.locals rc.locals s1)) in
          both ra.locals (rb.locals ++ rc.locals) ra.before (rb.before ++ rc.before) fa fb
      expr_tidy k (pre at a) i s = expr_tidy k a i s
      expr_tidy k (fby at a b) i s =
          let ra = in_expr nodes k a in
          let rb = in_expr nodes ra.next b in
          two_tidy k a b (expr_tidy k a i.0 (sub_first ra.locals rb.locals s)) (expr_tidy ra.next b i.1 (sub_then ra.locals rb.locals s))
      expr_tidy k (arrow at a b) i s =
          let ra = in_expr nodes k a in
          let rb = in_expr nodes ra.next b in
          two_tidy k a b (expr_tidy k a i.0 (sub_first ra.locals rb.locals s)) (expr_tidy ra.next b i.1 (sub_then ra.locals rb.locals s))
      expr_tidy k (when_is at a c x) i s = expr_tidy k a i s
      expr_tidy k (merge at x ps) i s = parts_tidy k ps i s
      expr_tidy k (call at f false es) i s = exprs_tidy k es i.1 s
      expr_tidy k (call at f true es) i s =
          let args = in_exprs nodes k es in
          let new = renamed_decls (marked args.next) ((nodes f).inputs ++ ((nodes f).outputs ++ locals_of (nodes f).body)) in
          call_tidy f k es i.0 s (exprs_tidy k es i.1 (sub_first args.locals new s))

      exprs_tidy : (k : ℕ) (es : Exprs) → ExprsInline (Free nodes) es → Sub (in_exprs nodes k es).locals → Good (in_exprs nodes k es).locals (in_exprs nodes k es).before
      exprs_tidy k no_expr i s = (tt, tt)
      exprs_tidy k (more_exprs e es) i s =
          let ra = in_expr nodes k e in
          let rb = in_exprs nodes ra.next es in
          both ra.locals rb.locals ra.before rb.before (expr_tidy k e i.0 (sub_first ra.locals rb.locals s)) (exprs_tidy ra.next es i.1 (sub_then ra.locals rb.locals s))

      parts_tidy : (k : ℕ) (ps : Parts) → PartsInline (Free nodes) ps → Sub (in_parts nodes k ps).locals → Good (in_parts nodes k ps).locals (in_parts nodes k ps).before
      parts_tidy k no_part i s = (tt, tt)
      parts_tidy k (more_parts c e ps) i s =
          let ra = in_expr nodes k e in
          let rb = in_parts nodes ra.next ps in
          both ra.locals rb.locals ra.before rb.before (expr_tidy k e i.0 (sub_first ra.locals rb.locals s)) (parts_tidy ra.next ps i.1 (sub_then ra.locals rb.locals s))

    abbrev FineEqn : ℕ → Span → List (List ℕ × Span) → Expr → Type 0
    FineEqn k s xs e = Good (in_definition nodes k s xs e).locals (in_definition nodes k s xs e).before × ListTidy known D (in_definition nodes k s xs e).part

    definition_tidy : (k : ℕ) (s : Span) (xs : List (List ℕ × Span)) (e : Expr) → ExprInlines (Free nodes) e → Sub (in_definition nodes k s xs e).locals → FineEqn k s xs e
    definition_tidy k s xs (constant at c) i u = ((tt, tt), (tt, tt))
    definition_tidy k s xs (variable at x) i u = ((tt, tt), (tt, tt))
    definition_tidy k s xs (last_of at x) i u = ((tt, tt), (tt, tt))
    definition_tidy k s xs (one at o a) i u = (expr_tidy k (one at o a) i u, (tt, tt))
    definition_tidy k s xs (two at o a b) i u = (expr_tidy k (two at o a b) i u, (tt, tt))
    definition_tidy k s xs (choose at a b c) i u = (expr_tidy k (choose at a b c) i u, (tt, tt))
    definition_tidy k s xs (pre at a) i u = (expr_tidy k (pre at a) i u, (tt, tt))
    definition_tidy k s xs (fby at a b) i u = (expr_tidy k (fby at a b) i u, (tt, tt))
    definition_tidy k s xs (arrow at a b) i u = (expr_tidy k (arrow at a b) i u, (tt, tt))
    definition_tidy k s xs (when_is at a c x) i u = (expr_tidy k (when_is at a c x) i u, (tt, tt))
    definition_tidy k s xs (merge at x ps) i u = (expr_tidy k (merge at x ps) i u, (tt, tt))
    definition_tidy k s xs (call at f false es) i u = (expr_tidy k (call at f false es) i u, (tt, tt))
    definition_tidy k s xs (call at f true es) i u = (expr_tidy k (call at f true es) i u, defined_tidy s xs at (inlined_call (nodes f) (in_exprs nodes k es)).part)

  within_more : (G H : Around) → Within G H → (ds ls : List Decl) → Within (among G ds) (among H (ds ++ ls))
  within_more G H w ds ls x t (inl g) = inl (first_declares ds ls x t g)
  within_more G H w ds ls x t (inr g) = inr (w x t g)

  mutual
    pub block_tidy : (G H : Around) → Within G H → (k : ℕ) (b : Block) → BlockInlines (Free nodes) b → BlockTidy known G b → BlockTidy known H (in_block nodes k b).part
    block_tidy G H w k (block ds es) i h =
        let ls = (in_eqns nodes k es).locals in
        let G' = among G ds in
        let H' = among H (ds ++ ls) in
        let w' : Within G' H' = λ x t g. within_more G H w ds ls x t g in
        let r = eqns_tidy G' H' w' k es i h.1 (λ x t g. inl (then_declares ds ls x t g)) in
        (decls_both known H' ds ls (decls_within known G' H' w' ds h.0) r.0, r.1)

    pub eqns_tidy : (G H : Around) → Within G H → (k : ℕ) (es : Eqns) → EqnsInline (Free nodes) es → EqnsTidy known G es → Sub H (in_eqns nodes k es).locals → DeclsAround known H (in_eqns nodes k es).locals × EqnsTidy known H (in_eqns nodes k es).part
    eqns_tidy G H w k no_eqn i h s = (tt, tt)
    eqns_tidy G H w k (more_eqns e es) i h s =
        let here = in_eqn nodes k e in
        let rest = in_eqns nodes here.next es in
        let q = eqn_tidy G H w k e i.0 h.0 (sub_first H here.locals rest.locals s) in
        let r = eqns_tidy G H w here.next es i.1 h.1 (sub_then H here.locals rest.locals s) in (
          decls_both known H here.locals rest.locals q.0.0 r.0,
          row_tidy known H (here.before ++ (here.part ++ list_of_eqns rest.part)) (both_tidy known H here.before (here.part ++ list_of_eqns rest.part) q.0.1 (both_tidy known H here.part (list_of_eqns rest.part) q.1 (list_tidy known H rest.part r.1))),
        )

    eqn_tidy : (G H : Around) → Within G H → (k : ℕ) (e : Eqn) → EqnInlines (Free nodes) e → EqnTidy known G e → Sub H (in_eqn nodes k e).locals → Good H (in_eqn nodes k e).locals (in_eqn nodes k e).before × ListTidy known H (in_eqn nodes k e).part
    eqn_tidy G H w k (define s ys e) i h u = definition_tidy H k s ys e i u
    eqn_tidy G H w k (switch s e arms) i h u =
        let j = (in_expr nodes k e).next in
        (expr_tidy H k e i.0 u, ((arms_alike known arms (in_arms nodes j arms).part (arms_same j arms) h.0, arms_tidy G H w j arms i.1 h.1), tt))
    eqn_tidy G H w k (reset s b e) i h u = (expr_tidy H k e i.0 u, (block_tidy G H w (in_expr nodes k e).next b i.1 h, tt))
    eqn_tidy G H w k (automaton s ss) i h u = ((tt, tt), ((states_same ss (in_states nodes k ss).part (same_states k ss) h.0, states_tidy G H w k ss i h.1), tt))

    arms_tidy : (G H : Around) → Within G H → (k : ℕ) (arms : Arms) → ArmsInline (Free nodes) arms → ArmsTidy known G arms → ArmsTidy known H (in_arms nodes k arms).part
    arms_tidy G H w k no_arm i h = tt
    arms_tidy G H w k (more_arms c b s arms) i h = (block_tidy G H w k b i.0 h.0, arms_tidy G H w (in_block nodes k b).next arms i.1 h.1)

    states_tidy : (G H : Around) → Within G H → (k : ℕ) (ss : States) → StatesInline (Free nodes) ss → StatesTidy known G ss → StatesTidy known H (in_states nodes k ss).part
    states_tidy G H w k no_state i h = tt
    states_tidy G H w k (more_states f b until unless s ss) i h = (block_tidy G H w k b i.0 h.0, states_tidy G H w (in_block nodes k b).next ss i.1 h.1)

  -- ---- contracts: what their conditions are made of, stands at the end of their equations

  condition_tidy : (D : Around) (k : ℕ) (o : Option Expr) → ConditionFree (Free nodes) o → Sub D (in_condition nodes k o).locals → Good D (in_condition nodes k o).locals (in_condition nodes k o).before
  condition_tidy D k None i s = (tt, tt)
  condition_tidy D k (Some e) i s = expr_tidy D k e i s

  observer_tidy : (G : Around) (k : ℕ) (b : Block) (assume enforce : Option Expr) → BlockInlines (Free nodes) b → ConditionFree (Free nodes) assume → ConditionFree (Free nodes) enforce → BlockTidy known G b
      → BlockTidy known G (block (locals_of b ++ ((in_eqns nodes k (equations_of b)).locals ++ ((in_condition nodes (in_eqns nodes k (equations_of b)).next assume).locals ++ (in_condition nodes (in_condition nodes (in_eqns nodes k (equations_of b)).next assume).next enforce).locals)))
      (eqns_of (list_of_eqns (in_eqns nodes k (equations_of b)).part ++ ((in_condition nodes (in_eqns nodes k (equations_of b)).next assume).before ++ (in_condition nodes (in_condition nodes (in_eqns nodes k (equations_of b)).next assume).next enforce).before))))
  observer_tidy G k (block ds es) assume enforce ib ia ie h =
      let q = in_eqns nodes k es in
      let a = in_condition nodes q.next assume in
      let c = in_condition nodes a.next enforce in
      let more = a.locals ++ c.locals in
      let ls = q.locals ++ more in
      let G' = among G ds in
      let H' = among G (ds ++ ls) in
      let w' : Within G' H' = λ x t g. within_more G G (λ y u k. k) ds ls x t g in
      let all : Sub H' ls = λ x t g. inl (then_declares ds ls x t g) in
      let sub_more = sub_then H' q.locals more all in
      let r = eqns_tidy G' H' w' k es ib h.1 (sub_first H' q.locals more all) in
      let ra = condition_tidy H' q.next assume ia (sub_first H' a.locals c.locals sub_more) in
      let rc = condition_tidy H' a.next enforce ie (sub_then H' a.locals c.locals sub_more) in
      let news = a.before ++ c.before in (
        decls_both known H' ds ls (decls_within known G' H' w' ds h.0) (decls_both known H' q.locals more r.0 (decls_both known H' a.locals c.locals ra.0 rc.0)),
        row_tidy known H' (list_of_eqns q.part ++ news) (both_tidy known H' (list_of_eqns q.part) news (list_tidy known H' q.part r.1) (both_tidy known H' a.before c.before ra.1 rc.1)),
      )

  pub contract_tidy : (G : Around) (o : Option Contract) → ContractFree (Free nodes) o → ContractTidy known G o → ContractTidy known G (in_contract nodes 1 o).part
  contract_tidy G None i h = tt
  contract_tidy G (Some c) i h = observer_tidy G 1 c.body c.assume c.enforce i.0 i.1.0 i.1.1 h
