-- Replacing inlined calls keeps tests fitting.
use Rattle.std.proofs.Common.{◌≡◌, inl, inr, ℕ, List, [], ◌∷◌, ◌++◌, refl, sym, ap, subst}
use Rattle.std.specs.Prelude.{⊤, true, false, Option, None, Some}
use Rattle.hp_base.specs.declared.span.Span.{Span}
use Rattle.hp_base.specs.declared.ty.Ty.{Ty}
use Rattle.hp_tree.specs.Expressions.{Expr, constant, variable, last_of, one, two, choose, pre, fby, arrow, when_is, merge, call, Exprs, no_expr, more_exprs, Parts, no_part, more_parts}
use Rattle.hp_tree.specs.Blocks.{Decl, Block, block, Eqns, no_eqn, more_eqns, Eqn, define, switch, reset, automaton, Arms, no_arm, more_arms, States, no_state, more_states, eqns_of, list_of_eqns}
use Rattle.hp_tree.specs.Programs.{Contract, Node}
use Rattle.hp_tree.specs.Meaning.{controls_of}
use Rattle.law_judged.specs.Typed.Scopes.{Scope}
use Rattle.law_values.specs.Valued.Judged.{of_parts, of_arms}
use Rattle.hp_expand.specs.NewNames.{marked}
use Rattle.hp_expand.specs.Renaming.{renamed_decls, renamed_eqns}
use Rattle.hp_expand.specs.Replacing.{given, locals_of, equations_of, names_of, output_at, inlined_call, defined_by, in_expr, in_exprs, in_parts, in_definition, in_block, in_eqns, in_eqn, in_arms, in_states, in_condition, in_contract}
use Rattle.law_values.proofs.AcceptedLemmas.ReplacesEqns.{ExprInlines, ExprsInline, PartsInline, BlockInlines, EqnsInline, EqnInlines, ArmsInline, StatesInline}
use Rattle.law_wellmade.specs.Timely.Tested.{AreApart}
use Rattle.law_wellmade.specs.Tested.Apart.{ConditionApart}
use Rattle.law_wellmade.specs.Tested.Fits.{ExprApart, ExprsApart, PartsApart}
use Rattle.law_wellmade.specs.Tested.Around.{Around, Declares, among, DeclsAround, BlockAround, EqnsAround, EqnAround, ArmsAround, StatesAround, interface_of, NodeAround, ContractAround}
use Rattle.law_wellmade.proofs.TestedLemmas.Renamed.{first_declares, then_declares, declares_renamed, Becomes, Within, decls_renamed, decls_within, decls_both, one_type, eqns_renamed, ListAround, list_around, row_around, both_around}

-- the parts of a called node, under other names
module _ (known : Scope) (n : Node) (h : NodeAround known n) (u : controls_of n.contract ≡ []) (to : List ℕ → List ℕ) (D : Around) where
  made_around : (b : Block) → BlockAround known (among (interface_of n) (controls_of n.contract)) b → ((x : List ℕ) (t : Ty) → Declares (renamed_decls to (n.inputs ++ (n.outputs ++ locals_of b))) x t → D x t)
      → DeclsAround known D (renamed_decls to (n.inputs ++ (n.outputs ++ locals_of b))) × EqnsAround known D (renamed_eqns to (equations_of b))
  made_around (block ds es) b sub =
      let all = n.inputs ++ (n.outputs ++ ds) in
      let I = interface_of n in
      let C = among I (controls_of n.contract) in
      let m : Becomes to (Declares all) D = λ x t k. sub (to x) t (declares_renamed to all x t k) in (
        decls_renamed known to (Declares all) D m all
            (decls_both known (Declares all) n.inputs (n.outputs ++ ds) (decls_within known I (Declares all) (interface ds) n.inputs h.0.0)
            (decls_both known (Declares all) n.outputs ds (decls_within known I (Declares all) (interface ds) n.outputs h.0.1) (decls_within known (among C ds) (Declares all) (inside ds) ds b.0))),
        eqns_renamed known to es (among C ds) D (λ x t k. m x t (inside ds x t k)) b.1,
      )
    where
      interface : (ds : List Decl) → Within (interface_of n) (Declares (n.inputs ++ (n.outputs ++ ds)))
      interface ds x t (inl k) = then_declares n.inputs (n.outputs ++ ds) x t (first_declares n.outputs ds x t k)
      interface ds x t (inr (inl k)) = first_declares n.inputs (n.outputs ++ ds) x t k
      interface ds x t (inr (inr k)) = absurd k

      no_control : (x : List ℕ) (t : Ty) → Declares (controls_of n.contract) x t → ⊥
      no_control x t k = subst (λ z. Declares z x t) u k

      inside : (ds : List Decl) → Within (among (among (interface_of n) (controls_of n.contract)) ds) (Declares (n.inputs ++ (n.outputs ++ ds)))
      inside ds x t (inl k) = then_declares n.inputs (n.outputs ++ ds) x t (then_declares n.outputs ds x t k)
      inside ds x t (inr (inl k)) = absurd (no_control x t k)
      inside ds x t (inr (inr k)) = interface ds x t k

output_apart : (a : Span) (ys : List (List ℕ)) → ExprApart (output_at a ys)
output_apart a [] = tt
output_apart a (y ∷ ys) = tt

-- which nodes are inlined in a contract
module _ (P : List ℕ → Type 0) where
  abbrev pub ConditionInlines : Option Expr → Type 0
  ConditionInlines None = ⊤
  ConditionInlines (Some e) = ExprInlines P e

  abbrev pub ContractInlines : Option Contract → Type 0
  ContractInlines None = ⊤
  ContractInlines (Some c) = BlockInlines P c.body × (ConditionInlines c.assume × ConditionInlines c.enforce)

module _ (known : Scope) (nodes : List ℕ → Node) (bodies : (f : List ℕ) → NodeAround known (nodes f)) where
  abbrev pub Free : List ℕ → Type 0
  Free f = controls_of (nodes f).contract ≡ []

  parts_same : (k : ℕ) (ps : Parts) → of_parts (in_parts nodes k ps).part ≡ of_parts ps
  parts_same k no_part = refl
  parts_same k (more_parts c e ps) = ap (λ cs. c ∷ cs) (parts_same (in_expr nodes k e).next ps)

  arms_same : (k : ℕ) (arms : Arms) → of_arms (in_arms nodes k arms).part ≡ of_arms arms
  arms_same k no_arm = refl
  arms_same k (more_arms c b a arms) = ap (λ cs. c ∷ cs) (arms_same (in_block nodes k b).next arms)

  module _ (D : Around) where
    abbrev Sub : List Decl → Type 0
    Sub ls = (x : List ℕ) (t : Ty) → Declares ls x t → D x t

    abbrev Good : List Decl → List Eqn → Type 0
    Good ds es = DeclsAround known D ds × ListAround known D es

    sub_first : (as' bs : List Decl) → Sub (as' ++ bs) → Sub as'
    sub_first as' bs s x t h = s x t (first_declares as' bs x t h)

    sub_then : (as' bs : List Decl) → Sub (as' ++ bs) → Sub bs
    sub_then as' bs s x t h = s x t (then_declares as' bs x t h)

    both : (ds ds' : List Decl) (es es' : List Eqn) → Good ds es → Good ds' es' → Good (ds ++ ds') (es ++ es')
    both ds ds' es es' h k = (decls_both known D ds ds' h.0 k.0, both_around known D es es' h.1 k.1)

    given_around : (ds : List Decl) (es : Exprs) → ExprsApart es → ListAround known D (given ds es)
    given_around [] es h = tt
    given_around (d ∷ ds) no_expr h = tt
    given_around (d ∷ ds) (more_exprs e es) h = (h.0, given_around ds es h.1)

    defined_around : (s : Span) (xs : List (List ℕ × Span)) (at : Span) (ys : List (List ℕ)) → ListAround known D (defined_by s xs at ys)
    defined_around s [] at ys = tt
    defined_around s (x ∷ xs) at [] = tt
    defined_around s (x ∷ xs) at (y ∷ ys) = (tt, defined_around s xs at ys)

    abbrev Fine : List ℕ → ℕ → Exprs → Type 0
    Fine f k es = Good (inlined_call (nodes f) (in_exprs nodes k es)).locals (inlined_call (nodes f) (in_exprs nodes k es)).before

    call_around : (f : List ℕ) (k : ℕ) (es : Exprs) → Free f → Sub (inlined_call (nodes f) (in_exprs nodes k es)).locals → ExprsApart (in_exprs nodes k es).part × Good (in_exprs nodes k es).locals (in_exprs nodes k es).before → Fine f k es
    call_around f k es u sub h =
        let args = in_exprs nodes k es in
        let to = marked args.next in
        let n = nodes f in
        let new = renamed_decls to (n.inputs ++ (n.outputs ++ locals_of n.body)) in
        let told = given (renamed_decls to n.inputs) args.part in
        let eqns = renamed_eqns to (equations_of n.body) in
        let m = made_around known n (bodies f) u to D n.body (bodies f).1 (sub_then args.locals new sub) in
        both args.locals new args.before (told ++ list_of_eqns eqns) h.1 (m.0, both_around known D told (list_of_eqns eqns) (given_around (renamed_decls to n.inputs) args.part h.0) (list_around known D eqns m.1))

    abbrev FineExpr : ℕ → Expr → Type 0
    FineExpr k e = ExprApart (in_expr nodes k e).part × Good (in_expr nodes k e).locals (in_expr nodes k e).before

    two_around : (k : ℕ) (a b : Expr) → FineExpr k a → FineExpr (in_expr nodes k a).next b
        → Good ((in_expr nodes k a).locals ++ (in_expr nodes (in_expr nodes k a).next b).locals) ((in_expr nodes k a).before ++ (in_expr nodes (in_expr nodes k a).next b).before)
    two_around k a b h l = both (in_expr nodes k a).locals (in_expr nodes (in_expr nodes k a).next b).locals (in_expr nodes k a).before (in_expr nodes (in_expr nodes k a).next b).before h.1 l.1

    pair_around : (k : ℕ) (a b : Expr) → FineExpr k a → FineExpr (in_expr nodes k a).next b
        → (ExprApart (in_expr nodes k a).part × ExprApart (in_expr nodes (in_expr nodes k a).next b).part) × Good ((in_expr nodes k a).locals ++ (in_expr nodes (in_expr nodes k a).next b).locals) ((in_expr nodes k a).before ++ (in_expr nodes (in_expr nodes k a).next b).before)
    pair_around k a b fa fb = ((fa.0, fb.0), two_around k a b fa fb)

    mutual
      expr_around : (k : ℕ) (e : Expr) → ExprInlines Free e → ExprApart e → Sub (in_expr nodes k e).locals → FineExpr k e
      expr_around k (constant at c) i h s = (tt, (tt, tt))
      expr_around k (variable at x) i h s = (tt, (tt, tt))
      expr_around k (last_of at x) i h s = (tt, (tt, tt))
      expr_around k (one at o a) i h s = expr_around k a i h s
      expr_around k (two at o a b) i h s =
          let ra = in_expr nodes k a in
          let rb = in_expr nodes ra.next b in
          pair_around k a b (expr_around k a i.0 h.0 (sub_first ra.locals rb.locals s)) (expr_around ra.next b i.1 h.1 (sub_then ra.locals rb.locals s))
      expr_around k (choose at a b c) i h s =
          let ra = in_expr nodes k a in
          let rb = in_expr nodes ra.next b in
          let rc = in_expr nodes rb.next c in
          let fa = expr_around k a i.0 h.0 (sub_first ra.locals (rb.locals ++ rc.locals) s) in
          let s1 = sub_then ra.locals (rb.locals ++ rc.locals) s in
          let fb = pair_around ra.next b c (expr_around ra.next b i.1.0 h.1.0 (sub_first rb.locals rc.locals s1)) (expr_around rb.next c i.1.1 h.1.1 (sub_then rb.locals rc.locals s1)) in
          ((fa.0, fb.0), both ra.locals (rb.locals ++ rc.locals) ra.before (rb.before ++ rc.before) fa.1 fb.1)
      expr_around k (pre at a) i h s = expr_around k a i h s
      expr_around k (fby at a b) i h s =
          let ra = in_expr nodes k a in
          let rb = in_expr nodes ra.next b in
          pair_around k a b (expr_around k a i.0 h.0 (sub_first ra.locals rb.locals s)) (expr_around ra.next b i.1 h.1 (sub_then ra.locals rb.locals s))
      expr_around k (arrow at a b) i h s =
          let ra = in_expr nodes k a in
          let rb = in_expr nodes ra.next b in
          pair_around k a b (expr_around k a i.0 h.0 (sub_first ra.locals rb.locals s)) (expr_around ra.next b i.1 h.1 (sub_then ra.locals rb.locals s))
      expr_around k (when_is at a c x) i h s = expr_around k a i h s
      expr_around k (merge at x ps) i h s = let r = parts_around k ps i h.1 s in ((subst AreApart (sym (parts_same k ps)) h.0, r.0), r.1)
      expr_around k (call at f false es) i h s = exprs_around k es i.1 h s
      expr_around k (call at f true es) i h s =
          let args = in_exprs nodes k es in
          let new = renamed_decls (marked args.next) ((nodes f).inputs ++ ((nodes f).outputs ++ locals_of (nodes f).body)) in
          (output_apart at (names_of (renamed_decls (marked args.next) (nodes f).outputs)), call_around f k es i.0 s (exprs_around k es i.1 h (sub_first args.locals new s)))

      exprs_around : (k : ℕ) (es : Exprs) → ExprsInline Free es → ExprsApart es → Sub (in_exprs nodes k es).locals → ExprsApart (in_exprs nodes k es).part × Good (in_exprs nodes k es).locals (in_exprs nodes k es).before
      exprs_around k no_expr i h s = (tt, (tt, tt))
      exprs_around k (more_exprs e es) i h s =
          let ra = in_expr nodes k e in
          let rb = in_exprs nodes ra.next es in
          let fa = expr_around k e i.0 h.0 (sub_first ra.locals rb.locals s) in
          let fb = exprs_around ra.next es i.1 h.1 (sub_then ra.locals rb.locals s) in
          ((fa.0, fb.0), both ra.locals rb.locals ra.before rb.before fa.1 fb.1)

      parts_around : (k : ℕ) (ps : Parts) → PartsInline Free ps → PartsApart ps → Sub (in_parts nodes k ps).locals → PartsApart (in_parts nodes k ps).part × Good (in_parts nodes k ps).locals (in_parts nodes k ps).before
      parts_around k no_part i h s = (tt, (tt, tt))
      parts_around k (more_parts c e ps) i h s =
          let ra = in_expr nodes k e in
          let rb = in_parts nodes ra.next ps in
          let fa = expr_around k e i.0 h.0 (sub_first ra.locals rb.locals s) in
          let fb = parts_around ra.next ps i.1 h.1 (sub_then ra.locals rb.locals s) in
          ((fa.0, fb.0), both ra.locals rb.locals ra.before rb.before fa.1 fb.1)

    abbrev FineEqn : ℕ → Span → List (List ℕ × Span) → Expr → Type 0
    FineEqn k s xs e = Good (in_definition nodes k s xs e).locals (in_definition nodes k s xs e).before × ListAround known D (in_definition nodes k s xs e).part

    definition_around : (k : ℕ) (s : Span) (xs : List (List ℕ × Span)) (e : Expr) → ExprInlines Free e → ExprApart e → Sub (in_definition nodes k s xs e).locals → FineEqn k s xs e
    definition_around k s xs (constant at c) i h u = ((tt, tt), (tt, tt))
    definition_around k s xs (variable at x) i h u = ((tt, tt), (tt, tt))
    definition_around k s xs (last_of at x) i h u = ((tt, tt), (tt, tt))
    definition_around k s xs (one at o a) i h u = let r = expr_around k (one at o a) i h u in (r.1, (r.0, tt))
    definition_around k s xs (two at o a b) i h u = let r = expr_around k (two at o a b) i h u in (r.1, (r.0, tt))
    definition_around k s xs (choose at a b c) i h u = let r = expr_around k (choose at a b c) i h u in (r.1, (r.0, tt))
    definition_around k s xs (pre at a) i h u = let r = expr_around k (pre at a) i h u in (r.1, (r.0, tt))
    definition_around k s xs (fby at a b) i h u = let r = expr_around k (fby at a b) i h u in (r.1, (r.0, tt))
    definition_around k s xs (arrow at a b) i h u = let r = expr_around k (arrow at a b) i h u in (r.1, (r.0, tt))
    definition_around k s xs (when_is at a c x) i h u = let r = expr_around k (when_is at a c x) i h u in (r.1, (r.0, tt))
    definition_around k s xs (merge at x ps) i h u = let r = expr_around k (merge at x ps) i h u in (r.1, (r.0, tt))
    definition_around k s xs (call at f false es) i h u = let r = expr_around k (call at f false es) i h u in (r.1, (r.0, tt))
    definition_around k s xs (call at f true es) i h u =
        let args = in_exprs nodes k es in
        let new = renamed_decls (marked args.next) ((nodes f).inputs ++ ((nodes f).outputs ++ locals_of (nodes f).body)) in
        (call_around f k es i.0 u (exprs_around k es i.1 h (sub_first args.locals new u)), defined_around s xs at (inlined_call (nodes f) (in_exprs nodes k es)).part)

  within_more : (G H : Around) → Within G H → (ds ls : List Decl) → Within (among G ds) (among H (ds ++ ls))
  within_more G H w ds ls x t (inl g) = inl (first_declares ds ls x t g)
  within_more G H w ds ls x t (inr g) = inr (w x t g)

  mutual
    pub block_around : (G H : Around) → Within G H → (k : ℕ) (b : Block) → BlockInlines Free b → BlockAround known G b → BlockAround known H (in_block nodes k b).part
    block_around G H w k (block ds es) i h =
        let ls = (in_eqns nodes k es).locals in
        let G' = among G ds in
        let H' = among H (ds ++ ls) in
        let w' : Within G' H' = λ x t g. within_more G H w ds ls x t g in
        let r = eqns_around G' H' w' k es i h.1 (λ x t g. inl (then_declares ds ls x t g)) in
        (decls_both known H' ds ls (decls_within known G' H' w' ds h.0) r.0, r.1)

    eqns_around : (G H : Around) → Within G H → (k : ℕ) (es : Eqns) → EqnsInline Free es → EqnsAround known G es → Sub H (in_eqns nodes k es).locals → DeclsAround known H (in_eqns nodes k es).locals × EqnsAround known H (in_eqns nodes k es).part
    eqns_around G H w k no_eqn i h s = (tt, tt)
    eqns_around G H w k (more_eqns e es) i h s =
        let here = in_eqn nodes k e in
        let rest = in_eqns nodes here.next es in
        let q = eqn_around G H w k e i.0 h.0 (sub_first H here.locals rest.locals s) in
        let r = eqns_around G H w here.next es i.1 h.1 (sub_then H here.locals rest.locals s) in (
          decls_both known H here.locals rest.locals q.0.0 r.0,
          row_around known H (here.before ++ (here.part ++ list_of_eqns rest.part)) (both_around known H here.before (here.part ++ list_of_eqns rest.part) q.0.1 (both_around known H here.part (list_of_eqns rest.part) q.1 (list_around known H rest.part r.1))),
        )

    eqn_around : (G H : Around) → Within G H → (k : ℕ) (e : Eqn) → EqnInlines Free e → EqnAround known G e → Sub H (in_eqn nodes k e).locals → Good H (in_eqn nodes k e).locals (in_eqn nodes k e).before × ListAround known H (in_eqn nodes k e).part
    eqn_around G H w k (define s ys e) i h u = definition_around H k s ys e i h u
    eqn_around G H w k (switch s e arms) i h u =
        let r = expr_around H k e i.0 h.0 u in
        let j = (in_expr nodes k e).next in
        (r.1, ((r.0, (one_type known arms (in_arms nodes j arms).part (arms_same j arms) h.1.0, arms_around G H w j arms i.1 h.1.1)), tt))
    eqn_around G H w k (reset s b e) i h u = let r = expr_around H k e i.0 h.0 u in (r.1, ((r.0, block_around G H w (in_expr nodes k e).next b i.1 h.1), tt))
    eqn_around G H w k (automaton s ss) i h u = ((tt, tt), (states_around G H w k ss i h, tt))

    arms_around : (G H : Around) → Within G H → (k : ℕ) (arms : Arms) → ArmsInline Free arms → ArmsAround known G arms → ArmsAround known H (in_arms nodes k arms).part
    arms_around G H w k no_arm i h = tt
    arms_around G H w k (more_arms c b s arms) i h = (block_around G H w k b i.0 h.0, arms_around G H w (in_block nodes k b).next arms i.1 h.1)

    states_around : (G H : Around) → Within G H → (k : ℕ) (ss : States) → StatesInline Free ss → StatesAround known G ss → StatesAround known H (in_states nodes k ss).part
    states_around G H w k no_state i h = tt
    states_around G H w k (more_states f b until unless s ss) i h = (block_around G H w k b i.0 h.0, (h.1.0, (h.1.1.0, states_around G H w (in_block nodes k b).next ss i.1 h.1.1.1)))

  -- ---- contracts: what their conditions are made of, stands at the end of their equations

  condition_around : (D : Around) (k : ℕ) (o : Option Expr) → ConditionInlines Free o → ConditionApart o → Sub D (in_condition nodes k o).locals → ConditionApart (in_condition nodes k o).part × Good D (in_condition nodes k o).locals (in_condition nodes k o).before
  condition_around D k None i h s = (tt, (tt, tt))
  condition_around D k (Some e) i h s = expr_around D k e i h s

  observer_around : (G : Around) (k : ℕ) (b : Block) (assume enforce : Option Expr) → BlockInlines Free b → ConditionInlines Free assume → ConditionInlines Free enforce → BlockAround known G b → ConditionApart assume → ConditionApart enforce
      → BlockAround known G (block (locals_of b ++ ((in_eqns nodes k (equations_of b)).locals ++ ((in_condition nodes (in_eqns nodes k (equations_of b)).next assume).locals ++ (in_condition nodes (in_condition nodes (in_eqns nodes k (equations_of b)).next assume).next enforce).locals)))
      (eqns_of (list_of_eqns (in_eqns nodes k (equations_of b)).part ++ ((in_condition nodes (in_eqns nodes k (equations_of b)).next assume).before ++ (in_condition nodes (in_condition nodes (in_eqns nodes k (equations_of b)).next assume).next enforce).before))))
      × (ConditionApart (in_condition nodes (in_eqns nodes k (equations_of b)).next assume).part × ConditionApart (in_condition nodes (in_condition nodes (in_eqns nodes k (equations_of b)).next assume).next enforce).part)
  observer_around G k (block ds es) assume enforce ib ia ie h ha he =
      let q = in_eqns nodes k es in
      let a = in_condition nodes q.next assume in
      let c = in_condition nodes a.next enforce in
      let more = a.locals ++ c.locals in
      let ls = q.locals ++ more in
      let G' = among G ds in
      let H' = among G (ds ++ ls) in
      let w' : Within G' H' = λ x t g. within_more G G (λ y u k. k) ds ls x t g in
      let all : Sub H' ls = λ x t g. inl (then_declares ds ls x t g) in
      let sub_more = sub_then H' q.locals more all in
      let r = eqns_around G' H' w' k es ib h.1 (sub_first H' q.locals more all) in
      let ra = condition_around H' q.next assume ia ha (sub_first H' a.locals c.locals sub_more) in
      let rc = condition_around H' a.next enforce ie he (sub_then H' a.locals c.locals sub_more) in
      let news = a.before ++ c.before in (
        (
          decls_both known H' ds ls (decls_within known G' H' w' ds h.0) (decls_both known H' q.locals more r.0 (decls_both known H' a.locals c.locals ra.1.0 rc.1.0)),
          row_around known H' (list_of_eqns q.part ++ news) (both_around known H' (list_of_eqns q.part) news (list_around known H' q.part r.1) (both_around known H' a.before c.before ra.1.1 rc.1.1)),
        ),
        (ra.0, rc.0),
      )

  pub contract_around : (G : Around) (o : Option Contract) → ContractInlines Free o → ContractAround known G o → ContractAround known G (in_contract nodes 1 o).part
  contract_around G None i h = tt
  contract_around G (Some c) i h = observer_around G 1 c.body c.assume c.enforce i.0 i.1.0 i.1.1 h.0 h.1.0 h.1.1
