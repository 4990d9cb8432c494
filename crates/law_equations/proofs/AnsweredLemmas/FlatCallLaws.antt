-- What a node becomes over flat names looks at the outputs of the nodes that it calls alone.
use Rattle.std.proofs.Common.{◌≡◌, ℕ, suc, List, [], ◌∷◌, refl, ap, ap₂, ◌∙◌}
use Rattle.std.proofs.Math.Path.{fun_ext}
use Rattle.std.specs.Prelude.{is_some, if◌then◌else◌, Option, None, Some}
use Rattle.std.specs.Str.{bytes_eq}
use Rattle.hp_base.specs.declared.span.Span.{Span}
use Rattle.hp_base.specs.declared.ty.Const.{Const}
use Rattle.hp_obc.specs.declared.command.ObcOp.TheVariants.{Mux}
use Rattle.hp_tree.specs.Expressions.{Expr, constant, variable, last_of, one, two, choose, pre, fby, arrow, when_is, merge, call, Exprs, no_expr, more_exprs, Parts, no_part, more_parts}
use Rattle.hp_tree.specs.Blocks.{Decl, Block, block, Eqns, no_eqn, more_eqns, Eqn, define, switch, reset, automaton, Arms, no_arm, more_arms}
use Rattle.hp_tree.specs.Programs.{TypeDecl, Node}
use Rattle.hp_tree.specs.Instant.{Named, Body, Equations, Head, Tail, Right as RightOf, Test, Arms as ArmsOf, First, Second, Third, Args, Instance, Place, Clock, without}
use Rattle.hp_tree.specs.Operators.{cons_of}
use Rattle.hp_tree.specs.Meaning.{defines, some_defines, block_defines, clock_of}
use Rattle.hp_base.specs.declared.value.Value.{Value}
use Rattle.law_equations.specs.Flattened.Flatten.{FlatName, Input, At, Free, Nowhere, IsFirst, Held, When, obc_one, obc_two, arms_rows, always, on, Rows, Plan, plan_one, plan_two, plan_three, plan_row, plan_call, plan_of_two, plan_block, plan_right, plan_arms, plan_body, unless, Prefix, below, Scope, inside_at, within_at, under, lasts_at, restarts_at, is_false, constant_in, node_scope, row, copies, args_at, parts_at, only_row, output_row, fby_row, flat_expr, flat_exprs, flat_parts, right_at, output_at, flat_gives, flat_defined, flat_scope, flat_equations, flat_equation, flat_arms, flat_place, flatten}
use Rattle.law_equations.specs.Flattened.Flat.{Arg, name, Op, Register, Call}
use Rattle.law_equations.specs.Flattened.Lifted.{in_body}
use Rattle.law_equations.specs.Flattened.Behaves.{EachCall, EachCallOfAll, EachCallOfParts, EachCallIn, EachCallInAll, EachCallInOne, EachCallInArms}

module _ (types : List TypeDecl) (outs outs' : List ℕ → List (List ℕ)) (fill : Place → Value) where
  args_same : (es : Exprs) (here : Prefix) → args_at types outs fill es here ≡ args_at types outs' fill es here
  args_same no_expr here = refl
  args_same (more_exprs e es) here = ap (λ xs. name (At (here (Head ∷ []))) ∷ xs) (args_same es (below Tail here))

  merged_same : (ps : Parts) (x : List ℕ) (sc : Scope) (here : Prefix) (ck : When) (rs : List Place) → parts_at types outs fill ps x sc here ck rs ≡ parts_at types outs' fill ps x sc here ck rs
  merged_same no_part x sc here ck rs = refl
  merged_same (more_parts c e ps) x sc here ck rs = ap (λ rows. copies (on (cons_of types c) (sc x) ck) rs (At (here (Head ∷ []))) ∷ rows) (merged_same ps x sc (below Tail here) ck rs)

  only_same : (os : List (List ℕ)) (here : Prefix) (ck : When) (rs : List Place) → only_row types outs fill os here ck rs ≡ only_row types outs' fill os here ck rs
  only_same [] here ck rs = refl
  only_same (o ∷ os) here ck rs = refl

  output_same : (k : ℕ) (os : List (List ℕ)) (ck : When) (rs : List Place) (f : List ℕ) (xs : List (Arg FlatName)) (x : List ℕ) → output_row types outs fill k os ck rs f xs x ≡ output_row types outs' fill k os ck rs f xs x
  output_same k [] ck rs f xs x = refl
  output_same k (o ∷ os) ck rs f xs x = ap (λ o'. if bytes_eq o x then Some (row ck rs (Call f k xs) ∷ []) else o') (output_same (suc k) os ck rs f xs x)

  fby_same : (c : Option Const) (here : Prefix) (w : When) (rs : List Place) → fby_row types outs fill c here w rs ≡ fby_row types outs' fill c here w rs
  fby_same None here w rs = refl
  fby_same (Some c) here w rs = refl

  name_same : (ys : List (List ℕ × Span)) (os : List (List ℕ)) (here : Prefix) (x : List ℕ) → output_at types outs fill ys os here x ≡ output_at types outs' fill ys os here x
  name_same [] os here x = refl
  name_same (y ∷ ys) [] here x = refl
  name_same (y ∷ ys) (o ∷ os) here x = ap (λ a. if bytes_eq y.0 x then At (here (Instance ∷ Named o ∷ [])) else a) (name_same ys os here x)

  arms_rows_same : (arms : Arms) (test : FlatName) (lsc : Scope) (here : Prefix) (ck : When) (rs : List Place) (x : List ℕ) → arms_rows types outs fill arms test lsc here ck rs x ≡ arms_rows types outs' fill arms test lsc here ck rs x
  arms_rows_same no_arm test lsc here ck rs x = refl
  arms_rows_same (more_arms c b s arms) test lsc here ck rs x =
      ap (λ rows. copies (on (cons_of types c) test ck) rs (if block_defines b x then At (here (Head ∷ Named x ∷ [])) else lsc x) ∷ rows) (arms_rows_same arms test lsc (below Tail here) ck rs x)

  abbrev Same : List ℕ → Prefix → Type 0
  Same f here = outs f ≡ outs' f

  mutual
    expr_same : (e : Expr) (clock : Clock) (sc lsc : Scope) (here : Prefix) (ck : When) (rs : List Place) → EachCall Same e here → flat_expr types outs fill e clock sc lsc here ck rs ≡ flat_expr types outs' fill e clock sc lsc here ck rs
    expr_same (constant s c) clock sc lsc here ck rs h = refl
    expr_same (variable s x) clock sc lsc here ck rs h = refl
    expr_same (last_of s x) clock sc lsc here ck rs h = refl
    expr_same (one s o a) clock sc lsc here ck rs h =
        let t = expr_same a clock sc lsc (below First here) ck rs h in
        λ d. plan_one (row (under types sc clock ck) rs (Op (obc_one o) (name (At (here (First ∷ []))) ∷ [])) ∷ []) (t d)
    expr_same (two s o a b) clock sc lsc here ck rs h =
        let t = expr_same a clock sc lsc (below First here) ck rs h.0 in
        let u = expr_same b clock sc lsc (below Second here) ck rs h.1 in
        λ d. plan_two (row (under types sc clock ck) rs (Op (obc_two o) (name (At (here (First ∷ []))) ∷ name (At (here (Second ∷ []))) ∷ [])) ∷ []) (t d) (u d)
    expr_same (choose s a b c) clock sc lsc here ck rs h =
        let t = expr_same a clock sc lsc (below First here) ck rs h.0 in
        let u = expr_same b clock sc lsc (below Second here) ck rs h.1 in
        let w = expr_same c clock sc lsc (below Third here) ck rs h.2 in
        λ d. plan_three (row (under types sc clock ck) rs (Op Mux (name (At (here (First ∷ []))) ∷ name (At (here (Second ∷ []))) ∷ name (At (here (Third ∷ []))) ∷ [])) ∷ []) (t d) (u d) (w d)
    expr_same (pre s a) clock sc lsc here ck rs h =
        let t = expr_same a clock sc lsc (below First here) ck rs h in
        λ d. plan_one (row (under types sc clock ck) rs (Register (fill (here [])) (name (At (here (First ∷ []))))) ∷ []) (t d)
    expr_same (fby s a b) clock sc lsc here ck rs h =
        let r = fby_same (constant_in a) here (under types sc clock ck) rs in
        let t = expr_same a clock sc lsc (below First here) ck rs h.0 in
        let u = expr_same b clock sc lsc (below Second here) ck rs h.1 in
        λ d. plan_two (r d ∷ []) (unless (is_some (constant_in a)) (t d)) (u d)
    expr_same (arrow s a b) clock sc lsc here ck rs h =
        let t = expr_same a clock sc lsc (below First here) ck rs h.0 in
        let u = expr_same b clock sc lsc (below Second here) ck rs h.1 in
        λ d. plan_two (row (under types sc clock ck) rs (Op Mux (name (IsFirst (under types sc clock ck) rs) ∷ name (At (here (First ∷ []))) ∷ name (At (here (Second ∷ []))) ∷ [])) ∷ []) (t d) (u d)
    expr_same (when_is s a c x) clock sc lsc here ck rs h =
        let t = expr_same a (without clock) sc lsc (below First here) ck rs h in
        λ d. plan_one (copies (under types sc clock ck) rs (At (here (First ∷ []))) ∷ []) (t d)
    expr_same (merge s x ps) clock sc lsc here ck rs h =
        let m = merged_same ps x sc (below Args here) (under types sc clock ck) rs in
        let t = parts_same ps x clock sc lsc (below Args here) ck rs h in
        λ d. plan_row (m d) (t d)
    expr_same (call s f inlined es) clock sc lsc here ck rs h =
        let os = only_same (outs f) here (under types sc clock ck) rs ∙ ap (λ os. only_row types outs' fill os here (under types sc clock ck) rs) h.0 in
        let t = exprs_same es clock sc lsc (below Args here) ck rs h.1 in
        let xs = args_same es (below Args here) in
        let rows : (λ x. output_row types outs fill 0 (outs f) (under types sc clock ck) rs f (args_at types outs fill es (below Args here)) x) ≡ (λ x. output_row types outs' fill 0 (outs' f) (under types sc clock ck) rs f (args_at types outs' fill es (below Args here)) x) =
        fun_ext (λ x. output_same 0 (outs f) (under types sc clock ck) rs f (args_at types outs fill es (below Args here)) x ∙ ap₂ (λ os xs. output_row types outs' fill 0 os (under types sc clock ck) rs f xs x) h.0 xs) in
        λ d. plan_call (os d) (t d) (rows d)

    exprs_same : (es : Exprs) (clock : Clock) (sc lsc : Scope) (here : Prefix) (ck : When) (rs : List Place) → EachCallOfAll Same es here → flat_exprs types outs fill es clock sc lsc here ck rs ≡ flat_exprs types outs' fill es clock sc lsc here ck rs
    exprs_same no_expr clock sc lsc here ck rs h = refl
    exprs_same (more_exprs e es) clock sc lsc here ck rs h = ap₂ plan_of_two (expr_same e clock sc lsc (below Head here) ck rs h.0) (exprs_same es clock sc lsc (below Tail here) ck rs h.1)

    parts_same : (ps : Parts) (x : List ℕ) (clock : Clock) (sc lsc : Scope) (here : Prefix) (ck : When) (rs : List Place) → EachCallOfParts Same ps here → flat_parts types outs fill ps x clock sc lsc here ck rs ≡ flat_parts types outs' fill ps x clock sc lsc here ck rs
    parts_same no_part x clock sc lsc here ck rs h = refl
    parts_same (more_parts c e ps) x clock sc lsc here ck rs h = ap₂ plan_of_two (expr_same e ((c, x) ∷ clock) sc lsc (below Head here) ck rs h.0) (parts_same ps x clock sc lsc (below Tail here) ck rs h.1)

  right_same : (ys : List (List ℕ × Span)) (e : Expr) (here : Prefix) → EachCall Same e here → (x : List ℕ) → right_at types outs fill ys e here x ≡ right_at types outs' fill ys e here x
  right_same ys (constant s c) here h x = refl
  right_same ys (variable s y) here h x = refl
  right_same ys (last_of s y) here h x = refl
  right_same ys (one s o a) here h x = refl
  right_same ys (two s o a b) here h x = refl
  right_same ys (choose s a b c) here h x = refl
  right_same ys (pre s a) here h x = refl
  right_same ys (fby s a b) here h x = refl
  right_same ys (arrow s a b) here h x = refl
  right_same ys (when_is s a c y) here h x = refl
  right_same ys (merge s y ps) here h x = refl
  right_same ys (call s f inlined es) here h x = name_same ys (outs f) here x ∙ ap (λ os. output_at types outs' fill ys os here x) h.0

  gives_same : (ds : List Decl) (e : Eqn) (sc lsc : Scope) (here : Prefix) (ck : When) (rs : List Place) → EachCallInOne Same e here → (x : List ℕ) → flat_gives types outs fill ds e sc lsc here ck rs x ≡ flat_gives types outs' fill ds e sc lsc here ck rs x
  gives_same ds (define s ys e) sc lsc here ck rs h x = ap (λ a. copies (under types sc (clock_of ds ys e) ck) rs a ∷ []) (right_same ys e (below RightOf here) h x)
  gives_same ds (switch s e arms) sc lsc here ck rs h x = arms_rows_same arms (At (here (Test ∷ []))) lsc (below ArmsOf here) ck rs x
  gives_same ds (reset s b e) sc lsc here ck rs h x = refl
  gives_same ds (automaton s ss) sc lsc here ck rs h x = refl

  defined_same : (ds : List Decl) (es : Eqns) (sc lsc : Scope) (here : Prefix) (ck : When) (rs : List Place) → EachCallInAll Same es here → (x : List ℕ) → flat_defined types outs fill ds es sc lsc here ck rs x ≡ flat_defined types outs' fill ds es sc lsc here ck rs x
  defined_same ds no_eqn sc lsc here ck rs h x = refl
  defined_same ds (more_eqns e es) sc lsc here ck rs h x =
      ap₂ (λ r r'. if defines e x then r else r') (gives_same ds e sc lsc (below Head here) ck rs h.0 x) (defined_same ds es sc lsc (below Tail here) ck rs h.1 x)

  mutual
    scope_same : (b : Block) (sc lsc : Scope) (here : Prefix) (ck : When) (rs : List Place) → EachCallIn Same b here → flat_scope types outs fill b sc lsc here ck rs ≡ flat_scope types outs' fill b sc lsc here ck rs
    scope_same (block ds es) sc lsc here ck rs h =
        let sc' = inside_at es sc here in
        let lsc' = lasts_at types ds lsc here ck rs in
        ap₂ plan_block
        (fun_ext (λ x. ap (λ r. if some_defines es x then Some r else None) (defined_same ds es sc' lsc' (below Equations here) ck rs h x)))
        (equations_same ds es sc' lsc' (below Equations here) ck rs h)

    equations_same : (ds : List Decl) (es : Eqns) (sc lsc : Scope) (here : Prefix) (ck : When) (rs : List Place) → EachCallInAll Same es here → flat_equations types outs fill ds es sc lsc here ck rs ≡ flat_equations types outs' fill ds es sc lsc here ck rs
    equations_same ds no_eqn sc lsc here ck rs h = refl
    equations_same ds (more_eqns e es) sc lsc here ck rs h = ap₂ plan_of_two (equation_same ds e sc lsc (below Head here) ck rs h.0) (equations_same ds es sc lsc (below Tail here) ck rs h.1)

    equation_same : (ds : List Decl) (e : Eqn) (sc lsc : Scope) (here : Prefix) (ck : When) (rs : List Place) → EachCallInOne Same e here → flat_equation types outs fill ds e sc lsc here ck rs ≡ flat_equation types outs' fill ds e sc lsc here ck rs
    equation_same ds (define s ys e) sc lsc here ck rs h = ap plan_right (expr_same e (clock_of ds ys e) sc lsc (below RightOf here) ck rs h)
    equation_same ds (switch s e arms) sc lsc here ck rs h =
        ap₂ plan_arms (expr_same e [] sc lsc (below Test here) ck rs h.0) (arms_same arms (At (here (Test ∷ []))) (within_at (switch s e arms) sc lsc) lsc (below ArmsOf here) ck rs h.1)
    equation_same ds (reset s b e) sc lsc here ck rs h =
        ap₂ (λ i j. plan_body (unless (is_false e) i) j) (expr_same e [] sc lsc (below Test here) ck rs h.0) (scope_same b (within_at (reset s b e) sc lsc) lsc (below Body here) ck (restarts_at e here rs) h.1)
    equation_same ds (automaton s ss) sc lsc here ck rs h = refl

    arms_same : (arms : Arms) (test : FlatName) (sc lsc : Scope) (here : Prefix) (ck : When) (rs : List Place) → EachCallInArms Same arms here → flat_arms types outs fill arms test sc lsc here ck rs ≡ flat_arms types outs' fill arms test sc lsc here ck rs
    arms_same no_arm test sc lsc here ck rs h = refl
    arms_same (more_arms c b s arms) test sc lsc here ck rs h =
        ap₂ plan_of_two (scope_same b sc lsc (below Head here) (on (cons_of types c) test ck) rs h.0) (arms_same arms test sc lsc (below Tail here) ck rs h.1)

  place_same : (n : Node) → EachCallIn Same n.body in_body → (p : Place) → flat_place types outs fill n p ≡ flat_place types outs' fill n p
  place_same n h [] = refl
  place_same n h (Named x ∷ []) = refl
  place_same n h (Body ∷ p) = ap (λ (i : Plan Rows). i p) (scope_same n.body (node_scope n) (lasts_at types n.outputs (λ x. Nowhere) in_body always []) in_body always [] h)
  place_same n h p = refl

  pub flatten_same : (n : Node) → EachCallIn Same n.body in_body → (x : FlatName) → flatten types outs fill n x ≡ flatten types outs' fill n x
  flatten_same n h (At p) = place_same n h p
  flatten_same n h (Input x) = refl
  flatten_same n h (Free p) = refl
  flatten_same n h Nowhere = refl
  flatten_same n h (IsFirst ck rs) = refl
  flatten_same n h (Held v p ck rs) = refl
