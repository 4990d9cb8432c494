-- The calls of sound nodes fit.
use Rattle.std.proofs.Common.{◌≡◌, ℕ, ◌≤◌, ◌<◌, Bool, true, false, ◌&&◌, ◌||◌, not, IsTrue, List, [], ◌∷◌, length, Option, None, Some, refl, sym, ap, subst, ◌∙◌, arith}
use Rattle.std.proofs.lemmas.Option.{none-some}
use Rattle.std.specs.Str.{bytes_eq}
use Rattle.hp_base.specs.declared.span.Span.{Span}
use Rattle.hp_base.specs.declared.ty.Ty.{Ty}
use Rattle.hp_base.specs.declared.ty.Ty.TheVariants as ty
use Rattle.hp_tree.specs.declared.block.Trans.{Trans}
use Rattle.hp_tree.specs.Blocks.{Decl, Block, block, Eqns, no_eqn, more_eqns, Eqn, define, switch, reset, automaton, Arms, no_arm, more_arms, States, no_state, more_states}
use Rattle.hp_tree.specs.Expressions.{Expr, constant, variable, last_of, one, two, choose, pre, fby, arrow, when_is, merge, call, Exprs, no_expr, more_exprs, Parts, no_part, more_parts}
use Rattle.hp_tree.specs.Meaning.{declares, some_defines, block_defines}
use Rattle.hp_tree.specs.Programs.{TypeDecl, Contract, Node}
use Rattle.hp_base.specs.Known.Known.{lookup}
use Rattle.hp_typing.specs.Scopes.{with_variables, inside, inside_node}
use Rattle.hp_typing.specs.Types.{type_of, types_in, type_of_one, args_fit, input_type}
use Rattle.law_judged.specs.Typed.Scopes.{Scope}
use Rattle.law_values.specs.Valued.Fitting.{first_output}
use Rattle.law_values.specs.Valued.Judged.{Lasts, lasts_in, lasts_of, no_lasts, body_scope, LeftsAre, LeftsHave, ExprSound, ExprsSound, PartsSound, RightSound, TestsSound, BlockSound, EqnsSound, EqnSound, ArmsSound, StatesSound, HaveEquations, ToldSound, ContractSound, NodeSound}
use Rattle.law_values.proofs.ValuedLemmas.Typed.{one_typed, two_typed, if_typed, pair_typed, when_typed, call_typed, row_typed, merge_typed, PartsHave, arg_typed}
use Rattle.hp_meaning.specs.Causal.WhatIsRead.{has_equation}
use Rattle.law_drawing.proofs.CarryingLemmas.Layers.{same-name}
use Rattle.hp_drawing.specs.Told.{Told}
use Rattle.law_drawing.specs.Steered.Asked.{count_of, CallFits, CallsFit, CallsInAllFit, CallsInPartsFit, RightFits, ConditionsFit, BlockFits, EqnsFit, EqnFits, ArmsFit, StatesFit, TellsFit, ContractFits}
use Rattle.law_drawing.specs.Steered.Nodes.{NodeFits}
use Rattle.law_drawing.specs.Steered.Accepted.{IsOnce, AllOnce, OneOnce, ArmsOnce, StatesOnce, ContractOnce}

some-is : {A : Type 0} (a b : A) → Some a ≡ Some b → a ≡ b
some-is a b h = cc

-- arguments that fit are as many as the inputs
fitting-count : (s : Scope) (ds : List Decl) (es : Exprs) → IsTrue (args_fit ds (types_in s es)) → count_of es ≤ length ds
fitting-count s [] no_expr h = omega arith
fitting-count s (d ∷ ds) no_expr h = omega arith
fitting-count s [] (more_exprs e es) h = absurd cc
fitting-count s (d ∷ ds) (more_exprs e es) h = let k = fitting-count s ds es (arg_typed d ds (type_of s e) (types_in s es) h).1 in omega (arith, k)

has-output : (n : Node) (u : Ty) → input_type n.outputs ≡ Some u → 0 < length n.outputs
has-output n u h = by n.outputs h
  where
    by : (ds : List Decl) → input_type ds ≡ Some u → 0 < length ds
    by [] h = absurd (none-some u h)
    by (d ∷ ds) h = omega arith

module _ (types : List TypeDecl) (among : List ℕ → Option Node) (t : Told) (known : (f : List ℕ) (n : Node) → among f ≡ Some n → t.nodes f ≡ Some n) where
  module _ (s : Scope) (lasts : Lasts) where
    abbrev a_call : (f : List ℕ) (n : Node) (es : Exprs) → lookup s.nodes f ≡ among f → lookup s.nodes f ≡ Some n → IsTrue (args_fit n.inputs (types_in s es)) → CallFits t f (count_of es)
    a_call f n es same found fit = record { node = n; found = known f n (sym same ∙ found); inputs = fitting-count s n.inputs es fit }

    mutual
      expr-fits : (e : Expr) (u : Ty) → ExprSound types among s lasts e → type_of s e ≡ Some u → CallsFit t e
      expr-fits (constant q c) u h k = tt
      expr-fits (variable q x) u h k = tt
      expr-fits (last_of q x) u h k = tt
      expr-fits (one q op a) u h k = expr-fits a (type_of_one op) h (one_typed (type_of_one op) (type_of s a) u k).0
      expr-fits (two q op a b) u h k = let r = two_typed op (type_of s a) (type_of s b) u k in (expr-fits a r.0 h.0 r.2, expr-fits b r.0 h.1 r.3)
      expr-fits (choose q a b c) u h k = let r = if_typed (type_of s a) (type_of s b) (type_of s c) u k in (expr-fits a ty.Bool h.0 r.0, expr-fits b u h.1.0 r.1, expr-fits c u h.1.1 r.2)
      expr-fits (pre q a) u h k = expr-fits a u h k
      expr-fits (fby q a b) u h k = let r = pair_typed (type_of s a) (type_of s b) u k in (expr-fits a u h.0 r.0, expr-fits b u h.1 r.1)
      expr-fits (arrow q a b) u h k = let r = pair_typed (type_of s a) (type_of s b) u k in (expr-fits a u h.0 r.0, expr-fits b u h.1 r.1)
      expr-fits (when_is q a c x) u h k = expr-fits a u h (when_typed _ (type_of s a) u k)
      expr-fits (merge q x ps) u h k = parts-fit ps u h.1 (merge_typed s (lookup s.variables x) ps u k)
      expr-fits (call q f i es) u h k =
          let r = call_typed (lookup s.nodes f) (types_in s es) u k in
          (a_call f r.0 es h.0 r.1 r.2, has-output r.0 u (ap first_output (sym r.1) ∙ r.3), all-fit es r.0.inputs h.1 r.2)

      all-fit : (es : Exprs) (ds : List Decl) → ExprsSound types among s lasts es → IsTrue (args_fit ds (types_in s es)) → CallsInAllFit t es
      all-fit no_expr ds h k = tt
      all-fit (more_exprs e es) [] h k = absurd cc
      all-fit (more_exprs e es) (d ∷ ds) h k = let r = arg_typed d ds (type_of s e) (types_in s es) k in (expr-fits e d.ty h.0 r.0, all-fit es ds h.1 r.1)

      parts-fit : (ps : Parts) (u : Ty) → PartsSound types among s lasts ps → PartsHave s u ps → CallsInPartsFit t ps
      parts-fit no_part u h k = tt
      parts-fit (more_parts c e ps) u h k = (expr-fits e u h.0 k.0, parts-fit ps u h.1 k.1)

    lefts-count : (ys : List (List ℕ × Span)) (ds : List Decl) → LeftsAre s ys ds → length ys ≤ length ds
    lefts-count [] ds h = omega arith
    lefts-count (y ∷ ys) [] h = absurd h
    lefts-count (y ∷ ys) (d ∷ ds) h = let k = lefts-count ys ds h.1 in omega (arith, k)

    single-fits : (ys : List (List ℕ × Span)) (e : Expr) → ExprSound types among s lasts e × ((u : Ty) × ((type_of s e ≡ Some u) × LeftsHave s ys u)) → CallsFit t e
    single-fits ys e h = expr-fits e h.1.0 h.0 h.1.1.0

    tests-fit : (qs : List Trans) → TestsSound types among s lasts qs → ConditionsFit t qs
    tests-fit [] h = tt
    tests-fit (q ∷ qs) h = (expr-fits q.cond ty.Bool h.0.0 h.0.1, tests-fit qs h.1)

    told-fits : (o : Option Expr) → ToldSound types among s lasts o → TellsFit t o
    told-fits None h = tt
    told-fits (Some e) h = expr-fits e ty.Bool h.0 h.1

    -- the right side of a definition
    right-fits : (ys : List (List ℕ × Span)) (e : Expr) → RightSound types among s lasts ys e → RightFits t e ys
    right-fits ys (call q f i es) h =
        let r = row_typed (lookup s.nodes f) (types_in s es) h.1.0 h.1.1.0 in
        (a_call f r.0 es h.0.0 r.1 r.2, subst (λ ds. length ys ≤ length ds) (sym r.3) (lefts-count ys h.1.0 h.1.1.1), all-fit es r.0.inputs h.0.1 r.2)
    right-fits ys (constant q c) h = tt
    right-fits ys (variable q x) h = tt
    right-fits ys (last_of q x) h = tt
    right-fits ys (one q op a) h = single-fits ys (one q op a) h
    right-fits ys (two q op a b) h = single-fits ys (two q op a b) h
    right-fits ys (choose q a b c) h = single-fits ys (choose q a b c) h
    right-fits ys (pre q a) h = single-fits ys (pre q a) h
    right-fits ys (fby q a b) h = single-fits ys (fby q a b) h
    right-fits ys (arrow q a b) h = single-fits ys (arrow q a b) h
    right-fits ys (when_is q a c x) h = single-fits ys (when_is q a c x) h
    right-fits ys (merge q x ps) h = single-fits ys (merge q x ps) h

  -- ---- blocks

  mutual
    block-fits : (b : Block) (s : Scope) (lasts : Lasts) → BlockSound types among s lasts b → IsOnce b → BlockFits t b
    block-fits (block ds es) s lasts h o = eqns-fit es (with_variables s ds) (lasts_in ds lasts) h.1.1 o

    eqns-fit : (es : Eqns) (s : Scope) (lasts : Lasts) → EqnsSound types among s lasts es → AllOnce es → EqnsFit t es
    eqns-fit no_eqn s lasts h o = tt
    eqns-fit (more_eqns e es) s lasts h o = (eqn-fits e s lasts h.0 o.1, o.0, eqns-fit es s lasts h.1 o.2)

    eqn-fits : (e : Eqn) (s : Scope) (lasts : Lasts) → EqnSound types among s lasts e → OneOnce e → EqnFits t e
    eqn-fits (define q ys e) s lasts h o = right-fits s lasts ys e h
    eqn-fits (switch q e arms) s lasts h o = (expr-fits s lasts e h.1.0.0 h.0 h.1.0.1.0, arms-fit arms (switch q e arms) s lasts h.1.1 o)
    eqn-fits (reset q b e) s lasts h o = (block-fits b s lasts h.1 o, expr-fits s lasts e ty.Bool h.0.0 h.0.1)
    eqn-fits (automaton q ss) s lasts h o = states-fit ss (automaton q ss) s lasts h o

    arms-fit : (arms : Arms) (e : Eqn) (s : Scope) (lasts : Lasts) → ArmsSound types among e s lasts arms → ArmsOnce arms → ArmsFit t arms
    arms-fit no_arm e s lasts h o = tt
    arms-fit (more_arms c b q arms) e s lasts h o = (block-fits b s lasts h.1.0 o.0, arms-fit arms e s lasts h.1.1 o.1)

    states-fit : (ss : States) (e : Eqn) (s : Scope) (lasts : Lasts) → StatesSound types among e s lasts ss → StatesOnce ss → StatesFit t ss
    states-fit no_state e s lasts h o = tt
    states-fit (more_states f b until unless q ss) e s lasts h o =
        (block-fits b s lasts h.1.0 o.0, tests-fit (inside s b) (lasts_of b lasts) until h.1.1.0, tests-fit s lasts unless h.1.1.1.0, states-fit ss e s lasts h.1.1.1.1 o.1)

  pub contract-fits : (s : Scope) (lasts : Lasts) (c : Option Contract) → ContractSound types among s lasts c → ContractOnce c → ContractFits t c
  contract-fits s lasts None h o = tt
  contract-fits s lasts (Some c) h o = (block-fits c.body s lasts h.0 o, told-fits (inside s c.body) (lasts_of c.body lasts) c.assume h.1.0, told-fits (inside s c.body) (lasts_of c.body lasts) c.enforce h.1.1)

  -- outputs have equations
  output-equation : (b : Block) (ds : List Decl) → HaveEquations types among b ds → (x : List ℕ) → declares ds x ≡ true → has_equation b x ≡ true
  output-equation b [] h x d = absurd cc
  output-equation b (d ∷ ds) h x q = by (bytes_eq d.name x) refl q (output-equation b ds h.1 x)
    where
      some-of : (i j : Bool) → i && j ≡ true → i ≡ true
      some-of true j k = refl
      some-of false j k = k

      equation : (b : Block) → block_defines b d.name ≡ true → has_equation b d.name ≡ true
      equation (block es eqns) k = some-of (some_defines eqns d.name) (not (declares es d.name)) k

      by : (i : Bool) → bytes_eq d.name x ≡ i → i || declares ds x ≡ true → (declares ds x ≡ true → has_equation b x ≡ true) → has_equation b x ≡ true
      by true r k more = subst (λ y. has_equation b y ≡ true) (same-name d.name x r) (equation b h.0.0)
      by false r k more = more k

  pub node-fits : (s : Scope) (n : Node) → NodeSound types among s n → ContractOnce n.contract → IsOnce n.body → ((f : List ℕ) (m : Node) → t.nodes f ≡ Some m → ContractFits t m.contract) → NodeFits t n
  node-fits s n h c o callees = record {
    body = block-fits n.body (body_scope s n) (lasts_in n.outputs no_lasts) h.1.1.1.1.0 o;
    outputs = output-equation n.body n.outputs h.1.1.1.0;
    contract = contract-fits (inside_node s n) (lasts_in n.outputs no_lasts) n.contract h.1.1.1.1.1 c;
    callees = callees;
  }
