-- Blocks whose inlined calls are replaced are sound.
use Rattle.std.proofs.Common.{◌≡◌, ℕ, suc, ◌≤◌, List, [], ◌∷◌, ◌++◌, map, refl, sym, ap, ap₂, subst, ◌∙◌, ◌⊎◌, inl, inr, ⊎_elim, arith}
use Rattle.std.specs.Prelude.{⊤, Bool, true, false, ◌&&◌, ◌||◌, not, is_some, IsTrue, IsFalse, if◌then◌else◌, Option, None, Some}
use Rattle.hp_base.specs.declared.span.Span.{Span}
use Rattle.hp_base.specs.declared.ty.Ty.{Ty}
use Rattle.hp_base.specs.declared.ty.Ty.TheVariants as ty
use Rattle.hp_tree.specs.declared.block.Trans.{Trans}
use Rattle.hp_tree.specs.Expressions.{Expr, constant, variable, last_of, one, two, choose, pre, fby, arrow, when_is, merge, call, Exprs, no_expr, more_exprs, Parts, no_part, more_parts}
use Rattle.hp_tree.specs.Blocks.{Decl, Block, block, Eqns, no_eqn, more_eqns, Eqn, define, switch, reset, automaton, Arms, no_arm, more_arms, States, no_state, more_states, eqns_of, list_of_eqns}
use Rattle.hp_tree.specs.Programs.{TypeDecl, Contract, Node}
use Rattle.hp_tree.specs.Meaning.{is_among, declares, defines, some_defines, arms_define, states_define, block_defines, controls_of}
use Rattle.hp_base.specs.Known.Known.{lookup}
use Rattle.hp_typing.specs.Scopes.{with_variables, inside}
use Rattle.hp_typing.specs.Types.{type_of, types_in, args_fit, outputs_in}
use Rattle.law_judged.specs.Named.Scopes.{Scope}
use Rattle.law_judged.specs.Named.Scoped.{Names, also, AreFresh, BlockScoped, EqnsScoped, EqnScoped, ArmsScoped, StatesScoped}
use Rattle.law_judged.proofs.NamedLemmas.Sets.{or_cases, or_left, or_right, both_true, first_true, second_false, same_name, name_same}
use Rattle.law_judged.proofs.NamedLemmas.Declared.{eqn_owned}
use Rattle.hp_expand.specs.NewNames.{is_new, marked}
use Rattle.hp_expand.specs.Renaming.{renamed_decls}
use Rattle.hp_expand.specs.Replacing.{locals_of, names_of, defined_by, in_expr, in_exprs, in_parts, in_definition, in_block, in_eqns, in_eqn, in_arms, in_states}
use Rattle.law_judged.specs.Replaced.Fitting.{DeclNames, BlockNames, EqnsNames, EqnNames, ArmsNames, StatesNames, IsPlain, BlockFits, EqnsFit, EqnFits, ArmsFit, StatesFit, IsReady}
use Rattle.law_judged.proofs.ReplacedLemmas.Good.{same_eqns}
use Rattle.law_judged.proofs.ReplacedLemmas.Replaced.{good_block, good_eqns, good_eqn, good_arms, good_states}
use Rattle.law_values.specs.Valued.Judged.{Lasts, lasts_in, lasts_of, of_arms, Covers, LeftsAre, LeftsHave, HaveOwnTypes, HaveEquations, ExprSound, RightSound, TestsSound, FirstSound, DeclsSound, Completes, OthersKnown, BlockSound, EqnsSound, EqnSound, ArmsSound, StatesSound}
use Rattle.law_values.proofs.ValuedLemmas.Typed.{row_typed}
use Rattle.law_values.proofs.AcceptedLemmas.Views.{true_false, cases, lasts_own}
use Rattle.law_values.proofs.AcceptedLemmas.Keeps.{KeptName, Grows, outputs_kept}
use Rattle.law_values.proofs.AcceptedLemmas.Moves.{Place}
use Rattle.law_values.proofs.AcceptedLemmas.Replaces.{own_first, last_first, own_then, sound_append, scoped_first, scoped_then, last_then, OwnLasts, Called, ExprCalls, ExprsCall, PartsCall, FineExpr, fine_expr, fine_exprs, inlined_new}
use Rattle.law_values.proofs.AcceptedLemmas.ReplacesEqns.{same, InlinesOne, ExprInlines, ExprsInline, PartsInline, BlockInlines, EqnsInline, EqnInlines, ArmsInline, StatesInline, FirstsSound, firsts_append, firsts_renamed, firsts_of, decls_from, At, own_inner, inner, called_more, tests_same, below, block_comes, eqns_come, eqn_comes, arms_come, states_come}

abbrev pub Plain : Names → Type 0
Plain own = (x : List ℕ) → IsTrue (own x) → is_new x ≡ false

pub plain_more : (own : Names) (ds : List Decl) → DeclNames IsPlain ds → Plain own → Plain (also own ds)
plain_more own ds n p x h = ⊎_elim (λ d. (n x d).0) (λ d. p x d) (or_cases (declares ds x) (own x) h)

-- the nodes that are known have the inputs and outputs of those that are inlined
abbrev pub Alike : (List ℕ → Node) → Scope → Type 0
Alike nodes s = (f : List ℕ) (n : Node) → lookup s.nodes f ≡ Some n → ((nodes f).inputs ≡ n.inputs) × ((nodes f).outputs ≡ n.outputs)

pub alike_more : (nodes : List ℕ → Node) (ds : List Decl) (s : Scope) → Alike nodes s → Alike nodes (with_variables s ds)
alike_more nodes [] s a = a
alike_more nodes (d ∷ ds) s a = alike_more nodes ds (with_variables s (d ∷ [])) a

module _ (types : List TypeDecl) (among among' : List ℕ → Option Node) (nodes : List ℕ → Node) (ready : (f : List ℕ) → IsReady (nodes f)) (P : List ℕ → Type 0) (inputs_first : (f : List ℕ) → P f → FirstsSound types among among' (nodes f).inputs) where
  abbrev pub Lift : Scope → Type 0
  Lift r = (f : List ℕ) → P f → Called types among r (nodes f)

  -- ---- first values of new variables

  equations_first : (b : Block) (ds : List Decl) (before : List ℕ → Option Node) → HaveEquations types before b ds → FirstsSound types among among' ds
  equations_first b [] before h = tt
  equations_first b (d ∷ ds) before h = (h.0.1, equations_first b ds before h.1)

  locals_first : (before : List ℕ → Option Node) (s : Scope) (lasts : Lasts) (b : Block) → BlockSound types before s lasts b → FirstsSound types among among' (locals_of b)
  locals_first before s lasts (block ds es) h = firsts_of types among before (with_variables s ds) es ds h.0

  node_first : (r : Scope) (f : List ℕ) → P f → Called types among r (nodes f) → FirstsSound types among among' ((nodes f).inputs ++ ((nodes f).outputs ++ locals_of (nodes f).body))
  node_first r f p c =
      firsts_append types among among' (nodes f).inputs ((nodes f).outputs ++ locals_of (nodes f).body) (inputs_first f p)
      (firsts_append types among among' (nodes f).outputs (locals_of (nodes f).body) (equations_first (nodes f).body (nodes f).outputs c.before c.sound.1.1.1.0) (locals_first c.before _ _ (nodes f).body c.sound.1.1.1.1.0))

  module _ (r : Scope) (lift : Lift r) where
    mutual
      pub expr_first : (k : ℕ) (e : Expr) → ExprInlines P e → FirstsSound types among among' (in_expr nodes k e).locals
      expr_first k (constant a c) i = tt
      expr_first k (variable a x) i = tt
      expr_first k (last_of a x) i = tt
      expr_first k (one a o b) i = expr_first k b i
      expr_first k (two a o b c) i = let m = in_expr nodes k b in firsts_append types among among' m.locals (in_expr nodes m.next c).locals (expr_first k b i.0) (expr_first m.next c i.1)
      expr_first k (choose a b c d) i =
          let m = in_expr nodes k b in
          let n = in_expr nodes m.next c in
          firsts_append types among among' m.locals (n.locals ++ (in_expr nodes n.next d).locals) (expr_first k b i.0) (firsts_append types among among' n.locals (in_expr nodes n.next d).locals (expr_first m.next c i.1.0) (expr_first n.next d i.1.1))
      expr_first k (pre a b) i = expr_first k b i
      expr_first k (fby a b c) i = let m = in_expr nodes k b in firsts_append types among among' m.locals (in_expr nodes m.next c).locals (expr_first k b i.0) (expr_first m.next c i.1)
      expr_first k (arrow a b c) i = let m = in_expr nodes k b in firsts_append types among among' m.locals (in_expr nodes m.next c).locals (expr_first k b i.0) (expr_first m.next c i.1)
      expr_first k (when_is a b c x) i = expr_first k b i
      expr_first k (merge a x ps) i = parts_first k ps i
      expr_first k (call a f false es) i = exprs_first k es i.1
      expr_first k (call a f true es) i =
          firsts_append types among among' (in_exprs nodes k es).locals (renamed_decls (marked (in_exprs nodes k es).next) ((nodes f).inputs ++ ((nodes f).outputs ++ locals_of (nodes f).body))) (exprs_first k es i.1)
          (firsts_renamed types among among' (marked (in_exprs nodes k es).next) ((nodes f).inputs ++ ((nodes f).outputs ++ locals_of (nodes f).body)) (node_first r f i.0 (lift f i.0)))

      pub exprs_first : (k : ℕ) (es : Exprs) → ExprsInline P es → FirstsSound types among among' (in_exprs nodes k es).locals
      exprs_first k no_expr i = tt
      exprs_first k (more_exprs e es) i = let m = in_expr nodes k e in firsts_append types among among' m.locals (in_exprs nodes m.next es).locals (expr_first k e i.0) (exprs_first m.next es i.1)

      parts_first : (k : ℕ) (ps : Parts) → PartsInline P ps → FirstsSound types among among' (in_parts nodes k ps).locals
      parts_first k no_part i = tt
      parts_first k (more_parts c e ps) i = let m = in_expr nodes k e in firsts_append types among among' m.locals (in_parts nodes m.next ps).locals (expr_first k e i.0) (parts_first m.next ps i.1)

    definition_first : (k : ℕ) (s : Span) (ys : List (List ℕ × Span)) (e : Expr) → ExprInlines P e → FirstsSound types among among' (in_definition nodes k s ys e).locals
    definition_first k s ys (call a f true es) i = expr_first k (call a f true es) i
    definition_first k s ys e i = expr_first k e i

    pub eqn_first : (k : ℕ) (e : Eqn) → EqnInlines P e → FirstsSound types among among' (in_eqn nodes k e).locals
    eqn_first k (define s ys e) i = definition_first k s ys e i
    eqn_first k (switch s e arms) i = expr_first k e i.0
    eqn_first k (reset s b e) i = expr_first k e i.0
    eqn_first k (automaton s ss) i = tt

    pub eqns_first : (k : ℕ) (es : Eqns) → EqnsInline P es → FirstsSound types among among' (in_eqns nodes k es).locals
    eqns_first k no_eqn i = tt
    eqns_first k (more_eqns e es) i = let m = in_eqn nodes k e in firsts_append types among among' m.locals (in_eqns nodes m.next es).locals (eqn_first k e i.0) (eqns_first m.next es i.1)

  -- ---- one equation

  module _ {s r : Scope} {lasts lasts' : Lasts} {seen own after : Names} (owned : Names) (p : At types among among' s r lasts lasts' seen own after) (lift : Lift r) (alike : Alike nodes s) where
    abbrev pub Calls : Expr → Type 0
    Calls e = ExprCalls types among among' r lasts' after owned p.none s lasts p.grows p.names p.lasting nodes alike e

    mutual
      pub calls_of : (e : Expr) → ExprInlines P e → Calls e
      calls_of (constant a c) i = tt
      calls_of (variable a x) i = tt
      calls_of (last_of a x) i = tt
      calls_of (one a o b) i = calls_of b i
      calls_of (two a o b c) i = (calls_of b i.0, calls_of c i.1)
      calls_of (choose a b c d) i = (calls_of b i.0, (calls_of c i.1.0, calls_of d i.1.1))
      calls_of (pre a b) i = calls_of b i
      calls_of (fby a b c) i = (calls_of b i.0, calls_of c i.1)
      calls_of (arrow a b c) i = (calls_of b i.0, calls_of c i.1)
      calls_of (when_is a b c x) i = calls_of b i
      calls_of (merge a x ps) i = parts_calls ps i
      calls_of (call a f false es) i = (tt, all_calls es i.1)
      calls_of (call a f true es) i = (lift f i.0, all_calls es i.1)

      pub all_calls : (es : Exprs) → ExprsInline P es → ExprsCall types among among' r lasts' after owned p.none s lasts p.grows p.names p.lasting nodes alike es
      all_calls no_expr i = tt
      all_calls (more_exprs e es) i = (calls_of e i.0, all_calls es i.1)

      parts_calls : (ps : Parts) → PartsInline P ps → PartsCall types among among' r lasts' after owned p.none s lasts p.grows p.names p.lasting nodes alike ps
      parts_calls no_part i = tt
      parts_calls (more_parts c e ps) i = (calls_of e i.0, parts_calls ps i.1)

    abbrev pub New : List Eqn → Type 0
    New es = EqnsSound types among r lasts' (eqns_of es)

    pub fine : (k : ℕ) (e : Expr) (t : Ty) → type_of s e ≡ Some t → ExprSound types among' s lasts e → ExprInlines P e → HaveOwnTypes types among r (in_expr nodes k e).locals → OwnLasts lasts' (in_expr nodes k e).locals → EqnsScoped after owned (eqns_of (in_expr nodes k e).before) → FineExpr types among among' r lasts' after owned p.none s lasts p.grows p.names p.lasting nodes alike e (in_expr nodes k e).part (in_expr nodes k e).before
    fine k e t h ok i o l sc = fine_expr types among among' r lasts' after owned p.none s lasts p.grows p.names p.lasting nodes alike k e t h ok (calls_of e i) (o, (l, sc))

    defined_sound : (w a : Span) (k : ℕ) (ys : List (List ℕ × Span)) (outs : List Decl) → LeftsAre s ys outs → HaveOwnTypes types among r (renamed_decls (marked k) outs) → New (defined_by w ys a (names_of (renamed_decls (marked k) outs)))
    defined_sound w a k [] outs h o = tt
    defined_sound w a k (y ∷ ys) [] h o = absurd h
    defined_sound w a k (y ∷ ys) (d ∷ outs) h o = ((tt, (d.ty, (o.0, (p.names y.0 d.ty h.0, tt)))), defined_sound w a k ys outs h.1 o.1)

    lefts_are : (ys : List (List ℕ × Span)) (outs : List Decl) → LeftsAre s ys outs → LeftsAre r ys outs
    lefts_are [] [] h = tt
    lefts_are [] (d ∷ ds) h = absurd h
    lefts_are (y ∷ ys) [] h = absurd h
    lefts_are (y ∷ ys) (d ∷ ds) h = (p.names y.0 d.ty h.0, lefts_are ys ds h.1)

    lefts_have : (ys : List (List ℕ × Span)) (t : Ty) → LeftsHave s ys t → LeftsHave r ys t
    lefts_have [] t h = tt
    lefts_have (y ∷ ys) t h = (p.names y.0 t h.0, lefts_have ys t h.1)

    abbrev Defined : ℕ → Span → List (List ℕ × Span) → Expr → Type 0
    Defined k w ys e = New (in_definition nodes k w ys e).before × New (in_definition nodes k w ys e).part

    definition_sound : (k : ℕ) (w : Span) (ys : List (List ℕ × Span)) (e : Expr) → ExprInlines P e → HaveOwnTypes types among r (in_definition nodes k w ys e).locals → OwnLasts lasts' (in_definition nodes k w ys e).locals → EqnsScoped after owned (eqns_of (in_definition nodes k w ys e).before) → RightSound types among' s lasts ys e → Defined k w ys e
    definition_sound k w ys (call a f true es) i o l sc ok =
        let x = in_exprs nodes k es in
        let c = lift f i.0 in
        let q = row_typed (lookup s.nodes f) (types_in s es) ok.1.0 ok.1.1.0 in
        let al = alike f q.0 q.1 in
        let fit : IsTrue (args_fit (nodes f).inputs (types_in s es)) = subst (λ z. IsTrue (args_fit z (types_in s es))) (sym al.0) q.2 in
        let ls = renamed_decls (marked x.next) ((nodes f).inputs ++ ((nodes f).outputs ++ locals_of (nodes f).body)) in
        let args = fine_exprs types among among' r lasts' after owned p.none s lasts p.grows p.names p.lasting nodes alike k es (nodes f).inputs fit ok.0.1 (all_calls es i.1) (own_first types among r x.locals ls o, ((λ y z. l y (last_first x.locals ls y z)), scoped_first after owned x.before _ sc)) in
        let n = inlined_new types among among' r lasts' after owned p.none s lasts p.grows p.names p.lasting nodes alike k f es ok.1.0 ok.1.1.0 c (o, (l, sc)) args in
        (n.0, subst (λ z. New (defined_by w ys a (names_of (renamed_decls (marked x.next) z)))) (sym (al.1 ∙ q.3)) (defined_sound w a x.next ys ok.1.0 ok.1.1.1 n.1))
    definition_sound k w ys (call a f false es) i o l sc ok =
        let x = in_exprs nodes k es in
        let q = row_typed (lookup s.nodes f) (types_in s es) ok.1.0 ok.1.1.0 in
        let args = fine_exprs types among among' r lasts' after owned p.none s lasts p.grows p.names p.lasting nodes alike k es q.0.inputs q.2 ok.0.1 (all_calls es i.1) (o, (l, sc)) in
        (args.1, (((p.grows.known f, args.0.1), (ok.1.0, (outputs_kept types among s r p.grows f es x.part ok.1.0 args.0.0 ok.1.1.0, lefts_are ys ok.1.0 ok.1.1.1))), tt))
    definition_sound k w ys (constant a c) i o l sc ok = let f = fine k (constant a c) ok.1.0 ok.1.1.0 ok.0 i o l sc in (f.1, ((f.0.1, (ok.1.0, (f.0.0 ok.1.0 ok.1.1.0, lefts_have ys ok.1.0 ok.1.1.1))), tt))
    definition_sound k w ys (variable a c) i o l sc ok = let f = fine k (variable a c) ok.1.0 ok.1.1.0 ok.0 i o l sc in (f.1, ((f.0.1, (ok.1.0, (f.0.0 ok.1.0 ok.1.1.0, lefts_have ys ok.1.0 ok.1.1.1))), tt))
    definition_sound k w ys (last_of a c) i o l sc ok = let f = fine k (last_of a c) ok.1.0 ok.1.1.0 ok.0 i o l sc in (f.1, ((f.0.1, (ok.1.0, (f.0.0 ok.1.0 ok.1.1.0, lefts_have ys ok.1.0 ok.1.1.1))), tt))
    definition_sound k w ys (one a u b) i o l sc ok = let f = fine k (one a u b) ok.1.0 ok.1.1.0 ok.0 i o l sc in (f.1, ((f.0.1, (ok.1.0, (f.0.0 ok.1.0 ok.1.1.0, lefts_have ys ok.1.0 ok.1.1.1))), tt))
    definition_sound k w ys (two a u b c) i o l sc ok = let f = fine k (two a u b c) ok.1.0 ok.1.1.0 ok.0 i o l sc in (f.1, ((f.0.1, (ok.1.0, (f.0.0 ok.1.0 ok.1.1.0, lefts_have ys ok.1.0 ok.1.1.1))), tt))
    definition_sound k w ys (choose a b c d) i o l sc ok = let f = fine k (choose a b c d) ok.1.0 ok.1.1.0 ok.0 i o l sc in (f.1, ((f.0.1, (ok.1.0, (f.0.0 ok.1.0 ok.1.1.0, lefts_have ys ok.1.0 ok.1.1.1))), tt))
    definition_sound k w ys (pre a b) i o l sc ok = let f = fine k (pre a b) ok.1.0 ok.1.1.0 ok.0 i o l sc in (f.1, ((f.0.1, (ok.1.0, (f.0.0 ok.1.0 ok.1.1.0, lefts_have ys ok.1.0 ok.1.1.1))), tt))
    definition_sound k w ys (fby a b c) i o l sc ok = let f = fine k (fby a b c) ok.1.0 ok.1.1.0 ok.0 i o l sc in (f.1, ((f.0.1, (ok.1.0, (f.0.0 ok.1.0 ok.1.1.0, lefts_have ys ok.1.0 ok.1.1.1))), tt))
    definition_sound k w ys (arrow a b c) i o l sc ok = let f = fine k (arrow a b c) ok.1.0 ok.1.1.0 ok.0 i o l sc in (f.1, ((f.0.1, (ok.1.0, (f.0.0 ok.1.0 ok.1.1.0, lefts_have ys ok.1.0 ok.1.1.1))), tt))
    definition_sound k w ys (when_is a b c x) i o l sc ok = let f = fine k (when_is a b c x) ok.1.0 ok.1.1.0 ok.0 i o l sc in (f.1, ((f.0.1, (ok.1.0, (f.0.0 ok.1.0 ok.1.1.0, lefts_have ys ok.1.0 ok.1.1.1))), tt))
    definition_sound k w ys (merge a x ps) i o l sc ok = let f = fine k (merge a x ps) ok.1.0 ok.1.1.0 ok.0 i o l sc in (f.1, ((f.0.1, (ok.1.0, (f.0.0 ok.1.0 ok.1.1.0, lefts_have ys ok.1.0 ok.1.1.1))), tt))

  arms_conses : (k : ℕ) (arms : Arms) → of_arms arms ≡ of_arms (in_arms nodes k arms).part
  arms_conses k no_arm = refl
  arms_conses k (more_arms c b s arms) = ap (λ cs. c ∷ cs) (arms_conses (in_block nodes k b).next arms)

  -- ---- blocks

  -- what a control equation defines, it defined, and that is to be defined here
  pub record Held (e d : Eqn) (own : Names) : Type 0 where
    pub comes : (y : List ℕ) → IsTrue (defines d y) → IsTrue (defines e y)
    pub owns : (y : List ℕ) → IsTrue (defines e y) → IsTrue (own y)

  completes : (e d : Eqn) (own : Names) (lasts lasts' : Lasts) (b c : Block) → Held e d own → Plain own → ((x : List ℕ) → IsTrue (lasts x) → IsTrue (lasts' x)) → ((x : List ℕ) → is_new x ≡ false → IsTrue (block_defines b x) → IsTrue (block_defines c x)) → Completes types among' e lasts b → Completes types among d lasts' c
  completes e d own lasts lasts' b c h plain f keeps ok y z = let k = h.comes y z in ⊎_elim (λ l. inl (keeps y (plain y (h.owns y k)) l)) (λ l. inr (f y l)) (ok y k)

  until_sound : {s r : Scope} {lasts lasts' : Lasts} {seen own after : Names} (owned : Names) → At types among among' s r lasts lasts' seen own after → (k : ℕ) (b : Block) → BlockScoped seen own b → BlockScoped after owned (in_block nodes k b).part → (ts : List Trans) → TestsSound types among' (inside s b) (lasts_of b lasts) ts → TestsSound types among (inside r (in_block nodes k b).part) (lasts_of (in_block nodes k b).part lasts') ts
  until_sound {s} {r} {lasts} {lasts'} {seen} {own} {after} owned p k (block ds es) sc sc' ts ok =
      let i = inner types among among' p ds (in_eqns nodes k es).locals sc.0 sc.1 sc'.0 sc'.1 in
      tests_same types among among' (with_variables s ds) (with_variables r (ds ++ (in_eqns nodes k es).locals)) (lasts_in ds lasts) (lasts_in (ds ++ (in_eqns nodes k es).locals) lasts') i.grows i.names i.lasting ts ok

  mutual
    pub block_replaced : {s r : Scope} {lasts lasts' : Lasts} {seen own after : Names} (owned : Names) → At types among among' s r lasts lasts' seen own after → Lift r → Alike nodes s → Plain own → (k : ℕ) (b : Block) → BlockInlines P b → BlockFits nodes b → BlockNames IsPlain b → BlockScoped seen own b → (in_block nodes k b).next ≤ 1000000 → BlockScoped after owned (in_block nodes k b).part → BlockSound types among' s lasts b → BlockSound types among r lasts' (in_block nodes k b).part
    block_replaced {s} {r} {lasts} {lasts'} {seen} {own} {after} owned p lift alike plain k (block ds es) i f n sc b sc' ok =
        let q = in_eqns nodes k es in
        let all = ds ++ q.locals in
        let own_r = own_inner types among among' p all sc'.0 sc'.1 in (
          decls_from types among among' (with_variables r all) q.part all own_r sc'.2 (firsts_append types among among' ds q.locals (firsts_of types among among' (with_variables s ds) es ds ok.0) (eqns_first r lift k es i)),
          (
            (λ y h z.
                let c = block_comes nodes ready y seen own k (block ds es) f n sc b (both_true (some_defines q.part y) (declares all y) h (λ d. true_false (declares all y) d z)) in
                let t = ok.1.0 y (first_true (some_defines es y) (declares ds y) c) (cases (declares ds y) (λ d. absurd (second_false (some_defines es y) (declares ds y) c d)) (λ w. w)) in
                (t.0, p.names y t.0 t.1)),
            eqns_replaced (also owned all) (inner types among among' p ds q.locals sc.0 sc.1 sc'.0 sc'.1) (λ g z. called_more types among among' r all (nodes g) (lift g z)) (alike_more nodes ds s alike) (plain_more own ds n.0 plain) k es i f n.1 sc.3 b
                (own_then types among (with_variables r all) ds q.locals own_r) (λ x l. lasts_own all lasts' x sc'.0 (last_then ds q.locals x l)) sc'.3 ok.1.1,
          ),
        )

    pub eqns_replaced : {s r : Scope} {lasts lasts' : Lasts} {seen own after : Names} (owned : Names) → At types among among' s r lasts lasts' seen own after → Lift r → Alike nodes s → Plain own → (k : ℕ) (es : Eqns) → EqnsInline P es → EqnsFit nodes es → EqnsNames IsPlain es → EqnsScoped seen own es → (in_eqns nodes k es).next ≤ 1000000 → HaveOwnTypes types among r (in_eqns nodes k es).locals → OwnLasts lasts' (in_eqns nodes k es).locals → EqnsScoped after owned (in_eqns nodes k es).part → EqnsSound types among' s lasts es → EqnsSound types among r lasts' (in_eqns nodes k es).part
    eqns_replaced {s} {r} {lasts} {lasts'} {seen} {own} {after} owned p lift alike plain k no_eqn i f n sc b o l sc' ok = tt
    eqns_replaced {s} {r} {lasts} {lasts'} {seen} {own} {after} owned p lift alike plain k (more_eqns e es) i f n sc b o l sc' ok =
        let m = in_eqn nodes k e in
        let q = in_eqns nodes m.next es in
        let rest = list_of_eqns q.part in
        let sc1 = scoped_then after owned m.before (m.part ++ rest) sc' in
        let low = below m.next q.next (good_eqns nodes ready seen own m.next es f.1 n.1 sc.1).le b in
        let here = eqn_replaced owned p lift alike plain k e i.0 f.0 n.0 sc.0 low (own_first types among r m.locals q.locals o) (λ x z. l x (last_first m.locals q.locals x z))
        (scoped_first after owned m.before (m.part ++ rest) sc') (scoped_first after owned m.part rest sc1) ok.0 in
        let more = eqns_replaced owned p lift alike plain m.next es i.1 f.1 n.1 sc.1 b (own_then types among r m.locals q.locals o) (λ x z. l x (last_then m.locals q.locals x z))
        (subst (λ z. EqnsScoped after owned z) (same_eqns q.part) (scoped_then after owned m.part rest sc1)) ok.1 in
        sound_append types among r lasts' m.before (m.part ++ rest) here.0
        (sound_append types among r lasts' m.part rest here.1 (subst (λ z. EqnsSound types among r lasts' z) (sym (same_eqns q.part)) more))

    eqn_replaced : {s r : Scope} {lasts lasts' : Lasts} {seen own after : Names} (owned : Names) → At types among among' s r lasts lasts' seen own after → Lift r → Alike nodes s → Plain own → (k : ℕ) (e : Eqn) → EqnInlines P e → EqnFits nodes e → EqnNames IsPlain e → EqnScoped seen own e → (in_eqn nodes k e).next ≤ 1000000 → HaveOwnTypes types among r (in_eqn nodes k e).locals → OwnLasts lasts' (in_eqn nodes k e).locals → EqnsScoped after owned (eqns_of (in_eqn nodes k e).before) → EqnsScoped after owned (eqns_of (in_eqn nodes k e).part) → EqnSound types among' s lasts e → EqnsSound types among r lasts' (eqns_of (in_eqn nodes k e).before) × EqnsSound types among r lasts' (eqns_of (in_eqn nodes k e).part)
    eqn_replaced {s} {r} {lasts} {lasts'} {seen} {own} {after} owned p lift alike plain k (define w ys e) i f n sc b o l sc' sp ok =
        definition_sound owned p lift alike k w ys e i o l sc' ok
    eqn_replaced {s} {r} {lasts} {lasts'} {seen} {own} {after} owned p lift alike plain k (switch w e arms) i f n sc b o l sc' sp ok =
        let x = fine owned p lift alike k e ok.1.0.0 ok.1.0.1.0 ok.0 i.0 o l sc' in
        let c = in_expr nodes k e in
        let d = switch w c.part (in_arms nodes c.next arms).part in (
          x.1,
          (
            (
              x.0.1,
              (
                (ok.1.0.0, (x.0.0 ok.1.0.0 ok.1.0.1.0, subst (λ z. Covers types ok.1.0.0 z) (arms_conses c.next arms) ok.1.0.1.1)),
                arms_replaced owned p lift alike plain (switch w e arms) d (record { comes = λ y h. arms_come nodes ready y seen own c.next arms f.1 n sc b h; owns = λ y h. eqn_owned y seen own (switch w e arms) sc h }) c.next arms i.1 f.1 n sc b sp.0 ok.1.1,
              ),
            ),
            tt,
          ),
        )
    eqn_replaced {s} {r} {lasts} {lasts'} {seen} {own} {after} owned p lift alike plain k (reset w c e) i f n sc b o l sc' sp ok =
        let x = fine owned p lift alike k e ty.Bool ok.0.1 ok.0.0 i.0 o l sc' in
        (x.1, (((x.0.1, x.0.0 ty.Bool ok.0.1), block_replaced owned p lift alike plain (in_expr nodes k e).next c i.1 f.1 n sc b sp.0 ok.1), tt))
    eqn_replaced {s} {r} {lasts} {lasts'} {seen} {own} {after} owned p lift alike plain k (automaton w ss) i f n sc b o l sc' sp ok =
        (tt, (states_replaced owned p lift alike plain (automaton w ss) (automaton w (in_states nodes k ss).part) (record { comes = λ y h. states_come nodes ready y seen own k ss f n sc b h; owns = λ y h. eqn_owned y seen own (automaton w ss) sc h }) k ss i f n sc b sp.0 ok, tt))

    arms_replaced : {s r : Scope} {lasts lasts' : Lasts} {seen own after : Names} (owned : Names) → At types among among' s r lasts lasts' seen own after → Lift r → Alike nodes s → Plain own → (e d : Eqn) → Held e d own → (k : ℕ) (arms : Arms) → ArmsInline P arms → ArmsFit nodes arms → ArmsNames IsPlain arms → ArmsScoped seen own arms → (in_arms nodes k arms).next ≤ 1000000 → ArmsScoped after owned (in_arms nodes k arms).part → ArmsSound types among' e s lasts arms → ArmsSound types among d r lasts' (in_arms nodes k arms).part
    arms_replaced {s} {r} {lasts} {lasts'} {seen} {own} {after} owned p lift alike plain e d held k no_arm i f n sc b sc' ok = tt
    arms_replaced {s} {r} {lasts} {lasts'} {seen} {own} {after} owned p lift alike plain e d held k (more_arms c x w arms) i f n sc b sc' ok =
        let m = in_block nodes k x in
        let q = in_arms nodes m.next arms in
        let low = below m.next q.next (good_arms nodes ready seen own m.next arms f.1 n.1 sc.1).le b in (
          completes e d own lasts lasts' x m.part held plain p.lasting (good_block nodes ready seen own k x f.0 n.0 sc.0).keeps ok.0,
          (block_replaced owned p lift alike plain k x i.0 f.0 n.0 sc.0 low sc'.0 ok.1.0, arms_replaced owned p lift alike plain e d held m.next arms i.1 f.1 n.1 sc.1 b sc'.1 ok.1.1),
        )

    states_replaced : {s r : Scope} {lasts lasts' : Lasts} {seen own after : Names} (owned : Names) → At types among among' s r lasts lasts' seen own after → Lift r → Alike nodes s → Plain own → (e d : Eqn) → Held e d own → (k : ℕ) (ss : States) → StatesInline P ss → StatesFit nodes ss → StatesNames IsPlain ss → StatesScoped seen own ss → (in_states nodes k ss).next ≤ 1000000 → StatesScoped after owned (in_states nodes k ss).part → StatesSound types among' e s lasts ss → StatesSound types among d r lasts' (in_states nodes k ss).part
    states_replaced {s} {r} {lasts} {lasts'} {seen} {own} {after} owned p lift alike plain e d held k no_state i f n sc b sc' ok = tt
    states_replaced {s} {r} {lasts} {lasts'} {seen} {own} {after} owned p lift alike plain e d held k (more_states j x until unless w ss) i f n sc b sc' ok =
        let m = in_block nodes k x in
        let q = in_states nodes m.next ss in
        let low = below m.next q.next (good_states nodes ready seen own m.next ss f.1 n.1 sc.1).le b in (
          completes e d own lasts lasts' x m.part held plain p.lasting (good_block nodes ready seen own k x f.0 n.0 sc.0).keeps ok.0,
          (
            block_replaced owned p lift alike plain k x i.0 f.0 n.0 sc.0 low sc'.0 ok.1.0,
            (
              until_sound owned p k x sc.0 sc'.0 until ok.1.1.0,
              (
                tests_same types among among' s r lasts lasts' p.grows p.names p.lasting unless ok.1.1.1.0,
                states_replaced owned p lift alike plain e d held m.next ss i.1 f.1 n.1 sc.1 b sc'.1 ok.1.1.1.1,
              ),
            ),
          ),
        )
