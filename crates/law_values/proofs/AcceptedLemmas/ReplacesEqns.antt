-- Equations and blocks whose inlined calls are replaced are sound.
use Rattle.std.proofs.Common.{◌≡◌, ℕ, suc, ◌≤◌, List, [], ◌∷◌, ◌++◌, map, refl, sym, ap, ap₂, subst, ◌∙◌, ◌⊎◌, inl, inr, ⊎_elim, arith}
use Rattle.std.specs.Prelude.{⊤, Bool, true, false, ◌&&◌, ◌||◌, not, is_some, IsTrue, IsFalse, if◌then◌else◌, Option, None, Some}
use Rattle.std.specs.Str.{bytes_eq}
use Rattle.hp_base.specs.declared.span.Span.{Span}
use Rattle.hp_base.specs.declared.ty.Ty.{Ty}
use Rattle.hp_base.specs.declared.ty.Ty.TheVariants as ty
use Rattle.hp_tree.specs.declared.decl.Cons.{Cons}
use Rattle.hp_tree.specs.declared.block.Trans.{Trans}
use Rattle.hp_tree.specs.Expressions.{Expr, constant, variable, last_of, one, two, choose, pre, fby, arrow, when_is, merge, call, Exprs, no_expr, more_exprs, Parts, no_part, more_parts}
use Rattle.hp_tree.specs.Blocks.{Decl, Block, block, Eqns, no_eqn, more_eqns, Eqn, define, switch, reset, automaton, Arms, no_arm, more_arms, States, no_state, more_states, eqns_of, list_of_eqns}
use Rattle.hp_tree.specs.Programs.{TypeDecl, Contract, Node}
use Rattle.hp_tree.specs.Meaning.{is_among, declares, defines, some_defines, arms_define, states_define, block_defines, controls_of}
use Rattle.hp_base.specs.Known.Known.{lookup}
use Rattle.hp_typing.specs.Scopes.{with_variables, inside}
use Rattle.hp_typing.specs.Types.{type_of, types_in, args_fit, outputs_in}
use Rattle.law_judged.specs.Named.Scopes.{Scope}
use Rattle.law_judged.specs.Named.Scoped.{Names, also, AreFresh, BlockScoped, EqnsScoped, EqnScoped, ArmsScoped, StatesScoped}
use Rattle.law_judged.proofs.NamedLemmas.Sets.{or_cases, or_left, or_right, both_true, first_true, second_false, same_name, name_same}
use Rattle.law_judged.proofs.NamedLemmas.Declared.{eqn_owned}
use Rattle.hp_meaning.specs.Clocking.Clocking.{AreOnce, AreDefined}
use Rattle.hp_expand.specs.NewNames.{is_new, marked}
use Rattle.hp_expand.specs.Renaming.{renamed, renamed_exprs, renamed_parts, renamed_decls, renamed_transition}
use Rattle.hp_expand.specs.Replacing.{locals_of, names_of, inlined_call, defined_by, in_expr, in_exprs, in_parts, in_definition, in_block, in_eqns, in_eqn, in_arms, in_states}
use Rattle.law_judged.specs.Replaced.Fitting.{BlockNames, EqnsNames, EqnNames, ArmsNames, StatesNames, IsPlain, BlockFits, EqnsFit, EqnFits, ArmsFit, StatesFit, IsReady}
use Rattle.law_judged.proofs.ReplacedLemmas.Good.{same_eqns, some_append, Good, declared_left, declared_right, declared_cases}
use Rattle.law_judged.proofs.ReplacedLemmas.Replaced.{good_block, good_eqns, good_eqn, good_arms, good_states}
use Rattle.law_values.specs.Valued.Judged.{Lasts, lasts_in, lasts_of, of_arms, Covers, LeftsAre, HaveOwnTypes, RightSound, TestsSound, FirstSound, DeclsSound, Completes, OthersKnown, BlockSound, EqnsSound, EqnSound, ArmsSound, StatesSound}
use Rattle.law_values.proofs.ValuedLemmas.Scoped.{still_known, not_declared}
use Rattle.law_values.proofs.ValuedLemmas.Typed.{row_typed}
use Rattle.law_values.proofs.AcceptedLemmas.Views.{some_same, true_false, cases, own_types, declared_type, last_among, lasts_own, lasts_kept}
use Rattle.law_values.proofs.AcceptedLemmas.Sounds.{eqns_owned}
use Rattle.law_values.proofs.AcceptedLemmas.Keeps.{KeptName, Grows, outputs_kept, test_moved, tests_moved}
use Rattle.law_values.proofs.AcceptedLemmas.Moves.{Place, grows_more, lasts_cases, last_known}
use Rattle.law_values.proofs.AcceptedLemmas.Replaces.{own_first, own_then, sound_append, scoped_first, scoped_then, last_first, last_then, OwnLasts, renamed_append, Called, ExprCalls, ExprsCall, PartsCall, Allows, FineExpr, fine_expr, fine_exprs, inlined_new}

-- ---- names as they are

abbrev pub same : List ℕ → List ℕ
same x = x

mutual
  renamed_same : (e : Expr) → renamed same e ≡ e
  renamed_same (constant a c) = refl
  renamed_same (variable a x) = refl
  renamed_same (last_of a x) = refl
  renamed_same (one a o b) = ap (one a o) (renamed_same b)
  renamed_same (two a o b c) = ap₂ (two a o) (renamed_same b) (renamed_same c)
  renamed_same (choose a b c d) = let x = renamed_same b in let y = renamed_same c in let z = renamed_same d in λ i. choose a (x i) (y i) (z i)
  renamed_same (pre a b) = ap (pre a) (renamed_same b)
  renamed_same (fby a b c) = ap₂ (fby a) (renamed_same b) (renamed_same c)
  renamed_same (arrow a b c) = ap₂ (arrow a) (renamed_same b) (renamed_same c)
  renamed_same (when_is a b c x) = ap (λ z. when_is a z c x) (renamed_same b)
  renamed_same (merge a x ps) = ap (merge a x) (parts_same ps)
  renamed_same (call a f i es) = ap (call a f i) (exprs_same es)

  exprs_same : (es : Exprs) → renamed_exprs same es ≡ es
  exprs_same no_expr = refl
  exprs_same (more_exprs e es) = ap₂ more_exprs (renamed_same e) (exprs_same es)

  parts_same : (ps : Parts) → renamed_parts same ps ≡ ps
  parts_same no_part = refl
  parts_same (more_parts c e ps) = ap₂ (more_parts c) (renamed_same e) (parts_same ps)

trans_same : (ts : List Trans) → map (renamed_transition same) ts ≡ ts
trans_same [] = refl
trans_same (t ∷ ts) = ap₂ (λ x xs. x ∷ xs) (ap (λ c. record t { cond = c }) (renamed_same t.cond)) (trans_same ts)

-- ---- which nodes are inlined in a part

module _ (P : List ℕ → Type 0) where
  abbrev pub InlinesOne : List ℕ → Bool → Type 0
  InlinesOne f false = ⊤
  InlinesOne f true = P f

  abbrev mutual
    pub ExprInlines : Expr → Type 0
    ExprInlines (constant a c) = ⊤
    ExprInlines (variable a x) = ⊤
    ExprInlines (last_of a x) = ⊤
    ExprInlines (one a o b) = ExprInlines b
    ExprInlines (two a o b c) = ExprInlines b × ExprInlines c
    ExprInlines (choose a b c d) = ExprInlines b × (ExprInlines c × ExprInlines d)
    ExprInlines (pre a b) = ExprInlines b
    ExprInlines (fby a b c) = ExprInlines b × ExprInlines c
    ExprInlines (arrow a b c) = ExprInlines b × ExprInlines c
    ExprInlines (when_is a b c x) = ExprInlines b
    ExprInlines (merge a x ps) = PartsInline ps
    ExprInlines (call a f i es) = InlinesOne f i × ExprsInline es

    pub ExprsInline : Exprs → Type 0
    ExprsInline no_expr = ⊤
    ExprsInline (more_exprs e es) = ExprInlines e × ExprsInline es

    pub PartsInline : Parts → Type 0
    PartsInline no_part = ⊤
    PartsInline (more_parts c e ps) = ExprInlines e × PartsInline ps

  abbrev mutual
    pub BlockInlines : Block → Type 0
    BlockInlines (block ds es) = EqnsInline es

    pub EqnsInline : Eqns → Type 0
    EqnsInline no_eqn = ⊤
    EqnsInline (more_eqns e es) = EqnInlines e × EqnsInline es

    pub EqnInlines : Eqn → Type 0
    EqnInlines (define s ys e) = ExprInlines e
    EqnInlines (switch s e arms) = ExprInlines e × ArmsInline arms
    EqnInlines (reset s b e) = ExprInlines e × BlockInlines b
    EqnInlines (automaton s ss) = StatesInline ss

    pub ArmsInline : Arms → Type 0
    ArmsInline no_arm = ⊤
    ArmsInline (more_arms c b s arms) = BlockInlines b × ArmsInline arms

    pub StatesInline : States → Type 0
    StatesInline no_state = ⊤
    StatesInline (more_states f b until unless s ss) = BlockInlines b × StatesInline ss

-- ---- first values of declarations

module _ (types : List TypeDecl) (among among' : List ℕ → Option Node) where
  abbrev pub FirstsSound : List Decl → Type 0
  FirstsSound [] = ⊤
  FirstsSound (d ∷ ds) = FirstSound types among d.ty d.last × FirstsSound ds

  pub firsts_append : (ds es : List Decl) → FirstsSound ds → FirstsSound es → FirstsSound (ds ++ es)
  firsts_append [] es h k = k
  firsts_append (d ∷ ds) es h k = (h.0, firsts_append ds es h.1 k)

  pub firsts_renamed : (to : List ℕ → List ℕ) (ds : List Decl) → FirstsSound ds → FirstsSound (renamed_decls to ds)
  firsts_renamed to [] h = tt
  firsts_renamed to (d ∷ ds) h = (h.0, firsts_renamed to ds h.1)

  pub firsts_of : (s : Scope) (es : Eqns) (ds : List Decl) → DeclsSound types among' s es ds → FirstsSound ds
  firsts_of s es [] h = tt
  firsts_of s es (d ∷ ds) h = (h.0.1.1, firsts_of s es ds h.1)

  pub decls_from : (r : Scope) (es : Eqns) (ds : List Decl) → HaveOwnTypes types among r ds → ((x : List ℕ) → IsTrue (declares ds x) → IsTrue (some_defines es x)) → FirstsSound ds → DeclsSound types among r es ds
  decls_from r es [] o d f = tt
  decls_from r es (k ∷ ds) o d f =
      ((o.0, (d k.name (or_left (bytes_eq k.name k.name) (declares ds k.name) (name_same k.name k.name refl)), f.0)), decls_from r es ds o.1 (λ x h. d x (or_right (bytes_eq k.name x) (declares ds x) h)) f.1)

  both_known : (s r : Scope) (ds : List Decl) (x : List ℕ) (t : Ty) → HaveOwnTypes types among' s ds → HaveOwnTypes types among r ds → IsTrue (declares ds x) → lookup s.variables x ≡ Some t → lookup r.variables x ≡ Some t
  both_known s r [] x t o p h l = absurd (cc)
  both_known s r (d ∷ ds) x t o p h l =
      ⊎_elim
      (λ e. let q = same_name d.name x e in subst (λ z. lookup r.variables x ≡ Some z) (some_same d.ty t (sym o.0 ∙ ap (λ z. lookup s.variables z) q ∙ l)) (subst (λ z. lookup r.variables z ≡ Some d.ty) q p.0))
      (λ k. both_known s r ds x t o.1 p.1 k l) (or_cases (bytes_eq d.name x) (declares ds x) h)

  fresh_none : (s : Scope) (seen : Names) (ds : List Decl) → ((x : List ℕ) → IsFalse (seen x) → lookup s.variables x ≡ None) → AreFresh seen ds → (x : List ℕ) → IsTrue (declares ds x) → lookup s.variables x ≡ None
  fresh_none s seen ds f fresh x h = f x (cases (seen x) (λ k. absurd (fresh x h k)) (λ z. z))

  nor : (a b : Bool) → IsFalse (a || b) → IsFalse a × IsFalse b
  nor true b h = absurd (cc)
  nor false b h = (refl, h)

  abbrev pub At : Scope → Scope → Lasts → Lasts → Names → Names → Names → Type 0
  At s r lasts lasts' seen own after = Place types among same s r lasts lasts' seen own after

  pub own_inner : {s r : Scope} {lasts lasts' : Lasts} {seen own after : Names} → At s r lasts lasts' seen own after → (ds : List Decl) → AreOnce ds → AreFresh after ds → HaveOwnTypes types among (with_variables r ds) ds
  own_inner {s} {r} {lasts} {lasts'} {seen} {own} {after} p ds once fresh = own_types types among ds r once (fresh_none r after ds p.none fresh)

  -- inside a block that keeps new variables
  pub inner : {s r : Scope} {lasts lasts' : Lasts} {seen own after : Names} → At s r lasts lasts' seen own after → (ds ls : List Decl) → AreOnce ds → AreFresh seen ds → AreOnce (ds ++ ls) → AreFresh after (ds ++ ls) → At (with_variables s ds) (with_variables r (ds ++ ls)) (lasts_in ds lasts) (lasts_in (ds ++ ls) lasts') (also seen ds) (also own ds) (also after (ds ++ ls))
  inner {s} {r} {lasts} {lasts'} {seen} {own} {after} p ds ls once fresh once' fresh' = record {
    grows = grows_more types among ds (ds ++ ls) s r p.grows;
    names = λ x t l. cases (declares ds x)
        (λ h. both_known (with_variables s ds) (with_variables r (ds ++ ls)) ds x t own_s (own_first types among (with_variables r (ds ++ ls)) ds ls own_r) h l)
        (λ f. still_known x (ds ++ ls) r t (p.names x t (sym (not_declared x ds s f) ∙ l)));
    lasting = λ x l. ⊎_elim (λ k. lasts_own (ds ++ ls) lasts' x once' (last_first ds ls x k)) (λ k. lasts_kept (ds ++ ls) lasts' x (p.lasting x k)) (lasts_cases ds lasts x l);
    last_seen = λ x l. ⊎_elim (λ k. or_left (declares ds x) (seen x) (last_known ds x k)) (λ k. or_right (declares ds x) (seen x) (p.last_seen x k)) (lasts_cases ds lasts x l);
    own_seen = λ x l. ⊎_elim (λ k. or_left (declares ds x) (seen x) k) (λ k. or_right (declares ds x) (seen x) (p.own_seen x k)) (or_cases (declares ds x) (own x) l);
    known = λ x l. ⊎_elim (λ k. declared_type types among' (with_variables s ds) ds x own_s k) (λ k. let q = p.known x k in (q.0, still_known x ds s q.0 q.1)) (or_cases (declares ds x) (seen x) l);
    unknown = λ x l. let q = nor (declares ds x) (seen x) l in not_declared x ds s q.0 ∙ p.unknown x q.1;
    none = λ y l. let q = nor (declares (ds ++ ls) y) (after y) l in not_declared y (ds ++ ls) r q.0 ∙ p.none y q.1;
  }
    where
      own_s : HaveOwnTypes types among' (with_variables s ds) ds
      own_s = own_types types among' ds s once (fresh_none s seen ds p.unknown fresh)

      own_r : HaveOwnTypes types among (with_variables r (ds ++ ls)) (ds ++ ls)
      own_r = own_types types among (ds ++ ls) r once' (fresh_none r after (ds ++ ls) p.none fresh')

  pub called_more : (r : Scope) (ds : List Decl) (m : Node) → Called types among r m → Called types among (with_variables r ds) m
  called_more r ds m c = record { scope = c.scope; before = c.before; sound = c.sound; scoped = c.scoped; uncontrolled = c.uncontrolled; grows = grows_more types among [] ds c.scope r c.grows; outside = c.outside }

  pub tests_same : (s r : Scope) (lasts lasts' : Lasts) → Grows types among s r → ((x : List ℕ) → KeptName s r x x) → ((x : List ℕ) → IsTrue (lasts x) → IsTrue (lasts' x)) → (ts : List Trans) → TestsSound types among' s lasts ts → TestsSound types among r lasts' ts
  tests_same s r lasts lasts' g names lasting ts ok = subst (λ z. TestsSound types among r lasts' z) (trans_same ts) (tests_moved types among s r g among' same lasts lasts' names lasting ts ok)

-- ---- what the new parts define

pub some_either : (a b : List Eqn) (x : List ℕ) → IsTrue (some_defines (eqns_of (a ++ b)) x) → IsTrue (some_defines (eqns_of a) x) ⊎ IsTrue (some_defines (eqns_of b) x)
some_either a b x h = or_cases (some_defines (eqns_of a) x) (some_defines (eqns_of b) x) (subst IsTrue (some_append a b x) h)

pub new_declared : (k m : ℕ) (ds : List Decl) (es : List Eqn) → Good k m ds es → m ≤ 1000000 → (x : List ℕ) → IsTrue (some_defines (eqns_of es) x) → IsTrue (declares ds x)
new_declared k m ds es g f x h = eqns_owned [] (λ n. None) x (declares ds) (declares ds) (eqns_of es) (g.scoped f (declares ds) (declares ds) (λ y l. inr (inr l)) (λ y l. l)) h

told_from : (s at : Span) (ys : List (List ℕ × Span)) (outs : List (List ℕ)) (x : List ℕ) → IsTrue (some_defines (eqns_of (defined_by s ys at outs)) x) → IsTrue (is_among ys x)
told_from s at [] outs x h = absurd (cc)
told_from s at (y ∷ ys) [] x h = absurd (cc)
told_from s at (y ∷ ys) (z ∷ outs) x h =
    ⊎_elim (λ l. or_left (bytes_eq y.0 x) (is_among ys x) (⊎_elim (λ q. q) (λ q. absurd (cc)) (or_cases (bytes_eq y.0 x) false l)))
    (λ l. or_right (bytes_eq y.0 x) (is_among ys x) (told_from s at ys outs x l)) (or_cases (bytes_eq y.0 x || false) (some_defines (eqns_of (defined_by s ys at outs)) x) h)

only : (e : Eqn) (x : List ℕ) → IsTrue (some_defines (eqns_of (e ∷ [])) x) → IsTrue (defines e x)
only e x h = ⊎_elim (λ q. q) (λ q. absurd (cc)) (or_cases (defines e x) false h)

pub below : (m p : ℕ) → m ≤ p → p ≤ 1000000 → m ≤ 1000000
below m p h f = omega (arith, h, f)

module _ (nodes : List ℕ → Node) (ready : (f : List ℕ) → IsReady (nodes f)) (x : List ℕ) where
  definition_comes : (k : ℕ) (s : Span) (ys : List (List ℕ × Span)) (e : Expr) → IsTrue (some_defines (eqns_of (in_definition nodes k s ys e).part) x) → IsTrue (is_among ys x)
  definition_comes k s ys (call a f true es) h = told_from s a ys (names_of (renamed_decls (marked (in_exprs nodes k es).next) (nodes f).outputs)) x h
  definition_comes k s ys e h = only (define s ys (in_expr nodes k e).part) x h

  mutual
    pub block_comes : (seen own : Names) (k : ℕ) (b : Block) → BlockFits nodes b → BlockNames IsPlain b → BlockScoped seen own b → (in_block nodes k b).next ≤ 1000000 → IsTrue (block_defines (in_block nodes k b).part x) → IsTrue (block_defines b x)
    block_comes seen own k (block ds es) f n sc b h =
        let r = in_eqns nodes k es in
        let out = λ (d : IsTrue (declares (ds ++ r.locals) x)). second_false (some_defines r.part x) (declares (ds ++ r.locals) x) h d in
        ⊎_elim (λ q. both_true (some_defines es x) (declares ds x) q (λ d. out (declared_left ds r.locals x d))) (λ q. absurd (out (declared_right ds r.locals x q)))
        (eqns_come (also seen ds) (also own ds) k es f n.1 sc.3 b (first_true (some_defines r.part x) (declares (ds ++ r.locals) x) h))

    pub eqns_come : (seen own : Names) (k : ℕ) (es : Eqns) → EqnsFit nodes es → EqnsNames IsPlain es → EqnsScoped seen own es → (in_eqns nodes k es).next ≤ 1000000 → IsTrue (some_defines (in_eqns nodes k es).part x) → IsTrue (some_defines es x) ⊎ IsTrue (declares (in_eqns nodes k es).locals x)
    eqns_come seen own k no_eqn f n sc b h = absurd (cc)
    eqns_come seen own k (more_eqns e es) f n sc b h =
        let r = in_eqn nodes k e in
        let q = in_eqns nodes r.next es in
        let g = good_eqn nodes ready seen own k e f.0 n.0 sc.0 in
        let low = below r.next q.next (good_eqns nodes ready seen own r.next es f.1 n.1 sc.1).le b in
        ⊎_elim (λ l. inr (declared_left r.locals q.locals x (new_declared k r.next r.locals r.before g.good low x l)))
        (λ l. ⊎_elim (λ m. inl (or_left (defines e x) (some_defines es x) (eqn_comes seen own k e f.0 n.0 sc.0 low m)))
        (λ m. ⊎_elim (λ z. inl (or_right (defines e x) (some_defines es x) z)) (λ z. inr (declared_right r.locals q.locals x z)) (eqns_come seen own r.next es f.1 n.1 sc.1 b (subst (λ w. IsTrue (some_defines w x)) (same_eqns q.part) m)))
        (some_either r.part (list_of_eqns q.part) x l))
        (some_either r.before (r.part ++ list_of_eqns q.part) x h)

    pub eqn_comes : (seen own : Names) (k : ℕ) (e : Eqn) → EqnFits nodes e → EqnNames IsPlain e → EqnScoped seen own e → (in_eqn nodes k e).next ≤ 1000000 → IsTrue (some_defines (eqns_of (in_eqn nodes k e).part) x) → IsTrue (defines e x)
    eqn_comes seen own k (define s ys e) f n sc b h = definition_comes k s ys e h
    eqn_comes seen own k (switch s e arms) f n sc b h = arms_come seen own (in_expr nodes k e).next arms f.1 n sc b (only (switch s (in_expr nodes k e).part (in_arms nodes (in_expr nodes k e).next arms).part) x h)
    eqn_comes seen own k (reset s c e) f n sc b h = block_comes seen own (in_expr nodes k e).next c f.1 n sc b (only (reset s (in_block nodes (in_expr nodes k e).next c).part (in_expr nodes k e).part) x h)
    eqn_comes seen own k (automaton s ss) f n sc b h = states_come seen own k ss f n sc b (only (automaton s (in_states nodes k ss).part) x h)

    pub arms_come : (seen own : Names) (k : ℕ) (arms : Arms) → ArmsFit nodes arms → ArmsNames IsPlain arms → ArmsScoped seen own arms → (in_arms nodes k arms).next ≤ 1000000 → IsTrue (arms_define (in_arms nodes k arms).part x) → IsTrue (arms_define arms x)
    arms_come seen own k no_arm f n sc b h = h
    arms_come seen own k (more_arms c d s arms) f n sc b h =
        let r = in_block nodes k d in
        let q = in_arms nodes r.next arms in
        ⊎_elim (λ l. or_left (block_defines d x) (arms_define arms x) (block_comes seen own k d f.0 n.0 sc.0 (below r.next q.next (good_arms nodes ready seen own r.next arms f.1 n.1 sc.1).le b) l))
        (λ l. or_right (block_defines d x) (arms_define arms x) (arms_come seen own r.next arms f.1 n.1 sc.1 b l)) (or_cases (block_defines r.part x) (arms_define q.part x) h)

    pub states_come : (seen own : Names) (k : ℕ) (ss : States) → StatesFit nodes ss → StatesNames IsPlain ss → StatesScoped seen own ss → (in_states nodes k ss).next ≤ 1000000 → IsTrue (states_define (in_states nodes k ss).part x) → IsTrue (states_define ss x)
    states_come seen own k no_state f n sc b h = h
    states_come seen own k (more_states i d until unless s ss) f n sc b h =
        let r = in_block nodes k d in
        let q = in_states nodes r.next ss in
        ⊎_elim (λ l. or_left (block_defines d x) (states_define ss x) (block_comes seen own k d f.0 n.0 sc.0 (below r.next q.next (good_states nodes ready seen own r.next ss f.1 n.1 sc.1).le b) l))
        (λ l. or_right (block_defines d x) (states_define ss x) (states_come seen own r.next ss f.1 n.1 sc.1 b l)) (or_cases (block_defines r.part x) (states_define q.part x) h)
