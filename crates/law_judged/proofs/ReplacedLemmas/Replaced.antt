-- Where inlined calls are replaced, names stay in their scopes.
use Rattle.std.proofs.Common.{◌≡◌, ℕ, suc, ◌≤◌, ◌⊎◌, inl, inr, ⊎_elim, true, false, ◌||◌, List, [], ◌∷◌, ◌++◌, length, sym, subst, arith}
use Rattle.std.specs.Prelude.{IsTrue}
use Rattle.std.specs.Str.{bytes_eq}
use Rattle.hp_base.specs.declared.span.Span.{Span}
use Rattle.hp_tree.specs.declared.decl.Cons.{Cons}
use Rattle.hp_tree.specs.declared.block.Trans.{Trans}
use Rattle.hp_tree.specs.Expressions.{Expr, constant, variable, last_of, one, two, choose, pre, fby, arrow, when_is, merge, call, Exprs, no_expr, more_exprs, Parts, no_part, more_parts}
use Rattle.hp_tree.specs.Blocks.{Decl, Block, block, Eqns, no_eqn, more_eqns, Eqn, define, switch, reset, automaton, Arms, no_arm, more_arms, States, no_state, more_states, eqns_of, list_of_eqns}
use Rattle.hp_tree.specs.Programs.{Node}
use Rattle.hp_tree.specs.Meaning.{declares, is_among, defines, some_defines, arms_define, states_define, block_defines}
use Rattle.hp_meaning.specs.Clocking.Clocking.{AreOnce, AreDefined}
use Rattle.law_judged.specs.Named.Scoped.{Names, also, AreFresh, AreOwn, BlockScoped, EqnsScoped, EqnScoped, ArmsScoped, StatesScoped}
use Rattle.law_judged.proofs.NamedLemmas.Sets.{or_cases, or_left, or_right, both_true, first_true, second_false, once_append}
use Rattle.hp_expand.specs.NewNames.{is_new, marked}
use Rattle.hp_expand.specs.Replacing.{names_of, inlined_call, defined_by, in_expr, in_exprs, in_parts, in_block, in_eqns, in_eqn, in_arms, in_states}
use Rattle.hp_expand.specs.Renaming.{renamed_decls}
use Rattle.law_judged.specs.Replaced.Fitting.{DeclNames, BlockNames, EqnsNames, EqnNames, ArmsNames, StatesNames, IsPlain, Covers, Gives, ExprFits, ExprsFit, PartsFit, LeftFits, BlockFits, EqnsFit, EqnFits, ArmsFit, StatesFit, IsReady}
use Rattle.law_judged.proofs.ReplacedLemmas.Good.{InRange, Outside, marked_new, plain_marked, in_out, range_more, outside_less, range_before, range_behind, same_eqns, scoped_append, names_append, some_left, some_right, declared_cases, declared_left, declared_right, Around, Within, Wide, Good, good_none, good_both, good_more, new_locals, new_equations, good_call}

first_fits : (m p : ℕ) → m ≤ p → p ≤ 1000000 → m ≤ 1000000
first_fits m p h f = omega (arith, h, f)

same_least : (k : ℕ) → k ≤ k
same_least k = omega arith

-- What is seen in the new program: what was seen, which is a name of the text, and names with a mark.
abbrev pub Apart : ℕ → ℕ → Names → Names → Type 0
Apart k m seen after = (x : List ℕ) → IsTrue (after x) → ((is_new x ≡ false) × IsTrue (seen x)) ⊎ Outside k m x

abbrev pub Extends : ℕ → ℕ → List Decl → Names → Names → Type 0
Extends k m ds seen after = (x : List ℕ) → IsTrue (after x) → ((is_new x ≡ false) × IsTrue (seen x)) ⊎ (Outside k m x ⊎ IsTrue (declares ds x))

abbrev pub Owns : Names → Names → Type 0
Owns own owned = (x : List ℕ) → IsTrue (own x) → IsTrue (owned x)

pub record GoodBlock (seen own : Names) (k m : ℕ) (b r : Block) : Type 0 where
  pub le : k ≤ m
  pub scoped : m ≤ 1000000 → (after owned : Names) → Apart k m seen after → Owns own owned → BlockScoped after owned r
  pub keeps : (x : List ℕ) → is_new x ≡ false → IsTrue (block_defines b x) → IsTrue (block_defines r x)
  pub names : BlockNames Wide r

pub record GoodEqns (seen own : Names) (k m : ℕ) (ds : List Decl) (es r : Eqns) : Type 0 where
  pub le : k ≤ m
  pub range : DeclNames (InRange k m) ds
  pub once : m ≤ 1000000 → AreOnce ds
  pub defined : AreDefined ds r
  pub scoped : m ≤ 1000000 → (after owned : Names) → Extends k m ds seen after → Owns own owned → Within ds owned → EqnsScoped after owned r
  pub keeps : (x : List ℕ) → is_new x ≡ false → IsTrue (some_defines es x) → IsTrue (some_defines r x)
  pub names : EqnsNames Wide r

pub record GoodEqn (seen own : Names) (k m : ℕ) (ds : List Decl) (before : List Eqn) (e : Eqn) (part : List Eqn) : Type 0 where
  pub good : Good k m ds before
  pub scoped : m ≤ 1000000 → (after owned : Names) → Extends k m ds seen after → Owns own owned → EqnsScoped after owned (eqns_of part)
  pub keeps : (x : List ℕ) → is_new x ≡ false → IsTrue (defines e x) → IsTrue (some_defines (eqns_of part) x)
  pub names : EqnsNames Wide (eqns_of part)

pub record GoodArms (seen own : Names) (k m : ℕ) (arms r : Arms) : Type 0 where
  pub le : k ≤ m
  pub scoped : m ≤ 1000000 → (after owned : Names) → Apart k m seen after → Owns own owned → ArmsScoped after owned r
  pub keeps : (x : List ℕ) → is_new x ≡ false → IsTrue (arms_define arms x) → IsTrue (arms_define r x)
  pub names : ArmsNames Wide r

pub record GoodStates (seen own : Names) (k m : ℕ) (ss r : States) : Type 0 where
  pub le : k ≤ m
  pub scoped : m ≤ 1000000 → (after owned : Names) → Apart k m seen after → Owns own owned → StatesScoped after owned r
  pub keeps : (x : List ℕ) → is_new x ≡ false → IsTrue (states_define ss x) → IsTrue (states_define r x)
  pub names : StatesNames Wide r

-- ---- what is seen around parts

around_of : (k m : ℕ) (ds : List Decl) (seen after : Names) → Extends k m ds seen after → Around k m ds after
around_of k m ds seen after e x h = ⊎_elim (λ q. inl q.0) (λ q. inr q) (e x h)

apart_less : (k m a b : ℕ) (seen after : Names) → k ≤ a → b ≤ m → Apart k m seen after → Apart a b seen after
apart_less k m a b seen after h l e x q = ⊎_elim (λ r. inl r) (λ r. inr (outside_less k m a b x h l r)) (e x q)

-- the part behind new variables
apart_behind : (k m p : ℕ) (ds : List Decl) (seen after : Names) → k ≤ m → m ≤ p → p ≤ 1000000 → DeclNames (InRange k m) ds → Extends k p ds seen after → Apart m p seen after
apart_behind k m p ds seen after h l f r e x q =
    ⊎_elim (λ a. inl a) (λ a. inr (⊎_elim (λ o. outside_less k p m p x h (same_least p) o) (λ d. range_before k m p x (first_fits m p l f) (r x d)) a)) (e x q)

extends_first : (k m p : ℕ) (ds es : List Decl) (seen after : Names) → m ≤ p → p ≤ 1000000 → DeclNames (InRange m p) es → Extends k p (ds ++ es) seen after → Extends k m ds seen after
extends_first k m p ds es seen after l f r e x q =
    ⊎_elim (λ a. inl a)
    (λ a. inr (⊎_elim (λ o. inl (outside_less k p k m x (same_least k) l o)) (λ d. ⊎_elim (λ c. inr c) (λ c. inl (range_behind k m p x f (r x c))) (declared_cases ds es x d)) a)) (e x q)

extends_then : (k m p : ℕ) (ds es : List Decl) (seen after : Names) → k ≤ m → m ≤ p → p ≤ 1000000 → DeclNames (InRange k m) ds → Extends k p (ds ++ es) seen after → Extends m p es seen after
extends_then k m p ds es seen after h l f r e x q =
    ⊎_elim (λ a. inl a)
    (λ a. inr (⊎_elim (λ o. inl (outside_less k p m p x h (same_least p) o)) (λ d. ⊎_elim (λ c. inl (range_before k m p x (first_fits m p l f) (r x c))) (λ c. inr c) (declared_cases ds es x d)) a)) (e x q)

range_both : (k m p : ℕ) (ds es : List Decl) → k ≤ m → m ≤ p → DeclNames (InRange k m) ds → DeclNames (InRange m p) es → DeclNames (InRange k p) (ds ++ es)
range_both k m p ds es h l r q x d =
    ⊎_elim (λ c. range_more k m k p x (same_least k) l (r x c)) (λ c. range_more m p k p x h (same_least p) (q x c)) (declared_cases ds es x d)

once_both : (k m p : ℕ) (ds es : List Decl) → m ≤ 1000000 → p ≤ 1000000 → DeclNames (InRange k m) ds → DeclNames (InRange m p) es → AreOnce ds → AreOnce es → AreOnce (ds ++ es)
once_both k m p ds es f g r q o u = once_append ds es o u (λ x h l. in_out k m x f (r x l) (range_behind k m p x g (q x h)))

-- ---- equations one after another

eqns_none : (seen own : Names) (k : ℕ) → GoodEqns seen own k k [] no_eqn no_eqn
eqns_none seen own k = record {
  le = same_least k;
  range = λ x h. absurd (cc h);
  once = λ f. tt;
  defined = λ x h. absurd (cc h);
  scoped = λ f after owned e o w. tt;
  keeps = λ x p h. h;
  names = tt;
}

module _ (seen own : Names) (k m p : ℕ) (ds ls : List Decl) (before part : List Eqn) (e : Eqn) (es r : Eqns) (g : GoodEqn seen own k m ds before e part) (h : GoodEqns seen own m p ls es r) where
  abbrev whole : List Eqn
  whole = before ++ (part ++ list_of_eqns r)

  behind_part : (x : List ℕ) → IsTrue (some_defines r x) → IsTrue (some_defines (eqns_of whole) x)
  behind_part x q =
      some_right before (part ++ list_of_eqns r) x (some_right part (list_of_eqns r) x (subst (λ z. IsTrue (some_defines z x)) (sym (same_eqns r)) q))

  eqns_placed : GoodEqns seen own k p (ds ++ ls) (more_eqns e es) (eqns_of whole)
  eqns_placed =
      let i = g.good.le in
      let j = h.le in
      record {
        le = omega (arith, i, j);
        range = range_both k m p ds ls g.good.le h.le g.good.range h.range;
        once = λ f. once_both k m p ds ls (first_fits m p h.le f) f g.good.range h.range (g.good.once (first_fits m p h.le f)) (h.once f);
        defined = λ x q. ⊎_elim (λ d. some_left before (part ++ list_of_eqns r) x (g.good.defined x d)) (λ d. behind_part x (h.defined x d)) (declared_cases ds ls x q);
        scoped = λ f after owned x o w.
            let low = first_fits m p h.le f in
            let first = extends_first k m p ds ls seen after h.le f h.range x in
            scoped_append after owned before (part ++ list_of_eqns r)
            (g.good.scoped low after owned (around_of k m ds seen after first) (λ y q. w y (declared_left ds ls y q)))
            (scoped_append after owned part (list_of_eqns r) (g.scoped low after owned first o)
            (subst (EqnsScoped after owned) (sym (same_eqns r))
            (h.scoped f after owned (extends_then k m p ds ls seen after g.good.le h.le f g.good.range x) o (λ y q. w y (declared_right ds ls y q)))));
        keeps = λ x q d. ⊎_elim (λ l. some_right before (part ++ list_of_eqns r) x (some_left part (list_of_eqns r) x (g.keeps x q l))) (λ l. behind_part x (h.keeps x q l))
            (or_cases (defines e x) (some_defines es x) d);
        names = names_append Wide before (part ++ list_of_eqns r) g.good.names
            (names_append Wide part (list_of_eqns r) g.names (subst (EqnsNames Wide) (sym (same_eqns r)) h.names));
      }

-- new equations behind all
module _ (seen own : Names) (k m p : ℕ) (ds ls : List Decl) (es r : Eqns) (after_all : List Eqn) (h : GoodEqns seen own k m ds es r) (g : Good m p ls after_all) where
  abbrev ended : List Eqn
  ended = list_of_eqns r ++ after_all

  in_front : (x : List ℕ) → IsTrue (some_defines r x) → IsTrue (some_defines (eqns_of ended) x)
  in_front x q = some_left (list_of_eqns r) after_all x (subst (λ z. IsTrue (some_defines z x)) (sym (same_eqns r)) q)

  pub eqns_ended : GoodEqns seen own k p (ds ++ ls) es (eqns_of ended)
  eqns_ended =
      let i = h.le in
      let j = g.le in
      record {
        le = omega (arith, i, j);
        range = range_both k m p ds ls h.le g.le h.range g.range;
        once = λ f. once_both k m p ds ls (first_fits m p g.le f) f h.range g.range (h.once (first_fits m p g.le f)) (g.once f);
        defined = λ x q. ⊎_elim (λ d. in_front x (h.defined x d)) (λ d. some_right (list_of_eqns r) after_all x (g.defined x d)) (declared_cases ds ls x q);
        scoped = λ f after owned x o w.
            scoped_append after owned (list_of_eqns r) after_all
            (subst (EqnsScoped after owned) (sym (same_eqns r))
            (h.scoped (first_fits m p g.le f) after owned (extends_first k m p ds ls seen after g.le f g.range x) o (λ y q. w y (declared_left ds ls y q))))
            (g.scoped f after owned (around_of m p ls seen after (extends_then k m p ds ls seen after h.le g.le f h.range x)) (λ y q. w y (declared_right ds ls y q)));
        keeps = λ x q d. in_front x (h.keeps x q d);
        names = names_append Wide (list_of_eqns r) after_all (subst (EqnsNames Wide) (sym (same_eqns r)) h.names) g.names;
      }

-- ---- a block keeps its new local variables

plain_in : (k m : ℕ) (x : List ℕ) → is_new x ≡ false → InRange k m x → ⊥
plain_in k m x h i = plain_marked i.number i.stem x h i.is

plain_out : (k m : ℕ) (x : List ℕ) → is_new x ≡ false → Outside k m x → ⊥
plain_out k m x h o = plain_marked o.number o.stem x h o.is

module _ (seen own : Names) (k m : ℕ) (ds ls : List Decl) (es r : Eqns) (plain : DeclNames IsPlain ds) (s : BlockScoped seen own (block ds es)) (g : GoodEqns (also seen ds) (also own ds) k m ls es r) where
  closed_extends : (after : Names) → Apart k m seen after → Extends k m ls (also seen ds) (also after (ds ++ ls))
  closed_extends after e x h =
      ⊎_elim (λ d. ⊎_elim (λ c. inl ((plain x c).0, or_left (declares ds x) (seen x) c)) (λ c. inr (inr c)) (declared_cases ds ls x d))
      (λ a. ⊎_elim (λ c. inl (c.0, or_right (declares ds x) (seen x) c.1)) (λ c. inr (inl c)) (e x a)) (or_cases (declares (ds ++ ls) x) (after x) h)

  closed_owns : (owned : Names) → Owns own owned → Owns (also own ds) (also owned (ds ++ ls))
  closed_owns owned o x h =
      ⊎_elim (λ d. or_left (declares (ds ++ ls) x) (owned x) (declared_left ds ls x d)) (λ d. or_right (declares (ds ++ ls) x) (owned x) (o x d)) (or_cases (declares ds x) (own x) h)

  closed_fresh : m ≤ 1000000 → (after : Names) → Apart k m seen after → AreFresh after (ds ++ ls)
  closed_fresh f after e x h l = by (declared_cases ds ls x h) (e x l)
    where
      by : IsTrue (declares ds x) ⊎ IsTrue (declares ls x) → ((is_new x ≡ false) × IsTrue (seen x)) ⊎ Outside k m x → ⊥
      by (inl d) (inl a) = s.1 x d a.1
      by (inl d) (inr a) = plain_out k m x (plain x d).0 a
      by (inr d) (inl a) = plain_in k m x a.0 (g.range x d)
      by (inr d) (inr a) = in_out k m x f (g.range x d) a

  pub block_closed : GoodBlock seen own k m (block ds es) (block (ds ++ ls) r)
  block_closed = record {
    le = g.le;
    scoped = λ f after owned e o. (
      once_append ds ls s.0 (g.once f) (λ x h l. plain_in k m x (plain x l).0 (g.range x h)),
      closed_fresh f after e,
      (λ x h. ⊎_elim (λ d. g.keeps x (plain x d).0 (s.2 x d)) (λ d. g.defined x d) (declared_cases ds ls x h)),
      g.scoped f (also after (ds ++ ls)) (also owned (ds ++ ls)) (closed_extends after e) (closed_owns owned o) (λ x h. or_left (declares (ds ++ ls) x) (owned x) (declared_right ds ls x h)),
    );
    keeps = λ x p h. both_true (some_defines r x) (declares (ds ++ ls) x) (g.keeps x p (first_true (some_defines es x) (declares ds x) h))
        (λ l. ⊎_elim (λ d. second_false (some_defines es x) (declares ds x) h d) (λ d. plain_in k m x p (g.range x d)) (declared_cases ds ls x l));
    names = (
      (λ x h. ⊎_elim (λ d. inr (short x (plain x d).1)) (λ d. let i = g.range x d in inl (marked_new i.number i.stem x i.is)) (declared_cases ds ls x h)),
      g.names,
    );
  }
    where
      short : (x : List ℕ) → length x ≤ 255 → length x ≤ 262
      short x h = omega (arith, h)

-- ---- expressions

module _ (nodes : List ℕ → Node) (ready : (f : List ℕ) → IsReady (nodes f)) where
  pub covers_kept : (ds : List Decl) (k : ℕ) (es : Exprs) → Covers ds es → Covers ds (in_exprs nodes k es).part
  covers_kept [] k es c = tt
  covers_kept (d ∷ ds) k no_expr c = absurd c
  covers_kept (d ∷ ds) k (more_exprs e es) c = covers_kept ds (in_expr nodes k e).next es c

  abbrev pub Of : ℕ → Expr → Type 0
  Of k e = Good k (in_expr nodes k e).next (in_expr nodes k e).locals (in_expr nodes k e).before

  abbrev pub OfAll : ℕ → Exprs → Type 0
  OfAll k es = Good k (in_exprs nodes k es).next (in_exprs nodes k es).locals (in_exprs nodes k es).before

  two_good : (k : ℕ) (a b : Expr) → Of k a → Of (in_expr nodes k a).next b → Good k (in_expr nodes (in_expr nodes k a).next b).next ((in_expr nodes k a).locals ++ (in_expr nodes (in_expr nodes k a).next b).locals) ((in_expr nodes k a).before ++ (in_expr nodes (in_expr nodes k a).next b).before)
  two_good k a b g h =
      let r = in_expr nodes k a in
      let q = in_expr nodes r.next b in
      good_both k r.next q.next r.locals q.locals r.before q.before g h

  good_inlined : (k : ℕ) (g : List ℕ) (es : Exprs) → Covers (nodes g).inputs es → OfAll k es → Good k (inlined_call (nodes g) (in_exprs nodes k es)).next (inlined_call (nodes g) (in_exprs nodes k es)).locals (inlined_call (nodes g) (in_exprs nodes k es)).before
  good_inlined k g es c h =
      let r = in_exprs nodes k es in
      let n = nodes g in
      good_both k r.next (suc r.next) r.locals (new_locals n r.next) r.before (new_equations n r.next r.part) h (good_call n (ready g) r.next r.part (covers_kept n.inputs k es c))

  mutual
    pub good_expr : (k : ℕ) (e : Expr) → ExprFits nodes e → Good k (in_expr nodes k e).next (in_expr nodes k e).locals (in_expr nodes k e).before
    good_expr k (constant at c) f = good_none k
    good_expr k (variable at x) f = good_none k
    good_expr k (last_of at x) f = good_none k
    good_expr k (one at op a) f = good_expr k a f
    good_expr k (two at op a b) f = two_good k a b (good_expr k a f.0) (good_expr (in_expr nodes k a).next b f.1)
    good_expr k (choose at a b c) f =
        let r = in_expr nodes k a in
        let q = in_expr nodes r.next b in
        let p = in_expr nodes q.next c in
        good_both k r.next p.next r.locals (q.locals ++ p.locals) r.before (q.before ++ p.before) (good_expr k a f.0)
        (good_both r.next q.next p.next q.locals p.locals q.before p.before (good_expr r.next b f.1) (good_expr q.next c f.2))
    good_expr k (pre at a) f = good_expr k a f
    good_expr k (fby at a b) f = two_good k a b (good_expr k a f.0) (good_expr (in_expr nodes k a).next b f.1)
    good_expr k (arrow at a b) f = two_good k a b (good_expr k a f.0) (good_expr (in_expr nodes k a).next b f.1)
    good_expr k (when_is at a c x) f = good_expr k a f
    good_expr k (merge at x ps) f = good_parts k ps f
    good_expr k (call at g false es) f = good_exprs k es f
    good_expr k (call at g true es) f = good_inlined k g es f.0 (good_exprs k es f.1)

    good_exprs : (k : ℕ) (es : Exprs) → ExprsFit nodes es → Good k (in_exprs nodes k es).next (in_exprs nodes k es).locals (in_exprs nodes k es).before
    good_exprs k no_expr f = good_none k
    good_exprs k (more_exprs e es) f =
        let r = in_expr nodes k e in
        let q = in_exprs nodes r.next es in
        good_both k r.next q.next r.locals q.locals r.before q.before (good_expr k e f.0) (good_exprs r.next es f.1)

    good_parts : (k : ℕ) (ps : Parts) → PartsFit nodes ps → Good k (in_parts nodes k ps).next (in_parts nodes k ps).locals (in_parts nodes k ps).before
    good_parts k no_part f = good_none k
    good_parts k (more_parts c e ps) f =
        let r = in_expr nodes k e in
        let q = in_parts nodes r.next ps in
        good_both k r.next q.next r.locals q.locals r.before q.before (good_expr k e f.0) (good_parts r.next ps f.1)

  -- ---- one equation

  abbrev pub OfEqn : Names → Names → ℕ → Eqn → Type 0
  OfEqn seen own k e = GoodEqn seen own k (in_eqn nodes k e).next (in_eqn nodes k e).locals (in_eqn nodes k e).before e (in_eqn nodes k e).part

  -- an equation whose right side is kept
  kept : (seen own : Names) (k m : ℕ) (ds : List Decl) (before : List Eqn) (s : Span) (ys : List (List ℕ × Span)) (e right : Expr) → Good k m ds before → AreOwn own ys → GoodEqn seen own k m ds before (define s ys e) (define s ys right ∷ [])
  kept seen own k m ds before s ys e right g c = record {
    good = g;
    scoped = λ f after owned x o. ((λ y h. o y (c y h)), tt);
    keeps = λ x p h. or_left (is_among ys x) false h;
    names = (tt, tt);
  }

  given_owned : (own owned : Names) (s at : Span) (ys : List (List ℕ × Span)) (outs : List (List ℕ)) (after : Names) → Owns own owned → AreOwn own ys → EqnsScoped after owned (eqns_of (defined_by s ys at outs))
  given_owned own owned s at [] outs after o c = tt
  given_owned own owned s at (y ∷ ys) [] after o c = tt
  given_owned own owned s at (y ∷ ys) (z ∷ outs) after o c = (
    (λ x h. ⊎_elim (λ l. o x (c x (or_left (bytes_eq y.0 x) (is_among ys x) l))) (λ l. absurd (cc l)) (or_cases (bytes_eq y.0 x) false h)),
    given_owned own owned s at ys outs after o (λ x h. c x (or_right (bytes_eq y.0 x) (is_among ys x) h)),
  )

  given_kept : (s at : Span) (ys : List (List ℕ × Span)) (to : List ℕ → List ℕ) (outs : List Decl) → Gives outs ys → (x : List ℕ) → IsTrue (is_among ys x) → IsTrue (some_defines (eqns_of (defined_by s ys at (names_of (renamed_decls to outs)))) x)
  given_kept s at [] to outs g x h = absurd (cc h)
  given_kept s at (y ∷ ys) to [] g x h = absurd g
  given_kept s at (y ∷ ys) to (d ∷ outs) g x h =
      let rest = some_defines (eqns_of (defined_by s ys at (names_of (renamed_decls to outs)))) x in
      ⊎_elim (λ l. or_left (bytes_eq y.0 x || false) rest (or_left (bytes_eq y.0 x) false l)) (λ l. or_right (bytes_eq y.0 x || false) rest (given_kept s at ys to outs g x l))
      (or_cases (bytes_eq y.0 x) (is_among ys x) h)

  given_named : (s at : Span) (ys : List (List ℕ × Span)) (outs : List (List ℕ)) → EqnsNames Wide (eqns_of (defined_by s ys at outs))
  given_named s at [] outs = tt
  given_named s at (y ∷ ys) [] = tt
  given_named s at (y ∷ ys) (z ∷ outs) = (tt, given_named s at ys outs)

  good_define : (seen own : Names) (k : ℕ) (s : Span) (ys : List (List ℕ × Span)) (e : Expr) → LeftFits nodes ys e → ExprFits nodes e → AreOwn own ys → OfEqn seen own k (define s ys e)
  good_define seen own k s ys (call at g true es) l f c =
      let r = in_exprs nodes k es in
      let n = nodes g in
      record {
        good = good_inlined k g es f.0 (good_exprs k es f.1);
        scoped = λ b after owned x o. given_owned own owned s at ys (names_of (renamed_decls (marked r.next) n.outputs)) after o c;
        keeps = λ x p h. given_kept s at ys (marked r.next) n.outputs l x h;
        names = given_named s at ys (names_of (renamed_decls (marked r.next) n.outputs));
      }
  good_define seen own k s ys e l f c =
      let r = in_expr nodes k e in
      kept seen own k r.next r.locals r.before s ys e r.part (good_expr k e f) c

  -- ---- blocks

  abbrev pub OfBlock : Names → Names → ℕ → Block → Type 0
  OfBlock seen own k b = GoodBlock seen own k (in_block nodes k b).next b (in_block nodes k b).part

  with_arms : (seen own : Names) (k m p : ℕ) (ds : List Decl) (before : List Eqn) (s : Span) (e right : Expr) (arms r : Arms) → Good k m ds before → GoodArms seen own m p arms r → GoodEqn seen own k p ds before (switch s e arms) (switch s right r ∷ [])
  with_arms seen own k m p ds before s e right arms r g h = record {
    good = good_more k m p ds before h.le g;
    scoped = λ f after owned x o. (h.scoped f after owned (apart_behind k m p ds seen after g.le h.le f g.range x) o, tt);
    keeps = λ x q d. or_left (arms_define r x) false (h.keeps x q d);
    names = (h.names, tt);
  }

  with_body : (seen own : Names) (k m p : ℕ) (ds : List Decl) (before : List Eqn) (s : Span) (e right : Expr) (b r : Block) → Good k m ds before → GoodBlock seen own m p b r → GoodEqn seen own k p ds before (reset s b e) (reset s r right ∷ [])
  with_body seen own k m p ds before s e right b r g h = record {
    good = good_more k m p ds before h.le g;
    scoped = λ f after owned x o. (h.scoped f after owned (apart_behind k m p ds seen after g.le h.le f g.range x) o, tt);
    keeps = λ x q d. or_left (block_defines r x) false (h.keeps x q d);
    names = (h.names, tt);
  }

  with_states : (seen own : Names) (k m : ℕ) (s : Span) (ss r : States) → GoodStates seen own k m ss r → GoodEqn seen own k m [] [] (automaton s ss) (automaton s r ∷ [])
  with_states seen own k m s ss r h = record {
    good = good_more k k m [] [] h.le (good_none k);
    scoped = λ f after owned x o. (h.scoped f after owned (apart_behind k k m [] seen after (same_least k) h.le f (λ y q. absurd (cc q)) x) o, tt);
    keeps = λ x q d. or_left (states_define r x) false (h.keeps x q d);
    names = (h.names, tt);
  }

  one_arm : (seen own : Names) (k m p : ℕ) (c : Cons) (s : Span) (b r : Block) (arms rest : Arms) → GoodBlock seen own k m b r → GoodArms seen own m p arms rest → GoodArms seen own k p (more_arms c b s arms) (more_arms c r s rest)
  one_arm seen own k m p c s b r arms rest g h =
      let i = g.le in
      let j = h.le in
      record {
        le = omega (arith, i, j);
        scoped = λ f after owned x o. (
          g.scoped (first_fits m p h.le f) after owned (apart_less k p k m seen after (same_least k) h.le x) o,
          h.scoped f after owned (apart_less k p m p seen after g.le (same_least p) x) o,
        );
        keeps = λ x q d. ⊎_elim (λ l. or_left (block_defines r x) (arms_define rest x) (g.keeps x q l)) (λ l. or_right (block_defines r x) (arms_define rest x) (h.keeps x q l))
            (or_cases (block_defines b x) (arms_define arms x) d);
        names = (g.names, h.names);
      }

  one_state : (seen own : Names) (k m p : ℕ) (n : List ℕ) (until unless : List Trans) (s : Span) (b r : Block) (ss rest : States) → GoodBlock seen own k m b r → GoodStates seen own m p ss rest → GoodStates seen own k p (more_states n b until unless s ss) (more_states n r until unless s rest)
  one_state seen own k m p n until unless s b r ss rest g h =
      let i = g.le in
      let j = h.le in
      record {
        le = omega (arith, i, j);
        scoped = λ f after owned x o. (
          g.scoped (first_fits m p h.le f) after owned (apart_less k p k m seen after (same_least k) h.le x) o,
          h.scoped f after owned (apart_less k p m p seen after g.le (same_least p) x) o,
        );
        keeps = λ x q d. ⊎_elim (λ l. or_left (block_defines r x) (states_define rest x) (g.keeps x q l)) (λ l. or_right (block_defines r x) (states_define rest x) (h.keeps x q l))
            (or_cases (block_defines b x) (states_define ss x) d);
        names = (g.names, h.names);
      }

  arms_none : (seen own : Names) (k : ℕ) → GoodArms seen own k k no_arm no_arm
  arms_none seen own k = record { le = same_least k; scoped = λ f after owned x o. tt; keeps = λ x q d. d; names = tt }

  states_none : (seen own : Names) (k : ℕ) → GoodStates seen own k k no_state no_state
  states_none seen own k = record { le = same_least k; scoped = λ f after owned x o. tt; keeps = λ x q d. d; names = tt }

  mutual
    pub good_block : (seen own : Names) (k : ℕ) (b : Block) → BlockFits nodes b → BlockNames IsPlain b → BlockScoped seen own b → OfBlock seen own k b
    good_block seen own k (block ds es) f p s =
        let r = in_eqns nodes k es in
        block_closed seen own k r.next ds r.locals es r.part p.0 s (good_eqns (also seen ds) (also own ds) k es f p.1 s.3)

    pub good_eqns : (seen own : Names) (k : ℕ) (es : Eqns) → EqnsFit nodes es → EqnsNames IsPlain es → EqnsScoped seen own es → GoodEqns seen own k (in_eqns nodes k es).next (in_eqns nodes k es).locals es (in_eqns nodes k es).part
    good_eqns seen own k no_eqn f p s = eqns_none seen own k
    good_eqns seen own k (more_eqns e es) f p s =
        let r = in_eqn nodes k e in
        let q = in_eqns nodes r.next es in
        eqns_placed seen own k r.next q.next r.locals q.locals r.before r.part e es q.part (good_eqn seen own k e f.0 p.0 s.0) (good_eqns seen own r.next es f.1 p.1 s.1)

    pub good_eqn : (seen own : Names) (k : ℕ) (e : Eqn) → EqnFits nodes e → EqnNames IsPlain e → EqnScoped seen own e → OfEqn seen own k e
    good_eqn seen own k (define w ys e) f p s = good_define seen own k w ys e f.0 f.1 s
    good_eqn seen own k (switch w e arms) f p s =
        let r = in_expr nodes k e in
        let q = in_arms nodes r.next arms in
        with_arms seen own k r.next q.next r.locals r.before w e r.part arms q.part (good_expr k e f.0) (good_arms seen own r.next arms f.1 p s)
    good_eqn seen own k (reset w b e) f p s =
        let r = in_expr nodes k e in
        let q = in_block nodes r.next b in
        with_body seen own k r.next q.next r.locals r.before w e r.part b q.part (good_expr k e f.0) (good_block seen own r.next b f.1 p s)
    good_eqn seen own k (automaton w ss) f p s =
        let q = in_states nodes k ss in
        with_states seen own k q.next w ss q.part (good_states seen own k ss f p s)

    pub good_arms : (seen own : Names) (k : ℕ) (arms : Arms) → ArmsFit nodes arms → ArmsNames IsPlain arms → ArmsScoped seen own arms → GoodArms seen own k (in_arms nodes k arms).next arms (in_arms nodes k arms).part
    good_arms seen own k no_arm f p s = arms_none seen own k
    good_arms seen own k (more_arms c b w arms) f p s =
        let r = in_block nodes k b in
        let q = in_arms nodes r.next arms in
        one_arm seen own k r.next q.next c w b r.part arms q.part (good_block seen own k b f.0 p.0 s.0) (good_arms seen own r.next arms f.1 p.1 s.1)

    pub good_states : (seen own : Names) (k : ℕ) (ss : States) → StatesFit nodes ss → StatesNames IsPlain ss → StatesScoped seen own ss → GoodStates seen own k (in_states nodes k ss).next ss (in_states nodes k ss).part
    good_states seen own k no_state f p s = states_none seen own k
    good_states seen own k (more_states n b until unless w ss) f p s =
        let r = in_block nodes k b in
        let q = in_states nodes r.next ss in
        one_state seen own k r.next q.next n until unless w b r.part ss q.part (good_block seen own k b f.0 p.0 s.0) (good_states seen own r.next ss f.1 p.1 s.1)
