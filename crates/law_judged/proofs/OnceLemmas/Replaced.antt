-- Where inlined calls are replaced, each name has one equation in its block.
use Rattle.std.proofs.Common.{◌≡◌, ℕ, suc, ◌≤◌, ◌⊎◌, inl, inr, ⊎_elim, true, false, ◌||◌, List, [], ◌∷◌, ◌++◌, refl, sym, subst}
use Rattle.std.specs.Prelude.{IsTrue}
use Rattle.std.specs.Str.{bytes_eq}
use Rattle.hp_base.specs.declared.span.Span.{Span}
use Rattle.hp_tree.specs.Expressions.{Expr, constant, variable, last_of, one, two, choose, pre, fby, arrow, when_is, merge, call, Exprs, no_expr, more_exprs, Parts, no_part, more_parts}
use Rattle.hp_tree.specs.Blocks.{Decl, Block, block, Eqns, no_eqn, more_eqns, Eqn, define, switch, reset, automaton, Arms, no_arm, more_arms, States, no_state, more_states, eqns_of, list_of_eqns}
use Rattle.hp_tree.specs.Programs.{Node}
use Rattle.hp_tree.specs.Meaning.{declares, is_among, defines, some_defines, arms_define, states_define, block_defines}
use Rattle.law_judged.specs.Named.Scoped.{Names, also, BlockScoped, EqnsScoped, EqnScoped, ArmsScoped, StatesScoped}
use Rattle.law_judged.proofs.NamedLemmas.Sets.{or_cases, or_left, or_right, false_if, both_true, first_true, second_false, same_name}
use Rattle.law_judged.proofs.NamedLemmas.Declared.{eqn_owned}
use Rattle.hp_expand.specs.NewNames.{is_new, marked}
use Rattle.hp_expand.specs.Renaming.{renamed_decls}
use Rattle.hp_expand.specs.Replacing.{names_of, inlined_call, defined_by, in_expr, in_exprs, in_parts, in_definition, in_block, in_eqns, in_eqn, in_arms, in_states}
use Rattle.law_judged.specs.Replaced.Fitting.{DeclNames, BlockNames, EqnsNames, EqnNames, ArmsNames, StatesNames, IsPlain, Covers, ExprFits, ExprsFit, PartsFit, BlockFits, EqnsFit, EqnFits, ArmsFit, StatesFit, IsReady}
use Rattle.law_judged.proofs.ReplacedLemmas.Good.{InRange, plain_marked, in_out, range_behind, same_eqns, declared_left, declared_right, Good, new_locals, new_equations}
use Rattle.law_judged.proofs.ReplacedLemmas.Replaced.{covers_kept, good_block, good_eqns, good_eqn, good_arms, good_states}
use Rattle.law_judged.specs.Once.Once.{BlockOnce, AllOnce, OneOnce, ArmsOnce, StatesOnce}
use Rattle.law_judged.specs.Once.Singly.{AreDistinct, BlockSingly, AllSingly, OneSingly, ArmsSingly, StatesSingly}
use Rattle.law_judged.proofs.OnceLemmas.Renamed.{or_none, some_owned}
use Rattle.law_judged.proofs.OnceLemmas.Fine.{some_cases, append_once, first_fits, good_in, good_there, Fine, fine_none, fine_both, fine_call}

-- ---- parts whose calls are replaced: what they define, the part defined before

pub record OnceBlock (b r : Block) : Type 0 where
  pub comes : (x : List ℕ) → IsTrue (block_defines r x) → IsTrue (block_defines b x)
  pub once : BlockOnce r

-- or it is new
pub record OnceEqns (ls : List Decl) (es r : Eqns) : Type 0 where
  pub comes : (x : List ℕ) → IsTrue (some_defines r x) → IsTrue (some_defines es x) ⊎ IsTrue (declares ls x)
  pub once : AllOnce r

pub record OnceEqn (before : List Eqn) (e : Eqn) (part : List Eqn) : Type 0 where
  pub new : AllOnce (eqns_of before)
  pub comes : (x : List ℕ) → IsTrue (some_defines (eqns_of part) x) → IsTrue (defines e x)
  pub once : AllOnce (eqns_of part)

pub record OnceInArms (arms r : Arms) : Type 0 where
  pub comes : (x : List ℕ) → IsTrue (arms_define r x) → IsTrue (arms_define arms x)
  pub once : ArmsOnce r

pub record OnceInStates (ss r : States) : Type 0 where
  pub comes : (x : List ℕ) → IsTrue (states_define r x) → IsTrue (states_define ss x)
  pub once : StatesOnce r

-- the names of the text have no mark
abbrev pub Plain : Names → Type 0
Plain own = (x : List ℕ) → IsTrue (own x) → is_new x ≡ false

pub plain_in : (k m : ℕ) (x : List ℕ) → is_new x ≡ false → InRange k m x → ⊥
plain_in k m x h i = plain_marked i.number i.stem x h i.is

plain_more : (own : Names) (ds : List Decl) → DeclNames IsPlain ds → Plain own → Plain (also own ds)
plain_more own ds n p x h = ⊎_elim (λ l. (n x l).0) (λ l. p x l) (or_cases (declares ds x) (own x) h)

-- ---- equations one after another

module _ (own : Names) (k m p : ℕ) (ds ls : List Decl) (before part : List Eqn) (e : Eqn) (es r : Eqns) (plain : Plain own) (one_own : (x : List ℕ) → IsTrue (defines e x) → IsTrue (own x)) (all_own : (x : List ℕ) → IsTrue (some_defines es x) → IsTrue (own x)) (alone : (x : List ℕ) → defines e x ≡ true → some_defines es x ≡ false) (good : Good k m ds before) (le : m ≤ p) (fits : p ≤ 1000000) (range : DeclNames (InRange m p) ls) (g : OnceEqn before e part) (h : OnceEqns ls es r) where
  abbrev rest : List Eqn
  rest = list_of_eqns r

  rest_comes : (x : List ℕ) → IsTrue (some_defines (eqns_of rest) x) → IsTrue (some_defines es x) ⊎ IsTrue (declares ls x)
  rest_comes x q = h.comes x (subst (λ z. IsTrue (some_defines z x)) (same_eqns r) q)

  low : m ≤ 1000000
  low = first_fits m p le fits

  part_apart : (x : List ℕ) → IsTrue (some_defines (eqns_of part) x) → IsTrue (some_defines (eqns_of rest) x) → ⊥
  part_apart x q l = by (g.comes x q) (rest_comes x l)
    where
      by : IsTrue (defines e x) → IsTrue (some_defines es x) ⊎ IsTrue (declares ls x) → ⊥
      by a (inl b) = absurd (cc (sym (alone x a), b))
      by a (inr b) = plain_in m p x (plain x (one_own x a)) (range x b)

  before_apart : (x : List ℕ) → IsTrue (some_defines (eqns_of before) x) → IsTrue (some_defines (eqns_of (part ++ rest)) x) → ⊥
  before_apart x q l = by (some_cases part rest x l)
    where
      new : InRange k m x
      new = good_in k m ds before good low x q

      other : IsTrue (some_defines es x) ⊎ IsTrue (declares ls x) → ⊥
      other (inl b) = plain_in k m x (plain x (all_own x b)) new
      other (inr b) = in_out k m x low new (range_behind k m p x fits (range x b))

      by : IsTrue (some_defines (eqns_of part) x) ⊎ IsTrue (some_defines (eqns_of rest) x) → ⊥
      by (inl a) = plain_in k m x (plain x (one_own x (g.comes x a))) new
      by (inr a) = other (rest_comes x a)

  once_placed : OnceEqns (ds ++ ls) (more_eqns e es) (eqns_of (before ++ (part ++ rest)))
  once_placed = record {
    comes = λ x q. by x (some_cases before (part ++ rest) x q);
    once = append_once before (part ++ rest) g.new (append_once part rest g.once (subst AllOnce (sym (same_eqns r)) h.once) part_apart) before_apart;
  }
    where
      behind : (x : List ℕ) → IsTrue (some_defines es x) ⊎ IsTrue (declares ls x) → IsTrue (some_defines (more_eqns e es) x) ⊎ IsTrue (declares (ds ++ ls) x)
      behind x (inl b) = inl (or_right (defines e x) (some_defines es x) b)
      behind x (inr b) = inr (declared_right ds ls x b)

      here : (x : List ℕ) → IsTrue (some_defines (eqns_of part) x) ⊎ IsTrue (some_defines (eqns_of rest) x) → IsTrue (some_defines (more_eqns e es) x) ⊎ IsTrue (declares (ds ++ ls) x)
      here x (inl a) = inl (or_left (defines e x) (some_defines es x) (g.comes x a))
      here x (inr a) = behind x (rest_comes x a)

      by : (x : List ℕ) → IsTrue (some_defines (eqns_of before) x) ⊎ IsTrue (some_defines (eqns_of (part ++ rest)) x) → IsTrue (some_defines (more_eqns e es) x) ⊎ IsTrue (declares (ds ++ ls) x)
      by x (inl a) = inr (declared_left ds ls x (good_there k m ds before good low x a))
      by x (inr a) = here x (some_cases part rest x a)

-- new equations behind all
pub ended_once : (own : Names) (k m p : ℕ) (ls ds : List Decl) (es r : Eqns) (behind : List Eqn) → Plain own → ((x : List ℕ) → IsTrue (some_defines es x) → IsTrue (own x)) → DeclNames (InRange k m) ls → p ≤ 1000000 → OnceEqns ls es r → Fine m p ds behind → AllOnce (eqns_of (list_of_eqns r ++ behind))
ended_once own k m p ls ds es r behind plain all_own range fits h g =
    append_once (list_of_eqns r) behind (subst AllOnce (sym (same_eqns r)) h.once) (g.once fits)
    (λ x q l. by x (good_in m p ds behind g.good fits x l) (h.comes x (subst (λ z. IsTrue (some_defines z x)) (same_eqns r) q)))
  where
    by : (x : List ℕ) → InRange m p x → IsTrue (some_defines es x) ⊎ IsTrue (declares ls x) → ⊥
    by x i (inl b) = plain_in m p x (plain x (all_own x b)) i
    by x i (inr b) = in_out k m x (first_fits m p g.good.le fits) (range x b) (range_behind k m p x fits i)

-- a block keeps its new local variables
once_closed : (ds ls : List Decl) (es r : Eqns) → OnceEqns ls es r → OnceBlock (block ds es) (block (ds ++ ls) r)
once_closed ds ls es r g = record { comes = λ x h. by x h (g.comes x (first_true (some_defines r x) (declares (ds ++ ls) x) h)); once = g.once }
  where
    by : (x : List ℕ) → IsTrue (block_defines (block (ds ++ ls) r) x) → IsTrue (some_defines es x) ⊎ IsTrue (declares ls x) → IsTrue (block_defines (block ds es) x)
    by x h (inl q) = both_true (some_defines es x) (declares ds x) q (λ d. second_false (some_defines r x) (declares (ds ++ ls) x) h (declared_left ds ls x d))
    by x h (inr q) = absurd (second_false (some_defines r x) (declares (ds ++ ls) x) h (declared_right ds ls x q))

-- ---- expressions

module _ (nodes : List ℕ → Node) (ready : (f : List ℕ) → IsReady (nodes f)) (once : (f : List ℕ) → BlockOnce (nodes f).body) where
  abbrev Of : ℕ → Expr → Type 0
  Of k e = Fine k (in_expr nodes k e).next (in_expr nodes k e).locals (in_expr nodes k e).before

  two_fine : (k : ℕ) (a b : Expr) → Of k a → Of (in_expr nodes k a).next b → Fine k (in_expr nodes (in_expr nodes k a).next b).next ((in_expr nodes k a).locals ++ (in_expr nodes (in_expr nodes k a).next b).locals) ((in_expr nodes k a).before ++ (in_expr nodes (in_expr nodes k a).next b).before)
  two_fine k a b g h =
      let r = in_expr nodes k a in
      let q = in_expr nodes r.next b in
      fine_both k r.next q.next r.locals q.locals r.before q.before g h

  fine_inlined : (k : ℕ) (g : List ℕ) (es : Exprs) → Covers (nodes g).inputs es → Fine k (in_exprs nodes k es).next (in_exprs nodes k es).locals (in_exprs nodes k es).before → Fine k (inlined_call (nodes g) (in_exprs nodes k es)).next (inlined_call (nodes g) (in_exprs nodes k es)).locals (inlined_call (nodes g) (in_exprs nodes k es)).before
  fine_inlined k g es c h =
      let r = in_exprs nodes k es in
      let n = nodes g in
      fine_both k r.next (suc r.next) r.locals (new_locals n r.next) r.before (new_equations n r.next r.part) h
      (fine_call n (ready g) (once g) r.next r.part (covers_kept nodes ready n.inputs k es c))

  mutual
    pub fine_expr : (k : ℕ) (e : Expr) → ExprFits nodes e → Fine k (in_expr nodes k e).next (in_expr nodes k e).locals (in_expr nodes k e).before
    fine_expr k (constant at c) f = fine_none k
    fine_expr k (variable at x) f = fine_none k
    fine_expr k (last_of at x) f = fine_none k
    fine_expr k (one at op a) f = fine_expr k a f
    fine_expr k (two at op a b) f = two_fine k a b (fine_expr k a f.0) (fine_expr (in_expr nodes k a).next b f.1)
    fine_expr k (choose at a b c) f =
        let r = in_expr nodes k a in
        let q = in_expr nodes r.next b in
        let p = in_expr nodes q.next c in
        fine_both k r.next p.next r.locals (q.locals ++ p.locals) r.before (q.before ++ p.before) (fine_expr k a f.0)
        (fine_both r.next q.next p.next q.locals p.locals q.before p.before (fine_expr r.next b f.1) (fine_expr q.next c f.2))
    fine_expr k (pre at a) f = fine_expr k a f
    fine_expr k (fby at a b) f = two_fine k a b (fine_expr k a f.0) (fine_expr (in_expr nodes k a).next b f.1)
    fine_expr k (arrow at a b) f = two_fine k a b (fine_expr k a f.0) (fine_expr (in_expr nodes k a).next b f.1)
    fine_expr k (when_is at a c x) f = fine_expr k a f
    fine_expr k (merge at x ps) f = fine_parts k ps f
    fine_expr k (call at g false es) f = fine_exprs k es f
    fine_expr k (call at g true es) f = fine_inlined k g es f.0 (fine_exprs k es f.1)

    fine_exprs : (k : ℕ) (es : Exprs) → ExprsFit nodes es → Fine k (in_exprs nodes k es).next (in_exprs nodes k es).locals (in_exprs nodes k es).before
    fine_exprs k no_expr f = fine_none k
    fine_exprs k (more_exprs e es) f =
        let r = in_expr nodes k e in
        let q = in_exprs nodes r.next es in
        fine_both k r.next q.next r.locals q.locals r.before q.before (fine_expr k e f.0) (fine_exprs r.next es f.1)

    fine_parts : (k : ℕ) (ps : Parts) → PartsFit nodes ps → Fine k (in_parts nodes k ps).next (in_parts nodes k ps).locals (in_parts nodes k ps).before
    fine_parts k no_part f = fine_none k
    fine_parts k (more_parts c e ps) f =
        let r = in_expr nodes k e in
        let q = in_parts nodes r.next ps in
        fine_both k r.next q.next r.locals q.locals r.before q.before (fine_expr k e f.0) (fine_parts r.next ps f.1)

  -- ---- one equation

  alone_once : (e : Eqn) → OneOnce e → AllOnce (eqns_of (e ∷ []))
  alone_once e o = ((λ x h. refl), (o, tt))

  only_one : (a : Eqn) (x : List ℕ) → IsTrue (some_defines (eqns_of (a ∷ [])) x) → IsTrue (defines a x)
  only_one a x h = or_none (defines a x) h

  told_from : (s at : Span) (ys : List (List ℕ × Span)) (outs : List (List ℕ)) (x : List ℕ) → IsTrue (some_defines (eqns_of (defined_by s ys at outs)) x) → IsTrue (is_among ys x)
  told_from s at [] outs x h = absurd (cc h)
  told_from s at (y ∷ ys) [] x h = absurd (cc h)
  told_from s at (y ∷ ys) (z ∷ outs) x h =
      ⊎_elim (λ l. or_left (bytes_eq y.0 x) (is_among ys x) (or_none (bytes_eq y.0 x) l))
      (λ l. or_right (bytes_eq y.0 x) (is_among ys x) (told_from s at ys outs x l)) (or_cases (bytes_eq y.0 x || false) (some_defines (eqns_of (defined_by s ys at outs)) x) h)

  told_once : (s at : Span) (ys : List (List ℕ × Span)) (outs : List (List ℕ)) → AreDistinct ys → AllOnce (eqns_of (defined_by s ys at outs))
  told_once s at [] outs d = tt
  told_once s at (y ∷ ys) [] d = tt
  told_once s at (y ∷ ys) (z ∷ outs) d =
      ((λ x h. false_if (some_defines (eqns_of (defined_by s ys at outs)) x) (λ l. twice x (or_none (bytes_eq y.0 x) h) l)), (tt, told_once s at ys outs d.1))
    where
      twice : (x : List ℕ) → IsTrue (bytes_eq y.0 x) → IsTrue (some_defines (eqns_of (defined_by s ys at outs)) x) → ⊥
      twice x q l = absurd (cc (sym d.0, subst (λ w. IsTrue (is_among ys w)) (sym (same_name y.0 x q)) (told_from s at ys outs x l)))

  abbrev OfEqn : ℕ → Eqn → Type 0
  OfEqn k e = OnceEqn (in_eqn nodes k e).before e (in_eqn nodes k e).part

  kept : (before : List Eqn) (s : Span) (ys : List (List ℕ × Span)) (e right : Expr) → AllOnce (eqns_of before) → OnceEqn before (define s ys e) (define s ys right ∷ [])
  kept before s ys e right o = record { new = o; comes = λ x h. only_one (define s ys right) x h; once = alone_once (define s ys right) tt }

  once_define : (k : ℕ) (s : Span) (ys : List (List ℕ × Span)) (e : Expr) → ExprFits nodes e → AreDistinct ys → (in_definition nodes k s ys e).next ≤ 1000000 → OfEqn k (define s ys e)
  once_define k s ys (call at g true es) f d b =
      let r = in_exprs nodes k es in
      let outs = names_of (renamed_decls (marked r.next) (nodes g).outputs) in
      record { new = (fine_inlined k g es f.0 (fine_exprs k es f.1)).once b; comes = λ x h. told_from s at ys outs x h; once = told_once s at ys outs d }
  once_define k s ys e f d b =
      let r = in_expr nodes k e in
      kept r.before s ys e r.part ((fine_expr k e f).once b)

  -- ---- blocks

  with_arms : (before : List Eqn) (s : Span) (e right : Expr) (arms r : Arms) → AllOnce (eqns_of before) → OnceInArms arms r → OnceEqn before (switch s e arms) (switch s right r ∷ [])
  with_arms before s e right arms r o h = record { new = o; comes = λ x q. h.comes x (only_one (switch s right r) x q); once = alone_once (switch s right r) h.once }

  with_body : (before : List Eqn) (s : Span) (e right : Expr) (b r : Block) → AllOnce (eqns_of before) → OnceBlock b r → OnceEqn before (reset s b e) (reset s r right ∷ [])
  with_body before s e right b r o h = record { new = o; comes = λ x q. h.comes x (only_one (reset s r right) x q); once = alone_once (reset s r right) h.once }

  with_states : (s : Span) (ss r : States) → OnceInStates ss r → OnceEqn [] (automaton s ss) (automaton s r ∷ [])
  with_states s ss r h = record { new = tt; comes = λ x q. h.comes x (only_one (automaton s r) x q); once = alone_once (automaton s r) h.once }

  either : (a b c d : Names) (x : List ℕ) → (IsTrue (a x) → IsTrue (c x)) → (IsTrue (b x) → IsTrue (d x)) → IsTrue (a x || b x) → IsTrue (c x || d x)
  either a b c d x f g h = ⊎_elim (λ l. or_left (c x) (d x) (f l)) (λ l. or_right (c x) (d x) (g l)) (or_cases (a x) (b x) h)

  mutual
    pub once_block : (seen own : Names) (k : ℕ) (b : Block) → BlockFits nodes b → BlockNames IsPlain b → BlockScoped seen own b → Plain own → BlockSingly b → (in_block nodes k b).next ≤ 1000000 → OnceBlock b (in_block nodes k b).part
    once_block seen own k (block ds es) f n s p o b =
        let r = in_eqns nodes k es in
        once_closed ds r.locals es r.part (once_eqns (also seen ds) (also own ds) k es f n.1 s.3 (plain_more own ds n.0 p) o b)

    pub once_eqns : (seen own : Names) (k : ℕ) (es : Eqns) → EqnsFit nodes es → EqnsNames IsPlain es → EqnsScoped seen own es → Plain own → AllSingly es → (in_eqns nodes k es).next ≤ 1000000 → OnceEqns (in_eqns nodes k es).locals es (in_eqns nodes k es).part
    once_eqns seen own k no_eqn f n s p o b = record { comes = λ x h. inl h; once = tt }
    once_eqns seen own k (more_eqns e es) f n s p o b =
        let r = in_eqn nodes k e in
        let q = in_eqns nodes r.next es in
        let rest = good_eqns nodes ready seen own r.next es f.1 n.1 s.1 in
        once_placed own k r.next q.next r.locals q.locals r.before r.part e es q.part p (λ x h. eqn_owned x seen own e s.0 h) (λ x h. some_owned x seen own es s.1 h) o.0
        (good_eqn nodes ready seen own k e f.0 n.0 s.0).good rest.le b rest.range (once_eqn seen own k e f.0 n.0 s.0 p o.1.0 (first_fits r.next q.next rest.le b))
        (once_eqns seen own r.next es f.1 n.1 s.1 p o.1.1 b)

    once_eqn : (seen own : Names) (k : ℕ) (e : Eqn) → EqnFits nodes e → EqnNames IsPlain e → EqnScoped seen own e → Plain own → OneSingly e → (in_eqn nodes k e).next ≤ 1000000 → OnceEqn (in_eqn nodes k e).before e (in_eqn nodes k e).part
    once_eqn seen own k (define w ys e) f n s p o b = once_define k w ys e f.1 o b
    once_eqn seen own k (switch w e arms) f n s p o b =
        let r = in_expr nodes k e in
        let q = in_arms nodes r.next arms in
        let low = first_fits r.next q.next (good_arms nodes ready seen own r.next arms f.1 n s).le b in
        with_arms r.before w e r.part arms q.part ((fine_expr k e f.0).once low) (once_arms seen own r.next arms f.1 n s p o b)
    once_eqn seen own k (reset w c e) f n s p o b =
        let r = in_expr nodes k e in
        let q = in_block nodes r.next c in
        let low = first_fits r.next q.next (good_block nodes ready seen own r.next c f.1 n s).le b in
        with_body r.before w e r.part c q.part ((fine_expr k e f.0).once low) (once_block seen own r.next c f.1 n s p o b)
    once_eqn seen own k (automaton w ss) f n s p o b = with_states w ss (in_states nodes k ss).part (once_states seen own k ss f n s p o b)

    once_arms : (seen own : Names) (k : ℕ) (arms : Arms) → ArmsFit nodes arms → ArmsNames IsPlain arms → ArmsScoped seen own arms → Plain own → ArmsSingly arms → (in_arms nodes k arms).next ≤ 1000000 → OnceInArms arms (in_arms nodes k arms).part
    once_arms seen own k no_arm f n s p o b = record { comes = λ x h. h; once = tt }
    once_arms seen own k (more_arms c d w arms) f n s p o b =
        let r = in_block nodes k d in
        let q = in_arms nodes r.next arms in
        let low = first_fits r.next q.next (good_arms nodes ready seen own r.next arms f.1 n.1 s.1).le b in
        let g = once_block seen own k d f.0 n.0 s.0 p o.0 low in
        let h = once_arms seen own r.next arms f.1 n.1 s.1 p o.1 b in
        record { comes = λ x l. either (block_defines r.part) (arms_define q.part) (block_defines d) (arms_define arms) x (g.comes x) (h.comes x) l; once = (g.once, h.once) }

    once_states : (seen own : Names) (k : ℕ) (ss : States) → StatesFit nodes ss → StatesNames IsPlain ss → StatesScoped seen own ss → Plain own → StatesSingly ss → (in_states nodes k ss).next ≤ 1000000 → OnceInStates ss (in_states nodes k ss).part
    once_states seen own k no_state f n s p o b = record { comes = λ x h. h; once = tt }
    once_states seen own k (more_states i d until unless w ss) f n s p o b =
        let r = in_block nodes k d in
        let q = in_states nodes r.next ss in
        let low = first_fits r.next q.next (good_states nodes ready seen own r.next ss f.1 n.1 s.1).le b in
        let g = once_block seen own k d f.0 n.0 s.0 p o.0 low in
        let h = once_states seen own r.next ss f.1 n.1 s.1 p o.1 b in
        record { comes = λ x l. either (block_defines r.part) (states_define q.part) (block_defines d) (states_define ss) x (g.comes x) (h.comes x) l; once = (g.once, h.once) }
