-- The instance of each call of a node holds what the callee does, after its own past.
use Rattle.std.proofs.Common.{◌≡◌, ℕ, suc, inl, inr, List, [], ◌∷◌, map, refl, sym, ap, ap₂, ◌∙◌, subst}
use Rattle.std.proofs.Math.Path.{fun_ext}
use Rattle.std.proofs.lemmas.List.{append_assoc}
use Rattle.std.specs.Prelude.{Bool, true, false, ◌&&◌, ◌||◌, ◌⊎◌, if◌then◌else◌, nat_eq, IsTrue, IsFalse, ◌++◌, filter, ⊤}
use Rattle.std.specs.Bool.{MatchBool}
use Rattle.hp_base.specs.declared.span.Span.{Span}
use Rattle.hp_base.specs.declared.value.Value.{Value}
use Rattle.hp_base.specs.declared.value.Value.TheVariants.{Absent, B}
use Rattle.hp_tree.specs.declared.block.Trans.{Trans}
use Rattle.hp_tree.specs.Expressions.{Expr, constant, variable, last_of, one, two, choose, pre, fby, arrow, when_is, merge, call, Exprs, no_expr, more_exprs, Parts, no_part, more_parts}
use Rattle.hp_tree.specs.Blocks.{Decl, Block, block, Eqns, no_eqn, more_eqns, Eqn, define, switch, reset, automaton, Arms, no_arm, more_arms, States, no_state, more_states}
use Rattle.hp_tree.specs.Programs.{TypeDecl}
use Rattle.hp_tree.specs.Operators.{real, is_cons, is_true, constant_of, is_there}
use Rattle.hp_tree.specs.Instant.{Step, Body, Observer, Named, Fresh, Equations, Head, Tail, Right, Test, Arms as ArmsOf, States as StatesOf, Until, Unless, First, Second, Third, Args, Instance, Place, Instant, Past, Given, part, parts, top, own, nothing, in_row, Clock, holds, without}
use Rattle.hp_tree.specs.Meaning.{Names, Nodes, defines, inside, within, lasts, clock_of, names_of, Jump, selected, expr, exprs, merged, conditions, strong, read_in, last_in, weak_in, scope, equations, equation, arm, states}
use Rattle.hp_meaning.specs.Causal.Sources.{below}
use Rattle.hp_meaning.specs.declared.causal.point.PointKind.TheVariants as kind
use Rattle.hp_meaning.specs.Causal.Points.{Placed, Whereabouts, calls, calls_in_all, calls_in_parts, conditions as points_of_conditions, lefts, defined_by, points_of, points_of_all, points_of_one, points_of_arms, points_of_states, point_at}
use Rattle.hp_meaning.specs.Contract.Forgetting.{is_instance, begins_hidden, is_forgotten}
use Rattle.hp_meaning.specs.Contract.FreePlaces.{is_call, instance_at}
use Rattle.hp_meaning.specs.Contract.ChosenRuns.{cut_by, own_past}
use Rattle.hp_meaning.proofs.ContractLemmas.Forgets.{given, Met, NoCall}

-- ---- a property of each call among some points

abbrev pub EachCall : (Placed → Type 0) → List Placed → Type 0
EachCall Q [] = ⊤
EachCall Q (c ∷ cs) = (IsTrue (is_call c.point.kind) → Q c) × EachCall Q cs

pub each_append : (Q : Placed → Type 0) (xs ys : List Placed) → EachCall Q xs → EachCall Q ys → EachCall Q (xs ++ ys)
each_append Q [] ys h k = k
each_append Q (x ∷ xs) ys h k = (h.0, each_append Q xs ys h.1 k)

no_call_true : {X : Type 0} → IsTrue false → X
no_call_true e = absurd (cc)

each_left : (Q : Placed → Type 0) (ys : List (List ℕ × Span)) (named : List ℕ → Place) → EachCall Q (lefts ys named)
each_left Q [] named = tt
each_left Q (y ∷ ys) named = ((λ e. no_call_true e), each_left Q ys named)

each_def : (Q : Placed → Type 0) (xs : List (List ℕ)) (s : Span) (named : List ℕ → Place) → EachCall Q (map (λ x. point_at kind.Def x s (named x)) xs)
each_def Q [] s named = tt
each_def Q (x ∷ xs) s named = ((λ e. no_call_true e), each_def Q xs s named)

each_none : (d : Bool) (x : Placed) (xs : List Placed) → (if d then x ∷ xs else xs) ≡ [] → IsFalse d × (xs ≡ [])
each_none true x xs e = absurd (cc)
each_none false x xs e = (refl, e)

pub each_of_none : (Q : Placed → Type 0) (ps : List Placed) → NoCall ps → EachCall Q ps
each_of_none Q [] h = tt
each_of_none Q (p ∷ ps) h =
    let k = each_none (is_call p.point.kind) p (filter (λ c. is_call c.point.kind) ps) h in
    ((λ e. no_call_true (sym k.0 ∙ e)), each_of_none Q ps k.1)

-- ---- own pasts along a way

pub own_past_append : (p q : Place) (past : Past) (now : Instant) → own_past (p ++ q) past now ≡ own_past q (own_past p past now) (λ r. now (p ++ r))
own_past_append [] q past now = refl
own_past_append (s ∷ p) q past now = own_past_append p q (cut_by (now (s ∷ Fresh ∷ [])) (parts s past)) (part s now)

pub cut_by_fresh : (fresh : Bool) (past : Past) → cut_by (B fresh) past ≡ (if fresh then [] else own past)
cut_by_fresh true past = refl
cut_by_fresh false past = refl

-- ---- which steps lead into a block

-- a step into a block or an instance; a row of arms is passed first, which is known by a flag
abbrev pub is_block : Bool → Step → Bool
is_block in_arms Body = true
is_block in_arms Observer = true
is_block in_arms Instance = true
is_block in_arms Head = in_arms
is_block in_arms s = false

abbrev pub after_step : Bool → Step → Bool
after_step in_arms ArmsOf = true
after_step in_arms Tail = in_arms
after_step in_arms s = false

-- A part that is no block has no word whether it begins anew; a block that has none is not there at all.
abbrev pub Entered : Bool → Step → Instant → Type 0
Entered in_arms s now = MatchBool (is_block in_arms s) (now (s ∷ Fresh ∷ []) ≡ Absent → (q : Place) → now (s ∷ q) ≡ Absent) (now (s ∷ Fresh ∷ []) ≡ Absent)

-- so along a way
abbrev pub Goes : Bool → Place → Instant → Type 0
Goes in_arms [] now = ⊤
Goes in_arms (s ∷ p) now = Entered in_arms s now × Goes (after_step in_arms s) p (part s now)

match_true : (P Q : Type 0) (d : Bool) → IsTrue d → P → MatchBool d P Q
match_true P Q true e p = p
match_true P Q false e p = no_call_true e

match_false : (P Q : Type 0) (d : Bool) → IsFalse d → Q → MatchBool d P Q
match_false P Q true e q = no_call_true (sym e)
match_false P Q false e q = q

module _ (types : List TypeDecl) (N : Nodes) (unfresh : (f : List ℕ) (vs : List Value) (g : Given) (now : Instant) → (N.instant f vs g now (Fresh ∷ []) ≡ B false) ⊎ ((p : Place) → N.instant f vs g now p ≡ Absent)) (root_past : Past) (root : Instant) where
  -- what is shown of each call
  pub record Held (c : Placed) : Type 0 where
    pub place : (q : Place) → is_forgotten (c.place ++ (Instance ∷ q)) ≡ is_forgotten (Instance ∷ q)
    pub goes : Goes false (c.place ++ (Instance ∷ [])) root
    pub holds_it : IsTrue (is_there (instance_at c root (Fresh ∷ []))) → (vs : List Value) × (free : Instant) × Met (instance_at c root) (N.instant c.point.name vs (given (own_past (c.place ++ (Instance ∷ [])) root_past root) free) (instance_at c root))

  -- where a part is, and with which past it is read if it is there
  pub record At (st there : Bool) (w : Whereabouts) (past : Past) (now : Instant) : Type 0 where
    pub way : (p : Place) → w p ≡ w [] ++ p
    pub plain : (q : Place) → is_forgotten (w [] ++ q) ≡ is_forgotten q
    pub seen : (p : Place) → now p ≡ root (w p)
    pub read : IsTrue there → own_past (w []) root_past root ≡ past
    pub onward : (q : Place) → Goes st q now → Goes false (w [] ++ q) root

  step : (s : Step) (st : Bool) → IsFalse (is_instance s) → (there : Bool) (w : Whereabouts) (past below_past : Past) (now : Instant) → At st there w past now → Entered st s now → (IsTrue there → cut_by (now (s ∷ Fresh ∷ [])) (parts s past) ≡ below_past) → At (after_step st s) there (below s w) below_past (part s now)
  step s st n there w past below_past now a entered cut =
      record {
        way = λ p. a.way (s ∷ p) ∙ sym (onward_is p);
        plain = λ q. ap is_forgotten (onward_is q) ∙ a.plain (s ∷ q) ∙ ap (λ d. d && begins_hidden q || is_forgotten q) n;
        seen = λ p. a.seen (s ∷ p);
        read = λ t. ap (λ p. own_past p root_past root) (a.way (s ∷ []))
            ∙ own_past_append (w []) (s ∷ []) root_past root
            ∙ ap₂ (λ v q. cut_by v (parts s q)) (sym (a.seen (s ∷ Fresh ∷ []) ∙ ap root (a.way (s ∷ Fresh ∷ [])))) (a.read t)
            ∙ cut t;
        onward = λ q h. subst (λ x. Goes false x root) (sym (onward_is q)) (a.onward (s ∷ q) (entered, h));
      }
    where
      onward_is : (q : Place) → w (s ∷ []) ++ q ≡ w [] ++ (s ∷ q)
      onward_is q = ap (λ x. x ++ q) (a.way (s ∷ [])) ∙ append_assoc (w []) (s ∷ []) q

  -- a part that is no block
  plain_step : (s : Step) (st : Bool) → IsFalse (is_instance s) → IsFalse (is_block st s) → (there : Bool) (w : Whereabouts) (past : Past) (now : Instant) → At st there w past now → now (s ∷ Fresh ∷ []) ≡ Absent → At (after_step st s) there (below s w) (parts s past) (part s now)
  plain_step s st n b there w past now a absent =
      step s st n there w past (parts s past) now a (match_false (now (s ∷ Fresh ∷ []) ≡ Absent → (q : Place) → now (s ∷ q) ≡ Absent) (now (s ∷ Fresh ∷ []) ≡ Absent) (is_block st s) b absent) (λ t. ap (λ v. cut_by v (parts s past)) absent)

  -- what is there or not, and its parts
  pub lower : (there : Bool) (now X : Instant) (s : Step) → Met now (if there then X else nothing) → Met (part s now) (if there then part s X else nothing)
  lower true now X s met p = met (s ∷ p)
  lower false now X s met p = met (s ∷ p)

  absent_below : (there : Bool) (now X : Instant) (s : Step) → Met now (if there then X else nothing) → X (s ∷ Fresh ∷ []) ≡ Absent → now (s ∷ Fresh ∷ []) ≡ Absent
  absent_below true now X s met e = met (s ∷ Fresh ∷ []) ∙ e
  absent_below false now X s met e = met (s ∷ Fresh ∷ [])

  both_there : (a b : Bool) (now X : Instant) → Met now (if a then (if b then X else nothing) else nothing) → Met now (if a && b then X else nothing)
  both_there true b now X met = met
  both_there false b now X met = met

  first_there : (a b : Bool) → IsTrue (a && b) → IsTrue a
  first_there true b h = refl
  first_there false b h = absurd (cc)

  weaker : (st there more : Bool) (w : Whereabouts) (past : Past) (now : Instant) → At st there w past now → At st (there && more) w past now
  weaker st there more w past now a = record { way = a.way; plain = a.plain; seen = a.seen; read = λ t. a.read (first_there there more t); onward = a.onward }

  -- ---- What is no block does not begin anew.

  expr_fresh : (e : Expr) (c : Clock) (names last : Names) (g : Given) (now : Instant) → expr types real N e c names last g now (Fresh ∷ []) ≡ Absent
  expr_fresh (constant s k) c names last g now = refl
  expr_fresh (variable s x) c names last g now = refl
  expr_fresh (last_of s x) c names last g now = refl
  expr_fresh (one s o a) c names last g now = refl
  expr_fresh (two s o a b) c names last g now = refl
  expr_fresh (choose s a b d) c names last g now = refl
  expr_fresh (pre s a) c names last g now = refl
  expr_fresh (fby s a b) c names last g now = refl
  expr_fresh (arrow s a b) c names last g now = refl
  expr_fresh (when_is s a k x) c names last g now = refl
  expr_fresh (merge s x ps) c names last g now = refl
  expr_fresh (call s f inlined es) c names last g now = refl

  row_fresh : (is : List Instant) → in_row is (Fresh ∷ []) ≡ Absent
  row_fresh [] = refl
  row_fresh (i ∷ is) = refl

  equation_fresh : (ds : List Decl) (e : Eqn) (names last : Names) (g : Given) (now : Instant) → equation types real N ds e names last g now (Fresh ∷ []) ≡ Absent
  equation_fresh ds (define s ys a) names last g now = refl
  equation_fresh ds (switch s a arms) names last g now = refl
  equation_fresh ds (reset s b a) names last g now = refl
  equation_fresh ds (automaton s ss) names last g now = refl

  equations_fresh : (ds : List Decl) (es : Eqns) (names last : Names) (g : Given) (now : Instant) → equations types real N ds es names last g now (Fresh ∷ []) ≡ Absent
  equations_fresh ds no_eqn names last g now = refl
  equations_fresh ds (more_eqns a es) names last g now = refl

  arms_fresh : (arms : Arms) (v : Value) (names last : Names) (g : Given) (now : Instant) → arm types real N arms v names last g now (Fresh ∷ []) ≡ Absent
  arms_fresh no_arm v names last g now = refl
  arms_fresh (more_arms c b s arms) v names last g now = refl

  states_fresh : (ss : States) (k : ℕ) (j : Jump) (out names last : Names) (g : Given) (now : Instant) → states types real N ss k j out names last g now (Fresh ∷ []) ≡ Absent
  states_fresh no_state k j out names last g now = refl
  states_fresh (more_states f b until unless s ss) k j out names last g now = refl

  block_fresh : (b : Block) (fresh : Bool) (names last : Names) (g : Given) (now : Instant) → scope types real N b fresh names last g now (Fresh ∷ []) ≡ B fresh
  block_fresh (block ds es) fresh names last g now = refl

  -- ---- the call itself

  is_no_word : {X : Type 0} {fresh : Bool} → B fresh ≡ Absent → X
  is_no_word e = absurd (cc)

  not_there : {X : Type 0} (v : Value) → v ≡ Absent → IsTrue (is_there v) → X
  not_there v e t = absurd (no_absent (subst (λ v. IsTrue (is_there v)) e t))
    where
      no_absent : IsTrue false → ⊥
      no_absent e = absurd (cc)

  instance_holds : (there held : Bool) (w : Whereabouts) (past : Past) (now : Instant) (s : Span) (f : List ℕ) (vs : List Value) (free : Instant) → At false there w past now → Met (part Instance now) (if there then (if held then N.instant f vs (given (own (parts Instance past)) free) (part Instance now) else nothing) else nothing) → Held (point_at kind.Call f s (w []))
  instance_holds there held w past now s f vs free a met =
      record {
        place = λ q. a.plain (Instance ∷ q);
        goes = a.onward (Instance ∷ []) (gone there held met, tt);
        holds_it = λ t. by_flags there held a.read met (subst (λ v. IsTrue (is_there v)) (same (Fresh ∷ [])) t);
      }
    where
      same : (q : Place) → root (w [] ++ (Instance ∷ q)) ≡ now (Instance ∷ q)
      same q = sym (a.seen (Instance ∷ q) ∙ ap root (a.way (Instance ∷ q)))

      own_is : (fresh : Value) → now (Instance ∷ Fresh ∷ []) ≡ fresh → own_past (w []) root_past root ≡ past → own_past (w [] ++ (Instance ∷ [])) root_past root ≡ cut_by fresh (parts Instance past)
      own_is fresh e r = own_past_append (w []) (Instance ∷ []) root_past root ∙ ap₂ (λ v q. cut_by v (parts Instance q)) (same (Fresh ∷ []) ∙ e) r

      gone : (there held : Bool) → Met (part Instance now) (if there then (if held then N.instant f vs (given (own (parts Instance past)) free) (part Instance now) else nothing) else nothing) → now (Instance ∷ Fresh ∷ []) ≡ Absent → (q : Place) → now (Instance ∷ q) ≡ Absent
      gone false held m e q = m q
      gone true false m e q = m q
      gone true true m e q = gone_word (N.instant f vs (given (own (parts Instance past)) free) (part Instance now)) (unfresh f vs (given (own (parts Instance past)) free) (part Instance now)) m
        where
          gone_word : (X : Instant) → (X (Fresh ∷ []) ≡ B false) ⊎ ((p : Place) → X p ≡ Absent) → Met (part Instance now) X → now (Instance ∷ q) ≡ Absent
          gone_word X (inl b) m = is_no_word (sym (m (Fresh ∷ []) ∙ b) ∙ e)
          gone_word X (inr k) m = m q ∙ k q

      by_word : (X : Instant) → (X (Fresh ∷ []) ≡ B false) ⊎ ((p : Place) → X p ≡ Absent) → Met (part Instance now) X → own_past (w []) root_past root ≡ past → IsTrue (is_there (now (Instance ∷ Fresh ∷ []))) → own (parts Instance past) ≡ own_past (w [] ++ (Instance ∷ [])) root_past root
      by_word X (inl b) m r t = sym (own_is (B false) (m (Fresh ∷ []) ∙ b) r)
      by_word X (inr k) m r t = not_there (now (Instance ∷ Fresh ∷ [])) (m (Fresh ∷ []) ∙ k (Fresh ∷ [])) t

      by_flags : (there held : Bool) → (IsTrue there → own_past (w []) root_past root ≡ past) → Met (part Instance now) (if there then (if held then N.instant f vs (given (own (parts Instance past)) free) (part Instance now) else nothing) else nothing) → IsTrue (is_there (now (Instance ∷ Fresh ∷ []))) → (vs : List Value) × (free : Instant) × Met (λ q. root (w [] ++ (Instance ∷ q))) (N.instant f vs (given (own_past (w [] ++ (Instance ∷ [])) root_past root) free) (λ q. root (w [] ++ (Instance ∷ q))))
      by_flags false held r m t = not_there (now (Instance ∷ Fresh ∷ [])) (m (Fresh ∷ [])) t
      by_flags true false r m t = not_there (now (Instance ∷ Fresh ∷ [])) (m (Fresh ∷ [])) t
      by_flags true true r m t =
          let e = by_word (N.instant f vs (given (own (parts Instance past)) free) (part Instance now)) (unfresh f vs (given (own (parts Instance past)) free) (part Instance now)) m (r refl) t in
          (vs, free, λ p. same p ∙ m p ∙ ap₂ (λ q i. N.instant f vs (given q free) i p) e (sym (fun_ext same)))

  -- into a part that is no block, and into a block
  into : (s : Step) (st : Bool) → IsFalse (is_instance s) → IsFalse (is_block st s) → (there : Bool) (w : Whereabouts) (past : Past) (now X Y : Instant) → At st there w past now → Met now (if there then X else nothing) → part s X ≡ Y → Y (Fresh ∷ []) ≡ Absent → At (after_step st s) there (below s w) (parts s past) (part s now) × Met (part s now) (if there then Y else nothing)
  into s st n b there w past now X Y a met same absent = (
    plain_step s st n b there w past now a (absent_below there now X s met (ap (λ (i : Instant). i (Fresh ∷ [])) same ∙ absent)),
    subst (λ Y. Met (part s now) (if there then Y else nothing)) same (lower there now X s met),
  )

  pub into_block : (s : Step) (st : Bool) → IsFalse (is_instance s) → IsTrue (is_block st s) → (there : Bool) (w : Whereabouts) (past : Past) (now : Instant) (b : Block) (fresh : Bool) (names last : Names) (free : Instant) → At st there w past now → Met (part s now) (if there then scope types real N b fresh names last (given (if fresh then [] else own (parts s past)) free) (part s now) else nothing) → At (after_step st s) there (below s w) (if fresh then [] else own (parts s past)) (part s now)
  into_block s st n is there w past now b fresh names last free a met =
      step s st n there w past (if fresh then [] else own (parts s past)) now a (match_true (now (s ∷ Fresh ∷ []) ≡ Absent → (q : Place) → now (s ∷ q) ≡ Absent) (now (s ∷ Fresh ∷ []) ≡ Absent) (is_block st s) is (gone there met))
      (λ t. ap (λ v. cut_by v (parts s past)) (begins there t met) ∙ cut_by_fresh fresh (parts s past))
    where
      begins : (there : Bool) → IsTrue there → Met (part s now) (if there then scope types real N b fresh names last (given (if fresh then [] else own (parts s past)) free) (part s now) else nothing) → now (s ∷ Fresh ∷ []) ≡ B fresh
      begins true t m = m (Fresh ∷ []) ∙ block_fresh b fresh names last (given (if fresh then [] else own (parts s past)) free) (part s now)
      begins false t m = no_call_true t

      gone : (there : Bool) → Met (part s now) (if there then scope types real N b fresh names last (given (if fresh then [] else own (parts s past)) free) (part s now) else nothing) → now (s ∷ Fresh ∷ []) ≡ Absent → (q : Place) → now (s ∷ q) ≡ Absent
      gone true m e q = is_no_word (sym (begins true refl m) ∙ e)
      gone false m e q = m q

  row_absent : (there : Bool) (now : Instant) (s : Step) (is : List Instant) → Met (part s now) (if there then in_row is else nothing) → now (s ∷ Fresh ∷ []) ≡ Absent
  row_absent true now s is m = m (Fresh ∷ []) ∙ row_fresh is
  row_absent false now s is m = m (Fresh ∷ [])

  -- ---- expressions

  first_in : (d e : Expr) (there : Bool) (w : Whereabouts) (c inner : Clock) (names last : Names) (past : Past) (free now : Instant) → At false there w past now → Met now (if there then expr types real N e c names last (given past free) now else nothing) → part First (expr types real N e c names last (given past free) now) ≡ expr types real N d inner names last (given (parts First past) (part First free)) (part First now) → At false there (below First w) (parts First past) (part First now) × Met (part First now) (if there then expr types real N d inner names last (given (parts First past) (part First free)) (part First now) else nothing)
  first_in d e there w c inner names last past free now a met same =
      into First false refl refl there w past now (expr types real N e c names last (given past free) now) (expr types real N d inner names last (given (parts First past) (part First free)) (part First now)) a met same (expr_fresh d inner names last (given (parts First past) (part First free)) (part First now))

  second_in : (d e : Expr) (there : Bool) (w : Whereabouts) (c inner : Clock) (names last : Names) (past : Past) (free now : Instant) → At false there w past now → Met now (if there then expr types real N e c names last (given past free) now else nothing) → part Second (expr types real N e c names last (given past free) now) ≡ expr types real N d inner names last (given (parts Second past) (part Second free)) (part Second now) → At false there (below Second w) (parts Second past) (part Second now) × Met (part Second now) (if there then expr types real N d inner names last (given (parts Second past) (part Second free)) (part Second now) else nothing)
  second_in d e there w c inner names last past free now a met same =
      into Second false refl refl there w past now (expr types real N e c names last (given past free) now) (expr types real N d inner names last (given (parts Second past) (part Second free)) (part Second now)) a met same (expr_fresh d inner names last (given (parts Second past) (part Second free)) (part Second now))

  mutual
    expr_calls : (e : Expr) (there : Bool) (w : Whereabouts) (c : Clock) (names last : Names) (past : Past) (free now : Instant) → At false there w past now → Met now (if there then expr types real N e c names last (given past free) now else nothing) → EachCall Held (calls e w)
    expr_calls (constant s k) there w c names last past free now a met = tt
    expr_calls (variable s x) there w c names last past free now a met = tt
    expr_calls (last_of s x) there w c names last past free now a met = tt
    expr_calls (one s o d) there w c names last past free now a met = (let u = first_in d (one s o d) there w c c names last past free now a met refl in expr_calls d there (below First w) c names last (parts First past) (part First free) (part First now) u.0 u.1)
    expr_calls (two s o d f) there w c names last past free now a met =
        each_append Held (calls d (below First w)) (calls f (below Second w))
        (let u = first_in d (two s o d f) there w c c names last past free now a met refl in expr_calls d there (below First w) c names last (parts First past) (part First free) (part First now) u.0 u.1)
        (let u = second_in f (two s o d f) there w c c names last past free now a met refl in expr_calls f there (below Second w) c names last (parts Second past) (part Second free) (part Second now) u.0 u.1)
    expr_calls (choose s d f h) there w c names last past free now a met =
        let X = expr types real N (choose s d f h) c names last (given past free) now in
        let Y = expr types real N h c names last (given (parts Third past) (part Third free)) (part Third now) in
        let u = into Third false refl refl there w past now X Y a met refl (expr_fresh h c names last (given (parts Third past) (part Third free)) (part Third now)) in
        each_append Held (calls d (below First w)) (calls f (below Second w) ++ calls h (below Third w))
        (let u = first_in d (choose s d f h) there w c c names last past free now a met refl in expr_calls d there (below First w) c names last (parts First past) (part First free) (part First now) u.0 u.1)
        (each_append Held (calls f (below Second w)) (calls h (below Third w))
        (let u = second_in f (choose s d f h) there w c c names last past free now a met refl in expr_calls f there (below Second w) c names last (parts Second past) (part Second free) (part Second now) u.0 u.1)
        (expr_calls h there (below Third w) c names last (parts Third past) (part Third free) (part Third now) u.0 u.1))
    expr_calls (pre s d) there w c names last past free now a met = (let u = first_in d (pre s d) there w c c names last past free now a met refl in expr_calls d there (below First w) c names last (parts First past) (part First free) (part First now) u.0 u.1)
    expr_calls (fby s d f) there w c names last past free now a met =
        each_append Held (calls d (below First w)) (calls f (below Second w))
        (let u = first_in d (fby s d f) there w c c names last past free now a met refl in expr_calls d there (below First w) c names last (parts First past) (part First free) (part First now) u.0 u.1)
        (let u = second_in f (fby s d f) there w c c names last past free now a met refl in expr_calls f there (below Second w) c names last (parts Second past) (part Second free) (part Second now) u.0 u.1)
    expr_calls (arrow s d f) there w c names last past free now a met =
        each_append Held (calls d (below First w)) (calls f (below Second w))
        (let u = first_in d (arrow s d f) there w c c names last past free now a met refl in expr_calls d there (below First w) c names last (parts First past) (part First free) (part First now) u.0 u.1)
        (let u = second_in f (arrow s d f) there w c c names last past free now a met refl in expr_calls f there (below Second w) c names last (parts Second past) (part Second free) (part Second now) u.0 u.1)
    expr_calls (when_is s d k x) there w c names last past free now a met = (let u = first_in d (when_is s d k x) there w c (without c) names last past free now a met refl in expr_calls d there (below First w) (without c) names last (parts First past) (part First free) (part First now) u.0 u.1)
    expr_calls (merge s x ps) there w c names last past free now a met =
        let X = expr types real N (merge s x ps) c names last (given past free) now in
        let is = merged types real N ps x c names last (given (parts Args past) (part Args free)) (part Args now) in
        let u = into Args false refl refl there w past now X (in_row is) a met refl (row_fresh is) in
        parts_calls ps there (below Args w) x c names last (parts Args past) (part Args free) (part Args now) u.0 u.1
    expr_calls (call s f inlined es) there w c names last past free now a met =
        let X = expr types real N (call s f inlined es) c names last (given past free) now in
        let is = exprs types real N es c names last (given (parts Args past) (part Args free)) (part Args now) in
        let u = into Args false refl refl there w past now X (in_row is) a met refl (row_fresh is) in (
          (λ e. instance_holds there (holds types c names) w past now s f (map top is) (part Instance free) a (lower there now X Instance met)),
          exprs_calls es there (below Args w) c names last (parts Args past) (part Args free) (part Args now) u.0 u.1,
        )

    exprs_calls : (es : Exprs) (there : Bool) (w : Whereabouts) (c : Clock) (names last : Names) (past : Past) (free now : Instant) → At false there w past now → Met now (if there then in_row (exprs types real N es c names last (given past free) now) else nothing) → EachCall Held (calls_in_all es w)
    exprs_calls no_expr there w c names last past free now a met = tt
    exprs_calls (more_exprs d es) there w c names last past free now a met =
        let X = in_row (exprs types real N (more_exprs d es) c names last (given past free) now) in
        let Y = expr types real N d c names last (given (parts Head past) (part Head free)) (part Head now) in
        let is = exprs types real N es c names last (given (parts Tail past) (part Tail free)) (part Tail now) in
        let u = into Head false refl refl there w past now X Y a met refl (expr_fresh d c names last (given (parts Head past) (part Head free)) (part Head now)) in
        let v = into Tail false refl refl there w past now X (in_row is) a met refl (row_fresh is) in
        each_append Held (calls d (below Head w)) (calls_in_all es (below Tail w))
        (expr_calls d there (below Head w) c names last (parts Head past) (part Head free) (part Head now) u.0 u.1)
        (exprs_calls es there (below Tail w) c names last (parts Tail past) (part Tail free) (part Tail now) v.0 v.1)

    parts_calls : (ps : Parts) (there : Bool) (w : Whereabouts) (x : List ℕ) (c : Clock) (names last : Names) (past : Past) (free now : Instant) → At false there w past now → Met now (if there then in_row (merged types real N ps x c names last (given past free) now) else nothing) → EachCall Held (calls_in_parts ps w)
    parts_calls no_part there w x c names last past free now a met = tt
    parts_calls (more_parts k d ps) there w x c names last past free now a met =
        let X = in_row (merged types real N (more_parts k d ps) x c names last (given past free) now) in
        let Y = expr types real N d ((k, x) ∷ c) names last (given (parts Head past) (part Head free)) (part Head now) in
        let is = merged types real N ps x c names last (given (parts Tail past) (part Tail free)) (part Tail now) in
        let u = into Head false refl refl there w past now X Y a met refl (expr_fresh d ((k, x) ∷ c) names last (given (parts Head past) (part Head free)) (part Head now)) in
        let v = into Tail false refl refl there w past now X (in_row is) a met refl (row_fresh is) in
        each_append Held (calls d (below Head w)) (calls_in_parts ps (below Tail w))
        (expr_calls d there (below Head w) ((k, x) ∷ c) names last (parts Head past) (part Head free) (part Head now) u.0 u.1)
        (parts_calls ps there (below Tail w) x c names last (parts Tail past) (part Tail free) (part Tail now) v.0 v.1)

  conditions_calls : (ts : List Trans) (there : Bool) (w : Whereabouts) (names last : Names) (past : Past) (free now : Instant) → At false there w past now → Met now (if there then in_row (conditions types real N ts names last (given past free) now) else nothing) → EachCall Held (points_of_conditions ts w)
  conditions_calls [] there w names last past free now a met = tt
  conditions_calls (t ∷ ts) there w names last past free now a met =
      let X = in_row (conditions types real N (t ∷ ts) names last (given past free) now) in
      let Y = expr types real N t.cond [] names last (given (parts Head past) (part Head free)) (part Head now) in
      let is = conditions types real N ts names last (given (parts Tail past) (part Tail free)) (part Tail now) in
      let u = into Head false refl refl there w past now X Y a met refl (expr_fresh t.cond [] names last (given (parts Head past) (part Head free)) (part Head now)) in
      let v = into Tail false refl refl there w past now X (in_row is) a met refl (row_fresh is) in (
        (λ e. no_call_true e),
        each_append Held (calls t.cond (below Head w)) (points_of_conditions ts (below Tail w))
            (expr_calls t.cond there (below Head w) [] names last (parts Head past) (part Head free) (part Head now) u.0 u.1)
            (conditions_calls ts there (below Tail w) names last (parts Tail past) (part Tail free) (part Tail now) v.0 v.1),
      )

  -- ---- blocks

  mutual
    pub block_calls : (b : Block) (declared : List (List ℕ)) (there : Bool) (w : Whereabouts) (fresh : Bool) (names last : Names) (past : Past) (free now : Instant) → At false there w past now → Met now (if there then scope types real N b fresh names last (given past free) now else nothing) → EachCall Held (points_of declared b w)
    block_calls (block ds es) declared there w fresh names last past free now a met =
        let inner = inside es names now in
        let last' = lasts (constant_of types) ds past last in
        let X = scope types real N (block ds es) fresh names last (given past free) now in
        let Y = equations types real N ds es inner last' (given (parts Equations past) (part Equations free)) (part Equations now) in
        let u = into Equations false refl refl there w past now X Y a met refl (equations_fresh ds es inner last' (given (parts Equations past) (part Equations free)) (part Equations now)) in
        equations_calls ds es (declared ++ names_of ds) (λ x. w (Named x ∷ [])) there (below Equations w) inner last' (parts Equations past) (part Equations free) (part Equations now) u.0 u.1

    equations_calls : (ds : List Decl) (es : Eqns) (declared : List (List ℕ)) (named : List ℕ → Place) (there : Bool) (w : Whereabouts) (names last : Names) (past : Past) (free now : Instant) → At false there w past now → Met now (if there then equations types real N ds es names last (given past free) now else nothing) → EachCall Held (points_of_all declared named es w)
    equations_calls ds no_eqn declared named there w names last past free now a met = tt
    equations_calls ds (more_eqns d es) declared named there w names last past free now a met =
        let X = equations types real N ds (more_eqns d es) names last (given past free) now in
        let Y = equation types real N ds d names last (given (parts Head past) (part Head free)) (part Head now) in
        let Z = equations types real N ds es names last (given (parts Tail past) (part Tail free)) (part Tail now) in
        let u = into Head false refl refl there w past now X Y a met refl (equation_fresh ds d names last (given (parts Head past) (part Head free)) (part Head now)) in
        let v = into Tail false refl refl there w past now X Z a met refl (equations_fresh ds es names last (given (parts Tail past) (part Tail free)) (part Tail now)) in
        each_append Held (points_of_one declared named d (below Head w)) (points_of_all declared named es (below Tail w))
        (equation_calls ds d declared named there (below Head w) names last (parts Head past) (part Head free) (part Head now) u.0 u.1)
        (equations_calls ds es declared named there (below Tail w) names last (parts Tail past) (part Tail free) (part Tail now) v.0 v.1)

    equation_calls : (ds : List Decl) (e : Eqn) (declared : List (List ℕ)) (named : List ℕ → Place) (there : Bool) (w : Whereabouts) (names last : Names) (past : Past) (free now : Instant) → At false there w past now → Met now (if there then equation types real N ds e names last (given past free) now else nothing) → EachCall Held (points_of_one declared named e w)
    equation_calls ds (define s ys d) declared named there w names last past free now a met =
        let c = clock_of ds ys d in
        let X = equation types real N ds (define s ys d) names last (given past free) now in
        let Y = expr types real N d c names last (given (parts Right past) (part Right free)) (part Right now) in
        let u = into Right false refl refl there w past now X Y a met refl (expr_fresh d c names last (given (parts Right past) (part Right free)) (part Right now)) in
        each_append Held (lefts ys named) (calls d (below Right w)) (each_left Held ys named)
        (expr_calls d there (below Right w) c names last (parts Right past) (part Right free) (part Right now) u.0 u.1)
    equation_calls ds (switch s d arms) declared named there w names last past free now a met =
        let out = within (switch s d arms) names last in
        let X = equation types real N ds (switch s d arms) names last (given past free) now in
        let Y = expr types real N d [] names last (given (parts Test past) (part Test free)) (part Test now) in
        let Z = arm types real N arms (top Y) out last (given (parts ArmsOf past) (part ArmsOf free)) (part ArmsOf now) in
        let u = into Test false refl refl there w past now X Y a met refl (expr_fresh d [] names last (given (parts Test past) (part Test free)) (part Test now)) in
        let v = into ArmsOf false refl refl there w past now X Z a met refl (arms_fresh arms (top Y) out last (given (parts ArmsOf past) (part ArmsOf free)) (part ArmsOf now)) in
        each_append Held (defined_by (switch s d arms) s declared named) (calls d (below Test w) ++ points_of_arms declared arms (below ArmsOf w))
        (each_def Held (filter (defines (switch s d arms)) declared) s named)
        (each_append Held (calls d (below Test w)) (points_of_arms declared arms (below ArmsOf w))
        (expr_calls d there (below Test w) [] names last (parts Test past) (part Test free) (part Test now) u.0 u.1)
        (arms_calls arms (top Y) declared there (below ArmsOf w) out last (parts ArmsOf past) (part ArmsOf free) (part ArmsOf now) v.0 v.1))
    equation_calls ds (reset s b d) declared named there w names last past free now a met =
        let out = within (reset s b d) names last in
        let X = equation types real N ds (reset s b d) names last (given past free) now in
        let Y = expr types real N d [] names last (given (parts Test past) (part Test free)) (part Test now) in
        let fresh = is_true (top Y) in
        let q = if fresh then [] else own (parts Body past) in
        let u = into Test false refl refl there w past now X Y a met refl (expr_fresh d [] names last (given (parts Test past) (part Test free)) (part Test now)) in
        let m = lower there now X Body met in
        each_append Held (defined_by (reset s b d) s declared named) (points_of declared b (below Body w) ++ calls d (below Test w))
        (each_def Held (filter (defines (reset s b d)) declared) s named)
        (each_append Held (points_of declared b (below Body w)) (calls d (below Test w))
        (block_calls b declared there (below Body w) fresh out last q (part Body free) (part Body now) (into_block Body false refl refl there w past now b fresh out last (part Body free) a m) m)
        (expr_calls d there (below Test w) [] names last (parts Test past) (part Test free) (part Test now) u.0 u.1))
    equation_calls ds (automaton s ss) declared named there w names last past free now a met =
        let out = within (automaton s ss) names last in
        let X = equation types real N ds (automaton s ss) names last (given past free) now in
        let j = strong types real N ss ss 0 (selected past) names last (given (parts StatesOf past) (part StatesOf free)) (part StatesOf now) in
        let Y = states types real N ss 0 j names out last (given (parts StatesOf past) (part StatesOf free)) (part StatesOf now) in
        let u = into StatesOf false refl refl there w past now X Y a met refl (states_fresh ss 0 j names out last (given (parts StatesOf past) (part StatesOf free)) (part StatesOf now)) in (
          (λ e. no_call_true e),
          (
            (λ e. no_call_true e),
            each_append Held (defined_by (automaton s ss) s declared named) (points_of_states declared ss (below StatesOf w))
                (each_def Held (filter (defines (automaton s ss)) declared) s named)
                (states_calls ss 0 j declared there (below StatesOf w) names out last (parts StatesOf past) (part StatesOf free) (part StatesOf now) u.0 u.1),
          ),
        )

    arms_calls : (arms : Arms) (v : Value) (declared : List (List ℕ)) (there : Bool) (w : Whereabouts) (names last : Names) (past : Past) (free now : Instant) → At true there w past now → Met now (if there then arm types real N arms v names last (given past free) now else nothing) → EachCall Held (points_of_arms declared arms w)
    arms_calls no_arm v declared there w names last past free now a met = tt
    arms_calls (more_arms c b s arms) v declared there w names last past free now a met =
        let d = is_cons types v c in
        let X = arm types real N (more_arms c b s arms) v names last (given past free) now in
        let Y = arm types real N arms v names last (given (parts Tail past) (part Tail free)) (part Tail now) in
        let S = scope types real N b false names last (given (own (parts Head past)) (part Head free)) (part Head now) in
        let m = both_there there d (part Head now) S (lower there now X Head met) in
        let u = into Tail true refl refl there w past now X Y a met refl (arms_fresh arms v names last (given (parts Tail past) (part Tail free)) (part Tail now)) in
        each_append Held (points_of declared b (below Head w)) (points_of_arms declared arms (below Tail w))
        (block_calls b declared (there && d) (below Head w) false names last (own (parts Head past)) (part Head free) (part Head now) (into_block Head true refl refl (there && d) w past now b false names last (part Head free) (weaker true there d w past now a) m) m)
        (arms_calls arms v declared there (below Tail w) names last (parts Tail past) (part Tail free) (part Tail now) u.0 u.1)

    states_calls : (ss : States) (k : ℕ) (j : Jump) (declared : List (List ℕ)) (there : Bool) (w : Whereabouts) (out names last : Names) (past : Past) (free now : Instant) → At false there w past now → Met now (if there then states types real N ss k j out names last (given past free) now else nothing) → EachCall Held (points_of_states declared ss w)
    states_calls no_state k j declared there w out names last past free now a met = tt
    states_calls (more_states f b until unless s ss) k j declared there w out names last past free now a met =
        let d = nat_eq k j.state in
        let here = part Head now in
        let w' = below Head w in
        let q = parts Head past in
        let X = states types real N (more_states f b until unless s ss) k j out names last (given past free) now in
        let S = scope types real N b j.restart names last (given (if j.restart then [] else own (parts Body q)) (part Body (part Head free))) (part Body here) in
        let Y = weak_in types real N b until j names last (given q (part Head free)) here in
        let Z = conditions types real N unless out last (given (parts Unless q) (part Unless (part Head free))) (part Unless here) in
        let V = states types real N ss (suc k) j out names last (given (parts Tail past) (part Tail free)) (part Tail now) in
        let head = into Head false refl refl there w past now X (part Head X) a met refl refl in
        let inner = weaker false there d w' q here head.0 in
        let m = both_there there d (part Body here) S (lower there here (part Head X) Body head.1) in
        let n = both_there there d (part Until here) (in_row Y) (lower there here (part Head X) Until head.1) in
        let until_at = plain_step Until false refl refl (there && d) w' q here inner (row_absent (there && d) here Until Y n) in
        let u = into Unless false refl refl there w' q here (part Head X) (in_row Z) head.0 head.1 refl (row_fresh Z) in
        let v = into Tail false refl refl there w past now X V a met refl (states_fresh ss (suc k) j out names last (given (parts Tail past) (part Tail free)) (part Tail now)) in
        let inner_last = last_in types real N b (if j.restart then [] else own (parts Body q)) last in
        each_append Held (points_of declared b (below Body w')) (points_of_conditions until (below Until w') ++ (points_of_conditions unless (below Unless w') ++ points_of_states declared ss (below Tail w)))
        (block_calls b declared (there && d) (below Body w') j.restart names last (if j.restart then [] else own (parts Body q)) (part Body (part Head free)) (part Body here) (into_block Body false refl refl (there && d) w' q here b j.restart names last (part Body (part Head free)) inner m) m)
        (each_append Held (points_of_conditions until (below Until w')) (points_of_conditions unless (below Unless w') ++ points_of_states declared ss (below Tail w))
        (conditions_calls until (there && d) (below Until w') (read_in types real N b names (part Body here)) inner_last (parts Until q) (part Until (part Head free)) (part Until here) until_at n)
        (each_append Held (points_of_conditions unless (below Unless w')) (points_of_states declared ss (below Tail w))
        (conditions_calls unless there (below Unless w') out last (parts Unless q) (part Unless (part Head free)) (part Unless here) u.0 u.1)
        (states_calls ss (suc k) j declared there (below Tail w) out names last (parts Tail past) (part Tail free) (part Tail now) v.0 v.1)))
