-- The instance of each call of a node, where it is there, does what the callee does with no more values than it has inputs, after its own past; nothing else is given.
use Rattle.std.proofs.Common.{◌≡◌, ◌≤◌, ℕ, suc, inl, inr, List, [], ◌∷◌, length, map, Some, refl, sym, ap, ap₂, ◌∙◌, subst}
use Rattle.std.proofs.Math.Path.{fun_ext}
use Rattle.std.proofs.lemmas.List.{append_assoc, length-map}
use Rattle.std.specs.Prelude.{Bool, true, false, ◌&&◌, ◌⊎◌, if◌then◌else◌, nat_eq, IsTrue, IsFalse, ◌++◌, filter, All}
use Rattle.hp_base.specs.declared.span.Span.{Span}
use Rattle.hp_base.specs.declared.value.Value.{Value}
use Rattle.hp_base.specs.declared.value.Value.TheVariants.{Absent, B}
use Rattle.hp_tree.specs.declared.block.Trans.{Trans}
use Rattle.hp_tree.specs.Expressions.{Expr, constant, variable, last_of, one, two, choose, pre, fby, arrow, when_is, merge, call, Exprs, no_expr, more_exprs, Parts, no_part, more_parts}
use Rattle.hp_tree.specs.Blocks.{Decl, Block, block, Eqns, no_eqn, more_eqns, Eqn, define, switch, reset, automaton, Arms, no_arm, more_arms, States, no_state, more_states}
use Rattle.hp_tree.specs.Programs.{Node, TypeDecl}
use Rattle.hp_tree.specs.Operators.{real, is_cons, is_true, constant_of, is_there}
use Rattle.hp_tree.specs.Instant.{Step, Body, Controls, Named, Fresh, Equations, Head, Tail, Right, Test, Arms as ArmsOf, States as StatesOf, Until, Unless, First, Second, Third, Args, Instance, Place, Instant, Past, Given, part, parts, top, own, nothing, in_row, Clock, holds, without}
use Rattle.hp_tree.specs.Meaning.{Names, Nodes, controls_of, defines, given_to, input_of, inside, within, lasts, clock_of, names_of, node, Jump, selected, expr, exprs, merged, conditions, strong, read_in, last_in, weak_in, scope, equations, equation, arm, states}
use Rattle.hp_meaning.specs.Causal.Sources.{below}
use Rattle.hp_meaning.specs.Causal.Steering.{steered_by}
use Rattle.hp_meaning.specs.declared.causal.point.PointKind.TheVariants as kind
use Rattle.hp_meaning.specs.Causal.Points.{Placed, Whereabouts, calls, calls_in_all, calls_in_parts, conditions as points_of_conditions, controls, lefts, defined_by, point_at, points, points_of, points_of_all, points_of_arms, points_of_contract, points_of_one, points_of_states}
use Rattle.hp_meaning.specs.Contract.FreePlaces.{calls_of, instance_at, is_call}
use Rattle.hp_meaning.specs.Contract.ChosenRuns.{cut_by, own_past}
use Rattle.hp_meaning.proofs.ContractLemmas.Callees.{Word}
use Rattle.hp_meaning.proofs.ContractLemmas.Forgets.{given, Met}
use Rattle.hp_meaning.proofs.ContractLemmas.Instances.{cut_by_fresh, own_past_append}
use Rattle.hp_drawing.specs.Told.{Told}
use Rattle.law_drawing.specs.Steered.Asked.{ArmsFit, BlockFits, CallFits, CallsFit, CallsInAllFit, CallsInPartsFit, ConditionsFit, EqnFits, EqnsFit, RightFits, StatesFit, count_of}
use Rattle.law_games.proofs.ForcedLemmas.EachCall.{EachCall, each_all, each_append, each_control, each_def, each_left}

no_call_true : {X : Type 0} → IsTrue false → X
no_call_true e = absurd cc

-- where nothing is called
none_called : (d : Bool) (x : Placed) (xs : List Placed) → (if d then x ∷ xs else xs) ≡ [] → IsFalse d × (xs ≡ [])
none_called true x xs e = absurd cc
none_called false x xs e = (refl, e)

each_of_none : (Q : Placed → Type 0) (ps : List Placed) → filter (λ c. is_call c.point.kind) ps ≡ [] → EachCall Q ps
each_of_none Q [] h = tt
each_of_none Q (p ∷ ps) h =
    let k = none_called (is_call p.point.kind) p (filter (λ c. is_call c.point.kind) ps) h in
    ((λ e. no_call_true (sym k.0 ∙ e)), each_of_none Q ps k.1)

absent_or_there : {X : Type 0} (v : Value) → v ≡ Absent → IsTrue (is_there v) → X
absent_or_there v e t = absurd (let k : IsTrue false = subst (λ v. IsTrue (is_there v)) e t in cc)

module _ (told : Told) (types : List TypeDecl) (N : Nodes) (word : (f : List ℕ) (vs : List Value) (g : Given) (now : Instant) → Word (N.instant f vs g now)) (root_past : Past) (root : Instant) where
  -- what a call gives fits in the inputs of its callee
  abbrev pub Takes : List ℕ → List Value → Type 0
  Takes f vs = (m : Node) × ((told.nodes f ≡ Some m) × (length vs ≤ length m.inputs))

  -- what is shown of each call
  abbrev pub Called : Placed → Type 0
  Called c =
      IsTrue (is_there (instance_at c root (Fresh ∷ [])))
      → (vs : List Value) × (Takes c.point.name vs × Met (instance_at c root) (N.instant c.point.name vs (given (own_past (c.place ++ (Instance ∷ [])) root_past root) nothing) (instance_at c root)))

  -- where a part is, and with which past it is read if it is there
  record At (there : Bool) (w : Whereabouts) (past : Past) (now : Instant) : Type 0 where
    way : (p : Place) → w p ≡ w [] ++ p
    seen : (p : Place) → now p ≡ root (w p)
    read : IsTrue there → own_past (w []) root_past root ≡ past

  step : (s : Step) (there : Bool) (w : Whereabouts) (past below_past : Past) (now : Instant) → At there w past now → (IsTrue there → cut_by (now (s ∷ Fresh ∷ [])) (parts s past) ≡ below_past) → At there (below s w) below_past (part s now)
  step s there w past below_past now a cut =
      record {
        way = λ p. a.way (s ∷ p) ∙ sym (ap (λ x. x ++ p) (a.way (s ∷ [])) ∙ append_assoc (w []) (s ∷ []) p);
        seen = λ p. a.seen (s ∷ p);
        read = λ t. ap (λ p. own_past p root_past root) (a.way (s ∷ []))
            ∙ own_past_append (w []) (s ∷ []) root_past root
            ∙ ap₂ (λ v q. cut_by v (parts s q)) (sym (a.seen (s ∷ Fresh ∷ []) ∙ ap root (a.way (s ∷ Fresh ∷ [])))) (a.read t)
            ∙ cut t;
      }

  -- a part that is no block
  plain_step : (s : Step) (there : Bool) (w : Whereabouts) (past : Past) (now : Instant) → At there w past now → now (s ∷ Fresh ∷ []) ≡ Absent → At there (below s w) (parts s past) (part s now)
  plain_step s there w past now a absent = step s there w past (parts s past) now a (λ t. ap (λ v. cut_by v (parts s past)) absent)

  -- what is there or not, and its parts
  lower : (there : Bool) (now X : Instant) (s : Step) → Met now (if there then X else nothing) → Met (part s now) (if there then part s X else nothing)
  lower true now X s met p = met (s ∷ p)
  lower false now X s met p = met (s ∷ p)

  absent_below : (there : Bool) (now X : Instant) (s : Step) → Met now (if there then X else nothing) → X (s ∷ Fresh ∷ []) ≡ Absent → now (s ∷ Fresh ∷ []) ≡ Absent
  absent_below true now X s met e = met (s ∷ Fresh ∷ []) ∙ e
  absent_below false now X s met e = met (s ∷ Fresh ∷ [])

  both_there : (a b : Bool) (now X : Instant) → Met now (if a then (if b then X else nothing) else nothing) → Met now (if a && b then X else nothing)
  both_there true b now X met = met
  both_there false b now X met = met

  first_there : (a b : Bool) → IsTrue (a && b) → IsTrue a
  first_there true b h = refl
  first_there false b h = no_call_true h

  weaker : (there more : Bool) (w : Whereabouts) (past : Past) (now : Instant) → At there w past now → At (there && more) w past now
  weaker there more w past now a = record { way = a.way; seen = a.seen; read = λ t. a.read (first_there there more t) }

  -- ---- What is no block does not begin anew.

  expr_fresh : (e : Expr) (c : Clock) (names last : Names) (g : Given) (now : Instant) → expr types real N e c names last g now (Fresh ∷ []) ≡ Absent
  expr_fresh (constant s k) c names last g now = refl
  expr_fresh (variable s x) c names last g now = refl
  expr_fresh (last_of s x) c names last g now = refl
  expr_fresh (one s o a) c names last g now = refl
  expr_fresh (two s o a b) c names last g now = refl
  expr_fresh (choose s a b d) c names last g now = refl
  expr_fresh (pre s a) c names last g now = refl
  expr_fresh (fby s a b) c names last g now = refl
  expr_fresh (arrow s a b) c names last g now = refl
  expr_fresh (when_is s a k x) c names last g now = refl
  expr_fresh (merge s x ps) c names last g now = refl
  expr_fresh (call s f inlined es) c names last g now = refl

  row_fresh : (is : List Instant) → in_row is (Fresh ∷ []) ≡ Absent
  row_fresh [] = refl
  row_fresh (i ∷ is) = refl

  equation_fresh : (ds : List Decl) (e : Eqn) (names last : Names) (g : Given) (now : Instant) → equation types real N ds e names last g now (Fresh ∷ []) ≡ Absent
  equation_fresh ds (define s ys a) names last g now = refl
  equation_fresh ds (switch s a arms) names last g now = refl
  equation_fresh ds (reset s b a) names last g now = refl
  equation_fresh ds (automaton s ss) names last g now = refl

  equations_fresh : (ds : List Decl) (es : Eqns) (names last : Names) (g : Given) (now : Instant) → equations types real N ds es names last g now (Fresh ∷ []) ≡ Absent
  equations_fresh ds no_eqn names last g now = refl
  equations_fresh ds (more_eqns a es) names last g now = refl

  arms_fresh : (arms : Arms) (v : Value) (names last : Names) (g : Given) (now : Instant) → arm types real N arms v names last g now (Fresh ∷ []) ≡ Absent
  arms_fresh no_arm v names last g now = refl
  arms_fresh (more_arms c b s arms) v names last g now = refl

  states_fresh : (ss : States) (k : ℕ) (j : Jump) (out names last : Names) (g : Given) (now : Instant) → states types real N ss k j out names last g now (Fresh ∷ []) ≡ Absent
  states_fresh no_state k j out names last g now = refl
  states_fresh (more_states f b until unless s ss) k j out names last g now = refl

  block_fresh : (b : Block) (fresh : Bool) (names last : Names) (g : Given) (now : Instant) → scope types real N b fresh names last g now (Fresh ∷ []) ≡ B fresh
  block_fresh (block ds es) fresh names last g now = refl

  -- ---- the call itself

  many : (es : Exprs) (c : Clock) (names last : Names) (g : Given) (now : Instant) → length (exprs types real N es c names last g now) ≡ count_of es
  many no_expr c names last g now = refl
  many (more_exprs d es) c names last g now = ap suc (many es c names last (record { past = parts Tail g.past; free = part Tail g.free }) (part Tail now))

  as_given : (f : List ℕ) (es : Exprs) (is : List Instant) → length is ≡ count_of es → CallFits told f (count_of es) → Takes f (map top is)
  as_given f es is e fit = (fit.node, (fit.found, subst (λ k. k ≤ length fit.node.inputs) (sym (length-map is top ∙ e)) fit.inputs))

  instance_holds : (there held : Bool) (w : Whereabouts) (past : Past) (now : Instant) (s : Span) (f : List ℕ) (vs : List Value) → Takes f vs → At there w past now
      → Met (part Instance now) (if there then (if held then N.instant f vs (given (own (parts Instance past)) nothing) (part Instance now) else nothing) else nothing) → Called (point_at kind.Call f s (w []))
  instance_holds there held w past now s f vs takes a met t = by_flags there held a.read met (subst (λ v. IsTrue (is_there v)) (same (Fresh ∷ [])) t)
    where
      same : (q : Place) → root (w [] ++ (Instance ∷ q)) ≡ now (Instance ∷ q)
      same q = sym (a.seen (Instance ∷ q) ∙ ap root (a.way (Instance ∷ q)))

      own_is : (fresh : Value) → now (Instance ∷ Fresh ∷ []) ≡ fresh → own_past (w []) root_past root ≡ past → own_past (w [] ++ (Instance ∷ [])) root_past root ≡ cut_by fresh (parts Instance past)
      own_is fresh e r = own_past_append (w []) (Instance ∷ []) root_past root ∙ ap₂ (λ v q. cut_by v (parts Instance q)) (same (Fresh ∷ []) ∙ e) r

      by_word : (X : Instant) → Word X → Met (part Instance now) X → own_past (w []) root_past root ≡ past → IsTrue (is_there (now (Instance ∷ Fresh ∷ []))) → own (parts Instance past) ≡ own_past (w [] ++ (Instance ∷ [])) root_past root
      by_word X (inl b) m r t = sym (own_is (B false) (m (Fresh ∷ []) ∙ b) r)
      by_word X (inr k) m r t = absent_or_there (now (Instance ∷ Fresh ∷ [])) (m (Fresh ∷ []) ∙ k (Fresh ∷ [])) t

      by_flags : (there held : Bool) → (IsTrue there → own_past (w []) root_past root ≡ past) → Met (part Instance now) (if there then (if held then N.instant f vs (given (own (parts Instance past)) nothing) (part Instance now) else nothing) else nothing) → IsTrue (is_there (now (Instance ∷ Fresh ∷ [])))
          → (vs : List Value) × (Takes f vs × Met (λ q. root (w [] ++ (Instance ∷ q))) (N.instant f vs (given (own_past (w [] ++ (Instance ∷ [])) root_past root) nothing) (λ q. root (w [] ++ (Instance ∷ q)))))
      by_flags false held r m t = absent_or_there (now (Instance ∷ Fresh ∷ [])) (m (Fresh ∷ [])) t
      by_flags true false r m t = absent_or_there (now (Instance ∷ Fresh ∷ [])) (m (Fresh ∷ [])) t
      by_flags true true r m t =
          let e = by_word (N.instant f vs (given (own (parts Instance past)) nothing) (part Instance now)) (word f vs (given (own (parts Instance past)) nothing) (part Instance now)) m (r refl) t in
          (vs, (takes, λ p. same p ∙ m p ∙ ap₂ (λ q i. N.instant f vs (given q nothing) i p) e (sym (fun_ext same))))

  -- into a part that is no block, and into a block
  into : (s : Step) (there : Bool) (w : Whereabouts) (past : Past) (now X Y : Instant) → At there w past now → Met now (if there then X else nothing) → part s X ≡ Y → Y (Fresh ∷ []) ≡ Absent → At there (below s w) (parts s past) (part s now) × Met (part s now) (if there then Y else nothing)
  into s there w past now X Y a met same absent = (
    plain_step s there w past now a (absent_below there now X s met (ap (λ (i : Instant). i (Fresh ∷ [])) same ∙ absent)),
    subst (λ Y. Met (part s now) (if there then Y else nothing)) same (lower there now X s met),
  )

  into_block : (s : Step) (there : Bool) (w : Whereabouts) (past : Past) (now : Instant) (b : Block) (fresh : Bool) (names last : Names) → At there w past now → Met (part s now) (if there then scope types real N b fresh names last (given (if fresh then [] else own (parts s past)) nothing) (part s now) else nothing)
      → At there (below s w) (if fresh then [] else own (parts s past)) (part s now)
  into_block s there w past now b fresh names last a met = step s there w past (if fresh then [] else own (parts s past)) now a (λ t. ap (λ v. cut_by v (parts s past)) (begins there t met) ∙ cut_by_fresh fresh (parts s past))
    where
      begins : (there : Bool) → IsTrue there → Met (part s now) (if there then scope types real N b fresh names last (given (if fresh then [] else own (parts s past)) nothing) (part s now) else nothing) → now (s ∷ Fresh ∷ []) ≡ B fresh
      begins true t m = m (Fresh ∷ []) ∙ block_fresh b fresh names last (given (if fresh then [] else own (parts s past)) nothing) (part s now)
      begins false t m = no_call_true t

  row_absent : (there : Bool) (now : Instant) (s : Step) (is : List Instant) → Met (part s now) (if there then in_row is else nothing) → now (s ∷ Fresh ∷ []) ≡ Absent
  row_absent true now s is m = m (Fresh ∷ []) ∙ row_fresh is
  row_absent false now s is m = m (Fresh ∷ [])

  -- ---- expressions

  first_in : (d e : Expr) (there : Bool) (w : Whereabouts) (c inner : Clock) (names last : Names) (past : Past) (now : Instant) → At there w past now → Met now (if there then expr types real N e c names last (given past nothing) now else nothing) → part First (expr types real N e c names last (given past nothing) now) ≡ expr types real N d inner names last (given (parts First past) nothing) (part First now) → At there (below First w) (parts First past) (part First now) × Met (part First now) (if there then expr types real N d inner names last (given (parts First past) nothing) (part First now) else nothing)
  first_in d e there w c inner names last past now a met same =
      into First there w past now (expr types real N e c names last (given past nothing) now) (expr types real N d inner names last (given (parts First past) nothing) (part First now)) a met same (expr_fresh d inner names last (given (parts First past) nothing) (part First now))

  second_in : (d e : Expr) (there : Bool) (w : Whereabouts) (c inner : Clock) (names last : Names) (past : Past) (now : Instant) → At there w past now → Met now (if there then expr types real N e c names last (given past nothing) now else nothing) → part Second (expr types real N e c names last (given past nothing) now) ≡ expr types real N d inner names last (given (parts Second past) nothing) (part Second now) → At there (below Second w) (parts Second past) (part Second now) × Met (part Second now) (if there then expr types real N d inner names last (given (parts Second past) nothing) (part Second now) else nothing)
  second_in d e there w c inner names last past now a met same =
      into Second there w past now (expr types real N e c names last (given past nothing) now) (expr types real N d inner names last (given (parts Second past) nothing) (part Second now)) a met same (expr_fresh d inner names last (given (parts Second past) nothing) (part Second now))

  mutual
    expr_calls : (e : Expr) → CallsFit told e → (there : Bool) (w : Whereabouts) (c : Clock) (names last : Names) (past : Past) (now : Instant) → At there w past now → Met now (if there then expr types real N e c names last (given past nothing) now else nothing) → EachCall Called (calls e w)
    expr_calls (constant s k) fit there w c names last past now a met = tt
    expr_calls (variable s x) fit there w c names last past now a met = tt
    expr_calls (last_of s x) fit there w c names last past now a met = tt
    expr_calls (one s o d) fit there w c names last past now a met = (let u = first_in d (one s o d) there w c c names last past now a met refl in expr_calls d fit there (below First w) c names last (parts First past) (part First now) u.0 u.1)
    expr_calls (two s o d f) fit there w c names last past now a met =
        each_append Called (calls d (below First w)) (calls f (below Second w))
        (let u = first_in d (two s o d f) there w c c names last past now a met refl in expr_calls d fit.0 there (below First w) c names last (parts First past) (part First now) u.0 u.1)
        (let u = second_in f (two s o d f) there w c c names last past now a met refl in expr_calls f fit.1 there (below Second w) c names last (parts Second past) (part Second now) u.0 u.1)
    expr_calls (choose s d f h) fit there w c names last past now a met =
        let X = expr types real N (choose s d f h) c names last (given past nothing) now in
        let Y = expr types real N h c names last (given (parts Third past) nothing) (part Third now) in
        let u = into Third there w past now X Y a met refl (expr_fresh h c names last (given (parts Third past) nothing) (part Third now)) in
        each_append Called (calls d (below First w)) (calls f (below Second w) ++ calls h (below Third w))
        (let u = first_in d (choose s d f h) there w c c names last past now a met refl in expr_calls d fit.0 there (below First w) c names last (parts First past) (part First now) u.0 u.1)
        (each_append Called (calls f (below Second w)) (calls h (below Third w))
        (let u = second_in f (choose s d f h) there w c c names last past now a met refl in expr_calls f fit.1 there (below Second w) c names last (parts Second past) (part Second now) u.0 u.1)
        (expr_calls h fit.2 there (below Third w) c names last (parts Third past) (part Third now) u.0 u.1))
    expr_calls (pre s d) fit there w c names last past now a met = (let u = first_in d (pre s d) there w c c names last past now a met refl in expr_calls d fit there (below First w) c names last (parts First past) (part First now) u.0 u.1)
    expr_calls (fby s d f) fit there w c names last past now a met =
        each_append Called (calls d (below First w)) (calls f (below Second w))
        (let u = first_in d (fby s d f) there w c c names last past now a met refl in expr_calls d fit.0 there (below First w) c names last (parts First past) (part First now) u.0 u.1)
        (let u = second_in f (fby s d f) there w c c names last past now a met refl in expr_calls f fit.1 there (below Second w) c names last (parts Second past) (part Second now) u.0 u.1)
    expr_calls (arrow s d f) fit there w c names last past now a met =
        each_append Called (calls d (below First w)) (calls f (below Second w))
        (let u = first_in d (arrow s d f) there w c c names last past now a met refl in expr_calls d fit.0 there (below First w) c names last (parts First past) (part First now) u.0 u.1)
        (let u = second_in f (arrow s d f) there w c c names last past now a met refl in expr_calls f fit.1 there (below Second w) c names last (parts Second past) (part Second now) u.0 u.1)
    expr_calls (when_is s d k x) fit there w c names last past now a met = (let u = first_in d (when_is s d k x) there w c (without c) names last past now a met refl in expr_calls d fit there (below First w) (without c) names last (parts First past) (part First now) u.0 u.1)
    expr_calls (merge s x ps) fit there w c names last past now a met =
        let X = expr types real N (merge s x ps) c names last (given past nothing) now in
        let is = merged types real N ps x c names last (given (parts Args past) nothing) (part Args now) in
        let u = into Args there w past now X (in_row is) a met refl (row_fresh is) in
        parts_calls ps fit there (below Args w) x c names last (parts Args past) (part Args now) u.0 u.1
    expr_calls (call s f inlined es) fit there w c names last past now a met =
        let X = expr types real N (call s f inlined es) c names last (given past nothing) now in
        let is = exprs types real N es c names last (given (parts Args past) nothing) (part Args now) in
        let u = into Args there w past now X (in_row is) a met refl (row_fresh is) in (
          (λ e. instance_holds there (holds types c names) w past now s f (map top is) (as_given f es is (many es c names last (given (parts Args past) nothing) (part Args now)) fit.0) a (lower there now X Instance met)),
          exprs_calls es fit.2 there (below Args w) c names last (parts Args past) (part Args now) u.0 u.1,
        )

    exprs_calls : (es : Exprs) → CallsInAllFit told es → (there : Bool) (w : Whereabouts) (c : Clock) (names last : Names) (past : Past) (now : Instant) → At there w past now → Met now (if there then in_row (exprs types real N es c names last (given past nothing) now) else nothing) → EachCall Called (calls_in_all es w)
    exprs_calls no_expr fit there w c names last past now a met = tt
    exprs_calls (more_exprs d es) fit there w c names last past now a met =
        let X = in_row (exprs types real N (more_exprs d es) c names last (given past nothing) now) in
        let Y = expr types real N d c names last (given (parts Head past) nothing) (part Head now) in
        let is = exprs types real N es c names last (given (parts Tail past) nothing) (part Tail now) in
        let u = into Head there w past now X Y a met refl (expr_fresh d c names last (given (parts Head past) nothing) (part Head now)) in
        let v = into Tail there w past now X (in_row is) a met refl (row_fresh is) in
        each_append Called (calls d (below Head w)) (calls_in_all es (below Tail w))
        (expr_calls d fit.0 there (below Head w) c names last (parts Head past) (part Head now) u.0 u.1)
        (exprs_calls es fit.1 there (below Tail w) c names last (parts Tail past) (part Tail now) v.0 v.1)

    parts_calls : (ps : Parts) → CallsInPartsFit told ps → (there : Bool) (w : Whereabouts) (x : List ℕ) (c : Clock) (names last : Names) (past : Past) (now : Instant) → At there w past now → Met now (if there then in_row (merged types real N ps x c names last (given past nothing) now) else nothing) → EachCall Called (calls_in_parts ps w)
    parts_calls no_part fit there w x c names last past now a met = tt
    parts_calls (more_parts k d ps) fit there w x c names last past now a met =
        let X = in_row (merged types real N (more_parts k d ps) x c names last (given past nothing) now) in
        let Y = expr types real N d ((k, x) ∷ c) names last (given (parts Head past) nothing) (part Head now) in
        let is = merged types real N ps x c names last (given (parts Tail past) nothing) (part Tail now) in
        let u = into Head there w past now X Y a met refl (expr_fresh d ((k, x) ∷ c) names last (given (parts Head past) nothing) (part Head now)) in
        let v = into Tail there w past now X (in_row is) a met refl (row_fresh is) in
        each_append Called (calls d (below Head w)) (calls_in_parts ps (below Tail w))
        (expr_calls d fit.0 there (below Head w) ((k, x) ∷ c) names last (parts Head past) (part Head now) u.0 u.1)
        (parts_calls ps fit.1 there (below Tail w) x c names last (parts Tail past) (part Tail now) v.0 v.1)

  -- the right side of a definition
  right_calls : (ys : List (List ℕ × Span)) (e : Expr) → RightFits told e ys → (there : Bool) (w : Whereabouts) (c : Clock) (names last : Names) (past : Past) (now : Instant) → At there w past now → Met now (if there then expr types real N e c names last (given past nothing) now else nothing) → EachCall Called (calls e w)
  right_calls ys (constant s k) fit there w c names last past now a met = expr_calls (constant s k) fit there w c names last past now a met
  right_calls ys (variable s x) fit there w c names last past now a met = expr_calls (variable s x) fit there w c names last past now a met
  right_calls ys (last_of s x) fit there w c names last past now a met = expr_calls (last_of s x) fit there w c names last past now a met
  right_calls ys (one s o d) fit there w c names last past now a met = expr_calls (one s o d) fit there w c names last past now a met
  right_calls ys (two s o d f) fit there w c names last past now a met = expr_calls (two s o d f) fit there w c names last past now a met
  right_calls ys (choose s d f h) fit there w c names last past now a met = expr_calls (choose s d f h) fit there w c names last past now a met
  right_calls ys (pre s d) fit there w c names last past now a met = expr_calls (pre s d) fit there w c names last past now a met
  right_calls ys (fby s d f) fit there w c names last past now a met = expr_calls (fby s d f) fit there w c names last past now a met
  right_calls ys (arrow s d f) fit there w c names last past now a met = expr_calls (arrow s d f) fit there w c names last past now a met
  right_calls ys (when_is s d k x) fit there w c names last past now a met = expr_calls (when_is s d k x) fit there w c names last past now a met
  right_calls ys (merge s x ps) fit there w c names last past now a met = expr_calls (merge s x ps) fit there w c names last past now a met
  right_calls ys (call s f inlined es) fit there w c names last past now a met =
      let X = expr types real N (call s f inlined es) c names last (given past nothing) now in
      let is = exprs types real N es c names last (given (parts Args past) nothing) (part Args now) in
      let u = into Args there w past now X (in_row is) a met refl (row_fresh is) in (
        (λ e. instance_holds there (holds types c names) w past now s f (map top is) (as_given f es is (many es c names last (given (parts Args past) nothing) (part Args now)) fit.0) a (lower there now X Instance met)),
        exprs_calls es fit.2 there (below Args w) c names last (parts Args past) (part Args now) u.0 u.1,
      )

  conditions_calls : (ts : List Trans) → ConditionsFit told ts → (there : Bool) (w : Whereabouts) (names last : Names) (past : Past) (now : Instant) → At there w past now → Met now (if there then in_row (conditions types real N ts names last (given past nothing) now) else nothing) → EachCall Called (points_of_conditions ts w)
  conditions_calls [] fit there w names last past now a met = tt
  conditions_calls (t ∷ ts) fit there w names last past now a met =
      let X = in_row (conditions types real N (t ∷ ts) names last (given past nothing) now) in
      let Y = expr types real N t.cond [] names last (given (parts Head past) nothing) (part Head now) in
      let is = conditions types real N ts names last (given (parts Tail past) nothing) (part Tail now) in
      let u = into Head there w past now X Y a met refl (expr_fresh t.cond [] names last (given (parts Head past) nothing) (part Head now)) in
      let v = into Tail there w past now X (in_row is) a met refl (row_fresh is) in (
        (λ e. no_call_true e),
        each_append Called (calls t.cond (below Head w)) (points_of_conditions ts (below Tail w))
            (expr_calls t.cond fit.0 there (below Head w) [] names last (parts Head past) (part Head now) u.0 u.1)
            (conditions_calls ts fit.1 there (below Tail w) names last (parts Tail past) (part Tail now) v.0 v.1),
      )

  -- ---- blocks

  mutual
    block_calls : (b : Block) → BlockFits told b → (declared : List (List ℕ)) (there : Bool) (w : Whereabouts) (fresh : Bool) (names last : Names) (past : Past) (now : Instant) → At there w past now → Met now (if there then scope types real N b fresh names last (given past nothing) now else nothing) → EachCall Called (points_of declared b w)
    block_calls (block ds es) fit declared there w fresh names last past now a met =
        let inner = inside es names now in
        let last' = lasts (constant_of types) ds past last in
        let X = scope types real N (block ds es) fresh names last (given past nothing) now in
        let Y = equations types real N ds es inner last' (given (parts Equations past) nothing) (part Equations now) in
        let u = into Equations there w past now X Y a met refl (equations_fresh ds es inner last' (given (parts Equations past) nothing) (part Equations now)) in
        equations_calls ds es fit (declared ++ names_of ds) (λ x. w (Named x ∷ [])) there (below Equations w) inner last' (parts Equations past) (part Equations now) u.0 u.1

    equations_calls : (ds : List Decl) (es : Eqns) → EqnsFit told es → (declared : List (List ℕ)) (named : List ℕ → Place) (there : Bool) (w : Whereabouts) (names last : Names) (past : Past) (now : Instant) → At there w past now → Met now (if there then equations types real N ds es names last (given past nothing) now else nothing) → EachCall Called (points_of_all declared named es w)
    equations_calls ds no_eqn fit declared named there w names last past now a met = tt
    equations_calls ds (more_eqns d es) fit declared named there w names last past now a met =
        let X = equations types real N ds (more_eqns d es) names last (given past nothing) now in
        let Y = equation types real N ds d names last (given (parts Head past) nothing) (part Head now) in
        let Z = equations types real N ds es names last (given (parts Tail past) nothing) (part Tail now) in
        let u = into Head there w past now X Y a met refl (equation_fresh ds d names last (given (parts Head past) nothing) (part Head now)) in
        let v = into Tail there w past now X Z a met refl (equations_fresh ds es names last (given (parts Tail past) nothing) (part Tail now)) in
        each_append Called (points_of_one declared named d (below Head w)) (points_of_all declared named es (below Tail w))
        (equation_calls ds d fit.0 declared named there (below Head w) names last (parts Head past) (part Head now) u.0 u.1)
        (equations_calls ds es fit.2 declared named there (below Tail w) names last (parts Tail past) (part Tail now) v.0 v.1)

    equation_calls : (ds : List Decl) (e : Eqn) → EqnFits told e → (declared : List (List ℕ)) (named : List ℕ → Place) (there : Bool) (w : Whereabouts) (names last : Names) (past : Past) (now : Instant) → At there w past now → Met now (if there then equation types real N ds e names last (given past nothing) now else nothing) → EachCall Called (points_of_one declared named e w)
    equation_calls ds (define s ys d) fit declared named there w names last past now a met =
        let c = clock_of ds ys d in
        let X = equation types real N ds (define s ys d) names last (given past nothing) now in
        let Y = expr types real N d c names last (given (parts Right past) nothing) (part Right now) in
        let u = into Right there w past now X Y a met refl (expr_fresh d c names last (given (parts Right past) nothing) (part Right now)) in
        each_append Called (lefts ys named) (calls d (below Right w)) (each_left Called ys named)
        (right_calls ys d fit there (below Right w) c names last (parts Right past) (part Right now) u.0 u.1)
    equation_calls ds (switch s d arms) fit declared named there w names last past now a met =
        let out = within (switch s d arms) names last in
        let X = equation types real N ds (switch s d arms) names last (given past nothing) now in
        let Y = expr types real N d [] names last (given (parts Test past) nothing) (part Test now) in
        let Z = arm types real N arms (top Y) out last (given (parts ArmsOf past) nothing) (part ArmsOf now) in
        let u = into Test there w past now X Y a met refl (expr_fresh d [] names last (given (parts Test past) nothing) (part Test now)) in
        let v = into ArmsOf there w past now X Z a met refl (arms_fresh arms (top Y) out last (given (parts ArmsOf past) nothing) (part ArmsOf now)) in
        each_append Called (defined_by (switch s d arms) s declared named) (calls d (below Test w) ++ points_of_arms declared arms (below ArmsOf w))
        (each_def Called (filter (defines (switch s d arms)) declared) s named)
        (each_append Called (calls d (below Test w)) (points_of_arms declared arms (below ArmsOf w))
        (expr_calls d fit.0 there (below Test w) [] names last (parts Test past) (part Test now) u.0 u.1)
        (arms_calls arms fit.1 (top Y) declared there (below ArmsOf w) out last (parts ArmsOf past) (part ArmsOf now) v.0 v.1))
    equation_calls ds (reset s b d) fit declared named there w names last past now a met =
        let out = within (reset s b d) names last in
        let X = equation types real N ds (reset s b d) names last (given past nothing) now in
        let Y = expr types real N d [] names last (given (parts Test past) nothing) (part Test now) in
        let fresh = is_true (top Y) in
        let q = if fresh then [] else own (parts Body past) in
        let u = into Test there w past now X Y a met refl (expr_fresh d [] names last (given (parts Test past) nothing) (part Test now)) in
        let m = lower there now X Body met in
        each_append Called (defined_by (reset s b d) s declared named) (points_of declared b (below Body w) ++ calls d (below Test w))
        (each_def Called (filter (defines (reset s b d)) declared) s named)
        (each_append Called (points_of declared b (below Body w)) (calls d (below Test w))
        (block_calls b fit.0 declared there (below Body w) fresh out last q (part Body now) (into_block Body there w past now b fresh out last a m) m)
        (expr_calls d fit.1 there (below Test w) [] names last (parts Test past) (part Test now) u.0 u.1))
    equation_calls ds (automaton s ss) fit declared named there w names last past now a met =
        let out = within (automaton s ss) names last in
        let X = equation types real N ds (automaton s ss) names last (given past nothing) now in
        let j = strong types real N ss ss 0 (selected past) names last (given (parts StatesOf past) nothing) (part StatesOf now) in
        let Y = states types real N ss 0 j names out last (given (parts StatesOf past) nothing) (part StatesOf now) in
        let u = into StatesOf there w past now X Y a met refl (states_fresh ss 0 j names out last (given (parts StatesOf past) nothing) (part StatesOf now)) in (
          (λ e. no_call_true e),
          (
            (λ e. no_call_true e),
            each_append Called (defined_by (automaton s ss) s declared named) (points_of_states declared ss (below StatesOf w))
                (each_def Called (filter (defines (automaton s ss)) declared) s named)
                (states_calls ss fit 0 j declared there (below StatesOf w) names out last (parts StatesOf past) (part StatesOf now) u.0 u.1),
          ),
        )

    arms_calls : (arms : Arms) → ArmsFit told arms → (v : Value) (declared : List (List ℕ)) (there : Bool) (w : Whereabouts) (names last : Names) (past : Past) (now : Instant) → At there w past now → Met now (if there then arm types real N arms v names last (given past nothing) now else nothing) → EachCall Called (points_of_arms declared arms w)
    arms_calls no_arm fit v declared there w names last past now a met = tt
    arms_calls (more_arms c b s arms) fit v declared there w names last past now a met =
        let d = is_cons types v c in
        let X = arm types real N (more_arms c b s arms) v names last (given past nothing) now in
        let Y = arm types real N arms v names last (given (parts Tail past) nothing) (part Tail now) in
        let S = scope types real N b false names last (given (own (parts Head past)) nothing) (part Head now) in
        let m = both_there there d (part Head now) S (lower there now X Head met) in
        let u = into Tail there w past now X Y a met refl (arms_fresh arms v names last (given (parts Tail past) nothing) (part Tail now)) in
        each_append Called (points_of declared b (below Head w)) (points_of_arms declared arms (below Tail w))
        (block_calls b fit.0 declared (there && d) (below Head w) false names last (own (parts Head past)) (part Head now) (into_block Head (there && d) w past now b false names last (weaker there d w past now a) m) m)
        (arms_calls arms fit.1 v declared there (below Tail w) names last (parts Tail past) (part Tail now) u.0 u.1)

    states_calls : (ss : States) → StatesFit told ss → (k : ℕ) (j : Jump) (declared : List (List ℕ)) (there : Bool) (w : Whereabouts) (out names last : Names) (past : Past) (now : Instant) → At there w past now → Met now (if there then states types real N ss k j out names last (given past nothing) now else nothing) → EachCall Called (points_of_states declared ss w)
    states_calls no_state fit k j declared there w out names last past now a met = tt
    states_calls (more_states f b until unless s ss) fit k j declared there w out names last past now a met =
        let d = nat_eq k j.state in
        let here = part Head now in
        let w' = below Head w in
        let q = parts Head past in
        let X = states types real N (more_states f b until unless s ss) k j out names last (given past nothing) now in
        let S = scope types real N b j.restart names last (given (if j.restart then [] else own (parts Body q)) nothing) (part Body here) in
        let Y = weak_in types real N b until j names last (given q nothing) here in
        let Z = conditions types real N unless out last (given (parts Unless q) nothing) (part Unless here) in
        let V = states types real N ss (suc k) j out names last (given (parts Tail past) nothing) (part Tail now) in
        let head = into Head there w past now X (part Head X) a met refl refl in
        let inner = weaker there d w' q here head.0 in
        let m = both_there there d (part Body here) S (lower there here (part Head X) Body head.1) in
        let n = both_there there d (part Until here) (in_row Y) (lower there here (part Head X) Until head.1) in
        let until_at = plain_step Until (there && d) w' q here inner (row_absent (there && d) here Until Y n) in
        let u = into Unless there w' q here (part Head X) (in_row Z) head.0 head.1 refl (row_fresh Z) in
        let v = into Tail there w past now X V a met refl (states_fresh ss (suc k) j out names last (given (parts Tail past) nothing) (part Tail now)) in
        let inner_last = last_in types real N b (if j.restart then [] else own (parts Body q)) last in
        each_append Called (points_of declared b (below Body w')) (points_of_conditions until (below Until w') ++ (points_of_conditions unless (below Unless w') ++ points_of_states declared ss (below Tail w)))
        (block_calls b fit.0 declared (there && d) (below Body w') j.restart names last (if j.restart then [] else own (parts Body q)) (part Body here) (into_block Body (there && d) w' q here b j.restart names last inner m) m)
        (each_append Called (points_of_conditions until (below Until w')) (points_of_conditions unless (below Unless w') ++ points_of_states declared ss (below Tail w))
        (conditions_calls until fit.1 (there && d) (below Until w') (read_in types real N b names (part Body here)) inner_last (parts Until q) (part Until here) until_at n)
        (each_append Called (points_of_conditions unless (below Unless w')) (points_of_states declared ss (below Tail w))
        (conditions_calls unless fit.2 there (below Unless w') out last (parts Unless q) (part Unless here) u.0 u.1)
        (states_calls ss fit.3 (suc k) j declared there (below Tail w) out names last (parts Tail past) (part Tail now) v.0 v.1)))

-- ---- a node

abbrev absent : Names
absent x = Absent

module _ (told : Told) (types : List TypeDecl) (N : Nodes) (word : (f : List ℕ) (vs : List Value) (g : Given) (now : Instant) → Word (N.instant f vs g now)) (n : Node) (fit : BlockFits told n.body) (called_nothing : filter (λ c. is_call c.point.kind) (points_of_contract n.contract (λ p. p)) ≡ [])
    (vs : List Value) (past : Past) (chosen now : Instant) (met : Met now (node types real N n vs (given past (steered_by nothing chosen)) now)) where
  abbrev CalledNow : Placed → Type 0
  CalledNow = Called told types N word past now

  pub all_called : All CalledNow (calls_of n)
  all_called =
      let cs = controls_of n.contract in
      let free = steered_by nothing chosen in
      let names = input_of cs (given_to types real N cs (part Controls free)) (input_of n.inputs vs absent) in
      let last = lasts (constant_of types) n.outputs past absent in
      let top : At told types N word past now true (λ p. p) past now = record { way = λ p. refl; seen = λ p. refl; read = λ t. refl } in
      let m = λ (p : Place). met (Body ∷ p) in
      let at_body = into_block told types N word past now Body true (λ p. p) past now n.body false names last top m in
      each_all CalledNow (points n)
      (each_append CalledNow (controls cs (λ p. Controls ∷ p)) (points_of_contract n.contract (λ p. p) ++ points_of (names_of n.outputs) n.body (λ p. Body ∷ p)) (each_control CalledNow cs (λ p. Controls ∷ p))
      (each_append CalledNow (points_of_contract n.contract (λ p. p)) (points_of (names_of n.outputs) n.body (λ p. Body ∷ p)) (each_of_none CalledNow (points_of_contract n.contract (λ p. p)) called_nothing)
      (block_calls told types N word past now n.body fit (names_of n.outputs) true (λ p. Body ∷ p) false names last (own (parts Body past)) (part Body now) at_body m)))
