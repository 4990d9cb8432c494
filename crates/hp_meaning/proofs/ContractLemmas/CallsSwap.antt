-- What is known of each call of a node by its place is known at the call: two readings of calls that agree there agree on the node.
use Rattle.std.proofs.Common.{◌≡◌, ℕ, suc, List, [], ◌∷◌, map, refl, sym, ap, ap₂, ◌∙◌}
use Rattle.std.proofs.Math.Path.{fun_ext}
use Rattle.std.proofs.lemmas.List.{append_assoc}
use Rattle.std.specs.Prelude.{Bool, false, if◌then◌else◌, nat_eq, Option, None, Some, ◌++◌}
use Rattle.hp_base.specs.declared.span.Span.{Span}
use Rattle.hp_base.specs.declared.value.Value.{Value}
use Rattle.hp_base.specs.declared.value.Value.TheVariants.{Absent, Nil, B}
use Rattle.hp_tree.specs.declared.block.Trans.{Trans}
use Rattle.hp_tree.specs.Expressions.{Expr, constant, variable, last_of, one, two, choose, pre, fby, arrow, when_is, merge, call, Exprs, no_expr, more_exprs, Parts, no_part, more_parts}
use Rattle.hp_tree.specs.Blocks.{Decl, Block, block, Eqns, no_eqn, more_eqns, Eqn, define, switch, reset, automaton, Arms, no_arm, more_arms, States, no_state, more_states}
use Rattle.hp_tree.specs.Programs.{TypeDecl, Contract, Node}
use Rattle.hp_tree.specs.Operators.{Reading, is_cons, is_true, if_of, constant_of}
use Rattle.hp_tree.specs.Instant.{Step, Controls, Body, Observer, Assume, Enforce, in_observer, in_node, Named, Fresh, Equations, Head, Tail, Right, Test, Arms as ArmsOf, States as StatesOf, Until, Unless, First, Second, Third, Args, Instance, Place, Instant, Past, Given, at, part, parts, top, since, own, newest, at_first, nothing, with_one, with_two, with_three, in_row, with_row, with_instance, of_two, in_block, in_right, with_arms, with_body, in_state, with_words, Clock, holds, without}
use Rattle.hp_tree.specs.Meaning.{Names, Nodes, declares, input_of, controls_of, given_to, observer, node, defines, some_defines, inside, within, lasts, clock_of, names_of, Jump, state_word, selected, first_true, from_state, only_output, expr, exprs, merged, conditions, strong, read_in, last_in, weak_in, weak, from_arm, right, gives, defined, scope, equations, equation, arm, states}
use Rattle.hp_meaning.specs.Causal.Sources.{below}
use Rattle.hp_meaning.specs.declared.causal.point.PointKind.TheVariants as kind
use Rattle.hp_meaning.specs.Causal.Points.{Placed, Whereabouts, calls, calls_in_all, calls_in_parts, conditions as calls_in_conditions, lefts, defined_by, points_of, points_of_all, points_of_one, points_of_arms, points_of_states, point_at, calls_told, points_of_contract, controls, points}
use Rattle.hp_meaning.proofs.CausalLemmas.Fix.{Fixed}
use Rattle.hp_meaning.proofs.CausalLemmas.Choices.{chosen}
use Rattle.hp_meaning.proofs.CausalLemmas.Swap.{Instances, with_instances, given, if_swap, if_first}
use Rattle.hp_meaning.specs.Contract.ChosenRuns.{cut_by, own_past}
use Rattle.hp_meaning.proofs.ContractLemmas.Instances.{EachCall, own_past_append, cut_by_fresh}

pub first_each : (Q : Placed → Type 0) (xs ys : List Placed) → EachCall Q (xs ++ ys) → EachCall Q xs
first_each Q [] ys h = tt
first_each Q (x ∷ xs) ys h = (h.0, first_each Q xs ys h.1)

pub rest_each : (Q : Placed → Type 0) (xs ys : List Placed) → EachCall Q (xs ++ ys) → EachCall Q ys
rest_each Q [] ys h = h
rest_each Q (x ∷ xs) ys h = rest_each Q xs ys h.1

abbrev told : (types : List TypeDecl) (R : Reading) (L : Nodes) → Option Expr → Names → Names → Given → Instant → Instant
told types R L None names last g now = nothing
told types R L (Some e) names last g now = expr types R L e [] names last g now

row_fresh : (is : List Instant) → in_row is (Fresh ∷ []) ≡ Absent
row_fresh [] = refl
row_fresh (i ∷ is) = refl

module _ (types : List TypeDecl) (R : Reading) (outputs : List ℕ → List (List ℕ)) (n m : Instances) (P : Placed → Type 0) (root_past : Past) (root : Instant) where
  abbrev N : Nodes
  N = with_instances outputs n

  abbrev M : Nodes
  M = with_instances outputs m

  abbrev on : Clock → Names → Value → Value
  on clock names v = if holds types clock names then v else Absent

  -- where a part that is there is, and with which past it is read
  pub record Read (w : Whereabouts) (past : Past) (now : Instant) : Type 0 where
    pub way : (p : Place) → w p ≡ w [] ++ p
    pub seen : (p : Place) → now p ≡ root (w p)
    pub read : own_past (w []) root_past root ≡ past

  read_step : (s : Step) (w : Whereabouts) (past below_past : Past) (now : Instant) → Read w past now → cut_by (now (s ∷ Fresh ∷ [])) (parts s past) ≡ below_past → Read (below s w) below_past (part s now)
  read_step s w past below_past now a cut =
      record {
        way = λ p. a.way (s ∷ p) ∙ sym (ap (λ x. x ++ p) (a.way (s ∷ [])) ∙ append_assoc (w []) (s ∷ []) p);
        seen = λ p. a.seen (s ∷ p);
        read = ap (λ p. own_past p root_past root) (a.way (s ∷ []))
            ∙ own_past_append (w []) (s ∷ []) root_past root
            ∙ ap₂ (λ v q. cut_by v (parts s q)) (sym (a.seen (s ∷ Fresh ∷ []) ∙ ap root (a.way (s ∷ Fresh ∷ [])))) a.read
            ∙ cut;
      }

  -- a part that is no block, and a block
  plain : (s : Step) (w : Whereabouts) (past : Past) (now : Instant) → Read w past now → now (s ∷ Fresh ∷ []) ≡ Absent → Read (below s w) (parts s past) (part s now)
  plain s w past now a e = read_step s w past (parts s past) now a (ap (λ v. cut_by v (parts s past)) e)

  pub anew : (s : Step) (fresh : Bool) (w : Whereabouts) (past : Past) (now : Instant) → Read w past now → now (s ∷ Fresh ∷ []) ≡ B fresh → Read (below s w) (if fresh then [] else own (parts s past)) (part s now)
  anew s fresh w past now a e = read_step s w past (if fresh then [] else own (parts s past)) now a (ap (λ v. cut_by v (parts s past)) e ∙ cut_by_fresh fresh (parts s past))

  -- ---- What is no block has no word whether it begins anew.

  expr_fresh : (e : Expr) (c : Clock) (names last : Names) (g : Given) (now : Instant) → expr types R N e c names last g now (Fresh ∷ []) ≡ Absent
  expr_fresh (constant s k) c names last g now = refl
  expr_fresh (variable s x) c names last g now = refl
  expr_fresh (last_of s x) c names last g now = refl
  expr_fresh (one s o a) c names last g now = refl
  expr_fresh (two s o a b) c names last g now = refl
  expr_fresh (choose s a b d) c names last g now = refl
  expr_fresh (pre s a) c names last g now = refl
  expr_fresh (fby s a b) c names last g now = refl
  expr_fresh (arrow s a b) c names last g now = refl
  expr_fresh (when_is s a k x) c names last g now = refl
  expr_fresh (merge s x ps) c names last g now = refl
  expr_fresh (call s f inlined es) c names last g now = refl

  equation_fresh : (ds : List Decl) (e : Eqn) (names last : Names) (g : Given) (now : Instant) → equation types R N ds e names last g now (Fresh ∷ []) ≡ Absent
  equation_fresh ds (define s ys a) names last g now = refl
  equation_fresh ds (switch s a arms) names last g now = refl
  equation_fresh ds (reset s b a) names last g now = refl
  equation_fresh ds (automaton s ss) names last g now = refl

  equations_fresh : (ds : List Decl) (es : Eqns) (names last : Names) (g : Given) (now : Instant) → equations types R N ds es names last g now (Fresh ∷ []) ≡ Absent
  equations_fresh ds no_eqn names last g now = refl
  equations_fresh ds (more_eqns a es) names last g now = refl

  arms_fresh : (arms : Arms) (v : Value) (names last : Names) (g : Given) (now : Instant) → arm types R N arms v names last g now (Fresh ∷ []) ≡ Absent
  arms_fresh no_arm v names last g now = refl
  arms_fresh (more_arms c b s arms) v names last g now = refl

  states_fresh : (ss : States) (k : ℕ) (j : Jump) (out names last : Names) (g : Given) (now : Instant) → states types R N ss k j out names last g now (Fresh ∷ []) ≡ Absent
  states_fresh no_state k j out names last g now = refl
  states_fresh (more_states f b until unless s ss) k j out names last g now = refl

  pub block_fresh : (b : Block) (fresh : Bool) (names last : Names) (g : Given) (now : Instant) → scope types R N b fresh names last g now (Fresh ∷ []) ≡ B fresh
  block_fresh (block ds es) fresh names last g now = refl

  -- ---- The two readings agree at a call that is known, and so on what holds calls.

  abbrev pub AgreeAt : Type 0
  AgreeAt =
      (f : List ℕ) (s : Span) (w : Whereabouts) (past : Past) (free now : Instant) (vs : List Value) → P (point_at kind.Call f s (w [])) → Read w past now
      → Fixed (n f vs (given (own (parts Instance past)) (part Instance free))) (part Instance now)
      → (p : Place) → n f vs (given (own (parts Instance past)) (part Instance free)) (part Instance now) p ≡ m f vs (given (own (parts Instance past)) (part Instance free)) (part Instance now) p

  module _ (agree : AgreeAt) where
    mutual
      expr_known : (e : Expr) (clock : Clock) (names last : Names) (past : Past) (free now : Instant) (w : Whereabouts) → Read w past now → EachCall P (calls e w) → Fixed (expr types R N e clock names last (given past free)) now → expr types R N e clock names last (given past free) now ≡ expr types R M e clock names last (given past free) now
      expr_known (constant s c) clock names last past free now w r k h = refl
      expr_known (variable s x) clock names last past free now w r k h = refl
      expr_known (last_of s x) clock names last past free now w r k h = refl
      expr_known (one s o a) clock names last past free now w r k h =
          let t = expr_known a clock names last (parts First past) (part First free) (part First now) (below First w) (plain First w past now r (h (First ∷ Fresh ∷ []) ∙ expr_fresh a clock names last (at First (given past free)) (part First now))) k (λ p. h (First ∷ p)) in
          λ d. with_one (R.one o (top (t d))) (t d)
      expr_known (two s o a b) clock names last past free now w r k h =
          let t = expr_known a clock names last (parts First past) (part First free) (part First now) (below First w) (plain First w past now r (h (First ∷ Fresh ∷ []) ∙ expr_fresh a clock names last (at First (given past free)) (part First now))) (first_each P (calls a (below First w)) (calls b (below Second w)) k) (λ p. h (First ∷ p)) in
          let u = expr_known b clock names last (parts Second past) (part Second free) (part Second now) (below Second w) (plain Second w past now r (h (Second ∷ Fresh ∷ []) ∙ expr_fresh b clock names last (at Second (given past free)) (part Second now))) (rest_each P (calls a (below First w)) (calls b (below Second w)) k) (λ p. h (Second ∷ p)) in
          λ d. with_two (R.two o (top free) (top (t d)) (top (u d))) (t d) (u d)
      expr_known (choose s a b c) clock names last past free now w r k h =
          let k' = (rest_each P (calls a (below First w)) (calls b (below Second w) ++ calls c (below Third w)) k) in
          let t = expr_known a clock names last (parts First past) (part First free) (part First now) (below First w) (plain First w past now r (h (First ∷ Fresh ∷ []) ∙ expr_fresh a clock names last (at First (given past free)) (part First now))) (first_each P (calls a (below First w)) (calls b (below Second w) ++ calls c (below Third w)) k) (λ p. h (First ∷ p)) in
          let u = expr_known b clock names last (parts Second past) (part Second free) (part Second now) (below Second w) (plain Second w past now r (h (Second ∷ Fresh ∷ []) ∙ expr_fresh b clock names last (at Second (given past free)) (part Second now))) (first_each P (calls b (below Second w)) (calls c (below Third w)) k') (λ p. h (Second ∷ p)) in
          let x = expr_known c clock names last (parts Third past) (part Third free) (part Third now) (below Third w) (plain Third w past now r (h (Third ∷ Fresh ∷ []) ∙ expr_fresh c clock names last (at Third (given past free)) (part Third now))) (rest_each P (calls b (below Second w)) (calls c (below Third w)) k') (λ p. h (Third ∷ p)) in
          λ d. with_three (if_of (top (t d)) (top (u d)) (top (x d))) (t d) (u d) (x d)
      expr_known (pre s a) clock names last past free now w r k h =
          ap (with_one (on clock names (newest (R.undefined (top free)) (parts First past))))
          (expr_known a clock names last (parts First past) (part First free) (part First now) (below First w) (plain First w past now r (h (First ∷ Fresh ∷ []) ∙ expr_fresh a clock names last (at First (given past free)) (part First now))) k (λ p. h (First ∷ p)))
      expr_known (fby s a b) clock names last past free now w r k h =
          let t = expr_known a clock names last (parts First past) (part First free) (part First now) (below First w) (plain First w past now r (h (First ∷ Fresh ∷ []) ∙ expr_fresh a clock names last (at First (given past free)) (part First now))) (first_each P (calls a (below First w)) (calls b (below Second w)) k) (λ p. h (First ∷ p)) in
          let u = expr_known b clock names last (parts Second past) (part Second free) (part Second now) (below Second w) (plain Second w past now r (h (Second ∷ Fresh ∷ []) ∙ expr_fresh b clock names last (at Second (given past free)) (part Second now))) (rest_each P (calls a (below First w)) (calls b (below Second w)) k) (λ p. h (Second ∷ p)) in
          λ d. with_two (on clock names (at_first (parts First past) (top (t d)) (newest Nil (parts Second past)))) (t d) (u d)
      expr_known (arrow s a b) clock names last past free now w r k h =
          let t = expr_known a clock names last (parts First past) (part First free) (part First now) (below First w) (plain First w past now r (h (First ∷ Fresh ∷ []) ∙ expr_fresh a clock names last (at First (given past free)) (part First now))) (first_each P (calls a (below First w)) (calls b (below Second w)) k) (λ p. h (First ∷ p)) in
          let u = expr_known b clock names last (parts Second past) (part Second free) (part Second now) (below Second w) (plain Second w past now r (h (Second ∷ Fresh ∷ []) ∙ expr_fresh b clock names last (at Second (given past free)) (part Second now))) (rest_each P (calls a (below First w)) (calls b (below Second w)) k) (λ p. h (Second ∷ p)) in
          λ d. with_two (at_first (parts First past) (top (t d)) (top (u d))) (t d) (u d)
      expr_known (when_is s a c x) clock names last past free now w r k h =
          let t = expr_known a (without clock) names last (parts First past) (part First free) (part First now) (below First w) (plain First w past now r (h (First ∷ Fresh ∷ []) ∙ expr_fresh a (without clock) names last (at First (given past free)) (part First now))) k (λ p. h (First ∷ p)) in
          λ d. with_one (if is_cons types (names x) c then top (t d) else Absent) (t d)
      expr_known (merge s x ps) clock names last past free now w r k h =
          ap (λ is. with_row (chosen types ps (names x) is) is) (parts_known ps x clock names last (parts Args past) (part Args free) (part Args now) (below Args w) (plain Args w past now r (h (Args ∷ Fresh ∷ []) ∙ row_fresh (merged types R N ps x clock names last (at Args (given past free)) (part Args now)))) k (λ p. h (Args ∷ p)))
      expr_known (call s f inlined es) clock names last past free now w r k h =
          let is = exprs types R N es clock names last (at Args (given past free)) (part Args now) in
          let c = holds types clock names in
          ap (λ t. with_instance (only_output (outputs f) t) is t)
          (if_swap c _ _ (part Instance now) (λ met. fun_ext (agree f s w past free now (map top is) (k.0 refl) r met)) (λ p. h (Instance ∷ p)))
          ∙ ap (λ ts. let i = if c then m f (map top ts) (since false (at Instance (given past free))) (part Instance now) else nothing in with_instance (only_output (outputs f) i) ts i)
          (exprs_known es clock names last (parts Args past) (part Args free) (part Args now) (below Args w) (plain Args w past now r (h (Args ∷ Fresh ∷ []) ∙ row_fresh (exprs types R N es clock names last (at Args (given past free)) (part Args now)))) k.1 (λ p. h (Args ∷ p)))

      exprs_known : (es : Exprs) (clock : Clock) (names last : Names) (past : Past) (free now : Instant) (w : Whereabouts) → Read w past now → EachCall P (calls_in_all es w) → Fixed (λ i. in_row (exprs types R N es clock names last (given past free) i)) now → exprs types R N es clock names last (given past free) now ≡ exprs types R M es clock names last (given past free) now
      exprs_known no_expr clock names last past free now w r k h = refl
      exprs_known (more_exprs e es) clock names last past free now w r k h =
          ap₂ (λ t ts. t ∷ ts)
          (expr_known e clock names last (parts Head past) (part Head free) (part Head now) (below Head w) (plain Head w past now r (h (Head ∷ Fresh ∷ []) ∙ expr_fresh e clock names last (at Head (given past free)) (part Head now))) (first_each P (calls e (below Head w)) (calls_in_all es (below Tail w)) k) (λ p. h (Head ∷ p)))
          (exprs_known es clock names last (parts Tail past) (part Tail free) (part Tail now) (below Tail w) (plain Tail w past now r (h (Tail ∷ Fresh ∷ []) ∙ row_fresh (exprs types R N es clock names last (at Tail (given past free)) (part Tail now)))) (rest_each P (calls e (below Head w)) (calls_in_all es (below Tail w)) k) (λ p. h (Tail ∷ p)))

      parts_known : (ps : Parts) (x : List ℕ) (clock : Clock) (names last : Names) (past : Past) (free now : Instant) (w : Whereabouts) → Read w past now → EachCall P (calls_in_parts ps w) → Fixed (λ i. in_row (merged types R N ps x clock names last (given past free) i)) now → merged types R N ps x clock names last (given past free) now ≡ merged types R M ps x clock names last (given past free) now
      parts_known no_part x clock names last past free now w r k h = refl
      parts_known (more_parts c e ps) x clock names last past free now w r k h =
          ap₂ (λ t ts. t ∷ ts)
          (expr_known e ((c, x) ∷ clock) names last (parts Head past) (part Head free) (part Head now) (below Head w) (plain Head w past now r (h (Head ∷ Fresh ∷ []) ∙ expr_fresh e ((c, x) ∷ clock) names last (at Head (given past free)) (part Head now))) (first_each P (calls e (below Head w)) (calls_in_parts ps (below Tail w)) k) (λ p. h (Head ∷ p)))
          (parts_known ps x clock names last (parts Tail past) (part Tail free) (part Tail now) (below Tail w) (plain Tail w past now r (h (Tail ∷ Fresh ∷ []) ∙ row_fresh (merged types R N ps x clock names last (at Tail (given past free)) (part Tail now)))) (rest_each P (calls e (below Head w)) (calls_in_parts ps (below Tail w)) k) (λ p. h (Tail ∷ p)))

    conditions_known : (ts : List Trans) (names last : Names) (past : Past) (free now : Instant) (w : Whereabouts) → Read w past now → EachCall P (calls_in_conditions ts w) → Fixed (λ i. in_row (conditions types R N ts names last (given past free) i)) now → conditions types R N ts names last (given past free) now ≡ conditions types R M ts names last (given past free) now
    conditions_known [] names last past free now w r k h = refl
    conditions_known (t ∷ ts) names last past free now w r k h =
        ap₂ (λ t ts. t ∷ ts)
        (expr_known t.cond [] names last (parts Head past) (part Head free) (part Head now) (below Head w) (plain Head w past now r (h (Head ∷ Fresh ∷ []) ∙ expr_fresh t.cond [] names last (at Head (given past free)) (part Head now))) (first_each P (calls t.cond (below Head w)) (calls_in_conditions ts (below Tail w)) k.1) (λ p. h (Head ∷ p)))
        (conditions_known ts names last (parts Tail past) (part Tail free) (part Tail now) (below Tail w) (plain Tail w past now r (h (Tail ∷ Fresh ∷ []) ∙ row_fresh (conditions types R N ts names last (at Tail (given past free)) (part Tail now)))) (rest_each P (calls t.cond (below Head w)) (calls_in_conditions ts (below Tail w)) k.1) (λ p. h (Tail ∷ p)))

    strong_known : (declared : List (List ℕ)) (all ss : States) (i : ℕ) (u j : Jump) (out names last : Names) (past : Past) (free now : Instant) (w : Whereabouts) → Read w past now → EachCall P (points_of_states declared ss w) → Fixed (states types R N ss i j out names last (given past free)) now → strong types R N all ss i u out last (given past free) now ≡ strong types R M all ss i u out last (given past free) now
    strong_known declared all no_state i u j out names last past free now w r k h = refl
    strong_known declared all (more_states f b until unless s ss) i u j out names last past free now w r k h =
        ap₂ (λ t x. if nat_eq i u.state then first_true all unless (map top t) u else x)
        (conditions_known unless out last (parts Unless (parts Head past)) (part Unless (part Head free)) (part Unless (part Head now)) (below Unless (below Head w)) (plain Unless (below Head w) (parts Head past) (part Head now) (plain Head w past now r (h (Head ∷ Fresh ∷ []))) (h (Head ∷ Unless ∷ Fresh ∷ []) ∙ row_fresh (conditions types R N unless out last (at Unless (at Head (given past free))) (part Unless (part Head now))))) (first_each P (calls_in_conditions unless (below Unless (below Head w))) (points_of_states declared ss (below Tail w)) (rest_each P (calls_in_conditions until (below Until (below Head w))) (calls_in_conditions unless (below Unless (below Head w)) ++ points_of_states declared ss (below Tail w)) (rest_each P (points_of declared b (below Body (below Head w))) (calls_in_conditions until (below Until (below Head w)) ++ (calls_in_conditions unless (below Unless (below Head w)) ++ points_of_states declared ss (below Tail w))) k))) (λ p. h (Head ∷ Unless ∷ p)))
        (strong_known declared all ss (suc i) u j out names last (parts Tail past) (part Tail free) (part Tail now) (below Tail w) (plain Tail w past now r (h (Tail ∷ Fresh ∷ []) ∙ states_fresh ss (suc i) j out names last (at Tail (given past free)) (part Tail now))) (rest_each P (calls_in_conditions unless (below Unless (below Head w))) (points_of_states declared ss (below Tail w)) (rest_each P (calls_in_conditions until (below Until (below Head w))) (calls_in_conditions unless (below Unless (below Head w)) ++ points_of_states declared ss (below Tail w)) (rest_each P (points_of declared b (below Body (below Head w))) (calls_in_conditions until (below Until (below Head w)) ++ (calls_in_conditions unless (below Unless (below Head w)) ++ points_of_states declared ss (below Tail w))) k))) (λ p. h (Tail ∷ p)))

    weak_known : (declared : List (List ℕ)) (all ss : States) (i : ℕ) (u : Jump) (out names last : Names) (past : Past) (free now : Instant) (w : Whereabouts) → Read w past now → EachCall P (points_of_states declared ss w) → Fixed (states types R N ss i u out names last (given past free)) now → weak types R N all ss i u names last (given past free) now ≡ weak types R M all ss i u names last (given past free) now
    weak_known declared all no_state i u out names last past free now w r k h = refl
    weak_known declared all (more_states f b until unless s ss) i u out names last past free now w r k h =
        if_first (nat_eq i u.state) (in_row (weak_in types R N b until u names last (at Head (given past free)) (part Head now))) (part Until (part Head now)) _ _ _ _
        (λ p. h (Head ∷ Until ∷ p))
        (λ met. ap (λ is. first_true all until (map top is) (record { state = u.state; restart = false })) (conditions_known until _ _ (parts Until (parts Head past)) (part Until (part Head free)) (part Until (part Head now)) (below Until (below Head w)) (plain Until (below Head w) (parts Head past) (part Head now) (plain Head w past now r (h (Head ∷ Fresh ∷ []))) (met (Fresh ∷ []) ∙ row_fresh (weak_in types R N b until u names last (at Head (given past free)) (part Head now)))) (first_each P (calls_in_conditions until (below Until (below Head w))) (calls_in_conditions unless (below Unless (below Head w)) ++ points_of_states declared ss (below Tail w)) (rest_each P (points_of declared b (below Body (below Head w))) (calls_in_conditions until (below Until (below Head w)) ++ (calls_in_conditions unless (below Unless (below Head w)) ++ points_of_states declared ss (below Tail w))) k)) met))
        (weak_known declared all ss (suc i) u out names last (parts Tail past) (part Tail free) (part Tail now) (below Tail w) (plain Tail w past now r (h (Tail ∷ Fresh ∷ []) ∙ states_fresh ss (suc i) u out names last (at Tail (given past free)) (part Tail now))) (rest_each P (calls_in_conditions unless (below Unless (below Head w))) (points_of_states declared ss (below Tail w)) (rest_each P (calls_in_conditions until (below Until (below Head w))) (calls_in_conditions unless (below Unless (below Head w)) ++ points_of_states declared ss (below Tail w)) (rest_each P (points_of declared b (below Body (below Head w))) (calls_in_conditions until (below Until (below Head w)) ++ (calls_in_conditions unless (below Unless (below Head w)) ++ points_of_states declared ss (below Tail w))) k))) (λ p. h (Tail ∷ p)))

    gives_known : (declared : List (List ℕ)) (named : List ℕ → Place) (ds : List Decl) (e : Eqn) (names last : Names) (past : Past) (free now : Instant) (w : Whereabouts) → Read w past now → EachCall P (points_of_one declared named e w) → Fixed (equation types R N ds e names last (given past free)) now → (x : List ℕ) → gives types R N ds e names last (given past free) now x ≡ gives types R M ds e names last (given past free) now x
    gives_known declared named ds (define s ys e) names last past free now w r k h x =
        ap (λ t. right types R N ys e t x) (expr_known e (clock_of ds ys e) names last (parts Right past) (part Right free) (part Right now) (below Right w) (plain Right w past now r (h (Right ∷ Fresh ∷ []) ∙ expr_fresh e (clock_of ds ys e) names last (at Right (given past free)) (part Right now))) (rest_each P (lefts ys named) (calls e (below Right w)) k) (λ p. h (Right ∷ p)))
    gives_known declared named ds (switch s e arms) names last past free now w r k h x =
        ap (λ t. from_arm types R N arms (top t) last (part ArmsOf now) x) (expr_known e [] names last (parts Test past) (part Test free) (part Test now) (below Test w) (plain Test w past now r (h (Test ∷ Fresh ∷ []) ∙ expr_fresh e [] names last (at Test (given past free)) (part Test now))) (first_each P (calls e (below Test w)) (points_of_arms declared arms (below ArmsOf w)) (rest_each P (defined_by (switch s e arms) s declared named) (calls e (below Test w) ++ points_of_arms declared arms (below ArmsOf w)) k)) (λ p. h (Test ∷ p)))
    gives_known declared named ds (reset s b e) names last past free now w r k h x = refl
    gives_known declared named ds (automaton s ss) names last past free now w r k h x =
        ap (λ (u : Jump). from_state ss 0 u.state last (part StatesOf now) x) (strong_known declared ss ss 0 (selected past) (strong types R N ss ss 0 (selected past) names last (at StatesOf (given past free)) (part StatesOf now)) names (within (automaton s ss) names last) last (parts StatesOf past) (part StatesOf free) (part StatesOf now) (below StatesOf w) (plain StatesOf w past now r (h (StatesOf ∷ Fresh ∷ []) ∙ states_fresh ss 0 (strong types R N ss ss 0 (selected past) names last (at StatesOf (given past free)) (part StatesOf now)) names (within (automaton s ss) names last) last (at StatesOf (given past free)) (part StatesOf now))) (rest_each P (defined_by (automaton s ss) s declared named) (points_of_states declared ss (below StatesOf w)) k.1.1) (λ p. h (StatesOf ∷ p)))

    defined_known : (declared : List (List ℕ)) (named : List ℕ → Place) (ds : List Decl) (es : Eqns) (names last : Names) (past : Past) (free now : Instant) (w : Whereabouts) → Read w past now → EachCall P (points_of_all declared named es w) → Fixed (equations types R N ds es names last (given past free)) now → (x : List ℕ) → defined types R N ds es names last (given past free) now x ≡ defined types R M ds es names last (given past free) now x
    defined_known declared named ds no_eqn names last past free now w r k h x = refl
    defined_known declared named ds (more_eqns e es) names last past free now w r k h x =
        ap₂ (λ v u. if defines e x then v else u)
        (gives_known declared named ds e names last (parts Head past) (part Head free) (part Head now) (below Head w) (plain Head w past now r (h (Head ∷ Fresh ∷ []) ∙ equation_fresh ds e names last (at Head (given past free)) (part Head now))) (first_each P (points_of_one declared named e (below Head w)) (points_of_all declared named es (below Tail w)) k) (λ p. h (Head ∷ p)) x)
        (defined_known declared named ds es names last (parts Tail past) (part Tail free) (part Tail now) (below Tail w) (plain Tail w past now r (h (Tail ∷ Fresh ∷ []) ∙ equations_fresh ds es names last (at Tail (given past free)) (part Tail now))) (rest_each P (points_of_one declared named e (below Head w)) (points_of_all declared named es (below Tail w)) k) (λ p. h (Tail ∷ p)) x)

    mutual
      pub block_known : (declared : List (List ℕ)) (b : Block) (fresh : Bool) (names last : Names) (past : Past) (free now : Instant) (w : Whereabouts) → Read w past now → EachCall P (points_of declared b w) → Fixed (scope types R N b fresh names last (given past free)) now → scope types R N b fresh names last (given past free) now ≡ scope types R M b fresh names last (given past free) now
      block_known declared (block ds es) fresh names last past free now w r k h =
          let last' = lasts (λ c. R.constant (constant_of types c)) ds past last in
          let names' = inside es names now in
          let r' = plain Equations w past now r (h (Equations ∷ Fresh ∷ []) ∙ equations_fresh ds es names' last' (at Equations (given past free)) (part Equations now)) in
          let named : List ℕ → Place = λ x. w (Named x ∷ []) in
          ap₂ (λ f t. in_block f (B fresh) t)
          (fun_ext (λ x. ap (λ v. if some_defines es x then v else Absent) (defined_known (declared ++ names_of ds) named ds es names' last' (parts Equations past) (part Equations free) (part Equations now) (below Equations w) r' k (λ p. h (Equations ∷ p)) x)))
          (equations_known (declared ++ names_of ds) named ds es names' last' (parts Equations past) (part Equations free) (part Equations now) (below Equations w) r' k (λ p. h (Equations ∷ p)))

      equations_known : (declared : List (List ℕ)) (named : List ℕ → Place) (ds : List Decl) (es : Eqns) (names last : Names) (past : Past) (free now : Instant) (w : Whereabouts) → Read w past now → EachCall P (points_of_all declared named es w) → Fixed (equations types R N ds es names last (given past free)) now → equations types R N ds es names last (given past free) now ≡ equations types R M ds es names last (given past free) now
      equations_known declared named ds no_eqn names last past free now w r k h = refl
      equations_known declared named ds (more_eqns e es) names last past free now w r k h =
          ap₂ of_two
          (equation_known declared named ds e names last (parts Head past) (part Head free) (part Head now) (below Head w) (plain Head w past now r (h (Head ∷ Fresh ∷ []) ∙ equation_fresh ds e names last (at Head (given past free)) (part Head now))) (first_each P (points_of_one declared named e (below Head w)) (points_of_all declared named es (below Tail w)) k) (λ p. h (Head ∷ p)))
          (equations_known declared named ds es names last (parts Tail past) (part Tail free) (part Tail now) (below Tail w) (plain Tail w past now r (h (Tail ∷ Fresh ∷ []) ∙ equations_fresh ds es names last (at Tail (given past free)) (part Tail now))) (rest_each P (points_of_one declared named e (below Head w)) (points_of_all declared named es (below Tail w)) k) (λ p. h (Tail ∷ p)))

      equation_known : (declared : List (List ℕ)) (named : List ℕ → Place) (ds : List Decl) (e : Eqn) (names last : Names) (past : Past) (free now : Instant) (w : Whereabouts) → Read w past now → EachCall P (points_of_one declared named e w) → Fixed (equation types R N ds e names last (given past free)) now → equation types R N ds e names last (given past free) now ≡ equation types R M ds e names last (given past free) now
      equation_known declared named ds (define s ys e) names last past free now w r k h = ap in_right (expr_known e (clock_of ds ys e) names last (parts Right past) (part Right free) (part Right now) (below Right w) (plain Right w past now r (h (Right ∷ Fresh ∷ []) ∙ expr_fresh e (clock_of ds ys e) names last (at Right (given past free)) (part Right now))) (rest_each P (lefts ys named) (calls e (below Right w)) k) (λ p. h (Right ∷ p)))
      equation_known declared named ds (switch s e arms) names last past free now w r k h =
          let i = expr types R N e [] names last (at Test (given past free)) (part Test now) in
          ap (with_arms i) (arms_known declared arms (top i) (within (switch s e arms) names last) last (parts ArmsOf past) (part ArmsOf free) (part ArmsOf now) (below ArmsOf w) (plain ArmsOf w past now r (h (ArmsOf ∷ Fresh ∷ []) ∙ arms_fresh arms (top i) (within (switch s e arms) names last) last (at ArmsOf (given past free)) (part ArmsOf now))) (rest_each P (calls e (below Test w)) (points_of_arms declared arms (below ArmsOf w)) (rest_each P (defined_by (switch s e arms) s declared named) (calls e (below Test w) ++ points_of_arms declared arms (below ArmsOf w)) k)) (λ p. h (ArmsOf ∷ p)))
          ∙ ap (λ t. with_arms t (arm types R M arms (top t) (within (switch s e arms) names last) last (at ArmsOf (given past free)) (part ArmsOf now))) (expr_known e [] names last (parts Test past) (part Test free) (part Test now) (below Test w) (plain Test w past now r (h (Test ∷ Fresh ∷ []) ∙ expr_fresh e [] names last (at Test (given past free)) (part Test now))) (first_each P (calls e (below Test w)) (points_of_arms declared arms (below ArmsOf w)) (rest_each P (defined_by (switch s e arms) s declared named) (calls e (below Test w) ++ points_of_arms declared arms (below ArmsOf w)) k)) (λ p. h (Test ∷ p)))
      equation_known declared named ds (reset s b e) names last past free now w r k h =
          let i = expr types R N e [] names last (at Test (given past free)) (part Test now) in
          let fresh = is_true (top i) in
          ap (with_body i) (block_known declared b fresh (within (reset s b e) names last) last (if fresh then [] else own (parts Body past)) (part Body free) (part Body now) (below Body w) (anew Body fresh w past now r (h (Body ∷ Fresh ∷ []) ∙ block_fresh b fresh (within (reset s b e) names last) last (since fresh (at Body (given past free))) (part Body now))) (first_each P (points_of declared b (below Body w)) (calls e (below Test w)) (rest_each P (defined_by (reset s b e) s declared named) (points_of declared b (below Body w) ++ calls e (below Test w)) k)) (λ p. h (Body ∷ p)))
          ∙ ap (λ t. with_body t (scope types R M b (is_true (top t)) (within (reset s b e) names last) last (since (is_true (top t)) (at Body (given past free))) (part Body now))) (expr_known e [] names last (parts Test past) (part Test free) (part Test now) (below Test w) (plain Test w past now r (h (Test ∷ Fresh ∷ []) ∙ expr_fresh e [] names last (at Test (given past free)) (part Test now))) (rest_each P (points_of declared b (below Body w)) (calls e (below Test w)) (rest_each P (defined_by (reset s b e) s declared named) (points_of declared b (below Body w) ++ calls e (below Test w)) k)) (λ p. h (Test ∷ p)))
      equation_known declared named ds (automaton s ss) names last past free now w r k h =
          let g' = at StatesOf (given past free) in
          let now' = part StatesOf now in
          let names' = within (automaton s ss) names last in
          let u0 = (strong types R N ss ss 0 (selected past) names last (at StatesOf (given past free)) (part StatesOf now)) in
          ap₂ (λ (u : Jump) (i : Instant). with_words (state_word u0.state) (state_word u.state) (B u.restart) i)
          (weak_known declared ss ss 0 u0 names names' last (parts StatesOf past) (part StatesOf free) (part StatesOf now) (below StatesOf w) (plain StatesOf w past now r (h (StatesOf ∷ Fresh ∷ []) ∙ states_fresh ss 0 u0 names (within (automaton s ss) names last) last (at StatesOf (given past free)) (part StatesOf now))) (rest_each P (defined_by (automaton s ss) s declared named) (points_of_states declared ss (below StatesOf w)) k.1.1) (λ p. h (StatesOf ∷ p)))
          (states_known declared ss 0 u0 names names' last (parts StatesOf past) (part StatesOf free) (part StatesOf now) (below StatesOf w) (plain StatesOf w past now r (h (StatesOf ∷ Fresh ∷ []) ∙ states_fresh ss 0 u0 names (within (automaton s ss) names last) last (at StatesOf (given past free)) (part StatesOf now))) (rest_each P (defined_by (automaton s ss) s declared named) (points_of_states declared ss (below StatesOf w)) k.1.1) (λ p. h (StatesOf ∷ p)))
          ∙ ap (λ (u : Jump). with_words (state_word u.state) (state_word (weak types R M ss ss 0 u names' last g' now').state) (B (weak types R M ss ss 0 u names' last g' now').restart) (states types R M ss 0 u names names' last g' now'))
          (strong_known declared ss ss 0 (selected past) (strong types R N ss ss 0 (selected past) names last (at StatesOf (given past free)) (part StatesOf now)) names (within (automaton s ss) names last) last (parts StatesOf past) (part StatesOf free) (part StatesOf now) (below StatesOf w) (plain StatesOf w past now r (h (StatesOf ∷ Fresh ∷ []) ∙ states_fresh ss 0 (strong types R N ss ss 0 (selected past) names last (at StatesOf (given past free)) (part StatesOf now)) names (within (automaton s ss) names last) last (at StatesOf (given past free)) (part StatesOf now))) (rest_each P (defined_by (automaton s ss) s declared named) (points_of_states declared ss (below StatesOf w)) k.1.1) (λ p. h (StatesOf ∷ p)))

      arms_known : (declared : List (List ℕ)) (arms : Arms) (v : Value) (names last : Names) (past : Past) (free now : Instant) (w : Whereabouts) → Read w past now → EachCall P (points_of_arms declared arms w) → Fixed (arm types R N arms v names last (given past free)) now → arm types R N arms v names last (given past free) now ≡ arm types R M arms v names last (given past free) now
      arms_known declared no_arm v names last past free now w r k h = refl
      arms_known declared (more_arms c b s arms) v names last past free now w r k h =
          ap₂ of_two
          (if_swap (is_cons types v c) _ _ (part Head now)
          (λ met. block_known declared b false names last (own (parts Head past)) (part Head free) (part Head now) (below Head w) (anew Head false w past now r (met (Fresh ∷ []) ∙ block_fresh b false names last (since false (at Head (given past free))) (part Head now))) (first_each P (points_of declared b (below Head w)) (points_of_arms declared arms (below Tail w)) k) met)
          (λ p. h (Head ∷ p)))
          (arms_known declared arms v names last (parts Tail past) (part Tail free) (part Tail now) (below Tail w) (plain Tail w past now r (h (Tail ∷ Fresh ∷ []) ∙ arms_fresh arms v names last (at Tail (given past free)) (part Tail now))) (rest_each P (points_of declared b (below Head w)) (points_of_arms declared arms (below Tail w)) k) (λ p. h (Tail ∷ p)))

      states_known : (declared : List (List ℕ)) (ss : States) (i : ℕ) (u : Jump) (out names last : Names) (past : Past) (free now : Instant) (w : Whereabouts) → Read w past now → EachCall P (points_of_states declared ss w) → Fixed (states types R N ss i u out names last (given past free)) now → states types R N ss i u out names last (given past free) now ≡ states types R M ss i u out names last (given past free) now
      states_known declared no_state i u out names last past free now w r k h = refl
      states_known declared (more_states f b until unless s ss) i u out names last past free now w r k h =
          let t1 = if_swap (nat_eq i u.state) _ _ (part Body (part Head now)) (λ met. block_known declared b u.restart names last (if u.restart then [] else own (parts Body (parts Head past))) (part Body (part Head free)) (part Body (part Head now)) (below Body (below Head w)) (anew Body u.restart (below Head w) (parts Head past) (part Head now) (plain Head w past now r (h (Head ∷ Fresh ∷ []))) (met (Fresh ∷ []) ∙ block_fresh b u.restart names last (since u.restart (at Body (at Head (given past free)))) (part Body (part Head now)))) (first_each P (points_of declared b (below Body (below Head w))) (calls_in_conditions until (below Until (below Head w)) ++ (calls_in_conditions unless (below Unless (below Head w)) ++ points_of_states declared ss (below Tail w))) k) met) (λ p. h (Head ∷ Body ∷ p)) in
          let t2 = if_swap (nat_eq i u.state) _ _ (part Until (part Head now)) (λ met. ap in_row (conditions_known until _ _ (parts Until (parts Head past)) (part Until (part Head free)) (part Until (part Head now)) (below Until (below Head w)) (plain Until (below Head w) (parts Head past) (part Head now) (plain Head w past now r (h (Head ∷ Fresh ∷ []))) (met (Fresh ∷ []) ∙ row_fresh (weak_in types R N b until u names last (at Head (given past free)) (part Head now)))) (first_each P (calls_in_conditions until (below Until (below Head w))) (calls_in_conditions unless (below Unless (below Head w)) ++ points_of_states declared ss (below Tail w)) (rest_each P (points_of declared b (below Body (below Head w))) (calls_in_conditions until (below Until (below Head w)) ++ (calls_in_conditions unless (below Unless (below Head w)) ++ points_of_states declared ss (below Tail w))) k)) met)) (λ p. h (Head ∷ Until ∷ p)) in
          let t3 = ap in_row (conditions_known unless out last (parts Unless (parts Head past)) (part Unless (part Head free)) (part Unless (part Head now)) (below Unless (below Head w)) (plain Unless (below Head w) (parts Head past) (part Head now) (plain Head w past now r (h (Head ∷ Fresh ∷ []))) (h (Head ∷ Unless ∷ Fresh ∷ []) ∙ row_fresh (conditions types R N unless out last (at Unless (at Head (given past free))) (part Unless (part Head now))))) (first_each P (calls_in_conditions unless (below Unless (below Head w))) (points_of_states declared ss (below Tail w)) (rest_each P (calls_in_conditions until (below Until (below Head w))) (calls_in_conditions unless (below Unless (below Head w)) ++ points_of_states declared ss (below Tail w)) (rest_each P (points_of declared b (below Body (below Head w))) (calls_in_conditions until (below Until (below Head w)) ++ (calls_in_conditions unless (below Unless (below Head w)) ++ points_of_states declared ss (below Tail w))) k))) (λ p. h (Head ∷ Unless ∷ p))) in
          let t4 = states_known declared ss (suc i) u out names last (parts Tail past) (part Tail free) (part Tail now) (below Tail w) (plain Tail w past now r (h (Tail ∷ Fresh ∷ []) ∙ states_fresh ss (suc i) u out names last (at Tail (given past free)) (part Tail now))) (rest_each P (calls_in_conditions unless (below Unless (below Head w))) (points_of_states declared ss (below Tail w)) (rest_each P (calls_in_conditions until (below Until (below Head w))) (calls_in_conditions unless (below Unless (below Head w)) ++ points_of_states declared ss (below Tail w)) (rest_each P (points_of declared b (below Body (below Head w))) (calls_in_conditions until (below Until (below Head w)) ++ (calls_in_conditions unless (below Unless (below Head w)) ++ points_of_states declared ss (below Tail w))) k))) (λ p. h (Tail ∷ p)) in
          λ d. of_two (in_state (t1 d) (t2 d) (t3 d)) (t4 d)

    told_known : (e : Option Expr) (names last : Names) (past : Past) (free now : Instant) (w : Whereabouts) → Read w past now → EachCall P (calls_told e w) → Fixed (told types R N e names last (given past free)) now → told types R N e names last (given past free) now ≡ told types R M e names last (given past free) now
    told_known None names last past free now w r k h = refl
    told_known (Some e) names last past free now w r k h = expr_known e [] names last past free now w r k h

    told_fresh : (e : Option Expr) (names last : Names) (g : Given) (now : Instant) → told types R N e names last g now (Fresh ∷ []) ≡ Absent
    told_fresh None names last g now = refl
    told_fresh (Some e) names last g now = expr_fresh e [] names last g now

    observer_known : (c : Option Contract) (names last : Names) (past : Past) (free now : Instant) (w : Whereabouts) → Read w past now → EachCall P (points_of_contract c w) → ((p : Place) → now (Observer ∷ p) ≡ observer types R N c names last (given past free) now (Observer ∷ p)) → ((p : Place) → now (Assume ∷ p) ≡ observer types R N c names last (given past free) now (Assume ∷ p)) → ((p : Place) → now (Enforce ∷ p) ≡ observer types R N c names last (given past free) now (Enforce ∷ p)) → observer types R N c names last (given past free) now ≡ observer types R M c names last (given past free) now
    observer_known None names last past free now w r k hg ha he = refl
    observer_known (Some c) names last past free now w r k hg ha he =
        let own_names = read_in types R N c.body names (part Observer now) in
        let own_last = last_in types R N c.body (own (parts Observer past)) last in
        let k' = rest_each P (points_of [] c.body (below Observer w)) (calls_told c.assume (below Assume w) ++ calls_told c.enforce (below Enforce w)) k in
        let t = block_known [] c.body false names last (own (parts Observer past)) (part Observer free) (part Observer now) (below Observer w) (anew Observer false w past now r (hg (Fresh ∷ []) ∙ block_fresh c.body false names last (since false (at Observer (given past free))) (part Observer now))) (first_each P (points_of [] c.body (below Observer w)) (calls_told c.assume (below Assume w) ++ calls_told c.enforce (below Enforce w)) k) hg in
        let u = told_known c.assume own_names own_last (parts Assume past) (part Assume free) (part Assume now) (below Assume w) (plain Assume w past now r (ha (Fresh ∷ []) ∙ told_fresh c.assume own_names own_last (at Assume (given past free)) (part Assume now))) (first_each P (calls_told c.assume (below Assume w)) (calls_told c.enforce (below Enforce w)) k') ha in
        let x = told_known c.enforce own_names own_last (parts Enforce past) (part Enforce free) (part Enforce now) (below Enforce w) (plain Enforce w past now r (he (Fresh ∷ []) ∙ told_fresh c.enforce own_names own_last (at Enforce (given past free)) (part Enforce now))) (rest_each P (calls_told c.assume (below Assume w)) (calls_told c.enforce (below Enforce w)) k') he in
        λ d. in_observer (t d) (u d) (x d)

    pub node_known : (q : Node) (inputs : List Value) (past : Past) (free now : Instant) → Read (λ p. p) past now → EachCall P (points q) → Fixed (node types R N q inputs (given past free)) now → (p : Place) → node types R N q inputs (given past free) now p ≡ node types R M q inputs (given past free) now p
    node_known q inputs past free now r k h p =
        let here : Whereabouts = λ p. p in
        let cs = controls_of q.contract in
        let values = given_to types R N cs (part Controls free) in
        let outer : Names = input_of q.inputs inputs (λ x. Absent) in
        let last : Names = lasts (λ c. R.constant (constant_of types c)) q.outputs past (λ x. Absent) in
        let k' = rest_each P (controls cs (below Controls here)) (points_of_contract q.contract here ++ points_of (names_of q.outputs) q.body (below Body here)) k in
        ap₂ (λ b c. in_node (λ x. if declares q.outputs x then now (Body ∷ Named x ∷ []) else Absent) inputs values b c p)
        (block_known (names_of q.outputs) q.body false (input_of cs values outer) last (own (parts Body past)) (part Body free) (part Body now) (below Body here)
        (anew Body false here past now r (h (Body ∷ Fresh ∷ []) ∙ block_fresh q.body false (input_of cs values outer) last (since false (at Body (given past free))) (part Body now)))
        (rest_each P (points_of_contract q.contract here) (points_of (names_of q.outputs) q.body (below Body here)) k') (λ p. h (Body ∷ p)))
        (observer_known q.contract (λ x. if declares q.outputs x then now (Named x ∷ []) else outer x) last past free now here r
        (first_each P (points_of_contract q.contract here) (points_of (names_of q.outputs) q.body (below Body here)) k') (λ p. h (Observer ∷ p)) (λ p. h (Assume ∷ p)) (λ p. h (Enforce ∷ p)))
