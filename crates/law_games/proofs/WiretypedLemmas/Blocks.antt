-- The wires of a typed block are typed.
use Rattle.std.proofs.Common.{◌≡◌, ◌<◌, ℕ, suc, List, [], ◌∷◌, map, refl, sym, ap, subst, ◌∙◌, arith}
use Rattle.std.specs.Prelude.{Bool, true, false, ◌||◌, IsTrue, if◌then◌else◌, nat_eq, Option, Some}
use Rattle.hp_base.specs.declared.span.Span.{Span}
use Rattle.hp_base.specs.declared.ty.Ty.{Ty}
use Rattle.hp_base.specs.declared.ty.Ty.TheVariants as ty
use Rattle.hp_base.specs.declared.value.Value.{Value}
use Rattle.hp_base.specs.declared.value.Value.TheVariants.{Absent}
use Rattle.hp_tree.specs.Expressions.{Expr, constant, variable, last_of, one, two, choose, pre, fby, arrow, when_is, merge, call}
use Rattle.hp_tree.specs.Blocks.{Decl, Block, block, Eqns, no_eqn, more_eqns, Eqn, define, switch, reset, automaton, Arms, no_arm, more_arms, States, no_state, more_states}
use Rattle.hp_tree.specs.Programs.{TypeDecl, Node}
use Rattle.hp_tree.specs.Operators.{is_cons, is_true}
use Rattle.hp_tree.specs.Instant.{Body, Equations, Head, Tail, Right, Test, Arms as ArmsOf, States as StatesOf, Until, Unless, Next, Args, Instance, Instant, part, top, Clock}
use Rattle.hp_tree.specs.Meaning.{Names, defines, some_defines, inside as inside_names, within, clock_of, from_block, is_among, output_for, names_of, state_of, Jump}
use Rattle.hp_base.specs.Known.Known.{lookup}
use Rattle.hp_typing.specs.Scopes.{with_variables, inside}
use Rattle.hp_typing.specs.Types.{type_of, types_in}
use Rattle.law_judged.specs.Typed.Scopes.{Scope}
use Rattle.hp_meaning.specs.Causal.Clocked.{Standing, standing_in, standing_of, IsOn, BlockRight, AllRight, OneRight, ArmsRight, StatesRight}
use Rattle.law_values.specs.Valued.Judged.{Lasts, lasts_in as known_lasts, lasts_of as known_of, of_arms, ExprSound, RightSound, LeftsHave, BlockSound, EqnsSound, EqnSound, ArmsSound, StatesSound}
use Rattle.law_values.specs.Valued.Fitting.{count}
use Rattle.law_values.proofs.ValuedLemmas.Typed.{row_typed}
use Rattle.law_games.specs.Wires.Wired.{Held, held_at, Callees, blank, lasts_in, wired}
use Rattle.law_games.specs.Wires.WiredBlocks.{selected_in, read_of, lasts_of, state_value, has_state, right_in, arm_value, has_arm, anew, wired_conditions, strong_in, weak_wires, weak_of, wired_gives, wired_defined, wired_block, wired_equations, wired_equation, wired_arms, wired_states}
use Rattle.law_games.specs.Wiretyped.Typed.{HasWire, IsStateOf, OutputsTyped, ExprTyped, BlockTyped, EqnsTyped, EqnTyped, ArmsTyped, StatesTyped}
use Rattle.law_games.specs.Wiretyped.Kept.{ExprKept, BlockKept, EqnsKept, EqnKept, ArmsKept, StatesKept, ExprGiven, BlockGiven, EqnsGiven, EqnGiven, ArmsGiven, StatesGiven}
use Rattle.law_games.proofs.WiretypedLemmas.Values.{wire_covered, arm_of}
use Rattle.law_games.proofs.WiretypedLemmas.Exprs.{CalleesTyped, NamesAre, LastsAre, wire_as, top_is, call_wires, expr_wires, exprs_wires, tests_wires}
use Rattle.law_games.proofs.WiretypedLemmas.Stored.{IsJudged, right_judged}
use Rattle.law_games.proofs.WiretypedLemmas.Scopes.{OuterAre, names_inside, lasts_inside, branch_outer, reset_outer, block_name, branch_gives, left_has, left_are, first_less, state_there}
use Rattle.law_games.proofs.WiretypedLemmas.Begins.{anew_kept, seen_in, lasts_seen}

module _ (types : List TypeDecl) (C : Callees) (among : List ℕ → Option Node) (typed : List ℕ → Instant → Type 0) (kept : List ℕ → Instant → Instant → Type 0) (given : List ℕ → Instant → Type 0) (K : CalleesTyped types C among typed kept given) where
  -- ---- right sides

  right_wires : (s : Scope) (st : Standing) (lasts : Lasts) (names last : Names) → NamesAre types s st names → LastsAre types s lasts last → (e : Expr) (clock : Clock) (m : Held) (now : Instant) → IsOn st e clock → ExprSound types among s lasts e → IsJudged s e → ExprKept types kept s e m.start m.memory → ExprGiven types given s e m.free → ExprTyped types typed s e now → ExprTyped types typed s e (wired types C e names last m now)
  right_wires s st lasts names last nk lk (call a f il es) clock m now on ok j k g w =
      let ih = exprs_wires types C among typed kept given K s st lasts names last nk lk es clock j.0.inputs (held_at Args m) (part Args now) on ok.1 j.1.1 k.0 g.0 w.1.0 in
      call_wires types C among typed kept given K s st lasts names last nk lk a f il es j.0 m now j.1.0 ok.0 ih.0 ih.1 k.1 g.1 w.1.1
  right_wires s st lasts names last nk lk (constant a c) clock m now on ok j k g w = expr_wires types C among typed kept given K s st lasts names last nk lk (constant a c) clock j.0 m now on ok j.1 k g w
  right_wires s st lasts names last nk lk (variable a x) clock m now on ok j k g w = expr_wires types C among typed kept given K s st lasts names last nk lk (variable a x) clock j.0 m now on ok j.1 k g w
  right_wires s st lasts names last nk lk (last_of a x) clock m now on ok j k g w = expr_wires types C among typed kept given K s st lasts names last nk lk (last_of a x) clock j.0 m now on ok j.1 k g w
  right_wires s st lasts names last nk lk (one a o b) clock m now on ok j k g w = expr_wires types C among typed kept given K s st lasts names last nk lk (one a o b) clock j.0 m now on ok j.1 k g w
  right_wires s st lasts names last nk lk (two a o b c) clock m now on ok j k g w = expr_wires types C among typed kept given K s st lasts names last nk lk (two a o b c) clock j.0 m now on ok j.1 k g w
  right_wires s st lasts names last nk lk (choose a b c d) clock m now on ok j k g w = expr_wires types C among typed kept given K s st lasts names last nk lk (choose a b c d) clock j.0 m now on ok j.1 k g w
  right_wires s st lasts names last nk lk (pre a b) clock m now on ok j k g w = expr_wires types C among typed kept given K s st lasts names last nk lk (pre a b) clock j.0 m now on ok j.1 k g w
  right_wires s st lasts names last nk lk (fby a b c) clock m now on ok j k g w = expr_wires types C among typed kept given K s st lasts names last nk lk (fby a b c) clock j.0 m now on ok j.1 k g w
  right_wires s st lasts names last nk lk (arrow a b c) clock m now on ok j k g w = expr_wires types C among typed kept given K s st lasts names last nk lk (arrow a b c) clock j.0 m now on ok j.1 k g w
  right_wires s st lasts names last nk lk (when_is a b c x) clock m now on ok j k g w = expr_wires types C among typed kept given K s st lasts names last nk lk (when_is a b c x) clock j.0 m now on ok j.1 k g w
  right_wires s st lasts names last nk lk (merge a x ps) clock m now on ok j k g w = expr_wires types C among typed kept given K s st lasts names last nk lk (merge a x ps) clock j.0 m now on ok j.1 k g w

  single_gives : (s : Scope) (lasts : Lasts) (ys : List (List ℕ × Span)) (e : Expr) (t : Ty) (i : Instant) (x : List ℕ) → type_of s e ≡ Some t → LeftsHave s ys t → ExprTyped types typed s e i → IsTrue (is_among ys x) → HasWire types (lookup s.variables x) (top i)
  single_gives s lasts ys e t i x h l w d = wire_as types (lookup s.variables x) t (top i) (left_has types among s ys t x l d) (top_is types typed s e t i h w)

  -- what a right side gives to a name
  right_gives : (s : Scope) (lasts : Lasts) (ys : List (List ℕ × Span)) (e : Expr) (start mem i : Instant) (x : List ℕ) → RightSound types among s lasts ys e → ExprKept types kept s e start mem → ExprTyped types typed s e i → IsTrue (is_among ys x) → HasWire types (lookup s.variables x) (right_in types C ys e i x)
  right_gives s lasts ys (call a f il es) start mem i x ok k w d =
      let r = row_typed (lookup s.nodes f) (types_in s es) ok.1.0 ok.1.1.0 in
      let am : among f ≡ Some r.0 = sym ok.0.0 ∙ r.1 in
      let os : C.outputs f ≡ names_of ok.1.0 = K.outputs f r.0 (part Instance start) (part Instance mem) am k.1 ∙ ap names_of r.3 in
      subst (λ os. HasWire types (lookup s.variables x) (output_for ys os (part Instance i) x)) (sym os)
      (left_are types among s ys ok.1.0 (part Instance i) x ok.1.1.1 (subst (λ ds. OutputsTyped types ds (part Instance i)) r.3 (K.gives f r.0 (part Instance i) am w.1.1)) d)
  right_gives s lasts ys (constant a c) start mem i x ok k w d = single_gives s lasts ys (constant a c) ok.1.0 i x ok.1.1.0 ok.1.1.1 w d
  right_gives s lasts ys (variable a y) start mem i x ok k w d = single_gives s lasts ys (variable a y) ok.1.0 i x ok.1.1.0 ok.1.1.1 w d
  right_gives s lasts ys (last_of a y) start mem i x ok k w d = single_gives s lasts ys (last_of a y) ok.1.0 i x ok.1.1.0 ok.1.1.1 w d
  right_gives s lasts ys (one a o b) start mem i x ok k w d = single_gives s lasts ys (one a o b) ok.1.0 i x ok.1.1.0 ok.1.1.1 w d
  right_gives s lasts ys (two a o b c) start mem i x ok k w d = single_gives s lasts ys (two a o b c) ok.1.0 i x ok.1.1.0 ok.1.1.1 w d
  right_gives s lasts ys (choose a b c e) start mem i x ok k w d = single_gives s lasts ys (choose a b c e) ok.1.0 i x ok.1.1.0 ok.1.1.1 w d
  right_gives s lasts ys (pre a b) start mem i x ok k w d = single_gives s lasts ys (pre a b) ok.1.0 i x ok.1.1.0 ok.1.1.1 w d
  right_gives s lasts ys (fby a b c) start mem i x ok k w d = single_gives s lasts ys (fby a b c) ok.1.0 i x ok.1.1.0 ok.1.1.1 w d
  right_gives s lasts ys (arrow a b c) start mem i x ok k w d = single_gives s lasts ys (arrow a b c) ok.1.0 i x ok.1.1.0 ok.1.1.1 w d
  right_gives s lasts ys (when_is a b c y) start mem i x ok k w d = single_gives s lasts ys (when_is a b c y) ok.1.0 i x ok.1.1.0 ok.1.1.1 w d
  right_gives s lasts ys (merge a y ps) start mem i x ok k w d = single_gives s lasts ys (merge a y ps) ok.1.0 i x ok.1.1.0 ok.1.1.1 w d

  -- ---- what branches give

  arm_gives : (d : Value) (e : Eqn) (arms : Arms) (v : Value) (s : Scope) (lasts : Lasts) (last : Names) (now : Instant) (x : List ℕ) → IsTrue (has_arm types C arms v) → ArmsSound types among e s lasts arms → IsTrue (defines e x) → LastsAre types s lasts last → ArmsTyped types typed s arms now → HasWire types (lookup s.variables x) (arm_value types C d arms v last now x)
  arm_gives d e no_arm v s lasts last now x h ok q lk w = absurd (cc)
  arm_gives d e (more_arms c b at arms) v s lasts last now x h ok q lk w =
      by (is_cons types v c) (branch_gives types among typed e b s lasts last (part Head now) x ok.0 q lk w.0) (λ k. arm_gives (blank (from_block b last (part Head now) x)) e arms v s lasts last (part Tail now) x k ok.1.1 q lk w.1) h
    where
      by : (t : Bool) → HasWire types (lookup s.variables x) (from_block b last (part Head now) x) → (IsTrue (has_arm types C arms v) → HasWire types (lookup s.variables x) (arm_value types C (blank (from_block b last (part Head now) x)) arms v last (part Tail now) x)) → IsTrue (t || has_arm types C arms v)
          → HasWire types (lookup s.variables x) (if t then from_block b last (part Head now) x else arm_value types C (blank (from_block b last (part Head now) x)) arms v last (part Tail now) x)
      by true f g h = f
      by false f g h = g h

  state_gives : (d : Value) (e : Eqn) (ss : States) (j n : ℕ) (s : Scope) (lasts : Lasts) (last : Names) (now : Instant) (x : List ℕ) → IsTrue (has_state ss j n) → StatesSound types among e s lasts ss → IsTrue (defines e x) → LastsAre types s lasts last → StatesTyped types typed s ss now → HasWire types (lookup s.variables x) (state_value d ss j n last now x)
  state_gives d e no_state j n s lasts last now x h ok q lk w = absurd (cc)
  state_gives d e (more_states f b until unless at ss) j n s lasts last now x h ok q lk w =
      by (nat_eq j n) (branch_gives types among typed e b s lasts last (part Body (part Head now)) x ok.0 q lk w.0) (λ k. state_gives (blank (from_block b last (part Body (part Head now)) x)) e ss (suc j) n s lasts last (part Tail now) x k ok.1.1.1.1 q lk w.1.1.1) h
    where
      by : (t : Bool) → HasWire types (lookup s.variables x) (from_block b last (part Body (part Head now)) x) → (IsTrue (has_state ss (suc j) n) → HasWire types (lookup s.variables x) (state_value (blank (from_block b last (part Body (part Head now)) x)) ss (suc j) n last (part Tail now) x)) → IsTrue (t || has_state ss (suc j) n)
          → HasWire types (lookup s.variables x) (if t then from_block b last (part Body (part Head now)) x else state_value (blank (from_block b last (part Body (part Head now)) x)) ss (suc j) n last (part Tail now) x)
      by true f g h = f
      by false f g h = g h

  -- ---- the state that is taken is one of them

  strong_less : (all ss : States) (k : ℕ) (j : Jump) (names last : Names) (m : Held) (now : Instant) → j.state < count all → (strong_in types C all ss k j names last m now).state < count all
  strong_less all no_state k j names last m now h = h
  strong_less all (more_states f b until unless p ss) k j names last m now h =
      by (nat_eq k j.state) _ _ (first_less all unless (map top (wired_conditions types C unless names last (held_at Unless (held_at Head m)) (part Unless (part Head now)))) j h) (strong_less all ss (suc k) j names last (held_at Tail m) (part Tail now) h)
    where
      by : (d : Bool) (u v : Jump) → u.state < count all → v.state < count all → (if d then u else v).state < count all
      by true u v f g = f
      by false u v f g = g

  weak_less : (all ss : States) (k : ℕ) (j : Jump) (names last : Names) (m : Held) (now : Instant) → j.state < count all → (weak_of types C all ss k j names last m now).state < count all
  weak_less all no_state k j names last m now h = omega arith
  weak_less all (more_states f b until unless p ss) k j names last m now h =
      by (nat_eq k j.state) _ _ (first_less all until (map top (weak_wires types C b until j names last (held_at Head m) (part Head now))) (record { state = j.state; restart = false }) h) (weak_less all ss (suc k) j names last (held_at Tail m) (part Tail now) h)
    where
      by : (d : Bool) (u v : Jump) → u.state < count all → v.state < count all → (if d then u else v).state < count all
      by true u v f g = f
      by false u v f g = g

  selected_less : (ss : States) (v : Value) → IsStateOf ss v → state_of v < count ss
  selected_less ss v h = subst (λ z. state_of z < count ss) (sym h.1.0) h.1.1

  -- ---- what equations give

  eqn_gives : (e : Eqn) (ds : List Decl) (st : Standing) (s : Scope) (lasts : Lasts) (names last : Names) (m : Held) (now : Instant) (x : List ℕ) → NamesAre types s st names → LastsAre types s lasts last → OneRight st ds e → EqnSound types among s lasts e → EqnKept types kept s e m.start m.memory → EqnGiven types given s e m.free → EqnTyped types typed s e now → IsTrue (defines e x) → HasWire types (lookup s.variables x) (wired_gives types C e names last m now x)
  eqn_gives (define at ys e) ds st s lasts names last m now x nk lk r ok k g w d =
      let j = right_judged types among s lasts ys e ok in
      right_gives s lasts ys e (part Right m.start) (part Right m.memory) (wired types C e names last (held_at Right m) (part Right now)) x ok k
      (right_wires s st lasts names last nk lk e (clock_of ds ys e) (held_at Right m) (part Right now) r.2 j.0 j.1 k g w) d
  eqn_gives (switch at e arms) ds st s lasts names last m now x nk lk r ok k g w d =
      let t = ok.1.0.0 in
      let i = wired types C e names last (held_at Test m) (part Test now) in
      let v = top_is types typed s e t i ok.1.0.1.0 (expr_wires types C among typed kept given K s st lasts names last nk lk e [] t (held_at Test m) (part Test now) r.1 ok.0 ok.1.0.1.0 k.0 g.0 w.0) in
      arm_gives Absent (switch at e arms) arms (top i) s lasts last (part ArmsOf now) x (sym (arm_of types C arms (top i)) ∙ wire_covered types t (top i) (of_arms arms) v ok.1.0.1.1) ok.1.1 d lk w.1
  eqn_gives (reset at b e) ds st s lasts names last m now x nk lk r ok k g w d = block_name types among typed b s (part Body now) x w.1 d
  eqn_gives (automaton at ss) ds st s lasts names last m now x nk lk r ok k g w d =
      let n = (strong_in types C ss ss 0 (selected_in m.memory) names last (held_at StatesOf m) (part StatesOf now)).state in
      let l = strong_less ss ss 0 (selected_in m.memory) names last (held_at StatesOf m) (part StatesOf now) (selected_less ss (m.memory (Next ∷ [])) k.0) in
      state_gives Absent (automaton at ss) ss 0 n s lasts last (part StatesOf now) x (state_there ss 0 n (omega arith) (omega arith)) ok d lk w.1.1.1

  defined_gives : (es : Eqns) (ds : List Decl) (st : Standing) (s : Scope) (lasts : Lasts) (names last : Names) (m : Held) (now : Instant) (x : List ℕ) → NamesAre types s st names → LastsAre types s lasts last → AllRight st ds es → EqnsSound types among s lasts es → EqnsKept types kept s es m.start m.memory → EqnsGiven types given s es m.free → EqnsTyped types typed s es now → IsTrue (some_defines es x) → HasWire types (lookup s.variables x) (wired_defined types C es names last m now x)
  defined_gives no_eqn ds st s lasts names last m now x nk lk r ok k g w d = absurd (cc)
  defined_gives (more_eqns e es) ds st s lasts names last m now x nk lk r ok k g w d =
      by (defines e x) refl (eqn_gives e ds st s lasts names last (held_at Head m) (part Head now) x nk lk r.0 ok.0 k.0 g.0 w.0) (defined_gives es ds st s lasts names last (held_at Tail m) (part Tail now) x nk lk r.1 ok.1 k.1 g.1 w.1) d
    where
      by : (t : Bool) → defines e x ≡ t → (IsTrue (defines e x) → HasWire types (lookup s.variables x) (wired_gives types C e names last (held_at Head m) (part Head now) x)) → (IsTrue (some_defines es x) → HasWire types (lookup s.variables x) (wired_defined types C es names last (held_at Tail m) (part Tail now) x)) → IsTrue (t || some_defines es x)
          → HasWire types (lookup s.variables x) (if t then wired_gives types C e names last (held_at Head m) (part Head now) x else wired_defined types C es names last (held_at Tail m) (part Tail now) x)
      by true q f h d = f q
      by false q f h d = h d

  -- ---- blocks

  mutual
    pub block_wires : (b : Block) (fresh : Bool) (st : Standing) (s : Scope) (lasts : Lasts) (names last : Names) (m : Held) (now : Instant) → OuterAre types among b st s names → LastsAre types s lasts last → BlockRight st b → BlockSound types among s lasts b → BlockKept types kept s b m.start m.memory → BlockGiven types given s b m.free → BlockTyped types typed s b now → BlockTyped types typed s b (wired_block types C b fresh names last m now)
    block_wires (block ds es) fresh st s lasts names last m now outer lk r ok k g w =
        let s' = with_variables s ds in
        let names' = inside_names es names now in
        let last' = lasts_in ds m.memory last in
        let nk' = names_inside types among ds es st s names now ok.0 outer w.0 in
        let lk' = lasts_inside types among ds es s lasts last m.memory ok.0 lk k.0 in (
          (λ x d. subst (λ t. HasWire types (lookup s'.variables x) (if t then wired_defined types C es names' last' (held_at Equations m) (part Equations now) x else Absent)) (sym d)
              (defined_gives es ds (standing_in ds es st) s' (known_lasts ds lasts) names' last' (held_at Equations m) (part Equations now) x nk' lk' r.1 ok.1.1 k.1 g w.1 d)),
          eqns_wires es ds (standing_in ds es st) s' (known_lasts ds lasts) names' last' (held_at Equations m) (part Equations now) nk' lk' r.1 ok.1.1 k.1 g w.1,
        )

    eqns_wires : (es : Eqns) (ds : List Decl) (st : Standing) (s : Scope) (lasts : Lasts) (names last : Names) (m : Held) (now : Instant) → NamesAre types s st names → LastsAre types s lasts last → AllRight st ds es → EqnsSound types among s lasts es → EqnsKept types kept s es m.start m.memory → EqnsGiven types given s es m.free → EqnsTyped types typed s es now → EqnsTyped types typed s es (wired_equations types C es names last m now)
    eqns_wires no_eqn ds st s lasts names last m now nk lk r ok k g w = tt
    eqns_wires (more_eqns e es) ds st s lasts names last m now nk lk r ok k g w = (
      eqn_wires e ds st s lasts names last (held_at Head m) (part Head now) nk lk r.0 ok.0 k.0 g.0 w.0,
      eqns_wires es ds st s lasts names last (held_at Tail m) (part Tail now) nk lk r.1 ok.1 k.1 g.1 w.1,
    )

    eqn_wires : (e : Eqn) (ds : List Decl) (st : Standing) (s : Scope) (lasts : Lasts) (names last : Names) (m : Held) (now : Instant) → NamesAre types s st names → LastsAre types s lasts last → OneRight st ds e → EqnSound types among s lasts e → EqnKept types kept s e m.start m.memory → EqnGiven types given s e m.free → EqnTyped types typed s e now → EqnTyped types typed s e (wired_equation types C e names last m now)
    eqn_wires (define at ys e) ds st s lasts names last m now nk lk r ok k g w =
        let j = right_judged types among s lasts ys e ok in
        right_wires s st lasts names last nk lk e (clock_of ds ys e) (held_at Right m) (part Right now) r.2 j.0 j.1 k g w
    eqn_wires (switch at e arms) ds st s lasts names last m now nk lk r ok k g w = (
      expr_wires types C among typed kept given K s st lasts names last nk lk e [] ok.1.0.0 (held_at Test m) (part Test now) r.1 ok.0 ok.1.0.1.0 k.0 g.0 w.0,
      arms_wires arms (switch at e arms) st s lasts names last (held_at ArmsOf m) (part ArmsOf now) nk lk r.2 ok.1.1 k.1 g.1 w.1,
    )
    eqn_wires (reset at b e) ds st s lasts names last m now nk lk r ok k g w =
        let i = wired types C e names last (held_at Test m) (part Test now) in (
          expr_wires types C among typed kept given K s st lasts names last nk lk e [] ty.Bool (held_at Test m) (part Test now) r.1 ok.0.0 ok.0.1 k.0 g.0 w.0,
          block_wires b (is_true (top i)) st s lasts (within (reset at b e) names last) last (anew types C b (is_true (top i)) (held_at Body m)) (part Body now) (reset_outer types among at b e st s names last nk) lk r.2 ok.1
              (anew_kept types C among typed kept given K b (is_true (top i)) s lasts (held_at Body m) ok.1 k.1) g.1 w.1,
        )
    eqn_wires (automaton at ss) ds st s lasts names last m now nk lk r ok k g w =
        let l = selected_less ss (m.memory (Next ∷ [])) k.0 in
        let j = strong_in types C ss ss 0 (selected_in m.memory) names last (held_at StatesOf m) (part StatesOf now) in
        let v = weak_of types C ss ss 0 j (within (automaton at ss) names last) last (held_at StatesOf m) (part StatesOf now) in
        let jl = strong_less ss ss 0 (selected_in m.memory) names last (held_at StatesOf m) (part StatesOf now) l in
        let vl = weak_less ss ss 0 j (within (automaton at ss) names last) last (held_at StatesOf m) (part StatesOf now) jl in (
          (j.state, (refl, jl)),
          (
            (v.state, (refl, vl)),
            ((v.restart, refl), states_wires ss (automaton at ss) j st s lasts names last (held_at StatesOf m) (part StatesOf now) nk lk r.1 ok k.1.1 g w.1.1.1),
          ),
        )

    arms_wires : (arms : Arms) (e : Eqn) (st : Standing) (s : Scope) (lasts : Lasts) (names last : Names) (m : Held) (now : Instant) → NamesAre types s st names → LastsAre types s lasts last → ArmsRight st arms → ArmsSound types among e s lasts arms → ArmsKept types kept s arms m.start m.memory → ArmsGiven types given s arms m.free → ArmsTyped types typed s arms now → ArmsTyped types typed s arms (wired_arms types C arms (within e names last) last m now)
    arms_wires no_arm e st s lasts names last m now nk lk r ok k g w = tt
    arms_wires (more_arms c b at arms) e st s lasts names last m now nk lk r ok k g w = (
      block_wires b false st s lasts (within e names last) last (held_at Head m) (part Head now) (branch_outer types among e b st s lasts names last ok.0 nk lk) lk r.0 ok.1.0 k.0 g.0 w.0,
      arms_wires arms e st s lasts names last (held_at Tail m) (part Tail now) nk lk r.1 ok.1.1 k.1 g.1 w.1,
    )

    states_wires : (ss : States) (e : Eqn) (j : Jump) (st : Standing) (s : Scope) (lasts : Lasts) (names last : Names) (m : Held) (now : Instant) → NamesAre types s st names → LastsAre types s lasts last → StatesRight st ss → StatesSound types among e s lasts ss → StatesKept types kept s ss m.start m.memory → StatesGiven types given s ss m.free → StatesTyped types typed s ss now → StatesTyped types typed s ss (wired_states types C ss j names (within e names last) last m now)
    states_wires no_state e j st s lasts names last m now nk lk r ok k g w = tt
    states_wires (more_states f b until unless at ss) e j st s lasts names last m now nk lk r ok k g w =
        let mb = anew types C b j.restart (held_at Body (held_at Head m)) in
        let kb = anew_kept types C among typed kept given K b j.restart s lasts (held_at Body (held_at Head m)) ok.1.0 k.0 in
        let outer = branch_outer types among e b st s lasts names last ok.0 nk lk in (
          block_wires b j.restart st s lasts (within e names last) last mb (part Body (part Head now)) outer lk r.0 ok.1.0 kb g.0 w.0,
          (
            tests_wires types C among typed kept given K (inside s b) (standing_of b st) (known_of b lasts) (read_of b (within e names last) (part Body (part Head now))) (lasts_of b mb.memory last)
                (seen_in types among typed b st s lasts (within e names last) (part Body (part Head now)) ok.1.0 outer w.0) (lasts_seen types among kept b s lasts last mb.start mb.memory ok.1.0 lk kb)
                until (held_at Until (held_at Head m)) (part Until (part Head now)) r.1 ok.1.1.0 k.1.0 g.1.0 w.1.0,
            (
              tests_wires types C among typed kept given K s st lasts names last nk lk unless (held_at Unless (held_at Head m)) (part Unless (part Head now)) r.2 ok.1.1.1.0 k.1.1.0 g.1.1.0 w.1.1.0,
              states_wires ss e j st s lasts names last (held_at Tail m) (part Tail now) nk lk r.3 ok.1.1.1.1 k.1.1.1 g.1.1.1 w.1.1.1,
            ),
          ),
        )
