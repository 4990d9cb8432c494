-- What is given at places of controllable variables is looked at only there: without any, two instants of given values that agree elsewhere are one.
use Rattle.std.proofs.Common.{◌≡◌, ℕ, suc, List, [], ◌∷◌, map, refl, ap, ap₂, ◌∙◌}
use Rattle.std.proofs.Math.Path.{fun_ext}
use Rattle.std.specs.Prelude.{⊤, Bool, false, IsTrue, if◌then◌else◌, nat_eq, Option, None, Some}
use Rattle.std.specs.Str.{bytes_eq}
use Rattle.hp_base.specs.declared.value.Value.{Value}
use Rattle.hp_base.specs.declared.value.Value.TheVariants.{Absent, Nil, B}
use Rattle.hp_tree.specs.declared.block.Trans.{Trans}
use Rattle.hp_tree.specs.declared.program.Item.{Item}
use Rattle.hp_tree.specs.declared.program.Item.TheVariants.{TypeItem, NodeItem}
use Rattle.hp_tree.specs.Expressions.{Expr, constant, variable, last_of, one, two, choose, pre, fby, arrow, when_is, merge, call, Exprs, no_expr, more_exprs, Parts, no_part, more_parts}
use Rattle.hp_tree.specs.Blocks.{Decl, Block, block, Eqns, no_eqn, more_eqns, Eqn, define, switch, reset, automaton, Arms, no_arm, more_arms, States, no_state, more_states}
use Rattle.hp_tree.specs.Programs.{TypeDecl, Contract, Node}
use Rattle.hp_tree.specs.Operators.{Reading, is_cons, is_true, if_of, constant_of}
use Rattle.hp_tree.specs.Instant.{Controls, Body, Observer, Assume, Enforce, Named, Equations, Head, Tail, Right, Test, Arms as ArmsOf, States as StatesOf, Until, Unless, First, Second, Third, Args, Instance, Place, Instant, Past, Given, at, part, parts, top, since, own, newest, at_first, nothing, with_one, with_two, with_three, in_row, with_row, with_instance, of_two, in_block, in_right, with_arms, with_body, in_state, with_words, in_observer, in_node, Clock, holds, without}
use Rattle.hp_tree.specs.Meaning.{Names, Nodes, declares, defines, some_defines, inside, within, lasts, clock_of, Jump, state_word, selected, first_true, from_state, input_of, only_output, expr, exprs, merged, conditions, strong, read_in, last_in, weak_in, weak, from_arm, right, gives, defined, scope, equations, equation, arm, states, observer, controls_of, given_to, node, nodes}
use Rattle.law_equations.specs.Flattened.Lifted.{uncontrolled}
use Rattle.hp_meaning.proofs.CausalLemmas.Choices.{chosen}

abbrev given : Past → Instant → Given
given past free = record { past = past; free = free }

-- given values that agree but at controllable variables
abbrev pub AgreeElsewhere : Instant → Instant → Type 0
AgreeElsewhere free other = (p : Place) → IsTrue (uncontrolled p) → free p ≡ other p

module _ (types : List TypeDecl) (R : Reading) (N : Nodes)
    (same : (f : List ℕ) (vs : List Value) (past : Past) (free other now : Instant) → AgreeElsewhere free other → N.instant f vs (given past free) now ≡ N.instant f vs (given past other) now) where
  abbrev on : Clock → Names → Value → Value
  on clock names v = if holds types clock names then v else Absent

  mutual
    expr_same : (e : Expr) (clock : Clock) (names last : Names) (past : Past) (free other now : Instant) → AgreeElsewhere free other → expr types R N e clock names last (given past free) now ≡ expr types R N e clock names last (given past other) now
    expr_same (constant s c) clock names last past free other now u = refl
    expr_same (variable s x) clock names last past free other now u = refl
    expr_same (last_of s x) clock names last past free other now u = refl
    expr_same (one s o a) clock names last past free other now u =
        ap (λ (i : Instant). with_one (R.one o (top i)) i) (expr_same a clock names last (parts First past) (part First free) (part First other) (part First now) (λ p. u (First ∷ p)))
    expr_same (two s o a b) clock names last past free other now u =
        let t = expr_same a clock names last (parts First past) (part First free) (part First other) (part First now) (λ p. u (First ∷ p)) in
        let w = expr_same b clock names last (parts Second past) (part Second free) (part Second other) (part Second now) (λ p. u (Second ∷ p)) in
        λ d. with_two (R.two o (u [] refl d) (top (t d)) (top (w d))) (t d) (w d)
    expr_same (choose s a b c) clock names last past free other now u =
        let t = expr_same a clock names last (parts First past) (part First free) (part First other) (part First now) (λ p. u (First ∷ p)) in
        let w = expr_same b clock names last (parts Second past) (part Second free) (part Second other) (part Second now) (λ p. u (Second ∷ p)) in
        let z = expr_same c clock names last (parts Third past) (part Third free) (part Third other) (part Third now) (λ p. u (Third ∷ p)) in
        λ d. with_three (if_of (top (t d)) (top (w d)) (top (z d))) (t d) (w d) (z d)
    expr_same (pre s a) clock names last past free other now u =
        let t = expr_same a clock names last (parts First past) (part First free) (part First other) (part First now) (λ p. u (First ∷ p)) in
        λ d. with_one (on clock names (newest (R.undefined (u [] refl d)) (parts First past))) (t d)
    expr_same (fby s a b) clock names last past free other now u =
        let t = expr_same a clock names last (parts First past) (part First free) (part First other) (part First now) (λ p. u (First ∷ p)) in
        let w = expr_same b clock names last (parts Second past) (part Second free) (part Second other) (part Second now) (λ p. u (Second ∷ p)) in
        λ d. with_two (on clock names (at_first (parts First past) (top (t d)) (newest Nil (parts Second past)))) (t d) (w d)
    expr_same (arrow s a b) clock names last past free other now u =
        let t = expr_same a clock names last (parts First past) (part First free) (part First other) (part First now) (λ p. u (First ∷ p)) in
        let w = expr_same b clock names last (parts Second past) (part Second free) (part Second other) (part Second now) (λ p. u (Second ∷ p)) in
        λ d. with_two (at_first (parts First past) (top (t d)) (top (w d))) (t d) (w d)
    expr_same (when_is s a c x) clock names last past free other now u =
        ap (λ (i : Instant). with_one (if is_cons types (names x) c then top i else Absent) i) (expr_same a (without clock) names last (parts First past) (part First free) (part First other) (part First now) (λ p. u (First ∷ p)))
    expr_same (merge s x ps) clock names last past free other now u =
        ap (λ is. with_row (chosen types ps (names x) is) is) (parts_same ps x clock names last (parts Args past) (part Args free) (part Args other) (part Args now) (λ p. u (Args ∷ p)))
    expr_same (call s f inlined es) clock names last past free other now u =
        let is = exprs_same es clock names last (parts Args past) (part Args free) (part Args other) (part Args now) (λ p. u (Args ∷ p)) in
        let here = holds types clock names in
        λ d. with_instance (only_output (N.outputs f) (if here then same f (map top (is d)) (own (parts Instance past)) (part Instance free) (part Instance other) (part Instance now) (λ p. u (Instance ∷ p)) d else nothing)) (is d)
        (if here then same f (map top (is d)) (own (parts Instance past)) (part Instance free) (part Instance other) (part Instance now) (λ p. u (Instance ∷ p)) d else nothing)

    exprs_same : (es : Exprs) (clock : Clock) (names last : Names) (past : Past) (free other now : Instant) → AgreeElsewhere free other → exprs types R N es clock names last (given past free) now ≡ exprs types R N es clock names last (given past other) now
    exprs_same no_expr clock names last past free other now u = refl
    exprs_same (more_exprs e es) clock names last past free other now u = ap₂ (λ t ts. t ∷ ts) (expr_same e clock names last (parts Head past) (part Head free) (part Head other) (part Head now) (λ p. u (Head ∷ p))) (exprs_same es clock names last (parts Tail past) (part Tail free) (part Tail other) (part Tail now) (λ p. u (Tail ∷ p)))

    parts_same : (ps : Parts) (x : List ℕ) (clock : Clock) (names last : Names) (past : Past) (free other now : Instant) → AgreeElsewhere free other → merged types R N ps x clock names last (given past free) now ≡ merged types R N ps x clock names last (given past other) now
    parts_same no_part x clock names last past free other now u = refl
    parts_same (more_parts c e ps) x clock names last past free other now u = ap₂ (λ t ts. t ∷ ts) (expr_same e ((c, x) ∷ clock) names last (parts Head past) (part Head free) (part Head other) (part Head now) (λ p. u (Head ∷ p))) (parts_same ps x clock names last (parts Tail past) (part Tail free) (part Tail other) (part Tail now) (λ p. u (Tail ∷ p)))

  conditions_same : (ts : List Trans) (names last : Names) (past : Past) (free other now : Instant) → AgreeElsewhere free other → conditions types R N ts names last (given past free) now ≡ conditions types R N ts names last (given past other) now
  conditions_same [] names last past free other now u = refl
  conditions_same (t ∷ ts) names last past free other now u = ap₂ (λ t ts. t ∷ ts) (expr_same t.cond [] names last (parts Head past) (part Head free) (part Head other) (part Head now) (λ p. u (Head ∷ p))) (conditions_same ts names last (parts Tail past) (part Tail free) (part Tail other) (part Tail now) (λ p. u (Tail ∷ p)))

  strong_same : (all ss : States) (k : ℕ) (j : Jump) (names last : Names) (past : Past) (free other now : Instant) → AgreeElsewhere free other → strong types R N all ss k j names last (given past free) now ≡ strong types R N all ss k j names last (given past other) now
  strong_same all no_state k j names last past free other now u = refl
  strong_same all (more_states f b until unless s ss) k j names last past free other now u =
      ap₂ (λ t w. if nat_eq k j.state then first_true all unless (map top t) j else w) (conditions_same unless names last (parts Unless (parts Head past)) (part Unless (part Head free)) (part Unless (part Head other)) (part Unless (part Head now)) (λ p. u (Head ∷ Unless ∷ p))) (strong_same all ss (suc k) j names last (parts Tail past) (part Tail free) (part Tail other) (part Tail now) (λ p. u (Tail ∷ p)))

  weak_in_same : (b : Block) (until : List Trans) (j : Jump) (names last : Names) (past : Past) (free other now : Instant) → AgreeElsewhere free other → weak_in types R N b until j names last (given past free) now ≡ weak_in types R N b until j names last (given past other) now
  weak_in_same b until j names last past free other now u = conditions_same until (read_in types R N b names (part Body now)) (last_in types R N b (since j.restart (at Body (given past free))).past last) (parts Until past) (part Until free) (part Until other) (part Until now) (λ p. u (Until ∷ p))

  weak_same : (all ss : States) (k : ℕ) (j : Jump) (names last : Names) (past : Past) (free other now : Instant) → AgreeElsewhere free other → weak types R N all ss k j names last (given past free) now ≡ weak types R N all ss k j names last (given past other) now
  weak_same all no_state k j names last past free other now u = refl
  weak_same all (more_states f b until unless s ss) k j names last past free other now u =
      ap₂ (λ is w. if nat_eq k j.state then first_true all until (map top is) (record { state = j.state; restart = false }) else w) (weak_in_same b until j names last (parts Head past) (part Head free) (part Head other) (part Head now) (λ p. u (Head ∷ p))) (weak_same all ss (suc k) j names last (parts Tail past) (part Tail free) (part Tail other) (part Tail now) (λ p. u (Tail ∷ p)))

  gives_same : (ds : List Decl) (e : Eqn) (names last : Names) (past : Past) (free other now : Instant) → AgreeElsewhere free other → (x : List ℕ) → gives types R N ds e names last (given past free) now x ≡ gives types R N ds e names last (given past other) now x
  gives_same ds (define s ys e) names last past free other now u x = ap (λ t. right types R N ys e t x) (expr_same e (clock_of ds ys e) names last (parts Right past) (part Right free) (part Right other) (part Right now) (λ p. u (Right ∷ p)))
  gives_same ds (switch s e arms) names last past free other now u x = ap (λ t. from_arm types R N arms (top t) last (part ArmsOf now) x) (expr_same e [] names last (parts Test past) (part Test free) (part Test other) (part Test now) (λ p. u (Test ∷ p)))
  gives_same ds (reset s b e) names last past free other now u x = refl
  gives_same ds (automaton s ss) names last past free other now u x = ap (λ (j : Jump). from_state ss 0 j.state last (part StatesOf now) x) (strong_same ss ss 0 (selected past) names last (parts StatesOf past) (part StatesOf free) (part StatesOf other) (part StatesOf now) (λ p. u (StatesOf ∷ p)))

  defined_same : (ds : List Decl) (es : Eqns) (names last : Names) (past : Past) (free other now : Instant) → AgreeElsewhere free other → (x : List ℕ) → defined types R N ds es names last (given past free) now x ≡ defined types R N ds es names last (given past other) now x
  defined_same ds no_eqn names last past free other now u x = refl
  defined_same ds (more_eqns e es) names last past free other now u x = ap₂ (λ v w. if defines e x then v else w) (gives_same ds e names last (parts Head past) (part Head free) (part Head other) (part Head now) (λ p. u (Head ∷ p)) x) (defined_same ds es names last (parts Tail past) (part Tail free) (part Tail other) (part Tail now) (λ p. u (Tail ∷ p)) x)

  mutual
    block_same : (b : Block) (fresh : Bool) (names last : Names) (past : Past) (free other now : Instant) → AgreeElsewhere free other → scope types R N b fresh names last (given past free) now ≡ scope types R N b fresh names last (given past other) now
    block_same (block ds es) fresh names last past free other now u =
        let last' = lasts (λ c. R.constant (constant_of types c)) ds past last in
        ap₂ (λ f t. in_block f (B fresh) t)
        (fun_ext (λ x. ap (λ v. if some_defines es x then v else Absent) (defined_same ds es (inside es names now) last' (parts Equations past) (part Equations free) (part Equations other) (part Equations now) (λ p. u (Equations ∷ p)) x)))
        (equations_same ds es (inside es names now) last' (parts Equations past) (part Equations free) (part Equations other) (part Equations now) (λ p. u (Equations ∷ p)))

    equations_same : (ds : List Decl) (es : Eqns) (names last : Names) (past : Past) (free other now : Instant) → AgreeElsewhere free other → equations types R N ds es names last (given past free) now ≡ equations types R N ds es names last (given past other) now
    equations_same ds no_eqn names last past free other now u = refl
    equations_same ds (more_eqns e es) names last past free other now u = ap₂ of_two (equation_same ds e names last (parts Head past) (part Head free) (part Head other) (part Head now) (λ p. u (Head ∷ p))) (equations_same ds es names last (parts Tail past) (part Tail free) (part Tail other) (part Tail now) (λ p. u (Tail ∷ p)))

    equation_same : (ds : List Decl) (e : Eqn) (names last : Names) (past : Past) (free other now : Instant) → AgreeElsewhere free other → equation types R N ds e names last (given past free) now ≡ equation types R N ds e names last (given past other) now
    equation_same ds (define s ys e) names last past free other now u = ap in_right (expr_same e (clock_of ds ys e) names last (parts Right past) (part Right free) (part Right other) (part Right now) (λ p. u (Right ∷ p)))
    equation_same ds (switch s e arms) names last past free other now u =
        let i = expr types R N e [] names last (at Test (given past free)) (part Test now) in
        ap (with_arms i) (arms_same arms (top i) (within (switch s e arms) names last) last (parts ArmsOf past) (part ArmsOf free) (part ArmsOf other) (part ArmsOf now) (λ p. u (ArmsOf ∷ p)))
        ∙ ap (λ t. with_arms t (arm types R N arms (top t) (within (switch s e arms) names last) last (at ArmsOf (given past other)) (part ArmsOf now))) (expr_same e [] names last (parts Test past) (part Test free) (part Test other) (part Test now) (λ p. u (Test ∷ p)))
    equation_same ds (reset s b e) names last past free other now u =
        let i = expr types R N e [] names last (at Test (given past free)) (part Test now) in
        ap (with_body i) (block_same b (is_true (top i)) (within (reset s b e) names last) last (if (is_true (top i)) then [] else own (parts Body past)) (part Body free) (part Body other) (part Body now) (λ p. u (Body ∷ p)))
        ∙ ap (λ t. with_body t (scope types R N b (is_true (top t)) (within (reset s b e) names last) last (since (is_true (top t)) (at Body (given past other))) (part Body now))) (expr_same e [] names last (parts Test past) (part Test free) (part Test other) (part Test now) (λ p. u (Test ∷ p)))
    equation_same ds (automaton s ss) names last past free other now u =
        let past' = parts StatesOf past in
        let free' = part StatesOf free in
        let other' = part StatesOf other in
        let now' = part StatesOf now in
        let names' = within (automaton s ss) names last in
        let j0 = strong types R N ss ss 0 (selected past) names last (given past' free') now' in
        let k = λ (p : Place). u (StatesOf ∷ p) in
        ap₂ (λ (w : Jump) (i : Instant). with_words (state_word j0.state) (state_word w.state) (B w.restart) i)
        (weak_same ss ss 0 j0 names' last past' free' other' now' k)
        (states_same ss 0 j0 names names' last past' free' other' now' k)
        ∙ ap (λ (j : Jump). with_words (state_word j.state) (state_word (weak types R N ss ss 0 j names' last (given past' other') now').state) (B (weak types R N ss ss 0 j names' last (given past' other') now').restart) (states types R N ss 0 j names names' last (given past' other') now'))
        (strong_same ss ss 0 (selected past) names last past' free' other' now' k)

    arms_same : (arms : Arms) (v : Value) (names last : Names) (past : Past) (free other now : Instant) → AgreeElsewhere free other → arm types R N arms v names last (given past free) now ≡ arm types R N arms v names last (given past other) now
    arms_same no_arm v names last past free other now u = refl
    arms_same (more_arms c b s arms) v names last past free other now u =
        ap₂ of_two
        (ap (λ i. if is_cons types v c then i else nothing) (block_same b false names last (own (parts Head past)) (part Head free) (part Head other) (part Head now) (λ p. u (Head ∷ p))))
        (arms_same arms v names last (parts Tail past) (part Tail free) (part Tail other) (part Tail now) (λ p. u (Tail ∷ p)))

    states_same : (ss : States) (k : ℕ) (j : Jump) (out names last : Names) (past : Past) (free other now : Instant) → AgreeElsewhere free other → states types R N ss k j out names last (given past free) now ≡ states types R N ss k j out names last (given past other) now
    states_same no_state k j out names last past free other now u = refl
    states_same (more_states f b until unless s ss) k j out names last past free other now u =
        let t1 = block_same b j.restart names last (if j.restart then [] else own (parts Body (parts Head past))) (part Body (part Head free)) (part Body (part Head other)) (part Body (part Head now)) (λ p. u (Head ∷ Body ∷ p)) in
        let t2 = weak_in_same b until j names last (parts Head past) (part Head free) (part Head other) (part Head now) (λ p. u (Head ∷ p)) in
        let t3 = conditions_same unless out last (parts Unless (parts Head past)) (part Unless (part Head free)) (part Unless (part Head other)) (part Unless (part Head now)) (λ p. u (Head ∷ Unless ∷ p)) in
        let t4 = states_same ss (suc k) j out names last (parts Tail past) (part Tail free) (part Tail other) (part Tail now) (λ p. u (Tail ∷ p)) in
        λ d. of_two (in_state (if nat_eq k j.state then t1 d else nothing) (if nat_eq k j.state then in_row (t2 d) else nothing) (in_row (t3 d))) (t4 d)

  abbrev told : Option Expr → Names → Names → Given → Instant → Instant
  told None names last g now = nothing
  told (Some e) names last g now = expr types R N e [] names last g now

  told_same : (e : Option Expr) (names last : Names) (past : Past) (free other now : Instant) → AgreeElsewhere free other → told e names last (given past free) now ≡ told e names last (given past other) now
  told_same None names last past free other now u = refl
  told_same (Some e) names last past free other now u = expr_same e [] names last past free other now u

  observer_same : (c : Option Contract) (names last : Names) (past : Past) (free other now : Instant) → AgreeElsewhere free other → observer types R N c names last (given past free) now ≡ observer types R N c names last (given past other) now
  observer_same None names last past free other now u = refl
  observer_same (Some c) names last past free other now u =
      let own_names = read_in types R N c.body names (part Observer now) in
      let own_last = last_in types R N c.body (since false (at Observer (given past free))).past last in
      let t = block_same c.body false names last (own (parts Observer past)) (part Observer free) (part Observer other) (part Observer now) (λ p. u (Observer ∷ p)) in
      let w = told_same c.assume own_names own_last (parts Assume past) (part Assume free) (part Assume other) (part Assume now) (λ p. u (Assume ∷ p)) in
      let z = told_same c.enforce own_names own_last (parts Enforce past) (part Enforce free) (part Enforce other) (part Enforce now) (λ p. u (Enforce ∷ p)) in
      λ d. in_observer (t d) (w d) (z d)

  no_values : (ds : List Decl) (free other : Instant) → ds ≡ [] → given_to types R N ds free ≡ given_to types R N ds other
  no_values [] free other e = refl
  no_values (d ∷ ds) free other e = absurd (cc)

  pub node_same : (n : Node) → controls_of n.contract ≡ [] → (vs : List Value) (past : Past) (free other now : Instant) → AgreeElsewhere free other → node types R N n vs (given past free) now ≡ node types R N n vs (given past other) now
  node_same n none vs past free other now u =
      let controls = given_to types R N (controls_of n.contract) (part Controls free) in
      let outputs' : Names = λ x. if declares n.outputs x then now (Body ∷ Named x ∷ []) else Absent in
      let outer : Names = input_of n.inputs vs (λ x. Absent) in
      let last : Names = lasts (λ c. R.constant (constant_of types c)) n.outputs past (λ x. Absent) in
      let names : Names = λ x. if declares n.outputs x then now (Named x ∷ []) else outer x in
      ap₂ (λ b c. in_node outputs' vs controls b c)
      (block_same n.body false (input_of (controls_of n.contract) controls outer) last (own (parts Body past)) (part Body free) (part Body other) (part Body now) (λ p. u (Body ∷ p)))
      (observer_same n.contract names last past free other now u)
      ∙ ap (λ c. in_node outputs' vs c (scope types R N n.body false (input_of (controls_of n.contract) c outer) last (since false (at Body (given past other))) (part Body now)) (observer types R N n.contract names last (given past other) now)) (no_values (controls_of n.contract) (part Controls free) (part Controls other) none)

-- no node of some items, the last one first, has controllable variables
abbrev pub Uncontrolled : List Item → Type 0
Uncontrolled [] = ⊤
Uncontrolled (TypeItem t ∷ items) = Uncontrolled items
Uncontrolled (NodeItem n ∷ items) = (controls_of n.contract ≡ []) × Uncontrolled items

pub instant_same : (types : List TypeDecl) (R : Reading) (items : List Item) → Uncontrolled items → (f : List ℕ) (vs : List Value) (past : Past) (free other now : Instant) → AgreeElsewhere free other
    → (nodes types R items).instant f vs (given past free) now ≡ (nodes types R items).instant f vs (given past other) now
instant_same types R [] none f vs past free other now u = refl
instant_same types R (TypeItem t ∷ items) none f vs past free other now u = instant_same types R items none f vs past free other now u
instant_same types R (NodeItem n ∷ items) none f vs past free other now u =
    ap₂ (λ (i j : Instant). if bytes_eq n.name f then i else j)
    (node_same types R (nodes types R items) (λ f vs past free other now u. instant_same types R items none.1 f vs past free other now u) n none.0 vs past free other now u)
    (instant_same types R items none.1 f vs past free other now u)
