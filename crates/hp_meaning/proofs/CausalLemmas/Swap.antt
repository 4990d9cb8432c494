-- Two readings of calls that agree where an instance meets its node agree where a node is met; so with other given values, where none of these is looked at.
use Rattle.std.proofs.Common.{◌≡◌, ℕ, suc, List, [], ◌∷◌, map, refl, ap, ap₂, ◌∙◌}
use Rattle.std.proofs.Math.Path.{fun_ext}
use Rattle.std.specs.Prelude.{Bool, true, false, if◌then◌else◌, nat_eq, Option, None, Some}
use Rattle.hp_base.specs.declared.value.Value.{Value}
use Rattle.hp_base.specs.declared.value.Value.TheVariants.{Absent, Nil, B}
use Rattle.hp_tree.specs.declared.block.Trans.{Trans}
use Rattle.hp_tree.specs.declared.expr.Op2.{Op2}
use Rattle.hp_tree.specs.Expressions.{Expr, constant, variable, last_of, one, two, choose, pre, fby, arrow, when_is, merge, call, Exprs, no_expr, more_exprs, Parts, no_part, more_parts}
use Rattle.hp_tree.specs.Blocks.{Decl, Block, block, Eqns, no_eqn, more_eqns, Eqn, define, switch, reset, automaton, Arms, no_arm, more_arms, States, no_state, more_states}
use Rattle.hp_tree.specs.Programs.{TypeDecl, Contract, Node}
use Rattle.hp_tree.specs.Operators.{Reading, is_cons, is_true, if_of, constant_of}
use Rattle.hp_tree.specs.Instant.{Step, Controls, Body, Observer, Assume, Enforce, Named, Equations, Head, Tail, Right, Test, Arms as ArmsOf, States as StatesOf, Until, Unless, First, Second, Third, Args, Instance, Place, Instant, Past, Given, at, part, parts, top, since, own, newest, at_first, nothing, with_one, with_two, with_three, in_row, with_row, with_instance, of_two, in_block, in_right, with_arms, with_body, in_state, with_words, in_observer, in_node, Clock, holds, without}
use Rattle.hp_tree.specs.Meaning.{Names, Nodes, declares, defines, some_defines, inside, within, lasts, clock_of, Jump, state_word, selected, first_true, from_state, input_of, only_output, expr, exprs, merged, conditions, strong, read_in, last_in, weak_in, weak, from_arm, right, gives, defined, scope, equations, equation, arm, states, observer, controls_of, given_to, node}
use Rattle.hp_meaning.proofs.CausalLemmas.Fix.{Fixed}
use Rattle.hp_meaning.proofs.CausalLemmas.Choices.{chosen}

abbrev pub Instances : Type 0
Instances = List ℕ → List Value → Given → Instant → Instant

abbrev pub with_instances : (List ℕ → List (List ℕ)) → Instances → Nodes
with_instances outputs n = record { outputs = outputs; instant = n }

abbrev pub Agree : Instances → Instances → Type 0
Agree n m = (f : List ℕ) (inputs : List Value) (g : Given) (i : Instant) → Fixed (n f inputs g) i → (p : Place) → n f inputs g i p ≡ m f inputs g i p

pub if_swap : (d : Bool) (f g now : Instant) → (((p : Place) → now p ≡ f p) → f ≡ g) → ((p : Place) → now p ≡ (if d then f else nothing) p) → (if d then f else nothing) ≡ (if d then g else nothing)
if_swap true f g now k h = k h
if_swap false f g now k h = refl

-- a choice between values, where the first is there
pub if_first : {A : Type 0} (d : Bool) (f now : Instant) (x x' y y' : A) → ((p : Place) → now p ≡ (if d then f else nothing) p) → (((p : Place) → now p ≡ f p) → x ≡ x') → y ≡ y' → (if d then x else y) ≡ (if d then x' else y')
if_first true f now x x' y y' h k e = k h
if_first false f now x x' y y' h k e = e

abbrev pub given : Past → Instant → Given
given past free = record { past = past; free = free }

-- so with two instants of given values between which a relation holds
abbrev pub AgreeWhere : (Instant → Instant → Instant → Type 0) → Instances → Instances → Type 0
AgreeWhere Q n m = (f : List ℕ) (inputs : List Value) (past : Past) (free other i : Instant) → Q free other i → Fixed (n f inputs (given past free)) i → (p : Place) → n f inputs (given past free) i p ≡ m f inputs (given past other) i p

-- a relation between what is given, what else is given and the instant, which holds of parts
abbrev pub OfParts : (Instant → Instant → Instant → Type 0) → Type 0
OfParts Q = (s : Step) (free other now : Instant) → Q free other now → Q (part s free) (part s other) (part s now)

-- Where it holds, an operator gives the same, and so does `pre` without a past.
abbrev pub SameOperators : (Instant → Instant → Instant → Type 0) → Reading → Type 0
SameOperators Q R = (o : Op2) (free other now : Instant) (v w : Value) → Q free other now → now [] ≡ R.two o (top free) v w → now (First ∷ []) ≡ v → now (Second ∷ []) ≡ w → R.two o (top free) v w ≡ R.two o (top other) v w

abbrev pub SameUndefined : (Instant → Instant → Instant → Type 0) → Reading → Type 0
SameUndefined Q R = (free other now : Instant) → Q free other now → R.undefined (top free) ≡ R.undefined (top other)

module _ (types : List TypeDecl) (R : Reading) (outputs : List ℕ → List (List ℕ)) (Q : Instant → Instant → Instant → Type 0) (closed : OfParts Q) (two_same : SameOperators Q R) (undefined_same : SameUndefined Q R) (Q' : Instant → Instant → Instant → Type 0) (enters : (free other now : Instant) → Q free other now → Q' (part Instance free) (part Instance other) (part Instance now)) (n m : Instances) (agree : AgreeWhere Q' n m) where
  abbrev N : Nodes
  N = with_instances outputs n

  abbrev M : Nodes
  M = with_instances outputs m

  abbrev on : Clock → Names → Value → Value
  on clock names v = if holds types clock names then v else Absent

  mutual
    expr_swap : (e : Expr) (clock : Clock) (names last : Names) (past : Past) (free other now : Instant) → Q free other now → Fixed (expr types R N e clock names last (given past free)) now → expr types R N e clock names last (given past free) now ≡ expr types R M e clock names last (given past other) now
    expr_swap (constant s c) clock names last past free other now q h = refl
    expr_swap (variable s x) clock names last past free other now q h = refl
    expr_swap (last_of s x) clock names last past free other now q h = refl
    expr_swap (one s o a) clock names last past free other now q h =
        let t = expr_swap a clock names last (parts First past) (part First free) (part First other) (part First now) (closed First free other now q) (λ p. h (First ∷ p)) in
        λ d. with_one (R.one o (top (t d))) (t d)
    expr_swap (two s o a b) clock names last past free other now q h =
        let t = expr_swap a clock names last (parts First past) (part First free) (part First other) (part First now) (closed First free other now q) (λ p. h (First ∷ p)) in
        let u = expr_swap b clock names last (parts Second past) (part Second free) (part Second other) (part Second now) (closed Second free other now q) (λ p. h (Second ∷ p)) in
        let i = expr types R N a clock names last (at First (given past free)) (part First now) in
        let j = expr types R N b clock names last (at Second (given past free)) (part Second now) in
        ap (λ v. with_two v i j) (two_same o free other now (top i) (top j) q (h []) (h (First ∷ [])) (h (Second ∷ [])))
        ∙ λ d. with_two (R.two o (top other) (top (t d)) (top (u d))) (t d) (u d)
    expr_swap (choose s a b c) clock names last past free other now q h =
        let t = expr_swap a clock names last (parts First past) (part First free) (part First other) (part First now) (closed First free other now q) (λ p. h (First ∷ p)) in
        let u = expr_swap b clock names last (parts Second past) (part Second free) (part Second other) (part Second now) (closed Second free other now q) (λ p. h (Second ∷ p)) in
        let w = expr_swap c clock names last (parts Third past) (part Third free) (part Third other) (part Third now) (closed Third free other now q) (λ p. h (Third ∷ p)) in
        λ d. with_three (if_of (top (t d)) (top (u d)) (top (w d))) (t d) (u d) (w d)
    expr_swap (pre s a) clock names last past free other now q h =
        ap₂ (λ v i. with_one (on clock names (newest v (parts First past))) i)
        (undefined_same free other now q)
        (expr_swap a clock names last (parts First past) (part First free) (part First other) (part First now) (closed First free other now q) (λ p. h (First ∷ p)))
    expr_swap (fby s a b) clock names last past free other now q h =
        let t = expr_swap a clock names last (parts First past) (part First free) (part First other) (part First now) (closed First free other now q) (λ p. h (First ∷ p)) in
        let u = expr_swap b clock names last (parts Second past) (part Second free) (part Second other) (part Second now) (closed Second free other now q) (λ p. h (Second ∷ p)) in
        λ d. with_two (on clock names (at_first (parts First past) (top (t d)) (newest Nil (parts Second past)))) (t d) (u d)
    expr_swap (arrow s a b) clock names last past free other now q h =
        let t = expr_swap a clock names last (parts First past) (part First free) (part First other) (part First now) (closed First free other now q) (λ p. h (First ∷ p)) in
        let u = expr_swap b clock names last (parts Second past) (part Second free) (part Second other) (part Second now) (closed Second free other now q) (λ p. h (Second ∷ p)) in
        λ d. with_two (at_first (parts First past) (top (t d)) (top (u d))) (t d) (u d)
    expr_swap (when_is s a c x) clock names last past free other now q h =
        let t = expr_swap a (without clock) names last (parts First past) (part First free) (part First other) (part First now) (closed First free other now q) (λ p. h (First ∷ p)) in
        λ d. with_one (if is_cons types (names x) c then top (t d) else Absent) (t d)
    expr_swap (merge s x ps) clock names last past free other now q h =
        ap (λ is. with_row (chosen types ps (names x) is) is) (parts_swap ps x clock names last (parts Args past) (part Args free) (part Args other) (part Args now) (closed Args free other now q) (λ p. h (Args ∷ p)))
    expr_swap (call s f inlined es) clock names last past free other now q h =
        let is = exprs types R N es clock names last (at Args (given past free)) (part Args now) in
        let c = holds types clock names in
        ap (λ t. with_instance (only_output (outputs f) t) is t)
        (if_swap c _ _ (part Instance now) (λ k. fun_ext (agree f (map top is) (own (parts Instance past)) (part Instance free) (part Instance other) (part Instance now) (enters free other now q) k)) (λ p. h (Instance ∷ p)))
        ∙ ap (λ ts. let i = if c then m f (map top ts) (since false (at Instance (given past other))) (part Instance now) else nothing in with_instance (only_output (outputs f) i) ts i)
        (exprs_swap es clock names last (parts Args past) (part Args free) (part Args other) (part Args now) (closed Args free other now q) (λ p. h (Args ∷ p)))

    exprs_swap : (es : Exprs) (clock : Clock) (names last : Names) (past : Past) (free other now : Instant) → Q free other now → Fixed (λ i. in_row (exprs types R N es clock names last (given past free) i)) now → exprs types R N es clock names last (given past free) now ≡ exprs types R M es clock names last (given past other) now
    exprs_swap no_expr clock names last past free other now q h = refl
    exprs_swap (more_exprs e es) clock names last past free other now q h =
        ap₂ (λ t ts. t ∷ ts) (expr_swap e clock names last (parts Head past) (part Head free) (part Head other) (part Head now) (closed Head free other now q) (λ p. h (Head ∷ p))) (exprs_swap es clock names last (parts Tail past) (part Tail free) (part Tail other) (part Tail now) (closed Tail free other now q) (λ p. h (Tail ∷ p)))

    parts_swap : (ps : Parts) (x : List ℕ) (clock : Clock) (names last : Names) (past : Past) (free other now : Instant) → Q free other now → Fixed (λ i. in_row (merged types R N ps x clock names last (given past free) i)) now → merged types R N ps x clock names last (given past free) now ≡ merged types R M ps x clock names last (given past other) now
    parts_swap no_part x clock names last past free other now q h = refl
    parts_swap (more_parts c e ps) x clock names last past free other now q h =
        ap₂ (λ t ts. t ∷ ts) (expr_swap e ((c, x) ∷ clock) names last (parts Head past) (part Head free) (part Head other) (part Head now) (closed Head free other now q) (λ p. h (Head ∷ p))) (parts_swap ps x clock names last (parts Tail past) (part Tail free) (part Tail other) (part Tail now) (closed Tail free other now q) (λ p. h (Tail ∷ p)))

  conditions_swap : (ts : List Trans) (names last : Names) (past : Past) (free other now : Instant) → Q free other now → Fixed (λ i. in_row (conditions types R N ts names last (given past free) i)) now → conditions types R N ts names last (given past free) now ≡ conditions types R M ts names last (given past other) now
  conditions_swap [] names last past free other now q h = refl
  conditions_swap (t ∷ ts) names last past free other now q h =
      ap₂ (λ t ts. t ∷ ts) (expr_swap t.cond [] names last (parts Head past) (part Head free) (part Head other) (part Head now) (closed Head free other now q) (λ p. h (Head ∷ p))) (conditions_swap ts names last (parts Tail past) (part Tail free) (part Tail other) (part Tail now) (closed Tail free other now q) (λ p. h (Tail ∷ p)))

  -- of the states, the strong conditions are always there, and the weak ones of the active state
  abbrev Strongs : States → Names → Names → Given → Instant → Type 0
  Strongs no_state names last g now = Unit {0}
  Strongs (more_states f b until unless s ss) names last g now =
      Fixed (λ i. in_row (conditions types R N unless names last (at Unless (at Head g)) i)) (part Unless (part Head now))
      × Strongs ss names last (at Tail g) (part Tail now)

  strong_swap : (all ss : States) (k : ℕ) (u : Jump) (names last : Names) (past : Past) (free other now : Instant) → Q free other now → Strongs ss names last (given past free) now → strong types R N all ss k u names last (given past free) now ≡ strong types R M all ss k u names last (given past other) now
  strong_swap all no_state k u names last past free other now q h = refl
  strong_swap all (more_states f b until unless s ss) k u names last past free other now q h =
      ap₂ (λ t w. if nat_eq k u.state then first_true all unless (map top t) u else w)
      (conditions_swap unless names last (parts Unless (parts Head past)) (part Unless (part Head free)) (part Unless (part Head other)) (part Unless (part Head now)) (closed Unless _ _ _ (closed Head free other now q)) h.0)
      (strong_swap all ss (suc k) u names last (parts Tail past) (part Tail free) (part Tail other) (part Tail now) (closed Tail free other now q) h.1)

  strongs : (ss : States) (k : ℕ) (u : Jump) (out names last : Names) (past : Past) (free other now : Instant) → Q free other now → Fixed (states types R N ss k u out names last (given past free)) now → Strongs ss out last (given past free) now
  strongs no_state k u out names last past free other now q h = tt
  strongs (more_states f b until unless s ss) k u out names last past free other now q h =
      ((λ p. h (Head ∷ Unless ∷ p)), strongs ss (suc k) u out names last (parts Tail past) (part Tail free) (part Tail other) (part Tail now) (closed Tail free other now q) (λ p. h (Tail ∷ p)))

  weak_swap : (all ss : States) (k : ℕ) (u : Jump) (out names last : Names) (past : Past) (free other now : Instant) → Q free other now → Fixed (states types R N ss k u out names last (given past free)) now → weak types R N all ss k u names last (given past free) now ≡ weak types R M all ss k u names last (given past other) now
  weak_swap all no_state k u out names last past free other now q h = refl
  weak_swap all (more_states f b until unless s ss) k u out names last past free other now q h =
      if_first (nat_eq k u.state) (in_row (weak_in types R N b until u names last (at Head (given past free)) (part Head now))) (part Until (part Head now)) _ _ _ _
      (λ p. h (Head ∷ Until ∷ p))
      (λ e. ap (λ is. first_true all until (map top is) (record { state = u.state; restart = false })) (conditions_swap until _ _ (parts Until (parts Head past)) (part Until (part Head free)) (part Until (part Head other)) (part Until (part Head now)) (closed Until _ _ _ (closed Head free other now q)) e))
      (weak_swap all ss (suc k) u out names last (parts Tail past) (part Tail free) (part Tail other) (part Tail now) (closed Tail free other now q) (λ p. h (Tail ∷ p)))

  gives_swap : (ds : List Decl) (e : Eqn) (names last : Names) (past : Past) (free other now : Instant) → Q free other now → Fixed (equation types R N ds e names last (given past free)) now → (x : List ℕ) → gives types R N ds e names last (given past free) now x ≡ gives types R M ds e names last (given past other) now x
  gives_swap ds (define s ys e) names last past free other now q h x =
      ap (λ t. right types R N ys e t x) (expr_swap e (clock_of ds ys e) names last (parts Right past) (part Right free) (part Right other) (part Right now) (closed Right free other now q) (λ p. h (Right ∷ p)))
  gives_swap ds (switch s e arms) names last past free other now q h x =
      ap (λ t. from_arm types R N arms (top t) last (part ArmsOf now) x) (expr_swap e [] names last (parts Test past) (part Test free) (part Test other) (part Test now) (closed Test free other now q) (λ p. h (Test ∷ p)))
  gives_swap ds (reset s b e) names last past free other now q h x = refl
  gives_swap ds (automaton s ss) names last past free other now q h x =
      ap (λ (u : Jump). from_state ss 0 u.state last (part StatesOf now) x)
      (strong_swap ss ss 0 (selected past) names last (parts StatesOf past) (part StatesOf free) (part StatesOf other) (part StatesOf now) (closed StatesOf free other now q) (strongs ss 0 _ names _ last (parts StatesOf past) (part StatesOf free) (part StatesOf other) (part StatesOf now) (closed StatesOf free other now q) (λ p. h (StatesOf ∷ p))))

  defined_swap : (ds : List Decl) (es : Eqns) (names last : Names) (past : Past) (free other now : Instant) → Q free other now → Fixed (equations types R N ds es names last (given past free)) now → (x : List ℕ) → defined types R N ds es names last (given past free) now x ≡ defined types R M ds es names last (given past other) now x
  defined_swap ds no_eqn names last past free other now q h x = refl
  defined_swap ds (more_eqns e es) names last past free other now q h x =
      ap₂ (λ v w. if defines e x then v else w) (gives_swap ds e names last (parts Head past) (part Head free) (part Head other) (part Head now) (closed Head free other now q) (λ p. h (Head ∷ p)) x) (defined_swap ds es names last (parts Tail past) (part Tail free) (part Tail other) (part Tail now) (closed Tail free other now q) (λ p. h (Tail ∷ p)) x)

  mutual
    pub block_swap : (b : Block) (fresh : Bool) (names last : Names) (past : Past) (free other now : Instant) → Q free other now → Fixed (scope types R N b fresh names last (given past free)) now → scope types R N b fresh names last (given past free) now ≡ scope types R M b fresh names last (given past other) now
    block_swap (block ds es) fresh names last past free other now q h =
        let k = λ (p : Place). h (Equations ∷ p) in
        let last' = lasts (λ c. R.constant (constant_of types c)) ds past last in
        ap₂ (λ f t. in_block f (B fresh) t)
        (fun_ext (λ x. ap (λ v. if some_defines es x then v else Absent) (defined_swap ds es (inside es names now) last' (parts Equations past) (part Equations free) (part Equations other) (part Equations now) (closed Equations free other now q) k x)))
        (equations_swap ds es (inside es names now) last' (parts Equations past) (part Equations free) (part Equations other) (part Equations now) (closed Equations free other now q) k)

    equations_swap : (ds : List Decl) (es : Eqns) (names last : Names) (past : Past) (free other now : Instant) → Q free other now → Fixed (equations types R N ds es names last (given past free)) now → equations types R N ds es names last (given past free) now ≡ equations types R M ds es names last (given past other) now
    equations_swap ds no_eqn names last past free other now q h = refl
    equations_swap ds (more_eqns e es) names last past free other now q h =
        ap₂ of_two (equation_swap ds e names last (parts Head past) (part Head free) (part Head other) (part Head now) (closed Head free other now q) (λ p. h (Head ∷ p))) (equations_swap ds es names last (parts Tail past) (part Tail free) (part Tail other) (part Tail now) (closed Tail free other now q) (λ p. h (Tail ∷ p)))

    equation_swap : (ds : List Decl) (e : Eqn) (names last : Names) (past : Past) (free other now : Instant) → Q free other now → Fixed (equation types R N ds e names last (given past free)) now → equation types R N ds e names last (given past free) now ≡ equation types R M ds e names last (given past other) now
    equation_swap ds (define s ys e) names last past free other now q h = ap in_right (expr_swap e (clock_of ds ys e) names last (parts Right past) (part Right free) (part Right other) (part Right now) (closed Right free other now q) (λ p. h (Right ∷ p)))
    equation_swap ds (switch s e arms) names last past free other now q h =
        let i = expr types R N e [] names last (at Test (given past free)) (part Test now) in
        ap (with_arms i) (arms_swap arms (top i) (within (switch s e arms) names last) last (parts ArmsOf past) (part ArmsOf free) (part ArmsOf other) (part ArmsOf now) (closed ArmsOf free other now q) (λ p. h (ArmsOf ∷ p)))
        ∙ ap (λ t. with_arms t (arm types R M arms (top t) (within (switch s e arms) names last) last (at ArmsOf (given past other)) (part ArmsOf now))) (expr_swap e [] names last (parts Test past) (part Test free) (part Test other) (part Test now) (closed Test free other now q) (λ p. h (Test ∷ p)))
    equation_swap ds (reset s b e) names last past free other now q h =
        let i = expr types R N e [] names last (at Test (given past free)) (part Test now) in
        ap (with_body i) (block_swap b (is_true (top i)) (within (reset s b e) names last) last (if (is_true (top i)) then [] else own (parts Body past)) (part Body free) (part Body other) (part Body now) (closed Body free other now q) (λ p. h (Body ∷ p)))
        ∙ ap (λ t. with_body t (scope types R M b (is_true (top t)) (within (reset s b e) names last) last (since (is_true (top t)) (at Body (given past other))) (part Body now))) (expr_swap e [] names last (parts Test past) (part Test free) (part Test other) (part Test now) (closed Test free other now q) (λ p. h (Test ∷ p)))
    equation_swap ds (automaton s ss) names last past free other now q h =
        let past' = parts StatesOf past in
        let free' = part StatesOf free in
        let other' = part StatesOf other in
        let q' = closed StatesOf free other now q in
        let now' = part StatesOf now in
        let names' = within (automaton s ss) names last in
        let u0 = strong types R N ss ss 0 (selected past) names last (given past' free') now' in
        let k = λ (p : Place). h (StatesOf ∷ p) in
        ap₂ (λ (w : Jump) (i : Instant). with_words (state_word u0.state) (state_word w.state) (B w.restart) i)
        (weak_swap ss ss 0 u0 names names' last past' free' other' now' q' k)
        (states_swap ss 0 u0 names names' last past' free' other' now' q' k)
        ∙ ap (λ (u : Jump). with_words (state_word u.state) (state_word (weak types R M ss ss 0 u names' last (given past' other') now').state) (B (weak types R M ss ss 0 u names' last (given past' other') now').restart) (states types R M ss 0 u names names' last (given past' other') now'))
        (strong_swap ss ss 0 (selected past) names last past' free' other' now' q' (strongs ss 0 u0 names names' last past' free' other' now' q' k))

    arms_swap : (arms : Arms) (v : Value) (names last : Names) (past : Past) (free other now : Instant) → Q free other now → Fixed (arm types R N arms v names last (given past free)) now → arm types R N arms v names last (given past free) now ≡ arm types R M arms v names last (given past other) now
    arms_swap no_arm v names last past free other now q h = refl
    arms_swap (more_arms c b s arms) v names last past free other now q h =
        ap₂ of_two
        (if_swap (is_cons types v c) _ _ (part Head now) (block_swap b false names last (if false then [] else own (parts Head past)) (part Head free) (part Head other) (part Head now) (closed Head free other now q)) (λ p. h (Head ∷ p)))
        (arms_swap arms v names last (parts Tail past) (part Tail free) (part Tail other) (part Tail now) (closed Tail free other now q) (λ p. h (Tail ∷ p)))

    states_swap : (ss : States) (k : ℕ) (u : Jump) (out names last : Names) (past : Past) (free other now : Instant) → Q free other now → Fixed (states types R N ss k u out names last (given past free)) now → states types R N ss k u out names last (given past free) now ≡ states types R M ss k u out names last (given past other) now
    states_swap no_state k u out names last past free other now q h = refl
    states_swap (more_states f b until unless s ss) k u out names last past free other now q h =
        let t1 = if_swap (nat_eq k u.state) _ _ (part Body (part Head now)) (block_swap b u.restart names last (if u.restart then [] else own (parts Body (parts Head past))) (part Body (part Head free)) (part Body (part Head other)) (part Body (part Head now)) (closed Body _ _ _ (closed Head free other now q))) (λ p. h (Head ∷ Body ∷ p)) in
        let t2 = if_swap (nat_eq k u.state) _ _ (part Until (part Head now)) (λ e. ap in_row (conditions_swap until _ _ (parts Until (parts Head past)) (part Until (part Head free)) (part Until (part Head other)) (part Until (part Head now)) (closed Until _ _ _ (closed Head free other now q)) e)) (λ p. h (Head ∷ Until ∷ p)) in
        let t3 = ap in_row (conditions_swap unless out last (parts Unless (parts Head past)) (part Unless (part Head free)) (part Unless (part Head other)) (part Unless (part Head now)) (closed Unless _ _ _ (closed Head free other now q)) (λ p. h (Head ∷ Unless ∷ p))) in
        let t4 = states_swap ss (suc k) u out names last (parts Tail past) (part Tail free) (part Tail other) (part Tail now) (closed Tail free other now q) (λ p. h (Tail ∷ p)) in
        λ d. of_two (in_state (t1 d) (t2 d) (t3 d)) (t4 d)

  abbrev told : Nodes → Option Expr → Names → Names → Given → Instant → Instant
  told L None names last g now = nothing
  told L (Some e) names last g now = expr types R L e [] names last g now

  told_swap : (e : Option Expr) (names last : Names) (past : Past) (free other now : Instant) → Q free other now → Fixed (told N e names last (given past free)) now → told N e names last (given past free) now ≡ told M e names last (given past other) now
  told_swap None names last past free other now q h = refl
  told_swap (Some e) names last past free other now q h = expr_swap e [] names last past free other now q h

  pub observer_swap : (c : Option Contract) (names last : Names) (past : Past) (free other now : Instant) → Q free other now → ((p : Place) → now (Observer ∷ p) ≡ observer types R N c names last (given past free) now (Observer ∷ p)) → ((p : Place) → now (Assume ∷ p) ≡ observer types R N c names last (given past free) now (Assume ∷ p)) → ((p : Place) → now (Enforce ∷ p) ≡ observer types R N c names last (given past free) now (Enforce ∷ p)) → observer types R N c names last (given past free) now ≡ observer types R M c names last (given past other) now
  observer_swap None names last past free other now q hg ha he = refl
  observer_swap (Some c) names last past free other now q hg ha he =
      let t = block_swap c.body false names last (if false then [] else own (parts Observer past)) (part Observer free) (part Observer other) (part Observer now) (closed Observer free other now q) hg in
      let u = told_swap c.assume (read_in types R N c.body names (part Observer now)) (last_in types R N c.body (since false (at Observer (given past free))).past last) (parts Assume past) (part Assume free) (part Assume other) (part Assume now) (closed Assume free other now q) ha in
      let w = told_swap c.enforce (read_in types R N c.body names (part Observer now)) (last_in types R N c.body (since false (at Observer (given past free))).past last) (parts Enforce past) (part Enforce free) (part Enforce other) (part Enforce now) (closed Enforce free other now q) he in
      λ d. in_observer (t d) (u d) (w d)

  pub node_swap_given : (n : Node) (inputs : List Value) (past : Past) (free other now : Instant) → Q free other now → given_to types R N (controls_of n.contract) (part Controls free) ≡ given_to types R N (controls_of n.contract) (part Controls other) → Fixed (node types R N n inputs (given past free)) now → (p : Place) → node types R N n inputs (given past free) now p ≡ node types R M n inputs (given past other) now p
  node_swap_given n inputs past free other now q same h p =
      let controls = given_to types R N (controls_of n.contract) (part Controls free) in
      let outputs' : Names = λ x. if declares n.outputs x then now (Body ∷ Named x ∷ []) else Absent in
      let outer : Names = input_of n.inputs inputs (λ x. Absent) in
      let last : Names = lasts (λ c. R.constant (constant_of types c)) n.outputs past (λ x. Absent) in
      let names : Names = λ x. if declares n.outputs x then now (Named x ∷ []) else outer x in
      ap₂ (λ b c. in_node outputs' inputs controls b c p)
      (block_swap n.body false (input_of (controls_of n.contract) controls outer) last (own (parts Body past)) (part Body free) (part Body other) (part Body now) (closed Body free other now q) (λ r. h (Body ∷ r)))
      (observer_swap n.contract names last past free other now q (λ r. h (Observer ∷ r)) (λ r. h (Assume ∷ r)) (λ r. h (Enforce ∷ r)))
      ∙ ap (λ c. in_node outputs' inputs c (scope types R M n.body false (input_of (controls_of n.contract) c outer) last (since false (at Body (given past other))) (part Body now)) (observer types R M n.contract names last (given past other) now) p) same

-- the same where what is given is the same
abbrev Alike : Instant → Instant → Instant → Type 0
Alike free other now = free ≡ other

pub node_swap : (types : List TypeDecl) (R : Reading) (outputs : List ℕ → List (List ℕ)) (n m : Instances) (agree : Agree n m) (q : Node) (inputs : List Value) (g : Given) (now : Instant) → Fixed (node types R (with_instances outputs n) q inputs g) now → (p : Place) → node types R (with_instances outputs n) q inputs g now p ≡ node types R (with_instances outputs m) q inputs g now p
node_swap types R outputs n m agree q inputs g now h p =
    node_swap_given types R outputs Alike
    (λ s free other now e. ap (part s) e)
    (λ o free other now v w e x y z. ap (λ i. R.two o (top i) v w) e)
    (λ free other now e. ap (λ i. R.undefined (top i)) e)
    Alike (λ free other now e. ap (part Instance) e)
    n m
    (λ f vs past free other i e k p. agree f vs (given past free) i k p ∙ ap (λ j. m f vs (given past j) i p) e)
    q inputs g.past g.free g.free now refl refl h p
