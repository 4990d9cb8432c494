-- A place with two operands that hold the mark is that of an operator: what is given there is mended to a truth value.
use Rattle.std.proofs.Common.{◌≡◌, ℕ, suc, List, [], ◌∷◌, ◌++◌, map, refl, sym, subst, ◌∙◌}
use Rattle.std.specs.Prelude.{Bool, true, false, if◌then◌else◌, nat_eq, Option, None, Some}
use Rattle.std.specs.Str.{bytes_eq}
use Rattle.hp_base.specs.declared.value.Value.{Value}
use Rattle.hp_base.specs.declared.value.Value.TheVariants.{Absent, Star}
use Rattle.hp_tree.specs.declared.block.Trans.{Trans}
use Rattle.hp_tree.specs.declared.program.Item.{Item}
use Rattle.hp_tree.specs.declared.program.Item.TheVariants.{TypeItem, NodeItem}
use Rattle.hp_tree.specs.Expressions.{Expr, constant, variable, last_of, one, two, choose, pre, fby, arrow, when_is, merge, call, Exprs, no_expr, more_exprs, Parts, no_part, more_parts}
use Rattle.hp_tree.specs.Blocks.{Decl, Block, block, Eqns, no_eqn, more_eqns, Eqn, define, switch, reset, automaton, Arms, no_arm, more_arms, States, no_state, more_states}
use Rattle.hp_tree.specs.Programs.{TypeDecl, Contract, Node}
use Rattle.hp_tree.specs.Operators.{Reading, abstraction, is_cons, is_true, constant_of}
use Rattle.hp_tree.specs.Instant.{Inputs, Controls, Body, Observer, Assume, Enforce, Named, Fresh, Equations, Head, Tail, Right, Test, Arms as ArmsOf, States as StatesOf, Until, Unless, Active, Next, Pending, First, Second, Third, Args, Instance, Place, Instant, Given, part, at, top, since, nothing, alone, in_row, Clock, holds, without}
use Rattle.hp_tree.specs.Meaning.{Names, Nodes, no_nodes, inside, within, lasts, input_of, clock_of, Jump, selected, declares, controls_of, given_to, node_among, expr, exprs, merged, conditions, strong, read_in, last_in, weak_in, scope, equations, equation, arm, states, observer, node}
use Rattle.hp_meaning.specs.Causal.Abstract.{given_outputs, contract_alone, callees}
use Rattle.law_games.proofs.ForcedLemmas.Mended.{Mends, flag_of, mend, mend_all, mend_parts, mend_tests, mend_block, mend_eqns, mend_eqn, mend_arms, mend_states, mend_told, mend_contract, mend_node, mend_none, mend_alone, mend_by}

abbrev pub Met : Instant → Instant → Type 0
Met now said = (p : Place) → now p ≡ said p

abbrev pub Pairs : Instant → (Place → Value → Value) → Type 0
Pairs now m = (p : Place) → now (p ++ (First ∷ [])) ≡ Star → now (p ++ (Second ∷ [])) ≡ Star → (v : Value) → m p v ≡ flag_of v

pub gone : {X : Type 0} (v : Value) → v ≡ Absent → v ≡ Star → X
gone v e f = absurd (let h : Absent ≡ Star = sym e ∙ f in cc)

alone_below : (v : Value) (p : Place) → alone v (p ++ (Second ∷ [])) ≡ Absent
alone_below v [] = refl
alone_below v (s ∷ p) = refl

row_below : (vs : List Value) (p : Place) → in_row (map alone vs) (p ++ (Second ∷ [])) ≡ Absent
row_below [] p = refl
row_below (v ∷ vs) [] = refl
row_below (v ∷ vs) (Head ∷ p) = alone_below v p
row_below (v ∷ vs) (Tail ∷ p) = row_below vs p
row_below (v ∷ vs) p = refl

-- a part that is there, or not
if_pairs : (d : Bool) (now said : Instant) (m : Place → Value → Value) → (Met now said → Pairs now m) → Met now (if d then said else nothing) → Pairs now m
if_pairs true now said m k h = k h
if_pairs false now said m k h = λ p f t v. gone (now (p ++ (Second ∷ []))) (h (p ++ (Second ∷ []))) t

module _ (types : List TypeDecl) (R : Reading) (N : Nodes) (callee : List ℕ → Mends) (calls : (f : List ℕ) (vs : List Value) (g : Given) (now start : Instant) → Met now (N.instant f vs g now) → Pairs now (callee f start)) where
  mutual
    pub expr_pairs : (e : Expr) (clock : Clock) (names last : Names) (g : Given) (now start : Instant) → Met now (expr types R N e clock names last g now) → Pairs now (mend callee e start)
    expr_pairs (constant s c) clock names last g now start m [] f t v = gone (now (Second ∷ [])) (m (Second ∷ [])) t
    expr_pairs (constant s c) clock names last g now start m (a ∷ p) f t v = gone (now (a ∷ (p ++ (Second ∷ [])))) (m (a ∷ (p ++ (Second ∷ [])))) t
    expr_pairs (variable s x) clock names last g now start m [] f t v = gone (now (Second ∷ [])) (m (Second ∷ [])) t
    expr_pairs (variable s x) clock names last g now start m (a ∷ p) f t v = gone (now (a ∷ (p ++ (Second ∷ [])))) (m (a ∷ (p ++ (Second ∷ [])))) t
    expr_pairs (last_of s x) clock names last g now start m [] f t v = gone (now (Second ∷ [])) (m (Second ∷ [])) t
    expr_pairs (last_of s x) clock names last g now start m (a ∷ p) f t v = gone (now (a ∷ (p ++ (Second ∷ [])))) (m (a ∷ (p ++ (Second ∷ [])))) t
    expr_pairs (one s o a) clock names last g now start m (First ∷ p) f t v = expr_pairs a clock names last (at First g) (part First now) (part First start) (λ q. m (First ∷ q)) p f t v
    expr_pairs (one s o a) clock names last g now start m p f t v = gone (now (p ++ (Second ∷ []))) (m (p ++ (Second ∷ []))) t
    expr_pairs (two s o a b) clock names last g now start m [] f t v = refl
    expr_pairs (two s o a b) clock names last g now start m (First ∷ p) f t v = expr_pairs a clock names last (at First g) (part First now) (part First start) (λ q. m (First ∷ q)) p f t v
    expr_pairs (two s o a b) clock names last g now start m (Second ∷ p) f t v = expr_pairs b clock names last (at Second g) (part Second now) (part Second start) (λ q. m (Second ∷ q)) p f t v
    expr_pairs (two s o a b) clock names last g now start m p f t v = gone (now (p ++ (Second ∷ []))) (m (p ++ (Second ∷ []))) t
    expr_pairs (choose s a b c) clock names last g now start m [] f t v = refl
    expr_pairs (choose s a b c) clock names last g now start m (First ∷ p) f t v = expr_pairs a clock names last (at First g) (part First now) (part First start) (λ q. m (First ∷ q)) p f t v
    expr_pairs (choose s a b c) clock names last g now start m (Second ∷ p) f t v = expr_pairs b clock names last (at Second g) (part Second now) (part Second start) (λ q. m (Second ∷ q)) p f t v
    expr_pairs (choose s a b c) clock names last g now start m (Third ∷ p) f t v = expr_pairs c clock names last (at Third g) (part Third now) (part Third start) (λ q. m (Third ∷ q)) p f t v
    expr_pairs (choose s a b c) clock names last g now start m p f t v = gone (now (p ++ (Second ∷ []))) (m (p ++ (Second ∷ []))) t
    expr_pairs (pre s a) clock names last g now start m (First ∷ p) f t v = expr_pairs a clock names last (at First g) (part First now) (part First start) (λ q. m (First ∷ q)) p f t v
    expr_pairs (pre s a) clock names last g now start m p f t v = gone (now (p ++ (Second ∷ []))) (m (p ++ (Second ∷ []))) t
    expr_pairs (fby s a b) clock names last g now start m [] f t v = refl
    expr_pairs (fby s a b) clock names last g now start m (First ∷ p) f t v = expr_pairs a clock names last (at First g) (part First now) (part First start) (λ q. m (First ∷ q)) p f t v
    expr_pairs (fby s a b) clock names last g now start m (Second ∷ p) f t v = expr_pairs b clock names last (at Second g) (part Second now) (part Second start) (λ q. m (Second ∷ q)) p f t v
    expr_pairs (fby s a b) clock names last g now start m p f t v = gone (now (p ++ (Second ∷ []))) (m (p ++ (Second ∷ []))) t
    expr_pairs (arrow s a b) clock names last g now start m [] f t v = refl
    expr_pairs (arrow s a b) clock names last g now start m (First ∷ p) f t v = expr_pairs a clock names last (at First g) (part First now) (part First start) (λ q. m (First ∷ q)) p f t v
    expr_pairs (arrow s a b) clock names last g now start m (Second ∷ p) f t v = expr_pairs b clock names last (at Second g) (part Second now) (part Second start) (λ q. m (Second ∷ q)) p f t v
    expr_pairs (arrow s a b) clock names last g now start m p f t v = gone (now (p ++ (Second ∷ []))) (m (p ++ (Second ∷ []))) t
    expr_pairs (when_is s a c x) clock names last g now start m (First ∷ p) f t v = expr_pairs a (without clock) names last (at First g) (part First now) (part First start) (λ q. m (First ∷ q)) p f t v
    expr_pairs (when_is s a c x) clock names last g now start m p f t v = gone (now (p ++ (Second ∷ []))) (m (p ++ (Second ∷ []))) t
    expr_pairs (merge s x ps) clock names last g now start m (Args ∷ p) f t v = parts_pairs ps x clock names last (at Args g) (part Args now) (part Args start) (λ q. m (Args ∷ q)) p f t v
    expr_pairs (merge s x ps) clock names last g now start m p f t v = gone (now (p ++ (Second ∷ []))) (m (p ++ (Second ∷ []))) t
    expr_pairs (call s h inlined es) clock names last g now start m (Args ∷ p) f t v = exprs_pairs es clock names last (at Args g) (part Args now) (part Args start) (λ q. m (Args ∷ q)) p f t v
    expr_pairs (call s h inlined es) clock names last g now start m (Instance ∷ p) f t v =
        let vs = map top (exprs types R N es clock names last (at Args g) (part Args now)) in
        if_pairs (holds types clock names) (part Instance now) (N.instant h vs (since false (at Instance g)) (part Instance now)) (callee h (part Instance start))
        (calls h vs (since false (at Instance g)) (part Instance now) (part Instance start)) (λ q. m (Instance ∷ q)) p f t v
    expr_pairs (call s h inlined es) clock names last g now start m p f t v = gone (now (p ++ (Second ∷ []))) (m (p ++ (Second ∷ []))) t

    exprs_pairs : (es : Exprs) (clock : Clock) (names last : Names) (g : Given) (now start : Instant) → Met now (in_row (exprs types R N es clock names last g now)) → Pairs now (mend_all callee es start)
    exprs_pairs no_expr clock names last g now start m p f t v = gone (now (p ++ (Second ∷ []))) (m (p ++ (Second ∷ []))) t
    exprs_pairs (more_exprs e es) clock names last g now start m (Head ∷ p) f t v = expr_pairs e clock names last (at Head g) (part Head now) (part Head start) (λ q. m (Head ∷ q)) p f t v
    exprs_pairs (more_exprs e es) clock names last g now start m (Tail ∷ p) f t v = exprs_pairs es clock names last (at Tail g) (part Tail now) (part Tail start) (λ q. m (Tail ∷ q)) p f t v
    exprs_pairs (more_exprs e es) clock names last g now start m p f t v = gone (now (p ++ (Second ∷ []))) (m (p ++ (Second ∷ []))) t

    parts_pairs : (ps : Parts) (x : List ℕ) (clock : Clock) (names last : Names) (g : Given) (now start : Instant) → Met now (in_row (merged types R N ps x clock names last g now)) → Pairs now (mend_parts callee ps start)
    parts_pairs no_part x clock names last g now start m p f t v = gone (now (p ++ (Second ∷ []))) (m (p ++ (Second ∷ []))) t
    parts_pairs (more_parts c e ps) x clock names last g now start m (Head ∷ p) f t v = expr_pairs e ((c, x) ∷ clock) names last (at Head g) (part Head now) (part Head start) (λ q. m (Head ∷ q)) p f t v
    parts_pairs (more_parts c e ps) x clock names last g now start m (Tail ∷ p) f t v = parts_pairs ps x clock names last (at Tail g) (part Tail now) (part Tail start) (λ q. m (Tail ∷ q)) p f t v
    parts_pairs (more_parts c e ps) x clock names last g now start m p f t v = gone (now (p ++ (Second ∷ []))) (m (p ++ (Second ∷ []))) t

  tests_pairs : (ts : List Trans) (names last : Names) (g : Given) (now start : Instant) → Met now (in_row (conditions types R N ts names last g now)) → Pairs now (mend_tests callee ts start)
  tests_pairs [] names last g now start m p f t v = gone (now (p ++ (Second ∷ []))) (m (p ++ (Second ∷ []))) t
  tests_pairs (c ∷ ts) names last g now start m (Head ∷ p) f t v = expr_pairs c.cond [] names last (at Head g) (part Head now) (part Head start) (λ q. m (Head ∷ q)) p f t v
  tests_pairs (c ∷ ts) names last g now start m (Tail ∷ p) f t v = tests_pairs ts names last (at Tail g) (part Tail now) (part Tail start) (λ q. m (Tail ∷ q)) p f t v
  tests_pairs (c ∷ ts) names last g now start m p f t v = gone (now (p ++ (Second ∷ []))) (m (p ++ (Second ∷ []))) t

  mutual
    pub block_pairs : (b : Block) (fresh : Bool) (names last : Names) (g : Given) (now start : Instant) → Met now (scope types R N b fresh names last g now) → Pairs now (mend_block callee b start)
    block_pairs (block ds es) fresh names last g now start m (Equations ∷ p) f t v =
        eqns_pairs es ds (inside es names now) (lasts (λ c. R.constant (constant_of types c)) ds g.past last) (at Equations g) (part Equations now) (part Equations start) (λ q. m (Equations ∷ q)) p f t v
    block_pairs (block ds es) fresh names last g now start m (Named x ∷ []) f t v = gone (now (Named x ∷ Second ∷ [])) (m (Named x ∷ Second ∷ [])) t
    block_pairs (block ds es) fresh names last g now start m (Named x ∷ a ∷ p) f t v = gone (now (Named x ∷ a ∷ (p ++ (Second ∷ [])))) (m (Named x ∷ a ∷ (p ++ (Second ∷ [])))) t
    block_pairs (block ds es) fresh names last g now start m (Fresh ∷ []) f t v = gone (now (Fresh ∷ Second ∷ [])) (m (Fresh ∷ Second ∷ [])) t
    block_pairs (block ds es) fresh names last g now start m (Fresh ∷ a ∷ p) f t v = gone (now (Fresh ∷ a ∷ (p ++ (Second ∷ [])))) (m (Fresh ∷ a ∷ (p ++ (Second ∷ [])))) t
    block_pairs (block ds es) fresh names last g now start m p f t v = gone (now (p ++ (Second ∷ []))) (m (p ++ (Second ∷ []))) t

    eqns_pairs : (es : Eqns) (ds : List Decl) (names last : Names) (g : Given) (now start : Instant) → Met now (equations types R N ds es names last g now) → Pairs now (mend_eqns callee es start)
    eqns_pairs no_eqn ds names last g now start m p f t v = gone (now (p ++ (Second ∷ []))) (m (p ++ (Second ∷ []))) t
    eqns_pairs (more_eqns e es) ds names last g now start m (Head ∷ p) f t v = eqn_pairs e ds names last (at Head g) (part Head now) (part Head start) (λ q. m (Head ∷ q)) p f t v
    eqns_pairs (more_eqns e es) ds names last g now start m (Tail ∷ p) f t v = eqns_pairs es ds names last (at Tail g) (part Tail now) (part Tail start) (λ q. m (Tail ∷ q)) p f t v
    eqns_pairs (more_eqns e es) ds names last g now start m p f t v = gone (now (p ++ (Second ∷ []))) (m (p ++ (Second ∷ []))) t

    eqn_pairs : (e : Eqn) (ds : List Decl) (names last : Names) (g : Given) (now start : Instant) → Met now (equation types R N ds e names last g now) → Pairs now (mend_eqn callee e start)
    eqn_pairs (define s ys e) ds names last g now start m (Right ∷ p) f t v = expr_pairs e (clock_of ds ys e) names last (at Right g) (part Right now) (part Right start) (λ q. m (Right ∷ q)) p f t v
    eqn_pairs (define s ys e) ds names last g now start m p f t v = gone (now (p ++ (Second ∷ []))) (m (p ++ (Second ∷ []))) t
    eqn_pairs (switch s e arms) ds names last g now start m (Test ∷ p) f t v = expr_pairs e [] names last (at Test g) (part Test now) (part Test start) (λ q. m (Test ∷ q)) p f t v
    eqn_pairs (switch s e arms) ds names last g now start m (ArmsOf ∷ p) f t v =
        arms_pairs arms (top (expr types R N e [] names last (at Test g) (part Test now))) (within (switch s e arms) names last) last (at ArmsOf g) (part ArmsOf now) (part ArmsOf start) (λ q. m (ArmsOf ∷ q)) p f t v
    eqn_pairs (switch s e arms) ds names last g now start m p f t v = gone (now (p ++ (Second ∷ []))) (m (p ++ (Second ∷ []))) t
    eqn_pairs (reset s b e) ds names last g now start m (Test ∷ p) f t v = expr_pairs e [] names last (at Test g) (part Test now) (part Test start) (λ q. m (Test ∷ q)) p f t v
    eqn_pairs (reset s b e) ds names last g now start m (Body ∷ p) f t v =
        let fresh = is_true (top (expr types R N e [] names last (at Test g) (part Test now))) in
        block_pairs b fresh (within (reset s b e) names last) last (since fresh (at Body g)) (part Body now) (part Body start) (λ q. m (Body ∷ q)) p f t v
    eqn_pairs (reset s b e) ds names last g now start m p f t v = gone (now (p ++ (Second ∷ []))) (m (p ++ (Second ∷ []))) t
    eqn_pairs (automaton s ss) ds names last g now start m (StatesOf ∷ p) f t v =
        states_pairs ss 0 (strong types R N ss ss 0 (selected g.past) names last (at StatesOf g) (part StatesOf now)) names (within (automaton s ss) names last) last (at StatesOf g) (part StatesOf now) (part StatesOf start) (λ q. m (StatesOf ∷ q)) p f t v
    eqn_pairs (automaton s ss) ds names last g now start m (Active ∷ []) f t v = gone (now (Active ∷ Second ∷ [])) (m (Active ∷ Second ∷ [])) t
    eqn_pairs (automaton s ss) ds names last g now start m (Active ∷ a ∷ p) f t v = gone (now (Active ∷ a ∷ (p ++ (Second ∷ [])))) (m (Active ∷ a ∷ (p ++ (Second ∷ [])))) t
    eqn_pairs (automaton s ss) ds names last g now start m (Next ∷ []) f t v = gone (now (Next ∷ Second ∷ [])) (m (Next ∷ Second ∷ [])) t
    eqn_pairs (automaton s ss) ds names last g now start m (Next ∷ a ∷ p) f t v = gone (now (Next ∷ a ∷ (p ++ (Second ∷ [])))) (m (Next ∷ a ∷ (p ++ (Second ∷ [])))) t
    eqn_pairs (automaton s ss) ds names last g now start m (Pending ∷ []) f t v = gone (now (Pending ∷ Second ∷ [])) (m (Pending ∷ Second ∷ [])) t
    eqn_pairs (automaton s ss) ds names last g now start m (Pending ∷ a ∷ p) f t v = gone (now (Pending ∷ a ∷ (p ++ (Second ∷ [])))) (m (Pending ∷ a ∷ (p ++ (Second ∷ [])))) t
    eqn_pairs (automaton s ss) ds names last g now start m p f t v = gone (now (p ++ (Second ∷ []))) (m (p ++ (Second ∷ []))) t

    arms_pairs : (arms : Arms) (w : Value) (names last : Names) (g : Given) (now start : Instant) → Met now (arm types R N arms w names last g now) → Pairs now (mend_arms callee arms start)
    arms_pairs no_arm w names last g now start m p f t v = gone (now (p ++ (Second ∷ []))) (m (p ++ (Second ∷ []))) t
    arms_pairs (more_arms c b s arms) w names last g now start m (Head ∷ p) f t v =
        if_pairs (is_cons types w c) (part Head now) (scope types R N b false names last (since false (at Head g)) (part Head now)) (mend_block callee b (part Head start))
        (block_pairs b false names last (since false (at Head g)) (part Head now) (part Head start)) (λ q. m (Head ∷ q)) p f t v
    arms_pairs (more_arms c b s arms) w names last g now start m (Tail ∷ p) f t v = arms_pairs arms w names last (at Tail g) (part Tail now) (part Tail start) (λ q. m (Tail ∷ q)) p f t v
    arms_pairs (more_arms c b s arms) w names last g now start m p f t v = gone (now (p ++ (Second ∷ []))) (m (p ++ (Second ∷ []))) t

    states_pairs : (ss : States) (k : ℕ) (j : Jump) (out names last : Names) (g : Given) (now start : Instant) → Met now (states types R N ss k j out names last g now) → Pairs now (mend_states callee ss start)
    states_pairs no_state k j out names last g now start m p f t v = gone (now (p ++ (Second ∷ []))) (m (p ++ (Second ∷ []))) t
    states_pairs (more_states x b until unless s ss) k j out names last g now start m (Head ∷ Body ∷ p) f t v =
        if_pairs (nat_eq k j.state) (part Body (part Head now)) (scope types R N b j.restart names last (since j.restart (at Body (at Head g))) (part Body (part Head now))) (mend_block callee b (part Body (part Head start)))
        (block_pairs b j.restart names last (since j.restart (at Body (at Head g))) (part Body (part Head now)) (part Body (part Head start))) (λ q. m (Head ∷ Body ∷ q)) p f t v
    states_pairs (more_states x b until unless s ss) k j out names last g now start m (Head ∷ Until ∷ p) f t v =
        if_pairs (nat_eq k j.state) (part Until (part Head now)) (in_row (weak_in types R N b until j names last (at Head g) (part Head now))) (mend_tests callee until (part Until (part Head start)))
        (tests_pairs until (read_in types R N b names (part Body (part Head now))) (last_in types R N b (since j.restart (at Body (at Head g))).past last) (at Until (at Head g)) (part Until (part Head now)) (part Until (part Head start))) (λ q. m (Head ∷ Until ∷ q)) p f t v
    states_pairs (more_states x b until unless s ss) k j out names last g now start m (Head ∷ Unless ∷ p) f t v =
        tests_pairs unless out last (at Unless (at Head g)) (part Unless (part Head now)) (part Unless (part Head start)) (λ q. m (Head ∷ Unless ∷ q)) p f t v
    states_pairs (more_states x b until unless s ss) k j out names last g now start m (Tail ∷ p) f t v = states_pairs ss (suc k) j out names last (at Tail g) (part Tail now) (part Tail start) (λ q. m (Tail ∷ q)) p f t v
    states_pairs (more_states x b until unless s ss) k j out names last g now start m p f t v = gone (now (p ++ (Second ∷ []))) (m (p ++ (Second ∷ []))) t

  -- ---- contracts

  abbrev told : Option Expr → Names → Names → Given → Instant → Instant
  told None names last g now = nothing
  told (Some e) names last g now = expr types R N e [] names last g now

  told_pairs : (o : Option Expr) (names last : Names) (g : Given) (now start : Instant) → Met now (told o names last g now) → Pairs now (mend_told callee o start)
  told_pairs None names last g now start m p f t v = gone (now (p ++ (Second ∷ []))) (m (p ++ (Second ∷ []))) t
  told_pairs (Some e) names last g now start m p f t v = expr_pairs e [] names last g now start m p f t v

  pub no_output : (o : Option Contract) (names last : Names) (g : Given) (now : Instant) (x : List ℕ) → observer types R N o names last g now (Named x ∷ Second ∷ []) ≡ Absent
  no_output None names last g now x = refl
  no_output (Some c) names last g now x = refl

  pub contract_pairs : (o : Option Contract) (names last : Names) (g : Given) (now start : Instant)
      → ((p : Place) → now (Observer ∷ p) ≡ observer types R N o names last g now (Observer ∷ p)) → ((p : Place) → now (Assume ∷ p) ≡ observer types R N o names last g now (Assume ∷ p)) → ((p : Place) → now (Enforce ∷ p) ≡ observer types R N o names last g now (Enforce ∷ p))
      → (p : Place) → now (p ++ (Second ∷ [])) ≡ observer types R N o names last g now (p ++ (Second ∷ [])) → now (p ++ (First ∷ [])) ≡ Star → now (p ++ (Second ∷ [])) ≡ Star → (v : Value) → mend_contract callee o start p v ≡ flag_of v
  contract_pairs None names last g now start hg ha he p m f t v = gone (now (p ++ (Second ∷ []))) m t
  contract_pairs (Some c) names last g now start hg ha he (Observer ∷ p) m f t v = block_pairs c.body false names last (since false (at Observer g)) (part Observer now) (part Observer start) hg p f t v
  contract_pairs (Some c) names last g now start hg ha he (Assume ∷ p) m f t v =
      told_pairs c.assume (read_in types R N c.body names (part Observer now)) (last_in types R N c.body (since false (at Observer g)).past last) (at Assume g) (part Assume now) (part Assume start) ha p f t v
  contract_pairs (Some c) names last g now start hg ha he (Enforce ∷ p) m f t v =
      told_pairs c.enforce (read_in types R N c.body names (part Observer now)) (last_in types R N c.body (since false (at Observer g)).past last) (at Enforce g) (part Enforce now) (part Enforce start) he p f t v
  contract_pairs (Some c) names last g now start hg ha he p m f t v = gone (now (p ++ (Second ∷ []))) m t

  pub node_pairs : (n : Node) (inputs : List Value) (g : Given) (now start : Instant) → Met now (node types R N n inputs g now) → Pairs now (mend_node callee n start)
  node_pairs n inputs g now start m p f t v = by p (m (p ++ (Second ∷ []))) f t
    where
      controls : List Value
      controls = given_to types R N (controls_of n.contract) (part Controls g.free)

      outer : Names
      outer = input_of n.inputs inputs (λ x. Absent)

      last : Names
      last = lasts (λ c. R.constant (constant_of types c)) n.outputs g.past (λ x. Absent)

      seen : Names
      seen x = if declares n.outputs x then now (Named x ∷ []) else outer x

      in_contract : (p : Place) → now (p ++ (Second ∷ [])) ≡ observer types R N n.contract seen last g now (p ++ (Second ∷ [])) → now (p ++ (First ∷ [])) ≡ Star → now (p ++ (Second ∷ [])) ≡ Star → mend_contract callee n.contract start p v ≡ flag_of v
      in_contract p e f t = contract_pairs n.contract seen last g now start (λ q. m (Observer ∷ q)) (λ q. m (Assume ∷ q)) (λ q. m (Enforce ∷ q)) p e f t v

      by : (p : Place) → now (p ++ (Second ∷ [])) ≡ node types R N n inputs g now (p ++ (Second ∷ [])) → now (p ++ (First ∷ [])) ≡ Star → now (p ++ (Second ∷ [])) ≡ Star → mend_node callee n start p v ≡ flag_of v
      by (Body ∷ p) e f t = block_pairs n.body false (input_of (controls_of n.contract) controls outer) last (since false (at Body g)) (part Body now) (part Body start) (λ q. m (Body ∷ q)) p f t v
      by (Inputs ∷ p) e f t = gone (now (Inputs ∷ (p ++ (Second ∷ [])))) (e ∙ row_below inputs p) t
      by (Controls ∷ p) e f t = gone (now (Controls ∷ (p ++ (Second ∷ [])))) (e ∙ row_below controls p) t
      by (Named x ∷ []) e f t = gone (now (Named x ∷ Second ∷ [])) (e ∙ no_output n.contract seen last g now x) t
      by (Named x ∷ a ∷ p) e f t = in_contract (Named x ∷ a ∷ p) e f t
      by (Fresh ∷ []) e f t = in_contract (Fresh ∷ []) e f t
      by (Fresh ∷ a ∷ p) e f t = in_contract (Fresh ∷ a ∷ p) e f t
      by p e f t = in_contract p e f t

-- ---- instances

module _ (types : List TypeDecl) where
  none_pairs : (f : List ℕ) (vs : List Value) (g : Given) (now start : Instant) → Met now (no_nodes.instant f vs g now) → Pairs now (mend_none f start)
  none_pairs f vs g now start m p h t v = gone (now (p ++ (Second ∷ []))) (m (p ++ (Second ∷ []))) t

  alone_pairs : (n : Node) (vs : List Value) (g : Given) (now start : Instant) → Met now (contract_alone types n vs g now) → Pairs now (mend_alone types n start)
  alone_pairs n vs g now start m p f t v = by p (m (p ++ (Second ∷ []))) f t
    where
      seen : Names
      seen = given_outputs n.outputs g.free (input_of n.inputs vs (λ x. Absent))

      last : Names
      last = lasts (λ c. abstraction.constant (constant_of types c)) n.outputs g.past (λ x. Absent)

      in_contract : (p : Place) → now (p ++ (Second ∷ [])) ≡ observer types abstraction no_nodes n.contract seen last g now (p ++ (Second ∷ [])) → now (p ++ (First ∷ [])) ≡ Star → now (p ++ (Second ∷ [])) ≡ Star → mend_contract mend_none n.contract start p v ≡ flag_of v
      in_contract p e f t = contract_pairs types abstraction no_nodes mend_none none_pairs n.contract seen last g now start (λ q. m (Observer ∷ q)) (λ q. m (Assume ∷ q)) (λ q. m (Enforce ∷ q)) p e f t v

      by : (p : Place) → now (p ++ (Second ∷ [])) ≡ contract_alone types n vs g now (p ++ (Second ∷ [])) → now (p ++ (First ∷ [])) ≡ Star → now (p ++ (Second ∷ [])) ≡ Star → mend_alone types n start p v ≡ flag_of v
      by (Body ∷ p) e f t = gone (now (Body ∷ (p ++ (Second ∷ [])))) e t
      by (Inputs ∷ p) e f t = gone (now (Inputs ∷ (p ++ (Second ∷ [])))) (e ∙ row_below vs p) t
      by (Controls ∷ p) e f t = gone (now (Controls ∷ (p ++ (Second ∷ [])))) e t
      by (Named x ∷ []) e f t = gone (now (Named x ∷ Second ∷ [])) (e ∙ no_output types abstraction no_nodes mend_none none_pairs n.contract seen last g now x) t
      by (Named x ∷ a ∷ p) e f t = in_contract (Named x ∷ a ∷ p) e f t
      by (Fresh ∷ []) e f t = in_contract (Fresh ∷ []) e f t
      by (Fresh ∷ a ∷ p) e f t = in_contract (Fresh ∷ a ∷ p) e f t
      by p e f t = in_contract p e f t

  -- of the node of a name among some items
  pub called_pairs : (items : List Item) (f : List ℕ) (o : Option Node) → ((k : Node) → node_among items f ≡ Some k → o ≡ Some k) → (vs : List Value) (g : Given) (now start : Instant)
      → Met now ((callees types items).instant f vs g now) → Pairs now (mend_by types o start)
  called_pairs [] f o found vs g now start m = λ p h t v. gone (now (p ++ (Second ∷ []))) (m (p ++ (Second ∷ []))) t
  called_pairs (TypeItem d ∷ items) f o found vs g now start m = called_pairs items f o found vs g now start m
  called_pairs (NodeItem n ∷ items) f o found vs g now start m = by (bytes_eq n.name f) found m (λ h. called_pairs items f o h vs g now start)
    where
      by : (b : Bool) → ((k : Node) → (if b then Some n else node_among items f) ≡ Some k → o ≡ Some k) → Met now (if b then contract_alone types n vs g now else (callees types items).instant f vs g now)
          → (((k : Node) → node_among items f ≡ Some k → o ≡ Some k) → Met now ((callees types items).instant f vs g now) → Pairs now (mend_by types o start)) → Pairs now (mend_by types o start)
      by true e m more = subst (λ (z : Option Node). Pairs now (mend_by types z start)) (sym (e n refl)) (alone_pairs n vs g now start m)
      by false e m more = more e m
