-- Wires that solve the circuits solve them too where each instance is given another way that agrees on what solves its own.
use Rattle.std.proofs.Common.{◌≡◌, ℕ, suc, List, [], ◌∷◌, map, refl, ap, ap₂, ◌∙◌}
use Rattle.std.specs.Prelude.{Bool, false, if◌then◌else◌, nat_eq, Option, None, Some}
use Rattle.hp_base.specs.declared.span.Span.{Span}
use Rattle.hp_base.specs.declared.value.Value.{Value}
use Rattle.hp_base.specs.declared.value.Value.TheVariants.{Absent, B}
use Rattle.hp_tree.specs.declared.block.Trans.{Trans}
use Rattle.hp_tree.specs.Expressions.{Expr, constant, variable, last_of, one, two, choose, pre, fby, arrow, when_is, merge, call, Exprs, no_expr, more_exprs, Parts, no_part, more_parts}
use Rattle.hp_tree.specs.Blocks.{Block, block, Eqns, no_eqn, more_eqns, Eqn, define, switch, reset, automaton, Arms, no_arm, more_arms, States, no_state, more_states}
use Rattle.hp_tree.specs.Programs.{TypeDecl, Contract, Node}
use Rattle.hp_tree.specs.Operators.{abstraction, is_cons, is_true, if_of}
use Rattle.hp_tree.specs.Instant.{Body, Named, Fresh, Equations, Head, Tail, Right, Test, Arms as ArmsOf, States as StatesOf, Observer, Assume, Enforce, Until, Unless, First, with_one, with_two, with_three, with_row, with_instance, of_two, in_block, in_right, with_arms, with_body, in_state, with_words, in_observer, in_node, Second, Third, Args, Instance, Instant, part, top, in_row}
use Rattle.hp_tree.specs.Meaning.{Names, defines, some_defines, within, only_output, from_block, inside, declares, Jump, state_word, first_true, absent}
use Rattle.law_games.specs.Wires.Wired.{Held, held_at, Callees, blank, lasts_in, picked, wired, wired_all, wired_parts}
use Rattle.law_games.specs.Wires.WiredBlocks.{selected_in, read_of, lasts_of, state_value, right_in, arm_value, anew, wired_conditions, strong_in, weak_of, wired_gives, wired_defined, wired_block, wired_equations, wired_equation, wired_arms, wired_states}
use Rattle.law_games.specs.Wires.WiredNodes.{controls_in, body_names, contract_names, wired_told, wired_observer, wired_node}

abbrev pub Wires : Type 0
Wires = List ℕ → List Value → Held → Instant → Instant

-- the same callees, with other wires
abbrev pub with_wires : Callees → Wires → Callees
with_wires C w = record C { wired = w }

module _ (types : List TypeDecl) (C : Callees) (w : Wires) (A : (f : List ℕ) (ins : List Value) (m : Held) (i : Instant) → i ≡ C.wired f ins m i → w f ins m i ≡ C.wired f ins m i) where
  abbrev D : Callees
  D = with_wires C w

  mutual
    expr_swap : (e : Expr) (names last : Names) (m : Held) (now : Instant) → now ≡ wired types C e names last m now → wired types D e names last m now ≡ wired types C e names last m now
    expr_swap (constant s c) names last m now h = refl
    expr_swap (variable s x) names last m now h = refl
    expr_swap (last_of s x) names last m now h = refl
    expr_swap (one s o a) names last m now h =
        let i = expr_swap a names last (held_at First m) (part First now) (ap (part First) h) in
        λ z. with_one (abstraction.one o (top (i z))) (i z)
    expr_swap (two s o a b) names last m now h =
        let i = expr_swap a names last (held_at First m) (part First now) (ap (part First) h) in
        let j = expr_swap b names last (held_at Second m) (part Second now) (ap (part Second) h) in
        λ z. with_two (abstraction.two o (top m.free) (top (i z)) (top (j z))) (i z) (j z)
    expr_swap (choose s a b c) names last m now h =
        let i = expr_swap a names last (held_at First m) (part First now) (ap (part First) h) in
        let j = expr_swap b names last (held_at Second m) (part Second now) (ap (part Second) h) in
        let k = expr_swap c names last (held_at Third m) (part Third now) (ap (part Third) h) in
        λ z. with_three (if_of (top (i z)) (top (j z)) (top (k z))) (i z) (j z) (k z)
    expr_swap (pre s a) names last m now h = ap (with_one (top m.memory)) (expr_swap a names last (held_at First m) (part First now) (ap (part First) h))
    expr_swap (fby s a b) names last m now h =
        let i = expr_swap a names last (held_at First m) (part First now) (ap (part First) h) in
        let j = expr_swap b names last (held_at Second m) (part Second now) (ap (part Second) h) in
        λ z. with_two (if is_true (m.memory (Fresh ∷ [])) then top m.memory else top (i z)) (i z) (j z)
    expr_swap (arrow s a b) names last m now h =
        let i = expr_swap a names last (held_at First m) (part First now) (ap (part First) h) in
        let j = expr_swap b names last (held_at Second m) (part Second now) (ap (part Second) h) in
        λ z. with_two (if is_true (m.memory (Fresh ∷ [])) then top (j z) else top (i z)) (i z) (j z)
    expr_swap (when_is s a c x) names last m now h =
        let i = expr_swap a names last (held_at First m) (part First now) (ap (part First) h) in
        λ z. with_one (top (i z)) (i z)
    expr_swap (merge s x ps) names last m now h =
        let is = parts_swap ps names last (held_at Args m) (part Args now) (ap (part Args) h) in
        λ z. with_row (picked types Absent ps (names x) (is z)) (is z)
    expr_swap (call s f inlined es) names last m now h =
        let is = all_swap es names last (held_at Args m) (part Args now) (ap (part Args) h) in
        let i = ap (λ is. w f (map top is) (held_at Instance m) (part Instance now)) is ∙ A f (map top (wired_all types C es names last (held_at Args m) (part Args now))) (held_at Instance m) (part Instance now) (ap (part Instance) h) in
        λ z. with_instance (only_output (C.outputs f) (i z)) (is z) (i z)

    all_swap : (es : Exprs) (names last : Names) (m : Held) (now : Instant) → now ≡ in_row (wired_all types C es names last m now) → wired_all types D es names last m now ≡ wired_all types C es names last m now
    all_swap no_expr names last m now h = refl
    all_swap (more_exprs e es) names last m now h =
        ap₂ (λ i is. i ∷ is) (expr_swap e names last (held_at Head m) (part Head now) (ap (part Head) h)) (all_swap es names last (held_at Tail m) (part Tail now) (ap (part Tail) h))

    parts_swap : (ps : Parts) (names last : Names) (m : Held) (now : Instant) → now ≡ in_row (wired_parts types C ps names last m now) → wired_parts types D ps names last m now ≡ wired_parts types C ps names last m now
    parts_swap no_part names last m now h = refl
    parts_swap (more_parts c e ps) names last m now h =
        ap₂ (λ i is. i ∷ is) (expr_swap e names last (held_at Head m) (part Head now) (ap (part Head) h)) (parts_swap ps names last (held_at Tail m) (part Tail now) (ap (part Tail) h))

  conditions_swap : (ts : List Trans) (names last : Names) (m : Held) (now : Instant) → now ≡ in_row (wired_conditions types C ts names last m now) → wired_conditions types D ts names last m now ≡ wired_conditions types C ts names last m now
  conditions_swap [] names last m now h = refl
  conditions_swap (t ∷ ts) names last m now h =
      ap₂ (λ i is. i ∷ is) (expr_swap t.cond names last (held_at Head m) (part Head now) (ap (part Head) h)) (conditions_swap ts names last (held_at Tail m) (part Tail now) (ap (part Tail) h))

  strong_swap : (all ss : States) (k : ℕ) (s j : Jump) (names inner last : Names) (m : Held) (now : Instant) → now ≡ wired_states types C ss j names inner last m now → strong_in types D all ss k s names last m now ≡ strong_in types C all ss k s names last m now
  strong_swap all no_state k s j names inner last m now h = refl
  strong_swap all (more_states f b until unless p ss) k s j names inner last m now h =
      ap₂ (λ is v. if nat_eq k s.state then first_true all unless (map top is) s else v)
      (conditions_swap unless names last (held_at Unless (held_at Head m)) (part Unless (part Head now)) (ap (λ w. part Unless (part Head w)) h))
      (strong_swap all ss (suc k) s j names inner last (held_at Tail m) (part Tail now) (ap (part Tail) h))

  weak_swap : (all ss : States) (k : ℕ) (j : Jump) (out names last : Names) (m : Held) (now : Instant) → now ≡ wired_states types C ss j out names last m now → weak_of types D all ss k j names last m now ≡ weak_of types C all ss k j names last m now
  weak_swap all no_state k j out names last m now h = refl
  weak_swap all (more_states f b until unless p ss) k j out names last m now h =
      ap₂ (λ is v. if nat_eq k j.state then first_true all until (map top is) (record { state = j.state; restart = false }) else v)
      (conditions_swap until (read_of b names (part Body (part Head now))) (lasts_of b (anew types C b j.restart (held_at Body (held_at Head m))).memory last) (held_at Until (held_at Head m)) (part Until (part Head now)) (ap (λ w. part Until (part Head w)) h))
      (weak_swap all ss (suc k) j out names last (held_at Tail m) (part Tail now) (ap (part Tail) h))

  right_swap : (ys : List (List ℕ × Span)) (e : Expr) (i : Instant) (x : List ℕ) → right_in types D ys e i x ≡ right_in types C ys e i x
  right_swap ys (call s f inlined es) i x = refl
  right_swap ys e i x = refl

  arm_value_swap : (d : Value) (arms : Arms) (v : Value) (last : Names) (now : Instant) (x : List ℕ) → arm_value types D d arms v last now x ≡ arm_value types C d arms v last now x
  arm_value_swap d no_arm v last now x = refl
  arm_value_swap d (more_arms c b s arms) v last now x = ap (λ z. if is_cons types v c then from_block b last (part Head now) x else z) (arm_value_swap (blank (from_block b last (part Head now) x)) arms v last (part Tail now) x)

  gives_swap : (e : Eqn) (names last : Names) (m : Held) (now : Instant) (x : List ℕ) → now ≡ wired_equation types C e names last m now → wired_gives types D e names last m now x ≡ wired_gives types C e names last m now x
  gives_swap (define s ys e) names last m now x h =
      right_swap ys e (wired types D e names last (held_at Right m) (part Right now)) x ∙ ap (λ i. right_in types C ys e i x) (expr_swap e names last (held_at Right m) (part Right now) (ap (part Right) h))
  gives_swap (switch s e arms) names last m now x h =
      arm_value_swap Absent arms _ last (part ArmsOf now) x ∙ ap (λ i. arm_value types C Absent arms (top i) last (part ArmsOf now) x) (expr_swap e names last (held_at Test m) (part Test now) (ap (part Test) h))
  gives_swap (reset s b e) names last m now x h = refl
  gives_swap (automaton s ss) names last m now x h =
      ap (λ (j : Jump). state_value Absent ss 0 j.state last (part StatesOf now) x) (strong_swap ss ss 0 (selected_in m.memory) _ names _ last (held_at StatesOf m) (part StatesOf now) (ap (part StatesOf) h))

  defined_swap : (es : Eqns) (names last : Names) (m : Held) (now : Instant) (x : List ℕ) → now ≡ wired_equations types C es names last m now → wired_defined types D es names last m now x ≡ wired_defined types C es names last m now x
  defined_swap no_eqn names last m now x h = refl
  defined_swap (more_eqns e es) names last m now x h =
      ap₂ (λ v u. if defines e x then v else u) (gives_swap e names last (held_at Head m) (part Head now) x (ap (part Head) h)) (defined_swap es names last (held_at Tail m) (part Tail now) x (ap (part Tail) h))

  mutual
    block_swap : (b : Block) (fresh : Bool) (names last : Names) (m : Held) (now : Instant) → now ≡ wired_block types C b fresh names last m now → wired_block types D b fresh names last m now ≡ wired_block types C b fresh names last m now
    block_swap (block ds es) fresh names last m now h =
        let names' = inside es names now in
        let last' = lasts_in ds m.memory last in
        λ z. in_block
        (λ x. if some_defines es x then defined_swap es names' last' (held_at Equations m) (part Equations now) x (ap (part Equations) h) z else Absent)
        (B fresh) (equations_swap es names' last' (held_at Equations m) (part Equations now) (ap (part Equations) h) z)

    equations_swap : (es : Eqns) (names last : Names) (m : Held) (now : Instant) → now ≡ wired_equations types C es names last m now → wired_equations types D es names last m now ≡ wired_equations types C es names last m now
    equations_swap no_eqn names last m now h = refl
    equations_swap (more_eqns e es) names last m now h =
        ap₂ of_two (equation_swap e names last (held_at Head m) (part Head now) (ap (part Head) h)) (equations_swap es names last (held_at Tail m) (part Tail now) (ap (part Tail) h))

    equation_swap : (e : Eqn) (names last : Names) (m : Held) (now : Instant) → now ≡ wired_equation types C e names last m now → wired_equation types D e names last m now ≡ wired_equation types C e names last m now
    equation_swap (define s ys e) names last m now h = ap in_right (expr_swap e names last (held_at Right m) (part Right now) (ap (part Right) h))
    equation_swap (switch s e arms) names last m now h =
        ap₂ with_arms (expr_swap e names last (held_at Test m) (part Test now) (ap (part Test) h)) (arms_swap arms (within (switch s e arms) names last) last (held_at ArmsOf m) (part ArmsOf now) (ap (part ArmsOf) h))
    equation_swap (reset s b e) names last m now h =
        let i = expr_swap e names last (held_at Test m) (part Test now) (ap (part Test) h) in
        let names' = within (reset s b e) names last in
        let v = wired types C e names last (held_at Test m) (part Test now) in
        ap₂ with_body i
        (ap (λ i. wired_block types D b (is_true (top i)) names' last (anew types D b (is_true (top i)) (held_at Body m)) (part Body now)) i
        ∙ block_swap b (is_true (top v)) names' last (anew types C b (is_true (top v)) (held_at Body m)) (part Body now) (ap (part Body) h))
    equation_swap (automaton s ss) names last m now h =
        let j = strong_in types C ss ss 0 (selected_in m.memory) names last (held_at StatesOf m) (part StatesOf now) in
        let names' = within (automaton s ss) names last in
        let hs = ap (part StatesOf) h in
        let e = strong_swap ss ss 0 (selected_in m.memory) j names names' last (held_at StatesOf m) (part StatesOf now) hs in
        let v = ap (λ (j : Jump). weak_of types D ss ss 0 j names' last (held_at StatesOf m) (part StatesOf now)) e ∙ weak_swap ss ss 0 j names names' last (held_at StatesOf m) (part StatesOf now) hs in
        let st = ap (λ (j : Jump). wired_states types D ss j names names' last (held_at StatesOf m) (part StatesOf now)) e ∙ states_swap ss j names names' last (held_at StatesOf m) (part StatesOf now) hs in
        λ z. with_words (state_word (e z).state) (state_word (v z).state) (B (v z).restart) (st z)

    arms_swap : (arms : Arms) (names last : Names) (m : Held) (now : Instant) → now ≡ wired_arms types C arms names last m now → wired_arms types D arms names last m now ≡ wired_arms types C arms names last m now
    arms_swap no_arm names last m now h = refl
    arms_swap (more_arms c b s arms) names last m now h =
        ap₂ of_two (block_swap b false names last (held_at Head m) (part Head now) (ap (part Head) h)) (arms_swap arms names last (held_at Tail m) (part Tail now) (ap (part Tail) h))

    states_swap : (ss : States) (j : Jump) (out names last : Names) (m : Held) (now : Instant) → now ≡ wired_states types C ss j out names last m now → wired_states types D ss j out names last m now ≡ wired_states types C ss j out names last m now
    states_swap no_state j out names last m now h = refl
    states_swap (more_states f b until unless p ss) j out names last m now h =
        let i = block_swap b j.restart names last (anew types C b j.restart (held_at Body (held_at Head m))) (part Body (part Head now)) (ap (λ w. part Body (part Head w)) h) in
        let u = conditions_swap until (read_of b names (part Body (part Head now))) (lasts_of b (anew types C b j.restart (held_at Body (held_at Head m))).memory last) (held_at Until (held_at Head m)) (part Until (part Head now)) (ap (λ w. part Until (part Head w)) h) in
        let v = conditions_swap unless out last (held_at Unless (held_at Head m)) (part Unless (part Head now)) (ap (λ w. part Unless (part Head w)) h) in
        ap₂ of_two (λ z. in_state (i z) (in_row (u z)) (in_row (v z))) (states_swap ss j out names last (held_at Tail m) (part Tail now) (ap (part Tail) h))

  told_swap : (o : Option Expr) (names last : Names) (m : Held) (now : Instant) → now ≡ wired_told types C o names last m now → wired_told types D o names last m now ≡ wired_told types C o names last m now
  told_swap None names last m now h = refl
  told_swap (Some e) names last m now h = expr_swap e names last m now h

  observer_swap : (o : Option Contract) (names last outs : Names) (ins controls : List Value) (body : Instant) (m : Held) (now : Instant) → now ≡ in_node outs ins controls body (wired_observer types C o names last m now) → wired_observer types D o names last m now ≡ wired_observer types C o names last m now
  observer_swap None names last outs ins controls body m now h = refl
  observer_swap (Some c) names last outs ins controls body m now h =
      let own_names = read_of c.body names (part Observer now) in
      let own_last = lasts_of c.body (part Observer m.memory) last in
      λ z. in_observer
      (block_swap c.body false names last (held_at Observer m) (part Observer now) (ap (part Observer) h) z)
      (told_swap c.assume own_names own_last (held_at Assume m) (part Assume now) (ap (part Assume) h) z)
      (told_swap c.enforce own_names own_last (held_at Enforce m) (part Enforce now) (ap (part Enforce) h) z)

  pub node_swap : (n : Node) (inputs : List Value) (m : Held) (now : Instant) → now ≡ wired_node types C n inputs m now → wired_node types D n inputs m now ≡ wired_node types C n inputs m now
  node_swap n inputs m now h =
      let last = lasts_in n.outputs m.memory absent in
      λ z. in_node (λ x. if declares n.outputs x then now (Body ∷ Named x ∷ []) else Absent) inputs (controls_in types C n m.free)
      (block_swap n.body false (body_names types C n inputs m.free) last (held_at Body m) (part Body now) (ap (part Body) h) z)
      (observer_swap n.contract (contract_names types C n inputs now) last _ inputs (controls_in types C n m.free) _ m now h z)
