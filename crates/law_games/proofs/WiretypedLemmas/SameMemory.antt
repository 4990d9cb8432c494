-- What is remembered of a typed node asks only for the nodes that it calls, which are found alike among more items.
use Rattle.std.proofs.Common.{◌≡◌, ℕ, List, [], ◌∷◌, refl, sym, ap, ap₂, ◌∙◌}
use Rattle.std.specs.Prelude.{IsTrue, if◌then◌else◌, Option, None, Some, reverse}
use Rattle.hp_base.specs.declared.ty.Ty.{Ty}
use Rattle.hp_base.specs.declared.ty.Ty.TheVariants as ty
use Rattle.hp_base.specs.declared.value.Value.TheVariants.{Absent, Nil, B}
use Rattle.hp_tree.specs.declared.block.Trans.{Trans}
use Rattle.hp_tree.specs.Expressions.{Expr, constant, variable, last_of, one, two, choose, pre, fby, arrow, when_is, merge, call, Exprs, no_expr, more_exprs, Parts, no_part, more_parts}
use Rattle.hp_tree.specs.Blocks.{Decl, Block, block, Eqns, no_eqn, more_eqns, Eqn, define, switch, reset, automaton, Arms, no_arm, more_arms, States, no_state, more_states}
use Rattle.hp_tree.specs.Programs.{TypeDecl, Contract, Node}
use Rattle.hp_tree.specs.Instant.{Body, Observer, Assume, Enforce, Equations, Head, Tail, Right, Test, Arms as ArmsOf, States as StatesOf, Until, Unless, First, Second, Third, Args, Instance, Instant, Past, part, parts, top, own, newest, at_first, nothing, with_one, with_two, with_three, with_row, with_instance, in_row, of_two, in_block, in_right, with_arms, with_body, in_state, with_words, in_observer}
use Rattle.hp_tree.specs.Meaning.{lasts, selected, state_word, node_among, types_of, absent}
use Rattle.hp_base.specs.Known.Known.{lookup}
use Rattle.hp_typing.specs.Scopes.{with_variables, inside, inside_node}
use Rattle.hp_typing.specs.Types.{type_of, types_in, type_of_one, args_fit}
use Rattle.law_judged.specs.Typed.Scopes.{Scope}
use Rattle.hp_meaning.specs.Contract.Memory.{remembering, has_past, is_last, in_memory, remembers, remembers_all, remembers_parts, remembers_conditions, remembers_block, remembers_equations, remembers_equation, remembers_arms, remembers_states, remembers_contract, remembers_callee}
use Rattle.law_values.specs.Valued.Judged.{Lasts, no_lasts, lasts_in as known_lasts, lasts_of as known_of, body_scope, ExprSound, ExprsSound, PartsSound, TestsSound, ToldSound, ContractSound, NodeSound, BlockSound, EqnsSound, EqnSound, ArmsSound, StatesSound}
use Rattle.law_values.specs.Valued.Values.{scope_behind}
use Rattle.law_values.proofs.ValuedLemmas.Typed.{one_typed, two_typed, if_typed, pair_typed, when_typed, merge_typed, PartsHave, arg_typed}
use Rattle.law_games.specs.Wires.Wired.{value}
use Rattle.law_games.specs.Wires.WiredNodes.{last_outputs}
use Rattle.law_games.specs.Wires.WiredCallees.{no_callees}
use Rattle.law_games.specs.Wiretyped.Laws.{MemoryLaw}
use Rattle.law_games.proofs.WiretypedLemmas.Stored.{IsJudged, judged_of, right_judged}

abbrev Remembers : Type 0
Remembers = List ℕ → Instant → Past → Instant

module _ (types : List TypeDecl) (among : List ℕ → Option Node) (R : Remembers) (Q : Remembers) (same : (f : List ℕ) (n : Node) (start : Instant) (past : Past) → among f ≡ Some n → R f start past ≡ Q f start past) where
  module _ (s : Scope) (known : Lasts) where
    mutual
      expr_same : (e : Expr) (start : Instant) (past : Past) → ExprSound types among s known e → IsJudged s e → remembers types R e start past ≡ remembers types Q e start past
      expr_same (constant a c) start past ok j = refl
      expr_same (variable a x) start past ok j = refl
      expr_same (last_of a x) start past ok j = refl
      expr_same (one a o b) start past ok j =
          let r = one_typed (type_of_one o) (type_of s b) j.0 j.1 in
          ap (with_one Absent) (expr_same b (part First start) (parts First past) ok (judged_of s b (type_of_one o) r.0))
      expr_same (two a o b c) start past ok j =
          let r = two_typed o (type_of s b) (type_of s c) j.0 j.1 in
          ap₂ (with_two Absent) (expr_same b (part First start) (parts First past) ok.0 (judged_of s b r.0 r.2)) (expr_same c (part Second start) (parts Second past) ok.1 (judged_of s c r.0 r.3))
      expr_same (choose a b c d) start past ok j =
          let r = if_typed (type_of s b) (type_of s c) (type_of s d) j.0 j.1 in
          let i = expr_same b (part First start) (parts First past) ok.0 (judged_of s b ty.Bool r.0) in
          let k = expr_same c (part Second start) (parts Second past) ok.1.0 (judged_of s c j.0 r.1) in
          let l = expr_same d (part Third start) (parts Third past) ok.1.1 (judged_of s d j.0 r.2) in
          λ z. with_three Absent (i z) (k z) (l z)
      expr_same (pre a b) start past ok j =
          let i = expr_same b (part First start) (parts First past) ok (judged_of s b j.0 j.1) in
          λ z. remembering (newest (top start) (parts First past)) Absent (i z) nothing
      expr_same (fby a b c) start past ok j =
          let r = pair_typed (type_of s b) (type_of s c) j.0 j.1 in
          let i = expr_same b (part First start) (parts First past) ok.0 (judged_of s b j.0 r.0) in
          let k = expr_same c (part Second start) (parts Second past) ok.1 (judged_of s c j.0 r.1) in
          λ z. remembering (at_first (parts First past) (top start) (newest Nil (parts Second past))) (has_past (parts First past)) (i z) (k z)
      expr_same (arrow a b c) start past ok j =
          let r = pair_typed (type_of s b) (type_of s c) j.0 j.1 in
          let i = expr_same b (part First start) (parts First past) ok.0 (judged_of s b j.0 r.0) in
          let k = expr_same c (part Second start) (parts Second past) ok.1 (judged_of s c j.0 r.1) in
          λ z. remembering Absent (has_past (parts First past)) (i z) (k z)
      expr_same (when_is a b c x) start past ok j =
          let r = when_typed _ (type_of s b) j.0 j.1 in
          ap (with_one Absent) (expr_same b (part First start) (parts First past) ok (judged_of s b j.0 r))
      expr_same (merge a x ps) start past ok j =
          let has = merge_typed s (lookup s.variables x) ps j.0 j.1 in
          ap (with_row Absent) (parts_same ps j.0 (part Args start) (parts Args past) ok.1 has)
      expr_same (call a f il es) start past ok j =
          ap₂ (with_instance Absent) (exprs_same es j.0.inputs (part Args start) (parts Args past) ok.1 j.1.1)
          (same f j.0 (part Instance start) (own (parts Instance past)) (sym ok.0 ∙ j.1.0))

      exprs_same : (es : Exprs) (ds : List Decl) (start : Instant) (past : Past) → ExprsSound types among s known es → IsTrue (args_fit ds (types_in s es)) → remembers_all types R es start past ≡ remembers_all types Q es start past
      exprs_same no_expr ds start past ok h = refl
      exprs_same (more_exprs e es) [] start past ok h = absurd (cc)
      exprs_same (more_exprs e es) (d ∷ ds) start past ok h =
          let r = arg_typed d ds (type_of s e) (types_in s es) h in
          ap₂ (λ i is. i ∷ is) (expr_same e (part Head start) (parts Head past) ok.0 (judged_of s e d.ty r.0)) (exprs_same es ds (part Tail start) (parts Tail past) ok.1 r.1)

      parts_same : (ps : Parts) (t : Ty) (start : Instant) (past : Past) → PartsSound types among s known ps → PartsHave s t ps → remembers_parts types R ps start past ≡ remembers_parts types Q ps start past
      parts_same no_part t start past ok h = refl
      parts_same (more_parts c e ps) t start past ok h =
          ap₂ (λ i is. i ∷ is) (expr_same e (part Head start) (parts Head past) ok.0 (judged_of s e t h.0)) (parts_same ps t (part Tail start) (parts Tail past) ok.1 h.1)

    tests_same : (ts : List Trans) (start : Instant) (past : Past) → TestsSound types among s known ts → remembers_conditions types R ts start past ≡ remembers_conditions types Q ts start past
    tests_same [] start past ok = refl
    tests_same (t ∷ ts) start past ok =
        ap₂ (λ i is. i ∷ is) (expr_same t.cond (part Head start) (parts Head past) ok.0.0 (judged_of s t.cond ty.Bool ok.0.1)) (tests_same ts (part Tail start) (parts Tail past) ok.1)

  mutual
    block_same : (b : Block) (s : Scope) (known : Lasts) (start : Instant) (past : Past) → BlockSound types among s known b → remembers_block types R b start past ≡ remembers_block types Q b start past
    block_same (block ds es) s known start past ok =
        ap (in_block (λ x. if is_last ds x then lasts (value types) ds past absent x else Absent) Absent) (eqns_same es (with_variables s ds) (known_lasts ds known) (part Equations start) (parts Equations past) ok.1.1)

    eqns_same : (es : Eqns) (s : Scope) (known : Lasts) (start : Instant) (past : Past) → EqnsSound types among s known es → remembers_equations types R es start past ≡ remembers_equations types Q es start past
    eqns_same no_eqn s known start past ok = refl
    eqns_same (more_eqns e es) s known start past ok =
        ap₂ of_two (eqn_same e s known (part Head start) (parts Head past) ok.0) (eqns_same es s known (part Tail start) (parts Tail past) ok.1)

    eqn_same : (e : Eqn) (s : Scope) (known : Lasts) (start : Instant) (past : Past) → EqnSound types among s known e → remembers_equation types R e start past ≡ remembers_equation types Q e start past
    eqn_same (define at ys e) s known start past ok =
        let j = right_judged types among s known ys e ok in
        ap in_right (expr_same s known e (part Right start) (parts Right past) j.0 j.1)
    eqn_same (switch at e arms) s known start past ok =
        ap₂ with_arms (expr_same s known e (part Test start) (parts Test past) ok.0 (judged_of s e ok.1.0.0 ok.1.0.1.0)) (arms_same arms (switch at e arms) s known (part ArmsOf start) (parts ArmsOf past) ok.1.1)
    eqn_same (reset at b e) s known start past ok =
        ap₂ with_body (expr_same s known e (part Test start) (parts Test past) ok.0.0 (judged_of s e ty.Bool ok.0.1)) (block_same b s known (part Body start) (own (parts Body past)) ok.1)
    eqn_same (automaton at ss) s known start past ok =
        ap (with_words Absent (state_word (selected past).state) (B (selected past).restart)) (states_same ss (automaton at ss) s known (part StatesOf start) (parts StatesOf past) ok)

    arms_same : (arms : Arms) (e : Eqn) (s : Scope) (known : Lasts) (start : Instant) (past : Past) → ArmsSound types among e s known arms → remembers_arms types R arms start past ≡ remembers_arms types Q arms start past
    arms_same no_arm e s known start past ok = refl
    arms_same (more_arms c b at arms) e s known start past ok =
        ap₂ of_two (block_same b s known (part Head start) (own (parts Head past)) ok.1.0) (arms_same arms e s known (part Tail start) (parts Tail past) ok.1.1)

    states_same : (ss : States) (e : Eqn) (s : Scope) (known : Lasts) (start : Instant) (past : Past) → StatesSound types among e s known ss → remembers_states types R ss start past ≡ remembers_states types Q ss start past
    states_same no_state e s known start past ok = refl
    states_same (more_states f b until unless at ss) e s known start past ok =
        let i = block_same b s known (part Body (part Head start)) (own (parts Body (parts Head past))) ok.1.0 in
        let u = tests_same (inside s b) (known_of b known) until (part Until (part Head start)) (parts Until (parts Head past)) ok.1.1.0 in
        let w = tests_same s known unless (part Unless (part Head start)) (parts Unless (parts Head past)) ok.1.1.1.0 in
        ap₂ of_two (λ z. in_state (i z) (in_row (u z)) (in_row (w z))) (states_same ss e s known (part Tail start) (parts Tail past) ok.1.1.1.1)

  abbrev told_memory : Remembers → Option Expr → Instant → Past → Instant
  told_memory S None start past = nothing
  told_memory S (Some e) start past = remembers types S e start past

  told_same : (o : Option Expr) (s : Scope) (known : Lasts) (start : Instant) (past : Past) → ToldSound types among s known o → told_memory R o start past ≡ told_memory Q o start past
  told_same None s known start past ok = refl
  told_same (Some e) s known start past ok = expr_same s known e start past ok.0 (judged_of s e ty.Bool ok.1)

  contract_same : (o : Option Contract) (s : Scope) (known : Lasts) (start : Instant) (past : Past) → ContractSound types among s known o → remembers_contract types R o start past ≡ remembers_contract types Q o start past
  contract_same None s known start past ok = refl
  contract_same (Some c) s known start past ok =
      let i = block_same c.body s known (part Observer start) (own (parts Observer past)) ok.0 in
      let j = told_same c.assume (inside s c.body) (known_of c.body known) (part Assume start) (parts Assume past) ok.1.0 in
      let k = told_same c.enforce (inside s c.body) (known_of c.body known) (part Enforce start) (parts Enforce past) ok.1.1 in
      λ z. in_observer (i z) (j z) (k z)

  node_same : (n : Node) (s : Scope) (start : Instant) (past : Past) → NodeSound types among s n
      → in_memory (last_outputs types no_callees n.outputs past) (remembers_block types R n.body (part Body start) (own (parts Body past))) (remembers_contract types R n.contract start past)
      ≡ in_memory (last_outputs types no_callees n.outputs past) (remembers_block types Q n.body (part Body start) (own (parts Body past))) (remembers_contract types Q n.contract start past)
  node_same n s start past ok =
      ap₂ (in_memory (last_outputs types no_callees n.outputs past))
      (block_same n.body (body_scope s n) (known_lasts n.outputs no_lasts) (part Body start) (own (parts Body past)) ok.1.1.1.1.0)
      (contract_same n.contract (inside_node s n) (known_lasts n.outputs no_lasts) start past ok.1.1.1.1.1)

pub memory_same : MemoryLaw
memory_same program class earlier n start history acc found =
    node_same (types_of program) (node_among earlier) (λ f st p. remembers_callee (types_of program) (node_among earlier f) st p) (λ f st p. remembers_callee (types_of program) (node_among (reverse program) f) st p)
    (λ f k st p a. ap (λ o. remembers_callee (types_of program) o st p) (a ∙ sym (found f k a))) n (scope_behind earlier) start history acc.0.sound
