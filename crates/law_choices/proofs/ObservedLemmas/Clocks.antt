-- The clocks of an observer are right, where those of the contract are.
use Rattle.std.proofs.Common.{◌≡◌, ◌⊎◌, inl, inr, ℕ, ◌+◌, Bool, true, false, if◌then◌else◌, ◌||◌, List, [], ◌∷◌, ◌++◌, map, refl, sym, ap, ap₂, subst, ◌∙◌}
use Rattle.std.specs.Prelude.{IsTrue, Option, None, Some}
use Rattle.std.specs.Str.{bytes_eq}
use Rattle.hp_base.specs.declared.span.Span.{Span}
use Rattle.hp_base.specs.declared.ty.Const.{Const}
use Rattle.hp_tree.specs.declared.block.Trans.{Trans}
use Rattle.hp_tree.specs.declared.program.Item.{Item}
use Rattle.hp_tree.specs.declared.program.Item.TheVariants.{TypeItem, NodeItem}
use Rattle.hp_tree.specs.Expressions.{Expr, constant, variable, last_of, one, two, choose, pre, fby, arrow, when_is, merge, call, Exprs, no_expr, more_exprs, Parts, no_part, more_parts}
use Rattle.hp_tree.specs.Blocks.{Decl, Block, block, Eqns, no_eqn, more_eqns, Eqn, define, switch, reset, automaton, Arms, no_arm, more_arms, States, no_state, more_states, eqns_of, list_of_eqns}
use Rattle.hp_tree.specs.Programs.{Contract, Node}
use Rattle.hp_tree.specs.Instant.{Clock, without}
use Rattle.hp_tree.specs.Meaning.{declares, some_defines, written, clock_in, clock_told, clocks_told, clock_of, or_clock, or_base, on_step}
use Rattle.hp_meaning.specs.Causal.Clocked.{Standing, base_alone, standing_in, standing_of, ClockRight, IsOn, ExprsOn, PartsOn, ConditionsOn, LeftsOn, LastOnBase, DeclarationsRight, BlockRight, AllRight, OneRight, ArmsRight, StatesRight, on_base, TellsOnBase, ContractRight, ClocksRight, own_clock}
use Rattle.hp_meaning.specs.Clocking.Clocking.{base_written}
use Rattle.law_judged.specs.Named.Scoped.{EachNode, also, no_names, interface, NodeScoped, BlockScoped, ContractScoped}
use Rattle.law_judged.specs.Replaced.Fitting.{BlockNames, ContractNames}
use Rattle.law_judged.proofs.NamedLemmas.Sets.{or_cases, or_left, or_right, declares_append}
use Rattle.law_values.specs.Accepted.Written.{AreClocked}
use Rattle.law_judged.proofs.OnceLemmas.Renamed.{or_none}
use Rattle.law_automata.proofs.LoweredLemmas.Apart.{bytes_same, same_bytes}
use Rattle.hp_watch.specs.Observing.{assumed, enforced, outputs_at, input_name, inputs_for, equation, condition_of, all_handed_on, with_lines, lines_of, observer_of}
use Rattle.law_choices.specs.Observed.Contracts.{IsOther, IsObservable}
use Rattle.law_choices.proofs.ObservedLemmas.Bodies.{defines_behind, handed_defines, assumed_not_other, enforced_not_other, input_not_other, none_declared, outputs_other, inputs_other, lines_define, eqn_local, false_unless}
use Rattle.law_choices.proofs.ObservedLemmas.Removable.{AllBase}

-- ---- what stands on a clock stands there too where more names do

abbrev Wider : Standing → Standing → Type 0
Wider names all = (x : List ℕ) (k : Clock) → names x ≡ Some k → all x ≡ Some k

module _ (names all : Standing) (w : Wider names all) where
  clock_right : (clock : Clock) → ClockRight names clock → ClockRight all clock
  clock_right [] h = tt
  clock_right (on ∷ clock) h = (w on.1 clock h.0, clock_right clock h.1)

  mutual
    expr_on : (e : Expr) (clock : Clock) → IsOn names e clock → IsOn all e clock
    expr_on (constant s c) clock h = tt
    expr_on (variable s x) clock h = w x clock h
    expr_on (last_of s x) clock h = h
    expr_on (one s o a) clock h = expr_on a clock h
    expr_on (two s o a b) clock h = (expr_on a clock h.0, expr_on b clock h.1)
    expr_on (choose s a b c) clock h = (expr_on a clock h.0, expr_on b clock h.1, expr_on c clock h.2)
    expr_on (pre s a) clock h = expr_on a clock h
    expr_on (fby s a b) clock h = (expr_on a clock h.0, expr_on b clock h.1)
    expr_on (arrow s a b) clock h = (expr_on a clock h.0, expr_on b clock h.1)
    expr_on (when_is s a c x) clock h = (h.0, w x (without clock) h.1, expr_on a (without clock) h.2)
    expr_on (merge s x ps) clock h = (w x clock h.0, parts_on x ps clock h.1)
    expr_on (call s f inlined es) clock h = exprs_on es clock h

    exprs_on : (es : Exprs) (clock : Clock) → ExprsOn names es clock → ExprsOn all es clock
    exprs_on no_expr clock h = tt
    exprs_on (more_exprs e es) clock h = (expr_on e clock h.0, exprs_on es clock h.1)

    parts_on : (x : List ℕ) (ps : Parts) (clock : Clock) → PartsOn names x ps clock → PartsOn all x ps clock
    parts_on x no_part clock h = tt
    parts_on x (more_parts c e ps) clock h = (expr_on e ((c, x) ∷ clock) h.0, parts_on x ps clock h.1)

  conditions_on : (ts : List Trans) → ConditionsOn names ts → ConditionsOn all ts
  conditions_on [] h = tt
  conditions_on (t ∷ ts) h = (expr_on t.cond [] h.0, conditions_on ts h.1)

  declarations_right : (ds : List Decl) → DeclarationsRight names ds → DeclarationsRight all ds
  declarations_right [] h = tt
  declarations_right (d ∷ ds) h = (clock_right (written d.clock) h.0, h.1, declarations_right ds h.2)

  standing_wider : (ds : List Decl) (es : Eqns) → Wider (standing_in ds es names) (standing_in ds es all)
  standing_wider ds es x k h = by (some_defines es x) h
    where
      base : (o p : Option Clock) → ((j : Clock) → o ≡ Some j → p ≡ Some j) → base_alone o ≡ Some k → base_alone p ≡ Some k
      base None p f q = absurd cc
      base (Some []) p f q = ap base_alone (f [] refl) ∙ q
      base (Some (on ∷ clock)) p f q = absurd cc

      by : (b : Bool) → (if b then Some (clock_in ds x) else base_alone (names x)) ≡ Some k → (if b then Some (clock_in ds x) else base_alone (all x)) ≡ Some k
      by true q = q
      by false q = base (names x) (all x) (w x) q

-- ---- declarations that say the same clocks

module _ (ds more : List Decl) (same : (x : List ℕ) → clock_in more x ≡ clock_in ds x) where
  mutual
    told_same : (e : Expr) → clock_told more e ≡ clock_told ds e
    told_same (constant s c) = refl
    told_same (variable s x) = ap Some (same x)
    told_same (last_of s x) = refl
    told_same (one s o a) = told_same a
    told_same (two s o a b) = ap₂ or_clock (told_same a) (told_same b)
    told_same (choose s a b c) = ap₂ or_clock (told_same a) (ap₂ or_clock (told_same b) (told_same c))
    told_same (pre s a) = told_same a
    told_same (fby s a b) = ap₂ or_clock (told_same a) (told_same b)
    told_same (arrow s a b) = ap₂ or_clock (told_same a) (told_same b)
    told_same (when_is s a c x) = ap (λ k. on_step c x (Some k)) (same x)
    told_same (merge s x ps) = ap Some (same x)
    told_same (call s f i es) = all_same es

    all_same : (es : Exprs) → clocks_told more es ≡ clocks_told ds es
    all_same no_expr = refl
    all_same (more_exprs e es) = ap₂ or_clock (told_same e) (all_same es)

  pub of_same : (ys : List (List ℕ × Span)) (e : Expr) → clock_of more ys e ≡ clock_of ds ys e
  of_same [] e = ap or_base (told_same e)
  of_same (y ∷ ys) e = same y.0

  lefts_same : (ys : List (List ℕ × Span)) (clock : Clock) → LeftsOn ds ys clock → LeftsOn more ys clock
  lefts_same [] clock h = tt
  lefts_same (y ∷ ys) clock h = (same y.0 ∙ h.0, lefts_same ys clock h.1)

-- ---- equations

mutual
  one_right : (names all : Standing) → Wider names all → (ds more : List Decl) → ((x : List ℕ) → clock_in more x ≡ clock_in ds x) → (e : Eqn) → OneRight names ds e → OneRight all more e
  one_right names all w ds more same (define s ys e) h =
      subst (λ k. ClockRight all k × LeftsOn more ys k × IsOn all e k) (sym (of_same ds more same ys e))
      (clock_right names all w (clock_of ds ys e) h.0, lefts_same ds more same ys (clock_of ds ys e) h.1, expr_on names all w e (clock_of ds ys e) h.2)
  one_right names all w ds more same (switch s e arms) h = ((λ x q. same x ∙ h.0 x q), expr_on names all w e [] h.1, arms_right names all w arms h.2)
  one_right names all w ds more same (reset s b e) h = ((λ x q. same x ∙ h.0 x q), expr_on names all w e [] h.1, block_right names all w b h.2)
  one_right names all w ds more same (automaton s ss) h = ((λ x q. same x ∙ h.0 x q), states_right names all w ss h.1)

  all_right : (names all : Standing) → Wider names all → (ds more : List Decl) → ((x : List ℕ) → clock_in more x ≡ clock_in ds x) → (es : Eqns) → AllRight names ds es → AllRight all more es
  all_right names all w ds more same no_eqn h = tt
  all_right names all w ds more same (more_eqns e es) h = (one_right names all w ds more same e h.0, all_right names all w ds more same es h.1)

  block_right : (names all : Standing) → Wider names all → (b : Block) → BlockRight names b → BlockRight all b
  block_right names all w (block ds es) h =
      let inner = standing_wider names all w ds es in
      (declarations_right (standing_in ds es names) (standing_in ds es all) inner ds h.0, all_right (standing_in ds es names) (standing_in ds es all) inner ds ds (λ x. refl) es h.1)

  arms_right : (names all : Standing) → Wider names all → (arms : Arms) → ArmsRight names arms → ArmsRight all arms
  arms_right names all w no_arm h = tt
  arms_right names all w (more_arms c b s arms) h = (block_right names all w b h.0, arms_right names all w arms h.1)

  states_right : (names all : Standing) → Wider names all → (ss : States) → StatesRight names ss → StatesRight all ss
  states_right names all w no_state h = tt
  states_right names all w (more_states f (block ds es) until unless s ss) h = (
    block_right names all w (block ds es) h.0,
    conditions_on (standing_in ds es names) (standing_in ds es all) (standing_wider names all w ds es) until h.1,
    conditions_on names all w unless h.2,
    states_right names all w ss h.3,
  )

right_behind : (names : Standing) (ds : List Decl) (es : Eqns) (more : List Eqn) → AllRight names ds es → AllRight names ds (eqns_of more) → AllRight names ds (eqns_of (list_of_eqns es ++ more))
right_behind names ds no_eqn more h k = k
right_behind names ds (more_eqns e es) more h k = (h.0, right_behind names ds es more h.1 k)

declarations_both : (names : Standing) (ds more : List Decl) → DeclarationsRight names ds → DeclarationsRight names more → DeclarationsRight names (ds ++ more)
declarations_both names [] more h k = k
declarations_both names (d ∷ ds) more h k = (h.0, h.1, declarations_both names ds more h.2 k)

-- ---- outputs are on the base clock

base_clock : (ds : List Decl) (x : List ℕ) → AllBase ds → clock_in ds x ≡ []
base_clock [] x h = refl
base_clock (d ∷ ds) x h = by (bytes_eq d.name x) (base_clock ds x h.1)
  where
    by : (b : Bool) → clock_in ds x ≡ [] → (if b then written d.clock else clock_in ds x) ≡ []
    by true f = ap written h.0
    by false f = f

pub clock_behind : (ds more : List Decl) → AllBase more → (x : List ℕ) → clock_in (ds ++ more) x ≡ clock_in ds x
clock_behind [] more h x = base_clock more x h
clock_behind (d ∷ ds) more h x = ap (λ k. if bytes_eq d.name x then written d.clock else k) (clock_behind ds more h x)

base_declarations : (names : Standing) (ds : List Decl) → AllBase ds → DeclarationsRight names ds
base_declarations names [] h = tt
base_declarations names (d ∷ ds) h = (subst (λ k. ClockRight names (written k)) (sym h.0) tt, last d.last, base_declarations names ds h.1)
  where
    last : (o : Option Const) → LastOnBase (record d { last = o })
    last None = tt
    last (Some c) = ap written h.0

pub all_base : (ds : List Decl) → AllBase (map base_written ds)
all_base [] = tt
all_base (d ∷ ds) = (refl, all_base ds)

pub outputs_based : (xs ys : List Item) → AreClocked xs ys → EachNode (λ (n : Node). AllBase n.outputs) ys
outputs_based [] [] c = tt
outputs_based (TypeItem t ∷ xs) (y ∷ ys) c = subst (λ z. EachNode (λ (n : Node). AllBase n.outputs) (z ∷ ys)) (sym c.0) (outputs_based xs ys c.1)
outputs_based (NodeItem n ∷ xs) (y ∷ ys) c = subst (λ z. EachNode (λ (m : Node). AllBase m.outputs) (z ∷ ys)) (sym c.0.1.1) (all_base n.outputs, outputs_based xs ys c.1)
outputs_based [] (y ∷ ys) c = absurd c
outputs_based (TypeItem t ∷ xs) [] c = absurd c
outputs_based (NodeItem n ∷ xs) [] c = absurd c

undeclared : (ds : List Decl) (x : List ℕ) → declares ds x ≡ false → clock_in ds x ≡ []
undeclared [] x q = refl
undeclared (d ∷ ds) x q = by (bytes_eq d.name x) q (undeclared ds x)
  where
    by : (b : Bool) → (b || declares ds x) ≡ false → (declares ds x ≡ false → clock_in ds x ≡ []) → (if b then written d.clock else clock_in ds x) ≡ []
    by true p f = absurd cc
    by false p f = f p

-- ---- the observer

module _ (n : Node) (c : Contract) (base : AllBase n.outputs) (names : (x : List ℕ) → IsTrue (interface n x) → IsOther x) where
  abbrev seen : Standing
  seen x = on_base (declares n.inputs x || declares n.outputs x)

  abbrev outer : Standing
  outer x = on_base (declares (n.inputs ++ inputs_for 0 n.outputs) x || (declares (outputs_at c.span) x || false))

  input_outer : (x : List ℕ) → IsTrue (declares n.inputs x) → outer x ≡ Some []
  input_outer x h = ap (λ a. on_base (a || (declares (outputs_at c.span) x || false))) (declares_append n.inputs (inputs_for 0 n.outputs) x ∙ ap (λ a. a || declares (inputs_for 0 n.outputs) x) h)

  new_outer : (i : ℕ) (ds : List Decl) (x : List ℕ) → IsTrue (declares (inputs_for i ds) x) → IsTrue (declares (n.inputs ++ inputs_for i ds) x)
  new_outer i ds x h = declares_append n.inputs (inputs_for i ds) x ∙ or_right (declares n.inputs x) (declares (inputs_for i ds) x) h

  module _ (ds : List Decl) (es : Eqns) (own : BlockScoped (interface n) no_names (block ds es)) (inner : BlockNames IsOther (block ds es)) where
    abbrev lines : List Eqn
    lines = lines_of n c

    abbrev all : Eqns
    all = eqns_of (list_of_eqns es ++ lines)

    abbrev locals : List Decl
    locals = ds ++ n.outputs

    abbrev before : Standing
    before = standing_in ds es seen

    abbrev after : Standing
    after = standing_in locals all outer

    here : (x : List ℕ) → some_defines all x ≡ true → after x ≡ Some (clock_in ds x)
    here x h = ap (λ b. if b then Some (clock_in locals x) else base_alone (outer x)) h ∙ ap Some (clock_behind ds n.outputs base x)

    not_here : (x : List ℕ) → some_defines all x ≡ false → after x ≡ base_alone (outer x)
    not_here x h = ap (λ b. if b then Some (clock_in locals x) else base_alone (outer x)) h

    no_local : (x : List ℕ) → some_defines es x ≡ false → clock_in ds x ≡ []
    no_local x h = undeclared ds x (false_unless (declares ds x) (λ k. let r : true ≡ false = sym (own.2 x k) ∙ h in absurd cc))

    wider : Wider before after
    wider x k h = by (some_defines es x) refl h
      where
        base_is : (b : Bool) → base_alone (on_base b) ≡ Some k → IsTrue b × (k ≡ [])
        base_is true q = let e : [] ≡ k = cc in (refl, sym e)
        base_is false q = absurd cc

        outside : some_defines es x ≡ false → k ≡ [] → (d : Bool) → declares n.outputs x ≡ d → IsTrue (declares n.inputs x || d) → after x ≡ Some k
        outside q e true o i =
            let there : some_defines all x ≡ true = defines_behind es lines x ∙ or_right (some_defines es x) (some_defines (eqns_of lines) x) (lines_define n c names x (outputs_other n c names x o) ∙ o) in
            here x there ∙ ap Some (no_local x q ∙ sym e)
        outside q e false o i =
            let input = or_none_of (declares n.inputs x) i in
            let there : some_defines all x ≡ false = defines_behind es lines x ∙ ap₂ (λ a b. a || b) q (lines_define n c names x (inputs_other n c names x input) ∙ o) in
            not_here x there ∙ ap base_alone (input_outer x input) ∙ ap Some (sym e)
          where
            or_none_of : (a : Bool) → IsTrue (a || false) → IsTrue a
            or_none_of true p = refl
            or_none_of false p = absurd cc

        by : (b : Bool) → some_defines es x ≡ b → (if b then Some (clock_in ds x) else base_alone (seen x)) ≡ Some k → after x ≡ Some k
        by true q p = here x (defines_behind es lines x ∙ or_left (some_defines es x) (some_defines (eqns_of lines) x) q) ∙ p
        by false q p = let r = base_is (declares n.inputs x || declares n.outputs x) p in outside q r.1 (declares n.outputs x) refl r.0

    -- the inputs that stand for outputs are on the base clock
    new_input : (i : ℕ) → IsTrue (declares (inputs_for 0 n.outputs) (input_name i)) → some_defines all (input_name i) ≡ false → after (input_name i) ≡ Some []
    new_input i h q = not_here (input_name i) q ∙ ap (λ a. base_alone (on_base (a || (declares (outputs_at c.span) (input_name i) || false)))) (new_outer 0 n.outputs (input_name i) h)

    pub not_defined : (i : ℕ) → some_defines all (input_name i) ≡ false
    not_defined i =
        defines_behind es lines (input_name i)
        ∙ ap₂ (λ a b. a || b) (false_unless (some_defines es (input_name i)) (λ h. input_not_other i (inner.0 (input_name i) (eqn_local n c names ds es own inner (input_name i) h))))
        (handed_defines 0 n.outputs (input_name i) ∙ none_declared n.outputs (input_name i) (outputs_other n c names) (input_not_other i))

    base_line : (y : List ℕ) (s : Span) (e : Expr) → clock_in ds y ≡ [] → IsOn after e [] → OneRight after locals (equation y s e)
    base_line y s e q h =
        let same : clock_in locals y ≡ [] = clock_behind ds n.outputs base y ∙ q in
        subst (λ k. ClockRight after k × LeftsOn locals ((y, s) ∷ []) k × IsOn after e k) (sym same) (tt, (same, tt), h)

    pub new_clock : (y : List ℕ) → (IsOther y → ⊥) → clock_in ds y ≡ []
    new_clock y f = undeclared ds y (none_declared ds y inner.0 f)

    pub output_clock : (x : List ℕ) → IsTrue (declares n.outputs x) → clock_in ds x ≡ []
    output_clock x h = undeclared ds x (false_unless (declares ds x) (λ k. own.1 x k (or_left (declares n.outputs x) (also no_names n.inputs x) h)))

    handed_right : (i : ℕ) (os : List Decl) → ((x : List ℕ) → IsTrue (declares os x) → IsTrue (declares n.outputs x)) → ((x : List ℕ) → IsTrue (declares (inputs_for i os) x) → IsTrue (declares (inputs_for 0 n.outputs) x)) → AllRight after locals (eqns_of (all_handed_on i os))
    handed_right i [] f g = tt
    handed_right i (d ∷ os) f g = (
      base_line d.name d.span (variable d.span (input_name i)) (output_clock d.name (f d.name (or_left (bytes_eq d.name d.name) (declares os d.name) (bytes_same d.name))))
          (new_input i (g (input_name i) (or_left (bytes_eq (input_name i) (input_name i)) (declares (inputs_for (i + 1) os) (input_name i)) (bytes_same (input_name i)))) (not_defined i)),
      handed_right (i + 1) os (λ x h. f x (or_right (bytes_eq d.name x) (declares os x) h)) (λ x h. g x (or_right (bytes_eq (input_name i) x) (declares (inputs_for (i + 1) os) x) h)),
    )

    told_right : (o : Option Expr) (s : Span) → TellsOnBase before o → IsOn after (condition_of o s) []
    told_right None s h = tt
    told_right (Some e) s h = expr_on before after wider e [] h

    lines_right : TellsOnBase before c.assume → TellsOnBase before c.enforce → AllRight after locals (eqns_of lines)
    lines_right a g = (
      base_line assumed c.span (condition_of c.assume c.span) (new_clock assumed assumed_not_other) (told_right c.assume c.span a),
      (
        base_line enforced c.span (condition_of c.enforce c.span) (new_clock enforced enforced_not_other) (told_right c.enforce c.span g),
        handed_right 0 n.outputs (λ x h. h) (λ x h. h),
      ),
    )

    block_observed : BlockRight seen (block ds es) → TellsOnBase before c.assume → TellsOnBase before c.enforce → BlockRight outer (block locals all)
    block_observed h a g = (
      declarations_both after ds n.outputs (declarations_right before after wider ds h.0) (base_declarations after n.outputs base),
      right_behind after locals es lines (all_right before after wider ds locals (clock_behind ds n.outputs base) es h.1) (lines_right a g),
    )

    outputs_observed : (x : List ℕ) → IsTrue (declares (outputs_at c.span) x) → clock_in locals x ≡ []
    outputs_observed x h = clock_behind ds n.outputs base x ∙ by (or_cases (bytes_eq assumed x) (bytes_eq enforced x || false) h)
      where
        by : IsTrue (bytes_eq assumed x) ⊎ IsTrue (bytes_eq enforced x || false) → clock_in ds x ≡ []
        by (inl k) = subst (λ z. clock_in ds z ≡ []) (same_bytes assumed x k) (new_clock assumed assumed_not_other)
        by (inr k) = subst (λ z. clock_in ds z ≡ []) (same_bytes enforced x (or_none (bytes_eq enforced x) k)) (new_clock enforced enforced_not_other)

  body_observed : (b : Block) → BlockScoped (interface n) no_names b → BlockNames IsOther b → BlockRight seen b → TellsOnBase (standing_of b seen) c.assume → TellsOnBase (standing_of b seen) c.enforce
      → BlockRight outer (with_lines b n.outputs (lines_of n c)) × ((x : List ℕ) → IsTrue (declares (outputs_at c.span) x) → own_clock (with_lines b n.outputs (lines_of n c)) x ≡ [])
  body_observed (block ds es) own inner h a g = (block_observed ds es own inner h a g, outputs_observed ds es own inner)

pub observer_right : (n : Node) (c : Contract) → n.contract ≡ Some c → NodeScoped n → AllBase n.outputs → IsObservable n → ClocksRight n → ClocksRight (observer_of n c)
observer_right n c e scoped base o h =
    let right : ContractRight (λ x. on_base (declares n.inputs x || declares n.outputs x)) (Some c) = subst (ContractRight (λ x. on_base (declares n.inputs x || declares n.outputs x))) e h.contract in
    let body = body_observed n c base o.interface c.body (subst (ContractScoped (interface n)) e scoped.contract) (subst (ContractNames IsOther) e o.contract) right.0 right.1 right.2 in
    record { outputs = body.1; body = body.0; contract = tt }
