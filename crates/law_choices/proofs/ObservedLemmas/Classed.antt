-- An observer has classes: those of the contract that it is made of.
use Rattle.std.proofs.Common.{◌≡◌, ℕ, ◌+◌, Bool, true, false, if◌then◌else◌, not, ◌&&◌, ◌||◌, List, [], ◌∷◌, ◌++◌, refl, sym, ap, subst, ◌∙◌}
use Rattle.std.proofs.Math.Path.{fun_ext}
use Rattle.std.specs.Prelude.{⊤, IsTrue, Option, None, Some}
use Rattle.std.specs.Str.{bytes_eq}
use Rattle.hp_base.specs.declared.span.Span.{Span}
use Rattle.hp_base.specs.declared.ty.Const.{Const}
use Rattle.hp_tree.specs.declared.block.Trans.{Trans}
use Rattle.hp_tree.specs.Expressions.{Expr, variable}
use Rattle.hp_tree.specs.Blocks.{Decl, Block, block, Eqns, no_eqn, more_eqns, Eqn, define, switch, reset, automaton, Arms, no_arm, more_arms, States, no_state, more_states, eqns_of, list_of_eqns}
use Rattle.hp_tree.specs.Programs.{Contract, Node}
use Rattle.hp_tree.specs.Instant.{Body, Observer, Named, Equations, Head, Tail, Arms as ArmsOf, States as StatesOf}
use Rattle.hp_tree.specs.Meaning.{declares, defines, some_defines, controls_of}
use Rattle.hp_init.specs.Classes.{Classes, Assignment, is_second, Known, or_first, with_declared, known_in, known_within, known_outputs, VariableFollows, LeftsFollow}
use Rattle.hp_init.specs.Wants.{is_met, is_first, must_be_first, some_must, definition_met}
use Rattle.law_judged.specs.Named.Scoped.{Names, also, no_names, interface, equations_of, NodeScoped, BlockScoped, ContractScoped}
use Rattle.law_judged.specs.Replaced.Fitting.{BlockNames, ContractNames}
use Rattle.law_judged.proofs.NamedLemmas.Sets.{or_left, or_right, declares_append}
use Rattle.law_values.specs.Valued.Classed.{LastFirst, LastsFirst, HasClasses}
use Rattle.law_automata.specs.Classed.Good.{ClockFirst, ClocksFirst, TestsFirst, ToldFirst, BlockGood, EqnsGood, EqnGood, ArmsGood, StatesGood, ContractGood, no_class, in_block, own_classes, in_node}
use Rattle.law_automata.proofs.LoweredLemmas.Apart.{bytes_same}
use Rattle.law_automata.proofs.LoweredLemmas.Tests.{or_first as first_none, or_second as second_none, or_none}
use Rattle.law_automata.proofs.ClassedLemmas.Rows.{lefts_first, must_declared, must_append}
use Rattle.law_automata.proofs.ClassedLemmas.Goods.{node_told, node_right}
use Rattle.hp_watch.specs.Observing.{assumed, enforced, outputs_at, input_name, inputs_for, equation, condition_of, all_handed_on, with_lines, lines_of, observer_of}
use Rattle.law_choices.specs.Observed.Contracts.{IsOther, IsObservable}
use Rattle.law_choices.proofs.ObservedLemmas.Bodies.{false_unless, defines_behind, input_not_other, eqn_local, local_no_output}
use Rattle.law_choices.proofs.ObservedLemmas.Removable.{AllBase}

-- ---- what is right stays right where names are read alike

-- Names are read with the same classes, and no variable is of another class, though there may be more variables.
record IsAlike (k l : Known) : Type 0 where
  values : l.values ≡ k.values
  variables : (x : List ℕ) → or_first (l.variables x) ≡ or_first (k.variables x)

declared_alike : (ds : List Decl) (class : Assignment) (f g : List ℕ → Option Bool) → ((x : List ℕ) → or_first (g x) ≡ or_first (f x)) → (x : List ℕ) → or_first (with_declared ds class g x) ≡ or_first (with_declared ds class f x)
declared_alike ds class f g h x = by (declares ds x)
  where
    by : (b : Bool) → or_first (if b then Some (class (Named x ∷ [])) else g x) ≡ or_first (if b then Some (class (Named x ∷ [])) else f x)
    by true = refl
    by false = h x

alike_in : (k l : Known) (ds : List Decl) (es : Eqns) (class : Assignment) → IsAlike k l → IsAlike (known_in (block ds es) class k) (known_in (block ds es) class l)
alike_in k l ds es class a =
    record {
      values = fun_ext (λ x. by x (some_defines es x));
      variables = declared_alike ds class k.variables l.variables a.variables;
    }
  where
    by : (x : List ℕ) (b : Bool) → (if b then or_first (with_declared ds class l.variables x) else l.values x) ≡ (if b then or_first (with_declared ds class k.variables x) else k.values x)
    by x true = declared_alike ds class k.variables l.variables a.variables x
    by x false = ap (λ (v : Classes). v x) a.values

alike_within : (k l : Known) (e : Eqn) → IsAlike k l → IsAlike (known_within e k) (known_within e l)
alike_within k l e a = record { values = fun_ext (λ x. ap (λ (v : Classes). if defines e x then false else v x) a.values); variables = a.variables }

-- where all names are declared that need not be First, these are variables of the same class
abbrev Own : List Decl → Known → Known → Type 0
Own ds k l = (x : List ℕ) → declares ds x ≡ true → l.variables x ≡ k.variables x

-- no other name has to be First
abbrev Fewer : List Decl → List Decl → Type 0
Fewer ds fs = (y : List ℕ) → must_be_first ds y ≡ false → must_be_first fs y ≡ false

own_in : (k l : Known) (ds : List Decl) (es : Eqns) (class : Assignment) → Own ds (known_in (block ds es) class k) (known_in (block ds es) class l)
own_in k l ds es class x e = ap (λ (b : Bool). if b then Some (class (Named x ∷ [])) else l.variables x) e ∙ sym (ap (λ (b : Bool). if b then Some (class (Named x ∷ [])) else k.variables x) e)

-- ---- a definition

none_must : (m s d : Bool) → d ≡ true → IsTrue (m && not (s && d)) → s ≡ false
none_must m false d e h = refl
none_must true true true e h = absurd cc
none_must true true false e h = absurd cc
none_must false true d e h = absurd cc

fewer_met : (m s t d : Bool) → (s ≡ false → t ≡ false) → IsTrue (m && not (s && d)) → IsTrue (m && not (t && d))
fewer_met false s t d f h = absurd cc
fewer_met true s false d f h = refl
fewer_met true s true false f h = refl
fewer_met true true true true f h = absurd cc
fewer_met true false true true f h = let e : true ≡ false = f refl in absurd cc

module _ (ds fs : List Decl) (fewer : Fewer ds fs) where
  some_fewer : (ys : List (List ℕ × Span)) → some_must ds ys ≡ false → some_must fs ys ≡ false
  some_fewer [] h = refl
  some_fewer (y ∷ ys) h =
      or_none (must_be_first fs y.0) (some_must fs ys) (fewer y.0 (first_none (must_be_first ds y.0) (some_must ds ys) h)) (some_fewer ys (second_none (must_be_first ds y.0) (some_must ds ys) h))

  module _ (k l : Known) (own : Own ds k l) where
    lefts_alike : (d : Bool) (ys : List (List ℕ × Span)) → some_must ds ys ≡ false → LeftsFollow k.variables ys d → LeftsFollow l.variables ys d
    lefts_alike d [] h f = tt
    lefts_alike d (y ∷ ys) h f = (
      subst (λ v. VariableFollows v d) (sym (own y.0 (must_declared ds y.0 (first_none (must_be_first ds y.0) (some_must ds ys) h)))) f.0,
      lefts_alike d ys (second_none (must_be_first ds y.0) (some_must ds ys) h) f.1,
    )

    definition_alike : l.values ≡ k.values → (ys : List (List ℕ × Span)) (e : Expr) → LeftsFollow k.variables ys (is_second k.values e) × IsTrue (definition_met k.values ds ys e) → LeftsFollow l.variables ys (is_second l.values e) × IsTrue (definition_met l.values fs ys e)
    definition_alike same ys e h =
        subst (λ (v : Classes). LeftsFollow l.variables ys (is_second v e) × IsTrue (definition_met v fs ys e)) (sym same)
        (by (is_second k.values e) refl, fewer_met (is_met k.values e) (some_must ds ys) (some_must fs ys) (is_second k.values e) (some_fewer ys) h.1)
      where
        by : (d : Bool) → is_second k.values e ≡ d → LeftsFollow l.variables ys (is_second k.values e)
        by false q = lefts_first l.variables ys (is_second k.values e) q
        by true q = lefts_alike (is_second k.values e) ys (none_must (is_met k.values e) (some_must ds ys) (is_second k.values e) q h.1) h.0

-- ---- part by part

test_alike : (k l : Known) → IsAlike k l → (e : Expr) → IsTrue (is_first k.values e) → IsTrue (is_first l.values e)
test_alike k l a e h = subst (λ (v : Classes). IsTrue (is_first v e)) (sym a.values) h

tests_alike : (k l : Known) → IsAlike k l → (ts : List Trans) → TestsFirst k.values ts → TestsFirst l.values ts
tests_alike k l a ts h = subst (λ (v : Classes). TestsFirst v ts) (sym a.values) h

mutual
  block_alike : (k l : Known) → IsAlike k l → (class : Assignment) (b : Block) → BlockGood k class b → BlockGood l class b
  block_alike k l a class (block ds es) h =
      let inner = alike_in k l ds es class a in (
        h.0,
        (
          λ x d n. a.variables x ∙ h.1.0 x d n,
          (
            subst (λ (v : Classes). ClocksFirst v ds) (sym inner.values) h.1.1.0,
            eqns_alike (known_in (block ds es) class k) (known_in (block ds es) class l) inner ds ds (own_in k l ds es class) (λ y n. n) (λ p. class (Equations ∷ p)) es h.1.1.1,
          ),
        ),
      )

  eqns_alike : (k l : Known) → IsAlike k l → (ds fs : List Decl) → Own ds k l → Fewer ds fs → (class : Assignment) (es : Eqns) → EqnsGood k ds class es → EqnsGood l fs class es
  eqns_alike k l a ds fs own fewer class no_eqn h = tt
  eqns_alike k l a ds fs own fewer class (more_eqns e es) h = (eqn_alike k l a ds fs own fewer (λ p. class (Head ∷ p)) e h.0, eqns_alike k l a ds fs own fewer (λ p. class (Tail ∷ p)) es h.1)

  eqn_alike : (k l : Known) → IsAlike k l → (ds fs : List Decl) → Own ds k l → Fewer ds fs → (class : Assignment) (e : Eqn) → EqnGood k ds class e → EqnGood l fs class e
  eqn_alike k l a ds fs own fewer class (define s ys e) h = definition_alike ds fs fewer k l own a.values ys e h
  eqn_alike k l a ds fs own fewer class (switch s e arms) h =
      (test_alike k l a e h.0, arms_alike (known_within (switch s e arms) k) (known_within (switch s e arms) l) (alike_within k l (switch s e arms) a) (λ p. class (ArmsOf ∷ p)) arms h.1)
  eqn_alike k l a ds fs own fewer class (reset s b e) h =
      (test_alike k l a e h.0, block_alike (known_within (reset s b e) k) (known_within (reset s b e) l) (alike_within k l (reset s b e) a) (λ p. class (Body ∷ p)) b h.1)
  eqn_alike k l a ds fs own fewer class (automaton s ss) h =
      states_alike k l a (known_within (automaton s ss) k) (known_within (automaton s ss) l) (alike_within k l (automaton s ss) a) (λ p. class (StatesOf ∷ p)) ss h

  arms_alike : (k l : Known) → IsAlike k l → (class : Assignment) (arms : Arms) → ArmsGood k class arms → ArmsGood l class arms
  arms_alike k l a class no_arm h = tt
  arms_alike k l a class (more_arms c b s arms) h = (block_alike k l a (λ p. class (Head ∷ p)) b h.0, arms_alike k l a (λ p. class (Tail ∷ p)) arms h.1)

  -- the first two are what is known outside of the automaton
  states_alike : (out there : Known) → IsAlike out there → (k l : Known) → IsAlike k l → (class : Assignment) (ss : States) → StatesGood out k class ss → StatesGood there l class ss
  states_alike out there o k l a class no_state h = tt
  states_alike out there o k l a class (more_states f (block ds es) until unless s ss) h =
      let own : Assignment = λ p. class (Head ∷ Body ∷ p) in (
        block_alike k l a own (block ds es) h.0,
        (
          tests_alike (known_in (block ds es) own k) (known_in (block ds es) own l) (alike_in k l ds es own a) until h.1.0,
          (tests_alike out there o unless h.1.1.0, states_alike out there o k l a (λ p. class (Tail ∷ p)) ss h.1.1.1),
        ),
      )

-- ---- lines behind equations

-- lines that are right whatever the classes of their parts
abbrev Lines : Known → List Decl → List Eqn → Type 0
Lines k ds [] = ⊤
Lines k ds (e ∷ es) = ((class : Assignment) → EqnGood k ds class e) × Lines k ds es

good_behind : (k : Known) (ds : List Decl) (class : Assignment) (es : Eqns) (more : List Eqn) → EqnsGood k ds class es → Lines k ds more → EqnsGood k ds class (eqns_of (list_of_eqns es ++ more))
good_behind k ds class no_eqn [] h g = tt
good_behind k ds class no_eqn (m ∷ more) h g = (g.0 (λ p. class (Head ∷ p)), good_behind k ds (λ p. class (Tail ∷ p)) no_eqn more tt g.1)
good_behind k ds class (more_eqns e es) more h g = (h.0, good_behind k ds (λ p. class (Tail ∷ p)) es more h.1 g)

second_of : (m d : Bool) → IsTrue (m && not d) → d ≡ false
second_of true true h = absurd cc
second_of false d h = absurd cc
second_of true false h = refl

met_of : (m s d : Bool) → IsTrue (m && not d) → IsTrue (m && not (s && d))
met_of true true true h = absurd cc
met_of true false true h = absurd cc
met_of false s d h = absurd cc
met_of true true false h = refl
met_of true false false h = refl

-- a line whose right side is First
first_line : (k : Known) (ds : List Decl) (y : List ℕ) (s : Span) (e : Expr) → IsTrue (is_first k.values e) → (class : Assignment) → EqnGood k ds class (equation y s e)
first_line k ds y s e h class =
    (lefts_first k.variables ((y, s) ∷ []) (is_second k.values e) (second_of (is_met k.values e) (is_second k.values e) h), met_of (is_met k.values e) (some_must ds ((y, s) ∷ [])) (is_second k.values e) h)

first_condition : (second : Classes) (o : Option Expr) (s : Span) → ToldFirst second o → IsTrue (is_first second (condition_of o s))
first_condition second None s h = refl
first_condition second (Some e) s h = h

handed_lines : (k : Known) (fs : List Decl) → ((i : ℕ) → k.values (input_name i) ≡ false) → (i : ℕ) (ds : List Decl) → Lines k fs (all_handed_on i ds)
handed_lines k fs new i [] = tt
handed_lines k fs new i (d ∷ ds) = (first_line k fs d.name d.span (variable d.span (input_name i)) (ap not (new i)), handed_lines k fs new (i + 1) ds)

-- ---- declarations

last_none : (o : Option Const) (b : Bool) → b ≡ false → LastFirst o b
last_none None b e = tt
last_none (Some c) b e = e

lasts_both : (class : Assignment) (ds es : List Decl) → LastsFirst class ds → LastsFirst class es → LastsFirst class (ds ++ es)
lasts_both class [] es h k = k
lasts_both class (d ∷ ds) es h k = (h.0, lasts_both class ds es h.1 k)

clocks_both : (second : Classes) (ds es : List Decl) → ClocksFirst second ds → ClocksFirst second es → ClocksFirst second (ds ++ es)
clocks_both second [] es h k = k
clocks_both second (d ∷ ds) es h k = (h.0, clocks_both second ds es h.1 k)

base_first : (second : Classes) (ds : List Decl) → AllBase ds → ClocksFirst second ds
base_first second [] h = tt
base_first second (d ∷ ds) h = (subst (ClockFirst second) (sym h.0) refl, base_first second ds h.1)

-- ---- outputs are First

body_first : (k : Known) (class : Assignment) (seen own : Names) (b : Block) → BlockGood k class b → BlockScoped seen own b → (x : List ℕ) → IsTrue (seen x) → IsTrue (some_defines (equations_of b) x) → or_first (k.variables x) ≡ false
body_first k class seen own (block ds es) g s x there d = g.1.0 x d (false_unless (declares ds x) (λ h. s.1 x h there))

outputs_first : (n : Node) (class : Assignment) → NodeScoped n → BlockGood (known_outputs n class) (λ p. class (Body ∷ p)) n.body → (x : List ℕ) → or_first (if declares n.outputs x then Some (class (Named x ∷ [])) else None) ≡ false
outputs_first n class scoped good x = by (declares n.outputs x) refl
  where
    by : (b : Bool) → declares n.outputs x ≡ b → or_first (if b then Some (class (Named x ∷ [])) else None) ≡ false
    by true e =
        let controls = controls_of n.contract in
        let seen : IsTrue (declares controls x || interface n x) = or_right (declares controls x) (interface n x) (or_left (declares n.outputs x) (also no_names n.inputs x) e) in
        sym (ap (λ (b : Bool). or_first (if b then Some (class (Named x ∷ [])) else None)) e)
        ∙ body_first (known_outputs n class) (λ p. class (Body ∷ p)) (also (interface n) controls) (also no_names n.outputs) n.body good scoped.body x seen (scoped.outputs x e)
    by false e = refl

-- ---- the observer

both_first : (a b o d v : Bool) (w : Option Bool) → b ≡ (a || d) → or_first w ≡ false → or_first (if b then Some (if a then v else false) else (if o then Some false else None)) ≡ or_first (if a then Some v else w)
both_first true true o d v w e h = refl
both_first true false o d v w e h = absurd cc
both_first false true o d v w e h = sym h
both_first false false true d v w e h = sym h
both_first false false false d v w e h = sym h

none_second : (o : Bool) → or_first (if o then Some false else None) ≡ false
none_second true = refl
none_second false = refl

module _ (n : Node) (c : Contract) (class : Assignment) (base : AllBase n.outputs) (names : (x : List ℕ) → IsTrue (interface n x) → IsOther x) (firsts : (x : List ℕ) → or_first (if declares n.outputs x then Some (class (Named x ∷ [])) else None) ≡ false) where
  module _ (ds : List Decl) (es : Eqns) (own : BlockScoped (interface n) no_names (block ds es)) (inner : BlockNames IsOther (block ds es)) where
    -- the classes of the contract's block
    abbrev told : Assignment
    told p = class (Observer ∷ p)

    abbrev all : Eqns
    all = eqns_of (list_of_eqns es ++ lines_of n c)

    abbrev locals : List Decl
    locals = ds ++ n.outputs

    -- those of the body of the observer: what is no variable of the contract is First
    abbrev body : Assignment
    body = in_block (own_classes ds told) (λ p. told (Equations ∷ p))

    abbrev node : Assignment
    node = in_node no_class no_class body

    abbrev observer : Node
    observer = record { name = n.name; span = n.span; inputs = n.inputs ++ inputs_for 0 n.outputs; outputs = outputs_at c.span; contract = None; body = block locals all }

    abbrev before : Known
    before = known_in (block ds es) told (known_outputs n class)

    abbrev after : Known
    after = known_in (block locals all) body (known_outputs observer node)

    variables_alike : (x : List ℕ) → or_first (after.variables x) ≡ or_first (before.variables x)
    variables_alike x =
        both_first (declares ds x) (declares locals x) (declares (outputs_at c.span) x) (declares n.outputs x) (told (Named x ∷ [])) (if declares n.outputs x then Some (class (Named x ∷ [])) else None) (declares_append ds n.outputs x) (firsts x)

    values_alike : (x : List ℕ) → after.values x ≡ before.values x
    values_alike x = by (some_defines es x) refl
      where
        by : (b : Bool) → some_defines es x ≡ b → after.values x ≡ (if b then or_first (before.variables x) else or_first (if declares n.outputs x then Some (class (Named x ∷ [])) else None))
        by true e =
            let there : some_defines all x ≡ true = defines_behind es (lines_of n c) x ∙ or_left (some_defines es x) (some_defines (eqns_of (lines_of n c)) x) e in
            ap (λ (b : Bool). if b then or_first (after.variables x) else or_first (if declares (outputs_at c.span) x then Some false else None)) there ∙ variables_alike x
        by false e =
            let not_local : declares ds x ≡ false = false_unless (declares ds x) (λ h. let r : true ≡ false = sym (own.2 x h) ∙ e in absurd cc) in
            let none : or_first (after.variables x) ≡ false = variables_alike x ∙ ap (λ (b : Bool). or_first (if b then Some (told (Named x ∷ [])) else (if declares n.outputs x then Some (class (Named x ∷ [])) else None))) not_local ∙ firsts x in
            either (some_defines all x) none ∙ sym (firsts x)
          where
            either : (b : Bool) → or_first (after.variables x) ≡ false → (if b then or_first (after.variables x) else or_first (if declares (outputs_at c.span) x then Some false else None)) ≡ false
            either true h = h
            either false h = none_second (declares (outputs_at c.span) x)

    alike : IsAlike before after
    alike = record { values = fun_ext values_alike; variables = variables_alike }

    own_variables : Own ds before after
    own_variables x e =
        ap (λ (b : Bool). if b then Some (if declares ds x then told (Named x ∷ []) else false) else (if declares (outputs_at c.span) x then Some false else None)) (declares_append ds n.outputs x ∙ or_left (declares ds x) (declares n.outputs x) e)
        ∙ ap (λ (b : Bool). Some (if b then told (Named x ∷ []) else false)) e
        ∙ sym (ap (λ (b : Bool). if b then Some (told (Named x ∷ [])) else (if declares n.outputs x then Some (class (Named x ∷ [])) else None)) e)

    new_first : (i : ℕ) → after.values (input_name i) ≡ false
    new_first i = values_alike (input_name i) ∙ by (some_defines es (input_name i)) refl
      where
        by : (b : Bool) → some_defines es (input_name i) ≡ b → (if b then or_first (before.variables (input_name i)) else or_first (if declares n.outputs (input_name i) then Some (class (Named (input_name i) ∷ [])) else None)) ≡ false
        by true e = absurd (input_not_other i (inner.0 (input_name i) (eqn_local n c names ds es own inner (input_name i) e)))
        by false e = firsts (input_name i)

    old_lasts : (xs : List Decl) → ((x : List ℕ) → IsTrue (declares xs x) → IsTrue (declares ds x)) → LastsFirst told xs → LastsFirst body xs
    old_lasts [] f h = tt
    old_lasts (d ∷ xs) f h = (
      subst (LastFirst d.last) (sym (ap (λ (b : Bool). if b then told (Named d.name ∷ []) else false) (f d.name (or_left (bytes_eq d.name d.name) (declares xs d.name) (bytes_same d.name))))) h.0,
      old_lasts xs (λ x q. f x (or_right (bytes_eq d.name x) (declares xs x) q)) h.1,
    )

    output_lasts : (xs : List Decl) → ((x : List ℕ) → IsTrue (declares xs x) → declares ds x ≡ false) → LastsFirst body xs
    output_lasts [] f = tt
    output_lasts (d ∷ xs) f = (
      last_none d.last (own_classes ds told d.name) (ap (λ (b : Bool). if b then told (Named d.name ∷ []) else false) (f d.name (or_left (bytes_eq d.name d.name) (declares xs d.name) (bytes_same d.name)))),
      output_lasts xs (λ x q. f x (or_right (bytes_eq d.name x) (declares xs x) q)),
    )

    no_local : (x : List ℕ) → IsTrue (declares n.outputs x) → declares ds x ≡ false
    no_local x h = false_unless (declares ds x) (λ k. let r : true ≡ false = sym h ∙ local_no_output n c names ds es own inner x k in absurd cc)

    observer_good : BlockGood (known_outputs n class) told (block ds es) → ToldFirst before.values c.assume → ToldFirst before.values c.enforce → HasClasses node observer
    observer_good good assume enforce =
        let same : after.values ≡ before.values = fun_ext values_alike in
        let clocks : ClocksFirst after.values ds = subst (λ (v : Classes). ClocksFirst v ds) (sym same) good.1.1.0 in
        let lines : Lines after locals (lines_of n c) = (
          first_line after locals assumed c.span (condition_of c.assume c.span) (first_condition after.values c.assume c.span (subst (λ (v : Classes). ToldFirst v c.assume) (sym same) assume)),
          (
            first_line after locals enforced c.span (condition_of c.enforce c.span) (first_condition after.values c.enforce c.span (subst (λ (v : Classes). ToldFirst v c.enforce) (sym same) enforce)),
            handed_lines after locals new_first 0 n.outputs,
          ),
        ) in
        node_right node observer tt (
          lasts_both body ds n.outputs (old_lasts ds (λ x h. h) good.0) (output_lasts n.outputs no_local),
          (
            (λ x h e. none_second (declares (outputs_at c.span) x)),
            (
              clocks_both after.values ds n.outputs clocks (base_first after.values n.outputs base),
              good_behind after locals (λ p. told (Equations ∷ p)) es (lines_of n c) (eqns_alike before after alike ds locals own_variables (must_append ds n.outputs) (λ p. told (Equations ∷ p)) es good.1.1.1) lines,
            ),
          ),
        )

  body_good : (b : Block) → BlockScoped (interface n) no_names b → BlockNames IsOther b → BlockGood (known_outputs n class) (λ p. class (Observer ∷ p)) b
      → ToldFirst (known_in b (λ p. class (Observer ∷ p)) (known_outputs n class)).values c.assume → ToldFirst (known_in b (λ p. class (Observer ∷ p)) (known_outputs n class)).values c.enforce
      → (other : Assignment) × HasClasses other (record { name = n.name; span = n.span; inputs = n.inputs ++ inputs_for 0 n.outputs; outputs = outputs_at c.span; contract = None; body = with_lines b n.outputs (lines_of n c) })
  body_good (block ds es) own inner good assume enforce = (in_node no_class no_class (in_block (own_classes ds (λ p. class (Observer ∷ p))) (λ p. class (Observer ∷ Equations ∷ p))), observer_good ds es own inner good assume enforce)

-- The observer of a node's contract has classes.
pub observer_classes : (n : Node) (c : Contract) → n.contract ≡ Some c → NodeScoped n → AllBase n.outputs → IsObservable n → (class : Assignment) → HasClasses class n → (other : Assignment) × HasClasses other (observer_of n c)
observer_classes n c e scoped base o class h =
    let good = node_told class n h in
    let own : ContractGood (known_outputs n class) (λ p. class (Observer ∷ p)) (Some c) = subst (ContractGood (known_outputs n class) (λ p. class (Observer ∷ p))) e good.0 in
    body_good n c class base o.interface (outputs_first n class scoped good.1) c.body (subst (ContractScoped (interface n)) e scoped.contract) (subst (ContractNames IsOther) e o.contract) own.0 own.1.0 own.1.1
