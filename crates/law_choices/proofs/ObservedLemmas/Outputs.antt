-- Where a place of a contract depends in the observer on an input that stands for an output, it depends in the node on the output.
use Rattle.std.proofs.Common.{◌≡◌, ◌⊎◌, inl, inr, ℕ, suc, ◌+◌, ◌<◌, Bool, true, false, ◌&&◌, ◌||◌, if◌then◌else◌, List, [], ◌∷◌, ◌++◌, length, Option, None, Some, refl, sym, ap, ap₂, subst, ◌∙◌, arith}
use Rattle.std.proofs.Math.Path.{fun_ext}
use Rattle.std.specs.Prelude.{IsTrue, codes, decimal, slice_get}
use Rattle.std.specs.Str.{bytes_eq}
use Rattle.std.proofs.lemmas.Fmt.{decimal_injective}
use Rattle.std.proofs.lemmas.List.{append_cancel_left, length-map}
use Rattle.std.proofs.lemmas.Option.{slice_get_within}
use Rattle.hp_base.specs.declared.span.Span.{Span}
use Rattle.hp_tree.specs.Expressions.{Expr}
use Rattle.hp_tree.specs.Blocks.{Decl, Block, block, Eqns, Eqn, eqns_of, list_of_eqns}
use Rattle.hp_tree.specs.Programs.{Contract, Node}
use Rattle.hp_tree.specs.Instant.{Inputs, Controls, Body, Observer, Assume, Enforce, Named, Equations, Head, Tail, Right, First, Place, Clock}
use Rattle.hp_tree.specs.Meaning.{declares, some_defines, clock_in}
use Rattle.hp_meaning.specs.Causal.Causality.{DependsBy, sources}
use Rattle.hp_meaning.specs.Causal.Clocked.{AllRight, IsOn, Standing, TellsOnBase, base_alone, on_base, standing_in}
use Rattle.hp_meaning.specs.Causal.InputDependence.{sources_with_inputs}
use Rattle.hp_meaning.specs.Causal.Sources.{Sources, none, only, both, also, IsSource, NameSources, PlaceSources, below}
use Rattle.hp_meaning.specs.Causal.WhatIsRead.{at_expr, at_told, has_equation, in_block, in_equations, names_in, of_clock, of_definitions, output_in}
use Rattle.hp_meaning.specs.Clocking.Clocking.{AreDefined}
use Rattle.law_judged.specs.Named.Scoped.{BlockScoped, equations_of, interface, no_names}
use Rattle.law_judged.specs.Replaced.Fitting.{BlockNames}
use Rattle.law_judged.proofs.NamedLemmas.Sets.{or_left, or_right}
use Rattle.law_automata.proofs.LoweredLemmas.Apart.{bytes_same, same_bytes}
use Rattle.law_equations.specs.Made.Laws.{names}
use Rattle.hp_watch.specs.Observing.{all_handed_on, assumed, condition_of, enforced, input_name, inputs_for, lines_of, outputs_at}
use Rattle.law_choices.specs.Independent.Dependence.{given_in}
use Rattle.law_choices.specs.Depending.Contracts.{behind_all as tails, IsInContract}
use Rattle.law_choices.specs.Depending.Places.{DependsByWithInputs}
use Rattle.law_choices.specs.Observed.Contracts.{IsOther}
use Rattle.law_choices.proofs.DependingLemmas.Sourced.{moved_sources, sources_moved}
use Rattle.law_choices.proofs.IndependentLemmas.Given.{at_name, is_named, name_of, Shape, shape}
use Rattle.law_choices.proofs.IndependentLemmas.Moved.{mk, mn, move_expr, move_in_block, moved}
use Rattle.law_choices.proofs.ObservedLemmas.Bodies.{assumed_not_other, defines_behind, enforced_not_other, eqn_local, false_unless, lines_define, local_no_output, or_false, outputs_other}
use Rattle.law_choices.proofs.ObservedLemmas.Clocks.{clock_behind, new_clock, not_defined, output_clock}
use Rattle.law_choices.proofs.ObservedLemmas.Ranks.{all_local, back, front, inside, local_definitions, places_define, places_same, split_definitions}
use Rattle.law_choices.proofs.ObservedLemmas.Read.{Agree, at_same, definitions_same, equations_same}
use Rattle.law_choices.proofs.ObservedLemmas.Removable.{AllBase}

-- ---- one of a choice

not_first : (b : Bool) (s t : Sources) (y : Place) → b ≡ false → IsSource y (if b then s else t) → IsSource y t
not_first true s t y e h = absurd (cc e)
not_first false s t y e h = h

chosen_one : (b : Bool) (q y : Place) → IsSource y (if b then only q else none) → (b ≡ true) × (y ≡ q)
chosen_one true q y h = (refl, h)
chosen_one false q y h = absurd h

module _ (n : Node) (c : Contract) (base : AllBase n.outputs) (known : (x : List ℕ) → IsTrue (interface n x) → IsOther x) (filled : AreDefined n.outputs (equations_of n.body)) (few : length n.outputs < 1000000) (ds : List Decl) (es : Eqns)
    (own : BlockScoped (interface n) no_names (block ds es)) (inner : BlockNames IsOther (block ds es)) where
  abbrev lines : List Eqn
  lines = lines_of n c

  abbrev all : Eqns
  all = eqns_of (list_of_eqns es ++ lines)

  abbrev locals : List Decl
  locals = ds ++ n.outputs

  abbrev pub observer : Node
  observer = record { name = n.name; span = n.span; inputs = n.inputs ++ inputs_for 0 n.outputs; outputs = outputs_at c.span; contract = None; body = block locals all }

  abbrev seen : Standing
  seen x = on_base (declares n.inputs x || declares n.outputs x)

  abbrev standing : Standing
  standing = standing_in ds es seen

  -- what names stand for in the contract of the node
  abbrev out : NameSources
  out = output_in n (below Body only)

  abbrev places : PlaceSources
  places = below Observer only

  abbrev own_names : NameSources
  own_names = names_in es out places

  abbrev new_places : PlaceSources
  new_places = below Body only

  -- the place of the observer that stands for one of the node
  abbrev pub goes : Place → Sources
  goes (Observer ∷ Named x ∷ []) = if some_defines es x then only (Body ∷ Named x ∷ []) else none
  goes (Observer ∷ Equations ∷ p) = if inside es p then only (Body ∷ Equations ∷ p) else none
  goes (Body ∷ Named x ∷ []) = if declares n.outputs x then only (Body ∷ Named x ∷ []) else none
  goes (Assume ∷ p) = only (Body ∷ Equations ∷ tails es (Head ∷ Right ∷ p))
  goes (Enforce ∷ p) = only (Body ∷ Equations ∷ tails es (Tail ∷ Head ∷ Right ∷ p))
  goes p = none

  abbrev moved_names : NameSources
  moved_names = names_in es (mn goes out) (mk goes places)

  names_moved : mn goes own_names ≡ moved_names
  names_moved = fun_ext (λ x. by (some_defines es x) x)
    where
      by : (d : Bool) (x : List ℕ) → moved goes (if d then places (Named x ∷ []) else out x) ≡ (if d then mk goes places (Named x ∷ []) else mn goes out x)
      by true x = refl
      by false x = refl

  same_clocks : (x : List ℕ) → clock_in locals x ≡ clock_in ds x
  same_clocks = clock_behind ds n.outputs base

  goes_inside : (q : Place) → inside es q ≡ true → mk goes places (Equations ∷ q) ≡ new_places (Equations ∷ q)
  goes_inside q i = ap (λ (b : Bool). if b then only (Body ∷ Equations ∷ q) else none) i

  output_defined : (x : List ℕ) → declares n.outputs x ≡ true → has_equation n.body x ≡ true
  output_defined x o = has_named n.body ∙ filled x o
    where
      has_named : (b : Block) → has_equation b x ≡ some_defines (equations_of b) x
      has_named (block ds es) = refl

  -- an input of the observer that stands for an output, and its place
  module _ (i : ℕ) (r : Place) (at : given_in observer (input_name i) ≡ only (Inputs ∷ r)) where
    abbrev px : Place
    px = Inputs ∷ r

    -- of the inputs that one alone
    abbrev pick : Place → Sources
    pick (Inputs ∷ p) = if bytes_eq (input_name i) (at_name observer.inputs p) then only px else none
    pick p = only p

    picked : IsSource px (pick px)
    picked =
        let e : bytes_eq (input_name i) (at_name observer.inputs r) ≡ true = subst (λ z. bytes_eq (input_name i) z ≡ true) (sym (is_named observer (input_name i) px at)) (bytes_same (input_name i)) in
        subst (λ (b : Bool). IsSource px (if b then only px else none)) (sym e) refl

    abbrev outer : NameSources
    outer = mn pick (given_in observer)

    abbrev new_names : NameSources
    new_names = names_in all outer new_places

    other_none : (x : List ℕ) → IsOther x → outer x ≡ none
    other_none x o = by (shape observer x)
      where
        by : Shape observer x → outer x ≡ none
        by (inl h) = ap (moved pick) h.0
        by (inr (inl h)) = let no : none ≡ only (Controls ∷ h.0) = h.2 in absurd cc
        by (inr (inr h)) =
            let e : bytes_eq (input_name i) (at_name observer.inputs h.0) ≡ false = subst (λ z. bytes_eq (input_name i) z ≡ false) (sym h.3) (o.input i) in
            ap (moved pick) h.1 ∙ ap (λ (b : Bool). if b then only px else none) e

    -- names that stand on a clock stand for the same
    agree : Agree standing moved_names new_names
    agree x clock h = by (some_defines es x) refl h
      where
        defined_there : (b : Bool) → some_defines all x ≡ b → new_names x ≡ (if b then only (Body ∷ Named x ∷ []) else outer x)
        defined_there b e = ap (λ (d : Bool). if d then only (Body ∷ Named x ∷ []) else outer x) e

        is_seen : (i o : Bool) → base_alone (on_base (i || o)) ≡ Some clock → IsTrue (o || (i || false))
        is_seen true true q = refl
        is_seen true false q = refl
        is_seen false true q = refl
        is_seen false false q = absurd cc

        outside : some_defines es x ≡ false → IsOther x → (d : Bool) → declares n.outputs x ≡ d → moved goes (out x) ≡ new_names x
        outside q other true o =
            let has : has_equation n.body x ≡ true = output_defined x o in
            let there : some_defines all x ≡ true = defines_behind es lines x ∙ ap₂ (λ a b. a || b) q (lines_define n c known x other ∙ o) in
            (λ i. moved goes (if o i && has i then only (Body ∷ Named x ∷ []) else none)) ∙ ap (λ (d : Bool). if d then only (Body ∷ Named x ∷ []) else none) o ∙ sym (defined_there true there)
        outside q other false o =
            let there : some_defines all x ≡ false = defines_behind es lines x ∙ ap₂ (λ a b. a || b) q (lines_define n c known x other ∙ o) in
            (λ i. moved goes (if o i && has_equation n.body x then only (Body ∷ Named x ∷ []) else none)) ∙ sym (defined_there false there ∙ other_none x other)

        by : (b : Bool) → some_defines es x ≡ b → (if b then Some (clock_in ds x) else base_alone (seen x)) ≡ Some clock → moved_names x ≡ new_names x
        by true q p =
            ap (λ (b : Bool). if b then (if b then only (Body ∷ Named x ∷ []) else none) else mn goes out x) q
            ∙ sym (defined_there true (defines_behind es lines x ∙ ap (λ b. b || some_defines (eqns_of lines) x) q))
        by false q p =
            ap (λ (b : Bool). if b then (if b then only (Body ∷ Named x ∷ []) else none) else mn goes out x) q
            ∙ outside q (known x (is_seen (declares n.inputs x) (declares n.outputs x) p)) (declares n.outputs x) refl

    -- what the observer reads, of the inputs that one alone
    picked_block : (p : Place) → moved pick (sources_with_inputs observer (Body ∷ p)) ≡ in_block (block locals all) outer new_places p
    picked_block p = λ j. move_in_block pick (block locals all) (given_in observer) new_places j p

    module _ (right : AllRight standing ds es) (assumes : TellsOnBase standing c.assume) (enforces : TellsOnBase standing c.enforce)
        (reads_block : (q : Place) → sources n (Observer ∷ q) ≡ in_block (block ds es) out places q)
        (reads_assumed : (q : Place) → sources n (Assume ∷ q) ≡ at_told c.assume own_names (below Assume only) q)
        (reads_enforced : (q : Place) → sources n (Enforce ∷ q) ≡ at_told c.enforce own_names (below Enforce only) q) where
      eqns_moved : (p : Place) → moved goes (in_block (block ds es) out places (Equations ∷ p)) ≡ in_equations locals es new_names (below Equations new_places) p
      eqns_moved p =
          (λ j. move_in_block goes (block ds es) out places j (Equations ∷ p))
          ∙ (λ j. equations_same ds es standing moved_names new_names (below Equations (mk goes places)) agree right j p)
          ∙ (λ j. places_same ds new_names es (below Equations (mk goes places)) (below Equations new_places) goes_inside j p)
          ∙ (λ j. all_local ds locals same_clocks new_names es (below Equations new_places) j p)

      names_defined : (x : List ℕ) → moved goes (in_block (block ds es) out places (Named x ∷ [])) ≡ of_definitions locals es new_names (below Equations new_places) x
      names_defined x =
          (λ j. move_in_block goes (block ds es) out places j (Named x ∷ []))
          ∙ definitions_same standing moved_names new_names agree ds es (below Equations (mk goes places)) x right
          ∙ places_define ds new_names es (below Equations (mk goes places)) (below Equations new_places) x goes_inside
          ∙ local_definitions ds locals same_clocks new_names es (below Equations new_places) x

      condition_moved : (e : Expr) (k : PlaceSources) → IsOn standing e [] → mk goes (at_expr e [] own_names k) ≡ at_expr e [] new_names (mk goes k)
      condition_moved e k h =
          move_expr goes e [] own_names k ∙ ap (λ (names : NameSources). at_expr e [] names (mk goes k)) names_moved ∙ at_same standing moved_names new_names agree e [] (mk goes k) tt h

      abbrev behind_places : PlaceSources
      behind_places q = below Equations new_places (tails es q)

      -- ---- a step

      -- what a place depends on in the observer stands for what it depends on in the node
      abbrev Came : Place → Place → Type 0
      Came p y = (q : Place) × IsSource q (sources n p) × IsSource y (goes q)

      constant_none : (s : Span) (k : PlaceSources) (q y : Place) → IsSource y (at_expr (condition_of None s) [] new_names k q) → ⊥
      constant_none s k [] y h = h
      constant_none s k (First ∷ q) y h = h
      constant_none s k q y h = absurd h

      told_came : (o : Option Expr) (s : Span) (k : PlaceSources) (q y : Place) → TellsOnBase standing o → IsSource y (at_expr (condition_of o s) [] new_names (mk goes k) q) → (z : Place) × IsSource z (at_told o own_names k q) × IsSource y (goes z)
      told_came None s k q y h d = absurd (constant_none s (mk goes k) q y d)
      told_came (Some e) s k q y h d = sources_moved goes y (at_expr e [] own_names k q) (subst (IsSource y) (λ j. sym (condition_moved e k h) j q) d)

      abbrev here_read : Place → Sources
      here_read p = moved pick (sources_with_inputs observer (Body ∷ p))

      named_came : (x : List ℕ) (y : Place) → some_defines es x ≡ true → IsSource y (here_read (Named x ∷ [])) → Came (Observer ∷ Named x ∷ []) y
      named_came x y e d =
          let split = split_definitions locals lines es new_names (below Equations new_places) x
          ∙ ap (λ (b : Bool). if b then of_definitions locals es new_names (below Equations new_places) x else of_definitions locals (eqns_of lines) new_names behind_places x) e in
          let s = sources_moved goes y (in_block (block ds es) out places (Named x ∷ [])) (subst (IsSource y) (picked_block (Named x ∷ []) ∙ split ∙ sym (names_defined x)) d) in
          (s.0, subst (IsSource s.0) (sym (reads_block (Named x ∷ []))) s.1, s.2)

      inside_came : (p y : Place) → inside es p ≡ true → IsSource y (here_read (Equations ∷ p)) → Came (Observer ∷ Equations ∷ p) y
      inside_came p y e d =
          let same = picked_block (Equations ∷ p) ∙ front locals lines es new_names (below Equations new_places) p e ∙ sym (eqns_moved p) in
          let s = sources_moved goes y (in_block (block ds es) out places (Equations ∷ p)) (subst (IsSource y) same d) in
          (s.0, subst (IsSource s.0) (sym (reads_block (Equations ∷ p))) s.1, s.2)

      based : (y : List ℕ) → clock_in ds y ≡ [] → clock_in locals y ≡ []
      based y e = same_clocks y ∙ e

      assumed_clock : clock_in locals assumed ≡ []
      assumed_clock = based assumed (new_clock n c base known ds es own inner assumed assumed_not_other)

      enforced_clock : clock_in locals enforced ≡ []
      enforced_clock = based enforced (new_clock n c base known ds es own inner enforced enforced_not_other)

      assumed_came : (p y : Place) → IsSource y (here_read (Equations ∷ tails es (Head ∷ Right ∷ p))) → Came (Assume ∷ p) y
      assumed_came p y d =
          let moved_here = subst (IsSource y) (picked_block (Equations ∷ tails es (Head ∷ Right ∷ p)) ∙ back locals lines es new_names (below Equations new_places) (Head ∷ Right ∷ p)) d in
          let s = told_came c.assume c.span (below Assume only) p y assumes (subst (λ (k : Clock). IsSource y (at_expr (condition_of c.assume c.span) k new_names (mk goes (below Assume only)) p)) assumed_clock moved_here) in
          (s.0, subst (IsSource s.0) (sym (reads_assumed p)) s.1, s.2)

      enforced_came : (p y : Place) → IsSource y (here_read (Equations ∷ tails es (Tail ∷ Head ∷ Right ∷ p))) → Came (Enforce ∷ p) y
      enforced_came p y d =
          let moved_here = subst (IsSource y) (picked_block (Equations ∷ tails es (Tail ∷ Head ∷ Right ∷ p)) ∙ back locals lines es new_names (below Equations new_places) (Tail ∷ Head ∷ Right ∷ p)) d in
          let s = told_came c.enforce c.span (below Enforce only) p y enforces (subst (λ (k : Clock). IsSource y (at_expr (condition_of c.enforce c.span) k new_names (mk goes (below Enforce only)) p)) enforced_clock moved_here) in
          (s.0, subst (IsSource s.0) (sym (reads_enforced p)) s.1, s.2)

      step : (p z y : Place) → IsInContract p → IsSource z (goes p) → IsSource y (moved pick (sources_with_inputs observer z)) → Came p y
      step (Observer ∷ Named x ∷ []) z y h src d = let o = chosen_one (some_defines es x) (Body ∷ Named x ∷ []) z src in named_came x y o.0 (subst (λ w. IsSource y (moved pick (sources_with_inputs observer w))) o.1 d)
      step (Observer ∷ Equations ∷ p) z y h src d = let o = chosen_one (inside es p) (Body ∷ Equations ∷ p) z src in inside_came p y o.0 (subst (λ w. IsSource y (moved pick (sources_with_inputs observer w))) o.1 d)
      step (Assume ∷ p) z y h src d = assumed_came p y (subst (λ w. IsSource y (moved pick (sources_with_inputs observer w))) src d)
      step (Enforce ∷ p) z y h src d = enforced_came p y (subst (λ w. IsSource y (moved pick (sources_with_inputs observer w))) src d)
      step (Body ∷ p) z y h src d = absurd h
      step p z y h src d = absurd src

      -- ---- outputs

      abbrev all_names : NameSources
      all_names = names_in all (given_in observer) new_places

      abbrev AreOutputs : List Decl → Type 0
      AreOutputs os = (x : List ℕ) → IsTrue (declares os x) → IsTrue (declares n.outputs x)

      -- an output is handed on from the input that has its number
      abbrev IsHanded : ℕ → List Decl → List ℕ → Place → Type 0
      IsHanded m os x y = (j : ℕ) × (slice_get (names os) j ≡ Some x) × IsSource y (given_in observer (input_name (m + j)))

      input_given : (j : ℕ) → all_names (input_name j) ≡ given_in observer (input_name j)
      input_given j = ap (λ (b : Bool). if b then only (Body ∷ Named (input_name j) ∷ []) else given_in observer (input_name j)) (not_defined n c base known ds es own inner j)

      handed_on : (m : ℕ) (os : List Decl) (k : PlaceSources) (x : List ℕ) (y : Place) → AreOutputs os → declares os x ≡ true → IsSource y (of_definitions locals (eqns_of (all_handed_on m os)) all_names k x) → IsHanded m os x y
      handed_on m [] k x y f o d = absurd cc
      handed_on m (a ∷ os) k x y f o d = by (bytes_eq a.name x) refl o d (λ g e. handed_on (m + 1) os (below Tail k) x y (λ z h. f z (or_right (bytes_eq a.name z) (declares os z) h)) g e)
        where
          here : bytes_eq a.name x ≡ true → IsSource y (of_clock (clock_in locals a.name) all_names) ⊎ IsSource y (all_names (input_name m)) → IsHanded m (a ∷ os) x y
          here q (inl h) =
              let o = f a.name (or_left (bytes_eq a.name a.name) (declares os a.name) (bytes_same a.name)) in
              absurd (subst (λ (k : Clock). IsSource y (of_clock k all_names)) (based a.name (output_clock n c base known ds es own inner a.name o)) h)
          here q (inr h) =
              let same : m ≡ m + 0 = omega arith in
              (0, ap Some (same_bytes a.name x q), subst (λ z. IsSource y (given_in observer (input_name z))) same (subst (IsSource y) (input_given m) h))

          by : (b : Bool) → bytes_eq a.name x ≡ b → (b || declares os x) ≡ true
              → IsSource y (if b || false then both (also (of_clock (clock_in locals a.name) all_names)) (all_names (input_name m)) else of_definitions locals (eqns_of (all_handed_on (m + 1) os)) all_names (below Tail k) x)
              → (declares os x ≡ true → IsSource y (of_definitions locals (eqns_of (all_handed_on (m + 1) os)) all_names (below Tail k) x) → IsHanded (m + 1) os x y) → IsHanded m (a ∷ os) x y
          by true q o d rest = here q d
          by false q o d rest =
              let s = rest o d in
              let j : ℕ = s.0 in
              let same : m + 1 + j ≡ m + suc j = omega arith in
              (suc j, s.1, subst (λ z. IsSource y (given_in observer (input_name z))) same s.2)

      abbrev handing : NameSources
      handing = of_definitions locals (eqns_of (all_handed_on 0 n.outputs)) all_names (λ q. behind_places (Tail ∷ Tail ∷ q))

      -- what an output of the node depends on in the observer
      output_handed : (x : List ℕ) (y : Place) → declares n.outputs x ≡ true → IsSource y (sources_with_inputs observer (Body ∷ Named x ∷ [])) → (j : ℕ) × (slice_get (names n.outputs) j ≡ Some x) × IsSource y (given_in observer (input_name j))
      output_handed x y o d =
          let s = handed_on 0 n.outputs (λ q. behind_places (Tail ∷ Tail ∷ q)) x y (λ z h. h) o last in
          let same : 0 + s.0 ≡ s.0 = omega arith in
          (s.0, s.1, subst (λ z. IsSource y (given_in observer (input_name z))) same s.2)
        where
          other : IsOther x
          other = outputs_other n c known x o

          no_local : IsTrue (some_defines es x) → ⊥
          no_local h = let no : true ≡ false = sym o ∙ local_no_output n c known ds es own inner x (eqn_local n c known ds es own inner x h) in absurd cc

          last : IsSource y (handing x)
          last =
              let whole = subst (IsSource y) (split_definitions locals lines es all_names (below Equations new_places) x) d in
              let behind = not_first (some_defines es x) _ (of_definitions locals (eqns_of lines) all_names behind_places x) y (false_unless (some_defines es x) no_local) whole in
              let second = not_first (bytes_eq assumed x || false) _ _ y (or_false (bytes_eq assumed x) ∙ other.assumed) behind in
              not_first (bytes_eq enforced x || false) _ (handing x) y (or_false (bytes_eq enforced x) ∙ other.enforced) second

      -- ---- chains

      abbrev Leads : Place → List Place → Type 0
      Leads z between = DependsByWithInputs observer z between px

      -- no chain leads on from an input
      none_behind : (s : Place) (between : List Place) → Leads (Inputs ∷ s) between → ⊥
      none_behind s [] d = d
      none_behind s (y ∷ ys) d = d.0

      -- what is given under a name is an input, if it is something
      input_shape : (x : List ℕ) (y : Place) → IsSource y (given_in observer x) → (p : Place) × (y ≡ Inputs ∷ p) × (name_of observer (Inputs ∷ p) ≡ x)
      input_shape x y h = by (shape observer x)
        where
          by : Shape observer x → (p : Place) × (y ≡ Inputs ∷ p) × (name_of observer (Inputs ∷ p) ≡ x)
          by (inl g) = absurd (subst (IsSource y) g.0 h)
          by (inr (inl g)) = let no : none ≡ only (Controls ∷ g.0) = g.2 in absurd cc
          by (inr (inr g)) = (g.0, subst (IsSource y) g.1 h, g.3)

      module _ (o : List ℕ) (numbered : slice_get (names n.outputs) i ≡ Some o) where
        -- two of these inputs have one name only if they stand for one output
        same_output : (j : ℕ) (x : List ℕ) → slice_get (names n.outputs) j ≡ Some x → input_name i ≡ input_name j → x ≡ o
        same_output j x there e =
            let long : length (names n.outputs) ≡ length n.outputs = length-map n.outputs (λ (d : Decl). d.name) in
            let low = slice_get_within (names n.outputs) i o numbered in
            let high = slice_get_within (names n.outputs) j x there in
            let same : i ≡ j = decimal_injective i j (omega (arith, low, long, few)) (omega (arith, high, long, few)) (append_cancel_left (codes "in$") (decimal i) (decimal j) e) in
            let both_there : Some x ≡ Some o = sym there ∙ ap (slice_get (names n.outputs)) (sym same) ∙ numbered in
            cc

        -- the output that leads to the input is that for which the input stands
        output_is : (x : List ℕ) (between : List Place) → declares n.outputs x ≡ true → Leads (Body ∷ Named x ∷ []) between → x ≡ o
        output_is x [] told d =
            let s = output_handed x px told d in
            let g = input_shape (input_name s.0) px s.2 in
            same_output s.0 x s.1 (sym (is_named observer (input_name i) px at) ∙ ap (name_of observer) g.1 ∙ g.2)
        output_is x (y ∷ ys) told d =
            let s = output_handed x y told d.0 in
            let g = input_shape (input_name s.0) y s.2 in
            absurd (none_behind g.0 ys (subst (λ z. Leads z ys) g.1 d.1))

        -- a place that is read is an input, or seen here too
        abbrev Kept : Place → Type 0
        Kept y = ((s : Place) × (y ≡ Inputs ∷ s)) ⊎ IsSource y (pick y)

        kept : (y : Place) → Kept y
        kept (Inputs ∷ s) = inl (s, refl)
        kept y = inr refl

        -- what stands for a place of the node is one of the contract or an output
        abbrev Follows : Place → Place → Type 0
        Follows q y = IsInContract q ⊎ ((x : List ℕ) × (q ≡ Body ∷ Named x ∷ []) × (declares n.outputs x ≡ true) × (y ≡ Body ∷ Named x ∷ []))

        follows : (q y : Place) → IsSource y (goes q) → Follows q y
        follows (Observer ∷ q) y h = inl tt
        follows (Assume ∷ q) y h = inl tt
        follows (Enforce ∷ q) y h = inl tt
        follows (Body ∷ Named x ∷ []) y h = let c = chosen_one (declares n.outputs x) (Body ∷ Named x ∷ []) y h in inr (x, refl, c.0, c.1)
        follows q y h = absurd h

        -- no place stands for an input
        no_input : (q : Place) → IsSource px (goes q) → ⊥
        no_input (Observer ∷ Named x ∷ []) h = let e : Inputs ∷ r ≡ Body ∷ Named x ∷ [] = (chosen_one (some_defines es x) (Body ∷ Named x ∷ []) px h).1 in absurd cc
        no_input (Observer ∷ Equations ∷ q) h = let e : Inputs ∷ r ≡ Body ∷ Equations ∷ q = (chosen_one (inside es q) (Body ∷ Equations ∷ q) px h).1 in absurd cc
        no_input (Body ∷ Named x ∷ []) h = let e : Inputs ∷ r ≡ Body ∷ Named x ∷ [] = (chosen_one (declares n.outputs x) (Body ∷ Named x ∷ []) px h).1 in absurd cc
        no_input (Assume ∷ q) h = let e : Inputs ∷ r ≡ Body ∷ Equations ∷ tails es (Head ∷ Right ∷ q) = h in absurd cc
        no_input (Enforce ∷ q) h = let e : Inputs ∷ r ≡ Body ∷ Equations ∷ tails es (Tail ∷ Head ∷ Right ∷ q) = h in absurd cc
        no_input q h = absurd h

        abbrev Reaches : Place → Type 0
        Reaches p = (between : List Place) × DependsBy n p between (Body ∷ Named o ∷ [])

        pub reaches : (p z : Place) → IsInContract p → IsSource z (goes p) → (between : List Place) → Leads z between → Reaches p
        reaches p z h src [] d = let s = step p z px h src (moved_sources pick px px (sources_with_inputs observer z) d picked) in absurd (no_input s.0 s.2)
        reaches p z h src (y ∷ ys) d = by (kept y) (λ q there g. reaches q y there g ys d.1)
          where
            next : ((q : Place) → IsInContract q → IsSource y (goes q) → Reaches q) → (q : Place) → IsSource q (sources n p) → IsSource y (goes q) → Follows q y → Reaches p
            next again q g stands (inl there) = let rest = again q there stands in (q ∷ rest.0, (g, rest.1))
            next again q g stands (inr it) =
                let same = output_is it.0 ys it.2 (subst (λ w. Leads w ys) it.3 d.1) in
                ([], subst (λ w. IsSource w (sources n p)) (it.1 ∙ ap (λ (x : List ℕ). Body ∷ Named x ∷ []) same) g)

            by : Kept y → ((q : Place) → IsInContract q → IsSource y (goes q) → Reaches q) → Reaches p
            by (inl input) again = absurd (none_behind input.0 ys (subst (λ w. Leads w ys) input.1 d.1))
            by (inr seen_here) again = let s = step p z y h src (moved_sources pick y y (sources_with_inputs observer z) d.0 seen_here) in next again s.0 s.1 s.2 (follows s.0 y s.2)
