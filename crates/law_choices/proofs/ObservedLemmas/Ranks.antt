-- The places of an observer have ranks, where those of the node have.
use Rattle.std.proofs.Common.{◌≡◌, ◌⊎◌, inl, inr, ℕ, suc, ◌+◌, ◌<◌, Bool, true, false, ◌&&◌, ◌||◌, if◌then◌else◌, List, [], ◌∷◌, ◌++◌, Option, None, Some, refl, sym, ap, ap₂, subst, ◌∙◌, arith}
use Rattle.std.proofs.Math.Path.{fun_ext}
use Rattle.std.specs.Prelude.{IsTrue}
use Rattle.std.specs.Str.{bytes_eq}
use Rattle.hp_base.specs.declared.span.Span.{Span}
use Rattle.hp_tree.specs.Expressions.{Expr, variable}
use Rattle.hp_tree.specs.Blocks.{Decl, Block, block, Eqns, no_eqn, more_eqns, Eqn, define, switch, reset, automaton, eqns_of, list_of_eqns}
use Rattle.hp_tree.specs.Programs.{Contract, Node}
use Rattle.hp_tree.specs.declared.program.Item.{Item}
use Rattle.hp_tree.specs.declared.program.Item.TheVariants.{TypeItem, NodeItem}
use Rattle.hp_tree.specs.Instant.{Body, Observer, Assume, Enforce, Named, Equations, Head, Tail, Right, First, Place, Clock}
use Rattle.hp_tree.specs.Meaning.{declares, defines, some_defines, clock_in}
use Rattle.hp_meaning.specs.Causal.Causality.{IsRanked, Ranked, sources}
use Rattle.hp_meaning.specs.Causal.Clocked.{AllRight, ClocksRight, ContractRight, IsOn, Standing, TellsOnBase, base_alone, on_base, standing_in}
use Rattle.hp_meaning.proofs.CausalLemmas.NodesAgree.{within_more}
use Rattle.hp_meaning.specs.Causal.Sources.{Sources, none, only, both, also, Within, NameSources, PlaceSources, below, at_row, at_right}
use Rattle.hp_meaning.specs.Causal.WhatIsRead.{at_expr, at_told, has_equation, in_block, in_contract, in_equation, in_equations, names_in, of_clock, of_definition, of_definitions, of_expr, output_in}
use Rattle.law_judged.specs.Named.Scoped.{BlockScoped, ContractScoped, EachNode, NodeScoped, equations_of, interface, no_names}
use Rattle.law_judged.specs.Replaced.Fitting.{BlockNames, ContractNames}
use Rattle.law_judged.proofs.NamedLemmas.Sets.{or_left, or_right}
use Rattle.law_automata.proofs.LoweredLemmas.Apart.{bytes_same, same_bytes}
use Rattle.hp_meaning.specs.Clocking.Clocking.{AreDefined}
use Rattle.hp_watch.specs.Observing.{all_handed_on, assumed, condition_of, enforced, input_name, inputs_for, lines_of, observer_of, observer_if, observers, outputs_at, with_lines}
use Rattle.law_choices.specs.Depending.Contracts.{behind_all as tails}
use Rattle.law_choices.specs.Observed.Contracts.{IsObservable, IsOther}
use Rattle.law_choices.proofs.IndependentLemmas.Moved.{mk, mn, move_expr, move_in_block, move_of, moved}
use Rattle.law_choices.proofs.ObservedLemmas.Bodies.{assumed_not_other, defines_behind, enforced_not_other, eqn_local, lines_define, local_no_output, none_declared, outputs_other}
use Rattle.law_choices.proofs.ObservedLemmas.Clocks as clocks
use Rattle.law_choices.proofs.ObservedLemmas.Clocks.{clock_behind, new_clock, not_defined, output_clock}
use Rattle.law_choices.proofs.ObservedLemmas.Read.{Agree, at_same, definitions_same, equations_same, of_same}
use Rattle.law_choices.proofs.ObservedLemmas.Removable.{AllBase}

-- ---- equations in front of others

-- the place stands in one of these equations
abbrev pub inside : Eqns → Place → Bool
inside no_eqn p = false
inside (more_eqns e es) (Head ∷ p) = true
inside (more_eqns e es) (Tail ∷ p) = inside es p
inside (more_eqns e es) p = false

module _ (locals : List Decl) (more : List Eqn) where
  pub front : (es : Eqns) (names : NameSources) (k : PlaceSources) (p : Place) → inside es p ≡ true → in_equations locals (eqns_of (list_of_eqns es ++ more)) names k p ≡ in_equations locals es names k p
  front no_eqn names k p i = absurd cc
  front (more_eqns e es) names k (Head ∷ p) i = refl
  front (more_eqns e es) names k (Tail ∷ p) i = front es names (below Tail k) p i
  front (more_eqns e es) names k p i = refl

  pub back : (es : Eqns) (names : NameSources) (k : PlaceSources) (q : Place) → in_equations locals (eqns_of (list_of_eqns es ++ more)) names k (tails es q) ≡ in_equations locals (eqns_of more) names (λ r. k (tails es r)) q
  back no_eqn names k q = refl
  back (more_eqns e es) names k q = back es names (below Tail k) q

  -- another place is in none
  abbrev IsNowhere : Eqns → Place → Type 0
  IsNowhere es p = (names : NameSources) (k : PlaceSources) → in_equations locals (eqns_of (list_of_eqns es ++ more)) names k p ≡ none

  pub split : (es : Eqns) (p : Place) → (inside es p ≡ true) ⊎ (((q : Place) × (p ≡ tails es q)) ⊎ IsNowhere es p)
  split no_eqn p = inr (inl (p, refl))
  split (more_eqns e es) (Head ∷ p) = inl refl
  split (more_eqns e es) (Tail ∷ p) = by (split es p)
    where
      by : (inside es p ≡ true) ⊎ (((q : Place) × (p ≡ tails es q)) ⊎ IsNowhere es p) → (inside es p ≡ true) ⊎ (((q : Place) × (Tail ∷ p ≡ Tail ∷ tails es q)) ⊎ IsNowhere (more_eqns e es) (Tail ∷ p))
      by (inl i) = inl i
      by (inr (inl q)) = inr (inl (q.0, ap (λ (z : Place). Tail ∷ z) q.1))
      by (inr (inr f)) = inr (inr (λ names k. f names (below Tail k)))
  split (more_eqns e es) p = inr (inr (λ names k. refl))

  pub split_definitions : (es : Eqns) (names : NameSources) (k : PlaceSources) (x : List ℕ) → of_definitions locals (eqns_of (list_of_eqns es ++ more)) names k x
      ≡ (if some_defines es x then of_definitions locals es names k x else of_definitions locals (eqns_of more) names (λ r. k (tails es r)) x)
  split_definitions no_eqn names k x = refl
  split_definitions (more_eqns e es) names k x = by (defines e x) (split_definitions es names (below Tail k) x)
    where
      by : (d : Bool) → of_definitions locals (eqns_of (list_of_eqns es ++ more)) names (below Tail k) x ≡ (if some_defines es x then of_definitions locals es names (below Tail k) x else of_definitions locals (eqns_of more) names (λ r. k (Tail ∷ tails es r)) x)
          → (if d then of_definition locals e names (below Head k) x else of_definitions locals (eqns_of (list_of_eqns es ++ more)) names (below Tail k) x)
          ≡ (if d || some_defines es x then (if d then of_definition locals e names (below Head k) x else of_definitions locals es names (below Tail k) x) else of_definitions locals (eqns_of more) names (λ r. k (Tail ∷ tails es r)) x)
      by true rest = refl
      by false rest = rest

-- ---- what equations read does not depend on other places, nor on declarations that say the same clocks

module _ (ds : List Decl) (names : NameSources) where
  pub places_same : (es : Eqns) (k l : PlaceSources) → ((q : Place) → inside es q ≡ true → k q ≡ l q) → in_equations ds es names k ≡ in_equations ds es names l
  places_same no_eqn k l f = refl
  places_same (more_eqns e es) k l f = ap₂ at_row (ap (in_equation ds e names) (fun_ext (λ q. f (Head ∷ q) refl))) (places_same es (below Tail k) (below Tail l) (λ q i. f (Tail ∷ q) i))

  pub places_define : (es : Eqns) (k l : PlaceSources) (x : List ℕ) → ((q : Place) → inside es q ≡ true → k q ≡ l q) → of_definitions ds es names k x ≡ of_definitions ds es names l x
  places_define no_eqn k l x f = refl
  places_define (more_eqns e es) k l x f =
      let first : below Head k ≡ below Head l = fun_ext (λ q. f (Head ∷ q) refl) in
      ap₂ (λ s t. if defines e x then s else t) (ap (λ (m : PlaceSources). of_definition ds e names m x) first) (places_define es (below Tail k) (below Tail l) x (λ q i. f (Tail ∷ q) i))

module _ (ds locals : List Decl) (same : (x : List ℕ) → clock_in locals x ≡ clock_in ds x) (names : NameSources) where
  one_local : (e : Eqn) (k : PlaceSources) → in_equation ds e names k ≡ in_equation locals e names k
  one_local (define s ys e) k = ap (λ (clock : Clock). at_right (at_expr e clock names (below Right k))) (sym (clocks.of_same ds locals same ys e))
  one_local (switch s e arms) k = refl
  one_local (reset s b e) k = refl
  one_local (automaton s ss) k = refl

  pub all_local : (es : Eqns) (k : PlaceSources) → in_equations ds es names k ≡ in_equations locals es names k
  all_local no_eqn k = refl
  all_local (more_eqns e es) k = ap₂ at_row (one_local e (below Head k)) (all_local es (below Tail k))

  one_definition : (e : Eqn) (k : PlaceSources) (x : List ℕ) → of_definition ds e names k x ≡ of_definition locals e names k x
  one_definition (define s ys e) k x = ap (λ (clock : Clock). both (also (of_clock clock names)) (of_expr e names (below Right k))) (sym (clocks.of_same ds locals same ys e))
  one_definition (switch s e arms) k x = refl
  one_definition (reset s b e) k x = refl
  one_definition (automaton s ss) k x = refl

  pub local_definitions : (es : Eqns) (k : PlaceSources) (x : List ℕ) → of_definitions ds es names k x ≡ of_definitions locals es names k x
  local_definitions no_eqn k x = refl
  local_definitions (more_eqns e es) k x = ap₂ (λ s t. if defines e x then s else t) (one_definition e (below Head k) x) (local_definitions es (below Tail k) x)

-- ---- ranks of places in some equations, and of those behind them

abbrev place_rank : Eqns → (Place → ℕ) → (Place → ℕ) → Place → ℕ
place_rank no_eqn f h p = h p
place_rank (more_eqns e es) f h (Tail ∷ p) = place_rank es (λ q. f (Tail ∷ q)) h p
place_rank (more_eqns e es) f h p = f p

rank_front : (es : Eqns) (f h : Place → ℕ) (p : Place) → inside es p ≡ true → place_rank es f h p ≡ f p
rank_front no_eqn f h p i = absurd cc
rank_front (more_eqns e es) f h (Tail ∷ p) i = rank_front es (λ q. f (Tail ∷ q)) h p i
rank_front (more_eqns e es) f h p i = refl

rank_back : (es : Eqns) (f h : Place → ℕ) (q : Place) → place_rank es f h (tails es q) ≡ h q
rank_back no_eqn f h q = refl
rank_back (more_eqns e es) f h q = rank_back es (λ r. f (Tail ∷ r)) h q

has_named : (b : Block) (x : List ℕ) → has_equation b x ≡ some_defines (equations_of b) x
has_named (block ds es) x = refl

place_bounded : (es : Eqns) (f h : Place → ℕ) (m : ℕ) → ((q : Place) → f q < m) → ((q : Place) → h q < m) → (p : Place) → place_rank es f h p < m
place_bounded no_eqn f h m a b p = b p
place_bounded (more_eqns e es) f h m a b (Tail ∷ p) = place_bounded es (λ q. f (Tail ∷ q)) h m (λ q. a (Tail ∷ q)) b p
place_bounded (more_eqns e es) f h m a b p = a p

-- what a contract reads has less rank; at a place that is in none it reads nothing
contract_falls : (n : Node) (ranked : Ranked n) (p : Place) → Within (λ z. ranked.rank z < ranked.rank p) (in_contract n.contract (output_in n (below Body only)) only p)
contract_falls n ranked (Observer ∷ p) = ranked.falls (Observer ∷ p)
contract_falls n ranked (Assume ∷ p) = ranked.falls (Assume ∷ p)
contract_falls n ranked (Enforce ∷ p) = ranked.falls (Enforce ∷ p)
contract_falls n ranked p = by n.contract
  where
    by : (o : Option Contract) → Within (λ z. ranked.rank z < ranked.rank p) (in_contract o (output_in n (below Body only)) only p)
    by None = tt
    by (Some c) = tt

-- ---- the observer

module _ (n : Node) (c : Contract) (base : AllBase n.outputs) (known : (x : List ℕ) → IsTrue (interface n x) → IsOther x) (filled : AreDefined n.outputs (equations_of n.body)) (ranked : Ranked n)
    (ds : List Decl) (es : Eqns) (own : BlockScoped (interface n) no_names (block ds es)) (inner : BlockNames IsOther (block ds es)) where
  abbrev lines : List Eqn
  lines = lines_of n c

  abbrev all : Eqns
  all = eqns_of (list_of_eqns es ++ lines)

  abbrev locals : List Decl
  locals = ds ++ n.outputs

  abbrev seen : Standing
  seen x = on_base (declares n.inputs x || declares n.outputs x)

  abbrev standing : Standing
  standing = standing_in ds es seen

  -- what names stand for in the contract of the node, and in its observer
  abbrev out : NameSources
  out = output_in n (below Body only)

  abbrev places : PlaceSources
  places = below Observer only

  abbrev own_names : NameSources
  own_names = names_in es out places

  abbrev new_places : PlaceSources
  new_places = below Body only

  abbrev new_names : NameSources
  new_names = names_in all (λ x. none) new_places

  -- the place of the observer that stands for one of the node
  abbrev goes : Place → Sources
  goes (Observer ∷ Named x ∷ []) = if some_defines es x then only (Body ∷ Named x ∷ []) else none
  goes (Observer ∷ Equations ∷ p) = if inside es p then only (Body ∷ Equations ∷ p) else none
  goes (Body ∷ Named x ∷ []) = if declares n.outputs x then only (Body ∷ Named x ∷ []) else none
  goes (Assume ∷ p) = only (Body ∷ Equations ∷ tails es (Head ∷ Right ∷ p))
  goes (Enforce ∷ p) = only (Body ∷ Equations ∷ tails es (Tail ∷ Head ∷ Right ∷ p))
  goes p = none

  abbrev moved_names : NameSources
  moved_names = names_in es (mn goes out) (mk goes places)

  pub names_moved : mn goes own_names ≡ moved_names
  names_moved = fun_ext (λ x. by (some_defines es x) x)
    where
      by : (d : Bool) (x : List ℕ) → moved goes (if d then places (Named x ∷ []) else out x) ≡ (if d then mk goes places (Named x ∷ []) else mn goes out x)
      by true x = refl
      by false x = refl

  -- names that stand on a clock stand for the same
  agree : Agree standing moved_names new_names
  agree x clock h = by (some_defines es x) refl h
    where
      here : Sources
      here = only (Body ∷ Named x ∷ [])

      defined_there : (b : Bool) → some_defines all x ≡ b → new_names x ≡ (if b then only (Body ∷ Named x ∷ []) else none)
      defined_there b e = ap (λ (d : Bool). if d then only (Body ∷ Named x ∷ []) else none) e

      is_seen : (i o : Bool) → base_alone (on_base (i || o)) ≡ Some clock → IsTrue (o || (i || false))
      is_seen true true q = refl
      is_seen true false q = refl
      is_seen false true q = refl
      is_seen false false q = absurd cc

      outside : some_defines es x ≡ false → IsOther x → (d : Bool) → declares n.outputs x ≡ d → moved goes (out x) ≡ new_names x
      outside q other true o =
          let has : has_equation n.body x ≡ true = has_named n.body x ∙ filled x o in
          let there : some_defines all x ≡ true = defines_behind es lines x ∙ ap₂ (λ a b. a || b) q (lines_define n c known x other ∙ o) in
          (λ i. moved goes (if o i && has i then only (Body ∷ Named x ∷ []) else none)) ∙ ap (λ (d : Bool). if d then only (Body ∷ Named x ∷ []) else none) o ∙ sym (defined_there true there)
      outside q other false o =
          let there : some_defines all x ≡ false = defines_behind es lines x ∙ ap₂ (λ a b. a || b) q (lines_define n c known x other ∙ o) in
          (λ i. moved goes (if o i && has_equation n.body x then only (Body ∷ Named x ∷ []) else none)) ∙ sym (defined_there false there)

      by : (b : Bool) → some_defines es x ≡ b → (if b then Some (clock_in ds x) else base_alone (seen x)) ≡ Some clock → moved_names x ≡ new_names x
      by true q p =
          ap (λ (b : Bool). if b then (if b then only (Body ∷ Named x ∷ []) else none) else mn goes out x) q
          ∙ sym (defined_there true (defines_behind es lines x ∙ ap (λ b. b || some_defines (eqns_of lines) x) q))
      by false q p =
          ap (λ (b : Bool). if b then (if b then only (Body ∷ Named x ∷ []) else none) else mn goes out x) q
          ∙ outside q (known x (is_seen (declares n.inputs x) (declares n.outputs x) p)) (declares n.outputs x) refl

  same_clocks : (x : List ℕ) → clock_in locals x ≡ clock_in ds x
  same_clocks = clock_behind ds n.outputs base

  goes_inside : (q : Place) → inside es q ≡ true → mk goes places (Equations ∷ q) ≡ new_places (Equations ∷ q)
  goes_inside q i = ap (λ (b : Bool). if b then only (Body ∷ Equations ∷ q) else none) i

  module _ (right : AllRight standing ds es) where
    -- so what the places of the contract read is what those of the observer read
    pub eqns_moved : (p : Place) → moved goes (in_block (block ds es) out places (Equations ∷ p)) ≡ in_equations locals es new_names (below Equations new_places) p
    eqns_moved p =
        (λ i. move_in_block goes (block ds es) out places i (Equations ∷ p))
        ∙ (λ i. equations_same ds es standing moved_names new_names (below Equations (mk goes places)) agree right i p)
        ∙ (λ i. places_same ds new_names es (below Equations (mk goes places)) (below Equations new_places) goes_inside i p)
        ∙ (λ i. all_local ds locals same_clocks new_names es (below Equations new_places) i p)

    pub names_defined : (x : List ℕ) → moved goes (in_block (block ds es) out places (Named x ∷ [])) ≡ of_definitions locals es new_names (below Equations new_places) x
    names_defined x =
        (λ i. move_in_block goes (block ds es) out places i (Named x ∷ []))
        ∙ definitions_same standing moved_names new_names agree ds es (below Equations (mk goes places)) x right
        ∙ places_define ds new_names es (below Equations (mk goes places)) (below Equations new_places) x goes_inside
        ∙ local_definitions ds locals same_clocks new_names es (below Equations new_places) x

  -- ---- ranks

  abbrev line_rank : Place → ℕ
  line_rank (Head ∷ Right ∷ q) = suc (ranked.rank (Assume ∷ q))
  line_rank (Tail ∷ Head ∷ Right ∷ q) = suc (ranked.rank (Enforce ∷ q))
  line_rank p = 0

  abbrev name_rank : Bool → Bool → ℕ → ℕ
  name_rank output defined r = if output then 0 else (if defined then suc r else suc (suc ranked.bound))

  abbrev rank : Place → ℕ
  rank (Named x ∷ []) = suc (suc (suc ranked.bound))
  rank (Body ∷ Named x ∷ []) = name_rank (declares n.outputs x) (some_defines es x) (ranked.rank (Observer ∷ Named x ∷ []))
  rank (Body ∷ Equations ∷ p) = place_rank es (λ q. suc (ranked.rank (Observer ∷ Equations ∷ q))) line_rank p
  rank p = 0

  name_low : (output defined : Bool) (m r : ℕ) → defined ≡ true → m < r → name_rank output defined m < suc r
  name_low true d m r e l = omega arith
  name_low false true m r e l = omega (arith, l)
  name_low false false m r e l = absurd cc

  name_below : (output defined : Bool) (m : ℕ) → m < ranked.bound → name_rank output defined m < suc (suc (suc ranked.bound))
  name_below true d m l = omega arith
  name_below false true m l = omega (arith, l)
  name_below false false m l = omega arith

  name_bounded : (output defined : Bool) (m : ℕ) → m < ranked.bound → name_rank output defined m < suc (suc (suc (suc ranked.bound)))
  name_bounded o d m l = let less = name_below o d m l in omega (arith, less)

  goes_lower : (r : ℕ) (q : Place) → ranked.rank q < r → Within (λ z. rank z < suc r) (goes q)
  goes_lower r (Observer ∷ Named x ∷ []) l = by (some_defines es x) refl
    where
      by : (b : Bool) → some_defines es x ≡ b → Within (λ z. rank z < suc r) (if b then only (Body ∷ Named x ∷ []) else none)
      by true e = name_low (declares n.outputs x) (some_defines es x) (ranked.rank (Observer ∷ Named x ∷ [])) r e l
      by false e = tt
  goes_lower r (Observer ∷ Equations ∷ p) l = by (inside es p) refl
    where
      by : (b : Bool) → inside es p ≡ b → Within (λ z. rank z < suc r) (if b then only (Body ∷ Equations ∷ p) else none)
      by true e = let same = rank_front es (λ q. suc (ranked.rank (Observer ∷ Equations ∷ q))) line_rank p e in subst (λ m. m < suc r) (sym same) (omega (arith, l))
      by false e = tt
  goes_lower r (Body ∷ Named x ∷ []) l = by (declares n.outputs x) refl
    where
      by : (b : Bool) → declares n.outputs x ≡ b → Within (λ z. rank z < suc r) (if b then only (Body ∷ Named x ∷ []) else none)
      by true e = subst (λ (d : Bool). name_rank d (some_defines es x) (ranked.rank (Observer ∷ Named x ∷ [])) < suc r) (sym e) (omega arith)
      by false e = tt
  goes_lower r (Assume ∷ p) l = subst (λ m. m < suc r) (sym (rank_back es (λ q. suc (ranked.rank (Observer ∷ Equations ∷ q))) line_rank (Head ∷ Right ∷ p))) (omega (arith, l))
  goes_lower r (Enforce ∷ p) l = subst (λ m. m < suc r) (sym (rank_back es (λ q. suc (ranked.rank (Observer ∷ Equations ∷ q))) line_rank (Tail ∷ Head ∷ Right ∷ p))) (omega (arith, l))
  goes_lower r p l = tt

  moved_lower : (r : ℕ) (s : Sources) → Within (λ q. ranked.rank q < r) s → Within (λ z. rank z < suc r) (moved goes s)
  moved_lower r none h = tt
  moved_lower r (only q) h = goes_lower r q h
  moved_lower r (both s t) h = (moved_lower r s h.0, moved_lower r t h.1)
  moved_lower r (also s) h = moved_lower r s h

  -- all of them are bounded
  pub moved_bounded : (s : Sources) → Within (λ z. rank z < suc (suc ranked.bound)) (moved goes s)
  moved_bounded none = tt
  moved_bounded (only q) = within_more (λ z. rank z < suc ranked.bound) (λ z. rank z < suc (suc ranked.bound)) (λ z l. omega (arith, l)) (goes q) (goes_lower ranked.bound q (ranked.bounded q))
  moved_bounded (both s t) = (moved_bounded s, moved_bounded t)
  moved_bounded (also s) = moved_bounded s

  -- ---- lines that read nothing

  none_there : (i : ℕ) → new_names (input_name i) ≡ none
  none_there i = ap (λ (b : Bool). if b then only (Body ∷ Named (input_name i) ∷ []) else none) (not_defined n c base known ds es own inner i)

  based : (y : List ℕ) → clock_in ds y ≡ [] → clock_in locals y ≡ []
  based y e = same_clocks y ∙ e

  abbrev AreOutputs : List Decl → Type 0
  AreOutputs os = (x : List ℕ) → IsTrue (declares os x) → IsTrue (declares n.outputs x)

  first_output : (d : Decl) (os : List Decl) → AreOutputs (d ∷ os) → IsTrue (declares n.outputs d.name)
  first_output d os f = f d.name (or_left (bytes_eq d.name d.name) (declares os d.name) (bytes_same d.name))

  other_outputs : (d : Decl) (os : List Decl) → AreOutputs (d ∷ os) → AreOutputs os
  other_outputs d os f x h = f x (or_right (bytes_eq d.name x) (declares os x) h)

  -- what hands an output on
  handed_reads : (P : Place → Type 0) (i : ℕ) (d : Decl) → IsTrue (declares n.outputs d.name) → Within P (both (also (of_clock (clock_in locals d.name) new_names)) (new_names (input_name i)))
  handed_reads P i d o =
      let clock = based d.name (output_clock n c base known ds es own inner d.name o) in
      subst (λ (s : Sources). Within P (both (also (of_clock (clock_in locals d.name) new_names)) s)) (sym (none_there i)) (subst (λ (k : Clock). Within P (both (also (of_clock k new_names)) none)) (sym clock) (tt, tt))

  handed_places : (P : Place → Type 0) (i : ℕ) (os : List Decl) (k : PlaceSources) (r : Place) → AreOutputs os → Within P (in_equations locals (eqns_of (all_handed_on i os)) new_names k r)
  handed_places P i [] k r f = tt
  handed_places P i (d ∷ os) k (Head ∷ Right ∷ []) f = handed_reads P i d (first_output d os f)
  handed_places P i (d ∷ os) k (Head ∷ Right ∷ First ∷ s) f = tt
  handed_places P i (d ∷ os) k (Tail ∷ r) f = handed_places P (i + 1) os (below Tail k) r (other_outputs d os f)
  handed_places P i (d ∷ os) k r f = tt

  handed_definitions : (P : Place → Type 0) (i : ℕ) (os : List Decl) (k : PlaceSources) (x : List ℕ) → AreOutputs os → Within P (of_definitions locals (eqns_of (all_handed_on i os)) new_names k x)
  handed_definitions P i [] k x f = tt
  handed_definitions P i (d ∷ os) k x f = by (defines (define d.span ((d.name, d.span) ∷ []) (variable d.span (input_name i))) x) (handed_definitions P (i + 1) os (below Tail k) x (other_outputs d os f))
    where
      by : (b : Bool) → Within P (of_definitions locals (eqns_of (all_handed_on (i + 1) os)) new_names (below Tail k) x)
          → Within P (if b then both (also (of_clock (clock_in locals d.name) new_names)) (new_names (input_name i)) else of_definitions locals (eqns_of (all_handed_on (i + 1) os)) new_names (below Tail k) x)
      by true rest = handed_reads P i d (first_output d os f)
      by false rest = rest

  constant_reads : (P : Place → Type 0) (s : Span) (k : PlaceSources) (r : Place) → Within P (at_expr (condition_of None s) [] new_names k r)
  constant_reads P s k [] = tt
  constant_reads P s k (First ∷ r) = tt
  constant_reads P s k r = tt

  -- ---- conditions

  -- a condition of the contract reads in the observer what stands for what it reads in the node
  condition_moved : (e : Expr) (k : PlaceSources) → IsOn standing e [] → mk goes (at_expr e [] own_names k) ≡ at_expr e [] new_names (mk goes k)
  condition_moved e k h =
      move_expr goes e [] own_names k ∙ ap (λ (names : NameSources). at_expr e [] names (mk goes k)) names_moved ∙ at_same standing moved_names new_names agree e [] (mk goes k) tt h

  condition_read : (e : Expr) (k : PlaceSources) → IsOn standing e [] → moved goes (of_expr e own_names k) ≡ of_expr e new_names (mk goes k)
  condition_read e k h = move_of goes e own_names k ∙ ap (λ (names : NameSources). of_expr e names (mk goes k)) names_moved ∙ of_same standing moved_names new_names agree e [] (mk goes k) h

  told_bounded : (o : Option Expr) (s : Span) (k : PlaceSources) → TellsOnBase standing o → Within (λ z. rank z < suc (suc ranked.bound)) (of_expr (condition_of o s) new_names (mk goes k))
  told_bounded None s k h = tt
  told_bounded (Some e) s k h = subst (Within (λ z. rank z < suc (suc ranked.bound))) (condition_read e k h) (moved_bounded (of_expr e own_names k))

  told_lower : (o : Option Expr) (s : Span) (k : PlaceSources) (r : ℕ) (q : Place) → TellsOnBase standing o → Within (λ z. ranked.rank z < r) (at_told o own_names k q) → Within (λ z. rank z < suc r) (at_expr (condition_of o s) [] new_names (mk goes k) q)
  told_lower None s k r q h l = constant_reads (λ z. rank z < suc r) s (mk goes k) q
  told_lower (Some e) s k r q h l = subst (Within (λ z. rank z < suc r)) (λ i. condition_moved e k h i q) (moved_lower r (at_expr e [] own_names k q) l)

  -- ---- the ranks fall

  module _ (right : AllRight standing ds es) (assumes : TellsOnBase standing c.assume) (enforces : TellsOnBase standing c.enforce)
      (in_contract_falls : (p : Place) → Within (λ z. ranked.rank z < ranked.rank (Observer ∷ p)) (in_block (block ds es) out places p))
      (assume_falls : (q : Place) → Within (λ z. ranked.rank z < ranked.rank (Assume ∷ q)) (at_told c.assume own_names (below Assume only) q))
      (enforce_falls : (q : Place) → Within (λ z. ranked.rank z < ranked.rank (Enforce ∷ q)) (at_told c.enforce own_names (below Enforce only) q)) where
    abbrev Below : ℕ → Sources → Type 0
    Below r s = Within (λ z. rank z < r) s

    abbrev behind_all : PlaceSources
    behind_all r = below Equations new_places (tails es r)

    assumed_clock : clock_in locals assumed ≡ []
    assumed_clock = based assumed (new_clock n c base known ds es own inner assumed assumed_not_other)

    enforced_clock : clock_in locals enforced ≡ []
    enforced_clock = based enforced (new_clock n c base known ds es own inner enforced enforced_not_other)

    lines_fall : (q : Place) → Below (line_rank q) (in_equations locals (eqns_of lines) new_names behind_all q)
    lines_fall (Head ∷ Right ∷ q) =
        subst (λ (k : Clock). Below (suc (ranked.rank (Assume ∷ q))) (at_expr (condition_of c.assume c.span) k new_names (mk goes (below Assume only)) q)) (sym assumed_clock)
        (told_lower c.assume c.span (below Assume only) (ranked.rank (Assume ∷ q)) q assumes (assume_falls q))
    lines_fall (Tail ∷ Head ∷ Right ∷ q) =
        subst (λ (k : Clock). Below (suc (ranked.rank (Enforce ∷ q))) (at_expr (condition_of c.enforce c.span) k new_names (mk goes (below Enforce only)) q)) (sym enforced_clock)
        (told_lower c.enforce c.span (below Enforce only) (ranked.rank (Enforce ∷ q)) q enforces (enforce_falls q))
    lines_fall (Tail ∷ Tail ∷ q) = handed_places (λ z. rank z < 0) 0 n.outputs (λ r. behind_all (Tail ∷ Tail ∷ r)) q (λ x h. h)
    lines_fall q = tt

    abbrev PlaceFalls : Place → Type 0
    PlaceFalls p = Below (rank (Body ∷ Equations ∷ p)) (in_equations locals all new_names (below Equations new_places) p)

    place_falls : (p : Place) → PlaceFalls p
    place_falls p = by (split locals lines es p)
      where
        back_falls : (q : Place) → p ≡ tails es q → PlaceFalls p
        back_falls q e =
            subst PlaceFalls (sym e)
            (subst (λ (m : ℕ). Below m (in_equations locals all new_names (below Equations new_places) (tails es q))) (sym (rank_back es (λ r. suc (ranked.rank (Observer ∷ Equations ∷ r))) line_rank q))
            (subst (Below (line_rank q)) (sym (back locals lines es new_names (below Equations new_places) q)) (lines_fall q)))

        by : (inside es p ≡ true) ⊎ (((q : Place) × (p ≡ tails es q)) ⊎ IsNowhere locals lines es p) → PlaceFalls p
        by (inl i) =
            let r = ranked.rank (Observer ∷ Equations ∷ p) in
            subst (λ (m : ℕ). Below m (in_equations locals all new_names (below Equations new_places) p)) (sym (rank_front es (λ q. suc (ranked.rank (Observer ∷ Equations ∷ q))) line_rank p i))
            (subst (Below (suc r)) (eqns_moved right p ∙ sym (front locals lines es new_names (below Equations new_places) p i)) (moved_lower r (in_block (block ds es) out places (Equations ∷ p)) (in_contract_falls (Equations ∷ p))))
        by (inr (inl q)) = back_falls q.0 q.1
        by (inr (inr f)) = subst (Below (rank (Body ∷ Equations ∷ p))) (sym (f new_names (below Equations new_places))) tt

    -- ---- names

    abbrev NameFalls : List ℕ → Bool → Bool → Type 0
    NameFalls x output defined =
        Below (name_rank output defined (ranked.rank (Observer ∷ Named x ∷ []))) (if defined then of_definitions locals es new_names (below Equations new_places) x else of_definitions locals (eqns_of lines) new_names behind_all x)

    own_falls : (x : List ℕ) → some_defines es x ≡ true → NameFalls x false true
    own_falls x e =
        let r = ranked.rank (Observer ∷ Named x ∷ []) in
        subst (Below (suc r)) (names_defined right x) (moved_lower r (in_block (block ds es) out places (Named x ∷ [])) (in_contract_falls (Named x ∷ [])))

    -- what a condition reads that a line defines
    condition_falls : (y : List ℕ) (o : Option Expr) (k : PlaceSources) → clock_in locals y ≡ [] → TellsOnBase standing o
        → Below (suc (suc ranked.bound)) (both (also (of_clock (clock_in locals y) new_names)) (of_expr (condition_of o c.span) new_names (mk goes k)))
    condition_falls y o k e h =
        (subst (λ (clock : Clock). Below (suc (suc ranked.bound)) (of_clock clock new_names)) (sym e) tt, told_bounded o c.span k h)

    line_name : (x : List ℕ) (output : Bool) → declares n.outputs x ≡ output → NameFalls x output false
    line_name x output o = by (bytes_eq assumed x) refl (bytes_eq enforced x) refl
      where
        not_output : (y : List ℕ) → (IsOther y → ⊥) → bytes_eq y x ≡ true → output ≡ false
        not_output y other e = sym o ∙ subst (λ z. declares n.outputs z ≡ false) (same_bytes y x e) (none_declared n.outputs y (outputs_other n c known) other)

        by : (a : Bool) → bytes_eq assumed x ≡ a → (g : Bool) → bytes_eq enforced x ≡ g
            → Below (name_rank output false (ranked.rank (Observer ∷ Named x ∷ [])))
            (if a || false then both (also (of_clock (clock_in locals assumed) new_names)) (of_expr (condition_of c.assume c.span) new_names (mk goes (below Assume only)))
            else (if g || false then both (also (of_clock (clock_in locals enforced) new_names)) (of_expr (condition_of c.enforce c.span) new_names (mk goes (below Enforce only)))
            else of_definitions locals (eqns_of (all_handed_on 0 n.outputs)) new_names (λ r. behind_all (Tail ∷ Tail ∷ r)) x))
        by true e g f =
            subst (λ (d : Bool). Below (name_rank d false (ranked.rank (Observer ∷ Named x ∷ []))) (both (also (of_clock (clock_in locals assumed) new_names)) (of_expr (condition_of c.assume c.span) new_names (mk goes (below Assume only)))))
            (sym (not_output assumed assumed_not_other e)) (condition_falls assumed c.assume (below Assume only) assumed_clock assumes)
        by false e true f =
            subst (λ (d : Bool). Below (name_rank d false (ranked.rank (Observer ∷ Named x ∷ []))) (both (also (of_clock (clock_in locals enforced) new_names)) (of_expr (condition_of c.enforce c.span) new_names (mk goes (below Enforce only)))))
            (sym (not_output enforced enforced_not_other f)) (condition_falls enforced c.enforce (below Enforce only) enforced_clock enforces)
        by false e false f = handed_definitions (λ z. rank z < name_rank output false (ranked.rank (Observer ∷ Named x ∷ []))) 0 n.outputs (λ r. behind_all (Tail ∷ Tail ∷ r)) x (λ y h. h)

    name_falls : (x : List ℕ) → Below (rank (Body ∷ Named x ∷ [])) (of_definitions locals all new_names (below Equations new_places) x)
    name_falls x =
        subst (Below (rank (Body ∷ Named x ∷ []))) (sym (split_definitions locals lines es new_names (below Equations new_places) x)) (by (some_defines es x) refl)
      where
        by : (b : Bool) → some_defines es x ≡ b → NameFalls x (declares n.outputs x) (some_defines es x)
        by true e =
            let no : declares n.outputs x ≡ false = local_no_output n c known ds es own inner x (eqn_local n c known ds es own inner x e) in
            subst (λ (d : Bool). NameFalls x (declares n.outputs x) d) (sym e) (subst (λ (d : Bool). NameFalls x d true) (sym no) (own_falls x e))
        by false e = subst (λ (d : Bool). NameFalls x (declares n.outputs x) d) (sym e) (line_name x (declares n.outputs x) refl)

    line_bounded : (q : Place) → line_rank q < suc (suc (suc (suc ranked.bound)))
    line_bounded (Head ∷ Right ∷ q) = let l = ranked.bounded (Assume ∷ q) in omega (arith, l)
    line_bounded (Tail ∷ Head ∷ Right ∷ q) = let l = ranked.bounded (Enforce ∷ q) in omega (arith, l)
    line_bounded q = omega arith

    rank_bounded : (p : Place) → rank p < suc (suc (suc (suc ranked.bound)))
    rank_bounded (Named x ∷ []) = omega arith
    rank_bounded (Body ∷ Named x ∷ []) = name_bounded (declares n.outputs x) (some_defines es x) (ranked.rank (Observer ∷ Named x ∷ [])) (ranked.bounded (Observer ∷ Named x ∷ []))
    rank_bounded (Body ∷ Equations ∷ p) =
        place_bounded es (λ q. suc (ranked.rank (Observer ∷ Equations ∷ q))) line_rank (suc (suc (suc (suc ranked.bound)))) (λ q. let l = ranked.bounded (Observer ∷ Equations ∷ q) in omega (arith, l)) line_bounded p
    rank_bounded p = omega arith

    abbrev observer : Node
    observer = record { name = n.name; span = n.span; inputs = n.inputs ++ inputs_for 0 n.outputs; outputs = outputs_at c.span; contract = None; body = block locals all }

    falls : (p : Place) → Within (λ q. rank q < rank p) (sources observer p)
    falls (Named x ∷ []) = by (declares (outputs_at c.span) x && some_defines all x)
      where
        by : (b : Bool) → Within (λ q. rank q < suc (suc (suc ranked.bound))) (if b then only (Body ∷ Named x ∷ []) else none)
        by true = name_below (declares n.outputs x) (some_defines es x) (ranked.rank (Observer ∷ Named x ∷ [])) (ranked.bounded (Observer ∷ Named x ∷ []))
        by false = tt
    falls (Body ∷ Named x ∷ []) = name_falls x
    falls (Body ∷ Equations ∷ p) = place_falls p
    falls p = tt

    pub observer_ranked : Ranked observer
    observer_ranked = record { rank = rank; bound = suc (suc (suc (suc ranked.bound))); bounded = rank_bounded; falls = falls }

-- ---- observers of nodes

module _ (n : Node) (c : Contract) (base : AllBase n.outputs) (known : (x : List ℕ) → IsTrue (interface n x) → IsOther x) (filled : AreDefined n.outputs (equations_of n.body)) (ranked : Ranked n) where
  body_ranked : (b : Block) → BlockScoped (interface n) no_names b → BlockNames IsOther b
      → ContractRight (λ x. on_base (declares n.inputs x || declares n.outputs x)) (Some (record c { body = b }))
      → ((p : Place) → Within (λ z. ranked.rank z < ranked.rank p) (in_contract (Some (record c { body = b })) (output_in n (below Body only)) only p))
      → Ranked (record { name = n.name; span = n.span; inputs = n.inputs ++ inputs_for 0 n.outputs; outputs = outputs_at c.span; contract = None; body = with_lines b n.outputs (lines_of n c) })
  body_ranked (block ds es) own inner right falls =
      observer_ranked n c base known filled ranked ds es own inner right.0.1 right.1 right.2 (λ p. falls (Observer ∷ p)) (λ q. falls (Assume ∷ q)) (λ q. falls (Enforce ∷ q))

pub observer_has_ranks : (n : Node) (c : Contract) → n.contract ≡ Some c → NodeScoped n → AllBase n.outputs → IsObservable n → ClocksRight n → Ranked n → Ranked (observer_of n c)
observer_has_ranks n c e scoped base o clocked ranked =
    let out = output_in n (below Body only) in
    let of_contract : (p : Place) → Within (λ z. ranked.rank z < ranked.rank p) (in_contract n.contract out only p) = λ p. contract_falls n ranked p in
    body_ranked n c base o.interface scoped.outputs ranked c.body (subst (ContractScoped (interface n)) e scoped.contract) (subst (ContractNames IsOther) e o.contract)
    (subst (ContractRight (λ x. on_base (declares n.inputs x || declares n.outputs x))) e clocked.contract)
    (λ p. subst (λ (k : Option Contract). Within (λ z. ranked.rank z < ranked.rank p) (in_contract k out only p)) e (of_contract p))

pub observers_have_ranks : (items : List Item) → EachNode (λ (n : Node). (c : Contract) → n.contract ≡ Some c → Ranked n → Ranked (observer_of n c)) items → IsRanked items → IsRanked (observers items)
observers_have_ranks [] h ranked = tt
observers_have_ranks (TypeItem t ∷ items) h ranked = observers_have_ranks items h ranked
observers_have_ranks (NodeItem n ∷ items) h ranked = by n.contract refl (observers_have_ranks items h.1 ranked.1)
  where
    by : (o : Option Contract) → n.contract ≡ o → IsRanked (observers items) → IsRanked (observer_if n o ++ observers items)
    by None e rest = rest
    by (Some c) e rest = (h.0 c e ranked.0, rest)
