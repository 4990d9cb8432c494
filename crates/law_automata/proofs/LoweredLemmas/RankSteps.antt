-- Ranks of all equations by one induction, of nodes and of programs.
use Rattle.std.proofs.Common.{◌≡◌, ℕ, ◌+◌, ◌*◌, ◌<◌, ◌≤◌, Bool, true, false, ◌&&◌, ◌||◌, if◌then◌else◌, List, [], ◌∷◌, map, Option, None, Some, option_map, refl, sym, subst, ◌∙◌, arith}
use Rattle.std.specs.Str.{bytes_eq}
use Rattle.hp_base.specs.declared.span.Span.{Span}
use Rattle.hp_tree.specs.declared.program.Item.{Item}
use Rattle.hp_tree.specs.declared.program.Item.TheVariants.{TypeItem, NodeItem}
use Rattle.hp_tree.specs.Expressions.{Expr}
use Rattle.hp_tree.specs.Blocks.{Decl, Block, block, Eqns, no_eqn, more_eqns, Eqn, define, switch, reset, automaton, Arms, no_arm, more_arms, States, no_state, more_states}
use Rattle.hp_tree.specs.Programs.{Contract, Node}
use Rattle.hp_tree.specs.Instant.{Controls, Body, Observer, Assume, Enforce, Named, Head, Tail, Until, Unless, Place}
use Rattle.hp_tree.specs.Meaning.{declares, some_defines, block_defines, states_define, controls_of}
use Rattle.hp_meaning.specs.Causal.Sources.{none, only, NameSources}
use Rattle.hp_meaning.specs.Causal.WhatIsRead.{at_expr, at_told, names_in_block, control_in, output_in, in_block, in_contract, in_node, has_equation}
use Rattle.hp_meaning.specs.Causal.Causality.{Ranked, IsRanked}
use Rattle.hp_automata.specs.Lowering.{Types, Enumerations, enumerations, same_name, lowered_body_of, lowered_contract, lowered_node, lowered_item, types_of}
use Rattle.law_automata.specs.Lowered.OldNames.{IsOld}
use Rattle.law_automata.specs.Lowered.Removable.{none_known, most, BlockOk, ConditionOk, ContractOk, NodeOk, IsRemovable}
use Rattle.law_automata.specs.Lowered.Laws.{NodeRanksLaw, RanksLaw}
use Rattle.law_automata.proofs.LoweredLemmas.Tests.{or_left, or_right}
use Rattle.law_automata.proofs.LoweredLemmas.Nodes.{itself, itself_renames, itself_undone}
use Rattle.law_automata.proofs.LoweredLemmas.RightBlocks.{RightAround, made_defines}
use Rattle.law_automata.proofs.LoweredLemmas.RightSteps.{controls_same, declared_old}
use Rattle.law_automata.proofs.LoweredLemmas.RankExpressions.{Below, below_more, Less, LessAll, at_less}
use Rattle.law_automata.proofs.LoweredLemmas.RankBlocks.{times_up, times_next, top, turns_block, Outside, EqnsRanked, EqnRanked, BlockRanked, BlockRanks, ArmsRanked, floor_top, place_less, define_ranks, block_ranks, arms_more}
use Rattle.law_automata.proofs.LoweredLemmas.RankControls.{switch_ranked, reset_ranked, more_ranked}
use Rattle.law_automata.proofs.LoweredLemmas.RankSwitches.{floor_below}
use Rattle.law_automata.proofs.LoweredLemmas.RankAutomata.{StatesRanked, state_more, automaton_ranked}

module _ (K D β : ℕ) (rank : Place → ℕ) (enums : Enumerations) (big : 6 * most + (2 * D + 40) ≤ K) where
  mutual
    eqns_ranked : (es : Eqns) → EqnsRanked K D β rank enums es
    eqns_ranked no_eqn outer d to ds ds' tys r un clocks names c i w X T more ok a falls defs own tops R = R
    eqns_ranked (more_eqns e es) outer d to ds ds' tys r un clocks names c i w X T more ok a falls defs own tops R =
        more_ranked K D β rank enums e es (eqn_ranked e) (eqns_ranked es) outer d to ds ds' tys r un clocks names c i w X T more ok a falls defs own tops R

    eqn_ranked : (e : Eqn) → EqnRanked K D β rank enums e
    eqn_ranked (define s ys e) outer d to ds ds' tys r un clocks names c i w X ok a falls defs own =
        define_ranks K D β rank enums tys r clocks s ys e ok names c i w X a falls (λ x q. ((defs x q).0, (defs x q).2))
    eqn_ranked (switch s e arms) outer d to ds ds' tys r un clocks names c i w X ok a falls defs own =
        switch_ranked K D β rank enums s e arms (arms_ranked arms) outer d to ds ds' tys r un clocks names c i w X ok a falls defs own
    eqn_ranked (reset s b e) outer d to ds ds' tys r un clocks names c i w X ok a falls defs own =
        reset_ranked K D β rank enums s b e (block_ranked b) outer d to ds ds' tys r un clocks names c i w X ok a falls defs own
    eqn_ranked (automaton s ss) outer d to ds ds' tys r un clocks names c i w X ok a falls defs own =
        automaton_ranked K D β rank enums big s ss (states_ranked ss) outer d to ds ds' tys r un clocks names c i w X ok a falls defs own

    block_ranked : (b : Block) → BlockRanked K D β rank enums b
    block_ranked (block ds es) outer d to xs o tys s out c i w a falls = block_ranks K D β rank enums ds es o tys s out c i w a falls (eqns_ranked es)

    arms_ranked : (arms : Arms) → ArmsRanked K D β rank enums arms
    arms_ranked no_arm outer d to xs r un ok own old tys names c i w a falls =
        ((λ p. top K D β rank enums), record { low = λ p. floor_top K D β rank enums a; high = λ p. omega arith }, λ after w' names' h less. ((λ p. tt), λ x o q m l g. tt))
    arms_ranked (more_arms v b s arms) outer d to xs r un ok own old tys names c i w a falls =
        arms_more K D β rank enums v b s arms (block_ranked b) (arms_ranked arms) outer d to xs r un ok own old tys names c i w a falls

    states_ranked : (ss : States) → StatesRanked K D β rank enums ss
    states_ranked no_state outer to f e names c i active Nx X I all tys k ok room sub turn w roof falls strong weak values =
        record { ranks = λ p. top K D β rank enums; between = record { low = λ p. floor_below K D β rank enums I; high = λ p. omega arith }; fall = λ locals base after w' inside h N known. ((λ p. tt), λ y q. absurd cc) }
    states_ranked (more_states q (block ds es) until unless place ss) outer to f e names c i active Nx X I all tys k ok room sub turn w roof falls strong weak values =
        state_more K D β rank enums active I all tys k (omega arith) ds es until unless (eqns_ranked es) ok.0.0 ok.0.1.0 ok.0.1.1 ok.0.2.0 ok.0.2.1 (λ x p. sub x (or_left (block_defines (block ds es) x) (states_define ss x) p)) (omega arith) (λ p. w (Head ∷ p)) (λ p. roof (Head ∷ p))
        (λ p. falls (Head ∷ Body ∷ p)) (λ p. falls (Head ∷ Until ∷ p)) (λ p. falls (Head ∷ Unless ∷ p)) strong.0 weak.0 (λ x p. (values x p).0) q place ss
        (states_ranked ss outer to f e names c i active Nx X I all tys (k + 1) ok.1 (omega arith) (λ x p. sub x (or_right (block_defines (block ds es) x) (states_define ss x) p)) (omega arith) (λ p. w (Tail ∷ p)) (λ p. roof (Tail ∷ p))
        (λ p. falls (Tail ∷ p)) strong.1 weak.1 (λ x p. (values x p).1))

-- ---- nodes

-- room for the words of an automaton between two ranks
abbrev room_for : ℕ → ℕ
room_for D = 6 * most + (2 * D + 40)

abbrev turns_contract : Option Contract → ℕ
turns_contract None = 0
turns_contract (Some c) = turns_block c.body

-- the ranks of a contract's block, in front of others
abbrev of_observer : (Place → ℕ) → (Place → ℕ) → Place → ℕ
of_observer r q (Observer ∷ p) = r p
of_observer r q p = q p

module _ (D β : ℕ) (rank : Place → ℕ) (roof : (p : Place) → rank p < β) (enums : Enumerations) (tys : Types) where
  abbrev K : ℕ
  K = room_for D

  abbrev Top : ℕ
  Top = top K D β rank enums

  -- a place that stays
  abbrev stays_at : Place → ℕ
  stays_at p = K * rank p + K

  stays_high : (p : Place) → stays_at p ≤ Top
  stays_high p = let up : K * rank p ≤ K * β = times_up K (rank p) β (let r = roof p in omega arith) in omega arith

  -- what is read of a place that stays
  stays_below : (after : Place → ℕ) (p : Place) → after p ≡ stays_at p → Less K rank after 0 0 (only p) (only p)
  stays_below after p h m l q =
      let up : K * (rank p + 1) ≤ K * m = times_up K (rank p + 1) m (omega arith) in
      let next : K * (rank p + 1) ≡ K * rank p + K = times_next K (rank p) in omega arith

  control_less : (after : Place → ℕ) (ds : List Decl) (w : Place → Place) → ((p : Place) → after (w p) ≡ stays_at (w p)) → (x : List ℕ) → Less K rank after 0 0 (control_in ds (λ q. only (w q)) x) (control_in ds (λ q. only (w q)) x)
  control_less after [] w h x m l q = tt
  control_less after (d ∷ ds) w h x m l q = by (bytes_eq d.name x) (control_less after ds (λ p. w (Tail ∷ p)) (λ p. h (Tail ∷ p)) x m l) q
    where
      by : (t : Bool) → (Below rank m (control_in ds (λ q. only (w (Tail ∷ q))) x) → Below after (K * m + 0 + 1) (control_in ds (λ q. only (w (Tail ∷ q))) x))
          → Below rank m (if t then only (w (Head ∷ [])) else control_in ds (λ q. only (w (Tail ∷ q))) x) → Below after (K * m + 0 + 1) (if t then only (w (Head ∷ [])) else control_in ds (λ q. only (w (Tail ∷ q))) x)
      by true r g = stays_below after (w (Head ∷ [])) (h (Head ∷ [])) m l g
      by false r g = r g

  -- a block of its own
  own_outside : (b : Block) → BlockOk none_known 0 b → Outside K D β rank enums none_known 0 same_name [] b
  own_outside b ok = record { renames = itself_renames; undone = itself_undone; ok = ok; own = λ x q. absurd cc; old = λ x q. absurd cc }

  own_ranks : (s : Span) (b : Block) → BlockOk none_known 0 b → turns_block b ≤ D → (out : NameSources) (w : Place → Place) → ((p : Place) → Below rank (rank (w p)) (in_block b out (λ q. only (w q)) p)) → BlockRanks K D β rank enums 0 same_name tys s [] b out 0 0 w
  own_ranks s b ok turn out w falls =
      block_ranked K D β rank enums (omega arith) b none_known 0 same_name [] (own_outside b ok) tys s out 0 0 w (record { high = λ p. omega arith; roof = λ p. roof (w p); turn = omega arith; room = omega arith }) falls

  -- such a block has equations for the same names
  has_same : (s : Span) (b : Block) → BlockOk none_known 0 b → (x : List ℕ) → IsOld x → has_equation (lowered_body_of enums tys s b) x ≡ has_equation b x
  has_same s (block ds es) ok x o =
      made_defines enums tys s around x o ∙ no_more (some_defines es x)
    where
      around : RightAround none_known 0 same_name [] (block ds es) (λ y. None) (λ y. None)
      around = record { renames = itself_renames; undone = itself_undone; ok = ok; own = λ y q. absurd cc; old = λ y q. absurd cc; out_same = λ y p q. refl; kept_base = λ y q. absurd cc }

      no_more : (t : Bool) → (t || false) ≡ t
      no_more true = refl
      no_more false = refl

  -- its names, read from elsewhere
  block_names_less : (s : Span) (b : Block) → BlockOk none_known 0 b → (out out' : NameSources) (w : Place → Place) (R : BlockRanks K D β rank enums 0 same_name tys s [] b out 0 0 w) (after : Place → ℕ) → ((p : Place) → after (w p) ≡ R.ranks p)
      → ((x : List ℕ) → IsOld x → Less K rank after 0 0 (out x) (out' x)) → (x : List ℕ) → IsOld x → Less K rank after 0 0 (names_in_block b out (λ q. only (w q)) x) (names_in_block (lowered_body_of enums tys s b) out' (λ q. only (w q)) x)
  block_names_less s (block ds es) ok out out' w R after h less x o =
      subst (λ t. Less K rank after 0 0 (if some_defines es x then only (w (Named x ∷ [])) else out x) (if t then only (w (Named x ∷ [])) else out' x)) (sym (has_same s (block ds es) ok x o)) (by (some_defines es x) refl)
    where
      by : (t : Bool) → some_defines es x ≡ t → Less K rank after 0 0 (if t then only (w (Named x ∷ [])) else out x) (if t then only (w (Named x ∷ [])) else out' x)
      by true q = stays_below after (w (Named x ∷ [])) (h (Named x ∷ []) ∙ R.named x o q)
      by false q = less x o

  -- ---- a contract

  record ContractRanks (c : Option Contract) (out : NameSources) : Type 0 where
    ranks : Place → ℕ
    high : (p : Place) → ranks p ≤ Top
    controls : (p : Place) → ranks (Controls ∷ p) ≡ stays_at (Controls ∷ p)
    fall : (after : Place → ℕ) (out' : NameSources) → ((p : Place) → after (Observer ∷ p) ≡ ranks (Observer ∷ p)) → ((p : Place) → after (Assume ∷ p) ≡ ranks (Assume ∷ p)) → ((p : Place) → after (Enforce ∷ p) ≡ ranks (Enforce ∷ p))
        → ((x : List ℕ) → IsOld x → Less K rank after 0 0 (out x) (out' x)) → (p : Place) → Below after (ranks p) (in_contract (option_map (lowered_contract enums tys) c) out' only p)

  -- an expression of it
  told_falls : (after : Place → ℕ) (e : Option Expr) → ConditionOk e → (names names' : NameSources) → ((x : List ℕ) → IsOld x → Less K rank after 0 0 (names x) (names' x)) → (w : Place → Place) → ((p : Place) → after (w p) ≡ stays_at (w p)) → (p : Place)
      → Below rank (rank (w p)) (at_told e names (λ q. only (w q)) p) → Below after (stays_at (w p)) (at_told e names' (λ q. only (w q)) p)
  told_falls after None ok names names' same w h p g = tt
  told_falls after (Some e) ok names names' same w h p g =
      let less : LessAll K rank after 0 0 (λ q. only (w q)) (λ q. only (w q)) = place_less K D β rank enums 0 0 after w w (λ q. stays_at (w q)) h (λ q. refl) in
      below_more after (K * rank (w p) + 0 + 1) (stays_at (w p)) (omega arith) (at_expr e [] names' (λ q. only (w q)) p)
      (subst (λ z. Below after (K * rank (w p) + 0 + 1) (at_expr z [] names' (λ q. only (w q)) p)) (itself e)
      (at_less K rank after 0 0 same_name names names' same e ok [] tt (λ q. only (w q)) (λ q. only (w q)) less p (rank (w p)) (omega arith) g))

  contract_ranked : (c : Option Contract) → ContractOk c → turns_contract c ≤ D → (out : NameSources) → ((p : Place) → Below rank (rank p) (in_contract c out only p)) → ContractRanks c out
  contract_ranked None ok turn out falls = record { ranks = stays_at; high = stays_high; controls = λ p. refl; fall = λ after out' g a e less p. tt }
  contract_ranked (Some c) ok turn out falls =
      record {
        ranks = of_observer observer.ranks stays_at;
        high = high;
        controls = λ p. refl;
        fall = λ after out' g a e less p. places after out' g a e less p;
      }
    where
      observer : BlockRanks K D β rank enums 0 same_name tys c.span [] c.body out 0 0 (λ p. Observer ∷ p)
      observer = own_ranks c.span c.body ok.0 turn out (λ p. Observer ∷ p) (λ p. falls (Observer ∷ p))

      high : (p : Place) → of_observer observer.ranks stays_at p ≤ Top
      high (Observer ∷ p) = observer.between.high p
      high p = stays_high p

      places : (after : Place → ℕ) (out' : NameSources) → ((p : Place) → after (Observer ∷ p) ≡ observer.ranks p) → ((p : Place) → after (Assume ∷ p) ≡ stays_at (Assume ∷ p)) → ((p : Place) → after (Enforce ∷ p) ≡ stays_at (Enforce ∷ p))
          → ((x : List ℕ) → IsOld x → Less K rank after 0 0 (out x) (out' x)) → (p : Place) → Below after (of_observer observer.ranks stays_at p) (in_contract (Some (lowered_contract enums tys c)) out' only p)
      places after out' g a e less (Observer ∷ p) = observer.fall after (λ q. Observer ∷ q) out' g (λ x o q. less x o) p
      places after out' g a e less (Assume ∷ p) =
          told_falls after c.assume ok.1 (names_in_block c.body out (λ q. only (Observer ∷ q))) (names_in_block (lowered_body_of enums tys c.span c.body) out' (λ q. only (Observer ∷ q)))
          (block_names_less c.span c.body ok.0 out out' (λ q. Observer ∷ q) observer after g less) (λ q. Assume ∷ q) a p (falls (Assume ∷ p))
      places after out' g a e less (Enforce ∷ p) =
          told_falls after c.enforce ok.2 (names_in_block c.body out (λ q. only (Observer ∷ q))) (names_in_block (lowered_body_of enums tys c.span c.body) out' (λ q. only (Observer ∷ q)))
          (block_names_less c.span c.body ok.0 out out' (λ q. Observer ∷ q) observer after g less) (λ q. Enforce ∷ q) e p (falls (Enforce ∷ p))
      places after out' g a e less p = tt

-- ---- a node

module _ (enums : Enumerations) (n : Node) (ok : NodeOk n) (R : Ranked n) where
  abbrev D : ℕ
  D = turns_block n.body + turns_contract n.contract

  abbrev tys : Types
  tys = types_of n

  abbrev out : NameSources
  out = control_in (controls_of n.contract) (λ q. only (Controls ∷ q))

  abbrev seen : NameSources
  seen = output_in n (λ q. only (Body ∷ q))

  body_made : BlockRanks (room_for D) D R.bound R.rank enums 0 same_name tys n.span [] n.body out 0 0 (λ p. Body ∷ p)
  body_made = own_ranks D R.bound R.rank R.bounded enums tys n.span n.body ok.body (omega arith) out (λ p. Body ∷ p) (λ p. R.falls (Body ∷ p))

  contract_made : ContractRanks D R.bound R.rank R.bounded enums tys n.contract seen
  contract_made = contract_ranked D R.bound R.rank R.bounded enums tys n.contract ok.contract (omega arith) seen before
    where
      before : (p : Place) → Below R.rank (R.rank p) (in_contract n.contract seen only p)
      before (Named x ∷ []) = by n.contract
        where
          by : (c : Option Contract) → Below R.rank (R.rank (Named x ∷ [])) (in_contract c seen only (Named x ∷ []))
          by None = tt
          by (Some c) = tt
      before (Body ∷ p) = by n.contract
        where
          by : (c : Option Contract) → Below R.rank (R.rank (Body ∷ p)) (in_contract c seen only (Body ∷ p))
          by None = tt
          by (Some c) = tt
      before p = R.falls p

  abbrev rank : Place → ℕ
  rank (Named x ∷ []) = room_for D * R.rank (Named x ∷ []) + room_for D
  rank (Body ∷ p) = body_made.ranks p
  rank p = contract_made.ranks p

  low : Node
  low = lowered_node enums n

  control_kept : (x : List ℕ) → IsOld x → Less (room_for D) R.rank rank 0 0 (out x) (control_in (controls_of (lowered_node enums n).contract) (λ q. only (Controls ∷ q)) x)
  control_kept x o =
      subst (λ cs. Less (room_for D) R.rank rank 0 0 (out x) (control_in cs (λ q. only (Controls ∷ q)) x)) (sym (controls_same enums tys n.contract))
      (control_less D R.bound R.rank R.bounded enums tys rank (controls_of n.contract) (λ q. Controls ∷ q) (λ p. contract_made.controls p) x)

  seen_kept : (x : List ℕ) → IsOld x → Less (room_for D) R.rank rank 0 0 (seen x) (output_in (lowered_node enums n) (λ q. only (Body ∷ q)) x)
  seen_kept x o =
      subst (λ t. Less (room_for D) R.rank rank 0 0 (seen x) (if declares n.outputs x && t then only (Body ∷ Named x ∷ []) else none)) (sym (has_same D R.bound R.rank R.bounded enums tys n.span n.body ok.body x o)) (by (declares n.outputs x) (has_equation n.body x) refl)
    where
      by : (t q : Bool) → has_equation n.body x ≡ q → Less (room_for D) R.rank rank 0 0 (if t && q then only (Body ∷ Named x ∷ []) else none) (if t && q then only (Body ∷ Named x ∷ []) else none)
      by true true g = stays_below D R.bound R.rank R.bounded enums tys rank (Body ∷ Named x ∷ []) (body_made.named x o g)
      by true false g = λ m l z. tt
      by false q g = λ m l z. tt

  output_falls : (x : List ℕ) → Below rank (rank (Named x ∷ [])) (output_in (lowered_node enums n) (λ q. only (Body ∷ q)) x)
  output_falls x = by (declares n.outputs x) refl
    where
      by : (t : Bool) → declares n.outputs x ≡ t → Below rank (rank (Named x ∷ [])) (if t && has_equation (lowered_body_of enums tys n.span n.body) x then only (Body ∷ Named x ∷ []) else none)
      by true q =
          subst (λ t. Below rank (rank (Named x ∷ [])) (if t && has_equation (lowered_body_of enums tys n.span n.body) x then only (Body ∷ Named x ∷ []) else none)) q
          (below_more rank (room_for D * R.rank (Named x ∷ []) + 0 + 1) (rank (Named x ∷ [])) (omega arith) (output_in (lowered_node enums n) (λ p. only (Body ∷ p)) x)
          (seen_kept x (declared_old enums n.outputs ok.outputs x q) (R.rank (Named x ∷ [])) (omega arith) (R.falls (Named x ∷ []))))
      by false q = tt

  node_ranked : Ranked (lowered_node enums n)
  node_ranked = record { rank = rank; bound = top (room_for D) D R.bound R.rank enums + 1; bounded = λ p. bounded p; falls = λ p. falls p }
    where
      bounded : (p : Place) → rank p < top (room_for D) D R.bound R.rank enums + 1
      bounded (Named x ∷ []) = let h = stays_high D R.bound R.rank R.bounded enums tys (Named x ∷ []) in omega arith
      bounded (Body ∷ p) = let h = body_made.between.high p in omega arith
      bounded p = let h = contract_made.high p in omega arith

      falls : (p : Place) → Below rank (rank p) (in_node (lowered_node enums n) only p)
      falls (Named x ∷ []) = output_falls x
      falls (Body ∷ p) =
          body_made.fall rank (λ q. Body ∷ q) (control_in (controls_of (lowered_node enums n).contract) (λ q. only (Controls ∷ q))) (λ q. refl) (λ x o q. control_kept x o) p
      falls p = contract_made.fall rank (output_in (lowered_node enums n) (λ q. only (Body ∷ q))) (λ q. refl) (λ q. refl) (λ q. refl) seen_kept p

items_ranked : (enums : Enumerations) (items : List Item) → IsRemovable items → IsRanked items → IsRanked (map (lowered_item enums) items)
items_ranked enums [] ok h = tt
items_ranked enums (TypeItem t ∷ items) ok h = items_ranked enums items ok h
items_ranked enums (NodeItem n ∷ items) ok h = (node_ranked enums n ok.0 h.0, items_ranked enums items ok.1 h.1)

pub node_ranks_law : NodeRanksLaw
node_ranks_law enums n ok h = node_ranked enums n ok h

pub ranks_law : RanksLaw
ranks_law program ok h = items_ranked (enumerations [] program) program ok h
