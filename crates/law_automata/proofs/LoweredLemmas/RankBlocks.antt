-- Ranks of blocks, equations and arms afterwards, made of ranks before.
use Rattle.std.proofs.Common.{◌≡◌, ℕ, ◌+◌, ◌*◌, ◌<◌, ◌≤◌, nat_lt, Bool, true, false, not, ◌&&◌, ◌||◌, if◌then◌else◌, List, [], ◌∷◌, ◌++◌, map, refl, sym, ap, subst, ◌∙◌, arith}
use Rattle.std.specs.Prelude.{◌⊎◌, ⊤}
use Rattle.std.specs.Str.{bytes_eq}
use Rattle.std.proofs.lemmas.Bool.Decides.{nat_tests}
use Rattle.hp_base.specs.declared.span.Span.{Span}
use Rattle.hp_tree.specs.Expressions.{Expr}
use Rattle.hp_tree.specs.Blocks.{Decl, Block, block, Eqns, no_eqn, more_eqns, Eqn, define, switch, reset, automaton, Arms, no_arm, more_arms, States, no_state, more_states, eqns_of}
use Rattle.hp_tree.specs.Instant.{Named, Body, Equations, Head, Tail, Right, Test, Arms as ArmsOf, Place}
use Rattle.hp_tree.specs.Meaning.{defines, some_defines, block_defines, clock_in, clock_of, declares}
use Rattle.hp_meaning.specs.Causal.Sources.{Sources, none, only, both, also, NameSources, PlaceSources, below}
use Rattle.hp_meaning.specs.Causal.WhatIsRead.{of_clock, of_expr, at_expr, names_in, in_arms, of_definition, of_definitions, in_block, in_equations, in_equation, in_each_arm, has_equation}
use Rattle.hp_tables.specs.Defining.Names.{outer_names}
use Rattle.hp_automata.specs.Names.{is_name, missing}
use Rattle.hp_automata.specs.Renaming.{renamed, renamed_left, renamed_decls}
use Rattle.hp_automata.specs.Lowering.{Types, Enumerations, declaring, kept, all_kept, lowered_block, lowered_eqns, lowered_eqn, lowered_arms}
use Rattle.law_automata.specs.Lowered.OldNames.{IsOld}
use Rattle.law_automata.specs.Lowered.Removable.{Known, BlockOk, EqnsOk, EqnOk, ArmsOk}
use Rattle.law_automata.proofs.LoweredLemmas.Tests.{or_left, or_right, or_none, or_first, or_second, or_cases, and_first, true_false}
use Rattle.law_automata.proofs.LoweredLemmas.Renaming.{Renames}
use Rattle.law_automata.proofs.LoweredLemmas.Lookups.{with_names}
use Rattle.law_automata.proofs.LoweredLemmas.BlockMaking.{ClocksSame, clock_same, clock_of_old}
use Rattle.law_automata.proofs.LoweredLemmas.Around.{Undone}
use Rattle.law_automata.proofs.LoweredLemmas.RankExpressions.{Below, below_more, Less, LessAll, clock_less, of_less, at_less}

-- ---- numbers

pub times_up : (K a b : ℕ) → a ≤ b → K * a ≤ K * b
times_up K a b h = grind (arith)

pub times_next : (K a : ℕ) → K * (a + 1) ≡ K * a + K
times_next K a = grind (arith)

abbrev pub greater : ℕ → ℕ → ℕ
greater a b = if nat_lt a b then b else a

pub greater_left : (a b : ℕ) → a ≤ greater a b
greater_left a b = by (nat_lt a b) refl
  where
    by : (t : Bool) → nat_lt a b ≡ t → a ≤ (if t then b else a)
    by true e = grind (arith, nat_tests)
    by false e = omega arith

pub greater_right : (a b : ℕ) → b ≤ greater a b
greater_right a b = by (nat_lt a b) refl
  where
    by : (t : Bool) → nat_lt a b ≡ t → b ≤ (if t then b else a)
    by true e = omega arith
    by false e = grind (arith, nat_tests)

pub greater_least : (a b m : ℕ) → a ≤ m → b ≤ m → greater a b ≤ m
greater_least a b m h g = by (nat_lt a b)
  where
    by : (t : Bool) → (if t then b else a) ≤ m
    by true = g
    by false = h

-- the least number above the ranks of some sources
abbrev pub height : (Place → ℕ) → Sources → ℕ
height rank none = 0
height rank (only q) = rank q + 1
height rank (both s t) = greater (height rank s) (height rank t)
height rank (also s) = height rank s

pub height_below : (rank : Place → ℕ) (s : Sources) → Below rank (height rank s) s
height_below rank none = tt
height_below rank (only q) = omega arith
height_below rank (both s t) =
    (below_more rank (height rank s) _ (greater_left (height rank s) (height rank t)) s (height_below rank s), below_more rank (height rank t) _ (greater_right (height rank s) (height rank t)) t (height_below rank t))
height_below rank (also s) = height_below rank s

pub height_least : (rank : Place → ℕ) (m : ℕ) (s : Sources) → Below rank m s → height rank s ≤ m
height_least rank m none h = omega arith
height_least rank m (only q) h = omega arith
height_least rank m (both s t) h = greater_least (height rank s) (height rank t) m (height_least rank m s h.0) (height_least rank m t h.1)
height_least rank m (also s) h = height_least rank m s h

-- how many control equations turn within one another, at most
abbrev mutual
  pub turns_block : Block → ℕ
  turns_block (block ds es) = turns_all es

  pub turns_all : Eqns → ℕ
  turns_all no_eqn = 0
  turns_all (more_eqns e es) = turns e + turns_all es

  pub turns : Eqn → ℕ
  turns (define s ys e) = 0
  turns (switch s e arms) = turns_arms arms + 1
  turns (reset s b e) = turns_block b + 1
  turns (automaton s ss) = turns_states ss

  pub turns_arms : Arms → ℕ
  turns_arms no_arm = 0
  turns_arms (more_arms c b s arms) = turns_block b + turns_arms arms

  pub turns_states : States → ℕ
  turns_states no_state = 0
  turns_states (more_states f b until unless s ss) = turns_block b + turns_states ss

-- ---- ranks of parts

abbrev pub of_right : (Place → ℕ) → ℕ → Place → ℕ
of_right r top (Right ∷ p) = r p
of_right r top p = top

abbrev pub of_row : (Place → ℕ) → (Place → ℕ) → ℕ → Place → ℕ
of_row r q top (Head ∷ p) = r p
of_row r q top (Tail ∷ p) = q p
of_row r q top p = top

abbrev pub of_block : (List ℕ → ℕ) → (Place → ℕ) → ℕ → Place → ℕ
of_block named r top (Named y ∷ []) = named y
of_block named r top (Equations ∷ p) = r p
of_block named r top p = top

abbrev pub of_arms : (Place → ℕ) → (Place → ℕ) → ℕ → Place → ℕ
of_arms r q top (Test ∷ p) = r p
of_arms r q top (ArmsOf ∷ p) = q p
of_arms r q top p = top

abbrev pub of_body : (Place → ℕ) → (Place → ℕ) → ℕ → Place → ℕ
of_body r q top (Test ∷ p) = r p
of_body r q top (Body ∷ p) = q p
of_body r q top p = top

-- where nothing is defined nothing is read
pub nothing_defined : (after : Place → ℕ) (m : ℕ) (ds : List Decl) (es : Eqns) (names : NameSources) (k : PlaceSources) (y : List ℕ) → some_defines es y ≡ false → Below after m (of_definitions ds es names k y)
nothing_defined after m ds no_eqn names k y h = tt
nothing_defined after m ds (more_eqns e es) names k y h =
    subst (λ t. Below after m (if t then of_definition ds e names (below Head k) y else of_definitions ds es names (below Tail k) y)) (sym (or_first (defines e y) (some_defines es y) h))
    (nothing_defined after m ds es names (below Tail k) y (or_second (defines e y) (some_defines es y) h))

module _ (K D β : ℕ) (rank : Place → ℕ) (enums : Enumerations) where
  abbrev pub top : ℕ
  top = K * β + K

  -- ranks between a floor and the top
  pub record Between (floor : ℕ) (r : Place → ℕ) : Type 0 where
    pub low : (p : Place) → floor ≤ r p
    pub high : (p : Place) → r p ≤ top

  right_between : (floor : ℕ) (r : Place → ℕ) → floor ≤ top → Between floor r → Between floor (of_right r top)
  right_between floor r l b = record { low = low; high = high }
    where
      low : (p : Place) → floor ≤ of_right r top p
      low (Right ∷ p) = b.low p
      low p = l

      high : (p : Place) → of_right r top p ≤ top
      high (Right ∷ p) = b.high p
      high p = omega arith

  -- ---- what is shown

  -- ranks of what stands for an equation; X has the ranks before of the names that it defines
  pub record EqnRanks (d : ℕ) (to : List ℕ → List ℕ) (ds' : List Decl) (tys : Types) (e : Eqn) (names : NameSources) (c i : ℕ) (X : List ℕ → ℕ) : Type 0 where
    pub ranks : Place → ℕ
    pub between : Between (K * c + i) ranks
    pub fall : (after : Place → ℕ) (w' : Place → Place) (names' : NameSources) → ((p : Place) → after (w' p) ≡ ranks p) → ((x : List ℕ) → IsOld x → Less K rank after c i (names x) (names' (to x)))
        → ((p : Place) → Below after (ranks p) (in_equation ds' (lowered_eqn enums to tys d e) names' (λ q. only (w' q)) p))
        × ((x : List ℕ) → IsOld x → defines e x ≡ true → Below after (K * X x + K) (of_definition ds' (lowered_eqn enums to tys d e) names' (λ q. only (w' q)) (to x)))

  -- of equations in a row; T has the ranks afterwards of the names that they define
  pub record RowRanks (to : List ℕ → List ℕ) (ds' : List Decl) (es' : List Eqn) (names : NameSources) (c i : ℕ) (T : List ℕ → ℕ) : Type 0 where
    pub ranks : Place → ℕ
    pub between : Between (K * c + i) ranks
    pub fall : (after : Place → ℕ) (w' : Place → Place) (names' : NameSources) → ((p : Place) → after (w' p) ≡ ranks p) → ((x : List ℕ) → IsOld x → Less K rank after c i (names x) (names' (to x)))
        → ((p : Place) → Below after (ranks p) (in_equations ds' (eqns_of es') names' (λ q. only (w' q)) p))
        × ((y : List ℕ) → some_defines (eqns_of es') y ≡ true → Below after (T y) (of_definitions ds' (eqns_of es') names' (λ q. only (w' q)) y))

  pub record BlockRanks (d : ℕ) (to : List ℕ → List ℕ) (tys : Types) (s : Span) (xs : List (List ℕ)) (b : Block) (out : NameSources) (c i : ℕ) (w : Place → Place) : Type 0 where
    pub ranks : Place → ℕ
    pub between : Between (K * c + i) ranks
    pub named : (x : List ℕ) → IsOld x → has_equation b x ≡ true → ranks (Named (to x) ∷ []) ≡ K * rank (w (Named x ∷ [])) + K
    pub left : (x : List ℕ) → IsOld x → has_equation b x ≡ false → ranks (Named (to x) ∷ []) ≡ K * c + i
    pub fall : (after : Place → ℕ) (w' : Place → Place) (out' : NameSources) → ((p : Place) → after (w' p) ≡ ranks p)
        → ((x : List ℕ) → IsOld x → with_names xs b x ≡ false → Less K rank after c i (out x) (out' (to x)))
        → (p : Place) → Below after (ranks p) (in_block (lowered_block enums to tys d s xs b) out' (λ q. only (w' q)) p)

  -- what is known of the places of a part before
  pub record Around (c i turns : ℕ) (w : Place → Place) : Type 0 where
    pub high : (p : Place) → c ≤ rank (w p)
    pub roof : (p : Place) → rank (w p) < β
    pub turn : i + turns ≤ D
    pub room : D + 2 ≤ K

  module _ {c i turns : ℕ} {w : Place → Place} (a : Around c i turns w) where
    pub floor_top : K * c + i ≤ top
    floor_top =
        let below : c < β = (let h = a.high [] in let g = a.roof [] in omega arith) in
        let up : K * c ≤ K * β = times_up K c β (omega arith) in
        let t = a.turn in let r = a.room in omega arith

    -- the rank of a place that stays
    pub same_rank : Place → ℕ
    same_rank p = K * rank (w p) + K

    pub same_between : Between (K * c + i) same_rank
    unfolding same_rank
    same_between = record {
      low = λ p. let up : K * c ≤ K * rank (w p) = times_up K c (rank (w p)) (a.high p) in let t = a.turn in let r = a.room in omega arith;
      high = λ p. let up : K * (rank (w p)) ≤ K * β = times_up K (rank (w p)) β (let g = a.roof p in omega arith) in omega arith;
    }

    pub same_rank_is : (p : Place) → same_rank p ≡ K * rank (w p) + K
    unfolding same_rank
    same_rank_is p = refl

    -- what is read before the rank m is read below the next one
    pub next_below : (after : Place → ℕ) (m : ℕ) (t : Sources) → Below after (K * m + i + 1) t → Below after (K * m + K) t
    next_below after m t h = below_more after (K * m + i + 1) (K * m + K) (let q = a.turn in let r = a.room in omega arith) t h

  pub place_less : (c i : ℕ) (after : Place → ℕ) (w w' : Place → Place) (r : Place → ℕ) → ((p : Place) → after (w' p) ≡ r p) → ((p : Place) → r p ≡ K * rank (w p) + K) → LessAll K rank after c i (λ q. only (w q)) (λ q. only (w' q))
  place_less c i after w w' r h g p m l q =
      let up : K * (rank (w p) + 1) ≤ K * m = times_up K (rank (w p) + 1) m (omega arith) in
      let next : K * (rank (w p) + 1) ≡ K * rank (w p) + K = times_next K (rank (w p)) in
      let is : after (w' p) ≡ K * rank (w p) + K = h p ∙ g p in
      omega arith

  -- ---- an equation of names

  pub define_ranks : {outer : Known} {d : ℕ} {to : List ℕ → List ℕ} {ds ds' : List Decl} (tys : Types) (r : Renames outer d to) (clocks : ClocksSame to ds ds') (s : Span) (ys : List (List ℕ × Span)) (e : Expr) (ok : EqnOk outer d (define s ys e)) (names : NameSources) (c i : ℕ) (w : Place → Place) (X : List ℕ → ℕ)
      → Around c i 0 w → ((p : Place) → Below rank (rank (w p)) (in_equation ds (define s ys e) names (λ q. only (w q)) p))
      → ((x : List ℕ) → defines (define s ys e) x ≡ true → (c ≤ X x) × Below rank (X x) (of_definition ds (define s ys e) names (λ q. only (w q)) x)) → EqnRanks d to ds' tys (define s ys e) names c i X
  define_ranks {outer} {d} {to} {ds} {ds'} tys r clocks s ys e ok names c i w X a falls defs =
      let inner : Around c i 0 (λ p. w (Right ∷ p)) = record { high = λ p. a.high (Right ∷ p); roof = λ p. a.roof (Right ∷ p); turn = a.turn; room = a.room } in
      record {
        ranks = of_right (same_rank inner) top;
        between = right_between (K * c + i) (same_rank inner) (floor_top a) (same_between inner);
        fall = λ after w' names' h same.
            let less : LessAll K rank after c i (λ q. only (w (Right ∷ q))) (λ q. only (w' (Right ∷ q))) =
            place_less c i after (λ q. w (Right ∷ q)) (λ q. w' (Right ∷ q)) (same_rank inner) (λ p. h (Right ∷ p)) (same_rank_is inner) in (
              places after w' names' same less,
              (λ x o q.
                  let d0 = defs x q in
                  next_below a after (X x) (both (also (of_clock (clock_of ds' (renamed_left to ys) (renamed to e)) names')) (of_expr (renamed to e) names' (λ p. only (w' (Right ∷ p)))))
                  (subst (λ ck. Below after (K * X x + i + 1) (both (also (of_clock ck names')) (of_expr (renamed to e) names' (λ p. only (w' (Right ∷ p)))))) (sym (clock_same to ds ds' clocks ys e ok.0 ok.1)) (
                    clock_less K rank after c i to names names' same (clock_of ds ys e) (clock_of_old to ds ds' clocks ys e ok.1) (X x) d0.0 d0.1.0,
                    of_less K rank after c i to names names' same e ok.1 (λ p. only (w (Right ∷ p))) (λ p. only (w' (Right ∷ p))) less (X x) d0.0 d0.1.1,
                  ))),
            );
      }
    where
      inner' : Around c i 0 (λ p. w (Right ∷ p))
      inner' = record { high = λ p. a.high (Right ∷ p); roof = λ p. a.roof (Right ∷ p); turn = a.turn; room = a.room }

      places : (after : Place → ℕ) (w' : Place → Place) (names' : NameSources) → ((x : List ℕ) → IsOld x → Less K rank after c i (names x) (names' (to x)))
          → LessAll K rank after c i (λ q. only (w (Right ∷ q))) (λ q. only (w' (Right ∷ q)))
          → (p : Place) → Below after (of_right (same_rank inner') top p) (in_equation ds' (define s (renamed_left to ys) (renamed to e)) names' (λ q. only (w' q)) p)
      places after w' names' same less (Right ∷ p) =
          subst (λ n. Below after n (at_expr (renamed to e) (clock_of ds' (renamed_left to ys) (renamed to e)) names' (λ q. only (w' (Right ∷ q))) p)) (sym (same_rank_is inner' p))
          (next_below a after (rank (w (Right ∷ p))) (at_expr (renamed to e) (clock_of ds' (renamed_left to ys) (renamed to e)) names' (λ q. only (w' (Right ∷ q))) p)
          (subst (λ ck. Below after (K * rank (w (Right ∷ p)) + i + 1) (at_expr (renamed to e) ck names' (λ q. only (w' (Right ∷ q))) p)) (sym (clock_same to ds ds' clocks ys e ok.0 ok.1))
          (at_less K rank after c i to names names' same e ok.1 (clock_of ds ys e) (clock_of_old to ds ds' clocks ys e ok.1) (λ q. only (w (Right ∷ q))) (λ q. only (w' (Right ∷ q))) less p (rank (w (Right ∷ p))) (a.high (Right ∷ p)) (falls (Right ∷ p)))))
      places after w' names' same less p = tt

  -- ---- rows

  pub row_between : (floor : ℕ) (r q : Place → ℕ) → floor ≤ top → Between floor r → Between floor q → Between floor (of_row r q top)
  row_between floor r q l b d = record { low = low; high = high }
    where
      low : (p : Place) → floor ≤ of_row r q top p
      low (Head ∷ p) = b.low p
      low (Tail ∷ p) = d.low p
      low p = l

      high : (p : Place) → of_row r q top p ≤ top
      high (Head ∷ p) = b.high p
      high (Tail ∷ p) = d.high p
      high p = omega arith

  pub row_none : (to : List ℕ → List ℕ) (ds' : List Decl) (names : NameSources) (c i : ℕ) (T : List ℕ → ℕ) → K * c + i ≤ top → RowRanks to ds' [] names c i T
  row_none to ds' names c i T l = record { ranks = λ p. top; between = record { low = λ p. l; high = λ p. omega arith }; fall = λ after w' names' h same. ((λ p. tt), λ y q. absurd cc) }

  pub row_more : (d : ℕ) (to : List ℕ → List ℕ) (ds' : List Decl) (tys : Types) (e : Eqn) (es' : List Eqn) (names : NameSources) (c i : ℕ) (X T : List ℕ → ℕ) → K * c + i ≤ top → EqnRanks d to ds' tys e names c i X
      → ((y : List ℕ) → defines (lowered_eqn enums to tys d e) y ≡ true → (x : List ℕ) × (IsOld x) × (defines e x ≡ true) × (y ≡ to x) × (T y ≡ K * X x + K)) → RowRanks to ds' es' names c i T → RowRanks to ds' (lowered_eqn enums to tys d e ∷ es') names c i T
  row_more d to ds' tys e es' names c i X T l E found R =
      record {
        ranks = of_row E.ranks R.ranks top;
        between = row_between (K * c + i) E.ranks R.ranks l E.between R.between;
        fall = λ after w' names' h same.
            let here = E.fall after (λ p. w' (Head ∷ p)) names' (λ p. h (Head ∷ p)) same in
            let there = R.fall after (λ p. w' (Tail ∷ p)) names' (λ p. h (Tail ∷ p)) same in
            (places after w' names' here.0 there.0, λ y q. by after w' names' y (defines (lowered_eqn enums to tys d e) y) refl here.1 there.1 q);
      }
    where
      places : (after : Place → ℕ) (w' : Place → Place) (names' : NameSources) → ((p : Place) → Below after (E.ranks p) (in_equation ds' (lowered_eqn enums to tys d e) names' (λ q. only (w' (Head ∷ q))) p))
          → ((p : Place) → Below after (R.ranks p) (in_equations ds' (eqns_of es') names' (λ q. only (w' (Tail ∷ q))) p))
          → (p : Place) → Below after (of_row E.ranks R.ranks top p) (in_equations ds' (eqns_of (lowered_eqn enums to tys d e ∷ es')) names' (λ q. only (w' q)) p)
      places after w' names' f g (Head ∷ p) = f p
      places after w' names' f g (Tail ∷ p) = g p
      places after w' names' f g p = tt

      by : (after : Place → ℕ) (w' : Place → Place) (names' : NameSources) (y : List ℕ) (t : Bool) → defines (lowered_eqn enums to tys d e) y ≡ t
          → ((x : List ℕ) → IsOld x → defines e x ≡ true → Below after (K * X x + K) (of_definition ds' (lowered_eqn enums to tys d e) names' (λ q. only (w' (Head ∷ q))) (to x)))
          → ((y : List ℕ) → some_defines (eqns_of es') y ≡ true → Below after (T y) (of_definitions ds' (eqns_of es') names' (λ q. only (w' (Tail ∷ q))) y)) → (t || some_defines (eqns_of es') y) ≡ true
          → Below after (T y) (if t then of_definition ds' (lowered_eqn enums to tys d e) names' (λ q. only (w' (Head ∷ q))) y else of_definitions ds' (eqns_of es') names' (λ q. only (w' (Tail ∷ q))) y)
      by after w' names' y true q f g h =
          let x = found y q in
          subst (λ n. Below after n (of_definition ds' (lowered_eqn enums to tys d e) names' (λ q. only (w' (Head ∷ q))) y)) (sym x.4)
          (subst (λ z. Below after (K * X x.0 + K) (of_definition ds' (lowered_eqn enums to tys d e) names' (λ q. only (w' (Head ∷ q))) z)) (sym x.3) (f x.0 x.1 x.2))
      by after w' names' y false q f g h = g y h

  -- names that are left out read nothing
  pub row_kept : (to : List ℕ → List ℕ) (ds' : List Decl) (names : NameSources) (c i : ℕ) (T : List ℕ → ℕ) → K * c + i ≤ top → (s : Span) (xs : List (List ℕ)) → ((x : List ℕ) → is_name xs x ≡ true → clock_in ds' (to x) ≡ []) → RowRanks to ds' (map (kept to s) xs) names c i T
  row_kept to ds' names c i T l s [] h = row_none to ds' names c i T l
  row_kept to ds' names c i T l s (x ∷ xs) h =
      let R = row_kept to ds' names c i T l s xs (λ z q. h z (Rattle.law_automata.proofs.LoweredLemmas.Tests.name_first x xs z ∙ or_right (bytes_eq x z) (is_name xs z) q)) in
      let mine : clock_in ds' (to x) ≡ [] = h x (Rattle.law_automata.proofs.LoweredLemmas.Tests.name_first x xs x ∙ or_left (bytes_eq x x) (is_name xs x) (Rattle.law_automata.proofs.LoweredLemmas.Apart.bytes_same x)) in
      record {
        ranks = of_row (λ p. top) R.ranks top;
        between = row_between (K * c + i) (λ p. top) R.ranks l (record { low = λ p. l; high = λ p. omega arith }) R.between;
        fall = λ after w' names' g same.
            let there = R.fall after (λ p. w' (Tail ∷ p)) names' (λ p. g (Tail ∷ p)) same in
            (places after w' names' R there.0, λ y q. by after w' names' y (bytes_eq (to x) y || false) mine there.1 q);
      }
    where
      nothing_read : (after : Place → ℕ) (m : ℕ) (names' : NameSources) (k : PlaceSources) (p : Place) → Below after m (in_equation ds' (kept to s x) names' k p)
      nothing_read after m names' k (Right ∷ p) = tt
      nothing_read after m names' k p = tt

      places : (after : Place → ℕ) (w' : Place → Place) (names' : NameSources) (R : RowRanks to ds' (map (kept to s) xs) names c i T)
          → ((p : Place) → Below after (R.ranks p) (in_equations ds' (eqns_of (map (kept to s) xs)) names' (λ q. only (w' (Tail ∷ q))) p))
          → (p : Place) → Below after (of_row (λ p. top) R.ranks top p) (in_equations ds' (eqns_of (map (kept to s) (x ∷ xs))) names' (λ q. only (w' q)) p)
      places after w' names' R g (Head ∷ p) = nothing_read after top names' (λ q. only (w' (Head ∷ q))) p
      places after w' names' R g (Tail ∷ p) = g p
      places after w' names' R g p = tt

      by : (after : Place → ℕ) (w' : Place → Place) (names' : NameSources) (y : List ℕ) (t : Bool) → clock_in ds' (to x) ≡ []
          → ((y : List ℕ) → some_defines (eqns_of (map (kept to s) xs)) y ≡ true → Below after (T y) (of_definitions ds' (eqns_of (map (kept to s) xs)) names' (λ q. only (w' (Tail ∷ q))) y)) → (t || some_defines (eqns_of (map (kept to s) xs)) y) ≡ true
          → Below after (T y) (if t then of_definition ds' (kept to s x) names' (λ q. only (w' (Head ∷ q))) y else of_definitions ds' (eqns_of (map (kept to s) xs)) names' (λ q. only (w' (Tail ∷ q))) y)
      by after w' names' y true mine g h = subst (λ ck. Below after (T y) (both (also (of_clock ck names')) none)) (sym mine) (tt, tt)
      by after w' names' y false mine g h = g y h

  -- ---- blocks

  -- what is known around a block
  pub record Outside (outer : Known) (d : ℕ) (to : List ℕ → List ℕ) (xs : List (List ℕ)) (b : Block) : Type 0 where
    pub renames : Renames outer d to
    pub undone : Undone to
    pub ok : BlockOk outer d b
    pub own : (x : List ℕ) → is_name xs x ≡ true → outer x ≡ true
    pub old : (x : List ℕ) → is_name xs x ≡ true → IsOld x

  -- some equations in a block, with others behind
  abbrev pub EqnsRanked : Eqns → Type 0
  EqnsRanked es =
      (outer : Known) (d : ℕ) (to : List ℕ → List ℕ) (ds ds' : List Decl) (tys : Types) → Renames outer d to → Undone to → ClocksSame to ds ds' → (names : NameSources) (c i : ℕ) (w : Place → Place) (X T : List ℕ → ℕ) (more : List Eqn) → EqnsOk outer d es
      → Around c i (turns_all es) w → ((p : Place) → Below rank (rank (w p)) (in_equations ds es names (λ q. only (w q)) p))
      → ((x : List ℕ) → some_defines es x ≡ true → (c ≤ X x) × (X x < β) × Below rank (X x) (of_definitions ds es names (λ q. only (w q)) x))
      → ((x : List ℕ) → some_defines es x ≡ true → (m : ℕ) → Below rank m (names x) → X x < m)
      → ((x : List ℕ) → IsOld x → some_defines es x ≡ true → T (to x) ≡ K * X x + K) → RowRanks to ds' more names c i T → RowRanks to ds' (lowered_eqns enums to tys d es ++ more) names c i T

  abbrev pub EqnRanked : Eqn → Type 0
  EqnRanked e =
      (outer : Known) (d : ℕ) (to : List ℕ → List ℕ) (ds ds' : List Decl) (tys : Types) → Renames outer d to → Undone to → ClocksSame to ds ds' → (names : NameSources) (c i : ℕ) (w : Place → Place) (X : List ℕ → ℕ) → EqnOk outer d e
      → Around c i (turns e) w → ((p : Place) → Below rank (rank (w p)) (in_equation ds e names (λ q. only (w q)) p))
      → ((x : List ℕ) → defines e x ≡ true → (c ≤ X x) × (X x < β) × Below rank (X x) (of_definition ds e names (λ q. only (w q)) x))
      → ((x : List ℕ) → defines e x ≡ true → (m : ℕ) → Below rank m (names x) → X x < m) → EqnRanks d to ds' tys e names c i X

  abbrev pub BlockRanked : Block → Type 0
  BlockRanked b =
      (outer : Known) (d : ℕ) (to : List ℕ → List ℕ) (xs : List (List ℕ)) → Outside outer d to xs b → (tys : Types) (s : Span) (out : NameSources) (c i : ℕ) (w : Place → Place) → Around c i (turns_block b) w
      → ((p : Place) → Below rank (rank (w p)) (in_block b out (λ q. only (w q)) p)) → BlockRanks d to tys s xs b out c i w

  block_between : (floor : ℕ) (named : List ℕ → ℕ) (r : Place → ℕ) → floor ≤ top → ((y : List ℕ) → (floor ≤ named y) × (named y ≤ top)) → Between floor r → Between floor (of_block named r top)
  block_between floor named r l n b = record { low = low; high = high }
    where
      low : (p : Place) → floor ≤ of_block named r top p
      low (Named y ∷ []) = (n y).0
      low (Equations ∷ p) = b.low p
      low p = l

      high : (p : Place) → of_block named r top p ≤ top
      high (Named y ∷ []) = (n y).1
      high (Equations ∷ p) = b.high p
      high p = omega arith

  module _ {outer : Known} {d : ℕ} {to : List ℕ → List ℕ} {xs : List (List ℕ)} (ds : List Decl) (es : Eqns) (o : Outside outer d to xs (block ds es)) (tys : Types) (s : Span) (out : NameSources) (c i : ℕ) (w : Place → Place) (a : Around c i (turns_all es) w)
      (falls : (p : Place) → Below rank (rank (w p)) (in_block (block ds es) out (λ q. only (w q)) p)) (ih : EqnsRanked es) where
    abbrev X : List ℕ → ℕ
    X x = rank (w (Named x ∷ []))

    abbrev T : List ℕ → ℕ
    T y = if some_defines es (o.undone.back y) then K * X (o.undone.back y) + K else K * c + i

    abbrev inner_names : NameSources
    inner_names = names_in es out (λ q. only (w q))

    right_around : Rattle.law_automata.proofs.LoweredLemmas.RightBlocks.RightAround outer d to xs (block ds es) (λ x. Rattle.std.specs.Prelude.Some []) (λ x. Rattle.std.specs.Prelude.Some [])
    right_around = record { renames = o.renames; undone = o.undone; ok = o.ok; own = o.own; old = o.old; out_same = λ x p h. refl; kept_base = λ x h. refl }

    abbrev eqns' : List Eqn
    eqns' = lowered_eqns enums to (declaring tys ds) d es ++ all_kept to s xs (block ds es)

    made_defined : (x : List ℕ) → IsOld x → some_defines (eqns_of eqns') (to x) ≡ (some_defines es x || is_name xs x)
    made_defined x p = Rattle.law_automata.proofs.LoweredLemmas.RightBlocks.made_defines enums tys s right_around x p

    abbrev clocks : ClocksSame to ds (renamed_decls to ds)
    clocks = Rattle.law_automata.proofs.LoweredLemmas.RightBlocks.plain_clocks enums tys s right_around

    T_by : (x : List ℕ) → IsOld x → (t : Bool) → some_defines es x ≡ t → T (to x) ≡ (if t then K * X x + K else K * c + i)
    T_by x p t e = ap (λ z. if some_defines es z then K * X z + K else K * c + i) (o.undone.back_to x p) ∙ ap (λ b. if b then K * X x + K else K * c + i) e

    T_between : (y : List ℕ) → (K * c + i ≤ T y) × (T y ≤ top)
    T_between y = by (some_defines es (o.undone.back y)) (X (o.undone.back y)) (a.high (Named (o.undone.back y) ∷ [])) (a.roof (Named (o.undone.back y) ∷ []))
      where
        by : (t : Bool) (n : ℕ) → c ≤ n → n < β → (K * c + i ≤ (if t then K * n + K else K * c + i)) × ((if t then K * n + K else K * c + i) ≤ top)
        by true n h g =
            let up : K * c ≤ K * n = times_up K c n h in
            let roof : K * n ≤ K * β = times_up K n β (omega arith) in
            let q = a.turn in let r = a.room in (omega arith, omega arith)
        by false n h g = (omega arith, floor_top a)

    inner_around : Around c i (turns_all es) (λ p. w (Equations ∷ p))
    inner_around = record { high = λ p. a.high (Equations ∷ p); roof = λ p. a.roof (Equations ∷ p); turn = a.turn; room = a.room }

    row : RowRanks to (renamed_decls to ds) eqns' inner_names c i T
    row =
        ih outer d to ds (renamed_decls to ds) (declaring tys ds) o.renames o.undone clocks inner_names c i (λ p. w (Equations ∷ p)) X T (all_kept to s xs (block ds es)) o.ok.1 inner_around (λ p. falls (Equations ∷ p))
        (λ x h. (a.high (Named x ∷ []), a.roof (Named x ∷ []), falls (Named x ∷ []))) (λ x h m g. subst (λ t. Below rank m (if t then only (w (Named x ∷ [])) else out x)) h g) (λ x p h. T_by x p true h)
        (row_kept to (renamed_decls to ds) inner_names c i T (floor_top a) s (missing (is_name (outer_names (block ds es))) xs) (Rattle.law_automata.proofs.LoweredLemmas.RightBlocks.left_base enums tys s right_around (renamed_decls to ds) clocks))

    less_inside : (after : Place → ℕ) (w' : Place → Place) (out' : NameSources) → ((p : Place) → after (w' p) ≡ of_block T row.ranks top p) → ((x : List ℕ) → IsOld x → with_names xs (block ds es) x ≡ false → Less K rank after c i (out x) (out' (to x)))
        → (x : List ℕ) → IsOld x → Less K rank after c i (inner_names x) (names_in (eqns_of eqns') out' (λ q. only (w' q)) (to x))
    less_inside after w' out' h less x p =
        subst (λ t. Less K rank after c i (inner_names x) (if t then only (w' (Named (to x) ∷ [])) else out' (to x))) (sym (made_defined x p)) (by (some_defines es x) (is_name xs x) refl refl)
      where
        by : (t q : Bool) → some_defines es x ≡ t → is_name xs x ≡ q → Less K rank after c i (if t then only (w (Named x ∷ [])) else out x) (if (t || q) then only (w' (Named (to x) ∷ [])) else out' (to x))
        by true q e g m l r =
            let is : after (w' (Named (to x) ∷ [])) ≡ K * X x + K = h (Named (to x) ∷ []) ∙ T_by x p true e in
            let up : K * (X x + 1) ≤ K * m = times_up K (X x + 1) m (omega arith) in
            let next : K * (X x + 1) ≡ K * X x + K = times_next K (X x) in omega arith
        by false true e g m l r =
            let is : after (w' (Named (to x) ∷ [])) ≡ K * c + i = h (Named (to x) ∷ []) ∙ T_by x p false e in
            let up : K * c ≤ K * m = times_up K c m l in omega arith
        by false false e g m l r = less x p (or_none (block_defines (block ds es) x) (is_name xs x) (ap (λ t. t && not (declares ds x)) e) g) m l r

    definitions : (after : Place → ℕ) (y : List ℕ) (names' : NameSources) (k : PlaceSources) → ((z : List ℕ) → some_defines (eqns_of eqns') z ≡ true → Below after (T z) (of_definitions (renamed_decls to ds) (eqns_of eqns') names' k z))
        → (t : Bool) → some_defines (eqns_of eqns') y ≡ t → Below after (T y) (of_definitions (renamed_decls to ds) (eqns_of eqns') names' k y)
    definitions after y names' k h true e = h y e
    definitions after y names' k h false e = nothing_defined after (T y) (renamed_decls to ds) (eqns_of eqns') names' k y e

    block_places : (after : Place → ℕ) (w' : Place → Place) (out' : NameSources) → ((p : Place) → after (w' p) ≡ of_block T row.ranks top p) → ((x : List ℕ) → IsOld x → with_names xs (block ds es) x ≡ false → Less K rank after c i (out x) (out' (to x)))
        → (p : Place) → Below after (of_block T row.ranks top p) (in_block (lowered_block enums to tys d s xs (block ds es)) out' (λ q. only (w' q)) p)
    block_places after w' out' h less (Named y ∷ []) =
        definitions after y (names_in (eqns_of eqns') out' (λ q. only (w' q))) (λ q. only (w' (Equations ∷ q)))
        (row.fall after (λ p. w' (Equations ∷ p)) (names_in (eqns_of eqns') out' (λ q. only (w' q))) (λ p. h (Equations ∷ p)) (less_inside after w' out' h less)).1 (some_defines (eqns_of eqns') y) refl
    block_places after w' out' h less (Equations ∷ p) =
        (row.fall after (λ q. w' (Equations ∷ q)) (names_in (eqns_of eqns') out' (λ q. only (w' q))) (λ q. h (Equations ∷ q)) (less_inside after w' out' h less)).0 p
    block_places after w' out' h less p = tt

    pub block_ranks : BlockRanks d to tys s xs (block ds es) out c i w
    block_ranks = record {
      ranks = of_block T row.ranks top;
      between = block_between (K * c + i) T row.ranks (floor_top a) T_between row.between;
      named = λ x p e. T_by x p true e;
      left = λ x p e. T_by x p false e;
      fall = λ after w' out' h less p. block_places after w' out' h less p;
    }

  -- ---- arms

  abbrev pub ArmsRanks : ℕ → (List ℕ → List ℕ) → Types → List (List ℕ) → Arms → NameSources → ℕ → ℕ → (Place → Place) → Type 0
  ArmsRanks d to tys xs arms names c i w =
      (r : Place → ℕ) × (Between (K * c + i) r)
      × ((after : Place → ℕ) (w' : Place → Place) (names' : NameSources) → ((p : Place) → after (w' p) ≡ r p) → ((x : List ℕ) → IsOld x → is_name xs x ≡ false → Less K rank after c i (names x) (names' (to x)))
      → ((p : Place) → Below after (r p) (in_each_arm (lowered_arms enums to tys d xs arms) names' (λ q. only (w' q)) p))
      × ((x : List ℕ) → IsOld x → is_name xs x ≡ true → (m : ℕ) → c ≤ m → Below rank m (in_arms arms (λ q. only (w q)) x) → Below after (K * m + i + 1) (in_arms (lowered_arms enums to tys d xs arms) (λ q. only (w' q)) (to x))))

  abbrev pub ArmsRanked : Arms → Type 0
  ArmsRanked arms =
      (outer : Known) (d : ℕ) (to : List ℕ → List ℕ) (xs : List (List ℕ)) → Renames outer d to → Undone to → ArmsOk outer d arms → ((x : List ℕ) → is_name xs x ≡ true → outer x ≡ true) → ((x : List ℕ) → is_name xs x ≡ true → IsOld x)
      → (tys : Types) (names : NameSources) (c i : ℕ) (w : Place → Place) → Around c i (turns_arms arms) w → ((p : Place) → Below rank (rank (w p)) (in_each_arm arms names (λ q. only (w q)) p)) → ArmsRanks d to tys xs arms names c i w

  -- what an arm gives to a name
  arm_given : (outer : Known) (d : ℕ) (to : List ℕ → List ℕ) (xs : List (List ℕ)) (b : Block) → Outside outer d to xs b → (tys : Types) (s : Span) (out : NameSources) (c i : ℕ) (w : Place → Place) (R : BlockRanks d to tys s xs b out c i w) (after : Place → ℕ) (w' : Place → Place)
      → ((p : Place) → after (w' p) ≡ R.ranks p) → (x : List ℕ) → IsOld x → is_name xs x ≡ true → (m : ℕ) → c ≤ m → Below rank m (if block_defines b x then only (w (Named x ∷ [])) else none)
      → Below after (K * m + i + 1) (if block_defines (lowered_block enums to tys d s xs b) (to x) then only (w' (Named (to x) ∷ [])) else none)
  arm_given outer d to xs (block ds es) o tys s out c i w R after w' h x p q m l g =
      subst (λ t. Below after (K * m + i + 1) (if t then only (w' (Named (to x) ∷ [])) else none)) (sym (Rattle.law_automata.proofs.LoweredLemmas.Defined.block_same enums o.renames tys s xs (block ds es) o.ok o.own o.old x p ∙ or_right (block_defines (block ds es) x) (is_name xs x) q))
      (by (some_defines es x) refl g)
    where
      undeclared : declares ds x ≡ false
      undeclared = Rattle.law_automata.proofs.LoweredLemmas.Defined.outward enums o.renames s xs ds es o.ok.0 o.own x (or_right (block_defines (block ds es) x) (is_name xs x) q)

      by : (t : Bool) → some_defines es x ≡ t → Below rank m (if (some_defines es x && not (declares ds x)) then only (w (Named x ∷ [])) else none) → after (w' (Named (to x) ∷ [])) < K * m + i + 1
      by true e g =
          let less : rank (w (Named x ∷ [])) < m = subst (λ t. Below rank m (if t then only (w (Named x ∷ [])) else none)) (Rattle.law_automata.proofs.LoweredLemmas.Tests.and_not (some_defines es x) (declares ds x) e undeclared) g in
          let is : after (w' (Named (to x) ∷ [])) ≡ K * rank (w (Named x ∷ [])) + K = h (Named (to x) ∷ []) ∙ R.named x p e in
          let up : K * (rank (w (Named x ∷ [])) + 1) ≤ K * m = times_up K (rank (w (Named x ∷ [])) + 1) m (omega arith) in
          let next : K * (rank (w (Named x ∷ [])) + 1) ≡ K * rank (w (Named x ∷ [])) + K = times_next K (rank (w (Named x ∷ []))) in omega arith
      by false e g =
          let is : after (w' (Named (to x) ∷ [])) ≡ K * c + i = h (Named (to x) ∷ []) ∙ R.left x p e in
          let up : K * c ≤ K * m = times_up K c m l in omega arith

  pub arms_more : (c0 : Rattle.hp_tree.specs.declared.decl.Cons.Cons) (b : Block) (s : Span) (arms : Arms) → BlockRanked b → ArmsRanked arms → ArmsRanked (more_arms c0 b s arms)
  arms_more c0 b s arms B A outer d to xs r un ok own old tys names c i w a falls =
      let o : Outside outer d to xs b = record { renames = r; undone = un; ok = ok.0; own = own; old = old } in
      let t = a.turn in
      let R = B outer d to xs o tys s names c i (λ p. w (Head ∷ p)) (record { high = λ p. a.high (Head ∷ p); roof = λ p. a.roof (Head ∷ p); turn = omega (arith, t); room = a.room }) (λ p. falls (Head ∷ p)) in
      let S = A outer d to xs r un ok.1 own old tys names c i (λ p. w (Tail ∷ p)) (record { high = λ p. a.high (Tail ∷ p); roof = λ p. a.roof (Tail ∷ p); turn = omega (arith, t); room = a.room }) (λ p. falls (Tail ∷ p)) in (
        of_row R.ranks S.0 top,
        row_between (K * c + i) R.ranks S.0 (floor_top a) R.between S.1,
        λ after w' names' h less.
            let there = S.2 after (λ p. w' (Tail ∷ p)) names' (λ p. h (Tail ∷ p)) less in (
              places R S.0 after w' names' (R.fall after (λ p. w' (Head ∷ p)) names' (λ p. h (Head ∷ p)) (λ x p q. less x p (or_second (block_defines b x) (is_name xs x) q))) there.0,
              λ x p q m l g. (arm_given outer d to xs b o tys s names c i (λ p. w (Head ∷ p)) R after (λ p. w' (Head ∷ p)) (λ p. h (Head ∷ p)) x p q m l g.0, there.1 x p q m l g.1),
            ),
      )
    where
      places : (R : BlockRanks d to tys s xs b names c i (λ p. w (Head ∷ p))) (q : Place → ℕ) (after : Place → ℕ) (w' : Place → Place) (names' : NameSources) → ((p : Place) → Below after (R.ranks p) (in_block (lowered_block enums to tys d s xs b) names' (λ q. only (w' (Head ∷ q))) p))
          → ((p : Place) → Below after (q p) (in_each_arm (lowered_arms enums to tys d xs arms) names' (λ q. only (w' (Tail ∷ q))) p))
          → (p : Place) → Below after (of_row R.ranks q top p) (in_each_arm (lowered_arms enums to tys d xs (more_arms c0 b s arms)) names' (λ q. only (w' q)) p)
      places R q after w' names' f g (Head ∷ p) = f p
      places R q after w' names' f g (Tail ∷ p) = g p
      places R q after w' names' f g p = tt
