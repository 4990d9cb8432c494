-- Ranks of `switch`es and `reset`s, of the ranks of their blocks.
use Rattle.std.proofs.Common.{◌≡◌, ℕ, ◌+◌, ◌*◌, ◌<◌, ◌≤◌, Bool, true, false, if◌then◌else◌, List, [], ◌∷◌, ◌++◌, refl, sym, ap, subst, ◌∙◌, arith}
use Rattle.hp_base.specs.declared.span.Span.{Span}
use Rattle.hp_tree.specs.Expressions.{Expr}
use Rattle.hp_tree.specs.Blocks.{Block, block, Eqns, more_eqns, Eqn, switch, reset, Arms}
use Rattle.hp_tree.specs.Instant.{Named, Body, Head, Tail, Test, Arms as ArmsOf, Place}
use Rattle.hp_tree.specs.Meaning.{defines, some_defines, block_defines}
use Rattle.hp_meaning.specs.Causal.Sources.{Sources, none, only, NameSources}
use Rattle.hp_meaning.specs.Causal.WhatIsRead.{of_expr, at_expr, names_within, in_arms, of_definition, of_definitions, in_block, in_equation, in_each_arm, has_equation}
use Rattle.hp_tables.specs.Defining.Names.{names_of_arms}
use Rattle.hp_automata.specs.Names.{is_name, once}
use Rattle.hp_automata.specs.Renaming.{renamed}
use Rattle.hp_automata.specs.Lowering.{Types, Enumerations, lowered_block, lowered_eqns, lowered_eqn, lowered_arms}
use Rattle.law_automata.specs.Lowered.OldNames.{IsOld, OldExpr}
use Rattle.law_automata.specs.Lowered.Removable.{Known, and_defined, EqnOk}
use Rattle.law_automata.proofs.LoweredLemmas.Tests.{or_left, or_right, or_first, and_first, true_false}
use Rattle.law_automata.proofs.LoweredLemmas.Renaming.{Renames, within_renames}
use Rattle.law_automata.proofs.LoweredLemmas.Lookups.{eqn_old, eqn_sound, names_of_switch}
use Rattle.law_automata.proofs.LoweredLemmas.Defined.{eqn_same}
use Rattle.law_automata.proofs.LoweredLemmas.RankExpressions.{Below, below_more, Less, less_up, LessAll, of_less, at_less}
use Rattle.law_automata.proofs.LoweredLemmas.RankBlocks.{times_up, times_next, greater, greater_left, greater_right, greater_least, height, height_below, height_least, turns, turns_arms, turns_block, of_arms, of_body, top, Between, Around, floor_top, same_rank, same_rank_is, same_between, next_below, place_less, EqnRanks, EqnRanked, EqnsRanked, BlockRanks, BlockRanked, ArmsRanked, Outside, RowRanks, row_more, define_ranks}

module _ (K D β : ℕ) (rank : Place → ℕ) (enums : Enumerations) where
  lower_floor : (f g : ℕ) (r : Place → ℕ) → g ≤ f → Between K D β rank enums f r → Between K D β rank enums g r
  lower_floor f g r l b = record { low = λ p. let h = b.low p in omega arith; high = b.high }

  arms_between : (floor : ℕ) (r q : Place → ℕ) → floor ≤ top K D β rank enums → Between K D β rank enums floor r → Between K D β rank enums floor q → Between K D β rank enums floor (of_arms r q (top K D β rank enums))
  arms_between floor r q l b d = record { low = low; high = high }
    where
      low : (p : Place) → floor ≤ of_arms r q (top K D β rank enums) p
      low (Test ∷ p) = b.low p
      low (ArmsOf ∷ p) = d.low p
      low p = l

      high : (p : Place) → of_arms r q (top K D β rank enums) p ≤ top K D β rank enums
      high (Test ∷ p) = b.high p
      high (ArmsOf ∷ p) = d.high p
      high p = omega arith

  body_between : (floor : ℕ) (r q : Place → ℕ) → floor ≤ top K D β rank enums → Between K D β rank enums floor r → Between K D β rank enums floor q → Between K D β rank enums floor (of_body r q (top K D β rank enums))
  body_between floor r q l b d = record { low = low; high = high }
    where
      low : (p : Place) → floor ≤ of_body r q (top K D β rank enums) p
      low (Test ∷ p) = b.low p
      low (Body ∷ p) = d.low p
      low p = l

      high : (p : Place) → of_body r q (top K D β rank enums) p ≤ top K D β rank enums
      high (Test ∷ p) = b.high p
      high (Body ∷ p) = d.high p
      high p = omega arith

  -- the condition, with its occurrences
  module _ {c i turns' : ℕ} {w : Place → Place} (a : Around K D β rank enums c i turns' w) (to : List ℕ → List ℕ) (names : NameSources) (e : Expr) (o : OldExpr e) where
    abbrev pub test_around : Around K D β rank enums c i turns' (λ p. w (Test ∷ p))
    test_around = record { high = λ p. a.high (Test ∷ p); roof = λ p. a.roof (Test ∷ p); turn = a.turn; room = a.room }

    abbrev pub control : Sources
    control = of_expr e names (λ q. only (w (Test ∷ q)))

    module _ (after : Place → ℕ) (w' : Place → Place) (names' : NameSources) (same : (x : List ℕ) → IsOld x → Less K rank after c i (names x) (names' (to x))) (h : (p : Place) → after (w' (Test ∷ p)) ≡ same_rank K D β rank enums test_around p) where
      less : LessAll K rank after c i (λ q. only (w (Test ∷ q))) (λ q. only (w' (Test ∷ q)))
      less = place_less K D β rank enums c i after (λ q. w (Test ∷ q)) (λ q. w' (Test ∷ q)) (same_rank K D β rank enums test_around) h (same_rank_is K D β rank enums test_around)

      pub control_less : Less K rank after c i control (of_expr (renamed to e) names' (λ q. only (w' (Test ∷ q))))
      control_less = of_less K rank after c i to names names' same e o (λ q. only (w (Test ∷ q))) (λ q. only (w' (Test ∷ q))) less

      pub test_below : (p : Place) → Below rank (rank (w (Test ∷ p))) (at_expr e [] names (λ q. only (w (Test ∷ q))) p)
          → Below after (same_rank K D β rank enums test_around p) (at_expr (renamed to e) [] names' (λ q. only (w' (Test ∷ q))) p)
      test_below p g =
          subst (λ n. Below after n (at_expr (renamed to e) [] names' (λ q. only (w' (Test ∷ q))) p)) (sym (same_rank_is K D β rank enums test_around p))
          (next_below K D β rank enums a after (rank (w (Test ∷ p))) (at_expr (renamed to e) [] names' (λ q. only (w' (Test ∷ q))) p)
          (at_less K rank after c i to names names' same e o [] tt (λ q. only (w (Test ∷ q))) (λ q. only (w' (Test ∷ q))) less p (rank (w (Test ∷ p))) (a.high (Test ∷ p)) g))

  within_less : {outer : Known} {d : ℕ} {to : List ℕ → List ℕ} (r : Renames outer d to) (tys : Types) (E : Eqn) (ok : EqnOk outer d E) (names : NameSources) (c ca i : ℕ) → c ≤ ca → (after : Place → ℕ) (names' : NameSources)
      → ((x : List ℕ) → IsOld x → Less K rank after c i (names x) (names' (to x))) → (x : List ℕ) → IsOld x → defines E x ≡ false → Less K rank after ca (i + 1) (names_within E names x) (names_within (lowered_eqn enums to tys d E) names' (to x))
  within_less {outer} {d} {to} r tys E ok names c ca i l after names' same x o q =
      subst (λ t. Less K rank after ca (i + 1) (if t then none else names x) (names_within (lowered_eqn enums to tys d E) names' (to x))) (sym q)
      (subst (λ t. Less K rank after ca (i + 1) (names x) (if t then none else names' (to x))) (sym (eqn_same enums r tys E ok x o ∙ q))
      (less_up K rank after c ca i (i + 1) l (omega arith) (names x) (names' (to x)) (same x o)))

  pub switch_ranked : (s : Span) (e : Expr) (arms : Arms) → ArmsRanked K D β rank enums arms → EqnRanked K D β rank enums (switch s e arms)
  switch_ranked s e arms A outer d to ds ds' tys r un clocks names c i w X ok a falls defs own_rank =
      record {
        ranks = of_arms (same_rank K D β rank enums (test_around a to names e ok.0)) made.0 (top K D β rank enums);
        between = arms_between (K * c + i) (same_rank K D β rank enums (test_around a to names e ok.0)) made.0 (floor_top K D β rank enums a) (same_between K D β rank enums (test_around a to names e ok.0))
            (lower_floor (K * ca + (i + 1)) (K * c + i) made.0 (let up : K * c ≤ K * ca = times_up K c ca (greater_left c (height rank control0)) in omega arith) made.1);
        fall = λ after w' names' h same.
            let arms_fall = made.2 after (λ p. w' (ArmsOf ∷ p)) (names_within (lowered_eqn enums to tys d E) names') (λ p. h (ArmsOf ∷ p)) (λ x o q. within_less r tys E ok names c ca i (greater_left c (height rank control0)) after names' same x o (sym (names_of x) ∙ q)) in
            let control' = control_less a to names e ok.0 after w' names' same (λ p. h (Test ∷ p)) in (
              places after w' names' (λ p. test_below a to names e ok.0 after w' names' same (λ q. h (Test ∷ q)) p (falls (Test ∷ p)))
                  (control' ca (greater_left c (height rank control0)) (below_more rank (height rank control0) ca (greater_right c (height rank control0)) control0 (height_below rank control0))) arms_fall.0,
              λ x o q.
                  let k = defs x q in
                  let room = a.room in let turn = a.turn in (
                    next_below K D β rank enums a after (X x) (of_expr (renamed to e) names' (λ p. only (w' (Test ∷ p)))) (control' (X x) k.0 k.2.0),
                    below_more after (K * X x + (i + 1) + 1) (K * X x + K) (omega arith) (in_arms (lowered_arms enums to tys d xs arms) (λ p. only (w' (ArmsOf ∷ p))) (to x))
                        (arms_fall.1 x o (names_of x ∙ q) (X x) (greater_least c (height rank control0) (X x) k.0 (height_least rank (X x) control0 k.2.0)) k.2.1),
                  ),
            );
      }
    where
      E : Eqn
      E = switch s e arms

      xs : List (List ℕ)
      xs = once (names_of_arms arms)

      names_of : (x : List ℕ) → is_name (once (names_of_arms arms)) x ≡ defines (switch s e arms) x
      names_of x = names_of_switch enums arms x

      control0 : Sources
      control0 = of_expr e names (λ q. only (w (Test ∷ q)))

      ca : ℕ
      ca = greater c (height rank (of_expr e names (λ q. only (w (Test ∷ q)))))

      arms_around : Around K D β rank enums (greater c (height rank (of_expr e names (λ q. only (w (Test ∷ q)))))) (i + 1) (turns_arms arms) (λ p. w (ArmsOf ∷ p))
      arms_around = record {
        high = λ p. greater_least c (height rank (of_expr e names (λ q. only (w (Test ∷ q))))) (rank (w (ArmsOf ∷ p))) (a.high (ArmsOf ∷ p)) (height_least rank (rank (w (ArmsOf ∷ p))) (of_expr e names (λ q. only (w (Test ∷ q)))) (falls (ArmsOf ∷ p)).0);
        roof = λ p. a.roof (ArmsOf ∷ p);
        turn = let t = a.turn in omega (arith, t);
        room = a.room;
      }

      made : Rattle.law_automata.proofs.LoweredLemmas.RankBlocks.ArmsRanks K D β rank enums d to tys (once (names_of_arms arms)) arms (names_within (switch s e arms) names) (greater c (height rank (of_expr e names (λ q. only (w (Test ∷ q)))))) (i + 1) (λ p. w (ArmsOf ∷ p))
      made =
          A (and_defined (switch s e arms) outer) d to (once (names_of_arms arms)) (within_renames (switch s e arms) r) un ok.1 (λ x q. or_left (defines (switch s e arms) x) (outer x) (sym (names_of x) ∙ q)) (λ x q. eqn_old outer d (switch s e arms) ok x (sym (names_of x) ∙ q))
          tys (names_within (switch s e arms) names) (greater c (height rank (of_expr e names (λ q. only (w (Test ∷ q)))))) (i + 1) (λ p. w (ArmsOf ∷ p)) arms_around (λ p. (falls (ArmsOf ∷ p)).1)

      places : (after : Place → ℕ) (w' : Place → Place) (names' : NameSources)
          → ((p : Place) → Below after (same_rank K D β rank enums (test_around a to names e ok.0) p) (at_expr (renamed to e) [] names' (λ q. only (w' (Test ∷ q))) p))
          → Below after (K * ca + i + 1) (of_expr (renamed to e) names' (λ q. only (w' (Test ∷ q))))
          → ((p : Place) → Below after (made.0 p) (in_each_arm (lowered_arms enums to tys d (once (names_of_arms arms)) arms) (names_within (lowered_eqn enums to tys d (switch s e arms)) names') (λ q. only (w' (ArmsOf ∷ q))) p))
          → (p : Place) → Below after (of_arms (same_rank K D β rank enums (test_around a to names e ok.0)) made.0 (top K D β rank enums) p) (in_equation ds' (lowered_eqn enums to tys d (switch s e arms)) names' (λ q. only (w' q)) p)
      places after w' names' t k f (Test ∷ p) = t p
      places after w' names' t k f (ArmsOf ∷ p) =
          (below_more after (K * ca + i + 1) (made.0 p) (let low = made.1.low p in omega arith) (of_expr (renamed to e) names' (λ q. only (w' (Test ∷ q)))) k, f p)
      places after w' names' t k f p = tt

  pub reset_ranked : (s : Span) (b : Block) (e : Expr) → BlockRanked K D β rank enums b → EqnRanked K D β rank enums (reset s b e)
  reset_ranked s b e B outer d to ds ds' tys r un clocks names c i w X ok a falls defs own_rank =
      record {
        ranks = of_body (same_rank K D β rank enums (test_around a to names e ok.0)) made.ranks (top K D β rank enums);
        between = body_between (K * c + i) (same_rank K D β rank enums (test_around a to names e ok.0)) made.ranks (floor_top K D β rank enums a) (same_between K D β rank enums (test_around a to names e ok.0))
            (lower_floor (K * cb + (i + 1)) (K * c + i) made.ranks (let up : K * c ≤ K * cb = times_up K c cb (greater_left c (height rank control0)) in omega arith) made.between);
        fall = λ after w' names' h same.
            let control' = control_less a to names e ok.0 after w' names' same (λ p. h (Test ∷ p)) in (
              places after w' names' (λ p. test_below a to names e ok.0 after w' names' same (λ q. h (Test ∷ q)) p (falls (Test ∷ p)))
                  (control' cb (greater_left c (height rank control0)) (below_more rank (height rank control0) cb (greater_right c (height rank control0)) control0 (height_below rank control0)))
                  (made.fall after (λ p. w' (Body ∷ p)) (names_within (lowered_eqn enums to tys d (reset s b e)) names') (λ p. h (Body ∷ p))
                  (λ x o q. within_less r tys (reset s b e) ok names c cb i (greater_left c (height rank control0)) after names' same x o (or_first (block_defines b x) false q))),
              λ x o q.
                  let k = defs x q in (
                    next_below K D β rank enums a after (X x) (of_expr (renamed to e) names' (λ p. only (w' (Test ∷ p)))) (control' (X x) k.0 k.2.0),
                    (let is : after (w' (Body ∷ Named (to x) ∷ [])) ≡ K * rank (w (Body ∷ Named x ∷ [])) + K = h (Body ∷ Named (to x) ∷ []) ∙ made.named x o (has_one b x q) in
                        let less : rank (w (Body ∷ Named x ∷ [])) < X x = k.2.1 in
                        let up : K * (rank (w (Body ∷ Named x ∷ [])) + 1) ≤ K * X x = times_up K (rank (w (Body ∷ Named x ∷ [])) + 1) (X x) (omega arith) in
                        let next : K * (rank (w (Body ∷ Named x ∷ [])) + 1) ≡ K * rank (w (Body ∷ Named x ∷ [])) + K = times_next K (rank (w (Body ∷ Named x ∷ []))) in
                        let room = a.room in omega arith),
                  ),
            );
      }
    where
      has_one : (b : Block) (x : List ℕ) → block_defines b x ≡ true → has_equation b x ≡ true
      has_one (block ds es) x h = and_first (some_defines es x) _ h

      control0 : Sources
      control0 = of_expr e names (λ q. only (w (Test ∷ q)))

      cb : ℕ
      cb = greater c (height rank (of_expr e names (λ q. only (w (Test ∷ q)))))

      made : BlockRanks K D β rank enums d to tys s [] b (names_within (reset s b e) names) (greater c (height rank (of_expr e names (λ q. only (w (Test ∷ q)))))) (i + 1) (λ p. w (Body ∷ p))
      made =
          B (and_defined (reset s b e) outer) d to [] (record { renames = within_renames (reset s b e) r; undone = un; ok = ok.1; own = λ x q. absurd cc; old = λ x q. absurd cc }) tys s (names_within (reset s b e) names)
          (greater c (height rank (of_expr e names (λ q. only (w (Test ∷ q)))))) (i + 1) (λ p. w (Body ∷ p))
          (record {
            high = λ p. greater_least c (height rank (of_expr e names (λ q. only (w (Test ∷ q))))) (rank (w (Body ∷ p))) (a.high (Body ∷ p)) (height_least rank (rank (w (Body ∷ p))) (of_expr e names (λ q. only (w (Test ∷ q)))) (falls (Body ∷ p)).0);
            roof = λ p. a.roof (Body ∷ p);
            turn = let t = a.turn in omega (arith, t);
            room = a.room;
          })
          (λ p. (falls (Body ∷ p)).1)

      places : (after : Place → ℕ) (w' : Place → Place) (names' : NameSources)
          → ((p : Place) → Below after (same_rank K D β rank enums (test_around a to names e ok.0) p) (at_expr (renamed to e) [] names' (λ q. only (w' (Test ∷ q))) p))
          → Below after (K * cb + i + 1) (of_expr (renamed to e) names' (λ q. only (w' (Test ∷ q))))
          → ((p : Place) → Below after (made.ranks p) (in_block (lowered_block enums to tys d s [] b) (names_within (lowered_eqn enums to tys d (reset s b e)) names') (λ q. only (w' (Body ∷ q))) p))
          → (p : Place) → Below after (of_body (same_rank K D β rank enums (test_around a to names e ok.0)) made.ranks (top K D β rank enums) p) (in_equation ds' (lowered_eqn enums to tys d (reset s b e)) names' (λ q. only (w' q)) p)
      places after w' names' t k f (Test ∷ p) = t p
      places after w' names' t k f (Body ∷ p) =
          (below_more after (K * cb + i + 1) (made.ranks p) (let low = made.between.low p in omega arith) (of_expr (renamed to e) names' (λ q. only (w' (Test ∷ q)))) k, f p)
      places after w' names' t k f p = tt

  -- ---- an equation, and those behind it
  pub more_ranked : (e : Eqn) (es : Eqns) → EqnRanked K D β rank enums e → EqnsRanked K D β rank enums es → EqnsRanked K D β rank enums (more_eqns e es)
  more_ranked e es E ES outer d to ds ds' tys r un clocks names c i w X T more ok a falls defs own_rank tops R =
      row_more K D β rank enums d to ds' tys e (lowered_eqns enums to tys d es ++ more) names c i X T (floor_top K D β rank enums a)
      (E outer d to ds ds' tys r un clocks names c i (λ p. w (Head ∷ p)) X ok.1 (record { high = λ p. a.high (Head ∷ p); roof = λ p. a.roof (Head ∷ p); turn = let t = a.turn in omega (arith, t); room = a.room }) (λ p. falls (Head ∷ p))
      (λ x q. let k = defs x (or_left (defines e x) (some_defines es x) q) in
      (k.0, k.1, subst (λ t. Below rank (X x) (if t then of_definition ds e names (λ p. only (w (Head ∷ p))) x else of_definitions ds es names (λ p. only (w (Tail ∷ p))) x)) q k.2))
      (λ x q. own_rank x (or_left (defines e x) (some_defines es x) q)))
      (λ y q.
      let stood = eqn_sound enums r tys e ok.1 y q in
      (stood.name, stood.old, stood.own, stood.is, ap T stood.is ∙ tops stood.name stood.old (or_left (defines e stood.name) (some_defines es stood.name) stood.own)))
      (ES outer d to ds ds' tys r un clocks names c i (λ p. w (Tail ∷ p)) X T more ok.2 (record { high = λ p. a.high (Tail ∷ p); roof = λ p. a.roof (Tail ∷ p); turn = let t = a.turn in omega (arith, t); room = a.room }) (λ p. falls (Tail ∷ p))
      (λ x q. let k = defs x (or_right (defines e x) (some_defines es x) q) in
      (k.0, k.1, subst (λ t. Below rank (X x) (if t then of_definition ds e names (λ p. only (w (Head ∷ p))) x else of_definitions ds es names (λ p. only (w (Tail ∷ p))) x)) (not_first x (defines e x) refl q) k.2))
      (λ x q. own_rank x (or_right (defines e x) (some_defines es x) q))
      (λ x o q. tops x o (or_right (defines e x) (some_defines es x) q)) R)
    where
      not_first : (x : List ℕ) (t : Bool) → defines e x ≡ t → some_defines es x ≡ true → t ≡ false
      not_first x true q h = absurd (true_false (some_defines es x) h (ok.0 x q))
      not_first x false q h = refl
