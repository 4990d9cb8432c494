-- What the places of a block hold in the language and in its filled form agrees.
use Rattle.std.proofs.Common.{◌≡◌, ℕ, suc, List, [], ◌∷◌, refl, sym, ap, ap₂, subst, ◌∙◌}
use Rattle.std.specs.Prelude.{Bool, true, false, ◌||◌, IsTrue, if◌then◌else◌, nat_eq, Option, None}
use Rattle.hp_base.specs.declared.span.Span.{Span}
use Rattle.hp_base.specs.declared.ty.Ty.TheVariants as ty
use Rattle.hp_base.specs.declared.value.Value.{Value}
use Rattle.hp_base.specs.declared.value.Value.TheVariants.{Absent, B}
use Rattle.hp_tree.specs.declared.block.Trans.{Trans}
use Rattle.hp_tree.specs.Expressions.{Expr, constant, variable, last_of, one, two, choose, pre, fby, arrow, when_is, merge, call}
use Rattle.hp_tree.specs.Blocks.{Decl, Block, block, Eqns, no_eqn, more_eqns, Eqn, define, switch, reset, automaton, Arms, no_arm, more_arms, States, no_state, more_states}
use Rattle.hp_tree.specs.Programs.{TypeDecl, Node}
use Rattle.hp_tree.specs.Operators.{Reading, real, filled, is_cons, is_true, if_of, constant_of}
use Rattle.hp_tree.specs.Instant.{Body, Named, Fresh, Equations, Head, Tail, Right, Test, Arms as ArmsOf, States as StatesOf, Until, Unless, Next, Pending, First, Second, Third, Place, Instant, Past, Given, at, part, parts, top, since, nothing, in_row, with_one, with_two, with_three, in_block, with_arms, with_body, with_words, Clock}
use Rattle.hp_tree.specs.Meaning.{Names, Nodes, defines, some_defines, inside, within, lasts as lasts_said, clock_of, Jump, state_word, state_of, selected, first_true, from_state, expr, conditions, strong, read_in, last_in, weak_in, weak, from_arm, gives, defined, scope, equations, equation, arm, states}
use Rattle.hp_tree.specs.Reaction.{Each}
use Rattle.hp_base.specs.Known.Known.{lookup}
use Rattle.hp_typing.specs.Scopes.{with_variables, inside as inside_block}
use Rattle.hp_typing.specs.Types.{type_of}
use Rattle.law_judged.specs.Typed.Scopes.{Scope}
use Rattle.hp_init.specs.Classes.{Classes, Assignment, is_second}
use Rattle.law_values.specs.Valued.Judged.{Lasts, lasts_in, lasts_of, PlainExpr, PlainTests, IsPlain, AllPlain, OnePlain, ArmsPlain, StatesPlain}
use Rattle.law_values.specs.Valued.Classed.{classes_in, classes_within, classes_of}
use Rattle.law_values.specs.Valued.Fitting.{Presence, IsThere, TestsFit}
use Rattle.law_values.specs.Valued.Given.{TestsGiven, BlockGiven, EqnsGiven, EqnGiven, ArmsGiven, StatesGiven}
use Rattle.law_values.proofs.ValuedLemmas.Both.{ExprOk, TestsOk, BlockOk, EqnsOk, EqnOk, ArmsOk, StatesOk, RightOk}
use Rattle.law_values.proofs.ValuedLemmas.Loose.{BlockLoose, EqnsLoose, EqnLoose, ArmsLoose, StatesLoose}
use Rattle.law_values.proofs.ValuedLemmas.Laws.{Along}
use Rattle.law_values.proofs.ValuedLemmas.Scoped.{presences}
use Rattle.law_values.proofs.ValuedLemmas.ExprTops.{along_part, own_all}
use Rattle.law_values.proofs.ValuedLemmas.BlockNames.{each_since, each_part, each_part2}
use Rattle.law_values.proofs.ValuedLemmas.Gives.{others_first}
use Rattle.law_values.specs.Filled.Firsts.{BlockHasFirsts, EqnsHaveFirsts, EqnHasFirsts, ArmsHaveFirsts, StatesHaveFirsts}
use Rattle.law_values.proofs.FilledLemmas.FirstsFit.{as_given}
use Rattle.law_values.proofs.FilledLemmas.Marked.{Marks, mark, Agree, AllAgree, PastsAgree, of_none, by_same, to_none, unmarked, of_two_agrees, block_agrees, right_agrees, arms_agree, body_agrees, state_agrees, words_agree, there_agrees, past_part, past_own, past_since}
use Rattle.law_values.proofs.FilledLemmas.Places.{of_tests, of_block, of_eqns, of_eqn, of_arms, of_states}
use Rattle.law_values.proofs.FilledLemmas.ClocksFirst.{DeclsFirst, BlockClocks, EqnsClocks, EqnClocks, ArmsClocks, StatesClocks, equation_first}
use Rattle.law_values.specs.Filled.Under.{SameControls}
use Rattle.law_values.proofs.FilledLemmas.Expressions.{Solved, NamesAgree, HaveFirsts, Callees, M, SameRows, same_row, expr_agrees, tests_agree}
use Rattle.law_values.proofs.FilledLemmas.Names.{Same, Quiet, block_gives, branch_gives, firsts_inside, names_inside, lasts_same, lasts_quiet}
use Rattle.law_values.proofs.FilledLemmas.Names as right

-- ---- plain expressions do not look at the past

abbrev without_past : Given → Given
without_past g = record { past = []; free = g.free }

module _ (types : List TypeDecl) (R : Reading) (N : Nodes) where
  plain_same : (e : Expr) (clock : Clock) (names last : Names) (g : Given) (now : Instant) → PlainExpr e → expr types R N e clock names last g now ≡ expr types R N e clock names last (without_past g) now
  plain_same (constant a c) clock names last g now h = refl
  plain_same (variable a x) clock names last g now h = refl
  plain_same (last_of a x) clock names last g now h = refl
  plain_same (one a o d) clock names last g now h =
      ap (λ i. with_one (R.one o (top i)) i) (plain_same d clock names last (at First g) (part First now) h)
  plain_same (two a o d e) clock names last g now h =
      ap₂ (λ i j. with_two (R.two o (top g.free) (top i) (top j)) i j) (plain_same d clock names last (at First g) (part First now) h.0) (plain_same e clock names last (at Second g) (part Second now) h.1)
  plain_same (choose a d e f) clock names last g now h =
      let x = plain_same d clock names last (at First g) (part First now) h.0 in
      let y = plain_same e clock names last (at Second g) (part Second now) h.1.0 in
      let z = plain_same f clock names last (at Third g) (part Third now) h.1.1 in
      λ r. with_three (if_of (top (x r)) (top (y r)) (top (z r))) (x r) (y r) (z r)
  plain_same (pre a d) clock names last g now h = absurd h
  plain_same (fby a d e) clock names last g now h = absurd h
  plain_same (arrow a d e) clock names last g now h = absurd h
  plain_same (when_is a d c x) clock names last g now h = absurd h
  plain_same (merge a x ps) clock names last g now h = absurd h
  plain_same (call a f i es) clock names last g now h = absurd h

  plain_row : (ts : List Trans) (names last : Names) (g : Given) (now : Instant) → PlainTests ts → conditions types R N ts names last g now ≡ conditions types R N ts names last (without_past g) now
  plain_row [] names last g now h = refl
  plain_row (t ∷ ts) names last g now h =
      ap₂ (λ i is. i ∷ is) (plain_same t.cond [] names last (at Head g) (part Head now) h.0) (plain_row ts names last (at Tail g) (part Tail now) h.1)

  scope_fresh : (b : Block) (fresh : Bool) (names last : Names) (g : Given) (now : Instant) → scope types R N b fresh names last g now (Fresh ∷ []) ≡ B fresh
  scope_fresh (block ds es) fresh names last g now = refl

-- a part that is there fits
there_so : (d b : Bool) (Q : Instant → Type 0) (i : Instant) → i (Fresh ∷ []) ≡ B b → IsThere d Q i → Q i
there_so true b Q i e h = h
there_so false b Q i e h = absurd (let z : B b ≡ Absent = sym e ∙ h (Fresh ∷ []) in cc)

both_there : (d b : Bool) (Q P : Instant → Type 0) (i j : Instant) → i (Fresh ∷ []) ≡ B b → IsThere d Q i → IsThere d P j → P j
both_there true b Q P i j e h k = k
both_there false b Q P i j e h k = absurd (let z : B b ≡ Absent = sym e ∙ h (Fresh ∷ []) in cc)

if_there : (d : Bool) (i : Instant) (p : Place) → IsTrue d → (if d then i else nothing) p ≡ i p
if_there true i p h = refl
if_there false i p h = absurd (cc)

module _ (types : List TypeDecl) (N : Nodes) (S : Solved) (among : List ℕ → Option Node) (fits given : List ℕ → Instant → Type 0) (T : List ℕ → Marks) (known : Callees types N S among fits given T) where
  abbrev M' : Nodes
  M' = M types N S among fits given T known

  fresh_mark : (b : Block) (s : Scope) (second : Classes) (class : Assignment) → of_block T s second class b (Fresh ∷ []) ≡ None
  fresh_mark (block ds es) s second class = refl

  abbrev Rows : Marks → List Instant → List Instant → Type 0
  Rows U is js = AllAgree types U (in_row is) (in_row js) × SameRows is js

  abbrev Blocks : Scope → Classes → Assignment → Block → Past → Type 0
  Blocks s second class b past = Each (BlockLoose types true fits s second class b) past

  -- ---- weak conditions, in the body of a state that is there

  until_agrees : (b : Block) (s : Scope) (second : Classes) (lasts : Lasts) (class : Assignment) (names names' last : Names) (past other : Past) (now now' : Instant) → BlockOk types among s second lasts class b → BlockHasFirsts types b → NamesAgree types s second names names' → HaveFirsts types s → Quiet last → Blocks s second class b past → PastsAgree types (of_block T s second class b) past other → AllAgree types (of_block T s second class b) now now'
      → (ts : List Trans) (there : Presence) (h h' : Given) (i i' : Instant) → TestsOk types among (inside_block s b) (classes_of b second class) (lasts_of b lasts) ts → PlainTests ts → TestsFit types true fits (inside_block s b) (classes_of b second class) there ts i → TestsGiven types false as_given given (inside_block s b) ts h'.free → SameControls h.free h'.free
      → ((p : Place) → i p ≡ in_row (conditions types real N ts (read_in types real N b names now) (last_in types real N b past last) h i) p)
      → Rows (of_tests T (inside_block s b) (classes_of b second class) ts) (conditions types real N ts (read_in types real N b names now) (last_in types real N b past last) h i) (conditions types filled M' ts (read_in types filled M' b names' now') (last_in types filled M' b other last) h' i')
  until_agrees (block ds es) s second lasts class names names' last past other now now' ok hf agree firsts quiet a pasts here ts there h h' i i' tok plain k gv cs m =
      let U = of_tests T (with_variables s ds) (classes_in es second class) ts in
      let old = lasts_said (constant_of types) ds past last in
      let same = plain_row types real N ts (inside es names now) old h i plain in
      let same' = plain_row types filled M' ts (inside es names' now') old h' i' plain in
      let r =
      tests_agree types N S among fits given T known (with_variables s ds) (classes_in es second class) (lasts_in ds lasts) (inside es names now) (inside es names' now') old
      (names_inside types N S among fits given T known ds es s second lasts class ok names names' now now' agree here) (firsts_inside types N S among fits given T known ds es s second lasts class ok hf.0 firsts) [] there
      ts (without_past h) (without_past h') i i' tok k tt tt gv cs (λ p. m p ∙ ap (λ z. in_row z p) same) in
      subst (λ l. Rows U (conditions types real N ts (inside es names now) old h i) (conditions types filled M' ts (inside es names' now') l h' i')) (sym (lasts_same types N S among fits given T known ds es s second lasts class ok last past other quiet a pasts))
      (subst (λ z. Rows U z (conditions types filled M' ts (inside es names' now') old h' i')) (sym same)
      (subst (λ z. Rows U (conditions types real N ts (inside es names now) old (without_past h) i) z) (sym same') r))

  -- ---- automata

  abbrev Olds : Scope → Classes → Classes → Assignment → List Presence → States → Past → Type 0
  Olds s out second class ws ss past = Along (λ w i. StatesLoose types true fits s out second class w ss i) ws past

  strong_same : (all ss : States) (k : ℕ) (u j : Jump) (o : Eqn) (s : Scope) (out second : Classes) (lasts : Lasts) (names names' inner last : Names) (agree : NamesAgree types s out names names') (firsts : HaveFirsts types s) (ws : List Presence) (there : Presence) (class : Assignment) (g g' : Given) (now now' : Instant) → StatesOk types among o s out second lasts class ss → StatesLoose types true fits s out second class there ss now → Olds s out second class ws ss g.past → PastsAgree types (of_states T s out second class ss) g.past g'.past → StatesGiven types false as_given given s ss g'.free → SameControls g.free g'.free
      → ((p : Place) → now (p) ≡ states types real N ss k j names inner last g now p) → strong types filled M' all ss k u names' last g' now' ≡ strong types real N all ss k u names last g now
  strong_same all no_state k u j o s out second lasts names names' inner last agree firsts ws there class g g' now now' ok cur past pasts gv cs m = refl
  strong_same all (more_states f b until unless a ss) k u j o s out second lasts names names' inner last agree firsts ws there class g g' now now' ok cur past pasts gv cs m =
      let U = of_states T s out second class (more_states f b until unless a ss) in
      let r =
      tests_agree types N S among fits given T known s out lasts names names' last agree firsts ws there unless (at Unless (at Head g)) (at Unless (at Head g')) (part Unless (part Head now)) (part Unless (part Head now')) ok.1.1.1.0 cur.0.1
      (along_part _ _ Unless ws (parts Head g.past) (λ w i z. z) (along_part _ (λ w i. TestsFit types true fits s out w unless (part Unless i)) Head ws g.past (λ w i z. z.0.1) past))
      (past_part types (λ p. U (Head ∷ p)) Unless (parts Head g.past) (parts Head g'.past) (past_part types U Head g.past g'.past pasts)) gv.1.1.0 (λ p q. cs (Head ∷ Unless ∷ p) q) (λ p. m (Head ∷ Unless ∷ p)) in
      ap₂ (λ vs w. if nat_eq k u.state then first_true all unless vs u else w) (same_row _ _ r.1)
      (strong_same all ss (suc k) u j o s out second lasts names names' inner last agree firsts ws there (λ q. class (Tail ∷ q)) (at Tail g) (at Tail g') (part Tail now) (part Tail now') ok.1.1.1.1 cur.1 (along_part _ _ Tail ws g.past (λ w i z. z.1) past) (past_part types U Tail g.past g'.past pasts) gv.1.1.1 (λ p q. cs (Tail ∷ p) q) (λ p. m (Tail ∷ p)))

  -- the weak conditions of the state that is active
  active_until : (f : List ℕ) (b : Block) (until unless : List Trans) (a : Span) (ss : States) (k : ℕ) (j : Jump) (o : Eqn) (s : Scope) (out second : Classes) (lasts : Lasts) (names inner inner' last : Names) (agree : NamesAgree types s second inner inner') (firsts : HaveFirsts types s) (quiet : Quiet last) (ws : List Presence) (there : Presence) (class : Assignment) (g g' : Given) (now now' : Instant) → StatesPlain (more_states f b until unless a ss) → StatesOk types among o s out second lasts class (more_states f b until unless a ss) → BlockHasFirsts types b → StatesLoose types true fits s out second class there (more_states f b until unless a ss) now → Olds s out second class ws (more_states f b until unless a ss) g.past
      → PastsAgree types (of_states T s out second class (more_states f b until unless a ss)) g.past g'.past → StatesGiven types false as_given given s (more_states f b until unless a ss) g'.free → SameControls g.free g'.free → AllAgree types (of_states T s out second class (more_states f b until unless a ss)) now now'
      → ((p : Place) → now p ≡ states types real N (more_states f b until unless a ss) k j names inner last g now p) → IsTrue (nat_eq k j.state)
      → Rows (of_tests T (inside_block s b) (classes_of b second (λ q. class (Head ∷ Body ∷ q))) until) (weak_in types real N b until j inner last (at Head g) (part Head now)) (weak_in types filled M' b until j inner' last (at Head g') (part Head now'))
  active_until f b until unless a ss k j o s out second lasts names inner inner' last agree firsts quiet ws there class g g' now now' low ok hf cur past pasts gv cs here m h =
      let U = of_states T s out second class (more_states f b until unless a ss) in
      let gb = since j.restart (at Body (at Head g)) in
      let gb' = since j.restart (at Body (at Head g')) in
      let nb = part Body (part Head now) in
      let said = λ (q : Place). m (Head ∷ Body ∷ q) ∙ if_there (nat_eq k j.state) (scope types real N b j.restart inner last gb nb) q h in
      let fresh = said (Fresh ∷ []) ∙ scope_fresh types real N b j.restart inner last gb nb in
      let tests = both_there cur.0.0.0 j.restart (BlockLoose types true fits s second (λ q. class (Head ∷ Body ∷ q)) b) _ nb (part Until (part Head now)) fresh cur.0.0.1.0 cur.0.0.1.1 in
      until_agrees b s second lasts (λ q. class (Head ∷ Body ∷ q)) inner inner' last gb.past gb'.past nb (part Body (part Head now')) ok.1.0 hf agree firsts quiet
      (each_since _ j.restart (parts Body (parts Head g.past)) (each_part2 _ (BlockLoose types true fits s second (λ q. class (Head ∷ Body ∷ q)) b) Head Body ws g.past (λ w i z. (z.0.0.0, z.0.0.1.0)) past))
      (past_since types (λ p. U (Head ∷ Body ∷ p)) (fresh_mark b s second (λ q. class (Head ∷ Body ∷ q))) j.restart (parts Body (parts Head g.past)) (parts Body (parts Head g'.past)) (past_part types (λ p. U (Head ∷ p)) Body (parts Head g.past) (parts Head g'.past) (past_part types U Head g.past g'.past pasts)))
      (λ p. here (Head ∷ Body ∷ p)) until tests.0 (at Until (at Head g)) (at Until (at Head g')) (part Until (part Head now)) (part Until (part Head now')) ok.1.1.0 low.1.0 tests.1.1 gv.1.0 (λ p q. cs (Head ∷ Until ∷ p) q)
      (λ p. m (Head ∷ Until ∷ p) ∙ if_there (nat_eq k j.state) (in_row (weak_in types real N b until j inner last (at Head g) (part Head now))) p h)

  weak_same : (all ss : States) (k : ℕ) (j : Jump) (o : Eqn) (s : Scope) (out second : Classes) (lasts : Lasts) (names inner inner' last : Names) (agree : NamesAgree types s second inner inner') (firsts : HaveFirsts types s) (quiet : Quiet last) (ws : List Presence) (there : Presence) (class : Assignment) (g g' : Given) (now now' : Instant) → StatesPlain ss → StatesOk types among o s out second lasts class ss → StatesHaveFirsts types ss → StatesLoose types true fits s out second class there ss now → Olds s out second class ws ss g.past → PastsAgree types (of_states T s out second class ss) g.past g'.past → StatesGiven types false as_given given s ss g'.free → SameControls g.free g'.free → AllAgree types (of_states T s out second class ss) now now'
      → ((p : Place) → now p ≡ states types real N ss k j names inner last g now p) → weak types filled M' all ss k j inner' last g' now' ≡ weak types real N all ss k j inner last g now
  weak_same all no_state k j o s out second lasts names inner inner' last agree firsts quiet ws there class g g' now now' low ok hf cur past pasts gv cs here m = refl
  weak_same all (more_states f b until unless a ss) k j o s out second lasts names inner inner' last agree firsts quiet ws there class g g' now now' low ok hf cur past pasts gv cs here m =
      let U = of_states T s out second class (more_states f b until unless a ss) in
      choice (nat_eq k j.state)
      (λ h. same_row _ _ (active_until f b until unless a ss k j o s out second lasts names inner inner' last agree firsts quiet ws there class g g' now now' low ok hf.0 cur past pasts gv cs here m h).1)
      (weak_same all ss (suc k) j o s out second lasts names inner inner' last agree firsts quiet ws there (λ q. class (Tail ∷ q)) (at Tail g) (at Tail g') (part Tail now) (part Tail now') low.1.1 ok.1.1.1.1 hf.1 cur.1 (along_part _ _ Tail ws g.past (λ w i z. z.1) past) (past_part types U Tail g.past g'.past pasts) gv.1.1.1 (λ p q. cs (Tail ∷ p) q) (λ p. here (Tail ∷ p)) (λ p. m (Tail ∷ p)))
    where
      none : Jump
      none = record { state = j.state; restart = false }

      choice : (d : Bool) {vs ws' : List Value} {x y : Jump} → (IsTrue d → vs ≡ ws') → x ≡ y → (if d then first_true all until vs none else x) ≡ (if d then first_true all until ws' none else y)
      choice true f e = ap (λ z. first_true all until z none) (f refl)
      choice false f e = e

  selected_same : (o : Span) (ss : States) (s : Scope) (second : Classes) (class : Assignment) (past other : Past) → PastsAgree types (of_eqn T s second class (automaton o ss)) past other → selected other ≡ selected past
  selected_same o ss s second class [] [] h = refl
  selected_same o ss s second class (i ∷ past) (j ∷ other) h =
      ap₂ (λ v w. record { state = state_of v; restart = is_true w }) (of_none types (i (Next ∷ [])) (j (Next ∷ [])) (h.0 (Next ∷ []))) (of_none types (i (Pending ∷ [])) (j (Pending ∷ [])) (h.0 (Pending ∷ [])))
  selected_same o ss s second class [] (j ∷ other) h = absurd h
  selected_same o ss s second class (i ∷ past) [] h = absurd h

  -- ---- what control equations give to a name

  arms_give : (arms : Arms) (o : Eqn) (v : Value) (s : Scope) (second : Classes) (lasts : Lasts) (last : Names) (class : Assignment) (now now' : Instant) → ArmsOk types among o s second lasts class arms → Quiet last → ArmsLoose types true fits s second class arms now → AllAgree types (of_arms T s second class arms) now now' → (x : List ℕ) → Same (from_arm types real N arms v last now x) (from_arm types filled M' arms v last now' x)
  arms_give no_arm o v s second lasts last class now now' ok quiet k here x = (refl, λ e. absurd (cc))
  arms_give (more_arms c b a arms) o v s second lasts last class now now' ok quiet k here x =
      choice (is_cons types v c)
      (branch_gives types N S among fits given T known b s second (λ q. class (Head ∷ q)) k.0.0 last (part Head now) (part Head now') (others_first types among b s second lasts (λ q. class (Head ∷ q)) ok.1.0) k.0.1 (λ p. here (Head ∷ p)) quiet x)
      (arms_give arms o v s second lasts last (λ q. class (Tail ∷ q)) (part Tail now) (part Tail now') ok.1.1 quiet k.1 (λ p. here (Tail ∷ p)) x)
    where
      choice : (d : Bool) {u w y z : Value} → Same u w → Same y z → Same (if d then u else y) (if d then w else z)
      choice true f e = f
      choice false f e = e

  states_give : (ss : States) (o : Eqn) (k n : ℕ) (s : Scope) (out second : Classes) (lasts : Lasts) (last : Names) (there : Presence) (class : Assignment) (now now' : Instant) → StatesOk types among o s out second lasts class ss → Quiet last → StatesLoose types true fits s out second class there ss now → AllAgree types (of_states T s out second class ss) now now' → (x : List ℕ) → Same (from_state ss k n last now x) (from_state ss k n last now' x)
  states_give no_state o k n s out second lasts last there class now now' ok quiet cur here x = (refl, λ e. absurd (cc))
  states_give (more_states f b until unless a ss) o k n s out second lasts last there class now now' ok quiet cur here x =
      choice (nat_eq k n)
      (branch_gives types N S among fits given T known b s second (λ q. class (Head ∷ Body ∷ q)) cur.0.0.0 last (part Body (part Head now)) (part Body (part Head now')) (others_first types among b s second lasts (λ q. class (Head ∷ Body ∷ q)) ok.1.0) cur.0.0.1.0 (λ p. here (Head ∷ Body ∷ p)) quiet x)
      (states_give ss o (suc k) n s out second lasts last there (λ q. class (Tail ∷ q)) (part Tail now) (part Tail now') ok.1.1.1.1 quiet cur.1 (λ p. here (Tail ∷ p)) x)
    where
      choice : (d : Bool) {u w y z : Value} → Same u w → Same y z → Same (if d then u else y) (if d then w else z)
      choice true f e = f
      choice false f e = e

  -- inside the control equation that defines a name its last value is read
  names_within : (e : Eqn) (s : Scope) (second : Classes) (names names' last : Names) → NamesAgree types s second names names' → NamesAgree types s (classes_within e second) (within e names last) (within e names' last)
  names_within e s second names names' last agree x = by (defines e x)
    where
      by : (d : Bool) → Agree types (mark (if d then false else second x) (lookup s.variables x)) (if d then last x else names x) (if d then last x else names' x)
      by true = to_none types (last x) (last x) refl
      by false = agree x

  expr_of : (s : Scope) (second : Classes) (lasts : Lasts) (ys : List (List ℕ × Span)) (e : Expr) → RightOk types among s second lasts ys e → ExprOk types among s second lasts e
  expr_of s second lasts ys (constant a c) ok = ok.0
  expr_of s second lasts ys (variable a x) ok = ok.0
  expr_of s second lasts ys (last_of a x) ok = ok.0
  expr_of s second lasts ys (one a o b) ok = ok.0
  expr_of s second lasts ys (two a o b c) ok = ok.0
  expr_of s second lasts ys (choose a b c d) ok = ok.0
  expr_of s second lasts ys (pre a b) ok = ok.0
  expr_of s second lasts ys (fby a b c) ok = ok.0
  expr_of s second lasts ys (arrow a b c) ok = ok.0
  expr_of s second lasts ys (when_is a b c x) ok = ok.0
  expr_of s second lasts ys (merge a x ps) ok = ok.0
  expr_of s second lasts ys (call a f i es) ok = ok.0

  abbrev Gives : Scope → Classes → (List ℕ → Bool) → Names → Names → Type 0
  Gives s second defs values values' = (x : List ℕ) → IsTrue (defs x) → Agree types (mark (second x) (lookup s.variables x)) (values x) (values' x)

  all_give : (s : Scope) (second : Classes) (defs : List ℕ → Bool) (values values' : Names) → ((x : List ℕ) → IsTrue (defs x) → Same (values x) (values' x)) → Gives s second defs values values'
  all_give s second defs values values' f x h = let q = f x h in by_same types (mark (second x) (lookup s.variables x)) (values x) (values' x) q.0 q.1

  mutual
    pub scope_agrees : (b : Block) (s : Scope) (second : Classes) (lasts : Lasts) (class : Assignment) (names names' last : Names) (fresh : Bool) (g g' : Given) (now now' : Instant) → IsPlain b → BlockOk types among s second lasts class b → BlockClocks second class b → BlockHasFirsts types b → NamesAgree types s second names names' → HaveFirsts types s → Quiet last → BlockLoose types true fits s second class b now → Blocks s second class b g.past → PastsAgree types (of_block T s second class b) g.past g'.past → BlockGiven types false as_given given s b g'.free → SameControls g.free g'.free → AllAgree types (of_block T s second class b) now now'
        → ((p : Place) → now p ≡ scope types real N b fresh names last g now p) → AllAgree types (of_block T s second class b) (scope types real N b fresh names last g now) (scope types filled M' b fresh names' last g' now')
    scope_agrees (block ds es) s second lasts class names names' last fresh g g' now now' low ok ck hf agree firsts quiet cur a pasts gv cs here m =
        let U = of_block T s second class (block ds es) in
        let pr = presences _ g.past a in
        let old = lasts_said (constant_of types) ds g.past last in
        let ns = inside es names now in
        let ns' = inside es names' now' in
        let rec =
        eqns_agree es ds (with_variables s ds) (classes_in es second class) (lasts_in ds lasts) ns ns' old
        (names_inside types N S among fits given T known ds es s second lasts class ok names names' now now' agree here) (firsts_inside types N S among fits given T known ds es s second lasts class ok hf.0 firsts)
        (lasts_quiet types N S among fits given T known ds es s second lasts class ok last g.past g'.past quiet a pasts) pr.0 cur.0 (λ q. class (Equations ∷ q)) (at Equations g) (at Equations g') (part Equations now) (part Equations now') low ok.1.1 ck.0 ck.1 hf.1 cur.1.1.1
        (along_part _ _ Equations pr.0 g.past (λ w i z. z.1) pr.1.1) (past_part types U Equations g.past g'.past pasts) gv (λ p q. cs (Equations ∷ p) q) (λ p. here (Equations ∷ p)) (λ p. m (Equations ∷ p)) in
        subst (λ l. AllAgree types U (scope types real N (block ds es) fresh names last g now) (in_block (λ x. if some_defines es x then defined types filled M' ds es ns' l (at Equations g') (part Equations now') x else Absent) (B fresh) (equations types filled M' ds es ns' l (at Equations g') (part Equations now'))))
        (sym (lasts_same types N S among fits given T known ds es s second lasts class ok last g.past g'.past quiet a pasts))
        (block_agrees types U (λ x. if some_defines es x then defined types real N ds es ns old (at Equations g) (part Equations now) x else Absent) (λ x. if some_defines es x then defined types filled M' ds es ns' old (at Equations g') (part Equations now') x else Absent) fresh _ _
        (λ x. choice x (some_defines es x) _ _ (rec.1 x)) rec.0)
      where
        choice : (x : List ℕ) (d : Bool) (v w : Value) → (IsTrue d → Agree types (mark (if d then class (Named x ∷ []) else second x) (lookup (with_variables s ds).variables x)) v w) → Agree types (mark (class (Named x ∷ [])) (lookup (with_variables s ds).variables x)) (if d then v else Absent) (if d then w else Absent)
        choice x true v w f = f refl
        choice x false v w f = refl

    eqns_agree : (es : Eqns) (ds : List Decl) (s : Scope) (second : Classes) (lasts : Lasts) (names names' last : Names) (agree : NamesAgree types s second names names') (firsts : HaveFirsts types s) (quiet : Quiet last) (ws : List Presence) (there : Presence) (class : Assignment) (g g' : Given) (now now' : Instant) → AllPlain es → EqnsOk types among s second lasts class es → DeclsFirst second ds → EqnsClocks second class es → EqnsHaveFirsts types es → EqnsLoose types true fits ds s second class there es now → Along (λ w i. EqnsLoose types true fits ds s second class w es i) ws g.past → PastsAgree types (of_eqns T s second class es) g.past g'.past → EqnsGiven types false as_given given s es g'.free → SameControls g.free g'.free → AllAgree types (of_eqns T s second class es) now now'
        → ((p : Place) → now p ≡ equations types real N ds es names last g now p) → AllAgree types (of_eqns T s second class es) (equations types real N ds es names last g now) (equations types filled M' ds es names' last g' now') × Gives s second (some_defines es) (defined types real N ds es names last g now) (defined types filled M' ds es names' last g' now')
    eqns_agree no_eqn ds s second lasts names names' last agree firsts quiet ws there class g g' now now' low ok df ck hf cur past pasts gv cs here m = ((λ p. refl), (λ x h. absurd (cc)))
    eqns_agree (more_eqns e es) ds s second lasts names names' last agree firsts quiet ws there class g g' now now' low ok df ck hf cur past pasts gv cs here m =
        let U = of_eqns T s second class (more_eqns e es) in
        let one' = eqn_agrees e ds s second lasts names names' last agree firsts quiet ws there (λ q. class (Head ∷ q)) (at Head g) (at Head g') (part Head now) (part Head now') low.0 ok.0 df ck.0 hf.0 cur.0 (along_part _ _ Head ws g.past (λ w i z. z.0) past) (past_part types U Head g.past g'.past pasts) gv.0 (λ p q. cs (Head ∷ p) q) (λ p. here (Head ∷ p)) (λ p. m (Head ∷ p)) in
        let rest = eqns_agree es ds s second lasts names names' last agree firsts quiet ws there (λ q. class (Tail ∷ q)) (at Tail g) (at Tail g') (part Tail now) (part Tail now') low.1 ok.1 df ck.1 hf.1 cur.1 (along_part _ _ Tail ws g.past (λ w i z. z.1) past) (past_part types U Tail g.past g'.past pasts) gv.1 (λ p q. cs (Tail ∷ p) q) (λ p. here (Tail ∷ p)) (λ p. m (Tail ∷ p)) in (
          of_two_agrees types U _ _ _ _ one'.0 rest.0,
          (λ x h. choice x (defines e x) _ _ _ _ (one'.1 x) (rest.1 x) h),
        )
      where
        choice : (x : List ℕ) (d : Bool) (v w y z : Value) → (IsTrue d → Agree types (mark (second x) (lookup s.variables x)) v w) → (IsTrue (some_defines es x) → Agree types (mark (second x) (lookup s.variables x)) y z) → IsTrue (d || some_defines es x) → Agree types (mark (second x) (lookup s.variables x)) (if d then v else y) (if d then w else z)
        choice x true v w y z f e h = f refl
        choice x false v w y z f e h = e h

    eqn_agrees : (e : Eqn) (ds : List Decl) (s : Scope) (second : Classes) (lasts : Lasts) (names names' last : Names) (agree : NamesAgree types s second names names') (firsts : HaveFirsts types s) (quiet : Quiet last) (ws : List Presence) (there : Presence) (class : Assignment) (g g' : Given) (now now' : Instant) → OnePlain e → EqnOk types among s second lasts class e → DeclsFirst second ds → EqnClocks second class e → EqnHasFirsts types e → EqnLoose types true fits ds s second class there e now → Along (λ w i. EqnLoose types true fits ds s second class w e i) ws g.past → PastsAgree types (of_eqn T s second class e) g.past g'.past → EqnGiven types false as_given given s e g'.free → SameControls g.free g'.free → AllAgree types (of_eqn T s second class e) now now'
        → ((p : Place) → now p ≡ equation types real N ds e names last g now p) → AllAgree types (of_eqn T s second class e) (equation types real N ds e names last g now) (equation types filled M' ds e names' last g' now') × Gives s second (defines e) (gives types real N ds e names last g now) (gives types filled M' ds e names' last g' now')
    eqn_agrees (define a ys e) ds s second lasts names names' last agree firsts quiet ws there class g g' now now' low ok df ck hf cur past pasts gv cs here m =
        let U = of_eqn T s second class (define a ys e) in
        let r =
        right.right_agrees types N S among fits given T known s second lasts names names' last agree firsts ws there ys e (clock_of ds ys e) (at Right g) (at Right g') (part Right now) (part Right now') ok (equation_first types among s second lasts ds df ys e (expr_of s second lasts ys e ok)) cur
        (along_part _ _ Right ws g.past (λ w i z. z) past) (past_part types U Right g.past g'.past pasts) gv (λ p q. cs (Right ∷ p) q) (λ p. m (Right ∷ p)) in
        (right_agrees types U _ _ r.0, r.1)
    eqn_agrees (switch a e arms) ds s second lasts names names' last agree firsts quiet ws there class g g' now now' low ok df ck hf cur past pasts gv cs here m =
        let U = of_eqn T s second class (switch a e arms) in
        let second' = classes_within (switch a e arms) second in
        let r =
        expr_agrees types N S among fits given T known s second lasts names names' last agree firsts ws there e ok.1.1.0.0 [] (at Test g) (at Test g') (part Test now) (part Test now') ok.1.1.0.1.0 ok.0 tt cur.0
        (along_part _ _ Test ws g.past (λ w i z. z.0) past) (past_part types U Test g.past g'.past pasts) gv.0 (λ p q. cs (Test ∷ p) q) (λ p. m (Test ∷ p)) in
        let i = expr types real N e [] names last (at Test g) (part Test now) in
        let j = expr types filled M' e [] names' last (at Test g') (part Test now') in
        let same : top j ≡ top i = unmarked types (is_second second e) (type_of s e) (top i) (top j) ok.1.0 (r []) in
        let rec =
        all_arms_agree arms (switch a e arms) (top i) s second' lasts (within (switch a e arms) names last) (within (switch a e arms) names' last) last (names_within (switch a e arms) s second names names' last agree) firsts quiet ws (λ q. class (ArmsOf ∷ q)) (at ArmsOf g) (at ArmsOf g') (part ArmsOf now) (part ArmsOf now') low ok.1.1.1 ck hf cur.1
        (along_part _ _ ArmsOf ws g.past (λ w i z. z.1) past) (past_part types U ArmsOf g.past g'.past pasts) gv.1 (λ p q. cs (ArmsOf ∷ p) q) (λ p. here (ArmsOf ∷ p)) (λ p. m (ArmsOf ∷ p)) in (
          subst (λ v. AllAgree types U (equation types real N ds (switch a e arms) names last g now) (with_arms j (arm types filled M' arms v (within (switch a e arms) names' last) last (at ArmsOf g') (part ArmsOf now')))) (sym same)
              (arms_agree types U i _ j _ r rec),
          subst (λ v. Gives s second (defines (switch a e arms)) (gives types real N ds (switch a e arms) names last g now) (from_arm types filled M' arms v last (part ArmsOf now'))) (sym same)
              (all_give s second (defines (switch a e arms)) _ _ (λ x h. arms_give arms (switch a e arms) (top i) s second' lasts last (λ q. class (ArmsOf ∷ q)) (part ArmsOf now) (part ArmsOf now') ok.1.1.1 quiet cur.1 (λ p. here (ArmsOf ∷ p)) x)),
        )
    eqn_agrees (reset a b e) ds s second lasts names names' last agree firsts quiet ws there class g g' now now' low ok df ck hf cur past pasts gv cs here m =
        let U = of_eqn T s second class (reset a b e) in
        let second' = classes_within (reset a b e) second in
        let r =
        expr_agrees types N S among fits given T known s second lasts names names' last agree firsts ws there e ty.Bool [] (at Test g) (at Test g') (part Test now) (part Test now') ok.0.1.1 ok.0.0 tt cur.0
        (along_part _ _ Test ws g.past (λ w i z. z.0) past) (past_part types U Test g.past g'.past pasts) gv.0 (λ p q. cs (Test ∷ p) q) (λ p. m (Test ∷ p)) in
        let i = expr types real N e [] names last (at Test g) (part Test now) in
        let j = expr types filled M' e [] names' last (at Test g') (part Test now') in
        let same : top j ≡ top i = unmarked types (is_second second e) (type_of s e) (top i) (top j) ok.0.1.0 (r []) in
        let fresh = is_true (top i) in
        let rec =
        scope_agrees b s second' lasts (λ q. class (Body ∷ q)) (within (reset a b e) names last) (within (reset a b e) names' last) last fresh (since fresh (at Body g)) (since fresh (at Body g')) (part Body now) (part Body now') low ok.1 ck hf (names_within (reset a b e) s second names names' last agree) firsts quiet cur.1
        (each_since _ fresh (parts Body g.past) (each_part _ (BlockLoose types true fits s second' (λ q. class (Body ∷ q)) b) Body ws g.past (λ w i z. (true, z.1)) past))
        (past_since types (λ p. U (Body ∷ p)) (fresh_mark b s second' (λ q. class (Body ∷ q))) fresh (parts Body g.past) (parts Body g'.past) (past_part types U Body g.past g'.past pasts))
        gv.1 (λ p q. cs (Body ∷ p) q) (λ p. here (Body ∷ p)) (λ p. m (Body ∷ p)) in (
          subst (λ v. AllAgree types U (equation types real N ds (reset a b e) names last g now) (with_body j (scope types filled M' b (is_true v) (within (reset a b e) names' last) last (since (is_true v) (at Body g')) (part Body now')))) (sym same)
              (body_agrees types U i _ j _ r rec),
          all_give s second (defines (reset a b e)) _ _ (λ x h. block_gives types N S among fits given T known b s second' (λ q. class (Body ∷ q)) true (part Body now) (part Body now') (others_first types among b s second' lasts (λ q. class (Body ∷ q)) ok.1) cur.1 (λ p. here (Body ∷ p)) x h),
        )
    eqn_agrees (automaton a ss) ds s second lasts names names' last agree firsts quiet ws there class g g' now now' low ok df ck hf cur past pasts gv cs here m =
        let U = of_eqn T s second class (automaton a ss) in
        let second' = classes_within (automaton a ss) second in
        let inner = within (automaton a ss) names last in
        let inner' = within (automaton a ss) names' last in
        let ag = names_within (automaton a ss) s second names names' last agree in
        let gs = at StatesOf g in
        let gs' = at StatesOf g' in
        let ns = part StatesOf now in
        let ns' = part StatesOf now' in
        let before = along_part _ (λ w i. StatesLoose types true fits s second second' (λ q. class (StatesOf ∷ q)) w ss i) StatesOf ws g.past (λ w i z. z.1.1) past in
        let earlier = past_part types U StatesOf g.past g'.past pasts in
        let j = strong types real N ss ss 0 (selected g.past) names last gs ns in
        let said = λ (p : Place). m (StatesOf ∷ p) in
        let same : strong types filled M' ss ss 0 (selected g'.past) names' last gs' ns' ≡ j =
        ap (λ z. strong types filled M' ss ss 0 z names' last gs' ns') (selected_same a ss s second class g.past g'.past pasts)
        ∙ strong_same ss ss 0 (selected g.past) j (automaton a ss) s second second' lasts names names' inner last agree firsts ws there (λ q. class (StatesOf ∷ q)) gs gs' ns ns' ok cur.1.1 before earlier gv (λ p q. cs (StatesOf ∷ p) q) said in
        let w = weak types real N ss ss 0 j inner last gs ns in
        let weaker' : weak types filled M' ss ss 0 j inner' last gs' ns' ≡ w =
        weak_same ss ss 0 j (automaton a ss) s second second' lasts names inner inner' last ag firsts quiet ws there (λ q. class (StatesOf ∷ q)) gs gs' ns ns' low.1 ok hf cur.1.1 before earlier gv (λ p q. cs (StatesOf ∷ p) q) (λ p. here (StatesOf ∷ p)) said in
        let rec =
        all_states_agree ss (automaton a ss) 0 j s second second' lasts names names' inner inner' last agree ag firsts quiet ws there (λ q. class (StatesOf ∷ q)) gs gs' ns ns' low.1 ok ck hf cur.1.1 before earlier gv (λ p q. cs (StatesOf ∷ p) q) (λ p. here (StatesOf ∷ p)) said in (
          subst (λ z. AllAgree types U (equation types real N ds (automaton a ss) names last g now) (with_words (state_word z.state) (state_word (weak types filled M' ss ss 0 z inner' last gs' ns').state) (B (weak types filled M' ss ss 0 z inner' last gs' ns').restart) (states types filled M' ss 0 z names' inner' last gs' ns'))) (sym same)
              (subst (λ z. AllAgree types U (equation types real N ds (automaton a ss) names last g now) (with_words (state_word j.state) (state_word z.state) (B z.restart) (states types filled M' ss 0 j names' inner' last gs' ns'))) (sym weaker')
              (words_agree types U j.state w.state w.restart _ _ rec)),
          subst (λ z. Gives s second (defines (automaton a ss)) (gives types real N ds (automaton a ss) names last g now) (from_state ss 0 z.state last ns')) (sym same)
              (all_give s second (defines (automaton a ss)) _ _ (λ x h. states_give ss (automaton a ss) 0 j.state s second second' lasts last there (λ q. class (StatesOf ∷ q)) ns ns' ok quiet cur.1.1 (λ p. here (StatesOf ∷ p)) x)),
        )

    all_arms_agree : (arms : Arms) (o : Eqn) (v : Value) (s : Scope) (second : Classes) (lasts : Lasts) (names names' last : Names) (agree : NamesAgree types s second names names') (firsts : HaveFirsts types s) (quiet : Quiet last) (ws : List Presence) (class : Assignment) (g g' : Given) (now now' : Instant) → ArmsPlain arms → ArmsOk types among o s second lasts class arms → ArmsClocks second class arms → ArmsHaveFirsts types arms → ArmsLoose types true fits s second class arms now → Along (λ w i. ArmsLoose types true fits s second class arms i) ws g.past → PastsAgree types (of_arms T s second class arms) g.past g'.past → ArmsGiven types false as_given given s arms g'.free → SameControls g.free g'.free → AllAgree types (of_arms T s second class arms) now now'
        → ((p : Place) → now p ≡ arm types real N arms v names last g now p) → AllAgree types (of_arms T s second class arms) (arm types real N arms v names last g now) (arm types filled M' arms v names' last g' now')
    all_arms_agree no_arm o v s second lasts names names' last agree firsts quiet ws class g g' now now' low ok ck hf cur past pasts gv cs here m = λ p. refl
    all_arms_agree (more_arms c b a arms) o v s second lasts names names' last agree firsts quiet ws class g g' now now' low ok ck hf cur past pasts gv cs here m =
        let U = of_arms T s second class (more_arms c b a arms) in
        let class' = λ (q : Place). class (Head ∷ q) in
        let d = is_cons types v c in
        let gb = since false (at Head g) in
        let said = λ (h : IsTrue d) (q : Place). m (Head ∷ q) ∙ if_there d (scope types real N b false names last gb (part Head now)) q h in
        of_two_agrees types U _ _ _ _
        (there_agrees types (λ p. U (Head ∷ p)) d _ _
        (λ h.
        scope_agrees b s second lasts class' names names' last false gb (since false (at Head g')) (part Head now) (part Head now') low.0 ok.1.0 ck.0 hf.0 agree firsts quiet
        (there_so cur.0.0 false (BlockLoose types true fits s second class' b) (part Head now) (said h (Fresh ∷ []) ∙ scope_fresh types real N b false names last gb (part Head now)) cur.0.1)
        (own_all _ (parts Head g.past) (each_part _ (BlockLoose types true fits s second class' b) Head ws g.past (λ w i z. z.0) past))
        (past_own types (λ p. U (Head ∷ p)) (fresh_mark b s second class') (parts Head g.past) (parts Head g'.past) (past_part types U Head g.past g'.past pasts))
        gv.0 (λ p q. cs (Head ∷ p) q) (λ p. here (Head ∷ p)) (said h)))
        (all_arms_agree arms o v s second lasts names names' last agree firsts quiet ws (λ q. class (Tail ∷ q)) (at Tail g) (at Tail g') (part Tail now) (part Tail now') low.1 ok.1.1 ck.1 hf.1 cur.1 (along_part _ _ Tail ws g.past (λ w i z. z.1) past) (past_part types U Tail g.past g'.past pasts) gv.1 (λ p q. cs (Tail ∷ p) q) (λ p. here (Tail ∷ p)) (λ p. m (Tail ∷ p)))

    all_states_agree : (ss : States) (o : Eqn) (k : ℕ) (j : Jump) (s : Scope) (out second : Classes) (lasts : Lasts) (names names' inner inner' last : Names) (agree : NamesAgree types s out names names') (ag : NamesAgree types s second inner inner') (firsts : HaveFirsts types s) (quiet : Quiet last) (ws : List Presence) (there : Presence) (class : Assignment) (g g' : Given) (now now' : Instant) → StatesPlain ss → StatesOk types among o s out second lasts class ss → StatesClocks second class ss → StatesHaveFirsts types ss → StatesLoose types true fits s out second class there ss now → Olds s out second class ws ss g.past → PastsAgree types (of_states T s out second class ss) g.past g'.past → StatesGiven types false as_given given s ss g'.free → SameControls g.free g'.free → AllAgree types (of_states T s out second class ss) now now'
        → ((p : Place) → now p ≡ states types real N ss k j names inner last g now p) → AllAgree types (of_states T s out second class ss) (states types real N ss k j names inner last g now) (states types filled M' ss k j names' inner' last g' now')
    all_states_agree no_state o k j s out second lasts names names' inner inner' last agree ag firsts quiet ws there class g g' now now' low ok ck hf cur past pasts gv cs here m = λ p. refl
    all_states_agree (more_states f b until unless a ss) o k j s out second lasts names names' inner inner' last agree ag firsts quiet ws there class g g' now now' low ok ck hf cur past pasts gv cs here m =
        let U = of_states T s out second class (more_states f b until unless a ss) in
        let class' = λ (q : Place). class (Head ∷ Body ∷ q) in
        let d = nat_eq k j.state in
        let nb = part Body (part Head now) in
        let gb = since j.restart (at Body (at Head g)) in
        let said = λ (h : IsTrue d) (q : Place). m (Head ∷ Body ∷ q) ∙ if_there d (scope types real N b j.restart inner last gb nb) q h in
        let strong' =
        tests_agree types N S among fits given T known s out lasts names names' last agree firsts ws there unless (at Unless (at Head g)) (at Unless (at Head g')) (part Unless (part Head now)) (part Unless (part Head now')) ok.1.1.1.0 cur.0.1
        (along_part _ _ Unless ws (parts Head g.past) (λ w i z. z) (along_part _ (λ w i. TestsFit types true fits s out w unless (part Unless i)) Head ws g.past (λ w i z. z.0.1) past))
        (past_part types (λ p. U (Head ∷ p)) Unless (parts Head g.past) (parts Head g'.past) (past_part types U Head g.past g'.past pasts)) gv.1.1.0 (λ p q. cs (Head ∷ Unless ∷ p) q) (λ p. m (Head ∷ Unless ∷ p)) in
        of_two_agrees types U _ _ _ _
        (state_agrees types (λ p. U (Head ∷ p)) _ _ _ _ _ _
        (there_agrees types (λ p. U (Head ∷ Body ∷ p)) d _ _
        (λ h.
        scope_agrees b s second lasts class' inner inner' last j.restart gb (since j.restart (at Body (at Head g'))) nb (part Body (part Head now')) low.0 ok.1.0 ck.0 hf.0 ag firsts quiet
        (there_so cur.0.0.0 j.restart (BlockLoose types true fits s second class' b) nb (said h (Fresh ∷ []) ∙ scope_fresh types real N b j.restart inner last gb nb) cur.0.0.1.0)
        (each_since _ j.restart (parts Body (parts Head g.past)) (each_part2 _ (BlockLoose types true fits s second class' b) Head Body ws g.past (λ w i z. (z.0.0.0, z.0.0.1.0)) past))
        (past_since types (λ p. U (Head ∷ Body ∷ p)) (fresh_mark b s second class') j.restart (parts Body (parts Head g.past)) (parts Body (parts Head g'.past)) (past_part types (λ p. U (Head ∷ p)) Body (parts Head g.past) (parts Head g'.past) (past_part types U Head g.past g'.past pasts)))
        gv.0 (λ p q. cs (Head ∷ Body ∷ p) q) (λ p. here (Head ∷ Body ∷ p)) (said h)))
        (there_agrees types (λ p. U (Head ∷ Until ∷ p)) d _ _ (λ h. (active_until f b until unless a ss k j o s out second lasts names inner inner' last ag firsts quiet ws there class g g' now now' low ok hf.0 cur past pasts gv cs here m h).0))
        strong'.0)
        (all_states_agree ss o (suc k) j s out second lasts names names' inner inner' last agree ag firsts quiet ws there (λ q. class (Tail ∷ q)) (at Tail g) (at Tail g') (part Tail now) (part Tail now') low.1.1 ok.1.1.1.1 ck.1 hf.1 cur.1 (along_part _ _ Tail ws g.past (λ w i z. z.1) past) (past_part types U Tail g.past g'.past pasts) gv.1.1.1 (λ p q. cs (Tail ∷ p) q) (λ p. here (Tail ∷ p)) (λ p. m (Tail ∷ p)))
