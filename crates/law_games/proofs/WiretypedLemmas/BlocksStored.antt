-- Typed wires of a block are sound, and its registers stay in shape.
use Rattle.std.proofs.Common.{◌<◌, ℕ, suc, List, [], ◌∷◌, sym, subst, ◌∙◌, arith}
use Rattle.std.specs.Prelude.{if◌then◌else◌, nat_eq, Option}
use Rattle.hp_base.specs.declared.ty.Ty.TheVariants as ty
use Rattle.hp_base.specs.declared.value.Value.{Value}
use Rattle.hp_base.specs.declared.value.Value.TheVariants.{Absent}
use Rattle.hp_tree.specs.Blocks.{Decl, Block, block, Eqns, no_eqn, more_eqns, Eqn, define, switch, reset, automaton, Arms, no_arm, more_arms, States, no_state, more_states}
use Rattle.hp_tree.specs.Programs.{TypeDecl, Node}
use Rattle.hp_tree.specs.Operators.{is_cons, is_true}
use Rattle.hp_tree.specs.Instant.{Body, Named, Fresh, Equations, Head, Tail, Right, Test, Arms as ArmsOf, States as StatesOf, Until, Unless, Active, Instant, part, in_row}
use Rattle.hp_tree.specs.Meaning.{Names, inside as inside_names, within, clock_of, state_of}
use Rattle.hp_base.specs.Known.Known.{lookup}
use Rattle.hp_typing.specs.Scopes.{with_variables, inside}
use Rattle.law_judged.specs.Typed.Scopes.{Scope}
use Rattle.hp_meaning.specs.Causal.Clocked.{Standing, standing_in, standing_of, BlockRight, AllRight, OneRight, ArmsRight, StatesRight}
use Rattle.law_values.specs.Valued.Judged.{Lasts, lasts_in as known_lasts, lasts_of as known_of, of_arms, BlockSound, EqnsSound, EqnSound, ArmsSound, StatesSound}
use Rattle.law_values.specs.Valued.Fitting.{count}
use Rattle.law_games.specs.Wires.Wired.{Held, held_at, Callees, lasts_in}
use Rattle.law_games.specs.Wires.WiredBlocks.{read_of, anew, next_conditions, next_block, next_equations, next_equation, next_arms, next_states, SoundBlock, SoundEquations, SoundEquation, SoundArms, SoundStates}
use Rattle.law_games.specs.Wiretyped.Typed.{IsWire, IsStateOf, BlockTyped, EqnsTyped, EqnTyped, ArmsTyped, StatesTyped}
use Rattle.law_games.specs.Wiretyped.Kept.{TestsKept, BlockKept, EqnsKept, EqnKept, ArmsKept, StatesKept, BlockGiven, EqnsGiven, EqnGiven, ArmsGiven, StatesGiven}
use Rattle.law_games.proofs.WiretypedLemmas.Values.{wire_covered, arm_of}
use Rattle.law_games.proofs.WiretypedLemmas.Exprs.{CalleesTyped, NamesAre, LastsAre, as_wire, top_is}
use Rattle.law_games.proofs.WiretypedLemmas.Stored.{either_of, judged_of, right_judged, expr_sound, tests_sound, expr_next, tests_next}
use Rattle.law_games.proofs.WiretypedLemmas.Scopes.{OuterAre, names_inside, lasts_inside, last_declared, declared_is, branch_outer, reset_outer, state_there}
use Rattle.law_games.proofs.WiretypedLemmas.Begins.{anew_kept, seen_in}

module _ (types : List TypeDecl) (C : Callees) (among : List ℕ → Option Node) (typed : List ℕ → Instant → Type 0) (kept : List ℕ → Instant → Instant → Type 0) (given : List ℕ → Instant → Type 0) (K : CalleesTyped types C among typed kept given) where
  number_less : (ss : States) (v : Value) → IsStateOf ss v → state_of v < count ss
  number_less ss v h = subst (λ z. state_of z < count ss) (sym h.1.0) h.1.1

  -- ---- what is asked of wires

  mutual
    pub block_sound : (b : Block) (st : Standing) (s : Scope) (lasts : Lasts) (names last : Names) (m : Held) (W : Instant) → OuterAre types among b st s names → LastsAre types s lasts last → BlockRight st b → BlockSound types among s lasts b → BlockKept types kept s b m.start m.memory → BlockGiven types given s b m.free → BlockTyped types typed s b W → SoundBlock types C b names last m W
    block_sound (block ds es) st s lasts names last m W outer lk r ok k g w =
        eqns_sound es ds (standing_in ds es st) (with_variables s ds) (known_lasts ds lasts) (inside_names es names W) (lasts_in ds m.memory last) (held_at Equations m) (part Equations W)
        (names_inside types among ds es st s names W ok.0 outer w.0) (lasts_inside types among ds es s lasts last m.memory ok.0 lk k.0) r.1 ok.1.1 k.1 g w.1

    eqns_sound : (es : Eqns) (ds : List Decl) (st : Standing) (s : Scope) (lasts : Lasts) (names last : Names) (m : Held) (W : Instant) → NamesAre types s st names → LastsAre types s lasts last → AllRight st ds es → EqnsSound types among s lasts es → EqnsKept types kept s es m.start m.memory → EqnsGiven types given s es m.free → EqnsTyped types typed s es W → SoundEquations types C es names last m W
    eqns_sound no_eqn ds st s lasts names last m W nk lk r ok k g w = tt
    eqns_sound (more_eqns e es) ds st s lasts names last m W nk lk r ok k g w = (
      eqn_sound e ds st s lasts names last (held_at Head m) (part Head W) nk lk r.0 ok.0 k.0 g.0 w.0,
      eqns_sound es ds st s lasts names last (held_at Tail m) (part Tail W) nk lk r.1 ok.1 k.1 g.1 w.1,
    )

    eqn_sound : (e : Eqn) (ds : List Decl) (st : Standing) (s : Scope) (lasts : Lasts) (names last : Names) (m : Held) (W : Instant) → NamesAre types s st names → LastsAre types s lasts last → OneRight st ds e → EqnSound types among s lasts e → EqnKept types kept s e m.start m.memory → EqnGiven types given s e m.free → EqnTyped types typed s e W → SoundEquation types C e names last m W
    eqn_sound (define at ys e) ds st s lasts names last m W nk lk r ok k g w =
        let j = right_judged types among s lasts ys e ok in
        expr_sound types C among typed kept given K s st lasts names nk e (clock_of ds ys e) (held_at Right m) (part Right W) r.2 j.0 j.1 k g w
    eqn_sound (switch at e arms) ds st s lasts names last m W nk lk r ok k g w =
        let t = ok.1.0.0 in (
          expr_sound types C among typed kept given K s st lasts names nk e [] (held_at Test m) (part Test W) r.1 ok.0 (judged_of s e t ok.1.0.1.0) k.0 g.0 w.0,
          sym (arm_of types C arms (W (Test ∷ []))) ∙ wire_covered types t (W (Test ∷ [])) (of_arms arms) (top_is types typed s e t (part Test W) ok.1.0.1.0 w.0) ok.1.0.1.1,
          arms_sound arms (switch at e arms) st s lasts names last (held_at ArmsOf m) (part ArmsOf W) nk lk r.2 ok.1.1 k.1 g.1 w.1,
        )
    eqn_sound (reset at b e) ds st s lasts names last m W nk lk r ok k g w = (
      expr_sound types C among typed kept given K s st lasts names nk e [] (held_at Test m) (part Test W) r.1 ok.0.0 (judged_of s e ty.Bool ok.0.1) k.0 g.0 w.0,
      block_sound b st s lasts (within (reset at b e) names last) last (anew types C b (is_true (W (Test ∷ []))) (held_at Body m)) (part Body W) (reset_outer types among at b e st s names last nk) lk r.2 ok.1
          (anew_kept types C among typed kept given K b (is_true (W (Test ∷ []))) s lasts (held_at Body m) ok.1 k.1) g.1 w.1,
    )
    eqn_sound (automaton at ss) ds st s lasts names last m W nk lk r ok k g w =
        let l = number_less ss (W (Active ∷ [])) w.0 in
        (state_there ss 0 (state_of (W (Active ∷ []))) (omega arith) (omega arith), states_sound ss (automaton at ss) st s lasts names last (held_at StatesOf m) (part StatesOf W) nk lk r.1 ok k.1.1 g w.1.1.1)

    arms_sound : (arms : Arms) (e : Eqn) (st : Standing) (s : Scope) (lasts : Lasts) (names last : Names) (m : Held) (W : Instant) → NamesAre types s st names → LastsAre types s lasts last → ArmsRight st arms → ArmsSound types among e s lasts arms → ArmsKept types kept s arms m.start m.memory → ArmsGiven types given s arms m.free → ArmsTyped types typed s arms W → SoundArms types C arms (within e names last) last m W
    arms_sound no_arm e st s lasts names last m W nk lk r ok k g w = tt
    arms_sound (more_arms c b at arms) e st s lasts names last m W nk lk r ok k g w = (
      block_sound b st s lasts (within e names last) last (held_at Head m) (part Head W) (branch_outer types among e b st s lasts names last ok.0 nk lk) lk r.0 ok.1.0 k.0 g.0 w.0,
      arms_sound arms e st s lasts names last (held_at Tail m) (part Tail W) nk lk r.1 ok.1.1 k.1 g.1 w.1,
    )

    states_sound : (ss : States) (e : Eqn) (st : Standing) (s : Scope) (lasts : Lasts) (names last : Names) (m : Held) (W : Instant) → NamesAre types s st names → LastsAre types s lasts last → StatesRight st ss → StatesSound types among e s lasts ss → StatesKept types kept s ss m.start m.memory → StatesGiven types given s ss m.free → StatesTyped types typed s ss W → SoundStates types C ss names (within e names last) last m W
    states_sound no_state e st s lasts names last m W nk lk r ok k g w = tt
    states_sound (more_states f b until unless at ss) e st s lasts names last m W nk lk r ok k g w =
        let fresh = is_true (W (Head ∷ Body ∷ Fresh ∷ [])) in
        let kb = anew_kept types C among typed kept given K b fresh s lasts (held_at Body (held_at Head m)) ok.1.0 k.0 in
        let outer = branch_outer types among e b st s lasts names last ok.0 nk lk in (
          block_sound b st s lasts (within e names last) last (anew types C b fresh (held_at Body (held_at Head m))) (part Body (part Head W)) outer lk r.0 ok.1.0 kb g.0 w.0,
          tests_sound types C among typed kept given K (inside s b) (standing_of b st) (known_of b lasts) (read_of b (within e names last) (part Body (part Head W)))
              (seen_in types among typed b st s lasts (within e names last) (part Body (part Head W)) ok.1.0 outer w.0) until (held_at Until (held_at Head m)) (part Until (part Head W)) r.1 ok.1.1.0 k.1.0 g.1.0 w.1.0,
          tests_sound types C among typed kept given K s st lasts names nk unless (held_at Unless (held_at Head m)) (part Unless (part Head W)) r.2 ok.1.1.1.0 k.1.1.0 g.1.1.0 w.1.1.0,
          states_sound ss e st s lasts names last (held_at Tail m) (part Tail W) nk lk r.3 ok.1.1.1.1 k.1.1.1 g.1.1.1 w.1.1.1,
        )

  -- ---- the next memory

  mutual
    pub block_next : (b : Block) (s : Scope) (lasts : Lasts) (names last : Names) (m : Held) (W : Instant) → BlockSound types among s lasts b → BlockKept types kept s b m.start m.memory → BlockGiven types given s b m.free → BlockTyped types typed s b W → BlockKept types kept s b m.start (next_block types C b names last m W)
    block_next (block ds es) s lasts names last m W ok k g w = (
      (λ x t h l. subst (λ b. IsWire types t (if b then W (Named x ∷ []) else Absent)) (sym h)
          (as_wire types (lookup (with_variables s ds).variables x) t (W (Named x ∷ [])) l (w.0 x (declared_is types among (with_variables s ds) es x ds ok.0 (last_declared ds x h)).0))),
      eqns_next es ds (with_variables s ds) (known_lasts ds lasts) (inside_names es names W) (lasts_in ds m.memory last) (held_at Equations m) (part Equations W) ok.1.1 k.1 g w.1,
    )

    eqns_next : (es : Eqns) (ds : List Decl) (s : Scope) (lasts : Lasts) (names last : Names) (m : Held) (W : Instant) → EqnsSound types among s lasts es → EqnsKept types kept s es m.start m.memory → EqnsGiven types given s es m.free → EqnsTyped types typed s es W → EqnsKept types kept s es m.start (next_equations types C ds es names last m W)
    eqns_next no_eqn ds s lasts names last m W ok k g w = tt
    eqns_next (more_eqns e es) ds s lasts names last m W ok k g w = (
      eqn_next e ds s lasts names last (held_at Head m) (part Head W) ok.0 k.0 g.0 w.0,
      eqns_next es ds s lasts names last (held_at Tail m) (part Tail W) ok.1 k.1 g.1 w.1,
    )

    eqn_next : (e : Eqn) (ds : List Decl) (s : Scope) (lasts : Lasts) (names last : Names) (m : Held) (W : Instant) → EqnSound types among s lasts e → EqnKept types kept s e m.start m.memory → EqnGiven types given s e m.free → EqnTyped types typed s e W → EqnKept types kept s e m.start (next_equation types C ds e names last m W)
    eqn_next (define at ys e) ds s lasts names last m W ok k g w =
        let j = right_judged types among s lasts ys e ok in
        expr_next types C among typed kept given K s lasts names e (clock_of ds ys e) (held_at Right m) (part Right W) j.0 j.1 k g w
    eqn_next (switch at e arms) ds s lasts names last m W ok k g w = (
      expr_next types C among typed kept given K s lasts names e [] (held_at Test m) (part Test W) ok.0 (judged_of s e ok.1.0.0 ok.1.0.1.0) k.0 g.0 w.0,
      arms_next arms (switch at e arms) (W (Test ∷ [])) s lasts (within (switch at e arms) names last) last (held_at ArmsOf m) (part ArmsOf W) ok.1.1 k.1 g.1 w.1,
    )
    eqn_next (reset at b e) ds s lasts names last m W ok k g w = (
      expr_next types C among typed kept given K s lasts names e [] (held_at Test m) (part Test W) ok.0.0 (judged_of s e ty.Bool ok.0.1) k.0 g.0 w.0,
      block_next b s lasts (within (reset at b e) names last) last (anew types C b (is_true (W (Test ∷ []))) (held_at Body m)) (part Body W) ok.1
          (anew_kept types C among typed kept given K b (is_true (W (Test ∷ []))) s lasts (held_at Body m) ok.1 k.1) g.1 w.1,
    )
    eqn_next (automaton at ss) ds s lasts names last m W ok k g w =
        (w.1.0, (w.1.1.0, states_next ss (automaton at ss) 0 (state_of (W (Active ∷ []))) s lasts names (within (automaton at ss) names last) last (held_at StatesOf m) (part StatesOf W) ok k.1.1 g w.1.1.1))

    arms_next : (arms : Arms) (e : Eqn) (v : Value) (s : Scope) (lasts : Lasts) (names last : Names) (m : Held) (W : Instant) → ArmsSound types among e s lasts arms → ArmsKept types kept s arms m.start m.memory → ArmsGiven types given s arms m.free → ArmsTyped types typed s arms W → ArmsKept types kept s arms m.start (next_arms types C arms v names last m W)
    arms_next no_arm e v s lasts names last m W ok k g w = tt
    arms_next (more_arms c b at arms) e v s lasts names last m W ok k g w = (
      either_of (BlockKept types kept s b (part Head m.start)) (is_cons types v c) (next_block types C b names last (held_at Head m) (part Head W)) (part Head m.memory)
          (block_next b s lasts names last (held_at Head m) (part Head W) ok.1.0 k.0 g.0 w.0) k.0,
      arms_next arms e v s lasts names last (held_at Tail m) (part Tail W) ok.1.1 k.1 g.1 w.1,
    )

    states_next : (ss : States) (e : Eqn) (j n : ℕ) (s : Scope) (lasts : Lasts) (out names last : Names) (m : Held) (W : Instant) → StatesSound types among e s lasts ss → StatesKept types kept s ss m.start m.memory → StatesGiven types given s ss m.free → StatesTyped types typed s ss W → StatesKept types kept s ss m.start (next_states types C ss j n out names last m W)
    states_next no_state e j n s lasts out names last m W ok k g w = tt
    states_next (more_states f b until unless at ss) e j n s lasts out names last m W ok k g w =
        let fresh = is_true (W (Head ∷ Body ∷ Fresh ∷ [])) in
        let mb = anew types C b fresh (held_at Body (held_at Head m)) in
        let kb = anew_kept types C among typed kept given K b fresh s lasts (held_at Body (held_at Head m)) ok.1.0 k.0 in (
          either_of (BlockKept types kept s b (part Body (part Head m.start))) (nat_eq j n) (next_block types C b names last mb (part Body (part Head W))) (part Body (part Head m.memory))
              (block_next b s lasts names last mb (part Body (part Head W)) ok.1.0 kb g.0 w.0) k.0,
          (
            either_of (TestsKept types kept (inside s b) until (part Until (part Head m.start))) (nat_eq j n) (in_row (next_conditions types C until (read_of b names (part Body (part Head W))) (held_at Until (held_at Head m)) (part Until (part Head W)))) (part Until (part Head m.memory))
                (tests_next types C among typed kept given K (inside s b) (known_of b lasts) (read_of b names (part Body (part Head W))) until (held_at Until (held_at Head m)) (part Until (part Head W)) ok.1.1.0 k.1.0 g.1.0 w.1.0) k.1.0,
            (
              tests_next types C among typed kept given K s lasts out unless (held_at Unless (held_at Head m)) (part Unless (part Head W)) ok.1.1.1.0 k.1.1.0 g.1.1.0 w.1.1.0,
              states_next ss e (suc j) n s lasts out names last (held_at Tail m) (part Tail W) ok.1.1.1.1 k.1.1.1 g.1.1.1 w.1.1.1,
            ),
          ),
        )
