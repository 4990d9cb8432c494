-- The registers of a block at the start are in shape where they are in shape at all, and what the conditions of a state read has its types.
use Rattle.std.proofs.Common.{◌≡◌, ℕ, List, [], refl, sym, subst, arith}
use Rattle.std.specs.Prelude.{Bool, true, false, IsTrue, if◌then◌else◌, Option, Some}
use Rattle.hp_base.specs.declared.ty.Ty.{Ty}
use Rattle.hp_base.specs.declared.ty.Ty.TheVariants as ty
use Rattle.hp_base.specs.declared.value.Value.TheVariants.{Absent}
use Rattle.hp_tree.specs.Blocks.{Decl, Block, block, Eqns, no_eqn, more_eqns, Eqn, define, switch, reset, automaton, Arms, no_arm, more_arms, States, no_state, more_states}
use Rattle.hp_tree.specs.Programs.{TypeDecl, Node}
use Rattle.hp_tree.specs.Instant.{Body, Equations, Head, Tail, Right, Test, Arms as ArmsOf, States as StatesOf, Until, Unless, Instant, part}
use Rattle.hp_tree.specs.Meaning.{Names, lasts as meant_lasts, absent}
use Rattle.hp_base.specs.Known.Known.{lookup}
use Rattle.hp_typing.specs.Scopes.{with_variables, inside}
use Rattle.law_judged.specs.Typed.Scopes.{Scope}
use Rattle.hp_meaning.specs.Causal.Clocked.{Standing, standing_of}
use Rattle.hp_meaning.specs.Contract.Memory.{is_last, remembers_block, remembers_equations, remembers_equation, remembers_arms, remembers_states}
use Rattle.law_values.specs.Valued.Judged.{Lasts, lasts_in as known_lasts, lasts_of as known_of, BlockSound, EqnsSound, EqnSound, ArmsSound, StatesSound, DeclsSound}
use Rattle.law_games.specs.Wires.Wired.{Held, Callees, value}
use Rattle.law_games.specs.Wires.WiredBlocks.{read_of, lasts_of, anew}
use Rattle.law_games.specs.Wiretyped.Typed.{IsWire, BlockTyped}
use Rattle.law_games.specs.Wiretyped.Kept.{BlockKept, EqnsKept, EqnKept, ArmsKept, StatesKept}
use Rattle.law_games.proofs.WiretypedLemmas.Exprs.{CalleesTyped, NamesAre, LastsAre}
use Rattle.law_games.proofs.WiretypedLemmas.Stored.{judged_of, right_judged, expr_begins, tests_begin}
use Rattle.law_games.proofs.WiretypedLemmas.Scopes.{OuterAre, names_inside, lasts_inside, lasts_begin}

module _ (types : List TypeDecl) (C : Callees) (among : List ℕ → Option Node) (typed : List ℕ → Instant → Type 0) (kept : List ℕ → Instant → Instant → Type 0) (given : List ℕ → Instant → Type 0) (K : CalleesTyped types C among typed kept given) where
  last_step : (s : Scope) (es : Eqns) (ds : List Decl) (x : List ℕ) (t : Ty) → DeclsSound types among s es ds → IsTrue (is_last ds x) → lookup s.variables x ≡ Some t → IsWire types t (if is_last ds x then meant_lasts (value types) ds [] absent x else Absent)
  last_step s es ds x t ok h l = subst (λ b. IsWire types t (if b then meant_lasts (value types) ds [] absent x else Absent)) (sym h) (lasts_begin types among s es ds x t ok h l)

  mutual
    pub block_begins : (b : Block) (s : Scope) (lasts : Lasts) (start mem : Instant) → BlockSound types among s lasts b → BlockKept types kept s b start mem → BlockKept types kept s b start (remembers_block types C.remembers b start [])
    block_begins (block ds es) s lasts start mem ok k = (
      (λ x t h l. last_step (with_variables s ds) es ds x t ok.0 h l),
      eqns_begin es (with_variables s ds) (known_lasts ds lasts) (part Equations start) (part Equations mem) ok.1.1 k.1,
    )

    eqns_begin : (es : Eqns) (s : Scope) (lasts : Lasts) (start mem : Instant) → EqnsSound types among s lasts es → EqnsKept types kept s es start mem → EqnsKept types kept s es start (remembers_equations types C.remembers es start [])
    eqns_begin no_eqn s lasts start mem ok k = tt
    eqns_begin (more_eqns e es) s lasts start mem ok k =
        (eqn_begins e s lasts (part Head start) (part Head mem) ok.0 k.0, eqns_begin es s lasts (part Tail start) (part Tail mem) ok.1 k.1)

    eqn_begins : (e : Eqn) (s : Scope) (lasts : Lasts) (start mem : Instant) → EqnSound types among s lasts e → EqnKept types kept s e start mem → EqnKept types kept s e start (remembers_equation types C.remembers e start [])
    eqn_begins (define at ys e) s lasts start mem ok k =
        let j = right_judged types among s lasts ys e ok in
        expr_begins types C among typed kept given K s lasts e (part Right start) (part Right mem) j.0 j.1 k
    eqn_begins (switch at e arms) s lasts start mem ok k = (
      expr_begins types C among typed kept given K s lasts e (part Test start) (part Test mem) ok.0 (judged_of s e ok.1.0.0 ok.1.0.1.0) k.0,
      arms_begin arms (switch at e arms) s lasts (part ArmsOf start) (part ArmsOf mem) ok.1.1 k.1,
    )
    eqn_begins (reset at b e) s lasts start mem ok k = (
      expr_begins types C among typed kept given K s lasts e (part Test start) (part Test mem) ok.0.0 (judged_of s e ty.Bool ok.0.1) k.0,
      block_begins b s lasts (part Body start) (part Body mem) ok.1 k.1,
    )
    eqn_begins (automaton at ss) s lasts start mem ok k =
        let l = k.0.1.1 in
        ((0, (refl, omega arith)), ((false, refl), states_begin ss (automaton at ss) s lasts (part StatesOf start) (part StatesOf mem) ok k.1.1))

    arms_begin : (arms : Arms) (e : Eqn) (s : Scope) (lasts : Lasts) (start mem : Instant) → ArmsSound types among e s lasts arms → ArmsKept types kept s arms start mem → ArmsKept types kept s arms start (remembers_arms types C.remembers arms start [])
    arms_begin no_arm e s lasts start mem ok k = tt
    arms_begin (more_arms c b at arms) e s lasts start mem ok k =
        (block_begins b s lasts (part Head start) (part Head mem) ok.1.0 k.0, arms_begin arms e s lasts (part Tail start) (part Tail mem) ok.1.1 k.1)

    states_begin : (ss : States) (e : Eqn) (s : Scope) (lasts : Lasts) (start mem : Instant) → StatesSound types among e s lasts ss → StatesKept types kept s ss start mem → StatesKept types kept s ss start (remembers_states types C.remembers ss start [])
    states_begin no_state e s lasts start mem ok k = tt
    states_begin (more_states f b until unless at ss) e s lasts start mem ok k = (
      block_begins b s lasts (part Body (part Head start)) (part Body (part Head mem)) ok.1.0 k.0,
      (
        tests_begin types C among typed kept given K (inside s b) (known_of b lasts) until (part Until (part Head start)) (part Until (part Head mem)) ok.1.1.0 k.1.0,
        (
          tests_begin types C among typed kept given K s lasts unless (part Unless (part Head start)) (part Unless (part Head mem)) ok.1.1.1.0 k.1.1.0,
          states_begin ss e s lasts (part Tail start) (part Tail mem) ok.1.1.1.1 k.1.1.1,
        ),
      ),
    )

  -- what a block is read with that begins anew, or not
  pub anew_kept : (b : Block) (fresh : Bool) (s : Scope) (lasts : Lasts) (m : Held) → BlockSound types among s lasts b → BlockKept types kept s b m.start m.memory → BlockKept types kept s b m.start (anew types C b fresh m).memory
  anew_kept b true s lasts m ok k = block_begins b s lasts m.start m.memory ok k
  anew_kept b false s lasts m ok k = k

-- ---- what conditions read in the body of a state

module _ (types : List TypeDecl) (among : List ℕ → Option Node) where
  pub seen_in : (typed : List ℕ → Instant → Type 0) (b : Block) (st : Standing) (s : Scope) (lasts : Lasts) (names : Names) (now : Instant) → BlockSound types among s lasts b → OuterAre types among b st s names → BlockTyped types typed s b now → NamesAre types (inside s b) (standing_of b st) (read_of b names now)
  seen_in typed (block ds es) st s lasts names now ok outer w = names_inside types among ds es st s names now ok.0 outer w.0

  pub lasts_seen : (kept : List ℕ → Instant → Instant → Type 0) (b : Block) (s : Scope) (lasts : Lasts) (last : Names) (start mem : Instant) → BlockSound types among s lasts b → LastsAre types s lasts last → BlockKept types kept s b start mem → LastsAre types (inside s b) (known_of b lasts) (lasts_of b mem last)
  lasts_seen kept (block ds es) s lasts last start mem ok lk k = lasts_inside types among ds es s lasts last mem ok.0 lk k.0
