-- The wires of blocks. Each block has its memory as it is read now: what its past left, or what it holds at the start where it begins anew.
-- Source: own. So a reset is done once, at the block; an arm that is not taken keeps its memory as it was read.
use Rattle.std.specs.Prelude.{ℕ, ⊤, Bool, false, IsTrue, ◌||◌, nat_eq, suc, if◌then◌else◌, List, [], ◌∷◌, map}
use Rattle.hp_base.specs.declared.value.Value.{Value}
use Rattle.hp_base.specs.declared.value.Value.TheVariants.{Absent, B}
use Rattle.hp_base.specs.declared.span.Span.{Span}
use Rattle.hp_tree.specs.declared.block.Trans.{Trans}
use Rattle.hp_tree.specs.Expressions.{Expr, call}
use Rattle.hp_tree.specs.Blocks.{Decl, Block, block, Eqns, no_eqn, more_eqns, Eqn, define, switch, reset, automaton, Arms, no_arm, more_arms, States, no_state, more_states}
use Rattle.hp_tree.specs.Programs.{TypeDecl}
use Rattle.hp_tree.specs.Operators.{is_cons, is_true}
use Rattle.hp_tree.specs.Instant.{Named, Fresh, Equations, Head, Tail, Right, Test, Arms as ArmsOf, States as StatesOf, Until, Unless, Active, Next, Pending, Body, Instance, Instant, part, top, nothing, in_row, of_two, in_block, in_right, with_arms, with_body, in_state, with_words}
use Rattle.hp_tree.specs.Meaning.{Names, defines, some_defines, inside, within, clock_of, clock_in, output_for, from_block, Jump, state_word, state_of, first_true}
use Rattle.hp_meaning.specs.Contract.Memory.{is_last, remembers_block}
use Rattle.law_games.specs.Wires.Wired.{Held, held, held_at, blank, lasts_in, Callees, on, wired, shown, next, Sound, Fills}

-- the jump that memory selects
abbrev pub selected_in : Instant → Jump
selected_in mem = record { state = state_of (mem (Next ∷ [])); restart = is_true (mem (Pending ∷ [])) }

-- names as a block reads them
abbrev pub read_of : Block → Names → Instant → Names
read_of (block ds es) names now = inside es names now

-- last values as a block has them in memory
abbrev pub lasts_of : Block → Instant → Names → Names
lasts_of (block ds es) mem out = lasts_in ds mem out

-- the value of the state of a number, else zeros
abbrev pub state_value : Value → States → ℕ → ℕ → Names → Instant → List ℕ → Value
state_value d no_state k n last now x = d
state_value d (more_states f b until unless s ss) k n last now x =
    if nat_eq k n then from_block b last (part Body (part Head now)) x else state_value (blank (from_block b last (part Body (part Head now)) x)) ss (suc k) n last (part Tail now) x

-- there is a state of a number
abbrev pub has_state : States → ℕ → ℕ → Bool
has_state no_state k n = false
has_state (more_states f b until unless s ss) k n = nat_eq k n || has_state ss (suc k) n

module _ (types : List TypeDecl) (C : Callees) where
  -- the value that a right side gives to a name
  abbrev pub right_in : List (List ℕ × Span) → Expr → Instant → List ℕ → Value
  right_in ys (call s f inlined es) i x = output_for ys (C.outputs f) (part Instance i) x
  right_in ys e i x = top i

  -- the value of the arm of a constructor, else zeros
  abbrev pub arm_value : Value → Arms → Value → Names → Instant → List ℕ → Value
  arm_value d no_arm v last now x = d
  arm_value d (more_arms c b s arms) v last now x =
      if is_cons types v c then from_block b last (part Head now) x else arm_value (blank (from_block b last (part Head now) x)) arms v last (part Tail now) x

  -- a switch has an arm for a value
  abbrev pub has_arm : Arms → Value → Bool
  has_arm no_arm v = false
  has_arm (more_arms c b s arms) v = is_cons types v c || has_arm arms v

  -- what a block is read with that begins anew, or not
  abbrev pub anew_memory : Block → Bool → Instant → Instant → Instant
  anew_memory b fresh start memory = if fresh then remembers_block types C.remembers b start [] else memory

  abbrev pub anew : Block → Bool → Held → Held
  anew b fresh m = held m.start (anew_memory b fresh m.start m.memory) m.free

  -- ---- the wires

  -- the conditions of transitions
  abbrev pub wired_conditions : List Trans → Names → Names → Held → Instant → List Instant
  wired_conditions [] names last m now = []
  wired_conditions (t ∷ ts) names last m now =
      wired types C t.cond names last (held_at Head m) (part Head now) ∷ wired_conditions ts names last (held_at Tail m) (part Tail now)

  -- the strong transition that is taken in the selected state; none keeps what is selected
  abbrev pub strong_in : States → States → ℕ → Jump → Names → Names → Held → Instant → Jump
  strong_in all no_state k s names last m now = s
  strong_in all (more_states f b until unless p ss) k s names last m now =
      if nat_eq k s.state
      then first_true all unless (map top (wired_conditions unless names last (held_at Unless (held_at Head m)) (part Unless (part Head now)))) s
      else strong_in all ss (suc k) s names last (held_at Tail m) (part Tail now)

  -- the weak conditions of a state, read in its body
  abbrev pub weak_wires : Block → List Trans → Jump → Names → Names → Held → Instant → List Instant
  weak_wires b until s names last m now =
      wired_conditions until (read_of b names (part Body now)) (lasts_of b (anew b s.restart (held_at Body m)).memory last) (held_at Until m) (part Until now)

  -- the weak transition that is taken in the active state; a number of no state gives zeros
  abbrev pub weak_of : States → States → ℕ → Jump → Names → Names → Held → Instant → Jump
  weak_of all no_state k s names last m now = record { state = 0; restart = false }
  weak_of all (more_states f b until unless p ss) k s names last m now =
      if nat_eq k s.state
      then first_true all until (map top (weak_wires b until s names last (held_at Head m) (part Head now))) (record { state = s.state; restart = false })
      else weak_of all ss (suc k) s names last (held_at Tail m) (part Tail now)

  -- what an equation, or the one of some that defines the name, gives to a name
  abbrev pub wired_gives : Eqn → Names → Names → Held → Instant → List ℕ → Value
  wired_gives (define s ys e) names last m now x = right_in ys e (wired types C e names last (held_at Right m) (part Right now)) x
  wired_gives (switch s e arms) names last m now x =
      arm_value Absent arms (top (wired types C e names last (held_at Test m) (part Test now))) last (part ArmsOf now) x
  wired_gives (reset s b e) names last m now x = now (Body ∷ Named x ∷ [])
  wired_gives (automaton s ss) names last m now x =
      state_value Absent ss 0 (strong_in ss ss 0 (selected_in m.memory) names last (held_at StatesOf m) (part StatesOf now)).state last (part StatesOf now) x

  abbrev pub wired_defined : Eqns → Names → Names → Held → Instant → List ℕ → Value
  wired_defined no_eqn names last m now x = Absent
  wired_defined (more_eqns e es) names last m now x =
      if defines e x
      then wired_gives e names last (held_at Head m) (part Head now) x
      else wired_defined es names last (held_at Tail m) (part Tail now) x

  -- a block that begins anew or not, which the word fresh tells
  abbrev mutual
    pub wired_block : Block → Bool → Names → Names → Held → Instant → Instant
    wired_block (block ds es) fresh names last m now =
        let names' = inside es names now in
        let last' = lasts_in ds m.memory last in
        in_block
        (λ x. if some_defines es x then wired_defined es names' last' (held_at Equations m) (part Equations now) x else Absent)
        (B fresh)
        (wired_equations es names' last' (held_at Equations m) (part Equations now))

    pub wired_equations : Eqns → Names → Names → Held → Instant → Instant
    wired_equations no_eqn names last m now = nothing
    wired_equations (more_eqns e es) names last m now =
        of_two (wired_equation e names last (held_at Head m) (part Head now)) (wired_equations es names last (held_at Tail m) (part Tail now))

    pub wired_equation : Eqn → Names → Names → Held → Instant → Instant
    wired_equation (define s ys e) names last m now = in_right (wired types C e names last (held_at Right m) (part Right now))
    wired_equation (switch s e arms) names last m now =
        with_arms (wired types C e names last (held_at Test m) (part Test now))
        (wired_arms arms (within (switch s e arms) names last) last (held_at ArmsOf m) (part ArmsOf now))
    wired_equation (reset s b e) names last m now =
        let i = wired types C e names last (held_at Test m) (part Test now) in
        with_body i
        (wired_block b (is_true (top i)) (within (reset s b e) names last) last (anew b (is_true (top i)) (held_at Body m)) (part Body now))
    wired_equation (automaton s ss) names last m now =
        let j = strong_in ss ss 0 (selected_in m.memory) names last (held_at StatesOf m) (part StatesOf now) in
        let names' = within (automaton s ss) names last in
        let w = weak_of ss ss 0 j names' last (held_at StatesOf m) (part StatesOf now) in
        with_words (state_word j.state) (state_word w.state) (B w.restart) (wired_states ss j names names' last (held_at StatesOf m) (part StatesOf now))

    pub wired_arms : Arms → Names → Names → Held → Instant → Instant
    wired_arms no_arm names last m now = nothing
    wired_arms (more_arms c b s arms) names last m now =
        of_two (wired_block b false names last (held_at Head m) (part Head now)) (wired_arms arms names last (held_at Tail m) (part Tail now))

    pub wired_states : States → Jump → Names → Names → Names → Held → Instant → Instant
    wired_states no_state j out names last m now = nothing
    wired_states (more_states f b until unless s ss) j out names last m now =
        of_two
        (in_state
        (wired_block b j.restart names last (anew b j.restart (held_at Body (held_at Head m))) (part Body (part Head now)))
        (in_row (weak_wires b until j names last (held_at Head m) (part Head now)))
        (in_row (wired_conditions unless out last (held_at Unless (held_at Head m)) (part Unless (part Head now)))))
        (wired_states ss j out names last (held_at Tail m) (part Tail now))

  -- ---- what is shown of the wires: an arm and the body of a state where they are taken

  abbrev pub shown_conditions : List Trans → Names → Held → Instant → List Instant
  shown_conditions [] names m now = []
  shown_conditions (t ∷ ts) names m now = shown types C t.cond [] names (held_at Head m) (part Head now) ∷ shown_conditions ts names (held_at Tail m) (part Tail now)

  abbrev mutual
    pub shown_block : Block → Names → Names → Held → Instant → Instant
    shown_block (block ds es) names last m now =
        let names' = inside es names now in
        let last' = lasts_in ds m.memory last in
        in_block
        (λ x. if some_defines es x then on types (clock_in ds x) names' (now (Named x ∷ [])) else Absent)
        (now (Fresh ∷ []))
        (shown_equations ds es names' last' (held_at Equations m) (part Equations now))

    pub shown_equations : List Decl → Eqns → Names → Names → Held → Instant → Instant
    shown_equations ds no_eqn names last m now = nothing
    shown_equations ds (more_eqns e es) names last m now =
        of_two (shown_equation ds e names last (held_at Head m) (part Head now)) (shown_equations ds es names last (held_at Tail m) (part Tail now))

    pub shown_equation : List Decl → Eqn → Names → Names → Held → Instant → Instant
    shown_equation ds (define s ys e) names last m now = in_right (shown types C e (clock_of ds ys e) names (held_at Right m) (part Right now))
    shown_equation ds (switch s e arms) names last m now =
        with_arms (shown types C e [] names (held_at Test m) (part Test now))
        (shown_arms arms (now (Test ∷ [])) (within (switch s e arms) names last) last (held_at ArmsOf m) (part ArmsOf now))
    shown_equation ds (reset s b e) names last m now =
        with_body (shown types C e [] names (held_at Test m) (part Test now))
        (shown_block b (within (reset s b e) names last) last (anew b (is_true (now (Test ∷ []))) (held_at Body m)) (part Body now))
    shown_equation ds (automaton s ss) names last m now =
        with_words (now (Active ∷ [])) (now (Next ∷ [])) (now (Pending ∷ []))
        (shown_states ss 0 (state_of (now (Active ∷ []))) names (within (automaton s ss) names last) last (held_at StatesOf m) (part StatesOf now))

    pub shown_arms : Arms → Value → Names → Names → Held → Instant → Instant
    shown_arms no_arm v names last m now = nothing
    shown_arms (more_arms c b s arms) v names last m now =
        of_two
        (if is_cons types v c then shown_block b names last (held_at Head m) (part Head now) else nothing)
        (shown_arms arms v names last (held_at Tail m) (part Tail now))

    pub shown_states : States → ℕ → ℕ → Names → Names → Names → Held → Instant → Instant
    shown_states no_state k n out names last m now = nothing
    shown_states (more_states f b until unless s ss) k n out names last m now =
        of_two
        (in_state
        (if nat_eq k n then shown_block b names last (anew b (is_true (now (Head ∷ Body ∷ Fresh ∷ []))) (held_at Body (held_at Head m))) (part Body (part Head now)) else nothing)
        (if nat_eq k n then in_row (shown_conditions until (read_of b names (part Body (part Head now))) (held_at Until (held_at Head m)) (part Until (part Head now))) else nothing)
        (in_row (shown_conditions unless out (held_at Unless (held_at Head m)) (part Unless (part Head now)))))
        (shown_states ss (suc k) n out names last (held_at Tail m) (part Tail now))

  -- ---- the next memory: `last` variables, registers, and the state of an automaton

  abbrev pub next_conditions : List Trans → Names → Held → Instant → List Instant
  next_conditions [] names m now = []
  next_conditions (t ∷ ts) names m now = next types C t.cond [] names (held_at Head m) (part Head now) ∷ next_conditions ts names (held_at Tail m) (part Tail now)

  abbrev mutual
    pub next_block : Block → Names → Names → Held → Instant → Instant
    next_block (block ds es) names last m now =
        let names' = inside es names now in
        let last' = lasts_in ds m.memory last in
        in_block
        (λ x. if is_last ds x then now (Named x ∷ []) else Absent)
        Absent
        (next_equations ds es names' last' (held_at Equations m) (part Equations now))

    pub next_equations : List Decl → Eqns → Names → Names → Held → Instant → Instant
    next_equations ds no_eqn names last m now = nothing
    next_equations ds (more_eqns e es) names last m now =
        of_two (next_equation ds e names last (held_at Head m) (part Head now)) (next_equations ds es names last (held_at Tail m) (part Tail now))

    pub next_equation : List Decl → Eqn → Names → Names → Held → Instant → Instant
    next_equation ds (define s ys e) names last m now = in_right (next types C e (clock_of ds ys e) names (held_at Right m) (part Right now))
    next_equation ds (switch s e arms) names last m now =
        with_arms (next types C e [] names (held_at Test m) (part Test now))
        (next_arms arms (now (Test ∷ [])) (within (switch s e arms) names last) last (held_at ArmsOf m) (part ArmsOf now))
    next_equation ds (reset s b e) names last m now =
        with_body (next types C e [] names (held_at Test m) (part Test now))
        (next_block b (within (reset s b e) names last) last (anew b (is_true (now (Test ∷ []))) (held_at Body m)) (part Body now))
    next_equation ds (automaton s ss) names last m now =
        with_words Absent (now (Next ∷ [])) (now (Pending ∷ []))
        (next_states ss 0 (state_of (now (Active ∷ []))) names (within (automaton s ss) names last) last (held_at StatesOf m) (part StatesOf now))

    pub next_arms : Arms → Value → Names → Names → Held → Instant → Instant
    next_arms no_arm v names last m now = nothing
    next_arms (more_arms c b s arms) v names last m now =
        of_two
        (if is_cons types v c then next_block b names last (held_at Head m) (part Head now) else part Head m.memory)
        (next_arms arms v names last (held_at Tail m) (part Tail now))

    pub next_states : States → ℕ → ℕ → Names → Names → Names → Held → Instant → Instant
    next_states no_state k n out names last m now = nothing
    next_states (more_states f b until unless s ss) k n out names last m now =
        of_two
        (in_state
        (if nat_eq k n then next_block b names last (anew b (is_true (now (Head ∷ Body ∷ Fresh ∷ []))) (held_at Body (held_at Head m))) (part Body (part Head now)) else part Body (part Head m.memory))
        (if nat_eq k n then in_row (next_conditions until (read_of b names (part Body (part Head now))) (held_at Until (held_at Head m)) (part Until (part Head now))) else part Until (part Head m.memory))
        (in_row (next_conditions unless out (held_at Unless (held_at Head m)) (part Unless (part Head now)))))
        (next_states ss (suc k) n out names last (held_at Tail m) (part Tail now))

  -- ---- what is asked of wires: a switch has an arm, and an automaton a state, for the value that chooses

  abbrev pub SoundConditions : List Trans → Names → Held → Instant → Type 0
  SoundConditions [] names m now = ⊤
  SoundConditions (t ∷ ts) names m now = Sound types C t.cond names (held_at Head m) (part Head now) × SoundConditions ts names (held_at Tail m) (part Tail now)

  abbrev mutual
    pub SoundBlock : Block → Names → Names → Held → Instant → Type 0
    SoundBlock (block ds es) names last m now =
        SoundEquations es (inside es names now) (lasts_in ds m.memory last) (held_at Equations m) (part Equations now)

    pub SoundEquations : Eqns → Names → Names → Held → Instant → Type 0
    SoundEquations no_eqn names last m now = ⊤
    SoundEquations (more_eqns e es) names last m now =
        SoundEquation e names last (held_at Head m) (part Head now) × SoundEquations es names last (held_at Tail m) (part Tail now)

    pub SoundEquation : Eqn → Names → Names → Held → Instant → Type 0
    SoundEquation (define s ys e) names last m now = Sound types C e names (held_at Right m) (part Right now)
    SoundEquation (switch s e arms) names last m now =
        Sound types C e names (held_at Test m) (part Test now) × IsTrue (has_arm arms (now (Test ∷ []))) × SoundArms arms (within (switch s e arms) names last) last (held_at ArmsOf m) (part ArmsOf now)
    SoundEquation (reset s b e) names last m now =
        Sound types C e names (held_at Test m) (part Test now)
        × SoundBlock b (within (reset s b e) names last) last (anew b (is_true (now (Test ∷ []))) (held_at Body m)) (part Body now)
    SoundEquation (automaton s ss) names last m now =
        IsTrue (has_state ss 0 (state_of (now (Active ∷ [])))) × SoundStates ss names (within (automaton s ss) names last) last (held_at StatesOf m) (part StatesOf now)

    pub SoundArms : Arms → Names → Names → Held → Instant → Type 0
    SoundArms no_arm names last m now = ⊤
    SoundArms (more_arms c b s arms) names last m now =
        SoundBlock b names last (held_at Head m) (part Head now) × SoundArms arms names last (held_at Tail m) (part Tail now)

    pub SoundStates : States → Names → Names → Names → Held → Instant → Type 0
    SoundStates no_state out names last m now = ⊤
    SoundStates (more_states f b until unless s ss) out names last m now =
        SoundBlock b names last (anew b (is_true (now (Head ∷ Body ∷ Fresh ∷ []))) (held_at Body (held_at Head m))) (part Body (part Head now))
        × SoundConditions until (read_of b names (part Body (part Head now))) (held_at Until (held_at Head m)) (part Until (part Head now))
        × SoundConditions unless out (held_at Unless (held_at Head m)) (part Unless (part Head now))
        × SoundStates ss out names last (held_at Tail m) (part Tail now)

  -- ---- what is given at each `pre` is the value that its register holds at the start

  abbrev pub FillsConditions : List Trans → Instant → Instant → Type 0
  FillsConditions [] start free = ⊤
  FillsConditions (t ∷ ts) start free = Fills types C t.cond (part Head start) (part Head free) × FillsConditions ts (part Tail start) (part Tail free)

  abbrev mutual
    pub FillsBlock : Block → Instant → Instant → Type 0
    FillsBlock (block ds es) start free = FillsEquations es (part Equations start) (part Equations free)

    pub FillsEquations : Eqns → Instant → Instant → Type 0
    FillsEquations no_eqn start free = ⊤
    FillsEquations (more_eqns e es) start free = FillsEquation e (part Head start) (part Head free) × FillsEquations es (part Tail start) (part Tail free)

    pub FillsEquation : Eqn → Instant → Instant → Type 0
    FillsEquation (define s ys e) start free = Fills types C e (part Right start) (part Right free)
    FillsEquation (switch s e arms) start free = Fills types C e (part Test start) (part Test free) × FillsArms arms (part ArmsOf start) (part ArmsOf free)
    FillsEquation (reset s b e) start free = Fills types C e (part Test start) (part Test free) × FillsBlock b (part Body start) (part Body free)
    FillsEquation (automaton s ss) start free = FillsStates ss (part StatesOf start) (part StatesOf free)

    pub FillsArms : Arms → Instant → Instant → Type 0
    FillsArms no_arm start free = ⊤
    FillsArms (more_arms c b s arms) start free = FillsBlock b (part Head start) (part Head free) × FillsArms arms (part Tail start) (part Tail free)

    pub FillsStates : States → Instant → Instant → Type 0
    FillsStates no_state start free = ⊤
    FillsStates (more_states f b until unless s ss) start free =
        FillsBlock b (part Body (part Head start)) (part Body (part Head free))
        × FillsConditions until (part Until (part Head start)) (part Until (part Head free))
        × FillsConditions unless (part Unless (part Head start)) (part Unless (part Head free))
        × FillsStates ss (part Tail start) (part Tail free)
