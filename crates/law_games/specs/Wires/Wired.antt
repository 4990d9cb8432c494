-- The wires of an expression: the values that its circuit has at one instant, with memory in place of its past. Nothing is absent on wires; at a place that is not there they have some value that is not looked at.
-- Source: own. The places are those of the meaning, and the values too; a delay reads its register, and a sampled value is there always.
use Rattle.std.specs.Prelude.{ℕ, ◌≡◌, ⊤, Bool, true, false, IsTrue, ◌||◌, if◌then◌else◌, List, [], ◌∷◌, map}
use Rattle.hp_base.specs.declared.value.Value.{Value}
use Rattle.hp_base.specs.declared.value.Value.TheVariants.{Absent, Nil, B, E}
use Rattle.hp_base.specs.declared.ty.Const.{Const}
use Rattle.hp_tree.specs.Expressions.{Expr, constant, variable, last_of, one, two, choose, pre, fby, arrow, when_is, merge, call, Exprs, no_expr, more_exprs, Parts, no_part, more_parts}
use Rattle.hp_tree.specs.Blocks.{Decl}
use Rattle.hp_tree.specs.Programs.{TypeDecl}
use Rattle.hp_tree.specs.Operators.{Reading, abstraction, constant_of, is_cons, is_true, if_of}
use Rattle.hp_tree.specs.Instant.{Step, Named, Fresh, Head, Tail, First, Second, Third, Args, Instance, Instant, Past, part, top, nothing, alone, with_one, with_two, with_three, with_row, with_instance, Clock, holds, without}
use Rattle.hp_tree.specs.Meaning.{Names, only_output}
use Rattle.hp_meaning.specs.Contract.Memory.{remembering, is_last}

-- the value whose code is all zeros, of the kind of another value: what is chosen where nothing is
abbrev pub blank : Value → Value
blank (B b) = B false
blank (E t n) = E t 0
blank v = v

-- neither absent nor Nil
abbrev pub IsValue : Value → Type 0
IsValue Absent = ⊥
IsValue Nil = ⊥
IsValue v = ⊤

-- the abstraction, where each `pre` without a past gives the value that is given at its place
abbrev pub filled_abstraction : Reading
filled_abstraction = record abstraction { undefined = λ given. given }

-- What wires are read with: the values that registers hold at the start, what they hold now, and the values that are given.
pub record Held : Type 0 where
  pub start : Instant
  pub memory : Instant
  pub free : Instant

abbrev pub held : Instant → Instant → Instant → Held
held start memory free = record { start = start; memory = memory; free = free }

-- what the wires of a part are read with
abbrev pub held_at : Step → Held → Held
held_at s m = record { start = part s m.start; memory = part s m.memory; free = part s m.free }

-- The nodes that are called: the wires of an instance, what is shown of these, what it remembers of its past, and its next memory. What is asked of the wires, and of what is given.
pub record Callees : Type 1 where
  pub outputs : List ℕ → List (List ℕ)
  pub wired : List ℕ → List Value → Held → Instant → Instant
  pub shown : List ℕ → List Value → Held → Instant → Instant
  pub remembers : List ℕ → Instant → Past → Instant
  pub next : List ℕ → List Value → Held → Instant → Instant
  pub sound : List ℕ → List Value → Held → Instant → Type 0
  pub fills : List ℕ → Instant → Instant → Type 0

-- the values of the arguments of a call
abbrev pub values_of : Exprs → Instant → List Value
values_of no_expr now = []
values_of (more_exprs e es) now = top (part Head now) ∷ values_of es (part Tail now)

-- the last values of the names that a block declares, as memory holds them
abbrev pub lasts_in : List Decl → Instant → Names → Names
lasts_in ds mem out x = if is_last ds x then mem (Named x ∷ []) else out x

module _ (types : List TypeDecl) where
  -- the value of a constant
  abbrev pub value : Const → Value
  value c = abstraction.constant (constant_of types c)

  -- a value where its clock holds
  abbrev pub on : Clock → Names → Value → Value
  on clock names v = if holds types clock names then v else Absent

  -- the part of a merge that is taken, else zeros
  abbrev pub picked : Value → Parts → Value → List Instant → Value
  picked d no_part v is = d
  picked d (more_parts c e ps) v [] = d
  picked d (more_parts c e ps) v (i ∷ is) = if is_cons types v c then top i else picked (blank (top i)) ps v is

  -- a merge has a part for a value
  abbrev pub has_part : Parts → Value → Bool
  has_part no_part v = false
  has_part (more_parts c e ps) v = is_cons types v c || has_part ps v

module _ (types : List TypeDecl) (C : Callees) where
  -- The wires of an expression, by the values of names and their last values, by what is held, and by the wires themselves. A delay reads its register, where it has a past.

  abbrev mutual
    pub wired : Expr → Names → Names → Held → Instant → Instant
    wired (constant s c) names last m now = alone (value types c)
    wired (variable s x) names last m now = alone (names x)
    wired (last_of s x) names last m now = alone (last x)
    wired (one s o a) names last m now =
        let i = wired a names last (held_at First m) (part First now) in
        with_one (abstraction.one o (top i)) i
    wired (two s o a b) names last m now =
        let i = wired a names last (held_at First m) (part First now) in
        let j = wired b names last (held_at Second m) (part Second now) in
        with_two (abstraction.two o (top m.free) (top i) (top j)) i j
    wired (choose s a b c) names last m now =
        let i = wired a names last (held_at First m) (part First now) in
        let j = wired b names last (held_at Second m) (part Second now) in
        let k = wired c names last (held_at Third m) (part Third now) in
        with_three (if_of (top i) (top j) (top k)) i j k
    wired (pre s a) names last m now =
        with_one (top m.memory) (wired a names last (held_at First m) (part First now))
    wired (fby s a b) names last m now =
        let i = wired a names last (held_at First m) (part First now) in
        let j = wired b names last (held_at Second m) (part Second now) in
        with_two (if is_true (m.memory (Fresh ∷ [])) then top m.memory else top i) i j
    wired (arrow s a b) names last m now =
        let i = wired a names last (held_at First m) (part First now) in
        let j = wired b names last (held_at Second m) (part Second now) in
        with_two (if is_true (m.memory (Fresh ∷ [])) then top j else top i) i j
    wired (when_is s a c x) names last m now =
        let i = wired a names last (held_at First m) (part First now) in
        with_one (top i) i
    wired (merge s x ps) names last m now =
        let is = wired_parts ps names last (held_at Args m) (part Args now) in
        with_row (picked types Absent ps (names x) is) is
    wired (call s f inlined es) names last m now =
        let is = wired_all es names last (held_at Args m) (part Args now) in
        let i = C.wired f (map top is) (held_at Instance m) (part Instance now) in
        with_instance (only_output (C.outputs f) i) is i

    pub wired_all : Exprs → Names → Names → Held → Instant → List Instant
    wired_all no_expr names last m now = []
    wired_all (more_exprs e es) names last m now =
        wired e names last (held_at Head m) (part Head now) ∷ wired_all es names last (held_at Tail m) (part Tail now)

    pub wired_parts : Parts → Names → Names → Held → Instant → List Instant
    wired_parts no_part names last m now = []
    wired_parts (more_parts c e ps) names last m now =
        wired e names last (held_at Head m) (part Head now) ∷ wired_parts ps names last (held_at Tail m) (part Tail now)

  -- What is shown of the wires: their value where its clock holds, else nothing.
  abbrev mutual
    pub shown : Expr → Clock → Names → Held → Instant → Instant
    shown (constant s c) clock names m now = alone (on types clock names (now []))
    shown (variable s x) clock names m now = alone (on types clock names (now []))
    shown (last_of s x) clock names m now = alone (on types clock names (now []))
    shown (one s o a) clock names m now = with_one (on types clock names (now [])) (shown a clock names (held_at First m) (part First now))
    shown (two s o a b) clock names m now =
        with_two (on types clock names (now [])) (shown a clock names (held_at First m) (part First now)) (shown b clock names (held_at Second m) (part Second now))
    shown (choose s a b c) clock names m now =
        with_three (on types clock names (now [])) (shown a clock names (held_at First m) (part First now)) (shown b clock names (held_at Second m) (part Second now)) (shown c clock names (held_at Third m) (part Third now))
    shown (pre s a) clock names m now = with_one (on types clock names (now [])) (shown a clock names (held_at First m) (part First now))
    shown (fby s a b) clock names m now =
        with_two (on types clock names (now [])) (shown a clock names (held_at First m) (part First now)) (shown b clock names (held_at Second m) (part Second now))
    shown (arrow s a b) clock names m now =
        with_two (on types clock names (now [])) (shown a clock names (held_at First m) (part First now)) (shown b clock names (held_at Second m) (part Second now))
    shown (when_is s a c x) clock names m now = with_one (on types clock names (now [])) (shown a (without clock) names (held_at First m) (part First now))
    shown (merge s x ps) clock names m now = with_row (on types clock names (now [])) (shown_parts ps x clock names (held_at Args m) (part Args now))
    shown (call s f inlined es) clock names m now =
        with_instance (on types clock names (now [])) (shown_all es clock names (held_at Args m) (part Args now)) (if holds types clock names then C.shown f (values_of es (part Args now)) (held_at Instance m) (part Instance now) else nothing)

    pub shown_all : Exprs → Clock → Names → Held → Instant → List Instant
    shown_all no_expr clock names m now = []
    shown_all (more_exprs e es) clock names m now = shown e clock names (held_at Head m) (part Head now) ∷ shown_all es clock names (held_at Tail m) (part Tail now)

    pub shown_parts : Parts → List ℕ → Clock → Names → Held → Instant → List Instant
    shown_parts no_part x clock names m now = []
    shown_parts (more_parts c e ps) x clock names m now = shown e ((c, x) ∷ clock) names (held_at Head m) (part Head now) ∷ shown_parts ps x clock names (held_at Tail m) (part Tail now)

  -- The next memory: a register takes the new value where its place is there, else it keeps the value that was read.
  abbrev mutual
    pub next : Expr → Clock → Names → Held → Instant → Instant
    next (constant s c) clock names m now = nothing
    next (variable s x) clock names m now = nothing
    next (last_of s x) clock names m now = nothing
    next (one s o a) clock names m now = with_one Absent (next a clock names (held_at First m) (part First now))
    next (two s o a b) clock names m now =
        with_two Absent (next a clock names (held_at First m) (part First now)) (next b clock names (held_at Second m) (part Second now))
    next (choose s a b c) clock names m now =
        with_three Absent (next a clock names (held_at First m) (part First now)) (next b clock names (held_at Second m) (part Second now)) (next c clock names (held_at Third m) (part Third now))
    next (pre s a) clock names m now =
        remembering (if holds types clock names then now (First ∷ []) else top m.memory) Absent (next a clock names (held_at First m) (part First now)) nothing
    next (fby s a b) clock names m now =
        remembering (if holds types clock names then now (Second ∷ []) else top m.memory) (if holds types clock names then B true else m.memory (Fresh ∷ []))
        (next a clock names (held_at First m) (part First now)) (next b clock names (held_at Second m) (part Second now))
    next (arrow s a b) clock names m now =
        remembering Absent (if holds types clock names then B true else m.memory (Fresh ∷ []))
        (next a clock names (held_at First m) (part First now)) (next b clock names (held_at Second m) (part Second now))
    next (when_is s a c x) clock names m now = with_one Absent (next a (without clock) names (held_at First m) (part First now))
    next (merge s x ps) clock names m now = with_row Absent (next_parts ps x clock names (held_at Args m) (part Args now))
    next (call s f inlined es) clock names m now =
        with_instance Absent (next_all es clock names (held_at Args m) (part Args now)) (if holds types clock names then C.next f (values_of es (part Args now)) (held_at Instance m) (part Instance now) else part Instance m.memory)

    pub next_all : Exprs → Clock → Names → Held → Instant → List Instant
    next_all no_expr clock names m now = []
    next_all (more_exprs e es) clock names m now =
        next e clock names (held_at Head m) (part Head now) ∷ next_all es clock names (held_at Tail m) (part Tail now)

    pub next_parts : Parts → List ℕ → Clock → Names → Held → Instant → List Instant
    next_parts no_part x clock names m now = []
    next_parts (more_parts c e ps) x clock names m now =
        next e ((c, x) ∷ clock) names (held_at Head m) (part Head now) ∷ next_parts ps x clock names (held_at Tail m) (part Tail now)

  -- What is asked of wires: what a delay stores is a value, and a merge has a part for the value of its name.

  abbrev mutual
    pub Sound : Expr → Names → Held → Instant → Type 0
    Sound (constant s c) names m now = ⊤
    Sound (variable s x) names m now = ⊤
    Sound (last_of s x) names m now = ⊤
    Sound (one s o a) names m now = Sound a names (held_at First m) (part First now)
    Sound (two s o a b) names m now = Sound a names (held_at First m) (part First now) × Sound b names (held_at Second m) (part Second now)
    Sound (choose s a b c) names m now = Sound a names (held_at First m) (part First now) × Sound b names (held_at Second m) (part Second now) × Sound c names (held_at Third m) (part Third now)
    Sound (pre s a) names m now = IsValue (now (First ∷ [])) × Sound a names (held_at First m) (part First now)
    Sound (fby s a b) names m now = IsValue (now (First ∷ [])) × IsValue (now (Second ∷ [])) × Sound a names (held_at First m) (part First now) × Sound b names (held_at Second m) (part Second now)
    Sound (arrow s a b) names m now = IsValue (now (First ∷ [])) × Sound a names (held_at First m) (part First now) × Sound b names (held_at Second m) (part Second now)
    Sound (when_is s a c x) names m now = Sound a names (held_at First m) (part First now)
    Sound (merge s x ps) names m now = IsTrue (has_part types ps (names x)) × SoundParts ps names (held_at Args m) (part Args now)
    Sound (call s f inlined es) names m now = SoundAll es names (held_at Args m) (part Args now) × C.sound f (values_of es (part Args now)) (held_at Instance m) (part Instance now)

    pub SoundAll : Exprs → Names → Held → Instant → Type 0
    SoundAll no_expr names m now = ⊤
    SoundAll (more_exprs e es) names m now = Sound e names (held_at Head m) (part Head now) × SoundAll es names (held_at Tail m) (part Tail now)

    pub SoundParts : Parts → Names → Held → Instant → Type 0
    SoundParts no_part names m now = ⊤
    SoundParts (more_parts c e ps) names m now = Sound e names (held_at Head m) (part Head now) × SoundParts ps names (held_at Tail m) (part Tail now)

  -- What is given at each `pre` is the value that its register holds at the start.
  abbrev mutual
    pub Fills : Expr → Instant → Instant → Type 0
    Fills (constant s c) start free = ⊤
    Fills (variable s x) start free = ⊤
    Fills (last_of s x) start free = ⊤
    Fills (one s o a) start free = Fills a (part First start) (part First free)
    Fills (two s o a b) start free = Fills a (part First start) (part First free) × Fills b (part Second start) (part Second free)
    Fills (choose s a b c) start free = Fills a (part First start) (part First free) × Fills b (part Second start) (part Second free) × Fills c (part Third start) (part Third free)
    Fills (pre s a) start free = (top free ≡ top start) × Fills a (part First start) (part First free)
    Fills (fby s a b) start free = Fills a (part First start) (part First free) × Fills b (part Second start) (part Second free)
    Fills (arrow s a b) start free = Fills a (part First start) (part First free) × Fills b (part Second start) (part Second free)
    Fills (when_is s a c x) start free = Fills a (part First start) (part First free)
    Fills (merge s x ps) start free = FillsParts ps (part Args start) (part Args free)
    Fills (call s f inlined es) start free = FillsAll es (part Args start) (part Args free) × C.fills f (part Instance start) (part Instance free)

    pub FillsAll : Exprs → Instant → Instant → Type 0
    FillsAll no_expr start free = ⊤
    FillsAll (more_exprs e es) start free = Fills e (part Head start) (part Head free) × FillsAll es (part Tail start) (part Tail free)

    pub FillsParts : Parts → Instant → Instant → Type 0
    FillsParts no_part start free = ⊤
    FillsParts (more_parts c e ps) start free = Fills e (part Head start) (part Head free) × FillsParts ps (part Tail start) (part Tail free)
