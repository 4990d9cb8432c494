-- Where an assignment is allowed, the clocks of the program in which it is written are right.
use Rattle.std.proofs.Common.{◌≡◌, ℕ, List, [], ◌∷◌, ◌++◌, map, refl, sym, ap, ap₂, ◌∙◌, subst}
use Rattle.std.proofs.lemmas.List.{reverse-reverse}
use Rattle.std.proofs.lemmas.Slice.Eq.{bytes_eq-Decides}
use Rattle.std.specs.Prelude.{⊤, Bool, true, false, ◌||◌, ◌&&◌, not, IsTrue, if◌then◌else◌, reverse, Option, None, Some}
use Rattle.std.specs.Str.{bytes_eq}
use Rattle.hp_base.specs.declared.span.Span.{Span}
use Rattle.hp_base.specs.declared.ty.Const.{Const}
use Rattle.hp_tree.specs.declared.block.Trans.{Trans}
use Rattle.hp_tree.specs.Expressions.{Expr, constant, variable, last_of, one, two, choose, pre, fby, arrow, when_is, merge, call, Exprs, no_expr, more_exprs}
use Rattle.hp_tree.specs.Blocks.{Decl, Block, block, Eqns, no_eqn, more_eqns, Eqn, define, switch, reset, automaton, Arms, no_arm, more_arms, States, no_state, more_states}
use Rattle.hp_tree.specs.Instant.{Place, Body, Named, Equations, Head, Tail, Right, Arms as ArmsOf, States as StatesOf, Clock, without}
use Rattle.hp_tree.specs.Meaning.{declares, defines, some_defines, arms_define, states_define, block_defines, written, clock_in, clock_told, clocks_told, or_clock, or_base}
use Rattle.hp_meaning.specs.Causal.Sources.{below}
use Rattle.hp_meaning.specs.Causal.Clocked.{Standing, base_alone, standing_in, standing_of, ClockRight, IsOn, ExprsOn, ConditionsOn, LeftsOn, DefinesOnBase, DeclarationsRight, BlockRight, AllRight, OneRight, ArmsRight, StatesRight}
use Rattle.hp_meaning.specs.Clocking.Terms.{value}
use Rattle.hp_meaning.specs.Causal.Points.{span_of}
use Rattle.hp_meaning.specs.Clocking.Clocking.{Term, Assignment, base, Seen, nowhere, own, further, from_inside, Sight, seen_on, standing, controls_define, local_at, local_term, term_in, sight_in, sight_of, tested, AllAre, AllAllow, declarations, conditions, units, units_of_all, units_of_one, units_of_arms, units_of_states, with_clock, with_clocks, all_with_clocks, one_with_clocks, arms_with_clocks, states_with_clocks, sights, sights_of_all, sights_of_arms, sights_of_states, LocalsDefined, AllDefined, ArmsDefined, StatesDefined}
use Rattle.hp_meaning.proofs.ClockingLemmas.Generate.{from_some, base_cases}
use Rattle.hp_meaning.proofs.ClockingLemmas.Units.{all_allow}

or_left : (d b : Bool) → IsTrue d → IsTrue (d || b)
or_left true b e = refl
or_left false b e = absurd (cc e)

or_right : (d b : Bool) → IsTrue b → IsTrue (d || b)
or_right true b e = refl
or_right false b e = e

-- ---- a clock that is told

abbrev pub Fits : Option Clock → Clock → Type 0
Fits None c = ⊤
Fits (Some d) c = d ≡ c

fits_or : (o p : Option Clock) (c : Clock) → Fits o c → Fits p c → Fits (or_clock o p) c
fits_or None p c f g = g
fits_or (Some d) p c f g = f

first_none : (o p : Option Clock) → or_clock o p ≡ None → o ≡ None
first_none None p e = refl
first_none (Some d) p e = absurd (cc e)

second_none : (o p : Option Clock) → or_clock o p ≡ None → p ≡ None
second_none None p e = e
second_none (Some d) p e = absurd (cc e)

module _ (names : Standing) (ds : List Decl) (agrees : (x : List ℕ) (c : Clock) → names x ≡ Some c → clock_in ds x ≡ c) where
  mutual
    pub fits : (e : Expr) (c : Clock) → IsOn names e c → Fits (clock_told ds e) c
    fits (constant s k) c h = tt
    fits (variable s x) c h = agrees x c h
    fits (last_of s x) c h = sym h
    fits (one s o a) c h = fits a c h
    fits (two s o a b) c h = fits_or (clock_told ds a) (clock_told ds b) c (fits a c h.0) (fits b c h.1)
    fits (choose s a b d) c h =
        fits_or (clock_told ds a) (or_clock (clock_told ds b) (clock_told ds d)) c (fits a c h.0) (fits_or (clock_told ds b) (clock_told ds d) c (fits b c h.1) (fits d c h.2))
    fits (pre s a) c h = fits a c h
    fits (fby s a b) c h = fits_or (clock_told ds a) (clock_told ds b) c (fits a c h.0) (fits b c h.1)
    fits (arrow s a b) c h = fits_or (clock_told ds a) (clock_told ds b) c (fits a c h.0) (fits b c h.1)
    fits (when_is s a k x) c h = ap (λ z. (k, x) ∷ z) (agrees x (without c) h.1) ∙ sym h.0
    fits (merge s x ps) c h = agrees x c h.0
    fits (call s f i es) c h = fits_all es c h

    fits_all : (es : Exprs) (c : Clock) → ExprsOn names es c → Fits (clocks_told ds es) c
    fits_all no_expr c h = tt
    fits_all (more_exprs e es) c h = fits_or (clock_told ds e) (clocks_told ds es) c (fits e c h.0) (fits_all es c h.1)

  -- an expression that tells no clock may stand on any
  mutual
    anywhere : (e : Expr) (c d : Clock) → clock_told ds e ≡ None → IsOn names e c → IsOn names e d
    anywhere (constant s k) c d n h = tt
    anywhere (variable s x) c d n h = absurd (cc n)
    anywhere (last_of s x) c d n h = absurd (cc n)
    anywhere (one s o a) c d n h = anywhere a c d n h
    anywhere (two s o a b) c d n h =
        (anywhere a c d (first_none (clock_told ds a) (clock_told ds b) n) h.0, anywhere b c d (second_none (clock_told ds a) (clock_told ds b) n) h.1)
    anywhere (choose s a b e) c d n h =
        let m = second_none (clock_told ds a) (or_clock (clock_told ds b) (clock_told ds e)) n in (
          anywhere a c d (first_none (clock_told ds a) (or_clock (clock_told ds b) (clock_told ds e)) n) h.0,
          anywhere b c d (first_none (clock_told ds b) (clock_told ds e) m) h.1,
          anywhere e c d (second_none (clock_told ds b) (clock_told ds e) m) h.2,
        )
    anywhere (pre s a) c d n h = anywhere a c d n h
    anywhere (fby s a b) c d n h =
        (anywhere a c d (first_none (clock_told ds a) (clock_told ds b) n) h.0, anywhere b c d (second_none (clock_told ds a) (clock_told ds b) n) h.1)
    anywhere (arrow s a b) c d n h =
        (anywhere a c d (first_none (clock_told ds a) (clock_told ds b) n) h.0, anywhere b c d (second_none (clock_told ds a) (clock_told ds b) n) h.1)
    anywhere (when_is s a k x) c d n h = absurd (cc n)
    anywhere (merge s x ps) c d n h = absurd (cc n)
    anywhere (call s f i es) c d n h = anywhere_all es c d n h

    anywhere_all : (es : Exprs) (c d : Clock) → clocks_told ds es ≡ None → ExprsOn names es c → ExprsOn names es d
    anywhere_all no_expr c d n h = tt
    anywhere_all (more_exprs e es) c d n h =
        (anywhere e c d (first_none (clock_told ds e) (clocks_told ds es) n) h.0, anywhere_all es c d (second_none (clock_told ds e) (clocks_told ds es) n) h.1)

  pub told_there : (e : Expr) (c : Clock) → IsOn names e c → IsOn names e (or_base (clock_told ds e))
  told_there e c h = tie (clock_told ds e) refl (fits e c h)
    where
      tie : (o : Option Clock) → clock_told ds e ≡ o → Fits o c → IsOn names e (or_base o)
      tie None m f = anywhere e c [] m h
      tie (Some d) m f = subst (IsOn names e) (sym f) h

  -- an equation without names
  pub on_told : (e : Expr) (c : Clock) → IsOn names e c → ClockRight names c → ClockRight names (or_base (clock_told ds e)) × IsOn names e (or_base (clock_told ds e))
  on_told e c h r = tie (clock_told ds e) refl (fits e c h)
    where
      tie : (o : Option Clock) → clock_told ds e ≡ o → Fits o c → ClockRight names (or_base o) × IsOn names e (or_base o)
      tie None m f = (tt, anywhere e c [] m h)
      tie (Some d) m f = (subst (ClockRight names) (sym f) r, subst (IsOn names e) (sym f) h)

-- ---- what writing leaves as it is

pub declares_kept : (at : Assignment) (es : Eqns) (here : Place → Place) (ds : List Decl) (x : List ℕ) → declares (map (with_clock at es here) ds) x ≡ declares ds x
declares_kept at es here [] x = refl
declares_kept at es here (d ∷ ds) x = ap (λ z. bytes_eq d.name x || z) (declares_kept at es here ds x)

mutual
  block_kept : (at : Assignment) (here : Place → Place) (b : Block) (x : List ℕ) → block_defines (with_clocks at here b) x ≡ block_defines b x
  block_kept at here (block ds es) x =
      ap₂ (λ a c. a && not c) (some_kept at (below Equations here) es x) (declares_kept at es here ds x)

  pub some_kept : (at : Assignment) (here : Place → Place) (es : Eqns) (x : List ℕ) → some_defines (all_with_clocks at here es) x ≡ some_defines es x
  some_kept at here no_eqn x = refl
  some_kept at here (more_eqns e es) x = ap₂ ◌||◌ (defines_kept at (below Head here) e x) (some_kept at (below Tail here) es x)

  pub defines_kept : (at : Assignment) (here : Place → Place) (e : Eqn) (x : List ℕ) → defines (one_with_clocks at here e) x ≡ defines e x
  defines_kept at here (define s ys e) x = refl
  defines_kept at here (switch s e arms) x = arms_kept at (below ArmsOf here) arms x
  defines_kept at here (reset s b e) x = block_kept at (below Body here) b x
  defines_kept at here (automaton s ss) x = states_kept at (below StatesOf here) ss x

  arms_kept : (at : Assignment) (here : Place → Place) (arms : Arms) (x : List ℕ) → arms_define (arms_with_clocks at here arms) x ≡ arms_define arms x
  arms_kept at here no_arm x = refl
  arms_kept at here (more_arms c b s arms) x = ap₂ ◌||◌ (block_kept at (below Head here) b x) (arms_kept at (below Tail here) arms x)

  states_kept : (at : Assignment) (here : Place → Place) (ss : States) (x : List ℕ) → states_define (states_with_clocks at here ss) x ≡ states_define ss x
  states_kept at here no_state x = refl
  states_kept at here (more_states f b until unless s ss) x =
      ap₂ ◌||◌ (block_kept at (below Body (below Head here)) b x) (states_kept at (below Tail here) ss x)

pub value_if : (at : Assignment) (d : Bool) (t u : Term) → value at (if d then t else u) ≡ (if d then value at t else value at u)
value_if at true t u = refl
value_if at false t u = refl

-- the clock of a name in the block that is written
pub clock_written : (at : Assignment) (es : Eqns) (here : Place → Place) (ds : List Decl) (x : List ℕ) → clock_in (map (with_clock at es here) ds) x ≡ value at (term_in es here ds x)
clock_written at es here [] x = refl
clock_written at es here (d ∷ ds) x =
    let r = reverse-reverse (value at (local_term es here d)) in
    let f = clock_written at es here ds x in
    (λ z. if bytes_eq d.name x then r z else f z) ∙ sym (value_if at (bytes_eq d.name x) (local_term es here d) (term_in es here ds x))

base_twice : (o : Option Clock) → base_alone (base_alone o) ≡ base_alone o
base_twice None = refl
base_twice (Some []) = refl
base_twice (Some (o ∷ c)) = refl

pub seen_inside : (at : Assignment) (s : Seen) → seen_on at (from_inside s) ≡ base_alone (seen_on at s)
seen_inside at nowhere = refl
seen_inside at (own t) = refl
seen_inside at (further t) = sym (base_twice (Some (value at t)))

pub seen_if : (at : Assignment) (d b : Bool) (t : Term) (s : Seen) (c : Clock) → b ≡ d → c ≡ value at t → seen_on at (if d then own t else from_inside s) ≡ (if b then Some c else base_alone (seen_on at s))
seen_if at true b t s c e f = ap Some (sym f) ∙ ap (λ z. if z then Some c else base_alone (seen_on at s)) (sym e)
seen_if at false b t s c e f = seen_inside at s ∙ ap (λ z. if z then Some c else base_alone (seen_on at s)) (sym e)

-- names stand in the written block as they are seen
pub standing_written : (at : Assignment) (ds : List Decl) (es : Eqns) (here : Place → Place) (out : Sight) → standing at (sight_in ds es here out) ≡ standing_in (map (with_clock at es here) ds) (all_with_clocks at (below Equations here) es) (standing at out)
standing_written at ds es here out =
    let f : (x : List ℕ) → seen_on at (sight_in ds es here out x) ≡ standing_in (map (with_clock at es here) ds) (all_with_clocks at (below Equations here) es) (standing at out) x =
    λ x. seen_if at (some_defines es x) (some_defines (all_with_clocks at (below Equations here) es) x) (term_in es here ds x) (out x)
    (clock_in (map (with_clock at es here) ds) x) (some_kept at (below Equations here) es x) (clock_written at es here ds x) in
    λ z x. f x z

pub standing_of_written : (at : Assignment) (b : Block) (here : Place → Place) (out : Sight) → standing at (sight_of b here out) ≡ standing_of (with_clocks at here b) (standing at out)
standing_of_written at (block ds es) here out = standing_written at ds es here out

-- ---- locals

last_based : (at : Assignment) (o : Option Const) (b : Bool) (p : Place) → elim o as (λ x. Type 0) [ None ↦ ⊤ | Some c ↦ reverse (reverse (value at (local_at o b p))) ≡ [] ]
last_based at None b p = tt
last_based at (Some c) b p = refl

local_right : (at : Assignment) (names : Standing) (o : Option Const) (b : Bool) (p : Place) → ClockRight names (at p) → ClockRight names (value at (local_at o b p))
local_right at names None true p h = tt
local_right at names None false p h = h
local_right at names (Some c) b p h = tt

local_fixed : (o : Option Const) (b : Bool) (p : Place) → IsTrue b → (local_at o b p) ≡ base
local_fixed None true p h = refl
local_fixed None false p h = absurd (cc h)
local_fixed (Some c) b p h = refl

-- names that a control equation defines are on the base clock
fixed_in : (es : Eqns) (here : Place → Place) (ds : List Decl) (x : List ℕ) → IsTrue (controls_define es x) → term_in es here ds x ≡ base
fixed_in es here [] x h = refl
fixed_in es here (d ∷ ds) x h = tie (bytes_eq d.name x) (bytes_eq-Decides d.name x).0 (fixed_in es here ds x h)
  where
    tie : (b : Bool) → (b ≡ true → d.name ≡ x) → term_in es here ds x ≡ base → (if b then local_term es here d else term_in es here ds x) ≡ base
    tie true e f =
        local_fixed d.last (controls_define es d.name) (here (Named d.name ∷ [])) (subst (λ z. IsTrue (controls_define es z)) (sym (e refl)) h)
    tie false e f = f

pub undeclared : (ds : List Decl) (x : List ℕ) → (IsTrue (declares ds x) → ⊥) → clock_in ds x ≡ []
undeclared [] x h = refl
undeclared (d ∷ ds) x h = tie (bytes_eq d.name x) h (λ g. undeclared ds x g)
  where
    tie : (b : Bool) → (IsTrue (b || declares ds x) → ⊥) → ((IsTrue (declares ds x) → ⊥) → clock_in ds x ≡ []) → (if b then written d.clock else clock_in ds x) ≡ []
    tie true g f = absurd (g refl)
    tie false g f = f g

-- what a block says of its names agrees with its declarations
pub agreeing : (ds : List Decl) (es : Eqns) (out : Standing) → ((x : List ℕ) → IsTrue (declares ds x) → IsTrue (some_defines es x)) → (x : List ℕ) (c : Clock) → standing_in ds es out x ≡ Some c → clock_in ds x ≡ c
agreeing ds es out h x c e = tie (some_defines es x) (h x) (out x) e
  where
    far : (o : Option Clock) → (IsTrue (declares ds x) → ⊥) → base_alone o ≡ Some c → clock_in ds x ≡ c
    far None g f = absurd (cc f)
    far (Some d) g f = undeclared ds x g ∙ sym (base_cases d c f).1

    tie : (b : Bool) → (IsTrue (declares ds x) → IsTrue b) → (o : Option Clock) → (if b then Some (clock_in ds x) else base_alone o) ≡ Some c → clock_in ds x ≡ c
    tie true g o f = from_some (clock_in ds x) c f
    tie false g o f = far o (λ u. absurd (cc (g u))) f

module _ (at : Assignment) where
  -- the clocks at the places of a part are clocks
  abbrev Stand : (Place → Place) → (Place → Sight) → Type 0
  Stand here see = (p : Place) → ClockRight (standing at (see p)) (at (here p))

  declarations_right : (names : Standing) (es : Eqns) (here : Place → Place) (ds : List Decl) → ((x : List ℕ) → ClockRight names (at (here (Named x ∷ [])))) → DeclarationsRight names (map (with_clock at es here) ds)
  declarations_right names es here [] h = tt
  declarations_right names es here (d ∷ ds) h = (
    subst (ClockRight names) (sym (reverse-reverse (value at (local_term es here d)))) (local_right at names d.last (controls_define es d.name) (here (Named d.name ∷ [])) (h d.name)),
    last_based at d.last (controls_define es d.name) (here (Named d.name ∷ [])),
    declarations_right names es here ds h,
  )

  conditions_on : (sight : Sight) (ts : List Trans) → AllAllow at (conditions sight ts) → ConditionsOn (standing at sight) ts
  conditions_on sight [] h = tt
  conditions_on sight (t ∷ ts) h = (h.0, conditions_on sight ts h.1)

  module _ (sight : Sight) (left : List ℕ → Term) (ds : List Decl) (is_left : (x : List ℕ) → clock_in ds x ≡ value at (left x)) where
    lefts_on : (ys : List (List ℕ × Span)) (c : Clock) → AllAre at (map (λ y. left y.0) ys) c → LeftsOn ds ys c
    lefts_on [] c h = tt
    lefts_on (y ∷ ys) c h = (is_left y.0 ∙ h.0, lefts_on ys c h.1)

    defined_right : ((x : List ℕ) (c : Clock) → standing at sight x ≡ Some c → clock_in ds x ≡ c) → (s : Span) (ys : List (List ℕ × Span)) (e : Expr) (c : Clock) → AllAre at (map (λ y. left y.0) ys) c → IsOn (standing at sight) e c → ClockRight (standing at sight) c → OneRight (standing at sight) ds (define s ys e)
    defined_right agrees s [] e c a h r = let t = on_told (standing at sight) ds agrees e c h r in (t.0, tt, t.1)
    defined_right agrees s (y ∷ ys) e c a h r =
        let k : clock_in ds y.0 ≡ c = is_left y.0 ∙ a.0 in
        (subst (ClockRight (standing at sight)) (sym k) r, (refl, subst (LeftsOn ds ys) (sym k) (lefts_on ys c a.1)), subst (IsOn (standing at sight) e) (sym k) h)

    on_base_all : (here : Place → Place) (e : Eqn) → ((x : List ℕ) → IsTrue (defines e x) → left x ≡ base) → DefinesOnBase ds (one_with_clocks at here e)
    on_base_all here e h x d = is_left x ∙ ap (value at) (h x (subst IsTrue (defines_kept at here e x) d))

  mutual
    pub block_right : (b : Block) (here : Place → Place) (out : Sight) → LocalsDefined b → AllAllow at (units b here out) → Stand here (sights b here out) → BlockRight (standing at out) (with_clocks at here b)
    block_right (block ds es) here out l a s =
        let sight = sight_in ds es here out in
        let r = (all_allow at (declarations sight es here ds) (units_of_all es (below Equations here) sight (λ x. term_in es here ds x))).0 a in
        let ds' = map (with_clock at es here) ds in
        let es' = all_with_clocks at (below Equations here) es in
        let path = standing_written at ds es here out in
        let agrees : (x : List ℕ) (c : Clock) → standing at sight x ≡ Some c → clock_in ds' x ≡ c =
        λ x c e. agreeing ds' es' (standing at out)
        (λ y h. subst IsTrue (sym (some_kept at (below Equations here) es y)) (l.0 y (subst IsTrue (declares_kept at es here ds y) h)))
        x c (sym (ap (λ z. z x) path) ∙ e) in
        subst (λ z. DeclarationsRight z ds' × AllRight z ds' es') path (
          declarations_right (standing at sight) es here ds (λ x. s (Named x ∷ [])),
          all_right es (below Equations here) sight (λ x. term_in es here ds x) ds' (λ x. clock_written at es here ds x) agrees
              (λ x h. fixed_in es here ds x h) l.1 r.1 (λ p. s (Equations ∷ p)),
        )

    all_right : (es : Eqns) (here : Place → Place) (sight : Sight) (left : List ℕ → Term) (ds : List Decl) → ((x : List ℕ) → clock_in ds x ≡ value at (left x)) → ((x : List ℕ) (c : Clock) → standing at sight x ≡ Some c → clock_in ds x ≡ c) → ((x : List ℕ) → IsTrue (controls_define es x) → left x ≡ base) → AllDefined es → AllAllow at (units_of_all es here sight left) → Stand here (sights_of_all es here sight) → AllRight (standing at sight) ds (all_with_clocks at here es)
    all_right no_eqn here sight left ds il ag fx l a s = tt
    all_right (more_eqns (define w ys e) es) here sight left ds il ag fx l a s = (
      defined_right sight left ds il ag w ys e (at (here (Head ∷ Right ∷ []))) a.0.0 a.0.1 (s (Head ∷ Right ∷ [])),
      all_right es (below Tail here) sight left ds il ag fx l.1 a.1 (λ p. s (Tail ∷ p)),
    )
    all_right (more_eqns (switch w e arms) es) here sight left ds il ag fx l a s =
        let r = (all_allow at (units_of_one (switch w e arms) (below Head here) sight left) (units_of_all es (below Tail here) sight left)).0 a in (
          (
            on_base_all sight left ds il (below Head here) (switch w e arms) (λ x h. fx x (or_left (defines (switch w e arms) x) (controls_define es x) h)),
            r.0.0,
            arms_right arms (below ArmsOf (below Head here)) sight l.0 r.0.1 (λ p. s (Head ∷ ArmsOf ∷ p)),
          ),
          all_right es (below Tail here) sight left ds il ag (λ x h. fx x (or_right (defines (switch w e arms) x) (controls_define es x) h)) l.1 r.1 (λ p. s (Tail ∷ p)),
        )
    all_right (more_eqns (reset w b e) es) here sight left ds il ag fx l a s =
        let r = (all_allow at (units_of_one (reset w b e) (below Head here) sight left) (units_of_all es (below Tail here) sight left)).0 a in
        let q = (all_allow at (units b (below Body (below Head here)) sight) (tested (span_of e) sight e ∷ [])).0 r.0 in (
          (
            on_base_all sight left ds il (below Head here) (reset w b e) (λ x h. fx x (or_left (defines (reset w b e) x) (controls_define es x) h)),
            q.1.0,
            block_right b (below Body (below Head here)) sight l.0 q.0 (λ p. s (Head ∷ Body ∷ p)),
          ),
          all_right es (below Tail here) sight left ds il ag (λ x h. fx x (or_right (defines (reset w b e) x) (controls_define es x) h)) l.1 r.1 (λ p. s (Tail ∷ p)),
        )
    all_right (more_eqns (automaton w ss) es) here sight left ds il ag fx l a s =
        let r = (all_allow at (units_of_one (automaton w ss) (below Head here) sight left) (units_of_all es (below Tail here) sight left)).0 a in (
          (
            on_base_all sight left ds il (below Head here) (automaton w ss) (λ x h. fx x (or_left (defines (automaton w ss) x) (controls_define es x) h)),
            states_right ss (below StatesOf (below Head here)) sight l.0 r.0 (λ p. s (Head ∷ StatesOf ∷ p)),
          ),
          all_right es (below Tail here) sight left ds il ag (λ x h. fx x (or_right (defines (automaton w ss) x) (controls_define es x) h)) l.1 r.1 (λ p. s (Tail ∷ p)),
        )

    arms_right : (arms : Arms) (here : Place → Place) (sight : Sight) → ArmsDefined arms → AllAllow at (units_of_arms arms here sight) → Stand here (sights_of_arms arms here sight) → ArmsRight (standing at sight) (arms_with_clocks at here arms)
    arms_right no_arm here sight l a s = tt
    arms_right (more_arms c b w arms) here sight l a s =
        let r = (all_allow at (units b (below Head here) sight) (units_of_arms arms (below Tail here) sight)).0 a in
        (block_right b (below Head here) sight l.0 r.0 (λ p. s (Head ∷ p)), arms_right arms (below Tail here) sight l.1 r.1 (λ p. s (Tail ∷ p)))

    states_right : (ss : States) (here : Place → Place) (sight : Sight) → StatesDefined ss → AllAllow at (units_of_states ss here sight) → Stand here (sights_of_states ss here sight) → StatesRight (standing at sight) (states_with_clocks at here ss)
    states_right no_state here sight l a s = tt
    states_right (more_states f b until unless w ss) here sight l a s =
        let mine = below Body (below Head here) in
        let r = (all_allow at (units b mine sight) (conditions (sight_of b mine sight) until ++ (conditions sight unless ++ units_of_states ss (below Tail here) sight))).0 a in
        let q = (all_allow at (conditions (sight_of b mine sight) until) (conditions sight unless ++ units_of_states ss (below Tail here) sight)).0 r.1 in
        let o = (all_allow at (conditions sight unless) (units_of_states ss (below Tail here) sight)).0 q.1 in (
          block_right b mine sight l.0 r.0 (λ p. s (Head ∷ Body ∷ p)),
          subst (λ z. ConditionsOn z until) (standing_of_written at b mine sight) (conditions_on (sight_of b mine sight) until q.0),
          conditions_on sight unless o.0,
          states_right ss (below Tail here) sight l.1 o.1 (λ p. s (Tail ∷ p)),
        )
