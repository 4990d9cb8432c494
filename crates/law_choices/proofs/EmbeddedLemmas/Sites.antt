-- Where an observer stands in a node, each reaction of the node has in it a reaction of the observer, over the instants of its site.
use Rattle.std.proofs.Common.{◌≡◌, ◌⊎◌, inl, inr, ℕ, zero, suc, ◌+◌, ◌<◌, ◌≤◌, Bool, true, false, ◌&&◌, ◌||◌, nat_eq, nat_lt, List, [], ◌∷◌, ◌++◌, length, map, refl, ap, ap₂, subst, ◌∙◌, arith}
use Rattle.std.specs.List.{AllByRecursion, range_with_len}
use Rattle.std.proofs.lemmas.Bool.Decides.{nat_tests}
use Rattle.hp_base.specs.declared.value.Value.{Value}
use Rattle.hp_base.specs.declared.value.Value.TheVariants.{Absent}
use Rattle.hp_flat.specs.declared.equation.Atom.{Atom}
use Rattle.hp_flat.specs.Equations.{Clock, FlatEqn}
use Rattle.hp_flat.specs.Nodes.{FlatNode}
use Rattle.law_automata.proofs.LoweredLemmas.Expressions.{ap₃}
use Rattle.law_equations.proofs.FollowedLemmas.Passing.{each_first, each_second}
use Rattle.law_equations.specs.Meaning.Instants.{Instant, atom, atoms, history, holds, noted, restarted, unless}
use Rattle.law_equations.specs.Meaning.Reactions.{Answers, Continues, Holds, Reaction, has, is_set}
use Rattle.law_equations.specs.Meaning.Scheduling.{EqnWithin}
use Rattle.hp_watch.specs.Embedding.{Site, moved_all, moved_clock, moved_eqn}
use Rattle.law_choices.specs.Embedded.Sites.{Holds as IsHeld, IsElsewhere, SiteLaw, moved_in}
use Rattle.law_choices.proofs.AddingLemmas.Embeds.{embedded-eqns, input_eqns}
use Rattle.law_choices.proofs.AddingLemmas.Steps.{none_among}
use Rattle.law_choices.proofs.EmbeddedLemmas.Moved.{IsStill, all-own, both-or, clock-own, holds-both, nothing-own, site_past, site_since, value-own}

-- ---- variables that are set

apart-test : (t x : ℕ) → (t < x) ⊎ (x < t) → nat_eq t x ≡ false
apart-test t x (inl l) = grind (arith, nat_tests)
apart-test t x (inr l) = grind (arith, nat_tests)

moved-test : (t x k : ℕ) → nat_eq (t + k) (x + k) ≡ nat_eq t x
moved-test t x k = grind (arith, nat_tests)

has-moved : (far : ℕ) (ts : List ℕ) (x : ℕ) → has (moved_all far ts) (x + far) ≡ has ts x
has-moved far [] x = refl
has-moved far (t ∷ ts) x = ap₂ (λ b c. b || c) (moved-test t x far) (has-moved far ts x)

never : (b : Bool) → ((b && false) || false) ≡ false
never true = refl
never false = refl

none-set : (P : ℕ → Type 0) (now : Instant) (x : ℕ) → ((t : ℕ) → P t → nat_eq t x ≡ false) → (es : List FlatEqn) → AllByRecursion (λ (e : FlatEqn). AllByRecursion P e.targets) es → is_set es now x ≡ false
none-set P now x f [] h = refl
none-set P now x f (e ∷ es) h = ap₂ (λ b c. (holds e.clock now && b) || c) (none_among P x f e.targets h.0) (none-set P now x f es h.1) ∙ never (holds e.clock now)

none-there : (now : Instant) (x : ℕ) (es : List FlatEqn) → AllByRecursion (λ (e : FlatEqn). holds e.clock now ≡ false) es → is_set es now x ≡ false
none-there now x [] h = refl
none-there now x (e ∷ es) h = ap₂ (λ b c. (b && has e.targets x) || c) h.0 (none-there now x es h.1)

set-both : (xs ys : List FlatEqn) (now : Instant) (x : ℕ) → is_set (xs ++ ys) now x ≡ (is_set xs now x || is_set ys now x)
set-both [] ys now x = refl
set-both (e ∷ xs) ys now x = ap (λ b. (holds e.clock now && has e.targets x) || b) (set-both xs ys now x) ∙ both-or (holds e.clock now && has e.targets x) (is_set xs now x) (is_set ys now x)

or-none : (b : Bool) → (b || false) ≡ b
or-none true = refl
or-none false = refl

-- ---- the variables of its inputs

numbers-own : (count far many from : ℕ) (i : Instant) → from + many ≤ count → map (moved_in count far i) (range_with_len from many) ≡ map i (range_with_len (from + far) many)
numbers-own count far zero from i l = refl
numbers-own count far (suc many) from i l =
    ap₂ (λ v vs. v ∷ vs) (value-own count far i from (omega (arith, l)))
    (numbers-own count far many (from + 1) i (omega (arith, l)) ∙ ap (λ k. map i (range_with_len k many)) (next from far))
  where
    next : (k m : ℕ) → (k + 1) + m ≡ (k + m) + 1
    next k m = omega arith

inputs-copied : (answers : Answers) (past : List Instant) (now : Instant) (clock : Clock) (target : ℕ) (args : List Atom) → holds clock now ≡ true → AllByRecursion (Holds answers past now) (input_eqns clock target args) → map now (range_with_len target (length args)) ≡ atoms now args
unfolding input_eqns
inputs-copied answers past now clock target [] there h = refl
inputs-copied answers past now clock target (a ∷ args) there h =
    let copied : now target ∷ [] ≡ atom now a ∷ [] = h.0 there in
    let first : now target ≡ atom now a = cc in
    ap₂ (λ v vs. v ∷ vs) first (inputs-copied answers past now clock (target + 1) args there h.1)

copies-off : (now : Instant) (clock : Clock) (target : ℕ) (args : List Atom) → holds clock now ≡ false → AllByRecursion (λ (e : FlatEqn). holds e.clock now ≡ false) (input_eqns clock target args)
unfolding input_eqns
copies-off now clock target [] off = tt
copies-off now clock target (a ∷ args) off = (off, copies-off now clock (target + 1) args off)

pub copies-below : (clock : Clock) (target : ℕ) (args : List Atom) (end : ℕ) → target + length args ≤ end → AllByRecursion (λ (e : FlatEqn). AllByRecursion (λ t. t < end) e.targets) (input_eqns clock target args)
unfolding input_eqns
copies-below clock target [] end l = tt
copies-below clock target (a ∷ args) end l = ((omega (arith, l), tt), copies-below clock (target + 1) args end (omega (arith, l)))

-- ---- where it stands in a node

module _ (answers : Answers) (observer n m : FlatNode) (site : Site) (stands : IsHeld observer n m site) where
  abbrev V : ℕ
  V = length n.variables

  abbrev W : ℕ
  W = length observer.variables

  abbrev own : Instant → Instant
  own i = moved_in W V i

  abbrev copies : List FlatEqn
  copies = input_eqns site.clock V site.inputs

  abbrev moved : List FlatEqn
  moved = map (moved_eqn site V) observer.eqns

  abbrev Still : Instant → Type 0
  Still i = IsStill W V site i

  all-eqns : m.eqns ≡ (n.eqns ++ (copies ++ moved)) ++ stands.more
  all-eqns = stands.eqns ∙ ap (λ es. es ++ stands.more) (embedded-eqns observer site n)

  -- what sets a variable of the observer are the copies of its inputs and its own equations
  only-own : (now : Instant) (x : ℕ) → x < W → is_set m.eqns now (x + V) ≡ (is_set copies now (x + V) || is_set moved now (x + V))
  only-own now x l =
      ap (λ es. is_set es now (x + V)) all-eqns
      ∙ set-both (n.eqns ++ (copies ++ moved)) stands.more now (x + V)
      ∙ ap₂ (λ a b. a || b) (set-both n.eqns (copies ++ moved) now (x + V) ∙ ap₂ (λ a b. a || b) before (set-both copies moved now (x + V))) behind
      ∙ or-none (is_set copies now (x + V) || is_set moved now (x + V))
    where
      lower : (t : ℕ) → t < V → nat_eq t (x + V) ≡ false
      lower t k = apart-test t (x + V) (inl (omega (arith, k)))

      elsewhere : (t : ℕ) → IsElsewhere observer n t → nat_eq t (x + V) ≡ false
      elsewhere t (inl k) = lower t k
      elsewhere t (inr k) = apart-test t (x + V) (inr (omega (arith, k, l)))

      before : is_set n.eqns now (x + V) ≡ false
      before = none-set (λ t. t < V) now (x + V) lower n.eqns stands.below

      behind : is_set stands.more now (x + V) ≡ false
      behind = none-set (IsElsewhere observer n) now (x + V) elsewhere stands.more stands.apart

  -- ---- where the site is not there

  moved-off : (now : Instant) → holds site.clock now ≡ false → (es : List FlatEqn) → AllByRecursion (λ (e : FlatEqn). holds e.clock now ≡ false) (map (moved_eqn site V) es)
  moved-off now off [] = tt
  moved-off now off (e ∷ es) = (holds-both site.clock (moved_clock V e.clock) now ∙ ap (λ b. b && holds (moved_clock V e.clock) now) off, moved-off now off es)

  still : (past : List Instant) (row : List Value) (now : Instant) → Continues answers m past row now → Still now
  still past row now h off x l =
      h.others (x + V) (let f = stands.few in omega (arith, f))
      (only-own now x l ∙ ap₂ (λ a b. a || b) (none-there now (x + V) copies (copies-off now site.clock V site.inputs off)) (none-there now (x + V) moved (moved-off now off observer.eqns)))

  pub all-still : (rows : List (List Value)) (past : List Instant) → Reaction answers m rows past → AllByRecursion Still past
  all-still [] [] r = tt
  all-still [] (i ∷ past) r = absurd r
  all-still (row ∷ rows) [] r = absurd r
  all-still (row ∷ rows) (i ∷ past) r = (still past row i r.1, all-still rows past r.0)

  -- ---- where it is there

  set-moved : (now : Instant) → holds site.clock now ≡ true → (es : List FlatEqn) → AllByRecursion (EqnWithin W) es → (x : ℕ) → is_set (map (moved_eqn site V) es) now (x + V) ≡ is_set es (own now) x
  set-moved now there [] w x = refl
  set-moved now there (e ∷ es) w x =
      let on : holds (moved_eqn site V e).clock now ≡ holds e.clock (own now) = own-clock e w.0 in
      ap₃ (λ a b c. (a && b) || c) on (has-moved V e.targets x) (set-moved now there es w.1 x)
    where
      own-clock : (e : FlatEqn) → EqnWithin W e → holds (moved_eqn site V e).clock now ≡ holds e.clock (own now)
      own-clock e w = holds-both site.clock (moved_clock V e.clock) now ∙ ap₂ (λ a b. a && b) there (clock-own W V e.clock now w.clock)

  few-inputs : observer.inputs ≤ W
  few-inputs = let i = stands.within in i.inputs

  set-own : (now : Instant) → holds site.clock now ≡ true → (x : ℕ) → observer.inputs ≤ x → x < W → is_set m.eqns now (x + V) ≡ is_set observer.eqns (own now) x
  set-own now there x l u =
      let many = stands.inputs in
      let i = stands.within in
      only-own now x u
      ∙ ap₂ (λ a b. a || b) (none-set (λ t. t < x + V) now (x + V) (λ t k. apart-test t (x + V) (inl k)) copies (copies-below site.clock V site.inputs (x + V) (omega (arith, l, many)))) (set-moved now there observer.eqns i.eqns x)

  held-behind : (past : List Instant) (row : List Value) (now : Instant) → Continues answers m past row now → AllByRecursion (Holds answers past now) (copies ++ moved)
  held-behind past row now h =
      each_second (Holds answers past now) n.eqns (copies ++ moved)
      (each_first (Holds answers past now) (n.eqns ++ (copies ++ moved)) stands.more (subst (AllByRecursion (Holds answers past now)) all-eqns h.equations))

  -- The observer goes on as by itself.
  pub goes-on : (past : List Instant) (row : List Value) (now : Instant) → AllByRecursion Still past → Continues answers m past row now → holds site.clock now ≡ true → Continues answers observer (site_since W V site past now) (atoms now site.inputs) (own now)
  goes-on past row now s h there =
      let P = Holds answers past now in
      let i = stands.within in
      let many = stands.inputs in
      let held = held-behind past row now h in
      let none : 0 + V ≡ V = omega arith in
      let few = few-inputs in
      record {
        inputs_are =
            numbers-own W V observer.inputs 0 now (omega (arith, few)) ∙ ap (λ k. map now (range_with_len k observer.inputs)) none ∙ ap (λ k. map now (range_with_len V k)) many
            ∙ inputs-copied answers past now site.clock V site.inputs there (each_first P copies moved held);
        equations = all-own W V site answers past now s there observer.eqns i.eqns (each_second P copies moved held);
        others = λ x l u. by x l u (nat_lt x W) refl;
      }
    where
      by : (x : ℕ) → observer.inputs ≤ x → is_set observer.eqns (own now) x ≡ false → (b : Bool) → nat_lt x W ≡ b → own now x ≡ Absent
      by x l u false e = nothing-own W V now x e
      by x l u true e =
          let below : x < W = grind (arith, nat_tests, e) in
          value-own W V now x below ∙ h.others (x + V) (let f = stands.few in omega (arith, f)) (set-own now there x l below ∙ u)

  -- ---- all instants

  abbrev given : List Instant → List (List Value)
  given past = history site.clock site.restart (λ i. atoms i site.inputs) past

  since-runs : (b : Bool) (past : List Instant) → Reaction answers observer (given past) (site_past W V site past) → Reaction answers observer (unless b (given past)) (unless b (site_past W V site past))
  since-runs true past r = tt
  since-runs false past r = r

  pub site-runs : (rows : List (List Value)) (past : List Instant) → Reaction answers m rows past → Reaction answers observer (given past) (site_past W V site past)
  site-runs [] [] r = tt
  site-runs [] (i ∷ past) r = absurd r
  site-runs (row ∷ rows) [] r = absurd r
  site-runs (row ∷ rows) (i ∷ past) r = by (holds site.clock i) refl (since-runs (restarted site.restart i) past (site-runs rows past r.0))
    where
      by : (b : Bool) → holds site.clock i ≡ b → Reaction answers observer (unless (restarted site.restart i) (given past)) (unless (restarted site.restart i) (site_past W V site past))
          → Reaction answers observer (noted b (atoms i site.inputs) (unless (restarted site.restart i) (given past))) (noted b (own i) (unless (restarted site.restart i) (site_past W V site past)))
      by false e runs = runs
      by true e runs = (runs, goes-on past row i (all-still rows past r.0) r.1 e)

pub site_law : SiteLaw
site_law answers observer n m site stands [] past now r there = absurd r
site_law answers observer n m site stands (row ∷ rows) past now r there = (
  since-runs answers observer n m site stands (restarted site.restart now) past (site-runs answers observer n m site stands rows past r.0),
  goes-on answers observer n m site stands past row now (all-still answers observer n m site stands rows past r.0) r.1 there,
)
