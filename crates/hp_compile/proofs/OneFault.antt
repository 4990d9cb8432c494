-- At each step behind the grammar one fault is first, and there is none where the step finds none.
use Rattle.std.proofs.Common.{◌≡◌, ◌≢◌, ℕ, List, [], ◌∷◌, ◌++◌, map, inl, inr, Result, Err, None, Some, refl, sym, ap, ap₂, subst, ◌∙◌}
use Rattle.hp_base.specs.First.First.{IsFirst}
use Rattle.hp_base.specs.declared.limit.Limit.{Limit}
use Rattle.hp_base.specs.declared.span.Span.{Span}
use Rattle.hp_base.proofs.FirstLemmas.FirstLaws.{first_none_of}
use Rattle.hp_tree.specs.Programs.{Node}
use Rattle.hp_tree.specs.declared.program.Item.{Item}
use Rattle.hp_tree.specs.declared.program.Item.TheVariants.{TypeItem, NodeItem}
use Rattle.hp_names.specs.Breaches as names
use Rattle.hp_names.specs.Claims as naming
use Rattle.hp_names.specs.Rules.{WellNamed}
use Rattle.hp_names.specs.declared.error.NameErr.{NameErr}
use Rattle.hp_names.specs.declared.error.NameErr.TheVariants as name_error
use Rattle.hp_names.specs.declared.breach.Fault.TheVariants as fault
use Rattle.hp_names.proofs.RuleLaws as named
use Rattle.hp_typing.specs.Breaches as types
use Rattle.hp_typing.specs.Claims as typing
use Rattle.hp_typing.specs.Definedness.{definition_claims}
use Rattle.hp_typing.specs.DefinitionRules.{WellDefined}
use Rattle.hp_typing.specs.Rules.{WellTyped}
use Rattle.hp_typing.specs.declared.error.TypeErr.{TypeErr}
use Rattle.hp_typing.specs.declared.error.TypeErr.TheVariants as type_error
use Rattle.hp_typing.proofs.DefinitionLaws.{definitions_law}
use Rattle.hp_typing.proofs.RuleLaws as typed
use Rattle.hp_meaning.specs.Clocking.Clocking.{Assignment, AllAllow, AreClocks, IsAllowed, NodeNamed, ClockUnit, node_sights, node_units, node_with_clocks, place_of}
use Rattle.hp_meaning.specs.Clocking.Solving.{FirstClash}
use Rattle.hp_meaning.proofs.ClockingLemmas.Judging.{one as one_shortest}
use Rattle.hp_meaning.proofs.ClockingLemmas.Units.{all_allow}
use Rattle.hp_clocks.specs.Answers.{AreLong, AreNamed, AreShortest, HaveClocks, IsClash, IsClocked, IsTooLong, NoneLong, Refuses}
use Rattle.hp_clocks.specs.Writing.{AreWritten}
use Rattle.hp_clocks.specs.declared.error.ClockErr.{ClockErr}
use Rattle.hp_clocks.specs.declared.error.ClockErr.TheVariants as clock_error
use Rattle.hp_clocks.proofs.AnswerLaws as clocks
use Rattle.hp_init.specs.Answers.{NamesLate}
use Rattle.hp_init.specs.Initialised.{IsFound, IsInitialised}
use Rattle.hp_init.specs.declared.error.InitErr.{InitErr}
use Rattle.hp_init.specs.declared.error.InitErr.TheVariants as init_error
use Rattle.hp_init.proofs.AnswerLaws as inits
use Rattle.hp_meaning.specs.Causal.Causality.{IsCausal}
use Rattle.hp_meaning.specs.Causal.Points.{Placed}
use Rattle.hp_meaning.specs.declared.causal.point.Point.{Point}
use Rattle.hp_cause.specs.Answers.{NamesCycle}
use Rattle.hp_cause.specs.Ordering.{AllNodesCausal, IsCycleOf, IsFirstCycle}
use Rattle.hp_cause.specs.declared.error.CauseErr.{CauseErr}
use Rattle.hp_cause.specs.declared.error.CauseErr.TheVariants as cause_error
use Rattle.hp_cause.proofs.AnswerLaws as causes
use Rattle.hp_compile.proofs.FirstOnes.{IsLonger, Parting, first_same, head_same, node_same, parting}

-- ---- names

name_breach : (bs : List names.Breach) (e : NameErr) → e ≢ name_error.OutOfMemory → names.NamesFirst bs e → (b : names.Breach) × IsFirst names.place_of bs b × (names.error_of b ≡ e)
name_breach bs (name_error.Unknown x at) some h = (record { fault = fault.Unknown; name = x; at = at }, h, refl)
name_breach bs (name_error.Twice x at) some h = (record { fault = fault.Twice; name = x; at = at }, h, refl)
name_breach bs name_error.OutOfMemory some h = absurd (some refl)

pub one_name : (bs : List names.Breach) (e f : NameErr) → e ≢ name_error.OutOfMemory → f ≢ name_error.OutOfMemory → names.NamesFirst bs e → names.NamesFirst bs f → e ≡ f
one_name bs e f some other h k =
    let b = name_breach bs e some h in
    let d = name_breach bs f other k in
    sym b.2 ∙ ap names.error_of (first_same names.place_of bs b.0 d.0 b.1 d.1) ∙ d.2

pub well_named : (program : List Item) (e : NameErr) → e ≢ name_error.OutOfMemory → WellNamed program → names.NamesFirst (names.breaches (naming.claims program)) e → ⊥
well_named program e some well h =
    let bs = names.breaches (naming.claims program) in
    let b = name_breach bs e some h in first_none_of names.place_of bs b.0 ((named.program_law program).0 well) b.1

-- ---- types

type_breach : (bs : List types.Breach) (e : TypeErr) → e ≢ type_error.OutOfMemory → types.NamesFirst bs e → (b : types.Breach) × IsFirst types.place_of bs b × (types.error_of b ≡ e)
type_breach bs (type_error.Wrong at t u) some h = (types.wrong at t u, h, refl)
type_breach bs (type_error.Undefined x at) some h = (types.undefined at x, h, refl)
type_breach bs (type_error.Twice x at) some h = (types.twice at x, h, refl)
type_breach bs (type_error.Branch x at) some h = (types.branch at x, h, refl)
type_breach bs type_error.OutOfMemory some h = absurd (some refl)

pub one_type : (bs : List types.Breach) (e f : TypeErr) → e ≢ type_error.OutOfMemory → f ≢ type_error.OutOfMemory → types.NamesFirst bs e → types.NamesFirst bs f → e ≡ f
one_type bs e f some other h k =
    let b = type_breach bs e some h in
    let d = type_breach bs f other k in
    sym b.2 ∙ ap types.error_of (first_same types.place_of bs b.0 d.0 b.1 d.1) ∙ d.2

abbrev pub all_breaches : List Item → List types.Breach
all_breaches program = types.or_else (types.breaches (typing.claims program)) (types.breaches (definition_claims program))

pub well_typed : (program : List Item) (e : TypeErr) → e ≢ type_error.OutOfMemory → WellTyped program → WellDefined program → types.NamesFirst (all_breaches program) e → ⊥
well_typed program e some well defined h =
    let b = type_breach (all_breaches program) e some h in
    let no_type : types.breaches (typing.claims program) ≡ [] = (typed.program_law program).0 well in
    let no_definition : types.breaches (definition_claims program) ≡ [] = (definitions_law program).0 defined in
    let nothing : all_breaches program ≡ [] = ap₂ types.or_else no_type no_definition in
    first_none_of types.place_of (all_breaches program) b.0 nothing b.1

-- ---- clocks

clocks_at : (before : List Item) (n : Node) (behind : List Item) → HaveClocks (before ++ NodeItem n ∷ behind) → (at : Assignment) × IsAllowed n at
clocks_at [] n behind h = h.0
clocks_at (TypeItem t ∷ before) n behind h = clocks_at before n behind h
clocks_at (NodeItem m ∷ before) n behind h = clocks_at before n behind h.1

long_at : (before : List Item) (n : Node) (behind : List Item) → NoneLong (before ++ NodeItem n ∷ behind) → (at : Assignment) → AreShortest n at → NodeNamed n → AreLong n at → ⊥
long_at [] n behind h = h.0
long_at (TypeItem t ∷ before) n behind h = long_at before n behind h
long_at (NodeItem m ∷ before) n behind h = long_at before n behind h.1

named_at : (before : List Item) (n : Node) (behind : List Item) → AreNamed (before ++ NodeItem n ∷ behind) → NodeNamed n
named_at [] n behind h = h.0
named_at (TypeItem t ∷ before) n behind h = named_at before n behind h
named_at (NodeItem m ∷ before) n behind h = named_at before n behind h.1

abbrev Clashes : Node → Type 0
Clashes n = (at : Span) × FirstClash (AreClocks (node_sights n)) (node_units n) at

no_clash : (before : List Item) (n : Node) (behind : List Item) → HaveClocks (before ++ NodeItem n ∷ behind) → Clashes n → ⊥
no_clash before n behind h (s, f) =
    let c = clocks_at before n behind h in
    let all : AllAllow c.0 (f.0 ++ (f.1 ∷ f.2)) = subst (AllAllow c.0) f.3 c.1.1 in
    let r = (all_allow c.0 f.0 (f.1 ∷ f.2)).0 all in
    f.6 c.0 c.1.0 ((all_allow c.0 f.0 (f.1 ∷ [])).1 (r.0, (r.1.0, tt)))

module _ (Are : Assignment → Type 0) (us : List ClockUnit) where
  clash_earlier : (s t : Span) (f : FirstClash Are us s) (g : FirstClash Are us t) → IsLonger f.0 (f.1 ∷ f.2) g.0 (g.1 ∷ g.2) → ⊥
  clash_earlier s t f g l =
      let here : f.1 ≡ l.next = head_same f.1 l.next f.2 (l.more ++ g.1 ∷ g.2) l.rest in
      let at = g.5.0 in
      let all : AllAllow at (f.0 ++ f.1 ∷ l.more) = subst (AllAllow at) (l.longer ∙ ap (λ u. f.0 ++ u ∷ l.more) (sym here)) g.5.1.1 in
      let r = (all_allow at f.0 (f.1 ∷ l.more)).0 all in
      f.6 at g.5.1.0 ((all_allow at f.0 (f.1 ∷ [])).1 (r.0, (r.1.0, tt)))

  clash_by : (s t : Span) (f : FirstClash Are us s) (g : FirstClash Are us t) → Parting f.0 (f.1 ∷ f.2) g.0 (g.1 ∷ g.2) → s ≡ t
  clash_by s t f g (inl (p, q)) = sym f.4 ∙ ap place_of (head_same f.1 g.1 f.2 g.2 q) ∙ g.4
  clash_by s t f g (inr (inl l)) = absurd (clash_earlier s t f g l)
  clash_by s t f g (inr (inr l)) = absurd (clash_earlier t s g f l)

  one_clash : (s t : Span) → FirstClash Are us s → FirstClash Are us t → s ≡ t
  one_clash s t f g = clash_by s t f g (parting f.0 (f.1 ∷ f.2) g.0 (g.1 ∷ g.2) (sym f.3 ∙ g.3))

-- a node whose shortest clocks are too long
record TooLong (n : Node) : Type 0 where
  pub at : Assignment
  pub shortest : AreShortest n at
  pub named : NodeNamed n
  pub long : AreLong n at

not_long : (before : List Item) (n : Node) (behind : List Item) → NoneLong (before ++ NodeItem n ∷ behind) → TooLong n → ⊥
not_long before n behind h l = long_at before n behind h l.at l.shortest l.named l.long

module _ (items : List Item) (known : AreNamed items) where
  too_long_one : (name : List ℕ) (limit : Limit) (l : IsTooLong items name limit) → TooLong l.node
  too_long_one name limit l =
      let is : NodeNamed l.node = named_at l.before l.node l.behind (subst AreNamed l.split known) in
      record { at = l.at; shortest = l.shortest; named = is; long = l.long is }

  clash_same : (name other : List ℕ) (s t : Span) → IsClash items name s → IsClash items other t → clock_error.Clash name s ≡ clock_error.Clash other t
  clash_same name other s t h k =
      let same : h.node ≡ k.node = node_same HaveClocks Clashes no_clash items h.node k.node h.before h.behind k.before k.behind h.split k.split h.earlier k.earlier (s, h.clash) (t, k.clash) in
      let place : s ≡ t = one_clash (AreClocks (node_sights h.node)) (node_units h.node) s t h.clash (subst (λ n. FirstClash (AreClocks (node_sights n)) (node_units n) t) (sym same) k.clash) in
      let name_is : name ≡ other = sym h.named ∙ ap (λ (n : Node). n.name) same ∙ k.named in
      λ i. clock_error.Clash (name_is i) (place i)

  long_same : (name other : List ℕ) (limit passed : Limit) → IsTooLong items name limit → IsTooLong items other passed → clock_error.Limit name limit ≡ clock_error.Limit other passed
  long_same name other limit passed h k =
      let same : h.node ≡ k.node =
      node_same NoneLong TooLong not_long items h.node k.node h.before h.behind k.before k.behind h.split k.split h.earlier k.earlier (too_long_one name limit h) (too_long_one other passed k) in
      let name_is : name ≡ other = sym h.named ∙ ap (λ (n : Node). n.name) same ∙ k.named in
      let limit_is : limit ≡ passed = h.passed ∙ sym k.passed in
      λ i. clock_error.Limit (name_is i) (limit_is i)

  clash_or_long : (name other : List ℕ) (s : Span) (limit : Limit) → IsClash items name s → IsTooLong items other limit → ⊥
  clash_or_long name other s limit h k = no_clash h.before h.node h.behind (subst HaveClocks h.split k.clocks) (s, h.clash)

  pub one_clock : (e f : ClockErr) → e ≢ clock_error.OutOfMemory → f ≢ clock_error.OutOfMemory → Refuses items e → Refuses items f → e ≡ f
  one_clock (clock_error.Clash name s) (clock_error.Clash other t) some more h k = clash_same name other s t h k
  one_clock (clock_error.Clash name s) (clock_error.Limit other limit) some more h k = absurd (clash_or_long name other s limit h k)
  one_clock (clock_error.Clash name s) clock_error.OutOfMemory some more h k = absurd (more refl)
  one_clock (clock_error.Limit name limit) (clock_error.Clash other s) some more h k = absurd (clash_or_long other name s limit k h)
  one_clock (clock_error.Limit name limit) (clock_error.Limit other passed) some more h k = long_same name other limit passed h k
  one_clock (clock_error.Limit name limit) clock_error.OutOfMemory some more h k = absurd (more refl)
  one_clock clock_error.OutOfMemory f some more h k = absurd (some refl)

  -- clocks that are written are there, and none is too long
  pub well_clocked : (after : List Item) (e : ClockErr) → e ≢ clock_error.OutOfMemory → AreWritten IsClocked items after → Refuses items e → ⊥
  well_clocked after e some w h =
      let r : Result (Unit {0}) ClockErr = Err e in some (clocks.accepted_law items r h (have items after w) (none_long items after w) known)
    where
      have : (xs ys : List Item) → AreWritten IsClocked xs ys → HaveClocks xs
      have [] ys w = tt
      have (x ∷ xs) [] w = absurd w
      have (TypeItem t ∷ xs) (y ∷ ys) w = have xs ys w.1
      have (NodeItem n ∷ xs) (y ∷ ys) w = ((w.0.0, w.0.1.0.0), have xs ys w.1)

      none_long : (xs ys : List Item) → AreWritten IsClocked xs ys → NoneLong xs
      none_long [] ys w = tt
      none_long (x ∷ xs) [] w = absurd w
      none_long (TypeItem t ∷ xs) (y ∷ ys) w = none_long xs ys w.1
      none_long (NodeItem n ∷ xs) (y ∷ ys) w =
          (λ at shortest is long. w.0.1.1 is (subst (AreLong n) (one_shortest n at w.0.0 shortest w.0.1.0) long), none_long xs ys w.1)

-- one program has them written
pub same_clocked : (xs ys zs : List Item) → AreWritten IsClocked xs ys → AreWritten IsClocked xs zs → ys ≡ zs
same_clocked [] [] [] h k = refl
same_clocked [] [] (z ∷ zs) h k = absurd k
same_clocked [] (y ∷ ys) zs h k = absurd h
same_clocked (x ∷ xs) [] zs h k = absurd h
same_clocked (x ∷ xs) (y ∷ ys) [] h k = absurd k
same_clocked (TypeItem t ∷ xs) (y ∷ ys) (z ∷ zs) h k = ap₂ (λ (w : Item) ws. w ∷ ws) (h.0 ∙ sym k.0) (same_clocked xs ys zs h.1 k.1)
same_clocked (NodeItem n ∷ xs) (y ∷ ys) (z ∷ zs) h k =
    let at = one_shortest n h.0.0 k.0.0 h.0.1.0 k.0.1.0 in
    ap₂ (λ (w : Item) ws. w ∷ ws) (h.0.2 ∙ ap (λ c. NodeItem (node_with_clocks c n)) at ∙ sym k.0.2) (same_clocked xs ys zs h.1 k.1)

-- ---- values that are there from the first instant on

abbrev Lacks : Node → Type 0
Lacks n = (at : Span) × IsFound n (Some at)

found_at : (before : List Item) (n : Node) (behind : List Item) → IsInitialised (before ++ NodeItem n ∷ behind) → IsFound n None
found_at [] n behind h = h.0
found_at (TypeItem t ∷ before) n behind h = found_at before n behind h
found_at (NodeItem m ∷ before) n behind h = found_at before n behind h.1

lacks_nothing : (before : List Item) (n : Node) (behind : List Item) → IsInitialised (before ++ NodeItem n ∷ behind) → Lacks n → ⊥
lacks_nothing before n behind h (at, l) = let none : None ≡ Some at = inits.one-found n None (Some at) (found_at before n behind h) l in absurd cc

some_same : (s t : Span) → Some s ≡ Some t → s ≡ t
some_same s t e = cc

pub one_late : (items : List Item) (e f : InitErr) → e ≢ init_error.OutOfMemory → f ≢ init_error.OutOfMemory → NamesLate items e → NamesLate items f → e ≡ f
one_late items (init_error.Late name s) (init_error.Late other t) some more h k =
    let same : h.node ≡ k.node = node_same IsInitialised Lacks lacks_nothing items h.node k.node h.before h.behind k.before k.behind h.split k.split h.earlier k.earlier (s, h.late) (t, k.late) in
    let place : s ≡ t = some_same s t (inits.one-found h.node (Some s) (Some t) h.late (subst (λ n. IsFound n (Some t)) (sym same) k.late)) in
    let name_is : name ≡ other = sym h.named ∙ ap (λ (n : Node). n.name) same ∙ k.named in
    λ i. init_error.Late (name_is i) (place i)
one_late items (init_error.Late name s) init_error.OutOfMemory some more h k = absurd (more refl)
one_late items init_error.OutOfMemory f some more h k = absurd (some refl)

pub well_initialised : (items : List Item) (e : InitErr) → e ≢ init_error.OutOfMemory → IsInitialised items → NamesLate items e → ⊥
well_initialised items e some well h = let r : Result (Unit {0}) InitErr = Err e in some (inits.accepted-law items r h well)

-- ---- cycles

abbrev HasCycle : Node → Type 0
HasCycle n = (points : List Point) × IsCycleOf n points

causal_at : (before : List Item) (n : Node) (behind : List Item) → AllNodesCausal (before ++ NodeItem n ∷ behind) → IsCausal n
causal_at [] n behind h = h.0
causal_at (TypeItem t ∷ before) n behind h = causal_at before n behind h
causal_at (NodeItem m ∷ before) n behind h = causal_at before n behind h.1

has_none : (before : List Item) (n : Node) (behind : List Item) → AllNodesCausal (before ++ NodeItem n ∷ behind) → HasCycle n → ⊥
has_none before n behind h (points, c) = causal_at before n behind h c.first.place (map (λ (p : Placed). p.place) c.others) c.reads

-- the first node that has one
pub one_node : (items : List Item) (name other : List ℕ) (points others : List Point) → IsFirstCycle items name points → IsFirstCycle items other others → name ≡ other
one_node items name other points others h k =
    let same : h.node ≡ k.node =
    node_same AllNodesCausal HasCycle has_none items h.node k.node h.before h.behind k.before k.behind h.split k.split h.earlier k.earlier (points, h.cycle) (others, k.cycle) in
    sym h.is ∙ ap (λ (n : Node). n.name) same ∙ k.is

pub well_ordered : (items : List Item) (e : CauseErr) → e ≢ cause_error.OutOfMemory → AllNodesCausal items → NamesCycle items e → ⊥
well_ordered items e some well h = some (causes.only_memory items e well h)
