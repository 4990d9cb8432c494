-- Where marking ends, the classes obey what is asked, and are the least ones that do.
use Rattle.std.specs.Bool.{⊤}
use Rattle.std.proofs.Common.{◌≡◌, ◌⊎◌, inl, inr, ℕ, zero, suc, ◌+◌, ◌<◌, ◌≤◌, Bool, false, IsTrue, List, [], ◌∷◌, ◌++◌, length, get_or, set, replicate, refl, sym, ap, subst, ◌∙◌, arith}
use Rattle.std.proofs.lemmas.List.{length-replicate}
use Rattle.std.specs.declared.alloc.Global.{Global}
use Rattle.std.specs.declared.vec.Vec.{Vec}
use Rattle.hp_init.specs.declared.ask.Source.TheVariants.{Always, Class}
use Rattle.hp_init.specs.declared.ask.Ask.{Ask}
use Rattle.hp_init.specs.declared.ask.Ask.TheVariants.{Follows, First}
use Rattle.hp_init.specs.Asks.{Valued, Obeys, ObeysAll}
use Rattle.hp_init.specs.Spreading.{valued, marks, AreLeast, greater, greatest, lists, noted, all_noted, Marks, marked_by, all_marked_by, Among, AllSecond, AllBelow, Keeps, Spreads, Within, Grew}
use Rattle.hp_init.proofs.SpreadLaws.{Step, step_none, step_then, marked_step, made_there, made_least, among_last, among_more}
use Rattle.hp_init.specs.Spreading.{is_unmarked}

-- ---- the numbers that are named are below the count

abbrev Named : ℕ → Ask → Type 0
Named n (Follows Always k) = k < n
Named n (Follows (Class j) k) = (j < n) × (k < n)
Named n (First s at) = ⊤

abbrev AllNamed : ℕ → List Ask → Type 0
AllNamed n [] = ⊤
AllNamed n (a ∷ asks) = Named n a × AllNamed n asks

greater_least : (n : ℕ) (a : Ask) → n ≤ greater n a
greater_least n (Follows Always k) = omega arith
greater_least n (Follows (Class j) k) = omega arith
greater_least n (First s at) = omega arith

greatest_least : (n : ℕ) (asks : List Ask) → n ≤ greatest n asks
greatest_least n [] = omega arith
greatest_least n (a ∷ asks) = let e = greater_least n a in let f = greatest_least (greater n a) asks in omega arith

named_below : (n m : ℕ) (a : Ask) → greater n a < m → Named m a
named_below n m (Follows Always k) h = omega arith
named_below n m (Follows (Class j) k) h = (omega arith, omega arith)
named_below n m (First s at) h = tt

all_named : (n : ℕ) (asks : List Ask) → AllNamed (greatest n asks + 1) asks
all_named n [] = tt
all_named n (a ∷ asks) = let f = greatest_least (greater n a) asks in (named_below n (greatest (greater n a) asks + 1) a (omega arith), all_named (greater n a) asks)

-- ---- what follows always

abbrev SourceSecond : Valued → Ask → Type 0
SourceSecond q (Follows Always k) = IsTrue (q k)
SourceSecond q (Follows (Class j) k) = ⊤
SourceSecond q (First s at) = ⊤

abbrev SourcesSecond : Valued → List Ask → Type 0
SourcesSecond q [] = ⊤
SourcesSecond q (a ∷ asks) = SourceSecond q a × SourcesSecond q asks

source_more : (q r : Valued) (a : Ask) → Within q r → SourceSecond q a → SourceSecond r a
source_more q r (Follows Always k) w h = w k h
source_more q r (Follows (Class j) k) w h = tt
source_more q r (First s at) w h = tt

sources_more : (q r : Valued) (asks : List Ask) → Within q r → SourcesSecond q asks → SourcesSecond r asks
sources_more q r [] w h = tt
sources_more q r (a ∷ asks) w h = (source_more q r a w h.0, sources_more q r asks w h.1)

by_step : (a : Ask) (m : Marks) → Step m (marked_by a m)
by_step (Follows Always k) m = marked_step k m
by_step (Follows (Class j) k) m = step_none m
by_step (First s at) m = step_none m

all_by_step : (asks : List Ask) (m : Marks) → Step m (all_marked_by asks m)
all_by_step [] m = step_none m
all_by_step (a ∷ asks) m = step_then m (marked_by a m) (all_marked_by asks (marked_by a m)) (by_step a m) (all_by_step asks (marked_by a m))

by_there : (a : Ask) (m : Marks) → Named (length m.second) a → SourceSecond (valued (marked_by a m).second) a
by_there (Follows Always k) m h = made_there k m (is_unmarked m.second k) refl h
by_there (Follows (Class j) k) m h = tt
by_there (First s at) m h = tt

all_by_there : (asks : List Ask) (m : Marks) → AllNamed (length m.second) asks → SourcesSecond (valued (all_marked_by asks m).second) asks
all_by_there [] m h = tt
all_by_there (a ∷ asks) m h =
    let next = marked_by a m in (
      source_more (valued next.second) (valued (all_marked_by asks next).second) a (all_by_step asks next).grown (by_there a m h.0),
      all_by_there asks next (subst (λ n. AllNamed n asks) (sym (by_step a m).same) h.1),
    )

by_least : (a : Ask) (m : Marks) (r : Valued) → SourceSecond r a → Within (valued m.second) r → Within (valued (marked_by a m).second) r
by_least (Follows Always k) m r s w = made_least k m (is_unmarked m.second k) r s w
by_least (Follows (Class j) k) m r s w = w
by_least (First s at) m r h w = w

all_by_least : (asks : List Ask) (m : Marks) (r : Valued) → SourcesSecond r asks → Within (valued m.second) r → Within (valued (all_marked_by asks m).second) r
all_by_least [] m r s w = w
all_by_least (a ∷ asks) m r s w = all_by_least asks (marked_by a m) r s.1 (by_least a m r s.0 w)

-- ---- what follows each number

get_set : (ls : List (List ℕ)) (j v : ℕ) (x : List ℕ) → (get_or (set ls j x) v [] ≡ get_or ls v []) ⊎ ((j ≡ v) × (get_or (set ls j x) v [] ≡ x))
get_set [] j v x = inl refl
get_set (l ∷ ls) zero zero x = inr (refl, refl)
get_set (l ∷ ls) zero (suc v) x = inl refl
get_set (l ∷ ls) (suc j) zero x = inl refl
get_set (l ∷ ls) (suc j) (suc v) x = elim (get_set ls j v x) [ inl e ↦ inl e | inr p ↦ inr (ap suc p.0, p.1) ]

get_there : (ls : List (List ℕ)) (j : ℕ) (x : List ℕ) → j < length ls → get_or (set ls j x) j [] ≡ x
get_there [] j x h = absurd (omega arith)
get_there (l ∷ ls) zero x h = refl
get_there (l ∷ ls) (suc j) x h = get_there ls j x (omega arith)

length_set : (ls : List (List ℕ)) (j : ℕ) (x : List ℕ) → length (set ls j x) ≡ length ls
length_set [] j x = refl
length_set (l ∷ ls) zero x = refl
length_set (l ∷ ls) (suc j) x = let e = length_set ls j x in omega arith

noted_length : (a : Ask) (ls : List (List ℕ)) → length (noted a ls) ≡ length ls
noted_length (Follows Always k) ls = refl
noted_length (Follows (Class j) k) ls = length_set ls j (get_or ls j [] ++ k ∷ [])
noted_length (First s at) ls = refl

below_last : (n k : ℕ) (ks : List ℕ) → AllBelow n ks → k < n → AllBelow n (ks ++ k ∷ [])
below_last n k [] h l = (l, tt)
below_last n k (x ∷ ks) h l = (h.0, below_last n k ks h.1 l)

noted_within : (n : ℕ) (a : Ask) (ls : List (List ℕ)) → Named n a → ((v : ℕ) → AllBelow n (get_or ls v [])) → (v : ℕ) → AllBelow n (get_or (noted a ls) v [])
noted_within n (Follows Always k) ls h w v = w v
noted_within n (Follows (Class j) k) ls h w v =
    let own = get_or ls j [] ++ k ∷ [] in
    elim (get_set ls j v own) [ inl e ↦ subst (λ ks. AllBelow n ks) (sym e) (w v) | inr p ↦ subst (λ ks. AllBelow n ks) (sym p.1) (below_last n k (get_or ls j []) (w j) h.1) ]
noted_within n (First s at) ls h w v = w v

all_noted_within : (n : ℕ) (asks : List Ask) (ls : List (List ℕ)) → AllNamed n asks → ((v : ℕ) → AllBelow n (get_or ls v [])) → (v : ℕ) → AllBelow n (get_or (all_noted asks ls) v [])
all_noted_within n [] ls h w v = w v
all_noted_within n (a ∷ asks) ls h w v = all_noted_within n asks (noted a ls) h.1 (λ u. noted_within n a ls h.0 w u) v

noted_kept : (a : Ask) (ls : List (List ℕ)) (j k : ℕ) → Among (get_or ls j []) k → Among (get_or (noted a ls) j []) k
noted_kept (Follows Always t) ls j k h = h
noted_kept (Follows (Class i) t) ls j k h =
    let own = get_or ls i [] ++ t ∷ [] in
    elim (get_set ls i j own) [
      | inl e ↦ subst (λ ks. Among ks k) (sym e) h
      | inr p ↦ subst (λ ks. Among ks k) (sym p.1) (among_more (get_or ls i []) t k (subst (λ u. Among (get_or ls u []) k) (sym p.0) h))
    ]
noted_kept (First s at) ls j k h = h

all_noted_kept : (asks : List Ask) (ls : List (List ℕ)) (j k : ℕ) → Among (get_or ls j []) k → Among (get_or (all_noted asks ls) j []) k
all_noted_kept [] ls j k h = h
all_noted_kept (a ∷ asks) ls j k h = all_noted_kept asks (noted a ls) j k (noted_kept a ls j k h)

among_second : (q : Valued) (ks : List ℕ) (k : ℕ) → AllSecond q ks → Among ks k → IsTrue (q k)
among_second q [] k h a = absurd a
among_second q (x ∷ ks) k h (inl e) = subst (λ u. IsTrue (q u)) e h.0
among_second q (x ∷ ks) k h (inr a) = among_second q ks k h.1 a

obeys_one : (q : Valued) (a : Ask) (ls : List (List ℕ)) (rest : List Ask) → Keeps (all_noted rest (noted a ls)) q → SourceSecond q a → Named (length ls) a → Obeys q a
obeys_one q (Follows Always k) ls rest keeps s n = λ h. s
obeys_one q (Follows (Class j) k) ls rest keeps s n =
    let own = get_or ls j [] ++ k ∷ [] in
    let there : Among (get_or (set ls j own) j []) k = subst (λ ks. Among ks k) (sym (get_there ls j own n.0)) (among_last (get_or ls j []) k) in
    λ h. among_second q (get_or (all_noted rest (set ls j own)) j []) k (keeps j h) (all_noted_kept rest (set ls j own) j k there)
obeys_one q (First s at) ls rest keeps h n = tt

obeys_all : (q : Valued) (asks : List Ask) (ls : List (List ℕ)) → Keeps (all_noted asks ls) q → SourcesSecond q asks → AllNamed (length ls) asks → ObeysAll q asks
obeys_all q [] ls keeps s n = tt
obeys_all q (a ∷ asks) ls keeps s n =
    (obeys_one q a ls asks keeps s.0 n.0, obeys_all q asks (noted a ls) keeps s.1 (subst (λ k. AllNamed k asks) (sym (noted_length a ls)) n.1))

second_last : (q : Valued) (ks : List ℕ) (k : ℕ) → AllSecond q ks → IsTrue (q k) → AllSecond q (ks ++ k ∷ [])
second_last q [] k h l = (l, tt)
second_last q (x ∷ ks) k h l = (h.0, second_last q ks k h.1 l)

noted_keeps : (r : Valued) (a : Ask) (ls : List (List ℕ)) → Obeys r a → Keeps ls r → Keeps (noted a ls) r
noted_keeps r (Follows Always k) ls o keeps = keeps
noted_keeps r (Follows (Class j) k) ls o keeps =
    let own = get_or ls j [] ++ k ∷ [] in
    λ v h. elim (get_set ls j v own) [
      | inl e ↦ subst (λ ks. AllSecond r ks) (sym e) (keeps v h)
      | inr p ↦ (let here : IsTrue (r j) = subst (λ u. IsTrue (r u)) (sym p.0) h in subst (λ ks. AllSecond r ks) (sym p.1) (second_last r (get_or ls j []) k (keeps j here) (o here)))
    ]
noted_keeps r (First s at) ls o keeps = keeps

all_noted_keeps : (r : Valued) (asks : List Ask) (ls : List (List ℕ)) → ObeysAll r asks → Keeps ls r → Keeps (all_noted asks ls) r
all_noted_keeps r [] ls o keeps = keeps
all_noted_keeps r (a ∷ asks) ls o keeps = all_noted_keeps r asks (noted a ls) o.1 (noted_keeps r a ls o.0 keeps)

obeyed_source : (r : Valued) (a : Ask) → Obeys r a → SourceSecond r a
obeyed_source r (Follows Always k) o = o refl
obeyed_source r (Follows (Class j) k) o = tt
obeyed_source r (First s at) o = tt

obeyed_sources : (r : Valued) (asks : List Ask) → ObeysAll r asks → SourcesSecond r asks
obeyed_sources r [] o = tt
obeyed_sources r (a ∷ asks) o = (obeyed_source r a o.0, obeyed_sources r asks o.1)

-- ---- the beginning

none_second : (n v : ℕ) → IsTrue (valued (replicate n false) v) → ⊥
none_second zero v h = absurd cc
none_second (suc n) zero h = absurd cc
none_second (suc n) (suc v) h = none_second n v h

none_followed : (n v : ℕ) → get_or {A = List ℕ} (replicate n []) v [] ≡ []
none_followed zero v = refl
none_followed (suc n) zero = refl
none_followed (suc n) (suc v) = none_followed n v

-- ---- the classes, from the beginning to where none waits
module _ (asks : List Ask) (count : ℕ) (enough : count ≡ greatest 0 asks + 1) where
  abbrev first : Marks
  first = marks (replicate count false) []

  abbrev start : Marks
  start = all_marked_by asks first

  abbrev followers : List (List ℕ)
  followers = all_noted asks (replicate count [])

  named : AllNamed count asks
  named = subst (λ n. AllNamed n asks) (sym enough) (all_named 0 asks)

  none_below : (v : ℕ) → AllBelow count (get_or (replicate count []) v [])
  none_below v = subst (λ ks. AllBelow count ks) (sym (none_followed count v)) tt

  none_kept : (r : Valued) → Keeps (replicate count []) r
  none_kept r v h = subst (λ ks. AllSecond r ks) (sym (none_followed count v)) tt

  long : length start.second ≡ count
  long = (all_by_step asks first).same ∙ length-replicate count false

  start_closed : (v : ℕ) → IsTrue (valued start.second v) → Among start.waiting v ⊎ AllSecond (valued start.second) (get_or followers v [])
  start_closed v h = elim ((all_by_step asks first).waits v h) [ inl f ↦ absurd (none_second count v f) | inr w ↦ inl w ]

  start_reached : (v : ℕ) → Among start.waiting v → IsTrue (valued start.second v)
  start_reached v h = elim ((all_by_step asks first).newly v h) [ inl w ↦ absurd w | inr s ↦ s ]

  pub start-spreads : Spreads followers start
  start-spreads =
      record {
        closed = start_closed;
        reached = start_reached;
        within = λ v. subst (λ n. AllBelow n (get_or followers v [])) (sym long) (all_noted_within count asks (replicate count []) named none_below v);
      }

  module _ (second : List Bool) (done : Spreads followers (marks second [])) (grew : Grew followers start.second second) where
    keeps_now : Keeps followers (valued second)
    keeps_now v h = elim (done.closed v h) [ inl w ↦ absurd w | inr all ↦ all ]

    pub ends-obeyed : ObeysAll (valued second) asks
    ends-obeyed =
        let there : SourcesSecond (valued start.second) asks = all_by_there asks first (subst (λ n. AllNamed n asks) (sym (length-replicate count false)) named) in
        obeys_all (valued second) asks (replicate count []) keeps_now (sources_more (valued start.second) (valued second) asks grew.grown there)
        (subst (λ n. AllNamed n asks) (sym (length-replicate {A = List ℕ} count [])) named)

    pub ends-least : AreLeast (valued second) asks
    ends-least r obeys =
        grew.least r (all_noted_keeps r asks (replicate count []) obeys (none_kept r))
        (all_by_least asks first r (obeyed_sources r asks obeys) (λ v f. absurd (none_second count v f)))

-- the same, where the code holds the followers and the beginning
module _ (asks : List Ask) (ls : List (List ℕ)) (m : Marks) (given : ls ≡ all_noted asks (replicate (greatest 0 asks + 1) [])) (begun : m ≡ all_marked_by asks (marks (replicate (greatest 0 asks + 1) false) [])) where
  pub begun-spreads : Spreads ls m
  begun-spreads = subst (λ f. Spreads f m) (sym given) (subst (λ n. Spreads (all_noted asks (replicate (greatest 0 asks + 1) [])) n) (sym begun) (start-spreads asks (greatest 0 asks + 1) refl))

  module _ (second : List Bool) (done : Spreads ls (marks second [])) (grew : Grew ls m.second second) where
    done_there : Spreads (all_noted asks (replicate (greatest 0 asks + 1) [])) (marks second [])
    done_there = subst (λ f. Spreads f (marks second [])) given done

    grew_there : Grew (all_noted asks (replicate (greatest 0 asks + 1) [])) (all_marked_by asks (marks (replicate (greatest 0 asks + 1) false) [])).second second
    grew_there = subst (λ f. Grew f (all_marked_by asks (marks (replicate (greatest 0 asks + 1) false) [])).second second) given (subst (λ n. Grew ls n.second second) begun grew)

    pub reached-obeyed : ObeysAll (valued second) asks
    reached-obeyed = ends-obeyed asks (greatest 0 asks + 1) refl second done_there grew_there

    pub reached-least : AreLeast (valued second) asks
    reached-least = ends-least asks (greatest 0 asks + 1) refl second done_there grew_there

-- ---- one more follower in the lists
pub lists-set : (ls : List (Vec ℕ Global)) (j k : ℕ) (old new : Vec ℕ Global) → j < length ls → old ≡ get_or ls j old → new.items ≡ old.items ++ k ∷ []
    → lists (set ls j new) ≡ set (lists ls) j (get_or (lists ls) j [] ++ k ∷ [])
lists-set [] j k old new h p e = absurd (omega arith)
lists-set (l ∷ ls) zero k old new h p e = ap (λ items. items ∷ lists ls) (e ∙ ap (λ (v : Vec ℕ Global). v.items ++ k ∷ []) p)
lists-set (l ∷ ls) (suc j) k old new h p e = ap (λ more. l.items ∷ more) (lists-set ls j k old new (omega arith) p e)

pub lists-last : (ls : List (Vec ℕ Global)) (v : Vec ℕ Global) → lists (ls ++ v ∷ []) ≡ lists ls ++ v.items ∷ []
lists-last [] v = refl
lists-last (l ∷ ls) v = ap (λ more. l.items ∷ more) (lists-last ls v)
