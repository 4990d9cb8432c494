-- Marking numbers reaches the least classes.
use Rattle.std.proofs.Common.{◌≡◌, ◌⊎◌, inl, inr, ℕ, zero, suc, ◌+◌, ◌<◌, Bool, true, false, IsTrue, if◌then◌else◌, List, [], ◌∷◌, ◌++◌, length, get_or, set, take, drop, refl, sym, ap, subst, ◌∙◌, arith}
use Rattle.std.proofs.Math.Seq.{take-append_seam}
use Rattle.hp_names.proofs.FoundLaws.{drop-next}
use Rattle.hp_init.specs.declared.ask.Ask.{Ask}
use Rattle.hp_init.specs.Asks.{Valued}
use Rattle.hp_init.specs.Spreading.{valued, marks, greater, greatest, noted, all_noted, Marks, is_unmarked, marked, all_marked, marked_by, all_marked_by, unmarked, Among, AllSecond, AllBelow, Spreads, Within, Grew}

-- ---- one number is set

set_grows : (bs : List Bool) (k v : ℕ) → IsTrue (valued bs v) → IsTrue (valued (set bs k true) v)
set_grows [] k v h = h
set_grows (b ∷ bs) zero zero h = refl
set_grows (b ∷ bs) zero (suc v) h = h
set_grows (b ∷ bs) (suc k) zero h = h
set_grows (b ∷ bs) (suc k) (suc v) h = set_grows bs k v h

set_there : (bs : List Bool) (k : ℕ) → k < length bs → IsTrue (valued (set bs k true) k)
set_there [] k h = absurd (omega arith)
set_there (b ∷ bs) zero h = refl
set_there (b ∷ bs) (suc k) h = set_there bs k (omega arith)

set_unmarked : (bs : List Bool) (k : ℕ) → is_unmarked bs k ≡ true → IsTrue (valued (set bs k true) k)
set_unmarked [] k h = absurd cc
set_unmarked (b ∷ bs) zero h = refl
set_unmarked (b ∷ bs) (suc k) h = set_unmarked bs k h

set_was : (bs : List Bool) (k v : ℕ) → IsTrue (valued (set bs k true) v) → IsTrue (valued bs v) ⊎ (k ≡ v)
set_was [] k v h = inl h
set_was (b ∷ bs) zero zero h = inr refl
set_was (b ∷ bs) zero (suc v) h = inl h
set_was (b ∷ bs) (suc k) zero h = inl h
set_was (b ∷ bs) (suc k) (suc v) h = elim (set_was bs k v h) [ inl e ↦ inl e | inr e ↦ inr (ap suc e) ]

set_length : (bs : List Bool) (k : ℕ) → length (set bs k true) ≡ length bs
set_length [] k = refl
set_length (b ∷ bs) zero = refl
set_length (b ∷ bs) (suc k) = let e = set_length bs k in omega arith

set_fewer : (bs : List Bool) (k : ℕ) → is_unmarked bs k ≡ true → unmarked (set bs k true) + 1 ≡ unmarked bs
set_fewer [] k h = absurd cc
set_fewer (true ∷ bs) zero h = absurd cc
set_fewer (false ∷ bs) zero h = omega arith
set_fewer (b ∷ bs) (suc k) h = let e : unmarked (set bs k true) + 1 ≡ unmarked bs = set_fewer bs k h in omega arith

marked_already : (bs : List Bool) (k : ℕ) → k < length bs → is_unmarked bs k ≡ false → IsTrue (valued bs k)
marked_already [] k h e = absurd (omega arith)
marked_already (true ∷ bs) zero h e = refl
marked_already (false ∷ bs) zero h e = absurd cc
marked_already (b ∷ bs) (suc k) h e = marked_already bs k (omega arith) e

-- ---- lists of numbers

pub among_last : (xs : List ℕ) (k : ℕ) → Among (xs ++ k ∷ []) k
among_last [] k = inl refl
among_last (x ∷ xs) k = inr (among_last xs k)

pub among_more : (xs : List ℕ) (k v : ℕ) → Among xs v → Among (xs ++ k ∷ []) v
among_more [] k v h = absurd h
among_more (x ∷ xs) k v (inl e) = inl e
among_more (x ∷ xs) k v (inr h) = inr (among_more xs k v h)

among_front : (xs : List ℕ) (k v : ℕ) → Among (xs ++ k ∷ []) v → Among xs v ⊎ (k ≡ v)
among_front [] k v (inl e) = inr e
among_front [] k v (inr h) = absurd h
among_front (x ∷ xs) k v (inl e) = inl (inl e)
among_front (x ∷ xs) k v (inr h) = elim (among_front xs k v h) [ inl a ↦ inl (inr a) | inr e ↦ inr e ]

second_more : (q r : Valued) (ks : List ℕ) → Within q r → AllSecond q ks → AllSecond r ks
second_more q r [] w h = tt
second_more q r (k ∷ ks) w h = (w k h.0, second_more q r ks w h.1)

-- ---- marking

-- what a step of marking keeps
pub record Step (m n : Marks) : Type 0 where
  pub same : length n.second ≡ length m.second
  pub grown : Within (valued m.second) (valued n.second)
  pub kept : (v : ℕ) → Among m.waiting v → Among n.waiting v
  pub waits : (v : ℕ) → IsTrue (valued n.second v) → IsTrue (valued m.second v) ⊎ Among n.waiting v
  pub newly : (v : ℕ) → Among n.waiting v → Among m.waiting v ⊎ IsTrue (valued n.second v)
  pub fewer : length n.waiting + unmarked n.second ≡ length m.waiting + unmarked m.second

pub step_none : (m : Marks) → Step m m
step_none m = record { same = refl; grown = λ v h. h; kept = λ v h. h; waits = λ v h. inl h; newly = λ v h. inl h; fewer = refl }

then_waits : (m n p : Marks) (v : ℕ) → Step m n → Step n p → IsTrue (valued p.second v) → IsTrue (valued m.second v) ⊎ Among p.waiting v
then_waits m n p v a b h = elim (b.waits v h) [ inl s ↦ (elim (a.waits v s) [ inl f ↦ inl f | inr w ↦ inr (b.kept v w) ]) | inr w ↦ inr w ]

then_newly : (m n p : Marks) (v : ℕ) → Step m n → Step n p → Among p.waiting v → Among m.waiting v ⊎ IsTrue (valued p.second v)
then_newly m n p v a b h = elim (b.newly v h) [ inl w ↦ (elim (a.newly v w) [ inl f ↦ inl f | inr s ↦ inr (b.grown v s) ]) | inr s ↦ inr s ]

pub step_then : (m n p : Marks) → Step m n → Step n p → Step m p
step_then m n p a b =
    record {
      same = b.same ∙ a.same;
      grown = λ v h. b.grown v (a.grown v h);
      kept = λ v h. b.kept v (a.kept v h);
      waits = λ v h. then_waits m n p v a b h;
      newly = λ v h. then_newly m n p v a b h;
      fewer = b.fewer ∙ a.fewer;
    }

abbrev made : ℕ → Marks → Bool → Marks
made k m d = if d then record { second = set m.second k true; waiting = m.waiting ++ k ∷ [] } else m

pub length_more : (xs : List ℕ) (k : ℕ) → length (xs ++ k ∷ []) ≡ length xs + 1
length_more [] k = refl
length_more (x ∷ xs) k = let e = length_more xs k in omega arith

made_waits : (k v : ℕ) (m : Marks) → IsTrue (valued (set m.second k true) v) → IsTrue (valued m.second v) ⊎ Among (m.waiting ++ k ∷ []) v
made_waits k v m h = elim (set_was m.second k v h) [ inl s ↦ inl s | inr e ↦ inr (subst (λ x. Among (m.waiting ++ k ∷ []) x) e (among_last m.waiting k)) ]

made_newly : (k v : ℕ) (m : Marks) → is_unmarked m.second k ≡ true → Among (m.waiting ++ k ∷ []) v → Among m.waiting v ⊎ IsTrue (valued (set m.second k true) v)
made_newly k v m e h = elim (among_front m.waiting k v h) [ inl w ↦ inl w | inr is ↦ inr (subst (λ x. IsTrue (valued (set m.second k true) x)) is (set_unmarked m.second k e)) ]

made_step : (k : ℕ) (m : Marks) (d : Bool) → is_unmarked m.second k ≡ d → Step m (made k m d)
made_step k m false e = step_none m
made_step k m true e =
    let shorter : unmarked (set m.second k true) + 1 ≡ unmarked m.second = set_fewer m.second k e in
    let longer : length (m.waiting ++ k ∷ []) ≡ length m.waiting + 1 = length_more m.waiting k in
    record {
      same = set_length m.second k;
      grown = λ v h. set_grows m.second k v h;
      kept = λ v h. among_more m.waiting k v h;
      waits = λ v h. made_waits k v m h;
      newly = λ v h. made_newly k v m e h;
      fewer = omega arith;
    }

pub made_there : (k : ℕ) (m : Marks) (d : Bool) → is_unmarked m.second k ≡ d → k < length m.second → IsTrue (valued (made k m d).second k)
made_there k m false e h = marked_already m.second k h e
made_there k m true e h = set_there m.second k h

pub made_least : (k : ℕ) (m : Marks) (d : Bool) (r : Valued) → IsTrue (r k) → Within (valued m.second) r → Within (valued (made k m d).second) r
made_least k m false r s w v h = w v h
made_least k m true r s w v h = elim (set_was m.second k v h) [ inl g ↦ w v g | inr e ↦ subst (λ x. IsTrue (r x)) e s ]

pub marked_step : (k : ℕ) (m : Marks) → Step m (marked k m)
marked_step k m = made_step k m (is_unmarked m.second k) refl

all_step : (ks : List ℕ) (m : Marks) → Step m (all_marked ks m)
all_step [] m = step_none m
all_step (k ∷ ks) m = step_then m (marked k m) (all_marked ks (marked k m)) (marked_step k m) (all_step ks (marked k m))

below_same : (ks : List ℕ) (a b : ℕ) → a ≡ b → AllBelow a ks → AllBelow b ks
below_same ks a b e h = subst (λ n. AllBelow n ks) e h

all_there : (ks : List ℕ) (m : Marks) → AllBelow (length m.second) ks → AllSecond (valued (all_marked ks m).second) ks
all_there [] m h = tt
all_there (k ∷ ks) m h =
    let next = marked k m in (
      (all_step ks next).grown k (made_there k m (is_unmarked m.second k) refl h.0),
      all_there ks next (below_same ks (length m.second) (length next.second) (sym (marked_step k m).same) h.1),
    )

all_least : (ks : List ℕ) (m : Marks) (r : Valued) → AllSecond r ks → Within (valued m.second) r → Within (valued (all_marked ks m).second) r
all_least [] m r s w = w
all_least (k ∷ ks) m r s w = all_least ks (marked k m) r s.1 (made_least k m (is_unmarked m.second k) r s.0 w)

-- ---- the followers of one number that waited

still_closed : (followers : List (List ℕ)) (second : List Bool) (waiting : List ℕ) (k v : ℕ) → Spreads followers (marks second (waiting ++ k ∷ []))
    → IsTrue (valued (all_marked (get_or followers k []) (marks second waiting)).second v)
    → Among (all_marked (get_or followers k []) (marks second waiting)).waiting v ⊎ AllSecond (valued (all_marked (get_or followers k []) (marks second waiting)).second) (get_or followers v [])
still_closed followers second waiting k v known h =
    let ks = get_or followers k [] in
    let before = marks second waiting in
    let after = all_marked ks before in
    let step = all_step ks before in
    let there : AllSecond (valued after.second) ks = all_there ks before (known.within k) in
    elim (step.waits v h) [
      | inl was ↦ (elim (known.closed v was) [
        | inl waits ↦ (elim (among_front waiting k v waits) [ inl w ↦ inl (step.kept v w) | inr e ↦ inr (subst (λ x. AllSecond (valued after.second) (get_or followers x [])) e there) ])
        | inr all ↦ inr (second_more (valued second) (valued after.second) (get_or followers v []) step.grown all)
      ])
      | inr waits ↦ inl waits
    ]

still_reached : (followers : List (List ℕ)) (second : List Bool) (waiting : List ℕ) (k v : ℕ) → Spreads followers (marks second (waiting ++ k ∷ []))
    → Among (all_marked (get_or followers k []) (marks second waiting)).waiting v → IsTrue (valued (all_marked (get_or followers k []) (marks second waiting)).second v)
still_reached followers second waiting k v known h =
    let step = all_step (get_or followers k []) (marks second waiting) in
    elim (step.newly v h) [ inl w ↦ step.grown v (known.reached v (among_more waiting k v w)) | inr s ↦ s ]

pub spreads-on : (followers : List (List ℕ)) (second : List Bool) (waiting : List ℕ) (k : ℕ) → Spreads followers (marks second (waiting ++ k ∷ []))
    → Spreads followers (all_marked (get_or followers k []) (marks second waiting))
spreads-on followers second waiting k known =
    record {
      closed = λ v h. still_closed followers second waiting k v known h;
      reached = λ v h. still_reached followers second waiting k v known h;
      within = λ v. below_same (get_or followers v []) (length second) (length (all_marked (get_or followers k []) (marks second waiting)).second) (sym (all_step (get_or followers k []) (marks second waiting)).same) (known.within v);
    }

pub spread-more : (followers : List (List ℕ)) (start second : List Bool) (waiting : List ℕ) (k : ℕ) → Spreads followers (marks second (waiting ++ k ∷ [])) → Grew followers start second
    → Grew followers start (all_marked (get_or followers k []) (marks second waiting)).second
spread-more followers start second waiting k known grew =
    let h : IsTrue (valued second k) = known.reached k (among_last waiting k) in
    let ks = get_or followers k [] in
    let before = marks second waiting in
    record {
      grown = λ v s. (all_step ks before).grown v (grew.grown v s);
      least = λ r keeps w. let inside : Within (valued second) r = grew.least r keeps w in all_least ks before r (keeps k (inside k h)) inside;
    }

pub measured : (ks : List ℕ) (second : List Bool) (waiting : List ℕ) → length (all_marked ks (marks second waiting)).waiting + unmarked (all_marked ks (marks second waiting)).second ≡ length waiting + unmarked second
measured ks second waiting = (all_step ks (marks second waiting)).fewer

-- ---- one more element of a list

pub greatest-next : (n : ℕ) (asks : List Ask) (i : ℕ) (a : Ask) → i < length asks → a ≡ get_or asks i a → greatest n (drop i asks) ≡ greatest (greater n a) (drop (i + 1) asks)
greatest-next n asks i a h p = ap (greatest n) (drop-next asks i a h p)

pub noted-next : (ls : List (List ℕ)) (asks : List Ask) (i : ℕ) (a : Ask) → i < length asks → a ≡ get_or asks i a → all_noted (drop i asks) ls ≡ all_noted (drop (i + 1) asks) (noted a ls)
noted-next ls asks i a h p = ap (λ more. all_noted more ls) (drop-next asks i a h p)

pub marked-next : (m : Marks) (ks : List ℕ) (i k : ℕ) → i < length ks → k ≡ get_or ks i k → all_marked (drop i ks) m ≡ all_marked (drop (i + 1) ks) (marked k m)
marked-next m ks i k h p = ap (λ more. all_marked more m) (drop-next ks i k h p)

pub sources-next : (m : Marks) (asks : List Ask) (i : ℕ) (a : Ask) → i < length asks → a ≡ get_or asks i a → all_marked_by (drop i asks) m ≡ all_marked_by (drop (i + 1) asks) (marked_by a m)
sources-next m asks i a h p = ap (λ more. all_marked_by more m) (drop-next asks i a h p)

-- classes that were written over all of a vector
pub put_back : (n : ℕ) (new old : List Bool) → length new ≡ n → take n (new ++ drop (length new) old) ≡ new
put_back n new old h = ap (λ m. take m (new ++ drop (length new) old)) (sym h) ∙ take-append_seam new (drop (length new) old)
