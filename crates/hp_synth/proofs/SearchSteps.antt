-- One round of a solver: it stops, or has the initial state, or goes on with fewer states left.
use Rattle.std.proofs.Common.{◌≡◌, ℕ, zero, suc, ◌+◌, ◌-◌, ◌<◌, ◌≤◌, ◌^◌, false, not, IsTrue, IsFalse, List, [], ◌∷◌, ◌++◌, length, map, drop, slice_index_or, refl, sym, ap, subst, ◌∙◌, arith, zero-add}
use Rattle.std.proofs.lemmas.List.{append_assoc}
use Rattle.hp_diagram.specs.declared.reference.Ref.{Ref}
use Rattle.hp_diagram.specs.Diagrams.{Diagrams, path_end, function, Means, Keeps, valuation, zero_ref}
use Rattle.hp_diagram.proofs.Choices.{Means-keeps}
use Rattle.hp_boolx.specs.Search.{Bits, Set, count_of}
use Rattle.hp_boolx.specs.Game.{Game, IsForm, forced, attract}
use Rattle.hp_boolx.specs.Solved.{IsWin, IsLose, ranks_of}
use Rattle.hp_boolx.proofs.GameLaws.{Stops, left-falls}
use Rattle.hp_boolx.proofs.SolvedLaws.{win-at, lose-at, ranks-len}
use Rattle.hp_synth.specs.declared.layout.Layout.{Layout}
use Rattle.hp_synth.specs.Kept.{AllMean, AreCarried}
use Rattle.hp_synth.specs.Layouts.{place, variable, IsLayout}
use Rattle.hp_synth.specs.Sought.{Stands, base, base_at, next_from, rounds}
use Rattle.hp_synth.specs.Valued.{Valued, Fun, read, through, over, states, total, OfState}
use Rattle.hp_synth.proofs.LayoutLaws.{seen}
use Rattle.hp_synth.proofs.Ranges.{read-len, read-list}
use Rattle.hp_synth.proofs.SoughtLaws.{all-keeps, all-both, all-len, none-more}

-- ---- lists

map-push : (f : Set → Fun) (xs : List Set) (x : Set) → map f (xs ++ x ∷ []) ≡ map f xs ++ f x ∷ []
map-push f [] x = refl
map-push f (y ∷ xs) x = ap (λ q. f y ∷ q) (map-push f xs x)

pub map-map : (f : Fun → Fun) (h : Set → Fun) (xs : List Set) → map (λ x. f (h x)) xs ≡ map f (map h xs)
map-map f h [] = refl
map-map f h (x ∷ xs) = ap (λ q. f (h x) ∷ q) (map-map f h xs)

-- the last reference has the last function
pub all-last : (t : Diagrams) (fs : List Fun) (f : Fun) (rs : List Ref) (d : Ref) → AllMean t (fs ++ f ∷ []) rs → Means t f (slice_index_or rs (length rs - 1) d)
all-last t [] f [] d h = absurd h
all-last t [] f (r ∷ []) d h = h.0
all-last t [] f (r ∷ s ∷ rs) d h = absurd h.1
all-last t (e ∷ fs) f [] d h = absurd h
all-last t (e ∷ fs) f (r ∷ []) d h = absurd (none fs h.1)
  where
    none : (gs : List Fun) → AllMean t (gs ++ f ∷ []) [] → ⊥
    none [] k = k
    none (a ∷ gs) k = k
all-last t (e ∷ fs) f (r ∷ s ∷ rs) d h =
    let place : slice_index_or (r ∷ s ∷ rs) (suc (length (s ∷ rs) - 1)) d ≡ slice_index_or (r ∷ s ∷ rs) (length (r ∷ s ∷ rs) - 1) d = ap (λ n. slice_index_or (r ∷ s ∷ rs) n d) (let n : suc (length (s ∷ rs) - 1) ≡ length (r ∷ s ∷ rs) - 1 = omega arith in n) in
    subst (λ (q : Ref). Means t f q) place (all-last t fs f (s ∷ rs) d h.1)

-- those behind the first ones
pub all-behind : (t : Diagrams) (fs gs : List Fun) (rs : List Ref) (n : ℕ) → AllMean t (fs ++ gs) rs → n ≡ length fs → AllMean t gs (drop n rs)
all-behind t [] gs rs n h e = subst (λ m. AllMean t gs (drop m rs)) (sym e) h
all-behind t (f ∷ fs) gs [] n h e = absurd h
all-behind t (f ∷ fs) gs (r ∷ rs) zero h e = absurd (omega (arith, e))
all-behind t (f ∷ fs) gs (r ∷ rs) (suc n) h e = all-behind t fs gs rs n h.1 (omega (arith, e))

read-whole : (r : Bits) (n : ℕ) → n ≡ length r → read 0 n (valuation r) ≡ r
read-whole r n e = ap (λ m. read 0 m (valuation r)) e ∙ read-list 0 (valuation r) r (λ k l. ap (valuation r) (zero-add k))

zero-false : (t : Diagrams) (v : Valued) → function t zero_ref v ≡ false
unfolding path_end
zero-false t v = refl

-- before the first round
pub start : (place : ℕ → ℕ) (g : Game) (t : Diagrams) (roots : List Ref) → t.vars ≡ total g → AllMean t (base_at place g) roots → Stands place g t roots zero_ref 0
start place g t roots e h = record {
  vars = e;
  all_mean = none-more t (base_at place g) roots h;
  current = record { has = omega arith; value = λ v. zero-false t v };
  out = refl;
}

module _ (vars : ℕ) (l : Layout) (placed : IsLayout vars l) (g : Game) (form : IsForm g) (t u : Diagrams) (roots : List Ref) (x y : Ref) (n : ℕ) (stands : Stands (place l) g t roots x n) (keeps : Keeps t u) (is : Means u (over (place l) (OfState g (attract g (forced g n)))) y) where
  now_x : Means u (over (place l) (OfState g (forced g n))) x
  now_x = Means-keeps t u keeps _ x stands.current

  -- the function of a set
  abbrev set_fun : Set → Fun
  set_fun X = over (place l) (OfState g X)

  -- one set more
  pub pushed : AllMean u (base_at (place l) g ++ rounds (place l) g (suc n)) (roots ++ y ∷ [])
  pushed =
      let together : AllMean u ((base_at (place l) g ++ rounds (place l) g n) ++ set_fun (forced g (suc n)) ∷ []) (roots ++ y ∷ []) =
      all-both u (base_at (place l) g ++ rounds (place l) g n) (set_fun (forced g (suc n)) ∷ []) roots (y ∷ []) (all-keeps t u (base_at (place l) g ++ rounds (place l) g n) roots keeps stands.all_mean) (is, tt) in
      subst (λ fs. AllMean u fs (roots ++ y ∷ [])) (append_assoc (base_at (place l) g) (rounds (place l) g n) (set_fun (forced g (suc n)) ∷ []) ∙ ap (λ q. base_at (place l) g ++ q) (sym (map-push set_fun (ranks_of g n) (forced g (suc n))))) together

  same_when_stopped : Stops g form n → (v : Valued) → function u x v ≡ function u y v
  same_when_stopped stop v = now_x.value v ∙ stop (states g (through (place l) v)) (read-len 0 g.registers (through (place l) v)) ∙ sym (is.value v)

  stopped_when_same : ((v : Valued) → function u x v ≡ function u y v) → Stops g form n
  stopped_when_same same r e =
      let v : Valued = through (variable l) (valuation r) in
      let w : states g (through (place l) v) ≡ r = ap (states g) (seen vars l placed (valuation r)) ∙ read-whole r g.registers (sym e) in
      ap (forced g n) (sym w) ∙ sym (now_x.value v) ∙ same v ∙ is.value v ∙ ap (forced g (suc n)) w

  -- the set stopped
  pub wins : ((v : Valued) → function u x v ≡ function u y v) → Means u (over (place l) (OfState g (forced g n))) x × IsWin g (λ r. not (forced g n r)) × AllMean u (base_at (place l) g ++ rounds (place l) g n) roots
  wins same = (now_x, win-at g form n (stopped_when_same same) stands.out, all-keeps t u (base_at (place l) g ++ rounds (place l) g n) roots keeps stands.all_mean)

  module _ (init : Bits) (at : states g (through (place l) (valuation init)) ≡ g.init) where
    first : forced g (suc n) g.init ≡ function u y (valuation init)
    first = ap (forced g (suc n)) (sym at) ∙ sym (is.value (valuation init))

    -- the initial state came into it
    pub loses : IsTrue (function u y (valuation init)) → AllMean u (base_at (place l) g ++ rounds (place l) g (suc n)) (roots ++ y ∷ []) × IsLose g (ranks_of g (suc n))
    loses now = (pushed, lose-at g form n stands.out (first ∙ now))

    -- it goes on, and the number of states that are left falls
    pub goes_on : IsFalse (function u y (valuation init)) → (((v : Valued) → function u x v ≡ function u y v) → ⊥) → (w : Diagrams) (news : List Ref) (d : Ref) → AreCarried u w (roots ++ y ∷ []) news →
        Stands (place l) g w news (slice_index_or news (length news - 1) d) (suc n) × (2 ^ g.registers - count_of g.registers (forced g (suc n)) < 2 ^ g.registers - count_of g.registers (forced g n))
    goes_on not_now differ w news d s =
        let all_of = s.functions (base_at (place l) g ++ rounds (place l) g (suc n)) pushed in
        let last : AllMean w ((base_at (place l) g ++ rounds (place l) g n) ++ set_fun (forced g (suc n)) ∷ []) news =
        subst (λ fs. AllMean w fs news) (ap (λ q. base_at (place l) g ++ q) (map-push set_fun (ranks_of g n) (forced g (suc n))) ∙ sym (append_assoc (base_at (place l) g) (rounds (place l) g n) (set_fun (forced g (suc n)) ∷ []))) all_of in (
          record {
            vars = s.vars ∙ keeps.vars ∙ stands.vars;
            all_mean = all_of;
            current = all-last w (base_at (place l) g ++ rounds (place l) g n) (set_fun (forced g (suc n))) news d last;
            out = first ∙ not_now;
          },
          left-falls g form n (λ stop. differ (same_when_stopped stop)),
        )

-- ---- a list of one reference

pub alone : (rs : List Ref) (r : Ref) → r ≡ slice_index_or rs 0 r → length rs ≡ 1 → rs ≡ r ∷ []
alone [] r is e = absurd (omega (arith, e))
alone (q ∷ []) r is e = ap (λ (z : Ref). z ∷ []) (sym is)
alone (q ∷ s ∷ rs) r is e = absurd (omega (arith, e))

-- ---- how many rounds there were

next-len : (g : Game) (k n : ℕ) → length (next_from g k n) ≡ n
next-len g k zero = refl
next-len g k (suc n) = ap suc (next-len g (suc k) n)

map-len : {A B : Type 0} (f : A → B) (xs : List A) → length (map f xs) ≡ length xs
map-len f [] = refl
map-len f (x ∷ xs) = ap suc (map-len f xs)

both-len : (fs gs : List Fun) → length (fs ++ gs) ≡ length fs + length gs
both-len [] gs = sym (zero-add (length gs))
both-len (f ∷ fs) gs = let rest = both-len fs gs in omega (arith, rest)

pub base-len : (g : Game) → 5 + g.registers ≡ length (base g)
base-len g = let next = next-len g 0 g.registers in omega (arith, next)

pub base_at-len : (place : ℕ → ℕ) (g : Game) → 5 + g.registers ≡ length (base_at place g)
base_at-len place g = base-len g ∙ sym (map-len (over place) (base g))

module _ (place : ℕ → ℕ) (g : Game) (form : IsForm g) where
  pub roots-len : (t : Diagrams) (roots : List Ref) (n : ℕ) → AllMean t (base_at place g ++ rounds place g n) roots → length roots ≡ (5 + g.registers) + n
  roots-len t roots n h =
      let all_of = all-len t (base_at place g ++ rounds place g n) roots h in
      let parts = both-len (base_at place g) (rounds place g n) in
      let front = base_at-len place g in
      let sets : length (rounds place g n) ≡ n = map-len (λ X. over place (OfState g X)) (ranks_of g n) ∙ ranks-len g form n in
      omega (arith, all_of, parts, front, sets)

  pub stands-at : (t : Diagrams) (roots : List Ref) (x : Ref) (n : ℕ) → Stands place g t roots x n → Stands place g t roots x (length roots - (5 + g.registers))
  stands-at t roots x n h =
      let all_of = roots-len t roots n h.all_mean in
      let same : n ≡ length roots - (5 + g.registers) = omega (arith, all_of) in
      subst (λ k. Stands place g t roots x k) same h

  pub stands-first : (t : Diagrams) (roots : List Ref) (x : Ref) → t.vars ≡ total g → AllMean t (base_at place g) roots → x ≡ zero_ref → Stands place g t roots x (length roots - (5 + g.registers))
  stands-first t roots x e h is = stands-at t roots x 0 (subst (λ (q : Ref). Stands place g t roots q 0) (sym is) (start place g t roots e h))

  pub roots-within : (t : Diagrams) (roots : List Ref) (n : ℕ) → AllMean t (base_at place g ++ rounds place g n) roots → 5 + g.registers ≤ length roots
  roots-within t roots n h = let all_of = roots-len t roots n h in omega (arith, all_of)

  -- fewer are left behind a round
  pub left-at : (t u : Diagrams) (roots news : List Ref) (x y : Ref) (n : ℕ) → Stands place g t roots x n → Stands place g u news y (suc n) →
      2 ^ g.registers - count_of g.registers (forced g (suc n)) < 2 ^ g.registers - count_of g.registers (forced g n) →
      2 ^ g.registers - count_of g.registers (forced g (length news - (5 + g.registers))) < 2 ^ g.registers - count_of g.registers (forced g n)
  left-at t u roots news x y n before after less =
      let all_of = roots-len u news (suc n) after.all_mean in
      let same : suc n ≡ length news - (5 + g.registers) = omega (arith, all_of) in
      subst (λ k. 2 ^ g.registers - count_of g.registers (forced g k) < 2 ^ g.registers - count_of g.registers (forced g n)) same less
