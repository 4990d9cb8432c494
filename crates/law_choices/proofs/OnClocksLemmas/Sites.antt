-- Where equations are made: the clock of a site is that of its block with the steps of a clock of the source.
use Rattle.std.proofs.Common.{◌≡◌, ℕ, ◌+◌, ◌≤◌, Bool, true, false, nat_eq, nat_lt, if◌then◌else◌, List, [], ◌∷◌, ◌++◌, length, Option, None, Some, refl, sym, ap, subst, ◌∙◌, arith}
use Rattle.std.proofs.lemmas.Bool.Decides.{nat_tests}
use Rattle.std.proofs.lemmas.List.{length-append}
use Rattle.hp_obc.specs.Machines.{ObcType}
use Rattle.hp_tree.specs.declared.decl.Cons.{Cons}
use Rattle.hp_tree.specs.Instant.{Clock as SourceClock}
use Rattle.hp_meaning.specs.Causal.Clocked.{Standing as ClocksRead}
use Rattle.hp_flat.specs.Equations.{Clock}
use Rattle.hp_flat.specs.Nodes.{FlatNode}
use Rattle.law_equations.specs.Made.Making.{Known, Site, Sight, cons_number, on_site, off_site, front_steps}
use Rattle.law_choices.specs.Closed.Clocking.{IsFrontOf, StepsStand}
use Rattle.law_choices.proofs.OnClocksLemmas.Steps.{append_once, OwnSite}

-- ---- steps of clocks

nothing_behind : (c : Clock) → c ++ [] ≡ c
nothing_behind [] = refl
nothing_behind (s ∷ c) = ap (λ r. s ∷ r) (nothing_behind c)

module _ (types : List ObcType) (n : FlatNode) (g : ℕ → Clock) where
  -- one step more, of a variable that is there where the steps before hold
  pub stand_more : (before rest : Clock) (v i : ℕ) → StepsStand n types g before rest → IsFrontOf (g v) (before ++ rest) → StepsStand n types g before (rest ++ (v, i) ∷ [])
  stand_more before [] v i h f = (subst (λ c. IsFrontOf (g v) c) (nothing_behind before) f, tt)
  stand_more before (on ∷ rest) v i h f = (h.0, stand_more (before ++ on ∷ []) rest v i h.1 (subst (λ c. IsFrontOf (g v) c) (sym (append_once before (on ∷ []) rest)) f))

  front_stands : (before c : Clock) → StepsStand n types g before c → StepsStand n types g before (front_steps c)
  front_stands before [] h = tt
  front_stands before (s ∷ []) h = tt
  front_stands before (s ∷ t ∷ c) h = (h.0, front_stands (before ++ s ∷ []) (t ∷ c) h.1)

  pub off_stands : (at : Site) → StepsStand n types g [] at.clock → StepsStand n types g [] (off_site at).clock
  off_stands at h = by (nat_lt at.base (length at.clock))
    where
      by : (b : Bool) → StepsStand n types g [] (if b then front_steps at.clock else at.clock)
      by true = front_stands [] at.clock h
      by false = h

front_of_more : (c : Clock) (s : ℕ × ℕ) → front_steps (c ++ s ∷ []) ≡ c
front_of_more [] s = refl
front_of_more (r ∷ []) s = refl
front_of_more (r ∷ t ∷ c) s = ap (λ z. r ∷ z) (front_of_more (t ∷ c) s)

-- ---- clocks of the source

abbrev number_seen : Option ℕ → ℕ
number_seen None = 0
number_seen (Some v) = v

module _ (k : Known) (see : Sight) (b : Clock) where
  -- the clock of a block with the steps of a clock of the source, the innermost of which comes first there
  abbrev pub resolved : SourceClock → Clock
  resolved [] = b
  resolved (s ∷ c) = resolved c ++ (number_seen (see s.1).value, cons_number k s.0) ∷ []

  -- a site of the block stands on a clock of the source
  pub record Stood (at : Site) (c : SourceClock) : Type 0 where
    pub clock : at.clock ≡ resolved c
    pub base : at.base ≡ length b

  one_longer : (s : Cons × List ℕ) (c : SourceClock) → length (resolved (s ∷ c)) ≡ length (resolved c) + 1
  one_longer s c = length-append (resolved c) ((number_seen (see s.1).value, cons_number k s.0) ∷ [])

  long : (c : SourceClock) → length b ≤ length (resolved c)
  long [] = omega arith
  long (s ∷ c) = let one = one_longer s c in let l = long c in omega (arith, one, l)

  pub own_site : (at : Site) (c : SourceClock) → Stood at c → OwnSite b at
  own_site at [] h e = h.clock
  own_site at (s ∷ c) h e =
      let one = one_longer s c in
      let l = long c in
      let same : length at.clock ≡ length (resolved (s ∷ c)) = ap length h.clock in
      let base = h.base in
      absurd (let no : nat_eq (length at.clock) at.base ≡ false = grind (arith, nat_tests, one, l, same, base) in let r = sym e ∙ no in cc)

  pub on_stood : (at : Site) (c : SourceClock) (con : Cons) (x : List ℕ) (v : ℕ) → Stood at c → (see x).value ≡ Some v → Stood (on_site at v (cons_number k con)) ((con, x) ∷ c)
  on_stood at c con x v h e =
      record {
        clock = ap (λ z. z ++ (v, cons_number k con) ∷ []) h.clock ∙ ap (λ o. resolved c ++ (number_seen o, cons_number k con) ∷ []) (sym e);
        base = h.base;
      }

  pub off_stood : (at : Site) (s : Cons × List ℕ) (c : SourceClock) → Stood at (s ∷ c) → Stood (off_site at) c
  off_stood at s c h =
      let one = one_longer s c in
      let l = long c in
      let same : length at.clock ≡ length (resolved (s ∷ c)) = ap length h.clock in
      let base = h.base in
      let less : nat_lt at.base (length at.clock) ≡ true = grind (arith, nat_tests, one, l, same, base) in
      record { clock = ap (λ q. if q then front_steps at.clock else at.clock) less ∙ ap front_steps h.clock ∙ front_of_more (resolved c) (number_seen (see s.1).value, cons_number k s.0); base = h.base }

  -- the clock without its innermost step is a front
  pub off_front : (at : Site) (s : Cons × List ℕ) (c : SourceClock) → Stood at (s ∷ c) → IsFrontOf (off_site at).clock at.clock
  off_front at s c h = let r = off_stood at s c h in ((number_seen (see s.1).value, cons_number k s.0) ∷ [], h.clock ∙ ap (λ z. z ++ (number_seen (see s.1).value, cons_number k s.0) ∷ []) (sym r.clock))

  -- What is seen is there: a name where its clock holds, and each last value where the block is.
  pub record SeesTimed (st : ClocksRead) (g : ℕ → Clock) : Type 0 where
    pub values : (x : List ℕ) (c : SourceClock) (v : ℕ) → st x ≡ Some c → (see x).value ≡ Some v → IsFrontOf (g v) (resolved c)
    pub lasts : (x : List ℕ) (v : ℕ) → (see x).last ≡ Some v → IsFrontOf (g v) b
