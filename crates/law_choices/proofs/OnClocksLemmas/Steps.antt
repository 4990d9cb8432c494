-- Sketches whose variables have clocks: what is made behind a sketch keeps what is known of the clocks of its variables.
use Rattle.std.proofs.Common.{◌≡◌, ◌⊎◌, inl, inr, ℕ, ◌+◌, ◌<◌, ◌≤◌, Bool, true, false, nat_eq, nat_lt, if◌then◌else◌, List, [], ◌∷◌, ◌++◌, length, Option, None, Some, refl, sym, ap, subst, ◌∙◌, arith}
use Rattle.std.specs.Prelude.{⊤, codes}
use Rattle.std.specs.List.{AllByRecursion}
use Rattle.std.proofs.lemmas.Bool.Decides.{nat_tests}
use Rattle.std.proofs.lemmas.List.{length-append}
use Rattle.hp_obc.specs.Machines.{ObcType}
use Rattle.hp_flat.specs.declared.equation.Atom.{Atom}
use Rattle.hp_flat.specs.declared.node.FlatTy.{FlatTy}
use Rattle.hp_flat.specs.declared.node.FlatTy.TheVariants as flat
use Rattle.hp_flat.specs.Equations.{Clock, Right, FlatEqn}
use Rattle.hp_flat.specs.Nodes.{FlatNode}
use Rattle.law_equations.specs.Meaning.Fitting.{operands}
use Rattle.law_equations.specs.Meaning.Kinding.{kind_of_type, variable_kind}
use Rattle.law_equations.specs.Meaning.Reactions.{has}
use Rattle.law_equations.specs.Made.Making.{Sketch, Site, Made, next, with_variable, new_name, with_new, with_eqn, named_value, value_of, read_at, new_flag, block_flag, flag_at, with_flag, atom_of, copy_of}
use Rattle.law_wellmade.proofs.BegunLemmas.Keeping.{HasType, Keeps}
use Rattle.law_wellmade.proofs.RegularLemmas.Good.{longer, each_append}
use Rattle.law_choices.specs.Closed.Clocking.{IsFrontOf, IsDefinedOn, StepsStand, IsSplit, IsCopy}

-- ---- fronts

pub front_itself : (c d : Clock) → c ≡ d → IsFrontOf c d
front_itself c d e = ([], by c d e)
  where
    nothing : (c : Clock) → c ++ [] ≡ c
    nothing [] = refl
    nothing (s ∷ c) = ap (λ r. s ∷ r) (nothing c)

    by : (c d : Clock) → c ≡ d → d ≡ c ++ []
    by c d e = sym e ∙ sym (nothing c)

pub append_once : (b c d : Clock) → (b ++ c) ++ d ≡ b ++ (c ++ d)
append_once [] c d = refl
append_once (s ∷ b) c d = ap (λ r. s ∷ r) (append_once b c d)

pub front_further : (b c d : Clock) → IsFrontOf b c → IsFrontOf c d → IsFrontOf b d
front_further b c d h g = (h.0 ++ g.0, g.1 ∙ ap (λ z. z ++ g.0) h.1 ∙ append_once b h.0 g.0)

-- ---- sketches that grow

-- some equation among these defines a variable on a clock
abbrev pub DefinedOn : List FlatEqn → ℕ → Clock → Type 0
DefinedOn [] x c = ⊥
DefinedOn (e ∷ es) x c = ((has e.targets x ≡ true) × (e.clock ≡ c)) ⊎ DefinedOn es x c

pub defined_left : (es fs : List FlatEqn) (x : ℕ) (c : Clock) → DefinedOn es x c → DefinedOn (es ++ fs) x c
defined_left [] fs x c h = absurd h
defined_left (e ∷ es) fs x c (inl h) = inl h
defined_left (e ∷ es) fs x c (inr h) = inr (defined_left es fs x c h)

pub defined_last : (es : List FlatEqn) (e : FlatEqn) (x : ℕ) → has e.targets x ≡ true → DefinedOn (es ++ e ∷ []) x e.clock
defined_last [] e x h = inl (h, refl)
defined_last (d ∷ es) e x h = inr (defined_last es e x h)

-- From one sketch to another: variables keep their types, and equations stay.
pub record Grows (d e : Sketch) : Type 0 where
  pub longer : next d ≤ next e
  pub types : Keeps d e
  pub eqns : (x : ℕ) (c : Clock) → DefinedOn d.eqns x c → DefinedOn e.eqns x c

pub still : (d : Sketch) → Grows d d
still d = record { longer = omega arith; types = record { kept = λ x v h. h }; eqns = λ x c h. h }

pub both_grow : (d e f : Sketch) → Grows d e → Grows e f → Grows d f
both_grow d e f a b =
    record { longer = let l = a.longer in let m = b.longer in omega (arith, l, m); types = record { kept = λ x v h. b.types.kept x v (a.types.kept x v h) }; eqns = λ x c h. b.eqns x c (a.eqns x c h) }

pub flag_grows : (d e : Sketch) (f g : Option ℕ) → Grows (with_flag f d) e → Grows d (with_flag g e)
flag_grows d e f g a = record { longer = a.longer; types = record { kept = λ x v h. a.types.kept x v h }; eqns = λ x c h. a.eqns x c h }

-- ---- clocks of new variables

-- clocks agree from one number on up to another
abbrev pub Agrees : (ℕ → Clock) → (ℕ → Clock) → ℕ → ℕ → Type 0
Agrees g h i j = (x : ℕ) → i ≤ x → x < j → g x ≡ h x

-- one below a number, another from it on
abbrev joined : ℕ → (ℕ → Clock) → (ℕ → Clock) → ℕ → Clock
joined m g h x = if nat_lt x m then g x else h x

joined_below : (m : ℕ) (g h : ℕ → Clock) (x : ℕ) → x < m → joined m g h x ≡ g x
joined_below m g h x l = by (nat_lt x m) (grind (arith, nat_tests, l))
  where
    by : (b : Bool) → b ≡ true → (if b then g x else h x) ≡ g x
    by true e = refl
    by false e = absurd cc

joined_above : (m : ℕ) (g h : ℕ → Clock) (x : ℕ) → m ≤ x → joined m g h x ≡ h x
joined_above m g h x l = by (nat_lt x m) (grind (arith, nat_tests, l))
  where
    by : (b : Bool) → b ≡ false → (if b then g x else h x) ≡ h x
    by true e = absurd cc
    by false e = refl

-- a site is the block's own, where it has no step more
abbrev pub OwnSite : Clock → Site → Type 0
OwnSite b at = nat_eq (length at.clock) at.base ≡ true → at.clock ≡ b

-- ---- a node, and what is made on the way to it

module _ (types : List ObcType) (n : FlatNode) where
  -- what is made so far is in the node
  pub record Within (d : Sketch) : Type 0 where
    pub kinds : (x : ℕ) (t : FlatTy) → HasType d x t → variable_kind types n.variables x ≡ kind_of_type types t
    pub eqns : (x : ℕ) (c : Clock) → DefinedOn d.eqns x c → IsDefinedOn n x c

  pub within_before : (d e : Sketch) → Grows d e → Within e → Within d
  within_before d e g w = record { kinds = λ x t h. w.kinds x t (h.0, g.types.kept x h.0 h.1, h.2); eqns = λ x c h. w.eqns x c (g.eqns x c h) }

  -- What is asked of the clock of an equation: what it tests and reads is there where it is, and what it defines has its clock, or is split if the equation is a copy.
  pub record Timed (g : ℕ → Clock) (e : FlatEqn) : Type 0 where
    pub steps : StepsStand n types g [] e.clock
    pub reads : AllByRecursion (λ x. IsFrontOf (g x) e.clock) (operands e.right)
    pub targets : AllByRecursion (λ x. (g x ≡ e.clock) ⊎ (IsSplit n types g x × IsCopy e.right)) e.targets

  -- so it is of what a copy defines
  pub copied : (c : Clock) (a : Atom) (x : ℕ) (g : ℕ → Clock) → (g x ≡ c) ⊎ IsSplit n types g x → (g x ≡ c) ⊎ (IsSplit n types g x × IsCopy (copy_of a))
  copied c a x g (inl e) = inl e
  copied c a x g (inr s) = inr (s, tt)

  -- the flag of a block is there where the block is
  abbrev pub FlagTimed : (ℕ → Clock) → Clock → Option ℕ → Type 0
  FlagTimed g b None = ⊤
  FlagTimed g b (Some x) = IsFrontOf (g x) b

  -- so it is of all that is made in a block on a clock
  pub record AllTimed (g : ℕ → Clock) (b : Clock) (d : Sketch) : Type 0 where
    pub eqns : AllByRecursion (Timed g) d.eqns
    pub flag : FlagTimed g b d.flag

  -- From one sketch to another, in a block on a clock: new variables get clocks so that equations stay timed.
  pub record Step (b : Clock) (d e : Sketch) (Before After : (ℕ → Clock) → Type 0) : Type 0 where
    pub grows : Grows d e
    pub clocks : ℕ → Clock
    pub timed : (g : ℕ → Clock) → Agrees g clocks (next d) (next e) → Within e → AllTimed g b d → Before g → AllTimed g b e × After g

  -- two steps, one after the other
  pub then_step : (b : Clock) (d e f : Sketch) (A R B S T : (ℕ → Clock) → Type 0) → Step b d e A R → Step b e f B S → ((g : ℕ → Clock) → Within f → A g → R g → B g) → ((g : ℕ → Clock) → Within f → A g → R g → S g → T g) → Step b d f A T
  then_step b d e f A R B S T p q into out =
      record {
        grows = both_grow d e f p.grows q.grows;
        clocks = joined (next e) p.clocks q.clocks;
        timed = λ g a w h before.
            let l = p.grows.longer in
            let m = q.grows.longer in
            let r = p.timed g (λ x i j. a x i (omega (arith, j, m)) ∙ joined_below (next e) p.clocks q.clocks x j) (within_before e f q.grows w) h before in
            let s = q.timed g (λ x i j. a x (omega (arith, l, i)) j ∙ joined_above (next e) p.clocks q.clocks x i) w r.0 (into g w before r.1) in
            (s.0, out g w before r.1 s.1);
      }

  -- more is asked, less is said
  pub weaker : (b : Clock) (d e : Sketch) (A R B S : (ℕ → Clock) → Type 0) → Step b d e A R → ((g : ℕ → Clock) → Within e → B g → A g) → ((g : ℕ → Clock) → Within e → B g → R g → S g) → Step b d e B S
  weaker b d e A R B S p into out = record { grows = p.grows; clocks = p.clocks; timed = λ g a w h before. let r = p.timed g a w h (into g w before) in (r.0, out g w before r.1) }

  -- nothing is made
  pub no_step : (b : Clock) (d : Sketch) (A : (ℕ → Clock) → Type 0) → Step b d d A A
  no_step b d A = record { grows = still d; clocks = λ x. []; timed = λ g a w h before. (h, before) }

  -- a step within, whose flag is its own
  pub enclosed : (b c : Clock) (d e : Sketch) (A R : (ℕ → Clock) → Type 0) → Step c (with_flag None d) e A R → Step b d (with_flag d.flag e) A R
  enclosed b c d e A R p =
      record {
        grows = flag_grows d e None d.flag p.grows;
        clocks = p.clocks;
        timed = λ g a w h before.
            let inner : Within e = record { kinds = λ x t i. w.kinds x t i; eqns = λ x q i. w.eqns x q i } in
            let r = p.timed g a inner (record { eqns = h.eqns; flag = tt }) before in
            (record { eqns = r.0.eqns; flag = h.flag }, r.1);
      }

  -- ---- one equation

  abbrev pub Reads : Site → Right → (ℕ → Clock) → Type 0
  Reads at right g = StepsStand n types g [] at.clock × AllByRecursion (λ x. IsFrontOf (g x) at.clock) (operands right)

  pub eqn_step : (b : Clock) (at : Site) (targets : List ℕ) (right : Right) (d : Sketch)
      → Step b d (with_eqn at targets right d) (λ g. Reads at right g × AllByRecursion (λ x. (g x ≡ at.clock) ⊎ (IsSplit n types g x × IsCopy right)) targets) (λ g. ⊤)
  eqn_step b at targets right d =
      let e : FlatEqn = record { targets = targets; clock = at.clock; right = right; restart = at.restart; at = 0 } in
      record {
        grows = record { longer = omega arith; types = record { kept = λ x v h. h }; eqns = λ x c h. defined_left d.eqns (e ∷ []) x c h };
        clocks = λ x. [];
        timed = λ g a w h before. (record { eqns = each_append (Timed g) d.eqns (e ∷ []) h.eqns (record { steps = before.0.0; reads = before.0.1; targets = before.1 }, tt); flag = h.flag }, tt);
      }

  -- a new variable that no equation defines yet
  pub variable_step : (b c : Clock) (x : List ℕ) (t : FlatTy) (d : Sketch) → Step b d (with_variable x t d) (λ g. ⊤) (λ g. g (next d) ≡ c)
  variable_step b c x t d =
      let long : next (with_variable x t d) ≡ next d + 1 = length-append d.variables _ in
      record {
        grows = record { longer = omega (arith, long); types = record { kept = λ i v h. longer d.variables (record { name = x; ty = t } ∷ []) i v h }; eqns = λ y q h. h };
        clocks = λ y. c;
        timed = λ g a w h before. (record { eqns = h.eqns; flag = h.flag }, a (next d) (omega arith) (omega (arith, long)));
      }

  -- a new variable with its equation
  pub named_step : (b : Clock) (at : Site) (x : List ℕ) (t : FlatTy) (right : Right) (d : Sketch) → Step b d (named_value at x t right d).0 (Reads at right) (λ g. g (next d) ≡ at.clock)
  named_step b at x t right d =
      then_step b d (with_new x t d) (named_value at x t right d).0 (Reads at right) (λ g. g (next d) ≡ at.clock)
      (λ g. Reads at right g × AllByRecursion (λ y. (g y ≡ at.clock) ⊎ (IsSplit n types g y × IsCopy right)) (next d ∷ [])) (λ g. ⊤) (λ g. g (next d) ≡ at.clock)
      (weaker b d (with_new x t d) (λ g. ⊤) (λ g. g (next d) ≡ at.clock) (Reads at right) (λ g. g (next d) ≡ at.clock) (variable_step b at.clock (new_name x (next d)) t d) (λ g w h. tt) (λ g w h r. r))
      (eqn_step b at (next d ∷ []) right (with_new x t d))
      (λ g w h r. (h, (inl r, tt)))
      (λ g w h r s. r)

  pub value_step : (b : Clock) (at : Site) (t : FlatTy) (right : Right) (d : Sketch) → Step b d (value_of at t right d).0 (Reads at right) (λ g. IsFrontOf (g (next d)) at.clock)
  value_step b at t right d =
      weaker b d (value_of at t right d).0 (Reads at right) (λ g. g (next d) ≡ at.clock) (Reads at right) (λ g. IsFrontOf (g (next d)) at.clock) (named_step b at (codes "e") t right d) (λ g w h. h) (λ g w h r. front_itself (g (next d)) at.clock r)

  -- what a variable that may be there gives
  abbrev pub Gives : Site → Option ℕ → (ℕ → Clock) → Type 0
  Gives at o g = (v : ℕ) → o ≡ Some v → IsFrontOf (g v) at.clock

  pub copy_reads : (at : Site) (o : Option ℕ) (g : ℕ → Clock) → StepsStand n types g [] at.clock → Gives at o g → Reads at (copy_of (atom_of o)) g
  copy_reads at None g s h = (s, tt)
  copy_reads at (Some v) g s h = (s, (h v refl, tt))

  pub read_step : (b : Clock) (at : Site) (o : Option ℕ) (t : FlatTy) (d : Sketch) → Step b d (read_at at o t d).0 (λ g. StepsStand n types g [] at.clock × Gives at o g) (λ g. IsFrontOf (g (next d)) at.clock)
  read_step b at o t d =
      weaker b d (read_at at o t d).0 (Reads at (copy_of (atom_of o))) (λ g. IsFrontOf (g (next d)) at.clock) (λ g. StepsStand n types g [] at.clock × Gives at o g) (λ g. IsFrontOf (g (next d)) at.clock)
      (value_step b at t (copy_of (atom_of o)) d) (λ g w h. copy_reads at o g h.0 h.1) (λ g w h r. r)

  -- ---- flags

  pub flag_step : (b : Clock) (at : Site) (d : Sketch) → OwnSite b at → Step b d (flag_at at d).0 (λ g. StepsStand n types g [] at.clock) (λ g. IsFrontOf (g (flag_at at d).1) at.clock)
  flag_step b at d own = by (nat_eq (length at.clock) at.base) own d.flag refl
    where
      fresh : Step b d (new_flag at d).0 (λ g. StepsStand n types g [] at.clock) (λ g. g (next d) ≡ at.clock)
      fresh = weaker b d (new_flag at d).0 _ (λ g. g (next d) ≡ at.clock) (λ g. StepsStand n types g [] at.clock) (λ g. g (next d) ≡ at.clock) (named_step b at (codes "first") flat.Bool _ d) (λ g w h. (h, tt)) (λ g w h r. r)

      by : (c : Bool) → (c ≡ true → at.clock ≡ b) → (f : Option ℕ) → d.flag ≡ f
          → let m : Made = if c then block_flag at f d else new_flag at d in Step b d m.0 (λ g. StepsStand n types g [] at.clock) (λ g. IsFrontOf (g m.1) at.clock)
      by true o None e =
          record {
            grows = record { longer = fresh.grows.longer; types = record { kept = λ x v h. fresh.grows.types.kept x v h }; eqns = λ x c h. fresh.grows.eqns x c h };
            clocks = fresh.clocks;
            timed = λ g a w h before.
                let inner : Within (new_flag at d).0 = record { kinds = λ x t i. w.kinds x t i; eqns = λ x q i. w.eqns x q i } in
                let r = fresh.timed g a inner h before in
                (record { eqns = r.0.eqns; flag = front_itself (g (next d)) b (r.1 ∙ o refl) }, front_itself (g (next d)) at.clock r.1);
          }
      by true o (Some x) e =
          record {
            grows = still d;
            clocks = λ y. [];
            timed = λ g a w h before. (h, subst (λ c. IsFrontOf (g x) c) (sym (o refl)) (subst (λ f. FlagTimed g b f) e h.flag));
          }
      by false o f e = weaker b d (new_flag at d).0 (λ g. StepsStand n types g [] at.clock) (λ g. g (next d) ≡ at.clock) (λ g. StepsStand n types g [] at.clock) (λ g. IsFrontOf (g (next d)) at.clock) fresh (λ g w h. h) (λ g w h r. front_itself (g (next d)) at.clock r)
