-- A pass that changes each equation, takes some away, and changes each instant: what has to be known so that reactions remain.
use Rattle.std.proofs.Common.{◌≡◌, ◌≤◌, ℕ, Bool, true, false, ◌||◌, ◌&&◌, map, List, [], ◌∷◌, refl, sym, ap, ◌∙◌}
use Rattle.std.specs.List.{AllByRecursion, filter}
use Rattle.hp_base.specs.Kinds.{KindData}
use Rattle.hp_base.specs.declared.value.Value.{Value}
use Rattle.hp_base.specs.declared.value.Value.TheVariants.{Absent}
use Rattle.hp_obc.specs.Steps.{Names}
use Rattle.hp_obc.specs.Values.{operated}
use Rattle.hp_flat.specs.declared.equation.Atom.{Atom}
use Rattle.hp_flat.specs.Equations.{Clock, Right, operator, register, called, FlatEqn}
use Rattle.hp_flat.specs.Nodes.{FlatNode}
use Rattle.law_equations.specs.Meaning.Instants.{Instant, has_constructor, holds, is_true, restarted, atom, atoms, unless, noted, history, newest}
use Rattle.law_equations.specs.Meaning.Reactions.{Answers, is_set, inputs_of, right_gives, Holds, Continues, Reaction, outputs_at}
use Rattle.law_equations.specs.Meaning.Fitting.{IsThere, is_there, EqnFits, Fits}
use Rattle.law_equations.specs.Meaning.Scheduling.{clock_variables}
use Rattle.hp_normal.specs.Retargeting.{with_eqns}
use Rattle.law_equations.proofs.FewerLemmas.Members.{Among, each_map, each_both, each_among, all_kept}

-- ---- what is read alike at two instants

abbrev pub Same : Instant → Instant → ℕ → Type 0
Same i j x = j x ≡ i x

pub holds-same : (i j : Instant) (clock : Clock) → AllByRecursion (Same i j) (clock_variables clock) → holds clock j ≡ holds clock i
holds-same i j [] h = refl
holds-same i j (on ∷ clock) h = λ k. has_constructor on.1 (h.0 k) && holds-same i j clock h.1 k

pub restarted-same : (i j : Instant) (xs : List ℕ) → AllByRecursion (Same i j) xs → restarted xs j ≡ restarted xs i
restarted-same i j [] h = refl
restarted-same i j (x ∷ xs) h = λ k. is_true (h.0 k) || restarted-same i j xs h.1 k

pub map-same : (i j : Instant) (xs : List ℕ) → AllByRecursion (Same i j) xs → map j xs ≡ map i xs
map-same i j [] h = refl
map-same i j (x ∷ xs) h = λ k. h.0 k ∷ map-same i j xs h.1 k

-- two right sides have the same arguments
abbrev pub RightAlike : Instant → Instant → Right → Right → Type 0
RightAlike i j (operator op args) (operator op2 args2) = (op2 ≡ op) × (atoms j args2 ≡ atoms i args)
RightAlike i j (register first next) (register first2 next2) = (first2 ≡ first) × (atom j next2 ≡ atom i next)
RightAlike i j (called f args) (called f2 args2) = (f2 ≡ f) × (atoms j args2 ≡ atoms i args)
RightAlike i j right right2 = ⊥

-- an equation and what became of it are there at the same time, begin anew at the same time, and read the same
pub record Alike (clock : Clock) (restart : List ℕ) (right : Right) (clock2 : Clock) (restart2 : List ℕ) (right2 : Right) (i j : Instant) : Type 0 where
  pub there : holds clock2 j ≡ holds clock i
  pub anew : restarted restart2 j ≡ restarted restart i
  pub read : holds clock i ≡ true → RightAlike i j right right2

noted_by : {A : Type 0} (d : Bool) (a b : A) (h g : List A) → (d ≡ true → b ≡ a) → g ≡ h → noted d b g ≡ noted d a h
noted_by true a b h g e f = λ k. e refl k ∷ f k
noted_by false a b h g e f = f

module _ (g : Instant → Instant) where
  -- histories of what is read alike
  history-alike : {A : Type 0} (clock clock2 : Clock) (restart restart2 : List ℕ) (f k : Instant → A) (past : List Instant)
      → AllByRecursion (λ (i : Instant). (holds clock2 (g i) ≡ holds clock i) × (restarted restart2 (g i) ≡ restarted restart i) × (holds clock i ≡ true → k (g i) ≡ f i)) past
      → history clock2 restart2 k (map g past) ≡ history clock restart f past
  history-alike clock clock2 restart restart2 f k [] h = refl
  history-alike clock clock2 restart restart2 f k (i ∷ past) h =
      (λ t. noted (h.0.0 t) (k (g i)) (unless (h.0.1 t) (history-alike clock clock2 restart restart2 f k past h.1 t)))
      ∙ noted_by (holds clock i) (f i) (k (g i)) (unless (restarted restart i) (history clock restart f past)) (unless (restarted restart i) (history clock restart f past)) h.0.2 refl

  module _ (answers : Answers) (clock clock2 : Clock) (restart restart2 : List ℕ) where
    abbrev AllAlike : Right → Right → List Instant → Type 0
    AllAlike right right2 past = AllByRecursion (λ (i : Instant). Alike clock restart right clock2 restart2 right2 i (g i)) past

    register-past : (first first2 : Value) (next next2 : Atom) (past : List Instant) → AllAlike (register first next) (register first2 next2) past
        → history clock2 restart2 (λ i. atom i next2) (map g past) ≡ history clock restart (λ i. atom i next) past
    register-past first first2 next next2 past h =
        history-alike clock clock2 restart restart2 (λ i. atom i next) (λ i. atom i next2) past
        (each_map (λ (i : Instant). Alike clock restart (register first next) clock2 restart2 (register first2 next2) i (g i))
        (λ (i : Instant). (holds clock2 (g i) ≡ holds clock i) × (restarted restart2 (g i) ≡ restarted restart i) × (holds clock i ≡ true → atom (g i) next2 ≡ atom i next)) (λ i a. (a.there, a.anew, λ t. (a.read t).1)) past h)

    called-past : (f f2 : List ℕ) (args args2 : List Atom) (past : List Instant) → AllAlike (called f args) (called f2 args2) past
        → history clock2 restart2 (λ i. atoms i args2) (map g past) ≡ history clock restart (λ i. atoms i args) past
    called-past f f2 args args2 past h =
        history-alike clock clock2 restart restart2 (λ i. atoms i args) (λ i. atoms i args2) past
        (each_map (λ (i : Instant). Alike clock restart (called f args) clock2 restart2 (called f2 args2) i (g i))
        (λ (i : Instant). (holds clock2 (g i) ≡ holds clock i) × (restarted restart2 (g i) ≡ restarted restart i) × (holds clock i ≡ true → atoms (g i) args2 ≡ atoms i args)) (λ i a. (a.there, a.anew, λ t. (a.read t).1)) past h)

    -- so they give the same
    gives-alike : (right right2 : Right) (past : List Instant) (now : Instant) → AllAlike right right2 past → restarted restart2 (g now) ≡ restarted restart now → RightAlike now (g now) right right2
        → right_gives answers clock2 restart2 (map g past) (g now) right2 ≡ right_gives answers clock restart past now right
    gives-alike (operator op args) (operator op2 args2) past now hs anew r = λ k. operated (r.0 k) (r.1 k) ∷ []
    gives-alike (register first next) (register first2 next2) past now hs anew r = λ k. newest (r.0 k) (unless (anew k) (register-past first first2 next next2 past hs k)) ∷ []
    gives-alike (called f args) (called f2 args2) past now hs anew r = λ k. answers (r.0 k) (r.1 k) (unless (anew k) (called-past f f2 args args2 past hs k))
    gives-alike (operator op args) (register first2 next2) past now hs anew r = absurd r
    gives-alike (operator op args) (called f2 args2) past now hs anew r = absurd r
    gives-alike (register first next) (operator op2 args2) past now hs anew r = absurd r
    gives-alike (register first next) (called f2 args2) past now hs anew r = absurd r
    gives-alike (called f args) (operator op2 args2) past now hs anew r = absurd r
    gives-alike (called f args) (register first2 next2) past now hs anew r = absurd r

-- ---- a whole pass

module _ (takes : Names (List KindData)) (n : FlatNode) (w : FlatEqn → FlatEqn) (keep : FlatEqn → Bool) (g : Instant → Instant) where
  abbrev pub passed : FlatNode
  passed = with_eqns n (filter keep (map w n.eqns))

  -- what is known of an equation that is kept, at an instant
  pub record EqnPassed (e : FlatEqn) (i : Instant) : Type 0 where
    pub alike : Alike e.clock e.restart e.right (w e).clock (w e).restart (w e).right i (g i)
    pub targets : holds e.clock i ≡ true → map (g i) (w e).targets ≡ map i e.targets
    pub fit : EqnFits takes (g i) (w e)

  -- and of the instant
  pub record Passed (i : Instant) : Type 0 where
    pub eqns : (e : FlatEqn) → Among e n.eqns → keep (w e) ≡ true → EqnPassed e i
    pub inputs : AllByRecursion (Same i (g i)) (inputs_of n)
    pub outputs : AllByRecursion (Same i (g i)) n.outputs
    pub others : (x : ℕ) → n.inputs ≤ x → is_set passed.eqns (g i) x ≡ false → g i x ≡ Absent

  past_alike : (e : FlatEqn) → Among e n.eqns → keep (w e) ≡ true → (past : List Instant) → AllByRecursion Passed past → AllByRecursion (λ (i : Instant). Alike e.clock e.restart e.right (w e).clock (w e).restart (w e).right i (g i)) past
  past_alike e a k past h = each_map Passed (λ (i : Instant). Alike e.clock e.restart e.right (w e).clock (w e).restart (w e).right i (g i)) (λ i p. (p.eqns e a k).alike) past h

  pub passes-continues : (answers : Answers) (past : List Instant) (inputs : List Value) (now : Instant) → AllByRecursion Passed past → Passed now → Continues answers n past inputs now → Continues answers passed (map g past) inputs (g now)
  passes-continues answers past inputs now ps p c = record {
    inputs_are = map-same now (g now) (inputs_of n) p.inputs ∙ c.inputs_are;
    equations =
        all_kept w keep (Holds answers (map g past) (g now)) n.eqns
        (λ e a k t.
        let q : EqnPassed e now = p.eqns e a k in
        let there : holds e.clock now ≡ true = sym q.alike.there ∙ t in
        q.targets there ∙ each_among (Holds answers past now) n.eqns e c.equations a there
        ∙ sym (gives-alike g answers e.clock (w e).clock e.restart (w e).restart e.right (w e).right past now (past_alike e a k past ps) q.alike.anew (q.alike.read there)));
    others = p.others;
  }

  pub passes-reaction : (answers : Answers) (inputs : List (List Value)) (instants : List Instant) → AllByRecursion Passed instants → Reaction answers n inputs instants → Reaction answers passed inputs (map g instants)
  passes-reaction answers [] [] ps r = tt
  passes-reaction answers [] (now ∷ past) ps r = absurd r
  passes-reaction answers (inputs ∷ earlier) [] ps r = absurd r
  passes-reaction answers (inputs ∷ earlier) (now ∷ past) ps r = (passes-reaction answers earlier past ps.1 r.0, passes-continues answers past inputs now ps.1 ps.0 r.1)

  there_same : (i : Instant) (xs : List ℕ) → AllByRecursion (Same i (g i)) xs → AllByRecursion (IsThere i) xs → AllByRecursion (IsThere (g i)) xs
  there_same i = each_both (Same i (g i)) (IsThere i) (IsThere (g i)) (λ x e t. ap is_there e ∙ t)

  passes-fit : (i : Instant) → Passed i → Fits takes n i → Fits takes passed (g i)
  passes-fit i p f = record {
    inputs = there_same i (inputs_of n) p.inputs f.inputs;
    outputs = there_same i n.outputs p.outputs f.outputs;
    eqns = all_kept w keep (EqnFits takes (g i)) n.eqns (λ e a k. (p.eqns e a k).fit);
  }

  pub passes-fits : (instants : List Instant) → AllByRecursion Passed instants → AllByRecursion (Fits takes n) instants → AllByRecursion (Fits takes passed) (map g instants)
  passes-fits [] ps fs = tt
  passes-fits (i ∷ instants) ps fs = (passes-fit i ps.0 fs.0, passes-fits instants ps.1 fs.1)

  pub passes-outputs : (instants : List Instant) → AllByRecursion Passed instants → map (outputs_at passed) (map g instants) ≡ map (outputs_at n) instants
  passes-outputs [] ps = refl
  passes-outputs (i ∷ instants) ps = λ k. map-same i (g i) n.outputs ps.0.outputs k ∷ passes-outputs instants ps.1 k
