-- Values on the base clock, and their bits, are added such that no variable depends on itself.
use Rattle.std.proofs.Common.{◌≡◌, ℕ, zero, suc, ◌+◌, ◌<◌, ◌≤◌, Bool, true, false, if◌then◌else◌, List, [], ◌∷◌, ◌++◌, length, slice_get, Option, None, Some, refl, sym, ap, subst, ◌∙◌, arith}
use Rattle.std.specs.Prelude.{◌==◌}
use Rattle.std.specs.List.{AllByRecursion, flat_map, range_with_len}
use Rattle.std.proofs.lemmas.List.{append-nil, append_assoc, length-append}
use Rattle.hp_base.specs.declared.value.Value.TheVariants.{B, E}
use Rattle.hp_obc.specs.Machines.{ObcType}
use Rattle.hp_obc.specs.declared.command.ObcOp.{ObcOp}
use Rattle.hp_obc.specs.declared.command.ObcOp.TheVariants.{Copy, Or, Eq}
use Rattle.hp_flat.specs.declared.equation.Atom.{Atom}
use Rattle.hp_flat.specs.declared.equation.Atom.TheVariants.{Variable as Read, Value as Fixed}
use Rattle.hp_flat.specs.declared.node.FlatTy.{FlatTy}
use Rattle.hp_flat.specs.declared.node.FlatTy.TheVariants as ty
use Rattle.hp_flat.specs.Equations.{Clock, FlatEqn}
use Rattle.hp_flat.specs.Nodes.{FlatNode}
use Rattle.law_equations.specs.Meaning.Fitting.{atom_variables}
use Rattle.law_equations.specs.Meaning.Scheduling.{AreBelow, clock_variables, reads, right_reads}
use Rattle.law_equations.proofs.FollowedLemmas.Passing.{each_first}
use Rattle.hp_watch.specs.Adding.{added_variable, next_variable, operator_eqn, some_value, type_at, with_eqn, with_operator, with_variable}
use Rattle.hp_watch.specs.Lifting.{case_eqn, count_of, either, has_bit, lifted, spelled, Valued, width_of, with_bit, with_bits, with_cases, with_each, with_either, with_spelling, with_step, with_test}
use Rattle.hp_watch.specs.declared.watching.Free.{Free}
use Rattle.hp_watch.specs.Watching.{clock_by, clock_of, spelled_place, Watched, with_place, with_places}
use Rattle.law_choices.proofs.AddingLemmas.Adding.{both}
use Rattle.law_choices.proofs.AddingLemmas.Rows.{each_range}
use Rattle.law_choices.proofs.AddingLemmas.Steps.{higher}
use Rattle.law_choices.proofs.ClosedLemmas.ClosedLaws.{each_other}
use Rattle.law_controlled.specs.Early.{IsStraight}
use Rattle.law_controlled.proofs.StraightLaws.{AreBehind, descends_straight, Descends, StayBelow, straight_behind}

-- ---- what rises

-- an equation defines variables from a number on, below another one, and reads less than it defines
pub record Rising (low high : ℕ) (e : FlatEqn) : Type 0 where
  pub targets : AllByRecursion (λ x. (low ≤ x) × (x < high)) e.targets
  pub reads_below : AreBelow high (reads e)
  pub descends : Descends e

rising-more : (a b c d : ℕ) → a ≤ b → c ≤ d → (e : FlatEqn) → Rising b c e → Rising a d e
rising-more a b c d l m e r = record {
  targets = each_other (λ x. (b ≤ x) × (x < c)) (λ x. (a ≤ x) × (x < d)) (λ x h. let g = h.0 in let u = h.1 in (omega (arith, l, g), omega (arith, m, u))) e.targets r.targets;
  reads_below = higher c d m (reads e) r.reads_below;
  descends = r.descends;
}

-- Equations that rise stand behind those of a node.
pub record Rises (low high : ℕ) (n other : FlatNode) : Type 0 where
  pub more : List FlatEqn
  pub eqns : other.eqns ≡ n.eqns ++ more
  pub each : AllByRecursion (Rising low high) more

pub rises-more : (a b c d : ℕ) → a ≤ b → c ≤ d → (n other : FlatNode) → Rises b c n other → Rises a d n other
rises-more a b c d l m n other r = record { more = r.more; eqns = r.eqns; each = each_other (Rising b c) (Rising a d) (λ e h. rising-more a b c d l m e h) r.more r.each }

-- they are of the new variables of the other node
pub record Gets (n other : FlatNode) : Type 0 where
  pub longer : length n.variables ≤ length other.variables
  pub rises : Rises (length n.variables) (length other.variables) n other

pub gets-self : (n : FlatNode) → Gets n n
gets-self n = record { longer = omega arith; rises = record { more = []; eqns = sym (append-nil n.eqns); each = tt } }

pub gets-both : (n m k : FlatNode) → Gets n m → Gets m k → Gets n k
gets-both n m k g h =
    let V = length n.variables in
    let M = length m.variables in
    let K = length k.variables in
    let l = g.longer in
    let u = h.longer in
    let r = rises-more V V M K (omega arith) u n m g.rises in
    let s = rises-more V M K K l (omega arith) m k h.rises in
    record {
      longer = omega (arith, l, u);
      rises = record { more = r.more ++ s.more; eqns = s.eqns ∙ ap (λ es. es ++ s.more) r.eqns ∙ append_assoc n.eqns r.more s.more; each = both (Rising V K) r.more s.more r.each s.each };
    }

-- ---- one step

pub longer-variable : (t : FlatTy) (n : FlatNode) → length (with_variable t n).variables ≡ suc (length n.variables)
unfolding with_variable
longer-variable t n = let l = length-append n.variables (added_variable (next_variable n) t ∷ []) in omega (arith, l)

same-variables : (e : FlatEqn) (n : FlatNode) → length (with_eqn e n).variables ≡ length n.variables
unfolding with_eqn
same-variables e n = refl

pub one-behind : (e : FlatEqn) (n : FlatNode) → (with_eqn e n).eqns ≡ n.eqns ++ e ∷ []
unfolding with_eqn
one-behind e n = refl

pub same-eqns : (t : FlatTy) (n : FlatNode) → (with_variable t n).eqns ≡ n.eqns
unfolding with_variable
same-eqns t n = refl

pub rises-eqn : (low high : ℕ) (n m : FlatNode) (e : FlatEqn) → Rises low high n m → Rising low high e → Rises low high n (with_eqn e m)
rises-eqn low high n m e r h = record { more = r.more ++ e ∷ []; eqns = one-behind e m ∙ ap (λ es. es ++ e ∷ []) r.eqns ∙ append_assoc n.eqns r.more (e ∷ []); each = both (Rising low high) r.more (e ∷ []) r.each (h, tt) }

gets-variable : (t : FlatTy) (n : FlatNode) → Gets n (with_variable t n)
gets-variable t n =
    let l = longer-variable t n in
    record { longer = omega (arith, l); rises = record { more = []; eqns = same-eqns t n ∙ sym (append-nil n.eqns); each = tt } }

gets-eqn : (n m : FlatNode) (e : FlatEqn) → Gets n m → Rising (length n.variables) (length m.variables) e → Gets n (with_eqn e m)
gets-eqn n m e g h =
    let same = same-variables e m in
    let l = g.longer in
    record { longer = omega (arith, l, same); rises = subst (λ k. Rises (length n.variables) k n (with_eqn e m)) (sym same) (rises-eqn (length n.variables) (length m.variables) n m e g.rises h) }

-- an operator that reads less than it defines
pub operator-rising : (low high target : ℕ) (clock : Clock) (op : ObcOp) (args : List Atom) → low ≤ target → target < high → AreBelow target (clock_variables clock) → AreBelow target (flat_map atom_variables args) → Rising low high (operator_eqn target clock op args)
operator-rising low high target clock op args l u c a =
    let all : AreBelow target (clock_variables clock ++ flat_map atom_variables args) = both (λ x. x < target) (clock_variables clock) (flat_map atom_variables args) c a in
    record { targets = ((l, u), tt); reads_below = higher target high (omega (arith, u)) (clock_variables clock ++ flat_map atom_variables args) all; descends = (all, tt) }

pub gets-operator : (t : FlatTy) (op : ObcOp) (args : List Atom) (n : FlatNode) → AreBelow (length n.variables) (flat_map atom_variables args) → Gets n (with_operator t op args n)
gets-operator t op args n h =
    let l = longer-variable t n in
    gets-eqn n (with_variable t n) (operator_eqn (next_variable n) [] op args) (gets-variable t n) (operator-rising (length n.variables) (length (with_variable t n).variables) (next_variable n) [] op args (omega arith) (omega (arith, l)) tt h)

pub operator-longer : (t : FlatTy) (op : ObcOp) (args : List Atom) (n : FlatNode) → length (with_operator t op args n).variables ≡ suc (length n.variables)
operator-longer t op args n = same-variables (operator_eqn (next_variable n) [] op args) (with_variable t n) ∙ longer-variable t n

-- ---- lifting

pub step-below : (k : ℕ) (clock : Clock) (step : ℕ × ℕ) → AreBelow k (clock_variables clock) → step.0 < k → AreBelow k (clock_variables (clock ++ step ∷ []))
step-below k [] step h l = (l, tt)
step-below k (on ∷ clock) step h l = (h.0, step-below k clock step h.1 l)

case-rising : (low high target : ℕ) (t : FlatTy) (clock : Clock) (step : ℕ × ℕ) (value k : ℕ) → low ≤ target → target < high → AreBelow target (clock_variables clock) → step.0 < target → value < target → Rising low high (case_eqn target t clock step value k)
case-rising low high target t clock step value k l u c s v =
    operator-rising low high target (clock ++ (step.0, k) ∷ []) Copy ((if k == step.1 then Read value else Fixed (some_value t)) ∷ []) l u (step-below target clock (step.0, k) c s) (by (k == step.1))
  where
    by : (b : Bool) → AreBelow target (flat_map atom_variables ((if b then Read value else Fixed (some_value t)) ∷ []))
    by true = (v, tt)
    by false = tt

module _ (n : FlatNode) (t : FlatTy) (clock : Clock) (step : ℕ × ℕ) (value : ℕ) (c : AreBelow (length n.variables) (clock_variables clock)) (s : step.0 < length n.variables) (v : value < length n.variables) where
  abbrev target : ℕ
  target = length n.variables

  abbrev begun : FlatNode
  begun = with_variable t n

  pub gets-cases : (count : ℕ) → Gets n (with_cases target t clock step value count begun) × (length (with_cases target t clock step value count begun).variables ≡ suc target)
  gets-cases zero = (gets-variable t n, longer-variable t n)
  gets-cases (suc k) =
      let rest = gets-cases k in
      let m = with_cases target t clock step value k begun in
      let e = case_eqn target t clock step value k in
      let long = rest.1 in
      (gets-eqn n m e rest.0 (case-rising target (length m.variables) target t clock step value k (omega arith) (omega (arith, long)) c s v), same-variables e m ∙ long)

-- a variable of a node that has more
pub record Has (n other : FlatNode) (x : ℕ) : Type 0 where
  pub gets : Gets n other
  pub below : x < length other.variables

module _ (types : List ObcType) where
  pub gets-lifted : (steps clock : Clock) (x : ℕ) (n : FlatNode) → AreBelow (length n.variables) (clock_variables clock) → AreBelow (length n.variables) (clock_variables steps) → x < length n.variables → Has n (lifted types clock steps x n).node (lifted types clock steps x n).value
  gets-lifted [] clock x n c s l = record { gets = gets-self n; below = l }
  gets-lifted (step ∷ steps) clock x n c s l =
      let first = gets-lifted steps (clock ++ step ∷ []) x n (step-below (length n.variables) clock step c s.0) s.1 l in
      let inner = lifted types (clock ++ step ∷ []) steps x n in
      let m = inner.node in
      let g = first.gets in
      let more = g.longer in
      let low = s.0 in
      let t = type_at m inner.value in
      let cases = gets-cases m t clock step inner.value (higher (length n.variables) (length m.variables) more (clock_variables clock) c) (omega (arith, low, more)) first.below (count_of types (type_at m step.0)) in
      let long = cases.1 in
      record { gets = gets-both n m (with_step types clock step inner.value m) g cases.0; below = omega (arith, long) }

-- ---- bits

pub gets-tests : (t value count : ℕ) (n : FlatNode) → value < length n.variables → Gets n (with_each (with_test t value) count n) × (length (with_each (with_test t value) count n).variables ≡ length n.variables + count)
gets-tests t value zero n l = (gets-self n, omega arith)
gets-tests t value (suc k) n l =
    let rest = gets-tests t value k n l in
    let m = with_each (with_test t value) k n in
    let args = Read value ∷ Fixed (E t k) ∷ [] in
    let g = rest.0 in
    let more = g.longer in
    let long = rest.1 in
    let last = operator-longer ty.Bool Eq args m in
    (gets-both n m (with_test t value k m) g (gets-operator ty.Bool Eq args m (omega (arith, l, more), tt)), omega (arith, long, last))

-- whether one of two is true, or the first of them
abbrev pub or_value : ℕ → ℕ → FlatNode → Bool → Valued
or_value bit test n b = if b then record { node = with_operator ty.Bool Or (Read bit ∷ Read test ∷ []) n; value = next_variable n } else record { node = n; value = bit }

pub has-or : (bit test : ℕ) (n : FlatNode) (b : Bool) → bit < length n.variables → test < length n.variables → Has n (or_value bit test n b).node (or_value bit test n b).value
has-or bit test n true l m =
    let last = operator-longer ty.Bool Or (Read bit ∷ Read test ∷ []) n in
    record { gets = gets-operator ty.Bool Or (Read bit ∷ Read test ∷ []) n (l, (m, tt)); below = omega (arith, last) }
has-or bit test n false l m = record { gets = gets-self n; below = l }

pub has-either : (place k : ℕ) (tests : List ℕ) (bit : ℕ) (n : FlatNode) → AreBelow (length n.variables) tests → bit < length n.variables → Has n (either place k tests bit n).node (either place k tests bit n).value
has-either place k [] bit n t l = record { gets = gets-self n; below = l }
has-either place k (test ∷ tests) bit n t l =
    let first = with_either k place bit test n in
    let one : Has n first.node first.value = has-or bit test n (has_bit k place) l t.0 in
    let g = one.gets in
    let rest = has-either place (k + 1) tests first.value first.node (higher (length n.variables) (length first.node.variables) g.longer tests t.1) one.below in
    record { gets = gets-both n first.node (either place (k + 1) tests first.value first.node).node g rest.gets; below = rest.below }

pub gets-bits : (tests : List ℕ) (place : ℕ) (n : FlatNode) → AreBelow (length n.variables) tests → Gets n (with_bits tests place n).node
gets-bits tests zero n t = gets-self n
gets-bits tests (suc place) n t =
    let args = Fixed (B false) ∷ [] in
    let begun = with_operator ty.Bool Copy args n in
    let g = gets-operator ty.Bool Copy args n tt in
    let long = operator-longer ty.Bool Copy args n in
    let bit = with_bit tests place n in
    let one = has-either place 0 tests (next_variable n) begun (higher (length n.variables) (length begun.variables) g.longer tests t) (omega (arith, long)) in
    let both_steps = gets-both n begun bit.node g one.gets in
    gets-both n bit.node (with_bits tests place bit.node).node both_steps (gets-bits tests place bit.node (higher (length n.variables) (length bit.node.variables) both_steps.longer tests t))

module _ (types : List ObcType) where
  pub gets-spelling : (t : FlatTy) (value : ℕ) (n : FlatNode) → value < length n.variables → Gets n (with_spelling types t value n).node
  gets-spelling ty.Bool value n l = gets-self n
  gets-spelling ty.Int value n l = gets-self n
  gets-spelling (ty.Enum t) value n l =
      let count = count_of types (ty.Enum t) in
      let tests = gets-tests t value count n l in
      let m = with_each (with_test t value) count n in
      let long = tests.1 in
      let names = range_with_len (next_variable n) count in
      gets-both n m (with_bits names (width_of count) m).node tests.0 (gets-bits names (width_of count) m (each_range (λ x. x < length m.variables) (next_variable n) count (λ x a u. omega (arith, u, long))))

  pub gets-place : (f : Free) (n : FlatNode) → f.variable < length n.variables → AreBelow (length n.variables) (clock_variables (clock_of n f.eqn)) → Gets n (spelled_place types f n).node
  gets-place f n l c =
      let value = lifted types [] (clock_of n f.eqn) f.variable n in
      let first = gets-lifted types (clock_of n f.eqn) [] f.variable n tt c l in
      gets-both n value.node (spelled types value.value value.node).node first.gets (gets-spelling (type_at value.node value.value) value.value value.node first.below)

-- ---- a node in which no variable depends on itself

-- and whose equations define and read its variables
pub record IsSound (n : FlatNode) : Type 0 where
  pub below : StayBelow (length n.variables) n.eqns
  pub straight : IsStraight n.eqns

pub stay-higher : (m k : ℕ) → m ≤ k → (es : List FlatEqn) → StayBelow m es → StayBelow k es
stay-higher m k l es h = each_other (λ (e : FlatEqn). AreBelow m e.targets × AreBelow m (reads e)) (λ (e : FlatEqn). AreBelow k e.targets × AreBelow k (reads e)) (λ e b. (higher m k l e.targets b.0, higher m k l (reads e) b.1)) es h

module _ (low high : ℕ) (es : List FlatEqn) (r : AllByRecursion (Rising low high) es) where
  pub rising-below : StayBelow high es
  rising-below = each_other (Rising low high) (λ (e : FlatEqn). AreBelow high e.targets × AreBelow high (reads e)) (λ e h. (each_other (λ x. (low ≤ x) × (x < high)) (λ x. x < high) (λ x g. g.1) e.targets h.targets, h.reads_below)) es r

  pub rising-behind : AreBehind low es
  rising-behind = each_other (Rising low high) (λ (e : FlatEqn). AllByRecursion (λ x. low ≤ x) e.targets) (λ e h. each_other (λ x. (low ≤ x) × (x < high)) (λ x. low ≤ x) (λ x g. g.0) e.targets h.targets) es r

  pub rising-straight : IsStraight es
  rising-straight = descends_straight es (each_other (Rising low high) Descends (λ e h. h.descends) es r)

pub gets-sound : (n other : FlatNode) → Gets n other → IsSound n → IsSound other
gets-sound n other g s =
    let r = g.rises in
    let V = length n.variables in
    let K = length other.variables in record {
      below = subst (StayBelow K) (sym r.eqns) (both (λ (e : FlatEqn). AreBelow K e.targets × AreBelow K (reads e)) n.eqns r.more (stay-higher V K g.longer n.eqns s.below) (rising-below V K r.more r.each));
      straight = subst IsStraight (sym r.eqns) (straight_behind V n.eqns r.more s.below (rising-behind V K r.more r.each) s.straight (rising-straight V K r.more r.each));
    }

-- ---- free places

clock-below : (k i : ℕ) (es : List FlatEqn) → StayBelow k es → AreBelow k (clock_variables (clock_by (slice_get es i)))
clock-below k i [] h = tt
clock-below k zero (e ∷ es) h = each_first (λ x. x < k) (clock_variables e.clock) (e.restart ++ right_reads e.right) (let first = h.0 in first.1)
clock-below k (suc i) (e ∷ es) h = clock-below k i es h.1

pub free-below : (n : FlatNode) (o : Option ℕ) → IsSound n → AreBelow (length n.variables) (clock_variables (clock_of n o))
free-below n None s = tt
free-below n (Some i) s = clock-below (length n.variables) i n.eqns s.below

-- free places are variables below a number
abbrev pub FreeBelow : ℕ → List Free → Type 0
FreeBelow k fs = AllByRecursion (λ (f : Free). f.variable < k) fs

module _ (types : List ObcType) where
  placed-node : (f : Free) (b : Bool) (w : Watched) → (with_place types f b w).node ≡ (spelled_place types f w.node).node
  placed-node f true w = refl
  placed-node f false w = refl

  pub place-gets : (f : Free) (b : Bool) (w : Watched) → f.variable < length w.node.variables → IsSound w.node → Gets w.node (with_place types f b w).node
  place-gets f b w l s = subst (λ m. Gets w.node m) (sym (placed-node f b w)) (gets-place types f w.node l (free-below w.node f.eqn s))

  pub places-sound : (k : ℕ) (fs : List Free) (bs : List Bool) (w : Watched) → k ≤ length w.node.variables → FreeBelow k fs → IsSound w.node → IsSound (with_places types fs bs w).node
  places-sound k [] bs w l h s = s
  places-sound k (f ∷ fs) [] w l h s = s
  places-sound k (f ∷ fs) (b ∷ bs) w l h s =
      let low = h.0 in
      let g = place-gets f b w (omega (arith, low, l)) s in
      let more = g.longer in
      places-sound k fs bs (with_place types f b w) (omega (arith, l, more)) h.1 (gets-sound w.node (with_place types f b w).node g s)
