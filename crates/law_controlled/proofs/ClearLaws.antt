-- What is added for the bits of a variable depends on no controllable variable, where neither the variable nor its clock does.
use Rattle.std.proofs.Common.{◌≡◌, ◌⊎◌, inl, inr, ℕ, zero, suc, ◌+◌, ◌<◌, ◌≤◌, Bool, true, false, if◌then◌else◌, ◌==◌, nat_lt, List, [], ◌∷◌, ◌++◌, length, slice_get, Option, None, Some, refl, sym, ap, subst, ◌∙◌, arith}
use Rattle.std.specs.Prelude.{Contains}
use Rattle.std.specs.List.{AllByRecursion, flat_map, range_with_len}
use Rattle.std.proofs.lemmas.Bool.Decides.{nat_tests}
use Rattle.std.proofs.lemmas.List.{append-nil, append_assoc}
use Rattle.std.proofs.lemmas.List.Elements.{All-contains_itself, Contains-append_left, recursion_from_All}
use Rattle.hp_base.specs.declared.value.Value.TheVariants.{B, E}
use Rattle.hp_obc.specs.Machines.{ObcType}
use Rattle.hp_obc.specs.declared.command.ObcOp.{ObcOp}
use Rattle.hp_obc.specs.declared.command.ObcOp.TheVariants.{Copy, Eq, Or}
use Rattle.hp_flat.specs.declared.equation.Atom.{Atom}
use Rattle.hp_flat.specs.declared.equation.Atom.TheVariants.{Variable as Read, Value as Fixed}
use Rattle.hp_flat.specs.declared.node.FlatTy.{FlatTy}
use Rattle.hp_flat.specs.declared.node.FlatTy.TheVariants as ty
use Rattle.hp_flat.specs.Equations.{Clock, FlatEqn}
use Rattle.hp_flat.specs.Nodes.{FlatNode}
use Rattle.law_equations.specs.Meaning.Fitting.{atom_variables}
use Rattle.law_equations.specs.Meaning.Scheduling.{AreBelow, clock_variables, reads, right_reads}
use Rattle.hp_watch.specs.declared.watching.Free.{Free}
use Rattle.hp_watch.specs.Adding.{next_variable, operator_eqn, some_value, type_at, with_operator, with_variable}
use Rattle.hp_watch.specs.Lifting.{case_eqn, count_of, either, has_bit, lifted, width_of, with_bit, with_bits, with_cases, with_each, with_either, with_spelling, with_step, with_test}
use Rattle.hp_watch.specs.Watching.{clock_by, clock_of, spelled_place, Watched, with_place, with_places}
use Rattle.law_automata.specs.Lowered.Standing.{Along}
use Rattle.law_choices.specs.Depending.Dependence.{DependsOn, EquationChain, IsReadFor}
use Rattle.law_choices.proofs.AddingLemmas.Adding.{both}
use Rattle.law_choices.proofs.AddingLemmas.Rows.{each_range}
use Rattle.law_choices.proofs.AddingLemmas.Steps.{among}
use Rattle.law_choices.proofs.AddingLemmas.Surveyed.{at_number, get_front, number_below}
use Rattle.law_choices.proofs.ClosedLemmas.ClosedLaws.{each_other}
use Rattle.law_controlled.proofs.RisingLaws.{Gets, FreeBelow, gets-bits, gets-cases, gets-lifted, gets-operator, gets-sound, gets-tests, has-either, has-or, IsSound, one-behind, operator-longer, or_value, place-gets, rising-behind, same-eqns}
use Rattle.law_controlled.proofs.StraightLaws.{AreBehind, depends-behind, depends-read, low_chain, low_read, read_cases, StayBelow}

-- ---- lists

-- what is so of all variables of a clock, and of one more
pub step-all : (P : ℕ → Type 0) (clock : Clock) (step : ℕ × ℕ) → AllByRecursion P (clock_variables clock) → P step.0 → AllByRecursion P (clock_variables (clock ++ step ∷ []))
step-all P [] step h l = (l, tt)
step-all P (on ∷ clock) step h l = (h.0, step-all P clock step h.1 l)

-- an equation of this number is one of them
pub at_contained : (es : List FlatEqn) (k : ℕ) (e : FlatEqn) → slice_get es k ≡ Some e → Contains es e
at_contained es k e at = at_number (Contains es) es k e at (recursion_from_All (Contains es) es (All-contains_itself es))

-- an equation of this number defines the variable of a free place
abbrev pub IsStanding : FlatNode → Free → Type 0
IsStanding n f = (k : ℕ) × (e : FlatEqn) × (f.eqn ≡ Some k) × (slice_get n.eqns k ≡ Some e) × Contains e.targets f.variable

pub standing-grown : (n other : FlatNode) (more : List FlatEqn) → other.eqns ≡ n.eqns ++ more → (f : Free) → IsStanding n f → IsStanding other f
standing-grown n other more are f h = (h.0, h.1, h.2, ap (λ es. slice_get es h.0) are ∙ get_front n.eqns more h.0 (number_below n.eqns h.0 h.1 h.3) ∙ h.3, h.4)

module _ (first past : ℕ) where
  -- A variable is none of the controllable ones, which have these numbers, and depends on none of them.
  abbrev pub IsClear : List FlatEqn → ℕ → Type 0
  IsClear es v = (w : ℕ) → first ≤ w → w < past → (v ≡ w) ⊎ DependsOn es v w → ⊥

  -- so it is of what it reads
  pub clear-read : (es : List FlatEqn) (v y : ℕ) → IsReadFor es v y → IsClear es v → IsClear es y
  clear-read es v y r h w l u c = h w l u (inr (by c))
    where
      by : (y ≡ w) ⊎ DependsOn es y w → DependsOn es v w
      by (inl e) = depends-read es v w (subst (IsReadFor es v) e r)
      by (inr d) = depends-behind es v y w r d

  -- and it is so where it is of all that is read
  pub clear-by : (es : List FlatEqn) (v : ℕ) → (v < first) ⊎ (past ≤ v) → ((y : ℕ) → IsReadFor es v y → IsClear es y) → IsClear es v
  clear-by es v apart all w l u (inl e) = by apart
    where
      by : (v < first) ⊎ (past ≤ v) → ⊥
      by (inl a) = omega (arith, a, e, l)
      by (inr a) = omega (arith, a, e, u)
  clear-by es v apart all w l u (inr d) = by d.0 d.1
    where
      by : (vs : List ℕ) → EquationChain es v vs w → ⊥
      by [] r = all w r w l u (inl refl)
      by (y ∷ ys) r = all y r.0 w l u (inr (ys, r.1))

  -- equations behind, of other variables, change nothing
  pub clear-grown : (k : ℕ) (es more : List FlatEqn) → StayBelow k es → AreBehind k more → (v : ℕ) → v < k → IsClear es v → IsClear (es ++ more) v
  clear-grown k es more low high v b h w l u (inl e) = h w l u (inl e)
  clear-grown k es more low high v b h w l u (inr d) = h w l u (inr (d.0, low_chain k es more low high v d.0 w b d.1))

  -- a variable of a node, and clear there
  abbrev pub Good : FlatNode → ℕ → Type 0
  Good n x = (x < length n.variables) × IsClear n.eqns x

  pub good-grown : (n other : FlatNode) → Gets n other → IsSound n → (x : ℕ) → Good n x → Good other x
  good-grown n other g s x h =
      let r = g.rises in
      let long = g.longer in
      let V = length n.variables in
      let below = h.0 in
      (omega (arith, below, long), subst (λ es. IsClear es x) (sym r.eqns) (clear-grown V n.eqns r.more s.below (rising-behind V (length other.variables) r.more r.each) x below h.1))

  all-grown : (n other : FlatNode) → Gets n other → IsSound n → (xs : List ℕ) → AllByRecursion (Good n) xs → AllByRecursion (Good other) xs
  all-grown n other g s xs h = each_other (Good n) (Good other) (good-grown n other g s) xs h

  -- a new variable, where its equations read what is clear
  abbrev Defines : FlatNode → FlatEqn → Type 0
  Defines n e = AllByRecursion (λ x. length n.variables ≤ x) e.targets × AllByRecursion (Good n) (reads e)

  new-clear : (n other : FlatNode) (more : List FlatEqn) → other.eqns ≡ n.eqns ++ more → IsSound n → past ≤ length n.variables → AllByRecursion (Defines n) more → (v : ℕ) → length n.variables ≤ v → IsClear other.eqns v
  new-clear n other more are s high all v l = clear-by other.eqns v (inr (omega (arith, high, l))) (λ y r. by y (read_cases n.eqns more v y (subst (λ es. IsReadFor es v y) are r)))
    where
      V : ℕ
      V = length n.variables

      behind : AreBehind (length n.variables) more
      behind = each_other (Defines n) (λ (e : FlatEqn). AllByRecursion (λ x. length n.variables ≤ x) e.targets) (λ e h. h.0) more all

      by : (y : ℕ) → IsReadFor n.eqns v y ⊎ IsReadFor more v y → IsClear other.eqns y
      by y (inl r) = let b = (low_read (length n.variables) n.eqns more s.below behind v y r).0 in absurd (omega (arith, b, l))
      by y (inr r) =
          let good = among (Good n) (reads r.0) y (among (Defines n) more r.0 all r.1).1 r.3 in
          subst (λ es. IsClear es y) (sym are) (clear-grown (length n.variables) n.eqns more s.below behind y good.0 good.1)

  -- ---- operators on the base clock

  operator-eqns : (t : FlatTy) (op : ObcOp) (args : List Atom) (n : FlatNode) → (with_operator t op args n).eqns ≡ n.eqns ++ operator_eqn (next_variable n) [] op args ∷ []
  operator-eqns t op args n = one-behind (operator_eqn (next_variable n) [] op args) (with_variable t n) ∙ ap (λ es. es ++ operator_eqn (next_variable n) [] op args ∷ []) (same-eqns t n)

  operator-good : (t : FlatTy) (op : ObcOp) (args : List Atom) (n : FlatNode) → IsSound n → past ≤ length n.variables → AllByRecursion (Good n) (flat_map atom_variables args) → Good (with_operator t op args n) (next_variable n)
  operator-good t op args n s high all =
      let long = operator-longer t op args n in
      let e = operator_eqn (next_variable n) [] op args in
      (omega (arith, long), new-clear n (with_operator t op args n) (e ∷ []) (operator-eqns t op args n) s high ((((omega arith, tt), all), tt)) (next_variable n) (omega arith))

  -- ---- bits

  tests-good : (t value count : ℕ) (n : FlatNode) → IsSound n → past ≤ length n.variables → Good n value → (x : ℕ) → length n.variables ≤ x → x < length n.variables + count → Good (with_each (with_test t value) count n) x
  tests-good t value zero n s high g x l u = absurd (omega (arith, l, u))
  tests-good t value (suc k) n s high g x l u =
      let m = with_each (with_test t value) k n in
      let T = gets-tests t value k n g.0 in
      let sm = gets-sound n m T.0 s in
      let gm = good-grown n m T.0 s value g in
      let below = gm.0 in
      let long = T.1 in
      let args = Read value ∷ Fixed (E t k) ∷ [] in
      let step = gets-operator ty.Bool Eq args m (below, tt) in
      let last = operator-good ty.Bool Eq args m sm (omega (arith, high, long)) (gm, tt) in
      by (nat_lt x (length n.variables + k)) refl step sm last (λ v. tests-good t value k n s high g x l v)
    where
      by : (b : Bool) → nat_lt x (length n.variables + k) ≡ b → Gets (with_each (with_test t value) k n) (with_test t value k (with_each (with_test t value) k n)) → IsSound (with_each (with_test t value) k n)
          → Good (with_test t value k (with_each (with_test t value) k n)) (length (with_each (with_test t value) k n).variables)
          → (x < length n.variables + k → Good (with_each (with_test t value) k n) x) → Good (with_test t value k (with_each (with_test t value) k n)) x
      by true e step sm last rest = good-grown (with_each (with_test t value) k n) (with_test t value k (with_each (with_test t value) k n)) step sm x (rest (grind (arith, nat_tests, e)))
      by false e step sm last rest =
          let long = (gets-tests t value k n g.0).1 in
          let least : length n.variables + k ≤ x = grind (arith, nat_tests, e) in
          let same : length (with_each (with_test t value) k n).variables ≡ x = omega (arith, long, least, u) in
          subst (Good (with_test t value k (with_each (with_test t value) k n))) same last

  or-good : (bit test : ℕ) (n : FlatNode) (b : Bool) → IsSound n → past ≤ length n.variables → Good n bit → Good n test → Good (or_value bit test n b).node (or_value bit test n b).value
  or-good bit test n true s high g h = operator-good ty.Bool Or (Read bit ∷ Read test ∷ []) n s high (g, (h, tt))
  or-good bit test n false s high g h = g

  either-good : (place k : ℕ) (tests : List ℕ) (bit : ℕ) (n : FlatNode) → IsSound n → past ≤ length n.variables → AllByRecursion (Good n) tests → Good n bit → Good (either place k tests bit n).node (either place k tests bit n).value
  either-good place k [] bit n s high t g = g
  either-good place k (test ∷ tests) bit n s high t g =
      let made = with_either k place bit test n in
      let one = has-or bit test n (has_bit k place) g.0 t.0.0 in
      let gets : Gets n made.node = one.gets in
      let long = gets.longer in
      let good : Good made.node made.value = or-good bit test n (has_bit k place) s high g t.0 in
      either-good place (k + 1) tests made.value made.node (gets-sound n made.node gets s) (omega (arith, high, long)) (all-grown n made.node gets s tests t.1) good

  bits-good : (tests : List ℕ) (place : ℕ) (n : FlatNode) → IsSound n → past ≤ length n.variables → AllByRecursion (Good n) tests → AllByRecursion (Good (with_bits tests place n).node) (with_bits tests place n).bits
  bits-good tests zero n s high t = tt
  bits-good tests (suc place) n s high t =
      let args = Fixed (B false) ∷ [] in
      let begun = with_operator ty.Bool Copy args n in
      let g = gets-operator ty.Bool Copy args n tt in
      let long = g.longer in
      let sb = gets-sound n begun g s in
      let start = operator-good ty.Bool Copy args n s high tt in
      let tb = all-grown n begun g s tests t in
      let bit = with_bit tests place n in
      let one = has-either place 0 tests (next_variable n) begun (each_other (Good begun) (λ x. x < length begun.variables) (λ x h. h.0) tests tb) start.0 in
      let made = either-good place 0 tests (next_variable n) begun sb (omega (arith, high, long)) tb start in
      let sm = gets-sound begun bit.node one.gets sb in
      let gets : Gets begun bit.node = one.gets in
      let more = gets.longer in
      let tm = all-grown begun bit.node gets sb tests tb in
      let rest = with_bits tests place bit.node in
      (good-grown bit.node rest.node (gets-bits tests place bit.node (each_other (Good bit.node) (λ x. x < length bit.node.variables) (λ x h. h.0) tests tm)) sm bit.value made, bits-good tests place bit.node sm (omega (arith, high, long, more)) tm)

  -- ---- free places

  -- a free place whose variable is clear, and which is an input or stands at an equation
  abbrev pub IsClearFree : FlatNode → Free → Type 0
  IsClearFree n f = Good n f.variable × ((f.eqn ≡ None) ⊎ IsStanding n f)

  free-grown : (n other : FlatNode) → Gets n other → IsSound n → (f : Free) → IsClearFree n f → IsClearFree other f
  free-grown n other g s f h = (good-grown n other g s f.variable h.0, by h.1)
    where
      by : (f.eqn ≡ None) ⊎ IsStanding n f → (f.eqn ≡ None) ⊎ IsStanding other f
      by (inl e) = inl e
      by (inr e) = let r = g.rises in inr (standing-grown n other r.more r.eqns f e)

  -- free places of which it is said which are early: those are clear
  abbrev pub AreClear : FlatNode → List Free → List Bool → Type 0
  AreClear n fs bs = Along (λ (f : Free) (b : Bool). b ≡ true → IsClearFree n f) fs bs

  clear-all-grown : (n other : FlatNode) → Gets n other → IsSound n → (fs : List Free) (bs : List Bool) → AreClear n fs bs → AreClear other fs bs
  clear-all-grown n other g s [] [] h = tt
  clear-all-grown n other g s [] (b ∷ bs) h = absurd h
  clear-all-grown n other g s (f ∷ fs) [] h = absurd h
  clear-all-grown n other g s (f ∷ fs) (b ∷ bs) h = ((λ e. free-grown n other g s f (h.0 e)), clear-all-grown n other g s fs bs h.1)

  module _ (types : List ObcType) where
    spelling-good : (t : FlatTy) (value : ℕ) (n : FlatNode) → IsSound n → past ≤ length n.variables → Good n value → AllByRecursion (Good (with_spelling types t value n).node) (with_spelling types t value n).bits
    spelling-good ty.Bool value n s high g = (g, tt)
    spelling-good ty.Int value n s high g = tt
    spelling-good (ty.Enum t) value n s high g =
        let count = count_of types (ty.Enum t) in
        let m = with_each (with_test t value) count n in
        let T = gets-tests t value count n g.0 in
        let long = T.1 in
        let names = range_with_len (next_variable n) count in
        bits-good names (width_of count) m (gets-sound n m T.0 s) (omega (arith, high, long)) (each_range (Good m) (next_variable n) count (tests-good t value count n s high g))

    -- ---- lifting

    -- equations of the cases of a step
    cases-are : (n : FlatNode) (t : FlatTy) (clock : Clock) (step : ℕ × ℕ) (value : ℕ) → AllByRecursion (Good n) (clock_variables clock) → Good n step.0 → Good n value → (count : ℕ)
        → (more : List FlatEqn) × ((with_cases (length n.variables) t clock step value count (with_variable t n)).eqns ≡ n.eqns ++ more) × AllByRecursion (Defines n) more
    cases-are n t clock step value c s v zero = ([], same-eqns t n ∙ sym (append-nil n.eqns), tt)
    cases-are n t clock step value c s v (suc k) =
        let rest = cases-are n t clock step value c s v k in
        let e = case_eqn (length n.variables) t clock step value k in
        let m = with_cases (length n.variables) t clock step value k (with_variable t n) in
        let arg = (if k == step.1 then Read value else Fixed (some_value t)) ∷ [] in
        let read : AllByRecursion (Good n) (reads e) = both (Good n) (clock_variables (clock ++ (step.0, k) ∷ [])) (flat_map atom_variables arg) (step-all (Good n) clock (step.0, k) c s) (by (k == step.1)) in
        (rest.0 ++ e ∷ [], one-behind e m ∙ ap (λ es. es ++ e ∷ []) rest.1 ∙ append_assoc n.eqns rest.0 (e ∷ []), both (Defines n) rest.0 (e ∷ []) rest.2 (((omega arith, tt), read), tt))
      where
        by : (b : Bool) → AllByRecursion (Good n) (flat_map atom_variables ((if b then Read value else Fixed (some_value t)) ∷ []))
        by true = (v, tt)
        by false = tt

    lifted-good : (steps clock : Clock) (x : ℕ) (n : FlatNode) → IsSound n → past ≤ length n.variables → Good n x → AllByRecursion (Good n) (clock_variables clock) → AllByRecursion (Good n) (clock_variables steps) → Good (lifted types clock steps x n).node (lifted types clock steps x n).value
    lifted-good [] clock x n s high g c d = g
    lifted-good (step ∷ steps) clock x n s high g c d =
        let low = λ (xs : List ℕ) (h : AllByRecursion (Good n) xs). each_other (Good n) (λ y. y < length n.variables) (λ y k. k.0) xs h in
        let on = step-all (Good n) clock step c d.0 in
        let inner = lifted types (clock ++ step ∷ []) steps x n in
        let m = inner.node in
        let first = gets-lifted types steps (clock ++ step ∷ []) x n (low (clock_variables (clock ++ step ∷ [])) on) (low (clock_variables steps) d.1) g.0 in
        let gets : Gets n m = first.gets in
        let long = gets.longer in
        let sm = gets-sound n m gets s in
        let value = lifted-good steps (clock ++ step ∷ []) x n s high g on d.1 in
        let cm = all-grown n m gets s (clock_variables clock) c in
        let dm = good-grown n m gets s step.0 d.0 in
        let t = type_at m inner.value in
        let count = count_of types (type_at m step.0) in
        let cases = cases-are m t clock step inner.value cm dm value count in
        let all = gets-cases m t clock step inner.value (each_other (Good m) (λ y. y < length m.variables) (λ y k. k.0) (clock_variables clock) cm) dm.0 value.0 count in
        let more = all.1 in
        (omega (arith, more), new-clear m (with_step types clock step inner.value m) cases.0 cases.1 sm (omega (arith, high, long)) cases.2 (next_variable m) (omega arith))

    -- ---- places

    -- where a free place is clear, so is its clock, since the equation reads that
    clock-good : (n : FlatNode) (f : Free) → IsSound n → IsClearFree n f → AllByRecursion (Good n) (clock_variables (clock_of n f.eqn))
    clock-good n f s h = by h.1
      where
        by : (f.eqn ≡ None) ⊎ IsStanding n f → AllByRecursion (Good n) (clock_variables (clock_of n f.eqn))
        by (inl e) = subst (λ o. AllByRecursion (Good n) (clock_variables (clock_of n o))) (sym e) tt
        by (inr e) =
            let d : FlatEqn = e.1 in
            let there = at_contained n.eqns e.0 d e.3 in
            let clock = clock_variables d.clock in
            let rest = d.restart ++ right_reads d.right in
            let low = (among (λ (z : FlatEqn). AreBelow (length n.variables) z.targets × AreBelow (length n.variables) (reads z)) n.eqns d s.below there).1 in
            let all : AllByRecursion (Good n) clock =
            each_other (Contains clock) (Good n) (λ y c. let r = Contains-append_left clock rest y c in (among (λ x. x < length n.variables) (reads d) y low r, clear-read n.eqns f.variable y (d, there, e.4, r) h.0.1)) clock
            (recursion_from_All (Contains clock) clock (All-contains_itself clock)) in
            subst (λ o. AllByRecursion (Good n) (clock_variables (clock_of n o))) (sym e.2) (subst (λ (u : Option FlatEqn). AllByRecursion (Good n) (clock_variables (clock_by u))) (sym e.3) all)

    place-good : (f : Free) (n : FlatNode) → IsSound n → past ≤ length n.variables → IsClearFree n f → AllByRecursion (Good (spelled_place types f n).node) (spelled_place types f n).bits
    place-good f n s high h =
        let on = clock_of n f.eqn in
        let value = lifted types [] on f.variable n in
        let clock = clock-good n f s h in
        let first = gets-lifted types on [] f.variable n tt (each_other (Good n) (λ y. y < length n.variables) (λ y k. k.0) (clock_variables on) clock) h.0.0 in
        let gets : Gets n value.node = first.gets in
        let long = gets.longer in
        spelling-good (type_at value.node value.value) value.value value.node (gets-sound n value.node gets s) (omega (arith, high, long)) (lifted-good on [] f.variable n s high h.0 tt clock)

    placed-good : (f : Free) (b : Bool) (w : Watched) → IsSound w.node → past ≤ length w.node.variables → (b ≡ true → IsClearFree w.node f) → Gets w.node (with_place types f b w).node → AllByRecursion (Good w.node) w.early
        → AllByRecursion (Good (with_place types f b w).node) (with_place types f b w).early
    placed-good f true w s high h g e = both (Good (spelled_place types f w.node).node) w.early (spelled_place types f w.node).bits (all-grown w.node (spelled_place types f w.node).node g s w.early e) (place-good f w.node s high (h refl))
    placed-good f false w s high h g e = all-grown w.node (spelled_place types f w.node).node g s w.early e

    pub places-good : (k : ℕ) (fs : List Free) (bs : List Bool) (w : Watched) → k ≤ length w.node.variables → FreeBelow k fs → IsSound w.node → past ≤ length w.node.variables → AreClear w.node fs bs → AllByRecursion (Good w.node) w.early
        → AllByRecursion (Good (with_places types fs bs w).node) (with_places types fs bs w).early
    places-good k [] bs w l h s high a e = e
    places-good k (f ∷ fs) [] w l h s high a e = e
    places-good k (f ∷ fs) (b ∷ bs) w l h s high a e =
        let low = h.0 in
        let g = place-gets types f b w (omega (arith, low, l)) s in
        let more = g.longer in
        let next = with_place types f b w in
        places-good k fs bs next (omega (arith, l, more)) h.1 (gets-sound w.node next.node g s) (omega (arith, high, more)) (clear-all-grown w.node next.node g s fs bs a.1) (placed-good f b w s high a.0 g e)
