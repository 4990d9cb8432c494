-- Where equations of the node that chooses read each other in a circle, an early bit waits for the choice.
use Rattle.std.proofs.Common.{◌≡◌, ◌⊎◌, inl, inr, ℕ, zero, suc, ◌+◌, ◌-◌, ◌<◌, ◌≤◌, Bool, true, false, nat_lt, List, [], ◌∷◌, ◌++◌, length, refl, sym, ap, subst, ◌∙◌, arith}
use Rattle.std.specs.Prelude.{All, Contains}
use Rattle.std.specs.List.{AllByRecursion, flat_map, range_with_len}
use Rattle.std.proofs.lemmas.Bool.Decides.{nat_tests}
use Rattle.std.proofs.lemmas.List.{length-append}
use Rattle.std.proofs.lemmas.List.Elements.{All-contains_itself, All-from_recursion, Contains-append_left, recursion_from_All}
use Rattle.std.proofs.lemmas.List.FromFn.{length-map-range_with_len}
use Rattle.hp_boolx.specs.Machine.{Machine}
use Rattle.hp_obc.specs.declared.command.ObcOp.TheVariants.{Copy}
use Rattle.hp_flat.specs.declared.equation.Atom.{Atom}
use Rattle.hp_flat.specs.declared.equation.Atom.TheVariants.{Variable as Read, Value as Fixed}
use Rattle.hp_flat.specs.declared.node.FlatTy.TheVariants.{Bool as Truth}
use Rattle.hp_flat.specs.Equations.{Clock, Right, operator, register, called, FlatEqn}
use Rattle.hp_flat.specs.Nodes.{FlatNode}
use Rattle.law_equations.specs.Meaning.Fitting.{atom_variables, operands}
use Rattle.law_equations.specs.Meaning.Scheduling.{AreBelow, clock_variables, EqnWithin, reads}
use Rattle.hp_complete.specs.Ranges as ranges
use Rattle.hp_abstract.specs.declared.abstracted.Abstraction.{Abstraction}
use Rattle.hp_watch.specs.Adding.{next_variable, operator_eqn, with_copy, with_eqn, with_variable}
use Rattle.hp_watch.specs.Watching.{Watched}
use Rattle.hp_controller.specs.declared.decoding.Control.{Control}
use Rattle.hp_controller.specs.Controllers.{added_variable}
use Rattle.hp_controller.specs.Controlled.{bit_variables, bits_added, decoded_controls, placing_of}
use Rattle.hp_controller.specs.Decoding.{Decoded}
use Rattle.hp_controller.specs.Gates.{gate_eqns}
use Rattle.hp_controller.specs.Steps.{asking_eqn, control_places, places, Placing, register_eqns, register_places, step_eqns}
use Rattle.hp_controlled.specs.Choosing.{asking, controller_name, first_gate, telling}
use Rattle.hp_controlled.specs.Lacking.{HasCircularEqns}
use Rattle.law_choices.specs.Depending.Dependence.{DependsOn, EquationChain, IsReadFor}
use Rattle.law_choices.proofs.AddingLemmas.Adding.{both}
use Rattle.law_choices.proofs.AddingLemmas.Rows.{each_range}
use Rattle.law_choices.proofs.AddingLemmas.Steps.{among, higher}
use Rattle.law_choices.proofs.ClosedLemmas.ClosedLaws.{each_other, first_one, later_one}
use Rattle.law_controlled.specs.Early.{CanAsk, CircleLaw, controls_in, WaitsForChoice}
use Rattle.law_controlled.proofs.AskingLaws.{controls-count, controls-rows, Decodes, gates-rows, IsRow, MayRead, question-reads, registers-rows}
use Rattle.law_controlled.proofs.EmbeddedLaws.{reads-below}
use Rattle.law_controlled.proofs.RisingLaws.{operator-longer}
use Rattle.law_controlled.proofs.StraightLaws.{circle_depends, depends-behind, depends-both, depends-read}

-- ---- numbers

within-more : (j k : ℕ) → j ≤ k → (e : FlatEqn) → EqnWithin j e → EqnWithin k e
within-more j k l e w = record { targets = higher j k l e.targets w.targets; clock = higher j k l (clock_variables e.clock) w.clock; operands = higher j k l (operands e.right) w.operands; restart = higher j k l e.restart w.restart }

-- the same in the words of the order of equations
module _ (k : ℕ) where
  clock-ranges : (c : Clock) → AreBelow k (clock_variables c) → AllByRecursion (λ (s : ℕ × ℕ). s.0 < k) c
  clock-ranges [] h = tt
  clock-ranges (s ∷ c) h = (h.0, clock-ranges c h.1)

  atoms-ranges : (args : List Atom) → AreBelow k (flat_map atom_variables args) → AllByRecursion (ranges.AtomWithin k) args
  atoms-ranges [] h = tt
  atoms-ranges (Read x ∷ args) h = (h.0, atoms-ranges args h.1)
  atoms-ranges (Fixed v ∷ args) h = (tt, atoms-ranges args h)

  right-ranges : (r : Right) → AreBelow k (operands r) → ranges.RightWithin k r
  right-ranges (operator op args) h = All-from_recursion (ranges.AtomWithin k) args (atoms-ranges args h)
  right-ranges (register first (Read x)) h = h.0
  right-ranges (register first (Fixed v)) h = tt
  right-ranges (called f args) h = All-from_recursion (ranges.AtomWithin k) args (atoms-ranges args h)

  eqn-ranges : (e : FlatEqn) → EqnWithin k e → ranges.EqnWithin k e
  eqn-ranges e w = record {
    targets = All-from_recursion (λ x. x < k) e.targets w.targets;
    clock = All-from_recursion (λ (s : ℕ × ℕ). s.0 < k) e.clock (clock-ranges e.clock w.clock);
    right = right-ranges e.right w.operands;
    restart = All-from_recursion (λ x. x < k) e.restart w.restart;
  }

copy-eqns : (x : ℕ) (n : FlatNode) → (with_copy x n).eqns ≡ n.eqns ++ operator_eqn (next_variable n) [] Copy (Read x ∷ []) ∷ []
unfolding with_variable with_eqn
copy-eqns x n = refl

-- a number of a row
in_range : (low many x : ℕ) → low ≤ x → x < low + many → Contains (range_with_len low many) x
in_range low zero x l u = absurd (omega (arith, l, u))
in_range low (suc many) x l u = by (nat_lt low x) refl (λ m. in_range (low + 1) many x m (omega (arith, u)))
  where
    by : (b : Bool) → nat_lt low x ≡ b → (low + 1 ≤ x → Contains (range_with_len (low + 1) many) x) → Contains (range_with_len low (suc many)) x
    by true e rest = later_one low x (range_with_len (low + 1) many) (rest (grind (arith, nat_tests, e)))
    by false e rest = let same : low ≡ x = grind (arith, nat_tests, e, l) in subst (λ y. Contains (low ∷ range_with_len (low + 1) many) y) same (first_one low (range_with_len (low + 1) many))

-- ---- the node that chooses

module _ (f : List ℕ) (w : Watched) (a : Abstraction) (controls : List Control) (can : CanAsk w a controls) where
  abbrev m : Machine
  m = a.machine

  abbrev V : ℕ
  V = length w.node.variables

  abbrev bits : ℕ
  bits = V + m.registers

  abbrev gates : ℕ
  gates = V + m.registers + m.control

  abbrev from : ℕ
  from = V + bits_added m

  abbrev past : ℕ
  past = w.node.inputs

  abbrev first : ℕ
  first = past - length controls

  abbrev made : Decoded
  made = decoded_controls w.node m controls

  abbrev end : ℕ
  end = made.next

  abbrev ask : FlatNode
  ask = asking f w a controls

  abbrev assumed : FlatNode
  assumed = with_copy (first_gate w m + a.assume) ask

  -- how many variables there are
  count : length ask.variables ≡ end
  count =
      let all = length-append (w.node.variables ++ bit_variables V m) made.variables in
      let bit = length-append w.node.variables (bit_variables V m) in
      let long = length-map-range_with_len (λ x. added_variable x Truth) V (bits_added m) in
      let more = controls-count first bits from controls in
      omega (arith, all, bit, long, more)

  more : from ≤ end
  more = let c = controls-count first bits from controls in omega (arith, c)

  few : past ≤ V
  few = let i = can.within in i.inputs

  abbrev L : ℕ
  L = suc (suc end)

  -- ---- what an equation may read

  -- a register, a bit of the choice, or a choice in a tree
  abbrev Inner : ℕ → Type 0
  Inner y = ((V ≤ y) × (y < gates)) ⊎ ((from ≤ y) × (y < end))

  abbrev IsControl : ℕ → Type 0
  IsControl x = (first ≤ x) × (x < past)

  abbrev IsLow : ℕ → Type 0
  IsLow x = Inner x ⊎ IsControl x

  -- a gate, or a copy of one
  abbrev IsHigh : ℕ → Type 0
  IsHigh x = ((gates ≤ x) × (x < from)) ⊎ (end ≤ x)

  -- the one reads early bits and what stands before it, the other all that stands before it
  abbrev Other : ℕ → ℕ → Type 0
  Other x y = (IsLow x × (Contains w.early y ⊎ (Inner y × ((x < V) ⊎ (y < x))))) ⊎ (IsHigh x × (y < x))

  abbrev Kind : FlatEqn → Type 0
  Kind e = Contains w.node.eqns e ⊎ AllByRecursion (λ x. AllByRecursion (Other x) (reads e)) e.targets

  abbrev Full : FlatEqn → Type 0
  Full e = Kind e × EqnWithin L e

  row_full : (low high k : ℕ) (P : ℕ → ℕ → Type 0) (e : FlatEqn) → k ≤ L → ((x : ℕ) → low ≤ x → x < high → (y : ℕ) → P x y → Other x y) → IsRow low high k P e → Full e
  row_full low high k P e l g r =
      (inr (subst (λ ts. AllByRecursion (λ x. AllByRecursion (Other x) (reads e)) ts) (sym r.is) (each_other (P r.target) (Other r.target) (g r.target r.above r.below) (reads e) r.read, tt)), within-more k L l e r.within)

  own_full : AllByRecursion Full w.node.eqns
  own_full =
      let i = can.within in
      let m = more in
      let all = recursion_from_All (Contains w.node.eqns) w.node.eqns (All-contains_itself w.node.eqns) in
      each_both_full w.node.eqns all i.eqns
    where
      low : V ≤ L
      low = let m = more in omega (arith, m)

      each_both_full : (es : List FlatEqn) → AllByRecursion (Contains w.node.eqns) es → AllByRecursion (EqnWithin V) es → AllByRecursion Full es
      each_both_full [] h g = tt
      each_both_full (e ∷ es) h g = ((inl h.0, within-more V L low e g.0), each_both_full es h.1 g.1)

  abbrev p : Placing
  p = placing_of V m w.early w.late

  abbrev question : FlatEqn
  question = asking_eqn (controller_name f) (register_places m p ++ w.early) p.control m.control

  abbrev drawn : List FlatEqn
  drawn = gate_eqns (places m p) p.gates 0 m.gates

  registers_full : AllByRecursion Full (register_eqns p.registers p.gates (length m.gates) m.init m.next)
  registers_full =
      let few = can.registers in
      let e = more in
      each_other (IsRow V bits from (λ x y. ⊥)) Full (λ d h. row_full V bits from (λ x y. ⊥) d (omega (arith, e)) (λ x l u y no. absurd no) h) (register_eqns p.registers p.gates (length m.gates) m.init m.next)
      (registers-rows V p.gates (length m.gates) bits from m.init m.next (omega arith) (omega (arith, few)) (omega arith))

  -- a place that the question reads
  asked : ℕ → Type 0
  asked y = ((V ≤ y) × (y < bits)) ⊎ Contains w.early y

  all_asked : AllByRecursion (λ y. ((V ≤ y) × (y < bits)) ⊎ Contains w.early y) (register_places m p ++ w.early)
  all_asked =
      let P : ℕ → Type 0 = λ y. ((V ≤ y) × (y < bits)) ⊎ Contains w.early y in
      both P (register_places m p) w.early (each_range P V m.registers (λ x l u. inl (l, u)))
      (each_other (Contains w.early) P (λ y c. inr c) w.early (recursion_from_All (Contains w.early) w.early (All-contains_itself w.early)))

  question_full : Full question
  question_full =
      let args = register_places m p ++ w.early in
      let P : ℕ → Type 0 = λ y. ((V ≤ y) × (y < bits)) ⊎ Contains w.early y in
      let e = more in
      let Q : ℕ → Type 0 = λ y. y < L in (
        inr (each_range (λ x. AllByRecursion (Other x) (reads question)) bits m.control (λ x l u. question-reads (Other x) args (each_other P (Other x) (λ y h. one x l u y h) args all_asked))),
        record {
          targets = each_range Q bits m.control (λ x l u. omega (arith, u, e));
          clock = tt;
          operands = question-reads Q args (both Q (register_places m p) w.early (each_range Q V m.registers (λ x l u. omega (arith, u, e))) (higher V L (omega (arith, e)) w.early can.early));
          restart = tt;
        },
      )
    where
      one : (x : ℕ) → bits ≤ x → x < bits + m.control → (y : ℕ) → ((V ≤ y) × (y < bits)) ⊎ Contains w.early y → Other x y
      one x l u y (inl h) = let s = h.1 in inl (inl (inl (omega (arith, l), omega (arith, u))), inr (inl (h.0, omega (arith, s)), inr (omega (arith, s, l))))
      one x l u y (inr c) = inl (inl (inl (omega (arith, l), omega (arith, u))), inl c)

  drawn_full : AllByRecursion Full drawn
  drawn_full =
      let Q : ℕ → Type 0 = λ y. y < gates in
      let e = more in
      let all : AllByRecursion Q (places m p) =
      both Q (register_places m p) (w.early ++ (control_places m p ++ w.late)) (each_range Q V m.registers (λ x l u. omega (arith, u)))
      (both Q w.early (control_places m p ++ w.late) (higher V gates (omega arith) w.early can.early)
      (both Q (control_places m p) w.late (each_range Q bits m.control (λ x l u. omega (arith, u))) (higher V gates (omega arith) w.late can.late))) in
      each_other (IsRow gates from from (λ x y. y < x)) Full (λ d h. row_full gates from from (λ x y. y < x) d (omega (arith, e)) (λ x l u y less. inr (inl (l, u), less)) h) drawn
      (gates-rows (places m p) gates 0 m.gates from from all (omega arith) (omega arith))

  decoded_full : AllByRecursion Full made.eqns
  decoded_full =
      let l = few in
      let e = more in
      let wide = can.widths in
      let taken = can.few in
      each_other (Decodes first past bits gates from end end) Full (λ d h. decodes_full d h) made.eqns
      (controls-rows first past bits gates from end end (omega (arith, l)) (omega arith) (omega arith) (omega (arith, e)) first bits from controls can.bits (omega arith) (omega (arith, taken)) (omega arith) (omega (arith, wide)) (omega arith) (omega arith))
    where
      read_in : (x : ℕ) → ((first ≤ x) × (x < past)) ⊎ ((from ≤ x) × (x < end)) → (y : ℕ) → MayRead first past bits gates from end end x y → Other x y
      read_in x (inl h) y (inl b) =
          let u = h.1 in
          let l = few in
          let s = b.0 in
          inl (inr h, inr (inl (omega (arith, s), b.1), inl (omega (arith, u, l))))
      read_in x (inl h) y (inr b) =
          let u = h.1 in
          let l = few in
          inl (inr h, inr (inr (b.0, b.1), inl (omega (arith, u, l))))
      read_in x (inr h) y (inl b) =
          let s = b.0 in
          let u = b.1 in
          let l = h.0 in
          inl (inl (inr h), inr (inl (omega (arith, s), u), inr (omega (arith, u, l))))
      read_in x (inr h) y (inr b) = inl (inl (inr h), inr (inr (b.0, b.1), by b.2))
        where
          by : (x < from) ⊎ (y < x) → (x < V) ⊎ (y < x)
          by (inl l) = let q = h.0 in absurd (omega (arith, l, q))
          by (inr l) = inr l

      decodes_full : (d : FlatEqn) → Decodes first past bits gates from end end d → Full d
      decodes_full d h = (
        inr (subst (λ ts. AllByRecursion (λ x. AllByRecursion (Other x) (reads d)) ts) (sym h.is) (each_other (MayRead first past bits gates from end end h.target) (Other h.target) (read_in h.target h.stands) (reads d) h.read, tt)),
        within-more end L (omega arith) d h.within,
      )

  -- ---- all equations

  abbrev one : FlatEqn
  one = operator_eqn (next_variable ask) [] Copy (Read (first_gate w m + a.assume) ∷ [])

  abbrev other : FlatEqn
  other = operator_eqn (next_variable assumed) [] Copy (Read (first_gate w m + a.enforce) ∷ [])

  abbrev T : List FlatEqn
  T = (telling f w a controls).node.eqns

  abbrev steps : List FlatEqn
  steps = step_eqns m p (controller_name f)

  are : T ≡ (((w.node.eqns ++ steps) ++ made.eqns) ++ one ∷ []) ++ other ∷ []
  are = copy-eqns (first_gate w m + a.enforce) assumed ∙ ap (λ es. es ++ other ∷ []) (copy-eqns (first_gate w m + a.assume) ask)

  copy_full : (x gate : ℕ) → end ≤ x → x < L → gate < length m.gates → Full (operator_eqn x [] Copy (Read (gates + gate) ∷ []))
  copy_full x gate l u g =
      let e = more in
      (inr (((inr (inr l, omega (arith, l, g, e)), tt), tt)), record { targets = (u, tt); clock = tt; operands = (omega (arith, g, e), tt); restart = tt })

  assumed_count : length assumed.variables ≡ suc end
  assumed_count = operator-longer Truth Copy (Read (first_gate w m + a.assume) ∷ []) ask ∙ ap suc count

  total : length (telling f w a controls).node.variables ≡ L
  total = operator-longer Truth Copy (Read (first_gate w m + a.enforce) ∷ []) assumed ∙ ap suc assumed_count

  all_full : AllByRecursion Full T
  all_full =
      let c = count in
      let d = assumed_count in
      let base = w.node.eqns ++ steps in
      let first_ones = both Full w.node.eqns steps own_full (both Full (register_eqns p.registers p.gates (length m.gates) m.init m.next) (question ∷ drawn) registers_full (question_full, drawn_full)) in
      let second_ones = both Full base made.eqns first_ones decoded_full in
      let third_ones = both Full (base ++ made.eqns) (one ∷ []) second_ones (copy_full (next_variable ask) a.assume (omega (arith, c)) (omega (arith, c)) can.assume, tt) in
      subst (AllByRecursion Full) (sym are) (both Full ((base ++ made.eqns) ++ one ∷ []) (other ∷ []) third_ones (copy_full (next_variable assumed) a.enforce (omega (arith, d)) (omega (arith, d)) can.enforce, tt))

  in_ranges : All (ranges.EqnWithin (length (telling f w a controls).node.variables)) T
  in_ranges =
      subst (λ k. All (ranges.EqnWithin k) T) (sym total)
      (All-from_recursion (ranges.EqnWithin L) T (each_other Full (ranges.EqnWithin L) (λ e h. eqn-ranges L e h.1) T all_full))

  -- ---- what is read

  -- a read among the own equations, or among the others
  read_is : (v y : ℕ) → IsReadFor T v y → IsReadFor w.node.eqns v y ⊎ Other v y
  read_is v y r = by (among Full T r.0 all_full r.1).0
    where
      by : Kind r.0 → IsReadFor w.node.eqns v y ⊎ Other v y
      by (inl c) = inl (r.0, c, r.2, r.3)
      by (inr h) = inr (among (Other v) (reads r.0) y (among (λ x. AllByRecursion (Other x) (reads r.0)) (r.0).targets v h r.2) r.3)

  -- own equations define and read variables of the node, and define no input
  own_read : (v y : ℕ) → IsReadFor w.node.eqns v y → (past ≤ v) × (v < V) × (y < V)
  own_read v y r =
      let i = can.within in
      let e = among (EqnWithin V) w.node.eqns r.0 i.eqns r.1 in (
        among (λ x. past ≤ x) (r.0).targets v (among (λ (e : FlatEqn). AllByRecursion (λ x. past ≤ x) e.targets) w.node.eqns r.0 can.no_inputs r.1) r.2,
        among (λ x. x < V) (r.0).targets v e.targets r.2,
        among (λ x. x < V) (reads r.0) y (reads-below V r.0 e) r.3,
      )

  -- an own read is one of all
  in_all : (v y : ℕ) → IsReadFor w.node.eqns v y → IsReadFor T v y
  in_all v y r =
      let es = w.node.eqns in
      let c = Contains-append_left (((es ++ steps) ++ made.eqns) ++ one ∷ []) (other ∷ []) r.0 (Contains-append_left ((es ++ steps) ++ made.eqns) (one ∷ []) r.0 (Contains-append_left (es ++ steps) made.eqns r.0 (Contains-append_left es steps r.0 r.1))) in
      (r.0, subst (λ es. Contains es r.0) (sym are) c, r.2, r.3)

  depends_in_all : (v y : ℕ) (vs : List ℕ) → EquationChain w.node.eqns v vs y → DependsOn T v y
  depends_in_all v y [] c = depends-read T v y (in_all v y c)
  depends_in_all v y (u ∷ us) c = depends-behind T v u y (in_all v u c.0) (depends_in_all u y us c.1)

  -- ---- circles

  -- a circle from a variable on would give what is wanted
  abbrev Good : ℕ → Type 0
  Good v = DependsOn T v v → WaitsForChoice w controls

  -- so it is where it would of all that is read
  good_step : (v : ℕ) → ((y : ℕ) → IsReadFor T v y → Good y) → Good v
  good_step v g c = by c.0 c.1
    where
      by : (vs : List ℕ) → EquationChain T v vs v → WaitsForChoice w controls
      by [] r = g v r ([], r)
      by (y ∷ ys) r = g y r.0 (depends-both T y v y (ys, r.1) (depends-read T v y r.0))

  -- ---- chains in the node that is watched

  -- a variable is a control variable, or depends on one in the node that is watched; this one depends on the end
  Meets : ℕ → ℕ → Type 0
  Meets v last = (c : ℕ) × IsControl c × ((v ≡ c) ⊎ DependsOn w.node.eqns v c) × DependsOn T c last

  meets_later : (v y last : ℕ) → IsReadFor w.node.eqns v y → Meets y last → Meets v last
  unfolding Meets
  meets_later v y last r h = (h.0, h.1, inr (by h.2), h.3)
    where
      by : (y ≡ h.0) ⊎ DependsOn w.node.eqns y h.0 → DependsOn w.node.eqns v h.0
      by (inl e) = depends-read w.node.eqns v h.0 (subst (IsReadFor w.node.eqns v) e r)
      by (inr d) = depends-behind w.node.eqns v y h.0 r d

  -- what reads otherwise and is a variable of the node is a control variable
  other_control : (v y : ℕ) → v < V → Other v y → IsControl v
  other_control v y l (inl (inl (inl h), b)) = let g = h.0 in absurd (omega (arith, g, l))
  other_control v y l (inl (inl (inr h), b)) = let g = h.0 in absurd (omega (arith, g, l))
  other_control v y l (inl (inr h, b)) = h
  other_control v y l (inr (inl h, b)) = let g = h.0 in absurd (omega (arith, g, l))
  other_control v y l (inr (inr h, b)) = let e = more in absurd (omega (arith, h, l, e))

  split : (v : ℕ) (vs : List ℕ) (last : ℕ) → v < V → EquationChain T v vs last → EquationChain w.node.eqns v vs last ⊎ Meets v last
  unfolding Meets
  split v [] last l c = by (read_is v last c)
    where
      by : IsReadFor w.node.eqns v last ⊎ Other v last → IsReadFor w.node.eqns v last ⊎ Meets v last
      by (inl r) = inl r
      by (inr o) = inr (v, other_control v last l o, inl refl, ([], c))
  split v (y ∷ ys) last l c = by (read_is v y c.0) (λ below. split y ys last below c.1)
    where
      rest : (r : IsReadFor w.node.eqns v y) → EquationChain w.node.eqns y ys last ⊎ Meets y last → EquationChain w.node.eqns v (y ∷ ys) last ⊎ Meets v last
      rest r (inl d) = inl (r, d)
      rest r (inr h) = inr (meets_later v y last r h)

      by : IsReadFor w.node.eqns v y ⊎ Other v y → (y < V → EquationChain w.node.eqns y ys last ⊎ Meets y last) → EquationChain w.node.eqns v (y ∷ ys) last ⊎ Meets v last
      by (inl r) next = rest r (next (own_read v y r).2)
      by (inr o) next = inr (v, other_control v y l o, inl refl, (y ∷ ys, c))

  -- ---- early bits

  early_good : (v : ℕ) → Contains w.early v → Good v
  unfolding Meets
  early_good v is c = by (split v c.0 v (among (λ x. x < V) w.early v can.early is) c.1)
    where
      by : EquationChain w.node.eqns v c.0 v ⊎ Meets v v → WaitsForChoice w controls
      by (inl d) = absurd (can.straight v (c.0, d))
      by (inr h) = record { early = v; bit = is; control = h.0; chosen = numbered h.1; waits = other_one h.1 h.2 }
        where
          numbered : IsControl h.0 → Contains (controls_in w controls) h.0
          numbered there =
              let l = there.0 in
              let u = there.1 in
              let taken = can.few in
              in_range first (length controls) h.0 l (omega (arith, u, taken))

          -- it is no controllable variable itself
          clear : IsControl h.0 → v ≡ h.0 → (v < first) ⊎ (past ≤ v) → ⊥
          clear there e (inl b) = let l = there.0 in omega (arith, e, b, l)
          clear there e (inr b) = let u = there.1 in omega (arith, e, b, u)

          other_one : IsControl h.0 → (v ≡ h.0) ⊎ DependsOn w.node.eqns v h.0 → DependsOn w.node.eqns v h.0
          other_one there (inl e) = absurd (clear there e (among (λ x. (x < first) ⊎ (past ≤ x)) w.early v can.apart is))
          other_one there (inr d) = d

  -- ---- registers, bits of the choice, and control variables

  above : (v : ℕ) → Inner v → V ≤ v
  above v (inl h) = h.0
  above v (inr h) = let g = h.0 in omega (arith, g)

  clash : (v : ℕ) → IsLow v → IsHigh v → ⊥
  clash v (inl (inl h)) (inl g) = let u = h.1 in let l = g.0 in omega (arith, u, l)
  clash v (inl (inl h)) (inr g) = let u = h.1 in let e = more in omega (arith, u, g, e)
  clash v (inl (inr h)) (inl g) = let l = h.0 in let u = g.1 in omega (arith, u, l)
  clash v (inl (inr h)) (inr g) = let u = h.1 in omega (arith, u, g)
  clash v (inr h) (inl g) = let u = h.1 in let l = g.0 in let b = few in omega (arith, u, l, b)
  clash v (inr h) (inr g) = let u = h.1 in let b = few in let e = more in omega (arith, u, g, b, e)

  -- what an inner variable reads is an early bit, or an inner variable before it
  inner_next : (v : ℕ) → Inner v → ((y : ℕ) → y < v → Inner y → Good y) → (y : ℕ) → IsReadFor w.node.eqns v y ⊎ Other v y → Good y
  inner_next v i rest y (inl r) = let o = own_read v y r in let u = o.1 in let g = above v i in absurd (omega (arith, u, g))
  inner_next v i rest y (inr (inl (low, inl c))) = early_good y c
  inner_next v i rest y (inr (inl (low, inr (j, inl l)))) = let g = above v i in absurd (omega (arith, l, g))
  inner_next v i rest y (inr (inl (low, inr (j, inr l)))) = rest y l j
  inner_next v i rest y (inr (inr (high, l))) = absurd (clash v (inl i) high)

  inner_good : (k v : ℕ) → v < k → Inner v → Good v
  inner_good zero v l i = absurd (omega (arith, l))
  inner_good (suc k) v l i = good_step v (λ y r. inner_next v i (λ z u j. inner_good k z (omega (arith, l, u)) j) y (read_is v y r))

  control_next : (v : ℕ) → IsControl v → (y : ℕ) → IsReadFor w.node.eqns v y ⊎ Other v y → Good y
  control_next v i y (inl r) = let o = own_read v y r in let l = o.0 in let u = i.1 in absurd (omega (arith, l, u))
  control_next v i y (inr (inl (low, inl c))) = early_good y c
  control_next v i y (inr (inl (low, inr (j, before)))) = inner_good (suc y) y (omega arith) j
  control_next v i y (inr (inr (high, l))) = absurd (clash v (inr i) high)

  control_good : (v : ℕ) → IsControl v → Good v
  control_good v i = good_step v (λ y r. control_next v i y (read_is v y r))

  -- ---- all others

  own_good : (v : ℕ) → v < V → Good v
  unfolding Meets
  own_good v l c = by (split v c.0 v l c.1)
    where
      back : (x : ℕ) → (v ≡ x) ⊎ DependsOn w.node.eqns v x → DependsOn T x v → DependsOn T x x
      back x (inl e) d = subst (DependsOn T x) e d
      back x (inr g) d = depends-both T x v x d (depends_in_all v x g.0 g.1)

      by : EquationChain w.node.eqns v c.0 v ⊎ Meets v v → WaitsForChoice w controls
      by (inl d) = absurd (can.straight v (c.0, d))
      by (inr h) = control_good h.0 h.1 (back h.0 h.2 h.3)

  high_next : (v : ℕ) → IsHigh v → V ≤ v → ((y : ℕ) → y < v → Good y) → (y : ℕ) → IsReadFor w.node.eqns v y ⊎ Other v y → Good y
  high_next v i g rest y (inl r) = let o = own_read v y r in let u = o.1 in absurd (omega (arith, u, g))
  high_next v i g rest y (inr (inl o)) = absurd (clash v o.0 i)
  high_next v i g rest y (inr (inr (high, l))) = rest y l

  stands : (v : ℕ) → (v < V) ⊎ (Inner v ⊎ (IsHigh v × (V ≤ v)))
  stands v = by (nat_lt v V) (nat_lt v gates) (nat_lt v from) (nat_lt v end) refl refl refl refl
    where
      by : (p q r s : Bool) → nat_lt v V ≡ p → nat_lt v gates ≡ q → nat_lt v from ≡ r → nat_lt v end ≡ s → (v < V) ⊎ (Inner v ⊎ (IsHigh v × (V ≤ v)))
      by true q r s a b c d = inl (grind (arith, nat_tests, a))
      by false true r s a b c d = inr (inl (inl (grind (arith, nat_tests, a), grind (arith, nat_tests, b))))
      by false false true s a b c d = inr (inr (inl (grind (arith, nat_tests, b), grind (arith, nat_tests, c)), grind (arith, nat_tests, a)))
      by false false false true a b c d = inr (inl (inr (grind (arith, nat_tests, c), grind (arith, nat_tests, d))))
      by false false false false a b c d = inr (inr (inr (grind (arith, nat_tests, d)), grind (arith, nat_tests, a)))

  any_good : (k v : ℕ) → v < k → Good v
  any_good zero v l = absurd (omega (arith, l))
  any_good (suc k) v l = by (stands v) (λ y u. any_good k y (omega (arith, l, u)))
    where
      by : (v < V) ⊎ (Inner v ⊎ (IsHigh v × (V ≤ v))) → ((y : ℕ) → y < v → Good y) → Good v
      by (inl u) rest = own_good v u
      by (inr (inl i)) rest = inner_good (suc v) v (omega arith) i
      by (inr (inr h)) rest = good_step v (λ y r. high_next v h.0 h.1 rest y (read_is v y r))

  pub waits : HasCircularEqns (telling f w a controls).node → WaitsForChoice w controls
  waits circle = let c = circle_depends T (circle in_ranges) in any_good (suc c.0) c.0 (omega arith) c.1

pub circle_law : CircleLaw
circle_law f w a controls can circle = waits f w a controls can circle
