-- An observer among the equations of a node.
use Rattle.std.proofs.Common.{◌≡◌, ◌⊎◌, inl, inr, ℕ, zero, suc, ◌+◌, ◌-◌, ◌<◌, ◌≤◌, Bool, true, false, ◌||◌, if◌then◌else◌, nat_eq, nat_lt, List, [], ◌∷◌, ◌++◌, length, map, slice_get, Option, Some, refl, sym, ap, ap₂, subst, ◌∙◌, arith}
use Rattle.std.specs.Prelude.{Contains}
use Rattle.std.specs.List.{AllByRecursion, IsDistinct, flat_map, range_with_len}
use Rattle.std.proofs.lemmas.Bool.Decides.{nat_tests}
use Rattle.std.proofs.lemmas.List.{append_assoc, append-nil, length-append, length-map, map-append}
use Rattle.std.proofs.lemmas.List.Elements.{All-contains, All-from_recursion, Contains-append_left, Contains-append_right, Contains-append_cases}
use Rattle.hp_base.specs.Kinds.{KindData, Bools}
use Rattle.hp_obc.specs.Machines.{ObcType}
use Rattle.hp_obc.specs.declared.command.ObcOp.TheVariants.{Copy}
use Rattle.hp_flat.specs.declared.equation.Atom.{Atom}
use Rattle.hp_flat.specs.declared.equation.Atom.TheVariants.{Variable as Read, Value as Fixed}
use Rattle.hp_flat.specs.declared.node.Variable.{Variable}
use Rattle.hp_flat.specs.Equations.{Clock, Right, operator, register, called, FlatEqn}
use Rattle.hp_flat.specs.Nodes.{FlatNode}
use Rattle.law_equations.specs.Meaning.Fitting.{atom_variables, operands}
use Rattle.law_equations.specs.Meaning.Kinding.{Callees, HasArm, HasValue, AtomHasKind, HaveKinds, RightHasKinds, EqnKinds, variable_kind}
use Rattle.law_equations.specs.Meaning.Reactions.{has}
use Rattle.law_equations.specs.Meaning.Scheduling.{clock_variables, AreBelow, EqnWithin}
use Rattle.law_equations.specs.Shaped.Shaped.{Part}
use Rattle.hp_watch.specs.declared.embedding.Shift.{Shift}
use Rattle.hp_watch.specs.declared.watching.Free.{Free}
use Rattle.hp_watch.specs.Watching.{clock_by, clock_of, moved_number, moved_free}
use Rattle.hp_watch.specs.Adding.{type_at, type_of, added_variable, with_variable, with_eqn, operator_eqn}
use Rattle.hp_watch.specs.Growing.{Grows}
use Rattle.hp_watch.specs.Embedding.{Site, moved_all, moved_clock, moved_atom, moved_right, moved_eqn, with_variables, with_inputs, with_moved, with_room, embedded, shift_of}
use Rattle.law_choices.specs.Adding.Adding.{IsWellBuilt, IsNewIn}
use Rattle.law_choices.specs.Adding.Keeping.{IsBased, Keeps}
use Rattle.law_choices.specs.Adding.Lifts.{IsOn, CanStand}
use Rattle.law_choices.specs.Adding.Watched.{IsNumbered, IsFree}
use Rattle.law_choices.specs.Adding.Embeds.{FitsSite, EmbeddedLaw}
use Rattle.law_choices.specs.Closed.Closed.{IsTarget, IsGiven}
use Rattle.law_choices.specs.Closed.Clocking.{IsFrontOf, IsDefinedOn, StepsStand, IsSplit}
use Rattle.law_choices.specs.Closed.Exclusive.{AreParted, Differ}
use Rattle.law_choices.proofs.ClosedLemmas.ClosedLaws.{each_other, each_both, first_one, later_one}
use Rattle.law_choices.proofs.AddingLemmas.Adding.{atom_kind, clock_kinds, restart_kinds, both, differ_where}
use Rattle.law_choices.proofs.AddingLemmas.Steps.{IsStep, stepped, higher, none_among}
use Rattle.law_choices.proofs.AddingLemmas.One.{Behind, nothing-behind, variable-more, eqn-behind, grows-behind}
use Rattle.law_choices.proofs.AddingLemmas.Rows.{InRows, parted_rows}
use Rattle.law_choices.proofs.AddingLemmas.Machine.{kind-behind}
use Rattle.law_wellmade.proofs.PartedLemmas.Expressions.{has-first, has-more}

-- ---- lists

each_map : {A B : Type 0} (P : B → Type 0) (f : A → B) (xs : List A) → AllByRecursion (λ x. P (f x)) xs → AllByRecursion P (map f xs)
each_map P f [] h = tt
each_map P f (x ∷ xs) h = (h.0, each_map P f xs h.1)

module _ {A B : Type 0} (f : A → B) where
  pub map_has : (xs : List A) (x : A) → Contains xs x → Contains (map f xs) (f x)
  map_has [] x h = absurd (omega (arith, h.1))
  map_has (y ∷ xs) x h = by (λ g. map_has xs x g) (Contains-append_cases (y ∷ []) xs x h)
    where
      by : (Contains xs x → Contains (map f xs) (f x)) → Contains (y ∷ []) x ⊎ Contains xs x → Contains (f y ∷ map f xs) (f x)
      by rest (inl g) =
          let same : x ≡ y = All-contains (λ (z : A). z ≡ y) (y ∷ []) x (All-from_recursion (λ (z : A). z ≡ y) (y ∷ []) (refl, tt)) g in
          subst (λ z. Contains (f y ∷ map f xs) z) (sym (ap f same)) (first_one (f y) (map f xs))
      by rest (inr g) = later_one (f y) (f x) (map f xs) (rest g)

-- ---- what stands behind

renamed : ℕ → List Variable → List Variable
renamed from [] = []
renamed from (v ∷ vs) = added_variable from v.ty ∷ renamed (from + 1) vs

unfoldable pub input_eqns : Clock → ℕ → List Atom → List FlatEqn
input_eqns clock target [] = []
input_eqns clock target (a ∷ args) = operator_eqn target clock Copy (a ∷ []) ∷ input_eqns clock (target + 1) args

variables-behind : (vs : List Variable) (n m : FlatNode) (ws : List Variable) (es : List FlatEqn) (from : ℕ) → length m.variables ≡ from → Behind n m ws es → Behind n (with_variables vs m) (ws ++ renamed from vs) es
unfolding renamed with_variable
variables-behind [] n m ws es from e b = subst (λ us. Behind n m us es) (sym (append-nil ws)) b
variables-behind (v ∷ vs) n m ws es from e b =
    let here = added_variable from v.ty in
    let more : Behind n (with_variable v.ty m) (ws ++ here ∷ []) es = subst (λ k. Behind n (with_variable v.ty m) (ws ++ added_variable k v.ty ∷ []) es) e (variable-more v.ty n m ws es b) in
    let size : length (with_variable v.ty m).variables ≡ from + 1 = length-append m.variables (added_variable (length m.variables) v.ty ∷ []) ∙ ap (λ k. k + 1) e in
    subst (λ us. Behind n (with_variables vs (with_variable v.ty m)) us es) (append_assoc ws (here ∷ []) (renamed (from + 1) vs)) (variables-behind vs n (with_variable v.ty m) (ws ++ here ∷ []) es (from + 1) size more)

inputs-behind : (clock : Clock) (args : List Atom) (n m : FlatNode) (vs : List Variable) (es : List FlatEqn) (target : ℕ) → Behind n m vs es → Behind n (with_inputs clock target args m) vs (es ++ input_eqns clock target args)
unfolding input_eqns
inputs-behind clock [] n m vs es target b = subst (λ fs. Behind n m vs fs) (sym (append-nil es)) b
inputs-behind clock (a ∷ args) n m vs es target b =
    let e = operator_eqn target clock Copy (a ∷ []) in
    subst (λ fs. Behind n (with_inputs clock (target + 1) args (with_eqn e m)) vs fs) (append_assoc es (e ∷ []) (input_eqns clock (target + 1) args)) (inputs-behind clock args n (with_eqn e m) vs (es ++ e ∷ []) (target + 1) (eqn-behind n m vs es e b))

moved-behind : (site : Site) (far : ℕ) (ds : List FlatEqn) (n m : FlatNode) (vs : List Variable) (es : List FlatEqn) → Behind n m vs es → Behind n (with_moved site far ds m) vs (es ++ map (moved_eqn site far) ds)
moved-behind site far [] n m vs es b = subst (λ fs. Behind n m vs fs) (sym (append-nil es)) b
moved-behind site far (d ∷ ds) n m vs es b =
    let e = moved_eqn site far d in
    subst (λ fs. Behind n (with_moved site far ds (with_eqn e m)) vs fs) (append_assoc es (e ∷ []) (map (moved_eqn site far) ds)) (moved-behind site far ds n (with_eqn e m) vs (es ++ e ∷ []) (eqn-behind n m vs es e b))

renamed-length : (from : ℕ) (vs : List Variable) → length (renamed from vs) ≡ length vs
unfolding renamed
renamed-length from [] = refl
renamed-length from (v ∷ vs) = ap (λ k. suc k) (renamed-length (from + 1) vs)

renamed-kind : (types : List ObcType) (from : ℕ) (vs : List Variable) (x : ℕ) → variable_kind types (renamed from vs) x ≡ variable_kind types vs x
unfolding renamed
renamed-kind types from [] x = refl
renamed-kind types from (v ∷ vs) zero = refl
renamed-kind types from (v ∷ vs) (suc x) = renamed-kind types (from + 1) vs x

renamed-values : (types : List ObcType) (from : ℕ) (vs : List Variable) → AllByRecursion (λ (v : Variable). HasValue types v.ty) vs → AllByRecursion (λ (v : Variable). HasValue types v.ty) (renamed from vs)
unfolding renamed
renamed-values types from [] h = tt
renamed-values types from (v ∷ vs) h = (h.0, renamed-values types (from + 1) vs h.1)

renamed-type : (from : ℕ) (vs : List Variable) (x : ℕ) → type_of (slice_get (renamed from vs) x) ≡ type_of (slice_get vs x)
unfolding renamed
renamed-type from [] x = refl
renamed-type from (v ∷ vs) zero = refl
renamed-type from (v ∷ vs) (suc x) = renamed-type (from + 1) vs x

-- ---- an observer in a node

module _ (observer : FlatNode) (site : Site) (n : FlatNode) where
  embedded-behind : Behind n (embedded observer site n) (renamed (length n.variables) observer.variables) (input_eqns site.clock (length n.variables) site.inputs ++ map (moved_eqn site (length n.variables)) observer.eqns)
  embedded-behind =
      let V = length n.variables in
      let vs = renamed V observer.variables in
      let named = with_variables observer.variables n in
      let inputs = input_eqns site.clock V site.inputs in
      moved-behind site V observer.eqns n (with_room observer site n) vs inputs (inputs-behind site.clock site.inputs n named vs [] V (variables-behind observer.variables n n [] [] V refl (nothing-behind n)))

  -- its equations
  pub embedded-eqns : (embedded observer site n).eqns ≡ n.eqns ++ (input_eqns site.clock (length n.variables) site.inputs ++ map (moved_eqn site (length n.variables)) observer.eqns)
  embedded-eqns = (embedded-behind).eqns

  -- and those that are there before the observer's own ones
  pub room-eqns : (with_room observer site n).eqns ≡ n.eqns ++ input_eqns site.clock (length n.variables) site.inputs
  room-eqns = (inputs-behind site.clock site.inputs n (with_variables observer.variables n) (renamed (length n.variables) observer.variables) [] (length n.variables) (variables-behind observer.variables n n [] [] (length n.variables) refl (nothing-behind n))).eqns

  -- how many variables it has
  pub embedded-many : length (embedded observer site n).variables ≡ length n.variables + length observer.variables
  embedded-many =
      let vs = renamed (length n.variables) observer.variables in
      ap length (embedded-behind).variables ∙ length-append n.variables vs ∙ ap (λ k. length n.variables + k) (renamed-length (length n.variables) observer.variables)

  -- the node stays
  pub embedded-grows : Grows n (embedded observer site n)
  embedded-grows = grows-behind n (embedded observer site n) (renamed (length n.variables) observer.variables) (input_eqns site.clock (length n.variables) site.inputs ++ map (moved_eqn site (length n.variables)) observer.eqns) embedded-behind

  -- and a variable of the observer has its type there
  pub embedded-type : (x : ℕ) → x < length observer.variables → (type_at (embedded observer site n) (x + length n.variables) ≡ type_at observer x) × (x + length n.variables < length (embedded observer site n).variables)
  embedded-type x l =
      let vs = renamed (length n.variables) observer.variables in
      let e = ap length (embedded-behind).variables in
      let a = length-append n.variables vs in
      let b = renamed-length (length n.variables) observer.variables in (
        ap (λ us. type_of (slice_get us (x + length n.variables))) (embedded-behind).variables ∙ ap type_of (get-behind n.variables vs x) ∙ renamed-type (length n.variables) observer.variables x,
        omega (arith, e, a, b, l),
      )
    where
      get-behind : (us vs : List Variable) (i : ℕ) → slice_get (us ++ vs) (i + length us) ≡ slice_get vs i
      get-behind [] vs i = let e : i + 0 ≡ i = omega arith in ap (slice_get vs) e
      get-behind (u ∷ us) vs i = let q : i + suc (length us) ≡ suc (i + length us) = omega arith in ap (slice_get (u ∷ us ++ vs)) q ∙ get-behind us vs i

-- ---- the inputs

in_rows : (clock : Clock) (target : ℕ) (args : List Atom) → InRows target 0 (input_eqns clock target args) (target + length args) 0
unfolding input_eqns
in_rows clock target [] = let e : target ≡ target + 0 = omega arith in (e, refl)
in_rows clock target (a ∷ args) = let e : target + 1 + length args ≡ target + length (a ∷ args) = omega arith in inl (1, refl, subst (λ k. InRows (target + 1) 0 (input_eqns clock (target + 1) args) k 0) e (in_rows clock (target + 1) args))

input_said : (clock : Clock) (args : List Atom) (target i : ℕ) → i < length args → (e : FlatEqn) × Contains (input_eqns clock target args) e × Contains e.targets (target + i) × (e.clock ≡ clock)
unfolding input_eqns
input_said clock [] target i l = absurd (omega (arith, l))
input_said clock (a ∷ args) target zero l =
    let e = operator_eqn target clock Copy (a ∷ []) in
    let z : target ≡ target + 0 = omega arith in
    (e, first_one e (input_eqns clock (target + 1) args), subst (λ k. Contains (target ∷ []) k) z (first_one target []), refl)
input_said clock (a ∷ args) target (suc i) l =
    let e = operator_eqn target clock Copy (a ∷ []) in
    let r = input_said clock args (target + 1) i (omega (arith, l)) in
    let z : target + 1 + i ≡ target + suc i = omega arith in
    (r.0, later_one e r.0 (input_eqns clock (target + 1) args) r.1, subst (λ k. Contains (r.0).targets k) z r.2, r.3)

-- ---- moving

module _ (far : ℕ) where
  same_number : (x y : ℕ) → nat_eq (y + far) (x + far) ≡ nat_eq y x
  same_number x y = by (nat_eq y x) refl
    where
      by : (b : Bool) → nat_eq y x ≡ b → nat_eq (y + far) (x + far) ≡ b
      by true e = grind (arith, nat_tests, e)
      by false e = grind (arith, nat_tests, e)

  moved-has : (ys : List ℕ) (x : ℕ) → has (moved_all far ys) (x + far) ≡ has ys x
  moved-has [] x = refl
  moved-has (y ∷ ys) x = ap₂ (λ a b. a || b) (same_number x y) (moved-has ys x)

  moved-differ : (xs : List ℕ) → IsDistinct nat_eq xs → IsDistinct nat_eq (moved_all far xs)
  unfolding IsDistinct
  moved-differ [] h = tt
  moved-differ (x ∷ xs) h = (each_map (λ y. nat_eq (x + far) y ≡ false) (λ y. y + far) xs (each_other (λ y. nat_eq x y ≡ false) (λ y. nat_eq (x + far) (y + far) ≡ false) (λ y e. same_number y x ∙ e) xs h.0), moved-differ xs h.1)

  moved-atoms : (a : Atom) (rest : List ℕ) → moved_all far (atom_variables a ++ rest) ≡ atom_variables (moved_atom far a) ++ moved_all far rest
  moved-atoms (Read x) rest = refl
  moved-atoms (Fixed v) rest = refl

  moved-args : (args : List Atom) → flat_map atom_variables (map (moved_atom far) args) ≡ moved_all far (flat_map atom_variables args)
  moved-args [] = refl
  moved-args (a ∷ args) = ap (λ xs. atom_variables (moved_atom far a) ++ xs) (moved-args args) ∙ sym (moved-atoms a (flat_map atom_variables args))

  moved-next : (a : Atom) → atom_variables (moved_atom far a) ≡ moved_all far (atom_variables a)
  moved-next (Read x) = refl
  moved-next (Fixed v) = refl

  moved-operands : (r : Right) → operands (moved_right far r) ≡ moved_all far (operands r)
  moved-operands (operator op args) = moved-args args
  moved-operands (register first next) = moved-next next
  moved-operands (called f args) = moved-args args

  moved-clock : (c : Clock) → clock_variables (moved_clock far c) ≡ moved_all far (clock_variables c)
  moved-clock [] = refl
  moved-clock (on ∷ c) = ap (λ xs. (on.0 + far) ∷ xs) (moved-clock c)

  moved_in : (ys : List ℕ) (x : ℕ) → has (moved_all far ys) x ≡ true → (y : ℕ) × (x ≡ y + far) × (has ys y ≡ true)
  moved_in [] x h = absurd cc
  moved_in (y ∷ ys) x h = by (nat_eq (y + far) x) refl h (moved_in ys x)
    where
      by : (b : Bool) → nat_eq (y + far) x ≡ b → (b || has (moved_all far ys) x) ≡ true → (has (moved_all far ys) x ≡ true → (z : ℕ) × (x ≡ z + far) × (has ys z ≡ true)) → (z : ℕ) × (x ≡ z + far) × (has (y ∷ ys) z ≡ true)
      by true q k f = let same : y + far ≡ x = grind (arith, nat_tests, q) in (y, sym same, has-first y ys)
      by false q k f = let r = f k in (r.0, r.1, has-more y r.0 ys r.2)

  -- clocks that part do so where the observer stands
  moved_part : (c d : Clock) → Part c d → Part (moved_clock far c) (moved_clock far d)
  moved_part [] d p = absurd p
  moved_part (on ∷ c) [] p = absurd p
  moved_part (on ∷ c) (other ∷ d) p = (ap (λ x. x + far) p.0, by p.1 (moved_part c d))
    where
      by : (nat_eq on.1 other.1 ≡ false) ⊎ ((on.1 ≡ other.1) × Part c d) → (Part c d → Part (moved_clock far c) (moved_clock far d)) → (nat_eq on.1 other.1 ≡ false) ⊎ ((on.1 ≡ other.1) × Part (moved_clock far c) (moved_clock far d))
      by (inl n) f = inl n
      by (inr q) f = inr (q.0, f q.1)

  site_part : (site c d : Clock) → Part c d → Part (site ++ c) (site ++ d)
  site_part [] c d p = p
  site_part (on ∷ site) c d p = (refl, inr (refl, site_part site c d p))

  moved_differ : (site : Site) (e d : FlatEqn) → Differ e d → Differ (moved_eqn site far e) (moved_eqn site far d)
  moved_differ site e d h x t s =
      let r = moved_in e.targets x t in
      let there : has d.targets r.0 ≡ true = sym (moved-has d.targets r.0) ∙ subst (λ z. has (moved_all far d.targets) z ≡ true) r.1 s in
      site_part site.clock (moved_clock far e.clock) (moved_clock far d.clock) (moved_part e.clock d.clock (h r.0 r.2 there))

  moved_parted : (site : Site) (es : List FlatEqn) → AreParted es → AreParted (map (moved_eqn site far) es)
  moved_parted site [] h = tt
  moved_parted site (e ∷ es) h = (each_map (Differ (moved_eqn site far e)) (moved_eqn site far) es (each_other (Differ e) (λ (d : FlatEqn). Differ (moved_eqn site far e) (moved_eqn site far d)) (λ d g. moved_differ site e d g) es h.0), moved_parted site es h.1)

parted_join : (es more : List FlatEqn) → AreParted es → AreParted more → AllByRecursion (λ (e : FlatEqn). AllByRecursion (Differ e) more) es → AreParted (es ++ more)
parted_join [] more h g n = g
parted_join (e ∷ es) more h g n = (both (Differ e) es more h.0 n.0, parted_join es more h.1 g n.1)

clock_both : (P : ℕ → Type 0) (c d : Clock) → AllByRecursion P (clock_variables c) → AllByRecursion P (clock_variables d) → AllByRecursion P (clock_variables (c ++ d))
clock_both P [] d h g = g
clock_both P (on ∷ c) d h g = (h.0, clock_both P c d h.1 g)

clock_first : (P : ℕ → Type 0) (c : Clock) (on : ℕ × ℕ) → AllByRecursion P (clock_variables (on ∷ c)) → P on.0
clock_first P c on h = h.0

-- ---- the node with the observer

module _ (types : List ObcType) (callees : Callees) (n observer : FlatNode) (clock own : ℕ → Clock) (site : Site) (b : IsBased types callees clock n) (o : IsBased types callees own observer) (fits : FitsSite types callees n clock observer site) where
  abbrev V : ℕ
  V = length n.variables

  abbrev W : ℕ
  W = length observer.variables

  abbrev other : FlatNode
  other = embedded observer site n

  abbrev added : List Variable
  added = renamed V observer.variables

  abbrev all : List Variable
  all = n.variables ++ added

  abbrev inputs : List FlatEqn
  inputs = input_eqns site.clock V site.inputs

  abbrev moved : List FlatEqn
  moved = map (moved_eqn site V) observer.eqns

  abbrev more : List FlatEqn
  more = inputs ++ moved

  w : IsWellBuilt types callees own observer
  w = o.well

  stands : CanStand types n clock site.clock
  stands = fits.stands

  behind : Behind n other added more
  behind =
      let none = nothing-behind n in
      let room = variables-behind observer.variables n n [] [] V refl none in
      let with_inputs_there = inputs-behind site.clock site.inputs n (with_variables observer.variables n) added [] V room in
      moved-behind site V observer.eqns n (with_inputs site.clock V site.inputs (with_variables observer.variables n)) added inputs with_inputs_there

  total : length all ≡ V + W
  total = length-append n.variables added ∙ ap (λ k. V + k) (renamed-length V observer.variables)

  other_total : length other.variables ≡ V + W
  other_total = ap length behind.variables ∙ total

  kind_new : (x : ℕ) → variable_kind types all (x + V) ≡ variable_kind types observer.variables x
  kind_new x = let e : x + V ≡ V + x = omega arith in ap (variable_kind types all) e ∙ kind-behind types n.variables added x ∙ renamed-kind types V observer.variables x

  -- ---- clocks

  abbrev clocks : ℕ → Clock
  clocks x = if nat_lt x V then clock x else site.clock ++ moved_clock V (own (x - V))

  same : (x : ℕ) → x < V → clocks x ≡ clock x
  same x l = let e : nat_lt x V ≡ true = grind (arith, nat_tests, l) in ap (λ q. if q then clock x else site.clock ++ moved_clock V (own (x - V))) e

  clock_new : (x : ℕ) → clocks (x + V) ≡ site.clock ++ moved_clock V (own x)
  clock_new x =
      let e : nat_lt (x + V) V ≡ false = grind (arith, nat_tests) in
      let g : x + V - V ≡ x = omega arith in
      ap (λ q. if q then clock (x + V) else site.clock ++ moved_clock V (own (x + V - V))) e ∙ ap (λ k. site.clock ++ moved_clock V (own k)) g

  old_front : (x : ℕ) (d : Clock) → x < V → IsFrontOf (clock x) d → IsFrontOf (clocks x) d
  old_front x d l h = (h.0, h.1 ∙ ap (λ c. c ++ h.0) (sym (same x l)))

  moved_more : (c d : Clock) → site.clock ++ moved_clock V (c ++ d) ≡ (site.clock ++ moved_clock V c) ++ moved_clock V d
  moved_more c d = ap (λ z. site.clock ++ z) (map-append (λ (s : ℕ × ℕ). (s.0 + V, s.1)) c d) ∙ sym (append_assoc site.clock (moved_clock V c) (moved_clock V d))

  new_front : (x : ℕ) (d : Clock) → IsFrontOf (own x) d → IsFrontOf (clocks (x + V)) (site.clock ++ moved_clock V d)
  new_front x d h = (moved_clock V h.0, ap (λ c. site.clock ++ moved_clock V c) h.1 ∙ moved_more (own x) h.0 ∙ ap (λ c. c ++ moved_clock V h.0) (sym (clock_new x)))

  -- ---- steps of clocks

  site_steps : (before rest : Clock) → AreBelow V (clock_variables rest) → StepsStand n types clock before rest → StepsStand other types clocks before rest
  site_steps before [] l h = tt
  site_steps before (on ∷ rest) l h = (old_front on.0 before l.0 h.0, site_steps (before ++ on ∷ []) rest l.1 h.1)

  steps_then : (before c d : Clock) → StepsStand other types clocks before c → StepsStand other types clocks (before ++ c) d → StepsStand other types clocks before (c ++ d)
  steps_then before [] d h g = subst (λ z. StepsStand other types clocks z d) (append-nil before) g
  steps_then before (on ∷ c) d h g = (h.0, steps_then (before ++ on ∷ []) c d h.1 (subst (λ z. StepsStand other types clocks z d) (sym (append_assoc before (on ∷ []) c)) g))

  moved_steps : (before rest : Clock) → StepsStand observer types own before rest → StepsStand other types clocks (site.clock ++ moved_clock V before) (moved_clock V rest)
  moved_steps before [] h = tt
  moved_steps before (on ∷ rest) h = (
    new_front on.0 before h.0,
    subst (λ z. StepsStand other types clocks z (moved_clock V rest)) (moved_more before (on ∷ [])) (moved_steps (before ++ on ∷ []) rest h.1),
  )

  all_steps : (c : Clock) → StepsStand observer types own [] c → StepsStand other types clocks [] (site.clock ++ moved_clock V c)
  all_steps c h =
      steps_then [] site.clock (moved_clock V c) (site_steps [] site.clock stands.within stands.steps)
      (subst (λ z. StepsStand other types clocks z (moved_clock V c)) (append-nil site.clock) (moved_steps [] c h))

  -- ---- what each new equation is

  record IsGood (e : FlatEqn) : Type 0 where
    within : EqnWithin (V + W) e
    new : AllByRecursion (λ x. (V ≤ x) × (x < V + W)) e.targets
    differ : IsDistinct nat_eq e.targets
    kinds : EqnKinds types callees all e
    steps : StepsStand other types clocks [] e.clock
    reads : AllByRecursion (λ x. IsFrontOf (clocks x) e.clock) (operands e.right)

  low : (xs : List ℕ) → AreBelow V xs → AreBelow (V + W) xs
  low xs h = higher V (V + W) (omega arith) xs h

  site_arms : AllByRecursion (λ (on : ℕ × ℕ). HasArm (variable_kind types all on.0) on.1) site.clock
  site_arms = clock_kinds types callees n.variables added site.clock stands.within stands.arms

  one_distinct : (x : ℕ) → IsDistinct nat_eq (x ∷ [])
  unfolding IsDistinct
  one_distinct x = (tt, tt)

  -- ---- inputs

  one_operand : (P : ℕ → Type 0) (a : Atom) → AllByRecursion P (atom_variables a) → AllByRecursion P (flat_map atom_variables (a ∷ []))
  one_operand P (Read x) h = (h.0, tt)
  one_operand P (Fixed v) h = tt

  first_of : (P : ℕ → Type 0) (a : Atom) (rest : List ℕ) → AllByRecursion P (atom_variables a ++ rest) → AllByRecursion P (atom_variables a) × AllByRecursion P rest
  first_of P (Read x) rest h = ((h.0, tt), h.1)
  first_of P (Fixed v) rest h = (tt, h)

  kind_input : (i : ℕ) → variable_kind types all (V + i) ≡ variable_kind types observer.variables i
  kind_input i = kind-behind types n.variables added i ∙ renamed-kind types V observer.variables i

  input_good : (i : ℕ) (a : Atom) → i < W → AtomHasKind types callees n.variables a (variable_kind types observer.variables i) → AreBelow V (atom_variables a) → AllByRecursion (λ x. IsFrontOf (clock x) site.clock) (atom_variables a)
      → IsGood (operator_eqn (V + i) site.clock Copy (a ∷ []))
  input_good i a l k below there =
      let kind = variable_kind types observer.variables i in
      record {
        within = record { targets = (omega (arith, l), tt); clock = low (clock_variables site.clock) stands.within; operands = one_operand (λ x. x < V + W) a (low (atom_variables a) below); restart = tt };
        new = ((omega arith, omega (arith, l)), tt);
        differ = one_distinct (V + i);
        kinds = record { right = (kind ∷ [], (atom_kind types callees n.variables added a kind below k, tt), kind, refl, ap (λ j. j ∷ []) (kind_input i)); clock = site_arms; restart = tt };
        steps = site_steps [] site.clock stands.within stands.steps;
        reads = one_operand (λ x. IsFrontOf (clocks x) site.clock) a (each_both (λ x. x < V) (λ x. IsFrontOf (clock x) site.clock) (λ x. IsFrontOf (clocks x) site.clock) (λ x m h. old_front x site.clock m h) (atom_variables a) below there);
      }

  inputs_good : (args : List Atom) (i k : ℕ) → i + k ≤ W → HaveKinds types callees n.variables args (map (variable_kind types observer.variables) (range_with_len i k)) → AreBelow V (flat_map atom_variables args)
      → AllByRecursion (λ x. IsFrontOf (clock x) site.clock) (flat_map atom_variables args) → (length args ≡ k) × AllByRecursion IsGood (input_eqns site.clock (V + i) args)
  unfolding input_eqns
  inputs_good [] i zero l h below there = (refl, tt)
  inputs_good [] i (suc k) l h below there = absurd h
  inputs_good (a ∷ args) i zero l h below there = absurd h
  inputs_good (a ∷ args) i (suc k) l h below there =
      let p = first_of (λ x. x < V) a (flat_map atom_variables args) below in
      let q = first_of (λ x. IsFrontOf (clock x) site.clock) a (flat_map atom_variables args) there in
      let rest = inputs_good args (i + 1) k (omega (arith, l)) h.1 p.1 q.1 in
      let e : V + (i + 1) ≡ V + i + 1 = omega arith in (
        ap (λ j. suc j) rest.0,
        (input_good i a (omega (arith, l)) h.0 p.0 q.0, subst (λ j. AllByRecursion IsGood (input_eqns site.clock j args)) e rest.1),
      )

  within_inputs : observer.inputs ≤ W
  within_inputs = let i = w.within in i.inputs

  given_inputs : (length site.inputs ≡ observer.inputs) × AllByRecursion IsGood inputs
  given_inputs =
      let r = inputs_good site.inputs 0 observer.inputs (let l = within_inputs in omega (arith, l)) fits.kinds fits.below fits.there in
      let e : V + 0 ≡ V = omega arith in
      (r.0, subst (λ j. AllByRecursion IsGood (input_eqns site.clock j site.inputs)) e r.1)

  -- ---- equations of the observer

  moved_below : (xs : List ℕ) → AreBelow W xs → AreBelow (V + W) (moved_all V xs)
  moved_below xs h = each_map (λ x. x < V + W) (λ x. x + V) xs (each_other (λ x. x < W) (λ x. x + V < V + W) (λ x l. omega (arith, l)) xs h)

  moved_atom_kind : (a : Atom) (k : KindData) → AtomHasKind types callees observer.variables a k → AtomHasKind types callees all (moved_atom V a) k
  moved_atom_kind (Read x) k h = kind_new x ∙ h
  moved_atom_kind (Fixed v) k h = h

  moved_args_kinds : (args : List Atom) (ks : List KindData) → HaveKinds types callees observer.variables args ks → HaveKinds types callees all (map (moved_atom V) args) ks
  moved_args_kinds [] [] h = tt
  moved_args_kinds [] (k ∷ ks) h = absurd h
  moved_args_kinds (a ∷ args) [] h = absurd h
  moved_args_kinds (a ∷ args) (k ∷ ks) h = (moved_atom_kind a k h.0, moved_args_kinds args ks h.1)

  moved_right_kinds : (r : Right) (ks : List KindData) → RightHasKinds types callees observer.variables r ks → RightHasKinds types callees all (moved_right V r) ks
  moved_right_kinds (operator op args) ks h = (h.0, moved_args_kinds args h.0 h.1, h.2, h.3, h.4)
  moved_right_kinds (register first next) ks h = (h.0, h.1, moved_atom_kind next h.0 h.2, h.3)
  moved_right_kinds (called f args) ks h = (moved_args_kinds args (callees.takes f) h.0, h.1)

  moved_targets_kinds : (xs : List ℕ) → map (variable_kind types all) (moved_all V xs) ≡ map (variable_kind types observer.variables) xs
  moved_targets_kinds [] = refl
  moved_targets_kinds (x ∷ xs) = ap₂ (λ k ks. k ∷ ks) (kind_new x) (moved_targets_kinds xs)

  moved_arms : (c : Clock) → AllByRecursion (λ (on : ℕ × ℕ). HasArm (variable_kind types observer.variables on.0) on.1) c → AllByRecursion (λ (on : ℕ × ℕ). HasArm (variable_kind types all on.0) on.1) (moved_clock V c)
  moved_arms [] h = tt
  moved_arms (on ∷ c) h = (subst (λ k. HasArm k on.1) (sym (kind_new on.0)) h.0, moved_arms c h.1)

  moved_restart : (xs : List ℕ) → AllByRecursion (λ x. variable_kind types observer.variables x ≡ Bools) xs → AllByRecursion (λ x. variable_kind types all x ≡ Bools) (moved_all V xs)
  moved_restart xs h = each_map (λ x. variable_kind types all x ≡ Bools) (λ x. x + V) xs (each_other (λ x. variable_kind types observer.variables x ≡ Bools) (λ x. variable_kind types all (x + V) ≡ Bools) (λ x e. kind_new x ∙ e) xs h)

  record Was (e : FlatEqn) : Type 0 where
    within : EqnWithin W e
    differ : IsDistinct nat_eq e.targets
    kinds : EqnKinds types callees observer.variables e
    steps : StepsStand observer types own [] e.clock
    reads : AllByRecursion (λ x. IsFrontOf (own x) e.clock) (operands e.right)

  moved_good : (e : FlatEqn) → Was e → IsGood (moved_eqn site V e)
  moved_good e h =
      let i = h.within in
      let k = h.kinds in
      record {
        within = record {
          targets = moved_below e.targets i.targets;
          clock = clock_both (λ x. x < V + W) site.clock (moved_clock V e.clock) (low (clock_variables site.clock) stands.within) (subst (AreBelow (V + W)) (sym (moved-clock V e.clock)) (moved_below (clock_variables e.clock) i.clock));
          operands = subst (AreBelow (V + W)) (sym (moved-operands V e.right)) (moved_below (operands e.right) i.operands);
          restart = both (λ x. x < V + W) site.restart (moved_all V e.restart) (low site.restart fits.restart_within) (moved_below e.restart i.restart);
        };
        new = each_map (λ x. (V ≤ x) × (x < V + W)) (λ x. x + V) e.targets (each_other (λ x. x < W) (λ x. (V ≤ x + V) × (x + V < V + W)) (λ x l. (omega arith, omega (arith, l))) e.targets i.targets);
        differ = moved-differ V e.targets h.differ;
        kinds = record {
          right = subst (RightHasKinds types callees all (moved_right V e.right)) (sym (moved_targets_kinds e.targets)) (moved_right_kinds e.right (map (variable_kind types observer.variables) e.targets) k.right);
          clock = both (λ (on : ℕ × ℕ). HasArm (variable_kind types all on.0) on.1) site.clock (moved_clock V e.clock) site_arms (moved_arms e.clock k.clock);
          restart = both (λ x. variable_kind types all x ≡ Bools) site.restart (moved_all V e.restart) (restart_kinds types callees n.variables added site.restart fits.restart_within fits.restart_kinds) (moved_restart e.restart k.restart);
        };
        steps = all_steps e.clock h.steps;
        reads = subst (AllByRecursion (λ x. IsFrontOf (clocks x) (site.clock ++ moved_clock V e.clock))) (sym (moved-operands V e.right))
            (each_map (λ x. IsFrontOf (clocks x) (site.clock ++ moved_clock V e.clock)) (λ x. x + V) (operands e.right) (each_other (λ x. IsFrontOf (own x) e.clock) (λ x. IsFrontOf (clocks (x + V)) (site.clock ++ moved_clock V e.clock)) (λ x f. new_front x e.clock f) (operands e.right) h.reads));
      }

  were : (es : List FlatEqn) → AllByRecursion (EqnWithin W) es → AllByRecursion (λ (e : FlatEqn). IsDistinct nat_eq e.targets) es → AllByRecursion (EqnKinds types callees observer.variables) es → AllByRecursion (λ (e : FlatEqn). StepsStand observer types own [] e.clock) es
      → AllByRecursion (λ (e : FlatEqn). AllByRecursion (λ x. IsFrontOf (own x) e.clock) (operands e.right)) es → AllByRecursion Was es
  were [] a d k s r = tt
  were (e ∷ es) a d k s r = (record { within = a.0; differ = d.0; kinds = k.0; steps = s.0; reads = r.0 }, were es a.1 d.1 k.1 s.1 r.1)

  moved_all_good : AllByRecursion IsGood moved
  moved_all_good =
      let i = w.within in
      let c = w.clocks in
      each_map IsGood (moved_eqn site V) observer.eqns (each_other Was (λ e. IsGood (moved_eqn site V e)) moved_good observer.eqns (were observer.eqns i.eqns w.targets_differ w.kinds c.steps c.reads))

  good : AllByRecursion IsGood more
  good = both IsGood inputs moved given_inputs.1 moved_all_good

  -- ---- nothing is defined twice

  low_targets : (args : List Atom) (target : ℕ) → AllByRecursion (λ (e : FlatEqn). AllByRecursion (λ x. x < target + length args) e.targets) (input_eqns site.clock target args)
  unfolding input_eqns
  low_targets [] target = tt
  low_targets (a ∷ args) target =
      let e : target + 1 + length args ≡ target + length (a ∷ args) = omega arith in
      ((omega arith, tt), subst (λ k. AllByRecursion (λ (e : FlatEqn). AllByRecursion (λ x. x < k) e.targets) (input_eqns site.clock (target + 1) args)) e (low_targets args (target + 1)))

  input_targets : AllByRecursion (λ (e : FlatEqn). AllByRecursion (λ x. x < V + observer.inputs) e.targets) inputs
  input_targets = subst (λ k. AllByRecursion (λ (e : FlatEqn). AllByRecursion (λ x. x < V + k) e.targets) inputs) given_inputs.0 (low_targets site.inputs V)

  moved_targets : AllByRecursion (λ (e : FlatEqn). AllByRecursion (λ x. V + observer.inputs ≤ x) e.targets) moved
  moved_targets =
      each_map (λ (e : FlatEqn). AllByRecursion (λ x. V + observer.inputs ≤ x) e.targets) (moved_eqn site V) observer.eqns
      (each_other (λ (e : FlatEqn). AllByRecursion (λ x. observer.inputs ≤ x) e.targets) (λ (e : FlatEqn). AllByRecursion (λ x. V + observer.inputs ≤ x) (moved_all V e.targets))
      (λ e h. each_map (λ x. V + observer.inputs ≤ x) (λ x. x + V) e.targets (each_other (λ x. observer.inputs ≤ x) (λ x. V + observer.inputs ≤ x + V) (λ x l. omega (arith, l)) e.targets h)) observer.eqns w.no_inputs)

  apart : (x y : ℕ) → x < V + observer.inputs → V + observer.inputs ≤ y → nat_eq y x ≡ false
  apart x y l m = grind (arith, nat_tests, l, m)

  joined : AreParted more
  joined =
      parted_join inputs moved (parted_rows V 0 inputs (V + length site.inputs) 0 (omega arith) (in_rows site.clock V site.inputs)) (moved_parted V site observer.eqns w.parted)
      (each_other (λ (e : FlatEqn). AllByRecursion (λ x. x < V + observer.inputs) e.targets) (λ (e : FlatEqn). AllByRecursion (Differ e) moved)
      (λ e h. each_other (λ (d : FlatEqn). AllByRecursion (λ x. V + observer.inputs ≤ x) d.targets) (Differ e)
      (λ d g. differ_where e d (each_other (λ x. x < V + observer.inputs) (λ x. has d.targets x ≡ false) (λ x l. none_among (λ y. V + observer.inputs ≤ y) x (λ y m. apart x y l m) d.targets g) e.targets h)) moved moved_targets) inputs input_targets)

  -- ---- each new variable is defined

  abbrev Place : ℕ → Type 0
  Place x = IsTarget more x × (IsDefinedOn other x (clocks x) ⊎ IsSplit other types clocks x)

  in_more : (e : FlatEqn) → Contains moved e → Contains more e
  in_more e h = Contains-append_right inputs moved e h

  in_other : (e : FlatEqn) → Contains more e → Contains other.eqns e
  in_other e h = subst (λ es. Contains es e) (sym behind.eqns) (Contains-append_right n.eqns more e h)

  moved_defined : (x : ℕ) (c : Clock) → IsDefinedOn observer x c → IsDefinedOn other (x + V) (site.clock ++ moved_clock V c)
  moved_defined x c h =
      let e = moved_eqn site V h.0 in
      (e, in_other e (in_more e (map_has (moved_eqn site V) observer.eqns h.0 h.1)), map_has (λ (y : ℕ). y + V) (h.0).targets x h.2, ap (λ d. site.clock ++ moved_clock V d) h.3)

  moved_split : (x : ℕ) → IsSplit observer types own x → IsSplit other types clocks (x + V)
  moved_split x s = record {
    tested = s.tested + V;
    there = subst (IsFrontOf (clocks (s.tested + V))) (sym (clock_new x)) (new_front s.tested (own x) s.there);
    has_one = subst (λ vs. HasArm (variable_kind types vs (s.tested + V)) 0) (sym behind.variables) (subst (λ k. HasArm k 0) (sym (kind_new s.tested)) s.has_one);
    arms = λ k a.
        let arm : HasArm (variable_kind types observer.variables s.tested) k = subst (λ j. HasArm j k) (kind_new s.tested) (subst (λ vs. HasArm (variable_kind types vs (s.tested + V)) k) behind.variables a) in
        subst (IsDefinedOn other (x + V)) (moved_more (own x) ((s.tested, k) ∷ []) ∙ ap (λ d. d ++ (s.tested + V, k) ∷ []) (sym (clock_new x))) (moved_defined x (own x ++ (s.tested, k) ∷ []) (s.arms k arm));
  }

  from_target : (x : ℕ) → IsTarget observer.eqns x → Place (x + V)
  from_target x t =
      let e = moved_eqn site V t.0 in
      let c = w.clocks in
      ((e, in_more e (map_has (moved_eqn site V) observer.eqns t.0 t.1), map_has (λ (y : ℕ). y + V) (t.0).targets x t.2), by (c.defined x t))
    where
      by : IsDefinedOn observer x (own x) ⊎ IsSplit observer types own x → IsDefinedOn other (x + V) (clocks (x + V)) ⊎ IsSplit other types clocks (x + V)
      by (inl d) = inl (subst (IsDefinedOn other (x + V)) (sym (clock_new x)) (moved_defined x (own x) d))
      by (inr s) = inr (moved_split x s)

  from_input : (x : ℕ) → x < observer.inputs → Place (x + V)
  from_input x l =
      let many = given_inputs.0 in
      let r = input_said site.clock site.inputs V x (omega (arith, l, many)) in
      let turn : V + x ≡ x + V = omega arith in
      let target = subst (λ k. Contains (r.0).targets k) turn r.2 in
      let here = Contains-append_left inputs moved r.0 r.1 in
      let base : site.clock ≡ clocks (x + V) = sym (append-nil site.clock) ∙ ap (λ c. site.clock ++ moved_clock V c) (sym (o.inputs x l)) ∙ sym (clock_new x) in
      ((r.0, here, target), inl (r.0, in_other r.0 here, target, r.3 ∙ base))

  place_new : (x : ℕ) → IsNewIn n other x → Place x
  place_new x (inl h) = let i = behind.inputs in let a = h.0 in let c = h.1 in absurd (omega (arith, i, a, c))
  place_new x (inr h) =
      let a = h.0 in
      let c = h.1 in
      let t = other_total in
      let z = w.closed in
      let turn : x - V + V ≡ x = omega (arith, a) in
      subst Place turn (by (z.variables (x - V) (omega (arith, a, c, t))))
    where
      by : IsGiven observer (x - V) → Place (x - V + V)
      by (inl l) = from_input (x - V) l
      by (inr t) = from_target (x - V) t

  -- ---- the step

  step : IsStep types callees n other added more clocks
  step = record {
    variables = behind.variables;
    inputs = let i = behind.inputs in omega (arith, i);
    outputs = behind.outputs;
    eqns = behind.eqns;
    values = renamed-values types V observer.variables w.values;
    within = subst (λ k. AllByRecursion (EqnWithin k) more) (sym other_total) (each_other IsGood (EqnWithin (V + W)) (λ e g. g.within) more good);
    new = each_other IsGood (λ (e : FlatEqn). AllByRecursion (IsNewIn n other) e.targets) (λ e g. each_other (λ x. (V ≤ x) × (x < V + W)) (IsNewIn n other) (λ x h. let a = h.0 in let c = h.1 in let t = other_total in inr (a, omega (arith, c, t))) e.targets g.new) more good;
    said = λ x h. (place_new x h).0;
    differ = each_other IsGood (λ (e : FlatEqn). IsDistinct nat_eq e.targets) (λ e g. g.differ) more good;
    kinds = subst (λ vs. AllByRecursion (EqnKinds types callees vs) more) (sym behind.variables) (each_other IsGood (EqnKinds types callees all) (λ e g. g.kinds) more good);
    parted = joined;
    steps = each_other IsGood (λ (e : FlatEqn). StepsStand other types clocks [] e.clock) (λ e g. g.steps) more good;
    reads = each_other IsGood (λ (e : FlatEqn). AllByRecursion (λ x. IsFrontOf (clocks x) e.clock) (operands e.right)) (λ e g. g.reads) more good;
    defined = λ x h. (place_new x h).1;
  }

  pub keeps : Keeps types callees clock n other
  keeps = record {
    clocks = clocks;
    built = stepped types callees n other added more clock clocks b same step;
    same = same;
    grows = grows-behind n other added more behind;
    fresh = each_other IsGood (λ (e : FlatEqn). AllByRecursion (λ x. V ≤ x) e.targets) (λ e g. each_other (λ x. (V ≤ x) × (x < V + W)) (λ x. V ≤ x) (λ x h. h.0) e.targets g.new) more good;
  }

  -- ---- a free place of the observer, where that stands

  eqns_at : length (with_room observer site n).eqns ≡ length n.eqns + length inputs
  eqns_at =
      let room = inputs-behind site.clock site.inputs n (with_variables observer.variables n) added [] V (variables-behind observer.variables n n [] [] V refl (nothing-behind n)) in
      ap length room.eqns ∙ length-append n.eqns inputs

  abbrev shift : Shift
  shift = shift_of observer site n

  clock_behind : (es fs : List FlatEqn) (i : ℕ) → slice_get (es ++ fs) (i + length es) ≡ slice_get fs i
  clock_behind [] fs i = let e : i + 0 ≡ i = omega arith in ap (slice_get fs) e
  clock_behind (e ∷ es) fs i = let q : i + suc (length es) ≡ suc (i + length es) = omega arith in ap (slice_get (e ∷ es ++ fs)) q ∙ clock_behind es fs i

  moved_at : (es : List FlatEqn) (i : ℕ) → i < length es → clock_by (slice_get (map (moved_eqn site V) es) i) ≡ site.clock ++ moved_clock V (clock_by (slice_get es i))
  moved_at [] i l = absurd (omega (arith, l))
  moved_at (e ∷ es) zero l = refl
  moved_at (e ∷ es) (suc i) l = moved_at es i (omega (arith, l))

  place_at : (i : ℕ) → i < length observer.eqns → clock_of other (Some (i + shift.eqns)) ≡ site.clock ++ moved_clock V (clock_of observer (Some i))
  place_at i l =
      let e = eqns_at in
      let q : i + shift.eqns ≡ i + length inputs + length n.eqns = omega (arith, e) in
      ap (λ es. clock_by (slice_get es (i + shift.eqns))) behind.eqns
      ∙ ap (λ k. clock_by (slice_get (n.eqns ++ more) k)) q
      ∙ ap clock_by (clock_behind n.eqns more (i + length inputs))
      ∙ ap clock_by (clock_behind inputs moved i)
      ∙ moved_at observer.eqns i l

  number_at : (i : ℕ) → i < length observer.eqns → i + shift.eqns < length other.eqns
  number_at i l =
      let e = eqns_at in
      let f = ap length behind.eqns in
      let g = length-append n.eqns more in
      let h = length-append inputs moved in
      let j : length moved ≡ length observer.eqns = length-map observer.eqns (moved_eqn site V) in
      omega (arith, e, f, g, h, j, l)

  moved_stands : (c : Clock) → CanStand types observer own c → CanStand types other clocks (site.clock ++ moved_clock V c)
  moved_stands c h = record {
    within = subst (λ k. AreBelow k (clock_variables (site.clock ++ moved_clock V c))) (sym other_total)
        (clock_both (λ x. x < V + W) site.clock (moved_clock V c) (low (clock_variables site.clock) stands.within) (subst (AreBelow (V + W)) (sym (moved-clock V c)) (moved_below (clock_variables c) h.within)));
    steps = all_steps c h.steps;
    arms = subst (λ vs. AllByRecursion (λ (on : ℕ × ℕ). HasArm (variable_kind types vs on.0) on.1) (site.clock ++ moved_clock V c)) (sym behind.variables)
        (both (λ (on : ℕ × ℕ). HasArm (variable_kind types all on.0) on.1) site.clock (moved_clock V c) site_arms (moved_arms c h.arms));
  }

  moved_place : (f : Free) (i : ℕ) → f.eqn ≡ Some i → IsFree types observer own f → IsFree types other clocks (moved_free shift f)
  moved_place f i e h =
      let number : IsNumbered observer (Some i) = subst (IsNumbered observer) e h.numbered in
      let there : IsOn observer own (clock_of observer (Some i)) (type_at observer f.variable) f.variable = subst (λ o. IsOn observer own (clock_of observer o) (type_at observer f.variable) f.variable) e h.there in
      let stand : CanStand types observer own (clock_of observer (Some i)) = subst (λ o. CanStand types observer own (clock_of observer o)) e h.stands in
      let at : Option ℕ → Free = λ o. record { variable = f.variable + shift.variables; eqn = moved_number shift.eqns o } in
      let here : IsFree types other clocks (at (Some i)) = record {
        numbered = number_at i number;
        stands = subst (CanStand types other clocks) (sym (place_at i number)) (moved_stands (clock_of observer (Some i)) stand);
        there = record {
          variable = let v = there.variable in let t = other_total in omega (arith, v, t);
          there = subst (IsFrontOf (clocks (f.variable + V))) (sym (place_at i number)) (new_front f.variable (clock_of observer (Some i)) there.there);
          type = refl;
        };
      } in
      subst (λ o. IsFree types other clocks (at o)) (sym e) here

pub place_kept : (types : List ObcType) (callees : Callees) (n observer : FlatNode) (clock own : ℕ → Clock) (site : Site) (b : IsBased types callees clock n) (o : IsBased types callees own observer) (fits : FitsSite types callees n clock observer site)
    → (f : Free) (i : ℕ) → f.eqn ≡ Some i → IsFree types observer own f → IsFree types (embedded observer site n) (keeps types callees n observer clock own site b o fits).clocks (moved_free (shift_of observer site n) f)
unfolding keeps
place_kept types callees n observer clock own site b o fits f i e h = moved_place types callees n observer clock own site b o fits f i e h

pub embedded_law : EmbeddedLaw
unfolding keeps
embedded_law types callees n observer clock own site b o fits =
    (keeps types callees n observer clock own site b o fits, clock_new types callees n observer clock own site b o fits)
