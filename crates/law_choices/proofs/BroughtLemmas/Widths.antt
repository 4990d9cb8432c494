-- How many bits of free places are watched.
use Rattle.std.proofs.Common.{◌≡◌, ◌⊎◌, inl, inr, ℕ, zero, suc, ◌+◌, ◌<◌, ◌≤◌, min, Bool, true, false, if◌then◌else◌, List, [], ◌∷◌, ◌++◌, length, map, slice_get, Option, None, Some, refl, sym, ap, ap₂, ◌∙◌, arith}
use Rattle.std.specs.Prelude.{All, sum, option_map}
use Rattle.std.specs.List.{range_with_len}
use Rattle.std.specs.Str.{bytes_eq}
use Rattle.std.proofs.lemmas.List.{append_assoc, append-nil, length-append, length-map}
use Rattle.std.proofs.lemmas.List.Elements.{All-head, All-tail}
use Rattle.std.proofs.lemmas.List.Sums.{sum_by-cons}
use Rattle.std.proofs.lemmas.Option.{slice_get-map}
use Rattle.hp_base.specs.declared.ty.Ty.{Ty}
use Rattle.hp_base.specs.declared.ty.Ty.TheVariants as ty
use Rattle.hp_base.specs.declared.value.Value.TheVariants.{B}
use Rattle.hp_obc.specs.Form.{HasConstructors}
use Rattle.hp_obc.specs.Machines.{ObcType}
use Rattle.hp_obc.specs.declared.command.ObcOp.{ObcOp}
use Rattle.hp_obc.specs.declared.command.ObcOp.TheVariants.{Copy, Or}
use Rattle.hp_flat.specs.declared.equation.Atom.{Atom}
use Rattle.hp_flat.specs.declared.equation.Atom.TheVariants.{Variable as Read, Value as Fixed}
use Rattle.hp_flat.specs.declared.node.FlatTy.{FlatTy}
use Rattle.hp_flat.specs.declared.node.FlatTy.TheVariants as flat
use Rattle.hp_flat.specs.declared.node.Variable.{Variable}
use Rattle.hp_flat.specs.Equations.{Clock, FlatEqn}
use Rattle.hp_flat.specs.Nodes.{FlatNode}
use Rattle.hp_tree.specs.Instant.{Place}
use Rattle.hp_tree.specs.Programs.{TypeDecl}
use Rattle.hp_tree.specs.Values.{constructors_of}
use Rattle.hp_tables.specs.Declarations.Tables.{numbered}
use Rattle.hp_meaning.specs.Contract.Slots as slots
use Rattle.hp_meaning.specs.Contract.Slots.{Slot, control, free, input, register, shape_of}
use Rattle.hp_watch.specs.declared.watching.Free.{Free}
use Rattle.hp_watch.specs.Adding.{added_variable, next_variable, operator_eqn, type_at, type_of, with_eqn, with_operator, with_variable}
use Rattle.hp_watch.specs.Lifting.{Valued, case_eqn, constructors, count_of, either, has_bit, lifted, width_of, with_bit, with_bits, with_code, with_each, with_either, with_spelling, with_step, with_test}
use Rattle.hp_watch.specs.Watching.{Watched, clock_of, spelled_place, with_places}
use Rattle.law_equations.specs.Made.Making.{flat_type, type_number}
use Rattle.law_equations.specs.Made.Types.{obc_type_of, obc_types}
use Rattle.law_games.specs.Mirror.Mirrored.{early_among, late_among, widths_at}
use Rattle.law_choices.specs.Playing.Mirrored.{early_flags}
use Rattle.law_choices.proofs.AddingLemmas.One.{type-last, type-more}
use Rattle.law_choices.proofs.BroughtLemmas.Brought.{free_types}
use Rattle.law_choices.proofs.BroughtLemmas.Placed.{AreIn, types_in}
use Rattle.law_choices.proofs.CodedLemmas.Kinds.{widths}

-- how many bits a value of a type has
abbrev pub wide : List ObcType → FlatTy → ℕ
wide types flat.Bool = 1
wide types flat.Int = 0
wide types (flat.Enum t) = width_of (count_of types (flat.Enum t))

-- ---- variables that stay

-- a node has more variables behind those of another one
abbrev Longer : FlatNode → FlatNode → Type 0
Longer n m = (more : List Variable) × (m.variables ≡ n.variables ++ more)

same : (n : FlatNode) → Longer n n
same n = ([], sym (append-nil n.variables))

both : (n m k : FlatNode) → Longer n m → Longer m k → Longer n k
both n m k h g = (h.0 ++ g.0, g.1 ∙ ap (λ vs. vs ++ g.0) h.1 ∙ append_assoc n.variables h.0 g.0)

by-variable : (t : FlatTy) (n : FlatNode) → Longer n (with_variable t n)
unfolding with_variable
by-variable t n = (added_variable (next_variable n) t ∷ [], refl)

by-eqn : (e : FlatEqn) (n : FlatNode) → (with_eqn e n).variables ≡ n.variables
unfolding with_eqn
by-eqn e n = refl

by-operator : (t : FlatTy) (op : ObcOp) (args : List Atom) (n : FlatNode) → Longer n (with_operator t op args n)
by-operator t op args n = let v = by-variable t n in (v.0, by-eqn (operator_eqn (next_variable n) [] op args) (with_variable t n) ∙ v.1)

by-each : (f : ℕ → FlatNode → FlatNode) → ((k : ℕ) (m : FlatNode) → Longer m (f k m)) → (count : ℕ) (n : FlatNode) → Longer n (with_each f count n)
by-each f h zero n = same n
by-each f h (suc k) n = both n (with_each f k n) (f k (with_each f k n)) (by-each f h k n) (h k (with_each f k n))

either-by : (b : Bool) (n : FlatNode) (v w : Valued) → Longer n v.node → Longer n w.node → Longer n (if b then v else w).node
either-by true n v w g h = g
either-by false n v w g h = h

by-either : (place k : ℕ) (tests : List ℕ) (bit : ℕ) (n : FlatNode) → Longer n (either place k tests bit n).node
by-either place k [] bit n = same n
by-either place k (test ∷ tests) bit n =
    let first = with_either k place bit test n in
    both n first.node (either place (k + 1) tests first.value first.node).node
    (either-by (has_bit k place) n (record { node = with_operator flat.Bool Or (Read bit ∷ Read test ∷ []) n; value = next_variable n }) (record { node = n; value = bit }) (by-operator flat.Bool Or (Read bit ∷ Read test ∷ []) n) (same n))
    (by-either place (k + 1) tests first.value first.node)

by-bit : (tests : List ℕ) (place : ℕ) (n : FlatNode) → Longer n (with_bit tests place n).node
by-bit tests place n =
    let begun = with_operator flat.Bool Copy (Fixed (B false) ∷ []) n in
    both n begun (with_bit tests place n).node (by-operator flat.Bool Copy (Fixed (B false) ∷ []) n) (by-either place 0 tests (next_variable n) begun)

by-bits : (tests : List ℕ) (width : ℕ) (n : FlatNode) → Longer n (with_bits tests width n).node
by-bits tests zero n = same n
by-bits tests (suc place) n = let bit = with_bit tests place n in both n bit.node (with_bits tests place bit.node).node (by-bit tests place n) (by-bits tests place bit.node)

by-spelling : (types : List ObcType) (t : FlatTy) (value : ℕ) (n : FlatNode) → Longer n (with_spelling types t value n).node
by-spelling types flat.Bool value n = same n
by-spelling types flat.Int value n = same n
by-spelling types (flat.Enum e) value n =
    let count = count_of types (flat.Enum e) in
    let tested = with_each (with_test e value) count n in
    both n tested (with_code e count value n).node (by-each (with_test e value) (λ k m. by-operator flat.Bool _ _ m) count n) (by-bits (range_with_len (next_variable n) count) (width_of count) tested)

-- ---- lifting

each-eqn : (f : ℕ → FlatEqn) (count : ℕ) (n : FlatNode) → (with_each (λ k. with_eqn (f k)) count n).variables ≡ n.variables
each-eqn f zero n = refl
each-eqn f (suc k) n = by-eqn (f k) (with_each (λ k. with_eqn (f k)) k n) ∙ each-eqn f k n

module _ (types : List ObcType) where
  -- one step makes one variable, of the type of the value
  by-step : (clock : Clock) (step : ℕ × ℕ) (value : ℕ) (n : FlatNode) → (with_step types clock step value n).variables ≡ n.variables ++ added_variable (next_variable n) (type_at n value) ∷ []
  unfolding with_variable
  by-step clock step value n = each-eqn (λ k. case_eqn (next_variable n) (type_at n value) clock step value k) (count_of types (type_at n step.0)) (with_variable (type_at n value) n)

  by-lifting : (clock steps : Clock) (x : ℕ) (n : FlatNode) → Longer n (lifted types clock steps x n).node
  by-lifting clock [] x n = same n
  by-lifting clock (s ∷ steps) x n =
      let inner = lifted types (clock ++ s ∷ []) steps x n in
      both n inner.node (with_step types clock s inner.value inner.node) (by-lifting (clock ++ s ∷ []) steps x n) (added_variable (next_variable inner.node) (type_at inner.node inner.value) ∷ [], by-step clock s inner.value inner.node)

  lifted-type : (clock steps : Clock) (x : ℕ) (n : FlatNode) → type_at (lifted types clock steps x n).node (lifted types clock steps x n).value ≡ type_at n x
  lifted-type clock [] x n = refl
  lifted-type clock (s ∷ steps) x n =
      let inner = lifted types (clock ++ s ∷ []) steps x n in
      ap (λ vs. type_of (slice_get vs (next_variable inner.node))) (by-step clock s inner.value inner.node) ∙ type-last (inner.node).variables (added_variable (next_variable inner.node) (type_at inner.node inner.value))
      ∙ lifted-type (clock ++ s ∷ []) steps x n

  -- ---- bits

  bits-length : (tests : List ℕ) (place : ℕ) (n : FlatNode) → length (with_bits tests place n).bits ≡ place
  bits-length tests zero n = refl
  bits-length tests (suc place) n = ap suc (bits-length tests place (with_bit tests place n).node)

  spelled-length : (t : FlatTy) (value : ℕ) (n : FlatNode) → length (with_spelling types t value n).bits ≡ wide types t
  spelled-length flat.Bool value n = refl
  spelled-length flat.Int value n = refl
  spelled-length (flat.Enum e) value n =
      let count = count_of types (flat.Enum e) in
      bits-length (range_with_len (next_variable n) count) (width_of count) (with_each (with_test e value) count n)

  place-length : (f : Free) (n : FlatNode) → length (spelled_place types f n).bits ≡ wide types (type_at n f.variable)
  place-length f n =
      let value = lifted types [] (clock_of n f.eqn) f.variable n in
      spelled-length (type_at value.node value.value) value.value value.node ∙ ap (wide types) (lifted-type [] (clock_of n f.eqn) f.variable n)

  by-place : (f : Free) (n : FlatNode) → Longer n (spelled_place types f n).node
  by-place f n =
      let value = lifted types [] (clock_of n f.eqn) f.variable n in
      both n value.node (spelled_place types f n).node (by-lifting [] (clock_of n f.eqn) f.variable n) (by-spelling types (type_at value.node value.value) value.value value.node)

  types-longer : (n m : FlatNode) → Longer n m → (fs : List Free) → AreIn n fs → (types_in m fs ≡ types_in n fs) × AreIn m fs
  types-longer n m h [] i = (refl, tt)
  types-longer n m h (f ∷ fs) i =
      let r = types-longer n m h fs i.1 in
      let l = ap length h.1 in
      let a = length-append n.variables h.0 in
      let b = i.0 in (
        ap₂ (λ t ts. t ∷ ts) (ap (λ vs. type_of (slice_get vs f.variable)) h.1 ∙ type-more n.variables h.0 f.variable i.0) r.0,
        (omega (arith, l, a, b), r.1),
      )

  -- ---- early and late ones

  abbrev pub early_width : List FlatTy → List Bool → ℕ
  early_width [] es = 0
  early_width (t ∷ ts) [] = 0
  early_width (t ∷ ts) (true ∷ es) = wide types t + early_width ts es
  early_width (t ∷ ts) (false ∷ es) = early_width ts es

  abbrev pub late_width : List FlatTy → List Bool → ℕ
  late_width [] es = 0
  late_width (t ∷ ts) [] = 0
  late_width (t ∷ ts) (true ∷ es) = late_width ts es
  late_width (t ∷ ts) (false ∷ es) = wide types t + late_width ts es

  abbrev AsWide : List Free → List Bool → Watched → Type 0
  AsWide fs es w =
      (length (with_places types fs es w).early ≡ length w.early + early_width (types_in w.node fs) es) × (length (with_places types fs es w).late ≡ length w.late + late_width (types_in w.node fs) es)

  pub watched-width : (fs : List Free) (es : List Bool) (w : Watched) → AreIn w.node fs → AsWide fs es w
  watched-width [] es w i = let a : length w.early ≡ length w.early + 0 = omega arith in let b : length w.late ≡ length w.late + 0 = omega arith in (a, b)
  watched-width (f ∷ fs) [] w i = let a : length w.early ≡ length w.early + 0 = omega arith in let b : length w.late ≡ length w.late + 0 = omega arith in (a, b)
  watched-width (f ∷ fs) (true ∷ es) w i =
      let s = spelled_place types f w.node in
      let m = types-longer w.node s.node (by-place f w.node) fs i.1 in
      let r = watched-width fs es (record { node = s.node; early = w.early ++ s.bits; late = w.late }) m.1 in
      let e = r.0 ∙ ap (λ ts. length (w.early ++ s.bits) + early_width ts es) m.0 in
      let l = r.1 ∙ ap (λ ts. length w.late + late_width ts es) m.0 in
      let a = length-append w.early s.bits in
      let b = place-length f w.node in
      (omega (arith, e, a, b), l)
  watched-width (f ∷ fs) (false ∷ es) w i =
      let s = spelled_place types f w.node in
      let m = types-longer w.node s.node (by-place f w.node) fs i.1 in
      let r = watched-width fs es (record { node = s.node; early = w.early; late = w.late ++ s.bits }) m.1 in
      let e = r.0 ∙ ap (λ ts. length w.early + early_width ts es) m.0 in
      let l = r.1 ∙ ap (λ ts. length (w.late ++ s.bits) + late_width ts es) m.0 in
      let a = length-append w.late s.bits in
      let b = place-length f w.node in
      (e, omega (arith, l, a, b))

-- ---- declared types

module _ (decls : List TypeDecl) (counts : All HasConstructors (obc_types decls)) (many : length decls ≤ 1000) where
  -- a name is that of no type, or that of one with a number and few constructors
  abbrev Found : ℕ → List TypeDecl → List ℕ → Type 0
  Found t ds x =
      ((numbered t (map (λ (d : TypeDecl). d.name) ds) x ≡ None) × (constructors_of ds x ≡ []))
      ⊎ ((i : ℕ) × (d : TypeDecl) × (numbered t (map (λ (d : TypeDecl). d.name) ds) x ≡ Some (t + i)) × (slice_get ds i ≡ Some d) × (constructors_of ds x ≡ d.cons) × (i < length ds) × (length d.cons < 256))

  found : (t : ℕ) (ds : List TypeDecl) (x : List ℕ) → All HasConstructors (obc_types ds) → Found t ds x
  found t [] x few = inl (refl, refl)
  found t (d ∷ ds) x few = by (bytes_eq d.name x) refl (found (t + 1) ds x (All-tail HasConstructors (obc_type_of d) (obc_types ds) few))
    where
      by : (b : Bool) → bytes_eq d.name x ≡ b → Found (t + 1) ds x → Found t (d ∷ ds) x
      by true e rest =
          let zero_more : t ≡ t + 0 = omega arith in
          let most = (All-head HasConstructors (obc_type_of d) (obc_types ds) few).1 in
          inr (0, d, ap (λ (b : Bool). if b then Some t else numbered (t + 1) (map (λ (d : TypeDecl). d.name) ds) x) e ∙ ap Some zero_more, refl, ap (λ (b : Bool). if b then d.cons else constructors_of ds x) e, omega arith, omega (arith, most))
      by false e (inl r) = inl (ap (λ (b : Bool). if b then Some t else numbered (t + 1) (map (λ (d : TypeDecl). d.name) ds) x) e ∙ r.0, ap (λ (b : Bool). if b then d.cons else constructors_of ds x) e ∙ r.1)
      by false e (inr r) =
          let l = r.5 in
          let same_number : t + 1 + r.0 ≡ t + suc r.0 = omega arith in
          inr (suc r.0, r.1, ap (λ (b : Bool). if b then Some t else numbered (t + 1) (map (λ (d : TypeDecl). d.name) ds) x) e ∙ r.2 ∙ ap Some same_number, r.3, ap (λ (b : Bool). if b then d.cons else constructors_of ds x) e ∙ r.4, omega (arith, l), r.6)

  beyond : {A : Type 0} (xs : List A) (k : ℕ) → length xs ≤ k → slice_get xs k ≡ None
  beyond [] k l = refl
  beyond (x ∷ xs) zero l = absurd (omega (arith, l))
  beyond (x ∷ xs) (suc k) l = beyond xs k (omega (arith, l))

  -- both widths of a type are one
  pub width-same : (places : List ℕ → Option ℕ) → ((x : List ℕ) → places x ≡ numbered 0 (map (λ (d : TypeDecl). d.name) decls) x) → (t : Ty) → wide (obc_types decls) (flat_type places t) ≡ slots.width_of (shape_of decls t)
  width-same places are ty.Bool = refl
  width-same places are ty.Int = refl
  width-same places are (ty.Enum x) = by (found 0 decls x counts)
    where
      types : List ObcType
      types = obc_types decls

      by : Found 0 decls x → width_of (constructors (slice_get (obc_types decls) (type_number (places x)))) ≡ slots.width_of (slots.cons 0 (length (constructors_of decls x)))
      by (inl h) =
          let l : length (obc_types decls) ≡ length decls = length-map decls obc_type_of in
          ap (λ o. width_of (constructors (slice_get (obc_types decls) (type_number o)))) (are x ∙ h.0)
          ∙ ap (λ o. width_of (constructors o)) (beyond (obc_types decls) 65535 (omega (arith, l, many)))
          ∙ sym (ap (λ (cs : List (List ℕ)). slots.width_of (slots.cons 0 (length cs))) h.1)
      by (inr h) =
          let less = h.5 in
          let few = h.6 in
          let small : min (0 + h.0) 65535 ≡ h.0 = omega (arith, less, many) in
          let there : slice_get (obc_types decls) h.0 ≡ Some (obc_type_of h.1) = slice_get-map obc_type_of decls h.0 ∙ ap (option_map obc_type_of) h.3 in
          let all : min (length (h.1).cons) 256 ≡ length (h.1).cons = omega (arith, few) in
          ap (λ o. width_of (constructors (slice_get (obc_types decls) (type_number o)))) (are x ∙ h.2) ∙ ap (λ k. width_of (constructors (slice_get (obc_types decls) k))) small ∙ ap (λ o. width_of (constructors o)) there
          ∙ ap width_of all ∙ widths (length (h.1).cons) (omega (arith, few)) ∙ sym (ap (λ (cs : List (List ℕ)). slots.width_of (slots.cons 0 (length cs))) h.4)

  -- ---- all slots

  sum-more : (x : ℕ) (xs : List ℕ) → sum (x ∷ xs) ≡ x + sum xs
  sum-more x xs = sum_by-cons (λ y. y) x xs

  module _ (places : List ℕ → Option ℕ) (are : (x : List ℕ) → places x ≡ numbered 0 (map (λ (d : TypeDecl). d.name) decls) x) (early : Place → Bool) where
    abbrev flats : List Slot → List FlatTy
    flats ss = map (flat_type places) (free_types ss)

    pub early-wide : (ss : List Slot) → early_width (obc_types decls) (flats ss) (early_flags early ss) ≡ sum (widths_at decls (early_among early ss))
    early-wide [] = refl
    early-wide (register p k ∷ ss) = early-wide ss
    early-wide (control p t ∷ ss) = early-wide ss
    early-wide (input p t ∷ ss) = ap₂ (λ a b. a + b) (width-same places are t) (early-wide ss) ∙ sym (sum-more (slots.width_of (shape_of decls t)) (widths_at decls (early_among early ss)))
    early-wide (free p t ∷ ss) = by (early p) (early-wide ss)
      where
        by : (b : Bool) → early_width (obc_types decls) (flats ss) (early_flags early ss) ≡ sum (widths_at decls (early_among early ss))
            → early_width (obc_types decls) (flat_type places t ∷ flats ss) (b ∷ early_flags early ss) ≡ sum (widths_at decls (if b then (p, t) ∷ early_among early ss else early_among early ss))
        by true h = ap₂ (λ a b. a + b) (width-same places are t) h ∙ sym (sum-more (slots.width_of (shape_of decls t)) (widths_at decls (early_among early ss)))
        by false h = h

    pub late-wide : (ss : List Slot) → late_width (obc_types decls) (flats ss) (early_flags early ss) ≡ sum (widths_at decls (late_among early ss))
    late-wide [] = refl
    late-wide (register p k ∷ ss) = late-wide ss
    late-wide (control p t ∷ ss) = late-wide ss
    late-wide (input p t ∷ ss) = late-wide ss
    late-wide (free p t ∷ ss) = by (early p) (late-wide ss)
      where
        by : (b : Bool) → late_width (obc_types decls) (flats ss) (early_flags early ss) ≡ sum (widths_at decls (late_among early ss))
            → late_width (obc_types decls) (flat_type places t ∷ flats ss) (b ∷ early_flags early ss) ≡ sum (widths_at decls (if b then late_among early ss else (p, t) ∷ late_among early ss))
        by true h = h
        by false h = ap₂ (λ a b. a + b) (width-same places are t) h ∙ sym (sum-more (slots.width_of (shape_of decls t)) (widths_at decls (late_among early ss)))

  pub flags-long : (early : Place → Bool) (ss : List Slot) → length (early_flags early ss) ≡ length (free_types ss)
  flags-long early [] = refl
  flags-long early (register p k ∷ ss) = flags-long early ss
  flags-long early (control p t ∷ ss) = flags-long early ss
  flags-long early (input p t ∷ ss) = ap suc (flags-long early ss)
  flags-long early (free p t ∷ ss) = ap suc (flags-long early ss)
