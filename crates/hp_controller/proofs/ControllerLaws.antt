-- The variables of a controller have the values of its lines.
use Rattle.std.proofs.Common.{◌≡◌, ℕ, zero, suc, ◌+◌, ◌<◌, Bool, true, false, if◌then◌else◌, List, [], ◌∷◌, ◌++◌, length, map, slice_get, slice_index_or, get_or, None, Some, refl, sym, ap, ap₂, subst, ◌∙◌, arith, ◌≤◌, ◌⊎◌, inl, inr, nat_lt, ◌==◌}
use Rattle.std.specs.List.{AllByRecursion, range_with_len}
use Rattle.std.proofs.lemmas.List.FromFn.{get_or-map-range_with_len}
use Rattle.std.proofs.lemmas.Bool.{lt-ltb}
use Rattle.std.proofs.lemmas.Bool.Decides.{nat_tests}
use Rattle.std.proofs.lemmas.Option.{slice_get-get_or}
use Rattle.hp_base.specs.declared.value.Value.{Value}
use Rattle.hp_base.specs.declared.value.Value.TheVariants.{Absent, B}
use Rattle.hp_obc.specs.Values.{ternary}
use Rattle.hp_obc.specs.declared.command.ObcOp.TheVariants.{Mux}
use Rattle.hp_flat.specs.declared.equation.Atom.TheVariants.{Variable as Read, Value as Fixed}
use Rattle.hp_flat.specs.Equations.{FlatEqn}
use Rattle.law_equations.specs.Meaning.Instants.{Instant, atom}
use Rattle.law_equations.specs.Meaning.Reactions.{Answers, Holds, Continues}
use Rattle.hp_diagram.specs.Diagrams.{Diagrams}
use Rattle.hp_diagram.proofs.Paths.{path_end-leaf}
use Rattle.hp_quant.specs.declared.line.Line.{Line}
use Rattle.hp_quant.specs.Lines.{node_of, line_function, MayBeImported}
use Rattle.hp_quant.proofs.Imported.{line_function-line}
use Rattle.hp_cert.specs.Certmade.Placed.{RefersBack}
use Rattle.hp_controller.specs.Controllers.{atom_at, test_at, line_eqn, line_eqns, output_eqn, output_eqns, node_of_lines}
use Rattle.hp_controller.specs.Laws.{bit_at, GivesLaw}

pub split_at : (x n : ℕ) → (x < n) ⊎ (n ≤ x)
split_at x zero = inr (omega arith)
split_at zero (suc n) = inl (omega arith)
split_at (suc x) (suc n) = by (split_at x n)
  where
    by : (x < n) ⊎ (n ≤ x) → (suc x < suc n) ⊎ (suc n ≤ suc x)
    by (inl h) = inl (omega (arith, h))
    by (inr h) = inr (omega (arith, h))

-- ---- lists

abbrev pub first_of : List Value → Value
first_of [] = Absent
first_of (v ∷ vs) = v

abbrev pub rest_of : List Value → List Value
rest_of [] = []
rest_of (v ∷ vs) = vs

pub bit_mapped : (bits : List Bool) (x : ℕ) → x < length bits → get_or (map (λ b. B b) bits) x Absent ≡ B (bit_at bits x)
bit_mapped [] x h = absurd (omega (arith, h))
bit_mapped (b ∷ bits) zero h = refl
bit_mapped (b ∷ bits) (suc x) h = bit_mapped bits x (omega (arith, h))

pub in_front : (P : FlatEqn → Type 0) (xs ys : List FlatEqn) → AllByRecursion P (xs ++ ys) → AllByRecursion P xs
in_front P [] ys h = tt
in_front P (x ∷ xs) ys h = (h.0, in_front P xs ys h.1)

pub behind : (P : FlatEqn → Type 0) (xs ys : List FlatEqn) → AllByRecursion P (xs ++ ys) → AllByRecursion P ys
behind P [] ys h = h
behind P (x ∷ xs) ys h = behind P xs ys h.1

line_holds : (P : FlatEqn → Type 0) (inputs i : ℕ) (ls : List Line) → AllByRecursion P (line_eqns inputs i ls) → (k : ℕ) (l : Line) → slice_get ls k ≡ Some l → P (line_eqn inputs (i + k) l)
line_holds P inputs i [] h k l e = absurd cc
line_holds P inputs i (x ∷ ls) h zero l e =
    let same : x ≡ l = cc in
    let place : i ≡ i + 0 = omega arith in
    subst (λ j. P (line_eqn inputs j l)) place (subst (λ (y : Line). P (line_eqn inputs i y)) same h.0)
line_holds P inputs i (x ∷ ls) h (suc k) l e =
    let place : (i + 1) + k ≡ i + suc k = omega arith in
    subst (λ j. P (line_eqn inputs j l)) place (line_holds P inputs (i + 1) ls h.1 k l e)

picked : (c : Bool) (f g : Bool) → (if c then B f else B g) ≡ B (if c then f else g)
picked true f g = refl
picked false f g = refl

bit_beyond : (bits : List Bool) (x : ℕ) → length bits ≤ x → bit_at bits x ≡ false
bit_beyond [] x h = refl
bit_beyond (b ∷ bits) zero h = absurd (omega (arith, h))
bit_beyond (b ∷ bits) (suc x) h = bit_beyond bits x (omega (arith, h))

pub below-nat_lt : (x n : ℕ) → nat_lt x n ≡ true → x < n
below-nat_lt x n = grind (arith, nat_tests)

pub above-nat_lt : (x n : ℕ) → nat_lt x n ≡ false → n ≤ x
above-nat_lt x n = grind (arith, nat_tests)

nat_lt-above : (x n : ℕ) → n ≤ x → nat_lt x n ≡ false
nat_lt-above x n = grind (arith, nat_tests)

not_one : (k : ℕ) → (suc (suc k) == 1) ≡ false
not_one k = grind (arith, nat_tests)

no_line : (ls : List Line) (k : ℕ) → length ls ≤ k → slice_get (map node_of ls) k ≡ None
no_line [] k h = refl
no_line (l ∷ ls) zero h = absurd (omega (arith, h))
no_line (l ∷ ls) (suc k) h = no_line ls k (omega (arith, h))

-- more than each variable that is tested
tested : List Line → ℕ
tested [] = 0
tested (l ∷ ls) = (l.var + 1) + tested ls

tested_below : (ls : List Line) (k : ℕ) (l : Line) → slice_get ls k ≡ Some l → l.var < tested ls
unfolding tested
tested_below [] k l e = absurd cc
tested_below (x ∷ ls) zero l e = let same : x.var ≡ l.var = cc in omega (arith, same)
tested_below (x ∷ ls) (suc k) l e = let more = tested_below ls k l e in omega (arith, more)

-- ---- values

module _ (answers : Answers) (name : List ℕ) (inputs : ℕ) (lines : List Line) (numbers : List ℕ) (back : RefersBack lines) (past : List Instant) (bits : List Bool) (now : Instant) (as_many : length bits ≡ inputs)
    (goes : Continues answers (node_of_lines name inputs lines numbers) past (map (λ b. B b) bits) now) where
  abbrev v : ℕ → Bool
  v = bit_at bits

  -- a table of all variables that are tested, into which the lines may be imported
  abbrev table : Diagrams
  table = record { vars = tested lines; nodes = []; answers = [] }

  may : MayBeImported table lines
  may = record { var = tested_below lines; low = λ i l e. (back i l e).0; high = λ i l e. (back i l e).1 }

  input_is : (x : ℕ) → x < inputs → now x ≡ B (v x)
  input_is x h =
      let from : 0 + x ≡ x = omega arith in
      sym (get_or-map-range_with_len now 0 inputs x x Absent h from) ∙ ap (λ vs. get_or vs x Absent) goes.inputs_are ∙ bit_mapped bits x (omega (arith, h, as_many))

  test_is : (x : ℕ) (c : Bool) → nat_lt x inputs ≡ c → atom now (if c then Read x else Fixed (B false)) ≡ B (v x)
  test_is x true e = input_is x (below-nat_lt x inputs e)
  test_is x false e = ap B (sym (bit_beyond bits x (omega (arith, above-nat_lt x inputs e, as_many))))

  line_is : (k : ℕ) (l : Line) → slice_get lines k ≡ Some l → now (inputs + k) ≡ ternary Mux (atom now (test_at inputs l.var)) (atom now (atom_at inputs k l.high)) (atom now (atom_at inputs k l.low))
  line_is k l e =
      let place : 0 + k ≡ k = omega arith in
      let h : Holds answers past now (line_eqn inputs k l) = subst (λ j. Holds answers past now (line_eqn inputs j l)) place (line_holds (Holds answers past now) inputs 0 lines (in_front (Holds answers past now) (line_eqns inputs 0 lines) (output_eqns inputs (length lines) (length lines) numbers) goes.equations) k l e) in
      ap first_of (h refl)

  -- where the lines before have the values of their functions, so has what a number of these is
  number_is : (count : ℕ) → ((k : ℕ) → k < count → now (inputs + k) ≡ B (line_function lines (suc (suc k)) v)) → (n : ℕ) → n < count + 2 → atom now (atom_at inputs count n) ≡ B (line_function lines n v)
  number_is count below zero h = ap B (sym (path_end-leaf 0 (map node_of lines) v 0 refl))
  number_is count below (suc zero) h = ap B (sym (path_end-leaf 1 (map node_of lines) v 1 refl))
  number_is count below (suc (suc k)) h =
      let l : k < count = omega (arith, h) in
      ap (λ c. atom now (if c then Read (inputs + k) else Fixed (B false))) (lt-ltb k count l) ∙ below k l

  -- each line has the value of its function
  value_below : (most k : ℕ) → k < most → k < length lines → now (inputs + k) ≡ B (line_function lines (suc (suc k)) v)
  value_below zero k h w = absurd (omega (arith, h))
  value_below (suc most) k h w =
      let l = slice_index_or lines k (record { var = 0; low = 0; high = 0 }) in
      let at : slice_get lines k ≡ Some l = slice_get-get_or lines k (record { var = 0; low = 0; high = 0 }) w in
      let refers = back k l at in
      let two : k + 2 ≡ suc (suc k) = omega arith in
      let before = λ (j : ℕ) (b : j < k). value_below most j (omega (arith, b, h)) (omega (arith, b, w)) in
      line_is k l at
      ∙ (λ j. ternary Mux (test_is l.var (nat_lt l.var inputs) refl j) (number_is k before l.high refers.1 j) (number_is k before l.low refers.0 j))
      ∙ picked (v l.var) (line_function lines l.high v) (line_function lines l.low v)
      ∙ ap B (sym (line_function-line table lines may k l at v))
      ∙ ap (λ n. B (line_function lines n v)) two

  value_is : (n : ℕ) → (n < length lines + 2) ⊎ (length lines + 2 ≤ n) → atom now (atom_at inputs (length lines) n) ≡ B (line_function lines n v)
  value_is n (inl w) = number_is (length lines) (λ k h. value_below (suc k) k (omega arith) h) n w
  value_is zero (inr w) = absurd (omega (arith, w))
  value_is (suc zero) (inr w) = absurd (omega (arith, w))
  value_is (suc (suc k)) (inr w) =
      let l : length lines ≤ k = omega (arith, w) in
      ap (λ c. atom now (if c then Read (inputs + k) else Fixed (B false))) (nat_lt-above k (length lines) l) ∙ ap B (sym (path_end-leaf (suc (suc k)) (map node_of lines) v (suc (suc k)) (no_line lines k l) ∙ not_one k))

  outputs_are : (i : ℕ) (ns : List ℕ) → AllByRecursion (Holds answers past now) (output_eqns inputs (length lines) i ns) → map now (range_with_len (inputs + i) (length ns)) ≡ map (λ n. B (line_function lines n v)) ns
  outputs_are i [] hs = refl
  outputs_are i (n ∷ ns) hs =
      let h : Holds answers past now (output_eqn inputs (length lines) i n) = hs.0 in
      let next : (inputs + i) + 1 ≡ inputs + (i + 1) = omega arith in
      ap₂ (λ y ys. y ∷ ys) (ap first_of (h refl) ∙ value_is n (split_at n (length lines + 2))) (ap (λ j. map now (range_with_len j (length ns))) next ∙ outputs_are (i + 1) ns hs.1)

pub gives : GivesLaw
gives answers name inputs lines numbers back past bits now as_many goes =
    outputs_are answers name inputs lines numbers back past bits now as_many goes (length lines) numbers
    (behind (Holds answers past now) (line_eqns inputs 0 lines) (output_eqns inputs (length lines) (length lines) numbers) goes.equations)
