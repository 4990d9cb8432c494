-- The bits of a value on the base clock are its code.
use Rattle.std.proofs.Common.{◌≡◌, ℕ, zero, suc, ◌+◌, ◌<◌, ◌≤◌, Bool, true, false, ◌&&◌, ◌||◌, if◌then◌else◌, nat_lt, min, List, [], ◌∷◌, length, map, slice_get, Option, None, Some, refl, sym, ap, subst, ◌∙◌, arith}
use Rattle.std.specs.Prelude.{⊤, ◌==◌}
use Rattle.std.specs.List.{range_with_len}
use Rattle.std.proofs.lemmas.Bool.Decides.{nat_tests}
use Rattle.std.proofs.lemmas.List.{length-append}
use Rattle.hp_base.specs.Kinds.{Bools, IsOfKind}
use Rattle.hp_base.specs.declared.value.Value.{Value}
use Rattle.hp_base.specs.declared.value.Value.TheVariants.{B, E}
use Rattle.hp_obc.specs.Machines.{ObcType}
use Rattle.hp_obc.specs.Values.{binary, same_value}
use Rattle.hp_obc.specs.declared.command.ObcOp.{ObcOp}
use Rattle.hp_obc.specs.declared.command.ObcOp.TheVariants.{Copy, Eq, Or}
use Rattle.hp_boolx.specs.Search.{Bits}
use Rattle.hp_flat.specs.declared.equation.Atom.{Atom}
use Rattle.hp_flat.specs.declared.equation.Atom.TheVariants.{Variable as Read, Value as Fixed}
use Rattle.hp_flat.specs.declared.node.FlatTy.{FlatTy}
use Rattle.hp_flat.specs.declared.node.FlatTy.TheVariants.{Bool as Truth, Int, Enum}
use Rattle.hp_flat.specs.Nodes.{FlatNode}
use Rattle.law_equations.specs.Meaning.Instants.{Instant, is_true}
use Rattle.law_equations.specs.Meaning.Kinding.{kind_of_type}
use Rattle.law_equations.specs.Meaning.Reactions.{Answers}
use Rattle.hp_meaning.specs.Contract.Codes.{to_bits}
use Rattle.hp_watch.specs.Adding.{type_at, next_variable, added_variable, with_variable, operator_eqn, with_operator}
use Rattle.hp_watch.specs.Lifting.{constructors as count_in, count_of, with_each, with_test, has_bit, Valued, with_either, either, with_bit, with_bits, width_of, with_code, with_spelling, spelled}
use Rattle.law_choices.specs.Adding.Lifts.{HaveBytes}
use Rattle.law_choices.specs.Coded.Codes.{bits_of_value}
use Rattle.law_choices.specs.Coded.Laws.{HaveBits}
use Rattle.law_choices.proofs.AddingLemmas.Lifts.{bytes_at}
use Rattle.law_choices.proofs.AddingLemmas.One.{variable-behind, eqn-behind}
use Rattle.law_choices.proofs.CodedLemmas.Lifted.{AllHold, operator-value}
use Rattle.law_choices.proofs.CodedLemmas.Numbers.{digits, digits-code, enough}

or-false : (b : Bool) → (b || false) ≡ b
or-false true = refl
or-false false = refl

or-grouped : (a b c : Bool) → ((a || b) || c) ≡ (a || (b || c))
or-grouped true b c = refl
or-grouped false b c = refl

same-number : (t : ℕ) → (t == t) ≡ true
same-number t = grind (arith, nat_tests)

one-longer : (ty : FlatTy) (op : ObcOp) (args : List Atom) (n : FlatNode) → length (with_operator ty op args n).variables ≡ length n.variables + 1
one-longer ty op args n =
    let b = eqn-behind n (with_variable ty n) (added_variable (length n.variables) ty ∷ []) [] (operator_eqn (next_variable n) [] op args) (variable-behind ty n) in
    ap length b.variables ∙ length-append n.variables (added_variable (length n.variables) ty ∷ [])

module _ (answers : Answers) (past : List Instant) (now : Instant) where
  -- ---- tests

  tests-length : (t value k : ℕ) (n : FlatNode) → length (with_each (with_test t value) k n).variables ≡ length n.variables + k
  tests-length t value zero n = omega arith
  tests-length t value (suc k) n =
      let e = one-longer Truth Eq (Read value ∷ Fixed (E t k) ∷ []) (with_each (with_test t value) k n) in
      let h = tests-length t value k n in
      omega (arith, e, h)

  before-tests : (t value k : ℕ) (n : FlatNode) → AllHold answers past now (with_each (with_test t value) k n).eqns → AllHold answers past now n.eqns
  before-tests t value zero n h = h
  before-tests t value (suc k) n h = before-tests t value k n (operator-value answers past now Truth Eq (Read value ∷ Fixed (E t k) ∷ []) (with_each (with_test t value) k n) h).0

  module _ (t c value : ℕ) (is : now value ≡ E t c) where
    tests-hold : (k : ℕ) (n : FlatNode) → AllHold answers past now (with_each (with_test t value) k n).eqns → (i : ℕ) → i < k → now (length n.variables + i) ≡ B (c == i)
    tests-hold zero n h i l = absurd (omega (arith, l))
    tests-hold (suc k) n h i l =
        let made = with_each (with_test t value) k n in
        let q = operator-value answers past now Truth Eq (Read value ∷ Fixed (E t k) ∷ []) made h in
        by (nat_lt i k) refl (tests-hold k n q.0 i) (ap now (sym (tests-length t value k n)) ∙ q.1 ∙ tested)
      where
        tested : B (same_value (now value) (E t k)) ≡ B (c == k)
        tested = ap (λ v. B (same_value v (E t k))) is ∙ ap (λ b. B (b && (c == k))) (same-number t)

        by : (b : Bool) → nat_lt i k ≡ b → (i < k → now (length n.variables + i) ≡ B (c == i)) → now (length n.variables + k) ≡ B (c == k) → now (length n.variables + i) ≡ B (c == i)
        by true e f g = f (grind (arith, nat_tests, e))
        by false e f g = let same : k ≡ i = grind (arith, nat_tests, e, l) in subst (λ j. now (length n.variables + j) ≡ B (c == j)) same g

  -- ---- one bit

  module _ (c : ℕ) where
    -- some variables are the tests of constructors from a number on
    abbrev AreTests : ℕ → List ℕ → Type 0
    AreTests k [] = ⊤
    AreTests k (x ∷ xs) = (now x ≡ B (c == k)) × AreTests (k + 1) xs

    tests-range : (first k count : ℕ) → ((i : ℕ) → i < count → now (first + i) ≡ B (c == (k + i))) → AreTests k (range_with_len first count)
    tests-range first k zero h = tt
    tests-range first k (suc count) h =
        let at : first + 0 ≡ first = omega arith in
        let it : k + 0 ≡ k = omega arith in (
          ap now (sym at) ∙ h 0 (omega arith) ∙ ap (λ i. B (c == i)) it,
          tests-range (first + 1) (k + 1) count (λ i l. let p : first + 1 + i ≡ first + suc i = omega arith in let q : k + suc i ≡ k + 1 + i = omega arith in ap now p ∙ h (suc i) (omega (arith, l)) ∙ ap (λ j. B (c == j)) q),
        )

    abbrev hits : ℕ → ℕ → List ℕ → Bool
    hits place k [] = false
    hits place k (x ∷ xs) = (has_bit k place && (c == k)) || hits place (k + 1) xs

    one-either : (place k bit test : ℕ) (n : FlatNode) (b : Bool) → AllHold answers past now (with_either k place bit test n).node.eqns → now test ≡ B (c == k) → now bit ≡ B b
        → AllHold answers past now n.eqns × (now (with_either k place bit test n).value ≡ B (b || (has_bit k place && (c == k))))
    one-either place k bit test n b h t g = by (has_bit k place) (with_either k place bit test n) refl h
      where
        by : (d : Bool) (made : Valued) → made ≡ (if d then record { node = with_operator Truth Or (Read bit ∷ Read test ∷ []) n; value = next_variable n } else record { node = n; value = bit })
            → AllHold answers past now made.node.eqns → AllHold answers past now n.eqns × (now made.value ≡ B (b || (d && (c == k))))
        by true made e h =
            let q = operator-value answers past now Truth Or (Read bit ∷ Read test ∷ []) n (subst (λ (v : Valued). AllHold answers past now v.node.eqns) e h) in
            (q.0, ap (λ (v : Valued). now v.value) e ∙ q.1 ∙ ap (λ v. binary Or v (now test)) g ∙ ap (λ v. binary Or (B b) v) t)
        by false made e h = (subst (λ (v : Valued). AllHold answers past now v.node.eqns) e h, ap (λ (v : Valued). now v.value) e ∙ g ∙ ap B (sym (or-false b)))

    before-one : (place k bit test : ℕ) (n : FlatNode) → AllHold answers past now (with_either k place bit test n).node.eqns → AllHold answers past now n.eqns
    before-one place k bit test n h = by (has_bit k place) (with_either k place bit test n) refl h
      where
        by : (d : Bool) (made : Valued) → made ≡ (if d then record { node = with_operator Truth Or (Read bit ∷ Read test ∷ []) n; value = next_variable n } else record { node = n; value = bit })
            → AllHold answers past now made.node.eqns → AllHold answers past now n.eqns
        by true made e h = (operator-value answers past now Truth Or (Read bit ∷ Read test ∷ []) n (subst (λ (v : Valued). AllHold answers past now v.node.eqns) e h)).0
        by false made e h = subst (λ (v : Valued). AllHold answers past now v.node.eqns) e h

    before-either : (place k : ℕ) (xs : List ℕ) (bit : ℕ) (n : FlatNode) → AllHold answers past now (either place k xs bit n).node.eqns → AllHold answers past now n.eqns
    before-either place k [] bit n h = h
    before-either place k (x ∷ xs) bit n h =
        let first = with_either k place bit x n in
        before-one place k bit x n (before-either place (k + 1) xs first.value first.node h)

    either-value : (place k : ℕ) (xs : List ℕ) (bit : ℕ) (n : FlatNode) (b : Bool) → AllHold answers past now (either place k xs bit n).node.eqns → AreTests k xs → now bit ≡ B b → now (either place k xs bit n).value ≡ B (b || hits place k xs)
    either-value place k [] bit n b h t g = g ∙ ap B (sym (or-false b))
    either-value place k (x ∷ xs) bit n b h t g =
        let first = with_either k place bit x n in
        let one = one-either place k bit x n b (before-either place (k + 1) xs first.value first.node h) t.0 g in
        either-value place (k + 1) xs first.value first.node (b || (has_bit k place && (c == k))) h t.1 one.1 ∙ ap B (or-grouped b (has_bit k place && (c == k)) (hits place (k + 1) xs))

    before-bit : (xs : List ℕ) (place : ℕ) (n : FlatNode) → AllHold answers past now (with_bit xs place n).node.eqns → AllHold answers past now n.eqns
    before-bit xs place n h =
        let made = with_operator Truth Copy (Fixed (B false) ∷ []) n in
        (operator-value answers past now Truth Copy (Fixed (B false) ∷ []) n (before-either place 0 xs (next_variable n) made h)).0

    bit-value : (xs : List ℕ) (place : ℕ) (n : FlatNode) → AllHold answers past now (with_bit xs place n).node.eqns → AreTests 0 xs → now (with_bit xs place n).value ≡ B (hits place 0 xs)
    bit-value xs place n h t =
        let made = with_operator Truth Copy (Fixed (B false) ∷ []) n in
        let q = operator-value answers past now Truth Copy (Fixed (B false) ∷ []) n (before-either place 0 xs (next_variable n) made h) in
        either-value place 0 xs (next_variable n) made false h t q.1

    -- ---- all bits

    abbrev all-hits : List ℕ → ℕ → Bits
    all-hits xs zero = []
    all-hits xs (suc place) = hits place 0 xs ∷ all-hits xs place

    before-bits : (xs : List ℕ) (w : ℕ) (n : FlatNode) → AllHold answers past now (with_bits xs w n).node.eqns → AllHold answers past now n.eqns
    before-bits xs zero n h = h
    before-bits xs (suc place) n h = let bit = with_bit xs place n in before-bit xs place n (before-bits xs place bit.node h)

    bits-value : (xs : List ℕ) (w : ℕ) (n : FlatNode) → AreTests 0 xs → AllHold answers past now (with_bits xs w n).node.eqns → HaveBits now (with_bits xs w n).bits (all-hits xs w)
    bits-value xs zero n t h = refl
    bits-value xs (suc place) n t h =
        let bit = with_bit xs place n in
        let rest = with_bits xs place bit.node in
        ap (λ v. v ∷ map now rest.bits) (bit-value xs place n (before-bits xs place bit.node h) t) ∙ ap (λ vs. B (hits place 0 xs) ∷ vs) (bits-value xs place bit.node t h)

    -- ---- the number that is tested is hit, and no other one

    missed : (place k : ℕ) (xs : List ℕ) → c < k → hits place k xs ≡ false
    missed place k [] l = refl
    missed place k (x ∷ xs) l =
        let no : (c == k) ≡ false = grind (arith, nat_tests, l) in
        ap (λ b. (has_bit k place && b) || hits place (k + 1) xs) no ∙ ap (λ b. (has_bit k place && false) || b) (missed place (k + 1) xs (omega (arith, l))) ∙ none (has_bit k place)
      where
        none : (b : Bool) → ((b && false) || false) ≡ false
        none true = refl
        none false = refl

    hit : (place k : ℕ) (xs : List ℕ) → k ≤ c → c < k + length xs → hits place k xs ≡ has_bit c place
    hit place k [] m l = absurd (omega (arith, m, l))
    hit place k (x ∷ xs) m l = by (c == k) refl (hit place (k + 1) xs)
      where
        here : (b : Bool) → ((b && true) || false) ≡ b
        here true = refl
        here false = refl

        none : (b d : Bool) → ((b && false) || d) ≡ d
        none true d = refl
        none false d = refl

        by : (b : Bool) → (c == k) ≡ b → (k + 1 ≤ c → c < k + 1 + length xs → hits place (k + 1) xs ≡ has_bit c place) → ((has_bit k place && b) || hits place (k + 1) xs) ≡ has_bit c place
        by true e f =
            let same : k ≡ c = grind (arith, nat_tests, e) in
            ap (λ b. (has_bit k place && true) || b) (missed place (k + 1) xs (omega (arith, same))) ∙ here (has_bit k place) ∙ ap (λ i. has_bit i place) same
        by false e f =
            let more : k + 1 ≤ c = grind (arith, nat_tests, e, m) in
            none (has_bit k place) (hits place (k + 1) xs) ∙ f more (omega (arith, l))

    all-hit : (xs : List ℕ) (w : ℕ) → c < length xs → all-hits xs w ≡ digits w c
    all-hit xs zero l = refl
    all-hit xs (suc place) l = ap (λ b. b ∷ all-hits xs place) (hit place 0 xs (omega arith) (omega (arith, l))) ∙ ap (λ bs. has_bit c place ∷ bs) (all-hit xs place l)

  -- ---- the code

  range-length : (first count : ℕ) → length (range_with_len first count) ≡ count
  range-length first zero = refl
  range-length first (suc count) = ap suc (range-length (first + 1) count)

  code-value : (t c count value : ℕ) (n : FlatNode) → now value ≡ E t c → c < count → count ≤ 256 → AllHold answers past now (with_code t count value n).node.eqns
      → AllHold answers past now n.eqns × HaveBits now (with_code t count value n).bits (to_bits (width_of count) c)
  code-value t c count value n is l few h =
      let tests = with_each (with_test t value) count n in
      let xs = range_with_len (next_variable n) count in
      let w = width_of count in
      let held = before-bits c xs w tests h in
      let are = tests-range c (next_variable n) 0 count (λ i m. let same : i ≡ 0 + i = omega arith in tests-hold t c value is count n held i m ∙ ap (λ j. B (c == j)) same) in
      let hits = all-hit c xs w (let e = range-length (next_variable n) count in omega (arith, l, e)) ∙ digits-code w c (let e = enough count few in omega (arith, l, e)) in
      (before-tests t value count n held, bits-value c xs w tests are h ∙ ap (λ bs. map (λ b. B b) bs) hits)

  -- ---- a value of a type

  constructor-value : (types : List ObcType) (t value : ℕ) (n : FlatNode) (v : Value) → HaveBytes types → now value ≡ v → IsOfKind (kind_of_type types (Enum t)) v → AllHold answers past now (with_code t (count_of types (Enum t)) value n).node.eqns
      → AllHold answers past now n.eqns × HaveBits now (with_code t (count_of types (Enum t)) value n).bits (bits_of_value types (Enum t) v)
  constructor-value types t value n (E u c) bytes is k h =
      let many = bytes_at types t bytes in
      let l = k.1 in
      code-value t c (count_of types (Enum t)) value n (is ∙ ap (λ i. E i c) k.0) (omega (arith, l, many)) (few (slice_get types t)) h
    where
      few : (o : Option ObcType) → count_in o ≤ 256
      few None = omega arith
      few (Some x) = let q : min (length x.cons) 256 ≤ 256 = omega arith in q
  constructor-value types t value n v bytes is k h = absurd k

  truth-value : (value : ℕ) (v : Value) → now value ≡ v → IsOfKind Bools v → now value ≡ B (is_true v)
  truth-value value (B b) is k = is
  truth-value value v is k = absurd k

  spelling-value : (types : List ObcType) (ty : FlatTy) (value : ℕ) (n : FlatNode) → HaveBytes types → IsOfKind (kind_of_type types ty) (now value) → AllHold answers past now (with_spelling types ty value n).node.eqns
      → AllHold answers past now n.eqns × HaveBits now (with_spelling types ty value n).bits (bits_of_value types ty (now value))
  spelling-value types Truth value n bytes k h = (h, ap (λ v. v ∷ []) (truth-value value (now value) refl k))
  spelling-value types Int value n bytes k h = (h, refl)
  spelling-value types (Enum t) value n bytes k h = constructor-value types t value n (now value) bytes refl k h

  pub before-spelled : (types : List ObcType) (value : ℕ) (n : FlatNode) → AllHold answers past now (spelled types value n).node.eqns → AllHold answers past now n.eqns
  before-spelled types value n h = by (type_at n value) h
    where
      by : (ty : FlatTy) → AllHold answers past now (with_spelling types ty value n).node.eqns → AllHold answers past now n.eqns
      by Truth h = h
      by Int h = h
      by (Enum t) h =
          let count = count_of types (Enum t) in
          before-tests t value count n (before-bits 0 (range_with_len (next_variable n) count) (width_of count) (with_each (with_test t value) count n) h)

  -- The bits of a variable are those of its value.
  pub spelled-value : (types : List ObcType) (value : ℕ) (n : FlatNode) → HaveBytes types → IsOfKind (kind_of_type types (type_at n value)) (now value) → AllHold answers past now (spelled types value n).node.eqns
      → AllHold answers past now n.eqns × HaveBits now (spelled types value n).bits (bits_of_value types (type_at n value) (now value))
  spelled-value types value n bytes k h = spelling-value types (type_at n value) value n bytes k h
