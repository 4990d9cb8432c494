-- The bits of a value on the base clock.
use Rattle.std.proofs.Common.{◌≡◌, inl, ℕ, zero, suc, ◌+◌, ◌<◌, ◌≤◌, Bool, true, false, if◌then◌else◌, nat_eq, List, [], ◌∷◌, length, Some, None, refl, sym, ap, subst, ◌∙◌, arith}
use Rattle.std.specs.Prelude.{Contains, ◌==◌}
use Rattle.std.specs.List.{AllByRecursion, flat_map, range_with_len}
use Rattle.std.proofs.lemmas.Bool.Decides.{nat_tests}
use Rattle.std.proofs.lemmas.List.{length-append}
use Rattle.std.proofs.lemmas.List.Elements.{Contains-push}
use Rattle.hp_base.specs.Kinds.{KindData, Bools, Constructors}
use Rattle.hp_base.specs.declared.value.Value.TheVariants.{B, E}
use Rattle.hp_obc.specs.Form.{result_kind}
use Rattle.hp_obc.specs.Machines.{ObcType}
use Rattle.hp_obc.specs.declared.command.ObcOp.{ObcOp}
use Rattle.hp_obc.specs.declared.command.ObcOp.TheVariants.{Copy, Eq, Or}
use Rattle.hp_flat.specs.declared.equation.Atom.{Atom}
use Rattle.hp_flat.specs.declared.equation.Atom.TheVariants.{Variable as Read, Value as Fixed}
use Rattle.hp_flat.specs.declared.node.FlatTy.{FlatTy}
use Rattle.hp_flat.specs.declared.node.FlatTy.TheVariants.{Bool as Truth, Int, Enum}
use Rattle.hp_flat.specs.Equations.{Clock}
use Rattle.hp_flat.specs.Nodes.{FlatNode}
use Rattle.law_equations.specs.Meaning.Fitting.{atom_variables}
use Rattle.law_equations.specs.Meaning.Kinding.{Callees, HasValue, HaveKinds, constructors, kind_of_type, variable_kind}
use Rattle.hp_watch.specs.Adding.{type_at, next_variable, added_variable, with_variable, operator_eqn, with_operator}
use Rattle.hp_watch.specs.Lifting.{count_of, with_each, with_test, has_bit, Valued, with_either, either, with_bit, with_bits, width_of, with_spelling}
use Rattle.law_choices.specs.Adding.Keeping.{IsBased, Keeps}
use Rattle.law_choices.specs.Adding.Lifts.{HaveBytes, IsOn, BitsLaw, CopyLaw}
use Rattle.law_choices.specs.Closed.Clocking.{IsFrontOf, IsDefinedOn}
use Rattle.law_choices.proofs.ClosedLemmas.ClosedLaws.{each_other, first_one}
use Rattle.law_choices.proofs.AddingLemmas.One.{variable-behind, eqn-behind, kind-at, keeps-self, keeps-both, on-kept, Defines, one-keeps, one-on}
use Rattle.law_choices.proofs.AddingLemmas.Lifts.{bytes_at}
use Rattle.law_choices.proofs.AddingLemmas.Rows.{each_range}

-- what a value and more equations stand for: a node that is made of another, and truth values on its base clock
module _ (types : List ObcType) (callees : Callees) where
  abbrev Gives : FlatNode → (ℕ → Clock) → FlatTy → FlatNode → ℕ → Type 0
  Gives n clock ty made x = (k : Keeps types callees clock n made) × IsOn made k.clocks [] ty x

  abbrev GivesAll : FlatNode → (ℕ → Clock) → FlatNode → List ℕ → Type 0
  GivesAll n clock made xs = (k : Keeps types callees clock n made) × AllByRecursion (IsOn made k.clocks [] Truth) xs

  abbrev IsThere : FlatNode → (ℕ → Clock) → ℕ → Type 0
  IsThere n clock x = (x < length n.variables) × IsFrontOf (clock x) []

  -- a new variable by an operator on what is there always
  pub define : (n : FlatNode) (clock : ℕ → Clock) (ty : FlatTy) (op : ObcOp) (args : List Atom) (js : List KindData) → IsBased types callees clock n → HasValue types ty
      → AllByRecursion (IsThere n clock) (flat_map atom_variables args) → HaveKinds types callees n.variables args js → result_kind op js ≡ Some (kind_of_type types ty) → Gives n clock ty (with_operator ty op args n) (next_variable n)
  define n clock ty op args js c value there kinds gives =
      let other = with_operator ty op args n in
      let e = operator_eqn (next_variable n) [] op args in
      let behind = eqn-behind n (with_variable ty n) (added_variable (length n.variables) ty ∷ []) [] e (variable-behind ty n) in
      let defines : Defines types callees n clock (kind_of_type types ty) e = record {
        target = refl;
        clock = tt;
        operands_below = each_other (IsThere n clock) (λ x. x < length n.variables) (λ x h. h.0) (flat_map atom_variables args) there;
        restart = refl;
        right = (js, kinds, kind_of_type types ty, gives, refl);
        arms = tt;
        steps = tt;
        reads = each_other (IsThere n clock) (λ x. IsFrontOf (clock x) []) (λ x h. h.1) (flat_map atom_variables args) there;
      } in
      let on : IsDefinedOn other (length n.variables) [] = (e, subst (λ es. Contains es e) (sym behind.eqns) (Contains-push n.eqns e), first_one (length n.variables) [], refl) in (
        one-keeps types callees n clock other ty [] (e ∷ []) c behind value (defines, tt) (tt, tt) (e, first_one e [], first_one (length n.variables) []) (inl on),
        one-on types callees n clock other ty [] (e ∷ []) c behind value (defines, tt) (tt, tt) (e, first_one e [], first_one (length n.variables) []) (inl on),
      )

  abbrev all_kept : (n other : FlatNode) (clock : ℕ → Clock) (k : Keeps types callees clock n other) (ty : FlatTy) (xs : List ℕ) → AllByRecursion (IsOn n clock [] ty) xs → AllByRecursion (IsOn other k.clocks [] ty) xs
  all_kept n other clock k ty xs h = each_other (IsOn n clock [] ty) (IsOn other k.clocks [] ty) (λ x i. on-kept types callees n other clock k [] ty x i) xs h

  -- the kind of a variable of a type
  pub kind_on : (n : FlatNode) (clock : ℕ → Clock) (on : Clock) (ty : FlatTy) (x : ℕ) → IsOn n clock on ty x → variable_kind types n.variables x ≡ kind_of_type types ty
  kind_on n clock on ty x h = kind-at types n x ∙ ap (kind_of_type types) h.type

  same_number : (t : ℕ) → (t == t) ≡ true
  same_number t = grind (arith, nat_tests)

  -- ---- a copy

  copy : (n : FlatNode) (clock : ℕ → Clock) (x : ℕ) → IsBased types callees clock n → IsOn n clock [] Truth x → Gives n clock Truth (with_operator Truth Copy (Read x ∷ []) n) (next_variable n)
  copy n clock x c v = define n clock Truth Copy (Read x ∷ []) (Bools ∷ []) c tt ((v.variable, v.there), tt) (kind_on n clock [] Truth x v, tt) refl

  -- ---- tests

  abbrev tested : ℕ → ℕ → ℕ → FlatNode → FlatNode
  tested t value k n = with_each (with_test t value) k n

  -- so many tests stand in a row, and each is a truth value on the base clock
  pub record Tests (n : FlatNode) (clock : ℕ → Clock) (t value k : ℕ) : Type 0 where
    pub keeps : Keeps types callees clock n (tested t value k n)
    pub count : length (tested t value k n).variables ≡ length n.variables + k
    pub each : (x : ℕ) → length n.variables ≤ x → x < length n.variables + k → IsOn (tested t value k n) keeps.clocks [] Truth x

  one_longer : (ty : FlatTy) (op : ObcOp) (args : List Atom) (n : FlatNode) → length (with_operator ty op args n).variables ≡ length n.variables + 1
  one_longer ty op args n =
      let b = eqn-behind n (with_variable ty n) (added_variable (length n.variables) ty ∷ []) [] (operator_eqn (next_variable n) [] op args) (variable-behind ty n) in
      ap length b.variables ∙ length-append n.variables (added_variable (length n.variables) ty ∷ [])

  tests : (n : FlatNode) (clock : ℕ → Clock) → IsBased types callees clock n → (t value k : ℕ) → k ≤ length (constructors types t) → IsOn n clock [] (Enum t) value → Tests n clock t value k
  tests n clock c t value zero l v = record { keeps = keeps-self types callees n clock c; count = omega arith; each = λ x m u. absurd (omega (arith, m, u)) }
  tests n clock c t value (suc i) l v =
      let made = tested t value i n in
      let before = tests n clock c t value i (omega (arith, l)) v in
      let k = before.keeps in
      let here = on-kept types callees n made clock k [] (Enum t) value v in
      let kind = Constructors t (constructors types t) in
      let args = Read value ∷ Fixed (E t i) ∷ [] in
      let one = define made k.clocks Truth Eq args (kind ∷ kind ∷ []) k.built tt ((here.variable, here.there), tt) (kind_on made k.clocks [] (Enum t) value here, (((refl, omega (arith, l)), refl), tt))
      (ap (λ b. if b then Some Bools else None) (same_number t)) in
      let other = with_test t value i made in
      let h = one.0 in
      let size = before.count in
      record {
        keeps = keeps-both types callees n made other clock k h;
        count = let e = one_longer Truth Eq args made in omega (arith, e, size);
        each = λ x m u. last i x m u (λ q. on-kept types callees made other k.clocks h [] Truth x (before.each x m q)) (λ q. subst (IsOn other h.clocks [] Truth) q one.1) size;
      }
    where
      last : (i x : ℕ) → length n.variables ≤ x → x < length n.variables + suc i → {A : Type 0} → (x < length n.variables + i → A) → (length (tested t value i n).variables ≡ x → A) → length (tested t value i n).variables ≡ length n.variables + i → A
      last i x m u {A} f g e = by (nat_eq x (length n.variables + i)) refl
        where
          by : (b : Bool) → nat_eq x (length n.variables + i) ≡ b → A
          by true q = let same : length (tested t value i n).variables ≡ x = grind (arith, nat_tests, q, e) in g same
          by false q = let less : x < length n.variables + i = grind (arith, nat_tests, q, u) in f less

  -- ---- bits

  either_one : (b : Bool) (n : FlatNode) (clock : ℕ → Clock) → IsBased types callees clock n → (test bit : ℕ) → IsOn n clock [] Truth test → IsOn n clock [] Truth bit
      → (made : Valued) → made ≡ (if b then record { node = with_operator Truth Or (Read bit ∷ Read test ∷ []) n; value = next_variable n } else record { node = n; value = bit }) → Gives n clock Truth made.node made.value
  either_one false n clock c test bit t b made e = subst (λ (v : Valued). Gives n clock Truth v.node v.value) (sym e) (keeps-self types callees n clock c, b)
  either_one true n clock c test bit t b made e =
      subst (λ (v : Valued). Gives n clock Truth v.node v.value) (sym e)
      (define n clock Truth Or (Read bit ∷ Read test ∷ []) (Bools ∷ Bools ∷ []) c tt ((b.variable, b.there), ((t.variable, t.there), tt)) (kind_on n clock [] Truth bit b, (kind_on n clock [] Truth test t, tt)) refl)

  eithers : (place k : ℕ) (n : FlatNode) (clock : ℕ → Clock) → IsBased types callees clock n → (xs : List ℕ) (bit : ℕ) → AllByRecursion (IsOn n clock [] Truth) xs → IsOn n clock [] Truth bit
      → Gives n clock Truth (either place k xs bit n).node (either place k xs bit n).value
  eithers place k n clock h [] bit t b = (keeps-self types callees n clock h, b)
  eithers place k n clock h (x ∷ xs) bit t b =
      let made = with_either k place bit x n in
      let one = either_one (has_bit k place) n clock h x bit t.0 b made refl in
      let s = one.0 in
      let rest = eithers place (k + 1) made.node s.clocks s.built xs made.value (all_kept n made.node clock s Truth xs t.1) one.1 in
      (keeps-both types callees n made.node (either place (k + 1) xs made.value made.node).node clock s rest.0, rest.1)

  bit : (n : FlatNode) (clock : ℕ → Clock) → IsBased types callees clock n → (xs : List ℕ) (place : ℕ) → AllByRecursion (IsOn n clock [] Truth) xs → Gives n clock Truth (with_bit xs place n).node (with_bit xs place n).value
  bit n clock c xs place t =
      let made = with_operator Truth Copy (Fixed (B false) ∷ []) n in
      let one = define n clock Truth Copy (Fixed (B false) ∷ []) (Bools ∷ []) c tt tt ((tt, tt), tt) refl in
      let k = one.0 in
      let rest = eithers place 0 made k.clocks k.built xs (next_variable n) (all_kept n made clock k Truth xs t) one.1 in
      (keeps-both types callees n made (either place 0 xs (next_variable n) made).node clock k rest.0, rest.1)

  code : (n : FlatNode) (clock : ℕ → Clock) → IsBased types callees clock n → (xs : List ℕ) (width : ℕ) → AllByRecursion (IsOn n clock [] Truth) xs → GivesAll n clock (with_bits xs width n).node (with_bits xs width n).bits
  code n clock c xs zero t = (keeps-self types callees n clock c, tt)
  code n clock c xs (suc place) t =
      let made = with_bit xs place n in
      let one = bit n clock c xs place t in
      let k = one.0 in
      let rest = code made.node k.clocks k.built xs place (all_kept n made.node clock k Truth xs t) in
      let other = (with_bits xs place made.node).node in
      let h = rest.0 in
      (keeps-both types callees n made.node other clock k h, (on-kept types callees made.node other k.clocks h [] Truth made.value one.1, rest.1))

  bits : HaveBytes types → (n : FlatNode) (clock : ℕ → Clock) → IsBased types callees clock n → (ty : FlatTy) (x : ℕ) → IsOn n clock [] ty x → GivesAll n clock (with_spelling types ty x n).node (with_spelling types ty x n).bits
  bits bytes n clock c Truth x v = (keeps-self types callees n clock c, (v, tt))
  bits bytes n clock c Int x v = (keeps-self types callees n clock c, tt)
  bits bytes n clock c (Enum t) x v =
      let count = count_of types (Enum t) in
      let e = bytes_at types t bytes in
      let made = tested t x count n in
      let all = tests n clock c t x count (omega (arith, e)) v in
      let k = all.keeps in
      let row = range_with_len (next_variable n) count in
      let rest = code made k.clocks k.built row (width_of count) (each_range (IsOn made k.clocks [] Truth) (next_variable n) count all.each) in
      (keeps-both types callees n made (with_bits row (width_of count) made).node clock k rest.0, rest.1)

pub bits_law : BitsLaw
bits_law types callees n clock x bytes c v = bits types callees bytes n clock c (type_at n x) x v

pub copy_law : CopyLaw
copy_law types callees n clock x c v = copy types callees n clock x c v
