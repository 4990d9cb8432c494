-- The node of a controller is well made.
use Rattle.std.proofs.Common.{◌≡◌, ◌≢◌, ◌⊎◌, inl, inr, ℕ, zero, suc, ◌+◌, ◌<◌, ◌≤◌, Bool, true, false, ◌||◌, ◌&&◌, if◌then◌else◌, nat_eq, nat_lt, List, [], ◌∷◌, ◌++◌, length, map, Some, refl, sym, ap, subst, ◌∙◌, arith}
use Rattle.std.specs.Prelude.{IsTrue}
use Rattle.std.specs.List.{AllByRecursion, IsDistinct, flat_map, range_with_len}
use Rattle.std.proofs.lemmas.Bool.{lt-ltb}
use Rattle.std.proofs.lemmas.Bool.Decides.{nat_tests}
use Rattle.std.proofs.lemmas.List.{length-map}
use Rattle.std.proofs.lemmas.List.FromFn.{get_or-map-range_with_len}
use Rattle.hp_base.specs.Kinds.{Bools, IsOfKind}
use Rattle.hp_base.specs.declared.value.Value.{Value}
use Rattle.hp_base.specs.declared.value.Value.TheVariants.{B}
use Rattle.hp_obc.specs.Form.{result_kind}
use Rattle.hp_obc.specs.Machines.{ObcType}
use Rattle.hp_obc.specs.declared.command.ObcOp.{ObcOp}
use Rattle.hp_obc.specs.declared.command.ObcOp.TheVariants.{Copy, Mux}
use Rattle.hp_flat.specs.declared.equation.Atom.{Atom}
use Rattle.hp_flat.specs.declared.equation.Atom.TheVariants.{Variable as Named, Value as Fixed}
use Rattle.hp_flat.specs.declared.node.FlatTy.TheVariants.{Int as FlatInt}
use Rattle.hp_flat.specs.declared.node.Variable.{Variable}
use Rattle.hp_flat.specs.Equations.{FlatEqn}
use Rattle.hp_flat.specs.Nodes.{FlatNode}
use Rattle.law_equations.specs.Meaning.Instants.{Instant, holds}
use Rattle.law_equations.specs.Meaning.Reactions.{has, is_set}
use Rattle.law_equations.specs.Meaning.Fitting.{is_there, IsThere, atom_variables, operands}
use Rattle.law_equations.specs.Meaning.Kinding.{Callees, HasValue, HaveKinds, EqnKinds, kind_of_type, variable_kind, is_present, OptionallyOf, IsPossible, ClocksFit, ClockIsThere}
use Rattle.law_equations.specs.Meaning.Scheduling.{IsRanked, IsDefinedBelow, reads, EqnWithin, IsWithin}
use Rattle.law_equations.specs.Meaning.Solving.{IsExclusive, NoOther}
use Rattle.hp_quant.specs.declared.line.Line.{Line}
use Rattle.hp_controller.specs.Controllers.{atom_at, test_at, equation, line_eqns, output_eqns, bit_variable, node_of_lines}
use Rattle.hp_controller.specs.Laws.{WellMadeLaw}
use Rattle.hp_controller.proofs.ControllerLaws.{split_at, below-nat_lt}

-- ---- what is known of each equation

-- a truth value is read, that of a variable below a bound or a constant
abbrev IsBit : ℕ → Atom → Type 0
IsBit bound (Named x) = x < bound
IsBit bound (Fixed (B b)) = Unit {0}
IsBit bound (Fixed v) = ⊥

-- An equation of the place i behind so many inputs: it gives one truth value, always, of what is defined before it.
record Gives (inputs i : ℕ) (e : FlatEqn) : Type 0 where
  op : ObcOp
  args : List Atom
  is : e ≡ equation i (inputs + i) op args
  bits : AllByRecursion (IsBit (inputs + i)) args
  kind : result_kind op (map (λ a. Bools) args) ≡ Some Bools

abbrev AllFrom : ℕ → ℕ → List FlatEqn → Type 0
AllFrom inputs i [] = Unit {0}
AllFrom inputs i (e ∷ es) = Gives inputs i e × AllFrom inputs (i + 1) es

bit_of : (inputs i count n : ℕ) → count ≤ i → IsBit (inputs + i) (atom_at inputs count n)
bit_of inputs i count zero h = tt
bit_of inputs i count (suc zero) h = tt
bit_of inputs i count (suc (suc n)) h = by (nat_lt n count) refl
  where
    by : (c : Bool) → nat_lt n count ≡ c → IsBit (inputs + i) (if c then Named (inputs + n) else Fixed (B false))
    by true e = let l = below-nat_lt n count e in omega (arith, l, h)
    by false e = tt

test_bit : (inputs i x : ℕ) → IsBit (inputs + i) (test_at inputs x)
test_bit inputs i x = by (nat_lt x inputs) refl
  where
    by : (c : Bool) → nat_lt x inputs ≡ c → IsBit (inputs + i) (if c then Named x else Fixed (B false))
    by true e = let l = below-nat_lt x inputs e in omega (arith, l)
    by false e = tt

outputs_give : (inputs i lines : ℕ) (ns : List ℕ) → lines ≤ i → AllFrom inputs i (output_eqns inputs lines i ns)
outputs_give inputs i lines [] l = tt
outputs_give inputs i lines (n ∷ ns) l = (
  record { op = Copy; args = atom_at inputs lines n ∷ []; is = refl; bits = (bit_of inputs i lines n l, tt); kind = refl },
  outputs_give inputs (i + 1) lines ns (omega (arith, l)),
)

lines_give : (inputs i : ℕ) (ls : List Line) (rest : List FlatEqn) → AllFrom inputs (i + length ls) rest → AllFrom inputs i (line_eqns inputs i ls ++ rest)
lines_give inputs i [] rest r = let same : i + 0 ≡ i = omega arith in subst (λ j. AllFrom inputs j rest) same r
lines_give inputs i (l ∷ ls) rest r =
    let same : i + length (l ∷ ls) ≡ (i + 1) + length ls = omega arith in (
      record {
        op = Mux;
        args = test_at inputs l.var ∷ atom_at inputs i l.high ∷ atom_at inputs i l.low ∷ [];
        is = refl;
        bits = (test_bit inputs i l.var, (bit_of inputs i i l.high (omega arith), (bit_of inputs i i l.low (omega arith), tt)));
        kind = refl;
      },
      lines_give inputs (i + 1) ls rest (subst (λ j. AllFrom inputs j rest) same r),
    )

-- ---- each equation by itself

each_of : (inputs : ℕ) (P : FlatEqn → Type 0) (i : ℕ) (es : List FlatEqn) → ((j : ℕ) (op : ObcOp) (args : List Atom) → i ≤ j → j < i + length es → AllByRecursion (IsBit (inputs + j)) args → result_kind op (map (λ a. Bools) args) ≡ Some Bools → P (equation j (inputs + j) op args))
    → AllFrom inputs i es → AllByRecursion P es
each_of inputs P i [] f h = tt
each_of inputs P i (e ∷ es) f h =
    let g = h.0 in (
      subst P (sym g.is) (f i g.op g.args (omega arith) (omega arith) g.bits g.kind),
      each_of inputs P (i + 1) es (λ j op args l u b k. f j op args (omega (arith, l)) (omega (arith, u)) b k) h.1,
    )

same_number : (x y : ℕ) → nat_eq x y ≡ true → x ≡ y
same_number x y = grind (arith, nat_tests)

differ : (x y : ℕ) → x < y → nat_eq y x ≡ false
differ x y = grind (arith, nat_tests)

itself : (x : ℕ) → nat_eq x x ≡ true
itself x = grind (arith, nat_tests)

left_true : (a : Bool) → (a || false) ≡ true → a ≡ true
left_true true h = refl
left_true false h = h

either_true : (a : Bool) → (a || true) ≡ true
either_true true = refl
either_true false = refl

each_map : (P Q : ℕ → Type 0) → ((x : ℕ) → P x → Q x) → (xs : List ℕ) → AllByRecursion P xs → AllByRecursion Q xs
each_map P Q f [] h = tt
each_map P Q f (x ∷ xs) h = (f x h.0, each_map P Q f xs h.1)

-- what is read is below the bound
read_below : (bound : ℕ) (args : List Atom) → AllByRecursion (IsBit bound) args → AllByRecursion (λ x. x < bound) (flat_map atom_variables args)
read_below bound [] h = tt
read_below bound (Named x ∷ args) h = (h.0, read_below bound args h.1)
read_below bound (Fixed v ∷ args) h = read_below bound args h.1

in_range : (P : ℕ → Type 0) (a n : ℕ) → ((x : ℕ) → x < a + n → P x) → AllByRecursion P (range_with_len a n)
in_range P a zero f = tt
in_range P a (suc n) f = (f a (omega arith), in_range P (a + 1) n (λ x h. f x (omega (arith, h))))

valued_from : (types : List ObcType) (a n : ℕ) → AllByRecursion (λ (v : Variable). HasValue types v.ty) (map bit_variable (range_with_len a n))
valued_from types a zero = tt
valued_from types a (suc n) = (tt, valued_from types (a + 1) n)

lines_count : (inputs i : ℕ) (ls : List Line) (rest : List FlatEqn) → length (line_eqns inputs i ls ++ rest) ≡ length ls + length rest
lines_count inputs i [] rest = let same : length rest ≡ 0 + length rest = omega arith in same
lines_count inputs i (l ∷ ls) rest = let more = lines_count inputs (i + 1) ls rest in omega (arith, more)

outputs_count : (inputs lines i : ℕ) (ns : List ℕ) → length (output_eqns inputs lines i ns) ≡ length ns
outputs_count inputs lines i [] = refl
outputs_count inputs lines i (n ∷ ns) = ap suc (outputs_count inputs lines (i + 1) ns)

bit_there : (v : Value) → IsOfKind Bools v → IsTrue (is_there v)
bit_there (B b) h = refl
bit_there v h = absurd h

-- ---- the node

ranked_from : (inputs : ℕ) (es : List FlatEqn) → AllFrom inputs 0 es → IsRanked es
ranked_from inputs es h =
    each_of inputs (λ e. AllByRecursion (IsDefinedBelow es e) (reads e)) 0 es
    (λ i op args l u bits k.
    each_map (λ x. x < inputs + i) (IsDefinedBelow es (equation i (inputs + i) op args))
    (λ x below.
    each_of inputs (λ d. has d.targets x ≡ true → d.at < i) 0 es (λ j op' args' l' u' bits' k' q. let same = same_number (inputs + j) x (left_true (nat_eq (inputs + j) x) q) in omega (arith, below, same)) h)
    (flat_map atom_variables args) (read_below (inputs + i) args bits)) h

-- an equation defines each variable behind the inputs
set_from : (inputs : ℕ) (now : Instant) (i : ℕ) (es : List FlatEqn) → AllFrom inputs i es → (x : ℕ) → inputs + i ≤ x → x < (inputs + i) + length es → is_set es now x ≡ true
set_from inputs now i [] h x l u = absurd (omega (arith, l, u))
set_from inputs now i (e ∷ es) h x l u = let g = h.0 in subst (λ (d : FlatEqn). ((holds d.clock now && has d.targets x) || is_set es now x) ≡ true) (sym g.is) (by (nat_eq (inputs + i) x) refl (λ other. set_from inputs now (i + 1) es h.1 x (omega (arith, l, other)) (omega (arith, u))))
  where
    by : (c : Bool) → nat_eq (inputs + i) x ≡ c → (inputs + i ≢ x → is_set es now x ≡ true) → ((nat_eq (inputs + i) x || false) || is_set es now x) ≡ true
    by true q rest = ap (λ c. (c || false) || is_set es now x) q
    by false q rest =
        let other : inputs + i ≢ x = λ e. absurd (let yes = ap (λ y. nat_eq (inputs + i) y) (sym e) ∙ itself (inputs + i) in let no : true ≡ false = sym yes ∙ q in cc) in
        ap (λ c. (nat_eq (inputs + i) x || false) || c) (rest other) ∙ either_true (nat_eq (inputs + i) x || false)

exclusive_from : (inputs : ℕ) (now : Instant) (i : ℕ) (es : List FlatEqn) → AllFrom inputs i es → IsExclusive now es
exclusive_from inputs now i [] h = tt
exclusive_from inputs now i (e ∷ es) h =
    let g = h.0 in (
      λ c.
          subst (λ (d : FlatEqn). NoOther now d es) (sym g.is)
          (each_of inputs (λ d. holds d.clock now ≡ true → AllByRecursion (λ x. has d.targets x ≡ false) ((inputs + i) ∷ [])) (i + 1) es
          (λ j op args l u bits k q. (ap (λ c. c || false) (differ (inputs + i) (inputs + j) (omega (arith, l))), tt)) h.1),
      exclusive_from inputs now (i + 1) es h.1,
    )

all_give : (inputs : ℕ) (lines : List Line) (numbers : List ℕ) → AllFrom inputs 0 (line_eqns inputs 0 lines ++ output_eqns inputs (length lines) (length lines) numbers)
all_give inputs lines numbers =
    let place : length lines ≡ 0 + length lines = omega arith in
    lines_give inputs 0 lines (output_eqns inputs (length lines) (length lines) numbers)
    (subst (λ j. AllFrom inputs j (output_eqns inputs (length lines) (length lines) numbers)) place (outputs_give inputs (length lines) (length lines) numbers (omega arith)))

all_count : (inputs : ℕ) (lines : List Line) (numbers : List ℕ) → length (line_eqns inputs 0 lines ++ output_eqns inputs (length lines) (length lines) numbers) ≡ length lines + length numbers
all_count inputs lines numbers =
    lines_count inputs 0 lines (output_eqns inputs (length lines) (length lines) numbers) ∙ ap (λ n. length lines + n) (outputs_count inputs (length lines) (length lines) numbers)

module _ (types : List ObcType) (callees : Callees) (name : List ℕ) (inputs : ℕ) (lines : List Line) (numbers : List ℕ) where
  abbrev node : FlatNode
  node = node_of_lines name inputs lines numbers

  abbrev size : ℕ
  size = inputs + length lines + length numbers

  all : AllFrom inputs 0 node.eqns
  all = all_give inputs lines numbers

  count : length node.eqns ≡ length lines + length numbers
  count = all_count inputs lines numbers

  kind_at : (x : ℕ) → x < size → variable_kind types node.variables x ≡ Bools
  kind_at x h =
      let from : 0 + x ≡ x = omega arith in
      ap (λ (v : Variable). kind_of_type types v.ty) (get_or-map-range_with_len bit_variable 0 size x x (record { name = []; ty = FlatInt }) h from)

  have_kinds : (bound : ℕ) → bound ≤ size → (args : List Atom) → AllByRecursion (IsBit bound) args → HaveKinds types callees node.variables args (map (λ a. Bools) args)
  have_kinds bound w [] h = tt
  have_kinds bound w (Named x ∷ args) h = let below = h.0 in (kind_at x (omega (arith, below, w)), have_kinds bound w args h.1)
  have_kinds bound w (Fixed (B b) ∷ args) h = ((tt, tt), have_kinds bound w args h.1)
  have_kinds bound w (Fixed v ∷ args) h = absurd h.0

  kinds : AllByRecursion (EqnKinds types callees node.variables) node.eqns
  kinds =
      each_of inputs (EqnKinds types callees node.variables) 0 node.eqns
      (λ i op args l u bits k. record {
        right = (map (λ a. Bools) args, have_kinds (inputs + i) (omega (arith, u, count)) args bits, Bools, k, ap (λ k. k ∷ []) (kind_at (inputs + i) (omega (arith, u, count))));
        clock = tt;
        restart = tt;
      }) all

  module _ (now : Instant) (p : IsPossible types node now) where
    present : (x : ℕ) → x < size → (x < inputs) ⊎ (inputs ≤ x) → is_present node now x ≡ true
    present x h (inl l) = ap (λ c. c || is_set node.eqns now x) (lt-ltb x inputs l)
    present x h (inr l) = ap (λ c. nat_lt x inputs || c) (set_from inputs now 0 node.eqns all x (omega (arith, l)) (omega (arith, h, count))) ∙ either_true (nat_lt x inputs)

    there : (x : ℕ) → x < size → IsThere now x
    there x h =
        bit_there (now x)
        (subst (λ k. IsOfKind k (now x)) (kind_at x h) (subst (λ c. OptionallyOf c (variable_kind types node.variables x) (now x)) (present x h (split_at x inputs)) (p x)))

    fits : ClocksFit node now
    fits = record {
      outputs = in_range (IsThere now) (inputs + length lines) (length numbers) (λ x h. there x h);
      clocks = each_of inputs (λ e. ClockIsThere e.clock now) 0 node.eqns (λ i op args l u bits k. tt) all;
      operands_there =
          each_of inputs (λ e. IsTrue (holds e.clock now) → AllByRecursion (IsThere now) (operands e.right)) 0 node.eqns
          (λ i op args l u bits k c. each_map (λ x. x < inputs + i) (IsThere now) (λ x h. there x (omega (arith, h, u, count))) (flat_map atom_variables args) (read_below (inputs + i) args bits)) all;
      exclusive = exclusive_from inputs now 0 node.eqns all;
    }

pub well_made : WellMadeLaw
unfolding IsDistinct
well_made types callees name inputs lines numbers =
    let es = all types callees name inputs lines numbers in
    record {
      ranked = ranked_from inputs (node_of_lines name inputs lines numbers).eqns es;
      no_inputs = each_of inputs (λ e. AllByRecursion (λ x. inputs ≤ x) e.targets) 0 (node_of_lines name inputs lines numbers).eqns (λ i op args l u bits k. (omega arith, tt)) es;
      targets_differ = each_of inputs (λ e. IsDistinct nat_eq e.targets) 0 (node_of_lines name inputs lines numbers).eqns (λ i op args l u bits k. (tt, tt)) es;
      values = valued_from types 0 (inputs + length lines + length numbers);
      kinds = kinds types callees name inputs lines numbers;
      fit = fits types callees name inputs lines numbers;
    }

-- ---- its outputs and equations

range_behind : (bound from count : ℕ) → bound ≤ from → AllByRecursion (λ x. bound ≤ x) (range_with_len from count)
range_behind bound from zero l = tt
range_behind bound from (suc n) l = (l, range_behind bound (from + 1) n (omega (arith, l)))

range_other : (x from count : ℕ) → x < from → AllByRecursion (λ y. nat_eq x y ≡ false) (range_with_len from count)
range_other x from zero l = tt
range_other x from (suc n) l = (grind (arith, nat_tests, l), range_other x (from + 1) n (omega (arith, l)))

range_differ : (from count : ℕ) → IsDistinct nat_eq (range_with_len from count)
unfolding IsDistinct
range_differ from zero = tt
range_differ from (suc n) = (range_other from (from + 1) n (omega arith), range_differ (from + 1) n)

module _ (name : List ℕ) (inputs : ℕ) (lines : List Line) (numbers : List ℕ) where
  pub outputs_behind : AllByRecursion (λ x. inputs ≤ x) (node_of_lines name inputs lines numbers).outputs
  outputs_behind = range_behind inputs (inputs + length lines) (length numbers) (omega arith)

  pub outputs_differ : IsDistinct nat_eq (node_of_lines name inputs lines numbers).outputs
  outputs_differ = range_differ (inputs + length lines) (length numbers)

  pub always : AllByRecursion (λ (e : FlatEqn). e.clock ≡ []) (node_of_lines name inputs lines numbers).eqns
  always = each_of inputs (λ e. e.clock ≡ []) 0 (node_of_lines name inputs lines numbers).eqns (λ i op args l u bits k. refl) (all_give inputs lines numbers)

  pub exclusive : (now : Instant) → IsExclusive now (node_of_lines name inputs lines numbers).eqns
  exclusive now = exclusive_from inputs now 0 (node_of_lines name inputs lines numbers).eqns (all_give inputs lines numbers)

-- ---- its numbers are those of its variables

range_long : (from count : ℕ) → length (range_with_len from count) ≡ count
range_long from zero = refl
range_long from (suc n) = ap suc (range_long (from + 1) n)

module _ (name : List ℕ) (inputs : ℕ) (lines : List Line) (numbers : List ℕ) where
  abbrev it : FlatNode
  it = node_of_lines name inputs lines numbers

  abbrev many : ℕ
  many = inputs + length lines + length numbers

  long : length it.variables ≡ many
  long = length-map (range_with_len 0 many) bit_variable ∙ range_long 0 many

  pub outputs_long : length it.outputs ≡ length numbers
  outputs_long = range_long (inputs + length lines) (length numbers)

  pub within : IsWithin it
  within = record {
    inputs = omega (arith, long);
    outputs = in_range (λ x. x < length it.variables) (inputs + length lines) (length numbers) (λ x h. omega (arith, h, long));
    eqns = let count = all_count inputs lines numbers in
        each_of inputs (EqnWithin (length it.variables)) 0 it.eqns
        (λ i op args l u bits k. record {
          targets = (omega (arith, u, count, long), tt);
          clock = tt;
          operands = each_map (λ x. x < inputs + i) (λ x. x < length it.variables) (λ x h. omega (arith, h, u, count, long)) (flat_map atom_variables args) (read_below (inputs + i) args bits);
          restart = tt;
        }) (all_give inputs lines numbers);
  }
