-- What is added for each number, step or bit, one by one.
use Rattle.std.proofs.Common.{◌≡◌, ℕ, zero, suc, ◌+◌, ◌<◌, ◌≤◌, get_or, length, take, drop, List, [], ◌∷◌, ◌++◌, refl, sym, ap, ap₂, ◌∙◌, arith, nat_le, Bool, true, false, if◌then◌else◌}
use Rattle.std.proofs.lemmas.Bool.Decides.{nat_tests}
use Rattle.std.specs.List.{range_with_len}
use Rattle.std.proofs.lemmas.List.{append_assoc, append-nil, drop_all, take_all, take_more, length-append}
use Rattle.std.proofs.lemmas.List.FromFn.{map-range_with_len_more}
use Rattle.hp_obc.specs.Machines.{ObcType}
use Rattle.hp_obc.specs.declared.command.ObcOp.{ObcOp}
use Rattle.hp_flat.specs.declared.equation.Atom.{Atom}
use Rattle.hp_base.specs.declared.value.Value.TheVariants.{E}
use Rattle.hp_obc.specs.declared.command.ObcOp.TheVariants.{Eq}
use Rattle.hp_flat.specs.declared.equation.Atom.TheVariants.{Variable as Read, Value as Fixed}
use Rattle.hp_flat.specs.declared.node.FlatTy.TheVariants.{Bool as Truth}
use Rattle.hp_flat.specs.declared.node.FlatTy.{FlatTy}
use Rattle.hp_flat.specs.Equations.{Clock, FlatEqn}
use Rattle.hp_flat.specs.Nodes.{FlatNode}
use Rattle.hp_watch.specs.Adding.{next_variable, with_variable, with_eqn, with_operator}
use Rattle.hp_watch.specs.Lifting.{with_each, with_step, with_test, lifted, Valued, with_either, either, with_bit, with_bits, least_width}
use Rattle.hp_watch.proofs.WalkLaws.{drop-next}

-- ---- for each number

pub each-next : (f : ℕ → FlatNode → FlatNode) (k : ℕ) (n m : FlatNode) → m ≡ with_each f k n → f k m ≡ with_each f (k + 1) n
each-next f k n m e = let one : suc k ≡ k + 1 = omega arith in ap (f k) e ∙ ap (λ c. with_each f c n) one

pub next-operator : (t : FlatTy) (op : ObcOp) (args : List Atom) (n : FlatNode) → next_variable (with_operator t op args n) ≡ next_variable n + 1
unfolding with_variable with_eqn
next-operator t op args n = length-append n.variables _

next-each : (t value k : ℕ) (n : FlatNode) → next_variable (with_each (with_test t value) k n) ≡ next_variable n + k
next-each t value zero n = omega arith
next-each t value (suc k) n =
    let before = next-each t value k n in
    let here = next-operator Truth Eq (Read value ∷ Fixed (E t k) ∷ []) (with_each (with_test t value) k n) in
    omega (arith, before, here)

pub range-suc : (a n : ℕ) → range_with_len a (suc n) ≡ range_with_len a n ++ (a + n) ∷ []
range-suc a zero = let same : a ≡ a + 0 = omega arith in ap (λ b. b ∷ []) same
range-suc a (suc n) = let same : (a + 1) + n ≡ a + suc n = omega arith in ap (λ xs. a ∷ xs) (range-suc (a + 1) n ∙ ap (λ b. range_with_len (a + 1) n ++ b ∷ []) same)

pub tests-next : (t value k x : ℕ) (n m : FlatNode) (tests more : List ℕ) → m ≡ with_each (with_test t value) k n → tests ≡ range_with_len (next_variable n) k → x ≡ next_variable m → more ≡ tests ++ x ∷ [] → more ≡ range_with_len (next_variable n) (k + 1)
tests-next t value k x n m tests more is_node are is_next is_more =
    let one : suc k ≡ k + 1 = omega arith in
    is_more
    ∙ ap₂ (λ xs y. xs ++ y ∷ []) are (is_next ∙ ap next_variable is_node ∙ next-each t value k n)
    ∙ sym (range-suc (next_variable n) k) ∙ ap (range_with_len (next_variable n)) one

-- ---- the steps of a clock

pub lifted-next : (types : List ObcType) (clock : Clock) (k : ℕ) (s : ℕ × ℕ) (x : ℕ) (n m more : FlatNode) (value : ℕ) → k < length clock → s ≡ get_or clock k s → m ≡ (lifted types (take (k + 1) clock) (drop (k + 1) clock) x n).node → value ≡ (lifted types (take (k + 1) clock) (drop (k + 1) clock) x n).value
    → more ≡ with_step types (take k clock) s value m
    → (more ≡ (lifted types (take k clock) (drop k clock) x n).node) × (next_variable m ≡ (lifted types (take k clock) (drop k clock) x n).value)
lifted-next types clock k s x n m more value h p is_node is_value is_more =
    let front : take (k + 1) clock ≡ take k clock ++ s ∷ [] = take_more clock k s h ∙ ap (λ z. take k clock ++ z ∷ []) (sym p) in
    let all : Valued = lifted types (take k clock) (drop k clock) x n in
    let split : lifted types (take k clock) (s ∷ drop (k + 1) clock) x n ≡ all = ap (λ rest. lifted types (take k clock) rest x n) (sym (drop-next clock k s h p)) in
    let inner : lifted types (take (k + 1) clock) (drop (k + 1) clock) x n ≡ lifted types (take k clock ++ s ∷ []) (drop (k + 1) clock) x n = ap (λ c. lifted types c (drop (k + 1) clock) x n) front in
    let node = is_node ∙ ap (λ v. v.node) inner in
    let held = is_value ∙ ap (λ v. v.value) inner in
    (is_more ∙ ap₂ (with_step types (take k clock) s) held node ∙ ap (λ v. v.node) split, ap next_variable node ∙ ap (λ v. v.value) split)

-- ---- whether one of some is true

module _ (place : ℕ) (tests : List ℕ) (k bit test : ℕ) (n : FlatNode) (h : k < length tests) (p : test ≡ get_or tests k test) where
  pub either-next : (more : FlatNode) (value : ℕ) → more ≡ (with_either k place bit test n).node → value ≡ (with_either k place bit test n).value → either place (k + 1) (drop (k + 1) tests) value more ≡ either place k (drop k tests) bit n
  either-next more value is_node is_value =
      ap₂ (λ v m. either place (k + 1) (drop (k + 1) tests) v m) is_value is_node ∙ ap (λ rest. either place k rest bit n) (sym (drop-next tests k test h p))

pub either-end : (place : ℕ) (tests : List ℕ) (k bit : ℕ) (n : FlatNode) → length tests ≤ k → either place k (drop k tests) bit n ≡ record { node = n; value = bit }
either-end place tests k bit n h = ap (λ rest. either place k rest bit n) (drop_all k tests h)

-- ---- bits

pub width-next : (powers : List ℕ) (count w p : ℕ) → w < length powers → p ≡ get_or powers w p → p < count → (w + 1) + least_width (drop (w + 1) powers) count ≡ w + least_width (drop w powers) count
width-next powers count w p h is more =
    let split : least_width (p ∷ drop (w + 1) powers) count ≡ least_width (drop w powers) count = ap (λ ps. least_width ps count) (sym (drop-next powers w p h is)) in
    let one : least_width (p ∷ drop (w + 1) powers) count ≡ suc (least_width (drop (w + 1) powers) count) = past (nat_le count p) (least_width (drop (w + 1) powers) count) (not-le count p more) in
    omega (arith, split, one)
  where
    past : (b : Bool) (k : ℕ) → b ≡ false → (if b then 0 else suc k) ≡ suc k
    past true k e = absurd cc
    past false k e = refl

    not-le : (a b : ℕ) → b < a → nat_le a b ≡ false
    not-le a b h = grind (arith, nat_tests)

pub width-here : (powers : List ℕ) (count w p : ℕ) → w < length powers → p ≡ get_or powers w p → count ≤ p → w ≡ w + least_width (drop w powers) count
width-here powers count w p h is less =
    let split : least_width (p ∷ drop (w + 1) powers) count ≡ least_width (drop w powers) count = ap (λ ps. least_width ps count) (sym (drop-next powers w p h is)) in
    let none : least_width (p ∷ drop (w + 1) powers) count ≡ 0 = here (nat_le count p) (least_width (drop (w + 1) powers) count) (is-le count p less) in
    omega (arith, split, none)
  where
    here : (b : Bool) (k : ℕ) → b ≡ true → (if b then 0 else suc k) ≡ 0
    here true k e = refl
    here false k e = absurd cc

    is-le : (a b : ℕ) → a ≤ b → nat_le a b ≡ true
    is-le a b h = grind (arith, nat_tests)

pub width-end : (powers : List ℕ) (count w : ℕ) → length powers ≤ w → w ≡ w + least_width (drop w powers) count
width-end powers count w h =
    let none : least_width (drop w powers) count ≡ 0 = ap (λ ps. least_width ps count) (drop_all w powers h) in
    omega (arith, none)

pub bits-next : (tests : List ℕ) (p more : ℕ) (n m : FlatNode) (bit : ℕ) → more ≡ p + 1 → m ≡ (with_bit tests p n).node → (with_bits tests p m).node ≡ (with_bits tests more n).node
bits-next tests p more n m bit e is_node = let one : suc p ≡ more = omega (arith, e) in ap (λ z. (with_bits tests p z).node) is_node ∙ ap (λ w. (with_bits tests w n).node) one

pub bits-more : (tests bits : List ℕ) (p more : ℕ) (n m : FlatNode) (bit : ℕ) → more ≡ p + 1 → m ≡ (with_bit tests p n).node → bit ≡ (with_bit tests p n).value → (bits ++ bit ∷ []) ++ (with_bits tests p m).bits ≡ bits ++ (with_bits tests more n).bits
bits-more tests bits p more n m bit e is_node is_bit =
    let one : suc p ≡ more = omega (arith, e) in
    append_assoc bits (bit ∷ []) (with_bits tests p m).bits
    ∙ ap₂ (λ b z. bits ++ b ∷ (with_bits tests p z).bits) is_bit is_node
    ∙ ap (λ w. bits ++ (with_bits tests w n).bits) one
