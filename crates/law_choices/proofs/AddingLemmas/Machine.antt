-- The equations of a machine's steps.
use Rattle.std.proofs.Common.{◌≡◌, inl, ℕ, zero, suc, ◌+◌, ◌-◌, ◌<◌, ◌≤◌, Bool, true, false, if◌then◌else◌, nat_lt, List, [], ◌∷◌, ◌++◌, length, map, Some, refl, sym, ap, ap₂, subst, ◌∙◌, arith}
use Rattle.std.specs.List.{AllByRecursion, flat_map, range_with_len}
use Rattle.std.proofs.lemmas.Bool.Decides.{nat_tests}
use Rattle.std.proofs.lemmas.List.{length-append}
use Rattle.std.proofs.lemmas.List.FromFn.{length-map-range_with_len, length-range_with_len}
use Rattle.hp_base.specs.Kinds.{Bools}
use Rattle.hp_base.specs.declared.value.Value.TheVariants.{B}
use Rattle.hp_boolx.specs.declared.gate.Gate.{Gate}
use Rattle.hp_boolx.specs.declared.gate.Gate.TheVariants as gate
use Rattle.hp_boolx.specs.Machine.{Machine, IsMachine}
use Rattle.hp_boolx.specs.Search.{Bits}
use Rattle.hp_obc.specs.Form.{result_kind}
use Rattle.hp_obc.specs.Machines.{ObcType}
use Rattle.hp_flat.specs.declared.equation.Atom.{Atom}
use Rattle.hp_flat.specs.declared.equation.Atom.TheVariants.{Variable as Read, Value as Fixed}
use Rattle.hp_flat.specs.declared.node.FlatTy.TheVariants.{Bool as Truth}
use Rattle.hp_flat.specs.declared.node.Variable.{Variable}
use Rattle.hp_flat.specs.Equations.{Clock, FlatEqn}
use Rattle.hp_flat.specs.Nodes.{FlatNode}
use Rattle.law_equations.specs.Meaning.Fitting.{atom_variables}
use Rattle.law_equations.specs.Meaning.Kinding.{Callees, HasValue, HaveKinds, variable_kind}
use Rattle.law_equations.specs.Meaning.Scheduling.{AreBelow}
use Rattle.law_choices.specs.Adding.Keeping.{IsBased}
use Rattle.law_choices.specs.Adding.Controls.{always, IsThereAlways, bools, IsAskedFor, with_steps, StepsKeepLaw}
use Rattle.law_choices.specs.Closed.Clocking.{IsFrontOf}
use Rattle.law_choices.proofs.ClosedLemmas.ClosedLaws.{each_other}
use Rattle.law_choices.proofs.AddingLemmas.Adding.{same_kind, both}
use Rattle.law_choices.proofs.AddingLemmas.Rows.{each_range, InRows, IsAlways, rows_based}
use Rattle.hp_controller.specs.Controllers.{added_variable}
use Rattle.hp_controller.specs.Controlled.{placing_of, bits_added, bit_variables}
use Rattle.hp_controller.specs.Gates.{variable_at, gate_at, gate_op, gate_args, gate_eqns}
use Rattle.hp_controller.specs.Steps.{register_eqn, register_eqns, asking_eqn, Placing, register_places, control_places, places, step_eqns}

-- ---- rows

registers-rows : (a t gates count : ℕ) (init : Bits) (next : List ℕ) (rest : List FlatEqn) (b u : ℕ) → length init ≡ length next → InRows (a + length init) t rest b u → InRows a t (register_eqns a gates count init next ++ rest) b u
registers-rows a t gates count [] [] rest b u e h = let z : a + 0 ≡ a = omega arith in subst (λ k. InRows k t rest b u) z h
registers-rows a t gates count [] (n ∷ next) rest b u e h = absurd (omega (arith, e))
registers-rows a t gates count (x ∷ init) [] rest b u e h = absurd (omega (arith, e))
registers-rows a t gates count (x ∷ init) (n ∷ next) rest b u e h =
    let z : a + length (x ∷ init) ≡ (a + 1) + length init = omega arith in
    inl (1, refl, registers-rows (a + 1) t gates count init next rest b u (omega (arith, e)) (subst (λ k. InRows k t rest b u) z h))

gates-rows : (a t : ℕ) (ps : List ℕ) (first i : ℕ) (gs : List Gate) → a ≡ first + i → InRows a t (gate_eqns ps first i gs) (a + length gs) t
gates-rows a t ps first i [] e = let z : a ≡ a + 0 = omega arith in (z, refl)
gates-rows a t ps first i (g ∷ gs) e =
    let z : (a + 1) + length gs ≡ a + length (g ∷ gs) = omega arith in
    inl (1, ap (λ k. k ∷ []) (sym e), subst (λ b. InRows (a + 1) t (gate_eqns ps first (i + 1) gs) b t) z (gates-rows (a + 1) t ps first (i + 1) gs (omega (arith, e))))

-- ---- bits

module _ (types : List ObcType) (callees : Callees) (other : FlatNode) (clock : ℕ → Clock) where
  abbrev pub B? : ℕ → Type 0
  B? x = IsThereAlways types other clock Bools x

  abbrev pub A : FlatEqn → Type 0
  A e = IsAlways types callees other.variables clock e

  -- a truth value that is there always, or a constant one
  abbrev pub IsBit : Atom → Type 0
  IsBit (Read x) = B? x
  IsBit (Fixed (B b)) = Unit {0}
  IsBit (Fixed v) = ⊥

  pub bits-have : (args : List Atom) → AllByRecursion IsBit args → HaveKinds types callees other.variables args (map (λ a. Bools) args)
  bits-have [] h = tt
  bits-have (Read x ∷ args) h = let i = h.0 in (i.kind, bits-have args h.1)
  bits-have (Fixed (B b) ∷ args) h = ((tt, tt), bits-have args h.1)
  bits-have (Fixed v ∷ args) h = absurd h.0

  pub bits-below : (args : List Atom) → AllByRecursion IsBit args → AreBelow (length other.variables) (flat_map atom_variables args)
  bits-below [] h = tt
  bits-below (Read x ∷ args) h = let i = h.0 in (i.variable, bits-below args h.1)
  bits-below (Fixed v ∷ args) h = bits-below args h.1

  pub bits-there : (args : List Atom) → AllByRecursion IsBit args → AllByRecursion (λ x. IsFrontOf (clock x) []) (flat_map atom_variables args)
  bits-there [] h = tt
  bits-there (Read x ∷ args) h = let i = h.0 in (i.there, bits-there args h.1)
  bits-there (Fixed v ∷ args) h = bits-there args h.1

  -- the places of a machine
  at-place : (ps : List ℕ) (x : ℕ) → AllByRecursion B? ps → IsBit (variable_at ps x)
  at-place [] x h = tt
  at-place (p ∷ ps) zero h = h.0
  at-place (p ∷ ps) (suc x) h = at-place ps x h.1

  at-gate : (first count j : ℕ) → ((x : ℕ) → first ≤ x → x < first + count → B? x) → IsBit (gate_at first count j)
  at-gate first count j f = by (nat_lt j count) refl
    where
      by : (c : Bool) → nat_lt j count ≡ c → IsBit (if c then Read (first + j) else Fixed (B false))
      by true e = let l : j < count = grind (arith, nat_tests, e) in f (first + j) (omega arith) (omega (arith, l))
      by false e = tt

  -- ---- registers

  register-always : (x : ℕ) (b : Bool) (a : Atom) → B? x → IsBit a → A (register_eqn x b a)
  register-always x b (Read y) v i = record { clock_is = refl; restart_is = refl; kinds = record { right = (Bools, tt, i.kind, ap (λ k. k ∷ []) v.kind); clock = tt; restart = tt }; below = (i.variable, tt); there = (i.there, tt) }
  register-always x b (Fixed (B c)) v i = record { clock_is = refl; restart_is = refl; kinds = record { right = (Bools, tt, (tt, tt), ap (λ k. k ∷ []) v.kind); clock = tt; restart = tt }; below = tt; there = tt }
  register-always x b (Fixed c) v i = absurd i

  registers-always : (a first count : ℕ) (init : Bits) (next : List ℕ) → ((x : ℕ) → first ≤ x → x < first + count → B? x) → ((x : ℕ) → a ≤ x → x < a + length init → B? x) → AllByRecursion A (register_eqns a first count init next)
  registers-always a first count [] next f g = tt
  registers-always a first count (b ∷ init) [] f g = tt
  registers-always a first count (b ∷ init) (n ∷ next) f g =
      (register-always a b (gate_at first count n) (g a (omega arith) (omega arith)) (at-gate first count n f), registers-always (a + 1) first count init next f (λ x l u. g x (omega (arith, l)) (omega (arith, u))))

  -- ---- gates

  gate-bits : (ps : List ℕ) (first i : ℕ) (g : Gate) → AllByRecursion B? ps → ((x : ℕ) → first ≤ x → x < first + i → B? x) → AllByRecursion IsBit (gate_args ps first i g)
  gate-bits ps first i (gate.Const b) h f = (tt, tt)
  gate-bits ps first i (gate.Var x) h f = (at-place ps x h, tt)
  gate-bits ps first i (gate.Not j) h f = (at-gate first i j f, tt)
  gate-bits ps first i (gate.And j k) h f = (at-gate first i j f, (at-gate first i k f, tt))
  gate-bits ps first i (gate.Or j k) h f = (at-gate first i j f, (at-gate first i k f, tt))
  gate-bits ps first i (gate.Xor j k) h f = (at-gate first i j f, (at-gate first i k f, tt))
  gate-bits ps first i (gate.Ite j k l) h f = (at-gate first i j f, (at-gate first i k f, (at-gate first i l f, tt)))

  gate-kind : (ps : List ℕ) (first i : ℕ) (g : Gate) → result_kind (gate_op g) (map (λ a. Bools) (gate_args ps first i g)) ≡ Some Bools
  gate-kind ps first i (gate.Const b) = refl
  gate-kind ps first i (gate.Var x) = refl
  gate-kind ps first i (gate.Not j) = refl
  gate-kind ps first i (gate.And j k) = refl
  gate-kind ps first i (gate.Or j k) = refl
  gate-kind ps first i (gate.Xor j k) = refl
  gate-kind ps first i (gate.Ite j k l) = refl

  gates-always : (ps : List ℕ) (first i : ℕ) (gs : List Gate) → AllByRecursion B? ps → ((x : ℕ) → first ≤ x → x < first + (i + length gs) → B? x) → AllByRecursion A (gate_eqns ps first i gs)
  gates-always ps first i [] h f = tt
  gates-always ps first i (g ∷ gs) h f =
      let here = f (first + i) (omega arith) (omega arith) in
      let args = gate_args ps first i g in
      let bits = gate-bits ps first i g h (λ x l u. f x l (omega (arith, u))) in (
        record {
          clock_is = refl;
          restart_is = refl;
          kinds = record { right = (map (λ a. Bools) args, bits-have args bits, Bools, gate-kind ps first i g, ap (λ k. k ∷ []) here.kind); clock = tt; restart = tt };
          below = bits-below args bits;
          there = bits-there args bits;
        },
        gates-always ps first (i + 1) gs h (λ x l u. f x l (omega (arith, u))),
      )

  -- ---- the question

  reads-bits : (xs : List ℕ) → AllByRecursion B? xs → AllByRecursion IsBit (map (λ x. Read x) xs)
  reads-bits [] h = tt
  reads-bits (x ∷ xs) h = (h.0, reads-bits xs h.1)

  all-bools : (a : ℕ) (xs : List ℕ) → map (λ a. Bools) (map (λ x. Read x) xs) ≡ map (λ x. Bools) (range_with_len a (length xs))
  all-bools a [] = refl
  all-bools a (x ∷ xs) = ap (λ ks. Bools ∷ ks) (all-bools (a + 1) xs)

  row-bools : (a c k : ℕ) → ((x : ℕ) → a ≤ x → x < a + k → B? x) → map (variable_kind types other.variables) (range_with_len a k) ≡ map (λ x. Bools) (range_with_len c k)
  row-bools a c zero f = refl
  row-bools a c (suc k) f = let here = f a (omega arith) (omega arith) in ap₂ (λ j js. j ∷ js) here.kind (row-bools (a + 1) (c + 1) k (λ x l u. f x (omega (arith, l)) (omega (arith, u))))

  asking-always : (m : Machine) (name args : List ℕ) (first : ℕ) → IsAskedFor callees m name → length args ≡ m.registers + m.early → AllByRecursion B? args → ((x : ℕ) → first ≤ x → x < first + m.control → B? x) → A (asking_eqn name args first m.control)
  asking-always m name args first asked size h f =
      let reads = map (λ x. Read x) args in
      let bits = reads-bits args h in
      record {
        clock_is = refl;
        restart_is = refl;
        kinds = record {
          right = (
            subst (HaveKinds types callees other.variables reads) (all-bools 0 args ∙ ap bools size ∙ sym asked.takes) (bits-have reads bits),
            row-bools first 0 m.control f ∙ sym asked.gives,
          );
          clock = tt;
          restart = tt;
        };
        below = bits-below reads bits;
        there = bits-there reads bits;
      }

-- ---- the node

pub kind-behind : (types : List ObcType) (vs ws : List Variable) (i : ℕ) → variable_kind types (vs ++ ws) (length vs + i) ≡ variable_kind types ws i
kind-behind types [] ws i = let e : 0 + i ≡ i = omega arith in ap (variable_kind types ws) e
kind-behind types (v ∷ vs) ws i = let e : suc (length vs) + i ≡ suc (length vs + i) = omega arith in ap (variable_kind types (v ∷ vs ++ ws)) e ∙ kind-behind types vs ws i

bit-kind : (types : List ObcType) (a k i : ℕ) → i < k → variable_kind types (map (λ x. added_variable x Truth) (range_with_len a k)) i ≡ Bools
bit-kind types a zero i l = absurd (omega (arith, l))
bit-kind types a (suc k) zero l = refl
bit-kind types a (suc k) (suc i) l = bit-kind types (a + 1) k i (omega (arith, l))

bit-values : (types : List ObcType) (a k : ℕ) → AllByRecursion (λ (v : Variable). HasValue types v.ty) (map (λ x. added_variable x Truth) (range_with_len a k))
bit-values types a zero = tt
bit-values types a (suc k) = (tt, bit-values types (a + 1) k)

module _ (types : List ObcType) (callees : Callees) (n : FlatNode) (before : ℕ → Clock) (m : Machine) (name early late : List ℕ) (c : IsBased types callees before n) (is : IsMachine m) (size : length early ≡ m.early) (asked : IsAskedFor callees m name)
    (earlies : AllByRecursion (IsThereAlways types n before Bools) early) (lates : AllByRecursion (IsThereAlways types n before Bools) late) where
  abbrev pub V : ℕ
  V = length n.variables

  abbrev pub p : Placing
  p = placing_of V m early late

  abbrev pub other : FlatNode
  other = with_steps n m name early late

  abbrev pub clock : ℕ → Clock
  clock = always n before

  pub total : length other.variables ≡ V + bits_added m
  total = length-append n.variables (bit_variables V m) ∙ ap (λ k. V + k) (length-map-range_with_len (λ x. added_variable x Truth) V (bits_added m))

  pub new : (x : ℕ) → V ≤ x → x < V + bits_added m → IsThereAlways types other clock Bools x
  new x l u =
      let e : nat_lt x V ≡ false = grind (arith, nat_tests, l) in
      let base : clock x ≡ [] = ap (λ b. if b then before x else []) e in
      let place : V + (x - V) ≡ x = omega (arith, l) in
      record {
        variable = omega (arith, u, total);
        there = ([], ap (λ d. d ++ []) (sym base));
        kind = ap (variable_kind types other.variables) (sym place) ∙ kind-behind types n.variables (bit_variables V m) (x - V) ∙ bit-kind types V (bits_added m) (x - V) (omega (arith, l, u));
      }

  pub kept : (x : ℕ) → IsThereAlways types n before Bools x → IsThereAlways types other clock Bools x
  kept x h = let l = h.variable in let f = h.there in let e : nat_lt x V ≡ true = grind (arith, nat_tests, l) in record {
    variable = omega (arith, l, total);
    there = (f.0, f.1 ∙ ap (λ d. d ++ f.0) (sym (ap (λ b. if b then before x else []) e)));
    kind = same_kind types callees n.variables (bit_variables V m) x l ∙ h.kind;
  }

  news : (a k : ℕ) → V ≤ a → a + k ≤ V + bits_added m → AllByRecursion (IsThereAlways types other clock Bools) (range_with_len a k)
  news a k l u = each_range (IsThereAlways types other clock Bools) a k (λ x m v. new x (omega (arith, l, m)) (omega (arith, u, v)))

  abbrev front_places : List ℕ
  front_places = register_places m p ++ early

  pub fronts : AllByRecursion (IsThereAlways types other clock Bools) front_places
  fronts =
      both (IsThereAlways types other clock Bools) (register_places m p) early (news V m.registers (omega arith) (omega arith))
      (each_other (IsThereAlways types n before Bools) (IsThereAlways types other clock Bools) kept early earlies)

  all_places : AllByRecursion (IsThereAlways types other clock Bools) (places m p)
  all_places =
      both (IsThereAlways types other clock Bools) (register_places m p) (early ++ (control_places m p ++ late)) (news V m.registers (omega arith) (omega arith))
      (both (IsThereAlways types other clock Bools) early (control_places m p ++ late) (each_other (IsThereAlways types n before Bools) (IsThereAlways types other clock Bools) kept early earlies)
      (both (IsThereAlways types other clock Bools) (control_places m p) late (news (V + m.registers) m.control (omega arith) (omega arith)) (each_other (IsThereAlways types n before Bools) (IsThereAlways types other clock Bools) kept late lates)))

  front_size : length front_places ≡ m.registers + m.early
  front_size = length-append (register_places m p) early ∙ ap₂ (λ a b. a + b) (length-range_with_len V m.registers) size

  always_all : AllByRecursion (IsAlways types callees other.variables clock) (step_eqns m p name)
  always_all =
      let few = is.init in
      both (IsAlways types callees other.variables clock) (register_eqns p.registers p.gates (length m.gates) m.init m.next) (asking_eqn name front_places p.control m.control ∷ gate_eqns (places m p) p.gates 0 m.gates)
      (registers-always types callees other clock V p.gates (length m.gates) m.init m.next (λ x l u. new x (omega (arith, l)) (omega (arith, u))) (λ x l u. new x l (omega (arith, u, few)))) (
        asking-always types callees other clock m name front_places p.control asked front_size fronts (λ x l u. new x (omega (arith, l)) (omega (arith, u))),
        gates-always types callees other clock (places m p) p.gates 0 m.gates all_places (λ x l u. new x (omega (arith, l)) (omega (arith, u))),
      )

  pub rows : InRows V n.inputs (step_eqns m p name) (length other.variables) n.inputs
  rows =
      let few = is.init in
      let more = is.next in
      let e : V + length m.init ≡ V + m.registers = ap (λ k. V + k) few in
      let z : p.gates ≡ p.gates + 0 = omega arith in
      let end : p.gates + length m.gates ≡ length other.variables = omega (arith, total) in
      registers-rows V n.inputs p.gates (length m.gates) m.init m.next (asking_eqn name front_places p.control m.control ∷ gate_eqns (places m p) p.gates 0 m.gates) (length other.variables) n.inputs (few ∙ sym more)
      (subst (λ k. InRows k n.inputs (asking_eqn name front_places p.control m.control ∷ gate_eqns (places m p) p.gates 0 m.gates) (length other.variables) n.inputs) (sym e)
      (inl
      (m.control, refl, subst (λ k. InRows p.gates n.inputs (gate_eqns (places m p) p.gates 0 m.gates) k n.inputs) end (gates-rows p.gates n.inputs (places m p) p.gates 0 m.gates z))))

  clocked : IsBased types callees clock other
  clocked = rows_based types callees n other (bit_variables V m) (step_eqns m p name) before c (record {
    inputs = omega arith;
    outputs = refl;
    variables = refl;
    eqns = refl;
    values = bit-values types V (bits_added m);
    rows = rows;
    always_there = always_all;
  })

pub steps_keep : StepsKeepLaw
steps_keep types callees n before m name early late c is size asked earlies lates = clocked types callees n before m name early late c is size asked earlies lates
