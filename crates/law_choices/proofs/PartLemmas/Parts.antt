-- Reactions of a part.
use Rattle.std.proofs.Common.{◌≡◌, ℕ, zero, suc, ◌+◌, ◌<◌, ◌≤◌, Bool, true, false, nat_lt, if◌then◌else◌, List, [], ◌∷◌, ◌++◌, map, refl, sym, ap, subst, ◌∙◌, arith, IsTrue}
use Rattle.std.specs.List.{AllByRecursion, flat_map, range_with_len}
use Rattle.std.proofs.lemmas.Bool.Decides.{nat_tests}
use Rattle.hp_base.specs.Kinds.{KindData, AreOfKinds}
use Rattle.hp_base.specs.declared.value.Value.{Value}
use Rattle.hp_base.specs.declared.value.Value.TheVariants.{Absent}
use Rattle.hp_flat.specs.declared.equation.Atom.{Atom}
use Rattle.hp_flat.specs.declared.equation.Atom.TheVariants.{Variable as Read, Value as Fixed}
use Rattle.hp_flat.specs.Equations.{Clock, Right, operator, register, called, FlatEqn}
use Rattle.hp_flat.specs.Nodes.{FlatNode}
use Rattle.hp_obc.specs.Steps.{Names}
use Rattle.law_equations.specs.Meaning.Instants.{Instant, has_constructor}
use Rattle.law_equations.specs.Meaning.Fitting.{IsThere, is_there, is_choice, is_flag, ClockFits, atom_variables, operands, IsTaken, EqnFits, Fits}
use Rattle.law_equations.specs.Meaning.Reactions.{Answers, is_set, Continues, Reaction, outputs_at}
use Rattle.law_equations.specs.Meaning.Scheduling.{clock_variables, right_reads, reads, IsDefinedBelow}
use Rattle.law_choices.specs.Part.Part.{Renumbering, IsRenumbering, renumbered_atom, renumbered_right, renumbered_clock, renumbered, AreKept, EqnKept, ArePart, IsPart}
use Rattle.law_choices.specs.Part.Laws.{PartLaw, AnsweredLaw, RankedLaw, NoInputsLaw}
use Rattle.law_choices.proofs.PartLemmas.Values.{part_instant, part_at, part_values, part_atoms, part_holds, part_eqns, same_has, same_set}

below-nat_lt : (x n : ℕ) → nat_lt x n ≡ true → x < n
below-nat_lt x n h = grind (arith, nat_tests)

module _ (r : Renumbering) (is : IsRenumbering r) where
  abbrev Of : Instant → Instant
  Of now = part_instant r now

  -- ---- what is there

  there : (now : Instant) (x : ℕ) → r.kept x ≡ true → IsThere now x → IsThere (Of now) (r.number x)
  there now x k h = subst (λ v. IsTrue (is_there v)) (sym (part_at r is now x k)) h

  all_there : (now : Instant) (xs : List ℕ) → AreKept r xs → AllByRecursion (IsThere now) xs → AllByRecursion (IsThere (Of now)) (map r.number xs)
  all_there now [] k h = tt
  all_there now (x ∷ xs) k h = (there now x k.0 h.0, all_there now xs k.1 h.1)

  flags : (now : Instant) (xs : List ℕ) → AreKept r xs → AllByRecursion (λ x. IsTrue (is_flag (now x))) xs → AllByRecursion (λ x. IsTrue (is_flag (Of now x))) (map r.number xs)
  flags now [] k h = tt
  flags now (x ∷ xs) k h = (subst (λ v. IsTrue (is_flag v)) (sym (part_at r is now x k.0)) h.0, flags now xs k.1 h.1)

  args_there : (now : Instant) (args : List Atom) → AreKept r (flat_map atom_variables args) → AllByRecursion (IsThere now) (flat_map atom_variables args)
      → AllByRecursion (IsThere (Of now)) (flat_map atom_variables (map (renumbered_atom r) args))
  args_there now [] k h = tt
  args_there now (Read x ∷ args) k h = (there now x k.0 h.0, args_there now args k.1 h.1)
  args_there now (Fixed v ∷ args) k h = args_there now args k h

  right_there : (now : Instant) (right : Right) → AreKept r (operands right) → AllByRecursion (IsThere now) (operands right) → AllByRecursion (IsThere (Of now)) (operands (renumbered_right r right))
  right_there now (operator op args) k h = args_there now args k h
  right_there now (register first (Read x)) k h = (there now x k.0 h.0, tt)
  right_there now (register first (Fixed v)) k h = tt
  right_there now (called f args) k h = args_there now args k h

  clock_fits : (now : Instant) (clock : Clock) → AreKept r (clock_variables clock) → ClockFits clock now → ClockFits (renumbered_clock r clock) (Of now)
  clock_fits now [] k h = tt
  clock_fits now (on ∷ clock) k h =
      let same = part_at r is now on.0 k.0 in
      (subst (λ v. IsTrue (is_choice v)) (sym same) h.0, λ c. clock_fits now clock k.1 (h.1 (subst (λ v. IsTrue (has_constructor on.1 v)) same c)))

  taken : (takes : Names (List KindData)) (now : Instant) (right : Right) → AreKept r (operands right) → IsTaken takes now right → IsTaken takes (Of now) (renumbered_right r right)
  taken takes now (operator op args) k h = tt
  taken takes now (register first next) k h = tt
  taken takes now (called f args) k h = subst (AreOfKinds (takes f)) (sym (part_atoms r is now args k)) h

  eqn_fits : (takes : Names (List KindData)) (now : Instant) (e : FlatEqn) → EqnKept r e → EqnFits takes now e → EqnFits takes (Of now) (renumbered r e)
  eqn_fits takes now e k f =
      let same = part_holds r is now e.clock k.clock in
      record {
        clock = clock_fits now e.clock k.clock f.clock;
        restart = flags now e.restart k.restart f.restart;
        operands_there = λ c. right_there now e.right k.operands (f.operands_there (subst IsTrue same c));
        targets_there = λ c. all_there now e.targets k.targets (f.targets_there (subst IsTrue same c));
        args_taken = λ c. taken takes now e.right k.operands (f.args_taken (subst IsTrue same c));
      }

  eqns_fit : (takes : Names (List KindData)) (now : Instant) (es fs : List FlatEqn) → ArePart r es fs → AllByRecursion (EqnFits takes now) es → AllByRecursion (EqnFits takes (Of now)) fs
  eqns_fit takes now es fs (ArePart.no_eqn) h = tt
  eqns_fit takes now es fs (ArePart.kept_eqn e k p) h = (eqn_fits takes now e k h.0, eqns_fit takes now _ _ p h.1)
  eqns_fit takes now es fs (ArePart.left_eqn e k p) h = eqns_fit takes now _ _ p h.1

  -- ---- ranks

  all_at : (P Q : ℕ → Type 0) (xs : List ℕ) → AreKept r xs → ((x : ℕ) → r.kept x ≡ true → P x → Q (r.number x)) → AllByRecursion P xs → AllByRecursion Q (map r.number xs)
  all_at P Q [] k f h = tt
  all_at P Q (x ∷ xs) k f h = (f x k.0 h.0, all_at P Q xs k.1 f h.1)

  defined_below : (e : FlatEqn) (es fs : List FlatEqn) → ArePart r es fs → (x : ℕ) → r.kept x ≡ true → IsDefinedBelow es e x → IsDefinedBelow fs (renumbered r e) (r.number x)
  defined_below e es fs (ArePart.no_eqn) x k h = tt
  defined_below e es fs (ArePart.kept_eqn d w p) x k h = (λ c. h.0 (sym (same_has r is d.targets x w.targets k) ∙ c), defined_below e _ _ p x k h.1)
  defined_below e es fs (ArePart.left_eqn d w p) x k h = defined_below e _ _ p x k h.1

  map_both : (xs ys : List ℕ) → map r.number (xs ++ ys) ≡ map r.number xs ++ map r.number ys
  map_both [] ys = refl
  map_both (x ∷ xs) ys = ap (λ zs. r.number x ∷ zs) (map_both xs ys)

  kept_both : (xs ys : List ℕ) → AreKept r xs → AreKept r ys → AreKept r (xs ++ ys)
  kept_both [] ys h k = k
  kept_both (x ∷ xs) ys h k = (h.0, kept_both xs ys h.1 k)

  clock_read : (clock : Clock) → clock_variables (renumbered_clock r clock) ≡ map r.number (clock_variables clock)
  clock_read [] = refl
  clock_read (on ∷ clock) = ap (λ zs. r.number on.0 ∷ zs) (clock_read clock)

  args_read : (args : List Atom) → flat_map atom_variables (map (renumbered_atom r) args) ≡ map r.number (flat_map atom_variables args)
  args_read [] = refl
  args_read (Read x ∷ args) = ap (λ zs. r.number x ∷ zs) (args_read args)
  args_read (Fixed v ∷ args) = args_read args

  right_read : (right : Right) → right_reads (renumbered_right r right) ≡ map r.number (right_reads right)
  right_read (operator op args) = args_read args
  right_read (register first next) = refl
  right_read (called f args) = args_read args

  right_kept : (right : Right) → AreKept r (operands right) → AreKept r (right_reads right)
  right_kept (operator op args) k = k
  right_kept (register first next) k = tt
  right_kept (called f args) k = k

  reads_are : (e : FlatEqn) → reads (renumbered r e) ≡ map r.number (reads e)
  reads_are e =
      (λ j. clock_read e.clock j ++ (map r.number e.restart ++ right_read e.right j))
      ∙ sym (map_both (clock_variables e.clock) (e.restart ++ right_reads e.right) ∙ ap (λ zs. map r.number (clock_variables e.clock) ++ zs) (map_both e.restart (right_reads e.right)))

  reads_kept : (e : FlatEqn) → EqnKept r e → AreKept r (reads e)
  reads_kept e k = kept_both (clock_variables e.clock) (e.restart ++ right_reads e.right) k.clock (kept_both e.restart (right_reads e.right) k.restart (right_kept e.right k.operands))

  eqn_ranked : (all ones : List FlatEqn) → ArePart r all ones → (e : FlatEqn) → EqnKept r e → AllByRecursion (IsDefinedBelow all e) (reads e) → AllByRecursion (IsDefinedBelow ones (renumbered r e)) (reads (renumbered r e))
  eqn_ranked all ones p e k h =
      subst (AllByRecursion (IsDefinedBelow ones (renumbered r e))) (sym (reads_are e)) (all_at (IsDefinedBelow all e) (IsDefinedBelow ones (renumbered r e)) (reads e) (reads_kept e k) (λ x w b. defined_below e all ones p x w b) h)

  eqns_ranked : (all ones : List FlatEqn) → ArePart r all ones → (es fs : List FlatEqn) → ArePart r es fs → AllByRecursion (λ (e : FlatEqn). AllByRecursion (IsDefinedBelow all e) (reads e)) es
      → AllByRecursion (λ (e : FlatEqn). AllByRecursion (IsDefinedBelow ones e) (reads e)) fs
  eqns_ranked all ones whole es fs (ArePart.no_eqn) h = tt
  eqns_ranked all ones whole es fs (ArePart.kept_eqn e k p) h = (eqn_ranked all ones whole e k h.0, eqns_ranked all ones whole _ _ p h.1)
  eqns_ranked all ones whole es fs (ArePart.left_eqn e k p) h = eqns_ranked all ones whole _ _ p h.1

-- ---- one instant, and all

module _ (r : Renumbering) (n m : FlatNode) (part : IsPart r n m) where
  abbrev is : IsRenumbering r
  is = part.renumbering

  -- an input keeps its number
  input_at : (now : Instant) (x : ℕ) → x < n.inputs → part_instant r now x ≡ now x
  input_at now x h = let own = part.own_inputs x h in subst (λ y. part_instant r now y ≡ now x) own.1 (part_at r is now x own.0)

  inputs_at : (now : Instant) (a k : ℕ) → a + k ≤ n.inputs → map (part_instant r now) (range_with_len a k) ≡ map now (range_with_len a k)
  inputs_at now a zero h = refl
  inputs_at now a (suc k) h = (λ j. input_at now a (omega (arith, h)) j ∷ inputs_at now (a + 1) k (omega (arith, h)) j)

  inputs_there : (now : Instant) (a k : ℕ) → a + k ≤ n.inputs → AllByRecursion (IsThere now) (range_with_len a k) → AllByRecursion (IsThere (part_instant r now)) (range_with_len a k)
  inputs_there now a zero h t = tt
  inputs_there now a (suc k) h t = (subst (λ v. IsTrue (is_there v)) (sym (input_at now a (omega (arith, h)))) t.0, inputs_there now (a + 1) k (omega (arith, h)) t.1)

  -- what is kept and is no input has the number of none
  no_input : (x : ℕ) → r.kept x ≡ true → n.inputs ≤ x → n.inputs ≤ r.number x
  no_input x k l = by (nat_lt (r.number x) n.inputs) refl
    where
      back : r.old (r.number x) ≡ x
      back = is.back x k

      above : nat_lt (r.number x) n.inputs ≡ false → n.inputs ≤ r.number x
      above e = grind (arith, nat_tests)

      by : (b : Bool) → nat_lt (r.number x) n.inputs ≡ b → n.inputs ≤ r.number x
      by true e =
          let low = below-nat_lt (r.number x) n.inputs e in
          let own = part.own_inputs (r.number x) low in
          let itself : r.number x ≡ x = sym (is.back (r.number x) own.0) ∙ ap r.old own.1 ∙ back in
          absurd (omega (arith, l, low, itself))
      by false e = above e

  module _ (answers : Answers) where
    continues : (row : List Value) (now : Instant) (past : List Instant) → Continues answers n past row now → Continues answers m (map (part_instant r) past) row (part_instant r now)
    continues row now past c = record {
      inputs_are = ap (λ k. map (part_instant r now) (range_with_len 0 k)) part.inputs ∙ inputs_at now 0 n.inputs (omega arith) ∙ c.inputs_are;
      equations = part_eqns r is answers past now n.eqns m.eqns part.eqns c.equations;
      others = λ y l s. by y l s (nat_lt y r.count) refl;
    }
      where
        by : (y : ℕ) → m.inputs ≤ y → is_set m.eqns (part_instant r now) y ≡ false → (b : Bool) → nat_lt y r.count ≡ b → (if b then now (r.old y) else Absent) ≡ Absent
        by y l s false e = refl
        by y l s true e =
            let f = is.forth y (below-nat_lt y r.count e) in
            let inputs = part.inputs in
            c.others (r.old y) (above y l f) (sym (same_set r is now n.eqns m.eqns part.eqns (r.old y) f.0) ∙ ap (is_set m.eqns (part_instant r now)) f.1 ∙ s)
          where
            above : (y : ℕ) → m.inputs ≤ y → (r.kept (r.old y) ≡ true) × (r.number (r.old y) ≡ y) → n.inputs ≤ r.old y
            above y l f = test (nat_lt (r.old y) n.inputs) refl
              where
                more : nat_lt (r.old y) n.inputs ≡ false → n.inputs ≤ r.old y
                more e = grind (arith, nat_tests)

                test : (b : Bool) → nat_lt (r.old y) n.inputs ≡ b → n.inputs ≤ r.old y
                test true e =
                    let low = below-nat_lt (r.old y) n.inputs e in
                    let own = part.own_inputs (r.old y) low in
                    let itself : y ≡ r.old y = sym f.1 ∙ own.1 in
                    let inputs = part.inputs in
                    absurd (omega (arith, l, low, itself, inputs))
                test false e = more e

    reaction : (rows : List (List Value)) (instants : List Instant) → Reaction answers n rows instants → Reaction answers m rows (map (part_instant r) instants)
    reaction [] [] h = tt
    reaction [] (now ∷ past) h = absurd h
    reaction (row ∷ rows) [] h = absurd h
    reaction (row ∷ rows) (now ∷ past) h = (reaction rows past h.0, continues row now past h.1)

  outputs_same : (now : Instant) → outputs_at m (part_instant r now) ≡ outputs_at n now
  outputs_same now = ap (map (part_instant r now)) part.outputs ∙ part_values r is now n.outputs part.outputs_kept

  all_outputs : (instants : List Instant) → map (outputs_at m) (map (part_instant r) instants) ≡ map (outputs_at n) instants
  all_outputs [] = refl
  all_outputs (now ∷ past) = (λ j. outputs_same now j ∷ all_outputs past j)

  fits : (takes : Names (List KindData)) (now : Instant) → Fits takes n now → Fits takes m (part_instant r now)
  fits takes now f = record {
    inputs = subst (λ k. AllByRecursion (IsThere (part_instant r now)) (range_with_len 0 k)) (sym part.inputs) (inputs_there now 0 n.inputs (omega arith) f.inputs);
    outputs = subst (AllByRecursion (IsThere (part_instant r now))) (sym part.outputs) (all_there r is now n.outputs part.outputs_kept f.outputs);
    eqns = eqns_fit r is takes now n.eqns m.eqns part.eqns f.eqns;
  }

  all_fit : (takes : Names (List KindData)) (instants : List Instant) → AllByRecursion (Fits takes n) instants → AllByRecursion (Fits takes m) (map (part_instant r) instants)
  all_fit takes [] h = tt
  all_fit takes (now ∷ past) h = (fits takes now h.0, all_fit takes past h.1)

  pub targets_above : (xs : List ℕ) → AreKept r xs → AllByRecursion (λ x. n.inputs ≤ x) xs → AllByRecursion (λ x. m.inputs ≤ x) (map r.number xs)
  targets_above [] k h = tt
  targets_above (x ∷ xs) k h = let inputs = part.inputs in let low = no_input x k.0 h.0 in (omega (arith, inputs, low), targets_above xs k.1 h.1)

  none_defined : (es fs : List FlatEqn) → ArePart r es fs → AllByRecursion (λ (e : FlatEqn). AllByRecursion (λ x. n.inputs ≤ x) e.targets) es → AllByRecursion (λ (e : FlatEqn). AllByRecursion (λ x. m.inputs ≤ x) e.targets) fs
  none_defined es fs (ArePart.no_eqn) h = tt
  none_defined es fs (ArePart.kept_eqn e k p) h = (targets_above e.targets k.targets h.0, none_defined _ _ p h.1)
  none_defined es fs (ArePart.left_eqn e k p) h = none_defined _ _ p h.1

-- ---- the laws

pub part_law : PartLaw
part_law r n m part answers takes inputs instants fit reacts = record {
  others = map (part_instant r) instants;
  reaction = reaction r n m part answers inputs instants reacts;
  fit = all_fit r n m part takes instants fit;
  outputs = all_outputs r n m part instants;
}

pub ranked_law : RankedLaw
ranked_law r n m part h = eqns_ranked r part.renumbering n.eqns m.eqns part.eqns n.eqns m.eqns part.eqns h

pub no_inputs_law : NoInputsLaw
no_inputs_law r n m part h = none_defined r n m part n.eqns m.eqns part.eqns h

pub answered_law : AnsweredLaw
answered_law r n m answers takes part same answered args earlier h k =
    let a = answered args earlier (subst (λ f. AreOfKinds (takes f) args) same h) (subst (λ f. AllByRecursion (AreOfKinds (takes f)) earlier) same k) in
    record {
      now = part_instant r a.now;
      past = map (part_instant r) a.past;
      reaction = reaction r n m part answers (args ∷ earlier) (a.now ∷ a.past) a.reaction;
      fit = all_fit r n m part takes (a.now ∷ a.past) a.fit;
      answer = ap (λ f. answers f args earlier) same ∙ a.answer ∙ sym (outputs_same r n m part a.now);
    }
