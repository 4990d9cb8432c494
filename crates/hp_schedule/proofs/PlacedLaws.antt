-- A node whose equations have other places is the same in all that does not speak of places.
use Rattle.std.proofs.Common.{◌≡◌, ℕ, ◌<◌, ◌≤◌, true, ◌&&◌, ◌||◌, length, get_or, List, [], ◌∷◌, map, refl, sym, ap, subst, ◌∙◌, arith}
use Rattle.std.specs.List.{AllByRecursion, swap}
use Rattle.std.specs.List.Sorted.{IsPermutation}
use Rattle.std.proofs.Math.ListN.{get_or-map, set}
use Rattle.std.proofs.lemmas.List.{length-map, map-set}
use Rattle.std.proofs.lemmas.List.Edits.{swap_is}
use Rattle.std.proofs.lemmas.List.Sorted.{IsPermutation-keeps, IsPermutation-refl, IsPermutation-swap, IsPermutation-sym, IsPermutation-trans}
use Rattle.hp_base.specs.Kinds.{KindData}
use Rattle.hp_base.specs.declared.value.Value.{Value}
use Rattle.hp_obc.specs.Machines.{ObcType}
use Rattle.hp_obc.specs.Steps.{Names}
use Rattle.hp_flat.specs.Equations.{FlatEqn}
use Rattle.hp_flat.specs.Nodes.{FlatNode}
use Rattle.hp_normal.specs.Reading.{copy_of}
use Rattle.hp_normal.specs.Retargeting.{with_eqns}
use Rattle.law_equations.specs.Meaning.Instants.{Instant, holds}
use Rattle.law_equations.specs.Meaning.Reactions.{Answers, has, is_set, Holds, Continues, Reaction}
use Rattle.law_equations.specs.Meaning.Fitting.{EqnFits, Fits}
use Rattle.law_equations.specs.Meaning.Scheduling.{reads, EqnWithin, IsWithin, IsDefinedBelow, IsRanked}
use Rattle.law_equations.specs.Followed.Premises.{EqnForm}
use Rattle.law_equations.specs.Followed.Programs.{CallsAmong, CallsOnly, Answered}
use Rattle.law_equations.specs.Fewer.Keeping.{KeepsReactions}
use Rattle.law_equations.specs.Fewer.Compiling.{CopyAgrees, FlatForm}
use Rattle.law_equations.specs.Made.Laws.{unplaced}
use Rattle.law_equations.proofs.FewerLemmas.Members.{each_map}
use Rattle.law_equations.proofs.FewerLemmas.OrderLaws.{each_moved}
use Rattle.law_equations.proofs.FewerLemmas.CompiledLaws.{still-answered}

-- ---- places that are put back

-- equations in the order of some without places, which are those of others in another order
pub record Placed (us ds : List FlatEqn) : Type 0 where
  pub placed : List FlatEqn
  pub alike : map unplaced placed ≡ us
  pub same : IsPermutation placed ds

first_map : (f : FlatEqn → FlatEqn) (es : List FlatEqn) (d : FlatEqn) (ds : List FlatEqn) → map f es ≡ d ∷ ds → 0 < length es
first_map f [] d ds h = absurd (cc)
first_map f (e ∷ es) d ds h = omega arith

mapped_swap : (f : FlatEqn → FlatEqn) (es : List FlatEqn) (i j : ℕ) → i < length es → j < length es → map f (swap es i j) ≡ swap (map f es) i j
mapped_swap f [] i j h g = absurd (omega arith)
mapped_swap f (e ∷ es) i j h g =
    let all : List FlatEqn = e ∷ es in
    let count : length (map f all) ≡ length all = length-map all f in
    let i_in : i < length (map f all) = omega arith in
    let j_in : j < length (map f all) = omega arith in
    ap (map f) (sym (swap_is all i j e h g))
    ∙ map-set f (set all i (get_or all j e)) j (get_or all i e)
    ∙ ap (λ ds. set ds j (f (get_or all i e))) (map-set f all i (get_or all j e))
    ∙ (λ k. set (set (map f all) i (sym (get_or-map f all j e) k)) j (sym (get_or-map f all i e) k))
    ∙ swap_is (map f all) i j (f e) i_in j_in

pub placed-back : (es ds : List FlatEqn) → IsPermutation (map unplaced es) (map unplaced ds) → Placed (map unplaced es) ds
placed-back es ds p =
    IsPermutation-keeps (map unplaced ds) (λ us. Placed us ds) (record { placed = ds; alike = refl; same = IsPermutation-refl ds })
    (λ us i j i_in j_in h.
    let count : length (map unplaced h.placed) ≡ length h.placed = length-map h.placed unplaced in
    let inside_i : i < length h.placed = omega (arith, ap length h.alike, count) in
    let inside_j : j < length h.placed = omega (arith, ap length h.alike, count) in
    record {
      placed = swap h.placed i j;
      alike = mapped_swap unplaced h.placed i j inside_i inside_j ∙ ap (λ vs. swap vs i j) h.alike;
      same = IsPermutation-trans (swap h.placed i j) h.placed ds (IsPermutation-sym h.placed (swap h.placed i j) (IsPermutation-swap h.placed (swap h.placed i j) i j inside_i inside_j refl)) h.same;
    })
    (map unplaced es) (IsPermutation-sym (map unplaced es) (map unplaced ds) p)

-- in another order equations have ranks, too
pub ranked-moved : (es ds : List FlatEqn) → IsPermutation es ds → IsRanked es → IsRanked ds
ranked-moved es ds p h =
    each_moved (λ (e : FlatEqn). AllByRecursion (IsDefinedBelow ds e) (reads e)) es ds p
    (each_map (λ (e : FlatEqn). AllByRecursion (IsDefinedBelow es e) (reads e)) (λ (e : FlatEqn). AllByRecursion (IsDefinedBelow ds e) (reads e))
    (λ e r. each_map (IsDefinedBelow es e) (IsDefinedBelow ds e) (λ x q. each_moved (λ (d : FlatEqn). has d.targets x ≡ true → d.at < e.at) es ds p q) (reads e) r) es h)

-- ---- what does not speak of places

module _ (P : FlatEqn → Type 0) (forth : (e : FlatEqn) → P e → P (unplaced e)) (back : (e : FlatEqn) → P (unplaced e) → P e) where
  all_forth : (es : List FlatEqn) → AllByRecursion P es → AllByRecursion P (map unplaced es)
  all_forth [] h = tt
  all_forth (e ∷ es) h = (forth e h.0, all_forth es h.1)

  all_back : (es : List FlatEqn) → AllByRecursion P (map unplaced es) → AllByRecursion P es
  all_back [] h = tt
  all_back (e ∷ es) h = (back e h.0, all_back es h.1)

  pub all-alike : (es ds : List FlatEqn) → map unplaced ds ≡ map unplaced es → AllByRecursion P es → AllByRecursion P ds
  all-alike es ds same h = all_back ds (subst (AllByRecursion P) (sym same) (all_forth es h))

pub same-count : (es ds : List FlatEqn) → map unplaced ds ≡ map unplaced es → length ds ≡ length es
same-count es ds h = sym (length-map ds unplaced) ∙ ap length h ∙ length-map es unplaced

set_up : (es : List FlatEqn) (now : Instant) (x : ℕ) → is_set (map unplaced es) now x ≡ is_set es now x
set_up [] now x = refl
set_up (e ∷ es) now x = ap (λ b. (holds e.clock now && has e.targets x) || b) (set_up es now x)

module _ (n : FlatNode) (ds : List FlatEqn) (same : map unplaced ds ≡ map unplaced n.eqns) where
  pub within-alike : IsWithin n → IsWithin (with_eqns n ds)
  within-alike h = record {
    inputs = h.inputs;
    outputs = h.outputs;
    eqns = all-alike (EqnWithin (length n.variables)) (λ e w. record { targets = w.targets; clock = w.clock; operands = w.operands; restart = w.restart })
        (λ e w. record { targets = w.targets; clock = w.clock; operands = w.operands; restart = w.restart }) n.eqns ds same h.eqns;
  }

  pub form-alike : (types : List ObcType) → IsRanked ds → FlatForm types n → FlatForm types (with_eqns n ds)
  form-alike types ranked h = record {
    within = within-alike h.within;
    no_inputs = all-alike (λ (e : FlatEqn). AllByRecursion (λ x. n.inputs ≤ x) e.targets) (λ e q. q) (λ e q. q) n.eqns ds same h.no_inputs;
    ranked = ranked;
    eqns = all-alike (EqnForm types n.variables) (λ e f. record { clock = f.clock; constants = f.constants }) (λ e f. record { clock = f.clock; constants = f.constants }) n.eqns ds same h.eqns;
    copies = all-alike (λ (e : FlatEqn). CopyAgrees n.variables (copy_of e)) (λ e q. q) (λ e q. q) n.eqns ds same h.copies;
    names_differ = h.names_differ;
    names_own = h.names_own;
    few = omega (arith, h.few, same-count n.eqns ds same);
  }

  pub calls-alike : (names : List (List ℕ)) → CallsOnly names n.eqns → CallsOnly names ds
  calls-alike names h = all-alike (λ (e : FlatEqn). CallsAmong names e.right) (λ e q. q) (λ e q. q) n.eqns ds same h

  module _ (answers : Answers) (takes : Names (List KindData)) where
    continues_alike : (past : List Instant) (inputs : List Value) (now : Instant) → Continues answers n past inputs now → Continues answers (with_eqns n ds) past inputs now
    continues_alike past inputs now c = record {
      inputs_are = c.inputs_are;
      equations = all-alike (Holds answers past now) (λ e q. q) (λ e q. q) n.eqns ds same c.equations;
      others = λ x h u. c.others x h (sym (set_up n.eqns now x) ∙ ap (λ es. is_set es now x) (sym same) ∙ set_up ds now x ∙ u);
    }

    reaction_alike : (inputs : List (List Value)) (instants : List Instant) → Reaction answers n inputs instants → Reaction answers (with_eqns n ds) inputs instants
    reaction_alike [] [] r = tt
    reaction_alike [] (now ∷ past) r = absurd r
    reaction_alike (inputs ∷ earlier) [] r = absurd r
    reaction_alike (inputs ∷ earlier) (now ∷ past) r = (reaction_alike earlier past r.0, continues_alike past inputs now r.1)

    fits_alike : (now : Instant) → Fits takes n now → Fits takes (with_eqns n ds) now
    fits_alike now f = record {
      inputs = f.inputs;
      outputs = f.outputs;
      eqns = all-alike (EqnFits takes now) (λ e q. record { clock = q.clock; restart = q.restart; operands_there = q.operands_there; targets_there = q.targets_there; args_taken = q.args_taken })
          (λ e q. record { clock = q.clock; restart = q.restart; operands_there = q.operands_there; targets_there = q.targets_there; args_taken = q.args_taken }) n.eqns ds same f.eqns;
    }

  keeps_alike : KeepsReactions n (with_eqns n ds)
  keeps_alike answers takes inputs instants fit r = record {
    others = instants;
    reaction = reaction_alike answers takes inputs instants r;
    fit = each_map (Fits takes n) (Fits takes (with_eqns n ds)) (λ now f. fits_alike answers takes now f) instants fit;
    outputs = refl;
  }

  pub answered-alike : (answers : Answers) (takes : Names (List KindData)) → Answered answers takes n → Answered answers takes (with_eqns n ds)
  answered-alike answers takes h = still-answered answers takes n (with_eqns n ds) refl keeps_alike h
