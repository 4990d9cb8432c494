-- Worked: the run of a node that calls a node with a controllable variable.
use Rattle.std.proofs.Common.{◌≡◌, List, [], ◌∷◌, Some, None, refl, sym, ap, inl, inr, subst, ◌∙◌, arith}
use Rattle.std.proofs.lemmas.List.Elements.{All-nil, All-cons}
use Rattle.std.specs.Prelude.{Bool, true, false, IsTrue, reverse, codes, ◌++◌, ◌||◌, ◌&&◌}
use Rattle.hp_base.specs.declared.value.Value.{Value}
use Rattle.hp_base.specs.declared.value.Value.TheVariants.{B}
use Rattle.hp_tree.specs.declared.expr.Op2.TheVariants.{Or}
use Rattle.hp_tree.specs.declared.program.Item.{Item}
use Rattle.hp_tree.specs.declared.program.Item.TheVariants.{NodeItem}
use Rattle.hp_tree.specs.Expressions.{two, call, no_expr, more_exprs}
use Rattle.hp_tree.specs.Blocks.{block, no_eqn, more_eqns}
use Rattle.hp_tree.specs.Programs.{Node}
use Rattle.hp_tree.specs.Operators.{real, is_there, marked, two_marked}
use Rattle.hp_tree.specs.Instant.{Inputs, Controls, Body, Enforce, Equations, Right, Fresh, Instance, Head, Named, Place, Instant, Past}
use Rattle.hp_tree.specs.Meaning.{meaning}
use Rattle.hp_meaning.specs.declared.causal.point.PointKind.TheVariants as kind
use Rattle.hp_meaning.specs.Causal.Causality.{Ranked, IsRanked}
use Rattle.hp_meaning.specs.Causal.Clocked.{ClocksRight}
use Rattle.hp_meaning.specs.Causal.OneReaction.{OneInstant}
use Rattle.hp_meaning.specs.Causal.Points.{Placed}
use Rattle.hp_meaning.specs.Causal.Abstract.{abstract_meaning}
use Rattle.hp_meaning.specs.Causal.Steering.{steered_by}
use Rattle.hp_meaning.proofs.CausalLemmas.Ranking.{ranks_enough}
use Rattle.hp_meaning.proofs.CausalLemmas.Worked.{here, x, y, z, c, bool, v, def, tested}
use Rattle.hp_meaning.proofs.CausalLemmas.Unique.{one_instant}
use Rattle.hp_meaning.specs.Contract.Forgetting.{erase}
use Rattle.hp_meaning.specs.Contract.FreePlaces.{InputsFit, instance_at}
use Rattle.hp_meaning.specs.Contract.Duties.{duty}
use Rattle.hp_meaning.specs.Contract.Game.{Choice, AreChoices, at_controls, IsNext, Permitted, Safe, IsChosen, AtMost, KeptLaw}
use Rattle.hp_meaning.specs.Contract.ChosenRuns.{own_past, Chosen, IsChosenRun}
use Rattle.law_choices.specs.Once.Laws.{CallsControlled, SomeChosenRunLaw}

-- y = x or c, which is to be true
abbrev guard : Node
guard =
    record {
      name = codes "guard";
      span = here;
      inputs = bool x ∷ [];
      outputs = bool y ∷ [];
      contract = Some (record { body = block [] no_eqn; assume = None; enforce = Some (v y); controls = bool c ∷ []; span = here });
      body = block [] (more_eqns (def y (two here Or (v x) (v c))) no_eqn);
    }

abbrev caller : Node
caller =
    record {
      name = codes "caller";
      span = here;
      inputs = bool x ∷ [];
      outputs = bool z ∷ [];
      contract = None;
      body = block [] (more_eqns (def z (call here (codes "guard") false (more_exprs (v x) no_expr))) no_eqn);
    }

abbrev guarded : List Item
guarded = NodeItem guard ∷ NodeItem caller ∷ []

-- ---- it is in order

guard_ranked : Ranked guard
guard_ranked = ranks_enough guard (0 ∷ 1 ∷ []) (tt, (tt, tt)) (tested guard (0 ∷ 1 ∷ []) refl refl)

caller_ranked : Ranked caller
caller_ranked = ranks_enough caller (1 ∷ 0 ∷ []) (tt, (tt, tt)) (tested caller (1 ∷ 0 ∷ []) refl refl)

guarded_ranked : IsRanked guarded
guarded_ranked = (guard_ranked, (caller_ranked, tt))

guard_clocks : ClocksRight guard
guard_clocks = record { outputs = λ n t. refl; body = (tt, ((tt, (refl, tt), (refl, refl)), tt)); contract = ((tt, tt), tt, refl) }

caller_clocks : ClocksRight caller
caller_clocks = record { outputs = λ n t. refl; body = (tt, ((tt, (refl, tt), (refl, tt)), tt)); contract = tt }

-- ---- the game

module _ (b : Bool) (w : Value) (is : w ≡ B b) (history : Past) (free now : Instant) (meets : (p : Place) → now p ≡ abstract_meaning guarded guard.name (w ∷ []) (record { past = history; free = steered_by free (at_controls (B true ∷ [])) }) now p) where
  output_is : now (Named y ∷ []) ≡ B (b || true)
  output_is = meets (Named y ∷ []) ∙ meets (Body ∷ Named y ∷ []) ∙ ap (λ u. two_marked Or (B true) (marked u) (B true)) is

  owes : duty guard now ≡ (b || true) && true
  owes = rw (meets (Enforce ∷ []), output_is) refl

always : (b : Bool) → IsTrue ((b || true) && true)
always true = refl
always false = refl

keeps : (history : Past) (inputs : List Value) (early now : Instant) → InputsFit [] guard.inputs inputs → IsNext guarded guard history inputs early (B true ∷ []) now → IsTrue (duty guard now)
keeps history [] early now fits next = absurd fits
keeps history (w ∷ u ∷ inputs) early now fits next = absurd fits.1
keeps history (w ∷ []) early now fits next = owes fits.0.0 w fits.0.1 history next.free now next.meets ∙ always fits.0.0

-- a choice of one variable
of_one : (P : Choice → Type 0) → ((t : Bool) → P (B t ∷ [])) → (d : Choice) → AreChoices [] (bool c ∷ []) d → P d
of_one P f [] l = absurd l
of_one P f (w ∷ []) (inl e, l) = subst (λ u. P (u ∷ [])) (sym e) (f true)
of_one P f (w ∷ []) (inr (inl e), l) = subst (λ u. P (u ∷ [])) (sym e) (f false)
of_one P f (w ∷ []) (inr (inr m), l) = absurd m
of_one P f (w ∷ u ∷ d) l = absurd l.1

at_most_true : (t : Bool) → AtMost [] (bool c ∷ []) (B t ∷ []) (B true ∷ [])
at_most_true true = inr (refl, tt)
at_most_true false = inl ((λ e. absurd (cc)), inl refl)

-- A node without controllable variables has the empty choice.
none_chosen : (history : Past) (inputs : List Value) (early : Instant) → IsChosen guarded caller history inputs early []
none_chosen history inputs early = record { fits = tt; greatest = only; else_preferred = λ none. refl }
  where
    only : (d : Choice) → AreChoices [] [] d → Permitted guarded caller history inputs early d → Permitted guarded caller history inputs early [] × AtMost [] [] d []
    only [] l p = (p, tt)
    only (w ∷ d) l p = absurd l

-- ---- the run

abbrev the_call : Placed
the_call = record { point = record { kind = kind.Call; name = codes "guard"; span = here }; place = Body ∷ Equations ∷ Head ∷ Right ∷ [] }

abbrev of_callee : Place → Place
of_callee p = Body ∷ Equations ∷ Head ∷ Right ∷ Instance ∷ p

abbrev all_true : Instant
all_true p = B true

abbrev Reacts : Bool → Past → Type 0
Reacts b past = OneInstant (meaning real guarded caller.name (B b ∷ []) (record { past = past; free = all_true }))

reacts : (b : Bool) (past : Past) → Reacts b past
reacts b past = one_instant real guarded caller.name (B b ∷ []) (record { past = past; free = all_true }) guarded_ranked

module _ (kept : KeptLaw) where
  safe : (history : Past) → Safe guarded guard history
  safe history =
      kept guarded guard (λ h. true)
      (λ history inputs early k fits. ((B true ∷ []), (inl refl, tt), λ now next h. (keeps history inputs early now fits next, refl)))
      history refl

  true_chosen : (history : Past) (inputs : List Value) (early : Instant) → InputsFit [] guard.inputs inputs → IsChosen guarded guard history inputs early (B true ∷ [])
  true_chosen history inputs early fits =
      record {
        fits = (inl refl, tt);
        greatest = λ d l p. ((λ now next h. (keeps history inputs early now fits next, safe (now ∷ history))), of_one (λ d. AtMost [] (bool c ∷ []) d (B true ∷ [])) at_most_true d l);
        else_preferred = λ none. refl;
      }

  module _ (b : Bool) (past : Past) (one : Reacts b past) where
    gives_now : one.now (Named z ∷ []) ≡ B (b || true)
    gives_now =
        one.meets (Named z ∷ []) ∙ one.meets (Body ∷ Named z ∷ []) ∙ one.meets (of_callee (Body ∷ Named y ∷ []))

    abbrev inside : Instant
    inside = instance_at the_call one.now

    callee_chosen : Chosen guarded (NodeItem guard ∷ []) guard.name (own_past (of_callee []) past one.now) inside
    callee_chosen = (
      subst (λ w. IsChosen guarded guard (erase (own_past (of_callee []) past one.now)) (inside (Inputs ∷ Head ∷ []) ∷ []) inside (w ∷ [])) (sym (one.meets (of_callee (Controls ∷ Head ∷ []))))
          (true_chosen (erase (own_past (of_callee []) past one.now)) (inside (Inputs ∷ Head ∷ []) ∷ []) inside ((b, one.meets (of_callee (Inputs ∷ Head ∷ []))), tt)),
      All-nil _,
    )

    chosen_now : Chosen guarded (reverse guarded) caller.name past one.now
    chosen_now =
        let P : Placed → Type 0 = λ k. IsTrue (is_there (instance_at k one.now (Fresh ∷ []))) → Chosen guarded (NodeItem guard ∷ []) k.point.name (own_past (k.place ++ (Instance ∷ [])) past one.now) (instance_at k one.now) in
        (none_chosen (erase past) (one.now (Inputs ∷ Head ∷ []) ∷ []) one.now, All-cons P the_call [] (λ there. callee_chosen) (All-nil P))

  caller_runs : IsChosenRun guarded caller.name ((B false ∷ []) ∷ (B true ∷ []) ∷ []) ((B true ∷ []) ∷ (B true ∷ []) ∷ [])
  caller_runs =
      let first = reacts false [] in
      let second = reacts true (first.now ∷ []) in
      record {
        frees = all_true ∷ all_true ∷ [];
        past = second.now ∷ first.now ∷ [];
        reaction = record { node = caller; is_node = refl; inputs_fit = ((tt, tt), ((tt, tt), tt)); controls_fit = (tt, (tt, tt)); reaction = ((tt, first.meets), second.meets) };
        chosen = ((tt, chosen_now false [] first), chosen_now true (first.now ∷ []) second);
        gives = rw (gives_now false [] first, gives_now true (first.now ∷ []) second) refl;
      }

  caller_calls : CallsControlled guarded caller.name
  caller_calls =
      record { node = caller; is_node = refl; call = the_call; is_call = (0, omega arith, refl); callee = guard; is_callee = refl; has_controls = λ e. absurd (cc) }

  pub some_run : SomeChosenRunLaw
  some_run = (guarded, caller.name, (B false ∷ []) ∷ (B true ∷ []) ∷ [], (B true ∷ []) ∷ (B true ∷ []) ∷ [], guarded_ranked, (guard_clocks, (caller_clocks, tt)), (refl, (refl, tt)), caller_calls, caller_runs)
