-- At each instant of a reaction of a node the rows of its flat names fit.
use Rattle.std.proofs.Common.{◌≡◌, inl, inr, ⊎_elim, ℕ, List, [], ◌∷◌, refl, sym, ap, subst, ◌∙◌}
use Rattle.std.specs.Prelude.{Bool, true, false, ◌&&◌, ◌||◌, if◌then◌else◌, IsTrue, IsFalse, Option, None, Some}
use Rattle.std.specs.Str.{bytes_eq}
use Rattle.std.proofs.lemmas.Slice.Eq.{bytes_eq-Decides}
use Rattle.hp_base.specs.Kinds.{KindData}
use Rattle.hp_base.specs.declared.ty.Ty.{Ty}
use Rattle.hp_base.specs.declared.value.Value.{Value}
use Rattle.hp_base.specs.declared.value.Value.TheVariants.{Absent}
use Rattle.hp_obc.specs.Steps.{Names as TakenBy}
use Rattle.hp_tree.specs.Blocks.{Decl}
use Rattle.hp_tree.specs.Programs.{TypeDecl, Node}
use Rattle.hp_tree.specs.Operators.{same_value, constant_of}
use Rattle.hp_tree.specs.Values.{IsOf}
use Rattle.hp_tree.specs.Instant.{Body, Named, Place, Instant, Past}
use Rattle.hp_tree.specs.Meaning.{Names, Nodes, declares, controls_of}
use Rattle.hp_base.specs.Known.Known.{lookup}
use Rattle.law_judged.specs.Typed.Scopes.{Scope as Known}
use Rattle.hp_init.specs.Classes.{Assignment}
use Rattle.hp_meaning.specs.Causal.Causality.{Ranked}
use Rattle.hp_meaning.specs.Causal.Clocked.{ClocksRight}
use Rattle.law_equations.specs.Meaning.Fitting.{is_there}
use Rattle.law_equations.specs.Flattened.Flat.{name, Register, Now, Behaviours, holds, held, since, Says, FlatMeets}
use Rattle.law_equations.specs.Flattened.Flatten.{FlatName, Input, At, Free, Nowhere, IsFirst, Held, When, always, on, steps, ats, copies, flatten, flat_place, flat_scope, node_scope}
use Rattle.law_equations.specs.Flattened.Timely.{Timely, Lowered}
use Rattle.law_equations.specs.Flattened.Lifted.{restarted, lifted, lifted_holds, inputs_of, lifts, in_body, node_lasts}
use Rattle.law_equations.proofs.FlattenedLemmas.ExpressionLaws.{if_true, if_false}
use Rattle.law_equations.proofs.FlattenedLemmas.NodeLaws.{remembers, all_remember, body_live, body_lives}
use Rattle.law_values.specs.Valued.Judged.{no_lasts, IsPlain, PlainContract, HaveOwnTypes}
use Rattle.law_values.specs.Valued.Classed.{none_second}
use Rattle.law_values.specs.Valued.Given.{reading}
use Rattle.law_values.proofs.ValuedLemmas.Both.{NodeOk}
use Rattle.law_values.proofs.ValuedLemmas.Laws.{or_either}
use Rattle.law_values.proofs.ValuedLemmas.ExprTops.{Callees}
use Rattle.law_wellmade.specs.Timely.Kinds.{kinds_of_decls}
use Rattle.law_wellmade.specs.Timely.Tested.{ConstructorsDiffer, NodeTested}
use Rattle.law_equations.specs.Made.Keeping.{IsKept}
use Rattle.law_wellmade.specs.Timely.Kept.{OfLasts, OfBlock, IsRemembered, BlockBegins}
use Rattle.law_wellmade.proofs.TimelyLemmas.Actual.{first}
use Rattle.law_wellmade.proofs.TimelyLemmas.KindLaws.{AbsentOr}
use Rattle.law_wellmade.proofs.TimelyLemmas.Instants.{is_value}
use Rattle.law_wellmade.proofs.TimelyLemmas.NodeHas.{sb, st, lasts, output_is, has_lasts, input_here, body_has}
use Rattle.law_wellmade.proofs.TimelyLemmas.NodesTimely.{there_is, Moment, plan}
use Rattle.law_wellmade.proofs.TimelyLemmas.Rows.{SiteFits, OptFits, PlanFits, KeptFits, one_row, copy_row}
use Rattle.law_wellmade.proofs.TimelyLemmas.BlockRows.{OuterTold, LastsTold, last_declared, last_known, last_stands, scope_rows}

holds_same : (ck : When) (G : List (Now FlatName)) (names : Names) (free now : Instant) → holds (steps ck) (lifted G names free now) ≡ lifted_holds G names free now ck
holds_same always G names free now = refl
holds_same (on v x w) G names free now = ap (λ b. same_value (lifted G names free now x) v && b) (holds_same w G names free now)

held_gone : (G : List (Now FlatName)) (names : Names) (free now : Instant) (v : Value) (p : Place) (w : When) (rs : List Place) → IsFalse (holds (steps w) (lifted G names free now)) → lifted G names free now (Held v p w rs) ≡ Absent
held_gone G names free now v p w rs f = if_false (lifted_holds G names free now w) (held v (name (At p)) (if restarted rs now then [] else since (steps w) (ats rs) G)) Absent (sym (holds_same w G names free now) ∙ f)

module _ (types : List TypeDecl) (differ : ConstructorsDiffer types) (N : Nodes) (among : List ℕ → Option Node) (fits allowed : List ℕ → Instant → Type 0) (known : Callees types false (reading first) N among fits allowed) (does : Behaviours) (fill : Place → Value) (takes : TakenBy (List KindData)) (takes_is : (f : List ℕ) (m : Node) → among f ≡ Some m → takes f ≡ kinds_of_decls types m.inputs) where
  own_type : (w : Known) (ds : List Decl) (x : List ℕ) → HaveOwnTypes types among w ds → IsTrue (declares ds x) → (t : Ty) × (lookup w.variables x ≡ Some t)
  own_type w [] x own h = absurd (cc)
  own_type w (d ∷ ds) x own h =
      or_either (bytes_eq d.name x) (declares ds x) h (λ e. (d.ty, subst (λ z. lookup w.variables z ≡ Some d.ty) ((bytes_eq-Decides d.name x).0 e) own.0)) (λ k. own_type w ds x own.1 k)

  module _ (s : Known) (class : Assignment) (n : Node) (o : Ranked n) (right : ClocksRight n) (low : IsPlain n.body) (lowc : PlainContract n.contract) (ok : NodeOk types among s class n) (lowered : Lowered n.body) (tested : NodeTested types s n) (begins : BlockBegins fill n.body in_body) where
    abbrev MomentOf : List Value → Instant → Instant → List (List Value) → List Instant → Past → Type 0
    MomentOf vs free now inputs frees past = Moment types N among fits allowed known does fill s class n o right low lowc ok vs free now inputs frees past

    module _ (vs : List Value) (free now : Instant) (inputs : List (List Value)) (frees : List Instant) (past : Past) (k : MomentOf vs free now inputs frees past) where
      abbrev G : List (Now FlatName)
      G = lifts n inputs frees past

      abbrev j : Now FlatName
      j = lifted (lifts n inputs frees past) (inputs_of n vs free) free now

      abbrev scope : Known
      scope = sb types N among fits allowed known does fill s class n o right low lowc ok

      outer : OuterTold types n.body scope (node_scope n) j
      outer x t f l = by (declares n.inputs x || declares (controls_of n.contract) x) refl
        where
          by : (d : Bool) → (declares n.inputs x || declares (controls_of n.contract) x) ≡ d → AbsentOr types t (j (if d then Input x else Nowhere))
          by true e = inr (input_here types N among fits allowed known does fill s class n o right low lowc ok vs free now inputs frees past k.reacts k.meets k.inputs_fit k.given_fits k.past_fits x t e l)
          by false e = inl refl

      last_is : (x : List ℕ) → IsTrue (lasts types N among fits allowed known does fill s class n o right low lowc ok x) → (t : Ty) × ((lookup scope.variables x ≡ Some t) × IsOf types t (j (node_lasts types n x)))
      last_is x h = has_lasts types N among fits allowed known does fill s class n o right low lowc ok vs free now inputs frees past k.reacts k.meets k.inputs_fit k.given_fits k.past_fits x h

      lasts_told : LastsTold types scope (lasts types N among fits allowed known does fill s class n o right low lowc ok) (node_lasts types n) j
      lasts_told x h = let q = last_is x h in (q.0, q.1.0, inr q.1.1)

      site : SiteFits takes j always []
      site = record { told = tt; fits = tt; flags = tt }

      body_typed : (x : List ℕ) → IsTrue (declares n.outputs x) → (t : Ty) × IsOf types t (now (Body ∷ Named x ∷ []))
      body_typed x h =
          let q = own_type scope n.outputs x ok.1.0.1 h in
          (q.0, output_is types N among fits allowed known does fill s class n o right low lowc ok vs (record { past = past; free = free }) now x q.0 k.meets k.fits_now h q.1)

      body_there : (x : List ℕ) → IsTrue (declares n.outputs x) → IsTrue (is_there (j (At (Body ∷ Named x ∷ []))))
      body_there x h = let q = body_typed x h in there_is _ (is_value types q.0 _ q.1)

      output_there : (x : List ℕ) → IsTrue (declares n.outputs x) → IsTrue (is_there (j (At (Named x ∷ []))))
      output_there x h = subst (λ v. IsTrue (is_there v)) (sym (k.meets (Named x ∷ []) ∙ if_true (declares n.outputs x) (now (Body ∷ Named x ∷ [])) Absent h)) (body_there x h)

      module _ (tm : Timely (plan types N among fits allowed known does fill s class n o right low lowc ok) in_body (j ∷ G)) (says : FlatMeets does (flatten types N.outputs fill n) G j) where
        body_rows : PlanFits takes j (flat_scope types N.outputs fill n.body (node_scope n) (node_lasts types n) in_body always []) in_body × ((a : FlatName) → OfBlock types fill n.body (node_scope n) (node_lasts types n) in_body always [] a → KeptFits takes j a)
        body_rows =
            scope_rows types differ N among fits allowed known does fill takes takes_is G j (remembers G (inputs_of n vs free) free now, all_remember types N does fill n inputs frees past k.reacts) (λ v p w rs f. held_gone G (inputs_of n vs free) free now v p w rs f)
            n.body scope (st types N among fits allowed known does fill s class n o right low lowc ok) none_second (lasts types N among fits allowed known does fill s class n o right low lowc ok) (λ q. class (Body ∷ q)) (λ i. false) (node_scope n) (node_lasts types n) in_body always [] lowered right.body ok.1.1.1.1.0 tested begins
            (body_live types N does fill n vs free now inputs frees past k.reacts k.meets, body_lives types N does fill n inputs frees past k.reacts)
            (λ t. body_has types N among fits allowed known does fill s class n o right low lowc ok vs free now inputs frees past k.reacts k.meets k.inputs_fit k.given_fits k.past_fits)
            tm outer lasts_told site (λ p. says (At (Body ∷ p)))

        outputs_kept : (a : FlatName) → OfLasts types fill n.outputs in_body always [] a → KeptFits takes j a
        outputs_kept a q =
            let x = q.0 in
            let c = q.1 in
            subst (λ z. KeptFits takes j z) (sym q.3)
            (one_row takes j always [] (Register (constant_of types c) (name (At (in_body (Named x ∷ []))))) (Held (constant_of types c) (in_body (Named x ∷ [])) always []) site (λ h. body_there x (last_declared n.outputs x c q.2))
            (λ h. let l = last_is x (last_known n.outputs no_lasts x c q.2) in subst (λ z. IsTrue (is_there (j z))) (last_stands types n.outputs (λ y. Nowhere) in_body always [] x c q.2) (there_is _ (is_value types l.0 _ l.1.1))))

        kept : (a : FlatName) → IsRemembered types fill n a → KeptFits takes j a
        kept a q = ⊎_elim (λ z. outputs_kept a z) (λ z. body_rows.1 a z) q

        place_rows : (p : Place) → OptFits takes j (flat_place types N.outputs fill n p) (At p)
        place_rows (Named x ∷ []) = by (declares n.outputs x) refl (says (At (Named x ∷ [])))
          where
            by : (d : Bool) → declares n.outputs x ≡ d → Says does (if d then Some (copies always [] (At (Body ∷ Named x ∷ [])) ∷ []) else None) G j (j (At (Named x ∷ [])))
                → OptFits takes j (if d then Some (copies always [] (At (Body ∷ Named x ∷ [])) ∷ []) else None) (At (Named x ∷ []))
            by true e q = copy_row takes j does G always [] (At (Body ∷ Named x ∷ [])) (At (Named x ∷ [])) site (λ h. output_there x e) q
            by false e q = tt
        place_rows (Body ∷ p) = body_rows.0 p
        place_rows p = tt

        -- the rows of each name that stands
        pub name_rows : (a : FlatName) → IsKept (IsRemembered types fill n) a → OptFits takes j (flatten types N.outputs fill n a) a
        name_rows (Input x) q = tt
        name_rows (At p) q = place_rows p
        name_rows (Free p) q = tt
        name_rows Nowhere q = tt
        name_rows (IsFirst w rs) q = kept (IsFirst w rs) q
        name_rows (Held v p w rs) q = kept (Held v p w rs) q
