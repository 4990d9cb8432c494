-- Machines that are made of nodes in turn, or of parts of them, have form.
use Rattle.std.proofs.Common.{◌≡◌, ℕ, ◌≤◌, ◌^◌, Bool, true, false, cond, List, [], ◌∷◌, length, filter, refl, sym, ap, subst, ◌∙◌}
use Rattle.std.specs.List.{AllByRecursion}
use Rattle.hp_obc.specs.Form.{HasObcForm, TypesForm, has_name}
use Rattle.hp_obc.specs.Machines.{Machine, ObcType}
use Rattle.hp_flat.specs.Equations.{FlatEqn}
use Rattle.hp_flat.specs.Nodes.{FlatNode}
use Rattle.law_equations.specs.Followed.Programs.{CallsAmong, CallsOnly}
use Rattle.law_equations.specs.Meaning.Kinding.{Callees, kind_of_type}
use Rattle.law_equations.specs.Meaning.Scheduling.{AreBelow, EqnWithin, IsRanked, reads}
use Rattle.law_equations.specs.Shaped.Laws.{KeptLaw, ProgramFormLaw}
use Rattle.law_equations.specs.Shaped.Shaped.{AreShaped, DefineApart, IsHeaded, NodeShape}
use Rattle.law_equations.proofs.FewerLemmas.Members.{each_map}
use Rattle.hp_schedule.proofs.PlacedLaws.{calls-alike}
use Rattle.hp_schedule.proofs.ReadLaws.{reads-within}
use Rattle.law_wellmade.specs.Lettered.Names.{IsName}
use Rattle.law_wellmade.proofs.PartedLemmas.Nodes.{define-apart, parted-alike}
use Rattle.hp_machines.specs.Making.{AreMade, defines_some, giving}
use Rattle.law_history.proofs.StreamsLemmas.Giving.{kept_all}
use Rattle.law_history.proofs.StreamsLemmas.MadeMachines.{are_compiled, placed_nodes, placed_of, placed_ranked}
use Rattle.law_history.proofs.StreamsLemmas.PlacedShapes.{placed_shape}
use Rattle.law_choices.specs.Closed.Exclusive.{AreParted, Differ}
use Rattle.law_choices.specs.OnClocks.Meaning.{AreInTurn}
use Rattle.law_choices.proofs.PartLemmas.Parts.{ranked_law}
use Rattle.law_controlled.specs.Fitting.{IsFit}
use Rattle.law_controlled.specs.Machines.{AreMadeFrom, IsMadeFrom}
use Rattle.law_controlled.specs.Machines.IsMadeFrom.{itself, a_part}
use Rattle.law_controlled.specs.Parts.{with_outputs}
use Rattle.law_controlled.proofs.MachineLaws.{part_calls}
use Rattle.law_controlled.proofs.PartShapeLaws.{part_fit, part_headed}
use Rattle.law_controlled.proofs.RegularPartLaws.{typed_part}

-- ---- equations that define something

given_parted : (es : List FlatEqn) → AreParted es → AreParted (filter defines_some es)
given_parted [] h = tt
given_parted (e ∷ es) h = by (defines_some e) (kept_all (Differ e) es h.0) (given_parted es h.1)
  where
    by : (b : Bool) → AllByRecursion (Differ e) (filter defines_some es) → AreParted (filter defines_some es) → AreParted (cond b (e ∷ filter defines_some es) (filter defines_some es))
    by true p q = (p, q)
    by false p q = q

-- ---- nodes

module _ (types : List ObcType) (callees : Callees) where
  -- what a machine is made of stands as the whole node does
  record StandsAs (earlier : List (List ℕ)) (w n : FlatNode) : Type 0 where
    name : n.name ≡ w.name
    fit : IsFit types callees n
    ranked : IsRanked n.eqns
    headed : IsHeaded types callees n
    calls : CallsOnly earlier n.eqns

  stands_as : (earlier : List (List ℕ)) (w n : FlatNode) → IsMadeFrom w n → IsFit types callees w → IsRanked w.eqns → IsHeaded types callees w → CallsOnly earlier w.eqns → StandsAs earlier w n
  stands_as earlier w n itself f r h c = record { name = refl; fit = f; ranked = r; headed = h; calls = c }
  stands_as earlier w n (a_part of part name outputs is made) f r h c =
      let v = with_outputs name outputs of in
      let fit = subst (IsFit types callees) is f in
      let its = typed_part of name outputs n fit.within made in
      let q = its.1 in
      let named : n.name ≡ name = ap (λ (m : FlatNode). m.name) made.is in
      record {
        name = named ∙ sym (ap (λ (m : FlatNode). m.name) is);
        fit = part_fit types callees its.0 v n q (λ x k. ap (kind_of_type types) (its.2 x k)) fit;
        ranked = ranked_law its.0 v n q (subst (λ (m : FlatNode). IsRanked m.eqns) is r);
        headed = part_headed types callees its.0 v n q (λ x k. ap (kind_of_type types) (its.2 x k)) named (subst (IsHeaded types callees) is h);
        calls = part_calls its.0 earlier of.eqns n.eqns q.eqns (subst (λ (m : FlatNode). CallsOnly earlier m.eqns) is c);
      }

  shape_of : (n : FlatNode) → IsFit types callees n → IsName n.name → length n.eqns ≤ 10 ^ 13 → NodeShape types callees n
  shape_of n f named few = record {
    name = named;
    within = f.within;
    no_inputs = f.no_inputs;
    outputs_behind = f.outputs_behind;
    outputs_differ = f.outputs_differ;
    kinds = f.kinds;
    values = f.values;
    targets_differ = f.targets_differ;
    apart = define-apart n.eqns f.parted;
    short = f.short;
    names_good = f.names_good;
    names_differ = f.names_differ;
    names_own = f.names_own;
    few = few;
  }

  -- ---- all of them, in the order in which their machines are made

  abbrev pub FitsByName : FlatNode → Type 0
  FitsByName w = IsFit types callees w × IsName w.name

  shaped : KeptLaw → (earlier : List (List ℕ)) (ws ns : List FlatNode) (ms : List Machine) → AreInTurn types callees earlier ws → AllByRecursion FitsByName ws → AreMadeFrom ws ns → (h : AreMade types ns ms) → AreShaped types callees earlier (placed_nodes types ns ms h)
  shaped law earlier [] [] [] turn fits from h = tt
  shaped law earlier [] [] (m ∷ ms) turn fits from h = absurd h
  shaped law earlier [] (n ∷ ns) ms turn fits from h = absurd from
  shaped law earlier (w ∷ ws) [] ms turn fits from h = absurd from
  shaped law earlier (w ∷ ws) (n ∷ ns) [] turn fits from h = absurd h
  shaped law earlier (w ∷ ws) (n ∷ ns) (m ∷ ms) turn fits from h =
      let well = turn.0 in
      let s = stands_as earlier w n from.0 fits.0.0 well.ranked turn.1 turn.3 in
      let one = h.0 in
      let regular = one.regular in
      let left = law types callees n defines_some (shape_of n s.fit (subst IsName (sym s.name) fits.0.1) regular.few) s.ranked in
      let shape : NodeShape types callees (giving n) = left.0 in
      let inside = shape.within in
      let p = placed_of types n m h.0 in
      let fit = s.fit in
      let apart : DefineApart p.placed = define-apart p.placed (parted-alike (giving n).eqns p.placed p.alike (given_parted n.eqns fit.parted)) in
      let below = each_map (EqnWithin (length n.variables)) (λ (e : FlatEqn). AreBelow (length n.variables) (reads e)) (λ e i. reads-within (length n.variables) e i) (giving n).eqns inside.eqns in
      let head = s.headed in (
        placed_shape types n m h.0 callees apart left.0,
        placed_ranked types n m h.0 left.1 below,
        record { takes = head.takes; gives = head.gives },
        subst (λ x. has_name earlier x ≡ false) (sym s.name) turn.2,
        calls-alike (giving n) p.placed p.alike earlier (kept_all (λ (e : FlatEqn). CallsAmong earlier e.right) n.eqns s.calls),
        subst (λ x. AreShaped types callees (x ∷ earlier) (placed_nodes types ns ms h.1)) (sym s.name) (shaped law (w.name ∷ earlier) ws ns ms turn.4 fits.1 from.1 h.1),
      )

  pub have_form : KeptLaw → ProgramFormLaw → TypesForm types → (ws ns : List FlatNode) (ms : List Machine) → AreInTurn types callees [] ws → AllByRecursion FitsByName ws → AreMadeFrom ws ns → AreMade types ns ms → HasObcForm types ms
  have_form kept law form ws ns ms turn fits from h = law types callees (placed_nodes types ns ms h) ms form (shaped kept [] ws ns ms turn fits from h) (are_compiled types ns ms h)
