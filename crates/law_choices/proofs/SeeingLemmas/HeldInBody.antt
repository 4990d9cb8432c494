-- The equations of a node that calls none whose contract compares integers hold values of its free places: of their types, and the instant's own wherever it looks.
use Rattle.std.proofs.Common.{◌≡◌, ℕ, ◌+◌, ◌<◌, ◌≤◌, List, [], ◌∷◌, ◌++◌, length, map, refl, sym, ap, subst, ◌∙◌, arith, if◌then◌else◌}
use Rattle.std.specs.Prelude.{Bool, true, false, IsTrue}
use Rattle.std.specs.List.{AllByRecursion, flat_map, range_with_len}
use Rattle.std.proofs.lemmas.List.{append_assoc, length-append}
use Rattle.hp_base.specs.Kinds.{IsOfKind}
use Rattle.hp_base.specs.declared.ty.Ty.{Ty}
use Rattle.hp_base.specs.declared.value.Value.{Value}
use Rattle.hp_base.specs.declared.value.Value.TheVariants.{Absent, B, E, I, Nil, Star}
use Rattle.hp_obc.specs.Machines.{ObcType}
use Rattle.hp_tree.specs.declared.program.Item.{Item}
use Rattle.hp_tree.specs.Blocks.{Decl}
use Rattle.hp_tree.specs.Programs.{Node, TypeDecl}
use Rattle.hp_tree.specs.Operators.{is_there}
use Rattle.hp_tree.specs.Instant.{Controls, Inputs, Instant, Place, alone, in_row}
use Rattle.hp_tree.specs.Meaning.{types_of}
use Rattle.hp_tree.specs.Values.{AreOf}
use Rattle.hp_meaning.specs.Causal.Sources.{below}
use Rattle.hp_meaning.specs.Contract.Game.{Choice}
use Rattle.hp_meaning.specs.Contract.Guarantee.{Typed}
use Rattle.hp_meaning.specs.Contract.Slots.{FreePlace, Slot, slots_of_node}
use Rattle.law_automata.specs.Lowered.Standing.{Along}
use Rattle.law_equations.specs.Made.Making.{Known, outputs_of, sketch_node}
use Rattle.law_equations.specs.Meaning.Instants as flows
use Rattle.law_equations.specs.Meaning.Kinding.{Callees, kind_of_type, kinds_at}
use Rattle.law_equations.specs.Meaning.Reactions.{is_set}
use Rattle.law_equations.specs.Meaning.Scheduling.{clock_variables}
use Rattle.law_equations.proofs.FewerLemmas.AlikeLaws.{holds-same}
use Rattle.law_games.specs.ReadyGames.Laws.{IsInOrder, Stands}
use Rattle.law_games.proofs.MirrorLemmas.NodeGiven.{beside}
use Rattle.law_wellmade.specs.Timely.Kinds.{kinds_of_decls}
use Rattle.law_wellmade.specs.Timely.Tested.{ConstructorsDiffer}
use Rattle.law_wellmade.proofs.TimelyLemmas.KindLaws.{of_kind}
use Rattle.hp_watch.specs.Adding.{some_value, type_at}
use Rattle.hp_watch.specs.Embedding.{embedded, shift_of}
use Rattle.hp_watch.specs.Watching.{Observing, Placed, Surveyed, clock_of, free_inputs, free_placed, moved_free, own_site, placed, walked}
use Rattle.hp_watch.specs.declared.watching.Free.{Free}
use Rattle.law_choices.specs.Coded.Codes.{value_at}
use Rattle.law_choices.specs.Coded.Laws.{IsTypedAt}
use Rattle.law_choices.specs.InTurn.Nodes.{Contracted}
use Rattle.law_choices.specs.Places.Groups.{in_a_row}
use Rattle.law_choices.specs.Playing.Inputs.{places_in_row}
use Rattle.law_choices.specs.Playing.Mirrored.{early_flags}
use Rattle.law_choices.specs.Runs.Chosen.{inputs_at}
use Rattle.law_choices.specs.Seeing.Around.{outputs_in}
use Rattle.law_choices.specs.Seeing.Held.{HoldsValues}
use Rattle.law_choices.specs.Seeing.InBody.{free_in_body}
use Rattle.law_choices.specs.Seeing.OwnContract.{CalleesCompareNothing, free_in_contract}
use Rattle.law_choices.proofs.AddingLemmas.Lifts.{first_of}
use Rattle.law_choices.proofs.AddingLemmas.One.{value-at}
use Rattle.law_choices.proofs.ClosedLemmas.ClosedLaws.{each_other}
use Rattle.law_choices.proofs.FlatLemmas.Alone.{off-unset}
use Rattle.law_choices.proofs.InTurnLemmas.Contracted.{Ground, NodeLaws}
use Rattle.law_choices.proofs.PlayingLemmas.Asking.{seen, survey}
use Rattle.law_choices.proofs.PlayingLemmas.Flags.{flags-many, free-long}
use Rattle.law_choices.proofs.SeeingLemmas.HeldRows.{HoldsRow, holds as held-by-rows}
use Rattle.law_choices.proofs.SeeingLemmas.Looked.{IsSome}
use Rattle.law_choices.proofs.SeeingLemmas.Listed.{SameKind, still-below}
use Rattle.law_choices.proofs.PlacesLemmas.Relating.{along-both, along-length}
use Rattle.law_choices.proofs.SeeingLemmas.Rowed.{IsBrought, Row, all-rows, at-least}

-- A variable has the value of a place, wherever that is there and not Nil.
abbrev pub IsTold : flows.Instant → Instant → ℕ → Place → Type 0
IsTold j now x p = IsTrue (is_there (now p)) → (now p ≡ Nil → ⊥) → j x ≡ now p

pub there-some : (v : Value) → (v ≡ Absent → ⊥) → is_there v ≡ true
there-some Absent h = absurd (h refl)
there-some Nil h = refl
there-some Star h = refl
there-some (B b) h = refl
there-some (I m) h = refl
there-some (E t m) h = refl

module _ (nodes : NodeLaws) (types : List ObcType) (all : Callees) (observers : Observing) (program after : List Item) (ranks : List (List ℕ)) (order : IsInOrder program after ranks) (earlier : List Item) (n : Node) (stands : Stands after earlier n) (c : Contracted) (g : Ground types all observers n c) (k : Known) (low : Node)
    (laid : c.plant.variables ≡ (sketch_node k low).variables) (early : Place → Bool) (flags : (g.is).is_early ≡ early_flags early (slots_of_node after n)) (kinds : kinds_at types c.plant (range_with_len 0 (length n.inputs)) ≡ kinds_of_decls (types_of after) n.inputs)
    (out_kinds : (f : List ℕ) → AllByRecursion (λ (d : Decl). SameKind types (types_of after) k d.ty) (outputs_in after f)) (outs_are : (f : List ℕ) → outputs_of (k.nodes f) ≡ outputs_in after f) (given_types : List ℕ → List Ty) (differ : ConstructorsDiffer (types_of after)) (sees : CalleesCompareNothing after n)
    (gs : List (List FreePlace)) (in_row_is : in_a_row gs ≡ free_in_body after n) where
  abbrev decls : List TypeDecl
  decls = types_of after

  abbrev s : Surveyed
  s = survey nodes types all observers n c g

  abbrev slots : List Slot
  slots = slots_of_node after n

  abbrev places : List FreePlace
  places = places_in_row n.inputs (below Inputs (λ p. p))

  abbrev right_places : List FreePlace
  right_places = free_in_body after n

  abbrev put : Placed
  put = let fits = ((g.is).is_watched).fits in placed observers (length c.plant.eqns) (embedded (fits.own).node (own_site (length n.inputs) c.plant) c.plant)

  abbrev of_contract : List Free
  of_contract = let fits = ((g.is).is_watched).fits in map (moved_free (shift_of (fits.own).node (own_site (length n.inputs) c.plant) c.plant)) (fits.own).free

  abbrev of_body : List Free
  of_body = flat_map (free_placed observers put) (walked n c.plant)

  abbrev of_own : List FreePlace
  of_own = free_in_contract after n

  as-many : length s.free ≡ length (places ++ (of_own ++ right_places))
  as-many = let fits = ((g.is).is_watched).fits in fits.places ∙ ap length flags ∙ flags-many early slots ∙ ap length sees

  -- ---- one instant, beside one of the equations

  abbrev Held : flows.Instant → Instant → FreePlace → Free → Type 0
  Held i now q f = HoldsRow nodes types all observers program after ranks order earlier n stands c g i now q f

  module _ (j i : flows.Instant) (same : (x : ℕ) → x < length c.plant.variables → j x ≡ i x) (others : (x : ℕ) → c.plant.inputs ≤ x → is_set c.plant.eqns j x ≡ false → j x ≡ Absent) (typed : IsTypedAt types s.node ((seen nodes types all observers n c g).keeps).clocks i) (now : Instant) (is_typed : Typed after n now)
      (row : List Value) (of : AreOf decls n.inputs row) (at_inputs : (p : Place) → now (Inputs ∷ p) ≡ in_row (map alone row) p) (chosen : Choice) (at_chosen : (p : Place) → now (Controls ∷ p) ≡ in_row (map alone chosen) p) (inputs : inputs_at n now ≡ row) (first : map i (range_with_len 0 (length n.inputs)) ≡ row)
      (below_plant : length n.inputs < length c.plant.variables + 1) (brought : Along (IsBrought nodes types all observers n c g k low laid (λ f. outputs_in after f) decls out_kinds outs_are given_types (IsTold j now)) (walked n c.plant) gs) (own_rows : Along (Held i now) of_own of_contract) where
    abbrev IsRow : FreePlace → Free → Type 0
    IsRow q f = Row nodes types all observers n c g k low laid (λ f. outputs_in after f) decls out_kinds outs_are given_types (IsTold j now) q f

    inputs-many : length (free_inputs c.plant (length n.inputs)) ≡ length places
    inputs-many = free-long types decls c.plant n.inputs 0 (below Inputs (λ p. p)) kinds

    body-least : length right_places ≤ length of_body
    body-least = subst (λ (qs : List FreePlace). length qs ≤ length of_body) in_row_is (at-least nodes types all observers n c g k low laid (λ f. outputs_in after f) decls out_kinds outs_are given_types (IsTold j now) (walked n c.plant) gs brought)

    body-many : length of_body ≡ length right_places
    body-many =
        let l = as-many in
        let m = inputs-many in
        let o = along-length (Held i now) of_own of_contract own_rows in
        let a = length-append (free_inputs c.plant (length n.inputs) ++ of_contract) of_body in
        let b = length-append (free_inputs c.plant (length n.inputs)) of_contract in
        let d = length-append places (of_own ++ right_places) in
        let e = length-append of_own right_places in
        omega (arith, l, m, o, a, b, d, e)

    rows : Along IsRow right_places of_body
    rows =
        subst (λ (qs : List FreePlace). Along IsRow qs of_body) in_row_is
        (all-rows nodes types all observers n c g k low laid (λ f. outputs_in after f) decls out_kinds outs_are given_types (IsTold j now) (walked n c.plant) gs brought (body-many ∙ ap length (sym in_row_is)))

    -- ---- values of rows

    there-both : (q : FreePlace) (f : Free) → IsRow q f → flows.holds (clock_of s.node f.eqn) j ≡ flows.holds (clock_of s.node f.eqn) i
    there-both q f r = holds-same i j (clock_of s.node f.eqn) (each_other (λ v. v < length c.plant.variables) (λ v. j v ≡ i v) same (clock_variables (clock_of s.node f.eqn)) r.within)

    row-of-kind : (q : FreePlace) (f : Free) → IsRow q f → IsOfKind (kind_of_type types (type_at s.node f.variable)) (value_at s.node i f)
    row-of-kind q f r = by (flows.holds (clock_of s.node f.eqn) i) refl
      where
        below_watched : f.variable < length s.node.variables
        below_watched = still-below nodes types all observers n c g k low laid f.variable r.below

        by : (h : Bool) → flows.holds (clock_of s.node f.eqn) i ≡ h → IsOfKind (kind_of_type types (type_at s.node f.variable)) (if h then i f.variable else some_value (type_at s.node f.variable))
        by true h = typed f.variable below_watched (ap (λ d. flows.holds d i) r.clock ∙ h)
        by false h =
            let w = (((seen nodes types all observers n c g).keeps).built).well in
            (first_of types (type_at s.node f.variable) (value-at types s.node f.variable below_watched w.values)).0

    -- It is that of the place, if the instant looks there.
    row-own : (q : FreePlace) (f : Free) → IsRow q f → IsSome (now q.0) → value_at s.node i f ≡ now q.0
    row-own q f r some = by (flows.holds (clock_of s.node f.eqn) j) refl
      where
        value : j f.variable ≡ now q.0
        value = r.told (there-some (now q.0) some.1) some.0

        by : (h : Bool) → flows.holds (clock_of s.node f.eqn) j ≡ h → value_at s.node i f ≡ now q.0
        by true h = ap (λ b. if b then i f.variable else some_value (type_at s.node f.variable)) (sym (there-both q f r) ∙ h) ∙ sym (same f.variable r.below) ∙ value
        by false h = absurd (some.1 (sym value ∙ others f.variable r.no_input (off-unset f.variable (clock_of s.node f.eqn) c.plant.eqns j r.sole h)))

    body-held : (qs : List FreePlace) (fs : List Free) → Along IsRow qs fs → Along (Held i now) qs fs
    body-held [] [] h = tt
    body-held [] (f ∷ fs) h = absurd h
    body-held (q ∷ qs) [] h = absurd h
    body-held (q ∷ qs) (f ∷ fs) h = (record { kind = (h.0).kind; of_kind = row-of-kind q f h.0; own = row-own q f h.0 }, body-held qs fs h.1)

    pub holds : HoldsValues types after n s i now
    holds =
        held-by-rows nodes types all observers program after ranks order earlier n stands c g k low laid kinds differ (of_own ++ right_places) sees (of_contract ++ of_body) (append_assoc (free_inputs c.plant (length n.inputs)) of_contract of_body)
        i now is_typed row of at_inputs chosen at_chosen inputs first below_plant (along-both (Held i now) of_own right_places of_contract of_body own_rows (body-held right_places of_body rows))
