-- Equations that hold at each free place behind the inputs a value of its type, which is the instant's own where it looks, hold values of all free places.
use Rattle.std.proofs.Common.{◌≡◌, ◌⊎◌, inl, inr, ℕ, ◌+◌, ◌<◌, List, [], ◌∷◌, ◌++◌, length, map, refl, sym, ap, subst, ◌∙◌, arith}
use Rattle.std.specs.Prelude.{⊤, IsTrue, false}
use Rattle.std.specs.List.{AllByRecursion, range_with_len}
use Rattle.hp_base.specs.Kinds.{IsOfKind}
use Rattle.hp_base.specs.declared.value.Value.{Value}
use Rattle.hp_obc.specs.Machines.{ObcType}
use Rattle.hp_tree.specs.declared.program.Item.{Item}
use Rattle.hp_tree.specs.Programs.{Node, TypeDecl}
use Rattle.hp_tree.specs.Operators.{marked}
use Rattle.hp_tree.specs.Instant.{Controls, Inputs, Instant, Past, Place, alone, in_row}
use Rattle.hp_tree.specs.Meaning.{types_of}
use Rattle.hp_tree.specs.Reaction.{controls_at}
use Rattle.hp_tree.specs.Values.{AreOf, IsOf}
use Rattle.hp_meaning.specs.Causal.Sources.{below}
use Rattle.hp_meaning.specs.Contract.Codes.{code}
use Rattle.hp_meaning.specs.Contract.Forgetting.{erased}
use Rattle.hp_meaning.specs.Contract.FreePlaces.{IsFree}
use Rattle.hp_meaning.specs.Contract.Game.{Choice}
use Rattle.hp_meaning.specs.Contract.Guarantee.{Typed}
use Rattle.hp_meaning.specs.Contract.Slots.{FreePlace, Slot, free_places, slots_of_node}
use Rattle.law_automata.specs.Lowered.Standing.{Along}
use Rattle.law_equations.specs.Made.Making.{Known, sketch_node}
use Rattle.law_equations.specs.Meaning.Instants as flows
use Rattle.law_equations.specs.Meaning.Kinding.{Callees, kind_of_type, kinds_at}
use Rattle.law_games.specs.Mirror.Memories.{SlotsFit}
use Rattle.law_games.specs.Mirror.Mirrored.{given_with, late_among}
use Rattle.law_games.specs.ReadyGames.Laws.{IsInOrder, Stands}
use Rattle.law_games.proofs.MirrorLemmas.NodeGiven.{beside}
use Rattle.law_games.proofs.MirrorLemmas.SlotLists.{AreValues, values_at}
use Rattle.law_games.proofs.ReadyGamesLemmas.Settled.{found}
use Rattle.law_wellmade.specs.Timely.Kinds.{kind_of, kinds_of_decls}
use Rattle.law_wellmade.specs.Timely.Tested.{ConstructorsDiffer}
use Rattle.law_wellmade.proofs.TimelyLemmas.KindLaws.{of_kind}
use Rattle.hp_watch.specs.Adding.{type_at}
use Rattle.hp_watch.specs.Watching.{Observing, Surveyed, free_inputs}
use Rattle.hp_watch.specs.declared.watching.Free.{Free}
use Rattle.law_choices.specs.Chosen.Laws.{is_seen}
use Rattle.law_choices.specs.Coded.Codes.{bits_of_kind, value_at}
use Rattle.law_choices.specs.InTurn.Nodes.{Contracted}
use Rattle.law_choices.specs.Playing.Inputs.{places_in_row}
use Rattle.law_choices.specs.Runs.Chosen.{inputs_at}
use Rattle.law_choices.specs.Seeing.Held.{AreHeld, HoldsValues}
use Rattle.law_choices.proofs.BroughtLemmas.Inputless.{late-places}
use Rattle.law_choices.proofs.ChosenLemmas.Seen.{declared, made, slots_fit}
use Rattle.law_choices.proofs.CodedLemmas.Kinds.{code_bits_law, kind_bits_law}
use Rattle.law_choices.proofs.InTurnLemmas.Contracted.{Ground, NodeLaws}
use Rattle.law_choices.proofs.PlacesLemmas.Relating.{along-both}
use Rattle.law_choices.proofs.PlayingLemmas.Asking.{survey}
use Rattle.law_choices.proofs.PlayingLemmas.Greatest.{inputs-fit}
use Rattle.law_choices.proofs.SeeingLemmas.Looked.{IsSome, seen-some}
use Rattle.law_choices.proofs.SeeingLemmas.Listed.{IsHeld, IsOfType, both-fit, fit-slots, free-either, held-slots, in-row-free, inputs-held, inputs-of-types, same-type}

-- other values, but for inputs and controllable variables
abbrev with_own : Instant → Instant → Instant
with_own others now (Inputs ∷ p) = now (Inputs ∷ p)
with_own others now (Controls ∷ p) = now (Controls ∷ p)
with_own others now p = others p

own-given : (inputs : List Value) (others now : Instant) (c : Choice) (q : Place) → given_with inputs (with_own others now) c q ≡ given_with inputs others c q
own-given inputs others now c (Inputs ∷ q) = refl
own-given inputs others now c (Controls ∷ q) = refl
own-given inputs others now c q = refl

own-by : (inputs : List Value) (others now : Instant) (c : Choice) (q : Place) → given_with inputs (with_own others now) c q ≡ now q → with_own others now q ≡ now q
own-by inputs others now c (Inputs ∷ q) e = refl
own-by inputs others now c (Controls ∷ q) e = refl
own-by inputs others now c q e = e

module _ (nodes : NodeLaws) (types : List ObcType) (all : Callees) (observers : Observing) (program after : List Item) (ranks : List (List ℕ)) (order : IsInOrder program after ranks) (earlier : List Item) (n : Node) (stands : Stands after earlier n) (c : Contracted) (g : Ground types all observers n c) where
  abbrev decls : List TypeDecl
  decls = types_of after

  abbrev s : Surveyed
  s = survey nodes types all observers n c g

  abbrev slots : List Slot
  slots = slots_of_node after n

  abbrev pub value_of : flows.Instant → Free → Value
  value_of i f = value_at s.node i f

  -- A variable has a value of the kind of a free place, which is that of the place where the instant has some value there.
  pub record HoldsRow (i : flows.Instant) (now : Instant) (q : FreePlace) (f : Free) : Type 0 where
    pub kind : kind_of_type types (type_at s.node f.variable) ≡ kind_of decls q.1
    pub of_kind : IsOfKind (kind_of_type types (type_at s.node f.variable)) (value_of i f)
    pub own : IsSome (now q.0) → value_of i f ≡ now q.0

  -- so it is of all instants, one by one
  abbrev pub HoldRowsThroughout : List FreePlace → List Free → Past → List flows.Instant → Type 0
  HoldRowsThroughout qs fs [] [] = ⊤
  HoldRowsThroughout qs fs (now ∷ past) (i ∷ instants) = HoldRowsThroughout qs fs past instants × Along (HoldsRow i now) qs fs
  HoldRowsThroughout qs fs past instants = ⊥

  module _ (k : Known) (low : Node) (laid : c.plant.variables ≡ (sketch_node k low).variables) (kinds : kinds_at types c.plant (range_with_len 0 (length n.inputs)) ≡ kinds_of_decls (types_of after) n.inputs) (differ : ConstructorsDiffer (types_of after))
      (right_places : List FreePlace) (sees : free_places after n ≡ places_in_row n.inputs (below Inputs (λ p. p)) ++ right_places) (fs : List Free) (split : s.free ≡ free_inputs c.plant (length n.inputs) ++ fs) where
    abbrev places : List FreePlace
    places = places_in_row n.inputs (below Inputs (λ p. p))

    module _ (i : flows.Instant) (now : Instant) (is_typed : Typed after n now) (row : List Value) (of : AreOf decls n.inputs row) (at_inputs : (p : Place) → now (Inputs ∷ p) ≡ in_row (map alone row) p) (chosen : Choice) (at_chosen : (p : Place) → now (Controls ∷ p) ≡ in_row (map alone chosen) p)
        (inputs : inputs_at n now ≡ row) (first : map i (range_with_len 0 (length n.inputs)) ≡ row) (below_plant : length n.inputs < length c.plant.variables + 1) (rows : Along (HoldsRow i now) right_places fs) where
      row-typed : (q : FreePlace) (f : Free) → HoldsRow i now q f → IsOf decls q.1 (value_of i f)
      row-typed q f r = of_kind decls q.1 (value_of i f) differ (subst (λ z. IsOfKind z (value_of i f)) r.kind r.of_kind)

      rows-typed : (qs : List FreePlace) (gs : List Free) → Along (HoldsRow i now) qs gs → AreValues decls qs (map (value_of i) gs)
      rows-typed [] [] h = tt
      rows-typed [] (f ∷ gs) h = absurd h
      rows-typed (q ∷ qs) [] h = absurd h
      rows-typed (q ∷ qs) (f ∷ gs) h = (row-typed q f h.0, rows-typed qs gs h.1)

      -- ---- an instant that has these values

      abbrev choice : Choice
      choice = controls_at n now

      late-are : late_among (λ p. false) slots ≡ right_places
      late-are = late-places after n right_places sees

      at-first : SlotsFit decls slots (given_with (map marked row) (made program after ranks order earlier n stands now) choice)
      at-first = slots_fit program after ranks order earlier n stands row now (inputs-fit decls n.inputs row of) choice

      there-is : (those : Instant) × (values_at (late_among (λ p. false) slots) (given_with (map marked row) those choice) ≡ map (value_of i) fs)
      there-is =
          let y = beside after earlier n (λ p. false) (found program after ranks order earlier n stands) (λ f m e. (declared program after ranks order earlier n stands f m e).0) (map marked row) (made program after ranks order earlier n stands now) choice at-first (map (value_of i) fs)
          (subst (λ (qs : List FreePlace). AreValues decls qs (map (value_of i) fs)) (sym late-are) (rows-typed right_places fs rows)) in
          (y.0, (y.3 choice).1)

      abbrev values : Instant
      values = with_own (there-is).0 now

      abbrev given : Instant
      given = given_with (map marked row) values choice

      abbrev IsAt : FreePlace → Free → Type 0
      IsAt q f = given q.0 ≡ value_of i f

      all-at : (qs : List FreePlace) (gs : List Free) → Along (HoldsRow i now) qs gs → values_at qs (given_with (map marked row) (there-is).0 choice) ≡ map (value_of i) gs → Along IsAt qs gs
      all-at [] [] h e = tt
      all-at [] (f ∷ gs) h e = absurd h
      all-at (q ∷ qs) [] h e = absurd h
      all-at (q ∷ qs) (f ∷ gs) h e =
          let here : given_with (map marked row) (there-is).0 choice q.0 ≡ value_of i f = cc in
          let behind : values_at qs (given_with (map marked row) (there-is).0 choice) ≡ map (value_of i) gs = cc in
          (own-given (map marked row) (there-is).0 now choice q.0 ∙ here, all-at qs gs h.1 behind)

      are-at : Along IsAt right_places fs
      are-at = all-at right_places fs rows (ap (λ (qs : List FreePlace). values_at qs (given_with (map marked row) (there-is).0 choice)) (sym late-are) ∙ (there-is).1)

      -- ---- they are the instant's own wherever it looks

      rows-own : (qs : List FreePlace) (gs : List Free) → Along (HoldsRow i now) qs gs → Along IsAt qs gs → (q : Place) → IsFree qs q → IsSome (now q) → given q ≡ now q
      rows-own [] gs h at q free some = absurd free
      rows-own (x ∷ qs) [] h at q free some = absurd h
      rows-own (x ∷ qs) (f ∷ gs) h at q (inl e) some = ap given e ∙ at.0 ∙ (h.0).own (subst (λ z. IsSome (now z)) e some) ∙ ap now (sym e)
      rows-own (x ∷ qs) (f ∷ gs) h at q (inr free) some = rows-own qs gs h.1 at.1 q free some

      own : (q : Place) → IsFree (free_places after n) q → IsTrue (is_seen (erased now) q) → values q ≡ now q
      own q free looks = by (free-either places right_places q (subst (λ (xs : List FreePlace). IsFree xs q) sees free))
        where
          by : IsFree places q ⊎ IsFree right_places q → values q ≡ now q
          by (inl x) = let r = in-row-free n.inputs (below Inputs (λ p. p)) q x in ap values r.1 ∙ ap now (sym r.1)
          by (inr x) =
              own-by (map marked row) (there-is).0 now choice q
              (rows-own right_places fs rows are-at q x
              (seen-some program after ranks order earlier n stands now is_typed row (inputs-fit decls n.inputs row of) at_inputs chosen at_chosen q free looks))

      -- ---- they are of their types, and their codes are held

      all-typed : (qs : List FreePlace) (gs : List Free) → Along (HoldsRow i now) qs gs → Along IsAt qs gs → AllByRecursion (IsOfType decls given) qs
      all-typed [] gs h at = tt
      all-typed (q ∷ qs) [] h at = absurd h
      all-typed (q ∷ qs) (f ∷ gs) h at = (subst (IsOf decls q.1) (sym at.0) (row-typed q f h.0), all-typed qs gs h.1 at.1)

      all-held : (qs : List FreePlace) (gs : List Free) → Along (HoldsRow i now) qs gs → Along IsAt qs gs → Along (IsHeld types decls s.node i given) qs gs
      all-held [] [] h at = tt
      all-held [] (f ∷ gs) h at = absurd h
      all-held (q ∷ qs) [] h at = absurd h
      all-held (q ∷ qs) (f ∷ gs) h at = (
        kind_bits_law types (type_at s.node f.variable) (value_of i f) g.bytes ∙ ap (λ z. bits_of_kind z (value_of i f)) (h.0).kind ∙ sym (code_bits_law decls q.1 (value_of i f)) ∙ sym (ap (code decls q.1) at.0),
        all-held qs gs h.1 at.1,
      )

      fits : AllByRecursion (IsOfType decls given) (places ++ right_places)
      fits = both-fit decls given places right_places (inputs-of-types decls given n.inputs row (below Inputs (λ p. p)) of (λ q. refl)) (all-typed right_places fs rows are-at)

      held : Along (IsHeld types decls s.node i given) (places ++ right_places) s.free
      held =
          subst (Along (IsHeld types decls s.node i given) (places ++ right_places)) (sym split)
          (along-both (IsHeld types decls s.node i given) places right_places (free_inputs c.plant (length n.inputs)) fs
          (inputs-held types decls g.bytes c.plant s.node i given n.inputs 0 row (below Inputs (λ p. p)) (λ x l. same-type nodes types all observers n c g k low laid x (omega (arith, l, below_plant))) kinds first (λ q. refl))
          (all-held right_places fs rows are-at))

      pub holds : HoldsValues types after n s i now
      holds = record {
        values = values;
        typed = subst (λ r. SlotsFit decls slots (given_with (map marked r) values choice)) (sym inputs) (fit-slots decls given slots (subst (AllByRecursion (IsOfType decls given)) (sym sees) fits));
        own = own;
        held =
            subst (λ r. AreHeld types decls s.node i (given_with (map marked r) values choice) slots s.free) (sym inputs)
            (held-slots types decls s.node i given slots s.free (subst (λ (qs : List FreePlace). Along (IsHeld types decls s.node i given) qs s.free) (sym sees) held));
      }
