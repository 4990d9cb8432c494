-- A call, its arguments, and the outputs of its instance: from where no chain leads to an input that loops.
use Rattle.std.proofs.Common.{◌≡◌, ℕ, suc, Bool, true, false, if◌then◌else◌, List, [], ◌∷◌, ap, ◌∙◌}
use Rattle.std.specs.Prelude.{Option, Some}
use Rattle.std.specs.Str.{bytes_eq}
use Rattle.std.specs.List.{AllByRecursion}
use Rattle.hp_base.specs.declared.value.Value.{Value}
use Rattle.hp_tree.specs.Programs.{TypeDecl, Node}
use Rattle.hp_tree.specs.Instant.{Named, Instance, Place}
use Rattle.law_choices.proofs.IndependentLemmas.Given.{name_itself}
use Rattle.law_equations.specs.Flattened.Flat.{Arg, Call}
use Rattle.law_equations.specs.Flattened.Flatten.{FlatName, At, When, Rows, row, copies, Plan, plan_call, Prefix, only_row, output_row}
use Rattle.law_wellmade.specs.Acyclic.Reading.{ArgReads, RowsRead}
use Rattle.law_wellmade.proofs.AcyclicLemmas.Chains.{ends, read_end}
use Rattle.law_choices.proofs.DependingLemmas.Names.{rows_in, NameEnds, Planned, WhenEnds, RestartEnds, no_rows, one_row}

module _ (types : List TypeDecl) (outputs : List ℕ → List (List ℕ)) (fill : Place → Value) (n : Node) (loops : List ℕ → Bool) (away : Place → Type 0) where
  module _ (here : Prefix) (w : When) (rs : List Place) (f : List ℕ) (args : List (Arg FlatName)) (i : Plan Rows) where
    abbrev CallPlanned : List (List ℕ) → Type 0
    CallPlanned os = Planned types outputs fill n loops away here (plan_call (only_row types outputs fill os here w rs) i (output_row types outputs fill 0 os w rs f args))

    abbrev ArgsEnd : Type 0
    ArgsEnd = AllByRecursion (ArgReads (NameEnds types outputs fill n loops away)) args

    -- the outputs of the instance read the arguments
    output_reads : (os : List (List ℕ)) (k : ℕ) (x : List ℕ) → WhenEnds types outputs fill n loops away w → RestartEnds types outputs fill n loops away rs → ArgsEnd → RowsRead (NameEnds types outputs fill n loops away) (output_row types outputs fill k os w rs f args x)
    output_reads [] k x ws rest a = tt
    output_reads (o ∷ os) k x ws rest a = by (bytes_eq o x) (output_row types outputs fill (suc k) os w rs f args x) (output_reads os (suc k) x ws rest a)
      where
        by : (d : Bool) (others : Option Rows) → RowsRead (NameEnds types outputs fill n loops away) others → RowsRead (NameEnds types outputs fill n loops away) (if d then Some (row w rs (Call f k args) ∷ []) else others)
        by true others r = ((ws, rest, a), tt)
        by false others r = r

    instance_ends : (os : List (List ℕ)) → CallPlanned os → WhenEnds types outputs fill n loops away w → RestartEnds types outputs fill n loops away rs → ArgsEnd → (x : List ℕ) → NameEnds types outputs fill n loops away (At (here (Instance ∷ Named x ∷ [])))
    instance_ends os plan ws rest a x =
        ends (rows_in types outputs fill n loops away) (At (here (Instance ∷ Named x ∷ []))) (output_row types outputs fill 0 os w rs f args x) (plan (Instance ∷ Named x ∷ [])) (output_reads os 0 x ws rest a)

    -- the call itself reads its first output
    pub call_ends : (os : List (List ℕ)) → CallPlanned os → WhenEnds types outputs fill n loops away w → RestartEnds types outputs fill n loops away rs → ArgsEnd → NameEnds types outputs fill n loops away (At (here []))
    call_ends [] plan ws rest a = no_rows types outputs fill n loops away (At (here [])) (plan [])
    call_ends (o ∷ os) plan ws rest a =
        one_row types outputs fill n loops away (At (here [])) (copies w rs (At (here (Instance ∷ Named o ∷ [])))) (plan []) (ws, rest, (instance_ends (o ∷ os) plan ws rest a o, tt))

    -- Where the call ends, all its outputs do: they read what the first one reads.
    pub outputs_end : (os : List (List ℕ)) → CallPlanned os → NameEnds types outputs fill n loops away (At (here [])) → (x : List ℕ) → NameEnds types outputs fill n loops away (At (here (Instance ∷ Named x ∷ [])))
    outputs_end [] plan h x = no_rows types outputs fill n loops away (At (here (Instance ∷ Named x ∷ []))) (plan (Instance ∷ Named x ∷ []))
    outputs_end (o ∷ os) plan h x =
        let whole = read_end (rows_in types outputs fill n loops away) (At (here [])) (Some (copies w rs (At (here (Instance ∷ Named o ∷ []))) ∷ [])) (plan []) h in
        let copy = whole.0 in
        let first = copy.2 in
        let same : output_row types outputs fill 0 (o ∷ os) w rs f args o ≡ Some (row w rs (Call f 0 args) ∷ []) =
        ap (λ d. if d then Some (row w rs (Call f 0 args) ∷ []) else output_row types outputs fill 1 os w rs f args o) (name_itself o) in
        let read =
        read_end (rows_in types outputs fill n loops away) (At (here (Instance ∷ Named o ∷ []))) (Some (row w rs (Call f 0 args) ∷ [])) (plan (Instance ∷ Named o ∷ []) ∙ same) first.0 in
        let made = read.0 in
        instance_ends (o ∷ os) plan made.0 made.1 made.2 x
