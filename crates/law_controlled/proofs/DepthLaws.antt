-- In the runs that the machines of a program say, each instance that sees all has the greatest permitted values, at every depth.
use Rattle.std.proofs.Common.{◌≡◌, ℕ, List, [], ◌∷◌, ◌++◌, reverse, Some, refl, sym, ap, subst, ◌∙◌, append_assoc}
use Rattle.std.specs.Prelude.{Bool, true, false, if◌then◌else◌, IsTrue, All, slice_index_or}
use Rattle.std.specs.Bool.{MatchBool}
use Rattle.std.specs.List.{AllByRecursion}
use Rattle.std.specs.Str.{bytes_eq}
use Rattle.hp_base.specs.Kinds.{AreOfKinds}
use Rattle.hp_base.specs.declared.value.Value.{Value}
use Rattle.hp_obc.specs.Machines.{Obc}
use Rattle.hp_tree.specs.declared.program.Item.{Item}
use Rattle.hp_tree.specs.declared.program.Item.TheVariants.{TypeItem, NodeItem}
use Rattle.hp_tree.specs.Instant.{Fresh, Instance, Instant, Past}
use Rattle.hp_tree.specs.Meaning.{node_among, types_of}
use Rattle.hp_tree.specs.Operators.{is_there}
use Rattle.hp_tree.specs.Programs.{Node, TypeDecl}
use Rattle.hp_meaning.specs.Causal.Points.{Placed}
use Rattle.hp_meaning.specs.Contract.ChosenRuns.{NamesApart, own_past}
use Rattle.hp_meaning.specs.Contract.FreePlaces.{calls_of, instance_at}
use Rattle.hp_meaning.specs.Contract.Guarantee.{AllSafe, HasContract}
use Rattle.law_games.specs.ReadyGames.Laws.{IsInOrder}
use Rattle.law_games.proofs.GuaranteedLemmas.Apart.{found_among, ready_apart}
use Rattle.law_wellmade.specs.Timely.Kinds.{kinds_of_decls}
use Rattle.law_choices.specs.Instances.InKind.{InstanceInKind, ReactsInKind}
use Rattle.law_choices.specs.Instances.Integers.{WritesShort}
use Rattle.law_judged.specs.Named.Scoped.{EachNode}
use Rattle.law_choices.specs.Runs.Chosen.{ChosenReaction}
use Rattle.law_controlled.specs.Allowed.{RunsAllowed}
use Rattle.law_controlled.specs.AtDepth.{AreGreatestAtDepth, InEach, IsGreatestIfSeen}
use Rattle.law_controlled.specs.Greatest.{KeepsDuty}
use Rattle.law_controlled.proofs.DutyLaws.{SteeringLaws, keeps, rows_of}
use Rattle.law_controlled.proofs.KeepingLaws.{keeps_contract}
use Rattle.law_controlled.proofs.SeenLaws.{greatest_of}

some_same : {A : Type 0} (x y : A) → Some x ≡ Some y → x ≡ y
some_same x y e = cc

-- ---- the instances of a run

module _ (laws : SteeringLaws) (program after : List Item) (ranks : List (List ℕ)) (order : IsInOrder program after ranks) (safe : AllSafe after (reverse after)) (writes : EachNode WritesShort after) (o : Obc) (r : RunsAllowed program after o) where
  abbrev types : List TypeDecl
  types = types_of after

  abbrev Kinds : Node → List (List Value) → Type 0
  Kinds n rows = AllByRecursion (AreOfKinds (kinds_of_decls types n.inputs)) rows

  abbrev Reacts : List ℕ → Past → Type 0
  Reacts f past = ReactsInKind ((r.allowed).allowed).choices after f past

  -- a node, over inputs of its kinds
  one : (f : List ℕ) (n : Node) (rows : List (List Value)) (past : Past) (now : Instant) → node_among (reverse after) f ≡ Some n → Kinds n rows → ChosenReaction ((r.allowed).allowed).choices after f rows (now ∷ past) → IsGreatestIfSeen after n past now
  one f n rows past now e kinds chosen sees =
      let are = ((r.allowed).allowed).allowed in
      let h = greatest_of laws program after ranks order o r f n rows (now ∷ past) e kinds chosen sees in
      let typed = rows_of laws program after ranks order safe n rows kinds in
      let kept : HasContract n → KeepsDuty n (now ∷ past) = keeps laws program after ranks order safe ((r.allowed).allowed).choices are.values f n rows (now ∷ past) e typed chosen h in
      record {
        greatest = h.1;
        owed = λ has. (kept has).1;
        enforced = λ has none. (keeps_contract n none (now ∷ past) (kept has)).1;
      }

  -- an instance among some items, and those below it
  deep : (items : List Item) (later : List Item) → reverse after ≡ later ++ items → (f : List ℕ) (past : Past) (now : Instant) → Reacts f (now ∷ past) → InEach (IsGreatestIfSeen after) items f past now
  deep [] later e f past now h = tt
  deep (TypeItem t ∷ items) later e f past now h = deep items (later ++ (TypeItem t ∷ [])) (e ∙ sym (append_assoc later (TypeItem t ∷ []) items)) f past now h
  deep (NodeItem n ∷ items) later e f past now h =
      by (bytes_eq n.name f) refl (λ g older i k. deep items (later ++ (NodeItem n ∷ [])) (e ∙ sym (append_assoc later (NodeItem n ∷ []) items)) g older i k)
    where
      apart : NamesApart (reverse after)
      apart = ready_apart program after order.ready

      Below : Placed → Type 0
      Below k = IsTrue (is_there (instance_at k now (Fresh ∷ []))) → InEach (IsGreatestIfSeen after) items k.point.name (own_past (k.place ++ (Instance ∷ [])) past now) (instance_at k now)

      found : bytes_eq n.name f ≡ true → node_among (reverse after) f ≡ Some n
      found same = ap (λ xs. node_among xs f) e ∙ found_among later (NodeItem n ∷ items) f n (subst NamesApart e apart) (ap (λ b. if b then Some n else node_among items f) same)

      by : (d : Bool) → bytes_eq n.name f ≡ d → ((g : List ℕ) (older : Past) (i : Instant) → Reacts g (i ∷ older) → InEach (IsGreatestIfSeen after) items g older i)
          → MatchBool d (IsGreatestIfSeen after n past now × All Below (calls_of n)) (InEach (IsGreatestIfSeen after) items f past now)
      by true same rest =
          let is : node_among (reverse after) f ≡ Some n = found same in
          let node : h.node ≡ n = some_same h.node n (sym h.is_node ∙ is) in
          let kinds : Kinds n h.rows = subst (λ (m : Node). Kinds m h.rows) node h.kinds in
          let are = ((r.allowed).allowed).allowed in
          let below : All (InstanceInKind ((r.allowed).allowed).choices after past now) (calls_of n) = laws.instances program after ranks order writes ((r.allowed).allowed).choices are.values ((r.allowed).allowed).typed f n h.rows past now is kinds h.chosen in (
            one f n h.rows past now is kinds h.chosen,
            λ j d b t.
                let k = slice_index_or (calls_of n) j d in
                rest k.point.name (own_past (k.place ++ (Instance ∷ [])) past now) (instance_at k now) (below j d b t),
          )
      by false same rest = rest f past now h

  -- the run
  pub at_depth : (f : List ℕ) (n : Node) (rows : List (List Value)) (past : Past) → node_among (reverse after) f ≡ Some n → Kinds n rows → ChosenReaction ((r.allowed).allowed).choices after f rows past → AreGreatestAtDepth after f past
  at_depth f n [] [] e kinds chosen = tt
  at_depth f n [] (now ∷ past) e kinds chosen = absurd chosen
  at_depth f n (row ∷ rows) [] e kinds chosen = absurd chosen
  at_depth f n (row ∷ rows) (now ∷ past) e kinds chosen = (
    at_depth f n rows past e kinds.1 chosen.0,
    deep (reverse after) [] refl f past now (record { node = n; is_node = e; rows = row ∷ rows; kinds = kinds; chosen = chosen }),
  )
