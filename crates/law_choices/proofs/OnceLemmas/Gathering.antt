-- The choices of a reaction are finitely many, and a strategy that makes them is followed in it.
use Rattle.std.proofs.Common.{◌≡◌, ℕ, suc, List, [], ◌∷◌, ◌++◌, length, refl, ap}
use Rattle.std.proofs.lemmas.List.Elements.{All-nil, All-cons, All-head, All-tail}
use Rattle.std.specs.Prelude.{Bool, true, false, IsTrue, All}
use Rattle.std.specs.Str.{bytes_eq}
use Rattle.std.specs.Bool.{MatchBool}
use Rattle.hp_tree.specs.declared.program.Item.{Item}
use Rattle.hp_tree.specs.declared.program.Item.TheVariants.{TypeItem, NodeItem}
use Rattle.hp_tree.specs.Blocks.{Decl}
use Rattle.hp_tree.specs.Programs.{Node}
use Rattle.hp_tree.specs.Operators.{is_there}
use Rattle.hp_tree.specs.Instant.{Inputs, Controls, Fresh, Tail, Instance, Instant, Past, part}
use Rattle.hp_tree.specs.Meaning.{controls_of}
use Rattle.hp_tree.specs.Reaction.{row_of, controls_at}
use Rattle.hp_meaning.specs.Causal.Points.{Placed}
use Rattle.hp_meaning.specs.Contract.Forgetting.{erase}
use Rattle.hp_meaning.specs.Contract.FreePlaces.{calls_of, instance_at}
use Rattle.hp_meaning.specs.Contract.ChosenRuns.{ChoiceRule, own_past, Controlled, ControlledThroughout}
use Rattle.hp_meaning.specs.Contract.SteeredRuns.{Strategy, Follows}
use Rattle.law_choices.proofs.OnceLemmas.Strategies.{Made, Makes, makes_front, makes_back, Keeps, AllKeep, all_keep}

row_length : (ds : List Decl) (i : Instant) → length (row_of ds i) ≡ length ds
row_length [] i = refl
row_length (d ∷ ds) i = ap suc (row_length ds (part Tail i))

module _ (rule : ChoiceRule) where
  -- finitely many choices that keep the rule; what is said of a strategy holds of each one that makes them
  abbrev pub Gathered : (Strategy → Type 0) → Type 0
  Gathered Q = (ms : List Made) × AllKeep rule ms × ((s : Strategy) → Makes s ms → Q s)

  none_made : (Q : Strategy → Type 0) → ((s : Strategy) → Q s) → Gathered Q
  none_made Q h = ([], tt, λ s k. h s)

  one_made : (m : Made) → Keeps rule m → Gathered (λ s. m.1 ≡ s m.0.node m.0.history m.0.inputs m.0.early)
  one_made m h = (m ∷ [], (h, tt), λ s k. k.0)

  so_too : (P Q : Strategy → Type 0) → ((s : Strategy) → P s → Q s) → Gathered P → Gathered Q
  so_too P Q f h = (h.0, h.1, λ s k. f s (h.2 s k))

  both_made : (P Q : Strategy → Type 0) → Gathered P → Gathered Q → Gathered (λ s. P s × Q s)
  both_made P Q h k = (h.0 ++ k.0, all_keep rule h.0 k.0 h.1 k.1, λ s makes. (h.2 s (makes_front s h.0 k.0 makes), k.2 s (makes_back s h.0 k.0 makes)))

  by_match : (d : Bool) (P Q : Type 0) (P' Q' : Strategy → Type 0) → (P → Gathered P') → (Q → Gathered Q') → MatchBool d P Q → Gathered (λ s. MatchBool d (P' s) (Q' s))
  by_match true P Q P' Q' f g h = f h
  by_match false P Q P' Q' f g h = g h

  where_there : (d : Bool) (P : Type 0) (P' : Strategy → Type 0) → (P → Gathered P') → (IsTrue d → P) → Gathered (λ s. IsTrue d → P' s)
  where_there true P P' f h = so_too P' (λ s. IsTrue true → P' s) (λ s k e. k) (f (h refl))
  where_there false P P' f h = none_made (λ s. IsTrue false → P' s) (λ s e. absurd (no e))
    where
      no : IsTrue false → ⊥
      no e = absurd (cc)

  of_each : (P : Placed → Type 0) (P' : Placed → Strategy → Type 0) → ((k : Placed) → P k → Gathered (P' k)) → (ks : List Placed) → All P ks → Gathered (λ s. All (λ k. P' k s) ks)
  of_each P P' f [] h = none_made (λ s. All (λ k. P' k s) []) (λ s. All-nil (λ k. P' k s))
  of_each P P' f (k ∷ ks) h =
      so_too (λ s. P' k s × All (λ k. P' k s) ks) (λ s. All (λ k. P' k s) (k ∷ ks)) (λ s g. All-cons (λ k. P' k s) k ks g.0 g.1)
      (both_made (P' k) (λ s. All (λ k. P' k s) ks) (f k (All-head P k ks h)) (of_each P P' f ks (All-tail P k ks h)))

  -- ---- of an instant, and of a reaction

  abbrev made_at : Node → Past → Instant → Made
  made_at n past now = (record { node = n; history = erase past; inputs = row_of n.inputs (part Inputs now); early = now }, controls_at n now)

  abbrev In : List Item → Past → Instant → Placed → Type 0
  In items past now k = Controlled rule items k.point.name (own_past (k.place ++ (Instance ∷ [])) past now) (instance_at k now)

  abbrev Followed : List Item → Past → Instant → Placed → Strategy → Type 0
  Followed items past now k s = Controlled (Follows s) items k.point.name (own_past (k.place ++ (Instance ∷ [])) past now) (instance_at k now)

  abbrev there : Instant → Placed → Bool
  there now k = is_there (instance_at k now (Fresh ∷ []))

  at_instant : (items : List Item) (f : List ℕ) (past : Past) (now : Instant) → Controlled rule items f past now → Gathered (λ s. Controlled (Follows s) items f past now)
  at_instant [] f past now h = none_made (λ s. Controlled (Follows s) [] f past now) (λ s. tt)
  at_instant (TypeItem t ∷ items) f past now h = at_instant items f past now h
  at_instant (NodeItem n ∷ items) f past now h =
      by_match (bytes_eq n.name f)
      (rule n (erase past) (row_of n.inputs (part Inputs now)) now (controls_at n now) × All (λ k. IsTrue (there now k) → In items past now k) (calls_of n))
      (Controlled rule items f past now)
      (λ s. Follows s n (erase past) (row_of n.inputs (part Inputs now)) now (controls_at n now) × All (λ k. IsTrue (there now k) → Followed items past now k s) (calls_of n))
      (λ s. Controlled (Follows s) items f past now)
      (λ g.
      both_made (λ s. Follows s n (erase past) (row_of n.inputs (part Inputs now)) now (controls_at n now)) (λ s. All (λ k. IsTrue (there now k) → Followed items past now k s) (calls_of n))
      (one_made (made_at n past now) (g.0, row_length (controls_of n.contract) (part Controls now)))
      (of_each (λ k. IsTrue (there now k) → In items past now k) (λ k s. IsTrue (there now k) → Followed items past now k s)
      (λ k. where_there (there now k) (In items past now k) (Followed items past now k) (at_instant items k.point.name (own_past (k.place ++ (Instance ∷ [])) past now) (instance_at k now)))
      (calls_of n) g.1))
      (at_instant items f past now) h

  pub gathered : (items : List Item) (f : List ℕ) (past : Past) → ControlledThroughout rule items f past → Gathered (λ s. ControlledThroughout (Follows s) items f past)
  gathered items f [] h = none_made (λ s. ControlledThroughout (Follows s) items f []) (λ s. tt)
  gathered items f (now ∷ past) h =
      both_made (λ s. ControlledThroughout (Follows s) items f past) (λ s. Controlled (Follows s) items f past now) (gathered items f past h.0) (at_instant items f past now h.1)
