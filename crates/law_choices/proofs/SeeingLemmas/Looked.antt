-- Where an instant looks at what is given at a free place, its own value there is no Nil, and is there.
use Rattle.std.proofs.Common.{◌≡◌, ◌⊎◌, inl, inr, ℕ, Bool, true, false, ◌&&◌, ◌||◌, List, [], ◌∷◌, ◌++◌, map, refl, sym, ap, subst, ◌∙◌, if◌then◌else◌}
use Rattle.std.specs.Prelude.{IsTrue}
use Rattle.hp_base.specs.declared.ty.Ty.{Ty}
use Rattle.hp_base.specs.declared.ty.Ty.TheVariants as ty
use Rattle.hp_base.specs.declared.value.Value.{Value}
use Rattle.hp_base.specs.declared.value.Value.TheVariants.{Absent, B, E, I, Nil, Star}
use Rattle.hp_tree.specs.declared.program.Item.{Item}
use Rattle.hp_tree.specs.Programs.{TypeDecl, Node}
use Rattle.hp_tree.specs.Operators.{is_there, marked}
use Rattle.hp_tree.specs.Instant.{Body, Controls, First, Fresh, Head, Inputs, Instance, Instant, Named, Place, Second, Step, Tail, alone, in_row, part}
use Rattle.hp_tree.specs.Meaning.{types_of}
use Rattle.hp_tree.specs.Values.{IsOf}
use Rattle.hp_meaning.specs.Causal.Points.{points}
use Rattle.hp_meaning.specs.Contract.Forgetting.{begins_hidden, erased, is_forgotten, is_instance}
use Rattle.hp_meaning.specs.Contract.FreePlaces.{InputsFit, IsFree, instance_at}
use Rattle.hp_meaning.specs.Contract.Game.{Choice}
use Rattle.hp_meaning.specs.Contract.Guarantee.{Typed}
use Rattle.hp_meaning.specs.Contract.Slots.{free_places, slots_of_node}
use Rattle.law_judged.proofs.NamedLemmas.Sets.{or_cases}
use Rattle.law_games.specs.Mirror.Mirrored.{given_with}
use Rattle.law_games.specs.ReadyGames.Laws.{IsInOrder, Stands}
use Rattle.law_games.proofs.ForcedLemmas.EachCall.{all_each}
use Rattle.law_games.proofs.ForcedLemmas.Steps.{OutputsAre, node_outputs}
use Rattle.law_games.proofs.ReadyGamesLemmas.Settled.{found}
use Rattle.law_choices.specs.Chosen.Laws.{is_mark, is_output, is_seen}
use Rattle.law_choices.proofs.ChosenLemmas.Seen.{made, slots_fit}
use Rattle.law_choices.proofs.SeeingLemmas.Given.{both-true, typed-at}

-- ---- what is forgotten

hidden-more : (p r : Place) → begins_hidden p ≡ true → begins_hidden (p ++ r) ≡ true
hidden-more [] r h = absurd cc
hidden-more (Body ∷ p) r h = refl
hidden-more (Controls ∷ p) r h = refl
hidden-more (s ∷ p) r h = absurd cc

-- what stands below what is forgotten is forgotten too
forgotten-more : (p r : Place) → is_forgotten p ≡ true → is_forgotten (p ++ r) ≡ true
forgotten-more [] r h = absurd cc
forgotten-more (s ∷ p) r h = by (or_cases (is_instance s && begins_hidden p) (is_forgotten p) h) (λ x. forgotten-more p r x)
  where
    or-last : (a b : Bool) → b ≡ true → (a || b) ≡ true
    or-last true b e = refl
    or-last false b e = e

    by : (IsTrue (is_instance s && begins_hidden p)) ⊎ IsTrue (is_forgotten p) → (is_forgotten p ≡ true → is_forgotten (p ++ r) ≡ true) → (is_instance s && begins_hidden (p ++ r) || is_forgotten (p ++ r)) ≡ true
    by (inl x) more =
        let both = both-true (is_instance s) (begins_hidden p) x in
        ap (λ b. b && begins_hidden (p ++ r) || is_forgotten (p ++ r)) both.0 ∙ ap (λ b. b || is_forgotten (p ++ r)) (hidden-more p r both.1)
    by (inr x) more = or-last (is_instance s && begins_hidden (p ++ r)) (is_forgotten (p ++ r)) (more x)

-- ---- values

-- a value that is there, and not Nil
abbrev pub IsSome : Value → Type 0
IsSome v = (v ≡ Nil → ⊥) × (v ≡ Absent → ⊥)

marked-some : (types : List TypeDecl) (t : Ty) (v : Value) → IsOf types t v → IsSome (marked v)
marked-some types ty.Bool (B b) h = (λ q. absurd cc, λ q. absurd cc)
marked-some types ty.Int (I n) h = (λ q. absurd cc, λ q. absurd cc)
marked-some types (ty.Enum t) (E u k) h = (λ q. absurd cc, λ q. absurd cc)
marked-some types t v h = absurd h

is-star : (v : Value) → is_mark v ≡ true → v ≡ Star
is-star Star h = refl
is-star Nil h = absurd cc
is-star Absent h = absurd cc
is-star (B b) h = absurd cc
is-star (I n) h = absurd cc
is-star (E t k) h = absurd cc

-- ---- places

-- an output of a call that is there
output-place : (q : Place) (i : Instant) → is_output i q ≡ true → (p : Place) × (x : List ℕ) × (q ≡ p ++ (Instance ∷ Named x ∷ [])) × (is_there (i (p ++ (Instance ∷ Fresh ∷ []))) ≡ true)
output-place [] i h = absurd cc
output-place (Instance ∷ Named x ∷ []) i h = ([], x, refl, h)
output-place (Instance ∷ Named x ∷ t ∷ q) i h = let r = output-place (Named x ∷ t ∷ q) (part Instance i) h in (Instance ∷ r.0, r.1, ap (λ z. Instance ∷ z) r.2, r.3)
output-place (s ∷ q) i h = let r = output-place q (part s i) h in (s ∷ r.0, r.1, ap (λ z. s ∷ z) r.2, r.3)

-- below values in a row nothing is called
row-deep : (vs : List Value) (p : Place) (s : Step) → in_row (map alone vs) (p ++ (Instance ∷ s ∷ [])) ≡ Absent
row-deep [] p s = refl
row-deep (v ∷ vs) [] s = refl
row-deep (v ∷ vs) (Head ∷ []) s = refl
row-deep (v ∷ vs) (Head ∷ u ∷ p) s = refl
row-deep (v ∷ vs) (Tail ∷ p) s = row-deep vs p s
row-deep (v ∷ vs) (u ∷ p) s = refl

-- ---- one instant

module _ (program after : List Item) (ranks : List (List ℕ)) (order : IsInOrder program after ranks) (earlier : List Item) (n : Node) (stands : Stands after earlier n) (now : Instant) (typed : Typed after n now) (inputs : List Value) (fit : InputsFit (types_of after) n.inputs inputs)
    (at_inputs : (p : Place) → now (Inputs ∷ p) ≡ in_row (map alone inputs) p) (controls : Choice) (at_controls : (p : Place) → now (Controls ∷ p) ≡ in_row (map alone controls) p) where
  abbrev here : Instant
  here = erased now

  -- what is kept of no value, or of Nil, is that
  kept : (p : Place) (v : Value) → marked v ≡ v → now p ≡ v → here (p ++ (First ∷ [])) ≡ Star → here p ≡ now p
  kept p v same is star = by (is_forgotten p) refl
    where
      by : (b : Bool) → is_forgotten p ≡ b → (if b then Absent else marked (now p)) ≡ now p
      by true e = absurd (let gone : here (p ++ (First ∷ [])) ≡ Absent = ap (λ b. if b then Absent else marked (now (p ++ (First ∷ [])))) (forgotten-more p (First ∷ []) e) in let no : Star ≡ Absent = sym star ∙ gone in cc)
      by false e = ap marked is ∙ same ∙ sym is

  -- what is made of two integers
  compared-some : (p : Place) → here (p ++ (First ∷ [])) ≡ Star → here (p ++ (Second ∷ [])) ≡ Star → IsSome (now p)
  compared-some p f t = (
    λ e. let b = (typed.free).comparisons p f t (kept p Nil refl e f) in absurd (let no : Nil ≡ B b.0 = sym e ∙ b.1 in cc),
    λ e. let b = (typed.free).comparisons p f t (kept p Absent refl e f) in absurd (let no : Absent ≡ B b.0 = sym e ∙ b.1 in cc),
  )

  -- nothing is called where inputs and controllable variables stand
  no-call : (w : Step) (vs : List Value) (p : Place) → ((p : Place) → now (w ∷ p) ≡ in_row (map alone vs) p) → is_there (here (w ∷ (p ++ (Instance ∷ Fresh ∷ [])))) ≡ true → ⊥
  no-call w vs p at there = by (is_forgotten (w ∷ (p ++ (Instance ∷ Fresh ∷ [])))) there
    where
      none : now (w ∷ (p ++ (Instance ∷ Fresh ∷ []))) ≡ Absent
      none = at (p ++ (Instance ∷ Fresh ∷ [])) ∙ row-deep vs p Fresh

      by : (b : Bool) → is_there (if b then Absent else marked (now (w ∷ (p ++ (Instance ∷ Fresh ∷ []))))) ≡ true → ⊥
      by true h = absurd cc
      by false h = absurd (let no : false ≡ true = sym (ap (λ v. is_there (marked v)) none) ∙ h in cc)

  -- an output of a call is of its type, wherever that is there
  output-some : (p : Place) (x : List ℕ) → is_there (here (p ++ (Instance ∷ Fresh ∷ []))) ≡ true → IsFree (free_places after n) (p ++ (Instance ∷ Named x ∷ [])) → IsSome (now (p ++ (Instance ∷ Named x ∷ [])))
  output-some p x there free =
      let q = p ++ (Instance ∷ Named x ∷ []) in
      let given = made program after ranks order earlier n stands now in
      let root = given_with (map marked inputs) given controls in
      let t = typed-at (types_of after) (slots_of_node after n) root q (slots_fit program after ranks order earlier n stands inputs now fit controls) free in
      let its = marked-some (types_of after) t.0 (given q) (subst (IsOf (types_of after) t.0) (root-given p there) t.1) in
      let same : marked (now q) ≡ marked (given q) =
      node_outputs after earlier (found program after ranks order earlier n stands) n here now
      (all_each (λ k. IsTrue (is_there (instance_at k here (Fresh ∷ []))) → OutputsAre after earlier (found program after ranks order earlier n stands) now k) (points n) (typed.free).outputs) p x there in (
        λ e. its.0 (sym same ∙ ap marked e),
        λ e. its.1 (sym same ∙ ap marked e),
      )
    where
      root-given : (p : Place) → is_there (here (p ++ (Instance ∷ Fresh ∷ []))) ≡ true
          → given_with (map marked inputs) (made program after ranks order earlier n stands now) controls (p ++ (Instance ∷ Named x ∷ [])) ≡ made program after ranks order earlier n stands now (p ++ (Instance ∷ Named x ∷ []))
      root-given [] there = refl
      root-given (Inputs ∷ p) there = absurd (no-call Inputs inputs p at_inputs there)
      root-given (Controls ∷ p) there = absurd (no-call Controls controls p at_controls there)
      root-given (s ∷ p) there = refl

  pub seen-some : (q : Place) → IsFree (free_places after n) q → IsTrue (is_seen here q) → IsSome (now q)
  seen-some q free seen = by (or_cases (is_mark (here (q ++ (First ∷ []))) && is_mark (here (q ++ (Second ∷ [])))) (is_output here q) seen)
    where
      by : (IsTrue (is_mark (here (q ++ (First ∷ []))) && is_mark (here (q ++ (Second ∷ []))))) ⊎ IsTrue (is_output here q) → IsSome (now q)
      by (inl x) = let both = both-true (is_mark (here (q ++ (First ∷ [])))) (is_mark (here (q ++ (Second ∷ [])))) x in compared-some q (is-star (here (q ++ (First ∷ []))) both.0) (is-star (here (q ++ (Second ∷ []))) both.1)
      by (inr x) =
          let o = output-place q here x in
          subst (λ z. IsSome (now z)) (sym o.2) (output-some o.0 o.1 o.3 (subst (IsFree (free_places after n)) o.2 free))
