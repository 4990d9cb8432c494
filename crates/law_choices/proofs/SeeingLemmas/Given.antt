-- An instant of the game is one for values of free places that are of their types, and its own wherever it looks.
use Rattle.std.proofs.Common.{◌≡◌, inl, inr, ℕ, List, [], ◌∷◌, ◌++◌, map, refl, sym, ap, ap₂, subst, ◌∙◌, if◌then◌else◌}
use Rattle.std.specs.Prelude.{Bool, true, false, ◌&&◌, ◌||◌, IsTrue, reverse, All}
use Rattle.hp_base.specs.declared.ty.Ty.{Ty}
use Rattle.hp_base.specs.declared.ty.Ty.TheVariants as ty
use Rattle.hp_base.specs.declared.value.Value.{Value}
use Rattle.hp_base.specs.declared.value.Value.TheVariants.{Absent, B, E, I, Star}
use Rattle.hp_tree.specs.declared.program.Item.{Item}
use Rattle.hp_tree.specs.Programs.{TypeDecl, Node}
use Rattle.hp_tree.specs.Operators.{abstraction, marked, is_there}
use Rattle.hp_tree.specs.Instant.{Step, Inputs, Controls, Body, Named, Fresh, First, Second, Instance, Place, Instant, Past}
use Rattle.hp_tree.specs.Meaning.{types_of, node, node_among}
use Rattle.hp_tree.specs.Values.{IsOf}
use Rattle.hp_meaning.specs.Causal.Abstract.{callees, abstract_meaning}
use Rattle.hp_meaning.specs.Causal.Agreement.{AgreeAtFree}
use Rattle.hp_meaning.specs.Causal.Points.{points}
use Rattle.hp_meaning.specs.Causal.RanksOfPoints.{same_place}
use Rattle.hp_meaning.specs.Causal.Steering.{steered_by}
use Rattle.hp_meaning.proofs.CausalLemmas.LookedAt.{abstract_given}
use Rattle.hp_meaning.proofs.CausalLemmas.Ranking.{place_same, same_place_refl}
use Rattle.hp_meaning.specs.Contract.Codes.{code}
use Rattle.hp_meaning.specs.Contract.Forgetting.{begins_hidden, erased, is_forgotten, is_instance}
use Rattle.hp_meaning.specs.Contract.FreePlaces.{InputsFit, IsAbstractOf, IsEarly, IsFree, instance_at}
use Rattle.hp_meaning.specs.Contract.Game.{Choice, IsChoiceOf, at_controls, IsNext}
use Rattle.hp_meaning.specs.Contract.Slots.{Slot, register, free, input, control, FreePlace, free_among, free_places, slots_of_node, registers, zero_at}
use Rattle.law_games.proofs.WiretypedLemmas.Givens.{inputs_fit}
use Rattle.law_games.specs.Mirror.Mirrored.{codes_at, early_among, given_with, late_among}
use Rattle.law_games.specs.Mirror.Memories.{SlotsFit}
use Rattle.law_games.specs.ReadyGames.Laws.{Stands, IsInOrder}
use Rattle.law_games.specs.ReadyGames.FittingHistories.{IsFitting}
use Rattle.law_games.proofs.ReadyGamesLemmas.Settled.{found}
use Rattle.law_games.proofs.ForcedLemmas.EachCall.{all_each}
use Rattle.law_games.proofs.ForcedLemmas.FittedNodes.{callee_of, node_fits}
use Rattle.law_games.proofs.ForcedLemmas.Mended.{flag_of, mend_node}
use Rattle.law_games.proofs.ForcedLemmas.Pairs.{node_pairs, called_pairs}
use Rattle.law_games.proofs.ForcedLemmas.Steps.{OutputsAre, node_outputs, marked_inputs}
use Rattle.law_games.proofs.ForcedLemmas.Typed.{node_stays}
use Rattle.law_choices.specs.Chosen.Laws.{is_seen}
use Rattle.law_choices.specs.Seeing.Values.{AreOwn}
use Rattle.law_choices.proofs.ChosenLemmas.Chosen.{bool_same, other_same}
use Rattle.law_choices.proofs.ChosenLemmas.Seen.{seen_marks, seen_output, declared, as_node, made, early_fits, early_given}

-- ---- places

-- whether a place is one of some
abbrev pub is_among : List FreePlace → Place → Bool
is_among [] p = false
is_among (q ∷ qs) p = same_place q.0 p || is_among qs p

among-free : (ps : List FreePlace) (p : Place) → is_among ps p ≡ true → IsFree ps p
among-free [] p h = absurd cc
among-free (q ∷ qs) p h = by (same_place q.0 p) refl h (among-free qs p)
  where
    by : (b : Bool) → same_place q.0 p ≡ b → (b || is_among qs p) ≡ true → (is_among qs p ≡ true → IsFree qs p) → IsFree (q ∷ qs) p
    by true e h more = inl (sym (place_same q.0 p e))
    by false e h more = inr (more h)

pub both-true : (a b : Bool) → (a && b) ≡ true → (a ≡ true) × (b ≡ true)
both-true true b h = (refl, h)
both-true false b h = absurd cc

or-right : (a b : Bool) → b ≡ true → (a || b) ≡ true
or-right true b e = refl
or-right false b e = e

free-among : (ps : List FreePlace) (p : Place) → IsFree ps p → is_among ps p ≡ true
free-among [] p h = absurd h
free-among (q ∷ qs) p (inl e) = ap (λ r. same_place r p || is_among qs p) (sym e) ∙ ap (λ b. b || is_among qs p) (same_place_refl p)
free-among (q ∷ qs) p (inr f) = or-right (same_place q.0 p) (is_among qs p) (free-among qs p f)

-- what is forgotten of a call does not hang on which of its own places it is
hidden-same : (p : Place) (s t : Step) → begins_hidden (p ++ (Instance ∷ s ∷ [])) ≡ begins_hidden (p ++ (Instance ∷ t ∷ []))
hidden-same [] s t = refl
hidden-same (Body ∷ p) s t = refl
hidden-same (Controls ∷ p) s t = refl
hidden-same (r ∷ p) s t = refl

forgotten-same : (p : Place) (x : List ℕ) → is_forgotten (p ++ (Instance ∷ Named x ∷ [])) ≡ is_forgotten (p ++ (Instance ∷ Fresh ∷ []))
forgotten-same [] x = refl
forgotten-same (r ∷ p) x =
    ap₂ (λ a b. is_instance r && a || b) (hidden-same p (Named x) Fresh) (forgotten-same p x)

-- ---- values

abbrev no_number : Value → Bool
no_number (I n) = false
no_number v = true

-- a value of a type that is no number is its own mark
plain : (types : List TypeDecl) (t : Ty) (v : Value) → IsOf types t v → no_number v ≡ true → (marked v ≡ v) × (v ≡ Star → ⊥)
plain types ty.Bool (B b) i e = (refl, λ z. absurd (cc))
plain types ty.Int (I n) i e = absurd (cc)
plain types (ty.Enum t) (E u k) i e = (refl, λ z. absurd (cc))
plain types t v i e = absurd i

-- a number has no code
number-code : (types : List TypeDecl) (t : Ty) (v w : Value) → IsOf types t v → no_number v ≡ false → code types t w ≡ code types t v
number-code types ty.Int v w i e = refl
number-code types ty.Bool (B b) w i e = absurd (cc)
number-code types (ty.Enum t) (E u k) w i e = absurd (cc)
number-code types t v w i e = absurd i

pub typed-at : (types : List TypeDecl) (ss : List Slot) (root : Instant) (q : Place) → SlotsFit types ss root → IsFree (free_among ss) q → (t : Ty) × IsOf types t (root q)
typed-at types [] root q h f = absurd f
typed-at types (register p k ∷ ss) root q h f = typed-at types ss root q h f
typed-at types (control p t ∷ ss) root q h f = typed-at types ss root q h f
typed-at types (input p t ∷ ss) root q h (inl e) = (t, subst (λ z. IsOf types t (root z)) (sym e) h.0)
typed-at types (input p t ∷ ss) root q h (inr f) = typed-at types ss root q h.1 f
typed-at types (free p t ∷ ss) root q h (inl e) = (t, subst (λ z. IsOf types t (root z)) (sym e) h.0)
typed-at types (free p t ∷ ss) root q h (inr f) = typed-at types ss root q h.1 f

-- what is kept of a truth value, and of one that is there
kept-flag : (f : Bool) (v : Value) (b : Bool) → (if f then Absent else marked v) ≡ B b → v ≡ B b
kept-flag true v b e = absurd (cc)
kept-flag false v b e = bool_same v b e

-- ---- codes

module _ (types : List TypeDecl) (early : Place → Bool) (i j : Instant) where
  abbrev SameCodes : List Slot → Type 0
  SameCodes ss = (q : Place) (t : Ty) → IsFree (free_among ss) q → IsOf types t (j q) → code types t (i q) ≡ code types t (j q)

  pub same-early : (ss : List Slot) → SameCodes ss → SlotsFit types ss j → codes_at types (early_among early ss) i ≡ codes_at types (early_among early ss) j
  same-early [] h s = refl
  same-early (register p k ∷ ss) h s = same-early ss h s
  same-early (control p t ∷ ss) h s = same-early ss h s
  same-early (input p t ∷ ss) h s = ap₂ (λ a b. a ++ b) (h p t (inl refl) s.0) (same-early ss (λ q u f. h q u (inr f)) s.1)
  same-early (free p t ∷ ss) h s = by (early p) (h p t (inl refl) s.0) (same-early ss (λ q u f. h q u (inr f)) s.1)
    where
      by : (b : Bool) → code types t (i p) ≡ code types t (j p) → codes_at types (early_among early ss) i ≡ codes_at types (early_among early ss) j
          → codes_at types (if b then (p, t) ∷ early_among early ss else early_among early ss) i ≡ codes_at types (if b then (p, t) ∷ early_among early ss else early_among early ss) j
      by true e k = ap₂ (λ a b. a ++ b) e k
      by false e k = k

  pub same-late : (ss : List Slot) → SameCodes ss → SlotsFit types ss j → codes_at types (late_among early ss) i ≡ codes_at types (late_among early ss) j
  same-late [] h s = refl
  same-late (register p k ∷ ss) h s = same-late ss h s
  same-late (control p t ∷ ss) h s = same-late ss h s
  same-late (input p t ∷ ss) h s = same-late ss (λ q u f. h q u (inr f)) s.1
  same-late (free p t ∷ ss) h s = by (early p) (h p t (inl refl) s.0) (same-late ss (λ q u f. h q u (inr f)) s.1)
    where
      by : (b : Bool) → code types t (i p) ≡ code types t (j p) → codes_at types (late_among early ss) i ≡ codes_at types (late_among early ss) j
          → codes_at types (if b then late_among early ss else (p, t) ∷ late_among early ss) i ≡ codes_at types (if b then late_among early ss else (p, t) ∷ late_among early ss) j
      by true e k = k
      by false e k = ap₂ (λ a b. a ++ b) e k

-- ---- one instant

module _ (program after : List Item) (ranks : List (List ℕ)) (o : IsInOrder program after ranks) (earlier : List Item) (n : Node) (st : Stands after earlier n) (h : Past) (inputs : List Value) (values : Instant) (c : Choice) (now : Instant)
    (fit : InputsFit (types_of after) n.inputs inputs) (is : IsChoiceOf after n c) (x : IsNext after n h inputs now c (erased now)) (typed : SlotsFit (types_of after) (slots_of_node after n) (given_with (map marked inputs) values c)) (own : AreOwn after n now values) where
  abbrev places : List FreePlace
  places = free_places after n

  abbrev root : Instant
  root = given_with (map marked inputs) values c

  abbrev begun : Instant
  begun = zero_at (registers after n)

  abbrev here : Instant
  here = erased now

  -- the values at free places, and what is given elsewhere
  abbrev taken : Bool → Place → Value
  taken b q = if b then values q else x.free q

  abbrev pub mixed : Instant
  mixed (Inputs ∷ q) = x.free (Inputs ∷ q)
  mixed (Controls ∷ q) = x.free (Controls ∷ q)
  mixed q = taken (is_among places q && no_number (values q)) q

  abbrev pub given : Instant
  given = made program after ranks o earlier n st mixed

  -- it is of its types, so it stays
  abbrev IsRoot : Place → Type 0
  IsRoot q = root q ≡ mixed q

  typed-mixed : All (λ q. IsRoot q.0 → IsAbstractOf (types_of after) q.1 (mixed q.0)) places
  typed-mixed = early_fits (types_of after) IsRoot root mixed (λ p e. e) (slots_of_node after n) typed

  kept : (q : Place) → IsFree places q → root q ≡ mixed q → given q ≡ mixed q
  kept q f r = node_stays after n (λ f k z. (declared program after ranks o earlier n st f k z).0) IsRoot begun mixed typed-mixed q r f

  taken-free : (b : Bool) (q : Place) → (b ≡ true → values q ≡ x.free q) → taken b q ≡ x.free q
  taken-free true q k = k refl
  taken-free false q k = refl

  mixed-free : (q : Place) → (IsFree places q → root q ≡ values q → no_number (values q) ≡ true → values q ≡ x.free q) → mixed q ≡ x.free q
  mixed-free (Inputs ∷ q) k = refl
  mixed-free (Controls ∷ q) k = refl
  mixed-free q k = taken-free (is_among places q && no_number (values q)) q (λ e. let t = both-true (is_among places q) (no_number (values q)) e in k (among-free places q t.0) refl t.1)

  same-code : (q : Place) (t : Ty) → IsFree places q → IsOf (types_of after) t (root q) → code (types_of after) t (given_with (map marked inputs) given c q) ≡ code (types_of after) t (root q)
  same-code (Inputs ∷ q) t f i = refl
  same-code (Controls ∷ q) t f i = refl
  same-code q t f i = by (no_number (values q)) refl
    where
      by : (b : Bool) → no_number (values q) ≡ b → code (types_of after) t (given q) ≡ code (types_of after) t (values q)
      by true e =
          let l : mixed q ≡ values q = ap (λ b. taken (b && no_number (values q)) q) (free-among places q f) ∙ ap (λ b. taken b q) e in
          ap (code (types_of after) t) (kept q f (sym l) ∙ l)
      by false e = number-code (types_of after) t (values q) (given q) i e

  -- ---- where the instant looks

  met : (p : Place) → here p ≡ node (types_of after) abstraction (callees (types_of after) earlier) n (map marked inputs) (record { past = h; free = steered_by x.free (at_controls c) }) here p
  met p = x.meets p ∙ ap (λ i. i p) (as_node program after ranks o earlier n st inputs (record { past = h; free = steered_by x.free (at_controls c) }) here)

  pairs : (p : Place) → here (p ++ (First ∷ [])) ≡ Star → here (p ++ (Second ∷ [])) ≡ Star → (v : Value) → mend_node (callee_of after) n begun p v ≡ flag_of v
  pairs =
      node_pairs (types_of after) abstraction (callees (types_of after) earlier) (callee_of after)
      (λ f vs g now begin h. called_pairs (types_of after) earlier f (node_among (reverse after) f) (found program after ranks o earlier n st f) vs g now begin h) n (map marked inputs)
      (record { past = h; free = steered_by x.free (at_controls c) }) here begun met

  -- a value of a free output of a call that is there is what is given
  output-own : (p : Place) (y : List ℕ) → IsTrue (is_there (here (p ++ (Instance ∷ Fresh ∷ [])))) → here (p ++ (Instance ∷ Named y ∷ [])) ≡ marked (x.free (p ++ (Instance ∷ Named y ∷ [])))
      → IsFree places (p ++ (Instance ∷ Named y ∷ [])) → root (p ++ (Instance ∷ Named y ∷ [])) ≡ values (p ++ (Instance ∷ Named y ∷ [])) → no_number (values (p ++ (Instance ∷ Named y ∷ []))) ≡ true
      → values (p ++ (Instance ∷ Named y ∷ [])) ≡ x.free (p ++ (Instance ∷ Named y ∷ []))
  output-own p y there e f r m =
      let q = p ++ (Instance ∷ Named y ∷ []) in
      let t = typed-at (types_of after) (slots_of_node after n) root q typed f in
      let v = plain (types_of after) t.0 (values q) (subst (IsOf (types_of after) t.0) r t.1) m in
      by (is_forgotten q) refl v (own q f (seen_output here p y there))
    where
      by : (b : Bool) → is_forgotten (p ++ (Instance ∷ Named y ∷ [])) ≡ b → (marked (values (p ++ (Instance ∷ Named y ∷ []))) ≡ values (p ++ (Instance ∷ Named y ∷ []))) × (values (p ++ (Instance ∷ Named y ∷ [])) ≡ Star → ⊥)
          → values (p ++ (Instance ∷ Named y ∷ [])) ≡ now (p ++ (Instance ∷ Named y ∷ [])) → values (p ++ (Instance ∷ Named y ∷ [])) ≡ x.free (p ++ (Instance ∷ Named y ∷ []))
      by true g v w =
          let a = p ++ (Instance ∷ Fresh ∷ []) in
          let gone : here a ≡ Absent = ap (λ b. if b then Absent else marked (now a)) (sym (forgotten-same p y) ∙ g) in
          absurd (let no : false ≡ true = sym (ap is_there gone) ∙ there in cc)
      by false g v w =
          let q = p ++ (Instance ∷ Named y ∷ []) in
          let seen : here q ≡ marked (now q) = ap (λ b. if b then Absent else marked (now q)) g in
          sym (other_same (x.free q) (values q) (sym e ∙ seen ∙ ap marked (sym w) ∙ v.0) v.1)

  agree : AgreeAtFree here (steered_by x.free (at_controls c)) (steered_by given (at_controls c))
  agree = record { comparisons = by; outputs = at }
    where
      by : (p : Place) → here (p ++ (First ∷ [])) ≡ Star → here (p ++ (Second ∷ [])) ≡ Star → here p ≡ steered_by x.free (at_controls c) p → steered_by x.free (at_controls c) p ≡ steered_by given (at_controls c) p
      by (Controls ∷ p) f t e = refl
      by p f t e =
          let b = x.fits.comparisons p f t e in
          let now_is : now p ≡ B b.0 = kept-flag (is_forgotten p) (now p) b.0 (e ∙ b.1) in
          let same : mixed p ≡ x.free p = mixed-free p (λ i r m. own p i (seen_marks here p f t) ∙ now_is ∙ sym b.1) in
          sym (ap (λ v. mend_node (callee_of after) n begun p v) same ∙ pairs p f t (x.free p) ∙ ap flag_of b.1 ∙ sym b.1)

      at : (p : Place) (y : List ℕ) → IsTrue (is_there (here (p ++ (Instance ∷ Fresh ∷ [])))) → here (p ++ (Instance ∷ Named y ∷ [])) ≡ marked (steered_by x.free (at_controls c) (p ++ (Instance ∷ Named y ∷ [])))
          → marked (steered_by x.free (at_controls c) (p ++ (Instance ∷ Named y ∷ []))) ≡ marked (steered_by given (at_controls c) (p ++ (Instance ∷ Named y ∷ [])))
      at (Controls ∷ p) y t e = refl
      at p y t e =
          let q = p ++ (Instance ∷ Named y ∷ []) in
          let r = node_outputs after earlier (found program after ranks o earlier n st) n here x.free
          (all_each (λ k. IsTrue (is_there (instance_at k here (Fresh ∷ []))) → OutputsAre after earlier (found program after ranks o earlier n st) x.free k) (points n) x.fits.outputs) p y t in
          let same : mixed q ≡ x.free q = mixed-free q (output-own p y t e) in
          r ∙ ap (λ v. marked (mend_node (callee_of after) n begun q v)) (sym same)

  meets-given : (p : Place) → here p ≡ abstract_meaning after n.name (map marked inputs) (record { past = h; free = steered_by given (at_controls c) }) here p
  meets-given p =
      abstract_given after n.name inputs h (steered_by x.free (at_controls c)) (steered_by given (at_controls c)) here agree (λ q. refl) x.meets p
      ∙ ap (λ i. i p) (sym (marked_inputs after earlier n (found program after ranks o earlier n st) (declared program after ranks o earlier n st) (as_node program after ranks o earlier n st) abstract_given inputs (record { past = h; free = steered_by given (at_controls c) }) here))

  pub fitting-here : IsFitting after earlier n h (map marked inputs) given c here
  fitting-here =
      let wires = inputs_fit (types_of after) n.inputs inputs fit in
      let r = node_fits after earlier n (found program after ranks o earlier n st) (declared program after ranks o earlier n st) c is begun mixed in
      record { others = given; values = wires; given = r.0; fits = r.2 (map marked inputs) wires; fills = r.1; agrees = λ p e. refl; meets = meets-given }

  others-here : (fitting-here).others ≡ given
  unfolding fitting-here
  others-here = refl

  pub given-codes : (is_early : Place → Bool) → codes_at (types_of after) (early_among is_early (slots_of_node after n)) (given_with (map marked inputs) given c) ≡ codes_at (types_of after) (early_among is_early (slots_of_node after n)) root
  given-codes is_early = same-early (types_of after) is_early (given_with (map marked inputs) given c) root (slots_of_node after n) same-code typed

  pub early-codes : (is_early : Place → Bool)
      → codes_at (types_of after) (early_among is_early (slots_of_node after n)) (given_with (map marked inputs) (fitting-here).others c) ≡ codes_at (types_of after) (early_among is_early (slots_of_node after n)) root
  early-codes is_early =
      ap (λ g. codes_at (types_of after) (early_among is_early (slots_of_node after n)) (given_with (map marked inputs) g c)) others-here ∙ given-codes is_early

  pub late-codes : (is_early : Place → Bool)
      → codes_at (types_of after) (late_among is_early (slots_of_node after n)) (given_with (map marked inputs) (fitting-here).others c) ≡ codes_at (types_of after) (late_among is_early (slots_of_node after n)) root
  late-codes is_early =
      ap (λ g. codes_at (types_of after) (late_among is_early (slots_of_node after n)) (given_with (map marked inputs) g c)) others-here
      ∙ same-late (types_of after) is_early (given_with (map marked inputs) given c) root (slots_of_node after n) same-code typed

  -- early values are the instant's own wherever it looks
  mixed-now : (q : Place) → IsEarly after n q → IsTrue (is_seen here q) → mixed q ≡ now q
  mixed-now (Inputs ∷ q) e s = x.agrees (Inputs ∷ q) e
  mixed-now (Controls ∷ q) e s = x.agrees (Controls ∷ q) e
  mixed-now q e s = by (is_among places q && no_number (values q))
    where
      by : (b : Bool) → taken b q ≡ now q
      by true = own q e.is_free s
      by false = x.agrees q e

  pub given-now : (q : Place) → IsEarly after n q → IsTrue (is_seen here q) → given q ≡ now q
  given-now q e s =
      let m = mixed-now q e s in
      kept q e.is_free (early_given after n (map marked inputs) values c q e ∙ own q e.is_free s ∙ sym m) ∙ m
