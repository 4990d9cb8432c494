-- Early values that are of their types wherever an instant looks at them permit what they do when they are made ones of their types everywhere.
use Rattle.std.proofs.Common.{◌≡◌, ◌↔◌, ◌⊎◌, inl, inr, ℕ, List, [], ◌∷◌, ◌++◌, map, refl, sym, ap, subst, ◌∙◌}
use Rattle.std.proofs.lemmas.List.Elements.{All-nil, All-cons}
use Rattle.std.specs.Prelude.{Bool, true, false, ◌&&◌, ◌||◌, IsTrue, if◌then◌else◌, reverse, All, Option, None, Some}
use Rattle.hp_base.specs.declared.ty.Ty.{Ty}
use Rattle.hp_base.specs.declared.ty.Ty.TheVariants as ty
use Rattle.hp_base.specs.declared.value.Value.{Value}
use Rattle.hp_base.specs.declared.value.Value.TheVariants.{Star, B, E, I}
use Rattle.hp_tree.specs.declared.program.Item.{Item}
use Rattle.hp_tree.specs.declared.program.Item.TheVariants.{TypeItem, NodeItem}
use Rattle.hp_tree.specs.Blocks.{Decl}
use Rattle.hp_tree.specs.Programs.{TypeDecl, Contract, Node}
use Rattle.hp_tree.specs.Operators.{abstraction, marked, is_there}
use Rattle.hp_tree.specs.Instant.{Step, Inputs, Controls, Body, Named, Fresh, First, Second, Instance, Place, Instant, Past, Given, Clock, part}
use Rattle.hp_tree.specs.Meaning.{types_of, node, node_among}
use Rattle.hp_tree.specs.Values.{IsOf}
use Rattle.hp_meaning.specs.Causal.Abstract.{callees, abstract_among, abstract_meaning}
use Rattle.hp_meaning.specs.Causal.Agreement.{AgreeAtFree}
use Rattle.hp_meaning.specs.Causal.Points.{Placed}
use Rattle.hp_meaning.specs.Causal.Steering.{steered_by}
use Rattle.hp_meaning.proofs.CausalLemmas.LookedAt.{abstract_given}
use Rattle.hp_meaning.specs.Contract.FreePlaces.{FreeClocks, by_step, free_in_contract, free_in_block, IsAbstractOf, InputsFit, IsEarly, OutputFits, calls_of, declared_outputs, instance_at}
use Rattle.hp_meaning.specs.Contract.Game.{Choice, IsChoiceOf, at_controls, IsNext, Permitted, IsChosen, preferred}
use Rattle.hp_meaning.specs.Contract.Slots.{Slot, register, free, input, control, free_among, free_places, slots_of_node, registers, zero_at}
use Rattle.law_values.specs.Filled.Firsts.{DeclsHaveFirsts, NodeHasFirsts}
use Rattle.law_values.proofs.FilledLemmas.Programs.{outputs_have}
use Rattle.law_values.proofs.FilledLemmas.Ready.{ready_firsts}
use Rattle.law_judged.specs.Named.Scoped.{EachNode}
use Rattle.law_games.proofs.WiretypedLemmas.Givens.{inputs_fit}
use Rattle.law_games.specs.Mirror.Mirrored.{given_with}
use Rattle.law_games.specs.Mirror.Memories.{AreApart, SlotsFit}
use Rattle.law_games.specs.Mirror.Histories.{EarlyFits}
use Rattle.law_games.specs.ReadyGames.Laws.{Stands, IsInOrder}
use Rattle.law_games.specs.ReadyGames.FittingHistories.{AllFitting}
use Rattle.law_games.proofs.ReadyGamesLemmas.Settled.{apart, found, settled}
use Rattle.law_games.proofs.ReadyGamesLemmas.Histories.{among_is}
use Rattle.law_games.proofs.ForcedLemmas.FittedNodes.{mended_for}
use Rattle.law_games.proofs.ForcedLemmas.Games.{instants}
use Rattle.law_games.proofs.ForcedLemmas.Steps.{fitting_of}
use Rattle.law_games.proofs.ForcedLemmas.Typed.{node_stays}
use Rattle.law_choices.proofs.ChosenLemmas.SlotsMade.{slots_made}
use Rattle.law_choices.specs.Chosen.Laws.{is_mark, is_output, is_seen, FitsWhereSeen, SeenChoicesLaw}

-- ---- what an instant looks at

or_right : (a b : Bool) → b ≡ true → (a || b) ≡ true
or_right true b e = refl
or_right false b e = e

pub seen_marks : (now : Instant) (p : Place) → now (p ++ (First ∷ [])) ≡ Star → now (p ++ (Second ∷ [])) ≡ Star → is_seen now p ≡ true
seen_marks now p f t = ap (λ z. (is_mark z && is_mark (now (p ++ (Second ∷ [])))) || is_output now p) f ∙ ap (λ z. (is_mark Star && is_mark z) || is_output now p) t

output_there : (p : Place) (now : Instant) (x : List ℕ) → is_output now (p ++ (Instance ∷ Named x ∷ [])) ≡ is_there (now (p ++ (Instance ∷ Fresh ∷ [])))
output_there [] now x = refl
output_there (Instance ∷ []) now x = refl
output_there (Instance ∷ Named y ∷ []) now x = refl
output_there (Instance ∷ Named y ∷ t ∷ p) now x = output_there (Named y ∷ t ∷ p) (part Instance now) x
output_there (s ∷ p) now x = output_there p (part s now) x

pub seen_output : (now : Instant) (p : Place) (x : List ℕ) → IsTrue (is_there (now (p ++ (Instance ∷ Fresh ∷ [])))) → is_seen now (p ++ (Instance ∷ Named x ∷ [])) ≡ true
seen_output now p x t =
    let q = p ++ (Instance ∷ Named x ∷ []) in or_right (is_mark (now (q ++ (First ∷ []))) && is_mark (now (q ++ (Second ∷ [])))) (is_output now q) (output_there p now x ∙ t)

pub each_of : {A : Type 0} (P Q : A → Type 0) (xs : List A) → ((x : A) → P x → Q x) → All P xs → All Q xs
each_of P Q xs f h i d b = f _ (h i d b)

-- ---- early places

abbrev onto : List Item → List Item → List Item
onto [] ys = ys
onto (x ∷ xs) ys = onto xs (x ∷ ys)

each_onto : (P : Node → Type 0) (xs ys : List Item) → EachNode P xs → EachNode P ys → EachNode P (onto xs ys)
each_onto P [] ys u v = v
each_onto P (TypeItem t ∷ xs) ys u v = each_onto P xs (TypeItem t ∷ ys) u v
each_onto P (NodeItem n ∷ xs) ys u v = each_onto P xs (NodeItem n ∷ ys) u.1 (u.0, v)

abbrev base : Clock
base = []

none_base : {X : Type 0} → None ≡ Some base → X
none_base e = absurd (cc)

-- An early place is none of inputs and controllable variables.
not_base : {X : Type 0} (k : FreeClocks) (s : Step) (p : Place) (o : Option Contract) → by_step ((Body, k) ∷ free_in_contract o) (s ∷ p) ≡ Some [] → (s ≡ Inputs) ⊎ (s ≡ Controls) → X
not_base k s p None e (inl q) = none_base (subst (λ z. by_step ((Body, k) ∷ []) (z ∷ p) ≡ Some []) q e)
not_base k s p None e (inr q) = none_base (subst (λ z. by_step ((Body, k) ∷ []) (z ∷ p) ≡ Some []) q e)
not_base k s p (Some c) e (inl q) = none_base (subst (λ z. by_step ((Body, k) ∷ free_in_contract (Some c)) (z ∷ p) ≡ Some []) q e)
not_base k s p (Some c) e (inr q) = none_base (subst (λ z. by_step ((Body, k) ∷ free_in_contract (Some c)) (z ∷ p) ≡ Some []) q e)

pub early_given : (program : List Item) (n : Node) (inputs : List Value) (early : Instant) (c : Choice) (p : Place) → IsEarly program n p → given_with inputs early c p ≡ early p
early_given program n inputs early c (Inputs ∷ p) e = not_base (free_in_block n.body) Inputs p n.contract e.on_base (inl refl)
early_given program n inputs early c (Controls ∷ p) e = not_base (free_in_block n.body) Controls p n.contract e.on_base (inr refl)
early_given program n inputs early c p e = refl

of_is : (types : List TypeDecl) (t : Ty) (v : Value) → IsOf types t v → IsAbstractOf types t v
of_is types ty.Bool (B b) h = (b, refl)
of_is types ty.Int (I n) h = refl
of_is types (ty.Enum t) (E u k) h = h
of_is types t v h = absurd h

module _ (types : List TypeDecl) (P : Place → Type 0) (root early : Instant) (same : (p : Place) → P p → root p ≡ early p) where
  one_fits : (p : Place) (t : Ty) → IsOf types t (root p) → P p → IsAbstractOf types t (early p)
  one_fits p t h e = subst (IsAbstractOf types t) (same p e) (of_is types t (root p) h)

  pub early_fits : (ss : List Slot) → SlotsFit types ss root → All (λ q. P q.0 → IsAbstractOf types q.1 (early q.0)) (free_among ss)
  early_fits [] h = All-nil (λ q. P q.0 → IsAbstractOf types q.1 (early q.0))
  early_fits (register p s ∷ ss) h = early_fits ss h
  early_fits (control p t ∷ ss) h = early_fits ss h
  early_fits (input p t ∷ ss) h = All-cons (λ q. P q.0 → IsAbstractOf types q.1 (early q.0)) (p, t) (free_among ss) (one_fits p t h.0) (early_fits ss h.1)
  early_fits (free p t ∷ ss) h = All-cons (λ q. P q.0 → IsAbstractOf types q.1 (early q.0)) (p, t) (free_among ss) (one_fits p t h.0) (early_fits ss h.1)

-- ---- a node

module _ (program after : List Item) (ranks : List (List ℕ)) (o : IsInOrder program after ranks) (earlier : List Item) (n : Node) (st : Stands after earlier n) where
  pub declared : (f : List ℕ) (k : Node) → node_among (reverse after) f ≡ Some k → AreApart k.outputs × DeclsHaveFirsts (types_of after) k.outputs
  declared f k e = (
    (settled program after ranks o earlier n st).apart f k e,
    outputs_have (types_of after) (reverse after) (each_onto (NodeHasFirsts (types_of after)) after [] (ready_firsts program after o.ready o.constructors) tt) f k e,
  )

  pub as_node : (inputs : List Value) (g : Given) (now : Instant) → abstract_meaning after n.name inputs g now ≡ node (types_of after) abstraction (callees (types_of after) earlier) n (map marked inputs) g now
  as_node inputs g now = ap (λ items. abstract_among (types_of after) items n.name inputs g now) st.1 ∙ among_is (types_of after) st.0 earlier n (apart program after ranks o earlier n st) inputs g now

  -- what is given, made of its types
  abbrev pub made : Instant → Instant
  made early = mended_for after n (zero_at (registers after n)) early

  pub slots_fit : (inputs : List Value) (early : Instant) → InputsFit (types_of after) n.inputs inputs → (c : Choice) → SlotsFit (types_of after) (slots_of_node after n) (given_with (map marked inputs) (made early) c)
  slots_fit inputs early fit c = slots_made after earlier n (found program after ranks o earlier n st) declared (zero_at (registers after n)) early (map marked inputs) (inputs_fit (types_of after) n.inputs inputs fit) c

  pub made_fits : (inputs : List Value) (early : Instant) → InputsFit (types_of after) n.inputs inputs → EarlyFits after n (made early)
  made_fits inputs early fit =
      let c = preferred after n in
      early_fits (types_of after) (IsEarly after n) (given_with (map marked inputs) (made early) c) (made early) (early_given after n (map marked inputs) (made early) c) (slots_of_node after n)
      (slots_fit inputs early fit c)

  -- what is of its type stays
  pub stays : (P : Place → Type 0) (early : Instant) → All (λ q. P q.0 → IsAbstractOf (types_of after) q.1 (early q.0)) (free_places after n) → (p : Place) → P p → IsEarly after n p → made early p ≡ early p
  stays P early h p w e = node_stays after n (λ f k z. (declared f k z).0) P (zero_at (registers after n)) early h p w e.is_free

  module _ (h : Past) (inputs : List Value) (early : Instant) (a : AllFitting after earlier n h) (fit : InputsFit (types_of after) n.inputs inputs) (c : Choice) (is : IsChoiceOf after n c) where
    -- an instant that comes with the early values comes with what is made of them
    pub to_made : (now : Instant) → IsNext after n h inputs early c now → IsNext after n h inputs (made early) c now
    to_made now x =
        (instants program after ranks o earlier n st h inputs (made early) c a fit is (made_fits inputs early fit) now).1
        (fitting_of after earlier n (found program after ranks o earlier n st) declared as_node abstract_given h inputs early c now is x fit)

    module _ (seen : FitsWhereSeen after n h inputs (made early) early) (now : Instant) (y : IsNext after n h inputs (made early) c now) where
      kept : (p : Place) → IsEarly after n p → IsTrue (is_seen now p) → made early p ≡ early p
      kept p e s = stays (λ q. IsEarly after n q × IsTrue (is_seen now q)) early (seen c now is y) p (e, s) e

      -- what is given where the instant looks, and the early values elsewhere
      abbrev beside : Instant
      beside p = if is_seen now p then y.free p else early p

      same_seen : (p : Place) → is_seen now p ≡ true → y.free p ≡ beside p
      same_seen p s = sym (ap (λ b. if b then y.free p else early p) s)

      agree : AgreeAtFree now (steered_by y.free (at_controls c)) (steered_by beside (at_controls c))
      agree = record { comparisons = by; outputs = at }
        where
          by : (p : Place) → now (p ++ (First ∷ [])) ≡ Star → now (p ++ (Second ∷ [])) ≡ Star → now p ≡ steered_by y.free (at_controls c) p → steered_by y.free (at_controls c) p ≡ steered_by beside (at_controls c) p
          by (Controls ∷ p) f t e = refl
          by p f t e = same_seen p (seen_marks now p f t)

          at : (p : Place) (x : List ℕ) → IsTrue (is_there (now (p ++ (Instance ∷ Fresh ∷ [])))) → now (p ++ (Instance ∷ Named x ∷ [])) ≡ marked (steered_by y.free (at_controls c) (p ++ (Instance ∷ Named x ∷ [])))
              → marked (steered_by y.free (at_controls c) (p ++ (Instance ∷ Named x ∷ []))) ≡ marked (steered_by beside (at_controls c) (p ++ (Instance ∷ Named x ∷ [])))
          at (Controls ∷ p) x t e = refl
          at p x t e = ap marked (same_seen (p ++ (Instance ∷ Named x ∷ [])) (seen_output now p x t))

      early_beside : (p : Place) → IsEarly after n p → beside p ≡ early p
      early_beside p e = by (is_seen now p) (kept p e)
        where
          by : (b : Bool) → (IsTrue b → made early p ≡ early p) → (if b then y.free p else early p) ≡ early p
          by true k = y.agrees p e ∙ k refl
          by false k = refl

      abbrev CallFits : Instant → Placed → Type 0
      CallFits given k = IsTrue (is_there (instance_at k now (Fresh ∷ []))) → All (OutputFits (types_of after) k given) (declared_outputs (node_among (reverse after) k.point.name))

      output_fits : (k : Placed) (d : Decl) → IsTrue (is_there (instance_at k now (Fresh ∷ []))) → OutputFits (types_of after) k y.free d → OutputFits (types_of after) k beside d
      output_fits k d t g = subst (IsAbstractOf (types_of after) d.ty) (same_seen (k.place ++ (Instance ∷ Named d.name ∷ [])) (seen_output now k.place d.name t)) g

      to_early : IsNext after n h inputs early c now
      to_early =
          record {
            free = beside;
            fits = record {
              comparisons = λ p f t e.
                  let s = same_seen p (seen_marks now p f t) in
                  let r = y.fits.comparisons p f t (e ∙ sym s) in
                  (r.0, sym s ∙ r.1);
              outputs = each_of (CallFits y.free) (CallFits beside) (calls_of n) (λ k f t. each_of (OutputFits (types_of after) k y.free) (OutputFits (types_of after) k beside) (declared_outputs (node_among (reverse after) k.point.name)) (λ d g. output_fits k d t g) (f t)) y.fits.outputs;
            };
            agrees = early_beside;
            meets = abstract_given after n.name inputs h (steered_by y.free (at_controls c)) (steered_by beside (at_controls c)) now agree (λ q. refl) y.meets;
          }

    pub same_permitted : FitsWhereSeen after n h inputs (made early) early → Permitted after n h inputs early c ↔ Permitted after n h inputs (made early) c
    same_permitted seen = ((λ P now y hyp. P now (to_early seen now y) hyp), (λ P now x hyp. P now (to_made now x) hyp))

  -- so the same is chosen
  pub same_chosen : (h : Past) (inputs : List Value) (early others : Instant) (c : Choice) → IsChoiceOf after n c → ((d : Choice) → IsChoiceOf after n d → Permitted after n h inputs early d ↔ Permitted after n h inputs others d) → IsChosen after n h inputs early c ↔ IsChosen after n h inputs others c
  same_chosen h inputs early others c is both = (
    λ x.
        record {
          fits = is;
          greatest = λ d isd P. let r = x.greatest d isd ((both d isd).1 P) in ((both c is).0 r.0, r.1);
          else_preferred = λ no. x.else_preferred (λ d isd P. no d isd ((both d isd).0 P));
        },
    λ x.
        record {
          fits = is;
          greatest = λ d isd P. let r = x.greatest d isd ((both d isd).0 P) in ((both c is).1 r.0, r.1);
          else_preferred = λ no. x.else_preferred (λ d isd P. no d isd ((both d isd).1 P));
        },
  )

-- ---- the laws

pub seen_choices : SeenChoicesLaw
seen_choices program after ranks o earlier n st inputs early fit = (
  made program after ranks o earlier n st early,
  (
    slots_fit program after ranks o earlier n st inputs early fit,
    (
      λ chosen typed p e w. stays program after ranks o earlier n st (λ q. IsEarly after n q × IsTrue (chosen q)) early typed p (e, w) e,
      λ h a seen c is.
          let both = λ (d : Choice) (isd : IsChoiceOf after n d). same_permitted program after ranks o earlier n st h inputs early a fit d isd seen in
          (both c is, same_chosen program after ranks o earlier n st h inputs early (made program after ranks o earlier n st early) c is both),
    ),
  ),
)
