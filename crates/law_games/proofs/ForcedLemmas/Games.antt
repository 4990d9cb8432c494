-- The game of a contract in a ready program is the game in which every given value is of its type.
use Rattle.std.proofs.Common.{◌≡◌, ◌↔◌, ◌⊎◌, inl, inr, ℕ, zero, suc, List, [], ◌∷◌, map, ap, ◌∙◌}
use Rattle.std.specs.Prelude.{true, IsFalse, reverse, Some}
use Rattle.hp_base.specs.declared.value.Value.{Value}
use Rattle.hp_tree.specs.declared.program.Item.{Item}
use Rattle.hp_tree.specs.declared.program.Item.TheVariants.{TypeItem, NodeItem}
use Rattle.hp_tree.specs.Programs.{Node}
use Rattle.hp_tree.specs.Operators.{abstraction, marked}
use Rattle.hp_tree.specs.Instant.{Place, Instant, Past, Given}
use Rattle.hp_tree.specs.Meaning.{types_of, node, node_among}
use Rattle.hp_meaning.specs.Causal.Abstract.{callees, abstract_among, abstract_meaning}
use Rattle.hp_meaning.proofs.CausalLemmas.AbstractOne.{abstract_one}
use Rattle.hp_meaning.proofs.CausalLemmas.LookedAt.{abstract_given, one_by_free}
use Rattle.hp_meaning.proofs.CausalLemmas.Ranking.{all_ranks_enough}
use Rattle.hp_meaning.specs.Contract.Duties.{duty}
use Rattle.hp_meaning.specs.Contract.FreePlaces.{InputsFit, IsEarly}
use Rattle.hp_meaning.specs.Causal.Steering.{steered_by}
use Rattle.hp_meaning.specs.Contract.Game.{Choice, IsChoiceOf, at_controls, IsNext, Forced, Safe, preferred}
use Rattle.hp_meaning.specs.Contract.Memory.{memory}
use Rattle.hp_meaning.specs.Contract.Slots.{slots_of_node, registers, zero_at}
use Rattle.law_values.specs.Filled.Firsts.{DeclsHaveFirsts, NodeHasFirsts}
use Rattle.law_values.proofs.FilledLemmas.Programs.{outputs_have}
use Rattle.law_values.proofs.FilledLemmas.Ready.{ready_firsts}
use Rattle.law_judged.specs.Named.Scoped.{EachNode}
use Rattle.law_games.proofs.WiretypedLemmas.Givens.{inputs_fit}
use Rattle.law_games.specs.Mirror.Mirrored.{given_with}
use Rattle.law_games.specs.Mirror.Memories.{AreApart, SlotsFit}
use Rattle.law_games.specs.Mirror.Histories.{Built, EarlyFits}
use Rattle.law_games.specs.Abstracted.Instances.{AbstractFits}
use Rattle.law_games.proofs.AbstractedLemmas.GivenKept.{given_with_nil}
use Rattle.law_games.specs.ReadyGames.Laws.{Stands, IsInOrder}
use Rattle.law_games.specs.ReadyGames.FittingHistories.{IsFitting, AllFitting, FittingForced, FittingSafe}
use Rattle.law_games.proofs.ReadyGamesLemmas.Settled.{class, apart, found, settled, shaped}
use Rattle.law_games.proofs.ReadyGamesLemmas.Histories.{among_is, twin, ready_fitting_game, ready_fitting_safe, ready_history}
use Rattle.law_games.specs.Forced.Laws.{NextLaw, HistoriesLaw, ForcedLaw, SafeLaw, ForcedAtFirstLaw, SafeAtFirstLaw, GameLaw, SafeGameLaw, InstantsLaw, PermittedLaw, GrantedLaw, LaterLaw}
use Rattle.law_games.proofs.ForcedLemmas.FittedNodes.{node_fits}
use Rattle.law_games.proofs.ForcedLemmas.Typed.{node_stays}
use Rattle.law_games.proofs.ForcedLemmas.Steps.{mended_by, marked_inputs, fitting_of, next_of}
use Rattle.law_games.proofs.ForcedLemmas.Values.{wires_fit}

abbrev onto : List Item → List Item → List Item
onto [] ys = ys
onto (x ∷ xs) ys = onto xs (x ∷ ys)

each_onto : (P : Node → Type 0) (xs ys : List Item) → EachNode P xs → EachNode P ys → EachNode P (onto xs ys)
each_onto P [] ys u v = v
each_onto P (TypeItem t ∷ xs) ys u v = each_onto P xs (TypeItem t ∷ ys) u v
each_onto P (NodeItem n ∷ xs) ys u v = each_onto P xs (NodeItem n ∷ ys) u.1 (u.0, v)

moved : {A B : Type 0} → (A → B) → (X : Type 0) → X ⊎ A → X ⊎ B
moved f X (inl x) = inl x
moved f X (inr a) = inr (f a)

module _ (program after : List Item) (ranks : List (List ℕ)) (o : IsInOrder program after ranks) (earlier : List Item) (n : Node) (st : Stands after earlier n) where
  declared : (f : List ℕ) (k : Node) → node_among (reverse after) f ≡ Some k → AreApart k.outputs × DeclsHaveFirsts (types_of after) k.outputs
  declared f k e = (
    (settled program after ranks o earlier n st).apart f k e,
    outputs_have (types_of after) (reverse after) (each_onto (NodeHasFirsts (types_of after)) after [] (ready_firsts program after o.ready o.constructors) tt) f k e,
  )

  as_node : (inputs : List Value) (g : Given) (now : Instant) → abstract_meaning after n.name inputs g now ≡ node (types_of after) abstraction (callees (types_of after) earlier) n (map marked inputs) g now
  as_node inputs g now = ap (λ items. abstract_among (types_of after) items n.name inputs g now) st.1 ∙ among_is (types_of after) st.0 earlier n (apart program after ranks o earlier n st) inputs g now

  -- what is given, mended
  abbrev mends : Instant → Instant
  mends i = mended_by after earlier n (found program after ranks o earlier n st) declared as_node abstract_given i

  fits_now : (h : Past) → AllFitting after earlier n h → (inputs : List Value) (early : Instant) (c : Choice) (now : Instant) → IsChoiceOf after n c → IsFitting after earlier n h inputs early c now
      → AbstractFits (types_of after) true (class program after ranks o earlier n st).0 earlier n now
  fits_now h a inputs early c now is x = (twin program after ranks o earlier n st (now ∷ h) (a, (inputs, early, c, is, x))).1.1.0.0

  -- ---- one instant

  onto_fitting : (h : Past) (inputs : List Value) (early : Instant) (c : Choice) (now : Instant) → InputsFit (types_of after) n.inputs inputs → IsChoiceOf after n c → IsNext after n h inputs early c now
      → IsFitting after earlier n h (map marked inputs) (mends early) c now
  onto_fitting h inputs early c now fit is x = fitting_of after earlier n (found program after ranks o earlier n st) declared as_node abstract_given h inputs early c now is x fit

  onto_next : (h : Past) → AllFitting after earlier n h → (inputs : List Value) (early : Instant) (c : Choice) (now : Instant) → IsChoiceOf after n c → IsFitting after earlier n h inputs early c now
      → IsNext after n h inputs (mends early) c now
  onto_next h a inputs early c now is x =
      next_of after earlier n (found program after ranks o earlier n st) declared as_node abstract_given (memory after n []) (shaped program after ranks o earlier n st) (class program after ranks o earlier n st).0
      (λ free fills given. given_with_nil (types_of after) earlier n (zero_at (registers after n)) (memory after n []) free (shaped program after ranks o earlier n st) fills given)
      (all_ranks_enough after ranks o.ordered) abstract_one one_by_free fits_now h a inputs early c now is x

  -- ---- what is forced

  to_fitting : (k : ℕ) (h : Past) → Forced after n k h → FittingForced after earlier n k h
  to_fitting zero h f = absurd f
  to_fitting (suc k) h f = (
    map marked f.0,
    mends f.1,
    λ c is.
        let s = f.3 c is in
        (s.0, onto_fitting h f.0 f.1 c s.0 f.2 is s.1, s.2, moved (to_fitting k (s.0 ∷ h)) (IsFalse (duty n s.0)) s.3),
  )

  from_fitting : (k : ℕ) (h : Past) → AllFitting after earlier n h → FittingForced after earlier n k h → Forced after n k h
  from_fitting zero h a f = absurd f
  from_fitting (suc k) h a f =
      let some = f.2 (preferred after n) (settled program after ranks o earlier n st).some_choice in (
        f.0,
        mends f.1,
        wires_fit (types_of after) n.inputs f.0 some.1.values,
        λ c is.
            let s = f.2 c is in
            (s.0, onto_next h a f.0 f.1 c s.0 is s.1, s.2, moved (from_fitting k (s.0 ∷ h) (a, (f.0, f.1, c, is, s.1))) (IsFalse (duty n s.0)) s.3),
      )

  all_fitting : (h : Past) → Built after n h → AllFitting after earlier n h
  all_fitting [] a = tt
  all_fitting (now ∷ h) a = (all_fitting h a.0, (map marked a.1.0, mends a.1.1, a.1.2, a.1.4, onto_fitting h a.1.0 a.1.1 a.1.2 now a.1.3 a.1.4 a.1.5))

  -- ---- where inputs and early values are of their types

  module _ (h : Past) (inputs : List Value) (early : Instant) (c : Choice) (a : AllFitting after earlier n h) (fit : InputsFit (types_of after) n.inputs inputs) (is : IsChoiceOf after n c) (typed : EarlyFits after n early) where
    -- early values stay
    early_kept : (p : Place) → IsEarly after n p → mends early p ≡ early p
    early_kept p e = node_stays after n (λ f k e. (declared f k e).0) (IsEarly after n) (zero_at (registers after n)) early typed p e e.is_free

    fitting_here : (now : Instant) → IsNext after n h inputs early c now → IsFitting after earlier n h (map marked inputs) early c now
    fitting_here now x =
        let y = onto_fitting h inputs early c now fit is x in
        record { others = y.others; values = y.values; given = y.given; fits = y.fits; fills = y.fills; agrees = λ p e. y.agrees p e ∙ early_kept p e; meets = y.meets }

    next_here : (now : Instant) → IsFitting after earlier n h (map marked inputs) early c now → IsNext after n h inputs early c now
    next_here now x =
        let y = onto_next h a (map marked inputs) early c now is x in
        record {
          free = y.free;
          fits = y.fits;
          agrees = λ p e. y.agrees p e ∙ early_kept p e;
          meets = λ p. y.meets p ∙ ap (λ i. i p) (marked_inputs after earlier n (found program after ranks o earlier n st) declared as_node abstract_given inputs (record { past = h; free = steered_by y.free (at_controls c) }) now);
        }

  safe_same : (h : Past) → AllFitting after earlier n h → Safe after n h ↔ FittingSafe after earlier n h
  safe_same h a = ((λ s k f. s k (from_fitting k h a f)), (λ s k f. s k (to_fitting k h f)))

  -- what is made of early values fits, with each choice
  mends_fit : (inputs : List Value) (early : Instant) → InputsFit (types_of after) n.inputs inputs → (c : Choice) → IsChoiceOf after n c → SlotsFit (types_of after) (slots_of_node after n) (given_with (map marked inputs) (mends early) c)
  mends_fit inputs early fit c is = (node_fits after earlier n (found program after ranks o earlier n st) declared c is (zero_at (registers after n)) early).2 (map marked inputs) (inputs_fit (types_of after) n.inputs inputs fit)

-- ---- the laws

pub next : NextLaw
next program after ranks o earlier n st inputs early fit = (
  map marked inputs,
  mends program after ranks o earlier n st early,
  (mends_fit program after ranks o earlier n st inputs early fit, λ h c now is x. onto_fitting program after ranks o earlier n st h inputs early c now fit is x),
)

pub histories : HistoriesLaw
histories program after ranks o earlier n st h a = all_fitting program after ranks o earlier n st h a

pub forced : ForcedLaw
forced program after ranks o earlier n st k h a = (to_fitting program after ranks o earlier n st k h, from_fitting program after ranks o earlier n st k h a)

pub safe : SafeLaw
safe program after ranks o earlier n st h a = safe_same program after ranks o earlier n st h a

pub forced_at_first : ForcedAtFirstLaw
forced_at_first program after ranks o earlier n st k = forced program after ranks o earlier n st k [] tt

pub safe_at_first : SafeAtFirstLaw
safe_at_first program after ranks o earlier n st = safe program after ranks o earlier n st [] tt

-- ---- choices

pub instants : InstantsLaw
instants program after ranks o earlier n st h inputs early c a fit is typed now =
    (fitting_here program after ranks o earlier n st h inputs early c a fit is typed now, next_here program after ranks o earlier n st h inputs early c a fit is typed now)

pub may_choose : PermittedLaw
may_choose program after ranks o earlier n st h inputs early c a fit is typed = (
  λ P now x hyp.
      let r = P now (next_here program after ranks o earlier n st h inputs early c a fit is typed now x) hyp in
      (r.0, (safe_same program after ranks o earlier n st (now ∷ h) (a, (map marked inputs, early, c, is, x))).0 r.1),
  λ P now y hyp.
      let x = fitting_here program after ranks o earlier n st h inputs early c a fit is typed now y in
      let r = P now x hyp in
      (r.0, (safe_same program after ranks o earlier n st (now ∷ h) (a, (map marked inputs, early, c, is, x))).1 r.1),
)

pub granted : GrantedLaw
granted program after ranks o earlier n st inputs early fit = (
  map marked inputs,
  mends program after ranks o earlier n st early,
  (
    mends_fit program after ranks o earlier n st inputs early fit,
    λ h c a is P now y hyp.
        let x = onto_fitting program after ranks o earlier n st h inputs early c now fit is y in
        let r = P now x hyp in
        (r.0, (safe_same program after ranks o earlier n st (now ∷ h) (a, (map marked inputs, mends program after ranks o earlier n st early, c, is, x))).1 r.1),
  ),
)

-- ---- on machines

pub contract_game : GameLaw
contract_game program after ranks o earlier n st m M k =
    let a = forced program after ranks o earlier n st k [] tt in
    let b = ready_fitting_game program after ranks o earlier n m st M k in
    ((λ f. b.0 (a.0 f)), (λ f. a.1 (b.1 f)))

pub contract_safe : SafeGameLaw
contract_safe program after ranks o earlier n st m M =
    let a = safe program after ranks o earlier n st [] tt in
    let b = ready_fitting_safe program after ranks o earlier n m st M in
    ((λ s. b.0 (a.0 s)), (λ s. a.1 (b.1 s)))

pub later : LaterLaw
later program after ranks o earlier n st m M h a =
    let all = all_fitting program after ranks o earlier n st h a in
    let x = ready_history program after ranks o earlier n m st M h all in (
      x.0,
      (
        x.1.0,
        (
          x.1.1.0,
          λ k. let e = forced program after ranks o earlier n st k h all in ((λ f. (x.1.1.1 k).0 (e.0 f)), (λ f. e.1 ((x.1.1.1 k).1 f))),
        ),
      ),
    )
