-- What may be chosen after a history in which each given value is of its type is what may be chosen at the memory that the history without Nil leaves.
use Rattle.std.proofs.Common.{◌≡◌, ◌↔◌, ℕ, List, [], ◌∷◌, map, refl, sym, ap, subst, ◌∙◌}
use Rattle.std.proofs.Math.Path.{fun_ext}
use Rattle.std.specs.Prelude.{true, IsTrue}
use Rattle.hp_base.specs.declared.value.Value.{Value}
use Rattle.hp_tree.specs.declared.program.Item.{Item}
use Rattle.hp_tree.specs.Programs.{Node}
use Rattle.hp_tree.specs.Operators.{abstraction, marked}
use Rattle.hp_tree.specs.Instant.{Place, Instant, Past, Given}
use Rattle.hp_tree.specs.Meaning.{types_of, node}
use Rattle.hp_tree.specs.Reaction.{Each}
use Rattle.hp_meaning.specs.Causal.Abstract.{callees, abstract_among, abstract_meaning}
use Rattle.hp_meaning.specs.Causal.OneReaction.{OneInstant}
use Rattle.hp_meaning.specs.Causal.Steering.{steered_by}
use Rattle.hp_meaning.proofs.CausalLemmas.AbstractOne.{abstract_one}
use Rattle.hp_meaning.proofs.CausalLemmas.Ranking.{all_ranks_enough}
use Rattle.hp_boolx.specs.Machine.{Machine}
use Rattle.hp_meaning.specs.Contract.Duties.{hypothesis, duty}
use Rattle.hp_meaning.specs.Contract.Game.{Choice, IsChoiceOf, at_controls, Safe, Permitted, IsChosen}
use Rattle.hp_meaning.specs.Contract.Memory.{memory}
use Rattle.hp_meaning.specs.Contract.Slots.{registers, zero_at}
use Rattle.law_games.specs.Wires.WiredNodes.{remembers_in, FillsNode}
use Rattle.law_games.specs.Wires.WiredCallees.{callee_wires}
use Rattle.law_games.specs.Wires.Laws.{instant_of}
use Rattle.law_games.proofs.WiresLemmas.Instants.{next_instant, next_registers}
use Rattle.law_games.specs.Wiretyped.Typed.{AreWires}
use Rattle.law_games.specs.Wiretyped.Laws.{InShape, GivenFits}
use Rattle.law_games.proofs.WiretypedLemmas.Programs.{wiring as is_wiring}
use Rattle.law_games.proofs.WiretypedLemmas.SameMemory.{memory_same}
use Rattle.law_games.specs.Mirror.Mirrored.{read_with, Mirrors}
use Rattle.law_games.specs.Mirror.Memories.{IsInstant, leaves, ForcedFrom, SafeFrom}
use Rattle.law_games.specs.Mirror.Choices.{PermittedFrom, IsChosenFrom}
use Rattle.law_games.specs.Mirror.FilledHistories.{filled_instant, IsFilled, AllFilled, FilledForced, FilledSafe}
use Rattle.law_games.proofs.MirrorLemmas.FilledOne.{filled_one}
use Rattle.law_games.proofs.MirrorLemmas.SameMemories.{is_read, wiring, same_memory_game}
use Rattle.law_games.proofs.MirrorLemmas.SameFilled.{same_filled_game}
use Rattle.law_games.specs.Abstracted.Instances.{AbstractFits}
use Rattle.law_games.proofs.AbstractedLemmas.Marked.{PastsAgree}
use Rattle.law_games.proofs.AbstractedLemmas.Instants.{abstract_fits}
use Rattle.law_games.proofs.AbstractedLemmas.Agreement.{own_marks, abstract_agrees}
use Rattle.law_games.proofs.AbstractedLemmas.Histories.{all_under}
use Rattle.law_games.proofs.AbstractedLemmas.Unmarked.{same_hypothesis, same_duty}
use Rattle.law_games.proofs.AbstractedLemmas.GivenKept.{given_with_nil, given_filled}
use Rattle.law_games.specs.ReadyGames.Laws.{Stands, IsInOrder}
use Rattle.law_games.proofs.ReadyGamesLemmas.Settled.{class, apart, firsts, called, ranked, settled, shaped}
use Rattle.law_games.proofs.ReadyGamesLemmas.Histories.{Twins as HistoryTwins, among_is, marked_wires, onto, back, twin}
use Rattle.law_games.specs.ReadyGames.FittingHistories.{AllFitting}
use Rattle.law_games.specs.Forced.Laws.{FittingPermitted, ChoicesLaw}
use Rattle.law_games.specs.Forced.Twins.{ChoosesAsMemory}
use Rattle.law_games.proofs.ForcedLemmas.Games.{forced, may_choose}

-- The same of histories without Nil.
abbrev FilledPermitted : List Item → List Item → Node → Past → List Value → Instant → Choice → Type 0
FilledPermitted program earlier n history inputs early c =
    (now : Instant) → IsFilled program earlier n history inputs early c now → IsTrue (hypothesis n now) → IsTrue (duty n now) × FilledSafe program earlier n (now ∷ history)

module _ (program after : List Item) (ranks : List (List ℕ)) (o : IsInOrder program after ranks) (earlier : List Item) (n : Node) (st : Stands after earlier n) where
  abbrev start : Instant
  start = zero_at (registers after n)

  -- ---- a history and the one without Nil

  as_node : (inputs : List Value) (g : Given) (now : Instant) → abstract_meaning after n.name inputs g now ≡ node (types_of after) abstraction (callees (types_of after) earlier) n (map marked inputs) g now
  as_node inputs g now = ap (λ items. abstract_among (types_of after) items n.name inputs g now) st.1 ∙ among_is (types_of after) st.0 earlier n (apart program after ranks o earlier n st) inputs g now

  abbrev Twins : Past → Past → Type 0
  Twins h h' = Each (AbstractFits (types_of after) true (class program after ranks o earlier n st).0 earlier n) h × PastsAgree (types_of after) (own_marks (types_of after) (class program after ranks o earlier n st).0 earlier n) h h'

  -- one instant more
  longer : (h h' : Past) (inputs : List Value) (others : Instant) (c : Choice) (now now' : Instant) → Twins h h' → AreWires (types_of after) n.inputs inputs → GivenFits (types_of after) earlier n (steered_by others (at_controls c))
      → FillsNode (types_of after) (callee_wires (types_of after) earlier) n start (steered_by others (at_controls c))
      → ((p : Place) → now p ≡ abstract_meaning after n.name inputs (record { past = h; free = steered_by others (at_controls c) }) now p)
      → ((p : Place) → now' p ≡ filled_instant after earlier n inputs h' (steered_by others (at_controls c)) now' p)
      → Twins (now ∷ h) (now' ∷ h')
  longer h h' inputs others c now now' t values given fills m m' =
      let cl = class program after ranks o earlier n st in
      let r = ranked program after ranks o earlier n st in
      let free = steered_by others (at_controls c) in
      let sh : InShape (types_of after) earlier n start (memory after n []) = shaped program after ranks o earlier n st in
      let g : Given = record { past = h; free = steered_by others (at_controls c) } in
      let g' : Given = record { past = h'; free = steered_by others (at_controls c) } in
      let met : (p : Place) → now p ≡ node (types_of after) abstraction (callees (types_of after) earlier) n inputs g now p =
      λ p. m p ∙ ap (λ i. i p) (as_node inputs g now ∙ ap (λ vs. node (types_of after) abstraction (callees (types_of after) earlier) n vs g now) (marked_wires (types_of after) n.inputs inputs values)) in
      let fit =
      abstract_fits (types_of after) cl.0 earlier n cl.1 (called program after ranks o earlier n st) r.0 r.1 inputs g now values (given_with_nil (types_of after) earlier n start (memory after n []) free sh fills given) t.0 met in (
        (fit, t.0),
        (
          abstract_agrees (types_of after) cl.0 earlier n r.0 r.1 cl.1 (firsts program after ranks o earlier n st) (called program after ranks o earlier n st) inputs g g' now now' fit t.0 t.1
              (given_filled (types_of after) earlier n start (memory after n []) free sh fills given) (λ p. refl) met m',
          t.1,
        ),
      )

  same_hyp : (h h' : Past) (now now' : Instant) → Twins (now ∷ h) (now' ∷ h') → hypothesis n now' ≡ hypothesis n now
  same_hyp h h' now now' t = let cl = class program after ranks o earlier n st in same_hypothesis (types_of after) cl.0 earlier n cl.1 now now' t.1.0

  same_owed : (h h' : Past) (now now' : Instant) → Twins (now ∷ h) (now' ∷ h') → duty n now' ≡ duty n now
  same_owed h h' now now' t = let cl = class program after ranks o earlier n st in same_duty (types_of after) cl.0 earlier n cl.1 now now' t.1.0

  to_filled : (h h' : Past) (inputs : List Value) (early : Instant) (c : Choice) → Twins h h' → FittingPermitted after earlier n h inputs early c → FilledPermitted after earlier n h' inputs early c
  to_filled h h' inputs early c t P now' y hyp =
      let u : OneInstant (abstract_meaning after n.name inputs (record { past = h; free = steered_by y.others (at_controls c) })) = abstract_one after n.name inputs (record { past = h; free = steered_by y.others (at_controls c) }) (all_ranks_enough after ranks o.ordered) in
      let more = longer h h' inputs y.others c u.now now' t y.values y.given y.fills u.meets y.meets in
      let r = P u.now (record { others = y.others; values = y.values; given = y.given; fits = y.fits; fills = y.fills; agrees = y.agrees; meets = u.meets }) (subst IsTrue (same_hyp h h' u.now now' more) hyp) in
      (subst IsTrue (sym (same_owed h h' u.now now' more)) r.0, λ k f. r.1 k (back program after ranks o earlier n st k (u.now ∷ h) (now' ∷ h') more f))

  from_filled : (h h' : Past) (inputs : List Value) (early : Instant) (c : Choice) → Twins h h' → FilledPermitted after earlier n h' inputs early c → FittingPermitted after earlier n h inputs early c
  from_filled h h' inputs early c t P now x hyp =
      let r = ranked program after ranks o earlier n st in
      let u : OneInstant (filled_instant after earlier n inputs h' (steered_by x.others (at_controls c))) = filled_one (types_of after) earlier r.1 n r.0 inputs (record { past = h'; free = steered_by x.others (at_controls c) }) in
      let more = longer h h' inputs x.others c now u.now t x.values x.given x.fills x.meets u.meets in
      let q = P u.now (record { others = x.others; values = x.values; given = x.given; fits = x.fits; fills = x.fills; agrees = x.agrees; meets = u.meets }) (subst IsTrue (sym (same_hyp h h' now u.now more)) hyp) in
      (subst IsTrue (same_owed h h' now u.now more) q.0, λ k f. q.1 k (onto program after ranks o earlier n st k (now ∷ h) (u.now ∷ h') more f))

  -- ---- a history without Nil and the memory that it leaves

  module _ (m : Machine) (M : Mirrors after earlier n m) where
    abbrev left : Past → Instant
    left h = remembers_in (types_of after) (callee_wires (types_of after) earlier) n start h

    abbrev Shaped : Instant → Type 0
    Shaped mem = InShape (types_of after) earlier n start mem

    abbrev shown : Past → List Value → Instant → Choice → Instant → Instant
    shown h inputs others c W = instant_of (types_of after) earlier n inputs (read_with after n (left h) others c) W

    -- What is shown of wires is an instant after the history, and the memory behind them is what the longer history leaves.
    record Goes (h : Past) (inputs : List Value) (others : Instant) (c : Choice) (W : Instant) : Type 0 where
      meets : shown h inputs others c W ≡ filled_instant after earlier n inputs h (steered_by others (at_controls c)) (shown h inputs others c W)
      leaves_it : left (shown h inputs others c W ∷ h) ≡ leaves after earlier n (left h) inputs c others W
      keeps_shape : Shaped (left (shown h inputs others c W ∷ h))

    goes : (h : Past) (inputs : List Value) (early : Instant) (others : Instant) (c : Choice) (W : Instant) → IsInstant after earlier n (left h) inputs early c others W → Goes h inputs others c W
    goes h inputs early others c W I =
        let cl = class program after ranks o earlier n st in
        let w = is_wiring (types_of after) cl.0 earlier n inputs start (steered_by others (at_controls c)) h W (is_read after cl.0 earlier n m (settled program after ranks o earlier n st) M (left h) inputs others c W I.wires) I.wires.typed I.fills I.wires.solves in
        record {
          meets = next_instant (types_of after) earlier n inputs start (steered_by others (at_controls c)) h W w.0;
          leaves_it = next_registers (types_of after) earlier n inputs start (steered_by others (at_controls c)) h W w.0;
          keeps_shape = w.1;
        }

    -- the wires of an instant
    abbrev Wires : Past → List Value → Instant → Choice → Instant → Instant → Type 0
    Wires h inputs early c others now = (W : Instant) × IsInstant after earlier n (left h) inputs early c others W × (shown h inputs others c W ≡ now)

    memory_is : (h : Past) → left h ≡ memory after n h
    memory_is h = let cl = class program after ranks o earlier n st in memory_same after cl.0 earlier n start h cl.1 (settled program after ranks o earlier n st).found

    wires_of : (h : Past) (inputs : List Value) (early : Instant) (c : Choice) (now : Instant) → Shaped (left h) → IsChoiceOf after n c → (x : IsFilled after earlier n h inputs early c now) → Wires h inputs early c x.others now
    wires_of h inputs early c now sh is x =
        let cl = class program after ranks o earlier n st in
        let S = settled program after ranks o earlier n st in
        let w = wiring after cl.0 earlier n m S M (left h) inputs x.others c sh x.values is x.given in
        let I : IsInstant after earlier n (left h) inputs early c x.others w.0 = record { wires = w.1; fits = x.fits; fills = x.fills; agrees = x.agrees } in
        let g = goes h inputs early x.others c w.0 I in
        let u : OneInstant (filled_instant after earlier n inputs h (steered_by x.others (at_controls c))) = filled_one (types_of after) earlier S.ranked_earlier n S.ranked inputs (record { past = h; free = steered_by x.others (at_controls c) }) in
        (w.0, I, fun_ext (λ p. u.only (shown h inputs x.others c w.0) (λ p. ap (λ i. i p) g.meets) p ∙ sym (u.only now x.meets p)))

    -- histories leave registers in shape
    all_shaped : (h : Past) → AllFilled after earlier n h → Shaped (left h)
    all_shaped [] a = subst Shaped (sym (memory_is [])) (shaped program after ranks o earlier n st)
    all_shaped (now ∷ h) a =
        let x = a.1.4 in
        let w = wires_of h a.1.0 a.1.1 a.1.2 now (all_shaped h a.0) a.1.3 x in
        subst (λ i. Shaped (left (i ∷ h))) w.2 (goes h a.1.0 a.1.1 x.others a.1.2 w.0 w.1).keeps_shape

    -- and so the memory of contracts
    pub memory_shaped : (h : Past) → AllFilled after earlier n h → Shaped (memory after n h)
    memory_shaped h a = subst Shaped (memory_is h) (all_shaped h a)

    -- what is safe after a history is safe from the memory that it leaves
    forced_same : (k : ℕ) (h : Past) → AllFilled after earlier n h → FilledForced after earlier n k h ↔ ForcedFrom after earlier n k (left h)
    forced_same k h a =
        let cl = class program after ranks o earlier n st in
        let S = settled program after ranks o earlier n st in
        let e = same_filled_game after cl.0 earlier n m S M (shaped program after ranks o earlier n st) k h a in
        let g = same_memory_game after cl.0 earlier n m S M k (memory after n h) (memory_shaped h a) in
        ((λ f. subst (ForcedFrom after earlier n k) (sym (memory_is h)) (g.1 (e.0 f))), (λ f. e.1 (g.0 (subst (ForcedFrom after earlier n k) (memory_is h) f))))

    pub safe_memory : (h h' : Past) → AllFitting after earlier n h → AllFilled after earlier n h' → Twins h h' → Safe after n h → SafeFrom after earlier n (memory after n h')
    safe_memory h h' a u t s k f =
        s k ((forced program after ranks o earlier n st k h a).1 (back program after ranks o earlier n st k h h' t ((forced_same k h' u).1 (subst (ForcedFrom after earlier n k) (sym (memory_is h')) f))))

    to_memory : (h : Past) (inputs : List Value) (early : Instant) (c : Choice) → AllFilled after earlier n h → IsChoiceOf after n c → FilledPermitted after earlier n h inputs early c → PermittedFrom after earlier n (left h) inputs early c
    to_memory h inputs early c a is P others W I hyp =
        let g = goes h inputs early others c W I in
        let now = shown h inputs others c W in
        let y : IsFilled after earlier n h inputs early c now = record { others = others; values = I.wires.values; given = I.wires.given; fits = I.fits; fills = I.fills; agrees = I.agrees; meets = λ p. ap (λ i. i p) g.meets } in
        let r = P now y hyp in
        (r.0, λ k f. r.1 k ((forced_same k (now ∷ h) (a, (inputs, early, c, is, y))).1 (subst (ForcedFrom after earlier n k) (sym g.leaves_it) f)))

    from_memory : (h : Past) (inputs : List Value) (early : Instant) (c : Choice) → AllFilled after earlier n h → IsChoiceOf after n c → PermittedFrom after earlier n (left h) inputs early c → FilledPermitted after earlier n h inputs early c
    from_memory h inputs early c a is P now y hyp =
        let w = wires_of h inputs early c now (all_shaped h a) is y in
        let g = goes h inputs early y.others c w.0 w.1 in
        let r = P y.others w.0 w.1 (subst (λ i. IsTrue (hypothesis n i)) (sym w.2) hyp) in (
          subst (λ i. IsTrue (duty n i)) w.2 r.0,
          λ k f.
              let z = (forced_same k (now ∷ h) (a, (inputs, early, c, is, y))).0 f in
              r.1 k (subst (ForcedFrom after earlier n k) (ap (λ i. left (i ∷ h)) (sym w.2) ∙ g.leaves_it) z),
        )

    -- ---- both

    same_permitted : (h h' : Past) (inputs : List Value) (early : Instant) (c : Choice) → Twins h h' → AllFilled after earlier n h' → IsChoiceOf after n c
        → FittingPermitted after earlier n h inputs early c ↔ PermittedFrom after earlier n (memory after n h') inputs early c
    same_permitted h h' inputs early c t a is = (
      λ P. subst (λ mem. PermittedFrom after earlier n mem inputs early c) (memory_is h') (to_memory h' inputs early c a is (to_filled h h' inputs early c t P)),
      λ P. from_filled h h' inputs early c t (from_memory h' inputs early c a is (subst (λ mem. PermittedFrom after earlier n mem inputs early c) (sym (memory_is h')) P)),
    )

-- ---- the law

-- the greatest permitted choice, where the same is permitted
chosen_same : (after earlier : List Item) (n : Node) (h : Past) (mem : Instant) (inputs : List Value) (early : Instant) (c : Choice) → IsChoiceOf after n c
    → ((c : Choice) → IsChoiceOf after n c → Permitted after n h inputs early c ↔ PermittedFrom after earlier n mem (map marked inputs) early c)
    → IsChosen after n h inputs early c ↔ IsChosenFrom after earlier n mem (map marked inputs) early c
chosen_same after earlier n h mem inputs early c is both = (
  λ x.
      record {
        greatest = λ d isd P. let r = x.greatest d isd ((both d isd).1 P) in ((both c is).0 r.0, r.1);
        else_preferred = λ no. x.else_preferred (λ d isd P. no d isd ((both d isd).0 P));
      },
  λ x.
      record {
        fits = is;
        greatest = λ d isd P. let r = x.greatest d isd ((both d isd).0 P) in ((both c is).1 r.0, r.1);
        else_preferred = λ no. x.else_preferred (λ d isd P. no d isd ((both d isd).1 P));
      },
)

-- what may be chosen after each history beside which such a one stands
pub each_choice : (program after : List Item) (ranks : List (List ℕ)) (o : IsInOrder program after ranks) (earlier : List Item) (n : Node) (st : Stands after earlier n) (m : Machine) → Mirrors after earlier n m
    → (h h' : Past) → AllFitting after earlier n h → AllFilled after earlier n h' → HistoryTwins program after ranks o earlier n st h h' → ChoosesAsMemory after earlier n h h'
each_choice program after ranks o earlier n st m M h h' a u t inputs early fit typed =
    let both : (c : Choice) → IsChoiceOf after n c → Permitted after n h inputs early c ↔ PermittedFrom after earlier n (memory after n h') (map marked inputs) early c =
    λ c is.
    let p = may_choose program after ranks o earlier n st h inputs early c a fit is typed in
    let q = same_permitted program after ranks o earlier n st m M h h' (map marked inputs) early c t u is in
    ((λ P. q.0 (p.0 P)), (λ P. p.1 (q.1 P))) in
    (both, λ c is. chosen_same after earlier n h (memory after n h') inputs early c is both)

pub choices : ChoicesLaw
choices program after ranks o earlier n st m M h a =
    let b = twin program after ranks o earlier n st h a in (
      b.0,
      (
        b.1.0,
        (
          all_under (types_of after) (class program after ranks o earlier n st).0 earlier n (class program after ranks o earlier n st).1 h b.0 b.1.1.1,
          each_choice program after ranks o earlier n st m M h b.0 a b.1.0 b.1.1,
        ),
      ),
    )
