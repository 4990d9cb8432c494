-- Each instant after a history looks at the same early places, so the early values of the game choose what they do when they are made ones of their types.
use Rattle.std.proofs.Common.{◌≡◌, inl, inr, ℕ, suc, List, [], ◌∷◌, ◌++◌, map, sym, ap, subst, ◌∙◌, ⊎_elim}
use Rattle.std.specs.Prelude.{Bool, true, IsTrue, reverse, Option, None, Some}
use Rattle.hp_base.specs.declared.ty.Ty.{Ty}
use Rattle.hp_base.specs.declared.ty.Ty.TheVariants as ty
use Rattle.hp_base.specs.declared.value.Value.{Value}
use Rattle.hp_base.specs.declared.value.Value.TheVariants.{Absent, Nil, B, E, I, Star}
use Rattle.hp_tree.specs.declared.program.Item.{Item}
use Rattle.hp_tree.specs.Programs.{TypeDecl, Node}
use Rattle.hp_tree.specs.Operators.{abstraction, constructor_from, place_in, or_later, marked, is_there}
use Rattle.hp_tree.specs.Instant.{Fresh, First, Second, Place, Instant, Past}
use Rattle.hp_tree.specs.Meaning.{types_of, node, node_among}
use Rattle.hp_meaning.specs.Causal.Abstract.{callees, abstract_meaning}
use Rattle.hp_meaning.specs.Causal.OneReaction.{OneInstant}
use Rattle.hp_meaning.proofs.CausalLemmas.AbstractOne.{abstract_one}
use Rattle.hp_meaning.proofs.CausalLemmas.Ranking.{all_ranks_enough}
use Rattle.hp_meaning.specs.Causal.Points.{points}
use Rattle.hp_meaning.specs.Causal.Steering.{steered_by}
use Rattle.hp_meaning.proofs.CausalLemmas.LookedAt.{abstract_given}
use Rattle.hp_meaning.specs.Contract.FreePlaces.{IsAbstractOf, InputsFit, IsEarly, instance_at}
use Rattle.hp_meaning.specs.Contract.Game.{Choice, IsChoiceOf, at_controls, preferred, IsNext}
use Rattle.hp_meaning.specs.Contract.Slots.{free_places, registers, zero_at}
use Rattle.law_games.proofs.WiretypedLemmas.Givens.{inputs_fit}
use Rattle.law_games.specs.Abstracted.Instances.{AbstractFits}
use Rattle.law_games.specs.ReadyGames.Laws.{Stands, IsInOrder}
use Rattle.law_games.specs.ReadyGames.FittingHistories.{AllFitting, IsFitting}
use Rattle.law_games.proofs.ReadyGamesLemmas.Settled.{class, found, ranked, settled}
use Rattle.law_games.proofs.ReadyGamesLemmas.Histories.{twin}
use Rattle.law_games.specs.Forced.Laws.{MachineChoicesLaw}
use Rattle.law_drawing.specs.Mirrors.Choices.{PreferredLaw}
use Rattle.law_games.proofs.ForcedLemmas.EachCall.{all_each}
use Rattle.law_games.proofs.ForcedLemmas.FittedNodes.{callee_of, node_fits}
use Rattle.law_games.proofs.ForcedLemmas.Games.{instants}
use Rattle.law_games.proofs.ForcedLemmas.Mended.{flag_of, mend_node}
use Rattle.law_games.proofs.ForcedLemmas.Pairs.{node_pairs, called_pairs}
use Rattle.law_games.proofs.ForcedLemmas.Steps.{OutputsAre, node_outputs, fitting_of}
use Rattle.law_choices.specs.Chosen.Laws.{is_seen, ComesLaw, FitsWhereSeen, SeenAlikeLaw, NilChoicesLaw, MachineNilLaw}
use Rattle.law_choices.proofs.ChosenLemmas.Seen.{seen_marks, seen_output, each_of, declared, as_node, made, slots_fit, made_fits, stays, same_permitted, same_chosen}
use Rattle.law_choices.proofs.ChosenLemmas.Served.{Served}
use Rattle.law_choices.proofs.ChosenLemmas.ServedNodes.{node_served}

-- ---- values that count as the same

pub bool_same : (v : Value) (b : Bool) → marked v ≡ B b → v ≡ B b
bool_same (I n) b e = absurd (cc)
bool_same Absent b e = e
bool_same Nil b e = e
bool_same (B c) b e = e
bool_same (E t k) b e = e
bool_same Star b e = e

pub other_same : (v w : Value) → marked v ≡ w → (w ≡ Star → ⊥) → v ≡ w
other_same (I n) w e f = absurd (f (sym e))
other_same Absent w e f = e
other_same Nil w e f = e
other_same (B c) w e f = e
other_same (E t k) w e f = e
other_same Star w e f = e

constructor_same : (j : ℕ) (types : List TypeDecl) (c : List ℕ) (v : Value) → marked v ≡ marked (constructor_from j types c) → v ≡ constructor_from j types c
constructor_same j [] c v e = other_same v Absent e (λ z. absurd (cc))
constructor_same j (d ∷ ds) c v e = by (place_in 0 d.cons c) e (constructor_same (suc j) ds c v)
  where
    by : (o : Option ℕ) → marked v ≡ marked (or_later j o (constructor_from (suc j) ds c)) → (marked v ≡ marked (constructor_from (suc j) ds c) → v ≡ constructor_from (suc j) ds c) → v ≡ or_later j o (constructor_from (suc j) ds c)
    by (Some k) e more = other_same v (E j k) e (λ z. absurd (cc))
    by None e more = more e

abstract_same : (types : List TypeDecl) (t : Ty) (v w : Value) → marked v ≡ marked w → IsAbstractOf types t w → IsAbstractOf types t v
abstract_same types ty.Bool v w e h = (h.0, bool_same v h.0 (e ∙ ap marked h.1))
abstract_same types ty.Int v w e h = e ∙ h
abstract_same types (ty.Enum t) v w e h = (h.0, h.1, constructor_same 0 types h.0 v (e ∙ ap marked h.2))

-- ---- a node

module _ (program after : List Item) (ranks : List (List ℕ)) (o : IsInOrder program after ranks) (earlier : List Item) (n : Node) (st : Stands after earlier n) (h : Past) (inputs : List Value) (a : AllFitting after earlier n h) (fit : InputsFit (types_of after) n.inputs inputs) where
  abbrev types : List TypeDecl
  types = types_of after

  fits_next : (early : Instant) (c : Choice) (now : Instant) → IsChoiceOf after n c → IsNext after n h inputs early c now → AbstractFits types true (class program after ranks o earlier n st).0 earlier n now
  fits_next early c now is x =
      let y = fitting_of after earlier n (found program after ranks o earlier n st) (declared program after ranks o earlier n st) (as_node program after ranks o earlier n st) abstract_given h inputs early c now is x fit in
      (twin program after ranks o earlier n st (now ∷ h) (a, (map marked inputs, made program after ranks o earlier n st early, c, is, y))).1.1.0.0

  met : (early : Instant) (c : Choice) (now : Instant) (x : IsNext after n h inputs early c now) (p : Place) → now p ≡ node types abstraction (callees types earlier) n (map marked inputs) (record { past = h; free = steered_by x.free (at_controls c) }) now p
  met early c now x p = x.meets p ∙ ap (λ i. i p) (as_node program after ranks o earlier n st inputs (record { past = h; free = steered_by x.free (at_controls c) }) now)

  -- What one instant looks at the other does.
  served : (early firsts : Instant) (c d : Choice) (now other : Instant) → IsChoiceOf after n c → IsChoiceOf after n d → IsNext after n h inputs early c now → (y : IsNext after n h inputs firsts d other) → (p : Place) → IsEarly after n p → is_seen now p ≡ true → Served other y.free p
  served early firsts c d now other is isd x y p e seen =
      node_served types earlier (class program after ranks o earlier n st).0 n (ranked program after ranks o earlier n st).0 (class program after ranks o earlier n st).1.0.classes.definite (map marked inputs) (inputs_fit types n.inputs inputs fit)
      h x.free y.free (at_controls c) (at_controls d) now other (fits_next early c now is x) (fits_next firsts d other isd y) x.fits.comparisons y.fits.comparisons (met early c now x) (met firsts d other y) p e.on_base seen

  alike : (early firsts : Instant) (c d : Choice) (now other : Instant) → IsChoiceOf after n c → IsChoiceOf after n d → IsNext after n h inputs early c now → IsNext after n h inputs firsts d other → (p : Place) → IsEarly after n p → is_seen now p ≡ true → is_seen other p ≡ true
  alike early firsts c d now other is isd x y p e seen =
      ⊎_elim (λ z. seen_marks other p z.0 z.1.0) (λ z. subst (λ q. is_seen other q ≡ true) (sym z.2) (seen_output other z.0 z.1 z.3)) (served early firsts c d now other is isd x y p e seen)

  module _ (early : Instant) (d : Choice) (other : Instant) (isd : IsChoiceOf after n d) (y : IsNext after n h inputs early d other) where
    abbrev begun : Instant
    begun = zero_at (registers after n)

    pairs : (p : Place) → other (p ++ (First ∷ [])) ≡ Star → other (p ++ (Second ∷ [])) ≡ Star → (v : Value) → mend_node (callee_of after) n begun p v ≡ flag_of v
    pairs =
        node_pairs types abstraction (callees types earlier) (callee_of after) (λ f vs g now begin h. called_pairs types earlier f (node_among (reverse after) f) (found program after ranks o earlier n st f) vs g now begin h) n (map marked inputs)
        (record { past = h; free = steered_by y.free (at_controls d) }) other begun (met early d other y)

    -- where an instant looks, early values count as what is made of them
    counts : (p : Place) → IsEarly after n p → Served other y.free p → marked (early p) ≡ marked (made program after ranks o earlier n st early p)
    counts p e (inl (f, (g, k))) =
        let b = y.fits.comparisons p f g k in
        let is : early p ≡ B b.0 = sym (y.agrees p e) ∙ b.1 in
        ap marked (is ∙ sym (pairs p f g (early p) ∙ ap flag_of is))
    counts p e (inr (q, x, k, t)) =
        let r = node_outputs after earlier (found program after ranks o earlier n st) n other y.free (all_each (λ c. IsTrue (is_there (instance_at c other (Fresh ∷ []))) → OutputsAre after earlier (found program after ranks o earlier n st) y.free c) (points n) y.fits.outputs) q x t in
        let s : marked (y.free p) ≡ marked (mend_node (callee_of after) n begun p (y.free p)) = subst (λ z. marked (y.free z) ≡ marked (mend_node (callee_of after) n begun z (y.free z))) (sym k) r in
        subst (λ v. marked v ≡ marked (mend_node (callee_of after) n begun p v)) (y.agrees p e) s

    fits_where_seen : FitsWhereSeen after n h inputs (made program after ranks o earlier n st early) early
    fits_where_seen c now is x =
        each_of (λ q. IsEarly after n q.0 → IsAbstractOf types q.1 (made program after ranks o earlier n st early q.0)) (λ q. IsEarly after n q.0 × IsTrue (is_seen now q.0) → IsAbstractOf types q.1 (early q.0)) (free_places after n)
        (λ q f z. abstract_same types q.1 (early q.0) (made program after ranks o earlier n st early q.0) (counts q.0 z.0 (served (made program after ranks o earlier n st early) early c d now other is isd x y q.0 z.0 z.1)) (f z.0))
        (made_fits program after ranks o earlier n st inputs early fit)

-- ---- the laws

pub comes : ComesLaw
comes program after ranks o earlier n st h inputs early a fit typed =
    let c = preferred after n in
    let is = (settled program after ranks o earlier n st).some_choice in
    let wires = inputs_fit (types_of after) n.inputs inputs fit in
    let made_of = made program after ranks o earlier n st early in
    let r = node_fits after earlier n (found program after ranks o earlier n st) (declared program after ranks o earlier n st) c is (zero_at (registers after n)) early in
    let u : OneInstant (abstract_meaning after n.name (map marked inputs) (record { past = h; free = steered_by made_of (at_controls c) })) = abstract_one after n.name (map marked inputs) (record { past = h; free = steered_by made_of (at_controls c) }) (all_ranks_enough after ranks o.ordered) in
    let x : IsFitting after earlier n h (map marked inputs) early c u.now =
    record { others = made_of; values = wires; given = r.0; fits = r.2 (map marked inputs) wires; fills = r.1; agrees = λ p e. stays program after ranks o earlier n st (IsEarly after n) early typed p e e; meets = u.meets } in
    (c, u.now, is, (instants program after ranks o earlier n st h inputs early c a fit is typed u.now).1 x)

pub seen_alike : SeenAlikeLaw
seen_alike program after ranks o earlier n st h inputs early firsts c d now other a fit is isd x y p e seen = alike program after ranks o earlier n st h inputs a fit early firsts c d now other is isd x y p e seen

pub nil_choices : NilChoicesLaw
nil_choices program after ranks o earlier n st inputs early fit = (
  made program after ranks o earlier n st early,
  (
    slots_fit program after ranks o earlier n st inputs early fit,
    (
      λ chosen typed p e w. stays program after ranks o earlier n st (λ q. IsEarly after n q × IsTrue (chosen q)) early typed p (e, w) e,
      λ h a may c is.
          let seen = fits_where_seen program after ranks o earlier n st h inputs a fit early may.0 may.1 may.2 may.3 in
          let both = λ (d : Choice) (isd : IsChoiceOf after n d). same_permitted program after ranks o earlier n st h inputs early a fit d isd seen in
          (both c is, same_chosen program after ranks o earlier n st h inputs early (made program after ranks o earlier n st early) c is both),
    ),
  ),
)

pub on_machines : MachineChoicesLaw → PreferredLaw → MachineNilLaw
on_machines law preferred program after ranks o earlier n st m M h a =
    let p = preferred program after ranks o earlier n st m M in
    let x = law program after ranks o earlier n st m M p.0 p.1 h a in (
      x.0,
      (
        x.1.0,
        (
          x.1.1.0,
          λ inputs early fit.
              let s = nil_choices program after ranks o earlier n st inputs early fit in (
                s.0,
                (
                  s.1.1.0,
                  λ may c is.
                      let y = x.1.1.1 inputs s.0 fit s.1.0 c is in
                      let z = s.1.1.1 h a may c is in
                      (((λ P. y.0.0 (z.0.0 P)), (λ P. z.0.1 (y.0.1 P))), ((λ P. y.1.0 (z.1.0 P)), (λ P. z.1.1 (y.1.1 P)))),
                ),
              ),
        ),
      ),
    )
