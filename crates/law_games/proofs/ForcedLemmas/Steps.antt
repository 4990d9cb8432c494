-- One instant of the game: an instant of a contract's game is one in which each given value is of its type, with what is given mended; and the other way.
use Rattle.std.proofs.Common.{◌≡◌, ℕ, List, [], ◌∷◌, ◌++◌, map, refl, sym, ap, subst, ◌∙◌}
use Rattle.std.proofs.Math.Path.{fun_ext}
use Rattle.std.specs.Prelude.{Bool, true, false, IsTrue, if◌then◌else◌, reverse, All, Option, None, Some}
use Rattle.std.specs.Str.{bytes_eq}
use Rattle.hp_base.specs.declared.span.Span.{Span}
use Rattle.hp_base.specs.declared.value.Value.{Value}
use Rattle.hp_base.specs.declared.value.Value.TheVariants.{Absent, Nil, B, E, I, Star}
use Rattle.hp_tree.specs.declared.program.Item.{Item}
use Rattle.hp_tree.specs.declared.program.Item.TheVariants.{TypeItem, NodeItem}
use Rattle.hp_tree.specs.Programs.{TypeDecl, Node}
use Rattle.hp_tree.specs.Operators.{abstraction, marked, is_there}
use Rattle.hp_tree.specs.Instant.{Controls, Named, Fresh, First, Second, Instance, Place, Instant, Past, Given, part}
use Rattle.hp_tree.specs.Meaning.{types_of, node, node_among}
use Rattle.hp_meaning.specs.Causal.Abstract.{callees, abstract_meaning}
use Rattle.hp_meaning.specs.Causal.Agreement.{AgreeAtFree, AbstractGivenLaw, OneByFreeLaw}
use Rattle.hp_meaning.specs.Causal.Causality.{IsRanked}
use Rattle.hp_meaning.specs.Causal.OneReaction.{OneInstant, AbstractLaw}
use Rattle.hp_meaning.specs.Causal.Points.{Placed, Whereabouts, point_at, points}
use Rattle.hp_meaning.specs.declared.causal.point.PointKind.TheVariants as kind
use Rattle.hp_meaning.specs.Causal.Steering.{steered_by}
use Rattle.hp_meaning.specs.Contract.FreePlaces.{InputsFit, OutputFits, instance_at, declared_outputs}
use Rattle.hp_meaning.specs.Contract.Game.{Choice, IsChoiceOf, at_controls, IsNext}
use Rattle.hp_meaning.specs.Contract.Slots.{registers, zero_at}
use Rattle.law_values.specs.Filled.Firsts.{DeclsHaveFirsts}
use Rattle.law_values.specs.Valued.Classed.{seen_in_node}
use Rattle.law_values.specs.Valued.Values.{Classing, class_here, class_behind, scope_behind, either_of}
use Rattle.hp_typing.specs.Scopes.{inside_node}
use Rattle.law_values.specs.Valued.Judged.{body_scope}
use Rattle.law_games.specs.Wires.WiredNodes.{FillsNode}
use Rattle.law_games.specs.Wires.WiredCallees.{callee_wires}
use Rattle.law_games.specs.Wiretyped.Typed.{IsFlag}
use Rattle.law_games.specs.Wiretyped.Callees.{AloneKept, AloneGiven, CalleeKept, CalleeGiven}
use Rattle.law_games.specs.Wiretyped.Laws.{InShape, GivenFits}
use Rattle.law_games.proofs.WiretypedLemmas.Givens.{inputs_fit}
use Rattle.law_games.specs.Mirror.Memories.{AreApart}
use Rattle.law_games.specs.Abstracted.Instances.{CalledFits, AbstractFits, CalledGiven, AbstractGiven}
use Rattle.law_games.proofs.AbstractedLemmas.Loosen.{node_loose}
use Rattle.law_games.specs.ReadyGames.FittingHistories.{IsFitting, AllFitting}
use Rattle.law_games.proofs.ForcedLemmas.Mended.{flag_of, mend_node, mend_by}
use Rattle.law_games.proofs.ForcedLemmas.Pairs.{Pairs, node_pairs, called_pairs}
use Rattle.law_games.proofs.ForcedLemmas.Fitted.{is_flag}
use Rattle.law_games.proofs.ForcedLemmas.FittedNodes.{callee_of, mended_for, node_fits}
use Rattle.law_games.proofs.ForcedLemmas.EachCall.{EachCall, each_weaker, each_all, all_each}
use Rattle.law_games.proofs.ForcedLemmas.Outputs.{Way, node_stays, alone_stays, node_has}
use Rattle.law_games.proofs.ForcedLemmas.Compared.{node_compared, called_compared}
use Rattle.law_games.proofs.ForcedLemmas.Values.{outputs_kept, outputs_are}

abbrev nil : Value → Value
nil given = Nil

-- ---- values

flag_kept : (v : Value) → IsFlag v → flag_of v ≡ v
flag_kept v f = subst (λ z. flag_of z ≡ z) (sym f.1) refl

marked_twice : (v : Value) → marked (marked v) ≡ marked v
marked_twice Absent = refl
marked_twice Nil = refl
marked_twice (B b) = refl
marked_twice (E t k) = refl
marked_twice (I n) = refl
marked_twice Star = refl

all_marked : (vs : List Value) → map marked (map marked vs) ≡ map marked vs
all_marked [] = refl
all_marked (v ∷ vs) = ap (λ z. z ∷ map marked (map marked vs)) (marked_twice v) ∙ ap (λ zs. marked v ∷ zs) (all_marked vs)

-- with the values of controllable variables beside them
steered_agree : (now free other controls : Instant) → AgreeAtFree now free other → AgreeAtFree now (steered_by free controls) (steered_by other controls)
steered_agree now free other controls h = record { comparisons = by; outputs = at }
  where
    by : (p : Place) → now (p ++ (First ∷ [])) ≡ Star → now (p ++ (Second ∷ [])) ≡ Star → now p ≡ steered_by free controls p → steered_by free controls p ≡ steered_by other controls p
    by (Controls ∷ p) f t e = refl
    by p f t e = h.comparisons p f t e

    at : (p : Place) (x : List ℕ) → IsTrue (is_there (now (p ++ (Instance ∷ Fresh ∷ [])))) → now (p ++ (Instance ∷ Named x ∷ [])) ≡ marked (steered_by free controls (p ++ (Instance ∷ Named x ∷ [])))
        → marked (steered_by free controls (p ++ (Instance ∷ Named x ∷ []))) ≡ marked (steered_by other controls (p ++ (Instance ∷ Named x ∷ [])))
    at (Controls ∷ p) x t e = refl
    at p x t e = h.outputs p x t e

-- ---- calls

module _ (program earlier : List Item) (found : (f : List ℕ) (k : Node) → node_among earlier f ≡ Some k → node_among (reverse program) f ≡ Some k) where
  abbrev types : List TypeDecl
  types = types_of program

  abbrev known : List ℕ → Option Node
  known f = node_among (reverse program) f

  -- the outputs of a call are given values of their types
  abbrev pub OutputsAre : Instant → Placed → Type 0
  OutputsAre free c = All (OutputFits (types_of program) c free) (declared_outputs (node_among (reverse program) c.point.name))

  -- so at each call, where the given values fit
  call_has : (items : List Item) (c : Placed) (free start mem j : Instant) → ((k : Node) → node_among items c.point.name ≡ Some k → known c.point.name ≡ Some k) → ((x : List ℕ) → free (c.place ++ (Instance ∷ Named x ∷ [])) ≡ j (Named x ∷ []))
      → CalleeKept (types_of program) items c.point.name start mem → CalleeGiven (types_of program) items c.point.name j → OutputsAre free c
  call_has [] c free start mem j is e k g = absurd k
  call_has (TypeItem t ∷ items) c free start mem j is e k g = call_has items c free start mem j is e k g
  call_has (NodeItem m ∷ items) c free start mem j is e k g = by (bytes_eq m.name c.point.name) is k g (λ z. call_has items c free start mem j z e)
    where
      by : (b : Bool) → ((k : Node) → (if b then Some m else node_among items c.point.name) ≡ Some k → known c.point.name ≡ Some k)
          → either_of b (AloneKept (types_of program) (scope_behind items) m start mem) (CalleeKept (types_of program) items c.point.name start mem) → either_of b (AloneGiven (types_of program) (scope_behind items) m j) (CalleeGiven (types_of program) items c.point.name j)
          → (((k : Node) → node_among items c.point.name ≡ Some k → known c.point.name ≡ Some k) → CalleeKept (types_of program) items c.point.name start mem → CalleeGiven (types_of program) items c.point.name j → OutputsAre free c) → OutputsAre free c
      by true is k g more = subst (λ z. All (OutputFits (types_of program) c free) (declared_outputs z)) (sym (is m refl)) (outputs_are (types_of program) c free j m.outputs e g.0)
      by false is k g more = more is k g

  -- what is mended at an output of a call
  output_stays : (free start : Instant) (f : List ℕ) (s : Span) (w : Whereabouts) (o : Option Node) → Way w → All (OutputFits (types_of program) (point_at kind.Call f s (w [])) free) (declared_outputs o) → (x : List ℕ)
      → marked (free (w (Instance ∷ Named x ∷ []))) ≡ marked (mend_by (types_of program) o start (Named x ∷ []) (free (w (Instance ∷ Named x ∷ []))))
  output_stays free start f s w None a h x = refl
  output_stays free start f s w (Some k) a h x = outputs_kept (types_of program) (point_at kind.Call f s (w [])) free k.outputs x (free (w (Instance ∷ Named x ∷ []))) h (ap free (a (Instance ∷ Named x ∷ [])))

  deep : (f : List ℕ) (start : Instant) (o : Option Node) (p : Place) (x : List ℕ) (v : Value) → mend_by (types_of program) o start (p ++ (Instance ∷ Named x ∷ [])) v ≡ v
  deep f start None p x v = refl
  deep f start (Some k) [] x v = alone_stays k.contract start [] x v
  deep f start (Some k) (Named y ∷ []) x v = alone_stays k.contract start (Named y ∷ []) x v
  deep f start (Some k) (Named y ∷ a ∷ p) x v = alone_stays k.contract start (Named y ∷ a ∷ p) x v
  deep f start (Some k) p x v = alone_stays k.contract start p x v

  module _ (n : Node) where
    abbrev start : Instant
    start = zero_at (registers program n)

    -- where outputs are of their types at each call that is there, they stay
    pub node_outputs : (now free : Instant) → EachCall (λ c. IsTrue (is_there (instance_at c now (Fresh ∷ []))) → OutputsAre free c) (points n) → (p : Place) (x : List ℕ) → IsTrue (is_there (now (p ++ (Instance ∷ Fresh ∷ []))))
        → marked (free (p ++ (Instance ∷ Named x ∷ []))) ≡ marked (mended_for program n start free (p ++ (Instance ∷ Named x ∷ [])))
    node_outputs now free k =
        node_stays (callee_of program) now free (λ v w. marked v ≡ marked w) (λ v. refl) (λ c. IsTrue (is_there (instance_at c now (Fresh ∷ []))) → OutputsAre free c)
        (λ f s w st a h x t. output_stays free st f s w (known f) a (h (subst (λ z. IsTrue (is_there (now z))) (a (Instance ∷ Fresh ∷ [])) t)) x) (λ f st p x v. deep f st (known f) p x v) n start k

    pub node_calls : (mem free controls : Instant) → InShape (types_of program) earlier n start mem → GivenFits (types_of program) earlier n (steered_by free controls) → EachCall (OutputsAre free) (points n)
    node_calls mem free controls k g =
        node_has (types_of program) (CalleeKept (types_of program) earlier) (CalleeGiven (types_of program) earlier) free (OutputsAre free)
        (λ f s w st me i a u kf gf. call_has earlier (point_at kind.Call f s (w [])) free (part Instance st) (part Instance me) (part Instance i) (found f) (λ x. sym (ap free (a (Instance ∷ Named x ∷ []))) ∙ u (Instance ∷ Named x ∷ [])) kf gf)
        n (body_scope (scope_behind earlier) n) (inside_node (scope_behind earlier) n) start mem (steered_by free controls) (λ p. refl) (λ p. refl) (λ p. refl) (λ p. refl) k.1.0 g.1.0 k.1.1 g.1.1

-- ---- a node

module _ (program earlier : List Item) (n : Node) (found : (f : List ℕ) (k : Node) → node_among earlier f ≡ Some k → node_among (reverse program) f ≡ Some k)
    (declared : (f : List ℕ) (k : Node) → node_among (reverse program) f ≡ Some k → AreApart k.outputs × DeclsHaveFirsts (types_of program) k.outputs)
    (as_node : (inputs : List Value) (g : Given) (now : Instant) → abstract_meaning program n.name inputs g now ≡ node (types_of program) abstraction (callees (types_of program) earlier) n (map marked inputs) g now)
    (given_law : AbstractGivenLaw) where
  abbrev begun : Instant
  begun = zero_at (registers program n)

  -- what is given, mended
  abbrev pub mended_by : Instant → Instant
  mended_by free = mended_for program n (zero_at (registers program n)) free

  -- an integer counts as its mark
  pub marked_inputs : (inputs : List Value) (g : Given) (now : Instant) → abstract_meaning program n.name (map marked inputs) g now ≡ abstract_meaning program n.name inputs g now
  marked_inputs inputs g now = as_node (map marked inputs) g now ∙ ap (λ vs. node (types_of program) abstraction (callees (types_of program) earlier) n vs g now) (all_marked inputs) ∙ sym (as_node inputs g now)

  pairs : (inputs : List Value) (g : Given) (now : Instant) → ((p : Place) → now p ≡ abstract_meaning program n.name inputs g now p) → Pairs now (mend_node (callee_of program) n begun)
  pairs inputs g now m =
      node_pairs (types_of program) abstraction (callees (types_of program) earlier) (callee_of program) (λ f vs g now st h. called_pairs (types_of program) earlier f (node_among (reverse program) f) (found f) vs g now st h) n (map marked inputs) g now begun
      (λ p. m p ∙ ap (λ i. i p) (as_node inputs g now))

  -- ---- from an instant of the game

  module _ (h : Past) (inputs : List Value) (early : Instant) (c : Choice) (now : Instant) (is : IsChoiceOf program n c) (x : IsNext program n h inputs early c now) where
    stays_there : AgreeAtFree now x.free (mended_by x.free)
    stays_there =
        record {
          comparisons = λ p f t e.
              let b = x.fits.comparisons p f t e in
              sym (pairs inputs (record { past = h; free = steered_by x.free (at_controls c) }) now x.meets p f t (x.free p) ∙ flag_kept (x.free p) b);
          outputs = λ p y t e. node_outputs program earlier found n now x.free (all_each (λ c. IsTrue (is_there (instance_at c now (Fresh ∷ []))) → OutputsAre program earlier found x.free c) (points n) x.fits.outputs) p y t;
        }

    met : (p : Place) → now p ≡ abstract_meaning program n.name (map marked inputs) (record { past = h; free = steered_by (mended_by x.free) (at_controls c) }) now p
    met p =
        let g : Given = record { past = h; free = steered_by (mended_by x.free) (at_controls c) } in
        let m = given_law program n.name inputs h (steered_by x.free (at_controls c)) (steered_by (mended_by x.free) (at_controls c)) now (steered_agree now x.free (mended_by x.free) (at_controls c) stays_there) (λ q. refl) x.meets in
        m p ∙ ap (λ i. i p) (sym (marked_inputs inputs g now))

    pub fitting_of : InputsFit (types_of program) n.inputs inputs → IsFitting program earlier n h (map marked inputs) (mended_by early) c now
    fitting_of fit =
        let values = inputs_fit (types_of program) n.inputs inputs fit in
        let r = node_fits program earlier n found declared c is begun x.free in
        record { others = mended_by x.free; values = values; given = r.0; fits = r.2 (map marked inputs) values; fills = r.1; agrees = λ p e. ap (mend_node (callee_of program) n begun p) (x.agrees p e); meets = met }

  -- ---- to an instant of the game

  module _ (mem : Instant) (shaped : InShape (types_of program) earlier n begun mem) (class : Classing) (given_nil : (free : Instant) → FillsNode (types_of program) (callee_wires (types_of program) earlier) n begun free → GivenFits (types_of program) earlier n free → AbstractGiven (types_of program) true nil earlier n free)
      (ranked : IsRanked program) (abstract_law : AbstractLaw) (one_law : OneByFreeLaw)
      (fits_now : (h : Past) → AllFitting program earlier n h → (inputs : List Value) (early : Instant) (c : Choice) (now : Instant) → IsChoiceOf program n c → IsFitting program earlier n h inputs early c now → AbstractFits (types_of program) true class earlier n now)
      (h : Past) (all : AllFitting program earlier n h) (inputs : List Value) (early : Instant) (c : Choice) (now : Instant) (is : IsChoiceOf program n c) (x : IsFitting program earlier n h inputs early c now) where
    abbrev free : Instant
    free = mended_by x.others

    fit : GivenFits (types_of program) earlier n (steered_by free (at_controls c))
    fit = (node_fits program earlier n found declared c is begun x.others).0

    -- the instant of what is mended
    one : OneInstant (abstract_meaning program n.name inputs (record { past = h; free = steered_by free (at_controls c) }))
    one = abstract_law program n.name inputs (record { past = h; free = steered_by free (at_controls c) }) ranked

    other : IsFitting program earlier n h inputs (mended_by early) c one.now
    other =
        let r = node_fits program earlier n found declared c is begun x.others in
        record { others = free; values = x.values; given = r.0; fits = r.2 inputs x.values; fills = r.1; agrees = λ p e. ap (mend_node (callee_of program) n begun p) (x.agrees p e); meets = one.meets }

    flags : (p : Place) → one.now (p ++ (First ∷ [])) ≡ Star → IsFlag (one.now p) → ((v : Value) → mend_node (callee_of program) n begun p v ≡ flag_of v) → IsFlag (steered_by x.others (at_controls c) p)
    flags =
        let g = given_nil (steered_by x.others (at_controls c)) x.fills x.given in
        node_compared (types_of program) nil (CalledFits (types_of program) true (class_behind class) earlier) (CalleeKept (types_of program) earlier) (CalledGiven (types_of program) true nil earlier) (callee_of program)
        (λ f st me i fr z k y. called_compared (types_of program) nil (class_behind class) earlier f (node_among (reverse program) f) (found f) st me i fr z k y)
        n (scope_behind earlier) (seen_in_node (class_here class) n) begun mem one.now (steered_by x.others (at_controls c))
        (node_loose (types_of program) true (CalledFits (types_of program) true (class_behind class) earlier) (scope_behind earlier) (seen_in_node (class_here class) n) n one.now (fits_now h all inputs (mended_by early) c one.now is other))
        shaped.1.0 g.0.1 shaped.1.1 g.1

    stays_so : AgreeAtFree one.now (steered_by free (at_controls c)) (steered_by x.others (at_controls c))
    stays_so = record { comparisons = by; outputs = at }
      where
        by : (p : Place) → one.now (p ++ (First ∷ [])) ≡ Star → one.now (p ++ (Second ∷ [])) ≡ Star → one.now p ≡ steered_by free (at_controls c) p → steered_by free (at_controls c) p ≡ steered_by x.others (at_controls c) p
        by (Controls ∷ p) f t e = refl
        by p f t e =
            let q = pairs inputs (record { past = h; free = steered_by free (at_controls c) }) one.now one.meets p f t in
            let v = x.others p in
            let held : IsFlag (one.now p) = subst IsFlag (sym (e ∙ q v)) (is_flag v) in
            q v ∙ flag_kept v (flags p f held q)

        calls : EachCall (OutputsAre program earlier found x.others) (points n)
        calls = node_calls program earlier found n mem x.others (at_controls c) shaped x.given

        at : (p : Place) (y : List ℕ) → IsTrue (is_there (one.now (p ++ (Instance ∷ Fresh ∷ [])))) → one.now (p ++ (Instance ∷ Named y ∷ [])) ≡ marked (steered_by free (at_controls c) (p ++ (Instance ∷ Named y ∷ [])))
            → marked (steered_by free (at_controls c) (p ++ (Instance ∷ Named y ∷ []))) ≡ marked (steered_by x.others (at_controls c) (p ++ (Instance ∷ Named y ∷ [])))
        at (Controls ∷ p) y t e = refl
        at p y t e =
            sym (node_outputs program earlier found n one.now x.others (each_weaker (OutputsAre program earlier found x.others) (λ c. IsTrue (is_there (instance_at c one.now (Fresh ∷ []))) → OutputsAre program earlier found x.others c) (points n) (λ c z t. z) calls) p y t)

    same : (p : Place) → now p ≡ one.now p
    same p = one_law program n.name inputs h (steered_by free (at_controls c)) (steered_by x.others (at_controls c)) one.now now ranked stays_so (λ q. refl) one.meets x.meets p

    pub next_of : IsNext program n h inputs (mended_by early) c now
    next_of =
        record {
          free = free;
          fits = record {
            comparisons = λ p f t e. subst IsFlag (sym (pairs inputs (record { past = h; free = steered_by x.others (at_controls c) }) now x.meets p f t (x.others p))) (is_flag (x.others p));
            outputs = each_all (λ c. IsTrue (is_there (instance_at c now (Fresh ∷ []))) → OutputsAre program earlier found free c) (points n)
                (each_weaker (OutputsAre program earlier found free) (λ c. IsTrue (is_there (instance_at c now (Fresh ∷ []))) → OutputsAre program earlier found free c) (points n) (λ c z t. z) (node_calls program earlier found n mem free (at_controls c) shaped fit));
          };
          agrees = λ p e. ap (mend_node (callee_of program) n begun p) (x.agrees p e);
          meets = subst (λ (i : Instant). (p : Place) → i p ≡ abstract_meaning program n.name inputs (record { past = h; free = steered_by free (at_controls c) }) i p) (fun_ext (λ p. sym (same p))) one.meets;
        }
