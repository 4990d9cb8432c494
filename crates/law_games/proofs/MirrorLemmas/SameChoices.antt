-- What is permitted at a memory is permitted on a machine that mirrors the node, and so the machine's choice is the greatest one.
use Rattle.std.proofs.Common.{◌≡◌, List, [], length, refl, sym, ap, ap₂, subst, ◌∙◌}
use Rattle.std.specs.Prelude.{IsTrue}
use Rattle.hp_base.specs.declared.value.Value.{Value}
use Rattle.hp_tree.specs.declared.program.Item.{Item}
use Rattle.hp_tree.specs.Programs.{TypeDecl, Node}
use Rattle.hp_tree.specs.Instant.{Place, Instant, nothing}
use Rattle.hp_boolx.specs.Search.{Bits}
use Rattle.hp_boolx.specs.Game.{IsForm, ValidEarly, joined, Before, Safe as SafeOn, Permitted as PermittedOn}
use Rattle.hp_boolx.specs.Machine.{Machine, game}
use Rattle.hp_boolx.specs.Solved.{IsChoice}
use Rattle.hp_boolx.proofs.SolvedLaws.{some-permitted}
use Rattle.hp_meaning.specs.Contract.FreePlaces.{IsEarly}
use Rattle.hp_meaning.specs.Contract.Game.{Choice, IsChoiceOf, preferred}
use Rattle.hp_meaning.specs.Contract.Slots.{FreePlace, slots_of_node}
use Rattle.law_values.specs.Valued.Values.{Classing}
use Rattle.law_games.specs.Wiretyped.Typed.{AreWires}
use Rattle.law_games.specs.Mirror.Mirrored.{codes_at, AreCodes, given_with, valuation, Mirrors}
use Rattle.law_games.specs.Mirror.Memories.{SlotsFit, IsInstant, supposes, owes, leaves, SafeFrom, IsSettled}
use Rattle.law_games.specs.Mirror.Choices.{PermittedFrom, IsChosenFrom, choice_bits, BitsInOrder, SameMemoryPermittedLaw, SameMemoryChoiceLaw, SomeMemoryChoiceLaw}
use Rattle.law_games.proofs.MirrorLemmas.SlotLists.{values_at, AreValues, codes_of, codes_of_values, values_of_codes, early_values, slots_fit, early_same}
use Rattle.law_games.proofs.MirrorLemmas.NodeGiven.{fits, fills, beside, same_values, same_choice}
use Rattle.law_games.proofs.MirrorLemmas.SameMemories.{types, earlies, controls, lates, Shaped, state, state_long, early_long, control_long, late_long, same_codes, left_shaped, at_hypothesis, at_duty, wiring, decoded, coded, given_codes, chosen, plain, truth_moved, same_memory_safe}

module _ (program : List Item) (class : Classing) (earlier : List Item) (n : Node) (m : Machine) (S : IsSettled program class earlier n) (M : Mirrors program earlier n m) where
  abbrev tys : List TypeDecl
  tys = types program class earlier n m S M

  abbrev first_places : List FreePlace
  first_places = earlies program class earlier n m S M

  abbrev choice_places : List FreePlace
  choice_places = controls program class earlier n m S M

  abbrev late_places : List FreePlace
  late_places = lates program class earlier n m S M

  abbrev mine : Instant → Bits
  mine mem = state program class earlier n m S M mem

  abbrev InShaped : Instant → Type 0
  InShaped mem = Shaped program class earlier n m S M mem

  abbrev Fit : List Value → Instant → Choice → Type 0
  Fit inputs firsts c = SlotsFit tys (slots_of_node program n) (given_with inputs firsts c)

  long_codes : (ps : List FreePlace) (i : Instant) (vs : List Value) (bs : Bits) → values_at ps i ≡ vs → bs ≡ codes_of tys ps vs → codes_at tys ps i ≡ bs
  long_codes ps i vs bs e h = same_codes program class earlier n m S M ps i vs bs e h

  -- the bits of a choice do not look at anything else
  pub own_bits : (inputs : List Value) (others : Instant) (c : Choice) → codes_at tys choice_places (given_with inputs others c) ≡ choice_bits program n c
  own_bits inputs others c =
      long_codes choice_places (given_with inputs others c) (values_at choice_places (given_with [] nothing c)) (choice_bits program n c) (same_choice program earlier n M.is_early S.found S.apart inputs [] others nothing c) (codes_of_values tys choice_places (given_with [] nothing c))

  -- where instants agree at early places, the early bits are the same
  same_firsts : (inputs : List Value) (i j : Instant) (c d : Choice) → ((p : Place) → IsEarly program n p → i p ≡ j p) → codes_at tys first_places (given_with inputs i c) ≡ codes_at tys first_places (given_with inputs j d)
  same_firsts inputs i j c d h =
      long_codes first_places (given_with inputs i c) (values_at first_places (given_with inputs j d)) (codes_at tys first_places (given_with inputs j d))
      (same_values program earlier n M.is_early S.found S.apart inputs i j c d (λ p f t. let e = (M.early_places p f).0 t in plain n inputs i c p e.on_base ∙ h p e ∙ sym (plain n inputs j d p e.on_base)))
      (codes_of_values tys first_places (given_with inputs j d))

  -- an instant beside given early values, for valid late bits
  abbrev Found : Instant → List Value → Instant → Choice → Bits → Type 0
  Found mem inputs firsts c w =
      (others : Instant) × (now : Instant) × IsInstant program earlier n mem inputs firsts c others now × (codes_at tys first_places (given_with inputs others c) ≡ codes_at tys first_places (given_with inputs firsts c))
      × (codes_at tys late_places (given_with inputs others c) ≡ w)

  found : (mem : Instant) (inputs : List Value) (firsts : Instant) (c : Choice) (w : Bits) → InShaped mem → AreWires tys n.inputs inputs → Fit inputs firsts c → IsChoiceOf program n c → AreCodes tys late_places w → Found mem inputs firsts c w
  found mem inputs firsts c w sh vals f is cw =
      let early = M.is_early in
      let known : Instant = given_with inputs firsts c in
      let ws = values_of_codes tys late_places w cw in
      let y = beside program earlier n early S.found S.apart inputs firsts c f ws.0 ws.1 in
      let others = y.0 in
      let root : Instant = given_with inputs others c in
      let e = y.3 c in
      let now = wiring program class earlier n m S M mem inputs others c sh vals is (fits program earlier n early S.found S.apart others c is y.1 y.2) in (
        others,
        now.0,
        record {
          wires = now.1;
          fits =
              slots_fit tys early (slots_of_node program n) root (subst (AreValues tys first_places) (sym e.0) (early_values tys early (slots_of_node program n) known f)) (subst (AreValues tys late_places) (sym e.1) ws.1);
          fills = fills program earlier n early S.found S.apart others c y.1 y.2;
          agrees = λ p k. sym (plain n inputs others c p k.on_base) ∙ early_same early (slots_of_node program n) p root known k.is_free ((M.early_places p k.is_free).1 k) e.0 ∙ plain n inputs firsts c p k.on_base;
        },
        long_codes first_places root (values_at first_places known) (codes_at tys first_places known) e.0 (codes_of_values tys first_places known),
        long_codes late_places root ws.0 w e.1 ws.2,
      )

  -- ---- one instant on the machine

  -- the valuation at which the machine says what an instant does
  abbrev At : Instant → List Value → Instant → Choice → Bits → Bits
  At mem inputs firsts c w = joined (mine mem) (codes_at tys first_places (given_with inputs firsts c)) (choice_bits program n c) w

  -- what both say is the same
  abbrev Alike : Instant → List Value → Instant → Choice → Bits → Instant → Instant → Type 0
  Alike mem inputs firsts c w others now =
      ((game m).hyp (At mem inputs firsts c w) ≡ supposes program earlier n mem inputs c others now)
      × ((game m).duty (At mem inputs firsts c w) ≡ owes program earlier n mem inputs c others now)
      × ((game m).next (At mem inputs firsts c w) ≡ mine (leaves program earlier n mem inputs c others now))

  alike : (mem : Instant) (inputs : List Value) (firsts : Instant) (c : Choice) (w : Bits) (others now : Instant) → IsInstant program earlier n mem inputs firsts c others now → codes_at tys first_places (given_with inputs others c) ≡ codes_at tys first_places (given_with inputs firsts c)
      → codes_at tys late_places (given_with inputs others c) ≡ w → Alike mem inputs firsts c w others now
  alike mem inputs firsts c w others now I e l =
      let root : Instant = given_with inputs others c in
      let here : At mem inputs firsts c w ≡ valuation program n M.is_early mem root =
      sym (ap₂ (λ u w. joined (mine mem) u (codes_at tys choice_places root) w) e l ∙ ap (λ b. joined (mine mem) (codes_at tys first_places (given_with inputs firsts c)) b w) (own_bits inputs others c)) in (
        ap (game m).hyp here ∙ at_hypothesis program class earlier n m S M mem inputs others c now I.wires,
        ap (game m).duty here ∙ at_duty program class earlier n m S M mem inputs others c now I.wires,
        ap (game m).next here ∙ M.next mem inputs others c now I.wires,
      )

  choice_long : (c : Choice) → length (choice_bits program n c) ≡ m.control
  choice_long c = control_long program class earlier n m S M (given_with [] nothing c)

  first_long : (inputs : List Value) (firsts : Instant) (c : Choice) → length (codes_at tys first_places (given_with inputs firsts c)) ≡ m.early
  first_long inputs firsts c = early_long program class earlier n m S M (given_with inputs firsts c)

  -- the bits of a choice are valid beside valid early and late bits
  valid_at : (mem : Instant) (inputs : List Value) (firsts : Instant) (c : Choice) (w : Bits) → Fit inputs firsts c → IsChoiceOf program n c → length w ≡ m.late → AreCodes tys late_places w → IsTrue ((game m).valid (At mem inputs firsts c w))
  valid_at mem inputs firsts c w f is lw cw =
      let known : Instant = given_with inputs firsts c in
      let cs = given_codes program class earlier n m S M inputs firsts c is f in
      coded program class earlier n m S M mem (codes_at tys first_places known) (choice_bits program n c) w (first_long inputs firsts c) (choice_long c) lw
      (cs.0, subst (AreCodes tys choice_places) (own_bits inputs firsts c) cs.1, cw)

  safe_alike : (mem : Instant) (x : Bits) → InShaped mem → x ≡ mine mem → SafeFrom program earlier n mem → SafeOn (game m) x
  safe_alike mem x sh e s = subst (SafeOn (game m)) (sym e) ((same_memory_safe program class earlier n m S M mem sh).0 s)

  alike_safe : (mem : Instant) (x : Bits) → InShaped mem → x ≡ mine mem → SafeOn (game m) x → SafeFrom program earlier n mem
  alike_safe mem x sh e s = (same_memory_safe program class earlier n m S M mem sh).1 (subst (SafeOn (game m)) e s)

  -- ---- what is permitted

  abbrev On : Instant → List Value → Instant → Choice → Type 0
  On mem inputs firsts c = PermittedOn (game m) (mine mem) (codes_at tys first_places (given_with inputs firsts c)) (choice_bits program n c)

  onto : (mem : Instant) (inputs : List Value) (firsts : Instant) (c : Choice) → InShaped mem → AreWires tys n.inputs inputs → Fit inputs firsts c → IsChoiceOf program n c → PermittedFrom program earlier n mem inputs firsts c → On mem inputs firsts c
  onto mem inputs firsts c sh vals f is p =
      let known : Instant = given_with inputs firsts c in
      let w : Bits = codes_at tys late_places known in
      let lw = late_long program class earlier n m S M known in (
        (choice_long c, (w, (lw, valid_at mem inputs firsts c w f is lw (given_codes program class earlier n m S M inputs firsts c is f).2))),
        λ w vl hyp.
            let cs = decoded program class earlier n m S M mem (codes_at tys first_places known) (choice_bits program n c) w (first_long inputs firsts c) (choice_long c) vl.0 vl.1 in
            let y = found mem inputs firsts c w sh vals f is cs.2 in
            let a = alike mem inputs firsts c w y.0 y.1 y.2 y.3 y.4 in
            let q = p y.0 y.1 y.2 (truth_moved (supposes program earlier n mem inputs c y.0 y.1) ((game m).hyp (At mem inputs firsts c w)) (sym a.0) hyp) in (
              truth_moved ((game m).duty (At mem inputs firsts c w)) (owes program earlier n mem inputs c y.0 y.1) a.1 q.0,
              safe_alike (leaves program earlier n mem inputs c y.0 y.1) ((game m).next (At mem inputs firsts c w)) (left_shaped program class earlier n m S M mem inputs y.0 c y.1 y.2.wires) a.2 q.1,
            ),
      )

  back : (mem : Instant) (inputs : List Value) (firsts : Instant) (c : Choice) → InShaped mem → Fit inputs firsts c → IsChoiceOf program n c → On mem inputs firsts c → PermittedFrom program earlier n mem inputs firsts c
  back mem inputs firsts c sh f is p others now I hyp =
      let root : Instant = given_with inputs others c in
      let w : Bits = codes_at tys late_places root in
      let lw = late_long program class earlier n m S M root in
      let cw = (given_codes program class earlier n m S M inputs others c is I.fits).2 in
      let a = alike mem inputs firsts c w others now I (same_firsts inputs others firsts c c I.agrees) refl in
      let q = p.1 w (lw, valid_at mem inputs firsts c w f is lw cw) (truth_moved ((game m).hyp (At mem inputs firsts c w)) (supposes program earlier n mem inputs c others now) a.0 hyp) in (
        truth_moved (owes program earlier n mem inputs c others now) ((game m).duty (At mem inputs firsts c w)) (sym a.1) q.0,
        alike_safe (leaves program earlier n mem inputs c others now) ((game m).next (At mem inputs firsts c w)) (left_shaped program class earlier n m S M mem inputs others c now I.wires) a.2 q.1,
      )

  -- ---- something is permitted

  module _ (form : IsForm (game m)) (mem : Instant) (inputs : List Value) (firsts : Instant) (sh : InShaped mem) (f : (d : Choice) → Fit inputs firsts d) where
    abbrev first_bits : Bits
    first_bits = codes_at tys first_places (given_with inputs firsts (preferred program n))

    -- the early bits are valid, by the preferred choice and the late values that are given with them
    valid_first : ValidEarly (game m) (mine mem) first_bits
    valid_first =
        let c = preferred program n in
        let w : Bits = codes_at tys late_places (given_with inputs firsts c) in
        let lw = late_long program class earlier n m S M (given_with inputs firsts c) in
        (first_long inputs firsts c, (choice_bits program n c, (choice_long c, (w, (lw, valid_at mem inputs firsts c w (f c) S.some_choice lw (given_codes program class earlier n m S M inputs firsts c S.some_choice (f c)).2)))))

    pub permits_some : SafeFrom program earlier n mem → (d : Choice) × IsChoiceOf program n d × PermittedFrom program earlier n mem inputs firsts d
    permits_some s =
        let b = some-permitted (game m) form (mine mem) first_bits (state_long program class earlier n m S M mem) (safe_alike mem (mine mem) sh refl s) valid_first in
        let d = chosen program class earlier n m S M mem first_bits b.0 (first_long inputs firsts (preferred program n)) b.1.0 in
        let e : choice_bits program n d.0 ≡ b.0 = d.2 [] nothing in
        let early = same_firsts inputs firsts firsts (preferred program n) d.0 (λ p e. refl) in
        let p : PermittedOn (game m) (mine mem) first_bits (choice_bits program n d.0) = subst (PermittedOn (game m) (mine mem) first_bits) (sym e) b.1 in
        (d.0, d.1, back mem inputs firsts d.0 sh (f d.0) d.1 (subst (λ u. PermittedOn (game m) (mine mem) u (choice_bits program n d.0)) early p))

  -- ---- what is chosen

  module _ (O : BitsInOrder program n m.prefer) (many : length m.prefer ≡ m.control) (mem : Instant) (inputs : List Value) (firsts : Instant) (sh : InShaped mem) (vals : AreWires tys n.inputs inputs) (f : (d : Choice) → Fit inputs firsts d) where
    abbrev PermittedBits : Choice → Bits → Type 0
    PermittedBits c bs = PermittedOn (game m) (mine mem) (codes_at tys first_places (given_with inputs firsts c)) bs

    -- early bits are the same beside each choice
    beside_any : (c d : Choice) (bs : Bits) → PermittedBits d bs → PermittedBits c bs
    beside_any c d bs p = subst (λ u. PermittedOn (game m) (mine mem) u bs) (same_firsts inputs firsts firsts d c (λ p e. refl)) p

    long : (c : Choice) → length (choice_bits program n c) ≡ length m.prefer
    long c = choice_long c ∙ sym many

    -- permitted bits are those of a permitted choice
    stands : (c : Choice) (bs : Bits) → PermittedBits c bs → (d : Choice) × IsChoiceOf program n d × (choice_bits program n d ≡ bs) × PermittedFrom program earlier n mem inputs firsts d
    stands c bs p =
        let d = chosen program class earlier n m S M mem (codes_at tys first_places (given_with inputs firsts c)) bs (first_long inputs firsts c) p.0 in
        let e : choice_bits program n d.0 ≡ bs = d.2 [] nothing in
        (d.0, d.1, e, back mem inputs firsts d.0 sh (f d.0) d.1 (beside_any d.0 c (choice_bits program n d.0) (subst (PermittedBits c) (sym e) p)))

    chosen_onto : (c : Choice) → IsChoiceOf program n c → IsChosenFrom program earlier n mem inputs firsts c → IsChoice (game m) (mine mem) (codes_at tys first_places (given_with inputs firsts c)) (choice_bits program n c)
    chosen_onto c is ch =
        record {
          len = long c;
          best = λ bs l p.
              let d = stands c bs p in
              let g = ch.greatest d.0 d.1 d.3 in
              (onto mem inputs firsts c sh vals (f c) is g.0, subst (Before m.prefer (choice_bits program n c)) d.2 ((O.order c d.0 is d.1).0 g.1));
          else_prefer = λ no. ap (choice_bits program n) (ch.else_preferred (λ d isd p. no (choice_bits program n d) (long d) (beside_any c d (choice_bits program n d) (onto mem inputs firsts d sh vals (f d) isd p)))) ∙ sym O.first;
        }

    chosen_back : (c : Choice) → IsChoiceOf program n c → IsChoice (game m) (mine mem) (codes_at tys first_places (given_with inputs firsts c)) (choice_bits program n c) → IsChosenFrom program earlier n mem inputs firsts c
    chosen_back c is ch =
        record {
          greatest = λ d isd p.
              let g = ch.best (choice_bits program n d) (long d) (beside_any c d (choice_bits program n d) (onto mem inputs firsts d sh vals (f d) isd p)) in
              (back mem inputs firsts c sh (f c) is g.0, (O.order c d is isd).1 g.1);
          else_preferred = λ no. O.own c (preferred program n) is S.some_choice (ch.else_prefer (λ bs l p. let d = stands c bs p in no d.0 d.1 d.3) ∙ O.first);
        }

pub same_memory_permitted : SameMemoryPermittedLaw
same_memory_permitted program class earlier n m S M mem inputs firsts c sh vals f is = (onto program class earlier n m S M mem inputs firsts c sh vals f is, back program class earlier n m S M mem inputs firsts c sh f is)

pub same_memory_choice : SameMemoryChoiceLaw
same_memory_choice program class earlier n m S M O many mem inputs firsts c sh vals f is = (chosen_onto program class earlier n m S M O many mem inputs firsts sh vals f c is, chosen_back program class earlier n m S M O many mem inputs firsts sh vals f c is)

pub some_memory_choice : SomeMemoryChoiceLaw
some_memory_choice program class earlier n m form S M mem inputs firsts sh f s = permits_some program class earlier n m S M form mem inputs firsts sh f s
