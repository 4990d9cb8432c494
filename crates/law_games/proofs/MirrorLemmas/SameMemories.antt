-- A machine that mirrors a node has the game on the node's memories.
use Rattle.std.proofs.Common.{◌≡◌, ℕ, zero, suc, ◌+◌, List, [], ◌∷◌, map, length, refl, sym, ap, ap₂, subst, ◌∙◌, ◌⊎◌, inl, inr, length-append, arith}
use Rattle.std.proofs.Math.Path.{fun_ext}
use Rattle.std.specs.List.{fold}
use Rattle.std.specs.Prelude.{Bool, IsTrue, IsFalse, Option, None, Some, sum, nat_le, ◌-◌, if◌then◌else◌}
use Rattle.hp_base.specs.declared.ty.Ty.{Ty}
use Rattle.hp_base.specs.declared.ty.Ty.TheVariants as ty
use Rattle.hp_base.specs.declared.value.Value.{Value}
use Rattle.hp_tree.specs.declared.program.Item.{Item}
use Rattle.hp_tree.specs.Programs.{TypeDecl, Contract, Node}
use Rattle.hp_tree.specs.Instant.{Inputs, Controls, Place, Instant}
use Rattle.hp_tree.specs.Meaning.{types_of}
use Rattle.hp_meaning.specs.Causal.OneReaction.{OneInstant}
use Rattle.hp_meaning.specs.Causal.Steering.{steered_by}
use Rattle.hp_boolx.specs.Search.{Bits}
use Rattle.hp_boolx.specs.Game.{joined, ValidChoice, ValidLate, Forced as ForcedOn, Safe as SafeOn}
use Rattle.hp_boolx.specs.Machine.{Machine, game}
use Rattle.hp_meaning.specs.Contract.Codes.{code, to_bits, pow2}
use Rattle.hp_meaning.specs.Contract.FreePlaces.{IsFree, IsEarly, by_step, free_in_contract, own_free}
use Rattle.hp_meaning.specs.Contract.Game.{Choice, IsChoiceOf, at_controls, preferred}
use Rattle.hp_meaning.specs.Contract.Memory.{memory, bits_in, number_in}
use Rattle.hp_meaning.specs.Contract.Slots.{Register, FreePlace, width_of, slots_of_node, free_places, registers, zero_at}
use Rattle.law_values.specs.Valued.Values.{Classing}
use Rattle.law_games.specs.Wires.WiredNodes.{wired_node}
use Rattle.law_games.specs.Wires.WiredCallees.{callee_wires}
use Rattle.law_games.proofs.WiresLemmas.DutyWires.{duties}
use Rattle.law_games.proofs.WiresLemmas.OneWiring.{one_wiring}
use Rattle.law_games.specs.Wiretyped.Typed.{AreWires}
use Rattle.law_games.specs.Wiretyped.Laws.{IsRead, InShape, GivenFits}
use Rattle.law_games.proofs.WiretypedLemmas.Programs.{in_shape}
use Rattle.law_games.specs.Mirror.Mirrored.{early_among, controls_among, late_among, type_width, widths_at, codes_at, AreCodes, given_with, read_with, AreWiresOf, valuation, Mirrors}
use Rattle.law_games.specs.Mirror.Memories.{SlotsFit, IsInstant, supposes, owes, leaves, ForcedFrom, IsSettled, SameMemoryAtFirstLaw, SameMemoryGameLaw, SameMemorySafeLaw}
use Rattle.law_games.proofs.MirrorLemmas.SlotLists.{values_at, AreValues, codes_of, codes_of_values, values_of_codes, are_codes, early_values, late_values, slots_fit, early_same}
use Rattle.law_games.proofs.MirrorLemmas.NodeGiven.{given, fits, fills, same_values, choice, choice_values, same_choice}

-- ---- how many bits there are

length_bits : (w k : ℕ) → length (to_bits w k) ≡ w
length_bits zero k = refl
length_bits (suc w) k = ap suc (length_bits w (if nat_le (pow2 w) k then k - pow2 w else k))

length_code : (types : List TypeDecl) (p : FreePlace) (v : Value) → length (code types p.1 v) ≡ type_width types p
length_code types p v = by p.1
  where
    by : (t : Ty) → length (code types t v) ≡ type_width types (p.0, t)
    by ty.Bool = refl
    by ty.Int = refl
    by (ty.Enum t) = length_bits _ _

sum_from : (k : ℕ) (xs : List ℕ) → fold (λ a b. a + b) k xs ≡ k + fold (λ a b. a + b) 0 xs
sum_from k [] = omega arith
sum_from k (x ∷ xs) = let a = sum_from (k + x) xs in let b = sum_from (0 + x) xs in omega arith

sum_more : (x : ℕ) (xs : List ℕ) → sum (x ∷ xs) ≡ x + sum xs
sum_more x xs = let a = sum_from (0 + x) xs in omega arith

length_codes : (types : List TypeDecl) (ps : List FreePlace) (i : Instant) → length (codes_at types ps i) ≡ sum (widths_at types ps)
length_codes types [] i = refl
length_codes types (p ∷ ps) i = length-append (code types p.1 (i p.0)) (codes_at types ps i) ∙ ap₂ (λ a b. a + b) (length_code types p (i p.0)) (length_codes types ps i) ∙ sym (sum_more (type_width types p) (widths_at types ps))

length_registers : (rs : List Register) (mem : Instant) → length (bits_in rs mem) ≡ sum (map (λ r. width_of r.1) rs)
length_registers [] mem = refl
length_registers (r ∷ rs) mem = length-append (to_bits (width_of r.1) (number_in (mem r.0))) (bits_in rs mem) ∙ ap₂ (λ a b. a + b) (length_bits (width_of r.1) (number_in (mem r.0))) (length_registers rs mem) ∙ sym (sum_more (width_of r.1) (map (λ r. width_of r.1) rs))

-- ---- early places are no inputs and no controllable variables

no_input : (o : Option Contract) (q : Place) → by_step (free_in_contract o) (Inputs ∷ q) ≡ Some [] → ⊥
no_input None q e = absurd (cc)
no_input (Some c) q e = absurd (cc)

no_control : (o : Option Contract) (q : Place) → by_step (free_in_contract o) (Controls ∷ q) ≡ Some [] → ⊥
no_control None q e = absurd (cc)
no_control (Some c) q e = absurd (cc)

pub plain : (n : Node) (inputs : List Value) (others : Instant) (c : Choice) (p : Place) → own_free n p ≡ Some [] → given_with inputs others c p ≡ others p
plain n inputs others c [] e = refl
plain n inputs others c (Inputs ∷ q) e = absurd (no_input n.contract q e)
plain n inputs others c (Controls ∷ q) e = absurd (no_control n.contract q e)
plain n inputs others c (s ∷ q) e = refl

-- the same of equal truth values and states
moved : (P : Bits → Type 0) (b d : Bool) (x y : Bits) → b ≡ d → x ≡ y → IsFalse d ⊎ P y → IsFalse b ⊎ P x
moved P b d x y e h (inl f) = inl (e ∙ f)
moved P b d x y e h (inr f) = inr (subst P (sym h) f)

pub truth_moved : (b d : Bool) → b ≡ d → IsTrue d → IsTrue b
truth_moved b d e t = e ∙ t

further : {A B C : Type 0} → (B → C) → A ⊎ B → A ⊎ C
further f (inl a) = inl a
further f (inr b) = inr (f b)

module _ (program : List Item) (class : Classing) (earlier : List Item) (n : Node) (m : Machine) (S : IsSettled program class earlier n) (M : Mirrors program earlier n m) where
  abbrev pub types : List TypeDecl
  types = types_of program

  abbrev pub early : Place → Bool
  early = M.is_early

  abbrev pub earlies : List FreePlace
  earlies = early_among early (slots_of_node program n)

  abbrev pub controls : List FreePlace
  controls = controls_among (slots_of_node program n)

  abbrev pub lates : List FreePlace
  lates = late_among early (slots_of_node program n)

  abbrev pub Shaped : Instant → Type 0
  Shaped mem = InShape types earlier n (zero_at (registers program n)) mem

  abbrev pub state : Instant → Bits
  state mem = bits_in (registers program n) mem

  pub state_long : (mem : Instant) → length (state mem) ≡ m.registers
  state_long mem = length_registers (registers program n) mem ∙ sym M.registers_are

  pub early_long : (i : Instant) → length (codes_at types earlies i) ≡ m.early
  early_long i = length_codes types earlies i ∙ sym M.early_are

  pub control_long : (i : Instant) → length (codes_at types controls i) ≡ m.control
  control_long i = length_codes types controls i ∙ sym (M.control_are ∙ ap sum M.widths)

  pub late_long : (i : Instant) → length (codes_at types lates i) ≡ m.late
  late_long i = length_codes types lates i ∙ sym M.late_are

  -- codes are those of values
  pub same_codes : (ps : List FreePlace) (i : Instant) (vs : List Value) (bs : Bits) → values_at ps i ≡ vs → bs ≡ codes_of types ps vs → codes_at types ps i ≡ bs
  same_codes ps i vs bs e h = codes_of_values types ps i ∙ ap (codes_of types ps) e ∙ sym h

  -- ---- instants

  pub is_read : (mem : Instant) (inputs : List Value) (others : Instant) (c : Choice) (now : Instant) → AreWiresOf program earlier n mem inputs others c now → IsRead types class earlier n inputs (read_with program n mem others c)
  is_read mem inputs others c now w = record { accepted = S.accepted; values = w.values; shape = w.shape; given = w.given }

  pub left_shaped : (mem : Instant) (inputs : List Value) (others : Instant) (c : Choice) (now : Instant) → AreWiresOf program earlier n mem inputs others c now → Shaped (leaves program earlier n mem inputs c others now)
  left_shaped mem inputs others c now w = in_shape types class earlier n inputs (read_with program n mem others c) now (is_read mem inputs others c now w) w.typed

  pub at_hypothesis : (mem : Instant) (inputs : List Value) (others : Instant) (c : Choice) (now : Instant) → AreWiresOf program earlier n mem inputs others c now
      → (game m).hyp (valuation program n early mem (given_with inputs others c)) ≡ supposes program earlier n mem inputs c others now
  at_hypothesis mem inputs others c now w = M.hypothesis mem inputs others c now w ∙ sym (duties types earlier n inputs (read_with program n mem others c) now w.solves).0

  pub at_duty : (mem : Instant) (inputs : List Value) (others : Instant) (c : Choice) (now : Instant) → AreWiresOf program earlier n mem inputs others c now
      → (game m).duty (valuation program n early mem (given_with inputs others c)) ≡ owes program earlier n mem inputs c others now
  at_duty mem inputs others c now w = M.duty mem inputs others c now w ∙ sym (duties types earlier n inputs (read_with program n mem others c) now w.solves).1

  -- the wires there are
  pub wiring : (mem : Instant) (inputs : List Value) (others : Instant) (c : Choice) → Shaped mem → AreWires types n.inputs inputs → IsChoiceOf program n c → GivenFits types earlier n (steered_by others (at_controls c)) → (now : Instant) × AreWiresOf program earlier n mem inputs others c now
  wiring mem inputs others c sh vs is g =
      let u : OneInstant (wired_node types (callee_wires types earlier) n inputs (read_with program n mem others c)) = one_wiring types earlier n inputs (read_with program n mem others c) S.ranked S.ranked_earlier in
      let h : u.now ≡ wired_node types (callee_wires types earlier) n inputs (read_with program n mem others c) u.now = fun_ext u.meets in
      let r : IsRead types class earlier n inputs (read_with program n mem others c) = record { accepted = S.accepted; values = vs; shape = sh; given = g } in
      (u.now, record { shape = sh; values = vs; choice = is; given = g; typed = S.typed inputs (read_with program n mem others c) u.now r h; solves = h })

  -- ---- valid valuations

  abbrev pub Codes : Bits → Bits → Bits → Type 0
  Codes u c w = AreCodes types earlies u × AreCodes types controls c × AreCodes types lates w

  pub decoded : (mem : Instant) (u c w : Bits) → length u ≡ m.early → length c ≡ m.control → length w ≡ m.late → IsTrue ((game m).valid (joined (state mem) u c w)) → Codes u c w
  decoded mem u c w lu lc lw v = (M.valid (state mem) u c w (state_long mem) lu lc lw).0 v

  pub coded : (mem : Instant) (u c w : Bits) → length u ≡ m.early → length c ≡ m.control → length w ≡ m.late → Codes u c w → IsTrue ((game m).valid (joined (state mem) u c w))
  coded mem u c w lu lc lw v = (M.valid (state mem) u c w (state_long mem) lu lc lw).1 v

  -- the codes of what is given
  pub given_codes : (inputs : List Value) (others : Instant) (c : Choice) → IsChoiceOf program n c → SlotsFit types (slots_of_node program n) (given_with inputs others c)
      → Codes (codes_at types earlies (given_with inputs others c)) (codes_at types controls (given_with inputs others c)) (codes_at types lates (given_with inputs others c))
  given_codes inputs others c is f = (
    are_codes types earlies (given_with inputs others c) (early_values types early (slots_of_node program n) (given_with inputs others c) f),
    are_codes types controls (given_with inputs others c) (choice_values program earlier n early S.found S.apart inputs others c is),
    are_codes types lates (given_with inputs others c) (late_values types early (slots_of_node program n) (given_with inputs others c) f),
  )

  -- ---- what is forced from a memory is forced from its bits

  abbrev LosesBy : (Bits → Type 0) → Instant → Bits → Bits → Type 0
  LosesBy P mem u c =
      (w : Bits) × ValidLate (game m) (state mem) u c w × IsTrue ((game m).hyp (joined (state mem) u c w)) × (IsFalse ((game m).duty (joined (state mem) u c w)) ⊎ P ((game m).next (joined (state mem) u c w)))

  -- an instant by which a choice loses is one of the machine
  said : (P : Bits → Type 0) (mem : Instant) (inputs : List Value) (firsts : Instant) (c : Choice) (others now : Instant) → IsInstant program earlier n mem inputs firsts c others now → IsTrue (supposes program earlier n mem inputs c others now)
      → IsFalse (owes program earlier n mem inputs c others now) ⊎ P (state (leaves program earlier n mem inputs c others now)) → LosesBy P mem (codes_at types earlies (given_with inputs others c)) (codes_at types controls (given_with inputs others c))
  said P mem inputs firsts c others now I hyp d =
      let root : Instant = given_with inputs others c in (
        codes_at types lates root,
        (late_long root, coded mem (codes_at types earlies root) (codes_at types controls root) (codes_at types lates root) (early_long root) (control_long root) (late_long root) (given_codes inputs others c I.wires.choice I.fits)),
        truth_moved ((game m).hyp (valuation program n M.is_early mem root)) (supposes program earlier n mem inputs c others now) (at_hypothesis mem inputs others c now I.wires) hyp,
        moved P ((game m).duty (valuation program n M.is_early mem root)) (owes program earlier n mem inputs c others now) ((game m).next (valuation program n M.is_early mem root)) (state (leaves program earlier n mem inputs c others now))
            (at_duty mem inputs others c now I.wires) (M.next mem inputs others c now I.wires) d,
      )

  -- a place that is early has the value that is given early
  early_is : (inputs : List Value) (firsts : Instant) (c d : Choice) (i j : Instant) → ((p : Place) → IsEarly program n p → i p ≡ firsts p) → ((p : Place) → IsEarly program n p → j p ≡ firsts p)
      → (p : Place) → IsFree (free_places program n) p → IsTrue (M.is_early p) → given_with inputs i c p ≡ given_with inputs j d p
  early_is inputs firsts c d i j hi hj p f t =
      let e = (M.early_places p f).0 t in
      plain n inputs i c p e.on_base ∙ hi p e ∙ sym (hj p e) ∙ sym (plain n inputs j d p e.on_base)

  -- the choice of valid bits
  pub chosen : (mem : Instant) (u c : Bits) → length u ≡ m.early → ValidChoice (game m) (state mem) u c
      → (d : Choice) × IsChoiceOf program n d × ((inputs : List Value) (others : Instant) → codes_at types controls (given_with inputs others d) ≡ c)
  chosen mem u c lu vc =
      let cs = decoded mem u c vc.1.0 lu vc.0 vc.1.1.0 vc.1.1.1 in
      let vs = values_of_codes types controls c cs.1 in
      let d = choice program earlier n M.is_early S.found S.apart S.some_choice vs.0 vs.1 in
      (d.0, d.1, λ inputs others. same_codes controls (given_with inputs others d.0) vs.0 c (d.2 inputs others) vs.2)

  -- the early codes of two instants of the game are the same
  same_early_codes : (mem : Instant) (inputs : List Value) (firsts : Instant) (c d : Choice) (i j now next : Instant) → IsInstant program earlier n mem inputs firsts c i now → IsInstant program earlier n mem inputs firsts d j next
      → codes_at types earlies (given_with inputs j d) ≡ codes_at types earlies (given_with inputs i c)
  same_early_codes mem inputs firsts c d i j now next I J =
      same_codes earlies (given_with inputs j d) (values_at earlies (given_with inputs i c)) (codes_at types earlies (given_with inputs i c))
      (same_values program earlier n M.is_early S.found S.apart inputs j i d c (early_is inputs firsts d c j i J.agrees I.agrees)) (codes_of_values types earlies (given_with inputs i c))

  onto : (k : ℕ) (mem : Instant) → ForcedFrom program earlier n k mem → ForcedOn (game m) k (state mem)
  onto zero mem f = absurd f
  onto (suc k) mem f =
      let inputs = f.0 in
      let some = preferred program n in
      let x = f.2 some S.some_choice in
      let root : Instant = given_with inputs x.0 some in
      let cs = given_codes inputs x.0 some S.some_choice x.2.fits in (
        codes_at types earlies root,
        (
          early_long root,
          (
            codes_at types controls root,
            (
              control_long root,
              (
                codes_at types lates root,
                (late_long root, coded mem (codes_at types earlies root) (codes_at types controls root) (codes_at types lates root) (early_long root) (control_long root) (late_long root) cs),
              ),
            ),
          ),
        ),
        λ c vc.
            let d = chosen mem (codes_at types earlies root) c (early_long root) vc in
            let y = f.2 d.0 d.1 in
            subst (λ c. LosesBy (ForcedOn (game m) k) mem (codes_at types earlies root) c) (d.2 inputs y.0)
            (subst (λ u. LosesBy (ForcedOn (game m) k) mem u (codes_at types controls (given_with inputs y.0 d.0))) (same_early_codes mem inputs f.1 some d.0 x.0 y.0 x.1 y.1 x.2 y.2)
            (said (ForcedOn (game m) k) mem inputs f.1 d.0 y.0 y.1 y.2 y.3 (further (onto k (leaves program earlier n mem inputs d.0 y.0 y.1)) y.4))),
      )

  -- ---- and the other way

  -- what is meant by valid early bits: inputs and early values, beside which there are late values for all valid late bits
  abbrev Meant : Instant → Bits → List Value → Instant → Type 0
  Meant mem u inputs firsts =
      AreWires types n.inputs inputs
      × ((d : Choice) → IsChoiceOf program n d → (w : Bits) → AreCodes types lates w
      → (others : Instant) × (now : Instant) × IsInstant program earlier n mem inputs firsts d others now × (codes_at types earlies (given_with inputs others d) ≡ u) × (codes_at types lates (given_with inputs others d) ≡ w))

  meant : (mem : Instant) (u w : Bits) → Shaped mem → AreCodes types earlies u → AreCodes types lates w → (inputs : List Value) × (firsts : Instant) × Meant mem u inputs firsts
  meant mem u w sh cu cw =
      let early = M.is_early in
      let vs = values_of_codes types earlies u cu in
      let g = given program earlier n early S.found S.apart vs.0 vs.1 in
      let inputs = g.0 in
      let ws = values_of_codes types lates w cw in
      let first = g.2 ws.0 ws.1 in (
        inputs,
        first.0,
        (
          g.1,
          λ d is w cw.
              let ws = values_of_codes types lates w cw in
              let y = g.2 ws.0 ws.1 in
              let others = y.0 in
              let root : Instant = given_with inputs others d in
              let e = y.3 d in
              let now = wiring mem inputs others d sh g.1 is (fits program earlier n early S.found S.apart others d is y.1 y.2) in (
                others,
                now.0,
                record {
                  wires = now.1;
                  fits = slots_fit types early (slots_of_node program n) root (subst (AreValues types earlies) (sym e.0) vs.1) (subst (AreValues types lates) (sym e.1) ws.1);
                  fills = fills program earlier n early S.found S.apart others d y.1 y.2;
                  agrees = λ p k.
                      sym (plain n inputs others d p k.on_base)
                      ∙ early_same early (slots_of_node program n) p root (given_with inputs first.0 d) k.is_free ((M.early_places p k.is_free).1 k) (e.0 ∙ sym (first.3 d).0)
                      ∙ plain n inputs first.0 d p k.on_base;
                },
                same_codes earlies root vs.0 u e.0 vs.2,
                same_codes lates root ws.0 w e.1 ws.2,
              ),
        ),
      )

  -- a choice that loses on the machine has an instant by which it loses
  answered : (k : ℕ) (mem : Instant) (u : Bits) (inputs : List Value) (firsts : Instant) (d : Choice) → length u ≡ m.early → Shaped mem → Meant mem u inputs firsts → IsChoiceOf program n d
      → ((later : Instant) → Shaped later → ForcedOn (game m) k (state later) → ForcedFrom program earlier n k later)
      → LosesBy (ForcedOn (game m) k) mem u (codes_at types controls (given_with inputs firsts d))
      → (others : Instant) × (now : Instant) × IsInstant program earlier n mem inputs firsts d others now × IsTrue (supposes program earlier n mem inputs d others now)
      × (IsFalse (owes program earlier n mem inputs d others now) ⊎ ForcedFrom program earlier n k (leaves program earlier n mem inputs d others now))
  answered k mem u inputs firsts d lu sh reply isd back f =
      let w : Bits = f.0 in
      let c : Bits = codes_at types controls (given_with inputs firsts d) in
      let cs = decoded mem u c w lu (control_long (given_with inputs firsts d)) f.1.0 f.1.1 in
      let y = reply.1 d isd w cs.2 in
      let others : Instant = y.0 in
      let now : Instant = y.1 in
      let root : Instant = given_with inputs others d in
      let same : codes_at types controls root ≡ c = same_codes controls root (values_at controls (given_with inputs firsts d)) c (same_choice program earlier n M.is_early S.found S.apart inputs inputs others firsts d) (codes_of_values types controls (given_with inputs firsts d)) in
      let here : valuation program n M.is_early mem root ≡ joined (state mem) u c w = ap₂ (λ u w. joined (state mem) u (codes_at types controls root) w) y.3 y.4 ∙ ap (λ c. joined (state mem) u c w) same in
      let left : Instant = leaves program earlier n mem inputs d others now in
      let lost : IsFalse (owes program earlier n mem inputs d others now) ⊎ ForcedOn (game m) k (state left) =
      moved (ForcedOn (game m) k) (owes program earlier n mem inputs d others now) ((game m).duty (joined (state mem) u c w)) (state left) ((game m).next (joined (state mem) u c w))
      (sym (at_duty mem inputs others d now y.2.wires) ∙ ap (game m).duty here) (sym (M.next mem inputs others d now y.2.wires) ∙ ap (game m).next here) f.3 in (
        others,
        now,
        y.2,
        truth_moved (supposes program earlier n mem inputs d others now) ((game m).hyp (joined (state mem) u c w)) (sym (at_hypothesis mem inputs others d now y.2.wires) ∙ ap (game m).hyp here) f.2,
        further (back left (left_shaped mem inputs others d now y.2.wires)) lost,
      )

  back : (k : ℕ) (mem : Instant) → Shaped mem → ForcedOn (game m) k (state mem) → ForcedFrom program earlier n k mem
  back zero mem sh f = absurd f
  back (suc k) mem sh f =
      let u : Bits = f.0 in
      let lu = f.1.0 in
      let w : Bits = f.1.1.1.1.0 in
      let lw = f.1.1.1.1.1.0 in
      let cs = decoded mem u f.1.1.0 w lu f.1.1.1.0 lw f.1.1.1.1.1.1 in
      let x = meant mem u w sh cs.0 cs.2 in (
        x.0,
        x.1,
        λ d isd.
            let root : Instant = given_with x.0 x.1 d in
            let c : Bits = codes_at types controls root in
            answered k mem u x.0 x.1 d lu sh x.2 isd (λ later s f. back k later s f)
            (f.2 c (control_long root, (w, (lw, coded mem u c w lu (control_long root) lw (cs.0, are_codes types controls root (choice_values program earlier n M.is_early S.found S.apart x.0 x.1 d isd), cs.2))))),
      )

pub same_memory_game : SameMemoryGameLaw
same_memory_game program class earlier n m S M k mem sh = (onto program class earlier n m S M k mem, back program class earlier n m S M k mem sh)

pub same_memory_safe : SameMemorySafeLaw
same_memory_safe program class earlier n m S M mem sh = ((λ s k f. s k (back program class earlier n m S M k mem sh f)), (λ s k f. s k (onto program class earlier n m S M k mem f)))

pub same_memory_at_first : SameMemoryAtFirstLaw
same_memory_at_first program class earlier n m S M sh =
    let s = same_memory_safe program class earlier n m S M (memory program n []) sh in
    ((λ p. subst (SafeOn (game m)) (sym M.init) (s.0 p)), (λ p. s.1 (subst (SafeOn (game m)) M.init p)))
