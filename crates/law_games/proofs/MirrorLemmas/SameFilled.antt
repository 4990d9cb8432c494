-- The game on histories without Nil is the game on the memories that they leave, so it is that on a machine that mirrors the node.
use Rattle.std.proofs.Common.{◌≡◌, ℕ, zero, suc, List, [], ◌∷◌, sym, ap, subst, ◌∙◌, ◌⊎◌, inl, inr}
use Rattle.std.proofs.Math.Path.{fun_ext}
use Rattle.std.specs.Prelude.{IsTrue, IsFalse}
use Rattle.hp_base.specs.declared.value.Value.{Value}
use Rattle.hp_tree.specs.declared.program.Item.{Item}
use Rattle.hp_tree.specs.Programs.{TypeDecl, Node}
use Rattle.hp_tree.specs.Instant.{Instant, Past}
use Rattle.hp_tree.specs.Meaning.{types_of}
use Rattle.hp_meaning.specs.Causal.OneReaction.{OneInstant}
use Rattle.hp_meaning.specs.Causal.Steering.{steered_by}
use Rattle.hp_boolx.specs.Game.{Forced as ForcedOn}
use Rattle.hp_boolx.specs.Machine.{Machine, game}
use Rattle.hp_meaning.specs.Contract.Duties.{hypothesis, duty}
use Rattle.hp_meaning.specs.Contract.Game.{Choice, IsChoiceOf, at_controls}
use Rattle.hp_meaning.specs.Contract.Memory.{memory, bits_in}
use Rattle.hp_meaning.specs.Contract.Slots.{registers, zero_at}
use Rattle.law_values.specs.Valued.Values.{Classing}
use Rattle.law_games.specs.Wires.WiredNodes.{remembers_in}
use Rattle.law_games.specs.Wires.WiredCallees.{callee_wires}
use Rattle.law_games.specs.Wires.Laws.{instant_of}
use Rattle.law_games.proofs.WiresLemmas.Instants.{next_instant, next_registers}
use Rattle.law_games.specs.Wiretyped.Laws.{InShape}
use Rattle.law_games.proofs.WiretypedLemmas.Programs.{wiring as is_wiring}
use Rattle.law_games.proofs.WiretypedLemmas.SameMemory.{memory_same}
use Rattle.law_games.specs.Mirror.Mirrored.{read_with, Mirrors}
use Rattle.law_games.specs.Mirror.Memories.{IsInstant, leaves, ForcedFrom, IsSettled}
use Rattle.law_games.specs.Mirror.FilledHistories.{filled_instant, IsFilled, AllFilled, FilledForced, SameFilledGameLaw, SameFilledSafeLaw}
use Rattle.law_games.proofs.MirrorLemmas.FilledOne.{filled_one}
use Rattle.law_games.proofs.MirrorLemmas.SameMemories.{is_read, wiring, same_memory_game}

-- the same of equal truth values
moved : {A B : Type 0} → (A → B) → (X : Type 0) → X ⊎ A → X ⊎ B
moved f X (inl x) = inl x
moved f X (inr a) = inr (f a)

module _ (program : List Item) (class : Classing) (earlier : List Item) (n : Node) (m : Machine) (S : IsSettled program class earlier n) (M : Mirrors program earlier n m) where
  abbrev types : List TypeDecl
  types = types_of program

  abbrev start : Instant
  start = zero_at (registers program n)

  -- what a history leaves
  abbrev pub left : Past → Instant
  left h = remembers_in types (callee_wires types earlier) n start h

  abbrev pub Shaped : Instant → Type 0
  Shaped mem = InShape types earlier n start mem

  -- what is shown of wires
  abbrev pub shown : Past → List Value → Instant → Choice → Instant → Instant
  shown h inputs others c W = instant_of types earlier n inputs (read_with program n (left h) others c) W

  -- ---- wires after a history

  -- What is shown of them is an instant after it, and the memory behind them is what the longer history leaves.
  pub record Goes (h : Past) (inputs : List Value) (others : Instant) (c : Choice) (W : Instant) : Type 0 where
    pub meets : shown h inputs others c W ≡ filled_instant program earlier n inputs h (steered_by others (at_controls c)) (shown h inputs others c W)
    pub leaves_it : left (shown h inputs others c W ∷ h) ≡ leaves program earlier n (left h) inputs c others W
    pub shaped : Shaped (left (shown h inputs others c W ∷ h))

  pub goes : (h : Past) (inputs : List Value) (early : Instant) (others : Instant) (c : Choice) (W : Instant) → IsInstant program earlier n (left h) inputs early c others W → Goes h inputs others c W
  goes h inputs early others c W I =
      let w = is_wiring types class earlier n inputs start (steered_by others (at_controls c)) h W (is_read program class earlier n m S M (left h) inputs others c W I.wires) I.wires.typed I.fills I.wires.solves in
      record {
        meets = next_instant types earlier n inputs start (steered_by others (at_controls c)) h W w.0;
        leaves_it = next_registers types earlier n inputs start (steered_by others (at_controls c)) h W w.0;
        shaped = w.1;
      }

  -- the wires of an instant
  abbrev pub Wires : Past → List Value → Instant → Choice → Instant → Instant → Type 0
  Wires h inputs early c others now =
      (W : Instant) × IsInstant program earlier n (left h) inputs early c others W × (shown h inputs others c W ≡ now)

  pub wires_of : (h : Past) (inputs : List Value) (early : Instant) (c : Choice) (now : Instant) → Shaped (left h) → IsChoiceOf program n c → (x : IsFilled program earlier n h inputs early c now) → Wires h inputs early c x.others now
  wires_of h inputs early c now sh is x =
      let w = wiring program class earlier n m S M (left h) inputs x.others c sh x.values is x.given in
      let I : IsInstant program earlier n (left h) inputs early c x.others w.0 = record { wires = w.1; fits = x.fits; fills = x.fills; agrees = x.agrees } in
      let g = goes h inputs early x.others c w.0 I in
      let u : OneInstant (filled_instant program earlier n inputs h (steered_by x.others (at_controls c))) = filled_one types earlier S.ranked_earlier n S.ranked inputs (record { past = h; free = steered_by x.others (at_controls c) }) in
      (w.0, I, fun_ext (λ p. u.only (shown h inputs x.others c w.0) (λ p. ap (λ i. i p) g.meets) p ∙ sym (u.only now x.meets p)))

  -- ---- what is forced

  onto : (k : ℕ) (h : Past) → Shaped (left h) → FilledForced program earlier n k h → ForcedFrom program earlier n k (left h)
  onto zero h sh f = absurd f
  onto (suc k) h sh f = (
    f.0,
    f.1,
    λ c is.
        let g = f.2 c is in
        let x = g.1 in
        let w = wires_of h f.0 f.1 c g.0 sh is x in
        let o = goes h f.0 f.1 x.others c w.0 w.1 in
        let later : FilledForced program earlier n k (g.0 ∷ h) → ForcedFrom program earlier n k (leaves program earlier n (left h) f.0 c x.others w.0) =
        λ a. subst (λ mem. ForcedFrom program earlier n k mem) (sym (ap (λ i. left (i ∷ h)) w.2) ∙ o.leaves_it) (onto k (g.0 ∷ h) (subst (λ i. Shaped (left (i ∷ h))) w.2 o.shaped) a) in (
          x.others,
          w.0,
          w.1,
          subst (λ i. IsTrue (hypothesis n i)) (sym w.2) g.2,
          moved later (IsFalse (duty n (shown h f.0 x.others c w.0))) (subst (λ i. IsFalse (duty n i) ⊎ FilledForced program earlier n k (g.0 ∷ h)) (sym w.2) g.3),
        ),
  )

  back : (k : ℕ) (h : Past) → ForcedFrom program earlier n k (left h) → FilledForced program earlier n k h
  back zero h f = absurd f
  back (suc k) h f = (
    f.0,
    f.1,
    λ c is.
        let g = f.2 c is in
        let others = g.0 in
        let W = g.1 in
        let I = g.2 in
        let o = goes h f.0 f.1 others c W I in
        let later : ForcedFrom program earlier n k (leaves program earlier n (left h) f.0 c others W) → FilledForced program earlier n k (shown h f.0 others c W ∷ h) =
        λ a. back k (shown h f.0 others c W ∷ h) (subst (λ mem. ForcedFrom program earlier n k mem) (sym o.leaves_it) a) in (
          shown h f.0 others c W,
          record { others = others; values = I.wires.values; given = I.wires.given; fits = I.fits; fills = I.fills; agrees = I.agrees; meets = λ p. ap (λ i. i p) o.meets },
          g.3,
          moved later (IsFalse (duty n (shown h f.0 others c W))) g.4,
        ),
  )

  -- ---- the memory of contracts

  pub memory_is : (h : Past) → left h ≡ memory program n h
  memory_is h = memory_same program class earlier n start h S.accepted S.found

  -- histories leave registers in shape
  pub all_shaped : Shaped (memory program n []) → (h : Past) → AllFilled program earlier n h → Shaped (left h)
  all_shaped first [] a = subst Shaped (sym (memory_is [])) first
  all_shaped first (now ∷ h) a =
      let sh = all_shaped first h a.0 in
      let x = a.1.4 in
      let w = wires_of h a.1.0 a.1.1 a.1.2 now sh a.1.3 x in
      subst (λ i. Shaped (left (i ∷ h))) w.2 (goes h a.1.0 a.1.1 x.others a.1.2 w.0 w.1).shaped

pub same_filled_game : SameFilledGameLaw
same_filled_game program class earlier n m S M first k h a =
    let sh = all_shaped program class earlier n m S M first h a in
    let e = memory_is program class earlier n m S M h in
    let g = same_memory_game program class earlier n m S M k (left program class earlier n m S M h) sh in (
      (λ f. subst (λ mem. ForcedOn (game m) k (bits_in (registers program n) mem)) e (g.0 (onto program class earlier n m S M k h sh f))),
      (λ f. back program class earlier n m S M k h (g.1 (subst (λ mem. ForcedOn (game m) k (bits_in (registers program n) mem)) (sym e) f))),
    )

pub same_filled_safe : SameFilledSafeLaw
same_filled_safe program class earlier n m S M first = (
  (λ s k f. s k ((same_filled_game program class earlier n m S M first k [] tt).1 (subst (ForcedOn (game m) k) M.init f))),
  (λ s k f. s k (subst (ForcedOn (game m) k) (sym M.init) ((same_filled_game program class earlier n m S M first k [] tt).0 f))),
)
