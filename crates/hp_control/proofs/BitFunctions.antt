-- The functions of a controller, one control bit at a time, as functions of valuations.
use Rattle.std.proofs.Common.{◌≡◌, ◌≢◌, ◌↔◌, inl, ℕ, suc, ◌+◌, ◌≤◌, Bool, true, false, IsTrue, List, [], ◌∷◌, length, slice_index_or, Option, Some, None, refl, sym, ap, ap₂, ◌∙◌, arith}
use Rattle.std.specs.Option.{option_map_or}
use Rattle.hp_diagram.specs.declared.reference.Ref.{Ref}
use Rattle.hp_diagram.specs.Diagrams.{Diagrams, function}
use Rattle.hp_quant.specs.Quantifiers.{DifferWithin}
use Rattle.hp_quant.specs.Replacements.{replaced}
use Rattle.hp_boolx.specs.Search.{Bits, Set, some_of}
use Rattle.hp_boolx.specs.Game.{Game, first_bit, preferred}
use Rattle.hp_control.specs.Controlling.{bit_of}
use Rattle.hp_synth.specs.Valued.{Valued, Fun, read, states, earlies, control_from, late_from}
use Rattle.hp_synth.proofs.Ranges.{read-same, exists-search, outside}

-- w is v but for one variable, which is b
abbrev pub Changes : ℕ → Valued → Valued → Bool → Type 0
Changes k w v b = (w k ≡ b) × ((y : ℕ) → y ≢ k → w y ≡ v y)

-- the one variable is replaced
pub replaced-changes : (t : Diagrams) (by : List (Option Ref)) (k : ℕ) (f : Ref) → slice_index_or by k None ≡ Some f → ((y : ℕ) → y ≢ k → slice_index_or by y None ≡ None) → (v : Valued) → Changes k (replaced t by v) v (function t f v)
replaced-changes t by k f at others v = (
  ap (λ o. option_map_or (λ (r : Ref). function t r v) o (v k)) at,
  λ y differ. ap (λ o. option_map_or (λ (r : Ref). function t r v) o (v y)) (others y differ),
)

-- the control bits from k on are still to be chosen, n of them behind k
module _ (g : Game) (k n : ℕ) (from : control_from g ≤ k) (to : late_from g ≡ suc k + n) (P : Fun) (q : Bits → Bits → Set) (is : (v : Valued) → P v ≡ q (states g v) (earlies g v) (read k (suc n) v)) where
  pub some-rest : (s : Fun) → ((v : Valued) → IsTrue (s v) ↔ ((w : Valued) × DifferWithin (suc k) (late_from g) v w × IsTrue (P w))) → (v : Valued) → s v ≡ some_of n (λ c. q (states g v) (earlies g v) (v k ∷ c))
  some-rest s quantified =
      exists-search (suc k) n (late_from g) to P s (λ v c. q (states g v) (earlies g v) (v k ∷ c)) (λ v w d.
      is w
      ∙ (λ i. q (outside g (suc k) (late_from g) v w d 0 g.registers (inl (omega (arith, from))) i) (outside g (suc k) (late_from g) v w d g.registers g.early (inl (omega (arith, from))) i) (sym (d k (inl (omega arith))) i ∷ read (suc k) n w))) quantified

  states-same : (w v : Valued) (b : Bool) → Changes k w v b → states g w ≡ states g v
  states-same w v b c = read-same 0 g.registers w v (λ y l m. c.1 y (λ e. absurd (omega (arith, e, m, from))))

  earlies-same : (w v : Valued) (b : Bool) → Changes k w v b → earlies g w ≡ earlies g v
  earlies-same w v b c = read-same g.registers g.early w v (λ y l m. c.1 y (λ e. absurd (omega (arith, e, m, from))))

  -- with a value put in for the bit
  pub some-with : (s : Fun) → ((v : Valued) → s v ≡ some_of n (λ c. q (states g v) (earlies g v) (v k ∷ c))) → (w v : Valued) (b : Bool) → Changes k w v b → s w ≡ some_of n (λ c. q (states g v) (earlies g v) (b ∷ c))
  some-with s e w v b c = e w ∙ (λ i. some_of n (λ d. q (states-same w v b c i) (earlies-same w v b c i) (c.0 i ∷ d)))

  -- the function of the bit: both sides joined as the preference says
  pub bit-is : (s : Fun) → ((v : Valued) → s v ≡ some_of n (λ c. q (states g v) (earlies g v) (v k ∷ c))) → (b : Bool) (v high low : Valued) → Changes k high v true → Changes k low v false → first_bit b (s high) (s low) ≡ bit_of b n (q (states g v) (earlies g v))
  bit-is s e b v high low h l = ap₂ (first_bit b) (some-with s e high v true h) (some-with s e low v false l)

  -- the function put in the bit's place leaves the rest
  pub narrowed : (w v : Valued) (b : Bool) → Changes k w v b → P w ≡ q (states g v) (earlies g v) (b ∷ read (suc k) n v)
  narrowed w v b c = is w ∙ (λ i. q (states-same w v b c i) (earlies-same w v b c i) (c.0 i ∷ read-same (suc k) n w v (λ y l m. c.1 y (λ e. absurd (omega (arith, e, l)))) i))

-- functions made one by one, each by a step as above, with what is left to choose from behind it
abbrev pub AreMade : Game → Bits → (Bits → Bits → Set) → List Fun → Type 0
AreMade g [] q [] = 0 ≤ 0
AreMade g (b ∷ bs) q (f ∷ fs) = ((v : Valued) → f v ≡ bit_of b (length bs) (q (states g v) (earlies g v))) × AreMade g bs (λ r u c. q r u (bit_of b (length bs) (q r u) ∷ c)) fs
AreMade g bs q fs = ⊥

abbrev pub at_all : List Fun → Valued → Bits
at_all [] v = []
at_all (f ∷ fs) v = f v ∷ at_all fs v

-- they are the bits of the preferred choice
pub made-preferred : (g : Game) (bs : Bits) (q : Bits → Bits → Set) (fs : List Fun) → AreMade g bs q fs → (v : Valued) → at_all fs v ≡ preferred bs (q (states g v) (earlies g v))
made-preferred g [] q [] h v = refl
made-preferred g [] q (f ∷ fs) h v = absurd h
made-preferred g (b ∷ bs) q [] h v = absurd h
made-preferred g (b ∷ bs) q (f ∷ fs) h v = ap₂ (λ a r. a ∷ r) (h.0 v) (made-preferred g bs (λ r u c. q r u (bit_of b (length bs) (q r u) ∷ c)) fs h.1 v)
