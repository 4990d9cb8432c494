-- From the words of `resume` to their form.
use Rattle.std.proofs.Common.{◌≡◌, ℕ, List, [], ◌∷◌, MatchOption, Option, None, Some, codes, sym, subst, ◌∙◌, arith, length, get_or, map}
use Rattle.std.specs.Borrow.{Bor}
use Rattle.hp_arguments.specs.Words.{IsArgument}
use Rattle.hp_driver.specs.Command.{IsResumeOf, IsSegmentOf, IsSaveOf, IsNoSegment}
use Rattle.hp_driver.specs.Commanded.{AreBoth, SpellsSegment}
use Rattle.hp_driver.specs.declared.words.Segment.{Segment}

-- a list of five items
pub five : {X Y : Type 0} (f : X → Y) (xs : List X) (a b d e g : X) → length xs ≡ 5 → a ≡ get_or xs 0 a → b ≡ get_or xs 1 b → d ≡ get_or xs 2 d → e ≡ get_or xs 3 e → g ≡ get_or xs 4 g →
    map f xs ≡ f a ∷ f b ∷ f d ∷ f e ∷ f g ∷ []
five f [] a b d e g h p q r s t = absurd (omega (arith, h))
five f (x ∷ []) a b d e g h p q r s t = absurd (omega (arith, h))
five f (x ∷ y ∷ []) a b d e g h p q r s t = absurd (omega (arith, h))
five f (x ∷ y ∷ z ∷ []) a b d e g h p q r s t = absurd (omega (arith, h))
five f (x ∷ y ∷ z ∷ u ∷ []) a b d e g h p q r s t = absurd (omega (arith, h))
five f (x ∷ y ∷ z ∷ u ∷ v ∷ []) a b d e g h p q r s t = λ i. f (sym p i) ∷ f (sym q i) ∷ f (sym r i) ∷ f (sym s i) ∷ f (sym t i) ∷ []
five f (x ∷ y ∷ z ∷ u ∷ v ∷ w ∷ xs) a b d e g h p q r s t = absurd (omega (arith, h))

same_four : (x a b c d e f g h : List ℕ) → x ∷ a ∷ b ∷ c ∷ d ∷ [] ≡ x ∷ e ∷ f ∷ g ∷ h ∷ [] → (a ≡ e) × (b ≡ f) × (c ≡ g) × (d ≡ h)
same_four x a b c d e f g h k = (cc, cc, cc, cc)

module _ (words : List (List ℕ)) (f s t u : List ℕ) (are : words ≡ codes "resume" ∷ f ∷ s ∷ t ∷ u ∷ []) where
  parts : (file node mem out : List ℕ) → IsResumeOf words file node mem out → (file ≡ f) × (node ≡ s) × (mem ≡ t) × (out ≡ u)
  parts file node mem out w = same_four (codes "resume") file node mem out f s t u (sym w.spelled ∙ are)

  -- the first two are no arguments, or the last two
  pub no_source : (found : Option (Bor (List ℕ) × Bor (List ℕ))) → found ≡ None → AreBoth f s found → (file node mem out : List ℕ) → IsResumeOf words file node mem out → ⊥
  no_source None e none file node mem out w = let h = parts file node mem out w in none (subst IsArgument h.0 w.file_is_argument) (subst IsArgument h.1 w.node_is_argument)
  no_source (Some both) e are_both file node mem out w = absurd cc

  pub no_files : (found : Option (Bor (List ℕ) × Bor (List ℕ))) → found ≡ None → AreBoth t u found → (file node mem out : List ℕ) → IsResumeOf words file node mem out → ⊥
  no_files None e none file node mem out w = let h = parts file node mem out w in none (subst IsArgument h.2 w.mem_is_argument) (subst IsArgument h.3 w.out_is_argument)
  no_files (Some both) e are_both file node mem out w = absurd cc

  -- all four are
  pub is_resume : (file node mem out : List ℕ) → (file ≡ f) × (node ≡ s) × IsArgument f × IsArgument s → (mem ≡ t) × (out ≡ u) × IsArgument t × IsArgument u → IsResumeOf words file node mem out
  is_resume file node mem out h k = record {
    spelled = are ∙ (λ i. codes "resume" ∷ sym h.0 i ∷ sym h.1 i ∷ sym k.0 i ∷ sym k.1 i ∷ []);
    file_is_argument = subst IsArgument (sym h.0) h.2;
    node_is_argument = subst IsArgument (sym h.1) h.3;
    mem_is_argument = subst IsArgument (sym k.0) k.2;
    out_is_argument = subst IsArgument (sym k.1) k.3;
  }

-- neither of the two
pub no_segment : (words : List (List ℕ)) → ((file node out : List ℕ) → IsSaveOf words file node out → ⊥) → ((file node mem out : List ℕ) → IsResumeOf words file node mem out → ⊥) → IsNoSegment words
no_segment words f g file node from out (IsSegmentOf.to_save w) = f file node out w
no_segment words f g file node from out (IsSegmentOf.to_resume {mem = m} w) = g file node m out w

pub found_segment : (words : List (List ℕ)) (found : Option Segment) → ((file node out : List ℕ) → IsSaveOf words file node out → ⊥) →
    MatchOption found ((file node mem out : List ℕ) → IsResumeOf words file node mem out → ⊥) (λ s. SpellsSegment words s) → MatchOption found (IsNoSegment words) (λ s. SpellsSegment words s)
found_segment words None f g = no_segment words f g
found_segment words (Some s) f g = g
