-- The phrases of the levels, and what is of a level is of each looser one.
use Rattle.std.proofs.Common.{◌≡◌, ℕ, zero, suc, ◌+◌, ◌-◌, ◌<◌, ◌≤◌, false, List, Some, nat_lt, refl, sym, ap, subst, ◌∙◌, inr, arith}
use Rattle.std.proofs.lemmas.Bool.Decides.{nat_tests}
use Rattle.hp_parser.specs.Lexemes.{Lexeme}
use Rattle.hp_parser.specs.Notation.{Measured}
use Rattle.hp_parser.specs.Relation.{Phrase, Suffixes, Suffix, relation}
use Rattle.hp_parser.specs.Grammar.{expression, arrowed, sampled, delayed, implication, disjunction, conjunction, comparison, sum, product, unary, atom}
use Rattle.hp_parser.specs.Programs.{expressions}
use Rattle.hp_parser.specs.declared.mode.Mode.{Mode}
use Rattle.hp_print.specs.Levels.{rank, is_looser}
use Rattle.hp_print.specs.declared.level.Level.{Level}
use Rattle.hp_print.specs.declared.level.Level.TheVariants.{Conditional, Arrow, Sample, Delay, Implication, Disjunction, Conjunction, Comparison, Sum, Product, Unary, Atom}

-- the phrase of a level where n + 1 levels of an expression are left
abbrev pub phrase_at : Mode → ℕ → Level → Phrase Measured
phrase_at mode n Conditional = expression relation mode (Some (suc n)) (expressions relation Some mode n)
phrase_at mode n Arrow = arrowed relation mode (Some (suc n)) (expressions relation Some mode n)
phrase_at mode n Sample = sampled relation mode (Some (suc n)) (expressions relation Some mode n)
phrase_at mode n Delay = delayed relation mode (Some (suc n)) (expressions relation Some mode n)
phrase_at mode n Implication = implication relation mode (Some (suc n)) (expressions relation Some mode n)
phrase_at mode n Disjunction = disjunction relation mode (Some (suc n)) (expressions relation Some mode n)
phrase_at mode n Conjunction = conjunction relation mode (Some (suc n)) (expressions relation Some mode n)
phrase_at mode n Comparison = comparison relation mode (Some (suc n)) (expressions relation Some mode n)
phrase_at mode n Sum = sum relation mode (Some (suc n)) (expressions relation Some mode n)
phrase_at mode n Product = product relation mode (Some (suc n)) (expressions relation Some mode n)
phrase_at mode n Unary = unary relation mode (Some (suc n)) (expressions relation Some mode n)
phrase_at mode n Atom = atom relation mode (Some (suc n)) (expressions relation Some mode n)

abbrev looser : Level → Level
looser Conditional = Conditional
looser Arrow = Conditional
looser Sample = Arrow
looser Delay = Sample
looser Implication = Delay
looser Disjunction = Implication
looser Conjunction = Disjunction
looser Comparison = Conjunction
looser Sum = Comparison
looser Product = Sum
looser Unary = Product
looser Atom = Unary

rank-looser : (l : Level) → 0 < rank l → rank (looser l) ≡ rank l - 1
rank-looser Conditional h = absurd (omega (arith, h))
rank-looser Arrow h = refl
rank-looser Sample h = refl
rank-looser Delay h = refl
rank-looser Implication h = refl
rank-looser Disjunction h = refl
rank-looser Conjunction h = refl
rank-looser Comparison h = refl
rank-looser Sum h = refl
rank-looser Product h = refl
rank-looser Unary h = refl
rank-looser Atom h = refl

abbrev level_no : ℕ → Level
level_no zero = Conditional
level_no (suc zero) = Arrow
level_no (suc (suc zero)) = Sample
level_no (suc (suc (suc zero))) = Delay
level_no (suc (suc (suc (suc zero)))) = Implication
level_no (suc (suc (suc (suc (suc zero))))) = Disjunction
level_no (suc (suc (suc (suc (suc (suc zero)))))) = Conjunction
level_no (suc (suc (suc (suc (suc (suc (suc zero))))))) = Comparison
level_no (suc (suc (suc (suc (suc (suc (suc (suc zero)))))))) = Sum
level_no (suc (suc (suc (suc (suc (suc (suc (suc (suc zero))))))))) = Product
level_no (suc (suc (suc (suc (suc (suc (suc (suc (suc (suc zero)))))))))) = Unary
level_no (suc (suc (suc (suc (suc (suc (suc (suc (suc (suc (suc zero))))))))))) = Atom
level_no n = Atom

level-no : (l : Level) → level_no (rank l) ≡ l
level-no Conditional = refl
level-no Arrow = refl
level-no Sample = refl
level-no Delay = refl
level-no Implication = refl
level-no Disjunction = refl
level-no Conjunction = refl
level-no Comparison = refl
level-no Sum = refl
level-no Product = refl
level-no Unary = refl
level-no Atom = refl

module _ (mode : Mode) (n : ℕ) where
  up : (l : Level) (us : List Lexeme) (m : Measured) → phrase_at mode n l us m → phrase_at mode n (looser l) us m
  up Conditional us m p = p
  up Arrow us m p = inr p
  up Sample us m p = Suffix.none p
  up Delay us m p = Suffixes.none p
  up Implication us m p = Suffix.none p
  up Disjunction us m p = Suffix.none p
  up Conjunction us m p = Suffixes.none p
  up Comparison us m p = Suffixes.none p
  up Sum us m p = Suffix.none p
  up Product us m p = Suffixes.none p
  up Unary us m p = Suffixes.none p
  up Atom us m p = inr p

  steps : (k : ℕ) (own wanted : Level) → rank own ≡ k + rank wanted → (us : List Lexeme) (m : Measured) → phrase_at mode n own us m → phrase_at mode n wanted us m
  steps zero own wanted e us m p =
      let same : own ≡ wanted = sym (level-no own) ∙ ap level_no (omega (arith, e)) ∙ level-no wanted in
      subst (λ l. phrase_at mode n l us m) same p
  steps (suc k) own wanted e us m p =
      let lower : rank (looser own) ≡ k + rank wanted = rank-looser own (omega (arith, e)) ∙ omega (arith, e) in
      steps k (looser own) wanted lower us m (up own us m p)

  pub climb : (own wanted : Level) → is_looser own wanted ≡ false → (us : List Lexeme) (m : Measured) → phrase_at mode n own us m → phrase_at mode n wanted us m
  climb own wanted h us m p =
      let le : rank wanted ≤ rank own = not-less (rank own) (rank wanted) h in
      steps (rank own - rank wanted) own wanted (omega (arith, le)) us m p
    where
      not-less : (a b : ℕ) → nat_lt a b ≡ false → b ≤ a
      not-less a b k = grind (arith, nat_tests)
