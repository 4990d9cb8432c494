-- The first element of a list, and those behind it.
use Rattle.std.proofs.Common.{◌≡◌, ℕ, ◌<◌, ◌≤◌, get_or, length, ◌-◌, take, drop, map, List, [], ◌∷◌, ◌++◌, Bool, true, ◌==◌, arith, refl, sym, ap, ◌∙◌}
use Rattle.std.proofs.lemmas.List.{take_all}
use Rattle.std.proofs.lemmas.Bool.Decides.{nat_tests}
use Rattle.hp_lexer.specs.declared.token.Keyword.{Keyword}
use Rattle.hp_lexer.specs.declared.token.Sign.TheVariants as mark
use Rattle.hp_lexer.specs.Written.{Written}
use Rattle.hp_tree.specs.declared.block.Trans.{Trans}
use Rattle.hp_tree.specs.Expressions.{Expr, exprs_of}
use Rattle.hp_tree.specs.declared.block.Eqn as code_eqn
use Rattle.hp_tree.specs.BlockView.{eqn_seen}
use Rattle.hp_tree.specs.Blocks.{Decl, block, eqns_of}
use Rattle.hp_print.specs.ProgramTokens.{is_empty_block}
use Rattle.hp_print.specs.Tokens.{word, sign, led_by, joined_by, written_after}
use Rattle.hp_print.specs.ExpressionTokens.{expression_tokens, arguments_tokens, more_arguments_tokens}
use Rattle.hp_print.specs.BlockTokens.{transition_tokens, transitions_tokens}
use Rattle.hp_print.proofs.WrittenLaws.{written_after-append, written_after-cons, written_after-nil}

-- the elements behind the first, as a pattern of a slice has them
abbrev pub others : {A : Type 0} → List A → List A
others xs = take (length xs - 1) (drop 1 xs)

pub first-next : {A : Type 0} (xs : List A) (x : A) → 1 ≤ length xs → x ≡ get_or xs 0 x → xs ≡ x ∷ others xs
first-next [] x h p = absurd (omega (arith, h))
first-next (y ∷ ys) x h p = ap (λ z. z ∷ ys) (sym p) ∙ ap (λ zs. x ∷ zs) (sym (take_all (length (y ∷ ys) - 1) ys (omega arith)))

pub none-left : {A : Type 0} (xs : List A) → length xs < 1 → xs ≡ []
none-left [] h = refl
none-left (x ∷ xs) h = absurd (omega arith)

module _ (text : List ℕ) where
  -- where a phrase is written, those behind it follow
  pub joined-first : {A : Type 0} (w : Written) (f : A → List Written) (xs : List A) (x : A) (after : List ℕ) → 1 ≤ length xs → x ≡ get_or xs 0 x
      → after ≡ written_after text (f x) → written_after after (led_by w (map f (others xs))) ≡ written_after text (joined_by w (map f xs))
  joined-first w f xs x after h p e =
      let rest = led_by w (map f (others xs)) in
      ap (λ t. written_after t rest) e ∙ sym (written_after-append text (f x) rest) ∙ ap (λ ys. written_after text (joined_by w (map f ys))) (sym (first-next xs x h p))

  pub joined-none : {A : Type 0} (w : Written) (f : A → List Written) (xs : List A) → length xs < 1 → text ≡ written_after text (joined_by w (map f xs))
  joined-none w f xs h = sym (ap (λ ys. written_after text (joined_by w (map f ys))) (none-left xs h) ∙ written_after-nil text)

  pub arguments-first : (es : List Expr) (e : Expr) (after : List ℕ) → 1 ≤ length es → e ≡ get_or es 0 e
      → after ≡ written_after text (expression_tokens e) → written_after after (more_arguments_tokens (exprs_of (others es))) ≡ written_after text (arguments_tokens (exprs_of es))
  arguments-first es e after h p q =
      let rest = more_arguments_tokens (exprs_of (others es)) in
      ap (λ t. written_after t rest) q ∙ sym (written_after-append text (expression_tokens e) rest) ∙ ap (λ fs. written_after text (arguments_tokens (exprs_of fs))) (sym (first-next es e h p))

  pub arguments-none : (es : List Expr) → length es < 1 → text ≡ written_after text (arguments_tokens (exprs_of es))
  arguments-none es h = sym (ap (λ fs. written_after text (arguments_tokens (exprs_of fs))) (none-left es h) ∙ written_after-nil text)

  pub transitions-first : (k : Keyword) (ts : List Trans) (t : Trans) (before after : List ℕ) → 1 ≤ length ts → t ≡ get_or ts 0 t
      → before ≡ written_after text (word k ∷ []) → after ≡ written_after before (transition_tokens t)
      → written_after after (led_by (sign mark.Bar) (map transition_tokens (others ts))) ≡ written_after text (transitions_tokens k ts)
  transitions-first k ts t before after h p e q =
      let rest = led_by (sign mark.Bar) (map transition_tokens (others ts)) in
      ap (λ z. written_after z rest) (q ∙ ap (λ z. written_after z (transition_tokens t)) e)
      ∙ sym (written_after-cons text (word k) (transition_tokens t ++ rest) ∙ written_after-append (written_after text (word k ∷ [])) (transition_tokens t) rest)
      ∙ ap (λ us. written_after text (transitions_tokens k us)) (sym (first-next ts t h p))

-- a block whose declarations are none
pub empty-block : (ds : List Decl) (es : List code_eqn.Eqn) (b : Bool) → true ≡ (length ds == 0) → b ≡ (length es == 0) → b ≡ is_empty_block (block ds (eqns_of (map eqn_seen es)))
empty-block [] [] b h k = k
empty-block [] (e ∷ es) b h k = k ∙ grind (arith, nat_tests)
empty-block (d ∷ ds) es b h k = absurd (grind (arith, nat_tests))
