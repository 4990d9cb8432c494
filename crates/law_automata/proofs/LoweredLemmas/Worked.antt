-- A worked program that meets what removing automata asks for.
use Rattle.std.proofs.Common.{◌≡◌, ℕ, true, false, List, [], ◌∷◌, None, refl, ap, subst, arith}
use Rattle.std.specs.Prelude.{pos, codes, ◌||◌}
use Rattle.std.specs.Str.{bytes_eq}
use Rattle.hp_base.specs.declared.span.Span.{Span}
use Rattle.hp_base.specs.declared.ty.Ty.TheVariants as ty
use Rattle.hp_base.specs.declared.ty.Const.TheVariants as const
use Rattle.hp_tree.specs.declared.block.Trans.{Trans}
use Rattle.hp_tree.specs.declared.expr.Op2.TheVariants.{Eq}
use Rattle.hp_tree.specs.declared.program.Item.{Item}
use Rattle.hp_tree.specs.declared.program.Item.TheVariants.{NodeItem}
use Rattle.hp_tree.specs.Expressions.{Expr, constant, variable, two, pre, arrow}
use Rattle.hp_tree.specs.Blocks.{Decl, block, no_eqn, more_eqns, define, automaton, no_state, more_states}
use Rattle.hp_tree.specs.Meaning.{is_among}
use Rattle.law_automata.specs.Lowered.OldNames.{IsOld}
use Rattle.law_automata.specs.Lowered.Removable.{IsRemovable}
use Rattle.law_automata.proofs.LoweredLemmas.Apart.{same_bytes}
use Rattle.law_automata.proofs.LoweredLemmas.Lookups.{no_more_or}

abbrev here : Span
here = record { line = 1; col = 1; end = 0 }

abbrev x : List ℕ
x = codes "x"

abbrev y : List ℕ
y = codes "y"

abbrev z : List ℕ
z = codes "z"

abbrev a : List ℕ
a = codes "A"

abbrev b : List ℕ
b = codes "B"

abbrev int : List ℕ → Decl
int n = record { name = n; ty = ty.Int; last = None; clock = None; span = here }

abbrev number : ℕ → Expr
number n = constant here (const.I (pos n))

-- whether a name holds zero
abbrev is_zero : List ℕ → Expr
is_zero n = two here Eq (variable here n) (number 0)

abbrev to_state : List ℕ → List ℕ → Trans
to_state n q = record { cond = is_zero n; restart = true; target = q; span = here }

-- two states: in A a local variable counts, and B, which a strong transition leaves, holds zero
abbrev program : List Item
program =
    NodeItem (record {
      name = codes "f";
      span = here;
      inputs = int x ∷ [];
      outputs = int y ∷ [];
      contract = None;
      body = block []
          (more_eqns
          (automaton here
          (more_states a (block (int z ∷ []) (more_eqns (define here ((z, here) ∷ []) (arrow here (number 0) (pre here (variable here z)))) (more_eqns (define here ((y, here) ∷ []) (variable here z)) no_eqn)))
          (to_state y b ∷ []) [] here
          (more_states b (block [] (more_eqns (define here ((y, here) ∷ []) (number 0)) no_eqn)) [] (to_state x a ∷ []) here no_state)))
          no_eqn);
    })
    ∷ []

old_x : IsOld x
old_x = record { digits = λ h. absurd cc; short = omega arith }

old_y : IsOld y
old_y = record { digits = λ h. absurd cc; short = omega arith }

old_z : IsOld z
old_z = record { digits = λ h. absurd cc; short = omega arith }

-- the two names are told from each other
apart : (n : List ℕ) → is_among ((z, here) ∷ []) n ≡ true → is_among ((y, here) ∷ []) n ≡ false
apart n h = subst (λ m. is_among ((y, here) ∷ []) m ≡ false) (same_bytes z n (no_more_or (bytes_eq z n) h)) refl

removable : IsRemovable program
removable = (
  record {
    outputs = (old_y, tt);
    contract = tt;
    body = (
      tt,
      (
        (λ n h. refl),
        (
          omega arith,
          omega arith,
          omega arith,
          (
            ((((old_z, refl, refl, tt), tt), ((λ n h. ap (λ t. t || false) (apart n h)), ((old_z, tt), (tt, old_z)), ((λ n h. refl), ((old_y, tt), old_z), tt))), (((((old_y, tt), (tt, tt), refl), tt), omega arith)), (tt, omega arith)),
            (((tt, ((λ n h. refl), ((old_y, tt), tt), tt)), (tt, omega arith), ((((old_x, tt), (tt, tt), refl), tt), omega arith)), tt),
          ),
        ),
        tt,
      ),
    );
  },
  tt,
)
