-- The mark of each place of a node: a value of class Second may be Nil in the language, and has a type.
use Rattle.std.specs.Prelude.{ℕ, List, [], ◌∷◌, Option, None, Some}
use Rattle.hp_base.specs.declared.ty.Ty.{Ty}
use Rattle.hp_tree.specs.declared.block.Trans.{Trans}
use Rattle.hp_tree.specs.Expressions.{Expr, one, two, choose, pre, fby, arrow, when_is, merge, call, Exprs, more_exprs, Parts, more_parts}
use Rattle.hp_tree.specs.Blocks.{Block, block, Eqns, more_eqns, Eqn, define, switch, reset, automaton, Arms, more_arms, States, more_states}
use Rattle.hp_tree.specs.Programs.{Contract, Node}
use Rattle.hp_tree.specs.Instant.{Body, Observer, Assume, Enforce, Named, Equations, Head, Tail, Right, Test, Arms as ArmsOf, States as StatesOf, Until, Unless, First, Second, Third, Args, Instance}
use Rattle.hp_base.specs.Known.Known.{lookup}
use Rattle.hp_typing.specs.Scopes.{with_variables, inside, inside_node}
use Rattle.hp_typing.specs.Types.{type_of}
use Rattle.law_judged.specs.Typed.Scopes.{Scope}
use Rattle.hp_init.specs.Classes.{Classes, Assignment, is_second}
use Rattle.law_values.specs.Valued.Judged.{body_scope}
use Rattle.law_values.specs.Valued.Classed.{classes_in, classes_within, classes_of, none_second}
use Rattle.law_values.proofs.FilledLemmas.Marked.{Marks, mark}

-- a mark at the top, and others below
abbrev pub with_top : Option Ty → Marks → Marks
with_top o T [] = o
with_top o T (s ∷ p) = T (s ∷ p)

module _ (callee : List ℕ → Marks) where
  module _ (s : Scope) (second : Classes) where
    abbrev pub top_mark : Expr → Option Ty
    top_mark e = mark (is_second second e) (type_of s e)

    abbrev mutual
      pub in_expr : Expr → Marks
      in_expr (one at o a) (First ∷ p) = with_top (top_mark a) (in_expr a) p
      in_expr (two at o a b) (First ∷ p) = with_top (top_mark a) (in_expr a) p
      in_expr (two at o a b) (Second ∷ p) = with_top (top_mark b) (in_expr b) p
      in_expr (choose at a b c) (First ∷ p) = with_top (top_mark a) (in_expr a) p
      in_expr (choose at a b c) (Second ∷ p) = with_top (top_mark b) (in_expr b) p
      in_expr (choose at a b c) (Third ∷ p) = with_top (top_mark c) (in_expr c) p
      in_expr (pre at a) (First ∷ p) = with_top (top_mark a) (in_expr a) p
      in_expr (fby at a b) (First ∷ p) = with_top (top_mark a) (in_expr a) p
      in_expr (fby at a b) (Second ∷ p) = with_top (top_mark b) (in_expr b) p
      in_expr (arrow at a b) (First ∷ p) = with_top (top_mark a) (in_expr a) p
      in_expr (arrow at a b) (Second ∷ p) = with_top (top_mark b) (in_expr b) p
      in_expr (when_is at a c x) (First ∷ p) = with_top (top_mark a) (in_expr a) p
      in_expr (merge at x ps) (Args ∷ p) = in_parts ps p
      in_expr (call at f inlined es) (Args ∷ p) = in_exprs es p
      in_expr (call at f inlined es) (Instance ∷ p) = callee f p
      in_expr e p = None

      pub in_exprs : Exprs → Marks
      in_exprs (more_exprs e es) (Head ∷ p) = with_top (top_mark e) (in_expr e) p
      in_exprs (more_exprs e es) (Tail ∷ p) = in_exprs es p
      in_exprs es p = None

      pub in_parts : Parts → Marks
      in_parts (more_parts c e ps) (Head ∷ p) = with_top (top_mark e) (in_expr e) p
      in_parts (more_parts c e ps) (Tail ∷ p) = in_parts ps p
      in_parts ps p = None

    abbrev pub of_expr : Expr → Marks
    of_expr e = with_top (top_mark e) (in_expr e)

    abbrev pub of_tests : List Trans → Marks
    of_tests (t ∷ ts) (Head ∷ p) = of_expr t.cond p
    of_tests (t ∷ ts) (Tail ∷ p) = of_tests ts p
    of_tests ts p = None

  abbrev mutual
    pub of_block : Scope → Classes → Assignment → Block → Marks
    of_block s second class (block ds es) (Named x ∷ []) = mark (class (Named x ∷ [])) (lookup (with_variables s ds).variables x)
    of_block s second class (block ds es) (Equations ∷ p) = of_eqns (with_variables s ds) (classes_in es second class) (λ q. class (Equations ∷ q)) es p
    of_block s second class b p = None

    pub of_eqns : Scope → Classes → Assignment → Eqns → Marks
    of_eqns s second class (more_eqns e es) (Head ∷ p) = of_eqn s second (λ q. class (Head ∷ q)) e p
    of_eqns s second class (more_eqns e es) (Tail ∷ p) = of_eqns s second (λ q. class (Tail ∷ q)) es p
    of_eqns s second class es p = None

    pub of_eqn : Scope → Classes → Assignment → Eqn → Marks
    of_eqn s second class (define at ys e) (Right ∷ p) = of_expr s second e p
    of_eqn s second class (switch at e arms) (Test ∷ p) = of_expr s second e p
    of_eqn s second class (switch at e arms) (ArmsOf ∷ p) = of_arms s (classes_within (switch at e arms) second) (λ q. class (ArmsOf ∷ q)) arms p
    of_eqn s second class (reset at b e) (Test ∷ p) = of_expr s second e p
    of_eqn s second class (reset at b e) (Body ∷ p) = of_block s (classes_within (reset at b e) second) (λ q. class (Body ∷ q)) b p
    of_eqn s second class (automaton at ss) (StatesOf ∷ p) = of_states s second (classes_within (automaton at ss) second) (λ q. class (StatesOf ∷ q)) ss p
    of_eqn s second class e p = None

    pub of_arms : Scope → Classes → Assignment → Arms → Marks
    of_arms s second class (more_arms c b at arms) (Head ∷ p) = of_block s second (λ q. class (Head ∷ q)) b p
    of_arms s second class (more_arms c b at arms) (Tail ∷ p) = of_arms s second (λ q. class (Tail ∷ q)) arms p
    of_arms s second class arms p = None

    pub of_states : Scope → Classes → Classes → Assignment → States → Marks
    of_states s out second class (more_states f b until unless at ss) (Head ∷ Body ∷ p) = of_block s second (λ q. class (Head ∷ Body ∷ q)) b p
    of_states s out second class (more_states f b until unless at ss) (Head ∷ Until ∷ p) = of_tests (inside s b) (classes_of b second (λ q. class (Head ∷ Body ∷ q))) until p
    of_states s out second class (more_states f b until unless at ss) (Head ∷ Unless ∷ p) = of_tests s out unless p
    of_states s out second class (more_states f b until unless at ss) (Tail ∷ p) = of_states s out second (λ q. class (Tail ∷ q)) ss p
    of_states s out second class ss p = None

  abbrev pub of_told : Scope → Classes → Option Expr → Marks
  of_told s second None p = None
  of_told s second (Some e) p = of_expr s second e p

  abbrev pub of_contract : Scope → Assignment → Option Contract → Marks
  of_contract s class (Some c) (Observer ∷ p) = of_block s none_second (λ q. class (Observer ∷ q)) c.body p
  of_contract s class (Some c) (Assume ∷ p) = of_told (inside s c.body) (classes_of c.body none_second (λ q. class (Observer ∷ q))) c.assume p
  of_contract s class (Some c) (Enforce ∷ p) = of_told (inside s c.body) (classes_of c.body none_second (λ q. class (Observer ∷ q))) c.enforce p
  of_contract s class k p = None

  abbrev pub of_node : Scope → Assignment → Node → Marks
  of_node s class n (Body ∷ p) = of_block (body_scope s n) none_second (λ q. class (Body ∷ q)) n.body p
  of_node s class n (Observer ∷ p) = of_contract (inside_node s n) class n.contract (Observer ∷ p)
  of_node s class n (Assume ∷ p) = of_contract (inside_node s n) class n.contract (Assume ∷ p)
  of_node s class n (Enforce ∷ p) = of_contract (inside_node s n) class n.contract (Enforce ∷ p)
  of_node s class n p = None
