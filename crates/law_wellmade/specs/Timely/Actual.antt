-- Values that fit at an instant of a block without automata, as its meaning reads them: with the values and the last values that names have there, and the block's own past.
use Rattle.std.specs.Prelude.{◌≡◌, ⊤, ℕ, false, IsTrue, List, ◌∷◌, [], Some}
use Rattle.hp_base.specs.declared.ty.Ty.{Ty}
use Rattle.hp_base.specs.declared.value.Value.{Value}
use Rattle.hp_tree.specs.Blocks.{Decl, Block, block, Eqns, no_eqn, more_eqns, Eqn, define, switch, reset, automaton, Arms, no_arm, more_arms}
use Rattle.hp_tree.specs.Programs.{TypeDecl}
use Rattle.hp_tree.specs.Operators.{constant_of, is_cons, is_true}
use Rattle.hp_tree.specs.Values.{IsOf}
use Rattle.hp_tree.specs.Instant.{Body, Equations, Head, Tail, Right, Test, Arms as ArmsOf, Instant, Given, at, part, since, Clock, holds}
use Rattle.hp_tree.specs.Meaning.{Names, some_defines, inside as inside_names, within, lasts, clock_of}
use Rattle.hp_base.specs.Known.Known.{lookup}
use Rattle.hp_typing.specs.Scopes.{with_variables}
use Rattle.law_judged.specs.Typed.Scopes.{Scope}
use Rattle.hp_init.specs.Classes.{Classes, Assignment}
use Rattle.hp_meaning.specs.Causal.Clocked.{Standing, standing_in}
use Rattle.law_values.specs.Valued.Judged.{Lasts, lasts_in}
use Rattle.law_values.specs.Valued.Classed.{classes_in, classes_within}
use Rattle.law_values.specs.Valued.Fitting.{Fits, held, ExprFits}

-- a name that is read on a clock has a value of its type exactly where the clock is there
abbrev pub NamesHave : List TypeDecl → Scope → Standing → Names → Type 0
NamesHave types s st names = (x : List ℕ) (c : Clock) (t : Ty) → st x ≡ Some c → lookup s.variables x ≡ Some t → Fits types (holds types c names) (Some t) false (names x)

-- the last value of a name that has one is of its type
abbrev pub LastsHave : List TypeDecl → Scope → Lasts → Names → Type 0
LastsHave types s lasts last = (x : List ℕ) → IsTrue (lasts x) → (t : Ty) × ((lookup s.variables x ≡ Some t) × IsOf types t (last x))

-- what some equations define has a type
abbrev pub DefinedHave : Scope → Eqns → Type 0
DefinedHave s es = (x : List ℕ) → IsTrue (some_defines es x) → (t : Ty) × (lookup s.variables x ≡ Some t)

module _ (types : List TypeDecl) (callee : List ℕ → Instant → Type 0) where
  abbrev mutual
    -- a block that is there
    pub BlockHas : Scope → Standing → Classes → Lasts → Assignment → Names → Names → Given → Block → Instant → Type 0
    BlockHas s st second ls class names last g (block ds es) i =
        NamesHave types (with_variables s ds) (standing_in ds es st) (inside_names es names i)
        × (LastsHave types (with_variables s ds) (lasts_in ds ls) (lasts (constant_of types) ds g.past last)
        × (DefinedHave (with_variables s ds) es
        × EqnsHave ds (with_variables s ds) (standing_in ds es st) (classes_in es second class) (lasts_in ds ls) (λ p. class (Equations ∷ p)) (inside_names es names i) (lasts (constant_of types) ds g.past last) (at Equations g) es (part Equations i)))

    pub EqnsHave : List Decl → Scope → Standing → Classes → Lasts → Assignment → Names → Names → Given → Eqns → Instant → Type 0
    EqnsHave ds s st second ls class names last g no_eqn i = ⊤
    EqnsHave ds s st second ls class names last g (more_eqns e es) i =
        EqnHas ds s st second ls (λ p. class (Head ∷ p)) names last (at Head g) e (part Head i) × EqnsHave ds s st second ls (λ p. class (Tail ∷ p)) names last (at Tail g) es (part Tail i)

    pub EqnHas : List Decl → Scope → Standing → Classes → Lasts → Assignment → Names → Names → Given → Eqn → Instant → Type 0
    EqnHas ds s st second ls class names last g (define a ys e) i = ExprFits types false callee s second (held types false callee names) e (clock_of ds ys e) (part Right i)
    EqnHas ds s st second ls class names last g (switch a e arms) i =
        ExprFits types false callee s second (held types false callee names) e [] (part Test i)
        × ArmsHave s st (classes_within (switch a e arms) second) ls (λ p. class (ArmsOf ∷ p)) (within (switch a e arms) names last) last (at ArmsOf g) (i (Test ∷ [])) arms (part ArmsOf i)
    EqnHas ds s st second ls class names last g (reset a b e) i =
        ExprFits types false callee s second (held types false callee names) e [] (part Test i)
        × BlockHas s st (classes_within (reset a b e) second) ls (λ p. class (Body ∷ p)) (within (reset a b e) names last) last (since (is_true (i (Test ∷ []))) (at Body g)) b (part Body i)
    EqnHas ds s st second ls class names last g (automaton a ss) i = ⊤

    -- the arm of a value is there
    pub ArmsHave : Scope → Standing → Classes → Lasts → Assignment → Names → Names → Given → Value → Arms → Instant → Type 0
    ArmsHave s st second ls class names last g v no_arm i = ⊤
    ArmsHave s st second ls class names last g v (more_arms c b a arms) i =
        (IsTrue (is_cons types v c) → BlockHas s st second ls (λ p. class (Head ∷ p)) names last (since false (at Head g)) b (part Head i))
        × ArmsHave s st second ls (λ p. class (Tail ∷ p)) names last (at Tail g) v arms (part Tail i)
