-- Equations with others behind them: where names that stand on clocks have the same values, each part holds what it says by itself.
use Rattle.std.proofs.Common.{◌≡◌, ℕ, List, [], ◌∷◌, ◌++◌, map, refl, sym, ap, ap₂, ◌∙◌}
use Rattle.std.specs.Prelude.{Bool, true, false, ◌||◌, if◌then◌else◌}
use Rattle.hp_base.specs.declared.value.Value.{Value}
use Rattle.hp_tree.specs.Blocks.{Decl, Eqns, no_eqn, more_eqns, Eqn, eqns_of, list_of_eqns}
use Rattle.hp_tree.specs.Programs.{TypeDecl}
use Rattle.hp_tree.specs.Operators.{real}
use Rattle.hp_tree.specs.Instant.{Step, Head, Tail, Instant, Past, part, parts, of_two}
use Rattle.hp_tree.specs.Meaning.{Names, Nodes, defines, some_defines, clock_in, gives, defined, equations, equation}
use Rattle.hp_meaning.specs.Causal.Clocked.{AllRight, Standing}
use Rattle.hp_meaning.proofs.CausalLemmas.Swap.{given}
use Rattle.law_drawing.proofs.SteeredLemmas.Uncalled.{EqnsCallNothing}
use Rattle.law_choices.specs.Embedded.Observed.{SameEqns, behind_eqns}
use Rattle.law_choices.proofs.EmbeddedLemmas.Alike.{Alike, equation_alike, gives_alike}

-- an instant of equations, with one of others behind it
abbrev pub put_behind : Eqns → Instant → Instant → Instant
put_behind no_eqn i rest = rest
put_behind (more_eqns e es) i rest = of_two (part Head i) (put_behind es (part Tail i) rest)

pub same_put : (es : Eqns) (i rest : Instant) → SameEqns es i (put_behind es i rest)
same_put no_eqn i rest = tt
same_put (more_eqns e es) i rest = ((λ p. refl), same_put es (part Tail i) rest)

pub behind_put : (es : Eqns) (i rest : Instant) → behind_eqns es (put_behind es i rest) ≡ rest
behind_put no_eqn i rest = refl
behind_put (more_eqns e es) i rest = behind_put es (part Tail i) rest

map_twice : {A B C : Type 0} (f : A → B) (g : B → C) (xs : List A) → map g (map f xs) ≡ map (λ x. g (f x)) xs
map_twice f g [] = refl
map_twice f g (x ∷ xs) = ap (λ ys. g (f x) ∷ ys) (map_twice f g xs)

-- a part of instants that are made one by one
pub parts_made : {A : Type 0} (s : Step) (f : A → Instant) (xs : List A) (past : Past) → past ≡ map f xs → parts s past ≡ map (λ x. part s (f x)) xs
parts_made s f xs past e = ap (parts s) e ∙ map_twice f (part s) xs

module _ (types : List TypeDecl) (N M : Nodes) (ds more : List Decl) (same : (x : List ℕ) → clock_in more x ≡ clock_in ds x) (on : Standing) (names others last : Names) (agree : Alike on names others)
    (lines : List Eqn) (nows : Past) (r : Instant → Instant) (rest : Instant) where
  -- all of them hold what they say
  pub put_law : ((free : Instant) → rest ≡ equations types real M more (eqns_of lines) others last (given (map r nows) free) rest)
      → (es : Eqns) (f : Instant → Instant) (P Q : Past) (free other i : Instant) → P ≡ map f nows → Q ≡ map (λ t. put_behind es (f t) (r t)) nows → i ≡ equations types real N ds es names last (given P free) i → AllRight on ds es → EqnsCallNothing es
      → put_behind es i rest ≡ equations types real M more (eqns_of (list_of_eqns es ++ lines)) others last (given Q other) (put_behind es i rest)
  put_law behind no_eqn f P Q free other i p q h right quiet = behind other ∙ ap (λ z. equations types real M more (eqns_of lines) others last (given z other) rest) (sym q)
  put_law behind (more_eqns e es) f P Q free other i p q h right quiet =
      let heads : parts Head P ≡ parts Head Q = parts_made Head f nows P p ∙ sym (parts_made Head (λ t. put_behind (more_eqns e es) (f t) (r t)) nows Q q) in
      ap₂ of_two
      (ap (part Head) h ∙ equation_alike types N M ds more same e on names others last agree (parts Head P) (part Head free) (part Head other) (part Head i) right.0 quiet.0
      ∙ ap (λ z. equation types real M more e others last (given z (part Head other)) (part Head i)) heads)
      (put_law behind es (λ t. part Tail (f t)) (parts Tail P) (parts Tail Q) (part Tail free) (part Tail other) (part Tail i)
      (parts_made Tail f nows P p) (parts_made Tail (λ t. put_behind (more_eqns e es) (f t) (r t)) nows Q q) (ap (part Tail) h) right.1 quiet.1)

  -- and give names their values
  pub put_defined : (v : List ℕ → Value) → ((free : Instant) (x : List ℕ) → defined types real M more (eqns_of lines) others last (given (map r nows) free) rest x ≡ v x)
      → (es : Eqns) (f : Instant → Instant) (P Q : Past) (free other i : Instant) → P ≡ map f nows → Q ≡ map (λ t. put_behind es (f t) (r t)) nows → AllRight on ds es → EqnsCallNothing es → (x : List ℕ)
      → defined types real M more (eqns_of (list_of_eqns es ++ lines)) others last (given Q other) (put_behind es i rest) x ≡ (if some_defines es x then defined types real N ds es names last (given P free) i x else v x)
  put_defined v behind no_eqn f P Q free other i p q right quiet x = ap (λ z. defined types real M more (eqns_of lines) others last (given z other) rest x) q ∙ behind other x
  put_defined v behind (more_eqns e es) f P Q free other i p q right quiet x =
      let heads : parts Head P ≡ parts Head Q = parts_made Head f nows P p ∙ sym (parts_made Head (λ t. put_behind (more_eqns e es) (f t) (r t)) nows Q q) in
      let first = ap (λ z. gives types real M more e others last (given z (part Head other)) (part Head i) x) (sym heads)
      ∙ sym (gives_alike types N M on names others last agree ds more same e (parts Head P) (part Head free) (part Head other) (part Head i) right.0 quiet.0 x) in
      let later = put_defined v behind es (λ t. part Tail (f t)) (parts Tail P) (parts Tail Q) (part Tail free) (part Tail other) (part Tail i)
      (parts_made Tail f nows P p) (parts_made Tail (λ t. put_behind (more_eqns e es) (f t) (r t)) nows Q q) right.1 quiet.1 x in
      ap₂ (λ a b. if defines e x then a else b) first later
      ∙ choice (defines e x) (some_defines es x) (gives types real N ds e names last (given (parts Head P) (part Head free)) (part Head i) x) (defined types real N ds es names last (given (parts Tail P) (part Tail free)) (part Tail i) x) (v x)
    where
      choice : (a b : Bool) (k l m : Value) → (if a then k else (if b then l else m)) ≡ (if a || b then (if a then k else l) else m)
      choice true b k l m = refl
      choice false b k l m = refl
