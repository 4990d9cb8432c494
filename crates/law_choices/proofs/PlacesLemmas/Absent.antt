-- A block that is not there holds nothing.
use Rattle.std.proofs.Common.{◌≡◌, ℕ, suc, List, [], ◌∷◌, inl, inr, refl, sym, ◌∙◌}
use Rattle.std.specs.Prelude.{Bool, true, false, if◌then◌else◌, nat_eq, ◌⊎◌, ⊤}
use Rattle.hp_base.specs.declared.value.Value.{Value}
use Rattle.hp_base.specs.declared.value.Value.TheVariants.{Absent, B}
use Rattle.hp_tree.specs.Blocks.{Decl, Block, block, Eqns, no_eqn, more_eqns, Eqn, define, switch, reset, automaton, Arms, no_arm, more_arms, States, no_state, more_states}
use Rattle.hp_tree.specs.Programs.{TypeDecl}
use Rattle.hp_tree.specs.Operators.{Reading, is_cons, is_true, constant_of}
use Rattle.hp_tree.specs.Instant.{Body, Fresh, Equations, Head, Tail, Test, Arms as ArmsOf, States as StatesOf, Until, Place, Instant, Given, at, part, top, since, nothing, in_row}
use Rattle.hp_tree.specs.Meaning.{Names, Nodes, Jump, inside, within, lasts, selected, expr, strong, scope, equations, equation, arm, states, weak_in}
use Rattle.hp_meaning.proofs.CausalLemmas.Fix.{Fixed}

-- Where the body of a state is not there, its weak transitions are not.
abbrev pub WeakQuiet : Instant → Type 0
WeakQuiet i = i (Head ∷ Body ∷ Fresh ∷ []) ≡ Absent → (p : Place) → i (Head ∷ Until ∷ p) ≡ Absent

-- of a part: nothing is there, or the block, in which it is so
abbrev mutual
  pub BlockQuiet : Block → Instant → Type 0
  BlockQuiet (block ds es) i = EqnsQuiet es (part Equations i)

  pub EqnsQuiet : Eqns → Instant → Type 0
  EqnsQuiet no_eqn i = ⊤
  EqnsQuiet (more_eqns e es) i = EqnQuiet e (part Head i) × EqnsQuiet es (part Tail i)

  pub EqnQuiet : Eqn → Instant → Type 0
  EqnQuiet (define s ys e) i = ⊤
  EqnQuiet (switch s e arms) i = ArmsQuiet arms (part ArmsOf i)
  EqnQuiet (reset s b e) i = (i (Body ∷ Fresh ∷ []) ≡ Absent → ⊥) × BlockQuiet b (part Body i)
  EqnQuiet (automaton s ss) i = StatesQuiet ss (part StatesOf i)

  pub ArmsQuiet : Arms → Instant → Type 0
  ArmsQuiet no_arm i = ⊤
  ArmsQuiet (more_arms c b s arms) i = (((p : Place) → i (Head ∷ p) ≡ Absent) ⊎ ((i (Head ∷ Fresh ∷ []) ≡ Absent → ⊥) × BlockQuiet b (part Head i))) × ArmsQuiet arms (part Tail i)

  pub StatesQuiet : States → Instant → Type 0
  StatesQuiet no_state i = ⊤
  StatesQuiet (more_states f b until unless s ss) i =
      (((p : Place) → i (Head ∷ Body ∷ p) ≡ Absent) ⊎ ((i (Head ∷ Body ∷ Fresh ∷ []) ≡ Absent → ⊥) × BlockQuiet b (part Body (part Head i)))) × StatesQuiet ss (part Tail i) × WeakQuiet i

abbrev pub PartQuiet : Block → Instant → Type 0
PartQuiet b i = ((p : Place) → i p ≡ Absent) ⊎ ((i (Fresh ∷ []) ≡ Absent → ⊥) × BlockQuiet b i)

not_absent : (v : Value) (b : Bool) → v ≡ B b → v ≡ Absent → ⊥
not_absent v b e f = no (sym e ∙ f)
  where
    no : B b ≡ Absent → ⊥
    no h = absurd (cc)

part-quiet : (b : Block) (d : Bool) (F i : Instant) → ((p : Place) → i p ≡ (if d then F else nothing) p) → (((p : Place) → i p ≡ F p) → (i (Fresh ∷ []) ≡ Absent → ⊥) × BlockQuiet b i) → PartQuiet b i
part-quiet b true F i h k = inr (k h)
part-quiet b false F i h k = inl h

weak-quiet : (fresh d : Bool) (F G i : Instant) → F (Fresh ∷ []) ≡ B fresh → i (Head ∷ Body ∷ Fresh ∷ []) ≡ (if d then F else nothing) (Fresh ∷ []) → ((p : Place) → i (Head ∷ Until ∷ p) ≡ (if d then G else nothing) p) → WeakQuiet i
weak-quiet fresh true F G i f h k e = absurd (not_absent (i (Head ∷ Body ∷ Fresh ∷ [])) fresh (h ∙ f) e)
weak-quiet fresh false F G i f h k e = k

module _ (types : List TypeDecl) (R : Reading) (N : Nodes) where
  is-fresh : (b : Block) (fresh : Bool) (names last : Names) (g : Given) (i : Instant) → scope types R N b fresh names last g i (Fresh ∷ []) ≡ B fresh
  is-fresh (block ds es) fresh names last g i = refl

  mutual
    pub block-quiet : (b : Block) (fresh : Bool) (names last : Names) (g : Given) (i : Instant) → Fixed (scope types R N b fresh names last g) i → (i (Fresh ∷ []) ≡ Absent → ⊥) × BlockQuiet b i
    block-quiet (block ds es) fresh names last g i h = (
      not_absent (i (Fresh ∷ [])) fresh (h (Fresh ∷ [])),
      eqns-quiet es ds (inside es names i) (lasts (λ c. R.constant (constant_of types c)) ds g.past last) (at Equations g) (part Equations i) (λ p. h (Equations ∷ p)),
    )

    eqns-quiet : (es : Eqns) (ds : List Decl) (names last : Names) (g : Given) (i : Instant) → Fixed (equations types R N ds es names last g) i → EqnsQuiet es i
    eqns-quiet no_eqn ds names last g i h = tt
    eqns-quiet (more_eqns e es) ds names last g i h =
        (eqn-quiet e ds names last (at Head g) (part Head i) (λ p. h (Head ∷ p)), eqns-quiet es ds names last (at Tail g) (part Tail i) (λ p. h (Tail ∷ p)))

    eqn-quiet : (e : Eqn) (ds : List Decl) (names last : Names) (g : Given) (i : Instant) → Fixed (equation types R N ds e names last g) i → EqnQuiet e i
    eqn-quiet (define s ys e) ds names last g i h = tt
    eqn-quiet (switch s e arms) ds names last g i h =
        arms-quiet arms (top (expr types R N e [] names last (at Test g) (part Test i))) (within (switch s e arms) names last) last (at ArmsOf g) (part ArmsOf i) (λ p. h (ArmsOf ∷ p))
    eqn-quiet (reset s b e) ds names last g i h =
        let again = is_true (top (expr types R N e [] names last (at Test g) (part Test i))) in
        block-quiet b again (within (reset s b e) names last) last (since again (at Body g)) (part Body i) (λ p. h (Body ∷ p))
    eqn-quiet (automaton s ss) ds names last g i h =
        states-quiet ss 0 (strong types R N ss ss 0 (selected g.past) names last (at StatesOf g) (part StatesOf i)) names (within (automaton s ss) names last) last (at StatesOf g) (part StatesOf i) (λ p. h (StatesOf ∷ p))

    arms-quiet : (arms : Arms) (v : Value) (names last : Names) (g : Given) (i : Instant) → Fixed (arm types R N arms v names last g) i → ArmsQuiet arms i
    arms-quiet no_arm v names last g i h = tt
    arms-quiet (more_arms c b s arms) v names last g i h = (
      part-quiet b (is_cons types v c) (scope types R N b false names last (since false (at Head g)) (part Head i)) (part Head i) (λ p. h (Head ∷ p))
          (λ k. block-quiet b false names last (since false (at Head g)) (part Head i) k),
      arms-quiet arms v names last (at Tail g) (part Tail i) (λ p. h (Tail ∷ p)),
    )

    states-quiet : (ss : States) (k : ℕ) (j : Jump) (out names last : Names) (g : Given) (i : Instant) → Fixed (states types R N ss k j out names last g) i → StatesQuiet ss i
    states-quiet no_state k j out names last g i h = tt
    states-quiet (more_states f b until unless s ss) k j out names last g i h = (
      part-quiet b (nat_eq k j.state) (scope types R N b j.restart names last (since j.restart (at Body (at Head g))) (part Body (part Head i))) (part Body (part Head i)) (λ p. h (Head ∷ Body ∷ p))
          (λ q. block-quiet b j.restart names last (since j.restart (at Body (at Head g))) (part Body (part Head i)) q),
      states-quiet ss (suc k) j out names last (at Tail g) (part Tail i) (λ p. h (Tail ∷ p)),
      weak-quiet j.restart (nat_eq k j.state) (scope types R N b j.restart names last (since j.restart (at Body (at Head g))) (part Body (part Head i))) (in_row (weak_in types R N b until j names last (at Head g) (part Head i))) i
          (is-fresh b j.restart names last (since j.restart (at Body (at Head g))) (part Body (part Head i))) (h (Head ∷ Body ∷ Fresh ∷ [])) (λ p. h (Head ∷ Until ∷ p)),
    )
