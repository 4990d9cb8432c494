-- What is there of the wires of a block meets its meaning, and the next memory is what the longer past remembers.
use Rattle.std.proofs.Common.{◌≡◌, List, [], ◌∷◌, refl, sym, ap, ap₂, subst, ◌∙◌}
use Rattle.std.specs.Prelude.{Bool, true, false, if◌then◌else◌, IsTrue, IsFalse, ◌||◌, ℕ, nat_eq, suc}
use Rattle.hp_base.specs.declared.value.Value.{Value}
use Rattle.hp_base.specs.declared.value.Value.TheVariants.{Absent, B}
use Rattle.hp_base.specs.declared.span.Span.{Span}
use Rattle.hp_tree.specs.Expressions.{Expr, constant, variable, last_of, one, two, choose, pre, fby, arrow, when_is, merge, call}
use Rattle.hp_tree.specs.Blocks.{Decl, Block, block, Eqns, no_eqn, more_eqns, Eqn, define, switch, reset, automaton, Arms, no_arm, more_arms, States, no_state, more_states}
use Rattle.hp_tree.specs.Programs.{TypeDecl}
use Rattle.hp_tree.specs.Operators.{is_cons, is_true}
use Rattle.hp_tree.specs.Instant.{Named, Fresh, Equations, Head, Tail, Right, Test, Arms as ArmsOf, States as StatesOf, Until, Unless, Active, Next, Pending, Body, Instance, Args, Instant, Past, part, parts, top, own_with, own, nothing, of_two, in_block, in_right, with_arms, with_body, in_row, in_state, with_words, Clock, holds}
use Rattle.hp_tree.specs.Meaning.{Names, Nodes, defines, some_defines, inside, within, clock_of, clock_in, output_for, from_arm, from_state, Jump, selected, state_word, state_of, strong, weak, conditions, read_in, last_in, states, right, gives, defined, scope, equations, equation, arm}
use Rattle.hp_meaning.specs.Causal.Clocked.{Standing, standing_in, BlockRight, AllRight, OneRight, ArmsRight, StatesRight}
use Rattle.hp_meaning.specs.Contract.Memory.{remembers_block, remembers_equations, remembers_equation, remembers_arms, remembers_states}
use Rattle.law_games.specs.Wires.Wired.{filled_abstraction, values_of, Held, held, held_at, lasts_in, Callees, wired, shown}
use Rattle.law_games.specs.Wires.WiredBlocks.{read_of, state_value, has_state, strong_in, weak_of, wired_states, shown_conditions, shown_states, next_states, SoundStates, FillsStates, right_in, arm_value, anew_memory, wired_gives, wired_defined, wired_block, wired_equations, wired_equation, wired_arms, shown_block, shown_equations, shown_equation, shown_arms, next_block, next_equations, next_equation, next_arms, SoundBlock, SoundEquations, SoundEquation, SoundArms, FillsBlock, FillsEquations, FillsEquation, FillsArms}
use Rattle.law_games.proofs.WiresLemmas.Exprs.{where_true, CallsMirror, behind, behind_conditions, given, Seen, shown_top, met, kept}
use Rattle.law_games.proofs.WiresLemmas.Automata.{conditions_met, kept_conditions, kept_until, strong_same, weak_met, weak_same, state_same}
use Rattle.law_games.proofs.WiresLemmas.Names.{SeenBase, base_of, seen_within, seen_inside, lasts_same, names_kept, shown_named, outputs_where, left_on, arm_same, anew_same}

there_case : (d : Bool) (S : Instant) (F : Instant → Instant) → S ≡ F S → (if d then S else nothing) ≡ (if d then F (if d then S else nothing) else nothing)
there_case true S F e = e
there_case false S F e = refl

state_case : (d : Bool) (SB : Instant) (F : Instant → Instant) (U : List Instant) (K : Instant → Instant → List Instant) (X Y : Instant) → SB ≡ F SB → U ≡ K SB (in_row U) → X ≡ Y → in_state (if d then SB else nothing) (if d then in_row U else nothing) X ≡ in_state (if d then F (if d then SB else nothing) else nothing) (if d then in_row (K (if d then SB else nothing) (if d then in_row U else nothing)) else nothing) Y
state_case true SB F U K X Y e f g = λ z. in_state (e z) (in_row (f z)) (g z)
state_case false SB F U K X Y e f g = ap (in_state nothing nothing) g

own_case : (d : Bool) (S : Instant) (P : Past) → S (Fresh ∷ []) ≡ B false → own ((if d then S else nothing) ∷ P) ≡ (if d then S ∷ own P else own P)
own_case true S P e = ap (λ v. own_with v S (own P)) e
own_case false S P e = refl

pub own_fresh : (d : Bool) (S : Instant) (P : Past) → S (Fresh ∷ []) ≡ B d → own (S ∷ P) ≡ S ∷ (if d then [] else own P)
own_fresh true S P e = ap (λ v. own_with v S (own P)) e
own_fresh false S P e = ap (λ v. own_with v S (own P)) e

pushed : {A T : Type 0} (f : A → T) (d : Bool) (u v : A) → f (if d then u else v) ≡ (if d then f u else f v)
pushed f true u v = refl
pushed f false u v = refl

module _ (types : List TypeDecl) (N : Nodes) (C : Callees) (M : CallsMirror N C) where
  -- the value that a right side gives to a name
  right_same : (ys : List (List ℕ × Span)) (e : Expr) (clock : Clock) (nW last : Names) (m : Held) (W : Instant) (x : List ℕ) → W ≡ wired types C e nW last m W → where_true (holds types clock nW) (right_in types C ys e (wired types C e nW last m W) x) ≡ right types filled_abstraction N ys e (shown types C e clock nW m W) x
  right_same ys (constant s c) clock nW last m W x h = ap (where_true (holds types clock nW)) (sym (ap top h))
  right_same ys (variable s y) clock nW last m W x h = ap (where_true (holds types clock nW)) (sym (ap top h))
  right_same ys (last_of s y) clock nW last m W x h = ap (where_true (holds types clock nW)) (sym (ap top h))
  right_same ys (one s o a) clock nW last m W x h = ap (where_true (holds types clock nW)) (sym (ap top h))
  right_same ys (two s o a b) clock nW last m W x h = ap (where_true (holds types clock nW)) (sym (ap top h))
  right_same ys (choose s a b c) clock nW last m W x h = ap (where_true (holds types clock nW)) (sym (ap top h))
  right_same ys (pre s a) clock nW last m W x h = ap (where_true (holds types clock nW)) (sym (ap top h))
  right_same ys (fby s a b) clock nW last m W x h = ap (where_true (holds types clock nW)) (sym (ap top h))
  right_same ys (arrow s a b) clock nW last m W x h = ap (where_true (holds types clock nW)) (sym (ap top h))
  right_same ys (when_is s a c y) clock nW last m W x h = ap (where_true (holds types clock nW)) (sym (ap top h))
  right_same ys (merge s y ps) clock nW last m W x h = ap (where_true (holds types clock nW)) (sym (ap top h))
  right_same ys (call s f inlined es) clock nW last m W x h =
      ap (λ i. where_true (holds types clock nW) (output_for ys (C.outputs f) i x)) (sym (ap (part Instance) h))
      ∙ outputs_where types C (holds types clock nW) ys (C.outputs f) (C.shown f (values_of es (part Args W)) (held_at Instance m) (part Instance W)) (part Instance W) x (λ o. M.named f o (values_of es (part Args W)) (held_at Instance m) (part Instance W))
      ∙ ap (λ os. output_for ys os (if holds types clock nW then C.shown f (values_of es (part Args W)) (held_at Instance m) (part Instance W) else nothing) x) (sym (M.outputs f))

  clock_where : (c k : Clock) (nW : Names) (v : Value) → c ≡ k → where_true (holds types c nW) v ≡ where_true (holds types k nW) v
  clock_where c k nW v e = ap (λ c. where_true (holds types c nW) v) e

  -- what an equation gives to a name that it defines
  gives_same : (ds : List Decl) (e : Eqn) (st : Standing) (nM nW last : Names) (fill free : Instant) (G : Past) (W : Instant) (x : List ℕ) → IsTrue (defines e x) → Seen types st nM nW → OneRight st ds e → FillsEquation types C e fill free → SoundEquation types C e nW last (held fill (remembers_equation types C.remembers e fill G) free) W → W ≡ wired_equation types C e nW last (held fill (remembers_equation types C.remembers e fill G) free) W → where_true (holds types (clock_in ds x) nW) (wired_gives types C e nW last (held fill (remembers_equation types C.remembers e fill G) free) W x) ≡ gives types filled_abstraction N ds e nM last (given G free) (shown_equation types C ds e nW last (held fill (remembers_equation types C.remembers e fill G) free) W) x
  gives_same ds (define s ys e) st nM nW last fill free G W x de seen r fi so h =
      clock_where (clock_in ds x) (clock_of ds ys e) nW (wired_gives types C (define s ys e) nW last (held fill (remembers_equation types C.remembers (define s ys e) fill G) free) W x) (left_on types C ds ys (clock_of ds ys e) x r.1 de)
      ∙ right_same ys e (clock_of ds ys e) nW last (behind types C e (part Right fill) (part Right free) (parts Right G)) (part Right W) x (ap (part Right) h)
      ∙ ap (λ i. right types filled_abstraction N ys e i x) (met types N C M e (clock_of ds ys e) st nM nW last (part Right fill) (part Right free) (parts Right G) (part Right W) seen r.0 r.2 fi so (ap (part Right) h))
  gives_same ds (switch s e arms) st nM nW last fill free G W x de seen r fi so h =
      clock_where (clock_in ds x) [] nW (wired_gives types C (switch s e arms) nW last (held fill (remembers_equation types C.remembers (switch s e arms) fill G) free) W x) (r.0 x de)
      ∙ ap (λ v. arm_value types C Absent arms v last (part ArmsOf W) x) (sym (ap (λ w. w (Test ∷ [])) h))
      ∙ arm_same types C N filled_abstraction Absent arms (W (Test ∷ [])) (within (switch s e arms) nW last) last last (held (part ArmsOf fill) (remembers_arms types C.remembers arms (part ArmsOf fill) (parts ArmsOf G)) (part ArmsOf free)) (part ArmsOf W) x so.1
      ∙ ap (λ v. from_arm types filled_abstraction N arms v last (shown_arms types C arms (W (Test ∷ [])) (within (switch s e arms) nW last) last (held (part ArmsOf fill) (remembers_arms types C.remembers arms (part ArmsOf fill) (parts ArmsOf G)) (part ArmsOf free)) (part ArmsOf W)) x)
      (sym (shown_top types C e [] nW (behind types C e (part Test fill) (part Test free) (parts Test G)) (part Test W)) ∙ ap top (met types N C M e [] st nM nW last (part Test fill) (part Test free) (parts Test G) (part Test W) seen tt r.1 fi.0 so.0 (ap (part Test) h)))
  gives_same ds (reset s b e) st nM nW last fill free G W x de seen r fi so h =
      clock_where (clock_in ds x) [] nW (wired_gives types C (reset s b e) nW last (held fill (remembers_equation types C.remembers (reset s b e) fill G) free) W x) (r.0 x de)
      ∙ sym (shown_named types C b (within (reset s b e) nW last) last (held (part Body fill) _ (part Body free)) (part Body W) x de)
  gives_same ds (automaton s ss) st nM nW last fill free G W x de seen r fi so h =
      let mem = remembers_states types C.remembers ss (part StatesOf fill) (parts StatesOf G) in
      let j = strong_in types C ss ss 0 (selected G) nW last (held (part StatesOf fill) mem (part StatesOf free)) (part StatesOf W) in
      let n : state_of (W (Active ∷ [])) ≡ j.state = ap (λ w. state_of (w (Active ∷ []))) h in
      let nW' = within (automaton s ss) nW last in
      let sh : Instant = shown_states types C ss 0 (state_of (W (Active ∷ []))) nW nW' last (held (part StatesOf fill) mem (part StatesOf free)) (part StatesOf W) in
      clock_where (clock_in ds x) [] nW (wired_gives types C (automaton s ss) nW last (held fill (remembers_equation types C.remembers (automaton s ss) fill G) free) W x) (r.0 x de)
      ∙ ap (λ k. state_value Absent ss 0 k last (part StatesOf W) x) (sym n)
      ∙ state_same types N C M Absent ss 0 (state_of (W (Active ∷ []))) nW' nW last last (held (part StatesOf fill) mem (part StatesOf free)) (part StatesOf W) x so.0
      ∙ ap (λ k. from_state ss 0 k last sh x) n
      ∙ ap (λ j. from_state ss 0 j.state last sh x) (sym (strong_same types N C M ss ss 0 (state_of (W (Active ∷ []))) (selected G) j st nM nW nW' last (part StatesOf fill) (part StatesOf free) (parts StatesOf G) (part StatesOf W) seen r.1 fi so.1 (ap (part StatesOf) h)))

  define_case : (t d : Bool) (u v w v' w' : Value) → IsTrue (t || d) → (IsTrue t → v ≡ v') → (IsTrue d → w ≡ w') → (if t then v else w) ≡ (if t then v' else w')
  define_case true d u v w v' w' e f g = f refl
  define_case false d u v w v' w' e f g = g e

  where_if : (k t : Bool) (v w : Value) → where_true k (if t then v else w) ≡ (if t then where_true k v else where_true k w)
  where_if k true v w = refl
  where_if k false v w = refl

  defined_same : (ds : List Decl) (es : Eqns) (st : Standing) (nM nW last : Names) (fill free : Instant) (G : Past) (W : Instant) (x : List ℕ) → IsTrue (some_defines es x) → Seen types st nM nW → AllRight st ds es → FillsEquations types C es fill free → SoundEquations types C es nW last (held fill (remembers_equations types C.remembers es fill G) free) W → W ≡ wired_equations types C es nW last (held fill (remembers_equations types C.remembers es fill G) free) W → where_true (holds types (clock_in ds x) nW) (wired_defined types C es nW last (held fill (remembers_equations types C.remembers es fill G) free) W x) ≡ defined types filled_abstraction N ds es nM last (given G free) (shown_equations types C ds es nW last (held fill (remembers_equations types C.remembers es fill G) free) W) x
  defined_same ds no_eqn st nM nW last fill free G W x de seen r fi so h = cc
  defined_same ds (more_eqns e es) st nM nW last fill free G W x de seen r fi so h =
      where_if (holds types (clock_in ds x) nW) (defines e x) _ _
      ∙ define_case (defines e x) (some_defines es x) Absent _ _ _ _ de
      (λ t. gives_same ds e st nM nW last (part Head fill) (part Head free) (parts Head G) (part Head W) x t seen r.0 fi.0 so.0 (ap (part Head) h))
      (λ t. defined_same ds es st nM nW last (part Tail fill) (part Tail free) (parts Tail G) (part Tail W) x t seen r.1 fi.1 so.1 (ap (part Tail) h))

  name_case : (d : Bool) (k : Bool) (w u v : Value) → w ≡ (if d then u else Absent) → (IsTrue d → where_true k u ≡ v) → (if d then where_true k w else Absent) ≡ (if d then v else Absent)
  name_case true k w u v e f = ap (where_true k) e ∙ f refl
  name_case false k w u v e f = refl

  pub shown_fresh : (b : Block) (nW last : Names) (m : Held) (W : Instant) → shown_block types C b nW last m W (Fresh ∷ []) ≡ W (Fresh ∷ [])
  shown_fresh (block ds es) nW last m W = refl

  pub wired_fresh : (b : Block) (fresh : Bool) (nW last : Names) (m : Held) (W : Instant) → wired_block types C b fresh nW last m W (Fresh ∷ []) ≡ B fresh
  wired_fresh (block ds es) fresh nW last m W = refl

  fresh_word : (b : Block) (fresh : Bool) (nW last : Names) (m : Held) (W : Instant) → W ≡ wired_block types C b fresh nW last m W → is_true (W (Fresh ∷ [])) ≡ fresh
  fresh_word b fresh nW last m W h = ap (λ w. is_true (w (Fresh ∷ []))) h ∙ ap is_true (wired_fresh b fresh nW last m W)

  block_done : (b : Block) (f : Bool) (nM nW last : Names) (fill free mem : Instant) (Q : Past) (W : Instant) → mem ≡ remembers_block types C.remembers b fill Q → shown_block types C b nW last (held fill (remembers_block types C.remembers b fill Q) free) W ≡ scope types filled_abstraction N b f nM last (given Q free) (shown_block types C b nW last (held fill (remembers_block types C.remembers b fill Q) free) W) → shown_block types C b nW last (held fill mem free) W ≡ scope types filled_abstraction N b f nM last (given Q free) (shown_block types C b nW last (held fill mem free) W)
  block_done b f nM nW last fill free mem Q W q ih =
      ap (λ m. shown_block types C b nW last (held fill m free) W) q ∙ ih ∙ ap (λ m. scope types filled_abstraction N b f nM last (given Q free) (shown_block types C b nW last (held fill m free) W)) (sym q)

  mutual
    pub met_block : (b : Block) (fresh : Bool) (st : Standing) (nM nW last : Names) (fill free : Instant) (G : Past) (W : Instant) → SeenBase st nM nW → BlockRight st b → FillsBlock types C b fill free → SoundBlock types C b nW last (held fill (remembers_block types C.remembers b fill G) free) W → W ≡ wired_block types C b fresh nW last (held fill (remembers_block types C.remembers b fill G) free) W → shown_block types C b nW last (held fill (remembers_block types C.remembers b fill G) free) W ≡ scope types filled_abstraction N b fresh nM last (given G free) (shown_block types C b nW last (held fill (remembers_block types C.remembers b fill G) free) W)
    met_block (block ds es) fresh st nM nW last fill free G W seen r fi so h =
        let mem = remembers_block types C.remembers (block ds es) fill G in
        let sh = shown_block types C (block ds es) nW last (held fill mem free) W in
        let seen' = seen_inside types C ds es st nM nW last (held fill mem free) W seen in
        let st' = standing_in ds es st in
        let nM' = inside es nM sh in
        let nW' = inside es nW W in
        let last' = lasts_in ds mem last in
        let ls = sym (lasts_same types C ds es fill G last) in
        λ z. in_block
        (λ x. (name_case (some_defines es x) (holds types (clock_in ds x) nW') (W (Named x ∷ [])) _ _ (ap (λ w. w (Named x ∷ [])) h)
        (λ t. defined_same ds es st' nM' nW' last' (part Equations fill) (part Equations free) (parts Equations G) (part Equations W) x t seen' r.1 fi so (ap (part Equations) h)
        ∙ ap (λ l. defined types filled_abstraction N ds es nM' l (given (parts Equations G) (part Equations free)) (part Equations sh) x) ls)) z)
        (ap (λ w. w (Fresh ∷ [])) h z)
        ((met_equations ds es st' nM' nW' last' (part Equations fill) (part Equations free) (parts Equations G) (part Equations W) seen' r.1 fi so (ap (part Equations) h)
        ∙ ap (λ l. equations types filled_abstraction N ds es nM' l (given (parts Equations G) (part Equations free)) (part Equations sh)) ls) z)

    pub met_equations : (ds : List Decl) (es : Eqns) (st : Standing) (nM nW last : Names) (fill free : Instant) (G : Past) (W : Instant) → Seen types st nM nW → AllRight st ds es → FillsEquations types C es fill free → SoundEquations types C es nW last (held fill (remembers_equations types C.remembers es fill G) free) W → W ≡ wired_equations types C es nW last (held fill (remembers_equations types C.remembers es fill G) free) W → shown_equations types C ds es nW last (held fill (remembers_equations types C.remembers es fill G) free) W ≡ equations types filled_abstraction N ds es nM last (given G free) (shown_equations types C ds es nW last (held fill (remembers_equations types C.remembers es fill G) free) W)
    met_equations ds no_eqn st nM nW last fill free G W seen r fi so h = refl
    met_equations ds (more_eqns e es) st nM nW last fill free G W seen r fi so h =
        ap₂ of_two
        (met_equation ds e st nM nW last (part Head fill) (part Head free) (parts Head G) (part Head W) seen r.0 fi.0 so.0 (ap (part Head) h))
        (met_equations ds es st nM nW last (part Tail fill) (part Tail free) (parts Tail G) (part Tail W) seen r.1 fi.1 so.1 (ap (part Tail) h))

    pub met_equation : (ds : List Decl) (e : Eqn) (st : Standing) (nM nW last : Names) (fill free : Instant) (G : Past) (W : Instant) → Seen types st nM nW → OneRight st ds e → FillsEquation types C e fill free → SoundEquation types C e nW last (held fill (remembers_equation types C.remembers e fill G) free) W → W ≡ wired_equation types C e nW last (held fill (remembers_equation types C.remembers e fill G) free) W → shown_equation types C ds e nW last (held fill (remembers_equation types C.remembers e fill G) free) W ≡ equation types filled_abstraction N ds e nM last (given G free) (shown_equation types C ds e nW last (held fill (remembers_equation types C.remembers e fill G) free) W)
    met_equation ds (define s ys e) st nM nW last fill free G W seen r fi so h =
        ap in_right (met types N C M e (clock_of ds ys e) st nM nW last (part Right fill) (part Right free) (parts Right G) (part Right W) seen r.0 r.2 fi so (ap (part Right) h))
    met_equation ds (switch s e arms) st nM nW last fill free G W seen r fi so h =
        let i = met types N C M e [] st nM nW last (part Test fill) (part Test free) (parts Test G) (part Test W) seen tt r.1 fi.0 so.0 (ap (part Test) h) in
        let nM' = within (switch s e arms) nM last in
        let nW' = within (switch s e arms) nW last in
        ap₂ with_arms i
        (met_arms arms (W (Test ∷ [])) st nM' nW' last (part ArmsOf fill) (part ArmsOf free) (parts ArmsOf G) (part ArmsOf W) (seen_within (switch s e arms) st nM nW last (base_of types st nM nW seen)) r.2 fi.1 so.2 (ap (part ArmsOf) h)
        ∙ ap (λ v. arm types filled_abstraction N arms v nM' last (given (parts ArmsOf G) (part ArmsOf free)) (shown_arms types C arms (W (Test ∷ [])) nW' last (held (part ArmsOf fill) (remembers_arms types C.remembers arms (part ArmsOf fill) (parts ArmsOf G)) (part ArmsOf free)) (part ArmsOf W)))
        (sym (shown_top types C e [] nW (behind types C e (part Test fill) (part Test free) (parts Test G)) (part Test W)) ∙ ap top i))
    met_equation ds (reset s b e) st nM nW last fill free G W seen r fi so h =
        let i = met types N C M e [] st nM nW last (part Test fill) (part Test free) (parts Test G) (part Test W) seen tt r.1 fi.0 so.0 (ap (part Test) h) in
        let nM' = within (reset s b e) nM last in
        let nW' = within (reset s b e) nW last in
        let f = is_true (W (Test ∷ [])) in
        let P = own (parts Body G) in
        let mem = anew_memory types C b f (part Body fill) (remembers_block types C.remembers b (part Body fill) P) in
        let a : mem ≡ remembers_block types C.remembers b (part Body fill) (if f then [] else P) = anew_same types C b f (part Body fill) P in
        let shows : Instant → Instant = λ m. shown_block types C b nW' last (held (part Body fill) m (part Body free)) (part Body W) in
        ap₂ with_body i
        (ap shows a
        ∙ met_block b f st nM' nW' last (part Body fill) (part Body free) (if f then [] else P) (part Body W) (seen_within (reset s b e) st nM nW last (base_of types st nM nW seen)) r.2 fi.1
        (subst (λ m. SoundBlock types C b nW' last (held (part Body fill) m (part Body free)) (part Body W)) a so.1)
        (ap (part Body) h
        ∙ ap (λ v. wired_block types C b (is_true v) nW' last (held (part Body fill) (anew_memory types C b (is_true v) (part Body fill) (remembers_block types C.remembers b (part Body fill) P)) (part Body free)) (part Body W)) (sym (ap (λ w. w (Test ∷ [])) h))
        ∙ ap (λ m. wired_block types C b f nW' last (held (part Body fill) m (part Body free)) (part Body W)) a)
        ∙ ap (λ m. scope types filled_abstraction N b f nM' last (given (if f then [] else P) (part Body free)) (shows m)) (sym a)
        ∙ ap (λ v. scope types filled_abstraction N b (is_true v) nM' last (given (if is_true v then [] else P) (part Body free)) (shows mem)) (sym (shown_top types C e [] nW (behind types C e (part Test fill) (part Test free) (parts Test G)) (part Test W)) ∙ ap top i))
    met_equation ds (automaton s ss) st nM nW last fill free G W seen r fi so h =
        let mem = remembers_states types C.remembers ss (part StatesOf fill) (parts StatesOf G) in
        let j = strong_in types C ss ss 0 (selected G) nW last (held (part StatesOf fill) mem (part StatesOf free)) (part StatesOf W) in
        let nM' = within (automaton s ss) nM last in
        let nW' = within (automaton s ss) nW last in
        let g = given (parts StatesOf G) (part StatesOf free) in
        let shows : ℕ → Instant = λ n. shown_states types C ss 0 n nW nW' last (held (part StatesOf fill) mem (part StatesOf free)) (part StatesOf W) in
        let n0 = state_of (W (Active ∷ [])) in
        let n : n0 ≡ j.state = ap (λ w. state_of (w (Active ∷ []))) h in
        let base = seen_within (automaton s ss) st nM nW last (base_of types st nM nW seen) in
        let has = subst (λ n. IsTrue (has_state ss 0 n)) n so.0 in
        let jM : strong types filled_abstraction N ss ss 0 (selected G) nM last g (shows n0) ≡ j =
        strong_same types N C M ss ss 0 n0 (selected G) j st nM nW nW' last (part StatesOf fill) (part StatesOf free) (parts StatesOf G) (part StatesOf W) seen r.1 fi so.1 (ap (part StatesOf) h) in
        let wM : weak types filled_abstraction N ss ss 0 j nM' last g (shows j.state) ≡ weak_of types C ss ss 0 j nW' last (held (part StatesOf fill) mem (part StatesOf free)) (part StatesOf W) =
        weak_same types N C M ss ss 0 j st nM' nW' nW last (part StatesOf fill) (part StatesOf free) (parts StatesOf G) (part StatesOf W) has base r.1 fi so.1 (ap (part StatesOf) h) in
        λ z. with_words
        ((ap (λ w. w (Active ∷ [])) h ∙ ap (λ j. state_word j.state) (sym jM)) z)
        ((ap (λ w. w (Next ∷ [])) h ∙ ap (λ w. state_word w.state) (sym wM) ∙ ap₂ (λ j n. state_word (weak types filled_abstraction N ss ss 0 j nM' last g (shows n)).state) (sym jM) (sym n)) z)
        ((ap (λ w. w (Pending ∷ [])) h ∙ ap (λ w. B w.restart) (sym wM) ∙ ap₂ (λ j n. B (weak types filled_abstraction N ss ss 0 j nM' last g (shows n)).restart) (sym jM) (sym n)) z)
        ((ap shows n
        ∙ met_states ss 0 j st nM nW nM' nW' last (part StatesOf fill) (part StatesOf free) (parts StatesOf G) (part StatesOf W) seen base r.1 fi so.1 (ap (part StatesOf) h)
        ∙ ap₂ (λ j n. states types filled_abstraction N ss 0 j nM nM' last g (shows n)) (sym jM) (sym n)) z)

    pub met_states : (ss : States) (k : ℕ) (j : Jump) (st : Standing) (nM nW nM' nW' last : Names) (fill free : Instant) (G : Past) (W : Instant) → Seen types st nM nW → SeenBase st nM' nW' → StatesRight st ss → FillsStates types C ss fill free → SoundStates types C ss nW nW' last (held fill (remembers_states types C.remembers ss fill G) free) W → W ≡ wired_states types C ss j nW nW' last (held fill (remembers_states types C.remembers ss fill G) free) W → shown_states types C ss k j.state nW nW' last (held fill (remembers_states types C.remembers ss fill G) free) W ≡ states types filled_abstraction N ss k j nM nM' last (given G free) (shown_states types C ss k j.state nW nW' last (held fill (remembers_states types C.remembers ss fill G) free) W)
    met_states no_state k j st nM nW nM' nW' last fill free G W seen base r fi so h = refl
    met_states (more_states f b until unless sp ss) k j st nM nW nM' nW' last fill free G W seen base r fi so h =
        let fillB = part Body (part Head fill) in
        let WB = part Body (part Head W) in
        let P = own (parts Body (parts Head G)) in
        let fr = fresh_word b j.restart nW' last (held fillB (anew_memory types C b j.restart fillB (remembers_block types C.remembers b fillB P)) (part Body (part Head free))) WB (ap (λ w. part Body (part Head w)) h) in
        let mem = anew_memory types C b (is_true (WB (Fresh ∷ []))) fillB (remembers_block types C.remembers b fillB P) in
        let q : mem ≡ remembers_block types C.remembers b fillB (if j.restart then [] else P) = ap (λ v. anew_memory types C b v fillB (remembers_block types C.remembers b fillB P)) fr ∙ anew_same types C b j.restart fillB P in
        ap₂ of_two
        (state_case (nat_eq k j.state)
        (shown_block types C b nW' last (held fillB mem (part Body (part Head free))) WB)
        (λ now. scope types filled_abstraction N b j.restart nM' last (given (if j.restart then [] else P) (part Body (part Head free))) now)
        (shown_conditions types C until (read_of b nW' WB) (behind_conditions types C until (part Until (part Head fill)) (part Until (part Head free)) (parts Until (parts Head G))) (part Until (part Head W)))
        (λ B U. conditions types filled_abstraction N until (read_in types filled_abstraction N b nM' B) (last_in types filled_abstraction N b (if j.restart then [] else P) last) (given (parts Until (parts Head G)) (part Until (part Head free))) U)
        (in_row (shown_conditions types C unless nW (behind_conditions types C unless (part Unless (part Head fill)) (part Unless (part Head free)) (parts Unless (parts Head G))) (part Unless (part Head W)))) _
        (block_done b j.restart nM' nW' last fillB (part Body (part Head free)) mem (if j.restart then [] else P) WB q
        (met_block b j.restart st nM' nW' last fillB (part Body (part Head free)) (if j.restart then [] else P) WB base r.0 fi.0
        (subst (λ m. SoundBlock types C b nW' last (held fillB m (part Body (part Head free))) WB) q so.0)
        (ap (λ w. part Body (part Head w)) h ∙ ap (λ m. wired_block types C b j.restart nW' last (held fillB m (part Body (part Head free))) WB) (anew_same types C b j.restart fillB P))))
        (weak_met types N C M b until j.restart st nM' nW' last (part Head fill) (part Head free) mem (parts Body (parts Head G)) (parts Until (parts Head G)) (part Head W) base r.1 fi.1 so.1 (ap (λ w. part Until (part Head w)) h))
        (ap in_row (conditions_met types N C M unless st nM nW last (part Unless (part Head fill)) (part Unless (part Head free)) (parts Unless (parts Head G)) (part Unless (part Head W)) seen r.2 fi.2 so.2 (ap (λ w. part Unless (part Head w)) h))))
        (met_states ss (suc k) j st nM nW nM' nW' last (part Tail fill) (part Tail free) (parts Tail G) (part Tail W) seen base r.3 fi.3 so.3 (ap (part Tail) h))

    pub met_arms : (arms : Arms) (v : Value) (st : Standing) (nM nW last : Names) (fill free : Instant) (G : Past) (W : Instant) → SeenBase st nM nW → ArmsRight st arms → FillsArms types C arms fill free → SoundArms types C arms nW last (held fill (remembers_arms types C.remembers arms fill G) free) W → W ≡ wired_arms types C arms nW last (held fill (remembers_arms types C.remembers arms fill G) free) W → shown_arms types C arms v nW last (held fill (remembers_arms types C.remembers arms fill G) free) W ≡ arm types filled_abstraction N arms v nM last (given G free) (shown_arms types C arms v nW last (held fill (remembers_arms types C.remembers arms fill G) free) W)
    met_arms no_arm v st nM nW last fill free G W seen r fi so h = refl
    met_arms (more_arms c b s arms) v st nM nW last fill free G W seen r fi so h =
        ap₂ of_two
        (there_case (is_cons types v c) _ (λ now. scope types filled_abstraction N b false nM last (given (own (parts Head G)) (part Head free)) now)
        (met_block b false st nM nW last (part Head fill) (part Head free) (own (parts Head G)) (part Head W) seen r.0 fi.0 so.0 (ap (part Head) h)))
        (met_arms arms v st nM nW last (part Tail fill) (part Tail free) (parts Tail G) (part Tail W) seen r.1 fi.1 so.1 (ap (part Tail) h))

  -- ---- the next memory

  absent_case : (d : Bool) (w u : Value) → w ≡ (if d then u else Absent) → IsFalse d → w ≡ Absent
  absent_case true w u e f = cc
  absent_case false w u e f = e

  kept_arm : (d : Bool) (b : Block) (fill : Instant) (P : Past) (sh nx : Instant) → sh (Fresh ∷ []) ≡ B false → remembers_block types C.remembers b fill (sh ∷ own P) ≡ nx → remembers_block types C.remembers b fill (own ((if d then sh else nothing) ∷ P)) ≡ (if d then nx else remembers_block types C.remembers b fill (own P))
  kept_arm true b fill P sh nx f e = ap (remembers_block types C.remembers b fill) (own_case true sh P f) ∙ e
  kept_arm false b fill P sh nx f e = refl

  kept_state : (d : Bool) (b : Block) (fill : Instant) (P : Past) (f : Bool) (sh nx : Instant) → sh (Fresh ∷ []) ≡ B f → remembers_block types C.remembers b fill (sh ∷ (if f then [] else own P)) ≡ nx → remembers_block types C.remembers b fill (own ((if d then sh else nothing) ∷ P)) ≡ (if d then nx else remembers_block types C.remembers b fill (own P))
  kept_state true b fill P f sh nx e g = ap (remembers_block types C.remembers b fill) (own_fresh f sh P e) ∙ g
  kept_state false b fill P f sh nx e g = refl

  mutual
    pub kept_block : (b : Block) (fresh : Bool) (st : Standing) (nW last : Names) (fill free : Instant) (G : Past) (W : Instant) → BlockRight st b → SoundBlock types C b nW last (held fill (remembers_block types C.remembers b fill G) free) W → W ≡ wired_block types C b fresh nW last (held fill (remembers_block types C.remembers b fill G) free) W → remembers_block types C.remembers b fill (shown_block types C b nW last (held fill (remembers_block types C.remembers b fill G) free) W ∷ G) ≡ next_block types C b nW last (held fill (remembers_block types C.remembers b fill G) free) W
    kept_block (block ds es) fresh st nW last fill free G W r so h =
        let mem = remembers_block types C.remembers (block ds es) fill G in
        λ z. in_block
        (λ x. names_kept types C (standing_in ds es st) ds es nW last (held fill mem free) W G x r.0 (absent_case (some_defines es x) (W (Named x ∷ [])) _ (ap (λ w. w (Named x ∷ [])) h)) z)
        Absent
        (kept_equations ds es (standing_in ds es st) (inside es nW W) (lasts_in ds mem last) (part Equations fill) (part Equations free) (parts Equations G) (part Equations W) r.1 so (ap (part Equations) h) z)

    pub kept_equations : (ds : List Decl) (es : Eqns) (st : Standing) (nW last : Names) (fill free : Instant) (G : Past) (W : Instant) → AllRight st ds es → SoundEquations types C es nW last (held fill (remembers_equations types C.remembers es fill G) free) W → W ≡ wired_equations types C es nW last (held fill (remembers_equations types C.remembers es fill G) free) W → remembers_equations types C.remembers es fill (shown_equations types C ds es nW last (held fill (remembers_equations types C.remembers es fill G) free) W ∷ G) ≡ next_equations types C ds es nW last (held fill (remembers_equations types C.remembers es fill G) free) W
    kept_equations ds no_eqn st nW last fill free G W r so h = refl
    kept_equations ds (more_eqns e es) st nW last fill free G W r so h =
        ap₂ of_two
        (kept_equation ds e st nW last (part Head fill) (part Head free) (parts Head G) (part Head W) r.0 so.0 (ap (part Head) h))
        (kept_equations ds es st nW last (part Tail fill) (part Tail free) (parts Tail G) (part Tail W) r.1 so.1 (ap (part Tail) h))

    pub kept_equation : (ds : List Decl) (e : Eqn) (st : Standing) (nW last : Names) (fill free : Instant) (G : Past) (W : Instant) → OneRight st ds e → SoundEquation types C e nW last (held fill (remembers_equation types C.remembers e fill G) free) W → W ≡ wired_equation types C e nW last (held fill (remembers_equation types C.remembers e fill G) free) W → remembers_equation types C.remembers e fill (shown_equation types C ds e nW last (held fill (remembers_equation types C.remembers e fill G) free) W ∷ G) ≡ next_equation types C ds e nW last (held fill (remembers_equation types C.remembers e fill G) free) W
    kept_equation ds (define s ys e) st nW last fill free G W r so h =
        ap in_right (kept types N C M e (clock_of ds ys e) nW last (part Right fill) (part Right free) (parts Right G) (part Right W) so (ap (part Right) h))
    kept_equation ds (switch s e arms) st nW last fill free G W r so h =
        ap₂ with_arms
        (kept types N C M e [] nW last (part Test fill) (part Test free) (parts Test G) (part Test W) so.0 (ap (part Test) h))
        (kept_arms arms (W (Test ∷ [])) st (within (switch s e arms) nW last) last (part ArmsOf fill) (part ArmsOf free) (parts ArmsOf G) (part ArmsOf W) r.2 so.2 (ap (part ArmsOf) h))
    kept_equation ds (reset s b e) st nW last fill free G W r so h =
        let nW' = within (reset s b e) nW last in
        let f = is_true (W (Test ∷ [])) in
        let P = own (parts Body G) in
        let a : anew_memory types C b f (part Body fill) (remembers_block types C.remembers b (part Body fill) P) ≡ remembers_block types C.remembers b (part Body fill) (if f then [] else P) = anew_same types C b f (part Body fill) P in
        let shows : Instant → Instant = λ m. shown_block types C b nW' last (held (part Body fill) m (part Body free)) (part Body W) in
        let h' : part Body W ≡ wired_block types C b f nW' last (held (part Body fill) (remembers_block types C.remembers b (part Body fill) (if f then [] else P)) (part Body free)) (part Body W) =
        ap (part Body) h
        ∙ ap (λ v. wired_block types C b (is_true v) nW' last (held (part Body fill) (anew_memory types C b (is_true v) (part Body fill) (remembers_block types C.remembers b (part Body fill) P)) (part Body free)) (part Body W)) (sym (ap (λ w. w (Test ∷ [])) h))
        ∙ ap (λ m. wired_block types C b f nW' last (held (part Body fill) m (part Body free)) (part Body W)) a in
        ap₂ with_body
        (kept types N C M e [] nW last (part Test fill) (part Test free) (parts Test G) (part Test W) so.0 (ap (part Test) h))
        (ap (λ m. remembers_block types C.remembers b (part Body fill) (own (shows m ∷ parts Body G))) a
        ∙ ap (remembers_block types C.remembers b (part Body fill))
        (own_fresh f (shows (remembers_block types C.remembers b (part Body fill) (if f then [] else P))) (parts Body G)
        (shown_fresh b nW' last (held (part Body fill) _ (part Body free)) (part Body W) ∙ ap (λ w. w (Fresh ∷ [])) h' ∙ wired_fresh b f nW' last (held (part Body fill) _ (part Body free)) (part Body W)))
        ∙ kept_block b f st nW' last (part Body fill) (part Body free) (if f then [] else P) (part Body W) r.2
        (subst (λ m. SoundBlock types C b nW' last (held (part Body fill) m (part Body free)) (part Body W)) a so.1) h'
        ∙ ap (λ m. next_block types C b nW' last (held (part Body fill) m (part Body free)) (part Body W)) (sym a))
    kept_equation ds (automaton s ss) st nW last fill free G W r so h =
        let mem = remembers_states types C.remembers ss (part StatesOf fill) (parts StatesOf G) in
        let j = strong_in types C ss ss 0 (selected G) nW last (held (part StatesOf fill) mem (part StatesOf free)) (part StatesOf W) in
        let nW' = within (automaton s ss) nW last in
        let w = weak_of types C ss ss 0 j nW' last (held (part StatesOf fill) mem (part StatesOf free)) (part StatesOf W) in
        λ z. with_words Absent
        ((ap (λ w. state_word (state_of (w (Next ∷ [])))) h ∙ sym (ap (λ w. w (Next ∷ [])) h)) z)
        ((ap (λ w. B (is_true (w (Pending ∷ [])))) h ∙ sym (ap (λ w. w (Pending ∷ [])) h)) z)
        (kept_states ss 0 (state_of (W (Active ∷ []))) j st nW nW' last (part StatesOf fill) (part StatesOf free) (parts StatesOf G) (part StatesOf W) r.1 so.1 (ap (part StatesOf) h) z)

    pub kept_states : (ss : States) (k n : ℕ) (j : Jump) (st : Standing) (nW nW' last : Names) (fill free : Instant) (G : Past) (W : Instant) → StatesRight st ss → SoundStates types C ss nW nW' last (held fill (remembers_states types C.remembers ss fill G) free) W → W ≡ wired_states types C ss j nW nW' last (held fill (remembers_states types C.remembers ss fill G) free) W → remembers_states types C.remembers ss fill (shown_states types C ss k n nW nW' last (held fill (remembers_states types C.remembers ss fill G) free) W ∷ G) ≡ next_states types C ss k n nW nW' last (held fill (remembers_states types C.remembers ss fill G) free) W
    kept_states no_state k n j st nW nW' last fill free G W r so h = refl
    kept_states (more_states f b until unless sp ss) k n j st nW nW' last fill free G W r so h =
        let fillB = part Body (part Head fill) in
        let WB = part Body (part Head W) in
        let PB = parts Body (parts Head G) in
        let P = own PB in
        let hB = ap (λ w. part Body (part Head w)) h in
        let fr = fresh_word b j.restart nW' last (held fillB (anew_memory types C b j.restart fillB (remembers_block types C.remembers b fillB P)) (part Body (part Head free))) WB hB in
        let mem = anew_memory types C b (is_true (WB (Fresh ∷ []))) fillB (remembers_block types C.remembers b fillB P) in
        let q : mem ≡ remembers_block types C.remembers b fillB (if j.restart then [] else P) = ap (λ v. anew_memory types C b v fillB (remembers_block types C.remembers b fillB P)) fr ∙ anew_same types C b j.restart fillB P in
        ap₂ of_two
        (λ z. in_state
        (kept_state (nat_eq k n) b fillB PB j.restart (shown_block types C b nW' last (held fillB mem (part Body (part Head free))) WB) (next_block types C b nW' last (held fillB mem (part Body (part Head free))) WB)
        (shown_fresh b nW' last (held fillB mem (part Body (part Head free))) WB ∙ ap (λ w. w (Fresh ∷ [])) hB ∙ wired_fresh b j.restart nW' last (held fillB (anew_memory types C b j.restart fillB (remembers_block types C.remembers b fillB P)) (part Body (part Head free))) WB)
        (ap (λ m. remembers_block types C.remembers b fillB (shown_block types C b nW' last (held fillB m (part Body (part Head free))) WB ∷ (if j.restart then [] else P))) q
        ∙ kept_block b j.restart st nW' last fillB (part Body (part Head free)) (if j.restart then [] else P) WB r.0
        (subst (λ m. SoundBlock types C b nW' last (held fillB m (part Body (part Head free))) WB) q so.0)
        (hB ∙ ap (λ m. wired_block types C b j.restart nW' last (held fillB m (part Body (part Head free))) WB) (anew_same types C b j.restart fillB P))
        ∙ ap (λ m. next_block types C b nW' last (held fillB m (part Body (part Head free))) WB) (sym q)) z)
        (kept_until types N C M (nat_eq k n) until (read_of b nW' WB) _ (part Until (part Head fill)) (part Until (part Head free)) (parts Until (parts Head G)) (part Until (part Head W)) so.1 (ap (λ w. part Until (part Head w)) h) z)
        (in_row (kept_conditions types N C M unless nW last (part Unless (part Head fill)) (part Unless (part Head free)) (parts Unless (parts Head G)) (part Unless (part Head W)) so.2 (ap (λ w. part Unless (part Head w)) h) z)))
        (kept_states ss (suc k) n j st nW nW' last (part Tail fill) (part Tail free) (parts Tail G) (part Tail W) r.3 so.3 (ap (part Tail) h))

    pub kept_arms : (arms : Arms) (v : Value) (st : Standing) (nW last : Names) (fill free : Instant) (G : Past) (W : Instant) → ArmsRight st arms → SoundArms types C arms nW last (held fill (remembers_arms types C.remembers arms fill G) free) W → W ≡ wired_arms types C arms nW last (held fill (remembers_arms types C.remembers arms fill G) free) W → remembers_arms types C.remembers arms fill (shown_arms types C arms v nW last (held fill (remembers_arms types C.remembers arms fill G) free) W ∷ G) ≡ next_arms types C arms v nW last (held fill (remembers_arms types C.remembers arms fill G) free) W
    kept_arms no_arm v st nW last fill free G W r so h = refl
    kept_arms (more_arms c b s arms) v st nW last fill free G W r so h =
        let mem = remembers_block types C.remembers b (part Head fill) (own (parts Head G)) in
        ap₂ of_two
        (kept_arm (is_cons types v c) b (part Head fill) (parts Head G) (shown_block types C b nW last (held (part Head fill) mem (part Head free)) (part Head W)) (next_block types C b nW last (held (part Head fill) mem (part Head free)) (part Head W))
        (shown_fresh b nW last (held (part Head fill) mem (part Head free)) (part Head W) ∙ ap (λ w. w (Head ∷ Fresh ∷ [])) h ∙ wired_fresh b false nW last (held (part Head fill) mem (part Head free)) (part Head W))
        (kept_block b false st nW last (part Head fill) (part Head free) (own (parts Head G)) (part Head W) r.0 so.0 (ap (part Head) h)))
        (kept_arms arms v st nW last (part Tail fill) (part Tail free) (parts Tail G) (part Tail W) r.1 so.1 (ap (part Tail) h))
