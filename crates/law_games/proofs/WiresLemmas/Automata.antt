-- Automata: conditions, the jump, the next state, and what their states give.
use Rattle.std.proofs.Common.{◌≡◌, List, [], ◌∷◌, map, refl, sym, ap, ap₂, ◌∙◌}
use Rattle.std.specs.Prelude.{Bool, true, false, if◌then◌else◌, IsTrue, ◌||◌, ℕ, nat_eq, suc}
use Rattle.hp_base.specs.declared.value.Value.{Value}
use Rattle.hp_base.specs.declared.value.Value.TheVariants.{Absent, Nil}
use Rattle.hp_tree.specs.declared.block.Trans.{Trans}
use Rattle.hp_tree.specs.Expressions.{Expr, constant, variable, last_of, one, two, choose, pre, fby, arrow, when_is, merge, call, Exprs, no_expr, more_exprs, Parts, no_part, more_parts}
use Rattle.hp_tree.specs.Blocks.{Block, block, States, no_state, more_states}
use Rattle.hp_tree.specs.Programs.{TypeDecl}
use Rattle.hp_tree.specs.Operators.{is_true}
use Rattle.hp_tree.specs.Instant.{Fresh, Head, Tail, Until, Unless, Body, First, Second, Third, Args, Instance, Instant, Past, part, parts, top, own, newest, at_first, nothing, with_one, with_two, with_three, with_row, with_instance, in_row}
use Rattle.hp_tree.specs.Meaning.{Names, Nodes, Jump, first_true, from_block, from_state, conditions, strong, weak, read_in, last_in}
use Rattle.hp_meaning.specs.Causal.Clocked.{Standing, standing_of, ConditionsOn, StatesRight}
use Rattle.hp_meaning.specs.Contract.Memory.{remembering, has_past, remembers, remembers_all, remembers_parts, remembers_conditions, remembers_block, remembers_states}
use Rattle.law_games.specs.Wires.Wired.{filled_abstraction, Held, held, held_at, blank, lasts_in, Callees}
use Rattle.law_games.specs.Wires.WiredBlocks.{read_of, lasts_of, state_value, has_state, anew_memory, anew, wired_conditions, strong_in, weak_of, wired_states, shown_block, shown_conditions, shown_states, next_conditions, SoundConditions, SoundStates, FillsConditions, FillsStates}
use Rattle.law_games.proofs.WiresLemmas.Exprs.{CallsMirror, behind_conditions, given, Seen, shown_top, met, kept}
use Rattle.law_games.proofs.WiresLemmas.Names.{SeenBase, seen_inside, lasts_same, from_same, anew_same}

module _ (types : List TypeDecl) (N : Nodes) (C : Callees) (M : CallsMirror N C) where
  -- ---- conditions

  pub conditions_met : (ts : List Trans) (st : Standing) (nM nW last : Names) (fill free : Instant) (G : Past) (W : Instant) → Seen types st nM nW → ConditionsOn st ts → FillsConditions types C ts fill free → SoundConditions types C ts nW (behind_conditions types C ts fill free G) W → W ≡ in_row (wired_conditions types C ts nW last (held fill (in_row (remembers_conditions types C.remembers ts fill G)) free) W) → shown_conditions types C ts nW (behind_conditions types C ts fill free G) W ≡ conditions types filled_abstraction N ts nM last (given G free) (in_row (shown_conditions types C ts nW (behind_conditions types C ts fill free G) W))
  conditions_met [] st nM nW last fill free G W seen r fi so h = refl
  conditions_met (t ∷ ts) st nM nW last fill free G W seen r fi so h =
      ap₂ (λ i is. i ∷ is)
      (met types N C M t.cond [] st nM nW last (part Head fill) (part Head free) (parts Head G) (part Head W) seen tt r.0 fi.0 so.0 (ap (part Head) h))
      (conditions_met ts st nM nW last (part Tail fill) (part Tail free) (parts Tail G) (part Tail W) seen r.1 fi.1 so.1 (ap (part Tail) h))

  pub tops_conditions : (ts : List Trans) (nW last : Names) (m : Held) (now W : Instant) → W ≡ in_row (wired_conditions types C ts nW last m now) → map top (shown_conditions types C ts nW m W) ≡ map top (wired_conditions types C ts nW last m now)
  tops_conditions [] nW last m now W h = refl
  tops_conditions (t ∷ ts) nW last m now W h =
      ap₂ (λ v vs. v ∷ vs) (shown_top types C t.cond [] nW (held_at Head m) (part Head W) ∙ ap (λ w. w (Head ∷ [])) h) (tops_conditions ts nW last (held_at Tail m) (part Tail now) (part Tail W) (ap (part Tail) h))

  pub kept_conditions : (ts : List Trans) (nW last : Names) (fill free : Instant) (G : Past) (W : Instant) → SoundConditions types C ts nW (behind_conditions types C ts fill free G) W → W ≡ in_row (wired_conditions types C ts nW last (held fill (in_row (remembers_conditions types C.remembers ts fill G)) free) W) → remembers_conditions types C.remembers ts fill (in_row (shown_conditions types C ts nW (behind_conditions types C ts fill free G) W) ∷ G) ≡ next_conditions types C ts nW (held fill (in_row (remembers_conditions types C.remembers ts fill G)) free) W
  kept_conditions [] nW last fill free G W so h = refl
  kept_conditions (t ∷ ts) nW last fill free G W so h =
      ap₂ (λ i is. i ∷ is) (kept types N C M t.cond [] nW last (part Head fill) (part Head free) (parts Head G) (part Head W) so.0 (ap (part Head) h)) (kept_conditions ts nW last (part Tail fill) (part Tail free) (parts Tail G) (part Tail W) so.1 (ap (part Tail) h))

  -- what is not there is not remembered
  mutual
    pub passed : (e : Expr) (fill : Instant) (G : Past) → remembers types C.remembers e fill (nothing ∷ G) ≡ remembers types C.remembers e fill G
    passed (constant s c) fill G = refl
    passed (variable s x) fill G = refl
    passed (last_of s x) fill G = refl
    passed (one s o a) fill G = ap (with_one Absent) (passed a (part First fill) (parts First G))
    passed (two s o a b) fill G = ap₂ (with_two Absent) (passed a (part First fill) (parts First G)) (passed b (part Second fill) (parts Second G))
    passed (choose s a b c) fill G =
        λ z. with_three Absent (passed a (part First fill) (parts First G) z) (passed b (part Second fill) (parts Second G) z) (passed c (part Third fill) (parts Third G) z)
    passed (pre s a) fill G = λ z. remembering (newest (top fill) (parts First G)) Absent (passed a (part First fill) (parts First G) z) nothing
    passed (fby s a b) fill G = λ z. remembering (at_first (parts First G) (top fill) (newest Nil (parts Second G))) (has_past (parts First G)) (passed a (part First fill) (parts First G) z) (passed b (part Second fill) (parts Second G) z)
    passed (arrow s a b) fill G = λ z. remembering Absent (has_past (parts First G)) (passed a (part First fill) (parts First G) z) (passed b (part Second fill) (parts Second G) z)
    passed (when_is s a c x) fill G = ap (with_one Absent) (passed a (part First fill) (parts First G))
    passed (merge s x ps) fill G = ap (with_row Absent) (passed_parts ps (part Args fill) (parts Args G))
    passed (call s f inlined es) fill G = ap (λ is. with_instance Absent is (C.remembers f (part Instance fill) (own (parts Instance G)))) (passed_all es (part Args fill) (parts Args G))

    pub passed_all : (es : Exprs) (fill : Instant) (G : Past) → remembers_all types C.remembers es fill (nothing ∷ G) ≡ remembers_all types C.remembers es fill G
    passed_all no_expr fill G = refl
    passed_all (more_exprs e es) fill G = ap₂ (λ i is. i ∷ is) (passed e (part Head fill) (parts Head G)) (passed_all es (part Tail fill) (parts Tail G))

    pub passed_parts : (ps : Parts) (fill : Instant) (G : Past) → remembers_parts types C.remembers ps fill (nothing ∷ G) ≡ remembers_parts types C.remembers ps fill G
    passed_parts no_part fill G = refl
    passed_parts (more_parts c e ps) fill G = ap₂ (λ i is. i ∷ is) (passed e (part Head fill) (parts Head G)) (passed_parts ps (part Tail fill) (parts Tail G))

  passed_conditions : (ts : List Trans) (fill : Instant) (G : Past) → remembers_conditions types C.remembers ts fill (nothing ∷ G) ≡ remembers_conditions types C.remembers ts fill G
  passed_conditions [] fill G = refl
  passed_conditions (t ∷ ts) fill G = ap₂ (λ i is. i ∷ is) (passed t.cond (part Head fill) (parts Head G)) (passed_conditions ts (part Tail fill) (parts Tail G))

  -- the weak conditions of a state that is there, or not
  pub kept_until : (d : Bool) (ts : List Trans) (nW last : Names) (fill free : Instant) (G : Past) (W : Instant) → SoundConditions types C ts nW (behind_conditions types C ts fill free G) W → W ≡ in_row (wired_conditions types C ts nW last (held fill (in_row (remembers_conditions types C.remembers ts fill G)) free) W) → in_row (remembers_conditions types C.remembers ts fill ((if d then in_row (shown_conditions types C ts nW (behind_conditions types C ts fill free G) W) else nothing) ∷ G)) ≡ (if d then in_row (next_conditions types C ts nW (held fill (in_row (remembers_conditions types C.remembers ts fill G)) free) W) else in_row (remembers_conditions types C.remembers ts fill G))
  kept_until true ts nW last fill free G W so h = ap in_row (kept_conditions ts nW last fill free G W so h)
  kept_until false ts nW last fill free G W so h = ap in_row (passed_conditions ts fill G)

  -- ---- the jump

  pub strong_same : (all ss : States) (k n : ℕ) (s j : Jump) (st : Standing) (nM nW nW' last : Names) (fill free : Instant) (G : Past) (W : Instant) → Seen types st nM nW → StatesRight st ss → FillsStates types C ss fill free → SoundStates types C ss nW nW' last (held fill (remembers_states types C.remembers ss fill G) free) W → W ≡ wired_states types C ss j nW nW' last (held fill (remembers_states types C.remembers ss fill G) free) W → strong types filled_abstraction N all ss k s nM last (given G free) (shown_states types C ss k n nW nW' last (held fill (remembers_states types C.remembers ss fill G) free) W) ≡ strong_in types C all ss k s nW last (held fill (remembers_states types C.remembers ss fill G) free) W
  strong_same all no_state k n s j st nM nW nW' last fill free G W seen r fi so h = refl
  strong_same all (more_states f b until unless p ss) k n s j st nM nW nW' last fill free G W seen r fi so h =
      ap₂ (λ vs j. if nat_eq k s.state then first_true all unless vs s else j)
      (sym (ap (map top) (conditions_met unless st nM nW last (part Unless (part Head fill)) (part Unless (part Head free)) (parts Unless (parts Head G)) (part Unless (part Head W)) seen r.2 fi.2 so.2 (ap (λ w. part Unless (part Head w)) h)))
      ∙ tops_conditions unless nW last (behind_conditions types C unless (part Unless (part Head fill)) (part Unless (part Head free)) (parts Unless (parts Head G))) (part Unless (part Head W)) (part Unless (part Head W)) (ap (λ w. part Unless (part Head w)) h))
      (strong_same all ss (suc k) n s j st nM nW nW' last (part Tail fill) (part Tail free) (parts Tail G) (part Tail W) seen r.3 fi.3 so.3 (ap (part Tail) h))

  -- ---- weak conditions of the state that is there

  last_same : (b : Block) (f : Bool) (fill : Instant) (P : Past) (last : Names) → last_in types filled_abstraction N b (if f then [] else P) last ≡ lasts_of b (anew_memory types C b f fill (remembers_block types C.remembers b fill P)) last
  last_same (block ds es) f fill P last =
      lasts_same types C ds es fill (if f then [] else P) last ∙ ap (λ m. lasts_in ds m last) (sym (anew_same types C (block ds es) f fill P))

  pub seen_read : (b : Block) (st : Standing) (nM nW last : Names) (m : Held) (W : Instant) → SeenBase st nM nW → Seen types (standing_of b st) (read_in types filled_abstraction N b nM (shown_block types C b nW last m W)) (read_of b nW W)
  seen_read (block ds es) st nM nW last m W s = seen_inside types C ds es st nM nW last m W s

  pub weak_met : (b : Block) (until : List Trans) (f : Bool) (st : Standing) (nM nW last : Names) (fill free mem : Instant) (GB GU : Past) (W : Instant) → SeenBase st nM nW → ConditionsOn (standing_of b st) until → FillsConditions types C until (part Until fill) (part Until free) → SoundConditions types C until (read_of b nW (part Body W)) (behind_conditions types C until (part Until fill) (part Until free) GU) (part Until W) → part Until W ≡ in_row (wired_conditions types C until (read_of b nW (part Body W)) (lasts_of b (anew_memory types C b f (part Body fill) (remembers_block types C.remembers b (part Body fill) (own GB))) last) (held (part Until fill) (in_row (remembers_conditions types C.remembers until (part Until fill) GU)) (part Until free)) (part Until W)) → shown_conditions types C until (read_of b nW (part Body W)) (behind_conditions types C until (part Until fill) (part Until free) GU) (part Until W) ≡ conditions types filled_abstraction N until (read_in types filled_abstraction N b nM (shown_block types C b nW last (held (part Body fill) mem (part Body free)) (part Body W))) (last_in types filled_abstraction N b (if f then [] else own GB) last) (given GU (part Until free)) (in_row (shown_conditions types C until (read_of b nW (part Body W)) (behind_conditions types C until (part Until fill) (part Until free) GU) (part Until W)))
  weak_met b until f st nM nW last fill free mem GB GU W seen r fi so h =
      conditions_met until (standing_of b st) (read_in types filled_abstraction N b nM (shown_block types C b nW last (held (part Body fill) mem (part Body free)) (part Body W))) (read_of b nW (part Body W))
      (lasts_of b (anew_memory types C b f (part Body fill) (remembers_block types C.remembers b (part Body fill) (own GB))) last) (part Until fill) (part Until free) GU (part Until W)
      (seen_read b st nM nW last (held (part Body fill) mem (part Body free)) (part Body W) seen) r fi so h
      ∙ ap (λ l. conditions types filled_abstraction N until (read_in types filled_abstraction N b nM (shown_block types C b nW last (held (part Body fill) mem (part Body free)) (part Body W))) l (given GU (part Until free)) (in_row (shown_conditions types C until (read_of b nW (part Body W)) (behind_conditions types C until (part Until fill) (part Until free) GU) (part Until W))))
      (sym (last_same b f (part Body fill) (own GB) last))

  weak_case : (d : Bool) (all : States) (until : List Trans) (s w w' : Jump) (SB : Instant) (U : List Instant) (vs : List Value) (F : Instant → Instant → List Instant) (h : Bool) → IsTrue (d || h) → map top (F SB (in_row U)) ≡ vs → (IsTrue h → w ≡ w') → (if d then first_true all until (map top (F (if d then SB else nothing) (if d then in_row U else nothing))) s else w) ≡ (if d then first_true all until vs s else w')
  weak_case true all until s w w' SB U vs F h e f g = ap (λ vs. first_true all until vs s) f
  weak_case false all until s w w' SB U vs F h e f g = g e

  pub weak_same : (all ss : States) (k : ℕ) (s : Jump) (st : Standing) (nM nW out last : Names) (fill free : Instant) (G : Past) (W : Instant) → IsTrue (has_state ss k s.state) → SeenBase st nM nW → StatesRight st ss → FillsStates types C ss fill free → SoundStates types C ss out nW last (held fill (remembers_states types C.remembers ss fill G) free) W → W ≡ wired_states types C ss s out nW last (held fill (remembers_states types C.remembers ss fill G) free) W → weak types filled_abstraction N all ss k s nM last (given G free) (shown_states types C ss k s.state out nW last (held fill (remembers_states types C.remembers ss fill G) free) W) ≡ weak_of types C all ss k s nW last (held fill (remembers_states types C.remembers ss fill G) free) W
  weak_same all no_state k s st nM nW out last fill free G W t seen r fi so h = cc
  weak_same all (more_states f b until unless p ss) k s st nM nW out last fill free G W t seen r fi so h =
      let mem = anew_memory types C b (is_true (W (Head ∷ Body ∷ Fresh ∷ []))) (part Body (part Head fill)) (remembers_block types C.remembers b (part Body (part Head fill)) (own (parts Body (parts Head G)))) in
      weak_case (nat_eq k s.state) all until (record { state = s.state; restart = false }) _ _
      (shown_block types C b nW last (held (part Body (part Head fill)) mem (part Body (part Head free))) (part Body (part Head W)))
      (shown_conditions types C until (read_of b nW (part Body (part Head W))) (behind_conditions types C until (part Until (part Head fill)) (part Until (part Head free)) (parts Until (parts Head G))) (part Until (part Head W)))
      _
      (λ B U. conditions types filled_abstraction N until (read_in types filled_abstraction N b nM B) (last_in types filled_abstraction N b (if s.restart then [] else own (parts Body (parts Head G))) last) (given (parts Until (parts Head G)) (part Until (part Head free))) U)
      (has_state ss (suc k) s.state) t
      (sym (ap (map top) (weak_met b until s.restart st nM nW last (part Head fill) (part Head free) mem (parts Body (parts Head G)) (parts Until (parts Head G)) (part Head W) seen r.1 fi.1 so.1 (ap (λ w. part Until (part Head w)) h)))
      ∙ tops_conditions until (read_of b nW (part Body (part Head W))) _ (behind_conditions types C until (part Until (part Head fill)) (part Until (part Head free)) (parts Until (parts Head G))) (part Until (part Head W)) (part Until (part Head W)) (ap (λ w. part Until (part Head w)) h))
      (λ e. weak_same all ss (suc k) s st nM nW out last (part Tail fill) (part Tail free) (parts Tail G) (part Tail W) e seen r.3 fi.3 so.3 (ap (part Tail) h))

  -- what the state that is there gives to a name
  pub state_same : (d : Value) (ss : States) (k n : ℕ) (nW out last last' : Names) (m : Held) (W : Instant) (x : List ℕ) → IsTrue (has_state ss k n) → state_value d ss k n last W x ≡ from_state ss k n last (shown_states types C ss k n out nW last' m W) x
  state_same d no_state k n nW out last last' m W x e = cc
  state_same d (more_states f b until unless sp ss) k n nW out last last' m W x e =
      by_case (nat_eq k n) _ (from_same types C b nW last last' (anew types C b (is_true (W (Head ∷ Body ∷ Fresh ∷ []))) (held_at Body (held_at Head m))) (part Body (part Head W)) x)
      (state_same (blank (from_block b last (part Body (part Head W)) x)) ss (suc k) n nW out last last' (held_at Tail m) (part Tail W) x) e
    where
      by_case : (t : Bool) (SB : Instant) → from_block b last SB x ≡ from_block b last (part Body (part Head W)) x → (IsTrue (has_state ss (suc k) n) → state_value (blank (from_block b last (part Body (part Head W)) x)) ss (suc k) n last (part Tail W) x ≡ from_state ss (suc k) n last (shown_states types C ss (suc k) n out nW last' (held_at Tail m) (part Tail W)) x) → IsTrue (t || has_state ss (suc k) n) → (if t then from_block b last (part Body (part Head W)) x else state_value (blank (from_block b last (part Body (part Head W)) x)) ss (suc k) n last (part Tail W) x) ≡ (if t then from_block b last (if t then SB else nothing) x else from_state ss (suc k) n last (shown_states types C ss (suc k) n out nW last' (held_at Tail m) (part Tail W)) x)
      by_case true SB f g e = sym f
      by_case false SB f g e = g e
