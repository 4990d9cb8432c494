-- Names, last values and branches: what is read in a block has a value of its type.
use Rattle.std.proofs.Common.{◌≡◌, ◌<◌, ◌≤◌, ◌+◌, ℕ, suc, List, [], ◌∷◌, refl, sym, ap, subst, ◌∙◌, inl, inr, arith}
use Rattle.std.proofs.lemmas.Slice.Eq.{bytes_eq-Decides}
use Rattle.std.proofs.lemmas.Bool.Decides.{nat_tests}
use Rattle.std.specs.Prelude.{⊤, ◌⊎◌, Bool, true, false, ◌||◌, ◌&&◌, not, IsTrue, IsFalse, if◌then◌else◌, nat_eq, Option, None, Some}
use Rattle.std.specs.Str.{bytes_eq}
use Rattle.hp_base.specs.declared.span.Span.{Span}
use Rattle.hp_base.specs.declared.ty.Ty.{Ty}
use Rattle.hp_base.specs.declared.ty.Const.{Const}
use Rattle.hp_base.specs.declared.value.Value.{Value}
use Rattle.hp_base.specs.declared.value.Value.TheVariants.{Absent}
use Rattle.hp_tree.specs.declared.block.Trans.{Trans}
use Rattle.hp_tree.specs.Blocks.{Decl, Block, block, Eqns, Eqn, reset, States, no_state, more_states}
use Rattle.hp_tree.specs.Programs.{TypeDecl, Node}
use Rattle.hp_tree.specs.Operators.{constant_of, is_true}
use Rattle.hp_tree.specs.Instant.{Named, Instant, Clock}
use Rattle.hp_tree.specs.Meaning.{Names, declares, defines, some_defines, block_defines, inside as inside_names, within, lasts as lasts_of, clock_in, from_block, is_among, output_for, names_of, number_of, first_true, Jump, absent}
use Rattle.hp_base.specs.Known.Known.{lookup}
use Rattle.hp_typing.specs.Scopes.{with_variables}
use Rattle.law_judged.specs.Typed.Scopes.{Scope}
use Rattle.hp_meaning.specs.Causal.Clocked.{Standing, base_alone, standing_in}
use Rattle.hp_meaning.specs.Contract.Memory.{is_last}
use Rattle.law_values.specs.Valued.Judged.{Lasts, lasts_in as known_lasts, DeclsSound, FirstSound, HaveOwnTypes, HaveEquations, Completes, LeftsAre, LeftsHave}
use Rattle.law_values.specs.Valued.Fitting.{count}
use Rattle.law_values.proofs.ValuedLemmas.Laws.{and_left, and_right, not_both, or_either, true_or_false}
use Rattle.law_values.proofs.ValuedLemmas.Scoped.{still_known, not_declared}
use Rattle.law_values.proofs.ValuedLemmas.Typed.{some_is}
use Rattle.law_games.specs.Wires.Wired.{lasts_in, value}
use Rattle.law_games.specs.Wires.WiredBlocks.{has_state}
use Rattle.law_games.specs.Wiretyped.Typed.{IsWire, HasWire, OutputsTyped, NamesTyped, BlockTyped}
use Rattle.law_games.specs.Wiretyped.Kept.{LastsKept}
use Rattle.law_games.proofs.WiretypedLemmas.Values.{marked_wire}
use Rattle.law_games.proofs.WiretypedLemmas.Exprs.{NamesAre, LastsAre, wire_as, as_wire}

pub is_not : (b : Bool) → IsTrue (not b) → IsFalse b
is_not true h = absurd (cc)
is_not false h = refl

base_is : (o : Option Clock) (ck : Clock) → base_alone o ≡ Some ck → o ≡ Some []
base_is None ck e = cc
base_is (Some []) ck e = refl
base_is (Some (s ∷ c)) ck e = cc

pub last_declared : (ds : List Decl) (x : List ℕ) → IsTrue (is_last ds x) → IsTrue (declares ds x)
last_declared [] x h = absurd (cc)
last_declared (d ∷ ds) x h = by (bytes_eq d.name x) (last_declared ds x) h
  where
    by : (b : Bool) → (IsTrue (is_last ds x) → IsTrue (declares ds x)) → IsTrue (if b then (elim d.last [ None ↦ false | Some c ↦ true ]) else is_last ds x) → IsTrue (b || declares ds x)
    by true f h = refl
    by false f h = f h

pub last_further : (ds : List Decl) (lasts : Lasts) (x : List ℕ) → IsTrue (known_lasts ds lasts x) → IsFalse (is_last ds x) → IsTrue (lasts x)
last_further [] lasts x h f = h
last_further (d ∷ ds) lasts x h f = by (bytes_eq d.name x) d.last (last_further ds lasts x) h f
  where
    by : (b : Bool) (o : Option Const) → (IsTrue (known_lasts ds lasts x) → IsFalse (is_last ds x) → IsTrue (lasts x)) → IsTrue (if b then (elim o [ None ↦ lasts x | Some c ↦ true ]) else known_lasts ds lasts x) → IsFalse (if b then (elim o [ None ↦ false | Some c ↦ true ]) else is_last ds x) → IsTrue (lasts x)
    by true None g h f = h
    by true (Some c) g h f = absurd (cc)
    by false o g h f = g h f

module _ (types : List TypeDecl) (among : List ℕ → Option Node) where
  -- what is declared has an equation, and a type
  pub declared_is : (s : Scope) (es : Eqns) (x : List ℕ) (ds : List Decl) → DeclsSound types among s es ds → IsTrue (declares ds x) → IsTrue (some_defines es x) × ((t : Ty) × (lookup s.variables x ≡ Some t))
  declared_is s es x [] ok h = absurd (cc)
  declared_is s es x (d ∷ ds) ok h =
      or_either (bytes_eq d.name x) (declares ds x) h
      (λ e. subst (λ z. IsTrue (some_defines es z) × ((t : Ty) × (lookup s.variables z ≡ Some t))) ((bytes_eq-Decides d.name x).0 e) (ok.0.1.0, (d.ty, ok.0.0)))
      (λ e. declared_is s es x ds ok.1 e)

  -- what a block reads from further out
  abbrev pub OuterAre : Block → Standing → Scope → Names → Type 0
  OuterAre b st s names = (x : List ℕ) (t : Ty) → IsFalse (block_defines b x) → st x ≡ Some [] → lookup s.variables x ≡ Some t → IsWire types t (names x)

  pub names_inside : (ds : List Decl) (es : Eqns) (st : Standing) (s : Scope) (names : Names) (now : Instant) → DeclsSound types among (with_variables s ds) es ds → OuterAre (block ds es) st s names → NamesTyped types (λ f i. ⊤) (with_variables s ds) es now → NamesAre types (with_variables s ds) (standing_in ds es st) (inside_names es names now)
  names_inside ds es st s names now ok outer nt x c t e l = by (some_defines es x) refl e
    where
      undeclared : some_defines es x ≡ false → IsFalse (declares ds x)
      undeclared q = true_or_false (declares ds x) (λ h. absurd (not_both (some_defines es x) (declared_is (with_variables s ds) es x ds ok h).0 q)) (λ h. h)

      by : (d : Bool) → some_defines es x ≡ d → (if d then Some (clock_in ds x) else base_alone (st x)) ≡ Some c → IsWire types t (if d then now (Named x ∷ []) else names x)
      by true q e = as_wire types (lookup (with_variables s ds).variables x) t (now (Named x ∷ [])) l (nt x q)
      by false q e = outer x t (ap (λ b. b && not (declares ds x)) q) (base_is (st x) c e) (sym (not_declared x ds s (undeclared q)) ∙ l)

  pub lasts_inside : (ds : List Decl) (es : Eqns) (s : Scope) (lasts : Lasts) (last : Names) (mem : Instant) → DeclsSound types among (with_variables s ds) es ds → LastsAre types s lasts last → LastsKept types (with_variables s ds) ds mem → LastsAre types (with_variables s ds) (known_lasts ds lasts) (lasts_in ds mem last)
  lasts_inside ds es s lasts last mem ok lk k x h = by (is_last ds x) refl
    where
      by : (d : Bool) → is_last ds x ≡ d → (t : Ty) × ((lookup (with_variables s ds).variables x ≡ Some t) × IsWire types t (if d then mem (Named x ∷ []) else last x))
      by true q = let r = (declared_is (with_variables s ds) es x ds ok (last_declared ds x q)).1 in (r.0, (r.1, k x r.0 q r.1))
      by false q = let r = lk x (last_further ds lasts x h q) in (r.0, (still_known x ds s r.0 r.1.0, r.1.1))

  -- the last values that are held at the start
  pub lasts_begin : (s : Scope) (es : Eqns) (ds : List Decl) (x : List ℕ) (t : Ty) → DeclsSound types among s es ds → IsTrue (is_last ds x) → lookup s.variables x ≡ Some t → IsWire types t (lasts_of (value types) ds [] absent x)
  lasts_begin s es [] x t ok h l = absurd (cc)
  lasts_begin s es (d ∷ ds) x t ok h l = by (bytes_eq d.name x) d.last refl ok.0.1.1 (lasts_begin s es ds x t ok.1) h
    where
      by : (b : Bool) (o : Option Const) → bytes_eq d.name x ≡ b → FirstSound types among d.ty o → (IsTrue (is_last ds x) → lookup s.variables x ≡ Some t → IsWire types t (lasts_of (value types) ds [] absent x)) → IsTrue (if b then (elim o [ None ↦ false | Some c ↦ true ]) else is_last ds x)
          → IsWire types t (if b then (elim o [ None ↦ Absent | Some c ↦ value types c ]) else lasts_of (value types) ds [] absent x)
      by true None q f g h = absurd (cc)
      by true (Some c) q f g h =
          let same = (bytes_eq-Decides d.name x).0 q in
          let e : d.ty ≡ t = some_is d.ty t (sym (subst (λ z. lookup s.variables z ≡ Some d.ty) same ok.0.0) ∙ l) in
          subst (λ z. IsWire types z (value types c)) e (marked_wire types d.ty (constant_of types c) f)
      by false o q f g h = g h l

  -- the same of outputs, which have their constants and equations in the body
  output_begins : (s : Scope) (b : Block) (ds : List Decl) (x : List ℕ) (t : Ty) → HaveOwnTypes types among s ds → HaveEquations types among b ds → IsTrue (is_last ds x) → lookup s.variables x ≡ Some t → IsWire types t (lasts_of (value types) ds [] absent x)
  output_begins s b [] x t h e q l = absurd (cc)
  output_begins s b (d ∷ ds) x t h e q l = by (bytes_eq d.name x) d.last refl e.0.1 (output_begins s b ds x t h.1 e.1) q
    where
      by : (k : Bool) (o : Option Const) → bytes_eq d.name x ≡ k → FirstSound types among d.ty o → (IsTrue (is_last ds x) → lookup s.variables x ≡ Some t → IsWire types t (lasts_of (value types) ds [] absent x)) → IsTrue (if k then (elim o [ None ↦ false | Some c ↦ true ]) else is_last ds x)
          → IsWire types t (if k then (elim o [ None ↦ Absent | Some c ↦ value types c ]) else lasts_of (value types) ds [] absent x)
      by true None p f g q = absurd (cc)
      by true (Some c) p f g q =
          let same = (bytes_eq-Decides d.name x).0 p in
          let k : d.ty ≡ t = some_is d.ty t (sym (subst (λ z. lookup s.variables z ≡ Some d.ty) same h.0) ∙ l) in
          subst (λ z. IsWire types z (value types c)) k (marked_wire types d.ty (constant_of types c) f)
      by false o p f g q = g q l

  pub last_constant : (s : Scope) (b : Block) (ds : List Decl) (x : List ℕ) (t : Ty) → HaveOwnTypes types among s ds → HaveEquations types among b ds → IsTrue (is_last ds x) → lookup s.variables x ≡ Some t → IsWire types t (if is_last ds x then lasts_of (value types) ds [] absent x else Absent)
  last_constant s b ds x t h e q l = subst (λ k. IsWire types t (if k then lasts_of (value types) ds [] absent x else Absent)) (sym q) (output_begins s b ds x t h e q l)

  -- ---- inside a control equation

  pub branch_outer : (e : Eqn) (b : Block) (st : Standing) (s : Scope) (lasts : Lasts) (names last : Names) → Completes types among e lasts b → NamesAre types s st names → LastsAre types s lasts last → OuterAre b st s (within e names last)
  branch_outer e b st s lasts names last full nk lk x t nb on l = by (defines e x) refl
    where
      by : (d : Bool) → defines e x ≡ d → IsWire types t (if d then last x else names x)
      by true q = told (full x q)
        where
          told : (IsTrue (block_defines b x) ⊎ IsTrue (lasts x)) → IsWire types t (last x)
          told (inl h) = absurd (not_both (block_defines b x) h nb)
          told (inr h) = let r = lk x h in subst (λ z. IsWire types z (last x)) (some_is r.0 t (sym r.1.0 ∙ l)) r.1.1
      by false q = nk x [] t on l

  pub reset_outer : (at : _) (b : Block) (e : _) (st : Standing) (s : Scope) (names last : Names) → NamesAre types s st names → OuterAre b st s (within (reset at b e) names last)
  reset_outer at b e st s names last nk x t nb on l = subst (λ d. IsWire types t (if d then last x else names x)) (sym nb) (nk x [] t on l)

  pub any_outer : (b : Block) (st : Standing) (s : Scope) (names : Names) → NamesAre types s st names → OuterAre b st s names
  any_outer b st s names nk x t nb on l = nk x [] t on l

  module _ (typed : List ℕ → Instant → Type 0) where
    pub block_name : (b : Block) (s : Scope) (now : Instant) (x : List ℕ) → BlockTyped types typed s b now → IsTrue (block_defines b x) → HasWire types (lookup s.variables x) (now (Named x ∷ []))
    block_name (block ds es) s now x w h =
        subst (λ o. HasWire types o (now (Named x ∷ []))) (not_declared x ds s (is_not (declares ds x) (and_right (some_defines es x) (not (declares ds x)) h)))
        (w.0 x (and_left (some_defines es x) (not (declares ds x)) h))

    -- what a branch gives to a name
    pub branch_gives : (e : Eqn) (b : Block) (s : Scope) (lasts : Lasts) (last : Names) (now : Instant) (x : List ℕ) → Completes types among e lasts b → IsTrue (defines e x) → LastsAre types s lasts last → BlockTyped types typed s b now → HasWire types (lookup s.variables x) (from_block b last now x)
    branch_gives e b s lasts last now x full d lk w = by (block_defines b x) refl (full x d)
      where
        by : (k : Bool) → block_defines b x ≡ k → (IsTrue (block_defines b x) ⊎ IsTrue (lasts x)) → HasWire types (lookup s.variables x) (if k then now (Named x ∷ []) else last x)
        by true q h = block_name b s now x w q
        by false q (inl h) = absurd (not_both (block_defines b x) h q)
        by false q (inr h) = let r = lk x h in wire_as types (lookup s.variables x) r.0 (last x) r.1.0 r.1.1

  -- ---- names on a left side

  pub left_has : (s : Scope) (ys : List (List ℕ × Span)) (t : Ty) (x : List ℕ) → LeftsHave s ys t → IsTrue (is_among ys x) → lookup s.variables x ≡ Some t
  left_has s [] t x l h = absurd (cc)
  left_has s (y ∷ ys) t x l h = or_either (bytes_eq y.0 x) (is_among ys x) h (λ e. subst (λ z. lookup s.variables z ≡ Some t) ((bytes_eq-Decides y.0 x).0 e) l.0) (λ e. left_has s ys t x l.1 e)

  pub left_are : (s : Scope) (ys : List (List ℕ × Span)) (ds : List Decl) (i : Instant) (x : List ℕ) → LeftsAre s ys ds → OutputsTyped types ds i → IsTrue (is_among ys x) → HasWire types (lookup s.variables x) (output_for ys (names_of ds) i x)
  left_are s [] [] i x l o h = absurd (cc)
  left_are s [] (d ∷ ds) i x l o h = absurd (cc)
  left_are s (y ∷ ys) [] i x l o h = absurd l
  left_are s (y ∷ ys) (d ∷ ds) i x l o h = by (bytes_eq y.0 x) refl (left_are s ys ds i x l.1 o.1) h
    where
      by : (b : Bool) → bytes_eq y.0 x ≡ b → (IsTrue (is_among ys x) → HasWire types (lookup s.variables x) (output_for ys (names_of ds) i x)) → IsTrue (b || is_among ys x) → HasWire types (lookup s.variables x) (if b then i (Named d.name ∷ []) else output_for ys (names_of ds) i x)
      by true q g h = wire_as types (lookup s.variables x) d.ty (i (Named d.name ∷ [])) (subst (λ z. lookup s.variables z ≡ Some d.ty) ((bytes_eq-Decides y.0 x).0 q) l.0) o.0
      by false q g h = g h

-- ---- the states of an automaton

number_less : (k : ℕ) (ss : States) (x : List ℕ) (bound : ℕ) → 0 < bound → k + count ss ≤ bound → number_of k ss x < bound
number_less k no_state x bound p h = p
number_less k (more_states f b until unless s ss) x bound p h = by (bytes_eq f x) (number_less (suc k) ss x bound p (omega arith))
  where
    by : (d : Bool) → number_of (suc k) ss x < bound → (if d then k else number_of (suc k) ss x) < bound
    by true g = omega arith
    by false g = g

pub first_less : (all : States) (ts : List Trans) (vs : List Value) (none : Jump) → none.state < count all → (first_true all ts vs none).state < count all
first_less all [] vs none h = h
first_less all (t ∷ ts) [] none h = h
first_less all (t ∷ ts) (v ∷ vs) none h = by (is_true v) (first_less all ts vs none h)
  where
    by : (d : Bool) → (first_true all ts vs none).state < count all → (if d then record { state = number_of 0 all t.target; restart = t.restart } else first_true all ts vs none).state < count all
    by true g = number_less 0 all t.target (count all) (omega arith) (omega arith)
    by false g = g

differs : (j n : ℕ) → IsFalse (nat_eq j n) → j ≤ n → suc j ≤ n
differs j n f h = grind (arith, nat_tests)

pub state_there : (ss : States) (j n : ℕ) → j ≤ n → n < j + count ss → IsTrue (has_state ss j n)
state_there no_state j n h l = absurd (omega arith)
state_there (more_states f b until unless s ss) j n h l = by (nat_eq j n) refl (λ g. state_there ss (suc j) n g (omega arith))
  where
    by : (d : Bool) → nat_eq j n ≡ d → (suc j ≤ n → IsTrue (has_state ss (suc j) n)) → IsTrue (d || has_state ss (suc j) n)
    by true q g = refl
    by false q g = g (differs j n q h)
