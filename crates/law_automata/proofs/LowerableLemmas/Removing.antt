-- A node whose names are in their scopes and told from those of removed automata, and that is sound, right and neat, is one whose automata may be removed.
use Rattle.std.proofs.Common.{◌≡◌, ℕ, suc, ◌+◌, ◌<◌, ◌≤◌, ◌⊎◌, inl, inr, ⊎_elim, Bool, true, false, ◌||◌, if◌then◌else◌, List, [], ◌∷◌, length, reverse, refl, arith}
use Rattle.std.specs.Prelude.{IsTrue, Option, None, Some}
use Rattle.std.specs.Str.{bytes_eq}
use Rattle.hp_base.specs.declared.span.Span.{Span}
use Rattle.hp_base.specs.declared.ty.Const.{Const}
use Rattle.hp_tree.specs.declared.block.Trans.{Trans}
use Rattle.hp_tree.specs.declared.decl.Cons.{Cons}
use Rattle.hp_tree.specs.Expressions.{Expr, constant, variable, last_of, one, two, choose, pre, fby, arrow, when_is, merge, call, Exprs, no_expr, more_exprs, Parts, no_part, more_parts}
use Rattle.hp_tree.specs.Blocks.{Decl, Block, block, Eqns, no_eqn, more_eqns, Eqn, define, switch, reset, automaton, Arms, no_arm, more_arms, States, no_state, more_states}
use Rattle.hp_tree.specs.Programs.{TypeDecl, Contract, Node}
use Rattle.hp_tree.specs.Instant.{Clock, without}
use Rattle.hp_tree.specs.Meaning.{declares, is_among, defines, some_defines, written, clock_in, clock_of, controls_of}
use Rattle.hp_meaning.specs.Causal.Clocked.{Standing, base_alone, standing_in, standing_of, ClockRight, IsOn, ExprsOn, PartsOn, ConditionsOn, DeclarationsRight, BlockRight, AllRight, OneRight, ArmsRight, StatesRight, on_base, TellsOnBase, ContractRight, ClocksRight}
use Rattle.hp_typing.specs.Scopes.{with_variables, inside, inside_node}
use Rattle.law_judged.specs.Typed.Scopes.{Scope}
use Rattle.hp_meaning.specs.Clocking.Clocking.{AreDefined}
use Rattle.law_judged.specs.Named.Scoped.{Names, no_names, also, AreFresh, BlockScoped, EqnsScoped, EqnScoped, ArmsScoped, StatesScoped, ContractScoped, interface, NodeScoped}
use Rattle.law_judged.proofs.NamedLemmas.Sets.{or_cases, or_left, or_right, false_if, name_same}
use Rattle.law_judged.proofs.NamedLemmas.Declared.{eqn_owned}
use Rattle.law_judged.proofs.OnceLemmas.Renamed.{some_owned}
use Rattle.law_judged.specs.Once.Once.{BlockOnce, AllOnce, OneOnce, ArmsOnce, StatesOnce, ContractOnce, DefinedOnce}
use Rattle.law_judged.specs.Replaced.Fitting.{DeclNames, BlockNames, EqnsNames, EqnNames, ArmsNames, StatesNames, ContractNames, NodeNames}
use Rattle.law_values.specs.Valued.Judged.{Lasts, no_lasts, lasts_in, lasts_of, body_scope, ExprSound, ExprsSound, PartsSound, RightSound, TestsSound, BlockSound, EqnsSound, EqnSound, ArmsSound, StatesSound, ToldSound, ContractSound, NodeSound}
use Rattle.law_automata.specs.Lowered.OldNames.{IsOld, OldPath, OldExpr, OldExprs, OldParts}
use Rattle.law_automata.specs.Lowered.Removable.{is_state, TransitionsOk, deepest, most, Known, and_defined, OldClock, AllOld, DeclsOk, BlockOk, EqnsOk, EqnOk, ArmsOk, StatesOk, none_known, ConditionOk, ContractOk, AllOldDecls, NodeOk}
use Rattle.law_automata.proofs.LowerableLemmas.Neat.{TransitionsNeat, RowNeat, BlockNeat, EqnsNeat, EqnNeat, ArmsNeat, StatesNeat, ContractNeat, NodeNeat, levels}

-- ---- what is known at a place: the names that are seen, those to be defined there, and those that control equations around define

pub record View (outer : Known) (seen own : Names) (names : Standing) (lasts : Lasts) : Type 0 where
  pub old : (x : List ℕ) → IsTrue (seen x) → IsOld x
  pub stands : (x : List ℕ) (c : Clock) → names x ≡ Some c → IsTrue (seen x)
  pub lasting : (x : List ℕ) → IsTrue (lasts x) → IsTrue (seen x)
  pub owned : (x : List ℕ) → IsTrue (own x) → IsTrue (seen x)
  pub around : (x : List ℕ) → outer x ≡ true → IsTrue (seen x)

last_seen : (ds : List Decl) (out : Lasts) (x : List ℕ) → IsTrue (lasts_in ds out x) → IsTrue (declares ds x) ⊎ IsTrue (out x)
last_seen [] out x h = inr h
last_seen (d ∷ ds) out x h = by (bytes_eq d.name x) d.last h (last_seen ds out x)
  where
    by : (b : Bool) (o : Option Const) → IsTrue (if b then (elim o [ None ↦ out x | Some c ↦ true ]) else lasts_in ds out x) → (IsTrue (lasts_in ds out x) → IsTrue (declares ds x) ⊎ IsTrue (out x)) → IsTrue (b || declares ds x) ⊎ IsTrue (out x)
    by true o h r = inl refl
    by false o h r = r h

base_seen : (o : Option Clock) (c : Clock) → base_alone o ≡ Some c → (d : Clock) × (o ≡ Some d)
base_seen None c h = absurd (cc h)
base_seen (Some []) c h = ([], refl)
base_seen (Some (on ∷ clock)) c h = absurd (cc h)

module _ {outer : Known} {seen own : Names} {names : Standing} {lasts : Lasts} (v : View outer seen own names lasts) where
  view_in : (ds : List Decl) (es : Eqns) → DeclNames IsOld ds → EqnsScoped (also seen ds) (also own ds) es → View outer (also seen ds) (also own ds) (standing_in ds es names) (lasts_in ds lasts)
  view_in ds es p s = record {
    old = λ x h. ⊎_elim (λ l. p x l) (λ l. v.old x l) (or_cases (declares ds x) (seen x) h);
    stands = λ x c h. stood x c (some_defines es x) refl h;
    lasting = λ x h. ⊎_elim (λ l. or_left (declares ds x) (seen x) l) (λ l. or_right (declares ds x) (seen x) (v.lasting x l)) (last_seen ds lasts x h);
    owned = λ x h. own_seen x h;
    around = λ x h. or_right (declares ds x) (seen x) (v.around x h);
  }
    where
      own_seen : (x : List ℕ) → IsTrue (also own ds x) → IsTrue (also seen ds x)
      own_seen x h = ⊎_elim (λ l. or_left (declares ds x) (seen x) l) (λ l. or_right (declares ds x) (seen x) (v.owned x l)) (or_cases (declares ds x) (own x) h)

      stood : (x : List ℕ) (c : Clock) (b : Bool) → some_defines es x ≡ b → (if b then Some (clock_in ds x) else base_alone (names x)) ≡ Some c → IsTrue (also seen ds x)
      stood x c true e h = own_seen x (some_owned x (also seen ds) (also own ds) es s e)
      stood x c false e h = let q = base_seen (names x) c h in or_right (declares ds x) (seen x) (v.stands x q.0 q.1)

  -- inside a control equation
  view_within : (e : Eqn) → EqnScoped seen own e → View (and_defined e outer) seen own names lasts
  view_within e s = record {
    old = v.old;
    stands = v.stands;
    lasting = v.lasting;
    owned = v.owned;
    around = λ x h. ⊎_elim (λ l. v.owned x (eqn_owned x seen own e s l)) (λ l. v.around x l) (or_cases (defines e x) (outer x) h);
  }

-- ---- expressions

module _ (types : List TypeDecl) (among : List ℕ → Option Node) where
  module _ {outer : Known} {seen own : Names} {names : Standing} {lasts : Lasts} (v : View outer seen own names lasts) (s : Scope) where
    abbrev Sound : Expr → Type 0
    Sound e = ExprSound types among s lasts e

    mutual
      expr_old : (e : Expr) (clock : Clock) → IsOn names e clock → Sound e → OldExpr e
      expr_old (constant at c) clock on ok = tt
      expr_old (variable at x) clock on ok = v.old x (v.stands x clock on)
      expr_old (last_of at x) clock on ok = v.old x (v.lasting x ok)
      expr_old (one at o a) clock on ok = expr_old a clock on ok
      expr_old (two at o a b) clock on ok = (expr_old a clock on.0 ok.0, expr_old b clock on.1 ok.1)
      expr_old (choose at a b c) clock on ok = (expr_old a clock on.0 ok.0, expr_old b clock on.1 ok.1.0, expr_old c clock on.2 ok.1.1)
      expr_old (pre at a) clock on ok = expr_old a clock on ok
      expr_old (fby at a b) clock on ok = (expr_old a clock on.0 ok.0, expr_old b clock on.1 ok.1)
      expr_old (arrow at a b) clock on ok = (expr_old a clock on.0 ok.0, expr_old b clock on.1 ok.1)
      expr_old (when_is at a c x) clock on ok = (v.old x (v.stands x (without clock) on.1), expr_old a (without clock) on.2 ok)
      expr_old (merge at x ps) clock on ok = (v.old x (v.stands x clock on.0), parts_old x ps clock on.1 ok.1)
      expr_old (call at f inlined es) clock on ok = exprs_old es clock on ok.1

      exprs_old : (es : Exprs) (clock : Clock) → ExprsOn names es clock → ExprsSound types among s lasts es → OldExprs es
      exprs_old no_expr clock on ok = tt
      exprs_old (more_exprs e es) clock on ok = (expr_old e clock on.0 ok.0, exprs_old es clock on.1 ok.1)

      parts_old : (x : List ℕ) (ps : Parts) (clock : Clock) → PartsOn names x ps clock → PartsSound types among s lasts ps → OldParts ps
      parts_old x no_part clock on ok = tt
      parts_old x (more_parts c e ps) clock on ok = (expr_old e ((c, x) ∷ clock) on.0 ok.0, parts_old x ps clock on.1 ok.1)

    right_sound : (ys : List (List ℕ × Span)) (e : Expr) → RightSound types among s lasts ys e → Sound e
    right_sound ys (constant at c) ok = ok.0
    right_sound ys (variable at x) ok = ok.0
    right_sound ys (last_of at x) ok = ok.0
    right_sound ys (one at o a) ok = ok.0
    right_sound ys (two at o a b) ok = ok.0
    right_sound ys (choose at a b c) ok = ok.0
    right_sound ys (pre at a) ok = ok.0
    right_sound ys (fby at a b) ok = ok.0
    right_sound ys (arrow at a b) ok = ok.0
    right_sound ys (when_is at a c x) ok = ok.0
    right_sound ys (merge at x ps) ok = ok.0
    right_sound ys (call at f inlined es) ok = ok.0

    tests_ok : (all : States) (ts : List Trans) → ConditionsOn names ts → TestsSound types among s lasts ts → TransitionsNeat (is_state all) ts → TransitionsOk all ts
    tests_ok all [] on ok n = tt
    tests_ok all (t ∷ ts) on ok n = ((expr_old t.cond [] on.0 ok.0.0, n.0.0, n.0.1), tests_ok all ts on.1 ok.1 n.1)

    row_ok : (all : States) (ts : List Trans) → ConditionsOn names ts → TestsSound types among s lasts ts → RowNeat (is_state all) ts → TransitionsOk all ts × (length ts < most)
    row_ok all ts on ok n = (tests_ok all ts on ok n.0, n.1)

    -- the names of a clock
    abbrev onto : List (Cons × List ℕ) → List (Cons × List ℕ) → List (Cons × List ℕ)
    onto [] ys = ys
    onto (x ∷ xs) ys = onto xs (x ∷ ys)

    steps_old : (clock : Clock) → ClockRight names clock → OldPath clock
    steps_old [] r = tt
    steps_old (on ∷ clock) r = (v.old on.1 (v.stands on.1 clock r.0), steps_old clock r.1)

    path_onto : (xs ys : List (Cons × List ℕ)) → OldPath (onto xs ys) → OldPath xs × OldPath ys
    path_onto [] ys h = (tt, h)
    path_onto (x ∷ xs) ys h = let r = path_onto xs (x ∷ ys) h in ((r.1.0, r.0), r.1.1)

    clock_old : (o : Option (List (Cons × List ℕ))) → ClockRight names (written o) → OldClock o
    clock_old None r = tt
    clock_old (Some path) r = (path_onto path [] (steps_old (reverse path) r)).0

    lefts_old : (ys : List (List ℕ × Span)) → ((x : List ℕ) → IsTrue (is_among ys x) → IsTrue (seen x)) → AllOld ys
    lefts_old [] h = tt
    lefts_old (y ∷ ys) h =
        (v.old y.0 (h y.0 (or_left (bytes_eq y.0 y.0) (is_among ys y.0) (name_same y.0 y.0 refl))), lefts_old ys (λ x k. h x (or_right (bytes_eq y.0 x) (is_among ys x) k)))

  -- ---- blocks

  decls_ok : {outer : Known} {seen own : Names} {names : Standing} {lasts : Lasts} → View outer seen own names lasts → (s : Scope) (around : Names) (es : Eqns) (ds : List Decl) → ((x : List ℕ) → outer x ≡ true → IsTrue (around x)) → DeclNames IsOld ds → AreFresh around ds → AreDefined ds es → DeclarationsRight names ds → DeclsOk outer es ds
  decls_ok v s around es [] o p f d r = tt
  decls_ok {outer} v s around es (e ∷ ds) o p f d r =
      let here : IsTrue (declares (e ∷ ds) e.name) = or_left (bytes_eq e.name e.name) (declares ds e.name) (name_same e.name e.name refl) in (
        (p e.name here, false_if (outer e.name) (λ h. f e.name here (o e.name h)), d e.name here, clock_old v s e.clock r.0),
        decls_ok v s around es ds o (λ x h. p x (or_right (bytes_eq e.name x) (declares ds x) h)) (λ x h l. f x (or_right (bytes_eq e.name x) (declares ds x) h) l)
            (λ x h. d x (or_right (bytes_eq e.name x) (declares ds x) h)) r.2,
      )

  -- with so many automata around there is room for the rest
  abbrev Fits : ℕ → ℕ → Type 0
  Fits d room = d + room ≤ levels

  inner_fits : (d room r : ℕ) → room ≡ suc r → Fits d room → Fits d r
  inner_fits d room r e l = omega (arith, e, l)

  state_fits : (d room r : ℕ) → room ≡ suc r → Fits d room → Fits (d + 1) r
  state_fits d room r e l = omega (arith, e, l)

  not_deep : (d room : ℕ) → Fits d room → d < deepest
  not_deep d room l = omega (arith, l)

  mutual
    block_ok : {outer : Known} {seen own : Names} {names : Standing} {lasts : Lasts} → View outer seen own names lasts → (s : Scope) (d room : ℕ) (b : Block) → Fits d room → BlockScoped seen own b → BlockNames IsOld b → BlockOnce b → BlockRight names b → BlockSound types among s lasts b → BlockNeat room b → BlockOk outer d b
    block_ok {outer} {seen} {own} {names} {lasts} v s d room (block ds es) l sc p o r ok n =
        let w = view_in v ds es p.0 sc.3 in
        (decls_ok w s seen es ds v.around p.0 sc.1 sc.2 r.0, eqns_ok w (with_variables s ds) d room ds es l sc.3 p.1 o r.1 ok.1.1 n)

    eqns_ok : {outer : Known} {seen own : Names} {names : Standing} {lasts : Lasts} → View outer seen own names lasts → (s : Scope) (d room : ℕ) (ds : List Decl) (es : Eqns) → Fits d room → EqnsScoped seen own es → EqnsNames IsOld es → AllOnce es → AllRight names ds es → EqnsSound types among s lasts es → EqnsNeat room es → EqnsOk outer d es
    eqns_ok v s d room ds no_eqn l sc p o r ok n = tt
    eqns_ok v s d room ds (more_eqns e es) l sc p o r ok n = (o.0, eqn_ok v s d room ds e l sc.0 p.0 o.1.0 r.0 ok.0 n.0, eqns_ok v s d room ds es l sc.1 p.1 o.1.1 r.1 ok.1 n.1)

    eqn_ok : {outer : Known} {seen own : Names} {names : Standing} {lasts : Lasts} → View outer seen own names lasts → (s : Scope) (d room : ℕ) (ds : List Decl) (e : Eqn) → Fits d room → EqnScoped seen own e → EqnNames IsOld e → OneOnce e → OneRight names ds e → EqnSound types among s lasts e → EqnNeat room e → EqnOk outer d e
    eqn_ok v s d room ds (define at ys e) l sc p o r ok n = (lefts_old v s ys (λ x h. v.owned x (sc x h)), expr_old v s e (clock_of ds ys e) r.2 (right_sound v s ys e ok))
    eqn_ok v s d room ds (switch at e arms) l sc p o r ok n = (expr_old v s e [] r.1 ok.0, arms_ok (view_within v (switch at e arms) sc) (switch at e arms) s d room arms l sc p o r.2 ok.1.1 n)
    eqn_ok v s d room ds (reset at b e) l sc p o r ok n =
        (expr_old v s e [] r.1 ok.0.0, block_ok (view_within v (reset at b e) sc) s d n.0 b (inner_fits d room n.0 n.1.0 l) sc p o r.2 ok.1 n.1.1)
    eqn_ok v s d room ds (automaton at ss) l sc p o r ok n =
        (not_deep d room l, n.0.0, n.0.1, states_ok (view_within v (automaton at ss) sc) (automaton at ss) s d room ss ss l sc p o r.1 ok n.1)

    arms_ok : {outer : Known} {seen own : Names} {names : Standing} {lasts : Lasts} → View outer seen own names lasts → (e : Eqn) (s : Scope) (d room : ℕ) (arms : Arms) → Fits d room → ArmsScoped seen own arms → ArmsNames IsOld arms → ArmsOnce arms → ArmsRight names arms → ArmsSound types among e s lasts arms → ArmsNeat room arms → ArmsOk outer d arms
    arms_ok v e s d room no_arm l sc p o r ok n = tt
    arms_ok v e s d room (more_arms c b at arms) l sc p o r ok n =
        (block_ok v s d n.0.0 b (inner_fits d room n.0.0 n.0.1.0 l) sc.0 p.0 o.0 r.0 ok.1.0 n.0.1.1, arms_ok v e s d room arms l sc.1 p.1 o.1 r.1 ok.1.1 n.1)

    states_ok : {outer : Known} {seen own : Names} {names : Standing} {lasts : Lasts} → View outer seen own names lasts → (e : Eqn) (s : Scope) (d room : ℕ) (all ss : States) → Fits d room → StatesScoped seen own ss → StatesNames IsOld ss → StatesOnce ss → StatesRight names ss → StatesSound types among e s lasts ss → StatesNeat (is_state all) room ss → StatesOk all outer (d + 1) ss
    states_ok v e s d room all no_state l sc p o r ok n = tt
    states_ok v e s d room all (more_states f (block ds es) until unless at ss) l sc p o r ok n = (
      (
        block_ok v s (d + 1) n.0.0 (block ds es) (state_fits d room n.0.0 n.0.1.0 l) sc.0 p.0 o.0 r.0 ok.1.0 n.0.1.1,
        row_ok (view_in v ds es p.0.0 sc.0.3) (with_variables s ds) all until r.1 ok.1.1.0 n.1.0.0,
        row_ok v s all unless r.2 ok.1.1.1.0 n.1.0.1,
      ),
      states_ok v e s d room all ss l sc.1 p.1 o.1 r.3 ok.1.1.1.1 n.1.1,
    )

  -- ---- nodes

  known_base : (b : Bool) (c : Clock) → on_base b ≡ Some c → IsTrue b
  known_base true c h = refl
  known_base false c h = absurd (cc h)

  body_view : (n : Node) → NodeNames IsOld n → View none_known (also (interface n) (controls_of n.contract)) (also no_names n.outputs) (λ x. on_base (declares n.inputs x || (declares n.outputs x || declares (controls_of n.contract) x))) (lasts_in n.outputs no_lasts)
  body_view n p = record {
    old = p.interface;
    stands = λ x c h. there x (known_base (declares n.inputs x || (declares n.outputs x || declares (controls_of n.contract) x)) c h);
    lasting = λ x h. ⊎_elim (λ l. output x l) (λ l. absurd (cc l)) (last_seen n.outputs no_lasts x h);
    owned = λ x h. ⊎_elim (λ l. output x l) (λ l. absurd (cc l)) (or_cases (declares n.outputs x) false h);
    around = λ x h. absurd (cc h);
  }
    where
      output : (x : List ℕ) → IsTrue (declares n.outputs x) → IsTrue (also (interface n) (controls_of n.contract) x)
      output x h = or_right (declares (controls_of n.contract) x) (interface n x) (or_left (declares n.outputs x) (also no_names n.inputs x) h)

      input : (x : List ℕ) → IsTrue (declares n.inputs x) → IsTrue (also (interface n) (controls_of n.contract) x)
      input x h = or_right (declares (controls_of n.contract) x) (interface n x) (or_right (declares n.outputs x) (also no_names n.inputs x) (or_left (declares n.inputs x) false h))

      there : (x : List ℕ) → IsTrue (declares n.inputs x || (declares n.outputs x || declares (controls_of n.contract) x)) → IsTrue (also (interface n) (controls_of n.contract) x)
      there x h =
          ⊎_elim (λ l. input x l) (λ l. ⊎_elim (λ k. output x k) (λ k. or_left (declares (controls_of n.contract) x) (interface n x) k) (or_cases (declares n.outputs x) (declares (controls_of n.contract) x) l))
          (or_cases (declares n.inputs x) (declares n.outputs x || declares (controls_of n.contract) x) h)

  observer_view : (n : Node) → NodeNames IsOld n → View none_known (interface n) no_names (λ x. on_base (declares n.inputs x || declares n.outputs x)) (lasts_in n.outputs no_lasts)
  observer_view n p = record {
    old = λ x h. p.interface x (or_right (declares (controls_of n.contract) x) (interface n x) h);
    stands = λ x c h. there x (known_base (declares n.inputs x || declares n.outputs x) c h);
    lasting = λ x h. ⊎_elim (λ l. output x l) (λ l. absurd (cc l)) (last_seen n.outputs no_lasts x h);
    owned = λ x h. absurd (cc h);
    around = λ x h. absurd (cc h);
  }
    where
      output : (x : List ℕ) → IsTrue (declares n.outputs x) → IsTrue (interface n x)
      output x h = or_left (declares n.outputs x) (also no_names n.inputs x) h

      there : (x : List ℕ) → IsTrue (declares n.inputs x || declares n.outputs x) → IsTrue (interface n x)
      there x h =
          ⊎_elim (λ l. or_right (declares n.outputs x) (also no_names n.inputs x) (or_left (declares n.inputs x) false l)) (λ l. output x l) (or_cases (declares n.inputs x) (declares n.outputs x) h)

  told_ok : {outer : Known} {seen own : Names} {names : Standing} {lasts : Lasts} → View outer seen own names lasts → (s : Scope) (o : Option Expr) → TellsOnBase names o → ToldSound types among s lasts o → ConditionOk o
  told_ok v s None on ok = tt
  told_ok v s (Some e) on ok = expr_old v s e [] on ok.0

  observer_ok : {seen : Names} {names : Standing} {lasts : Lasts} → View none_known seen no_names names lasts → (s : Scope) (b : Block) (assume enforce : Option Expr) → BlockScoped seen no_names b → BlockNames IsOld b → BlockOnce b
      → BlockRight names b × TellsOnBase (standing_of b names) assume × TellsOnBase (standing_of b names) enforce
      → BlockSound types among s lasts b × (ToldSound types among (inside s b) (lasts_of b lasts) assume × ToldSound types among (inside s b) (lasts_of b lasts) enforce)
      → BlockNeat levels b → BlockOk none_known 0 b × ConditionOk assume × ConditionOk enforce
  observer_ok v s (block ds es) assume enforce sc p o r ok n =
      let w = view_in v ds es p.0 sc.3 in (
        block_ok v s 0 levels (block ds es) (omega arith) sc p o r.0 ok.0 n,
        told_ok w (with_variables s ds) assume r.1 ok.1.0,
        told_ok w (with_variables s ds) enforce r.2 ok.1.1,
      )

  contract_ok : {seen : Names} {names : Standing} {lasts : Lasts} → View none_known seen no_names names lasts → (s : Scope) (o : Option Contract) → ContractScoped seen o → ContractNames IsOld o → ContractOnce o → ContractRight names o → ContractSound types among s lasts o → ContractNeat levels o → ContractOk o
  contract_ok v s None sc p o r ok n = tt
  contract_ok v s (Some c) sc p o r ok n = observer_ok v s c.body c.assume c.enforce sc p o r ok n

  decls_old : (ds : List Decl) → ((x : List ℕ) → IsTrue (declares ds x) → IsOld x) → AllOldDecls ds
  decls_old [] p = tt
  decls_old (d ∷ ds) p = (p d.name (or_left (bytes_eq d.name d.name) (declares ds d.name) (name_same d.name d.name refl)), decls_old ds (λ x h. p x (or_right (bytes_eq d.name x) (declares ds x) h)))

  pub node_ok : (s : Scope) (n : Node) → NodeScoped n → NodeNames IsOld n → DefinedOnce n → ClocksRight n → NodeSound types among s n → NodeNeat levels n → NodeOk n
  node_ok s n sc p o r ok neat = record {
    outputs = decls_old n.outputs (λ x h. p.interface x (or_right (declares (controls_of n.contract) x) (interface n x) (or_left (declares n.outputs x) (also no_names n.inputs x) h)));
    contract = contract_ok (observer_view n p) (inside_node s n) n.contract sc.contract p.contract o.0 r.contract ok.1.1.1.1.1 neat.0;
    body = block_ok (body_view n p) (body_scope s n) 0 levels n.body (omega arith) sc.body p.body o.1 r.body ok.1.1.1.1.0 neat.1;
  }
