-- The equations that are made of an expression stand for its equations over flat names.
use Rattle.std.proofs.Common.{◌≡◌, ◌⊎◌, inl, inr, ℕ, suc, ◌+◌, ◌<◌, ◌≤◌, true, false, nat_eq, nat_lt, if◌then◌else◌, List, [], ◌∷◌, ◌++◌, length, map, reverse, Option, None, Some, is_some, codes, refl, sym, ap, subst, ◌∙◌, arith}
use Rattle.std.specs.Prelude.{⊤}
use Rattle.std.proofs.lemmas.Bool.Decides.{nat_tests}
use Rattle.std.proofs.lemmas.List.{append-nil, append_assoc, length-append}
use Rattle.hp_base.specs.declared.value.Value.{Value}
use Rattle.hp_base.specs.declared.ty.Const.{Const}
use Rattle.hp_obc.specs.declared.command.ObcOp.TheVariants.{Copy, Mux}
use Rattle.hp_tree.specs.declared.decl.Cons.{Cons}
use Rattle.hp_tree.specs.Expressions.{Expr, constant, variable, last_of, one, two, choose, pre, fby, arrow, when_is, merge, call, Exprs, no_expr, more_exprs, Parts, no_part, more_parts}
use Rattle.hp_tree.specs.Blocks.{Decl}
use Rattle.hp_tree.specs.Programs.{TypeDecl}
use Rattle.hp_tree.specs.Operators.{cons_of, constant_of}
use Rattle.hp_tree.specs.Instant.{Named, First, Second, Third, Args, Instance, Head, Tail, Place, Clock, without}
use Rattle.hp_flat.specs.declared.node.FlatTy.{FlatTy}
use Rattle.hp_flat.specs.declared.node.FlatTy.TheVariants as flat
use Rattle.hp_flat.specs.declared.equation.Atom.{Atom}
use Rattle.hp_flat.specs.declared.equation.Atom.TheVariants.{Variable, Value as Fixed}
use Rattle.hp_flat.specs.Equations.{Right as Given, operator, register, FlatEqn}
use Rattle.law_equations.specs.Flattened.Flat.{Arg, name, value, Right, Op, Register}
use Rattle.law_equations.specs.Flattened.Flatten.{FlatName, At, IsFirst, Held, When, steps, Rows, row, copies, Prefix, below, Scope, under, obc_one, obc_two, constant_in, args_at, ats, flat_expr, flat_exprs, flat_parts, parts_at, only_row, output_row, fby_row, plan_two, unless}
use Rattle.law_equations.specs.Flattened.Numbered.{AreSteps, AreArgs, IsArg, IsRight, AreRows, StandFor}
use Rattle.law_equations.specs.Made.Keeping.{IsKept, FbyKeeps, ExprKeeps, ExprsKeep, PartsKeep}
use Rattle.law_equations.specs.Made.Labels.{Label, calling, compares_or_calls, expr_labels, exprs_labels, parts_labels, output_places}
use Rattle.law_equations.specs.Made.Making.{Known, Sketch, Site, Sight, Made, next, with_eqn, new_variable, value_of, atom_of, copy_of, type_at, first_value, type_of_value, type_one, type_two, front_steps, constant_value, cons_number, outputs_of, with_outputs, flag_at, register_at, off_site, on_site, tested, part_at, or_new, fby_at, called_at, first_output, by_constant, sketch_expr, sketch_exprs, sketch_parts}
use Rattle.law_equations.specs.Made.Standing.{Knows, Agrees, IsNamed, Sees, IsAt, IsFlagged, defs, IsBounded, IsDone, Steps, IsMade, AreLabelled, Promises, Promised, Remembers, HasOne, ByConstant, Ready, ReadyParts, ReadyAll}
use Rattle.law_equations.proofs.MadeLemmas.StepLaws.{both, same, value-steps, length_more, split_at, defs-same, defs-new, rows-more}
use Rattle.law_equations.proofs.MadeLemmas.CallLaws.{output_names, outputs_kept, names-length, outs-next, outs-flag, outs_eqns, call-steps}
use Rattle.law_equations.proofs.MadeLemmas.LabelLaws.{one-is-none, labelled-both, same-labelled, other-labelled, event-labelled, two-labelled, outputs-are}
use Rattle.law_equations.proofs.MadeLemmas.PromiseLaws.{joined, none, labelled-value, one-value, one-variable, on-steps, off-steps, flag-made, tested-made}

-- a site has the steps of an expression's clock beside those of its block
abbrev pub Owns : Site → Clock → Type 0
Owns at clock = length at.clock ≡ at.base + length clock

module _ (types : List TypeDecl) (outputs : List ℕ → List (List ℕ)) (k : Known) (knows : Knows types outputs k) (fill : Place → Value) (F : FlatName → Option Rows) (memory : Remembers F) where
  base_clock : (sc : Scope) (clock : Clock) (ck : When) (at : Site) → Owns at clock → nat_eq (length at.clock) at.base ≡ true → under types sc clock ck ≡ ck
  base_clock sc [] ck at o e = refl
  base_clock sc (s ∷ clock) ck at o e = absurd (let same : length at.clock ≡ at.base = grind (arith, nat_tests) in let n : at.base ≡ at.base + suc (length clock) = sym same ∙ o in omega arith)

  -- what is known where an expression is made
  abbrev pub Starts : Sight → Scope → Scope → Site → When → When → List Place → Sketch → (ℕ → FlatName) → Type 0
  Starts see sc lsc at w ck rs d means = IsBounded d × Sees means see sc lsc × IsAt means at w rs × IsFlagged means d.flag ck rs

  -- what is promised of it
  abbrev pub Makes : Sight → Scope → Scope → Site → When → When → List Place → Sketch → Made → FlatName → (ℕ → FlatName) → Type 0
  Makes see sc lsc at w ck rs d m a means = Starts see sc lsc at w ck rs d means → IsMade F means d m a ck rs

  module _ (see : Sight) (sc lsc : Scope) (at : Site) (w ck : When) (rs : List Place) where
    abbrev S : Sketch → (ℕ → FlatName) → Type 0
    S d means = Starts see sc lsc at w ck rs d means

    abbrev M : Sketch → Made → FlatName → (ℕ → FlatName) → Type 0
    M d m a means = Makes see sc lsc at w ck rs d m a means

    pub onward : (d : Sketch) (m : Made) (a : FlatName) (means : ℕ → FlatName) → S d means → IsMade F means d m a ck rs → S m.0 means
    onward d m a means s i = (i.steps.bounded, s.1, s.2, i.flag)

    -- a last equation behind others, with what it is made of
    finish_labelled : {L N : List Label → List Label} (d e : Sketch) (t : FlatTy) (given : Given) (right : Right FlatName) (a : FlatName) (A : (ℕ → FlatName) → Type 0)
        → ((means : ℕ → FlatName) → means (next e) ≡ a → AreLabelled means e.eqns (value_of at t given e).0.eqns N) → F a ≡ Some (row w rs right ∷ []) → IsKept memory.keeps a → Promises memory.keeps d e L A
        → ((means : ℕ → FlatName) → A means → S d means → Steps F means d e × IsFlagged means e.flag ck rs × IsRight means 0 given right)
        → Promises memory.keeps d (value_of at t given e).0 (λ rest. L (N rest)) (M d (value_of at t given e) a)
    finish_labelled {L} {N} d e t given right a A l f keep p h =
        joined d e (value_of at t given e).0 A (λ means. means (next e) ≡ a) (M d (value_of at t given e) a) p (labelled-value at (codes "e") t given e a keep l)
        (λ means b m s.
        let r = h means b s in
        record {
          steps = both F means d e (value_of at t given e).0 r.0 (value-steps F means at (codes "e") t given e w rs right r.0.bounded s.2 r.2 (ap F m ∙ f));
          value = m;
          flag = r.1;
        })

    -- one that neither compares nor calls
    pub finish : {L : List Label → List Label} (d e : Sketch) (t : FlatTy) (given : Given) (right : Right FlatName) (a : FlatName) (A : (ℕ → FlatName) → Type 0) → compares_or_calls given ≡ false → F a ≡ Some (row w rs right ∷ []) → IsKept memory.keeps a
        → Promises memory.keeps d e L A → ((means : ℕ → FlatName) → A means → S d means → Steps F means d e × IsFlagged means e.flag ck rs × IsRight means 0 given right)
        → Promises memory.keeps d (value_of at t given e).0 L (M d (value_of at t given e) a)
    finish d e t given right a A quiet f keep p h = finish_labelled d e t given right a A (λ means m. other-labelled means e.eqns _ quiet) f keep p h

    -- one equation
    pub alone : (d : Sketch) (t : FlatTy) (given : Given) (right : Right FlatName) (a : FlatName) → compares_or_calls given ≡ false → F a ≡ Some (row w rs right ∷ []) → IsKept memory.keeps a → ((means : ℕ → FlatName) → S d means → IsRight means 0 given right)
        → Promised memory.keeps d (value_of at t given d).0 (M d (value_of at t given d) a)
    alone d t given right a quiet f keep h =
        finish d d t given right a (λ means. ⊤) quiet f keep (none d (λ means. ⊤) (λ means. tt)) (λ means b s. (same F means d s.0, s.3, h means s))

  named_arg : (means : ℕ → FlatName) (o : Option ℕ) (a : FlatName) → IsNamed means o a → IsArg means (atom_of o) (name a)
  named_arg means None a h = (refl, h)
  named_arg means (Some x) a h = h

  abbrev pair : (A G : (ℕ → FlatName) → Type 0) → (ℕ → FlatName) → Type 0
  pair A G means = A means × G means

  pub in-turn : {L N : List Label → List Label} (d e f : Sketch) (A G : (ℕ → FlatName) → Type 0) → Promises memory.keeps d e L A → Promises memory.keeps e f N G → Promises memory.keeps d f (λ rest. L (N rest)) (λ means. A means × G means)
  in-turn d e f A G p q = joined d e f A G (λ means. A means × G means) p q (λ means a g. (a, g))

  -- a clock without its innermost step
  front_length : (s : ℕ × ℕ) (c : List (ℕ × ℕ)) → length (front_steps (s ∷ c)) ≡ length c
  front_length s [] = refl
  front_length s (t ∷ c) = ap suc (front_length t c)

  front_shorter : (c : List (ℕ × ℕ)) (n : ℕ) → length c ≡ suc n → length (front_steps c) ≡ n
  front_shorter [] n e = absurd (omega arith)
  front_shorter (s ∷ c) n e = front_length s c ∙ (let l : length (s ∷ c) ≡ suc n = e in omega (arith, l))

  off_owns : (clock : Clock) (at : Site) → Owns at clock → Owns (off_site at) (without clock)
  off_owns [] at o =
      let no : nat_lt at.base (length at.clock) ≡ false = (let same : length at.clock ≡ at.base = o ∙ (omega arith) in grind (arith, nat_tests)) in
      ap (λ b. length (if b then front_steps at.clock else at.clock)) no ∙ o
  off_owns (s ∷ clock) at o =
      let yes : nat_lt at.base (length at.clock) ≡ true = (let more : at.base < length at.clock = omega (arith, o) in grind (arith, nat_tests)) in
      let sum : length at.clock ≡ suc (at.base + length clock) = o ∙ (omega arith) in
      ap (λ b. length (if b then front_steps at.clock else at.clock)) yes ∙ front_shorter at.clock (at.base + length clock) sum

  off_at : (means : ℕ → FlatName) (sc : Scope) (clock : Clock) (ck : When) (rs : List Place) (at : Site) → Owns at clock → IsAt means at (under types sc clock ck) rs → IsAt means (off_site at) (under types sc (without clock) ck) rs
  off_at means sc [] ck rs at o i =
      let no : nat_lt at.base (length at.clock) ≡ false = (let same : length at.clock ≡ at.base = o ∙ (omega arith) in grind (arith, nat_tests)) in
      record {
        clock = subst (λ b. AreSteps means (reverse (if b then front_steps at.clock else at.clock)) (steps ck)) (sym no) i.clock;
        restart = i.restart;
      }
  off_at means sc (s ∷ clock) ck rs at o i =
      let yes : nat_lt at.base (length at.clock) ≡ true = (let more : at.base < length at.clock = omega (arith, o) in grind (arith, nat_tests)) in
      off-steps means at (cons_of types s.0) (sc s.1) (under types sc clock ck) rs yes i

  -- `a fby b`, where `a` is a constant or not
  fby_made : (o : Option Const) (a b : Expr) (clock : Clock) (sc lsc : Scope) (here : Prefix) (ck : When) (rs : List Place) (see : Sight) (at : Site) (d : Sketch) → Owns at clock
      → ((p : Place) → F (At (here p)) ≡ plan_two (fby_row types outputs fill o here (under types sc clock ck) rs ∷ []) (unless (is_some o) (flat_expr types outputs fill a clock sc lsc (below First here) ck rs)) (flat_expr types outputs fill b clock sc lsc (below Second here) ck rs) p)
      → ByConstant o
      (Ready k fill see at a (below First here) d × Ready k fill see at b (below Second here) (sketch_expr k see at a d).0
      × (fill (here []) ≡ first_value (type_at (sketch_expr k see at b (sketch_expr k see at a d).0).0 (sketch_expr k see at b (sketch_expr k see at a d).0).1)))
      (Ready k fill see at b (below Second here) d)
      → FbyKeeps memory.keeps types fill o here (under types sc clock ck) rs (ExprKeeps memory.keeps types fill a clock sc (below First here) ck rs) (ExprKeeps memory.keeps types fill b clock sc (below Second here) ck rs)
      → (((p : Place) → F (At (here (First ∷ p))) ≡ flat_expr types outputs fill a clock sc lsc (below First here) ck rs p) → Ready k fill see at a (below First here) d → ExprKeeps memory.keeps types fill a clock sc (below First here) ck rs
      → Promises memory.keeps d (sketch_expr k see at a d).0 (expr_labels outputs a (below First here)) (Makes see sc lsc at (under types sc clock ck) ck rs d (sketch_expr k see at a d) (At (here (First ∷ [])))))
      → ((e : Sketch) → Ready k fill see at b (below Second here) e → ExprKeeps memory.keeps types fill b clock sc (below Second here) ck rs → Promises memory.keeps e (sketch_expr k see at b e).0 (expr_labels outputs b (below Second here)) (Makes see sc lsc at (under types sc clock ck) ck rs e (sketch_expr k see at b e) (At (here (Second ∷ [])))))
      → Promises memory.keeps d (by_constant o (fby_at at (sketch_expr k see at a d).1 (sketch_expr k see at b (sketch_expr k see at a d).0)) (λ c. register_at at (constant_value k c) (sketch_expr k see at b d).1 (sketch_expr k see at b d).0)).0
      (λ rest. if is_some o then expr_labels outputs b (below Second here) rest else expr_labels outputs a (below First here) (expr_labels outputs b (below Second here) rest))
      (Makes see sc lsc at (under types sc clock ck) ck rs d
      (by_constant o (fby_at at (sketch_expr k see at a d).1 (sketch_expr k see at b (sketch_expr k see at a d).0)) (λ c. register_at at (constant_value k c) (sketch_expr k see at b d).1 (sketch_expr k see at b d).0)) (At (here [])))
  fby_made (Some c) a b clock sc lsc here ck rs see at d own cov ready keep pa pb =
      let w = under types sc clock ck in
      let y = sketch_expr k see at b d in
      finish see sc lsc at w ck rs d y.0 (type_at y.0 y.1) (register (constant_value k c) (Variable y.1)) (Register (constant_of types c) (name (At (here (Second ∷ []))))) (At (here []))
      (Makes see sc lsc at w ck rs d y (At (here (Second ∷ [])))) refl (cov []) tt (pb d ready keep)
      (λ means f st. let i = f st in (i.steps, i.flag, (sym (knows.constants c), i.value)))
  fby_made None a b clock sc lsc here ck rs see at d own cov ready keep pa pb =
      let w = under types sc clock ck in
      let x = sketch_expr k see at a d in
      let y = sketch_expr k see at b x.0 in
      let first = first_value (type_at y.0 y.1) in
      let h = register_at at first y.1 y.0 in
      let f = flag_at at h.0 in
      let held = Held (fill (here [])) (here (Second ∷ [])) w rs in
      let A = Makes see sc lsc at w ck rs d x (At (here (First ∷ []))) in
      let G = Makes see sc lsc at w ck rs x.0 y (At (here (Second ∷ []))) in
      let H : (ℕ → FlatName) → Type 0 = λ means. means (next y.0) ≡ held in
      let C : (ℕ → FlatName) → Type 0 = λ means. IsBounded h.0 → IsAt means at w rs → IsFlagged means h.0.flag ck rs → IsMade F means h.0 f (IsFirst w rs) ck rs in
      finish see sc lsc at w ck rs d f.0 (type_at f.0 x.1) (operator Mux (Variable f.1 ∷ Variable x.1 ∷ Variable h.1 ∷ []))
      (Op Mux (name (IsFirst w rs) ∷ name (At (here (First ∷ []))) ∷ name held ∷ [])) (At (here []))
      (λ means. ((A means × G means) × H means) × C means) refl (cov []) tt
      (in-turn d h.0 f.0 (λ means. (A means × G means) × H means) C
      (in-turn d y.0 h.0 (λ means. A means × G means) H
      (in-turn d x.0 y.0 A G (pa (λ p. cov (First ∷ p)) ready.0 keep.2) (pb x.0 ready.1 keep.3))
      (one-value memory.keeps at (codes "e") (type_at y.0 y.1) (register first (Variable y.1)) y.0 held refl keep.1))
      (flag-made F memory at h.0 w ck rs keep.0 (base_clock sc clock ck at own)))
      (λ means g st.
      let i = g.0.0.0 st in
      let j = g.0.0.1 (onward see sc lsc at w ck rs d x (At (here (First ∷ []))) means st i) in
      let u = value-steps F means at (codes "e") (type_at y.0 y.1) (register first (Variable y.1)) y.0 w rs (Register (fill (here [])) (name (At (here (Second ∷ []))))) j.steps.bounded st.2 (sym ready.2, j.value)
      (ap F g.0.1 ∙ memory.held (fill (here [])) (here (Second ∷ [])) w rs) in
      let l = g.1 u.bounded st.2 j.flag in
      (both F means d h.0 f.0 (both F means d y.0 h.0 (both F means d x.0 y.0 i.steps j.steps) u) l.steps, l.flag, (refl, (l.value, (i.value, (g.0.1, tt))))))

  -- ---- merges

  -- what the parts of a merge are made of: its variable gets their rows, behind those that it has
  pub record PartsMade (means : ℕ → FlatName) (d e : Sketch) (v : ℕ) (rows : Rows) (ck : When) (rs : List Place) : Type 0 where
    pub grown : next d ≤ next e
    pub kept : (y : ℕ) → y < next d → (v ≡ y → ⊥) → defs e y ≡ defs d y
    pub own : AreRows means (defs e v) rows
    pub done : (y : ℕ) → next d ≤ y → y < next e → IsDone F means e y
    pub bounded : IsBounded e
    pub flag : IsFlagged means e.flag ck rs

  on_owns : (at : Site) (t n : ℕ) (clock : Clock) (s : Cons × List ℕ) → Owns at clock → Owns (on_site at t n) (s ∷ clock)
  on_owns at t n clock s o = let l : length (at.clock ++ (t, n) ∷ []) ≡ length at.clock + 1 = length-append at.clock ((t, n) ∷ []) in omega (arith, l, o)

  parts_value : (see : Sight) (at : Site) (t v : ℕ) (ps : Parts) (d : Sketch) → (sketch_parts k see at t (Some v) ps d).1 ≡ Some v
  parts_value see at t v no_part d = refl
  parts_value see at t v (more_parts c e ps) d =
      parts_value see at t v ps (part_at (on_site at t (cons_number k c)) (Some v) (sketch_expr k see (on_site at t (cons_number k c)) e d)).0

  -- one part more
  part_more : (means : ℕ → FlatName) (at site : Site) (see : Sight) (sc lsc : Scope) (w w' ck : When) (rs : List Place) (d : Sketch) (m : Made) (v : ℕ) (a : FlatName) (before rest : Rows) (f : Sketch) → IsAt means site w' rs
      → IsMade F means d m a ck rs → v < next d → AreRows means (defs d v) before
      → (IsBounded (with_eqn site (v ∷ []) (copy_of (Variable m.1)) m.0) → AreRows means (defs (with_eqn site (v ∷ []) (copy_of (Variable m.1)) m.0) v) (before ++ copies w' rs a ∷ [])
      → PartsMade means (with_eqn site (v ∷ []) (copy_of (Variable m.1)) m.0) f v ((before ++ copies w' rs a ∷ []) ++ rest) ck rs)
      → PartsMade means d f v (before ++ (copies w' rs a ∷ rest)) ck rs
  part_more means at site see sc lsc w w' ck rs d m v a before rest f i made l rows next_parts =
      let copy = copy_of (Variable m.1) in
      let e = with_eqn site (v ∷ []) copy m.0 in
      let eqn : FlatEqn = record { targets = v ∷ []; clock = site.clock; right = copy; restart = site.restart; at = 0 } in
      let g = made.steps.grown in
      let here : AreRows means (defs e v) (before ++ copies w' rs a ∷ []) =
      subst (λ ds. AreRows means ds (before ++ copies w' rs a ∷ [])) (sym (defs-new F means site v copy m.0))
      (rows-more F means (defs m.0 v) before (eqn, 0) (copies w' rs a) (subst (λ ds. AreRows means ds before) (sym (made.steps.kept v l)) rows) (record { clock = i.clock; restart = i.restart; right = (refl, (made.value, tt)) })) in
      let r = next_parts (λ y u. defs-same F means site v copy m.0 y (λ q. absurd (omega arith)) ∙ made.steps.bounded y u) here in
      record {
        grown = let h = r.grown in omega (arith, g, h);
        kept = λ y u ne. r.kept y (omega (arith, g)) ne ∙ defs-same F means site v copy m.0 y ne ∙ made.steps.kept y u;
        own = subst (λ all. AreRows means (defs f v) all) (append_assoc before (copies w' rs a ∷ []) rest) r.own;
        done = λ y u z. by r y u z (split_at y (next m.0));
        bounded = r.bounded;
        flag = r.flag;
      }
    where
      by : PartsMade means (with_eqn site (v ∷ []) (copy_of (Variable m.1)) m.0) f v ((before ++ copies w' rs a ∷ []) ++ rest) ck rs → (y : ℕ) → next d ≤ y → y < next f → (y < next m.0) ⊎ (next m.0 ≤ y) → IsDone F means f y
      by r y u z (inl q) =
          subst (λ ds. StandFor means ds (means y) (F (means y)))
          (sym (r.kept y q (λ p. absurd (omega (arith, l))) ∙ defs-same F means site v (copy_of (Variable m.1)) m.0 y (λ p. absurd (omega (arith, l)))))
          (made.steps.done y u q)
      by r y u z (inr q) = r.done y q z

  -- a merge without parts has no equations
  bare_merge : (means : ℕ → FlatName) (x : List ℕ) (t : FlatTy) (d : Sketch) → IsBounded d → F (means (next d)) ≡ Some [] → Steps F means d (new_variable x t d).0
  bare_merge means x t d b f =
      let more : next (new_variable x t d).0 ≡ next d + 1 = length_more d.variables _ in
      record {
        grown = omega (arith, more);
        kept = λ y l. refl;
        done = λ y l u.
            let q : y ≡ next d = omega (arith, more) in
            subst (IsDone F means (new_variable x t d).0) (sym q)
            (subst (λ o. StandFor means (defs d (next d)) (means (next d)) o) (sym f) (subst (λ ds. AreRows means ds []) (sym (b (next d) (omega arith))) tt));
        bounded = λ y l. b y (omega (arith, more));
      }

  -- the variable of a merge with parts has all their rows
  whole_merge : (means : ℕ → FlatName) (d f : Sketch) (n : Sketch) (rows : Rows) (ck : When) (rs : List Place) → next n ≡ next d + 1 → ((y : ℕ) → y < next d → defs n y ≡ defs d y) → F (means (next d)) ≡ Some rows
      → PartsMade means n f (next d) rows ck rs → Steps F means d f
  whole_merge means d f n rows ck rs more old e r =
      record {
        grown = let g = r.grown in omega (arith, more, g);
        kept = λ y l. r.kept y (omega (arith, more)) (λ q. absurd (omega arith)) ∙ old y l;
        done = λ y l u. by y l u (split_at y (next d + 1));
        bounded = r.bounded;
      }
    where
      by : (y : ℕ) → next d ≤ y → y < next f → (y < next d + 1) ⊎ (next d + 1 ≤ y) → IsDone F means f y
      by y l u (inl q) =
          let z : y ≡ next d = omega arith in
          subst (IsDone F means f) (sym z) (subst (λ o. StandFor means (defs f (next d)) (means (next d)) o) (sym e) r.own)
      by y l u (inr q) = r.done y (omega (arith, more)) u

  -- ---- calls

  -- what the arguments of a call are made of
  pub record ArgsMade (means : ℕ → FlatName) (d e : Sketch) (args : List Atom) (xs : List (Arg FlatName)) (ck : When) (rs : List Place) : Type 0 where
    pub steps : Steps F means d e
    pub are : AreArgs means args xs
    pub flag : IsFlagged means e.flag ck rs

  -- the equation of a call
  pub call_made : {L : List Label → List Label} (see : Sight) (sc lsc : Scope) (at : Site) (w ck : When) (rs : List Place) (d e : Sketch) (f : List ℕ) (args : List Atom) (xs : List (Arg FlatName)) (os : List Decl) (here : Prefix) (A : (ℕ → FlatName) → Type 0)
      → outputs f ≡ map (λ (o : Decl). o.name) os → ((y : List ℕ) → F (At (here (Instance ∷ Named y ∷ []))) ≡ output_row types outputs fill 0 (outputs f) w rs f xs y)
      → Promises memory.keeps d e L A → ((means : ℕ → FlatName) → A means → Starts see sc lsc at w ck rs d means → ArgsMade means d e args xs ck rs)
      → Promises memory.keeps d (called_at k at f args os e).0 (λ rest. L (calling f (here []) (output_places (outputs f) here) ∷ rest))
      (λ means. Starts see sc lsc at w ck rs d means → Steps F means d (called_at k at f args os e).0 × IsFlagged means (called_at k at f args os e).0.flag ck rs × Agrees means (next e) (output_names os here))
  call_made see sc lsc at w ck rs d e f args xs os here A same cov p h =
      let answered : Promises memory.keeps e (called_at k at f args os e).0 (λ rest. calling f (here []) (output_places (outputs f) here) ∷ rest) (λ means. Agrees means (next e) (output_names os here)) =
      record {
        names = output_names os here;
        kept = outputs_kept memory.keeps os here;
        grown = outs-next k os e ∙ ap (λ n. next e + n) (sym (names-length os here));
        labelled = λ means a. labelled-both means e.eqns (with_outputs k os e).eqns (called_at k at f args os e).0.eqns (same-labelled means e.eqns (with_outputs k os e).eqns (outs_eqns k os e))
            (event-labelled means (with_outputs k os e).eqns _ (calling f (here []) (output_places (outputs f) here)) refl
            (record { right = refl; targets = outputs-are means os here (next e) a ∙ ap (λ names. ats (output_places names here)) (sym same) }));
        facts = λ means a. a;
      } in
      joined d e (called_at k at f args os e).0 A (λ means. Agrees means (next e) (output_names os here)) _ p answered
      (λ means a m st.
      let r = h means a st in (
        both F means d e (called_at k at f args os e).0 r.steps (call-steps k types outputs fill F means at f args os e w rs xs here r.steps.bounded st.2 r.are m same (knows.outputs_differ f) cov),
        subst (λ o. IsFlagged means o ck rs) (sym (outs-flag k os e)) r.flag,
        m,
      ))

  -- the value of a call is that of its first output
  call_value : {L : List Label → List Label} (see : Sight) (sc lsc : Scope) (at : Site) (w ck : When) (rs : List Place) (d e : Sketch) (f : List ℕ) (args : List Atom) (xs : List (Arg FlatName)) (os : List Decl) (here : Prefix) (A : (ℕ → FlatName) → Type 0) → HasOne os
      → outputs f ≡ map (λ (o : Decl). o.name) os → ((y : List ℕ) → F (At (here (Instance ∷ Named y ∷ []))) ≡ output_row types outputs fill 0 (outputs f) w rs f xs y)
      → F (At (here [])) ≡ only_row types outputs fill (outputs f) here w rs
      → Promises memory.keeps d e L A → ((means : ℕ → FlatName) → A means → Starts see sc lsc at w ck rs d means → ArgsMade means d e args xs ck rs)
      → Promises memory.keeps d (first_output at os (called_at k at f args os e)).0 (λ rest. L (calling f (here []) (output_places (outputs f) here) ∷ rest)) (Makes see sc lsc at w ck rs d (first_output at os (called_at k at f args os e)) (At (here [])))
  call_value see sc lsc at w ck rs d e f args xs [] here A has same cov top p h = absurd has
  call_value see sc lsc at w ck rs d e f args xs (o ∷ os) here A has same cov top p h =
      let c = called_at k at f args (o ∷ os) e in
      finish see sc lsc at w ck rs d c.0 (type_at c.0 c.1) (copy_of (Variable c.1)) (Op Copy (name (At (here (Instance ∷ Named o.name ∷ []))) ∷ [])) (At (here []))
      (λ means. Starts see sc lsc at w ck rs d means → Steps F means d c.0 × IsFlagged means c.0.flag ck rs × Agrees means (next e) (output_names (o ∷ os) here))
      refl (top ∙ ap (λ names. only_row types outputs fill names here w rs) same) tt
      (call_made see sc lsc at w ck rs d e f args xs (o ∷ os) here A same cov p h)
      (λ means g st. let r = g st in (r.0, r.1, (refl, (r.2.0, tt))))

  mutual
    pub expr-made : (e : Expr) (clock : Clock) (sc lsc : Scope) (here : Prefix) (ck : When) (rs : List Place) (see : Sight) (at : Site) (d : Sketch) → Owns at clock
        → ((p : Place) → F (At (here p)) ≡ flat_expr types outputs fill e clock sc lsc here ck rs p) → Ready k fill see at e here d → ExprKeeps memory.keeps types fill e clock sc here ck rs
        → Promises memory.keeps d (sketch_expr k see at e d).0 (expr_labels outputs e here) (Makes see sc lsc at (under types sc clock ck) ck rs d (sketch_expr k see at e d) (At (here [])))
    expr-made (constant s c) clock sc lsc here ck rs see at d own cov ready keep =
        let w = under types sc clock ck in
        alone see sc lsc at w ck rs d (type_of_value (constant_value k c)) (copy_of (Fixed (constant_value k c))) (Op Copy (value (constant_of types c) ∷ [])) (At (here [])) refl (cov []) tt
        (λ means st. (refl, (sym (knows.constants c), tt)))
    expr-made (variable s x) clock sc lsc here ck rs see at d own cov ready keep =
        let w = under types sc clock ck in
        alone see sc lsc at w ck rs d (see x).ty (copy_of (atom_of (see x).value)) (Op Copy (name (sc x) ∷ [])) (At (here [])) refl (cov []) tt
        (λ means st. (refl, (named_arg means (see x).value (sc x) (st.1 x).0, tt)))
    expr-made (last_of s x) clock sc lsc here ck rs see at d own cov ready keep =
        let w = under types sc clock ck in
        alone see sc lsc at w ck rs d (see x).ty (copy_of (atom_of (see x).last)) (Op Copy (name (lsc x) ∷ [])) (At (here [])) refl (cov []) tt
        (λ means st. (refl, (named_arg means (see x).last (lsc x) (st.1 x).1, tt)))
    expr-made (one s o a) clock sc lsc here ck rs see at d own cov ready keep =
        let w = under types sc clock ck in
        let x = sketch_expr k see at a d in
        finish see sc lsc at w ck rs d x.0 (type_one o) (operator (obc_one o) (Variable x.1 ∷ [])) (Op (obc_one o) (name (At (here (First ∷ []))) ∷ [])) (At (here []))
        (Makes see sc lsc at w ck rs d x (At (here (First ∷ [])))) (one-is-none o) (cov []) tt
        (expr-made a clock sc lsc (below First here) ck rs see at d own (λ p. cov (First ∷ p)) ready keep)
        (λ means f st. let i = f st in (i.steps, i.flag, (refl, (i.value, tt))))
    expr-made (two s o a b) clock sc lsc here ck rs see at d own cov ready keep =
        let w = under types sc clock ck in
        let x = sketch_expr k see at a d in
        let y = sketch_expr k see at b x.0 in
        let A = Makes see sc lsc at w ck rs d x (At (here (First ∷ []))) in
        let G = Makes see sc lsc at w ck rs x.0 y (At (here (Second ∷ []))) in
        finish_labelled see sc lsc at w ck rs d y.0 (type_two o) (operator (obc_two o) (Variable x.1 ∷ Variable y.1 ∷ [])) (Op (obc_two o) (name (At (here (First ∷ []))) ∷ name (At (here (Second ∷ []))) ∷ [])) (At (here []))
        (λ means. A means × G means) (λ means m. two-labelled means y.0.eqns (next y.0 ∷ []) at.clock at.restart o (Variable x.1 ∷ Variable y.1 ∷ []) (here []) (ap (λ a. a ∷ []) m)) (cov []) tt
        (in-turn d x.0 y.0 A G
        (expr-made a clock sc lsc (below First here) ck rs see at d own (λ p. cov (First ∷ p)) ready.0 keep.0)
        (expr-made b clock sc lsc (below Second here) ck rs see at x.0 own (λ p. cov (Second ∷ p)) ready.1 keep.1))
        (λ means f st.
        let i = f.0 st in
        let j = f.1 (onward see sc lsc at w ck rs d x (At (here (First ∷ []))) means st i) in
        (both F means d x.0 y.0 i.steps j.steps, j.flag, (refl, (i.value, (j.value, tt)))))
    expr-made (choose s a b c) clock sc lsc here ck rs see at d own cov ready keep =
        let w = under types sc clock ck in
        let x = sketch_expr k see at a d in
        let y = sketch_expr k see at b x.0 in
        let z = sketch_expr k see at c y.0 in
        let A = Makes see sc lsc at w ck rs d x (At (here (First ∷ []))) in
        let G = Makes see sc lsc at w ck rs x.0 y (At (here (Second ∷ []))) in
        let C = Makes see sc lsc at w ck rs y.0 z (At (here (Third ∷ []))) in
        finish see sc lsc at w ck rs d z.0 (type_at z.0 y.1) (operator Mux (Variable x.1 ∷ Variable y.1 ∷ Variable z.1 ∷ []))
        (Op Mux (name (At (here (First ∷ []))) ∷ name (At (here (Second ∷ []))) ∷ name (At (here (Third ∷ []))) ∷ [])) (At (here []))
        (λ means. (A means × G means) × C means) refl (cov []) tt
        (in-turn d y.0 z.0 (λ means. A means × G means) C
        (in-turn d x.0 y.0 A G
        (expr-made a clock sc lsc (below First here) ck rs see at d own (λ p. cov (First ∷ p)) ready.0 keep.0)
        (expr-made b clock sc lsc (below Second here) ck rs see at x.0 own (λ p. cov (Second ∷ p)) ready.1 keep.1))
        (expr-made c clock sc lsc (below Third here) ck rs see at y.0 own (λ p. cov (Third ∷ p)) ready.2 keep.2))
        (λ means f st.
        let i = f.0.0 st in
        let su = onward see sc lsc at w ck rs d x (At (here (First ∷ []))) means st i in
        let j = f.0.1 su in
        let l = f.1 (onward see sc lsc at w ck rs x.0 y (At (here (Second ∷ []))) means su j) in
        (both F means d y.0 z.0 (both F means d x.0 y.0 i.steps j.steps) l.steps, l.flag, (refl, (i.value, (j.value, (l.value, tt))))))
    expr-made (pre s a) clock sc lsc here ck rs see at d own cov ready keep =
        let w = under types sc clock ck in
        let x = sketch_expr k see at a d in
        finish see sc lsc at w ck rs d x.0 (type_at x.0 x.1) (register (first_value (type_at x.0 x.1)) (Variable x.1)) (Register (fill (here [])) (name (At (here (First ∷ []))))) (At (here []))
        (Makes see sc lsc at w ck rs d x (At (here (First ∷ [])))) refl (cov []) tt
        (expr-made a clock sc lsc (below First here) ck rs see at d own (λ p. cov (First ∷ p)) ready.1 keep)
        (λ means f st. let i = f st in (i.steps, i.flag, (sym ready.0, i.value)))
    expr-made (arrow s a b) clock sc lsc here ck rs see at d own cov ready keep =
        let w = under types sc clock ck in
        let x = sketch_expr k see at a d in
        let y = sketch_expr k see at b x.0 in
        let f = flag_at at y.0 in
        let A = Makes see sc lsc at w ck rs d x (At (here (First ∷ []))) in
        let G = Makes see sc lsc at w ck rs x.0 y (At (here (Second ∷ []))) in
        let C : (ℕ → FlatName) → Type 0 = λ means. IsBounded y.0 → IsAt means at w rs → IsFlagged means y.0.flag ck rs → IsMade F means y.0 f (IsFirst w rs) ck rs in
        finish see sc lsc at w ck rs d f.0 (type_at f.0 x.1) (operator Mux (Variable f.1 ∷ Variable x.1 ∷ Variable y.1 ∷ []))
        (Op Mux (name (IsFirst w rs) ∷ name (At (here (First ∷ []))) ∷ name (At (here (Second ∷ []))) ∷ [])) (At (here []))
        (λ means. (A means × G means) × C means) refl (cov []) tt
        (in-turn d y.0 f.0 (λ means. A means × G means) C
        (in-turn d x.0 y.0 A G
        (expr-made a clock sc lsc (below First here) ck rs see at d own (λ p. cov (First ∷ p)) ready.0 keep.1)
        (expr-made b clock sc lsc (below Second here) ck rs see at x.0 own (λ p. cov (Second ∷ p)) ready.1 keep.2))
        (flag-made F memory at y.0 w ck rs keep.0 (base_clock sc clock ck at own)))
        (λ means g st.
        let i = g.0.0 st in
        let j = g.0.1 (onward see sc lsc at w ck rs d x (At (here (First ∷ []))) means st i) in
        let l = g.1 j.steps.bounded st.2 j.flag in
        (both F means d y.0 f.0 (both F means d x.0 y.0 i.steps j.steps) l.steps, l.flag, (refl, (l.value, (i.value, (j.value, tt))))))
    expr-made (when_is s a c x) clock sc lsc here ck rs see at d own cov ready keep =
        let w = under types sc clock ck in
        let y = sketch_expr k see (off_site at) a d in
        finish see sc lsc at w ck rs d y.0 (type_at y.0 y.1) (copy_of (Variable y.1)) (Op Copy (name (At (here (First ∷ []))) ∷ [])) (At (here []))
        (Makes see sc lsc (off_site at) (under types sc (without clock) ck) ck rs d y (At (here (First ∷ [])))) refl (cov []) tt
        (expr-made a (without clock) sc lsc (below First here) ck rs see (off_site at) d (off_owns clock at own) (λ p. cov (First ∷ p)) ready keep)
        (λ means f st. let i = f (st.0, st.1, off_at means sc clock ck rs at own st.2, st.3) in (i.steps, i.flag, (refl, (i.value, tt))))
    expr-made (fby s a b) clock sc lsc here ck rs see at d own cov ready keep =
        fby_made (constant_in a) a b clock sc lsc here ck rs see at d own cov ready keep
        (λ c r q. expr-made a clock sc lsc (below First here) ck rs see at d own c r q)
        (λ e r q. expr-made b clock sc lsc (below Second here) ck rs see at e own (λ p. cov (Second ∷ p)) r q)
    expr-made (merge s x no_part) clock sc lsc here ck rs see at d own cov ready keep =
        let w = under types sc clock ck in
        let t = tested (see x).value d in
        let n = new_variable (codes "e") flat.Bool t.0 in
        let A : (ℕ → FlatName) → Type 0 = λ means. IsBounded d → IsNamed means (see x).value (sc x) → IsFlagged means d.flag ck rs → IsMade F means d t (sc x) ck rs in
        joined d t.0 n.0 A (λ means. means (next t.0) ≡ At (here [])) (Makes see sc lsc at w ck rs d n (At (here [])))
        (tested-made F memory (see x).value d (sc x) ck rs) (one-variable memory.keeps (codes "e") flat.Bool t.0 (At (here [])) tt)
        (λ means a m st.
        let i = a st.0 (st.1 x).0 st.3 in
        record { steps = both F means d t.0 n.0 i.steps (bare_merge means (codes "e") flat.Bool t.0 i.steps.bounded (ap F m ∙ cov [])); value = m; flag = i.flag })
    expr-made (merge s x (more_parts c e ps)) clock sc lsc here ck rs see at d own cov ready keep =
        let w = under types sc clock ck in
        let w' = under types sc ((c, x) ∷ clock) ck in
        let t = tested (see x).value d in
        let n = cons_number k c in
        let on' = on_site at t.1 n in
        let m = sketch_expr k see on' e t.0 in
        let v = next m.0 in
        let z = (new_variable (codes "e") (type_at m.0 m.1) m.0).0 in
        let p = part_at on' None m in
        let f = sketch_parts k see at t.1 (Some v) ps p.0 in
        let rows = copies w' rs (At (here (Args ∷ Head ∷ []))) ∷ parts_at types outputs fill ps x sc (below Tail (below Args here)) w rs in
        let A : (ℕ → FlatName) → Type 0 = λ means. IsBounded d → IsNamed means (see x).value (sc x) → IsFlagged means d.flag ck rs → IsMade F means d t (sc x) ck rs in
        let G = Makes see sc lsc on' w' ck rs t.0 m (At (here (Args ∷ Head ∷ []))) in
        let H : (ℕ → FlatName) → Type 0 = λ means. means v ≡ At (here []) in
        let C : (ℕ → FlatName) → Type 0 = λ means. Starts see sc lsc at w ck rs p.0 means → means t.1 ≡ sc x → v < next p.0 → (before : Rows) → AreRows means (defs p.0 v) before
        → PartsMade means p.0 f.0 v (before ++ parts_at types outputs fill ps x sc (below Tail (below Args here)) w rs) ck rs in
        let variable' = one-variable memory.keeps (codes "e") (type_at m.0 m.1) m.0 (At (here [])) tt in
        let variable'' : Promised memory.keeps m.0 p.0 H =
        record { names = variable'.names; kept = variable'.kept; grown = variable'.grown; labelled = λ means a. other-labelled means m.0.eqns _ refl; facts = variable'.facts } in
        let more : next p.0 ≡ next m.0 + 1 = length_more m.0.variables _ in
        subst (λ (q : Made). Promises memory.keeps d q.0 (λ rest. expr_labels outputs e (below Head (below Args here)) (parts_labels outputs ps (below Tail (below Args here)) rest)) (Makes see sc lsc at w ck rs d q (At (here []))))
        (ap (λ o. or_new (f.0, o)) (sym (parts_value see at t.1 v ps p.0)))
        (joined d p.0 f.0 (λ means. (A means × G means) × H means) C (Makes see sc lsc at w ck rs d (f.0, v) (At (here [])))
        (in-turn d m.0 p.0 (λ means. A means × G means) H
        (in-turn d t.0 m.0 A G
        (tested-made F memory (see x).value d (sc x) ck rs)
        (expr-made e ((c, x) ∷ clock) sc lsc (below Head (below Args here)) ck rs see on' t.0 (on_owns at t.1 n clock (c, x) own) (λ p. cov (Args ∷ Head ∷ p)) ready.0 keep.0))
        variable'')
        (parts-made ps x clock sc lsc (below Tail (below Args here)) ck rs see at t.1 v p.0 own (λ p. cov (Args ∷ Tail ∷ p)) ready.1 keep.1)
        (λ means g h st.
        let i = g.0.0 st.0 (st.1 x).0 st.3 in
        let on-at = on-steps means at t.1 n (cons_of types c) (sc x) w rs st.2 i.value (sym (knows.constructors c)) in
        let j = g.0.1 (i.steps.bounded, st.1, on-at, i.flag) in
        let copy = copy_of (Variable m.1) in
        let eqn : FlatEqn = record { targets = v ∷ []; clock = on'.clock; right = copy; restart = on'.restart; at = 0 } in
        let own-row : AreRows means (defs p.0 v) (copies w' rs (At (here (Args ∷ Head ∷ []))) ∷ []) =
        subst (λ ds. AreRows means ds (copies w' rs (At (here (Args ∷ Head ∷ []))) ∷ []))
        (sym (defs-new F means on' v copy z ∙ ap (λ ds. ds ++ (eqn, 0) ∷ []) (j.steps.bounded v (omega arith))))
        (record { clock = on-at.clock; restart = on-at.restart; right = (refl, (j.value, tt)) }, tt) in
        let bounded : IsBounded p.0 = λ y u. defs-same F means on' v copy z y (λ q. absurd (omega (arith, more))) ∙ j.steps.bounded y (omega (arith, more)) in
        let r = h (bounded, st.1, st.2, j.flag) i.value (omega (arith, more)) (copies w' rs (At (here (Args ∷ Head ∷ []))) ∷ []) own-row in
        let u = whole_merge means m.0 f.0 p.0 rows ck rs more (λ y l. defs-same F means on' v copy z y (λ q. absurd (omega arith))) (ap F g.1 ∙ cov []) r in
        record {
          steps = both F means d t.0 f.0 i.steps (both F means t.0 m.0 f.0 j.steps u);
          value = g.1;
          flag = r.flag;
        }))
    expr-made (call s f inlined es) clock sc lsc here ck rs see at d own cov ready keep =
        let w = under types sc clock ck in
        let xs = args_at types outputs fill es (below Args here) in
        let args = sketch_exprs k see at es d in
        call_value see sc lsc at w ck rs d args.0 f args.1 xs (outputs_of (k.nodes f)) here (λ means. Starts see sc lsc at w ck rs d means → ArgsMade means d args.0 args.1 xs ck rs) ready.0 (knows.calls f)
        (λ y. cov (Instance ∷ Named y ∷ [])) (cov [])
        (args-made es clock sc lsc (below Args here) ck rs see at d own (λ p. cov (Args ∷ p)) ready.1 keep)
        (λ means a st. a st)

    pub args-made : (es : Exprs) (clock : Clock) (sc lsc : Scope) (here : Prefix) (ck : When) (rs : List Place) (see : Sight) (at : Site) (d : Sketch) → Owns at clock
        → ((p : Place) → F (At (here p)) ≡ flat_exprs types outputs fill es clock sc lsc here ck rs p) → ReadyAll k fill see at es here d → ExprsKeep memory.keeps types fill es clock sc here ck rs
        → Promises memory.keeps d (sketch_exprs k see at es d).0 (exprs_labels outputs es here)
        (λ means. Starts see sc lsc at (under types sc clock ck) ck rs d means → ArgsMade means d (sketch_exprs k see at es d).0 (sketch_exprs k see at es d).1 (args_at types outputs fill es here) ck rs)
    args-made no_expr clock sc lsc here ck rs see at d own cov ready keep =
        none d _ (λ means st. record { steps = same F means d st.0; are = tt; flag = st.3 })
    args-made (more_exprs e es) clock sc lsc here ck rs see at d own cov ready keep =
        let w = under types sc clock ck in
        let x = sketch_expr k see at e d in
        let rest = sketch_exprs k see at es x.0 in
        joined d x.0 rest.0 (Makes see sc lsc at w ck rs d x (At (here (Head ∷ []))))
        (λ means. Starts see sc lsc at w ck rs x.0 means → ArgsMade means x.0 rest.0 rest.1 (args_at types outputs fill es (below Tail here)) ck rs) _
        (expr-made e clock sc lsc (below Head here) ck rs see at d own (λ p. cov (Head ∷ p)) ready.0 keep.0)
        (args-made es clock sc lsc (below Tail here) ck rs see at x.0 own (λ p. cov (Tail ∷ p)) ready.1 keep.1)
        (λ means a g st.
        let i = a st in
        let r = g (onward see sc lsc at w ck rs d x (At (here (Head ∷ []))) means st i) in
        record { steps = both F means d x.0 rest.0 i.steps r.steps; are = (i.value, r.are); flag = r.flag })

    parts-made : (ps : Parts) (x : List ℕ) (clock : Clock) (sc lsc : Scope) (here : Prefix) (ck : When) (rs : List Place) (see : Sight) (at : Site) (t v : ℕ) (d : Sketch) → Owns at clock
        → ((p : Place) → F (At (here p)) ≡ flat_parts types outputs fill ps x clock sc lsc here ck rs p) → ReadyParts k fill see at t (Some v) ps here d → PartsKeep memory.keeps types fill ps x clock sc here ck rs
        → Promises memory.keeps d (sketch_parts k see at t (Some v) ps d).0 (parts_labels outputs ps here)
        (λ means. Starts see sc lsc at (under types sc clock ck) ck rs d means → means t ≡ sc x → v < next d → (before : Rows) → AreRows means (defs d v) before
        → PartsMade means d (sketch_parts k see at t (Some v) ps d).0 v (before ++ parts_at types outputs fill ps x sc here (under types sc clock ck) rs) ck rs)
    parts-made no_part x clock sc lsc here ck rs see at t v d own cov ready keep =
        none d _ (λ means st tm l before rows.
        record {
          grown = omega arith;
          kept = λ y u ne. refl;
          own = subst (λ all. AreRows means (defs d v) all) (sym (append-nil before)) rows;
          done = λ y u z. absurd (omega arith);
          bounded = st.0;
          flag = st.3;
        })
    parts-made (more_parts c e ps) x clock sc lsc here ck rs see at t v d own cov ready keep =
        let w = under types sc clock ck in
        let n = cons_number k c in
        let on' = on_site at t n in
        let w' = under types sc ((c, x) ∷ clock) ck in
        let m = sketch_expr k see on' e d in
        let p = part_at on' (Some v) m in
        let f = (sketch_parts k see at t (Some v) ps p.0).0 in
        let A = Makes see sc lsc on' w' ck rs d m (At (here (Head ∷ []))) in
        let G : (ℕ → FlatName) → Type 0 = λ means. Starts see sc lsc at w ck rs p.0 means → means t ≡ sc x → v < next p.0 → (before : Rows) → AreRows means (defs p.0 v) before
        → PartsMade means p.0 f v (before ++ parts_at types outputs fill ps x sc (below Tail here) w rs) ck rs in
        let first = expr-made e ((c, x) ∷ clock) sc lsc (below Head here) ck rs see on' d (on_owns at t n clock (c, x) own) (λ p. cov (Head ∷ p)) ready.0 keep.0 in
        let first' : Promises memory.keeps d p.0 (expr_labels outputs e (below Head here)) A =
        record {
          names = first.names;
          kept = first.kept;
          grown = first.grown;
          labelled = λ means a. labelled-both means d.eqns m.0.eqns p.0.eqns (first.labelled means a) (other-labelled means m.0.eqns _ refl);
          facts = first.facts;
        } in
        joined d p.0 f A G _ first' (parts-made ps x clock sc lsc (below Tail here) ck rs see at t v p.0 own (λ p. cov (Tail ∷ p)) ready.1 keep.1)
        (λ means a g st tm l before rows.
        let i = on-steps means at t n (cons_of types c) (sc x) w rs st.2 tm (sym (knows.constructors c)) in
        let made = a (st.0, st.1, i, st.3) in
        part_more means at on' see sc lsc w w' ck rs d m v (At (here (Head ∷ []))) before (parts_at types outputs fill ps x sc (below Tail here) w rs) f i made l rows
        (λ b r. g (b, st.1, st.2, made.flag) tm (let h = made.steps.grown in omega (arith, l, h)) (before ++ copies w' rs (At (here (Head ∷ []))) ∷ []) r))
