-- An instant of a block, made of an instant of its equations; last values and clocks of what it declares.
use Rattle.std.proofs.Common.{◌≡◌, ℕ, Bool, true, false, List, [], ◌∷◌, ◌++◌, reverse, Option, None, Some, option_map, inl, inr, refl, sym, ap, ap₂, subst, ◌∙◌}
use Rattle.std.proofs.Math.Path.{fun_ext}
use Rattle.std.proofs.lemmas.List.{reverse-append}
use Rattle.std.specs.Prelude.{◌⊎◌, ⊤, if◌then◌else◌}
use Rattle.std.specs.Str.{bytes_eq}
use Rattle.hp_base.specs.declared.span.Span.{Span}
use Rattle.hp_base.specs.declared.value.Value.{Value}
use Rattle.hp_base.specs.declared.value.Value.TheVariants.{Absent, B}
use Rattle.hp_base.specs.declared.ty.Const.{Const}
use Rattle.hp_tree.specs.declared.decl.Cons.{Cons}
use Rattle.hp_tree.specs.Expressions.{Expr, constant, variable, last_of, one, two, choose, pre, fby, arrow, when_is, merge, call, Exprs, no_expr, more_exprs}
use Rattle.hp_tree.specs.Blocks.{Decl, block, Eqns, Eqn, eqns_of}
use Rattle.hp_tree.specs.Programs.{TypeDecl}
use Rattle.hp_tree.specs.Operators.{constant_of}
use Rattle.hp_tree.specs.Instant.{Named, Fresh, Equations, Instant, Past, Given, Clock, at, part, alone, in_right, in_block}
use Rattle.hp_tree.specs.Meaning.{Names, Nodes, equations, defined, scope, inside, lasts, previous, declares, some_defines, clock_in, written, clock_told, clocks_told, clock_of, or_clock, or_base}
use Rattle.hp_automata.specs.Renaming.{renamed, renamed_exprs, renamed_path, renamed_decls, renamed_left}
use Rattle.hp_automata.specs.Lowering.{defining}
use Rattle.law_automata.specs.Lowered.OldNames.{IsOld, OldPath, OldExpr, OldExprs}
use Rattle.law_automata.specs.Lowered.Removable.{Known, OldClock, AllOld, DeclsOk}
use Rattle.law_automata.specs.Lowered.Standing.{Relation, Along}
use Rattle.law_automata.specs.Lowered.Deciding.{Property}
use Rattle.law_automata.proofs.LoweredLemmas.Apart.{same_bytes}
use Rattle.law_automata.proofs.LoweredLemmas.Tests.{or_cases, or_left, or_right}
use Rattle.law_automata.proofs.LoweredLemmas.Renaming.{Renames, to_test}
use Rattle.law_automata.proofs.LoweredLemmas.Expressions.{reading}
use Rattle.law_automata.proofs.LoweredLemmas.Rows.{RowMet, EqnMet, Anyhow}

-- ---- a block

abbrev pub value_of : List TypeDecl → Const → Value
value_of types c = constant_of types c

module _ (types : List TypeDecl) (u : Value → Value) (N : Nodes) where
  module _ (ds : List Decl) (es : List Eqn) (names out last : Names) (g : Given) (fresh : Bool) (outside : (y : List ℕ) → some_defines (eqns_of es) y ≡ false → names y ≡ out y) (P : Property) where
    abbrev last_in_block : Names
    last_in_block = lasts (value_of types) ds g.past last

    said_by : (y : List ℕ) (t : Bool) (i : Instant) → some_defines (eqns_of es) y ≡ t → ((y : List ℕ) → some_defines (eqns_of es) y ≡ true → defined types (reading u) N ds (eqns_of es) names (lasts (value_of types) ds g.past last) (at Equations g) i y ≡ names y)
        → (if t then names y else Absent) ≡ (if t then defined types (reading u) N ds (eqns_of es) names (lasts (value_of types) ds g.past last) (at Equations g) i y else Absent)
    said_by y true i e h = sym (h y e)
    said_by y false i e h = refl

    inside_by : (y : List ℕ) (t : Bool) → some_defines (eqns_of es) y ≡ t → (if t then (if t then names y else Absent) else out y) ≡ names y
    inside_by y true e = refl
    inside_by y false e = sym (outside y e)

    pub block_made : RowMet types u N ds names (lasts (value_of types) ds g.past last) es (at Equations g) P
        → (j : Instant) × (j ≡ scope types (reading u) N (block ds (eqns_of es)) fresh out last g j) × P (part Equations j) × (j (Fresh ∷ []) ≡ B fresh) × ((y : List ℕ) → some_defines (eqns_of es) y ≡ true → j (Named y ∷ []) ≡ names y)
        × ((y : List ℕ) → some_defines (eqns_of es) y ≡ false → j (Named y ∷ []) ≡ Absent)
    block_made row =
        let j : Instant = in_block (λ y. if some_defines (eqns_of es) y then names y else Absent) (B fresh) row.0 in
        let seen : inside (eqns_of es) out j ≡ names = fun_ext (λ y. inside_by y (some_defines (eqns_of es) y) refl) in
        let said : j ≡ in_block (λ y. if some_defines (eqns_of es) y then defined types (reading u) N ds (eqns_of es) names (lasts (value_of types) ds g.past last) (at Equations g) row.0 y else Absent) (B fresh)
        (equations types (reading u) N ds (eqns_of es) names (lasts (value_of types) ds g.past last) (at Equations g) row.0) =
        ap₂ (λ a b. in_block a (B fresh) b) (fun_ext (λ y. said_by y (some_defines (eqns_of es) y) row.0 refl row.2)) row.1 in (
          j,
          said ∙ ap (λ nm. in_block (λ y. if some_defines (eqns_of es) y then defined types (reading u) N ds (eqns_of es) nm (lasts (value_of types) ds g.past last) (at Equations g) row.0 y else Absent) (B fresh)
              (equations types (reading u) N ds (eqns_of es) nm (lasts (value_of types) ds g.past last) (at Equations g) row.0)) (sym seen),
          row.3,
          refl,
          (λ y h. ap (λ t. if t then names y else Absent) h),
          λ y h. ap (λ t. if t then names y else Absent) h,
        )

  -- an equation that keeps the last value of a name
  pub last_met : (ds : List Decl) (names last : Names) (s : Span) (y x : List ℕ) → names y ≡ last x → (g : Given) → EqnMet types u N ds names last (defining s y (last_of s x)) g Anyhow
  last_met ds names last s y x v g =
      (in_right (alone (last x)), refl, (λ z h. by z (or_cases (bytes_eq y z) false h)), tt)
    where
      by : (z : List ℕ) → (bytes_eq y z ≡ true) ⊎ (false ≡ true) → last x ≡ names z
      by z (inl h) = sym v ∙ ap names (same_bytes y z h)
      by z (inr h) = absurd cc

-- ---- last values

module _ (value : Const → Value) where
  abbrev pub last_by : Option Const → Past → List ℕ → Names → Value
  last_by None past x out = out x
  last_by (Some c) past x out = previous past x (value c)

  previous_same : (P : Relation) (x : List ℕ) → ((i j : Instant) → P i j → i (Named x ∷ []) ≡ j (Named x ∷ [])) → (past other : Past) → Along P past other → (v : Value) → previous other x v ≡ previous past x v
  previous_same P x h [] [] a v = refl
  previous_same P x h (i ∷ past) (j ∷ other) a v = sym (h i j a.0)
  previous_same P x h [] (j ∷ other) a v = absurd a
  previous_same P x h (i ∷ past) [] a v = absurd a

  last_same_by : (P : Relation) (x : List ℕ) → (past other : Past) → Along P past other → (out out' : Names) → out' x ≡ out x → ((i j : Instant) → P i j → i (Named x ∷ []) ≡ j (Named x ∷ [])) → (c : Option Const)
      → ◌≡◌ {A = Value} (elim c [ None ↦ out' x | Some c ↦ previous other x (value c) ]) (elim c [ None ↦ out x | Some c ↦ previous past x (value c) ])
  last_same_by P x past other a out out' e h None = e
  last_same_by P x past other a out out' e h (Some c) = previous_same P x h past other a (value c)

  pub lasts_same : (P : Relation) (all : List Decl) → ((i j : Instant) → P i j → (x : List ℕ) → declares all x ≡ true → i (Named x ∷ []) ≡ j (Named x ∷ [])) → (past other : Past) → Along P past other
      → (to : List ℕ → List ℕ) (out out' : Names) (x : List ℕ) → out' x ≡ out x → (ds : List Decl) → ((z : List ℕ) → declares ds z ≡ true → declares all z ≡ true)
      → lasts value (renamed_decls to ds) other out' x ≡ lasts value ds past out x
  lasts_same P all h past other a to out out' x e [] sub = e
  lasts_same P all h past other a to out out' x e (d ∷ ds) sub =
      by (bytes_eq d.name x) refl (lasts_same P all h past other a to out out' x e ds (λ z q. sub z (or_right (bytes_eq d.name z) (declares ds z) q)))
    where
      by : (t : Bool) → bytes_eq d.name x ≡ t → lasts value (renamed_decls to ds) other out' x ≡ lasts value ds past out x
          → (if t then (elim d.last [ None ↦ out' x | Some c ↦ previous other x (value c) ]) else lasts value (renamed_decls to ds) other out' x) ≡ (if t then (elim d.last [ None ↦ out x | Some c ↦ previous past x (value c) ]) else lasts value ds past out x)
      by true q r = last_same_by P x past other a out out' e (λ i j p. h i j p x (sub x (or_left (bytes_eq d.name x) (declares ds x) q))) d.last
      by false q r = r

  -- behind declarations that have no last values
  abbrev pub NoLast : List Decl → Type 0
  NoLast [] = ⊤
  NoLast (d ∷ ds) = (d.last ≡ None) × NoLast ds

  none_by : (d : Decl) (past : Past) (out : Names) (x : List ℕ) (rest : Value) → d.last ≡ None → rest ≡ out x → (t : Bool) → (if t then (elim d.last [ None ↦ out x | Some c ↦ previous past x (value c) ]) else rest) ≡ out x
  none_by d past out x rest h r true = ap (last_value past out x) h
    where
      last_value : Past → Names → List ℕ → Option Const → Value
      last_value past out x o = elim o [ None ↦ out x | Some c ↦ previous past x (value c) ]
  none_by d past out x rest h r false = r

  pub lasts_none : (ds : List Decl) → NoLast ds → (past : Past) (out : Names) (x : List ℕ) → lasts value ds past out x ≡ out x
  lasts_none [] h past out x = refl
  lasts_none (d ∷ ds) h past out x = none_by d past out x (lasts value ds past out x) h.0 (lasts_none ds h.1 past out x) (bytes_eq d.name x)

  pub lasts_append : (xs ys : List Decl) → NoLast ys → (past : Past) (out : Names) (x : List ℕ) → lasts value (xs ++ ys) past out x ≡ lasts value xs past out x
  lasts_append [] ys h past out x = lasts_none ys h past out x
  lasts_append (d ∷ xs) ys h past out x = ap (λ v. if bytes_eq d.name x then (elim d.last [ None ↦ out x | Some c ↦ previous past x (value c) ]) else v) (lasts_append xs ys h past out x)

-- ---- clocks

old_append : (xs ys : List (Cons × List ℕ)) → OldPath xs → OldPath ys → OldPath (xs ++ ys)
old_append [] ys h g = g
old_append (x ∷ xs) ys h g = (h.0, old_append xs ys h.1 g)

old_reverse : (xs : List (Cons × List ℕ)) → OldPath xs → OldPath (reverse xs)
old_reverse [] h = tt
old_reverse (x ∷ xs) h = subst OldPath (sym (reverse-append (x ∷ []) xs)) (old_append (reverse xs) (x ∷ []) (old_reverse xs h.1) (h.0, tt))

pub old_written : (c : Option (List (Cons × List ℕ))) → OldClock c → OldPath (written c)
old_written None h = tt
old_written (Some path) h = old_reverse path h

module _ (to : List ℕ → List ℕ) where
  path_append : (xs ys : List (Cons × List ℕ)) → renamed_path to (xs ++ ys) ≡ renamed_path to xs ++ renamed_path to ys
  path_append [] ys = refl
  path_append (x ∷ xs) ys = ap (λ p. (x.0, to x.1) ∷ p) (path_append xs ys)

  path_reverse : (xs : List (Cons × List ℕ)) → reverse (renamed_path to xs) ≡ renamed_path to (reverse xs)
  path_reverse [] = refl
  path_reverse (x ∷ xs) =
      reverse-append ((x.0, to x.1) ∷ []) (renamed_path to xs) ∙ ap (λ p. p ++ (x.0, to x.1) ∷ []) (path_reverse xs) ∙ sym (path_append (reverse xs) (x ∷ [])) ∙ ap (renamed_path to) (sym (reverse-append (x ∷ []) xs))

  pub written_same : (c : Option (List (Cons × List ℕ))) → written (option_map (renamed_path to) c) ≡ renamed_path to (written c)
  written_same None = refl
  written_same (Some path) = path_reverse path

  -- declarations on the base clock
  abbrev pub OnBase : List Decl → Type 0
  OnBase [] = ⊤
  OnBase (d ∷ ds) = (written d.clock ≡ []) × OnBase ds

  pub base_clock : (ds : List Decl) → OnBase ds → (y : List ℕ) → clock_in ds y ≡ []
  base_clock [] h y = refl
  base_clock (d ∷ ds) h y = by (bytes_eq d.name y) h.0 (base_clock ds h.1 y)
    where
      by : (t : Bool) → written d.clock ≡ [] → clock_in ds y ≡ [] → (if t then written d.clock else clock_in ds y) ≡ []
      by true p q = p
      by false p q = q

  -- what stands for names has what stands for their clocks, with any declarations on the base clock behind
  pub clock_kept : {outer : Known} {d : ℕ} → Renames outer d to → (es : Eqns) (ds more : List Decl) → DeclsOk outer es ds → OnBase more → (y : List ℕ) → IsOld y → clock_in (renamed_decls to ds ++ more) (to y) ≡ renamed_path to (clock_in ds y)
  clock_kept r es [] more ok base y o = base_clock more base (to y)
  clock_kept {outer} {d} r es (x ∷ ds) more ok base y o =
      let same : bytes_eq x.name (to y) ≡ bytes_eq x.name y =
      ap (λ z. bytes_eq z (to y)) (sym (r.kept x.name ok.0.0 ok.0.1)) ∙ to_test r x.name y ok.0.0 o in
      ap₂ (λ t c. if t then written (option_map (renamed_path to) x.clock) else c) same (clock_kept r es ds more ok.1 base y o) ∙ by (bytes_eq x.name y)
    where
      by : (t : Bool) → (if t then written (option_map (renamed_path to) x.clock) else renamed_path to (clock_in ds y)) ≡ renamed_path to (if t then written x.clock else clock_in ds y)
      by true = written_same x.clock
      by false = refl

  pub clock_old : (outer : Known) (es : Eqns) (ds : List Decl) → DeclsOk outer es ds → (y : List ℕ) → OldPath (clock_in ds y)
  clock_old outer es [] ok y = tt
  clock_old outer es (x ∷ ds) ok y = by (bytes_eq x.name y) (old_written x.clock ok.0.3) (clock_old outer es ds ok.1 y)
    where
      by : (t : Bool) → OldPath (written x.clock) → OldPath (clock_in ds y) → OldPath (if t then written x.clock else clock_in ds y)
      by true p q = p
      by false p q = q

  abbrev OldTold : Option Clock → Type 0
  OldTold None = ⊤
  OldTold (Some clock) = OldPath clock

  told_either : (c d : Option Clock) → OldTold c → OldTold d → OldTold (or_clock c d)
  told_either None d h g = g
  told_either (Some c) d h g = h

  or_same : (c d : Option Clock) → or_clock (option_map (renamed_path to) c) (option_map (renamed_path to) d) ≡ option_map (renamed_path to) (or_clock c d)
  or_same None d = refl
  or_same (Some c) d = refl

  -- what is known of the clocks of declared names
  pub record ClocksSame (ds ds' : List Decl) : Type 0 where
    pub same : (y : List ℕ) → IsOld y → clock_in ds' (to y) ≡ renamed_path to (clock_in ds y)
    pub old : (y : List ℕ) → OldPath (clock_in ds y)

  module _ (ds ds' : List Decl) (k : ClocksSame ds ds') where
    mutual
      told_same : (e : Expr) → OldExpr e → clock_told ds' (renamed to e) ≡ option_map (renamed_path to) (clock_told ds e)
      told_same (constant s c) o = refl
      told_same (variable s x) o = ap Some (k.same x o)
      told_same (last_of s x) o = refl
      told_same (one s op a) o = told_same a o
      told_same (two s op a b) o = ap₂ or_clock (told_same a o.0) (told_same b o.1) ∙ or_same (clock_told ds a) (clock_told ds b)
      told_same (choose s a b c) o =
          ap₂ or_clock (told_same a o.0) (ap₂ or_clock (told_same b o.1) (told_same c o.2) ∙ or_same (clock_told ds b) (clock_told ds c)) ∙ or_same (clock_told ds a) (or_clock (clock_told ds b) (clock_told ds c))
      told_same (pre s a) o = told_same a o
      told_same (fby s a b) o = ap₂ or_clock (told_same a o.0) (told_same b o.1) ∙ or_same (clock_told ds a) (clock_told ds b)
      told_same (arrow s a b) o = ap₂ or_clock (told_same a o.0) (told_same b o.1) ∙ or_same (clock_told ds a) (clock_told ds b)
      told_same (when_is s a c x) o = ap (λ ck. Some ((c, to x) ∷ ck)) (k.same x o.0)
      told_same (merge s x ps) o = ap Some (k.same x o.0)
      told_same (call s f i es) o = all_same es o

      all_same : (es : Exprs) → OldExprs es → clocks_told ds' (renamed_exprs to es) ≡ option_map (renamed_path to) (clocks_told ds es)
      all_same no_expr o = refl
      all_same (more_exprs e es) o = ap₂ or_clock (told_same e o.0) (all_same es o.1) ∙ or_same (clock_told ds e) (clocks_told ds es)

    mutual
      told_old : (e : Expr) → OldExpr e → OldTold (clock_told ds e)
      told_old (constant s c) o = tt
      told_old (variable s x) o = k.old x
      told_old (last_of s x) o = tt
      told_old (one s op a) o = told_old a o
      told_old (two s op a b) o = told_either (clock_told ds a) (clock_told ds b) (told_old a o.0) (told_old b o.1)
      told_old (choose s a b c) o =
          told_either (clock_told ds a) (or_clock (clock_told ds b) (clock_told ds c)) (told_old a o.0) (told_either (clock_told ds b) (clock_told ds c) (told_old b o.1) (told_old c o.2))
      told_old (pre s a) o = told_old a o
      told_old (fby s a b) o = told_either (clock_told ds a) (clock_told ds b) (told_old a o.0) (told_old b o.1)
      told_old (arrow s a b) o = told_either (clock_told ds a) (clock_told ds b) (told_old a o.0) (told_old b o.1)
      told_old (when_is s a c x) o = (o.0, k.old x)
      told_old (merge s x ps) o = k.old x
      told_old (call s f i es) o = all_old es o

      all_old : (es : Exprs) → OldExprs es → OldTold (clocks_told ds es)
      all_old no_expr o = tt
      all_old (more_exprs e es) o = told_either (clock_told ds e) (clocks_told ds es) (told_old e o.0) (all_old es o.1)

    base_same : (c : Option Clock) → or_base (option_map (renamed_path to) c) ≡ renamed_path to (or_base c)
    base_same None = refl
    base_same (Some c) = refl

    base_old : (c : Option Clock) → OldTold c → OldPath (or_base c)
    base_old None h = tt
    base_old (Some c) h = h

    pub clock_same : (ys : List (List ℕ × Span)) (e : Expr) → AllOld ys → OldExpr e → clock_of ds' (renamed_left to ys) (renamed to e) ≡ renamed_path to (clock_of ds ys e)
    clock_same [] e h o = ap or_base (told_same e o) ∙ base_same (clock_told ds e)
    clock_same (y ∷ ys) e h o = k.same y.0 h.0

    pub clock_of_old : (ys : List (List ℕ × Span)) (e : Expr) → OldExpr e → OldPath (clock_of ds ys e)
    clock_of_old [] e o = base_old (clock_told ds e) (told_old e o)
    clock_of_old (y ∷ ys) e o = k.old y.0
