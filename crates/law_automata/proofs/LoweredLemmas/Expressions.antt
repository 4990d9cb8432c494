-- An expression whose names are replaced has the values of the expression, where what stands for a name has its value.
use Rattle.std.proofs.Common.{◌≡◌, ℕ, Bool, true, false, List, [], ◌∷◌, map, inl, inr, refl, sym, ap, ap₂, ◌∙◌}
use Rattle.std.specs.Prelude.{if◌then◌else◌, ◌&&◌}
use Rattle.hp_base.specs.declared.span.Span.{Span}
use Rattle.hp_base.specs.declared.value.Value.{Value}
use Rattle.hp_base.specs.declared.value.Value.TheVariants.{Absent, Nil}
use Rattle.hp_tree.specs.Expressions.{Expr, constant, variable, last_of, one, two, choose, pre, fby, arrow, when_is, merge, call, Exprs, no_expr, more_exprs, Parts, no_part, more_parts}
use Rattle.hp_tree.specs.Programs.{TypeDecl}
use Rattle.hp_tree.specs.Operators.{Reading, constant_of, is_cons, one_of, two_of, if_of}
use Rattle.hp_tree.specs.Instant.{Fresh, Named, Head, Tail, First, Second, Third, Args, Instance, Instant, Given, at, part, parts, top, since, newest, at_first, nothing, alone, with_one, with_two, with_three, in_row, with_row, with_instance, Clock, holds, without}
use Rattle.hp_tree.specs.Meaning.{Names, Nodes, expr, exprs, merged, only_output}
use Rattle.hp_automata.specs.Renaming.{renamed, renamed_exprs, renamed_parts, renamed_path}
use Rattle.law_automata.specs.Lowered.OldNames.{IsOld, OldPath, OldExpr, OldExprs, OldParts}
use Rattle.law_automata.specs.Lowered.Standing.{Relation, Along, BothThere, ExprStands, ExprsStand, PartsStand}
use Rattle.law_automata.specs.Lowered.Giving.{ExprGiven, ExprsGiven, PartsGiven}
pub use Rattle.law_automata.specs.Lowered.Giving.{reading}
use Rattle.law_automata.specs.Lowered.Deciding.{Property, IfThere, ExprDecided, ExprsDecided, PartsDecided}
use Rattle.law_automata.proofs.LoweredLemmas.Pasts.{along_map, SameTop, newest_same, first_same, own_along}
use Rattle.law_automata.proofs.LoweredLemmas.Callees.{Met, Callees}

pub ap₃ : {A B C D : Type 0} (f : A → B → C → D) {a a' : A} {b b' : B} {c c' : C} → a ≡ a' → b ≡ b' → c ≡ c' → f a b c ≡ f a' b' c'
ap₃ f p q r = λ i. f (p i) (q i) (r i)

-- the part of a merge that is there, as in the meaning
abbrev pub chosen : List TypeDecl → Parts → Value → List Instant → Value
chosen types no_part v is = Absent
chosen types (more_parts c e ps) v [] = Absent
chosen types (more_parts c e ps) v (i ∷ is) = if is_cons types v c then top i else chosen types ps v is

module _ (stands : List ℕ → Relation) where
  pub stands_top : (e : Expr) (i j : Instant) → ExprStands stands e i j → top i ≡ top j
  stands_top (constant s c) i j h = h
  stands_top (variable s x) i j h = h
  stands_top (last_of s x) i j h = h
  stands_top (one s o a) i j h = h.0
  stands_top (two s o a b) i j h = h.0
  stands_top (choose s a b c) i j h = h.0
  stands_top (pre s a) i j h = h.0
  stands_top (fby s a b) i j h = h.0
  stands_top (arrow s a b) i j h = h.0
  stands_top (when_is s a c x) i j h = h.0
  stands_top (merge s x ps) i j h = h.0
  stands_top (call s f inlined es) i j h = h.0

pub old_without : (clock : Clock) → OldPath clock → OldPath (without clock)
old_without [] o = tt
old_without (on ∷ clock) o = o.1

module _ (types : List TypeDecl) (u : Value → Value) (N N' : Nodes) (stands given : List ℕ → Relation) (decided : List ℕ → Property) (C : Callees N N' stands given decided) where
  abbrev R : Reading
  R = reading u

  module _ (to : List ℕ → List ℕ) (names' names last' last : Names) (same : (x : List ℕ) → IsOld x → names' (to x) ≡ names x) (lasts : (x : List ℕ) → IsOld x → last' x ≡ last x) where
    pub holds_same : (clock : Clock) → OldPath clock → holds types (renamed_path to clock) names' ≡ holds types clock names
    holds_same [] o = refl
    holds_same (on ∷ clock) o = ap₂ (λ v b. is_cons types v on.0 && b) (same on.1 o.0) (holds_same clock o.1)

    on_same : (clock : Clock) → OldPath clock → (v w : Value) → v ≡ w → (if holds types clock names then v else Absent) ≡ (if holds types (renamed_path to clock) names' then w else Absent)
    on_same clock o v w e = ap₂ (λ b r. if b then r else Absent) (sym (holds_same clock o)) e

    without_same : (clock : Clock) → without (renamed_path to clock) ≡ renamed_path to (without clock)
    without_same [] = refl
    without_same (on ∷ clock) = refl

    -- an instant of an expression, and of some in a row
    abbrev pub ExprMet : Expr → Clock → Given → Instant → Type 0
    ExprMet e clock g' now = Met (ExprStands stands e now) (λ j. expr types R N' (renamed to e) (renamed_path to clock) names' last' g' j)

    -- rows as they are said, with the values of each
    abbrev pub RowMet : Exprs → Clock → Given → Instant → List Instant → Type 0
    RowMet es clock g' now is =
        (js : List Instant) × (js ≡ exprs types R N' (renamed_exprs to es) (renamed_path to clock) names' last' g' (in_row js)) × ExprsStand stands es now (in_row js) × (map top is ≡ map top js)

    abbrev pub PartsMet : Parts → List ℕ → Clock → Given → Instant → List Instant → Type 0
    PartsMet ps x clock g' now is =
        (js : List Instant) × (js ≡ merged types R N' (renamed_parts to ps) (to x) (renamed_path to clock) names' last' g' (in_row js)) × PartsStand stands ps now (in_row js)
        × ((v : Value) → chosen types ps v is ≡ chosen types (renamed_parts to ps) v js)

    -- the instance of a call
    abbrev InstanceMet : List ℕ → Bool → List Value → Given → Instant → Type 0
    InstanceMet f there inputs g' now =
        (j : Instant) × (j ≡ (if there then N'.instant f inputs (since false g') j else nothing)) × BothThere (stands f) now j × ((x : List ℕ) → now (Named x ∷ []) ≡ j (Named x ∷ []))

    instance_met : (f : List ℕ) (there : Bool) (inputs : List Value) (g g' : Given) (now : Instant) → Along (BothThere (stands f)) g.past g'.past → given f g.free g'.free → IfThere (decided f) now
        → now ≡ (if there then N.instant f inputs (since false g) now else nothing) → InstanceMet f there inputs g' now
    instance_met f true inputs g g' now past free dec m =
        let made = C.step f inputs (since false g) (since false g') now (own_along (stands f) g.past g'.past past) free dec m in
        (made.0, made.1, inr (C.fresh f now made.0 made.2, made.2), C.named f now made.0 made.2)
    instance_met f false inputs g g' now past free dec m = (nothing, refl, inl (ap (λ i. i (Fresh ∷ [])) m, refl), λ x. ap (λ i. i (Named x ∷ [])) m)

    output_same : (os : List (List ℕ)) (i j : Instant) → ((x : List ℕ) → i (Named x ∷ []) ≡ j (Named x ∷ [])) → only_output os i ≡ only_output os j
    output_same [] i j h = refl
    output_same (o ∷ os) i j h = h o

    -- what a call gives, from its arguments and its instance
    call_met : (s : Span) (f : List ℕ) (inlined : Bool) (es : Exprs) (clock : Clock) → OldPath clock → (g g' : Given) (now : Instant) → Along (ExprStands stands (call s f inlined es)) g.past g'.past → given f (part Instance g.free) (part Instance g'.free)
        → IfThere (decided f) (part Instance now) → (is : List Instant) → now ≡ with_instance (only_output (N.outputs f) (part Instance now)) is (part Instance now)
        → part Instance now ≡ (if holds types clock names then N.instant f (map top is) (since false (at Instance g)) (part Instance now) else nothing)
        → RowMet es clock (at Args g') (part Args now) is → ExprMet (call s f inlined es) clock g' now
    call_met s f inlined es clock oc g g' now past free dec is m mi row =
        let inst = instance_met f (holds types clock names) (map top is) (at Instance g) (at Instance g') (part Instance now)
        (along_map (ExprStands stands (call s f inlined es)) (BothThere (stands f)) (part Instance) (part Instance) (λ i j h. h.2) g.past g'.past past) free dec mi in
        let j : Instant = with_instance (only_output (N'.outputs f) inst.0) row.0 inst.0 in
        let there : inst.0 ≡ (if holds types (renamed_path to clock) names' then N'.instant f (map top (exprs types R N' (renamed_exprs to es) (renamed_path to clock) names' last' (at Args g') (in_row row.0))) (since false (at Instance g')) inst.0 else nothing) =
        inst.1 ∙ ap₂ (λ b vs. if b then N'.instant f vs (since false (at Instance g')) inst.0 else nothing) (sym (holds_same clock oc)) (row.3 ∙ ap (map top) row.1) in (
          j,
          ap₂ (λ js i. with_instance (only_output (N'.outputs f) i) js i) row.1 there,
          (ap top m ∙ output_same (N.outputs f) (part Instance now) inst.0 inst.3 ∙ ap (λ os. only_output os inst.0) (sym (C.outputs f)), row.2, inst.2, inst.3),
        )

    mutual
      pub expr_met : (e : Expr) → OldExpr e → (clock : Clock) → OldPath clock → (g g' : Given) (now : Instant) → Along (ExprStands stands e) g.past g'.past → ExprGiven u given e g.free g'.free
          → ExprDecided decided e now → now ≡ expr types R N e clock names last g now → ExprMet e clock g' now
      expr_met (constant s c) o clock oc g g' now past free dec m =
          let v : Value = R.constant (constant_of types c) in
          (alone (if holds types (renamed_path to clock) names' then v else Absent), refl, ap top m ∙ on_same clock oc v v refl)
      expr_met (variable s x) o clock oc g g' now past free dec m = (alone (names' (to x)), refl, ap top m ∙ sym (same x o))
      expr_met (last_of s x) o clock oc g g' now past free dec m = (alone (last' x), refl, ap top m ∙ sym (lasts x o))
      expr_met (one s op a) o clock oc g g' now past free dec m =
          let A = expr_met a o clock oc (at First g) (at First g') (part First now) (along_map (ExprStands stands (one s op a)) (ExprStands stands a) (part First) (part First) (λ i j h. h.1) g.past g'.past past) free dec (ap (part First) m) in
          let ta = sym (ap top (ap (part First) m)) ∙ stands_top stands a (part First now) A.0 A.2 in
          (with_one (one_of op (top A.0)) A.0, ap (λ i. with_one (one_of op (top i)) i) A.1, (ap top m ∙ ap (one_of op) ta, A.2))
      expr_met (two s op a b) o clock oc g g' now past free dec m =
          let A = expr_met a o.0 clock oc (at First g) (at First g') (part First now) (along_map (ExprStands stands (two s op a b)) (ExprStands stands a) (part First) (part First) (λ i j h. h.1) g.past g'.past past) free.0 dec.0 (ap (part First) m) in
          let B = expr_met b o.1 clock oc (at Second g) (at Second g') (part Second now) (along_map (ExprStands stands (two s op a b)) (ExprStands stands b) (part Second) (part Second) (λ i j h. h.2) g.past g'.past past) free.1 dec.1 (ap (part Second) m) in
          let ta = sym (ap top (ap (part First) m)) ∙ stands_top stands a (part First now) A.0 A.2 in
          let tb = sym (ap top (ap (part Second) m)) ∙ stands_top stands b (part Second now) B.0 B.2 in
          (with_two (two_of op (top A.0) (top B.0)) A.0 B.0, ap₂ (λ i j. with_two (two_of op (top i) (top j)) i j) A.1 B.1, (ap top m ∙ ap₂ (two_of op) ta tb, A.2, B.2))
      expr_met (choose s a b c) o clock oc g g' now past free dec m =
          let A = expr_met a o.0 clock oc (at First g) (at First g') (part First now) (along_map (ExprStands stands (choose s a b c)) (ExprStands stands a) (part First) (part First) (λ i j h. h.1) g.past g'.past past) free.0 dec.0 (ap (part First) m) in
          let B = expr_met b o.1 clock oc (at Second g) (at Second g') (part Second now) (along_map (ExprStands stands (choose s a b c)) (ExprStands stands b) (part Second) (part Second) (λ i j h. h.2) g.past g'.past past) free.1 dec.1 (ap (part Second) m) in
          let D = expr_met c o.2 clock oc (at Third g) (at Third g') (part Third now) (along_map (ExprStands stands (choose s a b c)) (ExprStands stands c) (part Third) (part Third) (λ i j h. h.3) g.past g'.past past) free.2 dec.2 (ap (part Third) m) in
          let ta = sym (ap top (ap (part First) m)) ∙ stands_top stands a (part First now) A.0 A.2 in
          let tb = sym (ap top (ap (part Second) m)) ∙ stands_top stands b (part Second now) B.0 B.2 in
          let td = sym (ap top (ap (part Third) m)) ∙ stands_top stands c (part Third now) D.0 D.2 in
          (with_three (if_of (top A.0) (top B.0) (top D.0)) A.0 B.0 D.0, ap₃ (λ i j k. with_three (if_of (top i) (top j) (top k)) i j k) A.1 B.1 D.1, (ap top m ∙ ap₃ if_of ta tb td, A.2, B.2, D.2))
      expr_met (pre s a) o clock oc g g' now past free dec m =
          let A = expr_met a o clock oc (at First g) (at First g') (part First now) (along_map (ExprStands stands (pre s a)) (ExprStands stands a) (part First) (part First) (λ i j h. h.1) g.past g'.past past) free.1 dec (ap (part First) m) in
          let tops = along_map (ExprStands stands (pre s a)) SameTop (part First) (part First) (λ i j h. stands_top stands a (part First i) (part First j) h.1) g.past g'.past past in
          let v : Value = newest (u (top g.free)) (parts First g.past) in
          let w : Value = newest (u (top g'.free)) (parts First g'.past) in
          let e : v ≡ w = newest_same (u (top g.free)) (parts First g.past) (parts First g'.past) tops ∙ ap (λ t. newest t (parts First g'.past)) free.0 in
          (with_one (if holds types (renamed_path to clock) names' then w else Absent) A.0, ap (λ i. with_one (if holds types (renamed_path to clock) names' then w else Absent) i) A.1, (ap top m ∙ on_same clock oc v w e, A.2))
      expr_met (fby s a b) o clock oc g g' now past free dec m =
          let A = expr_met a o.0 clock oc (at First g) (at First g') (part First now) (along_map (ExprStands stands (fby s a b)) (ExprStands stands a) (part First) (part First) (λ i j h. h.1) g.past g'.past past) free.0 dec.0 (ap (part First) m) in
          let B = expr_met b o.1 clock oc (at Second g) (at Second g') (part Second now) (along_map (ExprStands stands (fby s a b)) (ExprStands stands b) (part Second) (part Second) (λ i j h. h.2) g.past g'.past past) free.1 dec.1 (ap (part Second) m) in
          let ta = sym (ap top (ap (part First) m)) ∙ stands_top stands a (part First now) A.0 A.2 in
          let firsts = along_map (ExprStands stands (fby s a b)) SameTop (part First) (part First) (λ i j h. stands_top stands a (part First i) (part First j) h.1) g.past g'.past past in
          let seconds = along_map (ExprStands stands (fby s a b)) SameTop (part Second) (part Second) (λ i j h. stands_top stands b (part Second i) (part Second j) h.2) g.past g'.past past in
          let n : Value = newest Nil (parts Second g.past) in
          let n' : Value = newest Nil (parts Second g'.past) in
          let v : Value = at_first (parts First g.past) (top (expr types R N a clock names last (at First g) (part First now))) n in
          let w : Value = at_first (parts First g'.past) (top A.0) n' in
          let e : v ≡ w = first_same (parts First g.past) (parts First g'.past) (top (expr types R N a clock names last (at First g) (part First now))) n firsts
          ∙ ap₂ (at_first (parts First g'.past)) ta (newest_same Nil (parts Second g.past) (parts Second g'.past) seconds) in (
            with_two (if holds types (renamed_path to clock) names' then w else Absent) A.0 B.0,
            ap₂ (λ i j. with_two (if holds types (renamed_path to clock) names' then at_first (parts First g'.past) (top i) n' else Absent) i j) A.1 B.1,
            (ap top m ∙ on_same clock oc v w e, A.2, B.2),
          )
      expr_met (arrow s a b) o clock oc g g' now past free dec m =
          let A = expr_met a o.0 clock oc (at First g) (at First g') (part First now) (along_map (ExprStands stands (arrow s a b)) (ExprStands stands a) (part First) (part First) (λ i j h. h.1) g.past g'.past past) free.0 dec.0 (ap (part First) m) in
          let B = expr_met b o.1 clock oc (at Second g) (at Second g') (part Second now) (along_map (ExprStands stands (arrow s a b)) (ExprStands stands b) (part Second) (part Second) (λ i j h. h.2) g.past g'.past past) free.1 dec.1 (ap (part Second) m) in
          let ta = sym (ap top (ap (part First) m)) ∙ stands_top stands a (part First now) A.0 A.2 in
          let tb = sym (ap top (ap (part Second) m)) ∙ stands_top stands b (part Second now) B.0 B.2 in
          let firsts = along_map (ExprStands stands (arrow s a b)) SameTop (part First) (part First) (λ i j h. stands_top stands a (part First i) (part First j) h.1) g.past g'.past past in (
            with_two (at_first (parts First g'.past) (top A.0) (top B.0)) A.0 B.0,
            ap₂ (λ i j. with_two (at_first (parts First g'.past) (top i) (top j)) i j) A.1 B.1,
            (ap top m ∙ first_same (parts First g.past) (parts First g'.past) _ _ firsts ∙ ap₂ (at_first (parts First g'.past)) ta tb, A.2, B.2),
          )
      expr_met (when_is s a c x) o clock oc g g' now past free dec m =
          let A = expr_met a o.1 (without clock) (old_without clock oc) (at First g) (at First g') (part First now) (along_map (ExprStands stands (when_is s a c x)) (ExprStands stands a) (part First) (part First) (λ i j h. h.1) g.past g'.past past) free dec (ap (part First) m) in
          let ta = sym (ap top (ap (part First) m)) ∙ stands_top stands a (part First now) A.0 A.2 in (
            with_one (if is_cons types (names' (to x)) c then top A.0 else Absent) A.0,
            ap (λ i. with_one (if is_cons types (names' (to x)) c then top i else Absent) i) (A.1 ∙ ap (λ ck. expr types R N' (renamed to a) ck names' last' (at First g') A.0) (sym (without_same clock))),
            (ap top m ∙ ap₂ (λ v t. if is_cons types v c then t else Absent) (sym (same x o.0)) ta, A.2),
          )
      expr_met (merge s x ps) o clock oc g g' now past free dec m =
          let P = parts_met ps o.1 x o.0 clock oc (at Args g) (at Args g') (part Args now) (along_map (ExprStands stands (merge s x ps)) (PartsStand stands ps) (part Args) (part Args) (λ i j h. h.1) g.past g'.past past) free dec (ap (part Args) m) in (
            with_row (chosen types (renamed_parts to ps) (names' (to x)) P.0) P.0,
            ap (λ js. with_row (chosen types (renamed_parts to ps) (names' (to x)) js) js) P.1,
            (ap top m ∙ P.3 (names x) ∙ ap (λ v. chosen types (renamed_parts to ps) v P.0) (sym (same x o.0)), P.2),
          )
      expr_met (call s f inlined es) o clock oc g g' now past free dec m =
          let is : List Instant = exprs types R N es clock names last (at Args g) (part Args now) in
          let row = row_met es o clock oc (at Args g) (at Args g') (part Args now) (along_map (ExprStands stands (call s f inlined es)) (ExprsStand stands es) (part Args) (part Args) (λ i j h. h.1) g.past g'.past past) free.0 dec.0 (ap (part Args) m) in
          let mi : part Instance now ≡ (if holds types clock names then N.instant f (map top is) (since false (at Instance g)) (part Instance now) else nothing) = ap (part Instance) m in
          call_met s f inlined es clock oc g g' now past free.1 dec.1 is (m ∙ ap (λ i. with_instance (only_output (N.outputs f) i) is i) (sym mi)) mi row

      pub row_met : (es : Exprs) → OldExprs es → (clock : Clock) → OldPath clock → (g g' : Given) (now : Instant) → Along (ExprsStand stands es) g.past g'.past → ExprsGiven u given es g.free g'.free
          → ExprsDecided decided es now → now ≡ in_row (exprs types R N es clock names last g now) → RowMet es clock g' now (exprs types R N es clock names last g now)
      row_met no_expr o clock oc g g' now past free dec m = ([], refl, tt, refl)
      row_met (more_exprs e es) o clock oc g g' now past free dec m =
          let A = expr_met e o.0 clock oc (at Head g) (at Head g') (part Head now) (along_map (ExprsStand stands (more_exprs e es)) (ExprStands stands e) (part Head) (part Head) (λ i j h. h.0) g.past g'.past past) free.0 dec.0 (ap (part Head) m) in
          let S = row_met es o.1 clock oc (at Tail g) (at Tail g') (part Tail now) (along_map (ExprsStand stands (more_exprs e es)) (ExprsStand stands es) (part Tail) (part Tail) (λ i j h. h.1) g.past g'.past past) free.1 dec.1 (ap (part Tail) m) in
          (A.0 ∷ S.0, ap₂ (λ j js. j ∷ js) A.1 S.1, (A.2, S.2), ap₂ (λ v vs. v ∷ vs) (sym (ap top (ap (part Head) m)) ∙ stands_top stands e (part Head now) A.0 A.2) S.3)

      pub parts_met : (ps : Parts) → OldParts ps → (x : List ℕ) → IsOld x → (clock : Clock) → OldPath clock → (g g' : Given) (now : Instant) → Along (PartsStand stands ps) g.past g'.past → PartsGiven u given ps g.free g'.free
          → PartsDecided decided ps now → now ≡ in_row (merged types R N ps x clock names last g now) → PartsMet ps x clock g' now (merged types R N ps x clock names last g now)
      parts_met no_part o x ox clock oc g g' now past free dec m = ([], refl, tt, λ v. refl)
      parts_met (more_parts c e ps) o x ox clock oc g g' now past free dec m =
          let A = expr_met e o.0 ((c, x) ∷ clock) (ox, oc) (at Head g) (at Head g') (part Head now) (along_map (PartsStand stands (more_parts c e ps)) (ExprStands stands e) (part Head) (part Head) (λ i j h. h.0) g.past g'.past past) free.0 dec.0 (ap (part Head) m) in
          let S = parts_met ps o.1 x ox clock oc (at Tail g) (at Tail g') (part Tail now) (along_map (PartsStand stands (more_parts c e ps)) (PartsStand stands ps) (part Tail) (part Tail) (λ i j h. h.1) g.past g'.past past) free.1 dec.1 (ap (part Tail) m) in
          let ta = sym (ap top (ap (part Head) m)) ∙ stands_top stands e (part Head now) A.0 A.2 in
          (A.0 ∷ S.0, ap₂ (λ j js. j ∷ js) A.1 S.1, (A.2, S.2), λ v. ap₂ (λ t r. if is_cons types v c then t else r) ta (S.3 v))
