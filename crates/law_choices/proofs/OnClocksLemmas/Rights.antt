-- What is made of an equation has clocks: its names are defined on the clock that it tells.
use Rattle.std.proofs.Common.{◌≡◌, ◌⊎◌, inl, ℕ, ◌+◌, Bool, true, false, ◌||◌, List, [], ◌∷◌, ◌++◌, reverse, Option, None, Some, refl, sym, ap, subst, ◌∙◌}
use Rattle.std.specs.Prelude.{⊤}
use Rattle.std.specs.List.{AllByRecursion}
use Rattle.std.specs.Str.{bytes_eq}
use Rattle.std.proofs.lemmas.List.{append_assoc, append-nil, reverse-append}
use Rattle.hp_base.specs.declared.span.Span.{Span}
use Rattle.hp_base.specs.declared.ty.Ty.{Ty}
use Rattle.hp_obc.specs.Machines.{ObcType}
use Rattle.hp_tree.specs.Expressions.{Expr, constant, variable, last_of, one, two, choose, pre, fby, arrow, when_is, merge, call}
use Rattle.hp_tree.specs.Blocks.{Decl}
use Rattle.hp_tree.specs.Programs.{TypeDecl, Node}
use Rattle.hp_tree.specs.Instant.{Clock as SourceClock}
use Rattle.hp_tree.specs.Meaning.{is_among, clock_in, clock_of}
use Rattle.hp_meaning.specs.Causal.Clocked.{Standing as ClocksRead, ClockRight, IsOn, LeftsOn}
use Rattle.hp_base.specs.Known.Known.{lookup}
use Rattle.law_judged.specs.Typed.Scopes.{Scope}
use Rattle.law_values.specs.Valued.Judged.{Lasts, ExprSound, RightSound}
use Rattle.law_wellmade.specs.Timely.Tested.{ConsIs, ClockTested, ExprTested}
use Rattle.hp_flat.specs.Equations.{Clock}
use Rattle.hp_flat.specs.Nodes.{FlatNode}
use Rattle.law_equations.specs.Made.Making.{Known, Sketch, Site, Sight, Layer, cons_number, outputs_of, numbers_from, on_site, tested, called_at, atom_of, copy_of, bind, bind_all, bind_outputs, others, output_left, given_by, link_all, is_in, enter_path, path_for, sketch_expr, sketch_exprs, sketch_right, sketch_definition}
use Rattle.law_equations.proofs.MadeLemmas.ClockLaws.{clock-path}
use Rattle.law_equations.proofs.MadeLemmas.LayerLaws.{same_name, is_same}
use Rattle.law_choices.specs.Closed.Clocking.{IsFrontOf, StepsStand, IsSplit, IsCopy}
use Rattle.law_choices.proofs.ClosedLemmas.Filling.{has_one}
use Rattle.law_choices.proofs.OnClocksLemmas.Steps.{front_itself, DefinedOn, defined_last, Grows, Step, then_step, weaker, no_step, Reads, eqn_step, Gives, copy_reads, copied}
use Rattle.law_choices.proofs.OnClocksLemmas.Sites.{stand_more, resolved, Stood, on_stood, SeesTimed}
use Rattle.law_choices.proofs.OnClocksLemmas.Arms.{ArmFacts}
use Rattle.law_choices.proofs.OnClocksLemmas.Expressions.{finish, Stands, There, OnClock, Given, called_step, Seen, Ready, expr_step, exprs_step}

-- ---- names that take values

or_right : (a b : Bool) → b ≡ true → (a || b) ≡ true
or_right true b h = refl
or_right false b h = h

or_left : (a b : Bool) → a ≡ true → (a || b) ≡ true
or_left true b h = refl
or_left false b h = absurd cc

module _ (types : List ObcType) (n : FlatNode) (b : Clock) where
  -- the variables of names have the clock of a site, or are split
  abbrev pub MayDefine : Site → Sight → (List ℕ → Bool) → (ℕ → Clock) → Type 0
  MayDefine at see named g = (y : List ℕ) (v : ℕ) → named y ≡ true → (see y).value ≡ Some v → (g v ≡ at.clock) ⊎ IsSplit n types g v

  abbrev TargetsOn : Site → Option ℕ → (ℕ → Clock) → Type 0
  TargetsOn at o g = (v : ℕ) → o ≡ Some v → (g v ≡ at.clock) ⊎ IsSplit n types g v

  bind_step : (at : Site) (o source : Option ℕ) (d : Sketch) → Step types n b d (bind at o source d) (λ g. Stands types n b at g × (TargetsOn at o g × Gives types n at source g)) (λ g. ⊤)
  bind_step at None source d =
      weaker types n b d d (λ g. ⊤) (λ g. ⊤) (λ g. Stands types n b at g × (TargetsOn at None g × Gives types n at source g)) (λ g. ⊤) (no_step types n b d (λ g. ⊤)) (λ g w h. tt) (λ g w h r. tt)
  bind_step at (Some x) source d =
      weaker types n b d _ (λ g. Reads types n at (copy_of (atom_of source)) g × AllByRecursion (λ y. (g y ≡ at.clock) ⊎ (IsSplit n types g y × IsCopy (copy_of (atom_of source)))) (x ∷ [])) (λ g. ⊤) (λ g. Stands types n b at g × (TargetsOn at (Some x) g × Gives types n at source g)) (λ g. ⊤)
      (eqn_step types n b at (x ∷ []) (copy_of (atom_of source)) d) (λ g w h. (copy_reads types n at source g h.0 h.1.1, (copied types n at.clock (atom_of source) x g (h.1.0 x refl), tt))) (λ g w h r. tt)

  lefts_step : (see : Sight) (at : Site) (ys : List (List ℕ × Span)) (x : ℕ) (d : Sketch) → Step types n b d (bind_all see at ys x d) (λ g. Stands types n b at g × (MayDefine at see (is_among ys) g × There types n b at x g)) (λ g. ⊤)
  lefts_step see at [] x d = weaker types n b d d (λ g. ⊤) (λ g. ⊤) _ (λ g. ⊤) (no_step types n b d (λ g. ⊤)) (λ g w h. tt) (λ g w h r. tt)
  lefts_step see at (y ∷ ys) x d =
      let e = bind at (see y.0).value (Some x) d in
      let Before : (ℕ → Clock) → Type 0 = λ g. Stands types n b at g × (MayDefine at see (is_among (y ∷ ys)) g × There types n b at x g) in
      then_step types n b d e (bind_all see at ys x e) Before (λ g. ⊤) (λ g. Stands types n b at g × (MayDefine at see (is_among ys) g × There types n b at x g)) (λ g. ⊤) (λ g. ⊤)
      (weaker types n b d e (λ g. Stands types n b at g × (TargetsOn at (see y.0).value g × Gives types n at (Some x) g)) (λ g. ⊤) Before (λ g. ⊤) (bind_step at (see y.0).value (Some x) d)
      (λ g w h. (h.0, (λ v q. h.1.0 y.0 v (or_left (bytes_eq y.0 y.0) (is_among ys y.0) (is_same y.0)) q, λ v q. let is : x ≡ v = cc in subst (λ z. IsFrontOf (g z) at.clock) is h.1.1))) (λ g w h r. tt))
      (lefts_step see at ys x e)
      (λ g w h r. (h.0, (λ z v i q. h.1.0 z v (or_right (bytes_eq y.0 z) (is_among ys z) i) q, h.1.1))) (λ g w h r s. tt)

  module _ (k : Known) where
    on_first : (at : Site) (m : ℕ) (os : List Decl) (g : ℕ → Clock) → OnClock types n b k at.clock (numbers_from m os) g → Gives types n at (output_left m os) g
    on_first at m [] g h v q = absurd cc
    on_first at m (o ∷ os) g h v q = let is : m ≡ v = cc in front_itself (g v) at.clock (subst (λ z. g z ≡ at.clock) is h.0)

    on_others : (at : Site) (m : ℕ) (os : List Decl) (g : ℕ → Clock) → OnClock types n b k at.clock (numbers_from m os) g → OnClock types n b k at.clock (numbers_from (m + 1) (others os)) g
    on_others at m [] g h = tt
    on_others at m (o ∷ os) g h = h.1

    outputs_step : (see : Sight) (at : Site) (ys : List (List ℕ × Span)) (m : ℕ) (os : List Decl) (d : Sketch)
        → Step types n b d (bind_outputs see at ys m os d) (λ g. Stands types n b at g × (MayDefine at see (is_among ys) g × OnClock types n b k at.clock (numbers_from m os) g)) (λ g. ⊤)
    outputs_step see at [] m os d = weaker types n b d d (λ g. ⊤) (λ g. ⊤) _ (λ g. ⊤) (no_step types n b d (λ g. ⊤)) (λ g w h. tt) (λ g w h r. tt)
    outputs_step see at (y ∷ ys) m os d =
        let e = bind at (see y.0).value (output_left m os) d in
        let Before : (ℕ → Clock) → Type 0 = λ g. Stands types n b at g × (MayDefine at see (is_among (y ∷ ys)) g × OnClock types n b k at.clock (numbers_from m os) g) in
        then_step types n b d e (bind_outputs see at ys (m + 1) (others os) e) Before (λ g. ⊤) (λ g. Stands types n b at g × (MayDefine at see (is_among ys) g × OnClock types n b k at.clock (numbers_from (m + 1) (others os)) g)) (λ g. ⊤) (λ g. ⊤)
        (weaker types n b d e (λ g. Stands types n b at g × (TargetsOn at (see y.0).value g × Gives types n at (output_left m os) g)) (λ g. ⊤) Before (λ g. ⊤) (bind_step at (see y.0).value (output_left m os) d)
        (λ g w h. (h.0, (λ v q. h.1.0 y.0 v (or_left (bytes_eq y.0 y.0) (is_among ys y.0) (is_same y.0)) q, on_first at m os g h.1.1))) (λ g w h r. tt))
        (outputs_step see at ys (m + 1) (others os) e)
        (λ g w h r. (h.0, (λ z v i q. h.1.0 z v (or_right (bytes_eq y.0 z) (is_among ys z) i) q, on_others at m os g h.1.1))) (λ g w h r s. tt)

  -- ---- names that take what a block gives them

  abbrev pub GivesAll : Site → Sight → Layer → List (List ℕ) → (ℕ → Clock) → Type 0
  GivesAll at see own xs g = (y : List ℕ) (v : ℕ) → is_in xs y ≡ true → given_by (own y) (see y) ≡ Some v → IsFrontOf (g v) at.clock

  -- each of the names has an equation on the clock
  abbrev pub EachName : Sight → List (List ℕ) → Clock → Sketch → Type 0
  EachName see xs c d = (y : List ℕ) (v : ℕ) → is_in xs y ≡ true → (see y).value ≡ Some v → DefinedOn d.eqns v c

  bind_defines : (at : Site) (o source : Option ℕ) (d : Sketch) (v : ℕ) → o ≡ Some v → DefinedOn (bind at o source d).eqns v at.clock
  bind_defines at None source d v e = absurd cc
  bind_defines at (Some x) source d v e =
      let is : x ≡ v = cc in
      defined_last d.eqns (record { targets = x ∷ []; clock = at.clock; right = copy_of (atom_of source); restart = at.restart; at = 0 }) v (has_one x v is)

  abbrev pub LinkReady : Site → Sight → Layer → List (List ℕ) → (ℕ → Clock) → Type 0
  LinkReady at see own xs g = Stands types n b at g × (MayDefine at see (is_in xs) g × GivesAll at see own xs g)

  pub links_step : (see : Sight) (at : Site) (own : Layer) (xs : List (List ℕ)) (d : Sketch) → let e = link_all see at own xs d in Step types n b d e (LinkReady at see own xs) (λ g. ⊤) × EachName see xs at.clock e
  links_step see at own [] d = (weaker types n b d d (λ g. ⊤) (λ g. ⊤) (LinkReady at see own []) (λ g. ⊤) (no_step types n b d (λ g. ⊤)) (λ g w h. tt) (λ g w h r. tt), λ y v i q. absurd cc)
  links_step see at own (x ∷ xs) d =
      let source = given_by (own x) (see x) in
      let e = bind at (see x).value source d in
      let rest = links_step see at own xs e in (
        then_step types n b d e (link_all see at own xs e) (LinkReady at see own (x ∷ xs)) (λ g. ⊤) (LinkReady at see own xs) (λ g. ⊤) (λ g. ⊤)
            (weaker types n b d e (λ g. Stands types n b at g × (TargetsOn at (see x).value g × Gives types n at source g)) (λ g. ⊤) (LinkReady at see own (x ∷ xs)) (λ g. ⊤) (bind_step at (see x).value source d)
            (λ g w h. let first = or_left (bytes_eq x x) (is_in xs x) (is_same x) in (h.0, (λ v q. h.1.0 x v first q, λ v q. h.1.1 x v first q))) (λ g w h r. tt))
            rest.0 (λ g w h r. (h.0, (λ y v i q. h.1.0 y v (or_right (bytes_eq x y) (is_in xs y) i) q, λ y v i q. h.1.1 y v (or_right (bytes_eq x y) (is_in xs y) i) q))) (λ g w h r s. tt),
        λ y v i q. by y v (bytes_eq x y) refl i q rest.0.grows (rest.1 y v),
      )
    where
      source : Option ℕ
      source = given_by (own x) (see x)

      e : Sketch
      e = bind at (see x).value source d

      f : Sketch
      f = link_all see at own xs e

      by : (y : List ℕ) (v : ℕ) (c : Bool) → bytes_eq x y ≡ c → (c || is_in xs y) ≡ true → (see y).value ≡ Some v → Grows e f → (is_in xs y ≡ true → (see y).value ≡ Some v → DefinedOn f.eqns v at.clock) → DefinedOn f.eqns v at.clock
      by y v true s i q g r = g.eqns v at.clock (bind_defines at (see x).value source d v (ap (λ z. (see z).value) (same_name x y s) ∙ q))
      by y v false s i q g r = r i q

-- ---- paths

-- a path, outermost first, on top of a clock
abbrev onto : SourceClock → SourceClock → SourceClock
onto [] c = c
onto (s ∷ path) c = onto path (s ∷ c)

onto_is : (path c : SourceClock) → onto path c ≡ reverse path ++ c
onto_is [] c = refl
onto_is (s ∷ path) c = onto_is path (s ∷ c) ∙ sym (append_assoc (reverse path) (s ∷ []) c) ∙ ap (λ z. z ++ c) (sym (reverse-append (s ∷ []) path))

right_below : (st : ClocksRead) (path c : SourceClock) → ClockRight st (onto path c) → ClockRight st c
right_below st [] c h = h
right_below st (s ∷ path) c h = (right_below st path (s ∷ c) h).1

tested_below : (decls : List TypeDecl) (s : Scope) (path c : SourceClock) → ClockTested decls s (onto path c) → ClockTested decls s c
tested_below decls s [] c h = h
tested_below decls s (x ∷ path) c h = (tested_below decls s path (x ∷ c) h).1

-- The site that a path leads to. Nothing is made on the way, where the names of the path have variables.
record Entered (types : List ObcType) (n : FlatNode) (k : Known) (see : Sight) (b : Clock) (st : ClocksRead) (path c : SourceClock) (at : Site) (d : Sketch) : Type 0 where
  site : Site
  is : enter_path k see path at d ≡ (site, d)
  stood : Stood k see b site (onto path c)
  stands : (g : ℕ → Clock) → SeesTimed k see b st g → StepsStand n types g [] at.clock → StepsStand n types g [] site.clock

module _ (types : List ObcType) (n : FlatNode) (k : Known) (decls : List TypeDecl) (facts : ArmFacts types k decls) (among : List ℕ → Option Node) (s : Scope) (lasts : Lasts) (see : Sight) (b : Clock) (st : ClocksRead) where
  entered : (path c : SourceClock) (at : Site) (d : Sketch) → ClockRight st (onto path c) → ClockTested decls s (onto path c) → Stood k see b at c → Seen types n k decls facts among s lasts see b st d → Entered types n k see b st path c at d
  entered [] c at d right w h sees = record { site = at; is = refl; stood = h; stands = λ g t q. q }
  entered (x ∷ path) c at d right w h sees = by (λ inner i. entered path (x ∷ c) inner d right w i sees) (lookup s.variables x.1) refl (tested_below decls s path (x ∷ c) w).0
    where
      on : st x.1 ≡ Some c
      on = (right_below st path (x ∷ c) right).0

      by : ((inner : Site) → Stood k see b inner (x ∷ c) → Entered types n k see b st path (x ∷ c) inner d) → (o : Option Ty) → lookup s.variables x.1 ≡ o → ConsIs decls o x.0 → Entered types n k see b st (x ∷ path) c at d
      by again None e i = absurd i
      by again (Some u) e i =
          let r = sees x.1 u e in
          let inner = on_site at r.0 (cons_number k x.0) in
          let rest = again inner (on_stood k see b at c x.0 x.1 r.0 h r.1) in
          record {
            site = rest.site;
            is = ap (λ o. let z = tested o d in enter_path k see path (on_site at z.1 (cons_number k x.0)) z.0) r.1 ∙ rest.is;
            stood = rest.stood;
            stands = λ g t q. rest.stands g t (stand_more types n g [] at.clock r.0 (cons_number k x.0) q (subst (λ z. IsFrontOf (g r.0) z) (sym h.clock) (t.values x.1 c r.0 on r.1)));
          }

  -- ---- right sides

  abbrev MayReady : Site → List (List ℕ × Span) → (ℕ → Clock) → Type 0
  MayReady at ys g = Ready types n k decls facts among s lasts see b st at g × MayDefine types n b at see (is_among ys) g

  abbrev Sees : Sketch → Type 0
  Sees d = Seen types n k decls facts among s lasts see b st d

  value_bound : (ys : List (List ℕ × Span)) (e : Expr) (c : SourceClock) (at : Site) (d : Sketch) → IsOn st e c → Stood k see b at c → ExprSound decls among s lasts e → ExprTested decls s e → Sees d
      → Step types n b d (bind_all see at ys (sketch_expr k see at e d).1 (sketch_expr k see at e d).0) (MayReady at ys) (λ g. ⊤)
  value_bound ys e c at d on h ok w sees =
      let x = sketch_expr k see at e d in
      finish types n b d x.0 (bind_all see at ys x.1 x.0) (MayReady at ys) (There types n b at x.1) (λ g. Stands types n b at g × (MayDefine types n b at see (is_among ys) g × There types n b at x.1 g)) (λ g. ⊤)
      (weaker types n b d x.0 (Ready types n k decls facts among s lasts see b st at) (There types n b at x.1) (MayReady at ys) (There types n b at x.1) (expr_step types n k decls facts among s lasts see b st e c at d on h ok w sees) (λ g i q. q.0) (λ g i q r. r))
      (lefts_step types n b see at ys x.1 x.0) (λ g i q r. (q.0.0, (q.1, r)))

  right_step : (ys : List (List ℕ × Span)) (e : Expr) (c : SourceClock) (at : Site) (d : Sketch) → IsOn st e c → Stood k see b at c → RightSound decls among s lasts ys e → ExprTested decls s e → Sees d
      → Step types n b d (sketch_right k see at ys e d) (MayReady at ys) (λ g. ⊤)
  right_step ys (constant a v) c at d on h ok w sees = value_bound ys (constant a v) c at d on h ok.0 w sees
  right_step ys (variable a x) c at d on h ok w sees = value_bound ys (variable a x) c at d on h ok.0 w sees
  right_step ys (last_of a x) c at d on h ok w sees = value_bound ys (last_of a x) c at d on h ok.0 w sees
  right_step ys (one a o e) c at d on h ok w sees = value_bound ys (one a o e) c at d on h ok.0 w sees
  right_step ys (two a o e f) c at d on h ok w sees = value_bound ys (two a o e f) c at d on h ok.0 w sees
  right_step ys (choose a e f p) c at d on h ok w sees = value_bound ys (choose a e f p) c at d on h ok.0 w sees
  right_step ys (pre a e) c at d on h ok w sees = value_bound ys (pre a e) c at d on h ok.0 w sees
  right_step ys (fby a e f) c at d on h ok w sees = value_bound ys (fby a e f) c at d on h ok.0 w sees
  right_step ys (arrow a e f) c at d on h ok w sees = value_bound ys (arrow a e f) c at d on h ok.0 w sees
  right_step ys (when_is a e con x) c at d on h ok w sees = value_bound ys (when_is a e con x) c at d on h ok.0 w sees
  right_step ys (merge a x ps) c at d on h ok w sees = value_bound ys (merge a x ps) c at d on h ok.0 w sees
  right_step ys (call a f i es) c at d on h ok w sees =
      let os = outputs_of (k.nodes f) in
      let args = sketch_exprs k see at es d in
      let m = called_at k at f args.1 os args.0 in
      let outs = OnClock types n b k at.clock (numbers_from m.1 os) in
      let Readied = Ready types n k decls facts among s lasts see b st at in
      finish types n b d m.0 _ (MayReady at ys) (λ g. Stands types n b at g × outs g) (λ g. Stands types n b at g × (MayDefine types n b at see (is_among ys) g × outs g)) (λ g. ⊤)
      (then_step types n b d args.0 m.0 (MayReady at ys) (Given types n b k at args.1) (λ g. Stands types n b at g × Given types n b k at args.1 g) outs (λ g. Stands types n b at g × outs g)
      (weaker types n b d args.0 Readied (Given types n b k at args.1) (MayReady at ys) (Given types n b k at args.1) (exprs_step types n k decls facts among s lasts see b st es c at d on h ok.0.1 w sees) (λ g i q. q.0) (λ g i q r. r))
      (called_step types n b k at f args.1 os args.0) (λ g i q r. (q.0.0, r)) (λ g i q r z. (q.0.0, z)))
      (outputs_step types n b k see at ys m.1 os m.0) (λ g i q r. (r.0, (q.1, r.1)))

  -- The names of an equation have the clock that is declared.
  abbrev pub Owns : List Decl → (List ℕ → Bool) → (ℕ → Clock) → Type 0
  Owns ds named g = (y : List ℕ) (v : ℕ) → named y ≡ true → (see y).value ≡ Some v → g v ≡ resolved k see b (clock_in ds y)

  lefts_on : (ds : List Decl) (ys : List (List ℕ × Span)) (c : SourceClock) (y : List ℕ) → LeftsOn ds ys c → is_among ys y ≡ true → clock_in ds y ≡ c
  lefts_on ds [] c y h i = absurd cc
  lefts_on ds (z ∷ ys) c y h i = by (bytes_eq z.0 y) refl i (lefts_on ds ys c y h.1)
    where
      by : (q : Bool) → bytes_eq z.0 y ≡ q → (q || is_among ys y) ≡ true → (is_among ys y ≡ true → clock_in ds y ≡ c) → clock_in ds y ≡ c
      by true e i f = ap (clock_in ds) (sym (same_name z.0 y e)) ∙ h.0
      by false e i f = f i

  pub definition_step : (ds : List Decl) (ys : List (List ℕ × Span)) (e : Expr) (at : Site) (d : Sketch) → ClockRight st (clock_of ds ys e) → LeftsOn ds ys (clock_of ds ys e) → IsOn st e (clock_of ds ys e) → Stood k see b at []
      → RightSound decls among s lasts ys e → ClockTested decls s (clock_of ds ys e) → ExprTested decls s e → Sees d
      → Step types n b d (sketch_definition k see at ds ys e d) (λ g. Ready types n k decls facts among s lasts see b st at g × Owns ds (is_among ys) g) (λ g. ⊤)
  definition_step ds ys e at d right lefts on h ok tested w sees =
      let path = path_for ds ys e in
      let turned : clock_of ds ys e ≡ onto path [] = clock-path k ds ys e ∙ sym (onto_is path [] ∙ append-nil (reverse path)) in
      let q = entered path [] at d (subst (λ c. ClockRight st c) turned right) (subst (λ c. ClockTested decls s c) turned tested) h sees in
      let stood : Stood k see b q.site (clock_of ds ys e) = subst (λ c. Stood k see b q.site c) (sym turned) q.stood in
      subst (λ p. Step types n b d (sketch_right k see p.0 ys e p.1) (λ g. Ready types n k decls facts among s lasts see b st at g × Owns ds (is_among ys) g) (λ g. ⊤)) (sym q.is)
      (weaker types n b d _ (MayReady q.site ys) (λ g. ⊤) _ (λ g. ⊤) (right_step ys e (clock_of ds ys e) q.site d on stood ok w sees)
      (λ g i z. ((q.stands g z.0.1 z.0.0, z.0.1), λ y v a r. inl (z.1 y v a r ∙ ap (resolved k see b) (lefts_on ds ys (clock_of ds ys e) y lefts a) ∙ sym stood.clock))) (λ g i z r. tt))
