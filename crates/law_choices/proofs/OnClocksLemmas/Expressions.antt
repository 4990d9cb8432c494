-- What is made of an expression has clocks, and its value is there where the expression is.
use Rattle.std.proofs.Common.{◌≡◌, ◌⊎◌, inl, inr, ℕ, ◌+◌, Bool, true, false, ◌||◌, List, [], ◌∷◌, ◌++◌, Option, None, Some, refl, sym, ap, subst, ◌∙◌}
use Rattle.std.specs.Prelude.{⊤, IsTrue, codes}
use Rattle.std.specs.List.{AllByRecursion, flat_map}
use Rattle.std.proofs.lemmas.List.{length-append}
use Rattle.hp_base.specs.declared.ty.Ty.{Ty}
use Rattle.hp_base.specs.declared.ty.Const.{Const}
use Rattle.hp_base.specs.declared.value.Value.{Value}
use Rattle.hp_obc.specs.Machines.{ObcType}
use Rattle.hp_obc.specs.declared.command.ObcOp.TheVariants.{Mux}
use Rattle.hp_tree.specs.declared.decl.Cons.{Cons}
use Rattle.hp_tree.specs.Expressions.{Expr, constant, variable, last_of, one, two, choose, pre, fby, arrow, when_is, merge, call, Exprs, no_expr, more_exprs, Parts, no_part, more_parts}
use Rattle.hp_tree.specs.Blocks.{Decl}
use Rattle.hp_tree.specs.Programs.{TypeDecl, Node}
use Rattle.hp_tree.specs.Instant.{Clock as SourceClock, without}
use Rattle.hp_meaning.specs.Causal.Clocked.{Standing as ClocksRead, IsOn, ExprsOn, PartsOn}
use Rattle.hp_base.specs.Known.Known.{lookup}
use Rattle.law_judged.specs.Typed.Scopes.{Scope}
use Rattle.hp_typing.specs.Definitions.{same_cons}
use Rattle.law_values.specs.Valued.Judged.{Lasts, ExprSound, ExprsSound, PartsSound, CoversType, Covers, is_named, of_parts}
use Rattle.law_wellmade.specs.Timely.Tested.{ConsAre, ExprTested, ExprsTested, PartsTested}
use Rattle.hp_flat.specs.declared.equation.Atom.{Atom}
use Rattle.hp_flat.specs.declared.equation.Atom.TheVariants.{Variable, Value as Fixed}
use Rattle.hp_flat.specs.declared.node.FlatTy.TheVariants as flat
use Rattle.hp_flat.specs.Equations.{Clock, operator, register, called}
use Rattle.hp_flat.specs.Nodes.{FlatNode}
use Rattle.law_equations.specs.Meaning.Fitting.{atom_variables}
use Rattle.law_equations.specs.Flattened.Flatten.{obc_one, obc_two, constant_in}
use Rattle.law_equations.specs.Made.Making.{Known, Sketch, Site, Sight, Made, next, new_name, with_new, register_at, mux_at, type_at, copy_of, type_one, type_two, flat_type, first_value, constant_value, type_of_value, cons_number, outputs_of, numbers_from, flag_at, by_constant, fby_at, arrow_at, on_site, off_site, tested, merged_variable, part_at, or_new, first_output, with_outputs, called_at, sketch_expr, sketch_parts, sketch_exprs}
use Rattle.law_wellmade.proofs.BegunLemmas.Keeping.{HasType, moved}
use Rattle.law_wellmade.proofs.RegularLemmas.Good.{IsSeen, seen_moved}
use Rattle.law_choices.specs.Closed.Clocking.{IsFrontOf, StepsStand, IsSplit, IsCopy}
use Rattle.law_choices.proofs.ClosedLemmas.Filling.{has_one}
use Rattle.law_choices.proofs.ClosedLemmas.Expressions.{has_type}
use Rattle.law_choices.proofs.OnClocksLemmas.Steps.{front_itself, front_further, DefinedOn, defined_last, Grows, both_grow, Within, Step, then_step, weaker, no_step, Reads, eqn_step, variable_step, value_step, Gives, read_step, OwnSite, flag_step, copied}
use Rattle.law_choices.proofs.OnClocksLemmas.Sites.{off_stands, stand_more, resolved, Stood, own_site, on_stood, off_stood, off_front, SeesTimed}
use Rattle.law_choices.proofs.OnClocksLemmas.Arms.{ArmFacts, same_number, split_by}

-- ---- steps in a row

module _ (types : List ObcType) (n : FlatNode) (b : Clock) where
  -- both with the same before
  pub together : (d e f : Sketch) (A R S : (ℕ → Clock) → Type 0) → Step types n b d e A R → Step types n b e f A S → Step types n b d f A (λ g. R g × S g)
  together d e f A R S p q = then_step types n b d e f A R A S (λ g. R g × S g) p q (λ g w h r. h) (λ g w h r s. (r, s))

  -- the second is what is wanted
  pub finish : (d e f : Sketch) (A R B S : (ℕ → Clock) → Type 0) → Step types n b d e A R → Step types n b e f B S → ((g : ℕ → Clock) → Within types n f → A g → R g → B g) → Step types n b d f A S
  finish d e f A R B S p q into = then_step types n b d e f A R B S S p q into (λ g w h r s. s)

  -- a site whose clock holds
  abbrev pub Stands : Site → (ℕ → Clock) → Type 0
  Stands at g = StepsStand n types g [] at.clock

  -- a variable is there where a site is
  abbrev pub There : Site → ℕ → (ℕ → Clock) → Type 0
  There at v g = IsFrontOf (g v) at.clock

  mux_step : (at : Site) (c a z : ℕ) (d : Sketch) → Step types n b d (mux_at at c a z d).0 (λ g. Stands at g × (There at c g × (There at a g × There at z g))) (There at (next d))
  mux_step at c a z d =
      weaker types n b d (mux_at at c a z d).0 (Reads types n at (operator Mux (Variable c ∷ Variable a ∷ Variable z ∷ []))) (There at (next d)) (λ g. Stands at g × (There at c g × (There at a g × There at z g))) (There at (next d))
      (value_step types n b at (type_at d a) (operator Mux (Variable c ∷ Variable a ∷ Variable z ∷ [])) d) (λ g w h. (h.0, (h.1.0, (h.1.1.0, (h.1.1.1, tt))))) (λ g w h r. r)

  held_step : (at : Site) (first : Value) (x : ℕ) (d : Sketch) → Step types n b d (register_at at first x d).0 (λ g. Stands at g × There at x g) (There at (next d))
  held_step at first x d =
      weaker types n b d (register_at at first x d).0 (Reads types n at (register first (Variable x))) (There at (next d)) (λ g. Stands at g × There at x g) (There at (next d))
      (value_step types n b at (type_at d x) (register first (Variable x)) d) (λ g w h. (h.0, (h.1, tt))) (λ g w h r. r)

  arrow_step : (at : Site) (a : ℕ) (m : Made) → OwnSite b at → Step types n b m.0 (arrow_at at a m).0 (λ g. Stands at g × (There at a g × There at m.1 g)) (There at (arrow_at at a m).1)
  arrow_step at a m own =
      let flag = flag_at at m.0 in
      finish m.0 flag.0 (arrow_at at a m).0 (λ g. Stands at g × (There at a g × There at m.1 g)) (There at flag.1) (λ g. Stands at g × (There at flag.1 g × (There at a g × There at m.1 g))) (There at (next flag.0))
      (weaker types n b m.0 flag.0 (Stands at) (There at flag.1) (λ g. Stands at g × (There at a g × There at m.1 g)) (There at flag.1) (flag_step types n b at m.0 own) (λ g w h. h.0) (λ g w h r. r))
      (mux_step at flag.1 a m.1 flag.0)
      (λ g w h r. (h.0, (r, h.1)))

  fby_step : (at : Site) (a : ℕ) (m : Made) → OwnSite b at → Step types n b m.0 (fby_at at a m).0 (λ g. Stands at g × (There at a g × There at m.1 g)) (There at (fby_at at a m).1)
  fby_step at a m own =
      let first = first_value (type_at m.0 m.1) in
      let held = register_at at first m.1 m.0 in
      finish m.0 held.0 (fby_at at a m).0 (λ g. Stands at g × (There at a g × There at m.1 g)) (There at held.1) (λ g. Stands at g × (There at a g × There at held.1 g)) (There at (fby_at at a m).1)
      (weaker types n b m.0 held.0 (λ g. Stands at g × There at m.1 g) (There at held.1) (λ g. Stands at g × (There at a g × There at m.1 g)) (There at held.1) (held_step at first m.1 m.0) (λ g w h. (h.0, h.1.1)) (λ g w h r. r))
      (arrow_step at a held own)
      (λ g w h r. (h.0, (h.1.0, r)))

  by_step : (c : Option Const) (d : Sketch) (at : Site) (A : (ℕ → Clock) → Type 0) (m : Made) (f : Const → Made) → Step types n b d m.0 A (There at m.1) → ((c : Const) → Step types n b d (f c).0 A (There at (f c).1))
      → Step types n b d (by_constant c m f).0 A (There at (by_constant c m f).1)
  by_step None d at A m f p q = p
  by_step (Some c) d at A m f p q = q c

  -- ---- calls

  module _ (k : Known) where
    abbrev pub OnClock : Clock → List ℕ → (ℕ → Clock) → Type 0
    OnClock c xs g = AllByRecursion (λ x. g x ≡ c) xs

    outputs_step : (c : Clock) (os : List Decl) (d : Sketch) → Step types n b d (with_outputs k os d) (λ g. ⊤) (OnClock c (numbers_from (next d) os))
    outputs_step c [] d = no_step types n b d (λ g. ⊤)
    outputs_step c (o ∷ os) d =
        let t = flat_type k.types o.ty in
        let e = with_new o.name t d in
        let long : next e ≡ next d + 1 = length-append d.variables _ in
        then_step types n b d e (with_outputs k os e) (λ g. ⊤) (λ g. g (next d) ≡ c) (λ g. ⊤) (OnClock c (numbers_from (next e) os)) (OnClock c (numbers_from (next d) (o ∷ os)))
        (variable_step types n b c (new_name o.name (next d)) t d) (outputs_step c os e) (λ g w h r. tt)
        (λ g w h r s. (r, subst (λ m. OnClock c (numbers_from m os) g) long s))

    on_targets : (Q : ℕ → Type 0) (c : Clock) (xs : List ℕ) (g : ℕ → Clock) → OnClock c xs g → AllByRecursion (λ x. (g x ≡ c) ⊎ Q x) xs
    on_targets Q c [] g h = tt
    on_targets Q c (x ∷ xs) g h = (inl h.0, on_targets Q c xs g h.1)

    abbrev pub Given : Site → List Atom → (ℕ → Clock) → Type 0
    Given at args g = AllByRecursion (λ x. IsFrontOf (g x) at.clock) (flat_map atom_variables args)

    pub called_step : (at : Site) (f : List ℕ) (args : List Atom) (os : List Decl) (d : Sketch) → Step types n b d (called_at k at f args os d).0 (λ g. Stands at g × Given at args g) (OnClock at.clock (numbers_from (next d) os))
    called_step at f args os d =
        let e = with_outputs k os d in
        let made = OnClock at.clock (numbers_from (next d) os) in
        then_step types n b d e (called_at k at f args os d).0 (λ g. Stands at g × Given at args g) made
        (λ g. Reads types n at (called f args) g × AllByRecursion (λ x. (g x ≡ at.clock) ⊎ (IsSplit n types g x × IsCopy (called f args))) (numbers_from (next d) os)) (λ g. ⊤) made
        (weaker types n b d e (λ g. ⊤) made (λ g. Stands at g × Given at args g) made (outputs_step at.clock os d) (λ g w h. tt) (λ g w h r. r))
        (eqn_step types n b at (numbers_from (next d) os) (called f args) e)
        (λ g w h r. (h, on_targets (λ x. IsSplit n types g x × IsCopy (called f args)) at.clock (numbers_from (next d) os) g r))
        (λ g w h r s. r)

    first_step : (at : Site) (os : List Decl) (m : Made) → Step types n b m.0 (first_output at os m).0 (λ g. Stands at g × OnClock at.clock (numbers_from m.1 os) g) (There at (first_output at os m).1)
    first_step at [] m =
        weaker types n b m.0 _ (λ g. ⊤) (λ g. g (next m.0) ≡ at.clock) (λ g. Stands at g × OnClock at.clock (numbers_from m.1 []) g) (There at (next m.0))
        (variable_step types n b at.clock (new_name (codes "e") (next m.0)) flat.Bool m.0) (λ g w h. tt) (λ g w h r. front_itself (g (next m.0)) at.clock r)
    first_step at (o ∷ os) m =
        weaker types n b m.0 _ (λ g. Stands at g × Gives types n at (Some m.1) g) (There at (next m.0)) (λ g. Stands at g × OnClock at.clock (numbers_from m.1 (o ∷ os)) g) (There at (next m.0))
        (read_step types n b at (Some m.1) (type_at m.0 m.1) m.0)
        (λ g w h. (h.0, λ v e. let is : m.1 ≡ v = cc in front_itself (g v) at.clock (subst (λ z. g z ≡ at.clock) is h.1.0))) (λ g w h r. r)

-- ---- expressions

pub named_one : (k : Known) (c : Cons) (cs : List Cons) (e : Cons) (P : ℕ → Type 0) → IsTrue (is_named (c ∷ cs) e) → P (cons_number k c) → (IsTrue (is_named cs e) → P (cons_number k e)) → P (cons_number k e)
named_one k c cs e P h f g = by (same_cons e c) refl h
  where
    by : (q : Bool) → same_cons e c ≡ q → (q || is_named cs e) ≡ true → P (cons_number k e)
    by true i h = subst P (sym (same_number k e c i)) f
    by false i h = g h

module _ (types : List ObcType) (n : FlatNode) (k : Known) (decls : List TypeDecl) (facts : ArmFacts types k decls) (among : List ℕ → Option Node) (s : Scope) (lasts : Lasts) (see : Sight) (b : Clock) (st : ClocksRead) where
  -- the variables of a scope have their types
  abbrev pub Seen : Sketch → Type 0
  Seen d = (x : List ℕ) (t : Ty) → lookup s.variables x ≡ Some t → IsSeen d (see x).value (flat_type k.types t)

  pub seen_later : (d e : Sketch) → Grows d e → Seen d → Seen e
  seen_later d e g v x t h = seen_moved d e (see x).value (flat_type k.types t) g.types (v x t h)

  abbrev pub Ready : Site → (ℕ → Clock) → Type 0
  Ready at g = StepsStand n types g [] at.clock × SeesTimed k see b st g

  abbrev pub Makes : Site → Sketch → Made → Type 0
  Makes at d m = Step types n b d m.0 (Ready at) (λ g. IsFrontOf (g m.1) at.clock)

  abbrev Here : Site → ℕ → (ℕ → Clock) → Type 0
  Here at v g = IsFrontOf (g v) at.clock

  -- the equation of each part that is named
  abbrev EachPart : List Cons → Site → ℕ → ℕ → Sketch → Type 0
  EachPart cs at t x d = (e : Cons) → IsTrue (is_named cs e) → DefinedOn d.eqns x (at.clock ++ (t, cons_number k e) ∷ [])

  part_step : (on : Site) (x : ℕ) (m : Made) → Step types n b m.0 (part_at on (Some x) m).0 (λ g. StepsStand n types g [] on.clock × (Here on m.1 g × ((g x ≡ on.clock) ⊎ IsSplit n types g x))) (λ g. ⊤)
  part_step on x m =
      weaker types n b m.0 (part_at on (Some x) m).0 (λ g. Reads types n on (copy_of (Variable m.1)) g × AllByRecursion (λ y. (g y ≡ on.clock) ⊎ (IsSplit n types g y × IsCopy (copy_of (Variable m.1)))) (x ∷ [])) (λ g. ⊤)
      (λ g. StepsStand n types g [] on.clock × (Here on m.1 g × ((g x ≡ on.clock) ⊎ IsSplit n types g x))) (λ g. ⊤)
      (eqn_step types n b on (x ∷ []) (copy_of (Variable m.1)) m.0) (λ g w h. ((h.0, (h.1.0, tt)), (copied types n on.clock (Variable m.1) x g h.1.1, tt))) (λ g w h r. tt)

  parts_same : (ps : Parts) (at : Site) (t x : ℕ) (d : Sketch) → (sketch_parts k see at t (Some x) ps d).1 ≡ Some x
  parts_same no_part at t x d = refl
  parts_same (more_parts c e ps) at t x d = let on = on_site at t (cons_number k c) in parts_same ps at t x (part_at on (Some x) (sketch_expr k see on e d)).0

  -- what is asked where parts are made
  abbrev PartsReady : Site → ℕ → ℕ → (ℕ → Clock) → Type 0
  PartsReady at t x g = Ready at g × (Here at t g × IsSplit n types g x)

  on_ready : (at : Site) (t i : ℕ) (g : ℕ → Clock) → Ready at g → Here at t g → Ready (on_site at t i) g
  on_ready at t i g h f = (stand_more types n g [] at.clock t i h.0 f, h.1)

  mutual
    pub expr_step : (e : Expr) (c : SourceClock) (at : Site) (d : Sketch) → IsOn st e c → Stood k see b at c → ExprSound decls among s lasts e → ExprTested decls s e → Seen d → Makes at d (sketch_expr k see at e d)
    expr_step (constant a v) c at d on h ok w sees =
        weaker types n b d _ (Reads types n at (copy_of (Fixed (constant_value k v)))) (Here at (next d)) (Ready at) (Here at (next d)) (value_step types n b at (type_of_value (constant_value k v)) (copy_of (Fixed (constant_value k v))) d) (λ g w h. (h.0, tt)) (λ g w h r. r)
    expr_step (variable a x) c at d on h ok w sees =
        weaker types n b d _ (λ g. StepsStand n types g [] at.clock × Gives types n at (see x).value g) (Here at (next d)) (Ready at) (Here at (next d)) (read_step types n b at (see x).value (see x).ty d)
        (λ g w r. (r.0, λ v q. subst (λ z. IsFrontOf (g v) z) (sym h.clock) (r.1.values x c v on q))) (λ g w h r. r)
    expr_step (last_of a x) c at d on h ok w sees =
        weaker types n b d _ (λ g. StepsStand n types g [] at.clock × Gives types n at (see x).last g) (Here at (next d)) (Ready at) (Here at (next d)) (read_step types n b at (see x).last (see x).ty d)
        (λ g w r. (r.0, λ v q. subst (λ z. IsFrontOf (g v) z) (sym (h.clock ∙ ap (resolved k see b) on)) (r.1.lasts x v q))) (λ g w h r. r)
    expr_step (one a o e) c at d on h ok w sees =
        let x = sketch_expr k see at e d in
        finish types n b d x.0 _ (Ready at) (Here at x.1) (Reads types n at (operator (obc_one o) (Variable x.1 ∷ []))) (Here at (next x.0))
        (expr_step e c at d on h ok w sees) (value_step types n b at (type_one o) (operator (obc_one o) (Variable x.1 ∷ [])) x.0) (λ g w r q. (r.0, (q, tt)))
    expr_step (two a o e f) c at d on h ok w sees =
        let x = sketch_expr k see at e d in
        let y = sketch_expr k see at f x.0 in
        let right = operator (obc_two o) (Variable x.1 ∷ Variable y.1 ∷ []) in
        let p = expr_step e c at d on.0 h ok.0 w.0 sees in
        let q = expr_step f c at x.0 on.1 h ok.1 w.1 (seen_later d x.0 p.grows sees) in
        finish types n b d y.0 _ (Ready at) (λ g. Here at x.1 g × Here at y.1 g) (Reads types n at right) (Here at (next y.0))
        (together types n b d x.0 y.0 (Ready at) (Here at x.1) (Here at y.1) p q) (value_step types n b at (type_two o) right y.0) (λ g w r q. (r.0, (q.0, (q.1, tt))))
    expr_step (choose a e f f') c at d on h ok w sees =
        let x = sketch_expr k see at e d in
        let y = sketch_expr k see at f x.0 in
        let z = sketch_expr k see at f' y.0 in
        let p = expr_step e c at d on.0 h ok.0 w.0 sees in
        let sees_later = seen_later d x.0 p.grows sees in
        let q = expr_step f c at x.0 on.1 h ok.1.0 w.1.0 sees_later in
        let r = expr_step f' c at y.0 on.2 h ok.1.1 w.1.1 (seen_later x.0 y.0 q.grows sees_later) in
        finish types n b d z.0 _ (Ready at) (λ g. Here at x.1 g × (Here at y.1 g × Here at z.1 g)) (λ g. Stands types n b at g × (Here at x.1 g × (Here at y.1 g × Here at z.1 g))) (Here at (next z.0))
        (together types n b d x.0 z.0 (Ready at) (Here at x.1) (λ g. Here at y.1 g × Here at z.1 g) p (together types n b x.0 y.0 z.0 (Ready at) (Here at y.1) (Here at z.1) q r))
        (mux_step types n b at x.1 y.1 z.1 z.0) (λ g w r q. (r.0, q))
    expr_step (pre a e) c at d on h ok w sees =
        let x = sketch_expr k see at e d in
        finish types n b d x.0 _ (Ready at) (Here at x.1) (λ g. Stands types n b at g × Here at x.1 g) (Here at (next x.0))
        (expr_step e c at d on h ok w sees) (held_step types n b at (first_value (type_at x.0 x.1)) x.1 x.0) (λ g w r q. (r.0, q))
    expr_step (fby a e f) c at d on h ok w sees =
        let x = sketch_expr k see at e d in
        let y = sketch_expr k see at f x.0 in
        let z = sketch_expr k see at f d in
        let p = expr_step e c at d on.0 h ok.0 w.0 sees in
        let q = expr_step f c at x.0 on.1 h ok.1 w.1 (seen_later d x.0 p.grows sees) in
        by_step types n b (constant_in e) d at (Ready at) _ _
        (finish types n b d y.0 _ (Ready at) (λ g. Here at x.1 g × Here at y.1 g) (λ g. Stands types n b at g × (Here at x.1 g × Here at y.1 g)) (Here at (fby_at at x.1 y).1)
        (together types n b d x.0 y.0 (Ready at) (Here at x.1) (Here at y.1) p q) (fby_step types n b at x.1 y (own_site k see b at c h)) (λ g w r q. (r.0, q)))
        (λ v. finish types n b d z.0 _ (Ready at) (Here at z.1) (λ g. Stands types n b at g × Here at z.1 g) (Here at (next z.0))
        (expr_step f c at d on.1 h ok.1 w.1 sees) (held_step types n b at (constant_value k v) z.1 z.0) (λ g w r q. (r.0, q)))
    expr_step (arrow a e f) c at d on h ok w sees =
        let x = sketch_expr k see at e d in
        let y = sketch_expr k see at f x.0 in
        let p = expr_step e c at d on.0 h ok.0 w.0 sees in
        let q = expr_step f c at x.0 on.1 h ok.1 w.1 (seen_later d x.0 p.grows sees) in
        finish types n b d y.0 _ (Ready at) (λ g. Here at x.1 g × Here at y.1 g) (λ g. Stands types n b at g × (Here at x.1 g × Here at y.1 g)) (Here at (arrow_at at x.1 y).1)
        (together types n b d x.0 y.0 (Ready at) (Here at x.1) (Here at y.1) p q) (arrow_step types n b at x.1 y (own_site k see b at c h)) (λ g w r q. (r.0, q))
    expr_step (when_is a e con x) c at d on h ok w sees =
        let y = sketch_expr k see (off_site at) e d in
        let off : Stood k see b at ((con, x) ∷ without c) = subst (λ z. Stood k see b at z) on.0 h in
        finish types n b d y.0 _ (Ready at) (Here (off_site at) y.1) (λ g. StepsStand n types g [] at.clock × Gives types n at (Some y.1) g) (Here at (next y.0))
        (weaker types n b d y.0 (Ready (off_site at)) (Here (off_site at) y.1) (Ready at) (Here (off_site at) y.1) (expr_step e (without c) (off_site at) d on.2 (off_stood k see b at (con, x) (without c) off) ok w sees)
        (λ g w r. (off_stands types n g at r.0, r.1)) (λ g w r q. q))
        (read_step types n b at (Some y.1) (type_at y.0 y.1) y.0)
        (λ g w r q. (r.0, λ v i. let is : y.1 ≡ v = cc in front_further (g v) (off_site at).clock at.clock (subst (λ z. IsFrontOf (g z) (off_site at).clock) is q) (off_front k see b at (con, x) (without c) off)))
    expr_step (merge a x ps) c at d on h ok w sees =
        let u = has_type (lookup s.variables x) decls (of_parts ps) ok.0 in
        let r = sees x u.0 u.1 in
        let cover : Covers decls u.0 (of_parts ps) = subst (λ o. CoversType decls o (of_parts ps)) u.1 ok.0 in
        let conses : ConsAre decls (Some u.0) (of_parts ps) = subst (λ o. ConsAre decls o (of_parts ps)) u.1 w.0 in
        subst (λ o. let z = tested o d in Makes at d (or_new (sketch_parts k see at z.1 None ps z.0))) (sym r.1)
        (weaker types n b d _ (λ g. Ready at g × Here at r.0 g) (Here at _) (Ready at) (Here at _) (merge_step ps c x at r.0 u.0 d on.1 h r.1 r.2 cover conses ok.1 w.1.1 sees)
        (λ g w q. (q, subst (λ z. IsFrontOf (g r.0) z) (sym h.clock) (q.1.values x c r.0 on.0 r.1))) (λ g w q z. z))
    expr_step (call a f i es) c at d on h ok w sees =
        let os = outputs_of (k.nodes f) in
        let args = sketch_exprs k see at es d in
        let m = called_at k at f args.1 os args.0 in
        finish types n b d m.0 _ (Ready at) (λ g. Stands types n b at g × OnClock types n b k at.clock (numbers_from m.1 os) g) (λ g. Stands types n b at g × OnClock types n b k at.clock (numbers_from m.1 os) g) (Here at (first_output at os m).1)
        (then_step types n b d args.0 m.0 (Ready at) (Given types n b k at args.1) (λ g. Stands types n b at g × Given types n b k at args.1 g) (OnClock types n b k at.clock (numbers_from m.1 os)) (λ g. Stands types n b at g × OnClock types n b k at.clock (numbers_from m.1 os) g)
        (exprs_step es c at d on h ok.1 w sees) (called_step types n b k at f args.1 os args.0) (λ g w r q. (r.0, q)) (λ g w r q z. (r.0, z)))
        (first_step types n b k at os m) (λ g w r q. q)

    pub exprs_step : (es : Exprs) (c : SourceClock) (at : Site) (d : Sketch) → ExprsOn st es c → Stood k see b at c → ExprsSound decls among s lasts es → ExprsTested decls s es → Seen d
        → Step types n b d (sketch_exprs k see at es d).0 (Ready at) (Given types n b k at (sketch_exprs k see at es d).1)
    exprs_step no_expr c at d on h ok w sees = weaker types n b d d (Ready at) (Ready at) (Ready at) (λ g. ⊤) (no_step types n b d (Ready at)) (λ g w h. h) (λ g w h r. tt)
    exprs_step (more_exprs e es) c at d on h ok w sees =
        let x = sketch_expr k see at e d in
        let rest = sketch_exprs k see at es x.0 in
        let p = expr_step e c at d on.0 h ok.0 w.0 sees in
        together types n b d x.0 rest.0 (Ready at) (Here at x.1) (Given types n b k at rest.1) p (exprs_step es c at x.0 on.1 h ok.1 w.1 (seen_later d x.0 p.grows sees))

    merge_step : (ps : Parts) (c : SourceClock) (x : List ℕ) (at : Site) (v : ℕ) (u : Ty) (d : Sketch) → PartsOn st x ps c → Stood k see b at c → (see x).value ≡ Some v → HasType d v (flat_type k.types u) → Covers decls u (of_parts ps) → ConsAre decls (Some u) (of_parts ps)
        → PartsSound decls among s lasts ps → PartsTested decls s ps → Seen d → let m = or_new (sketch_parts k see at v None ps d) in Step types n b d m.0 (λ g. Ready at g × Here at v g) (Here at m.1)
    merge_step no_part c x at v u d on h is typed cover conses ok w sees =
        weaker types n b d _ (λ g. ⊤) (λ g. g (next d) ≡ at.clock) (λ g. Ready at g × Here at v g) (Here at (next d)) (variable_step types n b at.clock (new_name (codes "e") (next d)) flat.Bool d) (λ g w q. tt) (λ g w q z. front_itself (g (next d)) at.clock z)
    merge_step (more_parts con e ps) c x at v u d on h is typed cover conses ok w sees =
        let inner = on_site at v (cons_number k con) in
        let y = sketch_expr k see inner e d in
        let t = type_at y.0 y.1 in
        let m = next y.0 in
        let bare = with_new (codes "e") t y.0 in
        let first = part_at inner (Some m) (bare, y.1) in
        let rest = sketch_parts k see at v (Some m) ps first.0 in
        let p = expr_step e ((con, x) ∷ c) inner d on.0 (on_stood k see b at c con x v h is) ok.0 w.0 sees in
        let q = variable_step types n b at.clock (new_name (codes "e") m) t y.0 in
        let r = part_step inner m (bare, y.1) in
        let to_first = both_grow d y.0 first.0 p.grows (both_grow y.0 bare first.0 q.grows r.grows) in
        let more = parts_step ps c x at v m first.0 on.1 h is ok.1 w.1 (seen_later d first.0 to_first sees) in
        let all = both_grow d first.0 rest.0 to_first more.0.grows in
        let own : DefinedOn first.0.eqns m inner.clock = defined_last bare.eqns (record { targets = m ∷ []; clock = inner.clock; right = copy_of (Variable y.1); restart = inner.restart; at = 0 }) m (has_one m m refl) in
        let each : EachPart (con ∷ of_parts ps) at v m rest.0 =
        λ f i. named_one k con (of_parts ps) f (λ j. DefinedOn rest.0.eqns m (at.clock ++ (v, j) ∷ [])) i (more.0.grows.eqns m inner.clock own) (more.1 f) in
        let end : HasType rest.0 v (flat_type k.types u) = moved d rest.0 v (flat_type k.types u) all.types typed in
        let split : (g : ℕ → Clock) → Within types n rest.0 → Here at v g → g m ≡ at.clock → IsSplit n types g m =
        λ g i f o. split_by types n k decls facts g rest.0 m v u (con ∷ of_parts ps) con at.clock i end cover conses.0 o f each in
        let Before : (ℕ → Clock) → Type 0 = λ g. Ready at g × Here at v g in
        let Second : (ℕ → Clock) → Type 0 = λ g. Before g × (Here inner y.1 g × IsSplit n types g m) in
        let begun : Step types n b d bare Before (λ g. Here inner y.1 g × (g m ≡ at.clock)) =
        then_step types n b d y.0 bare Before (Here inner y.1) (λ g. ⊤) (λ g. g m ≡ at.clock) (λ g. Here inner y.1 g × (g m ≡ at.clock))
        (weaker types n b d y.0 (Ready inner) (Here inner y.1) Before (Here inner y.1) p (λ g i z. on_ready at v (cons_number k con) g z.0 z.1) (λ g i z f. f)) q (λ g i z f. tt) (λ g i z f o. (f, o)) in
        let ended : Step types n b bare rest.0 Second (λ g. ⊤) =
        then_step types n b bare first.0 rest.0 Second (λ g. ⊤) (PartsReady at v m) (λ g. ⊤) (λ g. ⊤)
        (weaker types n b bare first.0 _ (λ g. ⊤) Second (λ g. ⊤) r (λ g i z. ((on_ready at v (cons_number k con) g z.0.0 z.0.1).0, (z.1.0, inr z.1.1))) (λ g i z f. tt))
        more.0 (λ g i z f. (z.0.0, (z.0.1, z.1.1))) (λ g i z f o. tt) in
        let whole : Step types n b d rest.0 Before (Here at m) =
        then_step types n b d bare rest.0 Before (λ g. Here inner y.1 g × (g m ≡ at.clock)) Second (λ g. ⊤) (Here at m) begun ended (λ g i z f. (z, (f.0, split g i z.1 f.1))) (λ g i z f o. front_itself (g m) at.clock f.1) in
        subst (λ o. let z : Made = merged_variable o flat.Bool rest.0 in Step types n b d z.0 Before (Here at z.1)) (sym (parts_same ps at v m first.0)) whole

    parts_step : (ps : Parts) (c : SourceClock) (x : List ℕ) (at : Site) (v m : ℕ) (d : Sketch) → PartsOn st x ps c → Stood k see b at c → (see x).value ≡ Some v → PartsSound decls among s lasts ps → PartsTested decls s ps → Seen d
        → let r = sketch_parts k see at v (Some m) ps d in Step types n b d r.0 (PartsReady at v m) (λ g. ⊤) × EachPart (of_parts ps) at v m r.0
    parts_step no_part c x at v m d on h is ok w sees = (weaker types n b d d (λ g. ⊤) (λ g. ⊤) (PartsReady at v m) (λ g. ⊤) (no_step types n b d (λ g. ⊤)) (λ g i z. tt) (λ g i z f. tt), λ f i. absurd cc)
    parts_step (more_parts con e ps) c x at v m d on h is ok w sees =
        let inner = on_site at v (cons_number k con) in
        let y = sketch_expr k see inner e d in
        let first = part_at inner (Some m) y in
        let rest = sketch_parts k see at v (Some m) ps first.0 in
        let p = expr_step e ((con, x) ∷ c) inner d on.0 (on_stood k see b at c con x v h is) ok.0 w.0 sees in
        let r = part_step inner m y in
        let to_first = both_grow d y.0 first.0 p.grows r.grows in
        let more = parts_step ps c x at v m first.0 on.1 h is ok.1 w.1 (seen_later d first.0 to_first sees) in
        let own : DefinedOn first.0.eqns m inner.clock = defined_last y.0.eqns (record { targets = m ∷ []; clock = inner.clock; right = copy_of (Variable y.1); restart = inner.restart; at = 0 }) m (has_one m m refl) in
        let begun : Step types n b d first.0 (PartsReady at v m) (λ g. ⊤) =
        then_step types n b d y.0 first.0 (PartsReady at v m) (Here inner y.1) _ (λ g. ⊤) (λ g. ⊤)
        (weaker types n b d y.0 (Ready inner) (Here inner y.1) (PartsReady at v m) (Here inner y.1) p (λ g i z. on_ready at v (cons_number k con) g z.0 z.1.0) (λ g i z f. f))
        r (λ g i z f. ((on_ready at v (cons_number k con) g z.0 z.1.0).0, (f, inr z.1.1))) (λ g i z f o. tt) in (
          then_step types n b d first.0 rest.0 (PartsReady at v m) (λ g. ⊤) (PartsReady at v m) (λ g. ⊤) (λ g. ⊤) begun more.0 (λ g i z f. z) (λ g i z f o. tt),
          λ f i. named_one k con (of_parts ps) f (λ j. DefinedOn rest.0.eqns m (at.clock ++ (v, j) ∷ [])) i (more.0.grows.eqns m inner.clock own) (more.1 f),
        )
