-- What equations are added to a sketch, and which of them are events.
use Rattle.std.proofs.Common.{◌≡◌, ℕ, List, [], ◌∷◌, ◌++◌, length, refl, sym, ap, subst, ◌∙◌, None, Some}
use Rattle.std.specs.Prelude.{◌+◌, codes, Bool, true, false, if◌then◌else◌, nat_eq, Option}
use Rattle.std.proofs.lemmas.List.{append_assoc, append-nil}
use Rattle.hp_base.specs.declared.ty.Const.{Const}
use Rattle.hp_base.specs.declared.value.Value.TheVariants.{B}
use Rattle.hp_base.specs.declared.span.Span.{Span}
use Rattle.hp_tree.specs.declared.decl.Cons.{Cons}
use Rattle.hp_tree.specs.declared.expr.Op1.{Op1}
use Rattle.hp_tree.specs.declared.expr.Op1.TheVariants.{Not, Neg}
use Rattle.hp_tree.specs.declared.expr.Op2.{Op2}
use Rattle.hp_tree.specs.declared.expr.Op2.TheVariants as op
use Rattle.hp_tree.specs.Blocks.{Decl}
use Rattle.hp_tree.specs.Meaning.{declares}
use Rattle.hp_flat.specs.declared.equation.Atom.TheVariants.{Value as Fixed}
use Rattle.hp_flat.specs.declared.node.FlatTy.{FlatTy}
use Rattle.hp_flat.specs.declared.node.FlatTy.TheVariants as flat
use Rattle.hp_flat.specs.Equations.{Right, register, FlatEqn}
use Rattle.law_automata.specs.Lowered.Standing.{Along}
use Rattle.law_equations.specs.Flattened.Flatten.{obc_one, obc_two}
use Rattle.law_equations.specs.Made.Making.{with_variable, flat_type, constant_value, Known, Sketch, Site, Sight, Layer, Seen, Standing, Body, Inner, next, with_eqn, with_new, with_outputs, named_value, value_of, new_variable, flag_at, block_flag, new_flag, tested, merged_variable, copy_of, atom_of, bind, bind_all, bind_outputs, link_all, output_left, others, given_by, own_name, own_names, with_own, keeps_name, over, remember, remember_all, enter_path, on_site, cons_number, signed}
use Rattle.hp_watch.specs.Walk.{compares, is_comparison, is_event}
use Rattle.law_choices.specs.Places.Spots.{Spot}
use Rattle.law_choices.specs.Places.Laws.{events, IsEventOf}

-- ---- lists

pub events-append : (xs ys : List FlatEqn) → events (xs ++ ys) ≡ events xs ++ events ys
events-append [] ys = refl
events-append (x ∷ xs) ys = by (is_event x.right) (events-append xs ys)
  where
    by : (b : Bool) → events (xs ++ ys) ≡ events xs ++ events ys → (if b then x ∷ events (xs ++ ys) else events (xs ++ ys)) ≡ (if b then x ∷ events xs else events xs) ++ events ys
    by true h = ap (λ zs. x ∷ zs) h
    by false h = h

along-append : (es fs : List FlatEqn) (ss ts : List Spot) → Along IsEventOf es ss → Along IsEventOf fs ts → Along IsEventOf (es ++ fs) (ss ++ ts)
along-append [] fs [] ts h k = k
along-append [] fs (s ∷ ss) ts h k = absurd h
along-append (e ∷ es) fs [] ts h k = absurd h
along-append (e ∷ es) fs (s ∷ ss) ts h k = (h.0, along-append es fs ss ts h.1 k)

-- ---- from one sketch to another

-- More equations stand behind, whose events are these.
abbrev pub Adds : Sketch → Sketch → List Spot → Type 0
Adds d e ss = (more : List FlatEqn) × (e.eqns ≡ d.eqns ++ more) × Along IsEventOf (events more) ss

pub adds-two : (d e f : Sketch) (ss ts : List Spot) → Adds d e ss → Adds e f ts → Adds d f (ss ++ ts)
adds-two d e f ss ts h k = (
  h.0 ++ k.0,
  k.1 ∙ ap (λ es. es ++ k.0) h.1 ∙ append_assoc d.eqns h.0 k.0,
  subst (λ es. Along IsEventOf es (ss ++ ts)) (sym (events-append h.0 k.0)) (along-append (events h.0) (events k.0) ss ts h.2 k.2),
)

-- without an event behind
pub adds-more : (d e f : Sketch) (ss : List Spot) → Adds d e ss → Adds e f [] → Adds d f ss
adds-more d e f ss h k = subst (Adds d f) (append-nil ss) (adds-two d e f ss [] h k)

pub adds-none : (d e : Sketch) → e.eqns ≡ d.eqns → Adds d e []
adds-none d e h = ([], h ∙ sym (append-nil d.eqns), tt)

pub adds-quiet : (at : Site) (targets : List ℕ) (right : Right) (d : Sketch) → is_event right ≡ false → Adds d (with_eqn at targets right d) []
adds-quiet at targets right d h =
    let e : FlatEqn = record { targets = targets; clock = at.clock; right = right; restart = at.restart; at = 0 } in
    (e ∷ [], refl, subst (λ (b : Bool). Along IsEventOf (if b then e ∷ [] else []) []) (sym h) tt)

pub adds-event : (at : Site) (targets : List ℕ) (right : Right) (d : Sketch) (s : Spot) → is_event right ≡ true → IsEventOf (record { targets = targets; clock = at.clock; right = right; restart = at.restart; at = 0 }) s → Adds d (with_eqn at targets right d) (s ∷ [])
adds-event at targets right d s h is =
    let e : FlatEqn = record { targets = targets; clock = at.clock; right = right; restart = at.restart; at = 0 } in
    (e ∷ [], refl, subst (λ (b : Bool). Along IsEventOf (if b then e ∷ [] else []) (s ∷ [])) (sym h) (is, tt))

-- ---- values and flags

pub quiet-one : (o : Op1) → is_comparison (obc_one o) ≡ false
quiet-one Not = refl
quiet-one Neg = refl

pub compares-same : (o : Op2) → is_comparison (obc_two o) ≡ compares o
compares-same op.And = refl
compares-same op.Or = refl
compares-same op.Xor = refl
compares-same op.Imp = refl
compares-same op.Eq = refl
compares-same op.Ne = refl
compares-same op.Lt = refl
compares-same op.Le = refl
compares-same op.Gt = refl
compares-same op.Ge = refl
compares-same op.Add = refl
compares-same op.Sub = refl
compares-same op.Mul = refl
compares-same op.Div = refl
compares-same op.Rem = refl

-- an equation of a new variable
adds-named : (at : Site) (x : List ℕ) (t : FlatTy) (right : Right) (d : Sketch) → is_event right ≡ false → Adds d (named_value at x t right d).0 []
adds-named at x t right d h = adds-quiet at (next d ∷ []) right (with_new x t d) h

pub adds-value : (at : Site) (t : FlatTy) (right : Right) (d : Sketch) → is_event right ≡ false → Adds d (value_of at t right d).0 []
adds-value at t right d h = adds-named at (codes "e") t right d h

pub adds-flag : (at : Site) (d : Sketch) → Adds d (flag_at at d).0 []
adds-flag at d = by (nat_eq (length at.clock) at.base) d.flag
  where
    new : Adds d (new_flag at d).0 []
    new = adds-named at (codes "first") flat.Bool (register (B true) (Fixed (B false))) d refl

    by : (b : Bool) (o : Option ℕ) → Adds d (if b then block_flag at o d else new_flag at d).0 []
    by true None = (new.0, new.1, new.2)
    by true (Some x) = adds-none d d refl
    by false o = new

pub adds-tested : (o : Option ℕ) (d : Sketch) → Adds d (tested o d).0 []
adds-tested None d = adds-none d (tested None d).0 refl
adds-tested (Some x) d = adds-none d d refl

pub adds-merged : (o : Option ℕ) (t : FlatTy) (d : Sketch) → Adds d (merged_variable o t d).0 []
adds-merged None t d = adds-none d (merged_variable None t d).0 refl
adds-merged (Some x) t d = adds-none d d refl

-- ---- names

pub adds-bind : (at : Site) (o source : Option ℕ) (d : Sketch) → Adds d (bind at o source d) []
adds-bind at None source d = adds-none d d refl
adds-bind at (Some x) source d = adds-quiet at (x ∷ []) (copy_of (atom_of source)) d refl

pub adds-bind-all : (see : Sight) (at : Site) (ys : List (List ℕ × Span)) (x : ℕ) (d : Sketch) → Adds d (bind_all see at ys x d) []
adds-bind-all see at [] x d = adds-none d d refl
adds-bind-all see at (y ∷ ys) x d =
    let e = bind at (see y.0).value (Some x) d in
    adds-more d e (bind_all see at ys x e) [] (adds-bind at (see y.0).value (Some x) d) (adds-bind-all see at ys x e)

pub adds-bind-outputs : (see : Sight) (at : Site) (ys : List (List ℕ × Span)) (n : ℕ) (os : List Decl) (d : Sketch) → Adds d (bind_outputs see at ys n os d) []
adds-bind-outputs see at [] n os d = adds-none d d refl
adds-bind-outputs see at (y ∷ ys) n os d =
    let e = bind at (see y.0).value (output_left n os) d in
    adds-more d e (bind_outputs see at ys (n + 1) (others os) e) [] (adds-bind at (see y.0).value (output_left n os) d) (adds-bind-outputs see at ys (n + 1) (others os) e)

pub adds-links : (out : Sight) (at : Site) (own : Layer) (xs : List (List ℕ)) (d : Sketch) → Adds d (link_all out at own xs d) []
adds-links out at own [] d = adds-none d d refl
adds-links out at own (x ∷ xs) d =
    let e = bind at (out x).value (given_by (own x) (out x)) d in
    adds-more d e (link_all out at own xs e) [] (adds-bind at (out x).value (given_by (own x) (out x)) d) (adds-links out at own xs e)

own_eqns : (standing : Standing) (ds : List Decl) (out : Sight) (x : List ℕ) (s : Seen) → (own_name standing ds out x s).1.eqns ≡ s.1.eqns
own_eqns Inner ds out x s = refl
own_eqns Body ds out x s = by (declares ds x) (keeps_name ds x)
  where
    by : (b c : Bool) → (if b then with_own ds x (over s.0 out x) s.0 (if c then (with_variable x (over s.0 out x).ty s.1, next s.1) else new_variable x (over s.0 out x).ty s.1) else s).1.eqns ≡ s.1.eqns
    by true true = refl
    by true false = refl
    by false c = refl

pub adds-names : (standing : Standing) (ds : List Decl) (out : Sight) (xs : List (List ℕ)) (s : Seen) → Adds s.1 (own_names standing ds out xs s).1 []
adds-names standing ds out [] s = adds-none s.1 s.1 refl
adds-names standing ds out (x ∷ xs) s =
    let t = own_name standing ds out x s in
    adds-more s.1 t.1 (own_names standing ds out xs t).1 [] (adds-none s.1 t.1 (own_eqns standing ds out x s)) (adds-names standing ds out xs t)

module _ (k : Known) where
  pub adds-outputs : (os : List Decl) (d : Sketch) → Adds d (with_outputs k os d) []
  adds-outputs [] d = adds-none d d refl
  adds-outputs (o ∷ os) d =
      let e = with_new o.name (flat_type k.types o.ty) d in
      adds-more d e (with_outputs k os e) [] (adds-none d e refl) (adds-outputs os e)

  adds-remember : (at : Site) (out : Sight) (d : Decl) (o : Option Const) (s : Seen) → Adds s.1 (remember k at out d o s).1 []
  adds-remember at out d None s = adds-none s.1 s.1 refl
  adds-remember at out d (Some c) s = let e = over s.0 out d.name in adds-named at (codes "last") e.ty (register (constant_value k c) (atom_of e.value)) s.1 refl

  pub adds-lasts : (at : Site) (out : Sight) (ds : List Decl) (s : Seen) → Adds s.1 (remember_all k at out ds s).1 []
  adds-lasts at out [] s = adds-none s.1 s.1 refl
  adds-lasts at out (d ∷ ds) s =
      let t = remember k at out d d.last s in
      adds-more s.1 t.1 (remember_all k at out ds t).1 [] (adds-remember at out d d.last s) (adds-lasts at out ds t)

  pub adds-path : (see : Sight) (path : List (Cons × List ℕ)) (at : Site) (d : Sketch) → Adds d (enter_path k see path at d).1 []
  adds-path see [] at d = adds-none d d refl
  adds-path see (s ∷ path) at d =
      let t = tested (see s.1).value d in
      let site = on_site at t.1 (cons_number k s.0) in
      adds-more d t.0 (enter_path k see path site t.0).1 [] (adds-tested (see s.1).value d) (adds-path see path site t.0)

  pub adds-signed : (ds : List Decl) (s : Seen) → Adds s.1 (signed k ds s).1 []
  adds-signed [] s = adds-none s.1 s.1 refl
  adds-signed (d ∷ ds) s = let t = signed k (d ∷ []) s in adds-more s.1 t.1 (signed k ds t).1 [] (adds-none s.1 t.1 refl) (adds-signed ds t)
