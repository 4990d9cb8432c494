-- What equations are added to a sketch, and what free places they bring.
use Rattle.std.proofs.Common.{◌≡◌, ℕ, zero, suc, ◌+◌, Bool, true, false, if◌then◌else◌, List, [], ◌∷◌, ◌++◌, Option, None, Some, inl, inr, refl, sym, ap, subst, ◌∙◌}
use Rattle.std.specs.Prelude.{codes, slice_get}
use Rattle.std.proofs.lemmas.List.{append_assoc, append-nil}
use Rattle.hp_base.specs.declared.span.Span.{Span}
use Rattle.hp_base.specs.declared.ty.Const.{Const}
use Rattle.hp_base.specs.declared.ty.Ty.{Ty}
use Rattle.hp_tree.specs.declared.decl.Cons.{Cons}
use Rattle.hp_tree.specs.Blocks.{Decl}
use Rattle.hp_tree.specs.Meaning.{declares}
use Rattle.hp_flat.specs.declared.node.FlatTy.{FlatTy}
use Rattle.hp_flat.specs.declared.node.FlatTy.TheVariants as flat
use Rattle.hp_flat.specs.Equations.{FlatEqn, Right}
use Rattle.law_automata.specs.Lowered.Standing.{Along}
use Rattle.law_equations.specs.Made.Making.{outputs_of, Known, Sketch, Site, Sight, Layer, Seen, Made, Standing, Body, Inner, next, new_name, with_variable, with_eqn, tested, merged_variable, type_at, bind, bind_all, bind_outputs, link_all, output_left, others, given_by, first_output, keeps_name, own_name, own_names, with_own, over, new_variable, remember, remember_all, enter_path, on_site, cons_number, flat_type, signed}
use Rattle.law_wellmade.proofs.BegunLemmas.Keeping.{Keeps, both, moved, read_keeps}
use Rattle.law_wellmade.proofs.RegularLemmas.Expressions.{outputs_moved}
use Rattle.hp_watch.specs.Walk.{is_event}
use Rattle.law_choices.proofs.BroughtLemmas.Brought.{Brings}
use Rattle.law_choices.specs.Places.Laws.{IsEventOf, events}
use Rattle.law_choices.proofs.PlacesLemmas.Adding.{Adds, adds-bind-all, adds-bind-outputs, adds-lasts, adds-links, adds-names, adds-path, adds-signed, events-append}
use Rattle.law_choices.proofs.PlacesLemmas.Relating.{along-both}

-- ---- variables that stay

pub keeps-same : (d : Sketch) → Keeps d d
keeps-same d = record { kept = λ x v h. h }

longer : {A : Type 0} (xs ys : List A) (i : ℕ) (v : A) → slice_get xs i ≡ Some v → slice_get (xs ++ ys) i ≡ Some v
longer [] ys i v h = absurd cc
longer (x ∷ xs) ys zero v h = h
longer (x ∷ xs) ys (suc i) v h = longer xs ys i v h

keeps-variable : (x : List ℕ) (t : FlatTy) (d : Sketch) → Keeps d (with_variable x t d)
keeps-variable x t d = record { kept = λ i v h. longer d.variables (record { name = x; ty = t } ∷ []) i v h }

pub keeps-tested : (o : Option ℕ) (d : Sketch) → Keeps d (tested o d).0
keeps-tested None d = keeps-variable (new_name (codes "e") (next d)) flat.Bool d
keeps-tested (Some x) d = keeps-same d

pub keeps-merged : (o : Option ℕ) (t : FlatTy) (d : Sketch) → Keeps d (merged_variable o t d).0
keeps-merged None t d = keeps-variable (new_name (codes "e") (next d)) t d
keeps-merged (Some x) t d = keeps-same d

pub keeps-first : (at : Site) (os : List Decl) (m : Made) → Keeps m.0 (first_output at os m).0
keeps-first at [] m = keeps-variable (new_name (codes "e") (next m.0)) flat.Bool m.0
keeps-first at (o ∷ os) m = read_keeps at (Some m.1) (type_at m.0 m.1) m.0

keeps-bind : (at : Site) (o source : Option ℕ) (d : Sketch) → Keeps d (bind at o source d)
keeps-bind at None source d = keeps-same d
keeps-bind at (Some x) source d = record { kept = λ i v h. h }

keeps-bind-all : (see : Sight) (at : Site) (ys : List (List ℕ × Span)) (x : ℕ) (d : Sketch) → Keeps d (bind_all see at ys x d)
keeps-bind-all see at [] x d = keeps-same d
keeps-bind-all see at (y ∷ ys) x d = let e = bind at (see y.0).value (Some x) d in both d e (bind_all see at ys x e) (keeps-bind at (see y.0).value (Some x) d) (keeps-bind-all see at ys x e)

keeps-bind-outputs : (see : Sight) (at : Site) (ys : List (List ℕ × Span)) (n : ℕ) (os : List Decl) (d : Sketch) → Keeps d (bind_outputs see at ys n os d)
keeps-bind-outputs see at [] n os d = keeps-same d
keeps-bind-outputs see at (y ∷ ys) n os d =
    let e = bind at (see y.0).value (output_left n os) d in
    both d e (bind_outputs see at ys (n + 1) (others os) e) (keeps-bind at (see y.0).value (output_left n os) d) (keeps-bind-outputs see at ys (n + 1) (others os) e)

keeps-links : (out : Sight) (at : Site) (own : Layer) (xs : List (List ℕ)) (d : Sketch) → Keeps d (link_all out at own xs d)
keeps-links out at own [] d = keeps-same d
keeps-links out at own (x ∷ xs) d =
    let e = bind at (out x).value (given_by (own x) (out x)) d in
    both d e (link_all out at own xs e) (keeps-bind at (out x).value (given_by (own x) (out x)) d) (keeps-links out at own xs e)

keeps-own : (standing : Standing) (ds : List Decl) (out : Sight) (x : List ℕ) (s : Seen) → Keeps s.1 (own_name standing ds out x s).1
keeps-own Inner ds out x s = keeps-variable (new_name x (next s.1)) (over s.0 out x).ty s.1
keeps-own Body ds out x s = by (declares ds x) (keeps_name ds x)
  where
    by : (b c : Bool) → Keeps s.1 (if b then with_own ds x (over s.0 out x) s.0 (if c then (with_variable x (over s.0 out x).ty s.1, next s.1) else new_variable x (over s.0 out x).ty s.1) else s).1
    by true true = keeps-variable x (over s.0 out x).ty s.1
    by true false = keeps-variable (new_name x (next s.1)) (over s.0 out x).ty s.1
    by false c = keeps-same s.1

keeps-names : (standing : Standing) (ds : List Decl) (out : Sight) (xs : List (List ℕ)) (s : Seen) → Keeps s.1 (own_names standing ds out xs s).1
keeps-names standing ds out [] s = keeps-same s.1
keeps-names standing ds out (x ∷ xs) s =
    let t = own_name standing ds out x s in
    both s.1 t.1 (own_names standing ds out xs t).1 (keeps-own standing ds out x s) (keeps-names standing ds out xs t)

module _ (k : Known) where
  keeps-remember : (at : Site) (out : Sight) (d : Decl) (o : Option Const) (s : Seen) → Keeps s.1 (remember k at out d o s).1
  keeps-remember at out d None s = keeps-same s.1
  keeps-remember at out d (Some c) s = record { kept = (keeps-variable (new_name (codes "last") (next s.1)) (over s.0 out d.name).ty s.1).kept }

  keeps-lasts : (at : Site) (out : Sight) (ds : List Decl) (s : Seen) → Keeps s.1 (remember_all k at out ds s).1
  keeps-lasts at out [] s = keeps-same s.1
  keeps-lasts at out (d ∷ ds) s =
      let t = remember k at out d d.last s in
      both s.1 t.1 (remember_all k at out ds t).1 (keeps-remember at out d d.last s) (keeps-lasts at out ds t)

  keeps-path : (see : Sight) (path : List (Cons × List ℕ)) (at : Site) (d : Sketch) → Keeps d (enter_path k see path at d).1
  keeps-path see [] at d = keeps-same d
  keeps-path see (s ∷ path) at d =
      let t = tested (see s.1).value d in
      let site = on_site at t.1 (cons_number k s.0) in
      both d t.0 (enter_path k see path site t.0).1 (keeps-tested (see s.1).value d) (keeps-path see path site t.0)

  keeps-signed : (ds : List Decl) (s : Seen) → Keeps s.1 (signed k ds s).1
  keeps-signed [] s = keeps-same s.1
  keeps-signed (d ∷ ds) s =
      let t = signed k (d ∷ []) s in
      both s.1 t.1 (signed k ds t).1 (keeps-variable d.name (flat_type k.types d.ty) s.1) (keeps-signed ds t)

-- ---- from one sketch to another

no-spots : (es : List FlatEqn) → Along IsEventOf es [] → es ≡ []
no-spots [] h = refl
no-spots (e ∷ es) h = absurd h

module _ (given : List ℕ → List Ty) (k : Known) where
  -- what an equation brings, it brings where variables stay
  brings-kept : (d e : Sketch) (q : FlatEqn) (ts : List Ty) → Keeps d e → Brings given k d q ts → Brings given k e q ts
  brings-kept d e q ts h (inl c) =
      inl (record {
        op = c.op;
        first = c.first;
        second = c.second;
        right = c.right;
        type = c.type;
        typed = moved d e c.first (flat_type k.types c.type) h c.typed;
        target = c.target;
        targets = c.targets;
        truth = moved d e c.target flat.Bool h c.truth;
        brings = c.brings;
      })
  brings-kept d e q ts h (inr c) =
      inr (record { callee = c.callee; args = c.args; right = c.right; from = c.from; targets = c.targets; typed = outputs_moved [] k (outputs_of (k.nodes c.callee)) c.from d e h c.typed; brings = c.brings })

  -- More equations stand behind, whose events bring these, and variables stay.
  pub record Adding (d e : Sketch) (ls : List (List Ty)) : Type 0 where
    pub more : List FlatEqn
    pub eqns : e.eqns ≡ d.eqns ++ more
    pub keeps : Keeps d e
    pub events : Along (Brings given k e) (events more) ls

  along-kept : (d e : Sketch) → Keeps d e → (es : List FlatEqn) (ls : List (List Ty)) → Along (Brings given k d) es ls → Along (Brings given k e) es ls
  along-kept d e h [] [] a = tt
  along-kept d e h [] (l ∷ ls) a = absurd a
  along-kept d e h (q ∷ es) [] a = absurd a
  along-kept d e h (q ∷ es) (l ∷ ls) a = (brings-kept d e q l h a.0, along-kept d e h es ls a.1)

  pub adding-two : (d e f : Sketch) (ls ms : List (List Ty)) → Adding d e ls → Adding e f ms → Adding d f (ls ++ ms)
  adding-two d e f ls ms a b = record {
    more = a.more ++ b.more;
    eqns = b.eqns ∙ ap (λ es. es ++ b.more) a.eqns ∙ append_assoc d.eqns a.more b.more;
    keeps = both d e f a.keeps b.keeps;
    events = subst (λ es. Along (Brings given k f) es (ls ++ ms)) (sym (events-append a.more b.more))
        (along-both (Brings given k f) (events a.more) (events b.more) ls ms (along-kept e f b.keeps (events a.more) ls a.events) b.events);
  }

  -- without an event
  pub quiet : (d e : Sketch) → Adds d e [] → Keeps d e → Adding d e []
  quiet d e a h = record { more = a.0; eqns = a.1; keeps = h; events = subst (λ es. Along (Brings given k e) es []) (sym (no-spots (events a.0) a.2)) tt }

  pub adding-more : (d e f : Sketch) (ls : List (List Ty)) → Adding d e ls → Adds e f [] → Keeps e f → Adding d f ls
  adding-more d e f ls a b h = subst (Adding d f) (append-nil ls) (adding-two d e f ls [] a (quiet e f b h))

  pub adding-none : (d e : Sketch) → e.eqns ≡ d.eqns → Keeps d e → Adding d e []
  adding-none d e h g = quiet d e ([], h ∙ sym (append-nil d.eqns), tt) g

  pub adding-event : (at : Site) (targets : List ℕ) (right : Right) (d : Sketch) (ts : List Ty) → is_event right ≡ true
      → Brings given k (with_eqn at targets right d) (record { targets = targets; clock = at.clock; right = right; restart = at.restart; at = 0 }) ts → Adding d (with_eqn at targets right d) (ts ∷ [])
  adding-event at targets right d ts h is =
      let e : FlatEqn = record { targets = targets; clock = at.clock; right = right; restart = at.restart; at = 0 } in
      record { more = e ∷ []; eqns = refl; keeps = record { kept = λ i v g. g }; events = subst (λ (b : Bool). Along (Brings given k (with_eqn at targets right d)) (if b then e ∷ [] else []) (ts ∷ [])) (sym h) (is, tt) }

  -- ---- names

  pub adding-bind-all : (see : Sight) (at : Site) (ys : List (List ℕ × Span)) (x : ℕ) (d : Sketch) → Adding d (bind_all see at ys x d) []
  adding-bind-all see at ys x d = quiet d (bind_all see at ys x d) (adds-bind-all see at ys x d) (keeps-bind-all see at ys x d)

  pub adding-bind-outputs : (see : Sight) (at : Site) (ys : List (List ℕ × Span)) (n : ℕ) (os : List Decl) (d : Sketch) → Adding d (bind_outputs see at ys n os d) []
  adding-bind-outputs see at ys n os d = quiet d (bind_outputs see at ys n os d) (adds-bind-outputs see at ys n os d) (keeps-bind-outputs see at ys n os d)

  pub adding-links : (out : Sight) (at : Site) (own : Layer) (xs : List (List ℕ)) (d : Sketch) → Adding d (link_all out at own xs d) []
  adding-links out at own xs d = quiet d (link_all out at own xs d) (adds-links out at own xs d) (keeps-links out at own xs d)

  pub adding-names : (standing : Standing) (ds : List Decl) (out : Sight) (xs : List (List ℕ)) (s : Seen) → Adding s.1 (own_names standing ds out xs s).1 []
  adding-names standing ds out xs s = quiet s.1 (own_names standing ds out xs s).1 (adds-names standing ds out xs s) (keeps-names standing ds out xs s)

  pub adding-lasts : (at : Site) (out : Sight) (ds : List Decl) (s : Seen) → Adding s.1 (remember_all k at out ds s).1 []
  adding-lasts at out ds s = quiet s.1 (remember_all k at out ds s).1 (adds-lasts k at out ds s) (keeps-lasts k at out ds s)

  pub adding-path : (see : Sight) (path : List (Cons × List ℕ)) (at : Site) (d : Sketch) → Adding d (enter_path k see path at d).1 []
  adding-path see path at d = quiet d (enter_path k see path at d).1 (adds-path k see path at d) (keeps-path k see path at d)

  pub adding-signed : (ds : List Decl) (s : Seen) → Adding s.1 (signed k ds s).1 []
  adding-signed ds s = quiet s.1 (signed k ds s).1 (adds-signed k ds s) (keeps-signed k ds s)

  -- the same sketch, but for its flag
  pub adding-as : (d e f : Sketch) (ls : List (List Ty)) → f.eqns ≡ e.eqns → f.variables ≡ e.variables → Adding d e ls → Adding d f ls
  adding-as d e f ls h v a = adding-more d e f ls a ([], h ∙ sym (append-nil e.eqns), tt) (record { kept = λ i w g. ap (λ vs. slice_get vs i) v ∙ g })

  pub brought-as : (d e : Sketch) (ls ms : List (List Ty)) → ls ≡ ms → Adding d e ls → Adding d e ms
  brought-as d e ls ms h a = subst (Adding d e) h a
