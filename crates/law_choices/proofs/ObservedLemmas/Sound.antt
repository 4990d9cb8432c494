-- The observer of a contract that calls nothing is sound, whatever nodes are known.
use Rattle.std.proofs.Common.{◌≡◌, ◌⊎◌, inl, inr, ⊎_elim, ℕ, ◌+◌, Bool, true, false, ◌||◌, ◌&&◌, List, [], ◌∷◌, ◌++◌, refl, sym, ap, ap₂, subst, ◌∙◌}
use Rattle.std.specs.Prelude.{⊤, IsTrue, IsFalse, is_some, not, Option, None, Some}
use Rattle.std.specs.Str.{bytes_eq}
use Rattle.hp_base.specs.declared.span.Span.{Span}
use Rattle.hp_base.specs.declared.ty.Ty.{Ty}
use Rattle.hp_base.specs.declared.ty.Ty.TheVariants as ty
use Rattle.hp_base.specs.declared.ty.Const.{Const}
use Rattle.hp_base.specs.declared.ty.Const.TheVariants as const
use Rattle.hp_base.specs.Known.Known.{lookup}
use Rattle.hp_tree.specs.Expressions.{Expr, constant, variable, last_of, one, two, choose, pre, fby, arrow, when_is, merge, call}
use Rattle.hp_tree.specs.Blocks.{Decl, Block, block, Eqns, no_eqn, more_eqns, Eqn, eqns_of, list_of_eqns}
use Rattle.hp_tree.specs.Programs.{TypeDecl, Contract, Node}
use Rattle.hp_tree.specs.Meaning.{declares, some_defines}
use Rattle.hp_meaning.specs.Clocking.Clocking.{AreOnce, AreDefined}
use Rattle.hp_typing.specs.Scopes.{with_variables, inside, inside_node}
use Rattle.law_judged.specs.Named.Scopes.{Scope}
use Rattle.law_judged.specs.Named.Scoped.{Names, also, no_names, BlockScoped, EqnsScoped, equations_of, ContractScoped, interface, NodeScoped}
use Rattle.law_judged.specs.Replaced.Fitting.{BlockNames, ContractNames}
use Rattle.law_judged.proofs.NamedLemmas.Sets.{or_cases, or_left, or_right, declares_append}
use Rattle.law_judged.proofs.OnceLemmas.Renamed.{some_owned}
use Rattle.hp_expand.specs.Numbering.{same_name}
use Rattle.law_values.specs.Valued.Judged.{Lasts, no_lasts, lasts_in, lasts_of, ConstantIs, RightSound, TestSound, FirstSound, DeclsSound, OthersKnown, BlockSound, EqnsSound, HaveOwnTypes, HaveEquations, ToldSound, ContractSound, NodeSound}
use Rattle.law_values.proofs.ValuedLemmas.Scoped.{still_known, not_declared}
use Rattle.law_values.proofs.AcceptedLemmas.Views.{own_types, declared_type, last_among, lasts_own}
use Rattle.law_values.proofs.AcceptedLemmas.Keeps.{KeptName, Grows, test_moved}
use Rattle.law_values.proofs.AcceptedLemmas.Moves.{Place, grows_more, lasts_cases, last_known, eqns_moved}
use Rattle.law_automata.proofs.LoweredLemmas.Apart.{bytes_same, same_bytes}
use Rattle.law_automata.proofs.LoweredLemmas.Nodes.{itself}
use Rattle.law_wellmade.specs.Tested.Apart.{BlockApart, ConditionApart, ContractApart}
use Rattle.law_wellmade.specs.Tested.Fits.{ExprApart, WrittenFits, DeclsFit, BlockFits, EqnsFit, NodeFits}
use Rattle.law_wellmade.proofs.TimelyLemmas.DifferLaws.{Grounds, grounds_more}
use Rattle.law_drawing.specs.Carrying.Drawable.{BlockDrawable, ContractDrawable}
use Rattle.law_drawing.proofs.SteeredLemmas.Uncalled.{CallsNothing, BlockCallsNothing, EqnsCallNothing, ToldCallsNothing, ContractCallsNothing}
use Rattle.hp_watch.specs.Observing.{assumed, enforced, outputs_at, inputs_for, condition_of, all_handed_on, with_lines, lines_of, observer_of}
use Rattle.law_choices.specs.Observed.Contracts.{IsOther}
use Rattle.law_choices.proofs.ObservedLemmas.Bodies.{false_unless, assumed_not_other, enforced_not_other, none_declared, outputs_other, once_first, once_last, local_no_output}
use Rattle.law_choices.proofs.ObservedLemmas.Fitting.{none, Wider, decls_fit, eqns_fit}
use Rattle.law_choices.proofs.ObservedLemmas.Removable.{AllBase}
use Rattle.law_choices.proofs.ObservedLemmas.Said.{eqns_said}
use Rattle.law_choices.proofs.ObservedLemmas.Swapped.{to, to_more, eqns_to, test_to}

-- ---- declared names

module _ (types : List TypeDecl) (among : List ℕ → Option Node) where
  own_more : (ds es : List Decl) (s : Scope) → HaveOwnTypes types among s ds → HaveOwnTypes types among (with_variables s es) ds
  own_more [] es s h = tt
  own_more (d ∷ ds) es s h = (still_known d.name es s d.ty h.0, own_more ds es s h.1)

  own_first : (ds es : List Decl) (s : Scope) → HaveOwnTypes types among s (ds ++ es) → HaveOwnTypes types among s ds
  own_first [] es s h = tt
  own_first (d ∷ ds) es s h = (h.0, own_first ds es s h.1)

  own_last : (ds es : List Decl) (s : Scope) → HaveOwnTypes types among s (ds ++ es) → HaveOwnTypes types among s es
  own_last [] es s h = h
  own_last (d ∷ ds) es s h = own_last ds es s h.1

one_type : (t u : Ty) → Some t ≡ Some u → t ≡ u
one_type t u h = cc

-- a declared name has one type wherever these declarations have theirs
both_types : (types : List TypeDecl) (among before : List ℕ → Option Node) (s r : Scope) (ds : List Decl) (x : List ℕ) (t : Ty) → HaveOwnTypes types among s ds → HaveOwnTypes types before r ds → IsTrue (declares ds x) → lookup s.variables x ≡ Some t → lookup r.variables x ≡ Some t
both_types types among before s r [] x t o p h l = absurd cc
both_types types among before s r (d ∷ ds) x t o p h l =
    ⊎_elim
    (λ e. let q = same_bytes d.name x e in
    subst (λ z. lookup r.variables x ≡ Some z) (one_type d.ty t (sym o.0 ∙ ap (λ z. lookup s.variables z) q ∙ l)) (subst (λ z. lookup r.variables z ≡ Some d.ty) q p.0))
    (λ k. both_types types among before s r ds x t o.1 p.1 k l) (or_cases (bytes_eq d.name x) (declares ds x) h)

neither : (a b : Bool) → IsFalse (a || b) → IsFalse a × IsFalse b
neither true b h = absurd cc
neither false b h = (refl, h)

last_append : (ds es : List Decl) (x : List ℕ) → IsTrue (last_among ds x) ⊎ IsTrue (last_among es x) → IsTrue (last_among (ds ++ es) x)
last_append [] es x (inl h) = absurd cc
last_append [] es x (inr h) = h
last_append (d ∷ ds) es x (inl h) =
    ⊎_elim (λ k. or_left (bytes_eq d.name x && is_some d.last) (last_among (ds ++ es) x) k) (λ k. or_right (bytes_eq d.name x && is_some d.last) (last_among (ds ++ es) x) (last_append ds es x (inl k)))
    (or_cases (bytes_eq d.name x && is_some d.last) (last_among ds x) h)
last_append (d ∷ ds) es x (inr h) = or_right (bytes_eq d.name x && is_some d.last) (last_among (ds ++ es) x) (last_append ds es x (inr h))

pub scoped_front : (seen own : Names) (es : Eqns) (more : List Eqn) → EqnsScoped seen own (eqns_of (list_of_eqns es ++ more)) → EqnsScoped seen own es
scoped_front seen own no_eqn more h = tt
scoped_front seen own (more_eqns e es) more h = (h.0, scoped_front seen own es more h.1)

both_true : (a b : Bool) → IsTrue a → IsFalse b → IsTrue (a && not b)
both_true a b h k = ap₂ (λ p q. p && not q) h k

-- ---- declarations with their first values

module _ (types : List TypeDecl) (before : List ℕ → Option Node) where
  abbrev Firsts : List Decl → Type 0
  Firsts [] = ⊤
  Firsts (d ∷ ds) = FirstSound types before d.ty d.last × Firsts ds

  decls_sound : (r : Scope) (es : Eqns) (ds : List Decl) → HaveOwnTypes types before r ds → ((x : List ℕ) → IsTrue (declares ds x) → IsTrue (some_defines es x)) → Firsts ds → DeclsSound types before r es ds
  decls_sound r es [] o f h = tt
  decls_sound r es (d ∷ ds) o f h = (
    (o.0, (f d.name (or_left (bytes_eq d.name d.name) (declares ds d.name) (bytes_same d.name)), h.0)),
    decls_sound r es ds o.1 (λ x k. f x (or_right (bytes_eq d.name x) (declares ds x) k)) h.1,
  )

  both_firsts : (ds es : List Decl) → Firsts ds → Firsts es → Firsts (ds ++ es)
  both_firsts [] es h k = k
  both_firsts (d ∷ ds) es h k = (h.0, both_firsts ds es h.1 k)

  firsts_of : (among : List ℕ → Option Node) (s : Scope) (es : Eqns) (ds : List Decl) → DeclsSound types among s es ds → Firsts ds
  firsts_of among s es [] h = tt
  firsts_of among s es (d ∷ ds) h = (h.0.1.1, firsts_of among s es ds h.1)

  firsts_had : (among : List ℕ → Option Node) (b : Block) (ds : List Decl) → HaveEquations types among b ds → Firsts ds
  firsts_had among b [] h = tt
  firsts_had among b (d ∷ ds) h = (h.0.1, firsts_had among b ds h.1)

  sound_behind : (r : Scope) (lasts : Lasts) (es : Eqns) (more : List Eqn) → EqnsSound types before r lasts es → EqnsSound types before r lasts (eqns_of more) → EqnsSound types before r lasts (eqns_of (list_of_eqns es ++ more))
  sound_behind r lasts no_eqn more h k = k
  sound_behind r lasts (more_eqns e es) more h k = (h.0, sound_behind r lasts es more h.1 k)

  -- a truth value may be told
  told_right : (r : Scope) (lasts : Lasts) (y : List ℕ) (s : Span) → lookup r.variables y ≡ Some ty.Bool → (e : Expr) → CallsNothing e → TestSound types before r lasts e → RightSound types before r lasts ((y, s) ∷ []) e
  told_right r lasts y s q (constant at c) a h = (h.0, (ty.Bool, (h.1, (q, tt))))
  told_right r lasts y s q (variable at x) a h = (h.0, (ty.Bool, (h.1, (q, tt))))
  told_right r lasts y s q (last_of at x) a h = (h.0, (ty.Bool, (h.1, (q, tt))))
  told_right r lasts y s q (one at o e) a h = (h.0, (ty.Bool, (h.1, (q, tt))))
  told_right r lasts y s q (two at o e f) a h = (h.0, (ty.Bool, (h.1, (q, tt))))
  told_right r lasts y s q (choose at e f g) a h = (h.0, (ty.Bool, (h.1, (q, tt))))
  told_right r lasts y s q (pre at e) a h = (h.0, (ty.Bool, (h.1, (q, tt))))
  told_right r lasts y s q (fby at e f) a h = (h.0, (ty.Bool, (h.1, (q, tt))))
  told_right r lasts y s q (arrow at e f) a h = (h.0, (ty.Bool, (h.1, (q, tt))))
  told_right r lasts y s q (when_is at e c x) a h = (h.0, (ty.Bool, (h.1, (q, tt))))
  told_right r lasts y s q (merge at x ps) a h = (h.0, (ty.Bool, (h.1, (q, tt))))
  told_right r lasts y s q (call at f i es) a h = absurd a

-- ---- the tests of declared outputs, and of equations in a row

outputs_fit : (types : List TypeDecl) (r : Scope) (ds : List Decl) → AllBase ds → DeclsFit types r ds
outputs_fit types r [] h = tt
outputs_fit types r (d ∷ ds) h = (subst (WrittenFits types r) (sym h.0) tt, outputs_fit types r ds h.1)

decls_fit_both : (types : List TypeDecl) (r : Scope) (ds es : List Decl) → DeclsFit types r ds → DeclsFit types r es → DeclsFit types r (ds ++ es)
decls_fit_both types r [] es h k = k
decls_fit_both types r (d ∷ ds) es h k = (h.0, decls_fit_both types r ds es h.1 k)

fit_behind : (types : List TypeDecl) (r : Scope) (es : Eqns) (more : List Eqn) → EqnsFit types r es → EqnsFit types r (eqns_of more) → EqnsFit types r (eqns_of (list_of_eqns es ++ more))
fit_behind types r no_eqn more h k = k
fit_behind types r (more_eqns e es) more h k = (h.0, fit_behind types r es more h.1 k)

handed_fit : (types : List TypeDecl) (r : Scope) (i : ℕ) (ds : List Decl) → EqnsFit types r (eqns_of (all_handed_on i ds))
handed_fit types r i [] = tt
handed_fit types r i (d ∷ ds) = (tt, handed_fit types r (i + 1) ds)

told_apart : (o : Option Expr) (at : Span) → ConditionApart o → ExprApart (condition_of o at)
told_apart None at h = tt
told_apart (Some e) at h = h

-- ---- the observer

module _ (types : List TypeDecl) (among before : List ℕ → Option Node) (s r : Scope) (empty_s : (x : List ℕ) → lookup s.variables x ≡ None) (empty_r : (x : List ℕ) → lookup r.variables x ≡ None) (conses : r.constructors ≡ s.constructors)
    (constants : (c : Const) → ConstantIs types r c) (known : (f : List ℕ) → lookup r.nodes f ≡ before f) (n : Node) (c : Contract) (scoped : NodeScoped n) (there : NodeScoped (observer_of n c)) (names : (x : List ℕ) → IsTrue (interface n x) → IsOther x) where
  abbrev all : List Decl
  all = n.inputs ++ inputs_for 0 n.outputs

  abbrev told : List Decl
  told = outputs_at c.span

  abbrev bare : Scope
  bare = to types among none [] s

  abbrev outer : Scope
  outer = with_variables (with_variables r all) told

  grows : Grows types before bare r
  grows = record { conses = λ k t h. ap (λ z. lookup z k) conses ∙ h; nodes = λ f m h. absurd cc; constants = constants; known = known }

  not_told : (x : List ℕ) → IsTrue (declares told x) → declares all x ≡ false
  not_told x h = false_unless (declares all x) (λ k. once_apart all told there.once x k h)
    where
      once_apart : (xs ys : List Decl) → AreOnce (xs ++ ys) → (x : List ℕ) → IsTrue (declares xs x) → IsTrue (declares ys x) → ⊥
      once_apart [] ys once x h k = absurd cc
      once_apart (d ∷ xs) ys once x h k = by (or_cases (bytes_eq d.name x) (declares xs x) h) (once_apart xs ys once.1 x)
        where
          by : IsTrue (bytes_eq d.name x) ⊎ IsTrue (declares xs x) → (IsTrue (declares xs x) → IsTrue (declares ys x) → ⊥) → ⊥
          by (inl q) f =
              let here : IsTrue (declares ys d.name) = subst (λ z. IsTrue (declares ys z)) (sym (same_bytes d.name x q)) k in
              let e : true ≡ false = sym (or_right (declares xs d.name) (declares ys d.name) here) ∙ sym (declares_append xs ys d.name) ∙ once.0 in absurd cc
          by (inr q) f = f q k

  outer_all : HaveOwnTypes types before outer all
  outer_all = own_more types before all told (with_variables r all) (own_types types before all r (once_first all told there.once) (λ x h. empty_r x))

  outer_told : HaveOwnTypes types before outer told
  outer_told = own_types types before told (with_variables r all) (once_last all told there.once) (λ x h. not_declared x all r (not_told x h) ∙ empty_r x)

  module _ (ds : List Decl) (es : Eqns) (own : BlockScoped (interface n) no_names (block ds es)) (inner : BlockNames IsOther (block ds es)) (here : BlockScoped (also (also (also no_names all) told) []) (also no_names told) (with_lines (block ds es) n.outputs (lines_of n c))) where
    abbrev locals : List Decl
    locals = ds ++ n.outputs

    abbrev eqns : Eqns
    eqns = eqns_of (list_of_eqns es ++ lines_of n c)

    abbrev seen : Names
    seen = also (interface n) ds

    abbrev after : Names
    after = also (also (also (also no_names all) told) []) locals

    abbrev old : Scope
    old = with_variables (inside_node bare n) ds

    abbrev new : Scope
    new = with_variables outer locals

    abbrev lasts_old : Lasts
    lasts_old = lasts_in ds (lasts_in n.outputs no_lasts)

    abbrev lasts_new : Lasts
    lasts_new = lasts_in locals (lasts_in told no_lasts)

    -- ---- the types of names, before and after

    old_inputs : HaveOwnTypes types none old n.inputs
    old_inputs =
        own_more types none n.inputs ds (inside_node bare n)
        (own_more types none n.inputs n.outputs (with_variables bare n.inputs) (own_types types none n.inputs bare (once_first n.inputs n.outputs scoped.once) (λ x h. empty_s x)))

    none_here : (x : List ℕ) → IsFalse (declares n.inputs x) → IsFalse (declares n.outputs x) → lookup (inside_node bare n).variables x ≡ None
    none_here x h k = not_declared x n.outputs (with_variables bare n.inputs) k ∙ not_declared x n.inputs bare h ∙ empty_s x

    apart : (x : List ℕ) → IsTrue (declares n.outputs x) → IsFalse (declares n.inputs x)
    apart x h = false_unless (declares n.inputs x) (λ k. both n.inputs n.outputs scoped.once k h)
      where
        both : (xs ys : List Decl) → AreOnce (xs ++ ys) → IsTrue (declares xs x) → IsTrue (declares ys x) → ⊥
        both [] ys once p q = absurd cc
        both (d ∷ xs) ys once p q = by (or_cases (bytes_eq d.name x) (declares xs x) p) (both xs ys once.1)
          where
            by : IsTrue (bytes_eq d.name x) ⊎ IsTrue (declares xs x) → (IsTrue (declares xs x) → IsTrue (declares ys x) → ⊥) → ⊥
            by (inl e) f =
                let h2 : IsTrue (declares ys d.name) = subst (λ z. IsTrue (declares ys z)) (sym (same_bytes d.name x e)) q in
                let e2 : true ≡ false = sym (or_right (declares xs d.name) (declares ys d.name) h2) ∙ sym (declares_append xs ys d.name) ∙ once.0 in absurd cc
            by (inr e) f = f e q

    old_outputs : HaveOwnTypes types none old n.outputs
    old_outputs =
        own_more types none n.outputs ds (inside_node bare n)
        (own_types types none n.outputs (with_variables bare n.inputs) (once_last n.inputs n.outputs scoped.once) (λ x h. not_declared x n.inputs bare (apart x h) ∙ empty_s x))

    old_locals : HaveOwnTypes types none old ds
    old_locals = own_types types none ds (inside_node bare n) own.0 (λ x h. none_here x (false_unless (declares n.inputs x) (λ k. own.1 x h (or_right (declares n.outputs x) (also no_names n.inputs x) (or_left (declares n.inputs x) false k)))) (local_no_output n c names ds es own inner x h))

    new_all : HaveOwnTypes types before new all
    new_all = own_more types before all locals outer outer_all

    new_told : HaveOwnTypes types before new told
    new_told = own_more types before told locals outer outer_told

    outer_none : (x : List ℕ) → IsFalse (also (also (also no_names all) told) [] x) → lookup outer.variables x ≡ None
    outer_none x h = let q = neither (declares told x) (declares all x || false) h in not_declared x told (with_variables r all) q.0 ∙ not_declared x all r (neither (declares all x) false q.1).0 ∙ empty_r x

    new_locals : HaveOwnTypes types before new locals
    new_locals = own_types types before locals outer here.0 (λ x h. outer_none x (false_unless (also (also (also no_names all) told) [] x) (λ k. here.1 x h k)))

    -- ---- the two places

    place : Place types before same_name old new lasts_old lasts_new seen (also no_names ds) after
    place = record {
      grows = grows_more types before ds locals (inside_node bare n) outer (grows_more types before n.outputs told (with_variables bare n.inputs) (with_variables r all) (grows_more types before n.inputs all bare r grows));
      names = λ x t h. kept x t h (declares ds x) refl (declares n.outputs x) refl (declares n.inputs x) refl;
      lasting = λ x h. lasts_own locals (lasts_in told no_lasts) x here.0 (last_append ds n.outputs x (lasting x (lasts_cases ds (lasts_in n.outputs no_lasts) x h)));
      last_seen = λ x h. ⊎_elim (λ k. or_left (declares ds x) (interface n x) (last_known ds x k)) (λ k. or_right (declares ds x) (interface n x) (or_left (declares n.outputs x) (also no_names n.inputs x) (last_known n.outputs x k)))
          (lasting x (lasts_cases ds (lasts_in n.outputs no_lasts) x h));
      own_seen = λ x h. ⊎_elim (λ k. or_left (declares ds x) (interface n x) k) (λ k. absurd cc) (or_cases (declares ds x) false h);
      known = λ x h. ⊎_elim (λ k. declared_type types none old ds x old_locals k)
          (λ k. ⊎_elim (λ l. declared_type types none old n.outputs x old_outputs l) (λ l. ⊎_elim (λ m. declared_type types none old n.inputs x old_inputs m) (λ m. absurd cc) (or_cases (declares n.inputs x) false l)) (or_cases (declares n.outputs x) (also no_names n.inputs x) k))
          (or_cases (declares ds x) (interface n x) h);
      unknown = λ x h.
          let p = neither (declares ds x) (interface n x) h in
          let q = neither (declares n.outputs x) (declares n.inputs x || false) p.1 in
          not_declared x ds (inside_node bare n) p.0 ∙ none_here x (neither (declares n.inputs x) false q.1).0 q.0;
      none = λ x h. let p = neither (declares locals x) (also (also (also no_names all) told) [] x) h in not_declared x locals outer p.0 ∙ outer_none x p.1;
    }
      where
        lasting : (x : List ℕ) → IsTrue (last_among ds x) ⊎ IsTrue (lasts_in n.outputs no_lasts x) → IsTrue (last_among ds x) ⊎ IsTrue (last_among n.outputs x)
        lasting x (inl h) = inl h
        lasting x (inr h) = ⊎_elim (λ k. inr k) (λ k. absurd cc) (lasts_cases n.outputs no_lasts x h)

        kept : (x : List ℕ) (t : Ty) → lookup old.variables x ≡ Some t → (a : Bool) → declares ds x ≡ a → (b : Bool) → declares n.outputs x ≡ b → (d : Bool) → declares n.inputs x ≡ d → lookup new.variables x ≡ Some t
        kept x t h true p b q d e = both_types types none before old new ds x t old_locals (own_first types before ds n.outputs new new_locals) p h
        kept x t h false p true q d e = both_types types none before old new n.outputs x t old_outputs (own_last types before ds n.outputs new new_locals) q h
        kept x t h false p false q true e = both_types types none before old new n.inputs x t old_inputs (own_first types before n.inputs (inputs_for 0 n.outputs) new new_all) e h
        kept x t h false p false q false e = let no : lookup old.variables x ≡ None = not_declared x ds (inside_node bare n) p ∙ none_here x e q in absurd cc

    -- ---- the equations

    same_scope : old ≡ to types among none [] (with_variables (inside_node s n) ds)
    same_scope =
        ap (λ z. with_variables (with_variables z n.outputs) ds) (to_more types among none [] n.inputs s) ∙ ap (λ z. with_variables z ds) (to_more types among none [] n.outputs (with_variables s n.inputs))
        ∙ to_more types among none [] ds (inside_node s n)

    wider : Grounds types r → Wider types among before (with_variables (inside_node s n) ds) new
    wider g = record {
      grows = subst (λ z. Grows types before z new) same_scope place.grows;
      names = subst (λ z. (x : List ℕ) → KeptName z new x x) same_scope place.names;
      ground = grounds_more types locals outer (grounds_more types told (with_variables r all) (grounds_more types all r g));
    }

    condition_sound : (o : Option Expr) (at : Span) (y : List ℕ) → lookup new.variables y ≡ Some ty.Bool → ToldCallsNothing o → ToldSound types among (with_variables (inside_node s n) ds) lasts_old o → RightSound types before new lasts_new ((y, at) ∷ []) (condition_of o at)
    condition_sound None at y q a h = ((λ t e. constants (const.B true) t e), (ty.Bool, (refl, (q, tt))))
    condition_sound (Some e) at y q a h =
        let bared = test_to types among none [] (with_variables (inside_node s n) ds) lasts_old e a h in
        let moved = test_moved types before old new place.grows none same_name lasts_old lasts_new place.names place.lasting e (subst (λ z. TestSound types none z lasts_old e) (sym same_scope) bared) in
        told_right types before new lasts_new y at q e a (subst (λ z. TestSound types before new lasts_new z) (itself e) moved)

    handed_sound : (i : ℕ) (os : List Decl) → HaveOwnTypes types before new os → HaveOwnTypes types before new (inputs_for i os) → EqnsSound types before new lasts_new (eqns_of (all_handed_on i os))
    handed_sound i [] p q = tt
    handed_sound i (d ∷ os) p q = ((tt, (d.ty, (q.0, (p.0, tt)))), handed_sound (i + 1) os p.1 q.1)

    body_sound : Firsts types before n.outputs → EqnsCallNothing es → ToldCallsNothing c.assume → ToldCallsNothing c.enforce → BlockSound types among (inside_node s n) (lasts_in n.outputs no_lasts) (block ds es)
        → ToldSound types among (with_variables (inside_node s n) ds) lasts_old c.assume → ToldSound types among (with_variables (inside_node s n) ds) lasts_old c.enforce → BlockSound types before outer (lasts_in told no_lasts) (block locals eqns)
    body_sound firsts a a1 a2 h h1 h2 =
        let bared : EqnsSound types none old lasts_old es = subst (λ z. EqnsSound types none z lasts_old es) (sym same_scope) (eqns_to types among none [] es (with_variables (inside_node s n) ds) lasts_old a h.1.1) in (
          decls_sound types before new eqns locals new_locals here.2 (both_firsts types before ds n.outputs (firsts_of types before among (with_variables (inside_node s n) ds) es ds h.0) firsts),
          (
            others,
            sound_behind types before new lasts_new es (lines_of n c) (eqns_moved types before none (also (also no_names told) locals) place es es (eqns_said es) own.3 (scoped_front after (also (also no_names told) locals) es (lines_of n c) here.3) bared)
                (condition_sound c.assume c.span assumed new_told.0 a1 h1, (condition_sound c.enforce c.span enforced new_told.1.0 a2 h2, handed_sound 0 n.outputs (own_last types before ds n.outputs new new_locals) (own_last types before n.inputs (inputs_for 0 n.outputs) new new_all))),
          ),
        )
      where
        others : OthersKnown types before (block locals eqns) outer
        others x h k =
            let o = some_owned x after (also (also no_names told) locals) eqns here.3 h in
            ⊎_elim (λ l. absurd (let e : true ≡ false = sym l ∙ k in cc)) (λ l. ⊎_elim (λ m. declared_type types before outer told x outer_told m) (λ m. absurd cc) (or_cases (declares told x) false l)) (or_cases (declares locals x) (declares told x || false) o)

    sound_front : (more : List Eqn) (qs : Eqns) → EqnsSound types before new lasts_new (eqns_of (list_of_eqns qs ++ more)) → EqnsSound types before new lasts_new qs
    sound_front more no_eqn k = tt
    sound_front more (more_eqns q qs) k = (k.0, sound_front more qs k.1)

    -- ---- the scope of the contract within that of its observer

    pub old_names : (x : List ℕ) → KeptName old new x x
    old_names = place.names

    pub old_grows : Grows types before old new
    old_grows = place.grows

    pub old_scope : old ≡ to types among none [] (with_variables (inside_node s n) ds)
    old_scope = same_scope

    pub front_sound : EqnsSound types before new lasts_new eqns → EqnsSound types before new lasts_new es
    front_sound k = sound_front (lines_of n c) es k

    body_fits : Grounds types r → AllBase n.outputs → EqnsCallNothing es → BlockDrawable (inside_node s n) (block ds es) → BlockApart (block ds es) → ConditionApart c.assume → ConditionApart c.enforce → BlockSound types among (inside_node s n) (lasts_in n.outputs no_lasts) (block ds es)
        → BlockSound types before outer (lasts_in told no_lasts) (block locals eqns) → BlockFits types outer (block locals eqns)
    body_fits g base a d p pa pe h k =
        let here = with_variables (inside_node s n) ds in
        let w = wider g in (
          decls_fit_both types new ds n.outputs (decls_fit types among before here new w ds d.1.0) (outputs_fit types new n.outputs base),
          fit_behind types new es (lines_of n c) (eqns_fit types among before es here new lasts_old lasts_new w a d.1.1 p h.1.1 (sound_front (lines_of n c) es k.1.1))
              (told_apart c.assume c.span pa, (told_apart c.enforce c.span pe, handed_fit types new 0 n.outputs)),
        )

    told_had : AreDefined told eqns → HaveEquations types before (block locals eqns) told
    told_had f = ((both_true (some_defines eqns assumed) (declares locals assumed) (f assumed refl) (no_local assumed assumed_not_other), tt), ((both_true (some_defines eqns enforced) (declares locals enforced) (f enforced refl) (no_local enforced enforced_not_other), tt), tt))
      where
        no_local : (y : List ℕ) → (IsOther y → ⊥) → declares (ds ++ n.outputs) y ≡ false
        no_local y f = declares_append ds n.outputs y ∙ ap₂ (λ a b. a || b) (none_declared ds y inner.0 f) (none_declared n.outputs y (outputs_other n c names) f)

  all_sound : (b : Block) → BlockScoped (interface n) no_names b → BlockNames IsOther b → BlockScoped (also (also (also no_names all) told) []) (also no_names told) (with_lines b n.outputs (lines_of n c)) → AreDefined told (equations_of (with_lines b n.outputs (lines_of n c)))
      → Firsts types before n.outputs → BlockCallsNothing b → ToldCallsNothing c.assume → ToldCallsNothing c.enforce → BlockSound types among (inside_node s n) (lasts_in n.outputs no_lasts) b
      → ToldSound types among (inside (inside_node s n) b) (lasts_of b (lasts_in n.outputs no_lasts)) c.assume → ToldSound types among (inside (inside_node s n) b) (lasts_of b (lasts_in n.outputs no_lasts)) c.enforce
      → HaveEquations types before (with_lines b n.outputs (lines_of n c)) told × BlockSound types before outer (lasts_in told no_lasts) (with_lines b n.outputs (lines_of n c))
  all_sound (block ds es) own inner here defined firsts a a1 a2 h h1 h2 = (told_had ds es own inner here defined, body_sound ds es own inner here firsts a a1 a2 h h1 h2)

  pub observer_sound : n.contract ≡ Some c → ContractNames IsOther n.contract → ContractCallsNothing n.contract → NodeSound types among s n → NodeSound types before r (observer_of n c)
  observer_sound e inner alone h =
      let a : ContractCallsNothing (Some c) = subst ContractCallsNothing e alone in
      let k : ContractSound types among (inside_node s n) (lasts_in n.outputs no_lasts) (Some c) = subst (ContractSound types among (inside_node s n) (lasts_in n.outputs no_lasts)) e h.1.1.1.1.1 in
      let body =
      all_sound c.body (subst (ContractScoped (interface n)) e scoped.contract) (subst (ContractNames IsOther) e inner) there.body there.outputs (firsts_had types before among n.body n.outputs h.1.1.1.0) a.0 a.1 a.2 k.0 k.1.0 k.1.1 in
      ((outer_all, outer_told), ((outer_all, outer_told), (tt, (body.0, (body.1, tt)))))

  all_fits : (b : Block) → BlockScoped (interface n) no_names b → BlockNames IsOther b → BlockScoped (also (also (also no_names all) told) []) (also no_names told) (with_lines b n.outputs (lines_of n c)) → Grounds types r → AllBase n.outputs → BlockCallsNothing b → BlockDrawable (inside_node s n) b → BlockApart b
      → ConditionApart c.assume → ConditionApart c.enforce → BlockSound types among (inside_node s n) (lasts_in n.outputs no_lasts) b → BlockSound types before outer (lasts_in told no_lasts) (with_lines b n.outputs (lines_of n c)) → BlockFits types outer (with_lines b n.outputs (lines_of n c))
  all_fits (block ds es) own inner here g base a d p pa pe h k = body_fits ds es own inner here g base a d p pa pe h k

  -- and its tests fit
  pub observer_fits : n.contract ≡ Some c → ContractNames IsOther n.contract → ContractCallsNothing n.contract → AllBase n.outputs → Grounds types r → ContractDrawable (inside_node s n) n.contract → ContractApart n.contract → NodeSound types among s n → NodeFits types r (observer_of n c)
  observer_fits e inner alone base g drawn apart h =
      let a : ContractCallsNothing (Some c) = subst ContractCallsNothing e alone in
      let k : ContractSound types among (inside_node s n) (lasts_in n.outputs no_lasts) (Some c) = subst (ContractSound types among (inside_node s n) (lasts_in n.outputs no_lasts)) e h.1.1.1.1.1 in
      let p : ContractApart (Some c) = subst ContractApart e apart in
      let own = observer_sound e inner alone h in
      all_fits c.body (subst (ContractScoped (interface n)) e scoped.contract) (subst (ContractNames IsOther) e inner) there.body g base a.0 (subst (ContractDrawable (inside_node s n)) e drawn) p.0 p.1.0 p.1.1 k.0 own.1.1.1.1.0
