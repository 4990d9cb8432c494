-- The events that are made of a node without automata bring the free places that its comparisons and calls bring.
use Rattle.std.proofs.Common.{◌≡◌, ℕ, Bool, true, false, if◌then◌else◌, List, [], ◌∷◌, ◌++◌, Option, None, Some, refl, sym, ap, subst, ◌∙◌}
use Rattle.std.proofs.lemmas.List.{append-nil}
use Rattle.hp_base.specs.declared.span.Span.{Span}
use Rattle.hp_base.specs.declared.ty.Ty.{Ty}
use Rattle.hp_base.specs.declared.ty.Ty.TheVariants as ty
use Rattle.hp_base.specs.Known.Known.{lookup}
use Rattle.hp_tree.specs.Blocks.{Decl, Block, block, Eqns, no_eqn, more_eqns, Eqn, define, switch, reset, automaton, Arms, no_arm, more_arms}
use Rattle.hp_tree.specs.Expressions.{Expr, constant, variable, last_of, one, two, choose, pre, fby, arrow, when_is, merge, call}
use Rattle.hp_tree.specs.Meaning.{controls_of}
use Rattle.hp_tree.specs.Programs.{Node, TypeDecl}
use Rattle.hp_typing.specs.Scopes.{inside_node, with_variables}
use Rattle.hp_typing.specs.Types.{type_of, types_in}
use Rattle.law_judged.specs.Typed.Scopes.{Scope}
use Rattle.law_values.specs.Valued.Judged.{Lasts, ArmsSound, BlockSound, EqnSound, EqnsSound, NodeSound, RightSound, body_scope, lasts_in, no_lasts}
use Rattle.law_values.proofs.ValuedLemmas.Typed.{row_typed}
use Rattle.law_automata.specs.Lowered.Standing.{Along}
use Rattle.law_equations.specs.Flattened.Flatten.{is_false}
use Rattle.law_equations.specs.Made.Making.{Known, Sketch, Site, Sight, Standing, Body, Inner, base_site, bind_all, bind_outputs, block_layer, called_at, cons_number, declared, each_once, enter_path, hidden, in_block, is_in, link_all, names_of_arms, names_of_block, names_of_eqns, no_entry, nothing_made, on_site, or_entry, outputs_of, over, own_names, path_for, remember_all, restart_site, signed, sketch_arms, sketch_block, sketch_eqn, sketch_eqns, sketch_expr, sketch_exprs, sketch_node, sketch_right, unknown, with_flag}
use Rattle.law_wellmade.proofs.BegunLemmas.BlockRegisters.{around_sees, declared_types, grounded_more, layer_sees}
use Rattle.law_wellmade.proofs.BegunLemmas.Typing.{Grounded, SeesTypes, args_have}
use Rattle.law_choices.proofs.BroughtLemmas.Brought.{Brings, brought, brought_in_all, brought_in_arms, brought_in_block, brought_in_eqn, brought_in_eqns}
use Rattle.law_choices.specs.Places.Laws.{events}
use Rattle.law_choices.proofs.BroughtLemmas.Adding.{Adding, adding-as, adding-bind-all, adding-bind-outputs, adding-lasts, adding-links, adding-names, adding-none, adding-path, adding-signed, adding-two, brought-as, keeps-same}
use Rattle.law_choices.proofs.BroughtLemmas.Expressions.{brings-call, expr-brings, exprs-bring, false-none}

module _ (given : List ℕ → List Ty) (k : Known) (types : List TypeDecl) (among : List ℕ → Option Node) where
  abbrev To : Sketch → Sketch → List (List Ty) → Type 0
  To d e ls = Adding given k d e ls

  -- without an event behind
  then-none : (d e f : Sketch) (ls : List (List Ty)) → To d e ls → To e f [] → To d f ls
  then-none d e f ls a b = brought-as given k d f (ls ++ []) ls (append-nil ls) (adding-two given k d e f ls [] a b)

  -- ---- definitions

  module _ (s : Scope) (lasts : Lasts) (see : Sight) (ground : Grounded k s) (sees : SeesTypes k s see) where
    plain-right : (e : Expr) (t : Ty) (at : Site) (ys : List (List ℕ × Span)) (d : Sketch) → type_of s e ≡ Some t → To d (let x = sketch_expr k see at e d in bind_all see at ys x.1 x.0) (brought given s e)
    plain-right e t at ys d h =
        let x = sketch_expr k see at e d in
        then-none d x.0 (bind_all see at ys x.1 x.0) (brought given s e) (expr-brings given k s see ground sees e t at d h) (adding-bind-all given k see at ys x.1 x.0)

    right-brings : (e : Expr) (at : Site) (ys : List (List ℕ × Span)) (d : Sketch) → RightSound types among s lasts ys e → To d (sketch_right k see at ys e d) (brought given s e)
    right-brings (constant a c) at ys d ok = plain-right (constant a c) ok.1.0 at ys d ok.1.1.0
    right-brings (variable a x) at ys d ok = plain-right (variable a x) ok.1.0 at ys d ok.1.1.0
    right-brings (last_of a x) at ys d ok = plain-right (last_of a x) ok.1.0 at ys d ok.1.1.0
    right-brings (one a o b) at ys d ok = plain-right (one a o b) ok.1.0 at ys d ok.1.1.0
    right-brings (two a o b c) at ys d ok = plain-right (two a o b c) ok.1.0 at ys d ok.1.1.0
    right-brings (choose a b c e) at ys d ok = plain-right (choose a b c e) ok.1.0 at ys d ok.1.1.0
    right-brings (pre a b) at ys d ok = plain-right (pre a b) ok.1.0 at ys d ok.1.1.0
    right-brings (fby a b c) at ys d ok = plain-right (fby a b c) ok.1.0 at ys d ok.1.1.0
    right-brings (arrow a b c) at ys d ok = plain-right (arrow a b c) ok.1.0 at ys d ok.1.1.0
    right-brings (when_is a b c x) at ys d ok = plain-right (when_is a b c x) ok.1.0 at ys d ok.1.1.0
    right-brings (merge a x ps) at ys d ok = plain-right (merge a x ps) ok.1.0 at ys d ok.1.1.0
    right-brings (call a f i es) at ys d ok =
        let q = row_typed (lookup s.nodes f) (types_in s es) ok.1.0 ok.1.1.0 in
        let args = sketch_exprs k see at es d in
        let os = outputs_of (k.nodes f) in
        let c = called_at k at f args.1 os args.0 in
        let ls = brought_in_all given s es ++ given f ∷ [] in
        then-none d c.0 (bind_outputs see at ys c.1 os c.0) ls
        (adding-two given k d args.0 c.0 (brought_in_all given s es) (given f ∷ []) (exprs-bring given k s see ground sees es at d (args_have s q.0.inputs es q.2)) (brings-call given k at f args.1 args.0))
        (adding-bind-outputs given k see at ys c.1 os c.0)

  -- ---- blocks

  layer-adds : (standing : Standing) (out : Sight) (at : Site) (ds : List Decl) (names : List (List ℕ)) (d : Sketch) → To d (block_layer k standing out at ds names d).1 []
  layer-adds standing out at ds names d =
      let s = own_names standing ds out names (declared k ds out, d) in
      then-none d s.1 (remember_all k at out ds s).1 [] (adding-names given k standing ds out names (declared k ds out, d)) (adding-lasts given k at out ds s)

  hidden-sees : (s : Scope) (names : List (List ℕ)) (see : Sight) → SeesTypes k s see → SeesTypes k s (over (hidden names see) see)
  hidden-sees s names see h x t e = by (is_in names x) ∙ h x t e
    where
      by : (b : Bool) → (or_entry (if b then Some (record { ty = (see x).ty; value = (see x).last; last = (see x).last; is_local = false }) else None) (see x)).ty ≡ (see x).ty
      by true = refl
      by false = refl

  abbrev OfBlock : Block → Type 0
  OfBlock b =
      (standing : Standing) (s : Scope) (lasts : Lasts) (out : Sight) (at : Site) (d : Sketch) → Grounded k s → SeesTypes k s out → BlockSound types among s lasts b → To d (sketch_block k standing out at b d).1 (brought_in_block given s b)

  reset-brings : (b : Block) (e : Expr) → OfBlock b → (s : Scope) (lasts : Lasts) (see : Sight) (at : Site) (d : Sketch) → Grounded k s → SeesTypes k s see → type_of s e ≡ Some ty.Bool → BlockSound types among s lasts b → (c : Bool) → is_false e ≡ c
      → (let names = each_once [] (names_of_block b) in
      To d
      (if c
      then (let m = sketch_block k Inner (over (hidden names see) see) at b d in link_all see at m.0 names m.1)
      else (let t = sketch_expr k see at e d in
      let m = sketch_block k Inner (over (hidden names see) see) (in_block (restart_site at t.1)) b (with_flag None t.0) in
      link_all see at m.0 names (with_flag t.0.flag m.1)))
      (brought given s e ++ brought_in_block given s b))
  reset-brings b e hb s lasts see at d ground sees h ok true is =
      let names = each_once [] (names_of_block b) in
      let inside = over (hidden names see) see in
      let m = sketch_block k Inner inside at b d in
      let ls = brought_in_block given s b in
      brought-as given k d (link_all see at m.0 names m.1) ls (brought given s e ++ ls) (ap (λ ms. ms ++ ls) (sym (false-none given s e is)))
      (then-none d m.1 (link_all see at m.0 names m.1) ls (hb Inner s lasts inside at d ground (hidden-sees s names see sees) ok) (adding-links given k see at m.0 names m.1))
  reset-brings b e hb s lasts see at d ground sees h ok false is =
      let names = each_once [] (names_of_block b) in
      let inside = over (hidden names see) see in
      let t = sketch_expr k see at e d in
      let u = with_flag None t.0 in
      let m = sketch_block k Inner inside (in_block (restart_site at t.1)) b u in
      let v = with_flag t.0.flag m.1 in
      let ls = brought given s e ++ brought_in_block given s b in
      then-none d v (link_all see at m.0 names v) ls
      (adding-as given k d m.1 v ls refl refl
      (adding-two given k d u m.1 (brought given s e) (brought_in_block given s b) (adding-as given k d t.0 u (brought given s e) refl refl (expr-brings given k s see ground sees e ty.Bool at d h))
      (hb Inner s lasts inside (in_block (restart_site at t.1)) u ground (hidden-sees s names see sees) ok)))
      (adding-links given k see at m.0 names v)

  mutual
    block-brings : (b : Block) → OfBlock b
    block-brings (block ds es) standing s lasts out at d ground sees ok =
        let names = each_once [] (names_of_eqns es) in
        let m = block_layer k standing out at ds names d in
        let inner = with_variables s ds in
        adding-two given k d m.1 (sketch_eqns k (over m.0 out) at ds es m.1) [] (brought_in_eqns given inner es) (layer-adds standing out at ds names d)
        (eqns-bring es inner (lasts_in ds lasts) (over m.0 out) at ds m.1 (grounded_more k ds s ground) (layer_sees k standing out at ds names d s (declared_types types among inner es ds ok.0) sees) ok.1.1)

    eqns-bring : (es : Eqns) (s : Scope) (lasts : Lasts) (see : Sight) (at : Site) (ds : List Decl) (d : Sketch) → Grounded k s → SeesTypes k s see → EqnsSound types among s lasts es → To d (sketch_eqns k see at ds es d) (brought_in_eqns given s es)
    eqns-bring no_eqn s lasts see at ds d ground sees ok = adding-none given k d d refl (keeps-same d)
    eqns-bring (more_eqns e es) s lasts see at ds d ground sees ok =
        let x = sketch_eqn k see at ds e d in
        adding-two given k d x (sketch_eqns k see at ds es x) (brought_in_eqn given s e) (brought_in_eqns given s es) (eqn-brings e s lasts see at ds d ground sees ok.0) (eqns-bring es s lasts see at ds x ground sees ok.1)

    eqn-brings : (e : Eqn) (s : Scope) (lasts : Lasts) (see : Sight) (at : Site) (ds : List Decl) (d : Sketch) → Grounded k s → SeesTypes k s see → EqnSound types among s lasts e → To d (sketch_eqn k see at ds e d) (brought_in_eqn given s e)
    eqn-brings (define a ys e) s lasts see at ds d ground sees ok =
        let p = enter_path k see (path_for ds ys e) at d in
        adding-two given k d p.1 (sketch_right k see p.0 ys e p.1) [] (brought given s e) (adding-path given k see (path_for ds ys e) at d) (right-brings s lasts see ground sees e p.0 ys p.1 ok)
    eqn-brings (switch a e arms) s lasts see at ds d ground sees ok =
        let names = each_once [] (names_of_arms arms) in
        let inside = over (hidden names see) see in
        let t = sketch_expr k see at e d in
        adding-two given k d t.0 (sketch_arms k see inside at names t.1 arms t.0) (brought given s e) (brought_in_arms given s arms) (expr-brings given k s see ground sees e ok.1.0.0 at d ok.1.0.1.0)
        (arms-bring arms (switch a e arms) s lasts see inside at names t.1 t.0 ground (hidden-sees s names see sees) ok.1.1)
    eqn-brings (reset a b e) s lasts see at ds d ground sees ok = reset-brings b e (block-brings b) s lasts see at d ground sees ok.0.1 ok.1 (is_false e) refl
    eqn-brings (automaton a ss) s lasts see at ds d ground sees ok = adding-none given k d d refl (keeps-same d)

    arms-bring : (arms : Arms) (e : Eqn) (s : Scope) (lasts : Lasts) (see inside : Sight) (at : Site) (names : List (List ℕ)) (t : ℕ) (d : Sketch) → Grounded k s → SeesTypes k s inside → ArmsSound types among e s lasts arms
        → To d (sketch_arms k see inside at names t arms d) (brought_in_arms given s arms)
    arms-bring no_arm e s lasts see inside at names t d ground sees ok = adding-none given k d d refl (keeps-same d)
    arms-bring (more_arms c b a arms) e s lasts see inside at names t d ground sees ok =
        let on = on_site at t (cons_number k c) in
        let u = with_flag None d in
        let m = sketch_block k Inner inside (in_block on) b u in
        let l = link_all see on m.0 names m.1 in
        let v = with_flag d.flag l in
        let ls = brought_in_block given s b in
        adding-two given k d v (sketch_arms k see inside at names t arms v) ls (brought_in_arms given s arms)
        (adding-as given k d l v ls refl refl
        (then-none d m.1 l ls
        (adding-two given k d u m.1 [] ls (adding-as given k d d u [] refl refl (adding-none given k d d refl (keeps-same d))) (block-brings b Inner s lasts inside (in_block on) u ground sees ok.1.0))
        (adding-links given k see on m.0 names m.1)))
        (arms-bring arms e s lasts see inside at names t v ground sees ok.1.1)

  -- ---- nodes

  -- the events of a node that is sound bring what its body brings
  pub node-brings : (s : Scope) (n : Node) → s.variables ≡ [] → Grounded k s → NodeSound types among s n → Along (Brings given k (sketch_node k n)) (events (sketch_node k n).eqns) (brought_in_block given (body_scope s n) n.body)
  node-brings s n e ground ok =
      let a = signed k n.inputs (no_entry, nothing_made) in
      let b = signed k (controls_of n.contract) a in
      let c = signed k n.outputs b in
      let m = remember_all k base_site unknown n.outputs c in
      let ls = brought_in_block given (body_scope s n) n.body in
      let whole : To nothing_made (sketch_node k n) ls =
      adding-two given k nothing_made m.1 (sketch_node k n) [] ls
      (then-none nothing_made c.1 m.1 []
      (then-none nothing_made b.1 c.1 [] (then-none nothing_made a.1 b.1 [] (adding-signed given k n.inputs (no_entry, nothing_made)) (adding-signed given k (controls_of n.contract) a)) (adding-signed given k n.outputs b))
      (adding-lasts given k base_site unknown n.outputs c))
      (block-brings n.body Body (body_scope s n) (lasts_in n.outputs no_lasts) (over m.0 unknown) base_site m.1
      (grounded_more k (controls_of n.contract) (inside_node s n) (grounded_more k n.outputs (with_variables s n.inputs) (grounded_more k n.inputs s ground)))
      (around_sees k types among s n e ok) ok.1.1.1.1.0) in
      subst (λ es. Along (Brings given k (sketch_node k n)) (events es) ls) (sym whole.eqns) whole.events
