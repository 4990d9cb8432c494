-- So it is for the blocks of a node, and for the node.
use Rattle.std.proofs.Common.{ℕ, ◌≤◌, ◌^◌, Bool, true, false, if◌then◌else◌, List, [], ◌∷◌, ◌++◌, length, Option, None, Some, refl}
use Rattle.std.specs.Prelude.{codes}
use Rattle.std.specs.List.{AllByRecursion}
use Rattle.std.specs.Str.{bytes_eq}
use Rattle.hp_base.specs.declared.span.Span.{Span}
use Rattle.hp_base.specs.declared.ty.Const.{Const}
use Rattle.hp_tree.specs.declared.program.Item.{Item}
use Rattle.hp_tree.specs.declared.program.Item.TheVariants.{TypeItem, NodeItem}
use Rattle.hp_tree.specs.Blocks.{Decl, Block, block, Eqns, no_eqn, more_eqns, Eqn, define, switch, reset, automaton, Arms, no_arm, more_arms, States, no_state, more_states}
use Rattle.hp_tree.specs.Programs.{Contract, Node}
use Rattle.hp_tree.specs.Meaning.{declares, controls_of}
use Rattle.hp_flat.specs.declared.node.FlatTy.{FlatTy}
use Rattle.law_equations.specs.Flattened.Flatten.{is_false}
use Rattle.law_equations.specs.Followed.Premises.{names}
use Rattle.hp_tables.specs.Defining.Names.{names_of_states}
use Rattle.law_equations.specs.Made.Making.{Known, Sketch, Made, Site, Sight, Layer, Seen, Standing, Body, Inner, next, no_entry, nothing_made, unknown, base_site, with_variable, with_new, put, keeps_name, own_variable, with_own, own_name, own_names, flat_type, signed, signature, outputs_of, cons_number, on_site, restart_site, in_block, with_flag, over, hidden, given_by, bind, link_all, left_names, undeclared, names_of_eqns, names_of_eqn, names_of_arms, names_of_block, is_in, each_once, declared, remember, remember_all, block_layer, sketch_expr, sketch_block, sketch_eqns, sketch_eqn, sketch_arms, sketch_node}
use Rattle.law_judged.specs.Named.Scoped.{EachNode}
use Rattle.hp_complete.specs.Declaring.{with_node, with_nodes, known_of}
use Rattle.law_wellmade.specs.Lettered.Names.{DeclsSpelled, LeftsSpelled, BlockSpelled, EqnsSpelled, EqnSpelled, ArmsSpelled, StatesSpelled, ContractSpelled, NodeSpelled, IsName}
use Rattle.law_wellmade.proofs.LetteredLemmas.Sketches.{Lettered, variable-lettered, new-lettered, bind-lettered, expr-lettered, definition-lettered}

-- ---- the names that equations define

both_names : (xs ys : List (List ℕ)) → AllByRecursion IsName xs → AllByRecursion IsName ys → AllByRecursion IsName (xs ++ ys)
both_names [] ys h k = k
both_names (x ∷ xs) ys h k = (h.0, both_names xs ys h.1 k)

left_are : (ys : List (List ℕ × Span)) → LeftsSpelled IsName ys → AllByRecursion IsName (left_names ys)
left_are [] h = tt
left_are (y ∷ ys) h = (h.0, left_are ys h.1)

undeclared_are : (ds : List Decl) (xs : List (List ℕ)) → AllByRecursion IsName xs → AllByRecursion IsName (undeclared ds xs)
undeclared_are ds [] h = tt
undeclared_are ds (x ∷ xs) h = by (declares ds x) (undeclared_are ds xs h.1)
  where
    by : (b : Bool) → AllByRecursion IsName (undeclared ds xs) → AllByRecursion IsName (if b then undeclared ds xs else x ∷ undeclared ds xs)
    by true k = k
    by false k = (h.0, k)

once_are : (seen xs : List (List ℕ)) → AllByRecursion IsName xs → AllByRecursion IsName (each_once seen xs)
once_are seen [] h = tt
once_are seen (x ∷ xs) h = by (is_in seen x) (once_are seen xs h.1) (once_are (x ∷ seen) xs h.1)
  where
    by : (b : Bool) → AllByRecursion IsName (each_once seen xs) → AllByRecursion IsName (each_once (x ∷ seen) xs) → AllByRecursion IsName (if b then each_once seen xs else x ∷ each_once (x ∷ seen) xs)
    by true k l = k
    by false k l = (h.0, l)

mutual
  eqns_are : (es : Eqns) → EqnsSpelled IsName es → AllByRecursion IsName (names_of_eqns es)
  eqns_are no_eqn h = tt
  eqns_are (more_eqns e es) h = both_names (names_of_eqn e) (names_of_eqns es) (eqn_are e h.0) (eqns_are es h.1)

  eqn_are : (e : Eqn) → EqnSpelled IsName e → AllByRecursion IsName (names_of_eqn e)
  eqn_are (define s ys e) h = left_are ys h
  eqn_are (switch s e arms) h = arms_are arms h
  eqn_are (reset s b e) h = block_are b h
  eqn_are (automaton s ss) h = states_are ss h

  arms_are : (arms : Arms) → ArmsSpelled IsName arms → AllByRecursion IsName (names_of_arms arms)
  arms_are no_arm h = tt
  arms_are (more_arms c b s arms) h = both_names (names_of_block b) (names_of_arms arms) (block_are b h.0) (arms_are arms h.1)

  states_are : (ss : States) → StatesSpelled IsName ss → AllByRecursion IsName (names_of_states ss)
  states_are no_state h = tt
  states_are (more_states f b until unless s ss) h = both_names (names_of_block b) (names_of_states ss) (block_are b h.0) (states_are ss h.1)

  block_are : (b : Block) → BlockSpelled IsName b → AllByRecursion IsName (names_of_block b)
  block_are (block ds es) h = undeclared_are ds (names_of_eqns es) (eqns_are es h.1)

-- ---- blocks

link_lettered : (out : Sight) (at : Site) (own : Layer) (xs : List (List ℕ)) (d : Sketch) → Lettered d → Lettered (link_all out at own xs d)
link_lettered out at own [] d h = h
link_lettered out at own (x ∷ xs) d h =
    link_lettered out at own xs (bind at (out x).value (given_by (own x) (out x)) d) (bind-lettered at (out x).value (given_by (own x) (out x)) d h)

own_lettered : (ds : List Decl) (x : List ℕ) (t : FlatTy) (d : Sketch) → IsName x → Lettered d → Lettered (own_variable Body ds x t d).0
own_lettered ds x t d p h = by (keeps_name ds x)
  where
    made : Bool → Made
    made b = if b then (with_variable x t d, next d) else (with_new x t d, next d)

    by : (b : Bool) → Lettered (made b).0
    by true = variable-lettered x t d (λ l. p) h
    by false = new-lettered x t d p h

one_lettered : (standing : Standing) (ds : List Decl) (out : Sight) (x : List ℕ) (s : Seen) → IsName x → Lettered s.1 → Lettered (own_name standing ds out x s).1
one_lettered Inner ds out x s p h = new-lettered x (over s.0 out x).ty s.1 p h
one_lettered Body ds out x s p h = by (declares ds x)
  where
    there : Bool → Seen
    there b = if b then with_own ds x (over s.0 out x) s.0 (own_variable Body ds x (over s.0 out x).ty s.1) else s

    by : (b : Bool) → Lettered (there b).1
    by true = own_lettered ds x (over s.0 out x).ty s.1 p h
    by false = h

owns_lettered : (standing : Standing) (ds : List Decl) (out : Sight) (xs : List (List ℕ)) (s : Seen) → AllByRecursion IsName xs → Lettered s.1 → Lettered (own_names standing ds out xs s).1
owns_lettered standing ds out [] s p h = h
owns_lettered standing ds out (x ∷ xs) s p h = owns_lettered standing ds out xs (own_name standing ds out x s) p.1 (one_lettered standing ds out x s p.0 h)

either_lettered : (b : Bool) (d e : Sketch) → Lettered d → Lettered e → Lettered (if b then d else e)
either_lettered true d e h g = h
either_lettered false d e h g = g

module _ (k : Known) (known : (f : List ℕ) → DeclsSpelled IsName (outputs_of (k.nodes f))) where
  remember_lettered : (at : Site) (out : Sight) (d : Decl) (c : Option Const) (s : Seen) → Lettered s.1 → Lettered (remember k at out d c s).1
  remember_lettered at out d None s h = h
  remember_lettered at out d (Some c) s h = new-lettered (codes "last") (over s.0 out d.name).ty s.1 refl h

  remember-lettered : (at : Site) (out : Sight) (ds : List Decl) (s : Seen) → Lettered s.1 → Lettered (remember_all k at out ds s).1
  remember-lettered at out [] s h = h
  remember-lettered at out (d ∷ ds) s h = remember-lettered at out ds (remember k at out d d.last s) (remember_lettered at out d d.last s h)

  layer_lettered : (standing : Standing) (out : Sight) (at : Site) (ds : List Decl) (xs : List (List ℕ)) (d : Sketch) → AllByRecursion IsName xs → Lettered d
      → Lettered (block_layer k standing out at ds xs d).1
  layer_lettered standing out at ds xs d p h =
      remember-lettered at out ds (own_names standing ds out xs (declared k ds out, d)) (owns_lettered standing ds out xs (declared k ds out, d) p h)

  mutual
    block_lettered : (standing : Standing) (b : Block) (out : Sight) (at : Site) (d : Sketch) → BlockSpelled IsName b → Lettered d → Lettered (sketch_block k standing out at b d).1
    block_lettered standing (block ds es) out at d p h =
        let xs = each_once [] (names_of_eqns es) in
        let s = block_layer k standing out at ds xs d in
        eqns_lettered es ds (over s.0 out) at s.1 p.1 (layer_lettered standing out at ds xs d (once_are [] (names_of_eqns es) (eqns_are es p.1)) h)

    eqns_lettered : (es : Eqns) (ds : List Decl) (see : Sight) (at : Site) (d : Sketch) → EqnsSpelled IsName es → Lettered d → Lettered (sketch_eqns k see at ds es d)
    eqns_lettered no_eqn ds see at d p h = h
    eqns_lettered (more_eqns e es) ds see at d p h = eqns_lettered es ds see at (sketch_eqn k see at ds e d) p.1 (eqn_lettered e ds see at d p.0 h)

    eqn_lettered : (e : Eqn) (ds : List Decl) (see : Sight) (at : Site) (d : Sketch) → EqnSpelled IsName e → Lettered d → Lettered (sketch_eqn k see at ds e d)
    eqn_lettered (define s ys e) ds see at d p h = definition-lettered k known ds ys e see at d h
    eqn_lettered (switch s e arms) ds see at d p h =
        let xs = each_once [] (names_of_arms arms) in
        let t = sketch_expr k see at e d in
        arms_lettered arms see (over (hidden xs see) see) at xs t.1 t.0 p (expr-lettered k known e see at d h)
    eqn_lettered (reset s b e) ds see at d p h =
        let xs = each_once [] (names_of_block b) in
        let inside = over (hidden xs see) see in
        let m = sketch_block k Inner inside at b d in
        let t = sketch_expr k see at e d in
        let r = sketch_block k Inner inside (in_block (restart_site at t.1)) b (with_flag None t.0) in
        let q = with_flag t.0.flag r.1 in
        either_lettered (is_false e) (link_all see at m.0 xs m.1) (link_all see at r.0 xs q) (link_lettered see at m.0 xs m.1 (block_lettered Inner b inside at d p h))
        (link_lettered see at r.0 xs q (block_lettered Inner b inside (in_block (restart_site at t.1)) (with_flag None t.0) p (expr-lettered k known e see at d h)))
    eqn_lettered (automaton s ss) ds see at d p h = h

    arms_lettered : (arms : Arms) (see inside : Sight) (at : Site) (xs : List (List ℕ)) (t : ℕ) (d : Sketch) → ArmsSpelled IsName arms → Lettered d → Lettered (sketch_arms k see inside at xs t arms d)
    arms_lettered no_arm see inside at xs t d p h = h
    arms_lettered (more_arms c b s arms) see inside at xs t d p h =
        let on = on_site at t (cons_number k c) in
        let m = sketch_block k Inner inside (in_block on) b (with_flag None d) in
        arms_lettered arms see inside at xs t (with_flag d.flag (link_all see on m.0 xs m.1)) p.1
        (link_lettered see on m.0 xs m.1 (block_lettered Inner b inside (in_block on) (with_flag None d) p.0 h))

  -- ---- nodes

  signed_lettered : (ds : List Decl) (s : Seen) → DeclsSpelled IsName ds → Lettered s.1 → Lettered (signed k ds s).1
  signed_lettered [] s p h = h
  signed_lettered (d ∷ ds) s p h =
      signed_lettered ds
      (put d.name (record { ty = flat_type k.types d.ty; value = Some (next s.1); last = None; is_local = true }) s.0, with_variable d.name (flat_type k.types d.ty) s.1) p.1
      (variable-lettered d.name (flat_type k.types d.ty) s.1 (λ l. p.0) h)

  controls_spelled : (o : Option Contract) → ContractSpelled IsName o → DeclsSpelled IsName (controls_of o)
  controls_spelled None h = tt
  controls_spelled (Some c) h = h.0

  signature_lettered : (n : Node) → NodeSpelled IsName n → Lettered (signature k n).1
  signature_lettered n p =
      let none : Seen = (no_entry, nothing_made) in
      let ins = signed k n.inputs none in
      let mids = signed k (controls_of n.contract) ins in
      signed_lettered n.outputs mids p.1.1.0
      (signed_lettered (controls_of n.contract) ins (controls_spelled n.contract p.1.1.1.0) (signed_lettered n.inputs none p.1.0 (λ l. tt)))

  pub node_lettered : (n : Node) → NodeSpelled IsName n → length (sketch_node k n).variables ≤ 2 ^ 64 → AllByRecursion IsName (names (sketch_node k n).variables)
  node_lettered n p =
      let s = signature k n in
      let r = remember_all k base_site unknown n.outputs s in
      block_lettered Body n.body (over r.0 unknown) base_site r.1 p.1.1.1.1 (remember-lettered base_site unknown n.outputs s (signature_lettered n p))

-- ---- what is known of the nodes of a program

behind_known : (before : List ℕ → Option Node) (items : List Item) → ((f : List ℕ) → DeclsSpelled IsName (outputs_of (before f))) → EachNode (NodeSpelled IsName) items
    → (f : List ℕ) → DeclsSpelled IsName (outputs_of (with_nodes before items f))
behind_known before [] h p f = h f
behind_known before (TypeItem t ∷ items) h p f = behind_known before items h p f
behind_known before (NodeItem n ∷ items) h p f = behind_known (with_node before (NodeItem n)) items (λ g. by g (bytes_eq n.name g)) p.1 f
  where
    by : (g : List ℕ) (b : Bool) → DeclsSpelled IsName (outputs_of (if b then Some n else before g))
    by g true = p.0.1.1.0
    by g false = h g

pub program_known : (items : List Item) → EachNode (NodeSpelled IsName) items → (f : List ℕ) → DeclsSpelled IsName (outputs_of ((known_of items).nodes f))
program_known items p f = behind_known (λ g. None) items (λ g. tt) p f
