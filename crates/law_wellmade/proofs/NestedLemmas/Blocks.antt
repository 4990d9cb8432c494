-- The equations of a block: the clock of the block has a step for each level of arms around it.
use Rattle.std.proofs.Common.{◌≡◌, ℕ, suc, ◌+◌, ◌≤◌, max, Bool, true, false, if◌then◌else◌, List, [], ◌∷◌, ◌++◌, length, Option, None, Some, refl, sym, subst, ◌∙◌, arith}
use Rattle.std.specs.List.{AllByRecursion}
use Rattle.std.proofs.lemmas.List.{length-append}
use Rattle.hp_tree.specs.Blocks.{Decl, Block, block, Eqns, no_eqn, more_eqns, Eqn, define, switch, reset, automaton, Arms, no_arm, more_arms}
use Rattle.hp_tree.specs.Programs.{Node}
use Rattle.hp_tree.specs.Instant.{Clock}
use Rattle.hp_tree.specs.Meaning.{some_defines, clock_in, controls_of}
use Rattle.hp_meaning.specs.Causal.Clocked.{Standing as Seeing, base_alone, standing_in, BlockRight, AllRight, OneRight, ArmsRight}
use Rattle.hp_flat.specs.Equations.{FlatEqn}
use Rattle.law_equations.specs.Flattened.Flatten.{is_false}
use Rattle.law_equations.specs.Made.Making.{Known, Sketch, Site, Sight, Standing, Body, Inner, Seen, base_site, unknown, next, with_variable, put, flat_type, no_entry, nothing_made, signed, signature, cons_number, on_site, over, hidden, own_names, declared, names_of_eqns, names_of_arms, names_of_block, each_once, in_block, restart_site, with_flag, remember_all, block_layer, link_all, sketch_expr, sketch_block, sketch_eqns, sketch_eqn, sketch_arms}
use Rattle.law_equations.proofs.MadeLemmas.LayerLaws.{own-made, names-once}
use Rattle.law_wellmade.specs.Nested.Nested.{arms_of_block, arms_of_eqns, arms_of_eqn, arms_of_arms, BlockShort, EqnsShort, EqnShort, ArmsShort}
use Rattle.law_wellmade.specs.Nested.Laws.{NodeLaw}
use Rattle.law_wellmade.proofs.NestedLemmas.Expressions.{NamesShort, AllShort, link_short, remember_all_short, expr_short, definition_short}

-- the names of a block stand on short clocks, whatever stands around it
pub standing_short : (limit : ℕ) (ds : List Decl) (es : Eqns) (out : Seeing) → ((x : List ℕ) → length (clock_in ds x) ≤ limit) → NamesShort limit (standing_in ds es out)
standing_short limit ds es out h x clock e = by (some_defines es x) e
  where
    further : (o : Option Clock) → base_alone o ≡ Some clock → length clock ≤ limit
    further None q = absurd cc
    further (Some []) q = (let none : clock ≡ [] = cc in subst (λ (c : Clock). length c ≤ limit) (sym none) (omega arith))
    further (Some (on ∷ rest)) q = absurd cc

    by : (b : Bool) → (if b then Some (clock_in ds x) else base_alone (out x)) ≡ Some clock → length clock ≤ limit
    by true q = (let same : clock_in ds x ≡ clock = cc in subst (λ (c : Clock). length c ≤ limit) same (h x))
    by false q = further (out x) q

module _ (k : Known) (bound limit : ℕ) where
  -- there is room for so many levels of arms, on the clock of the block
  abbrev Room : ℕ → Site → Type 0
  Room levels at = (length at.clock ≡ at.base) × ((at.base + levels) + suc limit ≤ bound)

  fewer_levels : (m n : ℕ) (at : Site) → m ≤ n → Room n at → Room m at
  fewer_levels m n at l r = (r.0, (let room = r.1 in omega (arith, l, room)))

  on_clock : (n : ℕ) (at : Site) → Room n at → length at.clock ≤ bound
  on_clock n at r = (let o = r.0 in let room = r.1 in omega (arith, o, room))

  no_levels : (n : ℕ) (at : Site) → Room n at → at.base + suc limit ≤ bound
  no_levels n at r = (let room = r.1 in omega (arith, room))

  -- a condition stands on the clock of the block
  test_fits : (n : ℕ) (at : Site) → Room n at → (length at.clock ≡ at.base + 0) × (0 ≤ suc limit) × (at.base + suc limit ≤ bound)
  test_fits n at r = ((let o = r.0 in omega (arith, o)), (omega arith), no_levels n at r)

  -- an arm stands one step deeper
  on_room : (n : ℕ) (at : Site) (x c : ℕ) → Room (suc n) at → Room n (in_block (on_site at x c))
  on_room n at x c r =
      let l : length (at.clock ++ (x, c) ∷ []) ≡ length at.clock + 1 = length-append at.clock ((x, c) ∷ []) in
      (refl, (let o = r.0 in let room = r.1 in omega (arith, l, o, room)))

  restart_room : (n : ℕ) (at : Site) (x : ℕ) → Room n at → Room n (in_block (restart_site at x))
  restart_room n at x r = (refl, subst (λ b. (b + n) + suc limit ≤ bound) (sym r.0) r.1)

  layer_short : (standing : Standing) (out : Sight) (at : Site) (ds : List Decl) (es : Eqns) (d : Sketch) → length at.clock ≤ bound → AllShort k bound d
      → AllShort k bound (block_layer k standing out at ds (each_once [] (names_of_eqns es)) d).1
  layer_short standing out at ds es d h a =
      let s = own_names standing ds out (each_once [] (names_of_eqns es)) (declared k ds out, d) in
      let own = own-made standing ds out (λ p. p) (each_once [] (names_of_eqns es)) (declared k ds out, d) (names-once (names_of_eqns es)) in
      remember_all_short k bound at out ds s h (subst (AllByRecursion (λ (e : FlatEqn). length e.clock ≤ bound)) (sym own.eqns) a)

  if_short : (b : Bool) (d e : Sketch) → AllShort k bound d → AllShort k bound e → AllShort k bound (if b then d else e)
  if_short true d e a h = a
  if_short false d e a h = h

  mutual
    pub block_short : (b : Block) (standing : Standing) (names : Seeing) (see : Sight) (at : Site) (d : Sketch) → BlockRight names b → BlockShort limit b → Room (arms_of_block b) at
        → AllShort k bound d → AllShort k bound (sketch_block k standing see at b d).1
    block_short (block ds es) standing names see at d h g r a =
        let s = block_layer k standing see at ds (each_once [] (names_of_eqns es)) d in
        eqns_short es ds (standing_in ds es names) (standing_short limit ds es names g.0) g.0 (over s.0 see) at s.1 h.1 g.1 r (layer_short standing see at ds es d (on_clock (arms_of_eqns es) at r) a)

    eqns_short : (es : Eqns) (ds : List Decl) (names : Seeing) → NamesShort limit names → ((x : List ℕ) → length (clock_in ds x) ≤ limit) → (see : Sight) (at : Site) (d : Sketch)
        → AllRight names ds es → EqnsShort limit es → Room (arms_of_eqns es) at → AllShort k bound d
        → AllShort k bound (sketch_eqns k see at ds es d)
    eqns_short no_eqn ds names short own see at d h g r a = a
    eqns_short (more_eqns e es) ds names short own see at d h g r a =
        eqns_short es ds names short own see at (sketch_eqn k see at ds e d) h.1 g.1 (fewer_levels (arms_of_eqns es) (max (arms_of_eqn e) (arms_of_eqns es)) at (omega arith) r)
        (eqn_short e ds names short own see at d h.0 g.0 (fewer_levels (arms_of_eqn e) (max (arms_of_eqn e) (arms_of_eqns es)) at (omega arith) r) a)

    eqn_short : (e : Eqn) (ds : List Decl) (names : Seeing) → NamesShort limit names → ((x : List ℕ) → length (clock_in ds x) ≤ limit) → (see : Sight) (at : Site) (d : Sketch)
        → OneRight names ds e → EqnShort limit e → Room (arms_of_eqn e) at → AllShort k bound d
        → AllShort k bound (sketch_eqn k see at ds e d)
    eqn_short (define s ys e) ds names short own see at d h g r a = definition_short k bound limit names short ds own ys e see at d h.2 r.0 (no_levels 0 at r) a
    eqn_short (switch s e arms) ds names short own see at d h g r a =
        let xs = each_once [] (names_of_arms arms) in
        let t = sketch_expr k see at e d in
        arms_short arms names see (over (hidden xs see) see) at xs t.1 t.0 h.2 g r (expr_short k bound limit names short e [] see at d h.1 (test_fits (arms_of_arms arms) at r) a)
    eqn_short (reset s b e) ds names short own see at d h g r a =
        let xs = each_once [] (names_of_block b) in
        let inside = over (hidden xs see) see in
        let m = sketch_block k Inner inside at b d in
        let t = sketch_expr k see at e d in
        let i = sketch_block k Inner inside (in_block (restart_site at t.1)) b (with_flag None t.0) in
        let here = on_clock (arms_of_block b) at r in
        if_short (is_false e) (link_all see at m.0 xs m.1) (link_all see at i.0 xs (with_flag t.0.flag i.1))
        (link_short k bound see at m.0 xs m.1 here (block_short b Inner names inside at d h.2 g r a))
        (link_short k bound see at i.0 xs (with_flag t.0.flag i.1) here
        (block_short b Inner names inside (in_block (restart_site at t.1)) (with_flag None t.0) h.2 g (restart_room (arms_of_block b) at t.1 r)
        (expr_short k bound limit names short e [] see at d h.1 (test_fits (arms_of_block b) at r) a)))
    eqn_short (automaton s ss) ds names short own see at d h g r a = a

    arms_short : (arms : Arms) (names : Seeing) (see inside : Sight) (at : Site) (xs : List (List ℕ)) (t : ℕ) (d : Sketch) → ArmsRight names arms → ArmsShort limit arms
        → Room (arms_of_arms arms) at → AllShort k bound d
        → AllShort k bound (sketch_arms k see inside at xs t arms d)
    arms_short no_arm names see inside at xs t d h g r a = a
    arms_short (more_arms c b s arms) names see inside at xs t d h g r a =
        let on = on_site at t (cons_number k c) in
        let n = arms_of_block b in
        let inner : Room n (in_block on) = on_room n at t (cons_number k c) (fewer_levels (suc n) (max (suc n) (arms_of_arms arms)) at (omega arith) r) in
        let m = sketch_block k Inner inside (in_block on) b (with_flag None d) in
        arms_short arms names see inside at xs t (with_flag d.flag (link_all see on m.0 xs m.1)) h.1 g.1 (fewer_levels (arms_of_arms arms) (max (suc n) (arms_of_arms arms)) at (omega arith) r)
        (link_short k bound see on m.0 xs m.1 (on_clock n (in_block on) inner) (block_short b Inner names inside (in_block on) (with_flag None d) h.0 g.0 inner a))

-- the signature of a node has no equations
eqns_signed : (k : Known) (ds : List Decl) (s : Seen) → (signed k ds s).1.eqns ≡ s.1.eqns
eqns_signed k [] s = refl
eqns_signed k (d ∷ ds) s = eqns_signed k ds (put d.name (record { ty = flat_type k.types d.ty; value = Some (next s.1); last = None; is_local = true }) s.0, with_variable d.name (flat_type k.types d.ty) s.1)

signature_bare : (k : Known) (n : Node) → (signature k n).1.eqns ≡ []
signature_bare k n =
    let none : Seen = (no_entry, nothing_made) in
    let ins = signed k n.inputs none in
    let mids = signed k (controls_of n.contract) ins in
    eqns_signed k n.outputs mids ∙ eqns_signed k (controls_of n.contract) ins ∙ eqns_signed k n.inputs none

pub node_law : NodeLaw
node_law k limit n right short =
    let bound = arms_of_block n.body + suc limit in
    let s = signature k n in
    let r = remember_all k base_site unknown n.outputs s in
    let bare : AllShort k bound s.1 = subst (AllByRecursion (λ (e : FlatEqn). length e.clock ≤ bound)) (sym (signature_bare k n)) tt in
    block_short k bound limit n.body Body _ (over r.0 unknown) base_site r.1 right.body short (refl, (omega arith)) (remember_all_short k bound base_site unknown n.outputs s (omega arith) bare)
