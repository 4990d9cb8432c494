-- What is found first, mark by mark and element by element.
use Rattle.std.proofs.Common.{◌≡◌, ℕ, ◌+◌, ◌<◌, get_or, length, drop, map, List, [], ◌∷◌, ◌++◌, None, Some, refl, sym, ap, ◌∙◌}
use Rattle.std.proofs.lemmas.Grind.{fold-append}
use Rattle.hp_tree.specs.declared.decl.Cons.{Cons}
use Rattle.hp_tree.specs.declared.block.Trans.{Trans}
use Rattle.hp_tree.specs.declared.block.Eqn as code_eqn
use Rattle.hp_tree.specs.declared.block.Arm as code_arm
use Rattle.hp_tree.specs.declared.block.State as code_state
use Rattle.hp_tree.specs.BlockView.{eqn_seen, arm_seen, state_seen}
use Rattle.hp_tree.specs.Expressions.{Expr, exprs_of, parts_of}
use Rattle.hp_tree.specs.Blocks.{Decl, eqns_of, arms_of, states_of}
use Rattle.hp_tree.specs.declared.program.Item.{Item}
use Rattle.hp_tree.specs.declared.program.Item.TheVariants.{TypeItem, NodeItem}
use Rattle.hp_tree.specs.Programs.{TypeDecl, Node}
use Rattle.hp_expand.specs.Shapes.{Found, Form, Breach, Mark, see, found_after, in_type, in_expr, in_exprs, in_parts, in_transitions, in_block, in_eqn, in_eqns, in_arms, in_states, in_controls, with_form, at_node, in_items}
use Rattle.hp_expand.specs.Broken.{Shaped}
use Rattle.hp_expand.specs.declared.shapes.Judged.{Judged}
use Rattle.hp_expand.proofs.SizeLaws.{drop-next}

module _ (found : Found) where
  pub found_after-nil : found_after found [] ≡ found
  unfolding found_after
  found_after-nil = refl

  pub found_after-append : (ms ns : List Mark) → found_after found (ms ++ ns) ≡ found_after (found_after found ms) ns
  unfolding found_after
  found_after-append ms ns = fold-append see found ms ns

  pub found_after-cons : (m : Mark) (ns : List Mark) → found_after found (m ∷ ns) ≡ found_after (found_after found (m ∷ [])) ns
  found_after-cons m ns = found_after-append (m ∷ []) ns

module _ (found : Found) where
  module _ (forms : List ℕ → Form) where
    pub found_after-exprs : (es : List Expr) (i : ℕ) (e : Expr) → i < length es → e ≡ get_or es i e
        → found_after found (in_exprs forms (exprs_of (drop i es))) ≡ found_after (found_after found (in_expr forms e)) (in_exprs forms (exprs_of (drop (i + 1) es)))
    found_after-exprs es i e h p =
        ap (λ more. found_after found (in_exprs forms (exprs_of more))) (drop-next es i e h p)
        ∙ found_after-append found (in_expr forms e) (in_exprs forms (exprs_of (drop (i + 1) es)))

    pub found_after-parts : (ps : List (Cons × Expr)) (i : ℕ) (p : Cons × Expr) → i < length ps → p ≡ get_or ps i p
        → found_after found (in_parts forms (parts_of (drop i ps))) ≡ found_after (found_after found (in_expr forms p.1)) (in_parts forms (parts_of (drop (i + 1) ps)))
    found_after-parts ps i p h q =
        ap (λ more. found_after found (in_parts forms (parts_of more))) (drop-next ps i p h q)
        ∙ found_after-append found (in_expr forms p.1) (in_parts forms (parts_of (drop (i + 1) ps)))

    pub found_after-transitions : (ts : List Trans) (i : ℕ) (t : Trans) → i < length ts → t ≡ get_or ts i t
        → found_after found (in_transitions forms (drop i ts)) ≡ found_after (found_after found (in_expr forms t.cond)) (in_transitions forms (drop (i + 1) ts))
    found_after-transitions ts i t h p =
        ap (λ more. found_after found (in_transitions forms more)) (drop-next ts i t h p)
        ∙ found_after-append found (in_expr forms t.cond) (in_transitions forms (drop (i + 1) ts))

    pub found_after-eqns : (es : List code_eqn.Eqn) (i : ℕ) (e : code_eqn.Eqn) → i < length es → e ≡ get_or es i e
        → found_after found (in_eqns forms (eqns_of (map eqn_seen (drop i es))))
        ≡ found_after (found_after found (in_eqn forms (eqn_seen e))) (in_eqns forms (eqns_of (map eqn_seen (drop (i + 1) es))))
    found_after-eqns es i e h p =
        ap (λ more. found_after found (in_eqns forms (eqns_of (map eqn_seen more)))) (drop-next es i e h p)
        ∙ found_after-append found (in_eqn forms (eqn_seen e)) (in_eqns forms (eqns_of (map eqn_seen (drop (i + 1) es))))

    pub found_after-arms : (arms : List code_arm.Arm) (i : ℕ) (a : code_arm.Arm) → i < length arms → a ≡ get_or arms i a
        → found_after found (in_arms forms (arms_of (map arm_seen (drop i arms))))
        ≡ found_after (found_after found (in_block forms a.body)) (in_arms forms (arms_of (map arm_seen (drop (i + 1) arms))))
    found_after-arms arms i a h p =
        ap (λ more. found_after found (in_arms forms (arms_of (map arm_seen more)))) (drop-next arms i a h p)
        ∙ found_after-append found (in_block forms a.body) (in_arms forms (arms_of (map arm_seen (drop (i + 1) arms))))

    pub found_after-states : (qs : List code_state.State) (i : ℕ) (q : code_state.State) → i < length qs → q ≡ get_or qs i q
        → found_after found (in_states forms (states_of (map state_seen (drop i qs))))
        ≡ found_after (found_after (found_after (found_after found (in_block forms q.body)) (in_transitions forms q.until.items)) (in_transitions forms q.unless.items)) (in_states forms (states_of (map state_seen (drop (i + 1) qs))))
    found_after-states qs i q h p =
        let rest = in_states forms (states_of (map state_seen (drop (i + 1) qs))) in
        let weak = in_transitions forms q.until.items in
        let strong = in_transitions forms q.unless.items in
        let first = found_after found (in_block forms q.body) in
        ap (λ more. found_after found (in_states forms (states_of (map state_seen more)))) (drop-next qs i q h p)
        ∙ found_after-append found (in_block forms q.body) (weak ++ (strong ++ rest))
        ∙ found_after-append first weak (strong ++ rest)
        ∙ found_after-append (found_after first weak) strong rest

  pub found_after-controls : (ds : List Decl) (i : ℕ) (d : Decl) → i < length ds → d ≡ get_or ds i d
      → found_after found (in_controls (drop i ds)) ≡ found_after (found_after found (in_type d.span d.ty)) (in_controls (drop (i + 1) ds))
  found_after-controls ds i d h p =
      ap (λ more. found_after found (in_controls more)) (drop-next ds i d h p)
      ∙ found_after-append found (in_type d.span d.ty) (in_controls (drop (i + 1) ds))

-- ---- item by item

module _ (items : List Item) (i : ℕ) (item : Item) (h : i < length items) (p : item ≡ get_or items i item) (forms : List ℕ → Form) where
  pub shapes-type : (t : TypeDecl) → item ≡ TypeItem t → in_items forms (drop i items) ≡ in_items forms (drop (i + 1) items)
  shapes-type t q = ap (in_items forms) (drop-next items i item h p) ∙ ap (λ x. in_items forms (x ∷ drop (i + 1) items)) q

  module _ (n : Node) (q : item ≡ NodeItem n) (j : Judged) (s : Shaped forms n j) where
    here : in_items forms (drop i items) ≡ at_node n.name j.breach (in_items (with_form forms n.name j.form) (drop (i + 1) items))
    here =
        ap (in_items forms) (drop-next items i item h p) ∙ ap (λ x. in_items forms (x ∷ drop (i + 1) items)) q
        ∙ (λ k. at_node n.name (sym s.breach k) (in_items (with_form forms n.name (sym s.form k)) (drop (i + 1) items)))

    pub shapes-broken : (b : Breach) → Some b ≡ j.breach → in_items forms (drop i items) ≡ Some (n.name, b)
    shapes-broken b k = here ∙ ap (λ o. at_node n.name o (in_items (with_form forms n.name j.form) (drop (i + 1) items))) (sym k)

    pub shapes-kept : None ≡ j.breach → in_items forms (drop i items) ≡ in_items (with_form forms n.name j.form) (drop (i + 1) items)
    shapes-kept k = here ∙ ap (λ o. at_node n.name o (in_items (with_form forms n.name j.form) (drop (i + 1) items))) (sym k)
