-- What observers are made of, one by one.
use Rattle.std.proofs.Common.{◌≡◌, ℕ, ◌+◌, ◌<◌, ◌≤◌, get_or, length, map, drop, List, [], ◌∷◌, ◌++◌, refl, sym, ap, ap₂, ◌∙◌}
use Rattle.std.specs.List.{flat_map}
use Rattle.std.proofs.lemmas.List.{append_assoc, append-nil, drop_all, map-append}
use Rattle.hp_tree.specs.declared.program.Item.{Item}
use Rattle.hp_tree.specs.declared.block.Eqn as code_eqn
use Rattle.hp_tree.specs.BlockView.{eqn_seen}
use Rattle.hp_tree.specs.Blocks.{Decl, Block, block, Eqn, eqns_of, list_of_eqns}
use Rattle.hp_tree.proofs.BlockLists.{list_of_eqns-eqns_of}
use Rattle.hp_tree.specs.Programs.{Contract, Node}
use Rattle.hp_watch.specs.Observing.{declared, assumed, enforced, equation, condition_of, lines_of, input_name, inputs_for, handed_on, all_handed_on, with_lines, item_of, observers}
use Rattle.hp_watch.proofs.WalkLaws.{drop-next}

pub inputs_for-next : (into ds : List Decl) (i : ℕ) (d : Decl) → i < length ds → d ≡ get_or ds i d → (into ++ declared (input_name i) d.ty d.span ∷ []) ++ inputs_for (i + 1) (drop (i + 1) ds) ≡ into ++ inputs_for i (drop i ds)
inputs_for-next into ds i d h p = append_assoc into (declared (input_name i) d.ty d.span ∷ []) (inputs_for (i + 1) (drop (i + 1) ds)) ∙ ap (λ rest. into ++ inputs_for i rest) (sym (drop-next ds i d h p))

pub inputs_for-end : (into ds : List Decl) (i : ℕ) → length ds ≤ i → into ++ inputs_for i (drop i ds) ≡ into
inputs_for-end into ds i h = ap (λ rest. into ++ inputs_for i rest) (drop_all i ds h) ∙ append-nil into

pub handed-next : (into : List Eqn) (ds : List Decl) (i : ℕ) (d : Decl) → i < length ds → d ≡ get_or ds i d → (into ++ handed_on i d ∷ []) ++ all_handed_on (i + 1) (drop (i + 1) ds) ≡ into ++ all_handed_on i (drop i ds)
handed-next into ds i d h p = append_assoc into (handed_on i d ∷ []) (all_handed_on (i + 1) (drop (i + 1) ds)) ∙ ap (λ rest. into ++ all_handed_on i rest) (sym (drop-next ds i d h p))

pub handed-end : (into : List Eqn) (ds : List Decl) (i : ℕ) → length ds ≤ i → into ++ all_handed_on i (drop i ds) ≡ into
handed-end into ds i h = ap (λ rest. into ++ all_handed_on i rest) (drop_all i ds h) ∙ append-nil into

pub decls-next : (into ds : List Decl) (i : ℕ) (d : Decl) → i < length ds → d ≡ get_or ds i d → (into ++ d ∷ []) ++ drop (i + 1) ds ≡ into ++ drop i ds
decls-next into ds i d h p = append_assoc into (d ∷ []) (drop (i + 1) ds) ∙ ap (λ rest. into ++ rest) (sym (drop-next ds i d h p))

pub decls-end : (into ds : List Decl) (i : ℕ) → length ds ≤ i → into ++ drop i ds ≡ into
decls-end into ds i h = ap (λ rest. into ++ rest) (drop_all i ds h) ∙ append-nil into

pub items-next : (into all : List Item) (i : ℕ) (x : Item) → i < length all → x ≡ get_or all i x → (into ++ item_of x) ++ observers (drop (i + 1) all) ≡ into ++ observers (drop i all)
items-next into all i x h p = append_assoc into (item_of x) (observers (drop (i + 1) all)) ∙ ap (λ rest. into ++ observers rest) (sym (drop-next all i x h p))

pub items-end : (into all : List Item) (i : ℕ) → length all ≤ i → into ++ observers (drop i all) ≡ into
items-end into all i h = ap (λ rest. into ++ observers rest) (drop_all i all h) ∙ append-nil into

-- one equation more, as it is seen
pub seen-more : (es : List code_eqn.Eqn) (e : code_eqn.Eqn) → map eqn_seen (es ++ e ∷ []) ≡ map eqn_seen es ++ eqn_seen e ∷ []
seen-more es e = map-append eqn_seen es (e ∷ [])

pub lined : (b : Block) (ds more : List Decl) (es lines : List Eqn) → block ds (eqns_of es) ≡ b → block (ds ++ more) (eqns_of (es ++ lines)) ≡ with_lines b more lines
lined b ds more es lines e = ap (λ xs. block (ds ++ more) (eqns_of (xs ++ lines))) (sym (list_of_eqns-eqns_of es)) ∙ ap (λ z. with_lines z more lines) e

pub lines-added : (into e1 e2 e3 : List Eqn) (assume enforce : Eqn) (n : Node) (c : Contract) → e1 ≡ into ++ assume ∷ [] → e2 ≡ e1 ++ enforce ∷ [] → e3 ≡ e2 ++ all_handed_on 0 n.outputs
    → assume ≡ equation assumed c.span (condition_of c.assume c.span) → enforce ≡ equation enforced c.span (condition_of c.enforce c.span) → e3 ≡ into ++ lines_of n c
lines-added into e1 e2 e3 assume enforce n c is_first is_second is_third is_assume is_enforce =
    let rest = all_handed_on 0 n.outputs in
    is_third
    ∙ ap (λ z. z ++ rest) (is_second ∙ ap (λ z. z ++ enforce ∷ []) is_first)
    ∙ append_assoc (into ++ assume ∷ []) (enforce ∷ []) rest ∙ append_assoc into (assume ∷ []) (enforce ∷ rest)
    ∙ ap₂ (λ a e. into ++ a ∷ e ∷ rest) is_assume is_enforce
