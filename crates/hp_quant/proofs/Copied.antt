-- Functions that are copied to another table.
use Rattle.std.proofs.Common.{◌≡◌, ◌≢◌, ℕ, zero, suc, ◌+◌, ◌<◌, ◌≤◌, ◌⊎◌, inl, inr, true, false, List, [], ◌∷◌, ◌++◌, length, slice_index_or, Option, Some, None, is_some, refl, sym, ap, subst, ◌∙◌, arith, if◌then◌else◌}
use Rattle.std.proofs.lemmas.Bool.{cases_lt}
use Rattle.std.proofs.lemmas.List.{length_push, get_or_append_left, get_or_push, get_or_past}
use Rattle.slab.specs.Slab.{Slab, get}
use Rattle.hp_diagram.specs.declared.reference.Ref.{Ref}
use Rattle.hp_diagram.specs.declared.reference.Branch.{Branch}
use Rattle.hp_diagram.specs.Diagrams.{Diagrams, branch_at, function, Has, branch_of, level, IsReduced, Means, Keeps}
use Rattle.hp_diagram.proofs.Paths.{function-node}
use Rattle.hp_diagram.proofs.Canonical.{Valuation, leaf_cases, function-agree, level-from_agree, same_from_functions}
use Rattle.hp_diagram.proofs.Kept.{function-zero, function-one}
use Rattle.hp_diagram.proofs.Choices.{Keeps-trans}
use Rattle.hp_quant.specs.declared.memo.Memo.{Memo}
use Rattle.hp_quant.specs.Memo.{Knows}
use Rattle.hp_quant.specs.Sweeps.{Reaches, here, by_low, by_high, IsCopy, AllCopied, AreMoved, IsSwept, HaveSameKeys}

-- a path stays one as the table grows
pub Reaches-keeps : (t u : Diagrams) → IsReduced t → Keeps t u → {r s : Ref} → Has t r → Reaches t r s → Reaches u r s
Reaches-keeps t u reduced keeps has here = here
Reaches-keeps t u reduced keeps {r} has (by_low {b = b} h p) =
    let n = reduced.nodes r.index b h in
    by_low (keeps.branches r has ∙ h) (Reaches-keeps t u reduced keeps (omega (arith, n.low)) p)
Reaches-keeps t u reduced keeps {r} has (by_high {b = b} h p) =
    let n = reduced.nodes r.index b h in
    by_high (keeps.branches r has ∙ h) (Reaches-keeps t u reduced keeps (omega (arith, n.high)) p)

module _ (t u w : Diagrams) (keeps : Keeps u w) where
  pub IsCopy-keeps : (r s : Ref) → IsCopy t u r s → IsCopy t w r s
  IsCopy-keeps r s c = record { has = c.has; means = record { has = keeps.has s c.means.has; value = λ v. keeps.functions s c.means.has v ∙ c.means.value v } }

  pub AllCopied-keeps : (m : Memo) → AllCopied t u m → AllCopied t w m
  AllCopied-keeps m right r s known = IsCopy-keeps r s (right r s known)

pub AllCopied-put : (t u : Diagrams) (m n : Memo) (r s : Ref) → ((q p : Ref) → Knows n q p → Knows m q p ⊎ ((q ≡ r) × (p ≡ s))) → AllCopied t u m → IsCopy t u r s → AllCopied t u n
AllCopied-put t u m n r s put right new q p known =
    elim (put q p known) [
      | inl old ↦ right q p old
      | inr same ↦ subst (λ (k : Ref). IsCopy t u k p) (sym same.0) (subst (IsCopy t u r) (sym same.1) new)
    ]

-- false and true are the same in every table
pub IsCopy-leaf : (t u : Diagrams) (r : Ref) → Has t r → branch_of t r ≡ None → IsCopy t u r r
IsCopy-leaf t u r has h =
    record {
      has = has;
      means = elim (leaf_cases t r.index has h) [
        | inl e ↦ record { has = omega (arith, e); value = λ v. function-zero u v r e ∙ sym (function-zero t v r e) }
        | inr e ↦ record { has = omega (arith, e); value = λ v. function-one u v r e ∙ sym (function-one t v r e) }
      ];
    }

-- one step of the pass: the new table is a before, l and h where the two children are done, and u where the node is
module _ (t a l h u : Diagrams) (reduced : IsReduced t) (vars : a.vars ≡ t.vars) (r : Ref) (b : Branch) (has : Has t r) (node : branch_of t r ≡ Some b) (low high s : Ref)
    (to_l : Keeps a l) (in_low : IsCopy t l b.low low) (to_h : Keeps l h) (in_high : IsCopy t h b.high high) where
  low_value : (v : Valuation) → function h low v ≡ function t b.low v
  low_value v = to_h.functions low in_low.means.has v ∙ in_low.means.value v

  pub low_step : b.var < level h low
  low_step =
      let n = reduced.nodes r.index b node in
      let within : suc b.var ≤ h.vars = omega (arith, n.var, vars, to_l.vars, to_h.vars) in
      let there : suc b.var ≤ level h low = level-from_agree h to_h.reduced (suc b.var) low (to_h.has low in_low.means.has) within
      (λ v w agree. low_value v ∙ function-agree t reduced b.low v w (λ y later. agree y (omega (arith, later, n.low_later))) ∙ sym (low_value w)) in
      omega (arith, there)

  pub high_step : b.var < level h high
  high_step =
      let n = reduced.nodes r.index b node in
      let within : suc b.var ≤ h.vars = omega (arith, n.var, vars, to_l.vars, to_h.vars) in
      let there : suc b.var ≤ level h high = level-from_agree h to_h.reduced (suc b.var) high in_high.means.has within
      (λ v w agree. in_high.means.value v ∙ function-agree t reduced b.high v w (λ y later. agree y (omega (arith, later, n.high_later))) ∙ sym (in_high.means.value w)) in
      omega (arith, there)

  -- the copies differ, as the children do
  apart : low ≢ high
  apart e =
      let n = reduced.nodes r.index b node in
      n.differ (same_from_functions t reduced b.low b.high in_low.has in_high.has
      (λ v. sym (low_value v) ∙ ap (λ (k : Ref). function h k v) e ∙ in_high.means.value v))

  module _ (to_u : Keeps h u) (made : Means u (λ v. if v b.var then function h high v else function h low v) s) where
    pub IsCopy-step : IsCopy t u r s
    IsCopy-step =
        record {
          has = has;
          means = record {
            has = made.has;
            value = λ v. made.value v ∙ (λ j. if v b.var then in_high.means.value v j else low_value v j) ∙ sym (function-node t reduced r b node v);
          };
        }

    module _ (stands : low ≢ high → branch_of u s ≡ Some (record { var = b.var; low = low; high = high })) (only : (n : Ref) → Has u n → Has h n ⊎ (n ≡ s))
        (from_low : (n : Ref) → Has l n → Has a n ⊎ Reaches l low n) (from_high : (n : Ref) → Has h n → Has l n ⊎ Reaches h high n) where
      -- what is new is reached from the copy
      pub Reaches-step : (n : Ref) → Has u n → Has a n ⊎ Reaches u s n
      Reaches-step n has_n =
          elim (only n has_n) [
            | inr e ↦ inr (subst (Reaches u s) (sym e) here)
            | inl in_h ↦ elim (from_high n in_h) [
              | inr p ↦ inr (by_high (stands apart) (Reaches-keeps h u to_h.reduced to_u in_high.means.has p))
              | inl in_l ↦ elim (from_low n in_l) [
                | inl in_a ↦ inl in_a
                | inr p ↦ inr (by_low (stands apart) (Reaches-keeps l u to_l.reduced (Keeps-trans l h u to_h to_u) in_low.means.has p))
              ]
            ]
          ]

-- a new table has nothing but false and true
pub IsReduced-empty : (t : Diagrams) → t.nodes ≡ [] → IsReduced t
IsReduced-empty t empty =
    let none : (i : ℕ) (b : Branch) → branch_at t.nodes i ≢ Some b = λ i b h. no_node i b (ap (λ l. branch_at l i) (sym empty) ∙ h) in
    record { nodes = λ i b h. absurd (none i b h); distinct = λ i j b h k. absurd (none i b h) }
  where
    no_node : (i : ℕ) (b : Branch) → branch_at [] i ≢ Some b
    no_node zero b h = cc
    no_node (suc zero) b h = cc
    no_node (suc (suc i)) b h = cc

pub AreMoved-none : (t u : Diagrams) (roots : Slab Ref) (moved : List (Option Ref)) → u.nodes ≡ [] → u.vars ≡ t.vars → u.answers ≡ [] → moved ≡ [] → AreMoved t u roots moved 0
AreMoved-none t u roots moved nodes vars answers none =
    record {
      reduced = IsReduced-empty u nodes;
      vars = vars;
      answers = answers;
      len = ap length none;
      keys = λ key within. absurd (omega (arith, within));
      copies = λ key r s within. absurd (omega (arith, within));
      reached = λ s has. inl (omega (arith, has, ap length nodes));
    }

-- one more root has its copy
module _ (t u w : Diagrams) (roots : Slab Ref) (moved : List (Option Ref)) (count : ℕ) (so_far : AreMoved t u roots moved count) (root : Option Ref) (to_w : Keeps u w)
    (has_key : is_some root ≡ is_some (get roots count)) (is_copy : (r s : Ref) → get roots count ≡ Some r → root ≡ Some s → IsCopy t w r s)
    (from_root : (n : Ref) → Has w n → Has u n ⊎ ((s : Ref) × (root ≡ Some s) × Reaches w s n)) (answers : w.answers ≡ u.answers) where
  more : List (Option Ref)
  more = moved ++ root ∷ []

  before : (key : ℕ) → key < count → slice_index_or more key None ≡ slice_index_or moved key None
  unfolding more
  before key within = get_or_append_left moved (root ∷ []) None key (omega (arith, within, so_far.len))

  last : slice_index_or more count None ≡ root
  unfolding more
  last = get_or_push moved root None count so_far.len

  within_or_last : (key : ℕ) → key < count + 1 → (key < count) ⊎ (key ≡ count)
  within_or_last key within = elim (cases_lt key count) [ inl lt ↦ inl lt | inr ge ↦ inr (omega (arith, within, ge)) ]

  some_within : (key : ℕ) (s : Ref) → slice_index_or moved key None ≡ Some s → key < count
  some_within key s e = elim (cases_lt key count) [
    | inl lt ↦ lt
    | inr ge ↦ let none : slice_index_or moved key None ≡ None = get_or_past moved key None (omega (arith, so_far.len, ge)) in absurd (cc)
  ]

  old_reached : (n : Ref) → Has u n → (n.index < 2) ⊎ ((key : ℕ) × (r : Ref) × (slice_index_or more key None ≡ Some r) × Reaches w r n)
  old_reached n has =
      elim (so_far.reached n has) [
        | inl leaf ↦ inl leaf
        | inr p ↦
            let within = some_within p.0 p.1 p.2 in
            let source = elim_key p.0 p.1 within p.2 in
            inr (p.0, p.1, before p.0 within ∙ p.2, Reaches-keeps u w so_far.reduced to_w source p.3)
      ]
    where
      elim_key : (key : ℕ) (s : Ref) → key < count → slice_index_or moved key None ≡ Some s → Has u s
      elim_key key s within e = (elim (get roots key) as (λ o. get roots key ≡ o → Has u s) [
        | None ↦ λ h. let yes : true ≡ false = sym (ap is_some e) ∙ so_far.keys key within ∙ ap is_some h in absurd (cc)
        | Some r ↦ λ h. (so_far.copies key r s within h e).means.has
      ]) refl

  pub AreMoved-more : (items : List (Option Ref)) → items ≡ moved ++ root ∷ [] → AreMoved t w roots items (count + 1)
  unfolding more
  AreMoved-more items e = subst (λ (xs : List (Option Ref)). AreMoved t w roots xs (count + 1)) (sym e) (record {
    reduced = to_w.reduced;
    vars = to_w.vars ∙ so_far.vars;
    answers = answers ∙ so_far.answers;
    len = omega (arith, length_push moved root, so_far.len);
    keys = λ key within. elim (within_or_last key within) [
      | inl lt ↦ ap is_some (before key lt) ∙ so_far.keys key lt
      | inr same ↦ ap (λ k. is_some (slice_index_or (moved ++ root ∷ []) k None)) same ∙ ap is_some last ∙ has_key ∙ ap (λ k. is_some (get roots k)) (sym same)
    ];
    copies = λ key r s within is_root is_moved. elim (within_or_last key within) [
      | inl lt ↦ IsCopy-keeps t u w to_w r s (so_far.copies key r s lt is_root (sym (before key lt) ∙ is_moved))
      | inr same ↦ is_copy r s (ap (get roots) (sym same) ∙ is_root) (sym last ∙ ap (λ k. slice_index_or (moved ++ root ∷ []) k None) (sym same) ∙ is_moved)
    ];
    reached = λ n has. elim (from_root n has) [
      | inl old ↦ old_reached n old
      | inr p ↦ inr (count, p.0, last ∙ p.1, p.2)
    ];
  })

-- at the end each key that has a root has a copy, and no other
pub same_keys : (t u : Diagrams) (roots : Slab Ref) (moved : List (Option Ref)) (count : ℕ) → AreMoved t u roots moved count → length roots.slots ≤ count → HaveSameKeys roots moved
same_keys t u roots moved count done all key =
    elim (cases_lt key count) [
      | inl lt ↦ done.keys key lt
      | inr ge ↦ ap is_some (get_or_past moved key None (omega (arith, done.len, ge))) ∙ sym (ap is_some (get_or_past roots.slots key None (omega (arith, all, ge))))
    ]

pub IsSwept-from_moved : (t u : Diagrams) (before after : Slab Ref) (moved : List (Option Ref)) → AreMoved t u before moved (length moved) → HaveSameKeys before moved → ((key : ℕ) → get after key ≡ slice_index_or moved key None) → IsSwept t u before after
IsSwept-from_moved t u before after moved done same written =
    record {
      reduced = done.reduced;
      vars = done.vars;
      answers = done.answers;
      keys = λ key. ap is_some (written key) ∙ same key;
      roots = λ key r s was is. (done.copies key r s (within key s (sym (written key) ∙ is)) was (sym (written key) ∙ is)).means;
      reached = λ n has. elim (done.reached n has) [ inl leaf ↦ inl leaf | inr p ↦ inr (p.0, p.1, written p.0 ∙ p.2, p.3) ];
    }
  where
    within : (key : ℕ) (s : Ref) → slice_index_or moved key None ≡ Some s → key < length moved
    within key s e = elim (cases_lt key (length moved)) [
      | inl lt ↦ lt
      | inr ge ↦ let none : slice_index_or moved key None ≡ None = get_or_past moved key None ge in absurd (cc)
    ]
