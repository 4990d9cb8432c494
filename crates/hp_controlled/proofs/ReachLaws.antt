-- What is marked in the end is what outputs reach.
use Rattle.std.proofs.Common.{◌≡◌, ◌⊎◌, inl, inr, ℕ, zero, suc, ◌+◌, ◌<◌, ◌≤◌, Bool, true, false, if◌then◌else◌, List, [], ◌∷◌, ◌++◌, length, get_or, slice_get, Option, None, Some, refl, sym, ap, subst, ◌∙◌, arith}
use Rattle.std.specs.Prelude.{slice_index_or, slice_set, replicate}
use Rattle.std.specs.List.{range_with_len}
use Rattle.std.proofs.lemmas.Bool.{cases_lt}
use Rattle.hp_flat.specs.Equations.{FlatEqn}
use Rattle.hp_flat.specs.Nodes.{FlatNode}
use Rattle.hp_controlled.specs.Parts.{variables_of, Marks, IsIn, IsReached, reached_input, reached_output, reached_by, IsUsed, AreReached}
use Rattle.hp_controlled.specs.Reaching.{Reaching, with_variable, touched, all_touched, with_eqn, entered, entered_if, entered_at, all_entered, Definitions, definitions_at, definitions_of, followed, nothing_marked, first_marked, without, Ends, at_end, one_more}

-- ---- lists

in_front : (x : ℕ) (xs ys : List ℕ) → IsIn x xs → IsIn x (xs ++ ys)
in_front x [] ys h = absurd h
in_front x (y ∷ xs) ys (inl e) = inl e
in_front x (y ∷ xs) ys (inr h) = inr (in_front x xs ys h)

in_back : (x : ℕ) (xs ys : List ℕ) → IsIn x ys → IsIn x (xs ++ ys)
in_back x [] ys h = h
in_back x (y ∷ xs) ys h = inr (in_back x xs ys h)

in_either : (x : ℕ) (xs ys : List ℕ) → IsIn x (xs ++ ys) → IsIn x xs ⊎ IsIn x ys
in_either x [] ys h = inr h
in_either x (y ∷ xs) ys (inl e) = inl (inl e)
in_either x (y ∷ xs) ys (inr h) = elim (in_either x xs ys h) [ inl k ↦ inl (inr k) | inr k ↦ inr k ]

-- a mark is set
abbrev pub IsMarked : List Bool → ℕ → Type 0
IsMarked vs x = slice_index_or vs x false ≡ true

set_length : (vs : List Bool) (x : ℕ) → length (slice_set vs x true) ≡ length vs
set_length [] x = refl
set_length (v ∷ vs) zero = refl
set_length (v ∷ vs) (suc x) = ap suc (set_length vs x)

set_here : (vs : List Bool) (x : ℕ) → x < length vs → IsMarked (slice_set vs x true) x
set_here [] x h = absurd (omega (arith, h))
set_here (v ∷ vs) zero h = refl
set_here (v ∷ vs) (suc x) h = set_here vs x (omega (arith, h))

set_kept : (vs : List Bool) (x y : ℕ) → IsMarked vs y → IsMarked (slice_set vs x true) y
set_kept [] x y h = h
set_kept (v ∷ vs) zero zero h = refl
set_kept (v ∷ vs) zero (suc y) h = h
set_kept (v ∷ vs) (suc x) zero h = h
set_kept (v ∷ vs) (suc x) (suc y) h = set_kept vs x y h

set_only : (vs : List Bool) (x y : ℕ) → IsMarked (slice_set vs x true) y → (IsMarked vs y) ⊎ (y ≡ x)
set_only [] x y h = inl h
set_only (v ∷ vs) zero zero h = inr refl
set_only (v ∷ vs) zero (suc y) h = inl h
set_only (v ∷ vs) (suc x) zero h = inl h
set_only (v ∷ vs) (suc x) (suc y) h = elim (set_only vs x y h) [ inl k ↦ inl k | inr e ↦ inr (ap suc e) ]

-- what reads as marked where nothing stands is marked or stands nowhere
read_true : (vs : List Bool) (x : ℕ) → x < length vs → slice_index_or vs x true ≡ true → IsMarked vs x
read_true [] x h e = absurd (omega (arith, h))
read_true (v ∷ vs) zero h e = e
read_true (v ∷ vs) (suc x) h e = read_true vs x (omega (arith, h)) e

read_false : (vs : List Bool) (x : ℕ) → slice_index_or vs x true ≡ false → x < length vs
read_false [] x e = absurd cc
read_false (v ∷ vs) zero e = omega arith
read_false (v ∷ vs) (suc x) e = omega (arith, read_false vs x e)

unmarked_nowhere : (count x : ℕ) → IsMarked (replicate count false) x → ⊥
unmarked_nowhere zero x h = cc
unmarked_nowhere (suc count) zero h = cc
unmarked_nowhere (suc count) (suc x) h = unmarked_nowhere count x h

marked_within : (vs : List Bool) (x : ℕ) → IsMarked vs x → x < length vs
marked_within [] x h = absurd cc
marked_within (v ∷ vs) zero h = omega arith
marked_within (v ∷ vs) (suc x) h = omega (arith, marked_within vs x h)

-- ---- meeting variables

-- Some variables are met: those of them that the node has are marked, and no others; what is marked anew waits; and marks of equations stay.
pub record Meets (r s : Reaching) (xs : List ℕ) : Type 0 where
  pub as_many : length s.variables ≡ length r.variables
  pub eqns : s.eqns ≡ r.eqns
  pub kept : (y : ℕ) → IsMarked r.variables y → IsMarked s.variables y
  pub all : (y : ℕ) → IsIn y xs → y < length r.variables → IsMarked s.variables y
  pub only : (y : ℕ) → IsMarked s.variables y → IsMarked r.variables y ⊎ IsIn y xs
  pub anew : (y : ℕ) → IsMarked s.variables y → IsMarked r.variables y ⊎ IsIn y s.waiting
  pub waits : (y : ℕ) → IsIn y r.waiting → IsIn y s.waiting
  pub waiting : (y : ℕ) → IsIn y s.waiting → IsIn y r.waiting ⊎ IsMarked s.variables y

meets_none : (r : Reaching) → Meets r r []
meets_none r = record { as_many = refl; eqns = refl; kept = λ y h. h; all = λ y h k. absurd h; only = λ y h. inl h; anew = λ y h. inl h; waits = λ y h. h; waiting = λ y h. inl h }

meets_both : (r s t : Reaching) (xs ys : List ℕ) → Meets r s xs → Meets s t ys → Meets r t (xs ++ ys)
meets_both r s t xs ys m o = record {
  as_many = o.as_many ∙ m.as_many;
  eqns = o.eqns ∙ m.eqns;
  kept = λ y h. o.kept y (m.kept y h);
  all = λ y h k. elim (in_either y xs ys h) [ inl e ↦ o.kept y (m.all y e k) | inr e ↦ o.all y e (subst (λ c. y < c) (sym m.as_many) k) ];
  only = λ y h. elim (o.only y h) [ inl k ↦ elim (m.only y k) [ inl e ↦ inl e | inr e ↦ inr (in_front y xs ys e) ] | inr e ↦ inr (in_back y xs ys e) ];
  anew = λ y h. elim (o.anew y h) [ inl k ↦ elim (m.anew y k) [ inl e ↦ inl e | inr e ↦ inr (o.waits y e) ] | inr e ↦ inr e ];
  waits = λ y h. o.waits y (m.waits y h);
  waiting = λ y h. elim (o.waiting y h) [ inl k ↦ elim (m.waiting y k) [ inl e ↦ inl e | inr e ↦ inr (o.kept y e) ] | inr e ↦ inr e ];
}

met : (b : Bool) (x : ℕ) (r : Reaching) → slice_index_or r.variables x true ≡ b → Meets r (if b then r else with_variable x r) (x ∷ [])
met true x r e = record {
  as_many = refl;
  eqns = refl;
  kept = λ y h. h;
  all = λ y h k. elim h [ inl p ↦ subst (λ z. IsMarked r.variables z) (sym p) (read_true r.variables x (subst (λ z. z < length r.variables) p k) e) | inr none ↦ absurd none ];
  only = λ y h. inl h;
  anew = λ y h. inl h;
  waits = λ y h. h;
  waiting = λ y h. inl h;
}
met false x r e = record {
  as_many = set_length r.variables x;
  eqns = refl;
  kept = λ y h. set_kept r.variables x y h;
  all = λ y h k. elim h [ inl p ↦ subst (λ z. IsMarked (slice_set r.variables x true) z) (sym p) (set_here r.variables x (read_false r.variables x e)) | inr none ↦ absurd none ];
  only = λ y h. elim (set_only r.variables x y h) [ inl k ↦ inl k | inr p ↦ inr (inl p) ];
  anew = λ y h. elim (set_only r.variables x y h) [ inl k ↦ inl k | inr p ↦ inr (in_back y r.waiting (x ∷ []) (inl p)) ];
  waits = λ y h. in_front y r.waiting (x ∷ []) h;
  waiting = λ y h. elim (in_either y r.waiting (x ∷ []) h) [ inl k ↦ inl k | inr k ↦ elim k [ inl p ↦ inr (subst (λ z. IsMarked (slice_set r.variables x true) z) (sym p) (set_here r.variables x (read_false r.variables x e))) | inr none ↦ absurd none ] ];
}

meets_one : (x : ℕ) (r : Reaching) → Meets r (touched x r) (x ∷ [])
unfolding touched
meets_one x r = met (slice_index_or r.variables x true) x r refl

pub meets_all : (xs : List ℕ) (r : Reaching) → Meets r (all_touched xs r) xs
meets_all [] r = meets_none r
meets_all (x ∷ xs) r = meets_both r (touched x r) (all_touched xs (touched x r)) (x ∷ []) xs (meets_one x r) (meets_all xs (touched x r))

-- ---- what is known on the way

abbrev pub Follows : FlatNode → Reaching → ℕ → Type 0
Follows n r x = (k : ℕ) (e : FlatEqn) → slice_get n.eqns k ≡ Some e → IsIn x e.targets → IsMarked r.eqns k

-- What is marked is reached; of equations that are marked all variables are; and what is marked waits, or is followed, or will be.
pub record Good (n : FlatNode) (outputs : List ℕ) (later : ℕ → Type 0) (r : Reaching) : Type 0 where
  pub as_many : length r.variables ≡ length n.variables
  pub each : length r.eqns ≡ length n.eqns
  pub sound : (x : ℕ) → IsMarked r.variables x → IsReached n outputs x
  pub used : (k : ℕ) → IsMarked r.eqns k → IsUsed n outputs k
  pub closed : (k : ℕ) (e : FlatEqn) → slice_get n.eqns k ≡ Some e → IsMarked r.eqns k → (y : ℕ) → IsIn y (variables_of e) → y < length n.variables → IsMarked r.variables y
  pub waiting : (x : ℕ) → IsIn x r.waiting → IsMarked r.variables x
  pub done : (x : ℕ) → IsMarked r.variables x → later x ⊎ (IsIn x r.waiting ⊎ Follows n r x)
  pub inputs : (x : ℕ) → x < n.inputs → x < length n.variables → IsMarked r.variables x
  pub outputs_are : (x : ℕ) → IsIn x outputs → x < length n.variables → IsMarked r.variables x

get_within : (es : List FlatEqn) (k : ℕ) (e : FlatEqn) → slice_get es k ≡ Some e → k < length es
get_within [] k e h = absurd cc
get_within (x ∷ es) zero e h = omega arith
get_within (x ∷ es) (suc k) e h = omega (arith, get_within es k e h)

one_of : (o : Option FlatEqn) (e f : FlatEqn) → o ≡ Some e → o ≡ Some f → e ≡ f
one_of o e f p q = cc

module _ (n : FlatNode) (outputs : List ℕ) (later : ℕ → Type 0) where
  enters : (b : Bool) (k : ℕ) (e : FlatEqn) (r : Reaching) → slice_index_or r.eqns k true ≡ b → slice_get n.eqns k ≡ Some e → IsUsed n outputs k → Good n outputs later r
      → (s : Reaching) → s ≡ (if b then r else all_touched (variables_of e) (with_eqn k r)) → Good n outputs later s × IsMarked s.eqns k × ((j : ℕ) → IsMarked r.eqns j → IsMarked s.eqns j)
  enters true k e r is found u g s same =
      let there = read_true r.eqns k (subst (λ c. k < c) (sym g.each) (get_within n.eqns k e found)) is in
      subst (λ z. Good n outputs later z × IsMarked z.eqns k × ((j : ℕ) → IsMarked r.eqns j → IsMarked z.eqns j)) (sym same) (g, there, λ j h. h)
  enters false k e r is found u g s same =
      let middle = with_eqn k r in
      let last = all_touched (variables_of e) middle in
      let m = meets_all (variables_of e) middle in
      let back : (j : ℕ) → IsMarked last.eqns j → IsMarked (slice_set r.eqns k true) j = λ j h. subst (λ es. IsMarked es j) m.eqns h in
      let on : (j : ℕ) → IsMarked r.eqns j → IsMarked last.eqns j = λ j h. subst (λ es. IsMarked es j) (sym m.eqns) (set_kept r.eqns k j h) in
      let here = subst (λ es. IsMarked es k) (sym m.eqns) (set_here r.eqns k (read_false r.eqns k is)) in
      let good : Good n outputs later last = record {
        as_many = m.as_many ∙ g.as_many;
        each = ap length m.eqns ∙ set_length r.eqns k ∙ g.each;
        sound = λ x h. elim (m.only x h) [
          | inl old ↦ g.sound x old
          | inr new ↦ reached_by u.1 k u.0 u.5 u.4 u.2 u.3 (subst (λ f. IsIn x (variables_of f)) (one_of (slice_get n.eqns k) e u.0 found u.2) new)
        ];
        used = λ j h. elim (set_only r.eqns k j (back j h)) [ inl old ↦ g.used j old | inr p ↦ subst (IsUsed n outputs) (sym p) u ];
        closed = λ j f at h y i less. elim (set_only r.eqns k j (back j h)) [
          | inl old ↦ m.kept y (g.closed j f at old y i less)
          | inr p ↦ m.all y (subst (λ z. IsIn y (variables_of z)) (one_of (slice_get n.eqns j) f e at (subst (λ z. slice_get n.eqns z ≡ Some e) (sym p) found)) i) (subst (λ c. y < c) (sym g.as_many) less)
        ];
        waiting = λ x h. elim (m.waiting x h) [ inl old ↦ m.kept x (g.waiting x old) | inr new ↦ new ];
        done = λ x h. elim (m.anew x h) [
          | inl old ↦ elim (g.done x old) [ inl z ↦ inl z | inr z ↦ elim z [ inl w ↦ inr (inl (m.waits x w)) | inr f ↦ inr (inr (λ j d at i. on j (f j d at i))) ] ]
          | inr new ↦ inr (inl new)
        ];
        inputs = λ x h less. m.kept x (g.inputs x h less);
        outputs_are = λ x h less. m.kept x (g.outputs_are x h less);
      } in
      subst (λ z. Good n outputs later z × IsMarked z.eqns k × ((j : ℕ) → IsMarked r.eqns j → IsMarked z.eqns j)) (sym same) (good, here, on)

  enters_eqn : (k : ℕ) (e : FlatEqn) (r : Reaching) → slice_get n.eqns k ≡ Some e → IsUsed n outputs k → Good n outputs later r
      → Good n outputs later (entered k e r) × IsMarked (entered k e r).eqns k × ((j : ℕ) → IsMarked r.eqns j → IsMarked (entered k e r).eqns j)
  unfolding entered
  enters_eqn k e r found u g = enters (slice_index_or r.eqns k true) k e r refl found u g (entered k e r) refl

  enters_all : (ks : List ℕ) (r : Reaching) → ((k : ℕ) → IsIn k ks → IsUsed n outputs k) → Good n outputs later r
      → Good n outputs later (all_entered n ks r) × ((k : ℕ) → IsIn k ks → IsMarked (all_entered n ks r).eqns k) × ((j : ℕ) → IsMarked r.eqns j → IsMarked (all_entered n ks r).eqns j)
  enters_all [] r used g = (g, λ k h. absurd h, λ j h. h)
  enters_all (k ∷ ks) r used g =
      let u = used k (inl refl) in
      let one = enters_eqn k u.0 r u.2 u g in
      let same : entered k u.0 r ≡ entered_at n k r = ap (λ o. entered_if k o r) (sym u.2) in
      let next = entered_at n k r in
      let first = subst (λ z. Good n outputs later z × IsMarked z.eqns k × ((j : ℕ) → IsMarked r.eqns j → IsMarked z.eqns j)) same one in
      let rest = enters_all ks next (λ j h. used j (inr h)) first.0 in
      (rest.0, λ j h. elim h [ inl p ↦ rest.2 j (subst (λ z. IsMarked next.eqns z) (sym p) first.1) | inr i ↦ rest.1 j i ], λ j h. rest.2 j (first.2 j h))

-- ---- definitions

-- an equation with this number defines a variable
abbrev pub Defines : FlatNode → ℕ → ℕ → Type 0
Defines n x k = (e : FlatEqn) × (slice_get n.eqns k ≡ Some e) × IsIn x e.targets

-- the definitions of a variable are the equations that define it
abbrev pub AreDefinitions : FlatNode → Definitions → Type 0
AreDefinitions n d = (x : ℕ) → x < length n.variables → ((k : ℕ) → IsIn k (definitions_at d x) → Defines n x k) × ((k : ℕ) → Defines n x k → IsIn k (definitions_at d x))

module _ (n : FlatNode) (outputs : List ℕ) (d : Definitions) (are : AreDefinitions n d) where
  abbrev Never : ℕ → Type 0
  Never x = ⊥

  follows_one : (r : Reaching) (waiting : List ℕ) (x : ℕ) → r.waiting ≡ waiting ++ x ∷ [] → Good n outputs Never r → Good n outputs Never (followed n d x (without r waiting))
  follows_one r waiting x is g =
      let Later : ℕ → Type 0 = λ y. y ≡ x in
      let apart : (y : ℕ) → IsIn y r.waiting → Later y ⊎ (IsIn y waiting ⊎ Follows n r y) =
      λ y h. elim (in_either y waiting (x ∷ []) (subst (λ ws. IsIn y ws) is h)) [ inl w ↦ inr (inl w) | inr w ↦ elim w [ inl p ↦ inl p | inr none ↦ absurd none ] ] in
      let start = without r waiting in
      let good : Good n outputs Later start = record {
        as_many = g.as_many;
        each = g.each;
        sound = g.sound;
        used = g.used;
        closed = g.closed;
        inputs = g.inputs;
        outputs_are = g.outputs_are;
        waiting = λ y h. g.waiting y (subst (λ ws. IsIn y ws) (sym is) (in_front y waiting (x ∷ []) h));
        done = λ y h. elim (g.done y h) [ inl z ↦ absurd z | inr z ↦ elim z [ inl w ↦ apart y w | inr f ↦ inr (inr f) ] ];
      } in
      let here = g.waiting x (subst (λ ws. IsIn x ws) (sym is) (in_back x waiting (x ∷ []) (inl refl))) in
      let less = subst (λ c. x < c) g.as_many (marked_within r.variables x here) in
      let all = enters_all n outputs Later (definitions_at d x) start (λ k h. let e = (are x less).0 k h in (e.0, x, e.1, e.2, less, g.sound x here)) good in
      let end = followed n d x start in
      let e = all.0 in
      record {
        as_many = e.as_many;
        each = e.each;
        sound = e.sound;
        used = e.used;
        closed = e.closed;
        inputs = e.inputs;
        outputs_are = e.outputs_are;
        waiting = e.waiting;
        done = λ y h. elim (e.done y h) [
          | inl p ↦ inr (inr (λ k f at i. all.1 k ((are x less).1 k (f, at, subst (λ z. IsIn z f.targets) p i))))
          | inr z ↦ inr z
        ];
      }

  follows_to_the_end : (r s : Reaching) → Ends n d r s → Good n outputs Never r → Good n outputs Never s × (s.waiting ≡ [])
  follows_to_the_end r s (at_end none) g = (g, none)
  follows_to_the_end r s (one_more waiting x is rest) g = follows_to_the_end (followed n d x (without r waiting)) s rest (follows_one r waiting x is g)

  all_reached : (s : Reaching) → Good n outputs Never s → s.waiting ≡ [] → (x : ℕ) → IsReached n outputs x → x < length n.variables → IsMarked s.variables x
  all_reached s g none x (reached_input h) less = g.inputs x h less
  all_reached s g none x (reached_output h) less = g.outputs_are x h less
  all_reached s g none y (reached_by x k e h less at i into) within =
      let from = all_reached s g none x h less in
      let follows : Follows n s x = elim (g.done x from) [ inl z ↦ absurd z | inr z ↦ elim z [ inl w ↦ absurd (subst (λ ws. IsIn x ws) none w) | inr f ↦ f ] ] in
      g.closed k e at (follows k e at i) y into within

  pub reached-at_end : (r s : Reaching) → Ends n d r s → Good n outputs Never r → AreReached n outputs (record { variables = s.variables; eqns = s.eqns })
  reached-at_end r s ends start =
      let last = follows_to_the_end r s ends start in
      let g = last.0 in
      record {
        as_many = g.as_many;
        each = g.each;
        variables = λ x less. (λ h. g.sound x h, λ h. all_reached s g last.1 x h less);
        eqns = λ k less. (
          λ h. g.used k h,
          λ u.
              let from = all_reached s g last.1 u.1 u.5 u.4 in
              let follows : Follows n s u.1 = elim (g.done u.1 from) [ inl z ↦ absurd z | inr z ↦ elim z [ inl w ↦ absurd (subst (λ ws. IsIn u.1 ws) last.1 w) | inr f ↦ f ] ] in
              follows k u.0 u.2 u.3,
        );
      }

-- ---- the start

range_in : (a count x : ℕ) → IsIn x (range_with_len a count) → x < a + count
range_in a zero x h = absurd h
range_in a (suc count) x (inl p) = omega (arith, p)
range_in a (suc count) x (inr h) = omega (arith, range_in (a + 1) count x h)

in_range : (a count x : ℕ) → a ≤ x → x < a + count → IsIn x (range_with_len a count)
in_range a zero x h k = absurd (omega (arith, h, k))
in_range a (suc count) x h k = elim (cases_lt a x) [ inl more ↦ inr (in_range (a + 1) count x (omega (arith, more)) (omega (arith, k))) | inr less ↦ inl (omega (arith, less, h)) ]

replicate_length : (count : ℕ) (b : Bool) → length (replicate count b) ≡ count
replicate_length zero b = refl
replicate_length (suc count) b = ap suc (replicate_length count b)

pub good-start : (n : FlatNode) (outputs : List ℕ) → Good n outputs (λ x. ⊥) (first_marked n outputs)
good-start n outputs =
    let none = nothing_marked n in
    let inputs = range_with_len 0 n.inputs in
    let middle = all_touched inputs none in
    let s = first_marked n outputs in
    let m = meets_both none middle s inputs outputs (meets_all inputs none) (meets_all outputs middle) in
    let count = length n.variables in
    let eqns = length n.eqns in
    let long : length none.variables ≡ count = replicate_length count false in
    let unmarked : (k : ℕ) → IsMarked s.eqns k → ⊥ = λ k h. unmarked_nowhere eqns k (subst (λ es. IsMarked es k) m.eqns h) in
    record {
      as_many = m.as_many ∙ long;
      each = ap length m.eqns ∙ replicate_length eqns false;
      sound = λ x h. elim (m.only x h) [
        | inl old ↦ absurd (unmarked_nowhere count x old)
        | inr new ↦ elim (in_either x inputs outputs new) [ inl i ↦ reached_input (let h = range_in 0 n.inputs x i in omega (arith, h)) | inr o ↦ reached_output o ]
      ];
      used = λ k h. absurd (unmarked k h);
      closed = λ k e at h. absurd (unmarked k h);
      waiting = λ x h. elim (m.waiting x h) [ inl old ↦ absurd old | inr new ↦ new ];
      done = λ x h. elim (m.anew x h) [ inl old ↦ absurd (unmarked_nowhere count x old) | inr new ↦ inr (inl new) ];
      inputs = λ x h less. m.all x (in_front x inputs outputs (in_range 0 n.inputs x (omega arith) (omega (arith, h)))) (subst (λ c. x < c) (sym long) less);
      outputs_are = λ x h less. m.all x (in_back x inputs outputs h) (subst (λ c. x < c) (sym long) less);
    }
