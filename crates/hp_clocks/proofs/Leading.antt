-- What is told of expressions, one after another, where more of them are to come.
use Rattle.std.proofs.Common.{◌≡◌, ℕ, ◌+◌, ◌<◌, ◌≤◌, List, [], ◌∷◌, length, drop, get_or, refl, sym, ◌∙◌, subst, arith}
use Rattle.std.proofs.Math.Seq.{drop-cons}
use Rattle.std.proofs.Math.Numerals.{add-one}
use Rattle.std.proofs.lemmas.List.{drop_all}
use Rattle.std.specs.Prelude.{Some}
use Rattle.hp_tree.specs.declared.decl.Cons.{Cons}
use Rattle.hp_tree.specs.Expressions.{Expr, exprs_of, parts_of}
use Rattle.hp_meaning.specs.Causal.Clocked.{IsOn, ExprsOn, PartsOn}
use Rattle.hp_clocks.specs.declared.cell.Cell.{Cell}
use Rattle.hp_clocks.specs.Cells.{Clocks, AreCells, Tells, Never}
use Rattle.hp_clocks.specs.Scopes.{Sight, standing, AreThere, Grows}
use Rattle.hp_clocks.proofs.Growing.{IsLocal, grows_of_tells, grows_then, grows_never, standing_local, on_local, step_never}
use Rattle.hp_clocks.proofs.Sampling.{grows_like, all_still_there, operand_grows}

pub drop_next : {A : Type 0} (xs : List A) (i : ℕ) (x : A) → i < length xs → x ≡ get_or xs i x → drop i xs ≡ x ∷ drop (i + 1) xs
drop_next xs i x h p = drop-cons xs i x h ∙ rw (add-one, ← p)

pub drop_end : {A : Type 0} (xs : List A) (i : ℕ) → length xs ≤ i → drop i xs ≡ []
drop_end xs i h = drop_all i xs h

-- nothing more is told
pub grows_none : (cs : List Cell) (P : Clocks → Type 0) → AreCells cs → ((at : Clocks) → P at) → Grows cs cs P
grows_none cs P a h =
    record { cells = a; longer = omega arith; says = λ at f. (f, h at); fits = λ at f p. (at, f, λ i k. refl) }

-- What is told from here on, of what is left, is told of all from the start on.
pub record Leads (before now : List Cell) (Rest All : Clocks → Type 0) : Type 0 where
  pub cells : AreCells now
  pub longer : length before ≤ length now
  pub grows : (after : List Cell) → Grows now after Rest → Grows before after All
  pub never : Never now Rest → Never before All

pub leads_start : (cs : List Cell) (P : Clocks → Type 0) → AreCells cs → Leads cs cs P P
leads_start cs P a = record { cells = a; longer = omega arith; grows = λ after g. g; never = λ n. n }

-- One more is told of.
pub leads_next : (cs ds es : List Cell) (Rest All P Q : Clocks → Type 0) → IsLocal (length ds) Q → ((at : Clocks) → P at × Q at → Rest at) → ((at : Clocks) → Rest at → P at × Q at) → Leads cs ds Rest All → Grows ds es P → Leads cs es Q All
leads_next cs ds es Rest All P Q local into back l g =
    let p : length cs ≤ length ds = l.longer in
    let q : length ds ≤ length es = g.longer in
    record {
      cells = g.cells;
      longer = omega (arith, p, q);
      grows = λ after k. l.grows after (grows_like ds after (λ at. P at × Q at) Rest (grows_then ds es after P Q local g k) (λ at f h. into at h) (λ at f h. back at h));
      never = λ n. l.never (λ at f h. grows_never ds es P Q local g n at f (back at h));
    }

pub leads_never : (cs ds : List Cell) (Rest All P : Clocks → Type 0) → ((at : Clocks) → Rest at → P at) → Leads cs ds Rest All → Never ds P → Never cs All
leads_never cs ds Rest All P back l n = l.never (λ at f h. n at f (back at h))

pub leads_end : (cs ds : List Cell) (Rest All : Clocks → Type 0) → ((at : Clocks) → Rest at) → Leads cs ds Rest All → Grows cs ds All
leads_end cs ds Rest All h l = l.grows ds (grows_none ds Rest l.cells h)

module _ (sight : Sight) where
  abbrev pub Stands : Expr → ℕ → Clocks → Type 0
  Stands e t at = IsOn (standing at sight) e (at t)

  exprs_local : (n : ℕ) (es : List Expr) (t : ℕ) → AreThere n sight → t < n → IsLocal n (λ at. ExprsOn (standing at sight) (exprs_of es) (at t))
  exprs_local n es t h k at more g o =
      subst (λ z. ExprsOn z (exprs_of es) (more t)) (sym (standing_local n at more sight g h)) (subst (λ z. ExprsOn (standing at sight) (exprs_of es) z) (sym (g t k)) o)

  parts_local : (n : ℕ) (x : List ℕ) (ps : List (Cons × Expr)) (t : ℕ) → AreThere n sight → t < n → IsLocal n (λ at. PartsOn (standing at sight) x (parts_of ps) (at t))
  parts_local n x ps t h k at more g o =
      subst (λ z. PartsOn z x (parts_of ps) (more t)) (sym (standing_local n at more sight g h)) (subst (λ z. PartsOn (standing at sight) x (parts_of ps) z) (sym (g t k)) o)

  module _ (cs ds : List Cell) (All : Clocks → Type 0) (t : ℕ) (k : AreThere (length cs) sight) (h : t < length cs) where
    module _ (es : List Expr) (i : ℕ) where
      abbrev Left : Clocks → Type 0
      Left at = ExprsOn (standing at sight) (exprs_of (drop i es)) (at t)

      abbrev Behind : Clocks → Type 0
      Behind at = ExprsOn (standing at sight) (exprs_of (drop (i + 1) es)) (at t)

      pub args_next : (fs : List Cell) (e : Expr) → i < length es → e ≡ get_or es i e → Leads cs ds Left All → Grows ds fs (Stands e t) → Leads cs fs Behind All
      args_next fs e l p q g =
          let n : length cs ≤ length ds = q.longer in
          let d : drop i es ≡ e ∷ drop (i + 1) es = drop_next es i e l p in
          leads_next cs ds fs Left All (Stands e t) Behind (exprs_local (length ds) (drop (i + 1) es) t (all_still_there (length cs) (length ds) sight n k) (omega (arith, n, h)))
          (λ at r. subst (λ z. ExprsOn (standing at sight) (exprs_of z) (at t)) (sym d) r)
          (λ at r. subst (λ z. ExprsOn (standing at sight) (exprs_of z) (at t)) d r) q g

      pub args_end : length es ≤ i → Leads cs ds Left All → Grows cs ds All
      args_end l q = leads_end cs ds Left All (λ at. subst (λ z. ExprsOn (standing at sight) (exprs_of z) (at t)) (sym (drop_end es i l)) tt) q

    module _ (x : List ℕ) (ps : List (Cons × Expr)) (i : ℕ) where
      abbrev PartsLeft : Clocks → Type 0
      PartsLeft at = PartsOn (standing at sight) x (parts_of (drop i ps)) (at t)

      abbrev PartsBehind : Clocks → Type 0
      PartsBehind at = PartsOn (standing at sight) x (parts_of (drop (i + 1) ps)) (at t)

      pub parts_next : (es fs : List Cell) (n : ℕ) (p : Cons × Expr) → i < length ps → p ≡ get_or ps i p → Leads cs ds PartsLeft All → n ≡ length ds → Tells ds es (λ at. at n ≡ (p.0, x) ∷ at t) → Grows es fs (Stands p.1 n) → Leads cs fs PartsBehind All
      parts_next es fs n p l e q m u g =
          let w : length cs ≤ length ds = q.longer in
          let d : drop i ps ≡ p ∷ drop (i + 1) ps = drop_next ps i p l e in
          let there : AreThere (length ds) sight = all_still_there (length cs) (length ds) sight w k in
          let in_ds : t < length ds = omega (arith, w, h) in
          leads_next cs ds fs PartsLeft All (λ at. IsOn (standing at sight) p.1 ((p.0, x) ∷ at t)) PartsBehind (parts_local (length ds) x (drop (i + 1) ps) t there in_ds)
          (λ at r. subst (λ z. PartsOn (standing at sight) x (parts_of z) (at t)) (sym d) r)
          (λ at r. subst (λ z. PartsOn (standing at sight) x (parts_of z) (at t)) d r) q
          (operand_grows sight ds es fs n t (p.0, x) p.1 q.cells there m in_ds u g)

      pub parts_never : (es : List Cell) (n : ℕ) (p : Cons × Expr) → i < length ps → p ≡ get_or ps i p → Leads cs ds PartsLeft All → n ≡ length ds → Tells ds es (λ at. at n ≡ (p.0, x) ∷ at t) → Never es (Stands p.1 n) → Never cs All
      parts_never es n p l e q m u g =
          let w : length cs ≤ length ds = q.longer in
          let there : AreThere (length ds) sight = all_still_there (length cs) (length ds) sight w k in
          let in_ds : t < length ds = omega (arith, w, h) in
          leads_never cs ds PartsLeft All (λ at. IsOn (standing at sight) p.1 ((p.0, x) ∷ at t)) (λ at r. (subst (λ z. PartsOn (standing at sight) x (parts_of z) (at t)) (drop_next ps i p l e) r).0) q
          (step_never ds es n t (p.0, x) (Stands p.1 n) (λ at. IsOn (standing at sight) p.1 ((p.0, x) ∷ at t)) q.cells m in_ds u g
          (λ at more same is r.
          subst (λ z. IsOn z p.1 (more n)) (sym (standing_local (length ds) at more sight same there)) (subst (λ z. IsOn (standing at sight) p.1 z) (sym is) r)))

      pub parts_end : length ps ≤ i → Leads cs ds PartsLeft All → Grows cs ds All
      parts_end l q = leads_end cs ds PartsLeft All (λ at. subst (λ z. PartsOn (standing at sight) x (parts_of z) (at t)) (sym (drop_end ps i l)) tt) q

  -- ---- two expressions on one clock

  module _ (cs ds : List Cell) (t : ℕ) (k : AreThere (length cs) sight) (h : t < length cs) (a b : Expr) where
    pub both_grow : (es : List Cell) → Grows cs ds (Stands a t) → Grows ds es (Stands b t) → Grows cs es (λ at. Stands a t at × Stands b t at)
    both_grow es f g = grows_then cs ds es (Stands a t) (Stands b t) (on_local (length cs) sight b t k h) f g

    pub second_never : Grows cs ds (Stands a t) → Never ds (Stands b t) → Never cs (λ at. Stands a t at × Stands b t at)
    second_never f n = grows_never cs ds (Stands a t) (Stands b t) (on_local (length cs) sight b t k h) f n

  module _ (cs ds es : List Cell) (t : ℕ) (k : AreThere (length cs) sight) (h : t < length cs) (a b c : Expr) where
    abbrev Three : Clocks → Type 0
    Three at = Stands a t at × Stands b t at × Stands c t at

    abbrev Two : Clocks → Type 0
    Two at = Stands a t at × Stands b t at

    pub three_grow : (fs : List Cell) → Grows cs ds (Stands a t) → Grows ds es (Stands b t) → Grows es fs (Stands c t) → Grows cs fs Three
    three_grow fs f g i =
        grows_like cs fs (λ at. Two at × Stands c t at) Three (grows_then cs es fs Two (Stands c t) (on_local (length cs) sight c t k h) (both_grow cs ds t k h a b es f g) i)
        (λ at l r. (r.0.0, r.0.1, r.1)) (λ at l r. ((r.0, r.1), r.2))

    pub third_never : Grows cs ds (Stands a t) → Grows ds es (Stands b t) → Never es (Stands c t) → Never cs Three
    third_never f g n at l r =
        grows_never cs es Two (Stands c t) (on_local (length cs) sight c t k h) (both_grow cs ds t k h a b es f g) n at l ((r.0, r.1), r.2)

  -- ---- a `merge`

  module _ (cs ds : List Cell) (t : ℕ) (x : List ℕ) (ps : List (Cons × Expr)) (k : AreThere (length cs) sight) (h : t < length cs) where
    abbrev IsName : Clocks → Type 0
    IsName at = standing at sight x ≡ Some (at t)

    abbrev AreParts : Clocks → Type 0
    AreParts at = PartsOn (standing at sight) x (parts_of ps) (at t)

    pub merge_grows : (es : List Cell) → Tells cs ds IsName → Grows ds es AreParts → Grows cs es (λ at. IsName at × AreParts at)
    merge_grows es u g =
        grows_then cs ds es IsName AreParts (parts_local (length cs) x ps t k h) (grows_of_tells cs ds IsName u) g
