-- Names that take values.
use Rattle.std.proofs.Common.{◌≡◌, ◌⊎◌, inl, inr, ℕ, ◌<◌, Bool, true, false, ◌||◌, List, [], ◌∷◌, Option, None, Some, refl, sym, ap, ◌∙◌, arith}
use Rattle.std.specs.Prelude.{⊤}
use Rattle.std.specs.Str.{bytes_eq}
use Rattle.std.proofs.lemmas.Slice.Eq.{bytes_eq-Decides}
use Rattle.hp_tree.specs.Instant.{Place}
use Rattle.law_equations.specs.Flattened.Flatten.{FlatName, When, Rows, copies}
use Rattle.law_equations.specs.Made.Making.{Known, Sketch, Site, Sight, next, bind}
use Rattle.law_equations.specs.Made.Standing.{IsNamed, IsAt, IsFlagged, IsBounded, EqnsMade, AreApart, AreThere}
use Rattle.law_equations.proofs.MadeLemmas.BlockSteps.{nothing-made, in-turn, bound}

-- names with what they take, one after the other
abbrev pub Binding : Type 0
Binding = List ℕ × Option ℕ

abbrev pub binds : Known → Sight → Site → List Binding → Sketch → Sketch
binds k see at [] d = d
binds k see at (b ∷ bs) d = binds k see at bs (bind at (see b.0).value b.1 d)

abbrev pub takes : List Binding → List ℕ → Bool
takes [] x = false
takes (b ∷ bs) x = bytes_eq b.0 x || takes bs x

-- each name once
abbrev pub TakesOnce : List Binding → Type 0
TakesOnce [] = ⊤
TakesOnce (b ∷ bs) = (takes bs b.0 ≡ false) × TakesOnce bs

-- what they take stands for these flat names
abbrev pub AllNamed : (ℕ → FlatName) → (List ℕ → FlatName) → List Binding → Type 0
AllNamed means target [] = ⊤
AllNamed means target (b ∷ bs) = IsNamed means b.1 (target b.0) × AllNamed means target bs

bind_next : (k : Known) (at : Site) (o s : Option ℕ) (d : Sketch) → next (bind at o s d) ≡ next d
bind_next k at None s d = refl
bind_next k at (Some x) s d = refl

or_left : (a b : Bool) → a ≡ true → (a || b) ≡ true
or_left true b h = refl
or_left false b h = absurd cc

or_right : (a b : Bool) → b ≡ true → (a || b) ≡ true
or_right true b h = refl
or_right false b h = h

pub binds-made : (k : Known) (F : FlatName → Option Rows) (means : ℕ → FlatName) (see : Sight) (ck w : When) (rs : List Place) (at : Site) (target : List ℕ → FlatName) (bs : List Binding) (d : Sketch) → IsBounded d → IsFlagged means d.flag ck rs → IsAt means at w rs
    → TakesOnce bs → AllNamed means target bs → AreApart see (takes bs) → AreThere see (takes bs) d
    → EqnsMade F means see (takes bs) (λ x. copies w rs (target x) ∷ []) d (binds k see at bs d) ck rs
binds-made k F means see ck w rs at target [] d b f i once named apart there = nothing-made k F means see ck rs (λ x. false) (λ x. copies w rs (target x) ∷ []) d b f (λ x q. absurd cc)
binds-made k F means see ck w rs at target (t ∷ bs) d b f i once named apart there =
    let e = bind at (see t.0).value t.1 d in
    let first = bound k F means see ck rs at w t.0 t.1 (target t.0) d b f i named.0 (λ y v. there t.0 y (or_left (bytes_eq t.0 t.0) (takes bs t.0) ((bytes_eq-Decides t.0 t.0).1 refl)) v) in
    in-turn k F means see ck rs (λ z. bytes_eq t.0 z) (takes bs) (takes (t ∷ bs)) (λ z. copies w rs (target t.0) ∷ []) (λ x. copies w rs (target x) ∷ []) (λ x. copies w rs (target x) ∷ []) d e (binds k see at bs e)
    first
    (binds-made k F means see ck w rs at target bs e first.bounded first.flag i once.1 named.1
    (λ x z y q r. apart x z y (or_right (bytes_eq t.0 x) (takes bs x) q) (or_right (bytes_eq t.0 z) (takes bs z) r))
    (λ x y q v. let l : y < next d = there x y (or_right (bytes_eq t.0 x) (takes bs x) q) v in let n = bind_next k at (see t.0).value t.1 d in omega (arith, l, n)))
    (λ x q. or_left (bytes_eq t.0 x) (takes bs x) q)
    (λ x q. or_right (bytes_eq t.0 x) (takes bs x) q)
    (λ x q. by x (bytes_eq t.0 x) refl q)
    apart there
  where
    by : (x : List ℕ) (d : Bool) → bytes_eq t.0 x ≡ d → (d || takes bs x) ≡ true
        → (d ≡ true) × (takes bs x ≡ true) × (copies w rs (target x) ∷ [] ≡ copies w rs (target t.0) ∷ copies w rs (target x) ∷ []) ⊎ (d ≡ true) × (takes bs x ≡ false) × (copies w rs (target x) ∷ [] ≡ copies w rs (target t.0) ∷ [])
        ⊎ (d ≡ false) × (takes bs x ≡ true) × (copies w rs (target x) ∷ [] ≡ copies w rs (target x) ∷ [])
    by x true e q =
        let same : t.0 ≡ x = (bytes_eq-Decides t.0 x).0 e in
        inr (inl (refl, (ap (takes bs) (sym same) ∙ once.0), ap (λ y. copies w rs (target y) ∷ []) (sym same)))
    by x false e q = inr (inr (refl, q, refl))
