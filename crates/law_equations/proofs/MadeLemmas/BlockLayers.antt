-- What names stand for in a block.
use Rattle.std.proofs.Common.{◌≡◌, ◌⊎◌, inl, inr, ℕ, ◌+◌, ◌<◌, ◌≤◌, Bool, true, false, ◌&&◌, not, if◌then◌else◌, List, [], ◌∷◌, length, Option, None, Some, refl, sym, ap, ap₂, subst, ◌∙◌, arith}
use Rattle.hp_tree.specs.Blocks.{Decl, block, Eqns}
use Rattle.hp_tree.specs.Programs.{TypeDecl}
use Rattle.hp_tree.specs.Instant.{Named, Place}
use Rattle.hp_tree.specs.Meaning.{declares, some_defines}
use Rattle.law_equations.specs.Flattened.Flatten.{FlatName, At, When, Rows, Prefix, Scope, inside_at, lasts_at}
use Rattle.law_equations.specs.Made.Making.{Known, Sketch, Site, Sight, Standing, Body, Inner, Seen, next, or_entry, over, own_names, remember_all, type_declared, declared, names_of_eqns, is_in, each_once}
use Rattle.law_equations.specs.Made.Blocks.{IsPlain, IsOwn, SaysOf, LayerSays}
use Rattle.law_equations.specs.Made.Sights.{Entry}
use Rattle.law_equations.specs.Made.Keeping.{LastsKept}
use Rattle.law_equations.specs.Made.Standing.{Knows, Agrees, IsNamed, Sees, IsAt, defs, IsBounded, Steps, IsDone, Promised, Remembers, EqnsMade, AreApart, AreThere}
use Rattle.law_equations.specs.Flattened.Numbered.{AreRows, StandFor}
use Rattle.law_equations.proofs.MadeLemmas.StepLaws.{split_at}
use Rattle.law_equations.proofs.MadeLemmas.LabelLaws.{same-labelled}
use Rattle.law_equations.proofs.MadeLemmas.PromiseLaws.{joined}
use Rattle.law_equations.proofs.MadeLemmas.LayerLaws.{in-eqns, once-in, names-once, is_owned, owned, flats, flats_length, OwnMade, own-made, flats_kept}
use Rattle.law_equations.proofs.MadeLemmas.LastLaws.{Alike, alike_value, Here, alike-all, flag-all, Remembering, remembered-made}

-- no two places of a part are one
abbrev pub IsInjective : Prefix → Type 0
IsInjective here = (p q : Place) → here p ≡ here q → p ≡ q

-- names that a block defines, and whose variables are not its own
abbrev pub Outer : Standing → List Decl → Eqns → List ℕ → Bool
Outer standing ds es x = some_defines es x && not (is_owned standing ds x)

not_both : (a b : Bool) → not b ≡ true → (a && b) ≡ false
not_both true true h = absurd cc
not_both true false h = refl
not_both false b h = refl

split_and : (a b : Bool) → (a && b) ≡ true → (a ≡ true) × (b ≡ true)
split_and true true h = (refl, refl)
split_and true false h = absurd cc
split_and false b h = absurd cc

own_like : (means : ℕ → FlatName) (ds : List Decl) (here : Prefix) (x : List ℕ) (o p : Option Entry) (e : Entry) (v : ℕ) → o ≡ Some e → e.is_local ≡ declares ds x → e.value ≡ Some v → means v ≡ At (here (Named x ∷ [])) → Alike o p → IsOwn means ds here x p
own_like means ds here x o None e v i l h m a = absurd (subst (λ o. Alike o None) i a)
own_like means ds here x o (Some g) e v i l h m a =
    let b = subst (λ o. Alike o (Some g)) i a in
    record { entry = g; is = refl; local = sym b.1 ∙ l; variable = v; value = sym b.0 ∙ h; stands = m }

none_like : (p : Option Entry) → Alike None p → p ≡ None
none_like None a = refl
none_like (Some g) a = absurd a

same_place : (p q : Place) → At p ≡ At q → p ≡ q
same_place p q h = cc

same_named : (x z : List ℕ) → (Named x ∷ []) ≡ (Named z ∷ []) → x ≡ z
same_named x z h = cc

module _ (types : List TypeDecl) (outputs : List ℕ → List (List ℕ)) (k : Known) (knows : Knows types outputs k) (F : FlatName → Option Rows) (memory : Remembers F) (standing : Standing) (out : Sight) (at : Site) (here : Prefix) (ck : When) (rs : List Place)
    (ds : List Decl) (es : Eqns) (d : Sketch) (plain : IsPlain (block ds es)) where
  abbrev pub names : List (List ℕ)
  names = each_once [] (names_of_eqns es)

  abbrev pub before : Seen
  before = (declared k ds out, d)

  abbrev pub owning : Seen
  owning = own_names standing ds out names before

  abbrev pub after : Seen
  after = remember_all k at out ds owning

  pub own : OwnMade standing ds out here names (owned standing ds names) before owning
  own = own-made standing ds out here names before (names-once (names_of_eqns es))

  in_names : (x : List ℕ) → is_in names x ≡ some_defines es x
  in_names x = once-in (names_of_eqns es) x ∙ in-eqns es plain.2 x

  declared_over : (x : List ℕ) → ((over before.0 out x).value ≡ (out x).value) × ((over before.0 out x).last ≡ (out x).last)
  declared_over x = by (declares ds x)
    where
      by : (b : Bool)
          → ((or_entry (if b then Some (record { ty = type_declared k ds x; value = (out x).value; last = (out x).last; is_local = true }) else None) (out x)).value ≡ (out x).value)
          × ((or_entry (if b then Some (record { ty = type_declared k ds x; value = (out x).value; last = (out x).last; is_local = true }) else None) (out x)).last ≡ (out x).last)
      by true = (refl, refl)
      by false = (refl, refl)

  -- a name that the block owns, or none
  of_name : (x : List ℕ) → ((is_in names x ≡ true) × (is_owned standing ds x ≡ true)) ⊎ ((is_in names x && is_owned standing ds x) ≡ false)
  of_name x = by (is_in names x) (is_owned standing ds x) refl refl
    where
      by : (a b : Bool) → is_in names x ≡ a → is_owned standing ds x ≡ b → ((is_in names x ≡ true) × (is_owned standing ds x ≡ true)) ⊎ ((is_in names x && is_owned standing ds x) ≡ false)
      by true true e f = inl (e, f)
      by true false e f = inr (ap₂ (λ a b. a && b) e f)
      by false b e f = inr (ap (λ a. a && is_owned standing ds x) e)

  last_kept : (x : List ℕ) → (over owning.0 out x).last ≡ (out x).last
  last_kept x = by (of_name x)
    where
      by : ((is_in names x ≡ true) × (is_owned standing ds x ≡ true)) ⊎ ((is_in names x && is_owned standing ds x) ≡ false) → (over owning.0 out x).last ≡ (out x).last
      by (inl h) = let o = own.own x h.0 h.1 in ap (λ o. (or_entry o (out x)).last) o.is ∙ o.last_is ∙ (declared_over x).1
      by (inr h) = ap (λ o. (or_entry o (out x)).last) (own.others x h) ∙ (declared_over x).1

  -- what the block declares it owns
  owns : (x : List ℕ) → declares ds x ≡ true → (is_in names x ≡ true) × (is_owned standing ds x ≡ true)
  owns x q = (in_names x ∙ plain.1 x q, by standing)
    where
      by : (s : Standing) → is_owned s ds x ≡ true
      by Body = q
      by Inner = refl

  here_owned : Here ds owning.0
  here_owned x q = let h = owns x q in let o = own.own x h.0 h.1 in (o.entry, o.is)

  owned_value : (means : ℕ → FlatName) → Agrees means (next d) (flats here (owned standing ds names)) → (x : List ℕ) → is_in names x ≡ true → is_owned standing ds x ≡ true → IsNamed means (over owning.0 out x).value (At (here (Named x ∷ [])))
  owned_value means a x q o =
      let f = own.own x q o in
      subst (λ u. IsNamed means u (At (here (Named x ∷ [])))) (sym (ap (λ o. (or_entry o (out x)).value) f.is ∙ f.value)) (f.stands means a)

  grows : next owning.1 ≡ next d + length (flats here (owned standing ds names))
  grows = own.grown ∙ ap (λ n. next d + n) (sym (flats_length here (owned standing ds names)))

  bounded_owning : IsBounded d → IsBounded owning.1
  bounded_owning b x l = let e = own.eqns in ap (λ es. defs (record d { eqns = es }) x) e ∙ b x (let g = own.grown in omega (arith, g))

  -- ---- what names stand for behind the layer

  abbrev pub see : Sight
  see = over after.0 out

  like : (x : List ℕ) → Alike (owning.0 x) (after.0 x)
  like x = alike-all types outputs k knows F memory at out here ck rs ds owning here_owned x

  value_kept : (x : List ℕ) → (see x).value ≡ (over owning.0 out x).value
  value_kept x = sym (alike_value (owning.0 x) (after.0 x) (out x) (like x))

  pub outside-value : (x : List ℕ) → (is_in names x && is_owned standing ds x) ≡ false → (see x).value ≡ (out x).value
  outside-value x h = value_kept x ∙ ap (λ o. (or_entry o (out x)).value) (own.others x h) ∙ (declared_over x).0

  -- what is known around the block
  pub record Around (means : ℕ → FlatName) (sc lsc : Scope) : Type 0 where
    pub bounded : IsBounded d
    pub site : IsAt means at ck rs
    pub values : (x : List ℕ) → some_defines es x ≡ false → IsNamed means (out x).value (sc x)
    pub lasts : (x : List ℕ) → IsNamed means (out x).last (lsc x)
    pub outer : (x : List ℕ) → Outer standing ds es x ≡ true → IsNamed means (out x).value (At (here (Named x ∷ [])))

  -- and behind its layer
  pub record LayerMade (means : ℕ → FlatName) (sc lsc : Scope) : Type 0 where
    pub steps : Steps F means owning.1 after.1
    pub sees : Sees means see (inside_at es sc here) (lasts_at types ds lsc here ck rs)
    pub says : ((x : List ℕ) → is_owned standing ds x ≡ true) → LayerSays means ds es here after.0
    pub agrees : Agrees means (next d) (flats here (owned standing ds names))

  seen_value : (means : ℕ → FlatName) (sc lsc : Scope) → Around means sc lsc → Agrees means (next d) (flats here (owned standing ds names)) → (x : List ℕ) → IsNamed means (see x).value (inside_at es sc here x)
  seen_value means sc lsc s a x = by (some_defines es x) refl (of_name x)
    where
      by : (b : Bool) → some_defines es x ≡ b → ((is_in names x ≡ true) × (is_owned standing ds x ≡ true)) ⊎ ((is_in names x && is_owned standing ds x) ≡ false)
          → IsNamed means (see x).value (if b then At (here (Named x ∷ [])) else sc x)
      by true e (inl h) = subst (λ o. IsNamed means o (At (here (Named x ∷ [])))) (sym (value_kept x)) (owned_value means a x h.0 h.1)
      by true e (inr h) =
          let no : is_owned standing ds x ≡ false = sym (ap (λ b. b && is_owned standing ds x) (in_names x ∙ e)) ∙ h in
          subst (λ o. IsNamed means o (At (here (Named x ∷ [])))) (sym (outside-value x h)) (s.outer x (ap₂ (λ a b. a && not b) e no))
      by false e (inl h) = absurd (let no : true ≡ false = sym h.0 ∙ in_names x ∙ e in cc)
      by false e (inr h) = subst (λ o. IsNamed means o (sc x)) (sym (outside-value x h)) (s.values x e)

  says_own : (means : ℕ → FlatName) → Agrees means (next d) (flats here (owned standing ds names)) → (x : List ℕ) → is_in names x ≡ true → is_owned standing ds x ≡ true → IsOwn means ds here x (after.0 x)
  says_own means a x q o =
      let f = own.own x q o in
      own_like means ds here x (owning.0 x) (after.0 x) f.entry f.variable f.is f.local f.value (f.stands means a) (like x)

  says_all : (means : ℕ → FlatName) → Agrees means (next d) (flats here (owned standing ds names)) → ((x : List ℕ) → is_owned standing ds x ≡ true) → LayerSays means ds es here after.0
  says_all means a all x = by (some_defines es x) (declares ds x) refl refl
    where
      by : (b c : Bool) → some_defines es x ≡ b → declares ds x ≡ c → SaysOf b c means ds here x (after.0 x)
      by true c e f = says_own means a x (in_names x ∙ e) (all x)
      by false true e f = absurd (let no : true ≡ false = sym (plain.1 x f) ∙ e in cc)
      by false false e f =
          let none : owning.0 x ≡ None = own.others x (ap (λ b. b && is_owned standing ds x) (in_names x ∙ e)) ∙ ap (λ b. if b then Some (record { ty = type_declared k ds x; value = (out x).value; last = (out x).last; is_local = true }) else None) f in
          none_like (after.0 x) (subst (λ o. Alike o (after.0 x)) none (like x))

  pub layer-made : (sc lsc : Scope) → LastsKept memory.keeps types ds here ck rs → Promised memory.keeps d after.1 (λ means. Around means sc lsc → LayerMade means sc lsc)
  layer-made sc lsc keep =
      let owned_names : Promised memory.keeps d owning.1 (λ means. Agrees means (next d) (flats here (owned standing ds names))) =
      record {
        names = flats here (owned standing ds names);
        kept = flats_kept memory.keeps here (owned standing ds names);
        grown = grows;
        labelled = λ means a. same-labelled means d.eqns owning.1.eqns own.eqns;
        facts = λ means a. a;
      } in
      joined d owning.1 after.1 (λ means. Agrees means (next d) (flats here (owned standing ds names))) (Remembering types outputs k knows F memory at out here ck rs ds lsc owning after) _
      owned_names
      (remembered-made types outputs k knows F memory at out here ck rs ds lsc owning plain.0 here_owned keep)
      (λ means a r s.
      let made = r (bounded_owning s.bounded) s.site (λ x q. let h = owns x q in owned_value means a x h.0 h.1) (λ x. subst (λ o. IsNamed means o (lsc x)) (sym (last_kept x)) (s.lasts x)) in
      record { steps = made.0; sees = λ x. (seen_value means sc lsc s a x, made.1 x); says = says_all means a; agrees = a })

  pub layer-flag : after.1.flag ≡ d.flag
  layer-flag = flag-all types outputs k knows F memory at out here ck rs ds owning ∙ own.flag

  -- no two names that the block defines have one variable, and their variables are there
  pub layer-apart : IsInjective here → (means : ℕ → FlatName) (sc lsc : Scope) → LayerMade means sc lsc → AreApart see (some_defines es)
  layer-apart injective means sc lsc m x z y q r v w =
      let first : means y ≡ At (here (Named x ∷ [])) = is_at x y q v in
      let second : means y ≡ At (here (Named z ∷ [])) = is_at z y r w in
      same_named x z (injective (Named x ∷ []) (Named z ∷ []) (same_place (here (Named x ∷ [])) (here (Named z ∷ [])) (sym first ∙ second)))
    where
      is_at : (x : List ℕ) (y : ℕ) → some_defines es x ≡ true → (see x).value ≡ Some y → means y ≡ At (here (Named x ∷ []))
      is_at x y q v = subst (λ o. IsNamed means o (At (here (Named x ∷ [])))) v (subst (IsNamed means (see x).value) (ap (λ b. if b then At (here (Named x ∷ [])) else sc x) q) (m.sees x).0)

  pub layer-there : AreThere out (Outer standing ds es) d → (means : ℕ → FlatName) (sc lsc : Scope) → LayerMade means sc lsc → AreThere see (some_defines es) after.1
  layer-there there means sc lsc m x y q v = by (of_name x)
    where
      by : ((is_in names x ≡ true) × (is_owned standing ds x ≡ true)) ⊎ ((is_in names x && is_owned standing ds x) ≡ false) → y < next after.1
      by (inl h) =
          let f = own.own x h.0 h.1 in
          let same : Some f.variable ≡ Some y = sym (value_kept x ∙ ap (λ o. (or_entry o (out x)).value) f.is ∙ f.value) ∙ v in
          let same' : f.variable ≡ y = cc in
          let l = f.below in let g = own.grown in let s = m.steps.grown in
          omega (arith, same', l, g, s)
      by (inr h) =
          let no : is_owned standing ds x ≡ false = sym (ap (λ b. b && is_owned standing ds x) (in_names x ∙ q)) ∙ h in
          let l : y < next d = there x y (ap₂ (λ a b. a && not b) q no) (sym (outside-value x h) ∙ v) in
          let g = own.grown in let s = m.steps.grown in
          omega (arith, l, g, s)

  -- ---- the whole of a block

  -- the variable of a name that the block defines is one of its own, or outer
  low : AreThere out (Outer standing ds es) d → (x : List ℕ) (y : ℕ) → some_defines es x ≡ true → (see x).value ≡ Some y → y < next owning.1
  low there x y q v = by (of_name x)
    where
      by : ((is_in names x ≡ true) × (is_owned standing ds x ≡ true)) ⊎ ((is_in names x && is_owned standing ds x) ≡ false) → y < next owning.1
      by (inl h) =
          let f = own.own x h.0 h.1 in
          let same : Some f.variable ≡ Some y = sym (value_kept x ∙ ap (λ o. (or_entry o (out x)).value) f.is ∙ f.value) ∙ v in
          let same' : f.variable ≡ y = cc in
          let l = f.below in let g = own.grown in
          omega (arith, same', l, g)
      by (inr h) =
          let no : is_owned standing ds x ≡ false = sym (ap (λ b. b && is_owned standing ds x) (in_names x ∙ q)) ∙ h in
          let l : y < next d = there x y (ap₂ (λ a b. a && not b) q no) (sym (outside-value x h) ∙ v) in
          let g = own.grown in
          omega (arith, l, g)

  -- a variable that was there before is outer
  was_outer : (x : List ℕ) (y : ℕ) → y < next d → some_defines es x ≡ true → (see x).value ≡ Some y → (Outer standing ds es x ≡ true) × ((out x).value ≡ Some y)
  was_outer x y l q v = by (of_name x)
    where
      by : ((is_in names x ≡ true) × (is_owned standing ds x ≡ true)) ⊎ ((is_in names x && is_owned standing ds x) ≡ false) → (Outer standing ds es x ≡ true) × ((out x).value ≡ Some y)
      by (inl h) =
          let f = own.own x h.0 h.1 in
          let same : Some f.variable ≡ Some y = sym (value_kept x ∙ ap (λ o. (or_entry o (out x)).value) f.is ∙ f.value) ∙ v in
          let same' : f.variable ≡ y = cc in
          let m = f.above in
          absurd (omega (arith, same', l, m))
      by (inr h) =
          let no : is_owned standing ds x ≡ false = sym (ap (λ b. b && is_owned standing ds x) (in_names x ∙ q)) ∙ h in
          (ap₂ (λ a b. a && not b) q no, sym (outside-value x h) ∙ v)

  outer_seen : (x : List ℕ) → Outer standing ds es x ≡ true → (some_defines es x ≡ true) × ((see x).value ≡ (out x).value)
  outer_seen x q =
      let s = split_and (some_defines es x) (not (is_owned standing ds x)) q in
      (s.0, outside-value x (not_both (is_in names x) (is_owned standing ds x) s.1))

  defs_owning : (y : ℕ) → defs owning.1 y ≡ defs d y
  defs_owning y = ap (λ es. defs (record d { eqns = es }) y) own.eqns

  module _ (means : ℕ → FlatName) (sc lsc : Scope) (m : LayerMade means sc lsc) (there : AreThere out (Outer standing ds es) d) (e : Sketch) (rows : List ℕ → Rows) (made : EqnsMade F means see (some_defines es) rows after.1 e ck rs)
      (covered : (x : List ℕ) → some_defines es x ≡ true → F (At (here (Named x ∷ []))) ≡ Some (rows x)) (bounded : IsBounded d) where
    before_after : (y : ℕ) → y < next d → defs after.1 y ≡ defs d y
    before_after y l = m.steps.kept y (let g = own.grown in omega (arith, l, g)) ∙ defs_owning y

    stands_at : (x : List ℕ) (y : ℕ) → some_defines es x ≡ true → (see x).value ≡ Some y → means y ≡ At (here (Named x ∷ []))
    stands_at x y q v = subst (λ o. IsNamed means o (At (here (Named x ∷ [])))) v (subst (IsNamed means (see x).value) (ap (λ b. if b then At (here (Named x ∷ [])) else sc x) q) (m.sees x).0)

    own_done : (y : ℕ) → next d ≤ y → y < next owning.1 → IsDone F means e y
    own_done y l u =
        let f = own.each y l u in
        let q : some_defines es f.0 ≡ true = sym (in_names f.0) ∙ f.1 in
        let v : (see f.0).value ≡ Some y = value_kept f.0 ∙ f.3 in
        let g = m.steps.grown in
        let none : defs after.1 y ≡ [] = m.steps.kept y u ∙ defs_owning y ∙ bounded y l in
        let r : AreRows means (defs e y) (rows f.0) = made.own f.0 q y (omega (arith, u, g)) v [] (subst (λ ds. AreRows means ds []) (sym none) tt) in
        subst (λ o. StandFor means (defs e y) (means y) o) (sym (ap F (stands_at f.0 y q v) ∙ covered f.0 q)) r

    last_done : (y : ℕ) → next owning.1 ≤ y → y < next after.1 → IsDone F means e y
    last_done y l u =
        subst (λ ds. StandFor means ds (means y) (F (means y)))
        (sym (made.kept y u (λ x q v. absurd (let t = low there x y q v in omega (arith, l, t))))) (m.steps.done y l u)

    all_done : (y : ℕ) → next d ≤ y → y < next e → (y < next owning.1) ⊎ (next owning.1 ≤ y) → (y < next after.1) ⊎ (next after.1 ≤ y) → IsDone F means e y
    all_done y l u (inl h) g = own_done y l h
    all_done y l u (inr h) (inl g) = last_done y h g
    all_done y l u (inr h) (inr g) = made.done y g u

    pub whole : EqnsMade F means out (Outer standing ds es) rows d e ck rs
    whole =
        record {
          grown = let g = own.grown in let h = m.steps.grown in let i = made.grown in omega (arith, g, h, i);
          kept = λ y l no.
              made.kept y (let g = own.grown in let h = m.steps.grown in omega (arith, l, g, h)) (λ x q v. let o = was_outer x y l q v in no x o.0 o.1)
              ∙ before_after y l;
          own = λ x q y l v rows a.
              let o = outer_seen x q in
              made.own x o.0 y (let g = own.grown in let h = m.steps.grown in omega (arith, l, g, h)) (o.1 ∙ v) rows (subst (λ ds. AreRows means ds rows) (sym (before_after y l)) a);
          done = λ y l u. all_done y l u (split_at y (next owning.1)) (split_at y (next after.1));
          bounded = made.bounded;
          flag = made.flag;
        }
