-- Steps over equations.
use Rattle.std.proofs.Common.{◌≡◌, ◌⊎◌, inl, inr, ℕ, ◌<◌, ◌≤◌, Bool, true, false, List, [], ◌∷◌, ◌++◌, Option, None, Some, refl, sym, ap, subst, ◌∙◌, arith}
use Rattle.std.proofs.lemmas.List.{append-nil, append_assoc}
use Rattle.std.specs.Str.{bytes_eq}
use Rattle.std.proofs.lemmas.Slice.Eq.{bytes_eq-Decides}
use Rattle.hp_tree.specs.Instant.{Place}
use Rattle.hp_flat.specs.Equations.{FlatEqn}
use Rattle.law_equations.specs.Flattened.Flat.{name}
use Rattle.law_equations.specs.Flattened.Flatten.{FlatName, When, Rows, copies}
use Rattle.law_equations.specs.Flattened.Numbered.{IsArg, AreRows, StandFor}
use Rattle.law_equations.specs.Made.Making.{Known, Sketch, Site, Sight, next, with_eqn, atom_of, copy_of, bind}
use Rattle.law_equations.specs.Made.Standing.{IsNamed, IsAt, IsFlagged, defs, IsBounded, IsDone, Steps, EqnsMade, AreApart, AreThere}
use Rattle.law_equations.proofs.MadeLemmas.StepLaws.{split_at, defs-same, defs-new, rows-more}

module _ (k : Known) (F : FlatName → Option Rows) (means : ℕ → FlatName) (see : Sight) (ck : When) (rs : List Place) where
  -- nothing is made
  pub nothing-made : (defined : List ℕ → Bool) (rows : List ℕ → Rows) (d : Sketch) → IsBounded d → IsFlagged means d.flag ck rs → ((x : List ℕ) → defined x ≡ true → rows x ≡ []) → EqnsMade F means see defined rows d d ck rs
  nothing-made defined rows d b f h =
      record {
        grown = omega arith;
        kept = λ y l n. refl;
        own = λ x q y l v before a. subst (λ r. AreRows means (defs d y) r) (sym (ap (λ r. before ++ r) (h x q) ∙ append-nil before)) a;
        done = λ y l u. absurd (omega arith);
        bounded = b;
        flag = f;
      }

  -- steps that define no name come first
  pub steps-first : (defined : List ℕ → Bool) (rows : List ℕ → Rows) (d e f : Sketch) → Steps F means d e → EqnsMade F means see defined rows e f ck rs → AreThere see defined d → EqnsMade F means see defined rows d f ck rs
  steps-first defined rows d e f s m there =
      record {
        grown = let g = s.grown in let h = m.grown in omega (arith, g, h);
        kept = λ y l n. m.kept y (let g = s.grown in omega (arith, g)) n ∙ s.kept y l;
        own = λ x q y l v before a. m.own x q y (let g = s.grown in omega (arith, g)) v before (subst (λ ds. AreRows means ds before) (sym (s.kept y l)) a);
        done = λ y l u. by y l u (split_at y (next e));
        bounded = m.bounded;
        flag = m.flag;
      }
    where
      by : (y : ℕ) → next d ≤ y → y < next f → (y < next e) ⊎ (next e ≤ y) → IsDone F means f y
      by y l u (inl q) =
          subst (λ ds. StandFor means ds (means y) (F (means y)))
          (sym (m.kept y q (λ x r v. absurd (let t : y < next d = there x y r v in omega (arith, t))))) (s.done y l q)
      by y l u (inr q) = m.done y q u

  -- two in turn, each of which gives names what is theirs
  pub in-turn : (defined after all : List ℕ → Bool) (rows more whole : List ℕ → Rows) (d e f : Sketch)
      → EqnsMade F means see defined rows d e ck rs → EqnsMade F means see after more e f ck rs
      → ((x : List ℕ) → defined x ≡ true → all x ≡ true) → ((x : List ℕ) → after x ≡ true → all x ≡ true)
      → ((x : List ℕ) → all x ≡ true → (defined x ≡ true) × (after x ≡ true) × (whole x ≡ rows x ++ more x) ⊎ (defined x ≡ true) × (after x ≡ false) × (whole x ≡ rows x) ⊎ (defined x ≡ false) × (after x ≡ true) × (whole x ≡ more x))
      → AreApart see all → AreThere see all d → EqnsMade F means see all whole d f ck rs
  in-turn defined after all rows more whole d e f m n first second cases apart there =
      record {
        grown = let g = m.grown in let h = n.grown in omega (arith, g, h);
        kept = λ y l no. n.kept y (let g = m.grown in omega (arith, g)) (λ x q v. no x (second x q) v) ∙ m.kept y l (λ x q v. no x (first x q) v);
        own = λ x q y l v before a. by x q y l v before a (cases x q);
        done = λ y l u. new y l u (split_at y (next e));
        bounded = n.bounded;
        flag = n.flag;
      }
    where
      later : (y : ℕ) → y < next d → y < next e
      later y l = let g = m.grown in omega (arith, g)

      none_after : (x : List ℕ) (y : ℕ) → all x ≡ true → (see x).value ≡ Some y → after x ≡ false → (z : List ℕ) → after z ≡ true → (see z).value ≡ Some y → ⊥
      none_after x y q v f z r w = let same : x ≡ z = apart x z y q (second z r) v w in let no : true ≡ false = sym r ∙ ap after (sym same) ∙ f in absurd cc

      none_before : (x : List ℕ) (y : ℕ) → all x ≡ true → (see x).value ≡ Some y → defined x ≡ false → (z : List ℕ) → defined z ≡ true → (see z).value ≡ Some y → ⊥
      none_before x y q v f z r w = let same : x ≡ z = apart x z y q (first z r) v w in let no : true ≡ false = sym r ∙ ap defined (sym same) ∙ f in absurd cc

      by : (x : List ℕ) → all x ≡ true → (y : ℕ) → y < next d → (see x).value ≡ Some y → (before : Rows) → AreRows means (defs d y) before
          → (defined x ≡ true) × (after x ≡ true) × (whole x ≡ rows x ++ more x) ⊎ (defined x ≡ true) × (after x ≡ false) × (whole x ≡ rows x) ⊎ (defined x ≡ false) × (after x ≡ true) × (whole x ≡ more x)
          → AreRows means (defs f y) (before ++ whole x)
      by x q y l v before a (inl c) =
          subst (λ r. AreRows means (defs f y) r) (append_assoc before (rows x) (more x) ∙ ap (λ r. before ++ r) (sym c.2))
          (n.own x c.1 y (later y l) v (before ++ rows x) (m.own x c.0 y l v before a))
      by x q y l v before a (inr (inl c)) =
          subst (λ r. AreRows means (defs f y) (before ++ r)) (sym c.2)
          (subst (λ ds. AreRows means ds (before ++ rows x)) (sym (n.kept y (later y l) (none_after x y q v c.1))) (m.own x c.0 y l v before a))
      by x q y l v before a (inr (inr c)) =
          subst (λ r. AreRows means (defs f y) (before ++ r)) (sym c.2)
          (n.own x c.1 y (later y l) v before (subst (λ ds. AreRows means ds before) (sym (m.kept y l (none_before x y q v c.0))) a))

      new : (y : ℕ) → next d ≤ y → y < next f → (y < next e) ⊎ (next e ≤ y) → IsDone F means f y
      new y l u (inl q) =
          subst (λ ds. StandFor means ds (means y) (F (means y)))
          (sym (n.kept y q (λ x r v. absurd (let t : y < next d = there x y (second x r) v in omega (arith, t))))) (m.done y l q)
      new y l u (inr q) = n.done y q u

  -- ---- names that take values

  -- a name takes the value of another
  pub bound : (at : Site) (w : When) (x : List ℕ) (source : Option ℕ) (a : FlatName) (d : Sketch) → IsBounded d → IsFlagged means d.flag ck rs → IsAt means at w rs → IsNamed means source a → ((y : ℕ) → (see x).value ≡ Some y → y < next d)
      → EqnsMade F means see (λ z. bytes_eq x z) (λ z. copies w rs a ∷ []) d (bind at (see x).value source d) ck rs
  bound at w x source a d b f i n there = by (see x).value refl
    where
      named : (o : Option ℕ) (c : FlatName) → IsNamed means o c → IsArg means (atom_of o) (name c)
      named None c h = (refl, h)
      named (Some v) c h = h

      by : (o : Option ℕ) → (see x).value ≡ o → EqnsMade F means see (λ z. bytes_eq x z) (λ z. copies w rs a ∷ []) d (bind at o source d) ck rs
      by None e =
          record {
            grown = omega arith;
            kept = λ y l no. refl;
            own = λ z q y l v before r. absurd (let s : x ≡ z = (bytes_eq-Decides x z).0 q in let no : None ≡ Some y = sym e ∙ ap (λ u. (see u).value) s ∙ v in cc);
            done = λ y l u. absurd (omega arith);
            bounded = b;
            flag = f;
          }
      by (Some t) e =
          let eqn : FlatEqn = record { targets = t ∷ []; clock = at.clock; right = copy_of (atom_of source); restart = at.restart; at = 0 } in
          record {
            grown = omega arith;
            kept = λ y l no. defs-same F means at t (copy_of (atom_of source)) d y (λ q. no x ((bytes_eq-Decides x x).1 refl) (e ∙ ap Some q));
            own = λ z q y l v before r.
                let s : x ≡ z = (bytes_eq-Decides x z).0 q in
                let u : Some t ≡ Some y = sym e ∙ ap (λ u. (see u).value) s ∙ v in
                let w' : t ≡ y = cc in
                subst (λ y. AreRows means (defs (with_eqn at (t ∷ []) (copy_of (atom_of source)) d) y) (before ++ copies w rs a ∷ [])) w'
                (subst (λ ds. AreRows means ds (before ++ copies w rs a ∷ [])) (sym (defs-new F means at t (copy_of (atom_of source)) d))
                (rows-more F means (defs d t) before (eqn, 0) (copies w rs a) (subst (λ y. AreRows means (defs d y) before) (sym w') r)
                (record { clock = i.clock; restart = i.restart; right = (refl, (named source a n, tt)) })));
            done = λ y l u. absurd (omega arith);
            bounded = λ y l. defs-same F means at t (copy_of (atom_of source)) d y (λ q. absurd (let g : t < next d = there t e in omega (arith, g))) ∙ b y l;
            flag = f;
          }
