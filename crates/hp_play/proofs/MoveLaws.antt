-- Moves of a lost game: one is there in each state from which a violation is forced, and it leads to such a state, or violates the duty.
use Rattle.std.proofs.Common.{◌≡◌, ◌↔◌, inl, inr, ℕ, zero, suc, ◌+◌, ◌≤◌, Bool, true, false, not, ◌&&◌, IsTrue, IsFalse, List, ◌++◌, length, refl, sym, ap, subst, ◌∙◌, arith, true≢false}
use Rattle.std.proofs.lemmas.Bool.{and_parts, and_from}
use Rattle.hp_boolx.specs.Game.{Game, IsForm, IsState, Forced, ValidChoice, joined, bad, forced, loses, valid_choice, valid_early}
use Rattle.hp_boolx.specs.Search.{Bits, Set, every_of}
use Rattle.hp_boolx.specs.Solved.{IsLose}
use Rattle.hp_boolx.proofs.GameLaws.{Tells, bad-from, bad-parts, choice-from, early-found, early-from, forced-told, loses-told}
use Rattle.hp_boolx.proofs.SolvedLaws.{left-choice, permitted-told}
use Rattle.hp_synth.specs.Valued.{Valued, read, states, earlies, controls, lates, all, total, early_from, control_from, late_from}
use Rattle.hp_synth.proofs.Ranges.{put, put-outside, put-read, read-len, read-parts, read-same}
use Rattle.hp_play.specs.Fields.{Exactly, IsMove, IsSlow, Leads}
use Rattle.hp_play.specs.Plays.{IsInstant, LosesIn, early_in, state_in}
use Rattle.hp_play.proofs.PlayLaws.{loses-read, state-read}

false_by : (b : Bool) → (IsTrue b → ⊥) → IsFalse b
false_by true h = absurd (h refl)
false_by false h = refl

-- ---- in the words of the game

module _ (g : Game) where
  -- the initial state of a lost game
  pub exact-first : (sets : List Set) → IsLose g sets → (n : ℕ) → n ≡ length sets → Exactly g n g.init
  exact-first sets l zero e = subst (λ n. Forced g n g.init) (sym e) l.init
  exact-first sets l (suc n) e = (subst (λ k. Forced g k g.init) (sym e) l.init, λ f. let least : length sets ≤ n = l.least n f in absurd (omega (arith, e, least)))

  pub exact-forced : (n : ℕ) (r : Bits) → Exactly g n r → Forced g n r
  exact-forced zero r h = h
  exact-forced (suc n) r h = h.0

  -- a move leads to a state in which fewer instants are left, or the duty fails
  pub move-leads : (n : ℕ) (r u c w : Bits) → IsMove g n r u c w → Leads g n (joined r u c w)
  move-leads zero r u c w m = elim m.comes [ inl e ↦ e | inr f ↦ absurd f ]
  move-leads (suc n) r u c w m =
      let s = m.slow w m.late m.hyp in
      (s.0, elim m.comes [ inl e ↦ absurd (true≢false (sym s.0 ∙ e)) | inr f ↦ (f, s.1) ])

  module _ (form : IsForm g) where
    out_of : (n : ℕ) (r : Bits) → IsState g r → IsFalse (forced g n r) ↔ (Forced g n r → ⊥)
    out_of n r s = (
      λ e f. true≢false (sym ((forced-told g form n r s).1 f) ∙ e),
      λ none. false_by (forced g n r) (λ h. none ((forced-told g form n r s).0 h)),
    )

    -- there is one
    abbrev SomeMove : ℕ → Bits → Type 0
    SomeMove n r = (u c w : Bits) × IsMove g n r u c w

    pub move-there : (n : ℕ) (r : Bits) → IsState g r → Exactly g (suc n) r → SomeMove n r
    move-there zero r s e =
        let u = e.0.0 in
        let choice = e.0.1.1 in
        let a = e.0.2 choice.0 choice.1 in
        (u, choice.0, a.0, record { loses = (e.0.1, e.0.2); choice = choice.1; late = a.1; hyp = a.2; comes = a.3; slow = tt })
    move-there (suc n) r s e =
        let u = e.0.0 in
        let left = left-choice g form (forced g n) r u ((out_of (suc n) r s).1 e.1) e.0.1 in
        let p = (permitted-told g form (forced g n) (λ q. Forced g n q → ⊥) (out_of n) r u left.0 left.1).0 left.2 in
        let a = e.0.2 left.0 p.0 in
        (u, left.0, a.0, record { loses = (e.0.1, e.0.2); choice = p.0; late = a.1; hyp = a.2; comes = a.3; slow = p.1 })

    -- ---- as functions

    pub forces-is : (n : ℕ) (X : Set) → Tells g X (Forced g n) → (r u : Bits) → length u ≡ g.early → IsTrue (valid_early g r u && loses g X r u) ↔ LosesIn g n r u
    forces-is n X t r u e = (
      λ h. let b = and_parts (valid_early g r u) (loses g X r u) h in (early-found g r u e b.0, (loses-told g form X (Forced g n) t r u).0 b.1),
      λ l. and_from (valid_early g r u) (loses g X r u) (early-from g r u l.0) ((loses-told g form X (Forced g n) t r u).1 l.1),
    )

    tells-not : (n : ℕ) (X : Set) → Tells g X (Forced g n) → (r : Bits) → IsState g r → IsFalse (X r) ↔ (Forced g n r → ⊥)
    tells-not n X t r s = (λ e f. true≢false (sym ((t r s).1 f) ∙ e), λ none. false_by (X r) (λ h. none ((t r s).0 h)))

    slow-is : (n : ℕ) (Y : Set) → Tells g Y (Forced g n) → (r u c : Bits) → ValidChoice g r u c → IsTrue (every_of g.late (λ w. not (bad g Y (joined r u c w)))) ↔ IsSlow g (suc n) r u c
    slow-is n Y t r u c v =
        let told = permitted-told g form Y (λ q. Forced g n q → ⊥) (tells-not n Y t) r u c v.0 in (
          λ h. (told.0 (and_from (valid_choice g r u c) _ (choice-from g r u c v) h)).1,
          λ s. (and_parts (valid_choice g r u c) _ (told.1 (v, s))).1,
        )

    abbrev pub HasLengths : Bits → Bits → Bits → Type 0
    HasLengths u c w = (length u ≡ g.early) × (length c ≡ g.control) × (length w ≡ g.late)

    -- the valuation of a move, with no instant left
    last-move-is : (X : Set) → Tells g X (Forced g 0) → (r u c w : Bits) → HasLengths u c w → IsTrue ((valid_early g r u && loses g X r u) && bad g X (joined r u c w)) ↔ IsMove g 0 r u c w
    last-move-is X t r u c w e =
        let forces = forces-is 0 X t r u e.0 in (
          λ h.
              let a = and_parts (valid_early g r u && loses g X r u) (bad g X (joined r u c w)) h in
              let b = bad-parts g form X (Forced g 0) t (joined r u c w) a.1 in
              record { loses = forces.0 a.0; choice = (e.1, (w, (e.2, b.0))); late = (e.2, b.0); hyp = b.1; comes = b.2; slow = tt },
          λ m. and_from (valid_early g r u && loses g X r u) (bad g X (joined r u c w)) (forces.1 m.loses) (bad-from g form X (Forced g 0) t (joined r u c w) m.late.1 m.hyp m.comes),
        )

    -- and with some
    move-is : (n : ℕ) (X Y : Set) → Tells g X (Forced g (suc n)) → Tells g Y (Forced g n) → (r u c w : Bits) → HasLengths u c w
        → IsTrue (((valid_early g r u && loses g X r u) && bad g X (joined r u c w)) && every_of g.late (λ w. not (bad g Y (joined r u c w)))) ↔ IsMove g (suc n) r u c w
    move-is n X Y t s r u c w e =
        let forces = forces-is (suc n) X t r u e.0 in
        let first = (valid_early g r u && loses g X r u) && bad g X (joined r u c w) in
        let slow = every_of g.late (λ w. not (bad g Y (joined r u c w))) in (
          λ h.
              let q = and_parts first slow h in
              let a = and_parts (valid_early g r u && loses g X r u) (bad g X (joined r u c w)) q.0 in
              let b = bad-parts g form X (Forced g (suc n)) t (joined r u c w) a.1 in
              let choice : ValidChoice g r u c = (e.1, (w, (e.2, b.0))) in
              record { loses = forces.0 a.0; choice = choice; late = (e.2, b.0); hyp = b.1; comes = b.2; slow = (slow-is n Y s r u c choice).0 q.1 },
          λ m.
              and_from first slow
              (and_from (valid_early g r u && loses g X r u) (bad g X (joined r u c w)) (forces.1 m.loses) (bad-from g form X (Forced g (suc n)) t (joined r u c w) m.late.1 m.hyp m.comes))
              ((slow-is n Y s r u c m.choice).1 m.slow),
        )

    -- the same, by the number of instants that are left
    pub last-told : (n : ℕ) → n ≡ 0 → (X : Set) → Tells g X (Forced g n) → (r u c w : Bits) → HasLengths u c w → IsTrue ((valid_early g r u && loses g X r u) && bad g X (joined r u c w)) ↔ IsMove g n r u c w
    last-told zero z X t r u c w e = last-move-is X t r u c w e
    last-told (suc n) z X t r u c w e = absurd (omega (arith, z))

    pub more-told : (n k : ℕ) → n ≡ suc k → (X Y : Set) → Tells g X (Forced g n) → Tells g Y (Forced g k) → (r u c w : Bits) → HasLengths u c w
        → IsTrue (((valid_early g r u && loses g X r u) && bad g X (joined r u c w)) && every_of g.late (λ w. not (bad g Y (joined r u c w)))) ↔ IsMove g n r u c w
    more-told zero k z X Y t s r u c w e = absurd (omega (arith, z))
    more-told (suc n) k z X Y t s r u c w e = let same : k ≡ n = omega (arith, z) in move-is n X Y t (subst (λ m. Tells g Y (Forced g m)) same s) r u c w e

-- ---- valuations

module _ (g : Game) where
  -- the valuation of all variables
  pub all-read : (n : ℕ) → n ≡ total g → (v : Valued) → read 0 n v ≡ all g v
  all-read n e v =
      read-parts 0 g.registers (g.early + (g.control + g.late)) n v (e ∙ omega arith)
      ∙ ap (λ q. states g v ++ q)
      (ap (λ k. read k (g.early + (g.control + g.late)) v) (let z : 0 + g.registers ≡ g.registers = omega arith in z)
      ∙ read-parts g.registers g.early (g.control + g.late) (g.early + (g.control + g.late)) v refl
      ∙ ap (λ q. earlies g v ++ q) (read-parts (g.registers + g.early) g.control g.late (g.control + g.late) v refl))

  module _ (r u c w : Bits) where
    -- one of these values
    abbrev pub valued : Valued
    valued = put 0 r (put (early_from g) u (put (control_from g) c (put (late_from g) w (λ y. false))))

    pub states-valued : length r ≡ g.registers → states g valued ≡ r
    states-valued e = ap (λ n. read 0 n valued) (sym e) ∙ put-read 0 r _

    pub earlies-valued : length r ≡ g.registers → length u ≡ g.early → earlies g valued ≡ u
    earlies-valued e f =
        let v = put (early_from g) u (put (control_from g) c (put (late_from g) w (λ y. false))) in
        read-same (early_from g) g.early valued v (λ y l k. put-outside 0 r v y (inr (omega (arith, e, l)))) ∙ ap (λ n. read (early_from g) n v) (sym f) ∙ put-read (early_from g) u _

    pub controls-valued : length r ≡ g.registers → length u ≡ g.early → length c ≡ g.control → controls g valued ≡ c
    controls-valued e f h =
        let q = put (control_from g) c (put (late_from g) w (λ y. false)) in
        let v = put (early_from g) u q in
        read-same (control_from g) g.control valued q (λ y l k. put-outside 0 r v y (inr (omega (arith, e, l))) ∙ put-outside (early_from g) u q y (inr (omega (arith, f, l))))
        ∙ ap (λ n. read (control_from g) n q) (sym h) ∙ put-read (control_from g) c _

    pub lates-valued : length r ≡ g.registers → length u ≡ g.early → length c ≡ g.control → length w ≡ g.late → lates g valued ≡ w
    lates-valued e f h i =
        let p = put (late_from g) w (λ y. false) in
        let q = put (control_from g) c p in
        let v = put (early_from g) u q in
        read-same (late_from g) g.late valued p (λ y l k. put-outside 0 r v y (inr (omega (arith, e, l))) ∙ put-outside (early_from g) u q y (inr (omega (arith, f, l))) ∙ put-outside (control_from g) c p y (inr (omega (arith, h, l))))
        ∙ ap (λ n. read (late_from g) n p) (sym i) ∙ put-read (late_from g) w _

  -- a move of a valuation
  abbrev pub MoveAt : ℕ → Valued → Type 0
  MoveAt n v = IsMove g n (states g v) (earlies g v) (controls g v) (lates g v)

  pub moves-valued : (n : ℕ) (r u c w : Bits) → length r ≡ g.registers → IsMove g n r u c w → MoveAt n (valued r u c w)
  moves-valued n r u c w e m =
      let f = m.loses.0.0 in
      let h = m.choice.0 in
      let i = m.late.0 in
      subst (λ z. IsMove g n z (earlies g (valued r u c w)) (controls g (valued r u c w)) (lates g (valued r u c w))) (sym (states-valued r u c w e))
      (subst (λ z. IsMove g n r z (controls g (valued r u c w)) (lates g (valued r u c w))) (sym (earlies-valued r u c w e f))
      (subst (λ z. IsMove g n r u z (lates g (valued r u c w))) (sym (controls-valued r u c w e f h)) (subst (λ z. IsMove g n r u c z) (sym (lates-valued r u c w e f h i)) m)))

  -- the values of a move are those of an instant
  module _ (n : ℕ) (e : n ≡ total g) (left : ℕ) (v : Valued) (m : MoveAt left v) (values : Bits) (is : values ≡ read 0 n v) where
    abbrev at : values ≡ all g v
    at = is ∙ all-read n e v

    pub move-instant : (r : Bits) → states g v ≡ r → IsInstant g r values
    move-instant r s = record {
      many = ap (λ q. length q) is ∙ read-len 0 n v ∙ e;
      state = ap (state_in g) is ∙ state-read g v n e ∙ s;
      valid = ap g.valid at ∙ m.late.1;
      hyp = ap g.hyp at ∙ m.hyp;
    }

    pub move-loses : LosesIn g left (state_in g values) (early_in g values)
    move-loses = subst (λ (x : Bits). LosesIn g left (state_in g x) (early_in g x)) (sym is) (loses-read g v n e left m.loses)

    pub move-on : Leads g left values
    move-on = subst (Leads g left) (sym at) (move-leads g left (states g v) (earlies g v) (controls g v) (lates g v) m)
